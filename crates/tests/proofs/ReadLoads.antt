-- The PT_LOAD segments of a file that was read: they fit into memory, no two share a byte, and their bytes are bytes.
use Rattle.std.proofs.Common.{◌≡◌, ℕ, ◌<◌, List, sym, ap, subst}
use Rattle.std.specs.Prelude.{slice_index}
use Rattle.tests.specs.Files.File.{File}
use Rattle.machine.specs.Program.{LoadSegment}
use Rattle.machine.specs.Loading.{load_segments, ElfFile}
use Rattle.tests.specs.Elf.Sound.{AreBytes, AreLoads, IsSound}
use Rattle.machine.proofs.Lemmas.{all_among, alone, fit_among}
use Rattle.tests.proofs.ImageLaws.{load_source}
use Rattle.tests.proofs.ReadFacts.{read_facts}
use Rattle.tests.proofs.LoadsApart.{file_fits, file_apart, read_apart}

module _ (file : List ℕ) (f : ElfFile) (bytes : AreBytes file) (read : File file f) where
  abbrev loads : List LoadSegment
  loads = load_segments f.segments

  read_loads : AreLoads loads
  read_loads = record {
    sized = λ l m. (fit_among l loads (file_fits file f read) m).0;
    fit = λ l m. (fit_among l loads (file_fits file f read) m).1;
    alone = alone loads (file_apart file f read);
    bytes = λ l m k.
        let o = load_source f.segments l m in
        let is : l.bytes ≡ o.segment.bytes = ap (λ x. x.bytes) o.is in
        subst (λ x. slice_index x k < 256) (sym is) ((all_among (λ s. AreBytes s.bytes) o.segment f.segments (read_facts file f bytes read).bytes o.among).fit k);
  }

pub read_sound : (file : List ℕ) (f : ElfFile) → ((k : ℕ) → slice_index file k < 256) → File file f → IsSound f
read_sound file f fit read = let bytes : AreBytes file = record { fit = fit } in record { loads = read_loads file f bytes read; apart = read_apart file f read; read = read_facts file f bytes read }
