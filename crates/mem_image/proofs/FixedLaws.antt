-- Segments that stand in a memory: what an access reads of them, and that a write leaves those that may not be written.
use Rattle.std.proofs.Common.{◌≡◌, ℕ, ◌+◌, ◌-◌, ◌^◌, ◌<◌, ◌≤◌, true, false, List, Option, Some, None, sym, ap, ◌∙◌, arith, ⊎_elim}
use Rattle.std.specs.Prelude.{slice_get, IfNone}
use Rattle.std.proofs.lemmas.Bool.{cases_lt, false≢true}
use Rattle.machine.specs.Memory.{Memory, wrap, offset, allows, grants, put, get}
use Rattle.machine.specs.Program.{LoadSegment, memory_of}
use Rattle.machine.specs.Apart.{AllFitMemory}
use Rattle.machine.specs.Cells.{has, cell_among}
use Rattle.machine.proofs.Lemmas.{grants_at, wrap_offset, get-put_outside, has_parts}
use Rattle.mem_image.specs.Access.{allowed_number}
use Rattle.mem_image.specs.Fixed.{is_code_flags, has_code, IsFixedCode}
use Rattle.mem_image.specs.Overlap.{AreImage}
use Rattle.mem_image.specs.Segments.{has_all, number_in, IsFirst}
use Rattle.mem_image.proofs.SegmentLaws.{get-memory_of}
use Rattle.mem_image.proofs.WholeLaws.{held_granted, held_number, granted_number, among_stands}

-- the word at an address
pub fixed_number : (m : Memory) (s : LoadSegment) (a : ℕ) → IsFixedCode m s → has_all s a 4 ≡ true → allowed_number (λ f. f.execute) m a 4 ≡ Some (number_in s.bytes (a - s.address) 4)
fixed_number m s a h w = sym (granted_number (λ f. f.execute) m a 4 (number_in s.bytes (a - s.address) 4) (held_granted (λ f. f.execute) m s a 4 h.stands w h.executed) (held_number m s a 4 h.stands w))

-- a cell that may not be written is none of those that are
spared : (m : Memory) (s : LoadSegment) (a n q : ℕ) → IsFixedCode m s → a < 2 ^ 64 → grants (λ f. f.write) m a n ≡ true → has s q ≡ true → n ≤ offset a q
spared m s a n q h low g w = ⊎_elim (λ l. absurd (written l)) (λ l. l) (cases_lt (offset a q) n) where
  written : offset a q < n → ⊥
  written l =
      let room = has_parts s q w in
      let end = h.stands.ends in
      let same : wrap (a + offset a q) ≡ q = wrap_offset a q low (omega arith) in
      let one : allows (λ f. f.write) (get m q) ≡ true = rw same at (grants_at (λ f. f.write) m a n (offset a q) g l) in
      false≢true (sym h.unwritten ∙ sym (ap (allows (λ f. f.write)) (h.stands.cells q w)) ∙ one)

-- a store leaves them
pub fixed_put : (m : Memory) (s : LoadSegment) (a n v : ℕ) → IsFixedCode m s → a < 2 ^ 64 → grants (λ f. f.write) m a n ≡ true → IsFixedCode (put m a n v) s
fixed_put m s a n v h low g = record {
  stands = record {
    cells = λ q w. get-put_outside m a n v q (spared m s a n q h low g w) ∙ h.stands.cells q w;
    ends = h.stands.ends;
  };
  executed = h.executed;
  unwritten = h.unwritten;
}

-- ---- no code
-- where no segment has the address, or the first that has it may not be executed or may be written
pub none_no_code : (ss : List LoadSegment) (q : ℕ) → AllFitMemory ss → cell_among ss q ≡ None → has_code (memory_of ss) q ≡ false
none_no_code ss q fit e = ap (allows is_code_flags) (get-memory_of ss q fit ∙ e)

pub first_no_code :
    (ss : List LoadSegment) (q k : ℕ) → AreImage ss → IsFirst ss q k → ((s : LoadSegment) → slice_get ss k ≡ Some s → is_code_flags s.flags ≡ false)
    → has_code (memory_of ss) q ≡ false
first_no_code ss q k sound first h =
    let s : LoadSegment = first.found.0 in
    let at : slice_get ss k ≡ Some s = first.found.1.0 in
    let inside : has s q ≡ true = first.found.1.1 in
    ap (allows is_code_flags) ((among_stands ss k s sound at).cells q inside) ∙ h s at

pub if_none : {A : Type 0} (o : Option A) (P Q : Type 0) → (P → Q) → IfNone o P → IfNone o Q
if_none None P Q f h = f h
if_none (Some x) P Q f h = tt
