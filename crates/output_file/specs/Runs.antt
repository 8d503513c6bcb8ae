-- A data range as one segment, made of the segments in it, one behind the other.
use Rattle.std.specs.Prelude.{ℕ, ◌-◌, Bool, nat_lt, List, filter, map, length}
use Rattle.tests.specs.Admission.DataRanges.{is_in, Segment}
use Rattle.qed_model.specs.Weave.OutputFile.{range_flags}
use Rattle.output_file.specs.Laid.{laid}

-- the segments that begin in a range
abbrev pub run_of : List Segment → ℕ × ℕ → List Segment
run_of ss r = filter (λ s. is_in r s.address) ss

abbrev pub has_bytes : Segment → Bool
has_bytes s = nat_lt 0 (length s.bytes)

-- the bytes of a segment in the file, with their place
abbrev pub placed_bytes : Segment → ℕ × List ℕ
placed_bytes s = (s.address, s.bytes)

-- the bytes of segments in the file, with zeros between them
abbrev pub run_bytes : ℕ → List Segment → List ℕ
run_bytes start ss = laid start 0 (map placed_bytes (filter has_bytes ss))

-- the segments of a range as one segment
abbrev pub run_segment : List Segment → ℕ × ℕ → Segment
run_segment ss r = record { kind = 1; flags = range_flags (run_of ss r); address = r.0; memory = r.1 - r.0; bytes = run_bytes r.0 (run_of ss r) }
