-- The lengths of the pieces of a body.
use Rattle.std.specs.Prelude.{◌≡◌, ℕ, ◌+◌, ◌<◌, ◌≤◌, Bool, true, false, List, [], ◌∷◌, length, take, flat_map, map, sum}
use Rattle.rv_isa.specs.declared.ins.Ins.{Ins}
use Rattle.qed_model.specs.Weave.Pieces.{is_run, and_written, AreRuns, run_lengths, divided, whole, ArePieces}

-- the registers written by these instructions or before them
abbrev pub written_after : (ℕ → Bool) → List Ins → ℕ → Bool
written_after written [] = written
written_after written (i ∷ is) = written_after (and_written i written) is

abbrev pub written_by : List Ins → ℕ → Bool
written_by is = written_after (λ r. false) is

-- the first n of these instructions are a run, and the run is not longer
pub record IsLongestRun (body : List Ins) (n : ℕ) : Type 0 where
  pub within : n ≤ length body
  pub run : is_run (take n body) ≡ true
  pub longest : n < length body → is_run (take (n + 1) body) ≡ false

-- runs make up a body, and their pieces have these lengths
pub record MakeUp (most : ℕ) (body : List Ins) (lengths : List ℕ) : Type 0 where
  pub runs : List (List Ins)
  pub body_is : whole runs ≡ body
  pub longest : AreRuns runs
  pub lengths_are : lengths ≡ flat_map (λ run. run_lengths most (length run)) runs

-- cut into these lengths, the body gives its pieces; the lengths are those of all pieces, and make up the body
pub record AreLengths (most : ℕ) (body : List Ins) (lengths : List ℕ) : Type 0 where
  pub pieces : ArePieces most body (divided lengths body)
  pub exact : lengths ≡ map length (divided lengths body)
  pub total : sum lengths ≡ length body
