-- How the body of a block is divided: into runs, and each run into pieces (this project's profile).
use Rattle.std.specs.Prelude.{◌≡◌, ℕ, ◌+◌, ◌-◌, ◌/◌, ◌%◌, ◌≤◌, Bool, true, false, not, ◌&&◌, ◌||◌, List, [], ◌∷◌, ◌++◌, length, take, drop, replicate, flat_map}
use Rattle.rv_isa.specs.declared.ins.Ins.{Ins}
use Rattle.rv_isa.specs.declared.class.Class.{Class}
use Rattle.rv_isa.specs.Kind.{class_of}
use Rattle.rv_isa.specs.Ins.{writes}
use Rattle.rv_isa.specs.declared.class.Class.TheVariants as class
use Rattle.machine.specs.Numbers.{is_at}

-- ---- runs
-- the base of a load or store and a stored register are not among the registers that were written
abbrev pub is_clean_as : Class → (ℕ → Bool) → Ins → Bool
is_clean_as class.Load written i = not (written i.rs1)
is_clean_as class.Store written i = not (written i.rs1) && not (written i.rs2)
is_clean_as _ written i = true

abbrev pub is_clean : (ℕ → Bool) → Ins → Bool
is_clean written i = is_clean_as (class_of i.kind) written i

-- the registers that were written, and that of an instruction; x0 is never written
abbrev pub and_written : Ins → (ℕ → Bool) → ℕ → Bool
and_written i written r = written r || is_at (writes i) r

-- each instruction is clean behind those before it
abbrev pub is_run_after : (ℕ → Bool) → List Ins → Bool
is_run_after written [] = true
is_run_after written (i ∷ is) = is_clean written i && is_run_after (and_written i written) is

abbrev pub is_run : List Ins → Bool
is_run is = is_run_after (λ r. false) is

-- with the first instruction behind it the run would be none
abbrev pub Breaks : List Ins → List (List Ins) → Type 0
Breaks run [] = Unit {0}
Breaks run ([] ∷ runs) = ⊥
Breaks run ((i ∷ is) ∷ runs) = is_run (run ++ i ∷ []) ≡ false

-- runs one behind the other, each as long as it can be
abbrev pub AreRuns : List (List Ins) → Type 0
AreRuns [] = Unit {0}
AreRuns (run ∷ runs) = (1 ≤ length run) × (is_run run ≡ true) × Breaks run runs × AreRuns runs

-- ---- pieces
-- the fewest pieces of at most `most` instructions that n instructions make up
abbrev pub piece_count : ℕ → ℕ → ℕ
piece_count most n = (n + most - 1) / most

-- lengths that add up to n and differ by 1 at most, the longer ones first
abbrev pub even_lengths : ℕ → ℕ → List ℕ
even_lengths count n = replicate (n % count) (n / count + 1) ++ replicate (count - n % count) (n / count)

-- the lengths of the pieces of a run of n instructions
abbrev pub run_lengths : ℕ → ℕ → List ℕ
run_lengths most n = even_lengths (piece_count most n) n

-- instructions divided into lists of these lengths
abbrev pub divided : List ℕ → List Ins → List (List Ins)
divided [] is = []
divided (n ∷ ns) is = take n is ∷ divided ns (drop n is)

-- the pieces of a run
abbrev pub run_pieces : ℕ → List Ins → List (List Ins)
run_pieces most run = divided (run_lengths most (length run)) run

-- the pieces of runs; where there is none, one that is empty
abbrev pub all_pieces : ℕ → List (List Ins) → List (List Ins)
all_pieces most [] = [] ∷ []
all_pieces most (run ∷ runs) = flat_map (run_pieces most) (run ∷ runs)

-- lists end to end
abbrev pub whole : List (List Ins) → List Ins
whole lists = flat_map (λ is. is) lists

-- these are the pieces of a body
pub record ArePieces (most : ℕ) (body : List Ins) (pieces : List (List Ins)) : Type 0 where
  pub runs : List (List Ins)
  pub body_is : whole runs ≡ body
  pub longest : AreRuns runs
  pub pieces_are : pieces ≡ all_pieces most runs
