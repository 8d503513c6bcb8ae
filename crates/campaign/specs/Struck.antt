-- Strikes that are made one after another.
use Rattle.std.specs.Prelude.{◌≡◌, ℕ, List, [], ◌∷◌, ◌++◌, slice_get, Option, Some, None, IfSome, IsSome, Ok, Err}
use Rattle.qed_model.specs.declared.verdict.Struck.{Struck}
use Rattle.campaign.specs.declared.error.StrikeError.TheVariants.{Trapped}
use Rattle.campaign.specs.Kept.{Pair}
use Rattle.campaign.specs.Verdict.{IsVerdict, Change, Ordered, Verdict, bound_of, Bounds}

-- the steps of the changes do not fall, and they have a bound
pub record IsStrike (bounds : Bounds) (cs : List Change) : Type 0 where
  pub ordered : Ordered cs
  pub bounded : IsSome (bound_of bounds cs)

-- a verdict, if it is known, is that of a strike
abbrev pub IsKnownVerdict : Pair → List Change → Option Verdict → Type 0
IsKnownVerdict p cs known = IfSome known (λ v. IsVerdict p.input p.output p.bounds cs (Ok v))

-- the known verdicts, by the numbers of their strikes
abbrev pub AreKnown : Pair → List (List Change) → List (Option Verdict) → Type 0
AreKnown p strikes found = (k : ℕ) (cs : List Change) (known : Option Verdict)
    → slice_get strikes k ≡ Some cs → slice_get found k ≡ Some known → IsKnownVerdict p cs known

-- a strike is added with its verdict, or the input traps at a pc and nothing is added
abbrev pub IsStruckNext : Pair → List Change → List Struck → List Struck → Option ℕ → Type 0
IsStruckNext p cs before after None = (s : Struck) × ((after ≡ before ++ s ∷ []) × (s.changes ≡ cs) × IsVerdict p.input p.output p.bounds cs (Ok s.verdict))
IsStruckNext p cs before after (Some pc) = (after ≡ before) × IsVerdict p.input p.output p.bounds cs (Err (Trapped pc))

-- each strike with its verdict, in their order, up to the first whose input traps, and the pc of that trap
abbrev pub AreStruck : Pair → List (List Change) → List Struck → Option ℕ → Type 0
AreStruck p [] struck trapped = (struck ≡ []) × (trapped ≡ None)
AreStruck p (cs ∷ rest) [] trapped = (pc : ℕ) × (IsVerdict p.input p.output p.bounds cs (Err (Trapped pc)) × (trapped ≡ Some pc))
AreStruck p (cs ∷ rest) (s ∷ struck) trapped = (s.changes ≡ cs) × IsVerdict p.input p.output p.bounds cs (Ok s.verdict) × AreStruck p rest struck trapped
