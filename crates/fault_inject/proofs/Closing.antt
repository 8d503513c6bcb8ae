-- Where a register is closed, by the instructions that stand at the pc and behind it.
use Rattle.std.proofs.Common.{◌≡◌, ℕ, ◌≤◌, Bool, false, not, ◌&&◌, ◌||◌, nat_le, Some, None, refl, ap}
use Rattle.std.proofs.lemmas.Bool.{le-leb}
use Rattle.rv_isa.specs.declared.profile.TheConstants.{LAST_ORIGINAL}
use Rattle.machine.specs.Step.{Fetched, Refused, Unknown, Known, Ins, class_of}
use Rattle.qed_model.specs.Promise.Closed.{uses, uses_as, guards_other, is_checked}
use Rattle.rv_step.specs.Known.{instruction_of}

-- without an instruction no register is used
pub unused : (f : Fetched) (r : ℕ) → None ≡ instruction_of f → false ≡ uses r f
unfolding uses
unused Refused r h = refl
unused (Unknown w) r h = refl
unused (Known i) r h = absurd (cc)

-- the registers that an instruction uses
pub used : (f : Fetched) (r : ℕ) (i : Ins) → Some i ≡ instruction_of f → uses_as (class_of i.kind) r i ≡ uses r f
unfolding uses
used Refused r i h = absurd (cc)
used (Unknown w) r i h = absurd (cc)
used (Known j) r i h = let e : i ≡ j = cc in ap (λ k. uses_as (class_of k.kind) r k) e

-- without an instruction no register is guarded
pub unguarded : (f : Fetched) (r : ℕ) → None ≡ instruction_of f → false ≡ guards_other r f
unfolding guards_other
unguarded Refused r h = refl
unguarded (Unknown w) r h = refl
unguarded (Known i) r h = absurd (cc)

-- what was fetched, given the instruction
pub known : (f : Fetched) (i : Ins) → Some i ≡ instruction_of f → Known i ≡ f
known Refused i h = absurd (cc)
known (Unknown w) i h = absurd (cc)
known (Known j) i h = let e : i ≡ j = cc in ap Known e

-- whether a register is closed, by what was fetched at the pc, at the next word, and behind a guard
abbrev pub closes : ℕ → Fetched → Fetched → Fetched → Bool
closes r f n g = (nat_le 1 r && nat_le r LAST_ORIGINAL) && ((uses r f && not (is_checked f n)) || (guards_other r f && uses r g))

-- whether a register is closed, by four tests, for x1 to x13
pub closes_by :
    (r : ℕ) (f n g : Fetched) (x t y z : Bool) → 1 ≤ r → r ≤ LAST_ORIGINAL → x ≡ uses r f → t ≡ is_checked f n → y ≡ guards_other r f → z ≡ uses r g
    → ((x && not t) || (y && z)) ≡ closes r f n g
closes_by r f n g x t y z low high p c q o = rw (le-leb 1 r low, le-leb r LAST_ORIGINAL high, p, c, q, o) refl
