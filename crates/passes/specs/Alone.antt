-- What honesty of a pass means: among its words only a check leads to an EBREAK, and only if it finds a difference.
use Rattle.std.specs.Prelude.{◌≡◌, ℕ, ◌+◌, ◌*◌, ◌^◌, ◌<◌, ◌≤◌, Bool, List, length}
use Rattle.rv_isa.specs.declared.profile.TheConstants.{LAST_ORIGINAL, PAIR_DISTANCE, SIGNATURE, TEMPORARY, SPARE}
use Rattle.rv_isa.specs.declared.class.Class.TheVariants as class
use Rattle.qed_model.specs.declared.item.Item.{Item}
use Rattle.machine.specs.declared.outcome.Outcome.TheVariants.{Going}
use Rattle.machine.specs.Step.{class_of, Ins, State, reg, Fetched, Known, HasAt, step, ebreak}
use Rattle.qed_model.specs.Weave.Placed.{instructions_from}
use Rattle.machine.specs.Walks.{Over}
use Rattle.passes.specs.Honest.{VisitWords, NoBreak, EntryWords, CalmEntries, HonestItems}

-- a register and its pair differ, or a just loaded word and its duplicate, or the signature and the entry
pub data Differs (c : ℕ → Fetched) (s : State) : Type 0 where
  pair_differs : (q : ℕ) → 1 ≤ q → q ≤ LAST_ORIGINAL → (reg s q ≡ reg s (q + PAIR_DISTANCE) → ⊥) → Differs c s
  word_differs : (b : ℕ) → s.pc ≡ b + 12 → VisitWords c b → (reg s TEMPORARY ≡ reg s SPARE → ⊥) → Differs c s
  sign_differs : (b t : ℕ) → s.pc ≡ b + 8 → EntryWords c b t → (reg s SIGNATURE ≡ reg s TEMPORARY → ⊥) → Differs c s

-- a state, with any values, that goes on at word k of the items; the word is not an EBREAK, and a JALR leads to none
pub record InsideItems (far : Bool) (items : List Item) (c : ℕ → Fetched) (entry : ℕ → ℕ) (a k : ℕ) (s : State) : Type 0 where
  pub over : Over c s
  pub words : HasAt c a (instructions_from far entry a items)
  pub near : a + 4 * length (instructions_from far entry a items) + 64 < 2 ^ 64
  pub behind : NoBreak c (a + 4 * length (instructions_from far entry a items))
  pub entries : CalmEntries c entry
  pub at : s.pc ≡ a + 4 * k
  pub inside : k < length (instructions_from far entry a items)
  pub calm : NoBreak c s.pc
  pub leaps : (i : Ins) → c s.pc ≡ Known i → class_of i.kind ≡ class.JumpReg → NoBreak c (step s).pc

-- among the words of honest items, if the next step leads to an EBREAK, something differs
abbrev pub ChecksAlone : Type 0
ChecksAlone = (far : Bool) (items : List Item) → HonestItems far items → (c : ℕ → Fetched) (entry : ℕ → ℕ) (a k : ℕ) (s : State)
    → InsideItems far items c entry a k s → (step s).outcome ≡ Going → c (step s).pc ≡ ebreak → Differs c s
