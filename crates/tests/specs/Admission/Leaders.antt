-- Leaders: the code addresses at which blocks begin (this project's profile).
use Rattle.std.specs.Prelude.{◌≡◌, ℕ, ◌+◌, ◌*◌, ◌%◌, Bool, true, false, Some, is_some}
use Rattle.rv_isa.specs.declared.class.Class.TheVariants as class
use Rattle.tests.specs.declared.options.Options.{Options}
use Rattle.tests.specs.declared.options.Entries.TheVariants as entries
use Rattle.machine.specs.Step.{class_of, Class, Ins, target}
use Rattle.tests.specs.Admission.Terms.{is_named_in}
use Rattle.tests.specs.Admission.CodeWords.{ElfFile, is_code, instruction_at}
use Rattle.tests.specs.Admission.Reached.{IsReached}

-- JAL and branches, whose target is known
abbrev pub has_target : Class → Bool
has_target class.Jump = true
has_target class.Branch = true
has_target _ = false

-- the ends of blocks: branches, JAL, JALR, ECALL and the zero word
abbrev pub is_end : Class → Bool
is_end class.Branch = true
is_end class.Jump = true
is_end class.JumpReg = true
is_end class.End = true
is_end class.Illegal = true
is_end _ = false

-- JALR
abbrev pub is_indirect : Class → Bool
is_indirect class.JumpReg = true
is_indirect _ = false

-- at a code address stands an instruction of such a class
pub record HasInstruction (f : ElfFile) (of : Class → Bool) (a : ℕ) : Type 0 where
  pub instruction : Ins
  pub stands : instruction_at f a ≡ Some instruction
  pub class : of (class_of instruction.kind) ≡ true

-- some code word is a JALR
abbrev pub HasIndirect : ElfFile → Type 0
HasIndirect f = (a : ℕ) × HasInstruction f is_indirect a

-- what makes an address the first of a block
pub data Begins (f : ElfFile) (o : Options) (a : ℕ) : Type 0 where
  -- the entry point
  Entry : a ≡ f.entry → Begins f o a
  -- the target of a JAL or a branch
  Target : (i : ℕ) (s : HasInstruction f has_target i) → a ≡ target s.instruction i → Begins f o a
  -- the address after an end
  After : (i : ℕ) → HasInstruction f is_end i → a ≡ i + 4 → Begins f o a
  -- a symbol or a relocation names it
  Named : is_named_in f a ≡ true → Begins f o a
  -- a JALR may lead to it, where only such addresses have entries
  Reached : o.entries ≡ entries.Reached → HasIndirect f → IsReached f o a → Begins f o a
  -- in the lean form: each multiple of as many words as a piece may have
  Even : is_some o.lean ≡ true → a % (4 * o.inst_max) ≡ 0 → Begins f o a

-- a leader
pub record IsLeader (f : ElfFile) (o : Options) (a : ℕ) : Type 0 where
  pub code : is_code f a ≡ true
  pub begins : Begins f o a
