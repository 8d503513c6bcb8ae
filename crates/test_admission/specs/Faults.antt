-- The rules on code words: at one word, and the first in parts of code that one is at fault.
use Rattle.std.specs.Prelude.{◌≡◌, ℕ, ◌+◌, ◌*◌, ◌/◌, ◌&&◌, ◌||◌, Bool, is_none, is_some, Option, Some, None, List, [], ◌∷◌, length, min}
use Rattle.std.specs.Option.{option_map, option_or}
use Rattle.tests.specs.declared.admit.AdmitError.{AdmitError}
use Rattle.tests.specs.declared.admit.AdmitError.TheVariants as error
use Rattle.machine.specs.Below.{first_below}
use Rattle.machine.specs.Table.{decode_of, Ins}
use Rattle.machine.specs.Step.{target}
use Rattle.machine.specs.Offsets.{distance_between}
use Rattle.tests.specs.Admission.Rules.{passes_at, high_in, is_ebreak, is_far}
use Rattle.machine.specs.Operands.{is_auipc}
use Rattle.tests.specs.Words.{word_in}
use Rattle.test_admission.specs.declared.rules.CodeRule.{CodeRule}
use Rattle.test_admission.specs.declared.rules.CodeRule.TheVariants as rule
use Rattle.test_admission.specs.Stretches.{Part}

-- the instruction of the word at an address, where it has one, is at fault by a rule
abbrev pub faults : CodeRule → ℕ → Option Ins → Bool
faults rule.Unknown a found = is_none found
faults rule.Registers a found = is_some (high_in found)
faults rule.Breakpoint a found = passes_at (λ i. is_ebreak i.kind) found
faults (rule.Constant base) a found = passes_at (λ i. is_auipc i.kind && is_far (distance_between base (target i a))) found
faults (rule.Any base) a found = is_none found || (is_some (high_in found) || (passes_at (λ i. is_ebreak i.kind) found
    || passes_at (λ i. is_auipc i.kind && is_far (distance_between base (target i a))) found))

abbrev pub is_at_fault : CodeRule → ℕ → ℕ → Bool
is_at_fault r a word = faults r a (decode_of word)

-- word k of a part is at fault
abbrev pub faults_at : CodeRule → Part → ℕ → Bool
faults_at r p k = is_at_fault r (p.start + 4 * k) (word_in p.bytes (4 * k))

-- how many words of a part have a byte in the file
abbrev pub filled : Part → ℕ
filled p = min ((length p.bytes + 3) / 4) (p.size / 4)

-- the address of word k of a part, and the word
abbrev pub placed_word : Part → ℕ → ℕ × ℕ
placed_word p k = (p.start + 4 * k, word_in p.bytes (4 * k))

-- the first word of a part that is at fault: its address and the word
abbrev pub first_in : CodeRule → Part → Option (ℕ × ℕ)
first_in r p = option_map (placed_word p) (first_below (p.size / 4) (faults_at r p))

-- the first of parts in their order
abbrev pub first_among : CodeRule → List Part → Option (ℕ × ℕ)
first_among r [] = None
first_among r (p ∷ ps) = option_or (first_in r p) (first_among r ps)

-- the error names the first word of parts that has a register above x13, and the first such register
pub record HasHigh (ps : List Part) (e : AdmitError) : Type 0 where
  pub address : ℕ
  pub word : ℕ
  pub high : ℕ
  pub is : e ≡ error.RegisterHalf address high
  pub first : first_among rule.Registers ps ≡ Some (address, word)
  pub register : high_in (decode_of word) ≡ Some high
