-- Where blocks begin, by lists of words, symbols and relocations, and by reached addresses.
use Rattle.std.specs.Prelude.{ℕ, ◌+◌, ◌*◌, ◌%◌, ◌^◌, ◌==◌, ◌&&◌, ◌||◌, Bool, true, false, if◌then◌else◌, nat_lt, is_some, List, [], ◌∷◌}
use Rattle.std.specs.List.{list_any}
use Rattle.elf_types.specs.declared.file.Symbol.{Symbol}
use Rattle.elf_types.specs.declared.file.Rela.{Rela}
use Rattle.tests.specs.declared.options.Options.{Options}
use Rattle.tests.specs.declared.options.Entries.{Entries}
use Rattle.tests.specs.declared.options.Entries.TheVariants as entries
use Rattle.tests.specs.declared.test.CodeWord.{CodeWord}
use Rattle.tests.specs.declared.test.Test.{Test}
use Rattle.machine.specs.Step.{target, class_of}
use Rattle.tests.specs.Admission.Leaders.{has_target, is_end, is_indirect}
use Rattle.tests.specs.Admission.Reached.{is_reached}
use Rattle.tests.specs.Admission.Terms.{is_named, is_relocated, ElfFile}
use Rattle.flow_recovery.specs.Sets.{not_below, is_first}

-- the address is the target of the word
abbrev pub targets : CodeWord → ℕ → Bool
targets c a = has_target (class_of c.ins.kind) && (target c.ins c.at == a)

-- the word ends a block, and the address, below 2^64, is the one behind it
abbrev pub ends_before : CodeWord → ℕ → Bool
ends_before c a = is_end (class_of c.ins.kind) && (nat_lt a (2 ^ 64) && (c.at + 4 == a))

-- in the lean form: the address is the word's, and a multiple of the most bytes that a piece has
abbrev pub is_even : Options → CodeWord → ℕ → Bool
is_even o c a = is_some o.lean && ((c.at % (4 * o.inst_max) == 0) && (c.at == a))

-- a block begins at the address by any of these
abbrev pub begins_by : Options → CodeWord → ℕ → Bool
begins_by o c a = targets c a || (ends_before c a || is_even o c a)

-- the address is the entry, or a word, a symbol or a relocation names it
abbrev pub is_begun : Options → ℕ → List CodeWord → List Symbol → List Rela → ℕ → Bool
is_begun o entry words symbols relas a = (entry == a) || (list_any (λ c. begins_by o c a) words || (is_named symbols a || is_relocated symbols relas a))

-- besides other leaders, only reached addresses have entries
abbrev pub is_chosen : Entries → Bool
is_chosen entries.All = false
is_chosen entries.Reached = true

-- the address is an entry since it is reached, and some word is a JALR
abbrev pub is_entered : ElfFile → Options → Test → ℕ → Bool
is_entered f o t a = is_chosen o.entries && (list_any (λ c. is_indirect (class_of c.ins.kind)) t.code && is_reached f t a)

-- of ascending addresses, those at which words stand
abbrev pub of_code : List ℕ → List CodeWord → List ℕ
of_code named [] = []
of_code named (c ∷ cs) = if is_first c.at (not_below c.at named) then c.at ∷ of_code (not_below c.at named) cs else of_code (not_below c.at named) cs
