-- What is woven from a generated test, without options.
use Rattle.std.specs.Prelude.{ℕ, ◌≤◌, List}
use Rattle.elf_types.specs.declared.output.OutFile.{OutFile}
use Rattle.machine.specs.declared.limits.Limit.TheVariants as limit
use Rattle.machine.specs.Limits.{limit_of}
use Rattle.tests.specs.Options.{default_options}
use Rattle.tests.specs.Elf.FileRead.{file_read}
use Rattle.machine.specs.Loading.{loaded_file}
use Rattle.machine.specs.Program.{AreStartRegs, start}
use Rattle.qed_model.specs.Weave.Woven.{code_size, compared, IsWithin}
use Rattle.qed_model.specs.Weave.Output.{WovenFile}
use Rattle.test_gen.specs.Ends.{EndsWithin}

-- the most steps of an output: 33 before the entries, 123 for each of the largest test's 213,765 steps and for one more
abbrev pub most_output_steps : ℕ
most_output_steps = 26293251

-- the new code is within its limit
abbrev pub HasSmallCode : (bytes : List ℕ) (out : OutFile) → WovenFile bytes default_options out → Type 0
HasSmallCode bytes out w = code_size w.file default_options w.blocks ≤ limit_of limit.CodeBytes

-- if the new code is within its limit, the output is within the others, and its run ends, from any registers
pub record IsWeavable (bytes : List ℕ) : Type 0 where
  pub within :
      (out : OutFile) (w : WovenFile bytes default_options out) → HasSmallCode bytes out w
      → IsWithin (compared w.file default_options w.blocks) out
  pub ends :
      (out : OutFile) (w : WovenFile bytes default_options out) → HasSmallCode bytes out w → (regs : List ℕ) → AreStartRegs regs
      → EndsWithin (start (loaded_file (file_read out)) regs) most_output_steps
