-- Facts on the code in the form that is taken, for each test that it is made of.
use Rattle.std.proofs.Common.{◌≡◌, Bool, List, map}
use Rattle.std.specs.Prelude.{Result, Ok, Err, IfOk, IfErr}
use Rattle.elf_types.specs.declared.file.ElfFile.{ElfFile}
use Rattle.tests.specs.declared.options.Options.{Options}
use Rattle.tests.specs.declared.test.Test.{Test}
use Rattle.qed_model.specs.Weave.Parts.{parts}
use Rattle.qed_model.specs.Weave.Woven.{is_far_code, compared}
use Rattle.block_split.specs.declared.block.CodeBlock.{CodeBlock}
use Rattle.block_split.specs.Listed.{block_of}
use Rattle.relinker.specs.declared.error.LinkError.{LinkError}
use Rattle.weave.specs.declared.code.Woven.{Woven}
use Rattle.relinker.specs.Laid.{IsLinked, HasLinkCause}
use Rattle.relinker.specs.Link.{IsWithinForm}
use Rattle.plc_rounds.specs.Spans.{spans_of}
use Rattle.weave.specs.declared.weaver.Weaver.{Weaver}
use Rattle.weave.specs.Form.{form, form_with, kind}
use Rattle.weave.specs.Code.{items_of, code_begin, IsCut, IsWoven, HasCodeCause}
use Rattle.weave.proofs.Forms.{code_of, cause}

module _ (o : Options) (t : Test) (blocks : List CodeBlock) (far : Bool) (taken : (f : ElfFile) → IsCut f o t blocks → is_far_code f o (map block_of blocks) ≡ far) where
  pub code_result :
      (r : Result (Woven Weaver) LinkError) → IfOk r (λ made. form made.weaver ≡ form_with (spans_of t.span) o far) → IfOk r (λ _. IsWithinForm far (items_of t o far blocks))
      → IfOk r (λ made. IsLinked far (code_begin t) (items_of t o far blocks) made.linked)
      → IfOk r (λ made. (f : ElfFile) → IsCut f o t blocks → IsWoven (compared f o (map block_of blocks)) f o t blocks (kind made.weaver) (parts (form made.weaver)) (λ b. Unit {0}) made.linked)
  code_result (Ok made) same h l = λ f cut. code_of f o t blocks cut far made.weaver made.linked same (taken f cut) h l
  code_result (Err e) same h l = tt

  pub code_error :
      (r : Result (Woven Weaver) LinkError) → IfErr r (HasLinkCause far (items_of t o far blocks)) → IfErr r (λ e. (f : ElfFile) → IsCut f o t blocks → HasCodeCause (compared f o (map block_of blocks)) e)
  code_error (Ok made) c = tt
  code_error (Err e) c = λ f cut. cause f o t blocks cut far e (taken f cut) c
