-- The new code of a test, and the roles of its words.
use Rattle.std.specs.Prelude.{◌≡◌, ℕ, ◌+◌, ◌*◌, ◌^◌, ◌<◌, List, length}
use Rattle.tests.specs.declared.options.Options.{Options}
use Rattle.qed_model.specs.declared.plan.Plan.{Plan}
use Rattle.tests.specs.Admission.Places.{image_of, code_place}
use Rattle.qed_model.specs.Weave.Sequences.{Block}
use Rattle.qed_model.specs.Weave.Woven.{new_code, new_roles, size_of_code}
use Rattle.qed_model.specs.Weave.Output.{HasNewCode}
use Rattle.transform.specs.declared.explained.Explained.{Explained}
use Rattle.transform.specs.Transform.{Transforms}

-- the input has an output; these are the words of its new code, the address of the first, and their roles; each address
-- is below 2^64
pub record IsExplained (input : List ℕ) (o : Options) (x : Explained) : Type 0 where
  pub output : List ℕ
  pub plan : Plan
  pub made : Transforms input o output plan
  pub blocks : List Block
  pub code : HasNewCode input o x.file blocks x.words.items
  pub base : x.base ≡ code_place o.half (image_of x.file)
  pub roles : x.roles.items ≡ new_roles x.file o blocks
  pub size : 4 * length x.words.items ≡ size_of_code (new_code x.file o blocks)
  pub fits : x.base + size_of_code (new_code x.file o blocks) < 2 ^ 64
