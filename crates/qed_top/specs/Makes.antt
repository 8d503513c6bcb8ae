-- What the commands that transform their file answer.
use Rattle.std.specs.Prelude.{◌≡◌, ℕ, List, IsSomeAnd}
use Rattle.qed_model.specs.declared.plan.Plan.{Plan}
use Rattle.qed_words.specs.Text.Plan.{plan_line}
use Rattle.report.specs.Plan.{plan_text}
use Rattle.qed_top.specs.Answer.{PrintsOnly}
use Rattle.qed_top.specs.Refused.{Makes, Options, Transforms}
use Rattle.qed_top.specs.declared.answer.Answer.{Answer}
use Rattle.qed_top.specs.declared.status.Status.TheVariants.{Done}

-- an output and its plan were made, with all their promises, and the answer is what the command does with them
pub record IsMade (bytes : List ℕ) (o : Options) (Uses : List ℕ → Plan → Answer → Type 0) (answer : Answer) : Type 0 where
  pub file : List ℕ
  pub plan : Plan
  pub made : Transforms bytes o file plan
  pub uses : Uses file plan answer

-- the answer over the bytes of the file, which are within the limit
abbrev pub MakesOutput : List ℕ → Options → (List ℕ → Plan → Answer → Type 0) → Answer → Type 0
MakesOutput bytes o Uses answer = Makes bytes o (IsMade bytes o Uses answer) answer

-- `transform`: the file is stored as OUT, and the line about it is printed
pub record Delivers (output file : List ℕ) (plan : Plan) (answer : Answer) : Type 0 where
  pub status : answer.status ≡ Done
  pub stored : IsSomeAnd answer.stored (λ s. (s.name ≡ output) × (s.bytes ≡ file))
  pub text : answer.text ≡ plan_line plan

-- `plan`: the plan is printed
abbrev pub TellsPlan : List ℕ → Plan → Answer → Type 0
TellsPlan file plan answer = PrintsOnly Done (plan_text plan) answer
