-- What is printed about a generated test. The line ends with a newline.
use Rattle.std.specs.Prelude.{ℕ, List, ◌++◌, codes}
use Rattle.std.specs.Fmt.{decimal}
use Rattle.machine.specs.declared.outcome.Outcome.{Outcome}
use Rattle.machine.specs.declared.outcome.Outcome.TheVariants.{Going, Ended, Fired, Trapped}
use Rattle.qed_model.specs.declared.plan.Plan.{Plan}
use Rattle.machine.specs.Progress.{Progress}
use Rattle.qed_words.specs.Text.Plan.{bounds_text}

-- how a run stands, in one word
abbrev pub outcome_word : Outcome → List ℕ
outcome_word Going = codes "going"
outcome_word Ended = codes "ended"
outcome_word Fired = codes "fired"
outcome_word (Trapped c pc) = codes "trapped"

-- how a run stands, and after how many steps
abbrev pub ran_text : Outcome → ℕ → List ℕ
ran_text outcome steps = outcome_word outcome ++ (codes " after " ++ (decimal steps ++ codes " steps"))

-- the seed, the size in instructions, and the words of code
abbrev pub drawn_text : ℕ → ℕ → ℕ → List ℕ
drawn_text seed size words = codes "seed " ++ (decimal seed ++ (codes ", size " ++ (decimal size ++ (codes ", code words " ++ decimal words))))

-- what was drawn, the run of the test, its output and the run of that, and the bounds in steps
abbrev pub generated_line : ℕ → ℕ → ℕ → Progress → Plan → Progress → List ℕ
generated_line seed size words input plan output =
    drawn_text seed size words ++ (codes ", input " ++ (ran_text input.state.outcome input.steps
    ++ (codes ", output code " ++ (decimal plan.code_bytes ++ (codes " bytes, output "
    ++ (ran_text output.state.outcome output.steps ++ (codes ", " ++ (bounds_text plan.bounds.register plan.bounds.word ++ codes "\n"))))))))
