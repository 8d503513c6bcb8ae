-- The texts of `help` and `version`, which the code holds.
use Rattle.std.specs.Prelude.{ℕ, List}
use Rattle.qed_words.specs.declared.orders.Command.TheVariants as command
use Rattle.qed_words.specs.declared.orders.Topic.{Topic}
use Rattle.qed_words.specs.declared.orders.Topic.TheVariants as topic
use Rattle.report.specs.declared.help.TheConstants.{HELP, TRANSFORM, PLAN, EXPLAIN, RUN, CAMPAIGN, GEN, LIST, ASM, HARTS, VERSION}

abbrev pub help_text : Topic → List ℕ
help_text topic.All = HELP.now
help_text topic.Version = VERSION.now
help_text (topic.One command.Transform) = TRANSFORM.now
help_text (topic.One command.Plan) = PLAN.now
help_text (topic.One command.Explain) = EXPLAIN.now
help_text (topic.One command.Run) = RUN.now
help_text (topic.One command.Campaign) = CAMPAIGN.now
help_text (topic.One command.Gen) = GEN.now
help_text (topic.One command.List) = LIST.now
help_text (topic.One command.Asm) = ASM.now
help_text (topic.One command.Harts) = HARTS.now
help_text (topic.One command.Help) = HELP.now
help_text (topic.One command.Version) = HELP.now
