use Rattle.std.proofs.Common.{refl, ap, ◌∙◌, subst}
use Rattle.report.specs.Generated.{generated_line}
use Rattle.qed_top.specs.Gen.{IsRunOf, test_bytes}
use Rattle.qed_top.proofs.Gens.{own_run_ended, woven_run_ended}
use Rattle.qed_top.proofs.generated.deliver.Goals as goal

pub returns : goal.returns
returns c =
    let seed = c.args.seed in
    let size = c.args.size in
    let made = c.args.made.now in
    let own = c.in_ok-own.own in
    let woven = c.in_ok-woven.woven in
    let own_run : IsRunOf (test_bytes seed size) own = subst (λ b. IsRunOf b own) (c.as_slice.ensures ∙ c.requires.same) c.in_ok-own.ensures in
    let woven_run : IsRunOf made.file woven = subst (λ b. IsRunOf b woven) c.as_slice-2.ensures c.in_ok-woven.ensures in
    record {
      own = own;
      own_run = own_run;
      own_ended = own_run_ended seed size c.requires.some c.requires.small own own_run;
      woven = woven;
      woven_run = woven_run;
      woven_ended = woven_run_ended seed size c.requires.some c.requires.small made.file made.plan c.requires.made woven woven_run;
      status = refl;
      stored = (refl, c.requires.same);
      text = c.in_ok-text.ensures ∙ ap (λ n. generated_line seed size n own made.plan woven) (c.code_words.ensures seed);
    }
