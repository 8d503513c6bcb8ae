use Rattle.std.proofs.Common.{rules, ◌≡◌, ◌≤◌, ap, ◌∙◌}
use Rattle.std.specs.Option.{option_copied}
use Rattle.qed_top.specs.Run.{ran, second_of, memory_bytes, memory_limit, run_text}
use Rattle.qed_top.proofs.Meanings.{was_run}
use Rattle.qed_top.proofs.run.answer_file.Goals as goal

pub returns : goal.returns
returns g c =
    let f = c.args.file.now in
    let way = c.args.way.now in
    let second = second_of way.watch f (option_copied c.args.test) way.steps way.changes in
    let end = c.in_ok-ran.ran.0 in
    let did = c.in_ok-ran.ensures in
    let small : memory_bytes f.segments ≤ memory_limit = search rules in
    was_run f (ran way.watch f way.steps way.changes) second way.dump end c.outcome.result c.in_ok-text.text c.status_of.result c.plain.result
    small did.run c.outcome.ensures
    (c.in_ok-text.ensures ∙ ap (λ line. run_text end line way.dump) (c.as_bytes.ensures.value ∙ did.second)) c.status_of.ensures c.plain.ensures
