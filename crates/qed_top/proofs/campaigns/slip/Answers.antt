use Rattle.std.proofs.Common.{ap, ◌∙◌}
use Rattle.qed_words.specs.Text.Slips.{slips_text}
use Rattle.qed_top.proofs.campaigns.slip.Goals as goal

pub returns : goal.returns
returns g c =
    let results = c.args.asked.now.results in
    let told = c.in_ok-text.ensures ∙ ap (λ found. slips_text results found c.plan.result.now) c.deref.ensures.value ∙ ap (slips_text results c.in_ok-found.found.items) c.plan.ensures in
    record {
      found = c.in_ok-found.found.items;
      slips = c.in_ok-found.ensures.slips;
      plain = record { status = c.plain.ensures.status; text = c.plain.ensures.text ∙ told; stored = c.plain.ensures.stored };
    }
