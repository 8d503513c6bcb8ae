use Rattle.std.proofs.Common.{◌≡◌, ◌+◌, ◌≤◌, [], ◌∷◌, length, ap, ◌∙◌, arith}
use Rattle.std.proofs.lemmas.List.{length-append}
use Rattle.campaign.proofs.Drawing.{length-each}
use Rattle.campaign.specs.Draw.{each}
use Rattle.campaign.specs.Slips.{numbered_slip}
use Rattle.campaign.proofs.Making.{pushed}
use Rattle.campaign.proofs.Slipping.{IsDrawn, is_drawn}
use Rattle.campaign.proofs.slips.Slipping.slips.Goals as goal

pub loop-i-preserved : goal.loop-i-preserved
loop-i-preserved g c =
    let plan = c.args.self.now.plan.now in
    let output = c.args.self.now.output.now in
    let d = c.args.draws.now in
    let results = c.args.self.now.results in
    let count = c.loop-i.invariant.count in
    let made : c.in_ok-slips.slips.items ≡ each d.count (numbered_slip output.reach d) = c.in_ok-slips.ensures ∙ ap (λ r. each d.count (numbered_slip r d)) c.reach.ensures.value in
    let size : length c.in_ok-slips.slips.items ≡ d.count = ap length made ∙ length-each d.count (numbered_slip output.reach d) in
    let less = c.loop-i-test.true in
    let end = c.len-i-end.ensures in
    let more : length c.push.new.self.items ≡ length c.loop-i.found.items + 1 = ap length c.in_ok-push.ensures.items ∙ length-append c.loop-i.found.items (c.in_ok-slip.slip ∷ []) in
    record {
      count = omega (arith, more, count);
      so_far = pushed (IsDrawn plan c.args.self.now.input.now output.start output.reach d results) c.loop-i.found.items c.push.new.self.items c.loop-i.i c.in_ok-slip.slip count c.in_ok-push.ensures.items
          (is_drawn plan c.args.self.now.input.now output.start output.reach d results c.in_ok-slips.slips.items c.loop-i.i c.index-in-loop-i.result.now c.in_ok-slip.slip made (omega (arith, less, end, size)) c.index-in-loop-i.ensures c.in_ok-slip.ensures)
          c.loop-i.invariant.so_far;
    }

pub returns-clause-slips : goal.returns-clause-slips
returns-clause-slips g c =
    let d = c.args.draws.now in
    let size : length c.in_ok-slips.slips.items ≡ d.count = ap length c.in_ok-slips.ensures ∙ length-each d.count (numbered_slip c.reach.result d) in
    let count = c.loop-i.invariant.count in
    let upper : c.loop-i.i ≤ c.len-i-end.result = c.loop-i.auto.i-end in
    record { count = omega (arith, size, count, upper, c.loop-i-test.false, c.len-i-end.ensures); each = c.loop-i.invariant.so_far }

pub returns-clause-told : goal.returns-clause-told
returns-clause-told g c =
    c.in_ok-known.ensures.told ∙ ap length (c.deref.ensures.value ∙ c.in_ok-slips.ensures) ∙ length-each c.args.draws.now.count (numbered_slip c.reach.result c.args.draws.now)

pub returns-clause-all : goal.returns-clause-all
returns-clause-all g c =
    c.in_ok-known.ensures.all ∙ ap length (c.deref.ensures.value ∙ c.in_ok-slips.ensures) ∙ length-each c.args.draws.now.count (numbered_slip c.reach.result c.args.draws.now)
