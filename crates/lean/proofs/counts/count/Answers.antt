use Rattle.std.proofs.Common.{◌≡◌, ◌+◌, ◌*◌, cond, Some, length, sym, ap, ◌∙◌, subst, arith}
use Rattle.std.specs.BTreeMap.{get}
use Rattle.std.specs.Ordering.{nat_cmp, is_eq}
use Rattle.qed_model.specs.Weave.LeanCode.{end_at, leads_on, owed_behind}
use Rattle.block_split.specs.Listed.{block_of, end_of}
use Rattle.weave.proofs.BodyLeft.{whole_length}
use Rattle.lean.specs.Counts.{owed_in, AddsTo, counting}
use Rattle.lean.proofs.Counting.{sum_is, one_more}
use Rattle.lean.proofs.counts.count.Goals as goal

pub returns : goal.returns
returns c = λ bs are.
    let k = counting c.args.terms.now in
    let b = c.args.block.now in
    let old = c.args.counts.now in
    let most = c.saturating_add-most.result in
    let behind = c.contains.result in
    let place : b.start + 4 * length c.as_slice.result.now ≡ end_at (block_of b) = ap (λ n. b.start + 4 * n) (ap length c.as_slice.ensures ∙ sym (whole_length b.lengths b.body c.requires.fits.whole)) in
    let steps = c.block_steps-own.ensures in
    let few = c.requires.few in
    let is = sum_is k bs old c.args.goals.now are (block_of b) c.block_steps-own.result c.owed_behind.result most steps (omega (arith, steps, few)) c.requires.room (c.owed_behind.ensures ∙ ap (λ n. owed_behind c.args.terms.now.room (owed_in old) (end_of b.end) n) place) (let sum = c.saturating_add-most.ensures in λ small. omega (arith, sum, small)) in
    let leads : AddsTo c.args.goals.now c.add_goals.new.goals (leads_on (end_of b.end) (end_at (block_of b))) = subst (λ n. AddsTo c.args.goals.now c.add_goals.new.goals (leads_on (end_of b.end) n)) place c.in_ok-add_goals.ensures in
    one_more k bs old c.args.goals.now are (block_of b) most behind c.insert.new.self c.add_goals.new.goals is leads c.contains.ensures
    (λ q. c.in_ok-insert.ensures.updates.0 q ∙ ap (λ t. cond (is_eq (nat_cmp b.start q)) (Some (record { ticks = t; most = most })) (get nat_cmp old q)) c.needs_tick-ticks.ensures)
