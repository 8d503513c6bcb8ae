use Rattle.std.proofs.Common.{rules, ◌≡◌, true, false}
use Rattle.std.specs.Prelude.{is_some, None}
use Rattle.campaign.proofs.Making.{one_so_far, ends_trapped, ends_whole, all_ordered}
use Rattle.campaign.proofs.runs.Runs.strike_all.Goals as goal

pub loop-i-preserved : goal.loop-i-preserved
loop-i-preserved g c =
    let none : is_some c.in_ok-trapped.trapped ≡ false = search rules in
    one_so_far c.args.self.now c.args.strikes.now c.loop-i.i c.loop-i.struck.items c.strike_next.new.struck.items c.index-strikes-i.result c.in_ok-trapped.trapped c.loop-i-test.true
    c.index-strikes-i.is c.in_ok-trapped.ensures none c.loop-i.invariant

pub returns-then-is_some-clause-struck : goal.returns-then-is_some-clause-struck
returns-then-is_some-clause-struck g c =
    let some : is_some c.in_ok-trapped.trapped ≡ true = search rules in
    ends_trapped c.args.self.now c.args.strikes.now c.loop-i.i c.loop-i.struck.items c.strike_next.new.struck.items c.index-strikes-i.result c.in_ok-trapped.trapped c.loop-i-test.true
    c.index-strikes-i.is c.in_ok-trapped.ensures some c.loop-i.invariant

pub returns-then-is_some-clause-ordered : goal.returns-then-is_some-clause-ordered
returns-then-is_some-clause-ordered g c =
    all_ordered c.args.self.now c.args.strikes.now c.strike_next.new.struck.items c.in_ok-trapped.trapped (returns-then-is_some-clause-struck g c) c.requires

pub returns-clause-struck : goal.returns-clause-struck
returns-clause-struck g c = ends_whole c.args.self.now c.args.strikes.now c.loop-i.i c.loop-i.struck.items c.loop-i-test.false c.loop-i.invariant

pub returns-clause-ordered : goal.returns-clause-ordered
returns-clause-ordered g c = all_ordered c.args.self.now c.args.strikes.now c.loop-i.struck.items None (returns-clause-struck g c) c.requires
