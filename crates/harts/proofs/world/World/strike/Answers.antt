use Rattle.std.proofs.Common.{length, ap, ◌∙◌, sym}
use Rattle.machine.specs.declared.place.Place.TheVariants.{Reg}
use Rattle.harts.specs.HartSteps.{counted_strike}
use Rattle.harts.proofs.Worlds.{strike_counted, strike_word}
use Rattle.harts.proofs.Steps.{length_struck}
use Rattle.harts.proofs.Playing.{below, hart_read}
use Rattle.harts.specs.contracts.world.World.{the_view}
use Rattle.harts.proofs.world.World.strike.Goals as goal

pub returns-in-Reg-clause-struck : goal.returns-in-Reg-clause-struck
returns-in-Reg-clause-struck c =
    let hs = c.self.inside.harts.items in
    let m = c.self.inside.image in
    strike_counted hs m m c.args.hart c.index_mut.result.now c.set.new.self
    (hart_read hs m c.args.self.now c.args.hart c.index_mut.result.now c.self.view_is c.requires c.index_mut.ensures.value)
    (Reg c.in-Reg.r) c.args.value (c.set.ensures m)
    ∙ ap (λ p. counted_strike c.args.hart p c.args.value (the_view c.self.inside)) (sym c.in-Reg.is)
    ∙ ap (counted_strike c.args.hart c.args.place.now c.args.value) c.self.view_is

pub returns-in_ok-poke-in-Word-clause-struck : goal.returns-in_ok-poke-in-Word-clause-struck
returns-in_ok-poke-in-Word-clause-struck c =
    let hs = c.self.inside.harts.items in
    let m = c.self.inside.image in
    strike_word hs m c.poke.new.self c.args.hart c.in-Word.address c.args.value (below hs m c.args.self.now c.args.hart c.self.view_is c.requires) c.in_ok-poke-in-Word.ensures.poked
    ∙ ap (λ p. counted_strike c.args.hart p c.args.value (the_view c.self.inside)) (sym c.in-Word.is)
    ∙ ap (counted_strike c.args.hart c.args.place.now c.args.value) c.self.view_is

pub returns-in-Reg-clause-count : goal.returns-in-Reg-clause-count
returns-in-Reg-clause-count c = ap (λ w. length w.world.harts) (returns-in-Reg-clause-struck c) ∙ length_struck c.args.hart c.args.place.now c.args.value c.args.self.now

pub returns-in_ok-poke-in-Word-clause-count : goal.returns-in_ok-poke-in-Word-clause-count
returns-in_ok-poke-in-Word-clause-count c = ap (λ w. length w.world.harts) (returns-in_ok-poke-in-Word-clause-struck c) ∙ length_struck c.args.hart c.args.place.now c.args.value c.args.self.now
