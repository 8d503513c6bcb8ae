use Rattle.std.proofs.Common.{◌≡◌, ◌+◌, ◌%◌, ◌<◌, length, sym, ap, ◌∙◌, subst, arith}
use Rattle.std.specs.Prelude.{slice_index}
use Rattle.harts.specs.HartSteps.{counted_turn, counted_turns, cycled}
use Rattle.harts.proofs.Steps.{length_turns}
use Rattle.harts.proofs.Playing.{none_played, more_played, there_still, all_played, first_place, next_place}
use Rattle.harts.proofs.world.World.play.Goals as goal
use Rattle.mem_image.proofs.WholeLaws.{any_err}

pub loop-init : goal.loop-init
loop-init c = record { made = none_played c.args.self.now c.args.harts.now; next = first_place (length c.args.harts.now) c.requires.some }

pub turn-requires : goal.turn-requires
turn-requires c =
    let known = c.loop.invariant in
    subst (λ p. slice_index c.args.harts.now p < length c.loop.self.world.harts) (sym known.next)
    (there_still c.args.self.now c.loop.self c.args.harts.now c.loop.counter known.made c.requires.some c.requires.harts)

pub loop-preserved : goal.loop-preserved
loop-preserved c =
    let known = c.loop.invariant in
    let count = length c.args.harts.now in
    record {
      made = more_played c.args.self.now c.loop.self c.turn.new.self c.args.harts.now c.loop.counter known.made
          (c.in_ok-turn.ensures.turned ∙ ap (λ p. counted_turn (slice_index c.args.harts.now p) c.loop.self) known.next);
      next = c.next_place-place.ensures ∙ ap (λ p. (p + 1) % count) known.next ∙ next_place c.loop.counter count c.requires.some;
    }

pub one_goes_on-requires : goal.one_goes_on-requires
one_goes_on-requires c = λ k l.
    subst (λ n. slice_index c.args.harts.now k < n) (sym (ap (λ w. length w.world.harts) c.loop.invariant.made ∙ length_turns c.args.self.now (cycled c.args.harts.now c.loop.counter))) (c.requires.harts k l)

pub returns-then-not-one_goes_on-clause-played : goal.returns-then-not-one_goes_on-clause-played
returns-then-not-one_goes_on-clause-played c =
    all_played c.args.self.now c.loop.self c.args.harts.now c.loop.counter c.args.n (c.one_goes_on.ensures c.if-not-one_goes_on.true) c.requires.some c.loop.invariant.made (omega arith)

pub returns-then-not-one_goes_on-clause-count : goal.returns-then-not-one_goes_on-clause-count
returns-then-not-one_goes_on-clause-count c = ap (λ w. length w.world.harts) c.loop.invariant.made ∙ length_turns c.args.self.now (cycled c.args.harts.now c.loop.counter)

pub returns-clause-played : goal.returns-clause-played
returns-clause-played c = let e : c.loop.counter ≡ c.args.n = omega arith in c.loop.invariant.made ∙ ap (λ n. counted_turns c.args.self.now (cycled c.args.harts.now n)) e

pub returns-in_err-turn-clause-part : goal.returns-in_err-turn-clause-part
returns-in_err-turn-clause-part c = any_err c.from_residual-in_err-turn.result _ (record { count = c.loop.counter; most = omega arith; made = c.in_err-turn.ensures.kept ∙ c.loop.invariant.made })

pub returns-clause-count : goal.returns-clause-count
returns-clause-count c = ap (λ w. length w.world.harts) (returns-clause-played c) ∙ length_turns c.args.self.now (cycled c.args.harts.now c.args.n)

pub returns-in_err-turn-clause-count : goal.returns-in_err-turn-clause-count
returns-in_err-turn-clause-count c = ap (λ w. length w.world.harts) (c.in_err-turn.ensures.kept ∙ c.loop.invariant.made) ∙ length_turns c.args.self.now (cycled c.args.harts.now c.loop.counter)
