use Rattle.std.proofs.Common.{◌∷◌, [], length, ap, ◌∙◌, arith}
use Rattle.harts.specs.HartSteps.{counted_turns, cycled}
use Rattle.harts.proofs.Steps.{length_turns}
use Rattle.harts.proofs.Playing.{hart_read}
use Rattle.harts.proofs.Single.{one_played}
use Rattle.harts.proofs.world.World.play_one.Goals as goal
use Rattle.mem_image.proofs.WholeLaws.{any_err}

pub returns-clause-played : goal.returns-clause-played
returns-clause-played c =
    let hs = c.self.inside.harts.items in
    let m = c.self.inside.image in
    let i = c.args.hart in
    one_played hs m i c.index_mut.result.now (hart_read hs m c.args.self.now i c.index_mut.result.now c.self.view_is c.requires c.index_mut.ensures.value)
    c.args.n c.run.new.self c.run.new.image c.in_ok-run.ensures.run
    ∙ ap (λ s. counted_turns s (cycled (i ∷ []) c.args.n)) c.self.view_is

pub returns-clause-count : goal.returns-clause-count
returns-clause-count c = ap (λ w. length w.world.harts) (returns-clause-played c) ∙ length_turns c.args.self.now (cycled (c.args.hart ∷ []) c.args.n)

pub returns-in_err-run-clause-part : goal.returns-in_err-run-clause-part
returns-in_err-run-clause-part c =
    let hs = c.self.inside.harts.items in
    let m = c.self.inside.image in
    let i = c.args.hart in
    let part = c.in_err-run.ensures.part in
    any_err c.from_residual.result _ (record {
      count = part.count;
      most = omega (arith, part.most);
      made = one_played hs m i c.index_mut.result.now (hart_read hs m c.args.self.now i c.index_mut.result.now c.self.view_is c.requires c.index_mut.ensures.value)
          part.count c.run.new.self c.run.new.image part.made
          ∙ ap (λ s. counted_turns s (cycled (i ∷ []) part.count)) c.self.view_is;
    })
