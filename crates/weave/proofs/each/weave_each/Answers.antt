use Rattle.std.proofs.Common.{rules, ◌≡◌, ◌+◌, ◌<◌, [], ◌∷◌, length, drop, get_or, subst, arith}
use Rattle.std.proofs.lemmas.List.{drop_more}
use Rattle.qed_model.specs.Weave.Parts.{each_parts}
use Rattle.weave_core.specs.Blocks.{AllFit}
use Rattle.weave.specs.Halves.{half_role}
use Rattle.weave.specs.Handed.{Handed}
use Rattle.weave.proofs.Taking.{UpTo, part_on}
use Rattle.weave.proofs.Parts.{each_split}
use Rattle.weave.proofs.each.weave_each.Goals as goal

pub loop-ins-preserved : goal.loop-ins-preserved
loop-ins-preserved g c =
    let list = c.args.list.now in
    let k = c.loop-ins.ins-index in
    let ins = c.ins-item.result in
    let at = c.loop-ins.at in
    let part = g.P.Pass.items c.args.pass.now in
    let of = half_role c.args.half in
    let old = g.S.ItemSink.took c.args.to.now.sink in
    let now = g.S.ItemSink.took c.loop-ins.to.sink in
    let new = g.S.ItemSink.took c.end.new.self.sink in
    let less : k < length list = search rules in
    let item : get_or list k ins ≡ ins = search rules in
    let fits = subst AllFit (drop_more list k ins less) c.loop-ins.invariant.0 in
    let up = subst (UpTo old now c.loop-ins.to.items (each_parts of part list c.args.first)) (each_split of part list k at ins less item) c.loop-ins.invariant.2 in (
      fits.1,
      (let e = c.loop-ins.invariant.1 in omega (arith, e)),
      part_on (of at) c.emit.new.out (part ins at) (each_parts of part (drop (k + 1) list) (at + 4)) up c.in_ok-emit.ensures.all
          (subst (λ r. Handed now new c.end.new.self.items ((r, c.emit.new.out) ∷ [])) c.role.ensures c.in_ok-end.ensures),
    )
