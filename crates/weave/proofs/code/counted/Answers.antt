use Rattle.std.proofs.Common.{[], map, subst, ◌∙◌}
use Rattle.qed_model.proofs.Lemmas.{to_stub_joined}
use Rattle.block_split.specs.Listed.{block_of}
use Rattle.relinker.specs.Counted.{HasCounted}
use Rattle.weave.proofs.code.counted.Goals as goal

pub weave-requires-clause-come : goal.weave-requires-clause-come
weave-requires-clause-come g c = ((c.far-far.result, 0), [], [], (c.new.ensures.form, c.new.ensures.none))

pub returns-clause-form : goal.returns-clause-form
returns-clause-form g c = (c.in_ok-count.ensures (c.far-far.result, 0) [] [] (c.new.ensures.form, c.new.ensures.none)).0 ∙ c.far-far.ensures

pub returns-clause-counted : goal.returns-clause-counted
returns-clause-counted g c =
    let w = c.args.weaver.now in
    subst (HasCounted c.in_ok-count.count)
    (to_stub_joined (g.W.Weaving.code w) (g.W.Weaving.parts w) (g.met.W.Weaving.whole w) c.args.test.now.distance c.args.test.now.entry (map block_of c.args.blocks.now))
    (c.in_ok-count.ensures (c.far-far.result, 0) [] [] (c.new.ensures.form, c.new.ensures.none)).1
