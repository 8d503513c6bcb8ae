use Rattle.std.proofs.Common.{[], map, refl, sym, ap, ◌∙◌, subst}
use Rattle.std.proofs.lemmas.List.{append-nil}
use Rattle.qed_model.specs.Weave.Parts.{joined, parts_to_stub}
use Rattle.qed_model.proofs.Lemmas.{to_stub_joined}
use Rattle.block_split.specs.Listed.{block_of}
use Rattle.relinker.specs.Laid.{IsLaid, IsLaidIn, IsLinked}
use Rattle.weave.proofs.code.written.Goals as goal

pub weave-requires-clause-come : goal.weave-requires-clause-come
weave-requires-clause-come g c =
    let w = c.args.weaver.now in
    let parts = parts_to_stub (g.W.Weaving.parts w) c.args.test.now.distance c.args.test.now.entry (map block_of c.args.blocks.now) in
    let whole = to_stub_joined (g.W.Weaving.code w) (g.W.Weaving.parts w) (g.met.W.Weaving.whole w) c.args.test.now.distance c.args.test.now.entry (map block_of c.args.blocks.now) in
    ((c.args.layout.far, c.args.layout.base), [], [], (refl, refl, subst (λ is. IsLaid c.args.layout [] is) (sym whole ∙ ap joined (sym (append-nil parts))) c.requires.laid))

pub finish-requires : goal.finish-requires
finish-requires g c =
    let w = c.args.weaver.now in
    let parts = parts_to_stub (g.W.Weaving.parts w) c.args.test.now.distance c.args.test.now.entry (map block_of c.args.blocks.now) in
    let whole = to_stub_joined (g.W.Weaving.code w) (g.W.Weaving.parts w) (g.met.W.Weaving.whole w) c.args.test.now.distance c.args.test.now.entry (map block_of c.args.blocks.now) in
    let laid : IsLaidIn c.in_ok-layout.layout (c.args.layout.far, c.args.layout.base) (joined parts) [] =
    c.in_ok-layout.ensures (c.args.layout.far, c.args.layout.base) [] [] (refl, refl, subst (λ is. IsLaid c.args.layout [] is) (sym whole ∙ ap joined (sym (append-nil parts))) c.requires.laid) in
    (joined parts, laid.2)

pub returns : goal.returns
returns g c =
    let w = c.args.weaver.now in
    let parts = parts_to_stub (g.W.Weaving.parts w) c.args.test.now.distance c.args.test.now.entry (map block_of c.args.blocks.now) in
    let whole = to_stub_joined (g.W.Weaving.code w) (g.W.Weaving.parts w) (g.met.W.Weaving.whole w) c.args.test.now.distance c.args.test.now.entry (map block_of c.args.blocks.now) in
    let laid : IsLaidIn c.in_ok-layout.layout (c.args.layout.far, c.args.layout.base) (joined parts) [] =
    c.in_ok-layout.ensures (c.args.layout.far, c.args.layout.base) [] [] (refl, refl, subst (λ is. IsLaid c.args.layout [] is) (sym whole ∙ ap joined (sym (append-nil parts))) c.requires.laid) in
    let linked = c.finish.ensures (joined parts) laid.2 in
    subst (λ items. IsLinked c.args.layout.far c.args.layout.base items c.finish.result) whole
    (subst (λ far. IsLinked far c.args.layout.base (joined parts) c.finish.result) laid.0 (subst (λ base. IsLinked c.in_ok-layout.layout.far base (joined parts) c.finish.result) laid.1 linked))
