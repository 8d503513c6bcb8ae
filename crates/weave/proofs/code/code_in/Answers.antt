use Rattle.std.proofs.Common.{[], map, sym, subst}
use Rattle.block_split.specs.Listed.{block_of}
use Rattle.relinker.specs.Laid.{IsLaid, IsLinked}
use Rattle.weave.specs.Form.{items_to_stub}
use Rattle.weave.specs.Code.{items_of, code_begin}
use Rattle.weave.proofs.code.code_in.Goals as goal

pub written-requires-clause-laid : goal.written-requires-clause-laid
written-requires-clause-laid c =
    let t = c.args.test.now in
    subst (λ form. IsLaid c.in_ok-layout.layout [] (items_to_stub t.distance t.entry form (map block_of c.args.blocks.now))) (sym c.in_ok-weaver.ensures) c.in_ok-layout.ensures.laid

pub returns-clause-linked : goal.returns-clause-linked
returns-clause-linked c =
    let t = c.args.test.now in
    let items = items_of t c.args.options.now c.args.far c.args.blocks.now in
    subst (λ far. IsLinked far (code_begin t) items c.in_ok-linked.linked) c.in_ok-layout.ensures.form
    (subst (λ base. IsLinked c.in_ok-layout.layout.far base items c.in_ok-linked.linked) c.in_ok-layout.ensures.base
    (subst (λ form. IsLinked c.in_ok-layout.layout.far c.in_ok-layout.layout.base (items_to_stub t.distance t.entry form (map block_of c.args.blocks.now)) c.in_ok-linked.linked) c.in_ok-weaver.ensures c.in_ok-linked.ensures))
