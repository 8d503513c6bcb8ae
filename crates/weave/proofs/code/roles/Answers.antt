use Rattle.std.proofs.Common.{[], map, ◌∙◌, ap}
use Rattle.qed_model.specs.Weave.Parts.{parts_to_stub, role_rows, code_parts}
use Rattle.block_split.specs.Listed.{block_of}
use Rattle.weave.proofs.code.roles.Goals as goal

pub weave-requires-clause-come : goal.weave-requires-clause-come
weave-requires-clause-come g c = ((c.far-far.result, 0), [], [], (c.new.ensures.form, c.new.ensures.none))

pub returns : goal.returns
returns g c =
    let parts = g.W.Weaving.parts c.args.weaver.now in
    let d = c.args.test.now.distance in
    let a = c.args.test.now.entry in
    let bs = map block_of c.args.blocks.now in
    let has = c.in_ok-roles.ensures (c.far-far.result, 0) [] [] (c.new.ensures.form, c.new.ensures.none) in
    c.in_ok-rows.ensures (parts_to_stub parts d a bs) has.1 ∙ ap (λ far. role_rows far (code_parts parts d a bs)) (has.0 ∙ c.far-far.ensures)
