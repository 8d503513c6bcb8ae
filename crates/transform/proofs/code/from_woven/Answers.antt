use Rattle.std.proofs.Common.{sym, ap, ◌∙◌, subst, map, refl}
use Rattle.std.specs.Prelude.{◌||◌}
use Rattle.block_split.specs.Listed.{block_of}
use Rattle.bound_calc.specs.Fitting.{AreSmall}
use Rattle.qed_model.specs.Weave.Forms.{shape_of}
use Rattle.qed_model.specs.Weave.OutputFile.{has_table}
use Rattle.qed_model.specs.Weave.Parts.{code_parts, role_rows}
use Rattle.weave.proofs.AdmittedFit.{blocks_fit}
use Rattle.transform.specs.Unwritten.{code_for}
use Rattle.transform.proofs.TestFacts.{small, found_some, found_is}
use Rattle.transform.proofs.code.from_woven.Goals as goal

pub roles_of-requires-clause-fit : goal.roles_of-requires-clause-fit
roles_of-requires-clause-fit g c = blocks_fit c.args.cut.now.file c.args.options.now c.args.cut.now.test.code c.args.cut.now.blocks c.requires.cut.blocked

pub unwrap-bounds-requires : goal.unwrap-bounds-requires
unwrap-bounds-requires g c =
    let f = c.args.cut.now.file in
    let o = c.args.options.now in
    let is = c.requires.made in
    let kind = g.W.Weaving.kind c.args.woven.weaver in
    found_some c.bounds.result _ c.bounds.ensures
    (subst AreSmall (sym (ap kind.bounds (c.shape_of-shape.ensures ∙ ap (shape_of f o) (c.far.ensures ∙ is.far)) ∙ is.bounds)) (small f o c.args.cut.now.test c.args.cut.now.blocks c.requires.cut o.lean refl))

pub returns-clause-code : goal.returns-clause-code
returns-clause-code g c =
    let f = c.args.cut.now.file in
    let o = c.args.options.now in
    let is = c.requires.made in
    let kind = g.W.Weaving.kind c.args.woven.weaver in
    record {
      code = is.code;
      entries = is.entries;
      table = c.is_tabled-table.ensures ∙ ap (λ cs. kind.table || has_table (map block_of cs)) c.as_slice-blocks.ensures ∙ is.table;
      bounds = found_is c.bounds.result _ c.unwrap-bounds.result c.bounds.ensures c.unwrap-bounds.ensures ∙ ap kind.bounds (c.shape_of-shape.ensures ∙ ap (shape_of f o) (c.far.ensures ∙ is.far)) ∙ is.bounds;
      few = is.few;
    }

pub returns-clause-roles : goal.returns-clause-roles
returns-clause-roles g c = λ asked.
    let t = c.args.cut.now.test in
    let bs = map block_of c.args.cut.now.blocks in
    let is = c.requires.made in
    c.in_ok-roles.ensures asked
    ∙ ap (λ far. role_rows far (code_parts (g.W.Weaving.parts c.args.woven.weaver) t.distance t.entry bs)) is.far
    ∙ ap (role_rows (code_for c.args.cut.now.file c.args.options.now c.args.cut.now.blocks).far) is.parts
