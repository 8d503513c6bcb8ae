use Rattle.std.proofs.Common.{◌≡◌, None, Some, List, map, sym, ap, subst}
use Rattle.std.specs.Prelude.{IfOk, IfErr}
use Rattle.std.proofs.lemmas.Result.{IfOk-weaker, IfErr-weaker}
use Rattle.block_split.specs.Listed.{block_of}
use Rattle.qed_model.specs.Weave.Parts.{parts}
use Rattle.qed_model.specs.Weave.Woven.{code_as}
use Rattle.weave.specs.Code.{IsCut, IsWoven, HasCodeCause}
use Rattle.weave.specs.Form.{form, kind}
use Rattle.lean.specs.Code.{IsLeanCut}
use Rattle.lean.specs.Form as lean
use Rattle.transform.proofs.Making.{lean_cut, as_asked}
use Rattle.transform.proofs.code.code_of.Goals as goal

pub in_form-requires-clause-most : goal.in_form-requires-clause-most
in_form-requires-clause-most c = ap (λ l. (code_as l c.args.cut.now.file c.args.options.now (map block_of c.args.cut.now.blocks)).limit) (sym c.in-None.is)

pub in_form-requires-clause-made : goal.in_form-requires-clause-made
in_form-requires-clause-made c =
    let f = c.args.cut.now.file in
    let o = c.args.options.now in
    let t = c.args.cut.now.test in
    let r = c.woven_code-woven.result in
    as_asked f o t c.args.cut.now.blocks c.requires (λ new bs. IfOk r (λ w. IsWoven new f o t bs (kind w.weaver) (parts (form w.weaver)) (λ b. Unit {0}) w.linked)) None c.as_slice-blocks.result.now c.in-None.is c.as_slice-blocks.ensures
    (IfOk-weaker r _ _ (λ w is. is f (subst (IsCut f o t) (sym c.as_slice-blocks.ensures) c.requires)) c.woven_code-woven.ensures.code)

pub in_form-requires-clause-cause : goal.in_form-requires-clause-cause
in_form-requires-clause-cause c =
    let f = c.args.cut.now.file in
    let o = c.args.options.now in
    let t = c.args.cut.now.test in
    let r = c.woven_code-woven.result in
    as_asked f o t c.args.cut.now.blocks c.requires (λ new bs. IfErr r (HasCodeCause new)) None c.as_slice-blocks.result.now c.in-None.is c.as_slice-blocks.ensures
    (IfErr-weaker r _ _ (λ e is. is f (subst (IsCut f o t) (sym c.as_slice-blocks.ensures) c.requires)) c.woven_code-woven.ensures.cause)

pub lean_code-woven-requires : goal.lean_code-woven-requires
lean_code-woven-requires c =
    let f = c.args.cut.now.file in
    let o = c.args.options.now in
    let t = c.args.cut.now.test in
    (f, subst (IsLeanCut f o c.in-Some.every t) (sym c.as_slice-blocks.ensures) (lean_cut f o t c.args.cut.now.blocks c.requires c.in-Some.every c.in-Some.is))

pub in_form-requires-in-Some-clause-most : goal.in_form-requires-in-Some-clause-most
in_form-requires-in-Some-clause-most c = ap (λ l. (code_as l c.args.cut.now.file c.args.options.now (map block_of c.args.cut.now.blocks)).limit) (sym c.in-Some.is)

pub in_form-requires-in-Some-clause-made : goal.in_form-requires-in-Some-clause-made
in_form-requires-in-Some-clause-made c =
    let f = c.args.cut.now.file in
    let o = c.args.options.now in
    let t = c.args.cut.now.test in
    let every = c.in-Some.every in
    let r = c.lean_code-woven.result in
    as_asked f o t c.args.cut.now.blocks c.requires (λ new bs. IfOk r (λ w. IsWoven new f o t bs (lean.lean_kind w.weaver) (lean.lean_parts_of w.weaver) (lean.IsOwn w.weaver) w.linked)) (Some every) c.as_slice-blocks.result.now c.in-Some.is c.as_slice-blocks.ensures
    (IfOk-weaker r _ _ (λ w is. is f (subst (IsLeanCut f o every t) (sym c.as_slice-blocks.ensures) (lean_cut f o t c.args.cut.now.blocks c.requires every c.in-Some.is))) c.lean_code-woven.ensures.code)

pub in_form-requires-in-Some-clause-cause : goal.in_form-requires-in-Some-clause-cause
in_form-requires-in-Some-clause-cause c =
    let f = c.args.cut.now.file in
    let o = c.args.options.now in
    let t = c.args.cut.now.test in
    let every = c.in-Some.every in
    let r = c.lean_code-woven.result in
    as_asked f o t c.args.cut.now.blocks c.requires (λ new bs. IfErr r (HasCodeCause new)) (Some every) c.as_slice-blocks.result.now c.in-Some.is c.as_slice-blocks.ensures
    (IfErr-weaker r _ _ (λ e is. is f (subst (IsLeanCut f o every t) (sym c.as_slice-blocks.ensures) (lean_cut f o t c.args.cut.now.blocks c.requires every c.in-Some.is))) c.lean_code-woven.ensures.cause)
