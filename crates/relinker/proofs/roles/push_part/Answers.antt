use Rattle.std.proofs.Common.{rules, ◌≡◌, ◌+◌, ◌<◌, [], ◌∷◌, ◌++◌, drop, length, get_or, ap, ◌∙◌}
use Rattle.qed_model.specs.Weave.Parts.{compares, role_in, item_rows}
use Rattle.qed_model.specs.Weave.Placed.{size_of}
use Rattle.relinker.proofs.RoleRows.{rows_more}
use Rattle.relinker.proofs.roles.push_part.Goals as goal

pub loop-item-preserved : goal.loop-item-preserved
loop-item-preserved c =
    let of = c.args.of.now in
    let far = c.args.far in
    let items = c.args.items.now in
    let item = c.item-item.result in
    let k = c.loop-item.item-index in
    let before = c.loop-item.before in
    let less : k < length items = search rules in
    let same : get_or items k item ≡ item = search rules in
    let told : c.role_in-role.result ≡ role_in of before (compares item) = c.role_in-role.ensures ∙ ap (role_in of before) c.compares.ensures in
    let row : c.push.new.self.items ≡ c.loop-item.rows.items ++ ((record { role = role_in of before (compares item); bytes = size_of far item }) ∷ []) =
    c.in_ok-push.ensures.items ∙ (λ i. c.loop-item.rows.items ++ ((record { role = told i; bytes = c.size-bytes.ensures.value i }) ∷ [])) in
    ap (λ b. c.push.new.self.items ++ item_rows far of b (drop (k + 1) items)) c.compares-before.ensures
    ∙ rows_more far of before c.loop-item.rows.items c.push.new.self.items _ items k item less same c.loop-item.invariant row
