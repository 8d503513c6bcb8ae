use Rattle.std.proofs.Common.{None, ◌++◌, ap, ◌∙◌}
use Rattle.qed_model.specs.Weave.Parts.{item_rows}
use Rattle.relinker.proofs.RoleRows.{roles_more}
use Rattle.relinker.proofs.roles.RolesItemSink.take.Goals as goal

pub returns : goal.returns
returns c = λ form done rest was.
    let far = c.args.self.now.far in
    let old = c.args.self.now.rows.items in
    (was.0, roles_more far old c.push_part.new.rows.items done c.args.role c.args.items.now (c.in_ok-push_part.ensures ∙ ap (λ items. old ++ item_rows far c.args.role None items) c.items.ensures) was.1)
