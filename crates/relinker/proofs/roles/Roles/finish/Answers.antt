use Rattle.qed_model.specs.declared.role.Role.TheVariants as role
use Rattle.qed_model.specs.Weave.Sequences.{stub}
use Rattle.relinker.proofs.RoleRows.{roles_more}
use Rattle.relinker.proofs.roles.Roles.finish.Goals as goal

pub returns : goal.returns
returns c = λ done was. roles_more c.args.self.far c.args.self.rows.items c.push.new.self.items done role.Stub stub c.in_ok-push.ensures.items was
