use Rattle.std.specs.Prelude.{[]}
use Rattle.qed_model.specs.declared.role.Role.TheVariants as role
use Rattle.qed_model.specs.Weave.Sequences.{prologue}
use Rattle.weave.specs.Form.{form}
use Rattle.weave.proofs.Taking.{begun, part_comes, part_on, ended}
use Rattle.weave.proofs.weaver.WeaverWeaving.first.Goals as goal

pub end-requires : goal.end-requires
end-requires g c = part_comes role.Start _ (prologue c.args.distance (form c.args.self.now).spans c.args.entry) [] (begun _ _ _ c.requires.come) c.in_ok-prologue.ensures

pub returns : goal.returns
returns g c = ended _ _ _ _ (part_on role.Start _ (prologue c.args.distance (form c.args.self.now).spans c.args.entry) [] (begun _ _ _ c.requires.come) c.in_ok-prologue.ensures c.in_ok-end.ensures)
