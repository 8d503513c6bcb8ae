use Rattle.rv_isa.proofs.FieldLaws.{field_is}
use Rattle.rv_isa.proofs.field.Field.get.Goals as goal

pub returns : goal.returns
returns g c = field_is g.row.LO g.row.W c.args.word c.requires.some c.requires.within
