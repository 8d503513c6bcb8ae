use Rattle.std.proofs.Common.{ap, ◌∙◌}
use Rattle.rv_isa.specs.Field.{bits}
use Rattle.rv_isa.proofs.FieldLaws.{set_is, bits-with_bits_same, bits-with_bits_others}
use Rattle.rv_isa.proofs.field.Field.set.Goals as goal

pub returns-clause-value : goal.returns-clause-value
returns-clause-value g c = set_is g.row.LO g.row.W c.args.word c.args.value c.requires.some c.requires.within c.ranges.word.fits c.requires.fits

pub returns-clause-same : goal.returns-clause-same
returns-clause-same g c = ap (λ k. bits k g.row.LO g.row.W) (set_is g.row.LO g.row.W c.args.word c.args.value c.requires.some c.requires.within c.ranges.word.fits c.requires.fits) ∙ bits-with_bits_same g.row.LO g.row.W c.args.word c.args.value c.requires.fits

pub returns-clause-others : goal.returns-clause-others
returns-clause-others g c lo w h = ap (λ k. bits k lo w) (set_is g.row.LO g.row.W c.args.word c.args.value c.requires.some c.requires.within c.ranges.word.fits c.requires.fits) ∙ bits-with_bits_others g.row.LO g.row.W c.args.word c.args.value c.requires.fits lo w h
