use Rattle.test_admission.proofs.DataLaws.{refused_mixed}
use Rattle.test_admission.proofs.data_ranges.check_data.Goals as goal

pub returns-in-Some : goal.returns-in-Some
returns-in-Some c = refused_mixed c.args.file.now c.requires.passed c.in-Some.number c.in-Some.ensures
