use Rattle.tests.proofs.AdmissionLaws.{admitted_of, no_fault}
use Rattle.tests.proofs.OneRefusal.{one_refusal}
use Rattle.tests.proofs.Verdicts.{answered}
use Rattle.tests.proofs.laws.admission_has_one_answer.Goals as goal

pub returns : goal.returns
returns c = λ f o. record { answered = answered f o; admitted = admitted_of f o; apart = λ e a h. no_fault f o a e h; one = one_refusal f o }
