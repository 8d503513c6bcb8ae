use Rattle.std.proofs.Common.{◌≡◌, arith}
use Rattle.std.proofs.lemmas.Grind.{common_steps}
use Rattle.std.specs.Prelude.{Ok}
use Rattle.qed_words.specs.Words.{texts, asked}
use Rattle.qed_words.proofs.SoundOrders.{asked_sound}
use Rattle.qed_words.proofs.words.order.Goals as goal

pub returns-clause-sound : goal.returns-clause-sound
unfolding asked
returns-clause-sound c =
    let made : asked (texts c.args.words.now) ≡ Ok c.in_ok-order.order = grind (arith, common_steps) in asked_sound (texts c.args.words.now) c.in_ok-order.order made
