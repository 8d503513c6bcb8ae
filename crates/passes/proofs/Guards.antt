-- Comparisons of some registers with their pairs, before a pass.
use Rattle.std.proofs.Common.{ℕ, Bool, List, [], ◌∷◌}
use Rattle.qed_model.specs.Weave.Sequences.{guard, guards}
use Rattle.passes.specs.Honest.{HonestItems}
use Rattle.passes.specs.Pass.{AllLow, Honest}
use Rattle.passes.specs.Compose.{honest_items_then, honest_items_none}
use Rattle.passes.proofs.HonestWords.{honest_guard}

honest_all : (far : Bool) (qs : List ℕ) → AllLow qs → HonestItems far (guards qs)
honest_all far [] low = honest_items_none far
honest_all far (q ∷ qs) low = honest_items_then far (guard q) (guards qs) (honest_guard far q low.0) (honest_all far qs low.1)

pub honest_guards : (suits : Bool → Type 0) (qs : List ℕ) → AllLow qs → Honest suits (guards qs)
honest_guards suits qs low = record { honest = λ far s. honest_all far qs low }
