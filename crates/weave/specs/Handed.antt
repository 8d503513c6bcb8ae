-- Parts to be handed on, and parts that were, while no items are gathered.
use Rattle.std.specs.Prelude.{◌≡◌, ℕ, Bool, List, []}
use Rattle.qed_model.specs.declared.item.Item.{Item}
use Rattle.qed_model.specs.declared.role.Role.{Role}
use Rattle.relinker.specs.Sink.{ComeNext, Takes}

pub record Comes (old : Bool × ℕ → List (Role × List Item) → List (Role × List Item) → Type 0)
    (items : List Item) (parts : List (Role × List Item)) : Type 0 where
  pub none : items ≡ []
  pub come : ComeNext old parts

pub record Handed (old new : Bool × ℕ → List (Role × List Item) → List (Role × List Item) → Type 0)
    (items : List Item) (parts : List (Role × List Item)) : Type 0 where
  pub none : items ≡ []
  pub took : Takes old new parts
