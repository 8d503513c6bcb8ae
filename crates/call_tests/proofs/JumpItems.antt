-- The items of the test: a mark, a constant and two jumps.
use Rattle.std.proofs.Common.{ℕ, true, false, List, [], ◌∷◌, refl, arith}
use Rattle.qed_model.specs.declared.item.Item.{Item}
use Rattle.qed_model.specs.declared.item.Item.TheVariants.{Mark, Constant, Go}
use Rattle.machine.specs.Table.{encode_of, word_of}
use Rattle.relinker.specs.Link.{IsLinkable}

abbrev pub jump_items : ℕ → List Item
jump_items r = Mark 65536 ∷ Constant r 65536 ∷ Go 65536 ∷ Go 65540 ∷ []

pub near_linkable : IsLinkable false 77944 (jump_items 30)
unfolding encode_of word_of
near_linkable = record { ascend = λ i j d l m. absurd (omega (arith, l, m)); encoded = refl }

pub far_linkable : IsLinkable true 77944 (jump_items 30)
unfolding encode_of word_of
far_linkable = record { ascend = λ i j d l m. absurd (omega (arith, l, m)); encoded = refl }
