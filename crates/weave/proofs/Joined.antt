-- Lists that were appended one after another.
use Rattle.std.proofs.Common.{◌≡◌, List, ◌++◌, ap, ◌∙◌, append_assoc}
use Rattle.qed_model.specs.declared.item.Item.{Item}

pub append_both : (old mid new xs ys : List Item) → mid ≡ old ++ xs → new ≡ mid ++ ys → new ≡ old ++ (xs ++ ys)
append_both old mid new xs ys e f = f ∙ ap (λ l. l ++ ys) e ∙ append_assoc old xs ys

-- five lists
pub append_five :
    (old a b c d new us vs ws xs ys : List Item) → a ≡ old ++ us → b ≡ a ++ vs → c ≡ b ++ ws → d ≡ c ++ xs → new ≡ d ++ ys
    → new ≡ old ++ (us ++ (vs ++ (ws ++ (xs ++ ys))))
append_five old a b c d new us vs ws xs ys e f g h i =
    append_both old a new us (vs ++ (ws ++ (xs ++ ys))) e (append_both a b new vs (ws ++ (xs ++ ys)) f (append_both b c new ws (xs ++ ys) g (append_both c d new xs ys h i)))
