-- Parts that were handed on, one after another.
use Rattle.std.proofs.Common.{ℕ, Bool, ◌≡◌, List, [], ◌∷◌, ◌++◌, sym, ap, ◌∙◌, subst, refl, append_assoc}
use Rattle.std.proofs.lemmas.List.{append-nil}
use Rattle.qed_model.specs.declared.item.Item.{Item}
use Rattle.qed_model.specs.declared.role.Role.{Role}
use Rattle.relinker.specs.Sink.{ComeNext, Takes}
use Rattle.weave.specs.Handed.{Comes, Handed}

-- one part and the next
takes_both :
    (old mid new : Bool × ℕ → List (Role × List Item) → List (Role × List Item) → Type 0) (xs ys : List (Role × List Item)) → Takes old mid xs → Takes mid new ys → Takes old new (xs ++ ys)
takes_both old mid new xs ys a b form done rest t =
    subst (λ l. new form l rest) (append_assoc done xs ys) (b form (done ++ xs) rest (a form done (ys ++ rest) (subst (old form done) (append_assoc xs ys rest) t)))

-- some parts before the rest were handed on, and the rest comes next
pub record UpTo (old now : Bool × ℕ → List (Role × List Item) → List (Role × List Item) → Type 0) (items : List Item) (all rest : List (Role × List Item)) : Type 0 where
  pub done : List (Role × List Item)
  pub whole : all ≡ done ++ rest
  pub took : Takes old now done
  pub come : ComeNext now rest
  pub none : items ≡ []

pub begun : (old : Bool × ℕ → List (Role × List Item) → List (Role × List Item) → Type 0) (items : List Item) (all : List (Role × List Item)) → Comes old items all → UpTo old old items all all
begun old items all c = record { done = []; whole = refl; took = λ form done rest t. subst (λ l. old form l rest) (sym (append-nil done)) t; come = c.come; none = c.none }

-- before the first part: the sink as it was, and no items
pub started :
    {S : Type 0} (took : S → Bool × ℕ → List (Role × List Item) → List (Role × List Item) → Type 0) (sink now : S) (items : List Item) (all : List (Role × List Item))
    → now ≡ sink → items ≡ [] → ComeNext (took sink) all → UpTo (took sink) (took now) items all all
started took sink now items all same none come =
    begun_as (took sink) (took now) items all (ap took same) (record { none = none; come = come }) where
      begun_as :
          (old now : Bool × ℕ → List (Role × List Item) → List (Role × List Item) → Type 0) (items : List Item) (all : List (Role × List Item)) → now ≡ old → Comes old items all → UpTo old now items all all
      begun_as old now items all e c = subst (λ t. UpTo old t items all all) (sym e) (begun old items all c)

pub ended : (old now : Bool × ℕ → List (Role × List Item) → List (Role × List Item) → Type 0) (items : List Item) (all : List (Role × List Item)) → UpTo old now items all [] → Handed old now items all
ended old now items all g = record { none = g.none; took = subst (Takes old now) (sym (append-nil g.done) ∙ sym g.whole) g.took }

-- items put behind none are all items
put_alone : (items put xs : List Item) → put ≡ items ++ xs → items ≡ [] → put ≡ xs
put_alone items put xs e none = e ∙ ap (λ l. l ++ xs) none

module _ {old now : Bool × ℕ → List (Role × List Item) → List (Role × List Item) → Type 0} {items : List Item} {all : List (Role × List Item)} where
  -- ---- several parts
  pub comes : (xs ys : List (Role × List Item)) → UpTo old now items all (xs ++ ys) → Comes now items xs
  comes xs ys g = let c = g.come in record { none = g.none; come = (c.0, c.1, ys ++ c.2, subst (now c.0 c.1) (append_assoc xs ys c.2) c.3) }

  pub on : {new : Bool × ℕ → List (Role × List Item) → List (Role × List Item) → Type 0} {more : List Item} (xs ys : List (Role × List Item)) → UpTo old now items all (xs ++ ys) → Handed now new more xs → UpTo old new more all ys
  on {new} {more} xs ys g h = let c = g.come in record {
    done = g.done ++ xs;
    whole = g.whole ∙ sym (append_assoc g.done xs ys);
    took = takes_both old now new g.done xs g.took h.took;
    come = (c.0, c.1 ++ xs, c.2, h.took c.0 c.1 (ys ++ c.2) (subst (now c.0 c.1) (append_assoc xs ys c.2) c.3));
    none = h.none;
  }

  -- the last of the parts
  pub last : (xs : List (Role × List Item)) → UpTo old now items all xs → UpTo old now items all (xs ++ [])
  last xs g = subst (UpTo old now items all) (sym (append-nil xs)) g

  -- ---- one part, whose items were gathered
  pub part_comes : (of : Role) (put xs : List Item) (rest : List (Role × List Item)) → UpTo old now items all ((of, xs) ∷ rest) → put ≡ items ++ xs → ComeNext now ((of, put) ∷ [])
  part_comes of put xs rest g e = subst (λ l. ComeNext now ((of, l) ∷ [])) (sym (put_alone items put xs e g.none)) (comes ((of, xs) ∷ []) rest g).come

  pub part_on :
      {new : Bool × ℕ → List (Role × List Item) → List (Role × List Item) → Type 0} {more : List Item} (of : Role) (put xs : List Item) (rest : List (Role × List Item))
      → UpTo old now items all ((of, xs) ∷ rest) → put ≡ items ++ xs → Handed now new more ((of, put) ∷ []) → UpTo old new more all rest
  part_on {new} {more} of put xs rest g e h = on ((of, xs) ∷ []) rest g (subst (λ l. Handed now new more ((of, l) ∷ [])) (put_alone items put xs e g.none) h)
