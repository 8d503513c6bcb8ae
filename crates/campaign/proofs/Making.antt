-- Strikes that are made one after another.
use Rattle.std.proofs.Common.{◌≡◌, ◌⊎◌, inl, inr, ℕ, suc, ◌+◌, ◌<◌, ◌≤◌, true, false, List, [], ◌∷◌, ◌++◌, length, get_or, drop, drop-cons, add-one, refl, sym, ap, ◌∙◌, subst, append_assoc, arith}
use Rattle.std.specs.Prelude.{Option, Some, None, is_some, All, slice_get}
use Rattle.std.proofs.Math.ListN.{set, replicate}
use Rattle.std.proofs.lemmas.Bool.{cases_eq, cases_lt}
use Rattle.std.proofs.Math.Seq.{get_or-append_seam}
use Rattle.std.proofs.lemmas.Option.{same_Some, slice_get_within, slice_get-get_or, get_or_from_slice_get}
use Rattle.std.proofs.lemmas.List.Elements.{All-nil, All-cons, All-head, All-tail}
use Rattle.std.proofs.lemmas.List.{append-nil, drop_all, get_or_append_left, length-append, get_or-replicate, length-replicate, get_or-set_same, get_or-set_other, length-set}
use Rattle.qed_model.specs.declared.change.Change.{Change}
use Rattle.qed_model.specs.declared.verdict.Struck.{Struck}
use Rattle.campaign.specs.Kept.{Pair}
use Rattle.qed_model.specs.Promise.Changed.{Ordered}
use Rattle.campaign.specs.Struck.{AreStruck, IsStrike, IsStruckNext}

-- all are struck once those of the rest are struck behind those so far
abbrev pub AreSoFar : Pair → List (List Change) → ℕ → List Struck → Type 0
AreSoFar p strikes k struck = (later : List Struck) (trapped : Option ℕ) → AreStruck p (drop k strikes) later trapped → AreStruck p strikes (struck ++ later) trapped

split_at : (strikes : List (List Change)) (k : ℕ) (cs : List Change) → k < length strikes → cs ≡ get_or strikes k cs → drop k strikes ≡ cs ∷ drop (k + 1) strikes
split_at strikes k cs lt e = drop-cons strikes k cs lt ∙ ap (λ d. d ∷ drop (suc k) strikes) (sym e) ∙ rw add-one refl

pub one_so_far :
    (p : Pair) (strikes : List (List Change)) (k : ℕ) (before after : List Struck) (cs : List Change) (t : Option ℕ) → k < length strikes → cs ≡ get_or strikes k cs → IsStruckNext p cs before after t
    → is_some t ≡ false → AreSoFar p strikes k before → AreSoFar p strikes (k + 1) after
one_so_far p strikes k before after cs (Some pc) lt e next none so_far later trapped h = absurd (cc)
one_so_far p strikes k before after cs None lt e next none so_far later trapped h =
    let here : AreStruck p (drop k strikes) (next.0 ∷ later) trapped = subst (λ rest. AreStruck p rest (next.0 ∷ later) trapped) (sym (split_at strikes k cs lt e)) (next.1.1, next.1.2, h) in
    let joined : before ++ (next.0 ∷ later) ≡ after ++ later = sym (append_assoc before (next.0 ∷ []) later) ∙ ap (λ ss. ss ++ later) (sym next.1.0) in
    subst (λ ss. AreStruck p strikes ss trapped) joined (so_far (next.0 ∷ later) trapped here)

pub ends_trapped :
    (p : Pair) (strikes : List (List Change)) (k : ℕ) (before after : List Struck) (cs : List Change) (t : Option ℕ) → k < length strikes → cs ≡ get_or strikes k cs → IsStruckNext p cs before after t
    → is_some t ≡ true → AreSoFar p strikes k before → AreStruck p strikes after t
ends_trapped p strikes k before after cs None lt e next some so_far = absurd (cc)
ends_trapped p strikes k before after cs (Some pc) lt e next some so_far =
    let here : AreStruck p (drop k strikes) [] (Some pc) = subst (λ rest. AreStruck p rest [] (Some pc)) (sym (split_at strikes k cs lt e)) (pc, (next.1, refl)) in
    subst (λ ss. AreStruck p strikes ss (Some pc)) (append-nil before ∙ sym next.0) (so_far [] (Some pc) here)

pub ends_whole : (p : Pair) (strikes : List (List Change)) (k : ℕ) (struck : List Struck) → length strikes ≤ k → AreSoFar p strikes k struck → AreStruck p strikes struck None
ends_whole p strikes k struck all so_far =
    let here : AreStruck p (drop k strikes) [] None = subst (λ rest. AreStruck p rest [] None) (sym (drop_all k strikes all)) (refl, refl) in
    subst (λ ss. AreStruck p strikes ss None) (append-nil struck) (so_far [] None here)

-- the steps of the changes of each strike do not fall
pub all_ordered : (p : Pair) (strikes : List (List Change)) (struck : List Struck) (trapped : Option ℕ) → AreStruck p strikes struck trapped → All (IsStrike p.bounds) strikes → All (λ s. Ordered s.changes) struck
all_ordered p [] struck trapped are fits = subst (All (λ s. Ordered s.changes)) (sym are.0) (All-nil (λ (s : Struck). Ordered s.changes))
all_ordered p (cs ∷ rest) [] trapped are fits = All-nil (λ (s : Struck). Ordered s.changes)
all_ordered p (cs ∷ rest) (s ∷ struck) trapped are fits =
    All-cons (λ (s : Struck). Ordered s.changes) s struck (subst Ordered (sym are.0) (All-head (IsStrike p.bounds) cs rest fits).ordered)
    (all_ordered p rest struck trapped are.2 (All-tail (IsStrike p.bounds) cs rest fits))

-- ---- what is known of some
-- what is known of each, by its number
abbrev pub AreKnownBy : {A B : Type 0} → (A → Option B → Type 0) → List A → List (Option B) → Type 0
AreKnownBy {A} {B} P these found = (k : ℕ) (a : A) (known : Option B) → slice_get these k ≡ Some a → slice_get found k ≡ Some known → P a known

-- nothing is known
pub none_known : {A B : Type 0} (P : A → Option B → Type 0) (these : List A) (n : ℕ) (found : List (Option B)) → ((a : A) → P a None) → found ≡ replicate n None → AreKnownBy P these found
none_known {A} {B} P these n found holds e k a known there got =
    let all : slice_get (replicate n None) k ≡ Some known = subst (λ xs. slice_get xs k ≡ Some known) e got in
    let within : k < length (replicate {A = Option B} n None) = slice_get_within (replicate n None) k known all in
    let size : length (replicate {A = Option B} n None) ≡ n = length-replicate n None in
    let none : known ≡ None = sym (get_or_from_slice_get (replicate n None) k known None all) ∙ get_or-replicate n k None None (omega (arith, within, size)) in
    subst (P a) (sym none) (holds a)

-- one more is known
known_at :
    {A B : Type 0} (P : A → Option B → Type 0) (found after : List (Option B)) (k j : ℕ) (a : A) (r q : Option B) → k < length found → after ≡ set found k r → slice_get after j ≡ Some q
    → (j ≡ k → P a r) → (slice_get found j ≡ Some q → P a q) → (j ≡ k) ⊎ (j ≡ k → ⊥) → P a q
known_at P found after k j a r q lt e got here before (inl same) =
    let at : get_or after j q ≡ q = get_or_from_slice_get after j q q got in
    let new : get_or after j q ≡ r = ap (λ xs. get_or xs j q) e ∙ ap (λ i. get_or (set found k r) i q) same ∙ get_or-set_same found k r q lt in
    subst (P a) (sym new ∙ at) (here same)
known_at P found after k j a r q lt e got here before (inr other) =
    let at : get_or after j q ≡ q = get_or_from_slice_get after j q q got in
    let old : get_or found j q ≡ q = sym (get_or-set_other found k j r q other) ∙ ap (λ xs. get_or xs j q) (sym e) ∙ at in
    let size : length after ≡ length found = ap length e ∙ length-set found k r in
    let within : j < length after = slice_get_within after j q got in
    before (slice_get-get_or found j q (omega (arith, size, within)) ∙ ap Some old)

pub known_more :
    {A B : Type 0} (P : A → Option B → Type 0) (these : List A) (found after : List (Option B)) (k : ℕ) (a : A) (r : Option B) → k < length found → slice_get these k ≡ Some a
    → after ≡ set found k r → P a r → AreKnownBy P these found → AreKnownBy P these after
known_more {A} {B} P these found after k a r lt here e is so_far j b q there got =
    known_at P found after k j b r q lt e got (λ same. subst (λ x. P x r) (the_same same) is) (so_far j b q there) (cases_eq j k)
  where
    the_same : j ≡ k → a ≡ b
    the_same same = same_Some a b (sym here ∙ ap (slice_get these) (sym same) ∙ there)

-- one more is found behind those so far
pub pushed :
    {A : Type 0} (P : ℕ → A → Type 0) (xs after : List A) (i : ℕ) (x : A) → length xs ≡ i → after ≡ xs ++ x ∷ [] → P i x → ((k : ℕ) (a : A) → slice_get xs k ≡ Some a → P k a)
    → (k : ℕ) (a : A) → slice_get after k ≡ Some a → P k a
pushed P xs after i x count e here so_far k a got = by_case (cases_lt k (length xs)) where
  at : get_or (xs ++ x ∷ []) k a ≡ a
  at = ap (λ ys. get_or ys k a) (sym e) ∙ get_or_from_slice_get after k a a got

  by_case : (k < length xs) ⊎ (length xs ≤ k) → P k a
  by_case (inl l) = so_far k a (slice_get-get_or xs k a l ∙ ap Some (sym (get_or_append_left xs (x ∷ []) a k l) ∙ at))
  by_case (inr l) =
      let within : k < length after = slice_get_within after k a got in
      let size : length after ≡ length xs + 1 = ap length e ∙ length-append xs (x ∷ []) in
      let last : k ≡ length xs = omega (arith, l, within, size) in
      let same : x ≡ a = sym (get_or-append_seam xs x [] a) ∙ ap (λ n. get_or (xs ++ x ∷ []) n a) (sym last) ∙ at in
      subst (P k) same (subst (λ n. P n x) (sym count ∙ sym last) here)
