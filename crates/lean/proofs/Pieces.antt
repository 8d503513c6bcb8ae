-- The parts of a piece, where some of its instructions are behind: those since the last store are a run.
use Rattle.std.proofs.Common.{◌≡◌, ℕ, ◌+◌, ◌-◌, ◌*◌, ◌<◌, ◌≤◌, Bool, true, false, cond, List, [], ◌∷◌, ◌++◌, length, take, drop, get_or, sym, ap, ◌∙◌, subst, arith, append_assoc, length-drop, length-take}
use Rattle.std.proofs.lemmas.Bool.{false≢true}
use Rattle.std.proofs.lemmas.List.{drop_more, take_all, take_more, get_or-drop, drop-drop}
use Rattle.rv_isa.specs.declared.profile.TheConstants.{LAST_ORIGINAL}
use Rattle.rv_isa.specs.declared.class.Class.TheVariants as class
use Rattle.qed_model.specs.declared.role.Role.{Role}
use Rattle.qed_model.specs.declared.item.Item.{Item}
use Rattle.qed_model.specs.Weave.LeanCode.{is_store}
use Rattle.qed_model.specs.Weave.LeanParts.{store_parts, both_parts, parts_with}
use Rattle.qed_model.specs.Weave.Sequences.{Ins, Class, class_of}
use Rattle.weave_core.specs.Blocks.{IsLowAs, FitsPiece, AllFit}
use Rattle.weave.specs.Handed.{Comes, Handed}
use Rattle.weave.proofs.BodyLeft.{drop_fits}
use Rattle.weave.proofs.Taking.{UpTo, comes}
use Rattle.weave.proofs.Taking as part

module _ (diverse : Bool) (list rest : List Ins) (k run at : ℕ) (i : Ins) (less : k < length list) (item : get_or list k i ≡ i) (within : run ≤ k) (is : rest ≡ drop (k - run) list) where
  long : length rest ≡ length list - (k - run)
  long = ap length is ∙ length-drop (k - run) list

  next : get_or rest run i ≡ i
  next =
      let same : k - run + run ≡ k = omega (arith, within) in
      ap (λ l. get_or l run i) is ∙ get_or-drop (k - run) list run i ∙ ap (λ n. get_or list n i) same ∙ item

  abbrev before : List Ins
  before = take run rest

  abbrev behind : List Ins
  behind = drop (k + 1) list

  abbrev by : Bool → List (Role × List Item)
  by b = cond b (both_parts diverse before at ++ (store_parts i (at + 4 * length before) ++ parts_with diverse [] (at + 4 * length before + 4) behind)) (parts_with diverse (before ++ (i ∷ [])) at behind)

  split : parts_with diverse before at (drop k list) ≡ by (is_store (class_of i.kind))
  split = ap (parts_with diverse before at) (drop_more list k i less ∙ ap (λ x. x ∷ behind) item)

  -- an instruction that does not store is one more of the run
  pub on : is_store (class_of i.kind) ≡ false → parts_with diverse before at (drop k list) ≡ parts_with diverse (take (run + 1) rest) at behind
  on e =
      let inside : run < length rest = omega (arith, less, within, long) in
      split ∙ ap by e ∙ ap (λ l. parts_with diverse l at behind) (sym (take_more rest run i inside ∙ ap (λ x. before ++ (x ∷ [])) next))

  -- a store ends it
  pub through : is_store (class_of i.kind) ≡ true → parts_with diverse before at (drop k list) ≡ (both_parts diverse before at ++ store_parts i (at + 4 * length before)) ++ parts_with diverse [] (at + 4 * (run + 1)) behind
  through e =
      let count : length before ≡ run = let l = length-take run rest in omega (arith, l, long, less, within) in
      let place : at + 4 * length before + 4 ≡ at + 4 * (run + 1) = omega (arith, count) in
      split ∙ ap by e ∙ sym (append_assoc (both_parts diverse before at) (store_parts i (at + 4 * length before)) (parts_with diverse [] (at + 4 * length before + 4) behind))
      ∙ ap (λ n. (both_parts diverse before at ++ store_parts i (at + 4 * length before)) ++ parts_with diverse [] n behind) place

-- an instruction of a list that fits
fits_at : (list : List Ins) (k : ℕ) (i : Ins) → AllFit list → k < length list → get_or list k i ≡ i → FitsPiece i
fits_at list k i fit less item = (subst AllFit (drop_more list k i less ∙ ap (λ x. x ∷ drop (k + 1) list) item) (drop_fits k list fit)).0

-- a store names no register above x13
low_as : (c : Class) (i : Ins) → is_store c ≡ true → IsLowAs c i → (i.rs1 ≤ LAST_ORIGINAL) × (i.rs2 ≤ LAST_ORIGINAL)
low_as class.Store i e low = (low.1, low.2)
low_as _ i e low = absurd (false≢true e)

pub low_store : (list : List Ins) (k : ℕ) (i : Ins) → AllFit list → k < length list → get_or list k i ≡ i → is_store (class_of i.kind) ≡ true → (i.rs1 ≤ LAST_ORIGINAL) × (i.rs2 ≤ LAST_ORIGINAL)
low_store list k i fit less item e = low_as (class_of i.kind) i e (fits_at list k i fit less item).low

-- ---- some of the instructions are behind
-- the last ones, since the last store, are a run at the head of the rest
pub record Behind
    (old now : Bool × ℕ → List (Role × List Item) → List (Role × List Item) → Type 0) (items : List Item) (diverse : Bool) (list : List Ins) (first k : ℕ) (rest : List Ins)
    (run at : ℕ) : Type 0 where
  pub within : run ≤ k
  pub last : rest ≡ drop (k - run) list
  pub place : at + 4 * run ≡ first + 4 * k
  pub fits : AllFit rest
  pub up : UpTo old now items (parts_with diverse [] first list) (parts_with diverse (take run rest) at (drop k list))

module _
    (old now : Bool × ℕ → List (Role × List Item) → List (Role × List Item) → Type 0) (items : List Item) (diverse : Bool) (list : List Ins) (first k : ℕ) (rest : List Ins) (run at : ℕ)
    (b : Behind old now items diverse list first k rest run at) (i : Ins) (less : k < length list) (item : get_or list k i ≡ i) where
  pub one_more : is_store (class_of i.kind) ≡ false → Behind old now items diverse list first (k + 1) rest (run + 1) at
  one_more e = let h = b.place in let w = b.within in record {
    within = omega (arith, w);
    last = let same : k + 1 - (run + 1) ≡ k - run = omega (arith, w) in b.last ∙ ap (λ n. drop n list) (sym same);
    place = omega (arith, h);
    fits = b.fits;
    up = subst (UpTo old now items (parts_with diverse [] first list)) (on diverse list rest k run at i less item w b.last e) b.up;
  }

  pub run_comes : is_store (class_of i.kind) ≡ true → Comes now items (both_parts diverse (take run rest) at ++ store_parts i (at + 4 * length (take run rest)))
  run_comes e = comes _ _ (subst (UpTo old now items (parts_with diverse [] first list)) (through diverse list rest k run at i less item b.within b.last e) b.up)

  pub store_behind :
      (new : Bool × ℕ → List (Role × List Item) → List (Role × List Item) → Type 0) (more : List Item) → is_store (class_of i.kind) ≡ true
      → Handed now new more (both_parts diverse (take run rest) at ++ store_parts i (at + 4 * length (take run rest)))
      → Behind old new more diverse list first (k + 1) (drop (run + 1) rest) 0 (at + 4 * (run + 1))
  store_behind new more e h = let p = b.place in let w = b.within in record {
    within = omega arith;
    last = let same : k - run + (run + 1) ≡ k + 1 - 0 = omega (arith, w) in ap (drop (run + 1)) b.last ∙ drop-drop (run + 1) (k - run) list ∙ ap (λ n. drop n list) same;
    place = omega (arith, p);
    fits = drop_fits (run + 1) rest b.fits;
    up = part.on _ _ (subst (UpTo old now items (parts_with diverse [] first list)) (through diverse list rest k run at i less item w b.last e) b.up) h;
  }

-- a slice to the end
pub to_end : (n : ℕ) (is : List Ins) → take (length is - n) (drop n is) ≡ drop n is
to_end n is = let l = length-drop n is in take_all (length is - n) (drop n is) (omega (arith, l))

-- by equal values
pub same_behind :
    {old now new : Bool × ℕ → List (Role × List Item) → List (Role × List Item) → Type 0} {items more : List Item} {diverse : Bool} {list : List Ins} {first k : ℕ} {rest left : List Ins}
    {run steps at place : ℕ} → now ≡ new → items ≡ more → rest ≡ left → run ≡ steps → at ≡ place → Behind old new more diverse list first k left steps place
    → Behind old now items diverse list first k rest run at
same_behind {old} {now} {new} {items} {more} {diverse} {list} {first} {k} {rest} {left} {run} {steps} {at} {place} s i r n a b =
    subst (λ t. Behind old t items diverse list first k rest run at) (sym s)
    (subst (λ t. Behind old new t diverse list first k rest run at) (sym i)
    (subst (λ t. Behind old new more diverse list first k t run at) (sym r)
    (subst (λ t. Behind old new more diverse list first k left t at) (sym n) (subst (λ t. Behind old new more diverse list first k left steps t) (sym a) b))))
