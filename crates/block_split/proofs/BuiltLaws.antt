-- The blocks of words, one more word at a time.
use Rattle.std.proofs.Common.{◌≡◌, ℕ, zero, suc, ◌+◌, ◌<◌, ◌≤◌, Bool, true, false, not, cond, ◌&&◌, Option, Some, None, List, [], ◌∷◌, ◌++◌, length, map, take, drop, get_or, refl, sym, ap, ◌∙◌, subst, arith}
use Rattle.std.specs.Prelude.{◌==◌, AllPairs, filter, if◌then◌else◌}
use Rattle.std.proofs.lemmas.Bool.{eqb-true, eq-eqb, false_from_ne_true}
use Rattle.std.proofs.lemmas.List.{drop_all, append-nil, append_assoc}
use Rattle.rv_isa.specs.declared.ins.Ins.{Ins}
use Rattle.tests.specs.declared.test.CodeWord.{CodeWord}
use Rattle.machine.specs.Numbers.{is_at}
use Rattle.machine.specs.Members.{Every, Pairs}
use Rattle.flow_recovery.proofs.OrderLaws.{pairs_of}
use Rattle.block_split.specs.declared.block.CodeBlock.{CodeBlock}
use Rattle.block_split.specs.Bodies.{ends, size_behind, end_behind}
use Rattle.block_split.specs.Built.{first, behind, IsLongBlock, IsShortBlock, BegunBlocks, AddsBlock, Built}

-- the rest of words begins with a word
pub record Head (words : List CodeWord) (at : ℕ) : Type 0 where
  pub word : CodeWord
  pub is : drop at words ≡ word ∷ drop (suc at) words

head_later : (x : CodeWord) (xs : List CodeWord) (at : ℕ) → Head xs at → Head (x ∷ xs) (suc at)
head_later x xs at h = record { word = h.word; is = h.is }

pub head_of : (words : List CodeWord) (at : ℕ) → at < length words → Head words at
head_of [] at lt = absurd (omega (arith, lt))
head_of (x ∷ xs) zero lt = record { word = x; is = refl }
head_of (x ∷ xs) (suc at) lt = head_later x xs at (head_of xs at (omega (arith, lt)))

got_head : (words : List CodeWord) (at : ℕ) (d w : CodeWord) (rest : List CodeWord) → drop at words ≡ w ∷ rest → get_or words at d ≡ w
got_head words at d w rest e = sym (head_drop words at d) ∙ ap (λ (xs : List CodeWord). get_or xs 0 d) e where
  head_drop : (xs : List CodeWord) (k : ℕ) (d : CodeWord) → get_or (drop k xs) 0 d ≡ get_or xs k d
  head_drop [] zero d = refl
  head_drop [] (suc k) d = refl
  head_drop (x ∷ xs) zero d = refl
  head_drop (x ∷ xs) (suc k) d = head_drop xs k d

abbrev addresses : List CodeWord → List ℕ
addresses ws = map (λ c. c.at) ws

module _ (leads : ℕ → Bool) (every : Bool) (reached : ℕ → Bool) (most : ℕ) where
  -- the block that begins with the first word, by what is known there
  begun_long : (t s : Bool) (w : CodeWord) (ws : List CodeWord) (b : CodeBlock) → t ≡ true → IsLongBlock leads reached most (w ∷ ws) b → BegunBlocks t s leads reached most (w ∷ ws) (b ∷ [])
  begun_long true s w ws b e h = record { block = b; is = refl; holds = h }
  begun_long false s w ws b e h = absurd (cc)

  begun_short : (t s : Bool) (w : CodeWord) (ws : List CodeWord) (b : CodeBlock) → t ≡ false → s ≡ true → IsShortBlock w b → BegunBlocks t s leads reached most (w ∷ ws) (b ∷ [])
  begun_short true s w ws b e i h = absurd (cc)
  begun_short false false w ws b e i h = absurd (cc)
  begun_short false true w ws b e i h = record { block = b; is = refl; holds = h }

  begun_none : (t s : Bool) (w : CodeWord) (ws : List CodeWord) → t ≡ false → s ≡ false → BegunBlocks t s leads reached most (w ∷ ws) []
  begun_none true s w ws e i = absurd (cc)
  begun_none false true w ws e i = absurd (cc)
  begun_none false false w ws e i = refl

  -- a block at a leader
  pub adds_long : (words : List CodeWord) (leader : Bool) (b : CodeBlock) (old new : List CodeBlock) → 1 ≤ length words → leader ≡ true → IsLongBlock leads reached most words b → new ≡ old ++ b ∷ [] → AddsBlock leader leads every reached most words old new
  adds_long [] leader b old new some e h n = absurd (omega (arith, some))
  adds_long (x ∷ xs) leader b old new some e h n = record { added = b ∷ []; new_is = n; begun = begun_long leader every x xs b e h }

  -- a block at no leader, if each code address has a block
  pub adds_short : (words : List CodeWord) (leader : Bool) (v : CodeWord) (b : CodeBlock) (old new : List CodeBlock) → 1 ≤ length words → leader ≡ false → v ≡ get_or words 0 v → every ≡ true → IsShortBlock v b → new ≡ old ++ b ∷ [] → AddsBlock leader leads every reached most words old new
  adds_short [] leader v b old new some e q i h n = absurd (omega (arith, some))
  adds_short (x ∷ xs) leader v b old new some e q i h n = record { added = b ∷ []; new_is = n; begun = begun_short leader every x xs b e i (subst (λ y. IsShortBlock y b) q h) }

  -- no block
  pub adds_none : (words : List CodeWord) (leader : Bool) (old : List CodeBlock) → 1 ≤ length words → leader ≡ false → every ≡ false → AddsBlock leader leads every reached most words old old
  adds_none [] leader old some e i = absurd (omega (arith, some))
  adds_none (x ∷ xs) leader old some e i = record { added = []; new_is = sym (append-nil old); begun = begun_none leader every x xs e i }

  -- ---- along the leaders
  first_above : (a : ℕ) (bs : List ℕ) → Every (λ b. a < b) bs → is_at (first (filter leads bs)) a ≡ false
  first_above a [] h = refl
  first_above a (b ∷ bs) h =
      elim (leads b) as (λ z. is_at (first (cond z (b ∷ filter leads bs) (filter leads bs))) a ≡ false)
      [ true ↦ false_from_ne_true (b == a) (λ e. let s = eqb-true b a e in let lt = h.0 in omega (arith, s, lt)) | false ↦ first_above a bs h.1 ]

  first_is : (a : ℕ) (bs : List ℕ) → Every (λ b. a < b) bs → is_at (first (filter leads (a ∷ bs))) a ≡ leads a
  first_is a bs h = elim (leads a) as (λ z. is_at (first (cond z (a ∷ filter leads bs) (filter leads bs))) a ≡ z) [ true ↦ eq-eqb a a refl | false ↦ first_above a bs h ]

  none_behind : (a : ℕ) (bs : List ℕ) → is_at (first bs) a ≡ false → behind a bs ≡ bs
  none_behind a [] e = refl
  none_behind a (b ∷ bs) e = ap (λ z. if z then bs else b ∷ bs) e

  behind_is : (a : ℕ) (bs : List ℕ) → Every (λ b. a < b) bs → behind a (filter leads (a ∷ bs)) ≡ filter leads bs
  behind_is a bs h =
      elim (leads a) as (λ z. behind a (cond z (a ∷ filter leads bs) (filter leads bs)) ≡ filter leads bs)
      [ true ↦ ap (λ z. if z then filter leads bs else a ∷ filter leads bs) (eq-eqb a a refl) | false ↦ none_behind a (filter leads bs) (first_above a bs h) ]

  -- up to the next leader, a test that knows only that leader agrees with the test for all
  abbrev Agrees : (ℕ → Bool) → List CodeWord → Type 0
  Agrees next [] = Unit {0}
  Agrees next (w ∷ ws) = (next w.at ≡ leads w.at) × (leads w.at ≡ false → Agrees next ws)

  agrees : (ws : List CodeWord) → Pairs (λ a b. a < b) (addresses ws) → Agrees (is_at (first (filter leads (addresses ws)))) ws
  agrees [] h = tt
  agrees (w ∷ ws) h = (
    first_is w.at (addresses ws) h.0,
    λ e. subst (λ z. Agrees (is_at (first (cond z (w.at ∷ filter leads (addresses ws)) (filter leads (addresses ws))))) ws) (sym e) (agrees ws h.1),
  )

  size_by : (x y z : Bool) (m n : ℕ) → (y ≡ false → m ≡ n) → (if (x && not y) && not z then m + 1 else 0) ≡ (if (x && not y) && not z then n + 1 else 0)
  size_by false y z m n h = refl
  size_by true true z m n h = refl
  size_by true false z m n h = ap (λ k. if not z then k + 1 else 0) (h refl)

  size_agrees : (next : ℕ → Bool) (p : ℕ) (ws : List CodeWord) → Agrees next ws → size_behind next p ws ≡ size_behind leads p ws
  size_agrees next p [] a = refl
  size_agrees next p (w ∷ ws) a =
      ap (λ y. if ((w.at == p + 4) && not y) && not (ends w) then size_behind next w.at ws + 1 else 0) a.0
      ∙ size_by (w.at == p + 4) (leads w.at) (ends w) (size_behind next w.at ws) (size_behind leads w.at ws) (λ e. size_agrees next w.at ws (a.1 e))

  end_by : (x y z : Bool) (i : Option Ins) (m n : Option Ins) → (y ≡ false → m ≡ n) → (if x && not y then (if z then i else m) else None) ≡ (if x && not y then (if z then i else n) else None)
  end_by false y z i m n h = refl
  end_by true true z i m n h = refl
  end_by true false z i m n h = ap (λ k. if z then i else k) (h refl)

  end_agrees : (next : ℕ → Bool) (p : ℕ) (ws : List CodeWord) → Agrees next ws → end_behind next p ws ≡ end_behind leads p ws
  end_agrees next p [] a = refl
  end_agrees next p (w ∷ ws) a =
      ap (λ y. if (w.at == p + 4) && not y then (if ends w then Some w.ins else end_behind next w.at ws) else None) a.0
      ∙ end_by (w.at == p + 4) (leads w.at) (ends w) (Some w.ins) (end_behind next w.at ws) (end_behind leads w.at ws) (λ e. end_agrees next w.at ws (a.1 e))

  long_agrees : (next : ℕ → Bool) (w : CodeWord) (ws : List CodeWord) (b : CodeBlock) → Agrees next ws → IsLongBlock next reached most (w ∷ ws) b → IsLongBlock leads reached most (w ∷ ws) b
  long_agrees next w ws b a h = record {
    start = h.start;
    body = h.body ∙ ap (λ n. map (λ (c : CodeWord). c.ins) (take (if ends w then 0 else n + 1) (w ∷ ws))) (size_agrees next w.at ws a);
    pieces = h.pieces;
    end = h.end ∙ ap (λ e. if ends w then Some w.ins else e) (end_agrees next w.at ws a);
    marked = h.marked;
  }

  begun_agrees : (t s : Bool) (next : ℕ → Bool) (w : CodeWord) (ws : List CodeWord) (bs : List CodeBlock) → Agrees next ws → BegunBlocks t s next reached most (w ∷ ws) bs → BegunBlocks t s leads reached most (w ∷ ws) bs
  begun_agrees true s next w ws bs a h = record { block = h.block; is = h.is; holds = long_agrees next w ws h.block a h.holds }
  begun_agrees false true next w ws bs a h = h
  begun_agrees false false next w ws bs a h = h

  -- ---- the list
  -- the blocks so far, with those of the rest, are all; the leaders of the rest are left
  pub record Done (words : List CodeWord) (at : ℕ) (left : List ℕ) (done : List CodeBlock) : Type 0 where
    pub left_are : left ≡ filter leads (addresses (drop at words))
    pub made : (later : List CodeBlock) → Built leads every reached most (drop at words) later → Built leads every reached most words (done ++ later)

  pub all_built : (words : List CodeWord) (at : ℕ) (left : List ℕ) (done : List CodeBlock) → length words ≤ at → Done words at left done → Built leads every reached most words done
  all_built words at left done le d = subst (Built leads every reached most words) (append-nil done) (d.made [] (subst (λ ws. Built leads every reached most ws []) (sym (drop_all at words le)) refl))

  rest_pairs : (words : List CodeWord) (k : ℕ) → Pairs (λ a b. a < b) (addresses words) → Pairs (λ a b. a < b) (addresses (drop k words))
  rest_pairs [] zero h = tt
  rest_pairs [] (suc k) h = tt
  rest_pairs (w ∷ ws) zero h = h
  rest_pairs (w ∷ ws) (suc k) h = rest_pairs ws k h.1

  -- one more word
  pub next_built :
      (words ws : List CodeWord) (at : ℕ) (left after : List ℕ) (d : CodeWord) (leader : Bool) (next : Option ℕ) (old new : List CodeBlock)
      → at < length words → ws ≡ drop at words → AllPairs (λ a b. a < b) (addresses words)
      → leader ≡ is_at (first left) (get_or words at d).at → after ≡ behind (get_or words at d).at left → next ≡ first after → AddsBlock leader (is_at next) every reached most ws old new → Done words at left old → Done words (at + 1) after new
  next_built words ws at left after d leader next old new lt e ascend by_left by_behind by_after adds before =
      let h = head_of words at lt in
      let w = h.word in
      let rest = drop (suc at) words in
      let kept = filter leads (addresses rest) in
      let one : at + 1 ≡ suc at = omega arith in
      let pairs : Pairs (λ a b. a < b) (addresses (w ∷ rest)) = subst (λ (xs : List CodeWord). Pairs (λ a b. a < b) (addresses xs)) h.is (rest_pairs words at (pairs_of (λ a b. a < b) (addresses words) ascend)) in
      let here : (get_or words at d).at ≡ w.at = ap (λ (x : CodeWord). x.at) (got_head words at d w rest h.is) in
      let left_is : left ≡ filter leads (addresses (w ∷ rest)) = before.left_are ∙ ap (λ (xs : List CodeWord). filter leads (addresses xs)) h.is in
      let after_is : after ≡ kept = by_behind ∙ ap (λ a. behind a left) here ∙ ap (behind w.at) left_is ∙ behind_is w.at (addresses rest) pairs.0 in
      let leader_is : leader ≡ leads w.at = by_left ∙ ap (is_at (first left)) here ∙ ap (λ bs. is_at (first bs) w.at) left_is ∙ first_is w.at (addresses rest) pairs.0 in
      let by_next : BegunBlocks (leads w.at) every (is_at (first kept)) reached most (w ∷ rest) adds.added =
      subst (λ z. BegunBlocks z every (is_at (first kept)) reached most (w ∷ rest) adds.added) leader_is
      (subst (λ n. BegunBlocks leader every (is_at n) reached most (w ∷ rest) adds.added) (by_after ∙ ap first after_is)
      (subst (λ xs. BegunBlocks leader every (is_at next) reached most xs adds.added) (e ∙ h.is) adds.begun)) in
      let begun = begun_agrees (leads w.at) every (is_at (first kept)) w rest adds.added (agrees rest pairs.1) by_next in
      record {
        left_are = after_is ∙ ap (λ n. filter leads (addresses (drop n words))) (sym one);
        made = λ later built.
            let tail : Built leads every reached most rest later = subst (λ n. Built leads every reached most (drop n words) later) one built in
            let joined : Built leads every reached most (w ∷ rest) (adds.added ++ later) = record { front = adds.added; back = later; is = refl; first = begun; rest = tail } in
            let all = before.made (adds.added ++ later) (subst (λ xs. Built leads every reached most xs (adds.added ++ later)) (sym h.is) joined) in
            subst (Built leads every reached most words) (sym (append_assoc old adds.added later) ∙ ap (λ bs. bs ++ later) (sym adds.new_is)) all;
      }
