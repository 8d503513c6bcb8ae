-- Bodies of blocks, along the words of the code.
use Rattle.std.proofs.Common.{◌≡◌, inl, inr, ⊎_elim, ℕ, zero, suc, ◌+◌, ◌*◌, ◌<◌, ◌≤◌, Bool, true, false, not, ◌&&◌, List, [], ◌∷◌, length, map, take, Some, None, refl, sym, ap, ◌∙◌, subst, arith}
use Rattle.std.specs.Prelude.{AllPairs, ◌==◌, ◌↔◌, IsTrue, if◌then◌else◌}
use Rattle.std.proofs.lemmas.Bool.{false≢true, eqb-true, eqb-false, false_from_ne_true}
use Rattle.tests.specs.declared.test.CodeWord.{CodeWord}
use Rattle.qed_model.specs.Weave.Sequences.{End, Falls, Stops, Ins, class_of}
use Rattle.qed_model.specs.Weave.Blocks.{IsBodyAt, StopsAt, ElfFile, Options}
use Rattle.tests.specs.Admission.CodeWords.{is_code, instruction_at}
use Rattle.tests.specs.Admission.Leaders.{IsLeader, is_end}
use Rattle.tests.specs.Admission.Test.{AreCodeWords}
use Rattle.machine.proofs.Lemmas.{among_of}
use Rattle.tests.proofs.Lemmas.{code_grain}
use Rattle.machine.specs.Members.{Among}
use Rattle.flow_recovery.proofs.CodeLaws.{word_code, word_stands}
use Rattle.block_split.specs.Bodies.{ends, size_behind, end_behind, body_size, body_end}
use Rattle.block_split.specs.Listed.{end_of}

abbrev pub addresses : List CodeWord → List ℕ
addresses ws = map (λ w. w.at) ws

abbrev pub instructions : List CodeWord → List Ins
instructions ws = map (λ w. w.ins) ws

module _ (f : ElfFile) where
  -- ---- words from an address on
  -- the words ascend, and each stands with its instruction
  abbrev pub Ascend : ℕ → List CodeWord → Type 0
  Ascend low [] = Unit {0}
  Ascend low (w ∷ ws) = (low ≤ w.at) × (is_code f w.at ≡ true) × (instruction_at f w.at ≡ Some w.ins) × Ascend (w.at + 1) ws

  -- a word stands at each code address from `low` on
  pub record Rest (low : ℕ) (ws : List CodeWord) : Type 0 where
    pub ascend : Ascend low ws
    pub complete : (a : ℕ) → low ≤ a → is_code f a ≡ true → Among a (addresses ws)

  pub rest_tail : (low : ℕ) (w : CodeWord) (ws : List CodeWord) → Rest low (w ∷ ws) → Rest (w.at + 1) ws
  rest_tail low w ws r = record {
    ascend = r.ascend.3;
    complete = λ a h e. let l = r.ascend.0 in ⊎_elim (λ s. absurd (omega (arith, s, h))) (λ m. m) (r.complete a (omega (arith, l, h)) e);
  }

  pub above : (low a : ℕ) (ws : List CodeWord) → Ascend low ws → Among a (addresses ws) → low ≤ a
  above low a [] r m = absurd m
  above low a (w ∷ ws) r m = let l = r.0 in ⊎_elim (λ s. omega (arith, s, l)) (λ k. let h = above (w.at + 1) a ws r.3 k in omega (arith, h, l)) m

  abbrev First : ℕ → List CodeWord → Type 0
  First low [] = Unit {0}
  First low (w ∷ ws) = low ≤ w.at

  ascending : (low : ℕ) (ws : List CodeWord) → First low ws → AllPairs (λ a b. a < b) (addresses ws) → ((w : CodeWord) → Among w ws → (is_code f w.at ≡ true) × (instruction_at f w.at ≡ Some w.ins)) → Ascend low ws
  ascending low [] l h k = tt
  ascending low (w ∷ ws) l h k =
      (l, (k w (inl refl)).0, (k w (inl refl)).1, ascending (w.at + 1) ws (next ws h) (λ i j d lt le. h (suc i) (suc j) d (omega (arith, lt)) (omega (arith, le))) (λ v m. k v (inr m))) where
        next : (vs : List CodeWord) → AllPairs (λ a b. a < b) (addresses (w ∷ vs)) → First (w.at + 1) vs
        next [] h = tt
        next (v ∷ vs) h = let p = h 0 1 0 (omega arith) (omega arith) in omega (arith, p)

  first_any : (ws : List CodeWord) → First 0 ws
  first_any [] = tt
  first_any (w ∷ ws) = omega arith

  pub rest_all : (code : List CodeWord) → AreCodeWords f code → Rest 0 code
  rest_all code words = record {
    ascend = ascending 0 code (first_any code) words.addresses.ascend (λ w m. (word_code f code words w m, word_stands f code words w m));
    complete = λ a h e. among_of a (addresses code) ((words.addresses.all a).1 e);
  }

  -- ---- what stands right behind a word
  -- without a further word nothing stands there
  none_behind : (p : ℕ) → Rest (p + 1) [] → is_code f (p + 4) ≡ false
  none_behind p r = false_from_ne_true (is_code f (p + 4)) (λ e. r.complete (p + 4) (omega arith) e)

  -- if the next word stands further on, nothing stands there either
  gap_behind : (p : ℕ) (w : CodeWord) (ws : List CodeWord) → is_code f p ≡ true → Rest (p + 1) (w ∷ ws) → (w.at ≡ p + 4 → ⊥) → is_code f (p + 4) ≡ false
  gap_behind p w ws c r ne =
      false_from_ne_true (is_code f (p + 4))
      (λ e.
      let low = r.ascend.0 in
      let at = code_grain f w.at r.ascend.1 in
      let here = code_grain f p c in
      ⊎_elim
      (λ s. ne (sym s))
      (λ m. let h = above (w.at + 1) (p + 4) ws r.ascend.3 m in omega (arith, low, at, here, h))
      (r.complete (p + 4) (omega arith) e))

  module _ (o : Options) (leads : ℕ → Bool) (exact : (a : ℕ) → IsTrue (leads a) ↔ IsLeader f o a) where
    no_leader : (a : ℕ) → leads a ≡ false → IsLeader f o a → ⊥
    no_leader a e l = false≢true (sym e ∙ (exact a).1 l)

    -- ---- how a body goes on behind its word at p
    record GoesOn (p n : ℕ) (xs : List Ins) (e : End) : Type 0 where
      stands : IsBodyAt f (p + 4) xs
      size : length xs ≡ n
      inside : (k : ℕ) → k < n → IsLeader f o (p + 4 + 4 * k) → ⊥
      stops : (m : ℕ) → StopsAt f o e (suc m) (p + 4 + 4 * n)

    at_once : (p : ℕ) (e : End) → ((m : ℕ) → StopsAt f o e (suc m) (p + 4)) → GoesOn p 0 [] e
    at_once p e h = record {
      stands = tt;
      size = refl;
      inside = λ k lt l. omega (arith, lt);
      stops = λ m. let z : p + 4 + 4 * 0 ≡ p + 4 = omega arith in subst (λ a. StopsAt f o e (suc m) a) (sym z) (h m);
    }

    one_more : (p n : ℕ) (i : Ins) (xs : List Ins) (e : End) → instruction_at f (p + 4) ≡ Some i → is_end (class_of i.kind) ≡ false → leads (p + 4) ≡ false → GoesOn (p + 4) n xs e → GoesOn p (n + 1) (i ∷ xs) e
    one_more p n i xs e at go free g = record {
      stands = (at, go, g.stands);
      size = let s = g.size in omega (arith, s);
      inside = λ k lt l. within k lt l;
      stops = λ m. let z : p + 4 + 4 * (n + 1) ≡ p + 4 + 4 + 4 * n = omega arith in subst (λ a. StopsAt f o e (suc m) a) (sym z) (g.stops m);
    } where
      within : (k : ℕ) → k < n + 1 → IsLeader f o (p + 4 + 4 * k) → ⊥
      within zero lt l = let z : p + 4 + 4 * 0 ≡ p + 4 = omega arith in no_leader (p + 4) free (subst (IsLeader f o) z l)
      within (suc k) lt l = let z : p + 4 + 4 * suc k ≡ p + 4 + 4 + 4 * k = omega arith in g.inside k (omega (arith, lt)) (subst (IsLeader f o) z l)

    -- how one word goes on, by its kind
    goes_by : (p : ℕ) (w : CodeWord) (ws : List CodeWord) → is_code f p ≡ true → Rest (p + 1) (w ∷ ws) → GoesOn w.at (size_behind leads w.at ws) (instructions (take (size_behind leads w.at ws) ws)) (end_of (end_behind leads w.at ws)) → (x y z : Bool) → (w.at == p + 4) ≡ x → leads w.at ≡ y → ends w ≡ z → GoesOn p (if (x && not y) && not z then size_behind leads w.at ws + 1 else 0) (instructions (take (if (x && not y) && not z then size_behind leads w.at ws + 1 else 0) (w ∷ ws))) (end_of (if x && not y then (if z then Some w.ins else end_behind leads w.at ws) else None))
    goes_by p w ws c r rec false y z ex ey ez = at_once p Falls (λ m. (omega arith, inr (gap_behind p w ws c r (eqb-false w.at (p + 4) ex))))
    goes_by p w ws c r rec true true z ex ey ez =
        let at : w.at ≡ p + 4 = eqb-true w.at (p + 4) ex in
        at_once p Falls (λ m. (omega arith, inl (subst (IsLeader f o) at ((exact w.at).0 ey))))
    goes_by p w ws c r rec true false true ex ey ez =
        let at : w.at ≡ p + 4 = eqb-true w.at (p + 4) ex in
        at_once p (Stops w.ins) (λ m. (ap (instruction_at f) (sym at) ∙ r.ascend.2, ez, inr (no_leader (p + 4) (ap leads (sym at) ∙ ey))))
    goes_by p w ws c r rec true false false ex ey ez =
        let at : w.at ≡ p + 4 = eqb-true w.at (p + 4) ex in
        let n = size_behind leads w.at ws in
        let e = end_of (end_behind leads w.at ws) in
        let more = one_more p n w.ins (instructions (take n ws)) e (ap (instruction_at f) (sym at) ∙ r.ascend.2) ez (ap leads (sym at) ∙ ey) (subst (λ a. GoesOn a n (instructions (take n ws)) e) at rec) in
        let s : suc n ≡ n + 1 = omega arith in
        subst (λ k. GoesOn p (n + 1) (instructions (take k (w ∷ ws))) e) s more

    goes_on : (p : ℕ) (ws : List CodeWord) → is_code f p ≡ true → Rest (p + 1) ws → GoesOn p (size_behind leads p ws) (instructions (take (size_behind leads p ws) ws)) (end_of (end_behind leads p ws))
    goes_on p [] c r = at_once p Falls (λ m. (omega arith, inr (none_behind p r)))
    goes_on p (w ∷ ws) c r =
        goes_by p w ws c r (goes_on w.at ws r.ascend.1 (rest_tail (p + 1) w ws r)) (w.at == p + 4) (leads w.at) (ends w) refl refl refl

    -- ---- the body that begins with a word
    pub record IsBody (a : ℕ) (xs : List Ins) (e : End) : Type 0 where
      pub stands : IsBodyAt f a xs
      pub inside : (k : ℕ) → 1 ≤ k → k < length xs → IsLeader f o (a + 4 * k) → ⊥
      pub stops : StopsAt f o e (length xs) (a + 4 * length xs)

    begins : (w : CodeWord) (n : ℕ) (xs : List Ins) (e : End) → instruction_at f w.at ≡ Some w.ins → ends w ≡ false → GoesOn w.at n xs e → IsBody w.at (w.ins ∷ xs) e
    begins w n xs e at go g = record {
      stands = (at, go, g.stands);
      inside = λ k one lt l. within k one lt l;
      stops =
          let s = g.size in
          let z : w.at + 4 * suc (length xs) ≡ w.at + 4 + 4 * n = omega (arith, s) in
          subst (λ a. StopsAt f o e (suc (length xs)) a) (sym z) (g.stops (length xs));
    } where
      within : (k : ℕ) → 1 ≤ k → k < suc (length xs) → IsLeader f o (w.at + 4 * k) → ⊥
      within zero one lt l = omega (arith, one)
      within (suc k) one lt l =
          let s = g.size in
          let z : w.at + 4 * suc k ≡ w.at + 4 + 4 * k = omega arith in
          g.inside k (omega (arith, lt, s)) (subst (IsLeader f o) z l)

    body_by : (low : ℕ) (w : CodeWord) (ws : List CodeWord) → Rest low (w ∷ ws) → (z : Bool) → ends w ≡ z → IsBody w.at (instructions (take (if z then 0 else size_behind leads w.at ws + 1) (w ∷ ws))) (end_of (if z then Some w.ins else end_behind leads w.at ws))
    body_by low w ws r true ez = record {
      stands = tt;
      inside = λ k one lt l. omega (arith, lt);
      stops = let z : w.at + 4 * 0 ≡ w.at = omega arith in (ap (instruction_at f) z ∙ r.ascend.2, ez, inl refl);
    }
    body_by low w ws r false ez =
        let n = size_behind leads w.at ws in
        let e = end_of (end_behind leads w.at ws) in
        let b = begins w n (instructions (take n ws)) e r.ascend.2 ez (goes_on w.at ws r.ascend.1 (rest_tail low w ws r)) in
        let s : suc n ≡ n + 1 = omega arith in
        subst (λ k. IsBody w.at (instructions (take k (w ∷ ws))) e) s b

    pub body_is : (low : ℕ) (w : CodeWord) (ws : List CodeWord) → Rest low (w ∷ ws) → IsBody w.at (instructions (take (body_size leads (w ∷ ws)) (w ∷ ws))) (end_of (body_end leads (w ∷ ws)))
    body_is low w ws r = body_by low w ws r (ends w) refl
