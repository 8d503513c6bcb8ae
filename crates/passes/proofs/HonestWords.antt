-- Honest words.
use Rattle.std.proofs.Common.{◌≡◌, ℕ, ◌+◌, ◌*◌, ◌%◌, ◌^◌, ◌<◌, ◌≤◌, Bool, true, false, cond, List, [], ◌∷◌, length, refl, sym, ap, ◌∙◌, subst, arith}
use Rattle.std.specs.Prelude.{◌==◌, pos}
use Rattle.std.proofs.lemmas.Bool.{eqb-false}
use Rattle.rv_isa.specs.declared.class.Class.TheVariants as class
use Rattle.machine.specs.Step.{Ins, Addi, Auipc, Beq, Jal, Jalr, ins, class_of, Class, Fetched, Known, HasAt, imm, ebreak}
use Rattle.machine.specs.Offsets.{distance_between, upper_part, lower_part}
use Rattle.qed_model.specs.Weave.Placed.{go_words, instructions_from}
use Rattle.qed_model.specs.declared.item.Item.{Item}
use Rattle.qed_model.specs.declared.item.Item.TheVariants.{Plain, Constant, Go}
use Rattle.qed_model.specs.Weave.Sequences.{guard, enter, LAST_ORIGINAL, PAIR_DISTANCE, TEMPORARY}
use Rattle.machine.proofs.Lemmas.{difference, brk}
use Rattle.weave_core.specs.Lock.{first_load, mirror_place, second_load, word_check}
use Rattle.passes.specs.Honest.{NoBreak, sign_check, pairs, words, signs, HonestAs, AllHonest, HonestAt, HonestItems}
use Rattle.passes.specs.Compose.{honest_items_none}

-- ---- words that are not EBREAK
pub other_word : (c : ℕ → Fetched) (a : ℕ) (i : Ins) (k : Class) → c a ≡ Known i → class_of i.kind ≡ k → (k ≡ class.Break → ⊥) → NoBreak c a
other_word c a i k h e ne b = ne (sym e ∙ is (sym h ∙ b)) where
  is : Known i ≡ ebreak → class_of i.kind ≡ class.Break
  is x = let k : i ≡ brk = cc in ap (λ (j : Ins). class_of j.kind) k

-- a class whose instructions go on to the next word
abbrev pub GoesOn : Class → Type 0
GoesOn class.Compute = Unit {0}
GoesOn class.Load = Unit {0}
GoesOn class.Store = Unit {0}
GoesOn class.Fence = Unit {0}
GoesOn _ = ⊥

-- a class without any demand
abbrev pub Ends : Class → Type 0
Ends class.JumpReg = Unit {0}
Ends class.End = Unit {0}
Ends class.Illegal = Unit {0}
Ends _ = ⊥

module _ (far : Bool) where
  -- ---- one word
  on_as : (k : Class) (c : ℕ → Fetched) (a : ℕ) (i : Ins) → GoesOn k → NoBreak c (a + 4) → HonestAs k c a i
  on_as class.Compute c a i g n = n
  on_as class.Load c a i g n = n
  on_as class.Store c a i g n = n
  on_as class.Fence c a i g n = n
  on_as k c a i g n = absurd g

  no_break : (k : Class) → GoesOn k → k ≡ class.Break → ⊥
  no_break class.Break g e = g
  no_break k g e = absurd (cc)

  pub honest_on : (i : Ins) (k : Class) → class_of i.kind ≡ k → GoesOn k → HonestItems far (Plain i ∷ [])
  honest_on i k e g c en a near has calm ent = record { each = (subst (λ q. HonestAs q c a i) (sym e) (on_as k c a i g calm), tt); front = other_word c a i k has.0 e (no_break k g) }

  end_as : (k : Class) (c : ℕ → Fetched) (a : ℕ) (i : Ins) → Ends k → HonestAs k c a i
  end_as class.JumpReg c a i g = tt
  end_as class.End c a i g = tt
  end_as class.Illegal c a i g = tt
  end_as k c a i g = absurd g

  end_break : (k : Class) → Ends k → k ≡ class.Break → ⊥
  end_break class.Break g e = g
  end_break k g e = absurd (cc)

  pub honest_end : (i : Ins) (k : Class) → class_of i.kind ≡ k → Ends k → HonestItems far (Plain i ∷ [])
  honest_end i k e g c en a near has calm ent = record { each = (subst (λ q. HonestAs q c a i) (sym e) (end_as k c a i g), tt); front = other_word c a i k has.0 e (end_break k g) }

  -- ---- constants and jumps
  pub honest_constant : (r v : ℕ) → HonestItems far (Constant r v ∷ [])
  honest_constant r v c en a near has calm ent = record {
    each = (other_word c (a + 4) (ins Addi r r 0 (lower_part (distance_between a v))) class.Compute has.1.0 refl (λ e. absurd (cc)), (calm8, tt));
    front = other_word c a (ins Auipc r 0 0 (upper_part (distance_between a v))) class.Compute has.0 refl (λ e. absurd (cc));
  } where
    calm8 : NoBreak c (a + 4 + 4)
    calm8 = let s : a + 8 ≡ a + 4 + 4 = omega arith in subst (NoBreak c) s calm

  pub go_as : (b : Bool) (c : ℕ → Fetched) (a e : ℕ) → a < 2 ^ 64 → e < 2 ^ 64 → NoBreak c e → HasAt c a (go_words b a e) → AllHonest c a (go_words b a e) × NoBreak c a
  go_as false c a e ha he n has = ((subst (NoBreak c) (sym (difference a e ha he)) n, tt), other_word c a (ins Jal 0 0 0 (distance_between a e)) class.Jump has.0 refl (λ e. absurd (cc)))
  go_as true c a e ha he n has = ((other_word c (a + 4) (ins Jalr 0 TEMPORARY 0 (lower_part (distance_between a e))) class.JumpReg has.1.0 refl (λ e. absurd (cc)), (tt, tt)), other_word c a (ins Auipc TEMPORARY 0 0 (upper_part (distance_between a e))) class.Compute has.0 refl (λ e. absurd (cc)))

  pub honest_go : (t : ℕ) → HonestItems far (Go t ∷ [])
  honest_go t c en a near has calm ent = let w = ent t in by far near has w.0 w.1 where
    by :
        (b : Bool) → a + 4 * length (instructions_from b en a (Go t ∷ [])) + 64 < 2 ^ 64 → HasAt c a (instructions_from b en a (Go t ∷ []))
        → en t < 2 ^ 64 → NoBreak c (en t) → HonestAt b (Go t ∷ []) c en a
    by false near has low n = let g = go_as false c a (en t) (omega (arith, near)) low n has in record { each = g.0; front = g.1 }
    by true near has low n = let g = go_as true c a (en t) (omega (arith, near)) low n has in record { each = g.0; front = g.1 }

  -- ---- comparisons
  guard_some : (q : ℕ) → 1 ≤ q → q ≤ LAST_ORIGINAL → HonestItems far (Plain (ins Beq 0 q (q + PAIR_DISTANCE) (pos 8)) ∷ Plain brk ∷ [])
  guard_some q one low c en a near has calm ent =
      let s : a + 8 ≡ (a + 8) % 2 ^ 64 = omega (arith, near) in
      record {
        each = ((subst (NoBreak c) s calm, λ e. pairs q refl one low), (tt, tt));
        front = other_word c a (ins Beq 0 q (q + PAIR_DISTANCE) (pos 8)) class.Branch has.0 refl (λ e. absurd (cc));
      }

  pub honest_guard : (q : ℕ) → q ≤ LAST_ORIGINAL → HonestItems far (guard q)
  honest_guard q low =
      elim (q == 0) as (λ b. (q == 0) ≡ b → HonestItems far (cond b [] (Plain (ins Beq 0 q (q + PAIR_DISTANCE) (pos 8)) ∷ Plain brk ∷ []))) [
        | true ↦ λ t. honest_items_none far
        | false ↦ λ t. guard_some q (let z = eqb-false q 0 t in omega (arith, z)) low
      ] refl

  -- the entry of a block
  pub honest_enter : (t : ℕ) → HonestItems far (enter t)
  honest_enter t c en a near has calm ent =
      let up = ins Auipc TEMPORARY 0 0 (upper_part (distance_between a t)) in
      let lo = ins Addi TEMPORARY TEMPORARY 0 (lower_part (distance_between a t)) in
      let s : a + 16 ≡ (a + 4 + 4 + 8) % 2 ^ 64 = omega (arith, near) in
      let p : a + 4 + 4 ≡ a + 8 = omega arith in
      record {
        each = (other_word c (a + 4) lo class.Compute has.1.0 refl (λ e. absurd (cc)), (other_word c (a + 4 + 4) sign_check class.Branch has.1.1.0 refl (λ e. absurd (cc)), ((subst (NoBreak c) s calm, λ e. signs a t refl p (record { upper = has.0; lower = has.1.0 })), (tt, tt))));
        front = other_word c a up class.Compute has.0 refl (λ e. absurd (cc));
      }

  -- a visited word, up to its EBREAK
  abbrev pub visit_head : List Item
  visit_head = Plain first_load ∷ Plain mirror_place ∷ Plain second_load ∷ Plain word_check ∷ Plain brk ∷ []

  pub honest_head : HonestItems far visit_head
  honest_head c en a near has calm ent =
      let s : a + 20 ≡ (a + 4 + 4 + 4 + 8) % 2 ^ 64 = omega (arith, near) in
      let p : a + 4 + 4 + 4 ≡ a + 12 = omega arith in
      let e8 : a + 4 + 4 ≡ a + 8 = omega arith in
      let e16 : a + 4 + 4 + 4 + 4 ≡ a + 16 = omega arith in
      record {
        each = (other_word c (a + 4) mirror_place class.Compute has.1.0 refl (λ e. absurd (cc)), (other_word c (a + 4 + 4) second_load class.Load has.1.1.0 refl (λ e. absurd (cc)), (other_word c (a + 4 + 4 + 4) word_check class.Branch has.1.1.1.0 refl (λ e. absurd (cc)), ((subst (NoBreak c) s calm, λ e. words a refl p (record { first = has.0; mirror = has.1.0; second = ap c (sym e8) ∙ has.1.1.0; check = ap c (sym p) ∙ has.1.1.1.0; brk = ap c (sym e16) ∙ has.1.1.1.1.0 })), (tt, tt)))));
        front = other_word c a first_load class.Load has.0 refl (λ e. absurd (cc));
      }

  -- a branch of temporaries over a constant
  pub honest_skip : (i : Ins) (r v : ℕ) → class_of i.kind ≡ class.Branch → imm i ≡ 12 → HonestItems far (Plain i ∷ Constant r v ∷ [])
  honest_skip i r v e m c en a near has calm ent =
      let up = ins Auipc r 0 0 (upper_part (distance_between (a + 4) v)) in
      let lo = ins Addi r r 0 (lower_part (distance_between (a + 4) v)) in
      let s : a + 12 ≡ (a + imm i) % 2 ^ 64 = omega (arith, near, m) in
      let p : a + 12 ≡ a + 4 + 4 + 4 = omega arith in
      let n4 = other_word c (a + 4) up class.Compute has.1.0 refl (λ e. absurd (cc)) in
      record {
        each = (subst (λ q. HonestAs q c a i) (sym e) (subst (NoBreak c) s calm, λ b. absurd (n4 b)), (other_word c (a + 4 + 4) lo class.Compute has.1.1.0 refl (λ e. absurd (cc)), (subst (NoBreak c) p calm, tt)));
        front = other_word c a i class.Branch has.0 e (λ e. absurd (cc));
      }
