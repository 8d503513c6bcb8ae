-- The words of a leave are honest.
use Rattle.std.proofs.Common.{◌≡◌, ℕ, ◌+◌, ◌%◌, ◌^◌, ◌≤◌, Bool, true, false, cond, List, [], ◌∷◌, ◌++◌, refl, sym, subst, arith}
use Rattle.std.specs.Prelude.{◌==◌, pos, neg_ℤ}
use Rattle.rv_isa.specs.declared.class.Class.TheVariants as class
use Rattle.machine.specs.Step.{Ins, Addi, Andi, Add, Auipc, Jal, Jalr, Lw, ins, class_of, Class, imm, target}
use Rattle.machine.specs.Offsets.{distance_between, upper_part, lower_part}
use Rattle.qed_model.specs.Weave.Placed.{go_size}
use Rattle.qed_model.specs.declared.item.Item.{Item}
use Rattle.qed_model.specs.declared.item.Item.TheVariants.{Plain, Constant, Go}
use Rattle.qed_model.specs.Weave.Sequences.{pair, guard, guards_of, links, go_on, LAST_ORIGINAL, DISTANCE, SIGNATURE, TEMPORARY, SPARE}
use Rattle.machine.proofs.Lemmas.{difference}
use Rattle.passes.specs.Honest.{NoBreak, HonestAs, HonestItems}
use Rattle.passes.specs.Pass.{Honest}
use Rattle.passes.specs.Compose.{honest_items_then, honest_items_none}
use Rattle.passes.proofs.HonestWords.{other_word, honest_on, honest_end, honest_constant, honest_go, honest_guard}
use Rattle.flow_tracking.specs.Leaving.{left_as, left, IsLeft}
use Rattle.weave_core.proofs.Lemmas.{small_size}

module _ (far : Bool) where
  plain_then : (i : Ins) (xs : List Item) → HonestItems far (Plain i ∷ []) → HonestItems far xs → HonestItems far (Plain i ∷ xs)
  plain_then i xs a b = honest_items_then far (Plain i ∷ []) xs a b

  computes : (i : Ins) (xs : List Item) → class_of i.kind ≡ class.Compute → HonestItems far xs → HonestItems far (Plain i ∷ xs)
  computes i xs e b = plain_then i xs (honest_on far i class.Compute e tt) b

  honest_go_on : (n : ℕ) → HonestItems far (go_on n)
  honest_go_on n = honest_items_then far (Constant SIGNATURE n ∷ []) (Go n ∷ []) (honest_constant far 16 n) (honest_go far n)

  honest_links : (i : Ins) (at : ℕ) → HonestItems far (links i at)
  honest_links i at =
      elim (i.rd == 0) as (λ t. HonestItems far (cond t [] (Constant i.rd ((at + 4) % 2 ^ 64) ∷ Constant (pair i.rd) ((at + 4) % 2 ^ 64) ∷ []))) [
        | true ↦ honest_items_none far
        | false ↦ honest_items_then far
            (Constant i.rd ((at + 4) % 2 ^ 64) ∷ []) (Constant (pair i.rd) ((at + 4) % 2 ^ 64) ∷ [])
            (honest_constant far i.rd ((at + 4) % 2 ^ 64)) (honest_constant far (pair i.rd) ((at + 4) % 2 ^ 64))
      ]

  honest_both : (i : Ins) → i.rs1 ≤ LAST_ORIGINAL → i.rs2 ≤ LAST_ORIGINAL → HonestItems far (guards_of i)
  honest_both i h1 h2 = honest_items_then far (guard i.rs1) (cond (i.rs2 == i.rs1) [] (guard i.rs2)) (honest_guard far i.rs1 h1) (second (i.rs2 == i.rs1)) where
    second : (t : Bool) → HonestItems far (cond t [] (guard i.rs2))
    second true = honest_items_none far
    second false = honest_guard far i.rs2 h2

  -- the choice of the signature
  honest_turn :
      (i : Ins) (n t : ℕ) → class_of i.kind ≡ class.Branch → imm i ≡ 16
      → HonestItems far (Plain i ∷ Constant SIGNATURE n ∷ Plain (ins Jal 0 0 0 (pos 12)) ∷ Constant SIGNATURE t ∷ [])
  honest_turn i n t e m c en a near has calm ent =
      let up = ins Auipc SIGNATURE 0 0 (upper_part (distance_between (a + 4) n)) in
      let lo = ins Addi SIGNATURE SIGNATURE 0 (lower_part (distance_between (a + 4) n)) in
      let jal = ins Jal 0 0 0 (pos 12) in
      let up2 = ins Auipc SIGNATURE 0 0 (upper_part (distance_between (a + 4 + 8 + 4) t)) in
      let lo2 = ins Addi SIGNATURE SIGNATURE 0 (lower_part (distance_between (a + 4 + 8 + 4) t)) in
      let n4 = other_word c (a + 4) up class.Compute has.1.0 refl (λ e. absurd (cc)) in
      let n8 = other_word c (a + 4 + 4) lo class.Compute has.1.1.0 refl (λ e. absurd (cc)) in
      let n12 = other_word c (a + 4 + 4 + 4) jal class.Jump has.1.1.1.0 refl (λ e. absurd (cc)) in
      let n16 = other_word c (a + 4 + 4 + 4 + 4) up2 class.Compute has.1.1.1.1.0 refl (λ e. absurd (cc)) in
      let n20 = other_word c (a + 4 + 4 + 4 + 4 + 4) lo2 class.Compute has.1.1.1.1.1.0 refl (λ e. absurd (cc)) in
      let s : a + 4 + 4 + 4 + 4 ≡ (a + imm i) % 2 ^ 64 = omega (arith, near, m) in
      let p : a + 24 ≡ (a + 4 + 4 + 4 + 12) % 2 ^ 64 = omega (arith, near) in
      let q : a + 24 ≡ a + 4 + 4 + 4 + 4 + 4 + 4 = omega arith in
      record {
        each = (
          subst (λ q. HonestAs q c a i) (sym e) (subst (NoBreak c) s n16, λ b. absurd (n4 b)),
          (n8, (n12, (subst (NoBreak c) p calm, (n20, (subst (NoBreak c) q calm, tt))))),
        );
        front = other_word c a i class.Branch has.0 e (λ e. absurd (cc));
      }

-- the last branch, over the first of two jumps
honest_last : (far : Bool) (i : Ins) (n t : ℕ) → class_of i.kind ≡ class.Branch → imm i ≡ 4 + go_size far → HonestItems far (Plain i ∷ Go n ∷ Go t ∷ [])
honest_last false i n t e m c en a near has calm ent =
    let j1 = ins Jal 0 0 0 (distance_between (a + 4) (en n)) in
    let j2 = ins Jal 0 0 0 (distance_between (a + 4 + 4) (en t)) in
    let n4 = other_word c (a + 4) j1 class.Jump has.1.0 refl (λ e. absurd (cc)) in
    let n8 = other_word c (a + 4 + 4) j2 class.Jump has.1.1.0 refl (λ e. absurd (cc)) in
    let w1 = ent n in
    let w2 = ent t in
    let s : a + 4 + 4 ≡ (a + imm i) % 2 ^ 64 = omega (arith, near, m) in
    record {
      each = (
        subst (λ q. HonestAs q c a i) (sym e) (subst (NoBreak c) s n8, λ b. absurd (n4 b)),
        (
          subst (NoBreak c) (sym (difference (a + 4) (en n) (omega (arith, near)) w1.0)) w1.1,
          (subst (NoBreak c) (sym (difference (a + 4 + 4) (en t) (omega (arith, near)) w2.0)) w2.1, tt),
        ),
      );
      front = other_word c a i class.Branch has.0 e (λ e. absurd (cc));
    }
honest_last true i n t e m c en a near has calm ent =
    let k1 = ins Auipc TEMPORARY 0 0 (upper_part (distance_between (a + 4) (en n))) in
    let l1 = ins Jalr 0 TEMPORARY 0 (lower_part (distance_between (a + 4) (en n))) in
    let k2 = ins Auipc TEMPORARY 0 0 (upper_part (distance_between (a + 4 + 8) (en t))) in
    let l2 = ins Jalr 0 TEMPORARY 0 (lower_part (distance_between (a + 4 + 8) (en t))) in
    let n4 = other_word c (a + 4) k1 class.Compute has.1.0 refl (λ e. absurd (cc)) in
    let n8 = other_word c (a + 4 + 4) l1 class.JumpReg has.1.1.0 refl (λ e. absurd (cc)) in
    let n12 = other_word c (a + 4 + 4 + 4) k2 class.Compute has.1.1.1.0 refl (λ e. absurd (cc)) in
    let n16 = other_word c (a + 4 + 4 + 4 + 4) l2 class.JumpReg has.1.1.1.1.0 refl (λ e. absurd (cc)) in
    let s : a + 4 + 4 + 4 ≡ (a + imm i) % 2 ^ 64 = omega (arith, near, m) in
    record {
      each = (subst (λ q. HonestAs q c a i) (sym e) (subst (NoBreak c) s n12, λ b. absurd (n4 b)), (n8, (tt, (n16, (tt, tt)))));
      front = other_word c a i class.Branch has.0 e (λ e. absurd (cc));
    }

-- by the class of the block's end
honest_as : (c : Class) (next : ℕ) (far : Bool) (i : Ins) (at : ℕ) → class_of i.kind ≡ c → IsLeft c next i at → HonestItems far (left_as c next far i at)
honest_as class.Compute next far i at e f = honest_go_on far next
honest_as class.End next far i at e f = honest_end far i class.End e tt
honest_as class.Illegal next far i at e f = honest_end far i class.Illegal e tt
honest_as class.Jump next far i at e f = honest_items_then far (links i at) (go_on (target i at)) (honest_links far i at) (honest_go_on far (target i at))
honest_as class.Branch next far i at e f =
    let first = ins i.kind 0 (pair i.rs1) (pair i.rs2) (pos 16) in
    let b = ins i.kind 0 i.rs1 i.rs2 (pos (4 + go_size far)) in
    let n = (at + 4) % 2 ^ 64 in
    let t = target i at in
    let last = Plain b ∷ Go n ∷ Go t ∷ [] in
    honest_items_then far (Plain first ∷ Constant SIGNATURE n ∷ Plain (ins Jal 0 0 0 (pos 12)) ∷ Constant SIGNATURE t ∷ [])
    (guards_of i ++ last)
    (honest_turn far first n t e refl)
    (honest_items_then far (guards_of i) last (honest_both far i f.0 f.1) (honest_last far b n t e (small_size far)))
honest_as class.JumpReg next far i at e f =
    let two = neg_ℤ (pos 2) in
    let look : List Item =
    Plain (ins Add SPARE TEMPORARY DISTANCE (pos 0)) ∷ Plain (ins Add SPARE SPARE DISTANCE (pos 0))
    ∷ Plain (ins Lw TEMPORARY SPARE 0 (pos 0)) ∷ Plain (ins Add TEMPORARY TEMPORARY SPARE (pos 0)) ∷ Plain (ins Jalr 0 TEMPORARY 0 (pos 0)) ∷ [] in
    let taken : List Item = Plain (ins Addi TEMPORARY i.rs1 0 i.imm) ∷ Plain (ins Andi TEMPORARY TEMPORARY 0 two) ∷ (links i at ++ look) in
    let looks : HonestItems far look =
    computes far (ins Add SPARE TEMPORARY DISTANCE (pos 0))
    (Plain (ins Add SPARE SPARE DISTANCE (pos 0)) ∷ Plain (ins Lw TEMPORARY SPARE 0 (pos 0)) ∷ Plain (ins Add TEMPORARY TEMPORARY SPARE (pos 0))
    ∷ Plain (ins Jalr 0 TEMPORARY 0 (pos 0)) ∷ []) refl
    (computes far (ins Add SPARE SPARE DISTANCE (pos 0))
    (Plain (ins Lw TEMPORARY SPARE 0 (pos 0)) ∷ Plain (ins Add TEMPORARY TEMPORARY SPARE (pos 0)) ∷ Plain (ins Jalr 0 TEMPORARY 0 (pos 0)) ∷ []) refl
    (plain_then far (ins Lw TEMPORARY SPARE 0 (pos 0))
    (Plain (ins Add TEMPORARY TEMPORARY SPARE (pos 0)) ∷ Plain (ins Jalr 0 TEMPORARY 0 (pos 0)) ∷ [])
    (honest_on far (ins Lw TEMPORARY SPARE 0 (pos 0)) class.Load refl tt)
    (computes far (ins Add TEMPORARY TEMPORARY SPARE (pos 0)) (Plain (ins Jalr 0 TEMPORARY 0 (pos 0)) ∷ []) refl
    (honest_end far (ins Jalr 0 TEMPORARY 0 (pos 0)) class.JumpReg refl tt)))) in
    let takes : HonestItems far taken =
    computes far (ins Addi TEMPORARY i.rs1 0 i.imm) (Plain (ins Andi TEMPORARY TEMPORARY 0 two) ∷ (links i at ++ look)) refl
    (computes far (ins Andi TEMPORARY TEMPORARY 0 two) (links i at ++ look) refl (honest_items_then far (links i at) look (honest_links far i at) looks)) in
    computes far (ins Addi SIGNATURE (pair i.rs1) 0 i.imm) (Plain (ins Andi SIGNATURE SIGNATURE 0 two) ∷ (guard i.rs1 ++ taken)) refl
    (computes far (ins Andi SIGNATURE SIGNATURE 0 two) (guard i.rs1 ++ taken) refl
    (honest_items_then far (guard i.rs1) taken (honest_guard far i.rs1 f.1) takes))
honest_as c next far i at e f = absurd f

pub honest_leave : (next : ℕ) (far : Bool) (i : Ins) (at : ℕ) → IsLeft (class_of i.kind) next i at → Honest (λ f. f ≡ far) (left next far i at)
honest_leave next far i at f =
    record { honest = λ g e. subst (λ b. HonestItems b (left next far i at)) (sym e) (honest_as (class_of i.kind) next far i at refl f) }
