-- The laws of the end with the sweep.
use Rattle.std.proofs.Common.{◌≡◌, ℕ, ◌+◌, ◌%◌, ◌^◌, Bool, true, List, [], ◌∷◌, ◌++◌, refl, sym, ap, ◌∙◌, subst, arith}
use Rattle.std.specs.Prelude.{pos, neg_ℤ}
use Rattle.qed_model.specs.declared.steps.TheConstants.{INSTRUCTION_STEPS}
use Rattle.rv_isa.specs.declared.class.Class.TheVariants as class
use Rattle.machine.specs.Table.{Addi, Auipc, Bne, Ins, ins}
use Rattle.machine.specs.Offsets.{distance_between, upper_part, lower_part}
use Rattle.qed_model.specs.declared.item.Item.TheVariants.{Plain, Constant}
use Rattle.qed_model.specs.Weave.Sequences.{class_of, Form, sweep, sweep_range, compare, leave_as, mirrored, CURSOR, TEMPORARY}
use Rattle.machine.proofs.Lemmas.{brk}
use Rattle.weave_core.specs.Lock.{first_load, mirror_place, second_load, word_check}
use Rattle.weave_core.specs.KindItems.{LockItems, LandItems, end_ends}
pub use Rattle.weave_core.specs.Parts.{any}
use Rattle.weave_core.proofs.Lemmas.{leave_items, land_leave, plain_mirrors_fit}
use Rattle.passes.specs.Honest.{NoBreak, words, HonestItems}
use Rattle.passes.specs.Pass.{Honest, Lockstep}
use Rattle.passes.specs.Compose.{honest_items_then, honest_items_none}
use Rattle.passes.proofs.HonestWords.{other_word, honest_end, honest_constant}
use Rattle.eddi_dup.specs.Laws.{honest_compare}
use Rattle.end_sweep.specs.Ending.{swept_end}
pub use Rattle.weave_core.proofs.Lemmas.{quiet_sweep}

-- ---- Lockstep
-- a form with the sweep over the ranges
abbrev with_sweep : List (ℕ × ℕ) → Bool → Form
with_sweep spans far = record { spans = spans; round = 0; far = far; sweep = true; mirror = mirrored; cost = INSTRUCTION_STEPS }

pub lockstep_sweep : (spans : List (ℕ × ℕ)) (i : Ins) → class_of i.kind ≡ class.End → Lockstep any [] (swept_end spans i)
lockstep_sweep spans i k = record {
  locks = λ far s. subst (λ c. LockItems far (leave_as (with_sweep spans far) c i 0)) k
      (leave_items (with_sweep spans far) (plain_mirrors_fit far) i 0 (end_ends k));
  lands = λ far s. subst (λ c. LandItems far (leave_as (with_sweep spans far) c i 0)) k
      (land_leave (with_sweep spans far) (plain_mirrors_fit far) i 0 (end_ends k));
}

-- ---- Honest
-- the branch back to the first load of a range
abbrev i_back : Ins
i_back = ins Bne 0 CURSOR TEMPORARY (neg_ℤ (pos 32))

module _ (far : Bool) where
  -- the words of one lap
  lap :
      (e : ℕ)
      → HonestItems far (Plain first_load ∷ Plain mirror_place ∷ Plain second_load ∷ Plain word_check
      ∷ Plain brk ∷ Plain (ins Addi CURSOR CURSOR 0 (pos 8)) ∷ Constant TEMPORARY e ∷ Plain i_back ∷ [])
  lap e c en a near has calm ent =
      let up = ins Auipc TEMPORARY 0 0 (upper_part (distance_between (a + 4 + 4 + 4 + 4 + 4 + 4) e)) in
      let lo = ins Addi TEMPORARY TEMPORARY 0 (lower_part (distance_between (a + 4 + 4 + 4 + 4 + 4 + 4) e)) in
      let p : a + 4 + 4 + 4 ≡ a + 12 = omega arith in
      let e8 : a + 4 + 4 ≡ a + 8 = omega arith in
      let e16 : a + 4 + 4 + 4 + 4 ≡ a + 16 = omega arith in
      let over : a + 4 + 4 + 4 + 4 + 4 ≡ (a + 4 + 4 + 4 + 8) % 2 ^ 64 = omega (arith, near) in
      let back : a ≡ (a + 4 + 4 + 4 + 4 + 4 + 4 + 4 + 4 + 18446744073709551584) % 2 ^ 64 = omega (arith, near) in
      let last : a + 36 ≡ a + 4 + 4 + 4 + 4 + 4 + 4 + 4 + 4 + 4 = omega arith in
      let n0 = other_word c a first_load class.Load has.0 refl (λ e. absurd (cc)) in
      let n4 = other_word c (a + 4) mirror_place class.Compute has.1.0 refl (λ e. absurd (cc)) in
      let n8 = other_word c (a + 4 + 4) second_load class.Load has.1.1.0 refl (λ e. absurd (cc)) in
      let n12 = other_word c (a + 4 + 4 + 4) word_check class.Branch has.1.1.1.0 refl (λ e. absurd (cc)) in
      let n20 = other_word c (a + 4 + 4 + 4 + 4 + 4) (ins Addi CURSOR CURSOR 0 (pos 8)) class.Compute has.1.1.1.1.1.0 refl (λ e. absurd (cc)) in
      let n24 = other_word c (a + 4 + 4 + 4 + 4 + 4 + 4) up class.Compute has.1.1.1.1.1.1.0 refl (λ e. absurd (cc)) in
      let n28 = other_word c (a + 4 + 4 + 4 + 4 + 4 + 4 + 4) lo class.Compute has.1.1.1.1.1.1.1.0 refl (λ e. absurd (cc)) in
      let n32 = other_word c (a + 4 + 4 + 4 + 4 + 4 + 4 + 4 + 4) i_back class.Branch has.1.1.1.1.1.1.1.1.0 refl (λ e. absurd (cc)) in
      let n36 : NoBreak c (a + 4 + 4 + 4 + 4 + 4 + 4 + 4 + 4 + 4) = subst (NoBreak c) last calm in
      let check = words a refl p (record {
        first = has.0;
        mirror = has.1.0;
        second = ap c (sym e8) ∙ has.1.1.0;
        check = ap c (sym p) ∙ has.1.1.1.0;
        brk = ap c (sym e16) ∙ has.1.1.1.1.0;
      }) in
      record {
        each = (n4, (n8, (n12, ((subst (NoBreak c) over n20, λ b. check), (tt, (n24, (n28, (n32, ((subst (NoBreak c) back n0, λ b. absurd (n36 b)), tt)))))))));
        front = n0;
      }

  range_honest : (r : ℕ × ℕ) → HonestItems far (sweep_range r)
  range_honest r =
      honest_items_then far (Constant CURSOR r.0 ∷ [])
      (Plain first_load ∷ Plain mirror_place ∷ Plain second_load ∷ Plain word_check ∷ Plain brk ∷ Plain (ins Addi CURSOR CURSOR 0 (pos 8))
      ∷ Constant TEMPORARY r.1 ∷ Plain i_back ∷ [])
      (honest_constant far 15 r.0) (lap r.1)

  sweep_honest : (rs : List (ℕ × ℕ)) → HonestItems far (sweep rs)
  sweep_honest [] = honest_items_none far
  sweep_honest (r ∷ rs) = honest_items_then far (sweep_range r) (sweep rs) (range_honest r) (sweep_honest rs)

pub honest_sweep : (spans : List (ℕ × ℕ)) (i : Ins) → class_of i.kind ≡ class.End → Honest any (swept_end spans i)
honest_sweep spans i k = record {
  honest = λ far s.
      honest_items_then far (sweep spans ++ compare) (Plain i ∷ [])
      (honest_items_then far (sweep spans) compare (sweep_honest far spans) (honest_compare.honest far tt))
      (honest_end far i class.End k tt);
}
