-- The laws of the original part, of the mirror part and of the comparison.
use Rattle.std.proofs.Common.{◌≡◌, ℕ, Bool, true, false, cond, [], ◌∷◌, refl, arith}
use Rattle.std.specs.Prelude.{pos}
use Rattle.rv_isa.specs.declared.class.Class.TheVariants as class
use Rattle.machine.specs.Step.{Add, Ins, ins, class_of, Class, target}
use Rattle.qed_model.specs.declared.item.Item.TheVariants.{Plain, Constant}
use Rattle.qed_model.specs.Weave.Sequences.{pair, renamed, mirrored, mirror_as, compare, DISTANCE, TEMPORARY}
use Rattle.machine.specs.Operands.{is_auipc}
use Rattle.weave_core.specs.Blocks.{IsBody as InBody, FitsPiece}
use Rattle.weave_core.specs.Kinds.{originals}
use Rattle.weave_core.proofs.Lemmas.{compare_items, straight_lands, straight_compare, plain_mirrors_fit, lockstep_mirror}
use Rattle.passes.specs.Honest.{HonestItems}
use Rattle.passes.specs.Pass.{Honest, Lockstep, AllLow}
use Rattle.passes.specs.Compose.{honest_items_then, honest_items_none}
use Rattle.passes.proofs.HonestWords.{honest_on, honest_constant}
use Rattle.passes.proofs.Guards.{honest_guards}
use Rattle.eddi_dup.specs.Parts.{unguarded}
pub use Rattle.weave_core.specs.Parts.{any}
pub use Rattle.weave_core.proofs.Lemmas.{quiet_original, quiet_mirrored, quiet_compare, lockstep_original}

-- ---- the original part
honest_word : (far : Bool) (c : Class) (i : Ins) → class_of i.kind ≡ c → InBody c → HonestItems far (Plain i ∷ [])
honest_word far class.Compute i e b = honest_on far i class.Compute e tt
honest_word far class.Load i e b = honest_on far i class.Load e tt
honest_word far class.Store i e b = honest_on far i class.Store e tt
honest_word far class.Fence i e b = honest_on far i class.Fence e tt
honest_word far c i e b = absurd b

pub honest_original : (i : Ins) (at : ℕ) → FitsPiece i → Honest any (unguarded i at)
honest_original i at f = record {
  honest = λ far s. elim (is_auipc i.kind) as (λ b. HonestItems far (cond b (Constant i.rd (target i at) ∷ []) (Plain i ∷ []))) [
    | true ↦ honest_constant far i.rd (target i at)
    | false ↦ honest_word far (class_of i.kind) i refl f.body
  ];
}

-- ---- the mirror part
honest_two : (far : Bool) (i j : Ins) (k l : Class) → HonestItems far (Plain i ∷ []) → HonestItems far (Plain j ∷ []) → HonestItems far (Plain i ∷ Plain j ∷ [])
honest_two far i j k l a b = honest_items_then far (Plain i ∷ []) (Plain j ∷ []) a b

honest_mirror : (far : Bool) (c : Class) (i : Ins) (at : ℕ) → class_of i.kind ≡ c → InBody c → HonestItems far (mirror_as c i at)
honest_mirror far class.Compute i at e b = honest_on far (renamed i) class.Compute e tt
honest_mirror far class.Load i at e b =
    honest_two far (ins Add TEMPORARY (pair i.rs1) DISTANCE (pos 0)) (ins i.kind (pair i.rd) TEMPORARY 0 i.imm) class.Compute class.Load
    (honest_on far (ins Add TEMPORARY (pair i.rs1) DISTANCE (pos 0)) class.Compute refl tt)
    (honest_on far (ins i.kind (pair i.rd) TEMPORARY 0 i.imm) class.Load e tt)
honest_mirror far class.Store i at e b =
    honest_two far (ins Add TEMPORARY (pair i.rs1) DISTANCE (pos 0)) (ins i.kind 0 TEMPORARY (pair i.rs2) i.imm) class.Compute class.Store
    (honest_on far (ins Add TEMPORARY (pair i.rs1) DISTANCE (pos 0)) class.Compute refl tt)
    (honest_on far (ins i.kind 0 TEMPORARY (pair i.rs2) i.imm) class.Store e tt)
honest_mirror far class.Fence i at e b = honest_items_none far
honest_mirror far c i at e b = absurd b

pub honest_mirrored : (i : Ins) (at : ℕ) → FitsPiece i → Honest any (mirrored i at)
honest_mirrored i at f = record {
  honest = λ far s. elim (is_auipc i.kind) as (λ b. HonestItems far (cond b (Constant (pair i.rd) (target i at) ∷ []) (mirror_as (class_of i.kind) i at))) [
    | true ↦ honest_constant far (pair i.rd) (target i at)
    | false ↦ honest_mirror far (class_of i.kind) i at refl f.body
  ];
}

pub lockstep_mirrored : (i : Ins) (at : ℕ) → FitsPiece i → Lockstep any [] (mirrored i at)
lockstep_mirrored i at f = lockstep_mirror any mirrored (λ far s. plain_mirrors_fit far) i at f

-- ---- the comparison
abbrev pub all_low : AllLow originals
all_low = (omega arith, (omega arith, (omega arith, (omega arith, (omega arith, (omega arith, (omega arith, (omega arith, (omega arith, (omega arith, (omega arith, (omega arith, (omega arith, tt)))))))))))))

pub honest_compare : Honest any compare
honest_compare = honest_guards any originals all_low

pub lockstep_compare : Lockstep any [] compare
lockstep_compare = record { locks = λ far s. compare_items far; lands = λ far s. straight_lands far compare (straight_compare far) }
