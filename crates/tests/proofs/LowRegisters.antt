-- If the rule on high registers does not hold of an instruction of the table, its fields are at most 13, but for FENCE.
use Rattle.std.proofs.Common.{◌≡◌, ℕ, zero, suc, ◌≤◌, Bool, true, false, not, ◌&&◌, cond, Option, Some, None, refl, sym, ap, ◌∙◌, arith}
use Rattle.std.specs.Prelude.{nat_lt}
use Rattle.std.specs.Option.{option_or}
use Rattle.std.proofs.lemmas.Bool.{ltb-false, false≢true}
use Rattle.rv_isa.specs.declared.profile.TheConstants.{ORIGINALS, LAST_ORIGINAL}
use Rattle.rv_isa.specs.Kind.{class_of, writes_rd, reads_rs1, reads_rs2}
use Rattle.rv_isa.specs.Ins.{named_register, writes, reads}
use Rattle.machine.specs.Table.{Kind, Ins, Format, R, S, B, U, J, N, row_of, ins_of, decode_of}
use Rattle.tests.specs.Admission.Terms.{if_high, high_register}
use Rattle.machine.specs.Operands.{has_rd, has_rs1, has_rs2, is_fence}
use Rattle.machine.proofs.Lemmas.{writes_rd-format, reads_rs1-format, reads_rs2-format, decode-fits, fits-decode}

-- ---- fields that a format does not have
no : {A : Type 0} → true ≡ false → A
no e = absurd (false≢true (sym e))

zero_fields : (f : Format) (k : Kind) (w : ℕ) → (has_rd f ≡ false → (ins_of f k w).rd ≡ 0) × (has_rs1 f ≡ false → (ins_of f k w).rs1 ≡ 0) × (has_rs2 f ≡ false → (ins_of f k w).rs2 ≡ 0)
unfolding ins_of
zero_fields R k w = (no, no, no)
zero_fields S k w = (λ e. refl, no, no)
zero_fields B k w = (λ e. refl, no, no)
zero_fields U k w = (no, λ e. refl, λ e. refl)
zero_fields J k w = (no, λ e. refl, λ e. refl)
zero_fields N k w = (λ e. refl, λ e. refl, λ e. refl)
zero_fields o k w = (no, no, λ e. refl)

-- an instruction is that of its kind's format
pub decoded_is : (w : ℕ) (i : Ins) → decode_of w ≡ Some i → i ≡ ins_of (row_of i.kind).format i.kind w
decoded_is w i e = let f = decode-fits i.kind w (fits-decode w i e) in let d : Some i ≡ Some (ins_of (row_of i.kind).format i.kind w) = sym e ∙ f in cc

-- ---- registers that are named
low_named : (r : ℕ) → if_high (named_register true r) ≡ None → r ≤ LAST_ORIGINAL
low_named zero e = omega arith
low_named (suc r) e = by (nat_lt LAST_ORIGINAL (suc r)) refl e where
  by : (b : Bool) → nat_lt LAST_ORIGINAL (suc r) ≡ b → cond b (Some (suc r)) None ≡ None → suc r ≤ LAST_ORIGINAL
  by true d h = absurd (cc)
  by false d h = let l = ltb-false ORIGINALS (suc r) d in omega (arith, l)

none_left : (a b : Option ℕ) → option_or a b ≡ None → a ≡ None
none_left None b e = refl
none_left (Some x) b e = absurd (cc)

none_right : (a b : Option ℕ) → option_or a b ≡ None → b ≡ None
none_right None b e = e
none_right (Some x) b e = absurd (cc)

-- a field that is named, or that the format does not have
low_field : (has fence names : Bool) (r : ℕ) → names ≡ (has && not fence) → fence ≡ false → (has ≡ false → r ≡ 0) → if_high (named_register names r) ≡ None → r ≤ LAST_ORIGINAL
low_field true true names r e f z h = absurd (false≢true (sym f))
low_field true false names r e f z h = low_named r (sym (ap (λ b. if_high (named_register b r)) e) ∙ h)
low_field false fence names r e f z h = let k = z refl in omega (arith, k)

pub low_fields : (w : ℕ) (i : Ins) → decode_of w ≡ Some i → high_register i ≡ None → is_fence i.kind ≡ false → (i.rd ≤ LAST_ORIGINAL) × (i.rs1 ≤ LAST_ORIGINAL) × (i.rs2 ≤ LAST_ORIGINAL)
low_fields w i e h f =
    let form = (row_of i.kind).format in
    let is = decoded_is w i e in
    let none = zero_fields form i.kind w in
    let a = none_left (if_high (writes i)) (option_or (if_high (reads i).0) (if_high (reads i).1)) h in
    let rest = none_right (if_high (writes i)) (option_or (if_high (reads i).0) (if_high (reads i).1)) h in
    let b = none_left (if_high (reads i).0) (if_high (reads i).1) rest in
    let c = none_right (if_high (reads i).0) (if_high (reads i).1) rest in (
      low_field (has_rd form) (is_fence i.kind) (writes_rd (class_of i.kind)) i.rd (writes_rd-format i.kind) f (λ z. ap (λ x. x.rd) is ∙ none.0 z) a,
      low_field (has_rs1 form) (is_fence i.kind) (reads_rs1 (class_of i.kind) i.kind) i.rs1 (reads_rs1-format i.kind) f (λ z. ap (λ x. x.rs1) is ∙ none.1 z) b,
      low_field (has_rs2 form) (is_fence i.kind) (reads_rs2 (class_of i.kind) i.kind) i.rs2 (reads_rs2-format i.kind) f (λ z. ap (λ x. x.rs2) is ∙ none.2 z) c,
    )
