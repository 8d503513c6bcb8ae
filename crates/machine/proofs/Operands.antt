-- An instruction writes and reads the registers that its kind's format names, but FENCE, of format I, names none.
use Rattle.std.proofs.Common.{◌≡◌, Bool, true, false, not, ◌&&◌, refl, sym, ap}
use Rattle.rv_isa.specs.Kind.{class_of, writes_rd, reads_rs1, reads_rs2}
use Rattle.rv_isa.specs.Ins.{named_register}
use Rattle.machine.proofs.EachKind.{each_kind}
use Rattle.machine.specs.Table.{Kind, row_of}
use Rattle.machine.specs.Operands.{has_rd, has_rs1, has_rs2, is_fence, OperandsGoByFormat}

-- what a kind names of a field, where its format has it
abbrev has_operand : Kind → Bool → Bool
has_operand k has = has && not (is_fence k)

-- whether two answers are the same
abbrev agree : Bool → Bool → Bool
agree true b = b
agree false b = not b

agree-true : (a b : Bool) → agree a b ≡ true → a ≡ b
agree-true true b e = sym e
agree-true false true e = absurd (cc)
agree-true false false e = refl

-- the laws, for each kind
pub writes_rd-format : (k : Kind) → writes_rd (class_of k) ≡ (has_rd (row_of k).format && not (is_fence k))
writes_rd-format k = agree-true _ _ (each_kind (λ k. agree (writes_rd (class_of k)) (has_operand k (has_rd (row_of k).format))) refl k)

pub reads_rs1-format : (k : Kind) → reads_rs1 (class_of k) k ≡ (has_rs1 (row_of k).format && not (is_fence k))
reads_rs1-format k = agree-true _ _ (each_kind (λ k. agree (reads_rs1 (class_of k) k) (has_operand k (has_rs1 (row_of k).format))) refl k)

pub reads_rs2-format : (k : Kind) → reads_rs2 (class_of k) k ≡ (has_rs2 (row_of k).format && not (is_fence k))
reads_rs2-format k = agree-true _ _ (each_kind (λ k. agree (reads_rs2 (class_of k) k) (has_operand k (has_rs2 (row_of k).format))) refl k)

pub by_format : OperandsGoByFormat
by_format = record {
  written = λ i. ap (λ b. named_register b i.rd) (writes_rd-format i.kind);
  read = λ i. rw (reads_rs1-format i.kind, reads_rs2-format i.kind) refl;
}
