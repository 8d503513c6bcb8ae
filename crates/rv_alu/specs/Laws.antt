-- The laws of the operations.
use Rattle.std.proofs.Common.{◌≡◌, ℕ, ◌+◌, ◌%◌, ◌^◌, Bool, true, false, not, List, Some, inl, inr, refl, sym, ap, ◌∙◌, arith}
use Rattle.std.specs.Prelude.{slice_index}
use Rattle.rv_isa.specs.declared.class.Class.TheVariants as class
use Rattle.rv_isa.specs.Kind.{class_of, writes_rd, reads_rs1, reads_rs2, has_immediate}
use Rattle.rv_isa.specs.Ins.{writes}
use Rattle.rv_isa.specs.Operation.{AreRegs, ReadsRegister, pair, renamed_by, Frame, Sources, Mirror}
use Rattle.rv_isa.proofs.OperationLaws.{same_rs1, same_rs2, set_frame, set_same, some-named, pair-above, pair-lt}
use Rattle.machine.proofs.Lemmas.{each_kind}
use Rattle.machine.specs.Table.{Format, R, row_of, Kind, Lui, Auipc, Jalr, Ins}
use Rattle.machine.specs.Step.{operand, computed_value, Class}
use Rattle.rv_alu.specs.Steps.{following, computed, no_write, linked, branched, jump_target, landed, IsComputing, IsBranching, IsJumping, IsPassing}

-- ---- what is read
-- the sources of an instruction on other registers are those of the instruction
abbrev SameSources : (ℕ → ℕ) → Ins → List ℕ → List ℕ → Type 0
SameSources f i regs others = (r : ℕ) → ReadsRegister i r → slice_index others (f r) ≡ slice_index regs r

module _ (f : ℕ → ℕ) (z : f 0 ≡ 0) (i : Ins) (pc : ℕ) (regs others : List ℕ) (a : AreRegs regs) (b : AreRegs others) (s : SameSources f i regs others) where
  rs1 : (c : Class) → class_of i.kind ≡ c → reads_rs1 c i.kind ≡ true → slice_index others (f i.rs1) ≡ slice_index regs i.rs1
  rs1 c e h = same_rs1 f regs others i z a b s (ap (λ c. reads_rs1 c i.kind) e ∙ h)

  rs2 : (c : Class) → class_of i.kind ≡ c → reads_rs2 c i.kind ≡ true → slice_index others (f i.rs2) ≡ slice_index regs i.rs2
  rs2 c e h = same_rs2 f regs others i z a b s (ap (λ c. reads_rs2 c i.kind) e ∙ h)

-- ---- computing
-- only format R has a register as second operand
abbrev is_R : Format → Bool
is_R R = true
is_R _ = false

abbrev implies : Bool → Bool → Bool
implies true b = b
implies false b = true

implied : (a b : Bool) → implies a b ≡ true → a ≡ true → b ≡ true
implied true b e h = e
implied false b e h = absurd (cc)

no_immediate : (k : Kind) → is_R (row_of k).format ≡ true → not (has_immediate k) ≡ true
no_immediate k = implied _ _ (each_kind (λ k. implies (is_R (row_of k).format) (not (has_immediate k))) refl k)

operand-same : (g : Format) (f : ℕ → ℕ) (i : Ins) (regs others : List ℕ) → (is_R g ≡ true → slice_index others (f i.rs2) ≡ slice_index regs i.rs2)
    → operand g (renamed_by f i) others ≡ operand g i regs
operand-same R f i regs others h = h refl
operand-same g f i regs others h = refl

value-same : (k : Kind) (f : ℕ → ℕ) (i : Ins) (pc : ℕ) (regs others : List ℕ)
    → (reads_rs1 class.Compute k ≡ true → slice_index others (f i.rs1) ≡ slice_index regs i.rs1)
    → operand (row_of k).format (renamed_by f i) others ≡ operand (row_of k).format i regs
    → computed_value k (renamed_by f i) pc others ≡ computed_value k i pc regs
unfolding computed_value
value-same Lui f i pc regs others h g = refl
value-same Auipc f i pc regs others h g = refl
value-same k f i pc regs others h g = rw (h refl, g) refl

-- both write an equal number
written : (f : ℕ → ℕ) → f 0 ≡ 0 → (i : Ins) (pc : ℕ) (regs others : List ℕ) → IsComputing (class_of i.kind) → AreRegs regs → AreRegs others
    → SameSources f i regs others → computed_value i.kind (renamed_by f i) pc others ≡ computed_value i.kind i pc regs
written f z i pc regs others c a b s =
    value-same i.kind f i pc regs others
    (rs1 f z i pc regs others a b s class.Compute c)
    (operand-same (row_of i.kind).format f i regs others (λ h. rs2 f z i pc regs others a b s class.Compute c (no_immediate i.kind h)))

pub computing_frame : Frame IsComputing computed
computing_frame i pc regs c = set_frame i (computed_value i.kind i pc regs) regs (ap writes_rd c)

pub computing_sources : Sources IsComputing computed following
computing_sources i pc regs others c d a b s = (
  refl,
  set_same (λ r. r) i _ _ regs others (λ r h. h) (omega (arith, d, a.count)) (omega (arith, d, b.count))
      (written (λ r. r) refl i pc regs others c a b s),
)

pub computing_mirror : Mirror IsComputing computed following
computing_mirror i pc regs others c p a b s = (
  refl,
  set_same pair i _ _ regs others pair-above (omega (arith, p.rd, a.count)) (omega (arith, pair-lt i.rd p.rd, b.count))
      (written pair refl i pc regs others c a b s),
)

-- ---- branches
-- an instruction of a class that writes no register
unwritten : (c : Class) (i : Ins) → class_of i.kind ≡ c → writes_rd c ≡ false → (r : ℕ) → writes i ≡ Some r → ⊥
unwritten c i e n r w = absurd (yes_no (sym ((some-named _ i.rd r w).2) ∙ (ap writes_rd e ∙ n))) where
  yes_no : true ≡ false → ⊥
  yes_no e = absurd (cc)

branched-same : (f : ℕ → ℕ) → f 0 ≡ 0 → (i : Ins) (pc : ℕ) (regs others : List ℕ) → IsBranching (class_of i.kind) → AreRegs regs → AreRegs others
    → SameSources f i regs others → branched (renamed_by f i) pc others ≡ branched i pc regs
branched-same f z i pc regs others c a b s = rw (rs1 f z i pc regs others a b s class.Branch c refl, rs2 f z i pc regs others a b s class.Branch c refl) refl

pub branching_frame : Frame IsBranching no_write
branching_frame i pc regs c = (refl, λ r out. refl)

pub branching_sources : Sources IsBranching no_write branched
branching_sources i pc regs others c d a b s =
    (branched-same (λ r. r) refl i pc regs others c a b s, λ r w. absurd (unwritten class.Branch i c refl r w))

pub branching_mirror : Mirror IsBranching no_write branched
branching_mirror i pc regs others c p a b s =
    (branched-same pair refl i pc regs others c a b s, λ r w. absurd (unwritten class.Branch i c refl r w))

-- ---- jumps
jump_writes : (c : Class) → IsJumping c → writes_rd c ≡ true
jump_writes c (inl e) = ap writes_rd e
jump_writes c (inr e) = ap writes_rd e

landing-same : (k : Kind) (f : ℕ → ℕ) (i : Ins) (pc : ℕ) (regs others : List ℕ)
    → (class_of k ≡ class.JumpReg → slice_index others (f i.rs1) ≡ slice_index regs i.rs1)
    → jump_target k (renamed_by f i) pc others ≡ jump_target k i pc regs
landing-same Jalr f i pc regs others h = rw (h refl) refl
landing-same k f i pc regs others h = refl

landed-same : (f : ℕ → ℕ) → f 0 ≡ 0 → (i : Ins) (pc : ℕ) (regs others : List ℕ) → AreRegs regs → AreRegs others → SameSources f i regs others
    → landed (renamed_by f i) pc others ≡ landed i pc regs
landed-same f z i pc regs others a b s = landing-same i.kind f i pc regs others (λ c. rs1 f z i pc regs others a b s class.JumpReg c refl)

pub jumping_frame : Frame IsJumping linked
jumping_frame i pc regs c = set_frame i ((pc + 4) % 2 ^ 64) regs (jump_writes _ c)

pub jumping_sources : Sources IsJumping linked landed
jumping_sources i pc regs others c d a b s = (
  landed-same (λ r. r) refl i pc regs others a b s,
  set_same (λ r. r) i _ _ regs others (λ r h. h) (omega (arith, d, a.count)) (omega (arith, d, b.count)) refl,
)

pub jumping_mirror : Mirror IsJumping linked landed
jumping_mirror i pc regs others c p a b s = (
  landed-same pair refl i pc regs others a b s,
  set_same pair i _ _ regs others pair-above (omega (arith, p.rd, a.count)) (omega (arith, pair-lt i.rd p.rd, b.count)) refl,
)

-- ---- FENCE
pub passing_frame : Frame IsPassing no_write
passing_frame i pc regs c = (refl, λ r out. refl)

pub passing_sources : Sources IsPassing no_write following
passing_sources i pc regs others c d a b s = (refl, λ r w. absurd (unwritten class.Fence i c refl r w))

pub passing_mirror : Mirror IsPassing no_write following
passing_mirror i pc regs others c p a b s = (refl, λ r w. absurd (unwritten class.Fence i c refl r w))
