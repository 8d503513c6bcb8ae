-- One instruction of the output that is none of the test's own, and does not write into the duplicate half, goes wrong:
-- the slips of the game.
use Rattle.std.proofs.Common.{◌≡◌, ℕ, zero, suc, ◌+◌, ◌≤◌, ⊎_elim, Bool, true, false, List, sym, ap, ◌∙◌, arith}
use Rattle.std.specs.Prelude.{slice_index}
use Rattle.std.proofs.lemmas.List.{set-get_or}
use Rattle.rv_isa.specs.declared.class.Class.TheVariants as class
use Rattle.machine.specs.Table.{Ins}
use Rattle.qed_model.specs.Promise.Faults.{other_way}
use Rattle.weave_core.specs.World.{World, holds, next_pc, State, reg, set_reg, moved, Known, class_of}
use Rattle.lean.specs.Undisturbed.{IsOutputReg, WritesOutput, Steers, SlipsOther, gives, turns, skips}
use Rattle.lean.proofs.Weave.Carry.{pc_four}
use Rattle.lean.proofs.Weave.Robust.{Slip, Calm, as_gives, as_passes, as_takes, as_skips}

-- the registers of the output's own are x14 and above
high_reg : (r : ℕ) → IsOutputReg r → 14 ≤ r
high_reg r h = ⊎_elim (λ e. omega (arith, e)) (λ h. ⊎_elim (λ e. omega (arith, e)) (λ h. ⊎_elim (λ e. omega (arith, e)) (λ e. omega (arith, e)) h) h) h

-- a register that gets its own number
same_regs : (l : List ℕ) (r : ℕ) → set_reg (suc r) (slice_index l (suc r)) l ≡ l
same_regs l r = set-get_or l (suc r) 0

module _ (w : World) (i : Ins) (u v : State) (k : w.code u.pc ≡ Known i) (calm : Calm w u) where
  four : next_pc u ≡ u.pc + 4
  four = pc_four w u i k

  on : (regs : List ℕ) → v ≡ moved regs (next_pc u) u → v ≡ moved regs (u.pc + 4) u
  on regs e = e ∙ ap (λ p. moved regs p u) four

  steers : Steers i → v ≡ moved u.regs (u.pc + 4) u → Slip w i u v
  steers h e = ⊎_elim (λ c. as_passes w i u v c e) (λ c. as_skips w i u v c e) h

  -- a register that it would write keeps its number
  keeps : WritesOutput i → v ≡ moved u.regs (u.pc + 4) u → Slip w i u v
  keeps h e = as_gives w i u v (reg u i.rd) h.0 (high_reg i.rd h.1) (calm.small i.rd) (e ∙ ap (λ l. moved l (u.pc + 4) u) (by i.rd (high_reg i.rd h.1))) where
    by : (r : ℕ) → 14 ≤ r → u.regs ≡ set_reg r (reg u r) u.regs
    by zero low = absurd (omega (arith, low))
    by (suc r) low = sym (same_regs u.regs r)

  way : (b : Bool) → class_of i.kind ≡ class.Branch → v ≡ other_way b i u → Slip w i u v
  way true c e = as_passes w i u v c (on u.regs e)
  way false c e = as_takes w i u v c e

  pub slip_of : SlipsOther i u v → Slip w i u v
  slip_of (gives x h l e) = as_gives w i u v x h.0 (high_reg i.rd h.1) l (on (set_reg i.rd x u.regs) e)
  slip_of (turns c e) = way (holds i.kind (reg u i.rs1) (reg u i.rs2)) c e
  slip_of (skips h e) = ⊎_elim (λ z. keeps z (on u.regs e)) (λ z. steers z (on u.regs e)) h
