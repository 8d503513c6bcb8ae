-- The promises on a hart's file hold of the hart, in its own turns.
use Rattle.std.proofs.Common.{◌≡◌, ℕ, ◌≤◌, ◌⊎◌, inl, inr, Bool, true, List, [], is_some, sym, ap, ◌∙◌, subst}
use Rattle.std.specs.Prelude.{◌↔◌, slice_index}
use Rattle.std.proofs.lemmas.Option.{same_Some}
use Rattle.machine.specs.declared.outcome.Outcome.TheVariants.{Ended, Fired}
use Rattle.qed_model.specs.declared.change.Change.{Change}
use Rattle.qed_model.specs.declared.bounds.Bounds.{Bounds}
use Rattle.machine.specs.Memory.{byte_in, get}
use Rattle.machine.specs.Step.{State}
use Rattle.qed_model.specs.Promise.Changed.{changed_run, last_step}
use Rattle.machine.specs.Program.{Program, start, zeros}
use Rattle.qed_model.specs.Promise.Kept.{is_trapped, after_input, after_output, Halves, Preserved, NoFalseAlarm, Kept}
use Rattle.qed_model.specs.Promise.Caught.{Same, Settles, Caught}
use Rattle.harts.specs.Harts.{hart_of, hart_turns}
use Rattle.harts.specs.Together.{IsProgram, own_run, IsSeen, HartKept, QuietInTurns, KeptInTurns, SameHart, SettlesInTurns, HartCaught, PerHart}
use Rattle.machine.proofs.Lemmas.{byte_of_cell}
use Rattle.qed_model.proofs.Lemmas.{run_unchanged}
use Rattle.tests.proofs.Lemmas.{zeros_start}
use Rattle.harts.proofs.Beside.{Holds}
use Rattle.harts.proofs.Together.{stand_after}

-- ---- a hart that is seen
-- the hart is that of its own run, and the memory has its cells
record Mine (g : Program) (u s : State) : Type 0 where
  hart : hart_of u ≡ hart_of s
  holds : Holds g s.memory u.memory

-- the hart of equal runs
mine_as : (g : Program) (u s t : State) → s ≡ t → Mine g u s → Mine g u t
mine_as g u s t e m = subst (Mine g u) e m

seen_mine : (gs : List Program) (i : ℕ) (g : Program) (c : List Change) (k : ℕ) (u : State) → IsProgram gs i g → IsSeen gs i c k u → Mine g u (changed_run (start g zeros) c k)
seen_mine gs i g c k u e x =
    let stand = stand_after gs x.changes x.schedule x.alone in
    let s : State = own_run x.changes x.schedule i g in
    let is : x.hart ≡ hart_of s = same_Some x.hart (hart_of s) (sym x.stands ∙ stand.harts i g e) in
    let m : Mine g u s = record {
      hart = ap (λ y. hart_of y) x.is ∙ is;
      holds = subst (λ y. Holds g s.memory y.memory) (sym x.is) (stand.holds i g e);
    } in
    mine_as g u s (changed_run (start g zeros) c k) (ap (λ y. changed_run (start g zeros) y (hart_turns x.schedule i)) x.own ∙ ap (changed_run (start g zeros) c) x.turns) m

-- without changes the own run is the plain run
seen_plain : (gs : List Program) (i : ℕ) (g : Program) (k : ℕ) (u : State) → IsProgram gs i g → IsSeen gs i [] k u → Mine g u (after_output g zeros k)
seen_plain gs i g k u e x = mine_as g u (changed_run (start g zeros) [] k) (after_output g zeros k) (run_unchanged (start g zeros) k) (seen_mine gs i g [] k u e x)

-- the outcome is that of its own run
same_outcome : (g : Program) (u s : State) → Mine g u s → u.outcome ≡ s.outcome
same_outcome g u s m = ap (λ h. h.outcome) m.hart

-- a byte that its own run maps is that of its own run
cell_of_mine : (g : Program) (u s : State) → Mine g u s → (q : ℕ) → is_some (get s.memory q) ≡ true → get u.memory q ≡ get s.memory q
cell_of_mine g u s m q o = m.holds.cells q (sym (m.holds.mapped q) ∙ o)

-- the hart has the values that its own run has
halves_mine : (f g : Program) (a u s : State) → Mine g u s → Halves f a s → Halves f a u
halves_mine f g a u s m h = record {
  regs = λ r l k. ap (λ x. slice_index x.regs r) m.hart ∙ h.regs r l k;
  mapped = λ q o. ap is_some (cell_of_mine g u s m q (h.mapped q o)) ∙ h.mapped q o;
  bytes = λ q o. byte_of_cell u.memory q ∙ ap byte_in (cell_of_mine g u s m q (h.mapped q o)) ∙ sym (byte_of_cell s.memory q) ∙ h.bytes q o;
}

-- ---- both promises
kept : (gs : List Program) (i : ℕ) (f g : Program) (reached : ℕ → Bool) (first bound : ℕ) → IsProgram gs i g → Kept f g reached first bound → HartKept f reached first bound (IsSeen gs i [])
kept gs i f g reached first bound e k = record {
  values = λ n steady. values n (k.values zeros n zeros_start steady);
  quiet = λ m u steady x. quiet m u (k.quiet zeros m zeros_start steady) (seen_plain gs i g m u e x);
} where
  values : (n : ℕ) → Preserved f g first bound n zeros → KeptInTurns f first bound n (IsSeen gs i [])
  values n h = record {
    turns = h.steps;
    within = h.within;
    halves = λ u x. let m = seen_plain gs i g h.steps u e x in halves_mine f g (after_input f n) u (after_output g zeros h.steps) m h.halves;
    ends = λ u x. let m = seen_plain gs i g h.steps u e x in subst (λ o. (o ≡ Ended) ↔ ((after_input f n).outcome ≡ Ended)) (sym (same_outcome g u (after_output g zeros h.steps) m)) h.ends;
  }

  quiet : (m : ℕ) (u : State) → NoFalseAlarm f g m zeros → Mine g u (after_output g zeros m) → QuietInTurns f m u
  quiet m u h x =
      let o = same_outcome g u (after_output g zeros m) x in
      record {
        no_check = λ z. h.no_check (sym o ∙ z);
        no_trap = ap is_trapped o ∙ h.no_trap;
        ended = λ z. let r = h.ended (sym o ∙ z) in (r.0, halves_mine f g (after_input f m) u (after_output g zeros m) x r.1);
      }

-- two states of one own run
same_hart : (g : Program) (u v s t : State) → Mine g u s → Mine g v t → s ≡ t → SameHart g u v
same_hart g u v s t x y e =
    let z = mine_as g u s t e x in
    record { hart = z.hart ∙ sym y.hart; bytes = λ q o. z.holds.cells q o ∙ sym (y.holds.cells q o) }

caught : (gs : List Program) (i : ℕ) (f g : Program) (reached : ℕ → Bool) (spans : List (ℕ × ℕ)) (bounds : Bounds) → IsProgram gs i g → Caught f g reached spans bounds → HartCaught f g reached spans bounds (IsSeen gs i)
caught gs i f g reached spans bounds e k = record { settles = λ cs b ordered places bound steady going. settles cs b (k.settles zeros cs b zeros_start ordered places bound steady going) } where
  settles : (cs : List Change) (b : ℕ) → Settles spans (last_step cs) b (changed_run (start g zeros) cs) (after_output g zeros) → SettlesInTurns g (last_step cs) b (IsSeen gs i cs) (IsSeen gs i [])
  settles cs b h = record { turns = h.steps; within = h.within; settled = by h.settled } where
    by : ((changed_run (start g zeros) cs h.steps).outcome ≡ Fired) ⊎ (((changed_run (start g zeros) cs h.steps).outcome ≡ Ended) ⊎ ((last_step cs ≤ h.steps) × Same spans (changed_run (start g zeros) cs h.steps) (after_output g zeros h.steps))) →
        ((u : State) → IsSeen gs i cs h.steps u → u.outcome ≡ Fired) ⊎ (((u : State) → IsSeen gs i cs h.steps u → u.outcome ≡ Ended) ⊎ ((last_step cs ≤ h.steps) × ((u v : State) → IsSeen gs i cs h.steps u → IsSeen gs i [] h.steps v → SameHart g u v)))
    by (inl o) = inl (λ u x. same_outcome g u (changed_run (start g zeros) cs h.steps) (seen_mine gs i g cs h.steps u e x) ∙ o)
    by (inr (inl o)) = inr (inl (λ u x. same_outcome g u (changed_run (start g zeros) cs h.steps) (seen_mine gs i g cs h.steps u e x) ∙ o))
    by (inr (inr z)) = inr (inr (z.0, λ u v x y. same_hart g u v (changed_run (start g zeros) cs h.steps) (after_output g zeros h.steps) (seen_mine gs i g cs h.steps u e x) (seen_plain gs i g h.steps v e y) z.1.all))

pub per_hart : PerHart
per_hart = record { kept = kept; caught = caught }
