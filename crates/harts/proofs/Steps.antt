-- The steps of each hart, and schedules without changes.
use Rattle.std.proofs.Common.{◌≡◌, ◌≢◌, ℕ, zero, suc, Bool, true, false, List, [], ◌∷◌, length, length-set, Option, Some, None, refl, sym, ap, ◌∙◌, subst}
use Rattle.std.specs.Prelude.{◌==◌, slice_get, slice_set, slice_index}
use Rattle.std.specs.Option.{option_map}
use Rattle.std.specs.FinMap.{get}
use Rattle.std.proofs.lemmas.Bool.{eqb-true, eqb-false}
use Rattle.std.proofs.lemmas.Option.{slice_get-map}
use Rattle.qed_model.specs.declared.change.Change.{Change}
use Rattle.machine.specs.declared.place.Place.{Place}
use Rattle.machine.specs.Struck.{struck}
use Rattle.machine.specs.Step.{State, step}
use Rattle.machine.specs.Progress.{steps_after, advanced, progress, first_state}
use Rattle.qed_model.specs.Promise.Changed.{with_changes, changed_run}
use Rattle.machine.specs.Program.{Program, start, zeros}
use Rattle.harts.specs.Harts.{state_of, Hart, HartsWorld, hart_of, made_of, on_hart, begin_harts, hart_turns, with_first, count, turned, world_after}
use Rattle.harts.specs.Together.{IsProgram, own_run, AreAlone}
use Rattle.harts.specs.HartSteps.{counted_strike, counted_start, Counted, steps_turned, counted_turns, steps_after_turns, counted_after, own_steps, ShowsCounted}
use Rattle.harts.proofs.Turns.{set_here, set_there}
use Rattle.harts.proofs.Together.{turns_here, turns_there, earlier, stand_after, together}
use Rattle.rv_step.proofs.Running.{progress_last}

-- ---- the steps of each hart
-- the number at a place of a list
pub index_is : (ns : List ℕ) (i n : ℕ) → slice_get ns i ≡ Some n → slice_index ns i ≡ n
index_is [] i n e = absurd (cc)
index_is (x ∷ ns) zero n e = cc
index_is (x ∷ ns) (suc i) n e = index_is ns i n e

-- a turn of another hart
steps_there : (o : Option Hart) (t i : ℕ) (ns : List ℕ) → t ≢ i → slice_get (steps_turned o t ns) i ≡ slice_get ns i
steps_there None t i ns n = refl
steps_there (Some h) t i ns n = set_there ns t i (steps_after h.outcome (slice_index ns t)) n

-- a turn of the hart itself
steps_here : (o : Option Hart) (s : State) (t n : ℕ) (ns : List ℕ) → o ≡ Some (hart_of s) → slice_get ns t ≡ Some n → slice_get (steps_turned o t ns) t ≡ Some (steps_after s.outcome n)
steps_here o s t n ns e k =
    ap (λ x. slice_get (steps_turned x t ns) t) e
    ∙ set_here ns t (steps_after s.outcome (slice_index ns t)) n k
    ∙ ap (λ x. Some (steps_after s.outcome x)) (index_is ns t n k)

module _ (gs : List Program) (cs : ℕ → List Change) where
  -- the steps of hart i alone
  alone : List ℕ → ℕ → Program → ℕ
  alone ts i g = own_steps (start g zeros) (cs i) (hart_turns ts i)

  -- the steps of hart i after one more turn of its own
  alone_here : (t : ℕ) (ts : List ℕ) (g : Program) → alone (t ∷ ts) t g ≡ steps_after (own_run cs ts t g).outcome (alone ts t g)
  unfolding alone own_steps
  alone_here t ts g = ap (own_steps (start g zeros) (cs t)) (turns_here t ts)

  alone_there : (t i : ℕ) (ts : List ℕ) (g : Program) → t ≢ i → alone (t ∷ ts) i g ≡ alone ts i g
  unfolding alone
  alone_there t i ts g n = ap (own_steps (start g zeros) (cs i)) (turns_there t i ts n)

  -- the steps of each hart after one more turn
  steps_next : (t : ℕ) (ts : List ℕ) → AreAlone gs cs (t ∷ ts) → ((i : ℕ) (g : Program) → IsProgram gs i g → slice_get (steps_after_turns gs cs ts) i ≡ Some (alone ts i g)) → (i : ℕ) (g : Program) → IsProgram gs i g → slice_get (steps_after_turns gs cs (t ∷ ts)) i ≡ Some (alone (t ∷ ts) i g)
  unfolding steps_after_turns
  steps_next t ts a rest i g e = at (t == i) refl where
    here : (h : Program) → IsProgram gs t h → slice_get (steps_turned (slice_get (world_after gs cs ts).harts t) t (steps_after_turns gs cs ts)) t ≡ Some (alone (t ∷ ts) t h)
    here h k = steps_here (slice_get (world_after gs cs ts).harts t) (own_run cs ts t h) t (alone ts t h) (steps_after_turns gs cs ts) ((stand_after gs cs ts (earlier gs cs t ts a)).harts t h k) (rest t h k) ∙ ap Some (sym (alone_here t ts h))

    at : (b : Bool) → (t == i) ≡ b → slice_get (steps_turned (slice_get (world_after gs cs ts).harts t) t (steps_after_turns gs cs ts)) i ≡ Some (alone (t ∷ ts) i g)
    at true k = let is = eqb-true t i k in subst (λ j. slice_get (steps_turned (slice_get (world_after gs cs ts).harts t) t (steps_after_turns gs cs ts)) j ≡ Some (alone (t ∷ ts) j g)) is (here g (ap (slice_get gs) is ∙ e))
    at false k = let n = eqb-false t i k in steps_there (slice_get (world_after gs cs ts).harts t) t i (steps_after_turns gs cs ts) n ∙ rest i g e ∙ ap Some (sym (alone_there t i ts g n))

  -- the steps of each hart after any schedule
  steps_are : (ts : List ℕ) → AreAlone gs cs ts → (i : ℕ) (g : Program) → IsProgram gs i g → slice_get (steps_after_turns gs cs ts) i ≡ Some (alone ts i g)
  unfolding steps_after_turns alone own_steps hart_turns
  steps_are [] a i g e = slice_get-map (λ g. 0) gs i ∙ ap (option_map (λ g. 0)) e
  steps_are (t ∷ ts) a i g e = steps_next t ts a (steps_are ts (earlier gs cs t ts a)) i g e

-- each hart stands as its run alone does, with as many steps
pub counted_together : (gs : List Program) (cs : ℕ → List Change) (ts : List ℕ) → AreAlone gs cs ts → (i : ℕ) (g : Program) → IsProgram gs i g → ShowsCounted g i (counted_after gs cs ts) (own_run cs ts i g) (own_steps (start g zeros) (cs i) (hart_turns ts i))
unfolding alone
counted_together gs cs ts a i g e = record { shows = together gs cs ts a i g e; steps = steps_are gs cs ts a i g e }

-- ---- without changes
-- setting a place to its own value changes nothing
pub set_same : {X : Type 0} (xs : List X) (i : ℕ) (x : X) → slice_get xs i ≡ Some x → slice_set xs i x ≡ xs
set_same [] i x e = refl
set_same (y ∷ xs) zero x e = let is : y ≡ x = cc in ap (λ z. z ∷ xs) (sym is)
set_same (y ∷ xs) (suc i) x e = ap (λ zs. y ∷ zs) (set_same xs i x e)

-- a list without changes changes nothing
made_same : (o : Option Hart) (i n : ℕ) (w : HartsWorld) → slice_get w.harts i ≡ o → made_of o i (with_changes [] n) w ≡ w
unfolding with_changes
made_same None i n w e = refl
made_same (Some h) i n w e = ap (λ hs. record { harts = hs; memory = w.memory }) (set_same w.harts i h e)

nothing_due : (i n : ℕ) (w : HartsWorld) → on_hart i (with_changes [] n) w ≡ w
unfolding on_hart
nothing_due i n w = made_same (slice_get w.harts i) i n w refl

nothing_first : (n : ℕ) (w : HartsWorld) → with_first (λ i. []) n w ≡ w
unfolding with_first
nothing_first zero w = refl
nothing_first (suc n) w = nothing_due n 0 (with_first (λ i. []) n w) ∙ nothing_first n w

-- the world of the turns, without their counts
pub same_world : (gs : List Program) (ts : List ℕ) → (counted_turns (counted_start gs) ts).world ≡ world_after gs (λ i. []) ts
unfolding counted_turns world_after
same_world gs [] = sym (nothing_first (count gs) (begin_harts gs))
same_world gs (t ∷ ts) = ap (turned t) (same_world gs ts) ∙ sym (nothing_due t (suc (hart_turns ts t)) (turned t (world_after gs (λ i. []) ts)))

-- the steps of the turns
same_steps : (gs : List Program) (ts : List ℕ) → (counted_turns (counted_start gs) ts).steps ≡ steps_after_turns gs (λ i. []) ts
unfolding counted_turns steps_after_turns
same_steps gs [] = refl
same_steps gs (t ∷ ts) = ap (λ w. steps_turned (slice_get w.harts t) t (counted_turns (counted_start gs) ts).steps) (same_world gs ts) ∙ ap (steps_turned (slice_get (world_after gs (λ i. []) ts).harts t) t) (same_steps gs ts)

-- a run alone without changes, with its steps
alone_progress : (s : State) (n : ℕ) → progress (first_state s) n ≡ record { state = changed_run s [] n; steps = own_steps s [] n }
unfolding changed_run with_changes own_steps advanced progress
alone_progress s zero = refl
alone_progress s (suc n) = progress_last (first_state s) n ∙ ap advanced (alone_progress s n)

pub turns_run : (gs : List Program) (ts : List ℕ) → AreAlone gs (λ i. []) ts → (i : ℕ) (g : Program) → IsProgram gs i g → ShowsCounted g i (counted_turns (counted_start gs) ts) (progress (first_state (start g zeros)) (hart_turns ts i)).state (progress (first_state (start g zeros)) (hart_turns ts i)).steps
turns_run gs ts a i g e =
    let c = counted_together gs (λ i. []) ts a i g e in
    let p = alone_progress (start g zeros) (hart_turns ts i) in
    record {
      shows = record {
        hart = ap (λ w. slice_get w.harts i) (same_world gs ts) ∙ c.shows.hart ∙ ap (λ x. Some (hart_of x.state)) (sym p);
        bytes = λ q o. ap (λ w. get w.memory q) (same_world gs ts) ∙ c.shows.bytes q o ∙ ap (λ x. get x.state.memory q) (sym p);
      };
      steps = ap (λ ns. slice_get ns i) (same_steps gs ts) ∙ c.steps ∙ ap (λ x. Some x.steps) (sym p);
    }

-- ---- the number of harts
length_made : (o : Option Hart) (i : ℕ) (f : State → State) (w : HartsWorld) → length (made_of o i f w).harts ≡ length w.harts
length_made None i f w = refl
length_made (Some h) i f w = length-set w.harts i (hart_of (f (state_of h w.memory)))

-- a turn keeps the number of harts
pub length_turned : (i : ℕ) (w : HartsWorld) → length (turned i w).harts ≡ length w.harts
unfolding on_hart
length_turned i w = length_made (slice_get w.harts i) i step w

-- a change keeps the number of harts
pub length_struck : (i : ℕ) (p : Place) (x : ℕ) (c : Counted) → length (counted_strike i p x c).world.harts ≡ length c.world.harts
unfolding on_hart
length_struck i p x c = length_made (slice_get c.world.harts i) i (struck p x) c.world

-- the turns of a schedule keep the number of harts
pub length_turns : (c : Counted) (ts : List ℕ) → length (counted_turns c ts).world.harts ≡ length c.world.harts
unfolding counted_turns
length_turns c [] = refl
length_turns c (t ∷ ts) = length_turned t (counted_turns c ts).world ∙ length_turns c ts
