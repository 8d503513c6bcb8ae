-- The start, a turn and a change, part by part.
use Rattle.std.proofs.Common.{◌≡◌, ℕ, zero, suc, ◌<◌, length, arith, true, false, List, [], ◌∷◌, Some, is_some, refl, sym, ap, ◌∙◌}
use Rattle.std.specs.Prelude.{map, slice_get, slice_set, slice_index}
use Rattle.std.specs.Option.{option_map}
use Rattle.std.specs.FinMap.{find}
use Rattle.std.specs.Ordering.{nat_cmp}
use Rattle.std.proofs.lemmas.Bool.{false≢true}
use Rattle.machine.specs.declared.place.Place.{Place}
use Rattle.machine.specs.declared.outcome.Outcome.{Outcome}
use Rattle.machine.specs.Struck.{struck}
use Rattle.machine.specs.Step.{step}
use Rattle.machine.specs.Program.{Program, cells_of}
use Rattle.harts.specs.Harts.{Hart, hart_of, state_of, all_segments}
use Rattle.harts.specs.Together.{AreDisjoint}
use Rattle.rv_step.specs.Harts.{HartState, with_memory}
use Rattle.rv_step.specs.Known.{struck_progress}
use Rattle.harts.specs.HartSteps.{Counted, bare, counted_world, counted_turn, counted_strike, steps_turned}
use Rattle.machine.proofs.Lemmas.{get_memory, find_skip, cells_of-append}
use Rattle.harts.specs.Starts.{IsOfSome, IsUnion, IsTurned, IsHartStruck, WorldLaws}
use Rattle.std.proofs.lemmas.Option.{slice_get-map}
use Rattle.std.proofs.lemmas.List.{map-set}
use Rattle.machine.specs.declared.place.Place.TheVariants.{Word}
use Rattle.machine.specs.Memory.{Memory, put}
use Rattle.machine.specs.Progress.{steps_after, advanced}
use Rattle.harts.proofs.Turns.{on_some, set_here}
use Rattle.harts.proofs.Steps.{index_is, set_same}
use Rattle.harts.proofs.Start.{start_cells}

-- ---- the start
-- the files behind the first
of_rest : (g : Program) (gs : List Program) (q : ℕ) → IsOfSome gs q → IsOfSome (g ∷ gs) q
of_rest g gs q x = record { number = suc x.number; file = x.file; stands = x.stands; maps = x.maps }

-- a cell of the first file
of_first : (g : Program) (gs : List Program) (q : ℕ) → is_some (find nat_cmp q (cells_of g.segments)) ≡ true → IsOfSome (g ∷ gs) q
of_first g gs q e = record { number = 0; file = g; stands = refl; maps = ap is_some (get_memory g.segments q) ∙ e }

-- a cell of all segments is one of a file
of_some : (gs : List Program) (q : ℕ) → is_some (find nat_cmp q (cells_of (all_segments gs))) ≡ true → IsOfSome gs q
of_some [] q e = absurd (false≢true e)
of_some (g ∷ gs) q e =
    elim (is_some (find nat_cmp q (cells_of g.segments))) as (λ b. is_some (find nat_cmp q (cells_of g.segments)) ≡ b → IsOfSome (g ∷ gs) q) [
      | true ↦ λ x. of_first g gs q x
      | false ↦ λ x. of_rest g gs q (of_some gs q (ap is_some (sym (find_skip (cells_of g.segments) (cells_of (all_segments gs)) q x) ∙ sym (ap (find nat_cmp q) (cells_of-append g.segments (all_segments gs)))) ∙ e))
    ] refl

union : (gs : List Program) → AreDisjoint gs → IsUnion gs
union gs files = record {
  cells = λ i g e q o. start_cells gs files i g e q o;
  only = λ q e. of_some gs q (ap is_some (sym (get_memory (all_segments gs) q)) ∙ e);
}

-- ---- a turn and a change
turned_is : (c : Counted) (i : ℕ) (h : Hart) → slice_get c.world.harts i ≡ Some h → IsTurned c i h
turned_is c i h e =
    let w = on_some c.world i step (state_of h c.world.memory) e in
    record {
      harts = ap (λ x. x.harts) w;
      memory = ap (λ x. x.memory) w;
      steps = ap (λ o. steps_turned o i c.steps) e;
    }

struck_is : (c : Counted) (i : ℕ) (p : Place) (x : ℕ) (h : Hart) → slice_get c.world.harts i ≡ Some h → IsHartStruck c i p x h
struck_is c i p x h e =
    let w = on_some c.world i (struck p x) (state_of h c.world.memory) e in
    record { harts = ap (λ y. y.harts) w; memory = ap (λ y. y.memory) w }

-- ---- turns and changes of harts with their steps
-- worlds with equal parts
pub same_counted : (c d : Counted) → c.world.harts ≡ d.world.harts → c.world.memory ≡ d.world.memory → c.steps ≡ d.steps → c ≡ d
same_counted c d a b e = λ j. record { world = record { harts = a j; memory = b j }; steps = e j }

-- one hart of a list, and the memory, became as a change of states says: they are the world after it
module _ (hs : List HartState) (m n : Memory) (i : ℕ) (h k : HartState) (e : slice_get hs i ≡ Some h) where
  hart_there : slice_get (map bare hs) i ≡ Some (bare h)
  hart_there = slice_get-map bare hs i ∙ ap (option_map bare) e

  steps_there : slice_get (map (λ h. h.steps) hs) i ≡ Some h.steps
  steps_there = slice_get-map (λ h. h.steps) hs i ∙ ap (option_map (λ h. h.steps)) e

  -- a turn of hart i
  pub turn_counted : with_memory k n ≡ advanced (with_memory h m) → counted_world (slice_set hs i k) n ≡ counted_turn i (counted_world hs m)
  unfolding advanced
  turn_counted is =
      let t = turned_is (counted_world hs m) i (bare h) hart_there in
      let was : slice_index (map (λ h. h.steps) hs) i ≡ h.steps = index_is (map (λ h. h.steps) hs) i h.steps steps_there in
      same_counted (counted_world (slice_set hs i k) n) (counted_turn i (counted_world hs m))
      (map-set bare hs i k ∙ ap (λ p. slice_set (map bare hs) i (hart_of p.state)) is ∙ sym t.harts)
      (ap (λ p. p.state.memory) is ∙ sym t.memory)
      (map-set (λ h. h.steps) hs i k ∙ ap (λ p. slice_set (map (λ h. h.steps) hs) i p.steps) is ∙ ap (λ x. slice_set (map (λ h. h.steps) hs) i (steps_after h.outcome x)) (sym was) ∙ sym t.steps)

  -- a change of hart i
  pub strike_counted : (p : Place) (x : ℕ) → with_memory k n ≡ struck_progress p x (with_memory h m) → counted_world (slice_set hs i k) n ≡ counted_strike i p x (counted_world hs m)
  strike_counted p x is =
      let t = struck_is (counted_world hs m) i p x (bare h) hart_there in
      same_counted (counted_world (slice_set hs i k) n) (counted_strike i p x (counted_world hs m))
      (map-set bare hs i k ∙ ap (λ q. slice_set (map bare hs) i (hart_of q.state)) is ∙ sym t.harts)
      (ap (λ q. q.state.memory) is ∙ sym t.memory)
      (map-set (λ h. h.steps) hs i k ∙ ap (λ q. slice_set (map (λ h. h.steps) hs) i q.steps) is ∙ set_same (map (λ h. h.steps) hs) i h.steps steps_there)

  -- the outcome of the hart afterwards
  pub outcome_after : (o : Outcome) → o ≡ k.outcome → option_map (λ h. h.outcome) (slice_get (counted_world (slice_set hs i k) n).world.harts i) ≡ Some o
  outcome_after o is = ap (option_map (λ h. h.outcome)) (slice_get-map bare (slice_set hs i k) i ∙ ap (option_map bare) (set_here hs i k h e)) ∙ ap Some (sym is)

-- there is a hart of each number below their count
hart_at : (hs : List HartState) (i : ℕ) → i < length hs → (h : HartState) × (slice_get hs i ≡ Some h)
hart_at [] i l = absurd (omega arith)
hart_at (h ∷ hs) zero l = (h, refl)
hart_at (h ∷ hs) (suc i) l = hart_at hs i (omega arith)

-- a change of a word leaves the harts
pub strike_word : (hs : List HartState) (m n : Memory) (i a x : ℕ) → i < length hs → n ≡ put m a 8 x → counted_world hs n ≡ counted_strike i (Word a) x (counted_world hs m)
unfolding struck
strike_word hs m n i a x l is =
    let h = hart_at hs i l in
    ap (λ ks. counted_world ks n) (sym (set_same hs i h.0 h.1)) ∙ strike_counted hs m n i h.0 h.0 h.1 (Word a) x (ap (λ y. with_memory h.0 y) is)

pub world_laws : WorldLaws
world_laws = record { starts = union; turns = turned_is; strikes = struck_is }
