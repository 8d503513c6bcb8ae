-- All harts at once: an effect on one of them leaves the others.
use Rattle.std.proofs.Common.{◌≡◌, ◌≢◌, ℕ, zero, suc, Bool, true, false, List, [], ◌∷◌, Option, Some, None, refl, sym, ap, ◌∙◌, subst}
use Rattle.std.specs.Prelude.{◌==◌, slice_get, slice_set}
use Rattle.std.proofs.lemmas.Bool.{eqb-true, eqb-false}
use Rattle.machine.specs.Memory.{Memory, get}
use Rattle.machine.specs.Step.{State}
use Rattle.machine.specs.Program.{Program}
use Rattle.qed_model.specs.Promise.Kept.{is_mapped}
use Rattle.harts.specs.Harts.{HartsWorld, hart_of, made_of, on_hart}
use Rattle.harts.specs.Together.{IsProgram, AreDisjoint}
use Rattle.harts.proofs.Beside.{beside, Holds, Does}

-- ---- lists
-- the place that was set
pub set_here : {X : Type 0} (xs : List X) (i : ℕ) (x y : X) → slice_get xs i ≡ Some y → slice_get (slice_set xs i x) i ≡ Some x
set_here [] i x y e = absurd (cc)
set_here (z ∷ xs) zero x y e = refl
set_here (z ∷ xs) (suc i) x y e = set_here xs i x y e

-- another place
pub set_there : {X : Type 0} (xs : List X) (t i : ℕ) (x : X) → t ≢ i → slice_get (slice_set xs t x) i ≡ slice_get xs i
set_there [] t i x n = refl
set_there (z ∷ xs) zero zero x n = absurd (n refl)
set_there (z ∷ xs) zero (suc i) x n = refl
set_there (z ∷ xs) (suc t) zero x n = refl
set_there (z ∷ xs) (suc t) (suc i) x n = set_there xs t i x (λ e. n (ap suc e))

-- ---- one hart
-- the effect on a hart that is that of a state
pub on_some : (w : HartsWorld) (t : ℕ) (f : State → State) (s : State) → slice_get w.harts t ≡ Some (hart_of s) → on_hart t f w ≡ record { harts = slice_set w.harts t (hart_of (f (beside w.memory s))); memory = (f (beside w.memory s)).memory }
unfolding on_hart
on_some w t f s e = ap (λ o. made_of o t f w) e

-- the effect if the world lacks the hart
pub on_none : (w : HartsWorld) (t : ℕ) (f : State → State) → slice_get w.harts t ≡ None → on_hart t f w ≡ w
unfolding on_hart
on_none w t f e = ap (λ o. made_of o t f w) e

-- each hart of the world is that of its file's state, and the memory has the file's cells as that state has them
pub record Stand (gs : List Program) (w : HartsWorld) (states : ℕ → Program → State) : Type 0 where
  pub harts : (i : ℕ) (g : Program) → IsProgram gs i g → slice_get w.harts i ≡ Some (hart_of (states i g))
  pub none : (i : ℕ) → slice_get gs i ≡ None → slice_get w.harts i ≡ None
  pub holds : (i : ℕ) (g : Program) → IsProgram gs i g → Holds g (states i g).memory w.memory

-- harts stand at equal states
pub stand_as : (gs : List Program) (w : HartsWorld) (before after : ℕ → Program → State) → ((i : ℕ) (g : Program) → IsProgram gs i g → after i g ≡ before i g) → Stand gs w before → Stand gs w after
stand_as gs w before after same s = record {
  harts = λ i g e. s.harts i g e ∙ ap (λ x. Some (hart_of x)) (sym (same i g e));
  none = s.none;
  holds = λ i g e. subst (λ x. Holds g x.memory w.memory) (sym (same i g e)) (s.holds i g e);
}

module _ (gs : List Program) (files : AreDisjoint gs) (w : HartsWorld) (before : ℕ → Program → State) (stand : Stand gs w before) (t : ℕ) (f : State → State) (does : (g : Program) (m : Memory) → IsProgram gs t g → Holds g (before t g).memory m → Does g m (f (before t g)) (f (beside m (before t g)))) where
  -- the effect on the hart
  made : (g : Program) → IsProgram gs t g → Does g w.memory (f (before t g)) (f (beside w.memory (before t g)))
  made g e = does g w.memory e (stand.holds t g e)

  -- the world after the effect
  then_world : (g : Program) → IsProgram gs t g → on_hart t f w ≡ record { harts = slice_set w.harts t (hart_of (f (beside w.memory (before t g)))); memory = (f (beside w.memory (before t g))).memory }
  then_world g e = on_some w t f (before t g) (stand.harts t g e)

  -- the hart itself
  hart_here : (g : Program) → IsProgram gs t g → slice_get (on_hart t f w).harts t ≡ Some (hart_of (f (before t g)))
  hart_here g e = ap (λ x. slice_get x.harts t) (then_world g e) ∙ set_here w.harts t (hart_of (f (beside w.memory (before t g)))) (hart_of (before t g)) (stand.harts t g e) ∙ ap (λ x. Some (hart_of x)) (made g e).is

  -- the cells of the hart itself
  holds_here : (g : Program) → IsProgram gs t g → Holds g (f (before t g)).memory (on_hart t f w).memory
  holds_here g e = subst (λ x. Holds g (f (before t g)).memory x.memory) (sym (then_world g e)) (made g e).holds

  -- another hart
  hart_there : (o : Option Program) → slice_get gs t ≡ o → (i : ℕ) → t ≢ i → slice_get (on_hart t f w).harts i ≡ slice_get w.harts i
  hart_there None e i n = ap (λ x. slice_get x.harts i) (on_none w t f (stand.none t e))
  hart_there (Some g) e i n = ap (λ x. slice_get x.harts i) (then_world g e) ∙ set_there w.harts t i (hart_of (f (beside w.memory (before t g)))) n

  -- no cell of another file is one of this file
  not_mine : (b : Bool) (i : ℕ) (g h : Program) → IsProgram gs t g → IsProgram gs i h → t ≢ i → (q : ℕ) → is_mapped h q ≡ true → is_mapped g q ≡ b → is_mapped g q ≡ false
  not_mine true i g h eg eh n q o e = absurd (files.apart t i g h eg eh n q e o)
  not_mine false i g h eg eh n q o e = e

  -- the cells of another file
  cell_there : (o : Option Program) → slice_get gs t ≡ o → (i : ℕ) (h : Program) → IsProgram gs i h → t ≢ i → (q : ℕ) → is_mapped h q ≡ true → get (on_hart t f w).memory q ≡ get w.memory q
  cell_there None e i h eh n q o = ap (λ x. get x.memory q) (on_none w t f (stand.none t e))
  cell_there (Some g) e i h eh n q o = ap (λ x. get x.memory q) (then_world g e) ∙ (made g e).others q (files.low i h eh q o) (not_mine (is_mapped g q) i g h e eh n q o refl)

  holds_there : (i : ℕ) (h : Program) → IsProgram gs i h → t ≢ i → Holds h (before i h).memory (on_hart t f w).memory
  holds_there i h eh n = let r = stand.holds i h eh in record { cells = λ q o. cell_there (slice_get gs t) refl i h eh n q o ∙ r.cells q o; mapped = r.mapped }

  -- the effect if the world lacks the hart
  none_then : (b : Bool) (i : ℕ) → (t == i) ≡ b → slice_get gs i ≡ None → slice_get (on_hart t f w).harts i ≡ None
  none_then true i e n =
      let none : slice_get w.harts t ≡ None = stand.none t (ap (slice_get gs) (eqb-true t i e) ∙ n) in
      ap (λ x. slice_get x.harts i) (on_none w t f none) ∙ stand.none i n
  none_then false i e n = hart_there (slice_get gs t) refl i (eqb-false t i e) ∙ stand.none i n

  -- all harts, if only the state of this hart is another
  pub stand_then : (after : ℕ → Program → State) → ((g : Program) → IsProgram gs t g → after t g ≡ f (before t g)) → ((i : ℕ) (g : Program) → IsProgram gs i g → t ≢ i → after i g ≡ before i g) → Stand gs (on_hart t f w) after
  stand_then after here there = record {
    harts = λ i g e. harts (t == i) i g e refl;
    none = λ i e. none_then (t == i) i refl e;
    holds = λ i g e. holds (t == i) i g e refl;
  } where
    -- the file of hart i, if that is this hart
    mine : (i : ℕ) (g : Program) → t ≡ i → IsProgram gs i g → IsProgram gs t g
    mine i g e k = ap (slice_get gs) e ∙ k

    harts : (b : Bool) (i : ℕ) (g : Program) → IsProgram gs i g → (t == i) ≡ b → slice_get (on_hart t f w).harts i ≡ Some (hart_of (after i g))
    harts true i g k e =
        let is = eqb-true t i e in
        subst (λ j. slice_get (on_hart t f w).harts j ≡ Some (hart_of (after j g))) is (hart_here g (mine i g is k) ∙ ap (λ x. Some (hart_of x)) (sym (here g (mine i g is k))))
    harts false i g k e = let n = eqb-false t i e in hart_there (slice_get gs t) refl i n ∙ stand.harts i g k ∙ ap (λ x. Some (hart_of x)) (sym (there i g k n))

    holds : (b : Bool) (i : ℕ) (g : Program) → IsProgram gs i g → (t == i) ≡ b → Holds g (after i g).memory (on_hart t f w).memory
    holds true i g k e =
        let is = eqb-true t i e in
        subst (λ j. Holds g (after j g).memory (on_hart t f w).memory) is (subst (λ x. Holds g x.memory (on_hart t f w).memory) (sym (here g (mine i g is k))) (holds_here g (mine i g is k)))
    holds false i g k e = let n = eqb-false t i e in subst (λ x. Holds g x.memory (on_hart t f w).memory) (sym (there i g k n)) (holds_there i g k n)
