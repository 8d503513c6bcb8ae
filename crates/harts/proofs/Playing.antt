-- The hart that the code reads, and turns of a list of harts, again and again.
use Rattle.std.proofs.Common.{◌≡◌, ℕ, zero, suc, ◌+◌, ◌-◌, ◌*◌, ◌/◌, ◌%◌, ◌<◌, ◌≤◌, false, Option, None, List, length, get_or, Some, refl, sym, ap, ◌∙◌, subst, arith}
use Rattle.std.specs.Prelude.{slice_get, slice_index, slice_set, IfSome}
use Rattle.std.proofs.Math.Nat.{add-mul-mod_self_right, mod-add-div'}
use Rattle.std.proofs.lemmas.Nat.{mod-mul-add}
use Rattle.std.proofs.lemmas.List.{length-map, set-get_or}
use Rattle.std.proofs.lemmas.Option.{slice_get-get_or}
use Rattle.machine.specs.declared.outcome.Outcome.{Outcome}
use Rattle.machine.specs.declared.outcome.Outcome.TheVariants.{Going}
use Rattle.machine.specs.Memory.{Memory}
use Rattle.machine.specs.Progress.{steps_after}
use Rattle.machine.specs.Step.{step}
use Rattle.rv_step.specs.Harts.{HartState}
use Rattle.rv_step.proofs.Running.{stays_step}
use Rattle.harts.specs.Harts.{Hart, HartsWorld, hart_of, made_of, on_hart, state_of}
use Rattle.harts.specs.HartSteps.{Counted, bare, counted_world, counted_turn, counted_turns, cycled, steps_turned}
use Rattle.rv_step.specs.Known.{does_step}
use Rattle.harts.specs.Standing.{AreIdle}
use Rattle.harts.proofs.Steps.{length_turns, set_same}

-- the hart's number is below the count
pub below : (hs : List HartState) (m : Memory) (c : Counted) (i : ℕ) → counted_world hs m ≡ c → i < length c.world.harts → i < length hs
below hs m c i v l = subst (λ n. i < n) (ap (λ x. length x.world.harts) (sym v) ∙ length-map hs bare) l

-- the hart stands at its number
pub hart_read : (hs : List HartState) (m : Memory) (c : Counted) (i : ℕ) (h : HartState) → counted_world hs m ≡ c → i < length c.world.harts → h ≡ get_or hs i h → slice_get hs i ≡ Some h
hart_read hs m c i h v l e = slice_get-get_or hs i h (below hs m c i v l) ∙ ap Some (sym e)

-- ---- turns of a list of harts, again and again
-- no turn yet
pub none_played : (c : Counted) (ds : List ℕ) → c ≡ counted_turns c (cycled ds 0)
unfolding counted_turns cycled
none_played c ds = refl

-- one more turn
pub more_played : (c s t : Counted) (ds : List ℕ) (k : ℕ) → s ≡ counted_turns c (cycled ds k) → t ≡ counted_turn (slice_index ds (k % length ds)) s → t ≡ counted_turns c (cycled ds (k + 1))
unfolding counted_turns cycled
more_played c s t ds k e is = let one : k + 1 ≡ suc k = omega arith in is ∙ ap (counted_turn (slice_index ds (k % length ds))) e ∙ ap (λ n. counted_turns c (cycled ds n)) (sym one)

-- the hart of a turn still exists
pub there_still : (c s : Counted) (ds : List ℕ) (k : ℕ) → s ≡ counted_turns c (cycled ds k) → 0 < length ds → ((j : ℕ) → j < length ds → slice_index ds j < length c.world.harts) → slice_index ds (k % length ds) < length s.world.harts
there_still c s ds k e some all = subst (λ n. slice_index ds (k % length ds) < n) (sym (ap (λ x. length x.world.harts) e ∙ length_turns c (cycled ds k))) (all (k % length ds) (omega (arith, some)))

-- ---- turns of harts that do not go on
as_many : (o : Outcome) (n : ℕ) → does_step o ≡ false → steps_after o n ≡ n
as_many Going n h = absurd (cc)
as_many o n h = refl

idle_world : (w : HartsWorld) (i : ℕ) (o : Option Hart) → slice_get w.harts i ≡ o → IfSome o (λ h. does_step h.outcome ≡ false) → made_of o i step w ≡ w
idle_world w i None e idle = refl
idle_world w i (Some h) e idle =
    let same = stays_step (state_of h w.memory) idle in
    ap (λ s. record { harts = slice_set w.harts i (hart_of s); memory = s.memory }) same
    ∙ ap (λ hs. record { harts = hs; memory = w.memory }) (set_same w.harts i h e)

idle_steps : (o : Option Hart) (i : ℕ) (ns : List ℕ) → IfSome o (λ h. does_step h.outcome ≡ false) → steps_turned o i ns ≡ ns
idle_steps None i ns idle = refl
idle_steps (Some h) i ns idle = ap (slice_set ns i) (as_many h.outcome (slice_index ns i) idle) ∙ set-get_or ns i 0

-- a turn of a hart that does not go on changes nothing
idle_turn : (c : Counted) (i : ℕ) → IfSome (slice_get c.world.harts i) (λ h. does_step h.outcome ≡ false) → counted_turn i c ≡ c
unfolding on_hart
idle_turn c i idle =
    ap (λ w. record { world = w; steps = steps_turned (slice_get c.world.harts i) i c.steps }) (idle_world c.world i (slice_get c.world.harts i) refl idle)
    ∙ ap (λ ns. record { world = c.world; steps = ns }) (idle_steps (slice_get c.world.harts i) i c.steps idle)

idle_at : (c : Counted) (ds : List ℕ) (k : ℕ) (o : Option Hart) → AreIdle c ds → k < length ds → slice_get c.world.harts (slice_index ds k) ≡ o → IfSome o (λ h. does_step h.outcome ≡ false)
idle_at c ds k None idle l e = tt
idle_at c ds k (Some h) idle l e = idle.each k h l e

-- more turns of harts that do not go on change nothing
idle_more : (c s : Counted) (ds : List ℕ) (k n : ℕ) → AreIdle s ds → 0 < length ds → s ≡ counted_turns c (cycled ds k) → s ≡ counted_turns c (cycled ds (k + n))
unfolding counted_turns cycled
idle_more c s ds k zero idle some e = let none : k ≡ k + 0 = omega arith in e ∙ ap (λ m. counted_turns c (cycled ds m)) none
idle_more c s ds k (suc n) idle some e =
    let before = idle_more c s ds k n idle some e in
    let next : suc (k + n) ≡ k + suc n = omega arith in
    let i : ℕ = slice_index ds ((k + n) % length ds) in
    sym (idle_turn s i (idle_at s ds ((k + n) % length ds) (slice_get s.world.harts i) idle (omega (arith, some)) refl)) ∙ ap (counted_turn i) before ∙ ap (λ m. counted_turns c (cycled ds m)) next

pub all_played : (c s : Counted) (ds : List ℕ) (k n : ℕ) → AreIdle s ds → 0 < length ds → s ≡ counted_turns c (cycled ds k) → k ≤ n → s ≡ counted_turns c (cycled ds n)
all_played c s ds k n idle some e most = let sum : k + (n - k) ≡ n = omega arith in idle_more c s ds k (n - k) idle some e ∙ ap (λ m. counted_turns c (cycled ds m)) sum

-- ---- a lack of memory
-- ---- places in a circle
pub first_place : (n : ℕ) → 0 < n → 0 ≡ 0 % n
first_place n some = let all : 0 * n + 0 ≡ 0 = omega arith in sym (ap (λ m. m % n) (sym all) ∙ mod-mul-add 0 n 0 some)

-- the remainder of k decides that of k + 1
pub next_place : (k n : ℕ) → 0 < n → (k % n + 1) % n ≡ (k + 1) % n
next_place k n some =
    let parts : k % n + k / n * n ≡ k = mod-add-div' k n in
    let all : k + 1 ≡ (k % n + 1) + k / n * n = omega (arith, parts) in
    sym (ap (λ m. m % n) all ∙ add-mul-mod_self_right (k % n + 1) (k / n) n)
