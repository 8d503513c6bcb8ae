-- What is counted of blocks is what their rows say.
use Rattle.std.proofs.Common.{◌≡◌, ℕ, ◌+◌, ◌^◌, ◌<◌, ◌≤◌, ⊎_elim, Bool, true, false, cond, Some, List, [], ◌∷◌, map, refl, sym, ap, ◌∙◌, subst, arith}
use Rattle.std.specs.Prelude.{All, ◌==◌, ◌||◌}
use Rattle.std.specs.BTreeMap.{BTreeMap, get}
use Rattle.std.specs.BTreeSet.{BTreeSet}
use Rattle.std.specs.Ordering.{nat_cmp, is_eq}
use Rattle.std.specs.Cmp.{unsigned_tied}
use Rattle.std.proofs.lemmas.List.Elements.{All-head, All-tail}
use Rattle.machine.specs.Members.{Among}
use Rattle.qed_model.specs.Weave.LeanCode.{Counting, end_at, leads_on, leads_in, has_tick, most_at, owed_at, owed_behind, needs_tick, tick_rows, block_steps}
use Rattle.qed_model.specs.Weave.Sequences.{Block, End}
use Rattle.lean.proofs.Weave.Ticks.{few_behind}
use Rattle.block_split.specs.declared.block.CodeBlock.{CodeBlock}
use Rattle.block_split.specs.Listed.{block_of}
use Rattle.lean.specs.declared.counts.Counted.{Counted}
use Rattle.machine.specs.Sets.{has_address}
use Rattle.lean.specs.Counts.{ticks_of, most_of, ticks_in, most_in, owed_in, AddsTo, AreCounts}

-- ---- one block more
module _ (c : Counting) (bs : List Block) (counts : BTreeMap ℕ Counted) (goals : BTreeSet ℕ) (are : AreCounts c bs counts goals) where
  owed_there : (e : End) (at : ℕ) → owed_behind c.room (owed_in counts) e at ≡ owed_behind c.room (owed_at (tick_rows c bs)) e at
  owed_there e at = λ i. owed_behind c.room (λ a. cond (are.ticks a i) 0 (are.most a i)) e at

  -- the sum of its steps and of those that it owes
  pub sum_is :
      (b : Block) (steps owes most : ℕ) → steps ≡ block_steps c.diverse c.land c.leader b → steps < 2048 → c.room ≤ 48 → owes ≡ owed_behind c.room (owed_in counts) b.end (end_at b)
      → (steps + owes < 2 ^ 64 → most ≡ steps + owes) → most ≡ block_steps c.diverse c.land c.leader b + owed_behind c.room (owed_at (tick_rows c bs)) b.end (end_at b)
  sum_is b steps owes most e few room o sum =
      let there = owed_there b.end (end_at b) in
      let small = few_behind c bs b.end (end_at b) in
      let is = sum (omega (arith, few, room, o, there, small)) in
      omega (arith, is, e, o, there)

  module _ (b : Block) (most : ℕ) (behind : Bool) (added : BTreeMap ℕ Counted) (led : BTreeSet ℕ) (is : most ≡ block_steps c.diverse c.land c.leader b + owed_behind c.room (owed_at (tick_rows c bs)) b.end (end_at b)) (leads : AddsTo goals led (leads_on b.end (end_at b)))
      (here : behind ≡ has_address led b.start) (sets : (q : ℕ) → get nat_cmp added q ≡ cond (is_eq (nat_cmp b.start q)) (Some (record { ticks = needs_tick c b behind most; most = most })) (get nat_cmp counts q)) where
    led_is : (a : ℕ) → has_address led a ≡ leads_in (b ∷ bs) a
    led_is a = leads.each a ∙ ap (λ x. leads_on b.end (end_at b) a || x) (are.led a)

    abbrev own : Counted
    own = record { ticks = needs_tick c b behind most; most = most }

    at_key : (a : ℕ) → get nat_cmp added a ≡ cond (b.start == a) (Some own) (get nat_cmp counts a)
    at_key a = sets a ∙ ap (λ p. cond p (Some own) (get nat_cmp counts a)) (unsigned_tied b.start a)

    ticks_by : (a : ℕ) (p : Bool) → ticks_of (cond p (Some own) (get nat_cmp counts a)) ≡ cond p (needs_tick c b behind most) (has_tick (tick_rows c bs) a)
    ticks_by a true = refl
    ticks_by a false = are.ticks a

    most_by : (a : ℕ) (p : Bool) → most_of (cond p (Some own) (get nat_cmp counts a)) ≡ cond p most (most_at (tick_rows c bs) a)
    most_by a true = refl
    most_by a false = are.most a

    ticks_are : (a : ℕ) → ticks_in added a ≡ has_tick (tick_rows c (b ∷ bs)) a
    ticks_are a =
        ap ticks_of (at_key a)
        ∙ ticks_by a (b.start == a)
        ∙ ap (λ x. cond (b.start == a) (needs_tick c b x most) (has_tick (tick_rows c bs) a)) (here ∙ led_is b.start)
        ∙ ap (λ n. cond (b.start == a) (needs_tick c b (leads_in (b ∷ bs) b.start) n) (has_tick (tick_rows c bs) a)) is

    most_are : (a : ℕ) → most_in added a ≡ most_at (tick_rows c (b ∷ bs)) a
    most_are a = ap most_of (at_key a) ∙ most_by a (b.start == a) ∙ ap (λ n. cond (b.start == a) n (most_at (tick_rows c bs) a)) is

    pub one_more : AreCounts c (b ∷ bs) added led
    one_more = record { ticks = ticks_are; most = most_are; led = led_is }

-- ---- of blocks of a test
pub among_all : (P : Block → Type 0) (bs : List CodeBlock) → All (λ b. P (block_of b)) bs → (b : Block) → Among b (map block_of bs) → P b
among_all P [] all b m = absurd m
among_all P (d ∷ ds) all b m = ⊎_elim (λ e. subst P (sym e) (All-head (λ b. P (block_of b)) d ds all)) (λ r. among_all P ds (All-tail (λ b. P (block_of b)) d ds all) b r) m
