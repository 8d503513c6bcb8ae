-- In the lean form blocks are short: each multiple of as many words as a piece may have begins one. So a block has no
-- more instructions than a piece, and fewer steps than there are from check to check.
use Rattle.std.proofs.Common.{◌≡◌, ℕ, ◌+◌, ◌-◌, ◌*◌, ◌/◌, ◌%◌, ◌<◌, ◌≤◌, ⊎_elim, Bool, true, List, length, Some, is_some, ap, ◌∙◌, subst, arith}
use Rattle.std.specs.Prelude.{IfSome}
use Rattle.std.proofs.lemmas.Bool.{cases_lt}
use Rattle.std.proofs.lemmas.Nat.{mod_below}
use Rattle.std.proofs.Math.Nat.{div-add-mod, mul-add, mul_assoc, mul-mod_right, mul-le-mul_left}
use Rattle.tests.specs.declared.options.Entries.TheVariants as entries
use Rattle.tests.specs.Admission.Leaders.{Even, IsLeader}
use Rattle.machine.specs.Members.{Among}
use Rattle.qed_model.specs.Weave.Blocks.{StopsAt, IsLeaderBlock, begins_at, AreBlocks, ElfFile, Options}
use Rattle.qed_model.specs.Weave.LeanBounds.{cost_of, entry_steps}
use Rattle.qed_model.specs.Weave.SoundOptions.{AreSoundOptions}
use Rattle.qed_model.specs.Weave.Sequences.{Block, End, Falls, Stops, body_length}
use Rattle.qed_model.specs.Weave.LeanCode.{block_steps}
use Rattle.qed_model.proofs.Lemmas.{sound_most, body_code}
use Rattle.lean.proofs.Weave.Blocks.{begins, length_is, leading}
use Rattle.lean.proofs.Weave.Costs.{IsEnd, body_most, end_most}

-- ---- the next multiple
-- n words behind an aligned address
abbrev words_to : ℕ → ℕ → ℕ
words_to n a = n - a / 4 % n

multiple : (n a : ℕ) → 1 ≤ n → a % 4 ≡ 0 → (a + 4 * words_to n a) % (4 * n) ≡ 0
multiple n a some grain =
    let q = a / 4 in
    let below : q % n < n = mod_below q n some in
    let parts : n * (q / n) + q % n ≡ q = div-add-mod q n in
    let next : n * (q / n + 1) ≡ n * (q / n) + n * 1 = mul-add n (q / n) 1 in
    let whole : 4 * n * (q / n + 1) ≡ 4 * (n * (q / n + 1)) = mul_assoc 4 n (q / n + 1) in
    let is : a + 4 * words_to n a ≡ 4 * n * (q / n + 1) = omega (arith, grain, below, parts, next, whole) in
    ap (λ x. x % (4 * n)) is ∙ mul-mod_right (4 * n) (q / n + 1)

module _ (f : ElfFile) (o : Options) (every : ℕ) (sound : AreSoundOptions o) (lean : o.lean ≡ Some every) where
  -- ---- the options
  is_sound : (o.entries ≡ entries.Reached) × (every ≤ 2047) × (entry_steps o.land + 27 + cost_of o.diverse * o.inst_max < every)
  is_sound = subst (λ x. IfSome x (λ n. (o.entries ≡ entries.Reached) × (n ≤ 2047) × (entry_steps o.land + 27 + cost_of o.diverse * o.inst_max < n))) lean sound.lean

  pub only_reached : o.entries ≡ entries.Reached
  only_reached = is_sound.0

  pub few_steps : every ≤ 2047
  few_steps = is_sound.1

  -- ---- a block
  -- it has no more instructions than a piece
  few_instructions : (b : Block) (l : IsLeaderBlock f o b) → b.start % 4 ≡ 0 → length l.body ≤ o.inst_max
  few_instructions b l grain = ⊎_elim (λ long. absurd (too_long long)) (λ few. few) (cases_lt o.inst_max (length l.body)) where
    too_long : o.inst_max < length l.body → ⊥
    too_long long =
        let k = words_to o.inst_max b.start in
        let below : b.start / 4 % o.inst_max < o.inst_max = mod_below (b.start / 4) o.inst_max (sound_most o sound) in
        let inside : k < length l.body = omega (arith, long) in
        let leads : IsLeader f o (b.start + 4 * k) = record {
          code = body_code f o l.body b.start k l.stands inside;
          begins = Even (ap is_some lean) (multiple o.inst_max b.start (sound_most o sound) grain);
        } in
        l.inside k (omega (arith, below)) inside leads

  -- the most steps of a block
  abbrev pub own_most : ℕ
  own_most = entry_steps o.land + 27 + cost_of o.diverse * o.inst_max

  pub own_few : own_most < every
  own_few = is_sound.2

  few_of : (leader : ℕ → Bool) (b : Block) (l : IsLeaderBlock f o b) → b.start % 4 ≡ 0 → block_steps o.diverse o.land leader b ≤ own_most
  few_of leader b l grain =
      let n = length_is f o (sound_most o sound) b l in
      let few = few_instructions b l grain in
      let body = body_most o.diverse b.body in
      let most : cost_of o.diverse * body_length b.body ≤ cost_of o.diverse * o.inst_max = mul-le-mul_left (cost_of o.diverse) (omega (arith, n, few)) in
      let ends = end_most b.end leader b.start (b.start + 4 * body_length b.body) (ends_in b.end l.stops) in
      omega (arith, body, most, ends) where
        ends_in : (e : End) → StopsAt f o e (length l.body) (b.start + 4 * length l.body) → IsEnd e
        ends_in Falls s = tt
        ends_in (Stops i) s = s.1

  -- ---- all blocks
  pub short : (blocks : List Block) → AreBlocks f o blocks → ((a : ℕ) → begins_at blocks a ≡ true → a % 4 ≡ 0) → (b : Block) → Among b blocks → block_steps o.diverse o.land (begins_at blocks) b ≤ own_most
  short blocks are grain b m = few_of (begins_at blocks) b (leading f o (sound_most o sound) blocks are only_reached grain b m) (grain b.start (begins blocks b m))
