-- The check, from its first word to the entry that it goes back to, and the look-ups in the table.
use Rattle.std.proofs.Common.{◌≡◌, ℕ, zero, suc, inl, inr, ◌+◌, ◌-◌, ◌*◌, ◌/◌, ◌%◌, ◌^◌, ◌<◌, ◌≤◌, ⊎_elim, Bool, true, List, [], ◌∷◌, ◌++◌, length, refl, sym, ap, ◌∙◌, subst, arith}
use Rattle.std.specs.Prelude.{pos, slice_index}
use Rattle.std.proofs.lemmas.Bool.{cases_eq}
use Rattle.machine.specs.Step.{State, reg, moved, result, run, computed_value, ins, Addi, Slli, Srli, Add, Sub, Lw, Lui, Beq, Jalr}
use Rattle.qed_model.specs.Weave.Sequences.{Reads, fired_check, compare, visit, LAST_ORIGINAL, ORIGINALS, PAIR_DISTANCE, DISTANCE, CURSOR, SIGNATURE, TEMPORARY, SPARE}
use Rattle.qed_model.specs.Weave.Bounds.{visit_bound}
use Rattle.qed_model.specs.Weave.Lean.{look_up, look_again, first_word, called, check_distance, begun, done, check}
use Rattle.tests.specs.Admission.DataRanges.{word_count}
use Rattle.weave_core.specs.World.{World, Quiet, Twice, IsCursor, GoodSpans, AllBelow, words_on, Item, Plain, value}
use Rattle.weave_core.specs.Blocks.{IsEntryOf, TableAt}
use Rattle.weave_core.specs.Kinds.{originals}
use Rattle.weave_core.specs.Lock.{ComparesFrom}
use Rattle.weave_core.specs.Rows.{At}
use Rattle.weave_core.specs.WeaveLaws.{GoesTo, Stands, Visits}
use Rattle.qed_model.specs.Promise.Changed.{IsDataWord}
use Rattle.lean.specs.Ticked.{with_count}
use Rattle.lean.proofs.Weave.Carry.{Over, over_moved, Walk, walk_on, own_pair, guards_pass, visit_more, addi_value, add_result, sub_result, Tabled, tabled, word, table_word, table_load, find, found, entry_leap, halved_regs, halved_moved, Sets, writes, writes_long, writes_out, halved_writes, sets_on, sets_compute, sets_equal, visit_row, visit_later, words_within, word_low, all_small, compare_stands, word_below}
use Rattle.lean.proofs.Weave.Chain.{Op, plain, constant, effects, Gives, read_back, all_temps, chain}
use Rattle.lean.proofs.Weave.Sign.{distance_set}
use Rattle.lean.proofs.Weave.Turn.{lui_value}

-- ---- what the words give
-- what SLLI by 12 gives
pub slli_value : (u : State) (r a x z : ℕ) → reg u a ≡ x → x * 2 ^ 12 % 2 ^ 64 ≡ z → result Slli (ins Slli r a 0 (pos 12)) u ≡ z
unfolding computed_value value
slli_value u r a x z e g = rw e g

-- what SRLI by 12 gives
srli_value : (u : State) (r a x z : ℕ) → reg u a ≡ x → x / 2 ^ 12 ≡ z → result Srli (ins Srli r a 0 (pos 12)) u ≡ z
unfolding computed_value value
srli_value u r a x z e g = rw e g

-- ---- the look-ups
module _ (w : World) (x : State) (a : ℕ) (tb : TableAt w a) (o : Over w.code x) (tab : Tabled w x) where
  abbrev d : ℕ
  d = w.distance

  -- what the second one writes
  abbrev pub again : List (ℕ × ℕ)
  again = (31, 2 * d) ∷ (31, a + 2 * d) ∷ (14, word w x a tb o tab) ∷ (31, w.entry a) ∷ (14, d) ∷ []

  -- the JALR behind it
  abbrev pub leap : List Item
  leap = Plain (ins Jalr 0 TEMPORARY 0 (pos 0)) ∷ []

  -- all but that word
  pub again_set : reg x SIGNATURE ≡ a → reg x TEMPORARY ≡ w.entry a → Reads w.form.far w.code w.entry x.pc (look_again d) → Sets w x 6 leap (writes again x.regs)
  again_set sign at30 r =
      let l = x.regs in
      let long = tab.output.regs in
      let wd = word w x a tb o tab in
      let there = table_word w x a tb o tab in
      let e1 : List (ℕ × ℕ) = (31, 2 * d) ∷ [] in
      let e2 : List (ℕ × ℕ) = (31, 2 * d) ∷ (31, a + 2 * d) ∷ [] in
      let e3 : List (ℕ × ℕ) = (31, 2 * d) ∷ (31, a + 2 * d) ∷ (14, wd) ∷ [] in
      let e4 : List (ℕ × ℕ) = (31, 2 * d) ∷ (31, a + 2 * d) ∷ (14, wd) ∷ (31, w.entry a) ∷ [] in
      let tail5 = Plain (ins Beq 0 TEMPORARY SPARE (pos 8)) ∷ fired_check ∷ leap in
      let tail4 = Plain (ins Lui DISTANCE 0 0 (pos d)) ∷ tail5 in
      let tail3 = Plain (ins Add SPARE SPARE DISTANCE (pos 0)) ∷ tail4 in
      let tail2 = Plain (ins Lw DISTANCE SPARE 0 (pos 0)) ∷ tail3 in
      let tail1 = Plain (ins Add SPARE SPARE SIGNATURE (pos 0)) ∷ tail2 in
      let end = writes again l in
      sets_on w x 1 5 tail1 leap (writes e1 l) end (sets_compute w x (ins Add SPARE DISTANCE DISTANCE (pos 0)) (2 * d) tail1 o r refl (λ e. absurd (cc)) (add_result x 31 14 14 d d (2 * d) tab.distance tab.distance (omega (arith, tb.low)))) (λ p1 k1.
      sets_on w (moved (writes e1 l) p1 x) 1 4 tail2 leap (writes e2 l) end (sets_compute w (moved (writes e1 l) p1 x) (ins Add SPARE SPARE SIGNATURE (pos 0)) (a + 2 * d) tail2 (over_moved w.code x (writes e1 l) p1 o) k1 refl (λ e. absurd (cc)) (add_result (moved (writes e1 l) p1 x) 31 31 16 (2 * d) a (a + 2 * d) (read_back e1 l 31 long refl) (read_back e1 l 16 long refl ∙ sign) (omega (arith, tb.low)))) (λ p2 k2.
      sets_on w (moved (writes e2 l) p2 x) 1 3 tail3 leap (writes e3 l) end (table_load w x a tb o tab 14 31 (writes e2 l) p2 tail3 (read_back e2 l 31 long refl) (λ e. absurd (omega arith)) k2) (λ p3 k3.
      sets_on w (moved (writes e3 l) p3 x) 1 2 tail4 leap (writes e4 l) end (sets_compute w (moved (writes e3 l) p3 x) (ins Add SPARE SPARE DISTANCE (pos 0)) (w.entry a) tail4 (over_moved w.code x (writes e3 l) p3 o) k3 refl (λ e. absurd (cc)) (add_result (moved (writes e3 l) p3 x) 31 31 14 (a + 2 * d) wd (w.entry a) (read_back e3 l 31 long refl) (read_back e3 l 14 long refl) (omega (arith, there)))) (λ p4 k4.
      sets_on w (moved (writes e4 l) p4 x) 1 1 tail5 leap end end (sets_compute w (moved (writes e4 l) p4 x) (ins Lui DISTANCE 0 0 (pos d)) d tail5 (over_moved w.code x (writes e4 l) p4 o) k4 refl (λ e. absurd (cc)) (lui_value (moved (writes e4 l) p4 x) 14 (pos d) ∙ small d (omega (arith, tb.low)))) (λ p5 k5.
      sets_equal w (moved end p5 x) 30 31 leap (over_moved w.code x end p5 o) k5 (read_back again l 30 long refl ∙ at30 ∙ sym (read_back again l 31 long refl)))))))
    where
      small : (n : ℕ) → n < 2 ^ 64 → n % 2 ^ 64 ≡ n
      small n h = omega (arith, h)

module _ (w : World) (x t : State) (a : ℕ) (tb : TableAt w a) (o : Over w.code x) (h : Twice w x t t) where
  abbrev written : List (ℕ × ℕ)
  written = again w x a tb o (tabled w x t t h)

  -- at last x14 is the distance again
  again_halved : (p : ℕ) → Twice w (moved (writes written x.regs) p x) t t
  again_halved p = halved_regs w x t t (writes written x.regs) p (writes_long written x.regs ∙ h.output.regs) low high h where
    low : (q : ℕ) → q ≤ 14 → slice_index (writes written x.regs) q ≡ reg x q
    low q l =
        ⊎_elim
        (λ e. ap (slice_index (writes written x.regs)) e ∙ read_back written x.regs 14 h.output.regs refl ∙ sym h.distance ∙ ap (reg x) (sym e))
        (λ ne. writes_out written x.regs q (λ e. absurd (omega (arith, l, e)), (λ e. absurd (omega (arith, l, e)), (ne, (λ e. absurd (omega (arith, l, e)), (ne, tt))))))
        (cases_eq q 14)

    high : (q : ℕ) → 1 ≤ q → q ≤ LAST_ORIGINAL → slice_index (writes written x.regs) (q + PAIR_DISTANCE) ≡ reg x (q + PAIR_DISTANCE)
    high q one l = writes_out written x.regs (q + PAIR_DISTANCE) (λ e. absurd (omega (arith, l, e)), (λ e. absurd (omega (arith, l, e)), (λ e. absurd (omega (arith, e)), (λ e. absurd (omega (arith, l, e)), (λ e. absurd (omega (arith, e)), tt)))))

  -- where a look-up leads: to the entry, with x15 and x16 as they were
  abbrev Found : (ℕ → Bool) → ℕ → Type 0
  Found leader n = GoesTo w x n n (λ k y. Stands w leader y t × (reg y SIGNATURE ≡ reg x SIGNATURE) × (reg y CURSOR ≡ reg x CURSOR))

  -- the second look-up leads to the entry that the first one found
  pub again_there :
      (leader : ℕ → Bool) → IsEntryOf w a → leader a ≡ true → t.pc ≡ a → reg x SIGNATURE ≡ a → reg x TEMPORARY ≡ w.entry a → Reads w.form.far w.code w.entry x.pc (look_again w.distance) → Found leader 7
  again_there leader b leads here sign at30 r =
      let s = again_set w x a tb o (tabled w x t t h) sign at30 r in
      let l = writes written x.regs in
      let y = moved l s.pc x in
      let last = entry_leap w y a [] b (read_back written x.regs 30 h.output.regs refl ∙ at30) (over_moved w.code x l s.pc o) s.reads in
      record {
        steps = 7;
        to = moved l (w.entry a) x;
        at_least = omega arith;
        within = omega arith;
        walk = walk_on (Quiet w) x y _ 6 1 s.walk last;
        is = (
          record { over = over_moved w.code x l (w.entry a) o; halved = again_halved (w.entry a); pc = ap w.entry (sym here); leads = ap leader here ∙ leads },
          read_back written x.regs 16 h.output.regs refl,
          read_back written x.regs 15 h.output.regs refl,
        );
      }

-- both, of the address in a register
pub look_there :
    (w : World) (x t : State) (a r : ℕ) (tb : TableAt w a) → Over w.code x → Twice w x t t → (leader : ℕ → Bool) → IsEntryOf w a → leader a ≡ true → t.pc ≡ a → reg x r ≡ a → reg x SIGNATURE ≡ a
    → Reads w.form.far w.code w.entry x.pc (look_up r ++ look_again w.distance) → GoesTo w x 11 11 (λ k y. Stands w leader y t × (reg y SIGNATURE ≡ reg x SIGNATURE) × (reg y CURSOR ≡ reg x CURSOR))
look_there w x t a r tb o h leader b leads here at sign k =
    let tab = tabled w x t t h in
    let long = h.output.regs in
    let ws = found w x a tb o tab in
    let s = find w x a tb o tab r (look_again w.distance) at k in
    let y = moved (writes ws x.regs) s.pc x in
    let g = again_there w y t a tb (over_moved w.code x (writes ws x.regs) s.pc o) (halved_writes w x t t ws s.pc (all_temps ws refl) h) leader b leads here (read_back ws x.regs 16 long refl ∙ sign) (read_back ws x.regs 30 long refl) s.reads in
    record {
      steps = 4 + g.steps;
      to = g.to;
      at_least = omega (arith, g.at_least);
      within = omega (arith, g.within);
      walk = walk_on (Quiet w) x y g.to 4 g.steps s.walk g.walk;
      is = (g.is.0, g.is.1 ∙ read_back ws x.regs 16 long refl, g.is.2 ∙ read_back ws x.regs 15 long refl);
    }

-- ---- the offset
-- the words that are visited from a word on stand near the first
offset_near :
    (w : World) (spans : List (ℕ × ℕ)) (n off : ℕ) → GoodSpans w.base spans → AllBelow spans (w.base + w.distance) → w.distance ≤ 2 ^ 32 → off < 2 ^ 32 → IsCursor spans (first_word w.base spans + off)
    → (first_word w.base spans ≤ words_on spans n (first_word w.base spans + off)) × (words_on spans n (first_word w.base spans + off) < first_word w.base spans + 2 ^ 32)
offset_near w [] n off good low small few c = let same : words_on [] n (first_word w.base [] + off) ≡ first_word w.base [] + off = none n (first_word w.base [] + off) in (omega (arith, same), omega (arith, same, few)) where
  none : (n x : ℕ) → words_on [] n x ≡ x
  none zero x = refl
  none (suc n) x = none n x
offset_near w (r ∷ rs) n off good low small few c =
    let x = words_within (r ∷ rs) w.base n (r.0 + off) good c in
    let top = word_below (r ∷ rs) (words_on (r ∷ rs) n (r.0 + off)) (w.base + w.distance) low x in
    let bottom = low_word x in
    (bottom, omega (arith, top, good.0.low, small)) where
      low_word : IsDataWord (r ∷ rs) (words_on (r ∷ rs) n (r.0 + off)) → r.0 ≤ words_on (r ∷ rs) n (r.0 + off)
      low_word (inl h) = h.1
      low_word (inr h) = let k = word_low rs (r.1 + 1) (words_on (r ∷ rs) n (r.0 + off)) good.1 h in omega (arith, k, good.0.some)

-- ---- all of it
-- back at the entry of a, with a new count and the next word's offset; all registers were compared, a round was visited
pub record Back (w : World) (leader : ℕ → Bool) (u t : State) (a off every round : ℕ) : Type 0 where
  pub steps : ℕ
  pub to : State
  pub some : 16 ≤ steps
  pub within : steps ≤ 36 + visit_bound (word_count w.form.spans) (length w.form.spans) * round
  pub walk : Walk (Quiet w) u steps to
  pub stands : Stands w leader to t
  pub next : ℕ
  pub few : next < 2 ^ 32
  pub word : first_word w.base w.form.spans + next ≡ words_on w.form.spans round (first_word w.base w.form.spans + off)
  pub counter : reg to CURSOR ≡ with_count next (2047 - every)
  pub sign : reg to SIGNATURE ≡ a
  pub compares : ComparesFrom w.code (run u 3).pc originals
  pub visits : (j : ℕ) → j < round → 1 ≤ length w.form.spans → Visits w u steps (words_on w.form.spans j (first_word w.base w.form.spans + off))

module _ (w : World) (leader : ℕ → Bool) (small : w.distance ≤ 2 ^ 32) (u t : State) (a off count every round : ℕ) (tb : TableAt w a) (entry : IsEntryOf w a) (leads : leader a ≡ true) (most : every ≤ 2047) where
  abbrev first : ℕ
  first = first_word w.base w.form.spans

  -- ---- the begin of the visits
  abbrev begin_ops : List Op
  begin_ops = plain (ins Srli CURSOR CURSOR 0 (pos 12)) off ∷ constant 30 first ∷ plain (ins Add CURSOR CURSOR TEMPORARY (pos 0)) (first + off) ∷ []

  begin_gives : (x : State) → length x.regs ≡ 32 → reg x CURSOR ≡ with_count off count → count < 4096 → off < 2 ^ 32 → first + 2 ^ 32 ≤ 2 ^ 64 → Gives x x.regs begin_ops
  begin_gives x long at15 below few low =
      let l = x.regs in
      let e2 : List (ℕ × ℕ) = (15, off) ∷ (30, first) ∷ [] in (
        refl,
        λ e. absurd (cc),
        λ p. srli_value (moved l p x) 15 15 (with_count off count) off at15 (omega (arith, below)),
        (
          omega (arith, low),
          omega arith,
          refl,
          (
            refl,
            λ e. absurd (cc),
            λ p. add_result (moved (writes e2 l) p x) 15 15 30 off first (first + off) (read_back e2 l 15 long refl) (read_back e2 l 30 long refl) (omega (arith, few, low)),
            tt,
          ),
        ),
      )

  -- ---- behind the visits
  abbrev done_ops : ℕ → List Op
  done_ops c =
      constant 30 first ∷ plain (ins Sub CURSOR CURSOR TEMPORARY (pos 0)) (c - first) ∷ plain (ins Slli CURSOR CURSOR 0 (pos 12)) ((c - first) * 2 ^ 12) ∷ plain (ins Addi CURSOR CURSOR 0 (pos (2047 - every))) (with_count (c - first) (2047 - every)) ∷ []

  done_gives : (x : State) (c : ℕ) → length x.regs ≡ 32 → reg x CURSOR ≡ c → first ≤ c → c < first + 2 ^ 32 → first + 2 ^ 32 ≤ 2 ^ 64 → Gives x x.regs (done_ops c)
  done_gives x c long at15 above near low =
      let l = x.regs in
      let k = c - first in
      let e1 : List (ℕ × ℕ) = (30, first) ∷ [] in
      let e2 : List (ℕ × ℕ) = (30, first) ∷ (15, k) ∷ [] in
      let e3 : List (ℕ × ℕ) = (30, first) ∷ (15, k) ∷ (15, k * 2 ^ 12) ∷ [] in (
        omega (arith, low),
        omega arith,
        refl,
        (
          refl,
          λ e. absurd (cc),
          λ p. sub_result (moved (writes e1 l) p x) 15 15 30 c first k (read_back e1 l 15 long refl ∙ at15) (read_back e1 l 30 long refl) (omega (arith, above, near, low)),
          (
            refl,
            λ e. absurd (cc),
            λ p. slli_value (moved (writes e2 l) p x) 15 15 k (k * 2 ^ 12) (read_back e2 l 15 long refl) (omega (arith, above, near)),
            (
              refl,
              λ e. absurd (cc),
              λ p. addi_value (moved (writes e3 l) p x) 15 15 (k * 2 ^ 12) (with_count k (2047 - every)) (pos (2047 - every)) (read_back e3 l 15 long refl) (sums k (c - first) refl (omega (arith, above, near))),
              tt,
            ),
          ),
        ),
      ) where
        sums : (k n : ℕ) → k ≡ n → n < 2 ^ 32 → (k * 2 ^ 12 + (2047 - every) % 2 ^ 64) % 2 ^ 64 ≡ with_count k (2047 - every)
        sums k n e h = omega (arith, e, h)

  -- ---- from the first word to behind the comparison
  record Front (rest : List Item) : Type 0 where
    to : State
    walk : Walk (Quiet w) u 16 to
    at : At w to rest t t
    fifteen : reg to CURSOR ≡ reg u CURSOR
    sixteen : reg to SIGNATURE ≡ a
    compares : ComparesFrom w.code (run u 3).pc originals

  front_row :
      (rest : List Item) → Over w.code u → Twice w u t t → Reads w.form.far w.code w.entry u.pc (called ++ (check_distance w.distance ++ (compare ++ rest))) → reg u SIGNATURE ≡ a → reg u TEMPORARY ≡ a → Front rest
  front_row rest o h r sign named =
      let long = h.output.regs in
      let s1 = sets_equal w u 16 30 (check_distance w.distance ++ (compare ++ rest)) o r (sign ∙ sym named) in
      let x1 = moved u.regs s1.pc u in
      let o1 = over_moved w.code u u.regs s1.pc o in
      let ws : List (ℕ × ℕ) = (30, w.distance) ∷ [] in
      let l = writes ws u.regs in
      let s2 = distance_set w x1 w.distance (compare ++ rest) o1 long h.distance (omega (arith, small)) s1.reads in
      let x2 = moved l s2.pc u in
      let h2 = halved_writes w u t t ws s2.pc (all_temps ws refl) h in
      let s3 = guards_pass w originals x2 rest (over_moved w.code u l s2.pc o) (λ q one m. own_pair w x2 t q h2 m one) (all_small w) s2.reads in
      let three : Walk (Quiet w) u 3 x2 = walk_on (Quiet w) u x1 x2 1 2 s1.walk s2.walk in
      record {
        to = moved l s3.pc u;
        walk = walk_on (Quiet w) u x2 (moved l s3.pc u) 3 ORIGINALS three s3.walk;
        at = record { over = over_moved w.code u l s3.pc o; reads = s3.reads; halved = halved_moved w x2 t t s3.pc h2 };
        fifteen = read_back ws u.regs 15 long refl;
        sixteen = read_back ws u.regs 16 long refl ∙ sign;
        compares = subst (λ y. ComparesFrom w.code y.pc originals) (sym three.ends) (compare_stands w s2.pc rest s2.reads);
      }

  -- ---- from there to behind the visits
  record Middle (x : State) (rest : List Item) : Type 0 where
    steps : ℕ
    to : State
    within : steps ≤ 4 + visit_bound (word_count w.form.spans) (length w.form.spans) * round
    walk : Walk (Quiet w) x steps to
    at : At w to rest t t
    fifteen : reg to CURSOR ≡ words_on w.form.spans round (first + off)
    sixteen : reg to SIGNATURE ≡ a
    visits : (j : ℕ) → j < round → 1 ≤ length w.form.spans → Visits w x steps (words_on w.form.spans j (first + off))

  middle_row :
      (x : State) (rest : List Item) → At w x (begun first ++ (visit round w.form.spans ++ rest)) t t → reg x CURSOR ≡ with_count off count → count < 4096 → reg x SIGNATURE ≡ a → off < 2 ^ 32 → IsCursor w.form.spans (first + off)
      → first + 2 ^ 32 ≤ 2 ^ 64 → Middle x rest
  middle_row x rest at at15 below at16 few cur room =
      let long = at.halved.output.regs in
      let w4 = effects begin_ops in
      let l4 = writes w4 x.regs in
      let s4 = chain w x (visit round w.form.spans ++ rest) at.over begin_ops long (begin_gives x long at15 below few room) at.reads in
      let x4 = moved l4 s4.pc x in
      let here15 : reg x4 CURSOR ≡ first + off = read_back w4 x.regs 15 long refl in
      let v = visit_row w round x4 t rest (record { over = over_moved w.code x l4 s4.pc at.over; reads = s4.reads; halved = halved_writes w x t t w4 s4.pc (all_temps w4 refl) at.halved }) (subst (IsCursor w.form.spans) (sym here15) cur) in
      record {
        steps = 4 + v.steps;
        to = v.to;
        within = omega (arith, v.within);
        walk = walk_on (Quiet w) x x4 v.to 4 v.steps s4.walk v.walk;
        at = v.at;
        fifteen = v.cursor ∙ ap (words_on w.form.spans round) here15;
        sixteen = v.sign ∙ read_back w4 x.regs 16 long refl ∙ at16;
        visits = λ j l one.
            subst (λ y. Visits w x (4 + v.steps) (words_on w.form.spans j y)) here15 (visit_later w x 4 x4 v.steps (words_on w.form.spans j (reg x4 CURSOR)) s4.walk.ends (v.visits j l one));
      }

  -- ---- from there to the entry
  record Last (x : State) (c : ℕ) : Type 0 where
    steps : ℕ
    to : State
    within : steps ≤ 16
    walk : Walk (Quiet w) x steps to
    stands : Stands w leader to t
    counter : reg to CURSOR ≡ with_count (c - first) (2047 - every)
    sign : reg to SIGNATURE ≡ a

  last_row :
      (x : State) (c : ℕ) → At w x (done first every ++ (look_up SIGNATURE ++ look_again w.distance)) t t → t.pc ≡ a → reg x CURSOR ≡ c → reg x SIGNATURE ≡ a → first ≤ c → c < first + 2 ^ 32 → first + 2 ^ 32 ≤ 2 ^ 64 → Last x c
  last_row x c at here at15 at16 above near room =
      let long = at.halved.output.regs in
      let ws = effects (done_ops c) in
      let l = writes ws x.regs in
      let s = chain w x (look_up SIGNATURE ++ look_again w.distance) at.over (done_ops c) long (done_gives x c long at15 above near room) at.reads in
      let y = moved l s.pc x in
      let same : reg y SIGNATURE ≡ a = read_back ws x.regs 16 long refl ∙ at16 in
      let g = look_there w y t a 16 tb (over_moved w.code x l s.pc at.over) (halved_writes w x t t ws s.pc (all_temps ws refl) at.halved) leader entry leads here same same s.reads in
      record {
        steps = 5 + g.steps;
        to = g.to;
        within = omega (arith, g.within);
        walk = walk_on (Quiet w) x y g.to 5 g.steps s.walk g.walk;
        stands = g.is.0;
        counter = g.is.2 ∙ read_back ws x.regs 15 long refl;
        sign = g.is.1 ∙ same;
      }

  -- the first word is far below 2^64
  first_low : (spans : List (ℕ × ℕ)) → AllBelow spans (w.base + w.distance) → GoodSpans w.base spans → first_word w.base spans + 2 ^ 32 ≤ 2 ^ 64
  first_low [] low good = omega arith
  first_low (r ∷ rs) low good = omega (arith, low.0, good.0.some, w.layout.top)

  -- ---- all of it
  pub check_row :
      Over w.code u → Twice w u t t → Reads w.form.far w.code w.entry u.pc (check w.base w.distance every round w.form.spans) → t.pc ≡ a → off < 2 ^ 32 → IsCursor w.form.spans (first + off)
      → reg u CURSOR ≡ with_count off count → count < 4096 → reg u SIGNATURE ≡ a → reg u TEMPORARY ≡ a → Back w leader u t a off every round
  check_row o h r here few cur at15 below sign named =
      let room = first_low w.form.spans w.spans_low w.spans_good in
      let last = look_up SIGNATURE ++ look_again w.distance in
      let x = front_row (begun first ++ (visit round w.form.spans ++ (done first every ++ last))) o h r sign named in
      let y = middle_row x.to (done first every ++ last) x.at (x.fifteen ∙ at15) below x.sixteen few cur room in
      let c = words_on w.form.spans round (first + off) in
      let bounds = offset_near w w.form.spans round off w.spans_good w.spans_low small few cur in
      let z = last_row y.to c y.at here y.fifteen y.sixteen bounds.0 bounds.1 room in
      joined x.to y.steps y.to z.steps z.to x.walk y.walk z.walk y.within z.within bounds.0 bounds.1 z.stands z.counter z.sign x.compares y.visits where
        joined :
            (x : State) (m : ℕ) (y : State) (n : ℕ) (z : State) → Walk (Quiet w) u 16 x → Walk (Quiet w) x m y → Walk (Quiet w) y n z
            → m ≤ 4 + visit_bound (word_count w.form.spans) (length w.form.spans) * round → n ≤ 16 → first ≤ words_on w.form.spans round (first + off)
            → words_on w.form.spans round (first + off) < first + 2 ^ 32 → Stands w leader z t → reg z CURSOR ≡ with_count (words_on w.form.spans round (first + off) - first) (2047 - every)
            → reg z SIGNATURE ≡ a → ComparesFrom w.code (run u 3).pc originals
            → ((j : ℕ) → j < round → 1 ≤ length w.form.spans → Visits w x m (words_on w.form.spans j (first + off))) → Back w leader u t a off every round
        joined x m y n z a1 a2 a3 few1 few2 above near st counter sign cmp vs = record {
          steps = 16 + (m + n);
          to = z;
          some = omega arith;
          within = omega (arith, few1, few2);
          walk = walk_on (Quiet w) u x z 16 (m + n) a1 (walk_on (Quiet w) x y z m n a2 a3);
          stands = st;
          next = words_on w.form.spans round (first + off) - first;
          few = omega (arith, above, near);
          word = omega (arith, above);
          counter = counter;
          sign = sign;
          compares = cmp;
          visits = λ j l one. visit_more w u (16 + m) (16 + (m + n)) (words_on w.form.spans j (first + off)) (omega arith) (visit_later w u 16 x m (words_on w.form.spans j (first + off)) a1.ends (vs j l one));
        }
