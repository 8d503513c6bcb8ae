-- How the strikes of a campaign are drawn: each change takes three random words, for its step, its place and its value.
use Rattle.std.specs.Prelude.{◌≡◌, ◌≤◌, ℕ, ◌+◌, ◌-◌, ◌*◌, ◌%◌, nat_lt, max, Bool, true, if◌then◌else◌, List, map, Option, None, Some, IsSome, unwrap_or}
use Rattle.rv_isa.specs.declared.profile.TheConstants.{ORIGINALS}
use Rattle.rand_pcg.specs.Lcg.{Lcg}
use Rattle.qed_model.specs.declared.aim.Aim.{Aim}
use Rattle.qed_model.specs.declared.aim.Draws.{Draws}
use Rattle.qed_model.specs.declared.aim.Places.{Places}
use Rattle.qed_model.specs.declared.aim.Places.TheVariants.{Registers, Words}
use Rattle.machine.specs.declared.place.Place.{Place}
use Rattle.machine.specs.declared.place.Place.TheVariants.{Reg, Word}
use Rattle.qed_model.specs.declared.change.Change.{Change}
pub use Rattle.qed_model.specs.declared.plan.Plan.{Plan}
pub use Rattle.tests.specs.Admission.DataRanges.{range_of, word_count, word_address, ElfFile, data_ranges}
pub use Rattle.machine.specs.Below.{each}
pub use Rattle.qed_model.specs.Promise.Changed.{in_order, has_word, is_word, with_change}
pub use Rattle.test_gen.specs.Random.{seeded, drawn, next_state, after}

-- ---- places
-- place q of 13 and the data words: x1 to x13, then the words
unfoldable pub numbered_place : List (ℕ × ℕ) → ℕ → Place
numbered_place spans q = if nat_lt q ORIGINALS then Reg (q + 1) else Word (word_address spans (q - ORIGINALS))

-- the plan counts the data words of its ranges, and has a bound for words if there are some
pub record HasWords (plan : Plan) : Type 0 where
  pub count : plan.words ≡ word_count (map range_of plan.span)
  pub bound : 1 ≤ plan.words → IsSome plan.bounds.word

-- ---- what is drawn from
-- whether there is a place to strike
abbrev pub has_place : Option Places → ℕ → Bool
has_place (Some Words) words = nat_lt 0 words
has_place _ words = true

-- the place that a word gives: of 13 and the data words, of x1 to x13, or of the data words
unfoldable pub drawn_place : Option Places → List (ℕ × ℕ) → ℕ → Place
drawn_place None spans word = numbered_place spans (word % (ORIGINALS + word_count spans))
drawn_place (Some Registers) spans word = Reg (word % ORIGINALS + 1)
drawn_place (Some Words) spans word = Word (word_address spans (word % word_count spans))

-- from how many steps one is drawn, for an output that goes on before `reach`; at least one
abbrev pub window : Aim → ℕ → ℕ
window aim reach = max 1 (unwrap_or aim.to reach - aim.from)

-- ---- changes
-- the change that three words give
abbrev pub change_of : List (ℕ × ℕ) → ℕ → Aim → ℕ → ℕ → ℕ → Change
change_of spans reach aim first second third = record { step = aim.from + first % window aim reach; place = drawn_place aim.only spans second; value = third }

-- the change that the next three words give
unfoldable pub drawn_change : List (ℕ × ℕ) → ℕ → Aim → Lcg → Change
drawn_change spans reach aim g = change_of spans reach aim (drawn g) (drawn (next_state g)) (drawn (next_state (next_state g)))

-- ---- strikes
-- n changes, in the order of their steps; those of equal steps as they were drawn
unfoldable pub drawn_strike : List (ℕ × ℕ) → ℕ → Aim → ℕ → Lcg → List Change
drawn_strike spans reach aim changes g = in_order (each changes (λ k. drawn_change spans reach aim (after (3 * k) g)))

-- how many strikes there are: none without a place
abbrev pub strike_count : Draws → ℕ → ℕ
strike_count d words = if has_place d.aim.only words then d.count else 0

-- n strikes of a seed, one after another
unfoldable pub drawn_strikes : List (ℕ × ℕ) → ℕ → Draws → List (List Change)
drawn_strikes spans reach d =
    each (strike_count d (word_count spans)) (λ i. drawn_strike spans reach d.aim d.changes (after (3 * d.changes * i) (seeded d.seed)))
