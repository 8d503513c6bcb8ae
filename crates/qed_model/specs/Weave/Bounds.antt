-- The bounds of the new code, in steps, by what they depend on (this project's profile).
use Rattle.std.specs.Prelude.{ℕ, zero, suc, ◌+◌, ◌-◌, ◌*◌, ◌/◌, Bool, cond, Option, Some, None}
use Rattle.qed_model.specs.declared.steps.TheConstants.{INSTRUCTION_STEPS, DIVERSE_STEPS}
use Rattle.qed_model.specs.declared.bounds.Shape.{Shape}
use Rattle.qed_model.specs.declared.bounds.Bounds.{Bounds}

-- a visited word, by the data words and the ranges: 7 steps, and 3 for each range; without words one range counts
abbrev pub visit_bound : ℕ → ℕ → ℕ
visit_bound zero ranges = 10
visit_bound (suc n) ranges = 7 + 3 * ranges

-- the longest piece: 3 steps of its entry, `cost` for each of at most `most` instructions, 13 comparisons, `round`
-- visited words, and 14 of the longest leave
abbrev pub piece_bound : ℕ → ℕ → ℕ → ℕ → ℕ → ℕ
piece_bound cost most words ranges round = 30 + cost * most + visit_bound words ranges * round

-- what stands before an ECALL: nothing, or with the sweep 2 steps for each data range, 8 for each data word, 13
-- comparisons, and the ECALL once more
abbrev pub end_bound : Bool → ℕ → ℕ → ℕ
end_bound sweep ranges words = cond sweep (2 * ranges + 8 * words + 14) 0

-- what runs first, one step longer in the far form, and what runs before the end
abbrev pub start_bound : Bool → Bool → ℕ → ℕ → ℕ
start_bound far sweep ranges words = cond far 33 32 + end_bound sweep ranges words

-- a changed register: what runs first and two pieces
abbrev pub register_bound : ℕ → ℕ → ℕ
register_bound start piece = start + 2 * piece

-- a changed data word, of `words` of them: a whole round of visits and two pieces more; None without data words
abbrev pub word_bound : ℕ → ℕ → ℕ → ℕ → Option ℕ
word_bound zero round start piece = None
word_bound (suc n) round start piece = Some (start + ((suc n + round - 1) / round + 2) * piece)

-- the most steps of an instruction in both its parts; mirror parts of other kinds have more
abbrev pub cost_of : Bool → ℕ
cost_of diverse = cond diverse DIVERSE_STEPS INSTRUCTION_STEPS

-- ---- over a shape
abbrev pub start_steps : Shape → ℕ
start_steps s = start_bound s.far s.sweep s.ranges s.words

abbrev pub longest_piece : Shape → ℕ
longest_piece s = piece_bound (cost_of s.diverse) s.inst_max s.words s.ranges s.round

-- all bounds; this form has none of its own for early changes
abbrev pub bounds_of : Shape → Bounds
bounds_of s = record {
  piece = longest_piece s;
  register = register_bound (start_steps s) (longest_piece s);
  word = word_bound s.words s.round (start_steps s) (longest_piece s);
  start = start_steps s;
  early_register = None;
  early_word = None;
}
