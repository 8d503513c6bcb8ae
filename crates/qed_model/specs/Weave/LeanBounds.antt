-- The bounds of the lean form, in steps (this project's profile).
use Rattle.std.specs.Prelude.{ℕ, zero, suc, ◌+◌, ◌*◌, Bool, cond, Option, Some, None, false}
use Rattle.elf_types.specs.declared.file.ElfFile.{ElfFile}
use Rattle.qed_model.specs.declared.bounds.Bounds.{Bounds}
use Rattle.qed_model.specs.declared.bounds.Shape.{Shape}
use Rattle.tests.specs.declared.options.Options.{Options}
use Rattle.qed_model.specs.declared.steps.TheConstants.{DIVERSE_STEPS, STORE_STEPS, TICK_STEPS, LANDING_STEPS, CALL_STEPS, LEAN_LEAVE_STEPS}
use Rattle.qed_model.specs.Weave.Bounds.{visit_bound, end_bound}
use Rattle.qed_model.specs.Weave.Forms.{shape_of}
use Rattle.qed_model.specs.Weave.Pieces.{piece_count}

-- the most steps of an instruction in both its parts: of a store, or with mirror parts of other kinds
abbrev pub cost_of : Bool → ℕ
cost_of diverse = cond diverse DIVERSE_STEPS STORE_STEPS

-- the steps of an entry whose tick passes: those of the tick, and with `land` those of the test of the signature
abbrev pub entry_steps : Bool → ℕ
entry_steps land = cond land LANDING_STEPS TICK_STEPS

-- what it takes besides to go to the check: the address, which with `land` x30 has already, and the jump
abbrev pub call_steps : Bool → ℕ
call_steps land = cond land 1 CALL_STEPS

-- the most steps of the check with its look-ups, by the numbers of data words and ranges, and the words of a round
abbrev pub check_bound : ℕ → ℕ → ℕ → ℕ
check_bound words ranges round = 36 + visit_bound words ranges * round

-- the most steps from check to check: those of the check, of the blocks between, and of the entry that goes to it again
abbrev pub period : Bool → ℕ → ℕ → ℕ
period land check every = check + (every + entry_steps land + call_steps land)

-- a changed register: what runs before the first check, the end with its sweep, a period, the check to its comparison
abbrev pub register_bound : Bool → ℕ → ℕ → ℕ
register_bound land ends period = 53 + entry_steps land + call_steps land + ends + period

-- a changed data word, of `words` of them: as many periods more as there are rounds; None without data words
abbrev pub word_bound : Bool → ℕ → ℕ → ℕ → ℕ → Option ℕ
word_bound land zero round ends period = None
word_bound land (suc n) round ends period = Some (53 + entry_steps land + call_steps land + ends + (piece_count round (suc n) + 1) * period)

-- ---- over a shape, and of a file
-- changes are early if the output still goes on for the steps of the other bounds behind them: no sweep is in their way
abbrev pub lean_bounds_of : Shape → ℕ → Bounds
lean_bounds_of s every =
    let ends = end_bound s.sweep s.ranges s.words in
    let check = check_bound s.words s.ranges s.round in
    record {
      start = 31 + ends;
      piece = LEAN_LEAVE_STEPS + call_steps s.land + 2 * entry_steps s.land + check + cost_of s.diverse * s.inst_max;
      register = register_bound s.land ends (period s.land check every);
      word = word_bound s.land s.words s.round ends (period s.land check every);
      early_register = Some (register_bound s.land 0 (period s.land check every));
      early_word = word_bound s.land s.words s.round 0 (period s.land check every);
    }

abbrev pub lean_bounds : ElfFile → Options → ℕ → Bounds
lean_bounds f o every = lean_bounds_of (shape_of f o false) every
