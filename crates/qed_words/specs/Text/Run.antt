-- What is printed about a run. Each line ends with a newline.
use Rattle.std.specs.Prelude.{ℕ, zero, suc, ◌+◌, ◌-◌, ◌*◌, ◌/◌, min, List, [], ◌++◌, codes, Option, Some, None, option_map}
use Rattle.std.specs.Fmt.{decimal}
use Rattle.machine.specs.declared.outcome.Cause.{Cause}
use Rattle.machine.specs.declared.outcome.Cause.TheVariants.{Fetch, Word, Load, Store, Target}
use Rattle.machine.specs.declared.outcome.Outcome.{Outcome}
use Rattle.machine.specs.declared.outcome.Outcome.TheVariants.{Going, Ended, Fired, Trapped}
use Rattle.machine.specs.Memory.{Memory, get}
use Rattle.machine.specs.Step.{State, reg}
use Rattle.machine.specs.Progress.{Progress}
use Rattle.fault_inject.specs.declared.slips.Slipped.{Slipped}
use Rattle.fault_inject.specs.declared.slips.Slipped.TheVariants.{At, NoSlip, NotReached}
use Rattle.texts.specs.Printed.{hex_digits, hex_text, word_text}

abbrev pub cause_text : Cause → List ℕ
cause_text Fetch = codes "fetch"
cause_text (Word w) = codes "word " ++ word_text w
cause_text (Load a) = codes "load " ++ hex_text a
cause_text (Store a) = codes "store " ++ hex_text a
cause_text (Target a) = codes "target " ++ hex_text a

abbrev pub outcome_text : Outcome → List ℕ
outcome_text Going = codes "going"
outcome_text Ended = codes "ended"
outcome_text Fired = codes "fired"
outcome_text (Trapped c pc) = codes "trapped " ++ cause_text c

-- how the run ended, after how many steps, at which pc
abbrev pub outcome_line : Progress → List ℕ
outcome_line p = outcome_text p.state.outcome ++ (codes " after " ++ (decimal p.steps ++ (codes " steps at " ++ (hex_text p.state.pc ++ codes "\n"))))

-- a register and its number
abbrev pub register_line : State → ℕ → List ℕ
register_line s r = codes "x" ++ (decimal r ++ (codes " " ++ (hex_text (reg s r) ++ codes "\n")))

-- the registers x1 to xn
unfoldable pub register_lines : State → ℕ → List ℕ
register_lines s zero = []
register_lines s (suc n) = register_lines s n ++ register_line s (suc n)

-- a byte in two digits; `--` if it is not mapped
abbrev pub byte_text : Option ℕ → List ℕ
byte_text None = codes " --"
byte_text (Some b) = codes " " ++ hex_digits 2 b

-- the bytes from an address on
unfoldable pub byte_texts : Memory → ℕ → ℕ → List ℕ
byte_texts m a zero = []
byte_texts m a (suc n) = byte_texts m a n ++ byte_text (option_map (λ c. c.byte) (get m (a + n)))

-- the first address, and the bytes
abbrev pub dump_line : Memory → ℕ → ℕ → List ℕ
dump_line m a n = hex_text a ++ (byte_texts m a n ++ codes "\n")

-- the first k lines about n bytes, 16 to a line
unfoldable pub dump_lines : Memory → ℕ → ℕ → ℕ → List ℕ
dump_lines m a n zero = []
dump_lines m a n (suc k) = dump_lines m a n k ++ dump_line m (a + 16 * k) (min 16 (n - 16 * k))

-- what a dump shows, by its address and its length in bytes
abbrev pub dump_text : Memory → Option (ℕ × ℕ) → List ℕ
dump_text m None = []
dump_text m (Some d) = dump_lines m d.0 d.1 ((d.1 + 15) / 16)

-- a run: its outcome, and the registers x1 to x31
abbrev pub run_lines : Progress → List ℕ
run_lines p = outcome_line p ++ register_lines p.state 31

-- the first indirect jump to an address that is not reached: where it stands and its target; or that there was none
abbrev pub jumps_line : Option (ℕ × ℕ) → List ℕ
jumps_line None = codes "jumps reached\n"
jumps_line (Some j) = codes "jump at " ++ (hex_text j.0 ++ (codes " to " ++ (hex_text j.1 ++ codes " not reached\n")))

-- what became of a slip
abbrev pub slipped_line : Slipped → List ℕ
slipped_line (At pc) = codes "slipped at " ++ (hex_text pc ++ codes "\n")
slipped_line (NoSlip pc) = codes "no such slip at " ++ (hex_text pc ++ codes "\n")
slipped_line NotReached = codes "slip not reached\n"

-- a run with a second line behind the outcome, which may be empty, and a dump
abbrev pub run_text : Progress → List ℕ → Option (ℕ × ℕ) → List ℕ
run_text p second dump = outcome_line p ++ second ++ register_lines p.state 31 ++ dump_text p.state.memory dump
