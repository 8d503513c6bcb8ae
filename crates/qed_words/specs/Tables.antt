-- The commands and their options, as tables. A name is its bytes.
use Rattle.std.specs.Prelude.{ℕ, ◌-◌, ◌^◌, is_some, Option, List, [], ◌∷◌, find, codes}
use Rattle.std.specs.List.{position_from}
use Rattle.std.specs.Str.{bytes_eq}
use Rattle.machine.specs.declared.limits.TheConstants.{MAX_HALF}
use Rattle.qed_words.specs.declared.orders.Command.{Command}
use Rattle.qed_words.specs.declared.orders.Command.TheVariants.{Transform, Plan, Explain, Run, Campaign, Gen, Asm, Harts, Help, Version}
use Rattle.qed_words.specs.declared.orders.Command.TheVariants as command
use Rattle.qed_words.specs.declared.orders.Key.{Key}
use Rattle.qed_words.specs.declared.orders.Key.TheVariants.{InstMin, InstMax, Round, Half, Entries, Steps, Fault, Slip, Dump, Seed, Count, Size, Changes, Only}
use Rattle.qed_words.specs.declared.orders.Key.TheVariants.{From, To, Turns, At, Sweep, Diverse, Results, Reached, Lean, Every, Land}
use Rattle.qed_words.specs.declared.keys.Value.{Value}
use Rattle.qed_words.specs.declared.keys.Value.TheVariants.{Flag, Number, Pages, Word}
use Rattle.qed_words.specs.declared.keys.Value.TheVariants as value

-- the place of a text among some words, from 0
unfoldable pub place_among : List (List ℕ) → List ℕ → Option ℕ
place_among words text = position_from (λ word. bytes_eq word text) 0 words

-- ---- options

-- what an option takes: its name without dashes, its kind of value, the words that it may be, and how often it may come
pub record KeyRow : Type 0 where
  pub name : List ℕ
  pub value : Value
  pub words : List (List ℕ)
  pub most : ℕ

abbrev pub once : List ℕ → Value → KeyRow
once name value = record { name = name; value = value; words = []; most = 1 }

abbrev pub option_of : Key → KeyRow
option_of InstMin = once (codes "inst-min") (Number 1 1024)
option_of InstMax = once (codes "inst-max") (Number 1 1024)
option_of Round = once (codes "round") (Number 1 1024)
option_of Half = once (codes "half") (Pages MAX_HALF)
option_of Entries = record { name = codes "entries"; value = Word; words = codes "all" ∷ codes "reached" ∷ []; most = 1 }
option_of Steps = once (codes "steps") (Number 0 1000000000000)
option_of Fault = record { name = codes "fault"; value = value.Fault; words = []; most = 64 }
option_of Slip = once (codes "slip") value.Slip
option_of Dump = once (codes "dump") value.Dump
option_of Seed = once (codes "seed") (Number 0 (2 ^ 64 - 1))
option_of Count = once (codes "count") (Number 1 10000)
option_of Size = once (codes "size") (Number 1 60000)
option_of Changes = once (codes "changes") (Number 1 16)
option_of Only = record { name = codes "only"; value = Word; words = codes "registers" ∷ codes "words" ∷ codes "slips" ∷ []; most = 1 }
option_of From = once (codes "from") (Number 0 1000000)
option_of To = once (codes "to") (Number 1 1000000)
option_of Turns = once (codes "turns") value.Turns
option_of At = once (codes "at") (Number 0 (2 ^ 64 - 1))
option_of Sweep = once (codes "sweep") Flag
option_of Diverse = once (codes "diverse") Flag
option_of Results = once (codes "results") Flag
option_of Reached = once (codes "reached") Flag
option_of Lean = once (codes "lean") Flag
option_of Every = once (codes "every") (Number 1 2047)
option_of Land = once (codes "land") Flag

-- ---- commands

-- what a command takes: names, least and most files, options in the order of their checks, and required ones
pub record CommandRow : Type 0 where
  pub names : List (List ℕ)
  pub least_files : ℕ
  pub most_files : ℕ
  pub keys : List Key
  pub required : List Key

abbrev pub command_row : List (List ℕ) → ℕ → ℕ → List Key → List Key → CommandRow
command_row names least most keys required = record { names = names; least_files = least; most_files = most; keys = keys; required = required }

-- the options of a transformation, then others
abbrev pub weave : List Key → List Key
weave own = InstMin ∷ InstMax ∷ Round ∷ Half ∷ Entries ∷ Sweep ∷ Diverse ∷ Lean ∷ Every ∷ Land ∷ own

abbrev pub command_row_of : Command → CommandRow
command_row_of Transform = command_row (codes "transform" ∷ []) 2 2 (weave []) []
command_row_of Plan = command_row (codes "plan" ∷ []) 1 1 (weave []) []
command_row_of Explain = command_row (codes "explain" ∷ []) 1 1 (weave (At ∷ [])) []
command_row_of Run = command_row (codes "run" ∷ []) 1 1 (Steps ∷ Fault ∷ Slip ∷ Dump ∷ Reached ∷ []) []
command_row_of Campaign = command_row (codes "campaign" ∷ []) 1 1 (weave (Seed ∷ Count ∷ Changes ∷ Only ∷ From ∷ To ∷ Results ∷ [])) (Seed ∷ Count ∷ [])
command_row_of Gen = command_row (codes "gen" ∷ []) 1 1 (Seed ∷ Size ∷ []) (Seed ∷ Size ∷ [])
command_row_of command.List = command_row (codes "list" ∷ []) 1 1 [] []
command_row_of Asm = command_row (codes "asm" ∷ []) 2 2 [] []
command_row_of Harts = command_row (codes "harts" ∷ []) 1 8 (Turns ∷ Steps ∷ []) []
command_row_of Help = command_row (codes "help" ∷ codes "--help" ∷ codes "-h" ∷ []) 0 1 [] []
command_row_of Version = command_row (codes "version" ∷ codes "--version" ∷ []) 0 0 [] []

-- all commands, in the order of the texts
abbrev pub commands : List Command
commands = Transform ∷ Plan ∷ Explain ∷ Run ∷ Campaign ∷ Gen ∷ command.List ∷ Asm ∷ Harts ∷ Help ∷ Version ∷ []

-- ---- names

-- the command with a name
unfoldable pub command_of : List ℕ → Option Command
command_of word = find (λ command. is_some (place_among (command_row_of command).names word)) commands

-- the option of a command with a name
unfoldable pub key_named : Command → List ℕ → Option Key
key_named command name = find (λ key. bytes_eq (option_of key).name name) (command_row_of command).keys
