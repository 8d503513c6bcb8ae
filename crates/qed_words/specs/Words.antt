-- What the words of the command line ask for: an order, or the first reason why they ask for none. A text is its bytes.
use Rattle.std.specs.Prelude.{ℕ, ◌+◌, ◌*◌, ◌/◌, ◌%◌, ◌^◌, ◌==◌, nat_lt, nat_le, min, Bool, true, false, not, ◌&&◌, ◌||◌, if◌then◌else◌, Option, Some, None}
use Rattle.std.specs.Prelude.{is_some, unwrap_or, option_map, option_and_then, Result, Ok, Err, List, [], ◌∷◌, ◌++◌, map, length, filter_map, find, slice_get}
use Rattle.std.specs.Prelude.{slice_index_or, String, string_bytes, codes}
use Rattle.std.specs.Option.{option_or}
use Rattle.std.specs.Str.{bytes_eq}
use Rattle.std.specs.List.{list_all}
use Rattle.std.specs.Char.{digit_value}
use Rattle.tests.specs.declared.options.TheConstants.{LEAN_INST_MAX, LEAN_ROUND, LEAN_EVERY}
use Rattle.qed_model.specs.declared.steps.TheConstants.{LEAN_LEAVE_STEPS}
use Rattle.rv_isa.specs.declared.profile.TheConstants.{PAGE}
use Rattle.qed_model.specs.declared.aim.Draws.{Draws}
use Rattle.qed_model.specs.declared.aim.Places.{Places}
use Rattle.qed_model.specs.declared.aim.Places.TheVariants as aim
use Rattle.machine.specs.declared.place.Place.{Place}
use Rattle.machine.specs.declared.place.Place.TheVariants as change
use Rattle.qed_model.specs.declared.change.Change.{Change}
use Rattle.rv_step.specs.declared.slip.Slip as slips
use Rattle.rv_step.specs.declared.slip.Slip.TheVariants as slipped
use Rattle.rv_step.specs.declared.slip.SlipAt.{SlipAt}
use Rattle.tests.specs.declared.options.Options.{Options}
use Rattle.tests.specs.declared.options.Entries as weave
use Rattle.tests.specs.declared.options.Entries.TheVariants as entry
use Rattle.qed_words.specs.declared.orders.Command.{Command}
use Rattle.qed_words.specs.declared.orders.Command.TheVariants.{Transform, Plan, Explain, Run, Campaign, Gen, Asm, Harts, Help, Version}
use Rattle.qed_words.specs.declared.orders.Command.TheVariants as command
use Rattle.qed_words.specs.declared.orders.Order.{Order}
use Rattle.qed_words.specs.declared.orders.Order.TheVariants as order
use Rattle.qed_words.specs.declared.orders.Watch.{Watch}
use Rattle.qed_words.specs.declared.orders.Watch.TheVariants as watch
use Rattle.qed_words.specs.declared.orders.Topic.{Topic}
use Rattle.qed_words.specs.declared.orders.Topic.TheVariants as topic
use Rattle.qed_words.specs.declared.orders.Key.{Key}
use Rattle.qed_words.specs.declared.orders.Key.TheVariants.{InstMin, InstMax, Round, Half, Entries, Steps, Fault, Slip, Dump, Seed, Count, Size, Changes, Only}
use Rattle.qed_words.specs.declared.orders.Key.TheVariants.{From, To, Turns, At, Sweep, Diverse, Results, Reached, Lean, Every, Land}
use Rattle.qed_words.specs.declared.keys.Value.{Value}
use Rattle.qed_words.specs.declared.keys.Value.TheVariants.{Flag, Number, Pages, Word}
use Rattle.qed_words.specs.declared.keys.Value.TheVariants as value
use Rattle.qed_words.specs.declared.orders.Reason.{Reason}
use Rattle.qed_words.specs.declared.orders.Reason.TheVariants.{NoCommand, UnknownCommand, EmptyWord, UnknownOption, Repeated, MissingValue, ExtraWord}
use Rattle.qed_words.specs.declared.orders.Reason.TheVariants.{MissingFile, MissingOption, BadNumber, BadShape, OutOfRange, Split, AllEntries}
use Rattle.qed_words.specs.declared.orders.Reason.TheVariants.{FewSteps, SlipAndReached}
use Rattle.tests.specs.Options.{default_options}
use Rattle.qed_model.specs.Weave.LeanBounds.{cost_of, entry_steps}
use Rattle.qed_words.specs.Tables.{place_among, option_of, command_row_of, command_of, key_named}
use Rattle.texts.specs.Read.{dash, colon, equals, letter_x, parsed_number, parted, register}
use Rattle.qed_model.specs.Promise.Changed.{in_order}

-- ---- words and bytes

-- the bytes of each word
abbrev pub texts : {A : Type 0} → List (String A) → List (List ℕ)
texts words = map string_bytes words

-- ---- faults, slips and dumps

abbrev pub word_place : ℕ → Option Place
word_place address = if address % 8 == 0 then Some (change.Word address) else None

-- a place: `x` and a register, or the address of an aligned word
unfoldable pub parsed_place : List ℕ → Option Place
parsed_place [] = None
parsed_place (c ∷ cs) = if c == letter_x then option_map change.Reg (register cs) else option_and_then word_place (parsed_number (c ∷ cs))

abbrev pub struck_change : Option ℕ → Option Place → Option ℕ → Option Change
struck_change (Some step) (Some parsed_place) (Some value) = Some (record { step = step; place = parsed_place; value = value })
struck_change _ _ _ = None

-- `PLACE=V` behind a step
abbrev pub change_from : Option ℕ → Option (List ℕ × List ℕ) → Option Change
change_from step None = None
change_from step (Some parts) = struck_change step (parsed_place parts.0) (parsed_number parts.1)

abbrev pub change_in : Option (List ℕ × List ℕ) → Option Change
change_in None = None
change_in (Some parts) = change_from (parsed_number parts.0) (parted equals parts.1)

-- a fault: `STEP:PLACE=V`
unfoldable pub fault : List ℕ → Option Change
fault text = change_in (parted colon text)

-- the ways that need no number
abbrev pub plain_slip : List ℕ → Option slips.Slip
plain_slip text =
    if bytes_eq text (codes "skip") then Some slipped.Skip
    else if bytes_eq text (codes "branch") then Some slipped.Branch
    else None

-- those with a number
abbrev pub valued_slip : List ℕ → ℕ → Option slips.Slip
valued_slip name x =
    if bytes_eq name (codes "result") then Some (slipped.Result x)
    else if bytes_eq name (codes "store") then Some (slipped.Store x)
    else if bytes_eq name (codes "place") then Some (slipped.Place x)
    else None

abbrev pub way_in : List ℕ → Option (List ℕ × List ℕ) → Option slips.Slip
way_in text None = plain_slip text
way_in text (Some parts) = option_and_then (valued_slip parts.0) (parsed_number parts.1)

-- how an instruction goes wrong: `skip`, `branch`, `result=V`, `store=V` or `place=A`
unfoldable pub way : List ℕ → Option slips.Slip
way text = way_in text (parted equals text)

abbrev pub slip_at : Option ℕ → Option slips.Slip → Option SlipAt
slip_at (Some step) (Some slip) = Some (record { step = step; slip = slip })
slip_at _ _ = None

abbrev pub slip_in : Option (List ℕ × List ℕ) → Option SlipAt
slip_in None = None
slip_in (Some parts) = slip_at (parsed_number parts.0) (way parts.1)

-- a slip: `STEP:WAY`
unfoldable pub slip : List ℕ → Option SlipAt
slip text = slip_in (parted colon text)

-- an address and a length from 1 to 65,536, with their end at 2^64 or below
abbrev pub span_of : Option ℕ → Option ℕ → Option (ℕ × ℕ)
span_of (Some address) (Some size) =
    if (nat_le 1 size && nat_le size 65536) && nat_le (address + size) (2 ^ 64) then Some (address, size) else None
span_of _ _ = None

abbrev pub span_in : Option (List ℕ × List ℕ) → Option (ℕ × ℕ)
span_in None = None
span_in (Some parts) = span_of (parsed_number parts.0) (parsed_number parts.1)

-- a dump: `ADDR:LEN`
unfoldable pub dump : List ℕ → Option (ℕ × ℕ)
dump text = span_in (parted colon text)

-- ---- turns

abbrev pub is_digit : ℕ → Bool
is_digit c = nat_lt (digit_value c) 10

-- the harts that make the turns, by their numbers: 1 to 64 decimal digits
unfoldable pub turns : List ℕ → Option (List ℕ)
turns text = if (nat_le 1 (length text) && nat_le (length text) 64) && list_all is_digit text then Some (map digit_value text) else None

-- ---- what the words are

-- an argument, with the number of its word
pub data Argument : Type 0 where
  Empty : ℕ → Argument
  -- it begins with `-` and is not an option of the command
  Unknown : ℕ → Argument
  -- an option and its value: empty if there is none, ignored for a flag
  Given : ℕ → Key → List ℕ → Argument
  File : ℕ → List ℕ → Argument

-- the text behind `--`
unfoldable pub behind_dashes : List ℕ → Option (List ℕ)
behind_dashes (a ∷ b ∷ rest) = if a == dash && b == dash then Some rest else None
behind_dashes _ = None

abbrev pub is_flag : Value → Bool
is_flag Flag = true
is_flag _ = false

-- an option, unless it is a flag
abbrev pub takes_value : Option Key → Option Key
takes_value None = None
takes_value (Some key) = if is_flag (option_of key).value then None else Some key

-- whether the next word is this word's value: this word is `--name`, and the option takes a value
unfoldable pub takes_next : Command → List ℕ → Bool
takes_next command word = is_some (takes_value (option_and_then (key_named command) (behind_dashes word)))

-- the argument for an option, if the command has it
abbrev pub key_argument : ℕ → Option Key → List ℕ → Argument
key_argument i None value = Unknown i
key_argument i (Some key) value = Given i key value

-- `name` with the next word, or `name=value`
abbrev pub named_argument : Command → ℕ → List ℕ → List ℕ → Option (List ℕ × List ℕ) → Argument
named_argument command i text next None = key_argument i (key_named command text) next
named_argument command i text next (Some parts) = key_argument i (takes_value (key_named command parts.0)) parts.1

abbrev pub option_argument : Command → ℕ → List ℕ → Option (List ℕ) → Argument
option_argument command i next None = Unknown i
option_argument command i next (Some text) = named_argument command i text next (parted equals text)

-- the argument that word i is, given the word behind it
unfoldable pub argument : Command → ℕ → List ℕ → List ℕ → Argument
argument command i [] next = Empty i
argument command i (c ∷ cs) next = if c == dash then option_argument command i next (behind_dashes (c ∷ cs)) else File i (c ∷ cs)

-- the first of some words; empty if there is none
abbrev pub first_text : List (List ℕ) → List ℕ
first_text [] = []
first_text (word ∷ words) = word

-- the arguments that the words from number i on are; the first is skipped if it is the value of the word before it
abbrev pub arguments : Command → Bool → ℕ → List (List ℕ) → List Argument
arguments command follows i [] = []
arguments command true i (word ∷ words) = arguments command false (i + 1) words
arguments command false i (word ∷ words) = argument command i word (first_text words) ∷ arguments command (takes_next command word) (i + 1) words

-- ---- what was given

abbrev pub name_in : Argument → Option (List ℕ)
name_in (File i name) = Some name
name_in _ = None

-- the files, in the order of the words
unfoldable pub files : List Argument → List (List ℕ)
files given = filter_map name_in given

abbrev pub value_in : Key → Argument → Option (List ℕ)
value_in key (Given i other value) = if bytes_eq (option_of other).name (option_of key).name then Some value else None
value_in key _ = None

-- the values that an option was given, in the order of the words
unfoldable pub values : Key → List Argument → List (List ℕ)
values key given = filter_map (value_in key) given

-- whether an option was not given
unfoldable pub lacks : List Argument → Key → Bool
lacks given key = length (values key given) == 0

-- ---- what is wrong with a word

-- a value is not empty, and does not begin with `-`
abbrev pub is_value : List ℕ → Bool
is_value [] = false
is_value (c ∷ cs) = not (c == dash)

-- what is wrong with an argument, given those before it
unfoldable pub wrong : Command → List Argument → Argument → Option Reason
wrong command before (Empty i) = Some (EmptyWord i)
wrong command before (Unknown i) = Some (UnknownOption i)
wrong command before (Given i key value) =
    if nat_le (option_of key).most (length (values key before)) then Some (Repeated i)
    else if is_flag (option_of key).value || is_value value then None
    else Some (MissingValue i)
wrong command before (File i name) = if nat_le (command_row_of command).most_files (length (files before)) then Some (ExtraWord i) else None

-- the first of some reasons
abbrev pub first_reason : List (Option Reason) → Option Reason
first_reason [] = None
first_reason (reason ∷ reasons) = option_or reason (first_reason reasons)

-- what is wrong with the first wrong argument
abbrev pub first_wrong : Command → List Argument → List Argument → Option Reason
first_wrong command before [] = None
first_wrong command before (a ∷ rest) = option_or (wrong command before a) (first_wrong command (before ++ a ∷ []) rest)

-- ---- what is missing

unfoldable pub missing : Command → List Argument → Option Reason
missing command given =
    if nat_lt (length (files given)) (command_row_of command).least_files then Some MissingFile
    else option_map MissingOption (find (lacks given) (command_row_of command).required)

-- ---- what is wrong with a value

abbrev pub is_in_range : Value → ℕ → Bool
is_in_range (Number least most) n = nat_le least n && nat_le n most
is_in_range (Pages most) n = n % PAGE == 0 && (nat_le PAGE n && nat_le n most)
is_in_range _ n = true

abbrev pub wrong_number : Key → Option ℕ → Option Reason
wrong_number key None = Some (BadNumber key)
wrong_number key (Some n) = if is_in_range (option_of key).value n then None else Some (OutOfRange key)

-- what is wrong with turns: each hart must have a file
abbrev pub wrong_turns : ℕ → Option (List ℕ) → Option Reason
wrong_turns count None = Some (BadShape Turns)
wrong_turns count (Some harts) = if list_all (λ hart. nat_lt hart count) harts then None else Some (OutOfRange Turns)

abbrev pub wrong_shape : Key → Bool → Option Reason
wrong_shape key is_shaped = if is_shaped then None else Some (BadShape key)

abbrev pub wrong_text : ℕ → Key → Value → List ℕ → Option Reason
wrong_text count key Flag text = None
wrong_text count key value.Fault text = wrong_shape key (is_some (fault text))
wrong_text count key value.Slip text = wrong_shape key (is_some (slip text))
wrong_text count key value.Dump text = wrong_shape key (is_some (dump text))
wrong_text count key value.Turns text = wrong_turns count (turns text)
wrong_text count key Word text = wrong_shape key (is_some (place_among (option_of key).words text))
wrong_text count key _ text = wrong_number key (parsed_number text)

-- what is wrong with a value, for `count` files
unfoldable pub wrong_value : ℕ → Key → List ℕ → Option Reason
wrong_value count key text = wrong_text count key (option_of key).value text

-- what is wrong with the first wrong value of an option
unfoldable pub wrong_values : List Argument → Key → Option Reason
wrong_values given key = first_reason (map (wrong_value (length (files given)) key) (values key given))

-- what is wrong with the first wrong value, option by option
unfoldable pub first_wrong_value : Command → List Argument → Option Reason
first_wrong_value command given = first_reason (map (wrong_values given) (command_row_of command).keys)

-- ---- the options of a transformation

-- the first value given to an option
unfoldable pub value_of : Key → List Argument → Option (List ℕ)
value_of key given = slice_get (values key given) 0

unfoldable pub number_given : Key → List Argument → Option ℕ
number_given key given = option_and_then parsed_number (value_of key given)

-- which of an option's words was given, by its place
unfoldable pub word_given : Key → List Argument → Option ℕ
word_given key given = option_and_then (place_among (option_of key).words) (value_of key given)

-- the entries that the words of `--entries` name, by their place
abbrev pub entries : ℕ → weave.Entries
entries n = if n == 0 then entry.All else entry.Reached

-- the default options of the lean form: longer pieces and more visits, since one check serves many blocks
abbrev pub lean_options : Options
lean_options = record {
  inst_min = 4;
  inst_max = LEAN_INST_MAX;
  round = LEAN_ROUND;
  half = None;
  sweep = false;
  diverse = false;
  entries = entry.Reached;
  lean = Some LEAN_EVERY;
  land = false;
}

unfoldable pub usual_options : List Argument → Options
usual_options given = if lacks given Lean then default_options else lean_options

abbrev pub greatest_piece : List Argument → ℕ
greatest_piece given = unwrap_or (number_given InstMax given) (usual_options given).inst_max

-- a floor that is not given is at most what the greatest piece leaves room for
unfoldable pub options : List Argument → Options
options given = record {
  inst_min = unwrap_or (number_given InstMin given) (min (usual_options given).inst_min ((greatest_piece given + 1) / 2));
  inst_max = greatest_piece given;
  round = unwrap_or (number_given Round given) (usual_options given).round;
  half = number_given Half given;
  sweep = not (lacks given Sweep);
  diverse = not (lacks given Diverse);
  entries = unwrap_or (option_map entries (word_given Entries given)) (usual_options given).entries;
  lean = option_map (unwrap_or (number_given Every given)) (usual_options given).lean;
  land = not (lacks given Land);
}

-- the floor leaves no room
abbrev pub is_split : Options → Bool
is_split o = nat_lt (o.inst_max + 1) (2 * o.inst_min)

-- ---- the order

-- the changes that faults ask for
unfoldable pub changes_given : List Argument → List Change
changes_given given = in_order (filter_map fault (values Fault given))

-- file number i
unfoldable pub file : List Argument → ℕ → List ℕ
file given i = slice_index_or (files given) i []

-- the topic of `help`: a command, or all
abbrev pub topic_of : Option Command → Topic
topic_of None = topic.All
topic_of (Some command) = topic.One command

-- the places that the words of `--only` name, by their place; `slips` names none
abbrev pub places : ℕ → Option Places
places n = if n == 0 then Some aim.Registers else if n == 1 then Some aim.Words else None

abbrev pub is_third : Option ℕ → Bool
is_third None = false
is_third (Some n) = n == 2

-- whether strikes are slips, the third of these words
unfoldable pub is_slips : List Argument → Bool
is_slips given = is_third (word_given Only given)

-- what a run looks for
abbrev pub watch_of : Bool → Option SlipAt → Watch
watch_of true slip = watch.Jumps
watch_of false None = watch.Nothing
watch_of false (Some at) = watch.Slip at

unfoldable pub watch_given : List Argument → Watch
watch_given given = watch_of (not (lacks given Reached)) (option_and_then slip (value_of Slip given))

-- without `--steps` a run has 1,000,000 steps
unfoldable pub steps_given : List Argument → ℕ
steps_given given = unwrap_or (number_given Steps given) 1000000

-- without `--changes` a strike is one change; without the options after it the output is struck at all places and steps
unfoldable pub draws : List Argument → Draws
draws given = record {
  seed = unwrap_or (number_given Seed given) 0;
  count = unwrap_or (number_given Count given) 0;
  changes = unwrap_or (number_given Changes given) 1;
  aim = record { only = option_and_then places (word_given Only given); from = unwrap_or (number_given From given) 0; to = number_given To given };
}

abbrev pub campaign_of : Bool → List ℕ → Options → Draws → Bool → Order
campaign_of true input options draws results = order.Slips input options draws results
campaign_of false input options draws results = order.Campaign input options draws results

unfoldable pub order_of : Command → List Argument → Order
order_of Transform given = order.Transform (file given 0) (file given 1) (options given)
order_of Plan given = order.Plan (file given 0) (options given)
order_of Explain given = order.Explain (file given 0) (options given) (number_given At given)
order_of Run given =
    order.Run (file given 0) (steps_given given) (changes_given given) (option_and_then dump (value_of Dump given)) (watch_given given)
order_of Campaign given = campaign_of (is_slips given) (file given 0) (options given) (draws given) (not (lacks given Results))
order_of Gen given = order.Gen (file given 0) (unwrap_or (number_given Seed given) 0) (unwrap_or (number_given Size given) 0)
order_of command.List given = order.List (file given 0)
order_of Asm given = order.Asm (file given 0) (file given 1)
order_of Harts given = order.Harts (files given) (option_and_then turns (value_of Turns given)) (steps_given given)
order_of Help given = order.Tell (topic_of (command_of (file given 0)))
order_of Version given = order.Tell topic.Version

-- ---- what is asked

-- a floor that is not given leaves room, so only commands with the option have this reason
unfoldable pub split_reason : List Argument → Option Reason
split_reason given = if is_split (options given) then Some Split else None

-- only the lean form counts steps from check to check, and has a choice whether entries test the signature
unfoldable pub missing_lean : List Argument → Option Reason
missing_lean given = if lacks given Lean && not (lacks given Every && lacks given Land) then Some (MissingOption Lean) else None

-- the most steps of a block of the lean form: of its entry, of one piece of at most 1024 instructions, and of its leave
abbrev pub most_block_steps : Options → ℕ
most_block_steps o = entry_steps o.land + LEAN_LEAVE_STEPS + cost_of o.diverse * min o.inst_max 1024

-- the lean form has entries only for reached addresses, and more steps from check to check than a block has
abbrev pub misfit : weave.Entries → ℕ → ℕ → Option Reason
misfit entry.All most every = Some AllEntries
misfit entry.Reached most every = if nat_le every most then Some (FewSteps most) else None

unfoldable pub lean_reason : List Argument → Option Reason
lean_reason given = option_and_then (misfit (options given).entries (most_block_steps (options given))) (options given).lean

-- whether the least step is not below the end of the steps, if both are given
abbrev pub is_empty_range : Option ℕ → Option ℕ → Bool
is_empty_range (Some from) (Some to) = nat_le to from
is_empty_range _ _ = false

unfoldable pub window_reason : List Argument → Option Reason
window_reason given = if is_empty_range (number_given From given) (number_given To given) then Some (OutOfRange To) else None

-- a run looks for one thing
unfoldable pub watch_reason : List Argument → Option Reason
watch_reason given = if lacks given Slip || lacks given Reached then None else Some SlipAndReached

-- a strike of slips is one instruction
unfoldable pub slips_reason : List Argument → Option Reason
slips_reason given = if is_slips given && not (unwrap_or (number_given Changes given) 1 == 1) then Some (OutOfRange Changes) else None

-- why the word behind `help` is wrong: it must name a command, if it is there
unfoldable pub topic_reason : Command → List Argument → Option Reason
topic_reason Help given = if length (files given) == 0 || is_some (command_of (file given 0)) then None else Some UnknownCommand
topic_reason _ given = None

-- the first reason why arguments do not make an order
unfoldable pub reason_of : Command → List Argument → Option Reason
reason_of command given =
    first_reason
    (first_wrong command [] given ∷ missing command given ∷ first_wrong_value command given ∷ split_reason given
    ∷ missing_lean given ∷ lean_reason given ∷ window_reason given ∷ watch_reason given ∷ slips_reason given ∷ topic_reason command given ∷ [])

abbrev pub answer : Order → Option Reason → Result Order Reason
answer o None = Ok o
answer o (Some reason) = Err reason

-- what the words behind a command ask for
abbrev pub asked_of : Option Command → List (List ℕ) → Result Order Reason
asked_of None words = Err UnknownCommand
asked_of (Some command) words =
    let given = arguments command false 1 words in
    answer (order_of command given) (reason_of command given)

-- the order that words ask for, or the first reason why they ask for none
unfoldable pub asked : List (List ℕ) → Result Order Reason
asked [] = Err NoCommand
asked (word ∷ words) = asked_of (command_of word) words
