-- The order that words ask for is sound.
use Rattle.std.proofs.Common.{◌≡◌, ℕ, ◌+◌, ◌*◌, ◌/◌, ◌%◌, ◌^◌, ◌≤◌, ◌<◌, nat_lt, nat_le, min, Bool, true, false, cond, List, [], ◌∷◌, map, length, refl, sym, subst, arith, ◌&&◌, ◌==◌, ◌∙◌, not}
use Rattle.std.proofs.lemmas.Bool.Decides.{nat_tests}
use Rattle.std.proofs.lemmas.List.{length-map}
use Rattle.std.specs.Prelude.{Option, Some, None, IfSome, IsSomeAnd, unwrap_or, option_and_then, slice_get, find, filter_map, option_map, if◌then◌else◌, Ok, All}
use Rattle.std.specs.Char.{digit_value}
use Rattle.std.specs.List.{list_all, AllByRecursion}
use Rattle.std.proofs.lemmas.Bool.{and_parts}
use Rattle.std.proofs.lemmas.List.Elements.{All-from_recursion}
use Rattle.machine.specs.declared.limits.TheConstants.{MAX_HALF}
use Rattle.qed_words.specs.declared.orders.Command.{Command}
use Rattle.qed_words.specs.declared.orders.Command.TheVariants.{Transform, Plan, Explain, Run, Campaign, Gen, Asm, Harts, Help, Version}
use Rattle.qed_words.specs.declared.orders.Command.TheVariants as command
use Rattle.qed_words.specs.declared.orders.Order.{Order}
use Rattle.qed_words.specs.declared.orders.Key.{Key}
use Rattle.qed_words.specs.declared.orders.Key.TheVariants.{InstMin, InstMax, Round, Half, Every, Lean, Steps, Fault, Dump, Seed, Count, Size, Changes, Only, From, To, Turns, At, Results}
use Rattle.qed_words.specs.declared.orders.Reason.{Reason}
use Rattle.qed_words.specs.declared.orders.Reason.TheVariants.{MissingFile, MissingOption, OutOfRange, Split, FewSteps}
use Rattle.qed_model.specs.Promise.Changed.{Ordered}
use Rattle.qed_model.specs.Weave.SoundOptions.{AreSoundOptions}
use Rattle.qed_model.specs.Weave.LeanBounds.{cost_of, entry_steps}
use Rattle.tests.specs.Options.{default_options}
use Rattle.tests.specs.declared.options.Options.{Options}
use Rattle.tests.specs.declared.options.Entries.{Entries}
use Rattle.tests.specs.declared.options.Entries.TheVariants as entry
use Rattle.qed_words.specs.Tables.{option_of, weave, command_row_of, command_of}
use Rattle.qed_words.specs.Words.{Argument, asked, asked_of, answer, fault, first_wrong, span_in, arguments, dump, files, first_reason, first_wrong_value, is_in_range, lacks, missing, number_given, lean_options, usual_options, options, order_of, reason_of, span_of, split_reason, missing_lean, most_block_steps, misfit, lean_reason, window_reason, topic_reason, watch_reason, slips_reason, is_slips, campaign_of, file, value_of, values, wrong_number, wrong_value, wrong_values, changes_given, draws, is_digit, steps_given, turns, wrong_turns}
use Rattle.texts.specs.Read.{colon, parted, parsed_number}
use Rattle.qed_model.proofs.Lemmas.{in_order_ordered}
use Rattle.qed_words.specs.Sound.{IsSoundOrder}
use Rattle.qed_words.proofs.FewFiles.{few_files, neither, said_first}

-- ---- without a reason

abbrev AllNone : List (Option Reason) → Type 0
AllNone [] = Unit {0}
AllNone (reason ∷ reasons) = (reason ≡ None) × AllNone reasons

no_reason : (reasons : List (Option Reason)) → first_reason reasons ≡ None → AllNone reasons
no_reason [] e = tt
no_reason (reason ∷ reasons) e =
    let both : (reason ≡ None) × (first_reason reasons ≡ None) = neither reason (first_reason reasons) e in (both.0, no_reason reasons both.1)

-- ---- numbers

-- an option whose value is a number
abbrev IsNumbered : Key → Type 0
IsNumbered key = (count : ℕ) (value : List ℕ) → wrong_value count key value ≡ wrong_number key (parsed_number value)

abbrev IsInRange : Key → ℕ → Type 0
IsInRange key n = is_in_range (option_of key).value n ≡ true

-- without the reason the test holds
said_else : (test : Bool) (reason : Reason) → (if test then None else Some reason) ≡ None → test ≡ true
said_else true reason e = refl
said_else false reason e = cc

number_fits : (key : Key) (n : Option ℕ) → wrong_number key n ≡ None → IsSomeAnd n (IsInRange key)
number_fits key None e = cc
number_fits key (Some m) e = said_else (is_in_range (option_of key).value m) (OutOfRange key) e

if_there : (key : Key) (n : Option ℕ) → IsSomeAnd n (IsInRange key) → IfSome n (IsInRange key)
if_there key None fits = tt
if_there key (Some m) fits = fits

-- the number given to an option, if any, is in its range
given_fits : (count : ℕ) (key : Key) (texts : List (List ℕ)) → IsNumbered key → first_reason (map (wrong_value count key) texts) ≡ None → IfSome (option_and_then parsed_number (slice_get texts 0)) (IsInRange key)
given_fits count key [] is e = tt
given_fits count key (text ∷ texts) is e =
    if_there key (parsed_number text) (number_fits key (parsed_number text) (sym (is count text) ∙ (neither (wrong_value count key text) (first_reason (map (wrong_value count key) texts)) e).0))

number_given_fits : (key : Key) (given : List Argument) → IsNumbered key → wrong_values given key ≡ None → IfSome (number_given key given) (IsInRange key)
unfolding wrong_values number_given value_of
number_given_fits key given is e = given_fits (length (files given)) key (values key given) is e

-- the number given to an option that must be given is in its range
asked_fits : (count : ℕ) (key : Key) (texts : List (List ℕ)) → IsNumbered key → (length texts == 0) ≡ false → first_reason (map (wrong_value count key) texts) ≡ None → IsSomeAnd (option_and_then parsed_number (slice_get texts 0)) (IsInRange key)
asked_fits count key [] is some e = cc
asked_fits count key (text ∷ texts) is some e =
    number_fits key (parsed_number text) (sym (is count text) ∙ (neither (wrong_value count key text) (first_reason (map (wrong_value count key) texts)) e).0)

number_there_fits : (key : Key) (given : List Argument) → IsNumbered key → lacks given key ≡ false → wrong_values given key ≡ None → IsSomeAnd (number_given key given) (IsInRange key)
unfolding wrong_values number_given value_of lacks
number_there_fits key given is some e = asked_fits (length (files given)) key (values key given) is some e

-- ---- options

-- a number is in a range if it was given in the range, or its default is
in_range : (least most d : ℕ) (n : Option ℕ) → IfSome n (λ m. (nat_le least m && nat_le m most) ≡ true) → (least ≤ d) × (d ≤ most) → (least ≤ unwrap_or n d) × (unwrap_or n d ≤ most)
in_range least most d None fits default = default
in_range least most d (Some m) fits default = (grind (arith, nat_tests), grind (arith, nat_tests))

-- a number that must be given is in a range
there_in_range : (least most d : ℕ) (n : Option ℕ) → IsSomeAnd n (λ m. (nat_le least m && nat_le m most) ≡ true) → (least ≤ unwrap_or n d) × (unwrap_or n d ≤ most)
there_in_range least most d None fits = absurd fits
there_in_range least most d (Some m) fits = (grind (arith, nat_tests), grind (arith, nat_tests))

least_fits : (least : Option ℕ) (floor greatest : ℕ) → IfSome least (IsInRange InstMin) → 1 ≤ floor → 1 ≤ greatest → 1 ≤ unwrap_or least (min floor ((greatest + 1) / 2))
least_fits None floor greatest fits low some = omega arith
least_fits (Some n) floor greatest fits low some = grind (arith, nat_tests)

half_fits : (half : Option ℕ) → IfSome half (IsInRange Half) → IfSome half (λ h. (h % 4096 ≡ 0) × (4096 ≤ h) × (h ≤ MAX_HALF))
half_fits None fits = tt
half_fits (Some h) fits = (grind (arith, nat_tests), grind (arith, nat_tests), grind (arith, nat_tests))

leaves_room : (m n : ℕ) → (if nat_lt (n + 1) (2 * m) then Some Split else None) ≡ None → 2 * m ≤ n + 1
leaves_room m n e = let h = (said_first (nat_lt (n + 1) (2 * m)) Split None e).0 in grind (arith, nat_tests, h)

-- facts on the default options
record AreUsual (o : Options) : Type 0 where
  floor : 1 ≤ o.inst_min
  some : 1 ≤ o.inst_max
  most : o.inst_max ≤ 1024
  visits : 1 ≤ o.round
  few_visits : o.round ≤ 1024
  lean : IfSome o.lean (λ every. every ≤ 2047)

usual_fit : (given : List Argument) → AreUsual (usual_options given)
unfolding usual_options
usual_fit given =
    elim (lacks given Lean)
    as (λ t. AreUsual (if t then default_options else lean_options)) [
      | true ↦ record { floor = omega arith; some = omega arith; most = omega arith; visits = omega arith; few_visits = omega arith; lean = tt }
      | false ↦ record { floor = omega arith; some = omega arith; most = omega arith; visits = omega arith; few_visits = omega arith; lean = omega arith }
    ]

-- only reached addresses have entries, and a check comes after more steps than a block has
entries_fit : (entries : Entries) (most every : ℕ) → misfit entries most every ≡ None → (entries ≡ entry.Reached) × (most < every)
entries_fit entry.All most every e = cc
entries_fit entry.Reached most every e = (refl, let h = (said_first (nat_le every most) (FewSteps most) None e).0 in grind (arith, nat_tests, h))

-- the number of steps that was given, or the default
every_fits : (every : Option ℕ) (usual : ℕ) → IfSome every (IsInRange Every) → usual ≤ 2047 → unwrap_or every usual ≤ 2047
every_fits None usual fits most = most
every_fits (Some n) usual fits most = grind (arith, nat_tests)

least_is : (a b : ℕ) → a ≤ b → min a b ≡ a
least_is a b low = omega arith

lean_fits :
    (o : Options) (every usual : Option ℕ)
    → IfSome every (IsInRange Every)
    → IfSome usual (λ n. n ≤ 2047)
    → o.inst_max ≤ 1024
    → option_and_then (misfit o.entries (most_block_steps o)) (option_map (unwrap_or every) usual) ≡ None
    → IfSome (option_map (unwrap_or every) usual) (λ n. (o.entries ≡ entry.Reached) × (n ≤ 2047) × (entry_steps o.land + 27 + cost_of o.diverse * o.inst_max < n))
lean_fits o every None fits few most e = tt
lean_fits o every (Some usual) fits few most e =
    let fit : (o.entries ≡ entry.Reached) × (most_block_steps o < unwrap_or every usual) = entries_fit o.entries (most_block_steps o) (unwrap_or every usual) e in
    (fit.0, every_fits every usual fits few, subst (λ m. entry_steps o.land + 27 + cost_of o.diverse * m < unwrap_or every usual) (least_is o.inst_max 1024 most) fit.1)

-- the given options are sound if each value fits, and the floor and the steps from check to check leave room
options_fit :
    (own : List Key) (given : List Argument)
    → AllNone (map (wrong_values given) (weave own))
    → split_reason given ≡ None
    → lean_reason given ≡ None
    → AreSoundOptions (options given)
unfolding options split_reason lean_reason wrong_value
options_fit own given values room lean =
    let usual : AreUsual (usual_options given) = usual_fit given in
    let great : (1 ≤ (options given).inst_max) × ((options given).inst_max ≤ 1024)
    = in_range 1 1024 (usual_options given).inst_max (number_given InstMax given) (number_given_fits InstMax given (λ _ _. refl) values.1.0) (usual.some, usual.most) in
    let visits : (1 ≤ (options given).round) × ((options given).round ≤ 1024)
    = in_range 1 1024 (usual_options given).round (number_given Round given) (number_given_fits Round given (λ _ _. refl) values.1.1.0) (usual.visits, usual.few_visits) in
    record {
      some = least_fits (number_given InstMin given) (usual_options given).inst_min (options given).inst_max (number_given_fits InstMin given (λ _ _. refl) values.0) usual.floor great.0;
      room = leaves_room (options given).inst_min (options given).inst_max room;
      most = great.1;
      visits = visits.0;
      few_visits = visits.1;
      half = half_fits (number_given Half given) (number_given_fits Half given (λ _ _. refl) values.1.1.1.0);
      lean = lean_fits (options given) (number_given Every given) (usual_options given).lean (number_given_fits Every given (λ _ _. refl) values.1.1.1.1.1.1.1.1.0) usual.lean great.1 lean;
    }

-- ---- runs

steps_fit : (given : List Argument) → wrong_values given Steps ≡ None → steps_given given ≤ 1000000000000
unfolding steps_given wrong_value
steps_fit given e = (in_range 0 1000000000000 1000000 (number_given Steps given) (number_given_fits Steps given (λ _ _. refl) e) (omega arith, omega arith)).1

changes_ordered : (given : List Argument) → Ordered (changes_given given)
unfolding changes_given
changes_ordered given = in_order_ordered (filter_map fault (values Fault given))

abbrev IsShown : ℕ × ℕ → Type 0
IsShown d = (1 ≤ d.1) × (d.1 ≤ 65536) × (d.0 + d.1 ≤ 2 ^ 64)

span_fits : (address size : Option ℕ) → IfSome (span_of address size) IsShown
span_fits None size = tt
span_fits (Some address) None = tt
span_fits (Some address) (Some size) =
    elim ((nat_le 1 size && nat_le size 65536) && nat_le (address + size) (2 ^ 64))
    as (λ t. ((nat_le 1 size && nat_le size 65536) && nat_le (address + size) (2 ^ 64)) ≡ t → IfSome (if t then Some (address, size) else None) IsShown)
    [ true ↦ λ h. (grind (arith, nat_tests), grind (arith, nat_tests), grind (arith, nat_tests)) | false ↦ λ _. tt ]
    refl

parts_fit : (parts : Option (List ℕ × List ℕ)) → IfSome (span_in parts) IsShown
parts_fit None = tt
parts_fit (Some parts) = span_fits (parsed_number parts.0) (parsed_number parts.1)

dump_fits : (value : Option (List ℕ)) → IfSome (option_and_then dump value) IsShown
unfolding dump
dump_fits None = tt
dump_fits (Some text) = parts_fit (parted colon text)

-- ---- what must be given

no_second : (a b : Bool) (x y : Key) → option_map MissingOption (cond a (Some x) (cond b (Some y) None)) ≡ None → (a ≡ false) × (b ≡ false)
no_second true b x y e = cc
no_second false true x y e = cc
no_second false false x y e = (refl, refl)

both_there : (given : List Argument) (x y : Key) (test : Bool) → (if test then Some MissingFile else option_map MissingOption (find (lacks given) (x ∷ y ∷ []))) ≡ None → (lacks given x ≡ false) × (lacks given y ≡ false)
both_there given x y test e =
    no_second (lacks given x) (lacks given y) x y (said_first test MissingFile (option_map MissingOption (find (lacks given) (x ∷ y ∷ []))) e).1

-- ---- orders

-- nothing is wrong with the values, and the floor and the steps from check to check leave room
record IsFaultless (command : Command) (given : List Argument) : Type 0 where
  words : first_wrong command [] given ≡ None
  there : missing command given ≡ None
  values : AllNone (map (wrong_values given) (command_row_of command).keys)
  room : split_reason given ≡ None
  lean : lean_reason given ≡ None

faultless : (command : Command) (given : List Argument) → reason_of command given ≡ None → IsFaultless command given
unfolding reason_of first_wrong_value
faultless command given e =
    let all : AllNone (first_wrong command [] given ∷ missing command given ∷ first_wrong_value command given ∷ split_reason given ∷ missing_lean given ∷ lean_reason given ∷ window_reason given ∷ watch_reason given ∷ slips_reason given ∷ topic_reason command given ∷ [])
    = no_reason (first_wrong command [] given ∷ missing command given ∷ first_wrong_value command given ∷ split_reason given ∷ missing_lean given ∷ lean_reason given ∷ window_reason given ∷ watch_reason given ∷ slips_reason given ∷ topic_reason command given ∷ []) e in
    record { words = all.0; there = all.1.0; values = no_reason (map (wrong_values given) (command_row_of command).keys) all.1.1.0; room = all.1.1.1.0; lean = all.1.1.1.1.1.0 }

files_there : (count : ℕ) (other : Option Reason) → (if nat_lt count 1 then Some MissingFile else other) ≡ None → 1 ≤ count
files_there count other e = let h = (said_first (nat_lt count 1) MissingFile other e).0 in grind (arith, nat_tests, h)

-- ---- turns

-- there is a turn, and each hart has one of `count` files
record IsSchedule (count : ℕ) (harts : List ℕ) : Type 0 where
  some : 1 ≤ length harts
  below : All (λ hart. hart < count) harts

below_each : (count : ℕ) (harts : List ℕ) → list_all (λ hart. nat_lt hart count) harts ≡ true → AllByRecursion (λ hart. hart < count) harts
below_each count [] e = tt
below_each count (hart ∷ harts) e =
    let both : (nat_lt hart count ≡ true) × (list_all (λ hart. nat_lt hart count) harts ≡ true) = and_parts (nat_lt hart count) (list_all (λ hart. nat_lt hart count) harts) e in
    (grind (arith, nat_tests), below_each count harts both.1)

all_below : (count : ℕ) (harts : List ℕ) → (if list_all (λ hart. nat_lt hart count) harts then None else Some (OutOfRange Turns)) ≡ None → All (λ hart. hart < count) harts
all_below count harts e =
    All-from_recursion (λ hart. hart < count) harts (below_each count harts (said_else (list_all (λ hart. nat_lt hart count) harts) (OutOfRange Turns) e))

turns_in : (count : ℕ) (text : List ℕ) (test : Bool) → ((nat_le 1 (length text) && nat_le (length text) 64) && test) ≡ true → wrong_turns count (Some (map digit_value text)) ≡ None → IsSchedule count (map digit_value text)
turns_in count text test is e = record {
  some = let same = length-map text digit_value in grind (arith, nat_tests, same, is);
  below = all_below count (map digit_value text) e;
}

turns_text : (count : ℕ) (text : List ℕ) → wrong_turns count (turns text) ≡ None → IfSome (turns text) (IsSchedule count)
unfolding turns
turns_text count text e =
    elim ((nat_le 1 (length text) && nat_le (length text) 64) && list_all is_digit text)
    as (λ t. ((nat_le 1 (length text) && nat_le (length text) 64) && list_all is_digit text) ≡ t → wrong_turns count (if t then Some (map digit_value text) else None) ≡ None → IfSome (if t then Some (map digit_value text) else None) (IsSchedule count))
    [ true ↦ λ h w. turns_in count text (list_all is_digit text) h w | false ↦ λ _ _. tt ] refl e

turns_first : (count : ℕ) (texts : List (List ℕ)) → first_reason (map (wrong_value count Turns) texts) ≡ None → IfSome (option_and_then turns (slice_get texts 0)) (IsSchedule count)
unfolding wrong_value
turns_first count [] e = tt
turns_first count (text ∷ texts) e = turns_text count text (neither (wrong_turns count (turns text)) (first_reason (map (wrong_value count Turns) texts)) e).0

turns_given_fit : (given : List Argument) → wrong_values given Turns ≡ None → IfSome (option_and_then turns (value_of Turns given)) (IsSchedule (length (files given)))
unfolding wrong_values value_of
turns_given_fit given e = turns_first (length (files given)) (values Turns given) e

schedule_parts : (count : ℕ) (harts : Option (List ℕ)) → IfSome harts (IsSchedule count) → IfSome harts (λ hs. 1 ≤ length hs) × IfSome harts (All (λ hart. hart < count))
schedule_parts count None fits = (tt, tt)
schedule_parts count (Some harts) fits = (fits.some, fits.below)

campaign_sound : (given : List Argument) → IsFaultless Campaign given → (slips : Bool) → IsSoundOrder (campaign_of slips (file given 0) (options given) (draws given) (not (lacks given Results)))
unfolding missing draws wrong_value
campaign_sound given f slips =
    let there : (lacks given Seed ≡ false) × (lacks given Count ≡ false) = both_there given Seed Count _ f.there in
    let fit : AreSoundOptions (options given) = options_fit (Seed ∷ Count ∷ Changes ∷ Only ∷ From ∷ To ∷ Results ∷ []) given f.values f.room f.lean in
    let count : (1 ≤ (draws given).count) × ((draws given).count ≤ 10000) = there_in_range 1 10000 0 (number_given Count given) (number_there_fits Count given (λ _ _. refl) there.1 f.values.1.1.1.1.1.1.1.1.1.1.1.0) in
    let changes : (1 ≤ (draws given).changes) × ((draws given).changes ≤ 16) = in_range 1 16 1 (number_given Changes given) (number_given_fits Changes given (λ _ _. refl) f.values.1.1.1.1.1.1.1.1.1.1.1.1.0) (omega arith, omega arith) in
    either slips fit count changes where
      either : (slips : Bool) → AreSoundOptions (options given) → (1 ≤ (draws given).count) × ((draws given).count ≤ 10000) → (1 ≤ (draws given).changes) × ((draws given).changes ≤ 16)
          → IsSoundOrder (campaign_of slips (file given 0) (options given) (draws given) (not (lacks given Results)))
      either true fit count changes = (fit, count)
      either false fit count changes = (fit, count, changes)

order_sound : (command : Command) (given : List Argument) → IsFaultless command given → IsSoundOrder (order_of command given)
unfolding order_of wrong_value missing draws
order_sound Transform given f = options_fit [] given f.values f.room f.lean
order_sound Plan given f = options_fit [] given f.values f.room f.lean
order_sound Explain given f = options_fit (At ∷ []) given f.values f.room f.lean
order_sound Run given f = record {
  few = steps_fit given f.values.0;
  ordered = changes_ordered given;
  shown = dump_fits (value_of Dump given);
}
order_sound Campaign given f = campaign_sound given f (is_slips given)
order_sound Gen given f =
    let there : (lacks given Seed ≡ false) × (lacks given Size ≡ false) = both_there given Seed Size _ f.there in
    there_in_range 1 60000 0 (number_given Size given) (number_there_fits Size given (λ _ _. refl) there.1 f.values.1.0)
order_sound command.List given f = tt
order_sound Asm given f = tt
order_sound Harts given f =
    let turning : IfSome (option_and_then turns (value_of Turns given)) (λ hs. 1 ≤ length hs) × IfSome (option_and_then turns (value_of Turns given)) (All (λ hart. hart < length (files given)))
    = schedule_parts (length (files given)) (option_and_then turns (value_of Turns given)) (turns_given_fit given f.values.0) in
    record {
      some = files_there (length (files given)) _ f.there;
      most = few_files Harts given f.words;
      few = steps_fit given f.values.1.0;
      some_turns = turning.0;
      below = turning.1;
    }
order_sound Help given f = tt
order_sound Version given f = tt

answer_sound : (command : Command) (given : List Argument) (reason : Option Reason) → reason_of command given ≡ reason → (o : Order) → answer (order_of command given) reason ≡ Ok o → IsSoundOrder o
answer_sound command given None none o e =
    let same : order_of command given ≡ o = cc in subst IsSoundOrder same (order_sound command given (faultless command given none))
answer_sound command given (Some reason) some o e = cc

command_sound : (command : Option Command) (words : List (List ℕ)) (o : Order) → asked_of command words ≡ Ok o → IsSoundOrder o
command_sound None words o e = cc
command_sound (Some command) words o e =
    answer_sound command (arguments command false 1 words) (reason_of command (arguments command false 1 words)) refl o e

pub asked_sound : (words : List (List ℕ)) (o : Order) → asked words ≡ Ok o → IsSoundOrder o
unfolding asked
asked_sound [] o e = cc
asked_sound (word ∷ words) o e = command_sound (command_of word) words o e
