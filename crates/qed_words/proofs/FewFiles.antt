-- No more files are given than a command takes.
use Rattle.std.proofs.Common.{◌≡◌, ℕ, ◌+◌, ◌≤◌, nat_le, Bool, true, false, List, [], ◌∷◌, ◌++◌, length, refl, sym, ap, ◌∙◌, subst, arith, append_assoc}
use Rattle.std.proofs.lemmas.Bool.Decides.{nat_tests}
use Rattle.std.proofs.lemmas.List.{append-nil, length-append}
use Rattle.std.proofs.lemmas.List.Elements.{filter_map-append}
use Rattle.std.specs.Prelude.{Option, Some, None, filter_map, if◌then◌else◌}
use Rattle.std.specs.Option.{option_or}
use Rattle.qed_words.specs.declared.orders.Command.{Command}
use Rattle.qed_words.specs.declared.orders.Reason.{Reason}
use Rattle.qed_words.specs.declared.orders.Reason.TheVariants.{ExtraWord}
use Rattle.qed_words.specs.Tables.{command_row_of}
use Rattle.qed_words.specs.Words.{Argument, Empty, Unknown, Given, File, files, first_wrong, name_in, wrong}

-- how many files there are with one more argument
more_files : (before : List Argument) (a : Argument) → length (files (before ++ a ∷ [])) ≡ length (files before) + length (filter_map name_in (a ∷ []))
unfolding files
more_files before a = ap length (filter_map-append name_in before (a ∷ [])) ∙ length-append (filter_map name_in before) (filter_map name_in (a ∷ []))

-- without any reason, neither this one nor another applies
pub said_first : (test : Bool) (reason : Reason) (other : Option Reason) → (if test then Some reason else other) ≡ None → (test ≡ false) × (other ≡ None)
said_first true reason other e = cc
said_first false reason other e = (refl, e)

no_extra : (most count i : ℕ) → (if nat_le most count then Some (ExtraWord i) else None) ≡ None → count + 1 ≤ most
no_extra most count i e = let h = (said_first (nat_le most count) (ExtraWord i) None e).0 in grind (arith, nat_tests, h)

one_fits : (command : Command) (before : List Argument) (a : Argument) → wrong command before a ≡ None → length (files before) ≤ (command_row_of command).most_files → length (files before) + length (filter_map name_in (a ∷ [])) ≤ (command_row_of command).most_files
unfolding wrong
one_fits command before (Empty i) e fits = cc
one_fits command before (Unknown i) e fits = cc
one_fits command before (Given i key value) e fits = omega (arith, fits)
one_fits command before (File i name) e fits = no_extra (command_row_of command).most_files (length (files before)) i e

pub neither : (a b : Option Reason) → option_or a b ≡ None → (a ≡ None) × (b ≡ None)
neither None b e = (refl, e)
neither (Some reason) b e = cc

all_fit : (command : Command) (before given : List Argument) → first_wrong command before given ≡ None → length (files before) ≤ (command_row_of command).most_files → length (files (before ++ given)) ≤ (command_row_of command).most_files
all_fit command before [] e fits = subst (λ (g : List Argument). length (files g) ≤ (command_row_of command).most_files) (sym (append-nil before)) fits
all_fit command before (a ∷ given) e fits =
    let both : (wrong command before a ≡ None) × (first_wrong command (before ++ a ∷ []) given ≡ None) = neither (wrong command before a) (first_wrong command (before ++ a ∷ []) given) e in
    let one : length (files (before ++ a ∷ [])) ≤ (command_row_of command).most_files = subst (λ n. n ≤ (command_row_of command).most_files) (sym (more_files before a)) (one_fits command before a both.0 fits) in
    subst (λ (g : List Argument). length (files g) ≤ (command_row_of command).most_files) (append_assoc before (a ∷ []) given) (all_fit command (before ++ a ∷ []) given both.1 one)

none_yet : (command : Command) → length (files []) ≤ (command_row_of command).most_files
unfolding files
none_yet command = omega arith

-- if no argument is wrong, the files are no more than the command takes
pub few_files : (command : Command) (given : List Argument) → first_wrong command [] given ≡ None → length (files given) ≤ (command_row_of command).most_files
few_files command given e = all_fit command [] given e (none_yet command)
