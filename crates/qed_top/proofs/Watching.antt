-- A run without changes that reports no jump astray and did not trap is steady, over reached addresses.
use Rattle.std.proofs.Common.{◌≡◌, ℕ, Bool, true, false, List, [], ◌∷◌, take, Option, None, Some, ⊎_elim, refl, sym, ap, ◌∙◌, subst}
use Rattle.std.specs.Prelude.{◌==◌, ◌&&◌, ◌||◌, codes}
use Rattle.std.proofs.lemmas.Bool.{false≢true, and_parts, eqb-true, or_cases}
use Rattle.std.specs.List.{list_any}
use Rattle.tests.specs.declared.options.Options.{Options}
use Rattle.tests.specs.declared.test.CodeWord.{CodeWord}
use Rattle.tests.specs.Admission.Reached.{leads, one_pass, twice, made_by, is_made, is_reached, links_to, is_in_data, AreReached}
use Rattle.tests.specs.Admission.Terms.{is_named_in, ElfFile}
use Rattle.machine.specs.Loading.{loaded_file}
use Rattle.machine.specs.Program.{start, zeros}
use Rattle.qed_model.specs.Promise.Kept.{NotTrapped, Steady, after_input}
use Rattle.tests.specs.Admission.Places.{image_of, half_of}
use Rattle.test_admission.specs.Admit.{IsAdmittedAs}
use Rattle.fault_inject.proofs.Steadiness.{steady_of}
use Rattle.qed_top.specs.Run.{is_reached_word, astray_in_run, jumps_line, Test, default_options}

-- ---- the distance between the halves does not matter for reached addresses
abbrev at_distance : Test → ℕ → Test
at_distance t d = record t { distance = d }

made_same : (t : Test) (d : ℕ) (near : List CodeWord) (c : CodeWord) (a : ℕ) → made_by (at_distance t d) near c a ≡ made_by t near c a
unfolding made_by twice one_pass leads
made_same t d near c a = refl

all_made_same : (t : Test) (d a : ℕ) (cs : List CodeWord) → is_made (at_distance t d) a cs ≡ is_made t a cs
all_made_same t d a [] = refl
all_made_same t d a (c ∷ cs) = λ i. made_same t d (take 16 cs) c a i || all_made_same t d a cs i

reached_same : (f : ElfFile) (t : Test) (d a : ℕ) → is_reached f (at_distance t d) a ≡ is_reached f t a
reached_same f t d a =
    ap (λ b. (t.entry == a) || (list_any (λ c. links_to c a) t.code || (is_named_in f a || (list_any (is_in_data t.base a) t.segments || b)))) (all_made_same t d a t.code)

-- ---- the reached words
-- an address at which a reached word stands is reached
one_reached : (f : ElfFile) (t : Test) (a : ℕ) (cs : List CodeWord) → list_any (λ c. (c.at == a) && is_reached f t c.at) cs ≡ true → is_reached f t a ≡ true
one_reached f t a [] h = cc
one_reached f t a (c ∷ cs) h =
    ⊎_elim
    (λ x.
    let both : ((c.at == a) ≡ true) × (is_reached f t c.at ≡ true) = and_parts (c.at == a) (is_reached f t c.at) x in
    subst (λ q. is_reached f t q ≡ true) (eqb-true c.at a both.0) both.1)
    (one_reached f t a cs) (or_cases ((c.at == a) && is_reached f t c.at) (list_any (λ d. (d.at == a) && is_reached f t d.at) cs) h)

-- the promises hold over the reached words, with any options
pub words_reached : (f : ElfFile) (t : Test) (o : Options) → IsAdmittedAs f default_options t → AreReached f o (is_reached_word f t)
words_reached f t o admitted chosen a h =
    let told = admitted.test in
    let d = half_of o.half (image_of f) in
    record {
      test = at_distance t d;
      told = record {
        entry = told.entry;
        ranges = told.ranges;
        code = told.code;
        base = told.base;
        distance = refl;
        low = told.low;
        high = told.high;
        span = told.span;
        segments = told.segments;
      };
      reached = reached_same f t d a ∙ one_reached f t a t.code h;
    }

-- ---- the printed line
-- the fifth byte of a line is a space
abbrev is_two_words : List ℕ → Bool
is_two_words (a ∷ b ∷ c ∷ d ∷ e ∷ rest) = e == 32
is_two_words _ = false

-- the line says whether there was a jump astray
no_jump : (astray : Option (ℕ × ℕ)) → jumps_line astray ≡ codes "jumps reached\n" → astray ≡ None
no_jump None e = refl
no_jump (Some j) e = absurd (false≢true (sym (ap is_two_words e)))

-- if the line is `jumps reached`, there were no changes and the run did not trap, the input is steady for these steps
pub told_steady :
    (f : ElfFile) (t : Test) (steps : ℕ) → jumps_line (astray_in_run f t steps []) ≡ codes "jumps reached\n" → NotTrapped (after_input (loaded_file f) steps)
    → Steady (loaded_file f) (is_reached_word f t) steps
told_steady f t steps line calm = steady_of (is_reached_word f t) (start (loaded_file f) zeros) steps (no_jump (astray_in_run f t steps []) line) calm
