-- The first word of the code of a file that is at fault is the least address at fault.
use Rattle.std.proofs.Common.{◌≡◌, ⊎_elim, ℕ, ◌+◌, ◌-◌, ◌*◌, ◌/◌, ◌%◌, ◌^◌, ◌<◌, ◌≤◌, Bool, true, false, cond, ◌&&◌, ◌||◌, List, [], ◌∷◌, Option, Some, None, refl, sym, ap, ◌∙◌, subst, arith}
use Rattle.std.specs.Prelude.{map, ◌==◌, is_some}
use Rattle.std.specs.Option.{option_map, option_or}
use Rattle.std.proofs.lemmas.Bool.{false≢true, and_parts, and_from, eqb-true, eq-eqb, or_cases, or_right}
use Rattle.std.proofs.lemmas.List.Elements.{All-nil, All-cons}
use Rattle.tests.specs.declared.admit.AdmitError.{AdmitError}
use Rattle.tests.specs.declared.admit.AdmitError.TheVariants as error
use Rattle.tests.specs.declared.options.Options.{Options}
use Rattle.machine.specs.Below.{first_below, IsFirstBelow}
use Rattle.machine.specs.Table.{decode_of, Ins}
use Rattle.machine.specs.Step.{target}
use Rattle.machine.specs.Program.{LoadSegment}
use Rattle.machine.specs.Cells.{byte_among, number_among}
use Rattle.machine.specs.Offsets.{distance_between}
use Rattle.tests.specs.Admission.Places.{base_of, image_of, ElfFile}
use Rattle.tests.specs.Admission.DataRanges.{is_in, is_in_any}
use Rattle.tests.specs.Admission.CodeWords.{loads_of, ranges_of, is_code, word_at, instruction_at}
use Rattle.tests.specs.Admission.Rules.{passes_at, high_in, high_at, is_unknown, is_breakpoint, is_far_constant, is_ebreak, is_far}
use Rattle.machine.specs.Operands.{is_auipc}
use Rattle.tests.specs.Admission.Refusals.{HasFault, place_of, IsLeast, IsRefusedBy}
use Rattle.machine.specs.Members.{Every}
use Rattle.machine.proofs.Lemmas.{all_among, among_every, first_least, each_fails, by_bytes}
use Rattle.tests.proofs.Lemmas.{in_parts, in_from}
use Rattle.test_admission.specs.declared.rules.CodeRule.{CodeRule}
use Rattle.test_admission.specs.declared.rules.CodeRule.TheVariants as rule
use Rattle.test_admission.specs.declared.stretches.Stretch.{Stretch}
use Rattle.test_admission.specs.Order.{PassesBelow}
use Rattle.test_admission.specs.Stretches.{Part, stretch_parts, part_span, ReadsImage, AllEndBelow, Follow, AreCodeOf}
use Rattle.tests.specs.Words.{word_in}
use Rattle.test_admission.specs.Faults.{is_at_fault, faults_at, placed_word, first_in, first_among, HasHigh}
use Rattle.test_admission.proofs.FirstFault.{none_case}
use Rattle.test_admission.proofs.OrderLaws.{passes_more, refused}

-- ---- words
-- word k of a part is that of the image
pub part_word : (ls : List LoadSegment) (p : Part) (k : ℕ) → ReadsImage ls p → k < p.size / 4 → word_in p.bytes (4 * k) ≡ number_among ls (p.start + 4 * k) 4
part_word ls p k r lt =
    let n = by_bytes ls (p.start + 4 * k) in
    let b0 = r.bytes (4 * k) (omega (arith, lt)) in
    let b1 = r.bytes (4 * k + 1) (omega (arith, lt)) in
    let b2 = r.bytes (4 * k + 2) (omega (arith, lt)) in
    let b3 = r.bytes (4 * k + 3) (omega (arith, lt)) in
    let e1 : p.start + (4 * k + 1) ≡ p.start + 4 * k + 1 = omega arith in
    let e2 : p.start + (4 * k + 2) ≡ p.start + 4 * k + 1 + 1 = omega arith in
    let e3 : p.start + (4 * k + 3) ≡ p.start + 4 * k + 1 + 1 + 1 = omega arith in
    let c1 = b1 ∙ ap (byte_among ls) e1 in
    let c2 = b2 ∙ ap (byte_among ls) e2 in
    let c3 = b3 ∙ ap (byte_among ls) e3 in
    omega (arith, n, b0, c1, c2, c3)

-- ---- addresses of parts
-- the word of an address in a part
record PlaceIn (p : Part) (q : ℕ) : Type 0 where
  place : ℕ
  below : place < p.size / 4
  is : q ≡ p.start + 4 * place

place_in : (p : Part) (q : ℕ) → p.start % 4 ≡ 0 → p.size % 4 ≡ 0 → q % 4 ≡ 0 → is_in (part_span p) q ≡ true → PlaceIn p q
place_in p q a b c h =
    let i = in_parts (part_span p) q h in
    record { place = (q - p.start) / 4; below = omega (arith, a, b, c, i.0, i.1); is = omega (arith, a, c, i.0) }

from_low : (low : ℕ) (ps : List Part) (q : ℕ) → Follow low ps → is_in_any (map part_span ps) q ≡ true → low ≤ q
from_low low [] q h e = absurd (false≢true e)
from_low low (p ∷ ps) q h e =
    ⊎_elim
    (λ x. let i = in_parts (part_span p) q x in omega (arith, i.0, h.0))
    (λ x. let l = from_low (p.start + p.size) ps q h.5 x in omega (arith, l, h.0))
    (or_cases (is_in (part_span p) q) (is_in_any (map part_span ps) q) e)

-- ---- the first at fault, of words that a function gives at each address
module _ (word : ℕ → ℕ) (r : CodeRule) where
  -- what is found of parts from an address on
  record IsFirst (low : ℕ) (ps : List Part) (a found : ℕ) : Type 0 where
    aligned : a % 4 ≡ 0
    within : is_in_any (map part_span ps) a ≡ true
    small : a < 2 ^ 64
    is : found ≡ word a
    fault : is_at_fault r a (word a) ≡ true
    least : (q : ℕ) → q < a → q % 4 ≡ 0 → is_in_any (map part_span ps) q ≡ true → is_at_fault r q (word q) ≡ false

  abbrev HasWords : Part → Type 0
  HasWords p = (k : ℕ) → k < p.size / 4 → word_in p.bytes (4 * k) ≡ word (p.start + 4 * k)

  fault_same : (p : Part) (k : ℕ) (b : Bool) → HasWords p → k < p.size / 4 → faults_at r p k ≡ b → is_at_fault r (p.start + 4 * k) (word (p.start + 4 * k)) ≡ b
  fault_same p k b w lt e = sym (ap (is_at_fault r (p.start + 4 * k)) (w k lt)) ∙ e

  -- no word of a part is at fault
  none_part : (p : Part) (q : ℕ) → HasWords p → p.start % 4 ≡ 0 → p.size % 4 ≡ 0 → first_below (p.size / 4) (faults_at r p) ≡ None → q % 4 ≡ 0 → is_in (part_span p) q ≡ true → is_at_fault r q (word q) ≡ false
  none_part p q w a b e c h =
      let x = place_in p q a b c h in
      subst (λ z. is_at_fault r z (word z) ≡ false) (sym x.is) (fault_same p x.place false w x.below (each_fails (p.size / 4) (faults_at r p) e x.place x.below))

  pub none_found : (low : ℕ) (ps : List Part) → Follow low ps → Every HasWords ps → first_among r ps ≡ None → (q : ℕ) → q % 4 ≡ 0 → is_in_any (map part_span ps) q ≡ true → is_at_fault r q (word q) ≡ false
  none_found low [] h w e q c m = absurd (false≢true m)
  none_found low (p ∷ ps) h w e q c m = by (first_in r p) refl e (λ g. none_found (p.start + p.size) ps h.5 w.1 g q c) where
    by : (o : Option (ℕ × ℕ)) → first_in r p ≡ o → option_or o (first_among r ps) ≡ None → (first_among r ps ≡ None → is_in_any (map part_span ps) q ≡ true → is_at_fault r q (word q) ≡ false) → is_at_fault r q (word q) ≡ false
    by (Some d) x g rest = absurd (cc)
    by None x g rest = ⊎_elim (none_part p q w.0 h.2 h.3 (none_case p (first_below (p.size / 4) (faults_at r p)) x) c) (rest g) (or_cases (is_in (part_span p) q) (is_in_any (map part_span ps) q) m)

  here_found : (low : ℕ) (p : Part) (ps : List Part) (a found : ℕ) → Follow low (p ∷ ps) → HasWords p → (o : Option ℕ) → first_below (p.size / 4) (faults_at r p) ≡ o → option_map (placed_word p) o ≡ Some (a, found) → IsFirst low (p ∷ ps) a found
  here_found low p ps a found h w None e g = absurd (cc)
  here_found low p ps a found h w (Some k) e g =
      let f = first_least (p.size / 4) (faults_at r p) k e in
      let lt = f.below in
      let both : placed_word p k ≡ (a, found) = cc in
      let at : p.start + 4 * k ≡ a = ap (λ x. x.0) both in
      let is : word_in p.bytes (4 * k) ≡ found = ap (λ x. x.1) both in
      let s = h.2 in
      let z = h.3 in
      let fit = h.4 in
      let here : is_in (part_span p) a ≡ true = in_from (part_span p) a (omega (arith, at)) (omega (arith, at, lt)) in
      record {
        aligned = omega (arith, at, s);
        within = ap (λ b. b || is_in_any (map part_span ps) a) here;
        small = omega (arith, at, lt, fit);
        is = sym is ∙ w k lt ∙ ap word at;
        fault = subst (λ q. is_at_fault r q (word q) ≡ true) at (fault_same p k true w lt f.passes);
        least = λ q l c m.
            ⊎_elim
            (λ x. let y = place_in p q s z c x in let less : y.place < k = (let e1 = y.is in omega (arith, e1, at, l)) in subst (λ q. is_at_fault r q (word q) ≡ false) (sym y.is) (fault_same p y.place false w y.below (f.least y.place less)))
            (λ x. let far = from_low (p.start + p.size) ps q h.5 x in absurd (omega (arith, far, l, at, lt)))
            (or_cases (is_in (part_span p) q) (is_in_any (map part_span ps) q) m);
      }

  later_found : (low : ℕ) (p : Part) (ps : List Part) (a found : ℕ) → Follow low (p ∷ ps) → HasWords p → first_below (p.size / 4) (faults_at r p) ≡ None → IsFirst (p.start + p.size) ps a found → IsFirst low (p ∷ ps) a found
  later_found low p ps a found h w e f = record {
    aligned = f.aligned;
    within = or_right (is_in (part_span p) a) (is_in_any (map part_span ps) a) f.within;
    small = f.small;
    is = f.is;
    fault = f.fault;
    least = λ q l c m. ⊎_elim (none_part p q w h.2 h.3 e c) (f.least q l c) (or_cases (is_in (part_span p) q) (is_in_any (map part_span ps) q) m);
  }

  first_found : (low : ℕ) (ps : List Part) (a found : ℕ) → Follow low ps → Every HasWords ps → first_among r ps ≡ Some (a, found) → IsFirst low ps a found
  first_found low [] a found h w e = absurd (cc)
  first_found low (p ∷ ps) a found h w e = by (first_in r p) refl e (first_found (p.start + p.size) ps a found h.5 w.1) where
    by : (o : Option (ℕ × ℕ)) → first_in r p ≡ o → option_or o (first_among r ps) ≡ Some (a, found) → (first_among r ps ≡ Some (a, found) → IsFirst (p.start + p.size) ps a found) → IsFirst low (p ∷ ps) a found
    by None x g rest = later_found low p ps a found h w.0 (none_case p (first_below (p.size / 4) (faults_at r p)) x) (rest g)
    by (Some d) x g rest = here_found low p ps a found h w.0 (first_below (p.size / 4) (faults_at r p)) refl (x ∙ g)

-- ---- stretches
pub follow_fit : (low : ℕ) (ss : List Stretch) → Follow low (stretch_parts ss) → AllEndBelow ss
follow_fit low [] h = All-nil (λ s. s.start + s.size ≤ 2 ^ 64)
follow_fit low (s ∷ ss) h = All-cons (λ t. t.start + t.size ≤ 2 ^ 64) s ss h.4 (follow_fit (s.start + s.size) ss h.5)

-- ---- the code of a file
module _ (f : ElfFile) (ps : List Part) (code : AreCodeOf f ps) where
  words : Every (λ p. (k : ℕ) → k < p.size / 4 → word_in p.bytes (4 * k) ≡ word_at f (p.start + 4 * k)) ps
  words = among_every _ ps (λ p m k lt. part_word (loads_of f) p k (all_among (ReadsImage (loads_of f)) p ps code.read m) lt)

  abbrev at : CodeRule → ℕ → Bool
  at r a = is_code f a && is_at_fault r a (word_at f a)

  -- a code address is a multiple of 4 in a part
  code_parts : (a : ℕ) → is_code f a ≡ true → (a % 4 ≡ 0) × (is_in_any (map part_span ps) a ≡ true)
  code_parts a e = let p = and_parts (a % 4 == 0) (is_in_any (ranges_of f) a) e in (eqb-true (a % 4) 0 p.0, code.same a ∙ p.1)

  code_from : (a : ℕ) → a % 4 ≡ 0 → is_in_any (map part_span ps) a ≡ true → is_code f a ≡ true
  code_from a c m = and_from (a % 4 == 0) (is_in_any (ranges_of f) a) (eq-eqb (a % 4) 0 c) (sym (code.same a) ∙ m)

  not_at : (r : CodeRule) (a : ℕ) → (a % 4 ≡ 0 → is_in_any (map part_span ps) a ≡ true → is_at_fault r a (word_at f a) ≡ false) → at r a ≡ false
  not_at r a h = by (is_code f a) refl where
    by : (b : Bool) → is_code f a ≡ b → (b && is_at_fault r a (word_at f a)) ≡ false
    by true e = let p = code_parts a e in h p.0 p.1
    by false e = refl

  none_at_fault : (r : CodeRule) → first_among r ps ≡ None → (a : ℕ) → at r a ≡ false
  none_at_fault r e a = not_at r a (none_found (word_at f) r 0 ps code.follow words e a)

  record IsLeastFault (r : CodeRule) (a found : ℕ) : Type 0 where
    pub least : IsFirstBelow (2 ^ 64) (at r) a
    pub word : found ≡ word_at f a
    pub address : is_code f a ≡ true

  least_at_fault : (r : CodeRule) (a found : ℕ) → first_among r ps ≡ Some (a, found) → IsLeastFault r a found
  least_at_fault r a found e =
      let x = first_found (word_at f) r 0 ps a found code.follow words e in
      let c = code_from a x.aligned x.within in
      record {
        least = record { below = x.small; passes = and_from (is_code f a) (is_at_fault r a (word_at f a)) c x.fault; least = λ q l. not_at r q (x.least q l) };
        word = x.is;
        address = c;
      }

  -- ---- the tests of the rules
  same_least : (test other : ℕ → Bool) → ((a : ℕ) → test a ≡ other a) → (a : ℕ) → IsFirstBelow (2 ^ 64) test a → IsFirstBelow (2 ^ 64) other a
  same_least test other e a h = record { below = h.below; passes = sym (e a) ∙ h.passes; least = λ k l. sym (e k) ∙ h.least k l }

  at_instruction : (test : Option Ins → Bool) → test None ≡ false → (a : ℕ) → (is_code f a && test (decode_of (word_at f a))) ≡ test (instruction_at f a)
  at_instruction test none a = elim (is_code f a) as (λ b. (b && test (decode_of (word_at f a))) ≡ test (cond b (decode_of (word_at f a)) None)) [ true ↦ refl | false ↦ sym none ]

  high_test : (a : ℕ) → at rule.Registers a ≡ is_some (high_at f a)
  high_test a = at_instruction (λ o. is_some (high_in o)) refl a

  break_test : (a : ℕ) → at rule.Breakpoint a ≡ is_breakpoint f a
  break_test a = at_instruction (λ o. passes_at (λ (i : Ins). is_ebreak i.kind) o) refl a

  far_test : (a : ℕ) → at (rule.Constant (base_of (image_of f))) a ≡ is_far_constant f a
  far_test a = at_instruction (λ o. passes_at (λ (i : Ins). is_auipc i.kind && is_far (distance_between (base_of (image_of f)) (target i a))) o) refl a

  never : (test : ℕ → Bool) → ((a : ℕ) → test a ≡ false) → (a : ℕ) → IsLeast test a → ⊥
  never test h a l = false≢true (sym (h a) ∙ l.passes)

  module _ (passed : (o : Options) → PassesBelow f o 6) where
    pub refused_unknown : (a word : ℕ) → first_among rule.Unknown ps ≡ Some (a, word) → (o : Options) → IsRefusedBy f o (error.UnknownWord a word)
    refused_unknown a word e o = let x = least_at_fault rule.Unknown a word e in refused f o 6 (error.UnknownWord a word) (passed o) refl (x.least, x.word)

    module _ (known : first_among rule.Unknown ps ≡ None) where
      passed_unknown : (o : Options) → PassesBelow f o 7
      passed_unknown o = passes_more f o 6 (passed o) by where
        by : (d : AdmitError) → place_of d ≡ 6 → HasFault f o d → ⊥
        by (error.UnknownWord a w) n h = never (is_unknown f) (none_at_fault rule.Unknown known) a h.0
        by d n h = absurd (omega (arith, n))

      pub refused_high : (e : AdmitError) → HasHigh ps e → (o : Options) → IsRefusedBy f o e
      refused_high e h o =
          let a = h.address in
          let x = least_at_fault rule.Registers a h.word h.first in
          let code_at : instruction_at f a ≡ decode_of (word_at f a) = ap (λ b. cond b (decode_of (word_at f a)) None) x.address in
          let register : high_at f a ≡ Some h.high = ap high_in (code_at ∙ ap decode_of (sym x.word)) ∙ h.register in
          subst (IsRefusedBy f o) (sym h.is) (refused f o 7 (error.RegisterHalf a h.high) (passed_unknown o) refl (same_least (at rule.Registers) (λ q. is_some (high_at f q)) high_test a x.least, register))

      module _ (low : first_among rule.Registers ps ≡ None) where
        passed_high : (o : Options) → PassesBelow f o 8
        passed_high o = passes_more f o 7 (passed_unknown o) by where
          by : (d : AdmitError) → place_of d ≡ 7 → HasFault f o d → ⊥
          by (error.RegisterHalf a r) n h = never (λ q. is_some (high_at f q)) (λ q. sym (high_test q) ∙ none_at_fault rule.Registers low q) a h.0
          by d n h = absurd (omega (arith, n))

        pub refused_break : (a word : ℕ) → first_among rule.Breakpoint ps ≡ Some (a, word) → (o : Options) → IsRefusedBy f o (error.Breakpoint a)
        refused_break a word e o = refused f o 8 (error.Breakpoint a) (passed_high o) refl (same_least (at rule.Breakpoint) (is_breakpoint f) break_test a (least_at_fault rule.Breakpoint a word e).least)

        module _ (unbroken : first_among rule.Breakpoint ps ≡ None) where
          passed_break : (o : Options) → PassesBelow f o 9
          passed_break o = passes_more f o 8 (passed_high o) by where
            by : (d : AdmitError) → place_of d ≡ 8 → HasFault f o d → ⊥
            by (error.Breakpoint a) n h = never (is_breakpoint f) (λ q. sym (break_test q) ∙ none_at_fault rule.Breakpoint unbroken q) a h
            by d n h = absurd (omega (arith, n))

          pub refused_far : (base a word : ℕ) → base ≡ base_of (image_of f) → first_among (rule.Constant base) ps ≡ Some (a, word) → (o : Options) → IsRefusedBy f o (error.FarConstant a)
          refused_far base a word b e o =
              let x = least_at_fault (rule.Constant (base_of (image_of f))) a word (sym (ap (λ n. first_among (rule.Constant n) ps) b) ∙ e) in
              refused f o 9 (error.FarConstant a) (passed_break o) refl (same_least (at (rule.Constant (base_of (image_of f)))) (is_far_constant f) far_test a x.least)

          pub passes_code : (base : ℕ) → base ≡ base_of (image_of f) → first_among (rule.Constant base) ps ≡ None → (o : Options) → PassesBelow f o 10
          passes_code base b e o = passes_more f o 9 (passed_break o) by where
            by : (d : AdmitError) → place_of d ≡ 9 → HasFault f o d → ⊥
            by (error.FarConstant a) n h = never (is_far_constant f) (λ q. sym (far_test q) ∙ none_at_fault (rule.Constant (base_of (image_of f))) (sym (ap (λ n. first_among (rule.Constant n) ps) b) ∙ e) q) a h
            by d n h = absurd (omega (arith, n))
