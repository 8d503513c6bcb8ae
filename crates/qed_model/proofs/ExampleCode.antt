-- A known file with one range of code and known instructions: what stands at each code address, and that no rule
-- refuses the file. Proved by computed tests.
use Rattle.std.proofs.Common.{◌≡◌, ◌⊎◌, inl, inr, ⊎_elim, ℕ, zero, suc, ◌+◌, ◌*◌, ◌%◌, ◌^◌, ◌<◌, ◌≤◌, Bool, true, false, ◌&&◌, ◌||◌, not, List, [], ◌∷◌, length, get_or, Option, Some, None, refl, sym, ap, ◌∙◌, subst, arith}
use Rattle.std.specs.Prelude.{AllPairs, slice_get, is_none, nat_le, nat_lt, ◌==◌, if◌then◌else◌}
use Rattle.std.specs.List.{list_any}
use Rattle.std.proofs.lemmas.Bool.{and_parts, eqb-true, eqb-false, leb-true, ltb-true, or_cases, false≢true, not-true, or_parts}
use Rattle.std.proofs.lemmas.List.Elements.{Contains-get_or}
use Rattle.tests.specs.declared.options.Entries.TheVariants as entries
use Rattle.machine.specs.Table.{Ins, decode_of}
use Rattle.machine.specs.Step.{target}
use Rattle.tests.specs.Admission.Terms.{is_compressed, is_dynamic, is_code_address, high_register}
use Rattle.tests.specs.Admission.CodeWords.{loads_of, ranges_of, is_code, word_at, instruction_at}
use Rattle.tests.specs.Admission.Rules.{passes_at, is_writable_code, is_misshapen_section, is_misshapen_segment, is_unknown, high_in, is_ebreak, is_far, is_mixed}
use Rattle.machine.specs.Operands.{is_auipc}
use Rattle.tests.specs.Admission.Refusals.{IsAdmitted, HasTooManyWords}
use Rattle.machine.specs.Offsets.{distance_between}
use Rattle.tests.specs.Admission.Places.{base_of, high_of, distance_of, ElfFile, image_of, half_of, code_place}
use Rattle.tests.specs.declared.options.Options.{Options}
use Rattle.qed_model.specs.Weave.SoundOptions.{AreSoundOptions}
use Rattle.qed_model.proofs.RangeSegments.{either_way}

-- ---- computed tests
none_passes : {A : Type 0} (test : A → Bool) (xs : List A) → list_any test xs ≡ false → (i : ℕ) → passes_at test (slice_get xs i) ≡ false
none_passes test [] e i = refl
none_passes test (x ∷ xs) e zero = (or_parts (test x) (list_any test xs) e).0
none_passes test (x ∷ xs) e (suc i) = none_passes test xs (or_parts (test x) (list_any test xs) e).1 i

-- ---- options
-- the options: none given, or the sweep alone
abbrev pub options : Bool → Options
options sweep = record { inst_min = 4; inst_max = 16; round = 1; half = None; sweep = sweep; diverse = false; entries = entries.All; lean = None; land = false }

abbrev pub defaults : Options
defaults = options false

abbrev pub swept : Options
swept = options true

pub sound : (sweep : Bool) → AreSoundOptions (options sweep)
sound sweep = record { some = omega arith; room = omega arith; most = omega arith; visits = omega arith; few_visits = omega arith; half = tt; lean = tt }

-- ---- the code
-- the instructions stand one behind another from an address on
abbrev pub StandFrom : ElfFile → ℕ → List Ins → Type 0
StandFrom f a [] = Unit {0}
StandFrom f a (i ∷ is) = (instruction_at f a ≡ Some i) × StandFrom f (a + 4) is

-- the instructions are all of the file's code
pub record IsCodeOf (f : ElfFile) (from : ℕ) (code : List Ins) : Type 0 where
  pub range : ranges_of f ≡ (from, from + 4 * length code) ∷ []
  pub grain : from % 4 ≡ 0
  pub stand : StandFrom f from code

-- an instruction and its address are among these
abbrev pub IsAt : ℕ → Ins → ℕ → List Ins → Type 0
IsAt a i from [] = ⊥
IsAt a i from (j ∷ js) = ((a ≡ from) × (i ≡ j)) ⊎ IsAt a i (from + 4) js

-- each instruction, at its address, passes a test
abbrev pub each_at : (ℕ → Ins → Bool) → ℕ → List Ins → Bool
each_at test a [] = true
each_at test a (i ∷ is) = test a i && each_at test (a + 4) is

pub passes_each : (test : ℕ → Ins → Bool) (a : ℕ) (i : Ins) (from : ℕ) (code : List Ins) → each_at test from code ≡ true → IsAt a i from code → test a i ≡ true
passes_each test a i from [] e m = absurd m
passes_each test a i from (j ∷ js) e m =
    let both = and_parts (test from j) (each_at test (from + 4) js) e in
    ⊎_elim (λ h. ap (λ x. test x i) h.0 ∙ ap (test from) h.1 ∙ both.0) (λ r. passes_each test a i (from + 4) js both.1 r) m

-- what stands at an address of the range
record Found (f : ElfFile) (from : ℕ) (code : List Ins) (a : ℕ) : Type 0 where
  instruction : Ins
  stands : instruction_at f a ≡ Some instruction
  among : IsAt a instruction from code

find : (f : ElfFile) (from : ℕ) (code : List Ins) (a : ℕ) → StandFrom f from code → from % 4 ≡ 0 → a % 4 ≡ 0 → from ≤ a → a < from + 4 * length code → Found f from code a
find f from [] a s g h low high = absurd (omega (arith, low, high))
find f from (i ∷ is) a s g h low high =
    either_way (Found f from (i ∷ is) a) (a == from)
    (λ e. let at = eqb-true a from e in record { instruction = i; stands = ap (instruction_at f) at ∙ s.0; among = inl (at, refl) })
    (λ e.
    let off = eqb-false a from e in
    let rest = find f (from + 4) is a s.1 (omega (arith, g)) h (omega (arith, low, g, h, off)) (omega (arith, high)) in
    record { instruction = rest.instruction; stands = rest.stands; among = inr rest.among })

module _ (f : ElfFile) (from : ℕ) (code : List Ins) (known : IsCodeOf f from code) where
  -- a code address is in the range
  in_range : (a : ℕ) → is_code f a ≡ true → (a % 4 ≡ 0) × (from ≤ a) × (a < from + 4 * length code)
  in_range a e =
      let top = from + 4 * length code in
      let there : (a % 4 == 0 && (nat_le from a && nat_lt a (from + 4 * length code) || false)) ≡ true = subst (λ rs. is_code_address rs a ≡ true) known.range e in
      let p = and_parts (a % 4 == 0) (nat_le from a && nat_lt a top || false) there in
      ⊎_elim
      (λ x. let q = and_parts (nat_le from a) (nat_lt a top) x in (eqb-true (a % 4) 0 p.0, leb-true from a q.0, ltb-true a top q.1))
      (λ x. absurd (false≢true x))
      (or_cases (nat_le from a && nat_lt a top) false p.1)

  at_code : (a : ℕ) → is_code f a ≡ true → Found f from code a
  at_code a e = let r = in_range a e in find f from code a known.stand known.grain r.0 r.1 r.2

  none_at : (a : ℕ) → is_code f a ≡ false → instruction_at f a ≡ None
  none_at a e = ap (λ b. if b then decode_of (word_at f a) else None) e

  -- an instruction that stands anywhere stands at a code address, and is one of these
  pub code_of : (a : ℕ) (i : Ins) → instruction_at f a ≡ Some i → is_code f a ≡ true
  code_of a i h = either_way (is_code f a ≡ true) (is_code f a) (λ e. e) (λ e. absurd (none (sym (none_at a e) ∙ h))) where
    none : None ≡ Some i → ⊥
    none p = absurd (cc)

  pub one_of : (a : ℕ) (i : Ins) → instruction_at f a ≡ Some i → IsAt a i from code
  one_of a i h =
      let x = at_code a (code_of a i h) in
      let both : Some x.instruction ≡ Some i = sym x.stands ∙ h in
      let same : x.instruction ≡ i = cc in
      subst (λ j. IsAt a j from code) same x.among

  -- a test of all instructions holds at each code address
  pub tested : (test : ℕ → Bool) → each_at (λ a i. test a) from code ≡ true → (a : ℕ) → is_code f a ≡ true → test a ≡ true
  tested test e a c = let x = at_code a c in passes_each (λ a i. test a) a x.instruction from code e x.among

  -- ---- the code words are few
  grows : (xs : List ℕ) (k : ℕ) → AllPairs (λ a b. a < b) xs → ((j : ℕ) → j < length xs → from ≤ get_or xs j 0) → k < length xs → from + k ≤ get_or xs k 0
  grows xs zero p h l = let b = h 0 l in omega (arith, b)
  grows xs (suc k) p h l = let b = grows xs k p h (omega (arith, l)) in let c = p k (suc k) 0 (omega arith) l in omega (arith, b, c)

  few_words : length code ≤ 262144 → (n : ℕ) → HasTooManyWords f n → ⊥
  few_words few n h =
      let xs = h.addresses in
      let over = h.over in
      let count = h.count in
      let there = λ (j : ℕ) (l : j < length xs). in_range (get_or xs j 0) ((h.all.all (get_or xs j 0)).0 (Contains-get_or xs j 0 l)) in
      let many : 1048576 < length xs = omega (arith, over, count) in
      let low = grows xs 1048576 h.all.ascend (λ j m. (there j m).1) many in
      let high = (there 1048576 many).2 in
      absurd (omega (arith, low, high, few))

  -- ---- no rule refuses the file
  -- an instruction passes: no register above x13, no EBREAK, no AUIPC out of reach of the base
  abbrev pub is_fine : ℕ → Ins → Bool
  is_fine a i = is_none (high_register i) && not (is_ebreak i.kind || is_auipc i.kind && is_far (distance_between (base_of (image_of f)) (target i a)))

  -- the segments and sections break one of these rules
  abbrev pub is_refused : Bool
  is_refused =
      is_compressed f
      || (is_dynamic f.segments
      || (list_any is_writable_code f.segments
      || (list_any (is_misshapen_section (loads_of f)) f.sections
      || (list_any (is_misshapen_segment f) f.segments
      || list_any (is_mixed (image_of f)) f.segments))))

  none_of : (o : Option ℕ) → is_none o ≡ true → o ≡ None
  none_of None e = refl
  none_of (Some r) e = absurd (false≢true e)

  module _ (fine : each_at is_fine from code ≡ true) where
    -- the demands on the instruction at each address hold
    asked :
        {A : Type 0} (of : ℕ → Option Ins → A) (x : A) → ((a : ℕ) → of a None ≡ x) → ((a : ℕ) (i : Ins) → is_fine a i ≡ true → of a (Some i) ≡ x)
        → (a : ℕ) → of a (instruction_at f a) ≡ x
    asked of x none some a =
        either_way (of a (instruction_at f a) ≡ x) (is_code f a)
        (λ e. let y = at_code a e in ap (of a) y.stands ∙ some a y.instruction (passes_each is_fine a y.instruction from code fine y.among))
        (λ e. ap (of a) (none_at a e) ∙ none a)

    no_unknown : (a : ℕ) → is_unknown f a ≡ false
    no_unknown a =
        either_way (is_unknown f a ≡ false) (is_code f a)
        (λ e. let y = at_code a e in ap (λ b. b && is_none (decode_of (word_at f a))) e ∙ ap is_none (sym (ap (λ b. if b then decode_of (word_at f a) else None) e) ∙ y.stands))
        (λ e. ap (λ b. b && is_none (decode_of (word_at f a))) e)

    -- the two halves of the test
    fine_parts :
        (a : ℕ) (i : Ins) → is_fine a i ≡ true
        → (high_register i ≡ None) × (is_ebreak i.kind ≡ false) × (is_auipc i.kind && is_far (distance_between (base_of (image_of f)) (target i a)) ≡ false)
    fine_parts a i e =
        let far = is_auipc i.kind && is_far (distance_between (base_of (image_of f)) (target i a)) in
        let p = and_parts (is_none (high_register i)) (not (is_ebreak i.kind || far)) e in
        let q = or_parts (is_ebreak i.kind) far (not-true (is_ebreak i.kind || far) p.1) in
        (none_of (high_register i) p.0, q.0, q.1)

    -- the file is admitted
    pub admitted :
        (o : Options) → is_refused ≡ false → is_code f f.entry ≡ true → length code ≤ 262144
        → high_of (image_of f) ≤ base_of (image_of f) + half_of o.half (image_of f) → distance_of (image_of f) ≤ 67108864
        → code_place o.half (image_of f) + 134217728 ≤ 2 ^ 63 → IsAdmitted f o
    admitted o e entry few half span top =
        let a = or_parts _ _ e in
        let b = or_parts _ _ a.1 in
        let c = or_parts _ _ b.1 in
        let d = or_parts _ _ c.1 in
        let g = or_parts _ _ d.1 in
        record {
          uncompressed = a.0;
          static = b.0;
          separate = none_passes is_writable_code f.segments c.0;
          entry = entry;
          sections = none_passes (is_misshapen_section (loads_of f)) f.sections d.0;
          segments = none_passes (is_misshapen_segment f) f.segments g.0;
          known = λ q l. no_unknown q;
          low = λ q l. asked (λ a i. high_in i) None (λ a. refl) (λ a i h. (fine_parts a i h).0) q;
          unbroken = λ q l. asked (λ a i. passes_at (λ (j : Ins). is_ebreak j.kind) i) false (λ a. refl) (λ a i h. (fine_parts a i h).1) q;
          near = λ q l. asked (λ a i. passes_at (λ (j : Ins). is_auipc j.kind && is_far (distance_between (base_of (image_of f)) (target j a))) i) false (λ a. refl) (λ a i h. (fine_parts a i h).2) q;
          unmixed = none_passes (is_mixed (image_of f)) f.segments g.1;
          half = half;
          span = span;
          words = few_words few;
          top = top;
        }
