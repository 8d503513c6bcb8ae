-- What a machine fetches of an admitted test is the instruction at a code address.
use Rattle.std.proofs.Common.{◌≡◌, inl, inr, ⊎_elim, ℕ, ◌+◌, ◌-◌, ◌/◌, ◌%◌, ◌<◌, ◌≤◌, Bool, true, false, cond, not, ◌&&◌, ◌||◌, List, [], ◌∷◌, Some, None, refl, sym, ap, ◌∙◌, subst, arith}
use Rattle.std.specs.Prelude.{nat_lt, nat_le, ◌==◌, slice_get, if◌then◌else◌}
use Rattle.std.specs.List.{list_any}
use Rattle.std.proofs.lemmas.Bool.{and_parts, and_from, or_cases, eqb-true, eq-eqb, leb-true, le-leb, ltb-true, lt-ltb, false≢true, or_left, or_right, or_parts}
use Rattle.elf_types.specs.declared.file.Section.{Section}
use Rattle.machine.specs.Table.{Ins, decode_of}
use Rattle.machine.specs.Memory.{get, allows, wrap, number, grants}
use Rattle.machine.specs.Step.{Fetched, Refused, Known, known_or, in_range, fetched_at}
use Rattle.machine.specs.Program.{LoadSegment, memory_of}
use Rattle.machine.specs.Loading.{is_code_section, lies_in_code, lies_in_any, section_ranges, segment_ranges, first_some}
use Rattle.tests.specs.Admission.Terms.{is_cut, is_ragged}
use Rattle.machine.specs.Cells.{has, cell_at, cell_among}
use Rattle.tests.specs.Admission.CodeWords.{ElfFile, loads_of, ranges_of, is_code, word_at, instruction_at}
use Rattle.tests.specs.Admission.DataRanges.{is_executed}
use Rattle.tests.specs.Admission.Rules.{passes_at, section_range, segment_range, is_misshapen_section, is_misshapen_segment, is_empty}
use Rattle.machine.proofs.Lemmas.{grants_from, passing, place_of, has_from, get_among, among_agreed, number-among}
use Rattle.machine.specs.Members.{Among}
use Rattle.tests.proofs.ImageLaws.{load_source, all_sized_among}
use Rattle.tests.specs.Elf.Sound.{AreLoads}

-- ---- where a code range comes from
-- an executable section that lies in an executable segment
pub record OfSection (ls : List LoadSegment) (xs : List Section) (r : ℕ × ℕ) : Type 0 where
  pub section : Section
  pub among : Among section xs
  pub code : is_code_section section ≡ true
  pub lies : lies_in_any section ls ≡ true
  pub is : r ≡ section_range section

section_later : (ls : List LoadSegment) (x : Section) (xs : List Section) (r : ℕ × ℕ) → OfSection ls xs r → OfSection ls (x ∷ xs) r
section_later ls x xs r o = record { section = o.section; among = inr o.among; code = o.code; lies = o.lies; is = o.is }

section_step :
    (ls : List LoadSegment) (x : Section) (xs : List Section) (r : ℕ × ℕ) → (Among r (section_ranges ls xs) → OfSection ls xs r) → (b : Bool)
    → (is_code_section x && lies_in_any x ls) ≡ b → Among r (cond b (section_range x ∷ section_ranges ls xs) (section_ranges ls xs))
    → OfSection ls (x ∷ xs) r
section_step ls x xs r rec true e m = let p = and_parts (is_code_section x) (lies_in_any x ls) e in ⊎_elim (λ d. record { section = x; among = inl refl; code = p.0; lies = p.1; is = d }) (λ k. section_later ls x xs r (rec k)) m
section_step ls x xs r rec false e m = section_later ls x xs r (rec m)

pub of_section : (ls : List LoadSegment) (xs : List Section) (r : ℕ × ℕ) → Among r (section_ranges ls xs) → OfSection ls xs r
of_section ls [] r m = absurd m
of_section ls (x ∷ xs) r m = section_step ls x xs r (of_section ls xs r) (is_code_section x && lies_in_any x ls) refl m

-- or an executable segment
record OfSegment (ls : List LoadSegment) (r : ℕ × ℕ) : Type 0 where
  segment : LoadSegment
  among : Among segment ls
  executes : segment.flags.execute ≡ true
  some : 0 < segment.size
  is : r ≡ (segment.address, segment.address + segment.size)

segment_later : (l : LoadSegment) (ls : List LoadSegment) (r : ℕ × ℕ) → OfSegment ls r → OfSegment (l ∷ ls) r
segment_later l ls r o = record { segment = o.segment; among = inr o.among; executes = o.executes; some = o.some; is = o.is }

segment_step :
    (l : LoadSegment) (ls : List LoadSegment) (r : ℕ × ℕ) → (Among r (segment_ranges ls) → OfSegment ls r) → (b : Bool)
    → (l.flags.execute && nat_lt 0 l.size) ≡ b → Among r (cond b ((l.address, l.address + l.size) ∷ segment_ranges ls) (segment_ranges ls))
    → OfSegment (l ∷ ls) r
segment_step l ls r rec true e m = let p = and_parts l.flags.execute (nat_lt 0 l.size) e in ⊎_elim (λ d. record { segment = l; among = inl refl; executes = p.0; some = ltb-true 0 l.size p.1; is = d }) (λ k. segment_later l ls r (rec k)) m
segment_step l ls r rec false e m = segment_later l ls r (rec m)

of_segment : (ls : List LoadSegment) (r : ℕ × ℕ) → Among r (segment_ranges ls) → OfSegment ls r
of_segment [] r m = absurd m
of_segment (l ∷ ls) r m = segment_step l ls r (of_segment ls r) (l.flags.execute && nat_lt 0 l.size) refl m

-- ---- the segment around it
pub record Around (ls : List LoadSegment) (r : ℕ × ℕ) : Type 0 where
  pub some : r.0 < r.1
  pub segment : LoadSegment
  pub among : Among segment ls
  pub executes : segment.flags.execute ≡ true
  pub from : segment.address ≤ r.0
  pub to : r.1 ≤ segment.address + segment.size

around_later : (l : LoadSegment) (ls : List LoadSegment) (r : ℕ × ℕ) → Around ls r → Around (l ∷ ls) r
around_later l ls r a = record { some = a.some; segment = a.segment; among = inr a.among; executes = a.executes; from = a.from; to = a.to }

around_section : (ls : List LoadSegment) (x : Section) → 0 < x.size → lies_in_any x ls ≡ true → Around ls (section_range x)
around_section [] x room e = absurd (false≢true e)
around_section (l ∷ ls) x room e =
    ⊎_elim
    (λ h.
    let p = and_parts l.flags.execute (nat_le l.address x.address && nat_le (x.address + x.size) (l.address + l.size)) h in
    let q = and_parts (nat_le l.address x.address) (nat_le (x.address + x.size) (l.address + l.size)) p.1 in
    record { some = omega (arith, room); segment = l; among = inl refl; executes = p.0; from = leb-true l.address x.address q.0; to = leb-true (x.address + x.size) (l.address + l.size) q.1 })
    (λ h. around_later l ls (section_range x) (around_section ls x room h))
    (or_cases (lies_in_code x l) (lies_in_any x ls) e)

-- ---- no code range is ragged
pub even_parts : (r : ℕ × ℕ) → is_ragged r ≡ false → (r.0 % 4 ≡ 0) × ((r.1 - r.0) % 4 ≡ 0)
even_parts r e = by (r.0 % 4 == 0) ((r.1 - r.0) % 4 == 0) refl refl e where
  by : (a b : Bool) → (r.0 % 4 == 0) ≡ a → ((r.1 - r.0) % 4 == 0) ≡ b → (not a || not b) ≡ false → (r.0 % 4 ≡ 0) × ((r.1 - r.0) % 4 ≡ 0)
  by true true x y h = (eqb-true (r.0 % 4) 0 x, eqb-true ((r.1 - r.0) % 4) 0 y)
  by true false x y h = absurd (false≢true (sym h))
  by false b x y h = absurd (false≢true (sym h))

-- a code address is on the grain
pub code_grain : (f : ElfFile) (a : ℕ) → is_code f a ≡ true → a % 4 ≡ 0
code_grain f a e = eqb-true (a % 4) 0 (and_parts (a % 4 == 0) _ e).0

pub none_passes : {A : Type 0} (test : A → Bool) (x : A) (xs : List A) → ((i : ℕ) → passes_at test (slice_get xs i) ≡ false) → Among x xs → test x ≡ false
none_passes test x xs h m = let p = place_of x xs m in sym (ap (passes_at test) p.stands) ∙ h p.place

-- what is known of the code of an admitted test
pub record IsShapely (f : ElfFile) : Type 0 where
  pub loads : AreLoads (loads_of f)
  pub sections : (i : ℕ) → passes_at (is_misshapen_section (loads_of f)) (slice_get f.sections i) ≡ false
  pub segments : (i : ℕ) → passes_at (is_misshapen_segment f) (slice_get f.segments i) ≡ false

-- the four bytes of a code address are in a range
pub record CodeAt (f : ElfFile) (a : ℕ) : Type 0 where
  pub range : ℕ × ℕ
  pub among : Among range (ranges_of f)
  pub from : range.0 ≤ a
  pub to : a + 4 ≤ range.1
  pub grain : a % 4 ≡ 0

-- ---- tests of ranges
in_any_range : (rs : List (ℕ × ℕ)) (r : ℕ × ℕ) (a : ℕ) → Among r rs → r.0 ≤ a → a + 4 ≤ r.1 → in_range a rs ≡ true
in_any_range [] r a m x y = absurd m
in_any_range (t ∷ rs) r a m x y =
    ⊎_elim
    (λ e. or_left ((nat_le t.0 a) && nat_le (a + 4) t.1) (in_range a rs) (and_from (nat_le t.0 a) (nat_le (a + 4) t.1) (le-leb t.0 a (subst (λ k. k.0 ≤ a) e x)) (le-leb (a + 4) t.1 (subst (λ k. a + 4 ≤ k.1) e y))))
    (λ k. or_right ((nat_le t.0 a) && nat_le (a + 4) t.1) (in_range a rs) (in_any_range rs r a k x y))
    m

range_has : (rs : List (ℕ × ℕ)) (a : ℕ) → in_range a rs ≡ true → list_any (λ r. nat_le r.0 a && nat_lt a r.1) rs ≡ true
range_has [] a e = e
range_has (r ∷ rs) a e = by (nat_le r.0 a && nat_le (a + 4) r.1) refl e (range_has rs a) where
  by :
      (b : Bool) → (nat_le r.0 a && nat_le (a + 4) r.1) ≡ b → (b || in_range a rs) ≡ true
      → (in_range a rs ≡ true → list_any (λ r. nat_le r.0 a && nat_lt a r.1) rs ≡ true)
      → ((nat_le r.0 a && nat_lt a r.1) || list_any (λ r. nat_le r.0 a && nat_lt a r.1) rs) ≡ true
  by true d h rec =
      let p = and_parts (nat_le r.0 a) (nat_le (a + 4) r.1) d in
      let l = leb-true (a + 4) r.1 p.1 in
      or_left (nat_le r.0 a && nat_lt a r.1) _ (and_from (nat_le r.0 a) (nat_lt a r.1) p.0 (lt-ltb a r.1 (omega (arith, l))))
  by false d h rec = or_right (nat_le r.0 a && nat_lt a r.1) _ (rec h)

-- what is fetched passed the tests
tests_passed : (a b g : Bool) (x : Fetched) (i : Ins) → cond (a && (b && g)) x Refused ≡ Known i → (a ≡ true) × (b ≡ true) × (x ≡ Known i)
tests_passed true true true x i e = (refl, refl, e)
tests_passed true true false x i e = absurd (cc)
tests_passed true false g x i e = absurd (cc)
tests_passed false b g x i e = absurd (cc)

module _ (f : ElfFile) (sections : (i : ℕ) → passes_at (is_misshapen_section (loads_of f)) (slice_get f.sections i) ≡ false)
    (segments : (i : ℕ) → passes_at (is_misshapen_segment f) (slice_get f.segments i) ≡ false) where
  -- a range of sections is in a segment, and even
  in_sections : (r : ℕ × ℕ) → Among r (section_ranges (loads_of f) f.sections) → Around (loads_of f) r × (is_ragged r ≡ false)
  in_sections r m =
      let o = of_section (loads_of f) f.sections r m in
      let room = ltb-true 0 o.section.size (and_parts (o.section.flags / 4 % 2 == 1) (nat_lt 0 o.section.size) (and_parts (o.section.flags / 2 % 2 == 1) _ o.code).1).1 in
      let good = none_passes (is_misshapen_section (loads_of f)) o.section f.sections sections o.among in
      let even : is_ragged (section_range o.section) ≡ false = rw (o.code, o.lies) at (or_parts (is_cut (loads_of f) o.section) _ good).1 in
      (subst (Around (loads_of f)) (sym o.is) (around_section (loads_of f) o.section room o.lies), ap is_ragged o.is ∙ even)

  in_segments : (r : ℕ × ℕ) → section_ranges (loads_of f) f.sections ≡ [] → Among r (segment_ranges (loads_of f)) → Around (loads_of f) r × (is_ragged r ≡ false)
  in_segments r none m =
      let o = of_segment (loads_of f) r m in
      let s = load_source f.segments o.segment o.among in
      let good = none_passes (is_misshapen_segment f) s.segment f.segments segments s.among in
      let some : 0 < s.segment.memory = subst (λ x. 0 < x.size) s.is o.some in
      let empty : is_empty (section_ranges (loads_of f) f.sections) ≡ true = ap is_empty none in
      let executed : is_executed s.segment ≡ true = sym (ap (λ x. x.flags.execute) s.is) ∙ o.executes in
      let even : is_ragged (segment_range s.segment) ≡ false = rw (empty, eq-eqb s.segment.kind 1 s.kind, lt-ltb 0 s.segment.memory some, executed) at good in
      let range : r ≡ segment_range s.segment = o.is ∙ ap (λ x. (x.address, x.address + x.size)) s.is in
      (record { some = subst (λ t. t.0 < t.1) (sym o.is) (let some = o.some in omega (arith, some)); segment = o.segment; among = o.among; executes = o.executes; from = subst (λ t. o.segment.address ≤ t.0) (sym o.is) (omega arith); to = subst (λ t. t.1 ≤ o.segment.address + o.segment.size) (sym o.is) (omega arith) }, ap is_ragged range ∙ even)

  pub even_range : (r : ℕ × ℕ) → Among r (ranges_of f) → Around (loads_of f) r × (is_ragged r ≡ false)
  even_range r m = by (section_ranges (loads_of f) f.sections) refl m where
    by :
        (rs : List (ℕ × ℕ)) → section_ranges (loads_of f) f.sections ≡ rs → Among r (first_some rs (segment_ranges (loads_of f)))
        → Around (loads_of f) r × (is_ragged r ≡ false)
    by [] e k = in_segments r e k
    by (x ∷ xs) e k = in_sections r (subst (Among r) (sym e) k)

module _ (f : ElfFile) (shape : IsShapely f) where
  pub code_range : (r : ℕ × ℕ) → Among r (ranges_of f) → Around (loads_of f) r × (is_ragged r ≡ false)
  code_range = even_range f shape.sections shape.segments

  -- ---- a code address
  pub code_at : (a : ℕ) → is_code f a ≡ true → CodeAt f a
  code_at a e =
      let p = and_parts (a % 4 == 0) (list_any (λ r. nat_le r.0 a && nat_lt a r.1) (ranges_of f)) e in
      let grain = eqb-true (a % 4) 0 p.0 in
      let x = passing (λ (r : ℕ × ℕ). nat_le r.0 a && nat_lt a r.1) (ranges_of f) p.1 in
      let b = and_parts (nat_le x.member.0 a) (nat_lt a x.member.1) x.passes in
      let even = even_parts x.member (code_range x.member x.among).1 in
      let le = leb-true x.member.0 a b.0 in
      let lt = ltb-true a x.member.1 b.1 in
      record { range = x.member; among = x.among; from = le; to = ends x.member.0 x.member.1 a grain even.0 even.1 le lt; grain = grain } where
        ends : (x y a : ℕ) → a % 4 ≡ 0 → x % 4 ≡ 0 → (y - x) % 4 ≡ 0 → x ≤ a → a < y → a + 4 ≤ y
        ends x y a g h k l m = omega arith

  -- each of its bytes is that of the segment around it
  code_cell : (a : ℕ) (c : CodeAt f a) (i : ℕ) → i < 4 → allows (λ k. k.execute) (get (memory_of (loads_of f)) (wrap (a + i))) ≡ true
  code_cell a c i lt =
      let o = (code_range c.range c.among).0 in
      let fit = shape.loads.fit o.segment o.among in
      let x = c.from in
      let y = c.to in
      let u = o.from in
      let v = o.to in
      let here : wrap (a + i) ≡ a + i = omega (arith, lt, y, v, fit) in
      let h : has o.segment (a + i) ≡ true = has_from o.segment (a + i) (omega (arith, x, u)) (omega (arith, lt, y, v)) in
      let found : cell_among (loads_of f) (a + i) ≡ Some (cell_at o.segment (a + i)) = among_agreed (loads_of f) (a + i) (cell_at o.segment (a + i)) (λ l m g. ap (λ t. cell_at t (a + i)) (shape.loads.alone l o.segment (a + i) m o.among g h)) o.segment o.among h in
      ap (λ q. allows (λ k. k.execute) (get (memory_of (loads_of f)) q)) here
      ∙ ap (allows (λ k. k.execute)) (get_among (loads_of f) (a + i) (all_sized_among (loads_of f) shape.loads.sized) ∙ found)
      ∙ o.executes

  -- so its word is fetched
  pub fetch_word : (a : ℕ) → is_code f a ≡ true → fetched_at (memory_of (loads_of f)) (ranges_of f) a ≡ known_or (word_at f a) (decode_of (word_at f a))
  unfolding fetched_at
  fetch_word a e =
      let c = code_at a e in
      let o = (code_range c.range c.among).0 in
      let fit = shape.loads.fit o.segment o.among in
      let y = c.to in
      let v = o.to in
      let grain : (a % 4 == 0) ≡ true = eq-eqb (a % 4) 0 c.grain in
      let inside : in_range a (ranges_of f) ≡ true = in_any_range (ranges_of f) c.range a c.among c.from c.to in
      let granted : grants (λ k. k.execute) (memory_of (loads_of f)) a 4 ≡ true = grants_from (λ k. k.execute) (memory_of (loads_of f)) a 4 (code_cell a c) in
      let same : number (memory_of (loads_of f)) a 4 ≡ word_at f a = number-among (loads_of f) a 4 (all_sized_among (loads_of f) shape.loads.sized) (omega (arith, y, v, fit)) in
      by (a % 4 == 0) (in_range a (ranges_of f)) (grants (λ k. k.execute) (memory_of (loads_of f)) a 4) grain inside granted (known_or (number (memory_of (loads_of f)) a 4) (decode_of (number (memory_of (loads_of f)) a 4)))
      ∙ ap (λ n. known_or n (decode_of n)) same where
        by : (x y z : Bool) → x ≡ true → y ≡ true → z ≡ true → (v : Fetched) → cond (x && (y && z)) v Refused ≡ v
        by true true true d e f v = refl
        by true true false d e f v = absurd (false≢true f)
        by true false z d e f v = absurd (false≢true e)
        by false y z d e f v = absurd (false≢true d)

  -- what is fetched stands at a code address
  pub fetched_code : (a : ℕ) (i : Ins) → fetched_at (memory_of (loads_of f)) (ranges_of f) a ≡ Known i → is_code f a ≡ true
  unfolding fetched_at
  fetched_code a i e =
      let p = tests_passed (a % 4 == 0) (in_range a (ranges_of f)) (grants (λ k. k.execute) (memory_of (loads_of f)) a 4) (known_or (number (memory_of (loads_of f)) a 4) (decode_of (number (memory_of (loads_of f)) a 4))) i e in
      and_from (a % 4 == 0) (list_any (λ r. nat_le r.0 a && nat_lt a r.1) (ranges_of f)) p.0 (range_has (ranges_of f) a p.1)

  -- ---- instructions
  -- an instruction at a code address
  at_code :
      (a : ℕ) (i : Ins) → (b : Bool) → is_code f a ≡ b → (if b then decode_of (word_at f a) else None) ≡ Some i
      → (is_code f a ≡ true) × (decode_of (word_at f a) ≡ Some i)
  at_code a i true e h = (e, h)
  at_code a i false e h = absurd (cc)

  pub instruction_code : (a : ℕ) (i : Ins) → instruction_at f a ≡ Some i → (is_code f a ≡ true) × (decode_of (word_at f a) ≡ Some i)
  instruction_code a i h = at_code a i (is_code f a) refl h

  -- is what is fetched there
  pub known_instruction : (a : ℕ) (i : Ins) → instruction_at f a ≡ Some i → fetched_at (memory_of (loads_of f)) (ranges_of f) a ≡ Known i
  known_instruction a i h = let p = instruction_code a i h in fetch_word a p.0 ∙ ap (known_or (word_at f a)) p.1
