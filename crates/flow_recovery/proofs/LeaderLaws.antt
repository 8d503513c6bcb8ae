-- What was collected are the leaders.
use Rattle.std.proofs.Common.{◌≡◌, ⊎_elim, ℕ, ◌+◌, ◌*◌, ◌%◌, ◌<◌, ◌^◌, Bool, true, is_some, List, [], map, refl, sym, ap, ◌∙◌, subst}
use Rattle.std.specs.Prelude.{All, AllPairs, ◌==◌, ◌&&◌, ◌||◌, ◌↔◌, IsTrue, nat_lt, filter}
use Rattle.std.specs.List.{list_any}
use Rattle.std.specs.BTreeSet.{BTreeSet}
use Rattle.machine.specs.Sets.{has_address}
use Rattle.std.specs.List.Sorted.{IsPermutation, IsSorted}
use Rattle.std.specs.Ordering.{nat_cmp}
use Rattle.std.proofs.lemmas.List.Sorted.{IsNonDecreasingBy-from_sort, list_any-IsPermutation}
use Rattle.std.proofs.lemmas.Bool.{false≢true, eqb-true, eq-eqb, lt-ltb, and_parts, and_from, or_cases, or_left, or_right}
use Rattle.std.proofs.lemmas.List.Elements.{All-contains}
use Rattle.elf_types.specs.declared.file.Symbol.{Symbol}
use Rattle.elf_types.specs.declared.file.Rela.{Rela}
use Rattle.tests.specs.declared.options.Entries.{Entries}
use Rattle.tests.specs.declared.options.Entries.TheVariants as entries
use Rattle.tests.specs.declared.test.CodeWord.{CodeWord}
use Rattle.tests.specs.declared.test.Test.{Test}
use Rattle.machine.specs.Step.{target, class_of}
use Rattle.tests.specs.Admission.Terms.{is_named, is_relocated, is_named_in, ElfFile}
use Rattle.tests.specs.Admission.Leaders.{has_target, is_end, is_indirect, Begins, Entry, Target, After, Named, Reached, Even, IsLeader, HasIndirect}
use Rattle.tests.specs.Admission.Reached.{is_reached}
use Rattle.tests.specs.Admission.CodeWords.{is_code}
use Rattle.tests.specs.Admission.Test.{AreCodeWords, IsTestOf}
use Rattle.machine.proofs.Lemmas.{among_of, contains_of, passing, any_passing, among-filter, among-kept}
use Rattle.machine.specs.Members.{Among}
use Rattle.qed_model.specs.Weave.Blocks.{IsEntered, Options}
use Rattle.flow_recovery.specs.Sets.{lists, has_word_at, Adds, AddsAt}
use Rattle.qed_model.proofs.Lemmas.{reached_by}
use Rattle.flow_recovery.specs.Words.{targets, ends_before, begins_by, is_begun, is_chosen, is_entered, is_even, of_code}
use Rattle.flow_recovery.specs.Leaders.{AreLeaders}
use Rattle.flow_recovery.proofs.SetLaws.{adds_first, adds_then, at_first}
use Rattle.flow_recovery.proofs.CodeLaws.{code_word, standing_word, stands_word}
use Rattle.flow_recovery.proofs.OrderLaws.{pairs_of, rising, listed, among_listed, filter_alike, kept_lists, of_code_is}

-- ---- what was collected
-- one step behind another, starting from an empty set
pub collected :
    (f : ElfFile) (o : Options) (t : Test) (words : List CodeWord) (symbols : List Symbol) (relas : List Rela) (s u v w x : List ℕ)
    → words ≡ t.code → symbols ≡ f.symbols → relas ≡ f.relas
    → s ≡ [] → Adds s u (λ a. t.entry == a) → Adds u v (λ a. list_any (λ c. begins_by o c a) words) → Adds v w (is_named symbols) → Adds w x (is_relocated symbols relas)
    → (a : ℕ) → lists x a ≡ is_begun o t.entry t.code f.symbols f.relas a
collected f o t words symbols relas s u v w x code by_symbols by_relas empty first begun named relocated a =
    adds_first s x (is_begun o t.entry words symbols relas) empty (adds_then s u x _ _ first (adds_then u v x _ _ begun (adds_then v w x _ _ named relocated))) a
    ∙ (λ i. is_begun o t.entry (code i) (by_symbols i) (by_relas i) a)

-- ---- JALR
abbrev has_jalr : List CodeWord → Bool
has_jalr code = list_any (λ c. is_indirect (class_of c.ins.kind)) code

pub indirect_is : (f : ElfFile) (code : List CodeWord) (b : Bool) → AreCodeWords f code → b ≡ list_any (λ c. is_indirect (class_of c.ins.kind)) code → IsTrue b ↔ HasIndirect f
indirect_is f code b words e = (
  λ h. let p = passing (λ (c : CodeWord). is_indirect (class_of c.ins.kind)) code (sym e ∙ h) in (p.member.at, stands_word f code words is_indirect p.member p.among p.passes),
  λ h. let w = standing_word f code words is_indirect h.0 h.1 in e ∙ any_passing (λ (c : CodeWord). is_indirect (class_of c.ins.kind)) w.word code w.among w.class,
)

-- ---- what begins a block
only : (e : Entries) → is_chosen e ≡ true → e ≡ entries.Reached
only entries.All e = absurd (false≢true e)
only entries.Reached e = refl

module _ (f : ElfFile) (o : Options) (t : Test) (told : IsTestOf f o t) where
  abbrev code : List CodeWord
  code = t.code

  abbrev words : AreCodeWords f code
  words = told.code

  -- an address begins a block by the entry, the words, the symbols or the relocations
  abbrev is_named_by : ℕ → Bool
  is_named_by a = is_begun o t.entry code f.symbols f.relas a

  -- an address begins a block for one of these reasons, or because it is reached
  abbrev is_found : ℕ → Bool
  is_found a = is_named_by a || is_entered f o t a

  by_even : (c : CodeWord) (a : ℕ) → is_even o c a ≡ true → Begins f o a
  by_even c a e =
      let p = and_parts (is_some o.lean) ((c.at % (4 * o.inst_max) == 0) && (c.at == a)) e in
      let q = and_parts (c.at % (4 * o.inst_max) == 0) (c.at == a) p.1 in
      Even p.0 (ap (λ x. x % (4 * o.inst_max)) (sym (eqb-true c.at a q.1)) ∙ eqb-true (c.at % (4 * o.inst_max)) 0 q.0)

  by_word : (c : CodeWord) (a : ℕ) → Among c code → begins_by o c a ≡ true → Begins f o a
  by_word c a m e =
      ⊎_elim
      (λ h.
      let p = and_parts (has_target (class_of c.ins.kind)) (target c.ins c.at == a) h in
      Target c.at (stands_word f code words has_target c m p.0) (sym (eqb-true (target c.ins c.at) a p.1)))
      (λ h.
      ⊎_elim
      (λ k.
      let p = and_parts (is_end (class_of c.ins.kind)) (nat_lt a (2 ^ 64) && (c.at + 4 == a)) k in
      let q = and_parts (nat_lt a (2 ^ 64)) (c.at + 4 == a) p.1 in
      After c.at (stands_word f code words is_end c m p.0) (sym (eqb-true (c.at + 4) a q.1)))
      (by_even c a)
      (or_cases (ends_before c a) (is_even o c a) h))
      (or_cases (targets c a) (ends_before c a || is_even o c a) e)

  by_name : (a : ℕ) → is_named_by a ≡ true → Begins f o a
  by_name a e =
      ⊎_elim
      (λ h. Entry (sym (eqb-true t.entry a h) ∙ told.entry))
      (λ h.
      ⊎_elim
      (λ k. let p = passing (λ c. begins_by o c a) code k in by_word p.member a p.among p.passes)
      (λ k. Named k)
      (or_cases (list_any (λ c. begins_by o c a) code) (is_named_in f a) h))
      (or_cases (t.entry == a) (list_any (λ c. begins_by o c a) code || is_named_in f a) e)

  pub entered : (a : ℕ) → (is_entered f o t a ≡ true) ↔ IsEntered f o a
  entered a = (
    λ e.
        let p = and_parts (is_chosen o.entries) (has_jalr code && is_reached f t a) e in
        let q = and_parts (has_jalr code) (is_reached f t a) p.1 in
        (only o.entries p.0, (indirect_is f code (has_jalr code) words refl).0 q.0, record { test = t; told = told; reached = q.1 }),
    λ h.
        and_from (is_chosen o.entries) (has_jalr code && is_reached f t a) (ap is_chosen h.0)
        (and_from (has_jalr code) (is_reached f t a) ((indirect_is f code (has_jalr code) words refl).1 h.1) (reached_by f o t a told h.2)),
  )

  -- at each code address a word stands
  code_stands : (a : ℕ) → is_code f a ≡ true → has_word_at code a ≡ true
  code_stands a e = let all = map (λ (c : CodeWord). c.at) code in listed all a (among_of a all ((words.addresses.all a).1 e))

  -- the reached addresses, as a set
  pub entered_set : (set : BTreeSet ℕ) (u v : List ℕ) → u ≡ [] → AddsAt code u v (is_entered f o t) → ((a : ℕ) → has_address set a ≡ lists v a) → (a : ℕ) → is_code f a ≡ true → IsTrue (has_address set a) ↔ IsEntered f o a
  entered_set set u v empty adds set_is a e =
      let is = set_is a ∙ at_first code u v (is_entered f o t) empty adds a (code_stands a e) in
      (λ h. (entered a).0 (sym is ∙ h), λ h. is ∙ (entered a).1 h)

  by_reach : (a : ℕ) → is_entered f o t a ≡ true → Begins f o a
  by_reach a e = let h = (entered a).0 e in Reached h.0 h.1 h.2

  begun : (a : ℕ) → is_found a ≡ true → Begins f o a
  begun a e = ⊎_elim (by_name a) (by_reach a) (or_cases (is_named_by a) (is_entered f o t a) e)

  -- ---- from leaders to what was collected
  by_any : (c : CodeWord) (a : ℕ) → Among c code → begins_by o c a ≡ true → is_found a ≡ true
  by_any c a m e =
      or_left (is_named_by a) (is_entered f o t a)
      (or_right (t.entry == a) (list_any (λ c. begins_by o c a) code || is_named_in f a) (or_left (list_any (λ c. begins_by o c a) code) (is_named_in f a) (any_passing (λ c. begins_by o c a) c code m e)))

  found : (a : ℕ) → a < 2 ^ 64 → is_code f a ≡ true → Begins f o a → is_found a ≡ true
  found a lt has_word_at (Entry e) =
      or_left (is_named_by a) (is_entered f o t a) (or_left (t.entry == a) (list_any (λ c. begins_by o c a) code || is_named_in f a) (eq-eqb t.entry a (told.entry ∙ sym e)))
  found a lt has_word_at (Target i s e) =
      let w = standing_word f code words has_target i s in
      let is : target w.word.ins w.word.at ≡ a = ap (λ x. target x w.word.at) (sym w.instruction) ∙ ap (λ x. target s.instruction x) (sym w.at) ∙ sym e in
      by_any w.word a w.among (or_left (targets w.word a) (ends_before w.word a || is_even o w.word a) (and_from (has_target (class_of w.word.ins.kind)) (target w.word.ins w.word.at == a) w.class (eq-eqb (target w.word.ins w.word.at) a is)))
  found a lt has_word_at (After i s e) =
      let w = standing_word f code words is_end i s in
      let is : w.word.at + 4 ≡ a = ap (λ x. x + 4) (sym w.at) ∙ sym e in
      by_any w.word a w.among
      (or_right (targets w.word a) (ends_before w.word a || is_even o w.word a)
      (or_left (ends_before w.word a) (is_even o w.word a)
      (and_from (is_end (class_of w.word.ins.kind)) (nat_lt a (2 ^ 64) && (w.word.at + 4 == a)) w.class
      (and_from (nat_lt a (2 ^ 64)) (w.word.at + 4 == a) (lt-ltb a (2 ^ 64) lt) (eq-eqb (w.word.at + 4) a is)))))
  found a lt has_word_at (Named e) =
      or_left (is_named_by a) (is_entered f o t a) (or_right (t.entry == a) (list_any (λ c. begins_by o c a) code || is_named_in f a) (or_right (list_any (λ c. begins_by o c a) code) (is_named_in f a) e))
  found a lt has_word_at (Reached e h r) = or_right (is_named_by a) (is_entered f o t a) ((entered a).1 (e, h, r))
  found a lt has_word_at (Even lean multiple) =
      let w = code_word f code words a has_word_at in
      let at = w.word.at in
      by_any w.word a w.among
      (or_right (targets w.word a) (ends_before w.word a || is_even o w.word a)
      (or_right (ends_before w.word a) (is_even o w.word a)
      (and_from (is_some o.lean) ((at % (4 * o.inst_max) == 0) && (at == a)) lean
      (and_from (at % (4 * o.inst_max) == 0) (at == a) (eq-eqb (at % (4 * o.inst_max)) 0 (ap (λ x. x % (4 * o.inst_max)) (sym w.at) ∙ multiple)) (eq-eqb at a (sym w.at))))))

  -- ---- the addresses of code
  module _ (small : All (λ c. c.at < 2 ^ 64) code) where
    abbrev keeps : ℕ → Bool
    keeps a = is_code f a && is_found a

    leader : (a : ℕ) → keeps a ≡ true → IsLeader f o a
    leader a e = let p = and_parts (is_code f a) (is_found a) e in record { code = p.0; begins = begun a p.1 }

    kept : (a : ℕ) → IsLeader f o a → keeps a ≡ true
    kept a l =
        let w = code_word f code words a l.code in
        let lt : a < 2 ^ 64 = subst (λ x. x < 2 ^ 64) (sym w.at) (All-contains (λ (c : CodeWord). c.at < 2 ^ 64) code w.word small (contains_of w.word code w.among)) in
        and_from (is_code f a) (is_found a) l.code (found a lt l.code l.begins)

    abbrev addresses : List ℕ
    addresses = map (λ (c : CodeWord). c.at) code

    stand : (a : ℕ) → Among a addresses → is_code f a ≡ true
    stand a m = (words.addresses.all a).0 (contains_of a addresses m)

    -- the leaders, from what was listed
    leaders_are : (v leaders : List ℕ) → ((a : ℕ) → Among a addresses → lists v a ≡ is_found a) → leaders ≡ filter (lists v) addresses → AreLeaders f o code leaders
    leaders_are v leaders listed_are is =
        let kept_are : leaders ≡ filter keeps addresses =
        is ∙ filter_alike (lists v) keeps addresses (λ a m. listed_are a m ∙ ap (λ b. b && is_found a) (sym (stand a m))) in
        record {
          exact = λ a. (
            λ e. leader a (among-kept keeps a addresses (among_listed (filter keeps addresses) a (ap (λ xs. lists xs a) (sym kept_are) ∙ e))).1,
            λ l. ap (λ xs. lists xs a) kept_are ∙ listed (filter keeps addresses) a (among-filter keeps a addresses (kept a l) (stands_at a l)),
          );
          along = kept_are ∙ filter_alike keeps (lists leaders) addresses (λ a m. sym (ap (λ xs. lists xs a) kept_are ∙ kept_lists keeps addresses a m));
        } where
          stands_at : (a : ℕ) → IsLeader f o a → Among a addresses
          stands_at a l = among_of a addresses ((words.addresses.all a).1 l.code)

-- the leaders, for words that are those of the test
pub leaders_found :
    (f : ElfFile) (o : Options) (t : Test) (lent : List CodeWord) (u v leaders : List ℕ)
    → lent ≡ t.code → IsTestOf f o t → All (λ c. c.at < 2 ^ 64) t.code
    → ((a : ℕ) → lists u a ≡ is_begun o t.entry t.code f.symbols f.relas a) → AddsAt t.code u v (is_entered f o t)
    → (AllPairs (λ a b. a < b) (map (λ c. c.at) lent) → leaders ≡ filter (lists v) (map (λ c. c.at) lent)) → AreLeaders f o t.code leaders
leaders_found f o t lent u v leaders code told small named entered kept =
    leaders_are f o t told small v leaders (λ a m. entered.each a (listed (map (λ (c : CodeWord). c.at) t.code) a m) ∙ ap (λ b. b || is_entered f o t a) (named a))
    ((subst (λ (cs : List CodeWord). AllPairs (λ a b. a < b) (map (λ c. c.at) cs) → leaders ≡ filter (lists v) (map (λ c. c.at) cs)) code kept) told.code.addresses.ascend)

-- a sorted list, along the words
pub begun_is : (list sorted slice kept : List ℕ) (words : List CodeWord) → IsPermutation list sorted → IsSorted nat_cmp sorted → slice ≡ sorted → kept ≡ of_code slice words → AllPairs (λ a b. a < b) (map (λ c. c.at) words) → kept ≡ filter (lists list) (map (λ c. c.at) words)
begun_is list sorted slice kept words moved order lent is ascend =
    let addresses = map (λ (c : CodeWord). c.at) words in
    is
    ∙ ap (λ xs. of_code xs words) lent
    ∙ of_code_is sorted words (rising sorted (IsNonDecreasingBy-from_sort (λ x. x) sorted order)) (pairs_of (λ a b. a < b) addresses ascend)
    ∙ filter_alike (lists sorted) (lists list) addresses (λ a m. sym (list_any-IsPermutation (λ b. b == a) list sorted moved))
