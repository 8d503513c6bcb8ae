-- The first word of a part that is at fault; words without a byte of the file are at fault by no rule.
use Rattle.std.proofs.Common.{◌≡◌, ⊎_elim, ℕ, ◌+◌, ◌*◌, ◌/◌, ◌<◌, ◌≤◌, true, false, List, [], ◌∷◌, length, ◌||◌, Option, Some, None, refl, sym, ap, subst, ◌∙◌, arith}
use Rattle.std.specs.Prelude.{pos}
use Rattle.std.specs.Option.{option_map, option_or}
use Rattle.std.proofs.lemmas.List.{get_or_past}
use Rattle.std.proofs.lemmas.Bool.{cases_lt, or_parts}
use Rattle.std.proofs.lemmas.Option.{same_Some}
use Rattle.machine.specs.Table.{ins, ins_of, decode_of, Ins, Illegal}
use Rattle.machine.specs.Below.{first_below}
use Rattle.machine.proofs.Lemmas.{first_found, first_none, first_least, each_fails}
use Rattle.test_admission.specs.declared.rules.CodeRule.{CodeRule}
use Rattle.test_admission.specs.declared.rules.CodeRule.TheVariants as rule
use Rattle.test_admission.specs.Stretches.{Part}
use Rattle.tests.specs.Words.{word_in}
use Rattle.test_admission.specs.Faults.{faults, is_at_fault, faults_at, placed_word, filled, first_in, first_among}

-- ---- the zero word
zero_decoded : decode_of 0 ≡ Some (ins Illegal 0 0 0 (pos 0))
unfolding decode_of ins_of
zero_decoded = refl

zero_passes : (r : CodeRule) (a : ℕ) → faults r a (Some (ins Illegal 0 0 0 (pos 0))) ≡ false
zero_passes rule.Unknown a = refl
zero_passes o a = refl

zero_word : (bs : List ℕ) (k : ℕ) → length bs ≤ k → word_in bs k ≡ 0
zero_word bs k h = rw (get_or_past bs k 0 h, get_or_past bs (k + 1) 0 (omega (arith, h)), get_or_past bs (k + 2) 0 (omega (arith, h)), get_or_past bs (k + 3) 0 (omega (arith, h))) refl

empty_passes : (r : CodeRule) (p : Part) (k : ℕ) → length p.bytes ≤ 4 * k → faults_at r p k ≡ false
empty_passes r p k h = ap (is_at_fault r (p.start + 4 * k)) (zero_word p.bytes (4 * k) h) ∙ ap (faults r (p.start + 4 * k)) zero_decoded ∙ zero_passes r (p.start + 4 * k)

-- ---- what a loop over the words finds
found_in : (r : CodeRule) (p : Part) (k : ℕ) → k < filled p → faults_at r p k ≡ true → ((j : ℕ) → j < k → faults_at r p j ≡ false) → Some (p.start + 4 * k, word_in p.bytes (4 * k)) ≡ first_in r p
found_in r p k lt h before = ap (option_map (placed_word p)) (sym (first_found (p.size / 4) (faults_at r p) k (omega (arith, lt)) h before))

-- what such a loop finds, of a word that was read
pub found_word : (r : CodeRule) (p : Part) (k n word : ℕ) → word ≡ word_in p.bytes (4 * k) → k < n → n ≡ filled p → is_at_fault r (p.start + 4 * k) word ≡ true → ((j : ℕ) → j < k → faults_at r p j ≡ false) → Some (p.start + 4 * k, word) ≡ first_in r p
found_word r p k n word is lt e h before = ap (λ x. Some (p.start + 4 * k, x)) is ∙ found_in r p k (omega (arith, lt, e)) (sym (ap (is_at_fault r (p.start + 4 * k)) is) ∙ h) before

pub passed_word : (r : CodeRule) (p : Part) (k word : ℕ) → word ≡ word_in p.bytes (4 * k) → is_at_fault r (p.start + 4 * k) word ≡ false → ((j : ℕ) → j < k → faults_at r p j ≡ false) → (j : ℕ) → j < k + 1 → faults_at r p j ≡ false
passed_word r p k word is h before j lt = ⊎_elim (before j) (λ le. let e : k ≡ j = omega (arith, le, lt) in ap (faults_at r p) (sym e) ∙ sym (ap (is_at_fault r (p.start + 4 * k)) is) ∙ h) (cases_lt j k)

pub none_in : (r : CodeRule) (p : Part) (k : ℕ) → filled p ≤ k → ((j : ℕ) → j < k → faults_at r p j ≡ false) → None ≡ first_in r p
none_in r p k le none =
    ap (option_map (placed_word p)) (sym (first_none (p.size / 4) (faults_at r p)
    (λ j lt. ⊎_elim (none j) (λ more. empty_passes r p j (omega (arith, le, lt, more))) (cases_lt j k))))

-- where none of a part is at fault, each word passes
pub none_case : (p : Part) (o : Option ℕ) → option_map (placed_word p) o ≡ None → o ≡ None
none_case p None e = refl
none_case p (Some k) e = absurd (cc)

pub each_passes : (r : CodeRule) (p : Part) (k : ℕ) → first_in r p ≡ None → k < p.size / 4 → faults_at r p k ≡ false
each_passes r p k e lt = each_fails (p.size / 4) (faults_at r p) (none_case p (first_below (p.size / 4) (faults_at r p)) e) k lt

-- if no part is at fault, neither is the first, nor any of the others
pub none_split : (r : CodeRule) (p : Part) (ps : List Part) → first_among r (p ∷ ps) ≡ None → (first_in r p ≡ None) × (first_among r ps ≡ None)
none_split r p ps e = by (first_in r p) refl e where
  by : (o : Option (ℕ × ℕ)) → first_in r p ≡ o → option_or o (first_among r ps) ≡ None → (first_in r p ≡ None) × (first_among r ps ≡ None)
  by None x g = (x, g)
  by (Some d) x g = absurd (cc)

-- where a rule passes all that another passes, it finds none where the other finds none
none_less :
    (q r : CodeRule) → ((a : ℕ) (x : Option Ins) → faults q a x ≡ false → faults r a x ≡ false)
    → (ps : List Part) → first_among q ps ≡ None → first_among r ps ≡ None
none_less q r less [] e = refl
none_less q r less (p ∷ ps) e =
    let s = none_split q p ps e in
    let here : first_in r p ≡ None =
    ap (option_map (placed_word p)) (first_none (p.size / 4) (faults_at r p) (λ j lt. less (p.start + 4 * j) (decode_of (word_in p.bytes (4 * j))) (each_passes q p j s.0 lt))) in
    ap (λ x. option_or x (first_among r ps)) here ∙ none_less q r less ps s.1

-- what is at fault by none of the rules is at fault by no one of them
each_rule : (base a : ℕ) (x : Option Ins) → faults (rule.Any base) a x ≡ false
    → (faults rule.Unknown a x ≡ false) × (faults rule.Registers a x ≡ false) × (faults rule.Breakpoint a x ≡ false) × (faults (rule.Constant base) a x ≡ false)
each_rule base a x e =
    let p = or_parts (faults rule.Unknown a x) (faults rule.Registers a x || (faults rule.Breakpoint a x || faults (rule.Constant base) a x)) e in
    let q = or_parts (faults rule.Registers a x) (faults rule.Breakpoint a x || faults (rule.Constant base) a x) p.1 in
    let r = or_parts (faults rule.Breakpoint a x) (faults (rule.Constant base) a x) q.1 in
    (p.0, q.0, r.0, r.1)

pub none_each : (base : ℕ) (ps : List Part) → first_among (rule.Any base) ps ≡ None
    → (first_among rule.Unknown ps ≡ None) × (first_among rule.Registers ps ≡ None) × (first_among rule.Breakpoint ps ≡ None) × (first_among (rule.Constant base) ps ≡ None)
none_each base ps h = (
  none_less (rule.Any base) rule.Unknown (λ a x e. (each_rule base a x e).0) ps h,
  none_less (rule.Any base) rule.Registers (λ a x e. (each_rule base a x e).1) ps h,
  none_less (rule.Any base) rule.Breakpoint (λ a x e. (each_rule base a x e).2) ps h,
  none_less (rule.Any base) (rule.Constant base) (λ a x e. (each_rule base a x e).3) ps h,
)

-- ---- what is found is at fault
hit_in : (r : CodeRule) (p : Part) (c : ℕ × ℕ) (o : Option ℕ) → first_below (p.size / 4) (faults_at r p) ≡ o → option_map (placed_word p) o ≡ Some c → is_at_fault r c.0 c.1 ≡ true
hit_in r p c None e h = absurd (cc)
hit_in r p c (Some k) e h = subst (λ x. is_at_fault r x.0 x.1 ≡ true) (same_Some (placed_word p k) c h) (first_least (p.size / 4) (faults_at r p) k e).passes

pub hit_among : (r : CodeRule) (ps : List Part) (c : ℕ × ℕ) → first_among r ps ≡ Some c → is_at_fault r c.0 c.1 ≡ true
hit_among r [] c h = absurd (cc)
hit_among r (p ∷ ps) c h = by (first_in r p) refl h (hit_among r ps c) where
  by : (o : Option (ℕ × ℕ)) → first_in r p ≡ o → option_or o (first_among r ps) ≡ Some c → (first_among r ps ≡ Some c → is_at_fault r c.0 c.1 ≡ true) → is_at_fault r c.0 c.1 ≡ true
  by None e x rest = rest x
  by (Some d) e x rest = hit_in r p c (first_below (p.size / 4) (faults_at r p)) refl (e ∙ x)
