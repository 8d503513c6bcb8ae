-- The items of the lean form of a test have words.
use Rattle.std.proofs.Common.{◌≡◌, ℕ, suc, ◌+◌, ◌-◌, ◌*◌, ◌%◌, ◌^◌, ◌<◌, ◌≤◌, ◌⊎◌, inl, inr, ⊎_elim, Bool, true, false, cond, List, [], ◌∷◌, ◌++◌, refl, sym, ◌∙◌, arith}
use Rattle.std.specs.Prelude.{◌==◌, ℤ, pos, negsuc, neg_ℤ, nat_lt, nat_le}
use Rattle.std.specs.List.{list_all}
use Rattle.std.proofs.lemmas.Bool.{and_parts, cases_lt, le-leb, lt-ltb, ltb-true, ltb-false, or_cases, or_left, or_right, leb-true}
use Rattle.rv_isa.specs.declared.class.Class.TheVariants as class
use Rattle.qed_model.specs.declared.item.Item.{Item}
use Rattle.qed_model.specs.declared.item.Item.TheVariants.{Plain, Constant, Go}
use Rattle.machine.specs.Step.{target, Kind, Ins, Class, class_of}
use Rattle.machine.specs.Table.{ins, fits_signed, encode_of, word_of, Lui, Auipc, Addi, Andi, Slli, Srli, Add, Sub, Beq, Bge, Jal, Jalr, Lw}
use Rattle.machine.specs.Values.{wrapped}
use Rattle.machine.specs.Offsets.{distance_between, upper_part, lower_part}
use Rattle.qed_model.specs.Weave.Placed.{sum_of_sizes}
use Rattle.qed_model.specs.Weave.Sequences.{Form, End, Falls, Stops, fired_check, guard, check_sign, compare, visit, sweep, before_end, links, zero_from, LAST_ORIGINAL, ORIGINALS, DISTANCE, CURSOR, SIGNATURE, TEMPORARY, SPARE, pair}
use Rattle.qed_model.specs.Weave.Lean.{is_short, turn_by, turn, goes, check_distance, look_up, look_again, first_word, called, begun, done, check, guard_address, guard_value, mirrored_store, opposite, check_way, taken, take_target, leave, leave_as, begin, named, tick, enter}
use Rattle.qed_model.specs.Weave.LeanCode.{store_part}
use Rattle.qed_model.proofs.Lemmas.{is_within, near_constant, has_word, is_some-some_if, lui_word, addi_word, pair_reg, add_word, mirror_store_word, branch_word, branch_imm, jump_imm, leap_imm}
use Rattle.weave_core.proofs.Lemmas.{down, up, both_all, if_all, near, IsNear, KnownEnd, IsKnownEnd, InImage}
use Rattle.weave_core.proofs.TestWords.{Known}
use Rattle.weave_core.proofs.TestWords as words
use Rattle.lean.proofs.Weave.Ways.{opposite_is}

-- ---- words that differ in one field
-- LUI takes what AUIPC takes
lui_as : (r : ℕ) (z : ℤ) → has_word (ins Auipc r 0 0 z) ≡ true → has_word (ins Lui r 0 0 z) ≡ true
unfolding encode_of word_of
lui_as r z h = is_some-some_if _ _ ∙ sym (is_some-some_if _ _) ∙ h

-- ---- distances
-- a short distance fits an immediate
short_fits : (a t : ℕ) → is_short (distance_between a t) ≡ true → fits_signed 12 (distance_between a t) ≡ true
short_fits a t h = by ((t + (2 ^ 64 - a)) % 2 ^ 64) (omega arith) (nat_lt ((t + (2 ^ 64 - a)) % 2 ^ 64) (2 ^ 63)) refl h where
  by :
      (x : ℕ) → x < 2 ^ 64 → (c : Bool) → nat_lt x (2 ^ 63) ≡ c → nat_lt ((wrapped (cond c (pos x) (negsuc (2 ^ 64 - suc x))) + 2048) % 2 ^ 64) 4096 ≡ true
      → fits_signed 12 (cond c (pos x) (negsuc (2 ^ 64 - suc x))) ≡ true
  by x lt true e h = let k = ltb-true ((x % 2 ^ 64 + 2048) % 2 ^ 64) 4096 h in let l = ltb-true x (2 ^ 63) e in lt-ltb x 2048 (omega (arith, k, l, lt))
  by x lt false e h = let g = ltb-false x (2 ^ 63) e in let k = ltb-true ((wrapped (negsuc (2 ^ 64 - suc x)) + 2048) % 2 ^ 64) 4096 h in lt-ltb (2 ^ 64 - suc x) 2048 (omega (arith, k, lt, g))

-- how far an address is from another, if it is near the new code behind both
pub nearer :
    (a at t : ℕ) → a ≤ at → at ≤ a + 1610612736 → at < 2 ^ 63 → t < 2 ^ 64 → is_within at down up t ≡ true → is_within a 2147481600 2147481599 t ≡ true
nearer a at t le few top lt h =
    let x = (t + (2 ^ 64 - at)) % 2 ^ 64 in
    let y = (t + (2 ^ 64 - a)) % 2 ^ 64 in
    ⊎_elim
    (λ u. let k = leb-true x up u in or_left (nat_le y 2147481599) (nat_le (2 ^ 64 - 2147481600) y) (le-leb y 2147481599 (omega (arith, k, le, few, top, lt))))
    (λ u.
    let k = leb-true (2 ^ 64 - down) x u in
    ⊎_elim
    (λ z. or_left (nat_le y 2147481599) (nat_le (2 ^ 64 - 2147481600) y) (le-leb y 2147481599 (omega (arith, z))))
    (λ z. or_right (nat_le y 2147481599) (nat_le (2 ^ 64 - 2147481600) y) (le-leb (2 ^ 64 - 2147481600) y (omega (arith, k, z, le, few, top, lt))))
    (cases_lt y 2147481600))
    (or_cases (nat_le x up) (nat_le (2 ^ 64 - down) x) h)

-- the bytes of a jump to an entry
goes_size : (a t : ℕ) → (sum_of_sizes false (goes a t) ≡ 4) ⊎ ((sum_of_sizes false (goes a t) ≡ 8) ⊎ (sum_of_sizes false (goes a t) ≡ 16))
goes_size a t = by (a == t) (is_short (distance_between a t)) where
  by :
      (b c : Bool)
      → let turn = cond b [] (cond c (Plain (ins Addi SIGNATURE SIGNATURE 0 (distance_between a t)) ∷ []) (Plain (ins Lui TEMPORARY 0 0 (upper_part (distance_between a t))) ∷ Plain (ins Addi TEMPORARY TEMPORARY 0 (lower_part (distance_between a t))) ∷ Plain (ins Add SIGNATURE SIGNATURE TEMPORARY (pos 0)) ∷ [])) in
      (sum_of_sizes false (turn ++ (Go t ∷ [])) ≡ 4) ⊎ ((sum_of_sizes false (turn ++ (Go t ∷ [])) ≡ 8) ⊎ (sum_of_sizes false (turn ++ (Go t ∷ [])) ≡ 16))
  by true c = inl refl
  by false true = inr (inl refl)
  by false false = inr (inr refl)

module _ (at base d : ℕ) (at_is : at ≡ base + 3 * d) (top : base + 3 * d + 134217728 ≤ 2 ^ 63) (small : d ≤ 536870912) where
  abbrev near_code : Item → Bool
  near_code = near at base d at_is top small

  abbrev Nearby : ℕ → Type 0
  Nearby v = IsNear at base d at_is top small v

  plain : (i : Ins) (rest : List Item) → has_word i ≡ true → list_all near_code rest ≡ true → list_all near_code (Plain i ∷ rest) ≡ true
  plain i rest a b = words.plain at base d at_is top small i rest a b

  sets : (r v : ℕ) (rest : List Item) → r < 32 → Nearby v → list_all near_code rest ≡ true → list_all near_code (Constant r v ∷ rest) ≡ true
  sets r v rest l h b = words.sets at base d at_is top small r v rest l h b

  place : (v : ℕ) → base ≤ v → v ≤ base + d → Nearby v
  place v a b = words.place_near at base d at_is top small v a b

  -- ---- the signature
  long_turn : (a t : ℕ) → base ≤ a → a ≤ base + d → Nearby t → list_all near_code (Plain (ins Lui TEMPORARY 0 0 (upper_part (distance_between a t))) ∷ Plain (ins Addi TEMPORARY TEMPORARY 0 (lower_part (distance_between a t))) ∷ Plain (ins Add SIGNATURE SIGNATURE TEMPORARY (pos 0)) ∷ []) ≡ true
  long_turn a t low high n =
      let p = and_parts (nat_lt t (2 ^ 64)) (is_within at down up t) n in
      let lt = ltb-true t (2 ^ 64) p.0 in
      let w = nearer a at t (omega (arith, at_is, high)) (omega (arith, at_is, low, small)) (omega (arith, at_is, top)) lt p.1 in
      let both = near_constant 30 a a t 2147481600 2147481599 0 (omega arith) (omega arith) (omega arith) (omega (arith, high, top)) lt (omega arith) (omega arith) w in
      let last : List Item = Plain (ins Add SIGNATURE SIGNATURE TEMPORARY (pos 0)) ∷ [] in
      plain (ins Lui TEMPORARY 0 0 (upper_part (distance_between a t))) (Plain (ins Addi TEMPORARY TEMPORARY 0 (lower_part (distance_between a t))) ∷ last) (lui_as 30 (upper_part (distance_between a t)) both.0)
      (plain (ins Addi TEMPORARY TEMPORARY 0 (lower_part (distance_between a t))) last both.1 (plain (ins Add SIGNATURE SIGNATURE TEMPORARY (pos 0)) [] (add_word 16 16 30 refl refl refl) refl))

  turn_near : (a t : ℕ) → base ≤ a → a ≤ base + d → Nearby t → list_all near_code (turn a t) ≡ true
  turn_near a t low high n =
      if_all near_code (a == t) [] (turn_by (distance_between a t)) (λ e. refl)
      (λ e. if_all near_code (is_short (distance_between a t)) (Plain (ins Addi SIGNATURE SIGNATURE 0 (distance_between a t)) ∷ []) _ (λ s. plain (ins Addi SIGNATURE SIGNATURE 0 (distance_between a t)) [] (addi_word 16 16 (distance_between a t) (omega arith) (omega arith) (short_fits a t s)) refl) (λ s. long_turn a t low high n))

  goes_near : (a t : ℕ) → base ≤ a → a ≤ base + d → Nearby t → list_all near_code (goes a t) ≡ true
  goes_near a t low high n = both_all near_code (turn a t) (Go t ∷ []) (turn_near a t low high n) refl

  -- ---- the check, and what runs first
  look_near : list_all near_code (look_up SIGNATURE) ≡ true
  unfolding encode_of word_of
  look_near = refl

  look_target : list_all near_code (look_up TEMPORARY) ≡ true
  unfolding encode_of word_of
  look_target = refl

  called_near : list_all near_code called ≡ true
  unfolding encode_of word_of
  called_near = refl

  -- the distance is a multiple of a page
  distance_word : (r : ℕ) → r < 32 → d % 4096 ≡ 0 → has_word (ins Lui r 0 0 (pos d)) ≡ true
  distance_word r less grain = lui_word r d less grain (omega (arith, small))

  abbrev distance_check : List Item
  distance_check = Plain (ins Beq 0 DISTANCE TEMPORARY (pos 8)) ∷ fired_check ∷ []

  distance_words : list_all near_code distance_check ≡ true
  unfolding encode_of word_of
  distance_words = refl

  distance_near : d % 4096 ≡ 0 → list_all near_code (check_distance d) ≡ true
  distance_near grain = plain (ins Lui TEMPORARY 0 0 (pos d)) distance_check (distance_word 30 (omega arith) grain) distance_words

  -- what stands before and behind the distance
  abbrev again_front : List Item
  again_front = Plain (ins Add SPARE DISTANCE DISTANCE (pos 0)) ∷ Plain (ins Add SPARE SPARE SIGNATURE (pos 0)) ∷ Plain (ins Lw DISTANCE SPARE 0 (pos 0)) ∷ Plain (ins Add SPARE SPARE DISTANCE (pos 0)) ∷ []

  abbrev again_last : List Item
  again_last = Plain (ins Beq 0 TEMPORARY SPARE (pos 8)) ∷ fired_check ∷ Plain (ins Jalr 0 TEMPORARY 0 (pos 0)) ∷ []

  again_words : (list_all near_code again_front ≡ true) × (list_all near_code again_last ≡ true)
  unfolding encode_of word_of
  again_words = (refl, refl)

  again_near : d % 4096 ≡ 0 → list_all near_code (look_again d) ≡ true
  again_near grain = both_all near_code again_front (Plain (ins Lui DISTANCE 0 0 (pos d)) ∷ again_last) again_words.0 (plain (ins Lui DISTANCE 0 0 (pos d)) again_last (distance_word 14 (omega arith) grain) again_words.1)

  begun_near : (first : ℕ) → Nearby first → list_all near_code (begun first) ≡ true
  unfolding encode_of word_of
  begun_near first n =
      let last = Plain (ins Add CURSOR CURSOR TEMPORARY (pos 0)) ∷ [] in
      plain (ins Srli CURSOR CURSOR 0 (pos 12)) (Constant TEMPORARY first ∷ last) refl (sets 30 first last (omega arith) n refl)

  abbrev done_front : List Item
  done_front = Plain (ins Sub CURSOR CURSOR TEMPORARY (pos 0)) ∷ Plain (ins Slli CURSOR CURSOR 0 (pos 12)) ∷ []

  done_words : list_all near_code done_front ≡ true
  unfolding encode_of word_of
  done_words = refl

  -- the count is an immediate
  count_word : (r n : ℕ) → r < 32 → n < 2048 → has_word (ins Addi CURSOR r 0 (pos n)) ≡ true
  count_word r n less few = addi_word 15 r (pos n) (omega arith) less (lt-ltb n 2048 few)

  done_near : (first every : ℕ) → Nearby first → list_all near_code (done first every) ≡ true
  done_near first every n =
      let last : List Item = Plain (ins Addi CURSOR CURSOR 0 (pos (2047 - every))) ∷ [] in
      sets 30 first (done_front ++ last) (omega arith) n (both_all near_code done_front last done_words (plain (ins Addi CURSOR CURSOR 0 (pos (2047 - every))) [] (count_word 15 (2047 - every) (omega arith) (omega arith)) refl))

  first_near : (spans : List (ℕ × ℕ)) → InImage at base d at_is top small spans → Nearby (first_word base spans)
  first_near [] s = place base (omega arith) (omega arith)
  first_near (r ∷ rs) s = place r.0 s.0.0 (omega (arith, s.0.1, s.0.2))

  pub check_near : (every round : ℕ) (spans : List (ℕ × ℕ)) → d % 4096 ≡ 0 → InImage at base d at_is top small spans → list_all near_code (check base d every round spans) ≡ true
  check_near every round spans grain s =
      let first = first_word base spans in
      let n = first_near spans s in
      let six : List Item = look_up SIGNATURE ++ look_again d in
      let five : List Item = done first every ++ six in
      let four : List Item = visit round spans ++ five in
      let three : List Item = begun first ++ four in
      let two : List Item = compare ++ three in
      both_all near_code called (check_distance d ++ two) called_near
      (both_all near_code (check_distance d) two (distance_near grain)
      (both_all near_code compare three (words.compare_near at base d at_is top small)
      (both_all near_code (begun first) four (begun_near first n)
      (both_all near_code (visit round spans) five (words.visit_near at base d at_is top small round spans s)
      (both_all near_code (done first every) six (done_near first every n) (both_all near_code (look_up SIGNATURE) (look_again d) look_near (again_near grain)))))))

  pub begin_near : (a : ℕ) → d % 4096 ≡ 0 → base ≤ a → a ≤ base + d → list_all near_code (begin d a) ≡ true
  begin_near a grain low high =
      let two : List Item = Plain (ins Addi CURSOR 0 0 (pos 2047)) ∷ Go a ∷ [] in
      let last : List Item = Plain (ins Lui DISTANCE 0 0 (pos d)) ∷ Constant SIGNATURE a ∷ two in
      both_all near_code (zero_from 1 ORIGINALS) (zero_from 17 ORIGINALS ++ last) (words.zeros_near at base d at_is top small)
      (both_all near_code (zero_from 17 ORIGINALS) last (words.pairs_near at base d at_is top small)
      (plain (ins Lui DISTANCE 0 0 (pos d)) (Constant SIGNATURE a ∷ two) (distance_word 14 (omega arith) grain)
      (sets 16 a two (omega arith) (place a low high) (plain (ins Addi CURSOR 0 0 (pos 2047)) (Go a ∷ []) (count_word 0 2047 (omega arith) (omega arith)) refl))))

  -- ---- entries
  named_near : (land : Bool) (a : ℕ) → base ≤ a → a ≤ base + d → list_all near_code (named land a) ≡ true
  named_near true a low high = refl
  named_near false a low high = sets 30 a [] (omega arith) (place a low high) refl

  tick_words : (land : Bool) → (has_word (ins Slli SPARE CURSOR 0 (pos 52)) ≡ true) × (has_word (ins Bge 0 SPARE 0 (pos (cond land 12 20))) ≡ true)
  unfolding encode_of word_of
  tick_words true = (refl, refl)
  tick_words false = (refl, refl)

  call_near : (z : ℤ) → has_word (ins Jal 0 0 0 z) ≡ true → list_all near_code (Plain (ins Jal 0 0 0 z) ∷ fired_check ∷ []) ≡ true
  unfolding encode_of word_of
  call_near z h = plain (ins Jal 0 0 0 z) (fired_check ∷ []) h refl

  pub tick_near : (land : Bool) (a most : ℕ) (z : ℤ) → base ≤ a → a ≤ base + d → most < 2048 → has_word (ins Jal 0 0 0 z) ≡ true → list_all near_code (tick land a most z) ≡ true
  tick_near land a most z low high few h =
      let call : List Item = Plain (ins Jal 0 0 0 z) ∷ fired_check ∷ [] in
      let two : List Item = named land a ++ call in
      let w = tick_words land in
      plain (ins Addi CURSOR CURSOR 0 (pos most)) (Plain (ins Slli SPARE CURSOR 0 (pos 52)) ∷ Plain (ins Bge 0 SPARE 0 (pos (cond land 12 20))) ∷ two) (count_word 15 most (omega arith) few)
      (plain (ins Slli SPARE CURSOR 0 (pos 52)) (Plain (ins Bge 0 SPARE 0 (pos (cond land 12 20))) ∷ two) w.0
      (plain (ins Bge 0 SPARE 0 (pos (cond land 12 20))) two w.1 (both_all near_code (named land a) call (named_near land a low high) (call_near z h))))

  sign_near : (a : ℕ) → base ≤ a → a ≤ base + d → list_all near_code (check_sign a) ≡ true
  sign_near a low high = sets 30 a called (omega arith) (place a low high) called_near

  ticked_near : (land ticks : Bool) (a most : ℕ) (z : ℤ) → base ≤ a → a ≤ base + d → most < 2048 → has_word (ins Jal 0 0 0 z) ≡ true → list_all near_code (cond ticks (tick land a most z) []) ≡ true
  ticked_near land true a most z low high few h = tick_near land a most z low high few h
  ticked_near land false a most z low high few h = refl

  pub enter_near : (land ticks : Bool) (a most : ℕ) (z : ℤ) → base ≤ a → a ≤ base + d → most < 2048 → has_word (ins Jal 0 0 0 z) ≡ true → list_all near_code (enter land ticks a most z) ≡ true
  enter_near true ticks a most z low high few h = both_all near_code (check_sign a) (cond ticks (tick true a most z) []) (sign_near a low high) (ticked_near true ticks a most z low high few h)
  enter_near false ticks a most z low high few h = ticked_near false ticks a most z low high few h

  -- ---- a store
  address_words : has_word (ins Sub SPARE TEMPORARY DISTANCE (pos 0)) ≡ true
  unfolding encode_of word_of
  address_words = refl

  break_near : list_all near_code (fired_check ∷ []) ≡ true
  unfolding encode_of word_of
  break_near = refl

  address_near : (i : Ins) → i.rs1 ≤ LAST_ORIGINAL → list_all near_code (guard_address i) ≡ true
  address_near i low =
      let differs : List Item = Plain (ins Beq 0 i.rs1 SPARE (pos 8)) ∷ fired_check ∷ [] in
      plain (ins Add TEMPORARY (pair i.rs1) DISTANCE (pos 0)) (Plain (ins Sub SPARE TEMPORARY DISTANCE (pos 0)) ∷ differs) (add_word 30 (pair i.rs1) 14 refl (pair_reg i.rs1 low) refl)
      (plain (ins Sub SPARE TEMPORARY DISTANCE (pos 0)) differs address_words (plain (ins Beq 0 i.rs1 SPARE (pos 8)) (fired_check ∷ []) (branch_word Beq i.rs1 31 8 refl (lt-ltb i.rs1 32 (omega (arith, low))) refl (omega arith) refl) break_near))

  pub store_near : (i : Ins) (a : ℕ) → class_of i.kind ≡ class.Store → Known at base d at_is top small i a → list_all near_code (store_part i) ≡ true
  store_near i a c k =
      let l = k.low (λ f. absurd (cc)) in
      let last : List Item = Plain i ∷ mirrored_store i ∷ [] in
      both_all near_code (guard_address i) (guard_value i ++ last) (address_near i l.1)
      (both_all near_code (guard_value i) last (if_all near_code (i.rs2 == i.rs1) [] (guard i.rs2) (λ e. refl) (λ e. words.guard_near at base d at_is top small i.rs2 l.2))
      (plain i (mirrored_store i ∷ []) k.word (plain (ins i.kind 0 TEMPORARY (pair i.rs2) i.imm) [] (mirror_store_word i c l.2 k.word) refl)))

  -- ---- the leaves
  module _ (before : List Item) (fall : ℕ → List Item) (before_near : list_all near_code before ≡ true) (fall_near : (t : ℕ) → list_all near_code (fall t) ≡ true) (grain : d % 4096 ≡ 0) (a : ℕ) (low : base ≤ a) (high : a ≤ base + d) where
    end_near : (i : Ins) → has_word i ≡ true → list_all near_code (leave_as d before fall class.End i a 0) ≡ true
    end_near i k =
        let last : List Item = before ++ (Plain i ∷ []) in
        both_all near_code compare (check_distance d ++ (check_sign a ++ last)) (words.compare_near at base d at_is top small)
        (both_all near_code (check_distance d) (check_sign a ++ last) (distance_near grain) (both_all near_code (check_sign a) last (sign_near a low high) (both_all near_code before (Plain i ∷ []) before_near (plain i [] k refl))))

    jump_near : (i : Ins) (x : ℕ) → class_of i.kind ≡ class.Jump → KnownEnd at base d at_is top small i x → list_all near_code (leave_as d before fall class.Jump i a x) ≡ true
    jump_near i x c k =
        both_all near_code (links i x) (goes a (target i x)) (words.links_near at base d at_is top small i x k)
        (goes_near a (target i x) low high (words.goal_near at base d at_is top small i x 21 k (jump_imm i c k.word) (omega arith)))

    -- what checks a way of a branch
    way_near : (k : Kind) (i : Ins) → class_of k ≡ class.Branch → i.rs1 ≤ LAST_ORIGINAL → i.rs2 ≤ LAST_ORIGINAL → list_all near_code (check_way k i) ≡ true
    way_near k i c l1 l2 = plain (ins k 0 (pair i.rs1) (pair i.rs2) (pos 8)) (fired_check ∷ []) (branch_word k (pair i.rs1) (pair i.rs2) 8 c (pair_reg i.rs1 l1) (pair_reg i.rs2 l2) (omega arith) refl) break_near

    branch_near : (i : Ins) (x : ℕ) → class_of i.kind ≡ class.Branch → KnownEnd at base d at_is top small i x → list_all near_code (leave_as d before fall class.Branch i a x) ≡ true
    branch_near i x c k =
        let n = (x + 4) % 2 ^ 64 in
        let t = target i x in
        let o = opposite i.kind in
        let other = (opposite_is i.kind c).0 in
        let far = words.goal_near at base d at_is top small i x 13 k (branch_imm i c k.word) (omega arith) in
        let next = words.next_near at base d at_is top small x k.from k.to in
        let size = sum_of_sizes false (taken i a t) in
        let small_size : (4 + sum_of_sizes false (taken i a t) < 4096) × ((4 + sum_of_sizes false (taken i a t)) % 2 ≡ 0) = ⊎_elim (λ e. (omega (arith, e), omega (arith, e))) (λ h. ⊎_elim (λ e. (omega (arith, e), omega (arith, e))) (λ e. (omega (arith, e), omega (arith, e))) h) (goes_size a t) in
        let ways : List Item = turn a n ++ fall n in
        let second : List Item = check_way o i ++ ways in
        plain (ins o 0 i.rs1 i.rs2 (pos (4 + size))) (taken i a t ++ second) (branch_word o i.rs1 i.rs2 (4 + size) other (lt-ltb i.rs1 32 (let l = k.low.1 in omega (arith, l))) (lt-ltb i.rs2 32 (let l = k.low.2 in omega (arith, l))) small_size.0 small_size.1)
        (both_all near_code (taken i a t) second (both_all near_code (check_way i.kind i) (goes a t) (way_near i.kind i c k.low.1 k.low.2) (goes_near a t low high far))
        (both_all near_code (check_way o i) ways (way_near o i other k.low.1 k.low.2) (both_all near_code (turn a n) (fall n) (turn_near a n low high next) (fall_near n))))

    abbrev even : List Item
    even = Plain (ins Andi TEMPORARY TEMPORARY 0 (neg_ℤ (pos 2))) ∷ []

    even_words : list_all near_code even ≡ true
    unfolding encode_of word_of
    even_words = refl

    sum_word : has_word (ins Add SIGNATURE SIGNATURE TEMPORARY (pos 0)) ≡ true
    unfolding encode_of word_of
    sum_word = refl

    sub_word : has_word (ins Sub SIGNATURE SIGNATURE TEMPORARY (pos 0)) ≡ true
    unfolding encode_of word_of
    sub_word = refl

    leap_near : (i : Ins) (x : ℕ) → class_of i.kind ≡ class.JumpReg → KnownEnd at base d at_is top small i x → list_all near_code (leave_as d before fall class.JumpReg i a x) ≡ true
    leap_near i x c k =
        let z = leap_imm i c k.word in
        let r1 = k.low.1 in
        let looks : List Item = look_up TEMPORARY ++ look_again d in
        let last : List Item = called ++ (links i x ++ looks) in
        let goal : List Item = take_target i i.rs1 ++ last in
        let guarded : List Item = guard i.rs1 ++ goal in
        let tested : List Item = check_distance d ++ guarded in
        let away : List Item = Constant TEMPORARY a ∷ Plain (ins Sub SIGNATURE SIGNATURE TEMPORARY (pos 0)) ∷ tested in
        let signed : List Item = Plain (ins Add SIGNATURE SIGNATURE TEMPORARY (pos 0)) ∷ away in
        plain (ins Addi TEMPORARY (pair i.rs1) 0 i.imm) (even ++ signed) (addi_word 30 (pair i.rs1) i.imm (omega arith) (ltb-true (pair i.rs1) 32 (pair_reg i.rs1 k.low.1)) z)
        (both_all near_code even signed even_words
        (plain (ins Add SIGNATURE SIGNATURE TEMPORARY (pos 0)) away sum_word
        (sets 30 a (Plain (ins Sub SIGNATURE SIGNATURE TEMPORARY (pos 0)) ∷ tested) (omega arith) (place a low high)
        (plain (ins Sub SIGNATURE SIGNATURE TEMPORARY (pos 0)) tested sub_word
        (both_all near_code (check_distance d) guarded (distance_near grain)
        (both_all near_code (guard i.rs1) goal (words.guard_near at base d at_is top small i.rs1 k.low.1)
        (plain (ins Addi TEMPORARY i.rs1 0 i.imm) (even ++ last) (addi_word 30 i.rs1 i.imm (omega arith) (omega (arith, r1)) z)
        (both_all near_code even last even_words
        (both_all near_code called (links i x ++ looks) called_near
        (both_all near_code (links i x) looks (words.links_near at base d at_is top small i x k) (both_all near_code (look_up TEMPORARY) (look_again d) look_target (again_near grain))))))))))))

    stop_near : (c : Class) (i : Ins) (x : ℕ) → class_of i.kind ≡ c → KnownEnd at base d at_is top small i x → list_all near_code (leave_as d before fall c i a x) ≡ true
    stop_near class.End i x e k = end_near i k.word
    stop_near class.Jump i x e k = jump_near i x e k
    stop_near class.Branch i x e k = branch_near i x e k
    stop_near class.JumpReg i x e k = leap_near i x e k
    stop_near _ i x e k = plain i [] k.word refl

    pub leave_near : (e : End) (x : ℕ) → IsKnownEnd at base d at_is top small e x → list_all near_code (leave d before fall e a x) ≡ true
    leave_near Falls x k = both_all near_code (turn a x) (fall x) (turn_near a x low high (place x k.0 k.1)) (fall_near x)
    leave_near (Stops i) x k = stop_near (class_of i.kind) i x refl k

  pub before_near : (form : Form) → InImage at base d at_is top small form.spans → list_all near_code (before_end form) ≡ true
  before_near form s = if_all near_code form.sweep (sweep form.spans ++ compare) [] (λ e. both_all near_code (sweep form.spans) compare (words.sweep_near at base d at_is top small form.spans s) (words.compare_near at base d at_is top small)) (λ e. refl)
