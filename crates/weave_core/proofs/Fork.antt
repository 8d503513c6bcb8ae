-- A branch on originals; each way begins with a branch on the pairs that refuses the other way.
use Rattle.std.proofs.Common.{◌≡◌, ℕ, ◌+◌, ◌-◌, ◌*◌, ◌%◌, ◌^◌, ◌<◌, ◌≤◌, Bool, true, false, not, cond, List, [], ◌∷◌, ◌++◌, length, refl, sym, ap, ◌∙◌, subst, arith, append_assoc}
use Rattle.std.specs.Prelude.{◌==◌, ◌&&◌, ◌||◌, pos}
use Rattle.std.proofs.lemmas.Bool.{eq-eqb, ne_eqb, le-leb, lt-leb, lt-ltb, and_from, and_left, and_right, or_left, or_right, or_from}
use Rattle.rv_isa.specs.declared.class.Class.TheVariants as class
use Rattle.rv_isa.specs.Operation.{pair}
use Rattle.qed_model.specs.Weave.Placed.{sum_of_sizes, instructions_from}
use Rattle.qed_model.specs.Weave.Sequences.{fired_check}
use Rattle.machine.specs.Offsets.{distance_between, upper_part, lower_part}
use Rattle.qed_model.specs.Weave.Lean.{opposite, check_way, is_short, turn_by, turn, goes, leave_as}
use Rattle.qed_model.specs.Promise.Closed.{uses, guards_other, is_guard_kind, is_checked}
use Rattle.qed_model.proofs.Lemmas.{size-instructions_from}
use Rattle.weave_core.specs.World.{Item, Plain, Go, Ins, Kind, Lui, Addi, Add, ins, class_of, Known, imm, target, LAST_ORIGINAL, PAIR_DISTANCE, SIGNATURE, TEMPORARY}
use Rattle.weave_core.specs.Lock.{Opens}
use Rattle.weave_core.specs.Kinds.{is_low, is_scratch, surely_checked, checked_in, opens, is_guard, way, checks_by, past_bytes, at_target, checks_ways, has_kind, Lockstep}
use Rattle.weave_core.specs.KindItems.{LockItems, LandItems, LandsAs}
use Rattle.weave_core.proofs.Ways.{opposite_is}
use Rattle.weave_core.proofs.KindWords.{brk, opens_from, lockstep_then, scratch_branch, a_break}
use Rattle.weave_core.proofs.KindItems.{instructions_then, items_one, pair_scratch, pair_apart}
use Rattle.weave_core.proofs.Landing.{over_words, parts_of, land_then, land_check}

-- ---- words
-- the words behind others
past_over : (n : ℕ) (xs ys : List Ins) → n ≡ 4 * length xs → past_bytes n (xs ++ ys) ≡ ys
past_over n [] [] e = refl
past_over n [] (y ∷ ys) e = rw (eq-eqb n 0 (omega (arith, e))) refl
past_over n (x ∷ xs) ys e = rw (ne_eqb n 0 (λ z. absurd (omega (arith, e, z))), le-leb 4 n (omega (arith, e))) (past_over (n - 4) xs ys (omega (arith, e)))

-- a branch on the pairs over an EBREAK
abbrev pub check_words : Kind → Ins → List Ins
check_words k i = ins k 0 (pair i.rs1) (pair i.rs2) (pos 8) ∷ brk ∷ []

-- passes its test
check_test : (k : Kind) (i : Ins) (is : List Ins) → checks_by k i (check_words k i ++ is) ≡ true
check_test k i is = rw (eq-eqb (way k) (way k) refl, eq-eqb (pair i.rs1) (pair i.rs1) refl, eq-eqb (pair i.rs2) (pair i.rs2) refl) refl

-- the branch b, over the way that it does not take
module _ (b : Ins) (k : Kind) (n : ℕ) (xs ys : List Ins) (is_branch : class_of b.kind ≡ class.Branch) (low_one : b.rs1 ≤ LAST_ORIGINAL) (low_two : b.rs2 ≤ LAST_ORIGINAL) (other : opposite b.kind ≡ k) (over : b.imm ≡ pos n) (size : n ≡ 4 * length (b ∷ check_words k b ++ xs)) (near : n < 56) where
  -- the target of the branch begins with the other check
  at_other : (zs : List Ins) → at_target b.imm (b ∷ ((check_words k b ++ xs) ++ (check_words b.kind b ++ ys)) ++ zs) ≡ check_words b.kind b ++ (ys ++ zs)
  at_other zs =
      ap (λ z. at_target z (b ∷ ((check_words k b ++ xs) ++ (check_words b.kind b ++ ys)) ++ zs)) over
      ∙ ap (λ l. at_target (pos n) (b ∷ check_words k b ++ l)) (append_assoc xs (check_words b.kind b ++ ys) zs)
      ∙ rw (lt-ltb n 56 near) (past_over n (b ∷ check_words k b ++ xs) (check_words b.kind b ++ (ys ++ zs)) size)

  -- so both ways are checked
  ways : (zs : List Ins) → checks_ways b (((check_words k b ++ xs) ++ (check_words b.kind b ++ ys)) ++ zs) ≡ true
  ways zs =
      let first : checks_by (opposite b.kind) b (check_words k b ++ ((xs ++ (check_words b.kind b ++ ys)) ++ zs)) ≡ true = ap (λ j. checks_by j b (check_words k b ++ ((xs ++ (check_words b.kind b ++ ys)) ++ zs))) other ∙ check_test k b ((xs ++ (check_words b.kind b ++ ys)) ++ zs) in
      let second : checks_by b.kind b (at_target b.imm (b ∷ ((check_words k b ++ xs) ++ (check_words b.kind b ++ ys)) ++ zs)) ≡ true = ap (checks_by b.kind b) (at_other zs) ∙ check_test b.kind b (ys ++ zs) in
      and_from _ _ first second

  -- the word behind it checks it
  checked : (zs : List Ins) → surely_checked b (check_words k b ++ zs) ≡ true
  unfolding is_checked
  checked zs =
      let kk : class_of k ≡ class.Branch = ap class_of (sym other) ∙ (opposite_is b.kind is_branch).0 in
      rw (is_branch, kk, eq-eqb (pair b.rs1) (pair b.rs1) refl, eq-eqb (pair b.rs2) (pair b.rs2) refl) refl

  -- it compares no register with its pair
  apart : (r : ℕ) → guards_other r (Known b) ≡ false
  unfolding guards_other
  apart r = let e : (b.rs2 == b.rs1 + PAIR_DISTANCE) ≡ false = ne_eqb b.rs2 (b.rs1 + PAIR_DISTANCE) (λ e. absurd (omega (arith, e, low_two))) in rw e (and_right (is_guard_kind b) false refl)

  -- it is of a kind
  fits : (zs : List Ins) → opens (((check_words k b ++ xs) ++ (check_words b.kind b ++ ys)) ++ zs) ≡ true → has_kind b (((check_words k b ++ xs) ++ (check_words b.kind b ++ ys)) ++ zs) ≡ true
  fits zs o =
      let is : List Ins = ((check_words k b ++ xs) ++ (check_words b.kind b ++ ys)) ++ zs in
      let g : is_guard b ≡ false = and_right _ _ (and_right _ _ (lt-leb 14 b.rs2 (omega (arith, low_two)))) in
      let low = and_from _ _ (and_from _ _ (le-leb b.rs1 LAST_ORIGINAL low_one) (le-leb b.rs2 LAST_ORIGINAL low_two)) (or_right (not (checked_in b is)) (checks_ways b is) (ways zs)) in
      rw (is_branch, g) (and_from _ _ (or_left ((is_low b.rs1 && is_low b.rs2) && (not (checked_in b is) || checks_ways b is)) (is_scratch b.rs1 && is_scratch b.rs2) low) o)

  -- no register is closed at it
  pub fork_words : Lockstep (check_words k b ++ xs) → Lockstep (check_words b.kind b ++ ys) → Lockstep (b ∷ ((check_words k b ++ xs) ++ (check_words b.kind b ++ ys)))
  fork_words one two =
      let rest = lockstep_then (check_words k b ++ xs) (check_words b.kind b ++ ys) one two in
      record {
        fit = λ zs o. and_from _ _ (fits zs (rest.front zs o)) (rest.fit zs o);
        front = λ zs o.
            let is : List Ins = (xs ++ (check_words b.kind b ++ ys)) ++ zs in
            opens_from (b ∷ check_words k b ++ is) (λ r low high. or_from _ _ (and_right (uses r (Known b)) _ (ap not (checked is))) (and_left _ _ (apart r)));
      }

-- ---- items
-- the branch of the leave of a branch: the opposite goes over the way that is taken; xs and ys stand behind the checks
abbrev pub fork : Ins → List Item → List Item → List Item
fork i xs ys = Plain (ins (opposite i.kind) 0 i.rs1 i.rs2 (pos (4 + sum_of_sizes false (check_way i.kind i ++ xs)))) ∷ ((check_way i.kind i ++ xs) ++ (check_way (opposite i.kind) i ++ ys))

module _ (i : Ins) (is_branch : class_of i.kind ≡ class.Branch) (low_one : i.rs1 ≤ LAST_ORIGINAL) (low_two : i.rs2 ≤ LAST_ORIGINAL) where
  -- a check, and what stands behind it
  check_items : (k : Kind) (xs : List Item) → class_of k ≡ class.Branch → LockItems false xs → LockItems false (check_way k i ++ xs)
  check_items k xs e h =
      let j = ins k 0 (pair i.rs1) (pair i.rs2) (pos 8) in
      items_one false j (fired_check ∷ xs) (scratch_branch j e (pair_scratch i.rs1) (pair_scratch i.rs2) (pair_apart i.rs1 i.rs2 low_one low_two)) (items_one false brk xs a_break h)

  check_lands : (k : Kind) (xs : List Item) → class_of k ≡ class.Branch → LockItems false xs → LandItems false xs → LandItems false (check_way k i ++ xs)
  check_lands k xs e l h = let j = ins k 0 (pair i.rs1) (pair i.rs2) (pos 8) in land_then false (Plain j ∷ Plain brk ∷ []) xs (land_check false j e refl) l h

  module _ (xs ys : List Item) (near : sum_of_sizes false xs ≤ 40) (one : LockItems false xs) (two : LockItems false ys) where
    -- the words are of the kinds
    pub fork_items : LockItems false (fork i xs ys)
    fork_items e a =
        let o = opposite_is i.kind is_branch in
        let taken = check_way i.kind i ++ xs in
        let other = check_way (opposite i.kind) i ++ ys in
        let b = ins (opposite i.kind) 0 i.rs1 i.rs2 (pos (4 + sum_of_sizes false (check_way i.kind i ++ xs))) in
        let wx = instructions_from false e (a + 4 + 4 + 4) xs in
        let size = size-instructions_from false e (a + 4 + 4 + 4) xs in
        let start = a + 4 + 4 * length (instructions_from false e (a + 4) (check_way i.kind i ++ xs)) in
        let wy = instructions_from false e (a + 4 + 4 * length (instructions_from false e (a + 4) (check_way i.kind i ++ xs)) + 4 + 4) ys in
        subst Lockstep (ap (λ l. b ∷ l) (sym (instructions_then false e (a + 4) taken other)))
        (fork_words b i.kind (4 + (4 + (4 + sum_of_sizes false xs))) wx wy o.0 low_one low_two o.2 refl (omega (arith, size)) (omega (arith, near)) (check_items i.kind xs is_branch one e (a + 4)) (check_items (opposite i.kind) ys o.0 two e start))

    -- the words of a fork lead to where no register is closed
    pub fork_lands : LandItems false xs → LandItems false ys → LandItems false (fork i xs ys)
    fork_lands hx hy c e a zs far has open_zs ent =
        let o = opposite_is i.kind is_branch in
        let taken = check_way i.kind i ++ xs in
        let other = check_way (opposite i.kind) i ++ ys in
        let n = 4 + (4 + (4 + sum_of_sizes false xs)) in
        let b = ins (opposite i.kind) 0 i.rs1 i.rs2 (pos (4 + (4 + (4 + sum_of_sizes false xs)))) in
        let wt = instructions_from false e (a + 4) (check_way i.kind i ++ xs) in
        let size = size-instructions_from false e (a + 4 + 4 + 4) xs in
        let start = a + 4 + 4 * length (instructions_from false e (a + 4) (check_way i.kind i ++ xs)) in
        let wo = instructions_from false e (a + 4 + 4 * length (instructions_from false e (a + 4) (check_way i.kind i ++ xs))) (check_way (opposite i.kind) i ++ ys) in
        let locks = check_items (opposite i.kind) ys o.0 two in
        let p = parts_of false c e (a + 4) taken other zs (omega (arith, far)) has.1 in
        let there : Opens c ((a + (4 + (4 + (4 + sum_of_sizes false xs)))) % 2 ^ 64) = over_words c a n (b ∷ wt) (wo ++ zs) (omega (arith, size)) (let f = p.first_near in omega (arith, size, near, f)) (has.0, p.first) ((locks e start).front zs open_zs) in
        let offset : 4 + (4 + (4 + sum_of_sizes false xs)) ≡ imm b = omega (arith, near) in (
          subst (λ q. LandsAs q c a b) (sym o.0) (λ g. subst (λ y. Opens c ((a + y) % 2 ^ 64)) offset there),
          land_then false taken other (check_lands i.kind xs is_branch one hx) locks (check_lands (opposite i.kind) ys o.0 two hy) c e (a + 4) zs (omega (arith, far)) has.1 open_zs ent,
        )

-- ---- the leave of a branch
-- what goes to an entry is short
goes_near : (a t : ℕ) → sum_of_sizes false (goes a t) ≤ 40
goes_near a t = elim (a == t) as (λ b. sum_of_sizes false (cond b [] (turn_by (distance_between a t)) ++ (Go t ∷ [])) ≤ 40) [ true ↦ omega arith | false ↦ by (is_short (distance_between a t)) ] where
  by : (b : Bool) → sum_of_sizes false (cond b (Plain (ins Addi SIGNATURE SIGNATURE 0 (distance_between a t)) ∷ []) (Plain (ins Lui TEMPORARY 0 0 (upper_part (distance_between a t))) ∷ Plain (ins Addi TEMPORARY TEMPORARY 0 (lower_part (distance_between a t))) ∷ Plain (ins Add SIGNATURE SIGNATURE TEMPORARY (pos 0)) ∷ []) ++ (Go t ∷ [])) ≤ 40
  by true = omega arith
  by false = omega arith

module _ (d : ℕ) (before : List Item) (fall : ℕ → List Item) (i : Ins) (a at : ℕ) (is_branch : class_of i.kind ≡ class.Branch) (low_one : i.rs1 ≤ LAST_ORIGINAL) (low_two : i.rs2 ≤ LAST_ORIGINAL) (one : LockItems false (goes a (target i at))) (two : LockItems false (turn a ((at + 4) % 2 ^ 64) ++ fall ((at + 4) % 2 ^ 64))) where
  -- the words of the branch's leave are of the kinds
  pub branch_items : LockItems false (leave_as d before fall class.Branch i a at)
  branch_items = fork_items i is_branch low_one low_two (goes a (target i at)) (turn a ((at + 4) % 2 ^ 64) ++ fall ((at + 4) % 2 ^ 64)) (goes_near a (target i at)) one two

  -- the words of the branch's leave lead to where no register is closed
  pub branch_lands : LandItems false (goes a (target i at)) → LandItems false (turn a ((at + 4) % 2 ^ 64) ++ fall ((at + 4) % 2 ^ 64)) → LandItems false (leave_as d before fall class.Branch i a at)
  branch_lands hx hy = fork_lands i is_branch low_one low_two (goes a (target i at)) (turn a ((at + 4) % 2 ^ 64) ++ fall ((at + 4) % 2 ^ 64)) (goes_near a (target i at)) one two hx hy
