-- Laws of memory.
use Rattle.std.proofs.Common.{◌≡◌, ◌≢◌, ℕ, zero, suc, ◌+◌, ◌*◌, ◌^◌, ◌<◌, ◌≤◌, Bool, true, false, cond, List, [], ◌∷◌, map, Option, Some, None, refl, sym, ap, ◌∙◌, subst, arith, T, add-zero, ⊎_elim}
use Rattle.std.proofs.lemmas.Bool.{false≢true, and_parts, and_from, cases_lt, eqb-true, eqb-false, lt-ltb, ltb-true}
use Rattle.std.proofs.lemmas.Bool.Decides.{nat_tests}
use Rattle.std.specs.Prelude.{nat_lt, ◌==◌}
use Rattle.std.specs.Option.{option_map}
use Rattle.std.specs.FinMap.{get, entries, entries_sorted, get-entries, get-from_sorted, find, is_sorted, same_map, nat_cmp-IsAntisymmetric}
use Rattle.std.specs.FinMap.Entries.{below_all}
use Rattle.std.specs.Cmp.{nat_cmp_total}
use Rattle.std.specs.Ordering.{nat_cmp, eq_by_cmp}
use Rattle.machine.specs.Memory.{Flags, Cell, Memory, with_byte, rewritten_entry, rewritten, wrap, offset, byte_of, put, poked, byte_in, byte_at, number, allows, grants}

-- keys that the order takes for equal are equal
same_key : (q k : ℕ) → eq_by_cmp nat_cmp q k ≡ true → q ≡ k
same_key q k e = grind (arith, nat_tests)

-- a look-up at the first entry and behind it, after the rewrite
rewritten_step :
    (f : ℕ → ℕ → ℕ) (q k : ℕ) (c : Cell) (x y : Option Cell) (b : Bool) → (b ≡ true → q ≡ k) → x ≡ option_map (λ c. with_byte (f q c.byte) c) y
    → cond b (Some (with_byte (f k c.byte) c)) x ≡ option_map (λ c. with_byte (f q c.byte) c) (cond b (Some c) y)
rewritten_step f q k c x y true same e = rw same refl
rewritten_step f q k c x y false same e = e

-- a look-up in rewritten entries
find-rewritten :
    (f : ℕ → ℕ → ℕ) (q : ℕ) (es : List (ℕ × Cell))
    → find nat_cmp q (map (rewritten_entry f) es) ≡ option_map (λ c. with_byte (f q c.byte) c) (find nat_cmp q es)
find-rewritten f q [] = refl
find-rewritten f q (e ∷ es) = rewritten_step f q e.0 e.1 _ _ (eq_by_cmp nat_cmp q e.0) (same_key q e.0) (find-rewritten f q es)

-- a rewrite keeps the keys, so their order too
below_all-rewritten : (f : ℕ → ℕ → ℕ) (k : ℕ) (es : List (ℕ × Cell)) → below_all nat_cmp k (map (rewritten_entry f) es) ≡ below_all nat_cmp k es
below_all-rewritten f k [] = refl
below_all-rewritten f k (e ∷ es) = rw (below_all-rewritten f k es)

-- rewritten entries stay sorted
is_sorted-rewritten : (f : ℕ → ℕ → ℕ) (es : List (ℕ × Cell)) → is_sorted nat_cmp (map (rewritten_entry f) es) ≡ is_sorted nat_cmp es
is_sorted-rewritten f [] = refl
is_sorted-rewritten f (e ∷ es) = rw (below_all-rewritten f e.0 es, is_sorted-rewritten f es)

-- the cell at q after a rewrite
pub get-rewritten : (f : ℕ → ℕ → ℕ) (m : Memory) (q : ℕ) → get (rewritten f m) q ≡ option_map (λ c. with_byte (f q c.byte) c) (get m q)
unfolding rewritten
get-rewritten f m q =
    get-from_sorted nat_cmp (map (rewritten_entry f) (entries m)) q (subst T (sym (is_sorted-rewritten f (entries m))) (entries_sorted m))
    ∙ find-rewritten f q (entries m) ∙ ap (option_map (λ c. with_byte (f q c.byte) c)) (sym (get-entries m q))

-- two memories that answer alike are one
pub same_memory : (m n : Memory) → ((q : ℕ) → get m q ≡ get n q) → m ≡ n
same_memory m n h = same_map nat_cmp_total nat_cmp-IsAntisymmetric m n h

-- another byte changes no permission
same_allows : (need : Flags → Bool) (f : ℕ → ℕ) (o : Option Cell) → allows need (option_map (λ c. with_byte (f c.byte) c) o) ≡ allows need o
same_allows need f None = refl
same_allows need f (Some c) = refl

-- a rewrite changes no permission
pub grants-rewritten : (need : Flags → Bool) (f : ℕ → ℕ → ℕ) (m : Memory) (a n : ℕ) → grants need (rewritten f m) a n ≡ grants need m a n
unfolding grants
grants-rewritten need f m a zero = refl
grants-rewritten need f m a (suc n) = rw (get-rewritten f m (wrap a), same_allows need (f (wrap a)) (get m (wrap a)), grants-rewritten need f m (a + 1) n)

-- the cell stays where the rewrite keeps its byte
get-kept : (f : ℕ → ℕ) (o : Option Cell) → ((b : ℕ) → f b ≡ b) → option_map (λ c. with_byte (f c.byte) c) o ≡ o
get-kept f None h = refl
get-kept f (Some c) h = ap (λ b. Some (with_byte b c)) (h c.byte)

-- numbers of equal bytes
pub same_number : (m n : Memory) (a k : ℕ) → ((i : ℕ) → i < k → byte_at m (wrap (a + i)) ≡ byte_at n (wrap (a + i))) → number m a k ≡ number n a k
unfolding number
same_number m n a zero h = refl
same_number m n a (suc k) h =
    let first : byte_at m (wrap a) ≡ byte_at n (wrap a) = rw add-zero at (h 0 (omega arith)) in
    let rest = same_number m n (a + 1) k (λ i l. let e : a + (i + 1) ≡ a + 1 + i = omega arith in rw e at (h (i + 1) (omega arith))) in
    cc

-- the address i above a has the offset i
pub offset_wrap : (a i : ℕ) → a < 2 ^ 64 → i < 2 ^ 64 → offset a (wrap (a + i)) ≡ i
offset_wrap a i h l = omega arith

-- the address at the offset of q is q
pub wrap_offset : (a q : ℕ) → a < 2 ^ 64 → q < 2 ^ 64 → wrap (a + offset a q) ≡ q
wrap_offset a q h l = omega arith

-- what a rewrite at a window does to the cell at q
pub get-put : (m : Memory) (a n v q : ℕ) → get (put m a n v) q ≡ option_map (λ c. with_byte (cond (nat_lt (offset a q) n) (byte_of v (offset a q)) c.byte) c) (get m q)
unfolding put
get-put m a n v q = get-rewritten _ m q

-- outside the window nothing changes
pub get-put_outside : (m : Memory) (a n v q : ℕ) → n ≤ offset a q → get (put m a n v) q ≡ get m q
get-put_outside m a n v q h =
    let no : nat_lt (offset a q) n ≡ false = grind (arith, nat_tests) in
    get-put m a n v q ∙ get-kept (λ b. cond (nat_lt (offset a q) n) (byte_of v (offset a q)) b) (get m q) (λ b. rw no)

-- a write changes no permission
pub grants-put : (need : Flags → Bool) (m : Memory) (a n v b k : ℕ) → grants need (put m a n v) b k ≡ grants need m b k
unfolding put
grants-put need m a n v b k = grants-rewritten need _ m b k

-- a granted access is allowed at each of its bytes
pub grants_at : (need : Flags → Bool) (m : Memory) (a n i : ℕ) → grants need m a n ≡ true → i < n → allows need (get m (wrap (a + i))) ≡ true
unfolding grants
grants_at need m a zero i g l = absurd (omega arith)
grants_at need m a (suc n) zero g l = rw add-zero ((and_parts _ _ g).0)
grants_at need m a (suc n) (suc i) g l = let e : a + suc i ≡ a + 1 + i = omega arith in rw e (grants_at need m (a + 1) n i ((and_parts _ _ g).1) (omega arith))

-- outside the window the byte stays
pub byte_at-put_outside : (m : Memory) (a n v q : ℕ) → n ≤ offset a q → byte_at (put m a n v) q ≡ byte_at m q
unfolding byte_at
byte_at-put_outside m a n v q h = ap byte_in (get-put_outside m a n v q h)

-- two windows without a common address
abbrev pub Apart : ℕ → ℕ → ℕ → ℕ → Type 0
Apart a n b k = (i : ℕ) → i < k → n ≤ offset a (wrap (b + i))

-- a number elsewhere stays
pub number-put_apart : (m : Memory) (a n v b k : ℕ) → Apart a n b k → number (put m a n v) b k ≡ number m b k
number-put_apart m a n v b k apart = same_number (put m a n v) m b k (λ i l. byte_at-put_outside m a n v _ (apart i l))

-- windows that do not wrap, the second one before the first
pub apart_before : (a n b k : ℕ) → b + k ≤ a → a + n ≤ 2 ^ 64 → Apart a n b k
apart_before a n b k h l i j = omega arith

-- the mirror address: adding d modulo 2^64 keeps the offset
pub mirror_offset : (base d a q : ℕ) → base + 3 * d + 134217728 ≤ 2 ^ 63 → base ≤ q → q < base + d → a < 2 ^ 64 → offset (wrap (a + d)) (q + d) ≡ offset a q
mirror_offset base d a q top l h ha = omega arith

-- a byte of the access in the original half: its mirror byte
pub mirror_byte : (base d a i : ℕ) → base + 3 * d + 134217728 ≤ 2 ^ 63 → base ≤ wrap (a + i) → wrap (a + i) < base + d → wrap (wrap (a + d) + i) ≡ wrap (a + i) + d
mirror_byte base d a i top l h = omega arith

-- ---- one byte more
-- a write of no byte changes nothing
pub put_none : (m : Memory) (a v : ℕ) → put m a 0 v ≡ m
put_none m a v = same_memory _ _ (λ q. let no : nat_lt (offset a q) 0 ≡ false = grind (arith, nat_tests) in get-put m a 0 v q ∙ get-kept (λ b. cond (nat_lt (offset a q) 0) (byte_of v (offset a q)) b) (get m q) (λ b. rw no))

-- a rewrite of n bytes and of one byte more, at one cell
one_more :
    (o : Option Cell) (x y z : Bool) (s t : ℕ) → (z ≡ true → t ≡ s) → (z ≡ true → x ≡ true) → (x ≡ true → z ≡ false → y ≡ true)
    → (y ≡ true → x ≡ true)
    → option_map (λ c. with_byte (cond z t c.byte) c) (option_map (λ c. with_byte (cond y s c.byte) c) o) ≡ option_map (λ c. with_byte (cond x s c.byte) c) o
one_more None x y z s t e zx xy yx = refl
one_more (Some c) true true true s t e zx xy yx = rw (e refl) refl
one_more (Some c) true true false s t e zx xy yx = refl
one_more (Some c) true false true s t e zx xy yx = rw (e refl) refl
one_more (Some c) true false false s t e zx xy yx = absurd (false≢true (xy refl refl))
one_more (Some c) false true z s t e zx xy yx = absurd (false≢true (yx refl))
one_more (Some c) false false true s t e zx xy yx = absurd (false≢true (zx refl))
one_more (Some c) false false false s t e zx xy yx = refl

-- the cell at q after one byte was written
pub get-poked : (a v : ℕ) (m : Memory) (q : ℕ) → get (poked a v m) q ≡ option_map (λ c. with_byte (cond (q == a) v c.byte) c) (get m q)
unfolding poked
get-poked a v m q = get-rewritten _ m q

-- a write of one byte more
pub put-more :
    (m : Memory) (a n v : ℕ) → a < 2 ^ 64 → n < 2 ^ 64 → ((q : ℕ) → 2 ^ 64 ≤ q → get m q ≡ None)
    → poked (wrap (a + n)) (byte_of v n) (put m a n v) ≡ put m a (n + 1) v
put-more m a n v ha hn high =
    same_memory _ _ (λ q. ⊎_elim (inside q) (outside q) (cases_lt q (2 ^ 64))) where
      shape :
          (q : ℕ)
          → get (poked (wrap (a + n)) (byte_of v n) (put m a n v)) q ≡ option_map (λ c. with_byte (cond (q == wrap (a + n)) (byte_of v n) c.byte) c) (option_map (λ c. with_byte (cond (nat_lt (offset a q) n) (byte_of v (offset a q)) c.byte) c) (get m q))
      shape q = get-poked (wrap (a + n)) (byte_of v n) (put m a n v) q ∙ ap (option_map (λ c. with_byte (cond (q == wrap (a + n)) (byte_of v n) c.byte) c)) (get-put m a n v q)

      here : (q : ℕ) → q < 2 ^ 64 → (q == wrap (a + n)) ≡ true → offset a q ≡ n
      here q h e = let is : q ≡ wrap (a + n) = eqb-true _ _ e in rw is (offset_wrap a n ha hn)

      there : (q : ℕ) → q < 2 ^ 64 → (q == wrap (a + n)) ≡ false → offset a q ≢ n
      there q h e is = eqb-false _ _ e (sym (wrap_offset a q ha h) ∙ ap (λ k. wrap (a + k)) is)

      inside : (q : ℕ) → q < 2 ^ 64 → get (poked (wrap (a + n)) (byte_of v n) (put m a n v)) q ≡ get (put m a (n + 1) v) q
      inside q h =
          shape q
          ∙ one_more (get m q) (nat_lt (offset a q) (n + 1)) (nat_lt (offset a q) n) (q == wrap (a + n)) (byte_of v (offset a q)) (byte_of v n)
          (λ e. ap (byte_of v) (sym (here q h e)))
          (λ e. lt-ltb _ _ (omega (arith, here q h e)))
          (λ x e. lt-ltb _ _ (omega (arith, ltb-true _ _ x, there q h e)))
          (λ y. lt-ltb _ _ (omega (arith, ltb-true _ _ y)))
          ∙ sym (get-put m a (n + 1) v q)

      outside : (q : ℕ) → 2 ^ 64 ≤ q → get (poked (wrap (a + n)) (byte_of v n) (put m a n v)) q ≡ get (put m a (n + 1) v) q
      outside q h =
          let none = high q h in
          shape q ∙ ap (λ o. option_map (λ c. with_byte (cond (q == wrap (a + n)) (byte_of v n) c.byte) c) (option_map (λ c. with_byte (cond (nat_lt (offset a q) n) (byte_of v (offset a q)) c.byte) c) o)) none
          ∙ sym (get-put m a (n + 1) v q ∙ ap (option_map (λ c. with_byte (cond (nat_lt (offset a q) (n + 1)) (byte_of v (offset a q)) c.byte) c)) none)

-- equal bytes at two places
pub same_number_at : (m n : Memory) (a b k : ℕ) → ((i : ℕ) → i < k → byte_at m (wrap (a + i)) ≡ byte_at n (wrap (b + i))) → number m a k ≡ number n b k
unfolding number
same_number_at m n a b zero h = refl
same_number_at m n a b (suc k) h =
    let first : byte_at m (wrap a) ≡ byte_at n (wrap b) = rw (add-zero a, add-zero b) at (h 0 (omega arith)) in
    let rest = same_number_at m n (a + 1) (b + 1) k (λ i l. let e : a + (i + 1) ≡ a + 1 + i = omega arith in let f : b + (i + 1) ≡ b + 1 + i = omega arith in rw (e, f) at (h (i + 1) (omega arith))) in
    cc

-- an access is granted where each byte is
pub grants_from : (need : Flags → Bool) (m : Memory) (a n : ℕ) → ((i : ℕ) → i < n → allows need (get m (wrap (a + i))) ≡ true) → grants need m a n ≡ true
unfolding grants
grants_from need m a zero h = refl
grants_from need m a (suc n) h =
    and_from _ _ (let first : allows need (get m (wrap a)) ≡ true = rw add-zero at (h 0 (omega arith)) in first)
    (grants_from need m (a + 1) n (λ i l. let e : a + (i + 1) ≡ a + 1 + i = omega arith in rw e at (h (i + 1) (omega arith))))
