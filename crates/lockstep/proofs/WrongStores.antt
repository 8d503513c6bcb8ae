-- A store of other bytes, or of none, as changes of the data words into which it stores.
use Rattle.std.proofs.Common.{◌≡◌, ℕ, zero, suc, ◌+◌, ◌-◌, ◌*◌, ◌/◌, ◌^◌, ◌<◌, ◌≤◌, ⊎_elim, cond, Option, Some, None, refl, sym, ap, ◌∙◌, arith, add-one}
use Rattle.std.specs.Option.{option_map}
use Rattle.std.proofs.Math.Nat.{div-div-eq-div-mul, mul_comm, pow-suc}
use Rattle.std.proofs.lemmas.Bool.{cases_lt, lt-ltb}
use Rattle.machine.specs.declared.place.Place.TheVariants.{Word}
use Rattle.weave_core.specs.World.{Memory, Cell, put, offset, wrap, byte_of, byte_in, byte_at, number, flags_at, with_byte, get, State, stored, next_pc, place, Ins, width_of}
use Rattle.machine.specs.Struck.{struck}
use Rattle.machine.proofs.Lemmas.{get-put, get-put_outside, same_memory, wrap_offset, flags-put}
use Rattle.qed_model.specs.Promise.Faults.{word_around, StoresAny, stores, leaves}
use Rattle.weave_core.proofs.Lemmas.{small_put}

-- ---- a number is its bytes
byte_of-more : (v i : ℕ) → byte_of v (i + 1) ≡ byte_of (v / 256) i
byte_of-more v i = rw (div-div-eq-div-mul v 256 (256 ^ i), add-one, pow-suc, mul_comm (256 ^ i) 256)

byte_of-number : (m : Memory) (a n k : ℕ) → ((q : ℕ) → byte_at m q < 256) → k < n → byte_of (number m a n) k ≡ byte_at m (wrap (a + k))
unfolding number
byte_of-number m a zero k small h = absurd (omega (arith, h))
byte_of-number m a (suc n) zero small h =
    let b = small (wrap a) in
    let one : byte_of (byte_at m (wrap a) + 256 * number m (a + 1) n) 0 ≡ byte_at m (wrap a) = omega (arith, b) in
    let e : a ≡ a + 0 = omega arith in
    one ∙ ap (λ x. byte_at m (wrap x)) e
byte_of-number m a (suc n) (suc k) small h =
    let b = small (wrap a) in
    let v = byte_at m (wrap a) + 256 * number m (a + 1) n in
    let rest : (byte_at m (wrap a) + 256 * number m (a + 1) n) / 256 ≡ number m (a + 1) n = omega (arith, b) in
    let s : suc k ≡ k + 1 = omega arith in
    let e : a + 1 + k ≡ a + suc k = omega arith in
    ap (byte_of v) s ∙ byte_of-more v k ∙ ap (λ x. byte_of x k) rest ∙ byte_of-number m (a + 1) n k small (omega (arith, h)) ∙ ap (λ x. byte_at m (wrap x)) e

-- ---- a memory in which other bytes stand in a window
pub record Beside (p n : ℕ) (m o : Memory) : Type 0 where
  pub outside : (q : ℕ) → n ≤ offset p q → get o q ≡ get m q
  pub flags : (q : ℕ) → flags_at o q ≡ flags_at m q
  pub small : (q : ℕ) → byte_at o q < 256

pub beside_put : (p n x : ℕ) (m : Memory) → ((q : ℕ) → byte_at m q < 256) → Beside p n m (put m p n x)
beside_put p n x m small = record { outside = λ q h. get-put_outside m p n x q h; flags = λ q. flags-put m p n x q; small = λ q. small_put m p n x q (small q) }

pub beside_self : (p n : ℕ) (m : Memory) → ((q : ℕ) → byte_at m q < 256) → Beside p n m m
beside_self p n m small = record { outside = λ q h. refl; flags = λ q. refl; small = small }

-- what stood in the window does not matter
pub beside_over : (p n x : ℕ) (m o : Memory) → Beside p n m o → Beside p n (put m p n x) o
beside_over p n x m o b = record { outside = λ q h. b.outside q h ∙ sym (get-put_outside m p n x q h); flags = λ q. b.flags q ∙ sym (flags-put m p n x q); small = b.small }

-- a cell that gets the byte of another one with its permissions is that one
same_cell : (o : Option Cell) (c : Option Cell) (k : ℕ) → option_map (λ x. x.flags) o ≡ option_map (λ x. x.flags) c → k ≡ byte_in c → option_map (λ x. with_byte k x) o ≡ c
same_cell None None k e b = refl
same_cell None (Some c) k e b = absurd (cc)
same_cell (Some o) None k e b = absurd (cc)
same_cell (Some o) (Some c) k e b = let f : o.flags ≡ c.flags = cc in ap (λ x. Some (record { byte = x; flags = o.flags })) b ∙ ap (λ x. Some (record { byte = c.byte; flags = x })) f

-- where no cell is, none is in a memory with the same permissions
pub no_cell : (o : Option Cell) (c : Option Cell) → option_map (λ x. x.flags) o ≡ option_map (λ x. x.flags) c → c ≡ None → o ≡ None
no_cell None c e n = refl
no_cell (Some o) None e n = absurd (cc)
no_cell (Some o) (Some c) e n = absurd (cc)

pub keys_by : (m o : Memory) → ((q : ℕ) → flags_at o q ≡ flags_at m q) → ((q : ℕ) → 2 ^ 64 ≤ q → get m q ≡ None) → (q : ℕ) → 2 ^ 64 ≤ q → get o q ≡ None
keys_by m o same keys q h = no_cell (get o q) (get m q) (same q) (keys q h)

-- the eight bytes of a word are written as they stand in another memory
written_word :
    (m o : Memory) (a q : ℕ) → ((r : ℕ) → byte_at o r < 256) → a < 2 ^ 64 → q < 2 ^ 64 → offset a q < 8 → flags_at m q ≡ flags_at o q
    → get (put m a 8 (number o a 8)) q ≡ get o q
unfolding byte_at
written_word m o a q small low l inside flags =
    let is : byte_of (number o a 8) (offset a q) ≡ byte_in (get o q) = byte_of-number o a 8 (offset a q) small inside ∙ ap (λ x. byte_in (get o x)) (wrap_offset a q low l) in
    get-put m a 8 (number o a 8) q ∙ ap (λ b. option_map (λ c. with_byte (cond b (byte_of (number o a 8) (offset a q)) c.byte) c) (get m q)) (lt-ltb (offset a q) 8 inside)
    ∙ same_cell (get m q) (get o q) (byte_of (number o a 8) (offset a q)) flags is

-- a byte outside of both words is outside of the window
out_of_both : (p n q : ℕ) → 1 ≤ n → n ≤ 8 → q < 2 ^ 64 → p + n ≤ 2 ^ 64 → 8 ≤ offset (word_around p) q → 8 ≤ offset (word_around (p + n - 1)) q → n ≤ offset p q
out_of_both p n q one most l top out last = ⊎_elim (λ h. absurd (inside h)) (λ h. h) (cases_lt (offset p q) n) where
  inside : offset p q < n → ⊥
  inside h =
      let near : q < p + n = omega (arith, h, l, top) in
      let up : p ≤ q = omega (arith, h, l, top) in
      ⊎_elim
      (λ g. let o : offset (word_around p) q ≡ q - word_around p = omega (arith, up, l) in omega (arith, out, o, g, up))
      (λ g.
      let same : word_around (p + n - 1) ≡ word_around p + 8 = omega (arith, g, near, most, up) in
      let o : offset (word_around (p + n - 1)) q ≡ q - word_around (p + n - 1) = omega (arith, same, g, l) in
      omega (arith, last, o, same, near, most, g))
      (cases_lt q (word_around p + 8))

-- both words are written as they stand there
pub two_words :
    (m o : Memory) (p n : ℕ) → 1 ≤ n → n ≤ 8 → p + n ≤ 2 ^ 64 → word_around (p + n - 1) < 2 ^ 64 → Beside p n m o → ((q : ℕ) → 2 ^ 64 ≤ q → get m q ≡ None)
    → put (put m (word_around p) 8 (number o (word_around p) 8)) (word_around (p + n - 1)) 8 (number o (word_around (p + n - 1)) 8) ≡ o
two_words m o p n one most top high b keys = same_memory _ _ each where
  flags_first : (q : ℕ) → flags_at m q ≡ flags_at o q
  flags_first q = sym (b.flags q)

  flags_second : (q : ℕ) → flags_at (put m (word_around p) 8 (number o (word_around p) 8)) q ≡ flags_at o q
  flags_second q = flags-put m (word_around p) 8 (number o (word_around p) 8) q ∙ flags_first q

  low : word_around p < 2 ^ 64
  low = omega (arith, top, one)

  each : (q : ℕ) → get (put (put m (word_around p) 8 (number o (word_around p) 8)) (word_around (p + n - 1)) 8 (number o (word_around (p + n - 1)) 8)) q ≡ get o q
  each q = ⊎_elim (λ l. at l) (λ h. behind h) (cases_lt q (2 ^ 64)) where
    -- no address
    behind : 2 ^ 64 ≤ q → get (put (put m (word_around p) 8 (number o (word_around p) 8)) (word_around (p + n - 1)) 8 (number o (word_around (p + n - 1)) 8)) q ≡ get o q
    behind h =
        let none : get o q ≡ None = no_cell (get o q) (get m q) (b.flags q) (keys q h) in
        no_cell _ (get o q) (flags-put (put m (word_around p) 8 (number o (word_around p) 8)) (word_around (p + n - 1)) 8 (number o (word_around (p + n - 1)) 8) q ∙ flags_second q) none ∙ sym none

    at : q < 2 ^ 64 → get (put (put m (word_around p) 8 (number o (word_around p) 8)) (word_around (p + n - 1)) 8 (number o (word_around (p + n - 1)) 8)) q ≡ get o q
    at l =
        ⊎_elim
        (λ h. written_word (put m (word_around p) 8 (number o (word_around p) 8)) o (word_around (p + n - 1)) q b.small high l h (flags_second q))
        (λ h.
        get-put_outside (put m (word_around p) 8 (number o (word_around p) 8)) (word_around (p + n - 1)) 8 (number o (word_around (p + n - 1)) 8) q h
        ∙ ⊎_elim
        (λ k. written_word m o (word_around p) q b.small low l k (flags_first q))
        (λ k.
        let out = out_of_both p n q one most l top k h in
        get-put_outside m (word_around p) 8 (number o (word_around p) 8) q k ∙ sym (b.outside q out))
        (cases_lt (offset (word_around p) q) 8))
        (cases_lt (offset (word_around (p + n - 1)) q) 8)

-- ---- a wrong store
pub record IsBeside (i : Ins) (u v : State) : Type 0 where
  pub memory : Memory
  pub beside : Beside (place i u) (width_of i.kind) u.memory memory
  pub is : v ≡ stored memory (next_pc u) u

pub any_beside : (i : Ins) (u v : State) → ((q : ℕ) → byte_at u.memory q < 256) → StoresAny i u v → IsBeside i u v
any_beside i u v small (stores x e) = record { memory = put u.memory (place i u) (width_of i.kind) x; beside = beside_put (place i u) (width_of i.kind) x u.memory small; is = e }
any_beside i u v small (leaves e) = record { memory = u.memory; beside = beside_self (place i u) (width_of i.kind) u.memory small; is = e }

-- a change of a word
pub struck_word : (a y pc : ℕ) (m : Memory) (u : State) → struck (Word a) y (stored m pc u) ≡ stored (put m a 8 y) pc u
unfolding struck
struck_word a y pc m u = refl
