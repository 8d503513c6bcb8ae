-- What holds of x15 and x16 from the entry of a block to its leave, taken apart and put together.
use Rattle.std.proofs.Common.{◌≡◌, ℕ, ◌+◌, ◌-◌, ◌*◌, ◌/◌, ◌%◌, ◌^◌, ◌<◌, ◌≤◌, true, sym, ◌∙◌, subst, arith}
use Rattle.std.proofs.lemmas.Bool.{and_parts, and_from, eqb-true, eq-eqb, leb-true, le-leb, ltb-true, lt-ltb}
use Rattle.weave_core.specs.World.{World, IsCursor, CURSOR, SIGNATURE, State, reg}
use Rattle.weave_core.proofs.Lemmas.{cursor_decided, cursor_is}
use Rattle.qed_model.specs.Weave.Lean.{first_word}
use Rattle.lean.specs.Ticked.{cursor_offset, count_of, with_count, is_ticked_at}

-- x15 has the count and the offset of a word, and the signature is an address
pub record Ticked (every : ℕ) (w : World) (u : State) (a : ℕ) : Type 0 where
  pub count : ℕ
  pub least : 2047 ≤ count + every
  pub most : count ≤ 2047
  pub offset : ℕ
  pub few : offset < 2 ^ 32
  pub fifteen : reg u CURSOR ≡ with_count offset count
  pub sign : reg u SIGNATURE ≡ a
  pub cursor : IsCursor w.form.spans (first_word w.base w.form.spans + offset)

pub ticked_of : (every : ℕ) (w : World) (u : State) (a : ℕ) → is_ticked_at every w u a ≡ true → Ticked every w u a
ticked_of every w u a e =
    let p = and_parts _ _ e in
    let q = and_parts _ _ p.0 in
    let r = and_parts _ _ q.0 in
    let z = and_parts _ _ q.1 in
    let low = leb-true (2047 - every) (count_of (reg u CURSOR)) r.0 in
    let small = ltb-true (reg u CURSOR) (2 ^ 44) z.0 in
    record {
      count = count_of (reg u CURSOR);
      least = omega (arith, low);
      most = leb-true (count_of (reg u CURSOR)) 2047 r.1;
      offset = cursor_offset (reg u CURSOR);
      few = omega (arith, small);
      fifteen = omega arith;
      sign = eqb-true _ _ z.1;
      cursor = cursor_decided w.form.spans (first_word w.base w.form.spans + cursor_offset (reg u CURSOR)) p.1;
    }

-- both parts of a number that was made of them
same_offset : (k c x : ℕ) → c ≤ 2047 → x ≡ k * 2 ^ 12 + c → x / 2 ^ 12 ≡ k
same_offset k c x h e = omega (arith, h, e)

same_count : (k c x : ℕ) → c ≤ 2047 → x ≡ k * 2 ^ 12 + c → x % 2 ^ 12 ≡ c
same_count k c x h e = omega (arith, h, e)

pub ticked_is :
    (every : ℕ) (w : World) (u : State) (a offset count : ℕ) → reg u CURSOR ≡ with_count offset count → 2047 ≤ count + every → count ≤ 2047 → offset < 2 ^ 32 → reg u SIGNATURE ≡ a
    → IsCursor w.form.spans (first_word w.base w.form.spans + offset) → is_ticked_at every w u a ≡ true
ticked_is every w u a offset count at least most few sign cur =
    let k = same_offset offset count (reg u CURSOR) most at in
    let c = same_count offset count (reg u CURSOR) most at in
    and_from _ _ (and_from _ _ (and_from _ _ (le-leb (2047 - every) (count_of (reg u CURSOR)) (omega (arith, c, least))) (le-leb (count_of (reg u CURSOR)) 2047 (omega (arith, c, most)))) (and_from _ _ (lt-ltb (reg u CURSOR) (2 ^ 44) (omega (arith, at, most, few))) (eq-eqb (reg u SIGNATURE) a sign)))
    (cursor_is w.form.spans (first_word w.base w.form.spans + cursor_offset (reg u CURSOR)) (subst (λ n. IsCursor w.form.spans (first_word w.base w.form.spans + n)) (sym k) cur))

-- in a state with the same x15 and x16
pub ticked_same : (every : ℕ) (w : World) (u x : State) (a : ℕ) → reg x CURSOR ≡ reg u CURSOR → reg x SIGNATURE ≡ reg u SIGNATURE → is_ticked_at every w u a ≡ true → is_ticked_at every w x a ≡ true
ticked_same every w u x a e f h =
    let t = ticked_of every w u a h in
    ticked_is every w x a t.offset t.count (e ∙ t.fifteen) t.least t.most t.few (f ∙ t.sign) t.cursor
