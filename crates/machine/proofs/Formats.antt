-- Each format: the word of the instruction that a word is, and back.
use Rattle.std.proofs.Common.{◌≡◌, ℕ, suc, ◌+◌, ◌-◌, ◌*◌, ◌/◌, ◌%◌, ◌^◌, ◌<◌, Bool, true, false, cond, ◌&&◌, Some, refl, sym, ap, ◌∙◌, arith}
use Rattle.std.specs.Prelude.{bit_and, ℤ, pos, negsuc, nat_lt, ◌==◌}
use Rattle.std.proofs.lemmas.Bool.{and_parts, and_from, lt-ltb, le-ltb, ltb-true, ltb-false, eqb-true, eq-eqb}
use Rattle.std.proofs.lemmas.Nat.{mod_below}
use Rattle.machine.specs.Table.{Ins, Kind, Format, R, I, H, G, S, B, U, J, N, mask_of, signed, ins, bits_S, bits_B, bits_U, bits_J, ins_of, fits_signed, to_bits, is_zero, fits_below, is_reg, word_R, word_I, word_S, word_B, word_U, word_J, some_if, word_of}
use Rattle.machine.proofs.Masks.{low_is, middle_is, high_is, high6_is, whole_is}

-- ---- signed numbers of n bits
pub to_bits-signed : (n x : ℕ) → 2 ^ n ≡ 2 ^ (n - 1) + 2 ^ (n - 1) → x < 2 ^ n → to_bits n (signed n x) ≡ x
to_bits-signed n x e h =
    elim (nat_lt x (2 ^ (n - 1))) as (λ b. to_bits n (cond b (pos x) (negsuc (2 ^ n - suc x))) ≡ x) [ true ↦ refl | false ↦ omega arith ]

pub fits_signed-signed : (n x : ℕ) → 2 ^ n ≡ 2 ^ (n - 1) + 2 ^ (n - 1) → x < 2 ^ n → fits_signed n (signed n x) ≡ true
fits_signed-signed n x e h =
    elim (nat_lt x (2 ^ (n - 1))) as (λ b. nat_lt x (2 ^ (n - 1)) ≡ b → fits_signed n (cond b (pos x) (negsuc (2 ^ n - suc x))) ≡ true) [
      | true ↦ λ t. t
      | false ↦ λ t. lt-ltb _ _ (omega (arith, ltb-false x (2 ^ (n - 1)) t))
    ] refl

pub signed-to_bits : (n : ℕ) (z : ℤ) → 2 ^ n ≡ 2 ^ (n - 1) + 2 ^ (n - 1) → fits_signed n z ≡ true → signed n (to_bits n z) ≡ z
signed-to_bits n (pos x) e f = rw f
signed-to_bits n (negsuc x) e f =
    let h = ltb-true x (2 ^ (n - 1)) f in
    let no : nat_lt (2 ^ n - suc x) (2 ^ (n - 1)) ≡ false = le-ltb _ _ (omega (arith, h)) in
    let back : 2 ^ n - suc (2 ^ n - suc x) ≡ x = omega (arith, h) in
    rw no (ap negsuc back)

pub to_bits-lt : (n : ℕ) (z : ℤ) → 2 ^ n ≡ 2 ^ (n - 1) + 2 ^ (n - 1) → fits_signed n z ≡ true → to_bits n z < 2 ^ n
to_bits-lt n (pos x) e f = omega (arith, ltb-true x (2 ^ (n - 1)) f)
to_bits-lt n (negsuc x) e f = omega (arith, ltb-true x (2 ^ (n - 1)) f)

-- ---- tests
some_if_parts : (b : Bool) (x w : ℕ) → some_if b x ≡ Some w → (b ≡ true) × (x ≡ w)
some_if_parts true x w e = (refl, cc)
some_if_parts false x w e = absurd (cc)

four_true : (a b c d : Bool) → a ≡ true → b ≡ true → c ≡ true → d ≡ true → (a && (b && (c && d))) ≡ true
four_true a b c d p q r s = rw (p, q, r, s)

record AllTrue (a b c d : Bool) : Type 0 where
  first : a ≡ true
  second : b ≡ true
  third : c ≡ true
  fourth : d ≡ true

four_parts : (a b c d : Bool) → (a && (b && (c && d))) ≡ true → AllTrue a b c d
four_parts a b c d e =
    let p = and_parts _ _ e in
    let q = and_parts _ _ p.1 in
    let r = and_parts _ _ q.1 in
    record { first = p.0; second = q.0; third = r.0; fourth = r.1 }

is_reg-bits : (n : ℕ) → is_reg (n % 32) ≡ true
is_reg-bits n = lt-ltb _ _ (mod_below n 32 (omega arith))

some_word : (b : Bool) (x w : ℕ) → b ≡ true → x ≡ w → some_if b x ≡ Some w
some_word b x w p q = rw (p, q)

same_ins : (i : Ins) (d a b : ℕ) (z : ℤ) → d ≡ i.rd → a ≡ i.rs1 → b ≡ i.rs2 → z ≡ i.imm → ins i.kind d a b z ≡ i
same_ins i d a b z p q r s = λ j. record { kind = i.kind; rd = p j; rs1 = q j; rs2 = r j; imm = s j }

is_zero-true : (z : ℤ) → is_zero z ≡ true → pos 0 ≡ z
is_zero-true (pos x) e = ap pos (sym (eqb-true x 0 e))
is_zero-true (negsuc x) e = absurd (cc)

-- in a format, decoded instructions are encoded as their words; encoded words are bounded, masked and decoded again
pub record Joined (f : Format) : Type 0 where
  pub encoded : (k : Kind) (w m : ℕ) → w < 2 ^ 32 → bit_and w (mask_of f) ≡ m → word_of f m (ins_of f k w) ≡ Some w
  pub bounded : (i : Ins) (m w : ℕ) → m < 2 ^ 32 → bit_and m (mask_of f) ≡ m → word_of f m i ≡ Some w → w < 2 ^ 32
  pub masked : (i : Ins) (m w : ℕ) → m < 2 ^ 32 → bit_and m (mask_of f) ≡ m → word_of f m i ≡ Some w → bit_and w (mask_of f) ≡ m
  pub decoded : (i : Ins) (m w : ℕ) → m < 2 ^ 32 → bit_and m (mask_of f) ≡ m → word_of f m i ≡ Some w → ins_of f i.kind w ≡ i

-- ---- I
fields_I :
    (m d a x w : ℕ) → m < 2 ^ 32 → m / 4096 % 8 * 4096 + m % 128 ≡ m → d < 32 → a < 32 → x < 4096 → word_I m d a x ≡ w
    → (w < 2 ^ 32) × (w / 4096 % 8 * 4096 + w % 128 ≡ m) × (w / 128 % 32 ≡ d) × (w / 32768 % 32 ≡ a) × (w / 1048576 % 4096 ≡ x)
fields_I m d a x w hm em hd ha hx e = (omega arith, omega arith, omega arith, omega arith, omega arith)

-- ---- R
fields_R :
    (m d a b w : ℕ) → m < 2 ^ 32 → m / 33554432 * 33554432 + m / 4096 % 8 * 4096 + m % 128 ≡ m → d < 32 → a < 32 → b < 32 → word_R m d a b ≡ w
    → (w < 2 ^ 32) × (w / 33554432 * 33554432 + w / 4096 % 8 * 4096 + w % 128 ≡ m) × (w / 128 % 32 ≡ d) × (w / 32768 % 32 ≡ a) × (w / 1048576 % 32 ≡ b)
fields_R m d a b w hm em hd ha hb e = (omega arith, omega arith, omega arith, omega arith, omega arith)

-- ---- H and G: an immediate that is not signed
below_pos : (n : ℕ) (z : ℤ) → fits_below n z ≡ true → (to_bits 12 z < 2 ^ n) × (pos (to_bits 12 z) ≡ z)
below_pos n (pos x) e = (ltb-true _ _ e, refl)
below_pos n (negsuc x) e = absurd (cc)

fields_H :
    (m d a x w : ℕ) → m < 2 ^ 32 → m / 67108864 * 67108864 + m / 4096 % 8 * 4096 + m % 128 ≡ m → d < 32 → a < 32 → x < 64 → word_I m d a x ≡ w
    → (w < 2 ^ 32) × (w / 67108864 * 67108864 + w / 4096 % 8 * 4096 + w % 128 ≡ m) × (w / 128 % 32 ≡ d) × (w / 32768 % 32 ≡ a) × (w / 1048576 % 64 ≡ x)
fields_H m d a x w hm em hd ha hx e = (omega arith, omega arith, omega arith, omega arith, omega arith)

-- ---- S
bits_S-lt : (w : ℕ) → bits_S w < 4096
bits_S-lt w = omega arith

fields_S :
    (m a b x w : ℕ) → m < 2 ^ 32 → m / 4096 % 8 * 4096 + m % 128 ≡ m → a < 32 → b < 32 → x < 4096 → word_S m a b x ≡ w
    → (w < 2 ^ 32) × (w / 4096 % 8 * 4096 + w % 128 ≡ m) × (w / 32768 % 32 ≡ a) × (w / 1048576 % 32 ≡ b) × (bits_S w ≡ x)
fields_S m a b x w hm em ha hb hx e = (omega arith, omega arith, omega arith, omega arith, omega arith)

-- ---- B
bits_B-lt : (w : ℕ) → bits_B w < 8192
bits_B-lt w = omega arith

bits_B-even : (w : ℕ) → bits_B w % 2 ≡ 0
bits_B-even w = omega arith

fields_B :
    (m a b x w : ℕ) → m < 2 ^ 32 → m / 4096 % 8 * 4096 + m % 128 ≡ m → a < 32 → b < 32 → x < 8192 → x % 2 ≡ 0 → word_B m a b x ≡ w
    → (w < 2 ^ 32) × (w / 4096 % 8 * 4096 + w % 128 ≡ m) × (w / 32768 % 32 ≡ a) × (w / 1048576 % 32 ≡ b) × (bits_B w ≡ x)
fields_B m a b x w hm em ha hb hx ev e = (omega arith, omega arith, omega arith, omega arith, omega arith)

-- ---- U
bits_U-lt : (w : ℕ) → w / 4096 % 1048576 * 4096 < 4294967296
bits_U-lt w = omega arith

bits_U-grain : (w : ℕ) → w / 4096 % 1048576 * 4096 % 4096 ≡ 0
bits_U-grain w = omega arith

fields_U :
    (m d x w : ℕ) → m < 2 ^ 32 → m % 128 ≡ m → d < 32 → x < 4294967296 → x % 4096 ≡ 0 → word_U m d x ≡ w
    → (w < 2 ^ 32) × (w % 128 ≡ m) × (w / 128 % 32 ≡ d) × (w / 4096 % 1048576 * 4096 ≡ x)
fields_U m d x w hm em hd hx ev e = (omega arith, omega arith, omega arith, omega arith)

-- ---- J
bits_J-lt : (w : ℕ) → bits_J w < 2097152
bits_J-lt w = omega arith

bits_J-even : (w : ℕ) → bits_J w % 2 ≡ 0
bits_J-even w = omega arith

fields_J :
    (m d x w : ℕ) → m < 2 ^ 32 → m % 128 ≡ m → d < 32 → x < 2097152 → x % 2 ≡ 0 → word_J m d x ≡ w
    → (w < 2 ^ 32) × (w % 128 ≡ m) × (w / 128 % 32 ≡ d) × (bits_J w ≡ x)
fields_J m d x w hm em hd hx ev e = (omega arith, omega arith, omega arith, omega arith)

-- ---- each format
encoded : (f : Format) (k : Kind) (w m : ℕ) → w < 2 ^ 32 → bit_and w (mask_of f) ≡ m → word_of f m (ins_of f k w) ≡ Some w
unfolding ins_of word_of
encoded I k w m h e =
    let x = w / 2 ^ 20 in
    let f : x % 4096 < 4096 = mod_below x 4096 (omega arith) in
    some_word _ _ w
    (four_true _ _ _ _ (is_reg-bits (w / 2 ^ 7)) (is_reg-bits (w / 2 ^ 15)) refl (fits_signed-signed 12 (x % 4096) refl f))
    (ap (λ v. m + w / 128 % 32 * 128 + w / 32768 % 32 * 32768 + v * 1048576) (to_bits-signed 12 (x % 4096) refl f) ∙ omega (arith, h, sym (middle_is w) ∙ e))
encoded R k w m h e =
    some_word _ _ w
    (four_true _ _ _ _ (is_reg-bits (w / 2 ^ 7)) (is_reg-bits (w / 2 ^ 15)) (is_reg-bits (w / 2 ^ 20)) refl)
    (omega (arith, h, sym (high_is w h) ∙ e))
encoded H k w m h e =
    some_word _ _ w
    (four_true _ _ _ _ (is_reg-bits (w / 2 ^ 7)) (is_reg-bits (w / 2 ^ 15)) refl (lt-ltb _ _ (mod_below (w / 2 ^ 20) 64 (omega arith))))
    (omega (arith, h, sym (high6_is w h) ∙ e))
encoded G k w m h e =
    some_word _ _ w
    (four_true _ _ _ _ (is_reg-bits (w / 2 ^ 7)) (is_reg-bits (w / 2 ^ 15)) refl (lt-ltb _ _ (mod_below (w / 2 ^ 20) 32 (omega arith))))
    (omega (arith, h, sym (high_is w h) ∙ e))
encoded S k w m h e =
    some_word _ _ w
    (four_true _ _ _ _ refl (is_reg-bits (w / 2 ^ 15)) (is_reg-bits (w / 2 ^ 20)) (fits_signed-signed 12 (bits_S w) refl (bits_S-lt w)))
    (ap (word_S m (w / 32768 % 32) (w / 1048576 % 32)) (to_bits-signed 12 (bits_S w) refl (bits_S-lt w)) ∙ omega (arith, h, sym (middle_is w) ∙ e))
encoded B k w m h e =
    let back = to_bits-signed 13 (bits_B w) refl (bits_B-lt w) in
    let even : (to_bits 13 (signed 13 (bits_B w)) % 2 == 0) ≡ true = eq-eqb _ _ (ap (λ x. x % 2) back ∙ bits_B-even w) in
    some_word _ _ w
    (four_true _ _ _ _ refl (is_reg-bits (w / 2 ^ 15)) (is_reg-bits (w / 2 ^ 20)) (and_from _ _ (fits_signed-signed 13 (bits_B w) refl (bits_B-lt w)) even))
    (ap (word_B m (w / 32768 % 32) (w / 1048576 % 32)) back ∙ omega (arith, h, sym (middle_is w) ∙ e))
encoded U k w m h e =
    let x = bits_U w in
    let back = to_bits-signed 32 x refl (bits_U-lt w) in
    let grain : (to_bits 32 (signed 32 x) % 4096 == 0) ≡ true = eq-eqb _ _ (ap (λ x. x % 4096) back ∙ bits_U-grain w) in
    some_word _ _ w
    (four_true _ _ _ _ (is_reg-bits (w / 2 ^ 7)) refl refl (and_from _ _ (fits_signed-signed 32 x refl (bits_U-lt w)) grain))
    (ap (word_U m (w / 128 % 32)) back ∙ omega (arith, h, sym (low_is w) ∙ e))
encoded J k w m h e =
    let back = to_bits-signed 21 (bits_J w) refl (bits_J-lt w) in
    let even : (to_bits 21 (signed 21 (bits_J w)) % 2 == 0) ≡ true = eq-eqb _ _ (ap (λ x. x % 2) back ∙ bits_J-even w) in
    some_word _ _ w
    (four_true _ _ _ _ (is_reg-bits (w / 2 ^ 7)) refl refl (and_from _ _ (fits_signed-signed 21 (bits_J w) refl (bits_J-lt w)) even))
    (ap (word_J m (w / 128 % 32)) back ∙ omega (arith, h, sym (low_is w) ∙ e))
encoded N k w m h e = ap Some (sym e ∙ whole_is w h)

parts :
    (f : Format) (i : Ins) (m w : ℕ) → m < 2 ^ 32 → bit_and m (mask_of f) ≡ m → word_of f m i ≡ Some w
    → (w < 2 ^ 32) × (bit_and w (mask_of f) ≡ m) × (ins_of f i.kind w ≡ i)
unfolding ins_of word_of
parts I i m w hm em e =
    let s = some_if_parts _ _ w e in
    let t = four_parts _ _ _ _ s.0 in
    let f = fields_I m i.rd i.rs1 (to_bits 12 i.imm) w hm (sym (middle_is m) ∙ em) (ltb-true _ _ t.first) (ltb-true _ _ t.second) (to_bits-lt 12 i.imm refl t.fourth) s.1 in
    (f.0, middle_is w ∙ f.1, same_ins i _ _ _ _ f.2 f.3 (sym (eqb-true _ _ t.third)) (ap (signed 12) f.4 ∙ signed-to_bits 12 i.imm refl t.fourth))
parts R i m w hm em e =
    let s = some_if_parts _ _ w e in
    let t = four_parts _ _ _ _ s.0 in
    let f = fields_R m i.rd i.rs1 i.rs2 w hm (sym (high_is m hm) ∙ em) (ltb-true _ _ t.first) (ltb-true _ _ t.second) (ltb-true _ _ t.third) s.1 in
    (f.0, high_is w f.0 ∙ f.1, same_ins i _ _ _ _ f.2 f.3 f.4 (is_zero-true i.imm t.fourth))
parts H i m w hm em e =
    let s = some_if_parts _ _ w e in
    let t = four_parts _ _ _ _ s.0 in
    let z = below_pos 6 i.imm t.fourth in
    let f = fields_H m i.rd i.rs1 (to_bits 12 i.imm) w hm (sym (high6_is m hm) ∙ em) (ltb-true _ _ t.first) (ltb-true _ _ t.second) z.0 s.1 in
    (f.0, high6_is w f.0 ∙ f.1, same_ins i _ _ _ _ f.2 f.3 (sym (eqb-true _ _ t.third)) (ap pos f.4 ∙ z.1))
parts G i m w hm em e =
    let s = some_if_parts _ _ w e in
    let t = four_parts _ _ _ _ s.0 in
    let z = below_pos 5 i.imm t.fourth in
    let f = fields_R m i.rd i.rs1 (to_bits 12 i.imm) w hm (sym (high_is m hm) ∙ em) (ltb-true _ _ t.first) (ltb-true _ _ t.second) z.0 s.1 in
    (f.0, high_is w f.0 ∙ f.1, same_ins i _ _ _ _ f.2 f.3 (sym (eqb-true _ _ t.third)) (ap pos f.4 ∙ z.1))
parts S i m w hm em e =
    let s = some_if_parts _ _ w e in
    let t = four_parts _ _ _ _ s.0 in
    let f = fields_S m i.rs1 i.rs2 (to_bits 12 i.imm) w hm (sym (middle_is m) ∙ em) (ltb-true _ _ t.second) (ltb-true _ _ t.third) (to_bits-lt 12 i.imm refl t.fourth) s.1 in
    (f.0, middle_is w ∙ f.1, same_ins i _ _ _ _ (sym (eqb-true _ _ t.first)) f.2 f.3 (ap (signed 12) f.4 ∙ signed-to_bits 12 i.imm refl t.fourth))
parts B i m w hm em e =
    let s = some_if_parts _ _ w e in
    let t = four_parts _ _ _ _ s.0 in
    let u = and_parts _ _ t.fourth in
    let f = fields_B m i.rs1 i.rs2 (to_bits 13 i.imm) w hm (sym (middle_is m) ∙ em) (ltb-true _ _ t.second) (ltb-true _ _ t.third) (to_bits-lt 13 i.imm refl u.0) (eqb-true _ _ u.1) s.1 in
    (f.0, middle_is w ∙ f.1, same_ins i _ _ _ _ (sym (eqb-true _ _ t.first)) f.2 f.3 (ap (signed 13) f.4 ∙ signed-to_bits 13 i.imm refl u.0))
parts U i m w hm em e =
    let s = some_if_parts _ _ w e in
    let t = four_parts _ _ _ _ s.0 in
    let u = and_parts _ _ t.fourth in
    let f = fields_U m i.rd (to_bits 32 i.imm) w hm (sym (low_is m) ∙ em) (ltb-true _ _ t.first) (to_bits-lt 32 i.imm refl u.0) (eqb-true _ _ u.1) s.1 in
    (f.0, low_is w ∙ f.1, same_ins i _ _ _ _ f.2 (sym (eqb-true _ _ t.second)) (sym (eqb-true _ _ t.third)) (ap (signed 32) f.3 ∙ signed-to_bits 32 i.imm refl u.0))
parts J i m w hm em e =
    let s = some_if_parts _ _ w e in
    let t = four_parts _ _ _ _ s.0 in
    let u = and_parts _ _ t.fourth in
    let f = fields_J m i.rd (to_bits 21 i.imm) w hm (sym (low_is m) ∙ em) (ltb-true _ _ t.first) (to_bits-lt 21 i.imm refl u.0) (eqb-true _ _ u.1) s.1 in
    (f.0, low_is w ∙ f.1, same_ins i _ _ _ _ f.2 (sym (eqb-true _ _ t.second)) (sym (eqb-true _ _ t.third)) (ap (signed 21) f.3 ∙ signed-to_bits 21 i.imm refl u.0))
parts N i m w hm em e =
    let s = some_if_parts _ _ w e in
    let t = four_parts _ _ _ _ s.0 in
    let b : w < 2 ^ 32 = omega (arith, s.1) in
    (b, whole_is w b ∙ sym s.1, same_ins i _ _ _ _ (sym (eqb-true _ _ t.first)) (sym (eqb-true _ _ t.second)) (sym (eqb-true _ _ t.third)) (is_zero-true i.imm t.fourth))

pub joined : (f : Format) → Joined f
joined f = record {
  encoded = encoded f;
  bounded = λ i m w hm em e. (parts f i m w hm em e).0;
  masked = λ i m w hm em e. (parts f i m w hm em e).1;
  decoded = λ i m w hm em e. (parts f i m w hm em e).2;
}
