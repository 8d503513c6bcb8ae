-- Each instruction of a generated test has a word, names no register above x13, and is neither EBREAK nor AUIPC.
use Rattle.std.proofs.Common.{◌≡◌, ℕ, zero, suc, ◌+◌, ◌*◌, ◌/◌, ◌%◌, ◌^◌, ◌<◌, ◌≤◌, Bool, true, false, ◌||◌, List, [], ◌∷◌, length, Some, None, refl, ap, ◌∙◌, arith}
use Rattle.std.specs.Prelude.{pos, ◌-ℤ◌, is_none, is_some, nat_le, slice_index, slice_index_or, if◌then◌else◌}
use Rattle.std.specs.List.{list_all}
use Rattle.std.specs.Option.{option_or}
use Rattle.std.proofs.lemmas.Bool.{and_parts, and_from, leb-true, lt-ltb, le-ltb}
use Rattle.std.proofs.lemmas.Int.{ints}
use Rattle.rv_isa.specs.declared.profile.TheConstants.{LAST_ORIGINAL}
use Rattle.rv_isa.specs.Kind.{class_of, writes_rd, reads_rs1, reads_rs2}
use Rattle.rv_isa.specs.Ins.{nop, named_register}
use Rattle.machine.specs.Below.{each, gather}
use Rattle.machine.specs.Table.{R, ins, word_of, encode_of, Ins, Kind, Add, Sub, Xor, Mul, Divu, Addi, Ld, Sd}
use Rattle.tests.specs.Admission.Terms.{if_high, high_register}
use Rattle.tests.specs.Admission.Rules.{is_ebreak}
use Rattle.machine.specs.Operands.{is_auipc}
use Rattle.machine.proofs.Lemmas.{every-append}
use Rattle.machine.specs.Members.{Every}
use Rattle.qed_model.proofs.Lemmas.{has_word, is_some-some_if, addi_word, fits_12}
use Rattle.test_gen.specs.Random.{random_word}
use Rattle.test_gen.specs.Code.{body_registers, register_from, body_forms, body_instruction, return, function, main, code}

-- the facts on each instruction
pub record IsPlain (i : Ins) : Type 0 where
  pub word : has_word i ≡ true
  pub low : is_none (high_register i) ≡ true
  pub kind : (is_ebreak i.kind || is_auipc i.kind) ≡ false

plain : (i : Ins) → has_word i ≡ true → is_none (high_register i) ≡ true → (is_ebreak i.kind || is_auipc i.kind) ≡ false → IsPlain i
plain i w l k = record { word = w; low = l; kind = k }

-- ---- registers
low_named : (b : Bool) (r : ℕ) → r ≤ LAST_ORIGINAL → if_high (named_register b r) ≡ None
low_named true zero h = refl
low_named true (suc r) h = ap (λ t. if t then Some (suc r) else None) (le-ltb LAST_ORIGINAL (suc r) h)
low_named false r h = refl

low_registers : (i : Ins) → i.rd ≤ LAST_ORIGINAL → i.rs1 ≤ LAST_ORIGINAL → i.rs2 ≤ LAST_ORIGINAL → is_none (high_register i) ≡ true
low_registers i d a b =
    let write = low_named (writes_rd (class_of i.kind)) i.rd d in
    let first = low_named (reads_rs1 (class_of i.kind) i.kind) i.rs1 a in
    let second = low_named (reads_rs2 (class_of i.kind) i.kind) i.rs2 b in
    λ n. is_none (option_or (write n) (option_or (first n) (second n)))

-- registers of a list are low
low_index : (xs : List ℕ) (k : ℕ) → list_all (λ x. nat_le x LAST_ORIGINAL) xs ≡ true → slice_index xs k ≤ LAST_ORIGINAL
low_index [] k e = omega arith
low_index (x ∷ xs) zero e = leb-true x LAST_ORIGINAL (and_parts (nat_le x LAST_ORIGINAL) (list_all (λ y. nat_le y LAST_ORIGINAL) xs) e).0
low_index (x ∷ xs) (suc k) e = low_index xs k (and_parts (nat_le x LAST_ORIGINAL) (list_all (λ y. nat_le y LAST_ORIGINAL) xs) e).1

low_body : (place word : ℕ) → register_from place word ≤ LAST_ORIGINAL
low_body place word = low_index body_registers (word / 2 ^ place % 7) refl

-- ---- the forms of body instructions
-- three registers
word_three : (k : Kind) (m d a b : ℕ) → d ≤ LAST_ORIGINAL → a ≤ LAST_ORIGINAL → b ≤ LAST_ORIGINAL → is_some (word_of R m (ins k d a b (pos 0))) ≡ true
unfolding word_of
word_three k m d a b x y z = is_some-some_if _ _ ∙ and_from _ _ (lt-ltb d 32 (omega (arith, x))) (and_from _ _ (lt-ltb a 32 (omega (arith, y))) (and_from _ _ (lt-ltb b 32 (omega (arith, z))) refl))

load_word : (d m : ℕ) → d ≤ LAST_ORIGINAL → m < 256 → has_word (ins Ld d 2 0 (pos (8 * m))) ≡ true
unfolding encode_of word_of
load_word d m x h = is_some-some_if _ _ ∙ and_from _ _ (lt-ltb d 32 (omega (arith, x))) (lt-ltb (8 * m) 2048 (omega (arith, h)))

store_word : (b m : ℕ) → b ≤ LAST_ORIGINAL → m < 256 → has_word (ins Sd 0 2 b (pos (8 * m))) ≡ true
unfolding encode_of word_of
store_word b m x h = is_some-some_if _ _ ∙ and_from _ _ (lt-ltb b 32 (omega (arith, x))) (lt-ltb (8 * m) 2048 (omega (arith, h)))

forms_plain : (d a b m : ℕ) → d ≤ LAST_ORIGINAL → a ≤ LAST_ORIGINAL → b ≤ LAST_ORIGINAL → m < 256 → Every IsPlain (body_forms d a b m)
unfolding encode_of
forms_plain d a b m x y z h =
    let three = λ (k : Kind). low_registers (ins k d a b (pos 0)) x y z in
    let addi : IsPlain (ins Addi d a 0 (pos m -ℤ pos 128)) =
    plain _ (addi_word d a (pos m -ℤ pos 128) (omega (arith, x)) (omega (arith, y)) (fits_12 (pos m -ℤ pos 128) (omega (arith, ints)) (omega (arith, ints, h)))) (low_registers (ins Addi d a 0 (pos m -ℤ pos 128)) x y (omega arith)) refl in
    let load : IsPlain (ins Ld d 2 0 (pos (8 * m))) = plain _ (load_word d m x h) (low_registers (ins Ld d 2 0 (pos (8 * m))) x (omega arith) (omega arith)) refl in
    let store : IsPlain (ins Sd 0 2 b (pos (8 * m))) = plain _ (store_word b m z h) (low_registers (ins Sd 0 2 b (pos (8 * m))) (omega arith) (omega arith) z) refl in
    let add : IsPlain (ins Add d a b (pos 0)) = plain _ (word_three Add 0x33 d a b x y z) (three Add) refl in
    let sub : IsPlain (ins Sub d a b (pos 0)) = plain _ (word_three Sub 0x40000033 d a b x y z) (three Sub) refl in
    let xor : IsPlain (ins Xor d a b (pos 0)) = plain _ (word_three Xor 0x4033 d a b x y z) (three Xor) refl in
    let mul : IsPlain (ins Mul d a b (pos 0)) = plain _ (word_three Mul 0x2000033 d a b x y z) (three Mul) refl in
    let divu : IsPlain (ins Divu d a b (pos 0)) = plain _ (word_three Divu 0x2005033 d a b x y z) (three Divu) refl in
    (add, (sub, (xor, (mul, (addi, (divu, (load, (store, tt))))))))

-- ---- lists
pub every_at : {A : Type 0} (P : A → Type 0) (xs : List A) (k : ℕ) (d : A) → Every P xs → k < length xs → P (slice_index_or xs k d)
every_at P [] k d h l = absurd (omega (arith, l))
every_at P (x ∷ xs) zero d h l = h.0
every_at P (x ∷ xs) (suc k) d h l = every_at P xs k d h.1 (omega (arith, l))

pub every_each : {A : Type 0} (P : A → Type 0) (n : ℕ) (f : ℕ → A) → ((i : ℕ) → P (f i)) → Every P (each n f)
unfolding each
every_each P zero f h = tt
every_each P (suc n) f h = every-append P (each n f) (f n ∷ []) (every_each P n f h) (h n, tt)

every_gather : {A : Type 0} (P : A → Type 0) (n : ℕ) (f : ℕ → List A) → ((i : ℕ) → Every P (f i)) → Every P (gather n f)
unfolding gather
every_gather P zero f h = tt
every_gather P (suc n) f h = every-append P (gather n f) (f n) (every_gather P n f h) (h n)

-- ---- the code
body_plain : (word : ℕ) → IsPlain (body_instruction word)
unfolding body_instruction
body_plain word =
    every_at IsPlain (body_forms (register_from 8 word) (register_from 16 word) (register_from 24 word) (word / 2 ^ 32 % 256)) (word % 8) nop
    (forms_plain (register_from 8 word) (register_from 16 word) (register_from 24 word) (word / 2 ^ 32 % 256) (low_body 8 word) (low_body 16 word) (low_body 24 word) (omega arith))
    (omega arith)

function_plain : (seed i : ℕ) → Every IsPlain (function seed i)
unfolding function encode_of word_of
function_plain seed i =
    every-append IsPlain (each 32 (λ k. body_instruction (random_word seed (32 * i + k)))) (return ∷ [])
    (every_each IsPlain 32 (λ k. body_instruction (random_word seed (32 * i + k))) (λ k. body_plain (random_word seed (32 * i + k))))
    (plain _ refl refl refl, tt)

main_plain : (n : ℕ) → n ≤ 1875 → Every IsPlain (main n)
unfolding main encode_of word_of
main_plain n h =
    let count : IsPlain (ins Addi 9 0 0 (pos n)) = plain _ (addi_word 9 0 (pos n) (omega arith) (omega arith) (lt-ltb n 2048 (omega (arith, h)))) refl refl in
    (plain _ refl refl refl, (plain _ refl refl refl, (plain _ refl refl refl, (count, (plain _ refl refl refl, (plain _ refl refl refl, (plain _ refl refl refl, (plain _ refl refl refl, (plain _ refl refl refl, (plain _ refl refl refl, (plain _ refl refl refl, (plain _ refl refl refl, tt))))))))))))

-- all of the code
pub code_plain : (seed n : ℕ) → n ≤ 1875 → Every IsPlain (code seed n)
unfolding code
code_plain seed n h = every-append IsPlain (main n) (gather n (function seed)) (main_plain n h) (every_gather IsPlain n (function seed) (function_plain seed))
