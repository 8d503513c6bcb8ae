-- The printed operands of an instruction, by the form, and the word that is read from them.
use Rattle.std.proofs.Common.{◌≡◌, ℕ, suc, ◌-◌, ◌*◌, ◌^◌, ◌<◌, ◌≤◌, true, false, cond, Option, Some, None, Result, Ok, Err, List, [], ◌∷◌, ◌++◌, length, ℤ, pos, negsuc, refl, sym, ap, ◌∙◌, subst, arith, codes, append_assoc, append-nil}
use Rattle.std.specs.Prelude.{nat_lt}
use Rattle.std.specs.Fmt.{signed_decimal}
use Rattle.std.specs.List.{list_all, suffix_len}
use Rattle.std.specs.Option.{ok_or}
use Rattle.std.proofs.lemmas.Bool.{ltb-true, lt-ltb}
use Rattle.std.proofs.lemmas.List.{length-append}
use Rattle.std.proofs.lemmas.Option.{same_Some}
use Rattle.rv_isa.specs.Field.{bits}
use Rattle.rv_isa.specs.Kind.{class_of}
use Rattle.rv_isa.specs.declared.class.Class.{Class}
use Rattle.rv_isa.specs.declared.class.Class.TheVariants as class
use Rattle.machine.specs.Table.{Format, R, I, H, G, S, B, U, J, N, signed, ins, ins_of, bits_S, bits_B, bits_J, row_of, decode_of, encode_of, Ins, Kind}
use Rattle.machine.proofs.Lemmas.{encode_decode, decode-fits, fits-decode}
use Rattle.rv_text.specs.declared.forms.Form.{Form}
use Rattle.rv_text.specs.declared.forms.Form.TheVariants.{Registers, Immediate, Load, Store, Branch, Upper, Jump, Bare}
use Rattle.rv_text.specs.Forms.{form_in, text_form}
use Rattle.rv_text.specs.Text.{register_text, pair_text, place_text, upper_text, operands_text}
use Rattle.rv_asm.specs.declared.error.Fault.{Fault}
use Rattle.rv_asm.specs.declared.error.Fault.TheVariants.{IllegalOperands, OutOfRange}
use Rattle.rv_asm.specs.declared.labels.Label.{Label}
use Rattle.rv_asm.specs.declared.operands.Operands.{Operands}
use Rattle.rv_asm.specs.Lines.{is_blank, word_end, trim, trim_start, trim_end, pair_in, triple_in}
use Rattle.rv_asm.specs.Operands.{register_in, registers_from, immediate_from, load_from, load_with, store_from, store_with, upper_from, operands_with, target_with, target_in, with_target, branch_from, jump_from, operands_in, imm_in, encoded_with, encoded, word_with, assembled_word}
use Rattle.listing.proofs.Texts.Numbers.{IsNear}
use Rattle.listing.proofs.Texts.Parts.{is_inline, IsText, joined_text, trim_space, pair_is, triple_is}
use Rattle.listing.proofs.Texts.Printed.{IsOperand, IsRegister, register_is, IsImmediate, immediate_is, address_is, IsUpper, upper_is}

-- ---- what stands behind the first word
pub record IsBehind (text operands : List ℕ) : Type 0 where
  pub ends : word_end text ≡ 0
  pub rest : trim text ≡ operands
  pub back : (name : List ℕ) → suffix_len is_blank name ≡ 0 → suffix_len is_blank (name ++ text) ≡ 0
  pub inline : list_all is_inline text ≡ true
  pub short : length text ≤ 80

pub space_behind : (text : List ℕ) → IsText text → length text ≤ 79 → IsBehind (32 ∷ text) text
space_behind text t short = record {
  ends = refl;
  rest = trim_space text t;
  back = λ name h. ap (suffix_len is_blank) (sym (append_assoc name (32 ∷ []) text)) ∙ t.back (name ++ 32 ∷ []);
  inline = t.inline;
  short = omega (arith, short);
}

none_behind : IsBehind [] []
unfolding trim trim_start trim_end
none_behind = record {
  ends = refl;
  rest = refl;
  back = λ name h. ap (suffix_len is_blank) (append-nil name) ∙ h;
  inline = refl;
  short = omega arith;
}

-- ---- the word of operands, by the form
pub word_as : Form → Kind → Result Operands Fault → Result ℕ Fault
word_as f k (Err e) = Err e
word_as f k (Ok o) = ok_or (encoded_with k o (imm_in f o.imm)) OutOfRange

as_word : (k : Kind) (r : Result Operands Fault) → word_with k r ≡ word_as (text_form k) k r
unfolding word_as encoded
as_word k (Err e) = refl
as_word k (Ok o) = refl

-- the printed operands of an instruction give its word
pub record IsRead (labels : List ℕ → Option Label) (at : ℕ) (f : Form) (i : Ins) (w : ℕ) : Type 0 where
  pub operands : List ℕ
  pub behind : IsBehind (operands_text f i w) operands
  pub reads : word_as f i.kind (operands_in labels at f operands) ≡ ok_or (encode_of i) OutOfRange

-- ---- by forms
module _ (labels : List ℕ → Option Label) (at : ℕ) (k : Kind) (w : ℕ) where
  -- the word of operands that were found
  abbrev taken : Form → Option Operands → Result ℕ Fault
  taken f o = word_as f k (ok_or o IllegalOperands)

  -- two and three operands, by the word that they make
  two : (f : Form) (i : Ins) (a b : List ℕ) (made : Option (List ℕ × List ℕ) → Result ℕ Fault) → IsOperand a → IsOperand b → operands_text f i w ≡ 32 ∷ pair_text a b
      → word_as f i.kind (operands_in labels at f (pair_text a b)) ≡ made (pair_in (pair_text a b)) → made (Some (a, b)) ≡ ok_or (encode_of i) OutOfRange → IsRead labels at f i w
  two f i a b made p q text reads is =
      let size = length-append a (codes ", " ++ b) in
      let behind = space_behind (pair_text a b) (joined_text a (codes ", ") b p.part.is refl q.part.is) (omega (arith, size, p.short, q.short)) in
      record { operands = pair_text a b; behind = subst (λ x. IsBehind x (pair_text a b)) (sym text) behind; reads = reads ∙ ap made (pair_is a b p.part q.part.is) ∙ is }

  three : (f : Form) (i : Ins) (a b c : List ℕ) (made : Option (List ℕ × List ℕ × List ℕ) → Result ℕ Fault) → IsOperand a → IsOperand b → IsOperand c
      → operands_text f i w ≡ 32 ∷ pair_text a (pair_text b c) → word_as f i.kind (operands_in labels at f (pair_text a (pair_text b c))) ≡ made (triple_in (pair_text a (pair_text b c)))
      → made (Some (a, b, c)) ≡ ok_or (encode_of i) OutOfRange → IsRead labels at f i w
  three f i a b c made p q r text reads is =
      let rest = pair_text b c in
      let whole = joined_text a (codes ", ") rest p.part.is refl (joined_text b (codes ", ") c q.part.is refl r.part.is) in
      let size = length-append a (codes ", " ++ rest) in
      let rest_size = length-append b (codes ", " ++ c) in
      let behind = space_behind (pair_text a rest) whole (omega (arith, size, rest_size, p.short, q.short, r.short)) in
      record { operands = pair_text a rest; behind = subst (λ x. IsBehind x (pair_text a rest)) (sym text) behind; reads = reads ∙ ap made (triple_is a b c p.part q.part r.part.is) ∙ is }

  registers_back : (d a b : ℕ) → IsRegister d → IsRegister a → IsRegister b → IsRead labels at Registers (ins k d a b (pos 0)) w
  unfolding operands_text operands_in word_as
  registers_back d a b p q r =
      three Registers (ins k d a b (pos 0)) (register_text d) (register_text a) (register_text b) (λ o. taken Registers (registers_from o)) p.operand q.operand r.operand refl refl
      (λ i. taken Registers (operands_with (p.reads i) (q.reads i) (r.reads i) (Some (pos 0))))

  immediate_back : (d a : ℕ) (z : ℤ) → IsRegister d → IsRegister a → IsImmediate z → IsRead labels at Immediate (ins k d a 0 z) w
  unfolding operands_text operands_in word_as
  immediate_back d a z p q r =
      three Immediate (ins k d a 0 z) (register_text d) (register_text a) (signed_decimal z) (λ o. taken Immediate (immediate_from o)) p.operand q.operand r.operand refl refl
      (λ i. taken Immediate (operands_with (p.reads i) (q.reads i) (Some 0) (r.reads i)))

  branch_back : (a b : ℕ) (z : ℤ) → IsRegister a → IsRegister b → IsImmediate z → IsRead labels at Branch (ins k 0 a b z) w
  unfolding operands_text operands_in word_as target_in
  branch_back a b z p q r =
      let registers = λ (x y : Option ℕ). operands_with (Some 0) x y (Some (pos 0)) in
      three Branch (ins k 0 a b z) (register_text a) (register_text b) (signed_decimal z) (λ o. word_as Branch k (branch_from labels at o)) p.operand q.operand r.operand refl refl
      (λ i. word_as Branch k (with_target (registers (p.reads i) (q.reads i)) (target_with labels at (signed_decimal z) (r.reads i))))

  load_back : (d a : ℕ) (z : ℤ) → IsRegister d → IsRegister a → IsImmediate z → IsRead labels at Load (ins k d a 0 z) w
  unfolding operands_text operands_in word_as
  load_back d a z p q r =
      let place = address_is z a r q in
      two Load (ins k d a 0 z) (register_text d) (place_text z a) (λ o. taken Load (load_from o)) p.operand place.operand refl refl
      (ap (λ o. taken Load (load_with (register_in (register_text d)) o)) place.parts ∙ λ i. taken Load (operands_with (p.reads i) (q.reads i) (Some 0) (r.reads i)))

  store_back : (a b : ℕ) (z : ℤ) → IsRegister a → IsRegister b → IsImmediate z → IsRead labels at Store (ins k 0 a b z) w
  unfolding operands_text operands_in word_as
  store_back a b z q p r =
      let place = address_is z a r q in
      two Store (ins k 0 a b z) (register_text b) (place_text z a) (λ o. taken Store (store_from o)) p.operand place.operand refl refl
      (ap (λ o. taken Store (store_with (register_in (register_text b)) o)) place.parts ∙ λ i. taken Store (operands_with (Some 0) (q.reads i) (p.reads i) (r.reads i)))

  jump_back : (d : ℕ) (z : ℤ) → IsRegister d → IsImmediate z → IsRead labels at Jump (ins k d 0 0 z) w
  unfolding operands_text operands_in word_as target_in
  jump_back d z p r =
      let registers = λ (x : Option ℕ). operands_with x (Some 0) (Some 0) (Some (pos 0)) in
      two Jump (ins k d 0 0 z) (register_text d) (signed_decimal z) (λ o. word_as Jump k (jump_from labels at o)) p.operand r.operand refl refl
      (λ i. word_as Jump k (with_target (registers (p.reads i)) (target_with labels at (signed_decimal z) (r.reads i))))

  upper_back : (d : ℕ) → IsRegister d → bits w 12 20 < 2 ^ 20 → IsUpper (bits w 12 20)
      → IsRead labels at Upper (ins k d 0 0 (signed 32 (bits w 12 20 * 2 ^ 12))) w
  unfolding operands_text operands_in word_as
  upper_back d p h r =
      let n = bits w 12 20 in
      let imm = signed 32 (n * 2 ^ 12) in
      let read : Operands = record { rd = d; rs1 = 0; rs2 = 0; imm = pos n } in
      two Upper (ins k d 0 0 imm) (register_text d) (upper_text n) (λ o. taken Upper (upper_from o)) p.operand r.operand refl refl
      ((λ i. taken Upper (operands_with (p.reads i) (Some 0) (Some 0) (r.reads i))) ∙ ap (λ b. ok_or (encoded_with k read (cond b (Some imm) None)) OutOfRange) (lt-ltb n (2 ^ 20) h))

  bare_back : IsRead labels at Bare (ins k 0 0 0 (pos 0)) w
  unfolding operands_text operands_in word_as
  bare_back = record { operands = []; behind = none_behind; reads = refl }

  -- ---- by formats
  field_is : (lo : ℕ) → IsRegister (bits w lo 5)
  field_is lo = register_is (bits w lo 5) (omega arith)

  signed_is : (n x : ℕ) → 2 ^ (n - 1) ≤ 2 ^ 62 → 2 ^ n ≤ 2 ^ 62 → IsImmediate (signed n x)
  signed_is n x h m = immediate_is (signed n x) near where
    near : IsNear (signed n x)
    near =
        elim (nat_lt x (2 ^ (n - 1))) as (λ b. nat_lt x (2 ^ (n - 1)) ≡ b → IsNear (cond b (pos x) (negsuc (2 ^ n - suc x))))
        [ true ↦ λ e. let less = ltb-true x (2 ^ (n - 1)) e in omega arith | false ↦ λ e. omega arith ]
        refl

  amount_is : (n : ℕ) → n < 2 ^ 6 → IsImmediate (pos n)
  amount_is n h = immediate_is (pos n) (omega arith)

  twelve : IsImmediate (signed 12 (bits w 20 12))
  twelve = signed_is 12 (bits w 20 12) (omega arith) (omega arith)

  abbrev rd : ℕ
  rd = bits w 7 5

  abbrev rs1 : ℕ
  rs1 = bits w 15 5

  abbrev rs2 : ℕ
  rs2 = bits w 20 5

  by_class : (c : Class) → IsRead labels at (form_in I c) (ins_of I k w) w
  unfolding ins_of
  by_class class.Load = load_back rd rs1 (signed 12 (bits w 20 12)) (field_is 7) (field_is 15) twelve
  by_class class.JumpReg = load_back rd rs1 (signed 12 (bits w 20 12)) (field_is 7) (field_is 15) twelve
  by_class _ = immediate_back rd rs1 (signed 12 (bits w 20 12)) (field_is 7) (field_is 15) twelve

  by_format : (f : Format) (c : Class) → IsRead labels at (form_in f c) (ins_of f k w) w
  unfolding ins_of
  by_format R c = registers_back rd rs1 rs2 (field_is 7) (field_is 15) (field_is 20)
  by_format I c = by_class c
  by_format H c = immediate_back rd rs1 (pos (bits w 20 6)) (field_is 7) (field_is 15) (amount_is (bits w 20 6) (omega arith))
  by_format G c = immediate_back rd rs1 (pos rs2) (field_is 7) (field_is 15) (amount_is rs2 (omega arith))
  by_format S c =
      let imm = bits_S w in
      store_back rs1 rs2 (signed 12 imm) (field_is 15) (field_is 20) (signed_is 12 imm (omega arith) (omega arith))
  by_format B c =
      let imm = bits_B w in
      branch_back rs1 rs2 (signed 13 imm) (field_is 15) (field_is 20) (signed_is 13 imm (omega arith) (omega arith))
  by_format U c = let small : bits w 12 20 < 2 ^ 20 = omega arith in upper_back rd (field_is 7) small (upper_is (bits w 12 20) small)
  by_format J c = let imm = bits_J w in jump_back rd (signed 21 imm) (field_is 7) (signed_is 21 imm (omega arith) (omega arith))
  by_format N c = bare_back

-- ---- of a word with an instruction
module _ (labels : List ℕ → Option Label) (at : ℕ) where
  is_ins : (w : ℕ) (i : Ins) → decode_of w ≡ Some i → ins_of (row_of i.kind).format i.kind w ≡ i
  is_ins w i e = same_Some (ins_of (row_of i.kind).format i.kind w) i (sym (decode-fits i.kind w (fits-decode w i e)) ∙ e)

  pub read_back : (w : ℕ) (i : Ins) → decode_of w ≡ Some i → IsRead labels at (text_form i.kind) i w
  unfolding text_form
  read_back w i e =
      let k = i.kind in
      let f = (row_of k).format in
      let c = class_of k in
      subst (λ j. IsRead labels at (form_in f c) j w) (is_ins w i e) (by_format labels at k w f c)

  pub word_back : (w : ℕ) (i : Ins) (r : IsRead labels at (text_form i.kind) i w) → w < 2 ^ 32 → decode_of w ≡ Some i
      → assembled_word labels at i.kind r.operands ≡ Ok w
  unfolding assembled_word
  word_back w i r h e =
      as_word i.kind (operands_in labels at (text_form i.kind) r.operands) ∙ (r.reads ∙ ap (λ o. ok_or o OutOfRange) (encode_decode w i h e))
