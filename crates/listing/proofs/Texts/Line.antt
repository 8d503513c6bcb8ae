-- The text of a word is a line that gives this word.
use Rattle.std.proofs.Common.{◌≡◌, ℕ, ◌+◌, ◌^◌, ◌<◌, ◌≤◌, true, false, cond, not, ◌||◌, eqb, Option, Some, None, Ok, Err, List, [], ◌∷◌, ◌++◌, length, take, drop, refl, sym, ap, ◌∙◌, arith, append_assoc, codes}
use Rattle.std.specs.List.{list_all, prefix_len, suffix_len}
use Rattle.std.proofs.lemmas.Bool.{and_parts, lt-ltb, not-true, not_from_false, or_parts}
use Rattle.std.proofs.lemmas.List.{take_at, drop_at, length-append}
use Rattle.machine.specs.Table.{decode_of, Ins}
use Rattle.texts.specs.Printed.{word_text}
use Rattle.texts.specs.Read.{colon, parted}
use Rattle.rv_text.specs.Forms.{text_form}
use Rattle.rv_text.specs.Names.{name_of}
use Rattle.rv_text.specs.Text.{operands_text, text_with, text_of}
use Rattle.rv_asm.specs.declared.error.Fault.TheVariants.{IllegalOperands, Unrecognized, SectionFull}
use Rattle.rv_asm.specs.declared.given.Given.TheVariants as given
use Rattle.rv_asm.specs.declared.heads.Head.TheVariants.{Blank, Instruction, Word}
use Rattle.rv_asm.specs.declared.labels.Label.{Label}
use Rattle.rv_asm.specs.declared.place.Place.{Place}
use Rattle.rv_asm.specs.Assembled.{head_in, is_data_start, gives_code}
use Rattle.rv_asm.specs.Given.{max_code, address_at, code_given, in_code, given_by}
use Rattle.rv_asm.specs.Heads.{head_of}
use Rattle.rv_asm.specs.Lines.{is_blank, hash, newline, front_of, statement, word_end, leading_word, rest_in, trim, trim_start, trim_end}
use Rattle.rv_asm.specs.Operands.{assembled_word, raw_word_in}
use Rattle.std.specs.Option.{ok_or}
use Rattle.listing.proofs.Texts.Heads.{IsFirstWord, name_is, head_is, word_head, word_first}
use Rattle.listing.proofs.Texts.Operands.{IsBehind, space_behind, read_back, word_back}
use Rattle.listing.proofs.Texts.Parts.{is_plain, is_inline, lacks, not_byte, plain_blank, all_weaker, all_append, parted_none, IsText, plain_text, trim_text}
use Rattle.listing.proofs.Texts.Printed.{raw_word_is}

-- ---- the first word, and what stands behind it
inline_parts : (c : ℕ) → is_inline c ≡ true → (eqb c hash ≡ false) × (eqb c newline ≡ false)
inline_parts c h = or_parts (eqb c hash) (eqb c newline) (not-true (eqb c hash || eqb c newline) h)

no_hash : (line : List ℕ) → list_all is_inline line ≡ true → lacks hash line ≡ true
no_hash line h = all_weaker is_inline (λ c. not (eqb c hash)) line (λ c p. not_from_false (eqb c hash) (inline_parts c p).0) h

no_newline : (line : List ℕ) → list_all is_inline line ≡ true → lacks newline line ≡ true
no_newline line h = all_weaker is_inline (λ c. not (eqb c newline)) line (λ c p. not_from_false (eqb c newline) (inline_parts c p).1) h

name_end : (name text : List ℕ) → list_all is_plain name ≡ true → word_end text ≡ 0 → word_end (name ++ text) ≡ length name
name_end [] text h e = e
name_end (c ∷ name) text h e =
    let parts = and_parts (is_plain c) (list_all is_plain name) h in
    let rest = name_end name text parts.1 e in
    ap (λ b. cond b 0 (cond (eqb c colon) 1 (1 + word_end (name ++ text)))) (plain_blank c parts.0)
    ∙ (ap (λ b. cond b 1 (1 + word_end (name ++ text))) (not_byte colon c refl parts.0) ∙ omega (arith, rest))

-- a line that says itself
pub record IsLine (line : List ℕ) : Type 0 where
  pub says : statement line ≡ line
  pub is : IsText line
  pub no_hash : lacks hash line ≡ true
  pub whole : lacks newline line ≡ true
  pub some : 1 ≤ length line
  pub short : length line ≤ 88

record HasParts (line name operands : List ℕ) : Type 0 where
  word : leading_word line ≡ name
  rest : rest_in line ≡ operands
  own : IsLine line

module _ (name text operands : List ℕ) (first : IsFirstWord name) (behind : IsBehind text operands) where
  line_text : IsText (name ++ text)
  line_text =
      let n = plain_text name first.some first.plain in
      record {
        front = λ more. ap (prefix_len is_blank) (append_assoc name text more) ∙ n.front (text ++ more);
        back = λ more. ap (suffix_len is_blank) (sym (append_assoc more name text)) ∙ behind.back (more ++ name) (n.back more);
        inline = all_append is_inline name text n.inline behind.inline;
      }

  says : statement (name ++ text) ≡ name ++ text
  unfolding statement
  says =
      let line = name ++ text in
      ap (λ o. trim (front_of line o)) (parted_none hash line (no_hash line line_text.inline)) ∙ trim_text line line_text

  has_parts : HasParts (name ++ text) name operands
  unfolding leading_word rest_in
  has_parts =
      let line = name ++ text in
      let end = name_end name text first.plain behind.ends in
      record {
        word = ap (λ s. take (word_end s) s) says ∙ (ap (λ n. take n line) end ∙ take_at name text (length name) refl);
        rest = ap (λ s. trim (drop (word_end s) s)) says
            ∙ (ap (λ n. trim (drop n line)) end ∙ (ap trim (drop_at name text (length name) refl) ∙ behind.rest));
        own = record {
          says = says;
          is = line_text;
          no_hash = no_hash line line_text.inline;
          whole = no_newline line line_text.inline;
          some = omega (arith, length-append name text, first.some);
          short = omega (arith, length-append name text, first.short, behind.short);
        };
      }

-- ---- a line that gives a word
pub record IsSaid (line : List ℕ) (w : ℕ) : Type 0 where
  pub start : is_data_start (head_in line) ≡ false
  pub code : gives_code (head_in line) ≡ true
  pub gives :
      (labels : List ℕ → Option Label) (p : Place) (n : ℕ) → p.in_data ≡ false → p.code_words < max_code
      → given_by labels p n (head_in line) (leading_word line) (rest_in line) ≡ Ok (given.Code w)

-- the line gives a word and nothing else
pub record IsWordLine (line : List ℕ) (w : ℕ) : Type 0 where
  pub said : IsSaid line w
  pub own : IsLine line

placed : (p : Place) (w : ℕ) → p.in_data ≡ false → p.code_words < max_code → in_code p (Ok w) ≡ Ok (given.Code w)
placed p w e h =
    ap (λ b. cond b (Err Unrecognized) (code_given p (Ok w))) e
    ∙ ap (λ b. cond b (Ok (given.Code w)) (Err SectionFull)) (lt-ltb p.code_words max_code h)

-- a word with an instruction
ins_line : (w : ℕ) (i : Ins) → w < 2 ^ 32 → decode_of w ≡ Some i → IsWordLine (name_of i.kind ++ operands_text (text_form i.kind) i w) w
unfolding given_by
ins_line w i h e =
    let k = i.kind in
    let text = operands_text (text_form k) i w in
    let line = name_of k ++ text in
    let any = read_back (λ name. None) 0 w i e in
    let plain = has_parts (name_of k) text any.operands (name_is k) any.behind in
    let head : head_in line ≡ Instruction k = ap head_of plain.word ∙ head_is k in
    let said : IsSaid line w = record {
      start = ap is_data_start head;
      code = ap gives_code head;
      gives = λ labels p n free room.
          let r = read_back labels (address_at p) w i e in
          let parts = has_parts (name_of k) text r.operands (name_is k) r.behind in
          ap (λ x. given_by labels p n x (leading_word line) (rest_in line)) head
          ∙ (ap (λ t. in_code p (assembled_word labels (address_at p) k t)) parts.rest
          ∙ (ap (in_code p) (word_back labels (address_at p) w i r h e) ∙ placed p w free room));
    } in
    record { said = said; own = plain.own }

-- a word without one
raw_line : (w : ℕ) → w < 2 ^ 32 → IsWordLine (codes "word" ++ 32 ∷ word_text w) w
unfolding given_by
raw_line w h =
    let line = codes "word" ++ 32 ∷ word_text w in
    let raw = raw_word_is w h in
    let behind = space_behind (word_text w) raw.operand.part.is (let few = raw.operand.short in omega arith) in
    let parts = has_parts (codes "word") (32 ∷ word_text w) (word_text w) word_first behind in
    let head : head_in line ≡ Word = ap head_of parts.word ∙ word_head in
    let said : IsSaid line w = record {
      start = ap is_data_start head;
      code = ap gives_code head;
      gives = λ labels p n free room.
          ap (λ x. given_by labels p n x (leading_word line) (rest_in line)) head
          ∙ (ap (λ t. in_code p (ok_or (raw_word_in t) IllegalOperands)) parts.rest
          ∙ (ap (λ o. in_code p (ok_or o IllegalOperands)) raw.reads ∙ placed p w free room));
    } in
    record { said = said; own = parts.own }

pub word_line : (w : ℕ) → w < 2 ^ 32 → IsWordLine (text_of w) w
unfolding text_of
word_line w h = by (decode_of w) refl where
  by : (o : Option Ins) → decode_of w ≡ o → IsWordLine (text_with w o) w
  by None e = raw_line w h
  by (Some i) e = ins_line w i h e

-- ---- any line with an equal statement
record IsAlike (line other : List ℕ) : Type 0 where
  word : leading_word line ≡ leading_word other
  rest : rest_in line ≡ rest_in other

alike : (line other : List ℕ) → statement line ≡ statement other → IsAlike line other
unfolding leading_word rest_in
alike line other e = record { word = ap (λ s. take (word_end s) s) e; rest = ap (λ s. trim (drop (word_end s) s)) e }

pub said_line : (line : List ℕ) (w : ℕ) → w < 2 ^ 32 → statement line ≡ text_of w → IsSaid line w
said_line line w h e =
    let own = word_line w h in
    let same = alike line (text_of w) (e ∙ sym own.own.says) in
    let head : head_in line ≡ head_in (text_of w) = ap head_of same.word in
    record {
      start = ap is_data_start head ∙ own.said.start;
      code = ap gives_code head ∙ own.said.code;
      gives = λ labels p n free room.
          (λ i. given_by labels p n (head i) (same.word i) (same.rest i)) ∙ own.said.gives labels p n free room;
    }

empty_head : head_in [] ≡ Blank
unfolding leading_word statement parted trim trim_start trim_end head_of
empty_head = refl

pub empty_says : statement [] ≡ []
unfolding statement parted trim trim_start trim_end
empty_says = refl

pub blank_line : (line : List ℕ) → statement line ≡ [] → head_in line ≡ Blank
blank_line line e = ap head_of (alike line [] (e ∙ sym empty_says)).word ∙ empty_head
