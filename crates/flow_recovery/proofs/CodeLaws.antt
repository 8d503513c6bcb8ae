-- The words of the code, and the instructions at its addresses.
use Rattle.std.proofs.Common.{◌≡◌, ℕ, Bool, true, false, List, map, Some, None, refl, sym, ap, ◌∙◌}
use Rattle.std.specs.Prelude.{if◌then◌else◌}
use Rattle.std.proofs.lemmas.List.Elements.{All-contains}
use Rattle.rv_isa.specs.declared.class.Class.{Class}
use Rattle.rv_isa.specs.Kind.{class_of}
use Rattle.tests.specs.declared.test.CodeWord.{CodeWord}
use Rattle.machine.specs.Table.{decode_of, Ins}
use Rattle.tests.specs.Admission.CodeWords.{is_code, word_at, instruction_at, ElfFile}
use Rattle.tests.specs.Admission.Test.{IsCodeWord, AreCodeWords}
use Rattle.tests.specs.Admission.Leaders.{HasInstruction}
use Rattle.machine.proofs.Lemmas.{among_of, contains_of, among-map, source_of}
use Rattle.machine.specs.Members.{Among}

-- ---- an instruction stands at a code address
code_of : (f : ElfFile) (a : ℕ) (i : Ins) (b : Bool) → is_code f a ≡ b → (if b then decode_of (word_at f a) else None) ≡ Some i → is_code f a ≡ true
code_of f a i true e h = e
code_of f a i false e h = absurd (cc)

pub standing_code : (f : ElfFile) (a : ℕ) (i : Ins) → instruction_at f a ≡ Some i → is_code f a ≡ true
standing_code f a i h = code_of f a i (is_code f a) refl h

-- ---- words
module _ (f : ElfFile) (code : List CodeWord) (words : AreCodeWords f code) where
  -- a word stands at a code address
  pub word_code : (c : CodeWord) → Among c code → is_code f c.at ≡ true
  word_code c m = (words.addresses.all c.at).0 (contains_of c.at (map (λ (d : CodeWord). d.at) code) (among-map (λ (d : CodeWord). d.at) c code m))

  -- a word stands with its instruction
  pub word_stands : (c : CodeWord) → Among c code → instruction_at f c.at ≡ Some c.ins
  word_stands c m =
      let is = All-contains (IsCodeWord f) code c words.each (contains_of c code m) in
      ap (λ b. if b then decode_of (word_at f c.at) else None) (word_code c m) ∙ ap decode_of (sym is.word) ∙ is.instruction

  -- a word stands at each code address
  pub record WordAt (a : ℕ) : Type 0 where
    pub word : CodeWord
    pub among : Among word code
    pub at : a ≡ word.at

  pub code_word : (a : ℕ) → is_code f a ≡ true → WordAt a
  code_word a e =
      let m = among_of a (map (λ (d : CodeWord). d.at) code) ((words.addresses.all a).1 e) in
      let s = source_of (λ (d : CodeWord). d.at) code a m in
      record { word = s.source; among = s.among; at = s.is }

  -- an instruction that stands in the code is that of a word
  pub record WordOf (of : Class → Bool) (a : ℕ) (i : Ins) : Type 0 where
    pub word : CodeWord
    pub among : Among word code
    pub at : a ≡ word.at
    pub instruction : i ≡ word.ins
    pub class : of (class_of word.ins.kind) ≡ true

  pub standing_word : (of : Class → Bool) (a : ℕ) (s : HasInstruction f of a) → WordOf of a s.instruction
  standing_word of a s =
      let w = code_word a (standing_code f a s.instruction s.stands) in
      let both : Some s.instruction ≡ Some w.word.ins = sym s.stands ∙ ap (instruction_at f) w.at ∙ word_stands w.word w.among in
      let same : s.instruction ≡ w.word.ins = cc in
      record { word = w.word; among = w.among; at = w.at; instruction = same; class = ap (λ (i : Ins). of (class_of i.kind)) (sym same) ∙ s.class }

  -- if a word is of a class, an instruction of the class stands in the code
  abbrev pub stands_word : (of : Class → Bool) (c : CodeWord) → Among c code → of (class_of c.ins.kind) ≡ true → HasInstruction f of c.at
  stands_word of c m e = record { instruction = c.ins; stands = word_stands c m; class = e }
