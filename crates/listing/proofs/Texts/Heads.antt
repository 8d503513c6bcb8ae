-- The name of a kind is the first word of its instructions.
use Rattle.std.proofs.Common.{◌≡◌, ℕ, ◌≤◌, Bool, true, false, cond, not, ◌&&◌, leb, Some, List, [], ◌∷◌, length, inl, inr, refl, sym, ap, ◌∙◌, arith, is_some, codes, find}
use Rattle.std.specs.List.{list_all}
use Rattle.std.specs.Str.{bytes_eq}
use Rattle.std.proofs.lemmas.Bool.{and_parts, leb-true, ne_eqb, not-true}
use Rattle.std.proofs.lemmas.Slice.Eq.{bytes_eq-Decides}
use Rattle.machine.specs.Kinds.{IsAmong}
use Rattle.machine.specs.Table.{kinds, Kind}
use Rattle.texts.specs.Read.{parted}
use Rattle.machine.proofs.Lemmas.{has_kind, each_in, each_kind}
use Rattle.rv_text.specs.Names.{name_of}
use Rattle.rv_asm.specs.declared.heads.Head.{Head}
use Rattle.rv_asm.specs.declared.heads.Head.TheVariants.{Blank, Instruction, Word, DataStart, DataWord, Label}
use Rattle.rv_asm.specs.Heads.{kind_named, named_head, head_of}
use Rattle.rv_asm.specs.Lines.{label_in, is_name}
use Rattle.listing.proofs.Texts.Parts.{is_plain}

-- ---- no two kinds have one name
abbrev distinct : List Kind → Bool
distinct [] = true
distinct (k ∷ ks) = list_all (λ j. not (bytes_eq (name_of k) (name_of j))) ks && distinct ks

names_distinct : distinct kinds ≡ true
unfolding name_of
names_distinct = refl

found : (k : Kind) (ks : List Kind) → distinct ks ≡ true → IsAmong k ks → find (λ j. bytes_eq (name_of j) (name_of k)) ks ≡ Some k
found k [] d h = absurd h
found k (j ∷ js) d (inl p) =
    let same = (bytes_eq-Decides (name_of j) (name_of k)).1 (ap name_of (sym p)) in
    ap (λ b. cond b (Some j) (find (λ j. bytes_eq (name_of j) (name_of k)) js)) same ∙ ap Some (sym p)
found k (j ∷ js) d (inr h) =
    let parts = and_parts (list_all (λ i. not (bytes_eq (name_of j) (name_of i))) js) (distinct js) d in
    let apart = each_in (λ i. not (bytes_eq (name_of j) (name_of i))) js k parts.0 h in
    let other = not-true (bytes_eq (name_of j) (name_of k)) apart in
    ap (λ b. cond b (Some j) (find (λ j. bytes_eq (name_of j) (name_of k)) js)) other ∙ found k js parts.1 h

-- ---- a name differs from any other first word
some_plain : Kind → Bool
some_plain k = (leb 1 (length (name_of k)) && leb (length (name_of k)) 8) && list_all is_plain (name_of k)

no_other : Kind → Bool
no_other k =
    let name = name_of k in
    not (is_some (label_in name))
    && (not (bytes_eq name (codes "word")) && (not (bytes_eq name (codes ".data")) && not (bytes_eq name (codes ".word64"))))

all_plain : list_all some_plain kinds ≡ true
unfolding some_plain name_of
all_plain = refl

none_other : list_all no_other kinds ≡ true
unfolding no_other name_of label_in parted is_name
none_other = refl

pub record IsFirstWord (name : List ℕ) : Type 0 where
  pub some : 1 ≤ length name
  pub short : length name ≤ 8
  pub plain : list_all is_plain name ≡ true

pub name_is : (k : Kind) → IsFirstWord (name_of k)
unfolding some_plain
name_is k =
    let size = length (name_of k) in
    let parts = and_parts (leb 1 size && leb size 8) (list_all is_plain (name_of k)) (each_kind some_plain all_plain k) in
    let sizes = and_parts (leb 1 size) (leb size 8) parts.0 in
    record { some = leb-true 1 size sizes.0; short = leb-true size 8 sizes.1; plain = parts.1 }

last_head :
    (a b c d e : Bool) (h : Head) → a ≡ false → b ≡ false → c ≡ false → d ≡ false → e ≡ false
    → cond a Blank (cond b Label (cond c Word (cond d DataStart (cond e DataWord h)))) ≡ h
last_head a b c d e h p q r s t = rw (p, q, r, s, t)

pub head_is : (k : Kind) → head_of (name_of k) ≡ Instruction k
unfolding head_of kind_named no_other
head_is k =
    let name = name_of k in
    let one = and_parts (not (is_some (label_in name))) _ (each_kind no_other none_other k) in
    let two = and_parts (not (bytes_eq name (codes "word"))) _ one.1 in
    let three = and_parts (not (bytes_eq name (codes ".data"))) (not (bytes_eq name (codes ".word64"))) two.1 in
    let some = (name_is k).some in
    let blank = ne_eqb (length name) 0 (λ e. absurd (omega arith)) in
    last_head _ _ _ _ _ (named_head (kind_named name)) blank (not-true _ one.0) (not-true _ two.0) (not-true _ three.0) (not-true _ three.1)
    ∙ ap named_head (found k kinds names_distinct (has_kind k))

pub word_head : head_of (codes "word") ≡ Word
unfolding head_of label_in parted
word_head = refl

pub word_first : IsFirstWord (codes "word")
word_first = record { some = omega arith; short = omega arith; plain = refl }
