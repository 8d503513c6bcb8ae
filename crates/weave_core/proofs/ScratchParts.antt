-- Parts on x0 and x14 to x31 alone are words of the kinds, and do not jump.
use Rattle.std.proofs.Common.{◌≡◌, ℕ, zero, suc, ◌≤◌, inr, Bool, true, false, cond, List, [], ◌∷◌, refl, subst, arith}
use Rattle.std.proofs.lemmas.Bool.{and_right, ne_eqb}
use Rattle.rv_isa.specs.declared.class.Class.TheVariants as class
use Rattle.weave_core.specs.World.{Item, Mark, Plain, Constant, Go, class_of, Ins, target, LAST_ORIGINAL, TEMPORARY}
use Rattle.qed_model.specs.Weave.Sequences.{pair, mirrored, mirror_as}
use Rattle.machine.specs.Operands.{is_auipc}
use Rattle.weave_core.specs.Lock.{Scratch}
use Rattle.weave_core.specs.Blocks.{IsLowAs, FitsPiece}
use Rattle.weave_core.specs.Kinds.{is_ld, Lockstep}
use Rattle.weave_core.specs.KindItems.{LockItems, Straight, MirrorsFit}
use Rattle.weave_core.proofs.BodyWords.{IsBodyWord, body_computes, body_loads, body_stores, body_fences, body_word}
use Rattle.weave_core.proofs.KindWords.{scratch_compute, scratch_load, scratch_store}
use Rattle.weave_core.proofs.KindItems.{pair_scratch, low_or_high, items_none, items_one, items_constant}
use Rattle.weave_core.proofs.Landing.{straight_none, straight_compute, straight_load, straight_store, straight_constant}

-- a word on x0 and x14 to x31 alone: it computes, loads with a base from x16 on, or stores
pub data ScratchWord (i : Ins) : Type 0 where
  word_computes : class_of i.kind ≡ class.Compute → Scratch i.rs1 → Scratch i.rs2 → ScratchWord i
  word_loads : class_of i.kind ≡ class.Load → 16 ≤ i.rs1 → (i.rd ≡ TEMPORARY → ⊥) → ScratchWord i
  word_stores : class_of i.kind ≡ class.Store → Scratch i.rs1 → Scratch i.rs2 → ScratchWord i

-- each item is such a word, or a constant
abbrev pub AllScratchWords : List Item → Type 0
AllScratchWords [] = Unit {0}
AllScratchWords (Mark m ∷ is) = ⊥
AllScratchWords (Plain i ∷ is) = ScratchWord i × AllScratchWords is
AllScratchWords (Constant r v ∷ is) = AllScratchWords is
AllScratchWords (Go t ∷ is) = ⊥

-- they are of the kinds
pub scratch_items : (far : Bool) (is : List Item) → AllScratchWords is → LockItems far is
scratch_items far [] h = items_none far
scratch_items far (Mark m ∷ is) h = absurd h
scratch_items far (Plain i ∷ is) h = items_one far i is (word h.0) (scratch_items far is h.1) where
  -- one word
  word : ScratchWord i → Lockstep (i ∷ [])
  word (word_computes k a b) = scratch_compute i k a b
  word (word_loads k a ne) = scratch_load i k a (and_right (is_ld i.kind) _ (ne_eqb i.rd 30 ne))
  word (word_stores k a b) = scratch_store i k a b
scratch_items far (Constant r v ∷ is) h = items_constant far r v is (low_or_high r) (scratch_items far is h)
scratch_items far (Go t ∷ is) h = absurd h

-- scratch words do not jump
pub scratch_straight : (far : Bool) (is : List Item) → AllScratchWords is → Straight far is
scratch_straight far [] h = straight_none far
scratch_straight far (Mark m ∷ is) h = absurd h
scratch_straight far (Plain i ∷ is) h = word (scratch_straight far is h.1) h.0 where
  -- one word
  word : Straight far is → ScratchWord i → Straight far (Plain i ∷ is)
  word x (word_computes k a b) = straight_compute far i is k x
  word x (word_loads k a ne) = straight_load far i is k x
  word x (word_stores k a b) = straight_store far i is k x
scratch_straight far (Constant r v ∷ is) h = straight_constant far r v is (scratch_straight far is h)
scratch_straight far (Go t ∷ is) h = absurd h

-- mirror parts of such words fit
pub scratch_mirrors_fit : (far : Bool) (mirror : Ins → ℕ → List Item) → ((i : Ins) (at : ℕ) → FitsPiece i → AllScratchWords (mirror i at)) → MirrorsFit far mirror
scratch_mirrors_fit far mirror h = record { fit = λ i at f. scratch_items far (mirror i at) (h i at f); straight = λ i at f. scratch_straight far (mirror i at) (h i at f) }

-- ---- the mirror parts of a form that has no others
-- no pair of an original register is x30
pair_other : (r : ℕ) → r ≤ LAST_ORIGINAL → pair r ≡ TEMPORARY → ⊥
pair_other zero h e = absurd (omega arith)
pair_other (suc r) h e = absurd (omega arith)

-- they are such words, by the class
mirror_words : (i : Ins) (at : ℕ) → IsLowAs (class_of i.kind) i → IsBodyWord i → AllScratchWords (mirror_as (class_of i.kind) i at)
mirror_words i at o (body_computes k) = rw k (word_computes k (pair_scratch i.rs1) (pair_scratch i.rs2), tt)
mirror_words i at o (body_loads k) = let l : IsLowAs class.Load i = subst (λ c. IsLowAs c i) k o in rw k (word_computes refl (pair_scratch i.rs1) (inr (omega arith)), (word_loads k (omega arith) (pair_other i.rd l.0), tt))
mirror_words i at o (body_stores k) = rw k (word_computes refl (pair_scratch i.rs1) (inr (omega arith)), (word_stores k (inr (omega arith)) (pair_scratch i.rs2), tt))
mirror_words i at o (body_fences k) = rw k tt

pub mirrored_words : (i : Ins) (at : ℕ) → FitsPiece i → AllScratchWords (mirrored i at)
mirrored_words i at f = elim (is_auipc i.kind) as (λ t. AllScratchWords (cond t (Constant (pair i.rd) (target i at) ∷ []) (mirror_as (class_of i.kind) i at))) [ true ↦ tt | false ↦ mirror_words i at f.low (body_word i f) ]

pub plain_mirrors_fit : (far : Bool) → MirrorsFit far mirrored
plain_mirrors_fit far = scratch_mirrors_fit far mirrored mirrored_words
