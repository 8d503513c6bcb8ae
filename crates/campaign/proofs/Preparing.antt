-- The premises of the runs of an output.
use Rattle.std.proofs.Common.{ℕ, zero, suc, ◌≤◌, Bool, Option, Some, None, List, inl, inr, refl, sym, ap, ◌∙◌, subst, arith}
use Rattle.std.specs.Prelude.{IsSome, Ok}
use Rattle.tests.specs.declared.options.Options.{Options}
use Rattle.qed_model.specs.Weave.Bounds.{word_bound, start_steps, longest_piece}
use Rattle.tests.specs.Admission.Places.{image_of}
use Rattle.qed_model.specs.Weave.Sequences.{Block}
use Rattle.qed_model.specs.Weave.Woven.{is_far_code, code_as, new_code, IsPlanOf}
use Rattle.qed_model.specs.Weave.LeanBounds as lean
use Rattle.qed_model.specs.Weave.Forms.{shape_of}
use Rattle.transform.specs.declared.error.TransformError.{TransformError}
use Rattle.transform.specs.Transform.{IsErrorOr}
use Rattle.campaign.specs.Draw.{HasWords, word_count, data_ranges, ElfFile, Plan}

-- if there are data words, they have a bound
some_bound : (n round start piece : ℕ) → 1 ≤ n → IsSome (word_bound n round start piece)
some_bound zero round start piece h = absurd (omega arith)
some_bound (suc n) round start piece h = refl

some_lean_bound : (land : Bool) (n round ends period : ℕ) → 1 ≤ n → IsSome (lean.word_bound land n round ends period)
some_lean_bound land zero round ends period h = absurd (omega arith)
some_lean_bound land (suc n) round ends period h = refl

some_word : (l : Option ℕ) (f : ElfFile) (o : Options) (blocks : List Block) → 1 ≤ word_count (data_ranges (image_of f)) → IsSome (code_as l f o blocks).bounds.word
some_word None f o blocks h = let shape = shape_of f o (is_far_code f o blocks) in some_bound (word_count (data_ranges (image_of f))) shape.round (start_steps shape) (longest_piece shape) h
some_word (Some every) f o blocks h = some_lean_bound o.land (word_count (data_ranges (image_of f))) _ _ _ h

pub has_words : (f : ElfFile) (o : Options) (blocks : List Block) (plan : Plan) → IsPlanOf (new_code f o blocks) f o blocks plan → HasWords plan
has_words f o blocks plan told = record {
  count = told.words ∙ ap word_count (sym told.span);
  bound = λ h. subst (λ b. IsSome b.word) (sym told.bounds) (some_word o.lean f o blocks (subst (λ n. 1 ≤ n) told.words h));
}

-- ---- both runs

-- an output is never an error
pub never_error : {A : Type 0} (made : A) (e : TransformError) → IsErrorOr (Ok made) e → ⊥
never_error made e (inl same) = cc
never_error made e (inr same) = cc
