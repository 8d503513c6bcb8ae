-- The causes of errors exclude each other, and exclude an output.
use Rattle.std.proofs.Common.{◌≡◌, ℕ, List, length, inl, inr, refl, sym, ap, ◌∙◌, subst, arith}
use Rattle.std.specs.Prelude.{◌≢◌, Result, Ok, Err, IfOk, IfErr}
use Rattle.elf_types.specs.declared.error.ElfError.{ElfError}
use Rattle.elf_types.specs.declared.output.OutFile.{OutFile}
use Rattle.tests.specs.declared.admit.AdmitError.{AdmitError}
use Rattle.machine.specs.declared.limits.Limit.{Limit}
use Rattle.qed_model.specs.declared.plan.Plan.{Plan}
use Rattle.machine.specs.Limits.{limit_of}
use Rattle.tests.specs.Admission.Refusals.{IsAdmitted, IsRefusedBy}
use Rattle.tests.specs.Files.File.{IsReadAs}
use Rattle.tests.specs.Elf.Layout.{written}
use Rattle.tests.specs.Files.Refusals.{IsFileRefused}
use Rattle.qed_model.specs.Weave.Blocks.{AreBlocks, ElfFile, Options}
use Rattle.qed_model.specs.Weave.Sequences.{Block}
use Rattle.qed_model.specs.Weave.Woven.{new_code, size_of_code}
use Rattle.qed_model.specs.Weave.Output.{WovenFile}
use Rattle.tests.proofs.Lemmas.{read_or_refused, no_fault, one_refusal, one_file}
use Rattle.qed_model.proofs.Lemmas.{blocks_only, one_woven_test}
use Rattle.transform.specs.declared.error.TransformError.{TransformError}
use Rattle.transform.specs.declared.error.TransformError.TheVariants as error
use Rattle.transform.specs.Transform.{HasCause, IsNotAdmitted, HasTooMuchCode, IsFew, Transforms, IsTransformable, IsErrorOr, IsDoneOr}

-- bytes are refused by one rule
pub same_refusal : (input : List ℕ) (a b : ElfError) → IsFileRefused input a → IsFileRefused input b → a ≡ b
same_refusal input a b x y = let p = x.first in let q = y.first in cc

module _ (input : List ℕ) (o : Options) where
  -- a file is refused by one rule of admission, and not admitted
  same_rule : (a b : AdmitError) → IsNotAdmitted input o a → IsNotAdmitted input o b → a ≡ b
  same_rule a b x y = one_refusal x.file o a b x.refused (subst (λ f. IsRefusedBy f o b) (one_file input y.file x.file y.read.file x.read.file) y.refused)

  not_admitted : (e : AdmitError) (f : ElfFile) → IsNotAdmitted input o e → IsReadAs input f → IsAdmitted f o → ⊥
  not_admitted e f x read a = no_fault f o a e (subst (λ g. IsRefusedBy g o e) (one_file input x.file f x.read.file read.file) x.refused).fault

  -- there is one new code
  one_code : (f g : ElfFile) (bs cs : List Block) → IsReadAs input f → IsReadAs input g → AreBlocks f o bs → AreBlocks g o cs → new_code f o bs ≡ new_code g o cs
  one_code f g bs cs rf rg ab ac =
      let same = one_file input f g rf.file rg.file in
      ap (λ x. new_code x o bs) same ∙ ap (λ bs. new_code g o bs) (blocks_only g o bs cs (subst (λ x. AreBlocks x o bs) same ab) ac)

  -- the new code is too large, or within its limit
  too_large : (most : Limit) (n : ℕ) (f : ElfFile) (bs : List Block) → HasTooMuchCode input o most n → IsReadAs input f → AreBlocks f o bs → IsFew (new_code f o bs) → ⊥
  too_large most n f bs x read are small =
      let few : IsFew (new_code x.file o x.blocks) = subst IsFew (one_code f x.file bs x.blocks read x.read are x.are) small in
      omega (arith, x.over, x.count, few, ap limit_of x.limit)

  -- an input is refused by one cause
  pub one_cause : (a b : TransformError) → a ≢ error.Memory → b ≢ error.Memory → HasCause input o a → HasCause input o b → a ≡ b
  one_cause error.Memory b n m x y = absurd (n refl)
  one_cause a error.Memory n m x y = absurd (m refl)
  one_cause (error.Elf a) (error.Elf b) n m x y = ap error.Elf (same_refusal input a b x y)
  one_cause (error.Elf a) (error.Admit b) n m x y = absurd (read_or_refused input y.file a y.read x)
  one_cause (error.Elf a) (error.TooLarge l b) n m x y = absurd (read_or_refused input y.file a y.read x)
  one_cause (error.Elf a) (error.TooManySegments b) n m x y = absurd (read_or_refused input y.file.file a y.read x)
  one_cause (error.Elf a) (error.FileTooLong b) n m x y = absurd (read_or_refused input y.file.file a y.read x)
  one_cause (error.Admit a) (error.Elf b) n m x y = absurd (read_or_refused input x.file b x.read y)
  one_cause (error.Admit a) (error.Admit b) n m x y = ap error.Admit (same_rule a b x y)
  one_cause (error.Admit a) (error.TooLarge l b) n m x y = absurd (not_admitted a y.file x y.read y.admitted)
  one_cause (error.Admit a) (error.TooManySegments b) n m x y = absurd (not_admitted a y.file.file x y.read y.file.has.admitted)
  one_cause (error.Admit a) (error.FileTooLong b) n m x y = absurd (not_admitted a y.file.file x y.read y.file.has.admitted)
  one_cause (error.TooLarge k a) (error.Elf b) n m x y = absurd (read_or_refused input x.file b x.read y)
  one_cause (error.TooLarge k a) (error.Admit b) n m x y = absurd (not_admitted b x.file y x.read x.admitted)
  one_cause (error.TooLarge k a) (error.TooLarge l b) n m x y =
      let one = one_code x.file y.file x.blocks y.blocks x.read y.read x.are y.are in
      ap (λ i. error.TooLarge i a) (x.limit ∙ ap (λ c. c.limit) one ∙ sym y.limit) ∙ ap (λ i. error.TooLarge l i) (x.count ∙ ap size_of_code one ∙ sym y.count)
  one_cause (error.TooLarge k a) (error.TooManySegments b) n m x y = absurd (too_large k a y.file.file y.file.blocks x y.read y.file.has.are y.code)
  one_cause (error.TooLarge k a) (error.FileTooLong b) n m x y = absurd (too_large k a y.file.file y.file.blocks x y.read y.file.has.are y.code)
  one_cause (error.TooManySegments a) (error.Elf b) n m x y = absurd (read_or_refused input x.file.file b x.read y)
  one_cause (error.TooManySegments a) (error.Admit b) n m x y = absurd (not_admitted b x.file.file y x.read x.file.has.admitted)
  one_cause (error.TooManySegments a) (error.TooLarge l b) n m x y = absurd (too_large l b x.file.file x.file.blocks y x.read x.file.has.are x.code)
  one_cause (error.TooManySegments a) (error.TooManySegments b) n m x y =
      ap error.TooManySegments (x.count ∙ ap (λ out. length out.segments) (one_woven_test input o x.out y.out x.file y.file) ∙ sym y.count)
  one_cause (error.TooManySegments a) (error.FileTooLong b) n m x y = absurd (omega (arith, x.over, x.count, y.segments, ap (λ out. length out.segments) (one_woven_test input o x.out y.out x.file y.file)))
  one_cause (error.FileTooLong a) (error.Elf b) n m x y = absurd (read_or_refused input x.file.file b x.read y)
  one_cause (error.FileTooLong a) (error.Admit b) n m x y = absurd (not_admitted b x.file.file y x.read x.file.has.admitted)
  one_cause (error.FileTooLong a) (error.TooLarge l b) n m x y = absurd (too_large l b x.file.file x.file.blocks y x.read x.file.has.are x.code)
  one_cause (error.FileTooLong a) (error.TooManySegments b) n m x y = absurd (omega (arith, y.over, y.count, x.segments, ap (λ out. length out.segments) (one_woven_test input o x.out y.out x.file y.file)))
  one_cause (error.FileTooLong a) (error.FileTooLong b) n m x y =
      ap error.FileTooLong (x.size ∙ ap (λ out. length (written out)) (one_woven_test input o x.out y.out x.file y.file) ∙ sym y.size)

  -- ---- what an answer implies for all causes
  error_or : {A : Type 0} (x e : TransformError) → e ≢ error.Memory → HasCause input o x → HasCause input o e → IsErrorOr {A = A} (Err x) e
  error_or error.Memory e n c h = inr refl
  error_or x e n c h = inl (ap Err (one_cause x e (λ m. absurd (cc)) n c h))

  pub memory_only : (x : TransformError) → HasCause input o x → IsTransformable input o → x ≡ error.Memory
  memory_only error.Memory c h = refl
  memory_only (error.Elf y) c h = absurd (read_or_refused input h.file y h.read c)
  memory_only (error.Admit y) c h = absurd (not_admitted y h.file c h.read h.admitted)
  memory_only (error.TooLarge l y) c h =
      let same = one_file input c.file h.file c.read.file h.read.file in
      absurd (too_large l y h.file c.blocks c h.read (subst (λ f. AreBlocks f o c.blocks) same c.are) (h.code c.blocks (subst (λ f. AreBlocks f o c.blocks) same c.are)))
  memory_only (error.TooManySegments y) c h = let most = h.outputs c.out c.file in absurd (omega (arith, c.over, c.count, most.segments))
  memory_only (error.FileTooLong y) c h = let most = h.outputs c.out c.file in absurd (omega (arith, c.over, c.size, most.size))

  pub complete_of : {A : Type 0} (r : Result A TransformError) → IfErr r (HasCause input o) → IsTransformable input o → IsDoneOr r
  complete_of (Ok made) refused h = tt
  complete_of (Err x) refused h = memory_only x refused h

  pub exact_where :
      {A : Type 0} (Done : A → Type 0) → ((made : A) → Done made → IsTransformable input o) → (r : Result A TransformError) → IfOk r Done → IfErr r (HasCause input o)
      → (e : TransformError) → e ≢ error.Memory → HasCause input o e → IsErrorOr r e
  exact_where Done fits (Ok made) done refused e n h = absurd (n (memory_only e h (fits made done)))
  exact_where Done fits (Err x) done refused e n h = error_or x e n refused h

  -- ---- what was transformed is transformable
  read_as : (f : ElfFile) (out : OutFile) (w : WovenFile input o out) → IsReadAs input f → IsReadAs input w.file
  read_as f out w read = subst (IsReadAs input) (one_file input f w.file read.file w.has.read) read

  pub transformable_of : (output : List ℕ) (plan : Plan) → Transforms input o output plan → IsTransformable input o
  transformable_of output plan t =
      let w = t.woven.file in
      record {
        file = w.file;
        read = t.read;
        admitted = w.has.admitted;
        code = λ bs are. subst IsFew (one_code w.file w.file w.blocks bs t.read t.read w.has.are are) t.within.code;
        outputs = λ out v.
            let same = one_woven_test input o out t.woven.out v w in
            record {
              code = subst IsFew (one_code w.file v.file w.blocks v.blocks t.read (read_as w.file out v t.read) w.has.are v.has.are) t.within.code;
              segments = omega (arith, t.within.segments, ap (λ x. length x.segments) same);
              size = omega (arith, t.within.size, ap (λ x. length (written x)) same);
            };
      }
