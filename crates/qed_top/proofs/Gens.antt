-- The outcome of `gen`: no rule refuses its test, no limit but that of new code is exceeded, and both runs have ended.
use Rattle.std.proofs.Common.{◌≡◌, ◌≢◌, ◌⊎◌, inl, inr, ℕ, ◌≤◌, List, refl, sym, ap, ◌∙◌, subst, arith}
use Rattle.machine.specs.declared.limits.Limit.TheVariants as limit
use Rattle.machine.specs.declared.outcome.Outcome.TheVariants.{Ended}
use Rattle.qed_model.specs.declared.plan.Plan.{Plan}
use Rattle.tests.specs.Options.{default_options}
use Rattle.tests.specs.Elf.FileRead.{file_read}
use Rattle.machine.specs.Loading.{loaded_file}
use Rattle.machine.specs.Program.{start, zeros}
use Rattle.machine.specs.Progress.{Progress, first_state, progress}
use Rattle.tests.proofs.Lemmas.{one_file}
use Rattle.test_gen.specs.Ends.{HasEnded, test_steps}
use Rattle.test_gen.proofs.Counted.{own_ended, output_ended}
use Rattle.test_gen.proofs.Readable.{test_not_refused, test_not_denied}
use Rattle.test_gen.proofs.Within.{test_weavable}
use Rattle.transform.specs.declared.error.TransformError.{TransformError}
use Rattle.transform.specs.declared.error.TransformError.TheVariants as error
use Rattle.qed_top.specs.Answer.{PrintsOnly}
use Rattle.qed_top.specs.Gen.{HasLargeCode, IsRunOf, most_steps, test_bytes}
use Rattle.qed_top.specs.Refused.{refusal_line, refusal_status, HasCause, Transforms}
use Rattle.qed_top.specs.declared.answer.Answer.{Answer}

module _ (seed size : ℕ) (some : 1 ≤ size) (most : size ≤ 60000) where
  -- want of memory, or new code that is too large
  abbrev pub IsLarge : TransformError → Type 0
  IsLarge e = (e ≡ error.Memory) ⊎ ((n : ℕ) × (e ≡ error.TooLarge limit.CodeBytes n))

  -- an error has no other cause
  pub only_large : (e : TransformError) → HasCause (test_bytes seed size) default_options e → IsLarge e
  only_large (error.Elf x) c = absurd (test_not_refused seed size some most x c)
  only_large (error.Admit x) c = absurd (test_not_denied seed size some most c.file c.read x c.refused)
  only_large (error.TooLarge l n) c = inr (n, ap (λ k. error.TooLarge k n) c.limit)
  only_large (error.TooManySegments n) c =
      let within = (test_weavable seed size some most).within c.out c.file c.code in
      absurd (omega (arith, c.over, c.count, within.segments))
  only_large (error.FileTooLong n) c =
      let within = (test_weavable seed size some most).within c.out c.file c.code in
      absurd (omega (arith, c.over, c.size, within.size))
  only_large error.Memory c = inl refl

  -- the answer is that the new code would be too large
  large_from : (e : TransformError) (answer : Answer) → IsLarge e → HasCause (test_bytes seed size) default_options e → e ≢ error.Memory → PrintsOnly (refusal_status e) (refusal_line e) answer → HasLargeCode seed size answer
  large_from e answer (inl memory) cause known plain = absurd (known memory)
  large_from e answer (inr large) cause known plain = record {
    bytes = large.0;
    cause = subst (λ x. HasCause (test_bytes seed size) default_options x) large.1 cause;
    plain = subst (λ x. PrintsOnly (refusal_status x) (refusal_line x) answer) large.1 plain;
  }

  pub large_of : (e : TransformError) (answer : Answer) → HasCause (test_bytes seed size) default_options e → e ≢ error.Memory → PrintsOnly (refusal_status e) (refusal_line e) answer → HasLargeCode seed size answer
  large_of e answer cause known plain = large_from e answer (only_large e cause) cause known plain

  -- the test's own run has ended
  pub own_run_ended : (own : Progress) → IsRunOf (test_bytes seed size) own → HasEnded own (test_steps size)
  own_run_ended own r =
      subst (λ p. HasEnded p (test_steps size)) (sym r.run) (own_ended seed size most_steps some most (omega arith) r.file r.read)

  -- the output's run has ended
  pub woven_run_ended :
      (output : List ℕ) (plan : Plan) → Transforms (test_bytes seed size) default_options output plan → (woven : Progress)
      → IsRunOf output woven → woven.state.outcome ≡ Ended
  woven_run_ended output plan t woven r =
      let same = one_file output r.file (file_read t.woven.out) r.read.file t.reads.file in
      ap (λ (p : Progress). p.state.outcome) (r.run ∙ ap (λ f. progress (first_state (start (loaded_file f) zeros)) most_steps) same)
      ∙ output_ended seed size most_steps some most (omega arith) t.woven.out t.woven.file t.within.code
