-- How far the ends go that a refusal tells.
use Rattle.std.proofs.Common.{inl, inr, ℕ, ◌+◌, ◌^◌, ◌≤◌, List, [], ◌∷◌, refl, arith}
use Rattle.tests.specs.declared.admit.AdmitError.{AdmitError}
use Rattle.tests.specs.declared.admit.AdmitError.TheVariants as error
use Rattle.tests.specs.declared.options.Options.{Options}
use Rattle.machine.specs.Apart.{AllFitMemory}
use Rattle.machine.specs.Loading.{load_segment, Segment, ElfFile}
use Rattle.tests.specs.Admission.CodeWords.{loads_of}
use Rattle.tests.specs.Admission.Refusals.{HasFault}
use Rattle.tests.specs.Admission.Ends.{HasEnds}
use Rattle.tests.specs.Admission.Places.{high_of, image_of}
use Rattle.machine.specs.Members.{Among}
use Rattle.machine.proofs.Lemmas.{fit_among}
use Rattle.tests.proofs.Lemmas.{among_load, image_parts}
use Rattle.test_admission.specs.Order.{IsCauseOf}

high_least : (n : ℕ) (ss : List Segment) → ((s : Segment) → Among s ss → s.address + s.memory ≤ n) → high_of ss ≤ n
high_least n [] h = omega arith
high_least n (s ∷ ss) h = let here = h s (inl refl) in let rest = high_least n ss (λ t m. h t (inr m)) in omega (arith, here, rest)

-- an image of segments that fit into memory ends at 2^64 at most
high_fits : (f : ElfFile) → AllFitMemory (loads_of f) → high_of (image_of f) ≤ 2 ^ 64
high_fits f fit =
    high_least (2 ^ 64) (image_of f)
    (λ s m. let p = image_parts s f.segments m in (fit_among (load_segment s) (loads_of f) fit (among_load s f.segments p.1 p.0)).1)

fault_ends : (f : ElfFile) (o : Options) (e : AdmitError) → AllFitMemory (loads_of f) → HasFault f o e → HasEnds e
fault_ends f o (error.OutsideHalf high end) fit h =
    let most = high_fits f fit in
    let is = h.0 in
    let less = h.3 in
    (omega (arith, most, is), omega (arith, most, is, less))
fault_ends f o e fit h = tt

pub cause_ends : (f : ElfFile) (o : Options) (e : AdmitError) → AllFitMemory (loads_of f) → IsCauseOf f o e → HasEnds e
cause_ends f o error.Memory fit c = tt
cause_ends f o e fit c = fault_ends f o e fit (c.rule (λ n. absurd (cc))).fault
