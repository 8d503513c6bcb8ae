-- Why a test is not admitted, in sentences on its segments, its sections and its code, and the order of the rules.
use Rattle.std.specs.Prelude.{◌≡◌, ◌⊎◌, ℕ, ◌+◌, ◌^◌, ◌<◌, ◌≤◌, is_some, Some, None, Bool, true, false, List, length, slice_get}
use Rattle.machine.specs.declared.limits.Limit.TheVariants as limit
use Rattle.machine.specs.declared.limits.TheConstants.{CODE_ROOM}
use Rattle.machine.specs.Limits.{limit_of}
use Rattle.tests.specs.declared.admit.AdmitError.{AdmitError}
use Rattle.tests.specs.declared.admit.AdmitError.TheVariants as error
use Rattle.machine.specs.Below.{IsFirstBelow}
use Rattle.tests.specs.Admission.Places.{base_of, high_of, distance_of, Options, ElfFile, image_of, half_of, code_place}
use Rattle.tests.specs.Admission.Terms.{is_compressed, is_dynamic}
use Rattle.tests.specs.Admission.CodeWords.{loads_of, is_code, word_at, AreCodeAddresses}
use Rattle.tests.specs.Admission.Rules.{passes_at, is_writable_code, is_misshapen_section, is_misshapen_segment, is_unknown, high_at, is_breakpoint}
use Rattle.tests.specs.Admission.Rules.{is_far_constant, is_mixed}

-- ---- a part at fault
-- number i is the first member of a list that passes a test
abbrev pub IsFirstOf : {A : Type 0} → List A → (A → Bool) → ℕ → Type 0
IsFirstOf xs test i = IsFirstBelow (length xs) (λ k. passes_at test (slice_get xs k)) i

-- the least address that passes a test
abbrev pub IsLeast : (ℕ → Bool) → ℕ → Type 0
IsLeast test a = IsFirstBelow (2 ^ 64) test a

-- section i is the first that is misshapen; or no section is, and segment i is the first that is
abbrev pub IsMisshapen : ElfFile → ℕ → Type 0
IsMisshapen f i =
    IsFirstOf f.sections (is_misshapen_section (loads_of f)) i
    ⊎ (((k : ℕ) → k < length f.sections → passes_at (is_misshapen_section (loads_of f)) (slice_get f.sections k) ≡ false)
    × IsFirstOf f.segments (is_misshapen_segment f) i)

-- the code words, which are too many
pub record HasTooManyWords (f : ElfFile) (n : ℕ) : Type 0 where
  pub addresses : List ℕ
  pub all : AreCodeAddresses f addresses
  pub count : n ≡ length addresses
  pub over : limit_of limit.CodeWords < n

-- the rule that an error names holds, with the place or number that it carries; want of memory is not a rule
abbrev pub HasFault : ElfFile → Options → AdmitError → Type 0
HasFault f o error.Compressed = is_compressed f ≡ true
HasFault f o error.Dynamic = is_dynamic f.segments ≡ true
HasFault f o (error.WritableCode i) = IsFirstOf f.segments is_writable_code i
HasFault f o (error.NoCode entry) = (entry ≡ f.entry) × (is_code f entry ≡ false)
HasFault f o (error.CodeShape i) = IsMisshapen f i
HasFault f o (error.UnknownWord a word) = IsLeast (is_unknown f) a × (word ≡ word_at f a)
HasFault f o (error.RegisterHalf a register) = IsLeast (λ q. is_some (high_at f q)) a × (high_at f a ≡ Some register)
HasFault f o (error.Breakpoint a) = IsLeast (is_breakpoint f) a
HasFault f o (error.FarConstant a) = IsLeast (is_far_constant f) a
HasFault f o (error.DataMixed i) = IsFirstOf f.segments (is_mixed (image_of f)) i
HasFault f o (error.OutsideHalf high end) =
    (high ≡ high_of (image_of f)) × (is_some o.half ≡ true) × (end ≡ base_of (image_of f) + half_of o.half (image_of f)) × (end < high)
HasFault f o (error.ImageSpan n) = (n ≡ distance_of (image_of f)) × (limit_of limit.ImageSpan < n)
HasFault f o (error.CodeWords n) = HasTooManyWords f n
HasFault f o (error.TopAddress n) = (n ≡ code_place o.half (image_of f) + CODE_ROOM) × (limit_of limit.TopAddress < n)
HasFault f o error.Memory = ⊥

-- ---- the order of the rules
abbrev pub place_of : AdmitError → ℕ
place_of error.Compressed = 1
place_of error.Dynamic = 2
place_of (error.WritableCode i) = 3
place_of (error.NoCode entry) = 4
place_of (error.CodeShape i) = 5
place_of (error.UnknownWord a word) = 6
place_of (error.RegisterHalf a register) = 7
place_of (error.Breakpoint a) = 8
place_of (error.FarConstant a) = 9
place_of (error.DataMixed i) = 10
place_of (error.OutsideHalf high end) = 11
place_of (error.ImageSpan n) = 12
place_of (error.CodeWords n) = 13
place_of (error.TopAddress n) = 14
place_of error.Memory = 15

-- the error names the first rule that holds
pub record IsRefusedBy (f : ElfFile) (o : Options) (e : AdmitError) : Type 0 where
  pub fault : HasFault f o e
  pub first : (d : AdmitError) → place_of d < place_of e → HasFault f o d → ⊥

-- ---- a file that no rule refuses
pub record IsAdmitted (f : ElfFile) (o : Options) : Type 0 where
  pub uncompressed : is_compressed f ≡ false
  pub static : is_dynamic f.segments ≡ false
  pub separate : (i : ℕ) → passes_at is_writable_code (slice_get f.segments i) ≡ false
  pub entry : is_code f f.entry ≡ true
  pub sections : (i : ℕ) → passes_at (is_misshapen_section (loads_of f)) (slice_get f.sections i) ≡ false
  pub segments : (i : ℕ) → passes_at (is_misshapen_segment f) (slice_get f.segments i) ≡ false
  pub known : (a : ℕ) → a < 2 ^ 64 → is_unknown f a ≡ false
  pub low : (a : ℕ) → a < 2 ^ 64 → high_at f a ≡ None
  pub unbroken : (a : ℕ) → a < 2 ^ 64 → is_breakpoint f a ≡ false
  pub near : (a : ℕ) → a < 2 ^ 64 → is_far_constant f a ≡ false
  pub unmixed : (i : ℕ) → passes_at (is_mixed (image_of f)) (slice_get f.segments i) ≡ false
  pub half : high_of (image_of f) ≤ base_of (image_of f) + half_of o.half (image_of f)
  -- and the limits on the image, on its code and on its place
  pub span : distance_of (image_of f) ≤ limit_of limit.ImageSpan
  pub words : (n : ℕ) → HasTooManyWords f n → ⊥
  pub top : code_place o.half (image_of f) + CODE_ROOM ≤ limit_of limit.TopAddress

-- ---- one answer
-- a file is admitted, exactly where no rule holds, or it is refused, by one rule at one place
pub record HasOneAnswer (f : ElfFile) (o : Options) : Type 0 where
  pub answered : IsAdmitted f o ⊎ ((e : AdmitError) × IsRefusedBy f o e)
  pub admitted : ((e : AdmitError) → HasFault f o e → ⊥) → IsAdmitted f o
  pub apart : (e : AdmitError) → IsAdmitted f o → HasFault f o e → ⊥
  pub one : (e d : AdmitError) → IsRefusedBy f o e → IsRefusedBy f o d → e ≡ d

abbrev pub AdmissionHasOneAnswer : Type 0
AdmissionHasOneAnswer = (f : ElfFile) (o : Options) → HasOneAnswer f o
