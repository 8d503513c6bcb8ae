-- The file that a command reads: the status of the answer over it, and what the answer stores.
use Rattle.std.proofs.Common.{◌≡◌, ℕ, List, Option, None, Some, IfSome, inl, inr, sym, ap, ◌∙◌, subst, arith}
use Rattle.std.specs.Prelude.{IsSomeAnd}
use Rattle.qed_io.specs.declared.shelf.Shelf.{Ghosts}
use Rattle.machine.specs.declared.limits.Limit as limits
use Rattle.qed_top.specs.Answer.{CallsFor, read_fault, too_long, within, PrintsOnly, IsFaultless, SteadyOrReadFault, StoreRose, limit_of}
use Rattle.qed_top.specs.Loads.{Decided}
use Rattle.qed_top.specs.Loads as decide
use Rattle.qed_top.specs.Refused.{Makes, MakesDecides, ReadOn, ReadOnDecides, refused, made, not_made, is_made, not_read, read_on, is_not_read, is_read, error_status, refusal_status, ElfFile, Options, IsTransformable}
use Rattle.qed_top.specs.Run.{InMemory, InMemoryDecides, too_large, fits, is_too_large, is_within}
use Rattle.qed_top.specs.declared.answer.Answer.{Answer}
use Rattle.qed_top.specs.declared.answer.Stored.{Stored}
use Rattle.qed_top.specs.declared.status.Status.{Status}
use Rattle.qed_top.specs.declared.status.Status.TheVariants.{Done, Limit, ReadFault}
use Rattle.tests.proofs.Lemmas.{read_or_refused, one_file}
use Rattle.transform.proofs.OneAnswer.{same_refusal, one_cause, memory_only}
use Rattle.qed_top.proofs.Statuses.{IsRefusal, Printed, error_refuses, refusal_refuses, refusal_printed}

-- ---- the status and the stored file of an answer
-- an answer has a status with a text, and stores only a file of this name
pub record Tells (name : Option (List ℕ)) (answer : Answer) : Type 0 where
  pub printed : Printed answer.status
  pub named : IfSome answer.stored (λ s. name ≡ Some s.name)

-- the answer stores nothing
pub tells : (status : Status) {line : List ℕ} (name : Option (List ℕ)) (answer : Answer) → Printed status → PrintsOnly status line answer → Tells name answer
tells status name answer p a = record {
  printed = subst Printed (sym a.status) p;
  named = subst (λ (o : Option Stored). IfSome o (λ s. name ≡ Some s.name)) (sym a.stored) tt;
}

pub refusal_tells : (status : Status) {line : List ℕ} (name : Option (List ℕ)) (answer : Answer) → IsRefusal status → PrintsOnly status line answer → Tells name answer
refusal_tells status name answer r a = tells status name answer (refusal_printed status r) a

-- the answer stores a file
named_of : (stored : Option Stored) (name file : List ℕ) → IsSomeAnd stored (λ s. (s.name ≡ name) × (s.bytes ≡ file)) → IfSome stored (λ s. Some name ≡ Some s.name)
named_of None name file s = tt
named_of (Some x) name file s = ap Some (sym s.0)

pub stores_tells : (name file : List ℕ) (answer : Answer) → answer.status ≡ Done → IsSomeAnd answer.stored (λ s. (s.name ≡ name) × (s.bytes ≡ file)) → Tells (Some name) answer
stores_tells name file answer done s = record { printed = subst Printed (sym done) tt; named = named_of answer.stored name file s }

pub calls_tells :
    (limit : limits.Limit) (bytes : List ℕ) (rose W : Type 0) (name : Option (List ℕ)) (answer : Answer) → (W → Tells name answer)
    → CallsFor limit bytes rose W answer → Tells name answer
calls_tells limit bytes rose W name answer h (read_fault f) = tells ReadFault name answer tt f.plain
calls_tells limit bytes rose W name answer h (too_long t) = tells Limit name answer tt t.plain
calls_tells limit bytes rose W name answer h (within small w) = h w

-- the answer over bytes that are read, and over a file whose segments fit into memory
pub read_tells : (bytes : List ℕ) (P : ElfFile → Type 0) (answer : Answer) → ((f : ElfFile) → P f → Tells None answer) → ReadOn bytes P answer → Tells None answer
read_tells bytes P answer h (not_read u) = refusal_tells (error_status u.error) None answer (error_refuses u.error) u.plain
read_tells bytes P answer h (read_on f r p) = h f p

pub memory_tells : (f : ElfFile) (W : Type 0) (answer : Answer) → (W → Tells None answer) → InMemory f W answer → Tells None answer
memory_tells f W answer h (too_large a) = tells Limit None answer tt a.plain
memory_tells f W answer h (fits small w) = h w

-- the answer over bytes that are transformed
pub made_tells : (bytes : List ℕ) (o : Options) (Uses : Type 0) (name : Option (List ℕ)) (answer : Answer) → (Uses → Tells name answer) → Makes bytes o Uses answer → Tells name answer
made_tells bytes o Uses name answer h (refused r) = refusal_tells (refusal_status r.error) name answer (refusal_refuses r.error) r.plain
made_tells bytes o Uses name answer h (made m) = h m

-- without a failed store of this name, the answer's store did not fail
pub no_store :
    (name : Option (List ℕ)) (stored : Option Stored) (rose : List ℕ → Type 0) → IfSome stored (λ s. name ≡ Some s.name)
    → IfSome name (λ n. rose n → ⊥) → StoreRose stored rose → ⊥
no_store name None rose named calm r = absurd r
no_store name (Some s) rose named calm r =
    let none : rose s.name → ⊥ = subst (λ (o : Option (List ℕ)). IfSome o (λ n. rose n → ⊥)) named calm in none r

-- ---- a status that is decided
pub calls_settled :
    (limit : limits.Limit) (bytes : List ℕ) (rose V W : Type 0) (answer : Answer) (t : Status) → (V → W → answer.status ≡ t) → (rose → ⊥) → CallsFor limit bytes rose V answer
    → Decided (limit_of limit) bytes W t → answer.status ≡ t
calls_settled limit bytes rose V W answer t h calm (read_fault r) d = absurd (calm r.cause)
calls_settled limit bytes rose V W answer t h calm (too_long x) (decide.too_long l a) = x.plain.status ∙ sym a
calls_settled limit bytes rose V W answer t h calm (too_long x) (decide.within l w) = absurd (omega (arith, x.cause, l))
calls_settled limit bytes rose V W answer t h calm (within small v) (decide.too_long l a) = absurd (omega (arith, small, l))
calls_settled limit bytes rose V W answer t h calm (within small v) (decide.within l w) = h v w

pub read_settled :
    (bytes : List ℕ) (P Q : ElfFile → Type 0) (answer : Answer) (t : Status) → ((f : ElfFile) → P f → Q f → answer.status ≡ t) → ReadOn bytes P answer
    → ReadOnDecides bytes Q t → answer.status ≡ t
read_settled bytes P Q answer t h (not_read u) (is_not_read e x b) = u.plain.status ∙ ap error_status (same_refusal bytes u.error e u.cause x) ∙ sym b
read_settled bytes P Q answer t h (not_read u) (is_read f r q) = absurd (read_or_refused bytes f u.error r u.cause)
read_settled bytes P Q answer t h (read_on f r p) (is_not_read e x b) = absurd (read_or_refused bytes f e r x)
read_settled bytes P Q answer t h (read_on f r p) (is_read g s q) = h g (subst P (one_file bytes f g r.file s.file) p) q

pub memory_settled :
    (f : ElfFile) (W : Type 0) (done : Status) (answer : Answer) (t : Status) → (W → answer.status ≡ done) → InMemory f W answer → InMemoryDecides f done t
    → answer.status ≡ t
memory_settled f W done answer t h (too_large a) (is_too_large l e) = a.plain.status ∙ sym e
memory_settled f W done answer t h (too_large a) (is_within l e) = absurd (omega (arith, a.over, l))
memory_settled f W done answer t h (fits small w) (is_too_large l e) = absurd (omega (arith, small, l))
memory_settled f W done answer t h (fits small w) (is_within l e) = h w ∙ sym e

pub made_settled :
    (bytes : List ℕ) (o : Options) (Uses Then : Type 0) (answer : Answer) (t : Status) → (Uses → IsTransformable bytes o) → (Uses → Then → answer.status ≡ t)
    → Makes bytes o Uses answer → MakesDecides bytes o Then t → answer.status ≡ t
made_settled bytes o Uses Then answer t can h (refused r) (not_made e x n b) = r.plain.status ∙ ap refusal_status (one_cause bytes o r.error e r.known n r.cause x) ∙ sym b
made_settled bytes o Uses Then answer t can h (refused r) (is_made f u) = absurd (r.known (memory_only bytes o r.error r.cause f))
made_settled bytes o Uses Then answer t can h (made m) (not_made e x n b) = absurd (n (memory_only bytes o e x (can m)))
made_settled bytes o Uses Then answer t can h (made m) (is_made f u) = h m u

-- ---- counts of faults
-- counts that changed in neither of two parts of a call
module _ {S : Type 0} (shelf : Ghosts S) (old middle new : S) where
  pub steady_both : IsFaultless shelf old middle → IsFaultless shelf middle new → IsFaultless shelf old new
  steady_both a b = record { load = λ name. b.load name ∙ a.load name; store = λ name. b.store name ∙ a.store name }

  -- the counts are unchanged, unless one part reports a read fault
  pub steady_since : (answer : Answer) → IsFaultless shelf old middle → SteadyOrReadFault (IsFaultless shelf middle new) answer → SteadyOrReadFault (IsFaultless shelf old new) answer
  steady_since answer a (inl b) = inl (steady_both a b)
  steady_since answer a (inr plain) = inr plain

  pub steady_then : (answer : Answer) → SteadyOrReadFault (IsFaultless shelf old middle) answer → IsFaultless shelf middle new → SteadyOrReadFault (IsFaultless shelf old new) answer
  steady_then answer (inl a) b = inl (steady_both a b)
  steady_then answer (inr plain) b = inr plain
