-- Whole files through std's readers and writers.
use Rattle.std.specs.Prelude.{◌<◌, ◌≤◌, ◌≡◌, ℕ, List, length, nat_lt, if◌then◌else◌, Option, Result, Ok, Err, Vec, IfSome, IfOk, IsOkAnd, IsErrOf}
use Rattle.std.specs.IoError.{error_kind}
use Rattle.std.specs.declared.io.Error.{Error}
use Rattle.std.specs.declared.io.ErrorKind.{ErrorKind}
use Rattle.std.specs.declared.io.ErrorKind.TheVariants.{OutOfMemory}
use Rattle.std.specs.Io.KnownBytes.{Appends}
use Rattle.qed_io.specs.Sink.{AppendsPrefix}
use Rattle.qed_io.specs.declared.shelf.LoadError.{LoadError}
use Rattle.qed_io.specs.declared.shelf.LoadError.TheVariants as load

-- what a load answers for an error of the machine: want of memory is that, and each other kind a fault
abbrev pub load_error_of : ErrorKind → LoadError
load_error_of OutOfMemory = load.Memory
load_error_of _ = load.Failed

-- what a load answers where it read on to one byte behind the limit
abbrev pub within_limit : {A : Type 0} → ℕ → Result (Vec ℕ A) Error → Result (List ℕ) LoadError
within_limit limit (Ok bytes) = if nat_lt limit (length bytes.items) then Err load.TooLong else Ok bytes.items
within_limit limit (Err error) = Err (load_error_of (error_kind error))

-- a load through a reader that was opened gave all the bytes that it held, or they are more than the limit; held says
-- which bytes a reader has left, if that is known
pub record LoadsHeld {R : Type 0} (held : R → Option (List ℕ)) (opened : Result R Error) (limit : ℕ) (result : Result (List ℕ) LoadError) : Type 0 where
  pub bytes : IfOk result (λ bytes. IsOkAnd opened (λ file. IfSome (held file) (λ all. bytes ≡ all)))
  pub within : IfOk result (λ bytes. length bytes ≤ limit)
  pub too_long : IsErrOf result load.TooLong → IsOkAnd opened (λ file. IfSome (held file) (λ all. limit < length all))

-- a store through an opened sink appended all the bytes; held says which bytes a sink has, if that is known
abbrev pub StoresHeld : {W : Type 0} → (W → Option (List ℕ)) → Result W Error → Result W Error → List ℕ → Type 0
StoresHeld held old new bytes = IsOkAnd old (λ before. IsOkAnd new (λ now. Appends (held before) (held now) bytes))

-- a store through a sink, if it was opened, appended a prefix of the bytes, and not all of them
abbrev pub StoresHeldPart : {W : Type 0} → (W → Option (List ℕ)) → Result W Error → Result W Error → List ℕ → Type 0
StoresHeldPart held old new bytes = IfOk old (λ before. IsOkAnd new (λ now. AppendsPrefix (held before) (held now) bytes))
