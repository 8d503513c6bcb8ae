-- The files that a call loads, and the status over the bytes of one.
use Rattle.std.specs.Prelude.{◌≡◌, ◌<◌, ◌≤◌, ℕ, List, length, Option, IfSome}
pub use Rattle.qed_io.specs.Files.{Files, file_bytes}
use Rattle.qed_top.specs.declared.status.Status.{Status}
use Rattle.qed_top.specs.declared.status.Status.TheVariants.{Limit}

-- a property of the files that contracts know; if they know none, of some files
pub record OverFiles (told : Option Files) (Holds : Files → Type 0) : Type 0 where
  pub files : Files
  pub same : IfSome told (λ f. f ≡ files)
  pub holds : Holds files

-- the files at each load of a call, from load 0 on
abbrev pub LoadedFiles : Type 0
LoadedFiles = ℕ → Files

-- a property of the files at each load: those that contracts know; if they know none, of some
pub record OverLoads (told : Option Files) (Holds : LoadedFiles → Type 0) : Type 0 where
  pub loads : LoadedFiles
  pub same : IfSome told (λ f. (k : ℕ) → f ≡ loads k)
  pub holds : Holds loads

-- the status over the bytes of a file, up to a limit
pub data Decided (limit : ℕ) (bytes : List ℕ) (Within : Type 0) (status : Status) : Type 0 where
  too_long : limit < length bytes → status ≡ Limit → Decided limit bytes Within status
  within : length bytes ≤ limit → Within → Decided limit bytes Within status
