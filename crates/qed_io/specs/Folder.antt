-- A folder as a store sees it, if it is known: the file of a name, and the new file beside it.
use Rattle.std.specs.Prelude.{◌≡◌, ◌≢◌, ◌⊎◌, ◌++◌, ℕ, Bool, true, false, List, [], Option, Some, None, Result, Ok, Err, IfSome, IsSomeAnd, MatchOption}
use Rattle.std.specs.declared.io.ErrorKind.{ErrorKind}
use Rattle.std.specs.declared.io.ErrorKind.TheVariants.{PermissionDenied, InvalidFilename, OutOfMemory}
use Rattle.qed_io.specs.Counts.{Rose}
use Rattle.qed_io.specs.declared.shelf.StoreError.{StoreError}
use Rattle.qed_io.specs.declared.shelf.StoreError.TheVariants as store

-- the bytes of the file of the name, if there is one, and of the new one. Then: whether all bytes of the new one are on
-- the disk, whether it has the rights of the old one, and how many calls to remove it failed
pub record FolderState : Type 0 where
  pub old : Option (List ℕ)
  pub beside : Option (List ℕ)
  pub is_synced : Bool
  pub has_rights : Bool
  pub stuck : ℕ

-- what is known before and after is related; if nothing was known before, nothing is known after
abbrev pub LeadsTold : (FolderState → FolderState → Type 0) → Option FolderState → Option FolderState → Type 0
LeadsTold P old new = MatchOption old (new ≡ None) (λ o. IsSomeAnd new (P o))

-- ---- what a call does
abbrev pub Stays : FolderState → FolderState → Type 0
Stays o n = n ≡ o

-- the new file is there, and has no bytes
abbrev pub IsEmptyFile : FolderState → FolderState → Type 0
IsEmptyFile o n = n ≡ record { old = o.old; beside = Some []; is_synced = false; has_rights = false; stuck = o.stuck }

abbrev pub HasRights : FolderState → FolderState → Type 0
HasRights o n = n ≡ record o { has_rights = true }

-- the bytes stand behind those of the new file
abbrev pub Appends : List ℕ → FolderState → FolderState → Type 0
Appends bytes o n = IfSome o.beside (λ held. n ≡ record o { beside = Some (held ++ bytes); is_synced = false })

abbrev pub IsSynced : FolderState → FolderState → Type 0
IsSynced o n = n ≡ record o { is_synced = true }

-- the new file has the name, and there is none beside it
pub record Renames (o n : FolderState) : Type 0 where
  pub old : n.old ≡ o.beside
  pub beside : n.beside ≡ None
  pub stuck : n.stuck ≡ o.stuck

-- the file of the name is as it was
pub record KeepsOld (o n : FolderState) : Type 0 where
  pub old : n.old ≡ o.old
  pub stuck : n.stuck ≡ o.stuck

-- the file of the name is as it was, and no new one is left, unless its removal failed
pub record Removes (o n : FolderState) : Type 0 where
  pub old : n.old ≡ o.old
  pub removed : (n.beside ≡ None) ⊎ Rose o.stuck n.stuck

-- ---- what is asked
abbrev pub HasNone : Option FolderState → Type 0
HasNone held = IfSome held (λ o. o.beside ≡ None)

abbrev pub IsEmpty : FolderState → Type 0
IsEmpty o = o.beside ≡ Some []

abbrev pub HasNew : Option FolderState → Type 0
HasNew held = IfSome held (λ o. IsSomeAnd o.beside (λ _. Unit {0}))

-- the new file may take the name: all its bytes are on the disk, and it has the rights of the old one
pub record IsReady (o : FolderState) : Type 0 where
  pub is_synced : o.is_synced ≡ true
  pub has_rights : o.has_rights ≡ true

-- ---- what a replacement does
-- if it was done, the name has the new bytes, else what it had; a new file is only left if its removal failed
pub record Replaces (new : Option (List ℕ)) (result : Result Bool StoreError) (o n : FolderState) : Type 0 where
  pub placed : result ≡ Ok true → n.old ≡ new
  pub kept : result ≢ Ok true → n.old ≡ o.old
  pub removed : (n.beside ≡ None) ⊎ Rose o.stuck n.stuck

-- a replacement by the bytes in the new file
abbrev pub Places : Result Bool StoreError → FolderState → FolderState → Type 0
Places result o n = Replaces o.beside result o n

-- the new file has these bytes, all of them on the disk, and the rights of the old one
pub record IsWritten (bytes : List ℕ) (o n : FolderState) : Type 0 where
  pub beside : n.beside ≡ Some bytes
  pub ready : IsReady n
  pub kept : KeepsOld o n

-- a store's answer if no new file could be made: false if the machine lets no file be made beside another, Memory for
-- want of memory, and Failed for each other kind
abbrev pub unmade_of : ErrorKind → Result Bool StoreError
unmade_of PermissionDenied = Ok false
unmade_of InvalidFilename = Ok false
unmade_of OutOfMemory = Err store.Memory
unmade_of _ = Err store.Failed
