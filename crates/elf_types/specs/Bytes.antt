-- Bytes that have memory of their own, or are a part of others.
use Rattle.std.specs.Prelude.{◌≤◌, ◌-◌, List, ℕ, drop, take, length}
use Rattle.elf_types.specs.declared.bytes.Stored.{Stored}
use Rattle.elf_types.specs.declared.bytes.Stored.TheVariants as stored

-- all of a vector, or the items of a shared one from one number up to another
abbrev pub bytes_in : Stored → List ℕ
bytes_in (stored.Own v) = v.items
bytes_in (stored.Part all from to) = take (to - from) (drop from all.value.items)

-- the part lies in the shared bytes
abbrev pub IsInside : Stored → Type 0
IsInside (stored.Own _) = Unit
IsInside (stored.Part all from to) = (from ≤ to) × (to ≤ length all.value.items)
