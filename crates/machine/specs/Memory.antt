-- Memory: a finite map from an address to a byte and its permissions. Addresses are modulo 2^64, and numbers are little
-- endian (RISC-V unprivileged manual, "Memory" and "Base ISA Memory Model").
use Rattle.std.specs.Prelude.{ℕ, zero, suc, ◌+◌, ◌-◌, ◌*◌, ◌/◌, ◌%◌, ◌^◌, ◌<◌, ◌≤◌, ◌⊎◌, Bool, true, false, cond, ◌&&◌, List, [], ◌∷◌, map, nat_lt, ◌==◌}
use Rattle.std.specs.Prelude.{Option, Some, None, refl}
use Rattle.std.specs.Option.{option_map}
use Rattle.std.specs.Coded.{Coded, code_by, coded×, coded_ℕ, coded_bool}
use Rattle.std.specs.FinMap.{FinMap, entries, from_sorted, code}
pub use Rattle.std.specs.FinMap.{get}
use Rattle.std.specs.Ordering.{nat_cmp}
use Rattle.elf_types.specs.Abi.{may_read, may_write, may_execute}

-- which accesses an address allows
pub record Flags : Type 0 where
  pub read : Bool
  pub write : Bool
  pub execute : Bool

-- the permissions by the flags of a segment: PF_R, PF_W and PF_X (ELF gABI, program header)
abbrev pub flags_of : ℕ → Flags
flags_of flags = record { read = may_read flags; write = may_write flags; execute = may_execute flags }

-- what a mapped address holds
pub record Cell : Type 0 where
  pub byte : ℕ
  pub flags : Flags

-- an address that is not a key is not mapped
abbrev pub Memory : Type 0
Memory = FinMap nat_cmp Cell

-- the cell with another byte
abbrev pub with_byte : ℕ → Cell → Cell
with_byte b c = record { byte = b; flags = c.flags }

-- an entry with its byte made anew from its address and its byte
abbrev pub rewritten_entry : (ℕ → ℕ → ℕ) → ℕ × Cell → ℕ × Cell
rewritten_entry f e = (e.0, with_byte (f e.0 e.1.byte) e.1)

-- each byte becomes a function of its address and the old byte; addresses and permissions stay
unfoldable pub rewritten : (ℕ → ℕ → ℕ) → Memory → Memory
rewritten f m = from_sorted (map (rewritten_entry f) (entries m))

-- an address modulo 2^64
abbrev pub wrap : ℕ → ℕ
wrap a = a % 2 ^ 64

-- how far q is above a, modulo 2^64
abbrev pub offset : ℕ → ℕ → ℕ
offset a q = (q + (2 ^ 64 - a)) % 2 ^ 64

-- byte i of a number, the lowest first
abbrev pub byte_of : ℕ → ℕ → ℕ
byte_of v i = v / 256 ^ i % 256

-- the low n bytes of v at the n addresses from a on
unfoldable pub put : Memory → ℕ → ℕ → ℕ → Memory
put m a n v = rewritten (λ q b. cond (nat_lt (offset a q) n) (byte_of v (offset a q)) b) m

-- the byte at an address, 0 where there is none
abbrev pub byte_in : Option Cell → ℕ
byte_in None = 0
byte_in (Some c) = c.byte

-- 0 where the address is not mapped
unfoldable pub byte_at : Memory → ℕ → ℕ
byte_at m a = byte_in (get m a)

-- the little-endian number of n bytes from a on
unfoldable pub number : Memory → ℕ → ℕ → ℕ
number m a zero = 0
number m a (suc n) = byte_at m (wrap a) + 256 * number m (a + 1) n

-- a mapped address with the permission
abbrev pub allows : (Flags → Bool) → Option Cell → Bool
allows need None = false
allows need (Some c) = need c.flags

-- each of the n bytes from a on is mapped with the permission
unfoldable pub grants : (Flags → Bool) → Memory → ℕ → ℕ → Bool
grants need m a zero = true
grants need m a (suc n) = allows need (get m (wrap a)) && grants need m (a + 1) n

-- ---- permissions
-- the permissions of an address, None where it is not mapped
abbrev pub flags_at : Memory → ℕ → Option Flags
flags_at m q = option_map (λ c. c.flags) (get m q)

-- an address outside of a range
abbrev pub Outside : ℕ → ℕ → ℕ → Type 0
Outside lo hi q = (q < lo) ⊎ (hi ≤ q)

-- ---- segments
-- the cells of bytes that stand one after the other
abbrev pub cells_from : ℕ → Flags → List ℕ → List (ℕ × Cell)
cells_from a f [] = []
cells_from a f (b ∷ bs) = (a, record { byte = b; flags = f }) ∷ cells_from (a + 1) f bs

-- the byte at q is given another value, where there is one
unfoldable pub poked : ℕ → ℕ → Memory → Memory
poked a v m = rewritten (λ q b. cond (q == a) v b) m

-- ---- codes, by which a proof tells values apart
-- permissions as three tests
abbrev pub flags_code : Coded Flags
flags_code = code_by (Bool × (Bool × Bool)) (coded× coded_bool (coded× coded_bool coded_bool)) (λ f. (f.read, (f.write, f.execute)))
    (λ p. record { read = p.0; write = p.1.0; execute = p.1.1 }) (λ _. refl)

-- a cell as its byte and its permissions
abbrev pub cell_code : Coded Cell
cell_code = code_by (ℕ × Flags) (coded× coded_ℕ flags_code) (λ c. (c.byte, c.flags)) (λ p. record { byte = p.0; flags = p.1 }) (λ _. refl)

-- a memory as its list of entries
abbrev pub memory_code : Coded Memory
memory_code = code coded_ℕ cell_code
