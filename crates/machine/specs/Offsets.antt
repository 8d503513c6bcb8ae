-- Distances between addresses, and their parts in two instructions (RISC-V unprivileged manual, AUIPC).
use Rattle.std.specs.Prelude.{ℕ, ◌+◌, ◌-◌, ◌/◌, ◌%◌, ◌^◌, ℤ, pos, negsuc, ◌+ℤ◌, ◌-ℤ◌, ◌*ℤ◌}
use Rattle.machine.specs.Table.{signed}

-- the distance from one address to another, modulo 2^64 and read as signed
abbrev pub distance_between : ℕ → ℕ → ℤ
distance_between from to = signed 64 ((to + (2 ^ 64 - from)) % 2 ^ 64)

-- z divided by 4096, rounded down
abbrev pub pages_below : ℤ → ℤ
pages_below (pos x) = pos (x / 4096)
pages_below (negsuc x) = negsuc (x / 4096)

-- the part of a distance that AUIPC adds, a multiple of 4096, and the part that ADDI adds, from -2048 to 2047
abbrev pub upper_part : ℤ → ℤ
upper_part d = pages_below (d +ℤ pos 2048) *ℤ pos 4096

abbrev pub lower_part : ℤ → ℤ
lower_part d = d -ℤ upper_part d
