-- The halves of the output's state against the input's states (this project's profile). The original half is x1 to x13
-- and the bytes of the input in place. The duplicate half is x17 to x29 and the bytes at the distance d.
use Rattle.std.specs.Prelude.{◌≡◌, ℕ, ◌+◌, ◌*◌, ◌^◌, ◌<◌, ◌≤◌, true, length, is_some}
use Rattle.rv_isa.specs.declared.profile.TheConstants.{LAST_ORIGINAL, PAIR_DISTANCE, DISTANCE}
use Rattle.machine.specs.declared.limits.Limit.TheVariants as limit
use Rattle.machine.specs.declared.limits.TheConstants.{CODE_ROOM}
use Rattle.machine.specs.Limits.{limit_of}
use Rattle.machine.specs.Step.{State, reg}
use Rattle.machine.specs.Memory.{get, flags_at, Memory, allows, byte_at}

-- where the halves stand, and what the two files say of permissions; f is the input's memory, g the output's
pub record Layout (base d : ℕ) (f g : Memory) : Type 0 where
  pub top : base + 3 * d + CODE_ROOM ≤ limit_of limit.TopAddress
  -- the input's bytes stand in the original half
  pub low : (q : ℕ) → is_some (get f q) ≡ true → base ≤ q
  pub high : (q : ℕ) → is_some (get f q) ≡ true → q < base + d
  -- a byte that the input may read or write may be read or written in both halves
  pub reads : (q : ℕ) → allows (λ c. c.read) (get f q) ≡ true → allows (λ c. c.read) (get g q) ≡ true
  pub writes : (q : ℕ) → allows (λ c. c.write) (get f q) ≡ true → allows (λ c. c.write) (get g q) ≡ true
  pub mirror_reads : (q : ℕ) → allows (λ c. c.read) (get f q) ≡ true → allows (λ c. c.read) (get g (q + d)) ≡ true
  pub mirror_writes : (q : ℕ) → allows (λ c. c.write) (get f q) ≡ true → allows (λ c. c.write) (get g (q + d)) ≡ true
  pub mapped : (q : ℕ) → is_some (get f q) ≡ true → is_some (get g q) ≡ true
  pub mirror_mapped : (q : ℕ) → is_some (get f q) ≡ true → is_some (get g (q + d)) ≡ true

-- a state with the permissions of a file
pub record Flagged (m : Memory) (s : State) : Type 0 where
  pub flags : (q : ℕ) → flags_at s.memory q ≡ flags_at m q
  pub regs : length s.regs ≡ 32
  pub zero_reg : reg s 0 ≡ 0

-- u has in the original half the values of s, and in the duplicate half those of s'
pub record HalvesHold (base d : ℕ) (f g : Memory) (u s s' : State) : Type 0 where
  pub output : Flagged g u
  pub input : Flagged f s
  pub shadow : Flagged f s'
  pub originals : (r : ℕ) → r ≤ LAST_ORIGINAL → reg u r ≡ reg s r
  pub pairs : (r : ℕ) → 1 ≤ r → r ≤ LAST_ORIGINAL → reg u (r + PAIR_DISTANCE) ≡ reg s' r
  pub distance : reg u DISTANCE ≡ d
  pub bytes : (q : ℕ) → is_some (get f q) ≡ true → byte_at u.memory q ≡ byte_at s.memory q
  pub mirror_bytes : (q : ℕ) → is_some (get f q) ≡ true → byte_at u.memory (q + d) ≡ byte_at s'.memory q
  -- the table and the new code
  pub fixed : (q : ℕ) → base + 2 * d ≤ q → q < 2 ^ 64 → get u.memory q ≡ get g q
