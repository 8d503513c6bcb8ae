-- What the items of the new code are for: its sequences in parts of one role, in which each comparison of a register
-- with its pair has a role of its own.
use Rattle.std.specs.Prelude.{◌≡◌, ℕ, ◌+◌, ◌-◌, ◌*◌, ◌==◌, if◌then◌else◌, Bool, Option, Some, None, List, [], ◌∷◌, ◌++◌, length}
use Rattle.rv_isa.specs.declared.profile.TheConstants.{PAIR_DISTANCE}
use Rattle.rv_isa.specs.declared.class.Class.TheVariants as class
use Rattle.machine.specs.Step.{Kind, Beq}
use Rattle.qed_model.specs.declared.role.Role.{Role}
use Rattle.qed_model.specs.declared.role.Role.TheVariants as role
use Rattle.qed_model.specs.declared.role.RoleRow.{RoleRow}
use Rattle.qed_model.specs.Weave.Placed.{size_of}
use Rattle.qed_model.specs.Weave.Sequences.{Mark, Plain, Item, class_of, Class, Ins, Form, Block, End, Falls, Stops, compare, check_sign, visit, original}
use Rattle.qed_model.specs.Weave.Sequences.{before_end, leave_as, leave, body_length, prologue, stub}
use Rattle.qed_model.specs.Weave.Code.{Sequences}

-- ---- parts
-- the items of parts, one part after the other
abbrev pub joined : List (Role × List Item) → List Item
joined [] = []
joined (p ∷ ps) = p.1 ++ joined ps

-- the parts of sequences: of what runs first, of an entry with its mark, of a piece, and of a leave
pub record Parts : Type 0 where
  pub first : ℕ → ℕ → List (Role × List Item)
  pub enter : ℕ → List (Role × List Item)
  pub piece : List Ins → ℕ → List (Role × List Item)
  pub leave : End → ℕ → List (Role × List Item)

-- no item is left out, and none has two roles
pub record ArePartsOf (s : Sequences) (p : Parts) : Type 0 where
  pub first : (d a : ℕ) → joined (p.first d a) ≡ s.first d a
  pub enter : (a : ℕ) → joined (p.enter a) ≡ Mark a ∷ s.enter a
  pub piece : (is : List Ins) (at : ℕ) → joined (p.piece is at) ≡ s.piece is at
  pub leave : (e : End) (at : ℕ) → joined (p.leave e at) ≡ s.leave e at

-- the parts of pieces, of a block, of blocks, of what is before the stub, and of all code
abbrev pub pieces_parts : Parts → List (List Ins) → ℕ → List (Role × List Item)
pieces_parts p [] at = []
pieces_parts p (is ∷ ps) at = p.piece is at ++ pieces_parts p ps (at + 4 * length is)

abbrev pub block_parts : Parts → Block → List (Role × List Item)
block_parts p b = p.enter b.start ++ (pieces_parts p b.body b.start ++ p.leave b.end (b.start + 4 * body_length b.body))

abbrev pub entries_parts : Parts → List Block → List (Role × List Item)
entries_parts p [] = []
entries_parts p (b ∷ bs) = block_parts p b ++ entries_parts p bs

abbrev pub parts_to_stub : Parts → ℕ → ℕ → List Block → List (Role × List Item)
parts_to_stub p d a blocks = p.first d a ++ entries_parts p blocks

abbrev pub code_parts : Parts → ℕ → ℕ → List Block → List (Role × List Item)
code_parts p d a blocks = parts_to_stub p d a blocks ++ ((role.Stub, stub) ∷ [])

-- ---- with a comparison behind each piece
-- a part of each instruction, from an input address on
abbrev pub each_parts : (ℕ → Role) → (Ins → ℕ → List Item) → List Ins → ℕ → List (Role × List Item)
each_parts of part [] at = []
each_parts of part (i ∷ is) at = (of at, part i at) ∷ each_parts of part is (at + 4)

-- the address of the last of some instructions
abbrev pub last_of : List Ins → ℕ → ℕ
last_of is at = at + 4 * (length is - 1)

abbrev pub leave_as_parts : Form → Class → Ins → ℕ → List (Role × List Item)
leave_as_parts form class.End i at = (role.Sweep, before_end form) ∷ (role.Leave at, Plain i ∷ []) ∷ []
leave_as_parts form c i at = (role.Leave at, leave_as form c i at) ∷ []

abbrev pub leave_parts : Form → End → ℕ → List (Role × List Item)
leave_parts form Falls at = (role.Leave at, leave form Falls at) ∷ []
leave_parts form (Stops i) at = leave_as_parts form (class_of i.kind) i at

abbrev pub parts : Form → Parts
parts form = record {
  first = λ d a. (role.Start, prologue d form.spans a) ∷ [];
  enter = λ a. (role.Entry a, Mark a ∷ check_sign a) ∷ [];
  piece = λ is at. each_parts role.Original original is at
      ++ (each_parts role.Mirror form.mirror is at ++ ((role.Visit at (last_of is at), compare ++ visit form.round form.spans) ∷ []));
  leave = leave_parts form;
}

-- ---- roles
-- the role of a comparison of a register with its pair, in a part of a role
abbrev pub comparison_role : Role → ℕ → Role
comparison_role (role.Original at) r = role.Guard r at
comparison_role (role.Visit first last) r = role.Compare r first last
comparison_role (role.Leave at) r = role.LeaveGuard r at
comparison_role role.Sweep r = role.End r
comparison_role role.Check r = role.CheckCompare r
comparison_role of r = of

-- the register that an item compares with its pair
abbrev pub compares_as : Kind → Ins → Option ℕ
compares_as Beq i = if i.rs2 == i.rs1 + PAIR_DISTANCE then Some i.rs1 else None
compares_as k i = None

abbrev pub compares : Item → Option ℕ
compares (Plain i) = compares_as i.kind i
compares item = None

-- the role of an item in a part: the check behind a comparison belongs to it
abbrev pub role_in : Role → Option ℕ → Option ℕ → Role
role_in of (Some r) here = comparison_role of r
role_in of None (Some r) = comparison_role of r
role_in of None None = of

-- a part's items with their roles and their bytes, near or far; the register that the item before compares, or None
abbrev pub item_rows : Bool → Role → Option ℕ → List Item → List RoleRow
item_rows far of before [] = []
item_rows far of before (i ∷ is) = record { role = role_in of before (compares i); bytes = size_of far i } ∷ item_rows far of (compares i) is

abbrev pub role_rows : Bool → List (Role × List Item) → List RoleRow
role_rows far [] = []
role_rows far (p ∷ ps) = item_rows far p.0 None p.1 ++ role_rows far ps
