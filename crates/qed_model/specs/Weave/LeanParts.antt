-- What the items of the lean form are for: its sequences in parts of one role.
use Rattle.std.specs.Prelude.{ℕ, ◌+◌, ◌*◌, Bool, false, cond, List, [], ◌∷◌, ◌++◌, length}
use Rattle.rv_isa.specs.declared.class.Class.TheVariants as class
use Rattle.qed_model.specs.declared.role.Role.{Role}
use Rattle.qed_model.specs.declared.role.Role.TheVariants as role
use Rattle.qed_model.specs.Weave.Blocks.{Options, ElfFile, begins_at}
use Rattle.qed_model.specs.Weave.Forms.{mirror_of, form_of}
use Rattle.qed_model.specs.Weave.Lean.{tick, call_at, first_word, check_distance, called, begun, done, look_up, look_again, guard_address, guard_value}
use Rattle.qed_model.specs.Weave.Lean.{mirrored_store, leave_as, leave, begin}
use Rattle.qed_model.specs.Weave.LeanCode.{Lean, is_store, fall_words, lean_of, items_with}
use Rattle.tests.specs.Admission.Places.{base_of, image_of, half_of, code_place}
use Rattle.machine.specs.Offsets.{distance_between}
use Rattle.qed_model.specs.Weave.Placed.{entry_of}
use Rattle.qed_model.specs.Weave.Parts.{Parts, each_parts, code_parts}
use Rattle.qed_model.specs.Weave.Sequences.{Mark, Plain, Item, class_of, Class, Ins, Form, Block, End, Falls, Stops, check_sign, compare, visit, original}
use Rattle.qed_model.specs.Weave.Sequences.{before_end, SIGNATURE}

-- what runs first, and the check
abbrev pub first_parts : Form → ℕ → Lean → ℕ → ℕ → List (Role × List Item)
first_parts form base l d a =
    (role.Start, begin d a) ∷ (role.Check, called ++ (check_distance d ++ (compare ++ begun (first_word base form.spans))))
    ∷ (role.CheckVisit, visit form.round form.spans) ∷
    (role.Check, done (first_word base form.spans) l.every) ∷ (role.LookUp, look_up SIGNATURE ++ look_again d) ∷ []

-- a store in both halves
abbrev pub store_parts : Ins → ℕ → List (Role × List Item)
store_parts i at = (role.Guard i.rs1 at, guard_address i) ∷ (role.Original at, guard_value i ++ (Plain i ∷ [])) ∷ (role.Mirror at, mirrored_store i ∷ []) ∷ []

-- a piece
abbrev pub both_parts : Bool → List Ins → ℕ → List (Role × List Item)
both_parts diverse is at = each_parts role.Original original is at ++ each_parts role.Mirror (mirror_of diverse) is at

abbrev pub parts_with : Bool → List Ins → ℕ → List Ins → List (Role × List Item)
parts_with diverse run at [] = both_parts diverse run at
parts_with diverse run at (i ∷ is) =
    cond (is_store (class_of i.kind))
    (both_parts diverse run at ++ (store_parts i (at + 4 * length run) ++ parts_with diverse [] (at + 4 * length run + 4) is))
    (parts_with diverse (run ++ (i ∷ [])) at is)

-- the leave, in the block that begins at a, where the halves are d apart, and `fall` leads behind the block
abbrev pub leave_as_parts : Form → ℕ → (ℕ → List Item) → Class → Ins → ℕ → ℕ → List (Role × List Item)
leave_as_parts form d fall class.End i a at = (role.Sweep, compare) ∷ (role.Leave at, check_distance d) ∷ (role.Sign a, check_sign a)
    ∷ (role.Sweep, before_end form) ∷ (role.Leave at, Plain i ∷ []) ∷ []
leave_as_parts form d fall c i a at = (role.Leave at, leave_as d (before_end form) fall c i a at) ∷ []

abbrev pub leave_parts : Form → ℕ → (ℕ → List Item) → End → ℕ → ℕ → List (Role × List Item)
leave_parts form d fall Falls a at = (role.Leave at, leave d (before_end form) fall Falls a at) ∷ []
leave_parts form d fall (Stops i) a at = leave_as_parts form d fall (class_of i.kind) i a at

-- of the sequences as words, for an input that begins at `base`, where an input address has its entry
abbrev pub worded_parts : Form → ℕ → (ℕ → ℕ) → Lean → (ℕ → Bool) → Parts
worded_parts form base entry l leader = record {
  first = first_parts form base l;
  enter = λ a. (role.Sign a, Mark a ∷ cond l.land (check_sign a) [])
      ∷ (role.Tick a, cond (l.ticks a) (tick l.land a (l.most a) (distance_between (entry a + call_at l.land) l.check)) []) ∷ [];
  piece = λ is at. parts_with l.diverse [] at is;
  leave = λ e at. leave_parts form l.distance (fall_words leader) e (l.start_of e at) at;
}

-- of a file, where an input address has its entry
abbrev pub file_parts : ElfFile → Options → ℕ → List Block → (ℕ → ℕ) → List (Role × List Item)
file_parts f o every blocks entry =
    code_parts (worded_parts (form_of f o false) (base_of (image_of f)) entry (lean_of f o every blocks) (begins_at blocks))
    (half_of o.half (image_of f)) f.entry blocks

abbrev pub lean_parts : ElfFile → Options → ℕ → List Block → List (Role × List Item)
lean_parts f o every blocks = file_parts f o every blocks (entry_of false (code_place o.half (image_of f)) (items_with f o every blocks (λ a. 0)))
