-- The new code of a test in the lean form (this project's profile): its sequences, what its ticks count, and its items.
use Rattle.std.specs.Prelude.{ℕ, ◌+◌, ◌-◌, ◌*◌, ◌%◌, ◌^◌, Bool, true, false, cond, ◌==◌, ◌&&◌, ◌||◌, nat_lt, min, max, List, [], ◌∷◌, ◌++◌, length}
use Rattle.std.specs.List.{list_any}
use Rattle.qed_model.specs.declared.steps.TheConstants.{LEAN_LEAVE_STEPS, MOST_OWED}
use Rattle.rv_isa.specs.declared.class.Class.TheVariants as class
use Rattle.machine.specs.Step.{target, Class, class_of}
use Rattle.qed_model.specs.Weave.Blocks.{Options, ElfFile, begins_at}
use Rattle.qed_model.specs.Weave.LeanBounds.{cost_of, entry_steps}
use Rattle.qed_model.specs.Weave.Code.{Sequences, code_of}
use Rattle.qed_model.specs.declared.steps.TheConstants.{DIVERSE_STEPS}
use Rattle.qed_model.specs.Weave.Costs.{cost_each, original_cost, spent, mirror_steps}
use Rattle.qed_model.specs.Weave.Forms.{mirror_of, form_of}
use Rattle.qed_model.specs.Weave.Lean.{enter, call_at, check, guard_address, guard_value, mirrored_store, leave, begin, leave_cost}
use Rattle.tests.specs.Admission.Places.{base_of, image_of, half_of, code_place}
use Rattle.machine.specs.Offsets.{distance_between}
use Rattle.qed_model.specs.Weave.Placed.{sum_of_sizes, entry_of}
use Rattle.qed_model.specs.Weave.Sequences.{Mark, Plain, Go, Item, Ins, Form, Block, End, Falls, Stops, body_length, original, each_part, before_end}

-- what it depends on besides blocks and form. First: the steps from check to check, the most instructions of a piece,
-- whether mirror parts are of other kinds, whether entries test the signature. Then: the halves' distance, the check's
-- address, the blocks with a tick, the most steps from an entry to the next tick, the start of the block with an end
pub record Lean : Type 0 where
  pub every : ℕ
  pub inst_max : ℕ
  pub diverse : Bool
  pub land : Bool
  pub distance : ℕ
  pub check : ℕ
  pub ticks : ℕ → Bool
  pub most : ℕ → ℕ
  pub start_of : End → ℕ → ℕ

-- ---- a piece
abbrev pub is_store : Class → Bool
is_store class.Store = true
is_store _ = false

-- a store in both halves, behind the guards of its address and of its value
abbrev pub store_part : Ins → List Item
store_part i = guard_address i ++ (guard_value i ++ (Plain i ∷ mirrored_store i ∷ []))

-- instructions without a store from an input address on: all original parts, and all mirror parts
abbrev pub both_parts : Bool → List Ins → ℕ → List Item
both_parts diverse is at = each_part original is at ++ each_part (mirror_of diverse) is at

-- a run without stores from an input address on, and what follows; a store stands in both halves before what is next
abbrev pub parts_with : Bool → List Ins → ℕ → List Ins → List Item
parts_with diverse run at [] = both_parts diverse run at
parts_with diverse run at (i ∷ is) =
    cond (is_store (class_of i.kind)) (both_parts diverse run at ++ (store_part i ++ parts_with diverse [] (at + 4 * length run + 4) is))
    (parts_with diverse (run ++ (i ∷ [])) at is)

-- a piece
abbrev pub piece : Bool → List Ins → ℕ → List Item
piece diverse is at = parts_with diverse [] at is

-- ---- the sequences
-- behind a block stands the entry of a leader, or no code
abbrev pub fall_to : (ℕ → Bool) → ℕ → List Item
fall_to leader t = cond (leader t) (Mark t ∷ []) (Go t ∷ [])

-- pieces have nothing behind them; with what leads behind a block, and what runs first, where an input
-- address has its entry
abbrev pub sequences : Form → (ℕ → ℕ) → Lean → (ℕ → List Item) → (ℕ → ℕ → List Item) → Sequences
sequences form entry l fall first = record {
  first = first;
  enter = λ a. enter l.land (l.ticks a) a (l.most a) (distance_between (entry a + call_at l.land) l.check);
  piece = piece l.diverse;
  leave = λ e at. leave l.distance (before_end form) fall e (l.start_of e at) at;
}

-- what leads behind a block, as words: nothing, where a block stands there
abbrev pub fall_words : (ℕ → Bool) → ℕ → List Item
fall_words leader t = cond (leader t) [] (Go t ∷ [])

-- the sequences as words, for an input that begins at `base`: behind what runs first stands the check
abbrev pub worded : Form → ℕ → (ℕ → ℕ) → Lean → (ℕ → Bool) → Sequences
worded form base entry l leader = sequences form entry l (fall_words leader) (λ d a. begin d a ++ check base d l.every form.round form.spans)

-- ---- the steps of a block
-- where its end stands
abbrev pub end_at : Block → ℕ
end_at b = b.start + 4 * body_length b.body

-- of a mirror part
abbrev pub mirror_steps_of : Bool → Ins → ℕ
mirror_steps_of diverse i = cond diverse (DIVERSE_STEPS - spent i) (mirror_steps i)

-- of a store in both halves: the guard of its address, that of its value, and both stores
abbrev pub store_steps : Ins → ℕ
store_steps i = cond ((i.rs2 == i.rs1) || (i.rs2 == 0)) 5 6

-- of an instruction in both its parts
abbrev pub both_steps : Bool → Ins → ℕ
both_steps diverse i = cond (is_store (class_of i.kind)) (store_steps i) (original_cost i + mirror_steps_of diverse i)

abbrev pub body_steps : Bool → List (List Ins) → ℕ
body_steps diverse [] = 0
body_steps diverse (p ∷ ps) = cost_each (both_steps diverse) p + body_steps diverse ps

-- the most steps of a block: those of its entry, of its pieces, and the most of its leave
abbrev pub block_steps : Bool → Bool → (ℕ → Bool) → Block → ℕ
block_steps diverse land leader b = entry_steps land + (body_steps diverse b.body + leave_cost (fall_to leader) b.end b.start (end_at b))

-- ---- where a block goes on, but by a jump by register
abbrev pub leads_as : Class → Ins → ℕ → ℕ → Bool
leads_as class.Jump i at t = target i at == t
leads_as class.Branch i at t = (target i at == t) || ((at + 4) % 2 ^ 64 == t)
leads_as _ i at t = false

abbrev pub leads_on : End → ℕ → ℕ → Bool
leads_on Falls at t = at == t
leads_on (Stops i) at t = leads_as (class_of i.kind) i at t

-- one of these blocks does at an address
abbrev pub leads_in : List Block → ℕ → Bool
leads_in bs t = list_any (λ b. leads_on b.end (end_at b) t) bs

-- ---- ticks
-- of a block: where it begins, whether it has a tick, and the most steps from its entry to the next tick
pub record TickRow : Type 0 where
  pub start : ℕ
  pub ticks : Bool
  pub most : ℕ

-- of the block that begins at an address
abbrev pub has_tick : List TickRow → ℕ → Bool
has_tick [] a = true
has_tick (r ∷ rs) a = cond (r.start == a) r.ticks (has_tick rs a)

abbrev pub most_at : List TickRow → ℕ → ℕ
most_at [] a = 0
most_at (r ∷ rs) a = cond (r.start == a) r.most (most_at rs a)

-- the steps behind an entry that the tick before it has to count: none, where it has its own
abbrev pub owed_at : List TickRow → ℕ → ℕ
owed_at rs t = cond (has_tick rs t) 0 (most_at rs t)

-- the most steps owed behind an end: `owed` gives those at an address, and `most` those behind a jump by register
abbrev pub owed_as : ℕ → (ℕ → ℕ) → Class → Ins → ℕ → ℕ
owed_as most owed class.Jump i at = owed (target i at)
owed_as most owed class.Branch i at = max (owed (target i at)) (owed ((at + 4) % 2 ^ 64))
owed_as most owed class.JumpReg i at = most
owed_as most owed _ i at = 0

abbrev pub owed_behind : ℕ → (ℕ → ℕ) → End → ℕ → ℕ
owed_behind most owed Falls at = owed at
owed_behind most owed (Stops i) at = owed_as most owed (class_of i.kind) i at

-- what the rows depend on besides the blocks: what the steps do, which addresses begin a block, the entry of the test,
-- and how many steps may be left to the tick before
pub record Counting : Type 0 where
  pub diverse : Bool
  pub land : Bool
  pub leader : ℕ → Bool
  pub entry : ℕ
  pub room : ℕ

-- a block needs a tick if it is the first, one from there on leads to it, or the next tick is over `room` steps away
abbrev pub needs_tick : Counting → Block → Bool → ℕ → Bool
needs_tick c b behind most = (b.start == c.entry) || (behind || nat_lt c.room most)

-- of blocks in ascending order
abbrev pub tick_rows : Counting → List Block → List TickRow
tick_rows c [] = []
tick_rows c (b ∷ bs) =
    let most : ℕ = block_steps c.diverse c.land c.leader b + owed_behind c.room (owed_at (tick_rows c bs)) b.end (end_at b) in
    record { start = b.start; ticks = needs_tick c b (leads_in (b ∷ bs) b.start) most; most = most } ∷ tick_rows c bs

-- ---- of a file
-- the room is what a period leaves beside the longest block, but at most 48, since a tick counts the longest way
abbrev pub counting_of : Options → ℕ → ℕ → List Block → Counting
counting_of o entry every blocks = record {
  diverse = o.diverse;
  land = o.land;
  leader = begins_at blocks;
  entry = entry;
  room = min (every - (entry_steps o.land + (LEAN_LEAVE_STEPS + 1) + cost_of o.diverse * o.inst_max)) MOST_OWED;
}

-- two ends fall, or neither does
abbrev pub is_alike : End → End → Bool
is_alike Falls Falls = true
is_alike (Stops i) (Stops j) = true
is_alike _ _ = false

-- where the block begins that has such an end at an address
abbrev pub start_at : List Block → End → ℕ → ℕ
start_at [] e at = 0
start_at (b ∷ bs) e at = cond (is_alike b.end e && (end_at b == at)) b.start (start_at bs e at)

-- of blocks, where the halves are so far apart, the check stands at an address, and the test has its entry at another
abbrev pub lean_in : Options → ℕ → List Block → ℕ → ℕ → ℕ → Lean
lean_in o every blocks distance check entry = record {
  every = every;
  inst_max = o.inst_max;
  diverse = o.diverse;
  land = o.land;
  distance = distance;
  check = check;
  ticks = has_tick (tick_rows (counting_of o entry every blocks) blocks);
  most = most_at (tick_rows (counting_of o entry every blocks) blocks);
  start_of = start_at blocks;
}

-- of a file with its blocks
abbrev pub lean_of : ElfFile → Options → ℕ → List Block → Lean
lean_of f o every blocks = lean_in o every blocks (half_of o.half (image_of f))
    (code_place o.half (image_of f) + sum_of_sizes false (begin (half_of o.half (image_of f)) f.entry)) f.entry

-- ---- the new code
-- its items, where an input address has its entry
abbrev pub items_with : ElfFile → Options → ℕ → List Block → (ℕ → ℕ) → List Item
items_with f o every blocks entry =
    code_of (worded (form_of f o false) (base_of (image_of f)) entry (lean_of f o every blocks) (begins_at blocks)) (half_of o.half (image_of f)) f.entry blocks

-- the entries stand where their marks do, whatever the ticks take for their distances
abbrev pub lean_items : ElfFile → Options → ℕ → List Block → List Item
lean_items f o every blocks = items_with f o every blocks (entry_of false (code_place o.half (image_of f)) (items_with f o every blocks (λ a. 0)))
