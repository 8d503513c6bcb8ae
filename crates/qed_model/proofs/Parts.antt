-- The parts of one role hold all items of the new code.
use Rattle.std.proofs.Common.{◌≡◌, ℕ, ◌+◌, ◌*◌, Bool, true, false, cond, Option, Some, None, List, [], ◌∷◌, ◌++◌, length, refl, sym, ap, ◌∙◌, append_assoc}
use Rattle.std.proofs.lemmas.List.{append-nil}
use Rattle.rv_isa.specs.declared.class.Class.TheVariants as class
use Rattle.qed_model.specs.declared.role.Role.{Role}
use Rattle.qed_model.specs.declared.role.Role.TheVariants as role
use Rattle.machine.specs.Step.{Ins, class_of, Class}
use Rattle.tests.specs.declared.options.Options.{Options}
use Rattle.tests.specs.Admission.Places.{base_of, ElfFile, image_of, half_of, code_place}
use Rattle.machine.specs.Offsets.{distance_between}
use Rattle.qed_model.specs.Weave.Placed.{entry_of}
use Rattle.qed_model.specs.Weave.Blocks.{begins_at}
use Rattle.qed_model.specs.Weave.Sequences.{Mark, Plain, Item, Form, Block, End, Falls, Stops, check_sign, compare, visit, original, each_part, leave_as, body_length, stub}
use Rattle.qed_model.specs.Weave.Code.{Sequences, sequences, pieces_of, body_of, block_items, entries_of, code_of}
use Rattle.qed_model.specs.Weave.Forms.{mirror_of, form_of}
use Rattle.qed_model.specs.Weave.Lean.{tick, call_at}
use Rattle.qed_model.specs.Weave.LeanCode.{Lean, is_store, store_part, both_parts, parts_with, worded, fall_words, lean_of, items_with}
use Rattle.qed_model.specs.Weave.Parts.{joined, Parts, ArePartsOf, pieces_parts, block_parts, entries_parts, parts_to_stub, code_parts, each_parts, last_of, leave_as_parts, leave_parts, parts}
use Rattle.qed_model.specs.Weave.LeanParts.{store_parts, both_parts as both_of, parts_with as with_parts, worded_parts, leave_as_parts as lean_leave_as, leave_parts as lean_leave}
use Rattle.qed_model.specs.Weave.Lean.{guard_address, guard_value, mirrored_store, leave as leave_of, leave_as as leave_in}
use Rattle.qed_model.specs.Weave.Sequences.{before_end, leave}
use Rattle.qed_model.specs.Weave.Woven.{is_far_code, code_as}

pub joined_append : (ps qs : List (Role × List Item)) → joined (ps ++ qs) ≡ joined ps ++ joined qs
joined_append [] qs = refl
joined_append (p ∷ ps) qs = ap (λ l. p.1 ++ l) (joined_append ps qs) ∙ sym (append_assoc p.1 (joined ps) (joined qs))

-- the items of two parts
both : (ps qs : List (Role × List Item)) (xs ys : List Item) → joined ps ≡ xs → joined qs ≡ ys → joined (ps ++ qs) ≡ xs ++ ys
both ps qs xs ys e f = joined_append ps qs ∙ ap (λ l. l ++ joined qs) e ∙ ap (λ l. xs ++ l) f

-- ---- any sequences
module _ (s : Sequences) (p : Parts) (are : ArePartsOf s p) where
  pieces_joined : (ps : List (List Ins)) (at : ℕ) → joined (pieces_parts p ps at) ≡ pieces_of s ps at
  pieces_joined [] at = refl
  pieces_joined (is ∷ ps) at = both (p.piece is at) (pieces_parts p ps (at + 4 * length is)) (s.piece is at) _ (are.piece is at) (pieces_joined ps (at + 4 * length is))

  block_joined : (b : Block) → joined (block_parts p b) ≡ block_items s b
  block_joined b =
      let at = b.start + 4 * body_length b.body in
      both (p.enter b.start) (pieces_parts p b.body b.start ++ p.leave b.end at) (Mark b.start ∷ s.enter b.start) (body_of s b.body b.end b.start) (are.enter b.start)
      (both (pieces_parts p b.body b.start) (p.leave b.end at) _ _ (pieces_joined b.body b.start) (are.leave b.end at))

  entries_joined : (bs : List Block) → joined (entries_parts p bs) ≡ entries_of s bs
  entries_joined [] = refl
  entries_joined (b ∷ bs) = both (block_parts p b) (entries_parts p bs) _ _ (block_joined b) (entries_joined bs)

  pub to_stub_joined : (d a : ℕ) (bs : List Block) → joined (parts_to_stub p d a bs) ≡ s.first d a ++ entries_of s bs
  to_stub_joined d a bs = both (p.first d a) (entries_parts p bs) _ _ (are.first d a) (entries_joined bs)

  pub code_joined : (d a : ℕ) (bs : List Block) → joined (code_parts p d a bs) ≡ code_of s d a bs
  code_joined d a bs = both (parts_to_stub p d a bs) ((role.Stub, stub) ∷ []) _ _ (to_stub_joined d a bs) refl ∙ append_assoc (s.first d a) (entries_of s bs) stub

-- ---- the two forms
each_joined : (of : ℕ → Role) (part : Ins → ℕ → List Item) (is : List Ins) (at : ℕ) → joined (each_parts of part is at) ≡ each_part part is at
each_joined of part [] at = refl
each_joined of part (i ∷ is) at = ap (λ l. part i at ++ l) (each_joined of part is (at + 4))

pub parts_are : (form : Form) → ArePartsOf (sequences form) (parts form)
parts_are form = record {
  first = λ d a. append-nil _;
  enter = λ a. refl;
  piece = λ is at.
      both (each_parts role.Original original is at) (each_parts role.Mirror form.mirror is at ++ ((role.Visit at (last_of is at), compare ++ visit form.round form.spans) ∷ [])) _ _ (each_joined role.Original original is at)
      (both (each_parts role.Mirror form.mirror is at) ((role.Visit at (last_of is at), compare ++ visit form.round form.spans) ∷ []) _ _ (each_joined role.Mirror form.mirror is at) (append-nil _));
  leave = left;
} where
  left_as : (c : Class) (i : Ins) (at : ℕ) → joined (leave_as_parts form c i at) ≡ leave_as form c i at
  left_as class.End i at = refl
  left_as c i at = append-nil (leave_as form c i at)

  left : (e : End) (at : ℕ) → joined (leave_parts form e at) ≡ leave form e at
  left Falls at = refl
  left (Stops i) at = left_as (class_of i.kind) i at

-- both parts of a piece of the lean form
both_joined : (diverse : Bool) (is : List Ins) (at : ℕ) → joined (both_of diverse is at) ≡ both_parts diverse is at
both_joined diverse is at = both (each_parts role.Original original is at) (each_parts role.Mirror (mirror_of diverse) is at) _ _ (each_joined role.Original original is at) (each_joined role.Mirror (mirror_of diverse) is at)

store_joined : (i : Ins) (at : ℕ) → joined (store_parts i at) ≡ store_part i
store_joined i at = ap (λ l. guard_address i ++ l) (append_assoc (guard_value i) (Plain i ∷ []) (mirrored_store i ∷ []))

piece_joined : (diverse : Bool) (run : List Ins) (at : ℕ) (is : List Ins) → joined (with_parts diverse run at is) ≡ parts_with diverse run at is
piece_joined diverse run at [] = both_joined diverse run at
piece_joined diverse run at (i ∷ is) = by (is_store (class_of i.kind)) (piece_joined diverse [] (at + 4 * length run + 4) is) (piece_joined diverse (run ++ (i ∷ [])) at is) where
  by :
      (b : Bool) → joined (with_parts diverse [] (at + 4 * length run + 4) is) ≡ parts_with diverse [] (at + 4 * length run + 4) is
      → joined (with_parts diverse (run ++ (i ∷ [])) at is) ≡ parts_with diverse (run ++ (i ∷ [])) at is
      → joined (cond b (both_of diverse run at ++ (store_parts i (at + 4 * length run) ++ with_parts diverse [] (at + 4 * length run + 4) is)) (with_parts diverse (run ++ (i ∷ [])) at is))
      ≡ cond b (both_parts diverse run at ++ (store_part i ++ parts_with diverse [] (at + 4 * length run + 4) is)) (parts_with diverse (run ++ (i ∷ [])) at is)
  by true e f =
      both (both_of diverse run at) (store_parts i (at + 4 * length run) ++ with_parts diverse [] (at + 4 * length run + 4) is) _ _ (both_joined diverse run at)
      (both (store_parts i (at + 4 * length run)) (with_parts diverse [] (at + 4 * length run + 4) is) _ _ (store_joined i (at + 4 * length run)) e)
  by false e f = f

pub lean_are : (form : Form) (base : ℕ) (entry : ℕ → ℕ) (l : Lean) (leader : ℕ → Bool) → ArePartsOf (worded form base entry l leader) (worded_parts form base entry l leader)
lean_are form base entry l leader = record {
  first = λ d a. refl;
  enter = λ a.
      let sign : List Item = cond l.land (check_sign a) [] in
      ap (λ k. Mark a ∷ (sign ++ k)) (append-nil (cond (l.ticks a) (tick l.land a (l.most a) (distance_between (entry a + call_at l.land) l.check)) []));
  piece = λ is at. piece_joined l.diverse [] at is;
  leave = λ e at. left e (l.start_of e at) at;
} where
  left_as : (c : Class) (i : Ins) (a at : ℕ) → joined (lean_leave_as form l.distance (fall_words leader) c i a at) ≡ leave_in l.distance (before_end form) (fall_words leader) c i a at
  left_as class.End i a at = refl
  left_as c i a at = append-nil (leave_in l.distance (before_end form) (fall_words leader) c i a at)

  left : (e : End) (a at : ℕ) → joined (lean_leave form l.distance (fall_words leader) e a at) ≡ leave_of l.distance (before_end form) (fall_words leader) e a at
  left Falls a at = append-nil (leave_of l.distance (before_end form) (fall_words leader) Falls a at)
  left (Stops i) a at = left_as (class_of i.kind) i a at

-- ---- the new code
pub roles_cover : (form : Option ℕ) (f : ElfFile) (o : Options) (blocks : List Block) → joined (code_as form f o blocks).parts ≡ (code_as form f o blocks).items
roles_cover None f o blocks =
    let form = form_of f o (is_far_code f o blocks) in
    code_joined (sequences form) (parts form) (parts_are form) (half_of o.half (image_of f)) f.entry blocks
roles_cover (Some every) f o blocks =
    let entry = entry_of false (code_place o.half (image_of f)) (items_with f o every blocks (λ a. 0)) in
    let base = base_of (image_of f) in
    let l = lean_of f o every blocks in
    code_joined (worded (form_of f o false) base entry l (begins_at blocks)) (worded_parts (form_of f o false) base entry l (begins_at blocks))
    (lean_are (form_of f o false) base entry l (begins_at blocks)) (half_of o.half (image_of f)) f.entry blocks
