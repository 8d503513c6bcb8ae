-- The code of a plan: where its parts stand, the entries of its blocks, and where its words lead.
use Rattle.std.proofs.Common.{◌≡◌, ℕ, ◌+◌, ◌*◌, ◌%◌, ◌^◌, length, ⊎_elim, Bool, true, false, cond, List, [], ◌∷◌, ◌++◌, refl, sym, ap, ◌∙◌, subst, append_assoc, arith}
use Rattle.std.specs.Prelude.{◌==◌, ◌&&◌, pos}
use Rattle.std.proofs.lemmas.Bool.{eq-eqb, eqb-true, false≢true, or_cases}
use Rattle.std.proofs.lemmas.List.{append-nil}
use Rattle.rv_isa.specs.declared.class.Class.TheVariants as class
use Rattle.machine.specs.Table.{ins, Ins}
use Rattle.machine.specs.Members.{Among}
use Rattle.qed_model.specs.Promise.Closed.{is_branch}
use Rattle.qed_model.specs.Weave.Blocks.{begins_at}
use Rattle.qed_model.specs.Weave.Code.{Sequences, pieces_of, body_of, block_items, entries_of}
use Rattle.qed_model.specs.Weave.Placed.{sum_of_sizes}
use Rattle.qed_model.specs.Weave.Sequences.{Reads, End, Falls, Stops, Block, body_length, before_end}
use Rattle.qed_model.specs.Weave.Lean.{turn, opposite, check_way, taken, leave, leave_as}
use Rattle.qed_model.specs.Weave.LeanCode.{Lean, worded, fall_to, fall_words}
use Rattle.weave_core.specs.World.{World, Item, Mark, Plain, Go, Fetched, target, Class, class_of}
use Rattle.weave_core.specs.WeaveLaws.{BlockOf, EntryAt}
use Rattle.weave_core.specs.WeavePromise.{AllBlocksOf}
use Rattle.weave_core.proofs.Lemmas.{reads_front, length-instructions}
use Rattle.lean.specs.Woven.{lean_weave_of, goes_on, begins_with, InOrder, AreCounted, IsCounted}
use Rattle.lean.proofs.Weave.Ways.{reads_behind, reads_join}

-- ---- what stands behind a block
-- items that begin with a mark
record Marked (rest : List Item) (t : ℕ) : Type 0 where
  more : List Item
  is : rest ≡ Mark t ∷ more

module _ (c : ℕ → Fetched) (en : ℕ → ℕ) (leader : ℕ → Bool) (d : ℕ) (before : List Item) where
  abbrev R : ℕ → List Item → Type 0
  R p xs = Reads false c en p xs

  -- a fall to the block behind reads as its mark
  swap_fall : (xs : List Item) (t p : ℕ) (rest : List Item) → R p ((xs ++ fall_words leader t) ++ rest) → (leader t ≡ true → Marked rest t) → R p (xs ++ fall_to leader t)
  swap_fall xs t p rest r m = by (leader t) refl r where
    by : (b : Bool) → leader t ≡ b → R p ((xs ++ cond b [] (Go t ∷ [])) ++ rest) → R p (xs ++ cond b (Mark t ∷ []) (Go t ∷ []))
    by true e r =
        let k = m e in
        let flat : R p (xs ++ rest) = subst (λ l. R p (l ++ rest)) (append-nil xs) r in
        let marked : R p (xs ++ (Mark t ∷ k.more)) = subst (λ l. R p (xs ++ l)) k.is flat in
        reads_front false c en p (xs ++ (Mark t ∷ [])) k.more (subst (λ l. R p l) (sym (append_assoc xs (Mark t ∷ []) k.more)) marked)
    by false e r = reads_front false c en p (xs ++ (Go t ∷ [])) rest r

  -- the words of a branch before the fall
  abbrev front : Ins → ℕ → ℕ → List Item
  front i a at =
      Plain (ins (opposite i.kind) 0 i.rs1 i.rs2 (pos (4 + sum_of_sizes false (taken i a (target i at))))) ∷ (taken i a (target i at) ++ (check_way (opposite i.kind) i ++ turn a ((at + 4) % 2 ^ 64)))

  front_is : (fall : ℕ → List Item) (i : Ins) (a at : ℕ) → leave_as d before fall class.Branch i a at ≡ front i a at ++ fall ((at + 4) % 2 ^ 64)
  front_is fall i a at =
      let n = (at + 4) % 2 ^ 64 in
      let b = Plain (ins (opposite i.kind) 0 i.rs1 i.rs2 (pos (4 + sum_of_sizes false (taken i a (target i at))))) in
      ap (λ l. b ∷ l) (sym (append_assoc (taken i a (target i at)) (check_way (opposite i.kind) i ++ turn a n) (fall n)))

  swap_as :
      (k : Class) (i : Ins) (a at p : ℕ) (rest : List Item) → R p (leave_as d before (fall_words leader) k i a at ++ rest)
      → ((t : ℕ) → (is_branch k && ((at + 4) % 2 ^ 64 == t)) ≡ true → leader t ≡ true → Marked rest t) → R p (leave_as d before (fall_to leader) k i a at)
  swap_as class.Branch i a at p rest r m =
      let n = (at + 4) % 2 ^ 64 in
      let x = swap_fall (front i a at) n p rest (subst (λ l. R p (l ++ rest)) (front_is (fall_words leader) i a at) r) (λ e. m n (eq-eqb n n refl) e) in
      subst (λ l. R p l) (sym (front_is (fall_to leader) i a at)) x
  swap_as k i a at p rest r m = reads_front false c en p (leave_as d before (fall_to leader) k i a at) rest r

  swap_leave :
      (e : End) (a at p : ℕ) (rest : List Item) → R p (leave d before (fall_words leader) e a at ++ rest) → ((t : ℕ) → goes_on e at t ≡ true → leader t ≡ true → Marked rest t)
      → R p (leave d before (fall_to leader) e a at)
  swap_leave Falls a at p rest r m = swap_fall (turn a at) at p rest r (λ e. m at (eq-eqb at at refl) e)
  swap_leave (Stops i) a at p rest r m = swap_as (class_of i.kind) i a at p rest r m

-- ---- the entries
-- what stands at the entry of a block, whose tick counts it
pub record BlockAt (w : World) (l : Lean) (leader : ℕ → Bool) (b : Block) : Type 0 where
  pub reads : Reads false w.code w.entry (w.entry b.start) (block_items (lean_weave_of w l leader).code b)
  pub good : BlockOf w (lean_weave_of w l leader) leader b
  pub counts : IsCounted l leader b

-- at that of a leader
pub record Counted (w : World) (l : Lean) (leader : ℕ → Bool) (a : ℕ) : Type 0 where
  pub entry : EntryAt w (lean_weave_of w l leader) leader a
  pub counts : IsCounted l leader (record { start = a; body = entry.body; end = entry.end; reached = entry.reached })

module _ (w : World) (l : Lean) (leader : ℕ → Bool) where
  abbrev s : Sequences
  s = worded w.form w.base w.entry l leader

  -- the pieces are those of the weave
  pub pieces_same : (ps : List (List Ins)) (at : ℕ) → pieces_of s ps at ≡ pieces_of (lean_weave_of w l leader).code ps at
  pieces_same [] at = refl
  pieces_same (p ∷ ps) at = ap (λ k. (lean_weave_of w l leader).code.piece p at ++ k) (pieces_same ps (at + 4 * length p))

  -- the block behind begins with its mark
  next_marked :
      (b : Block) (bs : List Block) (rest : List Item) → InOrder leader (b ∷ bs) → (t : ℕ) → goes_on b.end (b.start + 4 * body_length b.body) t ≡ true → leader t ≡ true
      → Marked (entries_of s bs ++ rest) t
  next_marked b bs rest o t g h = by bs (o.0 t g h) where
    by : (bs : List Block) → begins_with bs t → Marked (entries_of s bs ++ rest) t
    by [] x = absurd x
    by (d ∷ ds) x = record {
      more = ((s.enter d.start ++ body_of s d.body d.end d.start) ++ entries_of s ds) ++ rest;
      is = ap (λ k. Mark k ∷ (((s.enter d.start ++ body_of s d.body d.end d.start) ++ entries_of s ds) ++ rest)) x;
    }

  -- a block reads as its sequences
  block_entry :
      (b : Block) (p : ℕ) (rest : List Item) → Reads false w.code w.entry p (block_items s b ++ rest) → BlockOf w (lean_weave_of w l leader) leader b
      → IsCounted l leader b → ((t : ℕ) → goes_on b.end (b.start + 4 * body_length b.body) t ≡ true → leader t ≡ true → Marked rest t) → BlockAt w l leader b
  block_entry b p rest r good counted next =
      let at = b.start + 4 * body_length b.body in
      let t = s.enter b.start in
      let ps = pieces_of s b.body b.start in
      let a = l.start_of b.end at in
      let words = leave l.distance (before_end w.form) (fall_words leader) b.end a at in
      let falls = leave l.distance (before_end w.form) (fall_to leader) b.end a at in
      let shape : (t ++ (ps ++ words)) ++ rest ≡ (t ++ ps) ++ (words ++ rest) = ap (λ k. k ++ rest) (sym (append_assoc t ps words)) ∙ append_assoc (t ++ ps) words rest in
      let whole : Reads false w.code w.entry p ((t ++ ps) ++ (words ++ rest)) = subst (λ k. Reads false w.code w.entry p k) shape r.1 in
      let first = reads_front false w.code w.entry p (t ++ ps) (words ++ rest) whole in
      let behind = reads_behind false w.code w.entry p (t ++ ps) (words ++ rest) whole in
      let left = swap_leave w.code w.entry leader l.distance (before_end w.form) b.end a at (p + sum_of_sizes false (t ++ ps)) rest behind next in
      let joined : Reads false w.code w.entry p (t ++ (ps ++ falls)) = subst (λ k. Reads false w.code w.entry p k) (append_assoc t ps falls) (reads_join false w.code w.entry p (t ++ ps) falls first left) in
      let read : Reads false w.code w.entry p (t ++ (pieces_of (lean_weave_of w l leader).code b.body b.start ++ falls)) = subst (λ k. Reads false w.code w.entry p (t ++ (k ++ falls))) (pieces_same b.body b.start) joined in
      record { reads = (refl, subst (λ q. Reads false w.code w.entry q (t ++ (pieces_of (lean_weave_of w l leader).code b.body b.start ++ falls))) (sym r.0) read); good = good; counts = counted }

  -- entries stand on the grain
  pub entry_grain : (bs : List Block) (p a : ℕ) (rest : List Item) → p % 4 ≡ 0 → Reads false w.code w.entry p (entries_of s bs ++ rest) → begins_at bs a ≡ true → w.entry a % 4 ≡ 0
  entry_grain [] p a rest g r h = absurd (false≢true h)
  entry_grain (b ∷ bs) p a rest g r h =
      let split : Reads false w.code w.entry p (block_items s b ++ (entries_of s bs ++ rest)) = subst (λ k. Reads false w.code w.entry p k) (append_assoc (block_items s b) (entries_of s bs) rest) r in
      let size = length-instructions false w.entry p (block_items s b) in
      ⊎_elim
      (λ e. subst (λ x. w.entry x % 4 ≡ 0) (eqb-true b.start a e) (ap (λ k. k % 4) split.0 ∙ g))
      (λ m. entry_grain bs (p + sum_of_sizes false (block_items s b)) a rest (omega (arith, g, size)) (reads_behind false w.code w.entry p (block_items s b) (entries_of s bs ++ rest) split) m)
      (or_cases (b.start == a) (begins_at bs a) h)

  pub block_of :
      (bs : List Block) (p : ℕ) (b : Block) (rest : List Item) → Reads false w.code w.entry p (entries_of s bs ++ rest) → AllBlocksOf w (lean_weave_of w l leader) leader bs
      → AreCounted l leader bs → InOrder leader bs → Among b bs → BlockAt w l leader b
  block_of [] p b rest r good counted o m = absurd m
  block_of (c ∷ cs) p b rest r good counted o m =
      let split : Reads false w.code w.entry p (block_items s c ++ (entries_of s cs ++ rest)) = subst (λ k. Reads false w.code w.entry p k) (append_assoc (block_items s c) (entries_of s cs) rest) r in
      ⊎_elim
      (λ x. subst (BlockAt w l leader) (sym x) (block_entry c p (entries_of s cs ++ rest) split good.0 counted.0 (next_marked c cs rest o)))
      (λ x. block_of cs (p + sum_of_sizes false (block_items s c)) b rest (reads_behind false w.code w.entry p (block_items s c) (entries_of s cs ++ rest) split) good.1 counted.1 o.1 x)
      m

  -- a leader begins one of them
  pub entry_of : (near : w.form.far ≡ false) (b : Block) (a : ℕ) → BlockAt w l leader b → b.start ≡ a → Counted w l leader a
  entry_of near b a k e = subst (Counted w l leader) e (record {
    entry = record { body = b.body; end = b.end; reached = b.reached; reads = subst (λ f. Reads f w.code w.entry (w.entry b.start) (block_items (lean_weave_of w l leader).code b)) (sym near) k.reads; good = k.good };
    counts = k.counts;
  })
