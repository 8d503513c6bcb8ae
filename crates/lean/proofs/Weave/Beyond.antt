-- What stands behind the code of a block: the entry of a block, or the zero word.
use Rattle.std.proofs.Common.{◌≡◌, ℕ, ◌+◌, ◌*◌, ◌≤◌, ◌%◌, ◌^◌, ◌⊎◌, inl, inr, ⊎_elim, Bool, true, false, cond, List, [], ◌∷◌, ◌++◌, refl, sym, ap, ◌∙◌, subst, append_assoc, arith}
use Rattle.std.specs.Prelude.{pos}
use Rattle.std.proofs.lemmas.Bool.{and_parts, eqb-true}
use Rattle.rv_isa.specs.declared.class.Class.TheVariants as class
use Rattle.machine.specs.Members.{Among}
use Rattle.machine.specs.Table.{Illegal, ins, Ins}
use Rattle.qed_model.specs.Weave.Blocks.{begins_at}
use Rattle.qed_model.specs.Weave.Code.{Sequences, pieces_of, block_items, entries_of}
use Rattle.qed_model.specs.Weave.Lean.{begin, check, turn, opposite, check_way, taken, leave, leave_as}
use Rattle.qed_model.specs.Weave.LeanCode.{Lean, worded, fall_to, fall_words}
use Rattle.qed_model.specs.Weave.Placed.{sum_of_sizes}
use Rattle.qed_model.specs.Weave.Sequences.{Reads, End, Falls, Stops, Block, body_length, before_end, stub}
use Rattle.weave_core.specs.Weave.{Weave}
use Rattle.weave_core.specs.World.{World, Item, Mark, Plain, Go, Program, target, Class, class_of}
use Rattle.lean.specs.Woven.{LeanPlan, lean_weave_of}
use Rattle.lean.proofs.Weave.Blocks.{begins}
use Rattle.lean.proofs.Weave.Carry.{size-append, reads_front}
use Rattle.lean.proofs.Weave.Plan.{BlockAt, pieces_same}
use Rattle.lean.proofs.Weave.Promise.{begins as starts, at_cells, at_check, check_is, reads_check, reads_cells, block_at}
use Rattle.lean.proofs.Weave.Ways.{reads_behind, reads_join}

-- the entry of a block, or a word that traps
abbrev pub Beyond : (ℕ → Bool) → List Item → Type 0
Beyond leader xs = ((c : ℕ) × (leader c ≡ true) × (xs ≡ Mark c ∷ [])) ⊎ ((i : Ins) × (class_of i.kind ≡ class.Illegal) × (xs ≡ Plain i ∷ []))

-- ---- sizes
-- of the same front with other items behind
size_behind : (xs ys zs : List Item) → sum_of_sizes false ys ≡ sum_of_sizes false zs → sum_of_sizes false (xs ++ ys) ≡ sum_of_sizes false (xs ++ zs)
size_behind xs ys zs e = size-append false xs ys ∙ ap (λ n. sum_of_sizes false xs + n) e ∙ sym (size-append false xs zs)

-- a mark takes no room
no_room : (n : ℕ) → 0 + n ≡ n
no_room n = omega arith

-- so a leave is as long with the mark behind a block that falls
module _ (leader : ℕ → Bool) (d : ℕ) (before : List Item) where
  fall_size : (t : ℕ) → sum_of_sizes false (fall_words leader t) ≡ sum_of_sizes false (fall_to leader t)
  fall_size t = by (leader t) where
    by : (b : Bool) → sum_of_sizes false (cond b [] (Go t ∷ [])) ≡ sum_of_sizes false (cond b (Mark t ∷ []) (Go t ∷ []))
    by true = refl
    by false = refl

  stop_size : (k : Class) (i : Ins) (a at : ℕ) → sum_of_sizes false (leave_as d before (fall_words leader) k i a at) ≡ sum_of_sizes false (leave_as d before (fall_to leader) k i a at)
  stop_size class.Branch i a at =
      let n = (at + 4) % 2 ^ 64 in
      let words = turn a n ++ fall_words leader n in
      let falls = turn a n ++ fall_to leader n in
      let way = check_way (opposite i.kind) i in
      ap (λ k. 4 + k) (size_behind (taken i a (target i at)) (way ++ words) (way ++ falls) (size_behind way words falls (size_behind (turn a n) (fall_words leader n) (fall_to leader n) (fall_size n))))
  stop_size k i a at = refl

  leave_size : (e : End) (a at : ℕ) → sum_of_sizes false (leave d before (fall_words leader) e a at) ≡ sum_of_sizes false (leave d before (fall_to leader) e a at)
  leave_size Falls a at = size_behind (turn a at) (fall_words leader at) (fall_to leader at) (fall_size at)
  leave_size (Stops i) a at = stop_size (class_of i.kind) i a at

-- ---- behind the words of a block
module _ (w : World) (l : Lean) (leader : ℕ → Bool) where
  abbrev s : Sequences
  s = worded w.form w.base w.entry l leader

  abbrev Then : ℕ → Type 0
  Then q = (xs : List Item) × Beyond leader xs × Reads false w.code w.entry q xs

  -- all of these begin at leaders
  abbrev Lead : List Block → Type 0
  Lead bs = (b : Block) → Among b bs → leader b.start ≡ true

  -- the first of the entries, or the stub
  first : (bs : List Block) (q : ℕ) → Reads false w.code w.entry q (entries_of s bs ++ stub) → Lead bs → Then q
  first [] q r lead = (stub, inr (ins Illegal 0 0 0 (pos 0), refl, refl), r)
  first (b ∷ bs) q r lead = (Mark b.start ∷ [], inl (b.start, lead b (inl refl), refl), (r.0, tt))

  behind_words : (bs : List Block) (p : ℕ) (b : Block) → Reads false w.code w.entry p (entries_of s bs ++ stub) → Lead bs → Among b bs → Then (w.entry b.start + sum_of_sizes false (block_items s b))
  behind_words [] p b r lead m = absurd m
  behind_words (c ∷ cs) p b r lead m =
      let split : Reads false w.code w.entry p (block_items s c ++ (entries_of s cs ++ stub)) = subst (λ k. Reads false w.code w.entry p k) (append_assoc (block_items s c) (entries_of s cs) stub) r in
      let more = reads_behind false w.code w.entry p (block_items s c) (entries_of s cs ++ stub) split in
      let rest : Lead cs = λ x n. lead x (inr n) in
      ⊎_elim
      (λ x. subst (λ (y : Block). Then (w.entry y.start + sum_of_sizes false (block_items s y))) (sym x) (subst (λ z. Then (z + sum_of_sizes false (block_items s c))) (sym split.0) (first cs (p + sum_of_sizes false (block_items s c)) more rest)))
      (λ x. behind_words cs (p + sum_of_sizes false (block_items s c)) b more rest x)
      m

module _ (f g : Program) (w : World) (l : Lean) (blocks : List Block) (p : LeanPlan f g w l blocks) where
  abbrev leader : ℕ → Bool
  leader a = begins_at blocks a

  abbrev v : Weave
  v = lean_weave_of w l leader

  -- behind the code of a block
  pub beyond : (b : Block) → Among b blocks → (xs : List Item) × Beyond leader xs
      × Reads false w.code w.entry (w.entry b.start) (v.code.enter b.start ++ (pieces_of v.code b.body b.start ++ (leave w.distance (before_end w.form) (fall_to leader) b.end b.start (b.start + 4 * body_length b.body) ++ xs)))
  beyond b m =
      let here : BlockAt w l leader b = block_at f g w l blocks p b m in
      let at = b.start + 4 * body_length b.body in
      let own = eqb-true (l.start_of b.end at) b.start (and_parts _ _ here.good.own).0 in
      let t = v.code.enter b.start in
      let ps = pieces_of v.code b.body b.start in
      let words = leave l.distance (before_end w.form) (fall_words leader) b.end (l.start_of b.end at) at in
      let falls = leave l.distance (before_end w.form) (fall_to leader) b.end (l.start_of b.end at) at in
      let next = behind_words w l leader blocks (at_cells f g w l blocks p) b (reads_cells f g w l blocks p) (begins blocks) m in
      let same : 0 + sum_of_sizes false (t ++ (pieces_of (worded w.form w.base w.entry l leader) b.body b.start ++ words)) ≡ sum_of_sizes false (t ++ (ps ++ falls)) =
      no_room (sum_of_sizes false (t ++ (pieces_of (worded w.form w.base w.entry l leader) b.body b.start ++ words)))
      ∙ ap (λ k. sum_of_sizes false (t ++ (k ++ words))) (pieces_same w l leader b.body b.start)
      ∙ size_behind t (ps ++ words) (ps ++ falls) (size_behind ps words falls (leave_size leader l.distance (before_end w.form) b.end (l.start_of b.end at) at)) in
      let behind : Reads false w.code w.entry (w.entry b.start + sum_of_sizes false (t ++ (ps ++ falls))) next.0 = subst (λ n. Reads false w.code w.entry (w.entry b.start + n) next.0) same next.2 in
      let whole = reads_join false w.code w.entry (w.entry b.start) (t ++ (ps ++ falls)) next.0 here.reads.1 behind in
      let shape : (t ++ (ps ++ falls)) ++ next.0 ≡ t ++ (ps ++ (falls ++ next.0)) = append_assoc t (ps ++ falls) next.0 ∙ ap (λ k. t ++ k) (append_assoc ps falls next.0) in
      let flat : Reads false w.code w.entry (w.entry b.start) (t ++ (ps ++ (falls ++ next.0))) = subst (λ k. Reads false w.code w.entry (w.entry b.start) k) shape whole in (
        next.0,
        next.1,
        subst (λ d. Reads false w.code w.entry (w.entry b.start) (t ++ (ps ++ (leave d (before_end w.form) (fall_to leader) b.end b.start at ++ next.0)))) p.sound.apart
            (subst (λ k. Reads false w.code w.entry (w.entry b.start) (t ++ (ps ++ (leave l.distance (before_end w.form) (fall_to leader) b.end k at ++ next.0)))) own flat),
      )

  -- behind the check stand the entries
  pub check_beyond : (xs : List Item) × Beyond leader xs × Reads false w.code w.entry l.check (check w.base w.distance l.every w.form.round w.form.spans ++ xs)
  check_beyond =
      let middle = check w.base w.distance l.every w.form.round w.form.spans in
      let cells = entries_of (worded w.form w.base w.entry l leader) blocks ++ stub in
      let from = at_check f g w l blocks p in
      let whole : Reads false w.code w.entry from (middle ++ cells) = subst (λ k. Reads false w.code w.entry from k) (append_assoc middle (entries_of (worded w.form w.base w.entry l leader) blocks) stub) (reads_check f g w l blocks p) in
      let next = first w l leader blocks (from + sum_of_sizes false middle) (reads_behind false w.code w.entry from middle cells whole) (begins blocks) in
      (next.0, next.1, subst (λ a. Reads false w.code w.entry a (middle ++ next.0)) (check_is f g w l blocks p) (reads_join false w.code w.entry from middle next.0 (reads_front false w.code w.entry from middle cells whole) next.2))

  -- behind what runs first stands the check
  pub begin_beyond : Reads false w.code w.entry g.entry (begin w.distance f.entry ++ (check w.base w.distance l.every w.form.round w.form.spans ++ check_beyond.0))
  begin_beyond =
      let start = begin w.distance f.entry in
      let front : Reads false w.code w.entry g.entry start = subst (λ b. Reads b w.code w.entry g.entry start) p.sound.near (starts f g w l blocks p) in
      reads_join false w.code w.entry g.entry start (check w.base w.distance l.every w.form.round w.form.spans ++ check_beyond.0) front
      (subst (λ a. Reads false w.code w.entry a (check w.base w.distance l.every w.form.round w.form.spans ++ check_beyond.0)) p.check check_beyond.2)

  -- behind a block that ends the test another one begins
  pub away :
      (b : Block) (i : Ins) (xs : List Item) → b.end ≡ Stops i → class_of i.kind ≡ class.End
      → Reads false w.code w.entry (w.entry b.start) (v.code.enter b.start ++ (pieces_of v.code b.body b.start ++ (leave w.distance (before_end w.form) (fall_to leader) b.end b.start (b.start + 4 * body_length b.body) ++ xs)))
      → (c : ℕ) → xs ≡ Mark c ∷ [] → c ≡ b.start → ⊥
  away b i xs stops end r c is same =
      let at = b.start + 4 * body_length b.body in
      let t = v.code.enter b.start in
      let ps = pieces_of v.code b.body b.start in
      let words = leave w.distance (before_end w.form) (fall_to leader) b.end b.start at in
      let p1 = w.entry b.start + sum_of_sizes false t in
      let p2 = p1 + sum_of_sizes false ps in
      let r1 = reads_behind false w.code w.entry (w.entry b.start) t (ps ++ (words ++ xs)) r in
      let r2 = reads_behind false w.code w.entry p1 ps (words ++ xs) r1 in
      let r3 = reads_behind false w.code w.entry p2 words xs r2 in
      let marked : w.entry c ≡ p2 + sum_of_sizes false words = (subst (λ k. Reads false w.code w.entry (p2 + sum_of_sizes false words) k) is r3).0 in
      let some = least b.end at stops in
      let here : w.entry c ≡ w.entry b.start = ap w.entry same in
      omega (arith, marked, some, here) where
        as_end : (k : Class) (at : ℕ) → k ≡ class.End → 4 ≤ sum_of_sizes false (leave_as w.distance (before_end w.form) (fall_to leader) k i b.start at)
        as_end class.End at e = omega arith
        as_end k at e = absurd (cc)

        least : (e : End) (at : ℕ) → e ≡ Stops i → 4 ≤ sum_of_sizes false (leave w.distance (before_end w.form) (fall_to leader) e b.start at)
        least Falls at e = absurd (cc)
        least (Stops j) at e = subst (λ e. 4 ≤ sum_of_sizes false (leave w.distance (before_end w.form) (fall_to leader) e b.start at)) (sym e) (as_end (class_of i.kind) at end)
