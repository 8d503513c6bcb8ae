-- Where the items of a weave stand: the input's first state, and the entries of a plan.
use Rattle.std.proofs.Common.{◌≡◌, ℕ, ◌+◌, ◌<◌, ⊎_elim, Bool, true, false, List, [], ◌∷◌, ◌++◌, refl, sym, ap, subst, arith, is_some, Option, Some, None, length, suc, ◌*◌, length-append}
use Rattle.std.specs.Prelude.{◌==◌}
use Rattle.std.proofs.lemmas.Bool.{eqb-true, false≢true, or_cases}
use Rattle.std.proofs.lemmas.List.{append_assoc, length-set}
use Rattle.qed_model.specs.Weave.Placed.{go_size, instructions_from, go_words}
use Rattle.qed_model.specs.Weave.Blocks.{begins_at}
use Rattle.qed_model.specs.Weave.Sequences.{Reads, Block, stub}
use Rattle.weave_core.specs.World.{Item, Mark, Plain, Constant, Go, World, get, Memory, Cell, flags_at, byte_at, byte_in, Fetched, Program, start, zeros}
use Rattle.weave_core.specs.Rows.{Sourced}
use Rattle.weave_core.specs.Describes.{Describes}
use Rattle.weave_core.specs.Weave.{Weave}
use Rattle.qed_model.specs.Weave.Code.{entries_of, block_items}
use Rattle.qed_model.proofs.Lemmas.{go_length}
use Rattle.weave_core.specs.WeaveLaws.{EntryAt, EntriesAt}
use Rattle.weave_core.specs.WeavePromise.{AllBlocksOf, PlanOf}
use Rattle.weave_core.proofs.Prologue.{start_zero}

-- ---- the input's first state
-- where nothing is mapped the byte is 0
none : (m : Memory) (q : ℕ) → is_some (get m q) ≡ false → byte_at m q < 256
unfolding byte_at
none m q e = by (get m q) e where
  by : (o : Option Cell) → is_some o ≡ false → byte_in o < 256
  by None e = omega arith
  by (Some c) e = absurd (false≢true (sym e))

-- it is over its code
pub first_sourced : (f g : Program) (w : World) → Describes f g w → Sourced w (start f zeros)
first_sourced f g w d = record {
  over = record { going = refl; code = d.input_code };
  flagged = record { flags = λ q. ap (λ m. flags_at m q) d.input; regs = length-set zeros 0 0; zero_reg = start_zero 0 };
  sized = record { regs = λ r. let z = start_zero r in omega (arith, z); bytes = λ q. subst (λ m. byte_at m q < 256) (sym d.input) (small q (is_some (get w.input q)) refl) };
} where
  small : (q : ℕ) (b : Bool) → is_some (get w.input q) ≡ b → byte_at w.input q < 256
  small q true e = subst (λ x. x < 256) (d.bytes q e) (w.output_bytes q)
  small q false e = none w.input q e

-- ---- lists of items
-- the front of a list stands there
pub reads_front : (far : Bool) (c : ℕ → Fetched) (e : ℕ → ℕ) (a : ℕ) (xs ys : List Item) → Reads far c e a (xs ++ ys) → Reads far c e a xs
reads_front far c e a [] ys r = tt
reads_front far c e a (Mark m ∷ xs) ys r = (r.0, reads_front far c e a xs ys r.1)
reads_front far c e a (Plain i ∷ xs) ys r = (r.0, reads_front far c e (a + 4) xs ys r.1)
reads_front far c e a (Constant k v ∷ xs) ys r = (r.0, r.1, reads_front far c e (a + 8) xs ys r.2)
reads_front far c e a (Go t ∷ xs) ys r = (r.0, reads_front far c e (a + go_size far) xs ys r.1)

-- items behind others stand for the words behind theirs
pub reads_rest :
    (far : Bool) (c : ℕ → Fetched) (e : ℕ → ℕ) (a : ℕ) (xs ys : List Item) → Reads far c e a (xs ++ ys)
    → Reads far c e (a + 4 * length (instructions_from far e a xs)) ys
reads_rest far c e a [] ys r = let s : a ≡ a + 0 = omega arith in subst (λ b. Reads far c e b ys) s r
reads_rest far c e a (Mark m ∷ xs) ys r = reads_rest far c e a xs ys r.1
reads_rest far c e a (Plain i ∷ xs) ys r = let s : a + 4 + 4 * length (instructions_from far e (a + 4) xs) ≡ a + 4 * suc (length (instructions_from far e (a + 4) xs)) = omega arith in subst (λ b. Reads far c e b ys) s (reads_rest far c e (a + 4) xs ys r.1)
reads_rest far c e a (Constant x v ∷ xs) ys r = let s : a + 8 + 4 * length (instructions_from far e (a + 8) xs) ≡ a + 4 * suc (suc (length (instructions_from far e (a + 8) xs))) = omega arith in subst (λ b. Reads far c e b ys) s (reads_rest far c e (a + 8) xs ys r.2)
reads_rest far c e a (Go t ∷ xs) ys r =
    let size = go_length far a (e t) in
    let count = length-append (go_words far a (e t)) (instructions_from far e (a + go_size far) xs) in
    let s : a + go_size far + 4 * length (instructions_from far e (a + go_size far) xs) ≡ a + 4 * length (go_words far a (e t) ++ instructions_from far e (a + go_size far) xs) = omega (arith, size, count) in
    subst (λ b. Reads far c e b ys) s (reads_rest far c e (a + go_size far) xs ys r.1)

-- ---- the entries of a plan
module _ (w : World) (v : Weave) (leader : ℕ → Bool) where
  -- the entry of a leader among blocks that stand one after the other
  pub entry_at :
      (bs : List Block) (p a : ℕ) (rest : List Item) → Reads w.form.far w.code w.entry p (entries_of v.code bs ++ rest) → AllBlocksOf w v leader bs
      → begins_at bs a ≡ true → EntryAt w v leader a
  entry_at [] p a rest r good e = absurd (false≢true e)
  entry_at (b ∷ bs) p a rest r good e =
      let split : Reads w.form.far w.code w.entry p (block_items v.code b ++ (entries_of v.code bs ++ rest)) = subst (λ l. Reads w.form.far w.code w.entry p l) (append_assoc (block_items v.code b) (entries_of v.code bs) rest) r in
      let front : Reads w.form.far w.code w.entry p (block_items v.code b) = reads_front w.form.far w.code w.entry p (block_items v.code b) (entries_of v.code bs ++ rest) split in
      let here : EntryAt w v leader b.start = record {
        body = b.body;
        end = b.end;
        reached = b.reached;
        reads = subst (λ q. Reads w.form.far w.code w.entry q (block_items v.code b)) (sym front.0) front;
        good = good.0;
      } in
      let at : ℕ = p + 4 * length (instructions_from w.form.far w.entry p (block_items v.code b)) in
      let next = reads_rest w.form.far w.code w.entry p (block_items v.code b) (entries_of v.code bs ++ rest) split in
      ⊎_elim
      (λ x. subst (EntryAt w v leader) (eqb-true b.start a x) here)
      (λ x. entry_at bs at a rest next good.1 x)
      (or_cases (b.start == a) (begins_at bs a) e)

-- each leader of a plan has its entry
pub entries_at : (f g : Program) (w : World) (v : Weave) (blocks : List Block) → PlanOf f g w v blocks → EntriesAt w v (begins_at blocks)
entries_at f g w v blocks p a h =
    let next = reads_rest w.form.far w.code w.entry g.entry (v.code.first w.distance f.entry) (entries_of v.code blocks ++ stub) p.words in
    entry_at w v (begins_at blocks) blocks (g.entry + 4 * length (instructions_from w.form.far w.entry g.entry (v.code.first w.distance f.entry))) a stub next p.good h

-- what runs first stands at the entry point
pub first_at : (f g : Program) (w : World) (v : Weave) (blocks : List Block) → PlanOf f g w v blocks → Reads w.form.far w.code w.entry g.entry (v.code.first w.distance f.entry)
first_at f g w v blocks p = reads_front w.form.far w.code w.entry g.entry (v.code.first w.distance f.entry) (entries_of v.code blocks ++ stub) p.words
