-- One wrong instruction of a test as a list of changes right behind it.
use Rattle.std.proofs.Common.{◌≡◌, ℕ, ◌+◌, ◌-◌, ◌^◌, ◌<◌, ◌≤◌, Bool, true, false, List, [], ◌∷◌, refl, sym, ap, ◌∙◌, subst, arith, None}
use Rattle.qed_model.specs.declared.change.Change.{Change}
use Rattle.machine.specs.declared.place.Place.TheVariants.{Reg, Word}
use Rattle.machine.specs.Struck.{struck}
use Rattle.qed_model.specs.Promise.Changed.{changed_run, Ordered, last_step, has_word, IsDataWord}
use Rattle.qed_model.specs.Promise.Faults.{WritesOriginal, StoresOriginal, word_around, GivesAny, StoresAny}
use Rattle.machine.proofs.Lemmas.{run-last, flags-put}
use Rattle.weave_core.specs.Lock.{span_bytes, Opens, HasKind, Undisturbed}
use Rattle.weave_core.specs.World.{World, Going, Memory, get, byte_at, put, number, Program, start, AreStartRegs, State, reg, moved, stored, next_pc, place, Known, next, run, Ins, Kind, Lb, set_reg, width_of}
use Rattle.weave_core.proofs.Lemmas.{width_le, known_same}
use Rattle.lockstep.specs.Laws.{OpenAt}
use Rattle.lockstep.specs.WrongOnce.{StoresElsewhere, WrongOnce, results, stores, elsewhere}
use Rattle.lockstep.proofs.Calm.{CalmCode, loaded_at}
use Rattle.lockstep.proofs.ManyChanges.{changed_later}
use Rattle.lockstep.proofs.Promise.{AllUnneeded}
use Rattle.lockstep.proofs.Sets.{word_below}
use Rattle.lockstep.proofs.WrongSteps.{opens_behind, writes_straight, wrote, stored_step, any_struck, AllAt, behind_at, by_at, ordered_at, last_at, struck_all, changed_all, unchanged_before}
use Rattle.lockstep.proofs.WrongStores.{Beside, two_words, any_beside, beside_put, beside_self, beside_over, keys_by, struck_word}

-- an access has a byte
width_some : (k : Kind) → 1 ≤ width_of k
width_some Lb = omega arith
width_some k = omega arith

-- whether the instruction stores
abbrev pub is_stored : {spans : List (ℕ × ℕ)} → {i : Ins} → {u v : State} → WrongOnce spans i u v → Bool
is_stored (results w a) = false
is_stored (stores s a) = true
is_stored (elsewhere e) = true

module _ (f g : Program) (w : World) (before per : ℕ) (code : CalmCode f g w before per) (regs : List ℕ) (are : AreStartRegs regs) (n : ℕ) (i : Ins) (go : (run (start g regs) n).outcome ≡ Going) (known : next (run (start g regs) n) ≡ Known i) (calm : Undisturbed w.code (span_bytes w.form.spans) (run (start g regs) n)) where
  abbrev u : State
  u = run (start g regs) n

  -- changes of open places of the original half behind the step that make of it the wrong one
  pub record AsChanges (o : State) (words : Bool) : Type 0 where
    pub head : Change
    pub tail : List Change
    pub at : AllAt (n + 1) (head ∷ tail)
    pub free : AllUnneeded w.code w.form.spans (run (start g regs)) (head ∷ tail)
    pub word : has_word (head ∷ tail) ≡ words
    pub there : changed_run (start g regs) (head ∷ tail) (n + 1) ≡ o
    pub going : (run (start g regs) (n + 1)).outcome ≡ Going

  -- another number
  result_changed : (o : State) → WritesOriginal i → GivesAny i (run (start g regs) n) o → AsChanges o false
  result_changed o wr any =
      let did = wrote i u go known wr calm.quiet.no_trap in
      let st = any_struck i u o did any in
      let c : Change = record { step = n + 1; place = Reg i.rd; value = st.number } in
      let next_is : run (start g regs) (n + 1) ≡ moved (set_reg i.rd did.number u.regs) (next_pc u) u = run-last (start g regs) n ∙ did.is in
      let going : (run (start g regs) (n + 1)).outcome ≡ Going = ap (λ y. y.outcome) next_is ∙ go in
      let place_is : u.pc + 4 ≡ (run (start g regs) (n + 1)).pc = on ∙ sym (ap (λ y. y.pc) next_is) in
      let free : OpenAt w.code (run (start g regs) (n + 1)).pc (Reg i.rd) = subst (Opens w.code) place_is (opens_behind w.code u.pc i fits (writes_straight i wr)) i.rd in
      record {
        head = c;
        tail = [];
        at = (refl, tt);
        free = ((wr.some, wr.low), free, tt);
        word = refl;
        there = changed_all (start g regs) (c ∷ []) n (refl, tt) going ∙ ap (struck (Reg i.rd) st.number) (run-last (start g regs) n) ∙ sym st.is;
        going = going;
      } where
        on : (run (start g regs) n).pc + 4 ≡ next_pc (run (start g regs) n)
        on = omega (arith, calm.quiet.near)

        fits : HasKind w.code (run (start g regs) n).pc i
        fits = subst (HasKind w.code (run (start g regs) n).pc) (known_same (sym calm.quiet.known ∙ sym ((loaded_at f g w before per code regs are n).code (run (start g regs) n).pc) ∙ known)) calm.quiet.fits

  -- a data word ends before the end of all addresses
  ends : (a : ℕ) → IsDataWord w.form.spans a → a + 8 ≤ 2 ^ 64
  ends a d = let low = word_below w.form.spans a (w.base + w.distance) w.spans_low d in omega (arith, low, w.layout.top)

  -- the two words around the bytes of an access, with the values that they have in a memory
  abbrev first_word : ℕ → Memory → Change
  first_word a m = record { step = n + 1; place = Word (word_around a); value = number m (word_around a) 8 }

  abbrev last_word : ℕ → Memory → Change
  last_word a m = record { step = n + 1; place = Word (word_around (a + width_of i.kind - 1)); value = number m (word_around (a + width_of i.kind - 1)) 8 }

  -- they make of one memory another
  window :
      (m o : Memory) (a : ℕ) → IsDataWord w.form.spans (word_around (a + width_of i.kind - 1)) → Beside a (width_of i.kind) m o → ((q : ℕ) → 2 ^ 64 ≤ q → get m q ≡ None)
      → struck_all (first_word a o ∷ last_word a o ∷ []) (stored m (next_pc u) u) ≡ stored o (next_pc u) u
  window m o a d b keys =
      let low = ends (word_around (a + width_of i.kind - 1)) d in
      let k = width_of i.kind in
      let y = number o (word_around a) 8 in
      let z = number o (word_around (a + width_of i.kind - 1)) 8 in
      ap (struck (Word (word_around (a + k - 1))) z) (struck_word (word_around a) y (next_pc u) m u)
      ∙ struck_word (word_around (a + k - 1)) z (next_pc u) (put m (word_around a) 8 y) u
      ∙ ap (λ x. stored x (next_pc u) u) (two_words m o a k (width_some i.kind) (width_le i.kind) (omega (arith, low, width_some i.kind)) (omega (arith, low)) b keys)

  -- ---- a store
  -- its bytes in memory
  abbrev wrote_memory : Memory
  wrote_memory = put u.memory (place i u) (width_of i.kind) (reg u i.rs2)

  next_is : StoresOriginal w.form.spans i u → run (start g regs) (n + 1) ≡ stored wrote_memory (next_pc u) u
  next_is s = run-last (start g regs) n ∙ stored_step i u go known s.stores calm.quiet.no_trap

  small : (q : ℕ) → byte_at u.memory q < 256
  small = (loaded_at f g w before per code regs are n).small

  keys : (q : ℕ) → 2 ^ 64 ≤ q → get u.memory q ≡ None
  keys = (loaded_at f g w before per code regs are n).keys

  wrote_keys : (q : ℕ) → 2 ^ 64 ≤ q → get wrote_memory q ≡ None
  wrote_keys = keys_by u.memory wrote_memory (λ q. flags-put u.memory (place i u) (width_of i.kind) (reg u i.rs2) q) keys

  -- other bytes
  store_changed : (o : State) → StoresOriginal w.form.spans i u → StoresAny i u o → AsChanges o true
  store_changed o s any =
      let by = any_beside i u o small any in
      let going : (run (start g regs) (n + 1)).outcome ≡ Going = ap (λ y. y.outcome) (next_is s) ∙ go in
      record {
        head = first_word (place i u) by.memory;
        tail = last_word (place i u) by.memory ∷ [];
        at = (refl, (refl, tt));
        free = (s.first, tt, (s.last, tt, tt));
        word = refl;
        there = changed_all (start g regs) (first_word (place i u) by.memory ∷ last_word (place i u) by.memory ∷ []) n (refl, (refl, tt)) going
            ∙ ap (struck_all (first_word (place i u) by.memory ∷ last_word (place i u) by.memory ∷ [])) (next_is s)
            ∙ window wrote_memory by.memory (place i u) s.last (beside_over (place i u) (width_of i.kind) (reg u i.rs2) u.memory by.memory by.beside) wrote_keys
            ∙ sym by.is;
        going = going;
      }

  -- bytes elsewhere: the stored words are as before, and others are not
  elsewhere_changed : (o : State) → StoresElsewhere w.form.spans i u o → AsChanges o true
  elsewhere_changed o e =
      let s = e.store in
      let m = u.memory in
      let a = place i u in
      let k = width_of i.kind in
      let moved_memory = put u.memory e.at (width_of i.kind) e.number in
      let going : (run (start g regs) (n + 1)).outcome ≡ Going = ap (λ y. y.outcome) (next_is s) ∙ go in
      let back = first_word a m ∷ last_word a m ∷ [] in
      let there = first_word e.at moved_memory ∷ last_word e.at moved_memory ∷ [] in
      record {
        head = first_word a m;
        tail = last_word a m ∷ first_word e.at moved_memory ∷ last_word e.at moved_memory ∷ [];
        at = (refl, (refl, (refl, (refl, tt))));
        free = (s.first, tt, (s.last, tt, (e.first, tt, (e.last, tt, tt))));
        word = refl;
        there = changed_all (start g regs) (first_word a m ∷ last_word a m ∷ first_word e.at moved_memory ∷ last_word e.at moved_memory ∷ []) n (refl, (refl, (refl, (refl, tt)))) going
            ∙ ap (λ x. struck_all (first_word e.at moved_memory ∷ last_word e.at moved_memory ∷ []) (struck_all (first_word a m ∷ last_word a m ∷ []) x)) (next_is s)
            ∙ ap (struck_all (first_word e.at moved_memory ∷ last_word e.at moved_memory ∷ [])) (window wrote_memory m a s.last (beside_over a k (reg u i.rs2) m m (beside_self a k m small)) wrote_keys)
            ∙ window m moved_memory e.at e.last (beside_put e.at k e.number m small) keys
            ∙ sym e.is;
        going = going;
      }

  -- each
  pub as_changes : (o : State) (x : WrongOnce w.form.spans i u o) → AsChanges o (is_stored x)
  as_changes o (results wr any) = result_changed o wr any
  as_changes o (stores s any) = store_changed o s any
  as_changes o (elsewhere e) = elsewhere_changed o e

  -- ---- the run behind it
  module _ (o : State) (words : Bool) (x : AsChanges o words) where
    abbrev pub changes : List Change
    changes = x.head ∷ x.tail

    pub ordered : Ordered changes
    ordered = ordered_at (n + 1) changes x.at

    pub last_is : last_step changes ≡ n + 1
    last_is = last_at (n + 1) x.head x.tail x.at

    pub before_it : (k : ℕ) → k < n + 1 → changed_run (start g regs) changes k ≡ run (start g regs) k
    before_it k h = unchanged_before (start g regs) changes k (behind_at (n + 1) k changes h x.at)

    pub behind_it : (k : ℕ) → changed_run (start g regs) changes (n + 1 + k) ≡ run o k
    behind_it k = changed_later (start g regs) (n + 1) k changes (by_at (n + 1) changes x.at) ∙ ap (λ y. run y k) x.there
