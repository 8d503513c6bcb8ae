-- A known test without a JALR has the same blocks in the lean form, if its code begins at 0x10000 and has no other
-- multiple of 64.
use Rattle.std.proofs.Common.{◌≡◌, ⊎_elim, inl, inr, ℕ, ◌%◌, true, false, not, List, [], ◌∷◌, Some, None, refl, sym, ◌∙◌, arith}
use Rattle.std.specs.Prelude.{◌==◌, ◌||◌}
use Rattle.std.proofs.lemmas.Bool.{false≢true, eqb-true, eq-eqb, or_cases, not-true}
use Rattle.tests.specs.declared.options.Options.{Options}
use Rattle.tests.specs.declared.options.Entries.TheVariants as entries
use Rattle.tests.specs.Admission.DataRanges.{ElfFile}
use Rattle.tests.specs.Admission.Leaders.{HasIndirect, is_indirect, IsLeader, Begins, Entry, Target, After, Named, Reached, Even}
use Rattle.machine.specs.Members.{Every}
use Rattle.qed_model.specs.Weave.Sequences.{Block, End, Falls, Stops}
use Rattle.qed_model.specs.Weave.Blocks.{AreBlocks, IsBlockOf, IsMarked, StopsAt}
use Rattle.qed_model.specs.Weave.SoundOptions.{AreSoundOptions}
use Rattle.qed_model.proofs.ExampleCode as code
use Rattle.qed_model.proofs.Lemmas.{IsCodeOf, defaults}
use Rattle.weave_core.specs.World.{Ins, class_of}
use Rattle.weave_examples.proofs.ListedRuns.{every_all}

-- the options: the form with `land` and the sweep, and short pieces
abbrev pub options : Options
options = record { inst_min = 4; inst_max = 16; round = 1; half = None; sweep = true; diverse = false; entries = entries.Reached; lean = Some 1200; land = true }

pub sound : AreSoundOptions options
sound = record { some = omega arith; room = omega arith; most = omega arith; visits = omega arith; few_visits = omega arith; half = tt; lean = (refl, omega arith, omega arith) }

module _
    (f : ElfFile) (is : List Ins) (known : IsCodeOf f 0x10000 is) (start : f.entry ≡ 0x10000) (jumps : code.each_at (λ a j. not (is_indirect (class_of j.kind))) 0x10000 is ≡ true)
    (grain : code.each_at (λ a j. not (a % 64 == 0) || (a == 0x10000)) 0x10000 is ≡ true) where
  no_indirect : HasIndirect f → ⊥
  no_indirect h =
      let i = h.1.instruction in
      let none : not (is_indirect (class_of i.kind)) ≡ true = code.passes_each (λ a j. not (is_indirect (class_of j.kind))) h.0 i 0x10000 is jumps (code.one_of f 0x10000 is known h.0 i h.1.stands) in
      false≢true (sym (not-true (is_indirect (class_of i.kind)) none) ∙ h.1.class)

  to_lean : (a : ℕ) → IsLeader f defaults a → IsLeader f options a
  to_lean a l = record { code = l.code; begins = by l.begins } where
    by : Begins f defaults a → Begins f options a
    by (Entry e) = Entry e
    by (Target i s e) = Target i s e
    by (After i s e) = After i s e
    by (Named e) = Named e
    by (Reached e h r) = absurd (no_indirect h)
    by (Even e m) = absurd (false≢true e)

  -- the entry alone is a multiple of 64
  to_other : (a : ℕ) → IsLeader f options a → IsLeader f defaults a
  to_other a l = record { code = l.code; begins = by l.begins } where
    even : (not (a % 64 == 0) || (a == 0x10000)) ≡ true
    even = code.tested f 0x10000 is known (λ b. not (b % 64 == 0) || (b == 0x10000)) grain a l.code

    by : Begins f options a → Begins f defaults a
    by (Entry e) = Entry e
    by (Target i s e) = Target i s e
    by (After i s e) = After i s e
    by (Named e) = Named e
    by (Reached e h r) = absurd (no_indirect h)
    by (Even e m) = Entry (⊎_elim (λ n. absurd (false≢true (sym (not-true (a % 64 == 0) n) ∙ eq-eqb (a % 64) 0 m))) (λ s. eqb-true a 0x10000 s) (or_cases (not (a % 64 == 0)) (a == 0x10000) even) ∙ sym start)

  block : (b : Block) → IsBlockOf f defaults b → IsBlockOf f options b
  block b (inr x) = absurd (no_indirect x.indirect)
  block b (inl x) = inl (record {
    leader = to_lean b.start x.leader;
    body = x.body;
    stands = x.stands;
    inside = λ k some few l. x.inside k some few (to_other _ l);
    stops = stops b.end _ _ x.stops;
    pieces = x.pieces;
  }) where
    stops : (e : End) (n a : ℕ) → StopsAt f defaults e n a → StopsAt f options e n a
    stops (Stops i) n a s = (s.0, s.1, ⊎_elim (λ z. inl z) (λ ne. inr (λ l. ne (to_other a l))) s.2)
    stops Falls n a s = (s.0, ⊎_elim (λ l. inl (to_lean a l)) (λ no_code. inr no_code) s.1)

  each_lean : (bs : List Block) → Every (IsBlockOf f defaults) bs → Every (IsBlockOf f options) bs
  each_lean [] h = tt
  each_lean (b ∷ bs) h = (block b h.0, each_lean bs h.1)

  marks : (bs : List Block) → Every (λ (b : Block). b.reached ≡ false) bs → Every (IsMarked f options) bs
  marks [] h = tt
  marks (b ∷ bs) h = ((λ x. absurd (false≢true (sym h.0 ∙ x)), λ m. absurd (no_indirect m.1)), marks bs h.1)

  pub are_lean : (bs : List Block) → Every (IsBlockOf f defaults) bs → AreBlocks f defaults bs → Every (λ (b : Block). b.reached ≡ false) bs → AreBlocks f options bs
  are_lean bs each other unmarked = record {
    ascend = other.ascend;
    each = every_all (IsBlockOf f options) bs (each_lean bs each);
    marked = every_all (IsMarked f options) bs (marks bs unmarked);
    leaders = λ a l. other.leaders a (to_other a l);
    others = λ e h a c. absurd (no_indirect h);
  }
