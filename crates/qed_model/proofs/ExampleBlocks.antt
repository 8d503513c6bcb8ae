-- The blocks of a known file with known instructions: which addresses are leaders, and that a list of blocks is all of
-- them. Proved by computed tests.
use Rattle.std.proofs.Common.{◌≡◌, inl, inr, ⊎_elim, ℕ, zero, suc, ◌+◌, ◌*◌, ◌<◌, ◌≤◌, Bool, true, false, ◌&&◌, ◌||◌, not, List, [], ◌∷◌, ◌++◌, length, Some, None, is_some, refl, sym, ap, ◌∙◌, subst, arith}
use Rattle.std.specs.Prelude.{nat_le, nat_lt, ◌==◌, All}
use Rattle.std.specs.List.{list_all, list_any}
use Rattle.std.proofs.lemmas.Bool.{and_parts, eqb-true, eq-eqb, leb-true, ltb-true, or_cases, false≢true, not-true, or_right}
use Rattle.std.proofs.lemmas.List.Elements.{All-cons, All-nil}
use Rattle.tests.specs.declared.options.Entries.TheVariants as entries
use Rattle.machine.specs.Step.{class_of, Ins, target}
use Rattle.tests.specs.Admission.Terms.{is_named_in}
use Rattle.tests.specs.Admission.CodeWords.{is_code, instruction_at}
use Rattle.tests.specs.Admission.Leaders.{has_target, is_end, is_indirect, Begins, Entry, Target, After, Named, Reached, Even, IsLeader, HasIndirect}
use Rattle.qed_model.specs.Weave.Sequences.{Block, End, Falls, Stops}
use Rattle.qed_model.specs.Weave.Pieces.{is_run, Breaks, AreRuns, all_pieces, whole, ArePieces}
use Rattle.qed_model.specs.Weave.Blocks.{Options, ElfFile, IsBodyAt, StopsAt, IsLeaderBlock, IsOtherBlock, IsMarked, begins_at, AreBlocks, IsBlockOf}
use Rattle.machine.proofs.Lemmas.{every_all, pairs_all}
use Rattle.machine.specs.Members.{Pairs, Every}
use Rattle.qed_model.proofs.ExampleCode.{StandFrom, IsCodeOf, IsAt, each_at, code_of, one_of, tested}

-- ---- pieces
-- with the next run's first instruction, a run would not be one
abbrev breaks : List Ins → List (List Ins) → Bool
breaks run [] = true
breaks run ([] ∷ runs) = false
breaks run ((i ∷ is) ∷ runs) = not (is_run (run ++ i ∷ []))

abbrev are_runs : List (List Ins) → Bool
are_runs [] = true
are_runs (run ∷ runs) = nat_le 1 (length run) && (is_run run && (breaks run runs && are_runs runs))

breaks_there : (run : List Ins) (runs : List (List Ins)) → breaks run runs ≡ true → Breaks run runs
breaks_there run [] e = tt
breaks_there run ([] ∷ runs) e = absurd (false≢true e)
breaks_there run ((i ∷ is) ∷ runs) e = not-true (is_run (run ++ i ∷ [])) e

runs_there : (runs : List (List Ins)) → are_runs runs ≡ true → AreRuns runs
runs_there [] e = tt
runs_there (run ∷ runs) e =
    let a = and_parts _ _ e in
    let b = and_parts _ _ a.1 in
    let c = and_parts _ _ b.1 in
    (leb-true 1 (length run) a.0, b.0, breaks_there run runs c.0, runs_there runs c.1)

pieces_of : (most : ℕ) (runs : List (List Ins)) → are_runs runs ≡ true → ArePieces most (whole runs) (all_pieces most runs)
pieces_of most runs e = record { runs = runs; body_is = refl; longest = runs_there runs e; pieces_are = refl }

-- ---- blocks in ascending order
abbrev before_all : ℕ → List Block → Bool
before_all a [] = true
before_all a (b ∷ bs) = nat_lt a b.start && before_all a bs

abbrev pub do_ascend : List Block → Bool
do_ascend [] = true
do_ascend (b ∷ bs) = before_all b.start bs && do_ascend bs

all_before : (b : Block) (bs : List Block) → before_all b.start bs ≡ true → Every (λ (c : Block). b.start < c.start) bs
all_before b [] e = tt
all_before b (c ∷ bs) e = let p = and_parts (nat_lt b.start c.start) (before_all b.start bs) e in (ltb-true b.start c.start p.0, all_before b bs p.1)

ascends : (bs : List Block) → do_ascend bs ≡ true → Pairs (λ (b c : Block). b.start < c.start) bs
ascends [] e = tt
ascends (b ∷ bs) e = let p = and_parts (before_all b.start bs) (do_ascend bs) e in (all_before b bs p.0, ascends bs p.1)

-- ---- tests of instructions at their addresses
-- an instruction leads to the address: as a jump to its target, or as the end before it
abbrev leads : ℕ → ℕ → Ins → Bool
leads a b i = (has_target (class_of i.kind) && a == target i b) || (is_end (class_of i.kind) && a == b + 4)

-- one of some instructions leads to the address
abbrev leads_to : ℕ → ℕ → List Ins → Bool
leads_to a from [] = false
leads_to a from (i ∷ is) = leads a from i || leads_to a (from + 4) is

led : (a b : ℕ) (i : Ins) (from : ℕ) (code : List Ins) → IsAt b i from code → leads a b i ≡ true → leads_to a from code ≡ true
led a b i from [] m h = absurd m
led a b i from (j ∷ js) m h =
    ⊎_elim
    (λ s. ap (λ t. t || leads_to a (from + 4) js) (sym (ap (λ q. leads a q i) s.0 ∙ ap (leads a from) s.1) ∙ h))
    (λ r. or_right (leads a from j) (leads_to a (from + 4) js) (led a b i (from + 4) js r h))
    m

-- one of some instructions is a JALR
abbrev pub has_indirect : List Ins → Bool
has_indirect code = list_any (λ (i : Ins). is_indirect (class_of i.kind)) code

-- all code addresses have entries, and a comparison stands behind each piece
module _ (f : ElfFile) (from : ℕ) (code : List Ins) (known : IsCodeOf f from code) (o : Options) (all : o.entries ≡ entries.All) (compared : o.lean ≡ None) where
  -- ---- leaders
  abbrev pub is_begun : ℕ → Bool
  is_begun a = a == f.entry || (is_named_in f a || leads_to a from code)

  led_on : (a b : ℕ) (i : Ins) → instruction_at f b ≡ Some i → leads a b i ≡ true → is_begun a ≡ true
  led_on a b i h e = or_right (a == f.entry) (is_named_in f a || leads_to a from code) (or_right (is_named_in f a) (leads_to a from code) (led a b i from code (one_of f from code known b i h) e))

  begun_of : (a : ℕ) → Begins f o a → is_begun a ≡ true
  begun_of a (Entry e) = ap (λ b. b || (is_named_in f a || leads_to a from code)) (eq-eqb a f.entry e)
  begun_of a (Target i s e) =
      let j = s.instruction in
      led_on a i j s.stands (ap (λ b. b && a == target j i || (is_end (class_of j.kind) && a == i + 4)) s.class ∙ ap (λ b. b || (is_end (class_of j.kind) && a == i + 4)) (eq-eqb a (target j i) e))
  begun_of a (After i s e) =
      let j = s.instruction in
      led_on a i j s.stands (or_right (has_target (class_of j.kind) && a == target j i) (is_end (class_of j.kind) && a == i + 4) (ap (λ b. b && a == i + 4) s.class ∙ eq-eqb a (i + 4) e))
  begun_of a (Named e) = or_right (a == f.entry) (is_named_in f a || leads_to a from code) (ap (λ b. b || leads_to a from code) e)
  begun_of a (Reached only h r) = absurd (two_kinds (sym all ∙ only)) where
    two_kinds : entries.All ≡ entries.Reached → ⊥
    two_kinds e = cc
  begun_of a (Even lean multiple) = absurd (false≢true (sym (ap is_some compared) ∙ lean))

  led_from : (a b : ℕ) (is : List Ins) → StandFrom f b is → leads_to a b is ≡ true → Begins f o a
  led_from a b [] s e = absurd (false≢true e)
  led_from a b (i ∷ is) s e =
      ⊎_elim
      (λ x.
      ⊎_elim
      (λ t. let p = and_parts (has_target (class_of i.kind)) (a == target i b) t in Target b (record { instruction = i; stands = s.0; class = p.0 }) (eqb-true a (target i b) p.1))
      (λ t. let p = and_parts (is_end (class_of i.kind)) (a == b + 4) t in After b (record { instruction = i; stands = s.0; class = p.0 }) (eqb-true a (b + 4) p.1))
      (or_cases (has_target (class_of i.kind) && a == target i b) (is_end (class_of i.kind) && a == b + 4) x))
      (λ r. led_from a (b + 4) is s.1 r)
      (or_cases (leads a b i) (leads_to a (b + 4) is) e)

  begins_of : (a : ℕ) → is_begun a ≡ true → Begins f o a
  begins_of a e =
      ⊎_elim
      (λ x. Entry (eqb-true a f.entry x))
      (λ x. ⊎_elim (λ n. Named n) (λ l. led_from a from code known.stand l) (or_cases (is_named_in f a) (leads_to a from code) x))
      (or_cases (a == f.entry) (is_named_in f a || leads_to a from code) e)

  no_leader : (a : ℕ) → is_begun a ≡ false → IsLeader f o a → ⊥
  no_leader a e l = false≢true (sym e ∙ begun_of a l.begins)

  -- ---- parts of the code
  behind : (front rest : List Ins) (b : ℕ) → StandFrom f b (front ++ rest) → StandFrom f (b + 4 * length front) rest
  behind [] rest b s = let at : b ≡ b + 4 * length {A = Ins} [] = omega arith in subst (λ a. StandFrom f a rest) at s
  behind (i ∷ is) rest b s = let at : b + 4 + 4 * length is ≡ b + 4 * length (i ∷ is) = omega arith in subst (λ a. StandFrom f a rest) at (behind is rest (b + 4) s.1)

  abbrev no_end : List Ins → Bool
  no_end [] = true
  no_end (i ∷ is) = not (is_end (class_of i.kind)) && no_end is

  body_of : (body rest : List Ins) (b : ℕ) → StandFrom f b (body ++ rest) → no_end body ≡ true → IsBodyAt f b body
  body_of [] rest b s e = tt
  body_of (i ∷ is) rest b s e = let p = and_parts (not (is_end (class_of i.kind))) (no_end is) e in (s.0, not-true (is_end (class_of i.kind)) p.0, body_of is rest (b + 4) s.1 p.1)

  -- no leader stands at any of these words from an address on, nor behind the first of them
  abbrev none_begun : ℕ → List Ins → Bool
  none_begun b [] = true
  none_begun b (i ∷ is) = not (is_begun b) && none_begun (b + 4) is

  abbrev is_closed : ℕ → List Ins → Bool
  is_closed b [] = true
  is_closed b (i ∷ is) = none_begun (b + 4) is

  none_there : (is : List Ins) (b k : ℕ) → none_begun b is ≡ true → k < length is → is_begun (b + 4 * k) ≡ false
  none_there [] b k e l = absurd (omega (arith, l))
  none_there (i ∷ is) b zero e l =
      let at : b ≡ b + 4 * 0 = omega arith in
      ap is_begun (sym at) ∙ not-true (is_begun b) (and_parts (not (is_begun b)) (none_begun (b + 4) is) e).0
  none_there (i ∷ is) b (suc k) e l =
      let at : b + 4 + 4 * k ≡ b + 4 * suc k = omega arith in
      ap is_begun (sym at) ∙ none_there is (b + 4) k (and_parts (not (is_begun b)) (none_begun (b + 4) is) e).1 (omega (arith, l))

  inside_of : (body : List Ins) (b : ℕ) → is_closed b body ≡ true → (k : ℕ) → 1 ≤ k → k < length body → IsLeader f o (b + 4 * k) → ⊥
  inside_of [] b e k some l = absurd (omega (arith, l))
  inside_of (i ∷ is) b e zero some l = absurd (omega (arith, some))
  inside_of (i ∷ is) b e (suc k) some l =
      let at : b + 4 + 4 * k ≡ b + 4 * suc k = omega arith in
      no_leader (b + 4 * suc k) (ap is_begun (sym at) ∙ none_there is (b + 4) k e (omega (arith, l)))

  -- ---- the blocks of leaders
  -- a body of runs behind a front of instructions, up to a further instruction
  module _ (front : List Ins) (runs : List (List Ins)) (i : Ins) (rest : List Ins) (split : code ≡ front ++ (whole runs ++ i ∷ rest)) (cut : are_runs runs ≡ true) where
    abbrev start : ℕ
    start = from + 4 * length front

    abbrev stop : ℕ
    stop = start + 4 * length (whole runs)

    part : StandFrom f start (whole runs ++ i ∷ rest)
    part = behind front (whole runs ++ i ∷ rest) from (subst (λ is. StandFrom f from is) split known.stand)

    stands_next : instruction_at f stop ≡ Some i
    stands_next = (behind (whole runs) (i ∷ rest) start part).0

    stands_first : (body : List Ins) → StandFrom f start (body ++ i ∷ rest) → is_code f start ≡ true
    stands_first [] s = code_of f from code known start i s.0
    stands_first (j ∷ js) s = code_of f from code known start j s.0

    abbrev is_block : Bool
    is_block = is_begun start && (no_end (whole runs) && is_closed start (whole runs))

    block_of :
        (end : End) → is_block ≡ true → StopsAt f o end (length (whole runs)) stop
        → IsLeaderBlock f o (record { start = start; body = all_pieces o.inst_max runs; end = end; reached = false })
    block_of end e stops =
        let p = and_parts (is_begun start) (no_end (whole runs) && is_closed start (whole runs)) e in
        let q = and_parts (no_end (whole runs)) (is_closed start (whole runs)) p.1 in
        record {
          leader = record { code = stands_first (whole runs) part; begins = begins_of start p.0 };
          body = whole runs;
          stands = body_of (whole runs) (i ∷ rest) start part q.0;
          inside = inside_of (whole runs) start q.1;
          stops = stops;
          pieces = pieces_of o.inst_max runs cut;
        }

    -- a body that stops at an end
    pub stopping :
        is_block && (is_end (class_of i.kind) && (length (whole runs) == 0 || not (is_begun stop))) ≡ true
        → IsLeaderBlock f o (record { start = start; body = all_pieces o.inst_max runs; end = Stops i; reached = false })
    stopping e =
        let p = and_parts is_block (is_end (class_of i.kind) && (length (whole runs) == 0 || not (is_begun stop))) e in
        let q = and_parts (is_end (class_of i.kind)) (length (whole runs) == 0 || not (is_begun stop)) p.1 in
        block_of (Stops i) p.0
        (stands_next, q.0, ⊎_elim (λ z. inl (eqb-true (length (whole runs)) 0 z)) (λ n. inr (no_leader stop (not-true (is_begun stop) n))) (or_cases (length (whole runs) == 0) (not (is_begun stop)) q.1))

    -- a body that falls through to the next leader
    pub falling :
        is_block && (nat_le 1 (length (whole runs)) && is_begun stop) ≡ true
        → IsLeaderBlock f o (record { start = start; body = all_pieces o.inst_max runs; end = Falls; reached = false })
    falling e =
        let p = and_parts is_block (nat_le 1 (length (whole runs)) && is_begun stop) e in
        let q = and_parts (nat_le 1 (length (whole runs))) (is_begun stop) p.1 in
        block_of Falls p.0
        (leb-true 1 (length (whole runs)) q.0, inl (record { code = code_of f from code known stop i stands_next; begins = begins_of stop q.1 }))

  -- ---- the block of another address: an end, if the code has a JALR
  indirect_in : (is : List Ins) (b : ℕ) → StandFrom f b is → has_indirect is ≡ true → HasIndirect f
  indirect_in [] b s e = absurd (false≢true e)
  indirect_in (i ∷ is) b s e =
      ⊎_elim (λ x. (b, record { instruction = i; stands = s.0; class = x })) (λ r. indirect_in is (b + 4) s.1 r) (or_cases (is_indirect (class_of i.kind)) (has_indirect is) e)

  pub other :
      (front : List Ins) (i : Ins) (rest : List Ins) → code ≡ front ++ i ∷ rest
      → has_indirect code && (is_end (class_of i.kind) && not (is_begun (from + 4 * length front))) ≡ true
      → IsOtherBlock f o (record { start = from + 4 * length front; body = [] ∷ []; end = Stops i; reached = false })
  other front i rest split e =
      let p = and_parts (has_indirect code) (is_end (class_of i.kind) && not (is_begun (from + 4 * length front))) e in
      let q = and_parts (is_end (class_of i.kind)) (not (is_begun (from + 4 * length front))) p.1 in
      record {
        all = all;
        indirect = indirect_in code from known.stand p.0;
        other = no_leader (from + 4 * length front) (not-true (is_begun (from + 4 * length front)) q.1);
        instruction = i;
        stands = (behind front (i ∷ rest) from (subst (λ is. StandFrom f from is) split known.stand)).0;
        short = (q.0, refl, refl);
      }

  -- ---- all blocks
  indirect_there : (a : ℕ) (i : Ins) (b : ℕ) (is : List Ins) → IsAt a i b is → is_indirect (class_of i.kind) ≡ true → has_indirect is ≡ true
  indirect_there a i b [] m h = absurd m
  indirect_there a i b (j ∷ js) m h =
      ⊎_elim
      (λ s. ap (λ t. t || has_indirect js) (ap (λ (x : Ins). is_indirect (class_of x.kind)) (sym s.1) ∙ h))
      (λ r. or_right (is_indirect (class_of j.kind)) (has_indirect js) (indirect_there a i (b + 4) js r h))
      m

  -- a block begins at the address; or the address is not a leader, and the code has no JALR
  abbrev pub is_served : List Block → ℕ → Bool
  is_served blocks a = begins_at blocks a || not (is_begun a || has_indirect code)

  -- no block is marked as reached
  none_marked : (blocks : List Block) → list_all (λ b. not b.reached) blocks ≡ true → All (IsMarked f o) blocks
  none_marked [] e = All-nil (IsMarked f o)
  none_marked (b ∷ bs) e =
      let p = and_parts (not b.reached) (list_all (λ b. not b.reached) bs) e in
      All-cons (IsMarked f o) b bs ((λ x. absurd (false≢true (sym (not-true b.reached p.0) ∙ x)), λ m. absurd (two_kinds (sym all ∙ m.0)))) (none_marked bs p.1) where
        two_kinds : entries.All ≡ entries.Reached → ⊥
        two_kinds e = absurd (cc)

  pub are_blocks :
      (blocks : List Block) → do_ascend blocks ≡ true → each_at (λ a i. is_served blocks a) from code ≡ true → list_all (λ b. not b.reached) blocks ≡ true
      → Every (IsBlockOf f o) blocks → AreBlocks f o blocks
  are_blocks blocks ascend served unmarked every = record {
    ascend = pairs_all (λ (b c : Block). b.start < c.start) blocks (ascends blocks ascend);
    each = every_all (IsBlockOf f o) blocks every;
    marked = none_marked blocks unmarked;
    leaders = λ a l. by a l.code (ap (λ b. b || has_indirect code) (begun_of a l.begins));
    others = λ z h a e. by a e (or_right (is_begun a) (has_indirect code) (indirect_there h.0 h.1.instruction from code (one_of f from code known h.0 h.1.instruction h.1.stands) h.1.class));
  } where
    by : (a : ℕ) → is_code f a ≡ true → is_begun a || has_indirect code ≡ true → begins_at blocks a ≡ true
    by a e b =
        ⊎_elim
        (λ x. x)
        (λ n. absurd (false≢true (sym (not-true (is_begun a || has_indirect code) n) ∙ b)))
        (or_cases (begins_at blocks a) (not (is_begun a || has_indirect code)) (tested f from code known (is_served blocks) served a e))
