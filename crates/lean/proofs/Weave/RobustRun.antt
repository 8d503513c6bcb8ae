-- From an entry, with changes of the duplicate half at any steps: the run comes to the input's states, or is over.
use Rattle.std.proofs.Common.{◌≡◌, ℕ, zero, suc, ◌+◌, ◌*◌, ◌^◌, ◌<◌, ◌≤◌, ⊎_elim, Bool, true, false, List, [], ◌∷◌, ◌++◌, length, refl, sym, ap, ◌∙◌, subst, arith, append_assoc}
use Rattle.std.proofs.lemmas.Bool.{cases_eq}
use Rattle.rv_isa.specs.declared.class.Class.TheVariants as class
use Rattle.machine.specs.Members.{Among}
use Rattle.machine.specs.Table.{Ins}
use Rattle.qed_model.specs.Promise.Kept.{NotTrapped, IsSteady}
use Rattle.qed_model.specs.Weave.Blocks.{begins_at}
use Rattle.qed_model.specs.Weave.Code.{pieces_of}
use Rattle.qed_model.specs.Weave.Lean.{check, leave, leave_as, leave_cost, turn, cost}
use Rattle.qed_model.specs.Weave.LeanCode.{Lean, fall_to, end_at}
use Rattle.qed_model.specs.Weave.Sequences.{Reads, End, Falls, Stops, Block, body_length, before_end}
use Rattle.weave_core.specs.Blocks.{EndStands, Leaves, Full}
use Rattle.weave_core.specs.Rows.{Sourced}
use Rattle.weave_core.specs.Weave.{Weave}
use Rattle.weave_core.specs.WeaveLaws.{PiecesAt}
use Rattle.weave_core.specs.World.{World, Item, Mark, Program, Known, State, step, run, get, Class, class_of}
use Rattle.lean.specs.Woven.{LeanPlan, lean_weave_of}
use Rattle.lean.proofs.Weave.Beyond.{Beyond, beyond, check_beyond, away}
use Rattle.lean.proofs.Weave.Blocks.{begun, begins}
use Rattle.lean.proofs.Weave.Carry.{reads_front, known_at, run-more, run-none, one_run, not_trapped_le, source_run, step-illegal}
use Rattle.lean.proofs.Weave.Chain.{cost_append}
use Rattle.lean.proofs.Weave.Half.{Half, Into}
use Rattle.lean.proofs.Weave.Lost.{lost}
use Rattle.lean.proofs.Weave.Skipped.{Loses}
use Rattle.lean.proofs.Weave.Offset.{end_stands}
use Rattle.lean.proofs.Weave.PieceCosts.{pieces_cost}
use Rattle.lean.proofs.Weave.Plan.{BlockAt}
use Rattle.lean.proofs.Weave.Promise.{block_at}
use Rattle.lean.proofs.Weave.Robust.{With, leads_more, leads_as, leads_none, leads_steady, Onto, steady_join}
use Rattle.lean.proofs.Weave.RobustPiece.{piece_leads}
use Rattle.lean.proofs.Weave.RobustEnter.{EntryOf, enters_lead, check_leads, entry_most, check_most}
use Rattle.lean.proofs.Weave.RobustLeave.{Entered, falls_lead, jump_leads, branch_leads, leap_leads, aim_goes}
use Rattle.lean.proofs.Weave.RobustEnd.{end_leads, end_most, Room}

-- a block that falls has an instruction
some_word : (ps : List (List Ins)) → Full ps Falls → ((p : List Ins) × (qs : List (List Ins)) × (ps ≡ p ∷ qs)) → 1 ≤ body_length ps
some_word [] f s = absurd (cc)
some_word (p ∷ []) f s = omega (arith, f)
some_word (p ∷ q ∷ ps) f s = omega (arith, f.0)

module _ (w : World) (l : Lean) where
  -- an entry, the check, and the entry again
  abbrev pub round : ℕ
  round = entry_most w l + (check_most w l + entry_most w l)

  -- from an entry to the first step that makes a state of the input, but for the end
  abbrev pub entry_cost : ℕ
  entry_cost = round + (31 + end_most w)

module _ (f g : Program) (w : World) (l : Lean) (blocks : List Block) (p : LeanPlan f g w l blocks) (bound price : ℕ) (slip : Bool) where
  abbrev leader : ℕ → Bool
  leader a = begins_at blocks a

  abbrev v : Weave
  v = lean_weave_of w l leader

  -- what is left for the end of a test
  abbrev ends : ℕ
  ends = end_most w

  -- a run at an entry with another signature, or another distance in x14, is over soon
  pub loses : Loses w leader
  loses = lost f g w l blocks p

  -- what stands behind the check
  abbrev pub after_check : (xs : List Item) × Beyond leader xs × Reads false w.code w.entry l.check (check w.base w.distance l.every w.form.round w.form.spans ++ xs)
  after_check = check_beyond f g w l blocks p

  module _ (enough : round w l + (2047 + 31) ≤ bound) (dear : round w l ≤ price) (top : ℕ) (paid : bound ≤ price → Room w price top) (payable : slip ≡ true → bound ≤ price) where
    -- ---- leaves
    -- what is needed before a leave
    abbrev before_leave : End → ℕ → ℕ → ℕ
    before_leave Falls a at = cost (turn a at ++ fall_to leader at) + entry_cost w l
    before_leave (Stops i) a at = 31 + ends

    -- what the next entry gives
    abbrev Enters : ℕ → ℕ → State → Type 0
    Enters N K s = Onto w bound price slip N K s (entry_cost w l) (Entered w l leader p.sound bound price slip s)

    -- a list without what stands behind it
    front_leads : (a N K most : ℕ) (s : State) (ys xs : List Item) → Onto w bound price slip N K s most (Into w a s ys) → Onto w bound price slip N K s most (Into w a s (ys ++ xs))
    front_leads a N K most s ys xs on = leads_as w bound price slip N K s (Into w a s (ys ++ xs)) (Into w a s ys) most (λ u d. (d.0, reads_front false w.code w.entry u.pc ys xs d.1)) on

    -- of the words behind the end of a test
    abbrev Away : ℕ → Ins → List Item → Type 0
    Away a i xs = class_of i.kind ≡ class.End → (c : ℕ) → xs ≡ Mark c ∷ [] → c ≡ a → ⊥

    stop_leads :
        (a : ℕ) (c : Class) (s : State) (i : Ins) (N K : ℕ) (xs : List Item) → Beyond leader xs → Away a i xs → a < 2 ^ 64 → class_of i.kind ≡ c → Sourced w s → w.source s.pc ≡ Known i → Leaves c w leader i s.pc
        → (IsSteady w.reached s 1 → Enters N K (step s)) → Onto w bound price slip N (suc K) s (31 + ends) (Into w a s (leave_as w.distance (before_end w.form) (fall_to leader) c i a s.pc ++ xs))
    stop_leads a class.End s i N K xs beyond away low e so has g on =
        leads_more w bound price slip N (suc K) s _ ends (31 + ends) (omega arith)
        (end_leads w p.sound.near bound price slip a a s i (fall_to leader) N (suc K) top so has e (omega (arith, enough)) paid payable leader loses xs beyond (away e))
    stop_leads a class.Illegal s i N K xs beyond away low e so has g on =
        leads_steady w bound price slip N K s _ (λ st. absurd (step-illegal s i so.over.going (known_at w.source s i so.over has) e (subst NotTrapped (one_run s) st.no_trap)))
    stop_leads a class.Jump s i N K xs beyond away low e so has g on = jump_leads w l leader p.sound loses bound price slip a s i N K (entry_cost w l) ends xs beyond low so has e g.0 g.1 (omega (arith, enough)) on
    stop_leads a class.Branch s i N K xs beyond away low e so has g on =
        front_leads a N (suc K) (31 + ends) s (leave_as w.distance (before_end w.form) (fall_to leader) class.Branch i a s.pc) xs
        (branch_leads w l leader p.sound loses bound price slip a s i N K (entry_cost w l) ends low so has e g.0 g.1 g.2 g.3 (omega (arith, enough)) on)
    stop_leads a class.JumpReg s i N K xs beyond away low e so has g on =
        leap_leads w l leader p.sound loses bound price slip a s i N K (entry_cost w l) ends xs beyond low so has e g.1 g.0
        (aim_goes w l leader p.sound bound price slip s i so has e g.2) (omega (arith, enough)) on
    stop_leads a c s i N K xs beyond away low e so has g on = absurd g

    -- ---- pieces
    -- pieces without instructions have no words
    no_words : (ps : List (List Ins)) (at : ℕ) → body_length ps ≡ 0 → pieces_of v.code ps at ≡ []
    no_words [] at h = refl
    no_words ([] ∷ qs) at h = no_words qs (at + 4 * 0) (omega (arith, h))
    no_words ((i ∷ is) ∷ qs) at h = absurd (omega (arith, h))

    -- what stands behind the pieces
    abbrev Then : ℕ → ℕ → ℕ → State → ℕ → ℕ → List Item → Type 0
    Then N K most s n x rest = (j : ℕ) → j + n ≤ K → IsSteady w.reached s n → Onto w bound price slip N j (run s n) most (Into w x (run s n) rest)

    pieces_lead :
        (ps : List (List Ins)) (e : End) (x : ℕ) (s : State) (rest : List Item) (N K most : ℕ) → 1 ≤ body_length ps → PiecesAt w v leader ps e s.pc → Sourced w s → 5 + ends ≤ most → cost (pieces_of v.code ps s.pc) + most ≤ ends + bound
        → Then N K most s (body_length ps) x rest → Onto w bound price slip N K s (5 + ends) (Into w x s (pieces_of v.code ps s.pc ++ rest))
    pieces_lead [] e x s rest N K most some h so le few on = absurd (omega (arith, some))
    pieces_lead ([] ∷ qs) e x s rest N K most some h so le few on =
        let same : s.pc ≡ s.pc + 4 * 0 = omega arith in
        let none : body_length qs ≡ 0 + body_length qs = omega arith in
        subst (λ a. Onto w bound price slip N K s (5 + ends) (Into w x s (pieces_of v.code qs a ++ rest))) same
        (pieces_lead qs e x s rest N K most (omega (arith, some)) (subst (λ a. PiecesAt w v leader qs e a) (sym same) h.1) so le (subst (λ a. cost (pieces_of v.code qs a) + most ≤ ends + bound) (sym same) few) (subst (λ n. Then N K most s n x rest) (sym none) on))
    pieces_lead ((i ∷ is) ∷ qs) e x s rest N K most some h so le few on =
        let q = i ∷ is in
        let n = length q in
        let m = body_length qs in
        let more = pieces_of v.code qs (s.pc + 4 * n) in
        let sum : cost (v.code.piece q s.pc) + cost more ≡ cost (pieces_of v.code (q ∷ qs) s.pc) = sym (cost_append (v.code.piece q s.pc) more) in
        leads_as w bound price slip N K s (Into w x s (pieces_of v.code (q ∷ qs) s.pc ++ rest)) (Into w x s (v.code.piece q s.pc ++ (more ++ rest))) (5 + ends) (λ u d. (d.0, subst (λ xs. Reads false w.code w.entry u.pc xs) (append_assoc (v.code.piece q s.pc) more rest) d.1))
        (piece_leads w bound price slip l.diverse x q s (more ++ rest) N K most ends (omega arith) h.0.fit so h.0.has (omega (arith, few, sum))
        (λ j fits st.
        let t = run s n in
        let k = source_run w q n s (omega arith) h.0.fit so h.0.has st.no_trap in
        ⊎_elim
        (λ zero_m.
        let nothing : more ++ rest ≡ rest = ap (λ xs. xs ++ rest) (no_words qs (s.pc + 4 * n) zero_m) in
        let count : n + m ≡ n = omega (arith, zero_m) in
        subst (λ xs. Onto w bound price slip N j t most (Into w x t xs)) (sym nothing) (subst (λ c. Onto w bound price slip N j (run s c) most (Into w x (run s c) rest)) count (on j (omega (arith, fits, zero_m)) (subst (IsSteady w.reached s) (sym count) st))))
        (λ some_m.
        leads_more w bound price slip N j t (Into w x t (more ++ rest)) (5 + ends) most le
        (subst (λ a. Onto w bound price slip N j t (5 + ends) (Into w x t (pieces_of v.code qs a ++ rest))) k.pc
        (pieces_lead qs e x t rest N j most (omega (arith, some_m)) (subst (λ a. PiecesAt w v leader qs e a) (sym k.pc) h.1) k.sourced le (subst (λ a. cost (pieces_of v.code qs a) + most ≤ ends + bound) (sym k.pc) (omega (arith, few, sum)))
        (λ c fits2 st2. subst (λ y. Onto w bound price slip N c y most (Into w x y rest)) (run-more s n m) (on c (omega (arith, fits, fits2)) (steady_join w.reached s n m st st2))))))
        (cases_eq m 0)))

    -- ---- a block
    -- a fact that the property has may be taken as given
    leads_given : {C : Type 0} → (N K most : ℕ) (s : State) (P : State → Type 0) → ((u : State) → P u → C) → (C → Onto w bound price slip N K s most P) → Onto w bound price slip N K s most P
    leads_given N K most s P get f n k m u n_le k_le st d = f (get u d.0) n k m u n_le k_le st d

    module _ (b : Block) (m : Among b blocks) where
      here : BlockAt w l leader b
      here = block_at f g w l blocks p b m

      abbrev at_end : ℕ
      at_end = b.start + 4 * body_length b.body

      abbrev leaves : List Item
      leaves = leave w.distance (before_end w.form) (fall_to leader) b.end b.start at_end

      -- its code, and what stands behind it
      abbrev code : (xs : List Item) × Beyond leader xs × Reads false w.code w.entry (w.entry b.start) (v.code.enter b.start ++ (pieces_of v.code b.body b.start ++ (leaves ++ xs)))
      code = beyond f g w l blocks p b m

      -- its pieces and its leave take fewer steps than a period
      few : cost (pieces_of v.code b.body b.start) + leave_cost (fall_to leader) b.end b.start (end_at b) ≤ 2047
      few =
          let c = pieces_cost w l leader b.body b.end b.start here.good.pieces in
          let k = here.counts.0 in
          let t = p.sound.ticks b.start (begins blocks b m) in
          let e = p.sound.few in
          omega (arith, c, k, t, e)

      fits : (e : End) → b.end ≡ e → cost (pieces_of v.code b.body b.start) + before_leave e b.start at_end ≤ ends + bound
      fits Falls is = let k = subst (λ e. cost (pieces_of v.code b.body b.start) + leave_cost (fall_to leader) e b.start (end_at b) ≤ 2047) is few in omega (arith, k, enough)
      fits (Stops i) is = let k = few in omega (arith, k, enough)

      -- from behind its pieces
      leave_leads :
          (e : End) (t : State) (N K : ℕ) → b.end ≡ e → t.pc ≡ at_end → Sourced w t → EndStands w leader e t.pc → ((j : ℕ) (y : State) → j ≤ K → Enters N j y)
          → Onto w bound price slip N K t (before_leave e b.start t.pc) (Into w b.start t (leave w.distance (before_end w.form) (fall_to leader) e b.start t.pc ++ code.0))
      leave_leads Falls t N K is pc so st next =
          front_leads b.start N K (before_leave Falls b.start t.pc) t (leave w.distance (before_end w.form) (fall_to leader) Falls b.start t.pc) code.0
          (falls_lead w l leader p.sound loses bound price slip b.start t.pc t N K (entry_cost w l) here.good.low so refl st (next K t (omega arith)))
      leave_leads (Stops i) t N zero is pc so st next = leads_none w bound price slip N t (With w bound price (31 + ends) (Into w b.start t (leave w.distance (before_end w.form) (fall_to leader) (Stops i) b.start t.pc ++ code.0)))
      leave_leads (Stops i) t N (suc K) is pc so st next =
          stop_leads b.start (class_of i.kind) t i N K code.0 code.1 (λ e c mark same. away f g w l blocks p b i code.0 is e code.2 c mark same) here.good.low refl so st.0 st.1 (λ s. next K (step t) (omega arith))

      body_leads :
          (s : State) (N K : ℕ) → s.pc ≡ b.start → Sourced w s → ((j : ℕ) (y : State) → j ≤ K → Enters N j y)
          → Onto w bound price slip N (suc K) s (31 + ends) (Into w b.start s (pieces_of v.code b.body b.start ++ (leaves ++ code.0)))
      body_leads s N K pc so next =
          let n = body_length b.body in
          let words = pieces_of v.code b.body b.start in
          let rest = leaves ++ code.0 in
          let pieces : PiecesAt w v leader b.body b.end s.pc = subst (λ z. PiecesAt w v leader b.body b.end z) (sym pc) here.good.pieces in
          let stands = end_stands w l leader b.body b.end b.start here.good.pieces in
          ⊎_elim
          (λ none.
          let nothing : words ++ rest ≡ rest = ap (λ xs. xs ++ rest) (no_words b.body b.start none) in
          let there : at_end ≡ s.pc = omega (arith, none, pc) in
          subst (λ xs. Onto w bound price slip N (suc K) s (31 + ends) (Into w b.start s xs)) (sym nothing)
          (subst (λ z. Onto w bound price slip N (suc K) s (31 + ends) (Into w b.start s (leave w.distance (before_end w.form) (fall_to leader) b.end b.start z ++ code.0))) (sym there)
          (alone b.end refl s none pc so (subst (EndStands w leader b.end) there stands))))
          (λ some.
          leads_more w bound price slip N (suc K) s (Into w b.start s (words ++ rest)) (5 + ends) (31 + ends) (omega arith)
          (subst (λ z. Onto w bound price slip N (suc K) s (5 + ends) (Into w b.start s (pieces_of v.code b.body z ++ rest))) pc
          (pieces_lead b.body b.end b.start s rest N (suc K) (before_leave b.end b.start at_end) (omega (arith, some)) pieces so (least b.end) (subst (λ z. cost (pieces_of v.code b.body z) + before_leave b.end b.start at_end ≤ ends + bound) (sym pc) (fits b.end refl))
          (λ j h st.
          let t = run s n in
          let behind = pieces_run b.body b.end s pieces so st.no_trap in
          let there : t.pc ≡ at_end = behind.1 ∙ ap (λ z. z + 4 * n) pc in
          subst (λ z. Onto w bound price slip N j t (before_leave b.end b.start z) (Into w b.start t (leave w.distance (before_end w.form) (fall_to leader) b.end b.start z ++ code.0))) there
          (leave_leads b.end t N j refl there behind.0 (subst (EndStands w leader b.end) (sym there) stands) (λ c y le. next c y (omega (arith, le, h, some))))))))
          (cases_eq (body_length b.body) 0) where
            least : (e : End) → 5 + ends ≤ before_leave e b.start at_end
            least Falls = omega arith
            least (Stops i) = omega arith

            alone :
                (e : End) → b.end ≡ e → (s : State) → body_length b.body ≡ 0 → s.pc ≡ b.start → Sourced w s → EndStands w leader e s.pc
                → Onto w bound price slip N (suc K) s (31 + ends) (Into w b.start s (leave w.distance (before_end w.form) (fall_to leader) e b.start s.pc ++ code.0))
            alone Falls is s none pc so st = absurd (let k = some_word b.body (subst (Full b.body) is here.good.full) here.good.some in omega (arith, k, none))
            alone (Stops i) is s none pc so st = stop_leads b.start (class_of i.kind) s i N K code.0 code.1 (λ e c mark same. away f g w l blocks p b i code.0 is e code.2 c mark same) here.good.low refl so st.0 st.1 (λ z. next K (step s) (omega arith))

            pieces_run :
                (ps : List (List Ins)) (e : End) (s : State) → PiecesAt w v leader ps e s.pc → Sourced w s → NotTrapped (run s (body_length ps))
                → Sourced w (run s (body_length ps)) × ((run s (body_length ps)).pc ≡ s.pc + 4 * body_length ps)
            pieces_run [] e s h so calm = (subst (Sourced w) (sym (run-none s)) so, ap (λ y. y.pc) (run-none s) ∙ none s.pc) where
              none : (n : ℕ) → n ≡ n + 4 * 0
              none n = omega arith
            pieces_run (q ∷ qs) e s h so calm =
                let n = length q in
                let m = body_length qs in
                let k = source_run w q n s (omega arith) h.0.fit so h.0.has (not_trapped_le s n (n + m) (omega arith) calm) in
                let more = run-more s n m in
                let r = pieces_run qs e (run s n) (subst (λ z. PiecesAt w v leader qs e z) (sym k.pc) h.1) k.sourced (subst NotTrapped more calm) in
                (subst (Sourced w) (sym more) r.0, ap (λ y. y.pc) more ∙ r.1 ∙ ap (λ z. z + 4 * m) k.pc ∙ far s.pc n m) where
                  far : (a n m : ℕ) → a + 4 * n + 4 * m ≡ a + 4 * (n + m)
                  far a n m = omega arith

      block_leads :
          (s : State) (N K : ℕ) → s.pc ≡ b.start → Sourced w s → ((j : ℕ) (y : State) → j ≤ K → Enters N j y) → Enters N (suc K) s
      block_leads s N K pc so next =
          leads_as w bound price slip N (suc K) s (Entered w l leader p.sound bound price slip s) (EntryOf w b.start s) (entry_cost w l) (λ u d. (subst (λ z. Half w z s u) pc d.0, d.1 ∙ ap w.entry pc))
          (enters_lead w l leader p.sound bound price slip loses after_check.0 after_check.1 after_check.2 b.start s s (pieces_of v.code b.body b.start ++ (leaves ++ code.0)) (suc K) (31 + ends) (begins blocks b m) code.2 dear N (body_leads s N K pc so next))

      -- from the check
      block_check :
          (s : State) (N K : ℕ) → s.pc ≡ b.start → Sourced w s → ((j : ℕ) (y : State) → j ≤ K → Enters N j y)
          → Onto w bound price slip N (suc K) s (check_most w l + (entry_most w l + (31 + ends))) (Into w b.start s (check w.base w.distance l.every w.form.round w.form.spans ++ after_check.0))
      block_check s N K pc so next =
          check_leads w l leader p.sound bound price slip loses after_check.0 after_check.1 after_check.2 b.start s s (pieces_of v.code b.body b.start ++ (leaves ++ code.0)) (suc K) (31 + ends) (begins blocks b m) code.2 dear N (body_leads s N K pc so next)

    -- ---- from any entry
    pub entered_leads : (fuel N K : ℕ) (s : State) → K ≤ fuel → Enters N K s
    entered_leads fuel N zero s le = leads_none w bound price slip N s (With w bound price (entry_cost w l) (Entered w l leader p.sound bound price slip s))
    entered_leads zero N (suc K) s le = absurd (omega (arith, le))
    entered_leads (suc fuel) N (suc K) s le =
        leads_given {C = Sourced w s × (leader s.pc ≡ true)} N (suc K) (entry_cost w l) s (Entered w l leader p.sound bound price slip s) (λ u d. (d.0.sourced, d.2))
        (λ c. let b = begun blocks s.pc c.1 in block_leads b.0 b.1 s N K (sym b.2) c.0 (λ j y h. entered_leads fuel N j y (omega (arith, h, le))))

    -- from the check
    pub checked_leads :
        (N K : ℕ) (s : State) → Sourced w s → leader s.pc ≡ true
        → Onto w bound price slip N K s (check_most w l + (entry_most w l + (31 + ends))) (Into w s.pc s (check w.base w.distance l.every w.form.round w.form.spans ++ after_check.0))
    checked_leads N zero s so leads = leads_none w bound price slip N s (With w bound price (check_most w l + (entry_most w l + (31 + ends))) (Into w s.pc s (check w.base w.distance l.every w.form.round w.form.spans ++ after_check.0)))
    checked_leads N (suc K) s so leads =
        let b = begun blocks s.pc leads in
        subst (λ a. Onto w bound price slip N (suc K) s (check_most w l + (entry_most w l + (31 + ends))) (Into w a s (check w.base w.distance l.every w.form.round w.form.spans ++ after_check.0))) b.2
        (block_check b.0 b.1 s N K (sym b.2) so (λ j y h. entered_leads j N j y (omega arith)))
