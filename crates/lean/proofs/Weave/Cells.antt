-- From an entry to the next call of the check, or to the end of the test: block after block, as long as steps are left.
use Rattle.std.proofs.Common.{◌≡◌, ℕ, zero, suc, ◌+◌, ◌-◌, ◌*◌, ◌^◌, ◌<◌, ◌≤◌, ◌⊎◌, inl, inr, ⊎_elim, Bool, true, false, cond, List, [], ◌∷◌, ◌++◌, length, refl, sym, ap, ◌∙◌, subst, arith, append_assoc}
use Rattle.std.proofs.lemmas.Bool.{and_parts, eqb-true, cases_lt}
use Rattle.qed_model.specs.Promise.Kept.{NotTrapped, IsSteady}
use Rattle.qed_model.specs.Weave.LeanBounds.{entry_steps, call_steps}
use Rattle.qed_model.specs.Weave.Code.{body_of, pieces_of}
use Rattle.qed_model.specs.Weave.Sequences.{Reads, End, Falls, Stops, body_length, before_end, CURSOR, SIGNATURE}
use Rattle.qed_model.specs.Weave.Costs.{cost_each}
use Rattle.qed_model.specs.Weave.Lean.{first_word, leave, leave_cost}
use Rattle.qed_model.specs.Weave.LeanCode.{Lean, both_steps, body_steps, fall_to}
use Rattle.machine.proofs.Lemmas.{run-more, Walk, walk_on}
use Rattle.weave_core.specs.World.{World, Quiet, Twice, IsCursor, Going, Ended, State, reg, run, Ins, Item}
use Rattle.weave_core.specs.Blocks.{IsEntryOf}
use Rattle.weave_core.specs.Rows.{At, Sourced}
use Rattle.weave_core.specs.Weave.{Weave}
use Rattle.weave_core.specs.WeaveLaws.{PieceAt, PiecesAt, EntriesAt, Met, Trail, Feeds, Stands, stops, Onward, lands, is_lost, GoesTo}
use Rattle.weave_core.proofs.Lemmas.{no_code, source_run, steady_le, steady_none, none_run, one_run, holds_of, met_at, met_going, met_same, trail_first, trail_leave, trail_none, trail_on, feeds_first, feeds_less, feeds_on}
use Rattle.lean.specs.Woven.{lean_weave_of, LeanIn, swept_steps, owed, IsCounted, may_lead}
use Rattle.lean.proofs.Weave.Costs.{entry_some}
use Rattle.lean.proofs.Weave.End.{Sweeps, swept_on}
use Rattle.lean.proofs.Weave.Leave.{SignedAs}
use Rattle.lean.proofs.Weave.Left.{Parts, leave_row}
use Rattle.lean.proofs.Weave.Piece.{piece_part}
use Rattle.lean.proofs.Weave.Rows.{Entered as EnteredAt, Enters, AtCheck, passes, skips, calls}
use Rattle.lean.specs.Ticked.{with_count}
use Rattle.lean.proofs.Weave.Held.{ticked_of}

-- the steps of each block are counted
pub record Counts (w : World) (l : Lean) (leader : ℕ → Bool) (entries : EntriesAt w (lean_weave_of w l leader) leader) : Type 0 where
  pub each : (a : ℕ) (h : leader a ≡ true) → IsCounted l leader (record { start = a; body = (entries a h).body; end = (entries a h).end; reached = (entries a h).reached })

module _ (w : World) (l : Lean) (leader : ℕ → Bool) (x : LeanIn w l leader) (block : (a : ℕ) → leader a ≡ true → IsEntryOf w a) where
  abbrev v : Weave
  v = lean_weave_of w l leader

  -- the test has ended, in at most `most` steps and those of the sweep
  pub record Finished (u : State) (most : ℕ) : Type 0 where
    pub steps : ℕ
    pub to : State
    pub within : steps ≤ most + swept_steps w
    pub walk : Walk (Quiet w) u steps to
    pub ended : to.outcome ≡ Ended
    pub swept : Sweeps w u steps

  -- a walk of the output, on which it comes to the input's states, to where something is true of both
  pub record Way (Is : State → State → Type 0) (u s : State) (most : ℕ) : Type 0 where
    pub moves : ℕ
    pub steps : ℕ
    pub to : State
    pub within : steps ≤ most
    pub walk : Walk (Quiet w) u steps to
    pub trail : Trail w u s moves steps
    pub sourced : Sourced w (run s moves)
    pub is : Is to (run s moves)

  -- the output is at an entry, to which some way leads, with this number in x15
  pub record Entered (on : ℕ → Bool) (number : ℕ) (y t : State) : Type 0 where
    pub stands : Stands w leader y t
    pub way : on t.pc ≡ true
    pub sign : reg y SIGNATURE ≡ t.pc
    pub cursor : reg y CURSOR ≡ number

  -- to an entry, with x15 as it was
  abbrev pub Next : (ℕ → Bool) → State → State → ℕ → Type 0
  Next on u s most = Way (Entered on (reg u CURSOR)) u s most

  -- to a call of the check
  abbrev pub Called : State → State → ℕ → ℕ → Type 0
  Called u s off most = Way (λ y t. AtCheck w l leader x y t off) u s most

  -- behind a walk
  finished_on : (u y : State) (m most most' : ℕ) → Walk (Quiet w) u m y → m + most ≤ most' → Finished y most → Finished u most'
  finished_on u y m most most' a le f = record { steps = m + f.steps; to = f.to; within = omega (arith, f.within, le); walk = walk_on (Quiet w) u y f.to m f.steps a f.walk; ended = f.ended; swept = swept_on w u y m f.steps a f.swept }

  way_on : (Is : State → State → Type 0) (u y s : State) (m k most most' : ℕ) → Walk (Quiet w) u m y → Trail w u s k m → m + most ≤ most' → Way Is y (run s k) most → Way Is u s most'
  way_on Is u y s m k most most' a trail le n = record {
    moves = k + n.moves;
    steps = m + n.steps;
    to = n.to;
    within = omega (arith, n.within, le);
    walk = walk_on (Quiet w) u y n.to m n.steps a n.walk;
    trail = trail_on w u s y (run s k) k m a.ends refl trail n.moves n.steps (k + n.moves) refl n.trail;
    sourced = subst (Sourced w) (sym (run-more s k n.moves)) n.sourced;
    is = subst (Is n.to) (sym (run-more s k n.moves)) n.is;
  }

  -- a piece is steady as long as the output goes on within it
  part_steady :
      (p : List Ins) (u s : State) (rest : List Item) (room : ℕ) → PieceAt w v s.pc p → At w u (v.code.piece p s.pc ++ rest) s s → Sourced w s → Feeds w u s room
      → cost_each (both_steps l.diverse) p ≤ room → (n : ℕ) → n ≤ length p → IsSteady w.reached s n
  part_steady p u s rest room q a so f big zero le = steady_none w.reached s so.over.going
  part_steady p u s rest room q a so f big (suc n) le =
      let before = part_steady p u s rest room q a so f big n (omega (arith, le)) in
      let g = (piece_part l.diverse w p).inside n u s rest le (record { fit = q.fit; clean = (and_parts _ _ q.one).0; has = q.has; sourced = so; calm = before.no_trap }) a in
      f.more n g.steps g.is.0.trail (omega (arith, g.is.1, big))

  -- ---- a block, behind its tick, with its end at `at`
  module _ (b at : ℕ) (e : End) (leads : leader b ≡ true) (own : l.start_of e at ≡ b) where
    -- the steps from before some pieces
    abbrev rest_steps : List (List Ins) → ℕ
    rest_steps ps = body_steps l.diverse ps + leave_cost (fall_to leader) e b at

    -- the leave
    leave_through :
        (u s : State) (most : ℕ) → Met w u s → Feeds w u s (most + 1) → Parts w l leader x block u (run s (stops e)) (stops e) most (may_lead e at)
        → Next (may_lead e at) u s most ⊎ Finished u most
    leave_through u s most met feeds (inl g) = inr (record { steps = g.steps; to = g.to; within = g.within; walk = g.walk; ended = g.is.0.ended; swept = g.is.1 })
    leave_through u s most met feeds (inr (g, way)) = onward g.is where
      behind : Twice w g.to (run s (stops e)) (run s (stops e)) → g.to.outcome ≡ Going → (run s (stops e)).outcome ≡ Going → Trail w u s (stops e) g.steps
      behind h a b = let t = run s (stops e) in trail_leave w e u s g.to g.steps met g.walk.ends g.at_least (met_going w g.to t (holds_of w g.to t t h) a b)

      onward : Onward w leader (SignedAs u) (run s (stops e)) g.to → Next (may_lead e at) u s most ⊎ Finished u most
      onward (lands st sg so) = inl (record { moves = stops e; steps = g.steps; to = g.to; within = g.within; walk = g.walk; trail = behind st.halved st.over.going so.over.going; sourced = so; is = record { stands = st; way = way; sign = sg.0; cursor = sg.1 } })
      onward (is_lost going h so lacks) =
          let more = feeds.more (stops e) g.steps (behind h going so.over.going) (omega (arith, g.within)) in
          let one : suc (stops e) ≡ stops e + 1 = omega arith in
          let t = run s (stops e) in
          absurd (no_code w t so lacks (subst NotTrapped (ap (run s) one ∙ run-more s (stops e) 1 ∙ one_run t) more.no_trap))

    through :
        (ps : List (List Ins)) (u s : State) → s.pc + 4 * body_length ps ≡ at → At w u (body_of v.code ps e s.pc) s s → Sourced w s → PiecesAt w v leader ps e s.pc
        → reg u SIGNATURE ≡ b → Feeds w u s (rest_steps ps + 1) → Next (may_lead e at) u s (rest_steps ps) ⊎ Finished u (rest_steps ps)
    through [] u s here a so q sign feeds =
        let z : s.pc ≡ at = omega (arith, here) in
        let a0 : At w u (leave w.distance (before_end w.form) (fall_to leader) e (l.start_of e (s.pc + 4 * 0)) (s.pc + 4 * 0)) s s = subst (λ d. At w u (leave d (before_end w.form) (fall_to leader) e (l.start_of e (s.pc + 4 * 0)) (s.pc + 4 * 0)) s s) x.apart a in
        let a1 : At w u (leave w.distance (before_end w.form) (fall_to leader) e (l.start_of e at) at) s s = subst (λ k. At w u (leave w.distance (before_end w.form) (fall_to leader) e (l.start_of e k) k) s s) here a0 in
        let a2 : At w u (leave w.distance (before_end w.form) (fall_to leader) e b s.pc) s s = subst (λ k. At w u (leave w.distance (before_end w.form) (fall_to leader) e b k) s s) (sym z) (subst (λ k. At w u (leave w.distance (before_end w.form) (fall_to leader) e k at) s s) own a1) in
        let met = met_at w u s (leave w.distance (before_end w.form) (fall_to leader) e b s.pc) a2 so.over.going in
        let last = leave_cost (fall_to leader) e b at in
        let p = leave_row w l leader x block b leads e u s a2 so q (steady_le w.reached s (stops e) 1 (one e) (feeds.more 0 0 (trail_none w u s met) (omega arith))) sign in
        let p1 : Parts w l leader x block u (run s (stops e)) (stops e) (leave_cost (fall_to leader) e b at) (may_lead e at) = subst (λ k. Parts w l leader x block u (run s (stops e)) (stops e) (leave_cost (fall_to leader) e b k) (may_lead e k)) z p in
        subst (λ n. Next (may_lead e at) u s n ⊎ Finished u n) (zero_on last) (leave_through u s last met (feeds_less w u s (last + 1) (rest_steps [] + 1) (omega arith) feeds) p1) where
          one : (e : End) → stops e ≤ 1
          one Falls = omega arith
          one (Stops i) = omega arith

          zero_on : (n : ℕ) → n ≡ 0 + n
          zero_on n = omega arith
    through (p ∷ ps) u s here a so q sign feeds =
        let k = length p in
        let part = cost_each (both_steps l.diverse) p in
        let body = body_steps l.diverse ps in
        let last = leave_cost (fall_to leader) e b at in
        let far : s.pc + 4 * body_length (p ∷ ps) ≡ s.pc + 4 * length p + 4 * body_length ps = omega arith in
        let rest = body_of v.code ps e (s.pc + 4 * length p) in
        let a1 : At w u (v.code.piece p s.pc ++ (pieces_of v.code ps (s.pc + 4 * length p) ++ v.code.leave e (s.pc + 4 * body_length (p ∷ ps)))) s s = subst (λ l. At w u l s s) (append_assoc (v.code.piece p s.pc) (pieces_of v.code ps (s.pc + 4 * length p)) (v.code.leave e (s.pc + 4 * body_length (p ∷ ps)))) a in
        let a2 : At w u (v.code.piece p s.pc ++ rest) s s = subst (λ k. At w u (v.code.piece p s.pc ++ (pieces_of v.code ps (s.pc + 4 * length p) ++ v.code.leave e k)) s s) far a1 in
        let steady = part_steady p u s rest (rest_steps (p ∷ ps) + 1) q.0 a2 so feeds (first_of part body last) k (omega arith) in
        let calm : NotTrapped (run s (length p)) = steady.no_trap in
        let t = run s (length p) in
        let y = source_run w p k s (omega arith) q.0.fit so q.0.has calm in
        let there : t.pc ≡ s.pc + 4 * length p = y.pc in
        let row = (piece_part l.diverse w p).row u s rest (record { fit = q.0.fit; clean = (and_parts _ _ q.0.one).0; has = q.0.has; sourced = so; calm = calm }) a2 in
        let r = row.led in
        let next_pc : t.pc + 4 * body_length ps ≡ at = ap (λ k. k + 4 * body_length ps) there ∙ sym far ∙ here in
        let left : Feeds w r.to t (rest_steps ps + 1) = feeds_on w u s r.to t k r.steps (rest_steps ps + 1) r.walk.ends refl row.trail (feeds_less w u s (r.steps + (rest_steps ps + 1)) (rest_steps (p ∷ ps) + 1) (rest_of r.steps part body last r.within) feeds) in
        let more = through ps r.to t next_pc (subst (λ k. At w r.to (body_of v.code ps e k) t t) (sym there) r.at) y.sourced (subst (λ k. PiecesAt w v leader ps e k) (sym there) q.1) (r.sign ∙ sign) left in
        let sum : part + rest_steps ps ≡ rest_steps (p ∷ ps) = sums part body last in
        let on = may_lead e at in
        subst (λ n. Next (may_lead e at) u s n ⊎ Finished u n) sum
        (⊎_elim
        (λ n. inl (way_on (Entered on (reg u CURSOR)) u r.to s r.steps k (rest_steps ps) (part + rest_steps ps) r.walk row.trail (both r.steps part (rest_steps ps) r.within) (subst (λ c. Way (Entered on c) r.to t (rest_steps ps)) r.cursor n)))
        (λ f. inr (finished_on u r.to r.steps (rest_steps ps) (part + rest_steps ps) r.walk (both r.steps part (rest_steps ps) r.within) f))
        more) where
          first_of : (a b c : ℕ) → a ≤ a + b + c + 1
          first_of a b c = omega arith

          rest_of : (m a b c : ℕ) → m ≤ a → m + (b + c + 1) ≤ a + b + c + 1
          rest_of m a b c h = omega (arith, h)

          sums : (a b c : ℕ) → a + (b + c) ≡ a + b + c
          sums a b c = omega arith

          both : (m a c : ℕ) → m ≤ a → m + c ≤ a + c
          both m a c h = omega (arith, h)

  -- ---- block after block
  -- what is asked of the begin of a block: `room` steps may be counted before the count passes 2047
  pub record Begins (u s : State) (room off : ℕ) : Type 0 where
    pub stands : Stands w leader u s
    pub sourced : Sourced w s
    pub most : room ≤ l.every
    pub fifteen : reg u CURSOR ≡ with_count off (2047 - room)
    pub few : off < 2 ^ 32
    pub sign : reg u SIGNATURE ≡ s.pc
    pub cursor : IsCursor w.form.spans (first_word w.base w.form.spans + off)

  module _ (entries : EntriesAt w (lean_weave_of w l leader) leader) (counts : Counts w l leader entries) where
    -- what stands at the entry of the block
    module _ (u s : State) (room off : ℕ) (b : Begins u s room off) where
      abbrev rest : List Item
      rest = let e = entries s.pc b.stands.leads in body_of v.code e.body e.end s.pc

      enters : Enters w l leader x u s rest s.pc
      enters =
          let e = entries s.pc b.stands.leads in
          record {
            over = b.stands.over;
            halved = b.stands.halved;
            reads = subst (λ a. Reads w.form.far w.code w.entry a (v.code.enter s.pc ++ rest)) (sym b.stands.pc) e.reads.1;
            low = e.good.low;
            ticked = record { count = 2047 - room; least = least room l.every b.most; most = omega arith; offset = off; few = b.few; fifteen = b.fifteen; sign = b.sign; cursor = b.cursor };
            begins = b.stands.pc;
          } where
            least : (n m : ℕ) → n ≤ m → 2047 ≤ 2047 - n + m
            least n m h = omega (arith, h)

      -- the most steps of the block behind its entry, and where it goes on
      abbrev bound : ℕ
      bound = let e = entries s.pc b.stands.leads in body_steps l.diverse e.body + leave_cost (fall_to leader) e.end s.pc (s.pc + 4 * body_length e.body)

      abbrev on : ℕ → Bool
      on = let e = entries s.pc b.stands.leads in may_lead e.end (s.pc + 4 * body_length e.body)

      -- at most every, which is at most 2047
      room_most : room ≤ 2047
      room_most = let h = b.most in let k = x.few in omega (arith, h, k)

      -- behind the entry, from which `room` steps may be counted
      pub record Passed : Type 0 where
        pub steps : ℕ
        pub count : ℕ
        pub to : State
        pub few : steps ≤ entry_steps l.land
        pub most : count ≤ room
        pub sum : count + l.most s.pc ≤ room + owed l s.pc
        pub walk : Walk (Quiet w) u steps to
        pub at : At w to rest s s
        pub fifteen : reg to CURSOR ≡ with_count off (2047 - count)
        pub sixteen : reg to SIGNATURE ≡ s.pc

      entered :
          (least count number : ℕ) → GoesTo w u least (entry_steps l.land) (λ n y. EnteredAt w l leader x s rest s.pc n y × (reg y CURSOR ≡ with_count off number)) → number ≡ 2047 - count → count ≤ room
          → count + l.most s.pc ≤ room + owed l s.pc → Passed
      entered least count number g same most sum = record {
        steps = g.steps;
        count = count;
        to = g.to;
        few = g.within;
        most = most;
        sum = sum;
        walk = g.walk;
        at = g.is.0.0;
        fifteen = g.is.1 ∙ ap (with_count off) same;
        sixteen = (ticked_of l.every w g.to s.pc g.is.0.1).sign;
      }

      -- where its tick passes
      passed : l.ticks s.pc ≡ true → l.most s.pc ≤ room → Passed
      unfolding enters
      passed has le = entered (entry_steps l.land) (room - l.most s.pc) (2047 - room + l.most s.pc) (passes w l leader x u s rest s.pc enters has (fits room (l.most s.pc) room_most le)) (same room (l.most s.pc) room_most le) (omega arith) (omega (arith, le)) where
        fits : (n m : ℕ) → n ≤ 2047 → m ≤ n → 2047 - n + m ≤ 2047
        fits n m h k = omega (arith, h, k)

        same : (n m : ℕ) → n ≤ 2047 → m ≤ n → 2047 - n + m ≡ 2047 - (n - m)
        same n m h k = omega (arith, h, k)

      -- or it has none
      skipped : l.ticks s.pc ≡ false → Passed
      unfolding enters
      skipped none =
          let all : owed l s.pc ≡ l.most s.pc = ap (λ t. cond {A = ℕ} t 0 (l.most s.pc)) none in
          entered 0 room (2047 - room) (skips w l leader x u s rest s.pc enters none) refl (omega arith) (omega (arith, all))

      -- to the next block, or to the end
      onward : (p : Passed) → Feeds w p.to s (bound + 1) → Next on p.to s bound ⊎ Finished p.to bound
      onward p feeds =
          let e = entries s.pc b.stands.leads in
          let own = eqb-true (l.start_of e.end (s.pc + 4 * body_length e.body)) s.pc (and_parts _ _ e.good.own).0 in
          through s.pc (s.pc + 4 * body_length e.body) e.end b.stands.leads own e.body p.to s refl p.at b.sourced e.good.pieces p.sixteen feeds

      -- its steps are counted, with those to the next tick
      owing : (t : ℕ) → on t ≡ true → entry_steps l.land + bound + owed l t ≤ l.most s.pc
      owing t way = (counts.each s.pc b.stands.leads).1 t way

      -- where it goes to the check
      pub called : l.ticks s.pc ≡ true → l.most s.pc ≤ 2047 → suc room ≤ l.most s.pc → (most : ℕ) → entry_steps l.land + call_steps l.land ≤ most → Called u s off most
      unfolding enters
      called has small ge most le =
          let c = calls w l leader x u s rest enters b.stands.leads has (over room (l.most s.pc) room_most ge) small in
          record {
            moves = 0;
            steps = entry_steps l.land + call_steps l.land;
            to = c.0;
            within = le;
            walk = c.1;
            trail = met_same w (run u (entry_steps l.land + call_steps l.land)) c.0 s s c.1.ends refl (met_going w c.0 s (holds_of w c.0 s s c.2.halved) c.2.over.going b.sourced.over.going);
            sourced = subst (Sourced w) (sym (none_run s)) b.sourced;
            is = subst (λ t. AtCheck w l leader x c.0 t off) (sym (none_run s)) c.2;
          } where
            over : (n m : ℕ) → n ≤ 2047 → suc n ≤ m → 2048 ≤ 2047 - n + m
            over n m h k = omega (arith, h, k)

    -- ---- sums of to_check
    fewer_left : (n m k o e b f : ℕ) → n + m ≤ k → suc k ≤ suc f → e + b + o ≤ m → 3 ≤ e → suc (n + o) ≤ f
    fewer_left n m k o e b f h l1 c three = omega (arith, h, l1, c, three)

    all_steps : (n m k o e b first steps : ℕ) → n + m ≤ k → e + b + o ≤ m → first ≤ e → steps ≤ b → first + steps + (n + o) ≤ k
    all_steps n m k o e b first steps h c few within = omega (arith, h, c, few, within)

    and_entry : (a n o k e : ℕ) → a + (n + o) ≤ k → a + (n + o + e) ≤ k + e
    and_entry a n o k e h = omega (arith, h)

    last_steps : (n m k e b first : ℕ) → n + m ≤ k → e + b ≤ m → first ≤ e → first + b ≤ k
    last_steps n m k e b first h c few = omega (arith, h, c, few)

    one_more : (a b k : ℕ) → a + b ≤ k → a + (b + 1) ≤ k + 1
    one_more a b k h = omega (arith, h)

    -- ---- from any block to the next call of the check, or to the end of the test
    -- the steps that may be counted, and those that the last tick has counted
    abbrev pub ahead : State → ℕ → ℕ
    ahead s room = room + owed l s.pc

    -- the entry that goes to the check
    abbrev pub calling : ℕ
    calling = entry_steps l.land + call_steps l.land

    -- to the check or the end, from a later entry
    abbrev Rest : ℕ → ℕ → Type 0
    Rest fuel off = (y t : State) (n : ℕ) → Begins y t n off → suc (ahead t n) ≤ fuel → Feeds w y t (ahead t n + 1) → Called y t off (ahead t n + calling) ⊎ Finished y (ahead t n)

    pub to_check : (fuel : ℕ) (u s : State) (room off : ℕ) → suc (ahead s room) ≤ fuel → Begins u s room off → Feeds w u s (ahead s room + 1) → Called u s off (ahead s room + calling) ⊎ Finished u (ahead s room)
    to_check zero u s room off l1 b feeds = absurd (nothing (ahead s room) l1) where
      nothing : (n : ℕ) → suc n ≤ 0 → ⊥
      nothing n h = omega (arith, h)
    to_check (suc fuel) u s room off l1 b feeds = by (λ y t n c k f. to_check fuel y t n off k c f) (l.ticks s.pc) refl where
      small : l.most s.pc ≤ 2047
      small = fewer (l.most s.pc) l.every (x.ticks s.pc b.stands.leads) x.few where
        fewer : (m n : ℕ) → m < n → n ≤ 2047 → m ≤ 2047
        fewer m n h k = omega (arith, h, k)

      first_call : (n o e : ℕ) → e ≤ n + o + e
      first_call n o e = omega arith

      on_from : Rest fuel off → Passed u s room off b → Called u s off (ahead s room + calling) ⊎ Finished u (ahead s room)
      on_from rec p =
          let far = bound u s room off b in
          let end = last_steps p.count (l.most s.pc) (ahead s room) (entry_steps l.land) far p.steps p.sum (counts.each s.pc b.stands.leads).0 p.few in
          ⊎_elim
          (λ n.
          let t = run s n.moves in
          let o = owing u s room off b t.pc n.is.way in
          let sum = all_steps p.count (l.most s.pc) (ahead s room) (owed l t.pc) (entry_steps l.land) far p.steps n.steps p.sum o p.few n.within in
          let w2 = walk_on (Quiet w) u p.to n.to p.steps n.steps p.walk n.walk in
          let trail = trail_first w u p.to s p.steps p.walk.ends n.moves n.steps n.trail in
          let c = rec n.to t p.count (record {
            stands = n.is.stands;
            sourced = n.sourced;
            most = less p.count room l.every p.most b.most;
            fifteen = n.is.cursor ∙ p.fifteen;
            few = b.few;
            sign = n.is.sign;
            cursor = b.cursor;
          }) (fewer_left p.count (l.most s.pc) (ahead s room) (owed l t.pc) (entry_steps l.land) far fuel p.sum l1 o (entry_some l.land))
          (feeds_on w u s n.to t n.moves (p.steps + n.steps) (ahead t p.count + 1) w2.ends refl trail (feeds_less w u s (p.steps + n.steps + (ahead t p.count + 1)) (ahead s room + 1) (one_more (p.steps + n.steps) (ahead t p.count) (ahead s room) sum) feeds)) in
          ⊎_elim
          (λ d. inl (way_on (λ y t. AtCheck w l leader x y t off) u n.to s (p.steps + n.steps) n.moves (ahead t p.count + calling) (ahead s room + calling) w2 trail (and_entry (p.steps + n.steps) p.count (owed l t.pc) (ahead s room) calling sum) d))
          (λ f. inr (finished_on u n.to (p.steps + n.steps) (ahead t p.count) (ahead s room) w2 sum f))
          c)
          (λ f. inr (finished_on u p.to p.steps far (ahead s room) p.walk end f))
          (onward u s room off b p (feeds_first w u s p.to p.steps (far + 1) p.walk.ends (feeds_less w u s (p.steps + (far + 1)) (ahead s room + 1) (one_more p.steps far (ahead s room) end) feeds))) where
            less : (a b c : ℕ) → a ≤ b → b ≤ c → a ≤ c
            less a b c h k = omega (arith, h, k)

      by : Rest fuel off → (t : Bool) → l.ticks s.pc ≡ t → Called u s off (ahead s room + calling) ⊎ Finished u (ahead s room)
      by rec false none = on_from rec (skipped u s room off b none)
      by rec true has =
          ⊎_elim
          (λ lt. inl (called u s room off b has small lt (ahead s room + calling) (first_call room (owed l s.pc) calling)))
          (λ le. on_from rec (passed u s room off b has le))
          (cases_lt room (l.most s.pc))
