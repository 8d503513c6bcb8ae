-- The lean form meets the laws of the rows, so it keeps the values.
use Rattle.std.proofs.Common.{◌≡◌, ℕ, ◌+◌, ◌-◌, ◌*◌, ◌^◌, ◌<◌, ◌≤◌, ⊎_elim, Bool, true, false, List, [], ◌∷◌, ◌++◌, length, refl, sym, ap, ◌∙◌, subst, arith, cond}
use Rattle.std.specs.Prelude.{pos}
use Rattle.std.proofs.lemmas.Bool.{and_parts, leb-true, cases_lt, false≢true}
use Rattle.std.proofs.Math.Nat.{mul-le-mul_left}
use Rattle.machine.specs.Table.{ins, Ins, Beq}
use Rattle.qed_model.specs.Promise.Kept.{NotTrapped}
use Rattle.machine.specs.Offsets.{distance_between}
use Rattle.qed_model.specs.Weave.Sequences.{Reads, CURSOR, SIGNATURE, TEMPORARY}
use Rattle.weave_core.specs.World.{World, Quiet, Twice, IsCursor, words_on, Item, State, reg, moved, run}
use Rattle.weave_core.specs.Rows.{At, Sourced}
use Rattle.weave_core.specs.Weave.{Weave}
use Rattle.weave_core.specs.WeaveLaws.{PieceAt, Stands, GoesTo, Inside, Trail}
use Rattle.lean.specs.Ticked.{with_count, is_ticked_at}
use Rattle.qed_model.specs.Weave.LeanBounds.{cost_of, entry_steps, call_steps}
use Rattle.qed_model.specs.Weave.Lean.{first_word, tick, enter, call_at, check}
use Rattle.qed_model.specs.Weave.LeanCode.{Lean}
use Rattle.lean.specs.Woven.{check_steps, lean_weave_of, LeanIn}
use Rattle.lean.proofs.Weave.Carry.{Over, over_moved, Walk, walk_none, walk_on, writes, halved_writes, words_within}
use Rattle.lean.proofs.Weave.Chain.{read_back, all_temps}
use Rattle.lean.proofs.Weave.Check.{Back, check_row}
use Rattle.lean.proofs.Weave.Held.{Ticked, ticked_of, ticked_is, ticked_same}
use Rattle.lean.proofs.Weave.Piece.{piece_part}
use Rattle.lean.proofs.Weave.Sign.{passes as sign_passes}
use Rattle.lean.proofs.Weave.Tick.{shifted, jump_at, count_sum, low_bit, high_bit, pass_row, call_row}

module _ (w : World) (l : Lean) (leader : ℕ → Bool) (x : LeanIn w l leader) where
  abbrev v : Weave
  v = lean_weave_of w l leader

  -- ---- the entry
  -- the words of the tick of a block, whose jump leads to the check from an address
  abbrev tick_from : ℕ → Bool → ℕ → List Item
  tick_from a land p = cond (l.ticks a) (tick land a (l.most a) (distance_between p l.check)) []

  -- at the begin of a block, with what holds there
  pub record Enters (u s : State) (rest : List Item) (a : ℕ) : Type 0 where
    pub over : Over w.code u
    pub halved : Twice w u s s
    pub reads : Reads w.form.far w.code w.entry u.pc (enter l.land (l.ticks a) a (l.most a) (distance_between (w.entry a + call_at l.land) l.check) ++ rest)
    pub low : a < 2 ^ 64
    pub ticked : Ticked l.every w u a
    pub begins : u.pc ≡ w.entry a

  -- behind the entry
  abbrev pub Entered : State → List Item → ℕ → ℕ → State → Type 0
  Entered s rest a n y = At w y rest s s × (is_ticked_at l.every w y a ≡ true)

  -- behind the test of the signature, if there is one
  record AtTick (u s : State) (rest : List Item) (a : ℕ) (land : Bool) : Type 0 where
    steps : ℕ
    count : steps + 3 ≡ entry_steps land
    to : State
    walk : Walk (Quiet w) u steps to
    over : Over w.code to
    halved : Twice w to s s
    reads : Reads w.form.far w.code w.entry to.pc (tick_from a land (to.pc + jump_at land) ++ rest)
    fifteen : reg to CURSOR ≡ reg u CURSOR
    sixteen : reg to SIGNATURE ≡ reg u SIGNATURE
    named : land ≡ true → reg to TEMPORARY ≡ a

  at_tick : (u s : State) (rest : List Item) (a : ℕ) → Enters u s rest a → AtTick u s rest a l.land
  at_tick u s rest a e = by l.land e.reads where
    by : (land : Bool) → Reads w.form.far w.code w.entry u.pc (enter land (l.ticks a) a (l.most a) (distance_between (w.entry a + call_at land) l.check) ++ rest) → AtTick u s rest a land
    by true r =
        let long = e.halved.output.regs in
        let p = sign_passes w u a (tick_from a true (w.entry a + 28) ++ rest) e.low e.over long r e.ticked.sign in
        let ws : List (ℕ × ℕ) = (30, a) ∷ [] in
        let place : w.entry a + 28 ≡ u.pc + 16 + 12 = omega (arith, e.begins) in
        record {
          steps = 3;
          count = refl;
          to = moved (writes ws u.regs) (u.pc + 16) u;
          walk = p.walk;
          over = over_moved w.code u (writes ws u.regs) (u.pc + 16) e.over;
          halved = halved_writes w u s s ws (u.pc + 16) (all_temps ws refl) e.halved;
          reads = subst (λ k. Reads w.form.far w.code w.entry (u.pc + 16) (tick_from a true k ++ rest)) place p.reads;
          fifteen = read_back ws u.regs 15 long refl;
          sixteen = read_back ws u.regs 16 long refl;
          named = λ t. read_back ws u.regs 30 long refl;
        }
    by false r =
        let place : w.entry a + 20 ≡ u.pc + 20 = ap (λ p. p + 20) (sym e.begins) in
        record {
          steps = 0;
          count = refl;
          to = u;
          walk = walk_none (Quiet w) u;
          over = e.over;
          halved = e.halved;
          reads = subst (λ k. Reads w.form.far w.code w.entry u.pc (tick_from a false k ++ rest)) place r;
          fifteen = refl;
          sixteen = refl;
          named = λ t. absurd (false≢true t);
        }

  -- where a tick stands
  at_its : (p a k : ℕ) (rest : List Item) → l.ticks a ≡ true → Reads w.form.far w.code w.entry p (tick_from a l.land k ++ rest) → Reads w.form.far w.code w.entry p (tick l.land a (l.most a) (distance_between k l.check) ++ rest)
  at_its p a k rest t r = subst (λ b. Reads w.form.far w.code w.entry p (cond b (tick l.land a (l.most a) (distance_between k l.check)) [] ++ rest)) t r

  -- where none stands nothing is counted
  pub skips :
      (u s : State) (rest : List Item) (a : ℕ) (e : Enters u s rest a) → l.ticks a ≡ false
      → GoesTo w u 0 (entry_steps l.land) (λ n y. Entered s rest a n y × (reg y CURSOR ≡ with_count e.ticked.offset e.ticked.count))
  skips u s rest a e none =
      let t = e.ticked in
      let x0 = at_tick u s rest a e in
      let fifteen = x0.fifteen ∙ t.fifteen in
      record {
        steps = x0.steps;
        to = x0.to;
        at_least = omega arith;
        within = omega (arith, x0.count);
        walk = x0.walk;
        is = (
          (
            record { over = x0.over; reads = subst (λ b. Reads w.form.far w.code w.entry x0.to.pc (cond b (tick l.land a (l.most a) (distance_between (x0.to.pc + jump_at l.land) l.check)) [] ++ rest)) none x0.reads; halved = x0.halved },
            ticked_is l.every w x0.to a t.offset t.count fifteen t.least t.most t.few (x0.sixteen ∙ t.sign) t.cursor,
          ),
          fifteen,
        );
      }

  -- where the count does not pass 2047 the tick passes
  pub passes :
      (u s : State) (rest : List Item) (a : ℕ) (e : Enters u s rest a) → l.ticks a ≡ true → e.ticked.count + l.most a ≤ 2047
      → GoesTo w u (entry_steps l.land) (entry_steps l.land) (λ n y. Entered s rest a n y × (reg y CURSOR ≡ with_count e.ticked.offset (e.ticked.count + l.most a)))
  passes u s rest a e has le =
      let t = e.ticked in
      let most = l.most a in
      let x0 = at_tick u s rest a e in
      let v = x0.to in
      let long = x0.halved.output.regs in
      let p = pass_row w v most (with_count t.offset (t.count + most)) x0.over long x0.halved.output.zero_reg (count_sum (reg v CURSOR) t.offset t.count most (x0.fifteen ∙ t.fifteen) t.most t.few (omega (arith, le))) l.land a rest (distance_between (v.pc + jump_at l.land) l.check) (low_bit t.offset (t.count + most) le) (at_its v.pc a (v.pc + jump_at l.land) rest has x0.reads) in
      let c = with_count t.offset (t.count + most) in
      let ws : List (ℕ × ℕ) = (15, c) ∷ (31, shifted c) ∷ [] in
      let y = moved (writes ws v.regs) p.pc v in
      let here : reg y CURSOR ≡ c = read_back ws v.regs 15 long refl in
      let keeps : reg y SIGNATURE ≡ a = read_back ws v.regs 16 long refl ∙ x0.sixteen ∙ t.sign in
      record {
        steps = x0.steps + 3;
        to = y;
        at_least = omega (arith, x0.count);
        within = omega (arith, x0.count);
        walk = walk_on (Quiet w) u v y x0.steps 3 x0.walk p.walk;
        is = (
          (
            record { over = over_moved w.code v (writes ws v.regs) p.pc x0.over; reads = p.reads; halved = halved_writes w v s s ws p.pc (all_temps ws refl) x0.halved },
            ticked_is l.every w y a t.offset (t.count + most) here (more t.count most t.least) le t.few keeps t.cursor,
          ),
          here,
        );
      } where
        more : (n m : ℕ) → 2047 ≤ n + l.every → 2047 ≤ n + m + l.every
        more n m h = omega (arith, h)

  -- before the check, to which the tick of the block goes that begins at the input's pc
  pub record AtCheck (y s : State) (off : ℕ) : Type 0 where
    pub over : Over w.code y
    pub halved : Twice w y s s
    pub pc : y.pc ≡ l.check
    pub leads : leader s.pc ≡ true
    pub ticked : l.ticks s.pc ≡ true
    pub few : off < 2 ^ 32
    pub cursor : IsCursor w.form.spans (first_word w.base w.form.spans + off)
    pub count : ℕ
    pub below : count < 4096
    pub fifteen : reg y CURSOR ≡ with_count off count
    pub sign : reg y SIGNATURE ≡ s.pc
    pub named : reg y TEMPORARY ≡ s.pc

  -- where it passes 2047 the tick goes to the check
  pub calls :
      (u s : State) (rest : List Item) (e : Enters u s rest s.pc) → leader s.pc ≡ true → l.ticks s.pc ≡ true → 2048 ≤ e.ticked.count + l.most s.pc → l.most s.pc ≤ 2047
      → (y : State) × Walk (Quiet w) u (entry_steps l.land + call_steps l.land) y × AtCheck y s e.ticked.offset
  calls u s rest e leads has ge small =
      let t = e.ticked in
      let most = l.most s.pc in
      let x0 = at_tick u s rest s.pc e in
      let v = x0.to in
      let long = x0.halved.output.regs in
      let first = ins Beq 0 SIGNATURE TEMPORARY (pos 8) in
      let near = w.low l.check first x.check.0 in
      let sign = x0.sixteen ∙ t.sign in
      let c = call_row w v most (with_count t.offset (t.count + most)) x0.over long x0.halved.output.zero_reg (count_sum (reg v CURSOR) t.offset t.count most (x0.fifteen ∙ t.fifteen) t.most t.few small) l.land s.pc l.check rest (high_bit t.offset (t.count + most) ge (omega (arith, t.most, small))) e.low x0.named (omega (arith, near)) (w.grain l.check first x.check.0) (at_its v.pc s.pc (v.pc + jump_at l.land) rest has x0.reads) in
      let y = moved (writes c.effects v.regs) l.check v in
      let count : x0.steps + (3 + call_steps l.land) ≡ entry_steps l.land + call_steps l.land = omega (arith, x0.count) in (
        y,
        subst (λ n. Walk (Quiet w) u n y) count (walk_on (Quiet w) u v y x0.steps (3 + call_steps l.land) x0.walk c.walk),
        record {
          over = over_moved w.code v (writes c.effects v.regs) l.check x0.over;
          halved = halved_writes w v s s c.effects l.check c.temps x0.halved;
          pc = refl;
          leads = leads;
          ticked = has;
          few = t.few;
          cursor = t.cursor;
          count = t.count + most;
          below = omega (arith, t.most, small);
          fifteen = c.fifteen;
          sign = c.sixteen ∙ sign;
          named = c.thirty;
        },
      )

  -- the check leads back to the entry
  pub checks : (y s : State) (off : ℕ) → AtCheck y s off → Back w leader y s s.pc off l.every w.form.round
  checks y s off c =
      check_row w leader x.small y s s.pc off c.count l.every w.form.round (x.table s.pc c.leads) (x.known s.pc c.leads) c.leads x.few c.over c.halved (subst (λ p. Reads w.form.far w.code w.entry p (check w.base w.distance l.every w.form.round w.form.spans)) (sym c.pc) x.check) refl c.few c.cursor c.fifteen c.below c.sign c.named

  -- back from the check it passes
  again :
      (u s : State) (rest : List Item) (e : Enters u s rest s.pc) → (to : State) × Walk (Quiet w) u (entry_steps l.land + call_steps l.land) to × AtCheck to s e.ticked.offset
      → GoesTo w u 0 (2 * entry_steps l.land + (call_steps l.land + check_steps w)) (λ n y. Entered s rest s.pc n y)
  again u s rest e c =
      let a = s.pc in
      let b = checks c.0 s e.ticked.offset c.2 in
      let t = e.ticked in
      let same : b.to.pc ≡ w.entry a = b.stands.pc in
      let f : Enters b.to s rest a = record {
        over = b.stands.over;
        halved = b.stands.halved;
        reads = subst (λ p. Reads w.form.far w.code w.entry p (enter l.land (l.ticks a) a (l.most a) (distance_between (w.entry a + call_at l.land) l.check) ++ rest)) (e.begins ∙ sym same) e.reads;
        low = e.low;
        begins = same;
        ticked = record { count = 2047 - l.every; least = omega (arith, x.few); most = omega arith; offset = b.next; few = b.few; fifteen = b.counter; sign = b.sign; cursor = subst (IsCursor w.form.spans) (sym b.word) (words_in t.offset t.cursor) };
      } in
      let g = passes b.to s rest a f c.2.ticked (room (l.most a) l.every (x.ticks a c.2.leads) x.few) in
      record {
        steps = entry_steps l.land + call_steps l.land + (b.steps + g.steps);
        to = g.to;
        at_least = omega arith;
        within = all_in b.steps g.steps b.within g.within;
        walk = walk_on (Quiet w) u c.0 g.to (entry_steps l.land + call_steps l.land) (b.steps + g.steps) c.1 (walk_on (Quiet w) c.0 b.to g.to b.steps g.steps b.walk g.walk);
        is = g.is.0;
      } where
        words_in : (k : ℕ) → IsCursor w.form.spans (first_word w.base w.form.spans + k) → IsCursor w.form.spans (words_on w.form.spans w.form.round (first_word w.base w.form.spans + k))
        words_in k c = words_within w.form.spans w.base w.form.round (first_word w.base w.form.spans + k) w.spans_good c

        room : (m n : ℕ) → m < n → n ≤ 2047 → 2047 - n + m ≤ 2047
        room m n h k = omega (arith, h, k)

        all_in : (m n : ℕ) → m ≤ check_steps w → n ≤ entry_steps l.land → entry_steps l.land + call_steps l.land + (m + n) ≤ 2 * entry_steps l.land + (call_steps l.land + check_steps w)
        all_in m n h k = omega (arith, h, k)

  -- any entry
  pub enter_law :
      (u s : State) (rest : List Item) → Stands w leader u s → is_ticked_at l.every w u s.pc ≡ true → s.pc < 2 ^ 64
      → Reads w.form.far w.code w.entry u.pc (enter l.land (l.ticks s.pc) s.pc (l.most s.pc) (distance_between (w.entry s.pc + call_at l.land) l.check) ++ rest) → GoesTo w u 0 (2 * entry_steps l.land + (call_steps l.land + check_steps w)) (λ n y. Entered s rest s.pc n y)
  enter_law u s rest st held low r =
      let a = s.pc in
      let e : Enters u s rest a = record { over = st.over; halved = st.halved; reads = r; low = low; ticked = ticked_of l.every w u a held; begins = st.pc } in
      by e (fewer (l.most a) l.every (x.ticks a st.leads) x.few) (l.ticks a) refl where
        fewer : (m n : ℕ) → m < n → n ≤ 2047 → m ≤ 2047
        fewer m n h k = omega (arith, h, k)

        two : (n : ℕ) → n ≤ entry_steps l.land → n ≤ 2 * entry_steps l.land + (call_steps l.land + check_steps w)
        two n h = omega (arith, h)

        by : Enters u s rest s.pc → l.most s.pc ≤ 2047 → (b : Bool) → l.ticks s.pc ≡ b → GoesTo w u 0 (2 * entry_steps l.land + (call_steps l.land + check_steps w)) (λ n y. Entered s rest s.pc n y)
        by e small false none = let g = skips u s rest s.pc e none in record { steps = g.steps; to = g.to; at_least = g.at_least; within = two g.steps g.within; walk = g.walk; is = g.is.0 }
        by e small true has =
            ⊎_elim
            (λ lt. again u s rest e (calls u s rest e st.leads has lt small))
            (λ ge. let g = passes u s rest s.pc e has ge in record { steps = g.steps; to = g.to; at_least = omega arith; within = two g.steps g.within; walk = g.walk; is = g.is.0 })
            (cases_lt 2047 (e.ticked.count + l.most s.pc))

  -- ---- pieces
  -- in a piece that fits
  most_of : (is : List Ins) → v.fits is ≡ true → cost_of l.diverse * length is ≤ cost_of l.diverse * l.inst_max
  most_of is fits = mul-le-mul_left (cost_of l.diverse) (leb-true (length is) l.inst_max (and_parts _ _ fits).1)

  pub piece_law :
      (is : List Ins) (b : ℕ) (u s : State) (rest : List Item) → is_ticked_at l.every w u b ≡ true → PieceAt w v s.pc is → At w u (v.code.piece is s.pc ++ rest) s s → Sourced w s
      → NotTrapped (run s (length is)) → GoesTo w u (length is) (cost_of l.diverse * l.inst_max) (λ n y. At w y rest (run s (length is)) (run s (length is)) × (is_ticked_at l.every w y b ≡ true) × Trail w u s (length is) n)
  piece_law is b u s rest held p a so calm =
      let k = piece_part l.diverse w is in
      let r = k.row u s rest (record { fit = p.fit; clean = (and_parts _ _ p.one).0; has = p.has; sourced = so; calm = calm }) a in
      let g = r.led in
      let most = most_of is p.one in
      record { steps = g.steps; to = g.to; at_least = g.at_least; within = omega (arith, g.within, k.few, most); walk = g.walk; is = (g.at, ticked_same l.every w u g.to b g.cursor g.sign held, r.trail) }

  pub inside_law :
      (is : List Ins) (n : ℕ) (u s : State) (rest : List Item) → n < length is → PieceAt w v s.pc is → At w u (v.code.piece is s.pc ++ rest) s s → Sourced w s → NotTrapped (run s n)
      → GoesTo w u n (cost_of l.diverse * l.inst_max) (λ k y. Inside w u s n k y × (k < cost_of l.diverse * l.inst_max))
  inside_law is n u s rest lt p a so calm =
      let k = piece_part l.diverse w is in
      let g = k.inside n u s rest lt (record { fit = p.fit; clean = (and_parts _ _ p.one).0; has = p.has; sourced = so; calm = calm }) a in
      let most = most_of is p.one in
      record { steps = g.steps; to = g.to; at_least = g.at_least; within = omega (arith, g.is.1, k.few, most); walk = g.walk; is = (g.is.0, omega (arith, g.is.1, k.few, most)) }
