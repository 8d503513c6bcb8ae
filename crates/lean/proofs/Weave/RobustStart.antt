-- What runs first, with changes and a slip: at the test's entry the original half has the input's first state.
use Rattle.std.proofs.Common.{◌≡◌, ℕ, zero, suc, ◌+◌, ◌%◌, ◌^◌, ◌<◌, ◌≤◌, ◌⊎◌, inl, inr, ⊎_elim, Bool, true, false, List, [], ◌∷◌, ◌++◌, length, refl, sym, ap, ◌∙◌, subst, arith}
use Rattle.std.specs.Prelude.{ℤ, pos, slice_index, slice_set, replicate}
use Rattle.std.proofs.lemmas.Bool.{cases_eq}
use Rattle.std.proofs.lemmas.List.{length-set}
use Rattle.rv_isa.specs.declared.class.Class.TheVariants as class
use Rattle.machine.specs.Offsets.{distance_between, upper_part, lower_part}
use Rattle.machine.specs.Table.{ins, Ins, Auipc, Addi, Jal, Lui}
use Rattle.qed_model.specs.Weave.Lean.{begin}
use Rattle.qed_model.specs.Weave.Sequences.{Reads, zero_from, ORIGINALS, LAST_ORIGINAL, DISTANCE, CURSOR, SIGNATURE}
use Rattle.weave_core.specs.Blocks.{IsEntryOf}
use Rattle.weave_core.specs.Describes.{Describes}
use Rattle.weave_core.specs.World.{World, Item, Plain, Constant, Go, Program, Going, Known, start, zeros, AreStartRegs, State, reg, set_reg, moved, jumped, wrapped, computed_value, result, step, class_of, byte_at, get, flags_at}
use Rattle.lean.specs.Strayed.{Stopped}
use Rattle.lean.specs.Undisturbed.{IsDuplicateReg, slip_steps}
use Rattle.lean.proofs.Weave.Carry.{writes_out, writes_long, slice_index-set_reg_other, slice_index-set_reg_same, Over, over_moved, known_at, addi_value, constant_value, difference, writes, first_sourced, jumped_to, length-set_reg, slice_index-set_reg_zero, Standing, step-jump}
use Rattle.lean.proofs.Weave.Chain.{read_back}
use Rattle.lean.proofs.Weave.Half.{Half}
use Rattle.lean.proofs.Weave.Robust.{Begun, Disturbed, Recovers, Slip, set_disturbed, half_disturbed, Every, With, Lasts, Before_words, over_disturbed, computes, every_plain, leads_compute, leads_constant, lui_small, mends, mends_gives, mends_own, same_word, slip_gives, stopped_more, stopped_step}
use Rattle.lean.proofs.Weave.Skipped.{Loses, lost_steps}

-- a start has 0 in x0, and the input in all registers
set_first : (xs : List ℕ) → slice_index (slice_set xs 0 0) 0 ≡ 0
set_first [] = refl
set_first (x ∷ xs) = refl

zeros_zero : (n r : ℕ) → slice_index (replicate n 0) r ≡ 0
zeros_zero zero r = refl
zeros_zero (suc n) zero = refl
zeros_zero (suc n) (suc r) = zeros_zero n r

-- registers of writes are registers
abbrev AreRegs : List (ℕ × ℕ) → Type 0
AreRegs [] = Unit {0}
AreRegs (x ∷ xs) = (x.0 < 32) × AreRegs xs

-- the word that sets the count
abbrev pub counter : Ins
counter = ins Addi CURSOR 0 0 (pos 2047)

-- some registers are set to 0, and what follows
abbrev pub zeros_of : ℕ → ℕ → List (ℕ × ℕ) → List (ℕ × ℕ)
zeros_of r zero ws = ws
zeros_of r (suc n) ws = (r, 0) ∷ zeros_of (r + 1) n ws

-- what is written behind x1 to x13 and their pairs
abbrev pub last_writes : World → ℕ → List (ℕ × ℕ)
last_writes w a = (14, w.distance) ∷ (16, a) ∷ (15, 2047) ∷ []

abbrev pub all_writes : World → ℕ → List (ℕ × ℕ)
all_writes w a = zeros_of 1 ORIGINALS (zeros_of 17 ORIGINALS (last_writes w a))

-- behind both words of a constant
eight : (n : ℕ) → n + 8 ≡ n + 4 + 4
eight n = omega arith

module _ (w : World) (s : State) (a : ℕ) where
  -- behind these writes the original half has the values of s
  pub record Awaits (ws : List (ℕ × ℕ)) (u : State) : Type 0 where
    pub over : Over w.code u
    pub long : length u.regs ≡ 32
    pub zero_reg : reg u 0 ≡ 0
    pub half : (p : ℕ) → Half w a s (moved (writes ws u.regs) p u)

  writes_disturbed : (ws : List (ℕ × ℕ)) (p : ℕ) (u v : State) → AreRegs ws → Disturbed w u v → Disturbed w (moved (writes ws u.regs) p u) (moved (writes ws v.regs) p v)
  writes_disturbed [] p u v k d = record { before = d.before; going = d.going; pc = refl; long = d.long; count = d.count; low = d.low; sign = d.sign; thirty = d.thirty; last = d.last; code = d.code; flags = d.flags; cells = d.cells }
  writes_disturbed (x ∷ xs) p u v k d = writes_disturbed xs p (moved (set_reg x.0 x.1 u.regs) p u) (moved (set_reg x.0 x.1 v.regs) p v) k.1 (set_disturbed w x.0 x.1 p u v k.0 d)

  module _ (bound price : ℕ) where
    pub awaits_last : (ws : List (ℕ × ℕ)) → AreRegs ws → Lasts w bound price (Awaits ws)
    awaits_last ws k u v h d = record {
      over = over_disturbed w u v h.over d;
      long = d.count;
      zero_reg = d.low 0 (omega arith) ∙ h.zero_reg;
      half = λ p. half_disturbed w a s (moved (writes ws u.regs) p u) (moved (writes ws v.regs) p v) (h.half p) (writes_disturbed ws p u v k d);
    }

  -- a register is set
  pub awaits_set : (r v p : ℕ) (ws : List (ℕ × ℕ)) (u : State) → Awaits ((r, v) ∷ ws) u → Awaits ws (moved (set_reg r v u.regs) p u)
  awaits_set r v p ws u h = record { over = over_moved w.code u (set_reg r v u.regs) p h.over; long = length-set_reg u.regs r v ∙ h.long; zero_reg = slice_index-set_reg_zero u.regs r v ∙ h.zero_reg; half = λ q. h.half q }

  -- ---- slips
  -- u goes on, and stands in the output
  abbrev Stands : State → Type 0
  Stands u = (u.outcome ≡ Going) × Standing w.code w.output u

  awaits_stands : (ws : List (ℕ × ℕ)) (u : State) → Awaits ws u → Stands u
  awaits_stands ws u h = (h.over.going, record { code = h.over.code; flagged = record { flags = (h.half 0).standing.flagged.flags; regs = h.long; zero_reg = h.zero_reg } })

  -- with another register, and without it
  stands_set : (r x p : ℕ) (u : State) → Stands u → Stands (moved (set_reg r x u.regs) p u)
  stands_set r x p u h = (h.0, record { code = h.1.code; flagged = record { flags = h.1.flagged.flags; regs = length-set_reg u.regs r x ∙ h.1.flagged.regs; zero_reg = slice_index-set_reg_zero u.regs r x ∙ h.1.flagged.zero_reg } })

  stands_unset : (r x p : ℕ) (u : State) → Stands (moved (set_reg r x u.regs) p u) → Stands u
  stands_unset r x p u h = (h.0, record { code = h.1.code; flagged = record { flags = h.1.flagged.flags; regs = sym (length-set_reg u.regs r x) ∙ h.1.flagged.regs; zero_reg = sym (slice_index-set_reg_zero u.regs r x) ∙ h.1.flagged.zero_reg } })

  stands_over : (u : State) → Stands u → Over w.code u
  stands_over u h = record { going = h.0; code = h.1.code }

  -- a register that changes reach gets another number
  any_disturbed : (r v x p : ℕ) (ws : List (ℕ × ℕ)) (u : State) → IsDuplicateReg r → Awaits ws u → Disturbed w (moved (set_reg r v u.regs) p u) (moved (set_reg r x u.regs) p u)
  any_disturbed r v x p ws u dup h = record {
    before = h.over.going;
    going = h.over.going;
    pc = refl;
    long = length-set_reg u.regs r v ∙ h.long;
    count = length-set_reg u.regs r x ∙ h.long;
    low = λ q l. alike q (λ e. ⊎_elim (λ f. absurd (omega (arith, e, f, l))) (λ f. let g = f.0 in absurd (omega (arith, e, g, l))) dup);
    sign = alike 16 (λ e. ⊎_elim (λ f. absurd (omega (arith, e, f))) (λ f. let g = f.0 in absurd (omega (arith, e, g))) dup);
    thirty = alike 30 (λ e. ⊎_elim (λ f. absurd (omega (arith, e, f))) (λ f. let g = f.1 in absurd (omega (arith, e, g))) dup);
    last = alike 31 (λ e. ⊎_elim (λ f. absurd (omega (arith, e, f))) (λ f. let g = f.1 in absurd (omega (arith, e, g))) dup);
    code = λ q. refl;
    flags = λ q. refl;
    cells = λ q l o. refl;
  } where
    alike : (q : ℕ) → (q ≡ r → ⊥) → slice_index (set_reg r x u.regs) q ≡ slice_index (set_reg r v u.regs) q
    alike q ne = slice_index-set_reg_other u.regs r x q ne ∙ sym (slice_index-set_reg_other u.regs r v q ne)

  -- a computing word i gets its number, or another
  set_slides :
      (u v : State) (i j : Ins) → Over w.code u → class_of i.kind ≡ class.Compute → w.code u.pc ≡ Known i → w.code u.pc ≡ Known j → Slip w j u v
      → ((x : ℕ) → x < 2 ^ 64 → (x ≡ result i.kind i u → ⊥) → Stopped slip_steps (moved (set_reg i.rd x u.regs) (u.pc + 4) u)) → Stopped slip_steps v ⊎ ((v ≡ step u) ⊎ ⊥)
  set_slides u v i j o c k known sl stops =
      let g = slip_gives w i u v (inl c) (subst (λ z. Slip w z u v) (sym (same_word w u.pc i j k known)) sl) in
      ⊎_elim
      (λ e. inr (inl (g.1.2 ∙ ap (λ x. moved (set_reg i.rd x u.regs) (u.pc + 4) u) e ∙ sym (computes w i u o k c))))
      (λ ne. inl (subst (Stopped slip_steps) (sym g.1.2) (stops g.1.0 g.1.1 ne)))
      (cases_eq g.1.0 (result i.kind i u))

  -- ---- a run that comes to the entry with another number in x14 or x16 is over soon
  -- the words behind those for x16
  abbrev counts : List Item → List Item
  counts ys = Plain (ins Addi CURSOR 0 0 (pos 2047)) ∷ Go a ∷ ys

  module _ (leader : ℕ → Bool) (loses : Loses w leader) (known : IsEntryOf w a) (leads : leader a ≡ true) (ys : List Item) where
    -- by the number in x16 or by that in x14
    abbrev Wrong : ℕ → ℕ → Type 0
    Wrong sign apart = (sign ≡ a → ⊥) ⊎ (apart ≡ w.distance → ⊥)

    -- before a word, if the run is over soon behind it
    lost_word :
        (i : Ins) (y : State) (n : ℕ) → Stands y → w.code y.pc ≡ Known i → class_of i.kind ≡ class.Compute
        → (Stands (moved (set_reg i.rd (result i.kind i y) y.regs) (y.pc + 4) y) → Stopped n (moved (set_reg i.rd (result i.kind i y) y.regs) (y.pc + 4) y)) → Stopped (suc n) y
    lost_word i y n h k c stops = stopped_step n y (subst (Stopped n) (sym (computes w i y (stands_over y h) k c)) (stops (stands_set i.rd (result i.kind i y) (y.pc + 4) y h)))

    -- at the jump
    lost_jump : (y : State) → Stands y → reg y 16 < 2 ^ 64 → reg y 15 < 2 ^ 64 → Wrong (reg y 16) (reg y 14) → Reads false w.code w.entry y.pc (Go a ∷ ys) → Stopped (lost_steps + 1) y
    lost_jump y h small count wrong r =
        let i = ins Jal 0 0 0 (distance_between y.pc (w.entry a)) in
        let near = w.low y.pc i r.0.0 in
        let is : step y ≡ moved y.regs (w.entry a) y = step-jump y i h.0 (known_at w.code y i (stands_over y h) r.0.0) refl ∙ ap (λ q. jumped y.regs q y) (difference y.pc (w.entry a) (omega (arith, near)) known.entry_low) ∙ jumped_to y.regs (w.entry a) y known.grain in
        let there : Standing w.code w.output (moved y.regs (w.entry a) y) = record { code = h.1.code; flagged = record { flags = h.1.flagged.flags; regs = h.1.flagged.regs; zero_reg = h.1.flagged.zero_reg } } in
        stopped_step lost_steps y (subst (Stopped lost_steps) (sym is) (loses a (moved y.regs (w.entry a) y) leads h.0 there refl small count wrong))

    -- from the word for x15 on
    lost_count : (y : State) → Stands y → reg y 16 < 2 ^ 64 → Wrong (reg y 16) (reg y 14) → Reads false w.code w.entry y.pc (counts ys) → Stopped (lost_steps + 2) y
    lost_count y h small wrong r =
        let i = ins Addi 15 0 0 (pos 2047) in
        let x = result Addi i y in
        let z = moved (set_reg 15 x y.regs) (y.pc + 4) y in
        let sixteen : reg z 16 ≡ reg y 16 = slice_index-set_reg_other y.regs 15 x 16 (λ e. absurd (omega (arith, e))) in
        let fourteen : reg z 14 ≡ reg y 14 = slice_index-set_reg_other y.regs 15 x 14 (λ e. absurd (omega (arith, e))) in
        let long = h.1.flagged.regs in
        let value : x ≡ (reg y 0 + wrapped (pos 2047)) % 2 ^ 64 = addi_value y 15 0 (reg y 0) ((reg y 0 + wrapped (pos 2047)) % 2 ^ 64) (pos 2047) refl refl in
        let fifteen : reg z 15 ≡ x = slice_index-set_reg_same y.regs 15 x (omega arith) (omega (arith, long)) in
        lost_word i y (lost_steps + 1) h r.0 refl
        (λ sz. lost_jump z sz (omega (arith, sixteen, small)) (omega (arith, fifteen, value)) (⊎_elim (λ ne. inl (λ e. ne (sym sixteen ∙ e))) (λ ne. inr (λ e. ne (sym fourteen ∙ e))) wrong) r.1)

    -- from the second word for x16 on
    lost_second :
        (lo : ℤ) (y : State) → Stands y → Wrong ((reg y 16 + wrapped lo) % 2 ^ 64) (reg y 14) → w.code y.pc ≡ Known (ins Addi 16 16 0 lo) → Reads false w.code w.entry (y.pc + 4) (counts ys) → Stopped (lost_steps + 3) y
    lost_second lo y h wrong k r =
        let i = ins Addi 16 16 0 lo in
        let x = result Addi i y in
        let z = moved (set_reg 16 x y.regs) (y.pc + 4) y in
        let long = h.1.flagged.regs in
        let value : x ≡ (reg y 16 + wrapped lo) % 2 ^ 64 = addi_value y 16 16 (reg y 16) ((reg y 16 + wrapped lo) % 2 ^ 64) lo refl refl in
        let sixteen : reg z 16 ≡ (reg y 16 + wrapped lo) % 2 ^ 64 = slice_index-set_reg_same y.regs 16 x (omega arith) (omega (arith, long)) ∙ value in
        let fourteen : reg z 14 ≡ reg y 14 = slice_index-set_reg_other y.regs 16 x 14 (λ e. absurd (omega (arith, e))) in
        lost_word i y (lost_steps + 2) h k refl
        (λ sz. lost_count z sz (omega (arith, sixteen)) (⊎_elim (λ ne. inl (λ e. ne (sym sixteen ∙ e))) (λ ne. inr (λ e. ne (sym fourteen ∙ e))) wrong) r)

    -- from the first on
    lost_first : (y : State) → Stands y → (reg y 14 ≡ w.distance → ⊥) → Reads false w.code w.entry y.pc (Constant 16 a ∷ counts ys) → Stopped (lost_steps + 4) y
    lost_first y h ne r =
        let i = ins Auipc 16 0 0 (upper_part (distance_between y.pc a)) in
        let x = result Auipc i y in
        let z = moved (set_reg 16 x y.regs) (y.pc + 4) y in
        let fourteen : reg z 14 ≡ reg y 14 = slice_index-set_reg_other y.regs 16 x 14 (λ e. absurd (omega (arith, e))) in
        lost_word i y (lost_steps + 3) h r.0 refl
        (λ sz. lost_second (lower_part (distance_between y.pc a)) z sz (inr (λ e. ne (sym fourteen ∙ e))) r.1 (subst (λ q. Reads false w.code w.entry q (counts ys)) (eight y.pc) r.2))

  -- ---- the words
  module _ (bound price : ℕ) (slip : Bool) (leader : ℕ → Bool) (loses : Loses w leader) (known : IsEntryOf w a) (leads : leader a ≡ true) (S : ℕ → Type 0) (N K : ℕ) where
    abbrev Leads_to : ℕ → List (ℕ × ℕ) → List Item → Type 0
    Leads_to most ws xs = Every w bound price slip S s N K (With w bound price most (Before_words w bound price (Awaits ws) xs))

    -- what becomes of slips of a word
    abbrev Mends : ℕ → (State → Type 0) → Type 0
    Mends many P = Recovers w bound price S s N K (With w bound price many P)

    -- behind each the run is over soon, or is as without it
    mends_stops : (many : ℕ) (P : State → Type 0) → ((u v : State) (j : Ins) → P u → w.code u.pc ≡ Known j → Slip w j u v → Stopped slip_steps v ⊎ ((v ≡ step u) ⊎ ⊥)) → Mends many P
    mends_stops many P f = mends w bound price S s N K (With w bound price many P) (λ m u. ⊥) (λ m u d j v k sl c. f u v j d.0 k sl) (λ n k m u n_le k_le st d. absurd d)

    -- a word that sets a register
    set :
        (i : Ins) (v most many : ℕ) (ws : List (ℕ × ℕ)) (xs : List Item) → suc most ≤ many → class_of i.kind ≡ class.Compute → i.rd < 32 → AreRegs ws → ((u : State) → reg u 0 ≡ 0 → result i.kind i u ≡ v)
        → Mends many (Before_words w bound price (Awaits ((i.rd, v) ∷ ws)) (Plain i ∷ xs)) → Leads_to most ws xs → Leads_to many ((i.rd, v) ∷ ws) (Plain i ∷ xs)
    set i v most many ws xs le c few k value mend rest =
        leads_compute w bound price slip S s N K i (Awaits ((i.rd, v) ∷ ws)) (Awaits ws) xs most many le c (awaits_last bound price ((i.rd, v) ∷ ws) (few, k)) (λ u b. b.over)
        (λ u p b. subst (λ n. Awaits ws (moved (set_reg i.rd n u.regs) p u)) (sym (value u b.zero_reg)) (awaits_set i.rd v p ws u b))
        (λ is. mend) rest

    -- one of the test's own registers, or one that changes reach
    abbrev IsFree : ℕ → Type 0
    IsFree r = (r ≤ LAST_ORIGINAL) ⊎ IsDuplicateReg r

    -- a word that sets such a register
    one :
        (i : Ins) (v most many : ℕ) (ws : List (ℕ × ℕ)) (xs : List Item) → suc most ≤ many → class_of i.kind ≡ class.Compute → i.rd < 32 → AreRegs ws → ((u : State) → reg u 0 ≡ 0 → result i.kind i u ≡ v) → IsFree i.rd
        → Leads_to most ws xs → Leads_to many ((i.rd, v) ∷ ws) (Plain i ∷ xs)
    one i v most many ws xs le c few k value free rest =
        set i v most many ws xs le c few k value
        (⊎_elim
        (λ own. mends_own w bound price S s N K (With w bound price many (Before_words w bound price (Awaits ((i.rd, v) ∷ ws)) (Plain i ∷ xs))) (λ m u d. (i, d.0.1.0, inl (inl c, own))))
        (λ dup.
        mends_gives w bound price S s N K i (Awaits ((i.rd, v) ∷ ws)) (Awaits ws) xs most many (inl c) (omega (arith, le))
        (λ u x p b high low calm is. awaits_last bound price ws k (moved (set_reg i.rd v u.regs) p u) (moved (set_reg i.rd x u.regs) p u) (awaits_set i.rd v p ws u b) (any_disturbed i.rd v x p ((i.rd, v) ∷ ws) u dup b))
        (every_plain w bound price slip S s N K (With w bound price most (Before_words w bound price (Awaits ws) xs)) rest))
        free)
        rest

    are_zeros : (r n : ℕ) (ws : List (ℕ × ℕ)) → r + n ≤ 32 → AreRegs ws → AreRegs (zeros_of r n ws)
    are_zeros r zero ws h k = k
    are_zeros r (suc n) ws h k = (omega (arith, h), are_zeros (r + 1) n ws (omega (arith, h)) k)

    zero_words :
        (r n most : ℕ) (ws : List (ℕ × ℕ)) (xs : List Item) → r + n ≤ 32 → ((q : ℕ) → r ≤ q → q < r + n → IsFree q) → AreRegs ws → Leads_to most ws xs → Leads_to (n + most) (zeros_of r n ws) (zero_from r n ++ xs)
    zero_words r zero most ws xs h free k rest = let e : most ≡ 0 + most = omega arith in subst (λ z. Leads_to z ws xs) e rest
    zero_words r (suc n) most ws xs h free k rest =
        one (ins Addi r 0 0 (pos 0)) 0 (n + most) (suc n + most) (zeros_of (r + 1) n ws) (zero_from (r + 1) n ++ xs) (omega arith) refl (omega (arith, h)) (are_zeros (r + 1) n ws (omega (arith, h)) k) (λ u z. addi_value u r 0 0 0 (pos 0) z (omega arith)) (free r (omega arith) (omega arith))
        (zero_words (r + 1) n most ws xs (omega (arith, h)) (λ q a b. free q (omega (arith, a)) (omega (arith, b))) k rest)

    module _ (ys : List Item) where
      abbrev then : List Item
      then = counts ys

      -- the word for x14
      apart_word :
          (most : ℕ) (ws : List (ℕ × ℕ)) → w.distance < 2 ^ 64 → AreRegs ws → Leads_to most ws (Constant 16 a ∷ then) → Leads_to (1 + most) ((14, w.distance) ∷ ws) (Plain (ins Lui 14 0 0 (pos w.distance)) ∷ Constant 16 a ∷ then)
      apart_word most ws small k rest =
          let i = ins Lui 14 0 0 (pos w.distance) in
          let xs : List Item = Constant 16 a ∷ then in
          set i w.distance most (1 + most) ws xs (omega arith) refl (omega arith) k (λ u z. lui_small u 14 w.distance small)
          (mends_stops (1 + most) (Before_words w bound price (Awaits ((14, w.distance) ∷ ws)) (Plain i ∷ xs)) (λ u v j b here sl.
          set_slides u v i j b.0.over refl b.1.0 here sl (λ x low ne.
          let z = moved (set_reg 14 x u.regs) (u.pc + 4) u in
          let long = b.0.long in
          let is : reg z 14 ≡ x = slice_index-set_reg_same u.regs 14 x (omega arith) (omega (arith, long)) in
          stopped_more (lost_steps + 4) slip_steps z (omega arith)
          (lost_first leader loses known leads ys z (stands_set 14 x (u.pc + 4) u (awaits_stands ((14, w.distance) ∷ ws) u b.0)) (λ e. ne (sym is ∙ e ∙ sym (lui_small u 14 w.distance small))) b.1.1))))
          rest

      -- both words for x16
      first_lost :
          (ws : List (ℕ × ℕ)) (u : State) (x : ℕ) → Before_words w bound price (Awaits ((16, a) ∷ ws)) (Constant 16 a ∷ then) u → x < 2 ^ 64 → (x ≡ result Auipc (ins Auipc 16 0 0 (upper_part (distance_between u.pc a))) u → ⊥)
          → Stopped slip_steps (moved (set_reg 16 x u.regs) (u.pc + 4) u)
      unfolding computed_value
      first_lost ws u x b low ne =
          let d = distance_between u.pc a in
          let hi = upper_part d in
          let lo = lower_part d in
          let z = moved (set_reg 16 x u.regs) (u.pc + 4) u in
          let long = b.0.long in
          let near = w.low u.pc (ins Auipc 16 0 0 hi) b.1.0 in
          let is : reg z 16 ≡ x = slice_index-set_reg_same u.regs 16 x (omega arith) (omega (arith, long)) in
          let right = constant_value u.pc a (omega (arith, near)) known.low in
          stopped_more (lost_steps + 3) slip_steps z (omega arith)
          (lost_second leader loses known leads ys lo z (stands_set 16 x (u.pc + 4) u (awaits_stands ((16, a) ∷ ws) u b.0)) (inl (λ e. ne (same_part x ((u.pc + wrapped hi) % 2 ^ 64) (wrapped lo) low (omega arith) (ap (λ n. (n + wrapped lo) % 2 ^ 64) (sym is) ∙ e ∙ sym right)))) b.1.1
          (subst (λ q. Reads false w.code w.entry q then) (eight u.pc) b.1.2)) where
            same_part : (x y z : ℕ) → x < 2 ^ 64 → y < 2 ^ 64 → (x + z) % 2 ^ 64 ≡ (y + z) % 2 ^ 64 → x ≡ y
            same_part x y z lx ly e = omega (arith, lx, ly, e)

      second_lost :
          (ws : List (ℕ × ℕ)) (u : State) (x : ℕ) (b : Begun w bound price 16 a then (Awaits ws) u) → x < 2 ^ 64 → (x ≡ result Addi (ins Addi 16 16 0 (lower_part (distance_between b.from a))) u → ⊥)
          → Stopped slip_steps (moved (set_reg 16 x u.regs) (u.pc + 4) u)
      second_lost ws u x b low ne =
          let lo = lower_part (distance_between b.from a) in
          let z = moved (set_reg 16 x u.regs) (u.pc + 4) u in
          let su = stands_unset 16 a 0 u (awaits_stands ws (moved (set_reg 16 a u.regs) 0 u) (b.goes 0)) in
          let long = su.1.flagged.regs in
          let is : reg z 16 ≡ x = slice_index-set_reg_same u.regs 16 x (omega arith) (omega (arith, long)) in
          let value : result Addi (ins Addi 16 16 0 lo) u ≡ a = addi_value u 16 16 ((b.from + wrapped (upper_part (distance_between b.from a))) % 2 ^ 64) a lo (b.has (omega arith)) (constant_value b.from a b.low known.low) in
          stopped_more (lost_steps + 2) slip_steps z (omega arith)
          (lost_count leader loses known leads ys z (stands_set 16 x (u.pc + 4) u su) (omega (arith, is, low)) (inl (λ e. ne (sym is ∙ e ∙ sym value))) b.reads)

      sign_words : (most : ℕ) (ws : List (ℕ × ℕ)) → AreRegs ws → Leads_to most ws then → Leads_to (2 + most) ((16, a) ∷ ws) (Constant 16 a ∷ then)
      sign_words most ws k rest =
          leads_constant w bound price slip S s N K 16 a (Awaits ((16, a) ∷ ws)) (Awaits ws) then most (2 + most) (omega arith) (inr (inl refl)) known.low (awaits_last bound price ((16, a) ∷ ws) (omega arith, k)) (awaits_last bound price ws k)
          (λ u b. (b.over, b.long)) (λ u p b. awaits_set 16 a p ws u b)
          (λ is. (
            mends_stops (2 + most) (Before_words w bound price (Awaits ((16, a) ∷ ws)) (Constant 16 a ∷ then))
                (λ u v j b here sl. set_slides u v (ins Auipc 16 0 0 (upper_part (distance_between u.pc a))) j b.0.over refl b.1.0 here sl (λ x low ne. first_lost ws u x b low ne)),
            mends_stops (1 + most) (Begun w bound price 16 a then (Awaits ws))
                (λ u v j b here sl. set_slides u v (ins Addi 16 16 0 (lower_part (distance_between b.from a))) j b.over refl b.word here sl (λ x low ne. second_lost ws u x b low ne)),
          ))
          rest

      -- the word that sets the count
      pub count_word : (most : ℕ) → Leads_to most [] (Go a ∷ ys) → Leads_to (1 + most) ((15, 2047) ∷ []) (Plain counter ∷ Go a ∷ ys)
      count_word most rest = one counter 2047 most (1 + most) [] (Go a ∷ ys) (omega arith) refl (omega arith) tt (λ u z. addi_value u 15 0 0 2047 (pos 2047) z (omega arith)) (inr (inl refl)) rest

      -- the words before it
      pub begin_words : (most : ℕ) → w.distance < 2 ^ 64 → Leads_to most ((15, 2047) ∷ []) (Plain counter ∷ Go a ∷ ys) → Leads_to (ORIGINALS + (ORIGINALS + (1 + (2 + most)))) (all_writes w a) (begin w.distance a ++ ys)
      begin_words most small rest =
          let apart : List Item = Plain (ins Lui DISTANCE 0 0 (pos w.distance)) ∷ Constant SIGNATURE a ∷ then in
          zero_words 1 ORIGINALS (ORIGINALS + (1 + (2 + most))) (zeros_of 17 ORIGINALS (last_writes w a)) (zero_from 17 ORIGINALS ++ apart) (omega arith) (λ q l h. inl (omega (arith, h))) (are_zeros 17 ORIGINALS (last_writes w a) (omega arith) (omega arith, (omega arith, (omega arith, tt))))
          (zero_words 17 ORIGINALS (1 + (2 + most)) (last_writes w a) apart (omega arith) (λ q l h. inr (inr (omega (arith, l), omega (arith, h)))) (omega arith, (omega arith, (omega arith, tt)))
          (apart_word (2 + most) ((16, a) ∷ (15, 2047) ∷ []) small (omega arith, (omega arith, tt))
          (sign_words most ((15, 2047) ∷ []) (omega arith, tt)
          rest)))

-- ---- registers behind these writes
-- other registers stay
zeros_skip : (r n : ℕ) (ws : List (ℕ × ℕ)) (l : List ℕ) (q : ℕ) → (q < r) ⊎ (r + n ≤ q) → ((k : List ℕ) → slice_index (writes ws k) q ≡ slice_index k q) → slice_index (writes (zeros_of r n ws) l) q ≡ slice_index l q
zeros_skip r zero ws l q h f = f l
zeros_skip r (suc n) ws l q h f =
    zeros_skip (r + 1) n ws (set_reg r 0 l) q (⊎_elim (λ a. inl (omega (arith, a))) (λ b. inr (omega (arith, b))) h) f ∙ slice_index-set_reg_other l r 0 q (λ e. ⊎_elim (λ a. absurd (omega (arith, a, e))) (λ b. absurd (omega (arith, b, e))) h)

-- the others are 0
zeros_are :
    (r n : ℕ) (ws : List (ℕ × ℕ)) (l : List ℕ) (q : ℕ) → length l ≡ 32 → r + n ≤ 32 → 1 ≤ r → r ≤ q → q < r + n → ((k : List ℕ) → slice_index (writes ws k) q ≡ slice_index k q) → slice_index (writes (zeros_of r n ws) l) q ≡ 0
zeros_are r zero ws l q long few one le lt f = absurd (omega (arith, le, lt))
zeros_are r (suc n) ws l q long few one le lt f =
    ⊎_elim
    (λ e. zeros_skip (r + 1) n ws (set_reg r 0 l) q (inl (omega (arith, e))) f ∙ ap (slice_index (set_reg r 0 l)) e ∙ slice_index-set_reg_same l r 0 one (omega (arith, few, long)))
    (λ ne. zeros_are (r + 1) n ws (set_reg r 0 l) q (length-set_reg l r 0 ∙ long) (omega (arith, few)) (omega (arith, one)) (omega (arith, le, ne)) (omega (arith, lt)) f)
    (cases_eq q r)

zeros_long : (r n : ℕ) (ws : List (ℕ × ℕ)) (l : List ℕ) → ((k : List ℕ) → length (writes ws k) ≡ length k) → length (writes (zeros_of r n ws) l) ≡ length l
zeros_long r zero ws l f = f l
zeros_long r (suc n) ws l f = zeros_long (r + 1) n ws (set_reg r 0 l) f ∙ length-set_reg l r 0

module _ (f g : Program) (w : World) (of : Describes f g w) (regs : List ℕ) (are : AreStartRegs regs) (a : ℕ) where
  abbrev s0 : State
  s0 = start f zeros

  abbrev u0 : State
  u0 = start g regs

  abbrev ends : List (ℕ × ℕ)
  ends = last_writes w a

  abbrev all : List (ℕ × ℕ)
  all = all_writes w a

  ends_skip : (q : ℕ) → (q < 14) ⊎ (16 < q) → (k : List ℕ) → slice_index (writes ends k) q ≡ slice_index k q
  ends_skip q h k = writes_out ends k q (apart 14 (omega arith) (omega arith), (apart 16 (omega arith) (omega arith), (apart 15 (omega arith) (omega arith), tt))) where
    apart : (r : ℕ) → 14 ≤ r → r ≤ 16 → q ≡ r → ⊥
    apart r lo hi e = ⊎_elim (λ x. omega (arith, lo, e, x)) (λ x. omega (arith, hi, e, x)) h

  pairs_skip : (q : ℕ) → (q < 14) → (k : List ℕ) → slice_index (writes (zeros_of 17 ORIGINALS ends) k) q ≡ slice_index k q
  pairs_skip q h k = zeros_skip 17 ORIGINALS ends k q (inl (omega (arith, h))) (ends_skip q (inl h))

  long0 : length u0.regs ≡ 32
  long0 = length-set regs 0 0 ∙ are.count

  zero0 : slice_index u0.regs 0 ≡ 0
  zero0 = set_first regs

  long_all : length (writes all u0.regs) ≡ 32
  long_all = zeros_long 1 ORIGINALS (zeros_of 17 ORIGINALS ends) u0.regs (λ k. zeros_long 17 ORIGINALS ends k (λ j. writes_long ends j)) ∙ long0

  original_zero : (q : ℕ) → q ≤ LAST_ORIGINAL → slice_index (writes all u0.regs) q ≡ 0
  original_zero q h =
      ⊎_elim
      (λ e. zeros_skip 1 ORIGINALS (zeros_of 17 ORIGINALS ends) u0.regs q (inl (omega (arith, e))) (pairs_skip q (omega (arith, h))) ∙ ap (slice_index u0.regs) e ∙ zero0)
      (λ ne. zeros_are 1 ORIGINALS (zeros_of 17 ORIGINALS ends) u0.regs q long0 (omega arith) (omega arith) (omega (arith, ne)) (omega (arith, h)) (pairs_skip q (omega (arith, h))))
      (cases_eq q 0)

  pub start_awaits : Awaits w s0 a all u0
  start_awaits = record {
    over = record { going = refl; code = of.output_code };
    long = long0;
    zero_reg = zero0;
    half = λ p. record {
      going = refl;
      standing = record { code = of.output_code; flagged = record { flags = λ q. ap (λ m. flags_at m q) of.output; regs = long_all; zero_reg = original_zero 0 (omega arith) } };
      sourced = first_sourced f g w of;
      sign = read_back all u0.regs 16 long0 refl;
      distance = read_back all u0.regs 14 long0 refl;
      originals = λ q h. original_zero q h ∙ sym (zeros_zero 32 q);
      bytes = λ q e. ap (λ m. byte_at m q) of.output ∙ of.bytes q e ∙ sym (ap (λ m. byte_at m q) of.input);
      fixed = λ q h k. ap (λ m. get m q) of.output;
    };
  }
