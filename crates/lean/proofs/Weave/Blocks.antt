-- The blocks of a test with entries where a jump by register can lead: each begins behind the words of those before it.
-- So an address and the kind of an end determine a block, and one that goes on at a leader is followed by the next.
use Rattle.std.proofs.Common.{◌≡◌, ℕ, ◌+◌, ◌-◌, ◌*◌, ◌/◌, ◌%◌, ◌^◌, ◌<◌, ◌≤◌, inl, inr, ⊎_elim, Bool, true, false, cond, List, [], ◌∷◌, length, refl, sym, ap, ◌∙◌, subst, arith}
use Rattle.std.specs.Prelude.{◌==◌, ◌&&◌}
use Rattle.std.proofs.lemmas.Bool.{and_parts, cases_lt, eq-eqb, eqb-true, false≢true, or_cases, or_left, or_right}
use Rattle.tests.specs.declared.options.Entries.TheVariants as entries
use Rattle.tests.specs.Admission.Leaders.{IsLeader}
use Rattle.machine.specs.Members.{Among}
use Rattle.qed_model.specs.Weave.Blocks.{StopsAt, IsLeaderBlock, IsOtherBlock, begins_at, AreBlocks, IsBlockOf, ElfFile, Options}
use Rattle.qed_model.specs.Weave.Sequences.{End, Falls, Stops, Block, body_length, Ins}
use Rattle.qed_model.specs.Weave.LeanCode.{end_at, is_alike, start_at, Lean}
use Rattle.machine.proofs.Lemmas.{all_among}
use Rattle.qed_model.proofs.Lemmas.{pieces_whole}
use Rattle.weave_core.specs.World.{World}
use Rattle.weave_core.specs.WeaveForms.{weave_of as form_weave}
use Rattle.weave_core.specs.WeaveLaws.{PiecesAt, stops}
use Rattle.weave_core.specs.WeavePromise.{AllBlocksOf}
use Rattle.weave_core.proofs.Lemmas.{Ascend, body_size}
use Rattle.lean.specs.Woven.{lean_weave_of, goes_on, begins_with, InOrder}

-- ---- members
-- a leader begins a block of the list
pub begun : (bs : List Block) (a : ℕ) → begins_at bs a ≡ true → (b : Block) × Among b bs × (b.start ≡ a)
begun [] a e = absurd (false≢true e)
begun (b ∷ bs) a e = ⊎_elim (λ x. (b, inl refl, eqb-true b.start a x)) (λ x. let r = begun bs a x in (r.0, inr r.1, r.2)) (or_cases (b.start == a) (begins_at bs a) e)

pub begins : (bs : List Block) (b : Block) → Among b bs → begins_at bs b.start ≡ true
begins [] b m = absurd m
begins (c ∷ cs) b m = ⊎_elim (λ e. or_left (c.start == b.start) (begins_at cs b.start) (eq-eqb c.start b.start (ap (λ (x : Block). x.start) (sym e)))) (λ r. or_right (c.start == b.start) (begins_at cs b.start) (begins cs b r)) m

-- those behind one begin behind it
pub later : (bs : List Block) (low : ℕ) (b : Block) → Ascend low bs → Among b bs → low ≤ b.start
later [] low b h m = absurd m
later (c ∷ cs) low b h m = ⊎_elim (λ e. subst (λ (x : Block). low ≤ x.start) (sym e) h.0) (λ r. let k = later cs (c.start + 1) b h.1 r in omega (arith, h.0, k)) m

-- ---- where the words of a block end
abbrev behind : Block → ℕ
behind b = end_at b + 4 * stops b.end

module _ (f : ElfFile) (o : Options) (some : 1 ≤ o.inst_max) where
  pub length_is : (b : Block) (l : IsLeaderBlock f o b) → body_length b.body ≡ length l.body
  length_is b l = body_size b.body ∙ ap length (pieces_whole o.inst_max l.body b.body some l.pieces)

  -- a leader on the grain is not inside of a block
  outside : (b : Block) (l : IsLeaderBlock f o b) (a : ℕ) → b.start < a → (a - b.start) % 4 ≡ 0 → IsLeader f o a → behind b ≤ a
  outside b l a lt grain leads =
      let k = (a - b.start) / 4 in
      let n = length_is b l in
      let place : b.start + 4 * ((a - b.start) / 4) ≡ a = omega (arith, lt, grain) in
      ⊎_elim
      (λ inside. absurd (l.inside ((a - b.start) / 4) (omega (arith, place, lt)) inside (subst (IsLeader f o) (sym place) leads)))
      (λ out. at_end b.end refl out)
      (cases_lt ((a - b.start) / 4) (length l.body)) where
        at_end : (e : End) → b.end ≡ e → length l.body ≤ (a - b.start) / 4 → end_at b + 4 * stops b.end ≤ a
        at_end Falls is out = let n = length_is b l in let z : stops b.end ≡ 0 = ap stops is in omega (arith, n, z, lt, grain, out)
        at_end (Stops i) is out =
            let n = length_is b l in
            let one : stops b.end ≡ 1 = ap stops is in
            let s : StopsAt f o (Stops i) (length l.body) (b.start + 4 * length l.body) = subst (λ x. StopsAt f o x (length l.body) (b.start + 4 * length l.body)) is l.stops in
            ⊎_elim
            (λ more. omega (arith, n, one, lt, grain, more))
            (λ same.
            let here : b.start + 4 * length l.body ≡ a = omega (arith, lt, grain, out, same) in
            ⊎_elim (λ none. absurd (omega (arith, here, none, lt))) (λ no. absurd (no (subst (IsLeader f o) (sym here) leads))) s.2)
            (cases_lt (length l.body) ((a - b.start) / 4))

  -- a block that falls has an instruction
  filled : (b : Block) (l : IsLeaderBlock f o b) → b.end ≡ Falls → 1 ≤ body_length b.body
  filled b l is =
      let s : StopsAt f o Falls (length l.body) (b.start + 4 * length l.body) = subst (λ x. StopsAt f o x (length l.body) (b.start + 4 * length l.body)) is l.stops in
      let n = length_is b l in
      omega (arith, n, s.0)

  module _ (blocks : List Block) (are : AreBlocks f o blocks) (reached : o.entries ≡ entries.Reached) (grain : (a : ℕ) → begins_at blocks a ≡ true → a % 4 ≡ 0) where
    -- each is the block of a leader
    pub leading : (b : Block) → Among b blocks → IsLeaderBlock f o b
    leading b m = ⊎_elim (λ l. l) (λ q. absurd (other q)) (all_among (IsBlockOf f o) b blocks are.each m) where
      other : IsOtherBlock f o b → ⊥
      other q = let e : entries.All ≡ entries.Reached = sym q.all ∙ reached in absurd (cc)

    -- of two blocks the later begins behind the words of the other
    pub apart : (b c : Block) → Among b blocks → Among c blocks → b.start < c.start → behind b ≤ c.start
    apart b c m n lt =
        let x = grain b.start (begins blocks b m) in
        let y = grain c.start (begins blocks c n) in
        outside b (leading b m) c.start lt (omega (arith, x, y, lt)) (leading c n).leader

    -- so they have no such end at one address
    distinct : (b c : Block) → Among b blocks → Among c blocks → c.start < b.start → is_alike c.end b.end ≡ true → end_at c ≡ end_at b → ⊥
    distinct b c m n lt alike same = by b.end c.end refl refl alike where
      by : (e k : End) → b.end ≡ e → c.end ≡ k → is_alike k e ≡ true → ⊥
      by Falls Falls x y a = let p = apart c b n m lt in let z : stops c.end ≡ 0 = ap stops y in let q = filled b (leading b m) x in omega (arith, p, z, q, same)
      by (Stops i) (Stops j) x y a = let p = apart c b n m lt in let z : stops c.end ≡ 1 = ap stops y in omega (arith, p, z, same)
      by Falls (Stops j) x y a = false≢true a
      by (Stops i) Falls x y a = false≢true a

    alike_self : (e : End) → is_alike e e ≡ true
    alike_self Falls = refl
    alike_self (Stops i) = refl

    -- ---- what is found by an address
    -- some of the blocks, in their order
    abbrev pub Are : ℕ → List Block → Type 0
    Are low bs = Ascend low bs × ((b : Block) → Among b bs → Among b blocks)

    rest : (low : ℕ) (b : Block) (bs : List Block) → Are low (b ∷ bs) → Are (b.start + 1) bs
    rest low b bs h = (h.0.1, λ c m. h.1 c (inr m))

    start_is : (bs : List Block) (low : ℕ) (b : Block) → Are low bs → Among b bs → start_at bs b.end (end_at b) ≡ b.start
    start_is [] low b h m = absurd m
    start_is (c ∷ cs) low b h m =
        ⊎_elim
        (λ e. subst (λ (x : Block). start_at (c ∷ cs) x.end (end_at x) ≡ x.start) (sym e) here)
        (λ r. by (is_alike c.end b.end) (end_at c == end_at b) refl refl r (start_is cs (c.start + 1) b (rest low c cs h) r))
        m where
          here : start_at (c ∷ cs) c.end (end_at c) ≡ c.start
          here = rw (alike_self c.end, eq-eqb (end_at c) (end_at c) refl) refl

          by : (p q : Bool) → is_alike c.end b.end ≡ p → (end_at c == end_at b) ≡ q → Among b cs → start_at cs b.end (end_at b) ≡ b.start → cond (p && q) c.start (start_at cs b.end (end_at b)) ≡ b.start
          by true true x y r more = absurd (distinct b c (h.1 b (inr r)) (h.1 c (inl refl)) (let k = later cs (c.start + 1) b h.0.1 r in omega (arith, k)) x (eqb-true (end_at c) (end_at b) y))
          by true false x y r more = more
          by false q x y r more = more

    -- ---- over all blocks
    module _ (ascend : Ascend 0 blocks) where
      all : Are 0 blocks
      all = (ascend, λ b m. m)

      pub starts : (b : Block) → Among b blocks → start_at blocks b.end (end_at b) ≡ b.start
      starts b m = start_is blocks 0 b all m

      -- ---- the next block
      -- the address behind a block is where the next begins, if that is a leader
      next : (b : Block) (bs : List Block) (low : ℕ) → Are low (b ∷ bs) → ((t : ℕ) → begins_at blocks t ≡ true → b.start < t → begins_at bs t ≡ true) → (t : ℕ) → behind b ≡ t → b.start < t → begins_at blocks t ≡ true → begins_with bs t
      next b [] low h more t is lt e = absurd (false≢true (more t e lt))
      next b (c ∷ cs) low h more t is lt e =
          let p = apart b c (h.1 b (inl refl)) (h.1 c (inr (inl refl))) (let k = h.0.1.0 in omega (arith, k)) in
          let r = begun (c ∷ cs) t (more t e lt) in
          let high : c.start ≤ r.0.start = ⊎_elim (λ x. let y = ap (λ (z : Block). z.start) x in omega (arith, y)) (λ x. let y = later cs (c.start + 1) r.0 h.0.1.1 x in omega (arith, y)) r.1 in
          omega (arith, p, is, high, r.2)

      -- where a block goes on is behind it
      goes_behind : (b : Block) → Among b blocks → end_at b + 4 < 2 ^ 64 → (t : ℕ) → goes_on b.end (end_at b) t ≡ true → (behind b ≡ t) × (b.start < t)
      goes_behind b m low t g = by b.end refl g where
        by : (e : End) → b.end ≡ e → goes_on e (end_at b) t ≡ true → (behind b ≡ t) × (b.start < t)
        by Falls x g = let z : stops b.end ≡ 0 = ap stops x in let s = eqb-true (end_at b) t g in let q = filled b (leading b m) x in (omega (arith, z, s), omega (arith, q, s))
        by (Stops i) x g = let z : stops b.end ≡ 1 = ap stops x in let s = eqb-true ((end_at b + 4) % 2 ^ 64) t (and_parts _ _ g).1 in (omega (arith, z, s, low), omega (arith, s, low))

      pub in_order : ((b : Block) → Among b blocks → end_at b + 4 < 2 ^ 64) → InOrder (begins_at blocks) blocks
      in_order room = each blocks 0 all (λ t e le. e) where
        pass : (b : Block) (bs : List Block) (t : ℕ) → b.start < t → begins_at (b ∷ bs) t ≡ true → begins_at bs t ≡ true
        pass b bs t lt e = ⊎_elim (λ x. absurd (let s = eqb-true b.start t x in omega (arith, s, lt))) (λ x. x) (or_cases (b.start == t) (begins_at bs t) e)

        each : (bs : List Block) (low : ℕ) → Are low bs → ((t : ℕ) → begins_at blocks t ≡ true → low ≤ t → begins_at bs t ≡ true) → InOrder (begins_at blocks) bs
        each [] low h more = tt
        each (b ∷ bs) low h more =
            let here = h.1 b (inl refl) in
            let from = h.0.0 in
            let more_rest : (t : ℕ) → begins_at blocks t ≡ true → b.start < t → begins_at bs t ≡ true = λ t e lt. pass b bs t lt (more t e (omega (arith, from, lt))) in (
              λ t g e. let k = goes_behind b here (room b here) t g in next b bs low h more_rest t k.0 k.1 e,
              each bs (b.start + 1) (rest low b bs h) (λ t e le. more_rest t e (omega (arith, le))),
            )

-- ---- from one weave to the other
module _ (w : World) (l : Lean) (leader : ℕ → Bool) where
  pieces_at : (ps : List (List Ins)) (e : End) (a : ℕ) → PiecesAt w (form_weave w.form l.inst_max) leader ps e a → PiecesAt w (lean_weave_of w l leader) leader ps e a
  pieces_at [] e a q = q
  pieces_at (p ∷ ps) e a q = (record { has = q.0.has; fit = q.0.fit; one = q.0.one }, pieces_at ps e (a + 4 * length p) q.1)

  -- blocks of a form are blocks of the lean form, where they are found by their ends
  pub all_good :
      (bs : List Block) → ((b : Block) → Among b bs → ((l.start_of b.end (b.start + 4 * body_length b.body) == b.start) && leader b.start) ≡ true)
      → AllBlocksOf w (form_weave w.form l.inst_max) leader bs → AllBlocksOf w (lean_weave_of w l leader) leader bs
  all_good [] own g = tt
  all_good (b ∷ bs) own g = (record { low = g.0.low; pieces = pieces_at b.body b.end b.start g.0.pieces; some = g.0.some; full = g.0.full; own = own b (inl refl) }, all_good bs (λ c m. own c (inr m)) g.1)
