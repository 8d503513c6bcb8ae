-- All blocks of a file together have few instructions and pieces: the bodies of leaders share no code address, and any
-- other block has at most one instruction.
use Rattle.std.proofs.Common.{◌≡◌, inl, inr, ⊎_elim, ℕ, suc, ◌+◌, ◌-◌, ◌*◌, ◌/◌, ◌%◌, ◌<◌, ◌≤◌, true, List, [], ◌∷◌, length, ap, ◌∙◌, subst, arith}
use Rattle.std.specs.Prelude.{All, ◌==◌}
use Rattle.std.proofs.lemmas.Bool.{and_parts, eqb-true, cases_lt}
use Rattle.std.proofs.lemmas.List.Elements.{All-head, All-tail}
use Rattle.tests.specs.Admission.CodeWords.{is_code, ElfFile, Ins}
use Rattle.tests.specs.Admission.Leaders.{IsLeader}
use Rattle.qed_model.specs.Weave.Blocks.{IsBodyAt, IsLeaderBlock, IsShort, AreBlocks, IsBlockOf, Options}
use Rattle.qed_model.specs.Weave.Sequences.{Block, End, Falls, Stops, body_length}
use Rattle.machine.specs.Members.{Among}
use Rattle.tests.proofs.Lemmas.{IsShapely, instruction_code}
use Rattle.qed_model.proofs.Lemmas.{Ascend, ascend_of, any_first, EachPiece, Cut, Empty, Filled, pieces_whole, pieces_cut}
use Rattle.weave_core.proofs.Lemmas.{body_size}

-- ---- lists of numbers
-- a list without one member: all above that member are left
record Without (a : ℕ) (ns : List ℕ) : Type 0 where
  rest : List ℕ
  shorter : length ns ≡ suc (length rest)
  left : (b : ℕ) → a < b → Among b ns → Among b rest

without_later : (a b : ℕ) (bs : List ℕ) → Without a bs → Without a (b ∷ bs)
without_later a b bs w = record { rest = b ∷ w.rest; shorter = omega (arith, w.shorter); left = λ c lt m. ⊎_elim (λ e. inl e) (λ r. inr (w.left c lt r)) m }

without : (a : ℕ) (ns : List ℕ) → Among a ns → Without a ns
without a [] m = absurd m
without a (b ∷ bs) m =
    ⊎_elim
    (λ e. record { rest = bs; shorter = omega arith; left = λ c lt n. ⊎_elim (λ s. absurd (omega (arith, e, s, lt))) (λ r. r) n })
    (λ r. without_later a b bs (without a bs r))
    m

-- ---- the parts of a block
few_pieces : (most : ℕ) (ps : List (List Ins)) → EachPiece most ps → length ps ≤ body_length ps
few_pieces most [] each = omega arith
few_pieces most (p ∷ ps) each = let r = few_pieces most ps each.3 in omega (arith, r, each.1)

-- the number of instructions and pieces, and 1 for each block
abbrev pub weight : List Block → ℕ
weight [] = 0
weight (b ∷ bs) = body_length b.body + length b.body + 1 + weight bs

module _ (f : ElfFile) (shape : IsShapely f) (o : Options) (some : 1 ≤ o.inst_max) where
  -- ---- code addresses
  -- the list has each code address from `low` on
  record HasFrom (low : ℕ) (ns : List ℕ) : Type 0 where
    all : (a : ℕ) → low ≤ a → is_code f a ≡ true → Among a ns

  -- a list without n of its members: all code addresses from `low` on are left
  record Behind (low n : ℕ) (ns : List ℕ) : Type 0 where
    rest : List ℕ
    fewer : n + length rest ≤ length ns
    from : HasFrom low rest

  behind_one : (low a : ℕ) (ns : List ℕ) → HasFrom low ns → low ≤ a → is_code f a ≡ true → Behind (a + 1) 1 ns
  behind_one low a ns h l c =
      let w = without a ns (h.all a l c) in
      record { rest = w.rest; fewer = omega (arith, w.shorter); from = record { all = λ b m d. w.left b (omega (arith, m)) (h.all b (omega (arith, l, m)) d) } }

  behind_body : (is : List Ins) (low a : ℕ) (ns : List ℕ) → HasFrom low ns → low ≤ a → IsBodyAt f a is → Behind (a + 4 * length is) (length is) ns
  behind_body [] low a ns h l s = record { rest = ns; fewer = omega arith; from = record { all = λ b m d. h.all b (omega (arith, l, m)) d } }
  behind_body (i ∷ is) low a ns h l s =
      let x = behind_one low a ns h l (instruction_code f shape a i s.0).0 in
      let y = behind_body is (a + 1) (a + 4) x.rest x.from (omega arith) s.2 in
      record { rest = y.rest; fewer = omega (arith, x.fewer, y.fewer); from = record { all = λ b m d. y.from.all b (omega (arith, m)) d } }

  -- ---- lists of blocks
  -- the blocks ascend from `low` on
  abbrev Rising : ℕ → List Block → Type 0
  Rising low [] = Unit {0}
  Rising low (b ∷ bs) = (low ≤ b.start) × IsBlockOf f o b × Rising (b.start + 1) bs

  -- the leaders of the blocks stand from `low` on
  abbrev LeadersFrom : ℕ → List Block → Type 0
  LeadersFrom low [] = Unit {0}
  LeadersFrom low (b ∷ bs) = (IsLeader f o b.start → low ≤ b.start) × LeadersFrom low bs

  grain : (a : ℕ) → is_code f a ≡ true → a % 4 ≡ 0
  grain a e = eqb-true (a % 4) 0 (and_parts (a % 4 == 0) _ e).0

  -- a leader that stands behind the first address of a body stands behind the body
  outside : (s n a : ℕ) → s % 4 ≡ 0 → ((k : ℕ) → 1 ≤ k → k < n → IsLeader f o (s + 4 * k) → ⊥) → s < a → IsLeader f o a → s + 4 * n ≤ a
  outside s n a g inside lt l =
      let h = grain a l.code in
      ⊎_elim
      (λ x.
      let k : ℕ = (a - s) / 4 in
      let e : a ≡ s + 4 * ((a - s) / 4) = omega (arith, g, h, lt) in
      absurd (inside k (omega (arith, e, lt)) (omega (arith, e, x)) (subst (IsLeader f o) e l)))
      (λ x. x)
      (cases_lt a (s + 4 * n))

  leaders_behind :
      (s n : ℕ) → s % 4 ≡ 0 → ((k : ℕ) → 1 ≤ k → k < n → IsLeader f o (s + 4 * k) → ⊥)
      → (low : ℕ) (bs : List Block) → s < low → Rising low bs → LeadersFrom (s + 4 * n) bs
  leaders_behind s n g inside low [] lt up = tt
  leaders_behind s n g inside low (b ∷ bs) lt up = (outside s n b.start g inside (omega (arith, lt, up.0)), leaders_behind s n g inside (b.start + 1) bs (omega (arith, lt, up.0)) up.2)

  -- ---- the weight of blocks
  -- the weight of a leader's block
  leader_pieces : (body : List Ins) (ps : List (List Ins)) → Cut o.inst_max body ps → body_length ps ≡ length body → length ps ≤ length body + 1
  leader_pieces body ps (Empty e p) same = omega (arith, ap length p)
  leader_pieces body ps (Filled n each) same = omega (arith, few_pieces o.inst_max ps each, same)

  leader_weight : (b : Block) (l : IsLeaderBlock f o b) → body_length b.body + length b.body + 1 ≤ 2 * length l.body + 2
  leader_weight b l =
      let same : body_length b.body ≡ length l.body = body_size b.body ∙ ap length (pieces_whole o.inst_max l.body b.body some l.pieces) in
      let few = leader_pieces l.body b.body (pieces_cut o.inst_max l.body b.body some l.pieces) same in
      omega (arith, same, few)

  -- the weight of any other block
  other_weight : (i : Ins) (ps : List (List Ins)) (e : End) → IsShort i ps e → body_length ps + length ps + 1 ≤ 3
  other_weight i ps Falls s = let n = ap body_length s.1 in let m = ap length s.1 in omega (arith, n, m)
  other_weight i ps (Stops j) s = let n = ap body_length s.1 in let m = ap length s.1 in omega (arith, n, m)

  -- the weight of all blocks; one list has the addresses at which they begin, another those of the bodies of leaders
  weight_below :
      (bs : List Block) (low l : ℕ) (xs ys : List ℕ) → Rising low bs → LeadersFrom l bs → HasFrom low xs → HasFrom l ys
      → weight bs ≤ 3 * length xs + 2 * length ys
  weight_below [] low l xs ys up from hx hy = omega arith
  weight_below (b ∷ bs) low l xs ys up from hx hy =
      ⊎_elim
      (λ x.
      let p = behind_one low b.start xs hx up.0 x.leader.code in
      let q = behind_body x.body l b.start ys hy (from.0 x.leader) x.stands in
      let rest = weight_below bs (b.start + 1) (b.start + 4 * length x.body) p.rest q.rest up.2
      (leaders_behind b.start (length x.body) (grain b.start x.leader.code) x.inside (b.start + 1) bs (omega arith) up.2) p.from q.from in
      let one = leader_weight b x in
      omega (arith, rest, one, p.fewer, q.fewer))
      (λ x.
      let p = behind_one low b.start xs hx up.0 (instruction_code f shape b.start x.instruction x.stands).0 in
      let rest = weight_below bs (b.start + 1) l p.rest ys up.2 from.1 p.from hy in
      let one = other_weight x.instruction b.body b.end x.short in
      omega (arith, rest, one, p.fewer))
      up.1

  -- ---- the blocks of the file
  rising : (low : ℕ) (bs : List Block) → Ascend low bs → All (IsBlockOf f o) bs → Rising low bs
  rising low [] a g = tt
  rising low (b ∷ bs) a g = (a.0, All-head (IsBlockOf f o) b bs g, rising (b.start + 1) bs a.1 (All-tail (IsBlockOf f o) b bs g))

  leaders_any : (bs : List Block) → LeadersFrom 0 bs
  leaders_any [] = tt
  leaders_any (b ∷ bs) = (λ l. omega arith, leaders_any bs)

  pub few_blocks : (bs : List Block) (ns : List ℕ) → AreBlocks f o bs → ((a : ℕ) → is_code f a ≡ true → Among a ns) → weight bs ≤ 5 * length ns
  few_blocks bs ns are all =
      let has : HasFrom 0 ns = record { all = λ a l c. all a c } in
      let sum = weight_below bs 0 0 ns ns (rising 0 bs (ascend_of 0 bs (any_first bs) are.ascend) are.each) (leaders_any bs) has has in
      omega (arith, sum)
