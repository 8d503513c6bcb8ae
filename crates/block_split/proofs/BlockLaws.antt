-- What was built are the blocks of the file.
use Rattle.std.proofs.Common.{◌≡◌, ◌⊎◌, inl, inr, ⊎_elim, ℕ, zero, suc, ◌+◌, ◌<◌, ◌≤◌, Bool, true, false, List, [], ◌∷◌, ◌++◌, length, map, take, get_or, Some, None, refl, sym, ap, ◌∙◌, subst, arith}
use Rattle.std.specs.Prelude.{All, ◌==◌, ◌↔◌, IsTrue, if◌then◌else◌}
use Rattle.std.proofs.lemmas.Bool.{false≢true, eq-eqb, or_left, or_right}
use Rattle.std.proofs.lemmas.List.Elements.{All-nil, All-cons}
use Rattle.tests.specs.declared.options.Entries.TheVariants as entries
use Rattle.tests.specs.declared.test.CodeWord.{CodeWord}
use Rattle.qed_model.specs.Weave.Sequences.{Block}
use Rattle.qed_model.specs.Weave.Pieces.{divided}
use Rattle.qed_model.specs.Weave.Blocks.{IsLeaderBlock, IsShort as IsShortOf, IsOtherBlock, IsEntered, IsMarked, begins_at, AreBlocks, IsBlockOf, ElfFile, Options}
use Rattle.tests.specs.Admission.CodeWords.{is_code, instruction_at}
use Rattle.tests.specs.Admission.Leaders.{IsLeader, HasIndirect}
use Rattle.tests.specs.Admission.Test.{AreCodeWords}
use Rattle.qed_model.proofs.Lemmas.{Ascend}
use Rattle.flow_recovery.specs.Sets.{lists}
use Rattle.block_split.specs.declared.block.CodeBlock.{CodeBlock}
use Rattle.block_split.specs.Bodies.{ends, body_size, body_end}
use Rattle.block_split.specs.Built.{IsLongBlock, IsShortBlock, BegunBlocks, Built}
use Rattle.block_split.specs.Listed.{end_of, block_of}
use Rattle.block_split.proofs.BodyLaws.{instructions, Rest, rest_tail, above, rest_all, IsBody, body_is}

-- what was built, for equal leaders and words
pub same_built :
    (every : Bool) (reached : ℕ → Bool) (most : ℕ) (bs : List CodeBlock) (ls ks : List ℕ) (ws vs : List CodeWord) → ls ≡ ks → ws ≡ vs
    → Built (lists ls) every reached most ws bs → Built (lists ks) every reached most vs bs
same_built every reached most bs ls ks ws vs l w b = subst (λ x. Built (lists ks) every reached most x bs) w (subst (λ x. Built (lists x) every reached most ws bs) l b)

-- ---- lists of blocks
rising_less : (low high : ℕ) (bs : List Block) → low ≤ high → Ascend high bs → Ascend low bs
rising_less low high [] le r = tt
rising_less low high (b ∷ bs) le r = let h = r.0 in (omega (arith, le, h), r.1)

rising_at : (low : ℕ) (bs : List Block) (k : ℕ) (d : Block) → Ascend low bs → k < length bs → low ≤ (get_or bs k d).start
rising_at low [] k d r lt = absurd (omega (arith, lt))
rising_at low (b ∷ bs) zero d r lt = r.0
rising_at low (b ∷ bs) (suc k) d r lt = let h = rising_at (b.start + 1) bs k d r.1 (omega (arith, lt)) in let l = r.0 in omega (arith, h, l)

rising_pairs : (low : ℕ) (bs : List Block) → Ascend low bs → (i j : ℕ) (d : Block) → i < j → j < length bs → (get_or bs i d).start < (get_or bs j d).start
rising_pairs low [] r i j d lt le = absurd (omega (arith, le))
rising_pairs low (b ∷ bs) r i zero d lt le = absurd (omega (arith, lt))
rising_pairs low (b ∷ bs) r zero (suc j) d lt le = let h = rising_at (b.start + 1) bs j d r.1 (omega (arith, le)) in omega (arith, h)
rising_pairs low (b ∷ bs) r (suc i) (suc j) d lt le = rising_pairs (b.start + 1) bs r.1 i j d (omega (arith, lt)) (omega (arith, le))

module _ (f : ElfFile) (o : Options) (leads : ℕ → Bool) (exact : (a : ℕ) → IsTrue (leads a) ↔ IsLeader f o a) (every : Bool) (when : IsTrue every ↔ ((o.entries ≡ entries.All) × HasIndirect f)) (reached : ℕ → Bool) (marks : (a : ℕ) → is_code f a ≡ true → IsTrue (reached a) ↔ IsEntered f o a) where
  -- ---- one block
  long_block : (low : ℕ) (w : CodeWord) (ws : List CodeWord) (b : CodeBlock) → Rest f low (w ∷ ws) → leads w.at ≡ true → IsLongBlock leads reached o.inst_max (w ∷ ws) b → IsLeaderBlock f o (block_of b)
  long_block low w ws b r e l =
      let body = subst (λ xs. IsBody f o leads exact b.start xs (end_of b.end)) (sym l.body)
      (subst (λ i. IsBody f o leads exact b.start (instructions (take (body_size leads (w ∷ ws)) (w ∷ ws))) (end_of i)) (sym l.end)
      (subst (λ a. IsBody f o leads exact a (instructions (take (body_size leads (w ∷ ws)) (w ∷ ws))) (end_of (body_end leads (w ∷ ws)))) (sym l.start) (body_is f o leads exact low w ws r))) in
      record {
        leader = subst (IsLeader f o) (sym l.start) ((exact w.at).0 e);
        body = b.body;
        stands = body.stands;
        inside = body.inside;
        stops = body.stops;
        pieces = l.pieces.pieces;
      }

  short_by : (w : CodeWord) (z : Bool) → ends w ≡ z → IsShortOf w.ins (divided ((if z then 0 else 1) ∷ []) (if z then [] else w.ins ∷ [])) (end_of (if z then Some w.ins else None))
  short_by w true e = (e, refl, refl)
  short_by w false e = (e, refl)

  short_block : (low : ℕ) (w : CodeWord) (ws : List CodeWord) (b : CodeBlock) → Rest f low (w ∷ ws) → leads w.at ≡ false → (o.entries ≡ entries.All) × HasIndirect f → IsShortBlock w b → IsOtherBlock f o (block_of b)
  short_block low w ws b r e h s = record {
    all = h.0;
    indirect = h.1;
    other = λ l. false≢true (sym e ∙ (exact w.at).1 (subst (IsLeader f o) s.start l));
    instruction = w.ins;
    stands = ap (instruction_at f) s.start ∙ r.ascend.2;
    short = subst (λ n. IsShortOf w.ins (divided n b.body) (end_of b.end)) (sym s.lengths)
        (subst (λ xs. IsShortOf w.ins (divided ((if ends w then 0 else 1) ∷ []) xs) (end_of b.end)) (sym s.body)
        (subst (λ i. IsShortOf w.ins (divided ((if ends w then 0 else 1) ∷ []) (if ends w then [] else w.ins ∷ [])) (end_of i)) (sym s.end) (short_by w (ends w) refl)));
  }

  -- a long block, at a leader that is marked as reached or not
  long_marked : (low : ℕ) (w : CodeWord) (ws : List CodeWord) (b : CodeBlock) → Rest f low (w ∷ ws) → IsLongBlock leads reached o.inst_max (w ∷ ws) b → IsMarked f o (block_of b)
  long_marked low w ws b r l =
      let mark = marks w.at r.ascend.1 in
      (λ e. subst (IsEntered f o) (sym l.start) (mark.0 (sym l.marked ∙ e)), λ h. l.marked ∙ mark.1 (subst (IsEntered f o) l.start h))

  short_marked : (w : CodeWord) (b : CodeBlock) → o.entries ≡ entries.All → IsShortBlock w b → IsMarked f o (block_of b)
  short_marked w b all s = (λ e. absurd (false≢true (sym s.unmarked ∙ e)), λ h. absurd (apart (sym all ∙ h.0))) where
    apart : entries.All ≡ entries.Reached → ⊥
    apart x = cc

  -- ---- all blocks, from an address on
  record From (low : ℕ) (bs : List Block) : Type 0 where
    rising : Ascend low bs
    each : All (IsBlockOf f o) bs
    marked : All (IsMarked f o) bs
    leaders : (a : ℕ) → low ≤ a → IsLeader f o a → begins_at bs a ≡ true
    others : every ≡ true → (a : ℕ) → low ≤ a → is_code f a ≡ true → begins_at bs a ≡ true

  -- an address from the first word on is that of the word, or behind it
  next_at : (low : ℕ) (w : CodeWord) (ws : List CodeWord) (a : ℕ) → Rest f low (w ∷ ws) → low ≤ a → is_code f a ≡ true → (a ≡ w.at) ⊎ (w.at + 1 ≤ a)
  next_at low w ws a r le e = ⊎_elim (λ s. inl s) (λ m. inr (above f (w.at + 1) a ws r.ascend.3 m)) (r.complete a le e)

  with_block : (low : ℕ) (w : CodeWord) (ws : List CodeWord) (b : Block) (bs : List Block) → Rest f low (w ∷ ws) → b.start ≡ w.at → IsBlockOf f o b → IsMarked f o b → From (w.at + 1) bs → From low (b ∷ bs)
  with_block low w ws b bs r at good mark rest = record {
    rising = let l = r.ascend.0 in (omega (arith, l, at), subst (λ n. Ascend (n + 1) bs) (sym at) rest.rising);
    each = All-cons (IsBlockOf f o) b bs good rest.each;
    marked = All-cons (IsMarked f o) b bs mark rest.marked;
    leaders = λ a le l. ⊎_elim (λ s. here a s) (λ k. later a (rest.leaders a k l)) (next_at low w ws a r le l.code);
    others = λ i a le e. ⊎_elim (λ s. here a s) (λ k. later a (rest.others i a k e)) (next_at low w ws a r le e);
  } where
    here : (a : ℕ) → a ≡ w.at → begins_at (b ∷ bs) a ≡ true
    here a s = or_left (b.start == a) (begins_at bs a) (eq-eqb b.start a (at ∙ sym s))

    later : (a : ℕ) → begins_at bs a ≡ true → begins_at (b ∷ bs) a ≡ true
    later a e = or_right (b.start == a) (begins_at bs a) e

  without_block : (low : ℕ) (w : CodeWord) (ws : List CodeWord) (bs : List Block) → Rest f low (w ∷ ws) → leads w.at ≡ false → every ≡ false → From (w.at + 1) bs → From low bs
  without_block low w ws bs r free none rest = record {
    rising = let l = r.ascend.0 in rising_less low (w.at + 1) bs (omega (arith, l)) rest.rising;
    each = rest.each;
    marked = rest.marked;
    leaders = λ a le l. ⊎_elim (λ s. absurd (false≢true (sym free ∙ ap leads (sym s) ∙ (exact a).1 l))) (λ k. rest.leaders a k l) (next_at low w ws a r le l.code);
    others = λ i a le e. absurd (false≢true (sym none ∙ i));
  }

  step : (low : ℕ) (w : CodeWord) (ws : List CodeWord) (front back : List CodeBlock) (x y : Bool) → leads w.at ≡ x → every ≡ y → Rest f low (w ∷ ws) → BegunBlocks x y leads reached o.inst_max (w ∷ ws) front → From (w.at + 1) (map block_of back) → From low (map block_of (front ++ back))
  step low w ws front back true y ex ey r one rest =
      subst (λ bs. From low (map block_of (bs ++ back))) (sym one.is)
      (with_block low w ws (block_of one.block) (map block_of back) r one.holds.start (inl (long_block low w ws one.block r ex one.holds)) (long_marked low w ws one.block r one.holds) rest)
  step low w ws front back false true ex ey r one rest =
      subst (λ bs. From low (map block_of (bs ++ back))) (sym one.is)
      (with_block low w ws (block_of one.block) (map block_of back) r one.holds.start (inr (short_block low w ws one.block r ex (when.0 ey) one.holds)) (short_marked w one.block (when.0 ey).0 one.holds) rest)
  step low w ws front back false false ex ey r none rest =
      subst (λ bs. From low (map block_of (bs ++ back))) (sym none)
      (without_block low w ws (map block_of back) r ex ey rest)

  from_built : (low : ℕ) (ws : List CodeWord) (bs : List CodeBlock) → Rest f low ws → Built leads every reached o.inst_max ws bs → From low (map block_of bs)
  from_built low [] bs r e = subst (λ cs. From low (map block_of cs)) (sym e)
      (record {
        rising = tt;
        each = All-nil (IsBlockOf f o);
        marked = All-nil (IsMarked f o);
        leaders = λ a le l. absurd (r.complete a le l.code);
        others = λ i a le c. absurd (r.complete a le c);
      })
  from_built low (w ∷ ws) bs r p =
      subst (λ cs. From low (map block_of cs)) (sym p.is)
      (step low w ws p.front p.back (leads w.at) every refl refl r p.first (from_built (w.at + 1) ws p.back (rest_tail f low w ws r) p.rest))

  pub are_blocks : (code : List CodeWord) (bs : List CodeBlock) → AreCodeWords f code → Built leads every reached o.inst_max code bs → AreBlocks f o (map block_of bs)
  are_blocks code bs words built =
      let all = from_built 0 code bs (rest_all f code words) built in
      record {
        ascend = λ i j d lt le. rising_pairs 0 (map block_of bs) all.rising i j d lt le;
        each = all.each;
        marked = all.marked;
        leaders = λ a l. all.leaders a (omega arith) l;
        others = λ z h a e. all.others (when.1 (z, h)) a (omega arith) e;
      }
