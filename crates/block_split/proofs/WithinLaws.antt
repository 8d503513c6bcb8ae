-- How long blocks are.
use Rattle.std.proofs.Common.{◌≡◌, ℕ, ◌+◌, ◌*◌, ◌≤◌, Bool, true, false, List, [], ◌∷◌, ◌++◌, length, refl, sym, ap, ◌∙◌, arith}
use Rattle.std.specs.Prelude.{All, ◌↔◌, IsTrue, sum, if◌then◌else◌}
use Rattle.std.proofs.lemmas.List.Elements.{All-nil, All-cons, All-append, All-contains, All-same}
use Rattle.tests.specs.declared.test.CodeWord.{CodeWord}
use Rattle.qed_model.specs.Weave.Blocks.{IsBodyAt, ElfFile, Options}
use Rattle.tests.specs.Admission.CodeWords.{is_code, Ins}
use Rattle.tests.specs.Admission.Leaders.{IsLeader}
use Rattle.tests.specs.Admission.Test.{AreCodeWords}
use Rattle.machine.proofs.Lemmas.{contains_of}
use Rattle.flow_recovery.proofs.CodeLaws.{code_word, standing_code}
use Rattle.block_split.specs.declared.block.CodeBlock.{CodeBlock}
use Rattle.block_split.specs.Bodies.{ends}
use Rattle.block_split.specs.Built.{IsLongBlock, IsShortBlock, BegunBlocks, Built}
use Rattle.block_split.specs.Listed.{IsWithinTop}
use Rattle.block_split.proofs.BodyLaws.{Rest, rest_tail, rest_all, body_is}

module _ (f : ElfFile) (top : ℕ) (reach : (a : ℕ) → is_code f a ≡ true → a + 4 ≤ top) where
  -- a body goes no further than the code
  body_below : (a : ℕ) (xs : List Ins) → a ≤ top → IsBodyAt f a xs → a + 4 * length xs ≤ top
  body_below a [] le b = omega (arith, le)
  body_below a (i ∷ is) le b =
      let next = reach a (standing_code f a i b.0) in
      let h = body_below (a + 4) is next b.2 in
      omega (arith, h)

  module _ (o : Options) (leads : ℕ → Bool) (exact : (a : ℕ) → IsTrue (leads a) ↔ IsLeader f o a) (every : Bool) (reached : ℕ → Bool) (most : ℕ) where
    long_within : (low : ℕ) (w : CodeWord) (ws : List CodeWord) (b : CodeBlock) → Rest f low (w ∷ ws) → IsLongBlock leads reached most (w ∷ ws) b → IsWithinTop top b
    long_within low w ws b r l = record {
      whole = l.pieces.total;
      below =
          let here = reach w.at r.ascend.1 in
          let h = body_below w.at _ (omega (arith, here)) (body_is f o leads exact low w ws r).stands in
          let s = l.start in
          let n = ap length l.body in
          omega (arith, h, s, n);
    }

    short_by : (w : CodeWord) (z : Bool) → w.at + 4 ≤ top → (sum ((if z then 0 else 1) ∷ []) ≡ length (if z then [] else w.ins ∷ [])) × (w.at + 4 * length (if z then [] else w.ins ∷ []) ≤ top)
    short_by w true h = (refl, omega (arith, h))
    short_by w false h = (refl, omega (arith, h))

    short_within : (low : ℕ) (w : CodeWord) (ws : List CodeWord) (b : CodeBlock) → Rest f low (w ∷ ws) → IsShortBlock w b → IsWithinTop top b
    short_within low w ws b r h =
        let p = short_by w (ends w) (reach w.at r.ascend.1) in
        record {
          whole = ap sum h.lengths ∙ p.0 ∙ ap length (sym h.body);
          below =
              let q = p.1 in
              let s = h.start in
              let n = ap length h.body in
              omega (arith, q, s, n);
        }

    one_within : (b : CodeBlock) (bs : List CodeBlock) → bs ≡ b ∷ [] → IsWithinTop top b → All (IsWithinTop top) bs
    one_within b bs e h = All-same (IsWithinTop top) bs (b ∷ []) e (All-cons (IsWithinTop top) b [] h (All-nil (IsWithinTop top)))

    begun_within : (low : ℕ) (w : CodeWord) (ws : List CodeWord) (bs : List CodeBlock) (x y : Bool) → Rest f low (w ∷ ws) → BegunBlocks x y leads reached most (w ∷ ws) bs → All (IsWithinTop top) bs
    begun_within low w ws bs true y r one = one_within one.block bs one.is (long_within low w ws one.block r one.holds)
    begun_within low w ws bs false true r one = one_within one.block bs one.is (short_within low w ws one.block r one.holds)
    begun_within low w ws bs false false r none = All-same (IsWithinTop top) bs [] none (All-nil (IsWithinTop top))

    built_within : (low : ℕ) (ws : List CodeWord) (bs : List CodeBlock) → Rest f low ws → Built leads every reached most ws bs → All (IsWithinTop top) bs
    built_within low [] bs r e = All-same (IsWithinTop top) bs [] e (All-nil (IsWithinTop top))
    built_within low (w ∷ ws) bs r p =
        All-same (IsWithinTop top) bs (p.front ++ p.back) p.is
        (All-append (IsWithinTop top) p.front p.back
        (begun_within low w ws p.front (leads w.at) every r p.first)
        (built_within (w.at + 1) ws p.back (rest_tail f low w ws r) p.rest))

-- if no word stands past `top`, no block does
pub blocks_within :
    (f : ElfFile) (o : Options) (leads : ℕ → Bool) (exact : (a : ℕ) → IsTrue (leads a) ↔ IsLeader f o a) (every : Bool) (reached : ℕ → Bool) (most : ℕ) (code : List CodeWord) (bs : List CodeBlock)
    → AreCodeWords f code → Built leads every reached most code bs → (top : ℕ) → All (λ c. c.at + 4 ≤ top) code → All (IsWithinTop top) bs
blocks_within f o leads exact every reached most code bs words built top small =
    built_within f top reach o leads exact every reached most 0 code bs (rest_all f code words) built where
      reach : (a : ℕ) → is_code f a ≡ true → a + 4 ≤ top
      reach a e =
          let w = code_word f code words a e in
          let h = All-contains (λ (c : CodeWord). c.at + 4 ≤ top) code w.word small (contains_of w.word code w.among) in
          let at = w.at in
          omega (arith, h, at)
