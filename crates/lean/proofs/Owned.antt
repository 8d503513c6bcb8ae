-- Each block of a test in lean form is one that its weaver is for.
use Rattle.std.proofs.Common.{◌≡◌, ⊎_elim, inl, inr, ℕ, suc, ◌+◌, ◌-◌, ◌*◌, ◌%◌, ◌^◌, ◌<◌, ◌≤◌, Bool, true, false, cond, List, [], ◌∷◌, length, map, refl, sym, ap, ◌∙◌, subst, arith}
use Rattle.std.specs.Prelude.{All, ◌||◌, pos, negsuc, ◌≤ℤ◌, nat_le, nat_lt}
use Rattle.std.proofs.lemmas.Bool.{and_parts, leb-true, ltb-true, or_cases}
use Rattle.std.proofs.lemmas.Int.{ints}
use Rattle.std.proofs.lemmas.List.Elements.{All-nil, All-cons, All-head, All-tail}
use Rattle.rv_isa.specs.declared.class.Class.TheVariants as class
use Rattle.machine.specs.Members.{Among}
use Rattle.machine.specs.Step.{target, Ins, Class, class_of}
use Rattle.qed_model.specs.Weave.Blocks.{begins_at, ElfFile, Options}
use Rattle.tests.specs.Admission.Places.{base_of, image_of, half_of, code_place}
use Rattle.qed_model.specs.Weave.Sequences.{End, Falls, Stops, Block, body_length}
use Rattle.qed_model.specs.Weave.LeanCode.{start_at, block_steps}
use Rattle.qed_model.proofs.Lemmas.{sound_most, is_within, branch_imm, jump_imm}
use Rattle.weave_core.proofs.FileOfItems as of
use Rattle.weave_core.proofs.TestKnown as there
use Rattle.weave_core.proofs.TestWords as words
use Rattle.weave_core.proofs.Lemmas.{down, up, KnownEnd, IsKnownEnd, IsKnownBlock, IsNear as IsNearCode}
use Rattle.block_split.specs.declared.block.CodeBlock.{CodeBlock}
use Rattle.block_split.specs.Listed.{block_of, end_of}
use Rattle.weave.specs.Fits.{FitsBlock}
use Rattle.weave.proofs.BodyLeft.{whole_length}
use Rattle.lean.specs.Tests.{AreLeanBlocks}
use Rattle.lean.proofs.Weave.Blocks.{starts}
use Rattle.lean.proofs.Weave.Near.{nearer}
use Rattle.lean.proofs.Weave.Short.{only_reached, few_steps, own_few, short}
use Rattle.lean.specs.declared.weaver.LeanWeaver.{LeanWeaver}
use Rattle.lean.specs.Form.{blocks_in, IsOwn}
use Rattle.lean.specs.Leaves.{IsNear, TurnsAs, Turns}

-- ---- where the signature turns
-- an address within 2^31 is near
is_near : (a t : ℕ) → is_within a 2147481600 2147481599 t ≡ true → IsNear a t
is_near a t h = by ((t + (2 ^ 64 - a)) % 2 ^ 64) (omega arith) (nat_lt ((t + (2 ^ 64 - a)) % 2 ^ 64) (2 ^ 63)) refl h where
  by :
      (x : ℕ) → x < 2 ^ 64 → (c : Bool) → nat_lt x (2 ^ 63) ≡ c → (nat_le x 2147481599 || nat_le (2 ^ 64 - 2147481600) x) ≡ true
      → cond c (pos x) (negsuc (2 ^ 64 - suc x)) ≤ℤ pos (2 ^ 63 - 2049)
  by x lt true e h =
      let k = ltb-true x (2 ^ 63) e in
      ⊎_elim
      (λ u. let l = leb-true x 2147481599 u in omega (arith, ints, l))
      (λ u. let l = leb-true (2 ^ 64 - 2147481600) x u in absurd (omega (arith, l, k)))
      (or_cases (nat_le x 2147481599) (nat_le (2 ^ 64 - 2147481600) x) h)
  by x lt false e h = omega (arith, ints)

module _ (f : ElfFile) (o : Options) (every : ℕ) (blocks : List CodeBlock) (t : AreLeanBlocks f o every (map block_of blocks)) where
  abbrev bs : List Block
  bs = map block_of blocks

  abbrev d : ℕ
  d = half_of o.half (image_of f)

  abbrev base : ℕ
  base = base_of (image_of f)

  abbrev at : ℕ
  at = code_place o.half (image_of f)

  abbrev top : base + 3 * d + 134217728 ≤ 2 ^ 63
  top = (there.is f o t.sound t.file.loads t.admitted bs t.are).top

  abbrev bounds : (d % 4096 ≡ 0) × (d ≤ 536870912)
  bounds = there.bounds f o t.sound t.file.loads t.admitted bs t.are

  module _ (a : ℕ) (low : base ≤ a) (high : a ≤ base + d) where
    near : (v : ℕ) → IsNearCode at base d refl top bounds.1 v → IsNear a v
    near v n =
        let p = and_parts (nat_lt v (2 ^ 64)) (is_within at down up v) n in
        let lt = ltb-true v (2 ^ 64) p.0 in
        is_near a v (nearer a at v (omega (arith, high)) (omega (arith, low, bounds.1)) (omega (arith, top)) lt p.1)

    turns_as : (c : Class) (i : Ins) (x : ℕ) → class_of i.kind ≡ c → KnownEnd at base d refl top bounds.1 i x → TurnsAs c i a x
    turns_as class.Jump i x e k = near (target i x) (words.goal_near at base d refl top bounds.1 i x 21 k (jump_imm i e k.word) (omega arith))
    turns_as class.Branch i x e k =
        (near (target i x) (words.goal_near at base d refl top bounds.1 i x 13 k (branch_imm i e k.word) (omega arith)), near ((x + 4) % 2 ^ 64) (words.next_near at base d refl top bounds.1 x k.from k.to))
    turns_as class.Load i x e k = tt
    turns_as class.Store i x e k = tt
    turns_as class.Compute i x e k = tt
    turns_as class.JumpReg i x e k = tt
    turns_as class.Fence i x e k = tt
    turns_as class.End i x e k = tt
    turns_as class.Illegal i x e k = tt
    turns_as class.Break i x e k = tt

    turns : (e : End) (x : ℕ) → IsKnownEnd at base d refl top bounds.1 e x → Turns e a x
    turns Falls x k = near x (words.place_near at base d refl top bounds.1 x k.0 k.1)
    turns (Stops i) x k = turns_as (class_of i.kind) i x refl k

  -- ---- the blocks
  grain : (a : ℕ) → begins_at bs a ≡ true → a % 4 ≡ 0
  grain a e = of.block_grain f o t.sound t.file.loads t.admitted bs t.are a e

  -- where a block begins is found by its end
  pub begun : (b : CodeBlock) → Among (block_of b) bs → FitsBlock b → start_at bs (end_of b.end) (b.start + 4 * length b.body) ≡ b.start
  begun b m fit =
      let ascend = of.ascend f o t.sound t.file.loads t.admitted bs t.are in
      let reached = only_reached f o every t.sound t.lean in
      let found = starts f o (sound_most o t.sound) bs t.are reached grain ascend (block_of b) m in
      ap (λ n. start_at bs (end_of b.end) (b.start + 4 * n)) (sym (whole_length b.lengths b.body fit.whole)) ∙ found

  -- each has fewer steps than there are from check to check
  abbrev IsFew : CodeBlock → Type 0
  IsFew b = block_steps o.diverse o.land (begins_at bs) (block_of b) < 2048

  few_in : (cs : List CodeBlock) → ((b : Block) → Among b (map block_of cs) → Among b bs) → All IsFew cs
  few_in [] h = All-nil IsFew
  few_in (b ∷ cs) h =
      let less = short f o every t.sound t.lean bs t.are grain (block_of b) (h (block_of b) (inl refl)) in
      let own = own_few f o every t.sound t.lean in
      let few = few_steps f o every t.sound t.lean in
      All-cons IsFew b cs (omega (arith, less, own, few)) (few_in cs (λ c m. h c (inr m)))

  pub all_few : All IsFew blocks
  all_few = few_in blocks (λ b m. m)

  module _ (w : LeanWeaver) (are : w.blocks.now ≡ blocks) where
    one : (b : CodeBlock) → Among (block_of b) bs → IsKnownBlock at base d refl top bounds.1 (block_of b) → FitsBlock b → IsOwn w b
    one b m k fit =
        let same : blocks_in w ≡ bs = ap (map block_of) are in
        let long : body_length (block_of b).body ≡ length b.body = whole_length b.lengths b.body fit.whole in
        record {
          starts = subst (λ l. start_at l (end_of b.end) (b.start + 4 * length b.body) ≡ b.start) (sym same) (begun b m fit);
          near = subst (λ n. Turns (end_of b.end) b.start (b.start + 4 * n)) long (turns b.start k.0 k.1 (end_of b.end) (b.start + 4 * body_length (block_of b).body) k.3);
        }

    each : (cs : List CodeBlock) → ((b : Block) → Among b (map block_of cs) → Among b bs) → All (IsKnownBlock at base d refl top bounds.1) (map block_of cs) → All FitsBlock cs → All (IsOwn w) cs
    each [] h k fit = All-nil (IsOwn w)
    each (b ∷ cs) h k fit =
        All-cons (IsOwn w) b cs
        (one b (h (block_of b) (inl refl)) (All-head (IsKnownBlock at base d refl top bounds.1) (block_of b) (map block_of cs) k) (All-head FitsBlock b cs fit))
        (each cs (λ c m. h c (inr m)) (All-tail (IsKnownBlock at base d refl top bounds.1) (block_of b) (map block_of cs) k) (All-tail FitsBlock b cs fit))

    pub owned : All FitsBlock blocks → All (IsOwn w) blocks
    owned fit = each blocks (λ b m. m) (there.blocks_there f o t.sound t.file.loads t.admitted bs t.are bs t.are.each) fit
