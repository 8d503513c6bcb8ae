-- The blocks of an admitted test can be woven.
use Rattle.std.proofs.Common.{◌≡◌, ⊎_elim, ℕ, ◌+◌, ◌*◌, ◌^◌, ◌<◌, ◌≤◌, true, List, [], ◌∷◌, ◌++◌, length, map, sum, take, drop, get_or, Option, Some, None, refl, sym, ap, ◌∙◌, subst, arith}
use Rattle.std.specs.Prelude.{All}
use Rattle.std.proofs.lemmas.Bool.{false≢true}
use Rattle.std.proofs.lemmas.List.{take-append-drop, length-drop, length-map, get_or-map}
use Rattle.std.proofs.lemmas.List.Sums.{sum_by-cons}
use Rattle.std.proofs.lemmas.List.Elements.{All-nil, All-cons, All-head, All-tail}
use Rattle.rv_isa.specs.declared.class.Class.{Class}
use Rattle.rv_isa.specs.declared.class.Class.TheVariants as class
use Rattle.rv_isa.specs.Kind.{class_of}
use Rattle.tests.specs.declared.test.CodeWord.{CodeWord}
use Rattle.tests.specs.Admission.CodeWords.{Ins, is_code, instruction_at}
use Rattle.tests.specs.Admission.Leaders.{is_end}
use Rattle.tests.specs.Admission.Test.{AreCodeWords}
use Rattle.qed_model.specs.Weave.Pieces.{divided, whole}
use Rattle.qed_model.specs.Weave.Blocks.{ElfFile, IsBodyAt, StopsAt, IsLeaderBlock, IsShort, IsOtherBlock, IsBlockOf, Options}
use Rattle.qed_model.proofs.Lemmas.{pieces_whole}
use Rattle.weave_core.specs.Blocks.{AllFit}
use Rattle.weave_core.proofs.Lemmas.{is_fence_class, IsKnownCode, low_instruction, fits_piece, body_fits}
use Rattle.weave_core.proofs.FileOfItems as file
use Rattle.block_split.specs.declared.block.CodeBlock.{CodeBlock}
use Rattle.block_split.specs.Listed.{end_of, block_of, IsWithinTop}
use Rattle.weave.specs.Fits.{FitsLeave, FitsEnd, FitsBlock}
use Rattle.weave.specs.Admitted.{BlocksFit}

-- ---- the pieces of a body make it up
pieces_make : (ns : List ℕ) (is : List Ins) → sum ns ≡ length is → whole (divided ns is) ≡ is
pieces_make [] [] e = refl
pieces_make [] (i ∷ is) e = absurd (omega (arith, e))
pieces_make (n ∷ ns) is e =
    let w : n + sum ns ≡ length is = sym (sum_by-cons (λ n. n) n ns) ∙ e in
    let d = length-drop n is in
    ap (λ l. take n is ++ l) (pieces_make ns (drop n is) (omega (arith, w, d))) ∙ take-append-drop n is

module _ (f : ElfFile) (code : IsKnownCode f) where
  -- the end of a block
  leaves_as : (a : ℕ) (i : Ins) → instruction_at f a ≡ Some i → (c : Class) → class_of i.kind ≡ c → is_end c ≡ true → FitsLeave c i
  leaves_as a i h class.End e n = tt
  leaves_as a i h class.Illegal e n = tt
  leaves_as a i h class.Jump e n = (low_instruction f code a i h (ap is_fence_class e)).0
  leaves_as a i h class.Branch e n = let l = low_instruction f code a i h (ap is_fence_class e) in (l.1, l.2)
  leaves_as a i h class.JumpReg e n = let l = low_instruction f code a i h (ap is_fence_class e) in (l.0, l.1)
  leaves_as a i h c e n = absurd (false≢true n)

  leaves : (a : ℕ) (i : Ins) → instruction_at f a ≡ Some i → is_end (class_of i.kind) ≡ true → FitsEnd (Some i)
  leaves a i h n = leaves_as a i h (class_of i.kind) refl n

  stop_fits : (o : Options) (e : Option Ins) (n a : ℕ) → StopsAt f o (end_of e) n a → FitsEnd e
  stop_fits o None n a s = tt
  stop_fits o (Some i) n a s = leaves a i s.0 s.1

  module _ (o : Options) (top : ℕ) (some : 1 ≤ o.inst_max) (small : top < 2 ^ 64) where
    leader_fits : (b : CodeBlock) → IsWithinTop top b → IsLeaderBlock f o (block_of b) → FitsBlock b
    leader_fits b w l =
        let same : l.body ≡ b.body = sym (pieces_whole o.inst_max l.body (divided b.lengths b.body) some l.pieces) ∙ pieces_make b.lengths b.body w.whole in
        let low = w.below in
        let fit : b.start + 4 * length b.body < 2 ^ 64 = omega (arith, low, small) in
        record {
          body = body_fits f code b.start b.body (subst (IsBodyAt f b.start) same l.stands);
          end = stop_fits o b.end (length b.body) (b.start + 4 * length b.body) (subst (λ is. StopsAt f o (end_of b.end) (length is) (b.start + 4 * length is)) same l.stops);
          whole = w.whole;
          low = fit;
        }

    short_fits : (b : CodeBlock) → IsWithinTop top b → (i : Ins) → instruction_at f b.start ≡ Some i → (e : Option Ins) → IsShort i (divided b.lengths b.body) (end_of e) → AllFit b.body × FitsEnd e
    short_fits b w i h None s =
        let same : i ∷ [] ≡ b.body = sym (ap whole s.1) ∙ pieces_make b.lengths b.body w.whole in
        (subst AllFit same (fits_piece f code b.start i h s.0, tt), tt)
    short_fits b w i h (Some k) s =
        let same : [] ≡ b.body = sym (ap whole s.1) ∙ pieces_make b.lengths b.body w.whole in
        (subst AllFit same tt, subst (λ j. FitsEnd (Some j)) (sym s.2) (leaves b.start i h s.0))

    other_fits : (b : CodeBlock) → IsWithinTop top b → IsOtherBlock f o (block_of b) → FitsBlock b
    other_fits b w q =
        let low = w.below in
        let p = short_fits b w q.instruction q.stands b.end q.short in
        record { body = p.0; end = p.1; whole = w.whole; low = omega (arith, low, small) }

    all_fit : (bs : List CodeBlock) → All (IsWithinTop top) bs → All (IsBlockOf f o) (map block_of bs) → All FitsBlock bs
    all_fit [] w h = All-nil FitsBlock
    all_fit (b ∷ bs) w h =
        let x = All-head (IsBlockOf f o) (block_of b) (map block_of bs) h in
        let v = All-head (IsWithinTop top) b bs w in
        All-cons FitsBlock b bs
        (⊎_elim (λ l. leader_fits b v l) (λ q. other_fits b v q) x)
        (all_fit bs (All-tail (IsWithinTop top) b bs w) (All-tail (IsBlockOf f o) (block_of b) (map block_of bs) h))

-- ---- all blocks of a test
-- the words of the test stand at code addresses
pub words_below : (f : ElfFile) (top : ℕ) (code : List CodeWord) → AreCodeWords f code → ((a : ℕ) → is_code f a ≡ true → a + 4 ≤ top) → All (λ c. c.at + 4 ≤ top) code
words_below f top code words reach k d lt =
    let c = get_or code k d in
    let n : k < length (map (λ (w : CodeWord). w.at) code) = simp length-map lt in
    reach (get_or code k d).at ((words.addresses.all (get_or code k d).at).0 (k, n, get_or-map (λ (w : CodeWord). w.at) code k d (get_or code k d).at lt))

pub blocks_fit : BlocksFit
blocks_fit f o code blocks t =
    let bounds = file.code_bounds f o t.sound t.file.loads t.admitted (map block_of blocks) t.are in
    let top = (file.is f o t.sound t.file.loads t.admitted (map block_of blocks) t.are).top in
    let below : (a : ℕ) → is_code f a ≡ true → a + 4 ≤ 2 ^ 63 = λ a e. let b = bounds a e in omega (arith, b.1, top) in
    let some = t.sound.some in
    let room = t.sound.room in
    all_fit f (file.known f o t.sound t.file.loads t.admitted (map block_of blocks) t.are) o (2 ^ 63) (omega (arith, some, room)) (omega arith) blocks (t.within (2 ^ 63) (words_below f (2 ^ 63) code t.words below)) t.are.each
