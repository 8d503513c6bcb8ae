-- The steps of a body are those of its pieces.
use Rattle.std.proofs.Common.{◌≡◌, ℕ, zero, suc, ◌+◌, ◌*◌, ◌<◌, Bool, List, [], ◌∷◌, length, drop, take, sum, refl, sym, ap, ◌∙◌, arith, length-drop}
use Rattle.std.proofs.lemmas.List.Sums.{sum_by-cons}
use Rattle.qed_model.specs.Weave.LeanBounds.{entry_steps}
use Rattle.qed_model.specs.Weave.Pieces.{divided}
use Rattle.qed_model.specs.Weave.Sequences.{body_length, Ins}
use Rattle.qed_model.specs.Weave.Costs.{cost_each}
use Rattle.qed_model.specs.Weave.Lean.{leave_cost}
use Rattle.qed_model.specs.Weave.LeanCode.{fall_to, both_steps, body_steps, block_steps}
use Rattle.block_split.specs.declared.block.CodeBlock.{CodeBlock}
use Rattle.block_split.specs.Listed.{block_of, end_of}
use Rattle.relinker.specs.Counted.{capped}
use Rattle.weave.specs.Fits.{FitsBlock}
use Rattle.weave.proofs.BodyLeft.{whole_length}

cost_split : (f : Ins → ℕ) (n : ℕ) (is : List Ins) → cost_each f is ≡ cost_each f (take n is) + cost_each f (drop n is)
cost_split f zero [] = omega arith
cost_split f zero (i ∷ is) = omega arith
cost_split f (suc n) [] = omega arith
cost_split f (suc n) (i ∷ is) = let r = cost_split f n is in omega (arith, r)

pub body_is : (diverse : Bool) (ns : List ℕ) (is : List Ins) → sum ns ≡ length is → body_steps diverse (divided ns is) ≡ cost_each (both_steps diverse) is
body_is diverse [] [] e = refl
body_is diverse [] (i ∷ is) e = absurd (omega (arith, e))
body_is diverse (n ∷ ns) is e =
    let w : n + sum ns ≡ length is = sym (sum_by-cons (λ n. n) n ns) ∙ e in
    let d = length-drop n is in
    let r = body_is diverse ns (drop n is) (omega (arith, w, d)) in
    let s = cost_split (both_steps diverse) n is in
    omega (arith, r, s)

-- ---- of a block
pub steps_are :
    (diverse land : Bool) (leader : ℕ → Bool) (b : CodeBlock) → FitsBlock b → (body leave : ℕ) → body ≡ capped (cost_each (both_steps diverse) b.body)
    → leave ≡ leave_cost (fall_to leader) (end_of b.end) b.start (b.start + 4 * length b.body) → block_steps diverse land leader (block_of b) < 2048
    → body + (leave + entry_steps land) ≡ block_steps diverse land leader (block_of b)
steps_are diverse land leader b fit body leave e g few =
    let s = body_is diverse b.lengths b.body fit.whole in
    let n = whole_length b.lengths b.body fit.whole in
    let l : leave ≡ leave_cost (fall_to leader) (end_of b.end) b.start (b.start + 4 * body_length (divided b.lengths b.body)) = g ∙ ap (λ k. leave_cost (fall_to leader) (end_of b.end) b.start (b.start + 4 * k)) (sym n) in
    omega (arith, s, e, l, few)
