use Rattle.std.proofs.Common.{◌≡◌, ◌∙◌, sym, ap, arith}
use Rattle.weave.specs.Code.{items_of}
use Rattle.weave.specs.Sizes.{prologue_bytes, rows_of}
use Rattle.weave.proofs.RowLaws.{items_marked}
use Rattle.weave.proofs.Sizing.{code_is}
use Rattle.weave.proofs.count.counted_by_blocks.Goals as goal

pub returns-clause-counted : goal.returns-clause-counted
returns-clause-counted c =
    let s = c.sizes_of-sizes.result in
    let o = c.args.options.now in
    let t = c.args.test.now in
    let far = c.args.far in
    let blocks = c.args.blocks.now in
    let sum = code_is far o t s blocks c.sizes_of-sizes.ensures c.requires.fit in
    let first : c.prologue_size-first.result ≡ prologue_bytes s.go t.span = c.prologue_size-first.ensures ∙ ap (λ rs. prologue_bytes s.go rs) c.as_slice.ensures in
    c.of.ensures.counted (items_of t o far blocks) (omega (arith, sum, first, c.in_ok-rows.ensures.end))
    (λ small.
    c.in_ok-rows.ensures.rows (omega (arith, small, sum, first))
    ∙ ap (λ n. rows_of s n blocks) first
    ∙ sym (items_marked far o t s blocks c.sizes_of-sizes.ensures c.requires.fit))
