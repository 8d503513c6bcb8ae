use Rattle.std.proofs.Common.{ap, ◌∙◌}
use Rattle.weave.specs.Sizes.{prologue_bytes}
use Rattle.weave.proofs.Sizing.{code_is, total_is}
use Rattle.weave.proofs.size.code_size.Goals as goal

pub returns : goal.returns
returns c =
    let s = c.sizes_of-sizes.result in
    total_is _ _ _ _ _ _ _ (code_is c.args.far c.args.options.now c.args.test.now s c.args.blocks.now c.sizes_of-sizes.ensures c.requires.fit)
    (c.prologue_size-first.ensures ∙ ap (λ rs. prologue_bytes s.go rs) c.as_slice.ensures) c.blocks_size.ensures c.saturating_add-size.ensures c.saturating_add.ensures
