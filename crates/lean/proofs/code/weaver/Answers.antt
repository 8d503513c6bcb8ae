use Rattle.std.proofs.Common.{◌+◌, ◌^◌, ◌<◌, map, refl, sym, subst, arith}
use Rattle.block_split.specs.Listed.{block_of}
use Rattle.qed_model.specs.Weave.LeanCode.{worded}
use Rattle.qed_model.specs.Weave.LeanParts.{worded_parts}
use Rattle.qed_model.specs.Weave.Placed.{EntriesAscend, leads_to}
use Rattle.lean.specs.Counts.{ticks_in, most_in}
use Rattle.lean.proofs.Forms.{blocks_ascend, half_small, few_every, woven_is}
use Rattle.lean.proofs.code.weaver.Goals as goal

pub returns-clause-code : goal.returns-clause-code
returns-clause-code c =
    woven_is worded c.args.test.now c.args.options.now c.args.every (map block_of c.args.blocks.now) c.in_ok-span.span c.args.options.now.diverse (ticks_in c.in_ok-counts.counts) (most_in c.in_ok-counts.counts)
    c.in_ok-span.ensures refl c.in_ok-counts.ensures.ticks c.in_ok-counts.ensures.most

pub returns-clause-parts : goal.returns-clause-parts
returns-clause-parts c =
    woven_is worded_parts c.args.test.now c.args.options.now c.args.every (map block_of c.args.blocks.now) c.in_ok-span.span c.args.options.now.diverse (ticks_in c.in_ok-counts.counts) (most_in c.in_ok-counts.counts)
    c.in_ok-span.ensures refl c.in_ok-counts.ensures.ticks c.in_ok-counts.ensures.most

pub invariant_of-result : goal.invariant_of-result
invariant_of-result c = record {
  ascend = blocks_ascend c.requires.0 c.args.options.now c.args.every c.args.test.now c.args.blocks.now c.requires.1;
  rows = subst EntriesAscend (sym c.new.ensures.items) (λ i j d lt l. absurd (omega (arith, l)));
  low = λ a. subst (λ rows. leads_to rows 0 a + 32 < 2 ^ 64) (sym c.new.ensures.items) (omega arith);
  half = half_small c.requires.0 c.args.options.now c.args.every c.args.test.now c.args.blocks.now c.requires.1;
  few = few_every c.requires.0 c.args.options.now c.args.every c.args.test.now c.args.blocks.now c.requires.1;
  short = c.in_ok-counts.ensures.bound;
}
