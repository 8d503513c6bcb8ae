use Rattle.std.proofs.Common.{◌≡◌, ◌+◌, ◌-◌, ◌≤◌, ◌∙◌, sym, ap, subst, arith}
use Rattle.machine.specs.Loading.{load_segment, load_segments}
use Rattle.machine.proofs.Lemmas.{among_of}
use Rattle.tests.specs.Ranges.{span}
use Rattle.test_admission.specs.Stretches.{part_span, ReadsImage}
use Rattle.test_admission.proofs.Reading.{held_from, reads_of}
use Rattle.test_admission.proofs.stretches.stretch_of.Goals as goal

pub returns : goal.returns
returns c =
    let h = c.in_ok-segment.ensures in
    let start = c.args.range.start in
    let inside = held_from (span c.args.range) (load_segment c.in_ok-segment.segment.now) h.3 in
    let size : start + (c.args.range.end - start) ≡ c.args.range.end = omega (arith, c.requires.some) in
    let to : start + (c.args.range.end - start) ≤ c.in_ok-segment.segment.now.address + c.in_ok-segment.segment.now.memory = subst (λ n. n ≤ c.in_ok-segment.segment.now.address + c.in_ok-segment.segment.now.memory) (sym size) inside.1 in (
      h.0,
      ap part_span c.of.ensures ∙ ap (λ n. (start, n)) size,
      subst (ReadsImage (load_segments c.args.segments.now)) (sym c.of.ensures) (reads_of c.args.segments.now c.requires.read c.in_ok-segment.segment.now start _ (among_of _ _ h.1) h.2 inside.0 to),
    )
