use Rattle.std.proofs.Common.{◌≡◌, ◌++◌, drop}
use Rattle.machine.specs.Loading.{load_segments, section_ranges}
use Rattle.tests.specs.Ranges.{spans}
use Rattle.tests.proofs.found.ranges_of_sections.Given as goal

-- the ranges so far and those of the rest are those of all
abbrev pub invariant-loop-section : goal.invariant-loop-section
invariant-loop-section l = spans l.ranges.items ++ section_ranges (load_segments l.segments) (drop l.section-index l.sections) ≡ section_ranges (load_segments l.segments) l.sections
