use Rattle.std.proofs.Common.{◌≡◌, drop}
use Rattle.machine.specs.Loading.{load_segments, section_ranges}
use Rattle.tests.specs.Admission.Rules.{is_empty}
use Rattle.test_admission.proofs.shape.has_no_section.Given as goal

-- the rest decides
abbrev pub invariant-loop-section : goal.invariant-loop-section
invariant-loop-section l = is_empty (section_ranges (load_segments l.segments) (drop l.section-index l.sections)) ≡ is_empty (section_ranges (load_segments l.segments) l.sections)
