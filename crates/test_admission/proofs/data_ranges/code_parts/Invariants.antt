use Rattle.std.proofs.Common.{◌≡◌, ◌++◌, drop}
use Rattle.tests.specs.Admission.Terms.{image_segments}
use Rattle.tests.specs.Ranges.{spans}
use Rattle.test_admission.specs.Spans.{HaveSome}
use Rattle.test_admission.specs.DataSpans.{executed_spans}
use Rattle.test_admission.proofs.data_ranges.code_parts.Given as goal

-- the parts so far and those of the rest are those of all
abbrev pub invariant-loop-segment : goal.invariant-loop-segment
invariant-loop-segment l = record {
  parts : spans l.parts.items ++ executed_spans (image_segments (drop l.segment-index l.segments)) ≡ executed_spans (image_segments l.segments);
  some : HaveSome l.parts.items;
}
