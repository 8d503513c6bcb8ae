-- The data of a file, as the rules on data see it.
use Rattle.std.specs.Prelude.{◌≡◌, ℕ, List, map, filter}
use Rattle.tests.specs.Admission.DataRanges.{is_executed, rounded, joined_ranges, data_ranges, Segment}
use Rattle.tests.specs.declared.range.Span.{Span}
use Rattle.test_admission.specs.declared.data_ranges.DataSpans.{DataSpans}
use Rattle.tests.specs.Ranges.{spans, span, AreSpaced}

-- the segments of an image that are executed, rounded out
abbrev pub executed_spans : List Segment → List (ℕ × ℕ)
executed_spans image = map rounded (filter is_executed image)

-- the ranges are those of code, rounded out and joined
pub record AreCode (image : List Segment) (ss : List Span) : Type 0 where
  pub ranges : spans ss ≡ joined_ranges (executed_spans image)
  pub spaced : AreSpaced span ss

-- the aligned words of code, and the data ranges
pub record IsDataOf (image : List Segment) (d : DataSpans) : Type 0 where
  pub code : AreCode image d.code.items
  pub ranges : spans d.ranges.items ≡ data_ranges image
  pub spaced : AreSpaced span d.ranges.items
