-- What is known of a file when all rules and limits have been tested.
use Rattle.std.specs.Prelude.{◌≡◌, ◌≤◌, None}
use Rattle.machine.specs.declared.limits.TheConstants.{MAX_IMAGE_SPAN}
use Rattle.tests.specs.declared.options.Options.{Options}
use Rattle.tests.specs.Admission.CodeWords.{ranges_of, ElfFile}
use Rattle.tests.specs.Admission.Refusals.{IsAdmitted}
use Rattle.tests.specs.Admission.Places.{image_of}
use Rattle.tests.specs.Ranges.{spans}
use Rattle.test_admission.specs.declared.check.TestParts.{TestParts}
use Rattle.test_admission.specs.declared.rules.CodeRule.TheVariants as rule
use Rattle.test_admission.specs.DataSpans.{IsDataOf}
use Rattle.test_admission.specs.Faults.{first_among}
use Rattle.test_admission.specs.Places.{ArePlacesOf}
use Rattle.test_admission.specs.Stretches.{stretch_parts, AreCodeOf}

-- the file is admitted, and these are its parts
pub record IsChecked (f : ElfFile) (o : Options) (c : TestParts) : Type 0 where
  pub admitted : IsAdmitted f o
  pub ranges : spans c.ranges.items ≡ ranges_of f
  pub code : AreCodeOf f (stretch_parts c.code.items)
  pub known : first_among rule.Unknown (stretch_parts c.code.items) ≡ None
  pub places : ArePlacesOf f c.places
  pub small : c.places.span ≤ MAX_IMAGE_SPAN
  pub spans : IsDataOf (image_of f) c.spans
