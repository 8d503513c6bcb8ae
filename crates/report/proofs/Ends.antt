-- The end of an image that fills all addresses.
use Rattle.std.proofs.Common.{◌≡◌, ℕ, ◌^◌, ◌≤◌, ◌++◌, refl, ap, ◌∙◌, arith}
use Rattle.std.proofs.Math.Nat.{zero-sub}
use Rattle.std.specs.Prelude.{codes}
use Rattle.std.specs.Fmt.{digits, padded_integral}
use Rattle.texts.specs.Printed.{hex_text}
use Rattle.report.specs.Admission.{outside_line}

-- 2^64 has 17 digits
whole : codes "0x10000000000000000" ≡ hex_text 18446744073709551616
unfolding digits padded_integral
whole = simp zero-sub refl

pub whole_line :
    (high end : ℕ) → high ≤ 2 ^ 64 → 2 ^ 64 ≤ high
    → codes "refused A11: image end 0x10000000000000000, half end " ++ (hex_text end ++ codes "\n") ≡ outside_line high end
whole_line high end most least =
    let all : 18446744073709551616 ≡ high = omega arith in
    ap (λ text. codes "refused A11: image end " ++ (text ++ (codes ", half end " ++ (hex_text end ++ codes "\n")))) (whole ∙ ap hex_text all)
