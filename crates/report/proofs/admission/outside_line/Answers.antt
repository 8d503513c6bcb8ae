use Rattle.std.proofs.Common.{◌≡◌, ℕ, List, IfOk, string_bytes, subst}
use Rattle.report.proofs.Ends.{whole_line}
use Rattle.report.proofs.admission.outside_line.Goals as goal

pub returns-else-high : goal.returns-else-high
returns-else-high c =
    subst (λ (line : List ℕ). IfOk c.format-else-high.result (λ text. string_bytes text ≡ line)) (whole_line c.args.high c.args.end c.requires c.if-high.false)
    c.format-else-high.ensures.ok
