-- The labels that the code has found, as a function of their names.
use Rattle.std.specs.Prelude.{ℕ, List, Option}
use Rattle.std.specs.HashMap.{get_by}
use Rattle.std.specs.Str.{bytes_eq}
use Rattle.rv_asm.specs.declared.labels.Label.{Label}
use Rattle.rv_asm.specs.declared.labels.Labels.{Labels}

abbrev pub label_named : Labels → List ℕ → Option Label
label_named labels name = get_by (λ k. bytes_eq name k.now) labels.by_name
