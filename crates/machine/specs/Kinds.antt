-- Kinds in lists.
use Rattle.std.specs.Prelude.{◌≡◌, ◌⊎◌, List, [], ◌∷◌}
use Rattle.rv_isa.specs.declared.kind.Kind.{Kind}

-- a kind is one of these
abbrev pub IsAmong : Kind → List Kind → Type 0
IsAmong k [] = ⊥
IsAmong k (j ∷ js) = (k ≡ j) ⊎ IsAmong k js
