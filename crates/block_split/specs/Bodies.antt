-- How far a body goes, along the words of the code, by a test that says which addresses are leaders.
use Rattle.std.specs.Prelude.{ℕ, ◌+◌, ◌==◌, ◌&&◌, not, Bool, if◌then◌else◌, Option, Some, None, List, [], ◌∷◌}
use Rattle.rv_isa.specs.declared.ins.Ins.{Ins}
use Rattle.rv_isa.specs.Kind.{class_of}
use Rattle.tests.specs.declared.test.CodeWord.{CodeWord}
use Rattle.tests.specs.Admission.Leaders.{is_end}

-- an instruction that ends a block stands there
abbrev pub ends : CodeWord → Bool
ends w = is_end (class_of w.ins.kind)

-- the word stands right behind the one at p, at no leader
abbrev pub is_behind : (ℕ → Bool) → ℕ → CodeWord → Bool
is_behind leads p w = (w.at == p + 4) && not (leads w.at)

-- how many of these words belong to a body behind its word at p
abbrev pub size_behind : (ℕ → Bool) → ℕ → List CodeWord → ℕ
size_behind leads p [] = 0
size_behind leads p (w ∷ ws) = if is_behind leads p w && not (ends w) then size_behind leads w.at ws + 1 else 0

-- the ending instruction behind them, if there is one
abbrev pub end_behind : (ℕ → Bool) → ℕ → List CodeWord → Option Ins
end_behind leads p [] = None
end_behind leads p (w ∷ ws) = if is_behind leads p w then (if ends w then Some w.ins else end_behind leads w.at ws) else None

-- how many of these words belong to the body that begins with the first of them
abbrev pub body_size : (ℕ → Bool) → List CodeWord → ℕ
body_size leads [] = 0
body_size leads (w ∷ ws) = if ends w then 0 else size_behind leads w.at ws + 1

abbrev pub body_end : (ℕ → Bool) → List CodeWord → Option Ins
body_end leads [] = None
body_end leads (w ∷ ws) = if ends w then Some w.ins else end_behind leads w.at ws
