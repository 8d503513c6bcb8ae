-- A piece is steady as long as the output goes on within it.
use Rattle.std.proofs.Common.{Bool, ◌≡◌, ℕ, zero, suc, ◌+◌, ◌<◌, ◌≤◌, List, ◌++◌, length, ap, ◌∙◌, sym, subst, arith}
use Rattle.qed_model.specs.Promise.Kept.{is_trapped, IsSteady}
use Rattle.qed_model.specs.Weave.Sequences.{Ins}
use Rattle.machine.proofs.Lemmas.{run-none}
use Rattle.weave_core.specs.World.{Item, Going, World, State, run}
use Rattle.weave_core.specs.Rows.{At, Sourced}
use Rattle.weave_core.specs.Weave.{Weave}
use Rattle.weave_core.specs.WeaveLaws.{Feeds, PieceAt, Rows}

-- no step of a state that goes on
pub steady_none : (reached : ℕ → Bool) (s : State) → s.outcome ≡ Going → IsSteady reached s 0
steady_none reached s e = record { no_trap = ap (λ x. is_trapped x.outcome) (run-none s) ∙ ap is_trapped e; leads = λ k l. absurd (omega (arith, l)) }

-- the first instructions of a piece
pub piece_steady :
    (w : World) (v : Weave) (leader : ℕ → Bool) → Rows w v leader → (is : List Ins) (u s : State) (rest : List Item) (room : ℕ) → PieceAt w v s.pc is
    → At w u (v.code.piece is s.pc ++ rest) s s → Sourced w s → Feeds w u s room → v.piece_steps ≤ room → (n : ℕ) → n ≤ length is → IsSteady w.reached s n
piece_steady w v leader rows is u s rest room p a so f big zero l = steady_none w.reached s so.over.going
piece_steady w v leader rows is u s rest room p a so f big (suc n) l =
    let before = piece_steady w v leader rows is u s rest room p a so f big n (omega (arith, l)) in
    let g = rows.inside is n u s rest l p a so before.no_trap in
    f.more n g.steps g.is.0.trail (omega (arith, g.is.1, big))
