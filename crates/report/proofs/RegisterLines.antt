-- The lines of registers, one by one.
use Rattle.std.proofs.Common.{◌≡◌, ℕ, suc, ◌+◌, ◌-◌, ◌≤◌, [], ◌++◌, refl, sym, ap, ◌∙◌, arith}
use Rattle.machine.specs.Step.{State}
use Rattle.qed_words.specs.Text.Run.{register_line, register_lines}

-- no line yet
pub no_lines : (s : State) → register_lines s 0 ≡ []
unfolding register_lines
no_lines s = refl

next_line : (s : State) (n : ℕ) → register_lines s (suc n) ≡ register_lines s n ++ register_line s (suc n)
unfolding register_lines
next_line s n = refl

-- one more line
pub more_lines : (s : State) (n : ℕ) → 1 ≤ n → register_lines s (n - 1) ++ register_line s n ≡ register_lines s (n + 1 - 1)
more_lines s n h =
    let e : n ≡ suc (n - 1) = omega (arith, h) in
    let f : n + 1 - 1 ≡ suc (n - 1) = omega (arith, h) in
    ap (λ k. register_lines s (n - 1) ++ register_line s k) e ∙ sym (next_line s (n - 1)) ∙ ap (λ k. register_lines s k) (sym f)
