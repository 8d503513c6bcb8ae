use Rattle.std.proofs.Common.{ℕ, sym, ◌+◌, ◌-◌, ◌%◌, ◌^◌, ◌<◌, arith}
use Rattle.rv_step.specs.Windows.{IsIn, WindowHasWords}
use Rattle.rv_step.specs.declared.window.Window.{Window}
use Rattle.rv_step.proofs.WindowLaws.{window_word, window_fixed}
use Rattle.rv_step.proofs.window.Window.word.Goals as goal

-- an address that is less than the count behind the first, modulo 2^64
is_in : (w : Window) (a : ℕ) → WindowHasWords w → a < 2 ^ 64 → (a + (2 ^ 64 - w.first)) % 2 ^ 64 < w.count → IsIn w a
is_in w a h small behind =
    let ends = h.ends in
    record { low = omega (arith, ends, small, behind); high = omega (arith, ends, small, behind) }

pub returns-clause-word : goal.returns-clause-word
returns-clause-word c = λ s h at. window_word s c.args.self.now c.in_ok-code.code.now c.args.address _ h (sym c.in_ok-code.ensures.value) at (is_in c.args.self.now c.args.address c.requires (omega arith) c.if-address-self.false) c.word.ensures

pub returns-clause-fixed : goal.returns-clause-fixed
returns-clause-fixed c = λ s h. window_fixed s c.args.self.now c.in_ok-code.code.now c.args.address _ h (sym c.in_ok-code.ensures.value) (is_in c.args.self.now c.args.address c.requires (omega arith) c.if-address-self.false) c.word.ensures
