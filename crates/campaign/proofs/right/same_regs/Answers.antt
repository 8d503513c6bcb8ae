use Rattle.std.proofs.Common.{◌≡◌, ◌+◌, ◌-◌, sym, ap, ◌∙◌, arith}
use Rattle.machine.specs.Step.{reg}
use Rattle.campaign.proofs.Comparing.{same_on, same_off, same_end}
use Rattle.campaign.proofs.right.same_regs.Goals as goal

pub returns-then-reg : goal.returns-then-reg
returns-then-reg c =
    let end = c.from-number-end.ensures in
    let below = c.loop-number-test.true in
    let f = reg c.args.a.now.state in
    let g = reg c.args.b.now.state in
    let number : c.loop-number.number - 1 + 1 ≡ c.loop-number.number = omega arith in
    let at = c.register-register.ensures ∙ number in
    sym (same_off f g c.loop-number.number 14 c.reg.result c.reg-in-loop-number.result (omega (arith, end, below)) (c.reg.ensures ∙ ap f at) (c.reg-in-loop-number.ensures ∙ ap g at) c.if-reg.true) ∙ c.loop-number.invariant

pub loop-number-preserved : goal.loop-number-preserved
loop-number-preserved c =
    let end = c.from-number-end.ensures in
    let below = c.loop-number-test.true in
    let f = reg c.args.a.now.state in
    let g = reg c.args.b.now.state in
    let number : c.loop-number.number - 1 + 1 ≡ c.loop-number.number = omega arith in
    let at = c.register-register.ensures ∙ number in
    sym (same_on f g c.loop-number.number 14 c.reg.result c.reg-in-loop-number.result (omega (arith, end, below)) (c.reg.ensures ∙ ap f at) (c.reg-in-loop-number.ensures ∙ ap g at) c.if-reg.false) ∙ c.loop-number.invariant

pub returns : goal.returns
returns c =
    let end = c.from-number-end.ensures in
    let behind = c.loop-number-test.false in
    sym (same_end (reg c.args.a.now.state) (reg c.args.b.now.state) c.loop-number.number 14 (omega (arith, end, behind))) ∙ c.loop-number.invariant
