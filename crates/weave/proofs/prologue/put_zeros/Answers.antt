use Rattle.std.proofs.Common.{◌≡◌, ◌+◌, ◌++◌, arith}
use Rattle.std.specs.Prelude.{pos, [], ◌∷◌}
use Rattle.machine.specs.Table.{Addi, ins}
use Rattle.qed_model.specs.declared.item.Item.TheVariants.{Plain}
use Rattle.weave.proofs.Zeros.{zeros_none, zeros_more, zeros_all}
use Rattle.weave.proofs.prologue.put_zeros.Goals as goal

pub loop-k-init : goal.loop-k-init
loop-k-init c = (omega arith, zeros_none c.args.out.now c.args.first c.args.count)

pub loop-k-preserved : goal.loop-k-preserved
loop-k-preserved c =
    let a = c.register-zero.ensures in
    let b = c.register.ensures in
    let p = c.plain.ensures in
    let e : c.push.new.self ≡ c.loop-k.out ++ (Plain (ins Addi (c.args.first + c.loop-k.k) 0 0 (pos 0)) ∷ []) = cc (c.in_ok-push.ensures.all) in
    (omega arith, zeros_more c.args.out.now c.loop-k.out c.push.new.self c.args.first c.loop-k.k c.args.count c.loop-k-test.true c.loop-k.invariant.1 e)

pub returns : goal.returns
returns c = zeros_all c.args.out.now c.loop-k.out c.args.first c.loop-k.k c.args.count (omega arith) c.loop-k.invariant.1
