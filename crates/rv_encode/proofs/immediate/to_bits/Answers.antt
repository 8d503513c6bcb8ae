use Rattle.std.proofs.Common.{◌≡◌, ◌≤◌, ◌^◌, ◌/◌, ◌-◌, arith, ap, ◌∙◌, of_z, w64}
use Rattle.std.specs.Prelude.{bit_and}
use Rattle.std.proofs.lemmas.Int.{to_z-of_z}
use Rattle.std.proofs.Math.Pow.{pow_mono}
use Rattle.machine.specs.Table.{to_bits}
use Rattle.rv_encode.proofs.LowBits.{low_bits, bits_lt}
use Rattle.rv_encode.proofs.immediate.to_bits.Goals as goal
use Rattle.rv_encode.proofs.immediate.to_bits.Goals.{After-cast_unsigned}

value : (c : After-cast_unsigned) → bit_and c.cast_unsigned.result (18446744073709551615 / 2 ^ (64 - c.args.width)) ≡ to_bits c.args.width c.args.imm
value c =
    let own = c.cast_unsigned.ensures ∙ ap (of_z w64) (to_z-of_z w64 c.args.imm c.ranges.imm) in
    ap (λ k. bit_and k (18446744073709551615 / 2 ^ (64 - c.args.width))) own ∙ low_bits c.args.width c.args.imm c.requires.some c.requires.most c.requires.fits

pub returns-clause-value : goal.returns-clause-value
returns-clause-value c = value c

pub returns-clause-bound : goal.returns-clause-bound
returns-clause-bound c = omega (arith, value c, bits_lt c.args.width c.args.imm c.requires.some c.requires.fits)

pub overflow_cast-result-2 : goal.overflow_cast-result-2
overflow_cast-result-2 c =
    let top : 2 ^ c.args.width ≤ 2 ^ 32 = pow_mono c.requires.most in
    omega (arith, value c, top, bits_lt c.args.width c.args.imm c.requires.some c.requires.fits)
