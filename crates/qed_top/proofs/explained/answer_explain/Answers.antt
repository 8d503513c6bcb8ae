use Rattle.std.proofs.Common.{ap, sym, ◌∙◌, arith}
use Rattle.listing.specs.Roles.{rows_bytes}
use Rattle.listing.proofs.RowBytes.{roles_size}
use Rattle.qed_top.specs.Refused.{made}
use Rattle.qed_top.proofs.explained.answer_explain.Goals as goal

pub tell-requires-clause-fits : goal.tell-requires-clause-fits
tell-requires-clause-fits c =
    let is = c.in-Ok.ensures.done in
    let size = ap rows_bytes is.roles ∙ roles_size c.in-Ok.code.file c.args.options.now is.blocks in
    omega (arith, is.fits, size)

pub tell-requires-clause-whole : goal.tell-requires-clause-whole
tell-requires-clause-whole c =
    let is = c.in-Ok.ensures.done in
    ap rows_bytes is.roles ∙ roles_size c.in-Ok.code.file c.args.options.now is.blocks ∙ sym is.size

pub returns-in_ok-tell-in-Ok : goal.returns-in_ok-tell-in-Ok
returns-in_ok-tell-in-Ok c = made (record { code = c.in-Ok.code; is = c.in-Ok.ensures.done; tells = c.in_ok-tell-in-Ok.ensures })
