use Rattle.std.proofs.Common.{refl, sym, ◌∙◌, Bool}
use Rattle.plc_rounds.specs.Spans.{spans_of}
use Rattle.qed_model.specs.Weave.Forms.{mirror_of}
use Rattle.weave.specs.Piece.{for_piece, piece_is, piece_same, piece_laws, honest_any, lockstep_any}
use Rattle.weave.proofs.pieces.woven_piece.Goals as goal

-- each pass suits any form of the code
abbrev suits : Bool → Type 0
suits far = Unit {0} × (Unit {0} × (Unit {0} × Unit {0}))

-- the passes accept what fits
pub emitted-requires : goal.emitted-requires
emitted-requires c = let f = for_piece c.args.list.now c.args.first c.requires.fits in (f.0, (f.1, ((tt, tt, refl), refl)))

-- the items are those of the code sequences
pub returns-clause-woven : goal.returns-clause-woven
returns-clause-woven c = λ form m r s. c.in_ok-out.ensures.items ∙ piece_same (mirror_of c.args.passes.now.second.first.pass.diverse) (sym r) (sym s) c.args.list.now c.args.first ∙ piece_is (mirror_of c.args.passes.now.second.first.pass.diverse) form c.args.list.now c.args.first m c.requires.low

-- the laws of the passes are those of the piece
pub returns-clause-leads : goal.returns-clause-leads
returns-clause-leads c = piece_laws suits (λ far. (tt, (tt, (tt, tt)))) c.args.passes.now.second.first.pass.diverse c.args.passes.now.second.second.pass.second.round (spans_of c.args.passes.now.second.second.pass.second.span) c.in_ok-out.out c.args.list.now c.args.first c.in_ok-out.ensures.quiet

pub returns-clause-honest : goal.returns-clause-honest
returns-clause-honest c = honest_any suits (λ far. (tt, (tt, (tt, tt)))) c.in_ok-out.out c.in_ok-out.ensures.honest

pub returns-clause-lockstep : goal.returns-clause-lockstep
returns-clause-lockstep c = lockstep_any suits (λ far. (tt, (tt, (tt, tt)))) c.in_ok-out.out c.in_ok-out.ensures.lockstep
