-- The words of a pass that keeps lockstep are of the kinds of woven words.
use Rattle.std.proofs.Common.{◌≡◌, ◌+◌, ◌*◌, [], ◌++◌, subst, arith}
use Rattle.qed_model.specs.Weave.Placed.{instructions_from}
use Rattle.weave_core.specs.Lock.{Opens}
use Rattle.weave_core.proofs.Lemmas.{opens_behind, fits_in, land_at}
use Rattle.passes.specs.KindsHold.{KindsHold}

pub kinds_hold : KindsHold
kinds_hold far items lock land c entry a behind b =
    let ws = instructions_from far entry a items in
    let l = lock entry a in
    let all = land c entry a behind (omega (arith, b.near)) b.words b.open_behind b.open_entries in
    let zero_on : a + 4 * 0 ≡ a = omega arith in (
      subst (Opens c) zero_on (opens_behind c a [] (ws ++ behind) (omega (arith, b.near)) b.words (l.front behind b.open_behind)),
      λ k h.
          let x = fits_in c ws behind a k b.near b.words (l.fit behind b.open_behind) h in
          record { ins = x.ins; known = x.known; fits = x.has_kind; lands = land_at c a k ws behind x.ins all b.words h x.known },
    )
