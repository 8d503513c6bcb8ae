use Rattle.std.proofs.Common.{◌≡◌, true, ap, ◌∙◌, subst, set, get_or, arith}
use Rattle.std.proofs.lemmas.List.{get_or_default}
use Rattle.std.proofs.lemmas.Option.{slice_get-get_or}
use Rattle.machine.specs.Program.{LoadSegment, memory_of}
use Rattle.mem_image.specs.Segments.{has_all}
use Rattle.mem_image.proofs.WholeLaws.{has_fewer, whole_granted, whole_put, sound_like}
use Rattle.mem_image.proofs.within.put_near.Goals as goal

pub returns-clause-sound : goal.returns-clause-sound
returns-clause-sound c =
    let below = c.if-near-pages.false in
    sound_like c.args.pages.now c.args.near _ c.put_own.new.self c.requires.sound (slice_get-get_or c.args.pages.now c.args.near c.index-pages-near-2.result (omega (arith, below))) c.put_own.ensures.shape

pub returns-clause-granted : goal.returns-clause-granted
returns-clause-granted c = λ _.
    let below = c.if-near-pages.false in
    let room = c.if-not-has_room.false in
    let s : LoadSegment = get_or c.args.pages.now c.args.near c.index-pages-near.result in
    whole_granted (λ f. f.write) c.args.pages.now c.args.near s c.args.address c.args.width c.requires.sound (slice_get-get_or c.args.pages.now c.args.near c.index-pages-near.result (omega (arith, below)))
    (has_fewer s c.args.address 8 c.args.width (c.has_room.ensures.all room) c.requires.small)
    (c.has_room.ensures.allowed room)

pub returns-clause-written : goal.returns-clause-written
returns-clause-written c = λ done.
    let below = c.if-near-pages.false in
    let room = c.if-not-has_room.false in
    let s : LoadSegment = get_or c.args.pages.now c.args.near c.index-pages-near.result in
    let t : LoadSegment = get_or c.args.pages.now c.args.near c.index-pages-near-2.result in
    let same : s ≡ t = get_or_default c.args.pages.now c.args.near c.index-pages-near.result c.index-pages-near-2.result (omega (arith, below)) in
    let has = has_fewer s c.args.address 8 c.args.width (c.has_room.ensures.all room) c.requires.small in
    ap (λ x. memory_of (set c.args.pages.now c.args.near x)) (c.put_own.ensures.put done)
    ∙ whole_put c.args.pages.now c.args.near t c.args.address c.args.width c.args.value c.requires.sound (slice_get-get_or c.args.pages.now c.args.near c.index-pages-near-2.result (omega (arith, below))) (c.put_own.ensures.whole done)
    (subst (λ (x : LoadSegment). has_all x c.args.address c.args.width ≡ true) same has)
