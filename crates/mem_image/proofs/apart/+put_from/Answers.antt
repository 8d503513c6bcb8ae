use Rattle.std.proofs.Common.{◌≡◌, ◌+◌, ◌<◌, true, sym, subst, arith}
use Rattle.machine.specs.Memory.{wrap}
use Rattle.mem_image.specs.Overlap.{AreImage}
use Rattle.mem_image.specs.Segments.{has_all}
use Rattle.mem_image.proofs.SegmentLaws.{first_is}
use Rattle.mem_image.proofs.ApartLaws.{has_one, set_more, set_passed, put_back, sound_set}
use Rattle.mem_image.proofs.apart.+put_from.Goals as goal

pub returns-in_default-clause-put : goal.returns-in_default-clause-put
returns-in_default-clause-put t c = λ m high before.
    let more : c.args.from < 8 = let off = c.if-from-width.false in let p = c.requires.part in let s = c.requires.small in omega (arith, off, p, s) in
    c.in_ok-put_from.ensures.put m high (set_passed c.args.pages.now c.args.address c.args.from c.args.value m c.requires.sound c.in_default.ensures.none c.ranges.address.fits more high before)

pub put-requires-clause-has : goal.put-requires-clause-has
put-requires-clause-has t c =
    let here = first_is c.args.pages.now _ c.in-Some.at c.index-pages-at-2.result c.in-Some.ensures.some c.index-pages-at-2.is in
    subst (λ s. has_all s (wrap (c.args.address + c.args.from)) 1 ≡ true) c.index-pages-at-2.is (has_one c.index-pages-at-2.result (wrap (c.args.address + c.args.from)) here.1)

pub put_from-requires-2 : goal.put_from-requires-2
put_from-requires-2 t c =
    let off = c.if-from-width.false in
    let p = c.requires.part in
    let sound = sound_set c.args.pages.now c.in-Some.at _ c.index-pages-at-2.result c.put.new.self c.requires.sound c.in-Some.ensures.some c.index-pages-at-2.is c.put.ensures.shape in
    (omega (arith, off, p), (sound, (omega (arith, off, p), c.requires.small)))

pub returns-in-Err-clause-kept : goal.returns-in-Err-clause-kept
returns-in-Err-clause-kept t c = put_back c.args.pages.now c.put_from-2.new.pages c.in-Some.at _ c.index-pages-at.result c.put.new.self c.in_ok-before.before c.in-Some.ensures.some c.index-pages-at.is c.in-Err.ensures.kept c.in_ok-before.ensures

pub returns-in-Err-clause-sound : goal.returns-in-Err-clause-sound
returns-in-Err-clause-sound t c = subst AreImage (sym (returns-in-Err-clause-kept t c)) c.requires.sound

pub returns-in-Ok-clause-put : goal.returns-in-Ok-clause-put
returns-in-Ok-clause-put t c = λ m high before.
    let more : c.args.from < 8 = let off = c.if-from-width.false in let p = c.requires.part in let s = c.requires.small in omega (arith, off, p, s) in
    c.in-Ok.ensures.put m high (set_more c.args.pages.now c.in-Some.at c.index-pages-at-2.result c.put.new.self c.args.address c.args.from c.args.value m c.requires.sound c.in-Some.ensures.some c.index-pages-at-2.is c.in_ok-put.ensures.whole c.in_ok-put.ensures.put c.ranges.address.fits more high before)
