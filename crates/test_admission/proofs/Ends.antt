-- Code and data of a file that was admitted end at 2^63 or before it.
use Rattle.std.proofs.Common.{◌≡◌, ℕ, ◌+◌, ◌-◌, ◌*◌, ◌/◌, ◌^◌, ◌<◌, ◌≤◌, true, List, sym, ap, ◌∙◌, subst, arith}
use Rattle.tests.specs.declared.range.Span.{Span}
use Rattle.tests.specs.Ranges.{span, spans}
use Rattle.tests.specs.declared.options.Options.{Options}
use Rattle.machine.specs.Program.{LoadSegment}
use Rattle.machine.specs.Loading.{ElfFile}
use Rattle.tests.specs.Admission.DataRanges.{rounded, is_data, is_in, is_in_any, data_segments, data_parts, data_ranges}
use Rattle.tests.specs.Admission.CodeWords.{loads_of, ranges_of}
use Rattle.tests.specs.Admission.Refusals.{IsAdmitted}
use Rattle.tests.specs.Admission.Places.{high_of, image_of}
use Rattle.machine.proofs.Lemmas.{among_every, every_all, among-map, among-kept, source_of, passing, any_passing}
use Rattle.machine.specs.Members.{Among}
use Rattle.tests.proofs.Lemmas.{spaced_data, spaced_from, in_data, in_from, in_parts, load_source, image_room, in_image, high_most, even_range}
use Rattle.test_admission.specs.Ends.{AllEnd}

-- a loaded segment that has bytes in memory is of the image
load_high : (f : ElfFile) (l : LoadSegment) → Among l (loads_of f) → 0 < l.size → l.address + l.size ≤ high_of (image_of f)
load_high f l m room =
    let o = load_source f.segments l m in
    let z : l.size ≡ o.segment.memory = ap (λ x. x.size) o.is in
    let a : l.address ≡ o.segment.address = ap (λ x. x.address) o.is in
    let h = high_most o.segment (image_of f) (in_image o.segment f.segments o.among o.kind (omega (arith, room, z))) in
    omega (arith, h, z, a)

-- ---- code
range_high : (f : ElfFile) (o : Options) → IsAdmitted f o → (r : ℕ × ℕ) → Among r (ranges_of f) → r.1 ≤ high_of (image_of f)
range_high f o a r m =
    let x = (even_range f a.sections a.segments r m).0 in
    let some = x.some in
    let from = x.from in
    let to = x.to in
    let high = load_high f x.segment x.among (omega (arith, some, from, to)) in
    omega (arith, high, to)

-- ---- data
data_high : (f : ElfFile) (r : ℕ × ℕ) → Among r (data_ranges (image_of f)) → r.1 ≤ (high_of (image_of f) + 7) / 8 * 8
data_high f r m =
    let image = image_of f in
    let some = (spaced_from 0 (data_ranges image) r (spaced_data image (image_room f.segments)) m).1 in
    let here : is_in_any (data_ranges image) (r.1 - 1) ≡ true = any_passing (λ x. is_in x (r.1 - 1)) r (data_ranges image) m (in_from r (r.1 - 1) (omega (arith, some)) (omega (arith, some))) in
    let p = passing (λ x. is_in x (r.1 - 1)) (data_parts image) (sym (in_data image (r.1 - 1) (image_room f.segments)) ∙ here) in
    let s = source_of rounded (data_segments image) p.member p.among in
    let k = among-kept (is_data image) s.source image s.among in
    let high = high_most s.source image k.0 in
    let within = (in_parts p.member (r.1 - 1) p.passes).1 in
    let end : p.member.1 ≡ (s.source.address + s.source.memory + 7) / 8 * 8 = ap (λ x. x.1) s.is in
    omega (arith, some, high, within, end)

-- ---- of a file that was admitted
all_end : (f : ElfFile) (o : Options) (rs : List (ℕ × ℕ)) (ss : List Span) → IsAdmitted f o → spans ss ≡ rs → ((r : ℕ × ℕ) → Among r rs → r.1 ≤ (high_of (image_of f) + 7) / 8 * 8) → AllEnd ss
all_end f o rs ss a e high =
    let half = a.half in
    let top = a.top in
    every_all (λ s. s.end < 2 ^ 64) ss (among_every (λ s. s.end < 2 ^ 64) ss (λ s m. let h = high (span s) (subst (Among (span s)) e (among-map span s ss m)) in omega (arith, half, top, h)))

pub ranges_end : (f : ElfFile) (o : Options) (ss : List Span) → IsAdmitted f o → spans ss ≡ ranges_of f → AllEnd ss
ranges_end f o ss a e = all_end f o (ranges_of f) ss a e (λ r m. let h = range_high f o a r m in omega (arith, h))

pub spans_end : (f : ElfFile) (o : Options) (ss : List Span) → IsAdmitted f o → spans ss ≡ data_ranges (image_of f) → AllEnd ss
spans_end f o ss a e = all_end f o (data_ranges (image_of f)) ss a e (data_high f)
