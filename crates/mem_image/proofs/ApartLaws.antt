-- Bytes that are set one by one, each in its page.
use Rattle.std.proofs.Common.{◌≡◌, ℕ, ◌+◌, ◌-◌, ◌/◌, ◌*◌, ◌^◌, ◌<◌, ◌≤◌, true, List, None, sym, subst, ap, ◌∙◌, arith, set, get_or}
use Rattle.std.specs.Prelude.{bit_and, nat_le}
use Rattle.std.proofs.lemmas.Bool.{and_from, le-leb}
use Rattle.std.proofs.lemmas.List.{set-set}
use Rattle.machine.specs.Memory.{Memory, wrap, byte_of, poked, put, get}
use Rattle.machine.specs.Program.{LoadSegment, memory_of}
use Rattle.machine.specs.Cells.{has, cell_among}
use Rattle.machine.proofs.Lemmas.{put-more, has_parts}
use Rattle.mem_image.specs.Overlap.{AreImage}
use Rattle.mem_image.specs.Segments.{has_all, with_bytes_at, IsFirst, IsLike}
use Rattle.mem_image.proofs.SegmentLaws.{first_is, memory_of-set, memory_of-missing, IsWhole}
use Rattle.mem_image.proofs.NumberLaws.{low_byte}
use Rattle.mem_image.proofs.PageLaws.{one_byte}
use Rattle.mem_image.proofs.WholeLaws.{set_none, sound_like}

-- one byte that a page has
pub has_one : (s : LoadSegment) (q : ℕ) → has s q ≡ true → has_all s q 1 ≡ true
has_one s q h = let p = has_parts s q h in and_from (has s q) (nat_le 1 (s.size - (q - s.address))) h (le-leb 1 (s.size - (q - s.address)) (omega (arith, p)))

-- the byte that the code takes of a value
byte_small : (v i : ℕ) → byte_of v i < 256
byte_small v i = omega arith

-- one byte more, in the page that has it
pub set_more :
    (ss : List LoadSegment) (k : ℕ) (s t : LoadSegment) (a n v : ℕ) (m : Memory) → AreImage ss → IsFirst ss (wrap (a + n)) k → s ≡ get_or ss k s → IsWhole (get_or ss k s)
    → t ≡ with_bytes_at (get_or ss k s) (wrap (a + n)) 1 (bit_and (v / 2 ^ (8 * n)) 255) → a < 2 ^ 64 → n < 8 → ((q : ℕ) → 2 ^ 64 ≤ q → get m q ≡ None)
    → memory_of ss ≡ put m a n v → memory_of (set ss k t) ≡ put m a (n + 1) v
set_more ss k s t a n v m sound first read whole is ha hn high before =
    let here = first_is ss (wrap (a + n)) k s first read in
    let full : IsWhole s = subst IsWhole (sym read) whole in
    ap (λ x. memory_of (set ss k x)) (is ∙ ap (λ x. with_bytes_at x (wrap (a + n)) 1 (bit_and (v / 2 ^ (8 * n)) 255)) (sym read) ∙ ap (with_bytes_at s (wrap (a + n)) 1) (low_byte v n) ∙ one_byte s (wrap (a + n)) (byte_of v n) (byte_small v n))
    ∙ memory_of-set ss k s (wrap (a + n)) (byte_of v n) sound.fit here.0 full here.1 first.before
    ∙ ap (poked (wrap (a + n)) (byte_of v n)) before
    ∙ put-more m a n v ha (omega (arith, hn)) high

-- or where no page has it
pub set_passed :
    (ss : List LoadSegment) (a n v : ℕ) (m : Memory) → AreImage ss → cell_among ss (wrap (a + n)) ≡ None → a < 2 ^ 64 → n < 8 → ((q : ℕ) → 2 ^ 64 ≤ q → get m q ≡ None)
    → memory_of ss ≡ put m a n v → memory_of ss ≡ put m a (n + 1) v
set_passed ss a n v m sound none ha hn high before =
    memory_of-missing ss (wrap (a + n)) (byte_of v n) sound.fit none ∙ ap (poked (wrap (a + n)) (byte_of v n)) before ∙ put-more m a n v ha (omega (arith, hn)) high

-- a page that is put back
pub put_back : (ss ts : List LoadSegment) (k q : ℕ) (s t b : LoadSegment) → IsFirst ss q k → s ≡ get_or ss k s → ts ≡ set ss k t → b ≡ get_or ss k s → set ts k b ≡ ss
put_back ss ts k q s t b first read later back =
    let here = first_is ss q k s first read in
    ap (λ x. set x k b) later ∙ set-set ss k t b ∙ ap (set ss k) (back ∙ sym read) ∙ set_none ss k s here.0

-- a page that was written
pub sound_set : (ss : List LoadSegment) (k q : ℕ) (s t : LoadSegment) → AreImage ss → IsFirst ss q k → s ≡ get_or ss k s → IsLike (get_or ss k s) t → AreImage (set ss k t)
sound_set ss k q s t sound first read like = sound_like ss k s t sound (first_is ss q k s first read).0 (subst (λ x. IsLike x t) (sym read) like)
