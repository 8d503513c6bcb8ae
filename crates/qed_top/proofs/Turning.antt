-- The files that `harts` reads one after another, and the turns over them.
use Rattle.std.proofs.Common.{◌≡◌, ◌+◌, ◌≤◌, ◌<◌, ℕ, zero, suc, List, [], ◌∷◌, ◌++◌, drop, length, get_or, Option, None, Some, IfSome, ◌⊎◌, inl, inr, sym, ap, ◌∙◌, subst, arith}
use Rattle.std.specs.Prelude.{◌≢◌, All, slice_index}
use Rattle.std.proofs.lemmas.List.{drop_more}
use Rattle.std.proofs.lemmas.List.Elements.{All-get_or}
use Rattle.machine.specs.Apart.{AllFitMemory, AreApart}
use Rattle.machine.specs.Loading.{load_segments, ElfFile}
use Rattle.machine.proofs.Lemmas.{length-each, All-each}
use Rattle.qed_top.specs.Answer.{CallsFor, within}
use Rattle.qed_top.specs.Loads.{LoadedFiles, OverFiles, OverLoads, Files, file_bytes}
use Rattle.qed_top.specs.Refused.{IsUnread, ReadOn, not_read, read_on}
use Rattle.qed_top.specs.Turns.{AreTurns, IsTaken, RunFileBytes}
use Rattle.qed_top.specs.World.{FilesCallFor, takers, programs, AreSound}
use Rattle.qed_top.specs.declared.answer.Answer.{Answer}
use Rattle.qed_top.proofs.Meanings.{calls_more, same_each}

-- ---- loads with one in front
abbrev with_first : Files → LoadedFiles → LoadedFiles
with_first files loads zero = files
with_first files loads (suc k) = loads k

each_with : (f files : Files) (loads : LoadedFiles) → f ≡ files → ((k : ℕ) → f ≡ loads k) → (k : ℕ) → f ≡ with_first files loads k
each_with f files loads a b zero = a
each_with f files loads a b (suc k) = b k

same_with : (told : Option Files) (files : Files) (loads : LoadedFiles) → IfSome told (λ f. f ≡ files) → IfSome told (λ f. (k : ℕ) → f ≡ loads k) → IfSome told (λ f. (k : ℕ) → f ≡ with_first files loads k)
same_with None files loads a b = tt
same_with (Some f) files loads a b = each_with f files loads a b

-- ---- a file of the names
module _ (told : Option Files) (left : List (List ℕ)) (name : List ℕ) (names : List (List ℕ)) (fs : List ElfFile) (turns : Option (List ℕ)) (steps : ℕ) (rose : List ℕ → Type 0) (answer : Answer) (split : left ≡ name ∷ names) where
  named : OverLoads told (λ loads. FilesCallFor (name ∷ names) fs turns steps loads rose answer) → OverLoads told (λ loads. FilesCallFor left fs turns steps loads rose answer)
  named o = subst (λ (ns : List (List ℕ)). OverLoads told (λ loads. FilesCallFor ns fs turns steps loads rose answer)) (sym split) o

  -- the file was read, and then the others
  pub read_next :
      (more : List ElfFile) (f : ElfFile) → more ≡ fs ++ f ∷ [] → OverFiles told (λ files. IsTaken (file_bytes files name) f)
      → OverLoads told (λ loads. FilesCallFor names more turns steps loads rose answer) → OverLoads told (λ loads. FilesCallFor left fs turns steps loads rose answer)
  read_next more f pushed o then = named (record {
    loads = with_first o.files then.loads;
    same = same_with told o.files then.loads o.same then.same;
    holds = within o.holds.small (read_on f o.holds.read (subst (λ (all : List ElfFile). FilesCallFor names all turns steps then.loads rose answer) pushed then.holds));
  })

  -- the file could not be loaded or read
  pub read_stops :
      (was : Type 0) → (was → rose name) → OverFiles told (λ files. CallsFor RunFileBytes (file_bytes files name) was (IsUnread (file_bytes files name) answer) answer)
      → OverLoads told (λ loads. FilesCallFor left fs turns steps loads rose answer)
  read_stops was h o =
      let bytes = file_bytes o.files name in
      let next : ElfFile → Type 0 = λ f. FilesCallFor names (fs ++ f ∷ []) turns steps (λ k. o.files) rose answer in
      named (record {
        loads = λ k. o.files;
        same = same_each told o.files o.same;
        holds = calls_more RunFileBytes bytes was (rose name) (IsUnread bytes answer) (ReadOn bytes next answer) answer h (λ u. not_read u) o.holds;
      })

-- a refusal is not want of memory, so its cause is known
pub known_cause : {A B E : Type 0} (e memory : E) → A ⊎ ((e ≡ memory) × B) → e ≢ memory → A
known_cause e memory (inl a) other = a
known_cause e memory (inr b) other = absurd (other b.0)

-- ---- sound files
pub sound_more : (fs : List ElfFile) (f : ElfFile) → AreSound (programs fs) → AllFitMemory (load_segments f.segments) → AreApart (load_segments f.segments) → AreSound (programs (fs ++ f ∷ []))
sound_more [] f sound fit apart = (fit, apart, tt)
sound_more (g ∷ fs) f sound fit apart = (sound.0, sound.1, sound_more fs f sound.2 fit apart)

-- ---- the harts that make the turns
takers_all : (count : ℕ) (turns : Option (List ℕ)) → AreTurns count turns → All (λ hart. hart < count) (takers count turns)
takers_all count None t = All-each (λ hart. hart < count) count (λ i. i) (λ j l. l)
takers_all count (Some harts) t = t.below

-- some hart makes the turns, and each that does is below the count
pub takers_some : (count : ℕ) (turns : Option (List ℕ)) (harts : List ℕ) → 1 ≤ count → AreTurns count turns → harts ≡ takers count turns → 0 < length harts
takers_some count None harts some t e = let n = length-each count (λ i. i) in let m = ap length e in omega (arith, some, n, m)
takers_some count (Some given) harts some t e = let m = ap length e in omega (arith, t.some, m)

pub takers_below :
    (count many : ℕ) (turns : Option (List ℕ)) (harts : List ℕ) → AreTurns count turns → harts ≡ takers count turns → many ≡ count
    → (k : ℕ) → k < length harts → slice_index harts k < many
takers_below count many turns harts t e same k l =
    let all : All (λ hart. hart < count) harts = subst (λ (hs : List ℕ). All (λ hart. hart < count) hs) (sym e) (takers_all count turns t) in
    let below : slice_index harts k < count = All-get_or (λ hart. hart < count) harts k 0 l all in
    omega (arith, below, same)

-- ---- the names that are left
-- the next name, and those behind it
pub split_at : {A : Type 0} (names : List A) (k : ℕ) (name : A) → k < length names → get_or names k name ≡ name → drop k names ≡ name ∷ drop (k + 1) names
split_at names k name less item = drop_more names k name less ∙ ap (λ x. x ∷ drop (k + 1) names) item
