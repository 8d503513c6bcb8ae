-- The files that `harts` reads: the status of its answer, and that it stores nothing.
use Rattle.std.proofs.Common.{◌≡◌, ℕ, Bool, true, false, List, [], ◌∷◌, ◌++◌, Option, None, sym, ◌∙◌, arith}
use Rattle.std.specs.List.{AllByRecursion}
use Rattle.std.specs.Prelude.{if◌then◌else◌}
use Rattle.qed_model.specs.Promise.Kept.{is_trapped}
use Rattle.rv_step.specs.Known.{does_step}
use Rattle.harts.specs.Standing.{has_one, is_fired}
use Rattle.machine.specs.declared.limits.Limit.TheVariants.{RunFileBytes}
use Rattle.qed_top.specs.Loads.{LoadedFiles, file_bytes}
use Rattle.qed_top.specs.Refused.{ReadOn, ReadOnDecides, not_read, read_on, ElfFile}
use Rattle.qed_top.specs.World.{FilesCallFor, FilesDecide, PlayDecides, Plays, later_loads, played, world_status, Counted}
use Rattle.qed_top.specs.World as world
use Rattle.qed_top.specs.declared.answer.Answer.{Answer}
use Rattle.qed_top.specs.declared.status.Status.{Status}
use Rattle.qed_top.specs.declared.status.Status.TheVariants.{Done, Refused, Limit, Fired, Trapped, StepsSpent}
use Rattle.qed_top.proofs.Calls.{Tells, tells, calls_tells, calls_settled, read_tells, read_settled}
use Rattle.qed_top.proofs.Meanings.{calls_more}
use Rattle.qed_top.proofs.Statuses.{Printed}

-- ---- an answer keeps its meaning if more counts have risen
read_more : (bytes : List ℕ) (P Q : ElfFile → Type 0) (answer : Answer) → ((f : ElfFile) → P f → Q f) → ReadOn bytes P answer → ReadOn bytes Q answer
read_more bytes P Q answer h (not_read u) = not_read u
read_more bytes P Q answer h (read_on f r p) = read_on f r (h f p)

pub files_later :
    (names : List (List ℕ)) (fs : List ElfFile) (turns : Option (List ℕ)) (steps : ℕ) (loads : LoadedFiles) (rose later : List ℕ → Type 0)
    → ((name : List ℕ) → rose name → later name) → (answer : Answer) → FilesCallFor names fs turns steps loads rose answer
    → FilesCallFor names fs turns steps loads later answer
files_later [] fs turns steps loads rose later h answer m = m
files_later (name ∷ names) fs turns steps loads rose later h answer m =
    let bytes = file_bytes (loads 0) name in
    let then_rose : ElfFile → Type 0 = λ f. FilesCallFor names (fs ++ f ∷ []) turns steps (later_loads loads) rose answer in
    let then_later : ElfFile → Type 0 = λ f. FilesCallFor names (fs ++ f ∷ []) turns steps (later_loads loads) later answer in
    calls_more RunFileBytes bytes (rose name) (later name) (ReadOn bytes then_rose answer) (ReadOn bytes then_later answer) answer (h name)
    (read_more bytes then_rose then_later answer (λ f n. files_later names (fs ++ f ∷ []) turns steps (later_loads loads) rose later h answer n)) m

-- ---- the status has a text, and nothing is stored
if_printed : (test : Bool) (s t : Status) → Printed s → Printed t → Printed (if test then s else t)
if_printed true s t p q = p
if_printed false s t p q = q

world_printed : (c : Counted) → Printed (world_status c)
world_printed c =
    if_printed (has_one is_fired c) Fired _ tt (if_printed (has_one is_trapped c) Trapped _ tt (if_printed (has_one does_step c) StepsSpent Done tt tt))

plays_tells : (fs : List ElfFile) (turns : Option (List ℕ)) (steps : ℕ) (answer : Answer) → Plays fs turns steps answer → Tells None answer
plays_tells fs turns steps answer (world.too_large over plain) = tells Limit None answer tt plain
plays_tells fs turns steps answer (world.shared i j small least plain) = tells Refused None answer tt plain
plays_tells fs turns steps answer (world.told small none plain keeps) = tells (world_status (played fs turns steps)) None answer (world_printed (played fs turns steps)) plain

pub files_tells :
    (names : List (List ℕ)) (fs : List ElfFile) (turns : Option (List ℕ)) (steps : ℕ) (loads : LoadedFiles) (rose : List ℕ → Type 0) (answer : Answer)
    → FilesCallFor names fs turns steps loads rose answer → Tells None answer
files_tells [] fs turns steps loads rose answer m = plays_tells fs turns steps answer m
files_tells (name ∷ names) fs turns steps loads rose answer m =
    let bytes = file_bytes (loads 0) name in
    let next : ElfFile → Type 0 = λ f. FilesCallFor names (fs ++ f ∷ []) turns steps (later_loads loads) rose answer in
    calls_tells RunFileBytes bytes (rose name) (ReadOn bytes next answer) None answer
    (read_tells bytes next answer (λ f n. files_tells names (fs ++ f ∷ []) turns steps (later_loads loads) rose answer n)) m

-- ---- the status is the decided one
plays_settled :
    (fs : List ElfFile) (turns : Option (List ℕ)) (steps : ℕ) (answer : Answer) (t : Status) → Plays fs turns steps answer → PlayDecides fs turns steps t
    → answer.status ≡ t
plays_settled fs turns steps answer t (world.too_large over plain) (world.is_too_large l e) = plain.status ∙ sym e
plays_settled fs turns steps answer t (world.too_large over plain) (world.is_shared i j l h e) = absurd (omega (arith, over, l))
plays_settled fs turns steps answer t (world.too_large over plain) (world.is_told l n e) = absurd (omega (arith, over, l))
plays_settled fs turns steps answer t (world.shared i j small least plain) (world.is_too_large l e) = absurd (omega (arith, small, l))
plays_settled fs turns steps answer t (world.shared i j small least plain) (world.is_shared h k l m e) = plain.status ∙ sym e
plays_settled fs turns steps answer t (world.shared i j small least plain) (world.is_told l n e) = absurd (n i j least.is)
plays_settled fs turns steps answer t (world.told small none plain keeps) (world.is_too_large l e) = absurd (omega (arith, small, l))
plays_settled fs turns steps answer t (world.told small none plain keeps) (world.is_shared h k l m e) = absurd (none h k m.is)
plays_settled fs turns steps answer t (world.told small none plain keeps) (world.is_told l n e) = plain.status ∙ sym e

pub files_settled :
    (names : List (List ℕ)) (fs : List ElfFile) (turns : Option (List ℕ)) (steps : ℕ) (loads : LoadedFiles) (rose : List ℕ → Type 0) (answer : Answer) (t : Status)
    → AllByRecursion (λ name. rose name → ⊥) names → FilesCallFor names fs turns steps loads rose answer → FilesDecide names fs turns steps loads t
    → answer.status ≡ t
files_settled [] fs turns steps loads rose answer t calm m d = plays_settled fs turns steps answer t m d
files_settled (name ∷ names) fs turns steps loads rose answer t calm m d =
    let bytes = file_bytes (loads 0) name in
    let means : ElfFile → Type 0 = λ f. FilesCallFor names (fs ++ f ∷ []) turns steps (later_loads loads) rose answer in
    let decides : ElfFile → Type 0 = λ f. FilesDecide names (fs ++ f ∷ []) turns steps (later_loads loads) t in
    calls_settled RunFileBytes bytes (rose name) (ReadOn bytes means answer) (ReadOnDecides bytes decides t) answer t
    (read_settled bytes means decides answer t (λ f n e. files_settled names (fs ++ f ∷ []) turns steps (later_loads loads) rose answer t calm.1 n e)) calm.0 m d
