use Rattle.std.proofs.Common.{rules, ◌≡◌, ◌+◌, ℕ, List, [], ◌∷◌, ◌++◌, drop, length, refl, sym, ap, ◌∙◌, subst, arith}
use Rattle.std.proofs.lemmas.List.{drop_all, length-append}
use Rattle.qed_top.specs.Answer.{CallsFor, LoadRose, RoseAt}
use Rattle.qed_top.specs.Loads.{OverFiles, OverLoads, file_bytes}
use Rattle.qed_top.specs.Refused.{IsUnread, ElfFile}
use Rattle.qed_top.specs.Turns.{IsTaken, RunFileBytes}
use Rattle.qed_top.specs.World.{FilesCallFor, Plays, programs, AreSound}
use Rattle.qed_top.proofs.Calls.{steady_both, steady_since}
use Rattle.qed_top.proofs.Meanings.{always_loads}
use Rattle.qed_top.proofs.Turning.{read_next, read_stops, sound_more, split_at}
use Rattle.qed_top.proofs.world.read_files.Goals as goal

pub loop-name-init : goal.loop-name-init
loop-name-init g c =
    let shelf = g.S.Shelf in
    let none = c.new-files.ensures.items in
    record {
      same = refl;
      steady = record { load = λ name. refl; store = λ name. refl };
      count = ap length none;
      sound = subst (λ (fs : List ElfFile). AreSound (programs fs)) (sym none) tt;
      leads = λ turns steps after answer o.
          subst (λ (fs : List ElfFile). OverLoads (shelf.files c.args.shelf.now) (λ loads. FilesCallFor c.args.names.now fs turns steps loads (RoseAt (shelf.load_faults c.args.shelf.now) after) answer)) none o;
    }

pub loop-name-preserved : goal.loop-name-preserved
loop-name-preserved g c =
    let shelf = g.S.Shelf in
    let start = c.args.shelf.now in
    let names = c.args.names.now in
    let k = c.loop-name.name-index in
    let name = c.name-item.result in
    let files = c.loop-name.files.items in
    let file = c.in-Ok.file in
    let known = c.loop-name.invariant in
    let split : drop k names ≡ name ∷ drop (k + 1) names = split_at names k name (search rules) (search rules) in
    let pushed : c.push.new.self.items ≡ files ++ file ∷ [] = search rules in
    let taken : OverFiles (shelf.files start) (λ fs. IsTaken (file_bytes fs name) file) = rw (c.in-Ok.is, known.same, c.as_str.ensures) at c.in_ok-read.ensures.read in
    record {
      same = c.in_ok-read.ensures.files ∙ known.same;
      steady = steady_both shelf start c.loop-name.shelf c.read_one.new.shelf known.steady (rw c.in-Ok.is at c.in_ok-read.ensures.loaded);
      count = ap length pushed ∙ length-append files (file ∷ []) ∙ ap (λ n. n + 1) known.count;
      sound = subst (λ (fs : List ElfFile). AreSound (programs fs)) (sym pushed) (sound_more files file known.sound (rw c.in-Ok.is at c.in_ok-read.ensures.fit) (rw c.in-Ok.is at c.in_ok-read.ensures.apart));
      leads = λ turns steps after answer o.
          known.leads turns steps after answer
          (read_next (shelf.files start) (drop k names) name (drop (k + 1) names) files turns steps (RoseAt (shelf.load_faults start) after) answer split c.push.new.self.items file pushed taken o);
    }

pub returns-in-Err-clause-other : goal.returns-in-Err-clause-other
returns-in-Err-clause-other g c turns steps =
    let shelf = g.S.Shelf in
    let start = c.args.shelf.now in
    let after = shelf.load_faults c.read_one.new.shelf in
    let names = c.args.names.now in
    let k = c.loop-name.name-index in
    let name = c.name-item.result in
    let answer = c.in-Err.answer in
    let known = c.loop-name.invariant in
    let split : drop k names ≡ name ∷ drop (k + 1) names = split_at names k name (search rules) (search rules) in
    let same = known.steady.load name in
    let rose = LoadRose shelf c.loop-name.shelf c.read_one.new.shelf name in
    let stops : OverFiles (shelf.files start) (λ fs. CallsFor RunFileBytes (file_bytes fs name) rose (IsUnread (file_bytes fs name) answer) answer)
    = rw (c.in-Err.is, known.same, c.as_str.ensures) at c.in_ok-read.ensures.other in
    known.leads turns steps after answer
    (read_stops (shelf.files start) (drop k names) name (drop (k + 1) names) c.loop-name.files.items turns steps (RoseAt (shelf.load_faults start) after) answer split rose (λ risen. omega (arith, risen, same)) stops)

pub returns-in-Err-clause-steady : goal.returns-in-Err-clause-steady
returns-in-Err-clause-steady g c =
    steady_since g.S.Shelf c.args.shelf.now c.loop-name.shelf c.read_one.new.shelf c.in-Err.answer c.loop-name.invariant.steady (rw c.in-Err.is at c.in_ok-read.ensures.steady)

pub returns-clause-read : goal.returns-clause-read
returns-clause-read g c turns steps after answer plays =
    let shelf = g.S.Shelf in
    let told = shelf.files c.args.shelf.now in
    let before = shelf.load_faults c.args.shelf.now in
    let files = c.loop-name.files.items in
    let done : drop c.loop-name.name-index c.args.names.now ≡ [] = drop_all c.loop-name.name-index c.args.names.now (search rules) in
    c.loop-name.invariant.leads turns steps after answer
    (subst (λ (ns : List (List ℕ)). OverLoads told (λ loads. FilesCallFor ns files turns steps loads (RoseAt before after) answer)) (sym done)
    (always_loads told (λ loads. Plays files turns steps answer) (λ loads. plays)))
