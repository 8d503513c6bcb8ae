use Rattle.std.proofs.Common.{◌≡◌, ℕ, List, [], drop, length, Option}
use Rattle.qed_top.specs.Answer.{IsFaultless, RoseAt}
use Rattle.qed_top.specs.Loads.{OverLoads}
use Rattle.qed_top.specs.World.{FilesCallFor, programs, AreSound}
use Rattle.qed_top.specs.declared.answer.Answer.{Answer}
use Rattle.qed_top.proofs.world.read_files.Given as goal

-- the files so far were read, so what the other names call for behind them is what all names call for
abbrev pub invariant-loop-name : goal.invariant-loop-name
invariant-loop-name g l =
    let shelf = g.S.Shelf in
    let told = shelf.files l.fn.shelf in
    let before = shelf.load_faults l.fn.shelf in
    record {
      same : shelf.files l.shelf ≡ told;
      steady : IsFaultless shelf l.fn.shelf l.shelf;
      count : length l.files.items ≡ l.name-index;
      sound : AreSound (programs l.files.items);
      leads :
          (turns : Option (List ℕ)) (steps : ℕ) (after : List ℕ → ℕ) (answer : Answer)
          → OverLoads told (λ loads. FilesCallFor (drop l.name-index l.names) l.files.items turns steps loads (RoseAt before after) answer)
          → OverLoads told (λ loads. FilesCallFor l.names [] turns steps loads (RoseAt before after) answer);
    }
