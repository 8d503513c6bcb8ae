use Rattle.std.proofs.Common.{◌++◌, ap, ◌∙◌, refl}
use Rattle.relinker.proofs.Counting.{more_counted}
use Rattle.relinker.proofs.count.Count.add_all.Goals as goal

pub returns-clause-more : goal.returns-clause-more
returns-clause-more c done was =
    more_counted c.args.self.now (record { far = c.args.self.now.far; bytes = c.saturating_add-self.result; marks = c.extend_from_slice.new.self }) done c.args.items.now c.size_of_all.result
    c.in_ok-marks.marks.items refl c.size_of_all.ensures c.saturating_add-self.ensures c.in_ok-marks.ensures
    (c.in_ok-extend_from_slice.ensures.items ∙ ap (λ m. c.args.self.now.marks.items ++ m) c.deref.ensures.value) was
