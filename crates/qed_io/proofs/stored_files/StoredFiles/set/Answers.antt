use Rattle.std.proofs.Common.{ap, ◌∙◌, string_bytes}
use Rattle.std.specs.FinMap as map
use Rattle.qed_io.proofs.StoredText.{files_of-insert}
use Rattle.qed_io.proofs.stored_files.StoredFiles.set.Goals as goal

pub returns-clause-ok : goal.returns-clause-ok
returns-clause-ok c =
    let old = c.self.inside.by_name in
    let key = c.in_ok-from_str.field-0 in
    files_of-insert old c.insert.new.self (string_bytes key) c.in_ok-kept.kept c.in_ok-insert.ensures.updates
    ∙ ap (λ m. map.insert m (string_bytes key) c.in_ok-kept.kept) c.self.view_is
    ∙ ap (λ n. map.insert c.args.self.now n c.in_ok-kept.kept) c.in_ok-from_str.ensures.ok
    ∙ ap (λ bytes. map.insert c.args.self.now c.args.name.now bytes) c.in_ok-kept.ensures
