use Rattle.std.proofs.Common.{◌∙◌, sym}
use Rattle.std.proofs.lemmas.Map.Text.{hash_map_updates_str}
use Rattle.rv_asm.specs.Named.{label_named}
use Rattle.rv_asm.proofs.FirstLabels.{put_first, put_later}
use Rattle.rv_asm.proofs.labels.Labels.define.Goals as goal

pub returns-in_ok-insert-in-None : goal.returns-in_ok-insert-in-None
returns-in_ok-insert-in-None c = λ q.
    hash_map_updates_str c.args.name.now c.args.self.now.by_name c.insert.new.self _ c.in_ok-insert-in-None.ensures.updates q
    ∙ put_first c.args.name.now q (label_named c.args.self.now) c.args.label (sym c.in-None.ensures)

pub returns-in-Some : goal.returns-in-Some
returns-in-Some c = λ q. put_later c.args.name.now q (label_named c.args.self.now) c.args.label _ (sym c.in-Some.ensures)
