use Rattle.std.proofs.Common.{◌≡◌, length, ap, ◌∙◌}
use Rattle.mem_image.specs.Overlap.{segments_of}
use Rattle.harts.specs.Harts.{all_segments}
use Rattle.harts.specs.Played.{programs}
use Rattle.harts.proofs.Starting.{all_fit, all_apart, world_started, length_started}
use Rattle.harts.proofs.world.World.start.Goals as goal

pub of-requires-clause-fit : goal.of-requires-clause-fit
of-requires-clause-fit c = all_fit c.args.files.now (segments_of c.deref.result.now) c.requires c.in_default.ensures.none (ap segments_of c.deref.ensures.value ∙ c.in_ok-specs.ensures)

pub of-requires-clause-apart : goal.of-requires-clause-apart
of-requires-clause-apart c =
    let same : segments_of c.deref.result.now ≡ all_segments (programs c.args.files.now) = ap segments_of c.deref.ensures.value ∙ c.in_ok-specs.ensures in
    all_apart c.args.files.now (segments_of c.deref.result.now) c.requires c.in_default.ensures.none same

pub returns-clause-started : goal.returns-clause-started
returns-clause-started c = world_started c.args.files.now c.in_ok-harts.harts.items c.in_ok-image.image (segments_of c.deref.result.now) c.in_ok-harts.ensures c.in_ok-image.ensures (ap segments_of c.deref.ensures.value ∙ c.in_ok-specs.ensures)

pub returns-clause-count : goal.returns-clause-count
returns-clause-count c = ap (λ w. length w.world.harts) (returns-clause-started c) ∙ length_started c.args.files.now
