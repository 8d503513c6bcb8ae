use Rattle.std.proofs.Common.{[], ◌∷◌, sym, subst}
use Rattle.qed_model.specs.declared.role.Role.TheVariants as role
use Rattle.qed_model.specs.Weave.Blocks.{begins_at}
use Rattle.qed_model.specs.Weave.LeanCode.{fall_words}
use Rattle.weave.specs.Handed.{Comes, Handed}
use Rattle.weave.proofs.Taking.{begun, comes, on, part_comes, part_on, ended}
use Rattle.lean.specs.Form.{lean_form, blocks_in}
use Rattle.lean.specs.Leaves.{lean_before_parts, lean_last_items}
use Rattle.lean.proofs.Leaves.{block_split}
use Rattle.lean.proofs.weaver.LeanWeaverWeaving.leave.Goals as goal

pub before_end-requires : goal.before_end-requires
before_end-requires g c =
    let split = block_split c.args.self.now c.args.block.now c.end_address-at.result c.end_address-at.ensures c.requires.own in
    comes _ _ (begun _ _ _ (subst (Comes (g.S.ItemSink.took c.args.to.now.sink) c.args.to.now.items) split c.requires.come))

pub end-requires : goal.end-requires
end-requires g c =
    let w = c.args.self.now in
    let b = c.args.block.now in
    let at = c.end_address-at.result in
    let last = lean_last_items w.distance (fall_words (begins_at (blocks_in w))) b.end b.start at in
    let split = block_split w b at c.end_address-at.ensures c.requires.own in
    part_comes (role.Leave at) _ last []
    (on (lean_before_parts (lean_form w) w.distance b.end b.start at) ((role.Leave at, last) ∷ []) (begun _ _ _ (subst (Comes (g.S.ItemSink.took c.args.to.now.sink) c.args.to.now.items) split c.requires.come)) c.in_ok-before_end.ensures)
    c.in_ok-put_leave.ensures

pub returns : goal.returns
returns g c =
    let w = c.args.self.now in
    let b = c.args.block.now in
    let at = c.end_address-at.result in
    let last = lean_last_items w.distance (fall_words (begins_at (blocks_in w))) b.end b.start at in
    let split = block_split w b at c.end_address-at.ensures c.requires.own in
    subst (Handed (g.S.ItemSink.took c.args.to.now.sink) (g.S.ItemSink.took c.end.new.self.sink) c.end.new.self.items) (sym split)
    (ended _ _ _ _ (part_on (role.Leave at) _ last []
    (on (lean_before_parts (lean_form w) w.distance b.end b.start at) ((role.Leave at, last) ∷ []) (begun _ _ _ (subst (Comes (g.S.ItemSink.took c.args.to.now.sink) c.args.to.now.items) split c.requires.come)) c.in_ok-before_end.ensures)
    c.in_ok-put_leave.ensures c.in_ok-end.ensures))
