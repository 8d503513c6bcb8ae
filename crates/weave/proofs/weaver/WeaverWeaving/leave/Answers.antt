use Rattle.std.proofs.Common.{◌+◌, ◌*◌, [], ◌∷◌, length, sym, subst}
use Rattle.qed_model.specs.declared.role.Role.TheVariants as role
use Rattle.weave.specs.Form.{form}
use Rattle.weave.specs.Handed.{Comes, Handed}
use Rattle.weave.specs.Leaves.{before_parts, last_items}
use Rattle.weave.proofs.Taking.{begun, comes, on, part_comes, part_on, ended}
use Rattle.weave.proofs.Parts.{leave_split}
use Rattle.weave.proofs.weaver.WeaverWeaving.leave.Goals as goal

pub before_end-requires : goal.before_end-requires
before_end-requires g c =
    let b = c.args.block.now in
    let split = leave_split (form c.args.self.now) b.end (b.start + 4 * length b.body) c.end_address-at.result c.end_address-at.ensures in
    comes _ _ (begun _ _ _ (subst (Comes (g.S.ItemSink.took c.args.to.now.sink) c.args.to.now.items) split c.requires.come))

pub end-requires : goal.end-requires
end-requires g c =
    let b = c.args.block.now in
    let f = form c.args.self.now in
    let at = c.end_address-at.result in
    let split = leave_split f b.end (b.start + 4 * length b.body) at c.end_address-at.ensures in
    part_comes (role.Leave at) c.leave_at.new.out (last_items f b.end at) []
    (on (before_parts f b.end) ((role.Leave at, last_items f b.end at) ∷ [])
    (begun _ _ _ (subst (Comes (g.S.ItemSink.took c.args.to.now.sink) c.args.to.now.items) split c.requires.come)) c.in_ok-before_end.ensures) c.in_ok-leave_at.ensures

pub returns : goal.returns
returns g c =
    let b = c.args.block.now in
    let f = form c.args.self.now in
    let at = c.end_address-at.result in
    let split = leave_split f b.end (b.start + 4 * length b.body) at c.end_address-at.ensures in
    subst (Handed (g.S.ItemSink.took c.args.to.now.sink) (g.S.ItemSink.took c.end.new.self.sink) c.end.new.self.items) (sym split)
    (ended _ _ _ _ (part_on (role.Leave at) c.leave_at.new.out (last_items f b.end at) []
    (on (before_parts f b.end) ((role.Leave at, last_items f b.end at) ∷ [])
    (begun _ _ _ (subst (Comes (g.S.ItemSink.took c.args.to.now.sink) c.args.to.now.items) split c.requires.come)) c.in_ok-before_end.ensures) c.in_ok-leave_at.ensures c.in_ok-end.ensures))
