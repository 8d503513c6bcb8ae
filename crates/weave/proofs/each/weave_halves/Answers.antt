use Rattle.std.proofs.Common.{◌≡◌, ℕ, List, [], ◌++◌, sym, subst}
use Rattle.qed_model.specs.declared.role.Role.TheVariants as role
use Rattle.qed_model.specs.Weave.Forms.{mirror_of}
use Rattle.qed_model.specs.Weave.Parts.{each_parts}
use Rattle.qed_model.specs.Weave.Sequences.{Ins, original, guards}
use Rattle.qed_model.specs.Weave.Costs.{used}
use Rattle.weave_core.specs.Parts.{unguarded}
use Rattle.weave_core.proofs.Lemmas.{guarded_original}
use Rattle.weave.specs.Handed.{Comes, Handed}
use Rattle.weave.proofs.Taking.{begun, comes, on, last, ended}
use Rattle.weave.proofs.Parts.{each_alike}
use Rattle.weave.proofs.each.weave_halves.Goals as goal

-- the originals of the passes are those of the sequences
alike : (is : List Ins) (at : ℕ) → each_parts role.Original (λ i a. guards (used i) ++ unguarded i a) is at ≡ each_parts role.Original original is at
alike = each_alike role.Original (λ i a. guards (used i) ++ unguarded i a) original guarded_original

pub weave_each-requires-clause-come : goal.weave_each-requires-clause-come
weave_each-requires-clause-come g c =
    let is = c.args.list.now in
    let at = c.args.at in
    subst (Comes (g.S.ItemSink.took c.args.to.now.sink) c.args.to.now.items) (sym (alike is at))
    (comes (each_parts role.Original original is at) (each_parts role.Mirror (mirror_of c.args.mirrors.now.diverse) is at) (begun _ _ _ c.requires.come))

pub weave_each-requires-2-clause-come : goal.weave_each-requires-2-clause-come
weave_each-requires-2-clause-come g c =
    let is = c.args.list.now in
    let at = c.args.at in
    let mirrors = each_parts role.Mirror (mirror_of c.args.mirrors.now.diverse) is at in
    comes mirrors [] (last mirrors (on (each_parts role.Original original is at) mirrors (begun _ _ _ c.requires.come)
    (subst (Handed (g.S.ItemSink.took c.args.to.now.sink) (g.S.ItemSink.took c.weave_each.new.to.sink) c.weave_each.new.to.items) (alike is at) c.in_ok-weave_each.ensures)))

pub returns : goal.returns
returns g c =
    let is = c.args.list.now in
    let at = c.args.at in
    let mirrors = each_parts role.Mirror (mirror_of c.args.mirrors.now.diverse) is at in
    ended _ _ _ _ (on mirrors [] (last mirrors (on (each_parts role.Original original is at) mirrors (begun _ _ _ c.requires.come)
    (subst (Handed (g.S.ItemSink.took c.args.to.now.sink) (g.S.ItemSink.took c.weave_each.new.to.sink) c.weave_each.new.to.items) (alike is at) c.in_ok-weave_each.ensures))) c.in_ok-weave_each-2.ensures)
