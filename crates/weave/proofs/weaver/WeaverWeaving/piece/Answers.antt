use Rattle.std.proofs.Common.{◌≡◌, ℕ, Bool, List, [], ◌∷◌, ◌++◌, sym, subst, append_assoc}
use Rattle.qed_model.specs.declared.item.Item.{Item}
use Rattle.qed_model.specs.declared.role.Role.{Role}
use Rattle.qed_model.specs.declared.role.Role.TheVariants as role
use Rattle.qed_model.specs.Weave.Parts.{parts, each_parts, last_of}
use Rattle.qed_model.specs.Weave.Sequences.{Ins, Form, original, compare, visit}
use Rattle.relinker.specs.Sink.{ComeNext}
use Rattle.weave.specs.Form.{form}
use Rattle.weave.specs.Handed.{Comes, Handed}
use Rattle.weave.proofs.Taking.{UpTo, begun, comes, on, part_comes, part_on, ended}
use Rattle.weave.proofs.weaver.WeaverWeaving.piece.Goals as goal

abbrev halves : Form → List Ins → ℕ → List (Role × List Item)
halves f is at = each_parts role.Original original is at ++ each_parts role.Mirror f.mirror is at

abbrev behind : Form → List Ins → ℕ → List (Role × List Item)
behind f is at = (role.Visit at (last_of is at), compare ++ visit f.round f.spans) ∷ []

-- the halves come first, then the rest of the piece
halved :
    (old : Bool × ℕ → List (Role × List Item) → List (Role × List Item) → Type 0) (items : List Item) (f : Form) (is : List Ins) (at : ℕ) → Comes old items ((parts f).piece is at)
    → UpTo old old items ((parts f).piece is at) (halves f is at ++ behind f is at)
halved old items f is at c =
    subst (UpTo old old items ((parts f).piece is at)) (sym (append_assoc (each_parts role.Original original is at) (each_parts role.Mirror f.mirror is at) (behind f is at)))
    (begun old items ((parts f).piece is at) c)

pub weave_halves-requires-clause-come : goal.weave_halves-requires-clause-come
weave_halves-requires-clause-come g c =
    let f = form c.args.self.now in
    let is = c.args.list.now in
    let at = c.args.at in
    comes (halves f is at) (behind f is at) (halved _ _ f is at c.requires.come)

pub end-requires : goal.end-requires
end-requires g c =
    let f = form c.args.self.now in
    let is = c.args.list.now in
    let at = c.args.at in
    let mid = g.S.ItemSink.took c.weave_halves.new.to.sink in
    subst (λ k. ComeNext mid ((role.Visit at k, c.emit_all.new.out) ∷ [])) (sym c.last_of.ensures)
    (part_comes (role.Visit at (last_of is at)) c.emit_all.new.out (compare ++ visit f.round f.spans) []
    (on (halves f is at) (behind f is at) (halved _ _ f is at c.requires.come) c.in_ok-weave_halves.ensures)
    c.in_ok-emit_all.ensures.all)

pub returns : goal.returns
returns g c =
    let f = form c.args.self.now in
    let is = c.args.list.now in
    let at = c.args.at in
    let mid = g.S.ItemSink.took c.weave_halves.new.to.sink in
    let new = g.S.ItemSink.took c.end.new.self.sink in
    ended _ _ _ _
    (part_on (role.Visit at (last_of is at)) c.emit_all.new.out (compare ++ visit f.round f.spans) []
    (on (halves f is at) (behind f is at) (halved _ _ f is at c.requires.come) c.in_ok-weave_halves.ensures)
    c.in_ok-emit_all.ensures.all
    (subst (λ k. Handed mid new c.end.new.self.items ((role.Visit at k, c.emit_all.new.out) ∷ [])) c.last_of.ensures c.in_ok-end.ensures))
