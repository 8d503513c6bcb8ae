use Rattle.std.proofs.Common.{lit<, ◌≡◌, ◌+◌, ◌∷◌, [], ◌++◌, length, take, cond, Some, None, refl, sym, ap, ◌∙◌, rules, tests}
use Rattle.std.proofs.lemmas.List.{length_push}
use Rattle.std.specs.List.{position_from}
use Rattle.std.specs.Option.{option_map, option_or}
use Rattle.rv_asm.specs.Lines.{lines_of, label_in}
use Rattle.rv_asm.specs.Named.{label_named}
use Rattle.rv_asm.specs.Assembled.{place_behind, label_at, is_same_label, defines}
use Rattle.rv_asm.proofs.Turns.{line_turn, lines_end, before_next, labelled, label_is, turn_labels, all_labels}
use Rattle.rv_asm.proofs.labels.labels_of.Goals as goal

pub loop-line-init : goal.loop-line-init
unfolding place_behind
loop-line-init c = record { before = record { counted = refl; placed = refl; code_near = lit< tt; values_near = lit< tt }; known = c.new-labels.ensures }

pub loop-line-preserved : goal.loop-line-preserved
loop-line-preserved c =
    let made = c.split-line-items.ensures in
    let t = line_turn _ c.args.text.now _ _ _ _ _ c.loop-line.yielded _ c.in-Some.line c.loop-line.yielded_by c.in-Some.is c.next.ensures.steps c.into_iter-line-iterator.ensures.into_iter_gives made.rest made.done made.closure (λ x b q k. search (rules, tests)) in
    let lines = lines_of c.args.text.now in
    let n = length c.loop-line.yielded in
    let i = c.loop-line.invariant in
    let one_on : n + 1 ≡ length (c.loop-line.yielded ++ c.in-Some.line ∷ []) = sym (length_push c.loop-line.yielded c.in-Some.line) in
    let label = labelled c.address.result c.loop-line.number in
    let is : label ≡ label_at lines n = label_is lines n c.loop-line.place c.address.result c.loop-line.number c.address.ensures i.before.placed i.before.counted in
    record {
      before = before_next c.args.text.now n _ c.loop-line.number c.in-Some.line.now c.loop-line.place c.behind-place.result c.parts-line.result.head c.requires t one_on i.before c.parts-line.ensures.head c.behind-place.ensures;
      known = λ q.
          turn_labels lines n c.in-Some.line.now (label_named c.loop-line.labels q) (label_named c.define_by.new.labels q) q label t
          (c.in_ok-define_by.ensures q ∙ ap (λ w. option_or (label_named c.loop-line.labels q) (cond (is_same_label q (label_in w)) (Some label) None)) c.parts-line.ensures.word)
          is (i.known q)
          ∙ ap (λ k. option_map (label_at lines) (position_from (defines q) 0 (take k lines))) one_on;
    }

pub returns : goal.returns
returns c =
    let made = c.split-line-items.ensures in
    let end = lines_end _ c.args.text.now _ _ _ _ _ c.loop-line.yielded _ c.loop-line.yielded_by c.in-None.is c.next.ensures.steps c.into_iter-line-iterator.ensures.into_iter_gives made.rest made.done made.closure (λ x b q k. search (rules, tests)) in
    λ q. all_labels (lines_of c.args.text.now) (length c.loop-line.yielded) q (label_named c.loop-line.labels q) end (c.loop-line.invariant.known q)
