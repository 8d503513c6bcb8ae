use Rattle.std.proofs.Common.{lit<, ◌≡◌, ◌+◌, ◌∷◌, [], ◌++◌, length, Ok, refl, sym, ap, ◌∙◌, subst, arith, rules, tests}
use Rattle.std.proofs.lemmas.List.{length_push}
use Rattle.machine.specs.Below.{gather}
use Rattle.rv_asm.specs.Lines.{lines_of}
use Rattle.rv_asm.specs.Named.{label_named}
use Rattle.rv_asm.specs.Program.{IsSoFar}
use Rattle.rv_asm.specs.Assembled.{place_behind, symbol_in, code_of_lines, data_of, symbols_of}
use Rattle.rv_asm.proofs.Turns.{line_turn, lines_end, before_next, given_same, first_fault, so_far_more}
use Rattle.rv_asm.proofs.program.program_of.Goals as goal

pub loop-line-init : goal.loop-line-init
unfolding place_behind code_of_lines data_of symbols_of gather
loop-line-init c = record {
  before = record { counted = refl; placed = refl; code_near = lit< tt; values_near = lit< tt };
  so_far = record { faultless = λ i l. absurd (omega (arith, l)); code = c.new-code.ensures.items; words = c.new-values.ensures.items; symbols = c.new-symbols.ensures.items };
}

pub returns-in-Err : goal.returns-in-Err
returns-in-Err c =
    let made = c.split-line-items.ensures in
    let t = line_turn _ c.args.text.now _ _ _ _ _ c.loop-line.yielded _ c.in-Some.line c.loop-line.yielded_by c.in-Some.is c.next.ensures.steps c.into_iter-line-iterator.ensures.into_iter_gives made.rest made.done made.closure (λ x b q k. search (rules, tests)) in
    let lines = lines_of c.args.text.now in
    let n = length c.loop-line.yielded in
    let p = c.parts-line.result in
    let same = given_same lines n c.in-Some.line.now (label_named c.in_ok-labels.labels) c.loop-line.place c.loop-line.number p.head p.word.now p.rest.now t c.in_ok-labels.ensures c.loop-line.invariant.before.placed c.loop-line.invariant.before.counted c.parts-line.ensures.head c.parts-line.ensures.word c.parts-line.ensures.rest in
    first_fault c.args.text.now n c.loop-line.number c.in-Some.line.now c.in-Err.fault t c.loop-line.invariant.before.counted c.loop-line.invariant.so_far.faultless (sym same ∙ (sym c.give.ensures ∙ c.in-Err.is))

pub loop-line-preserved : goal.loop-line-preserved
loop-line-preserved c =
    let made = c.split-line-items.ensures in
    let t = line_turn _ c.args.text.now _ _ _ _ _ c.loop-line.yielded _ c.in-Some.line c.loop-line.yielded_by c.in-Some.is c.next.ensures.steps c.into_iter-line-iterator.ensures.into_iter_gives made.rest made.done made.closure (λ x b q k. search (rules, tests)) in
    let lines = lines_of c.args.text.now in
    let n = length c.loop-line.yielded in
    let p = c.parts-line.result in
    let i = c.loop-line.invariant in
    let same = given_same lines n c.in-Some.line.now (label_named c.in_ok-labels.labels) c.loop-line.place c.loop-line.number p.head p.word.now p.rest.now t c.in_ok-labels.ensures i.before.placed i.before.counted c.parts-line.ensures.head c.parts-line.ensures.word c.parts-line.ensures.rest in
    let one_on : n + 1 ≡ length (c.loop-line.yielded ++ c.in-Some.line ∷ []) = sym (length_push c.loop-line.yielded c.in-Some.line) in
    let e = c.in_ok-add-in-Ok.ensures in
    record {
      before = before_next c.args.text.now n _ c.loop-line.number c.in-Some.line.now c.loop-line.place c.behind-place.result p.head c.requires t one_on i.before c.parts-line.ensures.head c.behind-place.ensures;
      so_far =
          so_far_more lines n _ c.in-Some.line.now c.loop-line.place p.word.now c.in-Ok.given c.loop-line.program c.add.new.self t one_on i.before.placed c.parts-line.ensures.word (sym same ∙ (sym c.give.ensures ∙ c.in-Ok.is)) i.so_far
          e.code e.words (e.symbols ∙ ap (λ a. c.loop-line.program.symbols.items ++ symbol_in p.word.now a (Ok c.in-Ok.given)) c.address.ensures);
    }

pub returns : goal.returns
returns c =
    let made = c.split-line-items.ensures in
    let end = lines_end _ c.args.text.now _ _ _ _ _ c.loop-line.yielded _ c.loop-line.yielded_by c.in-None.is c.next.ensures.steps c.into_iter-line-iterator.ensures.into_iter_gives made.rest made.done made.closure (λ x b q k. search (rules, tests)) in
    subst (λ k. IsSoFar (lines_of c.args.text.now) k c.loop-line.program) end c.loop-line.invariant.so_far
