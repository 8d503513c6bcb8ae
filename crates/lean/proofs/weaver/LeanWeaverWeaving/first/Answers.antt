use Rattle.std.proofs.Common.{◌≡◌, ℕ, List, [], ◌∷◌, ◌++◌, ap, ◌∙◌}
use Rattle.qed_model.specs.declared.item.Item.{Item}
use Rattle.qed_model.specs.declared.role.Role.{Role}
use Rattle.qed_model.specs.declared.role.Role.TheVariants as role
use Rattle.qed_model.specs.Weave.Sequences.{compare, visit, SIGNATURE}
use Rattle.qed_model.specs.Weave.Lean.{begin, first_word, called, check_distance, begun as begun_at, done, look_up, look_again}
use Rattle.plc_rounds.specs.Spans.{spans_of}
use Rattle.weave.proofs.Taking.{begun, part_comes, part_on, ended}
use Rattle.lean.specs.declared.weaver.LeanWeaver.{LeanWeaver}
use Rattle.lean.proofs.weaver.LeanWeaverWeaving.first.Goals as goal

abbrev word_of : LeanWeaver → ℕ
word_of w = first_word w.base (spans_of w.visits.span)

abbrev front : ℕ → ℕ → List Item
front d first = called ++ (check_distance d ++ (compare ++ begun_at first))

-- the parts from the last to the first
abbrev fifth : ℕ → List (Role × List Item)
fifth d = (role.LookUp, look_up SIGNATURE ++ look_again d) ∷ []

abbrev fourth : LeanWeaver → ℕ → List (Role × List Item)
fourth w d = (role.Check, done (word_of w) w.every) ∷ fifth d

abbrev third : LeanWeaver → ℕ → List (Role × List Item)
third w d = (role.CheckVisit, visit w.visits.round (spans_of w.visits.span)) ∷ fourth w d

abbrev second : LeanWeaver → ℕ → List (Role × List Item)
second w d = (role.Check, front d (word_of w)) ∷ third w d

pub end-requires : goal.end-requires
end-requires g c =
    let w = c.args.self.now in
    let d = c.args.distance in
    part_comes role.Start _ (begin d c.args.entry) (second w d) (begun _ _ _ c.requires.come) c.in_ok-put_begin.ensures

pub end-requires-2 : goal.end-requires-2
end-requires-2 g c =
    let w = c.args.self.now in
    let d = c.args.distance in
    let word : c.first_word-first.result ≡ word_of w = c.first_word-first.ensures in
    let one = part_on role.Start _ (begin d c.args.entry) (second w d) (begun _ _ _ c.requires.come) c.in_ok-put_begin.ensures c.in_ok-end.ensures in
    part_comes role.Check _ (front d (word_of w)) (third w d) one (c.in_ok-put_front.ensures ∙ ap (λ n. c.end.new.self.items ++ front d n) word)

pub end-requires-3 : goal.end-requires-3
end-requires-3 g c =
    let w = c.args.self.now in
    let d = c.args.distance in
    let word : c.first_word-first.result ≡ word_of w = c.first_word-first.ensures in
    let one = part_on role.Start _ (begin d c.args.entry) (second w d) (begun _ _ _ c.requires.come) c.in_ok-put_begin.ensures c.in_ok-end.ensures in
    let two = part_on role.Check _ (front d (word_of w)) (third w d) one (c.in_ok-put_front.ensures ∙ ap (λ n. c.end.new.self.items ++ front d n) word) c.in_ok-end-2.ensures in
    part_comes role.CheckVisit _ (visit w.visits.round (spans_of w.visits.span)) (fourth w d) two c.in_ok-emit.ensures.all

pub end-requires-4 : goal.end-requires-4
end-requires-4 g c =
    let w = c.args.self.now in
    let d = c.args.distance in
    let word : c.first_word-first.result ≡ word_of w = c.first_word-first.ensures in
    let one = part_on role.Start _ (begin d c.args.entry) (second w d) (begun _ _ _ c.requires.come) c.in_ok-put_begin.ensures c.in_ok-end.ensures in
    let two = part_on role.Check _ (front d (word_of w)) (third w d) one (c.in_ok-put_front.ensures ∙ ap (λ n. c.end.new.self.items ++ front d n) word) c.in_ok-end-2.ensures in
    let three = part_on role.CheckVisit _ (visit w.visits.round (spans_of w.visits.span)) (fourth w d) two c.in_ok-emit.ensures.all c.in_ok-end-3.ensures in
    part_comes role.Check _ (done (word_of w) w.every) (fifth d) three (c.in_ok-put_done.ensures ∙ ap (λ n. c.end-3.new.self.items ++ done n w.every) word)

pub end-requires-5 : goal.end-requires-5
end-requires-5 g c =
    let w = c.args.self.now in
    let d = c.args.distance in
    let word : c.first_word-first.result ≡ word_of w = c.first_word-first.ensures in
    let one = part_on role.Start _ (begin d c.args.entry) (second w d) (begun _ _ _ c.requires.come) c.in_ok-put_begin.ensures c.in_ok-end.ensures in
    let two = part_on role.Check _ (front d (word_of w)) (third w d) one (c.in_ok-put_front.ensures ∙ ap (λ n. c.end.new.self.items ++ front d n) word) c.in_ok-end-2.ensures in
    let three = part_on role.CheckVisit _ (visit w.visits.round (spans_of w.visits.span)) (fourth w d) two c.in_ok-emit.ensures.all c.in_ok-end-3.ensures in
    let four = part_on role.Check _ (done (word_of w) w.every) (fifth d) three (c.in_ok-put_done.ensures ∙ ap (λ n. c.end-3.new.self.items ++ done n w.every) word) c.in_ok-end-4.ensures in
    part_comes role.LookUp _ (look_up SIGNATURE ++ look_again d) [] four c.in_ok-put_look_ups.ensures

pub returns : goal.returns
returns g c =
    let w = c.args.self.now in
    let d = c.args.distance in
    let word : c.first_word-first.result ≡ word_of w = c.first_word-first.ensures in
    let one = part_on role.Start _ (begin d c.args.entry) (second w d) (begun _ _ _ c.requires.come) c.in_ok-put_begin.ensures c.in_ok-end.ensures in
    let two = part_on role.Check _ (front d (word_of w)) (third w d) one (c.in_ok-put_front.ensures ∙ ap (λ n. c.end.new.self.items ++ front d n) word) c.in_ok-end-2.ensures in
    let three = part_on role.CheckVisit _ (visit w.visits.round (spans_of w.visits.span)) (fourth w d) two c.in_ok-emit.ensures.all c.in_ok-end-3.ensures in
    let four = part_on role.Check _ (done (word_of w) w.every) (fifth d) three (c.in_ok-put_done.ensures ∙ ap (λ n. c.end-3.new.self.items ++ done n w.every) word) c.in_ok-end-4.ensures in
    ended _ _ _ _ (part_on role.LookUp _ (look_up SIGNATURE ++ look_again d) [] four c.in_ok-put_look_ups.ensures c.in_ok-end-5.ensures)
