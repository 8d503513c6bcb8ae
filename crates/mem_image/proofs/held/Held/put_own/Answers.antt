use Rattle.std.proofs.Common.{◌≡◌, ◌-◌, List, ℕ, refl, ap, ◌∙◌, take}
use Rattle.machine.specs.Program.{LoadSegment}
use Rattle.mem_image.specs.Segments.{bytes_put}
use Rattle.mem_image.proofs.WholeLaws.{spans}
use Rattle.mem_image.proofs.PageLaws.{put-take, put_with, put_in}
use Rattle.mem_image.proofs.WholeLaws.{like_put}
use Rattle.mem_image.proofs.held.Held.put_own.Goals as goal

pub returns-in-Some-clause-put : goal.returns-in-Some-clause-put
returns-in-Some-clause-put c =
    let x = c.self.inside in
    let a = c.args.address in
    let same : c.in-Some.page.now ≡ x.page.value = c.in-Some.ensures.value in
    let bytes : c.put.new.self.bytes ≡ bytes_put x.page.value.bytes (a - x.start) c.args.width c.args.value = c.put.ensures.put ∙ ap (λ p. bytes_put p.bytes (a - x.start) c.args.width c.args.value) same in
    let room = spans c.args.self.now a c.args.width c.requires.has in
    let segment : List ℕ → LoadSegment = λ bs. record { address = x.start; size = x.size; flags = record { read = x.readable; write = x.writable; execute = x.executable }; bytes = bs } in
    λ _. ap (λ bs. segment (take x.size bs)) bytes
    ∙ ap segment (put-take x.size x.page.value.bytes (a - x.start) c.args.width c.args.value)
    ∙ ap (λ (s : LoadSegment). put_in s (a - s.address) c.args.width c.args.value) c.self.view_is
    ∙ put_with c.args.self.now a c.args.width c.args.value room.0

pub returns-in-Some-clause-shape : goal.returns-in-Some-clause-shape
returns-in-Some-clause-shape c = like_put _ _ c.args.address c.args.width c.args.value (returns-in-Some-clause-put c refl)
