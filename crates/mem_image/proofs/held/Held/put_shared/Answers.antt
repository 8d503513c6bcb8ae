use Rattle.std.proofs.Common.{◌≡◌, ◌-◌, List, ℕ, ap, ◌∙◌, take, is_ok, ⊎_elim}
use Rattle.machine.specs.Program.{LoadSegment}
use Rattle.mem_image.specs.Segments.{bytes_put}
use Rattle.mem_image.proofs.WholeLaws.{spans}
use Rattle.mem_image.proofs.PageLaws.{put-take, put_with, put_in}
use Rattle.mem_image.proofs.WholeLaws.{like_put}
use Rattle.mem_image.proofs.held.Held.put_shared.Goals as goal

pub returns-clause-put : goal.returns-clause-put
returns-clause-put c =
    let x = c.self.inside in
    let a = c.args.address in
    let same : c.in_ok-own.own.now ≡ x.page.value = ⊎_elim (λ e. e) (λ e. e) c.in_ok-own.ensures.value in
    let held : (c.make_mut.follows.lender c.put.new.self).value ≡ c.put.new.self = c.make_mut.follows.holds c.put.new.self (ap is_ok c.in_ok-own.was) in
    let bytes : (c.make_mut.follows.lender c.put.new.self).value.bytes ≡ bytes_put x.page.value.bytes (a - x.start) c.args.width c.args.value = ap (λ p. p.bytes) held ∙ c.put.ensures.put ∙ ap (λ p. bytes_put p.bytes (a - x.start) c.args.width c.args.value) same in
    let room = spans c.args.self.now a c.args.width c.requires.has in
    let segment : List ℕ → LoadSegment = λ bs. record { address = x.start; size = x.size; flags = record { read = x.readable; write = x.writable; execute = x.executable }; bytes = bs } in
    ap (λ bs. segment (take x.size bs)) bytes
    ∙ ap segment (put-take x.size x.page.value.bytes (a - x.start) c.args.width c.args.value)
    ∙ ap (λ (s : LoadSegment). put_in s (a - s.address) c.args.width c.args.value) c.self.view_is
    ∙ put_with c.args.self.now a c.args.width c.args.value room.0

pub returns-clause-shape : goal.returns-clause-shape
returns-clause-shape c = like_put _ _ c.args.address c.args.width c.args.value (returns-clause-put c)
