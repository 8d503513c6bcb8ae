use Rattle.std.proofs.Common.{◌≡◌, ◌+◌, ap, ◌∙◌, sym, rules}
use Rattle.machine.specs.declared.outcome.Outcome.TheVariants.{Going, Ended}
use Rattle.campaign.specs.Found.{trap_pc_of, run}
use Rattle.campaign.proofs.Leaping.{ended_untrapped}
use Rattle.campaign.proofs.watched.Watched.trap.Goals as goal

pub returns-then-eq : goal.returns-then-eq
returns-then-eq c =
    let ended : c.self.inside.later.state.outcome ≡ Ended = search rules in
    let steps = c.args.last + c.args.bound in
    sym (ap (λ s. trap_pc_of (run s steps).outcome) (sym c.self.view_is) ∙ ended_untrapped c.self.inside.start.state c.self.inside.later.state c.self.inside.steps steps c.self.invariant ended)

pub returns-in-Some : goal.returns-in-Some
returns-in-Some c =
    let there : c.in-Some.machine.state ≡ run c.args.self.now (c.args.last + c.args.bound) = rw c.in-Some.is at c.in_ok-machine.ensures.there in
    c.trap_pc.ensures ∙ ap trap_pc_of c.outcome.ensures ∙ ap (λ s. trap_pc_of s.outcome) there

pub returns-in-None : goal.returns-in-None
returns-in-None c =
    let going : (run c.args.self.now (c.args.last + c.args.bound)).outcome ≡ Going = rw c.in-None.is at c.in_ok-machine.ensures.going in
    sym (ap trap_pc_of going)
