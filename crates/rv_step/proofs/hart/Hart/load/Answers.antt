use Rattle.std.proofs.Common.{sym, ap, ◌∙◌}
use Rattle.machine.specs.Values.{loaded, width_of}
use Rattle.mem_image.specs.Access.{allowed_number}
use Rattle.rv_step.proofs.Accesses.{load_reads, load_traps}
use Rattle.rv_step.proofs.hart.Hart.load.Goals as goal

pub returns-clause-step : goal.returns-clause-step
returns-clause-step c = load_reads c.args.ins.now c.args.self.now c.write_back.new.self c.args.image.now c.load.new.self c.place-address.result c.width.result c.in-Some.number c.extended.result c.load.ensures.same c.place-address.ensures (c.width.ensures ∙ ap width_of (sym c.requires)) (c.extended.ensures ∙ ap (λ k. loaded k c.in-Some.number) (sym c.requires)) (c.in-Some.ensures.number ∙ ap (λ m. allowed_number (λ f. f.read) m c.place-address.result c.width.result) (sym c.load.ensures.same)) (c.write_back.ensures.step c.load.new.self)

pub returns-in_default-clause-step : goal.returns-in_default-clause-step
returns-in_default-clause-step c = load_traps c.args.ins.now c.args.self.now c.trap.new.self c.args.image.now c.load.new.self c.place-address.result c.width.result c.load.ensures.same c.place-address.ensures (c.width.ensures ∙ ap width_of (sym c.requires)) (c.in_default.ensures.number ∙ ap (λ m. allowed_number (λ f. f.read) m c.place-address.result c.width.result) (sym c.load.ensures.same)) (c.trap.ensures c.load.new.self)
