use Rattle.std.proofs.Common.{rules, ◌∙◌, ap, map}
use Rattle.block_split.specs.Listed.{block_of}
use Rattle.weave.specs.Form.{code_to_stub}
use Rattle.elf_types.specs.declared.file.ElfFile.{ElfFile}
use Rattle.qed_model.specs.Weave.Placed.{leads_to}
use Rattle.qed_model.specs.Weave.Woven.{lean}
use Rattle.weave.specs.Code.{HasCodeCause}
use Rattle.lean.specs.Code.{IsLeanCut}
use Rattle.lean.specs.Form.{lean_code_of}
use Rattle.lean.proofs.Forms.{fit, half_small, ascend, low, cause, come, linked_is}
use Rattle.lean.proofs.Owned.{owned}
use Rattle.lean.proofs.code.lean_code.Goals as goal

pub counted-requires-clause-half : goal.counted-requires-clause-half
counted-requires-clause-half c = half_small c.requires.0 c.args.options.now c.args.every c.args.test.now c.args.blocks.now c.requires.1

pub counted-requires-clause-fit : goal.counted-requires-clause-fit
counted-requires-clause-fit c = fit c.requires.0 c.args.options.now c.args.every c.args.test.now c.args.blocks.now c.requires.1

pub counted-requires-clause-own : goal.counted-requires-clause-own
counted-requires-clause-own c = owned c.requires.0 c.args.options.now c.args.every c.args.blocks.now c.requires.1.cut c.in_ok-weaver.weaver c.in_ok-weaver.ensures.blocks (fit c.requires.0 c.args.options.now c.args.every c.args.test.now c.args.blocks.now c.requires.1)

pub lay-requires-clause-counted : goal.lay-requires-clause-counted
lay-requires-clause-counted c = (code_to_stub (lean_code_of c.in_ok-weaver.weaver) c.args.test.now.distance c.args.test.now.entry (map block_of c.args.blocks.now), c.in_ok-count.ensures.counted)

-- the entries are known
pub place-requires-clause-rows : goal.place-requires-clause-rows
place-requires-clause-rows c =
    ascend c.requires.0 c.args.options.now c.args.every c.args.test.now c.args.blocks.now c.requires.1 c.in_ok-weaver.weaver c.in_ok-weaver.ensures.code c.in_ok-count.count c.in_ok-count.ensures.form c.in_ok-count.ensures.counted
    c.in_ok-layout.layout c.in_ok-layout.ensures.form c.in_ok-layout.ensures.base c.in_ok-layout.ensures.limit c.in_ok-layout.ensures.laid c.in_ok-entries.entries.items c.last.result (c.in_ok-entries.ensures.items ∙ c.entries.ensures) c.last.ensures

pub place-requires-clause-low : goal.place-requires-clause-low
place-requires-clause-low c =
    low c.requires.0 c.args.options.now c.args.every c.args.test.now c.args.blocks.now c.requires.1 c.in_ok-weaver.weaver c.in_ok-weaver.ensures.code c.in_ok-count.count c.in_ok-count.ensures.form c.in_ok-count.ensures.counted
    c.in_ok-layout.layout c.in_ok-layout.ensures.form c.in_ok-layout.ensures.base c.in_ok-layout.ensures.limit c.in_ok-layout.ensures.laid c.in_ok-entries.entries.items c.last.result (c.in_ok-entries.ensures.items ∙ c.entries.ensures) c.last.ensures

pub written-requires-clause-half : goal.written-requires-clause-half
written-requires-clause-half c = half_small c.requires.0 c.args.options.now c.args.every c.args.test.now c.args.blocks.now c.requires.1

pub written-requires-clause-fit : goal.written-requires-clause-fit
written-requires-clause-fit c = fit c.requires.0 c.args.options.now c.args.every c.args.test.now c.args.blocks.now c.requires.1

pub written-requires-clause-own : goal.written-requires-clause-own
written-requires-clause-own c = owned c.requires.0 c.args.options.now c.args.every c.args.blocks.now c.requires.1.cut c.place.new.weaver (c.place.ensures.blocks ∙ c.in_ok-weaver.ensures.blocks) (fit c.requires.0 c.args.options.now c.args.every c.args.test.now c.args.blocks.now c.requires.1)

pub written-requires-clause-laid : goal.written-requires-clause-laid
written-requires-clause-laid c =
    come c.requires.0 c.args.options.now c.args.every c.args.test.now c.args.blocks.now c.requires.1 c.in_ok-weaver.weaver c.in_ok-weaver.ensures.code c.in_ok-count.count c.in_ok-count.ensures.form c.in_ok-count.ensures.counted
    c.in_ok-layout.layout c.in_ok-layout.ensures.form c.in_ok-layout.ensures.base c.in_ok-layout.ensures.limit c.in_ok-layout.ensures.laid c.in_ok-entries.entries.items c.last.result (c.in_ok-entries.ensures.items ∙ c.entries.ensures) c.last.ensures
    c.place.new.weaver (c.place.ensures.code)

pub returns-clause-code : goal.returns-clause-code
returns-clause-code c = λ f cut.
    linked_is f c.args.options.now c.args.every c.args.test.now c.args.blocks.now cut c.in_ok-weaver.weaver c.in_ok-weaver.ensures.code c.in_ok-count.count c.in_ok-count.ensures.form c.in_ok-count.ensures.counted
    c.in_ok-layout.layout c.in_ok-layout.ensures.form c.in_ok-layout.ensures.base c.in_ok-layout.ensures.limit c.in_ok-layout.ensures.laid c.in_ok-entries.entries.items c.last.result (c.in_ok-entries.ensures.items ∙ c.entries.ensures) c.last.ensures
    c.place.new.weaver (c.place.ensures.code)
    c.in_ok-linked.linked c.in_ok-linked.ensures (c.place.ensures.blocks ∙ c.in_ok-weaver.ensures.blocks) (c.place.ensures.every ∙ c.in_ok-weaver.ensures.every)
    (c.place.ensures.parts ∙ ap (λ parts. parts (leads_to c.in_ok-entries.entries.items c.last.result)) c.in_ok-weaver.ensures.parts)

pub returns-in_err-layout-clause-cause : goal.returns-in_err-layout-clause-cause
returns-in_err-layout-clause-cause c =
    let e = c.in_err-layout.field-0.0 in
    let has : (f : ElfFile) → IsLeanCut f c.args.options.now c.args.every c.args.test.now c.args.blocks.now → HasCodeCause (lean f c.args.options.now c.args.every (map block_of c.args.blocks.now)) e = λ f cut.
    cause f c.args.options.now c.args.every c.args.test.now c.args.blocks.now cut c.in_ok-weaver.weaver c.in_ok-weaver.ensures.code c.in_ok-count.count c.in_ok-count.ensures.form c.in_ok-count.ensures.counted e c.in_err-layout.ensures.cause in
    search rules
