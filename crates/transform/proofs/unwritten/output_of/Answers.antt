use Rattle.std.proofs.Common.{◌≡◌, ℕ, ◌*◌, List, map, ap, ◌∙◌, arith}
use Rattle.elf_types.specs.declared.output.OutFile.{OutFile}
use Rattle.tests.specs.declared.options.Options.{Options}
use Rattle.tests.specs.Files.File.{IsReadAs}
use Rattle.block_split.specs.Listed.{block_of}
use Rattle.weave.specs.Code.{IsCut}
use Rattle.qed_model.specs.Weave.OutputParts.{out_symbols}
use Rattle.output_file.specs.Sizes.{symbols_room}
use Rattle.transform.specs.declared.error.TransformError.{TransformError}
use Rattle.transform.specs.Unwritten.{code_for, IsCoded}
use Rattle.transform.specs.Transform.{HasCause}
use Rattle.transform.proofs.Explaining.{most_room}
use Rattle.transform.proofs.Making.{made_of, no_symbols, size_is}
use Rattle.transform.proofs.Promises.{exceeded, if_err}
use Rattle.transform.proofs.unwritten.output_of.Goals as goal

pub overflow_mul-bytes : goal.overflow_mul-bytes
overflow_mul-bytes c =
    let f = c.args.cut.now.file in
    let r = c.requires.coded in
    let whole = size_is f r.0 c.args.cut.now.test c.args.cut.now.blocks r.1 c.args.code.now r.2 in
    let few = most_room f r.0 (map block_of c.args.cut.now.blocks) r.0.lean r.2.few in
    omega (arith, whole, few, c.len.ensures, c.args.code.now.linked.words.ok.0)

pub returns-clause-made : goal.returns-clause-made
returns-clause-made c = λ o cut is.
    let code = c.args.code.now in
    let rows = c.as_slice-entries.result.now in
    made_of c.args.cut.now.file o c.args.cut.now.test c.args.cut.now.blocks cut code is
    c.as_slice-blocks.result.now rows c.deref.result.now (4 * c.len.result) c.in_ok-out.out c.in_ok-plan.plan
    c.as_slice-blocks.ensures c.as_slice-entries.ensures.value c.deref.ensures.value (ap (λ n. 4 * n) (c.len.ensures ∙ code.linked.words.ok.0))
    c.requires.fit c.requires.apart
    (λ o e. c.in_ok-out.ensures e.entries.ascend ∙ (λ i. record (c.in_ok-bare.ensures o e i) { symbols = out_symbols rows (c.as_slice-symbols.ensures i) }))
    c.in_ok-plan.ensures

pub returns-in_err-check_bare-clause-refused : goal.returns-in_err-check_bare-clause-refused
returns-in_err-check_bare-clause-refused c =
    let code = c.args.code.now in
    let f = c.args.cut.now.file in
    let t = c.args.cut.now.test in
    let blocks = c.args.cut.now.blocks in
    let rows = c.as_slice-entries.result.now in
    let symbols = out_symbols rows f.symbols in
    let out : OutFile = record c.in_ok-bare.bare { symbols = symbols } in
    let e = c.in_err-check_bare.field-0.0 in
    let room : c.symbols_size.result ≡ symbols_room symbols = c.symbols_size.ensures rows ∙ ap (λ s. symbols_room (out_symbols rows s)) c.as_slice-symbols.ensures in
    let P : TransformError → Type 0 = λ e. (o : Options) (input : List ℕ) → IsReadAs input f → IsCut f o t blocks → IsCoded (code_for f o blocks) f o code → HasCause input o e in
    if_err c.from_residual-in_err-check_bare.result e P c.from_residual-in_err-check_bare.ensures.1
    (λ o input read cut is.
    let made = made_of f o t blocks cut code is
    c.as_slice-blocks.result.now rows c.deref.result.now (4 * c.len.result) out c.in_ok-plan.plan
    c.as_slice-blocks.ensures c.as_slice-entries.ensures.value c.deref.ensures.value (ap (λ n. 4 * n) (c.len.ensures ∙ code.linked.words.ok.0))
    c.requires.fit c.requires.apart (λ o e i. record (c.in_ok-bare.ensures o e i) { symbols = symbols }) c.in_ok-plan.ensures in
    let none = no_symbols f o t blocks cut code is rows c.deref.result.now c.in_ok-bare.bare c.as_slice-entries.ensures.value c.requires.fit c.requires.apart c.in_ok-bare.ensures in
    exceeded input f o blocks out c.in_ok-plan.plan read made e (c.in_err-check_bare.ensures symbols none room))
