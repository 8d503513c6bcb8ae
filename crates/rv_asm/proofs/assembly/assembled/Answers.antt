use Rattle.std.proofs.Common.{◌∙◌, sym, ap, subst, arith, length}
use Rattle.tests.specs.Elf.Layout.{written, IsWritable}
use Rattle.rv_asm.proofs.Done.{assembled_writable, file_same, none_left, some_left}
use Rattle.rv_asm.proofs.assembly.assembled.Goals as goal

pub write_elf-requires : goal.write_elf-requires
write_elf-requires c = subst IsWritable (sym c.in_ok-file.ensures) (assembled_writable c.args.text.now c.in_ok-program.program c.requires c.in_ok-program.ensures)

pub returns-then-is_empty : goal.returns-then-is_empty
returns-then-is_empty c =
    let p = c.in_ok-program.ensures in
    let v = c.in_ok-program.program.code in
    record { faultless = p.faultless; none = none_left v.items _ v.len c.is_empty.result p.code (omega (arith, v.ok.0)) c.is_empty.ensures c.if-is_empty.true }

pub returns : goal.returns
returns c =
    let p = c.in_ok-program.ensures in
    let q = c.in_ok-program.program in
    record {
      file = record {
        faultless = p.faultless;
        code = some_left q.code.items _ q.code.len c.is_empty.result p.code (omega (arith, q.code.ok.0)) c.is_empty.ensures c.if-is_empty.false;
        file = c.in_ok-bytes.ensures.written ∙ ap written (c.in_ok-file.ensures ∙ file_same c.args.text.now q p);
      };
      code_count = omega (arith, c.len-code_words.ensures, q.code.ok.0, ap length p.code);
      data_count = omega (arith, c.len-data_words.ensures, q.values.ok.0, ap length p.words);
    }
