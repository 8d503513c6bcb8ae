use Rattle.std.proofs.Common.{ap, length, arith}
use Rattle.elf_write.proofs.Sizes.{length-written}
use Rattle.elf_write.proofs.write.file_size.Goals as goal

pub returns : goal.returns
returns c = omega (arith, length-written c.args.file.now, ap length c.as_slice.ensures, c.places_of.ensures.places.headers)
