use Rattle.tests.proofs.Lemmas.{read_as, file_apart, read_sound}
use Rattle.elf_read.proofs.read.read_shared.Goals as goal

pub returns-clause-read : goal.returns-clause-read
returns-clause-read c = rw c.as_slice.ensures at (read_as c.as_slice.result.now c.in_ok-elf_file.field-0 c.in_ok-sound.ensures.limits (rw c.in_ok-sound.ensures.same at c.in_ok-elf_file.ensures))

pub returns-clause-apart : goal.returns-clause-apart
returns-clause-apart c = file_apart _ c.in_ok-elf_file.field-0 c.in_ok-elf_file.ensures

pub returns-clause-sound : goal.returns-clause-sound
returns-clause-sound c = read_sound c.as_slice.result.now _ c.in_ok-sound.ensures.small (rw c.in_ok-sound.ensures.same at c.in_ok-elf_file.ensures)
