use Rattle.std.proofs.Common.{List, ℕ}
use Rattle.elf_types.specs.declared.error.ElfError.TheVariants.{Memory}
use Rattle.qed_top.specs.Answer.{CallsFor, within, RoseAt}
use Rattle.qed_top.specs.Refused.{IsUnread}
use Rattle.qed_top.specs.Turns.{IsTaken, RunFileBytes}
use Rattle.qed_top.proofs.Meanings.{over_have, over_other}
use Rattle.qed_top.proofs.Turning.{known_cause}
use Rattle.qed_top.proofs.world.read_one.Goals as goal

pub returns-in-Ok-read_elf-clause-read : goal.returns-in-Ok-read_elf-clause-read
returns-in-Ok-read_elf-clause-read g c =
    let told = g.S.Shelf.files c.args.shelf.now in
    over_have told c.args.name.now c.in-Ok.bytes (λ (bytes : List ℕ). IsTaken bytes c.in-Ok-read_elf.file) (rw c.in-Ok.is at c.in_ok-loaded.ensures.bytes)
    (record { small = rw c.in-Ok.is at c.in_ok-loaded.ensures.within; read = rw c.as_slice.ensures at c.in-Ok-read_elf.ensures.read })

pub returns-in-Ok-clause-other : goal.returns-in-Ok-clause-other
returns-in-Ok-clause-other g c =
    let shelf = g.S.Shelf in
    let name = c.args.name.now in
    let answer = c.in_ok-unread-in-Err-read_elf.field-0 in
    let rose = RoseAt (shelf.load_faults c.args.shelf.now) (shelf.load_faults c.read_file.new.shelf) name in
    over_have (shelf.files c.args.shelf.now) name c.in-Ok.bytes (λ (bytes : List ℕ). CallsFor RunFileBytes bytes rose (IsUnread bytes answer) answer) (rw c.in-Ok.is at c.in_ok-loaded.ensures.bytes)
    (within (rw c.in-Ok.is at c.in_ok-loaded.ensures.within) (record {
      error = c.in-Err-read_elf.error;
      cause = known_cause c.in-Err-read_elf.error Memory (rw c.as_slice.ensures at c.in-Err-read_elf.ensures.refused) c.in_ok-unread-in-Err-read_elf.ensures.memory;
      plain = c.in_ok-unread-in-Err-read_elf.ensures.answer;
    }))

pub returns-clause-other : goal.returns-clause-other
returns-clause-other g c =
    let shelf = g.S.Shelf in
    let name = c.args.name.now in
    let answer = c.in-Err.answer in
    let rose = RoseAt (shelf.load_faults c.args.shelf.now) (shelf.load_faults c.read_file.new.shelf) name in
    over_other (shelf.files c.args.shelf.now) name RunFileBytes rose (λ (bytes : List ℕ). IsUnread bytes answer) answer (rw c.in-Err.is at c.in_ok-loaded.ensures.other)
