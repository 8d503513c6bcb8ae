use Rattle.std.proofs.Common.{length}
use Rattle.rv_asm.specs.Lines.{lines_of}
use Rattle.rv_asm.specs.Program.{IsSoFar}
use Rattle.rv_asm.proofs.Turns.{IsBefore}
use Rattle.rv_asm.proofs.program.program_of.Given as goal

abbrev pub invariant-loop-line : goal.invariant-loop-line
invariant-loop-line l = record { before : IsBefore l.text (length l.yielded) l.number l.place; so_far : IsSoFar (lines_of l.text) (length l.yielded) l.program }
