-- A text that assembles has no fault.
use Rattle.std.proofs.Common.{◌≢◌, ℕ, List, refl}
use Rattle.rv_asm.specs.declared.error.AsmError.{AsmError}
use Rattle.rv_asm.specs.declared.error.AsmError.TheVariants as error
use Rattle.rv_asm.specs.Assembled.{Assembled, IsTextRefused}
use Rattle.rv_asm.proofs.OneAnswer.{faultless, some_code}

pub never_both : (text file : List ℕ) (e : AsmError) → Assembled text file → IsTextRefused text e → e ≢ error.Memory → ⊥
never_both text file (error.Line fault n) a r known = faultless text fault n a.faultless r
never_both text file error.NoCode a r known = some_code text file a r
never_both text file error.Memory a r known = known refl
