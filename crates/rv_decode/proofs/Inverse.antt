-- Decoding is the inverse of encoding.
use Rattle.std.proofs.Common.{◌≡◌, ℕ, ◌^◌, ◌<◌, sym, ◌∙◌}
use Rattle.std.specs.Prelude.{◌↔◌, Option, Some}
use Rattle.machine.specs.Table.{decode_of, encode_of, Ins}
use Rattle.machine.proofs.Lemmas.{encode_decode, decode_encode}

-- what decodes to an instruction is the word of that instruction, and no other
pub decoded_encoded : (w : ℕ) (r : Option Ins) → w < 2 ^ 32 → r ≡ decode_of w → (i : Ins) → (r ≡ Some i) ↔ (encode_of i ≡ Some w)
decoded_encoded w r h e i = (λ d. encode_decode w i h (sym e ∙ d), λ d. e ∙ (decode_encode w i d).1)
