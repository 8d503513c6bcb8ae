-- Encoding is the inverse of decoding.
use Rattle.std.proofs.Common.{◌≡◌, ℕ, ◌^◌, ◌<◌, sym, ◌∙◌}
use Rattle.std.specs.Prelude.{◌↔◌, Option, Some}
use Rattle.machine.specs.Table.{decode_of, encode_of, Ins}
use Rattle.machine.proofs.Lemmas.{encode_decode, decode_encode}

-- the word of an instruction is the word that decodes to it
pub encoded_decoded : (i : Ins) (r : Option ℕ) → r ≡ encode_of i → (w : ℕ) → (r ≡ Some w) ↔ ((w < 2 ^ 32) × (decode_of w ≡ Some i))
encoded_decoded i r e w = (λ h. decode_encode w i (sym e ∙ h), λ h. e ∙ encode_decode w i h.0 h.1)
