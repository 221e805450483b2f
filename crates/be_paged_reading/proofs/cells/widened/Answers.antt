use Rattle.std.proofs.Common.{◌≡◌, ℤ, ap, ◌∙◌}
use Rattle.std.specs.Int.{cast_signed, cast_unsigned, w32, w64}
use Rattle.std.proofs.Math.Facts.{sfits_widen}
use Rattle.std.proofs.lemmas.Int.{to_z-of_z}
use Rattle.be_paged_reading.proofs.cells.widened.Goals as goal

pub returns : goal.returns
returns c = λ n fits is.
    let read : c.cast_signed.result ≡ n = c.cast_signed.ensures ∙ ap (cast_signed w32) is ∙ to_z-of_z w32 n fits in
    c.cast_unsigned.ensures
    ∙ ap (λ (z : ℤ). cast_unsigned w64 (cast_signed w64 (cast_unsigned w64 (cast_signed w32 (cast_unsigned w32 z))))) read
    ∙ ap (λ (z : ℤ). cast_unsigned w64 (cast_signed w64 (cast_unsigned w64 z))) (to_z-of_z w32 n fits)
    ∙ ap (cast_unsigned w64) (to_z-of_z w64 n (sfits_widen tt fits))
