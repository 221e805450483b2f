-- One more line.
use Rattle.std.proofs.Common.{◌∙◌, ◌++◌, ◌∷◌, [], ℕ, List, ap, refl, sym, append_assoc}
use Rattle.std.proofs.lemmas.List.{append-nil}
use Rattle.be_ways.specs.Text.{line_with, AreLines}
use Rattle.be_ways.specs.declared.way.Way.{Way}

pub lines_push : (ways : List Way) (text : List ℕ) (way : Way) (range : List ℕ) → AreLines ways text → AreLines (ways ++ way ∷ []) (text ++ line_with range way)
lines_push [] text way range h = (range, [], ap (λ t. t ++ line_with range way) h ∙ sym (append-nil (line_with range way)), refl)
lines_push (first ∷ ways) text way range h = (
  h.0,
  h.1 ++ line_with range way,
  ap (λ t. t ++ line_with range way) h.2 ∙ append_assoc (line_with h.0 first) h.1 (line_with range way),
  lines_push ways h.1 way range h.3,
)
