-- What is left after a list was read.
use Rattle.std.proofs.Common.{◌≡◌, List, [], ◌++◌, ap, sym, ◌∙◌}
use Rattle.be_volume.specs.declared.ops.Op.{Op}

-- Nothing was ready before. Now the list that was read is ready, and the rest is unread.
pub left_after : (ready list before after : List Op) → ready ≡ [] → before ≡ list ++ after → list ++ after ≡ ready ++ before
left_after ready list before after none is = sym is ∙ ap (λ (xs : List Op). xs ++ before) (sym none)

-- Nothing was read.
pub left_as_it_was : (ready before after : List Op) → before ≡ after → ready ++ after ≡ ready ++ before
left_as_it_was ready before after is = ap (λ (xs : List Op). ready ++ xs) (sym is)

-- Nothing is ready, and nothing is unread.
pub none_left : (ready before : List Op) → ready ≡ [] → before ≡ [] → ready ++ before ≡ []
none_left ready before none is = ap (λ (xs : List Op). xs ++ before) none ∙ is
