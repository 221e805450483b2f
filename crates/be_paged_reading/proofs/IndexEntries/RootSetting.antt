-- An entry whose root was changed.
use Rattle.std.proofs.Common.{◌≡◌, ℕ, zero, suc, ◌<◌, List, [], ◌∷◌, ◌++◌, length, take, drop, get_or, set, ap, ◌∙◌, refl, arith}
use Rattle.std.proofs.lemmas.List.{get_or_default}
use Rattle.be_paged_reading.specs.Entry.{Entry}
use Rattle.be_paged_reading.specs.Entries.{with_root}

set_between : (es : List Entry) (i : ℕ) (e : Entry) → i < length es → set es i e ≡ take i es ++ e ∷ drop (suc i) es
set_between [] i e lt = absurd (omega (arith, lt))
set_between (x ∷ es) zero e lt = refl
set_between (x ∷ es) (suc i) e lt = ap (λ ys. x ∷ ys) (set_between es i e (omega (arith, lt)))

pub root_set : (es new : List Entry) (i root : ℕ) (e d : Entry) → i < length es → e ≡ get_or es i e → new ≡ set es i (record { name = e.name; kind = e.kind; root = root }) → new ≡ with_root es i (get_or es i d) root
root_set es new i root e d lt is in_place =
    in_place ∙ set_between es i (record { name = e.name; kind = e.kind; root = root }) lt ∙ ap (λ (x : Entry). with_root es i x root) (is ∙ get_or_default es i e d lt)
