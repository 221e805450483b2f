-- Strings whose length alone shows that they encode names.
use Rattle.std.proofs.Common.{◌≡◌, ℕ, ◌<◌, ◌≤◌, true, false, Ok, List, [], ◌∷◌, length, ap, ◌∙◌, arith}
use Rattle.std.specs.Prelude.{nat_lt}
use Rattle.std.specs.Bool.{◌==◌}
use Rattle.std.specs.Result.{is_ok}
use Rattle.std.proofs.lemmas.Bool.{cond-false, cond_both, le-ltb, or_from}
use Rattle.be_value.specs.Name.{name_from, has_nul}
use Rattle.be_query.specs.Tokens.{plain, is_name}
use Rattle.be_query.proofs.Held.{plain_clean}

plain_shorter : (bs : List ℕ) → length (plain bs) ≤ length bs
plain_shorter [] = omega arith
plain_shorter (b ∷ []) = omega arith
plain_shorter (b ∷ c ∷ bs) =
    cond_both (b == 92) (c ∷ plain bs) (b ∷ plain (c ∷ bs)) (λ t. length t ≤ length (b ∷ c ∷ bs))
    (λ w. let h = plain_shorter bs in omega arith)
    (λ w. let h = plain_shorter (c ∷ bs) in omega arith)

plain_some : (bs : List ℕ) → 0 < length bs → 0 < length (plain bs)
plain_some [] h = absurd (omega arith)
plain_some (b ∷ []) h = omega arith
plain_some (b ∷ c ∷ bs) h = cond_both (b == 92) (c ∷ plain bs) (b ∷ plain (c ∷ bs)) (λ t. 0 < length t) (λ w. omega arith) (λ w. omega arith)

clean_name : (t : List ℕ) → has_nul t ≡ false → 1 ≤ length t → length t ≤ 63 → is_ok (name_from t) ≡ true
clean_name t z l h =
    let long = or_from (nat_lt (length t) 1) (nat_lt 63 (length t)) (le-ltb (length t) 1 l) (le-ltb 63 (length t) h) in
    let made : name_from t ≡ Ok t = cond-false _ _ _ long ∙ cond-false _ _ _ z in
    ap is_ok made

-- Resolving backslashes makes no string longer, and no string empty.
pub short_name : (raw : List ℕ) → has_nul raw ≡ false → 0 < length raw → length raw ≤ 63 → is_name raw ≡ true
short_name raw z l h =
    let some = plain_some raw l in
    let less = plain_shorter raw in
    clean_name (plain raw) (plain_clean raw z) (omega arith) (omega arith)
