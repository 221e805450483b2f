-- Backslashes are inserted before characters.
use Rattle.std.proofs.Common.{◌≡◌, ℕ, ◌<◌, true, false, suc, List, [], ◌∷◌, ◌++◌, length, get_or, refl, sym, ap, ◌∙◌, arith, append_assoc}
use Rattle.std.specs.Prelude.{encode_utf8, codes}
use Rattle.std.proofs.Math.Logic.{⊎_elim}
use Rattle.std.proofs.lemmas.Bool.{true≢false, cond-true, cond-false, cases_Bool, or_cases, eqb-true}
use Rattle.std.proofs.lemmas.Str.{inside_one, encode_ascii}
use Rattle.std.proofs.lemmas.List.{append-nil}
use Rattle.be_query.specs.Printing.{with_backslashes, wants_backslash}
use Rattle.be_query.specs.View.{only_if}

escaped_none : (xs bs : List ℕ) → ((k : ℕ) → k < length xs → wants_backslash (get_or xs k 0) ≡ false) → with_backslashes (xs ++ bs) ≡ xs ++ with_backslashes bs
escaped_none [] bs h = refl
escaped_none (x ∷ xs) bs h = cond-false _ _ _ (h 0 (omega arith)) ∙ ap (λ l. x ∷ l) (escaped_none xs bs (λ k l. h (suc k) (omega arith)))

wants_ascii : (b : ℕ) → wants_backslash b ≡ true → b < 128
wants_ascii b h = ⊎_elim (λ k. let e = eqb-true b 34 k in omega arith) (λ k. let e = eqb-true b 92 k in omega arith) (or_cases _ _ h)

byte_wants : (c k : ℕ) → k < length (encode_utf8 c) → wants_backslash c ≡ false → wants_backslash (get_or (encode_utf8 c) k 0) ≡ false
byte_wants c k l h = ⊎_elim
    (λ w. let same = inside_one c [] (encode_utf8 c) k (sym (append-nil (encode_utf8 c))) l (wants_ascii _ w) in absurd (true≢false (sym (ap wants_backslash same ∙ w) ∙ h)))
    (λ w. w)
    (cases_Bool (wants_backslash (get_or (encode_utf8 c) k 0)))

pub escaped_char : (c : ℕ) (after : List ℕ) → with_backslashes (encode_utf8 c ++ after) ≡ only_if (wants_backslash c) (codes "\\") ++ (encode_utf8 c ++ with_backslashes after)
escaped_char c after = ⊎_elim
    (λ w.
    let one = encode_ascii c (wants_ascii c w) in
    ap (λ l. with_backslashes (l ++ after)) one ∙ cond-true _ _ _ w ∙ ap (λ l. 92 ∷ (l ++ with_backslashes after)) (sym one)
    ∙ ap (λ l. l ++ (encode_utf8 c ++ with_backslashes after)) (sym (cond-true (wants_backslash c) (codes "\\") [] w)))
    (λ w.
    escaped_none (encode_utf8 c) after (λ k l. byte_wants c k l w)
    ∙ ap (λ l. l ++ (encode_utf8 c ++ with_backslashes after)) (sym (cond-false (wants_backslash c) (codes "\\") [] w)))
    (cases_Bool (wants_backslash c))

pub written : (old one two text after : List ℕ) (c : ℕ) (whole : List ℕ) → text ≡ encode_utf8 c ++ after → one ≡ old ++ only_if (wants_backslash c) (codes "\\") → two ≡ one ++ encode_utf8 c → old ++ with_backslashes text ≡ whole → two ++ with_backslashes after ≡ whole
written old one two text after c whole e k h w =
    ap (λ l. l ++ with_backslashes after) (h ∙ ap (λ l. l ++ encode_utf8 c) k)
    ∙ append_assoc (old ++ only_if (wants_backslash c) (codes "\\")) (encode_utf8 c) (with_backslashes after)
    ∙ append_assoc old (only_if (wants_backslash c) (codes "\\")) (encode_utf8 c ++ with_backslashes after)
    ∙ ap (λ l. old ++ l) (sym (ap with_backslashes e ∙ escaped_char c after)) ∙ w
