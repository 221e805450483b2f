-- No name or value in a text contains a NUL.
use Rattle.std.proofs.Common.{◌≡◌, ℕ, ◌+◌, Bool, true, false, suc, List, [], ◌∷◌, take, ◌||◌, refl, sym, ap, ◌∙◌, subst, arith}
use Rattle.std.specs.Prelude.{not}
use Rattle.std.specs.Bool.{◌==◌}
use Rattle.std.proofs.lemmas.Bool.{cond_both, or_parts, or_from, eqb-true, ne_eqb, false≢true}
use Rattle.be_value.specs.Name.{has_nul}
use Rattle.be_query.specs.declared.lexer.Span.{Span}
use Rattle.be_query.specs.declared.lexer.Span.TheVariants.{Ends, Breaks}
use Rattle.be_query.specs.Lexing.{further, is_separator, is_quote, is_sign, is_word, word_span, quoted_span}

Clean : List ℕ → Span → Type 0
Clean bs (Ends n) = has_nul (take n bs) ≡ false
Clean bs (Breaks n) = Unit {0}

further_clean : (b : ℕ) (bs : List ℕ) (s : Span) → (b == 0) ≡ false → Clean bs s → Clean (b ∷ bs) (further s)
unfolding Clean
further_clean b bs (Breaks n) z h = tt
further_clean b bs (Ends n) z h = let one : n + 1 ≡ suc n = omega arith in subst (λ k. has_nul (take k (b ∷ bs)) ≡ false) (sym one) (or_from (b == 0) (has_nul (take n bs)) z h)

quoted_clean : (q : ℕ) (escaped : Bool) (bs : List ℕ) → Clean bs (quoted_span q escaped bs)
unfolding Clean
quoted_clean q true [] = tt
quoted_clean q false [] = tt
quoted_clean q true (b ∷ bs) = cond_both (b == 0) _ _ (Clean (b ∷ bs)) (λ e. tt) (λ e. further_clean b bs _ e (quoted_clean q false bs))
quoted_clean q false (b ∷ bs) =
    cond_both (b == q) _ _ (Clean (b ∷ bs)) (λ e. refl)
    (λ e. cond_both (b == 0) _ _ (Clean (b ∷ bs)) (λ z. tt)
    (λ z. cond_both (b == 92) _ _ (Clean (b ∷ bs)) (λ k. further_clean b bs _ z (quoted_clean q true bs)) (λ k. further_clean b bs _ z (quoted_clean q false bs))))

not_true : (b : Bool) → not b ≡ true → b ≡ false
not_true true h = absurd (false≢true h)
not_true false h = refl

word_byte : (b : ℕ) → is_word b ≡ true → (b == 0) ≡ false
word_byte b h = (or_parts (is_separator b || is_quote b || is_sign b) (b == 0) (not_true (is_separator b || is_quote b || is_sign b || (b == 0)) h)).1

word_clean : (escaped : Bool) (bs : List ℕ) → Clean bs (word_span escaped bs)
unfolding Clean
word_clean true [] = tt
word_clean false [] = refl
word_clean true (b ∷ bs) = cond_both (b == 0) _ _ (Clean (b ∷ bs)) (λ e. tt) (λ e. further_clean b bs _ e (word_clean false bs))
word_clean false (b ∷ bs) =
    cond_both (b == 92) _ _ (Clean (b ∷ bs)) (λ e. further_clean b bs _ (let same = eqb-true b 92 e in ne_eqb b 0 (λ z. omega arith)) (word_clean true bs))
    (λ e. cond_both (is_word b) _ _ (Clean (b ∷ bs)) (λ w. further_clean b bs _ (word_byte b w) (word_clean false bs)) (λ w. refl))

pub quoted_free : (q n : ℕ) (bs raw : List ℕ) → Ends n ≡ quoted_span q false bs → raw ≡ take n bs → has_nul raw ≡ false
unfolding Clean
quoted_free q n bs raw e r = ap has_nul r ∙ subst (Clean bs) (sym e) (quoted_clean q false bs)

pub word_free : (n : ℕ) (bs raw : List ℕ) → Ends n ≡ word_span false bs → raw ≡ take n bs → has_nul raw ≡ false
unfolding Clean
word_free n bs raw e r = ap has_nul r ∙ subst (Clean bs) (sym e) (word_clean false bs)
