-- Many bytes of a quoted string are skipped at a time.
use Rattle.std.proofs.Common.{◌≡◌, ◌⊎◌, inl, inr, subst, ℕ, ◌+◌, ◌-◌, ◌<◌, ◌≤◌, Bool, true, false, zero, suc, List, [], ◌∷◌, length, take, drop, get_or, ◌||◌, refl, sym, ap, ◌∙◌, arith, take-add, cond}
use Rattle.std.specs.List.{list_any, slice_range}
use Rattle.std.proofs.lemmas.Bool.{cond-false, or_parts, or_from, ne_eqb, true≢false}
use Rattle.std.proofs.lemmas.List.Folds.{list_any-append}
use Rattle.std.specs.Bool.{◌==◌}
use Rattle.be_query.specs.declared.lexer.Span.{Span}
use Rattle.be_query.specs.declared.lexer.Span.TheVariants.{Ends, Breaks}
use Rattle.be_query.specs.Lexing.{IsBeyond, IsLone, further, is_mark, is_word, word_span, quoted_span}
use Rattle.be_query.proofs.Spans.{shifted, shifted_none, stops_at_end, stops, quoted_backslash, quoted_escaped, quoted_plain, word_backslash, word_escaped, word_plain}

further_shifted : (n : ℕ) (s : Span) → further (shifted n s) ≡ shifted (suc n) s
further_shifted n (Ends k) = ap Ends (omega arith)
further_shifted n (Breaks k) = ap Breaks (omega arith)

shuffled : (a b c x y z : Bool) → (((a || x) || (b || y)) || (c || z)) ≡ (((a || b) || c) || ((x || y) || z))
shuffled true b c x y z = refl
shuffled false true c true y z = refl
shuffled false true c false y z = refl
shuffled false false true true y z = refl
shuffled false false true false true z = refl
shuffled false false true false false z = refl
shuffled false false false x y z = refl

-- A block contains a mark if and only if it contains one of the three bytes that are marks.
pub any_mark : (q : ℕ) (bs : List ℕ) → ((list_any (λ b. b == q) bs || list_any (λ b. b == 0) bs) || list_any (λ b. b == 92) bs) ≡ list_any (is_mark q) bs
any_mark q [] = refl
any_mark q (b ∷ bs) =
    shuffled (b == q) (b == 0) (b == 92) (list_any (λ b. b == q) bs) (list_any (λ b. b == 0) bs) (list_any (λ b. b == 92) bs)
    ∙ ap (λ r. is_mark q b || r) (any_mark q bs)

-- The leading bytes don't affect where the quoted string ends.
pub skipped : (q n : ℕ) (bs : List ℕ) → n ≤ length bs → list_any (is_mark q) (take n bs) ≡ false → quoted_span q false bs ≡ shifted n (quoted_span q false (drop n bs))
skipped q zero bs h m = sym (shifted_none _)
skipped q (suc n) [] h m = absurd (omega arith)
skipped q (suc n) (b ∷ bs) h m =
    let p = or_parts (is_mark q b) (list_any (is_mark q) (take n bs)) m in
    let k = or_parts ((b == q) || (b == 0)) (b == 92) p.0 in
    let l = or_parts (b == q) (b == 0) k.0 in
    cond-false _ _ _ l.0 ∙ cond-false _ _ _ l.1 ∙ cond-false _ _ _ k.1 ∙ ap further (skipped q n bs (omega arith) p.1) ∙ further_shifted n (quoted_span q false (drop n bs))

-- One more block.
pub block_more : (q at : ℕ) (bs : List ℕ) → list_any (is_mark q) (take at bs) ≡ false → list_any (is_mark q) (slice_range bs at (at + 16)) ≡ false → list_any (is_mark q) (take (at + 16) bs) ≡ false
block_more q at bs h k =
    let same : 16 ≡ at + 16 - at = omega arith in
    ap (list_any (is_mark q)) (take-add at 16 bs) ∙ list_any-append (is_mark q) (take at bs) (take 16 (drop at bs))
    ∙ or_from _ _ h (ap (λ n. list_any (is_mark q) (take n (drop at bs))) same ∙ k)

ends_before : (b : ℕ) (bs : List ℕ) → is_word b ≡ false → word_span false (b ∷ bs) ≡ Ends 0
ends_before b bs w =
    let other : b ≡ 92 → ⊥ = λ e. true≢false (sym (ap is_word e) ∙ w) in
    cond-false (b == 92) (further (word_span true bs)) (cond (is_word b) (further (word_span false bs)) (Ends 0)) (ne_eqb b 92 other)
    ∙ cond-false (is_word b) (further (word_span false bs)) (Ends 0) w

module _ (bs : List ℕ) (i : ℕ) (h : i < length bs) (whole : Span) where
  -- A backslash at the end, before a NUL, and before a byte that it escapes.
  pub quoted_lone : (q : ℕ) → (get_or bs i 0 ≡ q → ⊥) → (get_or bs i 0 ≡ 0 → ⊥) → get_or bs i 0 ≡ 92 → length bs ≤ i + 1 → shifted i (quoted_span q false (drop i bs)) ≡ whole → Breaks (i + 1) ≡ whole
  quoted_lone q nq n0 n l k =
      let none : i + 1 ≡ i + 1 + 0 = omega arith in
      ap Breaks none ∙ stops_at_end (quoted_span q) true bs (i + 1) whole (Breaks 0) l refl (quoted_backslash bs i h false whole q refl nq n0 n k)

  pub quoted_nul : (q : ℕ) → (get_or bs i 0 ≡ q → ⊥) → (get_or bs i 0 ≡ 0 → ⊥) → get_or bs i 0 ≡ 92 → i + 1 < length bs → get_or bs (i + 1) 0 ≡ 0 → shifted i (quoted_span q false (drop i bs)) ≡ whole → Breaks (i + 1) ≡ whole
  quoted_nul q nq n0 n l z k =
      let none : i + 1 ≡ i + 1 + 0 = omega arith in
      ap Breaks none ∙ stops (quoted_span q) true bs (i + 1) whole (Breaks 0) l (ap (λ b. quoted_span q true (b ∷ drop (i + 1 + 1) bs)) z) (quoted_backslash bs i h false whole q refl nq n0 n k)

  pub quoted_taken : (q : ℕ) → (get_or bs i 0 ≡ q → ⊥) → (get_or bs i 0 ≡ 0 → ⊥) → get_or bs i 0 ≡ 92 → i + 1 < length bs → (get_or bs (i + 1) 0 ≡ 0 → ⊥) → shifted i (quoted_span q false (drop i bs)) ≡ whole
      → shifted (i + 1 + 1) (quoted_span q false (drop (i + 1 + 1) bs)) ≡ whole
  quoted_taken q nq n0 n l z k = quoted_escaped bs (i + 1) l true whole q refl z (quoted_backslash bs i h false whole q refl nq n0 n k)

  pub word_lone : get_or bs i 0 ≡ 92 → length bs ≤ i + 1 → shifted i (word_span false (drop i bs)) ≡ whole → Breaks (i + 1) ≡ whole
  word_lone n l k =
      let none : i + 1 ≡ i + 1 + 0 = omega arith in
      ap Breaks none ∙ stops_at_end word_span true bs (i + 1) whole (Breaks 0) l refl (word_backslash bs i h false whole refl n k)

  pub word_nul : get_or bs i 0 ≡ 92 → i + 1 < length bs → get_or bs (i + 1) 0 ≡ 0 → shifted i (word_span false (drop i bs)) ≡ whole → Breaks (i + 1) ≡ whole
  word_nul n l z k =
      let none : i + 1 ≡ i + 1 + 0 = omega arith in
      ap Breaks none ∙ stops word_span true bs (i + 1) whole (Breaks 0) l (ap (λ b. word_span true (b ∷ drop (i + 1 + 1) bs)) z) (word_backslash bs i h false whole refl n k)

  pub word_taken : get_or bs i 0 ≡ 92 → i + 1 < length bs → (get_or bs (i + 1) 0 ≡ 0 → ⊥) → shifted i (word_span false (drop i bs)) ≡ whole → shifted (i + 1 + 1) (word_span false (drop (i + 1 + 1) bs)) ≡ whole
  word_taken n l z k = word_escaped bs (i + 1) l true whole refl z (word_backslash bs i h false whole refl n k)

  -- The word continues after a byte, or after the byte that a backslash escapes.
  pub word_on : (next : ℕ) → IsBeyond bs i next → is_word (get_or bs i 0) ≡ true → shifted i (word_span false (drop i bs)) ≡ whole → shifted next (word_span false (drop next bs)) ≡ whole
  word_on next (inl p) w k = subst (λ m. shifted m (word_span false (drop m bs)) ≡ whole) (sym p.1) (word_plain bs i h false whole refl p.0 w k)
  word_on next (inr p) w k = subst (λ m. shifted m (word_span false (drop m bs)) ≡ whole) (sym p.3) (word_taken p.0 p.1 p.2 k)

  pub quoted_on : (q next : ℕ) → (get_or bs i 0 ≡ q → ⊥) → (get_or bs i 0 ≡ 0 → ⊥) → IsBeyond bs i next → shifted i (quoted_span q false (drop i bs)) ≡ whole
      → shifted next (quoted_span q false (drop next bs)) ≡ whole
  quoted_on q next nq n0 (inl p) k = subst (λ m. shifted m (quoted_span q false (drop m bs)) ≡ whole) (sym p.1) (quoted_plain bs i h false whole q refl nq n0 p.0 k)
  quoted_on q next nq n0 (inr p) k = subst (λ m. shifted m (quoted_span q false (drop m bs)) ≡ whole) (sym p.3) (quoted_taken q nq n0 p.0 p.1 p.2 k)

  -- The word is cut off at a lone backslash.
  pub word_broken : IsLone bs i → shifted i (word_span false (drop i bs)) ≡ whole → Breaks (i + 1) ≡ whole
  word_broken p k = elim p.1 [ inl l ↦ word_lone p.0 l k | inr q ↦ word_nul p.0 q.0 q.1 k ]

  pub quoted_broken : (q : ℕ) → (get_or bs i 0 ≡ q → ⊥) → (get_or bs i 0 ≡ 0 → ⊥) → IsLone bs i → shifted i (quoted_span q false (drop i bs)) ≡ whole → Breaks (i + 1) ≡ whole
  quoted_broken q nq n0 p k = elim p.1 [ inl l ↦ quoted_lone q nq n0 p.0 l k | inr r ↦ quoted_nul q nq n0 p.0 r.0 r.1 k ]

  -- A word ends before a byte that it can't contain.
  pub word_ended : is_word (get_or bs i 0) ≡ false → shifted i (word_span false (drop i bs)) ≡ whole → Ends i ≡ whole
  word_ended w k =
      let none : i ≡ i + 0 = omega arith in
      ap Ends none ∙ stops word_span false bs i whole (Ends 0) h (ends_before (get_or bs i 0) (drop (i + 1) bs) w) k
