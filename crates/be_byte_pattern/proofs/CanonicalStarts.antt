-- The beginning of a canonical text.
use Rattle.std.proofs.Common.{◌≡◌, ℕ, true, false, List, [], ◌∷◌, ◌++◌, map, ◌||◌, ◌==◌, refl, sym, ap, ◌∙◌, arith, append_assoc, append-nil}
use Rattle.std.specs.Prelude.{encode_utf8, encode_utf8_all}
use Rattle.std.proofs.Math.Logic.{⊎_elim}
use Rattle.std.proofs.lemmas.Bool.{both_ways, cases_Bool, cond-true, cond-false, eqb-false, or_parts}
use Rattle.std.proofs.lemmas.Str.{cons_from_encodes, encodes_same}
use Rattle.be_pattern.specs.Match.{Part, Run, One, Among, Only}
use Rattle.be_pattern.specs.Canonical.{canonical, is_special}
use Rattle.be_byte_pattern.specs.Runs.{BeginsWith, Leaves, byte_parts, has_runs_alone, after_stars, begins_wildcard}

same_first : (x y : ℕ) (xs ys : List ℕ) → x ∷ xs ≡ y ∷ ys → x ≡ y
same_first x y xs ys e = cc

same_rest : (x y : ℕ) (xs ys : List ℕ) → x ∷ xs ≡ y ∷ ys → xs ≡ ys
same_rest x y xs ys e = cc

nil_first : (y : ℕ) (ys : List ℕ) → [] ≡ y ∷ ys → ⊥
nil_first y ys e = cc

special_text : (d : ℕ) (ps : List Part) → is_special d ≡ true → canonical (Only d ∷ ps) ≡ 92 ∷ d ∷ canonical ps
special_text d ps h = ap (λ l. l ++ canonical ps) (cond-true (is_special d) (92 ∷ d ∷ []) (d ∷ []) h)

plain_text : (d : ℕ) (ps : List Part) → is_special d ≡ false → canonical (Only d ∷ ps) ≡ d ∷ canonical ps
plain_text d ps h = ap (λ l. l ++ canonical ps) (cond-false (is_special d) (92 ∷ d ∷ []) (d ∷ []) h)

not_special : (d e : ℕ) → d ≡ e → is_special e ≡ true → is_special d ≡ false → ⊥
not_special d e same h k = both_ways (is_special d) k (ap is_special same ∙ h)

-- a canonical text that doesn't begin with a character of the notation begins with a literal
-- character
plain_first : (ps : List Part) (c : ℕ) (es : List ℕ) → canonical ps ≡ c ∷ es → (c ≡ 42 → ⊥) → (c ≡ 63 → ⊥) → (c ≡ 91 → ⊥) → (c ≡ 92 → ⊥)
    → (qs : List Part) × ((ps ≡ Only c ∷ qs) × (es ≡ canonical qs))
plain_first [] c es e star one set mark = absurd (nil_first c es e)
plain_first (Run ∷ ps) c es e star one set mark = absurd (star (sym (same_first 42 c _ es e)))
plain_first (One ∷ ps) c es e star one set mark = absurd (one (sym (same_first 63 c _ es e)))
plain_first (Among true ms ∷ ps) c es e star one set mark = absurd (set (sym (same_first 91 c _ es e)))
plain_first (Among false ms ∷ ps) c es e star one set mark = absurd (set (sym (same_first 91 c _ es e)))
plain_first (Only d ∷ ps) c es e star one set mark = ⊎_elim
    (λ h. absurd (mark (sym (same_first 92 c _ es (sym (special_text d ps h) ∙ e)))))
    (λ h. let f = sym (plain_text d ps h) ∙ e in (ps, (ap (λ x. Only x ∷ ps) (same_first d c _ es f), sym (same_rest d c _ es f))))
    (cases_Bool (is_special d))

-- a canonical text that begins with a backslash begins with the literal character after it
marked_first : (ps : List Part) (c : ℕ) (es : List ℕ) → canonical ps ≡ 92 ∷ c ∷ es → (qs : List Part) × ((ps ≡ Only c ∷ qs) × (es ≡ canonical qs))
marked_first [] c es e = absurd (nil_first 92 (c ∷ es) e)
marked_first (Run ∷ ps) c es e = absurd (other 42 refl (same_first 42 92 _ _ e))
  where
    other : (x : ℕ) → x ≡ 42 → x ≡ 92 → ⊥
    other x a b = omega arith
marked_first (One ∷ ps) c es e = absurd (other 63 refl (same_first 63 92 _ _ e))
  where
    other : (x : ℕ) → x ≡ 63 → x ≡ 92 → ⊥
    other x a b = omega arith
marked_first (Among true ms ∷ ps) c es e = absurd (other 91 refl (same_first 91 92 _ _ e))
  where
    other : (x : ℕ) → x ≡ 91 → x ≡ 92 → ⊥
    other x a b = omega arith
marked_first (Among false ms ∷ ps) c es e = absurd (other 91 refl (same_first 91 92 _ _ e))
  where
    other : (x : ℕ) → x ≡ 91 → x ≡ 92 → ⊥
    other x a b = omega arith
marked_first (Only d ∷ ps) c es e = ⊎_elim
    (λ h. let f = same_rest 92 92 _ _ (sym (special_text d ps h) ∙ e) in (ps, (ap (λ x. Only x ∷ ps) (same_first d c _ es f), sym (same_rest d c _ es f))))
    (λ h. absurd (not_special d 92 (same_first d 92 _ _ (sym (plain_text d ps h) ∙ e)) refl h))
    (cases_Bool (is_special d))

-- a canonical text that begins with `*` begins with the token `*`
star_first : (ps : List Part) (es : List ℕ) → canonical ps ≡ 42 ∷ es → (qs : List Part) × ((ps ≡ Run ∷ qs) × (es ≡ canonical qs))
star_first [] es e = absurd (nil_first 42 es e)
star_first (Run ∷ ps) es e = (ps, (refl, sym (same_rest 42 42 _ es e)))
star_first (One ∷ ps) es e = absurd (other 63 refl (same_first 63 42 _ _ e))
  where
    other : (x : ℕ) → x ≡ 63 → x ≡ 42 → ⊥
    other x a b = omega arith
star_first (Among true ms ∷ ps) es e = absurd (other 91 refl (same_first 91 42 _ _ e))
  where
    other : (x : ℕ) → x ≡ 91 → x ≡ 42 → ⊥
    other x a b = omega arith
star_first (Among false ms ∷ ps) es e = absurd (other 91 refl (same_first 91 42 _ _ e))
  where
    other : (x : ℕ) → x ≡ 91 → x ≡ 42 → ⊥
    other x a b = omega arith
star_first (Only d ∷ ps) es e = ⊎_elim
    (λ h. absurd (other 92 refl (same_first 92 42 _ _ (sym (special_text d ps h) ∙ e))))
    (λ h. absurd (not_special d 42 (same_first d 42 _ _ (sym (plain_text d ps h) ∙ e)) refl h))
    (cases_Bool (is_special d))
  where
    other : (x : ℕ) → x ≡ 92 → x ≡ 42 → ⊥
    other x a b = omega arith

-- only an empty list of parts has an empty canonical text
no_text : (ps : List Part) → canonical ps ≡ [] → ps ≡ []
no_text [] e = refl
no_text (Run ∷ ps) e = absurd (nil_first _ _ (sym e))
no_text (One ∷ ps) e = absurd (nil_first _ _ (sym e))
no_text (Among true ms ∷ ps) e = absurd (nil_first _ _ (sym e))
no_text (Among false ms ∷ ps) e = absurd (nil_first _ _ (sym e))
no_text (Only d ∷ ps) e = ⊎_elim
    (λ h. absurd (nil_first _ _ (sym e ∙ special_text d ps h)))
    (λ h. absurd (nil_first _ _ (sym e ∙ plain_text d ps h)))
    (cases_Bool (is_special d))

-- The same statements for the text's bytes.

pub plain_begins : (text rest : List ℕ) (c : ℕ) → text ≡ encode_utf8 c ++ rest → begins_wildcard c ≡ false → (c ≡ 92 → ⊥)
    → (ps : List Part) → text ≡ encode_utf8_all (canonical ps) → BeginsWith ps c rest
plain_begins text rest c split plain mark ps e =
    let w = cons_from_encodes (canonical ps) rest c (sym e ∙ split) in
    let set = or_parts (c == 42 || c == 63) (c == 91) plain in
    let others = or_parts (c == 42) (c == 63) set.0 in
    let q = plain_first ps c w.0 w.1 (eqb-false c 42 others.0) (eqb-false c 63 others.1) (eqb-false c 91 set.1) mark in
    record { after = q.0; first = q.1.0; text = sym w.2 ∙ ap encode_utf8_all q.1.1 }

pub marked_begins : (text middle rest : List ℕ) (mark c : ℕ) → mark ≡ 92 → text ≡ encode_utf8 mark ++ middle → middle ≡ encode_utf8 c ++ rest
    → (ps : List Part) → text ≡ encode_utf8_all (canonical ps) → BeginsWith ps c rest
marked_begins text middle rest mark c is split next ps e =
    let w = cons_from_encodes (canonical ps) middle mark (sym e ∙ split) in
    let v = cons_from_encodes w.0 rest c (w.2 ∙ next) in
    let q = marked_first ps c v.0 (w.1 ∙ (λ i. is i ∷ v.1 i)) in
    record { after = q.0; first = q.1.0; text = sym v.2 ∙ ap encode_utf8_all q.1.1 }

pub star_leaves : (text rest : List ℕ) (c : ℕ) → c ≡ 42 → text ≡ encode_utf8 c ++ rest
    → (ps : List Part) → text ≡ encode_utf8_all (canonical ps) → Leaves ps (Run ∷ []) rest
star_leaves text rest c is split ps e =
    let w = cons_from_encodes (canonical ps) rest c (sym e ∙ split) in
    let q = star_first ps w.0 (w.1 ∙ ap (λ x. x ∷ w.0) is) in
    record { after = q.0; bytes = ap byte_parts q.1.0; alone = ap has_runs_alone q.1.0; text = sym w.2 ∙ ap encode_utf8_all q.1.1 }

-- Reading on.

pub leaves_all : (text : List ℕ) (ps : List Part) → text ≡ encode_utf8_all (canonical ps) → Leaves ps [] text
leaves_all text ps e = record { after = ps; bytes = refl; alone = refl; text = e }

map_append : (xs ys : List ℕ) → map Only (xs ++ ys) ≡ map Only xs ++ map Only ys
map_append [] ys = refl
map_append (x ∷ xs) ys = ap (λ l. Only x ∷ l) (map_append xs ys)

-- one more character has been read
pub leaves_further : (ps : List Part) (old new rest shorter : List ℕ) (c : ℕ) → new ≡ old ++ encode_utf8 c
    → ((qs : List Part) → rest ≡ encode_utf8_all (canonical qs) → BeginsWith qs c shorter)
    → Leaves ps (map Only old) rest → Leaves ps (map Only new) shorter
leaves_further ps old new rest shorter c grown begins leaves =
    let b = begins leaves.after leaves.text in
    record {
      after = b.after;
      bytes = leaves.bytes ∙ ap (λ qs. map Only old ++ byte_parts qs) b.first ∙ sym (append_assoc (map Only old) (map Only (encode_utf8 c)) (byte_parts b.after))
          ∙ ap (λ l. l ++ byte_parts b.after) (sym (map_append old (encode_utf8 c)) ∙ ap (map Only) (sym grown));
      alone = leaves.alone ∙ ap has_runs_alone b.first;
      text = b.text;
    }

stars_append : (rs : List (List ℕ)) (r : List ℕ) → after_stars (rs ++ r ∷ []) ≡ after_stars rs ++ (Run ∷ map Only r)
stars_append [] r = ap (λ l. Run ∷ l) (append-nil (map Only r))
stars_append (s ∷ rs) r = ap (λ l. Run ∷ (map Only s ++ l)) (stars_append rs r) ∙ ap (λ l. Run ∷ l) (sym (append_assoc (map Only s) (after_stars rs) (Run ∷ map Only r)))

-- one more run has been read
pub leaves_run : (ps front : List Part) (rs new : List (List ℕ)) (rest middle shorter r : List ℕ) → new ≡ rs ++ r ∷ []
    → ((qs : List Part) → rest ≡ encode_utf8_all (canonical qs) → Leaves qs (Run ∷ []) middle)
    → ((qs : List Part) → middle ≡ encode_utf8_all (canonical qs) → Leaves qs (map Only r) shorter)
    → Leaves ps (front ++ after_stars rs) rest → Leaves ps (front ++ after_stars new) shorter
leaves_run ps front rs new rest middle shorter r grown star run leaves =
    let s = star leaves.after leaves.text in
    let t = run s.after s.text in
    let both : byte_parts leaves.after ≡ (Run ∷ map Only r) ++ byte_parts t.after = s.bytes ∙ ap (λ l. Run ∷ l) t.bytes in
    record {
      after = t.after;
      bytes = leaves.bytes ∙ ap (λ l. (front ++ after_stars rs) ++ l) both
          ∙ sym (append_assoc (front ++ after_stars rs) (Run ∷ map Only r) (byte_parts t.after))
          ∙ ap (λ l. l ++ byte_parts t.after) (append_assoc front (after_stars rs) (Run ∷ map Only r)
          ∙ ap (λ l. front ++ l) (sym (stars_append rs r)) ∙ ap (λ l. front ++ after_stars l) (sym grown));
      alone = leaves.alone ∙ s.alone ∙ t.alone;
      text = t.text;
    }

-- the whole text has been read
pub leaves_none : (ps read : List Part) (rest : List ℕ) → rest ≡ [] → Leaves ps read rest → (byte_parts ps ≡ read) × (has_runs_alone ps ≡ true)
leaves_none ps read rest none leaves =
    let e : leaves.after ≡ [] = no_text leaves.after (encodes_same (canonical leaves.after) [] (sym leaves.text ∙ none)) in
    (leaves.bytes ∙ ap (λ qs. read ++ byte_parts qs) e ∙ append-nil read, leaves.alone ∙ ap has_runs_alone e)
