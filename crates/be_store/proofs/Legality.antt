-- The journal is legal because each pass got the answers of the object and has all its own entries.
use Rattle.std.proofs.Common.{◌≡◌, ◌≤◌, ◌<◌, ◌-◌, ◌+◌, ℕ, zero, suc, inl, inr, Bool, cond, eq-eqb, List, [], ◌∷◌, ◌++◌, length, take, get_or, refl, sym, ap, ◌∙◌, subst, arith, length-append}
use Rattle.std.specs.Prelude.{All, map, nat_eq}
use Rattle.std.proofs.Math.Seq.{get_or-append_right, get_or-append_seam}
use Rattle.std.proofs.lemmas.List.{take-append-le, take_all, get_or_append_left}
use Rattle.std.proofs.lemmas.List.Elements.{All-head, All-tail, All-get_or, filter-append}
use mathlib.Core.Logic.{dite}
use native.Mathlib.Decide.{dec_lt}
use Rattle.be_table.specs.History.{StartsWith}
use Rattle.be_store.specs.SmallMachine.{Object, PassView, Step, Apply, Learn, Pin, Unpin, Read, Leads, AreSteps, first_view, state_of, entries_by, IsLegalFor}
use Rattle.be_store.specs.OneHistory.{PassRun, HasRun}

-- ## Sums: how many of its own entries a pass has seen, and how many it has written

one_of_first : (a b c : ℕ) → a ≡ b + c → b ≡ 1 → 1 ≤ a
one_of_first a b c e one = omega (arith, e, one)

one_of_second : (a b c : ℕ) → a ≡ b + c → 1 ≤ c → 1 ≤ a
one_of_second a b c e one = omega (arith, e, one)

none_is_one : (n : ℕ) → 1 ≤ n → n ≡ 0 → ⊥
none_is_one n one none = omega (arith, one, none)

same_sum : (mine seen : ℕ) → mine + seen ≤ seen + mine
same_sum mine seen = omega arith

longer_sum : (z_mine z c_mine c a_mine a : ℕ) → z_mine + c ≤ z + c_mine → c_mine + a ≤ c + a_mine → z_mine + a ≤ z + a_mine
longer_sum z_mine z c_mine c a_mine a first second = omega (arith, first, second)

write_sum : (c_mine c a_mine a others both one : ℕ) → c ≡ both + one → both ≡ a + others → one ≡ 1 → c_mine ≡ a_mine + 1 → c_mine + a ≤ c + a_mine
write_sum c_mine c a_mine a others both one e f g h = omega (arith, e, f, g, h)

learn_sum : (c_mine c a_mine a others : ℕ) → c ≡ a + others → c_mine ≡ a_mine → c_mine + a ≤ c + a_mine
learn_sum c_mine c a_mine a others e h = omega (arith, e, h)

still_sum : (c_mine c a_mine a : ℕ) → c ≡ a → c_mine ≡ a_mine → c_mine + a ≤ c + a_mine
still_sum c_mine c a_mine a e h = omega (arith, e, h)

none_at_write : (c_mine c a_mine a others both one : ℕ) → c ≡ both + one → both ≡ a + others → one ≡ 1 → c_mine ≡ a_mine + 1 → c ≤ c_mine → a_mine ≤ a → others ≡ 0
none_at_write c_mine c a_mine a others both one e f g h full enough = omega (arith, e, f, g, h, full, enough)

none_learned : (c_mine c a_mine a others : ℕ) → c ≡ a + others → c_mine ≡ a_mine → c ≤ c_mine → a_mine ≤ a → others ≡ 0
none_learned c_mine c a_mine a others e h full enough = omega (arith, e, h, full, enough)

full_before : (z_mine z c_mine c : ℕ) → z_mine + c ≤ z + c_mine → z ≤ z_mine → c ≤ c_mine
full_before z_mine z c_mine c grows full = omega (arith, grows, full)

enough_after : (c_mine c a_mine a : ℕ) → c_mine + a ≤ c + a_mine → a_mine ≤ a → c_mine ≤ c
enough_after c_mine c a_mine a grows enough = omega (arith, grows, enough)

full_at_end : (all z rest z_mine : ℕ) → all ≡ z_mine → all ≡ z + rest → z ≤ z_mine
full_at_end all z rest z_mine e f = omega (arith, e, f)

none_at_end : (all z rest z_mine : ℕ) → all ≡ z_mine → all ≡ z + rest → z_mine + 0 ≤ z + 0 → rest ≡ 0
none_at_end all z rest z_mine e f grows = omega (arith, e, f, grows)

none_yet : 0 ≤ 0
none_yet = omega arith

module _ (o : Object) where
  pub step_number : (a : PassView o) (s : Step o) (c : PassView o) → Leads o a s c → c.number ≡ a.number
  step_number a (Apply e n) c l = ap (λ (v : PassView o). v.number) l.3
  step_number a (Learn log) c l = ap (λ (v : PassView o). v.number) l.1
  step_number a (Pin n) c l = ap (λ (v : PassView o). v.number) l.1
  step_number a Unpin c l = ap (λ (v : PassView o). v.number) l
  step_number a (Read q r) c l = ap (λ (v : PassView o). v.number) l.3

  pub run_number : (a : PassView o) (steps : List (Step o × PassView o)) (z : PassView o) → AreSteps o a steps z → z.number ≡ a.number
  run_number a [] z h = ap (λ (v : PassView o). v.number) (sym h)
  run_number a (x ∷ rest) z h = run_number x.1 rest z h.1 ∙ step_number a x.0 x.1 h.0

  step_first : (a : PassView o) (s : Step o) (c : PassView o) → Leads o a s c → c.first ≡ a.first
  step_first a (Apply e n) c l = ap (λ (v : PassView o). v.first) l.3
  step_first a (Learn log) c l = ap (λ (v : PassView o). v.first) l.1
  step_first a (Pin n) c l = ap (λ (v : PassView o). v.first) l.1
  step_first a Unpin c l = ap (λ (v : PassView o). v.first) l
  step_first a (Read q r) c l = ap (λ (v : PassView o). v.first) l.3

  pub run_first : (a : PassView o) (steps : List (Step o × PassView o)) (z : PassView o) → AreSteps o a steps z → z.first ≡ a.first
  run_first a [] z h = ap (λ (v : PassView o). v.first) (sym h)
  run_first a (x ∷ rest) z h = run_first x.1 rest z h.1 ∙ step_first a x.0 x.1 h.0

  -- How many entries are by the pass k.
  abbrev own : ℕ → List o.Entry → ℕ
  own k log = length (entries_by o k log)

  -- The object accepts each entry by the pass k in the state after the entries before it.
  abbrev IsOwnLegal : o.State → ℕ → List o.Entry → Type 0
  IsOwnLegal first k log = (i : ℕ) (e : o.Entry) → i < length log → e ≡ get_or log i e → o.by e ≡ k → o.Accepts (state_of o first (take i log)) e

  own_append : (k : ℕ) (xs ys : List o.Entry) → own k (xs ++ ys) ≡ own k xs + own k ys
  own_append k xs ys = ap length (filter-append (λ (e : o.Entry). nat_eq (o.by e) k) xs ys) ∙ length-append (entries_by o k xs) (entries_by o k ys)

  own_one : (k : ℕ) (e : o.Entry) → o.by e ≡ k → own k (e ∷ []) ≡ 1
  own_one k e is = ap (λ (b : Bool). length (cond b (e ∷ []) [])) (eq-eqb (o.by e) k is)

  own_at : (k : ℕ) (ys : List o.Entry) (j : ℕ) (d : o.Entry) → j < length ys → o.by (get_or ys j d) ≡ k → 1 ≤ own k ys
  own_at k [] j d lt is = absurd (omega arith)
  own_at k (y ∷ ys) zero d lt is = one_of_first (own k (y ∷ ys)) (own k (y ∷ [])) (own k ys) (own_append k (y ∷ []) ys) (own_one k y is)
  own_at k (y ∷ ys) (suc j) d lt is = one_of_second (own k (y ∷ ys)) (own k (y ∷ [])) (own k ys) (own_append k (y ∷ []) ys) (own_at k ys j d (omega arith) is)

  more_legal : (first : o.State) (k : ℕ) (xs ys : List o.Entry) → IsOwnLegal first k xs → own k ys ≡ 0 → IsOwnLegal first k (xs ++ ys)
  more_legal first k xs ys legal none i e lt is mine = dite (dec_lt i (length xs))
      (λ here. subst (λ (l : List o.Entry). o.Accepts (state_of o first l) e) (sym (take-append-le i xs ys (omega arith))) (legal i e here (is ∙ get_or_append_left xs ys e i here) mine))
      (λ later. absurd (
      let past : length xs ≤ i = omega arith in
      let parts = length-append xs ys in
      let inside : i - length xs < length ys = omega (arith, parts, lt) in
      let at : e ≡ get_or ys (i - length xs) e = is ∙ get_or-append_right xs ys i e past in
      none_is_one (own k ys) (own_at k ys (i - length xs) e inside (ap o.by (sym at) ∙ mine)) none))

  push_legal : (first : o.State) (k : ℕ) (xs : List o.Entry) (now : o.Entry) → IsOwnLegal first k xs → o.Accepts (state_of o first xs) now → IsOwnLegal first k (xs ++ now ∷ [])
  push_legal first k xs now legal accepted i e lt is mine = dite (dec_lt i (length xs))
      (λ here. subst (λ (l : List o.Entry). o.Accepts (state_of o first l) e) (sym (take-append-le i xs (now ∷ []) (omega arith))) (legal i e here (is ∙ get_or_append_left xs (now ∷ []) e i here) mine))
      (λ later.
      let long = length-append xs (now ∷ []) in
      let at : i ≡ length xs = omega (arith, long, lt) in
      let same : e ≡ now = is ∙ (ap (λ n. get_or (xs ++ now ∷ []) n e) at ∙ get_or-append_seam xs now [] e) in
      let whole : take i (xs ++ now ∷ []) ≡ xs = take-append-le i xs (now ∷ []) (omega (arith, at)) ∙ take_all i xs (omega (arith, at)) in
      subst (λ (l : List o.Entry). o.Accepts (state_of o first l) e) (sym whole) (subst (o.Accepts (state_of o first xs)) (sym same) accepted))

  step_grows : (k : ℕ) (a : PassView o) (s : Step o) (c : PassView o) → a.number ≡ k → Leads o a s c → length c.mine + own k a.seen ≤ own k c.seen + length a.mine
  step_grows k a (Apply e n) c number l =
      write_sum (length c.mine) (own k c.seen) (length a.mine) (own k a.seen) (own k l.0) (own k (a.seen ++ l.0)) (own k (e ∷ []))
      (ap (λ (v : PassView o). own k v.seen) l.3 ∙ own_append k (a.seen ++ l.0) (e ∷ [])) (own_append k a.seen l.0) (own_one k e (l.1 ∙ number))
      (ap (λ (v : PassView o). length v.mine) l.3 ∙ length-append a.mine (e ∷ []))
  step_grows k a (Learn log) c number l =
      learn_sum (length c.mine) (own k c.seen) (length a.mine) (own k a.seen) (own k l.0)
      (ap (λ (v : PassView o). own k v.seen) l.1 ∙ own_append k a.seen l.0) (ap (λ (v : PassView o). length v.mine) l.1)
  step_grows k a (Pin n) c number l =
      learn_sum (length c.mine) (own k c.seen) (length a.mine) (own k a.seen) (own k l.0)
      (ap (λ (v : PassView o). own k v.seen) l.1 ∙ own_append k a.seen l.0) (ap (λ (v : PassView o). length v.mine) l.1)
  step_grows k a Unpin c number l =
      still_sum (length c.mine) (own k c.seen) (length a.mine) (own k a.seen) (ap (λ (v : PassView o). own k v.seen) l) (ap (λ (v : PassView o). length v.mine) l)
  step_grows k a (Read q r) c number l =
      still_sum (length c.mine) (own k c.seen) (length a.mine) (own k a.seen) (ap (λ (v : PassView o). own k v.seen) l.3) (ap (λ (v : PassView o). length v.mine) l.3)

  run_grows : (k : ℕ) (a : PassView o) (steps : List (Step o × PassView o)) (z : PassView o) → a.number ≡ k → AreSteps o a steps z → length z.mine + own k a.seen ≤ own k z.seen + length a.mine
  run_grows k a [] z number h =
      subst (λ (v : PassView o). length v.mine + own k a.seen ≤ own k v.seen + length a.mine) h (same_sum (length a.mine) (own k a.seen))
  run_grows k a (x ∷ rest) z number h =
      longer_sum (length z.mine) (own k z.seen) (length x.1.mine) (own k x.1.seen) (length a.mine) (own k a.seen)
      (run_grows k x.1 rest z (step_number a x.0 x.1 h.0 ∙ number) h.1) (step_grows k a x.0 x.1 number h.0)

  learned_legal : (first : o.State) (k : ℕ) (a c : PassView o) (others : List o.Entry) → c.seen ≡ a.seen ++ others → c.mine ≡ a.mine → own k c.seen ≤ length c.mine → length a.mine ≤ own k a.seen → IsOwnLegal first k a.seen → IsOwnLegal first k c.seen
  learned_legal first k a c others seen mine full enough legal =
      let none = none_learned (length c.mine) (own k c.seen) (length a.mine) (own k a.seen) (own k others) (ap (own k) seen ∙ own_append k a.seen others) (ap length mine) full enough in
      subst (IsOwnLegal first k) (sym seen) (more_legal first k a.seen others legal none)

  step_legal : (k : ℕ) (a : PassView o) (s : Step o) (c : PassView o) → a.number ≡ k → Leads o a s c → own k c.seen ≤ length c.mine → length a.mine ≤ own k a.seen → IsOwnLegal a.first k a.seen → IsOwnLegal a.first k c.seen
  step_legal k a (Apply e n) c number l full enough legal =
      let none = none_at_write (length c.mine) (own k c.seen) (length a.mine) (own k a.seen) (own k l.0) (own k (a.seen ++ l.0)) (own k (e ∷ []))
      (ap (λ (v : PassView o). own k v.seen) l.3 ∙ own_append k (a.seen ++ l.0) (e ∷ [])) (own_append k a.seen l.0) (own_one k e (l.1 ∙ number))
      (ap (λ (v : PassView o). length v.mine) l.3 ∙ length-append a.mine (e ∷ [])) full enough in
      subst (IsOwnLegal a.first k) (sym (ap (λ (v : PassView o). v.seen) l.3)) (push_legal a.first k (a.seen ++ l.0) e (more_legal a.first k a.seen l.0 legal none) l.2)
  step_legal k a (Learn log) c number l full enough legal =
      learned_legal a.first k a c l.0 (ap (λ (v : PassView o). v.seen) l.1) (ap (λ (v : PassView o). v.mine) l.1) full enough legal
  step_legal k a (Pin n) c number l full enough legal =
      learned_legal a.first k a c l.0 (ap (λ (v : PassView o). v.seen) l.1) (ap (λ (v : PassView o). v.mine) l.1) full enough legal
  step_legal k a Unpin c number l full enough legal = subst (IsOwnLegal a.first k) (sym (ap (λ (v : PassView o). v.seen) l)) legal
  step_legal k a (Read q r) c number l full enough legal = subst (IsOwnLegal a.first k) (sym (ap (λ (v : PassView o). v.seen) l.3)) legal

  run_legal : (k : ℕ) (a : PassView o) (steps : List (Step o × PassView o)) (z : PassView o) → a.number ≡ k → AreSteps o a steps z → own k z.seen ≤ length z.mine → length a.mine ≤ own k a.seen → IsOwnLegal a.first k a.seen → IsOwnLegal a.first k z.seen
  run_legal k a [] z number h full enough legal = subst (λ (v : PassView o). IsOwnLegal a.first k v.seen) h legal
  run_legal k a (x ∷ rest) z number h full enough legal =
      let next = step_number a x.0 x.1 h.0 ∙ number in
      let full_then = full_before (length z.mine) (own k z.seen) (length x.1.mine) (own k x.1.seen) (run_grows k x.1 rest z next h.1) full in
      let enough_then = enough_after (length x.1.mine) (own k x.1.seen) (length a.mine) (own k a.seen) (step_grows k a x.0 x.1 number h.0) enough in
      let kept = step_first a x.0 x.1 h.0 in
      let legal_then = subst (λ (f : o.State). IsOwnLegal f k x.1.seen) (sym kept) (step_legal k a x.0 x.1 number h.0 full_then enough legal) in
      subst (λ (f : o.State). IsOwnLegal f k z.seen) kept (run_legal k x.1 rest z next h.1 full enough_then legal_then)

  pass_legal : (journal : List o.Entry) (r : PassRun o) → StartsWith journal r.last.seen → entries_by o r.last.number journal ≡ r.last.mine → IsOwnLegal r.first r.number journal
  pass_legal journal r more mine =
      let k = r.number in
      let z = r.last in
      let written : own k journal ≡ length z.mine = ap (λ n. own n journal) (sym (run_number (first_view o r.first k) r.steps z r.run)) ∙ ap length mine in
      let parts : own k journal ≡ own k z.seen + own k more.0 = ap (own k) more.1 ∙ own_append k z.seen more.0 in
      let grows = run_grows k (first_view o r.first k) r.steps z refl r.run in
      let none = none_at_end (own k journal) (own k z.seen) (own k more.0) (length z.mine) written parts grows in
      let full = full_at_end (own k journal) (own k z.seen) (own k more.0) (length z.mine) written parts in
      let seen = run_legal k (first_view o r.first k) r.steps z refl r.run full none_yet (λ i e lt. absurd (omega arith)) in
      subst (IsOwnLegal r.first k) (sym more.1) (more_legal r.first k z.seen more.0 seen none)

  abbrev Owns : List o.Entry → PassView o → Type 0
  Owns journal z = entries_by o z.number journal ≡ z.mine

  abbrev Begins : List o.Entry → PassView o → Type 0
  Begins journal z = StartsWith journal z.seen

  abbrev BeginsWith : o.State → PassRun o → Type 0
  BeginsWith first r = r.first ≡ first

  all_legal : (first : o.State) (journal : List o.Entry) (runs : List (PassRun o)) → All (BeginsWith first) runs → All (Begins journal) (map (λ (r : PassRun o). r.last) runs) → All (Owns journal) (map (λ (r : PassRun o). r.last) runs) → (k : ℕ) → HasRun o runs k → IsOwnLegal first k journal
  all_legal first journal [] begins seen mine k has = absurd has
  all_legal first journal (r ∷ runs) begins seen mine k (inl is) =
      let later = map (λ (s : PassRun o). s.last) runs in
      subst (λ (q : o.State × ℕ). IsOwnLegal q.0 q.1 journal) (λ j. (All-head (BeginsWith first) r runs begins j, is j)) (pass_legal journal r (All-head (Begins journal) r.last later seen) (All-head (Owns journal) r.last later mine))
  all_legal first journal (r ∷ runs) begins seen mine k (inr has) =
      let later = map (λ (s : PassRun o). s.last) runs in
      all_legal first journal runs (All-tail (BeginsWith first) r runs begins) (All-tail (Begins journal) r.last later seen) (All-tail (Owns journal) r.last later mine) k has

  abbrev HasAuthor : List (PassRun o) → o.Entry → Type 0
  HasAuthor runs e = HasRun o runs (o.by e)

  pub journal_legal : (first : o.State) (journal : List o.Entry) (runs : List (PassRun o)) → All (BeginsWith first) runs → All (Begins journal) (map (λ (r : PassRun o). r.last) runs) → All (Owns journal) (map (λ (r : PassRun o). r.last) runs) → All (HasAuthor runs) journal → IsLegalFor o first journal
  journal_legal first journal runs begins seen mine authors i e lt is =
      let author = subst (HasAuthor runs) (sym is) (All-get_or (HasAuthor runs) journal i e lt authors) in
      all_legal first journal runs begins seen mine (o.by e) author i e lt is refl
