-- A scan, one reader slot after another.
use Rattle.std.proofs.Common.{◌≡◌, ◌≢◌, ℕ, suc, Bool, map, ◌+◌, ◌<◌, ◌≤◌, eq-eqb, ne_eqb, List, [], ◌∷◌, ◌++◌, length, cond, refl, sym, ap, ◌∙◌, subst, arith}
use Rattle.be_table.specs.declared.pass.View.{View}
use Rattle.std.proofs.Common.{zero, true, false, inl, inr, ⊎_elim, ◌==◌, if◌then◌else◌, slice_index, length-append, append_assoc}
use Rattle.std.proofs.Math.Nat.{le_refl, min-eq_left, min-eq_right}
use Rattle.std.proofs.lemmas.Bool.Decides.{leb_tells}
use Rattle.std.proofs.lemmas.List.Elements.{Contains-append_left, Contains-push, Contains-push_cases}
use mathlib.Core.Logic.{dite}
use native.Mathlib.Decide.{ℕ_discrete}
use Rattle.be_table.specs.Setting.{Setting as Limits}
use Rattle.be_table.specs.declared.pass.Knowledge.{Knowledge}
use Rattle.be_table.specs.declared.pass.Move.{Move}
use Rattle.be_table.specs.declared.pass.Move.TheVariants.{Scan}
use Rattle.be_table.specs.History.{StartsWith}
use Rattle.be_table.specs.Trace.{RunsTo, Makes}
use Rattle.be_table.proofs.Histories.{starts_itself}
use Rattle.be_table.proofs.Traces.{makes_more}
use Rattle.std.proofs.Common.{Option}
use Rattle.atomic_table.specs.Table.{Me}
use Rattle.be_table.specs.declared.writer_state.WriterState.{WriterState}
use Rattle.be_table.specs.Rule.{alone, Reaches, announce_word, pass_of}
use Rattle.be_pages.specs.Place.{swept_place, is_in_hand}
use Rattle.be_table.specs.Steps.{scans, scans_on, scans_out, scans_all, scan_from, lowest_found, IsLowestAnnounced, lowest_then, pages_from, IsPart, IsOwnLowest, own_lowest, UnreachedAreFree, FoundAt, AreFound, scans_of, with_history}

pub scans_all-push : (a : Knowledge) (ns : List ℕ) (n : ℕ) → scans_all a (ns ++ n ∷ []) ≡ scans (scans_all a ns) n
scans_all-push a [] n = refl
scans_all-push a (m ∷ ns) n = scans_all-push (scans a m) ns n

pub part_none : (passes : ℕ) (a : Knowledge) (l : ℕ) → 0 < passes → a.scanned ≡ 0 → l ≡ length a.seen → IsPart passes a a 0 l
part_none passes a l some none is = record { same = refl; turn = λ _. none; waits = λ _. refl; whole = λ e. absurd (omega arith); begins = λ _. is; so_far = λ h. absurd (omega arith) }

-- the lowest number before any reader slot has been read
pub lowest_none : (current : ℕ) → IsLowestAnnounced current [] current
lowest_none current = record { at_most = le_refl current; below = λ a h. absurd (let lt = h.1 in omega arith); one = inl refl }

-- the lowest number after one more reader slot
pub lowest_more : (current : ℕ) (words : List ℕ) (least word : ℕ) → IsLowestAnnounced current words least → IsLowestAnnounced current (words ++ word ∷ []) (lowest_found least word)
lowest_more current words least zero h = record {
  at_most = h.at_most;
  below = λ a m. ⊎_elim (h.below a) (λ e. absurd (omega (arith, e))) (Contains-push_cases words 0 (suc a) m);
  one = ⊎_elim inl (λ m. inr (Contains-append_left words (0 ∷ []) (suc least) m)) h.one;
}
lowest_more current words least (suc a) h = elim (leb_tells least a) [
  | inl y ↦ subst (IsLowestAnnounced current (words ++ suc a ∷ [])) (sym (min-eq_left y.1)) (record {
    at_most = h.at_most;
    below = λ b m. ⊎_elim (h.below b) (λ e. let le = y.1 in omega arith) (Contains-push_cases words (suc a) (suc b) m);
    one = ⊎_elim inl (λ m. inr (Contains-append_left words (suc a ∷ []) (suc least) m)) h.one;
  })
  | inr n ↦ subst (IsLowestAnnounced current (words ++ suc a ∷ [])) (sym (min-eq_right (let gt = n.1 in omega arith))) (record {
    at_most = (let top = h.at_most in let gt = n.1 in omega arith);
    below = λ b m. ⊎_elim (λ k. let low = h.below b k in let gt = n.1 in omega arith) (λ e. omega (arith, e)) (Contains-push_cases words (suc a) (suc b) m);
    one = inr (Contains-push words (suc a));
  })
]

-- one more reader slot never raises the lowest number, and preserves the order of two such numbers
lowest_lower : (l n : ℕ) → lowest_found l n ≤ l
lowest_lower l zero = le_refl l
lowest_lower l (suc n) = omega arith

lowest_mono : (l c n : ℕ) → l ≤ c → lowest_found l n ≤ lowest_found c n
lowest_mono l c zero h = h
lowest_mono l c (suc n) h = omega arith

-- what the first j reader slots say about the lower of the current number and the pass's own
pub record IsOwnPart (a : Knowledge) (j least : ℕ) : Type 0 where
  pub current : least ≤ length a.seen
  pub none : j ≡ 0 → least ≡ length a.seen
  pub own : a.number < j → least ≤ own_lowest a
  pub first : j ≡ 1 → a.number ≡ 0 → least ≡ own_lowest a

-- what it says before any reader slot has been read
pub own_none : (a : Knowledge) (l : ℕ) → l ≡ length a.seen → IsOwnPart a 0 l
own_none a l is = record { current = omega arith; none = λ _. is; own = λ lt. absurd (omega arith); first = λ e. absurd (omega arith) }

-- one more reader slot
pub own_step : (a : Knowledge) (j l n : ℕ) → IsOwnPart a j l → (j ≡ a.number → n ≡ announce_word a.phase) → IsOwnPart a (j + 1) (lowest_found l n)
own_step a j l n h mine = record {
  current = (let low = lowest_lower l n in let top = h.current in omega arith);
  none = λ e. absurd (omega arith);
  own = λ lt. dite (ℕ_discrete j a.number)
      (λ same. subst (λ x. lowest_found l x ≤ own_lowest a) (sym (mine same)) (lowest_mono l (length a.seen) (announce_word a.phase) h.current))
      (λ other. let before : a.number < j = omega arith in let low = lowest_lower l n in let top = h.own before in omega arith);
  first = λ one zero. let start : j ≡ 0 = omega arith in let same : j ≡ a.number = omega arith in ap (λ x. lowest_found x n) (h.none start) ∙ ap (lowest_found (length a.seen)) (mine same);
}

-- at its own turn the pass finds what it has announced
pub found_own : (passes : ℕ) (a s : Knowledge) (j l n : ℕ) → j < passes → IsPart passes a s j l → (s.scanned ≡ s.number → n ≡ announce_word s.phase) → j ≡ a.number → n ≡ announce_word a.phase
found_own passes a s j l n lt h own mine =
    own (h.turn lt ∙ (mine ∙ sym (ap (λ (k : Knowledge). k.number) h.same))) ∙ ap (λ (k : Knowledge). announce_word k.phase) h.same

-- what all reader slots say about it
pub own_all : (a : Knowledge) (passes l : ℕ) → a.limits.passes ≡ passes → a.number < passes → IsOwnPart a passes l → IsOwnLowest a l
own_all a passes l limits below h = (h.own below, λ one. h.first (omega arith) (omega arith))

chosen_out : (s : Knowledge) (n : ℕ) → suc s.scanned ≡ s.limits.passes → scans s n ≡ scans_out s n
chosen_out s n e = ap (λ (b : Bool). cond b (scans_out s n) (scans_on s n)) (eq-eqb (suc s.scanned) s.limits.passes e)

chosen_on : (s : Knowledge) (n : ℕ) → suc s.scanned ≢ s.limits.passes → scans s n ≡ scans_on s n
chosen_on s n e = ap (λ (b : Bool). cond b (scans_out s n) (scans_on s n)) (ne_eqb (suc s.scanned) s.limits.passes e)

pub part_next : (passes : ℕ) (a s : Knowledge) (j l n : ℕ) → j < passes → a.limits.passes ≡ passes → IsPart passes a s j l → (suc s.scanned ≡ s.limits.passes → UnreachedAreFree (scans_out s n)) → IsPart passes a (scans s n) (j + 1) (lowest_found l n)
part_next passes a s j l n lt limits h leaves =
    let at = h.turn lt in
    let same_passes : s.limits.passes ≡ passes = ap (λ x. x.limits.passes) h.same ∙ limits in
    let from : scan_from s ≡ l = dite (ℕ_discrete j 0)
    (λ e. ap (λ b. cond b (length s.seen) s.least) (eq-eqb s.scanned 0 (at ∙ e)) ∙ ap (λ x. length x.seen) h.same ∙ sym (h.begins e))
    (λ ne. let some : 0 < j = omega arith in ap (λ b. cond b (length s.seen) s.least) (ne_eqb s.scanned 0 (λ e. ne (sym at ∙ e))) ∙ h.so_far some) in
    let least : lowest_then s n ≡ lowest_found l n = ap (λ x. lowest_found x n) from in
    dite (ℕ_discrete (j + 1) passes)
    (λ last. subst (λ x. IsPart passes a x (j + 1) (lowest_found l n)) (sym (chosen_out s n (omega arith))) (record {
      same = λ k. record (h.same k) { scanned = 0; least = lowest_then s n; places = (scans_out s n).places; held = (scans_out s n).held; steps = s.steps + 1; history = s.history };
      turn = λ more. absurd (omega arith);
      waits = λ more. absurd (omega arith);
      whole = λ _. (refl, (λ k. map (swept_place (least k)) (h.waits lt k)), ap (pages_from is_in_hand 0) (h.waits lt), leaves (omega arith));
      begins = λ e. absurd (omega arith);
      so_far = λ _. least;
    }))
    (λ inside. subst (λ x. IsPart passes a x (j + 1) (lowest_found l n)) (sym (chosen_on s n (λ e. inside (omega arith)))) (record {
      same = λ k. record (h.same k) { scanned = suc s.scanned; least = lowest_then s n; places = s.places; held = s.held; steps = s.steps + 1; history = s.history };
      turn = λ more. omega arith;
      waits = λ more. h.waits lt;
      whole = λ e. absurd (inside e);
      begins = λ e. absurd (omega arith);
      so_far = λ _. least;
    }))

-- the same for a pass with another history
part_history : (passes : ℕ) (a s : Knowledge) (j l : ℕ) (h : List Move) → IsPart passes a s j l → IsPart passes a (with_history s h) j l
part_history passes a s j l h p = record { same = λ k. record (p.same k) { history = h }; turn = p.turn; waits = p.waits; whole = λ e. let w = p.whole e in (w.0, w.1, w.2, w.3); begins = p.begins; so_far = p.so_far }

pub scans_limits : (a : Knowledge) (n : ℕ) → (scans a n).limits ≡ a.limits
scans_limits a n = by (suc a.scanned == a.limits.passes)
  where
    by : (z : Bool) → (if z then scans_out a n else scans_on a n).limits ≡ a.limits
    by true = refl
    by false = refl

pub scans_history : (a : Knowledge) (n : ℕ) (h : List Move) → scans (with_history a h) n ≡ with_history (scans a n) h
scans_history a n h = by (suc a.scanned == a.limits.passes)
  where
    by : (z : Bool) → (if z then scans_out (with_history a h) n else scans_on (with_history a h) n) ≡ with_history (if z then scans_out a n else scans_on a n) h
    by true = refl
    by false = refl

abbrev pub Me3 : Type 0
Me3 = Me (Option WriterState) View

-- the seat has read the reader slots ns, and then reads n
pub me_next : (a : Knowledge) (ns : List ℕ) (n : ℕ) (m r b : Me3) → m ≡ (alone (with_history (scans_all a ns) (pass_of m.0).history), b.1) → r ≡ (alone (scans (with_history (pass_of m.0) (pass_of r.0).history) n), m.1)
    → r ≡ (alone (with_history (scans_all a (ns ++ n ∷ [])) (pass_of r.0).history), b.1)
me_next a ns n m r b e f =
    let h = (pass_of r.0).history in
    let before : with_history (pass_of m.0) h ≡ with_history (scans_all a ns) h = ap (λ (x : Me3). with_history (pass_of x.0) h) e in
    let after : scans (with_history (pass_of m.0) h) n ≡ with_history (scans_all a (ns ++ n ∷ [])) h =
    ap (λ (k : Knowledge). scans k n) before ∙ scans_history (scans_all a ns) n h ∙ ap (λ (k : Knowledge). with_history k h) (sym (scans_all-push a ns n)) in
    f ∙ (λ k. (alone (after k), ap (λ (x : Me3). x.1) e k))

pub part_step : (passes : ℕ) (a : Knowledge) (m r : Me3) (j l n : ℕ) → j < passes → a.limits.passes ≡ passes → IsPart passes a (pass_of m.0) j l → r ≡ (alone (scans (with_history (pass_of m.0) (pass_of r.0).history) n), m.1)
    → (suc (pass_of m.0).scanned ≡ (pass_of m.0).limits.passes → UnreachedAreFree (scans_out (pass_of m.0) n)) → IsPart passes a (pass_of r.0) (j + 1) (lowest_found l n)
part_step passes a m r j l n lt limits h f leaves =
    let s = with_history (pass_of m.0) (pass_of r.0).history in
    subst (λ (x : Knowledge). IsPart passes a x (j + 1) (lowest_found l n)) (sym (ap (λ (x : Me3). pass_of x.0) f)) (part_next passes a s j l n lt limits (part_history passes a (pass_of m.0) j l (pass_of r.0).history h) leaves)

-- what the scans so far have found remains found
found_on : (limits : Limits) (k : ℕ) (before after more : List Move) (j word : ℕ) → StartsWith more after → FoundAt limits k before after j word → FoundAt limits k before more j word
found_on limits k before after more j word s f = record { upto = f.upto; front = starts_all f.upto after more f.front s; scans = f.scans; words = f.words; world = f.world; runs = f.runs; found = f.found }
  where
    starts_all : (x y z : List Move) → StartsWith y x → StartsWith z y → StartsWith z x
    starts_all x y z p q = (p.0 ++ q.0, q.1 ∙ ap (λ l. l ++ q.0) p.1 ∙ append_assoc x p.0 q.0)

-- the scan whose turn it is finds one more
pub found_more : (limits : Limits) (k j : ℕ) (before mid after : List Move) (ns : List ℕ) (n : ℕ) → length ns ≡ j → AreFound limits k before mid ns → StartsWith after mid → FoundAt limits k before after j n → AreFound limits k before after (ns ++ n ∷ [])
found_more limits k j before mid after ns n long all s new i lt = dite (ℕ_discrete i j)
    (λ e. subst (λ (p : ℕ × ℕ). FoundAt limits k before after p.0 p.1) (λ q. (sym e q, sym (ap (slice_index (ns ++ n ∷ [])) (e ∙ sym long) ∙ at_end ns n) q)) new)
    (λ ne. let low : i < length ns = (let z = length-append ns (n ∷ []) in omega (arith, lt, long, z)) in
    subst (λ w. FoundAt limits k before after i w) (sym (in_front ns n i low)) (found_on limits k before mid after i (slice_index ns i) s (all i low)))
  where
    at_end : (ns : List ℕ) (n : ℕ) → slice_index (ns ++ n ∷ []) (length ns) ≡ n
    at_end [] n = refl
    at_end (x ∷ xs) n = at_end xs n

    in_front : (ns : List ℕ) (n i : ℕ) → i < length ns → slice_index (ns ++ n ∷ []) i ≡ slice_index ns i
    in_front [] n i lt = absurd (omega arith)
    in_front (x ∷ xs) n zero lt = refl
    in_front (x ∷ xs) n (suc i) lt = in_front xs n i (omega arith)

-- the scan whose turn it is
pub found_now : (limits : Limits) (k j n : ℕ) (before mid : List Move) (c : Knowledge) → c.limits ≡ limits → Makes k before (scans_of k j) mid → Makes k mid (Scan k j ∷ []) c.history → Reaches c (λ w. n ≡ announce_word (w.phases j))
    → FoundAt limits k before c.history j n
found_now limits k j n before mid c same scans one r = record {
  upto = c.history;
  front = starts_itself c.history;
  scans = makes_more k before (scans_of k j) mid (Scan k j ∷ []) c.history scans one;
  words = r.words;
  world = r.world;
  runs = subst (λ (l : Limits). RunsTo l r.words c.history r.world) same r.runs;
  found = r.so;
}

-- a history extends what it was before
pub makes_starts : (k : ℕ) (old own new : List Move) → Makes k old own new → StartsWith new old
makes_starts k old [] new m = subst (λ (l : List Move). StartsWith l old) (sym m) (starts_itself old)
makes_starts k old (x ∷ own) new m =
    let s = makes_starts k ((old ++ m.0) ++ x ∷ []) own new m.2 in
    ((m.0 ++ x ∷ []) ++ s.0, s.1 ∙ ap (λ l. l ++ s.0) (append_assoc old m.0 (x ∷ [])) ∙ append_assoc old (m.0 ++ x ∷ []) s.0)
