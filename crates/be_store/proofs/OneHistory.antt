-- What the journal says at the end about each step of the small machine.
use Rattle.std.proofs.Common.{◌≡◌, ◌≤◌, ℕ, suc, inl, inr, List, [], ◌∷◌, ◌++◌, length, take, Option, Some, None, refl, sym, ap, ◌∙◌, subst, arith, length-append}
use Rattle.std.specs.Prelude.{◌≢◌, All, AllPairs, IfSome, map}
use Rattle.std.proofs.lemmas.List.{append_assoc, append-nil, take-append-le, take_all}
use Rattle.std.proofs.lemmas.List.Elements.{All-cons, All-nil, All-head, All-tail, All-weaker}
use Rattle.be_table.specs.History.{StartsWith}
use Rattle.be_store.specs.SmallMachine.{Object, PassView, Step, Apply, Learn, Pin, Unpin, Read, Leads, AreSteps, Closes, HasNumber, first_view, state_of, entries_by}
use Rattle.be_store.specs.OneHistory.{PassRun, IsKept, AreKept, ReadsPrefix, HasRun, IsOneHistory, written, written_by}
use Rattle.be_store.proofs.Legality.{journal_legal, run_first, run_number}
use Rattle.be_store.proofs.Calls.{starts_refl, starts_trans, lies_at_seam}

abbrev number_or : ℕ → Option ℕ → ℕ
number_or d None = d
number_or d (Some n) = n

module _ (o : Object) where
  -- A pass is pinned to entries that it has seen.
  abbrev IsInTime : PassView o → Type 0
  IsInTime a = (n : ℕ) → a.pin ≡ Some n → n ≤ length a.seen

  first_in_time : (first : o.State) (k : ℕ) → IsInTime (first_view o first k)
  first_in_time first k n e = absurd cc

  step_seen : (a : PassView o) (s : Step o) (c : PassView o) → Leads o a s c → StartsWith c.seen a.seen
  step_seen a (Apply e n) c l = (l.0 ++ e ∷ [], ap (λ (v : PassView o). v.seen) l.3 ∙ append_assoc a.seen l.0 (e ∷ []))
  step_seen a (Learn log) c l = (l.0, ap (λ (v : PassView o). v.seen) l.1)
  step_seen a (Pin n) c l = (l.0, ap (λ (v : PassView o). v.seen) l.1)
  step_seen a Unpin c l = subst (λ (k : List o.Entry). StartsWith k a.seen) (sym (ap (λ (v : PassView o). v.seen) l)) (starts_refl a.seen)
  step_seen a (Read q r) c l = subst (λ (k : List o.Entry). StartsWith k a.seen) (sym (ap (λ (v : PassView o). v.seen) l.3)) (starts_refl a.seen)

  run_seen : (a : PassView o) (steps : List (Step o × PassView o)) (z : PassView o) → AreSteps o a steps z → StartsWith z.seen a.seen
  run_seen a [] z h = subst (λ (v : PassView o). StartsWith v.seen a.seen) h (starts_refl a.seen)
  run_seen a (x ∷ rest) z h = starts_trans a.seen x.1.seen z.seen (run_seen x.1 rest z h.1) (step_seen a x.0 x.1 h.0)

  same_pin : (a c : PassView o) → StartsWith c.seen a.seen → c.pin ≡ a.pin → IsInTime a → IsInTime c
  same_pin a c more same h n e =
      let long = ap length more.1 in let parts = length-append a.seen more.0 in
      let at = h n (sym same ∙ e) in omega (arith, long, parts, at)

  pinned_in_time : (c : PassView o) (n : ℕ) → c.pin ≡ Some n → n ≡ length c.seen → IsInTime c
  pinned_in_time c n is long m e = let same : n ≡ m = ap (number_or n) (sym is ∙ e) in omega (arith, long, same)

  unpinned_in_time : (c : PassView o) → c.pin ≡ None → IsInTime c
  unpinned_in_time c is m e = absurd (let none : None ≡ Some m = sym is ∙ e in cc)

  step_in_time : (a : PassView o) (s : Step o) (c : PassView o) → Leads o a s c → IsInTime a → IsInTime c
  step_in_time a (Apply e n) c l h = same_pin a c (step_seen a (Apply e n) c l) (ap (λ (v : PassView o). v.pin) l.3) h
  step_in_time a (Learn log) c l h = same_pin a c (step_seen a (Learn log) c l) (ap (λ (v : PassView o). v.pin) l.1) h
  step_in_time a (Pin n) c l h = pinned_in_time c n (ap (λ (v : PassView o). v.pin) l.1) l.2
  step_in_time a Unpin c l h = unpinned_in_time c (ap (λ (v : PassView o). v.pin) l)
  step_in_time a (Read q r) c l h = subst IsInTime (sym l.3) h

  reads_prefix : (journal : List o.Entry) (a : PassView o) → StartsWith journal a.seen → IsInTime a → ReadsPrefix o journal a
  reads_prefix journal a more h n pin = sym (take-append-le n a.seen more.0 (h n pin)) ∙ ap (take n) (sym more.1)

  step_kept : (journal : List o.Entry) (a : PassView o) (s : Step o) (c : PassView o) → Leads o a s c → StartsWith journal c.seen → IsInTime a → IsKept o journal a s
  step_kept journal a (Apply e n) c l more h =
      let front = a.seen ++ l.0 in
      let is : journal ≡ front ++ e ∷ more.0 = more.1 ∙ (ap (λ (v : PassView o). v.seen ++ more.0) l.3 ∙ append_assoc front (e ∷ []) more.0) in
      let long : length c.seen ≡ length (front ++ e ∷ []) = ap (λ (v : PassView o). length v.seen) l.3 in
      let parts = length-append front (e ∷ []) in
      let at : n ≡ suc (length front) = omega (arith, l.4, long, parts) in
      (length front, at, lies_at_seam journal front e more.0 is)
  step_kept journal a (Learn log) c l more h =
      (subst (StartsWith journal) (sym l.2) more, subst (λ (k : List o.Entry). StartsWith k a.seen) (sym l.2) (step_seen a (Learn log) c l))
  step_kept journal a (Pin n) c l more h =
      let long = ap length more.1 in let parts = length-append c.seen more.0 in
      let whole : take n journal ≡ c.seen =
      ap (take n) more.1 ∙ (take-append-le n c.seen more.0 (omega (arith, l.2)) ∙ take_all n c.seen (omega (arith, l.2))) in
      (omega (arith, l.2, long, parts), subst (λ (k : List o.Entry). StartsWith k a.seen) (sym whole) (step_seen a (Pin n) c l))
  step_kept journal a Unpin c l more h = tt
  step_kept journal a (Read q r) c l more h =
      let here : StartsWith journal a.seen = subst (λ (v : PassView o). StartsWith journal v.seen) l.3 more in
      (l.0, l.1, subst (λ k. IfSome r (λ x. x ≡ o.answer q (state_of o a.first k))) (reads_prefix journal a here h l.0 l.1) l.2)

  run_kept : (journal : List o.Entry) (a : PassView o) (steps : List (Step o × PassView o)) (z : PassView o) → AreSteps o a steps z → StartsWith journal z.seen → IsInTime a → AreKept o journal a steps
  run_kept journal a [] z h more t = tt
  run_kept journal a (x ∷ rest) z h more t =
      let begun = starts_trans x.1.seen z.seen journal more (run_seen x.1 rest z h.1) in
      let then = step_in_time a x.0 x.1 h.0 t in
      (step_kept journal a x.0 x.1 h.0 begun t, reads_prefix journal x.1 begun then, run_kept journal x.1 rest z h.1 more then)

  step_mine : (a : PassView o) (s : Step o) (c : PassView o) → Leads o a s c → c.mine ≡ a.mine ++ written_by o s
  step_mine a (Apply e n) c l = ap (λ (v : PassView o). v.mine) l.3
  step_mine a (Learn log) c l = ap (λ (v : PassView o). v.mine) l.1 ∙ sym (append-nil a.mine)
  step_mine a (Pin n) c l = ap (λ (v : PassView o). v.mine) l.1 ∙ sym (append-nil a.mine)
  step_mine a Unpin c l = ap (λ (v : PassView o). v.mine) l ∙ sym (append-nil a.mine)
  step_mine a (Read q r) c l = ap (λ (v : PassView o). v.mine) l.3 ∙ sym (append-nil a.mine)

  run_mine : (a : PassView o) (steps : List (Step o × PassView o)) (z : PassView o) → AreSteps o a steps z → z.mine ≡ a.mine ++ written o steps
  run_mine a [] z h = ap (λ (v : PassView o). v.mine) (sym h) ∙ sym (append-nil a.mine)
  run_mine a (x ∷ rest) z h =
      run_mine x.1 rest z h.1
      ∙ (ap (λ k. k ++ written o rest) (step_mine a x.0 x.1 h.0) ∙ append_assoc a.mine (written_by o x.0) (written o rest))

  -- The runs belong to different passes, because their last views do.
  run_numbers : (runs : List (PassRun o)) → map (λ (z : PassView o). z.number) (map (λ (r : PassRun o). r.last) runs) ≡ map (λ (r : PassRun o). r.number) runs
  run_numbers [] = refl
  run_numbers (r ∷ runs) = λ j. run_number o (first_view o r.first r.number) r.steps r.last r.run j ∷ run_numbers runs j

  -- Each run begins with the state that its last view has.
  all_begin : (first : o.State) (runs : List (PassRun o)) → All (λ (z : PassView o). z.first ≡ first) (map (λ (r : PassRun o). r.last) runs) → All (λ (r : PassRun o). r.first ≡ first) runs
  all_begin first [] begins = All-nil (λ (r : PassRun o). r.first ≡ first)
  all_begin first (r ∷ runs) begins =
      let later = map (λ (s : PassRun o). s.last) runs in
      let one : r.first ≡ first = sym (run_first o (first_view o r.first r.number) r.steps r.last r.run) ∙ All-head (λ (z : PassView o). z.first ≡ first) r.last later begins in
      All-cons (λ (s : PassRun o). s.first ≡ first) r runs one (all_begin first runs (All-tail (λ (z : PassView o). z.first ≡ first) r.last later begins))

  abbrev HasWritten : List o.Entry → PassRun o → Type 0
  HasWritten journal r = entries_by o r.number journal ≡ written o r.steps

  abbrev KeepsSteps : List o.Entry → PassRun o → Type 0
  KeepsSteps journal r = AreKept o journal (first_view o r.first r.number) r.steps

  abbrev OwnOf : List o.Entry → PassView o → Type 0
  OwnOf journal z = entries_by o z.number journal ≡ z.mine

  abbrev SeenOf : List o.Entry → PassView o → Type 0
  SeenOf journal z = StartsWith journal z.seen

  all_written : (journal : List o.Entry) (runs : List (PassRun o)) → All (OwnOf journal) (map (λ (r : PassRun o). r.last) runs) → All (HasWritten journal) runs
  all_written journal [] own = All-nil (HasWritten journal)
  all_written journal (r ∷ runs) own =
      let later = map (λ (s : PassRun o). s.last) runs in
      let one : HasWritten journal r =
      ap (λ k. entries_by o k journal) (sym (run_number o (first_view o r.first r.number) r.steps r.last r.run))
      ∙ (All-head (OwnOf journal) r.last later own ∙ run_mine (first_view o r.first r.number) r.steps r.last r.run) in
      All-cons (HasWritten journal) r runs one (all_written journal runs (All-tail (OwnOf journal) r.last later own))

  all_kept : (journal : List o.Entry) (runs : List (PassRun o)) → All (SeenOf journal) (map (λ (r : PassRun o). r.last) runs) → All (KeepsSteps journal) runs
  all_kept journal [] seen = All-nil (KeepsSteps journal)
  all_kept journal (r ∷ runs) seen =
      let later = map (λ (s : PassRun o). s.last) runs in
      let one = run_kept journal (first_view o r.first r.number) r.steps r.last r.run (All-head (SeenOf journal) r.last later seen) (first_in_time r.first r.number) in
      All-cons (KeepsSteps journal) r runs one (all_kept journal runs (All-tail (SeenOf journal) r.last later seen))

  all_seen : (journal : List o.Entry) (runs : List (PassRun o)) → All (SeenOf journal) (map (λ (r : PassRun o). r.last) runs) → All (λ (r : PassRun o). SeenOf journal r.last) runs
  all_seen journal [] seen = All-nil (λ (r : PassRun o). SeenOf journal r.last)
  all_seen journal (r ∷ runs) seen =
      let later = map (λ (s : PassRun o). s.last) runs in
      All-cons (λ (s : PassRun o). SeenOf journal s.last) r runs (All-head (SeenOf journal) r.last later seen) (all_seen journal runs (All-tail (SeenOf journal) r.last later seen))

  all_passes : (runs : List (PassRun o)) (k : ℕ) → HasNumber o (map (λ (r : PassRun o). r.last) runs) k → HasRun o runs k
  all_passes [] k has = has
  all_passes (r ∷ runs) k (inl is) = inl (sym (run_number o (first_view o r.first r.number) r.steps r.last r.run) ∙ is)
  all_passes (r ∷ runs) k (inr has) = inr (all_passes runs k has)

  all_authors : (runs : List (PassRun o)) (journal : List o.Entry) → All (λ (e : o.Entry). HasNumber o (map (λ (r : PassRun o). r.last) runs) (o.by e)) journal → All (λ (e : o.Entry). HasRun o runs (o.by e)) journal
  all_authors runs journal authors =
      All-weaker (λ (e : o.Entry). HasNumber o (map (λ (r : PassRun o). r.last) runs) (o.by e)) (λ (e : o.Entry). HasRun o runs (o.by e)) (λ e. all_passes runs (o.by e)) journal authors

  pub one_history : (first : o.State) (journal : List o.Entry) (runs : List (PassRun o)) → Closes o first journal (map (λ (r : PassRun o). r.last) runs) → IsOneHistory o first journal runs
  one_history first journal runs h =
      let authors = all_authors runs journal h.authors in
      let begins = all_begin first runs h.first in record {
        legal = journal_legal o first journal runs begins h.seen h.mine authors;
        begins = begins;
        apart = subst (AllPairs ◌≢◌) (run_numbers runs) h.apart;
        authors = authors;
        writes = all_written journal runs h.mine;
        kept = all_kept journal runs h.seen;
        seen = all_seen journal runs h.seen;
      }
