-- If two passes write and then query, the later writer queries the whole journal.
use Rattle.std.proofs.Common.{◌≡◌, ◌≢◌, ◌<◌, ◌≤◌, ◌+◌, ◌⊎◌, inl, inr, ℕ, zero, suc, List, [], ◌∷◌, ◌++◌, length, take, Option, Some, None, refl, sym, ap, ◌∙◌, subst, arith, length-append}
use Rattle.std.specs.Prelude.{All, Ok, Result, map, slice_get}
use Rattle.std.proofs.lemmas.Bool.{cases_lt, eq-eqb, ne_eqb}
use Rattle.std.proofs.lemmas.List.{length-take-le, take_all}
use Rattle.std.proofs.lemmas.Option.{slice_get_within}
use Rattle.std.proofs.lemmas.List.Elements.{All-head, All-tail, All-weaker}
use Rattle.be_journal.specs.declared.entries.Entry.{Entry}
use Rattle.be_query.specs.Grammar.{Formula}
use Rattle.be_value.specs.declared.refusals.Refusal.{Refusal}
use Rattle.be_volume.specs.Query.{scan}
use Rattle.be_volume.specs.Volume.{State, empty}
use Rattle.be_volume.specs.declared.ops.Done.{Done}
use Rattle.be_volume.specs.declared.ops.Op.{Op}
use Rattle.be_store.specs.OneHistory.{AreKept, HasRun, IsKept, IsOneHistory, PassRun, steps_of, written, written_by}
use Rattle.be_store.specs.SmallMachine.{AreSteps, Leads, PassView, Step, Apply, Pin, Read, Unpin, entries_by, first_view, state_of}
use Rattle.be_store.specs.Views.{Answer, Nodes, volume}
use Rattle.example_history.specs.Visits.{FindsAll, IsHistoryOf, asks, visits, writes}

-- ## The number of entries

abbrev entries_of : List (Step volume) → List Entry
entries_of [] = []
entries_of (s ∷ steps) = written_by volume s ++ entries_of steps

written_of : (xs : List (Step volume × PassView volume)) → written volume xs ≡ entries_of (map (λ (x : Step volume × PassView volume). x.0) xs)
written_of [] = refl
written_of (x ∷ xs) = ap (λ (l : List Entry). written_by volume x.0 ++ l) (written_of xs)

-- each entry was written by one of the two passes
count : (log : List Entry) → All (λ (e : Entry). (0 ≡ e.by) ⊎ (1 ≡ e.by)) log → length log ≡ length (entries_by volume 0 log) + length (entries_by volume 1 log)
count [] all = refl
count (e ∷ log) all = one (All-head (λ (x : Entry). (0 ≡ x.by) ⊎ (1 ≡ x.by)) e log all) (count log (All-tail (λ (x : Entry). (0 ≡ x.by) ⊎ (1 ≡ x.by)) e log all))
  where
    one : (0 ≡ e.by) ⊎ (1 ≡ e.by) → length log ≡ length (entries_by volume 0 log) + length (entries_by volume 1 log)
        → length (e ∷ log) ≡ length (entries_by volume 0 (e ∷ log)) + length (entries_by volume 1 (e ∷ log))
    one (inl is) rest = rw (eq-eqb e.by 0 (sym is)) (rw (ne_eqb e.by 1 (λ other. omega (arith, is, other))) (omega (arith, rest)))
    one (inr is) rest = rw (ne_eqb e.by 0 (λ other. omega (arith, is, other))) (rw (eq-eqb e.by 1 (sym is)) (omega (arith, rest)))

-- ## What a visit found

-- a run that begins with this step
first_step : (s : Step volume) (steps : List (Step volume)) (xs : List (Step volume × PassView volume)) → map (λ (x : Step volume × PassView volume). x.0) xs ≡ s ∷ steps
    → (c : PassView volume) × (rest : List (Step volume × PassView volume)) × (xs ≡ (s, c) ∷ rest) × (map (λ (x : Step volume × PassView volume). x.0) rest ≡ steps)
first_step s steps [] e = absurd (let short = ap length e in omega (arith, short))
first_step s steps (x ∷ xs) e =
    (x.1, xs, ap (λ (t : Step volume). (t, x.1) ∷ xs) (ap (λ (l : List (Step volume)). head_or s l) e), ap but_head e)
  where
    head_or : Step volume → List (Step volume) → Step volume
    head_or d [] = d
    head_or d (y ∷ ys) = y

    but_head : List (Step volume) → List (Step volume)
    but_head [] = []
    but_head (y ∷ ys) = ys

-- the view c after a step of a run, and the rest of the run
record After (journal : List Entry) (a : PassView volume) (s : Step volume) (steps : List (Step volume)) (z : PassView volume) : Type 0 where
  c : PassView volume
  leads : Leads volume a s c
  kept : IsKept volume journal a s
  rest : List (Step volume × PassView volume)
  named : map (λ (x : Step volume × PassView volume). x.0) rest ≡ steps
  run : AreSteps volume c rest z
  all : AreKept volume journal c rest

after : (journal : List Entry) (a : PassView volume) (s : Step volume) (steps : List (Step volume)) (xs : List (Step volume × PassView volume)) (z : PassView volume)
    → map (λ (x : Step volume × PassView volume). x.0) xs ≡ s ∷ steps → AreSteps volume a xs z → AreKept volume journal a xs → After journal a s steps z
after journal a s steps xs z e run kept =
    let f = first_step s steps xs e in
    let run_here : AreSteps volume a ((s, f.0) ∷ f.1) z = subst (λ (l : List (Step volume × PassView volume)). AreSteps volume a l z) f.2 run in
    let kept_here : AreKept volume journal a ((s, f.0) ∷ f.1) = subst (AreKept volume journal a) f.2 kept in
    record { c = f.0; leads = run_here.0; kept = kept_here.0; rest = f.1; named = f.3; run = run_here.1; all = kept_here.2 }

-- what is known about a visit that wrote entry e at the number n and found these nodes
record Visited (start : State) (journal : List Entry) (query : Formula) (seen : ℕ) (e : Entry) (n : ℕ) (nodes : List ℕ) : Type 0 where
  later : seen < n
  place : (i : ℕ) × (n ≡ suc i) × (slice_get journal i ≡ Some e)
  pin : ℕ
  late : n ≤ pin
  inside : pin ≤ length journal
  found : Nodes (Ok nodes) ≡ Nodes (scan (state_of volume start (take pin journal)) query)

abbrev some_or : ℕ → Option ℕ → ℕ
some_or d None = d
some_or d (Some n) = n

visited : (start : State) (journal : List Entry) (a : PassView volume) (k : ℕ) (ops : List Op) (n : ℕ) (dones : List Done) (query : Formula) (pin : ℕ) (nodes : List ℕ) (xs : List (Step volume × PassView volume))
    (z : PassView volume) → a.first ≡ start → map (λ (x : Step volume × PassView volume). x.0) xs ≡ visits k ops n dones query pin nodes → AreSteps volume a xs z → AreKept volume journal a xs
    → Visited start journal query (length a.seen) (record { by = k; ops = ops; dones = dones }) n nodes
visited start journal a k ops n dones query pin nodes xs z begun named run kept =
    let e : Entry = record { by = k; ops = ops; dones = dones } in
    let w = after journal a (Apply e n) (asks query pin nodes) xs z named run kept in
    let p = after journal w.c (Pin pin) (Read (λ s. Nodes (scan s query)) (Some (Nodes (Ok nodes))) ∷ Unpin ∷ []) w.rest z w.named w.run w.all in
    let r = after journal p.c (Read (λ s. Nodes (scan s query)) (Some (Nodes (Ok nodes)))) (Unpin ∷ []) p.rest z p.named p.run p.all in
    let long = ap (λ (v : PassView volume). length v.seen) w.leads.3 in
    let whole = length-append (a.seen ++ w.leads.0) (e ∷ []) in
    let parts = length-append a.seen w.leads.0 in
    let front = ap length p.kept.1.1 in
    let sides = length-append w.c.seen p.kept.1.0 in
    let cut = length-take-le pin journal p.kept.0 in
    let first_of : PassView volume → State = λ v. v.first in
    let same = ap first_of p.leads.1 ∙ (ap first_of w.leads.3 ∙ begun) in
    let at : r.kept.0 ≡ pin = ap (some_or pin) (sym r.kept.1 ∙ ap (λ (v : PassView volume). v.pin) p.leads.1) in record {
      later = omega (arith, w.leads.4, long, whole, parts);
      place = w.kept;
      pin = pin;
      late = omega (arith, w.leads.4, front, sides, cut);
      inside = p.kept.0;
      found = r.kept.2 ∙ (ap (λ (m : ℕ). Nodes (scan (state_of volume p.c.first (take m journal)) query)) at ∙ ap (λ (s : State). Nodes (scan (state_of volume s (take pin journal)) query)) same);
    }

abbrev nodes_in : Answer → Result (List ℕ) Refusal
nodes_in (Nodes r) = r
nodes_in other = Ok []

-- the later write's entry is the last, so the pin after it includes the whole journal
at_last : (start : State) (journal : List Entry) (query : Formula) (seen : ℕ) (e : Entry) (n : ℕ) (nodes : List ℕ) → length journal ≡ 3 → n ≡ 3 → Visited start journal query seen e n nodes → scan (state_of volume start journal) query ≡ Ok nodes
at_last start journal query seen e n nodes three last v =
    let late = v.late in
    let inside = v.inside in
    let whole : take v.pin journal ≡ journal = take_all v.pin journal (omega (arith, three, last, late)) in
    sym (ap (λ (l : List Entry). scan (state_of volume start l) query) whole) ∙ sym (ap nodes_in v.found)

abbrev by_of : ℕ → Option Entry → ℕ
by_of d None = d
by_of d (Some e) = e.by

-- entries of different passes have different numbers
other_place : (journal : List Entry) (n m : ℕ) (d e : Entry) → d.by ≢ e.by → (i : ℕ) × (n ≡ suc i) × (slice_get journal i ≡ Some d) → (j : ℕ) × (m ≡ suc j) × (slice_get journal j ≡ Some e) → n ≢ m
other_place journal n m d e apart (i, at, here) (j, there, its) same =
    let one : i ≡ j = omega (arith, at, there, same) in
    apart (ap (by_of 0) (sym here ∙ (ap (slice_get journal) one ∙ its)))

-- an entry's number is at most the journal's length
inside : (journal : List Entry) (n : ℕ) (e : Entry) → (i : ℕ) × (n ≡ suc i) × (slice_get journal i ≡ Some e) → n ≤ length journal
inside journal n e (i, at, here) = let within = slice_get_within journal i e here in omega (arith, at, within)

abbrev number_or : ℕ → List ℕ → ℕ
number_or d [] = d
number_or d (n ∷ ns) = n

abbrev steps_or : List (List (Step volume)) → List (Step volume)
steps_or [] = []
steps_or (x ∷ xs) = x

abbrev but_one : {A : Type 0} → List A → List A
but_one [] = []
but_one (x ∷ xs) = xs

module _ (journal : List Entry) (query : Formula) (begin ann bob : List Op) (g a b pin_a pin_b : ℕ) (begun signed_a signed_b : List Done) (found_a found_b : List ℕ) where
  abbrev first : List (Step volume)
  first = writes 0 begin g begun ++ visits 0 ann a signed_a query pin_a found_a

  abbrev second : List (Step volume)
  second = visits 1 bob b signed_b query pin_b found_b

  of_runs : (r s : PassRun volume) → r.number ≡ 0 → s.number ≡ 1 → steps_of volume r ≡ first → steps_of volume s ≡ second → IsOneHistory volume empty journal (r ∷ s ∷ []) → FindsAll journal query a b found_a found_b
  of_runs r s none one its others h =
      let authors : All (λ (e : Entry). (0 ≡ e.by) ⊎ (1 ≡ e.by)) journal =
      All-weaker (λ (e : Entry). HasRun volume (r ∷ s ∷ []) e.by) (λ (e : Entry). (0 ≡ e.by) ⊎ (1 ≡ e.by)) (λ e has. known e has) journal h.authors in
      let writes_r = All-head (λ (t : PassRun volume). entries_by volume t.number journal ≡ written volume t.steps) r (s ∷ []) h.writes in
      let writes_s = All-head (λ (t : PassRun volume). entries_by volume t.number journal ≡ written volume t.steps) s [] (All-tail (λ (t : PassRun volume). entries_by volume t.number journal ≡ written volume t.steps) r (s ∷ []) h.writes) in
      let two : length (entries_by volume 0 journal) ≡ 2 =
      ap (λ (k : ℕ). length (entries_by volume k journal)) (sym none) ∙ (ap length writes_r ∙ (ap length (written_of r.steps) ∙ ap (λ (l : List (Step volume)). length (entries_of l)) its)) in
      let single : length (entries_by volume 1 journal) ≡ 1 =
      ap (λ (k : ℕ). length (entries_by volume k journal)) (sym one) ∙ (ap length writes_s ∙ (ap length (written_of s.steps) ∙ ap (λ (l : List (Step volume)). length (entries_of l)) others)) in
      let three : length journal ≡ 3 = let sum = count journal authors in omega (arith, sum, two, single) in
      let kept_r = All-head (λ (t : PassRun volume). AreKept volume journal (first_view volume t.first t.number) t.steps) r (s ∷ []) h.kept in
      let kept_s = All-head (λ (t : PassRun volume). AreKept volume journal (first_view volume t.first t.number) t.steps) s [] (All-tail (λ (t : PassRun volume). AreKept volume journal (first_view volume t.first t.number) t.steps) r (s ∷ []) h.kept) in
      let w = after journal (first_view volume r.first r.number) (Apply (record { by = 0; ops = begin; dones = begun }) g) (visits 0 ann a signed_a query pin_a found_a) r.steps r.last its r.run kept_r in
      let begins_r = All-head (λ (t : PassRun volume). t.first ≡ empty) r (s ∷ []) h.begins in
      let begins_s = All-head (λ (t : PassRun volume). t.first ≡ empty) s [] (All-tail (λ (t : PassRun volume). t.first ≡ empty) r (s ∷ []) h.begins) in
      let va = visited empty journal w.c 0 ann a signed_a query pin_a found_a w.rest r.last (ap (λ (v : PassView volume). v.first) w.leads.3 ∙ begins_r) w.named w.run w.all in
      let vb = visited empty journal (first_view volume s.first s.number) 1 bob b signed_b query pin_b found_b s.steps s.last begins_s others s.run kept_s in
      let more = va.later in
      let seen = w.leads.4 in
      let low_a = inside journal a (record { by = 0; ops = ann; dones = signed_a }) va.place in
      let low_b = inside journal b (record { by = 1; ops = bob; dones = signed_b }) vb.place in
      let apart_a = other_place journal a b (record { by = 0; ops = ann; dones = signed_a }) (record { by = 1; ops = bob; dones = signed_b }) (λ e. omega (arith, e)) va.place vb.place in
      let apart_g = other_place journal g b (record { by = 0; ops = begin; dones = begun }) (record { by = 1; ops = bob; dones = signed_b }) (λ e. omega (arith, e)) w.kept vb.place in
      let some_g = w.kept.1 in
      let some_b = vb.place.1 in (
        three,
        apart_a,
        (λ lt. at_last empty journal query (length w.c.seen) (record { by = 0; ops = ann; dones = signed_a }) a found_a three
            (elim (cases_lt g b) [
              | inl below ↦ omega (arith, three, more, seen, low_a, lt, below, some_g)
              | inr above ↦ omega (arith, three, more, seen, low_a, lt, apart_g, above, some_b)
            ]) va),
        (λ lt. at_last empty journal query 0 (record { by = 1; ops = bob; dones = signed_b }) b found_b three (omega (arith, three, more, seen, low_b, lt, some_g)) vb),
      )
    where
      known : (e : Entry) → HasRun volume (r ∷ s ∷ []) e.by → (0 ≡ e.by) ⊎ (1 ≡ e.by)
      known e (inl is) = inl (sym none ∙ is)
      known e (inr (inl is)) = inr (sym one ∙ is)
      known e (inr (inr none_left)) = absurd none_left

  by_runs : (runs : List (PassRun volume)) → map (λ (r : PassRun volume). r.number) runs ≡ 0 ∷ 1 ∷ [] → map (steps_of volume) runs ≡ first ∷ second ∷ [] → IsOneHistory volume empty journal runs → FindsAll journal query a b found_a found_b
  by_runs [] numbers its h = absurd (let short = ap length numbers in omega (arith, short))
  by_runs (r ∷ []) numbers its h = absurd (let short = ap length numbers in omega (arith, short))
  by_runs (r ∷ s ∷ []) numbers its h =
      of_runs r s (ap (number_or 0) numbers) (ap (λ (l : List ℕ). number_or 0 (but_one l)) numbers) (ap steps_or its) (ap (λ (l : List (List (Step volume))). steps_or (but_one l)) its) h
  by_runs (r ∷ s ∷ t ∷ runs) numbers its h = absurd (let long = ap length numbers in omega (arith, long))

  pub finds_all : IsHistoryOf journal first second → FindsAll journal query a b found_a found_b
  finds_all h = by_runs h.0 h.1 h.2 h.3
