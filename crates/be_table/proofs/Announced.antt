-- What a write that found no page knows: the pages that it still holds, and which pass had
-- announced the lowest number.
use Rattle.std.proofs.Common.{◌≡◌, ℕ, suc, Bool, true, false, if◌then◌else◌, List, [], ◌∷◌, length, refl, sym, ap, ◌∙◌, subst, inl, inr, ⊎_elim, arith}
use Rattle.std.specs.Prelude.{IsTrue}
use Rattle.std.specs.List.{list_any}
use Rattle.std.proofs.lemmas.Bool.{cases_lt}
use Rattle.std.proofs.lemmas.List.{get_or_default}
use Rattle.be_core.specs.Machine.{has}
use Rattle.be_pages.specs.declared.page_pool.Place.{Place}
use Rattle.be_pages.specs.declared.page_pool.Place.TheVariants.{Free, Reserved, Filled, Current, GivenUp, Retired}
use Rattle.be_pages.specs.Place.{is_in_hand, place_of, swept_place}
use Rattle.be_table.specs.Setting.{Setting as Limits}
use Rattle.be_table.specs.declared.pass.Knowledge.{Knowledge}
use Rattle.be_table.specs.declared.pass.Move.{Move}
use Rattle.be_table.specs.declared.pass.Move.TheVariants.{Unlock}
use Rattle.be_table.specs.History.{StartsWith}
use Rattle.be_table.specs.Place.{Work}
use Rattle.be_table.specs.Reading.{StaysOpen}
use Rattle.be_table.specs.Steps.{FoundAt, scans_of, with_history, without_lock}
use Rattle.be_table.specs.Trace.{Makes, RunsTo, is_lock_of, upto_lock}
use Rattle.be_table.specs.Works.{HadAnnounced, HoldsStill, IsSpent, MakesScan, WasAnnounced}
use Rattle.be_table.proofs.Frames.{starts_before}
use Rattle.be_table.proofs.WriterStates.{place-map}
use Rattle.be_table.proofs.Listed.{listed, tested, untested}
use Rattle.be_table.proofs.Scans.{makes_starts}
use Rattle.be_table.proofs.Worked.{scan_kept, upto_one}

-- a sweep leaves alone the pages that the write holds
still_in_hand : (l : ℕ) (x : Place) → IsTrue (is_in_hand x) → IsTrue (is_in_hand (swept_place l x))
still_in_hand l Free h = h
still_in_hand l Reserved h = refl
still_in_hand l Filled h = refl
still_in_hand l Current h = h
still_in_hand l GivenUp h = h
still_in_hand l (Retired r) h = absurd (none h)
  where
    none : false ≡ true → ⊥
    none e = cc

-- the pages that a write holds at a whole scan are still held immediately after it
pub held_still : (old new : Work) (least : ℕ) → MakesScan old new least → HoldsStill new.knows
held_still old new least h p held =
    let was : is_in_hand (place_of old.knows.places p) ≡ true = elim (cases_lt p (length old.knows.places)) [
      | inl lt ↦ sym (tested is_in_hand old.knows.places p lt) ∙ sym (listed is_in_hand old.knows.places p) ∙ sym (ap (λ l. has l p) h.held) ∙ held
      | inr le ↦ absurd (let none : false ≡ true = sym (untested is_in_hand old.knows.places p le) ∙ sym (listed is_in_hand old.knows.places p) ∙ sym (ap (λ l. has l p) h.held) ∙ held in cc)
    ] in
    let same : place_of new.knows.places p ≡ swept_place least (place_of old.knows.places p) = ap (λ l. place_of l p) h.places ∙ place-map (swept_place least) refl old.knows.places p in
    subst (λ (x : Place). IsTrue (is_in_hand x)) (sym same) (still_in_hand least (place_of old.knows.places p) was)

-- a history extends the part up to its last lock
upto_front : (k : ℕ) (h : List Move) → StartsWith h (upto_lock k h)
upto_front k [] = ([], refl)
upto_front k (m ∷ ms) = by (list_any (is_lock_of k) (m ∷ ms)) (upto_front k ms)
  where
    by : (b : Bool) → StartsWith ms (upto_lock k ms) → StartsWith (m ∷ ms) (if b then m ∷ upto_lock k ms else [])
    by true rest = (rest.0, ap (λ (l : List Move). m ∷ l) rest.1)
    by false rest = (m ∷ ms, refl)

-- what one reader slot of a whole scan contained
found_since : (old new : Work) (least j word : ℕ) → MakesScan old new least → FoundAt old.knows.limits old.knows.number old.knows.history new.knows.history j word → word ≡ suc least → HadAnnounced new.knows j least
found_since old new least j word h f e =
    let limits : new.knows.limits ≡ old.knows.limits = ap (λ (w : Work). w.knows.limits) h.same in
    let begun : upto_lock new.knows.number new.knows.history ≡ upto_lock old.knows.number old.knows.history = ap (λ (o : StaysOpen). o.begun) (scan_kept old new least h) in
    record {
      upto = f.upto;
      front = f.front;
      since = subst (StartsWith f.upto) (sym begun) (starts_before f.upto old.knows.history (upto_lock old.knows.number old.knows.history)
          (makes_starts old.knows.number old.knows.history (scans_of old.knows.number (suc j)) f.upto f.scans) (upto_front old.knows.number old.knows.history));
      words = f.words;
      world = f.world;
      runs = subst (λ (l : Limits). RunsTo l f.words f.upto f.world) (sym limits) f.runs;
      reported = sym f.found ∙ e;
    }

-- the lowest number of a whole scan is the current number, or had been announced
pub was_announced : (old new : Work) (least : ℕ) → MakesScan old new least → WasAnnounced new.knows least
was_announced old new least h =
    let seen : length new.knows.seen ≡ length old.knows.seen = ap (λ (w : Work). length w.knows.seen) h.same in
    let passes : new.knows.limits.passes ≡ old.knows.limits.passes = ap (λ (w : Work). w.knows.limits.passes) h.same in
    let found = h.by.0 in
    let count = h.by.1 in
    ⊎_elim (λ e. inl (e ∙ sym seen))
    (λ m. inr (m.0, (let lt = m.1 in omega arith), found_since old new least m.0 _ h (h.by.4 m.0 m.1) (get_or_default found m.0 0 (suc least) m.1 ∙ m.2)))
    h.by.3.one

-- a write that gives the lock back still knows what it knew
pub spent_unlocked : (v c : Knowledge) (least : ℕ) → c ≡ without_lock (with_history v c.history) → Makes v.number v.history (Unlock v.number ∷ []) c.history → IsSpent v least → IsSpent c least
spent_unlocked v c least is moves s =
    subst (λ (k : Knowledge). IsSpent k least) (sym is) (
      s.0,
      s.1,
      s.2,
      ⊎_elim inl (λ x. inr (
        x.0,
        x.1,
        record {
          upto = x.2.upto;
          front = starts_before c.history v.history x.2.upto (makes_starts v.number v.history (Unlock v.number ∷ []) c.history moves) x.2.front;
          since = subst (StartsWith x.2.upto) (sym (upto_one v.number v.history c.history (Unlock v.number) refl moves)) x.2.since;
          words = x.2.words;
          world = x.2.world;
          runs = x.2.runs;
          reported = x.2.reported;
        },
      )) s.3,
    )
