-- What is known about a pass after it has scanned, and after it has published.
use Rattle.std.proofs.Common.{◌≡◌, ◌≢◌, ℕ, zero, suc, List, [], ◌∷◌, ◌++◌, true, false, refl, sym, ap, ◌∙◌, subst}
use Rattle.be_journal.specs.declared.entries.Entry.{Entry}
use Rattle.be_pages.specs.Place.{place_of}
use Rattle.be_pages.specs.declared.page_pool.Place.{Place}
use Rattle.be_pages.specs.declared.page_pool.Place.TheVariants.{Free, Reserved, Filled, Current, GivenUp, Retired}
use Rattle.be_table.specs.Setting.{Setting as Limits}
use Rattle.be_table.specs.declared.pass.Knowledge.{Knowledge}
use Rattle.be_table.specs.declared.pass.Move.{Move}
use Rattle.be_table.specs.declared.pass.Move.TheVariants.{Scan, Publish}
use Rattle.be_table.specs.Rule.{alone, Reaches, announce_word, pass_of}
use Rattle.be_table.specs.Steps.{IsPass, publishes, given_of, NoneRetiredLater, scans, ScanMoves, PublishMoves, with_history}
use Rattle.be_table.specs.WriterState.{shows_free}
use Rattle.be_table.specs.Trace.{Makes}
use Rattle.be_table.specs.Working.{HasNoneFree, HasReason, MakesForReason}
use Rattle.be_table.specs.Works.{Moves}
use Rattle.be_table.proofs.Frames.{Me1}
use Rattle.be_table.proofs.PinMarks.{any}
use Rattle.be_table.proofs.Scans.{scans_history}

-- one reader slot is read
pub scan_makes : (n : ℕ) (me r : Me1) → ScanMoves any me n r → let a = pass_of me.0 in let c = pass_of r.0 in
    (r ≡ (alone (scans (with_history a c.history) n), me.1)) × Makes a.number a.history (Scan a.number a.scanned ∷ []) c.history × Reaches c (λ w. n ≡ announce_word (w.phases a.scanned))
scan_makes n me r t =
    let a = pass_of me.0 in
    let k : pass_of r.0 ≡ scans (with_history a t.0) n = ap (λ (m : Me1). pass_of m.0) t.3.0.0 in
    let h : (pass_of r.0).history ≡ t.0 = ap (λ (x : Knowledge). x.history) (k ∙ scans_history a n t.0) in
    (t.3.0.0 ∙ (λ j. (alone (scans (with_history a (sym h j)) n), me.1)), subst (Makes a.number a.history (Scan a.number a.scanned ∷ [])) (sym h) t.1, t.2)

-- a scan has its reason if the pass knows of no free page
pub scan_reason : (n : ℕ) (me r : Me1) → ScanMoves any me n r → let a = pass_of me.0 in a.writes ≡ true → ((p : ℕ) → place_of a.places p ≢ Free) → MakesForReason a.limits a.number a.history (Scan a.number a.scanned ∷ []) (pass_of r.0).history
scan_reason n me r t writes none =
    let a = pass_of me.0 in let s = t.3.1 in
    let k : pass_of r.0 ≡ scans (with_history a t.0) n = ap (λ (m : Me1). pass_of m.0) t.3.0.0 in
    let h : (pass_of r.0).history ≡ t.0 = ap (λ (x : Knowledge). x.history) (k ∙ scans_history a n t.0) in (
      s.others,
      s.none,
      reason a.limits a.number a.scanned (a.history ++ s.others) (record { words = s.words; world = s.world; runs = s.runs; none = λ p. (s.known.shown writes).free p ∙ unfree (place_of a.places p) (none p) }),
      h ∙ s.ends,
    )
  where
    reason : (limits : Limits) (k j : ℕ) (before : List Move) → HasNoneFree limits before → HasReason limits before (Scan k j)
    reason limits k zero before x = x
    reason limits k (suc j) before x = tt

    unfree : (x : Place) → x ≢ Free → shows_free x ≡ false
    unfree Free n = absurd (n refl)
    unfree Reserved n = refl
    unfree Filled n = refl
    unfree Current n = refl
    unfree GivenUp n = refl
    unfree (Retired r) n = refl

-- the version is published
pub publish_makes : (by : Entry) (v : ℕ) (me r : Me1) → PublishMoves by v any me 0 r → let a = pass_of me.0 in let c = pass_of r.0 in
    (r ≡ (alone (publishes (with_history a c.history) by v), me.1)) × Moves a (Publish a.number v (given_of a) ∷ []) c × IsPass c × NoneRetiredLater a
publish_makes by v me r t =
    let a = pass_of me.0 in
    let k : pass_of r.0 ≡ publishes (with_history a t.0) by v = ap (λ (m : Me1). pass_of m.0) t.3.0 in
    let h : (pass_of r.0).history ≡ t.0 = ap (λ (x : Knowledge). x.history) k in
    (t.3.0 ∙ (λ j. (alone (publishes (with_history a (sym h j)) by v), me.1)), record { made = subst (Makes a.number a.history (Publish a.number v (given_of a) ∷ [])) (sym h) t.1; at = t.2 }, subst IsPass (sym k) t.3.1, t.3.2)
