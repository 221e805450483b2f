-- A status, from the lock to the return of the call.
use Rattle.std.proofs.Common.{◌≡◌, ℕ, List, [], ◌∷◌, sym, ap, ◌∙◌, subst}
use Rattle.be_pages.specs.declared.page_pool.Place.{Place}
use Rattle.be_table.specs.Setting.{Setting as Limits}
use Rattle.be_table.specs.declared.pass.Knowledge.{Knowledge}
use Rattle.be_table.specs.declared.pass.Move.TheVariants.{Unlock}
use Rattle.be_table.specs.declared.status.Status.{Status}
use Rattle.be_table.specs.Place.{Work}
use Rattle.be_table.specs.Statuses.{FindsOldest, LieAt, Reports}
use Rattle.be_table.specs.Steps.{IsPass, scans_of, without_lock, with_history}
use Rattle.be_table.specs.Trace.{Makes}
use Rattle.be_table.specs.Works.{MakesScan, Moves, TakesLock}
use Rattle.be_store.specs.History.{Learns}
use Rattle.be_store.specs.Statuses.{ReportsStatus}
use Rattle.be_store.specs.Writing.{IsSame}
use Rattle.be_table.proofs.Worked.{works_scan}
use Rattle.be_store.proofs.Applied.{learns_same}

module _ (a : Knowledge) (o n : Work) (t : TakesLock a o.knows) (scan : (least : ℕ) × MakesScan o n least) where
  -- A scan leaves the pass unchanged.
  scanned_same : IsSame o.knows n.knows
  scanned_same = record { pass = ap (λ (x : Work). x.knows.number) scan.1.same; limits = ap (λ (x : Work). x.knows.limits) scan.1.same; pin = ap (λ (x : Work). x.knows.phase) scan.1.same }

  scanned_number : n.knows.number ≡ a.number
  scanned_number = scanned_same.pass ∙ ap (λ (k : Knowledge). k.number) t.same

  pub scan_learns : (c : Knowledge) → c ≡ without_lock (with_history n.knows c.history) → IsPass c → Moves n.knows (Unlock n.knows.number ∷ []) c → Learns a c
  scan_learns c is pass unlocked =
      learns_same a o.knows t n.knows c (ap (λ (x : Work). x.knows.seen) scan.1.same) scanned_same is pass
      (works_scan o.knows.limits o.knows.number o.knows.history n.knows.history scan.1.moves) unlocked

  pub scan_reports : (c : Knowledge) (s : Status) → FindsOldest o.knows.limits o.knows.number o.knows.history n.knows.history s.oldest → LieAt o.knows.limits n.knows.history n.knows.places → Reports n.knows s
      → c ≡ without_lock (with_history n.knows c.history) → Moves n.knows (Unlock n.knows.number ∷ []) c → ReportsStatus a c s
  scan_reports c s oldest places reports is unlocked =
      let number : o.knows.number ≡ a.number = ap (λ (k : Knowledge). k.number) t.same in
      let limits : o.knows.limits ≡ a.limits = ap (λ (k : Knowledge). k.limits) t.same in record {
        reports = subst (λ (k : Knowledge). Reports k s) (sym is) (record { pages = reports.pages; free = reports.free; retired = reports.retired; entries = reports.entries; commits = reports.commits });
        locked = o.knows.history;
        scanned = n.knows.history;
        lock = t.moves.made;
        scans = subst (λ (p : ℕ × Limits). Makes p.0 o.knows.history (scans_of p.0 p.1.passes) n.knows.history) (λ k. (number k, limits k)) scan.1.moves;
        unlock = subst (λ k. Makes k n.knows.history (Unlock k ∷ []) c.history) scanned_number unlocked.made;
        at = unlocked.at;
        places = subst (λ (p : Limits × List Place). LieAt p.0 n.knows.history p.1) (λ k. (limits k, sym (ap (λ (x : Knowledge). x.places) is) k)) places;
        oldest = subst (λ (p : Limits × ℕ). FindsOldest p.0 p.1 o.knows.history n.knows.history s.oldest) (λ k. (limits k, number k)) oldest;
      }
