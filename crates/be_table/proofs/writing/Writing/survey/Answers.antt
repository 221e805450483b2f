use Rattle.std.proofs.Common.{ℕ, length, map, arith, refl, sym, ap, ◌∙◌, subst}
use Rattle.std.proofs.lemmas.List.{length-map}
use Rattle.be_pages.specs.Place.{swept_place}
use Rattle.be_table.specs.Setting.{Setting as Limits}
use Rattle.be_table.specs.declared.pass.Knowledge.{Knowledge}
use Rattle.be_table.specs.Rule.{alone, pass_of}
use Rattle.be_table.specs.Steps.{scans_of}
use Rattle.be_table.specs.Trace.{Makes}
use Rattle.be_table.specs.Working.{HasWorked, MakesForReason}
use Rattle.be_table.specs.Works.{HasNoFree, HasReasonToScan}
use Rattle.be_table.specs.Writes.{work_of}
use Rattle.be_table.proofs.Opened.{reopened}
use Rattle.be_table.proofs.PageStates.{none_past}
use Rattle.be_table.proofs.Worked.{worked_scan}
use Rattle.be_table.proofs.writing.Writing.survey.Goals as goal

pub invariant_of-self : goal.invariant_of-self
invariant_of-self c =
    let i = c.self.invariant in let w = c.self.inside in let a = pass_of w.base.me.0 in
    let r = c.read_all-found.ensures in let s : Knowledge = pass_of c.read_all-found.new.base.me.0 in
    let part = r.part in let whole = part.whole refl in
    let z = ap (λ m. pass_of m.0) r.me.2 in
    let words = ap (λ (x : Knowledge). x.words) part.same in
    let passes = ap (λ l. l.passes) i.limits_are in
    reopened w _ s i refl refl refl c.sweep.ensures.kept.0 c.sweep.ensures.kept.1 r.seat.0 (r.me.2 ∙ (λ k. (alone (sym z k), ap (λ m. m.1) i.me_is k)))
    (part.same ∙ ap (λ ws. record a { scanned = s.scanned; least = s.least; places = s.places; words = ws; held = s.held; steps = s.steps; history = s.history }) (sym words))
    whole.0 (ap length words) (ap length whole.1 ∙ length-map a.places (swept_place c.read_all-found.result.least)) (c.sweep.ensures.kept.2 ∙ ap (map (swept_place c.read_all-found.result.least)) i.places ∙ sym whole.1) (let left = c.sweep.ensures.left in omega (arith, left))
    (λ unpublished. subst (λ (x : Limits × ℕ). HasWorked x.0 x.1 s.history) (λ n. (sym (ap (λ (x : Knowledge). x.limits) part.same) n, sym (ap (λ (x : Knowledge). x.number) part.same) n))
    (worked_scan a.limits a.number a.history s.history (HasNoFree (work_of w)) (subst HasReasonToScan (sym c.self.view_is) c.requires.reason)
    (subst (λ n. Makes a.number a.history (scans_of a.number n) s.history) (sym passes) r.moves)
    (λ none. subst (λ n. MakesForReason a.limits a.number a.history (scans_of a.number n) s.history) (sym passes) (r.reasons (none_past a.places none)))
    (i.worked (sym (ap (λ (x : Knowledge). x.published) part.same) ∙ unpublished))))

pub read_all-found-requires-clause-number : goal.read_all-found-requires-clause-number
read_all-found-requires-clause-number c = let i = c.self.invariant in let e = ap (λ l. l.passes) i.limits_are in let below = i.pass.number_below in omega arith
