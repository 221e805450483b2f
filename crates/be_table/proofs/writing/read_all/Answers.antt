use Rattle.std.proofs.Common.{◌≡◌, ◌≢◌, ℕ, List, suc, true, ◌+◌, [], ◌∷◌, ◌++◌, refl, sym, ap, ◌∙◌, subst, arith, length-append}
use Rattle.be_table.specs.declared.pass.Move.TheVariants.{Scan}
use Rattle.be_table.specs.Rule.{Reaches, announce_word, pass_of}
use Rattle.be_table.specs.Steps.{IsLowestAnnounced, IsPart, scans, scans_of, with_history}
use Rattle.be_table.specs.Trace.{Makes}
use Rattle.be_pages.specs.Place.{place_of}
use Rattle.be_pages.specs.declared.page_pool.Place.{Place}
use Rattle.be_pages.specs.declared.page_pool.Place.TheVariants.{Free}
use Rattle.be_table.specs.Working.{MakesForReason}
use Rattle.be_table.proofs.Traces.{makes_more}
use Rattle.be_table.proofs.Worked.{reasons_more}
use Rattle.be_table.proofs.Scans.{Me3, scans_history, scans_limits, found_more, found_now, makes_starts, IsOwnPart, me_next, part_none, part_step, lowest_none, lowest_more, own_none, own_step, own_all, found_own}
use Rattle.be_table.specs.Setting.{Setting as Limits}
use Rattle.be_table.specs.Statuses.{LieAt}
use Rattle.be_table.proofs.Statuses.{oldest_none, lies_at, scans_writes}
use Rattle.be_table.proofs.writing.read_all.Goals as goal

pub loop-pass-init : goal.loop-pass-init
loop-pass-init c =
    let r = c.requires.pass in let m = c.args.base.now.me in let a = pass_of m.0 in record {
      table = refl;
      id = refl;
      me = ([], refl, (λ k. (r.0 k, m.1)), lowest_none c.args.current, (λ j lt. absurd (omega (arith, lt))), oldest_none);
      moves = refl;
      reasons = λ none. refl;
      part = part_none c.args.table.now.limits.passes a c.args.current (omega (arith, r.4)) r.3 c.requires.current.1;
      own = own_none a c.args.current c.requires.current.1;
      places = λ some. absurd (omega (arith, some));
    }

pub loop-pass-preserved : goal.loop-pass-preserved
loop-pass-preserved c =
    let i = c.loop-pass.invariant in let r = c.read_announcement-found in
    let a = pass_of c.args.base.now.me.0 in
    let s = pass_of c.loop-pass.base.me.0 in
    let q = pass_of r.new.base.me.0 in
    let turn : s.scanned ≡ c.loop-pass.pass = i.part.turn (omega arith) in
    let number : s.number ≡ a.number = ap (λ x. x.number) i.part.same in
    let after : q ≡ scans (with_history s q.history) r.result = ap (λ (x : Me3). pass_of x.0) r.ensures.me in
    let limits : q.limits ≡ a.limits = ap (λ x. x.limits) (after ∙ scans_history s r.result q.history) ∙ scans_limits s r.result ∙ ap (λ x. x.limits) i.part.same in
    let one : Makes a.number s.history (Scan a.number c.loop-pass.pass ∷ []) q.history = subst (λ (p : ℕ × ℕ). Makes p.0 s.history (Scan p.0 p.1 ∷ []) q.history) (λ k. (number k, turn k)) r.ensures.moves in
    let writes : q.writes ≡ true = ap (λ x. x.writes) (after ∙ scans_history s r.result q.history) ∙ scans_writes s r.result ∙ ap (λ x. x.writes) i.part.same ∙ c.requires.pass.1 in
    let found = subst (λ j. Reaches q (λ w. r.result ≡ announce_word (w.phases j))) turn r.ensures.found in
    let next : suc c.loop-pass.pass ≡ c.loop-pass.pass + 1 = omega arith in
    record {
      table = r.ensures.seat.0 ∙ i.table;
      id = r.ensures.seat.1 ∙ i.id;
      me = (
        i.me.0 ++ r.result ∷ [],
        length-append i.me.0 (r.result ∷ []) ∙ ap (λ n. n + 1) i.me.1,
        me_next a i.me.0 r.result c.loop-pass.base.me r.new.base.me c.args.base.now.me i.me.2 r.ensures.me,
        subst (IsLowestAnnounced c.args.current (i.me.0 ++ r.result ∷ [])) (sym c.lower-least.ensures) (lowest_more c.args.current i.me.0 c.loop-pass.least r.result i.me.3),
        found_more a.limits a.number c.loop-pass.pass a.history s.history q.history i.me.0 r.result i.me.1 i.me.4 (makes_starts a.number s.history (Scan a.number c.loop-pass.pass ∷ []) q.history one)
            (found_now a.limits a.number c.loop-pass.pass r.result a.history s.history q limits i.moves one found),
        c.older-oldest.ensures i.me.0 i.me.1 i.me.5,
      );
      moves = subst (λ j. Makes a.number a.history (scans_of a.number j) q.history) next (makes_more a.number a.history (scans_of a.number c.loop-pass.pass) s.history (Scan a.number c.loop-pass.pass ∷ []) q.history i.moves one);
      reasons = λ none.
          let known : (p : ℕ) → place_of s.places p ≢ Free = subst (λ (ps : List Place). (p : ℕ) → place_of ps p ≢ Free) (sym (i.part.waits (omega arith))) none in
          let more : MakesForReason a.limits a.number s.history (Scan a.number c.loop-pass.pass ∷ []) q.history =
          subst (λ (p : Limits × ℕ × ℕ). MakesForReason p.0 p.1 s.history (Scan p.1 p.2 ∷ []) q.history) (λ k. (ap (λ x. x.limits) i.part.same k, number k, turn k)) (r.ensures.reason known) in
          subst (λ j. MakesForReason a.limits a.number a.history (scans_of a.number j) q.history) next
          (reasons_more a.limits a.number a.history (scans_of a.number c.loop-pass.pass) s.history (Scan a.number c.loop-pass.pass ∷ []) q.history (i.reasons none) more);
      part = subst (IsPart c.args.table.now.limits.passes a (pass_of r.new.base.me.0) (c.loop-pass.pass + 1)) (sym c.lower-least.ensures)
          (part_step c.args.table.now.limits.passes a c.loop-pass.base.me r.new.base.me c.loop-pass.pass c.loop-pass.least r.result (omega arith) (ap (λ l. l.passes) c.requires.current.0) i.part r.ensures.me r.ensures.leaves);
      own = subst (IsOwnPart a (c.loop-pass.pass + 1)) (sym c.lower-least.ensures)
          (own_step a c.loop-pass.pass c.loop-pass.least r.result i.own (λ mine. found_own c.args.table.now.limits.passes a (pass_of c.loop-pass.base.me.0) c.loop-pass.pass c.loop-pass.least r.result (omega arith) i.part r.ensures.own mine));
      places = λ _. subst (λ (l : Limits). LieAt l q.history q.places) limits (lies_at q _ writes r.ensures.found);
    }

pub returns-clause-own : goal.returns-clause-own
returns-clause-own c = own_all (pass_of c.args.base.now.me.0) c.args.table.now.limits.passes c.loop-pass.least (ap (λ l. l.passes) c.requires.current.0) c.requires.number (subst (λ n. IsOwnPart (pass_of c.args.base.now.me.0) n c.loop-pass.least) (omega arith) c.loop-pass.invariant.own)

pub returns-clause-oldest : goal.returns-clause-oldest
returns-clause-oldest c =
    let i = c.loop-pass.invariant in let passes = ap (λ (l : Limits). l.passes) c.requires.current.0 in
    record { found = i.me.0; each = omega (arith, i.me.1, passes); by_scans = i.me.4; oldest = i.me.5 }

pub returns-clause-places : goal.returns-clause-places
returns-clause-places c = c.loop-pass.invariant.places (omega (arith, c.requires.number))

pub returns-clause-reasons : goal.returns-clause-reasons
returns-clause-reasons c none =
    let a = pass_of c.args.base.now.me.0 in let i = c.loop-pass.invariant in
    let all : c.loop-pass.pass ≡ c.args.table.now.limits.passes = omega arith in
    subst (λ j. MakesForReason a.limits a.number a.history (scans_of a.number j) (pass_of c.loop-pass.base.me.0).history) all (i.reasons none)
