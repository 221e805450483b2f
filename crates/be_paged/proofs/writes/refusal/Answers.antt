use Rattle.std.proofs.Common.{◌≡◌, ℕ, None, ap, sym, subst, rules}
use Rattle.std.specs.declared.option.Option.{Option}
use base.Fml.{GName}
use Rattle.be_pages.specs.declared.room.PageState.{PageState}
use Rattle.be_paged_reading.specs.Facts.{AnswersFor, FactsOf}
use Rattle.be_paged_reading.specs.Page.{contents}
use Rattle.be_paged_reading.specs.Place.{IsAsked}
use Rattle.be_paged_reading.specs.declared.asked.Asked.{Asked}
use Rattle.be_paged.proofs.writes.refusal.Goals as goal

pub first_refusal-requires : goal.first_refusal-requires
first_refusal-requires g c =
    let s = g.L.Look.page_state c.args.look.now in
    let w = g.L.Look.words c.args.look.now in
    let reported : AnswersFor s w (contents c.args.version.now) g.volume = search rules in
    let asked : IsAsked s w c.args.version.now.catalog c.args.asked.now = search rules in
    let of : FactsOf s w (contents c.args.version.now) None c.args.asked.now g.volume = record { reported = reported; counted_is = tt; asked_is = asked } in
    λ k o. (search (rules, o) fits 20000 depth 60, (of, search rules))

since : {S : Type 0} (P : S → Option Asked → Type 0) (x : S) (a : Option Asked) (y : S) (b : Option Asked) → y ≡ x → b ≡ a → P x a → P y b
since P x a y b p q h = subst (λ z. P z b) (sym p) (subst (λ d. P x d) (sym q) h)

pub returns-clause-asked : goal.returns-clause-asked
returns-clause-asked g c =
    let facts = c.first_refusal.new.facts in
    let stays = c.first_refusal.ensures.stays in
    let names = ap (λ (kept : (GName × GName) × (g.L.Look.Kept × ((ℕ → PageState) × ((ℕ → ℕ → ℕ) × ℕ)))). kept.0) stays in
    let root = ap (λ (kept : (GName × GName) × (g.L.Look.Kept × ((ℕ → PageState) × ((ℕ → ℕ → ℕ) × ℕ)))). kept.1.1.1.1) stays in
    let reported : IsAsked (g.L.Look.page_state facts.look.now) (g.L.Look.words facts.look.now) c.args.version.now.catalog facts.asked.now =
    subst (λ (r : ℕ). IsAsked (g.L.Look.page_state facts.look.now) (g.L.Look.words facts.look.now) r facts.asked.now) root c.first_refusal.ensures.answers.asked_is in
    since (λ look asked. IsAsked (g.L.Look.page_state look) (g.L.Look.words look) c.args.version.now.catalog asked) facts.look.now facts.asked.now _ _ (search (rules, names)) (search (rules, names)) reported
