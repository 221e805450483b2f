use Rattle.std.proofs.Common.{ℕ, List, [], Some, ap, sym, subst, ◌∙◌}
use Rattle.std.specs.Option.{option_copied}
use Rattle.be_query.specs.Grammar.{Formula}
use Rattle.be_value.specs.declared.values.Kind.{Kind}
use Rattle.be_value.specs.declared.values.Kind.TheVariants as kinds
use Rattle.be_plan.specs.Prepared.{Decides}
use Rattle.be_plan.specs.Walk.{AreAllOn, HasOnly}
use Rattle.be_plan.proofs.Decided.{decided_scan}
use Rattle.be_paged_reading.specs.Entry.{Entry}
use Rattle.be_paged_reading.specs.Page.{contents_of}
use Rattle.be_paged_reading.proofs.IndexEntries.Indexing.{kind_found}
use Rattle.be_paged_reading.proofs.Versions.{version_since}
use Rattle.be_paged_reading.proofs.prepared.answer_decided.Goals as goal

nowhere : Entry
nowhere = record { name = []; kind = kinds.Cstr; root = 0 }

pub nodes_of-requires-clause-version : goal.nodes_of-requires-clause-version
nodes_of-requires-clause-version g c =
    let since = c.meet_index.ensures.unchanged in (
      c.requires.version.0,
      version_since (g.L.Look.page_state c.args.look.now) (g.L.Look.page_state c.meet_index.new.look) (g.L.Look.words c.args.look.now) (g.L.Look.words c.meet_index.new.look)
          c.args.version_page c.requires.version.0 since.page_state since.words c.requires.version.1,
    )

pub returns-clause-answer : goal.returns-clause-answer
returns-clause-answer g c = λ _ volume of.
    let w = g.L.Look.words c.meet_index.new.look in
    let since = c.meet_index.ensures.unchanged in
    let version = version_since (g.L.Look.page_state c.args.look.now) (g.L.Look.page_state c.meet_index.new.look) (g.L.Look.words c.args.look.now) w c.args.version_page volume since.page_state since.words of in
    let f = c.args.prepared.now in
    let keys = c.in-Some-keys_for.keys in
    let name = keys.name.now in
    let low = keys.low.now in
    let high = option_copied keys.high in
    let index = c.in-Some.index in
    let found = c.nodes_of.new.found.items in
    let on : AreAllOn f name = subst (λ (q : Formula). AreAllOn q name) c.meet_index.ensures.same c.in-Some-keys_for.ensures.on in
    let decides : Decides f index.kind low high = subst (λ (q : Formula). Decides q index.kind low high) c.meet_index.ensures.same c.in-Some-keys_for.ensures.decides in
    let there = c.in-Some.ensures.found name on in
    let is_kind = ap (λ (k : Kind). Some k) (there.kind nowhere)
    ∙ kind_found w (contents_of (w c.args.version_page)).entries volume.indices name index.place nowhere version.encodes.indices there.named in
    let only : HasOnly volume name low high [] found = subst (λ (l : List ℕ). HasOnly volume name low high l found) c.clear.ensures.items (c.in_ok-nodes_of.ensures.only volume version) in
    decided_scan volume f name index.kind low high found c.put_in_order.new.numbers.items version.sound on (sym is_kind) decides only
    (c.in_ok-nodes_of.ensures.has volume version) c.in_ok-put_in_order.ensures.rising c.in_ok-put_in_order.ensures.keeps c.in_ok-put_in_order.ensures.only
