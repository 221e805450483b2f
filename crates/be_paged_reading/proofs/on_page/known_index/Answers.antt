use Rattle.std.proofs.Common.{ℕ, Some, sym, subst}
use Rattle.be_pages.specs.declared.room.PageState.{PageState}
use Rattle.be_paged_reading.specs.Page.{contents_of}
use Rattle.be_paged_reading.specs.Source.{IsFound, IsKnown, IsIndexOf}
use Rattle.be_paged_reading.specs.Version.{IsVersion}
use Rattle.be_paged_reading.proofs.Stored.PageIndices.{of_known}
use Rattle.be_paged_reading.proofs.on_page.known_index.Goals as goal

pub is_named-requires-clause-in_range : goal.is_named-requires-clause-in_range
is_named-requires-clause-in_range g c = (of_known (contents_of (g.L.Look.words c.args.look.now c.args.page)).entries c.args.known.now c.in-Some.last c.in-Some.is c.requires.known).in_range

pub returns-then-is_named-clause-found : goal.returns-then-is_named-clause-found
returns-then-is_named-clause-found g c =
    let page = c.args.page in
    let name = c.args.name.now in
    let last = c.in-Some.last in
    let of : IsIndexOf (contents_of (g.L.Look.words c.args.look.now page)).entries last =
    of_known (contents_of (g.L.Look.words c.args.look.now page)).entries c.args.known.now last c.in-Some.is c.requires.known in
    subst (λ (u : ℕ → ℕ → ℕ). IsFound (contents_of (u page)).entries name (Some last)) (sym c.is_named.ensures.unchanged.words)
    (record { named = c.is_named.ensures.named c.if-is_named.true; kind = of.kind; root = of.root; absent = tt })

pub returns-then-is_named-clause-known : goal.returns-then-is_named-clause-known
returns-then-is_named-clause-known g c =
    subst (λ (u : ℕ → ℕ → ℕ). IsKnown (contents_of (u c.args.page)).entries c.args.known.now) (sym c.is_named.ensures.unchanged.words) c.requires.known

pub find_to_know-requires-2 : goal.find_to_know-requires-2
find_to_know-requires-2 g c =
    let volume = c.requires.version.0 in
    let page = c.args.page in
    let words : IsVersion (g.L.Look.page_state c.args.look.now) (g.L.Look.words c.is_named.new.look) page volume =
    subst (λ (u : ℕ → ℕ → ℕ). IsVersion (g.L.Look.page_state c.args.look.now) u page volume) (sym c.is_named.ensures.unchanged.words) c.requires.version.1 in
    record { version = (volume, subst (λ (s : ℕ → PageState). IsVersion s (g.L.Look.words c.is_named.new.look) page volume) (sym c.is_named.ensures.unchanged.page_state) words) }
