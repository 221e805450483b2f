use Rattle.std.proofs.Common.{ℕ, List, Some, subst}
use Rattle.be_paged_reading.specs.Page.{contents_of}
use Rattle.be_paged_reading.specs.Source.{IsFound}
use Rattle.be_plan.proofs.Decided.{same_name}
use Rattle.be_paged_reading.proofs.Versions.{version_since}
use Rattle.be_paged_reading.proofs.prepared.meet_index.Goals as goal

pub known_index-requires : goal.known_index-requires
known_index-requires g c =
    let s = g.L.Look.page_state c.args.look.now in
    let w = g.L.Look.words c.args.look.now in
    let since = c.index_there-known.ensures.unchanged in
    record {
      version = (c.requires.version.0, version_since s (g.L.Look.page_state c.index_there-known.new.look) w (g.L.Look.words c.index_there-known.new.look) c.args.version_page c.requires.version.0 since.page_state since.words c.requires.version.1);
      known = c.index_there-known.ensures.known;
    }

pub returns-clause-found : goal.returns-clause-found
returns-clause-found g c = λ name on.
    let w = g.L.Look.words c.known_index.new.look in
    subst (λ (n : List ℕ). IsFound (contents_of (w c.args.version_page)).entries n (Some c.in-Some-known_index.index))
    (same_name c.args.prepared.now c.in-Some.name.now name c.in-Some.ensures on) c.in-Some-known_index.ensures.found
