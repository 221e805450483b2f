use Rattle.std.proofs.Common.{ℕ, [], ap, sym, ◌∙◌, subst, is_some}
use Rattle.be_tree_reading.specs.Key.{payload_at}
use Rattle.be_tree_reading.specs.Tree.{IsTree, pairs}
use Rattle.be_value.specs.declared.values.Kind.TheVariants as kinds
use Rattle.be_paged_reading.specs.Entry.{Entry}
use Rattle.be_paged_reading.specs.Page.{contents_of}
use Rattle.be_paged_reading.proofs.Asking.SourceKeys.{entry_tree, no_key, key_found, key_finds}
use Rattle.be_paged_reading.proofs.Versions.{version_since}
use Rattle.be_paged_reading.proofs.paged_whole.has_pair.Goals as goal

nowhere : Entry
nowhere = record { name = []; kind = kinds.Cstr; root = 0 }

pub has_key-requires : goal.has_key-requires
has_key-requires g c =
    let s = g.L.Look.page_state c.find_index.new.look in
    let w = g.L.Look.words c.find_index.new.look in
    let since = c.in-Some.ensures.unchanged in
    let version = version_since (g.L.Look.page_state c.args.look.now) s (g.L.Look.words c.args.look.now) w c.args.version_page c.requires.version.0 since.page_state since.words c.requires.version.1 in
    record {
      tree = subst (λ (r : ℕ). IsTree s w r) (sym (c.in-Some.ensures.found.root nowhere))
          (entry_tree s w (contents_of (w c.args.version_page)) c.in-Some.index.place nowhere version.in_hand c.in-Some.ensures.found.named.in_range);
    }

pub returns-in-Some-clause-found : goal.returns-in-Some-clause-found
returns-in-Some-clause-found g c = λ volume of found.
    let w = g.L.Look.words c.find_index.new.look in
    let since = c.in-Some.ensures.unchanged in
    let version = version_since (g.L.Look.page_state c.args.look.now) (g.L.Look.page_state c.find_index.new.look) (g.L.Look.words c.args.look.now) w c.args.version_page volume since.page_state since.words of in
    key_found w (contents_of (w c.args.version_page)) volume c.args.name.now c.in-Some.index.place version.encodes nowhere c.in-Some.ensures.found.named c.args.key.now
    (ap (λ (r : ℕ). is_some (payload_at (pairs w r) c.args.key.now)) (sym (c.in-Some.ensures.found.root nowhere)) ∙ sym c.has_key.ensures.found ∙ found)

pub returns-in-Some-clause-finds : goal.returns-in-Some-clause-finds
returns-in-Some-clause-finds g c = λ volume of is.
    let w = g.L.Look.words c.find_index.new.look in
    let since = c.in-Some.ensures.unchanged in
    let version = version_since (g.L.Look.page_state c.args.look.now) (g.L.Look.page_state c.find_index.new.look) (g.L.Look.words c.args.look.now) w c.args.version_page volume since.page_state since.words of in
    c.has_key.ensures.found ∙ ap (λ (r : ℕ). is_some (payload_at (pairs w r) c.args.key.now)) (c.in-Some.ensures.found.root nowhere)
    ∙ key_finds w (contents_of (w c.args.version_page)) volume c.args.name.now c.in-Some.index.place version.encodes nowhere c.in-Some.ensures.found.named c.args.key.now is

pub returns-in-None-clause-finds : goal.returns-in-None-clause-finds
returns-in-None-clause-finds g c = λ volume of is.
    let w = g.L.Look.words c.find_index.new.look in
    let since = c.in-None.ensures.unchanged in
    let version = version_since (g.L.Look.page_state c.args.look.now) (g.L.Look.page_state c.find_index.new.look) (g.L.Look.words c.args.look.now) w c.args.version_page volume since.page_state since.words of in
    absurd (no_key w (contents_of (w c.args.version_page)) volume c.args.name.now c.in-None.ensures.found.absent.0 version.encodes c.in-None.ensures.found.absent.1 c.args.key.now is)
