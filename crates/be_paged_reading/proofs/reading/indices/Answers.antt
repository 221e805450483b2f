use Rattle.std.proofs.Common.{List, All, ◌∙◌, ap, sym, subst, map, Ok}
use Rattle.std.specs.FinMap as fin
use Rattle.be_volume.specs.Sound.{IsName}
use Rattle.be_paged_reading.specs.Entry.{Entry}
use Rattle.be_paged_reading.specs.Page.{Contents, contents_of}
use Rattle.be_paged_reading.proofs.IndexEntries.Indexing.{kinds_are, listed_entry}
use Rattle.be_paged_reading.proofs.reading.indices.Goals as goal

abbrev entries_of : Contents → List Entry
entries_of d = d.entries

pub kinds-requires : goal.kinds-requires
kinds-requires g c = record {
  named = subst (λ (es : List Entry). All (λ e. IsName e.name) es) (sym (c.deref.ensures.0 ∙ ap entries_of c.fill_version.ensures.contents)) c.requires.version.1.in_hand.named;
}

pub returns-clause-answer : goal.returns-clause-answer
returns-clause-answer g c = λ volume version.
    let w = g.L.Look.words c.args.look.now in
    ap Ok (sym (c.in_ok-kinds.ensures ∙ ap (map listed_entry) (c.deref.ensures.0 ∙ ap entries_of c.fill_version.ensures.contents)
    ∙ kinds_are w (contents_of (w c.args.version_page)).entries (fin.entries volume.indices) version.encodes.indices))
