use Rattle.std.proofs.Common.{◌≡◌, ◌≤◌, ◌<◌, ℕ, List, length, ap, sym, subst, ◌∙◌, arith}
use Rattle.std.specs.FinMap as fin
use Rattle.std.specs.declared.cmp.Ordering.TheVariants.{Equal}
use Rattle.be_volume.specs.Maps.{name_cmp}
use Rattle.be_paged_reading.specs.Page.{contents_of, entry_at, entry_place}
use Rattle.be_paged_reading.proofs.IndexEntries.Indexing.{NamesRise, names_rise}
use Rattle.be_paged_reading.proofs.Stored.Codec.{name_short}
use Rattle.be_paged_reading.proofs.Stored.PageIndices.{how_many, named_here}
use Rattle.be_paged_reading.proofs.on_page.is_named.Goals as goal

pub overflow_mul-i : goal.overflow_mul-i
overflow_mul-i g c = omega (arith, c.requires.in_range, how_many (g.L.Look.words c.args.look.now c.args.page) c.args.name.now, c.requires.version.1.is_page.few)

pub overflow_add-i : goal.overflow_add-i
overflow_add-i g c = omega (arith, c.requires.in_range, how_many (g.L.Look.words c.args.look.now c.args.page) c.args.name.now, c.requires.version.1.is_page.few)

pub compare_at-requires-clause-in_page : goal.compare_at-requires-clause-in_page
compare_at-requires-clause-in_page g c = omega (arith, c.requires.in_range, how_many (g.L.Look.words c.args.look.now c.args.page) c.args.name.now, c.requires.version.1.is_page.few)

pub compare_at-requires-clause-entry : goal.compare_at-requires-clause-entry
compare_at-requires-clause-entry g c =
    let words = g.L.Look.words c.args.look.now c.args.page in
    let there : c.args.i < words 1 = omega (arith, c.requires.in_range, how_many words c.args.name.now) in
    c.requires.version.1.is_page.each c.args.i there

pub compare_at-requires-clause-short : goal.compare_at-requires-clause-short
compare_at-requires-clause-short g c =
    subst (λ (t : List ℕ). length t ≤ 63) (sym (c.as_bytes-text.ensures.value ∙ c.as_str.ensures.text)) (name_short c.args.name.now c.as_str.ensures.valid)

pub returns-in-Equal-clause-named : goal.returns-in-Equal-clause-named
returns-in-Equal-clause-named g c = λ _.
    let words = g.L.Look.words c.args.look.now c.args.page in
    let name = c.args.name.now in
    let mine = (entry_at words (entry_place c.args.i)).name in
    let there : c.args.i < words 1 = omega (arith, c.requires.in_range, how_many words name) in
    let rise : NamesRise (contents_of words).entries = names_rise (g.L.Look.words c.args.look.now) _ _ c.requires.version.1.encodes.indices (fin.entries_sorted c.requires.version.0.indices) in
    let same : name_cmp mine name ≡ Equal = sym (c.compare_at.ensures.order ∙ ap (name_cmp mine) (c.as_bytes-text.ensures.value ∙ c.as_str.ensures.text)) ∙ c.in-Equal.is in
    named_here words name rise c.args.i there same
