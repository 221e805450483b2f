use Rattle.std.proofs.Common.{◌∷◌, ◌++◌, [], ℕ, Err, sym, subst, refl, ◌∙◌}
use Rattle.be_tree_reading.specs.Tree.{pairs}
use Rattle.be_paged_reading.specs.Catalog.{IsCatalog}
use Rattle.be_paged_reading.specs.Cells.{AreReported, name_in, why_none}
use Rattle.be_paged_reading.proofs.Reported.{Found, found_none, found_some, tree_since, value_there, walks_since}
use Rattle.be_paged_reading.proofs.rows.report_attribute.Goals as goal

pub returns-in-Some-clause-reported : goal.returns-in-Some-clause-reported
returns-in-Some-clause-reported g c = λ nodes catalog valid found cell_places byte_places reported.
    let has = c.in-Some.ensures.some nodes catalog valid in
    subst (λ (x : Found). AreReported (found ++ x ∷ []) cell_places c.report_value.new.cells byte_places c.report_value.new.bytes c.report_value.new.filled)
    (sym (found_some nodes c.args.row.now.node (name_in c.args.name.now) has.value has.there))
    (c.report_value.ensures.reported has.value found cell_places byte_places has.is_value has.is reported)

pub returns-in-Some-clause-row : goal.returns-in-Some-clause-row
returns-in-Some-clause-row g c =
    let row = c.args.row.now in
    let last = c.report_value.ensures.unchanged in
    let words = last.words ∙ c.value_place-place.ensures.unchanged.words in
    record {
      in_row = record {
        tree = tree_since (g.L.Look.page_state c.args.look.now) (g.L.Look.page_state c.report_value.new.look) (g.L.Look.words c.args.look.now) (g.L.Look.words c.report_value.new.look) row.catalog
            (last.page_state ∙ c.value_place-place.ensures.unchanged.page_state) words c.requires.row.tree;
        cursor = walks_since (g.L.Look.page_state c.value_place-place.new.look) (g.L.Look.page_state c.report_value.new.look) (g.L.Look.words c.value_place-place.new.look) (g.L.Look.words c.report_value.new.look) row.catalog
            c.value_place-place.new.cursor last.page_state last.words c.value_place-place.ensures.cursor;
        is_known = λ nodes catalog valid.
            let has = c.in-Some.ensures.some nodes (subst (λ (w : ℕ → ℕ → ℕ). IsCatalog (pairs w row.catalog) nodes) words catalog) valid in
            sym (value_there nodes row.node (name_in c.args.name.now) has.value has.there);
      };
      same_catalog = refl;
      same_node = refl;
    }

pub returns-clause-reported : goal.returns-clause-reported
returns-clause-reported g c = λ nodes catalog valid found cell_places byte_places reported.
    let since = subst (λ (w : ℕ → ℕ → ℕ). IsCatalog (pairs w c.args.row.now.catalog) nodes) (sym c.value_place-place.ensures.unchanged.words) catalog in
    let there = c.is_there-there.ensures.there nodes since valid in
    subst (λ (x : Found). AreReported (found ++ x ∷ []) cell_places c.report.new.cells byte_places c.report.new.bytes c.report.new.filled)
    (sym (found_none nodes c.args.row.now.node (name_in c.args.name.now) c.is_there-there.result (c.in_default.ensures.none nodes catalog valid) there))
    (c.report.ensures.reported (Err (why_none c.is_there-there.result)) found cell_places byte_places c.none_cell-cell.ensures refl reported)

pub returns-clause-row : goal.returns-clause-row
returns-clause-row g c =
    let row = c.args.row.now in
    let first = c.value_place-place.ensures.unchanged in
    let then = c.is_there-there.ensures.unchanged in
    record {
      in_row = record {
        tree = tree_since (g.L.Look.page_state c.args.look.now) (g.L.Look.page_state c.is_there-there.new.look) (g.L.Look.words c.args.look.now) (g.L.Look.words c.is_there-there.new.look) row.catalog
            (then.page_state ∙ first.page_state) (then.words ∙ first.words) c.requires.row.tree;
        cursor = walks_since (g.L.Look.page_state c.value_place-place.new.look) (g.L.Look.page_state c.is_there-there.new.look) (g.L.Look.words c.value_place-place.new.look) (g.L.Look.words c.is_there-there.new.look) row.catalog
            c.value_place-place.new.cursor then.page_state then.words c.value_place-place.ensures.cursor;
        is_known = λ nodes catalog valid. c.is_there-there.ensures.known nodes (subst (λ (w : ℕ → ℕ → ℕ). IsCatalog (pairs w row.catalog) nodes) then.words catalog) valid;
      };
      same_catalog = refl;
      same_node = refl;
    }
