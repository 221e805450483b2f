use Rattle.std.proofs.Common.{ℕ, false, Some, None, ap, sym, ◌∙◌}
use Rattle.std.specs.Int.{cast_signed, w32, w64, w128}
use Rattle.std.proofs.lemmas.Int.{to_z-of_z}
use Rattle.std.specs.Option.{option_map}
use lib.IntN.{ℤ}
use Rattle.be_tree_reading.specs.Page.{item_at}
use Rattle.be_query.specs.View.{literal}
use Rattle.be_value.specs.declared.values.Value.{Value}
use Rattle.be_value.specs.declared.values.Value.TheVariants.{Long, Llng, Ulng, Ullg}
use Rattle.be_volume.specs.Query.{holds, holds_of_number, literal_number}
use Rattle.be_paged_reading.proofs.CatalogPairs.Payloads.{long, llng, ulng, ullg, seen, some_kind}
use Rattle.be_paged_reading.proofs.comparing.holds_at.Goals as goal

pub returns-in-Some-number32_at-clause-holds : goal.returns-in-Some-number32_at-clause-holds
returns-in-Some-number32_at-clause-holds g c = λ v is e.
    let asked = c.args.comparison.now in
    let payload = (item_at (g.L.Look.words c.args.look.now c.args.page) c.args.at).payload in
    let moved = ap (λ (w : ℕ → ℕ → ℕ). (item_at (w c.args.page) c.args.at).payload) c.in-Some.ensures.unchanged.words in
    let reports = seen payload (λ (x : Value). holds asked.op x (literal asked.literal)) false (option_map (λ n. Long (cast_signed w32 n)) (Some c.in-Some-number32_at.n))
    (long payload (Some c.in-Some-number32_at.n) (λ w same. sym c.in-Long.is ∙ some_kind _ _ (c.in-Some.ensures.kind w same)) (λ k n lt same. c.in-Some-number32_at.ensures.number k n lt (moved ∙ same))) v is e in
    c.number_holds.ensures ∙ ap (λ (n : ℤ). holds_of_number asked.op n (literal_number (literal asked.literal))) (to_z-of_z w128 c.from.result (record { sfits = c.from.type_inv }) ∙ c.from.ensures ∙ to_z-of_z w32 c.cast_signed.result (record { sfits = c.cast_signed.type_inv }) ∙ c.cast_signed.ensures) ∙ reports

pub returns-in-None-clause-holds : goal.returns-in-None-clause-holds
returns-in-None-clause-holds g c = λ v is e.
    let asked = c.args.comparison.now in
    let payload = (item_at (g.L.Look.words c.args.look.now c.args.page) c.args.at).payload in
    let moved = ap (λ (w : ℕ → ℕ → ℕ). (item_at (w c.args.page) c.args.at).payload) c.in-Some.ensures.unchanged.words in
    let reports = seen payload (λ (x : Value). holds asked.op x (literal asked.literal)) false (option_map (λ n. Long (cast_signed w32 n)) None)
    (long payload None (λ w same. sym c.in-Long.is ∙ some_kind _ _ (c.in-Some.ensures.kind w same)) (λ k n lt same. c.in-None.ensures.number k n lt (moved ∙ same))) v is e in
    reports

pub returns-in-Some-number64_at-clause-holds : goal.returns-in-Some-number64_at-clause-holds
returns-in-Some-number64_at-clause-holds g c = λ v is e.
    let asked = c.args.comparison.now in
    let payload = (item_at (g.L.Look.words c.args.look.now c.args.page) c.args.at).payload in
    let moved = ap (λ (w : ℕ → ℕ → ℕ). (item_at (w c.args.page) c.args.at).payload) c.in-Some.ensures.unchanged.words in
    let reports = seen payload (λ (x : Value). holds asked.op x (literal asked.literal)) false (option_map (λ n. Llng (cast_signed w64 n)) (Some c.in-Some-number64_at.n))
    (llng payload (Some c.in-Some-number64_at.n) (λ w same. sym c.in-Llng.is ∙ some_kind _ _ (c.in-Some.ensures.kind w same)) (λ k n lt same. c.in-Some-number64_at.ensures.number k n lt (moved ∙ same))) v is e in
    c.number_holds-in-Some-number64_at.ensures ∙ ap (λ (n : ℤ). holds_of_number asked.op n (literal_number (literal asked.literal))) (to_z-of_z w128 c.from-in-Some-number64_at.result (record { sfits = c.from-in-Some-number64_at.type_inv }) ∙ c.from-in-Some-number64_at.ensures ∙ to_z-of_z w64 c.cast_signed-in-Some-number64_at.result (record { sfits = c.cast_signed-in-Some-number64_at.type_inv }) ∙ c.cast_signed-in-Some-number64_at.ensures) ∙ reports

pub returns-in-None-number64_at-clause-holds : goal.returns-in-None-number64_at-clause-holds
returns-in-None-number64_at-clause-holds g c = λ v is e.
    let asked = c.args.comparison.now in
    let payload = (item_at (g.L.Look.words c.args.look.now c.args.page) c.args.at).payload in
    let moved = ap (λ (w : ℕ → ℕ → ℕ). (item_at (w c.args.page) c.args.at).payload) c.in-Some.ensures.unchanged.words in
    let reports = seen payload (λ (x : Value). holds asked.op x (literal asked.literal)) false (option_map (λ n. Llng (cast_signed w64 n)) None)
    (llng payload None (λ w same. sym c.in-Llng.is ∙ some_kind _ _ (c.in-Some.ensures.kind w same)) (λ k n lt same. c.in-None-number64_at.ensures.number k n lt (moved ∙ same))) v is e in
    reports

pub returns-in-Some-number32_at-2-clause-holds : goal.returns-in-Some-number32_at-2-clause-holds
returns-in-Some-number32_at-2-clause-holds g c = λ v is e.
    let asked = c.args.comparison.now in
    let payload = (item_at (g.L.Look.words c.args.look.now c.args.page) c.args.at).payload in
    let moved = ap (λ (w : ℕ → ℕ → ℕ). (item_at (w c.args.page) c.args.at).payload) c.in-Some.ensures.unchanged.words in
    let reports = seen payload (λ (x : Value). holds asked.op x (literal asked.literal)) false (option_map Ulng (Some c.in-Some-number32_at-2.n))
    (ulng payload (Some c.in-Some-number32_at-2.n) (λ w same. sym c.in-Ulng.is ∙ some_kind _ _ (c.in-Some.ensures.kind w same)) (λ k n lt same. c.in-Some-number32_at-2.ensures.number k n lt (moved ∙ same))) v is e in
    c.number_holds-in-Some-number32_at-2.ensures ∙ ap (λ (n : ℤ). holds_of_number asked.op n (literal_number (literal asked.literal))) (to_z-of_z w128 c.from-in-Some-number32_at-2.result (record { sfits = c.from-in-Some-number32_at-2.type_inv }) ∙ c.from-in-Some-number32_at-2.ensures) ∙ reports

pub returns-in-Some-number64_at-2-clause-holds : goal.returns-in-Some-number64_at-2-clause-holds
returns-in-Some-number64_at-2-clause-holds g c = λ v is e.
    let asked = c.args.comparison.now in
    let payload = (item_at (g.L.Look.words c.args.look.now c.args.page) c.args.at).payload in
    let moved = ap (λ (w : ℕ → ℕ → ℕ). (item_at (w c.args.page) c.args.at).payload) c.in-Some.ensures.unchanged.words in
    let reports = seen payload (λ (x : Value). holds asked.op x (literal asked.literal)) false (option_map Ullg (Some c.in-Some-number64_at-2.n))
    (ullg payload (Some c.in-Some-number64_at-2.n) (λ w same. sym c.in-Ullg.is ∙ some_kind _ _ (c.in-Some.ensures.kind w same)) (λ k n lt same. c.in-Some-number64_at-2.ensures.number k n lt (moved ∙ same))) v is e in
    c.number_holds-in-Some-number64_at-2.ensures ∙ ap (λ (n : ℤ). holds_of_number asked.op n (literal_number (literal asked.literal))) (to_z-of_z w128 c.from-in-Some-number64_at-2.result (record { sfits = c.from-in-Some-number64_at-2.type_inv }) ∙ c.from-in-Some-number64_at-2.ensures) ∙ reports

pub returns-in-None-number64_at-2-clause-holds : goal.returns-in-None-number64_at-2-clause-holds
returns-in-None-number64_at-2-clause-holds g c = λ v is e.
    let asked = c.args.comparison.now in
    let payload = (item_at (g.L.Look.words c.args.look.now c.args.page) c.args.at).payload in
    let moved = ap (λ (w : ℕ → ℕ → ℕ). (item_at (w c.args.page) c.args.at).payload) c.in-Some.ensures.unchanged.words in
    let reports = seen payload (λ (x : Value). holds asked.op x (literal asked.literal)) false (option_map Ullg None)
    (ullg payload None (λ w same. sym c.in-Ullg.is ∙ some_kind _ _ (c.in-Some.ensures.kind w same)) (λ k n lt same. c.in-None-number64_at-2.ensures.number k n lt (moved ∙ same))) v is e in
    reports
