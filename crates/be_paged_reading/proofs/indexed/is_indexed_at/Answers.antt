use Rattle.std.proofs.Common.{◌≡◌, ℕ, ◌^◌, List, ◌++◌, false, Some, None, ap, sym, subst, ◌∙◌, is_some, IsTrue}
use Rattle.std.specs.Int.{cast_signed, to_be_bytes, w64}
use Rattle.std.specs.Option.{option_map}
use Rattle.std.proofs.lemmas.Int.{to_z-of_z}
use Rattle.be_value.specs.Key.{counted, key}
use Rattle.be_value.specs.declared.values.Value.TheVariants.{Llng}
use Rattle.be_tree_reading.specs.Key.{payload_at}
use Rattle.be_pages.specs.Pages.{is_readable}
use Rattle.be_pages.specs.declared.room.PageState.{PageState}
use Rattle.be_tree_reading.specs.Page.{IsItem, item_at}
use Rattle.be_tree_reading.specs.Tree.{pairs}
use Rattle.be_paged_reading.specs.Source.{has_pair}
use Rattle.be_paged_reading.proofs.CatalogPairs.Payloads.{llng, seen, some_kind}
use Rattle.be_paged_reading.proofs.indexed.is_indexed_at.Goals as goal

pub returns-in-Some-number64_at-clause-has : goal.returns-in-Some-number64_at-clause-has
returns-in-Some-number64_at-clause-has g c = λ v is e.
    let n = c.in-Some-number64_at.n in
    let node = c.args.node in
    let payload = (item_at (g.L.Look.words c.args.look.now c.args.page) c.args.at).payload in
    let moved = ap (λ (w : ℕ → ℕ → ℕ). (item_at (w c.args.page) c.args.at).payload) c.in-Some.ensures.unchanged.words in
    let items = pairs (g.L.Look.words c.args.look.now) c.args.index in
    let words = c.in-Some-number64_at.ensures.unchanged.words ∙ c.in-Some.ensures.unchanged.words in
    let reports : has_pair items node (Llng (cast_signed w64 n)) ≡ has_pair items node v =
    seen payload (has_pair items node) false (option_map (λ m. Llng (cast_signed w64 m)) (Some n))
    (llng payload (Some n) (λ w same. sym c.in-Llng.is ∙ some_kind _ _ (c.in-Some.ensures.kind w same)) (λ k m lt same. c.in-Some-number64_at.ensures.number k m lt (moved ∙ same))) v is e in
    let now = g.L.Look.words c.number64_at.new.look in
    let signed = to_z-of_z w64 c.cast_signed.result (record { sfits = c.cast_signed.type_inv }) ∙ c.cast_signed.ensures in
    let bytes = c.to_be_bytes.ensures ∙ ap (λ (m : ℕ). to_be_bytes w64 m) (c.counted64.ensures ∙ ap (counted (2 ^ 63)) signed) in
    c.has_number.ensures.has
    ∙ ap (λ (k : List ℕ). is_some (payload_at (pairs now c.args.index) (k ++ to_be_bytes w64 node))) bytes
    ∙ ap (λ (u : ℕ → ℕ → ℕ). is_some (payload_at (pairs u c.args.index) (key (Llng (cast_signed w64 n)) node))) words
    ∙ reports

pub returns-in-None-clause-has : goal.returns-in-None-clause-has
returns-in-None-clause-has g c = λ v is e.
    let node = c.args.node in
    let payload = (item_at (g.L.Look.words c.args.look.now c.args.page) c.args.at).payload in
    let moved = ap (λ (w : ℕ → ℕ → ℕ). (item_at (w c.args.page) c.args.at).payload) c.in-Some.ensures.unchanged.words in
    let items = pairs (g.L.Look.words c.args.look.now) c.args.index in
    seen payload (has_pair items node) false (option_map (λ m. Llng (cast_signed w64 m)) None)
    (llng payload None (λ w same. sym c.in-Llng.is ∙ some_kind _ _ (c.in-Some.ensures.kind w same)) (λ k m lt same. c.in-None.ensures.number k m lt (moved ∙ same))) v is e

pub any_is_indexed_at-requires-clause-item : goal.any_is_indexed_at-requires-clause-item
any_is_indexed_at-requires-clause-item g c = (
  subst (λ (s : ℕ → PageState). IsTrue (is_readable (s c.args.page))) (sym c.in-Some.ensures.unchanged.page_state) c.requires.item.0,
  (c.requires.item.1.0, subst (λ (w : ℕ → ℕ → ℕ). IsItem (w c.args.page) c.args.at) (sym c.in-Some.ensures.unchanged.words) c.requires.item.1.1),
)
