use Rattle.std.proofs.Common.{◌≡◌, ◌++◌, ◌∙◌, [], ap, arith, length, map, sym}
use Rattle.std.proofs.lemmas.List.{append-nil}
use Rattle.be_query.specs.Grammar.{comparisons}
use Rattle.be_query.specs.View.{formula}
use Rattle.be_query_text.specs.Described.{described, leaves, reported}
use Rattle.be_query_text.specs.Places.{places}
use Rattle.be_query_text.proofs.Counts.{places_counted}
use Rattle.be_query_text.proofs.compared.comparisons.Goals as goal

pub push_each-requires : goal.push_each-requires
push_each-requires c =
    let h = c.in_ok-query.ensures.ok in
    let few : comparisons (formula c.tree.result.now) ≡ length (places c.args.text.now) = ap comparisons c.tree.ensures.tree ∙ sym (places_counted c.args.text.now _ h.1) in
    let many : length c.deref.result.now ≡ length (places c.args.text.now) = ap length (c.deref.ensures.value ∙ c.in_ok-places.ensures) in
    omega arith

pub returns-clause-ok : goal.returns-clause-ok
returns-clause-ok c =
    let h = c.in_ok-query.ensures.ok in
    let all = map reported c.push_each.new.compared.items in
    let at = c.deref.result.now in (
      h.0,
      c.in_ok-query.query,
      h.1,
      sym (append-nil all)
          ∙ c.in_ok-push_each.ensures.reported []
          ∙ ap (λ items. map reported items ++ described (leaves (formula c.tree.result.now) ++ []) at) c.new-compared.ensures.items
          ∙ ap (λ l. described l at) (append-nil (leaves (formula c.tree.result.now)))
          ∙ ap (λ f. described (leaves f) at) c.tree.ensures.tree
          ∙ ap (described (leaves c.in_ok-query.query)) (c.deref.ensures.value ∙ c.in_ok-places.ensures),
    )
