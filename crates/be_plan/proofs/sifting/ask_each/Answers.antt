use Rattle.std.proofs.Common.{◌≡◌, ◌⊎◌, ℕ, List, true, refl, sym, subst, inl, inr}
use Rattle.std.specs.List.{Contains}
use Rattle.std.specs.Option.{option_copied}
use Rattle.be_query.specs.View.{formula}
use Rattle.be_volume.specs.Query.{sat}
use Rattle.be_plan.proofs.Reaching.{added_within, on_ok}
use Rattle.be_plan.proofs.sifting.ask_each.Goals as goal

pub nodes_within-requires : goal.nodes_within-requires
nodes_within-requires g c = (g.volume, c.requires.1)

pub index_to_walk-requires : goal.index_to_walk-requires
index_to_walk-requires g c κs within = (within, c.nodes_within.ensures.answers g.volume c.requires.1)

pub nodes_of_index-requires : goal.nodes_of_index-requires
nodes_of_index-requires g c κs within = (within, (c.index_to_walk.ensures.answers, record { named = c.in-Some.ensures.named; kind_is = c.in-Some.ensures.kind }))

pub returns-in_err-add_common-clause-only : goal.returns-in_err-add_common-clause-only
returns-in_err-add_common-clause-only g c = λ n h.
    let Wanted : ℕ → Type 0 = λ m. sat g.volume (formula c.args.tree.now) m ≡ true in
    let P : List ℕ → Type 0 = λ xs. Contains xs n in
    added_within g.volume c.args.keys.name.now _ c.args.keys.low.now _ (option_copied c.args.keys.high) _ c.put_in_order.new.numbers.items c.args.found.now.items
    Wanted refl refl c.in_ok-nodes.ensures.items (λ m there. c.nodes_within.ensures.only g.volume c.requires.1 m (c.in_ok-put_in_order.ensures.only m there)) n
    (elim (c.add_common.ensures.only n h) [
      | inl old ↦ inl old
      | inr both ↦ inr (subst P c.deref.ensures.value both.0, c.in_ok-others.ensures.only n (subst P c.deref-in-Some.ensures.value both.1))
    ])

pub returns-in-Some-clause-only : goal.returns-in-Some-clause-only
returns-in-Some-clause-only g c = λ n h.
    let Wanted : ℕ → Type 0 = λ m. sat g.volume (formula c.args.tree.now) m ≡ true in
    let P : List ℕ → Type 0 = λ xs. Contains xs n in
    added_within g.volume c.args.keys.name.now _ c.args.keys.low.now _ (option_copied c.args.keys.high) _ c.put_in_order.new.numbers.items c.args.found.now.items
    Wanted refl refl c.in_ok-nodes.ensures.items (λ m there. c.nodes_within.ensures.only g.volume c.requires.1 m (c.in_ok-put_in_order.ensures.only m there)) n
    (elim (c.add_common.ensures.only n h) [
      | inl old ↦ inl old
      | inr both ↦ inr (subst P c.deref.ensures.value both.0, c.in_ok-others.ensures.only n (subst P c.deref-in-Some.ensures.value both.1))
    ])

pub returns-in-Some-clause-has : goal.returns-in-Some-clause-has
returns-in-Some-clause-has g c = λ k h w holds.
    let P : List ℕ → Type 0 = λ xs. Contains xs h.node in
    c.in_ok-add_common.ensures.has h.node
    (subst P (sym c.deref.ensures.value) (c.in_ok-put_in_order.ensures.keeps h.node (c.in_ok-nodes_within.ensures.has g.volume c.requires.1 k h w)))
    (subst P (sym c.deref-in-Some.ensures.value) (c.in_ok-others.ensures.has h.node holds))

pub returns-clause-only : goal.returns-clause-only
returns-clause-only g c = λ n h.
    let Wanted : ℕ → Type 0 = λ m. sat g.volume (formula c.args.tree.now) m ≡ true in
    let T : List ℕ → Type 0 = λ xs. Contains c.args.found.now.items n ⊎ (Contains xs n × Wanted n) in
    added_within g.volume c.args.keys.name.now _ c.args.keys.low.now _ (option_copied c.args.keys.high) _ c.put_in_order.new.numbers.items c.args.found.now.items
    Wanted refl refl c.in_ok-nodes.ensures.items (λ m there. c.nodes_within.ensures.only g.volume c.requires.1 m (c.in_ok-put_in_order.ensures.only m there)) n
    (subst T c.deref-2.ensures.value (c.ask_all.ensures.only n h))

pub returns-clause-has : goal.returns-clause-has
returns-clause-has g c =
    on_ok c.ask_all.result (λ each k h w holds.
    let P : List ℕ → Type 0 = λ xs. Contains xs h.node in
    each h.node (subst P (sym c.deref-2.ensures.value) (c.in_ok-put_in_order.ensures.keeps h.node (c.in_ok-nodes_within.ensures.has g.volume c.requires.1 k h w))) holds) c.ask_all.ensures.has
