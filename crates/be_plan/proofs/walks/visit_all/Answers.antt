use Rattle.std.proofs.Common.{◌≡◌, List, subst, ◌∙◌, ◌<◌, ◌^◌, ◌≤◌, suc, sym, ap, refl, true, false, Some, ℕ}
use Rattle.std.specs.List.{Contains}
use Rattle.std.specs.Option.{option_map}
use Rattle.std.specs.declared.option.Option.{Option}
use Rattle.be_query.specs.Grammar.{Formula}
use Rattle.be_query.specs.View.{formula}
use Rattle.be_value.specs.Key.{key}
use Rattle.be_value.specs.declared.values.Value.{Value}
use Rattle.be_volume.specs.Keys.{IsKey, IsNextKey}
use Rattle.be_volume.specs.Query.{sat}
use Rattle.be_volume.specs.Volume.{State}
use Rattle.be_plan.specs.Narrow.{is_above, high_of}
use Rattle.be_plan.specs.Walk.{HasCome}
use Rattle.be_plan.proofs.Collecting.{collects_none, collects_on}
use Rattle.be_plan.proofs.Ends.{comes_first, comes_next, came_above}
use Rattle.be_plan.proofs.Passing.{steps, steps_fall}
use Rattle.be_plan.proofs.walks.visit_all.Goals as goal

abbrev wanted : State → Formula → ℕ → Type 0
wanted s f n = sat s f n ≡ true

pub keys-init : goal.keys-init
keys-init g c =
    let Q : List ℕ → Type 0 = λ b. IsNextKey g.volume c.args.walk.index.name.now b false (option_map (λ k. k.items) c.next_key-next.result) in
    record {
      stays = refl;
      answers = c.next_key-next.ensures.answers g.volume c.requires.1.0;
      collects = collects_none g.volume (formula c.args.walk.tree.now) c.args.found.now.items;
      come = comes_first g.volume (wanted g.volume (formula c.args.walk.tree.now)) c.args.walk.index.name.now c.args.walk.range.now.low.items (high_of c.args.walk.range.now) _ c.args.found.now.items
          (subst Q c.low.ensures (c.next_key-next.ensures.answer g.volume c.requires.1.0));
    }

pub visit-requires : goal.visit-requires
visit-requires g c κs within =
    let f = formula c.args.walk.tree.now in
    let name = c.args.walk.index.name.now in
    let next = c.in-Some.key.items in
    let low = c.args.walk.range.now.low.items in
    let high = high_of c.args.walk.range.now in
    let C : Option (List ℕ) → Type 0 = λ o. HasCome g.volume (wanted g.volume f) name low high o c.keys.found.items in
    let come : HasCome g.volume (wanted g.volume f) name low high (Some next) c.keys.found.items = subst C (ap (λ o. option_map (λ b. b.items) o) c.in-Some.is) c.keys.invariant.come in
    let P : List ℕ → Type 0 = λ k. IsKey g.volume name k in
    (within, (c.keys.invariant.answers, record { kind_is = c.requires.1.1; is_key = subst P (sym c.as_slice-in-Some.ensures.value) come.is_next.0 }))

pub keys-smaller : goal.keys-smaller
keys-smaller g c =
    let name = c.args.walk.index.name.now in
    let next = option_map (λ b. b.items) c.next_key-next-in-Some.result in
    let Q : List ℕ → Type 0 = λ b. IsNextKey g.volume name b true next in
    let P : Option (List ℕ) → Type 0 = λ o. suc (steps g.volume name next) ≤ steps g.volume name o in
    subst P (sym (ap (λ o. option_map (λ b. b.items) o) c.in-Some.is))
    (steps_fall g.volume name c.in-Some.key.items next
    (subst Q c.as_slice-in-Some-2.ensures.value (c.next_key-next-in-Some.ensures.answer g.volume c.visit.ensures.answers)))

pub keys-preserved : goal.keys-preserved
keys-preserved g c =
    let f = formula c.args.walk.tree.now in
    let name = c.args.walk.index.name.now in
    let low = c.args.walk.range.now.low.items in
    let high = high_of c.args.walk.range.now in
    let next = option_map (λ b. b.items) c.next_key-next-in-Some.result in
    let C : Option (List ℕ) → Type 0 = λ o. HasCome g.volume (wanted g.volume f) name low high o c.keys.found.items in
    let come : HasCome g.volume (wanted g.volume f) name low high (Some c.in-Some.key.items) c.keys.found.items = subst C (ap (λ o. option_map (λ b. b.items) o) c.in-Some.is) c.keys.invariant.come in
    let Q : List ℕ → Type 0 = λ b. IsNextKey g.volume name b true next in
    let has : (v : Value) (n : ℕ) → n < 2 ^ 64 → c.in-Some.key.items ≡ key v n → sat g.volume f n ≡ true → Contains c.visit.new.found.items n =
    λ v n fits is holds. c.in_ok-visit.ensures.has v n fits (c.as_slice-in-Some.ensures.value ∙ is) holds in
    record {
      stays = c.next_key-next-in-Some.ensures.stays ∙ c.visit.ensures.stays ∙ c.keys.invariant.stays;
      answers = c.next_key-next-in-Some.ensures.answers g.volume c.visit.ensures.answers;
      collects = collects_on g.volume f c.args.found.now.items c.keys.found.items c.visit.new.found.items c.keys.invariant.collects c.visit.ensures.collects;
      come = comes_next g.volume (wanted g.volume f) name low high c.in-Some.key.items next c.keys.found.items c.visit.new.found.items
          (g.met.S.Source.sound c.args.source.now g.volume c.requires.1.0) come c.visit.ensures.collects.keeps has
          (subst Q c.as_slice-in-Some-2.ensures.value (c.next_key-next-in-Some.ensures.answer g.volume c.visit.ensures.answers));
    }

pub returns-then-ends_before-clause-has : goal.returns-then-ends_before-clause-has
returns-then-ends_before-clause-has g c =
    let f = formula c.args.walk.tree.now in
    let name = c.args.walk.index.name.now in
    let low = c.args.walk.range.now.low.items in
    let high = high_of c.args.walk.range.now in
    let C : Option (List ℕ) → Type 0 = λ o. HasCome g.volume (wanted g.volume f) name low high o c.keys.found.items in
    let come : HasCome g.volume (wanted g.volume f) name low high (Some c.in-Some.key.items) c.keys.found.items = subst C (ap (λ o. option_map (λ b. b.items) o) c.in-Some.is) c.keys.invariant.come in
    came_above g.volume (wanted g.volume f) name low high c.in-Some.key.items c.keys.found.items
    (ap (is_above high) (sym c.as_slice.ensures.value) ∙ sym c.ends_before.ensures ∙ c.if-ends_before.true) come

pub returns-in_err-visit-clause-collects : goal.returns-in_err-visit-clause-collects
returns-in_err-visit-clause-collects g c = collects_on g.volume (formula c.args.walk.tree.now) c.args.found.now.items c.keys.found.items c.visit.new.found.items c.keys.invariant.collects c.visit.ensures.collects
