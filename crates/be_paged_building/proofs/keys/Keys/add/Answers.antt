use Rattle.std.proofs.Common.{◌≡◌, ◌∷◌, ◌++◌, [], All, length, map, ap, subst, sym, ◌∙◌, arith}
use Rattle.be_paged_building.specs.Place.{IsPlace, key_in}
use Rattle.be_paged_building.specs.declared.keys.Place.{Place}
use Rattle.be_paged_building.proofs.Lists.{list_more, places_kept, places_more}
use Rattle.be_paged_building.proofs.keys.Keys.add.Goals as goal

pub returns : goal.returns
returns c =
    let bytes = c.self.inside.bytes.items in
    let places = c.self.inside.places.items in
    let more = c.args.key.now in
    let first = c.first_word.result in
    let place : Place = record { first = first; from = length bytes; len = length more } in
    let from : c.len.result ≡ length bytes = omega (arith, c.len.ensures) in
    let placed : c.push.new.self.items ≡ places ++ place ∷ [] = c.in_ok-push.ensures.items ∙ ap (λ n. places ++ record { first = first; from = n; len = length more } ∷ []) from in
    ap (λ bs. map (key_in bs) c.push.new.self.items) c.in_ok-extend_from_slice.ensures.items
    ∙ ap (map (key_in (bytes ++ more))) placed
    ∙ list_more bytes more first places c.self.invariant
    ∙ ap (λ ks. ks ++ more ∷ []) c.self.view_is

pub invariant_of-self-in_err-push : goal.invariant_of-self-in_err-push
invariant_of-self-in_err-push c =
    let bytes = c.self.inside.bytes.items in
    let places = c.self.inside.places.items in
    subst (λ bs. All (IsPlace bs) c.push.new.self.items) (sym c.in_ok-extend_from_slice.ensures.items)
    (subst (All (IsPlace (bytes ++ c.args.key.now))) (sym c.in_err-push.ensures.items) (places_kept bytes c.args.key.now places c.self.invariant))

pub invariant_of-self-2 : goal.invariant_of-self-2
invariant_of-self-2 c =
    let bytes = c.self.inside.bytes.items in
    let places = c.self.inside.places.items in
    let more = c.args.key.now in
    let first = c.first_word.result in
    let from : c.len.result ≡ length bytes = omega (arith, c.len.ensures) in
    let placed : c.push.new.self.items ≡ places ++ record { first = first; from = length bytes; len = length more } ∷ [] = c.in_ok-push.ensures.items ∙ ap (λ n. places ++ record { first = first; from = n; len = length more } ∷ []) from in
    subst (λ bs. All (IsPlace bs) c.push.new.self.items) (sym c.in_ok-extend_from_slice.ensures.items)
    (subst (All (IsPlace (bytes ++ more))) (sym placed) (places_more bytes more first places c.self.invariant (omega arith) c.first_word.ensures))
