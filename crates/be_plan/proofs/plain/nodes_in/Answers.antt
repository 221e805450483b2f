use Rattle.std.proofs.Common.{◌≡◌, ◌∙◌, ◌<◌, ◌≤◌, ◌^◌, ◌⊎◌, ◌++◌, ◌∷◌, [], ℕ, List, Some, suc, sym, ap, subst, inl, inr, length, arith, true, false}
use Rattle.std.specs.Bool.{⊤}
use Rattle.std.specs.Int.{to_be_bytes, w64}
use Rattle.std.specs.List.{Contains}
use Rattle.std.specs.Option.{option_copied, option_map}
use Rattle.std.specs.declared.option.Option.{Option}
use Rattle.std.proofs.lemmas.List.{length-append}
use Rattle.std.proofs.lemmas.List.Elements.{Contains-append_left, Contains-push, Contains-push_cases}
use Rattle.be_value.specs.Key.{key, value_key}
use Rattle.be_value.specs.declared.values.Value.{Value}
use Rattle.be_volume.specs.Keys.{IsNextKey}
use Rattle.be_plan.specs.Narrow.{Within, is_above}
use Rattle.be_plan.specs.Walk.{HasCome, IsNodeWithin, Keeps}
use Rattle.be_plan.proofs.Ends.{comes_first, comes_next, came_above, came_from_low}
use Rattle.be_plan.proofs.Passing.{steps, steps_fall}
use Rattle.be_plan.proofs.plain.nodes_in.Goals as goal

pub keys-init : goal.keys-init
keys-init c = record {
  keeps = λ n h. h;
  only = λ n h. inl h;
  come = comes_first c.args.volume.now (λ n. ⊤) c.args.name.now c.args.low.now (option_copied c.args.high) _ c.args.found.now.items c.next_key-next.ensures;
}

pub returns-then-is_past-clause-has : goal.returns-then-is_past-clause-has
returns-then-is_past-clause-has c =
    let name = c.args.name.now in
    let low = c.args.low.now in
    let high = option_copied c.args.high in
    let key0 = c.in-Some.key.items in
    let C : Option (List ℕ) → Type 0 = λ o. HasCome c.args.volume.now (λ n. ⊤) name low high o c.keys.found.items in
    let come : HasCome c.args.volume.now (λ n. ⊤) name low high (Some key0) c.keys.found.items = subst C (ap (λ o. option_map (λ b. b.items) o) c.in-Some.is) c.keys.invariant.come in
    let up : is_above high key0 ≡ true = ap (is_above high) (sym c.as_slice.ensures.value) ∙ sym c.is_past.ensures ∙ c.if-is_past.true in
    λ k h w. came_above c.args.volume.now (λ n. ⊤) name low high key0 c.keys.found.items up come k h w (record {})

pub node_of-requires : goal.node_of-requires
node_of-requires c =
    let name = c.args.name.now in
    let low = c.args.low.now in
    let high = option_copied c.args.high in
    let key0 = c.in-Some.key.items in
    let C : Option (List ℕ) → Type 0 = λ o. HasCome c.args.volume.now (λ n. ⊤) name low high o c.keys.found.items in
    let come : HasCome c.args.volume.now (λ n. ⊤) name low high (Some key0) c.keys.found.items = subst C (ap (λ o. option_map (λ b. b.items) o) c.in-Some.is) c.keys.invariant.come in
    let is = come.is_next.0 in
    let P : List ℕ → Type 0 = λ l. 8 ≤ length l in
    subst P (sym c.as_slice-in-Some.ensures.value) (omega (arith, ap length is.is, length-append (value_key is.value) (to_be_bytes w64 is.node)))

pub keys-smaller : goal.keys-smaller
keys-smaller c =
    let name = c.args.name.now in
    let next = option_map (λ b. b.items) c.next_key-next-in-Some.result in
    let Q : List ℕ → Type 0 = λ b. IsNextKey c.args.volume.now name b true next in
    let P : Option (List ℕ) → Type 0 = λ o. suc (steps c.args.volume.now name next) ≤ steps c.args.volume.now name o in
    subst P (sym (ap (λ o. option_map (λ b. b.items) o) c.in-Some.is))
    (steps_fall c.args.volume.now name c.in-Some.key.items next (subst Q c.as_slice-in-Some-2.ensures.value c.next_key-next-in-Some.ensures))

pub keys-preserved : goal.keys-preserved
keys-preserved c =
    let name = c.args.name.now in
    let low = c.args.low.now in
    let high = option_copied c.args.high in
    let key0 = c.in-Some.key.items in
    let C : Option (List ℕ) → Type 0 = λ o. HasCome c.args.volume.now (λ n. ⊤) name low high o c.keys.found.items in
    let come : HasCome c.args.volume.now (λ n. ⊤) name low high (Some key0) c.keys.found.items = subst C (ap (λ o. option_map (λ b. b.items) o) c.in-Some.is) c.keys.invariant.come in
    let next = option_map (λ b. b.items) c.next_key-next-in-Some.result in
    let to : is_above high key0 ≡ false = ap (is_above high) (sym c.as_slice.ensures.value) ∙ sym c.is_past.ensures ∙ c.if-is_past.false in
    let Q : List ℕ → Type 0 = λ b. IsNextKey c.args.volume.now name b true next in
    let before = c.keys.found.items in
    let now = c.push.new.self.items in
    let pushed : now ≡ before ++ c.node_of.result ∷ [] = c.in_ok-push.ensures.items in
    let keeps : Keeps before now = λ n h. subst (λ l. Contains l n) (sym pushed) (Contains-append_left before (c.node_of.result ∷ []) n h) in
    let has : (v : Value) (n : ℕ) → n < 2 ^ 64 → key0 ≡ key v n → ⊤ → Contains now n =
    λ v n fits is _.
    let same : c.node_of.result ≡ n = c.node_of.ensures (value_key v) n fits (c.as_slice-in-Some.ensures.value ∙ is) in
    subst (λ l. Contains l n) (sym pushed) (subst (λ m. Contains (before ++ c.node_of.result ∷ []) m) same (Contains-push before c.node_of.result)) in
    let k = come.is_next.0 in
    let fits : k.node < 2 ^ 64 = (c.requires.sound.pairs name k.index k.node k.value k.there k.paired).node_fits in
    let own : c.node_of.result ≡ k.node = c.node_of.ensures (value_key k.value) k.node fits (c.as_slice-in-Some.ensures.value ∙ k.is) in
    let within : Within low high key0 = record { from_low = came_from_low c.args.volume.now (λ n. ⊤) name low high key0 before come; to_high = to } in
    let one : (n : ℕ) → Contains before n ⊎ (c.node_of.result ≡ n) → Contains c.args.found.now.items n ⊎ IsNodeWithin c.args.volume.now name low high n =
    λ n. elim [
      | inl there ↦ c.keys.invariant.only n there
      | inr same ↦ inr (record { key = key0; is_key = k; within = within; node_is = sym own ∙ same })
    ] in
    record {
      keeps = λ n h. keeps n (c.keys.invariant.keeps n h);
      only = λ n h. one n (Contains-push_cases before c.node_of.result n (subst (λ l. Contains l n) pushed h));
      come = comes_next c.args.volume.now (λ n. ⊤) name low high key0 next before now c.requires.sound come keeps has (subst Q c.as_slice-in-Some-2.ensures.value c.next_key-next-in-Some.ensures);
    }

pub returns-in_err-push-clause-keeps : goal.returns-in_err-push-clause-keeps
returns-in_err-push-clause-keeps c = λ n h. subst (λ (l : List ℕ). Contains l n) (sym c.in_err-push.ensures.items) (c.keys.invariant.keeps n h)
