-- The operations for a number as they are appended.
use Rattle.std.proofs.Common.{◌≡◌, ◌<◌, ◌+◌, ◌++◌, ℕ, Bool, true, false, cond, if◌then◌else◌, List, [], ◌∷◌, length, take, get_or, filter, append_assoc, refl, sym, ap, ◌∙◌, Some, None, unwrap_or, Option, option_map, arith}
use Rattle.std.proofs.lemmas.List.{map-append}
use Rattle.std.proofs.lemmas.List.Elements.{filter_more}
use Rattle.std.specs.FinMap as fin
use Rattle.be_value.specs.declared.values.Value.{Value}
use Rattle.be_volume.specs.Maps.{name_cmp, Attributes, attributes_of}
use Rattle.be_volume.specs.Volume.{State}
use Rattle.be_volume.specs.declared.ops.Op.{Op}
use Rattle.be_volume.specs.declared.ops.Op.TheVariants.{Set}
use Rattle.be_volume_state.specs.Rebuilding.{held_ops, is_held, set_all}

module _ (p : List ℕ × Value → Bool) (node : ℕ) (xs : List (List ℕ × Value)) (i : ℕ) (x : List ℕ × Value) where
  set_part : (front : List (List ℕ × Value)) (b : Bool) → set_all node (front ++ cond b (x ∷ []) []) ≡ set_all node front ++ (if b then Set node x.0 x.1 ∷ [] else [])
  set_part front true = map-append (λ e. Set node e.0 e.1) front (x ∷ [])
  set_part front false = map-append (λ e. Set node e.0 e.1) front []

  -- one more attribute, which is set if it passes the test
  pub one_further : (old before now : List Op) (wanted : Bool) → i < length xs → x ≡ get_or xs i x → wanted ≡ p x → before ≡ old ++ set_all node (filter p (take i xs)) →
      now ≡ before ++ (if wanted then Set node x.0 x.1 ∷ [] else []) → now ≡ old ++ set_all node (filter p (take (i + 1) xs))
  one_further old before now wanted here at is so_far e =
      let more : filter p (take (i + 1) xs) ≡ filter p (take i xs) ++ cond wanted (x ∷ []) [] =
      filter_more p xs i x here ∙ ap (λ (y : List ℕ × Value). filter p (take i xs) ++ cond (p y) (y ∷ []) []) (sym at) ∙ ap (λ b. filter p (take i xs) ++ cond b (x ∷ []) []) (sym is) in
      e ∙ ap (λ l. l ++ (if wanted then Set node x.0 x.1 ∷ [] else [])) so_far
      ∙ append_assoc old (set_all node (filter p (take i xs))) (if wanted then Set node x.0 x.1 ∷ [] else [])
      ∙ ap (λ l. old ++ l) (sym (ap (set_all node) more ∙ set_part (filter p (take i xs)) wanted))

module _ (s : State) (node : ℕ) where
  -- without a node there is nothing to set
  no_attributes : None ≡ option_map fin.entries (fin.get s.nodes node) → attributes_of s.nodes node ≡ fin.empty
  no_attributes h = by (fin.get s.nodes node) h
    where
      by : (found : Option Attributes) → None ≡ option_map fin.entries found → unwrap_or found fin.empty ≡ fin.empty
      by None e = refl
      by (Some a) e = cc

  pub none_held : (ops : List Op) → None ≡ option_map fin.entries (fin.get s.nodes node) → ops ≡ [] → ops ≡ held_ops s node
  none_held ops h e =
      let none : fin.entries (attributes_of s.nodes node) ≡ [] =
      empty_list (fin.entries (attributes_of s.nodes node)) (sym (fin.len-entries (attributes_of s.nodes node)) ∙ ap fin.len (no_attributes h) ∙ fin.len-empty name_cmp Value) in
      e ∙ ap (λ (l : List (List ℕ × Value)). set_all node (filter (λ x. is_held s node x.0) l)) (sym none)
    where
      empty_list : {A : Type 0} (xs : List A) → length xs ≡ 0 → xs ≡ []
      empty_list [] f = refl
      empty_list (x ∷ xs) f = absurd (omega arith)
