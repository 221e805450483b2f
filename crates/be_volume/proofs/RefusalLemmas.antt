-- What an existing attribute says about an operation's refusal.
use Rattle.std.proofs.Common.{◌≡◌, ◌<◌, ◌≤◌, ◌+◌, ℕ, Bool, true, false, not, ◌&&◌, if◌then◌else◌, nat_le, List, refl, sym, ap, ◌∙◌, Some, None, is_some, unwrap_or, arith}
use Rattle.std.proofs.lemmas.Bool.Decides.{nat_tests}
use Rattle.std.specs.FinMap as map
use Rattle.std.specs.FinMap.{get-empty}
use Rattle.std.specs.Result.{result_err}
use Rattle.std.specs.declared.option.Option.{Option}
use Rattle.std.specs.declared.result.Result.TheVariants.{Ok, Err}
use Rattle.be_value.specs.declared.refusals.Refusal.{Refusal}
use Rattle.be_value.specs.declared.refusals.Refusal.TheVariants.{NoNode, NoAttr, TooManyAttrs}
use Rattle.be_value.specs.declared.values.Value.{Value}
use Rattle.be_volume.specs.Maps.{name_cmp, Nodes, Attributes, attributes_of}
use Rattle.be_volume.specs.declared.ops.Op.TheVariants.{Set, Unset}
use Rattle.be_volume.specs.Volume.{State, step}

-- a node with an attribute exists
pub attribute_node : (nodes : Nodes) (node : ℕ) (name : List ℕ) → map.contains_key (attributes_of nodes node) name ≡ true → map.contains_key nodes node ≡ true
attribute_node nodes node name h = by (map.get nodes node) h
  where
    by : (found : Option Attributes) → map.contains_key (unwrap_or found map.empty) name ≡ true → is_some found ≡ true
    by None e = let no : false ≡ true = sym (ap is_some (get-empty name_cmp name)) ∙ e in cc
    by (Some attributes) e = refl

set_passes : {A : Type 0} (node has full : Bool) (r : A) → node ≡ true → has ≡ true →
    ◌≡◌ {A = Option Refusal} None (result_err (if not node then Err NoNode else if not has && full then Err TooManyAttrs else Ok r))
set_passes true true full r h k = refl
set_passes true false full r h k = cc
set_passes false has full r h k = cc

unset_passes : {A : Type 0} (node has : Bool) (r : A) → node ≡ true → has ≡ true →
    ◌≡◌ {A = Option Refusal} None (result_err (if not node then Err NoNode else if not has then Err NoAttr else Ok r))
unset_passes true true r h k = refl
unset_passes true false r h k = cc
unset_passes false has r h k = cc

-- so setting or unsetting it again isn't refused
pub set_again : (s : State) (node : ℕ) (name : List ℕ) (value : Value) → map.contains_key (attributes_of s.nodes node) name ≡ true → None ≡ result_err (step s (Set node name value))
set_again s node name value h =
    set_passes (map.contains_key s.nodes node) (map.contains_key (attributes_of s.nodes node) name) (nat_le 64 (map.len (attributes_of s.nodes node))) _ (attribute_node s.nodes node name h) h

pub unset_found : (s : State) (node : ℕ) (name : List ℕ) → map.contains_key (attributes_of s.nodes node) name ≡ true → None ≡ result_err (step s (Unset node name))
unset_found s node name h = unset_passes (map.contains_key s.nodes node) (map.contains_key (attributes_of s.nodes node) name) _ (attribute_node s.nodes node name h) h

pub not_full : (n : ℕ) → n < 64 → false ≡ nat_le 64 n
not_full n h = grind (arith, nat_tests)

-- a count bounded by the sum of two counts that doesn't reach the limit
pub not_reached : (n both : ℕ) → n ≤ both → nat_le 64 both ≡ false → n < 64
not_reached n both most h = grind (arith, nat_tests)

-- a count before the first operation
pub as_before : (n old : ℕ) → old ≡ n → n ≤ old + 0
as_before n old e = omega (arith, e)
