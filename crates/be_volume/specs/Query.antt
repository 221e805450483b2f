-- Which nodes a query finds in a volume.
use Rattle.std.specs.Prelude.{ℕ, Bool, false, not, ◌&&◌, ◌||◌, List, Some, None, pos, filter}
use Rattle.std.specs.Prelude.{if◌then◌else◌}
use Rattle.std.specs.Option.{option_map_or}
use Rattle.std.specs.Ordering.{int_cmp, is_eq, is_lt, is_gt}
use Rattle.std.specs.Str.{chars, encode_utf8_all}
use Rattle.std.specs.FinMap as map
use Rattle.std.specs.declared.cmp.Ordering.{Ordering}
use Rattle.std.specs.declared.option.Option.{Option}
use Rattle.std.specs.declared.result.Result.{Result}
use Rattle.std.specs.declared.result.Result.TheVariants.{Ok, Err}
use lib.IntN.{ℤ}
use Rattle.be_value.specs.Number.{number_in}
use Rattle.be_value.specs.declared.refusals.Refusal.{Refusal}
use Rattle.be_value.specs.declared.refusals.Refusal.TheVariants.{NotCovered}
use Rattle.be_value.specs.declared.values.Value.{Value}
use Rattle.be_value.specs.declared.values.Value.TheVariants.{Cstr, Long, Llng, Mims, Rawt, Ulng}
use Rattle.be_value.specs.declared.values.Value.TheVariants.{Ullg}
use Rattle.be_pattern.specs.Canonical.{is_plain, literal_prefix}
use Rattle.be_pattern.specs.Match.{matches}
use Rattle.be_query.specs.Grammar.{Formula, Leaf, And, Or, Literal, Wild, Exact}
use Rattle.be_query.specs.declared.tree.Cmp.{Cmp}
use Rattle.be_query.specs.declared.tree.Cmp.TheVariants.{Eq, Ne, Lt, Le, Gt, Ge}
use Rattle.be_volume.specs.Maps.{name_cmp}
use Rattle.be_volume.specs.Reading.{attribute}
use Rattle.be_volume.specs.Volume.{State}
use Rattle.be_volume.specs.declared.maps.Index.{Index}

-- whether an operator is true of two things that compare in this order
abbrev pub is_true_of : Cmp → Ordering → Bool
is_true_of Eq o = is_eq o
is_true_of Ne o = not (is_eq o)
is_true_of Lt o = is_lt o
is_true_of Le o = not (is_gt o)
is_true_of Gt o = is_gt o
is_true_of Ge o = not (is_lt o)

-- `==` is true of a match, and every other operator if there is no match
abbrev pub is_true_of_match : Cmp → Bool → Bool
is_true_of_match Eq matched = matched
is_true_of_match Ne matched = not matched
is_true_of_match Lt matched = not matched
is_true_of_match Le matched = not matched
is_true_of_match Gt matched = not matched
is_true_of_match Ge matched = not matched

-- whether a comparison is true of a text: a pattern matches its characters, and an exact literal is
-- compared with its bytes
abbrev pub holds_of_text : Cmp → List ℕ → Literal → Bool
holds_of_text op text (Wild parts) = is_true_of_match op (matches parts (chars text))
holds_of_text op text (Exact words) = is_true_of op (name_cmp text words)

-- the number that a literal encodes; a pattern with a wildcard encodes none
abbrev pub literal_number : Literal → Option ℤ
literal_number (Wild parts) = if is_plain parts
    then number_in (encode_utf8_all (literal_prefix parts)) else None
literal_number (Exact words) = number_in words

-- whether a comparison is true of a number; it is false for every operator if the literal encodes
-- none
abbrev pub holds_of_number : Cmp → ℤ → Option ℤ → Bool
holds_of_number op n None = false
holds_of_number op n (Some m) = is_true_of op (int_cmp n m)

-- whether a comparison is true of a value; none is true of raw bytes
abbrev pub holds : Cmp → Value → Literal → Bool
holds op (Cstr text) literal = holds_of_text op text literal
holds op (Long n) literal = holds_of_number op n (literal_number literal)
holds op (Llng n) literal = holds_of_number op n (literal_number literal)
holds op (Mims text) literal = holds_of_text op text literal
holds op (Rawt bytes) literal = false
holds op (Ulng n) literal = holds_of_number op (pos n) (literal_number literal)
holds op (Ullg n) literal = holds_of_number op (pos n) (literal_number literal)

abbrev pub seen_in : Option Index → Option Value → ℕ → Option Value
seen_in None value node = value
seen_in (Some index) value node = map.get index.pairs node

-- What a comparison on this name sees of the node: the value that the name's index has for it, or,
-- without an index, the node's attribute.
abbrev pub sees : State → ℕ → List ℕ → Option Value
sees s node name = seen_in (map.get s.indices name) (attribute s node name) node

-- whether a node satisfies a formula
abbrev pub sat : State → Formula → ℕ → Bool
sat s (Leaf name op literal) node = option_map_or (λ value. holds op value literal)
    (sees s node name) false
sat s (And a b) node = sat s a node && sat s b node
sat s (Or a b) node = sat s a node || sat s b node

-- whether indices cover a formula; `indexed` says which names have an index
abbrev pub rests : (List ℕ → Bool) → Formula → Bool
rests indexed (Leaf name op literal) = indexed name
rests indexed (And a b) = rests indexed a || rests indexed b
rests indexed (Or a b) = rests indexed a && rests indexed b

abbrev pub has_index : State → List ℕ → Bool
has_index s name = map.contains_key s.indices name

-- whether the volume's indices cover a formula
abbrev pub covered : State → Formula → Bool
covered s = rests (has_index s)

-- the nodes that satisfy the formula, in ascending order, if indices cover it
abbrev pub scan : State → Formula → Result (List ℕ) Refusal
scan s f = if covered s f then Ok (filter (sat s f) (map.keys s.nodes)) else Err NotCovered
