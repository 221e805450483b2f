-- What the contracts of this crate cite of other crates' definitions.
pub use Rattle.std.specs.Coded.{coded_ℕ}
pub use Rattle.std.specs.List.{Contains, list_all}
pub use Rattle.std.specs.List.Sorted.{IsStrictlyIncreasing}
pub use Rattle.std.specs.Option.{option_copied, option_map, option_map_or}
pub use Rattle.std.specs.Ordering.{is_gt, is_lt}
pub use Rattle.std.specs.Str.{chars}
pub use Rattle.std.specs.String.{string_bytes}
pub use Rattle.std.specs.declared.option.Option.{Option}
pub use Rattle.arrayvec.specs.ArrayVec.{ArrayVec as Items, array_vec_code}
pub use Rattle.be_pattern.specs.Canonical.{is_plain}
pub use Rattle.be_pattern.specs.Match.{matches}
pub use Rattle.be_query.specs.Coded.{coded_formula}
pub use Rattle.be_query.specs.Grammar.{Exact, Formula, Leaf, Literal as AnyLiteral, comparisons}
pub use Rattle.be_query.specs.View.{formula, literal}
pub use Rattle.be_query.specs.declared.tree.Cmp.{Cmp as Operator}
pub use Rattle.be_query.specs.declared.tree.Cmp.TheVariants.{Ne}
pub use Rattle.be_value.specs.Key.{IsValue, key as key_bytes, value_key}
pub use Rattle.be_value.specs.Name.{has_nul}
pub use Rattle.be_value.specs.Refusal.{Answers}
pub use Rattle.be_value.specs.Value.{kind_of}
pub use Rattle.be_value.specs.declared.refusals.Refusal.TheVariants.{NotCovered, OutOfMemory}
pub use Rattle.be_value.specs.declared.values.Kind.TheVariants.{Cstr}
pub use Rattle.be_value.specs.declared.values.Value.{Value as AnyValue}
pub use Rattle.be_volume.specs.Keys.{IsKey, IsNextKey}
pub use Rattle.be_volume.specs.Maps.{name_cmp}
pub use Rattle.be_volume.specs.Query.{covered, has_index, holds, holds_of_number, holds_of_text}
pub use Rattle.be_volume.specs.Query.{is_true_of, literal_number, rests, sat, scan, sees}
pub use Rattle.be_volume.specs.Reading.{attribute, index_kind}
pub use Rattle.be_volume.specs.Sound.{IsSound}
pub use Rattle.be_volume.specs.Volume.{State}
