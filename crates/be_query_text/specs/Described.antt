-- What is reported about the comparisons in a query.
use Rattle.std.specs.Prelude.{ℕ, List, [], ◌∷◌, ◌++◌, Some, None, if◌then◌else◌, string_bytes}
use Rattle.std.specs.Prelude.{encode_utf8_all}
use Rattle.std.specs.declared.option.Option.{Option}
use lib.IntN.{ℤ}
use Rattle.be_pattern.specs.Canonical.{canonical, is_plain, literal_prefix}
use Rattle.be_query.specs.Grammar.{Formula, Leaf, And, Or, Literal, Wild, Exact}
use Rattle.be_query.specs.declared.tree.Cmp.{Cmp}
use Rattle.be_volume.specs.Query.{literal_number}
use Rattle.be_query_text.specs.declared.compared.Compared as code
use Rattle.be_query_text.specs.declared.compared.Form.{Form}
use Rattle.be_query_text.specs.declared.compared.Form.TheVariants.{Number, Text, Pattern}
use Rattle.be_query_text.specs.declared.places.Place.{Place}

-- A comparison in a tree.
pub record Comparison : Type 0 where
  pub name : List ℕ
  pub op : Cmp
  pub literal : Literal

-- The comparisons in a tree, from left to right.
abbrev pub leaves : Formula → List Comparison
leaves (Leaf name op literal) = record { name = name; op = op; literal = literal } ∷ []
leaves (And l r) = leaves l ++ leaves r
leaves (Or l r) = leaves l ++ leaves r

pub record Description : Type 0 where
  pub name : List ℕ
  pub op : Cmp
  pub form : Form
  pub number : Option ℤ
  pub words : List ℕ
  pub place : Place

-- The form of a literal that encodes no number. A pattern without a wildcard counts as a string.
abbrev pub form_without_number : Literal → Form
form_without_number (Exact words) = Text
form_without_number (Wild parts) = if is_plain parts then Text else Pattern

abbrev pub form_of : Literal → Option ℤ → Form
form_of literal (Some n) = Number
form_of literal None = form_without_number literal

-- The string, or the canonical text of a pattern with a wildcard.
abbrev pub words_of : Literal → List ℕ
words_of (Exact words) = words
words_of (Wild parts) = encode_utf8_all (if is_plain parts then literal_prefix parts
    else canonical parts)

abbrev pub description : Comparison → Place → Description
description c place = record {
  name = c.name;
  op = c.op;
  form = form_of c.literal (literal_number c.literal);
  number = literal_number c.literal;
  words = words_of c.literal;
  place = place;
}

-- The descriptions of the comparisons. The first comparison is at the first place, and so on.
abbrev pub described : List Comparison → List Place → List Description
described [] places = []
described (c ∷ cs) [] = []
described (c ∷ cs) (place ∷ places) = description c place ∷ described cs places

-- The description that a value of the program contains.
abbrev pub reported : code.Compared → Description
reported c = record {
  name = c.name;
  op = c.op;
  form = c.form;
  number = c.number;
  words = string_bytes c.words;
  place = c.place;
}
