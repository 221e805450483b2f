-- Comparisons in the form that is passed to other languages.
use Rattle.std.specs.Prelude.{ℕ, ◌+◌, List, [], ◌∷◌, ◌++◌, length}
use Rattle.std.specs.List.{flat_map}
use Rattle.be_query.specs.declared.tree.Cmp.{Cmp}
use Rattle.be_query.specs.declared.tree.Cmp.TheVariants.{Eq, Ne, Lt, Le, Gt, Ge}
use Rattle.be_value.specs.declared.values.Kind.TheVariants as kinds
use Rattle.be_query_text.specs.Described.{Description}
use Rattle.be_query_text.specs.Ranges.{is_never_true}
use Rattle.be_query_text.specs.declared.compared.Form.{Form}
use Rattle.be_query_text.specs.declared.compared.Form.TheVariants.{Number, Text, Pattern}
use Rattle.be_query_text.specs.declared.encoding.EncodedComparison.{EncodedComparison}

-- The number that an operator has among the items of a predicate.
abbrev pub op_number : Cmp → ℕ
op_number Eq = 4
op_number Ne = 5
op_number Lt = 6
op_number Le = 7
op_number Gt = 8
op_number Ge = 9

abbrev pub form_number : Form → ℕ
form_number Text = 0
form_number Number = 1
form_number Pattern = 2

-- A comparison whose plain name and value are between these offsets.
abbrev pub encoded_as : ℕ → ℕ → ℕ → Description → EncodedComparison
encoded_as name_at value_at end d = record {
  at = d.place.name.at;
  end = d.place.value.end;
  name_at = d.place.name.start;
  name_end = d.place.name.stop;
  value_at = d.place.value.start;
  value_end = d.place.value.stop;
  plain_name_at = name_at;
  plain_value_at = value_at;
  plain_end = end;
  kind = op_number d.op;
  kind_in_text = op_number d.place.op;
  form = form_number d.form;
  is_never_int32 = is_never_true d.op d.number kinds.Long;
  is_never_int64 = is_never_true d.op d.number kinds.Llng;
  is_never_uint32 = is_never_true d.op d.number kinds.Ulng;
  is_never_uint64 = is_never_true d.op d.number kinds.Ullg;
}

-- The comparisons, whose plain names and values begin at this offset.
abbrev pub encoded_from : ℕ → List Description → List EncodedComparison
encoded_from at [] = []
encoded_from at (d ∷ ds) = encoded_as at (at + length d.name)
    (at + length d.name + length d.words) d
    ∷ encoded_from (at + length d.name + length d.words) ds

-- The plain names and values of the comparisons, concatenated.
abbrev pub bytes_of : List Description → List ℕ
bytes_of = flat_map (λ d. d.name ++ d.words)
