use Rattle.std.proofs.Common.{◌≡◌, ◌++◌, length}
use Rattle.std.specs.Prelude.{encode_utf8_all, string_bytes}
use Rattle.std.specs.Str.{chars}
use denote.Text.{Utf8}
use denote.Shadow.{shadow}
use Rattle.be_query_text.specs.Cases.{any_case}
use Rattle.be_query_text.proofs.cases.any_case.Given as goal

abbrev pub invariant-characters : goal.invariant-characters
invariant-characters l = record {
  utf8 : shadow (Utf8 l.rest);
  so_far : string_bytes l.pattern ++ encode_utf8_all (any_case (chars l.rest)) ≡ encode_utf8_all (any_case (chars l.text));
}

abbrev pub decreases-characters : goal.decreases-characters
decreases-characters l = length l.rest
