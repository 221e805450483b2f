use Rattle.std.proofs.Common.{◌≡◌, ◌++◌, length}
use Rattle.std.specs.Prelude.{encode_utf8_all, string_bytes}
use Rattle.std.specs.Str.{chars}
use denote.Text.{Utf8}
use denote.Shadow.{shadow}
use Rattle.be_query_text.specs.Encoded.{escaped}
use Rattle.be_query_text.proofs.escaping.escaped.Given as goal

abbrev pub invariant-characters : goal.invariant-characters
invariant-characters l = record {
  utf8 : shadow (Utf8 l.rest);
  so_far : string_bytes l.escaped ++ encode_utf8_all (escaped (chars l.rest)) ≡ encode_utf8_all (escaped (chars l.text));
}

abbrev pub decreases-characters : goal.decreases-characters
decreases-characters l = length l.rest
