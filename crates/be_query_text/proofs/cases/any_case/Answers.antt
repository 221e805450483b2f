use Rattle.std.proofs.Common.{◌++◌, ◌∙◌, ap, sym, rules}
use Rattle.std.specs.Prelude.{encode_utf8_all, string_bytes}
use Rattle.std.specs.Str.{chars}
use Rattle.std.proofs.lemmas.List.{append-nil}
use Rattle.be_pattern.proofs.Texts.{piece}
use Rattle.be_query_text.specs.Cases.{any_case, any_case_char, others, set_text}
use Rattle.be_query_text.proofs.Sets.{any_case_token, matches_any_case}
use Rattle.be_query_text.proofs.cases.any_case.Goals as goal

pub characters-preserved : goal.characters-preserved
characters-preserved c =
    let h = c.in-Some.ensures in
    let old = string_bytes c.characters.pattern in
    record {
      utf8 = search rules;
      so_far = piece old (string_bytes c.push_any_case.new.pattern) (any_case_char c.in-Some.c) (any_case (chars c.in-Some.after.now)) _
          (c.in_ok-push_any_case.ensures ∙ ap (λ f. old ++ encode_utf8_all (set_text f (others f))) c.simple_fold.ensures)
          (ap (λ l. old ++ encode_utf8_all (any_case l)) (sym h.chars) ∙ c.characters.invariant.so_far);
    }

pub returns-clause-matches : goal.returns-clause-matches
returns-clause-matches c = matches_any_case (string_bytes c.characters.pattern) c.args.text.now c.utf8.text
    (sym (append-nil (string_bytes c.characters.pattern)) ∙ ap (λ l. string_bytes c.characters.pattern ++ encode_utf8_all (any_case l)) (sym c.in_default.ensures.empty) ∙ c.characters.invariant.so_far)

pub returns-clause-token : goal.returns-clause-token
returns-clause-token c = λ z. any_case_token (string_bytes c.characters.pattern) c.args.text.now c.utf8.text
    (sym (append-nil (string_bytes c.characters.pattern)) ∙ ap (λ l. string_bytes c.characters.pattern ++ encode_utf8_all (any_case l)) (sym c.in_default.ensures.empty) ∙ c.characters.invariant.so_far) z
