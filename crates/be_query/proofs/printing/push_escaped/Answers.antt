use Rattle.std.proofs.Common.{◌++◌, ◌∙◌, sym, ap, is_ok, rules}
use Rattle.std.specs.Prelude.{string_bytes, codes}
use Rattle.std.proofs.ResultArms.{chosen}
use Rattle.std.proofs.lemmas.List.{append-nil}
use Rattle.be_query.specs.Printing.{with_backslashes}
use Rattle.be_query.specs.View.{only_if}
use Rattle.be_query.proofs.Escapes.{written}
use Rattle.be_query.proofs.Plain.{no_chars}
use Rattle.be_query.proofs.printing.push_escaped.Goals as goal

pub characters-preserved : goal.characters-preserved
characters-preserved c =
    let h = c.in-Some.ensures in
    record {
      utf8 = search rules;
      so_far = written (string_bytes c.characters.text) (string_bytes c.push_if.new.text) (string_bytes c.push.new.self) c.characters.rest.now c.in-Some.after.now c.in-Some.c _ h.split
          (c.in_ok-push_if.ensures ∙ ap (λ b. string_bytes c.characters.text ++ only_if b (codes "\\")) c.wants_backslash.ensures)
          (chosen _ _ _ _ c.push.ensures.bytes (ap is_ok c.in_ok-push.was))
          c.characters.invariant.so_far;
    }

pub returns : goal.returns
returns c =
    let e = no_chars c.characters.rest.now c.characters.invariant.utf8 c.in_default.ensures.empty in
    sym (append-nil (string_bytes c.characters.text)) ∙ ap (λ l. string_bytes c.characters.text ++ with_backslashes l) (sym e) ∙ c.characters.invariant.so_far
