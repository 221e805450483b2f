use Rattle.std.proofs.Common.{◌∙◌, ap, arith, false, length, subst, IsUtf8, rules}
use Rattle.std.proofs.lemmas.Str.{IsCharBoundary-after_ascii}
use Rattle.be_query.specs.Lexing.{quoted_span, is_quote, is_separator}
use Rattle.be_query.proofs.Fronts.{quote_ascii, quoted_ends, before_ascii, quoted_breaks, tail_boundary, quoted_token, quoted_broken}
use Rattle.be_query.proofs.Clean.{quoted_free}
use Rattle.be_query.proofs.lexer.quoted_front.Goals as goal

pub split_at-requires : goal.split_at-requires
split_at-requires c = let a = quote_ascii c.args.quote c.requires.quote in IsCharBoundary-after_ascii c.args.text.now 0 c.utf8.text c.requires.nonempty (omega (arith, c.requires.first))

pub split_at-requires-in-Ends : goal.split_at-requires-in-Ends
split_at-requires-in-Ends c =
    let a = quote_ascii c.args.quote c.requires.quote in
    let w = quoted_ends c.args.quote c.split_at.result.1.now c.in-Ends.len (c.in-Ends.ensures ∙ ap (quoted_span c.args.quote false) c.as_bytes.ensures.value) in
    before_ascii c.split_at.result.1.now c.in-Ends.len (omega arith) (λ l. omega (arith, w.1))

pub split_at-requires-in-Ends-2 : goal.split_at-requires-in-Ends-2
split_at-requires-in-Ends-2 c = tail_boundary c.args.quote c.split_at.result.1.now c.split_at-in-Ends.result.1.now c.in-Ends.len (subst IsUtf8 c.as_bytes.ensures.value c.as_bytes.ensures.utf8) (quote_ascii c.args.quote c.requires.quote) (c.in-Ends.ensures ∙ ap (quoted_span c.args.quote false) c.as_bytes.ensures.value) c.split_at-in-Ends.ensures.back

pub overflow_add-result : goal.overflow_add-result
overflow_add-result c = let n = quoted_breaks c.args.quote c.split_at.result.1.now c.in-Breaks.len (c.in-Breaks.ensures ∙ ap (quoted_span c.args.quote false) c.as_bytes.ensures.value) in let t = c.as_bytes.type_inv in let l = ap length c.as_bytes.ensures.value in omega arith

pub returns-in-Ends-clause-front : goal.returns-in-Ends-clause-front
returns-in-Ends-clause-front c =
    let r = c.requires in
    quoted_token c.args.text.now r.nonempty (ap is_separator r.first ∙ r.separator) c.args.quote c.split_at.result.1.now _ _ _ c.in-Ends.len r.first (ap is_quote r.first ∙ r.quote) c.split_at.ensures.back (c.in-Ends.ensures ∙ ap (quoted_span c.args.quote false) c.as_bytes.ensures.value) c.split_at-in-Ends.ensures.front c.split_at-in-Ends.ensures.back c.split_at-in-Ends-2.ensures.back

pub returns-in-Breaks-clause-front : goal.returns-in-Breaks-clause-front
returns-in-Breaks-clause-front c = let r = c.requires in quoted_broken c.args.text.now r.nonempty (ap is_separator r.first ∙ r.separator) c.args.quote c.split_at.result.1.now c.in-Breaks.len r.first (ap is_quote r.first ∙ r.quote) c.split_at.ensures.back (c.in-Breaks.ensures ∙ ap (quoted_span c.args.quote false) c.as_bytes.ensures.value)

pub returns-in-Ends-clause-clean : goal.returns-in-Ends-clause-clean
returns-in-Ends-clause-clean c = (quoted_free c.args.quote c.in-Ends.len c.split_at.result.1.now _ (c.in-Ends.ensures ∙ ap (quoted_span c.args.quote false) c.as_bytes.ensures.value) c.split_at-in-Ends.ensures.front, search rules)
