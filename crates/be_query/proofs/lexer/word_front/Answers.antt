use Rattle.std.proofs.Common.{◌∙◌, ap, false, rules}
use Rattle.be_query.specs.Lexing.{word_span}
use Rattle.be_query.proofs.Fronts.{word_ends, before_ascii, word_token, word_broken}
use Rattle.be_query.proofs.Clean.{word_free}
use Rattle.be_query.proofs.lexer.word_front.Goals as goal

pub split_at-requires : goal.split_at-requires
split_at-requires c = let w = word_ends c.args.text.now c.in-Ends.len (c.in-Ends.ensures ∙ ap (word_span false) c.as_bytes.ensures.value) in before_ascii c.args.text.now c.in-Ends.len w.0 w.1

pub returns-in-Ends-clause-front : goal.returns-in-Ends-clause-front
returns-in-Ends-clause-front c = let r = c.requires in word_token c.args.text.now r.nonempty r.separator _ _ c.in-Ends.len r.quote r.sign r.nul (c.in-Ends.ensures ∙ ap (word_span false) c.as_bytes.ensures.value) c.split_at.ensures.front c.split_at.ensures.back

pub returns-in-Breaks-clause-front : goal.returns-in-Breaks-clause-front
returns-in-Breaks-clause-front c = let r = c.requires in word_broken c.args.text.now r.nonempty r.separator c.in-Breaks.len r.quote r.sign r.nul (c.in-Breaks.ensures ∙ ap (word_span false) c.as_bytes.ensures.value)

pub returns-in-Ends-clause-clean : goal.returns-in-Ends-clause-clean
returns-in-Ends-clause-clean c = (word_free c.in-Ends.len c.args.text.now _ (c.in-Ends.ensures ∙ ap (word_span false) c.as_bytes.ensures.value) c.split_at.ensures.front, search rules)
