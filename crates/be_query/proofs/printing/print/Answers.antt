use Rattle.std.proofs.Common.{◌≡◌, ◌++◌, sym, ap, ◌∙◌, subst}
use Rattle.std.specs.Prelude.{string_bytes}
use Rattle.be_query.specs.Grammar.{IsTextOf}
use Rattle.be_query.specs.Printing.{or_text}
use Rattle.be_query.specs.View.{formula}
use Rattle.be_query.proofs.Kept.{kept_parses, one_text}
use Rattle.be_query.proofs.printing.print.Goals as goal

pub returns-clause-parses : goal.returns-clause-parses
returns-clause-parses c =
    let e : string_bytes c.push_tree.new.text ≡ or_text c.args.query.now = c.in_ok-push_tree.ensures.ok ∙ ap (λ x. x ++ or_text (formula c.tree.result.now)) c.new-text.ensures.bytes ∙ ap or_text c.tree.ensures.tree in
    subst (λ x. IsTextOf x c.args.query.now) (sym e) (kept_parses c.args.query.now c.tree.ensures.kept)

pub returns-clause-alone : goal.returns-clause-alone
returns-clause-alone c tree h =
    let e : string_bytes c.push_tree.new.text ≡ or_text c.args.query.now = c.in_ok-push_tree.ensures.ok ∙ ap (λ x. x ++ or_text (formula c.tree.result.now)) c.new-text.ensures.bytes ∙ ap or_text c.tree.ensures.tree in
    one_text (string_bytes c.push_tree.new.text) tree c.args.query.now h (subst (λ x. IsTextOf x c.args.query.now) (sym e) (kept_parses c.args.query.now c.tree.ensures.kept))
