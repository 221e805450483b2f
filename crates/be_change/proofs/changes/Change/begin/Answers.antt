use Rattle.std.proofs.Common.{◌∙◌, inr, subst, sym}
use Rattle.be_store.specs.History.{Pins}
use Rattle.be_change.proofs.Written.{read_change}
use Rattle.be_change.proofs.changes.Change.begin.Goals as goal

pub returns-in-Ok-clause-ok : goal.returns-in-Ok-clause-ok
returns-in-Ok-clause-ok c =
    let a = c.args.pass.now.knows in
    let b = c.pin-number.new.pass.knows in
    let d = c.at_pin-in-None.new.pass.knows in
    let ok = c.in-Ok.ensures.ok in record {
      of = read_change c.in-Ok.change b d c.in-Ok.ensures.pass.1 ok.0;
      by = ok.5;
      empty = ok.2;
      checks_are = ok.3 ∙ c.are_checked-checks_kinds.ensures;
      pass = inr (ok.4, b, subst (Pins a b) (sym ok.1) c.pin-number.ensures.pin, c.in-Ok.ensures.pass.1);
    }

pub returns-in-Err-clause-err : goal.returns-in-Err-clause-err
returns-in-Err-clause-err c = (
  c.in-Err.ensures.err,
  inr (
    c.pin-number.result,
    c.pin-number.new.pass.knows,
    c.at_pin-in-None.new.pass.knows,
    c.pin-number.ensures.pin,
    c.in-Err.ensures.pass.1,
    (c.unpin.ensures.unpinned, c.unpin.ensures.moves.made),
  ),
)
