use Rattle.std.proofs.Common.{◌+◌, ◌*◌, ap, ◌∙◌, length, arith}
use Rattle.be_table.specs.Rule.{pass_of}
use Rattle.be_table.proofs.Worked.{worked_none}
use Rattle.be_table.proofs.writing.Writing.of.Goals as goal

pub invariant_of-result : goal.invariant_of-result
invariant_of-result c = let l = c.requires.writer_state in let p = c.requires.pass in record {
  table_is = c.requires.seat.0;
  me_is = c.requires.seat.1;
  number_is = p.0;
  limits_are = p.1;
  small = p.2;
  writes = p.3;
  journal = l.journal;
  limit = l.limit ∙ ap (λ x. x.commits) p.1;
  left = l.left;
  page = l.page;
  places = l.places;
  count = ap length l.places ∙ l.count ∙ ap (λ x. x.pages) p.1;
  size = l.size ∙ ap (λ x. 528 + 512 * x.pages) p.1;
  turn = c.requires.turn;
  pin = c.requires.pin;
  pass = p.4;
  room = λ e. absurd (omega arith);
  worked = λ _. worked_none (pass_of c.args.base.me.0).limits (pass_of c.args.base.me.0).number (pass_of c.args.base.me.0).history c.requires.begun;
}
