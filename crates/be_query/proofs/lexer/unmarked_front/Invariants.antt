use Rattle.std.proofs.Common.{◌≡◌, ◌-◌, ◌≤◌, false, take, length}
use Rattle.std.specs.List.{list_any}
use Rattle.be_query.specs.Lexing.{is_mark}
use Rattle.be_query.proofs.lexer.unmarked_front.Given as goal

abbrev pub invariant-steps : goal.invariant-steps
invariant-steps l = record {
  within : l.at ≤ length l.bytes;
  unmarked : list_any (is_mark l.fn.quote) (take l.at l.bytes) ≡ false;
}

abbrev pub decreases-steps : goal.decreases-steps
decreases-steps l = length l.bytes - l.at
