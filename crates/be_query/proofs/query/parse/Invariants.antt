use Rattle.std.proofs.Common.{◌≡◌, ◌-◌, ◌≤◌, Some, [], length}
use denote.Text.{Utf8}
use denote.Shadow.{shadow}
use Rattle.be_query.specs.Reading.{Operand}
use Rattle.be_query.specs.Building.{nothing_built, build_from}
use Rattle.be_query.specs.Lexing.{lexemes, whole, tokens}
use Rattle.be_query.specs.Faults.{first_fault}
use Rattle.be_query.specs.View.{stage_of, state_of, fault_in, IsCounted}
use Rattle.be_query.proofs.Held.{StateKept}
use Rattle.be_query.proofs.query.parse.Given as goal

abbrev pub invariant-lexemes : goal.invariant-lexemes
invariant-lexemes l = record {
  utf8 : shadow (Utf8 l.rest);
  within : length l.rest ≤ length l.text;
  counted : IsCounted (stage_of l.stage) l.context;
  faults : fault_in (stage_of l.stage) l.context (length l.text) (lexemes 0 (length l.text - length l.rest) l.rest)
      ≡ first_fault Operand [] 0 (length l.text) (lexemes 0 0 l.text);
  built : build_from (Some (state_of (stage_of l.stage) l.context)) (whole (lexemes 0 (length l.text - length l.rest) l.rest)) ≡ build_from (Some nothing_built) (tokens l.text);
  kept : StateKept (state_of (stage_of l.stage) l.context);
}

abbrev pub decreases-lexemes : goal.decreases-lexemes
decreases-lexemes l = length l.rest
