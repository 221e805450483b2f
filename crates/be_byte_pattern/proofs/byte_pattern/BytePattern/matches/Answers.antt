use Rattle.std.proofs.Common.{◌≡◌, Some, Option, subst, ap, ◌∙◌}
use Rattle.std.specs.Prelude.{IfSome, List}
use Rattle.std.specs.Str.{chars}
use Rattle.be_pattern.specs.Match.{Part, matches}
use Rattle.be_byte_pattern.specs.Runs.{IsOfRuns}
use Rattle.be_byte_pattern.specs.declared.runs.Runs.{Runs}
use Rattle.be_byte_pattern.proofs.Bytes.{runs_match}
use Rattle.be_byte_pattern.proofs.byte_pattern.BytePattern.matches.Goals as goal

at_some : (ps : List Part) (o : Option Runs) (runs : Runs) → o ≡ Some runs → IfSome o (λ r. IsOfRuns ps r) → IsOfRuns ps runs
at_some ps o runs e h = subst (λ (x : Option Runs). IfSome x (λ r. IsOfRuns ps r)) e h

pub returns-in-Some : goal.returns-in-Some
returns-in-Some c = λ utf8.
    let inside = c.self.inside in
    c.are_in.ensures
    ∙ runs_match inside.pattern.now c.in-Some.runs c.args.text.now (at_some inside.pattern.now inside.runs c.in-Some.runs c.in-Some.is c.self.invariant) utf8
    ∙ ap (λ ps. matches ps (chars c.args.text.now)) c.self.view_is
