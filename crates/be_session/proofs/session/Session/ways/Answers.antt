use Rattle.std.proofs.Common.{List, ℕ, [], ap, inl, refl, string_bytes, subst, sym, ◌∙◌}
use Rattle.std.proofs.lemmas.List.Elements.{All-nil}
use Rattle.be_table.specs.declared.pass.Knowledge.{Knowledge}
use Rattle.be_session.specs.Imports.{pinned_number, scan, volume_pinned}
use Rattle.be_session.specs.Sitting.{AtPin, ReadAnswers, Sitting}
use Rattle.be_session.specs.Ways.{ShowsWays, if_answered}
use Rattle.be_session.proofs.Asked.{refused}
use Rattle.be_session.proofs.session.Session.ways.Goals as goal

pub returns-in_err-ways-clause-text : goal.returns-in_err-ways-clause-text
returns-in_err-ways-clause-text c =
    let answer = c.from_residual.result in let f = c.args.query.now in let own = c.self.inside.pass.knows in
    subst (λ (k : Knowledge). (text : List ℕ) × ShowsWays (volume_pinned k) text × AtPin (pinned_number k.phase) answer (ReadAnswers string_bytes answer (if_answered text (scan (volume_pinned k) f))))
    (ap (λ (s : Sitting). s.knows) c.self.view_is) (
      [],
      ([], All-nil _, refl),
      refused string_bytes (pinned_number own.phase) c.in-Some.field-0 answer c.in_err-ways.field-0.0 (scan (volume_pinned own) f) (sym c.pinned.ensures ∙ c.in-Some.is)
          c.from_residual.ensures.1 c.in_err-ways.ensures.refused,
    )

pub returns-in_err-ways_text-clause-text : goal.returns-in_err-ways_text-clause-text
returns-in_err-ways_text-clause-text c =
    let answer = c.from_residual-in_err-ways_text.result in let f = c.args.query.now in let own = c.self.inside.pass.knows in
    subst (λ (k : Knowledge). (text : List ℕ) × ShowsWays (volume_pinned k) text × AtPin (pinned_number k.phase) answer (ReadAnswers string_bytes answer (if_answered text (scan (volume_pinned k) f))))
    (ap (λ (s : Sitting). s.knows) c.self.view_is) (
      [],
      ([], All-nil _, refl),
      refused string_bytes (pinned_number own.phase) c.in-Some.field-0 answer c.in_err-ways_text.field-0.0 (scan (volume_pinned own) f) (sym c.pinned.ensures ∙ c.in-Some.is)
          c.from_residual-in_err-ways_text.ensures.1 (inl c.in_err-ways_text.ensures.memory),
    )
