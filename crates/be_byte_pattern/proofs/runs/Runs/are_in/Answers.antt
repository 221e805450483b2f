use Rattle.std.proofs.Common.{◌++◌, map, sym, ap, ◌∙◌}
use Rattle.std.specs.Prelude.{string_bytes}
use Rattle.be_pattern.specs.Match.{Only, matches}
use Rattle.be_byte_pattern.specs.Runs.{after_stars}
use Rattle.be_byte_pattern.proofs.LiteralRuns.{run_missing, run_taken}
use Rattle.be_byte_pattern.proofs.runs.Runs.are_in.Goals as goal

pub returns-in-Some : goal.returns-in-Some
returns-in-Some c =
    let front = string_bytes c.args.self.now.front in
    let later = after_stars (map string_bytes c.args.self.now.later.items) in
    c.follow.ensures ∙ ap (λ l. matches (after_stars (map string_bytes l)) c.in-Some.rest.now) c.as_slice.ensures.value
    ∙ sym (run_taken front c.in-Some.rest.now later)
    ∙ ap (λ l. matches (map Only front ++ later) (l ++ c.in-Some.rest.now)) (sym c.as_bytes.ensures.value)
    ∙ ap (matches (map Only front ++ later)) (sym c.in-Some.ensures.some)

pub returns-in-None : goal.returns-in-None
returns-in-None c =
    let front = string_bytes c.args.self.now.front in
    let later = after_stars (map string_bytes c.args.self.now.later.items) in
    sym (run_missing front c.args.text.now later (λ rest e. c.in-None.ensures.none rest (e ∙ ap (λ l. l ++ rest) (sym c.as_bytes.ensures.value))))
