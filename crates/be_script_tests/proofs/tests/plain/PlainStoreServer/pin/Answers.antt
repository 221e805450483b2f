use Rattle.std.proofs.Common.{◌≡◌, ℕ, Some, length, ap, ◌∙◌}
use Rattle.be_script_runner.specs.Store.{Store, Meanwhile, pinned}
use Rattle.be_script_runner.proofs.JoinLemmas.{at_once}
use Rattle.be_script_tests.proofs.tests.plain.PlainStoreServer.pin.Goals as goal

abbrev pinned_after : Store → ℕ → Store
pinned_after s n = record s { pin = Some (record { number = n; volume = s.volume }) }

pins_at_once : (inside now : Store) (n : ℕ) → inside ≡ now → n ≡ length inside.journal → Meanwhile now (λ s. (pinned_after inside n ≡ pinned s) × (n ≡ length s.journal))
pins_at_once inside now n same count =
    at_once now (λ s. (pinned_after inside n ≡ pinned s) × (n ≡ length s.journal)) (ap (pinned_after inside) count ∙ ap pinned same, count ∙ ap (λ (s : Store). length s.journal) same)

pub returns-clause-pins : goal.returns-clause-pins
returns-clause-pins c = pins_at_once _ c.args.self.now c.len-number.result c.self.view_is c.len-number.ensures.len
