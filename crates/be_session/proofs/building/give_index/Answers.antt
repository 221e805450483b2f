use Rattle.std.proofs.Common.{◌≡◌, List, ℕ, inr, refl, subst}
use Rattle.be_paged_building.specs.Errors.{IndexError}
use Rattle.be_store_building.specs.Building.{Refuses}
use Rattle.be_value.specs.declared.refusals.Refusal.{Refusal}
use Rattle.be_value.specs.declared.refusals.Refusal.TheVariants.{OutOfMemory}
use Rattle.be_session.proofs.building.give_index.Goals as goal

pub returns-in-Err-clause-err : goal.returns-in-Err-clause-err
returns-in-Err-clause-err c =
    let kind = c.in_ok-kind.kind in let b = c.args.builder.now in
    let refused : Refuses (IndexError b.volume c.args.name_bytes.now kind) (λ (why : Refusal). why ≡ OutOfMemory) b c.index.new.self c.in-Err.refusal =
    subst (λ (n : List ℕ). Refuses (IndexError b.volume n kind) (λ (why : Refusal). why ≡ OutOfMemory) b c.index.new.self c.in-Err.refusal) c.in_ok-called.ensures.ok.0 c.in-Err.ensures.err in
    inr (inr (kind, c.in_ok-called.ensures.named, c.in_ok-kind.ensures.ok, (c.in-Err.refusal, refl, refused)))
