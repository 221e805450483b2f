use Rattle.std.proofs.Common.{◌≡◌, true, sym, ap, subst, ◌∙◌, IfSome, option_map}
use Rattle.be_table.specs.History.{StartsWith}
use Rattle.be_table.specs.declared.pass.Knowledge.{Knowledge}
use Rattle.be_table.specs.Place.{Opened}
use Rattle.be_table.specs.Setting.{Setting as Limits}
use Rattle.be_store.specs.Live.{IsAnswerBut, IsLiveOf, LiveQuery}
use Rattle.be_store.specs.Marks.{IsMarked, opened_of}
use Rattle.be_store.specs.Passes.{volume_pinned}
use Rattle.be_store.proofs.Caught.{found_changes}
use Rattle.be_store.proofs.live.Live.find_changes.Goals as goal
use Rattle.be_store.proofs.live.Live.find_changes.Goals.{then-found, else-found}

pub returns-clause-others : goal.returns-clause-others
returns-clause-others c h =
    let found : c.add_named_between-found.result ≡ true = elim c.if-found.branch [
      | then-found w ↦ w.if-found.true
      | else-found w ↦ sym w.result-is ∙ h
    ] in
    let a = c.args.pass.now.knows in
    let b = c.join.new.pass.knows in
    let inside = c.self.inside in
    let mark = c.in-Some.mark in
    let nodes = c.add_named_between-found.new.nodes.items in
    let marked = subst (λ o. IsMarked inside.query inside.last.items o) (sym c.take.ensures.value ∙ c.in-Some.is) c.self.invariant.1 in
    let seen = ap (λ (k : Knowledge). k.seen) c.join.ensures.pass.1 in
    let store = c.args.store.now in
    let own = subst (IsLiveOf store) (sym c.self.view_is) c.requires.own in
    let opened : opened_of mark ≡ store = subst (λ o. IfSome (option_map opened_of o) (λ t. t ≡ store)) (sym c.take.ensures.value ∙ c.in-Some.is) own in
    let begun : mark.setting.value.volume ≡ a.limits.volume = ap (λ (t : Opened). t.limits.volume) opened ∙ ap (λ (l : Limits). l.volume) (sym c.requires.pass.0.2) in
    subst (λ (l : LiveQuery). IsAnswerBut nodes (volume_pinned a) l.query l.last) c.self.view_is
    (found_changes a b mark.setting.value.volume mark.witness.seen nodes inside.last.items inside.query mark.number c.args.pin c.is_pass.ensures c.is_pass-2.ensures begun (ap (λ (k : Knowledge). k.limits) c.join.ensures.pass.1) c.requires.pinned
    (subst (λ l. StartsWith l a.seen) (sym seen) c.join.ensures.pass.0) (subst (λ l. StartsWith l mark.witness.seen) (sym seen) c.join.ensures.witness.0)
    marked.1 (c.add_named_between-found.ensures.order found) marked.2 (c.add_named_between-found.ensures.named found))
