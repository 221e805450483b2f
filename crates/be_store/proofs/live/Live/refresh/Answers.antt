use Rattle.std.proofs.Common.{List, ℕ, refl, sym, ap, ◌∙◌}
use Rattle.be_table.specs.declared.pass.Knowledge.{Knowledge}
use Rattle.be_volume.specs.Query.{scan}
use Rattle.be_store.specs.Live.{LiveQuery, without}
use Rattle.be_store.specs.Passes.{volume_pinned}
use Rattle.be_store.proofs.Answering.{refreshes}
use Rattle.be_store.proofs.Caught.{mark_at, pinned_sound, same_opened, scan_is_answer}
use Rattle.be_store.proofs.live.Live.refresh.Goals as goal

pub invariant_of-self-2 : goal.invariant_of-self-2
invariant_of-self-2 c =
    let a = c.args.pass.now.knows in
    let v = volume_pinned a in
    let q = c.query_prepared.new.query in
    let nodes = c.query_prepared.new.nodes.items in
    let number = c.in_ok-number.number in
    let pin = c.in_ok-number.ensures.pin in
    let answer = scan_is_answer v q nodes (pinned_sound a number c.is_pass.ensures pin) (ap (scan v) c.query_prepared.ensures.same ∙ c.in_ok-number.ensures.nodes) in (
      c.in_ok-number.ensures.rising,
      mark_at q nodes a (record { witness = c.witness-witness.result; number = number; setting = c.setting-setting.result }) (c.setting-setting.ensures ∙ sym c.requires.pass.0.2) c.is_pass.ensures pin c.witness-witness.ensures.witness.0.0
          (c.witness-witness.ensures.witness.1 ∙ ap (λ (k : Knowledge). k.seen) c.query_prepared.ensures.pass.1) answer,
    )

pub returns-clause-ok : goal.returns-clause-ok
returns-clause-ok c =
    let v = volume_pinned c.args.pass.now.knows in
    let last = c.as_slice.ensures.value ∙ ap (λ (l : LiveQuery). l.last) c.self.view_is in
    let now = c.as_slice-2.ensures.value in
    let reported = c.in_ok-updates.ensures.ok in
    refreshes v c.args.self.now _ c.query_prepared.new.nodes.items c.in_ok-updates.updates.created.items c.in_ok-updates.updates.removed.items
    (ap (λ (l : LiveQuery). scan v l.query) (sym c.self.view_is) ∙ c.in_ok-number.ensures.nodes)
    (c.query_prepared.ensures.same ∙ ap (λ (l : LiveQuery). l.query) c.self.view_is) refl
    (reported.0 ∙ ap (λ (x : List ℕ × List ℕ). without x.0 x.1) (λ i. (now i, last i)))
    (reported.1 ∙ ap (λ (x : List ℕ × List ℕ). without x.0 x.1) (λ i. (last i, now i)))

pub returns-clause-own : goal.returns-clause-own
returns-clause-own c = same_opened c.args.store.now c.witness-witness.result.table c.setting-setting.result.value c.witness-witness.ensures.witness.0.1 c.setting-setting.ensures
