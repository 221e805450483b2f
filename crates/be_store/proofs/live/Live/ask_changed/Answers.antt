use Rattle.std.proofs.Common.{◌≡◌, ◌&&◌, not, ℕ, List, filter, refl, sym, ap, subst, ◌∙◌, arith}
use Rattle.std.specs.List.Sorted.{IsStrictlyIncreasing}
use Rattle.be_table.specs.Place.{Opened}
use Rattle.be_table.specs.declared.pass.Knowledge.{Knowledge}
use Rattle.be_volume.specs.Query.{sat}
use Rattle.be_store.specs.Live.{IsAnswer, LiveQuery, is_among}
use Rattle.be_store.specs.Passes.{volume_pinned}
use Rattle.be_store.proofs.Answering.{refreshes}
use Rattle.be_store.proofs.Caught.{changed_so, mark_at, on_ok, pinned_sound, same_opened}
use Rattle.be_store.proofs.live.Live.ask_changed.Goals as goal

pub put_in-requires-clause-room : goal.put_in-requires-clause-room
put_in-requires-clause-room c = omega (arith, c.in_ok-reserve.ensures.ok, c.take_out.ensures.room.0, c.take_out.ensures.room.1, c.len.ensures, c.as_slice-2.ensures.len)

pub invariant_of-self-2 : goal.invariant_of-self-2
invariant_of-self-2 c =
    let a = c.args.pass.now.knows in
    let v = volume_pinned a in
    let w = volume_pinned c.reader-look.result.0.knows in
    let old = c.args.self.now in
    let g = c.query.result.now in
    let list = c.as_slice-list.result.now in
    let nodes = c.args.nodes.now in
    let came = c.ask_each-look.new.updates.created.items in
    let went = c.ask_each-look.new.updates.removed.items in
    let last_of : LiveQuery → List ℕ = λ l. l.last in
    let came_is = on_ok c.ask_each-look.result.1 c.in_ok-answer.field-0 (came ≡ filter (λ n. sat w g n && not (is_among list n)) nodes) c.in_ok-answer.was c.ask_each-look.ensures.created in
    let went_is = on_ok c.ask_each-look.result.1 c.in_ok-answer.field-0 (went ≡ filter (λ n. is_among list n && not (sat w g n)) nodes) c.in_ok-answer.was c.ask_each-look.ensures.removed in
    let so = changed_so v w old.query g nodes old.last list c.put_in.new.list.items came went c.as_slice.result.now c.as_slice-2.result.now c.take_out.new.list.items c.reserve.new.self.items
    (pinned_sound a c.args.pin c.is_pass.ensures c.requires.pinned) c.requires.rising (subst (λ (l : LiveQuery). IsStrictlyIncreasing l.last) c.self.view_is c.self.invariant.0) c.put_in.ensures.rising c.requires.others
    (ap volume_pinned c.reader-look.ensures.look.1) (c.query.ensures ∙ ap (λ (l : LiveQuery). l.query) c.self.view_is) (c.as_slice-list.ensures.value ∙ ap last_of c.self.view_is) came_is went_is
    (c.in_ok-reserve.ensures.items ∙ ap last_of c.self.view_is) c.as_slice.ensures.value c.as_slice-2.ensures.value c.take_out.ensures.left c.put_in.ensures.both in
    let seen = c.witness-witness.ensures.witness.1
    ∙ (ap (λ (k : Knowledge). k.seen) c.into_seat.ensures.1 ∙ (ap (λ (x : Opened × Knowledge). x.1.seen) c.ask_each-look.ensures.kept ∙ ap (λ (k : Knowledge). k.seen) c.reader-look.ensures.look.1)) in (
      c.put_in.ensures.rising,
      mark_at c.self.inside.query c.put_in.new.list.items a (record { witness = c.witness-witness.result; number = c.args.pin; setting = c.setting-setting.result }) (c.setting-setting.ensures ∙ sym c.requires.pass.0.2) c.is_pass.ensures c.requires.pinned c.witness-witness.ensures.witness.0.0 seen
          (subst (λ (l : LiveQuery). IsAnswer v l.query c.put_in.new.list.items) (sym c.self.view_is) so.0),
    )

pub returns-clause-ok : goal.returns-clause-ok
returns-clause-ok c =
    let a = c.args.pass.now.knows in
    let v = volume_pinned a in
    let w = volume_pinned c.reader-look.result.0.knows in
    let old = c.args.self.now in
    let g = c.query.result.now in
    let list = c.as_slice-list.result.now in
    let nodes = c.args.nodes.now in
    let came = c.ask_each-look.new.updates.created.items in
    let went = c.ask_each-look.new.updates.removed.items in
    let last_of : LiveQuery → List ℕ = λ l. l.last in
    let came_is = on_ok c.ask_each-look.result.1 c.in_ok-answer.field-0 (came ≡ filter (λ n. sat w g n && not (is_among list n)) nodes) c.in_ok-answer.was c.ask_each-look.ensures.created in
    let went_is = on_ok c.ask_each-look.result.1 c.in_ok-answer.field-0 (went ≡ filter (λ n. is_among list n && not (sat w g n)) nodes) c.in_ok-answer.was c.ask_each-look.ensures.removed in
    let so = changed_so v w old.query g nodes old.last list c.put_in.new.list.items came went c.as_slice.result.now c.as_slice-2.result.now c.take_out.new.list.items c.reserve.new.self.items
    (pinned_sound a c.args.pin c.is_pass.ensures c.requires.pinned) c.requires.rising (subst (λ (l : LiveQuery). IsStrictlyIncreasing l.last) c.self.view_is c.self.invariant.0) c.put_in.ensures.rising c.requires.others
    (ap volume_pinned c.reader-look.ensures.look.1) (c.query.ensures ∙ ap (λ (l : LiveQuery). l.query) c.self.view_is) (c.as_slice-list.ensures.value ∙ ap last_of c.self.view_is) came_is went_is
    (c.in_ok-reserve.ensures.items ∙ ap last_of c.self.view_is) c.as_slice.ensures.value c.as_slice-2.ensures.value c.take_out.ensures.left c.put_in.ensures.both in
    refreshes v old _ c.put_in.new.list.items came went so.1 (ap (λ (l : LiveQuery). l.query) c.self.view_is) refl so.2 so.3

pub returns-clause-own : goal.returns-clause-own
returns-clause-own c = same_opened c.args.store.now c.witness-witness.result.table c.setting-setting.result.value c.witness-witness.ensures.witness.0.1 c.setting-setting.ensures
