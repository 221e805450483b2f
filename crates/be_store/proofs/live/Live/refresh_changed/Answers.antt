use Rattle.std.proofs.Common.{inl, sym, subst, ◌∙◌}
use Rattle.std.specs.List.Sorted.{IsStrictlyIncreasing}
use Rattle.be_store.specs.Passes.{volume_pinned}
use Rattle.be_store.proofs.Answering.{if_ok}
use Rattle.be_store.proofs.Caught.{but_now, if_err, learns_read, own_after, pin_kept, refreshed_so, refused_so, volume_read}
use Rattle.be_store.proofs.live.Live.refresh_changed.Goals as goal

pub refresh-requires-clause-pinned : goal.refresh-requires-clause-pinned
refresh-requires-clause-pinned c =
    (c.requires.pinned.0, pin_kept c.args.pass.now.knows c.find_changes.new.pass.knows c.requires.pinned.0 c.find_changes.ensures.learns c.requires.pinned.1)

pub returns-then-not-find_changes-clause-learns : goal.returns-then-not-find_changes-clause-learns
returns-then-not-find_changes-clause-learns c =
    learns_read c.args.pass.now.knows c.find_changes.new.pass.knows c.refresh.new.pass.knows c.find_changes.ensures.learns c.refresh.ensures.pass.1

pub returns-then-not-find_changes-clause-volume : goal.returns-then-not-find_changes-clause-volume
returns-then-not-find_changes-clause-volume c =
    volume_read c.args.pass.now.knows c.find_changes.new.pass.knows c.refresh.new.pass.knows c.find_changes.ensures.volume c.refresh.ensures.pass.1

pub returns-then-not-find_changes-clause-own : goal.returns-then-not-find_changes-clause-own
returns-then-not-find_changes-clause-own c =
    own_after c.refresh.result c.args.store.now c.args.self.now c.find_changes.new.self c.refresh.new.self _
    c.refresh.ensures.own c.refresh.ensures.err c.find_changes.ensures.same c.requires.own

pub returns-then-not-find_changes-clause-ok : goal.returns-then-not-find_changes-clause-ok
returns-then-not-find_changes-clause-ok c =
    let v = volume_pinned c.args.pass.now.knows in
    let w = volume_pinned c.find_changes.new.pass.knows in
    if_ok c.refresh.result _ _ (λ u h.
    refreshed_so v w c.args.self.now c.find_changes.new.self c.refresh.new.self u.created.items u.removed.items c.find_changes.ensures.volume c.find_changes.ensures.same h) c.refresh.ensures.ok

pub returns-then-not-find_changes-clause-err : goal.returns-then-not-find_changes-clause-err
returns-then-not-find_changes-clause-err c =
    let v = volume_pinned c.args.pass.now.knows in
    let w = volume_pinned c.find_changes.new.pass.knows in
    if_err c.refresh.result _ _ (λ e h.
    refused_so v w c.args.self.now c.find_changes.new.self c.refresh.new.self e c.find_changes.ensures.volume c.find_changes.ensures.same h) c.refresh.ensures.err

pub ask_changed-requires-clause-pinned : goal.ask_changed-requires-clause-pinned
ask_changed-requires-clause-pinned c =
    pin_kept c.args.pass.now.knows c.find_changes.new.pass.knows c.in-Some.pin c.find_changes.ensures.learns (sym c.pinned.ensures ∙ c.in-Some.is)

pub ask_changed-requires-clause-rising : goal.ask_changed-requires-clause-rising
ask_changed-requires-clause-rising c = subst IsStrictlyIncreasing (sym c.as_slice.ensures.value) c.find_changes.ensures.rising

pub ask_changed-requires-clause-others : goal.ask_changed-requires-clause-others
ask_changed-requires-clause-others c =
    but_now c.find_changes.new.nodes.items c.as_slice.result.now (volume_pinned c.args.pass.now.knows) (volume_pinned c.find_changes.new.pass.knows) c.args.self.now c.find_changes.new.self
    c.as_slice.ensures.value c.find_changes.ensures.volume c.find_changes.ensures.same (c.find_changes.ensures.others c.if-not-find_changes.false)

pub returns-clause-learns : goal.returns-clause-learns
returns-clause-learns c =
    learns_read c.args.pass.now.knows c.find_changes.new.pass.knows c.ask_changed.new.pass.knows c.find_changes.ensures.learns c.ask_changed.ensures.pass.1

pub returns-clause-volume : goal.returns-clause-volume
returns-clause-volume c =
    volume_read c.args.pass.now.knows c.find_changes.new.pass.knows c.ask_changed.new.pass.knows c.find_changes.ensures.volume c.ask_changed.ensures.pass.1

pub returns-clause-own : goal.returns-clause-own
returns-clause-own c =
    own_after c.ask_changed.result c.args.store.now c.args.self.now c.find_changes.new.self c.ask_changed.new.self _
    c.ask_changed.ensures.own c.ask_changed.ensures.err c.find_changes.ensures.same c.requires.own

pub returns-clause-ok : goal.returns-clause-ok
returns-clause-ok c =
    let v = volume_pinned c.args.pass.now.knows in
    let w = volume_pinned c.find_changes.new.pass.knows in
    if_ok c.ask_changed.result _ _ (λ u h.
    refreshed_so v w c.args.self.now c.find_changes.new.self c.ask_changed.new.self u.created.items u.removed.items c.find_changes.ensures.volume c.find_changes.ensures.same h) c.ask_changed.ensures.ok

pub returns-clause-err : goal.returns-clause-err
returns-clause-err c =
    if_err c.ask_changed.result _ _ (λ e h. (h.0 ∙ c.find_changes.ensures.same, inl h.1)) c.ask_changed.ensures.err
