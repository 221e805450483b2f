use Rattle.std.proofs.Common.{◌≡◌, ◌<◌, ◌≤◌, ◌+◌, true, false, [], ◌∷◌, ◌++◌, arith, get_or, length, subst, take, sym, ap, ◌∙◌}
use Rattle.std.proofs.lemmas.List.{append-nil, take_all, take_more}
use Rattle.be_store.specs.Live.{is_among, without}
use Rattle.be_store.proofs.Answering.{after_next, below_next, below_next_held, between_lack, beyond, beyond_held, held_at, lacks_this, part_kept, rest_lack, without_more}
use Rattle.be_store.proofs.live.changes.Goals as goal
use Rattle.be_store.proofs.live.changes.Goals.{then-is_at, else-is_at+in_ok-push}

pub loop-node-preserved : goal.loop-node-preserved
loop-node-preserved c =
    let now = c.args.now.now in
    let last = c.args.last.now in
    let k = c.loop-node.node-index in
    let n = get_or now k 0 in
    let at = c.loop-node.at in
    let next = c.first_not_below-next.result in
    let up = c.requires.rising.1 in
    let up_last = c.requires.rising.0 in
    let inside = c.loop-node-test.true in
    let was = c.loop-node.invariant in
    let range = c.first_not_below-next.ensures.range in
    let between = c.first_not_below-next.ensures.below in
    let not_below = c.first_not_below-next.ensures.not_below in
    let more : take (k + 1) now ≡ take k now ++ n ∷ [] = take_more now k 0 inside in
    let gone : c.push_part.new.list.items ≡ without (take next last) now =
    part_kept last now at next range.0 range.1 (between_lack now last up up_last k at next inside was.below between not_below was.above range.1)
    c.loop-node.removed.items c.push_part.new.list.items was.removed c.in_ok-push_part.ensures.ok in
    record {
      created = elim c.if-is_at.branch [
        | then-is_at w ↦
            (let there = c.is_at.ensures.found w.if-is_at.true in
            let among : is_among last n ≡ true = held_at last n next there.0 there.1 in
            ap (λ (v : _). v.items) w.created-is ∙ (was.created ∙ sym (ap (λ l. without l last) more ∙ (without_more (take k now) last n true among ∙ append-nil (without (take k now) last)))))
        | else-is_at+in_ok-push w ↦
            (let lacking : is_among last n ≡ false = lacks_this now last up up_last k at next inside was.below between not_below (c.is_at.ensures.missing w.if-is_at.false) in
            ap (λ (v : _). v.items) w.created-is ∙ (w.in_ok-push.ensures.items ∙ (ap (λ l. l ++ n ∷ []) was.created ∙ sym (ap (λ l. without l last) more ∙ without_more (take k now) last n false lacking))))
      ];
      removed = elim c.if-is_at.branch [
        | then-is_at w ↦
            (let there = c.is_at.ensures.found w.if-is_at.true in
            let among : is_among now (get_or last next 0) ≡ true = held_at now (get_or last next 0) k inside (sym there.1) in
            let one : take (next + 1) last ≡ take next last ++ get_or last next 0 ∷ [] = take_more last next 0 there.0 in
            let skipped : without (take (next + 1) last) now ≡ without (take next last) now =
            ap (λ l. without l now) one ∙ (without_more (take next last) now (get_or last next 0) true among ∙ append-nil (without (take next last) now)) in
            gone ∙ (sym skipped ∙ ap (λ a. without (take a last) now) (sym w.at-is)))
        | else-is_at+in_ok-push w ↦ gone ∙ ap (λ a. without (take a last) now) (sym w.at-is)
      ];
      inside = elim c.if-is_at.branch [
        | then-is_at w ↦ (let there = c.is_at.ensures.found w.if-is_at.true in subst (λ a. a ≤ length last) (sym w.at-is) (omega (arith, there.0)))
        | else-is_at+in_ok-push w ↦ subst (λ a. a ≤ length last) (sym w.at-is) range.1
      ];
      below = λ i j lt le short. elim c.if-is_at.branch [
        | then-is_at w ↦
            (let there = c.is_at.ensures.found w.if-is_at.true in
            below_next_held now last up up_last k at next inside was.below between not_below there.1 i j (subst (λ a. i < a) w.at-is lt) le short)
        | else-is_at+in_ok-push w ↦ below_next now last up up_last k at next inside was.below between not_below i j (subst (λ a. i < a) w.at-is lt) le short
      ];
      above = λ i j le short lt. elim c.if-is_at.branch [
        | then-is_at w ↦
            (let there = c.is_at.ensures.found w.if-is_at.true in
            after_next now last up up_last k at next inside was.below between not_below was.above (next + 1) (omega (arith, range.0))
            (beyond_held now last up up_last k at next inside was.below between not_below there.1) i j (subst (λ a. a ≤ i) w.at-is le) short lt)
        | else-is_at+in_ok-push w ↦
            after_next now last up up_last k at next inside was.below between not_below was.above next range.0
            (beyond now last up up_last k at next inside was.below between not_below (c.is_at.ensures.missing w.if-is_at.false)) i j (subst (λ a. a ≤ i) w.at-is le) short lt
      ];
    }

pub returns-clause-ok : goal.returns-clause-ok
returns-clause-ok c =
    let now = c.args.now.now in
    let last = c.args.last.now in
    let k = c.loop-node.node-index in
    let was = c.loop-node.invariant in
    let all : length now ≤ k = omega (arith, c.loop-node-test.false) in
    let gone : c.push_part-2.new.list.items ≡ without (take (length last) last) now =
    part_kept last now c.loop-node.at (length last) was.inside (omega arith) (rest_lack now last k c.loop-node.at all was.above)
    c.loop-node.removed.items c.push_part-2.new.list.items was.removed c.in_ok-push_part-2.ensures.ok in
    (was.created ∙ ap (λ l. without l last) (take_all k now all), gone ∙ ap (λ l. without l now) (take_all (length last) last (omega arith)))
