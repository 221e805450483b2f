use Rattle.std.proofs.Common.{◌≤◌, ◌∙◌, List, sym, ap, subst, count_by, map}
use Rattle.be_pages.specs.declared.page_pool.Place.{Place}
use Rattle.be_pages.specs.declared.page_pool.Ending.TheVariants.{Published}
use Rattle.be_pages.specs.PagePool.{places}
use Rattle.be_pages.specs.Place.{is_expired, place_after, retired_at, swept_place}
use Rattle.be_pages.proofs.Marks.{after_counted, after_seen, newest_unseen}
use Rattle.be_pages.proofs.page_pool.PagePool.publish.Goals as goal

pub end-requires : goal.end-requires
unfolding places
end-requires c =
    let pool = c.lower.new.self in
    record { newest = newest_unseen pool.mark c.args.number pool.lists.places.items c.lower.ensures.mark (λ q. subst (λ (xs : List Place). retired_at xs q ≤ c.args.number) (sym c.lower.ensures.same) (c.requires.newest q)) }

pub invariant_of-self : goal.invariant_of-self
invariant_of-self c =
    let pool = c.lower.new.self in
    record { counted = pool.counted ∙ sym (ap (count_by (is_expired pool.mark)) c.end.ensures ∙ after_counted pool.mark (Published c.args.number) c.lower.ensures.mark pool.lists.places.items) }

pub returns : goal.returns
unfolding places
returns c =
    let pool = c.lower.new.self in
    ap (map (swept_place pool.mark)) c.end.ensures ∙ after_seen pool.mark (Published c.args.number) c.lower.ensures.mark pool.lists.places.items ∙ ap (map (place_after (Published c.args.number))) c.lower.ensures.same
