use Rattle.std.proofs.Common.{◌≡◌, List, ℕ, sym, ◌∙◌}
use Rattle.std.specs.Cmp.Lexicographic.{slice_cmp}
use Rattle.std.specs.Ordering.{nat_cmp}
use Rattle.be_paged_building.specs.Place.{key_in}
use Rattle.be_tree_reading.specs.Key.{key_cmp}
use Rattle.be_tree_reading.proofs.Bytes.Words.{then_other, then_same}
use Rattle.be_paged_building.proofs.keys.order_of.Goals as goal

pub returns-then-a-b : goal.returns-then-a-b
unfolding key_cmp
returns-then-a-b c =
    let bytes = c.args.bytes.now in
    c.cmp.ensures ∙ sym (then_other c.args.a.first c.args.b.first (slice_cmp nat_cmp (key_in bytes c.args.a) (key_in bytes c.args.b)) c.if-a-b.true)

pub returns : goal.returns
unfolding key_cmp
returns c =
    let bytes = c.args.bytes.now in
    c.cmp-2.ensures
    ∙ both c.key_at.ensures c.key_at-2.ensures
    ∙ sym (then_same c.args.a.first c.args.b.first (slice_cmp nat_cmp (key_in bytes c.args.a) (key_in bytes c.args.b)) c.if-a-b.false)
  where
    both : {p q s t : List ℕ} → p ≡ s → q ≡ t → slice_cmp nat_cmp p q ≡ slice_cmp nat_cmp s t
    both p q = cc
