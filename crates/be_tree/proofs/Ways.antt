-- The path down a tree: its steps, and the trees and pairs below them.
use Rattle.std.proofs.Common.{◌≡◌, ℕ, zero, suc, ◌-◌, ◌<◌, List, [], ◌∷◌, ◌++◌, length, get_or, take, drop, All, ap, sym, subst, ◌∙◌, refl, arith}
use Rattle.std.proofs.lemmas.List.{append-nil}
use Rattle.be_pages.specs.declared.room.PageState.{PageState}
use Rattle.be_tree.specs.declared.path.Step.{Step}
use Rattle.be_tree_reading.specs.Pair.{Pair}
use Rattle.be_tree_reading.specs.Key.{IsBranchFor, IsRising, payload_at, put, without}
use Rattle.be_tree_reading.specs.Page.{item_at, item_place, items_of, level_of}
use Rattle.be_tree.specs.Path.{IsStep, IsWay, around, whole}
use Rattle.be_tree_reading.specs.Tree.{IsBelow, IsBranch, IsTreeAt, child, pairs_at, pairs_below}
use Rattle.be_tree_reading.proofs.Items.{item_get, items_count}
use Rattle.be_tree_reading.proofs.Order.{IsRising_left, IsRising_right}
use Rattle.be_tree_reading.proofs.Putting.Puts.{put_at_item}
use Rattle.be_tree.proofs.Removing.Removes.{without_split}
use Rattle.be_tree_reading.proofs.TreeFacts.{branch_tree, in_three, inner_split, steps_down}

-- one more step at the end, or one fewer
pub way_push : (words : ℕ → ℕ → ℕ) (page : ℕ) (above : List Step) (last : ℕ) (step : Step) → IsWay words page above last → IsStep words last step
    → IsWay words page (above ++ step ∷ []) (child (item_at (words last) (item_place step.at)))
way_push words page [] last step way here = (subst (λ p. IsStep words p step) (sym way) here, ap (λ p. child (item_at (words p) (item_place step.at))) way)
way_push words page (s ∷ below) last step way here = (way.0, way_push words (child (item_at (words page) (item_place s.at))) below last step way.1 here)

pub record IsPopped (words : ℕ → ℕ → ℕ) (page : ℕ) (above : List Step) (step : Step) (last : ℕ) : Type 0 where
  pub way : IsWay words page above step.page
  pub here : IsStep words step.page step
  pub next : child (item_at (words step.page) (item_place step.at)) ≡ last

pub way_pop : (words : ℕ → ℕ → ℕ) (page : ℕ) (above : List Step) (step : Step) (last : ℕ) → IsWay words page (above ++ step ∷ []) last → IsPopped words page above step last
way_pop words page [] step last way = record {
  way = sym way.0.is_page;
  here = subst (λ p. IsStep words p step) (sym way.0.is_page) way.0;
  next = ap (λ p. child (item_at (words p) (item_place step.at))) way.0.is_page ∙ way.1;
}
way_pop words page (s ∷ below) step last way =
    let rest = way_pop words (child (item_at (words page) (item_place s.at))) below step last way.1 in
    record { way = (way.0, rest.way); here = rest.here; next = rest.next }

pub whole_push : (words : ℕ → ℕ → ℕ) (above : List Step) (step : Step) (ps : List Pair) → whole words (above ++ step ∷ []) ps ≡ whole words above (around words step ps)
whole_push words [] step ps = refl
whole_push words (s ∷ below) step ps = ap (around words s) (whole_push words below step ps)

pub rising_inside : (words : ℕ → ℕ → ℕ) (above : List Step) (ps : List Pair) → IsRising (whole words above ps) → IsRising ps
rising_inside words [] ps rising = rising
rising_inside words (s ∷ below) ps rising =
    let before = pairs_below (level_of (words s.page)) words (take s.at (items_of (words s.page))) in
    let after = pairs_below (level_of (words s.page)) words (drop (suc s.at) (items_of (words s.page))) in
    rising_inside words below ps (IsRising_left (whole words below ps) after (IsRising_right before (whole words below ps ++ after) rising))

-- an inner page's item and what is below it
module _ (level least : ℕ) (page_state : ℕ → PageState) (words : ℕ → ℕ → ℕ) (page at : ℕ) (tree : IsTreeAt (suc level) least page_state words page) (lt : at < words page 1) where
  pub branch_is : get_or (items_of (words page)) at (item_at (words page) (item_place at)) ≡ item_at (words page) (item_place at)
  branch_is = item_get (words page) at (item_at (words page) (item_place at)) lt

  in_items : at < length (items_of (words page))
  in_items = omega (arith, lt, items_count (words page))

  pub branch_child : IsTreeAt level 6 page_state words (child (item_at (words page) (item_place at)))
  branch_child = subst (λ (b : Pair). IsTreeAt level 6 page_state words (child b)) branch_is (branch_tree level page_state words (items_of (words page)) tree.below at (item_at (words page) (item_place at)) in_items)

  pub branch_names : IsBranch (item_at (words page) (item_place at)) (pairs_at level words (child (item_at (words page) (item_place at))))
  branch_names = subst (λ (b : Pair). IsBranch b (pairs_at level words (child b))) branch_is (tree.below.shaped at (item_at (words page) (item_place at)) in_items).1

  pub three : items_of (words page) ≡ take at (items_of (words page)) ++ item_at (words page) (item_place at) ∷ drop (suc at) (items_of (words page))
  three = in_three (items_of (words page)) at (item_at (words page) (item_place at)) in_items
      ∙ ap (λ b. take at (items_of (words page)) ++ b ∷ drop (suc at) (items_of (words page))) branch_is

-- a step's page and the one below it
pub record LeadsTo (page_state : ℕ → PageState) (words : ℕ → ℕ → ℕ) (page : ℕ) (step : Step) : Type 0 where
  pub level_is : level_of (words page) ≡ suc (level_of (words (child (item_at (words page) (item_place step.at)))))
  pub tree : IsTreeAt (level_of (words (child (item_at (words page) (item_place step.at))))) 6 page_state words (child (item_at (words page) (item_place step.at)))

pub step_leads : (page_state : ℕ → PageState) (words : ℕ → ℕ → ℕ) (page least : ℕ) (step : Step) → IsStep words page step → IsTreeAt (level_of (words page)) least page_state words page → LeadsTo page_state words page step
step_leads page_state words page least step here tree =
    let e : level_of (words page) ≡ suc (level_of (words page) - 1) = omega (arith, here.inner) in
    let below = branch_child (level_of (words page) - 1) least page_state words page step.at (subst (λ n. IsTreeAt n least page_state words page) e tree) here.in_range in
    let is = below.node.at_level in
    record {
      level_is = e ∙ ap suc (sym is);
      tree = subst (λ n. IsTreeAt n 6 page_state words (child (item_at (words page) (item_place step.at)))) (sym is) below;
    }

-- the trees along a path
pub way_down : (page_state : ℕ → PageState) (words : ℕ → ℕ → ℕ) (page : ℕ) (above : List Step) (last : ℕ) → IsWay words page above last → IsTreeAt (level_of (words page)) 6 page_state words page → IsTreeAt (level_of (words last)) 6 page_state words last
way_down page_state words page [] last way tree = subst (λ p. IsTreeAt (level_of (words p)) 6 page_state words p) way tree
way_down page_state words page (s ∷ below) last way tree =
    way_down page_state words (child (item_at (words page) (item_place s.at))) below last way.1 (step_leads page_state words page 6 s way.0 tree).tree

-- a change that goes down a path changes only the pairs at its end
module _ (change : List Pair → List Pair) (k : List ℕ) (page_state : ℕ → PageState) (words : ℕ → ℕ → ℕ)
    (goes : (level : ℕ) (items : List Pair) (at : ℕ) (d : Pair) → IsBelow (suc level) page_state words items → 0 < length items → IsBranchFor k items at → at < length items
    → change (pairs_below (suc level) words items) ≡ pairs_below (suc level) words (take at items) ++ (change (pairs_at level words (child (get_or items at d))) ++ pairs_below (suc level) words (drop (suc at) items))) where
  pub change_down : (page least : ℕ) (above : List Step) (last : ℕ) → 0 < least → IsWay words page above last → All (λ step. IsBranchFor k (items_of (words step.page)) step.at) above
      → IsTreeAt (level_of (words page)) least page_state words page
      → change (pairs_at (level_of (words page)) words page) ≡ whole words above (change (pairs_at (level_of (words last)) words last))
  change_down page least [] last some way for tree = ap (λ p. change (pairs_at (level_of (words p)) words p)) way
  change_down page least (s ∷ below) last some way for tree =
      let leads = step_leads page_state words page least s way.0 tree in
      let next = child (item_at (words page) (item_place s.at)) in
      let level = level_of (words next) in
      let items = items_of (words page) in
      let here = subst (λ n. IsTreeAt n least page_state words page) leads.level_is tree in
      let d = item_at (words page) (item_place s.at) in
      let in_range : s.at < length items = omega (arith, way.0.in_range, items_count (words page)) in
      let branch = subst (λ p. IsBranchFor k (items_of (words p)) s.at) way.0.is_page (for 0 s (omega arith)) in
      let ih = change_down next 6 below last (omega arith) way.1 (λ i e lt. for (suc i) e (omega (arith, lt))) leads.tree in
      let one = goes level items s.at d here.below (omega (arith, here.node.enough, some)) branch in_range in
      let named = subst (λ (b : Pair). change (pairs_at (suc level) words page) ≡ pairs_below (suc level) words (take s.at items) ++ (change (pairs_at level words (child b)) ++ pairs_below (suc level) words (drop (suc s.at) items)))
      (branch_is level least page_state words page s.at here way.0.in_range) one in
      ap (λ n. change (pairs_at n words page)) leads.level_is ∙ named
      ∙ ap (λ xs. pairs_below (suc level) words (take s.at items) ++ (xs ++ pairs_below (suc level) words (drop (suc s.at) items))) ih
      ∙ ap (λ n. pairs_below n words (take s.at items) ++ (whole words below (change (pairs_at (level_of (words last)) words last)) ++ pairs_below n words (drop (suc s.at) items))) (sym leads.level_is)
      ∙ ap (λ p. pairs_below (level_of (words p)) words (take s.at (items_of (words p))) ++ (whole words below (change (pairs_at (level_of (words last)) words last)) ++ pairs_below (level_of (words p)) words (drop (suc s.at) (items_of (words p))))) (sym way.0.is_page)

-- this is how a put and a removal go down a path
pub put_goes : (pair : Pair) (page_state : ℕ → PageState) (words : ℕ → ℕ → ℕ) (level : ℕ) (items : List Pair) (at : ℕ) (d : Pair) → IsBelow (suc level) page_state words items → 0 < length items → IsBranchFor pair.key items at → at < length items
    → put pair (pairs_below (suc level) words items) ≡ pairs_below (suc level) words (take at items) ++ (put pair (pairs_at level words (child (get_or items at d))) ++ pairs_below (suc level) words (drop (suc at) items))
put_goes pair page_state words level items at d below some branch lt =
    let item = get_or items at d in
    (put_at_item (suc level) page_state words items pair branch.rank at item below some branch.is_rank branch.before (get_or_same items at d lt)).all
    ∙ ap (λ xs. pairs_below (suc level) words (take at items) ++ (put pair xs ++ pairs_below (suc level) words (drop (suc at) items))) (append-nil (pairs_at level words (child item)))
  where
    get_or_same : (xs : List Pair) (i : ℕ) (d : Pair) → i < length xs → get_or xs i d ≡ get_or xs i (get_or xs i d)
    get_or_same [] i d lt = absurd (omega (arith, lt))
    get_or_same (x ∷ xs) zero d lt = refl
    get_or_same (x ∷ xs) (suc i) d lt = get_or_same xs i d (omega (arith, lt))

pub without_goes : (k : List ℕ) (page_state : ℕ → PageState) (words : ℕ → ℕ → ℕ) (level : ℕ) (items : List Pair) (at : ℕ) (d : Pair) → IsBelow (suc level) page_state words items → 0 < length items → IsBranchFor k items at → at < length items
    → without k (pairs_below (suc level) words items) ≡ pairs_below (suc level) words (take at items) ++ (without k (pairs_at level words (child (get_or items at d))) ++ pairs_below (suc level) words (drop (suc at) items))
without_goes k page_state words level items at d below some branch lt =
    let split = inner_split level page_state words items below k branch.rank branch.is_rank some in
    subst (λ n. without k (pairs_below (suc level) words items) ≡ pairs_below (suc level) words (take n items) ++ (without k (pairs_at level words (child (get_or items n d))) ++ pairs_below (suc level) words (drop (suc n) items))) (sym branch.before)
    (without_split (λ b. pairs_at level words (child b)) k items (branch.rank - 1) split d)

-- and how a look-up does
pub payload_down : (k : List ℕ) (page_state : ℕ → PageState) (words : ℕ → ℕ → ℕ) (page least : ℕ) (above : List Step) (last : ℕ) → 0 < least → IsWay words page above last → All (λ step. IsBranchFor k (items_of (words step.page)) step.at) above
    → IsTreeAt (level_of (words page)) least page_state words page → payload_at (pairs_at (level_of (words page)) words page) k ≡ payload_at (pairs_at (level_of (words last)) words last) k
payload_down k page_state words page least [] last some way for tree = ap (λ p. payload_at (pairs_at (level_of (words p)) words p) k) way
payload_down k page_state words page least (s ∷ below) last some way for tree =
    let leads = step_leads page_state words page least s way.0 tree in
    let d = item_at (words page) (item_place s.at) in
    let next = child d in
    let branch = subst (λ p. IsBranchFor k (items_of (words p)) s.at) way.0.is_page (for 0 s (omega arith)) in
    (steps_down (level_of (words page)) (level_of (words next)) least page_state words page k (items_of (words page)) branch.rank s.at d leads.level_is tree some refl branch.is_rank branch.before (sym (item_get (words page) s.at d way.0.in_range))).same
    ∙ payload_down k page_state words next 6 below last (omega arith) way.1 (λ i e lt. for (suc i) e (omega (arith, lt))) leads.tree
