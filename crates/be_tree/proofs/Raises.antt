-- Writing the branch to a changed page above it.
use Rattle.std.proofs.Common.{◌≡◌, ◌≢◌, ℕ, suc, ◌+◌, ◌-◌, ◌<◌, ◌≤◌, ◌^◌, ◌⊎◌, List, [], ◌∷◌, ◌++◌, Bool, true, length, get_or, take, drop, ap, sym, subst, ◌∙◌, refl, inl, inr, arith, length-append, length-drop}
use Rattle.std.proofs.lemmas.List.{length-take-le}
use Rattle.be_pages.specs.declared.room.PageState.{PageState}
use Rattle.be_pages.specs.Pages.{Swaps, times}
use Rattle.be_tree.specs.declared.path.Step.{Step}
use Rattle.be_tree.specs.declared.rising.Changed.{Changed}
use Rattle.be_tree.specs.declared.slot.Slot.TheVariants.{Branch}
use Rattle.be_tree_reading.specs.Pair.{Pair}
use Rattle.be_tree_reading.specs.Key.{IsRising, StartsAt}
use Rattle.be_tree_reading.specs.Page.{IsPage, item_at, item_place, items_of, level_of}
use Rattle.be_tree.specs.Path.{BecomesNode, IsChanged, IsWay, IsWayIn, KeepsMinimum, around, minimum_at, whole}
use Rattle.be_tree.specs.Slot.{IsOff, IsReady, branch_to}
use Rattle.be_tree.specs.Splicing.{CanBeSpliced, IsSpliced}
use Rattle.be_tree_reading.specs.Tree.{Becomes, BecomesTree, IsBranch, IsTree, IsTreeAt, child, minimum_of_root, pages, pages_at, pages_below, pairs_at, pairs_below}
use Rattle.be_tree_reading.proofs.Frame.{readable_kept, same_page, swaps_same, times-cons}
use Rattle.be_tree_reading.proofs.Items.{item_get, items_count}
use Rattle.be_tree.proofs.Nodes.Slots.{child_branch}
use Rattle.be_tree_reading.proofs.Putting.Puts.{given_up_page, kept_after}
use Rattle.be_tree.proofs.Rises.{Stays, around_is, becomes_items, end_minimum, minimum_up, node_over, over_pairs, stays_whole}
use Rattle.be_tree.proofs.Shape.Parts.{all_one, starts_first}
use Rattle.be_tree_reading.proofs.Shape.Roots.{root_tree}
use Rattle.be_tree_reading.proofs.TreeFacts.{times_part}
use Rattle.be_tree.proofs.Ways.{IsPopped, branch_is, rising_inside, step_leads, way_down, way_pop, whole_push}

pub top : (page_state : ℕ → PageState) (words : ℕ → ℕ → ℕ) (root : ℕ) → IsTree page_state words root → 0 < root → IsTreeAt (level_of (words (root - 1))) (minimum_of_root (level_of (words (root - 1)))) page_state words (root - 1)
top page_state words root tree some = root_tree root (root - 1) (level_of (words (root - 1))) page_state words (omega (arith, some)) refl tree

-- the tree at the end of a path
pub tree_on_way : (page_state : ℕ → PageState) (words : ℕ → ℕ → ℕ) (root : ℕ) (above : List Step) (last : ℕ) → IsWayIn page_state words root above last → IsTreeAt (level_of (words last)) (minimum_at above (level_of (words last))) page_state words last
tree_on_way page_state words root [] last way = subst (λ p. IsTreeAt (level_of (words p)) (minimum_of_root (level_of (words p))) page_state words p) way.way (top page_state words root way.tree way.some)
tree_on_way page_state words root (s ∷ below) last way =
    way_down page_state words (child (item_at (words (root - 1)) (item_place s.at))) below last way.way.1
    (step_leads page_state words (root - 1) (minimum_of_root (level_of (words (root - 1)))) s way.way.0 (top page_state words root way.tree way.some)).tree

minimum_push : (front : List Step) (step : Step) (level : ℕ) → minimum_at (front ++ step ∷ []) level ≡ 6
minimum_push [] step level = refl
minimum_push (s ∷ below) step level = refl

module _ {S K : Type 0} (kept_of : S → K) (page_state_of : S → ℕ → PageState) (words_of : S → ℕ → ℕ → ℕ) where
  -- a root's page
  pub node_tree : (root page new_root level : ℕ) (ps : List Pair) (start now : S) → 0 < root → level_of (words_of start (root - 1)) ≡ level → new_root ≡ suc page
      → BecomesNode kept_of page_state_of words_of (pages_at level (words_of start) (root - 1)) level (minimum_of_root level) page start now → pairs_at level (words_of now) page ≡ ps
      → BecomesTree kept_of page_state_of words_of (pages (words_of start) root) ps new_root start now
  node_tree root page new_root level ps start now some at_level is node pairs_are =
      let before : pages_at level (words_of start) (root - 1) ≡ pages (words_of start) root =
      ap (λ n. pages_at n (words_of start) (root - 1)) (sym at_level) ∙ ap (pages (words_of start)) (suc_pred root some) in
      subst (λ r. BecomesTree kept_of page_state_of words_of (pages (words_of start) root) ps r start now) (sym is) (record {
        tree = subst (λ n. IsTreeAt n (minimum_of_root n) (page_state_of now) (words_of now) page) (sym node.tree.node.at_level) node.tree;
        has_pairs = ap (λ n. pairs_at n (words_of now) page) node.tree.node.at_level ∙ pairs_are;
        swaps = subst (λ b. Swaps kept_of page_state_of words_of b (pages_at (level_of (words_of now page)) (words_of now) page) start now) before
            (subst (λ n. Swaps kept_of page_state_of words_of (pages_at level (words_of start) (root - 1)) (pages_at n (words_of now) page) start now) (sym node.tree.node.at_level) node.swaps);
      })
    where
      suc_pred : (root : ℕ) → 0 < root → suc (root - 1) ≡ root
      suc_pred root some = omega (arith, some)

  -- a change that has reached the root
  pub changed_root : (root new_root : ℕ) (above : List Step) (changed : Changed) (level : ℕ) (start now : S) → above ≡ [] → new_root ≡ suc changed.page → IsChanged kept_of page_state_of words_of root above changed level start now
      → BecomesTree kept_of page_state_of words_of (pages (words_of start) root) (whole (words_of start) above (pairs_at level (words_of now) changed.page)) new_root start now
  changed_root root new_root [] changed level start now empty is h =
      node_tree root changed.page new_root level (pairs_at level (words_of now) changed.page) start now h.way.some (ap (λ p. level_of (words_of start p)) h.way.way ∙ h.at_level) is
      (subst (λ p. BecomesNode kept_of page_state_of words_of (pages_at level (words_of start) p) level (minimum_of_root level) changed.page start now) (sym h.way.way) h.node) refl
  changed_root root new_root (s ∷ below) changed level start now empty is h = absurd (omega (arith, ap length empty))

  -- a page that was changed in place and keeps its lowest key
  pub changed_here : (root : ℕ) (above : List Step) (changed : Changed) (level : ℕ) (start now : S) → IsChanged kept_of page_state_of words_of root above changed level start now → changed.page ≡ changed.was → changed.same_minimum ≡ true
      → BecomesTree kept_of page_state_of words_of (pages (words_of start) root) (whole (words_of start) above (pairs_at level (words_of now) changed.page)) root start now
  changed_here root above changed level start now h same least =
      let words = words_of start in
      let up = level_of (words (root - 1)) in
      let ps = pairs_at level (words_of now) changed.page in
      let node = subst (λ p. BecomesNode kept_of page_state_of words_of (pages_at level words changed.was) level (minimum_at above level) p start now) same h.node in
      let ended = subst (λ n. BecomesNode kept_of page_state_of words_of (pages_at level words changed.was) level n changed.was start now) (ends above h.way.way) node in
      let here : Stays kept_of page_state_of words_of level (end_minimum above (minimum_of_root up)) changed.was ps start now = record { node = ended; pairs_are = ap (pairs_at level (words_of now)) (sym same); keeps = h.least least } in
      let all = stays_whole kept_of page_state_of words_of start now (root - 1) (minimum_of_root up) above changed.was ps h.way.way (top (page_state_of start) words root h.way.tree h.way.some)
      (subst (λ n. Stays kept_of page_state_of words_of n (end_minimum above (minimum_of_root up)) changed.was ps start now) (sym h.at_level) here) h.rising in
      node_tree root (root - 1) root up (whole words above ps) start now h.way.some refl (omega (arith, h.way.some)) all.node all.pairs_are
    where
      ends : (above : List Step) → IsWay (words_of start) (root - 1) above changed.was → minimum_at above level ≡ end_minimum above (minimum_of_root (level_of (words_of start (root - 1))))
      ends [] way = ap minimum_of_root (sym (ap (λ p. level_of (words_of start p)) way ∙ h.at_level))
      ends (s ∷ below) way = refl

  module _ (root : ℕ) (front : List Step) (step : Step) (changed : Changed) (level : ℕ) (given : Pair) (start mid : S)
      (h : IsChanged kept_of page_state_of words_of root (front ++ step ∷ []) changed level start mid) (small : changed.page < 2 ^ 32) (given_fits : length given.key ≤ 264) where
    popped : IsPopped (words_of start) (root - 1) front step changed.was
    popped = way_pop (words_of start) (root - 1) front step changed.was h.way.way

    front_way : IsWayIn (page_state_of start) (words_of start) root front step.page
    front_way = record { tree = h.way.tree; some = h.way.some; way = popped.way }

    up : level_of (words_of start step.page) ≡ suc level
    up =
        let tree = tree_on_way (page_state_of start) (words_of start) root front step.page front_way in
        (step_leads (page_state_of start) (words_of start) step.page (minimum_at front (level_of (words_of start step.page))) step popped.here tree).level_is
        ∙ ap (λ p. suc (level_of (words_of start p))) popped.next ∙ ap suc h.at_level

    tree : IsTreeAt (suc level) (minimum_at front (suc level)) (page_state_of start) (words_of start) step.page
    tree = subst (λ n. IsTreeAt n (minimum_at front n) (page_state_of start) (words_of start) step.page) up (tree_on_way (page_state_of start) (words_of start) root front step.page front_way)

    node : BecomesNode kept_of page_state_of words_of (pages_at level (words_of start) (child (item_at (words_of start step.page) (item_place step.at)))) level 6 changed.page start mid
    node =
        subst (λ p. BecomesNode kept_of page_state_of words_of (pages_at level (words_of start) p) level 6 changed.page start mid) (sym popped.next)
        (subst (λ n. BecomesNode kept_of page_state_of words_of (pages_at level (words_of start) changed.was) level n changed.page start mid) (minimum_push front step level) h.node)

    first_some : 0 < length (items_of (words_of mid changed.page))
    first_some = omega (arith, node.tree.node.enough)

    first_is : get_or (items_of (words_of mid changed.page)) 0 given ≡ item_at (words_of mid changed.page) 2
    first_is = item_get (words_of mid changed.page) 0 given (omega (arith, first_some, items_count (words_of mid changed.page)))

    names : IsBranch (branch_to (words_of mid) changed.page) (pairs_at level (words_of mid) changed.page)
    names = record {
      starts = subst (λ (x : Pair). StartsAt x.key (pairs_at level (words_of mid) changed.page)) first_is (starts_first level (words_of mid) (items_of (words_of mid changed.page)) given node.tree.below.shaped first_some);
      names_page = refl;
    }

    fits : length (branch_to (words_of mid) changed.page).key ≤ 264
    fits = subst (λ (x : Pair). length x.key ≤ 264) first_is (node.tree.below.keys_fit 0 given first_some)

    rising : IsRising (pairs_below (suc level) (words_of start) (take step.at (items_of (words_of start step.page))) ++ (pairs_at level (words_of mid) changed.page ++ pairs_below (suc level) (words_of start) (drop (suc step.at) (items_of (words_of start step.page)))))
    rising =
        let ps = pairs_at level (words_of mid) changed.page in
        subst IsRising (around_is (words_of start) step.page (suc level) step ps refl up) (rising_inside (words_of start) front (around (words_of start) step ps) (subst IsRising (whole_push (words_of start) front step ps) h.rising))

    becomes : Becomes kept_of page_state_of words_of (pages_below (suc level) (words_of start) (items_of (words_of start step.page)))
        (pairs_below (suc level) (words_of start) (take step.at (items_of (words_of start step.page))) ++ (pairs_at level (words_of mid) changed.page ++ pairs_below (suc level) (words_of start) (drop (suc step.at) (items_of (words_of start step.page)))))
        (suc level) (take step.at (items_of (words_of start step.page)) ++ (branch_to (words_of mid) changed.page ∷ drop (suc step.at) (items_of (words_of start step.page)))) start mid
    becomes =
        becomes_items kept_of page_state_of words_of level (minimum_at front (suc level)) step.page step.at start mid tree popped.here.in_range changed.page (branch_to (words_of mid) changed.page)
        (child_branch (words_of mid) changed.page small) fits names node rising

    none : times step.page (pages_at level (words_of start) (child (item_at (words_of start step.page) (item_place step.at)))) ≡ 0
    none =
        let d = item_at (words_of start step.page) (item_place step.at) in
        let items = items_of (words_of start step.page) in
        let g = λ (b : Pair). pages_at level (words_of start) (child b) in
        let among = times_part g step.page items step.at d (omega (arith, popped.here.in_range, items_count (words_of start step.page))) in
        omega (arith, tree.page_once, subst (λ (b : Pair). times step.page (g b) ≤ times step.page (pages_below (suc level) (words_of start) items)) (branch_is level (minimum_at front (suc level)) (page_state_of start) (words_of start) step.page step.at tree popped.here.in_range) among)

    same : words_of mid step.page ≡ words_of start step.page
    same = swaps_same kept_of page_state_of words_of (pages_at level (words_of start) (child (item_at (words_of start step.page) (item_place step.at)))) (pages_at level (words_of mid) changed.page) start mid node.swaps step.page none
        (readable_kept (page_state_of start step.page) tree.page_in_use)

    off : changed.page ≢ step.page
    off e =
        let gone = given_up_page kept_of page_state_of words_of (pages_at level (words_of start) (child (item_at (words_of start step.page) (item_place step.at)))) (pages_at level (words_of mid) changed.page) step.page start mid node.swaps none tree.page_in_use in
        let again : times changed.page (pages_at level (words_of mid) changed.page) ≡ 0 = subst (λ p. times p (pages_at level (words_of mid) changed.page) ≡ 0) (sym e) gone in
        omega (arith, again, times-cons changed.page changed.page (pages_below level (words_of mid) (items_of (words_of mid changed.page))), same_page changed.page)

    -- the branch can be put there
    pub can_raise : CanBeSpliced (page_state_of mid) (words_of mid) step.page (record { at = step.at; gone = 1 }) given (Branch changed.page ∷ [])
    can_raise = record {
      is_page = subst IsPage (sym same) tree.node.is_page;
      in_use = kept_after kept_of page_state_of words_of (pages_at level (words_of start) (child (item_at (words_of start step.page) (item_place step.at)))) (pages_at level (words_of mid) changed.page) step.page start mid node.swaps none tree.page_in_use;
      in_range = subst (λ (w : ℕ → ℕ). step.at + 1 ≤ w 1) (sym same) (omega (arith, popped.here.in_range));
      few = subst (λ (w : ℕ → ℕ). w 1 + 1 ≤ 12 + 1) (sym same) (omega (arith, tree.node.is_page.few));
      ready = all_one (IsReady (page_state_of mid) (words_of mid)) (Branch changed.page)
          (readable_kept (page_state_of mid changed.page) node.tree.page_in_use, (small, node.tree.node.is_page.each 0 (omega (arith, first_some, items_count (words_of mid changed.page)))));
      off = all_one (IsOff step.page) (Branch changed.page) off;
      key_fits = given_fits;
    }

    module _ (to : ℕ) (new : S) (s : IsSpliced kept_of page_state_of words_of step.page (record { at = step.at; gone = 1 }) given (Branch changed.page ∷ []) to mid new) where
      items_are : items_of (words_of new to) ≡ take step.at (items_of (words_of start step.page)) ++ (branch_to (words_of mid) changed.page ∷ drop (suc step.at) (items_of (words_of start step.page)))
      items_are =
          let e : step.at + 1 ≡ suc step.at = omega arith in
          let b = branch_to (words_of mid) changed.page in
          s.has_items ∙ ap (λ w. take step.at (items_of w) ++ (b ∷ drop (step.at + 1) (items_of w))) same
          ∙ ap (λ n. take step.at (items_of (words_of start step.page)) ++ (b ∷ drop n (items_of (words_of start step.page)))) e

      enough : minimum_at front (suc level) ≤ length (take step.at (items_of (words_of start step.page)) ++ (branch_to (words_of mid) changed.page ∷ drop (suc step.at) (items_of (words_of start step.page))))
      enough =
          let items = items_of (words_of start step.page) in
          let lt : step.at < length items = omega (arith, popped.here.in_range, items_count (words_of start step.page)) in
          omega (arith, tree.node.enough, lt, length-append (take step.at items) (branch_to (words_of mid) changed.page ∷ drop (suc step.at) items), length-take-le step.at items (omega (arith, lt)), length-drop (suc step.at) items)

      raised_node : BecomesNode kept_of page_state_of words_of (pages_at (suc level) (words_of start) step.page) (suc level) (minimum_at front (suc level)) to start new
      raised_node =
          node_over kept_of page_state_of words_of (pages_below (suc level) (words_of start) (items_of (words_of start step.page)))
          (pairs_below (suc level) (words_of start) (take step.at (items_of (words_of start step.page))) ++ (pairs_at level (words_of mid) changed.page ++ pairs_below (suc level) (words_of start) (drop (suc step.at) (items_of (words_of start step.page)))))
          (suc level) (minimum_at front (suc level)) step.page to (take step.at (items_of (words_of start step.page)) ++ (branch_to (words_of mid) changed.page ∷ drop (suc step.at) (items_of (words_of start step.page))))
          start mid new becomes tree.page_once tree.below.once tree.page_in_use enough s.is_page (s.same_level ∙ ap level_of same ∙ up) items_are s.swaps

      raised_pairs : pairs_at (suc level) (words_of new) to
          ≡ pairs_below (suc level) (words_of start) (take step.at (items_of (words_of start step.page))) ++ (pairs_at level (words_of mid) changed.page ++ pairs_below (suc level) (words_of start) (drop (suc step.at) (items_of (words_of start step.page))))
      raised_pairs =
          over_pairs kept_of page_state_of words_of (pages_below (suc level) (words_of start) (items_of (words_of start step.page)))
          (pairs_below (suc level) (words_of start) (take step.at (items_of (words_of start step.page))) ++ (pairs_at level (words_of mid) changed.page ++ pairs_below (suc level) (words_of start) (drop (suc step.at) (items_of (words_of start step.page)))))
          (suc level) (minimum_at front (suc level)) step.page to (take step.at (items_of (words_of start step.page)) ++ (branch_to (words_of mid) changed.page ∷ drop (suc step.at) (items_of (words_of start step.page))))
          start mid new becomes tree.page_once tree.below.once tree.page_in_use enough s.is_page (s.same_level ∙ ap level_of same ∙ up) items_are s.swaps

      pub raised_whole : whole (words_of start) front (pairs_at (suc level) (words_of new) to) ≡ whole (words_of start) (front ++ step ∷ []) (pairs_at level (words_of mid) changed.page)
      raised_whole =
          let ps = pairs_at level (words_of mid) changed.page in
          ap (whole (words_of start) front) (raised_pairs ∙ sym (around_is (words_of start) step.page (suc level) step ps refl up)) ∙ sym (whole_push (words_of start) front step ps)

      pub raised : (b : Bool) → (b ≡ true → (0 < step.at) ⊎ (changed.same_minimum ≡ true)) → IsChanged kept_of page_state_of words_of root front (record { was = step.page; page = to; same_minimum = b }) (suc level) start new
      raised b how = record {
        way = front_way;
        at_level = up;
        node = raised_node;
        least = λ e. subst (KeepsMinimum (pairs_at (suc level) (words_of start) step.page)) (sym raised_pairs)
            (minimum_up level (minimum_at front (suc level)) step.page step.at (page_state_of start) (words_of start) tree popped.here.in_range (pairs_at level (words_of mid) changed.page) (elim (how e) [
              | inl some ↦ inl some
              | inr same ↦ inr (subst (λ p. KeepsMinimum (pairs_at level (words_of start) p) (pairs_at level (words_of mid) changed.page)) (sym popped.next) (h.least same))
            ]));
        rising = subst IsRising (sym raised_whole) h.rising;
      }
