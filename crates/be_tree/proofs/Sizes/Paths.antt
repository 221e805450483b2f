-- A path from the root to a leaf has a step for each level.
use Rattle.std.proofs.Common.{◌≡◌, ℕ, zero, suc, ◌+◌, ◌-◌, List, [], ◌∷◌, length, ap, subst, arith}
use Rattle.be_pages.specs.declared.room.PageState.{PageState}
use Rattle.be_tree.specs.declared.path.Path.{Path}
use Rattle.be_tree.specs.declared.path.Step.{Step}
use Rattle.be_tree_reading.specs.Page.{item_at, item_place, level_of}
use Rattle.be_tree.specs.Path.{IsPathTo, IsWay}
use Rattle.be_tree_reading.specs.Tree.{IsTreeAt, child, minimum_of_root, level_of_root}
use Rattle.be_tree.proofs.Ways.{step_leads}

way_levels : (page_state : ℕ → PageState) (words : ℕ → ℕ → ℕ) (page least : ℕ) (above : List Step) (last : ℕ) → IsWay words page above last → IsTreeAt (level_of (words page)) least page_state words page
    → level_of (words page) ≡ length above + level_of (words last)
way_levels page_state words page least [] last way tree = omega (arith, ap (λ p. level_of (words p)) way)
way_levels page_state words page least (s ∷ below) last way tree =
    let next = child (item_at (words page) (item_place s.at)) in
    let leads = step_leads page_state words page least s way.0 tree in
    omega (arith, leads.level_is, way_levels page_state words next 6 below last way.1 leads.tree)

-- so does the path to a key
pub path_levels : (page_state : ℕ → PageState) (words : ℕ → ℕ → ℕ) (root : ℕ) (key : List ℕ) (path : Path) → IsPathTo page_state words root key path → length path.above.items ≡ level_of_root words root
path_levels page_state words zero key path h = absurd (omega (arith, h.way.some))
path_levels page_state words (suc page) key path h =
    let e : suc page - 1 ≡ page = omega arith in
    omega (
      arith,
      way_levels page_state words page (minimum_of_root (level_of (words page))) path.above.items path.leaf (subst (λ p. IsWay words p path.above.items path.leaf) e h.way.way) h.way.tree,
      h.is_leaf,
    )
