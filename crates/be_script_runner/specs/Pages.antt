-- The page of an answer that a line `page` requests.
use Rattle.std.specs.Prelude.{ℕ, ◌-◌, List, length, slice_get, if◌then◌else◌}
use Rattle.std.specs.Option.{option_and_then, option_map}
use Rattle.std.specs.Result.{result_map_both}
use Rattle.std.specs.declared.option.Option.{Option}
use Rattle.std.specs.declared.result.Result.{Result}
use Rattle.std.specs.declared.result.Result.TheVariants.{Err}
use Rattle.be_value.specs.declared.refusals.Refusal.{Refusal}
use Rattle.be_value.specs.declared.refusals.Refusal.TheVariants.{NoSuchIndex}
use Rattle.be_value.specs.declared.values.Value.{Value}
use Rattle.be_query.specs.Grammar.{Formula}
use Rattle.be_volume.specs.Reading.{attribute, index_kind}
use Rattle.be_volume.specs.Volume.{State}
use Rattle.be_order.specs.Ordered.{Page, page}
use Rattle.be_script_language.specs.Page.{PageFound, key_at, may_begin}
use Rattle.be_script_language.specs.declared.pages.Paging.{Paging}

-- the value and number of the last of the nodes
abbrev pub last_pair : State → List ℕ → List ℕ → Option (Value × ℕ)
last_pair volume by nodes = option_and_then
    (λ node. option_map (λ value. (value, node)) (attribute volume node by))
    (slice_get nodes (length nodes - 1))

-- a page of an answer, with its last node's value for the attribute that gives the order
abbrev pub found_at : State → List ℕ → Page → PageFound
found_at volume by p = record {
  nodes = p.nodes;
  more = p.more;
  last = last_pair volume by p.nodes;
}

-- the page after a cursor
abbrev pub page_after : State → Paging → Option (List ℕ) → Formula → Result PageFound Refusal
page_after volume asked cursor f = result_map_both (found_at volume asked.by) (λ e. e)
    (page volume f asked.by asked.descending cursor asked.most)

-- The page that a line requests. The error is NoSuchIndex if there is no index with that name, or
-- if the value after which the page begins isn't of the index's kind.
abbrev pub page_read : State → Paging → Formula → Result PageFound Refusal
page_read volume asked f = if may_begin (index_kind volume asked.by) asked.after
    then page_after volume asked (option_map key_at asked.after) f else Err NoSuchIndex
