-- What a session returns when it reads parts of an answer.
use Rattle.std.specs.Prelude.{◌≡◌, ◌⊎◌, ◌≤◌, ℕ, Bool, List, [], Ok, None, Some}
use Rattle.std.specs.declared.result.Result.{Result}
use Rattle.be_order.specs.Ordered.{page, page_with}
use Rattle.be_query.specs.Grammar.{Formula}
use Rattle.be_value.specs.declared.refusals.Refusal.{Refusal}
use Rattle.be_value.specs.declared.refusals.Refusal.TheVariants.{NoSuchIndex}
use Rattle.be_value.specs.declared.values.Kind.{Kind}
use Rattle.be_volume.specs.Reading.{index_kind}
use Rattle.be_volume.specs.Volume.{State}
use Rattle.be_session.specs.Cursors.{IsCursorOf, cursor_key}
use Rattle.be_session.specs.Meaning.{IsNoName}
use Rattle.be_session.specs.Sitting.{IsUnanswered}
use Rattle.be_session.specs.declared.cursors.Cursor.{Cursor}
use Rattle.be_session.specs.declared.faults.Fault.{Fault}
use Rattle.be_session.specs.declared.faults.Fault.TheVariants.{BadCursor, NoRoom, Refused}

-- The volume has no index of that name. If the bytes aren't a valid name, no index can have it.
abbrev pub LacksIndex : State → List ℕ → Type 0
LacksIndex volume by = ((e : Fault) × IsNoName by e) ⊎ (index_kind volume by ≡ None)

-- A page of an answer was read in the order of an index of this kind. The page starts at a cursor
-- of that kind, which moves to the last node of the page, or is unchanged if the page is empty.
pub record IsPageRead (volume : State) (f : Formula) (by : List ℕ) (descending : Bool) (most : ℕ)
    (cursor moved : Cursor) (nodes : List ℕ) (more : Bool) : Type 0 where
  pub wanted : 1 ≤ most
  pub kind : Kind
  pub kind_is : index_kind volume by ≡ Some kind
  pub begins : IsCursorOf kind cursor
  pub ends : IsCursorOf kind moved
  pub stays : nodes ≡ [] → moved ≡ cursor
  pub page_is : page volume f by descending (cursor_key cursor) most
      ≡ Ok (page_with nodes (cursor_key moved) more)

-- The reason why no page of an index of this kind was read. Either the cursor is of another kind,
-- or the query has an error, or memory ran out.
abbrev pub IsNoPageIn : Kind → State → Formula → List ℕ → Bool → ℕ → Cursor → Fault → Type 0
IsNoPageIn kind volume f by descending most cursor e =
    ((¬ (IsCursorOf kind cursor)) × (e ≡ BadCursor))
    ⊎ (IsCursorOf kind cursor
    × IsUnanswered (page volume f by descending (cursor_key cursor) most) e)

-- The reason why no page could be read. Either the caller wants no nodes, or there is no such
-- index, or no page of that index could be read. The first reason that applies is reported.
abbrev pub IsNoPage : State → Formula → List ℕ → Bool → ℕ → Cursor → Fault → Type 0
IsNoPage volume f by descending most cursor e =
    ((most ≡ 0) × (e ≡ NoRoom))
    ⊎ ((1 ≤ most) × LacksIndex volume by × (e ≡ Refused NoSuchIndex))
    ⊎ ((1 ≤ most) × (kind : Kind) × (index_kind volume by ≡ Some kind)
    × IsNoPageIn kind volume f by descending most cursor e)

-- The reason why the nodes of a part of an answer weren't read. Either the caller wants none, or
-- the query has an error, or memory ran out.
abbrev pub AreUnread : {Y : Type 0} → Result Y Refusal → ℕ → Fault → Type 0
AreUnread meant most e = ((most ≡ 0) × (e ≡ NoRoom)) ⊎ ((1 ≤ most) × IsUnanswered meant e)
