-- What an owner has before and after it lends its content, and what a struct for C has before and
-- after it is lent as an owner.
use Rattle.std.specs.Prelude.{Some}
use Rattle.std.specs.Borrow.{Lends, MutBor, Fml}
use Rattle.std.specs.contracts.alloc.Global as global
use Rattle.std.specs.contracts.impls.GlobalAllocator.TheImpl.{ghosts}
use denote.RattleType.{RattleType}
use denote.RawPtr.{Ptr}
use mir.Syntax.{Ty}
use Rattle.be_change.specs.contracts.changes.Change as change
use Rattle.be_session.specs.contracts.preparing.Prepared as prepared
use Rattle.be_session.specs.contracts.session.Session as session
use Rattle.be_session.specs.contracts.states.StatePlace as place
use Rattle.be_store_building.specs.contracts.builder.StoreBuilder as builder
use Rattle.be_table.specs.contracts.witness.Witness as witness
use Rattle.bestore_c.specs.contracts.handle.OwnedBuilder as owned_builder
use Rattle.bestore_c.specs.contracts.handle.OwnedDraft as owned_draft
use Rattle.bestore_c.specs.contracts.handle.OwnedPlace as owned_place
use Rattle.bestore_c.specs.contracts.handle.OwnedQuery as owned_query
use Rattle.bestore_c.specs.contracts.handle.OwnedSession as owned_session
use Rattle.bestore_c.specs.contracts.handle.OwnedWitness as owned_witness
use Rattle.bestore_c.specs.contracts.owned.Owned as owned
use Rattle.bestore_c.specs.declared.handle.OwnedBuilder.{OwnedBuilder}
use Rattle.bestore_c.specs.declared.handle.OwnedDraft.{OwnedDraft}
use Rattle.bestore_c.specs.declared.handle.OwnedPlace.{OwnedPlace}
use Rattle.bestore_c.specs.declared.handle.OwnedQuery.{OwnedQuery}
use Rattle.bestore_c.specs.declared.handle.OwnedSession.{OwnedSession}
use Rattle.bestore_c.specs.declared.handle.OwnedWitness.{OwnedWitness}
use Rattle.bestore_c.specs.declared.owned.Owned.{Owned}

-- The owner, with the given content.
abbrev pub with_content : {T A : Type 0} → Owned T A → T → Owned T A
with_content o x = record o { value = Some x }

-- When the borrow ends, the owner has the content as it is then.
abbrev pub LendsContent : (R A : RattleType) → (A.Denot → Ty → Ptr → Fml)
    → MutBor (Owned R.Denot A.Denot) → MutBor R.Denot → Fml
LendsContent R A frees o x =
    Lends (owned.the_row R A (record { dealloc_token = frees })) R o x (with_content o.now)

-- An owner of boxes with this content, from the global allocator.
abbrev pub Owner : RattleType → RattleType
Owner R = owned.the_row R global.the_row ghosts

-- The struct for C that has the same fields as an owner of a session.
abbrev pub as_session : (Owner session.the_row).Denot → OwnedSession
as_session o = record { at = o.at; alloc = o.alloc; value = o.value }

-- When the borrow ends, the struct has the fields that the owner has then.
abbrev pub LendsSession : MutBor OwnedSession → MutBor (Owner session.the_row).Denot → Fml
LendsSession o x = Lends owned_session.the_row (Owner session.the_row) o x as_session

-- The same definitions for a prepared query.
abbrev pub as_query : (Owner prepared.the_row).Denot → OwnedQuery
as_query o = record { at = o.at; alloc = o.alloc; value = o.value }

abbrev pub LendsQuery : MutBor OwnedQuery → MutBor (Owner prepared.the_row).Denot → Fml
LendsQuery o x = Lends owned_query.the_row (Owner prepared.the_row) o x as_query

-- The same definitions for a place.
abbrev pub as_place : (Owner place.the_row).Denot → OwnedPlace
as_place o = record { at = o.at; alloc = o.alloc; value = o.value }

abbrev pub LendsPlace : MutBor OwnedPlace → MutBor (Owner place.the_row).Denot → Fml
LendsPlace o x = Lends owned_place.the_row (Owner place.the_row) o x as_place

-- The same definitions for a witness.
abbrev pub as_witness : (Owner witness.the_row).Denot → OwnedWitness
as_witness o = record { at = o.at; alloc = o.alloc; value = o.value }

abbrev pub LendsWitness : MutBor OwnedWitness → MutBor (Owner witness.the_row).Denot → Fml
LendsWitness o x = Lends owned_witness.the_row (Owner witness.the_row) o x as_witness

-- The same definitions for a change.
abbrev pub as_draft : (Owner change.the_row).Denot → OwnedDraft
as_draft o = record { at = o.at; alloc = o.alloc; value = o.value }

abbrev pub LendsDraft : MutBor OwnedDraft → MutBor (Owner change.the_row).Denot → Fml
LendsDraft o x = Lends owned_draft.the_row (Owner change.the_row) o x as_draft

-- The same definitions for a builder.
abbrev pub as_builder : (Owner builder.the_row).Denot → OwnedBuilder
as_builder o = record { at = o.at; alloc = o.alloc; value = o.value }

abbrev pub LendsBuilder : MutBor OwnedBuilder → MutBor (Owner builder.the_row).Denot → Fml
LendsBuilder o x = Lends owned_builder.the_row (Owner builder.the_row) o x as_builder
