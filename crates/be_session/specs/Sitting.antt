-- What contracts say about a session, and what calls do to it.
use Rattle.std.specs.Prelude.{◌≡◌, ◌⊎◌, ◌+◌, ◌<◌, ℕ, List, [], ◌∷◌, IsUtf8, length, Ok, Err, Some}
use Rattle.std.specs.Prelude.{◌-◌, ◌^◌, None, is_some, min, true, false}
use Rattle.std.specs.declared.option.Option.{Option}
use Rattle.std.specs.declared.result.Result.{Result}
use Rattle.be_query.specs.Faults.{fault}
use Rattle.be_query.specs.View.{IsMemory}
use Rattle.be_store.specs.Conditional.{IsUnapplied}
use Rattle.be_store.specs.History.{IsReason, Learns, Unpins}
use Rattle.be_store.specs.Passes.{IsBetweenCalls, IsPassOf}
use Rattle.be_table.specs.History.{StartsWith}
use Rattle.be_table.specs.Place.{Opened, SeatFacts}
use Rattle.be_table.specs.Rule.{IsPossible, newcomer, one_step_on}
use Rattle.be_table.specs.Seats.{pinned_number}
use Rattle.be_table.specs.Setting.{Setting, begins_empty, begins_with}
use Rattle.be_table.specs.Steps.{longer, met}
use Rattle.be_table.specs.Trace.{HasTrace}
use Rattle.be_table.specs.Works.{AreNew}
use Rattle.be_table.specs.declared.limits.Limits.{Limits}
use Rattle.be_table.specs.declared.pass.Commit.{Commit}
use Rattle.be_table.specs.declared.pass.Knowledge.{Knowledge}
use Rattle.be_value.specs.declared.refusals.Refusal.{Refusal}
use Rattle.be_value.specs.declared.refusals.Refusal.TheVariants.{OutOfMemory}
use Rattle.be_volume.specs.Volume.{State}
use Rattle.be_volume.specs.declared.ops.Op.{Op}
use Rattle.be_store.specs.declared.conditional.ApplyIfError.{ApplyIfError}
use Rattle.be_session.specs.Fault.{fault_of}
use Rattle.be_session.specs.declared.faults.Fault.{Fault}
use Rattle.be_session.specs.declared.faults.Fault.TheVariants.{NoPass, NotPinned, BadCount, NotUtf8}
use Rattle.be_session.specs.declared.faults.Fault.TheVariants.{Refused}

-- What a session has of its store besides its pass: how many unused passes wait with it, how many
-- shares of the store it has given away, how many times it has looked for a waiting pass in vain,
-- and how many journal entries its pass had seen when the session got it.
pub record Holding : Type 0 where
  pub spare : ℕ
  pub given : ℕ
  pub vain : ℕ
  pub began : ℕ

-- The store, what the session's pass knows, and what the session holds besides.
pub record Sitting : Type 0 where
  pub store : Opened
  pub knows : Knowledge
  pub holds : Holding

-- What a session holds that has just got a pass that had seen this many entries. No passes wait
-- with it.
abbrev pub holding_anew : ℕ → Holding
holding_anew n = record { spare = 0; given = 0; vain = 0; began = n }

-- The same once one more share was given away.
abbrev pub with_given : Holding → Holding
with_given h = record h { given = h.given + 1 }

-- The session once it has given away one more share.
abbrev pub having_given : Sitting → Sitting
having_given s = record s { holds = with_given s.holds }

-- One more, in a count that stays at its highest value.
abbrev pub counted : ℕ → ℕ
counted n = min (n + 1) (2 ^ 64 - 1)

-- The session once it has looked at the slots of all passes, and has found none that waits.
abbrev pub having_searched : Sitting → Sitting
having_searched s = record s { holds = record s.holds { vain = counted s.holds.vain } }

-- The first session of a store with this setting. Its pass is the last one and has seen and written
-- nothing, and the others wait.
pub record IsFirst (setting : Setting) (s : Sitting) : Type 0 where
  pub setting_is : s.store.limits ≡ setting
  pub count : s.holds.spare + 1 ≡ setting.passes
  pub unused : s.knows ≡ newcomer setting (s.holds.spare + 1) s.holds.spare
  pub given : s.holds.given ≡ 0

-- A session that has just opened an empty store with these limits.
pub record IsOpened (limits : Limits) (s : Sitting) : Type 0 where
  pub within : IsPossible limits
  pub first : IsFirst (begins_empty limits) s

-- The first session of a store that begins with this volume, within these limits.
abbrev pub BeginsWith : Limits → State → Sitting → Type 0
BeginsWith limits volume s = (used : ℕ) × IsFirst (begins_with limits used volume) s

-- The pass that knows this is pinned.
abbrev pub IsPinned : Knowledge → Type 0
IsPinned a = is_some (pinned_number a.phase) ≡ true

-- What an unpinned pass of this store knows.
abbrev pub IsUnpinnedAt : Opened → Knowledge → Type 0
IsUnpinnedAt store a = (a.limits ≡ store.limits) × (pinned_number a.phase ≡ None)

-- A pass of this store that isn't pinned.
abbrev pub IsUnpinnedOf : Opened → SeatFacts → Type 0
IsUnpinnedOf store pass = IsPassOf store pass × (pinned_number pass.knows.phase ≡ None)

-- The unpinned pass of this seat, which can wait in the slot of the seat.
abbrev pub MayWaitAt : SeatFacts → SeatFacts → Type 0
MayWaitAt seat pass =
    (pass.blank ≡ false) × (pass.table ≡ seat.table) × (pass.knows.limits ≡ seat.knows.limits)
    × (pass.knows.number ≡ seat.knows.number)
    × IsBetweenCalls seat.knows.limits.passes pass.knows.phase
    × (pinned_number pass.knows.phase ≡ None)

-- These are the seats of all passes of the store, by number.
abbrev pub AreAllSeats : Opened → List SeatFacts → Type 0
AreAllSeats store seats = AreNew store 0 seats × (length seats ≡ store.limits.passes)

-- What a pass knew when another session got it, and what that session then held. Either it is the
-- last of those that wait here, which has seen and written nothing, or none waits, and the pass was
-- given back and isn't pinned. In both cases the session that is asked gave away one share, and
-- the other one has given away none.
abbrev pub IsTakenFrom : Sitting → Sitting → Knowledge → Holding → Type 0
IsTakenFrom s t b held =
    (held ≡ holding_anew (length b.seen))
    × (t.holds ≡ record (with_given s.holds) { spare = t.holds.spare })
    × (((s.holds.spare ≡ t.holds.spare + 1)
    × (b ≡ newcomer s.store.limits (t.holds.spare + 1) t.holds.spare))
    ⊎ ((s.holds.spare ≡ 0) × (t.holds.spare ≡ 0) × IsUnpinnedAt s.store b))

-- What another session is once its pass has met the pass of the session that created it. Both have
-- then seen the longer of two prefixes of one journal.
abbrev pub IsHandedOut : Sitting → Sitting → Sitting → Type 0
IsHandedOut s t u =
    (b : Knowledge) × IsTakenFrom s t b u.holds
    × StartsWith (longer s.knows.seen b.seen) s.knows.seen
    × StartsWith (longer s.knows.seen b.seen) b.seen
    × (t.knows ≡ met s.knows (longer s.knows.seen b.seen))
    × (u.knows ≡ met b (longer s.knows.seen b.seen))

-- The reason why no session was created. Either memory ran out, maybe after a share was given away,
-- or no pass waits here and none was found in the slots.
abbrev pub IsNotHandedOut : Sitting → Sitting → Fault → Type 0
IsNotHandedOut s t e =
    ((e ≡ Refused OutOfMemory) × ((t ≡ s) ⊎ (t ≡ having_given s)))
    ⊎ ((e ≡ NoPass) × (s.holds.spare ≡ 0) × (t ≡ having_searched s))

-- Two passes have met. Both have then seen the longer of two prefixes of one journal, and n is the
-- length of that prefix. All moves of the two passes up to then lie in one trace.
abbrev pub Meet : Opened → (a b c d : Knowledge) → ℕ → Type 0
Meet store a b c d n =
    StartsWith (longer a.seen b.seen) a.seen × StartsWith (longer a.seen b.seen) b.seen
    × (c ≡ met a (longer a.seen b.seen)) × (d ≡ met b (longer a.seen b.seen))
    × (n ≡ length (longer a.seen b.seen)) × HasTrace store.limits (a ∷ b ∷ [])

-- A pass has met another unpinned pass of its store.
abbrev pub HasMet : Opened → Knowledge → Knowledge → ℕ → Type 0
HasMet store a c n = (b : Knowledge) × IsUnpinnedAt store b × (d : Knowledge) × Meet store a b c d n

-- The pass isn't pinned any more. It has done nothing else.
abbrev pub IsReleased : Knowledge → Knowledge → Type 0
IsReleased a c = ((pinned_number a.phase ≡ None) × (c ≡ a)) ⊎ Unpins a c

-- What a pass knows when it is given back. It has released its pin, if it had one, and made one
-- step for the witness.
abbrev pub IsGivenBack : Knowledge → Knowledge → Type 0
IsGivenBack a d = (c : Knowledge) × IsReleased a c × (d ≡ one_step_on c)

-- A pass and a witness have then seen the longer of two prefixes of one journal, and n is the
-- length of that prefix.
abbrev pub Joins : Knowledge → List Commit → Knowledge → List Commit → ℕ → Type 0
Joins a reported c now n =
    StartsWith now a.seen × StartsWith now reported × (now ≡ longer a.seen reported)
    × (c ≡ met a now)
    × (n ≡ length now)

-- The reason why a write did nothing, and what its pass then knows. Either the count isn't 1 to 64,
-- or the store refused the write.
abbrev pub IsUnwritten : Knowledge → Knowledge → List Op → Fault → Type 0
IsUnwritten a c ops e =
    ((e ≡ BadCount) × (c ≡ a) × ((length ops ≡ 0) ⊎ (64 < length ops)))
    ⊎ ((why : Refusal) × (e ≡ Refused why) × Learns a c × IsReason a c ops why)

-- The reason why a conditional write did nothing, and what its pass then knows. Either the count
-- isn't 1 to 64, or the store returned an error.
abbrev pub IsUnwrittenIf : Knowledge → Knowledge → ℕ → List Op → Fault → Type 0
IsUnwrittenIf a c number ops e =
    ((e ≡ BadCount) × (c ≡ a) × ((length ops ≡ 0) ⊎ (64 < length ops)))
    ⊎ ((why : ApplyIfError) × (e ≡ fault_of why) × IsUnapplied a c number ops why)

-- The reason why a read returns no answer. Either the model has this error, or memory runs out.
abbrev pub IsUnanswered : {Y : Type 0} → Result Y Refusal → Fault → Type 0
IsUnanswered meant e = (why : Refusal) × (e ≡ Refused why) × IsMemory why (meant ≡ Err why)

-- A read returned the expected answer, as `view` shows it, or an error.
abbrev pub ReadAnswers : {X Y : Type 0} → (X → Y) → Result X Fault → Result Y Refusal → Type 0
ReadAnswers view (Ok x) meant = meant ≡ Ok (view x)
ReadAnswers view (Err e) meant = IsUnanswered meant e

-- The result is NotPinned if there is no pin, and otherwise this holds.
abbrev pub AtPin : {X : Type 0} → Option ℕ → Result X Fault → Type 0 → Type 0
AtPin None answer reported = answer ≡ Err NotPinned
AtPin (Some n) answer reported = reported

-- The reason why a live query wasn't run or refreshed. Either there is no pin, or the query has an
-- error at the pin, or memory runs out.
abbrev pub IsUnrefreshed : Option ℕ → Result (List ℕ) Refusal → Fault → Type 0
IsUnrefreshed None meant e = e ≡ NotPinned
IsUnrefreshed (Some n) meant e = IsUnanswered meant e

-- The reason why a read returned nothing. Either there is no pin, or it is this reason.
abbrev pub IsUnread : Option ℕ → Type 0 → Fault → Type 0
IsUnread None why e = e ≡ NotPinned
IsUnread (Some n) why e = why

-- The reason why bytes aren't the text of a query. Either they aren't valid UTF-8, or the text has
-- this error, or memory runs out.
abbrev pub IsNoQuery : List ℕ → Fault → Type 0
IsNoQuery text e = ((e ≡ NotUtf8) × (¬ (IsUtf8 text)))
    ⊎ ((why : Refusal) × (e ≡ Refused why) × IsMemory why (fault text ≡ Some why))
