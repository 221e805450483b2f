-- A store and what a script keeps besides it, as a session.
use Rattle.std.specs.Prelude.{List, [], Some, None, unwrap_or}
use Rattle.std.specs.Option.{option_map}
use Rattle.std.specs.declared.option.Option.{Option}
use Rattle.be_volume.specs.declared.ops.Op.{Op}
use Rattle.be_store.specs.Live.{LiveQuery}
use Rattle.be_script_language.specs.Reply.{Reply}
use Rattle.be_script_language.specs.Request.{Request}
use Rattle.be_script_runner.specs.Output.{Replies, Session}
use Rattle.be_script_runner.specs.Store.{Store}
use Rattle.be_script_runner.specs.declared.client.Client.{Client}

-- the operations of an open batch
abbrev pub queue : Client → Option (List Op)
queue client = option_map (λ ops. ops.items) client.batch

abbrev pub queued_ops : Client → List Op
queued_ops client = unwrap_or (queue client) []

-- a store and what a script keeps besides it, as a session
abbrev pub session : Store → Client → Session
session store client = record { store = store; batch = queue client; live = client.live }

-- whatever the script keeps besides its store, this request gets this reply, which depends only on
-- the store, and changes nothing
abbrev pub RepliesToAny : Store → Request → Reply → Type 0
RepliesToAny store request reply = (client : Client)
    → Replies (session store client) request reply (session store client)

-- a session from its parts: with no open batch, with these operations queued, or with this live
-- query
abbrev pub unbatched : Store → Option LiveQuery → Session
unbatched store l = record { store = store; batch = None; live = l }

abbrev pub batched : Store → List Op → Option LiveQuery → Session
batched store ops l = record { store = store; batch = Some ops; live = l }

abbrev pub watched : Store → Option (List Op) → LiveQuery → Session
watched store batch l = record { store = store; batch = batch; live = Some l }
