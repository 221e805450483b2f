-- A store that was read between a line and its reply.
use Rattle.std.proofs.Common.{◌≡◌, ℕ, fold, All, List, ◌∷◌, ◌++◌, append_assoc, sym, ap, ◌∙◌, subst}
use Rattle.std.proofs.lemmas.List.Elements.{All-append}
use Rattle.std.proofs.lemmas.List.Sums.{fold-append}
use Rattle.be_volume.specs.Ahead.{state_after}
use Rattle.be_volume.specs.Volume.{State}
use Rattle.be_journal.specs.declared.entries.Entry.{Entry}
use Rattle.be_script_runner.specs.Output.{Session}
use Rattle.be_script_runner.specs.Store.{Store, Joins, IsOther}
use Rattle.be_script_runner.specs.View.{session}
use Rattle.be_script_runner.specs.declared.client.Client.{Client}
use Rattle.be_script_runner.specs.declared.faults.RunFault.{RunFault}
use Rattle.be_script_runner.specs.declared.faults.RunFault.TheVariants.{Limits, Read, TooLong, Write, Memory}
use Rattle.be_shell.specs.Conversation.{Event, Heard, hears, IsBroken, RepliedTo, BrokeAfter}

same_store : (a : Store) (j j' : List Entry) (v v' : State) → j ≡ j' → v ≡ v' → (record a { journal = j; volume = v }) ≡ (record a { journal = j'; volume = v' })
same_store a j j' v v' p q = ap (λ (z : List Entry). record a { journal = z; volume = v }) p ∙ ap (λ (z : State). record a { journal = j'; volume = z }) q

-- What the other passes write, in two parts.
pub joins_both : (a b c : Store) → Joins a b → Joins b c → Joins a c
joins_both a b c h g =
    let volume = λ (v : State) (e : Entry). state_after v e.ops in
    let whole : c ≡ (record a { journal = (a.journal ++ h.others) ++ g.others; volume = fold volume (fold volume a.volume h.others) g.others }) =
    subst (λ (z : Store). c ≡ (record z { journal = z.journal ++ g.others; volume = fold volume z.volume g.others })) h.store g.store in
    record {
      others = h.others ++ g.others;
      theirs = All-append (λ e. IsOther a e.by) h.others g.others h.theirs (subst (λ (z : Store). All (λ e. IsOther z e.by) g.others) h.store g.theirs);
      store = whole ∙ same_store a _ _ _ _ (append_assoc a.journal h.others g.others) (sym (fold-append volume a.volume h.others g.others));
    }

-- A reply after a read.
pub replied_from : (a b : Store) (client : Client) (line : Heard) (after : Session) (reply : List ℕ) → Joins a b → RepliedTo (session b client) line after reply →
    RepliedTo (session a client) line after reply
replied_from a b client line after reply j h = (h.0, record { now = h.1.now; joins = joins_both a b h.1.now j h.1.joins; is = h.1.is }, h.2)

broken_from : (e : RunFault) (a b : Store) (client : Client) (line : Heard) (events : List Event) → Joins a b → IsBroken e (session b client) (hears line ∷ events) →
    IsBroken e (session a client) (hears line ∷ events)
broken_from Limits a b client line events j h = h
broken_from Read a b client line events j h = h
broken_from TooLong a b client line events j h = h
broken_from Write a b client line events j h = (h.0, h.1, h.2, h.3, replied_from a b client h.0 h.1 h.2 j h.4, h.5, h.6)
broken_from Memory a b client line events j h = h

-- A fault after a read.
pub broke_from : {P : Type 0} (does : P → Event → P → Type 0) (e : RunFault) (a b : Store) (client : Client) (line : Heard) (p q : P) → Joins a b →
    BrokeAfter does e (session b client) line p q → BrokeAfter does e (session a client) line p q
broke_from does e a b client line p q j h = (h.0, broken_from e a b client line h.0 j h.1, h.2)
