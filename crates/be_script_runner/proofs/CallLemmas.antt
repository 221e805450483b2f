-- A pass's calls, line by line.
use Rattle.std.proofs.Common.{◌≡◌, ℕ, List, [], ◌∷◌, ◌++◌, length, refl, sym, ap, ◌∙◌, subst, append_assoc, append-nil, arith}
use Rattle.std.specs.Prelude.{IfErr, IfOk, Ok, Err}
use Rattle.std.specs.declared.option.Option.{Option}
use Rattle.std.specs.declared.result.Result.{Result}
use Rattle.be_value.specs.declared.refusals.Refusal.{Refusal}
use Rattle.be_volume.specs.declared.ops.Done.{Done}
use Rattle.be_volume.specs.declared.ops.Op.{Op}
use Rattle.be_store.specs.Calls.{Call}
use Rattle.be_store.specs.History.{Accepts, IsLastReason, Learns}
use Rattle.be_store.specs.Passes.{HasRead}
use Rattle.be_store.specs.SmallMachine.{Step, Apply, Learn}
use Rattle.be_store.specs.Views.{volume}
use Rattle.be_store.proofs.Calls.{calls_both, calls_more, read_learns}
use Rattle.be_table.specs.Rule.{entries}
use Rattle.be_table.specs.Steps.{entry_by}
use Rattle.be_table.specs.declared.pass.Knowledge.{Knowledge}
use Rattle.be_script_language.specs.Reply.{none}
use Rattle.be_script_language.specs.Request.{Request, silent, lines_of}
use Rattle.be_script_runner.specs.Lines.{AreAnsweredBy, HasAnswered, IsAnsweredBy, IsServedBy, LeadTo}
use Rattle.be_script_runner.specs.Output.{Answered, IsOutputTo, Outputs, Serves, Session, opening}
use Rattle.be_script_runner.specs.Run.{Wrote}
use Rattle.be_script_runner.specs.Served.{known}
use Rattle.be_script_runner.specs.View.{session}
use Rattle.be_script_runner.specs.declared.client.Client.{Client}
use Rattle.be_script_runner.proofs.EndLemmas.{nothing_asked}
use Rattle.be_script_runner.proofs.ReplyLemmas.{serves_at_once}
use Rattle.be_script_runner.proofs.RunLemmas.{none_written, written_both}

-- one more call; and no call at all
pub leads_more : (a b : Knowledge) (s : Step volume) (c : Knowledge) → LeadTo a b → Call b s c → LeadTo a c
leads_more a b s c h k = (h.0 ++ s ∷ [], calls_more a h.0 b s c h.1 k)

pub leads_both : (a b c : Knowledge) → LeadTo a b → LeadTo b c → LeadTo a c
leads_both a b c h k = (h.0 ++ k.0, calls_both a h.0 b k.0 c h.1 k.1)

pub leads_nowhere : (a : Knowledge) → LeadTo a a
leads_nowhere a = ([], refl)

-- a read is a call, whatever it answers
pub leads_read : (a b c : Knowledge) → LeadTo a b → HasRead b c → LeadTo a c
leads_read a b c h k = leads_more a b (Learn (entries c.seen)) c h (read_learns b c k)

-- a write is a call, accepted or refused
pub writes_call : {X : Type 0} (a c : Knowledge) (tries : ℕ) (outcomes_of : X → List Done) (ops : List Op) (r : Result (ℕ × X) Refusal) → IfOk r (λ x. Accepts a c ops x.0 (outcomes_of x.1)) →
    IfErr r (λ e. Learns a c × IsLastReason tries a c ops e) → LeadTo a c
writes_call a c tries outcomes_of ops (Ok x) ok err = (Apply (entry_by a ops (outcomes_of x.1)) x.0 ∷ [], (c, (ops, outcomes_of x.1, refl, ok), refl))
writes_call a c tries outcomes_of ops (Err e) ok err = (Learn (entries c.seen) ∷ [], (c, (err.0, refl), refl))

-- ## Lines

-- the line of a pass: the server begins with what the pass knew, and ends with what the pass knows
-- afterwards
pub line_served : (a first last c : Knowledge) (client after : Client) (line : List ℕ) (old new : Option (List ℕ)) → first ≡ a → c ≡ last → LeadTo a c →
    Wrote old new (Answered (session (known first) client) line (session (known last) after)) →
    Wrote old new (IsAnsweredBy a (session (known a) client) line c (session (known c) after))
line_served a first last c client after line old new begun ended calls w =
    let from : Answered (session (known a) client) line (session (known last) after) w.out =
    subst (λ (k : Knowledge). Answered (session (known k) client) line (session (known last) after) w.out) begun w.is in
    record {
      out = w.out;
      appended = w.appended;
      is = record {
        calls = calls;
        answered = subst (λ (k : Knowledge). Answered (session (known a) client) line (session (known k) after) w.out) (sym ended) from;
        shows = refl;
      };
    }

-- several lines, followed by one more
answered_more : (a : Knowledge) (s : Session) (lines : List (List ℕ)) (c : Knowledge) (mid : Session) (line : List ℕ) (d : Knowledge) (after : Session) (out reply : List ℕ) →
    AreAnsweredBy a s lines c mid out → IsAnsweredBy c mid line d after reply → AreAnsweredBy a s (lines ++ line ∷ []) d after (out ++ reply)
answered_more a s [] c mid line d after out reply h k = (
  d,
  after,
  reply,
  [],
  subst (λ (x : Knowledge). IsAnsweredBy x s line d after reply) h.0 (subst (λ (t : Session). IsAnsweredBy c t line d after reply) h.1 k),
  (refl, refl, refl),
  ap (λ text. text ++ reply) h.2 ∙ sym (append-nil reply),
)
answered_more a s (x ∷ lines) c mid line d after out reply h k =
    (h.0, h.1, h.2, h.3 ++ reply, h.4, answered_more h.0 h.1 lines c mid line d after h.3 reply h.5 k, ap (λ text. text ++ reply) h.6 ∙ append_assoc h.2 h.3 reply)

lines_lead : (a : Knowledge) (s : Session) (lines : List (List ℕ)) (z : Knowledge) (last : Session) (out : List ℕ) → AreAnsweredBy a s lines z last out → LeadTo a z
lines_lead a s [] z last out h = ([], sym h.0)
lines_lead a s (line ∷ lines) z last out h = leads_both a h.0 z h.4.calls (lines_lead h.0 h.1 lines z last h.3 h.5)

lines_output : (a : Knowledge) (s : Session) (lines : List (List ℕ)) (z : Knowledge) (last : Session) (out : List ℕ) → AreAnsweredBy a s lines z last out → Outputs s lines last out
lines_output a s [] z last out h = (h.1, h.2)
lines_output a s (line ∷ lines) z last out h = (h.1, h.2, h.3, h.4.answered, lines_output h.0 h.1 lines z last h.3 h.5, h.6)

pub served_output : (a z : Knowledge) (script out : List ℕ) → IsServedBy a script z out → IsOutputTo (known a) script (known z) out
served_output a z script out h = (h.last, lines_output a (opening (known a)) (lines_of script) z h.last out h.lines, h.shows)

pub served_leads : (a z : Knowledge) (script out : List ℕ) → IsServedBy a script z out → LeadTo a z
served_leads a z script out h = lines_lead a (opening (known a)) (lines_of script) z h.last out h.lines

-- before the first line
pub none_served : (a : Knowledge) (script : List ℕ) (s : Session) (held : Option (List ℕ)) → s ≡ opening (known a) → s.store ≡ known a → Wrote held held (HasAnswered a script a s script)
none_served a script s held e shows = record {
  out = [];
  appended = none_written held;
  is = record { lines = []; is = refl; output = (refl, e, refl); shows = shows };
}

-- one more line
pub one_served : (a : Knowledge) (script left line left' : List ℕ) (c d : Knowledge) (s after : Session) (old mid new : Option (List ℕ)) → lines_of left ≡ line ∷ lines_of left' →
    Wrote old mid (HasAnswered a script c s left) → Wrote mid new (IsAnsweredBy c s line d after) → Wrote old new (HasAnswered a script d after left')
one_served a script left line left' c d s after old mid new e w r = record {
  out = w.out ++ r.out;
  appended = written_both old mid new w.out r.out w.appended r.appended;
  is = record {
    lines = w.is.lines ++ line ∷ [];
    is = w.is.is ∙ (ap (λ beyond. w.is.lines ++ beyond) e ∙ sym (append_assoc w.is.lines (line ∷ []) (lines_of left')));
    output = answered_more a (opening (known a)) w.is.lines c s line d after w.out r.out w.is.output r.is;
    shows = r.is.shows;
  };
}

-- the last line
pub last_served : (a : Knowledge) (script left : List ℕ) (c d : Knowledge) (s after : Session) (old mid new : Option (List ℕ)) → lines_of left ≡ left ∷ [] →
    Wrote old mid (HasAnswered a script c s left) → Wrote mid new (IsAnsweredBy c s left d after) → Wrote old new (IsServedBy a script d)
last_served a script left c d s after old mid new e w r = record {
  out = w.out ++ r.out;
  appended = written_both old mid new w.out r.out w.appended r.appended;
  is = record {
    last = after;
    lines = subst (λ lines. AreAnsweredBy a (opening (known a)) lines d after (w.out ++ r.out)) (sym (w.is.is ∙ ap (λ beyond. w.is.lines ++ beyond) e))
        (answered_more a (opening (known a)) w.is.lines c s left d after w.out r.out w.is.output r.is);
    shows = r.is.shows;
  };
}

-- no text follows the last LF
pub none_left : (a : Knowledge) (script left : List ℕ) (c : Knowledge) (s : Session) (old new : Option (List ℕ)) → length left ≡ 0 →
    Wrote old new (HasAnswered a script c s left) → Wrote old new (IsServedBy a script c)
none_left a script [] c s old new empty w =
    last_served a script [] c c s s old new new refl w (record {
      out = [];
      appended = none_written new;
      is = record {
        calls = leads_nowhere c;
        answered = (none, subst (λ (q : Request). Serves s q none s) (sym nothing_asked) (serves_at_once s s silent none refl), refl);
        shows = w.is.shows;
      };
    })
none_left a script (x ∷ left) c s old new empty w = absurd (omega (arith, empty))
