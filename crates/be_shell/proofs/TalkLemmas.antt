-- How events and exchanges combine into a conversation.
use Rattle.std.proofs.Common.{◌≡◌, ℕ, ◌+◌, ◌^◌, Bool, true, false, List, [], ◌∷◌, ◌++◌, length-append, arith, inl, inr, refl, sym, ap, ◌∙◌, subst}
use Rattle.std.specs.Result.{IfErr, IsErrAnd}
use Rattle.std.specs.declared.result.Result.{Result}
use Rattle.std.specs.declared.result.Result.TheVariants.{Ok, Err}
use Rattle.be_script_language.specs.Reply.{none}
use Rattle.be_script_language.specs.Request.{Request, silent}
use Rattle.be_script_runner.specs.Output.{Session, Outputs, Serves}
use Rattle.be_script_runner.specs.Run.{IsNotLimits}
use Rattle.be_script_runner.specs.declared.faults.RunFault.{RunFault}
use Rattle.be_script_runner.specs.declared.faults.RunFault.TheVariants.{Limits, Read, TooLong, Write, Memory}
use Rattle.be_script_runner.proofs.EndLemmas.{nothing_asked}
use Rattle.be_script_runner.proofs.ReplyLemmas.{serves_at_once}
use Rattle.be_shell.specs.Conversation.{Heard, Event, hears, ends, says, flushes, fails, RepliedTo, exchange, IsTalk, Happens, SoFar, TalkedTo, Went, IsCut, IsDeaf, IsBroken, Broke, BrokeAfter, BrokeOff, all_short, said}

-- A fault that is passed on.
pub passed_up : {T E : Type 0} (r : Result T E) (e : E) (P : E → Type 0) → IsErrAnd r (λ y. y ≡ e) → P e → IfErr r P
passed_up (Ok x) e P is p = tt
passed_up (Err y) e P is p = subst P (sym is) p

-- Events after other events.
pub happens_both : {P : Type 0} (does : P → Event → P → Type 0) (xs ys : List Event) (p q r : P) → Happens does p xs q → Happens does q ys r → Happens does p (xs ++ ys) r
happens_both does [] ys p q r h g = subst (λ z. Happens does z ys r) h g
happens_both does (x ∷ xs) ys p q r h g = (h.0, h.1, happens_both does xs ys h.0 q r h.2 g)

-- One more exchange.
pub talk_more : (lines : List Heard) (s mid last : Session) (talk : List Event) (line : Heard) (reply : List ℕ) → IsTalk s lines talk mid → RepliedTo mid line last reply →
    IsTalk s (lines ++ line ∷ []) (talk ++ exchange line reply) last
talk_more [] s mid last talk line reply h r =
    (last, reply, [], subst (λ (z : Session). RepliedTo z line last reply) h.0 r, (refl, refl), ap (λ z. z ++ exchange line reply) h.1)
talk_more (first ∷ lines) s mid last talk line reply h r =
    (h.0, h.1, h.2 ++ exchange line reply, h.3, talk_more lines h.0 mid last h.2 line reply h.4 r, ap (λ z. z ++ exchange line reply) h.5)

module _ {P : Type 0} (does : P → Event → P → Type 0) where
  -- Before the first line.
  pub none_yet : (s : Session) (p : P) → SoFar does s p 0 s p
  none_yet s p = ([], [], (refl, refl), refl, refl)

  -- One more line was read and answered.
  pub one_more : (count : ℕ) (s mid last : Session) (p q r : P) (more : Bool) → SoFar does s p count mid q → Went does mid q more last r → more ≡ true →
      SoFar does s p (count + 1) last r
  one_more count s mid last p q r more w g e =
      let x : Went does mid q true last r = subst (λ (b : Bool). Went does mid q b last r) e g in (
        w.0 ++ x.0 ∷ [],
        w.1 ++ exchange x.0 x.1,
        talk_more w.0 s mid last w.1 x.0 x.1 w.2 x.2,
        happens_both does w.1 (exchange x.0 x.1) p q r w.3 x.3,
        omega (arith, length-append w.0 (x.0 ∷ []), w.4),
      )

  -- There were no more lines.
  pub at_end : (count : ℕ) (s mid last : Session) (p q r : P) (more : Bool) → SoFar does s p count mid q → Went does mid q more last r → more ≡ false → TalkedTo does s p last r
  at_end count s mid last p q r more w g e =
      let x : Went does mid q false last r = subst (λ (b : Bool). Went does mid q b last r) e g in
      (w.0, w.1, subst (λ (z : Session). IsTalk s w.0 w.1 z) (sym x.0) w.2, happens_both does w.1 (ends ∷ []) p q r w.3 x.1)

  -- An exchange was interrupted.
  pub broken_off : (e : RunFault) (count : ℕ) (s mid : Session) (p q r : P) → SoFar does s p count mid q → Broke does e mid q r → BrokeOff does e s p r
  broken_off e count s mid p q r w b = (w.0, w.1, mid, b.0, w.2, inl b.1, happens_both does w.1 b.0 p q r w.3 b.2)

  -- The maximum number of lines that can be counted.
  pub uncounted : (count : ℕ) (s mid : Session) (p q : P) → SoFar does s p count mid q → count + 1 ≡ 2 ^ 64 → BrokeOff does Read s p q
  uncounted count s mid p q w full =
      (w.0, w.1, mid, [], w.2, inr (refl, ap (λ n. n + 1) w.4 ∙ full, refl), happens_both does w.1 [] p q q w.3 refl)

  -- Reading a line failed.
  pub deaf : (e : RunFault) (s : Session) (p q : P) → IsDeaf e → does p fails q → Broke does e s p q
  deaf Limits s p q d h = absurd d
  deaf Read s p q d h = (fails ∷ [], refl, (q, h, refl))
  deaf TooLong s p q d h = absurd d
  deaf Write s p q d h = absurd d
  deaf Memory s p q d h = (fails ∷ [], inl refl, (q, h, refl))

  -- A line was read and answered.
  pub went_on : (s after : Session) (p mid q : P) (event : Event) (line : Heard) → does p event mid → event ≡ hears line →
      (reply : List ℕ) × RepliedTo s line after reply × Happens does mid (says reply ∷ flushes ∷ []) q → Went does s p true after q
  went_on s after p mid q event line d same h = (line, h.0, h.1, (mid, subst (λ (e : Event). does p e mid) same d, h.2))

  -- There was no line left to read.
  pub went_out : (s : Session) (p q : P) (event : Event) → does p event q → event ≡ ends → Went does s p false s q
  went_out s p q event d same = (refl, (q, subst (λ (e : Event). does p e q) same d, refl))

  -- A line was read, and then the exchange was interrupted.
  pub broke_after : (e : RunFault) (s : Session) (event : Event) (line : Heard) (p mid q : P) → does p event mid → event ≡ hears line → BrokeAfter does e s line mid q → Broke does e s p q
  broke_after e s event line p mid q d same b = (hears line ∷ b.0, b.1, (mid, subst (λ (z : Event). does p z mid) same d, b.2))

  -- There was no memory for a reply.
  pub unanswered : (e : RunFault) (s : Session) (line : Heard) (p : P) → e ≡ Memory → BrokeAfter does e s line p p
  unanswered e s line p h = subst (λ (z : RunFault). BrokeAfter does z s line p p) (sym h) ([], inr (line, refl), refl)

  -- A reply was cut off.
  pub cut_off : (e : RunFault) (s after : Session) (line : Heard) (reply said' : List ℕ) (p q : P) → said' ≡ reply → RepliedTo s line after reply →
      (e ≡ Write) × (cut : List Event) × IsCut said' cut × Happens does p cut q → BrokeAfter does e s line p q
  cut_off e s after line reply said' p q same r h =
      subst (λ (z : RunFault). BrokeAfter does z s line p q) (sym h.0)
      (h.1, (line, after, said', h.1, subst (λ (z : List ℕ). RepliedTo s line after z) (sym same) r, h.2, refl), h.3)

pub broken_is_other : (e : RunFault) (s : Session) (events : List Event) → IsBroken e s events → IsNotLimits e
broken_is_other Limits s events h = absurd h
broken_is_other Read s events h = tt
broken_is_other TooLong s events h = tt
broken_is_other Write s events h = tt
broken_is_other Memory s events h = tt

-- A conversation writes the same output as its lines do in a script.
pub talk_output : (lines : List (List ℕ)) (s last : Session) (talk : List Event) → IsTalk s (all_short lines) talk last → Outputs s lines last (said talk)
talk_output [] s last talk h = (h.0, ap said h.1)
talk_output (line ∷ lines) s last talk h = (h.0, h.1, said h.2, h.3, talk_output lines h.0 last h.2 h.4, ap said h.5)

-- One more empty line has no reply.
pub empty_more : (lines : List (List ℕ)) (s last : Session) (out : List ℕ) → Outputs s lines last out → Outputs s (lines ++ [] ∷ []) last out
empty_more [] s last out h =
    (s, [], [], (none, subst (λ (q : Request). Serves s q none s) (sym nothing_asked) (serves_at_once s s silent none refl), refl), (h.0, refl), h.1)
empty_more (line ∷ lines) s last out h = (h.0, h.1, h.2, h.3, empty_more lines h.0 last h.2 h.4, h.5)
