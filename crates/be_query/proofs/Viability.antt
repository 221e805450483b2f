-- Reading continues exactly as long as the tokens are the beginning of a sentence.
use Rattle.std.proofs.Common.{◌≡◌, ℕ, Bool, true, false, Option, Some, None, List, [], ◌∷◌, ◌++◌, refl, sym, ap, ◌∙◌, subst, append_assoc, append-nil, cond}
use Rattle.std.proofs.lemmas.Bool.{false≢true}
use Rattle.be_query.specs.declared.tree.Cmp.{Cmp}
use Rattle.be_query.specs.declared.tree.Cmp.TheVariants.{Eq}
use Rattle.be_query.specs.Tokens.{Token, Open, Close, Bang, Both, Either, Compares, Text, is_name}
use Rattle.be_query.specs.Grammar.{OrPhrase, or_one, or_more, AndPhrase, and_one, and_more, NotPhrase, negation, group, comparison, or_tokens, and_tokens, not_tokens, Viable}
use Rattle.be_query.specs.Reading.{Awaited, Operand, Operator, Value, Joint, Mark, Paren, Negation, ended, next, read_from, read}

pub read_none : (ts : List Token) → read_from None ts ≡ None
read_none [] = refl
read_none (t ∷ ts) = refl

pub read-append : (s : Option (Awaited × List Mark)) (ts us : List Token) → read_from s (ts ++ us) ≡ read_from (read_from s ts) us
read-append s [] us = refl
read-append None (t ∷ ts) us = sym (read_none us)
read-append (Some s) (t ∷ ts) us = read-append (next s.0 s.1 t) ts us

pub ended-ended : (ms : List Mark) → ended (ended ms) ≡ ended ms
ended-ended [] = refl
ended-ended (Negation ∷ ms) = ended-ended ms
ended-ended (Paren ∷ ms) = refl

-- A phrase is read to its end.
mutual
  pub or_read : (o : OrPhrase) (ms : List Mark) (us : List Token) → read_from (Some (Operand, ms)) (or_tokens o ++ us) ≡ read_from (Some (Joint, ended ms)) us
  or_read (or_one a) ms us = and_read a ms us
  or_read (or_more o a) ms us =
      ap (read_from (Some (Operand, ms))) (append_assoc (or_tokens o) (Either ∷ and_tokens a) us)
      ∙ or_read o ms (Either ∷ (and_tokens a ++ us))
      ∙ and_read a (ended ms) us
      ∙ ap (λ m. read_from (Some (Joint, m)) us) (ended-ended ms)

  pub and_read : (a : AndPhrase) (ms : List Mark) (us : List Token) → read_from (Some (Operand, ms)) (and_tokens a ++ us) ≡ read_from (Some (Joint, ended ms)) us
  and_read (and_one n) ms us = not_read n ms us
  and_read (and_more a n) ms us =
      ap (read_from (Some (Operand, ms))) (append_assoc (and_tokens a) (Both ∷ not_tokens n) us)
      ∙ and_read a ms (Both ∷ (not_tokens n ++ us))
      ∙ not_read n (ended ms) us
      ∙ ap (λ m. read_from (Some (Joint, m)) us) (ended-ended ms)

  pub not_read : (n : NotPhrase) (ms : List Mark) (us : List Token) → read_from (Some (Operand, ms)) (not_tokens n ++ us) ≡ read_from (Some (Joint, ended ms)) us
  not_read (negation n) ms us = not_read n (Negation ∷ ms) us
  not_read (group o) ms us =
      ap (read_from (Some (Operand, Paren ∷ ms))) (append_assoc (or_tokens o) (Close ∷ []) us)
      ∙ or_read o (Paren ∷ ms) (Close ∷ us)
  not_read (comparison name valid op value) ms us = named (is_name name) valid ms (λ s. read_from s (Compares op ∷ Text value ∷ us))
    where
      named : (b : Bool) → b ≡ true → (m : List Mark) (k : Option (Awaited × List Mark) → Option (Awaited × List Mark)) → k (cond b (Some (Operator, m)) None) ≡ k (Some (Operator, m))
      named true e m k = refl
      named false e m k = absurd (false≢true e)

-- Phrases made from other phrases.

-- A phrase extended by `&&` and an operand.
and_operand : (o : OrPhrase) (n : NotPhrase) → (r : OrPhrase) × (or_tokens r ≡ or_tokens o ++ Both ∷ not_tokens n)
and_operand (or_one a) n = (or_one (and_more a n), refl)
and_operand (or_more o a) n = (or_more o (and_more a n), sym (append_assoc (or_tokens o) (Either ∷ and_tokens a) (Both ∷ not_tokens n)))

and_phrase : (o : OrPhrase) (a : AndPhrase) → (r : OrPhrase) × (or_tokens r ≡ or_tokens o ++ Both ∷ and_tokens a)
and_phrase o (and_one n) = and_operand o n
and_phrase o (and_more a n) =
    let p = and_phrase o a in
    let q = and_operand p.0 n in
    (q.0, q.1 ∙ ap (λ l. l ++ Both ∷ not_tokens n) p.1 ∙ append_assoc (or_tokens o) (Both ∷ and_tokens a) (Both ∷ not_tokens n))

both : (o e : OrPhrase) → (r : OrPhrase) × (or_tokens r ≡ or_tokens o ++ Both ∷ or_tokens e)
both o (or_one a) = and_phrase o a
both o (or_more e a) =
    let p = both o e in
    (or_more p.0 a, ap (λ l. l ++ Either ∷ and_tokens a) p.1 ∙ append_assoc (or_tokens o) (Both ∷ or_tokens e) (Either ∷ and_tokens a))

either : (o e : OrPhrase) → (r : OrPhrase) × (or_tokens r ≡ or_tokens o ++ Either ∷ or_tokens e)
either o (or_one a) = (or_more o a, refl)
either o (or_more e a) =
    let p = either o e in
    (or_more p.0 a, ap (λ l. l ++ Either ∷ and_tokens a) p.1 ∙ append_assoc (or_tokens o) (Either ∷ or_tokens e) (Either ∷ and_tokens a))

negated_and : (a : AndPhrase) → (r : AndPhrase) × (and_tokens r ≡ Bang ∷ and_tokens a)
negated_and (and_one n) = (and_one (negation n), refl)
negated_and (and_more a n) = let p = negated_and a in (and_more p.0 n, ap (λ l. l ++ Both ∷ not_tokens n) p.1)

negated : (e : OrPhrase) → (r : OrPhrase) × (or_tokens r ≡ Bang ∷ or_tokens e)
negated (or_one a) = let p = negated_and a in (or_one p.0, p.1)
negated (or_more e a) = let p = negated e in (or_more p.0 a, ap (λ l. l ++ Either ∷ and_tokens a) p.1)

-- What the tokens that have been read are, at each open `(`.

-- Followed by any phrase, these tokens form a phrase.
abbrev Continues : List Token → Type 0
Continues ts = (e : OrPhrase) → (o : OrPhrase) × (or_tokens o ≡ ts ++ or_tokens e)

abbrev Whole : List Token → Type 0
Whole ts = (o : OrPhrase) × (or_tokens o ≡ ts)

abbrev AtOperand : List Mark → List Token → Type 0
AtOperand [] ts = Continues ts
AtOperand (Negation ∷ ms) ts = AtOperand ms ts
AtOperand (Paren ∷ ms) ts = (before : List Token) × (after : List Token) × (ts ≡ before ++ Open ∷ after) × AtOperand ms before × Continues after

abbrev AtJoint : List Mark → List Token → Type 0
AtJoint [] ts = Whole ts
AtJoint (Negation ∷ ms) ts = AtJoint ms ts
AtJoint (Paren ∷ ms) ts = (before : List Token) × (after : List Token) × (ts ≡ before ++ Open ∷ after) × AtOperand ms before × Whole after

-- A phrase takes the place of an operand.
fill : (ms : List Mark) (ts : List Token) (e : OrPhrase) → AtOperand ms ts → AtJoint ms (ts ++ or_tokens e)
fill [] ts e h = h e
fill (Negation ∷ ms) ts e h = fill ms ts e h
fill (Paren ∷ ms) ts e h =
    let w = h.4 e in
    (h.0, h.1 ++ or_tokens e, ap (λ l. l ++ or_tokens e) h.2 ∙ append_assoc h.0 (Open ∷ h.1) (or_tokens e), h.3, w)

joint_ended : (ms : List Mark) (ts : List Token) → AtJoint ms ts → AtJoint (ended ms) ts
joint_ended [] ts h = h
joint_ended (Negation ∷ ms) ts h = joint_ended ms ts h
joint_ended (Paren ∷ ms) ts h = h

-- A token that continues a whole phrase.
continue_with : (t : Token) → ((o e : OrPhrase) → (r : OrPhrase) × (or_tokens r ≡ or_tokens o ++ t ∷ or_tokens e)) → (ts : List Token) → Whole ts → Continues (ts ++ t ∷ [])
continue_with t join ts w e =
    let j = join w.0 e in
    (j.0, j.1 ∙ ap (λ l. l ++ t ∷ or_tokens e) w.1 ∙ sym (append_assoc ts (t ∷ []) (or_tokens e)))

joined : (t : Token) → ((o e : OrPhrase) → (r : OrPhrase) × (or_tokens r ≡ or_tokens o ++ t ∷ or_tokens e)) → (ms : List Mark) (ts : List Token) → AtJoint ms ts → AtOperand ms (ts ++ t ∷ [])
joined t join [] ts h = continue_with t join ts h
joined t join (Negation ∷ ms) ts h = joined t join ms ts h
joined t join (Paren ∷ ms) ts h = (h.0, h.1 ++ t ∷ [], ap (λ l. l ++ t ∷ []) h.2 ∙ append_assoc h.0 (Open ∷ h.1) (t ∷ []), h.3, continue_with t join h.1 h.4)

closed : (ms : List Mark) (ts : List Token) → AtJoint (Paren ∷ ms) ts → AtJoint ms (ts ++ Close ∷ [])
closed ms ts h =
    let inner = ap (λ l. Open ∷ (l ++ Close ∷ [])) h.4.1 in
    let place = ap (λ l. h.0 ++ l) inner ∙ sym (append_assoc h.0 (Open ∷ h.1) (Close ∷ [])) ∙ ap (λ l. l ++ Close ∷ []) (sym h.2) in
    subst (AtJoint ms) place (fill ms h.0 (or_one (and_one (group h.4.0))) h.3)

continues_negated : (ts : List Token) → Continues ts → Continues (ts ++ Bang ∷ [])
continues_negated ts h e =
    let n = negated e in
    let c = h n.0 in
    (c.0, c.1 ∙ ap (λ l. ts ++ l) n.1 ∙ sym (append_assoc ts (Bang ∷ []) (or_tokens e)))

banged : (ms : List Mark) (ts : List Token) → AtOperand ms ts → AtOperand ms (ts ++ Bang ∷ [])
banged [] ts h = continues_negated ts h
banged (Negation ∷ ms) ts h = banged ms ts h
banged (Paren ∷ ms) ts h = (h.0, h.1 ++ Bang ∷ [], ap (λ l. l ++ Bang ∷ []) h.2 ∙ append_assoc h.0 (Open ∷ h.1) (Bang ∷ []), h.3, continues_negated h.1 h.4)

abbrev Reached : Awaited → List Mark → List Token → Type 0
Reached Operand ms ts = AtOperand ms ts
Reached Operator ms ts = (front : List Token) × (name : List ℕ) × (ts ≡ front ++ Text name ∷ []) × (is_name name ≡ true) × AtOperand ms front
Reached (Value op) ms ts = (front : List Token) × (name : List ℕ) × (ts ≡ front ++ Text name ∷ Compares op ∷ []) × (is_name name ≡ true) × AtOperand ms front
Reached Joint ms ts = AtJoint ms ts

abbrev ReachedIf : Option (Awaited × List Mark) → List Token → Type 0
ReachedIf None ts = Unit {0}
ReachedIf (Some s) ts = Reached s.0 s.1 ts

named_if : (raw : List ℕ) (ms : List Mark) (ts : List Token) → AtOperand ms ts → (b : Bool) → is_name raw ≡ b → ReachedIf (cond b (Some (Operator, ms)) None) (ts ++ Text raw ∷ [])
named_if raw ms ts h true e = (ts, raw, refl, e, h)
named_if raw ms ts h false e = tt

step : (p : Awaited) (ms : List Mark) (t : Token) (ts : List Token) → Reached p ms ts → ReachedIf (next p ms t) (ts ++ t ∷ [])
step Operand ms Open ts h = (ts, [], refl, h, λ e. (e, refl))
step Operand ms Close ts h = tt
step Operand ms Bang ts h = banged ms ts h
step Operand ms Both ts h = tt
step Operand ms Either ts h = tt
step Operand ms (Compares op) ts h = tt
step Operand ms (Text raw) ts h = named_if raw ms ts h (is_name raw) refl
step Operator ms Open ts h = tt
step Operator ms Close ts h = tt
step Operator ms Bang ts h = tt
step Operator ms Both ts h = tt
step Operator ms Either ts h = tt
step Operator ms (Compares op) ts h = (h.0, h.1, ap (λ l. l ++ Compares op ∷ []) h.2 ∙ append_assoc h.0 (Text h.1 ∷ []) (Compares op ∷ []), h.3, h.4)
step Operator ms (Text raw) ts h = tt
step (Value op) ms Open ts h = tt
step (Value op) ms Close ts h = tt
step (Value op) ms Bang ts h = tt
step (Value op) ms Both ts h = tt
step (Value op) ms Either ts h = tt
step (Value op) ms (Compares other) ts h = tt
step (Value op) ms (Text raw) ts h =
    let place = sym (append_assoc h.0 (Text h.1 ∷ Compares op ∷ []) (Text raw ∷ [])) ∙ ap (λ l. l ++ Text raw ∷ []) (sym h.2) in
    subst (AtJoint (ended ms)) place (joint_ended ms _ (fill ms h.0 (or_one (and_one (comparison h.1 h.3 op raw))) h.4))
step Joint ms Open ts h = tt
step Joint [] Close ts h = tt
step Joint (Negation ∷ ms) Close ts h = tt
step Joint (Paren ∷ ms) Close ts h = joint_ended ms _ (closed ms ts h)
step Joint ms Bang ts h = tt
step Joint ms Both ts h = joined Both both ms ts h
step Joint ms Either ts h = joined Either either ms ts h
step Joint ms (Compares op) ts h = tt
step Joint ms (Text raw) ts h = tt

reached : (s : Option (Awaited × List Mark)) (front ts : List Token) → ReachedIf s front → ReachedIf (read_from s ts) (front ++ ts)
reached s front [] h = subst (ReachedIf s) (sym (append-nil front)) h
reached None front (t ∷ ts) h = tt
reached (Some s) front (t ∷ ts) h = subst (ReachedIf (read_from (next s.0 s.1 t) ts)) (append_assoc front (t ∷ []) ts) (reached (next s.0 s.1 t) (front ++ t ∷ []) ts (step s.0 s.1 t front h))

viable_more : (ts us : List Token) → Viable (ts ++ us) → Viable ts
viable_more ts us v = (us ++ v.0, v.1, v.2 ∙ append_assoc ts us v.0)

joint_viable : (ms : List Mark) (ts : List Token) → AtJoint ms ts → Viable ts
joint_viable [] ts h = ([], h.0, h.1 ∙ sym (append-nil ts))
joint_viable (Negation ∷ ms) ts h = joint_viable ms ts h
joint_viable (Paren ∷ ms) ts h = viable_more ts (Close ∷ []) (joint_viable ms (ts ++ Close ∷ []) (closed ms ts h))

operand_viable : (ms : List Mark) (ts : List Token) → (name : List ℕ) → is_name name ≡ true → Cmp → (value : List ℕ) → AtOperand ms ts → Viable ts
operand_viable ms ts name valid op value h = viable_more ts _ (joint_viable ms _ (fill ms ts (or_one (and_one (comparison name valid op value))) h))

any_viable : (p : Awaited) (ms : List Mark) (ts : List Token) → Reached p ms ts → Viable ts
any_viable Operand ms ts h = operand_viable ms ts (97 ∷ []) refl Eq [] h
any_viable Operator ms ts h =
    let w = fill ms h.0 (or_one (and_one (comparison h.1 h.3 Eq []))) h.4 in
    let place = sym (append_assoc h.0 (Text h.1 ∷ []) (Compares Eq ∷ Text [] ∷ [])) ∙ ap (λ l. l ++ Compares Eq ∷ Text [] ∷ []) (sym h.2) in
    viable_more ts (Compares Eq ∷ Text [] ∷ []) (joint_viable ms _ (subst (AtJoint ms) place w))
any_viable (Value op) ms ts h =
    let w = fill ms h.0 (or_one (and_one (comparison h.1 h.3 op []))) h.4 in
    let place = sym (append_assoc h.0 (Text h.1 ∷ Compares op ∷ []) (Text [] ∷ [])) ∙ ap (λ l. l ++ Text [] ∷ []) (sym h.2) in
    viable_more ts (Text [] ∷ []) (joint_viable ms _ (subst (AtJoint ms) place w))
any_viable Joint ms ts h = joint_viable ms ts h

reached_whole : (ts : List Token) → ReachedIf (read ts) ts
reached_whole ts = reached (Some (Operand, [])) [] ts (λ e. (e, refl))

-- If tokens can be read, they are the beginning of a sentence.
pub read_viable : (ts : List Token) (s : Awaited × List Mark) → read ts ≡ Some s → Viable ts
read_viable ts s e = any_viable s.0 s.1 ts (subst (λ o. ReachedIf o ts) e (reached_whole ts))

not_none : (s : Awaited × List Mark) → Some s ≡ None → ⊥
not_none s e = cc

-- If tokens are the beginning of a sentence, they can be read.
pub viable_read : (ts : List Token) → Viable ts → read ts ≡ None → ⊥
viable_read ts v e =
    let whole = or_read v.1 [] [] in
    let split = read-append (Some (Operand, [])) ts v.0 in
    not_none (Joint, []) (sym whole ∙ ap read (append-nil (or_tokens v.1)) ∙ ap read v.2 ∙ split ∙ ap (λ s. read_from s v.0) e ∙ read_none v.0)

-- If tokens are read up to a connective and nothing is open, they are a sentence, and vice versa.
pub read_sentence : (ts : List Token) → read ts ≡ Some (Joint, []) → (o : OrPhrase) × (or_tokens o ≡ ts)
read_sentence ts e = subst (λ o. ReachedIf o ts) e (reached_whole ts)

pub sentence_read : (o : OrPhrase) → read (or_tokens o) ≡ Some (Joint, [])
sentence_read o = ap read (sym (append-nil (or_tokens o))) ∙ or_read o [] []
