-- A conversation over known bytes writes an output of the script that these bytes are.
use Rattle.std.proofs.Common.{◌≡◌, ◌⊎◌, ◌≤◌, ℕ, List, [], ◌∷◌, ◌++◌, length, length-append, Some, None, inl, inr, refl, sym, ap, ◌∙◌, subst, append_assoc, arith}
use Rattle.std.proofs.lemmas.List.{append-nil}
use Rattle.std.proofs.lemmas.List.Elements.{All-head, All-tail}
use Rattle.std.proofs.lemmas.List.Splits.{slice_split_at, slice_split_none}
use Rattle.std.specs.Io.KnownBytes.{Appends, Consumes, IsAtEnd, Keeps}
use Rattle.std.specs.declared.option.Option.{Option}
use Rattle.be_script_language.specs.Request.{lines_of}
use Rattle.be_script_runner.specs.Output.{Session, Outputs, opening}
use Rattle.be_script_runner.specs.Run.{is_line_end}
use Rattle.be_script_runner.specs.Store.{Store}
use Rattle.be_shell.specs.Bytes.{AreShort, IsHeardOf, IsWhole, Known, TakesLine, known_do, knows}
use Rattle.be_shell.specs.Conversation.{Event, Heard, short_line, long_line, ends, RepliedTo, exchange, IsTalk, Happens, TalkedTo}
use Rattle.be_shell.proofs.TalkLemmas.{empty_more}

-- How known bytes are changed by a read, by a write, and by neither.
consumed : (old new : Option (List ℕ)) (xs bytes : List ℕ) → old ≡ Some xs → Consumes old new bytes → (rest : List ℕ) × (new ≡ Some rest) × (xs ≡ bytes ++ rest)
consumed old new xs bytes e h = by new (subst (λ (z : Option (List ℕ)). Consumes z new bytes) e h)
  where
    by : (new : Option (List ℕ)) → Consumes (Some xs) new bytes → (rest : List ℕ) × (new ≡ Some rest) × (xs ≡ bytes ++ rest)
    by None g = absurd g
    by (Some ys) g = (ys, refl, g)

appended : (old new : Option (List ℕ)) (xs bytes : List ℕ) → old ≡ Some xs → Appends old new bytes → new ≡ Some (xs ++ bytes)
appended old new xs bytes e h = by new (subst (λ (z : Option (List ℕ)). Appends z new bytes) e h)
  where
    by : (new : Option (List ℕ)) → Appends (Some xs) new bytes → new ≡ Some (xs ++ bytes)
    by None g = absurd g
    by (Some ys) g = ap (λ z. Some z) g

kept : (old new : Option (List ℕ)) (xs : List ℕ) → old ≡ Some xs → Keeps old new → new ≡ Some xs
kept old new xs e h = by new (subst (λ (z : Option (List ℕ)). Keeps z new) e h)
  where
    by : (new : Option (List ℕ)) → Keeps (Some xs) new → new ≡ Some xs
    by None g = absurd g
    by (Some ys) g = ap (λ z. Some z) g

at_end : (known : Option (List ℕ)) (xs : List ℕ) → known ≡ Some xs → IsAtEnd known → xs ≡ []
at_end known xs e h = subst (λ (z : Option (List ℕ)). IsAtEnd z) e h

heard_short : (bytes : List ℕ) (line : Heard) → length bytes ≤ 65536 → IsHeardOf bytes line → line ≡ short_line bytes
heard_short bytes (short_line l) few h = ap short_line (sym h.0)
heard_short bytes long_line few h = absurd (omega (arith, few, h))

-- If nothing is left, there is no line.
no_line : (old new : Option (List ℕ)) (line : Heard) → old ≡ Some [] → TakesLine old new line → ⊥
no_line old new line e t = by t.taken
  where
    by : Consumes old new (t.bytes ++ 10 ∷ []) ⊎ ((1 ≤ length t.bytes) × Consumes old new t.bytes × IsAtEnd new) → ⊥
    by (inl c) =
        let k = consumed old new [] (t.bytes ++ 10 ∷ []) e c in
        omega (arith, ap length k.2, length-append (t.bytes ++ 10 ∷ []) k.0, length-append t.bytes (10 ∷ []))
    by (inr c) =
        let k = consumed old new [] t.bytes e c.1 in
        omega (arith, ap length k.2, length-append t.bytes k.0, c.0)

-- What a conversation writes until its end, and the session that it leaves.
pub record Said (s : Session) (lines : List (List ℕ)) (reported : List ℕ) (last : Session) (end : Known) : Type 0 where
  pub out : List ℕ
  pub said : end.reported ≡ Some (reported ++ out)
  pub output : Outputs s lines last out

-- There was no line.
over : (s last : Session) (reported : List ℕ) (talk : List Event) (p end : Known) → p.reported ≡ Some reported → IsTalk s [] talk last → Happens known_do p (talk ++ ends ∷ []) end → Said s ([] ∷ []) reported last end
over s last reported talk p end e h g =
    let x : Happens known_do p (ends ∷ []) end = subst (λ (t : List Event). Happens known_do p (t ++ ends ∷ []) end) h.1 g in
    record {
      out = [];
      said = ap (λ (k : Known). k.reported) x.2 ∙ (x.1.1 ∙ (e ∙ ap (λ z. Some z) (sym (append-nil reported))));
      output = empty_more [] s last [] (h.0, refl);
    }

-- Nothing was left, so there was no line.
none_came : (lines : List Heard) (s last : Session) (reported : List ℕ) (talk : List Event) (p end : Known) → p.left ≡ Some [] → p.reported ≡ Some reported → IsTalk s lines talk last →
    Happens known_do p (talk ++ ends ∷ []) end → (last ≡ s) × (end.reported ≡ Some reported)
none_came [] s last reported talk p end l e h g =
    let x : Happens known_do p (ends ∷ []) end = subst (λ (t : List Event). Happens known_do p (t ++ ends ∷ []) end) h.1 g in
    (h.0, ap (λ (k : Known). k.reported) x.2 ∙ (x.1.1 ∙ e))
none_came (line ∷ lines) s last reported talk p end l e h g =
    let x : Happens known_do p ((exchange line h.1 ++ h.2) ++ ends ∷ []) end = subst (λ (t : List Event). Happens known_do p (t ++ ends ∷ []) end) h.5 g in
    absurd (no_line p.left x.0.left line l x.1.0)

-- The lines in the bytes are read one after another.
pub whole : (lines : List Heard) (s last : Session) (script reported : List ℕ) (talk : List Event) (p end : Known) → p.left ≡ Some script → p.reported ≡ Some reported → AreShort (lines_of script) →
    IsTalk s lines talk last → Happens known_do p (talk ++ ends ∷ []) end → Said s (lines_of script) reported last end
whole [] s last script reported talk p end l e short h g =
    let x : Happens known_do p (ends ∷ []) end = subst (λ (t : List Event). Happens known_do p (t ++ ends ∷ []) end) h.1 g in
    let k = consumed p.left x.0.left script [] l x.1.0.0 in
    let nothing : script ≡ [] = k.2 ∙ at_end x.0.left k.0 k.1 x.1.0.1 in
    subst (λ (z : List ℕ). Said s (lines_of z) reported last end) (sym nothing) (over s last reported talk p end e h g)
whole (line ∷ lines) s last script reported talk p end l e short h g = by x.1.0.taken (λ ys reported' q a b c d f. whole lines h.0 last ys reported' h.2 q end a b c d f)
  where
    x : Happens known_do p ((exchange line h.1 ++ h.2) ++ ends ∷ []) end
    x = subst (λ (t : List Event). Happens known_do p (t ++ ends ∷ []) end) h.5 g

    reported_now : x.2.2.0.reported ≡ Some (reported ++ h.1)
    reported_now = kept x.2.0.reported x.2.2.0.reported (reported ++ h.1) (appended x.0.reported x.2.0.reported reported h.1 (x.1.1 ∙ e) x.2.1.1) x.2.2.1.1

    left_now : (ys : List ℕ) → x.0.left ≡ Some ys → x.2.2.0.left ≡ Some ys
    left_now ys k = x.2.2.1.0 ∙ (x.2.1.0 ∙ k)

    -- The line, if it was at the start of what was left.
    replied : (bytes : List ℕ) (more : List (List ℕ)) → lines_of script ≡ bytes ∷ more → IsHeardOf bytes line → RepliedTo s (short_line bytes) h.0 h.1
    replied bytes more k heard = subst (λ (z : Heard). RepliedTo s z h.0 h.1)
        (heard_short bytes line (All-head (λ line. length line ≤ 65536) bytes more (subst AreShort k short)) heard) h.3

    by : Consumes p.left x.0.left (x.1.0.bytes ++ 10 ∷ []) ⊎ ((1 ≤ length x.1.0.bytes) × Consumes p.left x.0.left x.1.0.bytes × IsAtEnd x.0.left) →
        ((ys reported' : List ℕ) (q : Known) → q.left ≡ Some ys → q.reported ≡ Some reported' → AreShort (lines_of ys) → IsTalk h.0 lines h.2 last →
        Happens known_do q (h.2 ++ ends ∷ []) end → Said h.0 (lines_of ys) reported' last end) → Said s (lines_of script) reported last end
    by (inl c) next =
        let bytes = x.1.0.bytes in
        let k = consumed p.left x.0.left script (bytes ++ 10 ∷ []) l c in
        let split : lines_of script ≡ bytes ∷ lines_of k.0 = ap lines_of (k.2 ∙ append_assoc bytes (10 ∷ []) k.0) ∙ slice_split_at is_line_end bytes 10 k.0 x.1.0.within refl in
        let rest = next k.0 (reported ++ h.1) x.2.2.0 (left_now k.0 k.1) reported_now (All-tail (λ line. length line ≤ 65536) bytes (lines_of k.0) (subst AreShort split short)) h.4 x.2.2.2 in
        subst (λ (z : List (List ℕ)). Said s z reported last end) (sym split)
        (record {
          out = h.1 ++ rest.out;
          said = rest.said ∙ ap (λ z. Some z) (append_assoc reported h.1 rest.out);
          output = (h.0, h.1, rest.out, replied bytes (lines_of k.0) split x.1.0.heard, rest.output, refl);
        })
    by (inr c) next =
        let bytes = x.1.0.bytes in
        let k = consumed p.left x.0.left script bytes l c.1 in
        let nothing : k.0 ≡ [] = at_end x.0.left k.0 k.1 c.2 in
        let split : lines_of script ≡ bytes ∷ [] =
        ap lines_of (k.2 ∙ (ap (λ z. bytes ++ z) nothing ∙ append-nil bytes)) ∙ slice_split_none is_line_end bytes x.1.0.within in
        let rest = none_came lines h.0 last (reported ++ h.1) h.2 x.2.2.0 end (left_now [] (k.1 ∙ ap (λ z. Some z) nothing)) reported_now h.4 x.2.2.2 in
        subst (λ (z : List (List ℕ)). Said s z reported last end) (sym split)
        (record {
          out = h.1 ++ [];
          said = rest.1 ∙ ap (λ z. Some (reported ++ z)) (sym (append-nil h.1));
          output = (h.0, h.1, [], replied bytes [] split x.1.0.heard, (rest.0, refl), refl);
        })

pub talk_of_bytes : (store : Store) (script reported : List ℕ) (last : Session) (end : Known) → AreShort (lines_of script) → TalkedTo known_do (opening store) (knows script reported) last end →
    IsWhole store script reported last end
talk_of_bytes store script reported last end short t =
    let w = whole t.0 (opening store) last script reported t.1 (knows script reported) end refl refl short t.2 t.3 in
    record { out = w.out; said = w.said; output = (last, w.output, refl) }
