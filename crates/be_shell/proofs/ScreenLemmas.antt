-- How a text is written piece by piece.
use Rattle.std.proofs.Common.{◌≡◌, ℕ, List, [], ◌∷◌, ◌++◌, length, map, append_assoc, refl, sym, ap, ◌∙◌, subst, arith}
use Rattle.std.proofs.lemmas.List.{append-nil}
use Rattle.be_script_runner.specs.Run.{IsFrontOf}
use Rattle.be_shell.specs.Conversation.{Event, says, Happens}
use Rattle.be_shell.specs.Escape.{shown}
use Rattle.be_shell.specs.Screen.{SaysAll, joined}

no_bytes : (xs : List ℕ) → length xs ≡ 0 → xs ≡ []
no_bytes [] e = refl
no_bytes (x ∷ xs) e = absurd (omega (arith, e))

-- The beginning of the first part.
pub front_of_more : (whole piece tail front : List ℕ) → whole ≡ piece ++ tail → IsFrontOf piece front → IsFrontOf whole front
front_of_more whole piece tail front e h = (h.0 ++ tail, e ∙ (ap (λ (z : List ℕ). z ++ tail) h.1 ∙ append_assoc front h.0 tail))

joined_more : (pieces : List (List ℕ)) (piece : List ℕ) → joined (pieces ++ piece ∷ []) ≡ joined pieces ++ piece
joined_more [] piece = append-nil piece
joined_more (x ∷ pieces) piece = ap (λ (z : List ℕ). x ++ z) (joined_more pieces piece) ∙ sym (append_assoc x (joined pieces) piece)

say_more : {P : Type 0} (does : P → Event → P → Type 0) (m q : P) (piece : List ℕ) (pieces : List (List ℕ)) (p : P) → Happens does p (map says pieces) m → does m (says piece) q →
    Happens does p (map says (pieces ++ piece ∷ [])) q
say_more {P} does m q piece [] p h d = (q, subst (λ (z : P). does z (says piece) q) h d, refl)
say_more does m q piece (x ∷ pieces) p h d = (h.0, h.1, say_more does m q piece pieces h.0 h.2 d)

-- One more piece.
piece_said : {P : Type 0} (does : P → Event → P → Type 0) (p m q : P) (bytes piece : List ℕ) → SaysAll does p bytes m → does m (says piece) q → SaysAll does p (bytes ++ piece) q
piece_said does p m q bytes piece h d =
    (h.0 ++ piece ∷ [], say_more does m q piece h.0 p h.1 d, joined_more h.0 piece ∙ ap (λ (z : List ℕ). z ++ piece) h.2)

-- The first part of the text was written as it is shown, and this is the rest.
abbrev pub HasSaid : {P : Type 0} → (P → Event → P → Type 0) → P → P → List ℕ → List ℕ → Type 0
HasSaid does p q whole rest = (front : List ℕ) × SaysAll does p front q × (shown whole ≡ front ++ shown rest)

pub none_said : {P : Type 0} (does : P → Event → P → Type 0) (p : P) (whole : List ℕ) → HasSaid does p p whole whole
none_said does p whole = ([], ([], refl, refl), refl)

pub said_more : {P : Type 0} (does : P → Event → P → Type 0) (p m q : P) (whole rest rest' : List ℕ) → HasSaid does p m whole rest →
    (piece : List ℕ) × does m (says piece) q × (shown rest ≡ piece ++ shown rest') → HasSaid does p q whole rest'
said_more does p m q whole rest rest' h x =
    (h.0 ++ x.0, piece_said does p m q h.0 x.0 h.1 x.1, h.2 ∙ (ap (λ (z : List ℕ). h.0 ++ z) x.2 ∙ sym (append_assoc h.0 x.0 (shown rest'))))

pub all_said : {P : Type 0} (does : P → Event → P → Type 0) (p q : P) (whole rest : List ℕ) → HasSaid does p q whole rest → length rest ≡ 0 → SaysAll does p (shown whole) q
all_said does p q whole rest h none =
    let e : rest ≡ [] = no_bytes rest none in
    let same : h.0 ≡ shown whole = sym (h.2 ∙ (ap (λ (z : List ℕ). h.0 ++ shown z) e ∙ append-nil h.0)) in
    subst (λ (z : List ℕ). SaysAll does p z q) same h.1

pub cut_said : {P : Type 0} (does : P → Event → P → Type 0) (p m q : P) (whole rest : List ℕ) → HasSaid does p m whole rest →
    (front : List ℕ) × IsFrontOf (shown rest) front × does m (says front) q → (front : List ℕ) × IsFrontOf (shown whole) front × SaysAll does p front q
cut_said does p m q whole rest h x = (
  h.0 ++ x.0,
  (x.1.0, h.2 ∙ (ap (λ (z : List ℕ). h.0 ++ z) x.1.1 ∙ sym (append_assoc h.0 x.0 x.1.0))),
  piece_said does p m q h.0 x.0 h.1 x.2,
)

-- The whole text is a first part of itself.
pub front_of_whole : (bytes : List ℕ) → IsFrontOf bytes bytes
front_of_whole bytes = ([], sym (append-nil bytes))
