-- One lexeme of the text.
use Rattle.std.proofs.Common.{◌≡◌, ℕ, ◌+◌, ◌-◌, ◌<◌, ◌≤◌, zero, suc, Some, List, [], ◌∷◌, length, drop, refl, sym, ap, ◌∙◌, arith, cond}
use Rattle.std.proofs.lemmas.Bool.{le-ltb}
use Rattle.std.proofs.Math.ListN.{length-drop}
use Rattle.be_value.specs.declared.refusals.Refusal.TheVariants.{TooLong}
use Rattle.be_query.specs.Reading.{Operand}
use Rattle.be_query.specs.Lexing.{Placed, Lexeme, Front, Separator, Takes, front, lexemes}
use Rattle.be_query.specs.Faults.{first_fault, fault}
use Rattle.be_query.specs.View.{HasLexeme, BeginsSeparated}
use Rattle.be_query.proofs.Sentences.{lexemes_after}

after_front : ℕ → List ℕ → Front → List Placed
after_front at bs Separator = lexemes 0 (at + 1) bs
after_front at bs (Takes lexeme width shift) = record { at = at; start = at + shift; lexeme = lexeme } ∷ lexemes (width - 1) (at + 1) bs

by_front : (at : ℕ) (b : ℕ) (bs : List ℕ) → lexemes 0 at (b ∷ bs) ≡ after_front at bs (front b bs)
unfolding after_front
by_front at b bs = go (front b bs)
  where
    go : (f : Front) → (elim f [ Separator ↦ lexemes 0 (at + 1) bs | Takes lexeme width shift ↦ record { at = at; start = at + shift; lexeme = lexeme } ∷ lexemes (width - 1) (at + 1) bs ]) ≡ after_front at bs f
    go Separator = refl
    go (Takes lexeme width shift) = refl

pub taken_at : (at b : ℕ) (bs : List ℕ) (lexeme : Lexeme) (width shift : ℕ) → front b bs ≡ Takes lexeme width shift → lexemes 0 at (b ∷ bs) ≡ record { at = at; start = at + shift; lexeme = lexeme } ∷ lexemes (width - 1) (at + 1) bs
unfolding after_front
taken_at at b bs lexeme width shift h = by_front at b bs ∙ ap (after_front at bs) h

pub separated : (text rest : List ℕ) (len : ℕ) → BeginsSeparated text rest → length text ≤ len → lexemes 0 (len - length text) text ≡ lexemes 0 (len - length rest) rest
unfolding after_front
separated [] rest len h k = absurd h
separated (b ∷ bs) rest len h k =
    let place : len - length (b ∷ bs) + 1 ≡ len - length bs = omega arith in
    by_front (len - length (b ∷ bs)) b bs ∙ ap (after_front (len - length (b ∷ bs)) bs) h.0 ∙ ap (λ a. lexemes 0 a bs) place ∙ ap (λ r. lexemes 0 (len - length r) r) (sym h.1)

pub taken : (text rest : List ℕ) (len width shift : ℕ) (lexeme : Lexeme) → HasLexeme text lexeme width shift → rest ≡ drop width text → 1 ≤ width → width ≤ length text → length text ≤ len
    → lexemes 0 (len - length text) text ≡ record { at = len - length text; start = len - length text + shift; lexeme = lexeme } ∷ lexemes 0 (len - length rest) rest
unfolding after_front
taken [] rest len width shift lexeme h r p w k = absurd h
taken (b ∷ bs) rest len zero shift lexeme h r p w k = absurd (omega arith)
taken (b ∷ bs) rest len (suc width) shift lexeme h r p w k =
    let at = len - length (b ∷ bs) in
    let one : suc width - 1 ≡ width = omega arith in
    let lens : length rest ≡ length bs - width = ap length r ∙ length-drop width bs in
    let place : at + 1 + width ≡ len - length rest = omega arith in
    by_front at b bs ∙ ap (after_front at bs) h
    ∙ ap (λ l. record { at = at; start = at + shift; lexeme = lexeme } ∷ l)
    (ap (λ n. lexemes n (at + 1) bs) one ∙ lexemes_after width (at + 1) bs ∙ ap (λ a. lexemes 0 a (drop width bs)) place ∙ ap (lexemes 0 (len - length rest)) (sym r))

-- The lexeme is at this position, whatever comes after it.
pub is_there : (text : List ℕ) (at width shift : ℕ) (lexeme : Lexeme) → HasLexeme text lexeme width shift → (more : List Placed) × (lexemes 0 at text ≡ record { at = at; start = at + shift; lexeme = lexeme } ∷ more)
unfolding after_front
is_there [] at width shift lexeme h = absurd h
is_there (b ∷ bs) at width shift lexeme h = (lexemes (width - 1) (at + 1) bs, by_front at b bs ∙ ap (after_front at bs) h)

pub no_lexemes : (at : ℕ) (rest : List ℕ) → length rest ≡ 0 → lexemes 0 at rest ≡ []
no_lexemes at [] h = refl
no_lexemes at (b ∷ bs) h = absurd (omega arith)

pub fault_within : (text : List ℕ) → length text ≤ 4096 → fault text ≡ first_fault Operand [] 0 (length text) (lexemes 0 0 text)
fault_within text h = ap (λ b. cond b (Some TooLong) (first_fault Operand [] 0 (length text) (lexemes 0 0 text))) (le-ltb 4096 (length text) h)

pub separated_shorter : (text rest : List ℕ) → BeginsSeparated text rest → length rest < length text
separated_shorter [] rest h = absurd h
separated_shorter (b ∷ bs) rest h = let e : length rest ≡ length bs = ap length h.1 in omega arith

pub taken_shorter : (text rest : List ℕ) (width : ℕ) → rest ≡ drop width text → 1 ≤ width → width ≤ length text → length rest < length text
taken_shorter text rest width r p w = let e : length rest ≡ length text - width = ap length r ∙ length-drop width text in omega arith
