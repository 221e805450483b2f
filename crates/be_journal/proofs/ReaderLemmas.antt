-- A reader that has read several entries, one after another.
use Rattle.std.proofs.Common.{◌≡◌, ◌<◌, ℕ, suc, ◌+◌, ◌-◌, List, [], ◌∷◌, length, drop, get_or, sym, ap, ◌∙◌, add-one, drop-cons, length-drop, arith}
use Rattle.be_journal.specs.declared.entries.Entry.{Entry}

-- what was read at a position, and the rest
pub record Pulled (entries : List Entry) (i : ℕ) (entry : Entry) (rest : List Entry) : Type 0 where
  pub short : i < length entries
  pub left : rest ≡ drop (i + 1) entries
  pub is : entry ≡ get_or entries i entry

first_of : (e : Entry) (xs : List Entry) (f : Entry) (ys : List Entry) → e ∷ xs ≡ f ∷ ys → e ≡ f
first_of e xs f ys h = cc

others_of : (e : Entry) (xs : List Entry) (f : Entry) (ys : List Entry) → e ∷ xs ≡ f ∷ ys → xs ≡ ys
others_of e xs f ys h = cc

pub pulled : (entries : List Entry) (i : ℕ) (entry : Entry) (rest : List Entry) → drop i entries ≡ entry ∷ rest → Pulled entries i entry rest
pulled entries i entry rest h =
    let some : length (drop i entries) ≡ suc (length rest) = ap length h in
    let short : i < length entries = omega (arith, some, length-drop i entries) in
    let same : entry ∷ rest ≡ get_or entries i entry ∷ drop (suc i) entries = sym h ∙ drop-cons entries i entry short in
    record {
      short = short;
      left = others_of entry rest _ _ same ∙ ap (λ k. drop k entries) (sym (add-one i));
      is = first_of entry rest _ _ same;
    }
