-- One more item.
use Rattle.std.proofs.Common.{ℕ, List, [], ◌∷◌, ◌++◌, ◌<◌, ◌+◌, map, take, length, get_or, subst, sym}
use Rattle.std.proofs.lemmas.List.{map_push, take_more}
use Rattle.be_query.specs.Rpn.{Item, item_of}
use Rattle.be_query.specs.declared.rpn.Item as code
use Rattle.be_session.specs.Items.{AreItemsMeant, IsItemMeant}
use Rattle.be_session.specs.Operations.{part}
use Rattle.be_session.specs.declared.items.PredicateItem.{PredicateItem}

pub items_more : (ss : List PredicateItem) (s : PredicateItem) (bytes : List ℕ) (items : List Item) (item : Item) → AreItemsMeant ss bytes items
    → IsItemMeant s.kind s.number (part bytes s.at s.length) item → AreItemsMeant (ss ++ s ∷ []) bytes (items ++ item ∷ [])
items_more [] s bytes [] item are is = (is, tt)
items_more [] s bytes (x ∷ items) item are is = absurd are
items_more (t ∷ ss) s bytes [] item are is = absurd are
items_more (t ∷ ss) s bytes (x ∷ items) item are is = (are.0, items_more ss s bytes items item are.1 is)

pub items_next : (ss : List PredicateItem) (i : ℕ) (d : PredicateItem) (bytes : List ℕ) (items : List code.Item) (item : code.Item) → i < length ss
    → AreItemsMeant (take i ss) bytes (map item_of items)
    → IsItemMeant (get_or ss i d).kind (get_or ss i d).number (part bytes (get_or ss i d).at (get_or ss i d).length) (item_of item)
    → AreItemsMeant (take (i + 1) ss) bytes (map item_of (items ++ item ∷ []))
items_next ss i d bytes items item low are is =
    subst (λ xs. AreItemsMeant xs bytes (map item_of (items ++ item ∷ []))) (sym (take_more ss i d low))
    (subst (λ xs. AreItemsMeant (take i ss ++ get_or ss i d ∷ []) bytes xs) (sym (map_push item_of items item))
    (items_more (take i ss) (get_or ss i d) bytes (map item_of items) (item_of item) are is))
