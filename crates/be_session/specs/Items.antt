-- What a predicate in reverse Polish notation means, as other languages encode it.
use Rattle.std.specs.Prelude.{◌≡◌, ◌⊎◌, ◌+◌, ◌++◌, ◌<◌, ◌==◌, ℕ, true, false, if◌then◌else◌, List}
use Rattle.std.specs.Prelude.{[], ◌∷◌, length, take, IsUtf8, Ok, Err}
use Rattle.std.specs.Fmt.{decimal, signed_decimal}
use Rattle.std.specs.Int.{cast_signed, w64}
use Rattle.be_query.specs.Grammar.{Formula}
use Rattle.be_query.specs.Rpn.{Item, Attr, Given, Number, Compare, Around, Both, Either, Complement}
use Rattle.be_query.specs.Rpn.{rpn}
use Rattle.be_query.specs.View.{IsMemory}
use Rattle.be_query.specs.declared.tree.Cmp.TheVariants.{Eq, Ne, Lt, Le, Gt, Ge}
use Rattle.be_value.specs.declared.refusals.Refusal.{Refusal}
use Rattle.be_value.specs.declared.refusals.Refusal.TheVariants.{OutOfMemory}
use Rattle.be_session.specs.Fault.{fault_carried, fault_code}
use Rattle.be_session.specs.Meaning.{IsNoName}
use Rattle.be_session.specs.Operations.{part}
use Rattle.be_session.specs.declared.faults.Fault.{Fault}
use Rattle.be_session.specs.declared.faults.Fault.TheVariants.{NotUtf8, NoItem, BadPart, Refused}
use Rattle.be_session.specs.declared.items.PredicateItem.{PredicateItem}

-- The item that a number stands for: an attribute given by its name, a string, a signed or unsigned
-- number, or an operator on the items before it.
abbrev pub IsItemMeant : ℕ → ℕ → List ℕ → Item → Type 0
IsItemMeant kind number bytes (Attr name) = (kind ≡ 0) × (name ≡ bytes)
IsItemMeant kind number bytes (Given text) = (kind ≡ 1) × (text ≡ bytes)
IsItemMeant kind number bytes (Number text) =
    ((kind ≡ 2) × (text ≡ signed_decimal (cast_signed w64 number)))
    ⊎ ((kind ≡ 3) × (text ≡ decimal number))
IsItemMeant kind number bytes (Compare Eq) = kind ≡ 4
IsItemMeant kind number bytes (Compare Ne) = kind ≡ 5
IsItemMeant kind number bytes (Compare Lt) = kind ≡ 6
IsItemMeant kind number bytes (Compare Le) = kind ≡ 7
IsItemMeant kind number bytes (Compare Gt) = kind ≡ 8
IsItemMeant kind number bytes (Compare Ge) = kind ≡ 9
IsItemMeant kind number bytes (Around true true) = kind ≡ 10
IsItemMeant kind number bytes (Around false true) = kind ≡ 11
IsItemMeant kind number bytes (Around true false) = kind ≡ 12
IsItemMeant kind number bytes (Around false false) = ⊥
IsItemMeant kind number bytes Both = kind ≡ 13
IsItemMeant kind number bytes Either = kind ≡ 14
IsItemMeant kind number bytes Complement = kind ≡ 15

-- The reason why these values aren't a valid item.
abbrev pub IsNoItem : ℕ → List ℕ → Fault → Type 0
IsNoItem kind bytes e =
    ((e ≡ NoItem) × (15 < kind))
    ⊎ ((kind ≡ 0) × IsNoName bytes e)
    ⊎ ((kind ≡ 1) × (e ≡ NotUtf8) × (¬ (IsUtf8 bytes)))
    ⊎ (e ≡ Refused OutOfMemory)

-- The items that are encoded here, in order.
abbrev pub AreItemsMeant : List PredicateItem → List ℕ → List Item → Type 0
AreItemsMeant [] bytes [] = Unit {0}
AreItemsMeant [] bytes (item ∷ items) = ⊥
AreItemsMeant (s ∷ ss) bytes [] = ⊥
AreItemsMeant (s ∷ ss) bytes (item ∷ items) = IsItemMeant s.kind s.number (part bytes s.at s.length)
    item × AreItemsMeant ss bytes items

-- The reason why this item is invalid. Either its part isn't within the bytes, or its number or
-- content is invalid.
abbrev pub IsItemInvalid : PredicateItem → List ℕ → Fault → Type 0
IsItemInvalid s bytes e = ((e ≡ BadPart) × (length bytes < s.at + s.length))
    ⊎ IsNoItem s.kind (part bytes s.at s.length) e

-- The place that is reported with the error of an item. This is the index of the item, or 0 if
-- memory ran out.
abbrev pub item_reported : Fault → ℕ → ℕ
item_reported e n = if fault_code e == 10 then 0 else n

-- The reason why these items are invalid, and the place that is reported. The first n items are
-- valid, and the next one isn't. If memory ran out, the place is 0.
abbrev pub AreItemsInvalid : List PredicateItem → List ℕ → Fault → ℕ → Type 0
AreItemsInvalid ss bytes e place =
    ((n : ℕ) × (place ≡ item_reported e n) × (s : PredicateItem) × (items : List Item)
    × (take (n + 1) ss ≡ take n ss ++ s ∷ [])
    × AreItemsMeant (take n ss) bytes items × IsItemInvalid s bytes e)
    ⊎ ((e ≡ Refused OutOfMemory) × (place ≡ 0))

-- The query that the encoded items build.
abbrev pub IsBuilt : List PredicateItem → List ℕ → Formula → Type 0
IsBuilt ss bytes query = (items : List Item) × AreItemsMeant ss bytes items × (rpn items ≡ Ok query)

-- The reason why there is no query, and the number that is reported. If an item is invalid, this is
-- the item's place. If the items build no query, it is the number that comes with that error.
-- Memory may also run out.
abbrev pub IsUnbuilt : List PredicateItem → List ℕ → Fault → ℕ → Type 0
IsUnbuilt ss bytes e place =
    AreItemsInvalid ss bytes e place
    ⊎ ((items : List Item) × AreItemsMeant ss bytes items × (why : Refusal) × (e ≡ Refused why)
    × (place ≡ fault_carried (Refused why))
    × IsMemory why (rpn items ≡ Err why))
