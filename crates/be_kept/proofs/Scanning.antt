-- Reading a table from its first row on.
use Rattle.std.proofs.Common.{◌≡◌, ◌∷◌, [], List, Some, true, refl, sym, ◌∙◌, ap, unwrap_or}
use Rattle.sqlite_trees.specs.Tree.{from_key}
use Rattle.sqlite_trees.specs.View.{Advances, View}
use Rattle.sqlite_value.specs.Order.{Row}
use Rattle.sqlite_value.specs.declared.keys.Order.{Order}

pub from_first : (o : Order) (rows : List Row) → from_key o [] rows ≡ rows
from_first o [] = refl
from_first o (row ∷ rows) = refl

-- what a cursor that moved had left
pub had_left : (old new : View) (row : Row) (left : List Row) → old.cursors 0 ≡ Some left
    → (step : Advances old new 0 row true) → left ≡ row ∷ step.0
had_left old new row left was step = ap (λ o. unwrap_or o []) (sym was ∙ step.1)

pub has_left : (old new : View) (row : Row) (step : Advances old new 0 row true)
    → new.cursors 0 ≡ Some step.0
has_left old new row step = rw step.2 refl
