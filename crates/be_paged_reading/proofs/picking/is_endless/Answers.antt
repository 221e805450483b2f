use Rattle.std.proofs.Common.{◌≡◌, ◌∙◌, ◌==◌, ℕ, Bool, List, [], ◌∷◌, false, true, length, refl, ap, sym, subst, arith}
use Rattle.std.specs.Option.{option_copied}
use Rattle.std.specs.declared.option.Option.{Option}
use Rattle.be_tree_reading.specs.Key.{key_cmp}
use Rattle.be_tree_reading.specs.Range.{is_from}
use Rattle.be_tree_reading.specs.Walk.{is_before_end}
use Rattle.be_plan.proofs.Ways.{nat_is}
use Rattle.be_paged_reading.proofs.picking.is_endless.Goals as goal

-- Every key is at or after the empty key.
from_nothing : (low key : List ℕ) → (length low == 0) ≡ true → is_from low false key ≡ true
unfolding key_cmp
from_nothing [] [] e = refl
from_nothing [] (x ∷ key) e = refl
from_nothing (y ∷ low) key e = let none : length (y ∷ low) ≡ 0 = nat_is (length (y ∷ low)) 0 e in absurd (omega arith)

pub returns-then-way : goal.returns-then-way
returns-then-way c = λ e key.
    let way = c.args.way in
    subst (λ (b : Bool). is_before_end b way.low.now (option_copied way.high) key ≡ true) (sym c.if-way.true) (from_nothing way.low.now key (sym c.is_empty.ensures ∙ e))

pub returns-in-None : goal.returns-in-None
returns-in-None c = λ e key.
    let way = c.args.way in
    subst (λ (b : Bool). is_before_end b way.low.now (option_copied way.high) key ≡ true) (sym c.if-way.false)
    (ap (λ (high : Option (List ℕ)). is_before_end false way.low.now high key) (ap option_copied c.in-None.is))
