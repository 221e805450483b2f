-- The words that the table doesn't use.
use Rattle.std.proofs.Common.{sym, ◌∙◌, arith, length-set, get_or-set_same}
use Rattle.be_table.specs.Laws.{UnusedAreZero, UnusedStayZero}

pub unused_are_zero : UnusedAreZero
unused_are_zero limits s k h u = h.1.table.words.unused k (u.0, u.1, u.2, λ j lt. u.3 j (let p = h.1.sound.passes in omega (arith, lt)))

pub unused_stay_zero : UnusedStayZero
unused_stay_zero limits s k n id carried v x u h =
    let size = h.1.table.words.size in
    let long = length-set s.words k n in
    sym (get_or-set_same s.words k n 0 (omega (arith, u.0))) ∙ unused_are_zero limits _ k h u
