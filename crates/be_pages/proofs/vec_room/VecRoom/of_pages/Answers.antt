use Rattle.std.proofs.Common.{◌≡◌, ◌∙◌, ℕ, ap, inl, inr, arith, length}
use Rattle.std.proofs.lemmas.Bool.{cases_lt}
use Rattle.be_pages.specs.PagePool.{places}
use Rattle.be_pages.specs.VecRoom.{page_state_of}
use Rattle.be_pages.proofs.Rooms.{page_state_at, page_state_past}
use Rattle.be_pages.proofs.vec_room.VecRoom.of_pages.Goals as goal

pub returns-clause-free : goal.returns-clause-free
returns-clause-free c = λ q.
    let P = places c.in_ok-pool.pool in
    let pages = c.in_ok-pool.ensures.pages in
    elim (cases_lt q (length P)) [
      | inl lt ↦ page_state_at P q lt ∙ ap page_state_of (c.in_ok-pool.ensures.free q (omega arith) (omega (arith, lt, pages)))
      | inr past ↦ page_state_past P q past
    ]
