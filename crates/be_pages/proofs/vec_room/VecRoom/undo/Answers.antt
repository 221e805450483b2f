use Rattle.std.proofs.Common.{◌≡◌, ◌∙◌, ◌*◌, ℕ, List, ap, sym, arith, length}
use Rattle.std.proofs.lemmas.List.{length-map}
use Rattle.be_pages.specs.declared.page_pool.Place.{Place}
use Rattle.be_pages.specs.PagePool.{places}
use Rattle.be_pages.specs.Place.{is_retired, place_of, undone_place}
use Rattle.be_pages.proofs.Rooms.{unretired_map, unretired_undone}
use Rattle.be_pages.proofs.vec_room.VecRoom.undo.Goals as goal

pub invariant_of-self : goal.invariant_of-self
invariant_of-self c =
    let room = c.args.self.now in
    let P = places room.pool in
    let len : length (places c.undo.new.self) ≡ length P = ap length c.undo.ensures ∙ length-map P undone_place in
    record {
      pages_fit = room.pages_fit ∙ ap (λ (n : ℕ). n * 512) (sym len);
      at_most = omega (arith, len, room.at_most);
      unretired = λ q. ap (λ (xs : List Place). is_retired (place_of xs q)) c.undo.ensures ∙ unretired_map undone_place unretired_undone P room.unretired q;
    }
