use Rattle.std.proofs.Common.{◌≡◌, ℕ, ◌<◌, slice_index}
use Rattle.be_pages.specs.PagePool.{places}
use Rattle.be_pages.specs.VecRoom.{page_state_in, pool_word}
use Rattle.be_pages.specs.declared.room.PageState.TheVariants.{Filled}
use Rattle.be_paged_test_tools.proofs.writing.room_of.Given as goal

abbrev pub invariant-loop-i : goal.invariant-loop-i
invariant-loop-i l = record {
  filled : page_state_in (places l.room.pool) l.page ≡ Filled;
  written : (j : ℕ) → j < l.i → pool_word l.room.words.items l.page j ≡ slice_index l.words j;
}
