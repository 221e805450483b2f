use Rattle.std.proofs.Common.{◌≡◌, ◌∙◌, ℕ, ◌<◌, IsTrue, [], length, subst, sym, ap, rules, arith}
use mathlib.Core.Bool.{false≢true}
use Rattle.be_pages.specs.Pages.{is_taken}
use Rattle.be_pages.specs.declared.room.PageState.{PageState}
use Rattle.be_table.specs.Setting.{IsPossible}
use Rattle.be_volume_state.specs.Rebuilding.{IsNumbered}
use Rattle.be_volume_state.proofs.Numbering.{empty_numbered}
use Rattle.be_store_building.proofs.builder.StoreBuilder.new.Goals as goal

-- a page is free at first, so the version page can be taken
pub returns-in_err-volume-clause-err : goal.returns-in_err-volume-clause-err
returns-in_err-volume-clause-err c =
    let possible : IsPossible c.args.limits = search rules in
    let many : 0 < length c.new-2.new.room.states.items = omega (arith, c.new-2.ensures.kept, c.in_ok-pages.ensures.pages, possible.some_pages) in
    absurd (c.in_err-volume.ensures.refused.2.1 0 many (ap (λ (f : ℕ → PageState). f 0) c.in_err-volume.ensures.same ∙ c.in_ok-pages.ensures.free 0))

pub invariant_of-result : goal.invariant_of-result
invariant_of-result c = record {
  limits = search rules;
  pages = c.new-2.ensures.kept ∙ c.in_ok-pages.ensures.pages;
  numbered = subst IsNumbered (sym c.in_ok-volume.ensures.volume) empty_numbered;
  whole = λ none. record {
    builds = c.in_ok-volume.ensures.ok;
    hand = c.in_ok-volume.ensures.hand (λ q taken. absurd (false≢true (sym (ap is_taken (c.in_ok-pages.ensures.free q)) ∙ taken)));
  };
}
