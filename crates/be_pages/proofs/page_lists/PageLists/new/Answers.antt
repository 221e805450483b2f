use Rattle.std.proofs.Common.{◌≡◌, ◌∙◌, ℕ, inl, inr, sym, ap, length, arith, refl, true, false}
use Rattle.std.proofs.lemmas.Bool.{cases_lt}
use Rattle.std.proofs.lemmas.List.{get_or_past}
use mathlib.Core.Bool.{false≢true}
use Rattle.be_pages.specs.declared.page_pool.Place.{Place}
use Rattle.be_pages.specs.declared.page_pool.Place.TheVariants.{Free, Current}
use Rattle.be_pages.specs.Pages.{times}
use Rattle.be_pages.specs.PageSet.{one_if}
use Rattle.be_pages.specs.Place.{is_free, is_idle, place_of, is_retired}
use Rattle.be_pages.proofs.FreePages.{not_free}
use Rattle.be_pages.proofs.Pools.{count_none}
use Rattle.be_pages.proofs.page_lists.PageLists.new.Goals as goal

pub invariant_of-result : goal.invariant_of-result
invariant_of-result c =
    let P = c.in_ok-places.places.items in
    let len : length P ≡ c.args.pages = omega (arith, c.in_ok-places.ensures.pages, c.in_ok-places.places.ok.0) in
    let of = λ (A : Type 0) (f : Place → A) (y : A) (current : f Current ≡ y) (free : f Free ≡ y) (q : ℕ). elim (cases_lt q c.args.used) as (λ _. f (place_of P q) ≡ y) [
      | inl below ↦ ap f (c.in_ok-places.ensures.used q below) ∙ current
      | inr past ↦ elim (cases_lt q c.args.pages) as (λ _. f (place_of P q) ≡ y) [
        | inl within ↦ ap f (c.in_ok-places.ensures.free q past within) ∙ free
        | inr out ↦ ap f (get_or_past P q Current (omega (arith, out, len))) ∙ current
      ]
    ] in
    record {
      free_pages = c.in_ok-free.ensures.pages ∙ sym len ∙ sym c.in_ok-places.places.ok.0;
      touched_pages = c.in_ok-touched.ensures.pages ∙ sym len ∙ sym c.in_ok-places.places.ok.0;
      retired_room = omega (arith, c.in_ok-retired.ensures.capacity, c.in_ok-places.ensures.pages);
      retired_count = ap length c.in_ok-retired.ensures.items ∙ sym (count_none is_retired P (of _ is_retired false refl refl));
      frees = λ q. elim (cases_lt q c.args.used) [
        | inl below ↦ c.in_ok-free.ensures.out q below ∙ sym (ap is_free (c.in_ok-places.ensures.used q below))
        | inr past ↦ elim (cases_lt q c.args.pages) [
          | inl within ↦ c.in_ok-free.ensures.in_set q past within ∙ sym (ap is_free (c.in_ok-places.ensures.free q past within))
          | inr out ↦ not_free c.in_ok-free.free q (omega (arith, out, c.in_ok-free.ensures.pages)) ∙ sym (ap is_free (get_or_past P q Current (omega (arith, out, len))))
        ]
      ];
      touches = λ q un. absurd (false≢true (sym un ∙ of _ is_idle true refl refl q));
      retires = λ q. ap (λ xs. times q xs) c.in_ok-retired.ensures.items ∙ sym (ap one_if (of _ is_retired false refl refl q));
      oldest_first = λ i j le lt. absurd (omega (arith, lt, ap length c.in_ok-retired.ensures.items));
    }
