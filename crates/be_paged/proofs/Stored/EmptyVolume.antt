-- The first version page encodes the empty volume.
use Rattle.std.proofs.Common.{◌≡◌, ℕ, zero, suc, List, [], ◌∷◌, length, map, All, IsTrue, None, ap, sym, subst, ◌∙◌, refl, arith}
use Rattle.std.specs.Option.{option_map, option_and_then}
use Rattle.std.specs.Ordering.{nat_cmp}
use Rattle.std.specs.List.{range_with_len}
use Rattle.std.specs.FinMap as fin
use Rattle.std.specs.FinMap.{get-empty, len-empty, len-entries}
use Rattle.be_pages.specs.declared.room.PageState.{PageState}
use Rattle.be_pages.specs.Pages.{is_kept, times}
use Rattle.be_tree_reading.specs.Tree.{IsTree}
use Rattle.be_tree_reading.specs.Forest.{pages_of}
use Rattle.be_volume.specs.Volume.{empty}
use Rattle.be_volume.specs.Maps.{name_cmp, Attributes}
use Rattle.be_volume.specs.declared.maps.Index.{Index}
use Rattle.be_volume.proofs.Soundness.{empty_sound}
use Rattle.be_paged_reading.specs.Page.{Contents, contents_of, entry_at, entry_place, roots}
use Rattle.be_paged_reading.specs.Catalog.{payload_of, value_at, stored}
use Rattle.be_paged_reading.specs.Version.{IsInHand, IsVersion, AreEntriesOf, Encodes}
use Rattle.be_paged_reading.proofs.Stored.Codec.{same_contents}

no_items : {A : Type 0} (xs : List A) → length xs ≡ 0 → xs ≡ []
no_items [] h = refl
no_items (x ∷ xs) h = absurd (omega arith)

abbrev nothing : Contents
nothing = record { next = 1; catalog = 0; entries = [] }

no_value : (node : ℕ) (name : List ℕ) → value_at fin.empty node name ≡ None
no_value node name = ap (λ a. option_and_then (λ (attributes : Attributes). fin.get attributes name) a) (get-empty nat_cmp node)

none_stored : (node : ℕ) (name : List ℕ) → stored fin.empty node name ≡ None
none_stored node [] = ap (option_map (λ (a : Attributes). [])) (get-empty nat_cmp node)
none_stored node (c ∷ name) = ap (option_map payload_of) (no_value node (c ∷ name))

in_hand : (page_state : ℕ → PageState) (words : ℕ → ℕ → ℕ) → IsInHand page_state words nothing
in_hand page_state words = record {
  fits = omega arith;
  few = omega arith;
  named = λ i d lt. absurd (omega (arith, lt));
  trees = record { each = one; once = λ q. omega arith };
}
  where
    one : All (IsTree page_state words) (0 ∷ [])
    one zero d lt = tt
    one (suc i) d lt = absurd (omega (arith, lt))

encodes : (words : ℕ → ℕ → ℕ) → Encodes words nothing empty
encodes words = record {
  next = refl;
  catalog = record { each = λ node name lt. sym (none_stored node name); only = λ i d lt. absurd (omega (arith, lt)) };
  indices = subst (AreEntriesOf words []) (sym (no_items (fin.entries (fin.empty {X = Index} {R = name_cmp})) (sym (len-entries (fin.empty {X = Index} {R = name_cmp})) ∙ len-empty name_cmp Index))) tt;
}

pub first_version : (page_state : ℕ → PageState) (words : ℕ → ℕ → ℕ) (page : ℕ) → IsTrue (is_kept (page_state page)) → words page 0 ≡ 255 → words page 1 ≡ 0 → words page 2 ≡ 1 → words page 3 ≡ 0 → IsVersion page_state words page empty
first_version page_state words page used tag count next catalog =
    let is : contents_of (words page) ≡ nothing = same_contents next catalog (ap (λ (n : ℕ). map (λ i. entry_at (words page) (entry_place i)) (range_with_len 0 n)) count) in
    record {
      in_use = used;
      is_page = record { tag = tag; few = omega (arith, count); fits = omega (arith, next); each = λ i lt. absurd (omega (arith, lt, count)) };
      apart = ap (λ (d : Contents). times page (pages_of words (roots d))) is;
      in_hand = subst (IsInHand page_state words) (sym is) (in_hand page_state words);
      encodes = subst (λ d. Encodes words d empty) (sym is) (encodes words);
      sound = empty_sound;
    }
