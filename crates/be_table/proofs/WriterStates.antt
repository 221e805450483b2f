-- The effect of a change of the writer state is the event's effect.
use Rattle.std.proofs.Common.{◌≡◌, ℕ, zero, suc, ◌<◌, ◌≤◌, Bool, true, false, cond, nat_lt, if◌then◌else◌, ◌||◌, List, [], ◌∷◌, map, length, slice_set, count_by, Some, None, refl, sym, ap, ◌∙◌, subst, inl, inr, get_or-set_same, get_or-set_other, arith, IsTrue}
use Rattle.std.proofs.lemmas.Bool.Decides.{eqb_tells}
use Rattle.std.proofs.lemmas.List.{length-map}
use Rattle.std.proofs.lemmas.List.Sums.{sum_by-cons, sum_by-set}
use Rattle.be_core.specs.Machine.{World, is_below, swept, after_fill, after_unlock, after_return}
use Rattle.be_pages.specs.declared.page_pool.Place.{Place}
use Rattle.be_pages.specs.declared.page_pool.Place.TheVariants.{Free, Reserved, Filled, Current, GivenUp, Retired}
use Rattle.be_pages.specs.Place.{is_held_page, is_in_hand, is_retired, place_of, published_place, swept_place, undone_place}
use Rattle.be_table.specs.WriterState.{shows_free, shows_taken, retired_with, ShowsPlaces}

pub place-map : (f : Place → Place) → f Current ≡ Current → (places : List Place) (p : ℕ) → place_of (map f places) p ≡ f (place_of places p)
place-map f e [] p = sym e
place-map f e (x ∷ xs) zero = refl
place-map f e (x ∷ xs) (suc p) = place-map f e xs p

pub map-map : (f g h : Place → Place) → ((x : Place) → f (g x) ≡ h x) → (places : List Place) → map f (map g places) ≡ map h places
map-map f g h e [] = refl
map-map f g h e (x ∷ xs) = λ k. e x k ∷ map-map f g h e xs k

idle_again : (x : Place) → undone_place (undone_place x) ≡ undone_place x
idle_again Free = refl
idle_again Reserved = refl
idle_again Filled = refl
idle_again Current = refl
idle_again GivenUp = refl
idle_again (Retired r) = refl

pub idle-idle : (places : List Place) → map undone_place (map undone_place places) ≡ map undone_place places
idle-idle places = map-map undone_place undone_place undone_place idle_again places

-- ## How many pages are retired

unretired_in_hand : (x : Place) → IsTrue (is_in_hand x) → is_retired x ≡ false
unretired_in_hand Free h = refl
unretired_in_hand Reserved h = refl
unretired_in_hand Filled h = refl
unretired_in_hand Current h = refl
unretired_in_hand GivenUp h = refl
unretired_in_hand (Retired r) h = sym h

unretired_held : (x : Place) → IsTrue (is_held_page x) → is_retired x ≡ false
unretired_held Free h = refl
unretired_held Reserved h = refl
unretired_held Filled h = refl
unretired_held Current h = refl
unretired_held GivenUp h = refl
unretired_held (Retired r) h = sym h

abbrev one_where : Bool → ℕ
one_where b = cond b 1 0

-- one page that isn't retired gets another place
pub left-set : (left : ℕ) (places new : List Place) (p : ℕ) (x : Place) → new ≡ slice_set places p x → p < length places → is_retired (place_of places p) ≡ false → left ≤ count_by is_retired places → left ≤ count_by is_retired new
left-set left places new p x is inside unretired le =
    let counted = sum_by-set (λ y. cond (is_retired y) 1 0) places p x Current inside in
    let none : one_where (is_retired (place_of places p)) ≡ 0 = ap one_where unretired in
    subst (λ ps. left ≤ count_by is_retired ps) (sym is) (omega (arith, counted, none, le))

-- the same, if the places are those that the pass knows
pub left-fill : (left : ℕ) (places known new : List Place) (p : ℕ) (x : Place) → places ≡ known → new ≡ slice_set places p x → p < length known → IsTrue (is_in_hand (place_of known p)) → left ≤ count_by is_retired places → left ≤ count_by is_retired new
left-fill left places known new p x same is inside hand le =
    left-set left places new p x is (subst (λ ps. p < length ps) (sym same) inside) (subst (λ ps. is_retired (place_of ps p) ≡ false) (sym same) (unretired_in_hand (place_of known p) hand)) le

pub left-give : (left : ℕ) (places known new : List Place) (p : ℕ) (x : Place) → places ≡ known → new ≡ slice_set places p x → p < length known → IsTrue (is_held_page (place_of known p)) → left ≤ count_by is_retired places → left ≤ count_by is_retired new
left-give left places known new p x same is inside held le =
    left-set left places new p x is (subst (λ ps. p < length ps) (sym same) inside) (subst (λ ps. is_retired (place_of ps p) ≡ false) (sym same) (unretired_held (place_of known p) held)) le

one_more : (x y : Bool) → (x ≡ true → y ≡ true) → cond x 1 0 ≤ cond y 1 0
one_more true y h = subst (λ b. 1 ≤ cond b 1 0) (sym (h refl)) (omega arith)
one_more false true h = omega arith
one_more false false h = omega arith

-- each page gets another place, and retired pages remain retired
retired_more : (f : Place → Place) → ((x : Place) → is_retired x ≡ true → is_retired (f x) ≡ true) → (places : List Place) → count_by is_retired places ≤ count_by is_retired (map f places)
retired_more f h [] = omega arith
retired_more f h (x ∷ xs) =
    let one = one_more (is_retired x) (is_retired (f x)) (h x) in
    let more = retired_more f h xs in
    let old = sum_by-cons (λ y. cond (is_retired y) 1 0) x xs in
    let new = sum_by-cons (λ y. cond (is_retired y) 1 0) (f x) (map f xs) in
    omega (arith, one, more, old, new)

undone_retired : (x : Place) → is_retired x ≡ true → is_retired (undone_place x) ≡ true
undone_retired Free h = h
undone_retired Reserved h = h
undone_retired Filled h = h
undone_retired Current h = h
undone_retired GivenUp h = h
undone_retired (Retired r) h = h

published_retired : (n : ℕ) (x : Place) → is_retired x ≡ true → is_retired (published_place n x) ≡ true
published_retired n Free h = h
published_retired n Reserved h = h
published_retired n Filled h = h
published_retired n Current h = h
published_retired n GivenUp h = refl
published_retired n (Retired r) h = h

pub left-undo : (left : ℕ) (places new : List Place) → new ≡ map undone_place places → left ≤ count_by is_retired places → left ≤ count_by is_retired new
left-undo left places new is le = let more = retired_more undone_place undone_retired places in subst (λ ps. left ≤ count_by is_retired ps) (sym is) (omega (arith, more, le))

pub left-publish : (left n : ℕ) (places new : List Place) → new ≡ map (published_place n) places → left ≤ count_by is_retired places → left ≤ count_by is_retired new
left-publish left n places new is le = let more = retired_more (published_place n) (published_retired n) places in subst (λ ps. left ≤ count_by is_retired ps) (sym is) (omega (arith, more, le))

-- a reserved page is filled
pub shows-fill : (places : List Place) (w : World) → ShowsPlaces places w → (p i word : ℕ) → p < length places → retired_with (place_of places p) ≡ None
    → ShowsPlaces (slice_set places p Filled) (after_fill w p i word)
shows-fill places w s p i word inside unretired = record {
  free = λ q. elim (eqb_tells q p) [ inl y ↦ rw (y.0, y.1, get_or-set_same places p Filled Current inside) refl | inr n ↦ rw (n.0, get_or-set_other places p q Filled Current n.1) (s.free q) ];
  taken = λ q. elim (eqb_tells q p) [ inl y ↦ rw (y.0, y.1, get_or-set_same places p Filled Current inside) refl | inr n ↦ rw (n.0, get_or-set_other places p q Filled Current n.1) (s.taken q) ];
  retired = λ q. elim (eqb_tells q p) [ inl y ↦ rw (y.1, get_or-set_same places p Filled Current inside) (s.retired p ∙ unretired) | inr n ↦ rw (get_or-set_other places p q Filled Current n.1) (s.retired q) ];
}

-- a free page is taken
pub shows-take : (places : List Place) (w : World) → ShowsPlaces places w → (p i word : ℕ) → p < length places → retired_with (place_of places p) ≡ None
    → ShowsPlaces (slice_set places p Reserved) (after_fill w p i word)
shows-take places w s p i word inside unretired = record {
  free = λ q. elim (eqb_tells q p) [ inl y ↦ rw (y.0, y.1, get_or-set_same places p Reserved Current inside) refl | inr n ↦ rw (n.0, get_or-set_other places p q Reserved Current n.1) (s.free q) ];
  taken = λ q. elim (eqb_tells q p) [ inl y ↦ rw (y.0, y.1, get_or-set_same places p Reserved Current inside) refl | inr n ↦ rw (n.0, get_or-set_other places p q Reserved Current n.1) (s.taken q) ];
  retired = λ q. elim (eqb_tells q p) [ inl y ↦ rw (y.1, get_or-set_same places p Reserved Current inside) (s.retired p ∙ unretired) | inr n ↦ rw (get_or-set_other places p q Reserved Current n.1) (s.retired q) ];
}

-- a place changes, and the sets are unchanged
pub shows-place : (places : List Place) (w : World) → ShowsPlaces places w → (p : ℕ) (x : Place) → p < length places → shows_free x ≡ shows_free (place_of places p) → shows_taken x ≡ shows_taken (place_of places p) → retired_with x ≡ retired_with (place_of places p)
    → ShowsPlaces (slice_set places p x) w
shows-place places w s p x inside f t r = record {
  free = λ q. elim (eqb_tells q p) [ inl y ↦ rw (y.1, get_or-set_same places p x Current inside) (s.free p ∙ sym f) | inr n ↦ rw (get_or-set_other places p q x Current n.1) (s.free q) ];
  taken = λ q. elim (eqb_tells q p) [ inl y ↦ rw (y.1, get_or-set_same places p x Current inside) (s.taken p ∙ sym t) | inr n ↦ rw (get_or-set_other places p q x Current n.1) (s.taken q) ];
  retired = λ q. elim (eqb_tells q p) [ inl y ↦ rw (y.1, get_or-set_same places p x Current inside) (s.retired p ∙ sym r) | inr n ↦ rw (get_or-set_other places p q x Current n.1) (s.retired q) ];
}

-- a page that was taken returns to the free ones
pub shows-return : (places : List Place) (w : World) → ShowsPlaces places w → (p : ℕ) → p < length places → retired_with (place_of places p) ≡ None
    → ShowsPlaces (slice_set places p Free) (after_return w p)
shows-return places w s p inside unretired = record {
  free = λ q. elim (eqb_tells q p) [ inl y ↦ rw (y.0, y.1, get_or-set_same places p Free Current inside) refl | inr n ↦ rw (n.0, get_or-set_other places p q Free Current n.1) (s.free q) ];
  taken = λ q. elim (eqb_tells q p) [ inl y ↦ rw (y.0, y.1, get_or-set_same places p Free Current inside) refl | inr n ↦ rw (n.0, get_or-set_other places p q Free Current n.1) (s.taken q) ];
  retired = λ q. elim (eqb_tells q p) [ inl y ↦ rw (y.1, get_or-set_same places p Free Current inside) (s.retired p ∙ unretired) | inr n ↦ rw (get_or-set_other places p q Free Current n.1) (s.retired q) ];
}

-- the lock is released
pub shows-unlock : (places : List Place) (w : World) → ShowsPlaces places w → ShowsPlaces (map undone_place places) (after_unlock w)
shows-unlock places w s = record {
  free = λ p. rw (s.free p, s.taken p, place-map undone_place refl places p) (freed (place_of places p));
  taken = λ p. rw (place-map undone_place refl places p) (untaken (place_of places p));
  retired = λ p. rw (s.retired p, place-map undone_place refl places p) (stays (place_of places p));
}
  where
    freed : (x : Place) → (shows_free x || shows_taken x) ≡ shows_free (undone_place x)
    freed Free = refl
    freed Reserved = refl
    freed Filled = refl
    freed (Retired r) = refl
    freed Current = refl
    freed GivenUp = refl

    untaken : (x : Place) → false ≡ shows_taken (undone_place x)
    untaken Free = refl
    untaken Reserved = refl
    untaken Filled = refl
    untaken (Retired r) = refl
    untaken Current = refl
    untaken GivenUp = refl

    stays : (x : Place) → retired_with x ≡ retired_with (undone_place x)
    stays Free = refl
    stays Reserved = refl
    stays Filled = refl
    stays (Retired r) = refl
    stays Current = refl
    stays GivenUp = refl

-- a whole scan
pub shows-sweep : (places : List Place) (w : World) → ShowsPlaces places w → (l : ℕ) → ShowsPlaces (map (swept_place l) places) (swept w l)
shows-sweep places w s l = record {
  free = λ p. rw (s.free p, s.retired p, place-map (swept_place l) refl places p) (freed (place_of places p));
  taken = λ p. rw (s.taken p, place-map (swept_place l) refl places p) (taken (place_of places p));
  retired = λ p. rw (s.retired p, place-map (swept_place l) refl places p) (left (place_of places p));
}
  where
    by_test : (b : Bool) (r : ℕ) → ((false || b) ≡ shows_free (if b then Free else Retired r)) × (false ≡ shows_taken (if b then Free else Retired r)) × ((if b then None else Some r) ≡ retired_with (if b then Free else Retired r))
    by_test true r = (refl, refl, refl)
    by_test false r = (refl, refl, refl)

    freed : (x : Place) → (shows_free x || is_below l (retired_with x)) ≡ shows_free (swept_place l x)
    freed Free = refl
    freed Reserved = refl
    freed Filled = refl
    freed (Retired r) = (by_test (nat_lt r l) r).0
    freed Current = refl
    freed GivenUp = refl

    taken : (x : Place) → shows_taken x ≡ shows_taken (swept_place l x)
    taken Free = refl
    taken Reserved = refl
    taken Filled = refl
    taken (Retired r) = (by_test (nat_lt r l) r).1
    taken Current = refl
    taken GivenUp = refl

    left : (x : Place) → (if is_below l (retired_with x) then None else retired_with x) ≡ retired_with (swept_place l x)
    left Free = refl
    left Reserved = refl
    left Filled = refl
    left (Retired r) = (by_test (nat_lt r l) r).2
    left Current = refl
    left GivenUp = refl

by_places : (xs ys : List Place) → length xs ≡ length ys → ((q : ℕ) → q < length xs → place_of xs q ≡ place_of ys q) → xs ≡ ys
by_places [] [] e h = refl
by_places [] (y ∷ ys) e h = absurd (omega arith)
by_places (x ∷ xs) [] e h = absurd (omega arith)
by_places (x ∷ xs) (y ∷ ys) e h = λ k. h 0 (omega arith) k ∷ by_places xs ys (omega arith) (λ q lt. h (suc q) (omega arith)) k

-- a list whose places are those of another list under f
pub mapped : (f : Place → Place) → f Current ≡ Current → (xs ys : List Place) → length xs ≡ length ys → ((q : ℕ) → q < length xs → place_of xs q ≡ f (place_of ys q)) → xs ≡ map f ys
mapped f e xs ys same h = by_places xs (map f ys) (same ∙ sym (length-map ys f)) (λ q lt. h q lt ∙ sym (place-map f e ys q))
