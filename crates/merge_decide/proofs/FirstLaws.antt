-- The first of a list that a function finds something in, when the list is gone through from the front.
use Rattle.std.proofs.Common.{◌≡◌, ◌<◌, ◌≤◌, ◌+◌, ◌||◌, ℕ, Bool, true, false, List, Option, Some, None, sym, ap, ◌∙◌, drop, get_or, length}
use Rattle.std.specs.Prelude.{slice_get}
use Rattle.std.specs.List.{cons_option, filter_map, list_any}
use Rattle.std.proofs.lemmas.List.{at_drop_all, at_drop_more}

-- the first of what a function finds
abbrev pub first_of : {X Y : Type 0} → (X → Option Y) → List X → Option Y
first_of h xs = slice_get (filter_map h xs) 0

pub first-here : {X Y : Type 0} (h : X → Option Y) (xs : List X) (i : ℕ) (d : X) (y : Y) → i < length xs → h (get_or xs i d) ≡ Some y
    → first_of h (drop i xs) ≡ Some y
first-here {Y = Y} h xs i d y within e =
    at_drop_more (first_of h) xs i d within ∙ ap (λ (o : Option Y). slice_get (cons_option o (filter_map h (drop (i + 1) xs))) 0) e

pub first-later : {X Y : Type 0} (h : X → Option Y) (xs : List X) (i : ℕ) (d : X) → i < length xs → h (get_or xs i d) ≡ None
    → first_of h (drop (i + 1) xs) ≡ first_of h (drop i xs)
first-later {Y = Y} h xs i d within e =
    sym (at_drop_more (first_of h) xs i d within ∙ ap (λ (o : Option Y). slice_get (cons_option o (filter_map h (drop (i + 1) xs))) 0) e)

pub first-end : {X Y : Type 0} (h : X → Option Y) (xs : List X) (i : ℕ) → length xs ≤ i → first_of h (drop i xs) ≡ None
first-end h xs i past = at_drop_all (first_of h) xs i past

-- whether a test passes anywhere in a list
pub any-here : {X : Type 0} (p : X → Bool) (xs : List X) (i : ℕ) (d : X) → i < length xs → p (get_or xs i d) ≡ true
    → list_any p (drop i xs) ≡ true
any-here p xs i d within e = at_drop_more (list_any p) xs i d within ∙ ap (λ (b : Bool). b || list_any p (drop (i + 1) xs)) e

pub any-later : {X : Type 0} (p : X → Bool) (xs : List X) (i : ℕ) (d : X) → i < length xs → p (get_or xs i d) ≡ false
    → list_any p (drop (i + 1) xs) ≡ list_any p (drop i xs)
any-later p xs i d within e = sym (at_drop_more (list_any p) xs i d within ∙ ap (λ (b : Bool). b || list_any p (drop (i + 1) xs)) e)

pub any-end : {X : Type 0} (p : X → Bool) (xs : List X) (i : ℕ) → length xs ≤ i → list_any p (drop i xs) ≡ false
any-end p xs i past = at_drop_all (list_any p) xs i past
