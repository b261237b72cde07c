-- Parts of a list, and what a filter leaves of them.
use Rattle.std.proofs.Common.{◌≡◌, ◌<◌, ◌≤◌, ◌+◌, ◌-◌, ℕ, List, [], ◌∷◌, ◌++◌, Bool, true, false, ap, arith, drop, length, length-drop, refl, sym, take, zero-le, ◌∙◌}
use Rattle.std.specs.Prelude.{All, filter}
use Rattle.std.specs.List.{AllWithin}
use Rattle.std.proofs.lemmas.List.{append-nil, drop-drop, get_or-drop, get_or-take, length-take, take-append-drop}
use Rattle.std.proofs.lemmas.List.Elements.{All-head, All-tail, filter-append}

pub filter_none : {X : Type 0} (p : X → Bool) (xs : List X) → All (λ x. p x ≡ false) xs → filter p xs ≡ []
filter_none p [] all = refl
filter_none p (x ∷ xs) all = rw (All-head (λ y. p y ≡ false) x xs all) (filter_none p xs (All-tail (λ y. p y ≡ false) x xs all))

pub filter_all : {X : Type 0} (p : X → Bool) (xs : List X) → All (λ x. p x ≡ true) xs → filter p xs ≡ xs
filter_all p [] all = refl
filter_all p (x ∷ xs) all = rw (All-head (λ y. p y ≡ true) x xs all) (ap (λ ys. x ∷ ys) (filter_all p xs (All-tail (λ y. p y ≡ true) x xs all)))

-- what holds between two places holds of the elements there
pub All-between : {X : Type 0} (P : X → Type 0) (xs : List X) (i j : ℕ) → AllWithin P xs i j → All P (take (j - i) (drop i xs))
All-between P xs i j within k d h =
    let small : k < j - i = omega (arith, length-take (j - i) (drop i xs)) in
    rw (get_or-take (j - i) (drop i xs) k d small, get_or-drop i xs k d) (within (i + k) d (omega arith) (omega arith))

pub All-front : {X : Type 0} (P : X → Type 0) (xs : List X) (i : ℕ) → AllWithin P xs 0 i → All P (take i xs)
All-front P xs i within k d h =
    let small : k < i = omega (arith, length-take i xs) in
    rw (get_or-take i xs k d small) (within k d zero-le small)

pub All-behind : {X : Type 0} (P : X → Type 0) (xs : List X) (i : ℕ) → AllWithin P xs i (length xs) → All P (drop i xs)
All-behind P xs i within k d h = rw (get_or-drop i xs k d) (within (i + k) d (omega arith) (omega (arith, length-drop i xs)))

-- a list in three parts
pub three_parts : {X : Type 0} (xs : List X) (i j : ℕ) → i ≤ j → xs ≡ take i xs ++ (take (j - i) (drop i xs) ++ drop j xs)
three_parts xs i j h =
    let last : drop (j - i) (drop i xs) ≡ drop j xs = drop-drop (j - i) i xs ∙ ap (λ (n : ℕ). drop n xs) (omega arith) in
    let rest : take (j - i) (drop i xs) ++ drop j xs ≡ drop i xs = ap (λ ys. take (j - i) (drop i xs) ++ ys) (sym last) ∙ take-append-drop (j - i) (drop i xs) in
    sym (ap (λ ys. take i xs ++ ys) rest ∙ take-append-drop i xs)

-- a filter of a list in three parts, of which it keeps the middle, or the ends
pub filter_middle : {X : Type 0} (p : X → Bool) (a b c : List X) → All (λ x. p x ≡ false) a → All (λ x. p x ≡ true) b
    → All (λ x. p x ≡ false) c → filter p (a ++ (b ++ c)) ≡ b
filter_middle p a b c first middle last =
    filter-append p a (b ++ c)
    ∙ rw (filter_none p a first) (filter-append p b c ∙ rw (filter_all p b middle, filter_none p c last) (append-nil b))

pub filter_ends : {X : Type 0} (p : X → Bool) (a b c : List X) → All (λ x. p x ≡ true) a → All (λ x. p x ≡ false) b
    → All (λ x. p x ≡ true) c → filter p (a ++ (b ++ c)) ≡ a ++ c
filter_ends p a b c first middle last =
    filter-append p a (b ++ c)
    ∙ rw (filter_all p a first) (ap (λ ys. a ++ ys) (filter-append p b c ∙ rw (filter_none p b middle, filter_all p c last) refl))
