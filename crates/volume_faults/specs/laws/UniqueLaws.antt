-- A volume has one list of faults.
use Rattle.std.proofs.Common.{◌≡◌, ◌≢◌, ◌⊎◌, ℕ, zero, suc, List, [], ◌∷◌, refl, sym, ◌∙◌, subst, inl, inr, arith}
use Rattle.std.specs.Prelude.{Contains}
use Rattle.std.proofs.lemmas.List.Elements.{All-contains, All-head, Contains-append_right}
use Rattle.vol_layout.specs.declared.geometry.Geometry.{Geometry}
use Rattle.image_view.specs.Images.{Image, geometry_of}
use Rattle.volume_faults.specs.declared.fault.Fault.{Fault}
use Rattle.volume_faults.specs.Order.{AreInOrder, ComesBefore}
use Rattle.volume_faults.specs.Sites.{Site}
use Rattle.volume_faults.specs.Lists.{IsFaultOf, Lists}
use Rattle.volume_faults.specs.Faults.{AreFaults, AreOfFirst, AreTableFaults, IsOfStage, IsPassed}

-- no two faults come before each other
not_both : (x y : Fault) → ComesBefore x y → ComesBefore y x → ⊥
not_both x y (inl lower) (inl lower') = omega arith
not_both x y (inl lower) (inr same) = let place = same.0 in omega arith
not_both x y (inr same) (inl lower) = let place = same.0 in omega arith
not_both x y (inr same) (inr same') = let entry = same.1 in let entry' = same'.1 in omega arith

here_or_behind : (x : Fault) (xs : List Fault) (z : Fault) → Contains (x ∷ xs) z → (x ≡ z) ⊎ Contains xs z
here_or_behind x xs z (zero, below, is) = inl is
here_or_behind x xs z (suc k, below, is) = inr (k, omega arith, is)

here : (x : Fault) (xs : List Fault) → Contains (x ∷ xs) x
here x xs = (0, omega arith, refl)

behind : (x : Fault) (xs : List Fault) (z : Fault) → AreInOrder (x ∷ xs) → Contains xs z → ComesBefore x z
behind x xs z order listed = All-contains (ComesBefore x) xs z order.0 listed

-- lists in order that have the same faults begin with the same one
same_head : (x y : Fault) (xs ys : List Fault) → AreInOrder (x ∷ xs) → AreInOrder (y ∷ ys) → Contains (y ∷ ys) x → Contains (x ∷ xs) y
    → x ≡ y
same_head x y xs ys first second x_listed y_listed =
    elim (here_or_behind y ys x x_listed) [
      | inl same ↦ sym same
      | inr x_behind ↦ elim (here_or_behind x xs y y_listed) [
        | inl same ↦ same
        | inr y_behind ↦ absurd (not_both x y (behind x xs y first y_behind) (behind y ys x second x_behind))
      ]
    ]

-- and have the same ones behind it
same_behind : (x : Fault) (xs ys : List Fault) → AreInOrder (x ∷ xs) → ((z : Fault) → Contains (x ∷ xs) z → Contains (x ∷ ys) z)
    → (z : Fault) → Contains xs z → Contains ys z
same_behind x xs ys order in_both z listed =
    elim (here_or_behind x ys z (in_both z (Contains-append_right (x ∷ []) xs z listed))) [
      | inl same ↦
          let before = behind x xs z order listed in
          let itself : ComesBefore x x = subst (ComesBefore x) (sym same) before in
          absurd (not_both x x itself itself)
      | inr there ↦ there
    ]

same_list : (xs ys : List Fault) → AreInOrder xs → AreInOrder ys → ((z : Fault) → Contains xs z → Contains ys z)
    → ((z : Fault) → Contains ys z → Contains xs z) → xs ≡ ys
same_list [] [] first second to from = refl
same_list [] (y ∷ ys) first second to from = let none = (from y (here y ys)).1 in absurd (omega (arith, none))
same_list (x ∷ xs) [] first second to from = let none = (to x (here x xs)).1 in absurd (omega (arith, none))
same_list (x ∷ xs) (y ∷ ys) first second to from =
    let head = same_head x y xs ys first second (to x (here x xs)) (from y (here y ys)) in
    let second' : AreInOrder (x ∷ ys) = rw head second in
    let to' = λ (z : Fault) (listed : Contains (x ∷ xs) z). subst (λ f. Contains (f ∷ ys) z) (sym head) (to z listed) in
    let from' = λ (z : Fault) (listed : Contains (x ∷ ys) z). from z (subst (λ f. Contains (f ∷ ys) z) head listed) in
    let rest = same_list xs ys first.1 second.1 (same_behind x xs ys first to') (same_behind x ys xs second' from') in
    cc

-- a fault that one list of these sites has is in each other
listed_too : (Among : Site → Type 0) (g : Geometry) (counter : ℕ) (image : Image) (xs ys : List Fault) → Lists Among g counter image xs
    → Lists Among g counter image ys
    → (z : Fault) → Contains xs z → Contains ys z
listed_too Among g counter image xs ys first second z listed =
    let of = All-contains (IsFaultOf Among g counter image) xs z first.each listed in
    elim (second.whole of.site of.among) [
      | inl right ↦ absurd (of.wrong right)
      | inr there ↦ subst (Contains ys) (sym of.is) there
    ]

pub Lists-unique : (Among : Site → Type 0) (g : Geometry) (counter : ℕ) (image : Image) (xs ys : List Fault)
    → Lists Among g counter image xs → Lists Among g counter image ys → xs ≡ ys
Lists-unique Among g counter image xs ys first second =
    same_list xs ys first.order second.order (listed_too Among g counter image xs ys first second) (listed_too Among g counter image ys xs second first)

-- a stage that has a fault is not passed
not_passed : (g : Geometry) (counter : ℕ) (image : Image) (stage : ℕ) (xs : List Fault) → xs ≢ []
    → Lists (IsOfStage g image stage) g counter image xs → IsPassed g counter image stage → ⊥
not_passed g counter image stage [] some lists passed = some refl
not_passed g counter image stage (x ∷ xs) some lists passed =
    let of = All-head (IsFaultOf (IsOfStage g image stage) g counter image) x xs lists.each in
    of.wrong (passed of.site of.among)

first_unique : (stages : List ℕ) (g : Geometry) (counter : ℕ) (image : Image) (xs ys : List Fault) → AreOfFirst stages g counter image xs
    → AreOfFirst stages g counter image ys → xs ≡ ys
first_unique [] g counter image xs ys first second = first ∙ sym second
first_unique (stage ∷ stages) g counter image xs ys (inl first) (inl second) = Lists-unique (IsOfStage g image stage) g counter image xs ys first.1 second.1
first_unique (stage ∷ stages) g counter image xs ys (inl first) (inr second) = absurd (not_passed g counter image stage xs first.0 first.1 second.0)
first_unique (stage ∷ stages) g counter image xs ys (inr first) (inl second) = absurd (not_passed g counter image stage ys second.0 second.1 first.0)
first_unique (stage ∷ stages) g counter image xs ys (inr first) (inr second) = first_unique stages g counter image xs ys first.1 second.1

pub AreFaults-unique : (counter : ℕ) (image : Image) (xs ys : List Fault) → AreFaults counter image xs → AreFaults counter image ys
    → xs ≡ ys
unfolding AreFaults
AreFaults-unique counter image xs ys first second = first_unique (1 ∷ 2 ∷ 3 ∷ 4 ∷ []) (geometry_of image) counter image xs ys first second

pub AreTableFaults-unique : (g : Geometry) (counter : ℕ) (image : Image) (xs ys : List Fault) → AreTableFaults g counter image xs
    → AreTableFaults g counter image ys → xs ≡ ys
unfolding AreTableFaults
AreTableFaults-unique g counter image xs ys first second = first_unique (2 ∷ 3 ∷ 4 ∷ []) g counter image xs ys first second
