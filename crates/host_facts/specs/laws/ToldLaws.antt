-- What a host is sure of, and relations of two told images.
use Rattle.std.proofs.Common.{◌≡◌, ℕ, List, Option, Some, None, refl, subst, sym, option_map}
use Rattle.std.specs.Prelude.{Contains, IfSome, slice_set}
use Rattle.shared_disk.specs.Calls.{after_write, told_after}
use Rattle.shared_disk.specs.State.{State, Told}
use Rattle.image_view.specs.Images.{Image}
use Rattle.lock_store.specs.Views.{LocksView, key_at, keys_of, told_of}
use Rattle.disk_locks.specs.Sure.{BothTold, Sure}

-- what follows of what is told, of two things that hold of it, and what holds of whatever is told
pub map_told : (told : Option Told) (P Q : Told → Type 0) → IfSome told P → ((t : Told) → P t → Q t) → IfSome told Q
map_told None P Q p f = tt
map_told (Some t) P Q p f = f t p

pub join_told : (told : Option Told) (P Q R : Told → Type 0) → IfSome told P → IfSome told Q → ((t : Told) → P t → Q t → R t)
    → IfSome told R
join_told None P Q R p q f = tt
join_told (Some t) P Q R p q f = f t p q

pub all_told : (told : Option Told) (P : Told → Type 0) → ((t : Told) → P t) → IfSome told P
all_told None P f = tt
all_told (Some t) P f = f t

over_told : (old new : Option Told) (R : Image → Image → Type 0) (P Q : Image → Type 0) → ((i j : Image) → R i j → P i → Q j)
    → BothTold old new R → IfSome old (λ t. P t.image) → IfSome new (λ t. Q t.image)
over_told None None R P Q f r p = tt
over_told None (Some t) R P Q f r p = absurd r
over_told (Some t) None R P Q f r p = tt
over_told (Some t) (Some u) R P Q f r p = f t.image u.image r p

-- what follows of what it is sure of
pub sure_of : (v : LocksView) (h : ℕ) (P Q : Image → Type 0) → ((image : Image) → P image → Q image) → Sure v h P → Sure v h Q
sure_of v h P Q f sure here = map_told (told_of v) (λ t. P t.image) (λ t. Q t.image) (sure here) (λ t. f t.image)

-- what holds of every image
pub sure_all : (v : LocksView) (h : ℕ) (P : Image → Type 0) → ((image : Image) → P image) → Sure v h P
sure_all v h P f here = all_told (told_of v) (λ t. P t.image) (λ t. f t.image)

-- two things at once
pub sure_and : (v : LocksView) (h : ℕ) (P Q : Image → Type 0) → Sure v h P → Sure v h Q → Sure v h (λ image. P image × Q image)
sure_and v h P Q p q here =
    join_told (told_of v) (λ t. P t.image) (λ t. Q t.image) (λ t. P t.image × Q t.image) (p here) (q here) (λ t a b. (a, b))

-- as many things as there are values
pub sure_each : (v : LocksView) (h : ℕ) (A : Type 0) (P : A → Image → Type 0) → ((a : A) → Sure v h (P a))
    → Sure v h (λ image. (a : A) → P a image)
sure_each v h A P f here = each (told_of v) (λ a. f a here)
  where
    each : (told : Option Told) → ((a : A) → IfSome told (λ t. P a t.image)) → IfSome told (λ t. (a : A) → P a t.image)
    each None p = tt
    each (Some t) p = p

-- over a call that leaves images in this relation
pub sure_over : (v w : LocksView) (h : ℕ) (R : Image → Image → Type 0) (P Q : Image → Type 0) → key_at w h ≡ key_at v h
    → (Contains (keys_of w) (key_at v h) → Contains (keys_of v) (key_at v h))
    → (Contains (keys_of w) (key_at v h) → BothTold (told_of v) (told_of w) R)
    → ((old new : Image) → R old new → P old → Q new) → Sure v h P → Sure w h Q
sure_over v w h R P Q key back told f sure here =
    let now : Contains (keys_of w) (key_at v h) = subst (λ k. Contains (keys_of w) k) key here in
    over_told (told_of v) (told_of w) R P Q f (told now) (sure (back now))

-- where the device's state is as before
pub sure_still : (v w : LocksView) (h : ℕ) (P Q : Image → Type 0) → key_at w h ≡ key_at v h → w.disk.state ≡ v.disk.state
    → ((image : Image) → P image → Q image) → Sure v h P → Sure w h Q
sure_still v w h P Q key same f sure here =
    let now : Contains (keys_of w) (key_at v h) = subst (λ k. Contains (keys_of w) k) key here in
    let was : Contains (keys_of v) (key_at v h) = subst (λ (s : State). Contains s.keys (key_at v h)) same now in
    subst (λ (s : State). IfSome s.told (λ t. Q t.image)) (sym same) (sure_of v h P Q f sure was)

-- two relations of two told images at once
pub both_and : (old new : Option Told) (R S : Image → Image → Type 0) → BothTold old new R → BothTold old new S
    → BothTold old new (λ i j. R i j × S i j)
both_and None None R S r s = tt
both_and None (Some t) R S r s = r
both_and (Some t) None R S r s = r
both_and (Some t) (Some u) R S r s = (r, s)

-- a relation that follows of another one, and of what holds of the older image
pub both_with : (old new : Option Told) (P : Image → Type 0) (R S : Image → Image → Type 0) → IfSome old (λ t. P t.image)
    → BothTold old new R → ((i j : Image) → P i → R i j → S i j) → BothTold old new S
both_with None None P R S p r f = tt
both_with None (Some u) P R S p r f = r
both_with (Some t) None P R S p r f = r
both_with (Some t) (Some u) P R S p r f = f t.image u.image p r

pub both_of : (old new : Option Told) (R S : Image → Image → Type 0) → BothTold old new R → ((i j : Image) → R i j → S i j)
    → BothTold old new S
both_of old new R S r f =
    both_with old new (λ i. Unit {0}) R S (all_told old (λ t. Unit {0}) (λ t. tt)) r (λ i j p. f i j)

-- what is told is as before
pub both_same : (old new : Option Told) (R : Image → Image → Type 0) → new ≡ old → ((i : Image) → R i i) → BothTold old new R
both_same old new R same r = subst (λ (o : Option Told). BothTold old o R) (sym same) (each old)
  where
    each : (old : Option Told) → BothTold old old R
    each None = tt
    each (Some t) = r t.image

-- one block is written
pub both_written : (s t : State) (place : ℕ) (block : List ℕ) → t ≡ after_write place block s
    → BothTold s.told t.told (λ old new. new ≡ slice_set old place block)
both_written s t place block same =
    subst (λ (u : State). BothTold s.told u.told (λ old new. new ≡ slice_set old place block)) (sym same) (each s.told)
  where
    each : (told : Option Told) → BothTold told (option_map (told_after place block) told) (λ old new. new ≡ slice_set old place block)
    each None = tt
    each (Some t) = refl
