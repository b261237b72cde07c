use Rattle.std.proofs.Common.{◌≡◌, ◌+◌, ◌-◌, ◌*◌, ◌<◌, ◌≤◌, ℕ, zero, suc, List, [], ◌∷◌, Option, Some, None, IsNone, IfSome, IfNone, ◌↔◌, slice_get, length, refl, arith, sym, ◌∙◌, ap, subst, zero-add}
use Rattle.std.proofs.lemmas.Bool.Decides.{nat_tests}
use Rattle.std.proofs.lemmas.Nat.{div-mul-add, mod-mul-add}
use Rattle.vol_layout.specs.declared.geometry.Geometry.{Geometry}
use Rattle.vol_layout.specs.declared.kind.Resource.TheVariants as resources
use Rattle.vol_layout.specs.declared.kind.Table.TheVariants as tables
use Rattle.vol_layout.specs.declared.kind.Kind.{Kind}
use Rattle.vol_layout.specs.declared.kind.Kind.TheVariants as kinds
use Rattle.vol_layout.specs.Ranges.{HasKind}
use Rattle.vol_layout.specs.Regions.{Region, regions, start, total}
use Rattle.vol_layout.specs.Places.{kind_in, kind_at, place_of, seat}

here : (x : Region) (xs : List Region) (p i : ℕ) → i < x.size → p ≡ i → kind_in (x ∷ xs) p ≡ Some (x.kind i)
here x xs p i h e = rw e (grind (arith, nat_tests))

past : (x : Region) (xs : List Region) (p q : ℕ) → p ≡ x.size + q → kind_in (x ∷ xs) p ≡ kind_in xs q
past x xs p q e = let d : p - x.size ≡ q = omega arith in rw d (grind (arith, nat_tests))

-- the kind at the i-th place of a region is the region's i-th
kind_in-start : (xs : List Region) (r i : ℕ) (x : Region) → slice_get xs r ≡ Some x → i < x.size
    → kind_in xs (start xs r + i) ≡ Some (x.kind i)
kind_in-start [] r i x e h = cc
kind_in-start (y ∷ ys) zero i x e h =
    let same : y ≡ x = cc in
    let small : i < y.size = rw same h in
    here y ys (0 + i) i small (zero-add i) ∙ ap (λ (r : Region). Some (r.kind i)) same
kind_in-start (y ∷ ys) (suc r) i x e h =
    past y ys (y.size + start ys r + i) (start ys r + i) (omega arith) ∙ kind_in-start ys r i x e h

-- past the last region stands nothing, and before its end something
kind_in-none : (xs : List Region) (p : ℕ) → start xs (length xs) ≤ p → kind_in xs p ≡ None
kind_in-none [] p h = refl
kind_in-none (y ∷ ys) p h =
    let rest : start ys (length ys) ≤ p - y.size = omega arith in
    past y ys p (p - y.size) (omega arith) ∙ kind_in-none ys (p - y.size) rest

inside : (xs : List Region) (r i : ℕ) (x : Region) → slice_get xs r ≡ Some x → i < x.size → start xs r + i < start xs (length xs)
inside [] r i x e h = cc
inside (y ∷ ys) zero i x e h = let same : y ≡ x = cc in let small : i < y.size = rw same h in omega arith
inside (y ∷ ys) (suc r) i x e h = let below = inside ys r i x e h in omega arith

two_below : (h n l w : ℕ) → h < n → l < w → h * w + l < n * w
two_below h n l w a b = grind arith

-- a kind of the volume, its region and its number there
pub record Seated (g : Geometry) (k : Kind) : Type 0 where
  pub region : Region
  pub is : slice_get (regions g) (seat g k).0 ≡ Some region
  pub below : (seat g k).1 < region.size
  pub names : region.kind (seat g k).1 ≡ k

seated : (g : Geometry) (k : Kind) → HasKind g k → Seated g k
unfolding regions
seated g kinds.Super h = record { region = _; is = refl; below = omega arith; names = refl }
seated g (kinds.Slot x) h = record { region = _; is = refl; below = h; names = refl }
seated g (kinds.Journal x) h = record { region = _; is = refl; below = h; names = refl }
seated g (kinds.Lock (resources.File x)) h = record { region = _; is = refl; below = h; names = refl }
seated g (kinds.Lock (resources.Part x)) h = record { region = _; is = refl; below = h; names = refl }
seated g (kinds.Lock (resources.Group x)) h = record { region = _; is = refl; below = h; names = refl }
seated g (kinds.Table (tables.File x)) h = record { region = _; is = refl; below = h; names = refl }
seated g (kinds.Table (tables.Group x)) h = record { region = _; is = refl; below = h; names = refl }
seated g (kinds.Table (tables.Part x)) h = record { region = _; is = refl; below = h; names = refl }
seated g (kinds.Log x l) h = record { region = _; is = refl; below = two_below x g.hosts l g.logs h.0 h.1; names = rw (div-mul-add x g.logs l h.1, mod-mul-add x g.logs l h.1) refl }
seated g (kinds.Shard x) h = record { region = _; is = refl; below = h; names = refl }
seated g (kinds.Request x) h = record { region = _; is = refl; below = h; names = refl }
seated g (kinds.Number x) h = record { region = _; is = refl; below = h; names = refl }
seated g (kinds.Table (tables.More x t)) h =
    let less : t - 1 < g.tables - 1 = omega (arith, h.1, h.2) in
    let back : t - 1 + 1 ≡ t = omega (arith, h.1) in
    record {
      region = _;
      is = refl;
      below = two_below x g.files (t - 1) (g.tables - 1) h.0 less;
      names = rw (div-mul-add x (g.tables - 1) (t - 1) less, mod-mul-add x (g.tables - 1) (t - 1) less, back) refl;
    }

-- each kind of block of the volume stands inside it, and is what stands at its place
pub place_of-inside : (g : Geometry) (k : Kind) → HasKind g k → place_of g k < total g
unfolding place_of total
place_of-inside g k h = let s = seated g k h in inside (regions g) (seat g k).0 (seat g k).1 s.region s.is s.below

pub kind_at-place : (g : Geometry) (k : Kind) → HasKind g k → kind_at g (place_of g k) ≡ Some k
unfolding place_of kind_at
kind_at-place g k h =
    let s = seated g k h in
    kind_in-start (regions g) (seat g k).0 (seat g k).1 s.region s.is s.below ∙ ap (λ (j : Kind). Some j) s.names

pub kind_at-none : (g : Geometry) (p : ℕ) → total g ≤ p → kind_at g p ≡ None
unfolding total kind_at
kind_at-none g p h = kind_in-none (regions g) p h

-- two kinds of block stand at two places
pub places_apart : (g : Geometry) (j k : Kind) → HasKind g j → HasKind g k → place_of g j ≡ place_of g k → j ≡ k
places_apart g j k hj hk e =
    let a = kind_at-place g j hj in let b = kind_at-place g k hk in
    let c : kind_at g (place_of g j) ≡ kind_at g (place_of g k) = ap (kind_at g) e in cc

-- what stands at a place, from what was found there
pub found_kind : (g : Geometry) (p : ℕ) (r : Option Kind) → IfSome r (λ k. HasKind g k × (place_of g k ≡ p)) → IfNone r (total g ≤ p)
    → r ≡ kind_at g p
found_kind g p (Some k) s n = let e = kind_at-place g k s.0 in sym (subst (λ (q : ℕ). kind_at g q ≡ Some k) s.1 e)
found_kind g p None s n = sym (kind_at-none g p n)

pub found_none : (g : Geometry) (p : ℕ) (r : Option Kind) → IfSome r (λ k. HasKind g k × (place_of g k ≡ p)) → IfNone r (total g ≤ p)
    → IsNone r ↔ (total g ≤ p)
found_none g p (Some k) s n = let below = place_of-inside g k s.0 in (λ h. cc, λ h. absurd (omega (arith, s.1)))
found_none g p None s n = (λ h. n, λ h. refl)
