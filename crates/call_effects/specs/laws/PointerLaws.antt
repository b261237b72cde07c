-- The numbers of pointers to a data block, with the mark and without it.
use Rattle.std.proofs.Common.{◌≡◌, ◌≢◌, ◌<◌, ◌+◌, ◌-◌, ◌%◌, ◌^◌, ◌==◌, ℕ, None, Option, Some, inl, inr, refl, sym, ap, ◌∙◌, arith}
use Rattle.std.specs.Option.{option_map_or}
use Rattle.std.proofs.Math.Nat.{add-mod_right, mod-eq-sub-mod, mod-eq_of_lt}
use Rattle.std.proofs.lemmas.Bool.{cases_Bool, cases_eq, cases_lt, eqb-false, ne_eqb}
use Rattle.vol_layout.specs.declared.geometry.Geometry.{Geometry}
use Rattle.vol_layout.specs.declared.field.Field.{Field}
use Rattle.vol_layout.specs.declared.field.Field.TheVariants.{Count, Head, Pointer, Slot}
use Rattle.vol_layout.specs.Fields.{HasField, IsPointer}
use Rattle.vol_layout.specs.Ranges.{IsGeometry, data_blocks, per_table}
use Rattle.plain_files.specs.Block.{zero_block}
use Rattle.image_view.specs.Files.{content, data_block}
use Rattle.image_view.specs.Images.{Image}
use Rattle.image_view.specs.Links.{marked}
use Rattle.image_view.specs.Balances.{share, share_of}
use Rattle.image_view.specs.Pointers.{IsUnmarked, named}
use Rattle.image_view.specs.laws.BalanceLaws.{share_named, share_none}

-- a pointer without the mark names its number less 1
pub named-unmarked : (n d : ℕ) → n ≡ d + 1 → IsUnmarked n → named n ≡ Some d
named-unmarked n d is un =
    let small = mod-eq_of_lt un.1 in
    let some = ne_eqb n 0 (λ e. absurd (omega (arith, e, un.0))) in
    let less : n - 1 ≡ d = omega (arith, is) in
    rw (small, some, less) refl

-- the number of a pointer to a data block, without the mark
pub fresh-unmarked : (g : Geometry) (d : ℕ) → IsGeometry g → HasField g (Count d) → IsUnmarked (d + 1)
unfolding data_blocks per_table
fresh-unmarked g d is has = (omega arith, omega (arith, has, is.groups.1))

pub fresh-range : (g : Geometry) (d : ℕ) → IsGeometry g → HasField g (Count d) → IsPointer g (d + 1)
fresh-range g d is has =
    let un = fresh-unmarked g d is has in
    record {
      width = omega (arith, un.1);
      hole = λ e. absurd (omega (arith, un.1, e));
      names = omega (arith, un.1, has);
    }

-- and with it
marked_low : (d : ℕ) → d + 1 < 2 ^ 31 → marked d % 2 ^ 31 ≡ d + 1
marked_low d small = add-mod_right (d + 1) (2 ^ 31) ∙ mod-eq_of_lt small

pub named-marked : (d : ℕ) → d + 1 < 2 ^ 31 → named (marked d) ≡ Some d
named-marked d small =
    let low = marked_low d small in
    let some = ne_eqb (d + 1) 0 (λ e. absurd (omega (arith, e))) in
    let less : d + 1 - 1 ≡ d = omega arith in
    rw (low, some, less) refl

pub marked-range : (g : Geometry) (d : ℕ) → IsGeometry g → HasField g (Count d) → IsPointer g (marked d)
marked-range g d is has =
    let un = fresh-unmarked g d is has in
    let low = marked_low d un.1 in
    record {
      width = omega (arith, un.1);
      hole = λ e. absurd (omega (arith, low, e));
      names = rw low (omega (arith, has));
    }

pub marked-not_lone : (d : ℕ) → IsUnmarked (marked d) → ⊥
marked-not_lone d un = absurd (omega (arith, un.1))

-- the number of a hole
pub hole-range : (g : Geometry) → IsPointer g 0
hole-range g = record { width = omega arith; hole = λ e. refl; names = omega arith }

-- what a pointer shows: the data block that it names, and zeros where it names none
pub content-named : (g : Geometry) (image : Image) (n d : ℕ) → named n ≡ Some d → content g image n ≡ data_block g image d
content-named g image n d is = ap (λ (o : Option ℕ). option_map_or (data_block g image) o zero_block) is

pub content-hole : (g : Geometry) (image : Image) (n : ℕ) → named n ≡ None → content g image n ≡ zero_block
content-hole g image n is = ap (λ (o : Option ℕ). option_map_or (data_block g image) o zero_block) is

-- what names a data number once
pub share-names : (n d : ℕ) → share n d ≢ 0 → named n ≡ Some d
share-names n d some = one_named (named n) refl
  where
    one_named : (o : Option ℕ) → named n ≡ o → named n ≡ Some d
    one_named None names = absurd (some (share_none n d names))
    one_named (Some e) names =
        elim (cases_eq e d) [
          | inl here ↦ names ∙ ap (λ (k : ℕ). Some k) here
          | inr other ↦ absurd (some (share_named n e d names ∙ (let apart = ne_eqb e d other in rw apart refl)))
        ]

pub named-share : (x : Field) (n d : ℕ) → share_of x n d ≡ 1 → named n ≡ Some d
named-share (Pointer f i) n d is = share-names n d (λ e. absurd (omega (arith, is, e)))
named-share (Slot s) n d is = share-names n d (λ e. absurd (omega (arith, is, e)))
named-share (Head f) n d is = absurd (omega (arith, is))
named-share (Count c) n d is = absurd (omega (arith, is))

-- the number of a pointer that has the mark
low_is : (n d : ℕ) → named n ≡ Some d → n % 2 ^ 31 ≡ d + 1
low_is n d names =
    elim (cases_Bool (n % 2 ^ 31 == 0)) [
      | inl none ↦ absurd (let is : named n ≡ None = rw none refl in cc)
      | inr some ↦
          let is : named n ≡ Some (n % 2 ^ 31 - 1) = rw some refl in
          let d_is : d ≡ n % 2 ^ 31 - 1 = cc in
          let more = eqb-false (n % 2 ^ 31) 0 some in
          omega (arith, d_is, more)
    ]

pub marked-is : (g : Geometry) (n d : ℕ) → IsPointer g n → named n ≡ Some d → (IsUnmarked n → ⊥) → n ≡ marked d
marked-is g n d range names lone =
    let low = low_is n d names in
    elim (cases_lt n (2 ^ 31)) [
      | inl small ↦
          let is : n ≡ d + 1 = sym (mod-eq_of_lt small) ∙ low in
          absurd (lone (omega (arith, is), small))
      | inr large ↦
          let rest : n - 2 ^ 31 < 2 ^ 31 = omega (arith, range.width) in
          let is : n - 2 ^ 31 ≡ d + 1 = sym (mod-eq_of_lt rest) ∙ sym (mod-eq-sub-mod large) ∙ low in
          omega (arith, is, large)
    ]
