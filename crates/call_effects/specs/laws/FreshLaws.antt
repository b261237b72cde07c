-- The record of a write to a free data block is right, and is the place of the write.
use Rattle.std.proofs.Common.{◌≡◌, ◌≢◌, ◌<◌, ◌≤◌, ◌+◌, ◌-◌, ℕ, List, [], ◌∷◌, length, None, Some, refl, sym, ap, ◌∙◌, subst, inl, inr, arith}
use Rattle.std.specs.Prelude.{All}
use Rattle.std.proofs.lemmas.Bool.{cases_eq, eq-eqb, ne_eqb}
use Rattle.std.proofs.lemmas.List.Elements.{All-cons}
use Rattle.std.proofs.lemmas.List.Sums.{sum_by-cons}
use Rattle.vol_base.specs.declared.block.Block.{Block}
use Rattle.vol_base.specs.declared.plain.PlainCall.TheVariants.{Write}
use Rattle.vol_base.specs.declared.plain.PlainReply.TheVariants.{Done}
use Rattle.vol_layout.specs.declared.geometry.Geometry.{Geometry}
use Rattle.vol_layout.specs.declared.kind.Kind.TheVariants as kinds
use Rattle.vol_layout.specs.declared.field.Field.TheVariants.{Count, Head, Pointer}
use Rattle.vol_layout.specs.declared.field.Edit.{Edit}
use Rattle.vol_layout.specs.Edits.{AreApart, IsEdit}
use Rattle.vol_layout.specs.Fields.{HasField, greatest_count}
use Rattle.vol_layout.specs.Ranges.{IsGeometry}
use Rattle.image_view.specs.Balances.{Balances, edit, share, share_of}
use Rattle.image_view.specs.Held.{HoldsField}
use Rattle.image_view.specs.Images.{Image, block_at}
use Rattle.image_view.specs.Mappings.{uses}
use Rattle.image_view.specs.Numbers.{logical}
use Rattle.image_view.specs.Pointers.{named}
use Rattle.image_view.specs.Records.{IsRecord}
use Rattle.image_view.specs.Valid.{IsValid}
use Rattle.image_view.specs.laws.BalanceLaws.{AreCounts, balances-fill, balances-move, gained-counts, share_named}
use Rattle.image_view.specs.laws.FileLaws.{logical_in_range, used_once}
use Rattle.image_view.specs.laws.UseLaws.{share-le-uses}
use Rattle.call_effects.specs.Changes.{Changes}
use Rattle.call_effects.specs.Fresh.{IsFillable, Leaves, Left, counts_filled, filled}
use Rattle.call_effects.specs.Places.{IsPlaced}
use Rattle.call_effects.specs.Shares.{CountsSlot, MayName}
use Rattle.call_effects.specs.laws.CountLaws.{counts-untouched, moved-all, moved-apart, moved-are-counts, moved-length, moved-moves}
use Rattle.call_effects.specs.laws.EachEdit.{all-one}
use Rattle.call_effects.specs.laws.PlaceLaws.{placed-write}
use Rattle.call_effects.specs.laws.PointerLaws.{content-named, fresh-range, fresh-unmarked, named-unmarked}
use Rattle.call_effects.specs.laws.ReplaceLaws.{replaces-pointer}
use Rattle.call_effects.specs.laws.RecordLaws.{record-of}
use Rattle.call_effects.specs.laws.RoomLaws.{room-for-one}

-- what holds of the edits of the counts
counts_all : (P : Edit → Type 0) (d : ℕ) (left : Left) → P (edit (Count d) 1)
    → ((from n : ℕ) → left ≡ Some (from, n) → P (edit (Count from) (n - 1))) → All P (counts_filled d left)
counts_all P d None here lowered = all-one P (edit (Count d) 1) here
counts_all P d (Some left) here lowered = moved-all P left.0 d left.1 0 (lowered left.0 left.1 refl) here

-- the edits of a fresh write, where the free data block has the count 0 and no use
record_parts : (g : Geometry) (image : Image) (key f i d : ℕ) (left : Left) → Leaves g image key f i left → (from n : ℕ)
    → left ≡ Some (from, n)
    → HoldsField g image key (Count from) × (logical g image (Count from) ≡ n) × (named (logical g image (Pointer f i)) ≡ Some from)
record_parts g image key f i d None leaves from n is = absurd cc
record_parts g image key f i d (Some left) leaves from n is =
    let a : left.0 ≡ from = cc in
    let b : left.1 ≡ n = cc in
    (subst (λ (k : ℕ). HoldsField g image key (Count k)) a leaves.2, ap (λ (k : ℕ). logical g image (Count k)) (sym a) ∙ leaves.3 ∙ b, leaves.0 ∙ ap (λ (k : ℕ). Some k) a)

-- nothing that is left is the free data block, and its count is some
left_some : (g : Geometry) (counter : ℕ) (image : Image) (key f i d from n : ℕ) → IsValid g counter image → HasField g (Pointer f i)
    → HasField g (Count from) → named (logical g image (Pointer f i)) ≡ Some from → logical g image (Count from) ≡ n → 1 ≤ n
left_some g counter image key f i d from n valid has there names is =
    let used = used_once g image f i from has names in
    let count = valid.counted.counts from there in
    omega (arith, used, count, is)

unused : (g : Geometry) (counter : ℕ) (image : Image) (d : ℕ) → IsValid g counter image → HasField g (Count d)
    → logical g image (Count d) ≡ 0 → uses g image d ≡ 0
unused g counter image d valid has free = sym (valid.counted.counts d has) ∙ free

are_counts : (d : ℕ) (left : Left) → AreCounts (counts_filled d left)
are_counts d None = (tt, tt)
are_counts d (Some left) = moved-are-counts left.0 d left.1 0

counts_apart : (d : ℕ) (left : Left) → ((from n : ℕ) → left ≡ Some (from, n) → from ≢ d)
    → AreApart (counts_filled d left) × (length (counts_filled d left) ≤ 2)
counts_apart d None other = ((refl, tt), omega arith)
counts_apart d (Some left) other = let long = moved-length left.0 d left.1 0 in (moved-apart left.0 d left.1 0 (other left.0 left.1 refl), omega (arith, long))

balanced : (g : Geometry) (image : Image) (key f i d : ℕ) (left : Left) → IsGeometry g → HasField g (Count d)
    → logical g image (Count d) ≡ 0 → Leaves g image key f i left → ((from n : ℕ) → left ≡ Some (from, n) → (from ≢ d) × (1 ≤ n))
    → Balances g (λ x. logical g image x) (filled f i d left)
balanced g image key f i d None is there free leaves some =
    let to = named-unmarked (d + 1) d refl (fresh-unmarked g d is there) in
    let raised : logical g image (Count d) + 1 ≡ 1 = omega (arith, free) in
    subst (λ (n : ℕ). Balances g (λ x. logical g image x) (edit (Pointer f i) (d + 1) ∷ edit (Count d) n ∷ [])) raised
    (balances-fill g (λ x. logical g image x) f i (d + 1) d leaves to)
balanced g image key f i d (Some left) is there free leaves some =
    let to = named-unmarked (d + 1) d refl (fresh-unmarked g d is there) in
    let both = some left.0 left.1 refl in
    balances-move g (λ x. logical g image x) f i (d + 1) left.0 d (counts_filled d (Some left)) leaves.0 to
    (moved-moves (λ x. logical g image x) left.0 d left.1 0 both.0 (sym leaves.3) (sym free) both.1)

-- the pointer alone names something, the free data block, which nothing else names
may_name : (g : Geometry) (image : Image) (f i d : ℕ) (left : Left) → IsGeometry g → HasField g (Count d) → uses g image d ≡ 0
    → MayName g image (filled f i d left) (edit (Pointer f i) (d + 1))
may_name g image f i d left is there none e some =
    let un = fresh-unmarked g d is there in
    let to = named-unmarked (d + 1) d refl un in
    let sum = sum_by-cons (λ (x : Edit). share_of x.field x.number e) (edit (Pointer f i) (d + 1)) (counts_filled d left) in
    let rest = gained-counts (counts_filled d left) e (are_counts d left) in
    elim (cases_eq d e) [
      | inl here ↦
          let one : share (d + 1) e ≡ 1 = share_named (d + 1) d e to ∙ (let same = eq-eqb d e here in rw same refl) in
          let none' : uses g image e ≡ 0 = ap (uses g image) (sym here) ∙ none in
          inl (none', omega (arith, sum, rest, one))
      | inr other ↦ absurd (some (share_named (d + 1) d e to ∙ (let apart = ne_eqb d e other in rw apart refl)))
    ]

-- a pointer of a held file that comes to name a free data block of a held group
pub record-fill : (g : Geometry) (counter : ℕ) (image : Image) (key f i d : ℕ) (left : Left) → IsValid g counter image
    → IsFillable g image key f i d left → IsRecord g image key (filled f i d left)
record-fill g counter image key f i d left valid is =
    let has = is.pointer.0 in
    let there = is.block.0 in
    let geometry = valid.geometry.0 in
    let none = unused g counter image d valid there is.free in
    let parts = record_parts g image key f i d left is.leaves in
    let some : (from n : ℕ) → left ≡ Some (from, n) → (from ≢ d) × (1 ≤ n) =
    λ from n e.
    let p = parts from n e in
    let more = left_some g counter image key f i d from n valid has p.0.0 p.2 p.1 in
    (λ same. absurd (let zero' : logical g image (Count from) ≡ 0 = ap (λ (k : ℕ). logical g image (Count k)) same ∙ is.free in omega (arith, more, zero', p.1)), more) in
    let apart = counts_apart d left (λ from n e. (some from n e).0) in
    let away : share (logical g image (Pointer f i)) d ≡ 0 = let within = share-le-uses g image (Pointer f i) d has in omega (arith, within, none) in
    let room = room-for-one g image f i d geometry has there away in
    let es = filled f i d left in
    record-of g image key es valid.counted
    (record {
      few = omega (arith, apart.1);
      each = All-cons (IsEdit g) (edit (Pointer f i) (d + 1)) (counts_filled d left) (has, fresh-range g d geometry there)
          (counts_all (IsEdit g) d left (there, omega (arith, room, none))
          (λ from n e. let p = parts from n e in let range : logical g image (Count from) ≤ greatest_count g = logical_in_range g counter image (Count from) valid p.0.0 in (p.0.0, omega (arith, range, p.1))));
      apart = (counts-untouched (counts_filled d left) (Pointer f i) (are_counts d left) (λ k e. cc), apart.0);
    })
    (All-cons (λ (e : Edit). HoldsField g image key e.field) (edit (Pointer f i) (d + 1)) (counts_filled d left) is.pointer
    (counts_all (λ (e : Edit). HoldsField g image key e.field) d left is.block (λ from n e. (parts from n e).0)))
    (balanced g image key f i d left geometry there is.free is.leaves some)
    (All-cons (MayName g image es) (edit (Pointer f i) (d + 1)) (counts_filled d left) (may_name g image f i d left geometry there none)
    (counts_all (MayName g image es) d left (λ e given. absurd (given refl)) (λ from n e k given. absurd (given refl))))
    (All-cons (CountsSlot g image es) (edit (Pointer f i) (d + 1)) (counts_filled d left) (λ s k of names. absurd cc)
    (counts_all (CountsSlot g image es) d left (λ s k of names. absurd cc) (λ from n e s k of names. absurd cc)))

-- the data block was written before, and the pointer comes to name it
pub placed-fill : (g : Geometry) (counter : ℕ) (old new : Image) (key f i d : ℕ) (left : Left) (block : Block) → IsValid g counter old
    → IsFillable g old key f i d left → i + 1 < logical g old (Head f) → block_at g old (kinds.Number d) ≡ block.0
    → Changes g (filled f i d left) None old new → IsPlaced g (Write f i block) Done old new
placed-fill g counter old new key f i d left block valid is inside bytes step =
    let record' = record-fill g counter old key f i d left valid is in
    let to = named-unmarked (d + 1) d refl (fresh-unmarked g d valid.geometry.0 is.block.0) in
    placed-write g counter (filled f i d left) None old new f i block valid record'.edits.each step
    (replaces-pointer g counter old new f i (d + 1) (counts_filled d left) block valid (are_counts d left) is.pointer.0 inside step
    (content-named g new (d + 1) d to
    ∙ ap (λ (bs : List ℕ). let b : Block = record { 0 = bs } in b) (step.blocks d is.block.0 ∙ bytes)))
