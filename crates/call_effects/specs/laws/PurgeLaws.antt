-- The record of a purge is right, and all files stay by it.
use Rattle.std.proofs.Common.{◌≡◌, ◌≤◌, ◌+◌, ℕ, false, List, [], ◌∷◌, ◌++◌, map, None, refl, ap, ◌∙◌, subst, inl, inr, arith}
use Rattle.std.specs.Prelude.{All}
use Rattle.std.proofs.lemmas.Bool.{cases_Bool, cases_eq}
use Rattle.std.proofs.lemmas.List.{length-append, length-map}
use Rattle.std.proofs.lemmas.List.Elements.{All-cons, All-head, All-tail}
use Rattle.std.proofs.lemmas.List.Sums.{sum_by-cons}
use Rattle.vol_layout.specs.declared.geometry.Geometry.{Geometry}
use Rattle.vol_layout.specs.declared.field.Field.{Field}
use Rattle.vol_layout.specs.declared.field.Field.TheVariants.{Count, Pointer}
use Rattle.vol_layout.specs.declared.field.Edit.{Edit}
use Rattle.vol_layout.specs.Edits.{IsEdit, edited, touches}
use Rattle.vol_layout.specs.Fields.{greatest_count}
use Rattle.vol_layout.specs.laws.EditLaws.{other_field-is}
use Rattle.image_view.specs.Balances.{Balances, edit, share, share_of}
use Rattle.image_view.specs.Held.{HoldsField}
use Rattle.image_view.specs.Images.{Image}
use Rattle.image_view.specs.Numbers.{logical}
use Rattle.image_view.specs.Records.{IsRecord}
use Rattle.image_view.specs.Valid.{IsValid}
use Rattle.image_view.specs.laws.BalanceLaws.{AreCounts, HaveNoCount, balances-purge, share_none}
use Rattle.image_view.specs.laws.EditLaws.{edited_untouched}
use Rattle.image_view.specs.laws.FileLaws.{logical_in_range}
use Rattle.image_view.specs.laws.SumLaws.{sum_by-map}
use Rattle.call_effects.specs.Changes.{Changes}
use Rattle.call_effects.specs.Places.{KeepsFiles}
use Rattle.call_effects.specs.Purges.{IsLowered, IsPurgeable, IsRemain, counted, emptied, named_by, purged}
use Rattle.call_effects.specs.Shares.{CountsSlot, LeavesShown, MayName}
use Rattle.call_effects.specs.laws.CountLaws.{apart-append}
use Rattle.call_effects.specs.laws.EachEdit.{all-append, all-none, the-edit}
use Rattle.call_effects.specs.laws.PointerLaws.{hole-range, share-names}
use Rattle.call_effects.specs.laws.RecordLaws.{record-of}
use Rattle.call_effects.specs.laws.StayLaws.{stays-edited}

-- the pointers as fields
abbrev fields : ℕ → List ℕ → List Field
fields f indexes = map (λ i. Pointer f i) indexes

emptied_is : (f : ℕ) (indexes : List ℕ) → map (λ x. edit x 0) (fields f indexes) ≡ emptied f indexes
emptied_is f [] = refl
emptied_is f (i ∷ indexes) = ap (λ (es : List Edit). edit (Pointer f i) 0 ∷ es) (emptied_is f indexes)

no_count : (f : ℕ) (indexes : List ℕ) → HaveNoCount (emptied f indexes)
no_count f [] d = refl
no_count f (i ∷ indexes) d = rw (other_field-is (Pointer f i) (Count d) (λ e. cc)) (no_count f indexes d)

pub counted-counts : (counts : List (ℕ × ℕ)) → AreCounts (counted counts)
counted-counts [] = tt
counted-counts (p ∷ counts) = (tt, counted-counts counts)

-- what holds of each edit of a remain, and of each count
remains_all : (P : Edit → Type 0) (Q : ℕ → Type 0) (f : ℕ) (indexes : List ℕ) → ((i : ℕ) → Q i → P (edit (Pointer f i) 0)) → All Q indexes
    → All P (emptied f indexes)
remains_all P Q f [] give all = all-none P
remains_all P Q f (i ∷ indexes) give all =
    All-cons P (edit (Pointer f i) 0) (emptied f indexes) (give i (All-head Q i indexes all)) (remains_all P Q f indexes give (All-tail Q i indexes all))

pub counts-all : (P : Edit → Type 0) (Q : ℕ × ℕ → Type 0) (counts : List (ℕ × ℕ)) → ((p : ℕ × ℕ) → Q p → P (edit (Count p.0) p.1))
    → All Q counts → All P (counted counts)
counts-all P Q [] give all = all-none P
counts-all P Q (p ∷ counts) give all =
    All-cons P (edit (Count p.0) p.1) (counted counts) (give p (All-head Q p counts all)) (counts-all P Q counts give (All-tail Q p counts all))

-- a data block whose count is not edited is named by none of them
none_named : (g : Geometry) (image : Image) (key f : ℕ) (counts : List (ℕ × ℕ)) (indexes : List ℕ) (d : ℕ)
    → All (IsRemain g image key f counts) indexes → touches (counted counts) (Count d) ≡ false → named_by g image f indexes d ≡ 0
none_named g image key f counts [] d all kept = refl
none_named g image key f counts (i ∷ indexes) d all kept =
    let is = All-head (IsRemain g image key f counts) i indexes all in
    let rest = none_named g image key f counts indexes d (All-tail (IsRemain g image key f counts) i indexes all) kept in
    let sum = sum_by-cons (λ (i : ℕ). share (logical g image (Pointer f i)) d) i indexes in
    let here : share (logical g image (Pointer f i)) d ≡ 0 =
    elim (cases_eq (share (logical g image (Pointer f i)) d) 0) [
      | inl none ↦ none
      | inr some ↦ absurd (let touched = is.is_counted d (share-names (logical g image (Pointer f i)) d some) in cc)
    ] in
    omega (arith, rest, sum, here)

-- an edit of a count that is lowered as often as the remains name its data block
abbrev Lowers : Geometry → Image → ℕ → List ℕ → Edit → Type 0
Lowers g image f indexes e = (d : ℕ) → e.field ≡ Count d → e.number + named_by g image f indexes d ≡ logical g image (Count d)

-- each count falls by how often the remains name its data block
follows : (g : Geometry) (image : Image) (key f : ℕ) (indexes : List ℕ) (counts : List (ℕ × ℕ)) (d : ℕ)
    → IsPurgeable g image key f indexes counts
    → edited (counted counts) (Count d) (logical g image (Count d)) + named_by g image f indexes d ≡ logical g image (Count d)
follows g image key f indexes counts d is =
    elim (cases_Bool (touches (counted counts) (Count d))) [
      | inl touched ↦
          let each = counts-all (Lowers g image f indexes) (IsLowered g image key f indexes) counts
          (λ p low k same. let number : p.0 ≡ k = cc in subst (λ (n : ℕ). p.1 + named_by g image f indexes n ≡ logical g image (Count n)) number low.lowered) is.lowered in
          let the = the-edit (Lowers g image f indexes) (counted counts) (Count d) each touched in
          ap (λ (n : ℕ). n + named_by g image f indexes d) (the.gives (logical g image (Count d))) ∙ the.holds d the.of
      | inr kept ↦
          let none = none_named g image key f counts indexes d is.remains kept in
          let same = edited_untouched (counted counts) (Count d) (logical g image (Count d)) kept in
          omega (arith, none, same)
    ]

balanced : (g : Geometry) (image : Image) (key f : ℕ) (indexes : List ℕ) (counts : List (ℕ × ℕ)) → IsPurgeable g image key f indexes counts
    → Balances g (λ x. logical g image x) (purged f indexes counts)
balanced g image key f indexes counts is =
    subst (λ (es : List Edit). Balances g (λ x. logical g image x) (es ++ counted counts)) (emptied_is f indexes)
    (balances-purge g (λ x. logical g image x) (fields f indexes) (counted counts)
    (λ d. ap (λ (es : List Edit). touches es (Count d)) (emptied_is f indexes) ∙ no_count f indexes d) (counted-counts counts)
    (λ d has.
    let follow = follows g image key f indexes counts d is in
    let sum = sum_by-map (λ (x : Field). share_of x (logical g image x) d) (λ (i : ℕ). Pointer f i) indexes in
    omega (arith, follow, sum)))

pub record-purge : (g : Geometry) (counter : ℕ) (image : Image) (key f : ℕ) (indexes : List ℕ) (counts : List (ℕ × ℕ))
    → IsValid g counter image → IsPurgeable g image key f indexes counts → IsRecord g image key (purged f indexes counts)
record-purge g counter image key f indexes counts valid is =
    let es = purged f indexes counts in
    let first = emptied f indexes in
    let last = counted counts in
    let Holds = λ (e : Edit). HoldsField g image key e.field in
    let Remain = IsRemain g image key f counts in
    let Low = IsLowered g image key f indexes in
    let long = length-append first last in
    let first_long = length-map indexes (λ (i : ℕ). edit (Pointer f i) 0) in
    let last_long = length-map counts (λ (p : ℕ × ℕ). edit (Count p.0) p.1) in
    record-of g image key es valid.counted
    (record {
      few = omega (arith, long, first_long, last_long, is.few, is.as_many);
      each = all-append (IsEdit g) first last (remains_all (IsEdit g) Remain f indexes (λ i r. (r.held.0, hole-range g)) is.remains)
          (counts-all (IsEdit g) Low counts
          (λ p low. let range : logical g image (Count p.0) ≤ greatest_count g = logical_in_range g counter image (Count p.0) valid low.held.0 in (low.held.0, omega (arith, range, low.lowered))) is.lowered);
      apart = apart-append first last is.indexes_apart (no_count f indexes) (counted-counts counts) is.counts_apart;
    })
    (all-append Holds first last (remains_all Holds Remain f indexes (λ i r. r.held) is.remains) (counts-all Holds Low counts (λ p low. low.held) is.lowered))
    (balanced g image key f indexes counts is)
    (all-append (MayName g image es) first last (remains_all (MayName g image es) Remain f indexes (λ i r d some. absurd (some (share_none 0 d refl))) is.remains)
    (counts-all (MayName g image es) Low counts (λ p low d some. absurd (some refl)) is.lowered))
    (all-append (CountsSlot g image es) first last (remains_all (CountsSlot g image es) Remain f indexes (λ i r s d same names. absurd cc) is.remains)
    (counts-all (CountsSlot g image es) Low counts (λ p low s d same names. absurd cc) is.lowered))

-- no file shows its remains
pub stays-purge : (g : Geometry) (counter : ℕ) (old new : Image) (key f : ℕ) (indexes : List ℕ) (counts : List (ℕ × ℕ))
    → IsValid g counter old → IsPurgeable g old key f indexes counts → Changes g (purged f indexes counts) None old new → KeepsFiles old new
stays-purge g counter old new key f indexes counts valid is step =
    let Leaves = λ (e : Edit). LeavesShown g old e.field e.number in
    stays-edited g counter (purged f indexes counts) old new valid (record-purge g counter old key f indexes counts valid is).edits.each
    (all-append Leaves (emptied f indexes) (counted counts) (remains_all Leaves (IsRemain g old key f counts) f indexes (λ i r. inl r.past) is.remains)
    (counts-all Leaves (IsLowered g old key f indexes) counts (λ p low. tt) is.lowered)) step
