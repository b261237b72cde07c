-- How often a data number is mapped, as a sum over pointers and slots.
use Rattle.std.proofs.Common.{◌≡◌, ◌≢◌, ◌<◌, ◌≤◌, ◌+◌, ◌-◌, ◌*◌, ◌%◌, ◌^◌, ◌==◌, ℕ, zero, suc, false, cond, List, [], ◌∷◌, map, length, sum_by, Option, Some, None, if◌then◌else◌, refl, ap, ◌∙◌, inl, inr, arith}
use Rattle.std.specs.Prelude.{All, option_map}
use Rattle.std.proofs.Math.Nat.{mod-eq_of_lt}
use Rattle.std.proofs.lemmas.List.Elements.{All-head, All-tail}
use Rattle.std.specs.List.{filter_map, flat_map, range_with_len}
use Rattle.std.specs.Option.{option_map_or}
use Rattle.std.proofs.lemmas.Bool.{cases_Bool, cases_eq, eq-eqb, ne_eqb}
use Rattle.std.proofs.lemmas.List.Sums.{sum_by-cons, sum_by-append}
use Rattle.vol_layout.specs.declared.geometry.Geometry.{Geometry}
use Rattle.vol_layout.specs.declared.field.Field.{Field}
use Rattle.vol_layout.specs.declared.field.Field.TheVariants.{Head, Pointer, Slot, Count}
use Rattle.vol_layout.specs.declared.field.Edit.{Edit}
use Rattle.vol_layout.specs.Edits.{AreEdits, IsEdit, edited, same_field, touches}
use Rattle.vol_layout.specs.Fields.{HasField}
use Rattle.vol_layout.specs.Ranges.{arena_slots, limit}
use Rattle.image_view.specs.Images.{Image}
use Rattle.image_view.specs.Numbers.{logical}
use Rattle.image_view.specs.Pointers.{IsUnmarked, named}
use Rattle.image_view.specs.Mappings.{Mapping, mapping_of, mappings, pointers_of, reference_fields, uses}
use Rattle.image_view.specs.Balances.{Balances, gained, lost, share, share_of}
use Rattle.image_view.specs.Counted.{IsCounted}
use Rattle.image_view.specs.Records.{IsEdited, KeepsMarks}
use Rattle.vol_layout.specs.laws.EditLaws.{other_field-is, same_field-refl}
use Rattle.image_view.specs.laws.EditLaws.{edited_untouched}
use Rattle.vol_base.specs.laws.RangeLaws.{sum_by_range_same}
use Rattle.image_view.specs.laws.SumLaws.{given_to, length-sum_by, sum_by-filter_map, sum_by-flat_map, sum_by-map, sum_by-range, sum_by_same, sum_edited, taken_from, times}

-- the mapping of a pointer or slot, where it names a data number
abbrev mapping : Field → Option ℕ → Option Mapping
mapping x o = option_map (λ d. record { by = x; number = d }) o

use_of : (x : Field) (d : ℕ) (o : Option ℕ)
    → ◌≡◌ {A = ℕ} (option_map_or (λ (m : Mapping). cond (m.number == d) 1 0) (mapping x o) 0)
    (option_map_or (λ e. if e == d then 1 else 0) o 0)
use_of x d None = refl
use_of x d (Some e) = refl

-- the uses of a data number are the shares of all pointers and slots
pub uses-sum_by : (g : Geometry) (image : Image) (d : ℕ) → uses g image d ≡ sum_by (λ x. share (logical g image x) d) (reference_fields g)
unfolding uses mappings share
uses-sum_by g image d =
    sum_by-filter_map (λ (m : Mapping). cond (m.number == d) 1 0) (mapping_of g image) (reference_fields g)
    ∙ sum_by_same (λ x. option_map_or (λ (m : Mapping). cond (m.number == d) 1 0) (mapping_of g image x) 0) (λ x. option_map_or (λ e. if e == d then 1 else 0) (named (logical g image x)) 0) (reference_fields g)
    (λ x. use_of x d (named (logical g image x)))

-- 1 where a number names a data number, and else 0
unfoldable pub names_one : ℕ → ℕ
names_one n = option_map_or (λ d. 1) (named n) 0

pub names_none : (n : ℕ) → n % 2 ^ 31 ≡ 0 → names_one n ≡ 0
unfolding names_one
names_none n h = rw h refl

pub names_some : (n : ℕ) → n % 2 ^ 31 ≢ 0 → names_one n ≡ 1
unfolding names_one
names_some n h = rw (ne_eqb (n % 2 ^ 31) 0 h) refl

mapping_count : (x : Field) (o : Option ℕ)
    → ◌≡◌ {A = ℕ} (option_map_or (λ (m : Mapping). 1) (mapping x o) 0) (option_map_or (λ (e : ℕ). 1) o 0)
mapping_count x None = refl
mapping_count x (Some e) = refl

-- the mappings are as many as the pointers and slots that name a data number
pub length-mappings : (g : Geometry) (image : Image)
    → length (mappings g image) ≡ sum_by (λ x. names_one (logical g image x)) (reference_fields g)
unfolding mappings names_one
length-mappings g image =
    length-sum_by (filter_map (mapping_of g image) (reference_fields g))
    ∙ sum_by-filter_map (λ (m : Mapping). 1) (mapping_of g image) (reference_fields g)
    ∙ sum_by_same (λ x. option_map_or (λ (m : Mapping). 1) (mapping_of g image x) 0) (λ x. option_map_or (λ (e : ℕ). 1) (named (logical g image x)) 0) (reference_fields g)
    (λ x. mapping_count x (named (logical g image x)))

-- a sum over all pointers and slots, file by file
pub sum_by-reference_fields : (g : Geometry) (w : Field → ℕ)
    → sum_by w (reference_fields g)
    ≡ sum_by (λ f. sum_by (λ i. w (Pointer f i)) (range_with_len 0 (limit g))) (range_with_len 0 g.files)
    + sum_by (λ s. w (Slot s)) (range_with_len 0 (arena_slots g))
unfolding reference_fields
sum_by-reference_fields g w =
    sum_by-append w (flat_map (λ f. pointers_of g f) (range_with_len 0 g.files)) (map (λ s. Slot s) (range_with_len 0 (arena_slots g)))
    ∙ rw (sum_by-flat_map w (λ f. pointers_of g f) (range_with_len 0 g.files), sum_by-map w (λ s. Slot s) (range_with_len 0 (arena_slots g)))
    (ap (λ n. n + sum_by (λ s. w (Slot s)) (range_with_len 0 (arena_slots g)))
    (sum_by_same (λ f. sum_by w (pointers_of g f)) (λ f. sum_by (λ i. w (Pointer f i)) (range_with_len 0 (limit g))) (range_with_len 0 g.files)
    (λ f. sum_by-map w (λ i. Pointer f i) (range_with_len 0 (limit g)))))

-- sums over all pointers and slots of terms that are equal for each of them
pub sum_by_references_same : (g : Geometry) (w w' : Field → ℕ) → ((x : Field) → HasField g x → w x ≡ w' x)
    → sum_by w (reference_fields g) ≡ sum_by w' (reference_fields g)
sum_by_references_same g w w' same =
    let files = sum_by_range_same (λ f. sum_by (λ i. w (Pointer f i)) (range_with_len 0 (limit g))) (λ f. sum_by (λ i. w' (Pointer f i)) (range_with_len 0 (limit g))) 0 g.files g.files (omega arith)
    (λ f hf. sum_by_range_same (λ i. w (Pointer f i)) (λ i. w' (Pointer f i)) 0 (limit g) (limit g) (omega arith) (λ i hi. same (Pointer f i) (hf, hi))) in
    let slots = sum_by_range_same (λ s. w (Slot s)) (λ s. w' (Slot s)) 0 (arena_slots g) (arena_slots g) (omega arith) (λ s hs. same (Slot s) hs) in
    rw (sum_by-reference_fields g w, sum_by-reference_fields g w', files, slots) refl

-- a sum of terms that are all 0
sum_by_zero : (w : ℕ → ℕ) (xs : List ℕ) → ((k : ℕ) → w k ≡ 0) → sum_by w xs ≡ 0
sum_by_zero w [] none = refl
sum_by_zero w (x ∷ xs) none = rw (sum_by-cons w x xs, none x, sum_by_zero w xs none) refl

-- 1 where a field stands, and else 0
abbrev stands : Field → Field → ℕ
stands x y = cond (same_field y x) 1 0

apart_none : (x y : Field) → y ≢ x → stands x y ≡ 0
apart_none x y ne = ap (λ b. cond b 1 0) (other_field-is y x ne)

here_once : (x : Field) → stands x x ≡ 1
here_once x = ap (λ b. cond b 1 0) (same_field-refl x)

times_split : (g : Geometry) (x : Field)
    → times (reference_fields g) x
    ≡ sum_by (λ f. sum_by (λ i. stands x (Pointer f i)) (range_with_len 0 (limit g))) (range_with_len 0 g.files)
    + sum_by (λ s. stands x (Slot s)) (range_with_len 0 (arena_slots g))
times_split g x = sum_by-reference_fields g (stands x)

no_pointer : (g : Geometry) (x : Field) → ((f i : ℕ) → Pointer f i ≢ x)
    → sum_by (λ f. sum_by (λ i. stands x (Pointer f i)) (range_with_len 0 (limit g))) (range_with_len 0 g.files) ≡ 0
no_pointer g x ne =
    sum_by_zero (λ f. sum_by (λ i. stands x (Pointer f i)) (range_with_len 0 (limit g))) (range_with_len 0 g.files)
    (λ f. sum_by_zero (λ i. stands x (Pointer f i)) (range_with_len 0 (limit g)) (λ i. apart_none x (Pointer f i) (ne f i)))

no_slot : (g : Geometry) (x : Field) → ((s : ℕ) → Slot s ≢ x) → sum_by (λ s. stands x (Slot s)) (range_with_len 0 (arena_slots g)) ≡ 0
no_slot g x ne = sum_by_zero (λ s. stands x (Slot s)) (range_with_len 0 (arena_slots g)) (λ s. apart_none x (Slot s) (ne s))

-- each pointer and slot of the volume stands once among them, and no head and no count stands there
pub times-reference : (g : Geometry) (x : Field) → HasField g x → (n d : ℕ) → times (reference_fields g) x * share n d ≡ share_of x n d
times-reference g (Head f) has n d =
    rw (times_split g (Head f), no_pointer g (Head f) (λ f' i e. cc), no_slot g (Head f) (λ s e. cc)) (omega arith)
times-reference g (Count c) has n d =
    rw (times_split g (Count c), no_pointer g (Count c) (λ f' i e. cc), no_slot g (Count c) (λ s e. cc)) (omega arith)
times-reference g (Slot s) has n d =
    let one = sum_by-range (λ t. stands (Slot s) (Slot t)) 0 (arena_slots g) s (λ t ne. apart_none (Slot s) (Slot t) (λ e. ne cc)) (omega arith) (omega (arith, has)) in
    rw (times_split g (Slot s), no_pointer g (Slot s) (λ f' i e. cc), one, here_once (Slot s)) (omega arith)
times-reference g (Pointer f i) has n d =
    let inner = sum_by-range (λ j. stands (Pointer f i) (Pointer f j)) 0 (limit g) i (λ j ne. apart_none (Pointer f i) (Pointer f j) (λ e. ne cc)) (omega arith) (omega (arith, has.1)) in
    let outer = sum_by-range (λ f'. sum_by (λ j. stands (Pointer f i) (Pointer f' j)) (range_with_len 0 (limit g))) 0 g.files f
    (λ f' ne. sum_by_zero (λ j. stands (Pointer f i) (Pointer f' j)) (range_with_len 0 (limit g)) (λ j. apart_none (Pointer f i) (Pointer f' j) (λ e. ne cc)))
    (omega arith) (omega (arith, has.0)) in
    rw (times_split g (Pointer f i), outer, inner, here_once (Pointer f i), no_slot g (Pointer f i) (λ s e. cc)) (omega arith)

-- the edits are of fields of the volume
abbrev pub AreOf : Geometry → List Edit → Type 0
AreOf g [] = Unit {0}
AreOf g (e ∷ es) = HasField g e.field × AreOf g es

pub lost-taken : (g : Geometry) (numbers : Field → ℕ) (d : ℕ) (es : List Edit) → AreOf g es
    → taken_from (λ x n. share n d) numbers (reference_fields g) es ≡ lost numbers es d
lost-taken g numbers d [] of = refl
lost-taken g numbers d (e ∷ es) of =
    rw (sum_by-cons (λ e. times (reference_fields g) e.field * share (numbers e.field) d) e es, sum_by-cons (λ e. share_of e.field (numbers e.field) d) e es, times-reference g e.field of.0 (numbers e.field) d, lost-taken g numbers d es of.1) refl

pub gained-given : (g : Geometry) (d : ℕ) (es : List Edit) → AreOf g es → given_to (λ x n. share n d) (reference_fields g) es ≡ gained es d
gained-given g d [] of = refl
gained-given g d (e ∷ es) of =
    rw (sum_by-cons (λ e. times (reference_fields g) e.field * share e.number d) e es, sum_by-cons (λ e. share_of e.field e.number d) e es, times-reference g e.field of.0 e.number d, gained-given g d es of.1) refl

pub fields-of : (g : Geometry) (es : List Edit) → All (IsEdit g) es → AreOf g es
fields-of g [] each = tt
fields-of g (e ∷ es) each = ((All-head (IsEdit g) e es each).0, fields-of g es (All-tail (IsEdit g) e es each))

-- the uses after edits, with those that they take, are the uses before, with those that they give
pub uses-edited : (g : Geometry) (old new : Image) (es : List Edit) (d : ℕ) → AreEdits g es → IsEdited g old new es
    → uses g new d + lost (λ x. logical g old x) es d ≡ uses g old d + gained es d
uses-edited g old new es d edits after =
    let of = fields-of g es edits.each in
    let sum = sum_edited (λ x n. share n d) (λ x. logical g old x) (reference_fields g) es edits.apart in
    rw (
      uses-sum_by g new d,
      uses-sum_by g old d,
      sum_by_references_same g (λ x. share (logical g new x) d) (λ x. share (edited es x (logical g old x)) d) (λ x has. ap (λ n. share n d) (after x has)),
      ← lost-taken g (λ x. logical g old x) d es of,
      ← gained-given g d es of,
    ) sum

-- edits that balance keep each count equal to its uses
pub counts-edited : (g : Geometry) (old new : Image) (es : List Edit) → AreEdits g es → IsEdited g old new es
    → Balances g (λ x. logical g old x) es
    → ((d : ℕ) → HasField g (Count d) → logical g old (Count d) ≡ uses g old d)
    → (d : ℕ) → HasField g (Count d) → logical g new (Count d) ≡ uses g new d
counts-edited g old new es edits after balances counts d has =
    let sum = uses-edited g old new es d edits after in
    let balance = balances d has in
    let was = counts d has in
    let is = after (Count d) has in
    omega arith

-- a term of a sum over a range is within the sum
term-le-range : (w : ℕ → ℕ) (a n k : ℕ) → a ≤ k → k < a + n → w k ≤ sum_by w (range_with_len a n)
term-le-range w a zero k le lt = absurd (omega arith)
term-le-range w a (suc n) k le lt =
    elim (cases_eq a k) [
      | inl here ↦ rw (sum_by-cons w a (range_with_len (a + 1) n), here) (omega arith)
      | inr other ↦ let more = term-le-range w (a + 1) n k (omega arith) (omega arith) in rw (sum_by-cons w a (range_with_len (a + 1) n)) (omega (arith, more))
    ]

-- what a pointer or slot names is used
pub share-le-uses : (g : Geometry) (image : Image) (x : Field) (d : ℕ) → HasField g x → share_of x (logical g image x) d ≤ uses g image d
share-le-uses g image (Head f) d has = omega arith
share-le-uses g image (Count c) d has = omega arith
share-le-uses g image (Slot s) d has =
    let one = term-le-range (λ s. share (logical g image (Slot s)) d) 0 (arena_slots g) s (omega arith) (omega (arith, has)) in
    rw (uses-sum_by g image d, sum_by-reference_fields g (λ x. share (logical g image x) d)) (omega (arith, one))
share-le-uses g image (Pointer f i) d has =
    let inner = term-le-range (λ i. share (logical g image (Pointer f i)) d) 0 (limit g) i (omega arith) (omega (arith, has.1)) in
    let outer = term-le-range (λ f. sum_by (λ i. share (logical g image (Pointer f i)) d) (range_with_len 0 (limit g))) 0 g.files f (omega arith) (omega (arith, has.0)) in
    rw (uses-sum_by g image d, sum_by-reference_fields g (λ x. share (logical g image x) d)) (omega (arith, inner, outer))

-- a pointer without the mark names its number less 1
pub share_unmarked : (n : ℕ) → IsUnmarked n → share n (n - 1) ≡ 1
unfolding share
share_unmarked n h =
    let small = mod-eq_of_lt h.1 in
    let some : (n == 0) ≡ false = ne_eqb n 0 (λ e. absurd (omega (arith, h.0))) in
    rw (small, some, eq-eqb (n - 1) (n - 1) refl) refl

-- edits that balance and keep marks right keep an image counted
pub counted-edited : (g : Geometry) (old new : Image) (es : List Edit) → AreEdits g es → IsEdited g old new es
    → Balances g (λ x. logical g old x) es → KeepsMarks g old es
    → IsCounted g old → IsCounted g new
counted-edited g old new es edits after balances marks was = record {
  counts = counts-edited g old new es edits after balances was.counts;
  unmarked = λ f i has un.
      let n = logical g new (Pointer f i) in
      let is : n ≡ edited es (Pointer f i) (logical g old (Pointer f i)) = after (Pointer f i) has in
      let sum = uses-edited g old new es (n - 1) edits after in
      elim (cases_Bool (touches es (Pointer f i))) [
        | inl touched ↦ let mark = marks.edits f i n has touched is un in omega arith
        | inr kept ↦
            let same : n ≡ logical g old (Pointer f i) = is ∙ edited_untouched es (Pointer f i) (logical g old (Pointer f i)) kept in
            let none : gained es (n - 1) ≡ 0 = rw same (marks.others f i has kept (rw same at un)) in
            let one : uses g old (n - 1) ≡ 1 = rw same (was.unmarked f i has (rw same at un)) in
            let used = share-le-uses g new (Pointer f i) (n - 1) has in
            let here = share_unmarked n un in
            omega arith
      ];
}
