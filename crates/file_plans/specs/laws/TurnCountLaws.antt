-- What is counted of a plan's turns falls, or stays, where more is known.
use Rattle.std.proofs.Common.{arith, ◌≡◌, ◌<◌, ◌≤◌, ◌==◌, ◌&&◌, ◌+◌, ◌-◌, ◌*◌, ◌/◌, ℕ, zero, suc, Bool, true, false, List, [], ◌∷◌, inl, inr, length, None, Option, Some, refl, ap, sym, subst, ◌∙◌, nat_lt, cond}
use Rattle.std.specs.Prelude.{All, if◌then◌else◌, is_none, nat_le, slice_index_or}
use Rattle.std.specs.List.{count_by, range_with_len}
use Rattle.std.proofs.Math.Nat.{mul-le-mul_right}
use Rattle.std.proofs.lemmas.Bool.{and_parts, le-leb, leb-true, lt-ltb, ltb-true}
use Rattle.std.proofs.lemmas.List.Elements.{All-cons, All-head, All-tail}
use Rattle.std.proofs.lemmas.List.FromFn.{get_or-map-range_with_len, get_or-range_with_len, length-map-range_with_len, length-range_with_len}
use Rattle.std.proofs.lemmas.List.Sums.{sum_by-cons}
use Rattle.vol_base.specs.Packing.{Packing}
use Rattle.vol_base.specs.declared.plain.PlainCall.TheVariants as calls
use Rattle.vol_layout.specs.declared.field.Field.{Field}
use Rattle.vol_layout.specs.declared.field.Field.TheVariants.{Pointer}
use Rattle.vol_layout.specs.declared.geometry.Geometry.{Geometry}
use Rattle.vol_layout.specs.declared.kind.Resource.TheVariants.{File}
use Rattle.vol_layout.specs.declared.kind.Table.{Table}
use Rattle.vol_layout.specs.declared.kind.Table.TheVariants as tables
use Rattle.vol_layout.specs.Fields.{table_of}
use Rattle.vol_layout.specs.Ranges.{IsGeometry, limit, per_table}
use Rattle.call_effects.specs.laws.EachEdit.{all-none, all-one, all-weaker}
use Rattle.disk_locks.specs.Keys.{owner}
use Rattle.held_cache.specs.Kept.{IsFileTable}
use Rattle.file_plans.specs.Calls.{file_of}
use Rattle.file_plans.specs.Says.{Known}
use Rattle.file_plans.specs.Sights.{IsOfIndex, MayWant}
use Rattle.file_plans.specs.Turns.{all_tables, block_table, may_name, may_name_at, named_for, records_for, round_most, tables_at, tables_for, turns_behind, turns_seeing, unknown_for}
use Rattle.file_plans.specs.declared.call.FileCall.{FileCall}
use Rattle.file_plans.specs.declared.call.FileCall.TheVariants.{Close, Plain}
use Rattle.file_plans.specs.laws.SaysLaws.{pointer_table}

-- no more elements meet a test than another one, which each of them meets
module _ {X : Type 0} (p q : X → Bool) where
  one_fewer : (b d : Bool) (m n : ℕ) → (d ≡ true → b ≡ true) → m ≤ n → cond d 1 0 + m ≤ cond b 1 0 + n
  one_fewer true true m n is less = omega (arith, less)
  one_fewer true false m n is less = omega (arith, less)
  one_fewer false true m n is less = absurd (let e : false ≡ true = is refl in cc)
  one_fewer false false m n is less = omega (arith, less)

  pub count_fewer : (xs : List X) → All (λ x. q x ≡ true → p x ≡ true) xs → count_by q xs ≤ count_by p xs
  count_fewer [] each = omega arith
  count_fewer (x ∷ xs) each =
      let one = one_fewer (p x) (q x) (count_by q xs) (count_by p xs) (All-head (λ x. q x ≡ true → p x ≡ true) x xs each)
      (count_fewer xs (All-tail (λ x. q x ≡ true → p x ≡ true) x xs each)) in
      let now = sum_by-cons (λ x. cond (p x) 1 0) x xs in
      let later = sum_by-cons (λ x. cond (q x) 1 0) x xs in omega (arith, one, now, later)

  -- and fewer where one that met the other does not meet it
  pub count_less : (xs : List X) (k : ℕ) (e : X) → k < length xs → p (slice_index_or xs k e) ≡ true → q (slice_index_or xs k e) ≡ false
      → All (λ x. q x ≡ true → p x ≡ true) xs → count_by q xs < count_by p xs
  count_less [] k e inside was now each = absurd (omega (arith, inside))
  count_less (x ∷ xs) zero e inside was now each =
      let rest = count_fewer xs (All-tail (λ x. q x ≡ true → p x ≡ true) x xs each) in
      let before = sum_by-cons (λ x. cond (p x) 1 0) x xs in
      let later = sum_by-cons (λ x. cond (q x) 1 0) x xs in
      let one = ap {B = ℕ} (λ b. cond b 1 0) was in
      let none = ap {B = ℕ} (λ b. cond b 1 0) now in omega (arith, rest, before, later, one, none)
  count_less (x ∷ xs) (suc k) e inside was now each =
      let rest = count_less xs k e (omega (arith, inside)) was now (All-tail (λ x. q x ≡ true → p x ≡ true) x xs each) in
      let before = sum_by-cons (λ x. cond (p x) 1 0) x xs in
      let later = sum_by-cons (λ x. cond (q x) 1 0) x xs in
      let one = one_fewer (p x) (q x) 0 0 (All-head (λ x. q x ≡ true → p x ≡ true) x xs each) (omega arith) in
      omega (arith, rest, before, later, one)

-- the tables that a call may read are of its file
block_is : (g : Geometry) (f t : ℕ) → f < g.files → t < g.tables → IsFileTable g (block_table f t)
block_is g f zero file below = file
block_is g f (suc t) file below = (file, omega arith, below)

all_files : (g : Geometry) (f : ℕ) → f < g.files → All (IsFileTable g) (all_tables g f)
all_files g f file k e inside =
    let below : k < g.tables = let long = length-map-range_with_len (block_table f) 0 g.tables in omega (arith, inside, long) in
    subst (IsFileTable g) (sym (get_or-map-range_with_len (block_table f) 0 g.tables k k e below (omega arith))) (block_is g f k file below)

at_files : (g : Geometry) (f i : ℕ) → f < g.files → All (IsFileTable g) (tables_at g f i)
at_files g f i file =
    All-cons (IsFileTable g) (tables.File f) _ file (pick (nat_le 1 (i / per_table) && nat_lt (i / per_table) g.tables) refl)
  where
    pick : (b : Bool) → (nat_le 1 (i / per_table) && nat_lt (i / per_table) g.tables) ≡ b
        → All (IsFileTable g) (if b then tables.More f (i / per_table) ∷ [] else [])
    pick true more =
        let both = and_parts (nat_le 1 (i / per_table)) (nat_lt (i / per_table) g.tables) more in
        all-one (IsFileTable g) (tables.More f (i / per_table))
        (file, leb-true 1 (i / per_table) both.0, ltb-true (i / per_table) g.tables both.1)
    pick false none = all-none (IsFileTable g)

for_files : (g : Geometry) (call : FileCall) → file_of call < g.files → All (IsFileTable g) (tables_for g call)
for_files g (Plain (calls.Create f)) file = all-one (IsFileTable g) (tables.File f) file
for_files g (Plain (calls.Remove f)) file = all-one (IsFileTable g) (tables.File f) file
for_files g (Plain (calls.Size f k)) file = all_files g f file
for_files g (Plain (calls.Write f i block)) file = at_files g f i file
for_files g (Plain (calls.Read f i)) file = at_files g f i file
for_files g (Plain (calls.Punch f i)) file = at_files g f i file
for_files g (Close f) file = all_files g f file

-- a table that a call may want is one of them
abbrev IsAmong : List Table → Table → Type 0
IsAmong ts t = (k : ℕ) × (k < length ts) × ((e : Table) → slice_index_or ts k e ≡ t)

block_more : (f t : ℕ) → 1 ≤ t → block_table f t ≡ tables.More f t
block_more f zero some = absurd (omega (arith, some))
block_more f (suc t) some = refl

among_all : (g : Geometry) (f k : ℕ) (t : Table) → k < g.tables → block_table f k ≡ t → IsAmong (all_tables g f) t
among_all g f k t below is = (
  k,
  let long = length-map-range_with_len (block_table f) 0 g.tables in omega (arith, below, long),
  λ e. get_or-map-range_with_len (block_table f) 0 g.tables k k e below (omega arith) ∙ is,
)

file_among : (g : Geometry) (f : ℕ) (t : Table) → 1 ≤ g.tables → IsFileTable g t → owner t ≡ File f → IsAmong (all_tables g f) t
file_among g f (tables.File e) some is own = among_all g f 0 (tables.File e) (omega (arith, some)) (ap tables.File cc)
file_among g f (tables.More e u) some is own =
    among_all g f u (tables.More e u) is.2 (block_more f u is.1 ∙ ap (λ n. tables.More n u) cc)
file_among g f (tables.Group r) some is own = absurd is
file_among g f (tables.Part p) some is own = absurd is

first_among : (g : Geometry) (f i : ℕ) → IsAmong (tables_at g f i) (tables.File f)
first_among g f i = (0, omega arith, λ e. refl)

more_among : (g : Geometry) (f i : ℕ) → 1 ≤ i / per_table → i / per_table < g.tables
    → IsAmong (tables_at g f i) (tables.More f (i / per_table))
more_among g f i some below =
    pick _ (ap (λ b. b && nat_lt (i / per_table) g.tables) (le-leb 1 (i / per_table) some) ∙ lt-ltb (i / per_table) g.tables below)
  where
    pick : (b : Bool) → b ≡ true
        → IsAmong (tables.File f ∷ (if b then tables.More f (i / per_table) ∷ [] else [])) (tables.More f (i / per_table))
    pick true is = (1, omega arith, λ e. refl)
    pick false is = absurd cc

index_among : (g : Geometry) (f i : ℕ) (t : Table) → IsFileTable g t → IsOfIndex f i t → IsAmong (tables_at g f i) t
index_among g f i t is (inl first) = subst (IsAmong (tables_at g f i)) (sym first) (first_among g f i)
index_among g f i t is (inr pointer) = pick (i / per_table == 0) pointer
  where
    pick : (b : Bool) → t ≡ (if b then tables.File f else tables.More f (i / per_table)) → IsAmong (tables_at g f i) t
    pick true same = subst (IsAmong (tables_at g f i)) (sym same) (first_among g f i)
    pick false same =
        let there = subst (IsFileTable g) same is in
        subst (IsAmong (tables_at g f i)) (sym same) (more_among g f i there.1 there.2)

wanted_among : (g : Geometry) (call : FileCall) (t : Table) → 1 ≤ g.tables → IsFileTable g t → owner t ≡ File (file_of call)
    → MayWant call t → IsAmong (tables_for g call) t
wanted_among g (Plain (calls.Create f)) t some is own may =
    subst (IsAmong (tables.File f ∷ [])) (sym may) (0, omega arith, λ e. refl)
wanted_among g (Plain (calls.Remove f)) t some is own may =
    subst (IsAmong (tables.File f ∷ [])) (sym may) (0, omega arith, λ e. refl)
wanted_among g (Plain (calls.Size f k)) t some is own may = file_among g f t some is own
wanted_among g (Plain (calls.Write f i block)) t some is own may = index_among g f i t is may
wanted_among g (Plain (calls.Read f i)) t some is own may = index_among g f i t is may
wanted_among g (Plain (calls.Punch f i)) t some is own may = index_among g f i t is may
wanted_among g (Close f) t some is own may = file_among g f t some is own

-- what is known of the volume's file tables is known still
abbrev pub IsKnownStill : Geometry → Known → Known → Type 0
IsKnownStill g known later = (t : Table) (p : Packing) → IsFileTable g t → known t ≡ Some p → later t ≡ Some p

none_still : (now later : Option Packing) → ((p : Packing) → now ≡ Some p → later ≡ Some p) → is_none later ≡ true → is_none now ≡ true
none_still None later still none = refl
none_still (Some p) later still none = absurd (let both : false ≡ true = sym (ap is_none (still p refl)) ∙ none in cc)

name_still : (x : Field) (now later : Option Packing) → ((p : Packing) → now ≡ Some p → later ≡ Some p) → may_name later x ≡ true
    → may_name now x ≡ true
name_still x None later still may = refl
name_still x (Some p) later still may = ap (λ o. may_name o x) (sym (still p refl)) ∙ may

-- indexes below a bound
pub range_below : (n : ℕ) → All (λ i. i < n) (range_with_len 0 n)
range_below n k e inside =
    let long = length-range_with_len 0 n in
    let is = get_or-range_with_len 0 n k e (omega (arith, inside, long)) in omega (arith, inside, long, is)

-- no more pointers may name a block where each of them might before
pub named_fewer : (g : Geometry) (known later : Known) (f : ℕ)
    → ((i : ℕ) → i < limit g → may_name_at later f i ≡ true → may_name_at known f i ≡ true)
    → named_for g later f ≤ named_for g known f
named_fewer g known later f fewer =
    count_fewer (may_name_at known f) (may_name_at later f)
    (range_with_len 0 (limit g))
    (all-weaker (λ i. i < limit g) (λ i. may_name_at later f i ≡ true → may_name_at known f i ≡ true)
    (range_with_len 0 (limit g)) fewer (range_below (limit g)))

pub named_less : (g : Geometry) (known later : Known) (f i : ℕ) → i < limit g
    → may_name_at known f i ≡ true → may_name_at later f i ≡ false
    → ((i : ℕ) → i < limit g → may_name_at later f i ≡ true → may_name_at known f i ≡ true)
    → named_for g later f < named_for g known f
named_less g known later f i below was now fewer =
    let at : slice_index_or (range_with_len 0 (limit g)) i 0 ≡ i = get_or-range_with_len 0 (limit g) i 0 below ∙ omega arith in
    count_less (may_name_at known f) (may_name_at later f)
    (range_with_len 0 (limit g)) i 0 (let long = length-range_with_len 0 (limit g) in omega (arith, below, long))
    (subst (λ j. may_name_at known f j ≡ true) (sym at) was)
    (subst (λ j. may_name_at later f j ≡ false) (sym at) now)
    (all-weaker (λ i. i < limit g) (λ i. may_name_at later f i ≡ true → may_name_at known f i ≡ true)
    (range_with_len 0 (limit g)) fewer (range_below (limit g)))

-- so no more records are left
pub records_fewer : (g : Geometry) (known later : Known) (call : FileCall)
    → named_for g later (file_of call) ≤ named_for g known (file_of call) → records_for g later call ≤ records_for g known call
records_fewer g known later (Plain (calls.Create f)) fewer = omega arith
records_fewer g known later (Plain (calls.Remove f)) fewer = omega arith
records_fewer g known later (Plain (calls.Size f k)) fewer = omega (arith, fewer)
records_fewer g known later (Plain (calls.Write f i block)) fewer = omega arith
records_fewer g known later (Plain (calls.Read f i)) fewer = omega arith
records_fewer g known later (Plain (calls.Punch f i)) fewer = omega arith
records_fewer g known later (Close f) fewer = fewer

-- no more tables are unknown where what is known is known still
pub unknown_fewer : (g : Geometry) (known later : Known) (call : FileCall) → file_of call < g.files
    → ((t : Table) → IsFileTable g t → is_none (later t) ≡ true → is_none (known t) ≡ true)
    → unknown_for g later call ≤ unknown_for g known call
unknown_fewer g known later call file fewer =
    count_fewer (λ t. is_none (known t)) (λ t. is_none (later t)) (tables_for g call)
    (all-weaker (IsFileTable g) (λ t. is_none (later t) ≡ true → is_none (known t) ≡ true) (tables_for g call) fewer (for_files g call file))

pub sum_fewer : (u v r s m : ℕ) → u ≤ v → r ≤ s → u + 1 + r * m ≤ v + 1 + s * m
sum_fewer u v r s m unknown records = let times = mul-le-mul_right m records in omega (arith, unknown, times)

module _ (g : Geometry) (known later : Known) (call : FileCall) (range : IsGeometry g) (file : file_of call < g.files)
    (still : IsKnownStill g known later) where
  still_named : named_for g later (file_of call) ≤ named_for g known (file_of call)
  still_named = named_fewer g known later (file_of call) (λ i below.
      let x = Pointer (file_of call) i in
      name_still x (known (table_of x)) (later (table_of x)) (λ p. still (table_of x) p (pointer_table g (file_of call) i range (file, below))))

  none_more : (t : Table) → IsFileTable g t → is_none (later t) ≡ true → is_none (known t) ≡ true
  none_more t is = none_still (known t) (later t) (λ p. still t p is)

  -- no more turns are left
  pub seeing_still : turns_seeing g later call ≤ turns_seeing g known call
  seeing_still =
      sum_fewer (unknown_for g later call) (unknown_for g known call) (records_for g later call) (records_for g known call) (round_most g)
      (unknown_fewer g known later call file none_more) (records_fewer g known later call still_named)

  pub behind_still : turns_behind g later call ≤ turns_behind g known call
  behind_still =
      sum_fewer (unknown_for g later call) (unknown_for g known call) (records_for g later call - 1) (records_for g known call - 1)
      (round_most g) (unknown_fewer g known later call file none_more)
      (let fewer = records_fewer g known later call still_named in omega (arith, fewer))

  -- and fewer where one more table is known that the call may want
  pub seeing_read : (t : Table) (p : Packing) → IsFileTable g t → owner t ≡ File (file_of call) → MayWant call t → known t ≡ None
      → later t ≡ Some p → turns_seeing g later call < turns_seeing g known call
  seeing_read t p is own may none some =
      let (k, inside, at) = wanted_among g call t range.tables.0 is own may in
      let less = count_less (λ t. is_none (known t)) (λ t. is_none (later t)) (tables_for g call) k t inside
      (ap (λ u. is_none (known u)) (at t) ∙ ap is_none none) (ap (λ u. is_none (later u)) (at t) ∙ ap is_none some)
      (all-weaker (IsFileTable g) (λ t. is_none (later t) ≡ true → is_none (known t) ≡ true) (tables_for g call) none_more
      (for_files g call file)) in
      let most = sum_fewer (unknown_for g later call + 1) (unknown_for g known call) (records_for g later call) (records_for g known call)
      (round_most g) (omega (arith, less)) (records_fewer g known later call still_named) in omega (arith, most)
