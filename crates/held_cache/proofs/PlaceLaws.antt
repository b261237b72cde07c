-- Places of different hosts or tables are different, so a change of one place changes what is kept there alone.
use Rattle.std.proofs.Common.{◌≡◌, ◌<◌, ◌≤◌, ◌+◌, ◌*◌, ◌/◌, ◌%◌, ◌⊎◌, inl, inr, ℕ, List, Option, None, refl, sym, ap, ◌∙◌, arith, length, get_or, set, mul-le-mul_right, subst}
use Rattle.std.proofs.lemmas.Bool.{cases_lt}
use Rattle.std.proofs.lemmas.List.{get_or-set_other, get_or-set_same}
use Rattle.std.proofs.lemmas.Nat.{div-mul-add, mod-mul-add, mul-add-lt}
use Rattle.vol_base.specs.Packing.{Packing}
use Rattle.vol_layout.specs.Ranges.{HasTable, IsGeometry}
use Rattle.vol_layout.specs.Sizes.{file_tables}
use Rattle.vol_layout.specs.declared.geometry.Geometry.{Geometry}
use Rattle.vol_layout.specs.declared.kind.Table.{Table}
use Rattle.vol_layout.specs.declared.kind.Table.TheVariants.{File, Group, Part, More}
use Rattle.held_cache.specs.Kept.{Cache, CanKeep, ChangesOnly, ForgetsHost, IsFileTable, kept_at, number_of, place_of, places_of}
use Rattle.held_cache.specs.Stored.{ClearsRange}

-- a row and a column are determined by the place in the grid
grid-same : (a b width i k : ℕ) → i < width → k < width → a * width + i ≡ b * width + k → (a ≡ b) × (i ≡ k)
grid-same a b width i k i_in k_in e = (
  sym (div-mul-add a width i i_in) ∙ ap (λ (n : ℕ). n / width) e ∙ div-mul-add b width k k_in,
  sym (mod-mul-add a width i i_in) ∙ ap (λ (n : ℕ). n % width) e ∙ mod-mul-add b width k k_in,
)

pub number-within : (g : Geometry) → IsGeometry g → (t : Table) → IsFileTable g t → number_of g t < file_tables g
number-within g is (File file) has = let some = is.tables in omega (arith, mul-add-lt file g.tables 0 g.files has (omega arith))
number-within g is (More file block) has = omega (arith, mul-add-lt file g.tables block g.files has.0 has.2)
number-within g is (Group group) has = absurd has
number-within g is (Part part) has = absurd has

pub place-within : (g : Geometry) → IsGeometry g → (host : ℕ) (t : Table) → CanKeep g host t → place_of g host t < places_of g
place-within g is host t can =
    omega (arith, mul-add-lt host (file_tables g) (number_of g t) g.hosts can.0 (number-within g is t can.1))

number-same : (g : Geometry) → IsGeometry g → (t s : Table) → IsFileTable g t → IsFileTable g s → number_of g t ≡ number_of g s → t ≡ s
number-same g is (File file) (File other) has has' e =
    let some = is.tables in
    ap File (grid-same file other g.tables 0 0 (omega arith) (omega arith) (omega (arith, e))).0
number-same g is (File file) (More other block) has has' e =
    let some = is.tables in
    let first = (grid-same file other g.tables 0 block (omega arith) has'.2 (omega (arith, e))).1 in
    absurd (omega (arith, first, has'.1))
number-same g is (More file block) (File other) has has' e =
    let some = is.tables in
    let first = (grid-same file other g.tables block 0 has.2 (omega arith) (omega (arith, e))).1 in
    absurd (omega (arith, first, has.1))
number-same g is (More file block) (More other next) has has' e =
    let both = grid-same file other g.tables block next has.2 has'.2 e in
    ap (λ (f : ℕ). More f block) both.0 ∙ ap (More other) both.1
number-same g is (Group group) s has has' e = absurd has
number-same g is (Part part) s has has' e = absurd has
number-same g is (File file) (Group group) has has' e = absurd has'
number-same g is (File file) (Part part) has has' e = absurd has'
number-same g is (More file block) (Group group) has has' e = absurd has'
number-same g is (More file block) (Part part) has has' e = absurd has'

place-same : (g : Geometry) → IsGeometry g → (host other : ℕ) (t s : Table) → CanKeep g host t → CanKeep g other s
    → place_of g host t ≡ place_of g other s → (host ≡ other) × (t ≡ s)
place-same g is host other t s can can' e =
    let both = grid-same host other (file_tables g) (number_of g t) (number_of g s) (number-within g is t can.1) (number-within g is s can'.1) e in
    (both.0, number-same g is t s can.1 can'.1 both.1)

-- what is kept at a file table
pub kept_at-file : (g : Geometry) (cache : Cache) (host : ℕ) (t : Table) → IsFileTable g t
    → kept_at cache host t ≡ get_or cache.places (place_of cache.volume host t) None
kept_at-file g cache host (File file) has = refl
kept_at-file g cache host (More file block) has = refl
kept_at-file g cache host (Group group) has = absurd has
kept_at-file g cache host (Part part) has = absurd has

abbrev cache_of : Geometry → List (Option Packing) → Cache
cache_of g places = record { volume = g; places = places }

-- one place changed
pub changes-place : (g : Geometry) (places : List (Option Packing)) (host : ℕ) (which : Table) (table : Option Packing)
    → IsGeometry g → length places ≡ places_of g → CanKeep g host which
    → ChangesOnly (cache_of g places) (cache_of g (set places (place_of g host which) table)) host which table
changes-place g places host which table is long can =
    let old = cache_of g places in
    let new = cache_of g (set places (place_of g host which) table) in
    let within : place_of g host which < length places = omega (arith, place-within g is host which can) in
    record {
      volume = refl;
      changed = kept_at-file g new host which can.1 ∙ get_or-set_same places (place_of g host which) table None within;
      others = λ h t can' apart.
          let different : place_of g h t ≡ place_of g host which → ⊥ = λ e. let both = place-same g is h host t which can' can e in apart both.0 both.1 in
          kept_at-file g new h t can'.1
          ∙ get_or-set_other places (place_of g host which) (place_of g h t) table None different
          ∙ sym (kept_at-file g old h t can'.1);
    }

-- nothing changed, and nothing was kept
pub changes-nothing : (cache : Cache) (host : ℕ) (which : Table) → kept_at cache host which ≡ None → ChangesOnly cache cache host which None
changes-nothing cache host which nothing = record { volume = refl; changed = nothing; others = λ h t can apart. refl }

-- a place of another row is before or behind a row
other-place : (a row width i : ℕ) → (a ≡ row → ⊥) → i < width → (a * width + i < row * width) ⊎ (row * width + width ≤ a * width + i)
other-place a row width i apart within =
    elim (cases_lt a row) [
      | inl before ↦ let last : (a + 1) * width ≤ row * width = mul-le-mul_right width (omega arith) in inl (omega arith)
      | inr behind ↦
          let after : row + 1 ≤ a = omega arith in
          let last : (row + 1) * width ≤ a * width = mul-le-mul_right width after in
          inr (omega arith)
    ]

-- the places of one host were cleared
pub forgets-places : (g : Geometry) (places cleared : List (Option Packing)) (host : ℕ) → IsGeometry g
    → ClearsRange places cleared (host * file_tables g) (host * file_tables g + file_tables g)
    → ForgetsHost (cache_of g places) (cache_of g cleared) host
forgets-places g places cleared host is clears =
    let old = cache_of g places in
    let new = cache_of g cleared in
    record {
      volume = refl;
      forgotten = λ t has.
          let within = number-within g is t has in
          kept_at-file g new host t has ∙ clears.cleared (place_of g host t) (omega arith) (omega arith);
      others = λ h t can apart.
          kept_at-file g new h t can.1
          ∙ clears.others (place_of g h t) (other-place h host (file_tables g) (number_of g t) apart (number-within g is t can.1))
          ∙ sym (kept_at-file g old h t can.1);
    }

-- the same, where the parts have other names
pub changed : (old : Cache) (g : Geometry) (places after : List (Option Packing)) (host place : ℕ) (which : Table) (table : Option Packing)
    → cache_of g places ≡ old → after ≡ set places place table → place ≡ place_of g host which
    → IsGeometry g → length places ≡ places_of g → CanKeep old.volume host which
    → ChangesOnly old (cache_of g after) host which table
changed old g places after host place which table e set_is place_is is long can =
    let can_there : CanKeep g host which = subst (λ (v : Geometry). CanKeep v host which) (sym (ap (λ (c : Cache). c.volume) e)) can in
    let now : after ≡ set places (place_of g host which) table = set_is ∙ ap (λ (k : ℕ). set places k table) place_is in
    subst (λ (c : Cache). ChangesOnly c (cache_of g after) host which table) e
    (subst (λ (xs : List (Option Packing)). ChangesOnly (cache_of g places) (cache_of g xs) host which table) (sym now)
    (changes-place g places host which table is long can_there))

pub forgot : (old : Cache) (g : Geometry) (places after : List (Option Packing)) (host first end : ℕ)
    → cache_of g places ≡ old → ClearsRange places after first end → first ≡ host * file_tables g
    → end ≡ host * file_tables g + file_tables g
    → IsGeometry g → ForgetsHost old (cache_of g after) host
forgot old g places after host first end e clears first_is end_is is =
    subst (λ (c : Cache). ForgetsHost c (cache_of g after) host) e
    (forgets-places g places after host is
    (subst (λ (n : ℕ). ClearsRange places after n (host * file_tables g + file_tables g)) first_is
    (subst (λ (n : ℕ). ClearsRange places after first n) end_is clears)))

-- a table of a file is one that may be kept
pub file-table : (g : Geometry) (which : Table) → HasTable g which
    → ((file : ℕ) × (which ≡ File file)) ⊎ ((file : ℕ) × (block : ℕ) × (which ≡ More file block)) → IsFileTable g which
file-table g (File file) has is = has
file-table g (More file block) has is = has
file-table g (Group group) has is = absurd (elim is [ inl first ↦ (let e = first.1 in cc) | inr more ↦ (let e = more.2 in cc) ])
file-table g (Part part) has is = absurd (elim is [ inl first ↦ (let e = first.1 in cc) | inr more ↦ (let e = more.2 in cc) ])

-- the places of a host end before those of the next, or at the end
pub host-within : (g : Geometry) (host first each count : ℕ) → first ≡ host → each ≡ file_tables g → count ≡ places_of g → host < g.hosts
    → first * each + each ≤ count
host-within g host first each count first_is each_is count_is within =
    let next : host + 1 ≤ g.hosts = omega arith in
    let rows : (host + 1) * file_tables g ≤ g.hosts * file_tables g = mul-le-mul_right (file_tables g) next in
    subst (λ (n : ℕ). first * each + each ≤ n) (sym count_is)
    (subst (λ (n : ℕ). first * n + n ≤ places_of g) (sym each_is)
    (subst (λ (n : ℕ). n * file_tables g + file_tables g ≤ places_of g) (sym first_is) (omega arith)))
