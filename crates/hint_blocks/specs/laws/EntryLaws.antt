-- What is read is in range, and what is written for an entry in range reads as it.
use Rattle.std.proofs.Common.{◌≡◌, ◌<◌, ◌+◌, ◌*◌, ◌^◌, ℕ, zero, suc, Bool, true, false, cond, List, [], ◌∷◌, ◌++◌, Option, Some, None, length, refl, sym, ap, ◌∙◌, arith, length-append}
use Rattle.std.specs.Prelude.{IfSome, slice_get, ◌&&◌, nat_lt, option_map}
use Rattle.std.specs.List.{flat_map}
use Rattle.std.proofs.lemmas.Bool.{and_from, and_parts, lt-ltb, ltb-true}
use Rattle.std.proofs.lemmas.List.{append-nil, take_at}
use Rattle.vol_base.specs.Bytes.{bytes_of, u32_at}
use Rattle.vol_base.specs.laws.RowLaws.{length-row, number_at-row}
use Rattle.vol_base.specs.declared.block.Digest.{Digest}
use Rattle.vol_layout.specs.Ranges.{IsGeometry, arena_slots, limit, per_table}
use Rattle.vol_layout.specs.declared.geometry.Geometry.{Geometry}
use Rattle.hint_blocks.specs.declared.entry.LogEntry.{LogEntry}
use Rattle.hint_blocks.specs.declared.entry.IndexEntry.{IndexEntry}
use Rattle.hint_blocks.specs.declared.entry.Request.{Request}
use Rattle.hint_blocks.specs.declared.entry.HintTo.{HintTo}
use Rattle.hint_blocks.specs.declared.entry.HintTo.TheVariants.{Unique, Shared}
use Rattle.hint_blocks.specs.Entries.{
  IsIndexEntry,
  IsLogEntry,
  IsPlace,
  IsRequest,
  IsTarget,
  digest_at,
  has_place,
  has_request,
  index_bytes,
  index_entry_of,
  log_bytes,
  log_entry_of,
  request_bytes,
  request_of,
  spelled,
  target_numbers,
  target_of,
}

-- two tests that hold
both_below : (a b c d : ℕ) → (nat_lt a b && nat_lt c d) ≡ true → (a < b) × (c < d)
both_below a b c d h =
    let parts = and_parts (nat_lt a b) (nat_lt c d) h in
    (ltb-true a b parts.0, ltb-true c d parts.1)

below_both : (a b c d : ℕ) → a < b → c < d → (nat_lt a b && nat_lt c d) ≡ true
below_both a b c d h k = and_from (nat_lt a b) (nat_lt c d) (lt-ltb a b h) (lt-ltb c d k)

-- what a test lets through
let_through : {T : Type 0} (b : Bool) (x : T) (P : T → Type 0) → (b ≡ true → P x) → IfSome (cond b (Some x) None) P
let_through true x P h = h refl
let_through false x P h = tt

target_at : (g : Geometry) {k a b k' a' b' : ℕ} → k ≡ k' → a ≡ a' → b ≡ b' → target_of g k a b ≡ target_of g k' a' b'
target_at g p q r = cc

passed : {T : Type 0} (b : Bool) (x : T) → b ≡ true → cond b (Some x) None ≡ Some x
passed b x h = rw h refl

-- what is read is in range
pub log_entry_in_range : (g : Geometry) (bytes : List ℕ) → IfSome (log_entry_of g bytes) (IsLogEntry g)
unfolding log_entry_of
log_entry_in_range g bytes =
    let_through (has_place g (u32_at bytes 20) (u32_at bytes 24)) _ (IsLogEntry g) (λ h. both_below (u32_at bytes 20) g.files (u32_at bytes 24) (limit g) h)

target_in_range : (g : Geometry) (kind first second : ℕ) → IfSome (target_of g kind first second) (IsTarget g)
target_in_range g zero file index =
    let_through (has_place g file index) (Unique file index) (IsTarget g) (λ h. both_below file g.files index (limit g) h)
target_in_range g (suc zero) slot other =
    let_through (nat_lt slot (arena_slots g)) (Shared slot) (IsTarget g) (λ h. ltb-true slot (arena_slots g) h)
target_in_range g (suc (suc kind)) first second = tt

IfSome-option_map : {A B : Type 0} (f : A → B) (o : Option A) (P : B → Type 0) → IfSome o (λ x. P (f x)) → IfSome (option_map f o) P
IfSome-option_map f None P h = tt
IfSome-option_map f (Some x) P h = h

pub index_entry_in_range : (g : Geometry) (bytes : List ℕ) → IfSome (index_entry_of g bytes) (IsIndexEntry g)
unfolding index_entry_of
index_entry_in_range g bytes =
    let to = target_of g (u32_at bytes 20) (u32_at bytes 24) (u32_at bytes 28) in
    let entry : HintTo → IndexEntry = λ to. record { digest = digest_at bytes; to = to } in
    IfSome-option_map entry to (IsIndexEntry g) (target_in_range g (u32_at bytes 20) (u32_at bytes 24) (u32_at bytes 28))

pub request_in_range : (g : Geometry) (bytes : List ℕ) → IfSome (request_of g bytes) (IsRequest g)
unfolding request_of
request_in_range g bytes =
    let_through (has_request g (u32_at bytes 20) (u32_at bytes 24)) _ (IsRequest g)
    (λ h. both_below (u32_at bytes 20) (limit g) (u32_at bytes 24) (arena_slots g) h)

-- an entry of three numbers has a digest of 20 bytes
digest_long : (digest : Digest) (a b c : ℕ) → length (spelled digest (a ∷ b ∷ c ∷ [])) ≡ 32 → length digest.0 ≡ 20
unfolding spelled
digest_long digest a b c long =
    omega (arith, length-append digest.0 (flat_map (bytes_of 4) (a ∷ b ∷ c ∷ [])), length-row 4 (a ∷ b ∷ c ∷ []))

-- it begins with the digest, and number k stands behind the numbers before it
digest_back : (digest : Digest) (numbers : List ℕ) → length digest.0 ≡ 20 → digest_at (spelled digest numbers) ≡ digest
unfolding spelled
digest_back digest numbers long =
    ap (λ (xs : List ℕ). let d : Digest = record { 0 = xs } in d) (take_at digest.0 (flat_map (bytes_of 4) numbers) 20 long)

number_back : (digest : Digest) (numbers : List ℕ) (k at n : ℕ) → length digest.0 ≡ 20 → slice_get numbers k ≡ Some n → n < 2 ^ 32
    → at ≡ 20 + 4 * k → u32_at (spelled digest numbers) at ≡ n
unfolding spelled
number_back digest numbers k at n long is small place =
    ap (λ (xs : List ℕ). u32_at xs at) (sym (append-nil (digest.0 ++ flat_map (bytes_of 4) numbers)))
    ∙ number_at-row 4 k at digest.0 [] numbers n is small (omega arith)

-- the numbers of a geometry are small
small_index : (g : Geometry) (index : ℕ) → IsGeometry g → index < limit g → index < 2 ^ 32
unfolding limit per_table
small_index g index geometry h = omega (arith, geometry.tables)

small_place : (g : Geometry) (file index : ℕ) → IsGeometry g → IsPlace g file index → (file < 2 ^ 32) × (index < 2 ^ 32)
small_place g file index geometry place = (omega (arith, geometry.files), small_index g index geometry place.1)

small_slot : (g : Geometry) (slot : ℕ) → IsGeometry g → slot < arena_slots g → slot < 2 ^ 32
unfolding arena_slots per_table
small_slot g slot geometry h = omega (arith, geometry.parts)

-- what is written for an entry in range reads as it
pub log_entry_of-log_bytes : (g : Geometry) (hint : LogEntry) → IsGeometry g → IsLogEntry g hint → length (log_bytes hint) ≡ 32
    → log_entry_of g (log_bytes hint) ≡ Some hint
unfolding log_entry_of
log_entry_of-log_bytes g hint geometry range long =
    let numbers : List ℕ = hint.file ∷ hint.index ∷ 0 ∷ [] in
    let twenty = digest_long hint.digest hint.file hint.index 0 long in
    let small = small_place g hint.file hint.index geometry range in
    rw (
      digest_back hint.digest numbers twenty,
      number_back hint.digest numbers 0 20 hint.file twenty refl small.0 refl,
      number_back hint.digest numbers 1 24 hint.index twenty refl small.1 refl,
      below_both hint.file g.files hint.index (limit g) range.0 range.1,
    ) refl

target_back : (g : Geometry) (digest : Digest) (to : HintTo) → IsGeometry g → IsTarget g to
    → length (spelled digest (target_numbers to)) ≡ 32
    → (let bytes = spelled digest (target_numbers to) in
    (digest_at bytes ≡ digest) × (target_of g (u32_at bytes 20) (u32_at bytes 24) (u32_at bytes 28) ≡ Some to))
target_back g digest (Unique file index) geometry range long =
    let numbers : List ℕ = 0 ∷ file ∷ index ∷ [] in
    let twenty = digest_long digest 0 file index long in
    let small = small_place g file index geometry range in (
      digest_back digest numbers twenty,
      target_at g (number_back digest numbers 0 20 0 twenty refl (omega arith) refl) (number_back digest numbers 1 24 file twenty refl small.0 refl)
          (number_back digest numbers 2 28 index twenty refl small.1 refl)
          ∙ passed (has_place g file index) (Unique file index) (below_both file g.files index (limit g) range.0 range.1),
    )
target_back g digest (Shared slot) geometry range long =
    let numbers : List ℕ = 1 ∷ slot ∷ 0 ∷ [] in
    let twenty = digest_long digest 1 slot 0 long in
    let small = small_slot g slot geometry range in (
      digest_back digest numbers twenty,
      target_at g (number_back digest numbers 0 20 1 twenty refl (omega arith) refl) (number_back digest numbers 1 24 slot twenty refl small refl)
          (number_back digest numbers 2 28 0 twenty refl (omega arith) refl)
          ∙ passed (nat_lt slot (arena_slots g)) (Shared slot) (lt-ltb slot (arena_slots g) range),
    )

pub index_entry_of-index_bytes : (g : Geometry) (hint : IndexEntry) → IsGeometry g → IsIndexEntry g hint → length (index_bytes hint) ≡ 32
    → index_entry_of g (index_bytes hint) ≡ Some hint
unfolding index_entry_of
index_entry_of-index_bytes g hint geometry range long =
    let back = target_back g hint.digest hint.to geometry range long in
    rw (back.0, back.1) refl

pub request_of-request_bytes : (g : Geometry) (hint : Request) → IsGeometry g → IsRequest g hint → length (request_bytes hint) ≡ 32
    → request_of g (request_bytes hint) ≡ Some hint
unfolding request_of
request_of-request_bytes g hint geometry range long =
    let numbers : List ℕ = hint.index ∷ hint.slot ∷ 0 ∷ [] in
    let twenty = digest_long hint.digest hint.index hint.slot 0 long in
    rw (
      digest_back hint.digest numbers twenty,
      number_back hint.digest numbers 0 20 hint.index twenty refl (small_index g hint.index geometry range.0) refl,
      number_back hint.digest numbers 1 24 hint.slot twenty refl (small_slot g hint.slot geometry range.1) refl,
      below_both hint.index (limit g) hint.slot (arena_slots g) range.0 range.1,
    ) refl
