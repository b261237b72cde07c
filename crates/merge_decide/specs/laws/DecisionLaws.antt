-- What a decision names stands in the index, and a block is told by its digest.
use Rattle.std.proofs.Common.{◌≡◌, ◌⊎◌, inl, inr, ℕ, zero, suc, Bool, true, false, List, [], ◌∷◌, Option, Some, None, cond, refl, ap, ◌∙◌, arith}
use Rattle.std.specs.Prelude.{◌==◌, ◌&&◌, Any, slice_get}
use Rattle.std.specs.List.{cons_option, filter_map}
use Rattle.std.proofs.lemmas.Slice.Eq.{bytes_eq-Decides}
use Rattle.vol_base.specs.declared.block.Digest.{Digest}
use Rattle.hint_blocks.specs.declared.entry.HintTo.{HintTo}
use Rattle.hint_blocks.specs.declared.entry.HintTo.TheVariants as to
use Rattle.hint_blocks.specs.declared.entry.IndexEntry.{IndexEntry}
use Rattle.hint_blocks.specs.declared.entry.LogEntry.{LogEntry}
use Rattle.merge_decide.specs.declared.action.Action.TheVariants.{Share, Promote, Post}
use Rattle.merge_decide.specs.Decision.{decision, first_line, first_other, first_shared, has_own, is_now, other_in, slot_in}

-- what holds of an element holds of one in a longer list
any-behind : {X : Type 0} (P : X → Type 0) (x : X) (xs : List X) → Any P xs → Any P (x ∷ xs)
any-behind P x xs any = (suc any.0, any.1, omega (arith, any.2), any.3, any.4)

first-step : {X Y : Type 0} (h : X → Option Y) (x : X) (xs : List X) (y : Y) (o : Option Y) → h x ≡ o
    → (slice_get (filter_map h xs) 0 ≡ Some y → Any (λ z. h z ≡ Some y) xs)
    → slice_get (cons_option o (filter_map h xs)) 0 ≡ Some y → Any (λ z. h z ≡ Some y) (x ∷ xs)
first-step h x xs y None is behind e = any-behind (λ z. h z ≡ Some y) x xs (behind e)
first-step h x xs y (Some z) is behind e = (zero, x, omega arith, refl, is ∙ e)

-- the first thing that is found is found in some element
any-first : {X Y : Type 0} (h : X → Option Y) (xs : List X) (y : Y) → slice_get (filter_map h xs) 0 ≡ Some y → Any (λ z. h z ≡ Some y) xs
any-first h [] y e = cc
any-first h (x ∷ xs) y e = first-step h x xs y (h x) refl (any-first h xs y) e

slot_in-shared : (hint : HintTo) (slot : ℕ) → slot_in hint ≡ Some slot → hint ≡ to.Shared slot
slot_in-shared (to.Shared s) slot e = cc
slot_in-shared (to.Unique file index) slot e = cc

other-shown : (b : Bool) (file index f i : ℕ) → cond {A = Option (ℕ × ℕ)} b None (Some (file, index)) ≡ Some (f, i)
    → to.Unique file index ≡ to.Unique f i
other-shown true file index f i e = cc
other-shown false file index f i e =
    let pair : (file, index) ≡ (f, i) = cc in
    ap (λ (p : ℕ × ℕ). to.Unique p.0 p.1) pair

other_in-unique : (entry : LogEntry) (hint : HintTo) (file index : ℕ) → other_in entry hint ≡ Some (file, index)
    → hint ≡ to.Unique file index
other_in-unique entry (to.Unique f i) file index e = other-shown (f == entry.file && i == entry.index) f i file index e
other_in-unique entry (to.Shared s) file index e = cc

any-weaker : {X : Type 0} (P Q : X → Type 0) (xs : List X) → ((x : X) → P x → Q x) → Any P xs → Any Q xs
any-weaker P Q xs step any = (any.0, any.1, any.2, any.3, step any.1 any.4)

-- the line that names a slot, and the one that names a place
line-slot : (held now : Bool) (shared : Option ℕ) (other : Option (ℕ × ℕ)) (own : Bool) (slot : ℕ)
    → (first_line held now shared other own ≡ Share slot) ⊎ (first_line held now shared other own ≡ Post slot) → shared ≡ Some slot
line-slot true false shared other own slot e = elim e [ inl share ↦ cc | inr post ↦ cc ]
line-slot true true (Some s) other own slot e = elim e [ inl share ↦ cc | inr post ↦ cc ]
line-slot false now (Some s) other own slot e = elim e [ inl share ↦ cc | inr post ↦ cc ]
line-slot true true None (Some place) own slot e = elim e [ inl share ↦ cc | inr post ↦ cc ]
line-slot true true None None true slot e = elim e [ inl share ↦ cc | inr post ↦ cc ]
line-slot true true None None false slot e = elim e [ inl share ↦ cc | inr post ↦ cc ]
line-slot false now None other true slot e = elim e [ inl share ↦ cc | inr post ↦ cc ]
line-slot false now None other false slot e = elim e [ inl share ↦ cc | inr post ↦ cc ]

line-place : (held now : Bool) (shared : Option ℕ) (other : Option (ℕ × ℕ)) (own : Bool) (file index : ℕ)
    → first_line held now shared other own ≡ Promote file index → other ≡ Some (file, index)
line-place true false shared other own file index e = cc
line-place true true (Some s) other own file index e = cc
line-place false now (Some s) other own file index e = cc
line-place true true None (Some (f, i)) own file index e =
    let first : f ≡ file = cc in
    let second : i ≡ index = cc in
    ap (λ (n : ℕ). Some (n, i)) first ∙ ap (λ (n : ℕ). Some (file, n)) second
line-place true true None None true file index e = cc
line-place true true None None false file index e = cc
line-place false now None other true file index e = cc
line-place false now None other false file index e = cc

-- the slot of a share or a request is that of a shared entry
pub decision-slot : (entry : LogEntry) (held : Bool) (now : Option Digest) (found : List IndexEntry) (slot : ℕ)
    → (decision entry held now found ≡ Share slot) ⊎ (decision entry held now found ≡ Post slot)
    → Any (λ hint. hint.to ≡ to.Shared slot) found
unfolding first_shared
decision-slot entry held now found slot e =
    let first = line-slot held (is_now entry.digest now) (first_shared found) (first_other entry found) (has_own entry found) slot e in
    any-weaker (λ (hint : IndexEntry). slot_in hint.to ≡ Some slot) (λ (hint : IndexEntry). hint.to ≡ to.Shared slot) found
    (λ hint is. slot_in-shared hint.to slot is) (any-first (λ (hint : IndexEntry). slot_in hint.to) found slot first)

-- the place of a promotion is that of a unique entry
pub decision-place : (entry : LogEntry) (held : Bool) (now : Option Digest) (found : List IndexEntry) (file index : ℕ)
    → decision entry held now found ≡ Promote file index → Any (λ hint. hint.to ≡ to.Unique file index) found
unfolding first_other
decision-place entry held now found file index e =
    let first = line-place held (is_now entry.digest now) (first_shared found) (first_other entry found) (has_own entry found) file index e in
    any-weaker (λ (hint : IndexEntry). other_in entry hint.to ≡ Some (file, index)) (λ (hint : IndexEntry). hint.to ≡ to.Unique file index) found
    (λ hint is. other_in-unique entry hint.to file index is) (any-first (λ (hint : IndexEntry). other_in entry hint.to) found (file, index) first)

-- a block has a digest now exactly where that digest was told
pub is_now-same : (digest : Digest) → is_now digest (Some digest) ≡ true
is_now-same digest = (bytes_eq-Decides digest.0 digest.0).1 refl
