-- The faults of blocks, place by place.
use Rattle.std.proofs.Common.{◌≡◌, ◌<◌, ◌≤◌, ◌+◌, ◌⊎◌, ℕ, List, [], ◌∷◌, ◌++◌, Result, Ok, Err, inl, inr, refl, ap, ◌∙◌, arith}
use Rattle.std.specs.Prelude.{OnOk}
use Rattle.std.proofs.lemmas.Bool.{cases_lt}
use Rattle.vol_layout.specs.declared.geometry.Geometry.{Geometry}
use Rattle.vol_layout.specs.declared.kind.Kind.{Kind}
use Rattle.vol_layout.specs.Places.{place_of, front_end, further_start}
use Rattle.vol_layout.specs.Ranges.{HasKind}
use Rattle.vol_layout.specs.Regions.{total}
use Rattle.vol_layout.specs.laws.PlaceLaws.{places_apart}
use Rattle.image_view.specs.Images.{Image, block_at}
use Rattle.volume_faults.specs.declared.fault.Fault.{Fault}
use Rattle.volume_faults.specs.declared.fault.FaultKind.TheVariants as faults
use Rattle.volume_faults.specs.Faults.{IsOfStage}
use Rattle.volume_faults.specs.laws.ListLaws.{Adds-joined, Adds-right, Adds-wrong}
use Rattle.volume_faults.specs.Order.{ComesBefore}
use Rattle.volume_faults.specs.Sites.{Block, CountOf, IsChecked, IsOfKind, LockKey, PointerOf, RecordEdit, RecordKey, Site, Size, Superblock, fault_at}
use Rattle.volume_check.specs.Blocks.{IsBlockAt, IsBlockIn}
use Rattle.volume_check.specs.Metadatas.{AddsOf, AddsStage, Metadata}
use Rattle.vol_layout.specs.laws.SpanLaws.{spans_fit}
use Rattle.volume_check.proofs.RunLaws.{checked_is_read}

-- one kind of block stands at a place
same_block : (g : Geometry) (place : ℕ) (kind : Kind) → HasKind g kind → place_of g kind ≡ place → (site : Site) → IsBlockAt g place site → site ≡ Block kind
same_block g place kind has at other of =
    let e : place_of g of.kind ≡ place_of g kind = omega (arith, of.from, of.to) in
    of.is ∙ ap Block (places_apart g of.kind kind of.has has e)

-- of a block that is of its kind there is no fault
pub block_right : (m : Metadata) (place : ℕ) (kind : Kind) (old : List Fault) → HasKind m.geometry kind → place_of m.geometry kind ≡ place
    → IsOfKind m.geometry m.counter kind (block_at m.geometry m.image kind) → AddsOf (IsBlockAt m.geometry place) m old old
block_right m place kind old has at right =
    Adds-right (IsBlockAt m.geometry place) m.geometry m.counter m.image old
    (λ site of. let same = same_block m.geometry place kind has at site of in rw same right)

-- and of another there is its fault
pub block_wrong : (m : Metadata) (place : ℕ) (kind : Kind) (old : List Fault) → HasKind m.geometry kind → IsChecked kind → place_of m.geometry kind ≡ place
    → (IsOfKind m.geometry m.counter kind (block_at m.geometry m.image kind) → ⊥)
    → AddsOf (IsBlockAt m.geometry place) m old (old ++ record { place = place; kind = faults.Spelling } ∷ [])
block_wrong m place kind old has checked at wrong =
    let adds =
    Adds-wrong (IsBlockAt m.geometry place) m.geometry m.counter m.image old (Block kind)
    (record { kind = kind; is = refl; has = has; checked = checked; from = omega arith; to = omega arith })
    (same_block m.geometry place kind has at) wrong in
    rw at at adds

-- blocks at lower places come before those at higher ones
in_order : (g : Geometry) (image : Image) (a b c d : ℕ) → b ≤ c → (s t : Site) → IsBlockIn g a b s → IsBlockIn g c d t → ComesBefore (fault_at g image s) (fault_at g image t)
in_order g image a b c d le s t first second =
    let below : place_of g first.kind < place_of g second.kind = omega (arith, first.to, second.from) in
    rw (first.is, second.is) (inl below)

-- and one place more adds that place's
pub run_more : (m : Metadata) (from place : ℕ) (a b c : List Fault) → from ≤ place
    → AddsOf (IsBlockIn m.geometry from place) m a b → AddsOf (IsBlockAt m.geometry place) m b c → AddsOf (IsBlockIn m.geometry from (place + 1)) m a c
run_more m from place a b c le first second =
    let g = m.geometry in
    let A = IsBlockIn g from place in
    let B = IsBlockAt g place in
    let C = IsBlockIn g from (place + 1) in
    Adds-joined A B C g m.counter m.image a b c first second
    (λ site of. elim (cases_lt (place_of g of.kind) place) as (λ _. A site ⊎ B site) [
      | inl below ↦ inl (record { kind = of.kind; is = of.is; has = of.has; checked = of.checked; from = of.from; to = below })
      | inr past ↦ inr (record { kind = of.kind; is = of.is; has = of.has; checked = of.checked; from = past; to = of.to })
    ])
    (λ site of. record { kind = of.kind; is = of.is; has = of.has; checked = of.checked; from = of.from; to = omega (arith, of.to) })
    (λ site of. record { kind = of.kind; is = of.is; has = of.has; checked = of.checked; from = omega (arith, of.from); to = of.to })
    (in_order g m.image from place place (place + 1) (omega arith))

-- the second stage looks at the blocks that are read
block_of_stage : (g : Geometry) (image : Image) (site : Site) → IsOfStage g image 2 site → IsBlockIn g 1 (total g) site
block_of_stage g image Superblock of = absurd (omega (arith, of.0))
block_of_stage g image Size of = absurd (omega (arith, of.0))
block_of_stage g image (Block kind) of =
    let read = checked_is_read g kind of.1.0 of.1.1 in
    record { kind = kind; is = refl; has = of.1.0; checked = of.1.1; from = read.first; to = read.last }
block_of_stage g image (LockKey r) of = absurd (omega (arith, of.0))
block_of_stage g image (RecordKey h) of = absurd (omega (arith, of.0))
block_of_stage g image (RecordEdit h e) of = absurd (omega (arith, of.0))
block_of_stage g image (CountOf d) of = absurd (omega (arith, of.0))
block_of_stage g image (PointerOf f i) of = absurd (omega (arith, of.0))

stage_of_block : (g : Geometry) (image : Image) (a b : ℕ) (site : Site) → IsBlockIn g a b site → IsOfStage g image 2 site
stage_of_block g image a b other of = rw (of.is) (refl, (of.has, of.checked))

-- the two runs are the second stage
pub both_runs : (m : Metadata) (a b c : List Fault) → AddsOf (IsBlockIn m.geometry 1 (front_end m.geometry)) m a b
    → AddsOf (IsBlockIn m.geometry (further_start m.geometry) (total m.geometry)) m b c → AddsStage 2 m a c
both_runs m a b c first second =
    let g = m.geometry in
    let A = IsBlockIn g 1 (front_end g) in
    let B = IsBlockIn g (further_start g) (total g) in
    let C = IsOfStage g m.image 2 in
    let fit = spans_fit g in
    Adds-joined A B C g m.counter m.image a b c first second
    (λ site of.
    let block = block_of_stage g m.image site of in
    let read = checked_is_read g block.kind block.has block.checked in
    elim (cases_lt (place_of g block.kind) (front_end g)) as (λ _. A site ⊎ B site) [
      | inl below ↦ inl (record { kind = block.kind; is = block.is; has = block.has; checked = block.checked; from = block.from; to = below })
      | inr past ↦ inr (record { kind = block.kind; is = block.is; has = block.has; checked = block.checked; from = read.further past; to = block.to })
    ])
    (stage_of_block g m.image 1 (front_end g)) (stage_of_block g m.image (further_start g) (total g))
    (in_order g m.image 1 (front_end g) (further_start g) (total g) (omega arith))

-- as the code says it: the second run may have been refused memory
pub stage_added : {T E : Type 0} (r : Result T E) (m : Metadata) (a b c : List Fault) (head start end : ℕ) → head ≡ front_end m.geometry → start ≡ further_start m.geometry → end ≡ total m.geometry
    → AddsOf (IsBlockIn m.geometry 1 head) m a b → OnOk r (AddsOf (IsBlockIn m.geometry start end) m b c) → OnOk r (AddsStage 2 m a c)
stage_added (Ok v) m a b c head start end head_is start_is end_is first second =
    both_runs m a b c (rw head_is at first) (rw (start_is, end_is) at second)
stage_added (Err e) m a b c head start end head_is start_is end_is first second = tt
