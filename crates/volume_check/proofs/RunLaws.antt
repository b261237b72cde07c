-- Where the blocks that a check reads stand, and what the image of what was read has there.
use Rattle.std.proofs.Common.{◌≡◌, ◌<◌, ◌≤◌, ◌+◌, ◌-◌, ◌*◌, ℕ, suc, List, [], ◌∷◌, ◌++◌, length, map, replicate, take, drop, get_or, Option, Some, None, inl, inr, sym, subst, ap, ◌∙◌, arith, length-append, length-drop}
use Rattle.std.specs.Prelude.{IfSome, slice_get}
use Rattle.std.proofs.lemmas.Bool.{cases_lt}
use Rattle.std.proofs.lemmas.List.{get_or_append_left, get_or-append_right, get_or-drop, get_or-map, get_or-take, length-replicate, map-append, take_more}
use Rattle.std.proofs.lemmas.Option.{get_or_from_slice_get, slice_get_within}
use Rattle.shared_disk.specs.State.{Told}
use Rattle.std.proofs.Math.ListN.{length-map}
use Rattle.vol_base.specs.declared.block.Block.{Block}
use Rattle.vol_layout.specs.declared.geometry.Geometry.{Geometry}
use Rattle.vol_layout.specs.declared.kind.Kind.{Kind}
use Rattle.vol_layout.specs.declared.kind.Kind.TheVariants as kinds
use Rattle.vol_layout.specs.Places.{IsAtEnd, IsAtFront, place_of, front_end, further_start, further_tables}
use Rattle.vol_layout.specs.Ranges.{HasKind}
use Rattle.vol_layout.specs.laws.SpanLaws.{journal_at_front, lock_at_front, slot_at_front, spans_fit, table_at_front_or_end}
use Rattle.vol_layout.specs.Regions.{regions, total}
use Rattle.vol_layout.specs.laws.PlaceLaws.{place_of-inside}
use Rattle.image_view.specs.Images.{Image, block_at}
use Rattle.volume_faults.specs.laws.AgreeLaws.{Agrees}
use Rattle.volume_faults.specs.Sites.{IsChecked}
use Rattle.volume_check.specs.Metadatas.{AreRuns, IsInRuns, Metadata, image_of_runs}

-- a place of the front, and one of the end, lies in the runs
in_front : (g : Geometry) (p : ℕ) → IsAtFront g p → (1 ≤ p) × (front_end g ≤ p → further_start g ≤ p)
in_front g p at = (at.0, λ past. absurd (omega (arith, at.1, past)))

in_end : (g : Geometry) (p : ℕ) → IsAtEnd g p → (1 ≤ p) × (front_end g ≤ p → further_start g ≤ p)
in_end g p at = let fit = spans_fit g in (omega (arith, at.0, fit.0, fit.1), λ past. at.0)

-- a kind that is checked stands behind the superblock, and in front of the logs or behind the data
stands : (g : Geometry) (kind : Kind) → HasKind g kind → IsChecked kind
    → (1 ≤ place_of g kind) × (front_end g ≤ place_of g kind → further_start g ≤ place_of g kind)
stands g kinds.Super has checked = absurd checked
stands g (kinds.Slot h) has checked = in_front g _ (slot_at_front g h has)
stands g (kinds.Journal h) has checked = in_front g _ (journal_at_front g h has)
stands g (kinds.Lock r) has checked = in_front g _ (lock_at_front g r has)
stands g (kinds.Table t) has checked = elim (table_at_front_or_end g t has) [
  | inl at ↦ in_front g _ at
  | inr at ↦ in_end g _ at
]
stands g (kinds.Log h l) has checked = absurd checked
stands g (kinds.Shard s) has checked = absurd checked
stands g (kinds.Request f) has checked = absurd checked
stands g (kinds.Number d) has checked = absurd checked

pub checked_is_read : (g : Geometry) (kind : Kind) → HasKind g kind → IsChecked kind → IsInRuns g (place_of g kind)
checked_is_read g kind has checked =
    let s = stands g kind has checked in
    record { first = s.0; last = place_of-inside g kind has; further = s.1 }

two_below : (h n l w : ℕ) → h < n → l < w → h * w + l < n * w
two_below h n l w a b = grind arith

-- and what is read is checked
pub read_is_checked : (g : Geometry) (kind : Kind) → HasKind g kind → IsInRuns g (place_of g kind) → IsChecked kind
unfolding place_of regions total
read_is_checked g kinds.Super has read = absurd (omega (arith, read.first))
read_is_checked g (kinds.Slot h) has read = tt
read_is_checked g (kinds.Journal h) has read = tt
read_is_checked g (kinds.Lock r) has read = tt
read_is_checked g (kinds.Table t) has read = tt
read_is_checked g (kinds.Log h l) has read = absurd (omega (arith, read.further, two_below h g.hosts l g.logs has.0 has.1))
read_is_checked g (kinds.Shard s) has read = absurd (omega (arith, read.further))
read_is_checked g (kinds.Request f) has read = absurd (omega (arith, read.further))
read_is_checked g (kinds.Number d) has read = absurd (omega (arith, read.further))

pub found_is_checked : (g h : Geometry) (kind : Kind) (p : ℕ) → h ≡ g → HasKind h kind × (place_of h kind ≡ p) → IsInRuns g p → IsChecked kind
found_is_checked g h kind p same found read =
    let here : HasKind g kind × (place_of g kind ≡ p) = subst (λ (k : Geometry). HasKind k kind × (place_of k kind ≡ p)) same found in
    read_is_checked g kind here.0 (subst (IsInRuns g) (sym here.1) read)

-- the image of what was read, at the places of the first run and at those of the second
pub first_run : (g : Geometry) (front further : List Block) (p : ℕ) → AreRuns g front further → 1 ≤ p → p < front_end g
    → get_or (image_of_runs g front further) p [] ≡ get_or (map (λ (block : Block). block.0) front) (p - 1) []
unfolding image_of_runs
first_run g front further p runs first below =
    let fs = map (λ (block : Block). block.0) front in
    let gap : List (List ℕ) = replicate (further_start g - front_end g) [] in
    let long : length ([] ∷ fs) ≡ front_end g = ap suc (length-map front (λ (block : Block). block.0)) ∙ omega (arith, runs.first) in
    let longer : p < length (([] ∷ fs) ++ gap) = omega (arith, length-append ([] ∷ fs) gap) in
    let next : p ≡ suc (p - 1) = omega arith in
    get_or_append_left (([] ∷ fs) ++ gap) (map (λ (block : Block). block.0) further) [] p longer
    ∙ get_or_append_left ([] ∷ fs) gap [] p (omega arith)
    ∙ ap (λ (n : ℕ). get_or ([] ∷ fs) n []) next

pub second_run : (g : Geometry) (front further : List Block) (p : ℕ) → AreRuns g front further → further_start g ≤ p
    → get_or (image_of_runs g front further) p [] ≡ get_or (map (λ (block : Block). block.0) further) (p - further_start g) []
unfolding image_of_runs
second_run g front further p runs from =
    let fs = map (λ (block : Block). block.0) front in
    let gap : List (List ℕ) = replicate (further_start g - front_end g) [] in
    let fit = spans_fit g in
    let long : length ([] ∷ fs) ≡ front_end g = ap suc (length-map front (λ (block : Block). block.0)) ∙ omega (arith, runs.first) in
    let start : length (([] ∷ fs) ++ gap) ≡ further_start g = length-append ([] ∷ fs) gap ∙ omega (arith, length-replicate (further_start g - front_end g) (let none : List ℕ = [] in none), fit) in
    get_or-append_right (([] ∷ fs) ++ gap) (map (λ (block : Block). block.0) further) (further_start g) p [] start from

-- two runs of an image agree with it
pub runs_agree : (g : Geometry) (front further : List Block) (image : Image) → AreRuns g front further
    → map (λ (block : Block). block.0) front ≡ take (front_end g - 1) (drop 1 image)
    → map (λ (block : Block). block.0) further ≡ take (total g - further_start g) (drop (further_start g) image)
    → Agrees g image (image_of_runs g front further)
unfolding block_at
runs_agree g front further image runs front_is further_is kind has checked =
    let p = place_of g kind in
    let read = checked_is_read g kind has checked in
    elim (cases_lt p (front_end g)) [
      | inl below ↦
          let at : 1 + (p - 1) ≡ p = omega (arith, read.first) in
          sym (first_run g front further p runs read.first below
          ∙ ap (λ (xs : List (List ℕ)). get_or xs (p - 1) []) front_is
          ∙ get_or-take (front_end g - 1) (drop 1 image) (p - 1) [] (omega (arith, read.first))
          ∙ get_or-drop 1 image (p - 1) []
          ∙ ap (λ (n : ℕ). get_or image n []) at)
      | inr past ↦
          let from = read.further past in
          let at : further_start g + (p - further_start g) ≡ p = omega arith in
          sym (second_run g front further p runs from
          ∙ ap (λ (xs : List (List ℕ)). get_or xs (p - further_start g) []) further_is
          ∙ get_or-take (total g - further_start g) (drop (further_start g) image) (p - further_start g) [] (omega (arith, read.last))
          ∙ get_or-drop (further_start g) image (p - further_start g) []
          ∙ ap (λ (n : ℕ). get_or image n []) at)
    ]

-- the blocks of the two runs
pub in_first_run : (g : Geometry) (front further : List Block) (p : ℕ) (d : Block) → AreRuns g front further → IsInRuns g p → p ≤ length front
    → (get_or front (p - 1) d).0 ≡ get_or (image_of_runs g front further) p []
in_first_run g front further p d runs read within =
    let first = read.first in
    sym (first_run g front further p runs first (omega (arith, runs.first)) ∙ get_or-map (λ (block : Block). block.0) front (p - 1) d [] (omega arith))

pub in_second_run : (g : Geometry) (front further : List Block) (p n : ℕ) (d : Block) → AreRuns g front further → IsInRuns g p → length front < p → n ≡ total g
    → (get_or further (p - (n - length further)) d).0 ≡ get_or (image_of_runs g front further) p []
in_second_run g front further p n d runs read behind all =
    let from = read.further (omega (arith, runs.first)) in
    let at : p - (n - length further) ≡ p - further_start g = omega (arith, runs.second, all) in
    rw at (sym (second_run g front further p runs from ∙ get_or-map (λ (block : Block). block.0) further (p - further_start g) d [] (omega (arith, runs.second, read.last))))

-- a block that was read is that of its kind
pub block_of_runs : (m : Metadata) (g : Geometry) (counter p : ℕ) (front further : List Block) (kind : Kind)
    → (let n : Metadata = record { geometry = g; counter = counter; image = image_of_runs g front further } in n) ≡ m → p ≡ place_of g kind
    → get_or (image_of_runs g front further) p [] ≡ block_at m.geometry m.image kind
unfolding block_at
block_of_runs m g counter p front further kind is at =
    ap (λ (n : ℕ). get_or (image_of_runs g front further) n []) at ∙ ap (λ (n : Metadata). get_or n.image (place_of n.geometry kind) []) is

-- one more block of an image
block_more : (image : Image) (block : List ℕ) (from place : ℕ) → from ≤ place → slice_get image place ≡ Some block
    → take (place + 1 - from) (drop from image) ≡ take (place - from) (drop from image) ++ block ∷ []
block_more image block from place le is =
    let k = place - from in
    let next : place + 1 - from ≡ k + 1 = omega arith in
    let at : from + k ≡ place = omega arith in
    let within = slice_get_within image place block is in
    let here : get_or (drop from image) k [] ≡ block = get_or-drop from image k [] ∙ ap (λ (n : ℕ). get_or image n []) at ∙ get_or_from_slice_get image place block [] is in
    ap (λ (n : ℕ). take n (drop from image)) next
    ∙ take_more (drop from image) k [] (omega (arith, length-drop from image))
    ∙ ap (λ (b : List ℕ). take k (drop from image) ++ b ∷ []) here

-- the blocks that were read, and one more
pub run_grows : (told : Option Told) (before after : List Block) (block : Block) (from place : ℕ) → from ≤ place
    → IfSome told (λ t. map (λ (b : Block). b.0) before ≡ take (place - from) (drop from t.image))
    → IfSome told (λ t. slice_get t.image place ≡ Some block.0)
    → after ≡ before ++ block ∷ []
    → IfSome told (λ t. map (λ (b : Block). b.0) after ≡ take (place + 1 - from) (drop from t.image))
run_grows None before after block from place le blocks stands pushed = tt
run_grows (Some t) before after block from place le blocks stands pushed =
    ap (λ (bs : List Block). map (λ (b : Block). b.0) bs) pushed
    ∙ map-append (λ (b : Block). b.0) before (block ∷ [])
    ∙ ap (λ (bs : List (List ℕ)). bs ++ block.0 ∷ []) blocks
    ∙ sym (block_more t.image block.0 from place le stands)

-- what was read agrees with what the device tells
pub told_agree : (told : Option Told) (g : Geometry) (front further : List Block) (head start end : ℕ) → AreRuns g front further
    → head ≡ front_end g → start ≡ further_start g → end ≡ total g
    → IfSome told (λ t. map (λ (b : Block). b.0) front ≡ take (head - 1) (drop 1 t.image))
    → IfSome told (λ t. map (λ (b : Block). b.0) further ≡ take (end - start) (drop start t.image))
    → IfSome told (λ t. Agrees g t.image (image_of_runs g front further))
told_agree None g front further head start end runs head_is start_is end_is first second = tt
told_agree (Some t) g front further head start end runs head_is start_is end_is first second =
    runs_agree g front further t.image runs
    (first ∙ ap (λ (n : ℕ). take (n - 1) (drop 1 t.image)) head_is)
    (second ∙ ap (λ (n : ℕ). take (n - start) (drop start t.image)) end_is ∙ ap (λ (n : ℕ). take (total g - n) (drop n t.image)) start_is)

-- how many further tables there are, as the code says it
pub further_fit : (g : Geometry) (files more n : ℕ) → files ≡ g.files → more ≡ g.tables - 1 → n ≡ total g → (files * more ≤ n) × (n - files * more + further_tables g ≡ total g)
further_fit g files more n f m all = let fit = spans_fit g in rw (f, m, all) (omega arith, omega arith)
