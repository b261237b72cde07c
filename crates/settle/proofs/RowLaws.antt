-- From place to place in a file.
use Rattle.std.proofs.Common.{◌≡◌, ◌<◌, ◌≤◌, ◌+◌, ℕ, Bool, true, false, Option, add-one, refl, sym, ap, ◌∙◌, inl, inr, arith}
use Rattle.std.specs.Prelude.{is_some, if◌then◌else◌}
use Rattle.std.proofs.lemmas.Bool.{cases_lt, le-ltb, lt-ltb}
use Rattle.shared_disk.specs.State.{OnImages, Told}
use Rattle.vol_layout.specs.declared.field.Field.TheVariants.{Head, Pointer}
use Rattle.vol_layout.specs.declared.geometry.Geometry.{Geometry}
use Rattle.vol_layout.specs.Fields.{HasField}
use Rattle.vol_layout.specs.Ranges.{limit}
use Rattle.image_view.specs.Images.{Image}
use Rattle.image_view.specs.Numbers.{logical}
use Rattle.settle.specs.Contents.{NoClash, places_in}
use Rattle.settle.specs.Gathered.{Found, IsGathered}
use Rattle.settle.specs.Moves.{Stays}
use Rattle.settle.specs.Rows.{IsCut, IsEnded, IsPlaced, IsRow, IsWholeRow, most_calls, most_in_file}
use Rattle.settle.specs.Totals.{live_at, sum_below}
use Rattle.settle.proofs.GatherLaws.{row-next}
use Rattle.settle.proofs.MoveLaws.{stays-join, stays-none}
use Rattle.settle.proofs.ToldLaws.{OnImage, told-last, told-same, told-through, told-weaker}

-- a sum of one value more
pub sum_below-more : (value : ℕ → ℕ) (n : ℕ) → sum_below value (n + 1) ≡ sum_below value n + value n
unfolding sum_below
sum_below-more value n = rw add-one refl

pub sum_below-none : (value : ℕ → ℕ) → sum_below value 0 ≡ 0
unfolding sum_below
sum_below-none value = refl

pub number-most : (filled : Bool) → (if filled then 1 else 0) ≤ 1
number-most true = omega arith
number-most false = omega arith

-- images with the same bytes at each place clash alike
pub clash-stays : (g : Geometry) (old new : Image) → Stays g old new → NoClash g old → NoClash g new
clash-stays g old new stays clash f i h j b c has has' holds holds' same =
    clash f i h j b c has has' (sym (stays.kept f i has) ∙ holds) (sym (stays.kept h j has') ∙ holds') same

row_none : (g : Geometry) (f : ℕ) (found : Found) (calls : ℕ) (image : Image) → IsGathered g image found f 0 → IsRow g f 0 found 0 calls calls image image
row_none g f found calls image is = record {
  stays = stays-none g image is.sound;
  gathered = is;
  within = omega arith;
  live_is = sym (sum_below-none (live_at g image f));
  count = λ clash. omega arith;
}

most_here : (g : Geometry) (image : Image) (f i : ℕ) → i + 1 < logical g image (Head f) → most_calls g image f i ≡ 40
most_here g image f i below = ap (λ b. if b then 40 else 4) (lt-ltb (i + 1) (logical g image (Head f)) below)

most_past : (g : Geometry) (image : Image) (f i : ℕ) → logical g image (Head f) ≤ i + 1 → most_calls g image f i ≡ 4
most_past g image f i past = ap (λ b. if b then 40 else 4) (le-ltb (i + 1) (logical g image (Head f)) past)

row_more : (g : Geometry) (f i : ℕ) (found more : Found) (live n before mid calls : ℕ) (filled : Bool) (a b c : Image) → HasField g (Pointer f i)
    → n ≡ (if filled then 1 else 0) → IsRow g f i found live before mid a b → (NoClash g b → calls ≤ mid + most_calls g b f i)
    → IsPlaced g f i more filled b c → IsRow g f (i + 1) more (live + n) before calls a c
row_more g f i found more live n before mid calls filled a b c has n_is row count placed =
    let head = row.stays.heads f has.0 in
    let below = placed.below in
    let number : n ≡ live_at g a f i =
    n_is ∙ ap (λ (x : Bool). if x then 1 else 0) (placed.filled ∙ ap is_some (row.stays.kept f i has))
    in
    record {
      stays = stays-join g a b c row.stays placed.stays;
      gathered = placed.gathered;
      within = omega arith;
      live_is =
          ap (λ k. k + n) row.live_is ∙ ap (λ k. sum_below (live_at g a f) i + k) number ∙ sym (sum_below-more (live_at g a f) i);
      count = λ clash.
          let before_is = row.count clash in
          let more_is = count (clash-stays g a b row.stays clash) in
          let most = most_here g b f i below in
          omega arith;
    }

row_ended : (g : Geometry) (f i : ℕ) (found more : Found) (live before mid calls : ℕ) (a b c : Image) → f < g.files
    → IsRow g f i found live before mid a b → (NoClash g b → calls ≤ mid + most_calls g b f i)
    → IsEnded g f i more b c → IsWholeRow g f more live before calls a c
row_ended g f i found more live before mid calls a b c below row count end =
    let head = row.stays.heads f below in
    let head' = end.stays.heads f below in
    let past = end.past in
    let within = row.within in
    let places : i ≡ places_in g a f = omega arith in
    record {
      stays = stays-join g a b c row.stays end.stays;
      gathered = row-next g c more f i end.gathered (omega arith);
      live_is = row.live_is ∙ ap (sum_below (live_at g a f)) places;
      count = λ clash.
          let before_is = row.count clash in
          let more_is = count (clash-stays g a b row.stays clash) in
          let most = most_past g b f i past in
          omega arith;
    }

row_full : (g : Geometry) (f i : ℕ) (found : Found) (live before calls : ℕ) (a b : Image) → f < g.files → i ≡ limit g
    → IsRow g f i found live before calls a b → IsWholeRow g f found live before calls a b
row_full g f i found live before calls a b below is row =
    let head = row.stays.heads f below in
    let most = row.stays.sound.heads f below in
    let within = row.within in
    let places : i ≡ places_in g a f = omega arith in
    record {
      stays = row.stays;
      gathered = row-next g b found f i row.gathered (omega arith);
      live_is = row.live_is ∙ ap (sum_below (live_at g a f)) places;
      count = λ clash. let before_is = row.count clash in omega arith;
    }

row_cut : (g : Geometry) (f i : ℕ) (found : Found) (live before mid calls : ℕ) (a b c : Image) → f < g.files
    → IsRow g f i found live before mid a b → (NoClash g b → calls ≤ mid + most_calls g b f i)
    → Stays g b c → IsCut g (most_in_file g f) before calls a c
row_cut g f i found live before mid calls a b c below row count stays =
    let head = row.stays.heads f below in
    let within = row.within in
    record {
      stays = stays-join g a b c row.stays stays;
      count = λ clash.
          let before_is = row.count clash in
          let more_is = count (clash-stays g a b row.stays clash) in
          elim (cases_lt (i + 1) (logical g b (Head f))) [
            | inl here ↦ let most = most_here g b f i here in omega arith
            | inr past ↦ let most = most_past g b f i past in omega arith
          ];
    }

-- the same where the device tells its content
pub told-row-none : (g : Geometry) (told : Option Told) (f : ℕ) (found : Found) (calls : ℕ) → OnImage told (λ image. IsGathered g image found f 0)
    → OnImages (IsRow g f 0 found 0 calls calls) told told
told-row-none g told f found calls is =
    told-same told (λ image. IsGathered g image found f 0) (IsRow g f 0 found 0 calls calls) is (λ image gathered. row_none g f found calls image gathered)

pub told-row-more : (g : Geometry) (old mid new : Option Told) (f i : ℕ) (found more : Found) (live n before now calls : ℕ) (filled : Bool)
    → HasField g (Pointer f i) → n ≡ (if filled then 1 else 0) → OnImages (IsRow g f i found live before now) old mid
    → OnImage mid (λ image. NoClash g image → calls ≤ now + most_calls g image f i) → OnImages (IsPlaced g f i more filled) mid new
    → OnImages (IsRow g f (i + 1) more (live + n) before calls) old new
told-row-more g old mid new f i found more live n before now calls filled has n_is row count placed =
    told-through old mid new (λ image. NoClash g image → calls ≤ now + most_calls g image f i) (IsRow g f i found live before now)
    (IsPlaced g f i more filled) (IsRow g f (i + 1) more (live + n) before calls) row count placed
    (λ a b c first few last. row_more g f i found more live n before now calls filled a b c has n_is first few last)

pub told-row-ended : (g : Geometry) (old mid new : Option Told) (f i : ℕ) (found more : Found) (live before now calls : ℕ) → f < g.files
    → OnImages (IsRow g f i found live before now) old mid → OnImage mid (λ image. NoClash g image → calls ≤ now + most_calls g image f i)
    → OnImages (IsEnded g f i more) mid new → OnImages (IsWholeRow g f more live before calls) old new
told-row-ended g old mid new f i found more live before now calls below row count end =
    told-through old mid new (λ image. NoClash g image → calls ≤ now + most_calls g image f i) (IsRow g f i found live before now)
    (IsEnded g f i more) (IsWholeRow g f more live before calls) row count end
    (λ a b c first few last. row_ended g f i found more live before now calls a b c below first few last)

pub told-row-full : (g : Geometry) (old new : Option Told) (f i : ℕ) (found : Found) (live before calls : ℕ) → f < g.files → i ≡ limit g
    → OnImages (IsRow g f i found live before calls) old new → OnImages (IsWholeRow g f found live before calls) old new
told-row-full g old new f i found live before calls below is row =
    told-weaker old new (IsRow g f i found live before calls) (IsWholeRow g f found live before calls) row
    (λ a b one. row_full g f i found live before calls a b below is one)

pub told-row-cut : (g : Geometry) (old mid new : Option Told) (f i : ℕ) (found : Found) (live before now calls : ℕ) → f < g.files
    → OnImages (IsRow g f i found live before now) old mid → OnImage mid (λ image. NoClash g image → calls ≤ now + most_calls g image f i)
    → OnImages (Stays g) mid new → OnImages (IsCut g (most_in_file g f) before calls) old new
told-row-cut g old mid new f i found live before now calls below row count stays =
    told-through old mid new (λ image. NoClash g image → calls ≤ now + most_calls g image f i) (IsRow g f i found live before now)
    (Stays g) (IsCut g (most_in_file g f) before calls) row count stays
    (λ a b c first few last. row_cut g f i found live before now calls a b c below first few last)

-- what is gathered so far
pub told-gathered : (g : Geometry) (old new : Option Told) (f i : ℕ) (found : Found) (live before calls : ℕ)
    → OnImages (IsRow g f i found live before calls) old new → OnImage new (λ image. IsGathered g image found f i)
told-gathered g old new f i found live before calls row =
    told-last old new (λ image. IsGathered g image found f i) (IsRow g f i found live before calls) row (λ a b did. did.gathered)
