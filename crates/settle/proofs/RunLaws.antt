-- From file to file of a volume.
use Rattle.std.proofs.Common.{◌≡◌, ◌<◌, ◌≤◌, ◌+◌, ◌-◌, ℕ, zero, suc, Option, refl, sym, ap, ◌∙◌, inl, inr, arith}
use Rattle.std.specs.Prelude.{is_some, if◌then◌else◌}
use Rattle.std.proofs.lemmas.Bool.{cases_lt}
use Rattle.shared_disk.specs.State.{OnImages, Told}
use Rattle.vol_layout.specs.declared.geometry.Geometry.{Geometry}
use Rattle.vol_layout.specs.Ranges.{limit}
use Rattle.image_view.specs.Images.{Image}
use Rattle.settle.specs.Contents.{places_in}
use Rattle.settle.specs.Gathered.{Found, IsGathered}
use Rattle.settle.specs.Moves.{Stays}
use Rattle.settle.specs.Rows.{IsCut, IsRun, IsWholeRow, most_in_all, most_in_file}
use Rattle.settle.specs.Totals.{live_at, live_below, live_in, sum_below}
use Rattle.settle.proofs.MoveLaws.{stays-join, stays-none}
use Rattle.settle.proofs.RowLaws.{clash-stays, sum_below-more, sum_below-none}
use Rattle.settle.proofs.ToldLaws.{OnImage, told-join, told-last, told-same}

-- sums of values that are equal below a number
sum_below-same : (v w : ℕ → ℕ) (n m : ℕ) → n ≤ m → ((k : ℕ) → k < m → w k ≡ v k) → sum_below w n ≡ sum_below v n
unfolding sum_below
sum_below-same v w zero m le same = refl
sum_below-same v w (suc n) m le same =
    let rest = sum_below-same v w n m (omega arith) same in
    let last = same n (omega arith) in
    cc

-- a sum up to a number has the values below it
sum_below-within : (v : ℕ → ℕ) (n m : ℕ) → n < m → sum_below v n + v n ≤ sum_below v m
unfolding sum_below
sum_below-within v n zero lt = absurd (omega arith)
sum_below-within v n (suc m) lt =
    elim (cases_lt n m) [
      | inl below ↦ let rest = sum_below-within v n m below in omega (arith, rest)
      | inr here ↦ let is : n ≡ m = omega (arith, here) in rw is (omega arith)
    ]

-- the places of a file that are no holes are the same ones behind links
live_stays : (g : Geometry) (a b : Image) (f : ℕ) → f < g.files → Stays g a b → live_in g b f ≡ live_in g a f
live_stays g a b f below stays =
    let head = stays.heads f below in
    let most = stays.sound.heads f below in
    ap (λ n. sum_below (live_at g b f) (n - 1)) head
    ∙ sum_below-same (live_at g a f) (live_at g b f) (places_in g a f) (limit g) (omega arith)
    (λ i lt. ap (λ o. if is_some o then 1 else 0) (stays.kept f i (below, lt)))

run_none : (g : Geometry) (found : Found) (calls : ℕ) (image : Image) → IsGathered g image found 0 0 → IsRun g 0 found 0 calls calls image image
run_none g found calls image is = record {
  stays = stays-none g image is.sound;
  gathered = is;
  live_is = sym (sum_below-none (live_in g image));
  count = λ clash. let none = sum_below-none (places_in g image) in omega arith;
}

run_more : (g : Geometry) (n : ℕ) (found more : Found) (live next before mid calls : ℕ) (a b c : Image) → n < g.files
    → IsRun g n found live before mid a b → IsWholeRow g n more next mid calls b c → IsRun g (n + 1) more (live + next) before calls a c
run_more g n found more live next before mid calls a b c below run row = record {
  stays = stays-join g a b c run.stays row.stays;
  gathered = row.gathered;
  live_is =
      ap (λ k. k + next) run.live_is
      ∙ ap (λ k. live_below g a n + k) (row.live_is ∙ live_stays g a b n below run.stays)
      ∙ sym (sum_below-more (live_in g a) n);
  count = λ clash.
      let before_is = run.count clash in
      let more_is = row.count (clash-stays g a b run.stays clash) in
      let head = run.stays.heads n below in
      let sum = sum_below-more (places_in g a) n in
      omega arith;
}

run_cut : (g : Geometry) (n : ℕ) (found : Found) (live before mid calls : ℕ) (a b c : Image) → n < g.files
    → IsRun g n found live before mid a b → IsCut g (most_in_file g n) mid calls b c
    → IsCut g (most_in_all g) before calls a c
run_cut g n found live before mid calls a b c below run cut = record {
  stays = stays-join g a b c run.stays cut.stays;
  count = λ clash.
      let before_is = run.count clash in
      let more_is = cut.count (clash-stays g a b run.stays clash) in
      let head = run.stays.heads n below in
      let sum = sum_below-within (places_in g a) n g.files below in
      omega arith;
}

-- the same where the device tells its content
pub told-run-none : (g : Geometry) (told : Option Told) (found : Found) (calls : ℕ) → OnImage told (λ image. IsGathered g image found 0 0)
    → OnImages (IsRun g 0 found 0 calls calls) told told
told-run-none g told found calls is =
    told-same told (λ image. IsGathered g image found 0 0) (IsRun g 0 found 0 calls calls) is (λ image gathered. run_none g found calls image gathered)

pub told-run-more : (g : Geometry) (old mid new : Option Told) (n : ℕ) (found more : Found) (live next before now calls : ℕ) → n < g.files
    → OnImages (IsRun g n found live before now) old mid → OnImages (IsWholeRow g n more next now calls) mid new
    → OnImages (IsRun g (n + 1) more (live + next) before calls) old new
told-run-more g old mid new n found more live next before now calls below run row =
    told-join old mid new (IsRun g n found live before now) (IsWholeRow g n more next now calls) (IsRun g (n + 1) more (live + next) before calls) run row
    (λ a b c first last. run_more g n found more live next before now calls a b c below first last)

pub told-run-cut : (g : Geometry) (old mid new : Option Told) (n : ℕ) (found : Found) (live before now calls : ℕ) → n < g.files
    → OnImages (IsRun g n found live before now) old mid → OnImages (IsCut g (most_in_file g n) now calls) mid new
    → OnImages (IsCut g (most_in_all g) before calls) old new
told-run-cut g old mid new n found live before now calls below run cut =
    told-join old mid new (IsRun g n found live before now) (IsCut g (most_in_file g n) now calls)
    (IsCut g (most_in_all g) before calls) run cut
    (λ a b c first last. run_cut g n found live before now calls a b c below first last)

pub told-run-gathered : (g : Geometry) (old new : Option Told) (n : ℕ) (found : Found) (live before calls : ℕ)
    → OnImages (IsRun g n found live before calls) old new → OnImage new (λ image. IsGathered g image found n 0)
told-run-gathered g old new n found live before calls run =
    told-last old new (λ image. IsGathered g image found n 0) (IsRun g n found live before calls) run (λ a b did. did.gathered)
