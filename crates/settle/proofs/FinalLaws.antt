-- What settling owes once all files were settled, or a call was refused.
use Rattle.std.proofs.Common.{◌≡◌, ◌≤◌, ◌+◌, ◌*◌, ℕ, Option, subst, sym}
use Rattle.indexmap.specs.IndexMap.{IndexMap, IsUnique, index_map_len}
use Rattle.shared_disk.specs.State.{OnImages, Told}
use Rattle.vol_base.specs.declared.block.Digest.{Digest}
use Rattle.vol_layout.specs.declared.geometry.Geometry.{Geometry}
use Rattle.call_effects.specs.Places.{KeepsFiles}
use Rattle.image_view.specs.Settled.{IsSettled}
use Rattle.std.proofs.Common.{None}
use Rattle.settle.specs.Contents.{NoClash}
use Rattle.settle.specs.Distinct.{HasContents}
use Rattle.settle.specs.Gathered.{Found, IsGathered, IsTable, same_candidate, spot_at}
use Rattle.settle.specs.Moves.{Stays}
use Rattle.settle.specs.Rows.{IsCut, IsRun, most_in_all}
use Rattle.settle.specs.Sound.{IsSound}
use Rattle.settle.specs.Totals.{live_places, places_of}
use Rattle.settle.specs.declared.candidates.Candidate.{Candidate}
use Rattle.settle.specs.declared.candidates.Spot.{Spot}
use Rattle.settle.proofs.EndLaws.{contents-kept, files-kept, settled-image}
use Rattle.settle.proofs.GatherLaws.{gathered-none}
use Rattle.settle.proofs.ToldLaws.{OnImage, told-first, told-last, told-map, told-step, told-weaker}

-- nothing was found yet
pub table-none : (g : Geometry) (found : Found) → ((x : Digest) (n : ℕ) → found x n ≡ None) → IsTable g found
table-none g found none = record { dense = λ x m n le free. none x n; fields = λ x n s there. let e = none x n in absurd cc }

pub told-begin : (v g : Geometry) (told : Option Told) (found : Found) → g ≡ v → OnImage told (IsSound v)
    → ((x : Digest) (n : ℕ) → found x n ≡ None) → OnImage told (λ image. IsGathered g image found 0 0)
told-begin v g told found is sound none =
    told-map told (IsSound v) (λ image. IsGathered g image found 0 0) sound
    (λ image is_sound. gathered-none g image found (subst (λ (k : Geometry). IsSound k image) (sym is) is_sound) none)

-- the run of all files
abbrev pub Ran : Geometry → Found → ℕ → ℕ → ℕ → Option Told → Option Told → Type 0
Ran g found live before calls old new = OnImages (IsRun g g.files found live before calls) old new

pub ran-settled : (g : Geometry) (old new : Option Told) (found : Found) (live before calls : ℕ) → Ran g found live before calls old new
    → OnImage new IsSettled
ran-settled g old new found live before calls ran =
    told-last old new IsSettled (IsRun g g.files found live before calls) ran (λ a b did. settled-image g b found did.gathered)

pub ran-stays : (v g : Geometry) (old new : Option Told) (found : Found) (live before calls : ℕ) → g ≡ v → Ran g found live before calls old new
    → OnImages (Stays v) old new
ran-stays v g old new found live before calls is ran =
    subst (λ (k : Geometry). OnImages (Stays k) old new) is
    (told-weaker old new (IsRun g g.files found live before calls) (Stays g) ran (λ a b did. did.stays))

pub stays-files : (v : Geometry) (old new : Option Told) → OnImage old (IsSound v) → OnImages (Stays v) old new → OnImages KeepsFiles old new
stays-files v old new sound stays = told-step old new (IsSound v) (Stays v) KeepsFiles stays sound (λ a b is_sound did. files-kept v a b is_sound did)

pub ran-live : (v g : Geometry) (old new : Option Told) (found : Found) (live before calls : ℕ) → g ≡ v → Ran g found live before calls old new
    → OnImage old (λ image. live ≡ live_places v image)
ran-live v g old new found live before calls is ran =
    subst (λ (k : Geometry). OnImage old (λ image. live ≡ live_places k image)) is
    (told-first old new (λ image. live ≡ live_places g image) (IsRun g g.files found live before calls) ran (λ a b did. did.live_is))

pub ran-distinct : {S : Type 0} (v g : Geometry) (old new : Option Told) (spots : IndexMap Candidate Spot S) (n live before calls : ℕ) → g ≡ v
    → n ≡ index_map_len spots → IsUnique same_candidate spots → Ran g (spot_at spots) live before calls old new
    → OnImage old (λ image. HasContents v image n)
ran-distinct v g old new spots n live before calls is n_is unique ran =
    subst (λ (k : Geometry). OnImage old (λ image. HasContents k image n)) is
    (told-first old new (λ image. HasContents g image n) (IsRun g g.files (spot_at spots) live before calls) ran
    (λ a b did. contents-kept g a b spots n n_is unique did.stays did.gathered))

pub ran-count : (v g : Geometry) (old new : Option Told) (found : Found) (live before calls : ℕ) → g ≡ v → Ran g found live before calls old new
    → OnImage old (λ image. NoClash v image → calls ≤ before + (40 * places_of v image + 4 * v.files))
ran-count v g old new found live before calls is ran =
    subst (λ (k : Geometry). OnImage old (λ image. NoClash k image → calls ≤ before + (40 * places_of k image + 4 * k.files))) is
    (told-first old new (λ image. NoClash g image → calls ≤ before + (40 * places_of g image + 4 * g.files))
    (IsRun g g.files found live before calls) ran (λ a b did. did.count))

-- and a run that was cut
abbrev pub WasCut : Geometry → ℕ → ℕ → Option Told → Option Told → Type 0
WasCut g before calls old new = OnImages (IsCut g (most_in_all g) before calls) old new

pub cut-stays : (v g : Geometry) (old new : Option Told) (before calls : ℕ) → g ≡ v → WasCut g before calls old new → OnImages (Stays v) old new
cut-stays v g old new before calls is cut =
    subst (λ (k : Geometry). OnImages (Stays k) old new) is
    (told-weaker old new (IsCut g (most_in_all g) before calls) (Stays g) cut (λ a b did. did.stays))

pub cut-count : (v g : Geometry) (old new : Option Told) (before calls : ℕ) → g ≡ v → WasCut g before calls old new
    → OnImage old (λ image. NoClash v image → calls ≤ before + (40 * places_of v image + 4 * v.files))
cut-count v g old new before calls is cut =
    subst (λ (k : Geometry). OnImage old (λ image. NoClash k image → calls ≤ before + (40 * places_of k image + 4 * k.files))) is
    (told-first old new (λ image. NoClash g image → calls ≤ before + (40 * places_of g image + 4 * g.files))
    (IsCut g (most_in_all g) before calls) cut (λ a b did. did.count))
