-- What a host's calls say in the words of settling.
use Rattle.std.proofs.Common.{◌≡◌, ℕ, List, None, Option, Some, Result, Ok, Err, ap, inl, inr, subst}
use Rattle.std.specs.Prelude.{IfErr, IfOk, IfSome, slice_index}
use Rattle.vol_layout.specs.declared.geometry.Geometry.{Geometry}
use Rattle.call_effects.specs.Places.{KeepsFiles}
use Rattle.disk_locks.specs.Sure.{BothTold}
use Rattle.image_view.specs.Images.{Image}
use Rattle.image_view.specs.Valid.{IsValid}
use Rattle.host_facts.specs.Wrote.{HasValidImage}
use Rattle.lock_store.specs.Views.{counter_of}
use Rattle.shared_disk.specs.Seen.{DiskSeen}
use Rattle.shared_disk.specs.State.{OnImages, Told}
use Rattle.share_plans.specs.declared.sharing.Place.{Place}
use Rattle.share_plans.specs.declared.sharing.Place.TheVariants.{Arena, File}
use Rattle.share_plans.specs.declared.sharing.Shared.{Shared}
use Rattle.share_plans.specs.declared.sharing.Shared.TheVariants as answers
use Rattle.settle.specs.Links.{HasOwnAlone, IsQuiet, IsShare, SourceHas}
use Rattle.settle.specs.Links as settling
use Rattle.settle.specs.Stops.{IsStopped}
use Rattle.settle.specs.declared.lone.LoneNo.{LoneNo}
use Rattle.settle.specs.declared.lone.LoneNo.TheVariants as refusals
use Rattle.settle.specs.laws.SoundLaws.{sound-valid}
use Rattle.solo.specs.Shares.{Comes, Halts, IsLone, IsNoKey, KeepsNumbers, SourceIs}
use Rattle.solo.specs.Stops.{HasCause}
use Rattle.solo.specs.Views.{OnBoth, SoloView, told, volume}

module _ (g : Geometry) (counter f i : ℕ) (source : Place) where
  has_source : (image : Image) (from : Place) (d : ℕ) → SourceIs g image from (Some d) → SourceHas g image from d
  has_source image (File h j) d is = is
  has_source image (Arena s) d is = tt

  own_alone : (image : Image) (from : Place) → IsLone g image f i from → HasOwnAlone g image f i from
  own_alone image (File h j) lone = ((lone.number, lone.own), lone.from)
  own_alone image (Arena s) lone = (lone.number, lone.own)

  module _ (old new : Image) (valid : IsValid g counter new) (files : KeepsFiles old new) where
    is_quiet : KeepsNumbers g old new → IsQuiet g old new
    is_quiet numbers = record { sound = sound-valid g counter new valid; numbers = numbers; files = files }

    came : (answer : Shared) → IsNoKey answer → Comes g f i source answer old new → settling.Comes g f i source answer old new
    came answers.Linked named come = (
      (come.0.number, come.0.other, record { own = come.0.own; from = has_source old source come.0.other come.0.from }),
      record { sound = sound-valid g counter new valid; link = come.1; files = files },
    )
    came answers.Already named come =
        ((come.0.number, record { own = come.0.own; from = has_source old source come.0.number come.0.from }), is_quiet come.1)
    came (answers.Differs at) named come = (
      (
        come.0.number,
        come.0.other,
        record { own = come.0.own; from = has_source old source come.0.other come.0.from },
        λ same. come.0.apart.differ (ap (λ (bytes : List ℕ). slice_index bytes at) same),
      ),
      is_quiet come.1,
    )
    came answers.Hole named come = (come.0, is_quiet come.1)
    came answers.NoSource named come = (own_alone old source come.0, is_quiet come.1)
    came (answers.Busy key) named come = absurd named

    halted : Halts g f i source old new → settling.Halts g f i source old new
    halted (inl numbers) = inl (is_quiet numbers)
    halted (inr link) = inr (record { sound = sound-valid g counter new valid; link = link; files = files })

  pub told_came : (a b : Option Told) (answer : Shared) → IsNoKey answer → BothTold a b (Comes g f i source answer) → BothTold a b KeepsFiles
      → IfSome b (λ t. IsValid g counter t.image) → OnImages (settling.Comes g f i source answer) a b
  told_came None None answer named come files valid = tt
  told_came None (Some u) answer named come files valid = come
  told_came (Some t) None answer named come files valid = come
  told_came (Some t) (Some u) answer named come files valid = came t.image u.image valid files answer named come

  pub told_halted : (a b : Option Told) → BothTold a b (Halts g f i source) → BothTold a b KeepsFiles
      → IfSome b (λ t. IsValid g counter t.image) → OnImages (settling.Halts g f i source) a b
  told_halted None None halt files valid = tt
  told_halted None (Some u) halt files valid = halt
  told_halted (Some t) None halt files valid = halt
  told_halted (Some t) (Some u) halt files valid = halted t.image u.image valid files halt

-- what stopped the host is a cause for which settling stops
pub is_stopped : {X : Type 0} (began last : DiskSeen) (stopped : Option LoneNo) (result : Result X LoneNo)
    → IfErr result (λ why. stopped ≡ Some why) → IfErr result (HasCause began last) → IfErr result (IsStopped stopped)
is_stopped began last stopped (Ok answer) is cause = tt
is_stopped began last stopped (Err refusals.Failed) is cause = is
is_stopped began last stopped (Err refusals.Full) is cause = absurd cause
is_stopped began last stopped (Err (refusals.Bad place)) is cause = is
is_stopped began last stopped (Err (refusals.Busy key)) is cause = is
is_stopped began last stopped (Err refusals.NoKeys) is cause = absurd cause
is_stopped began last stopped (Err refusals.NoMemory) is cause = is

-- the same of the calls of a host
module _ (s t : SoloView) (f i : ℕ) (source : Place) (result : Result Shared LoneNo) where
  valid_there : volume t ≡ volume s → HasValidImage t.world → IfSome (told t) (λ u. IsValid (volume s) (counter_of t.world.locks) u.image)
  valid_there same valid =
      subst (λ (g : Geometry). IfSome (told t) (λ u. IsValid g (counter_of t.world.locks) u.image)) same valid

  pub ok_came : IfOk result IsNoKey → IfOk result (λ answer. OnBoth s t (Comes (volume s) f i source answer)) → OnBoth s t KeepsFiles
      → volume t ≡ volume s → HasValidImage t.world
      → IfOk result (λ answer. OnImages (settling.Comes (volume s) f i source answer) (told s) (told t))
  ok_came named come files same valid = cases result named come
    where
      cases : (r : Result Shared LoneNo) → IfOk r IsNoKey → IfOk r (λ answer. OnBoth s t (Comes (volume s) f i source answer))
          → IfOk r (λ answer. OnImages (settling.Comes (volume s) f i source answer) (told s) (told t))
      cases (Ok answer) named come =
          told_came (volume s) (counter_of t.world.locks) f i source (told s) (told t) answer named come files (valid_there same valid)
      cases (Err why) named come = tt

  pub err_halted : IfErr result (λ why. OnBoth s t (Halts (volume s) f i source)) → OnBoth s t KeepsFiles
      → volume t ≡ volume s → HasValidImage t.world
      → IfErr result (λ why. OnImages (settling.Halts (volume s) f i source) (told s) (told t))
  err_halted halt files same valid = cases result halt
    where
      cases : (r : Result Shared LoneNo) → IfErr r (λ why. OnBoth s t (Halts (volume s) f i source))
          → IfErr r (λ why. OnImages (settling.Halts (volume s) f i source) (told s) (told t))
      cases (Ok answer) halt = tt
      cases (Err why) halt =
          told_halted (volume s) (counter_of t.world.locks) f i source (told s) (told t) halt files (valid_there same valid)
