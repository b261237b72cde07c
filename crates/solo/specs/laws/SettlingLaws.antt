-- A volume that was settled by a host that came and left.
use Rattle.std.proofs.Common.{◌≡◌, ◌∙◌, ℕ, arith, [], None, Option, Some, Result, Ok, Err, sym, ap, subst}
use Rattle.std.specs.Prelude.{IfErr, IfOk, IfSome, OnOk}
use Rattle.vol_layout.specs.declared.geometry.Geometry.{Geometry}
use Rattle.call_effects.specs.Changes.{Changes}
use Rattle.call_effects.specs.Places.{KeepsFiles}
use Rattle.disk_locks.specs.Sure.{BothTold}
use Rattle.image_view.specs.Images.{Image, geometry_in, geometry_of}
use Rattle.image_view.specs.Settled.{IsSettled, IsSettledIn}
use Rattle.image_view.specs.Valid.{IsValid, IsVolume}
use Rattle.image_view.specs.laws.GeometryLaws.{IsVolume-valid, geometry_of-spelled}
use Rattle.shared_disk.specs.Seen.{DiskSeen}
use Rattle.shared_disk.specs.State.{OnImages, State, Told}
use Rattle.settle.specs.Distinct.{HasContents}
use Rattle.settle.specs.Moves.{Stays}
use Rattle.settle.specs.Passes.{GoesOn, Passes}
use Rattle.settle.specs.Sound.{IsSound}
use Rattle.settle.specs.Stops.{IsRefused}
use Rattle.settle.specs.Totals.{live_places}
use Rattle.settle.specs.declared.lone.LoneNo.{LoneNo}
use Rattle.settle.specs.declared.lone.LoneNo.TheVariants as refusals
use Rattle.settle.specs.declared.settling.Settled.{Settled}
use Rattle.settle.specs.laws.PassLaws.{passes_then}
use Rattle.settle.specs.laws.SettledLaws.{contents_stay, heads_stay, held_stays, live_stays, settled_stays}
use Rattle.settle.specs.laws.SoundLaws.{sound-valid}
use Rattle.solo.specs.Settlings.{HasSettled, both_of}
use Rattle.solo.specs.Starts.{HasStartCause, IsGiven}
use Rattle.solo.specs.Stops.{HasCause}
use Rattle.solo.specs.Views.{IsSince}
use Rattle.solo.specs.laws.OwnCalls.{risen}

module _ (g : Geometry) (counter : ℕ) (counts : Settled) where
  module _ (i j k : Image) (sound : IsSound g i) (stays : Stays g i j) (same : Changes g [] None j k) where
    live_is : counts.live ≡ live_places g i → counts.live ≡ live_places g k
    live_is is =
        is ∙ sym (live_stays g i j sound stays.heads stays.kept)
        ∙ sym (live_stays g j k stays.sound (heads_stay g j k stays.sound same) (held_stays g j k stays.sound same))

    holds_them : HasContents g i counts.distinct → HasContents g k counts.distinct
    holds_them held =
        contents_stay g j k stays.sound (heads_stay g j k stays.sound same) (held_stays g j k stays.sound same) counts.distinct
        (contents_stay g i j sound stays.heads stays.kept counts.distinct held)

    is_settled : IsSettled j → IsSettledIn g k
    is_settled settled =
        settled_stays g j k stays.sound same
        (subst (λ (x : Geometry). IsSettledIn x j) (geometry_of-spelled g j stays.sound.spelled) settled)

    pub settled_whole : IsSettled j → counts.live ≡ live_places g i → HasContents g i counts.distinct → IsValid g counter k → HasSettled counts k
    settled_whole settled live held valid =
        let volume : g ≡ geometry_of k = sym (geometry_of-spelled g k valid.geometry) in record {
          settled = subst (λ (x : Geometry). IsSettledIn x k) volume (is_settled settled);
          live = subst (λ (x : Geometry). counts.live ≡ live_places x k) volume (live_is live);
          distinct = subst (λ (x : Geometry). HasContents x k counts.distinct) volume (holds_them held);
        }

-- the geometry is that of the images on both sides of a step that changes nothing, and so one
same_volume : (g h : Geometry) (counter : ℕ) (j k : Image) → IsSound g j → Changes h [] None j k → IsValid h counter k → h ≡ g
same_volume g h counter j k sound same valid =
    sym (geometry_of-spelled h k valid.geometry) ∙ ap geometry_in same.super ∙ geometry_of-spelled g j sound.spelled

-- a volume that was settled by a host that then left
pub whole_settled : (g h : Geometry) (counter : ℕ) (a b c : Option Told) (settled : Result Settled LoneNo) (left : Result Unit LoneNo)
    → IfSome a (λ t. IsSound g t.image) → OnImages (Stays g) a b → OnOk settled (IfSome b (λ t. IsSettled t.image))
    → IfOk settled (λ counts. IfSome a (λ t. counts.live ≡ live_places g t.image))
    → IfOk settled (λ counts. IfSome a (λ t. HasContents g t.image counts.distinct))
    → OnOk left (BothTold b c (Changes h [] None)) → IfSome c (λ t. IsValid h counter t.image)
    → IfOk (both_of settled left) (λ counts. IfSome c (λ t. HasSettled counts t.image))
whole_settled g h counter a b c (Err why) left sound stays settled live held same valid = tt
whole_settled g h counter a b c (Ok counts) (Err why) sound stays settled live held same valid = tt
whole_settled g h counter a b c (Ok counts) (Ok done) sound stays settled live held same valid =
    cases a b c sound stays settled live held same valid
  where
    cases : (x y z : Option Told) → IfSome x (λ t. IsSound g t.image) → OnImages (Stays g) x y → IfSome y (λ t. IsSettled t.image)
        → IfSome x (λ t. counts.live ≡ live_places g t.image) → IfSome x (λ t. HasContents g t.image counts.distinct)
        → BothTold y z (Changes h [] None) → IfSome z (λ t. IsValid h counter t.image) → IfSome z (λ t. HasSettled counts t.image)
    cases x y None sound stays settled live held same valid = tt
    cases (Some t) (Some u) (Some w) sound stays settled live held same valid =
        let one = same_volume g h counter u.image w.image stays.sound same valid in
        settled_whole g counter counts t.image u.image w.image sound stays
        (subst (λ (v : Geometry). Changes v [] None u.image w.image) one same) settled live held
        (subst (λ (v : Geometry). IsValid v counter w.image) one valid)
    cases None (Some u) (Some w) sound stays settled live held same valid = absurd stays
    cases (Some t) None (Some w) sound stays settled live held same valid = absurd stays
    cases None None (Some w) sound stays settled live held same valid = absurd same

-- a valid volume can be settled
pub told_sound : (g : Geometry) (counter : ℕ) (o : Option Told) → IfSome o (λ t. IsValid g counter t.image) → IfSome o (λ t. IsSound g t.image)
told_sound g counter None valid = tt
told_sound g counter (Some t) valid = sound-valid g counter t.image valid

pub told_volume : (g : Geometry) (counter : ℕ) (o : Option Told) → IfSome o (λ t. IsValid g counter t.image) → IfSome o (λ t. IsVolume counter t.image)
told_volume g counter None valid = tt
told_volume g counter (Some t) valid = IsVolume-valid g counter t.image valid

-- no file changes on the whole way
pub told_files : (a b c d : Option Told) → BothTold a b KeepsFiles → OnImages KeepsFiles b c → BothTold c d KeepsFiles → BothTold a d KeepsFiles
told_files None None None d x y z = z
told_files (Some t) (Some u) (Some v) None x y z = z
told_files (Some t) (Some u) (Some v) (Some w) x y z = λ f. z f ∙ y f ∙ x f
told_files None (Some u) c d x y z = absurd x
told_files (Some t) None c d x y z = absurd x
told_files None None (Some v) d x y z = absurd y
told_files (Some t) (Some u) None d x y z = absurd y

-- on the whole way each image is a valid volume with the files of the first, and no more keys are given than the host's beginning took
module _ (old begun last : State) (on : GoesOn begun.counter last.counter begun.told last.told) where
  pub whole_passes : Passes old begun → Passes old last
  whole_passes earlier =
      passes_then old.counter begun.counter last.counter old.told begun.told last.told (let same = on.counter in omega (arith, same)) earlier
      on.passes

  pub whole_given : (n : ℕ) → IsGiven n old begun → IsGiven n old last
  whole_given n given =
      let same = on.counter in
      let later = given.later in
      let few = given.few in record { later = omega (arith, same, later); few = omega (arith, same, few) }

-- the cause of a refusal, since the device was handed in
cause_whole : (old began last : DiskSeen) (why : LoneNo) → IsSince old began → HasCause began last why → HasStartCause old last why
cause_whole old began last refusals.Failed later cause = risen old.faults began.faults last.faults later.faults cause
cause_whole old began last refusals.Full later cause = cause
cause_whole old began last (refusals.Bad place) later cause = later.tells cause
cause_whole old began last (refusals.Busy key) later cause = later.tells cause
cause_whole old began last refusals.NoKeys later cause = absurd cause
cause_whole old began last refusals.NoMemory later cause = tt

-- what both answers come to
module _ (settled : Result Settled LoneNo) (left : Result Unit LoneNo) where
  pub both_cause : (old began last : DiskSeen) (stopped : Option LoneNo) → IsSince old began → IfErr settled (IsRefused stopped)
      → IfSome stopped (λ why. left ≡ Err why) → IfErr left (HasCause began last) → IfErr (both_of settled left) (HasStartCause old last)
  both_cause old began last stopped later refused again cause = cases settled left refused again cause
    where
      hit : (l : Result Unit LoneNo) (why : LoneNo) → stopped ≡ Some why → IfSome stopped (λ no'. l ≡ Err no') → IfErr l (HasCause began last)
          → HasStartCause old last why
      hit l why is again cause =
          let same : l ≡ Err why = subst (λ (o : Option LoneNo). IfSome o (λ no'. l ≡ Err no')) is again in
          cause_whole old began last why later (subst (λ (r : Result Unit LoneNo). IfErr r (HasCause began last)) same cause)

      cases : (s : Result Settled LoneNo) (l : Result Unit LoneNo) → IfErr s (IsRefused stopped) → IfSome stopped (λ why. l ≡ Err why)
          → IfErr l (HasCause began last) → IfErr (both_of s l) (HasStartCause old last)
      cases (Ok counts) (Ok done) refused again cause = tt
      cases (Ok counts) (Err why) refused again cause = cause_whole old began last why later cause
      cases (Err refusals.Failed) l refused again cause = hit l refusals.Failed refused again cause
      cases (Err refusals.Full) l refused again cause = absurd refused
      cases (Err (refusals.Bad place)) l refused again cause = hit l (refusals.Bad place) refused again cause
      cases (Err (refusals.Busy key)) l refused again cause = hit l (refusals.Busy key) refused again cause
      cases (Err refusals.NoKeys) l refused again cause = absurd refused
      cases (Err refusals.NoMemory) l refused again cause = tt
