-- The beginning of a lone host as a whole.
use Rattle.std.proofs.Common.{◌≡◌, ◌≤◌, ◌∙◌, None, Option, refl, ap, arith, sym, subst}
use Rattle.call_effects.specs.Places.{KeepsFiles}
use Rattle.disk_locks.specs.Consistent.{Consistent}
use Rattle.disk_locks.specs.Sure.{BothTold}
use Rattle.host_facts.specs.Views.{WorldView}
use Rattle.host_facts.specs.laws.ToldLaws.{both_same, map_told}
use Rattle.image_view.specs.laws.GeometryLaws.{IsVolume-valid}
use Rattle.lock_store.specs.Views.{counter_of, told_of}
use Rattle.plan_parts.specs.laws.QuietCallLaws.{valid_now}
use Rattle.shared_disk.specs.Seen.{DiskSeen}
use Rattle.settle.specs.Passes.{Passes, PassesVolumes}
use Rattle.settle.specs.laws.PassLaws.{passes_same, passes_then}
use Rattle.shared_disk.specs.State.{State, Told}
use Rattle.solo.specs.Alone.{IsAlone, IsLater}
use Rattle.solo.specs.Starts.{HasRefused, HasStartCause, HasStarted, IsGiven, TellsVolume}
use Rattle.solo.specs.Views.{SoloView}
use Rattle.settle.specs.declared.lone.LoneNo.{LoneNo}
use Rattle.settle.specs.declared.lone.LoneNo.TheVariants as refusals
use Rattle.solo.specs.laws.OwnCalls.{risen}

-- a cause since later on is one since before
pub cause_since : (a b c : DiskSeen) (no' : LoneNo) → a.faults ≤ b.faults → b.state.told ≡ a.state.told → HasStartCause b c no'
    → HasStartCause a c no'
cause_since a b c refusals.Failed later told cause = risen a.faults b.faults c.faults later cause
cause_since a b c (refusals.Bad place) later told cause = sym told ∙ cause
cause_since a b c (refusals.Busy key) later told cause = sym told ∙ cause
cause_since a b c refusals.NoKeys later told cause = cause
cause_since a b c refusals.NoMemory later told cause = tt
cause_since a b c refusals.Full later told cause = cause

-- where nothing was written
passed_unwritten : (s t : State) → t.told ≡ s.told → s.counter ≤ t.counter → Passes s t
passed_unwritten s t told later =
    subst (λ (o : Option Told). PassesVolumes s.counter t.counter s.told o) (sym told) (passes_same s.counter t.counter s.told later)

pub refused_unwritten : (a b : DiskSeen) (no' : LoneNo) → b.state.told ≡ a.state.told → TellsVolume b.state → IsGiven 1 a.state b.state
    → HasStartCause a b no' → HasRefused a no' b
refused_unwritten a b no' told volume given cause = record {
  cause = cause;
  files = both_same a.state.told b.state.told KeepsFiles told (λ image f. refl);
  volume = volume;
  given = record { later = given.later; few = let few = given.few in omega (arith, few) };
  passes = passed_unwritten a.state b.state told given.later;
}

module _ (a b : DiskSeen) (v w : WorldView) (begun : v.locks.disk ≡ b) (later : a.faults ≤ b.faults) (told : b.state.told ≡ a.state.told)
    (given : IsGiven 1 a.state b.state) (is : Consistent w.locks) (since : IsLater 1 v w) where
  files : BothTold a.state.told w.locks.disk.state.told KeepsFiles
  files = subst (λ (o : Option Told). BothTold o (told_of w.locks) KeepsFiles) (ap (λ (d : DiskSeen). d.state.told) begun ∙ told) since.files

  given_now : IsGiven 2 a.state w.locks.disk.state
  given_now =
      let counter = ap (λ (d : DiskSeen). d.state.counter) begun in
      let low = given.later in
      let few = given.few in
      let later = since.counter in
      let more = since.given in record { later = omega (arith, counter, low, later); few = omega (arith, counter, few, more) }

  passes_now : Passes a.state w.locks.disk.state
  passes_now =
      passes_then a.state.counter b.state.counter (counter_of w.locks) a.state.told b.state.told (told_of w.locks)
      (subst (λ (d : DiskSeen). d.state.counter ≤ counter_of w.locks) begun since.counter) (passed_unwritten a.state b.state told given.later)
      (subst (λ (d : DiskSeen). PassesVolumes d.state.counter (counter_of w.locks) d.state.told (told_of w.locks)) begun since.passes)

  pub refused_begun : (d : DiskSeen) (no' : LoneNo) → w.locks.disk ≡ d → HasStartCause v.locks.disk w.locks.disk no' → HasRefused a no' d
  refused_begun d no' last cause = subst (HasRefused a no') last (record {
    cause = cause_since a b w.locks.disk no' later told (subst (λ (x : DiskSeen). HasStartCause x w.locks.disk no') begun cause);
    files = files;
    volume = map_told (told_of w.locks) _ _ (valid_now w is) (λ t valid. IsVolume-valid w.locks.geometry (counter_of w.locks) t.image valid);
    given = given_now;
    passes = passes_now;
  })

  pub started_begun : (s : SoloView) → s ≡ record { world = w; stopped = None; began = w.locks.disk } → IsAlone w → HasStarted a s
  started_begun s same alone = subst (HasStarted a) (sym same) (record {
    alone = alone;
    going = refl;
    began = refl;
    later = let same = ap (λ (d : DiskSeen). d.faults) begun in let more = since.faults in omega (arith, later, same, more);
    files = files;
    valid = valid_now w is;
    given = given_now;
    passes = passes_now;
  })
