-- The stretch of a device's contents on which a lone host is: how it begins, and how it grows.
use Rattle.std.proofs.Common.{◌≡◌, ◌≤◌, ◌+◌, ◌∙◌, ℕ, List, None, Option, Some, refl, ap, sym, subst, arith, inl, inr, option_map}
use Rattle.std.specs.Prelude.{IfSome, slice_set}
use Rattle.vol_layout.specs.declared.geometry.Geometry.{Geometry}
use Rattle.shared_disk.specs.Calls.{told_after}
use Rattle.shared_disk.specs.Events.{Acts, Call, Event, Registers}
use Rattle.shared_disk.specs.Seen.{DiskSeen}
use Rattle.shared_disk.specs.State.{State, Told}
use Rattle.shared_disk.specs.laws.CalledLaws.{TellsOnce, counter_called, told_called}
use Rattle.shared_disk.specs.laws.PrefixLaws.{EachImage-begun, EachImage-wrote}
use Rattle.call_effects.specs.Places.{KeepsFiles}
use Rattle.image_view.specs.Images.{Image, geometry_of}
use Rattle.image_view.specs.Valid.{IsValid, IsVolume}
use Rattle.image_view.specs.laws.GeometryLaws.{IsVolume-valid}
use Rattle.image_view.specs.laws.ValidLaws.{IsValid-later}
use Rattle.lock_store.specs.Views.{counter_of, told_of}
use Rattle.disk_locks.specs.Sure.{BothTold}
use Rattle.host_facts.specs.Views.{WorldView}
use Rattle.host_facts.specs.Wrote.{FilesStay, HasValidImage}
use Rattle.host_facts.specs.laws.ToldLaws.{both_same}
use Rattle.host_runs.specs.CallRights.{MayMake}
use Rattle.host_runs.specs.Moments.{Moment}
use Rattle.recover_plan.specs.laws.StepLaws.{AsksNoKey, counter_kept}
use Rattle.settle.specs.Passes.{GoesOn, PassesVolumes}
use Rattle.settle.specs.laws.PassLaws.{passes_same, passes_then}
use Rattle.solo.specs.Alone.{IsLater}
use Rattle.solo.specs.Commands.{MayNotJoin}

-- nothing changed
pub later_same : (n : ℕ) (v w : WorldView) → w.locks.disk.state ≡ v.locks.disk.state → w.locks.geometry ≡ v.locks.geometry
    → v.locks.disk.faults ≤ w.locks.disk.faults → IsLater n v w
later_same n v w state geometry faults =
    let told : told_of w.locks ≡ told_of v.locks = ap (λ (s : State). s.told) state in
    let counter : counter_of w.locks ≡ counter_of v.locks = ap (λ (s : State). s.counter) state in
    let later : counter_of v.locks ≤ counter_of w.locks = omega (arith, counter) in record {
      files = both_same (told_of v.locks) (told_of w.locks) KeepsFiles told (λ image f. refl);
      geometry = geometry;
      faults = faults;
      counter = later;
      given = omega (arith, counter);
      passes = subst (λ (o : Option Told). PassesVolumes (counter_of v.locks) (counter_of w.locks) (told_of v.locks) o) (sym told)
          (passes_same (counter_of v.locks) (counter_of w.locks) (told_of v.locks) later);
    }

pub later_first : (n : ℕ) (v : WorldView) → IsLater n v v
later_first n v = later_same n v v refl refl (omega arith)

-- one block was written, behind which the image is valid, with the files of before
passed_write : (given later : ℕ) (g : Geometry) (told : Option Told) (place : ℕ) (block : List ℕ) → given ≤ later
    → IfSome (option_map (told_after place block) told) (λ t. IsValid g later t.image)
    → BothTold told (option_map (told_after place block) told) KeepsFiles
    → PassesVolumes given later told (option_map (told_after place block) told)
passed_write given later g None place block le valid files = tt
passed_write given later g (Some t) place block le valid files =
    λ was.
    let Meets : Image → Type 0 = λ image. IsVolume later image × KeepsFiles t.image image in
    EachImage-wrote Meets (Some t) (Some t) place block
    (EachImage-begun Meets (Some t) (IsValid-later (geometry_of t.image) given later t.image le was, λ f. refl))
    (IsVolume-valid g later (slice_set t.image place block) valid, files)

-- one block at most
passed : (given later : ℕ) (g : Geometry) (old new : Option Told) → given ≤ later → TellsOnce old new
    → IfSome new (λ t. IsValid g later t.image) → BothTold old new KeepsFiles → PassesVolumes given later old new
passed given later g old new le (inl same) valid files =
    subst (λ (o : Option Told). PassesVolumes given later old o) (sym same) (passes_same given later old le)
passed given later g old new le (inr wrote) valid files =
    subst (λ (o : Option Told). PassesVolumes given later old o) (sym wrote.2)
    (passed_write given later g old wrote.0 wrote.1 le
    (subst (λ (o : Option Told). IfSome o (λ t. IsValid g later t.image)) wrote.2 valid)
    (subst (λ (o : Option Told). BothTold old o KeepsFiles) wrote.2 files))

-- one call was made, which kept the files, and behind which the image is valid (`valid_now` of a consistent world)
pub later_step : (n : ℕ) (v w : WorldView) (e : Event) → Acts e v.locks.disk w.locks.disk → w.locks.geometry ≡ v.locks.geometry
    → FilesStay v w → HasValidImage w → counter_of w.locks ≤ counter_of v.locks + n → IsLater n v w
later_step n v w e acts geometry files valid given =
    let counter = counter_called e.call e.reply v.locks.disk.state w.locks.disk.state acts.changes in record {
      files = files;
      geometry = geometry;
      faults = acts.later;
      counter = counter;
      given = given;
      passes = passed (counter_of v.locks) (counter_of w.locks) w.locks.geometry (told_of v.locks) (told_of w.locks) counter
          (told_called e.call e.reply v.locks.disk.state w.locks.disk.state acts.changes) valid files;
    }

-- files that stayed over two stretches stayed over both
kept_then : (first middle last : Option Told) → BothTold first middle KeepsFiles → BothTold middle last KeepsFiles
    → BothTold first last KeepsFiles
kept_then None None last earlier on = on
kept_then None (Some u) last earlier on = absurd earlier
kept_then (Some t) None last earlier on = absurd earlier
kept_then (Some t) (Some u) None earlier on = on
kept_then (Some t) (Some u) (Some x) earlier on = λ f. on f ∙ earlier f

-- two stretches
pub later_then : (n m : ℕ) (v u w : WorldView) → IsLater n v u → IsLater m u w → IsLater (n + m) v w
later_then n m v u w earlier on = record {
  files = kept_then (told_of v.locks) (told_of u.locks) (told_of w.locks) earlier.files on.files;
  geometry = on.geometry ∙ earlier.geometry;
  faults = let a = earlier.faults in let b = on.faults in omega (arith, a, b);
  counter = let a = earlier.counter in let b = on.counter in omega (arith, a, b);
  given = let a = earlier.given in let b = on.given in omega (arith, a, b);
  passes = passes_then (counter_of v.locks) (counter_of u.locks) (counter_of w.locks) (told_of v.locks) (told_of u.locks) (told_of w.locks)
      on.counter earlier.passes on.passes;
}

-- with fewer keys, where no more were given
pub later_given : (n m : ℕ) (v w : WorldView) → counter_of w.locks ≤ counter_of v.locks + m → IsLater n v w → IsLater m v w
later_given n m v w given later = record {
  files = later.files;
  geometry = later.geometry;
  faults = later.faults;
  counter = later.counter;
  given = given;
  passes = later.passes;
}

-- a call of a turn that does not join asks for no key, so none is given (`counter_called` says that the counter does not fall)
asks_none : (m : Moment) (k : ℕ) (call : Call) → MayNotJoin m.command → MayMake m k call → AsksNoKey call
asks_none m k (Registers of) joins may = absurd (subst MayNotJoin may.0 joins)
asks_none m k call joins may = tt

pub made_counter : (m : Moment) (e : Event) (old new : DiskSeen) → MayNotJoin m.command → MayMake m e.key e.call → Acts e old new
    → new.state.counter ≡ old.state.counter
made_counter m e old new joins may acts = counter_kept e old new acts (asks_none m e.key e.call joins may)

-- where no key was given, the counter is as it was
pub goes_later : (v w : WorldView) → IsLater 0 v w → GoesOn (counter_of v.locks) (counter_of w.locks) (told_of v.locks) (told_of w.locks)
goes_later v w later = record {
  counter = let low = later.counter in let high = later.given in omega (arith, low, high);
  passes = later.passes;
}
