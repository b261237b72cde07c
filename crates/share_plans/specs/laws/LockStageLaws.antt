-- What each step did by which the groups of the two data blocks are locked.
use Rattle.std.proofs.Common.{◌≡◌, ◌≢◌, ◌<◌, ◌≤◌, ◌/◌, ◌==◌, ℕ, Bool, true, false, List, [], ◌∷◌, None, Some, refl, ap, sym, subst, ◌∙◌, arith, length}
use Rattle.std.specs.Prelude.{if◌then◌else◌}
use Rattle.std.proofs.lemmas.Bool.{eqb-false, eqb-true}
use Rattle.vol_base.specs.declared.block.Key.{Key}
use Rattle.vol_layout.specs.declared.field.Field.TheVariants.{Count}
use Rattle.vol_layout.specs.declared.kind.Resource.{Resource}
use Rattle.vol_layout.specs.declared.kind.Resource.TheVariants.{Group}
use Rattle.vol_layout.specs.Ranges.{per_table}
use Rattle.image_view.specs.laws.FrameLaws.{HasResource-resource_of}
use Rattle.lock_store.specs.Memories.{holds}
use Rattle.lock_store.specs.Views.{host_at}
use Rattle.host_facts.specs.Facts.Fact.{RecordIs}
use Rattle.host_facts.specs.Views.{WorldView}
use Rattle.host_facts.specs.laws.ToldLaws.{sure_all}
use Rattle.plan_parts.specs.Fetched.{LockBusy, LockTaken}
use Rattle.plan_parts.specs.TakenLocks.{AreHeld}
use Rattle.plan_parts.specs.declared.outcome.Outcome.TheVariants as outcomes
use Rattle.share_plans.specs.Causes.{IsCause}
use Rattle.share_plans.specs.Lefts.{behind_lock, left}
use Rattle.share_plans.specs.Stands.{At, IsArena, IsBase, IsComparing, IsSlotKnown, known_of}
use Rattle.share_plans.specs.Spots.{IsPair}
use Rattle.share_plans.specs.Went.{Went, answer_at, behind_first, behind_locks, ended_by}
use Rattle.share_plans.specs.declared.sharing.Place.{Place}
use Rattle.share_plans.specs.declared.sharing.Place.TheVariants.{Arena, File}
use Rattle.share_plans.specs.declared.sharing.Shared.TheVariants as answers
use Rattle.share_plans.specs.declared.stage.Came.TheVariants.{More}
use Rattle.share_plans.specs.declared.stage.Core.{Core}
use Rattle.share_plans.specs.declared.stage.Pair.{Pair}
use Rattle.share_plans.specs.declared.stage.Stage.{Stage}
use Rattle.share_plans.specs.declared.stage.Stage.TheVariants as stages
use Rattle.share_plans.specs.laws.ClosingLaws.{keeps_relocked}
use Rattle.share_plans.specs.laws.EndLaws.{same_share}
use Rattle.share_plans.specs.laws.SpareLaws.{spares_try}
use Rattle.share_plans.specs.laws.StepLaws.{looked_keeps, looked_sure, same_image, went_ended, went_on}
use Rattle.share_plans.specs.laws.StillLaws.{base_on, pair_has, pair_on, places_on, still_locked, still_looks, with_taken}
use Rattle.plan_parts.specs.MadeCalls.{TriedSo, try_of}
use Rattle.vol_layout.specs.Ranges.{HasResource}

-- a lock was busy: what was locked before is freed
pub lock_busy : (v w : WorldView) (core : Core) (stage : Stage) (after : List Resource) (key : Key) (r : Resource) → answer_at stage ≡ None
    → IsBase v core → length core.taken < left core stage → HasResource v.locks.geometry r → LockBusy core.host v w core.taken after key
    → TriedSo core.host v w r (Some key)
    → Went v w core (with_taken core after) stage (ended_by after (answers.Busy key))
lock_busy v w core stage after key r fresh base less has did so =
    went_ended v w core (with_taken core after) stage (answers.Busy key) (record {
      fresh = fresh;
      same = same_share core after;
      keeps = looked_keeps core.host v w did.looks;
      places = places_on core.host v w (still_looks core.host v w did.looks) core.file core.source base.places;
      taking = did.taking;
      empty = did.looks.facts (RecordIs []) base.empty;
      cause = looked_sure core.host v w (λ image. Unit {0}) (IsCause v.locks.geometry core stage (answers.Busy key)) did.looks
          (sure_all w.locks core.host (λ image. Unit {0}) (λ image. tt)) (λ image is. same_image v.locks.geometry image);
      other = did.other;
      less = subst (λ (ts : List Resource). length ts < left core stage) (sym did.same) less;
      event = try_of v core.host r (Some key);
      spares = spares_try v core.host r (Some key) has;
      quiet = λ command may. so command may.0;
    })

module _ (v w : WorldView) (core : Core) (pair : Pair) (after : List Resource) (q : ℕ)
    (has : HasResource v.locks.geometry (Group q)) (did : LockTaken core.host v w (Group q) core.taken after)
    (so : TriedSo core.host v w (Group q) None) where
  abbrev new : Core
  new = with_taken core after

  -- the last lock was taken
  last_locked : (stage : Stage) (source : Place) → core.source ≡ source → answer_at stage ≡ None → IsComparing w new pair
      → behind_lock source ≤ left core stage → Went v w core new stage (behind_locks source pair)
  last_locked stage (File f i) is fresh now more =
      went_on v w core new stage (stages.ReadsSource pair) fresh refl (same_share core after)
      (keeps_relocked core.host v w (Group q) tt did.gains.relocks)
      (now, subst (λ (s : Place). IsSlotKnown w core.host s pair.source) (sym is) tt) did.gains.relocks.passes.images (omega (arith, more))
      (try_of v core.host (Group q) None) (spares_try v core.host (Group q) None has) (λ command may. so command outcomes.Open)
  last_locked stage (Arena s) is fresh now more =
      went_on v w core new stage (stages.PeeksAgain pair) fresh refl (same_share core after)
      (keeps_relocked core.host v w (Group q) tt did.gains.relocks) (now, subst IsArena (sym is) tt) did.gains.relocks.passes.images
      (omega (arith, more)) (try_of v core.host (Group q) None) (spares_try v core.host (Group q) None has)
      (λ command may. so command outcomes.Open)

  taken_held : holds (host_at w.locks core.host) (Group q) ≡ true
  taken_held = (subst (AreHeld w core.host) did.pushed did.taking.each).2

  base_now : IsBase v core → IsBase w new
  base_now base = base_on v w core (still_locked core.host v w (Group q) core.taken after did) after did.taking base

  pair_now : IsPair v.locks.geometry (known_of core) core.file core.index core.source pair
      → IsPair w.locks.geometry (known_of core) core.file core.index core.source pair
  pair_now is = pair_on v w core (still_locked core.host v w (Group q) core.taken after did) pair is

  not_none : after ≢ []
  not_none none = let both : Group q ∷ core.taken ≡ [] = sym did.pushed ∙ none in cc

-- the group of the place's data block was locked
pub first_locked : (v w : WorldView) (core : Core) (pair : Pair) (after : List Resource) → At v core (stages.Locks pair)
    → LockTaken core.host v w (Group (pair.own / per_table)) core.taken after
    → TriedSo core.host v w (Group (pair.own / per_table)) None
    → Went v w core (with_taken core after) (stages.Locks pair) (behind_first core.source pair)
first_locked v w core pair after at did so = pick (pair.own / per_table == pair.source / per_table) refl
  where
    has : HasResource v.locks.geometry (Group (pair.own / per_table))
    has =
        HasResource-resource_of v.locks.geometry (Count pair.own)
        (pair_has v.locks.geometry (known_of core) core.file core.index core.source pair at.2).0

    few : length after ≡ 1
    few = let long = ap length did.pushed in let none = ap length at.1 in omega (arith, long, none)

    comparing : pair.own / per_table ≡ pair.source / per_table → IsComparing w (with_taken core after) pair
    comparing same =
        let held = taken_held v w core pair after (pair.own / per_table) has did so in record {
          base = base_now v w core pair after (pair.own / per_table) has did so at.0;
          are_pair = pair_now v w core pair after (pair.own / per_table) has did so at.2;
          locked = record {
            own = held;
            from = subst (λ (r : ℕ). holds (host_at w.locks core.host) (Group r) ≡ true) same held;
            some = not_none v w core pair after (pair.own / per_table) has did so;
            few = omega (arith, few);
          };
        }

    pick : (b : Bool) → (pair.own / per_table == pair.source / per_table) ≡ b
        → Went v w core (with_taken core after) (stages.Locks pair)
        (if b then behind_locks core.source pair else More (stages.LocksSource pair))
    pick true same =
        last_locked v w core pair after (pair.own / per_table) has did so (stages.Locks pair) core.source refl refl
        (comparing (eqb-true (pair.own / per_table) (pair.source / per_table) same)) (omega arith)
    pick false other =
        went_on v w core (with_taken core after) (stages.Locks pair) (stages.LocksSource pair) refl refl (same_share core after)
        (keeps_relocked core.host v w (Group (pair.own / per_table)) tt did.gains.relocks) (
          base_now v w core pair after (pair.own / per_table) has did so at.0,
          did.pushed ∙ ap (λ (ts : List Resource). Group (pair.own / per_table) ∷ ts) at.1,
          pair_now v w core pair after (pair.own / per_table) has did so at.2,
          eqb-false (pair.own / per_table) (pair.source / per_table) other,
        )
        did.gains.relocks.passes.images (omega arith) (try_of v core.host (Group (pair.own / per_table)) None)
        (spares_try v core.host (Group (pair.own / per_table)) None has) (λ command may. so command outcomes.Open)

-- the group of the source's data block was locked
pub source_locked : (v w : WorldView) (core : Core) (pair : Pair) (after : List Resource) → At v core (stages.LocksSource pair)
    → LockTaken core.host v w (Group (pair.source / per_table)) core.taken after
    → TriedSo core.host v w (Group (pair.source / per_table)) None
    → Went v w core (with_taken core after) (stages.LocksSource pair) (behind_locks core.source pair)
source_locked v w core pair after at did so =
    let has = pair_has v.locks.geometry (known_of core) core.file core.index core.source pair at.2 in
    let here = HasResource-resource_of v.locks.geometry (Count pair.source) has.1 in
    let long = ap length did.pushed in
    let one = ap length at.1 in
    let few : length after ≡ 2 = omega (arith, long, one) in
    last_locked v w core pair after (pair.source / per_table) here did so (stages.LocksSource pair) core.source refl refl (record {
      base = base_now v w core pair after (pair.source / per_table) here did so at.0;
      are_pair = pair_now v w core pair after (pair.source / per_table) here did so at.2;
      locked = record {
        own = (still_locked core.host v w (Group (pair.source / per_table)) core.taken after did).held (Group (pair.own / per_table))
            (HasResource-resource_of v.locks.geometry (Count pair.own) has.0) (subst (AreHeld v core.host) at.1 at.0.taking.each).2;
        from = taken_held v w core pair after (pair.source / per_table) here did so;
        some = not_none v w core pair after (pair.source / per_table) here did so;
        few = omega (arith, few);
      };
    }) (omega arith)

-- the locks that were taken before are fewer than the steps that are left
pub lock_room_locks : (v : WorldView) (core : Core) (pair : Pair) → At v core (stages.Locks pair) → length core.taken < left core (stages.Locks pair)
lock_room_locks v core pair at = let none = ap length at.1 in omega (arith, none)

pub lock_room_locks_source : (v : WorldView) (core : Core) (pair : Pair) → At v core (stages.LocksSource pair)
    → length core.taken < left core (stages.LocksSource pair)
lock_room_locks_source v core pair at = let one = ap length at.1 in let more = some_left core.source in omega (arith, one, more)
  where
    some_left : (source : Place) → 13 ≤ behind_lock source
    some_left (File f i) = omega arith
    some_left (Arena s) = omega arith
