-- What each step did by which a slot of the arena was read.
use Rattle.std.proofs.Common.{◌≡◌, ◌≢◌, ◌<◌, ◌≤◌, ◌+◌, ◌-◌, ◌==◌, ◌^◌, ℕ, ◌/◌, Bool, true}
use Rattle.std.proofs.Common.{false, List, None, Ok, refl, ap, sym, subst, ◌∙◌, arith, length}
use Rattle.std.specs.Prelude.{if◌then◌else◌}
use Rattle.std.proofs.lemmas.Bool.{eqb-false, eqb-true}
use Rattle.vol_layout.specs.declared.field.Field.TheVariants.{Slot}
use Rattle.vol_layout.specs.declared.geometry.Geometry.{Geometry}
use Rattle.vol_layout.specs.declared.kind.Kind.TheVariants as kinds
use Rattle.vol_layout.specs.declared.kind.Resource.{Resource}
use Rattle.vol_layout.specs.declared.kind.Resource.TheVariants.{Group}
use Rattle.vol_layout.specs.Fields.{HasField, table_of}
use Rattle.vol_layout.specs.Ranges.{IsGeometry, data_blocks, per_table}
use Rattle.image_view.specs.Images.{Image}
use Rattle.image_view.specs.Numbers.{field}
use Rattle.image_view.specs.laws.FrameLaws.{HasTable-table_of}
use Rattle.lock_store.specs.Memories.{holds}
use Rattle.lock_store.specs.Views.{host_at, key_at}
use Rattle.call_effects.specs.laws.PointerLaws.{fresh-unmarked}
use Rattle.disk_locks.specs.Consistent.{Consistent}
use Rattle.disk_locks.specs.Sure.{Sure}
use Rattle.vol_base.specs.Packing.{packed_bytes}
use Rattle.vol_base.specs.declared.command.Command.{Command}
use Rattle.shared_disk.specs.Events.{Event, event}
use Rattle.shared_disk.specs.Events.Reply.{Shows}
use Rattle.lock_store.specs.Events.{read_of}
use Rattle.host_facts.specs.Calls.{PeeksSlot}
use Rattle.host_facts.specs.Facts.Fact.{SlotIs}
use Rattle.host_facts.specs.Knows.{Knows}
use Rattle.host_facts.specs.Looks.{Looks}
use Rattle.host_facts.specs.Others.{Others}
use Rattle.host_facts.specs.Views.{WorldView}
use Rattle.host_facts.specs.laws.ToldLaws.{sure_and, sure_of}
use Rattle.plan_parts.specs.QuietCalls.{Noted, QuietCall}
use Rattle.plan_parts.specs.declared.outcome.Outcome.TheVariants as outcomes
use Rattle.plan_parts.specs.laws.QuietCallLaws.{quiet_table, valid_now}
use Rattle.plan_parts.specs.laws.TakenLaws.{taking_same}
use Rattle.share_plans.specs.Causes.{HasNoSource, HasOwn, IsCause}
use Rattle.share_plans.specs.Lefts.{behind_lock, left}
use Rattle.share_plans.specs.Places.{HasBlock}
use Rattle.share_plans.specs.ReadTables.{Known}
use Rattle.share_plans.specs.Spots.{IsPair, IsShown, IsSourceShown, Reads}
use Rattle.share_plans.specs.Stands.{At, IsBase, IsSlotKnown, known_of}
use Rattle.share_plans.specs.Went.{MayShare, Went, answer_at, behind_again, behind_peek, ended_by}
use Rattle.share_plans.specs.declared.sharing.Place.{Place}
use Rattle.share_plans.specs.declared.sharing.Place.TheVariants.{Arena}
use Rattle.share_plans.specs.declared.sharing.Shared.{Shared}
use Rattle.share_plans.specs.declared.sharing.Shared.TheVariants as answers
use Rattle.share_plans.specs.declared.stage.Came.TheVariants.{Answered, More}
use Rattle.share_plans.specs.declared.stage.Core.{Core}
use Rattle.share_plans.specs.declared.stage.Pair.{Pair}
use Rattle.share_plans.specs.declared.stage.Stage.{Stage}
use Rattle.share_plans.specs.declared.stage.Stage.TheVariants as stages
use Rattle.share_plans.specs.laws.EndLaws.{same_share}
use Rattle.share_plans.specs.laws.KnownLaws.{place_shown, tables_read}
use Rattle.share_plans.specs.laws.StepLaws.{IsPlain, looked_ended, looked_keeps, looked_nothing, went_on}
use Rattle.share_plans.specs.laws.StillLaws.{base_on, comparing_on, pair_has, shown_on, still_looks}
use Rattle.share_plans.specs.HintSpares.{SparesHints}
use Rattle.share_plans.specs.laws.SpareLaws.{spares_place}
use Rattle.share_plans.specs.laws.StepLaws.{same_image}

-- what a read of a slot gave
pub record Peeked (v w : WorldView) (core : Core) (s number : ℕ) : Type 0 where
  pub did : PeeksSlot v.locks core.host s (Ok number) w.locks
  pub others : Others core.host v w
  pub looks : Looks core.host v w
  pub range : number ≤ data_blocks v.locks.geometry
  pub shown : Sure w.locks core.host (λ image. field w.locks.geometry image (Slot s) ≡ number)
  pub known : (d : ℕ) → number ≡ d + 1 → holds (host_at v.locks core.host) (Group (d / per_table)) ≡ true → Knows w core.host (SlotIs s d)

module _ (v w : WorldView) (is : Consistent v.locks) (later : Consistent w.locks) (core : Core) (s number : ℕ) (source : core.source ≡ Arena s)
    (has : HasField v.locks.geometry (Slot s)) (got : Peeked v w core s number) where
  abbrev peek_event : Event
  peek_event =
      event (key_at v.locks core.host) (read_of v.locks (kinds.Table (table_of (Slot s)))) (Shows (packed_bytes 4 got.did.0))

  quiet_peek : (command : Command) → MayShare command
      → QuietCall command core.host v w peek_event (Noted command core.host v outcomes.Open) (Noted command core.host w outcomes.Open)
  quiet_peek command may =
      quiet_table command v w core.host (table_of (Slot s)) got.did.0 outcomes.Open (HasTable-table_of v.locks.geometry (Slot s) has) got.did.1
      got.others (valid_now v is) (λ f i n r write. absurd (may.1 f i n write))

  spares_peek : SparesHints v.locks.geometry peek_event.call
  spares_peek =
      spares_place v.locks.geometry (kinds.Table (table_of (Slot s))) (HasTable-table_of v.locks.geometry (Slot s) has) refl

  base_peeked : IsBase v core → IsBase w core
  base_peeked base =
      base_on v w core (still_looks core.host v w got.looks) core.taken
      (taking_same v w core.host core.taken got.looks.geometry got.looks.memory base.taking) base

  -- what is sure of the image then
  peek_sure : (own : ℕ) → IsBase v core → IsShown v.locks.geometry (known_of core) core.file core.index own
      → Sure w.locks core.host (λ image. HasOwn v.locks.geometry image core own × (field v.locks.geometry image (Slot s) ≡ number))
  peek_sure own base shown =
      let now = base_peeked base in
      subst (λ (g : Geometry). Sure w.locks core.host (λ image. HasOwn g image core own × (field g image (Slot s) ≡ number))) got.looks.geometry
      (sure_and w.locks core.host (λ image. HasOwn w.locks.geometry image core own) (λ image. field w.locks.geometry image (Slot s) ≡ number)
      (sure_of w.locks core.host (Reads w.locks.geometry (known_of core)) (λ image. HasOwn w.locks.geometry image core own)
      (λ image reads.
      place_shown w.locks.geometry (known_of core) image later.geometry reads core.file core.index own
      (shown_on v w core (still_looks core.host v w got.looks) own shown))
      (tables_read w core.host core.tables later now.kept now.empty))
      got.shown)

  -- it came to an answer
  peek_ends : (stage : Stage) (own : ℕ) (answer : Shared) → IsPlain answer → answer_at stage ≡ None → IsBase v core
      → IsShown v.locks.geometry (known_of core) core.file core.index own → length core.taken < left core stage
      → ((image : Image) → HasOwn v.locks.geometry image core own → field v.locks.geometry image (Slot s) ≡ number
      → IsCause v.locks.geometry core stage answer image image)
      → Went v w core core stage (ended_by core.taken answer)
  peek_ends stage own answer plain fresh base shown less cause =
      let now = base_peeked base in
      looked_ended v w core core stage answer plain fresh (same_share core core.taken) got.looks now.places now.taking now.empty
      (λ image. HasOwn v.locks.geometry image core own × (field v.locks.geometry image (Slot s) ≡ number)) (peek_sure own base shown)
      (λ image both. cause image both.0 both.1) less peek_event spares_peek quiet_peek

  goes : (stage after : Stage) → answer_at stage ≡ None → answer_at after ≡ None → At w core after → left core after < left core stage
      → Went v w core core stage (More after)
  goes stage after fresh none stands less =
      went_on v w core core stage after fresh none (same_share core core.taken) (looked_keeps core.host v w got.looks) stands
      (looked_nothing core.host v w got.looks) less peek_event spares_peek quiet_peek

  -- the first read
  pub first_peeked : (own : ℕ) → At v core (stages.Peeks own) → Went v w core core (stages.Peeks own) (behind_peek own number)
  first_peeked own at = pick (number == 0) refl
    where
      none : length core.taken ≡ 0
      none = ap length at.1

      ended : (answer : Shared) → IsPlain answer
          → ((image : Image) → HasOwn v.locks.geometry image core own → field v.locks.geometry image (Slot s) ≡ number
          → IsCause v.locks.geometry core (stages.Peeks own) answer image image)
          → Went v w core core (stages.Peeks own) (Answered answer)
      ended answer plain cause =
          subst (λ (ts : List Resource). Went v w core core (stages.Peeks own) (ended_by ts answer)) at.1
          (peek_ends (stages.Peeks own) own answer plain refl at.0 at.2 (omega (arith, none)) cause)

      two : (b : Bool) → (number - 1 == own) ≡ b → number ≢ 0
          → Went v w core core (stages.Peeks own)
          (if b then Answered answers.Already else More (stages.Locks (record { own = own; source = number - 1; shared = true })))
      two true same some =
          let here = eqb-true (number - 1) own same in
          ended answers.Already tt (λ image has shown. (
            (own, has, subst (λ (p : Place). HasBlock v.locks.geometry image p own) (sym source) (omega (arith, shown, here, some))),
            same_image v.locks.geometry image,
          ))
      two false other some =
          let apart = eqb-false (number - 1) own other in
          let pair : Pair = record { own = own; source = number - 1; shared = true } in
          goes (stages.Peeks own) (stages.Locks pair) refl refl (
            base_peeked at.0,
            at.1,
            record {
              own = shown_on v w core (still_looks core.host v w got.looks) own at.2;
              from = subst (λ (p : Place). IsSourceShown w.locks.geometry (known_of core) p (number - 1) true) (sym source)
                  (subst (λ (g : Geometry). number - 1 < data_blocks g) (sym got.looks.geometry) (omega (arith, got.range, some)), refl);
              other = λ same. apart (sym same);
            },
          )
          (subst (λ (p : Place). behind_lock p + 1 < 16) (sym source) (omega arith))

      pick : (b : Bool) → (number == 0) ≡ b
          → Went v w core core (stages.Peeks own)
          (if b then Answered answers.NoSource
          else (if number - 1 == own then Answered answers.Already
          else More (stages.Locks (record { own = own; source = number - 1; shared = true }))))
      pick true zero =
          ended answers.NoSource tt (λ image has shown. (
            subst (λ (p : Place). HasNoSource v.locks.geometry image core p (stages.Peeks own)) (sym source) (has, shown ∙ eqb-true number 0 zero),
            same_image v.locks.geometry image,
          ))
      pick false some = two (number - 1 == own) refl (eqb-false number 0 some)

  -- the second read
  pub peeked_again : (pair : Pair) → At v core (stages.PeeksAgain pair)
      → Went v w core core (stages.PeeksAgain pair) (behind_again core.taken pair number)
  peeked_again pair at = pick (number == pair.source + 1) refl
    where
      pick : (b : Bool) → (number == pair.source + 1) ≡ b
          → Went v w core core (stages.PeeksAgain pair)
          (if b then More (stages.ReadsSource pair) else ended_by core.taken answers.NoSource)
      pick true same =
          let still = still_looks core.host v w got.looks in
          goes (stages.PeeksAgain pair) (stages.ReadsSource pair) refl refl (
            comparing_on v w core still pair (taking_same v w core.host core.taken got.looks.geometry got.looks.memory at.0.base.taking) at.0,
            subst (λ (p : Place). IsSlotKnown w core.host p pair.source) (sym source)
                (got.known pair.source (eqb-true number (pair.source + 1) same) at.0.locked.from),
          )
          (omega arith)
      pick false other =
          peek_ends (stages.PeeksAgain pair) pair.own answers.NoSource tt refl at.0.base at.0.are_pair.own (omega (arith, at.0.locked.few))
          (λ image has shown. (
            subst (λ (p : Place). HasNoSource v.locks.geometry image core p (stages.PeeksAgain pair)) (sym source)
                (has, λ names. eqb-false number (pair.source + 1) other (sym shown ∙ names)),
            same_image v.locks.geometry image,
          ))

-- a slot's number may stand there
pub slot_room : (g : Geometry) (known : Known) (f i : ℕ) (source : Place) (pair : Pair) → IsGeometry g → IsPair g known f i source pair
    → pair.source + 1 < 2 ^ 32
slot_room g known f i source pair range is =
    let has = (pair_has g known f i source pair is).1 in
    let small = (fresh-unmarked g pair.source range has).1 in omega (arith, small)
