-- What holds of a cluster before its first turn.
use Rattle.std.proofs.Common.{◌≡◌, inl, inr, ◌+◌, ◌++◌, ◌<◌, ◌≤◌, ◌^◌, ℕ, zero, suc, All, List, [], ◌∷◌, Option, Some, None, true, false, is_some, length, replicate, slice_index_or, refl, ap, sym, subst, ◌∙◌, arith}
use Rattle.std.proofs.Math.ListN.{get_or-append}
use Rattle.std.proofs.Math.Seq.{get_or-append_seam}
use Rattle.std.proofs.lemmas.Bool.{cases_eq}
use Rattle.std.proofs.lemmas.List.{length-append, length-replicate}
use Rattle.vol_base.specs.declared.answer.Answer.{Answer}
use Rattle.vol_base.specs.declared.command.Command.{Command}
use Rattle.workload.specs.Workloads.{IsWorkload}
use Rattle.workload.specs.Entries.{most_commands}
use Rattle.workload.specs.declared.line.Line.{Line}
use Rattle.workload.specs.declared.line.Workload.{Workload}
use Rattle.lock_store.specs.Memories.{dropped}
use Rattle.host_facts.specs.Views.{WorldView}
use Rattle.lock_store.specs.Views.{LocksView, host_at}
use Rattle.shared_disk.specs.Seen.{DiskSeen}
use Rattle.image_view.specs.Valid.{IsValid}
use Rattle.histories.specs.Joined.{death_after, of_answers, standing_death}
use Rattle.histories.specs.laws.PhaseLaws.{phase-workload, phased-workload}
use Rattle.host_notes.specs.laws.KeyMemories.{remembered_start}
use Rattle.host_runs.specs.DeviceCalls.{OnImage}
use Rattle.host_runs.specs.Notes.{no_notes}
use Rattle.cluster.specs.Carries.{IsFresh}
use Rattle.cluster.specs.Agreements.{Agree, IsHead, IsKnownLine, IsSound, IsStanding, given_in}
use Rattle.cluster.specs.Parts.{IsOpenFrom}
use Rattle.cluster.specs.Plans.{IsResting}
use Rattle.cluster.specs.Budgets.{IsMeasured, used_at}
use Rattle.cluster.specs.Runs.{Inv, LeadsTo, Led}
use Rattle.cluster.specs.Seats.{PlanNotedOf, PlanStandsOf}
use Rattle.cluster.specs.Starts.{AreFirst, IsRoomFor, first_budget, first_cluster, first_parts}
use Rattle.cluster.specs.Views.{BudgetView, IsFirstSeat, LedgerView, PartsView, at_command, no_seat, seat_at, state_of}
use Rattle.cluster.specs.declared.carried.Carried.{Carried}
use Rattle.cluster.specs.declared.plan.Plan.{Plan}
use Rattle.cluster.specs.declared.starting.Room.{Room}
use Rattle.cluster.specs.laws.BudgetLaws.{budget_begins}
use Rattle.cluster.specs.laws.FreshLaws.{fresh_noted, fresh_rests}
use Rattle.cluster.specs.laws.MeasureLaws.{measured_by}
use Rattle.cluster.specs.laws.OpenLaws.{open_begun}

-- nothing is answered
none_given : (n : ℕ) → 0 ≡ 0 + given_in (replicate n None)
none_given zero = refl
none_given (suc n) = none_given n

no_answers : {A : Type 0} (step : Command → Answer → A → A) (lines : List Line) (n h : ℕ) (before : A)
    → of_answers step lines (replicate n None) h before ≡ before
no_answers step [] n h before = refl
no_answers step (line ∷ lines) zero h before = refl
no_answers step (line ∷ lines) (suc n) h before = no_answers step lines n h before

-- each place of a list of one value has that value
each_same : {A : Type 0} (n : ℕ) (a : A) (h : ℕ) → slice_index_or (replicate n a) h a ≡ a
each_same zero a h = refl
each_same (suc n) a zero = refl
each_same (suc n) a (suc h) = each_same n a h

-- one host more
pub first_more : (lines : List Line) (n : ℕ) (heads : List (Option ℕ)) (next : Option ℕ) → AreFirst lines n heads → IsOpenFrom lines 0 n next
    → AreFirst lines (n + 1) (heads ++ next ∷ [])
first_more lines n heads next first opens = record {
  long = let long = length-append heads (next ∷ []) in let first_long = first.long in omega (arith, long, first_long);
  each = λ h below.
      elim (cases_eq h n) [
        | inl same ↦
            let at : slice_index_or (heads ++ next ∷ []) h None ≡ next =
            ap (λ (k : ℕ). slice_index_or (heads ++ next ∷ []) k None) (same ∙ sym first.long) ∙ get_or-append_seam heads next [] None in
            subst (λ (o : Option ℕ). IsOpenFrom lines 0 h o) (sym at) (subst (λ (k : ℕ). IsOpenFrom lines 0 k next) (sym same) opens)
        | inr other ↦
            let long = first.long in
            let within : h < n = omega (arith, below, other) in
            let at : slice_index_or (heads ++ next ∷ []) h None ≡ slice_index_or heads h None =
            get_or-append heads (next ∷ []) None h (omega (arith, within, long)) in
            subst (λ (o : Option ℕ). IsOpenFrom lines 0 h o) (sym at) (first.each h within)
      ];
}

pub few_lines : (lines : List Line) → length lines ≤ most_commands → length lines < 2 ^ 32
unfolding most_commands
few_lines lines few = omega (arith, few)

module _ (device : DiskSeen) (w : Workload) (room : Room) (is : IsWorkload w) (known : All IsKnownLine w.lines) (ready : IsRoomFor w room)
    (phases : w.phases < 2 ^ 32) where
  abbrev v : PartsView
  v = first_parts device w room

  long_now : length room.ledger.answers ≡ length w.lines
  long_now = ap (λ (l : LedgerView). length l.answers) ready.ledger ∙ length-replicate (length w.lines) None

  head_now : (h : ℕ) → h < w.geometry.hosts → IsHead w.lines room.ledger.answers h (slice_index_or room.heads.items h None)
  head_now h below =
      subst (λ (l : LedgerView). IsHead w.lines l.answers h (slice_index_or room.heads.items h None)) (sym ready.ledger)
      (open_begun w.lines (length w.lines) h (slice_index_or room.heads.items h None) (ready.heads.each h below))

  no_events : length room.ledger.events ≡ length room.ledger.history + given_in room.ledger.answers
  no_events =
      subst (λ (l : LedgerView). length l.events ≡ length l.history + given_in l.answers) (sym ready.ledger) (none_given (length w.lines))

  pub first_sound : IsSound v
  first_sound = record {
    phased = phased-workload w is;
    allowed = is.lines;
    known = known;
    few = few_lines w.lines is.few;
    phases = phases;
    phase = phase-workload w is;
    geometry = refl;
    volume = is.geometry;
    long = long_now;
    seats = ready.hosts;
    heads = ready.heads.long;
    head = head_now;
    past = λ p line at earlier. absurd (omega (arith, earlier));
    events = no_events;
  }

  seat_now : (h : ℕ) → h < w.geometry.hosts → IsFirstSeat w.geometry (seat_at v h)
  seat_now h below = let long = ready.hosts in ready.seats h (no_seat w.geometry) (omega (arith, below, long))

  host_now : (h : ℕ) → host_at v.world.locks h ≡ dropped
  host_now h = each_same 16 dropped h

  rests_now : (h : ℕ) (carried : Carried) → IsFresh w.geometry carried → IsResting v.world v.cache h carried
  rests_now h carried is =
      fresh_rests w.geometry v.world v.cache h carried is refl
      (record {
        volume = ready.volume;
        known = λ t p of kept. let both : None ≡ Some p = sym (ready.nothing h t) ∙ kept in absurd cc;
      })

  idle_seat : (h : ℕ) → h < w.geometry.hosts → is_some (seat_at v h).plan ≡ true → ⊥
  idle_seat h below busy =
      let none = ap is_some (seat_now h below).plan in let both : true ≡ false = sym busy ∙ none in cc

  first_standing : IsStanding v
  first_standing = record {
    stands = λ h below.
        subst (λ (plan : Option Plan). PlanStandsOf (at_command v h) v.world v.cache h (seat_at v h).carried plan) (sym (seat_now h below).plan)
        (rests_now h (seat_at v h).carried (seat_now h below).carried);
    busy = λ h below busy. absurd (idle_seat h below busy);
    joined = λ h below busy. absurd (idle_seat h below busy);
  }

  no_death : (h : ℕ) → standing_death w.lines room.ledger.answers h ≡ None
  unfolding standing_death
  no_death h =
      ap (λ (l : LedgerView). of_answers death_after w.lines l.answers h None) ready.ledger
      ∙ no_answers death_after w.lines (length w.lines) h None

  pub first_agree : Agree v (λ host. no_notes)
  first_agree = record {
    noted = λ h below.
        subst (λ (plan : Option Plan). PlanNotedOf (at_command v h) v.world h (seat_at v h).carried plan no_notes) (sym (seat_now h below).plan)
        (fresh_noted w.geometry v.world h (seat_at v h).carried (seat_now h below).carried no_notes
        (record {
          remembered = remembered_start v.world.locks.geometry (host_at v.world.locks h) (host_now h);
          rests = inr (host_now h);
          between = refl;
        })
        refl refl);
    left = λ h below. rw (no_death h) (seat_now h below).left;
  }

  -- the run without a call
  first_leads : LeadsTo (first_cluster device w room) [] (state_of v (λ host. no_notes))
  first_leads = ap (λ (l : LedgerView). state_of (record v { ledger = l }) (λ host. no_notes)) ready.ledger

  pub first_run : Led (first_cluster device w room) []
  first_run = ((λ host. no_notes), first_leads, first_agree)

  pub first_measured : IsMeasured (first_cluster device w room)
  first_measured =
      measured_by (first_cluster device w room) first_standing
      (budget_begins v room.budget.used (ap (λ (b : BudgetView). length b.used) ready.budget ∙ length-replicate w.geometry.hosts 0)
      (λ h host. (seat_now h host).plan)
      (λ h host. ap (λ (b : BudgetView). used_at b.used h) ready.budget ∙ each_same w.geometry.hosts 0 h))

  pub first_inv : OnImage device.state (IsValid w.geometry device.state.counter) → Inv (first_cluster device w room)
  first_inv valid = record {
    sound = first_sound;
    valid = valid;
    run = record { last = device; shown = refl; calls = []; notes = λ host. no_notes; leads = first_leads };
    live = λ live. (refl, first_agree, first_standing);
  }

-- locks and a world over them that were just made
pub cluster_is : (device began : DiskSeen) (w : Workload) (room : Room) (locks : LocksView) (world : WorldView) (budget : BudgetView) → began ≡ device
    → locks ≡ record { disk = device; geometry = w.geometry; hosts = replicate 16 dropped }
    → world ≡ record { locks = locks; standing = replicate 16 None } → budget ≡ first_budget w room
    → record {
      began = began;
      spent = false;
      parts = record {
        world = world;
        cache = room.cache;
        workload = w;
        phase = 0;
        ledger = room.ledger;
        heads = room.heads.items;
        seats = room.seats.items;
      };
      budget = budget;
    } ≡ first_cluster device w room
cluster_is device began w room locks world budget same is_locks is_world is_budget = rw (is_world, is_locks, same, is_budget) refl
