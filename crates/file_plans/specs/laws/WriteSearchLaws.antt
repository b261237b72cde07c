-- The search for a fresh block: how it starts, and what each step did, one law for each way in which it ends.
use Rattle.std.proofs.Common.{◌≡◌, ◌<◌, ◌≤◌, ◌/◌, ℕ, suc, Bool, true, false, List, [], None, Option, Some, length}
use Rattle.std.proofs.Common.{refl, ap, sym, subst, ◌∙◌, arith, inl, inr}
use Rattle.std.proofs.lemmas.Bool.{cases_lt, false_from_ne_true}
use Rattle.std.specs.Prelude.{IfSome, if◌then◌else◌}
use Rattle.vol_base.specs.declared.answer.Step.{Step}
use Rattle.vol_base.specs.declared.command.Command.{Command}
use Rattle.vol_layout.specs.declared.kind.Resource.{Resource}
use Rattle.image_view.specs.laws.FrameLaws.{HasResource-resource_of}
use Rattle.vol_base.specs.Packing.{Packing}
use Rattle.vol_layout.specs.declared.field.Field.TheVariants.{Count}
use Rattle.vol_layout.specs.declared.geometry.Geometry.{Geometry}
use Rattle.vol_layout.specs.declared.kind.Resource.TheVariants.{Group}
use Rattle.vol_layout.specs.declared.kind.Table.{Table}
use Rattle.vol_layout.specs.declared.kind.Table.TheVariants as tables
use Rattle.vol_layout.specs.Fields.{HasField}
use Rattle.vol_layout.specs.Ranges.{per_table}
use Rattle.lock_store.specs.declared.host.HostState.{HostState}
use Rattle.lock_store.specs.Memories.{holds}
use Rattle.lock_store.specs.Views.{host_at}
use Rattle.disk_locks.specs.Consistent.{Consistent}
use Rattle.held_cache.specs.Kept.{Cache, kept_at}
use Rattle.host_facts.specs.Facts.Fact.{RecordIs, TableIs}
use Rattle.host_facts.specs.Views.{WorldView}
use Rattle.host_runs.specs.Notes.{Notes}
use Rattle.plan_parts.specs.QuietCalls.{Noted}
use Rattle.plan_parts.specs.Searches.{HasFound, HasLocked, HasPassed, IsExhausted, IsHunting, IsSearching, SearchGoes, counted_groups}
use Rattle.plan_parts.specs.Searches.{first_of, group_at}
use Rattle.plan_parts.specs.TakenLocks.{IsTaken, IsTaking}
use Rattle.plan_parts.specs.declared.kept.Kept.{Kept}
use Rattle.plan_parts.specs.declared.searching.Search.{Search}
use Rattle.plan_parts.specs.declared.searching.Search.TheVariants as searches
use Rattle.plan_parts.specs.laws.SearchLaws.{search_begins}
use Rattle.plan_parts.specs.laws.GroupOrderLaws.{run_long, run_tried}
use Rattle.plan_parts.specs.declared.outcome.Outcome.TheVariants as outcomes
use Rattle.file_plans.specs.Bases.{IsBase}
use Rattle.file_plans.specs.Calls.{file_of}
use Rattle.file_plans.specs.Commits.{IsOld}
use Rattle.file_plans.specs.Sights.{IsSight}
use Rattle.file_plans.specs.Stands.{At, IsFoundBlock, IsMet, IsOpenBase, IsSharedMet, NotedAt, shared_of}
use Rattle.file_plans.specs.Writes.{behind_found, behind_other, has_count, kept_shared, puts_for}
use Rattle.file_plans.specs.Went.{IsRest, Went}
use Rattle.file_plans.specs.declared.state.Core.{Core}
use Rattle.file_plans.specs.declared.stage.Stage.{Stage}
use Rattle.file_plans.specs.laws.BaseLaws.{IsStill, base_on, base_still, coming}
use Rattle.file_plans.specs.laws.WriteBaseLaws.{count_has, count_other}
use Rattle.file_plans.specs.laws.BaseLaws.{hold_on}
use Rattle.file_plans.specs.laws.WriteBaseLaws.{fresh_write, kept_same, met_more, met_on, sight_on}
use Rattle.file_plans.specs.laws.BaseLaws.{still_looks}
use Rattle.file_plans.specs.laws.WriteBaseLaws.{shared_has}
use Rattle.file_plans.specs.declared.old.Old.{Old}
use Rattle.file_plans.specs.declared.old.Old.TheVariants as olds
use Rattle.file_plans.specs.declared.sight.Sight.TheVariants as sights
use Rattle.file_plans.specs.declared.stage.Stage.TheVariants as stages
use Rattle.file_plans.specs.laws.WriteEndLaws.{comes_to, goes, goes_to, may_full}

-- how many groups a search has locked
abbrev locked_groups : Search → ℕ
locked_groups (searches.Lock k) = k
locked_groups (searches.Count k) = suc k

hunting_of : (v : WorldView) (h : ℕ) (taken : List Resource) (search : Search) → IsSearching v h search taken
    → IsHunting v h taken (counted_groups search) (locked_groups search)
hunting_of v h taken (searches.Lock k) is = is
hunting_of v h taken (searches.Count k) is = is

locked_counted : (search : Search) → counted_groups search ≤ locked_groups search
locked_counted (searches.Lock k) = omega arith
locked_counted (searches.Count k) = omega arith

-- it starts where no part and no group is locked, and no group was met
pub search_starts : (v : WorldView) (c : Cache) (core : Core) → Consistent v.locks → IsOpenBase v c core → core.taken ≡ []
    → (old : Option ℕ) → IsSight v.locks.geometry (kept_at c core.host) core.call (sights.Fresh old)
    → At v c core (stages.Searches old None (searches.Lock 0))
search_starts v c core is stands none old sight = (
  stands,
  subst (IsSearching v core.host (searches.Lock 0)) (sym none)
      (search_begins v core.host is.geometry stands.empty (subst (IsTaking v core.host) none stands.base.taking)),
  sight,
  unmet old sight,
)
  where
    unmet : (old : Option ℕ) → IsSight v.locks.geometry (kept_at c core.host) core.call (sights.Fresh old)
        → IfSome old (λ d. IsSharedMet v core.host 0 d None)
    unmet None sight = tt
    unmet (Some d) sight = record {
      has = shared_has v.locks.geometry (kept_at c core.host) core.call d sight;
      met = λ j before. absurd (omega (arith, before));
    }

module _ (v w : WorldView) (c : Cache) (core : Core) (is : Consistent v.locks) (later : Consistent w.locks) (old : Option ℕ)
    (shared : Option Kept) (search : Search) (after : List Resource) (at : At v c core (stages.Searches old shared search)) where
  -- the search goes on
  search_on : (next : Search) (met : Option Kept) → SearchGoes core.host v w search after next
      → IfSome old (λ d. IsSharedMet w core.host (counted_groups next) d met)
      → Went v w c core (coming core after core.outcome) (stages.Searches old shared search) goes (stages.Searches old met next)
  search_on next met did shares =
      let empty = did.facts (RecordIs []) at.0.empty in
      let file = at.0.base.file in
      let facts = λ (t : Table) (p : Packing). did.facts (TableIs t p) in
      let base : IsBase w c (coming core after core.outcome) = base_on v w c core did.geometry facts after core.outcome empty.guard.0
      (hold_on core.call (host_at v.locks core.host) (host_at w.locks core.host) (did.held (file_of core.call) file)
      (did.read (file_of core.call) file) at.0.base.hold)
      (hunting_of w core.host after next did.stands).taking at.0.base in
      goes_to v w c core (stages.Searches old shared search) is later at.0.base (λ command n noted. noted) did.event
      (coming core after core.outcome) (stages.Searches old met next) refl refl base (
        record { base = base; empty = empty; comes = at.0.comes },
        did.stands,
        sight_on v w c core did.geometry facts (sights.Fresh old) at.2,
        shares,
      )
      (λ command n noted. noted) did.quiet

  -- what was met before, behind the step
  met_before : (next : Search) → SearchGoes core.host v w search after next → counted_groups search ≤ counted_groups next → (d : ℕ)
      → IsSharedMet v core.host (counted_groups search) d shared → IsMet w core.host (counted_groups search) d shared
  met_before next did fewer d met =
      met_on v w c core did.geometry (λ t p. did.facts (TableIs t p)) (counted_groups search) (counted_groups next) (locked_groups next) d
      after shared (omega (arith, fewer, locked_counted next)) (hunting_of w core.host after next did.stands) met.met

  -- a group was locked
  pub search_locked : (next : Search) → HasLocked core.host v w search after next
      → Went v w c core (coming core after core.outcome) (stages.Searches old shared search) goes (stages.Searches old shared next)
  search_locked next did = search_on next shared did.goes (shares old at.3)
    where
      shares : (old : Option ℕ) → IfSome old (λ d. IsSharedMet v core.host (counted_groups search) d shared)
          → IfSome old (λ d. IsSharedMet w core.host (counted_groups next) d shared)
      shares None met = tt
      shares (Some d) met = record {
        has = subst (λ (g : Geometry). HasField g (Count d)) (sym did.goes.geometry) met.has;
        met = subst (λ (k : ℕ). IsMet w core.host k d shared) (sym did.counts) (met_before next did.goes (omega (arith, did.counts)) d met);
      }

  -- a group was counted in vain
  pub search_passed : (next : Search) (kept : Kept) → HasPassed core.host v w search after next kept
      → Went v w c core (coming core after core.outcome) (stages.Searches old shared search) goes
      (stages.Searches old (kept_shared old shared kept) next)
  search_passed next kept did = search_on next (kept_shared old shared kept) did.goes (shares old at.3)
    where
      shares : (old : Option ℕ) → IfSome old (λ d. IsSharedMet v core.host (counted_groups search) d shared)
          → IfSome old (λ d. IsSharedMet w core.host (counted_groups next) d (kept_shared old shared kept))
      shares None met = tt
      shares (Some d) met = record {
        has = subst (λ (g : Geometry). HasField g (Count d)) (sym did.goes.geometry) met.has;
        met = subst (λ (k : ℕ). IsMet w core.host k d (kept_shared (Some d) shared kept)) (sym did.counts)
            (met_more w core.host (counted_groups search) d shared kept (met_before next did.goes (omega (arith, did.counts)) d met)
            did.is_kept
            (subst (λ (g : Geometry). kept.which ≡ tables.Group (group_at (first_of g core.host) (counted_groups search) g.groups))
            (sym did.goes.geometry) did.which));
      }

  -- no group has a free block: the volume is full
  pub search_full : IsExhausted core.host v w core.taken after → (new : Core) (step : Step) (stage : Stage)
      → new ≡ coming core after outcomes.Full → step ≡ record { placed = None; called = true; next = step.next }
      → IsRest after outcomes.Full step.next stage → Went v w c core new (stages.Searches old shared search) step stage
  search_full did new step stage is_new is_step rest =
      comes_to v w c core (stages.Searches old shared search) is later at.0.base (λ command n noted. noted) did.event new after
      outcomes.Full step stage at.0.comes is_new
      (subst (λ (ts : List Resource). IsBase w c (coming core ts outcomes.Full)) (sym did.same)
      (base_still v w c core (still_looks core.host v w did.looks) outcomes.Full at.0.base))
      (did.looks.facts (RecordIs []) at.0.empty)
      (may_full core.call (fresh_write v.locks.geometry (kept_at c core.host) core.call old at.2))
      (λ command runs. did.full command) is_step rest

  module _ (d : ℕ) (group : Kept) (did : HasFound core.host v w search core.taken after d group) where
    still : IsStill core.host v w
    still = still_looks core.host v w did.looks

    -- the step went to this stage
    abbrev Goes : Stage → Type 0
    Goes stage = Went v w c core (coming core core.taken core.outcome) (stages.Searches old shared search) goes stage

    stands_open : IsOpenBase w c (coming core core.taken core.outcome)
    stands_open = record {
      base = base_still v w c core still core.outcome at.0.base;
      empty = did.looks.facts (RecordIs []) at.0.empty;
      comes = at.0.comes;
    }

    block_found : IsFoundBlock w core.host d group
    block_found = record { has = did.has; kept = did.is_kept; which = did.which; free = did.free }

    hunting : IsHunting v core.host core.taken did.tries (suc did.tries)
    hunting = subst (λ (s : Search). IsSearching v core.host s core.taken) did.counting at.1

    -- a group that was not met is not held
    unmet_out : (o : ℕ) → has_count group.which o ≡ false → IsSharedMet v core.host (counted_groups search) o None
        → holds (host_at v.locks core.host) (Group (o / per_table)) ≡ false
    unmet_out o other met = false_from_ne_true (holds (host_at v.locks core.host) (Group (o / per_table))) (λ held.
        let first = first_of v.locks.geometry core.host in
        let groups = v.locks.geometry.groups in
        let tried = run_tried first (suc did.tries) groups (o / per_table)
        (subst (λ (ts : List Resource). IsTaken ts (Group (o / per_table))) hunting.are
        (hunting.taking.only (Group (o / per_table)) (HasResource-resource_of v.locks.geometry (Count o) met.has) tt held)) in
        let counts : counted_groups search ≡ did.tries = ap counted_groups did.counting in
        elim (cases_lt tried.0 did.tries) [
          | inl earlier ↦ met.met tried.0 (omega (arith, earlier, counts)) tried.2
          | inr last ↦
              let one : did.tries ≡ tried.0 = omega (arith, last, tried.1) in
              count_other group.which o other
              (did.last ∙ ap (λ (j : ℕ). tables.Group (group_at first j groups)) one ∙ ap tables.Group tried.2)
        ])

    taken_room : length core.taken < 66
    taken_room =
        let long : length core.taken ≡ suc did.tries =
        ap length hunting.are ∙ run_long (first_of v.locks.geometry core.host) (suc did.tries) v.locks.geometry.groups in
        omega (arith, long, hunting.below, is.geometry.groups.1)

    found_to : (stage : Stage) → At w c (coming core core.taken core.outcome) stage
        → ((command : Command) (n : Notes) → Noted command core.host w core.outcome n
        → NotedAt command w (coming core core.taken core.outcome) stage n)
        → Goes stage
    found_to stage stands behind =
        goes_to v w c core (stages.Searches old shared search) is later at.0.base (λ command n noted. noted) did.event
        (coming core core.taken core.outcome) stage refl refl stands_open.base stands behind did.quiet

    found_puts : (left : Old) → IsSight v.locks.geometry (kept_at c core.host) core.call (sights.Fresh (shared_of left))
        → IsOld w core.host group left
        → Goes (puts_for d group left)
    found_puts left sight leaves = found_to (puts_for d group left) (record {
      comes = stands_open;
      sight = sight_on v w c core still.geometry still.tables (sights.Fresh (shared_of left)) sight;
      block = block_found;
      left = leaves;
    }) (λ command n noted. noted)

    -- a free block was found
    pub search_found :
        Went v w c core (coming core after core.outcome) (stages.Searches old shared search) goes (behind_found old shared d group)
    search_found =
        subst (λ (ts : List Resource).
        Went v w c core (coming core ts core.outcome) (stages.Searches old shared search) goes (behind_found old shared d group))
        (sym did.same) (choose old shared at.2 at.3)
      where
        other_group : (o : ℕ) (kept : Option Kept) → has_count group.which o ≡ false
            → IsSight v.locks.geometry (kept_at c core.host) core.call (sights.Fresh (Some o))
            → IsSharedMet v core.host (counted_groups search) o kept → Goes (behind_other kept o d group)
        other_group o None other sight met = found_to (stages.LocksShared o d group) (
          stands_open,
          sight_on v w c core still.geometry still.tables (sights.Fresh (Some o)) sight,
          block_found,
          ap (λ (m : HostState). holds m (Group (o / per_table))) still.memory ∙ unmet_out o other met,
          taken_room,
        )
            (λ command n noted. noted)
        other_group o (Some kept) other sight met = found_puts (olds.Other o kept) sight
            (kept_same v w c core still kept met.met.0, met.met.1, λ same. count_other group.which o other (sym same ∙ met.met.1))

        choose : (seen : Option ℕ) (kept : Option Kept) → IsSight v.locks.geometry (kept_at c core.host) core.call (sights.Fresh seen)
            → IfSome seen (λ o. IsSharedMet v core.host (counted_groups search) o kept) → Goes (behind_found seen kept d group)
        choose None kept sight met = found_puts olds.Hole sight tt
        choose (Some o) kept sight met = pick (has_count group.which o) refl
          where
            pick : (b : Bool) → has_count group.which o ≡ b
                → Goes (if b then puts_for d group (olds.Same o) else behind_other kept o d group)
            pick true same = found_puts (olds.Same o) sight (count_has group.which o same)
            pick false other = other_group o kept other sight met
