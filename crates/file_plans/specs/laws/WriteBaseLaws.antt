-- What stands of a fresh write stands still: over an own call that keeps the file's hold and all facts, and over the calls of others.
use Rattle.file_plans.specs.laws.BaseLaws.{IsStill, base_still}
use Rattle.std.proofs.Common.{◌≡◌, ◌≢◌, ◌<◌, ◌≤◌, ◌/◌, ◌+◌, ℕ, Bool, true, false, List, [], None, Option, Some}
use Rattle.std.proofs.Common.{refl, ap, sym, subst, ◌∙◌, arith, inl, inr, true≢false}
use Rattle.std.specs.Prelude.{if◌then◌else◌}
use Rattle.std.proofs.lemmas.Bool.{cases_lt, eq-eqb, eqb-true}
use Rattle.vol_base.specs.Packing.{Packing}
use Rattle.vol_base.specs.declared.plain.PlainCall.TheVariants as calls
use Rattle.vol_layout.specs.declared.field.Field.TheVariants.{Count}
use Rattle.vol_layout.specs.declared.geometry.Geometry.{Geometry}
use Rattle.vol_layout.specs.declared.kind.Resource.{Resource}
use Rattle.vol_layout.specs.declared.kind.Resource.TheVariants.{Group}
use Rattle.vol_layout.specs.declared.kind.Table.{Table}
use Rattle.vol_layout.specs.declared.kind.Table.TheVariants as tables
use Rattle.vol_layout.specs.Fields.{HasField, table_of}
use Rattle.vol_layout.specs.Ranges.{HasTable, per_table}
use Rattle.table_blocks.specs.Tables.{IsPackingOf}
use Rattle.lock_store.specs.declared.host.HostState.{HostState}
use Rattle.lock_store.specs.Memories.{holds}
use Rattle.lock_store.specs.Views.{host_at}
use Rattle.disk_locks.specs.Keys.{owner}
use Rattle.held_cache.specs.Kept.{Cache, kept_at}
use Rattle.host_facts.specs.Facts.Fact.{RecordIs, TableIs}
use Rattle.host_facts.specs.Knows.{Knows}
use Rattle.host_facts.specs.Views.{WorldView}
use Rattle.plan_parts.specs.KeptTables.{IsKept}
use Rattle.plan_parts.specs.Searches.{IsHunting, first_of, group_at}
use Rattle.plan_parts.specs.TakenLocks.{IsTaken}
use Rattle.plan_parts.specs.declared.kept.Kept.{Kept}
use Rattle.plan_parts.specs.laws.GroupOrderLaws.{run_taken}
use Rattle.plan_parts.specs.laws.SearchLaws.{taken_held}
use Rattle.file_plans.specs.Calls.{is_write}
use Rattle.file_plans.specs.Commits.{IsOld}
use Rattle.file_plans.specs.Sights.{IsSight}
use Rattle.file_plans.specs.Stands.{IsFoundBlock, IsFreshBlock, IsMet, shared_of}
use Rattle.file_plans.specs.Writes.{has_count, kept_shared}
use Rattle.file_plans.specs.declared.call.FileCall.{FileCall}
use Rattle.file_plans.specs.declared.call.FileCall.TheVariants.{Plain}
use Rattle.file_plans.specs.declared.state.Core.{Core}
use Rattle.file_plans.specs.declared.old.Old.{Old}
use Rattle.file_plans.specs.declared.old.Old.TheVariants as olds
use Rattle.file_plans.specs.declared.sight.Sight.{Sight}
use Rattle.file_plans.specs.declared.sight.Sight.TheVariants as sights
use Rattle.file_plans.specs.declared.stage.Fresh.{Fresh}

-- a fresh block is searched for a write alone
pub fresh_write : (g : Geometry) (known : Table → Option Packing) (call : FileCall) (old : Option ℕ)
    → IsSight g known call (sights.Fresh old) → is_write call ≡ true
fresh_write g known (Plain (calls.Write f i block)) old sight = refl
fresh_write g known call old sight = absurd sight

-- the shared block is one of the volume
pub shared_has : (g : Geometry) (known : Table → Option Packing) (call : FileCall) (old : ℕ)
    → IsSight g known call (sights.Fresh (Some old)) → HasField g (Count old)
shared_has g known (Plain (calls.Write f i block)) old sight = sight.pointer.inside
shared_has g known call old sight = absurd sight

-- a table that has the count of a data block
pub count_has : (t : Table) (d : ℕ) → has_count t d ≡ true → t ≡ table_of (Count d)
count_has (tables.Group r) d is = ap tables.Group (sym (eqb-true (d / per_table) r is))
count_has t d is = absurd cc

pub count_other : (t : Table) (d : ℕ) → has_count t d ≡ false → t ≢ table_of (Count d)
count_other t d is same =
    let there : has_count (table_of (Count d)) d ≡ true = eq-eqb (d / per_table) (d / per_table) refl in
    let none : has_count (table_of (Count d)) d ≡ false = subst (λ (u : Table). has_count u d ≡ false) same is in
    true≢false (sym there ∙ none)

module _ (v w : WorldView) (c : Cache) (core : Core) (geometry : w.locks.geometry ≡ v.locks.geometry)
    (facts : (t : Table) (p : Packing) → Knows v core.host (TableIs t p) → Knows w core.host (TableIs t p)) where
  pub sight_on : (sight : Sight) → IsSight v.locks.geometry (kept_at c core.host) core.call sight
      → IsSight w.locks.geometry (kept_at c core.host) core.call sight
  sight_on sight is = subst (λ (g : Geometry). IsSight g (kept_at c core.host) core.call sight) (sym geometry) is

  -- a table is kept while its lock is held
  pub kept_on : (k : Kept) → holds (host_at w.locks core.host) (owner k.which) ≡ true → IsKept v core.host k → IsKept w core.host k
  kept_on k held is = record {
    table = subst (λ (g : Geometry). HasTable g k.which) (sym geometry) is.table;
    held = held;
    packing = subst (λ (g : Geometry). IsPackingOf g k.which k.table) (sym geometry) is.packing;
    known = facts k.which k.table is.known;
  }

  pub found_on : (d : ℕ) (group : Kept) → holds (host_at w.locks core.host) (owner group.which) ≡ true
      → IsFoundBlock v core.host d group → IsFoundBlock w core.host d group
  found_on d group held is = record {
    has = subst (λ (g : Geometry). HasField g (Count d)) (sym geometry) is.has;
    kept = kept_on group held is.kept;
    which = is.which;
    free = is.free;
  }

  -- so is the table of a shared block's group that was counted
  pub met_on : (k m n old : ℕ) (after : List Resource) (shared : Option Kept) → k ≤ n → IsHunting w core.host after m n
      → IsMet v core.host k old shared → IsMet w core.host k old shared
  met_on k m n old after None early hunting met =
      subst (λ (g : Geometry). (j : ℕ) → j < k → group_at (first_of g core.host) j g.groups ≢ old / per_table) (sym geometry) met
  met_on k m n old after (Some kept) early hunting met =
      let at = subst (λ (g : Geometry). group_at (first_of g core.host) met.2.0 g.groups ≡ old / per_table) (sym geometry) met.2.2 in (
        kept_on kept
            (subst (λ (t : Table). holds (host_at w.locks core.host) (owner t) ≡ true) (sym met.1)
            (subst (λ (r : ℕ). holds (host_at w.locks core.host) (Group r) ≡ true) at
            (taken_held w core.host after _ hunting.taking.each
            (subst (λ (ts : List Resource).
            IsTaken ts (Group (group_at (first_of w.locks.geometry core.host) met.2.0 w.locks.geometry.groups)))
            (sym hunting.are)
            (run_taken (first_of w.locks.geometry core.host) n w.locks.geometry.groups met.2.0 (omega (arith, met.2.1, early)))))))
            met.0,
        met.1,
        (met.2.0, met.2.1, at),
      )

-- one group more was counted in vain
pub met_more : (w : WorldView) (h k old : ℕ) (shared : Option Kept) (kept : Kept) → IsMet w h k old shared → IsKept w h kept
    → kept.which ≡ tables.Group (group_at (first_of w.locks.geometry h) k w.locks.geometry.groups)
    → IsMet w h (k + 1) old (kept_shared (Some old) shared kept)
met_more w h k old shared kept met is which = pick (has_count kept.which old) refl
  where
    later : (shared : Option Kept) → IsMet w h k old shared → has_count kept.which old ≡ false → IsMet w h (k + 1) old shared
    later None met other = λ j before same.
        elim (cases_lt j k) [
          | inl earlier ↦ met j earlier same
          | inr last ↦
              let one : k ≡ j = omega (arith, before, last) in
              count_other kept.which old other
              (which ∙ ap (λ (i : ℕ). tables.Group (group_at (first_of w.locks.geometry h) i w.locks.geometry.groups)) one
              ∙ ap tables.Group same)
        ]
    later (Some early) met other = (met.0, met.1, (met.2.0, omega (arith, met.2.1), met.2.2))

    pick : (b : Bool) → has_count kept.which old ≡ b → IsMet w h (k + 1) old (if b then Some kept else shared)
    pick true same =
        let here = count_has kept.which old same in
        let both : tables.Group (group_at (first_of w.locks.geometry h) k w.locks.geometry.groups) ≡ tables.Group (old / per_table) =
        sym which ∙ here in
        (is, here, (k, omega arith, cc))
    pick false same = later shared met same

module _ (v w : WorldView) (c : Cache) (core : Core) (still : IsStill core.host v w) where
  held_still : (r : Resource) → holds (host_at v.locks core.host) r ≡ true → holds (host_at w.locks core.host) r ≡ true
  held_still r is = ap (λ (m : HostState). holds m r) still.memory ∙ is

  pub kept_same : (k : Kept) → IsKept v core.host k → IsKept w core.host k
  kept_same k is = kept_on v w c core still.geometry still.tables k (held_still (owner k.which) is.held) is

  pub found_same : (d : ℕ) (group : Kept) → IsFoundBlock v core.host d group → IsFoundBlock w core.host d group
  found_same d group is = found_on v w c core still.geometry still.tables d group (held_still (owner group.which) is.kept.held) is

  pub old_same : (group : Kept) (left : Old) → IsOld v core.host group left → IsOld w core.host group left
  old_same group olds.Hole is = tt
  old_same group (olds.Same d) is = is
  old_same group (olds.Other d kept) is = (kept_same kept is.0, is.1, is.2)

  pub fresh_same : (fresh : Fresh) → Knows w core.host (RecordIs []) → IsFreshBlock v c core fresh → IsFreshBlock w c core fresh
  fresh_same fresh empty is = record {
    comes = record { base = base_still v w c core still core.outcome is.comes.base; empty = empty; comes = is.comes.comes };
    sight = sight_on v w c core still.geometry still.tables (sights.Fresh (shared_of fresh.left)) is.sight;
    block = found_same fresh.number fresh.group is.block;
    left = old_same fresh.group fresh.left is.left;
  }
