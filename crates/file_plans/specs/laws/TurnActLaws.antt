-- A call that acts by its tables has the turns of the record that it is to write.
use Rattle.std.proofs.Common.{arith, ◌≡◌, ◌≤◌, ◌+◌, ◌-◌, ◌*◌, ℕ, None, Option}
use Rattle.vol_base.specs.declared.plain.PlainCall.TheVariants as calls
use Rattle.vol_layout.specs.declared.geometry.Geometry.{Geometry}
use Rattle.held_cache.specs.Kept.{Cache, kept_at}
use Rattle.host_facts.specs.Views.{WorldView}
use Rattle.plan_parts.specs.declared.searching.Search.TheVariants.{Lock}
use Rattle.file_plans.specs.Says.{Known}
use Rattle.file_plans.specs.Sights.{IsSight}
use Rattle.file_plans.specs.Stands.{sight_of}
use Rattle.file_plans.specs.Turns.{records_for, round_turns, turns_at, turns_behind}
use Rattle.file_plans.specs.declared.call.FileCall.{FileCall}
use Rattle.file_plans.specs.declared.call.FileCall.TheVariants.{Plain}
use Rattle.file_plans.specs.declared.sight.Sight.TheVariants as sights
use Rattle.file_plans.specs.declared.stage.Change.{Change}
use Rattle.file_plans.specs.declared.stage.Change.TheVariants.{Drop, Purge}
use Rattle.file_plans.specs.declared.stage.Stage.TheVariants as stages
use Rattle.file_plans.specs.declared.state.Core.{Core}
use Rattle.file_plans.specs.laws.TurnPurgeLaws.{purges_some}
use Rattle.file_plans.specs.laws.TurnStepLaws.{record_round, rounds_most, seeing_round}

-- a call that writes a record has one left
fresh_some : (g : Geometry) (known : Known) (call : FileCall) (old : Option ℕ) → IsSight g known call (sights.Fresh old)
    → 1 ≤ records_for g known call
fresh_some g known (Plain (calls.Write f i block)) old sight = omega arith
fresh_some g known call old sight = absurd sight

heads_some : (g : Geometry) (known : Known) (call : FileCall) (n : ℕ) → IsSight g known call (sights.Heads n) → 1 ≤ records_for g known call
heads_some g known (Plain (calls.Create f)) n sight = omega arith
heads_some g known (Plain (calls.Remove f)) n sight = omega arith
heads_some g known (Plain (calls.Size f k)) n sight = omega arith
heads_some g known call n sight = absurd sight

change_some : (g : Geometry) (known : Known) (call : FileCall) (change : Change) → IsSight g known call (sight_of change)
    → 1 ≤ records_for g known call
change_some g known (Plain (calls.Punch f i)) (Drop d) sight = omega arith
change_some g known call (Purge rs) sight = purges_some g known call rs sight
change_some g known call (Drop d) sight = absurd sight

more_below : (a b n x : ℕ) → a ≤ b → b + n ≡ x → a + n ≤ x
more_below a b n x few is = omega (arith, few, is)

module _ (v : WorldView) (c : Cache) (core : Core) where
  -- a free block is searched
  pub search_starts : (old : Option ℕ) → IsSight v.locks.geometry (kept_at c core.host) core.call (sights.Fresh old)
      → turns_at v c core (stages.Searches old None (Lock 0)) ≤ turns_at v c core stages.Sees
  search_starts old sight =
      let g = v.locks.geometry in
      more_below _ _ (turns_behind g (kept_at c core.host) core.call) _
      (rounds_most (g.groups + g.parts) (2 * (g.groups - 0) + 14) (2 * g.groups + 14) (omega arith))
      (seeing_round g (kept_at c core.host) core.call (fresh_some g (kept_at c core.host) core.call old sight))

  -- a group is locked, whose data blocks pointers are to name no more
  pub change_starts : (change : Change) → IsSight v.locks.geometry (kept_at c core.host) core.call (sight_of change)
      → turns_at v c core (stages.Locks change) ≤ turns_at v c core stages.Sees
  change_starts change sight =
      let g = v.locks.geometry in
      more_below _ _ (turns_behind g (kept_at c core.host) core.call) _
      (rounds_most (g.groups + g.parts) 12 (2 * g.groups + 14) (omega arith))
      (seeing_round g (kept_at c core.host) core.call (change_some g (kept_at c core.host) core.call change sight))

  -- the head of the file is written
  pub heads_start : (n : ℕ) → IsSight v.locks.geometry (kept_at c core.host) core.call (sights.Heads n)
      → round_turns v.locks.geometry 10 ≤ turns_at v c core stages.Sees
  heads_start n sight =
      record_round v.locks.geometry (kept_at c core.host) core.call (heads_some v.locks.geometry (kept_at c core.host) core.call n sight)
