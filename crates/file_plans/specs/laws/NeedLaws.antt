-- The read of a table in the stage in which a host has its hold: it is kept, and may settle the call.
use Rattle.file_plans.specs.Went.{LeavesOthers}
use Rattle.std.proofs.Common.{Bool}
use Rattle.vol_base.specs.declared.answer.Step.{Step}
use Rattle.file_plans.specs.Went.{IsSeen}
use Rattle.shared_disk.specs.Events.{Shows, event}
use Rattle.lock_store.specs.Events.{read_of}
use Rattle.vol_base.specs.Packing.{packed_bytes}
use Rattle.vol_layout.specs.Ranges.{HasTable}
use Rattle.std.proofs.Common.{◌⊎◌, inl, inr}
use Rattle.std.proofs.lemmas.Bool.{cases_eq}
use Rattle.vol_layout.specs.declared.kind.Table.TheVariants as tables
use Rattle.held_cache.specs.Kept.{ChangesOnly}
use Rattle.file_plans.specs.Says.{ArePacked}
use Rattle.host_facts.specs.Calls.{ReadsTable}
use Rattle.plan_parts.specs.laws.QuietCallLaws.{quiet_table, valid_now}
use Rattle.plan_parts.specs.laws.PlacedLaws.{quiet_placed}
use Rattle.vol_base.specs.declared.answer.Next.TheVariants as nexts
use Rattle.table_blocks.specs.Tables.{IsPackingOf}
use Rattle.std.proofs.Common.{◌<◌}
use Rattle.std.proofs.Common.{◌≡◌, ◌≢◌, ℕ, [], true, None, Option, Some, refl, ap, sym, subst, ◌∙◌}
use Rattle.std.specs.Prelude.{Ok}
use Rattle.vol_base.specs.declared.answer.Next.{Next}
use Rattle.vol_base.specs.declared.command.Command.{Command}
use Rattle.vol_base.specs.declared.plain.PlainReply.{PlainReply}
use Rattle.vol_base.specs.Packing.{Packing}
use Rattle.vol_layout.specs.declared.geometry.Geometry.{Geometry}
use Rattle.vol_layout.specs.declared.kind.Table.{Table}
use Rattle.shared_disk.specs.Events.{Event}
use Rattle.lock_store.specs.Views.{key_at}
use Rattle.disk_locks.specs.Consistent.{Consistent}
use Rattle.held_cache.specs.Kept.{Cache, IsFileTable, kept_at}
use Rattle.host_facts.specs.Facts.Fact.{RecordIs, TableIs}
use Rattle.host_facts.specs.Knows.{Knows}
use Rattle.host_facts.specs.Looks.{Looks}
use Rattle.host_facts.specs.Views.{WorldView}
use Rattle.plan_parts.specs.QuietCalls.{Noted, QuietCall}
use Rattle.plan_parts.specs.declared.outcome.Outcome.TheVariants as outcomes
use Rattle.file_plans.specs.Bases.{IsBase, IsCached, MayComeTo}
use Rattle.file_plans.specs.Calls.{Runs}
use Rattle.file_plans.specs.Stands.{At}
use Rattle.file_plans.specs.Went.{IsRest, Went}
use Rattle.file_plans.specs.declared.call.FileCall.{FileCall}
use Rattle.file_plans.specs.declared.call.FileCall.TheVariants.{Plain}
use Rattle.file_plans.specs.declared.state.Core.{Core}
use Rattle.file_plans.specs.declared.stage.Stage.{Stage}
use Rattle.file_plans.specs.declared.stage.Stage.TheVariants as stages
use Rattle.file_plans.specs.laws.RestLaws.{went_on}
use Rattle.file_plans.specs.Sights.{IsSight, MayReply}
use Rattle.file_plans.specs.declared.call.FileCall.TheVariants.{Close}
use Rattle.file_plans.specs.declared.sight.Sight.TheVariants as sights
use Rattle.file_plans.specs.laws.KnownLaws.{place_settled_after, settled_look}
use Rattle.host_facts.specs.Others.{Others}
use Rattle.vol_layout.specs.declared.kind.Kind.TheVariants as kinds
use Rattle.file_plans.specs.laws.SeeLaws.{base_looks, joined_has_key, noted_still, placed_went, settled_call}

-- a table of a file is one of the volume, and no group's
pub file_table_has : (g : Geometry) (t : Table) → IsFileTable g t → HasTable g t
file_table_has g (tables.File f) is = is
file_table_has g (tables.More f u) is = is
file_table_has g (tables.Group r) is = absurd is
file_table_has g (tables.Part p) is = absurd is

no_group : (g : Geometry) (t : Table) (r : ℕ) → IsFileTable g t → t ≡ tables.Group r → {A : Type 0} → A
no_group g (tables.File f) r is group = absurd cc
no_group g (tables.More f u) r is group = absurd cc
no_group g (tables.Group q) r is group = absurd is
no_group g (tables.Part p) r is group = absurd is

-- two tables are one, or not
pub table_or_other : (t u : Table) → (t ≡ u) ⊎ (t ≢ u)
table_or_other (tables.File f) (tables.File e) = elim (cases_eq f e) [ inl same ↦ inl (ap tables.File same) | inr other ↦ inr (λ is. other cc) ]
table_or_other (tables.Group f) (tables.Group e) =
    elim (cases_eq f e) [ inl same ↦ inl (ap tables.Group same) | inr other ↦ inr (λ is. other cc) ]
table_or_other (tables.Part f) (tables.Part e) = elim (cases_eq f e) [ inl same ↦ inl (ap tables.Part same) | inr other ↦ inr (λ is. other cc) ]
table_or_other (tables.More f t) (tables.More e u) = elim (cases_eq f e) [
  | inl same ↦ elim (cases_eq t u) [ inl one ↦ inl cc | inr other ↦ inr (λ is. other cc) ]
  | inr other ↦ inr (λ is. other cc)
]
table_or_other (tables.File f) u = inr (λ is. cc)
table_or_other (tables.Group f) u = inr (λ is. cc)
table_or_other (tables.Part f) u = inr (λ is. cc)
table_or_other (tables.More f t) u = inr (λ is. cc)

-- a table that is known is kept
pub cached_kept : (w : WorldView) (c d : Cache) (h : ℕ) (which : Table) (table : Packing) → h < w.locks.geometry.hosts → IsCached w c h
    → ChangesOnly c d h which (Some table) → Knows w h (TableIs which table) → IsPackingOf w.locks.geometry which table → IsCached w d h
cached_kept w c d h which table below cached keeps known packing = record {
  volume = keeps.volume ∙ cached.volume;
  known = λ t p is kept. elim (table_or_other t which) [
    | inl same ↦
        let one : Some table ≡ Some p = sym keeps.changed ∙ ap (kept_at d h) (sym same) ∙ kept in
        let table_is : table ≡ p = cc in (
          subst (λ (x : Packing). Knows w h (TableIs t x)) table_is (subst (λ (u : Table). Knows w h (TableIs u table)) (sym same) known),
          subst (λ (x : Packing). IsPackingOf w.locks.geometry t x) table_is
              (subst (λ (u : Table). IsPackingOf w.locks.geometry u table) (sym same) packing),
        )
    | inr other ↦
        cached.known t p is
        (sym (keeps.others h t (
          subst (λ (g : Geometry). h < g.hosts) (sym cached.volume) below,
          subst (λ (g : Geometry). IsFileTable g t) (sym cached.volume) is,
        ) (λ same here. other here)) ∙ kept)
  ];
}

-- what is kept spells numbers in range
pub cached_packed : (v : WorldView) (c : Cache) (h : ℕ) → IsCached v c h → ArePacked c h
cached_packed v c h cached t p is kept =
    subst (λ (g : Geometry). IsPackingOf g t p) (sym cached.volume)
    (cached.known t p (subst (λ (g : Geometry). IsFileTable g t) cached.volume is) kept).1

-- a step by its parts
step_is : (s : Step) (placed : Option PlainReply) → s.placed ≡ placed → s.called ≡ true
    → record { placed = placed; called = true; next = s.next } ≡ s
step_is s placed is called =
    ap (λ (p : Option PlainReply). let t : Step = record { placed = p; called = true; next = s.next } in t) (sym is)
    ∙ ap (λ (b : Bool). let t : Step = record { placed = s.placed; called = b; next = s.next } in t) (sym called)

-- a table of the file was read, and is kept
module _ (v w : WorldView) (c d : Cache) (core : Core) (which : Table) (table : Packing) (is : At v c core stages.Sees)
    (before : Consistent v.locks) (after : Consistent w.locks)
    (sight : IsSight v.locks.geometry (kept_at c core.host) core.call (sights.Needs which))
    (did : ReadsTable v.locks core.host which (Ok table) w.locks) (others : Others core.host v w) (looks : Looks core.host v w)
    (known : Knows w core.host (TableIs which table)) (keeps : ChangesOnly c d core.host which (Some table)) where
  pub read_base : IsBase w d core
  read_base =
      let base = base_looks v w c core looks is.0.base in record {
        host = base.host;
        file = base.file;
        joined = base.joined;
        hold = base.hold;
        taking = base.taking;
        cached = cached_kept w c d core.host which table base.host base.cached keeps known
            (subst (λ (g : Geometry). IsPackingOf g which table) (sym looks.geometry) did.1);
      }

  read_empty : Knows w core.host (RecordIs [])
  read_empty = looks.facts (RecordIs []) is.0.empty

  abbrev read_event : Event
  read_event = event (key_at v.locks core.host) (read_of v.locks (kinds.Table which)) (Shows (packed_bytes 4 table))

  quiet : (command : Command) → QuietCall command core.host v w read_event (Noted command core.host v core.outcome) (Noted command core.host w core.outcome)
  quiet command =
      quiet_table command v w core.host which table core.outcome (file_table_has v.locks.geometry which sight.0) did others
      (valid_now v before) (λ f i n r is group. no_group v.locks.geometry which r sight.0 group)

  -- and the call looks again
  pub read_went : Went v w d core core stages.Sees (record { placed = None; called = true; next = nexts.More }) stages.Sees
  read_went =
      went_on v w d core core stages.Sees read_event None refl refl (joined_has_key v core.host before is.0.base.joined) after core.outcome
      (λ some. absurd cc) tt (λ command n noted. noted) (λ command n. Noted command core.host w core.outcome n)
      (λ command runs. quiet_placed command core.host v w read_event _ _ (quiet command)) stages.Sees read_base.cached
      (record { base = read_base; empty = read_empty; comes = is.0.comes }, is.1) (λ command n noted. noted.asks)
      (λ command n noted. noted_still command core.host w core.outcome n noted)

  -- or is settled by it
  pub read_settled : (reply : PlainReply) (next : Next) (stage : Stage)
      → IsSight w.locks.geometry (kept_at d core.host) core.call (sights.Settled reply) → IsRest core.taken (outcomes.Placed reply) next stage
      → Went v w d core (record core { outcome = outcomes.Placed reply }) stages.Sees
      (record { placed = Some reply; called = true; next = next }) stage
  read_settled reply next stage settles rest = cases core.call refl settles
    where
      cases : (call : FileCall) → core.call ≡ call → IsSight w.locks.geometry (kept_at d core.host) call (sights.Settled reply)
          → Went v w d core (record core { outcome = outcomes.Placed reply }) stages.Sees
          (record { placed = Some reply; called = true; next = next }) stage
      cases (Plain call) same settles =
          placed_went v w c d core reply _ next stage is before after read_base read_empty
          (subst (λ (k : FileCall). MayComeTo k (outcomes.Placed reply)) (sym same) tt)
          (subst (λ (k : FileCall). MayReply v.locks.geometry reply k) (sym same)
          (subst (λ (g : Geometry). MayReply g reply (Plain call)) looks.geometry settles.0))
          (λ command runs. settled_call v w core.host command call reply _ _ _ (subst (Runs command) same runs)
          (place_settled_after v w core.host call reply looks
          (settled_look w d core.host after read_base.cached read_empty call reply settles)) (quiet command)) rest
      cases (Close f) same settles = absurd settles

  -- whichever it is
  pub needs_went : (new : Core) (step : Step) (stage : Stage) → IsSeen w.locks.geometry (kept_at d core.host) core new step stage
      → Went v w d core new stages.Sees step stage
  needs_went new step stage (None, (same, made, goes)) =
      subst (λ (n : Core). Went v w d core n stages.Sees step stage) (sym same)
      (subst (λ (s : Step). Went v w d core core stages.Sees s stage) (sym made)
      (subst (λ (t : Stage). Went v w d core core stages.Sees (record { placed = None; called = true; next = nexts.More }) t) (sym goes)
      read_went))
  needs_went new step stage (Some reply, (settles, same, placed, called, rest)) =
      let rested = subst (λ (n : Core). IsRest n.taken n.outcome step.next stage) same rest in
      subst (λ (n : Core). Went v w d core n stages.Sees step stage) (sym same)
      (subst (λ (s : Step). Went v w d core (record core { outcome = outcomes.Placed reply }) stages.Sees s stage)
      (step_is step (Some reply) placed called) (read_settled reply step.next stage settles rested))

-- what is kept for others stays where one table is kept
pub kept_others : (c d : Cache) (h : ℕ) (which : Table) (table : Packing) → ChangesOnly c d h which (Some table) → LeavesOthers h c d
kept_others c d h which table keeps = record {
  volume = keeps.volume;
  others = λ x t can other. keeps.others x t can (λ same here. other same);
}
