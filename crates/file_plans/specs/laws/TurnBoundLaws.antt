-- How many turns are left at most, and at least: from the first step on, by the geometry alone; of a read that has its hold, three; and at
-- any stage one.
use Rattle.std.proofs.Common.{arith, ◌≡◌, ◌≢◌, ◌<◌, ◌≤◌, ◌+◌, ◌*◌, ◌&&◌, ◌/◌, ◌^◌, ℕ, Bool, true, false, List, [], ◌∷◌, length, nat_lt, refl, ap, sym, subst, ◌∙◌}
use Rattle.std.specs.Prelude.{if◌then◌else◌, is_none, nat_le}
use Rattle.std.specs.List.{range_with_len}
use Rattle.std.proofs.lemmas.List.FromFn.{length-map-range_with_len, length-range_with_len}
use Rattle.std.proofs.lemmas.List.Sums.{count_by-le-length}
use Rattle.std.proofs.lemmas.Nat.{mul-le}
use Rattle.vol_base.specs.declared.answer.Step.{Step}
use Rattle.vol_base.specs.declared.block.Block.{Block}
use Rattle.vol_base.specs.declared.plain.PlainCall.TheVariants as calls
use Rattle.vol_layout.specs.declared.geometry.Geometry.{Geometry}
use Rattle.vol_layout.specs.declared.kind.Resource.{Resource}
use Rattle.vol_layout.specs.declared.kind.Table.TheVariants as tables
use Rattle.vol_layout.specs.Ranges.{IsGeometry, limit, per_table}
use Rattle.lock_store.specs.declared.host.HostState.{HostState}
use Rattle.lock_store.specs.Views.{host_at}
use Rattle.held_cache.specs.Kept.{Cache, kept_at}
use Rattle.host_facts.specs.Views.{WorldView}
use Rattle.file_plans.specs.Begins.{has_hold}
use Rattle.file_plans.specs.Calls.{file_of, is_read, is_write}
use Rattle.file_plans.specs.Plans.{IsWaiting, first_of}
use Rattle.file_plans.specs.Says.{Known}
use Rattle.file_plans.specs.Stands.{At}
use Rattle.file_plans.specs.Turns.{block_table, known_behind, may_name_at, named_for, nothing, records_for, round_most, round_turns, tables_at, tables_for, turns_at, turns_begun, turns_behind, turns_left, turns_rested, turns_seeing, turns_trying, unknown_for}
use Rattle.file_plans.specs.Writes.{steps_left}
use Rattle.file_plans.specs.declared.call.FileCall.{FileCall}
use Rattle.file_plans.specs.declared.call.FileCall.TheVariants.{Close, Plain}
use Rattle.file_plans.specs.declared.stage.Stage.{Stage}
use Rattle.file_plans.specs.declared.stage.Stage.TheVariants as stages
use Rattle.file_plans.specs.declared.state.Core.{Core}
use Rattle.file_plans.specs.laws.TurnHoldLaws.{seeing_most, tries_some}
use Rattle.file_plans.specs.laws.TurnStepLaws.{seeing_some}

-- a call that is on one block looks at two tables at most
at_few : (g : Geometry) (f i : ℕ) → length (tables_at g f i) ≤ 2
at_few g f i = pick (nat_le 1 (i / per_table) && nat_lt (i / per_table) g.tables)
  where
    pick : (b : Bool) → length (tables.File f ∷ (if b then tables.More f (i / per_table) ∷ [] else [])) ≤ 2
    pick true = omega arith
    pick false = omega arith

tables_few : (g : Geometry) (call : FileCall) → IsGeometry g → length (tables_for g call) ≤ 16
tables_few g (Plain (calls.Create f)) range = omega arith
tables_few g (Plain (calls.Remove f)) range = omega arith
tables_few g (Plain (calls.Size f k)) range = let long = length-map-range_with_len (block_table f) 0 g.tables in omega (arith, long, range.tables.1)
tables_few g (Plain (calls.Write f i block)) range = let few = at_few g f i in omega (arith, few)
tables_few g (Plain (calls.Read f i)) range = let few = at_few g f i in omega (arith, few)
tables_few g (Plain (calls.Punch f i)) range = let few = at_few g f i in omega (arith, few)
tables_few g (Close f) range = let long = length-map-range_with_len (block_table f) 0 g.tables in omega (arith, long, range.tables.1)

-- a call writes no more records than the file has pointers, and one
named_few : (g : Geometry) (known : Known) (f : ℕ) → IsGeometry g → named_for g known f ≤ 16128
unfolding limit per_table
named_few g known f range =
    let few = count_by-le-length (may_name_at known f) (range_with_len 0 (limit g)) in
    let long = length-range_with_len 0 (limit g) in omega (arith, few, long, range.tables.1)

records_few : (g : Geometry) (known : Known) (call : FileCall) → IsGeometry g → records_for g known call ≤ 16129
records_few g known (Plain (calls.Create f)) range = omega arith
records_few g known (Plain (calls.Remove f)) range = omega arith
records_few g known (Plain (calls.Size f k)) range = let few = named_few g known f range in omega (arith, few)
records_few g known (Plain (calls.Write f i block)) range = omega arith
records_few g known (Plain (calls.Read f i)) range = omega arith
records_few g known (Plain (calls.Punch f i)) range = omega arith
records_few g known (Close f) range = let few = named_few g known f range in omega (arith, few)

round_few : (g : Geometry) → IsGeometry g → round_most g ≤ 11583
round_few g range =
    mul-le (2 * g.groups + 14 + 1) (g.groups + g.parts + 1) 143 81 (omega (arith, range.groups.1)) (omega (arith, range.groups.1, range.parts.1))

-- so a bound of the turns of a call that has its hold
seeing_few : (g : Geometry) (known : Known) (call : FileCall) → IsGeometry g → turns_seeing g known call ≤ 186822224
seeing_few g known call range =
    let unknown = count_by-le-length (λ t. is_none (known t)) (tables_for g call) in
    sum (unknown_for g known call) (records_for g known call * round_most g)
    (let few = tables_few g call range in omega (arith, unknown, few))
    (mul-le (records_for g known call) (round_most g) 16129 11583 (records_few g known call range) (round_few g range))
  where
    sum : (u m : ℕ) → u ≤ 16 → m ≤ 16129 * 11583 → u + 1 + m ≤ 186822224
    sum u m unknown rounds = omega (arith, unknown, rounds)

trying_few : (g : Geometry) (call : FileCall) → IsGeometry g → turns_trying g call ≤ 186822243
trying_few g (Close f) range = omega arith
trying_few g (Plain (calls.Read f i)) range = let few = seeing_few g nothing (Plain (calls.Read f i)) range in omega (arith, few)
trying_few g (Plain call) range = let few = seeing_few g nothing (Plain call) range in omega (arith, few, range.hosts.1)

begun_few : (g : Geometry) (m : HostState) (known : Known) (call : FileCall) → IsGeometry g → turns_begun g m known call ≤ 186822243
begun_few g m known call range = pick (has_hold call m)
  where
    pick : (b : Bool) → (if b then turns_seeing g known call else turns_trying g call) ≤ 186822243
    pick true = let few = seeing_few g known call range in omega (arith, few)
    pick false = trying_few g call range

-- any call of any volume has less turns than this
pub begin_few : (v : WorldView) (c : Cache) (core : Core) → IsGeometry v.locks.geometry → turns_at v c core (first_of core.call) < 2 ^ 28
begin_few v c core range = pick (is_write core.call)
  where
    pick : (b : Bool) → turns_at v c core (if b then stages.Asks else stages.Begins) < 2 ^ 28
    pick true = let few = trying_few v.locks.geometry core.call range in omega (arith, few)
    pick false = let few = begun_few v.locks.geometry (host_at v.locks core.host) (kept_at c core.host) core.call range in omega (arith, few)

-- a read of a host that has its hold has three turns at most, each of which is a call of the device
pub read_few : (v : WorldView) (c : Cache) (core : Core) → is_read core.call ≡ true → has_hold core.call (host_at v.locks core.host) ≡ true
    → turns_at v c core (first_of core.call) ≤ 3
read_few v c core reads has = cases core.call reads has
  where
    cases : (call : FileCall) → is_read call ≡ true → has_hold call (host_at v.locks core.host) ≡ true
        → turns_left v.locks.geometry (host_at v.locks core.host) (kept_at c core.host) (record core { call = call }) (first_of call) ≤ 3
    cases (Plain (calls.Read f i)) reads has =
        subst (λ (b : Bool). (if b then turns_seeing v.locks.geometry (kept_at c core.host) (Plain
        (calls.Read f i)) else turns_trying v.locks.geometry (Plain (calls.Read f i))) ≤ 3)
        (sym has)
        (let unknown = count_by-le-length (λ t. is_none (kept_at c core.host t)) (tables_at v.locks.geometry f i) in
        let few = at_few v.locks.geometry f i in sum _ _ unknown few)
      where
        sum : (u n : ℕ) → u ≤ n → n ≤ 2 → u + 1 + 0 * round_most v.locks.geometry ≤ 3
        sum u n unknown few = omega (arith, unknown, few)
    cases call reads has = absurd cc

-- where a plan stands, a turn is left
rounds_some : (s k n : ℕ) → 0 < (s + 1) * (k + 1) + n
rounds_some s k n = let times = mul-le 1 1 (s + 1) (k + 1) (omega arith) (omega arith) in omega (arith, times)

round_some : (v : WorldView) (c : Cache) (core : Core) (stage : Stage)
    → turns_at v c core stage
    ≡ round_turns v.locks.geometry (steps_left v.locks.geometry stage) + turns_behind v.locks.geometry (kept_at c core.host) core.call
    → 0 < turns_at v c core stage
round_some v c core stage is =
    subst (λ n. 0 < n) (sym is)
    (rounds_some (steps_left v.locks.geometry stage) (v.locks.geometry.groups + v.locks.geometry.parts)
    (turns_behind v.locks.geometry (kept_at c core.host) core.call))

begun_some : (g : Geometry) (m : HostState) (known : Known) (call : FileCall) → 0 < turns_begun g m known call
begun_some g m known call = pick (has_hold call m)
  where
    trying : (call : FileCall) → 0 < turns_trying g call
    trying (Close f) = omega arith
    trying (Plain (calls.Read f i)) = omega arith
    trying (Plain call) = omega arith

    pick : (b : Bool) → 0 < (if b then turns_seeing g known call else turns_trying g call)
    pick true = seeing_some g known call
    pick false = trying call

pub turns_some : (v : WorldView) (c : Cache) (core : Core) (stage : Stage) → At v c core stage → 0 < turns_at v c core stage
turns_some v c core stages.Asks at = omega arith
turns_some v c core stages.Begins at = begun_some v.locks.geometry (host_at v.locks core.host) (kept_at c core.host) core.call
turns_some v c core (stages.Writes t) at = let some = tries_some v core.host (file_of core.call) t at.1.at in omega (arith, some)
turns_some v c core (stages.Reads t) at = let few = at.1.trying.tries in omega (arith, few)
turns_some v c core (stages.GivesBack t) at = let few = at.1.trying.tries in omega (arith, few)
turns_some v c core stages.Sees at = seeing_some v.locks.geometry (kept_at c core.host) core.call
turns_some v c core stages.Frees at = locks core.taken at.2
  where
    locks : (taken : List Resource) → taken ≢ [] → 0 < length taken + turns_rested v.locks.geometry (kept_at c core.host) core.call core.outcome
    locks [] some = absurd (some cc)
    locks (r ∷ more) some = omega arith
turns_some v c core stages.Over at = absurd at
turns_some v c core (stages.Applies a) at =
    rounds_some (length a.left + 1) (v.locks.geometry.groups + v.locks.geometry.parts)
    (turns_rested v.locks.geometry (known_behind (kept_at c core.host) a.entry.edits a.left) core.call core.outcome)
turns_some v c core (stages.Searches old shared search) at = round_some v c core (stages.Searches old shared search) refl
turns_some v c core (stages.LocksShared old d group) at = round_some v c core (stages.LocksShared old d group) refl
turns_some v c core (stages.FetchesShared old d group) at = round_some v c core (stages.FetchesShared old d group) refl
turns_some v c core (stages.Puts fresh) at = round_some v c core (stages.Puts fresh) refl
turns_some v c core (stages.Fills fresh) at = round_some v c core (stages.Fills fresh) refl
turns_some v c core (stages.Locks change) at = round_some v c core (stages.Locks change) refl
turns_some v c core (stages.Fetches change) at = round_some v c core (stages.Fetches change) refl
turns_some v c core (stages.Changes change group) at = round_some v c core (stages.Changes change group) refl

-- fewer are left where the digest of a block was handed in
pub supply_sooner : (v : WorldView) (c : Cache) (core : Core) → IsGeometry v.locks.geometry → At v c core stages.Asks
    → turns_at v c core stages.Begins < turns_at v c core stages.Asks
supply_sooner v c core range at = pick (has_hold core.call (host_at v.locks core.host))
  where
    most : (call : FileCall) → is_write call ≡ true → turns_seeing v.locks.geometry nothing call ≤ turns_trying v.locks.geometry call
    most (Plain (calls.Write f i block)) is = omega arith
    most call is = absurd cc

    pick : (b : Bool) → (if b then turns_seeing v.locks.geometry (kept_at c core.host) core.call else turns_trying v.locks.geometry core.call)
        < turns_trying v.locks.geometry core.call + 1
    pick true =
        let known = seeing_most v.locks.geometry (kept_at c core.host) core.call range at.0.file in
        let few = most core.call at.1 in omega (arith, known, few)
    pick false = omega arith

-- and as many where it is waited for
pub turns_waiting : (v w : WorldView) (c d : Cache) (old new : Core) (before : Stage) (step : Step) (after : Stage) (block : Block)
    → IsWaiting v w d old new before step after block → turns_at w d new after ≡ turns_at v c old stages.Asks
turns_waiting v w c d old new before step after block is =
    ap (turns_at w d new) is.stage ∙ ap (λ (k : Core). turns_at w d k stages.Asks) is.core
    ∙ ap (λ (x : WorldView). turns_at x d old stages.Asks) is.same
