-- The steps of a read.
use Rattle.std.proofs.Common.{◌≡◌, ◌≤◌, ◌<◌, ◌+◌, ℕ, [], None, Option, Some, refl, ap, sym, subst, ◌∙◌, arith}
use Rattle.std.specs.Prelude.{IfSome, Ok}
use Rattle.vol_base.specs.Packing.{Packing}
use Rattle.vol_base.specs.declared.block.Block.{Block}
use Rattle.vol_base.specs.declared.plain.PlainCall.{PlainCall}
use Rattle.vol_base.specs.declared.plain.PlainCall.TheVariants.{Read}
use Rattle.vol_base.specs.declared.plain.PlainReply.{PlainReply}
use Rattle.vol_base.specs.declared.plain.PlainReply.TheVariants.{Holds}
use Rattle.vol_layout.specs.declared.field.Field.{Field}
use Rattle.vol_layout.specs.declared.field.Field.TheVariants.{Pointer}
use Rattle.vol_layout.specs.declared.geometry.Geometry.{Geometry}
use Rattle.vol_layout.specs.declared.kind.Kind.TheVariants as kinds
use Rattle.vol_layout.specs.declared.kind.Resource.TheVariants.{File}
use Rattle.vol_layout.specs.declared.kind.Table.{Table}
use Rattle.call_effects.specs.Places.{IsReplyOf, Places}
use Rattle.call_effects.specs.laws.LookLaws.{IsLook}
use Rattle.disk_locks.specs.Consistent.{Consistent}
use Rattle.file_plans.specs.Bases.{IsCached}
use Rattle.file_plans.specs.Says.{HasBlock}
use Rattle.file_plans.specs.Sights.{IsSight}
use Rattle.file_plans.specs.declared.call.FileCall.TheVariants.{Plain}
use Rattle.file_plans.specs.declared.sight.Sight.TheVariants as sights
use Rattle.file_plans.specs.laws.BaseLaws.{cached_on}
use Rattle.file_plans.specs.laws.KnownLaws.{block_named, block_shown, place_settled_after, settled_look}
use Rattle.file_plans.specs.laws.NeedLaws.{cached_kept}
use Rattle.file_plans.specs.laws.TurnCountLaws.{IsKnownStill, seeing_read}
use Rattle.held_cache.specs.Kept.{Cache, ChangesOnly, IsFileTable, kept_at}
use Rattle.host_facts.specs.Calls.{ReadsTable}
use Rattle.host_facts.specs.Facts.Fact.{BlockIs, RecordIs, TableIs}
use Rattle.host_facts.specs.Knows.{Knows}
use Rattle.host_facts.specs.Looks.{Looks}
use Rattle.host_facts.specs.OwnBlocks.{MayName}
use Rattle.host_facts.specs.Views.{WorldView}
use Rattle.host_facts.specs.laws.FactLaws.{held_readable}
use Rattle.host_facts.specs.laws.ToldLaws.{map_told}
use Rattle.image_view.specs.declared.pointer.Number.TheVariants as numbers
use Rattle.lock_store.specs.Calls.{ReadsBlock}
use Rattle.lock_store.specs.Views.{host_at, told_of}
use Rattle.shared_disk.specs.Events.{Acts, Event}
use Rattle.shared_disk.specs.State.{OnImages, State, Told}
use Rattle.table_blocks.specs.Tables.{IsPackingOf}
use Rattle.std.specs.Prelude.{Bool, if◌then◌else◌}
use Rattle.file_plans.specs.Turns.{turns_seeing, turns_trying}
use Rattle.file_plans.specs.declared.state.Core.{Core}
use Rattle.file_plans.specs.laws.TurnBoundLaws.{read_few}
use Rattle.file_plans.specs.laws.TurnStepLaws.{seeing_some}
use Rattle.lock_store.specs.declared.answers.StepNo.{StepNo}
use Rattle.lock_store.specs.declared.answers.StepNo.TheVariants as steps
use Rattle.plan_parts.specs.declared.outcome.Outcome.TheVariants.{Open}
use Rattle.solo.specs.Alone.{IsAlone, LeavesDevice}
use Rattle.solo.specs.Stops.{IsCause, IsCutOff}
use Rattle.solo.specs.Reads.{HasSeen, IsLooking, IsReadOf, reads_left}
use Rattle.solo.specs.laws.AloneLaws.{alone_below, alone_looks, untouched_then}
use Rattle.solo.specs.laws.OwnCalls.{count_one, risen}

-- a call that wrote nothing left the device untouched
pub looks_untouched : (v w : WorldView) (h : ℕ) (e : Event) → Looks h v w → Acts e v.locks.disk w.locks.disk → LeavesDevice v w
looks_untouched v w h e looks acts = record { state = looks.state; geometry = looks.geometry; later = acts.later }

pub untouched_same : (v : WorldView) → LeavesDevice v v
untouched_same v = record { state = refl; geometry = refl; later = omega arith }

-- a reply that is settled is that of plain files
pub settled_read : (v : WorldView) (c : Cache) (f i : ℕ) (reply : PlainReply) → Consistent v.locks → IsAlone v → IsCached v c 0
    → IsSight v.locks.geometry (kept_at c 0) (Plain (Read f i)) (sights.Settled reply) → IsReadOf v f i reply
settled_read v c f i reply is alone cached sight =
    map_told (told_of v.locks) (λ t. IsLook v.locks.geometry (Read f i) reply t.image)
    (λ t. IsReplyOf v.locks.geometry (Read f i) reply t.image)
    (settled_look v c 0 is cached alone.ready.empty (Read f i) reply sight alone.registered) (λ t look. sym (ap (λ o. o.0) look))

module _ (v w : WorldView) (c d : Cache) (f i : ℕ) (which : Table) (table : Packing) (is : Consistent v.locks) (alone : IsAlone v)
    (cached : IsCached v c 0) (file : f < v.locks.geometry.files)
    (sight : IsSight v.locks.geometry (kept_at c 0) (Plain (Read f i)) (sights.Needs which))
    (did : ReadsTable v.locks 0 which (Ok table) w.locks) (looks : Looks 0 v w)
    (known : Knows w 0 (TableIs which table)) (keeps : ChangesOnly c d 0 which (Some table)) where
  -- a table was read and kept
  pub kept_looking : IsLooking v w d
  kept_looking = record {
    alone = alone_looks v w looks alone;
    cached = cached_kept w c d 0 which table (subst (λ (g : Geometry). 0 < g.hosts) (sym looks.geometry) (alone_below v is alone))
        (cached_on v w c 0 looks.geometry (λ t p knows. looks.facts (TableIs t p) knows) cached) keeps known
        (subst (λ (g : Geometry). IsPackingOf g which table) (sym looks.geometry) did.1);
    same = looks_untouched v w 0 _ looks did.0.acts;
  }

  still : IsKnownStill v.locks.geometry (kept_at c 0) (kept_at d 0)
  still t p file_is knows =
      keeps.others 0 t (
        subst (λ (g : Geometry). 0 < g.hosts) (sym cached.volume) (alone_below v is alone),
        subst (λ (g : Geometry). IsFileTable g t) (sym cached.volume) file_is,
      ) (λ here same. let both : None ≡ Some p = sym sight.2 ∙ ap (kept_at c 0) (sym same) ∙ knows in cc) ∙ knows

  pub kept_seen : HasSeen v w c d f i None
  kept_seen = (
    count_one v.locks.disk.calls w.locks.disk.calls did.0.acts.counted,
    seeing_read v.locks.geometry (kept_at c 0) (kept_at d 0) (Plain (Read f i)) is.geometry file still which table sight.0 sight.1 sight.3
        sight.2 keeps.changed,
  )

-- a place of a read tells its reply
read_placed : (g : Geometry) (call : PlainCall) (reply : PlainReply) (old new : Option Told)
    → OnImages (Places g (Some call) (Some reply)) old new → IfSome old (λ t. IsReplyOf g call reply t.image)
read_placed g call reply None new placed = tt
read_placed g call reply (Some t) None placed = absurd placed
read_placed g call reply (Some t) (Some u) placed = placed.0

module _ (v : WorldView) (c : Cache) (f i d : ℕ) (is : Consistent v.locks) (alone : IsAlone v) (cached : IsCached v c 0)
    (file : f < v.locks.geometry.files) (sight : IsSight v.locks.geometry (kept_at c 0) (Plain (Read f i)) (sights.Shows d)) where
  named : MayName v 0 (Pointer f i) d
  named =
      block_named v c 0 is cached alone.ready.empty f i d sight.0
      (held_readable (host_at v.locks 0) (File f) (alone.files f file)) sight.1

  -- the data block that it reads is named by its file
  pub shown_named : (x : Field) × MayName v 0 x d
  shown_named = (Pointer f i, named)

  module _ (w : WorldView) (block : Block) (after : Consistent w.locks) (did : ReadsBlock v.locks 0 (kinds.Number d) (Ok block) w.locks)
      (looks : Looks 0 v w) (known : (x : Field) → MayName v 0 x d → Knows w 0 (BlockIs x d block.0)) where
    still_cached : IsCached w c 0
    still_cached = cached_on v w c 0 looks.geometry (λ t p knows. looks.facts (TableIs t p) knows) cached

    pub shown_looking : IsLooking v w c
    shown_looking = record {
      alone = alone_looks v w looks alone;
      cached = still_cached;
      same = looks_untouched v w 0 _ looks did.acts;
    }

    pub shown_seen : HasSeen v w c c f i (Some (Holds block))
    shown_seen = (
      count_one v.locks.disk.calls w.locks.disk.calls did.acts.counted,
      read_placed v.locks.geometry (Read f i) (Holds block) (told_of v.locks) (told_of w.locks)
          (place_settled_after v w 0 (Read f i) (Holds block) looks
          (block_shown w c 0 after still_cached (looks.facts (RecordIs []) alone.ready.empty) f i d sight.0 block
          (subst (λ (g : Geometry). HasBlock g (kept_at c 0) f i (numbers.At d sight.0)) (sym looks.geometry) sight.1)
          (known (Pointer f i) named))),
    )

-- a reply of a later look is one of the first world, where the device was left untouched
pub read_back : (v w : WorldView) (f i : ℕ) (reply : PlainReply) → LeavesDevice v w → IsReadOf w f i reply → IsReadOf v f i reply
read_back v w f i reply same read =
    subst (λ (g : Geometry). IfSome (told_of v.locks) (λ t. IsReplyOf g (Read f i) reply t.image)) same.geometry
    (subst (λ (s : State). IfSome s.told (λ t. IsReplyOf w.locks.geometry (Read f i) reply t.image)) same.state read)

-- the calls that a read of a held file makes at most
pub reads_few : (v : WorldView) (c : Cache) (f i : ℕ) → IsAlone v → f < v.locks.geometry.files
    → v.locks.disk.calls + reads_left v.locks.geometry (kept_at c 0) f i ≤ v.locks.disk.calls + 3
reads_few v c f i alone file =
    let core : Core = record { host = 0; call = Plain (Read f i); taken = []; outcome = Open } in
    let has = held_readable (host_at v.locks 0) (File f) (alone.files f file) in
    let few = subst (λ (b : Bool). (if b then turns_seeing v.locks.geometry (kept_at c 0) (Plain (Read f i))
    else turns_trying v.locks.geometry (Plain (Read f i))) ≤ 3) has (read_few v c core refl has) in
    more v.locks.disk.calls (reads_left v.locks.geometry (kept_at c 0) f i) few
  where
    more : (n k : ℕ) → k ≤ 3 → n + k ≤ n + 3
    more n k few = omega (arith, few)

-- one look more
module _ (v u w : WorldView) (d e : Cache) (f i : ℕ) (looking : IsLooking v u d)
    (few : u.locks.disk.calls + reads_left v.locks.geometry (kept_at d 0) f i ≤ v.locks.disk.calls + 3) where
  pub looking_then : IsLooking u w e → IsLooking v w e
  looking_then last = record { alone = last.alone; cached = last.cached; same = untouched_then v u w looking.same last.same }

  pub seen_reply : (reply : PlainReply) → HasSeen u w d e f i (Some reply) → IsReadOf v f i reply
  seen_reply reply seen = read_back v u f i reply looking.same seen.1

  pub seen_more : HasSeen u w d e f i None
      → reads_left v.locks.geometry (kept_at e 0) f i < reads_left v.locks.geometry (kept_at d 0) f i
  seen_more seen =
      subst (λ (g : Geometry). reads_left g (kept_at e 0) f i < reads_left g (kept_at d 0) f i) looking.same.geometry seen.1

  pub seen_fewer : HasSeen u w d e f i None
      → w.locks.disk.calls + reads_left v.locks.geometry (kept_at e 0) f i ≤ v.locks.disk.calls + 3
  seen_fewer seen = let more = seen_more seen in let one = seen.0 in omega (arith, few, more, one)

  pub seen_last : w.locks.disk.calls ≤ u.locks.disk.calls + 1 → w.locks.disk.calls ≤ v.locks.disk.calls + 3
  seen_last one =
      let some = seeing_some v.locks.geometry (kept_at d 0) (Plain (Read f i)) in omega (arith, few, some, one)

-- a look that was refused
pub looked_cause : (v u w : WorldView) (why : StepNo) → LeavesDevice v u → IsCutOff u w why → IsCause v w why
looked_cause v u w steps.Fenced same cut = cut.cause
looked_cause v u w steps.Failed same cut = risen v.locks.disk.faults u.locks.disk.faults w.locks.disk.faults same.later cut.cause
looked_cause v u w (steps.Bad place) same cut = sym (ap (λ (s : State). s.told) same.state) ∙ cut.cause
looked_cause v u w steps.NoMemory same cut = tt
