-- What stands before a step of a recovery stands over calls that leave the host what it has and knows: those of other hosts, too.
use Rattle.std.proofs.Common.{◌≡◌, ◌≢◌, ◌<◌, ◌∙◌, ℕ, List, [], ap, sym, subst, refl}
use Rattle.std.specs.Prelude.{slice_index_or}
use Rattle.vol_base.specs.Packing.{Packing}
use Rattle.vol_layout.specs.declared.field.Edit.{Edit}
use Rattle.vol_layout.specs.declared.geometry.Geometry.{Geometry}
use Rattle.vol_layout.specs.declared.kind.Resource.{Resource}
use Rattle.vol_layout.specs.Edits.{AreEdits}
use Rattle.vol_layout.specs.Fields.{table_of}
use Rattle.vol_layout.specs.Ranges.{HasResource}
use Rattle.slot_lock_blocks.specs.declared.slot.Slot.{Slot}
use Rattle.slot_lock_blocks.specs.Slots.{slot_key}
use Rattle.table_blocks.specs.Tables.{IsPackingOf}
use Rattle.lock_store.specs.declared.host.HostState.{HostState}
use Rattle.lock_store.specs.declared.purpose.SlotUse.TheVariants.{Take}
use Rattle.lock_store.specs.Memories.{claim_of, holds, key_of}
use Rattle.lock_store.specs.SlotTries.{MayShow, slot_by}
use Rattle.lock_store.specs.Views.{host_at, key_at}
use Rattle.host_facts.specs.Facts.{Fact, locks_of}
use Rattle.host_facts.specs.Facts.Fact.{DeadRecord, DeadTable, Given, Off, RecordIs, Swept}
use Rattle.host_facts.specs.Knows.{Knows}
use Rattle.host_facts.specs.Others.{Others}
use Rattle.host_facts.specs.Records.{IsReplayed}
use Rattle.host_facts.specs.Views.{WorldView}
use Rattle.host_facts.specs.laws.DoneLaws.{entered_kept}
use Rattle.plan_parts.specs.Steps.{IsReady}
use Rattle.recover_plan.specs.Replaying.{HasClaim, IsAllReplayed, IsDue, IsRecoverer, IsReplaying, IsSwept}
use Rattle.recover_plan.specs.Stages.{HasFound, IsSeen, Stands, StandsBehind}
use Rattle.slot_lock_blocks.specs.declared.slot.Slot.TheVariants as slots
use Rattle.recover_plan.specs.Recoveries.{IsSameLive}
use Rattle.recover_plan.specs.declared.replay.Going.{Going}
use Rattle.recover_plan.specs.declared.replay.Going.TheVariants as goings
use Rattle.recover_plan.specs.declared.replay.Replay.{Replay}
use Rattle.recover_plan.specs.declared.replay.Replay.TheVariants as stages

module _ (v w : WorldView) (h of : ℕ) (geometry : w.locks.geometry ≡ v.locks.geometry) where
  -- the host keeps its key, and whether it is joined and has left
  pub recoverer_on : key_at w.locks h ≡ key_at v.locks h → (host_at w.locks h).joined ≡ (host_at v.locks h).joined
      → (host_at w.locks h).freed ≡ (host_at v.locks h).freed → IsRecoverer v h of → IsRecoverer w h of
  recoverer_on key joined freed is = record {
    host = subst (λ (g : Geometry). h < g.hosts) (sym geometry) is.host;
    below = subst (λ (g : Geometry). of < g.hosts) (sym geometry) is.below;
    key = λ none. is.key (sym key ∙ none);
    apart = λ own. (joined ∙ (is.apart own).0, freed ∙ (is.apart own).1);
  }

  -- a host that is ready is so still, where it holds what it held and its journal is empty still
  pub ready_on : (host_at w.locks h).joined ≡ (host_at v.locks h).joined
      → ((r : Resource) → holds (host_at w.locks h) r ≡ holds (host_at v.locks h) r)
      → (Knows v h (RecordIs []) → Knows w h (RecordIs [])) → IsReady v h → IsReady w h
  ready_on joined held record_on is = record {
    joined = joined ∙ is.joined;
    empty = record_on is.empty;
    taking = record {
      each = tt;
      only = λ r has shared holds_it.
          is.taking.only r (subst (λ (g : Geometry). HasResource g r) geometry has) shared (sym (held r) ∙ holds_it);
    };
  }

  module _ (memory : host_at w.locks h ≡ host_at v.locks h) (facts : (a : Fact) → Knows v h a → Knows w h a) where
    pub base_on : IsRecoverer v h of → IsRecoverer w h of
    base_on =
        recoverer_on (ap key_of memory) (ap (λ (m : HostState). m.joined) memory) (ap (λ (m : HostState). m.freed) memory)

    pub ready_still : IsReady v h → IsReady w h
    ready_still =
        ready_on (ap (λ (m : HostState). m.joined) memory) (λ r. ap (λ (m : HostState). holds m r) memory) (facts (RecordIs []))

    unclaimed_on : claim_of (host_at v.locks h) of ≡ 0 → claim_of (host_at w.locks h) of ≡ 0
    unclaimed_on none = ap (λ (m : HostState). claim_of m of) memory ∙ none

    pub seen_on : (slot : Slot) → IsSeen v h of slot → IsSeen w h of slot
    seen_on slot is = record {
      base = base_on is.base;
      unclaimed = unclaimed_on is.unclaimed;
      spelled = is.spelled;
      some = is.some;
      other = λ same. is.other (same ∙ ap key_of memory);
      shown = facts (Given (slot_key slot)) is.shown;
      by = facts (Given (slot_by slot)) is.by;
    }

    pub claim_on : (dead : ℕ) → HasClaim v h of dead → HasClaim w h of dead
    claim_on dead is = record {
      base = base_on is.base;
      some = is.some;
      claim = ap (λ (m : HostState). claim_of m of) memory ∙ is.claim;
    }

    replayed_on : (es : List Edit) (e : Edit) → IsReplayed v h of es e → IsReplayed w h of es e
    replayed_on es e = entered_kept v w h (DeadTable of e.field) es e geometry (λ p. facts (DeadTable of e.field p))

    pub replaying_on : (dead : ℕ) (es : List Edit) (k : ℕ) → IsReplaying v h of dead es k → IsReplaying w h of dead es k
    replaying_on dead es k is = record {
      claimed = claim_on dead is.claimed;
      known = facts (DeadRecord of es) is.known;
      edits = subst (λ (g : Geometry). AreEdits g es) (sym geometry) is.edits;
      more = is.more;
      first = is.first;
      replayed = λ i one e lt at touched same. replayed_on es e (is.replayed i one e lt at touched same);
    }

    due_on : (es : List Edit) (e : Edit) (kept : Packing) → IsDue v h of es e kept → IsDue w h of es e kept
    due_on es e kept is = record {
      before = is.before;
      packing = subst (λ (g : Geometry). IsPackingOf g (table_of e.field) is.before) (sym geometry) is.packing;
      table = facts (DeadTable of e.field is.before) is.table;
      made_is = is.made_is;
    }

    all_replayed_on : (dead : ℕ) → IsAllReplayed v h of dead → IsAllReplayed w h of dead
    all_replayed_on dead is = record {
      claimed = claim_on dead is.claimed;
      edits = is.edits;
      known = facts (DeadRecord of is.edits) is.known;
      each = λ k d lt. replayed_on is.edits (slice_index_or is.edits k d) (is.each k d lt);
    }

    pub swept_on : (dead k : ℕ) → IsSwept v h of dead k → IsSwept w h of dead k
    swept_on dead k is = record {
      claimed = claim_on dead is.claimed;
      empty = facts (DeadRecord of []) is.empty;
      swept = facts (Swept of k) is.swept;
    }

    -- each stage
    pub stands_on : (stage : Replay) → Stands v h of stage → Stands w h of stage
    stands_on (stages.Fence slot) is = seen_on slot is
    stands_on (stages.FenceBy slot) is = (seen_on slot is.0, is.1, facts (Off (slot_key slot)) is.2)
    stands_on (stages.Claim slot) is = (
      seen_on slot is.0,
      record { shown = facts (Off (slot_key slot)) is.1.shown; by = λ some. facts (Off (slot_by slot)) (is.1.by some) },
    )
    stands_on (stages.Journal dead) is = claim_on dead.0 is
    stands_on (stages.Read dead entry k) is = replaying_on dead.0 entry.edits k is
    stands_on (stages.Write dead entry k kept) is =
        (replaying_on dead.0 entry.edits k is.0, λ e at. due_on entry.edits e kept (is.1 e at))
    stands_on (stages.Clear dead) is = all_replayed_on dead.0 is
    stands_on (stages.Sweep dead k) is =
        (swept_on dead.0 k is.0, subst (λ (g : Geometry). k < locks_of g) (sym geometry) is.1)

    -- and what stands behind a step
    pub found_on : (from found : Slot) → HasFound v h of from found → HasFound w h of from found
    found_on from found is = record {
      base = base_on is.base;
      unclaimed = unclaimed_on is.unclaimed;
      source = is.source;
      spelled = is.spelled;
      of_host = is.of_host;
      may = subst (λ (m : HostState). MayShow Take of m found) (sym memory) is.may;
      shown = facts (Given (slot_key found)) is.shown;
      by = facts (Given (slot_by found)) is.by;
      some = is.some;
      other = λ same. is.other (same ∙ ap key_of memory);
      off = facts (Off (slot_key from)) is.off;
    }

    pub behind_on : (going : Going) → StandsBehind v h of going → StandsBehind w h of going
    behind_on (goings.More stage) is = stands_on stage is
    behind_on (goings.Found from found) is = found_on from found is
    behind_on (goings.Ready dead) is =
        subst (λ (g : Geometry). IsSwept w h of dead.0 (locks_of g)) (sym geometry) (swept_on dead.0 (locks_of v.locks.geometry) is)

-- what each of them stands on
module _ (v : WorldView) (h of : ℕ) where
  pub base_of : (going : Going) → StandsBehind v h of going → IsRecoverer v h of
  base_of (goings.More (stages.Fence slot)) is = is.base
  base_of (goings.More (stages.FenceBy slot)) is = is.0.base
  base_of (goings.More (stages.Claim slot)) is = is.0.base
  base_of (goings.More (stages.Journal dead)) is = is.base
  base_of (goings.More (stages.Read dead entry k)) is = is.claimed.base
  base_of (goings.More (stages.Write dead entry k kept)) is = is.0.claimed.base
  base_of (goings.More (stages.Clear dead)) is = is.claimed.base
  base_of (goings.More (stages.Sweep dead k)) is = is.0.claimed.base
  base_of (goings.Found from found) is = is.base
  base_of (goings.Ready dead) is = is.claimed.base

-- a host that has a key keeps what it has in memory over a call of another host
module _ (v w : WorldView) (h of x : ℕ) (others : Others x v w) (apart : h ≢ x) where
  -- what stands behind a step stands over the calls of other hosts; so what stands before one does
  pub behind_still : (going : Going) → StandsBehind v h of going → StandsBehind w h of going
  behind_still going is =
      behind_on v w h of others.locks.lasts.geometry (others.locks.keeps h apart (base_of v h of going is).key).memory
      (λ a. others.facts h a apart) going is

  pub stands_still : (stage : Replay) → Stands v h of stage → Stands w h of stage
  stands_still stage = behind_still (goings.More stage)

-- a live slot that a claim found with the key that it was made from may be claimed in its turn: that key is off
same_key : (from s : Slot) → IsSameLive from s → slot_key s ≡ slot_key from
same_key from slots.Free live = absurd live
same_key from (slots.Live key beat) live = sym live
same_key from (slots.Recovering key by) live = absurd live

no_by : (from s : Slot) → IsSameLive from s → slot_by s ≡ 0
no_by from slots.Free live = refl
no_by from (slots.Live key beat) live = refl
no_by from (slots.Recovering key by) live = absurd live

pub again_seen : (w : WorldView) (h of : ℕ) (from found : Slot) → HasFound w h of from found → IsSameLive from found
    → Stands w h of (stages.Claim found)
again_seen w h of from found is same =
    let key = same_key from found same in (
      record {
        base = is.base;
        unclaimed = is.unclaimed;
        spelled = is.spelled;
        some = λ none. is.some (sym key ∙ none);
        other = λ own. is.other (sym key ∙ own);
        shown = is.shown;
        by = is.by;
      },
      record {
        shown = subst (λ (x : ℕ). Knows w h (Off x)) (sym key) is.off;
        by = λ some. absurd (some (no_by from found same));
      },
    )
