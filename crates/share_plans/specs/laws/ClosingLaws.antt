-- What each step did towards the end of a transaction.
use Rattle.std.proofs.Common.{◌≡◌, ◌≢◌, ◌<◌, ◌+◌, ℕ, true, false, Bool, List, [], ◌∷◌, None, Some, refl, ap, sym, subst, arith, length}
use Rattle.vol_layout.specs.declared.field.Edit.{Edit}
use Rattle.vol_layout.specs.declared.geometry.Geometry.{Geometry}
use Rattle.vol_layout.specs.declared.kind.Kind.{Kind}
use Rattle.vol_layout.specs.declared.kind.Kind.TheVariants as kinds
use Rattle.vol_layout.specs.declared.kind.Resource.{Resource}
use Rattle.vol_layout.specs.declared.kind.Resource.TheVariants.{File, Group, Part}
use Rattle.vol_layout.specs.Ranges.{HasTable}
use Rattle.journal_block.specs.JournalRecord.{JournalRecord}
use Rattle.lock_store.specs.declared.host.HostState.{HostState}
use Rattle.lock_store.specs.Memories.{holds, reads}
use Rattle.lock_store.specs.Views.{host_at, told_of}
use Rattle.disk_locks.specs.Calls.{IsShared}
use Rattle.call_effects.specs.Changes.{Changes}
use Rattle.host_facts.specs.Facts.Fact.{RecordIs}
use Rattle.host_facts.specs.Knows.{Knows}
use Rattle.host_facts.specs.Relocks.{Relocks}
use Rattle.host_facts.specs.Views.{WorldView}
use Rattle.host_facts.specs.Wrote as wrote'
use Rattle.host_facts.specs.Wrote.{Writing}
use Rattle.host_facts.specs.laws.ToldLaws.{both_of}
use Rattle.plan_parts.specs.Applies.{IsApplying, RecordEnded, TableWritten}
use Rattle.plan_parts.specs.MadeCalls.{AppliedSo, FreedSo, freeing_of, step_of}
use Rattle.plan_parts.specs.TakenLocks.{AreHeld, IsTaking}
use Rattle.plan_parts.specs.TakenLocks as locks
use Rattle.plan_parts.specs.declared.applying.Applied.TheVariants.{Finished, Wrote}
use Rattle.plan_parts.specs.declared.applying.Applying.{Applying}
use Rattle.plan_parts.specs.declared.kept.Kept.{Kept}
use Rattle.plan_parts.specs.laws.ApplyingLaws.{one_table_less}
use Rattle.plan_parts.specs.laws.TakenLaws.{one_lock_less, taking_same}
use Rattle.share_plans.specs.Closings.{ChangesNothing, Closes, IsClosing, KeepsHolds, StandsClosed, closing_left, rest_of}
use Rattle.share_plans.specs.declared.closing.Closing.TheVariants.{Applies, Frees}
use Rattle.share_plans.specs.laws.SpareLaws.{spares_freeing, spares_place}

-- a lock of a part or group is no file's
pub shared_no_file : (r : Resource) (f : ℕ) → IsShared r → File f ≢ r
shared_no_file (File e) f shared same = shared
shared_no_file (Part p) f shared same = absurd cc
shared_no_file (Group q) f shared same = absurd cc

module _ (h : ℕ) (v w : WorldView) where
  pub keeps_memory : w.locks.geometry ≡ v.locks.geometry → host_at w.locks h ≡ host_at v.locks h → KeepsHolds h v w
  keeps_memory geometry memory = record {
    geometry = geometry;
    joined = ap (λ (m : HostState). m.joined) memory;
    held = λ f below. ap (λ (m : HostState). holds m (File f)) memory;
    read = λ f below. ap (λ (m : HostState). reads m (File f)) memory;
  }

  pub keeps_relocked : (r : Resource) → IsShared r → Relocks h r v w → KeepsHolds h v w
  keeps_relocked r shared relocks = record {
    geometry = relocks.passes.geometry;
    joined = relocks.memory.joined;
    held = λ f below. relocks.memory.holds_same (File f) below (shared_no_file r f shared);
    read = λ f below. relocks.memory.reads_same (File f) below (shared_no_file r f shared);
  }

  pub wrote_nothing : (kind : Kind) (block : List ℕ) → wrote'.Wrote h kind block [] None v w → ChangesNothing v w
  wrote_nothing kind block wrote =
      both_of (told_of v.locks) (told_of w.locks) (Writing v.locks.geometry kind block [] None) (Changes v.locks.geometry [] None)
      wrote.images (λ old new step. step.changes)

  -- where no record stands, the locks are freed
  pub stands_rested : (taken : List Resource) → IsTaking w h taken → Knows w h (RecordIs []) → StandsClosed w h taken (rest_of taken)
  stands_rested [] taking empty = (taking, empty, refl)
  stands_rested (r ∷ more) taking empty = (taking, empty, λ none. cc)

pub rest_left : (taken : List Resource) (n : ℕ) → length taken < n → closing_left taken (rest_of taken) < n
rest_left [] n less = omega (arith, less)
rest_left (r ∷ more) n less = less

-- a table was written
pub table_closes : (h : ℕ) (v w : WorldView) (taken : List Resource) (a b : Applying) (kept : Kept) → IsClosing v h taken (Applies a)
    → b.entry ≡ a.entry → TableWritten h v w a.entry.edits a.left b.left kept → AppliedSo h v w (Wrote kept)
    → Closes h v w taken taken (Applies a) (Some (Applies b))
table_closes h v w taken a b kept at entry did so =
    let edits : b.entry.edits ≡ a.entry.edits = ap (λ (r : JournalRecord). r.edits) entry in
    let less = one_table_less h v w a.entry.edits a.left b.left kept did in record {
      keeps = keeps_memory h v w did.wrote.geometry did.wrote.memory;
      stands = (
        taking_same v w h taken did.wrote.geometry did.wrote.memory at.0,
        subst (λ (es : List Edit). IsApplying w h es b.left) (sym edits) did.stands,
      );
      changes = wrote_nothing h v w _ _ did.wrote;
      less = omega (arith, less);
      event = step_of v h (Wrote kept);
      spares = spares_place v.locks.geometry (kinds.Table kept.which)
          (subst (λ (g : Geometry). HasTable g kept.which) did.wrote.geometry did.now.table) refl;
      quiet = so;
    }

-- the empty journal was written
pub record_closes : (h : ℕ) (v w : WorldView) (taken : List Resource) (a : Applying) → h < v.locks.geometry.hosts
    → IsClosing v h taken (Applies a) → RecordEnded h v w a.left → AppliedSo h v w Finished
    → Closes h v w taken taken (Applies a) (rest_of taken)
record_closes h v w taken a host at did so = record {
  keeps = keeps_memory h v w did.wrote.geometry did.wrote.memory;
  stands = stands_rested h v w taken (taking_same v w h taken did.wrote.geometry did.wrote.memory at.0) did.empty;
  changes = wrote_nothing h v w _ _ did.wrote;
  less = rest_left taken (length a.left + 1 + length taken) (omega arith);
  event = step_of v h Finished;
  spares = spares_place v.locks.geometry (kinds.Journal h) host refl;
  quiet = so;
}

-- a lock was freed
pub lock_closes : (h : ℕ) (v w : WorldView) (taken after : List Resource) (freed : Bool) → IsClosing v h taken Frees
    → locks.Frees h v w taken after freed → FreedSo h v w taken after freed → Closes h v w taken after Frees (rest_of after)
lock_closes h v w taken after true at did so =
    let held = subst (AreHeld v h) did.last at.0.each in
    let less = one_lock_less h v w taken after did in record {
      keeps = keeps_relocked h v w did.resource held.1 did.relocks;
      stands = stands_rested h v w after did.taking did.empty;
      changes = did.relocks.passes.images;
      less = rest_left after (length taken) (omega (arith, less));
      event = freeing_of v h so.0;
      spares = spares_freeing v h so.0 (subst (AreHeld v h) so.1 at.0.each).0;
      quiet = so.2;
    }
lock_closes h v w taken after false at did so = absurd (at.2 did.0)
