-- A registration, a fence, and a call that marks nothing are such that their turn may make them.
use Rattle.std.proofs.Common.{◌≡◌, ℕ, List, None, Some, sym, subst}
use Rattle.vol_base.specs.declared.command.Command.TheVariants.{Join}
use Rattle.vol_layout.specs.declared.kind.Kind.{Kind}
use Rattle.vol_layout.specs.declared.kind.Kind.TheVariants as kinds
use Rattle.shared_disk.specs.Events.{Call, Reply, Fences, Reads, Registers, Tests, Writes, event}
use Rattle.lock_store.specs.Views.{LocksView, key_at}
use Rattle.disk_locks.specs.MayWrite.{IsWritable}
use Rattle.host_runs.specs.CallRights.{MayFence}
use Rattle.host_runs.specs.Moments.{Moment}
use Rattle.host_runs.specs.TurnFacts.{MaySwap, MayTest, MayWrite}
use Rattle.host_notes.specs.Allowed.{IsAllowed, IsTurnOf}
use Rattle.host_notes.specs.Asked.{IsPlain}
use Rattle.host_notes.specs.lemmas.CallMarks.{test_allowed, write_allowed}
use Rattle.host_notes.specs.lemmas.PlainKinds.{writable_kind}

-- to be given a key, in a `join` of a host that has none
pub allowed_register : (h key : ℕ) (m : Moment) (reply : Reply) → m.command ≡ Join → m.host ≡ h → m.old.memory.key ≡ None
    → IsAllowed m (event key (Registers h) reply)
allowed_register h key m reply joins host none = record { made = (joins, sym host, none); marks = tt }

module _ (v : LocksView) (h : ℕ) (m : Moment) (turn : IsTurnOf v h m) where
  -- nothing is asked of what is written into a plain block
  plain_write : (kind : Kind) (block : List ℕ) → IsWritable v.geometry kind → MayWrite m (key_at v h) (Some kind) block
  plain_write kinds.Super block writable = absurd writable
  plain_write (kinds.Slot y) block writable = absurd writable
  plain_write (kinds.Lock r) block writable = absurd writable
  plain_write kind block writable = tt

  plain_test : (kind : Kind) (old new : List ℕ) → IsWritable v.geometry kind → MayTest m (key_at v h) (Some kind) old new
  plain_test kinds.Super old new writable = absurd writable
  plain_test (kinds.Slot y) old new writable = absurd writable
  plain_test (kinds.Lock r) old new writable = absurd writable
  plain_test kind old new writable = tt

  plain_swap : (kind : Kind) (old new : List ℕ) → IsWritable v.geometry kind → MaySwap m (key_at v h) (Some kind) old new
  plain_swap kinds.Super old new writable = absurd writable
  plain_swap (kinds.Slot y) old new writable = absurd writable
  plain_swap (kinds.Lock r) old new writable = absurd writable
  plain_swap kind old new writable = tt

  -- to take a key off that the command may take off
  pub allowed_fence : (target : ℕ) (reply : Reply) → MayFence m.command h (key_at v h) target m.old.watch
      → IsAllowed m (event (key_at v h) (Fences target) reply)
  allowed_fence target reply may =
      record {
        made = (turn.key, turn.seat, subst (λ n. MayFence m.command n (key_at v h) target m.old.watch) (sym turn.host) may);
        marks = tt;
      }

  -- to read any block, and to write or test one that is no slot and no lock
  pub allowed_plain : (call : Call) (reply : Reply) → IsPlain v.geometry call → IsAllowed m (event (key_at v h) call reply)
  allowed_plain (Reads place) reply plain = record { made = (turn.key, turn.seat); marks = tt }
  allowed_plain (Writes place block) reply plain =
      subst (λ p. IsAllowed m (event (key_at v h) (Writes p block) reply)) (sym plain.at)
      (write_allowed v h m turn plain.kind (writable_kind v.geometry plain.kind plain.writable) reply block
      (plain_write plain.kind block plain.writable))
  allowed_plain (Tests place old new) reply plain =
      subst (λ p. IsAllowed m (event (key_at v h) (Tests p old new) reply)) (sym plain.at)
      (test_allowed v h m turn plain.kind (writable_kind v.geometry plain.kind plain.writable) reply old new
      (plain_test plain.kind old new plain.writable) (plain_swap plain.kind old new plain.writable))
  allowed_plain (Registers of) reply plain = absurd plain
  allowed_plain (Fences target) reply plain = absurd plain
