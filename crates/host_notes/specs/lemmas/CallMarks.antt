-- A write and a test-and-set at a block of the volume, as what the block's kind asks of them.
use Rattle.std.proofs.Common.{◌≡◌, ℕ, List, Option, Some, ap, sym, ◌∙◌, subst}
use Rattle.std.specs.Prelude.{IfSome}
use Rattle.vol_base.specs.declared.command.Command.{Command}
use Rattle.vol_base.specs.declared.command.Command.TheVariants.{Close}
use Rattle.vol_layout.specs.declared.kind.Kind.{Kind}
use Rattle.vol_layout.specs.declared.kind.Resource.{Resource}
use Rattle.vol_layout.specs.declared.kind.Resource.TheVariants.{File, Group, Part}
use Rattle.vol_layout.specs.Places.{kind_at, place_of}
use Rattle.vol_layout.specs.Ranges.{HasKind}
use Rattle.vol_layout.specs.laws.PlaceLaws.{kind_at-place}
use Rattle.shared_disk.specs.Events.{Reply, Done, Tests, Writes, event}
use Rattle.lock_store.specs.Views.{LocksView, key_at}
use Rattle.disk_locks.specs.Calls.{IsShared}
use Rattle.host_runs.specs.FileUses.{file_tried, file_used}
use Rattle.host_runs.specs.Moments.{Moment}
use Rattle.host_runs.specs.TurnFacts.{MayHold, MayMark, MaySwap, MayTest, MayWrite}
use Rattle.host_notes.specs.Allowed.{IsAllowed, IsTurnOf}

test_marks : (m : Moment) (own at : ℕ) (old new : List ℕ) (kind : Option Kind) → kind ≡ kind_at m.geometry at → MayTest m own kind old new
    → MaySwap m own kind old new → (reply : Reply) → MayMark m own (Tests at old new) reply
test_marks m own at old new kind is test swap Done =
    (subst (λ (k : Option Kind). MayTest m own k old new) is test, subst (λ (k : Option Kind). MaySwap m own k old new) is swap)
test_marks m own at old new kind is test swap reply = subst (λ (k : Option Kind). MayTest m own k old new) is test

module _ (v : LocksView) (h : ℕ) (m : Moment) (turn : IsTurnOf v h m) (kind : Kind) (has : HasKind v.geometry kind) (reply : Reply) where
  here : Some kind ≡ kind_at m.geometry (place_of v.geometry kind)
  here = sym (ap (λ g. kind_at g (place_of v.geometry kind)) turn.geometry ∙ kind_at-place v.geometry kind has)

  pub test_allowed : (old new : List ℕ) → MayTest m (key_at v h) (Some kind) old new → MaySwap m (key_at v h) (Some kind) old new
      → IsAllowed m (event (key_at v h) (Tests (place_of v.geometry kind) old new) reply)
  test_allowed old new test swap = record {
    made = (turn.key, turn.seat);
    marks = test_marks m (key_at v h) (place_of v.geometry kind) old new (Some kind) here test swap reply;
  }

  pub write_allowed : (block : List ℕ) → MayWrite m (key_at v h) (Some kind) block
      → IsAllowed m (event (key_at v h) (Writes (place_of v.geometry kind) block) reply)
  write_allowed block may = record {
    made = (turn.key, turn.seat);
    marks = subst (λ (k : Option Kind). MayWrite m (key_at v h) k block) here may;
  }

-- any command may hold a part or a group, which is no file
pub shared_held : (command : Command) (r : Resource) → IsShared r → MayHold command r
shared_held command (File f) shared = absurd shared
shared_held command (Part p) shared = tt
shared_held command (Group p) shared = tt

pub shared_no_file : (r : Resource) (f : ℕ) → IsShared r → r ≡ File f → ⊥
shared_no_file r f shared e = subst IsShared e shared

-- a command on a file tries the lock of that file
pub tried_of : (command : Command) (f : ℕ) → file_used command ≡ Some f → file_tried command ≡ Some f
tried_of (Close e) f on = absurd cc
tried_of command f on = on

-- it is the lock of that file which is tried, from the word that was found last
pub again : (m : Moment) (f : ℕ) (old : List ℕ) → file_tried m.command ≡ Some f → IfSome m.old.tries.found (λ word. old ≡ word)
    → (e : ℕ) → File f ≡ File e → (file_tried m.command ≡ Some e) × IfSome m.old.tries.found (λ word. old ≡ word)
again m f old tried found e same = let one : f ≡ e = cc in (tried ∙ ap (λ n. Some n) one, found)
