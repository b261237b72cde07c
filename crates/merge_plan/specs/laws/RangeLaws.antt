-- What is decided of an entry names what the volume has, and begins so.
use Rattle.std.proofs.Common.{◌≡◌, ◌⊎◌, ◌-◌, ◌*◌, ◌<◌, ◌≤◌, ◌∙◌, ℕ, Bool, List, None, Option, Some, arith, false, inl, inr, length, refl, subst, sym, true}
use Rattle.std.specs.Prelude.{All, Any, slice_get}
use Rattle.std.specs.Str.{bytes_eq}
use Rattle.std.proofs.lemmas.List.Elements.{All-filter}
use Rattle.vol_base.specs.declared.block.Digest.{Digest}
use Rattle.vol_layout.specs.declared.geometry.Geometry.{Geometry}
use Rattle.vol_layout.specs.Ranges.{IsGeometry, arena_slots, per_table}
use Rattle.hint_blocks.specs.declared.entry.HintTo.{HintTo}
use Rattle.hint_blocks.specs.declared.entry.HintTo.TheVariants as to
use Rattle.hint_blocks.specs.declared.entry.IndexEntry.{IndexEntry}
use Rattle.hint_blocks.specs.declared.entry.LogEntry.{LogEntry}
use Rattle.hint_blocks.specs.Entries.{IsIndexEntry, IsTarget}
use Rattle.host_facts.specs.Views.{WorldView}
use Rattle.merge_actions.specs.Acts.{Calls}
use Rattle.merge_actions.specs.declared.acting.ActPlan.{ActPlan}
use Rattle.merge_decide.specs.Decision.{decision}
use Rattle.merge_decide.specs.declared.action.Action.{Action}
use Rattle.merge_decide.specs.declared.action.Action.TheVariants as actions
use Rattle.merge_decide.specs.laws.DecisionLaws.{decision-place, decision-slot}
use Rattle.merge_shelves.specs.declared.room.Noted.{Noted}
use Rattle.merge_steps.specs.Sweeps.{ArePassed, IsDue, IsHeld, IsHere, IsSweeping}
use Rattle.merge_steps.specs.declared.sweep.Due.TheVariants as dues
use Rattle.merge_steps.specs.declared.sweep.Sweep.{Sweep}
use Rattle.sorted_shard.specs.Shelves.{IsShelf, digest_of, with_digest}
use Rattle.merge_plan.specs.Followings.{BeginsAct, GoesOn, IsActionIn, IsDecided, IsFinished, uncalled}
use Rattle.merge_plan.specs.Rooms.{IsNext, IsOpen}
use Rattle.merge_plan.specs.declared.plan.Doing.{Doing}
use Rattle.merge_plan.specs.declared.plan.Doing.TheVariants as doings
use Rattle.merge_plan.specs.declared.room.MergeRoom.{MergeRoom}
use Rattle.merge_plan.specs.laws.FollowLaws.{passed_on}

-- what one of the entries of a digest names is in range
named_in : (g : Geometry) (digest : List ℕ) (entries : List IndexEntry) (target : HintTo) → All (IsIndexEntry g) entries
    → Any (λ (hint : IndexEntry). hint.to ≡ target) (with_digest digest entries) → IsTarget g target
named_in g digest entries target all (k, hint, below, there, names) =
    subst (IsTarget g) names
    (subst (IsIndexEntry g) there
    (All-filter (λ (entry : IndexEntry). bytes_eq (digest_of entry) digest) (IsIndexEntry g) entries all k hint below))

-- so what is decided by them names what the volume has
pub decided_range : (g : Geometry) (e : LogEntry) (held : Bool) (now : Option Digest) (digest : List ℕ) (entries : List IndexEntry) (action : Action)
    → All (IsIndexEntry g) entries → action ≡ decision e held now (with_digest digest entries) → IsActionIn g action
decided_range g e held now digest entries (actions.Share s) all is =
    named_in g digest entries (to.Shared s) all (decision-slot e held now (with_digest digest entries) s (inl (sym is)))
decided_range g e held now digest entries (actions.Post s) all is =
    named_in g digest entries (to.Shared s) all (decision-slot e held now (with_digest digest entries) s (inr (sym is)))
decided_range g e held now digest entries (actions.Promote f i) all is =
    named_in g digest entries (to.Unique f i) all (decision-place e held now (with_digest digest entries) f i (sym is))
decided_range g e held now digest entries action all is = tt

-- one of three actions makes calls
pub calls_by : (action : Action)
    → ((s : ℕ) × (action ≡ actions.Share s)) ⊎ (((f : ℕ) × (i : ℕ) × (action ≡ actions.Promote f i)) ⊎ ((s : ℕ) × (action ≡ actions.Post s)))
    → Calls action
calls_by action (inl (s, is)) = subst Calls (sym is) tt
calls_by action (inr (inl (f, i, is))) = subst Calls (sym is) tt
calls_by action (inr (inr (s, is))) = subst Calls (sym is) tt

-- the entries of a shelf are in range of its volume
shelf_in : (v : WorldView) (logs : List Noted) (s : Sweep) → IsShelf s.shelf → IsSweeping v logs s
    → All (IsIndexEntry v.locks.geometry) s.shelf.entries
shelf_in v logs s shelf sweeping = subst (λ (x : Geometry). All (IsIndexEntry x) s.shelf.entries) sweeping.geometry shelf.range

-- there is a slot
some_slots : (parts : ℕ) → 1 ≤ parts → 0 < per_table * parts
unfolding per_table
some_slots parts some = omega (arith, some)

pub some_slot : (v : WorldView) (logs : List Noted) (s : Sweep) → IsGeometry s.shelf.geometry → IsSweeping v logs s → 0 < arena_slots v.locks.geometry
unfolding arena_slots
some_slot v logs s is sweeping = some_slots v.locks.geometry.parts (subst IsGeometry sweeping.geometry is).parts.0

-- the entry that was taken is the one that comes next
here_as : (v : WorldView) (logs : List Noted) (shelf at : ℕ) (noted got : Noted) → IsHere v logs shelf at noted → slice_get logs at ≡ Some got
    → noted ≡ got
here_as v logs shelf at noted got here there = same noted got (sym here.next ∙ there)
  where
    same : (x y : Noted) → Some x ≡ Some y → x ≡ y
    same x y both = cc

module _ (v : WorldView) (h shelf : ℕ) (old : MergeRoom) where
  -- the blocks of a shelf that were read are its blocks, whatever entries were handled
  pub read_on : (now : Sweep) → IsOpen v old shelf → ArePassed v h old.logs shelf old.sweep (now.at - old.sweep.at) now
      → length old.read ≡ now.shelf.blocks
  read_on now opened passed =
      opened.read ∙ sym opened.blocks ∙ sym (passed_on v h old.logs shelf (now.at - old.sweep.at) old.sweep now passed).1

  -- the next entry that needs device calls is posted
  pub posts_next : (now : Sweep) (slot : ℕ) (got : Noted) (plan : ActPlan)
      → ArePassed v h old.logs shelf old.sweep (now.at - old.sweep.at) now → IsDue v h old.logs shelf now (dues.Posts slot)
      → IsSweeping v old.logs now → slice_get old.logs now.at ≡ Some got → IsShelf now.shelf → BeginsAct h got.entry (actions.Post slot) plan
      → GoesOn v h shelf old (record old { sweep = now }) (doings.Acts shelf plan)
  posts_next now slot got plan passed (noted, here, free, decided) sweeping there is_shelf begins = record {
    sweep = now;
    due = dues.Posts slot;
    passed = passed;
    is_due = (noted, here, free, decided);
    sweeping = sweeping;
    by = (
      refl,
      got,
      subst (IsHere v old.logs shelf now.at) (here_as v old.logs shelf now.at noted got here there) here,
      decided_range v.locks.geometry noted.entry false None noted.entry.digest.0 now.shelf.entries (actions.Post slot)
          (shelf_in v old.logs now is_shelf sweeping) (sym decided),
      plan,
      begins,
      refl,
    );
  }

  -- the next entry was decided, and is handled
  pub decided_by : (now : Option Digest) (new : MergeRoom) (doing : Doing) (got : Noted) (action : Action) → IsSweeping v old.logs old.sweep
      → IsNext v h old shelf (IsHeld v h) → slice_get old.logs old.sweep.at ≡ Some got → IsShelf old.sweep.shelf
      → action ≡ decision got.entry true now (with_digest got.entry.digest.0 old.sweep.shelf.entries)
      → (Calls action × (new ≡ old) × (plan : ActPlan) × BeginsAct h got.entry action plan × (doing ≡ doings.Acts shelf plan))
      ⊎ IsFinished v h shelf (uncalled action) old new doing
      → IsDecided v h shelf now old new doing
  decided_by now new doing got action sweeping (noted, here, held) there is_shelf decided by = record {
    noted = got;
    here = subst (IsHere v old.logs shelf old.sweep.at) (here_as v old.logs shelf old.sweep.at noted got here there) here;
    action = action;
    decided = decided;
    range = decided_range v.locks.geometry got.entry true now got.entry.digest.0 old.sweep.shelf.entries action
        (shelf_in v old.logs old.sweep is_shelf sweeping) decided;
    by = by;
  }
