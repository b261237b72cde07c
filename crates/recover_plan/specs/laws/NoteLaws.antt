-- The notes of a recovery behind one more call, and over the calls of other hosts.
use Rattle.std.proofs.Common.{◌≡◌, ◌++◌, ◌∷◌, ◌∙◌, ℕ, true, List, [], None, Option, Some, refl, ap, sym, subst, inl, inr}
use Rattle.std.proofs.lemmas.List.Elements.{Contains-push_cases}
use Rattle.vol_base.specs.declared.block.Digest.{Digest}
use Rattle.vol_base.specs.declared.command.Command.{Command}
use Rattle.vol_layout.specs.declared.geometry.Geometry.{Geometry}
use Rattle.vol_layout.specs.declared.kind.Kind.TheVariants as kinds
use Rattle.shared_disk.specs.Events.{Call, Event, Reply, event}
use Rattle.lock_store.specs.declared.host.HostState.{HostState}
use Rattle.lock_store.specs.Memories.{key_of}
use Rattle.lock_store.specs.Views.{host_at, key_at}
use Rattle.watch.specs.declared.watch.Look.{Look}
use Rattle.host_runs.specs.Awaited.{first_block, wanted}
use Rattle.host_runs.specs.FileUses.{try_of}
use Rattle.host_runs.specs.Memories.{Memory}
use Rattle.host_runs.specs.Memories as memories
use Rattle.host_runs.specs.Notes.{NotedCall, Notes, with_call}
use Rattle.host_runs.specs.NotedCalls.{SwapsKind}
use Rattle.host_runs.specs.Tries.{Tries, frees_locks, tried}
use Rattle.host_runs.specs.Words.{key_in, state_in}
use Rattle.host_facts.specs.Views.{WorldView}
use Rattle.host_notes.specs.Remembered.{IsRemembered, RemembersCall}
use Rattle.plan_parts.specs.QuietCalls.{Noting}
use Rattle.recover_plan.specs.RecoverNotes.{AreFrom, GoingNoted, IsUnderWay, MayTakeOff, Recovers, StageNoted, dead_of, key_found}
use Rattle.recover_plan.specs.Replays.{SeesBehind, SeesSlot}
use Rattle.recover_plan.specs.declared.replay.Going.{Going}
use Rattle.recover_plan.specs.declared.replay.Going.TheVariants as goings
use Rattle.recover_plan.specs.declared.replay.Replay.{Replay}
use Rattle.recover_plan.specs.declared.replay.Replay.TheVariants as stages

-- a command that recovers a slot tries no lock of a file, frees those of a dead host, and recovers the own slot or that of its host
pub no_try : (command : Command) (h of : ℕ) → Recovers command h of → try_of command ≡ None
no_try command h of (inl joins) = ap try_of joins.0
no_try command h of (inr recovers) = ap try_of recovers

pub frees : (command : Command) (h of : ℕ) → Recovers command h of → frees_locks command ≡ true
frees command h of (inl joins) = ap frees_locks joins.0
frees command h of (inr recovers) = ap frees_locks recovers

-- it waits for no digest
pub wanted_none : (g : Geometry) (command : Command) (h of : ℕ) (calls : List NotedCall) (digests : List Digest) → Recovers command h of
    → wanted g command calls digests None ≡ None
wanted_none g command h of [] [] (inl joins) = ap (first_block g) joins.0
wanted_none g command h of [] [] (inr recovers) = ap (first_block g) recovers
wanted_none g command h of [] (digest ∷ digests) recovers = refl
wanted_none g command h of (call ∷ calls) digests recovers = refl

-- the notes of the calls, and of one more
from_more : (g : Geometry) (of : ℕ) (dead later : Option ℕ) (calls : List NotedCall) (c : NotedCall)
    → ((x : ℕ) → dead ≡ Some x → later ≡ Some x)
    → ((old new : List ℕ) → SwapsKind g (kinds.Slot of) old new (Some c.event) → state_in new ≡ 2 → later ≡ Some (key_in new))
    → AreFrom g of dead calls → AreFrom g of later (calls ++ c ∷ [])
from_more g of dead later calls c stays swap from old new some two =
    elim (Contains-push_cases calls c some.0 some.1) [
      | inl earlier ↦ stays (key_in new) (from old new (some.0, earlier, some.2) two)
      | inr last ↦ swap old new (subst (λ (d : NotedCall). SwapsKind g (kinds.Slot of) old new (Some d.event)) (sym last) some.2) two
    ]

-- what the notes say behind a stage with a claim
abbrev pub IsOf : ℕ → Going → Type 0
IsOf dead (goings.More stage) = dead_of stage ≡ Some dead
IsOf dead (goings.Found from found) = ⊥
IsOf dead (goings.Ready key) = key.0 ≡ dead

-- a slot that is claimed is no more to be claimed
sees_claimed : (w : WorldView) (h of dead : ℕ) (stage : Replay) → dead_of stage ≡ Some dead → SeesSlot w h of stage
sees_claimed w h of dead (stages.Fence slot) is = absurd cc
sees_claimed w h of dead (stages.FenceBy slot) is = absurd cc
sees_claimed w h of dead (stages.Claim slot) is = absurd cc
sees_claimed w h of dead stage is = tt

pub claimed_sees : (w : WorldView) (h of dead : ℕ) (going : Going) → IsOf dead going → SeesBehind w h of going
claimed_sees w h of dead (goings.More stage) is = sees_claimed w h of dead stage is
claimed_sees w h of dead (goings.Found from found) is = absurd is
claimed_sees w h of dead (goings.Ready key) is = tt

may_claimed : (command : Command) (h own dead : ℕ) (watch : List (Option Look)) (stage : Replay) → dead_of stage ≡ Some dead
    → MayTakeOff command h own watch stage
may_claimed command h own dead watch (stages.Fence slot) is = absurd cc
may_claimed command h own dead watch (stages.FenceBy slot) is = absurd cc
may_claimed command h own dead watch stage is = tt

going_noted : (command : Command) (h of : ℕ) (watch : List (Option Look)) (k dead : ℕ) (w : WorldView) (going : Going) (n : Notes)
    → IsOf dead going → IsUnderWay h of w watch (Some dead) None n → GoingNoted command h of watch k w going n
going_noted command h of watch k dead w (goings.More stage) n is under = record {
  under_way = subst (λ (o : Option ℕ). IsUnderWay h of w watch o None n) (sym is) under;
  count = λ none. let bad : Some dead ≡ None = sym is ∙ none in absurd cc;
  may = may_claimed command h (key_at w.locks h) dead watch stage is;
}
going_noted command h of watch k dead w (goings.Found from found) n is under = absurd is
going_noted command h of watch k dead w (goings.Ready key) n is under =
    subst (λ d. IsUnderWay h of w watch (Some d) None n) (sym is) under

module _ (command : Command) (v w : WorldView) (h of : ℕ) (watch : List (Option Look)) (call : Call) (reply : Reply)
    (geometry : w.locks.geometry ≡ v.locks.geometry)
    (remembered : (memory : Memory) → IsRemembered v.locks.geometry memory (host_at v.locks h)
    → RemembersCall v.locks h memory call reply w.locks) where
  abbrev pub made_event : Event
  made_event = event (key_at v.locks h) call reply

  abbrev pub tried_now : List ℕ → Tries → Tries
  tried_now claims tries = tried v.locks.geometry h command claims made_event tries

  -- the call changed the slot to no recovering one, or to one of this dead key
  abbrev pub SwapsFrom : Option ℕ → Type 0
  SwapsFrom dead =
      (old new : List ℕ) → SwapsKind v.locks.geometry (kinds.Slot of) old new (Some made_event) → state_in new ≡ 2
      → dead ≡ Some (key_in new)

  pub under_way_on : (dead later shown after : Option ℕ) (n : Notes) → (tried_now n.memory.claims n.tries).shown ≡ after
      → ((x : ℕ) → dead ≡ Some x → later ≡ Some x) → SwapsFrom later → IsUnderWay h of v watch dead shown n
      → IsUnderWay h of w watch later after (with_call v.locks.geometry h command v.locks.disk.state (Some made_event) n)
  under_way_on dead later shown after n tries stays swap is = record {
    remembered = subst (λ (g : Geometry). IsRemembered g (memories.remembered v.locks.geometry h made_event n.memory) (host_at w.locks h))
        (sym geometry) (remembered n.memory is.remembered);
    placed_is = is.placed_is;
    asks = is.asks;
    watch_is = is.watch_is;
    shown_is = tries;
    from = subst (λ (g : Geometry). AreFrom g of later (n.calls ++ record { event = made_event; before = v.locks.disk.state } ∷ []))
        (sym geometry)
        (from_more v.locks.geometry of dead later n.calls (record { event = made_event; before = v.locks.disk.state }) stays swap is.from);
  }

  -- behind the claim, and behind each call of a claimed slot
  pub claimed_noting : (k dead : ℕ) (stage : Replay) (going : Going) → ((x : ℕ) → dead_of stage ≡ Some x → Some dead ≡ Some x)
      → IsOf dead going
      → ((claims : List ℕ) (tries : Tries) → (tried_now claims tries).shown ≡ tries.shown) → SwapsFrom (Some dead)
      → Noting command h v made_event (StageNoted command h of watch k v stage) (GoingNoted command h of watch k w going)
  claimed_noting k dead stage going stays is tries swap n was =
      going_noted command h of watch k dead w going _ is
      (under_way_on (dead_of stage) (Some dead) None None n (tries n.memory.claims n.tries ∙ was.under_way.shown_is) stays swap
      was.under_way)

  -- before it
  pub fenced_noting : (k : ℕ) (stage next : Replay) → dead_of stage ≡ None → dead_of next ≡ None
      → (MayTakeOff command h (key_at v.locks h) watch stage → MayTakeOff command h (key_at w.locks h) watch next)
      → ((claims : List ℕ) (tries : Tries) → tried_now claims tries ≡ tries) → SwapsFrom None
      → Noting command h v made_event (StageNoted command h of watch k v stage) (StageNoted command h of watch k w next)
  fenced_noting k stage next none later may tries swap n was = record {
    under_way = under_way_on (dead_of stage) (dead_of next) None None n
        (ap (λ (t : Tries). t.shown) (tries n.memory.claims n.tries) ∙ was.under_way.shown_is)
        (λ x is. let bad : Some x ≡ None = sym is ∙ none in absurd cc)
        (λ old new swaps two. later ∙ swap old new swaps two) was.under_way;
    count = λ is. ap (λ (t : Tries). t.count) (tries n.memory.claims n.tries) ∙ was.count none;
    may = may was.may;
  }

-- the notes agree over the calls of other hosts
module _ (command : Command) (v w : WorldView) (h of : ℕ) (watch : List (Option Look)) (k : ℕ)
    (geometry : w.locks.geometry ≡ v.locks.geometry) (memory : host_at w.locks h ≡ host_at v.locks h) where
  pub under_way_still : (dead shown : Option ℕ) (n : Notes) → IsUnderWay h of v watch dead shown n → IsUnderWay h of w watch dead shown n
  under_way_still dead shown n is = record {
    remembered = subst (λ (g : Geometry). IsRemembered g n.memory (host_at w.locks h)) (sym geometry)
        (subst (λ (m : HostState). IsRemembered v.locks.geometry n.memory m) (sym memory) is.remembered);
    placed_is = is.placed_is;
    asks = is.asks;
    watch_is = is.watch_is;
    shown_is = is.shown_is;
    from = subst (λ (g : Geometry). AreFrom g of dead n.calls) (sym geometry) is.from;
  }

  pub going_noted_still : (going : Going) (n : Notes) → GoingNoted command h of watch k v going n
      → GoingNoted command h of watch k w going n
  going_noted_still (goings.More stage) n is = record {
    under_way = under_way_still (dead_of stage) None n is.under_way;
    count = is.count;
    may = subst (λ own. MayTakeOff command h own watch stage) (sym (ap key_of memory)) is.may;
  }
  going_noted_still (goings.Found from found) n is =
      record {
        under_way = subst (λ own. IsUnderWay h of w watch None (key_found command h own k found) n) (sym (ap key_of memory))
            (under_way_still None (key_found command h (key_at v.locks h) k found) n is.under_way);
        count = is.count;
      }
  going_noted_still (goings.Ready dead) n is = under_way_still (Some dead.0) None n is
