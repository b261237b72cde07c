-- What a plan's turn is by its call: the notes behind it, and the device, the files and the whole turn where the call changed nothing.
use Rattle.std.proofs.Common.{◌≡◌, ◌+◌, ◌++◌, ◌∷◌, ℕ, List, [], None, Option, Some, ap, refl, subst, sym, ◌∙◌}
use Rattle.std.specs.Prelude.{IsSome}
use Rattle.std.specs.Option.{option_or}
use Rattle.vol_base.specs.declared.command.Command.{Command}
use Rattle.vol_base.specs.declared.plain.PlainCall.{PlainCall}
use Rattle.vol_base.specs.declared.plain.PlainReply.{PlainReply}
use Rattle.vol_base.specs.PlainCalls.{plain_call_of}
use Rattle.vol_layout.specs.declared.geometry.Geometry.{Geometry}
use Rattle.shared_disk.specs.Events.{Acts, Call, Changes, Event, Reads, Refuses, Reply, Shows, Tests}
use Rattle.shared_disk.specs.declared.answers.DiskNo.{DiskNo}
use Rattle.shared_disk.specs.Seen.{DiskSeen}
use Rattle.shared_disk.specs.State.{OnImages, State, Told}
use Rattle.image_view.specs.Valid.{IsValid}
use Rattle.call_effects.specs.Places.{Places}
use Rattle.host_runs.specs.CallRights.{MayCall}
use Rattle.host_runs.specs.DeviceCalls.{ActsOnce, OnImage}
use Rattle.host_runs.specs.Memories.{remembered}
use Rattle.host_runs.specs.Notes.{Notes, with_place}
use Rattle.host_runs.specs.Tries.{tried}
use Rattle.host_runs.specs.TurnFacts.{Marks}
use Rattle.host_notes.specs.FileTurns.{FileTurn, IsAnswered, IsOnFile}
use Rattle.host_notes.specs.Owes.{plan_moment}

or_none : (o : Option PlainReply) → option_or o None ≡ o
or_none None = refl
or_none (Some reply) = refl

module _ (g : Geometry) (h : ℕ) (command : Command) (old new : DiskSeen) (placed : Option PlainReply) (n : Notes) where
  -- behind a call
  pub now_memory : (e : Event) → (plan_moment g h command old new (Some e) placed n).now.memory ≡ remembered g h e n.memory
  now_memory e = refl

  pub now_tries : (e : Event) → (plan_moment g h command old new (Some e) placed n).now.tries ≡ tried g h command n.memory.claims e n.tries
  now_tries e = refl

  pub now_calls : (e : Event)
      → (plan_moment g h command old new (Some e) placed n).now.calls ≡ n.calls ++ record { event = e; before = old.state } ∷ []
  now_calls e = refl

  pub now_dying : (e : Event) → (plan_moment g h command old new (Some e) placed n).now.dying ≡ n.dying + 1
  now_dying e = refl

  -- without one, and without a place too
  pub now_without : (plan_moment g h command old new None placed n).now ≡ with_place placed n
  now_without = refl

  pub now_quiet : (plan_moment g h command old new None None n).now ≡ n
  now_quiet = ap (λ (o : Option PlainReply). record n { placed = o }) (or_none n.placed)

  -- with or without one
  pub now_placed : (made : Option Event) → (plan_moment g h command old new made placed n).now.placed ≡ option_or n.placed placed
  now_placed None = refl
  now_placed (Some e) = refl

  pub now_placed_before : (made : Option Event) (reply : PlainReply) → n.placed ≡ Some reply
      → (plan_moment g h command old new made placed n).now.placed ≡ Some reply
  now_placed_before made reply is = now_placed made ∙ ap (λ (o : Option PlainReply). option_or o placed) is

  pub now_placed_here : (made : Option Event) → n.placed ≡ None → (plan_moment g h command old new made placed n).now.placed ≡ placed
  now_placed_here made none = now_placed made ∙ ap (λ (o : Option PlainReply). option_or o placed) none

  pub now_digests : (made : Option Event) → (plan_moment g h command old new made placed n).now.digests ≡ n.digests
  now_digests None = refl
  now_digests (Some e) = refl

  pub now_pending : (made : Option Event) → (plan_moment g h command old new made placed n).now.pending ≡ n.pending
  now_pending None = refl
  now_pending (Some e) = refl

  pub now_watch : (made : Option Event) → (plan_moment g h command old new made placed n).now.watch ≡ n.watch
  now_watch None = refl
  now_watch (Some e) = refl

-- a call that was refused, or showed a block, leaves the device's state
pub refused_same : (e : Event) (old new : DiskSeen) (cause : DiskNo) → Acts e old new → e.reply ≡ Refuses cause → new.state ≡ old.state
refused_same e old new cause acts is = subst (λ (r : Reply). Changes e.call r old.state new.state) is acts.changes

shown_changes : (call : Call) (block : List ℕ) (s t : State) → Changes call (Shows block) s t → t ≡ s
shown_changes (Reads place) block s t changes = changes.1
shown_changes (Tests place old new) block s t changes = changes.2
shown_changes call block s t changes = absurd changes

pub shown_same : (e : Event) (old new : DiskSeen) (block : List ℕ) → Acts e old new → e.reply ≡ Shows block → new.state ≡ old.state
shown_same e old new block acts is =
    shown_changes e.call block old.state new.state (subst (λ (r : Reply). Changes e.call r old.state new.state) is acts.changes)

-- a state that stays has the same files, and stays valid
files_kept : (g : Geometry) (call : Option PlainCall) (told : Option Told) → OnImages (Places g call None) told told
files_kept g call None = tt
files_kept g call (Some told) = λ f. refl

pub files_same : (g : Geometry) (call : Option PlainCall) (s t : State) → t ≡ s → OnImages (Places g call None) s.told t.told
files_same g call s t same = subst (λ (u : State). OnImages (Places g call None) s.told u.told) (sym same) (files_kept g call s.told)

pub valid_same : (g : Geometry) (s t : State) → t ≡ s → OnImage s (IsValid g s.counter) → OnImage t (IsValid g t.counter)
valid_same g s t same valid = subst (λ (u : State). OnImage u (IsValid g u.counter)) (sym same) valid

-- no reply got a place
pub no_place : IsSome {T = PlainReply} None → ⊥
no_place is = cc

module _ (g : Geometry) (h : ℕ) (command : Command) (old new : DiskSeen) (n : Notes) (on : IsOnFile command) where
  -- the state stayed, and the turn gets no place
  turn_still : (made : Option Event) → ActsOnce made old new → IsAnswered made → new.state ≡ old.state
      → MayCall (plan_moment g h command old new made None n) made → Marks (plan_moment g h command old new made None n)
      → OnImage old.state (IsValid g old.state.counter) → FileTurn g h command old new made None n
  turn_still made acts answered same may marks valid = record {
    on = on;
    acts = acts;
    answered = answered;
    may = may;
    marks = marks;
    files = files_same g (plain_call_of command) old.state new.state same;
    valid = valid_same g old.state new.state same valid;
    file = λ is. absurd (no_place is);
    once = λ is. absurd (no_place is);
  }

  -- a turn without a call, and one with a call that left the state
  pub turn_without_call : new ≡ old → OnImage old.state (IsValid g old.state.counter) → FileTurn g h command old new None None n
  turn_without_call same valid = turn_still None same tt (ap (λ (d : DiskSeen). d.state) same) tt tt valid

  pub turn_quiet : (e : Event) → ActsOnce (Some e) old new → IsAnswered (Some e) → new.state ≡ old.state
      → MayCall (plan_moment g h command old new (Some e) None n) (Some e) → Marks (plan_moment g h command old new (Some e) None n)
      → OnImage old.state (IsValid g old.state.counter) → FileTurn g h command old new (Some e) None n
  turn_quiet e acts answered same may marks valid = turn_still (Some e) acts answered same may marks valid
