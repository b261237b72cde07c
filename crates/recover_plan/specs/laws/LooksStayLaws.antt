-- What a host remembers of other slots stays over a step of its own plan of a command that is none on slots, as of one on a file.
use Rattle.std.proofs.Common.{◌≡◌, ◌<◌, ◌∙◌, ℕ, false, List, None, Option, Some, refl, ap, sym, subst, inl, inr}
use Rattle.std.specs.Prelude.{Bool, Contains, IfSome, filter, if◌then◌else◌, nat_eq, not, option_map}
use Rattle.std.proofs.lemmas.Bool.{cases_Bool}
use Rattle.std.proofs.lemmas.List.Elements.{All-contains, All-contains_itself, All-filter}
use Rattle.vol_base.specs.declared.answer.Answer.{Answer}
use Rattle.vol_base.specs.declared.answer.Answer.TheVariants.{Alive, Busy, Free, Joined, Recovered, Seen}
use Rattle.vol_base.specs.declared.block.Key.{Key}
use Rattle.vol_base.specs.declared.command.Command.{Command}
use Rattle.vol_base.specs.declared.command.Command.TheVariants as commands
use Rattle.vol_base.specs.declared.plain.PlainReply.{PlainReply}
use Rattle.vol_layout.specs.declared.kind.Kind.{Kind}
use Rattle.vol_layout.specs.declared.kind.Kind.TheVariants as kinds
use Rattle.vol_layout.specs.declared.geometry.Geometry.{Geometry}
use Rattle.vol_layout.specs.Places.{kind_at}
use Rattle.shared_disk.specs.Events.{Call, Changes, Done, Event, Fences, Gives, Reads, Refuses, Registers, Reply, Shows, Tests, Writes}
use Rattle.shared_disk.specs.Seen.{DiskSeen}
use Rattle.shared_disk.specs.State.{State}
use Rattle.slot_lock_blocks.specs.ReaderKeys.{key_number}
use Rattle.slot_lock_blocks.specs.Slots.{slot_key}
use Rattle.histories.specs.Answers.{MayGet}
use Rattle.lock_store.specs.SlotTries.{slot_by}
use Rattle.lock_store.specs.Views.{host_at, key_at, keys_of}
use Rattle.disk_locks.specs.Others.{Fades}
use Rattle.watch.specs.declared.watch.Look.{Look}
use Rattle.watch.specs.Looks.{nothing}
use Rattle.host_facts.specs.Facts.{Tells}
use Rattle.host_facts.specs.Facts.Fact.{Given}
use Rattle.host_facts.specs.Knows.{Knows}
use Rattle.host_facts.specs.Others.{Others}
use Rattle.host_facts.specs.Views.{WorldView}
use Rattle.host_facts.specs.laws.FactLaws.{tells_last}
use Rattle.host_facts.specs.laws.ToldLaws.{sure_over}
use Rattle.host_notes.specs.Owes.{Owes, plan_moment}
use Rattle.host_notes.specs.Remembered.{IsRemembered}
use Rattle.host_notes.specs.laws.TurnLaws.{now_watch}
use Rattle.host_runs.specs.CallRights.{MayCall, MayMake}
use Rattle.host_runs.specs.DeviceCalls.{ActsOnce}
use Rattle.host_runs.specs.Memories.{Memory, no_memory, remembered, with_block}
use Rattle.host_runs.specs.Moments.{Moment}
use Rattle.host_runs.specs.Notes.{Notes}
use Rattle.host_runs.specs.Rests.{HasFoundOther, HasLooked, HasForgotten, HasWatch, IsNotedAfter}
use Rattle.host_runs.specs.lemmas.OrderlyPlaced.{some_same}
use Rattle.recover_plan.specs.HostStays.{LooksStay, is_dropped, watch_behind}
use Rattle.recover_plan.specs.PlanSteps.{AreWatched}
use Rattle.recover_plan.specs.SlotTurns.{IsOnSlot}
use Rattle.recover_plan.specs.laws.RegisterLaws.{nothing_watched}

-- the notes: no answer of such a command says anything of a slot
module _ (command : Command) (other : IsOnSlot command → ⊥) (m : Moment) where
  looked : (watch : List (Option Look)) (command : Command) → (IsOnSlot command → ⊥) → HasLooked command m watch → watch ≡ m.old.watch
  looked watch (commands.Look of) other is = absurd (other tt)
  looked watch command other is = is

  forgotten : (watch : List (Option Look)) (command : Command) → (IsOnSlot command → ⊥) → HasForgotten command m watch
      → watch ≡ m.old.watch
  forgotten watch (commands.Look of) other is = absurd (other tt)
  forgotten watch (commands.Recover of) other is = absurd (other tt)
  forgotten watch command other is = is

  found : (answer : Answer) (watch : List (Option Look)) (command : Command) → (IsOnSlot command → ⊥)
      → HasFoundOther answer command m watch → watch ≡ watch_behind command (Some answer) m.old.watch
  found answer watch (commands.Recover of) other is = absurd (other tt)
  found answer watch command other is = is

  no_join : (key : Key) (command : Command) → (IsOnSlot command → ⊥) → MayGet command (Joined key) → ⊥
  no_join key commands.Join other may = other tt
  no_join key command other may = may

  answered_watch : (answer : Answer) (watch : List (Option Look)) → MayGet command answer → HasWatch answer m watch
      → m.command ≡ command → watch ≡ watch_behind command (Some answer) m.old.watch
  answered_watch (Joined key) watch may is same = absurd (no_join key command other may)
  answered_watch (Seen n) watch may is same = looked watch command other (subst (λ (x : Command). HasLooked x m watch) same is)
  answered_watch Free watch may is same = forgotten watch command other (subst (λ (x : Command). HasForgotten x m watch) same is)
  answered_watch Recovered watch may is same = forgotten watch command other (subst (λ (x : Command). HasForgotten x m watch) same is)
  answered_watch (Alive n) watch may is same =
      found (Alive n) watch command other (subst (λ (x : Command). HasFoundOther (Alive n) x m watch) same is)
  answered_watch (Busy key) watch may is same =
      found (Busy key) watch command other (subst (λ (x : Command). HasFoundOther (Busy key) x m watch) same is)
  answered_watch answer watch may is same =
      subst (λ (x : Command). watch ≡ watch_behind x (Some answer) m.old.watch) same is

-- the key in the notes: no call but a registration changes it
block_key : (kind : Option Kind) (h own place : ℕ) (block : List ℕ) (memory : Memory)
    → (with_block kind h own place block memory).key ≡ memory.key
block_key (Some (kinds.Lock r)) h own place block memory = refl
block_key (Some (kinds.Slot of)) h own place block memory = refl
block_key kind h own place block memory = refl

reply_key : (g : Geometry) (h : ℕ) (m : Moment) (own : ℕ) (call : Call) (reply : Reply) (memory : Memory) → (m.command ≡ commands.Join → ⊥)
    → MayMake m own call → (remembered g h (record { key = own; call = call; reply = reply }) memory).key ≡ memory.key
reply_key g h m own (Writes place block) Done memory other may = block_key (kind_at g place) h own place block memory
reply_key g h m own (Tests place old new) Done memory other may = block_key (kind_at g place) h own place new memory
reply_key g h m own (Registers of) (Gives key) memory other may = absurd (other may.0)
reply_key g h m own call reply memory other may = refl

-- a key that is registered behind a call was so before it
from_filter : (p : ℕ → Bool) (xs : List ℕ) (k : ℕ) → Contains (filter p xs) k → Contains xs k
from_filter p xs k = All-contains (Contains xs) (filter p xs) k (All-filter p (Contains xs) xs (All-contains_itself xs))

fewer : (m : Moment) (own : ℕ) (call : Call) (reply : Reply) (s t : State) → (m.command ≡ commands.Join → ⊥) → MayMake m own call
    → Changes call reply s t → (k : ℕ) → Contains t.keys k → Contains s.keys k
fewer m own call (Refuses cause) s t other may c k now = subst (λ (u : State). Contains u.keys k) c now
fewer m own (Reads place) (Shows block) s t other may c k now = subst (λ (u : State). Contains u.keys k) c.1 now
fewer m own (Writes place block) Done s t other may c k now = subst (λ (u : State). Contains u.keys k) c now
fewer m own (Tests place old new) Done s t other may c k now = subst (λ (u : State). Contains u.keys k) c.1 now
fewer m own (Tests place old new) (Shows block) s t other may c k now = subst (λ (u : State). Contains u.keys k) c.2 now
fewer m own (Fences target) Done s t other may c k now =
    from_filter (λ key. not (nat_eq key target)) s.keys k (subst (λ (u : State). Contains u.keys k) c now)
fewer m own (Registers of) reply s t other may c k now = absurd (other may.0)
fewer m own call reply s t other may c k now = absurd c

-- a key is known by its number
same_number : (a b : Option Key) → option_map (λ (k : Key). k.0) b ≡ option_map (λ (k : Key). k.0) a → key_number b ≡ key_number a
same_number None None is = refl
same_number None (Some b) is = absurd cc
same_number (Some a) None is = absurd cc
same_number (Some a) (Some b) is = some_same b.0 a.0 is

module _ (command : Command) (h : ℕ) (v w : WorldView) (made : Option Event) (placed : Option PlainReply) (ended : Option Answer)
    (n later : Notes) (other : IsOnSlot command → ⊥) (others : Others h v w)
    (owes : Owes v.locks.geometry h command v.locks.disk w.locks.disk made placed ended n later)
    (was : IsRemembered v.locks.geometry n.memory (host_at v.locks h))
    (is : IsRemembered w.locks.geometry later.memory (host_at w.locks h)) where
  abbrev turn : Moment
  turn = plan_moment v.locks.geometry h command v.locks.disk w.locks.disk made placed n

  no_join_now : command ≡ commands.Join → ⊥
  no_join_now is_join = other (subst IsOnSlot (sym is_join) tt)

  -- the looks in the notes
  noted : (e : Option Answer) → IsNotedAfter turn e later → IfSome e (MayGet command) → later.watch ≡ watch_behind command e n.watch
  noted None after own = ap (λ (x : Notes). x.watch) after.1 ∙ now_watch v.locks.geometry h command v.locks.disk w.locks.disk placed n made
  noted (Some answer) after own = answered_watch command other turn answer later.watch own after.watch refl

  -- the key in the notes, where the host is not dropped
  now_key : (made : Option Event) → MayCall (plan_moment v.locks.geometry h command v.locks.disk w.locks.disk made placed n) made
      → (plan_moment v.locks.geometry h command v.locks.disk w.locks.disk made placed n).now.memory.key ≡ n.memory.key
  now_key None may = refl
  now_key (Some e) may =
      reply_key v.locks.geometry h (plan_moment v.locks.geometry h command v.locks.disk w.locks.disk (Some e) placed n) e.key e.call e.reply
      n.memory no_join_now may

  noted_key : (e : Option Answer) → IsNotedAfter turn e later → is_dropped command e ≡ false → later.memory.key ≡ n.memory.key
  noted_key None after stays = ap (λ (x : Notes). x.memory.key) after.1 ∙ now_key made owes.may
  noted_key (Some answer) after stays =
      ap (λ (x : Notes). x.memory.key) after.rest
      ∙ ap (λ (b : Bool). (if b then no_memory else turn.now.memory).key) stays
      ∙ now_key made owes.may

  key_stays : is_dropped command ended ≡ false → key_at w.locks h ≡ key_at v.locks h
  key_stays stays =
      same_number (host_at v.locks h).key (host_at w.locks h).key (sym is.key ∙ noted_key ended owes.noted stays ∙ was.key)

  -- which keys are registered
  registered : (made : Option Event) → MayCall (plan_moment v.locks.geometry h command v.locks.disk w.locks.disk made placed n) made
      → ActsOnce made v.locks.disk w.locks.disk → (k : ℕ) → Contains (keys_of w.locks) k → Contains (keys_of v.locks) k
  registered None may acts k now = subst (λ (d : DiskSeen). Contains d.state.keys k) acts now
  registered (Some e) may acts k now =
      fewer (plan_moment v.locks.geometry h command v.locks.disk w.locks.disk (Some e) placed n) e.key e.call e.reply v.locks.disk.state
      w.locks.disk.state no_join_now may acts.0.changes k now

  -- so it is known still which keys the device gave
  given_stays : is_dropped command ended ≡ false → (key : ℕ) → Knows v h (Given key) → Knows w h (Given key)
  given_stays stays key known =
      let same = key_stays stays in record {
        guard = λ none. known.guard (sym same ∙ none);
        sure = sure_over v.locks w.locks h (Fades v.locks.geometry v.locks.disk.state) (λ i. Tells v.locks h i (Given key))
            (λ j. Tells w.locks h j (Given key)) same (registered made owes.may owes.acts (key_at v.locks h)) (λ now. others.locks.lasts.fades)
            (λ i j fades tells. tells_last v.locks w.locks h j (Given key) others.locks.lasts tells) known.sure;
      }

  watched : (watch : List (Option Look)) → AreWatched v h watch → AreWatched w h (watch_behind command ended watch)
  watched watch are = elim (cases_Bool (is_dropped command ended)) [
    | inl gone ↦
        subst (λ (b : Bool). AreWatched w h (if b then nothing else watch)) (sym gone) (nothing_watched w h)
    | inr stays ↦
        subst (λ (b : Bool). AreWatched w h (if b then nothing else watch)) (sym stays) (λ of look below there.
        let known = are of look (subst (λ (g : Geometry). of < g.hosts) others.locks.lasts.geometry below) there in record {
          spelled = known.spelled;
          some = known.some;
          of_host = known.of_host;
          shown = given_stays stays (slot_key look.slot) known.shown;
          by = given_stays stays (slot_by look.slot) known.by;
        })
  ]

  pub looks_stay : LooksStay command h v w ended n later
  looks_stay = record { noted = noted ended owes.noted owes.own; watched = watched }
