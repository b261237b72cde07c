-- A command that is answered without a plan: the turn makes no call.
use Rattle.std.proofs.Common.{◌≡◌, ◌≤◌, ◌≢◌, ℕ, Bool, true, false, List, [], Option, Some, None, Contains, refl, ap, sym, subst, ◌∙◌, arith}
use Rattle.vol_base.specs.declared.answer.Answer.{Answer}
use Rattle.vol_base.specs.declared.answer.Answer.TheVariants as answers
use Rattle.vol_base.specs.declared.command.Command.{Command}
use Rattle.vol_base.specs.declared.command.Command.TheVariants as commands
use Rattle.vol_base.specs.declared.plain.PlainReply.{PlainReply}
use Rattle.vol_base.specs.PlainCalls.{plain_call_of}
use Rattle.vol_layout.specs.declared.geometry.Geometry.{Geometry}
use Rattle.vol_layout.specs.declared.kind.Kind.{Kind}
use Rattle.vol_layout.specs.declared.kind.Kind.TheVariants as kinds
use Rattle.slot_lock_blocks.specs.declared.slot.Slot.{Slot}
use Rattle.shared_disk.specs.Seen.{DiskSeen}
use Rattle.histories.specs.Answers.{MayGet}
use Rattle.host_notes.specs.Remembered.{IsRemembered}
use Rattle.host_notes.specs.laws.TurnLaws.{files_same, no_place}
use Rattle.host_notes.specs.lemmas.Dropped.{no_hold}
use Rattle.host_runs.specs.Awaited.{wanted}
use Rattle.host_runs.specs.Causes.{IsCause}
use Rattle.host_runs.specs.DeviceCalls.{OnImage}
use Rattle.host_runs.specs.Memories.{AreFileLocks, Memory, memory_after}
use Rattle.host_runs.specs.Moments.{Moment}
use Rattle.host_runs.specs.NotedCalls.{ShowsSlot}
use Rattle.host_runs.specs.Notes.{NotedCall, Notes, at_rest}
use Rattle.host_runs.specs.Rests.{IsAtRest}
use Rattle.host_runs.specs.Steps.{IsEnding}
use Rattle.host_runs.specs.lemmas.OrderlyPlaced.{some_same}
use Rattle.std.specs.Option.{option_or}
use Rattle.image_view.specs.Valid.{IsValid}
use Rattle.lock_store.specs.Memories as host
use Rattle.lock_store.specs.Memories.{dropped}
use Rattle.lock_store.specs.declared.host.HostState.{HostState}
use Rattle.cluster.specs.HostTurns.{IsHostTurn, turn_moment}

-- no call is noted
none_called : (calls : List NotedCall) (c : NotedCall) → calls ≡ [] → Contains calls c → ⊥
none_called calls c none has = let has' : Contains [] c = subst (λ (cs : List NotedCall). Contains cs c) none has in absurd (omega (arith, has'.1))

-- what has to be shown of a command that is answered at once
pub record IsAtOnce (g : Geometry) (h : ℕ) (joined : Bool) (command : Command) (disk : DiskSeen) (n later : Notes) (answer : Answer) : Type 0 where
  pub between : n ≡ at_rest n.memory n.dying n.pending n.watch
  pub quiet : joined ≡ true → wanted g command n.calls n.digests n.asks ≡ None
  pub valid : OnImage disk.state (IsValid g disk.state.counter)
  pub own : MayGet command answer
  pub plain : (reply : PlainReply) → answer ≢ answers.Plain reply
  pub cause : IsCause (turn_moment g h joined command disk disk None None n) answer
  pub up : command ≡ commands.Join → joined ≡ true → answer ≡ answers.Up
  pub down : command ≢ commands.Join → joined ≡ false → answer ≡ answers.Down
  pub scribbles : (place k seen : ℕ) → command ≡ commands.Scribble place k seen → joined ≢ true
  pub recovers : (of : ℕ) → command ≡ commands.Recover of → joined ≢ true
  pub logs : command ≡ commands.Log → joined ≢ true
  pub some_logs : 1 ≤ g.logs
  pub leaves : command ≡ commands.Leave → answer ≢ answers.Fine
  pub locks : AreFileLocks g (memory_after answer command n.memory).holds
  pub stays : (memory_after answer command n.memory).left ≡ false
  pub noted : IsAtRest (turn_moment g h joined command disk disk None None n) answer later

module _ (g : Geometry) (h : ℕ) (joined : Bool) (command : Command) (disk : DiskSeen) (n later : Notes) (answer : Answer)
    (is : IsAtOnce g h joined command disk n later answer) where
  abbrev moment : Moment
  moment = turn_moment g h joined command disk disk None None n

  no_slot : (kind : Kind) (slot : Slot) → ShowsSlot g kind slot None → ⊥
  no_slot kind slot shows = shows.1.2

  ending : IsEnding moment (Some answer)
  ending = record {
    cause = is.cause;
    at_once = record {
      fenced = λ refused. absurd refused;
      failed = λ refused. absurd refused;
      no_keys = λ refused. absurd refused;
      up = λ join here. ap (λ (a : Answer). Some a) (is.up join here);
      down = λ other out. ap (λ (a : Answer). Some a) (is.down other out);
      refused = λ place k seen same here hint. absurd (is.scribbles place k seen same here);
    };
    at_end = record {
      busy = λ key shown.
          let none : n.tries.shown ≡ None = ap (λ (m : Notes). m.tries.shown) is.between in
          let both : Some key.0 ≡ None = sym shown ∙ none in absurd cc;
      full = λ f i k same met. absurd (none_called n.calls met.0 (ap (λ (m : Notes). m.calls) is.between) met.1);
    };
    by_slot = record {
      joined = λ key join entered. absurd entered.entered.2;
      unseen = λ of look shows. absurd (no_slot (kinds.Slot of) _ shows);
      seen = λ of k look seen. absurd (no_slot (kinds.Slot of) seen.slot seen.shown);
      few = λ of same here few. absurd (is.recovers of same here);
      live = λ of same live. absurd (no_slot (kinds.Slot of) _ live.found.found);
      free = λ of same free. absurd (no_slot (kinds.Slot of) _ free.found);
    };
    by_log = record {
      nothing = λ log here none. absurd (is.logs log here);
      full = λ log full.
          let (block, shown, some) = full 0 is.some_logs in
          absurd (none_called n.calls shown.0 (ap (λ (m : Notes). m.calls) is.between) shown.1);
    };
    facts = record {
      rests = is.locks;
      stays = is.stays;
      last = λ own leave done. absurd done;
      left = λ leave fine. absurd (is.leaves leave (some_same answer answers.Fine fine));
    };
  }

  pub at_once_turn : (death : Option ℕ) → IsHostTurn g h joined death command disk disk None None (Some answer) n later
  at_once_turn death = record {
    quiet = is.quiet;
    acts = refl;
    moves = λ none. absurd cc;
    may = tt;
    marks = tt;
    files = files_same g (plain_call_of command) disk.state disk.state refl;
    valid = is.valid;
    file = λ some. absurd (no_place some);
    once = λ some. absurd (no_place some);
    plain = λ reply same. absurd (is.plain reply (some_same answer (answers.Plain reply) same));
    none = λ placeless. placed_none;
    own = is.own;
    died = λ dies. absurd (let some = dies.0 in cc);
    ending = λ lives. ending;
    noted = is.noted;
  }
    where
      placed_none : moment.now.placed ≡ None
      placed_none = ap (λ (o : Option PlainReply). option_or o None) (ap (λ (m : Notes). m.placed) is.between)

-- the memory of a host without a key
pub dropped_locks : (g : Geometry) (memory : Memory) (m : HostState) → m ≡ dropped → IsRemembered g memory m
    → AreFileLocks g memory.holds × (memory.left ≡ false)
unfolding dropped
dropped_locks g memory m gone is = (
  λ place has.
      let (r, resource, at) = is.places place has in
      let held : host.holds m r ≡ true = is.holds r resource (subst (λ (p : ℕ). Contains memory.holds p) at has) in
      let none : host.holds m r ≡ false = ap (λ (k : HostState). host.holds k r) gone ∙ no_hold r in
      let both : true ≡ false = sym held ∙ none in absurd cc,
  is.left ∙ ap (λ (k : HostState). k.freed) gone,
)
