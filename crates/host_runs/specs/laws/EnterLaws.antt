-- A turn by hand: the last turn of a `join`, in which the host's free slot becomes live, over a device that tells nothing.
use Rattle.std.proofs.Common.{◌≡◌, ◌<◌, ◌+◌, ℕ, false, true≢false, [], Some, None, refl, ap, sym, ◌∙◌, inl, inr, arith}
use Rattle.std.specs.Prelude.{Contains}
use Rattle.std.proofs.lemmas.Bool.{eq-eqb}
use Rattle.vol_base.specs.declared.answer.Answer.{Answer}
use Rattle.vol_base.specs.declared.answer.Answer.TheVariants as answers
use Rattle.vol_base.specs.declared.answer.Turn.TheVariants.{Answered}
use Rattle.vol_base.specs.declared.block.Key.{Key}
use Rattle.vol_base.specs.declared.command.Command.{Command}
use Rattle.vol_base.specs.declared.command.Command.TheVariants as commands
use Rattle.vol_layout.specs.declared.kind.Kind.TheVariants as kinds
use Rattle.vol_layout.specs.Places.{kind_at}
use Rattle.slot_lock_blocks.specs.Keys.{IsKey}
use Rattle.slot_lock_blocks.specs.Slots.{slot_bytes}
use Rattle.slot_lock_blocks.specs.declared.slot.Slot.TheVariants as slots
use Rattle.slot_lock_blocks.specs.laws.SlotLaws.{slot_numbers}
use Rattle.workload.specs.declared.line.Line.{Line}
use Rattle.workload.specs.declared.line.Workload.{Workload}
use Rattle.shared_disk.specs.Calls.{after_write}
use Rattle.shared_disk.specs.Events.{Done, Event, Tests, event}
use Rattle.watch.specs.Looks.{nothing}
use Rattle.histories.specs.Joined.{is_joined, standing_death}
use Rattle.host_runs.specs.Awaited.{awaited}
use Rattle.host_runs.specs.Memories.{Memory}
use Rattle.host_runs.specs.Notes.{at_rest}
use Rattle.host_runs.specs.RunStates.{RunState}
use Rattle.host_runs.specs.Runs.{IsTurn}
use Rattle.host_runs.specs.Steps.{IsAtLine}
use Rattle.host_runs.specs.Words.{state_in}
use Rattle.host_runs.specs.laws.TurnLaws.{granted, granted_turn, turned}
use Rattle.host_runs.specs.lemmas.TidyDisk.{none_some}

-- the memory of a host that has a key and nothing else
abbrev pub keyed : ℕ → Memory
keyed key = record { key = Some key; holds = []; reads = []; claims = []; left = false }

-- a host in a `join`, which has registered this key and made no try yet, before its slot
pub record MayEnter (w : Workload) (s : RunState) (host position place : ℕ) (line : Line) (key : Key) : Type 0 where
  pub at : IsAtLine w.lines s host position line
  pub join : line.command ≡ commands.Join
  pub out : is_joined w.lines s.answers host ≡ false
  pub alive : standing_death w.lines s.answers host ≡ None
  pub memory : (s.notes host).memory ≡ keyed key.0
  pub shown : (s.notes host).tries.shown ≡ None
  pub placed : (s.notes host).placed ≡ None
  pub slot : kind_at w.geometry place ≡ Some (kinds.Slot host)
  pub small : place < s.device.state.blocks
  pub registered : Contains s.device.state.keys key.0
  pub is_key : IsKey key.0
  pub untold : s.device.state.told ≡ None

-- the slot is set from free to live
abbrev pub entering : ℕ → Key → Event
entering place key = event key.0 (Tests place (slot_bytes slots.Free) (slot_bytes (slots.Live key 0))) Done

-- the state behind it: the host is at rest with its key
abbrev pub entered_state : RunState → ℕ → ℕ → ℕ → Key → RunState
entered_state s host position place key =
    turned s host position (after_write place (slot_bytes (slots.Live key 0)) s.device.state) None (Some (answers.Joined key))
    (at_rest (keyed key.0) ((s.notes host).dying + 1) [] nothing)

pub same_key : (a b : Key) → a.0 ≡ b.0 → a ≡ b
same_key a b e = ap (λ (n : ℕ). let k : Key = record { 0 = n } in k) e

pub some_key : (a b : ℕ) → Some a ≡ Some b → a ≡ b
some_key a b e = cc

pub none_in : (place : ℕ) → Contains [] place → ⊥
none_in place has = absurd (omega (arith, has.1))

-- this is a turn of a run, and its answer is `joined` with the key that was registered
pub enter_turn : (w : Workload) (s : RunState) (host position place : ℕ) (line : Line) (key : Key)
    → MayEnter w s host position place line key → IsTurn w host (Answered (answers.Joined key)) s (entered_state s host position place key)
unfolding awaited
enter_turn w s host position place line key may =
    let live = slot_numbers (slot_bytes (slots.Live key 0)) (slots.Live key 0) ((may.is_key, omega arith), refl) in
    let state : state_in (slot_bytes (slots.Live key 0)) ≡ 1 = live.state in
    let self = eq-eqb host host refl in
    let no_other : (command : Command) → (command ≡ commands.Join → ⊥) → line.command ≡ command → ⊥ = λ command other is. other (sym is ∙ may.join) in
    let own : (s.notes host).memory.key ≡ Some key.0 = ap (λ (m : Memory). m.key) may.memory in
    granted_turn w s host position line (entering place key) (after_write place (slot_bytes (slots.Live key 0)) s.device.state) None (Some (answers.Joined key))
    (at_rest (keyed key.0) ((s.notes host).dying + 1) [] nothing)
    (record {
      at = may.at;
      quiet = rw (may.at.next, may.at.is, may.out) refl;
      acts = granted (entering place key) s.device (after_write place (slot_bytes (slots.Live key 0)) s.device.state) (λ cause e. cc) may.small
          (rw may.untold tt, refl) may.registered (λ out. out may.registered) (λ spent. spent);
      untold = may.untold;
      still = rw may.untold refl;
      may = (own, inr may.join);
      marks = rw may.slot (inl refl, inl (refl, state, live.key));
      placing = record { file = λ e. absurd cc; once = λ e. absurd cc; plain = λ reply e. absurd cc; none = λ placeless. rw may.placed refl; own = rw may.join tt };
      died = λ death. absurd (none_some death.1 may.alive);
      ending = λ living. record {
        cause = record { registered = rw (may.slot, may.memory) refl; old = slot_bytes slots.Free; entered = (place, may.slot, (refl, refl)) };
        at_once = record {
          fenced = λ e. absurd cc;
          failed = λ e. absurd cc;
          no_keys = λ e. absurd cc;
          up = λ join is. absurd (true≢false (sym is ∙ may.out));
          down = λ other is. absurd (other may.join);
          refused = λ place n seen is joined none. absurd (no_other (commands.Scribble place n seen) (λ e. cc) is);
        };
        at_end = record {
          busy = λ other shown none. let e = rw (may.slot, may.shown) at shown in absurd cc;
          full = λ f i n is met. absurd (no_other (commands.Write f i n) (λ e. cc) is);
        };
        by_slot = record {
          joined = λ other join entered none. let e = rw (may.slot, may.memory) at entered.registered in ap (λ (k : Key). let a : Answer = answers.Joined k in a) (same_key key other (some_key key.0 other.0 e));
          unseen = λ of is shown. absurd (no_other (commands.Look of) (λ e. cc) is);
          seen = λ of n is shown. absurd (no_other (commands.Look of) (λ e. cc) is);
          few = λ of is joined count. absurd (no_other (commands.Recover of) (λ e. cc) is);
          live = λ of is found. absurd (no_other (commands.Recover of) (λ e. cc) is);
          free = λ of is found. absurd (no_other (commands.Recover of) (λ e. cc) is);
        };
        by_log = record {
          nothing = λ is joined none. absurd (no_other commands.Log (λ e. cc) is);
          full = λ is full. absurd (no_other commands.Log (λ e. cc) is);
        };
        facts = record {
          rests = rw (may.slot, may.memory) (λ p has. absurd (none_in p has));
          stays = rw (may.slot, may.memory, state, self) refl;
          last = λ own is done. absurd (no_other commands.Leave (λ e. cc) is);
          left = λ is e. absurd (no_other commands.Leave (λ e. cc) is);
        };
      };
      noted = record { pending = refl; watch = refl; rest = rw (may.slot, may.memory, state, self) refl };
    })
