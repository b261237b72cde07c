-- A turn by hand: the first turn of a `join`, over a device that tells nothing of its content.
use Rattle.std.proofs.Common.{◌≡◌, ◌≢◌, ◌<◌, ◌++◌, ℕ, false, true≢false, [], Some, None, refl, sym, ◌∙◌, arith}
use Rattle.vol_base.specs.declared.answer.Turn.TheVariants.{Moved}
use Rattle.vol_base.specs.declared.command.Command.{Command}
use Rattle.vol_base.specs.declared.command.Command.TheVariants as commands
use Rattle.workload.specs.declared.line.Line.{Line}
use Rattle.workload.specs.declared.line.Workload.{Workload}
use Rattle.shared_disk.specs.Calls.{after_register, last_counter, next_count, next_key}
use Rattle.shared_disk.specs.Events.{Event, Gives, Registers, event}
use Rattle.shared_disk.specs.Seen.{disk_seen}
use Rattle.histories.specs.Joined.{is_joined, standing_death}
use Rattle.host_runs.specs.Awaited.{awaited}
use Rattle.host_runs.specs.Notes.{Notes, noting}
use Rattle.host_runs.specs.RunStates.{RunState}
use Rattle.host_runs.specs.Runs.{IsTurn}
use Rattle.host_runs.specs.Steps.{IsAtLine, notes_now}
use Rattle.host_runs.specs.lemmas.TidyDisk.{none_some}

-- a host without a key, at a `join`, under a device that has keys left
pub record MayRegister (w : Workload) (s : RunState) (host : ℕ) : Type 0 where
  pub position : ℕ
  pub line : Line
  pub at : IsAtLine w.lines s host position line
  pub join : line.command ≡ commands.Join
  pub out : is_joined w.lines s.answers host ≡ false
  pub keyless : (s.notes host).memory.key ≡ None
  pub untold : s.device.state.told ≡ None
  pub left : s.device.state.counter ≢ last_counter
  pub small : host < 16
  pub alive : standing_death w.lines s.answers host ≡ None

-- the registration of its next key
abbrev pub registration : RunState → ℕ → Event
registration s host = event 0 (Registers host) (Gives (next_key host s.device.state))

abbrev pub registered_notes : Workload → RunState → ℕ → Notes
registered_notes w s host =
    record (notes_now w.geometry host commands.Join s.device.state (Some (registration s host)) None (s.notes host)) { asks = None }

-- the state behind it: the key is the host's, and the call is noted
abbrev pub registered_state : Workload → RunState → ℕ → RunState
registered_state w s host =
    record {
      device = disk_seen (after_register host s.device.state) s.device.faults s.device.room (next_count s.device.calls);
      phase = s.phase;
      answers = s.answers;
      history = s.history ++ [];
      events = s.events ++ [];
      notes = noting host (registered_notes w s host) s.notes;
    }

-- this is a turn of a run
pub register_turn : (w : Workload) (s : RunState) (host : ℕ) (may : MayRegister w s host)
    → IsTurn w host Moved s (registered_state w s host)
unfolding awaited
register_turn w s host may =
    let no_other : (command : Command) → (command ≡ commands.Join → ⊥) → may.line.command ≡ command → ⊥ = λ command other is. other (sym is ∙ may.join) in
    record {
      position = may.position;
      line = may.line;
      made = Some (registration s host);
      placed = None;
      later = registered_notes w s host;
      at = may.at;
      quiet = rw (may.at.next, may.at.is, may.out) refl;
      acts = (
        record {
          asked = may.small;
          changes = (refl, refl);
          fenced = (λ e. absurd cc, λ h. absurd h);
          admitted = tt;
          no_keys = (λ e. absurd cc, λ h. absurd (may.left h));
          failed = λ e. absurd cc;
          later = omega arith;
          memory = λ e. absurd cc;
          spends = omega arith;
          counted = refl;
        },
        λ e. cc,
      );
      moves = λ e. refl;
      may = (may.join, refl, may.keyless);
      marks = tt;
      files = rw may.untold tt;
      valid = rw may.untold tt;
      placing = record { file = λ e. absurd cc; once = λ e. absurd cc; plain = λ reply e. absurd cc; none = tt; own = tt };
      died = λ death. absurd (none_some death.1 may.alive);
      ending = λ living. record {
        cause = tt;
        at_once = record {
          fenced = λ e. absurd cc;
          failed = λ e. absurd cc;
          no_keys = λ e. absurd cc;
          up = λ join is. absurd (true≢false (sym is ∙ may.out));
          down = λ other is. absurd (other may.join);
          refused = λ place n seen is joined none. absurd (no_other (commands.Scribble place n seen) (λ e. cc) is);
        };
        at_end = record { busy = λ key shown. tt; full = λ f i n is met. tt };
        by_slot = record {
          joined = λ key join entered. absurd (let e = entered.entered.2.0 in cc);
          unseen = λ of is shown. absurd (no_other (commands.Look of) (λ e. cc) is);
          seen = λ of n is shown. absurd (no_other (commands.Look of) (λ e. cc) is);
          few = λ of is joined count. absurd (no_other (commands.Recover of) (λ e. cc) is);
          live = λ of is found. absurd (no_other (commands.Recover of) (λ e. cc) is);
          free = λ of is found. absurd (no_other (commands.Recover of) (λ e. cc) is);
        };
        by_log = record {
          nothing = λ is joined none. absurd (no_other commands.Log (λ e. cc) is);
          full = λ is full. absurd (no_other commands.Log (λ e. cc) is);
        };
        facts = record {
          rests = tt;
          stays = tt;
          last = λ own is done. absurd (no_other commands.Leave (λ e. cc) is);
          left = λ is e. absurd (no_other commands.Leave (λ e. cc) is);
        };
      };
      noted = (tt, refl);
      phase_is = refl;
      answers_are = refl;
      history_is = refl;
      events_are = refl;
      notes_are = refl;
    }
