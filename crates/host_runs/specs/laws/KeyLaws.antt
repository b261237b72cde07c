-- Which calls hosts make, and which keys they take off.
use Rattle.std.proofs.Common.{◌≡◌, ◌⊎◌, ◌++◌, ◌∷◌, ℕ, false, List, [], Option, Some, None, refl, ap, sym, ◌∙◌, subst, inl, inr, true≢false}
use Rattle.std.specs.Prelude.{Contains, IsSome}
use Rattle.vol_base.specs.declared.answer.Answer.{Answer}
use Rattle.vol_base.specs.declared.answer.Turn.TheVariants.{Answered, Idle, Moved, Work}
use Rattle.vol_base.specs.declared.answer.Turn.{Turn}
use Rattle.vol_base.specs.declared.block.Block.{Block}
use Rattle.vol_base.specs.declared.block.Digest.{Digest}
use Rattle.vol_base.specs.declared.command.Command.TheVariants as commands
use Rattle.workload.specs.declared.line.Line.{Line}
use Rattle.workload.specs.declared.line.Workload.{Workload}
use Rattle.shared_disk.specs.Events.{Call, Event, Fences, Reads, Registers, Tests, Writes}
use Rattle.shared_disk.specs.Seen.{DiskSeen}
use Rattle.shared_disk.specs.laws.CalledLaws.{key_called}
use Rattle.histories.specs.Joined.{is_joined}
use Rattle.host_runs.specs.Awaited.{awaited}
use Rattle.host_runs.specs.CallRights.{MayCall, MayFence, MayMake}
use Rattle.host_runs.specs.DeviceCalls.{ActsOnce}
use Rattle.host_runs.specs.Moments.{Moment}
use Rattle.host_runs.specs.RunStates.{RunState}
use Rattle.host_runs.specs.Runs.{IsCall, NextPhase, Run, RunCall, Supplies, Turns, supplied}
use Rattle.host_runs.specs.Steps.{IsAtLine, IsStep, moment_of}

-- a call by which a key is taken off: its host may do that at its line
pub record IsTakenOff (w : Workload) (s : RunState) (call : RunCall) (key : ℕ) : Type 0 where
  pub host : ℕ
  pub turn : Turn
  pub is : call ≡ Turns host turn
  pub position : ℕ
  pub line : Line
  pub at : IsAtLine w.lines s host position line
  pub own : ℕ
  pub registered : (s.notes host).memory.key ≡ Some own
  pub may : MayFence line.command host own key (s.notes host).watch

module _ (w : Workload) (host : ℕ) (ended : Option Answer) (turn : Turn) (s t : RunState) (key : ℕ) (step : IsStep w host ended s t) where
  taken_off : (made : Option Event) → step.made ≡ made → ActsOnce made s.device t.device
      → MayCall (moment_of w host step.line.command made step.placed s t.device.state) made
      → Contains s.device.state.keys key → Contains t.device.state.keys key ⊎ IsTakenOff w s (Turns host turn) key
  taken_off None is acts may has = inl (subst (λ (d : DiskSeen). Contains d.state.keys key) (sym acts) has)
  taken_off (Some e) is acts may has =
      elim (key_called e.call e.reply s.device.state t.device.state key acts.0.changes has) [
        | inl still ↦ inl still
        | inr fenced ↦
            let right = subst (λ (c : Call). MayMake (moment_of w host step.line.command (Some e) step.placed s t.device.state) e.key c) fenced may in
            inr (record {
              host = host;
              turn = turn;
              is = refl;
              position = step.position;
              line = step.line;
              at = step.at;
              own = e.key;
              registered = right.0;
              may = right.2;
            })
      ]

keys_step : (w : Workload) (host : ℕ) (ended : Option Answer) (turn : Turn) (s t : RunState) (key : ℕ) (step : IsStep w host ended s t)
    → Contains s.device.state.keys key
    → Contains t.device.state.keys key ⊎ IsTakenOff w s (Turns host turn) key
keys_step w host ended turn s t key step has = taken_off w host ended turn s t key step step.made refl step.acts step.may has

keys_supplied : (host : ℕ) (digest : Digest) (block : Option Block) (s : RunState) (key : ℕ) → Contains s.device.state.keys key
    → Contains (supplied host digest block s).device.state.keys key
keys_supplied host digest None s key has = has
keys_supplied host digest (Some block) s key has = has

-- each call of a run leaves a key registered, or its host may take it off
pub keys-call : (w : Workload) (call : RunCall) (s t : RunState) (key : ℕ) → IsCall w call s t → Contains s.device.state.keys key
    → Contains t.device.state.keys key ⊎ IsTakenOff w s call key
keys-call w (Turns host Idle) s t key is has = inl (subst (λ (u : RunState). Contains u.device.state.keys key) (sym is.1) has)
keys-call w (Turns host (Work block)) s t key is has = inl (subst (λ (u : RunState). Contains u.device.state.keys key) (sym is.1) has)
keys-call w (Turns host Moved) s t key is has = keys_step w host None Moved s t key is has
keys-call w (Turns host (Answered answer)) s t key is has = keys_step w host (Some answer) (Answered answer) s t key is has
keys-call w (Supplies host digest) s t key is has =
    inl (subst (λ (u : RunState). Contains u.device.state.keys key) (sym is) (keys_supplied host digest (awaited w s host) s key has))
keys-call w NextPhase s t key is has = inl (subst (λ (u : RunState). Contains u.device.state.keys key) (sym is.phase) has)

-- the call of a run at which a key was taken off
pub record IsTakenOffIn (w : Workload) (s : RunState) (calls : List RunCall) (key : ℕ) : Type 0 where
  pub earlier : List RunCall
  pub call : RunCall
  pub later : List RunCall
  pub calls_are : calls ≡ earlier ++ call ∷ later
  pub state : RunState
  pub run : Run w s earlier state
  pub off : IsTakenOff w state call key

pub keys-run : (w : Workload) (s : RunState) (calls : List RunCall) (t : RunState) (key : ℕ) → Run w s calls t
    → Contains s.device.state.keys key
    → Contains t.device.state.keys key ⊎ IsTakenOffIn w s calls key
keys-run w s [] t key run has = inl (subst (λ (u : RunState). Contains u.device.state.keys key) (sym run) has)
keys-run w s (call ∷ calls) t key run has =
    elim (keys-call w call s run.0 key run.1 has) [
      | inl still ↦ elim (keys-run w run.0 calls t key run.2 still) [
        | inl kept ↦ inl kept
        | inr off ↦ inr (record {
          earlier = call ∷ off.earlier;
          call = off.call;
          later = off.later;
          calls_are = ap (λ (cs : List RunCall). call ∷ cs) off.calls_are;
          state = off.state;
          run = (run.0, run.1, off.run);
          off = off.off;
        })
      ]
      | inr off ↦ inr (record { earlier = []; call = call; later = calls; calls_are = refl; state = s; run = refl; off = off })
    ]

out_call : (m : Moment) (key : ℕ) (call : Call) → MayMake m key call → m.joined ≡ false → m.command ≡ commands.Join
out_call m key (Registers of) may out = may.0
out_call m key (Fences target) may out = elim may.1 [ inl joined ↦ absurd (true≢false (sym joined ∙ out)) | inr join ↦ join ]
out_call m key (Reads place) may out = elim may.1 [ inl joined ↦ absurd (true≢false (sym joined ∙ out)) | inr join ↦ join ]
out_call m key (Writes place block) may out = elim may.1 [ inl joined ↦ absurd (true≢false (sym joined ∙ out)) | inr join ↦ join ]
out_call m key (Tests place old new) may out = elim may.1 [ inl joined ↦ absurd (true≢false (sym joined ∙ out)) | inr join ↦ join ]

out_made : (m : Moment) (made : Option Event) → MayCall m made → m.joined ≡ false → IsSome made → m.command ≡ commands.Join
out_made m None may out made = absurd cc
out_made m (Some e) may out made = out_call m e.key e.call may out

-- a host that is not joined makes no call but in a `join`
pub out-calls : (w : Workload) (host : ℕ) (ended : Option Answer) (s t : RunState) (step : IsStep w host ended s t)
    → is_joined w.lines s.answers host ≡ false → IsSome step.made
    → step.line.command ≡ commands.Join
out-calls w host ended s t step out made = out_made (moment_of w host step.line.command step.made step.placed s t.device.state) step.made step.may out made
