-- A run writes nothing behind the blocks of its volume.
use Rattle.std.proofs.Common.{◌≡◌, ◌≤◌, ◌∙◌, ℕ, List, Option, Some, None, IfSome, refl, sym, ap, subst, option_map}
use Rattle.vol_base.specs.declared.answer.Turn.TheVariants.{Answered, Idle, Moved, Work}
use Rattle.vol_layout.specs.declared.geometry.Geometry.{Geometry}
use Rattle.vol_layout.specs.declared.kind.Kind.{Kind}
use Rattle.vol_layout.specs.Places.{kind_at}
use Rattle.vol_layout.specs.Regions.{total}
use Rattle.vol_layout.specs.laws.PlaceLaws.{kind_at-none}
use Rattle.workload.specs.declared.line.Workload.{Workload}
use Rattle.shared_disk.specs.Calls.{told_after}
use Rattle.shared_disk.specs.Events.{Call, Changes, Event, Reply, Done, Fences, Gives, Reads, Refuses, Registers, Shows, Tests, Writes}
use Rattle.shared_disk.specs.Seen.{DiskSeen}
use Rattle.shared_disk.specs.State.{OnImages, State, Told}
use Rattle.host_runs.specs.Awaited.{awaited}
use Rattle.host_runs.specs.DeviceCalls.{ActsOnce}
use Rattle.host_runs.specs.Moments.{Moment}
use Rattle.host_runs.specs.RunStates.{RunState}
use Rattle.host_runs.specs.Runs.{IsCall, NextPhase, Run, RunCall, Supplies, Turns, supplied}
use Rattle.host_runs.specs.Steps.{IsStep, moment_of}
use Rattle.host_runs.specs.TurnFacts.{MayMark, MayTest, MayWrite}
use Rattle.host_runs.specs.laws.GetLaws.{get_set-other}
use Rattle.host_runs.specs.laws.RunLaws.{run-keeps}
use Rattle.jobs.specs.Beyond.{KeepsBeyond}

-- the content stayed
same_beyond : (g : Geometry) (told : Option Told) → OnImages (KeepsBeyond g) told told
same_beyond g None = tt
same_beyond g (Some t) = λ place past. refl

told_beyond : (g : Geometry) (old new : Option Told) → new ≡ old → OnImages (KeepsBeyond g) old new
told_beyond g old new same = subst (λ (o : Option Told). OnImages (KeepsBeyond g) old o) (sym same) (same_beyond g old)

joined_beyond : (g : Geometry) (a b c : Option Told) → OnImages (KeepsBeyond g) a b → OnImages (KeepsBeyond g) b c → OnImages (KeepsBeyond g) a c
joined_beyond g None None None x y = tt
joined_beyond g (Some a) (Some b) (Some c) x y = λ place past. y place past ∙ x place past
joined_beyond g (Some a) None c x y = absurd x
joined_beyond g None (Some b) c x y = absurd x
joined_beyond g (Some a) (Some b) None x y = absurd y
joined_beyond g None None (Some c) x y = absurd y

-- a block was written at a place of the volume
wrote_beyond : (g : Geometry) (told : Option Told) (place : ℕ) (block : List ℕ) → (kind_at g place ≡ None → ⊥)
    → OnImages (KeepsBeyond g) told (option_map (told_after place block) told)
wrote_beyond g None place block known = tt
wrote_beyond g (Some t) place block known =
    λ q past. get_set-other t.image place q block (λ same. known (kind_at-none g place (subst (λ (n : ℕ). total g ≤ n) same past)))

-- a turn writes at such places alone
some_write : (m : Moment) (key : ℕ) (kind : Option Kind) (block : List ℕ) → MayWrite m key kind block → kind ≡ None → ⊥
some_write m key None block may is = may
some_write m key (Some kind) block may is = absurd cc

some_test : (m : Moment) (key : ℕ) (kind : Option Kind) (old new : List ℕ) → MayTest m key kind old new → kind ≡ None → ⊥
some_test m key None old new may is = may
some_test m key (Some kind) old new may is = absurd cc

called_beyond : (m : Moment) (key : ℕ) (call : Call) (reply : Reply) (s t : State) → MayMark m key call reply → Changes call reply s t
    → OnImages (KeepsBeyond m.geometry) s.told t.told
called_beyond m key call (Refuses cause) s t marks h = told_beyond m.geometry s.told t.told (ap (λ (u : State). u.told) h)
called_beyond m key (Reads place) (Shows block) s t marks h = told_beyond m.geometry s.told t.told (ap (λ (u : State). u.told) h.1)
called_beyond m key (Writes place block) Done s t marks h =
    subst (λ (u : State). OnImages (KeepsBeyond m.geometry) s.told u.told) (sym h)
    (wrote_beyond m.geometry s.told place block (some_write m key (kind_at m.geometry place) block marks))
called_beyond m key (Tests place old new) Done s t marks h =
    subst (λ (u : State). OnImages (KeepsBeyond m.geometry) s.told u.told) (sym h.1)
    (wrote_beyond m.geometry s.told place new (some_test m key (kind_at m.geometry place) old new marks.0))
called_beyond m key (Tests place old new) (Shows block) s t marks h =
    told_beyond m.geometry s.told t.told (ap (λ (u : State). u.told) h.2)
called_beyond m key (Registers host) (Gives given) s t marks h = told_beyond m.geometry s.told t.told (ap (λ (u : State). u.told) h.1)
called_beyond m key (Fences target) Done s t marks h = told_beyond m.geometry s.told t.told (ap (λ (u : State). u.told) h)
called_beyond m key call reply s t marks h = absurd h

once_beyond : (m : Moment) (made : Option Event) (s t : DiskSeen) → ActsOnce made s t → IfSome made (λ e. MayMark m e.key e.call e.reply)
    → OnImages (KeepsBeyond m.geometry) s.state.told t.state.told
once_beyond m None s t acts marks = told_beyond m.geometry s.state.told t.state.told (ap (λ (d : DiskSeen). d.state.told) acts)
once_beyond m (Some e) s t acts marks = called_beyond m e.key e.call e.reply s.state t.state marks acts.0.changes

step_beyond : (w : Workload) (host : ℕ) (ended : _) (s t : RunState) → IsStep w host ended s t
    → OnImages (KeepsBeyond w.geometry) s.device.state.told t.device.state.told
step_beyond w host ended s t step =
    once_beyond (moment_of w host step.line.command step.made step.placed s t.device.state) step.made s.device t.device step.acts step.marks

-- nor does any other call of a run
stays_beyond : (w : Workload) (s t : RunState) → t.device ≡ s.device → OnImages (KeepsBeyond w.geometry) s.device.state.told t.device.state.told
stays_beyond w s t same = told_beyond w.geometry s.device.state.told t.device.state.told (ap (λ (d : DiskSeen). d.state.told) same)

supplied_device : (host : ℕ) (digest : _) (block : _) (s : RunState) → (supplied host digest block s).device ≡ s.device
supplied_device host digest None s = refl
supplied_device host digest (Some block) s = refl

call_beyond : (w : Workload) (call : RunCall) (s t : RunState) → IsCall w call s t
    → OnImages (KeepsBeyond w.geometry) s.device.state.told t.device.state.told
call_beyond w (Turns host Idle) s t is = stays_beyond w s t (ap (λ (u : RunState). u.device) is.1)
call_beyond w (Turns host (Work block)) s t is = stays_beyond w s t (ap (λ (u : RunState). u.device) is.1)
call_beyond w (Turns host Moved) s t is = step_beyond w host None s t is
call_beyond w (Turns host (Answered answer)) s t is = step_beyond w host (Some answer) s t is
call_beyond w (Supplies host digest) s t is =
    stays_beyond w s t (ap (λ (u : RunState). u.device) is ∙ supplied_device host digest (awaited w s host) s)
call_beyond w NextPhase s t is = stays_beyond w s t (ap (λ (u : RunState). u.device) is.phase)

-- so the blocks behind the volume are at the end of a run what they were at its beginning
pub run_beyond : (w : Workload) (s : RunState) (calls : List RunCall) (t : RunState) → Run w s calls t
    → OnImages (KeepsBeyond w.geometry) s.device.state.told t.device.state.told
run_beyond w s calls t run =
    run-keeps w (λ (u : RunState). OnImages (KeepsBeyond w.geometry) s.device.state.told u.device.state.told)
    (λ call before after so_far is.
    joined_beyond w.geometry s.device.state.told before.device.state.told after.device.state.told so_far (call_beyond w call before after is))
    s calls t (same_beyond w.geometry s.device.state.told) run
