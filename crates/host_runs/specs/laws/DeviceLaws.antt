-- What a run leaves of its device: it fails no less often, and has as many blocks.
use Rattle.std.proofs.Common.{◌≡◌, ◌≤◌, ℕ, List, Option, Some, None, refl, ap, ◌∙◌, arith}
use Rattle.vol_base.specs.declared.answer.Turn.TheVariants.{Answered, Idle, Moved, Work}
use Rattle.vol_base.specs.declared.block.Block.{Block}
use Rattle.vol_base.specs.declared.block.Digest.{Digest}
use Rattle.workload.specs.declared.line.Workload.{Workload}
use Rattle.shared_disk.specs.Events.{Event}
use Rattle.host_runs.specs.Awaited.{awaited}
use Rattle.host_runs.specs.DeviceCalls.{ActsOnce}
use Rattle.host_runs.specs.RunStates.{RunState}
use Rattle.host_runs.specs.Runs.{IsCall, NextPhase, Run, RunCall, Supplies, Turns, supplied}
use Rattle.host_runs.specs.laws.RunLaws.{run-keeps}
use Rattle.host_runs.specs.lemmas.CalledLaws.{blocks_once, faults_once}

supplied_device : (host : ℕ) (digest : Digest) (block : Option Block) (s : RunState) → (supplied host digest block s).device ≡ s.device
supplied_device host digest None s = refl
supplied_device host digest (Some block) s = refl

-- each call of a run makes at most one device call
pub acts-call : (w : Workload) (call : RunCall) (s t : RunState) → IsCall w call s t → (made : Option Event) × ActsOnce made s.device t.device
acts-call w (Turns host Idle) s t is = (None, ap (λ (u : RunState). u.device) is.1)
acts-call w (Turns host (Work block)) s t is = (None, ap (λ (u : RunState). u.device) is.1)
acts-call w (Turns host Moved) s t is = (is.made, is.acts)
acts-call w (Turns host (Answered answer)) s t is = (is.made, is.acts)
acts-call w (Supplies host digest) s t is = (None, ap (λ (u : RunState). u.device) is ∙ supplied_device host digest (awaited w s host) s)
acts-call w NextPhase s t is = (None, ap (λ (u : RunState). u.device) is.phase)

-- the count of faults never falls
pub faults-run : (w : Workload) (s : RunState) (calls : List RunCall) (t : RunState) → Run w s calls t → s.device.faults ≤ t.device.faults
faults-run w s calls t run =
    run-keeps w (λ (u : RunState). s.device.faults ≤ u.device.faults)
    (λ call before after least is.
    let acts = acts-call w call before after is in
    let le = faults_once acts.0 before.device after.device acts.1 in
    omega (arith, least, le))
    s calls t (omega arith) run

-- the number of blocks stays
pub blocks-run : (w : Workload) (s : RunState) (calls : List RunCall) (t : RunState) → Run w s calls t
    → t.device.state.blocks ≡ s.device.state.blocks
blocks-run w s calls t run =
    run-keeps w (λ (u : RunState). u.device.state.blocks ≡ s.device.state.blocks)
    (λ call before after same is. let acts = acts-call w call before after is in blocks_once acts.0 before.device after.device acts.1 ∙ same)
    s calls t refl run
