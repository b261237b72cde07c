-- Answers and history of a run fit its workload.
use Rattle.std.proofs.Common.{◌≡◌, ◌≢◌, ℕ, zero, suc, List, Option, Some, None, length, replicate, refl, ap, sym, ◌∙◌, subst, inl, inr, arith}
use Rattle.std.specs.Option.{option_or}
use Rattle.std.proofs.lemmas.List.{length-replicate}
use Rattle.std.proofs.lemmas.Bool.{cases_eq, eq-eqb, ne_eqb}
use Rattle.vol_base.specs.declared.answer.Answer.{Answer}
use Rattle.vol_base.specs.declared.answer.Turn.TheVariants.{Answered, Idle, Moved, Work}
use Rattle.vol_base.specs.declared.block.Block.{Block}
use Rattle.vol_base.specs.declared.block.Digest.{Digest}
use Rattle.vol_base.specs.declared.command.Command.{Command}
use Rattle.vol_base.specs.declared.plain.PlainReply.{PlainReply}
use Rattle.vol_layout.specs.declared.geometry.Geometry.{Geometry}
use Rattle.workload.specs.declared.line.Workload.{Workload}
use Rattle.shared_disk.specs.Events.{Event}
use Rattle.shared_disk.specs.Seen.{DiskSeen}
use Rattle.shared_disk.specs.State.{State}
use Rattle.histories.specs.Fit.{Fits}
use Rattle.histories.specs.Phases.{ArePhased}
use Rattle.histories.specs.laws.FitLaws.{Fits-begun}
use Rattle.host_runs.specs.Awaited.{awaited}
use Rattle.host_runs.specs.Moments.{Moment}
use Rattle.host_runs.specs.Notes.{Notes, noting, with_digest}
use Rattle.host_runs.specs.laws.Orderly.{HasAnswer, IsOrderlyState}
use Rattle.host_runs.specs.Rests.{IsNotedAfter}
use Rattle.host_runs.specs.RunStates.{RunState, opening}
use Rattle.host_runs.specs.Runs.{IsCall, NextPhase, Run, RunCall, Supplies, Turns, supplied}
use Rattle.host_runs.specs.Steps.{IsStep, moment_of, notes_now}
use Rattle.host_runs.specs.laws.RunLaws.{run-keeps}
use Rattle.host_runs.specs.lemmas.OrderlySteps.{noted_behind, orderly-phase, orderly-same, orderly-step}

-- the notes of all hosts after those of one were made new
pub noting-here : (host k : ℕ) (now : Notes) (notes : ℕ → Notes) → k ≡ host → noting host now notes k ≡ now
noting-here host k now notes same = rw (eq-eqb k host same) refl

pub noting-other : (host k : ℕ) (now : Notes) (notes : ℕ → Notes) → k ≢ host → noting host now notes k ≡ notes k
noting-other host k now notes other = rw (ne_eqb k host other) refl

-- the reply that is noted with the call and the place of a turn
pub placed_now : (g : Geometry) (host : ℕ) (command : Command) (before : State) (made : Option Event) (placed : Option PlainReply)
    → (notes : Notes)
    → (notes_now g host command before made placed notes).placed ≡ option_or notes.placed placed
placed_now g host command before None placed notes = refl
placed_now g host command before (Some e) placed notes = refl

-- the reply that is noted behind a turn
pub placed_behind : (m : Moment) (ended : Option Answer) (later : Notes) → IsNotedAfter m ended later
    → later.placed ≡ noted_behind ended m.now.placed
placed_behind m None later noted = ap (λ (n : Notes). n.placed) noted.1
placed_behind m (Some answer) later noted = ap (λ (n : Notes). n.placed) noted.rest

orderly_step : (w : Workload) (host : ℕ) (ended : Option Answer) (s t : RunState) → ArePhased w.lines → IsOrderlyState w s
    → IsStep w host ended s t → IsOrderlyState w t
orderly_step w host ended s t phased o step =
    let m = moment_of w host step.line.command step.made step.placed s t.device.state in
    let now = placed_now w.geometry host step.line.command s.device.state step.made step.placed (s.notes host) in
    let later : ℕ → Option PlainReply = λ k. (noting host step.later s.notes k).placed in
    let made = orderly-step w.lines s.phase s.answers s.history (λ k. (s.notes k).placed) later host step.position step.line step.placed ended phased o step.at.next step.at.is
    (rw now at step.placing)
    (λ k other. ap (λ (n : Notes). n.placed) (noting-other host k step.later s.notes other))
    (ap (λ (n : Notes). n.placed) (noting-here host host step.later s.notes refl) ∙ placed_behind m ended step.later step.noted ∙ ap (noted_behind ended) now) in
    rw (step.phase_is, step.answers_are, step.history_is, step.notes_are) made

supplied_placed : (host : ℕ) (digest : Digest) (block : Option Block) (s : RunState) (k : ℕ)
    → ((supplied host digest block s).notes k).placed ≡ (s.notes k).placed
supplied_placed host digest None s k = refl
supplied_placed host digest (Some block) s k =
    elim (cases_eq k host) [
      | inl same ↦ ap (λ (n : Notes). n.placed) (noting-here host k (with_digest digest (s.notes host)) s.notes same) ∙ ap (λ (h : ℕ). (s.notes h).placed) (sym same)
      | inr other ↦ ap (λ (n : Notes). n.placed) (noting-other host k (with_digest digest (s.notes host)) s.notes other)
    ]

orderly_supplied : (w : Workload) (host : ℕ) (digest : Digest) (block : Option Block) (s : RunState) → IsOrderlyState w s
    → IsOrderlyState w (supplied host digest block s)
orderly_supplied w host digest None s o = o
orderly_supplied w host digest (Some block) s o =
    orderly-same w.lines s.phase s.answers s.history (λ k. (s.notes k).placed) (λ k. ((supplied host digest (Some block) s).notes k).placed) (supplied_placed host digest (Some block) s) o

-- each call of a run keeps answers, history and notes in order
pub orderly-call : (w : Workload) → ArePhased w.lines → (call : RunCall) (s t : RunState) → IsOrderlyState w s → IsCall w call s t
    → IsOrderlyState w t
orderly-call w phased (Turns host Idle) s t o is = subst (IsOrderlyState w) (sym is.1) o
orderly-call w phased (Turns host (Work block)) s t o is = subst (IsOrderlyState w) (sym is.1) o
orderly-call w phased (Turns host Moved) s t o is = orderly_step w host None s t phased o is
orderly-call w phased (Turns host (Answered answer)) s t o is = orderly_step w host (Some answer) s t phased o is
orderly-call w phased (Supplies host digest) s t o is = subst (IsOrderlyState w) (sym is) (orderly_supplied w host digest (awaited w s host) s o)
orderly-call w phased NextPhase s t o is =
    subst (IsOrderlyState w) (sym is.phase) (orderly-phase w.lines s.phase s.answers s.history (λ k. (s.notes k).placed) is.idle o)

-- nothing is answered before the first call
pub none_answered : (n p : ℕ) → HasAnswer (replicate n None) p → ⊥
none_answered zero p has = let e = has.1 in cc
none_answered (suc n) zero has = let e = has.1 in cc
none_answered (suc n) (suc p) has = none_answered n p has

pub orderly-begun : (w : Workload) (device : DiskSeen) → IsOrderlyState w (opening w device)
orderly-begun w device = record {
  long = length-replicate (length w.lines) None;
  past = λ p line is earlier. absurd (omega (arith, earlier));
  in_turn = λ q p l m lt is_q is_p same has. absurd (none_answered (length w.lines) p has);
  reached = λ entry line in_history is. absurd (omega (arith, in_history.1));
  behind = λ entry in_history. absurd (omega (arith, in_history.1));
  stands = λ host p reply next is. absurd cc;
  idle = λ host none. refl;
  fits = Fits-begun w.lines (length w.lines);
}

pub orderly-run : (w : Workload) (device : DiskSeen) (calls : List RunCall) (t : RunState) → ArePhased w.lines
    → Run w (opening w device) calls t → IsOrderlyState w t
orderly-run w device calls t phased run =
    run-keeps w (IsOrderlyState w) (orderly-call w phased) (opening w device) calls t (orderly-begun w device) run

pub fits-run : (w : Workload) (device : DiskSeen) (calls : List RunCall) (t : RunState) → ArePhased w.lines
    → Run w (opening w device) calls t
    → Fits w.lines t.answers t.history
fits-run w device calls t phased run = (orderly-run w device calls t phased run).fits
