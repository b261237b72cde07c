-- A host dies no later than it is to.
use Rattle.std.proofs.Common.{◌≡◌, ◌+◌, ◌<◌, ℕ, zero, suc, List, [], ◌∷◌, Option, Some, None, length, replicate, refl, ap, sym, ◌∙◌, subst, inl, inr, arith}
use Rattle.std.proofs.lemmas.Bool.{cases_eq}
use Rattle.vol_base.specs.declared.answer.Answer.{Answer}
use Rattle.vol_base.specs.declared.answer.Answer.TheVariants as answers
use Rattle.vol_base.specs.declared.answer.CutBy.TheVariants as cuts
use Rattle.vol_base.specs.declared.answer.Turn.TheVariants.{Answered, Idle, Moved, Work}
use Rattle.vol_base.specs.declared.block.Block.{Block}
use Rattle.vol_base.specs.declared.block.Digest.{Digest}
use Rattle.vol_base.specs.declared.command.Command.{Command}
use Rattle.vol_base.specs.declared.command.Command.TheVariants as commands
use Rattle.vol_base.specs.declared.plain.PlainReply.{PlainReply}
use Rattle.vol_layout.specs.declared.geometry.Geometry.{Geometry}
use Rattle.workload.specs.declared.line.Line.{Line}
use Rattle.workload.specs.declared.line.Workload.{Workload}
use Rattle.shared_disk.specs.Events.{Event}
use Rattle.shared_disk.specs.Seen.{DiskSeen}
use Rattle.shared_disk.specs.State.{State}
use Rattle.histories.specs.Joined.{death_after, of_answers, standing_death}
use Rattle.histories.specs.Phases.{ArePhased}
use Rattle.host_runs.specs.Awaited.{awaited}
use Rattle.host_runs.specs.Moments.{Moment}
use Rattle.host_runs.specs.Notes.{Notes, with_digest}
use Rattle.host_runs.specs.laws.Orderly.{IsOrderlyState}
use Rattle.host_runs.specs.Rests.{IsNotedAfter, dying_after}
use Rattle.host_runs.specs.RunStates.{RunState, opening}
use Rattle.host_runs.specs.Runs.{IsCall, NextPhase, Run, RunCall, Supplies, Turns, supplied}
use Rattle.host_runs.specs.Steps.{IsDeath, IsStep, moment_of, notes_now}
use Rattle.host_runs.specs.laws.FitLaws.{noting-here, noting-other, orderly-begun, orderly-call}
use Rattle.host_runs.specs.laws.RunLaws.{run-keeps}
use Rattle.host_runs.specs.lemmas.OrderlyPlaced.{some_same}
use Rattle.host_runs.specs.lemmas.StepLaws.{answers-here, answers-other, notes-here, notes-other}

-- where a death stands, the host has made less calls since
abbrev pub IsDyingIn : Workload → RunState → ℕ → Type 0
IsDyingIn w s host = (n : ℕ) → standing_death w.lines s.answers host ≡ Some n → (s.notes host).dying < n

-- a turn that is not the one at which the host is to die
dying_now : (g : Geometry) (host : ℕ) (command : Command) (before : State) (made : Option Event) (placed : Option PlainReply)
    → (notes : Notes) (death : Option ℕ) (n : ℕ)
    → (IsDeath death made (notes_now g host command before made placed notes) → ⊥) → death ≡ Some n → notes.dying < n
    → (notes_now g host command before made placed notes).dying < n
dying_now g host command before None placed notes death n no_death is lt = lt
dying_now g host command before (Some e) placed notes death n no_death is lt =
    elim (cases_eq (notes.dying + 1) n) [
      | inl same ↦ absurd (no_death (refl, is ∙ ap (λ (k : ℕ). Some k) (sym same)))
      | inr other ↦ omega (arith, lt, other)
    ]

-- the death that stands behind an answer
death_ends : (command : Command) (answer : Answer) (death : Option ℕ) (dying n : ℕ) → death_after command answer death ≡ Some n
    → ((answer ≡ answers.Cut cuts.Died → ⊥) → death ≡ Some n → dying < n) → dying_after answer command dying < n
death_ends command (answers.Cut by) death dying n is lt = absurd cc
death_ends (commands.Die zero) answers.Fine death dying n is lt = absurd cc
death_ends (commands.Die (suc calls)) answers.Fine death dying n is lt = let e : suc calls ≡ n = some_same (suc calls) n is in omega (arith, e)
death_ends command answers.Fine death dying n is lt = lt (λ e. cc) is
death_ends command answer death dying n is lt = lt (λ e. cc) is

dying_still : (m : Moment) (later : Notes) → IsNotedAfter m None later → later.dying ≡ m.now.dying
dying_still m later noted = ap (λ (n : Notes). n.dying) noted.1

dying_ended : (m : Moment) (answer : Answer) (later : Notes) → IsNotedAfter m (Some answer) later
    → later.dying ≡ dying_after answer m.command m.now.dying
dying_ended m answer later noted = ap (λ (n : Notes). n.dying) noted.rest

module _ (w : Workload) (host : ℕ) (s t : RunState) (o : IsOrderlyState w s) where
  dying_here : (ended : Option Answer) (step : IsStep w host ended s t) → IsDyingIn w s host → IsDyingIn w t host
  unfolding standing_death
  dying_here None step dying n is =
      let m = moment_of w host step.line.command step.made step.placed s t.device.state in
      let death = standing_death w.lines s.answers host in
      let before : death ≡ Some n = sym (ap (λ given. standing_death w.lines given host) step.answers_are) ∙ is in
      let now = dying_now w.geometry host step.line.command s.device.state step.made step.placed (s.notes host) death n (λ d. let e = step.died d in cc) before (dying n before) in
      let same = ap (λ (x : Notes). x.dying) (notes-here w host s t None step) ∙ dying_still m step.later step.noted in
      omega (arith, now, same)
  dying_here (Some answer) step dying n is =
      let m = moment_of w host step.line.command step.made step.placed s t.device.state in
      let death = standing_death w.lines s.answers host in
      let behind : death_after step.line.command answer death ≡ Some n = sym (answers-here w host s t death_after None answer step o) ∙ is in
      let ends = death_ends step.line.command answer death m.now.dying n behind
      (λ no_cut before. dying_now w.geometry host step.line.command s.device.state step.made step.placed (s.notes host) death n
      (λ d. no_cut (some_same answer (answers.Cut cuts.Died) (step.died d))) before (dying n before)) in
      let same = ap (λ (x : Notes). x.dying) (notes-here w host s t (Some answer) step) ∙ dying_ended m answer step.later step.noted in
      omega (arith, ends, same)

  dying_step : (ended : Option Answer) (step : IsStep w host ended s t) → ((k : ℕ) → IsDyingIn w s k) → (k : ℕ) → IsDyingIn w t k
  unfolding standing_death
  dying_step ended step dying k =
      elim (cases_eq k host) [
        | inl same ↦ subst (IsDyingIn w t) (sym same) (dying_here ended step (dying host))
        | inr other ↦ λ n is.
            let lt = dying k n (sym (answers-other w host s t death_after None k ended step other) ∙ is) in
            let same = ap (λ (x : Notes). x.dying) (notes-other w host s t ended step k other) in
            omega (arith, lt, same)
      ]

dying_supplied : (w : Workload) (host : ℕ) (digest : Digest) (block : Option Block) (s : RunState) (k : ℕ) → IsDyingIn w s k
    → IsDyingIn w (supplied host digest block s) k
dying_supplied w host digest None s k dying n is = dying n is
dying_supplied w host digest (Some block) s k dying n is =
    let lt = dying n is in
    elim (cases_eq k host) [
      | inl at ↦
          let same = ap (λ (x : Notes). x.dying) (noting-here host k (with_digest digest (s.notes host)) s.notes at) in
          let back = ap (λ (h : ℕ). (s.notes h).dying) at in
          omega (arith, lt, same, back)
      | inr other ↦
          let same = ap (λ (x : Notes). x.dying) (noting-other host k (with_digest digest (s.notes host)) s.notes other) in
          omega (arith, lt, same)
    ]

dying_call : (w : Workload) (call : RunCall) (s t : RunState) → IsOrderlyState w s → ((k : ℕ) → IsDyingIn w s k) → IsCall w call s t
    → (k : ℕ) → IsDyingIn w t k
dying_call w (Turns host Idle) s t o dying is k = subst (λ (u : RunState). IsDyingIn w u k) (sym is.1) (dying k)
dying_call w (Turns host (Work block)) s t o dying is k = subst (λ (u : RunState). IsDyingIn w u k) (sym is.1) (dying k)
dying_call w (Turns host Moved) s t o dying is k = dying_step w host s t o None is dying k
dying_call w (Turns host (Answered answer)) s t o dying is k = dying_step w host s t o (Some answer) is dying k
dying_call w (Supplies host digest) s t o dying is k =
    subst (λ (u : RunState). IsDyingIn w u k) (sym is) (dying_supplied w host digest (awaited w s host) s k (dying k))
dying_call w NextPhase s t o dying is k = subst (λ (u : RunState). IsDyingIn w u k) (sym is.phase) (dying k)

alive_begun : (lines : List Line) (n host : ℕ) → of_answers death_after lines (replicate n None) host None ≡ None
alive_begun [] n host = refl
alive_begun (line ∷ lines) zero host = refl
alive_begun (line ∷ lines) (suc n) host = alive_begun lines n host

dying_begun : (w : Workload) (device : DiskSeen) (k : ℕ) → IsDyingIn w (opening w device) k
unfolding standing_death
dying_begun w device k n is = let none = alive_begun w.lines (length w.lines) k in let e : Some n ≡ None = sym is ∙ none in absurd cc

-- in each run a host has made less calls than its standing death allows
pub dying-run : (w : Workload) (device : DiskSeen) (calls : List RunCall) (t : RunState) → ArePhased w.lines
    → Run w (opening w device) calls t → (k : ℕ) → IsDyingIn w t k
dying-run w device calls t phased run =
    (run-keeps w (λ (u : RunState). IsOrderlyState w u × ((k : ℕ) → IsDyingIn w u k))
    (λ call s u both is. (orderly-call w phased call s u both.0 is, dying_call w call s u both.0 both.1 is))
    (opening w device) calls t (orderly-begun w device, dying_begun w device) run).1
