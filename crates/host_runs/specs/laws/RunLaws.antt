-- What holds of every run.
use Rattle.std.proofs.Common.{◌++◌, ◌∷◌, List, [], refl, sym, subst}
use Rattle.workload.specs.declared.line.Workload.{Workload}
use Rattle.host_runs.specs.RunStates.{RunState}
use Rattle.host_runs.specs.Runs.{IsCall, Run, RunCall}

-- what each call keeps, a run keeps
pub run-keeps : (w : Workload) (P : RunState → Type 0) → ((call : RunCall) (s t : RunState) → P s → IsCall w call s t → P t)
    → (s : RunState) (calls : List RunCall) (t : RunState) → P s → Run w s calls t → P t
run-keeps w P keeps s [] t p run = subst P (sym run) p
run-keeps w P keeps s (call ∷ calls) t p run = run-keeps w P keeps run.0 calls t (keeps call s run.0 p run.1) run.2

-- two runs in a row
pub run-joined : (w : Workload) (s : RunState) (calls : List RunCall) (m : RunState) (more : List RunCall) (t : RunState)
    → Run w s calls m → Run w m more t → Run w s (calls ++ more) t
run-joined w s [] m more t run rest = subst (λ (u : RunState). Run w u more t) run rest
run-joined w s (call ∷ calls) m more t run rest = (run.0, run.1, run-joined w run.0 calls m more t run.2 rest)

-- a run with one call more
pub run-more : (w : Workload) (s : RunState) (calls : List RunCall) (m : RunState) (call : RunCall) (t : RunState)
    → Run w s calls m → IsCall w call m t → Run w s (calls ++ call ∷ []) t
run-more w s calls m call t run is = run-joined w s calls m (call ∷ []) t run (t, is, refl)
