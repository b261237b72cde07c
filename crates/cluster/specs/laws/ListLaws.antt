-- What a turn and a digest leave of the phase, the answers, the history and the events.
use Rattle.std.proofs.Common.{◌≡◌, ℕ, false, List, [], Option, Some, None, map, refl, ap, sym, ◌∙◌}
use Rattle.std.proofs.lemmas.List.{append-nil, map-append}
use Rattle.vol_base.specs.Grows.{BeginsWith}
use Rattle.vol_base.specs.declared.answer.Turn.{Turn}
use Rattle.vol_base.specs.declared.answer.Turn.TheVariants.{Answered, Idle, Moved, Work}
use Rattle.vol_base.specs.declared.block.Block.{Block}
use Rattle.vol_base.specs.declared.block.Digest.{Digest}
use Rattle.workload.specs.declared.line.Workload.{Workload}
use Rattle.host_runs.specs.Awaited.{awaited}
use Rattle.host_runs.specs.RunStates.{RunEvent, RunState, events_at}
use Rattle.host_runs.specs.Runs.{IsTurn, Supplies, Turns, supplied}
use Rattle.cluster.specs.Origins.{origin_of, seen_event}
use Rattle.cluster.specs.Runs.{Goes, Inv, IsStill, SameStart}
use Rattle.cluster.specs.Views.{ClusterView, LedgerView, PartsView, state_of}

begins_same : {E : Type 0} (xs ys : List E) → ys ≡ xs → BeginsWith xs ys
begins_same xs ys same = ([], same ∙ sym (append-nil xs))

turn_phase : (w : Workload) (h : ℕ) (turn : Turn) (s t : RunState) → IsTurn w h turn s t → t.phase ≡ s.phase
turn_phase w h Idle s t is = ap (λ (r : RunState). r.phase) is.1
turn_phase w h (Work block) s t is = ap (λ (r : RunState). r.phase) is.1
turn_phase w h Moved s t step = step.phase_is
turn_phase w h (Answered answer) s t step = step.phase_is

turn_events : (w : Workload) (h : ℕ) (turn : Turn) (s t : RunState) → IsTurn w h turn s t → BeginsWith s.events t.events
turn_events w h Idle s t is = begins_same s.events t.events (ap (λ (r : RunState). r.events) is.1)
turn_events w h (Work block) s t is = begins_same s.events t.events (ap (λ (r : RunState). r.events) is.1)
turn_events w h Moved s t step = (events_at step.position step.placed None, step.events_are)
turn_events w h (Answered answer) s t step = (events_at step.position step.placed (Some answer), step.events_are)

-- the phase and the lists of a state
abbrev lists_of : RunState → ℕ × LedgerView
lists_of s = (s.phase, record { answers = s.answers; history = s.history; events = s.events })

supplied_lists : (h : ℕ) (digest : Digest) (block : Option Block) (s : RunState) → lists_of (supplied h digest block s) ≡ lists_of s
supplied_lists h digest None s = refl
supplied_lists h digest (Some block) s = refl

module _ (v : ClusterView) (u : PartsView) (inv : Inv v) (live : v.spent ≡ false) where
  pub phase_turned : (h : ℕ) (turn : Turn) → Goes v.parts (Turns h turn) u → u.phase ≡ v.parts.phase
  phase_turned h turn goes =
      let (later, is, agree) = goes inv.run.notes (inv.live live).1 in
      turn_phase v.parts.workload h turn (state_of v.parts inv.run.notes) (state_of u later) is

  pub events_turned : (h : ℕ) (turn : Turn) → Goes v.parts (Turns h turn) u → BeginsWith v.parts.ledger.events u.ledger.events
  events_turned h turn goes =
      let (later, is, agree) = goes inv.run.notes (inv.live live).1 in
      turn_events v.parts.workload h turn (state_of v.parts inv.run.notes) (state_of u later) is

  lists_supplied : (h : ℕ) (digest : Digest) → Goes v.parts (Supplies h digest) u
      → lists_of (state_of u inv.run.notes) ≡ lists_of (state_of v.parts inv.run.notes)
  lists_supplied h digest goes =
      let (later, is, agree) = goes inv.run.notes (inv.live live).1 in
      let s = state_of v.parts inv.run.notes in
      ap lists_of is ∙ supplied_lists h digest (awaited v.parts.workload s h) s

  pub phase_supplied : (h : ℕ) (digest : Digest) → Goes v.parts (Supplies h digest) u → u.phase ≡ v.parts.phase
  phase_supplied h digest goes = ap (λ (l : ℕ × LedgerView). l.0) (lists_supplied h digest goes)

  pub ledger_supplied : (h : ℕ) (digest : Digest) → Goes v.parts (Supplies h digest) u → u.ledger ≡ v.parts.ledger
  ledger_supplied h digest goes = ap (λ (l : ℕ × LedgerView). l.1) (lists_supplied h digest goes)

pub events_still : (v u : PartsView) → IsStill v u → BeginsWith v.ledger.events u.ledger.events
events_still v u still = begins_same v.ledger.events u.ledger.events (ap (λ (l : LedgerView). l.events) still.ledger)

pub events_same : (v : PartsView) → BeginsWith v.ledger.events v.ledger.events
events_same v = begins_same v.ledger.events v.ledger.events refl

-- what a cluster was started from, and its events as they are seen
pub same_origin : (v u : ClusterView) → SameStart v u → u.parts.phase ≡ v.parts.phase → origin_of u ≡ origin_of v
same_origin v u same phase = rw (same.workload, same.began, phase) refl

pub seen_grow : (xs ys : List RunEvent) → BeginsWith xs ys → BeginsWith (map seen_event xs) (map seen_event ys)
seen_grow xs ys (more, is) = (map seen_event more, ap (map seen_event) is ∙ map-append seen_event xs more)
