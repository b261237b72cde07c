-- Three turns that no run has: one with two device calls, an `alive 3`, and a write that is answered without its place.
use Rattle.std.proofs.Common.{◌≡◌, ◌≢◌, ◌<◌, ◌≤◌, ◌+◌, ◌++◌, ◌∷◌, ℕ, List, [], Option, Some, None, refl, ap, sym, ◌∙◌, subst, inl, inr, arith}
use Rattle.std.specs.Prelude.{Contains}
use Rattle.std.specs.Option.{option_or}
use Rattle.std.proofs.lemmas.List.Elements.{Contains-append_left, Contains-append_right}
use Rattle.vol_base.specs.declared.answer.Answer.TheVariants as answers
use Rattle.vol_base.specs.declared.answer.Turn.{Turn}
use Rattle.vol_base.specs.declared.answer.Turn.TheVariants.{Answered, Idle, Moved, Work}
use Rattle.vol_base.specs.declared.command.Command.{Command}
use Rattle.vol_base.specs.declared.command.Command.TheVariants as commands
use Rattle.vol_base.specs.declared.plain.PlainReply.{PlainReply}
use Rattle.plain_files.specs.declared.history.Placed.{Placed}
use Rattle.workload.specs.declared.line.Workload.{Workload}
use Rattle.shared_disk.specs.Events.{Event}
use Rattle.shared_disk.specs.Seen.{DiskSeen}
use Rattle.host_runs.specs.Causes.{IsOwnCause}
use Rattle.host_runs.specs.DeviceCalls.{ActsOnce}
use Rattle.host_runs.specs.Moments.{Moment}
use Rattle.host_runs.specs.NextLines.{next_line}
use Rattle.host_runs.specs.laws.Orderly.{IsOrderlyState, entry_of}
use Rattle.host_runs.specs.RunStates.{RunState, entry_at}
use Rattle.host_runs.specs.Runs.{IsTurn}
use Rattle.host_runs.specs.Steps.{IsStep}
use Rattle.host_runs.specs.laws.FitLaws.{placed_now}
use Rattle.host_runs.specs.lemmas.OrderlyPlaced.{some_same}

once_counted : (made : Option Event) (s t : DiskSeen) → ActsOnce made s t → t.calls ≤ s.calls + 1
once_counted None s t acts = let e = ap (λ (d : DiskSeen). d.calls) acts in omega (arith, e)
once_counted (Some e) s t acts = let e' = acts.0.counted in omega (arith, e')

same_counted : (s t : RunState) → t ≡ s → t.device.calls ≤ s.device.calls + 1
same_counted s t same = let e = ap (λ (u : RunState). u.device.calls) same in omega (arith, e)

-- a turn makes one device call at most
pub one_call : (w : Workload) (host : ℕ) (turn : Turn) (s t : RunState) → IsTurn w host turn s t → t.device.calls ≤ s.device.calls + 1
one_call w host Idle s t is = same_counted s t is.1
one_call w host (Work block) s t is = same_counted s t is.1
one_call w host Moved s t is = once_counted is.made s.device t.device is.acts
one_call w host (Answered answer) s t is = once_counted is.made s.device t.device is.acts

-- so a turn with two is none
pub two_calls_refused : (w : Workload) (host : ℕ) (turn : Turn) (s t : RunState) → s.device.calls + 2 ≤ t.device.calls
    → IsTurn w host turn s t → ⊥
two_calls_refused w host turn s t two is = let one = one_call w host turn s t is in absurd (omega (arith, one, two))

alive_few : (m : Moment) (command : Command) (n : ℕ) → IsOwnCause m command (answers.Alive n) → n < 3
alive_few m (commands.Recover of) n (inl few) = few.2
alive_few m (commands.Recover of) n (inr live) = let e = live.0 in omega (arith, e)
alive_few m command n is = absurd is

-- `alive n` comes with a number below 3 alone
pub alive_below : (w : Workload) (host n : ℕ) (s t : RunState) → IsTurn w host (Answered (answers.Alive n)) s t → n < 3
alive_below w host n s t step = alive_few _ step.line.command n (step.ending (λ death. let e = step.died death in absurd cc)).cause

pub alive_3_refused : (w : Workload) (host : ℕ) (s t : RunState) → IsTurn w host (Answered (answers.Alive 3)) s t → ⊥
alive_3_refused w host s t is = let few = alive_below w host 3 s t is in absurd (omega (arith, few))

placed_in : (history : List Placed) (p : ℕ) (reply : PlainReply) (old placed : Option PlainReply) → option_or old placed ≡ Some reply
    → ((r : PlainReply) → old ≡ Some r → Contains history (entry_of p r)) → Contains (history ++ entry_at p placed) (entry_of p reply)
placed_in history p reply (Some r) placed is stands =
    subst (λ (x : PlainReply). Contains (history ++ entry_at p placed) (entry_of p x)) (some_same r reply is)
    (Contains-append_left history (entry_at p placed) (entry_of p r) (stands r refl))
placed_in history p reply None None is stands = absurd cc
placed_in history p reply None (Some r) is stands =
    subst (λ (x : PlainReply). Contains (history ++ entry_at p (Some r)) (entry_of p x)) (some_same r reply is)
    (Contains-append_right history (entry_of p r ∷ []) (entry_of p r) (0, omega arith, refl))

-- a plain reply is answered only where it stands in the history
pub plain_placed : (w : Workload) (host : ℕ) (reply : PlainReply) (s t : RunState) → IsOrderlyState w s
    → (step : IsStep w host (Some (answers.Plain reply)) s t)
    → Contains t.history (entry_of step.position reply)
plain_placed w host reply s t o step =
    let now : option_or (s.notes host).placed step.placed ≡ Some reply =
    sym (placed_now w.geometry host step.line.command s.device.state step.made step.placed (s.notes host)) ∙ step.placing.plain reply refl in
    subst (λ (h : List Placed). Contains h (entry_of step.position reply)) (sym step.history_is)
    (placed_in s.history step.position reply (s.notes host).placed step.placed now (λ r is. o.stands host step.position r step.at.next is))

-- so a write whose answer is `Done` while no entry of its line stands in the history is none
pub unplaced_refused : (w : Workload) (host : ℕ) (reply : PlainReply) (s t : RunState) → IsOrderlyState w s
    → ((entry : Placed) → Contains t.history entry → (p : ℕ) → next_line w.lines s.answers s.phase host ≡ Some p → entry.line ≢ p)
    → IsTurn w host (Answered (answers.Plain reply)) s t → ⊥
unplaced_refused w host reply s t o none step = none (entry_of step.position reply) (plain_placed w host reply s t o step) step.position step.at.next refl
