-- Where no host has a line left in the last phase, each line has an answer.
use Rattle.std.proofs.Common.{◌≡◌, ◌≤◌, ◌+◌, ℕ, Option, Some, length, refl, sym, subst, inl, inr, arith}
use Rattle.std.specs.Prelude.{All, IsSome}
use Rattle.std.proofs.lemmas.Bool.{cases_lt}
use Rattle.std.proofs.lemmas.Option.{get_or_from_slice_get, slice_get_cases}
use Rattle.vol_base.specs.declared.answer.Answer.{Answer}
use Rattle.workload.specs.declared.line.Line.{Line}
use Rattle.workload.specs.declared.line.Workload.{Workload}
use Rattle.histories.specs.Lines.{IsLine}
use Rattle.histories.specs.Phases.{AreWithin}
use Rattle.host_runs.specs.RunStates.{RunState}
use Rattle.host_runs.specs.Runs.{AreIdle}
use Rattle.host_runs.specs.laws.NextLineLaws.{next-none}
use Rattle.host_runs.specs.laws.Orderly.{HasAnswer, IsOrderlyState}

line_answered : (w : Workload) (s : RunState) → IsOrderlyState w s → AreIdle w s → AreWithin w.phases w.lines → w.phases ≤ s.phase + 1
    → (p : ℕ) (line : Line) → IsLine w.lines p line → HasAnswer s.answers p
line_answered w s o idle within last p line is =
    let below = within p line is in
    elim (cases_lt line.phase s.phase) [
      | inl past ↦ o.past p line is past
      | inr present ↦ next-none w.lines s.answers s.phase line.host p line o.long (idle line.host) is (omega (arith, below, last, present)) refl
    ]

-- so where a run is at its end
pub all-answered : (w : Workload) (s : RunState) → IsOrderlyState w s → AreIdle w s → AreWithin w.phases w.lines → w.phases ≤ s.phase + 1
    → All (λ answer. IsSome answer) s.answers × (length s.answers ≡ length w.lines)
all-answered w s o idle within last = (
  λ k d lt.
      elim (slice_get_cases w.lines k).1 [
        | inl here ↦
            let has = line_answered w s o idle within last k here.0 here.2 in
            subst (λ (given : Option Answer). IsSome given) (sym (get_or_from_slice_get s.answers k (Some has.0) d has.1)) refl
        | inr past ↦ let long = o.long in absurd (omega (arith, lt, past.0, long))
      ],
  o.long,
)
