-- A command answered `down` is of a host that is not joined by the answers before it.
use Rattle.std.proofs.Common.{◌≡◌, ◌≢◌, ◌≤◌, ◌==◌, ◌∷◌, ℕ, zero, suc, false, List, [], Option, Some, None, slice_get, slice_set, take, length, refl, ap, sym, ◌∙◌, subst, inl, inr, arith}
use Rattle.std.specs.Prelude.{if◌then◌else◌}
use Rattle.std.proofs.lemmas.Bool.{cases_eq, cases_lt, ne_eqb}
use Rattle.vol_base.specs.declared.answer.Answer.{Answer}
use Rattle.vol_base.specs.declared.answer.Answer.TheVariants as answers
use Rattle.vol_base.specs.declared.answer.CutBy.TheVariants as cuts
use Rattle.vol_base.specs.declared.answer.Turn.TheVariants.{Answered, Idle, Moved, Work}
use Rattle.vol_base.specs.declared.block.Block.{Block}
use Rattle.vol_base.specs.declared.block.Digest.{Digest}
use Rattle.vol_base.specs.declared.command.Command.{Command}
use Rattle.workload.specs.declared.line.Line.{Line}
use Rattle.workload.specs.declared.line.Workload.{Workload}
use Rattle.shared_disk.specs.Seen.{DiskSeen}
use Rattle.histories.specs.Joined.{is_joined, joined_after, of_answers}
use Rattle.histories.specs.Lines.{IsAnswered, IsLine}
use Rattle.histories.specs.Phases.{ArePhased}
use Rattle.host_runs.specs.Awaited.{awaited}
use Rattle.host_runs.specs.Causes.{IsCause}
use Rattle.host_runs.specs.laws.Orderly.{HasAnswer, IsOrderlyState}
use Rattle.host_runs.specs.RunStates.{RunState, opening}
use Rattle.host_runs.specs.Runs.{IsCall, NextPhase, Run, RunCall, Supplies, Turns, supplied}
use Rattle.host_runs.specs.Steps.{IsStep, moment_of}
use Rattle.host_runs.specs.Tidy.{joined_at}
use Rattle.host_runs.specs.laws.AnswerOrderLaws.{untouched}
use Rattle.host_runs.specs.laws.FitLaws.{none_answered, orderly-begun, orderly-call}
use Rattle.host_runs.specs.laws.GetLaws.{get_set}
use Rattle.host_runs.specs.laws.RunLaws.{run-keeps}
use Rattle.host_runs.specs.lemmas.OrderlyPlaced.{no_answer, one_line, some_same}
use Rattle.host_runs.specs.lemmas.StepLaws.{is_last, line_host, without_answer}

module _ {A : Type 0} (f : Command → Answer → A → A) where
  -- the answers before a position count alone, where the host has none from there on
  front_counts : (lines : List Line) (given : List (Option Answer)) (host p : ℕ) (before : A)
      → ((q : ℕ) (l : Line) → p ≤ q → IsLine lines q l → l.host ≡ host → HasAnswer given q → ⊥)
      → of_answers f lines (take p given) host before ≡ of_answers f lines given host before
  front_counts [] given host p before none = refl
  front_counts (line ∷ lines) given host zero before none = sym (untouched f (line ∷ lines) given host before (λ q l is of has. none q l (omega arith) is of has))
  front_counts (line ∷ lines) [] host (suc p) before none = refl
  front_counts (line ∷ lines) (None ∷ given) host (suc p) before none = front_counts lines given host p before (λ q l le is of has. none (suc q) l (omega (arith, le)) is of has)
  front_counts (line ∷ lines) (Some answer ∷ given) host (suc p) before none =
      front_counts lines given host p (if line.host == host then f line.command answer before else before) (λ q l le is of has. none (suc q) l (omega (arith, le)) is of has)

  -- an answer of another host, or one behind the position, changes nothing before it
  front_other : (lines : List Line) (given : List (Option Answer)) (host p q : ℕ) (line : Line) (answer : Answer) (before : A)
      → IsLine lines q line → line.host ≢ host → slice_get given q ≡ Some None
      → of_answers f lines (take p (slice_set given q (Some answer))) host before ≡ of_answers f lines (take p given) host before
  front_other [] given host p q line answer before is other without = absurd cc
  front_other (first ∷ lines) [] host p q line answer before is other without = absurd cc
  front_other (first ∷ lines) (given ∷ rest) host zero q line answer before is other without = refl
  front_other (first ∷ lines) (None ∷ rest) host (suc p) zero line answer before is other without =
      let same : first ≡ line = cc in
      rw (ne_eqb first.host host (λ e. other (sym (ap (λ (l : Line). l.host) same) ∙ e))) refl
  front_other (first ∷ lines) (Some given ∷ rest) host (suc p) zero line answer before is other without = absurd cc
  front_other (first ∷ lines) (None ∷ rest) host (suc p) (suc q) line answer before is other without = front_other lines rest host p q line answer before is other without
  front_other (first ∷ lines) (Some given ∷ rest) host (suc p) (suc q) line answer before is other without =
      front_other lines rest host p q line answer (if first.host == host then f first.command given before else before) is other without

front_behind : (given : List (Option Answer)) (p q : ℕ) (answer : Answer) → p ≤ q → take p (slice_set given q (Some answer)) ≡ take p given
front_behind [] p q answer le = refl
front_behind (given ∷ rest) zero q answer le = refl
front_behind (given ∷ rest) (suc p) zero answer le = absurd (omega (arith, le))
front_behind (given ∷ rest) (suc p) (suc q) answer le = ap (λ (xs : List (Option Answer)). given ∷ xs) (front_behind rest p q answer (omega (arith, le)))

-- a line that is answered `down` is of a host not joined before it
abbrev pub IsDownRight : Workload → RunState → Type 0
IsDownRight w s = (p : ℕ) (line : Line) → IsLine w.lines p line → IsAnswered s.answers p answers.Down → joined_at w.lines s.answers p line.host ≡ false

down_step : (w : Workload) (host : ℕ) (ended : Option Answer) (s t : RunState) → IsOrderlyState w s → IsStep w host ended s t
    → IsDownRight w s → IsDownRight w t
unfolding is_joined
down_step w host None s t o step right p line is down =
    ap (λ (xs : List (Option Answer)). joined_at w.lines xs p line.host) step.answers_are
    ∙ right p line is (subst (λ (xs : List (Option Answer)). IsAnswered xs p answers.Down) step.answers_are down)
down_step w host (Some answer) s t o step right p line is down =
    let later = slice_set s.answers step.position (Some answer) in
    let of = line_host w host s t (Some answer) step in
    ap (λ (xs : List (Option Answer)). joined_at w.lines xs p line.host) step.answers_are
    ∙ elim (get_set s.answers step.position p (Some answer) (Some answers.Down) (subst (λ (xs : List (Option Answer)). IsAnswered xs p answers.Down) step.answers_are down)) [
      | inl old ↦ elim (cases_lt step.position p) [
        | inl before ↦
            let other : step.line.host ≢ line.host = λ same.
            no_answer s.answers step.position (without_answer w host s t (Some answer) step)
            (o.in_turn step.position p step.line line before step.at.is is same (answers.Down, old.1)) in
            front_other joined_after w.lines s.answers line.host p step.position step.line answer false step.at.is other (without_answer w host s t (Some answer) step)
            ∙ right p line is old.1
        | inr behind ↦
            ap (λ (xs : List (Option Answer)). is_joined w.lines xs line.host) (front_behind s.answers p step.position answer behind) ∙ right p line is old.1
      ]
      | inr new ↦
          let is_down : answer ≡ answers.Down = some_same answer answers.Down new.1 in
          let same = one_line w.lines step.position line step.line (subst (λ (n : ℕ). IsLine w.lines n line) new.0 is) step.at.is in
          let self : line.host ≡ host = ap (λ (l : Line). l.host) same ∙ of in
          let cause = subst (IsCause (moment_of w host step.line.command step.made step.placed s t.device.state)) is_down
          (step.ending (λ death. let e : answers.Down ≡ answers.Cut cuts.Died = sym is_down ∙ some_same answer (answers.Cut cuts.Died) (step.died death) in cc)).cause in
          let front = front_counts joined_after w.lines s.answers line.host p false
          (λ q l le at q_of has. elim (cases_eq q step.position) [
            | inl here ↦ no_answer s.answers step.position (without_answer w host s t (Some answer) step) (subst (HasAnswer s.answers) here has)
            | inr differs ↦ is_last w host s t (Some answer) step o q l (omega (arith, le, differs, new.0)) at (q_of ∙ self) has
          ]) in
          ap (λ (xs : List (Option Answer)). is_joined w.lines xs line.host) (front_behind s.answers p step.position answer (omega (arith, new.0)))
          ∙ front ∙ ap (λ (h : ℕ). is_joined w.lines s.answers h) self ∙ cause.1
    ]

down_same : (w : Workload) (s t : RunState) → t.answers ≡ s.answers → IsDownRight w s → IsDownRight w t
down_same w s t same right p line is down =
    ap (λ (xs : List (Option Answer)). joined_at w.lines xs p line.host) same
    ∙ right p line is (subst (λ (xs : List (Option Answer)). IsAnswered xs p answers.Down) same down)

supplied_answers : (host : ℕ) (digest : Digest) (block : Option Block) (s : RunState) → (supplied host digest block s).answers ≡ s.answers
supplied_answers host digest None s = refl
supplied_answers host digest (Some block) s = refl

down_call : (w : Workload) (call : RunCall) (s t : RunState) → IsOrderlyState w s → IsDownRight w s → IsCall w call s t → IsDownRight w t
down_call w (Turns host Idle) s t o right is = down_same w s t (ap (λ (u : RunState). u.answers) is.1) right
down_call w (Turns host (Work block)) s t o right is = down_same w s t (ap (λ (u : RunState). u.answers) is.1) right
down_call w (Turns host Moved) s t o right is = down_step w host None s t o is right
down_call w (Turns host (Answered answer)) s t o right is = down_step w host (Some answer) s t o is right
down_call w (Supplies host digest) s t o right is =
    down_same w s t (ap (λ (u : RunState). u.answers) is ∙ supplied_answers host digest (awaited w s host) s) right
down_call w NextPhase s t o right is = down_same w s t (ap (λ (u : RunState). u.answers) is.phase) right

-- in each run a command answered `down` is of a host that is not joined by the answers before it
pub down-run : (w : Workload) (device : DiskSeen) (calls : List RunCall) (t : RunState) → ArePhased w.lines
    → Run w (opening w device) calls t → IsDownRight w t
down-run w device calls t phased run =
    (run-keeps w (λ (u : RunState). IsOrderlyState w u × IsDownRight w u)
    (λ call s u both is. (orderly-call w phased call s u both.0 is, down_call w call s u both.0 both.1 is))
    (opening w device) calls t
    (orderly-begun w device, λ p line is down. absurd (none_answered (length w.lines) p (answers.Down, down))) run).1
