-- In a run of a tidy workload no command is stopped, and each file command of a joined host is served.
use Rattle.std.proofs.Common.{◌≡◌, ◌≤◌, ◌+◌, ℕ, List, Option, Some, None, length, refl, ap, sym, ◌∙◌, subst, inl, inr, arith}
use Rattle.std.specs.Prelude.{◌≢◌, IsSome}
use Rattle.std.proofs.Common.{true≢false}
use Rattle.std.proofs.lemmas.Bool.{cases_eq}
use Rattle.vol_base.specs.Faults.{Rose}
use Rattle.vol_base.specs.declared.answer.Answer.{Answer}
use Rattle.vol_base.specs.declared.answer.Turn.TheVariants.{Answered, Idle, Moved, Work}
use Rattle.vol_base.specs.declared.block.Block.{Block}
use Rattle.vol_base.specs.declared.block.Digest.{Digest}
use Rattle.workload.specs.declared.line.Line.{Line}
use Rattle.workload.specs.declared.line.Workload.{Workload}
use Rattle.shared_disk.specs.Seen.{DiskSeen}
use Rattle.histories.specs.Lines.{IsAnswered}
use Rattle.host_runs.specs.Awaited.{awaited}
use Rattle.host_runs.specs.Memories.{AreFileLocks, HasFile, Memory}
use Rattle.host_runs.specs.NextLines.{next_line}
use Rattle.host_runs.specs.Notes.{Notes, noting, with_digest}
use Rattle.host_runs.specs.laws.Orderly.{IsOrderlyState}
use Rattle.host_runs.specs.RunStates.{RunState, opening}
use Rattle.host_runs.specs.Runs.{BeginsPhase, IsCall, NextPhase, Run, RunCall, Supplies, Turns, supplied}
use Rattle.host_runs.specs.laws.Seated.{IsSeated}
use Rattle.host_runs.specs.Steps.{IsStep}
use Rattle.host_runs.specs.Tidy.{IsComplete, IsReady, IsServed, IsTidyWork, IsUnstopped}
use Rattle.host_runs.specs.lemmas.TidyStates.{IsTidyState, IsUsing, memories_of}
use Rattle.host_runs.specs.Tries.{Tries, no_tries}
use Rattle.host_runs.specs.laws.DownLaws.{down-run}
use Rattle.host_runs.specs.laws.FitLaws.{none_answered, noting-here, noting-other, orderly-begun, orderly-call}
use Rattle.vol_base.specs.PlainCalls.{plain_call_of}
use Rattle.vol_base.specs.declared.command.Command.{Command}
use Rattle.vol_base.specs.declared.command.Command.TheVariants as commands
use Rattle.histories.specs.Answers.{MayGet}
use Rattle.vol_base.specs.declared.answer.Answer.TheVariants as answers
use Rattle.host_runs.specs.laws.RunLaws.{run-keeps}
use Rattle.host_runs.specs.laws.SeatedLaws.{seated-begun, seated-call}
use Rattle.host_runs.specs.lemmas.CalledLaws.{faults_once}
use Rattle.host_runs.specs.lemmas.TidyBehind.{behind_answered, behind_moved}
use Rattle.host_runs.specs.lemmas.TidyDisk.{disk_same, none_some}
use Rattle.host_runs.specs.lemmas.TidyEnds.{disk-opened}
use Rattle.host_runs.specs.lemmas.TidySteps.{tidy_behind}

-- what is kept: the count of faults never falls, and while it did not rise since the start the state is tidy
abbrev pub IsTidySince : Workload → DiskSeen → RunState → Type 0
IsTidySince w first s = (first.faults ≤ s.device.faults) × ((Rose first.faults s.device.faults → ⊥) → IsTidyState w s)

-- notes that keep memory, calls and tries of each host
tidy_noted : (w : Workload) (s : RunState) (notes : ℕ → Notes) → IsOrderlyState w (record s { notes = notes })
    → ((k : ℕ) → IsSeated w (record s { notes = notes }) k) → ((k : ℕ) → (notes k).memory ≡ (s.notes k).memory)
    → ((k : ℕ) → (notes k).calls ≡ (s.notes k).calls) → ((k : ℕ) → (notes k).tries ≡ (s.notes k).tries) → IsTidyState w s
    → IsTidyState w (record s { notes = notes })
tidy_noted w s notes orderly seated memory calls tries tidy = record {
  orderly = orderly;
  seated = seated;
  valid = tidy.valid;
  disk = disk_same w.geometry 0 (memories_of s.notes) (memories_of notes) (λ k other. memory k) s.device.state s.device.state tidy.disk refl (memory 0);
  rests = λ h none. subst (λ (x : Memory). AreFileLocks w.geometry x.holds) (sym (memory h)) (tidy.rests h (sym (calls h) ∙ none));
  stays = λ h none. ap (λ (x : Memory). x.left) (memory h) ∙ tidy.stays h (sym (calls h) ∙ none);
  idle = λ h none. calls h ∙ tidy.idle h none;
  holds = λ h f has. tidy.holds h f (subst (λ (x : Memory). HasFile w.geometry x.holds f) (memory h) has);
  reads = λ h f has. tidy.reads h f (subst (λ (x : Memory). HasFile w.geometry x.reads f) (memory h) has);
  fresh = λ h none. tries h ∙ tidy.fresh h (sym (calls h) ∙ none);
  counted = λ h p line at some none. ap (λ (x : Tries). x.count) (tries h)
      ∙ tidy.counted h p line (record { next = at.next; is = at.is }) some (sym (ap (λ (x : Tries). x.found) (tries h)) ∙ none);
  found = λ h p f line word at file is.
      tidy.found h p f line word (record { next = at.next; is = at.is }) file (sym (ap (λ (x : Tries). x.found) (tries h)) ∙ is);
  alone = λ h p f line word at file is n key tiny other has.
      tidy.alone h p f line word (record { next = at.next; is = at.is }) file (sym (ap (λ (x : Tries). x.found) (tries h)) ∙ is) n key tiny other
      (sym (ap (λ (x : Memory). x.key) (memory n)) ∙ has);
  shown = λ h. ap (λ (x : Tries). x.shown) (tries h) ∙ tidy.shown h;
  unstopped = tidy.unstopped;
}

-- a digest that is handed in
noting_same : {X : Type 0} (f : Notes → X) (host : ℕ) (now : Notes) (s : RunState) → f now ≡ f (s.notes host) → (k : ℕ)
    → f (noting host now s.notes k) ≡ f (s.notes k)
noting_same f host now s same k =
    elim (cases_eq k host) [
      | inl at ↦ ap f (noting-here host k now s.notes at) ∙ same ∙ ap (λ (h : ℕ). f (s.notes h)) (sym at)
      | inr other ↦ ap f (noting-other host k now s.notes other)
    ]

tidy_supplied : (w : Workload) (first : DiskSeen) (host : ℕ) (digest : Digest) (block : Option Block) (s : RunState)
    → IsOrderlyState w (supplied host digest block s)
    → ((k : ℕ) → IsSeated w (supplied host digest block s) k) → IsTidySince w first s → IsTidySince w first (supplied host digest block s)
tidy_supplied w first host digest None s orderly seated since = since
tidy_supplied w first host digest (Some block) s orderly seated since = (
  since.0,
  λ no_fault. tidy_noted w s (noting host (with_digest digest (s.notes host)) s.notes) orderly seated
      (noting_same (λ (n : Notes). n.memory) host (with_digest digest (s.notes host)) s refl)
      (noting_same (λ (n : Notes). n.calls) host (with_digest digest (s.notes host)) s refl)
      (noting_same (λ (n : Notes). n.tries) host (with_digest digest (s.notes host)) s refl) (since.1 no_fault),
)

using_later : (lines : List Line) (given : List (Option Answer)) (phase h f : ℕ) → IsUsing lines given phase h f
    → IsUsing lines given (phase + 1) h f
using_later lines given phase h f its =
    record { position = its.position; line = its.line; is = its.is; of = its.of; reached = let le = its.reached in omega (arith, le); file = its.file; still = its.still }

-- the next phase, at which every host is idle
tidy_phase : (w : Workload) (s : RunState) → ((h : ℕ) → next_line w.lines s.answers s.phase h ≡ None)
    → IsOrderlyState w (record s { phase = s.phase + 1 }) → ((k : ℕ) → IsSeated w (record s { phase = s.phase + 1 }) k) → IsTidyState w s
    → IsTidyState w (record s { phase = s.phase + 1 })
tidy_phase w s idle orderly seated tidy =
    let fresh : (h : ℕ) → (s.notes h).tries ≡ no_tries = λ h. tidy.fresh h (tidy.idle h (idle h)) in
    record {
      orderly = orderly;
      seated = seated;
      valid = tidy.valid;
      disk = tidy.disk;
      rests = tidy.rests;
      stays = tidy.stays;
      idle = λ h none. tidy.idle h (idle h);
      holds = λ h f has. using_later w.lines s.answers s.phase h f (tidy.holds h f has);
      reads = λ h f has. using_later w.lines s.answers s.phase h f (tidy.reads h f has);
      fresh = tidy.fresh;
      counted = λ h p line at some none. ap (λ (x : Tries). x.count) (fresh h);
      found = λ h p f line word at file is. absurd (none_some is (ap (λ (x : Tries). x.found) (fresh h)));
      alone = λ h p f line word at file is. absurd (none_some is (ap (λ (x : Tries). x.found) (fresh h)));
      shown = tidy.shown;
      unstopped = tidy.unstopped;
    }

-- a turn
tidy_turn : (w : Workload) (host : ℕ) (ended : Option Answer) (s t : RunState) → IsTidyWork w.lines → IsOrderlyState w t
    → ((k : ℕ) → IsSeated w t k)
    → IsStep w host ended s t → (Rose s.device.faults t.device.faults → ⊥) → IsTidyState w s → IsTidyState w t
tidy_turn w host None s t work orderly seated step no_fault tidy =
    tidy_behind w host None s t work tidy step no_fault orderly seated (behind_moved w host s t work tidy no_fault step)
tidy_turn w host (Some answer) s t work orderly seated step no_fault tidy =
    tidy_behind w host (Some answer) s t work tidy step no_fault orderly seated (behind_answered w host s t work tidy no_fault answer step)

rose_later : (first before now : ℕ) → first ≤ before → Rose before now → Rose first now
rose_later first before now le rose = omega (arith, le, rose)

rose_still : (first before now : ℕ) → before ≤ now → Rose first before → Rose first now
rose_still first before now le rose = omega (arith, le, rose)

tidy_step : (w : Workload) (first : DiskSeen) (host : ℕ) (ended : Option Answer) (s t : RunState) → IsTidyWork w.lines → IsOrderlyState w t
    → ((k : ℕ) → IsSeated w t k)
    → IsStep w host ended s t → IsTidySince w first s → IsTidySince w first t
tidy_step w first host ended s t work orderly seated step since =
    let le = faults_once step.made s.device t.device step.acts in (
      omega (arith, since.0, le),
      λ no_fault. tidy_turn w host ended s t work orderly seated step
          (λ rose. no_fault (rose_later first.faults s.device.faults t.device.faults since.0 rose))
          (since.1 (λ rose. no_fault (rose_still first.faults s.device.faults t.device.faults le rose))),
    )

tidy_call : (w : Workload) (first : DiskSeen) → IsTidyWork w.lines → (call : RunCall) (s t : RunState) → IsOrderlyState w s
    → ((k : ℕ) → IsSeated w s k)
    → IsTidySince w first s → IsCall w call s t → IsTidySince w first t
tidy_call w first work (Turns host Idle) s t orderly seated since is = subst (IsTidySince w first) (sym is.1) since
tidy_call w first work (Turns host (Work block)) s t orderly seated since is = subst (IsTidySince w first) (sym is.1) since
tidy_call w first work (Turns host Moved) s t orderly seated since is =
    tidy_step w first host None s t work (orderly-call w work.phased (Turns host Moved) s t orderly is) (seated-call w (Turns host Moved) s t orderly seated is) is since
tidy_call w first work (Turns host (Answered answer)) s t orderly seated since is =
    tidy_step w first host (Some answer) s t work (orderly-call w work.phased (Turns host (Answered answer)) s t orderly is)
    (seated-call w (Turns host (Answered answer)) s t orderly seated is) is since
tidy_call w first work (Supplies host digest) s t orderly seated since is =
    let u = supplied host digest (awaited w s host) s in
    subst (IsTidySince w first) (sym is)
    (tidy_supplied w first host digest (awaited w s host) s (orderly-call w work.phased (Supplies host digest) s u orderly refl)
    (seated-call w (Supplies host digest) s u orderly seated refl) since)
tidy_call w first work NextPhase s t orderly seated since is =
    let u : RunState = record s { phase = s.phase + 1 } in
    let begins : BeginsPhase w s u = record { idle = is.idle; more = is.more; phase = refl } in
    subst (IsTidySince w first) (sym is.phase)
    (since.0, λ no_fault. tidy_phase w s is.idle (orderly-call w work.phased NextPhase s u orderly begins) (seated-call w NextPhase s u orderly seated begins) (since.1 no_fault))

tidy_begun : (w : Workload) (device : DiskSeen) → IsReady w device → IsTidyState w (opening w device)
tidy_begun w device ready = record {
  orderly = orderly-begun w device;
  seated = seated-begun w device;
  valid = ready.valid;
  disk = disk-opened w device ready;
  rests = λ h none place has. absurd (omega (arith, has.1));
  stays = λ h none. refl;
  idle = λ h none. refl;
  holds = λ h f has. absurd (omega (arith, has.2.1));
  reads = λ h f has. absurd (omega (arith, has.2.1));
  fresh = λ h none. refl;
  counted = λ h p line at some none. refl;
  found = λ h p f line word at file is. absurd (none_some is refl);
  alone = λ h p f line word at file is. absurd (none_some is refl);
  shown = λ h. refl;
  unstopped = λ p answer is. absurd (none_answered (length w.lines) p (answer, is));
}

-- each state of a run of a tidy workload, while the device did not fail
pub tidy-run : (w : Workload) (device : DiskSeen) (calls : List RunCall) (t : RunState) → IsTidyWork w.lines → IsReady w device
    → Run w (opening w device) calls t → (Rose device.faults t.device.faults → ⊥) → IsTidyState w t
tidy-run w device calls t work ready run no_fault =
    (run-keeps w (λ (u : RunState). IsOrderlyState w u × ((k : ℕ) → IsSeated w u k) × IsTidySince w device u)
    (λ call s u all is. (orderly-call w work.phased call s u all.0 is, seated-call w call s u all.0 all.1 is, tidy_call w device work call s u all.0 all.1 all.2 is))
    (opening w device) calls t
    (orderly-begun w device, seated-begun w device, (omega arith, λ quiet. tidy_begun w device ready)) run).2.1 no_fault

-- so no command is stopped
pub tidy-unstopped : (w : Workload) (device : DiskSeen) (calls : List RunCall) (t : RunState) → IsTidyWork w.lines → IsReady w device
    → Run w (opening w device) calls t → (Rose device.faults t.device.faults → ⊥) → (p : ℕ) (answer : Answer)
    → IsAnswered t.answers p answer → IsUnstopped answer
tidy-unstopped w device calls t work ready run no_fault = (tidy-run w device calls t work ready run no_fault).unstopped

-- an answer to a file command that is none of these is a plain reply, or `full` for a `write`
served_by : (command : Command) (answer : Answer) → MayGet command answer → IsUnstopped answer → IsSome (plain_call_of command)
    → answer ≢ answers.Down → IsServed command answer
served_by command (answers.Plain reply) may unstopped file other = tt
served_by command (answers.Busy key) may unstopped file other = absurd unstopped
served_by command (answers.Cut by) may unstopped file other = absurd unstopped
served_by command answers.Down may unstopped file other = absurd (other refl)
served_by (commands.Write f i n) answers.Full may unstopped file other = tt
served_by (commands.Write f i n) answer may unstopped file other = absurd may
served_by (commands.Create f) answer may unstopped file other = absurd may
served_by (commands.Size f n) answer may unstopped file other = absurd may
served_by (commands.Read f i) answer may unstopped file other = absurd may
served_by (commands.Punch f i) answer may unstopped file other = absurd may
served_by (commands.Remove f) answer may unstopped file other = absurd may
served_by command answer may unstopped file other = absurd cc

-- and each file command of a joined host is served
pub tidy-complete : (w : Workload) (device : DiskSeen) (calls : List RunCall) (t : RunState) → IsTidyWork w.lines → IsReady w device
    → Run w (opening w device) calls t → (Rose device.faults t.device.faults → ⊥) → IsComplete w.lines t.answers
tidy-complete w device calls t work ready run no_fault =
    let tidy = tidy-run w device calls t work ready run no_fault in
    record {
      unstopped = tidy.unstopped;
      served = λ p line answer is file given joined.
          served_by line.command answer (tidy.orderly.fits.own p answer line given is) (tidy.unstopped p answer given) file
          (λ down. true≢false (sym joined ∙ down-run w device calls t work.phased run p line is (subst (IsAnswered t.answers p) down given)));
    }
