-- Being joined, by a host's answers, is having a key, by its notes.
use Rattle.std.proofs.Common.{◌≡◌, ◌≢◌, ◌⊎◌, ◌++◌, ◌∷◌, ℕ, zero, suc, Bool, true, false, List, [], Option, Some, None, is_some, refl, ap, sym, ◌∙◌, subst, inl, inr, true≢false, length, replicate}
use Rattle.std.specs.Prelude.{IsSome}
use Rattle.std.proofs.lemmas.Bool.{cases_Bool, cases_eq}
use Rattle.vol_base.specs.declared.answer.Answer.{Answer}
use Rattle.vol_base.specs.declared.answer.Answer.TheVariants as answers
use Rattle.vol_base.specs.declared.command.Command.{Command}
use Rattle.vol_base.specs.declared.command.Command.TheVariants as commands
use Rattle.vol_base.specs.declared.answer.CutBy.TheVariants as cuts
use Rattle.vol_base.specs.declared.answer.Turn.TheVariants.{Answered, Idle, Moved, Work}
use Rattle.vol_base.specs.declared.block.Block.{Block}
use Rattle.vol_base.specs.declared.block.Digest.{Digest}
use Rattle.vol_base.specs.declared.block.Key.{Key}
use Rattle.vol_base.specs.declared.plain.PlainReply.{PlainReply}
use Rattle.workload.specs.declared.line.Line.{Line}
use Rattle.workload.specs.declared.line.Workload.{Workload}
use Rattle.shared_disk.specs.Events.{Event}
use Rattle.shared_disk.specs.Seen.{DiskSeen}
use Rattle.histories.specs.Answers.{MayGet}
use Rattle.histories.specs.Joined.{is_joined, joined_after, of_answers}
use Rattle.histories.specs.Lines.{IsLine}
use Rattle.histories.specs.Phases.{ArePhased}
use Rattle.host_runs.specs.Awaited.{awaited}
use Rattle.host_runs.specs.Causes.{IsCause}
use Rattle.host_runs.specs.CallRights.{MayCall}
use Rattle.host_runs.specs.Memories.{Memory, drops, memory_after, no_memory, remembered}
use Rattle.host_runs.specs.Moments.{Moment}
use Rattle.host_runs.specs.Notes.{NotedCall, Notes, with_digest}
use Rattle.host_runs.specs.laws.Orderly.{IsOrderlyState}
use Rattle.host_runs.specs.Owed.{IsNoCut}
use Rattle.host_runs.specs.RunStates.{RunState, opening}
use Rattle.host_runs.specs.Runs.{BeginsPhase, IsCall, NextPhase, Run, RunCall, Supplies, Turns, supplied}
use Rattle.host_runs.specs.laws.Seated.{IsJoining, IsSeated}
use Rattle.host_runs.specs.Steps.{IsEnding, IsStep, moment_of, notes_now}
use Rattle.host_runs.specs.laws.FitLaws.{noting-here, noting-other, orderly-begun, orderly-call}
use Rattle.host_runs.specs.laws.RunLaws.{run-keeps}
use Rattle.host_runs.specs.lemmas.OrderlyPlaced.{one_line, some_same}
use Rattle.host_runs.specs.lemmas.StepLaws.{answers-here, answers-other, at-other, at-still, calls-still, key_cases, memory-ended, memory-still, notes-here, notes-other, registers_to_join, some_call}

-- a command is a `join` or is none
pub join_or_other : (command : Command) → (command ≡ commands.Join) ⊎ (command ≢ commands.Join)
join_or_other commands.Join = inl refl
join_or_other command = inr (λ same. absurd cc)

pub joined_by_join : (command : Command) (key : Key) → MayGet command (answers.Joined key) → command ≡ commands.Join
joined_by_join commands.Join key may = refl
joined_by_join command key may = absurd may

-- an answer to another command than `join` drops a host exactly where it is not joined behind it
abbrev pub DropsOrKeeps : Command → Answer → Bool → Type 0
DropsOrKeeps command answer before =
    ((drops answer command ≡ true) × (joined_after command answer before ≡ false)) ⊎ ((drops answer command ≡ false) × (joined_after command answer before ≡ before))

fine_drops : (command : Command) (before : Bool) → DropsOrKeeps command answers.Fine before
fine_drops commands.Leave before = inl (refl, refl)
fine_drops (commands.Die zero) before = inl (refl, refl)
fine_drops (commands.Die (suc n)) before = inr (refl, refl)
fine_drops command before = inr (refl, refl)

busy_keeps : (command : Command) (key : Key) → command ≢ commands.Join → drops (answers.Busy key) command ≡ false
busy_keeps commands.Join key other = absurd (other refl)
busy_keeps command key other = refl

keyless_keeps : (command : Command) → command ≢ commands.Join → drops answers.NoKeys command ≡ false
keyless_keeps commands.Join other = absurd (other refl)
keyless_keeps command other = refl

pub drops_or_keeps : (command : Command) (answer : Answer) (before : Bool) → command ≢ commands.Join → MayGet command answer
    → DropsOrKeeps command answer before
drops_or_keeps command (answers.Joined key) before other may = absurd (other (joined_by_join command key may))
drops_or_keeps command (answers.Cut by) before other may = inl (refl, refl)
drops_or_keeps command answers.Fine before other may = fine_drops command before
drops_or_keeps command (answers.Busy key) before other may = inr (busy_keeps command key other, refl)
drops_or_keeps command answers.NoKeys before other may = inr (keyless_keeps command other, refl)
drops_or_keeps command answer before other may = inr (refl, refl)

-- an answer to a `join`
join_ends : (answer : Answer) (joined : Bool) (memory : Memory) → MayGet commands.Join answer
    → ((key : Key) → answer ≡ answers.Joined key → is_some memory.key ≡ true)
    → (drops answer commands.Join ≡ true → IsNoCut answer → joined ≡ false)
    → (answer ≡ answers.Up → is_some memory.key ≡ joined)
    → is_some (memory_after answer commands.Join memory).key ≡ joined_after commands.Join answer joined
join_ends (answers.Joined key) joined memory may entered out up = entered key refl
join_ends (answers.Cut by) joined memory may entered out up = refl
join_ends (answers.Busy key) joined memory may entered out up = sym (out refl tt)
join_ends answers.NoKeys joined memory may entered out up = sym (out refl tt)
join_ends answers.Up joined memory may entered out up = up refl
join_ends answers.Down joined memory may entered out up = absurd (may refl)
join_ends answer joined memory may entered out up = absurd may

-- the key that a host has in mind, with the call of a turn
call_key : (m : Moment) (made : Option Event) (placed : Option PlainReply) → MayCall m made → m.command ≢ commands.Join
    → m.now ≡ notes_now m.geometry m.host m.command m.before made placed m.old → m.now.memory.key ≡ m.old.memory.key
call_key m None placed may other is = ap (λ (n : Notes). n.memory.key) is
call_key m (Some e) placed may other is =
    elim (key_cases m.geometry m.host e.key e.call e.reply m.old.memory) [
      | inl kept ↦ ap (λ (n : Notes). n.memory.key) is ∙ kept
      | inr new ↦ absurd (other (registers_to_join m e.key e.call new.of may new.asked))
    ]

some_is : (o : Option ℕ) (n : ℕ) → o ≡ Some n → is_some o ≡ true
some_is o n e = ap is_some e

some_event : (made : Option Event) → IsSome made → (e : Event) × (made ≡ Some e)
some_event None is = absurd cc
some_event (Some e) is = (e, refl)

module _ (w : Workload) (host : ℕ) (s t : RunState) (o : IsOrderlyState w s) where
  -- a turn that is no death has its cause
  lives : (ended : Option Answer) (step : IsStep w host ended s t) → (ended ≡ Some (answers.Cut cuts.Died) → ⊥)
      → IsEnding (moment_of w host step.line.command step.made step.placed s t.device.state) ended
  lives ended step other = step.ending (λ death. other (step.died death))

  pub joining_command : (ended : Option Answer) (step : IsStep w host ended s t) → IsJoining w s host → step.line.command ≡ commands.Join
  joining_command ended step joining =
      let position = some_same joining.position step.position (sym joining.at.next ∙ step.at.next) in
      let line = one_line w.lines step.position joining.line step.line (subst (λ (n : ℕ). IsLine w.lines n joining.line) position joining.at.is) step.at.is in
      sym (ap (λ (l : Line). l.command) line) ∙ joining.command

  -- a command that goes on
  goes_on : (step : IsStep w host None s t) (e : Event) → step.made ≡ Some e → IsSeated w s host → IsSeated w t host
  goes_on step e made seated =
      let m = moment_of w host step.line.command step.made step.placed s t.device.state in
      let now = notes_now w.geometry host step.line.command s.device.state in
      let old = s.notes host in
      let call : NotedCall = record { event = e; before = s.device.state } in
      let key : (t.notes host).memory.key ≡ (remembered w.geometry host e old.memory).key =
      ap (λ (n : Notes). n.memory.key) (notes-here w host s t None step) ∙ ap (λ (x : Memory). x.key) (memory-still m step.later step.noted)
      ∙ ap (λ (x : Option Event). (now x step.placed old).memory.key) made in
      let calls : (t.notes host).calls ≡ old.calls ++ call ∷ [] =
      ap (λ (n : Notes). n.calls) (notes-here w host s t None step) ∙ calls-still m step.later step.noted
      ∙ ap (λ (x : Option Event). (now x step.placed old).calls) made in
      let same : is_joined w.lines t.answers host ≡ is_joined w.lines s.answers host = ap (λ given. is_joined w.lines given host) step.answers_are in
      let joining = λ (command : step.line.command ≡ commands.Join) (out : is_joined w.lines s.answers host ≡ false).
      let j : IsJoining w t host = record {
        position = step.position;
        line = step.line;
        at = at-still w host s t step;
        command = command;
        begun = λ none. some_call old.calls call (sym calls ∙ none);
        out = same ∙ out;
      } in j in
      elim (key_cases w.geometry host e.key e.call e.reply old.memory) [
        | inl kept ↦ elim seated [
          | inl is ↦ inl (ap is_some (key ∙ kept) ∙ is ∙ sym same)
          | inr j ↦ inr (joining (joining_command None step j) j.out)
        ]
        | inr new ↦
            let command = registers_to_join (moment_of w host step.line.command (Some e) step.placed s t.device.state) e.key e.call new.of (rw made at step.may) new.asked in
            elim (cases_Bool (is_joined w.lines s.answers host)) [
              | inl already ↦ let no_end = (lives None step (λ end. cc)).at_once.up command already in absurd cc
              | inr out ↦ inr (joining command out)
            ]
      ]

  -- a command that is answered
  ends : (answer : Answer) (step : IsStep w host (Some answer) s t) → IsSeated w s host
      → is_some (t.notes host).memory.key ≡ is_joined w.lines t.answers host
  unfolding is_joined
  ends answer step seated =
      let m = moment_of w host step.line.command step.made step.placed s t.device.state in
      let before = is_joined w.lines s.answers host in
      let memory : (t.notes host).memory ≡ memory_after answer step.line.command m.now.memory =
      ap (λ (n : Notes). n.memory) (notes-here w host s t (Some answer) step) ∙ memory-ended m answer step.later step.noted in
      let after : is_joined w.lines t.answers host ≡ joined_after step.line.command answer before = answers-here w host s t joined_after false answer step o in
      elim (join_or_other step.line.command) [
        | inl join ↦
            let end = join_ends answer before m.now.memory (subst (λ (c : Command). MayGet c answer) join step.placing.own)
            (λ key is. some_is m.now.memory.key key.0 (subst (IsCause m) is ((lives (Some answer) step (λ e. let e' : answers.Joined key ≡ answers.Cut cuts.Died = sym is ∙ some_same answer (answers.Cut cuts.Died) e in cc)).cause)).registered)
            (λ dropped no_cut. elim (cases_Bool before) [
              | inl already ↦
                  let up = some_same answer answers.Up ((lives (Some answer) step (λ e. subst IsNoCut (some_same answer (answers.Cut cuts.Died) e) no_cut)).at_once.up join already) in
                  let kept : drops answer commands.Join ≡ false = ap (λ (a : Answer). drops a commands.Join) up in
                  absurd cc
              | inr out ↦ out
            ])
            (λ up.
            let cause = subst (IsCause m) up ((lives (Some answer) step (λ e. let e' : answers.Up ≡ answers.Cut cuts.Died = sym up ∙ some_same answer (answers.Cut cuts.Died) e in cc)).cause) in
            let kept : m.now.memory.key ≡ (s.notes host).memory.key =
            ap (λ (x : Option Event). (notes_now w.geometry host step.line.command s.device.state x step.placed (s.notes host)).memory.key) cause.0 in
            elim seated [
              | inl is ↦ ap is_some kept ∙ is
              | inr joining ↦ absurd (true≢false (sym cause.1 ∙ joining.out))
            ]) in
            ap (λ (x : Memory). is_some x.key) (memory ∙ ap (λ (c : Command). memory_after answer c m.now.memory) join) ∙ end
            ∙ sym (after ∙ ap (λ (c : Command). joined_after c answer before) join)
        | inr other ↦
            let kept = call_key m step.made step.placed step.may other refl in
            let old : is_some (s.notes host).memory.key ≡ before = elim seated [
              | inl is ↦ is
              | inr joining ↦ absurd (other (joining_command (Some answer) step joining))
            ] in
            elim (drops_or_keeps step.line.command answer before other step.placing.own) [
              | inl both ↦
                  let none : memory_after answer step.line.command m.now.memory ≡ no_memory = rw both.0 refl in
                  ap (λ (x : Memory). is_some x.key) (memory ∙ none) ∙ sym (after ∙ both.1)
              | inr both ↦
                  let stays : memory_after answer step.line.command m.now.memory ≡ m.now.memory = rw both.0 refl in
                  ap (λ (x : Memory). is_some x.key) (memory ∙ stays) ∙ ap is_some kept ∙ old ∙ sym (after ∙ both.1)
            ]
      ]

  seated_here : (ended : Option Answer) (step : IsStep w host ended s t) → IsSeated w s host → IsSeated w t host
  seated_here None step seated = let made = some_event step.made (step.moves refl) in goes_on step made.0 made.1 seated
  seated_here (Some answer) step seated = inl (ends answer step seated)

  seated_other : (ended : Option Answer) (step : IsStep w host ended s t) (k : ℕ) → k ≢ host → IsSeated w s k → IsSeated w t k
  unfolding is_joined
  seated_other ended step k other seated =
      let notes = notes-other w host s t ended step k other in
      let same : is_joined w.lines t.answers k ≡ is_joined w.lines s.answers k = answers-other w host s t joined_after false k ended step other in
      elim seated [
        | inl is ↦ inl (ap (λ (n : Notes). is_some n.memory.key) notes ∙ is ∙ sym same)
        | inr joining ↦ inr (record {
          position = joining.position;
          line = joining.line;
          at = at-other w host s t ended step k joining.position joining.line other joining.at;
          command = joining.command;
          begun = λ none. joining.begun (sym (ap (λ (n : Notes). n.calls) notes) ∙ none);
          out = same ∙ joining.out;
        })
      ]

  seated_step : (ended : Option Answer) (step : IsStep w host ended s t) → ((k : ℕ) → IsSeated w s k) → (k : ℕ) → IsSeated w t k
  seated_step ended step seated k =
      elim (cases_eq k host) [
        | inl same ↦ subst (IsSeated w t) (sym same) (seated_here ended step (seated host))
        | inr other ↦ seated_other ended step k other (seated k)
      ]

seated_same : (w : Workload) (s t : RunState) (k : ℕ) → t.answers ≡ s.answers → t.phase ≡ s.phase → (t.notes k).memory ≡ (s.notes k).memory
    → (t.notes k).calls ≡ (s.notes k).calls → IsSeated w s k → IsSeated w t k
seated_same w s t k answers phase memory calls seated =
    let same : is_joined w.lines t.answers k ≡ is_joined w.lines s.answers k = ap (λ given. is_joined w.lines given k) answers in
    elim seated [
      | inl is ↦ inl (ap (λ (x : Memory). is_some x.key) memory ∙ is ∙ sym same)
      | inr joining ↦ inr (record {
        position = joining.position;
        line = joining.line;
        at = record { next = rw (answers, phase) joining.at.next; is = joining.at.is };
        command = joining.command;
        begun = λ none. joining.begun (sym calls ∙ none);
        out = same ∙ joining.out;
      })
    ]

seated_supplied : (w : Workload) (host : ℕ) (digest : Digest) (block : Option Block) (s : RunState) (k : ℕ) → IsSeated w s k
    → IsSeated w (supplied host digest block s) k
seated_supplied w host digest None s k seated = seated
seated_supplied w host digest (Some block) s k seated =
    elim (cases_eq k host) [
      | inl same ↦
          let notes = noting-here host k (with_digest digest (s.notes host)) s.notes same in
          let back : s.notes host ≡ s.notes k = ap s.notes (sym same) in
          seated_same w s (supplied host digest (Some block) s) k refl refl
          (ap (λ (n : Notes). n.memory) notes ∙ ap (λ (n : Notes). n.memory) back) (ap (λ (n : Notes). n.calls) notes ∙ ap (λ (n : Notes). n.calls) back) seated
      | inr other ↦
          let notes = noting-other host k (with_digest digest (s.notes host)) s.notes other in
          seated_same w s (supplied host digest (Some block) s) k refl refl (ap (λ (n : Notes). n.memory) notes) (ap (λ (n : Notes). n.calls) notes) seated
    ]

-- where no host has a line left, no host is in a `join`
seated_phase : (w : Workload) (s t : RunState) (k : ℕ) → BeginsPhase w s t → IsSeated w s k → IsSeated w t k
seated_phase w s t k begins (inl is) = subst (λ (u : RunState). IsSeated w u k) (sym begins.phase) (inl is)
seated_phase w s t k begins (inr joining) = let e : Some joining.position ≡ None = sym joining.at.next ∙ begins.idle k in absurd cc

-- each call of a run keeps it
pub seated-call : (w : Workload) (call : RunCall) (s t : RunState) → IsOrderlyState w s → ((k : ℕ) → IsSeated w s k) → IsCall w call s t
    → (k : ℕ) → IsSeated w t k
seated-call w (Turns host Idle) s t o seated is k = subst (λ (u : RunState). IsSeated w u k) (sym is.1) (seated k)
seated-call w (Turns host (Work block)) s t o seated is k = subst (λ (u : RunState). IsSeated w u k) (sym is.1) (seated k)
seated-call w (Turns host Moved) s t o seated is k = seated_step w host s t o None is seated k
seated-call w (Turns host (Answered answer)) s t o seated is k = seated_step w host s t o (Some answer) is seated k
seated-call w (Supplies host digest) s t o seated is k =
    subst (λ (u : RunState). IsSeated w u k) (sym is) (seated_supplied w host digest (awaited w s host) s k (seated k))
seated-call w NextPhase s t o seated is k = seated_phase w s t k is (seated k)

-- before its first answer a host is not joined
out_begun : (lines : List Line) (n host : ℕ) → of_answers joined_after lines (replicate n None) host false ≡ false
out_begun [] n host = refl
out_begun (line ∷ lines) zero host = refl
out_begun (line ∷ lines) (suc n) host = out_begun lines n host

pub seated-begun : (w : Workload) (device : DiskSeen) (k : ℕ) → IsSeated w (opening w device) k
unfolding is_joined
seated-begun w device k = inl (sym (out_begun w.lines (length w.lines) k))

-- a run keeps both
pub seated-run : (w : Workload) (device : DiskSeen) (calls : List RunCall) (t : RunState) → ArePhased w.lines
    → Run w (opening w device) calls t → (k : ℕ) → IsSeated w t k
seated-run w device calls t phased run =
    (run-keeps w (λ (u : RunState). IsOrderlyState w u × ((k : ℕ) → IsSeated w u k))
    (λ call s u both is. (orderly-call w phased call s u both.0 is, seated-call w call s u both.0 both.1 is))
    (opening w device) calls t (orderly-begun w device, seated-begun w device) run).1

-- a host that has made no call of its command yet has a key exactly where it is joined
pub rests-seated : (w : Workload) (s : RunState) (host : ℕ) → IsSeated w s host → (s.notes host).calls ≡ []
    → is_some (s.notes host).memory.key ≡ is_joined w.lines s.answers host
rests-seated w s host (inl is) none = is
rests-seated w s host (inr joining) none = absurd (joining.begun none)
