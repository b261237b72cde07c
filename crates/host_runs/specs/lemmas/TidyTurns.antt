-- One turn of a tidy run: what is known of its host, its call, and its answer.
use Rattle.std.proofs.Common.{◌≡◌, ◌≢◌, ◌<◌, ◌⊎◌, ◌∷◌, ℕ, suc, Bool, true, false, true≢false, List, [], Option, Some, None, is_some, refl, ap, sym, ◌∙◌, subst, inl, inr}
use Rattle.std.specs.Prelude.{Contains, IfSome, if◌then◌else◌}
use Rattle.vol_base.specs.Faults.{Rose}
use Rattle.vol_base.specs.declared.answer.Answer.{Answer}
use Rattle.vol_base.specs.declared.answer.Answer.TheVariants as answers
use Rattle.vol_base.specs.declared.answer.CutBy.{CutBy}
use Rattle.vol_base.specs.declared.answer.CutBy.TheVariants as cuts
use Rattle.vol_base.specs.declared.command.Command.{Command}
use Rattle.vol_base.specs.declared.command.Command.TheVariants as commands
use Rattle.workload.specs.declared.line.Line.{Line}
use Rattle.workload.specs.declared.line.Workload.{Workload}
use Rattle.shared_disk.specs.Events.{Call, Changes, Event, Fences, IsShutOut, IsSpent, Reads, Refuses, Registers, Reply, Tests, Writes}
use Rattle.shared_disk.specs.Seen.{DiskSeen}
use Rattle.shared_disk.specs.State.{State}
use Rattle.shared_disk.specs.declared.answers.DiskNo.{DiskNo}
use Rattle.shared_disk.specs.declared.answers.DiskNo.TheVariants as refusals
use Rattle.image_view.specs.HostKeys.{slot_state_at}
use Rattle.histories.specs.Joined.{death_after, of_answers, standing_death}
use Rattle.histories.specs.Lines.{IsLine}
use Rattle.host_runs.specs.CallRights.{MayCall, MayMake}
use Rattle.host_runs.specs.Causes.{IsCause, IsCutBy, IsOwnCause}
use Rattle.host_runs.specs.DeviceCalls.{ActsOnce, HasDone, IsRefused, OnImage}
use Rattle.host_runs.specs.Memories.{Memory, drops, no_memory, remembered, with_reply}
use Rattle.host_runs.specs.Moments.{Moment}
use Rattle.host_runs.specs.RunStates.{RunState}
use Rattle.host_runs.specs.Steps.{IsEnding, IsStep, moment_of, notes_now}
use Rattle.host_runs.specs.Tidy.{IsLiving, IsTidyWork, IsUnstopped}
use Rattle.host_runs.specs.lemmas.TidyStates.{IsOnDisk, IsTidyState, memories_of}
use Rattle.host_runs.specs.TurnFacts.{Marks}
use Rattle.host_runs.specs.lemmas.TidyDisk.{disk-called, disk_same, none_some}
use Rattle.host_runs.specs.lemmas.TidyEnds.{disk-dropped, disk-left}
use Rattle.host_runs.specs.lemmas.TidyFits.{FitTries, OthersRest, tries_fit}
use Rattle.host_runs.specs.lemmas.TidyUses.{line_of, others_idle, used_alone}
use Rattle.host_runs.specs.lemmas.TidyWords.{IsSameBut}

-- where no line dies, no death stands
no_death : (lines : List Line) (given : List (Option Answer)) (host : ℕ) → ((p : ℕ) (l : Line) → IsLine lines p l → IsLiving l.command)
    → of_answers death_after lines given host None ≡ None
no_death [] given host living = refl
no_death (line ∷ lines) [] host living = refl
no_death (line ∷ lines) (None ∷ given) host living = no_death lines given host (λ p l is. living (suc p) l is)
no_death (line ∷ lines) (Some answer ∷ given) host living =
    let stays : (b : Bool) → (if b then death_after line.command answer None else None) ≡ None = λ b. chosen b (keeps line.command answer (living 0 line refl)) in
    ap (of_answers death_after lines given host) (stays _) ∙ no_death lines given host (λ p l is. living (suc p) l is)
  where
    keeps : (command : Command) (answer : Answer) → IsLiving command → death_after command answer None ≡ None
    keeps command (answers.Cut by) alive = refl
    keeps (commands.Die n) answer alive = absurd alive
    keeps command answers.Fine alive = refl
    keeps command answer alive = refl

    chosen : {X : Type 0} (b : Bool) {o : Option X} → o ≡ None → (if b then o else None) ≡ None
    chosen true e = e
    chosen false e = refl

-- the key under which a call is made
pub key_of_call : (m : Moment) (key : ℕ) (call : Call) → MayMake m key call → ((of : ℕ) → call ≡ Registers of → ⊥)
    → m.old.memory.key ≡ Some key
key_of_call m key (Registers of) may other = absurd (other of refl)
key_of_call m key (Reads place) may other = may.0
key_of_call m key (Writes place block) may other = may.0
key_of_call m key (Tests place old new) may other = may.0
key_of_call m key (Fences target) may other = may.0

-- a registration is made by a host without a key
keyless_call : (m : Moment) (key : ℕ) (call : Call) (of : ℕ) → MayMake m key call → call ≡ Registers of
    → (m.command ≡ commands.Join) × (m.old.memory.key ≡ None)
keyless_call m key call of may is = let right = subst (λ (c : Call). MayMake m key c) is may in (right.0, right.2)

-- a call under a registered key is not shut out
admitted : (call : Call) (key : ℕ) (s : State) → (((of : ℕ) → call ≡ Registers of → ⊥) → Contains s.keys key) → IsShutOut key call s → ⊥
admitted (Registers of) key s has shut = shut
admitted (Reads place) key s has shut = shut (has (λ of e. cc))
admitted (Writes place block) key s has shut = shut (has (λ of e. cc))
admitted (Tests place old new) key s has shut = shut (has (λ of e. cc))
admitted (Fences target) key s has shut = shut (has (λ of e. cc))

refused_same : (call : Call) (cause : DiskNo) (s t : State) → Changes call (Refuses cause) s t → t ≡ s
refused_same (Registers of) cause s t h = h
refused_same (Reads place) cause s t h = h
refused_same (Writes place block) cause s t h = h
refused_same (Tests place old new) cause s t h = h
refused_same (Fences target) cause s t h = h

-- a call that met no key left is a registration
spent : (call : Call) (s : State) → IsSpent call s → (of : ℕ) × (call ≡ Registers of)
spent (Registers of) s is = (of, refl)
spent (Reads place) s is = absurd is
spent (Writes place block) s is = absurd is
spent (Tests place old new) s is = absurd is
spent (Fences target) s is = absurd is

-- an answer that drops a host which was not stopped: the `ok` of a `leave`, or the refusal of a `join`
dropped_by : (answer : Answer) (command : Command) → IsUnstopped answer → IsLiving command → drops answer command ≡ true
    → ((answer ≡ answers.Fine) × (command ≡ commands.Leave)) ⊎ ((answer ≡ answers.NoKeys) × (command ≡ commands.Join))
dropped_by (answers.Cut by) command unstopped living is = absurd unstopped
dropped_by (answers.Busy key) command unstopped living is = absurd unstopped
dropped_by answers.Fine commands.Leave unstopped living is = inl (refl, refl)
dropped_by answers.Fine (commands.Die n) unstopped living is = absurd living
dropped_by answers.Fine command unstopped living is = absurd cc
dropped_by answers.NoKeys commands.Join unstopped living is = inr (refl, refl)
dropped_by answers.NoKeys command unstopped living is = absurd cc
dropped_by answer command unstopped living is = absurd cc

module _ (w : Workload) (host : ℕ) (ended : Option Answer) (s t : RunState) (work : IsTidyWork w.lines) (tidy : IsTidyState w s) (step : IsStep w host ended s t)
    (no_fault : Rose s.device.faults t.device.faults → ⊥) where
  abbrev pub moment : Moment
  moment = moment_of w host step.line.command step.made step.placed s t.device.state

  pub living : IsLiving step.line.command
  living = work.tidy.living step.position step.line step.at.is

  pub host_line : step.line.host ≡ host
  host_line = line_of w s work tidy.orderly host step.position step.line step.at.next step.at.is

  small : host < 16
  small = subst (λ (h : ℕ). h < 16) host_line (work.hosts step.position step.line step.at.is)

  pub lives : IsEnding moment ended
  unfolding standing_death
  lives = step.ending (λ death. none_some death.1 (no_death w.lines s.answers host (λ p l is. work.tidy.living p l is)))

  pub resting : (k : ℕ) → k ≢ host → (s.notes k).calls ≡ []
  resting k other = tidy.idle k (others_idle w s work tidy.orderly host step.position step.line step.at.next step.at.is k other)

  pub others : OthersRest w.geometry host step.line.command (memories_of s.notes)
  others = record {
    files = λ k other. tidy.rests k (resting k other);
    stay = λ k other. tidy.stays k (resting k other);
    holds = λ k f other uses has. used_alone w s work tidy.orderly host step.position step.line step.at.next step.at.is k f other uses (tidy.holds k f has);
    reads = λ k f other uses has. used_alone w s work tidy.orderly host step.position step.line step.at.next step.at.is k f other uses (tidy.reads k f has);
  }

  pub fit_before : FitTries w.geometry host step.line.command (memories_of s.notes) s.device.state (s.notes host).tries
  fit_before = record {
    shown = tidy.shown host;
    counted = tidy.counted host step.position step.line step.at;
    found = λ f word. tidy.found host step.position f step.line word step.at;
    alone = λ f word. tidy.alone host step.position f step.line word step.at;
  }

  fit_made : (made : Option Event) → ActsOnce made s.device t.device
      → MayCall (moment_of w host step.line.command made step.placed s t.device.state) made
      → Marks (moment_of w host step.line.command made step.placed s t.device.state)
      → FitTries w.geometry host step.line.command (memories_of s.notes) t.device.state (notes_now w.geometry host step.line.command s.device.state made step.placed (s.notes host)).tries
  fit_made None acts may marks =
      subst (λ (d : DiskSeen). FitTries w.geometry host step.line.command (memories_of s.notes) d.state (s.notes host).tries) (sym acts) fit_before
  fit_made (Some e) acts may marks =
      let m = moment_of w host step.line.command (Some e) step.placed s t.device.state in
      tries_fit m e.key (memories_of s.notes) s.device.state t.device.state living tidy.disk tidy.valid others fit_before e.call e.reply
      (key_of_call m e.key e.call may) marks acts.0.changes

  -- the tries with the call of the turn
  pub fit_now : FitTries w.geometry host step.line.command (memories_of s.notes) t.device.state moment.now.tries
  fit_now = fit_made step.made step.acts step.may step.marks

  pub cause_of : (answer : Answer) → ended ≡ Some answer → IsCause moment answer
  cause_of answer is = subst (λ (o : Option Answer). IfSome o (IsCause moment)) is lives.cause

  not_fenced : (made : Option Event) → ActsOnce made s.device t.device
      → MayCall (moment_of w host step.line.command made step.placed s t.device.state) made
      → IsRefused refusals.Fenced made → ⊥
  not_fenced None acts may refused = absurd refused
  not_fenced (Some e) acts may refused =
      let m = moment_of w host step.line.command (Some e) step.placed s t.device.state in
      admitted e.call e.key s.device.state (λ other. tidy.disk.registered host e.key (key_of_call m e.key e.call may other)) (acts.0.fenced.0 refused)

  not_failed : (made : Option Event) → ActsOnce made s.device t.device → IsRefused refusals.Failed made → ⊥
  not_failed None acts refused = absurd refused
  not_failed (Some e) acts refused = no_fault (acts.0.failed refused)

  not_cut : (by : CutBy) → IsCutBy moment by → ⊥
  not_cut cuts.Fenced is = not_fenced step.made step.acts step.may is
  not_cut cuts.Fault is = not_failed step.made step.acts is
  not_cut cuts.Died is = is
  not_cut (cuts.Bad place) is = let none = ap is_some is.0 in absurd (true≢false (sym tidy.disk.told ∙ none))

  pub unstopped_now : (answer : Answer) → ended ≡ Some answer → IsUnstopped answer
  unstopped_now (answers.Busy key) is = none_some (cause_of (answers.Busy key) is) fit_now.shown
  unstopped_now (answers.Cut by) is = not_cut by (cause_of (answers.Cut by) is)
  unstopped_now answer is = tt

  -- the disk, where the host keeps what it has in mind
  stays_made : (made : Option Event) → ActsOnce made s.device t.device
      → MayCall (moment_of w host step.line.command made step.placed s t.device.state) made
      → Marks (moment_of w host step.line.command made step.placed s t.device.state) → (later : ℕ → Memory)
      → IsSameBut host later (memories_of s.notes)
      → later host ≡ (notes_now w.geometry host step.line.command s.device.state made step.placed (s.notes host)).memory
      → ((target : ℕ) → step.line.command ≡ commands.Leave → HasDone (Fences target) made → ⊥) → IsOnDisk w.geometry t.device.state later
  stays_made None acts may marks later same here no_leave =
      disk_same w.geometry host (memories_of s.notes) later same s.device.state t.device.state tidy.disk (ap (λ (d : DiskSeen). d.state) acts) here
  stays_made (Some e) acts may marks later same here no_leave =
      let m = moment_of w host step.line.command (Some e) step.placed s t.device.state in
      disk-called m e s.device.state t.device.state (memories_of s.notes) later living small tidy.disk tidy.valid refl may marks acts.0.changes
      (λ target leave call done. no_leave target leave (call, done)) here same

  pub disk_stays : (later : ℕ → Memory) → IsSameBut host later (memories_of s.notes) → later host ≡ moment.now.memory
      → ((target : ℕ) → step.line.command ≡ commands.Leave → HasDone (Fences target) step.made → ⊥)
      → IsOnDisk w.geometry t.device.state later
  disk_stays later same here no_leave = stays_made step.made step.acts step.may step.marks later same here no_leave

  -- the disk, where the host is dropped
  left_made : (made : Option Event) (own : ℕ) → ActsOnce made s.device t.device → (s.notes host).memory.key ≡ Some own
      → HasDone (Fences own) made
      → (notes_now w.geometry host step.line.command s.device.state made step.placed (s.notes host)).memory.holds ≡ []
      → OnImage t.device.state (λ image. slot_state_at w.geometry image host ≡ 0) → (later : ℕ → Memory)
      → IsSameBut host later (memories_of s.notes) → later host ≡ no_memory
      → IsOnDisk w.geometry t.device.state later
  left_made None own acts key done holds slot later same here = absurd done
  left_made (Some e) own acts key done holds slot later same here =
      let kept : (remembered w.geometry host e (s.notes host).memory).holds ≡ (s.notes host).memory.holds =
      ap (λ (c : Call). (with_reply w.geometry host e.key c e.reply (s.notes host).memory).holds) done.0 in
      let fenced = subst (λ (r : Reply). Changes (Fences own) r s.device.state t.device.state) done.1
      (subst (λ (c : Call). Changes c e.reply s.device.state t.device.state) done.0 acts.0.changes) in
      disk-left w.geometry host own s.device.state t.device.state (memories_of s.notes) later tidy.disk key (sym kept ∙ holds) slot fenced here same

  refused_made : (made : Option Event) → ActsOnce made s.device t.device
      → MayCall (moment_of w host step.line.command made step.placed s t.device.state) made
      → IsRefused refusals.NoKeys made → (later : ℕ → Memory) → IsSameBut host later (memories_of s.notes) → later host ≡ no_memory
      → IsOnDisk w.geometry t.device.state later
  refused_made None acts may refused later same here = absurd refused
  refused_made (Some e) acts may refused later same here =
      let m = moment_of w host step.line.command (Some e) step.placed s t.device.state in
      let register = spent e.call s.device.state (acts.0.no_keys.0 refused) in
      let keyless = keyless_call m e.key e.call register.0 may register.1 in
      let stays = refused_same e.call refusals.NoKeys s.device.state t.device.state (subst (λ (r : Reply). Changes e.call r s.device.state t.device.state) refused acts.0.changes) in
      subst (λ (u : State). IsOnDisk w.geometry u later) (sym stays)
      (disk-dropped w.geometry host s.device.state (memories_of s.notes) later tidy.disk keyless.1 here same)

  pub disk_drops : (answer : Answer) → ended ≡ Some answer → drops answer step.line.command ≡ true → (later : ℕ → Memory)
      → IsSameBut host later (memories_of s.notes)
      → later host ≡ no_memory → IsOnDisk w.geometry t.device.state later
  disk_drops answer is dropped later same here =
      elim (dropped_by answer step.line.command (unstopped_now answer is) living dropped) [
        | inl leaves ↦
            let fine : ended ≡ Some answers.Fine = is ∙ ap (λ (a : Answer). Some a) leaves.0 in
            let cause = subst (λ (c : Command). IsOwnCause moment c answers.Fine) leaves.1 (cause_of answers.Fine fine) in
            let left = lives.facts.left leaves.1 fine in
            left_made step.made cause.0 step.acts cause.1 cause.2 left.holds left.slot later same here
        | inr refused ↦
            let no_keys : ended ≡ Some answers.NoKeys = is ∙ ap (λ (a : Answer). Some a) refused.0 in
            refused_made step.made step.acts step.may (cause_of answers.NoKeys no_keys) later same here
      ]
