-- The counter of a device rises at most once a line: only a `join` registers a key, and only while its host has none in mind.
use Rattle.std.proofs.Common.{◌≡◌, ◌≢◌, ◌≤◌, ◌<◌, ◌+◌, ◌⊎◌, ℕ, zero, suc, Bool, true, false, List, [], ◌∷◌, Option, Some, None, filter, length, replicate, slice_get, slice_set, refl, ap, sym, ◌∙◌, subst, inl, inr, arith}
use Rattle.std.proofs.lemmas.Bool.{cases_eq}
use Rattle.std.proofs.lemmas.List.{length-replicate, length-set}
use Rattle.std.proofs.lemmas.Option.{slice_get_within}
use Rattle.vol_base.specs.declared.answer.Answer.{Answer}
use Rattle.vol_base.specs.declared.answer.Turn.TheVariants.{Answered, Idle, Moved, Work}
use Rattle.vol_base.specs.declared.block.Block.{Block}
use Rattle.vol_base.specs.declared.block.Digest.{Digest}
use Rattle.vol_base.specs.declared.command.Command.{Command}
use Rattle.vol_base.specs.declared.plain.PlainReply.{PlainReply}
use Rattle.vol_layout.specs.declared.geometry.Geometry.{Geometry}
use Rattle.workload.specs.declared.line.Line.{Line}
use Rattle.workload.specs.declared.line.Workload.{Workload}
use Rattle.shared_disk.specs.Events.{Call, Event, Reply, Gives, Registers}
use Rattle.shared_disk.specs.Seen.{DiskSeen}
use Rattle.shared_disk.specs.State.{State}
use Rattle.host_runs.specs.Awaited.{awaited}
use Rattle.host_runs.specs.CallRights.{MayCall, MayMake}
use Rattle.host_runs.specs.DeviceCalls.{ActsOnce}
use Rattle.host_runs.specs.Memories.{Memory, with_reply}
use Rattle.host_runs.specs.NextLines.{next_line}
use Rattle.host_runs.specs.Notes.{Notes, noting, with_digest}
use Rattle.host_runs.specs.RunStates.{RunState, opening}
use Rattle.host_runs.specs.Runs.{AreIdle, IsCall, NextPhase, Run, RunCall, Supplies, Turns, supplied}
use Rattle.host_runs.specs.Steps.{IsAtLine, IsStep, moment_of, notes_now}
use Rattle.host_runs.specs.laws.FitLaws.{noting-here, noting-other}
use Rattle.host_runs.specs.laws.GetLaws.{get_set, get_set-other, get_set-same}
use Rattle.host_runs.specs.laws.NextLineLaws.{next-at}
use Rattle.host_runs.specs.laws.Orderly.{HasAnswer}
use Rattle.host_runs.specs.laws.RunLaws.{run-keeps}
use Rattle.host_runs.specs.lemmas.CalledLaws.{counter_cases}
use Rattle.host_runs.specs.lemmas.OrderlyPlaced.{no_answer, one_line, some_same}
use Rattle.host_runs.specs.lemmas.StepLaws.{at-other, at-still, key_cases, line_host, memory-still, notes-here, notes-other, without_answer}

-- how many lines are marked
abbrev marked : List Bool → ℕ
marked lines = length (filter (λ line. line) lines)

marked_most : (lines : List Bool) → marked lines ≤ length lines
marked_most [] = omega arith
marked_most (true ∷ lines) = let rest = marked_most lines in omega (arith, rest)
marked_most (false ∷ lines) = let rest = marked_most lines in omega (arith, rest)

marked_more : (lines : List Bool) (p : ℕ) → slice_get lines p ≡ Some false → marked (slice_set lines p true) ≡ marked lines + 1
marked_more [] p is = absurd cc
marked_more (true ∷ lines) zero is = absurd cc
marked_more (false ∷ lines) zero is = omega arith
marked_more (true ∷ lines) (suc p) is = let rest = marked_more lines p is in omega (arith, rest)
marked_more (false ∷ lines) (suc p) is = marked_more lines p is

marked_none : (n : ℕ) → marked (replicate n false) ≡ 0
marked_none zero = refl
marked_none (suc n) = marked_none n

none_marked : (n p : ℕ) → slice_get (replicate n false) p ≡ Some true → ⊥
none_marked zero p is = absurd cc
none_marked (suc n) zero is = absurd cc
none_marked (suc n) (suc p) is = none_marked n p is

marked_or_not : (lines : List Bool) (p : ℕ) → p < length lines → (slice_get lines p ≡ Some true) ⊎ (slice_get lines p ≡ Some false)
marked_or_not [] p lt = absurd (omega (arith, lt))
marked_or_not (true ∷ lines) zero lt = inl refl
marked_or_not (false ∷ lines) zero lt = inr refl
marked_or_not (line ∷ lines) (suc p) lt = marked_or_not lines p (omega (arith, lt))

-- the host that is at a position has a key in mind
record IsKeyedAt (w : Workload) (s : RunState) (p : ℕ) : Type 0 where
  host : ℕ
  line : Line
  at : IsAtLine w.lines s host p line
  key : ℕ
  has : (s.notes host).memory.key ≡ Some key

-- a line behind whose registration nothing can be registered for it again
abbrev IsPast : Workload → RunState → ℕ → Type 0
IsPast w s p = HasAnswer s.answers p ⊎ IsKeyedAt w s p

-- the lines in which a key was registered since the counter stood at a number
record HasRegistered (w : Workload) (first : ℕ) (s : RunState) : Type 0 where
  lines : List Bool
  long : length lines ≡ length w.lines
  counts : s.device.state.counter ≡ first + marked lines
  past : (p : ℕ) → slice_get lines p ≡ Some true → IsPast w s p

-- a key in mind stays there or is replaced, and a registration puts one there
key_now : (g : Geometry) (host : ℕ) (command : Command) (before : State) (made : Option Event) (placed : Option PlainReply) (notes : Notes) (key : ℕ)
    → notes.memory.key ≡ Some key
    → (now : ℕ) × ((notes_now g host command before made placed notes).memory.key ≡ Some now)
key_now g host command before None placed notes key has = (key, has)
key_now g host command before (Some e) placed notes key has =
    elim (key_cases g host e.key e.call e.reply notes.memory) [
      | inl kept ↦ (key, kept ∙ has)
      | inr new ↦ (new.key, new.noted)
    ]

key_given : (g : Geometry) (host own : ℕ) (call : Call) (reply : Reply) (memory : Memory) (of key : ℕ) → call ≡ Registers of → reply ≡ Gives key
    → (with_reply g host own call reply memory).key ≡ Some key
key_given g host own call reply memory of key asked given = rw (asked, given) refl

module _ (w : Workload) (host : ℕ) (s t : RunState) where
  -- behind a turn that leaves a key in mind
  past_here : (ended : Option Answer) (step : IsStep w host ended s t) (key : ℕ)
      → (notes_now w.geometry host step.line.command s.device.state step.made step.placed (s.notes host)).memory.key ≡ Some key
      → IsPast w t step.position
  past_here None step key has =
      let m = moment_of w host step.line.command step.made step.placed s t.device.state in
      inr (record {
        host = host;
        line = step.line;
        at = at-still w host s t step;
        key = key;
        has = ap (λ (n : Notes). n.memory.key) (notes-here w host s t None step) ∙ ap (λ (x : Memory). x.key) (memory-still m step.later step.noted) ∙ has;
      })
  past_here (Some answer) step key has =
      let open_line = without_answer w host s t (Some answer) step in
      inl (
        answer,
        ap (λ (xs : List (Option Answer)). slice_get xs step.position) step.answers_are
            ∙ get_set-same s.answers step.position (Some answer) (slice_get_within s.answers step.position None open_line),
      )

  answered_still : (ended : Option Answer) (step : IsStep w host ended s t) (q : ℕ) → HasAnswer s.answers q → HasAnswer t.answers q
  answered_still None step q has = subst (λ (xs : List (Option Answer)). HasAnswer xs q) (sym step.answers_are) has
  answered_still (Some answer) step q has =
      let other : q ≢ step.position =
      λ same. no_answer s.answers step.position (without_answer w host s t (Some answer) step) (subst (HasAnswer s.answers) same has) in (
        has.0,
        ap (λ (xs : List (Option Answer)). slice_get xs q) step.answers_are ∙ get_set-other s.answers step.position q (Some answer) other ∙ has.1,
      )

  past_still : (ended : Option Answer) (step : IsStep w host ended s t) (q : ℕ) → IsPast w s q → IsPast w t q
  past_still ended step q (inl has) = inl (answered_still ended step q has)
  past_still ended step q (inr keyed) =
      elim (cases_eq keyed.host host) [
        | inl same ↦
            let here = ap (λ (h : ℕ). next_line w.lines s.answers s.phase h) (sym same) in
            let position : q ≡ step.position = some_same q step.position (sym keyed.at.next ∙ sym here ∙ step.at.next) in
            let now = key_now w.geometry host step.line.command s.device.state step.made step.placed (s.notes host) keyed.key
            (ap (λ (h : ℕ). (s.notes h).memory.key) (sym same) ∙ keyed.has) in
            subst (IsPast w t) (sym position) (past_here ended step now.0 now.1)
        | inr other ↦
            inr (record {
              host = keyed.host;
              line = keyed.line;
              at = at-other w host s t ended step keyed.host q keyed.line other keyed.at;
              key = keyed.key;
              has = ap (λ (n : Notes). n.memory.key) (notes-other w host s t ended step keyed.host other) ∙ keyed.has;
            })
      ]

  -- the line of a host without a key is no such line
  not_past : (ended : Option Answer) (step : IsStep w host ended s t) → (s.notes host).memory.key ≡ None → IsPast w s step.position → ⊥
  not_past ended step out (inl has) = no_answer s.answers step.position (without_answer w host s t ended step) has
  not_past ended step out (inr keyed) =
      let open_line = next-at w.lines s.answers s.phase keyed.host step.position keyed.at.next in
      let line = one_line w.lines step.position open_line.line step.line open_line.is step.at.is in
      let of : keyed.host ≡ host = sym open_line.host_is ∙ ap (λ (l : Line). l.host) line ∙ line_host w host s t ended step in
      let e : Some keyed.key ≡ None = sym keyed.has ∙ ap (λ (h : ℕ). (s.notes h).memory.key) of ∙ out in
      absurd cc

  registered_kept : (first : ℕ) (ended : Option Answer) (step : IsStep w host ended s t) → t.device.state.counter ≡ s.device.state.counter
      → HasRegistered w first s → HasRegistered w first t
  registered_kept first ended step same all = record {
    lines = all.lines;
    long = all.long;
    counts = same ∙ all.counts;
    past = λ p is. past_still ended step p (all.past p is);
  }

  registered_more : (first : ℕ) (ended : Option Answer) (step : IsStep w host ended s t) (key : ℕ)
      → t.device.state.counter ≡ s.device.state.counter + 1 → (s.notes host).memory.key ≡ None
      → (notes_now w.geometry host step.line.command s.device.state step.made step.placed (s.notes host)).memory.key ≡ Some key
      → HasRegistered w first s → HasRegistered w first t
  registered_more first ended step key risen out has all =
      let within = slice_get_within w.lines step.position step.line step.at.is in
      let long = all.long in
      elim (marked_or_not all.lines step.position (omega (arith, within, long))) [
        | inl is ↦ absurd (not_past ended step out (all.past step.position is))
        | inr is ↦
            record {
              lines = slice_set all.lines step.position true;
              long = length-set all.lines step.position true ∙ all.long;
              counts = let more = marked_more all.lines step.position is in let before = all.counts in omega (arith, risen, more, before);
              past = λ p later.
                  elim (get_set all.lines step.position p true true later) [
                    | inl old ↦ past_still ended step p (all.past p old.1)
                    | inr new ↦ subst (IsPast w t) (sym new.0) (past_here ended step key has)
                  ];
            }
      ]

  registered_step : (first : ℕ) (ended : Option Answer) (step : IsStep w host ended s t) (made : Option Event) → step.made ≡ made
      → ActsOnce made s.device t.device → MayCall (moment_of w host step.line.command made step.placed s t.device.state) made
      → HasRegistered w first s → HasRegistered w first t
  registered_step first ended step None is acts may all = registered_kept first ended step (ap (λ (d : DiskSeen). d.state.counter) acts) all
  registered_step first ended step (Some e) is acts may all =
      let m = moment_of w host step.line.command (Some e) step.placed s t.device.state in
      elim (counter_cases e.call e.reply s.device.state t.device.state acts.0.changes) [
        | inl same ↦ registered_kept first ended step same all
        | inr raised ↦
            let right = subst (λ (c : Call). MayMake m e.key c) raised.asked may in
            let given = key_given w.geometry host e.key e.call e.reply (s.notes host).memory raised.of raised.key raised.asked raised.given in
            let now = ap (λ (x : Option Event). (notes_now w.geometry host step.line.command s.device.state x step.placed (s.notes host)).memory.key) is in
            registered_more first ended step raised.key raised.by right.2 (now ∙ given) all
      ]

-- notes that keep the memory of each host
keyed_noted : (w : Workload) (s : RunState) (notes : ℕ → Notes) → ((k : ℕ) → (notes k).memory ≡ (s.notes k).memory) → (p : ℕ) → IsPast w s p
    → IsPast w (record s { notes = notes }) p
keyed_noted w s notes memory p (inl has) = inl has
keyed_noted w s notes memory p (inr keyed) =
    inr (record {
      host = keyed.host;
      line = keyed.line;
      at = record { next = keyed.at.next; is = keyed.at.is };
      key = keyed.key;
      has = ap (λ (x : Memory). x.key) (memory keyed.host) ∙ keyed.has;
    })

supplied_memory : (host k : ℕ) (digest : Digest) (s : RunState)
    → (noting host (with_digest digest (s.notes host)) s.notes k).memory ≡ (s.notes k).memory
supplied_memory host k digest s =
    elim (cases_eq k host) [
      | inl same ↦
          ap (λ (n : Notes). n.memory) (noting-here host k (with_digest digest (s.notes host)) s.notes same)
          ∙ ap (λ (h : ℕ). (s.notes h).memory) (sym same)
      | inr other ↦ ap (λ (n : Notes). n.memory) (noting-other host k (with_digest digest (s.notes host)) s.notes other)
    ]

registered_supplied : (w : Workload) (first host : ℕ) (digest : Digest) (block : Option Block) (s : RunState) → HasRegistered w first s
    → HasRegistered w first (supplied host digest block s)
registered_supplied w first host digest None s all = all
registered_supplied w first host digest (Some block) s all = record {
  lines = all.lines;
  long = all.long;
  counts = all.counts;
  past = λ p is.
      keyed_noted w s (noting host (with_digest digest (s.notes host)) s.notes) (λ k. supplied_memory host k digest s) p (all.past p is);
}

-- in the next phase each such line has an answer
past_phase : (w : Workload) (s : RunState) → AreIdle w s → (p : ℕ) → IsPast w s p → IsPast w (record s { phase = s.phase + 1 }) p
past_phase w s idle p (inl has) = inl has
past_phase w s idle p (inr keyed) = let e : Some p ≡ None = sym keyed.at.next ∙ idle keyed.host in absurd cc

registered_phase : (w : Workload) (first : ℕ) (s : RunState) → AreIdle w s → HasRegistered w first s
    → HasRegistered w first (record s { phase = s.phase + 1 })
registered_phase w first s idle all = record {
  lines = all.lines;
  long = all.long;
  counts = all.counts;
  past = λ p is. past_phase w s idle p (all.past p is);
}

registered_call : (w : Workload) (first : ℕ) (call : RunCall) (s t : RunState) → HasRegistered w first s → IsCall w call s t
    → HasRegistered w first t
registered_call w first (Turns host Idle) s t all is = subst (HasRegistered w first) (sym is.1) all
registered_call w first (Turns host (Work block)) s t all is = subst (HasRegistered w first) (sym is.1) all
registered_call w first (Turns host Moved) s t all is = registered_step w host s t first None is is.made refl is.acts is.may all
registered_call w first (Turns host (Answered answer)) s t all is =
    registered_step w host s t first (Some answer) is is.made refl is.acts is.may all
registered_call w first (Supplies host digest) s t all is =
    subst (HasRegistered w first) (sym is) (registered_supplied w first host digest (awaited w s host) s all)
registered_call w first NextPhase s t all is = subst (HasRegistered w first) (sym is.phase) (registered_phase w first s is.idle all)

registered_begun : (w : Workload) (device : DiskSeen) → HasRegistered w device.state.counter (opening w device)
registered_begun w device = record {
  lines = replicate (length w.lines) false;
  long = length-replicate (length w.lines) false;
  counts = let none = marked_none (length w.lines) in omega (arith, none);
  past = λ p is. absurd (none_marked (length w.lines) p is);
}

-- in each run the counter rises at most once a line
pub counter-run : (w : Workload) (device : DiskSeen) (calls : List RunCall) (t : RunState) → Run w (opening w device) calls t
    → t.device.state.counter ≤ device.state.counter + length w.lines
counter-run w device calls t run =
    let first = device.state.counter in
    let all = run-keeps w (HasRegistered w first) (registered_call w first) (opening w device) calls t (registered_begun w device) run in
    let most = marked_most all.lines in
    let counts = all.counts in
    let long = all.long in
    omega (arith, most, counts, long)
