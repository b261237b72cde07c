-- What a turn in which a host moves leaves of answers and notes.
use Rattle.std.proofs.Common.{◌≡◌, ◌≢◌, ◌⊎◌, ◌++◌, ◌∷◌, ℕ, List, [], Option, Some, None, slice_get, refl, ap, sym, ◌∙◌, subst, inl, inr}
use Rattle.vol_base.specs.declared.answer.Answer.{Answer}
use Rattle.vol_base.specs.declared.command.Command.{Command}
use Rattle.vol_base.specs.declared.command.Command.TheVariants as commands
use Rattle.vol_base.specs.declared.plain.PlainReply.{PlainReply}
use Rattle.vol_layout.specs.declared.geometry.Geometry.{Geometry}
use Rattle.vol_layout.specs.declared.kind.Kind.{Kind}
use Rattle.vol_layout.specs.declared.kind.Kind.TheVariants as kinds
use Rattle.vol_layout.specs.Places.{kind_at}
use Rattle.workload.specs.declared.line.Line.{Line}
use Rattle.workload.specs.declared.line.Workload.{Workload}
use Rattle.shared_disk.specs.Events.{Call, Reply, Done, Gives, Registers, Tests, Writes}
use Rattle.shared_disk.specs.State.{State}
use Rattle.histories.specs.Joined.{of_answers}
use Rattle.host_runs.specs.CallRights.{MayMake}
use Rattle.host_runs.specs.Memories.{Memory, memory_after, with_block, with_reply}
use Rattle.host_runs.specs.Moments.{Moment}
use Rattle.host_runs.specs.Notes.{NotedCall, Notes}
use Rattle.host_runs.specs.laws.Orderly.{IsOrderlyState}
use Rattle.host_runs.specs.Rests.{IsNotedAfter}
use Rattle.host_runs.specs.RunStates.{RunState}
use Rattle.host_runs.specs.Steps.{IsAtLine, IsStep, notes_now}
use Rattle.host_runs.specs.laws.AnswerOrderLaws.{IsLastOf, after-answered, after-other}
use Rattle.host_runs.specs.laws.FitLaws.{noting-here, noting-other}
use Rattle.host_runs.specs.laws.NextLineLaws.{next-at, next-other}
use Rattle.host_runs.specs.lemmas.OrderlyPlaced.{no_answer, one_line}

module _ (w : Workload) (host : ℕ) (s t : RunState) where
  -- the line of a step is its host's, and has no answer
  pub line_host : (ended : Option Answer) (step : IsStep w host ended s t) → step.line.host ≡ host
  line_host ended step =
      let open_line = next-at w.lines s.answers s.phase host step.position step.at.next in
      ap (λ (l : Line). l.host) (one_line w.lines step.position step.line open_line.line step.at.is open_line.is) ∙ open_line.host_is

  pub without_answer : (ended : Option Answer) (step : IsStep w host ended s t) → slice_get s.answers step.position ≡ Some None
  without_answer ended step = (next-at w.lines s.answers s.phase host step.position step.at.next).without

  pub is_last : (ended : Option Answer) (step : IsStep w host ended s t) → IsOrderlyState w s
      → IsLastOf w.lines s.answers host step.position
  is_last ended step o q l lt is of has =
      no_answer s.answers step.position (without_answer ended step)
      (o.in_turn step.position q step.line l lt step.at.is is (line_host ended step ∙ sym of) has)

  -- what the answers of the host make of a value, and those of another host
  pub answers-here : {A : Type 0} (f : Command → Answer → A → A) (before : A) (answer : Answer) (step : IsStep w host (Some answer) s t)
      → IsOrderlyState w s
      → of_answers f w.lines t.answers host before ≡ f step.line.command answer (of_answers f w.lines s.answers host before)
  answers-here f before answer step o =
      ap (λ given. of_answers f w.lines given host before) step.answers_are
      ∙ after-answered f w.lines s.answers host step.position step.line answer before step.at.is (line_host (Some answer) step) (without_answer (Some answer) step)
      (is_last (Some answer) step o)

  pub answers-other : {A : Type 0} (f : Command → Answer → A → A) (before : A) (k : ℕ) (ended : Option Answer) (step : IsStep w host ended s t)
      → k ≢ host
      → of_answers f w.lines t.answers k before ≡ of_answers f w.lines s.answers k before
  answers-other f before k None step other = ap (λ given. of_answers f w.lines given k before) step.answers_are
  answers-other f before k (Some answer) step other =
      ap (λ given. of_answers f w.lines given k before) step.answers_are
      ∙ after-other f w.lines s.answers k step.position step.line answer before step.at.is (λ same. other (sym same ∙ line_host (Some answer) step)) (without_answer (Some answer) step)

  -- the notes of the host, and those of another host
  pub notes-here : (ended : Option Answer) (step : IsStep w host ended s t) → t.notes host ≡ step.later
  notes-here ended step = ap (λ (n : ℕ → Notes). n host) step.notes_are ∙ noting-here host host step.later s.notes refl

  pub notes-other : (ended : Option Answer) (step : IsStep w host ended s t) (k : ℕ) → k ≢ host → t.notes k ≡ s.notes k
  notes-other ended step k other = ap (λ (n : ℕ → Notes). n k) step.notes_are ∙ noting-other host k step.later s.notes other

  -- the line that another host is at
  pub at-other : (ended : Option Answer) (step : IsStep w host ended s t) (k position : ℕ) (line : Line) → k ≢ host
      → IsAtLine w.lines s k position line → IsAtLine w.lines t k position line
  at-other None step k position line other at = record { next = rw (step.answers_are, step.phase_is) at.next; is = at.is }
  at-other (Some answer) step k position line other at =
      let same = next-other w.lines s.answers s.phase k step.position step.line (Some answer) step.at.is (λ e. other (sym e ∙ line_host (Some answer) step)) in
      record { next = rw (step.answers_are, step.phase_is) (same ∙ at.next); is = at.is }

  -- the line that the host is at, where its command goes on
  pub at-still : (step : IsStep w host None s t) → IsAtLine w.lines t host step.position step.line
  at-still step = record { next = rw (step.answers_are, step.phase_is) step.at.next; is = step.at.is }

-- what is noted behind a turn of the memory and the calls
pub memory-still : (m : Moment) (later : Notes) → IsNotedAfter m None later → later.memory ≡ m.now.memory
memory-still m later noted = ap (λ (n : Notes). n.memory) noted.1

pub calls-still : (m : Moment) (later : Notes) → IsNotedAfter m None later → later.calls ≡ m.now.calls
calls-still m later noted = ap (λ (n : Notes). n.calls) noted.1

pub memory-ended : (m : Moment) (answer : Answer) (later : Notes) → IsNotedAfter m (Some answer) later
    → later.memory ≡ memory_after answer m.command m.now.memory
memory-ended m answer later noted = ap (λ (n : Notes). n.memory) noted.rest

pub calls-ended : (m : Moment) (answer : Answer) (later : Notes) → IsNotedAfter m (Some answer) later → later.calls ≡ []
calls-ended m answer later noted = ap (λ (n : Notes). n.calls) noted.rest

-- a call that was made stands among the calls
pub some_call : (xs : List NotedCall) (x : NotedCall) → xs ++ x ∷ [] ≢ []
some_call [] x e = cc
some_call (y ∷ xs) x e = cc

-- the memory with a turn's call
pub memory_now-none : (g : Geometry) (host : ℕ) (command : Command) (before : State) (placed : Option PlainReply) (notes : Notes)
    → (notes_now g host command before None placed notes).memory ≡ notes.memory
memory_now-none g host command before placed notes = refl

pub block_key : (kind : Option Kind) (host own place : ℕ) (block : List ℕ) (memory : Memory)
    → (with_block kind host own place block memory).key ≡ memory.key
block_key (Some (kinds.Lock r)) host own place block memory = refl
block_key (Some (kinds.Slot of)) host own place block memory = refl
block_key kind host own place block memory = refl

-- a registration that was granted
pub record IsRegistered (call : Call) (reply : Reply) (later : Option ℕ) : Type 0 where
  pub of : ℕ
  pub key : ℕ
  pub asked : call ≡ Registers of
  pub given : reply ≡ Gives key
  pub noted : later ≡ Some key

-- a call keeps the key that the host has in mind, or is such a registration
pub key_cases : (g : Geometry) (host own : ℕ) (call : Call) (reply : Reply) (memory : Memory)
    → ((with_reply g host own call reply memory).key ≡ memory.key) ⊎ IsRegistered call reply (with_reply g host own call reply memory).key
key_cases g host own (Writes place block) Done memory = inl (block_key (kind_at g place) host own place block memory)
key_cases g host own (Tests place old new) Done memory = inl (block_key (kind_at g place) host own place new memory)
key_cases g host own (Registers of) (Gives key) memory = inr (record { of = of; key = key; asked = refl; given = refl; noted = refl })
key_cases g host own call reply memory = inl refl

-- a registration is a call of a `join`
pub registers_to_join : (m : Moment) (key : ℕ) (call : Call) (of : ℕ) → MayMake m key call → call ≡ Registers of → m.command ≡ commands.Join
registers_to_join m key call of may is = (subst (λ (c : Call). MayMake m key c) is may).0
