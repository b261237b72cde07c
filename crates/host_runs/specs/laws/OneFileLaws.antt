-- A run by hand: two hosts on one file, over a device that tells nothing of its content. On a volume of two hosts the workload is
-- `0 join`, `1 join`, `0 create 0`, `1 read 0 0`, positions 0 to 3. Both hosts join, by two turns each; host 0 takes the lock of
-- file 0; host 1 tries to read the file, finds the lock held, and is answered `busy` with the key of host 0; host 0 writes the
-- table of the file, in which its `create` has its place, and is answered. Shown are each turn, with the state behind it, the
-- run of all seven, and its answers, history, events and holds at the end. The turns that read the table, and write and empty the
-- journal, are left out, which a device that tells nothing allows.
use Rattle.std.proofs.Common.{◌≡◌, ◌≢◌, ◌∷◌, ℕ, zero, suc, true, false, List, [], Some, None, refl, ap, sym, ◌∙◌, subst, inl, arith, set, slice_index}
use Rattle.std.specs.Prelude.{Contains}
use Rattle.vol_base.specs.declared.answer.Answer.{Answer}
use Rattle.vol_base.specs.declared.answer.Answer.TheVariants as answers
use Rattle.vol_base.specs.declared.answer.Turn.TheVariants as turns
use Rattle.vol_base.specs.declared.block.Key.{Key}
use Rattle.vol_base.specs.declared.command.Command.TheVariants as commands
use Rattle.vol_base.specs.declared.plain.PlainReply.TheVariants as replies
use Rattle.vol_layout.specs.declared.kind.Kind.TheVariants as kinds
use Rattle.vol_layout.specs.declared.kind.Resource.TheVariants as resources
use Rattle.vol_layout.specs.declared.kind.Table.TheVariants as tables
use Rattle.vol_layout.specs.Places.{kind_at}
use Rattle.vol_layout.specs.Regions.{regions}
use Rattle.slot_lock_blocks.specs.LockWords.{lock_bytes}
use Rattle.slot_lock_blocks.specs.declared.lock.LockWord.TheVariants as words
use Rattle.slot_lock_blocks.specs.laws.LockLaws.{LockNumbers, lock_numbers}
use Rattle.slot_lock_blocks.specs.laws.ReaderLaws.{AreReaders-nobody, AreReaders-set, somebody}
use Rattle.slot_lock_blocks.specs.ReaderKeys.{nobody}
use Rattle.shared_disk.specs.Calls.{after_write}
use Rattle.shared_disk.specs.Events.{Done, Event, Shows, Tests, Writes, event}
use Rattle.watch.specs.Looks.{nothing}
use Rattle.histories.specs.Joined.{is_joined, standing_death}
use Rattle.host_runs.specs.Awaited.{awaited}
use Rattle.host_runs.specs.Memories.{Memory}
use Rattle.host_runs.specs.NextLines.{next_line}
use Rattle.host_runs.specs.Notes.{Notes, at_rest}
use Rattle.host_runs.specs.RunStates.{Answered, Entered, RunState}
use Rattle.host_runs.specs.Runs.{IsTurn, Run, Turns}
use Rattle.host_runs.specs.Tries.{no_tries}
use Rattle.host_runs.specs.Words.{key_in, state_in}
use Rattle.host_runs.specs.laws.EnterLaws.{keyed, none_in, same_key, some_key}
use Rattle.host_runs.specs.laws.TurnLaws.{file_ending, granted, granted_turn, turned}
use Rattle.host_runs.specs.laws.TwoHostsLaws.{key_0, key_1, line_of, start, state_1, state_2, state_3, state_4, turn_1, turn_2, turn_3, turn_4, volume, work}
use Rattle.host_runs.specs.lemmas.TidyDisk.{none_some}

-- the lock of file 0, held by host 0
abbrev pub held : List ℕ
held = lock_bytes (words.Held key_0)

pub held_state : state_in held ≡ 1
held_state = (lock_numbers held (words.Held key_0) ((λ e. omega (arith, e), omega arith), refl)).state

pub held_key : key_in held ≡ 32
held_key = (lock_numbers held (words.Held key_0) ((λ e. omega (arith, e), omega arith), refl)).key

pub free_state : state_in (lock_bytes words.Free) ≡ 0
free_state = (lock_numbers (lock_bytes words.Free) words.Free (tt, refl)).state

pub lock_at : kind_at volume 5 ≡ Some (kinds.Lock (resources.File 0))
unfolding kind_at regions
lock_at = refl

table_at : kind_at volume 11 ≡ Some (kinds.Table (tables.File 0))
unfolding kind_at regions
table_at = refl

pub file_same : (a f : ℕ) → resources.File a ≡ resources.File f → Some a ≡ Some f
file_same a f e = cc

-- host 0 takes the lock: it holds place 5, and goes on
abbrev pub taking : Event
taking = event 32 (Tests 5 (lock_bytes words.Free) held) Done

abbrev pub holding : Memory
holding = record { key = Some 32; holds = 5 ∷ []; reads = []; claims = []; left = false }

abbrev pub taken_notes : Notes
taken_notes =
    record {
      calls = record { event = taking; before = state_4.device.state } ∷ [];
      digests = [];
      asks = None;
      tries = no_tries;
      placed = None;
      memory = holding;
      dying = 3;
      pending = [];
      watch = nothing;
    }

abbrev pub state_5 : RunState
state_5 = turned state_4 0 2 (after_write 5 held state_4.device.state) None None taken_notes

alive_4 : standing_death work.lines state_4.answers 0 ≡ None
unfolding standing_death
alive_4 = refl

joined_4 : is_joined work.lines state_4.answers 0 ≡ true
unfolding is_joined
joined_4 = refl

pub turn_5 : IsTurn work 0 turns.Moved state_4 state_5
unfolding next_line awaited is_joined
turn_5 =
    granted_turn work state_4 0 2 (line_of 4 0 (commands.Create 0)) taking (after_write 5 held state_4.device.state) None None taken_notes
    (record {
      at = record { next = refl; is = refl };
      quiet = refl;
      acts = granted taking state_4.device (after_write 5 held state_4.device.state) (λ cause e. cc) (omega arith) (tt, refl) (0, omega arith, refl)
          (λ out. out (0, omega arith, refl)) (λ spent. spent);
      untold = refl;
      still = refl;
      may = (refl, inl refl);
      marks = rw lock_at (
        record {
          held = λ one. (held_key, refl);
          read = λ two. absurd (omega (arith, two, held_state));
          again = λ f is some. (file_same 0 f is, tt);
        },
        λ two. absurd (omega (arith, two, held_state)),
      );
      placing = record { file = λ e. absurd cc; once = λ e. absurd cc; plain = λ reply e. absurd cc; none = tt; own = tt };
      died = λ death. absurd (none_some death.1 alive_4);
      ending = λ living. file_ending _ None (record { file = refl; joined = refl; grants = λ cause refused. absurd cc }) tt (record { busy = λ key shown. tt; full = λ f i n is met. tt }) tt tt;
      noted = (tt, rw (lock_at, held_state) refl);
    })

-- host 1 tries to read the file: it asks that its key be the only reader's, and finds the lock held
abbrev pub readers : List ℕ
readers = set nobody 1 49

reads_1 : slice_index readers 1 ≡ 49
unfolding nobody
reads_1 = refl

read_numbers : LockNumbers (lock_bytes (words.Read readers)) (words.Read readers)
read_numbers =
    let are = AreReaders-set nobody 1 49 AreReaders-nobody (omega arith) (omega arith) (λ some. refl) in
    let some : readers ≢ nobody = somebody readers 1 (λ none. let e = sym reads_1 ∙ none in omega (arith, e)) in
    lock_numbers (lock_bytes (words.Read readers)) (words.Read readers) ((are, some), refl)

abbrev pub finding : Event
finding = event 49 (Tests 5 (lock_bytes words.Free) (lock_bytes (words.Read readers))) (Shows held)

abbrev pub state_6 : RunState
state_6 = turned state_5 1 3 state_5.device.state None (Some (answers.Busy key_0)) (at_rest (keyed 49) 3 [] nothing)

alive_5 : standing_death work.lines state_5.answers 1 ≡ None
unfolding standing_death
alive_5 = refl

joined_5 : is_joined work.lines state_5.answers 1 ≡ true
unfolding is_joined
joined_5 = refl

held_differs : held ≢ lock_bytes words.Free
held_differs same = let e = sym held_state ∙ ap state_in same ∙ free_state in omega (arith, e)

-- its tries show the key of host 0, so no answer but `busy` with this key could come, but a cut
pub turn_6 : IsTurn work 1 (turns.Answered (answers.Busy key_0)) state_5 state_6
unfolding next_line awaited is_joined
turn_6 =
    granted_turn work state_5 1 3 (line_of 5 1 (commands.Read 0 0)) finding state_5.device.state None (Some (answers.Busy key_0)) (at_rest (keyed 49) 3 [] nothing)
    (record {
      at = record { next = refl; is = refl };
      quiet = refl;
      acts = granted finding state_5.device state_5.device.state (λ cause e. cc) (omega arith) (tt, held_differs, refl) (1, omega arith, refl)
          (λ out. out (1, omega arith, refl)) (λ spent. spent);
      untold = refl;
      still = refl;
      may = (refl, inl refl);
      marks = rw lock_at (record {
        held = λ one. absurd (omega (arith, one, read_numbers.state));
        read = λ two. inl (read_numbers.readers 1 (omega arith) ∙ reads_1, refl);
        again = λ f is some. (file_same 0 f is, tt);
      });
      placing = record { file = λ e. absurd cc; once = λ e. absurd cc; plain = λ reply e. absurd cc; none = λ placeless. refl; own = tt };
      died = λ death. absurd (none_some death.1 alive_5);
      ending = λ living. file_ending _ (Some (answers.Busy key_0)) (record { file = refl; joined = refl; grants = λ cause refused. absurd cc })
          (rw (lock_at, held_state, held_key) refl)
          (record {
            busy = λ key shown none. let e = rw (lock_at, held_state, held_key) at shown in ap (λ (k : Key). let a : Answer = answers.Busy k in a) (same_key key_0 key (some_key 32 key.0 e));
            full = λ f i n is met. absurd cc;
          })
          (λ p has. absurd (none_in p has)) refl;
      noted = record { pending = refl; watch = refl; rest = refl };
    })

-- host 0 writes the table of the file, in which its `create` has its place, and is answered `ok`
abbrev pub placing : List ℕ → Event
placing table = event 32 (Writes 11 table) Done

abbrev pub state_7 : List ℕ → RunState
state_7 table =
    turned state_6 0 2 (after_write 11 table state_6.device.state) (Some replies.Done) (Some (answers.Plain replies.Done))
    (at_rest holding 4 [] nothing)

alive_6 : standing_death work.lines state_6.answers 0 ≡ None
unfolding standing_death
alive_6 = refl

one_in : (x y : ℕ) → Contains (x ∷ []) y → y ≡ x
one_in x y (zero, lt, is) = sym is
one_in x y (suc k, lt, is) = absurd (omega (arith, lt))

pub turn_7 : (table : List ℕ) → IsTurn work 0 (turns.Answered (answers.Plain replies.Done)) state_6 (state_7 table)
unfolding next_line awaited is_joined
turn_7 table =
    granted_turn work state_6 0 2 (line_of 4 0 (commands.Create 0)) (placing table) (after_write 11 table state_6.device.state) (Some replies.Done) (Some (answers.Plain replies.Done))
    (at_rest holding 4 [] nothing)
    (record {
      at = record { next = refl; is = refl };
      quiet = refl;
      acts = granted (placing table) state_6.device (after_write 11 table state_6.device.state) (λ cause e. cc) (omega arith) refl (0, omega arith, refl)
          (λ out. out (0, omega arith, refl)) (λ spent. spent);
      untold = refl;
      still = refl;
      may = (refl, inl refl);
      marks = rw table_at tt;
      placing = record { file = λ some. refl; once = λ some. refl; plain = λ reply e. cc; none = λ placeless. absurd placeless; own = tt };
      died = λ death. absurd (none_some death.1 alive_6);
      ending = λ living. file_ending _ (Some (answers.Plain replies.Done)) (record { file = refl; joined = refl; grants = λ cause refused. absurd cc }) refl
          (record { busy = λ key shown none. let e = rw table_at at shown in absurd cc; full = λ f i n is met. absurd cc })
          (rw table_at (λ p has. (0, subst (λ (q : ℕ). kind_at volume q ≡ Some (kinds.Lock (resources.File 0))) (sym (one_in 5 p has)) lock_at)))
          (rw table_at refl);
      noted = record { pending = refl; watch = refl; rest = rw table_at refl };
    })

-- the whole run
pub two_hosts_run : (table : List ℕ)
    → Run work start
    (Turns 0 turns.Moved ∷ Turns 0 (turns.Answered (answers.Joined key_0)) ∷ Turns 1 turns.Moved ∷ Turns 1 (turns.Answered (answers.Joined key_1))
    ∷ Turns 0 turns.Moved ∷ Turns 1 (turns.Answered (answers.Busy key_0)) ∷ Turns 0 (turns.Answered (answers.Plain replies.Done)) ∷ [])
    (state_7 table)
two_hosts_run table =
    (state_1, turn_1, (state_2, turn_2, (state_3, turn_3, (state_4, turn_4, (state_5, turn_5, (state_6, turn_6, (state_7 table, turn_7 table, refl)))))))

-- its answers, history and events, and what the hosts hold at its end
pub record IsTwoHostsEnd (s : RunState) : Type 0 where
  pub answers_are : s.answers
      ≡ Some (answers.Joined key_0) ∷ Some (answers.Joined key_1) ∷ Some (answers.Plain replies.Done) ∷ Some (answers.Busy key_0) ∷ []
  pub history_is : s.history ≡ record { line = 2; reply = replies.Done } ∷ []
  pub events_are : s.events
      ≡ Answered 0 (answers.Joined key_0) ∷ Answered 1 (answers.Joined key_1) ∷ Answered 3 (answers.Busy key_0)
      ∷ Entered (record { line = 2; reply = replies.Done }) ∷ Answered 2 (answers.Plain replies.Done) ∷ []
  pub keys : s.device.state.keys ≡ 32 ∷ 49 ∷ []
  pub calls : s.device.calls ≡ 7
  pub memory_0 : (s.notes 0).memory ≡ record { key = Some 32; holds = 5 ∷ []; reads = []; claims = []; left = false }
  pub memory_1 : (s.notes 1).memory ≡ record { key = Some 49; holds = []; reads = []; claims = []; left = false }

pub two_hosts_end : (table : List ℕ) → IsTwoHostsEnd (state_7 table)
two_hosts_end table = record { answers_are = refl; history_is = refl; events_are = refl; keys = refl; calls = refl; memory_0 = refl; memory_1 = refl }
