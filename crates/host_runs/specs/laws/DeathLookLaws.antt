-- A look of host 1 at the live slot of host 0, by hand: the answer counts once more what is remembered.
use Rattle.vol_base.specs.declared.answer.Answer.{Answer}
use Rattle.std.specs.Prelude.{Contains}
use Rattle.std.proofs.Common.{◌≡◌, ◌∷◌, ℕ, List, [], Option, Some, None, refl, inl, arith, slice_set, ◌≢◌, ◌+◌, true, true≢false, ap, sym, ◌∙◌, get_or-set_other, ◌-◌, ◌^◌, min}
use Rattle.vol_base.specs.declared.answer.Answer.TheVariants as answers
use Rattle.vol_base.specs.declared.answer.Turn.TheVariants as turns
use Rattle.vol_base.specs.declared.command.Command.TheVariants as commands
use Rattle.vol_layout.specs.declared.kind.Kind.{Kind}
use Rattle.vol_layout.specs.declared.kind.Kind.TheVariants as kinds
use Rattle.vol_layout.specs.Places.{kind_at}
use Rattle.vol_layout.specs.Regions.{regions}
use Rattle.slot_lock_blocks.specs.Slots.{SpellsSlot, slot_bytes}
use Rattle.slot_lock_blocks.specs.declared.slot.Slot.{Slot}
use Rattle.slot_lock_blocks.specs.declared.slot.Slot.TheVariants as slots
use Rattle.shared_disk.specs.Events.{Event, event, Reads, Shows}
use Rattle.watch.specs.Looks.{IsLook, count_of, look_at, nothing, seen}
use Rattle.watch.specs.declared.watch.Look.{Look}
use Rattle.histories.specs.Joined.{is_joined, standing_death}
use Rattle.host_runs.specs.Awaited.{awaited}
use Rattle.host_runs.specs.NextLines.{next_line}
use Rattle.host_runs.specs.Notes.{at_rest}
use Rattle.host_runs.specs.RunStates.{RunState}
use Rattle.host_runs.specs.Runs.{IsTurn}
use Rattle.host_runs.specs.NotedCalls.{ShowsSlot}
use Rattle.host_runs.specs.Steps.{IsAtLine}
use Rattle.host_runs.specs.laws.DeathStartLaws.{death_work, doomed}
use Rattle.host_runs.specs.laws.EnterLaws.{keyed, none_in}
use Rattle.host_runs.specs.laws.LookLaws.{only_live}
use Rattle.host_runs.specs.laws.TurnLaws.{granted, granted_turn, turned}
use Rattle.host_runs.specs.laws.TwoHostsLaws.{key_0, line_of, volume}
use Rattle.host_runs.specs.lemmas.TidyDisk.{none_some}

-- the slot of host 0 while it lives
abbrev pub live_slot : Slot
live_slot = slots.Live key_0 0

pub live_spelled : SpellsSlot (slot_bytes live_slot) live_slot
live_spelled = (((λ e. omega (arith, e), omega arith), omega arith), refl)

pub slot_at : kind_at volume 1 ≡ Some (kinds.Slot 0)
unfolding kind_at regions
slot_at = refl

-- host 1 reads the slot of host 0
abbrev pub looking : Event
looking = event 49 (Reads 1) (Shows (slot_bytes live_slot))

same_block : (x y : ℕ × List ℕ) → Some x ≡ Some y → y ≡ x
same_block x y e = cc

-- what it shows is the live slot alone
shows_live : (kind : Kind) (slot : Slot) → ShowsSlot volume kind slot (Some looking) → slot ≡ live_slot
shows_live kind slot shown =
    let same = ap (λ (x : ℕ × List ℕ). x.1) (same_block (1, slot_bytes live_slot) (shown.1.0, shown.0) shown.1.2) in
    only_live slot key_0 0 shown.0 shown.2 (live_spelled.0, same)

same_look : (a b : ℕ) → commands.Look a ≡ commands.Look b → b ≡ a
same_look a b e = cc

-- host 1 at a line `look 0`, joined and at rest, with these looks behind it
pub record IsLooking (s : RunState) (at position n dying : ℕ) (watch looks : List (Option Look)) : Type 0 where
  pub line : IsAtLine death_work.lines s 1 position (line_of at 1 (commands.Look 0))
  pub joined : is_joined death_work.lines s.answers 1 ≡ true
  pub alive : standing_death death_work.lines s.answers 1 ≡ None
  pub notes : s.notes 1 ≡ at_rest (keyed 49) dying [] watch
  pub device : s.device.state ≡ record { blocks = 2000; keys = 32 ∷ 49 ∷ []; counter = 3; told = None }
  pub looked : IsLook live_slot (look_at watch 0) (look_at looks 0)
  pub count : n ≡ count_of (look_at looks 0)
  pub one : (look : Option Look) → IsLook live_slot (look_at watch 0) look → count_of look ≡ n
  pub kept : (k : ℕ) → k ≢ 0 → look_at looks k ≡ look_at watch k

abbrev pub looked_state : RunState → ℕ → ℕ → ℕ → List (Option Look) → RunState
looked_state s position n dying looks =
    turned s 1 position s.device.state None (Some (answers.Seen n)) (at_rest (keyed 49) (dying + 1) [] looks)

pub look_turn : (s : RunState) (at position n dying : ℕ) (watch looks : List (Option Look)) → IsLooking s at position n dying watch looks
    → IsTurn death_work 1 (turns.Answered (answers.Seen n)) s (looked_state s position n dying looks)
unfolding awaited
look_turn s at position n dying watch looks is =
    let has : Contains s.device.state.keys 49 = rw is.device (1, omega arith, refl) in
    granted_turn death_work s 1 position (line_of at 1 (commands.Look 0)) looking s.device.state None (Some (answers.Seen n))
    (at_rest (keyed 49) (dying + 1) [] looks)
    (record {
      at = is.line;
      quiet = rw (is.line.next, is.line.is, is.joined, is.notes) refl;
      acts = granted looking s.device s.device.state (λ cause e. cc) (rw is.device (omega arith)) (rw is.device (tt, refl)) has (λ out. out has) (λ spent. spent);
      untold = rw is.device refl;
      still = rw is.device refl;
      may = (rw is.notes refl, inl is.joined);
      marks = tt;
      placing = record { file = λ e. absurd cc; once = λ e. absurd cc; plain = λ reply e. absurd cc; none = λ placeless. rw is.notes refl; own = tt };
      died = λ death. absurd (none_some death.1 is.alive);
      ending = λ living. record {
        cause = record {
          slot = live_slot;
          shown = (slot_bytes live_slot, (1, slot_at, refl), live_spelled);
          taken = λ e. cc;
          look = look_at looks 0;
          looked = rw is.notes is.looked;
          count = is.count;
        };
        at_once = record {
          fenced = λ e. absurd cc;
          failed = λ e. absurd cc;
          no_keys = λ e. absurd cc;
          up = λ e joined. absurd cc;
          down = λ other out. absurd (true≢false (sym is.joined ∙ out));
          refused = λ place n seen e joined none. absurd cc;
        };
        at_end = record {
          busy = λ key shown none. let e = rw (slot_at, is.notes) at shown in absurd cc;
          full = λ f i n e met. absurd cc;
        };
        by_slot = record {
          joined = λ key e entered. absurd cc;
          unseen = λ of e shown none. let free = shows_live (kinds.Slot of) slots.Free shown in absurd cc;
          seen = λ of m e seen none.
              let slot = shows_live (kinds.Slot of) seen.slot seen.shown in
              let here = rw (same_look 0 of e, slot, is.notes) at seen.looked in
              ap (λ (k : ℕ). let a : Answer = answers.Seen k in a) (sym (is.one seen.look here) ∙ sym seen.count);
          few = λ of e joined count. absurd cc;
          live = λ of e found. absurd cc;
          free = λ of e found. absurd cc;
        };
        by_log = record { nothing = λ e joined none. absurd cc; full = λ e full. absurd cc };
        facts = record { rests = rw is.notes (λ p has. absurd (none_in p has)); stays = rw is.notes refl; last = λ own e done. absurd cc; left = λ e given. absurd cc };
      };
      noted = record {
        pending = rw is.notes refl;
        watch = (λ k other. rw is.notes (is.kept k other), λ slot shown. rw (shows_live (kinds.Slot 0) slot shown, is.notes) is.looked);
        rest = rw is.notes refl;
      };
    })

-- the looks of host 1: none, and the live slot seen so often
abbrev pub looks_of : ℕ → List (Option Look)
looks_of n = slice_set nothing 0 (seen live_slot n)

pub none_at : look_at nothing 0 ≡ None
unfolding nothing
none_at = refl

pub looks_at : (n : ℕ) → look_at (looks_of n) 0 ≡ seen live_slot n
unfolding nothing
looks_at n = refl

some_count : (a b : ℕ) → seen live_slot a ≡ seen live_slot b → a ≡ b
some_count a b e = ap count_of e

first_look : IsLook live_slot None (seen live_slot 1)
first_look = record { free = λ e. absurd cc; same = λ n taken e. absurd cc; other = λ taken none. refl }

next_look : (n : ℕ) → IsLook live_slot (seen live_slot n) (seen live_slot (min (n + 1) (2 ^ 32 - 1)))
next_look n = record {
  free = λ e. absurd cc;
  same = λ m taken e. ap (λ (k : ℕ). seen live_slot (min (k + 1) (2 ^ 32 - 1))) (some_count n m e);
  other = λ taken none. absurd (none n refl);
}

-- host 1 looks three times
abbrev pub looked_1 : RunState
looked_1 = looked_state doomed 3 1 2 (looks_of 1)

abbrev pub looked_2 : RunState
looked_2 = looked_state looked_1 4 2 3 (looks_of 2)

abbrev pub looked_3 : RunState
looked_3 = looked_state looked_2 5 3 4 (looks_of 3)

pub looked_1_turn : IsTurn death_work 1 (turns.Answered (answers.Seen 1)) doomed looked_1
unfolding next_line is_joined standing_death
looked_1_turn =
    look_turn doomed 5 3 1 2 nothing (looks_of 1)
    (record {
      line = record { next = refl; is = refl };
      joined = refl;
      alive = refl;
      notes = refl;
      device = refl;
      looked = rw (none_at, looks_at 1) first_look;
      count = rw (looks_at 1) refl;
      one = λ look is. let l = rw none_at at is in ap count_of (l.other (λ e. cc) (λ n e. cc));
      kept = λ k other. get_or-set_other nothing 0 k (seen live_slot 1) None other;
    })

pub looked_2_turn : IsTurn death_work 1 (turns.Answered (answers.Seen 2)) looked_1 looked_2
unfolding next_line is_joined standing_death
looked_2_turn =
    look_turn looked_1 6 4 2 3 (looks_of 1) (looks_of 2)
    (record {
      line = record { next = refl; is = refl };
      joined = refl;
      alive = refl;
      notes = refl;
      device = refl;
      looked = rw (looks_at 1, looks_at 2) (next_look 1);
      count = rw (looks_at 2) refl;
      one = λ look is. let l = rw (looks_at 1) at is in ap count_of (l.same 1 (λ e. cc) refl);
      kept = λ k other. get_or-set_other nothing 0 k (seen live_slot 2) None other ∙ sym (get_or-set_other nothing 0 k (seen live_slot 1) None other);
    })

pub looked_3_turn : IsTurn death_work 1 (turns.Answered (answers.Seen 3)) looked_2 looked_3
unfolding next_line is_joined standing_death
looked_3_turn =
    look_turn looked_2 7 5 3 4 (looks_of 2) (looks_of 3)
    (record {
      line = record { next = refl; is = refl };
      joined = refl;
      alive = refl;
      notes = refl;
      device = refl;
      looked = rw (looks_at 2, looks_at 3) (next_look 2);
      count = rw (looks_at 3) refl;
      one = λ look is. let l = rw (looks_at 2) at is in ap count_of (l.same 2 (λ e. cc) refl);
      kept = λ k other. get_or-set_other nothing 0 k (seen live_slot 3) None other ∙ sym (get_or-set_other nothing 0 k (seen live_slot 2) None other);
    })
