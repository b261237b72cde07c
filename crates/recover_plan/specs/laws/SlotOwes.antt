-- What is left to show of a turn of a command on slots, for each way in which it goes on or is answered.
use Rattle.std.proofs.Common.{◌≡◌, ◌≢◌, ◌<◌, ◌≤◌, ℕ, false, List, [], None, Option, Some, refl, ap, sym, ◌∙◌, subst, inl, inr, arith}
use Rattle.std.specs.Prelude.{Contains, IsSome}
use Rattle.vol_base.specs.declared.answer.Answer.{Answer}
use Rattle.vol_base.specs.declared.answer.Answer.TheVariants.{Alive, Busy, Fine, Free, Joined, NoKeys, Plain, Recovered, Seen}
use Rattle.vol_base.specs.declared.block.Key.{Key}
use Rattle.vol_base.specs.declared.command.Command.{Command}
use Rattle.vol_base.specs.declared.command.Command.TheVariants.{Beat, Join, Leave, Look, Recover}
use Rattle.vol_base.specs.declared.plain.PlainReply.{PlainReply}
use Rattle.vol_layout.specs.declared.geometry.Geometry.{Geometry}
use Rattle.vol_layout.specs.declared.kind.Kind.TheVariants as kinds
use Rattle.shared_disk.specs.Events.{Event, Fences}
use Rattle.shared_disk.specs.Seen.{DiskSeen}
use Rattle.shared_disk.specs.declared.answers.DiskNo.TheVariants as refusals
use Rattle.slot_lock_blocks.specs.declared.slot.Slot.{Slot}
use Rattle.slot_lock_blocks.specs.declared.slot.Slot.TheVariants as slots
use Rattle.watch.specs.declared.watch.Look.{Look as Looked}
use Rattle.watch.specs.Looks.{IsLook, count_of, look_at, nothing, seen}
use Rattle.histories.specs.Answers.{MayGet}
use Rattle.host_runs.specs.Causes.{IsCause}
use Rattle.host_runs.specs.DeviceCalls.{HasDone, IsRefused, OnImage}
use Rattle.host_runs.specs.Memories.{AreFileLocks, Memory, drops}
use Rattle.host_runs.specs.Moments.{Moment}
use Rattle.host_runs.specs.NotedCalls.{ShowsSlot, WritesKind}
use Rattle.host_runs.specs.Notes.{Notes, at_rest}
use Rattle.host_runs.specs.Owed.{OwesAtEnd, OwesAtOnce, OwesBySlot}
use Rattle.host_runs.specs.Rests.{IsAtRest, LooksKept}
use Rattle.host_runs.specs.SlotCauses.{ClaimFinds, ClaimFindsLive, HasEntered, IsRecovered}
use Rattle.host_runs.specs.TurnFacts.{AreAtEnd, HasLeft}
use Rattle.host_runs.specs.lemmas.OrderlyPlaced.{some_same}
use Rattle.host_notes.specs.CutTurns.{dropped_at}
use Rattle.host_notes.specs.FileTurns.{IsAnswered, IsResting, going_on}
use Rattle.host_notes.specs.Owes.{Owes, plan_moment}
use Rattle.host_notes.specs.laws.FileEndings.{memory_kept}
use Rattle.host_notes.specs.laws.TurnLaws.{no_place, now_placed_here}
use Rattle.recover_plan.specs.SlotTurns.{ShowsBlock, SlotTurn, at_look, look_answer}
use Rattle.host_notes.specs.lemmas.Lists.{none_in}
use Rattle.recover_plan.specs.laws.SlotEndings.{join_slot, look_slot, no_slot, recover_slot, refused_no_swap, entered_key, finds_one, live_is, no_find, no_shown, one_look, owes_at_once, owes_no_key, owes_no_keys, owes_no_log, owes_the_key, shown_answered, shown_no_entry, shows_one}

module _ (g : Geometry) (h : ℕ) (old new : DiskSeen) (made : Option Event) (n : Notes) where
  abbrev moment : Command → Moment
  moment command = plan_moment g h command old new made None n

  -- a turn in which the command is answered
  owes_slot : (command : Command) (answer : Answer) (later : Notes) → SlotTurn g h command old new made n → MayGet command answer
      → ((reply : PlainReply) → answer ≢ Plain reply) → IsCause (moment command) answer
      → OwesAtOnce (moment command) (Some answer) → OwesAtEnd (moment command) (Some answer) → OwesBySlot (moment command) (Some answer)
      → AreAtEnd (moment command) (Some answer) → IsAtRest (moment command) answer later
      → Owes g h command old new made None (Some answer) n later
  owes_slot command answer later turn own plain cause at_once at_end by_slot facts noted = record {
    acts = turn.acts;
    moves = λ e. absurd cc;
    may = turn.may;
    marks = turn.marks;
    files = turn.files;
    valid = turn.valid;
    file = λ is. absurd (no_place is);
    once = λ is. absurd (no_place is);
    plain = λ reply e. absurd (plain reply (some_same answer (Plain reply) e));
    none = λ placeless. now_placed_here g h command old new None n made turn.unplaced;
    own = own;
    ending = record {
      cause = cause;
      at_once = at_once;
      at_end = at_end;
      by_slot = by_slot;
      by_log = owes_no_log (moment command) (Some answer) turn.on;
      facts = facts;
    };
    noted = noted;
  }

  -- the command goes on behind a call, where no answer is owed by a slot, and no `leave` took the own key off
  pub slot_goes_on : (command : Command) → SlotTurn g h command old new made n → IsAnswered made → IsSome made
      → OwesBySlot (moment command) None → ((own : ℕ) → command ≡ Leave → HasDone (Fences own) made → ⊥)
      → Owes g h command old new made None None n (going_on (moment command))
  slot_goes_on command turn answered call by_slot last = record {
    acts = turn.acts;
    moves = λ e. call;
    may = turn.may;
    marks = turn.marks;
    files = turn.files;
    valid = turn.valid;
    file = λ is. absurd (no_place is);
    once = λ is. absurd (no_place is);
    plain = λ reply e. absurd cc;
    none = tt;
    own = tt;
    ending = record {
      cause = tt;
      at_once = owes_at_once (moment command) None turn.on refl answered;
      at_end = record { busy = λ key shown. tt; full = λ f i k is full. tt };
      by_slot = by_slot;
      by_log = owes_no_log (moment command) None turn.on;
      facts = record { rests = tt; stays = tt; last = λ own is done. absurd (last own is done); left = λ is e. absurd cc };
    };
    noted = (tt, refl);
  }

  -- the host is in
  pub owes_joined : (key : Key) → SlotTurn g h Join old new made n → IsAnswered made → HasEntered (moment Join) key
      → (moment Join).now.tries.shown ≡ None → IsResting (moment Join)
      → Owes g h Join old new made None (Some (Joined key)) n (at_rest (moment Join).now.memory (moment Join).now.dying [] nothing)
  owes_joined key turn answered entered none rests =
      owes_slot Join (Joined key) (at_rest (moment Join).now.memory (moment Join).now.dying [] nothing) turn tt (λ reply e. cc) entered
      (owes_at_once (moment Join) (Some (Joined key)) tt refl answered)
      (owes_no_key (moment Join) (Joined key) tt none)
      (join_slot (moment Join) (Some (Joined key)) refl (λ other enters no_cut. ap Joined (sym (entered_key (moment Join) key other entered enters))))
      (record { rests = rests.locks; stays = rests.stays; last = λ own is. absurd cc; left = λ is. absurd cc })
      (record { pending = refl; watch = refl; rest = refl })

  -- a slot of another key was found by a `join`, whose host is dropped
  pub owes_join_busy : (key : Key) → SlotTurn g h Join old new made n → ShowsBlock made → (moment Join).now.tries.shown ≡ Some key.0
      → Owes g h Join old new made None (Some (Busy key)) n (dropped_at (moment Join))
  owes_join_busy key turn shows shown =
      owes_slot Join (Busy key) (dropped_at (moment Join)) turn tt (λ reply e. cc) shown
      (owes_at_once (moment Join) (Some (Busy key)) tt refl (shown_answered made shows))
      (owes_the_key (moment Join) key tt shown)
      (join_slot (moment Join) (Some (Busy key)) refl (λ other enters. absurd (shown_no_entry (moment Join) other shows enters)))
      (record { rests = λ place has. absurd (none_in place [] refl has); stays = refl; last = λ own is. absurd cc; left = λ is. absurd cc })
      (record { pending = refl; watch = refl; rest = refl })

  -- no key is left
  pub owes_no_more_keys : SlotTurn g h Join old new made n → IsRefused refusals.NoKeys made → (moment Join).now.tries.shown ≡ None
      → Owes g h Join old new made None (Some NoKeys) n (dropped_at (moment Join))
  owes_no_more_keys turn refused none =
      owes_slot Join NoKeys (dropped_at (moment Join)) turn tt (λ reply e. cc) refused
      (owes_no_keys (moment Join) refl refl refused)
      (owes_no_key (moment Join) NoKeys tt none)
      (join_slot (moment Join) (Some NoKeys) refl (λ other enters. absurd (refused_no_swap made refusals.NoKeys _ refused enters.entered.2)))
      (record { rests = λ place has. absurd (none_in place [] refl has); stays = refl; last = λ own is. absurd cc; left = λ is. absurd cc })
      (record { pending = refl; watch = refl; rest = refl })

  -- the host has left
  pub owes_left : (own : ℕ) → SlotTurn g h Leave old new made n → IsAnswered made → n.memory.key ≡ Some own → HasDone (Fences own) made
      → (moment Leave).now.tries.shown ≡ None → HasLeft (moment Leave)
      → Owes g h Leave old new made None (Some Fine) n (dropped_at (moment Leave))
  owes_left own turn answered key done none left =
      owes_slot Leave Fine (dropped_at (moment Leave)) turn tt (λ reply e. cc) (own, key, done)
      (owes_at_once (moment Leave) (Some Fine) tt refl answered)
      (owes_no_key (moment Leave) Fine tt none)
      (no_slot (moment Leave) (Some Fine) (inl refl))
      (record { rests = λ place has. absurd (none_in place [] refl has); stays = refl; last = λ own is done. refl; left = λ is e. left })
      (record { pending = refl; watch = refl; rest = refl })

  -- the own slot beats
  pub owes_beat : (block : List ℕ) → SlotTurn g h Beat old new made n → IsAnswered made → WritesKind g (kinds.Slot h) block made
      → (moment Beat).now.tries.shown ≡ None → IsResting (moment Beat)
      → Owes g h Beat old new made None (Some Fine) n (at_look (moment Beat) n.watch)
  owes_beat block turn answered writes none rests =
      owes_slot Beat Fine (at_look (moment Beat) n.watch) turn tt (λ reply e. cc) (block, writes)
      (owes_at_once (moment Beat) (Some Fine) tt refl answered)
      (owes_no_key (moment Beat) Fine tt none)
      (no_slot (moment Beat) (Some Fine) (inr refl))
      (record { rests = rests.locks; stays = rests.stays; last = λ own is. absurd cc; left = λ is. absurd cc })
      (record { pending = refl; watch = refl; rest = refl })

  -- a slot was read: one that is free is forgotten, and any other one is seen once more
  pub owes_unseen : (of : ℕ) (watch : List (Option Looked)) → SlotTurn g h (Look of) old new made n → IsAnswered made
      → ShowsSlot g (kinds.Slot of) slots.Free made → (moment (Look of)).now.tries.shown ≡ None → IsResting (moment (Look of))
      → LooksKept of (moment (Look of)) watch → look_at watch of ≡ None
      → Owes g h (Look of) old new made None (Some Free) n (at_look (moment (Look of)) watch)
  owes_unseen of watch turn answered shows none rests kept forgotten =
      let m = moment (Look of) in
      owes_slot (Look of) Free (at_look m watch) turn tt (λ reply e. cc) shows
      (owes_at_once m (Some Free) tt refl answered)
      (owes_no_key m Free tt none)
      (look_slot m of (Some Free) refl (λ free no_cut. refl)
      (λ k seen. absurd (seen.taken (sym (shows_one g (kinds.Slot of) made slots.Free seen.slot shows seen.shown)))))
      (record { rests = rests.locks; stays = rests.stays; last = λ own is. absurd cc; left = λ is. absurd cc })
      (record { pending = refl; watch = (kept, forgotten); rest = refl })

  pub owes_seen : (of : ℕ) (slot : Slot) (watch : List (Option Looked)) → SlotTurn g h (Look of) old new made n → IsAnswered made
      → ShowsSlot g (kinds.Slot of) slot made → slot ≢ slots.Free → (moment (Look of)).now.tries.shown ≡ None
      → IsResting (moment (Look of)) → LooksKept of (moment (Look of)) watch → IsLook slot (look_at n.watch of) (look_at watch of)
      → Owes g h (Look of) old new made None (Some (Seen (count_of (look_at watch of)))) n (at_look (moment (Look of)) watch)
  owes_seen of slot watch turn answered shows taken none rests kept looked =
      let m = moment (Look of) in
      let count = count_of (look_at watch of) in
      owes_slot (Look of) (Seen count) (at_look m watch) turn tt (λ reply e. cc)
      (record { slot = slot; shown = shows; taken = taken; look = look_at watch of; looked = looked; count = refl })
      (owes_at_once m (Some (Seen count)) tt refl answered)
      (owes_no_key m (Seen count) tt none)
      (look_slot m of (Some (Seen count)) refl
      (λ free. absurd (taken (shows_one g (kinds.Slot of) made slot slots.Free shows free)))
      (λ k seen no_cut.
      let same = shows_one g (kinds.Slot of) made slot seen.slot shows seen.shown in
      let one = one_look slot (look_at n.watch of) (look_at watch of) seen.look looked
      (subst (λ (s : Slot). IsLook s (look_at n.watch of) seen.look) (sym same) seen.looked) in
      ap Seen (ap count_of one ∙ sym seen.count)))
      (record { rests = rests.locks; stays = rests.stays; last = λ own is. absurd cc; left = λ is. absurd cc })
      (record {
        pending = refl;
        watch = (
          kept,
          λ other shown. subst (λ (s : Slot). IsLook s (look_at n.watch of) (look_at watch of))
              (shows_one g (kinds.Slot of) made slot other shows shown) looked,
        );
        rest = refl;
      })

  pub owes_looked : (of : ℕ) (slot : Slot) (watch : List (Option Looked)) → SlotTurn g h (Look of) old new made n → IsAnswered made
      → ShowsSlot g (kinds.Slot of) slot made → (moment (Look of)).now.tries.shown ≡ None
      → IsResting (moment (Look of)) → LooksKept of (moment (Look of)) watch → IsLook slot (look_at n.watch of) (look_at watch of)
      → Owes g h (Look of) old new made None (Some (look_answer slot (count_of (look_at watch of)))) n (at_look (moment (Look of)) watch)
  owes_looked of slots.Free watch turn answered shows none rests kept looked =
      owes_unseen of watch turn answered shows none rests kept (looked.free refl)
  owes_looked of (slots.Live key beat) watch turn answered shows none rests kept looked =
      owes_seen of (slots.Live key beat) watch turn answered shows (λ e. cc) none rests kept looked
  owes_looked of (slots.Recovering key by) watch turn answered shows none rests kept looked =
      owes_seen of (slots.Recovering key by) watch turn answered shows (λ e. cc) none rests kept looked

  -- a `recover` that had a call: the host was seen three times
  module _ (of : ℕ) (thrice : 3 ≤ count_of (look_at n.watch of)) where
    abbrev recovers : Moment
    recovers = moment (Recover of)

    many : (ended : Option Answer) → count_of (look_at n.watch of) < 3 → ended ≡ Some (Alive (count_of (look_at n.watch of)))
    many ended few = absurd (omega (arith, thrice, few))

    -- it rests behind its answer
    resting : (answer : Answer) → drops answer (Recover of) ≡ false → IsResting recovers → AreAtEnd recovers (Some answer)
    resting answer keeps rests =
        let kept = memory_kept answer (Recover of) recovers.now.memory keeps in
        record {
          rests = subst (λ (memory : Memory). AreFileLocks g memory.holds) (sym kept) rests.locks;
          stays = ap (λ (memory : Memory). memory.left) kept ∙ rests.stays;
          last = λ own is. absurd cc;
          left = λ is. absurd cc;
        }

    -- nothing is owed by a slot where the call found none, or its claim was made before
    pub recover_goes_on : (ended : Option Answer) → ((slot : Slot) → ClaimFinds recovers of slot → ⊥) → OwesBySlot recovers ended
    recover_goes_on ended none =
        recover_slot recovers of ended refl (many ended) (λ live. absurd (none (slots.Live live.key live.beat) live.found))
        (λ free. absurd (none slots.Free free))

    -- the claim found a slot that shows another key: a recovering one
    pub owes_recover_busy : (key : Key) (slot : Slot) (watch : List (Option Looked)) → SlotTurn g h (Recover of) old new made n
        → IsAnswered made → ShowsSlot g (kinds.Slot of) slot made → slot ≢ slots.Free
        → ((k : Key) (beat : ℕ) → slot ≢ slots.Live k beat) → recovers.now.tries.shown ≡ Some key.0 → IsResting recovers
        → LooksKept of recovers watch → look_at watch of ≡ seen slot 1
        → Owes g h (Recover of) old new made None (Some (Busy key)) n (at_look recovers watch)
    owes_recover_busy key slot watch turn answered shows taken recovering shown rests kept once =
        owes_slot (Recover of) (Busy key) (at_look recovers watch) turn tt (λ reply e. cc) shown
        (owes_at_once recovers (Some (Busy key)) tt refl answered)
        (owes_the_key recovers key tt shown)
        (recover_slot recovers of (Some (Busy key)) refl (many (Some (Busy key)))
        (λ live. absurd (live_is recovers of slot shows recovering live))
        (λ free. absurd (taken (finds_one recovers of slot slots.Free free shows))))
        (resting (Busy key) refl rests)
        (record {
          pending = refl;
          watch = (
            kept,
            λ other finds. once ∙ ap (λ (s : Slot). seen s 1) (finds_one recovers of slot other finds shows),
            λ none. absurd (no_shown g (kinds.Slot of) made slot none shows),
          );
          rest = refl;
        })

    -- it found a live one, under another key or again
    pub owes_alive : (slot : Slot) (watch : List (Option Looked)) → SlotTurn g h (Recover of) old new made n
        → IsAnswered made → ClaimFindsLive recovers of → ShowsSlot g (kinds.Slot of) slot made → slot ≢ slots.Free
        → recovers.now.tries.shown ≡ None → IsResting recovers → LooksKept of recovers watch → look_at watch of ≡ seen slot 1
        → Owes g h (Recover of) old new made None (Some (Alive 1)) n (at_look recovers watch)
    owes_alive slot watch turn answered live shows taken none rests kept once =
        owes_slot (Recover of) (Alive 1) (at_look recovers watch) turn tt (λ reply e. cc) (inr (refl, live))
        (owes_at_once recovers (Some (Alive 1)) tt refl answered)
        (owes_no_key recovers (Alive 1) tt none)
        (recover_slot recovers of (Some (Alive 1)) refl (many (Some (Alive 1))) (λ again no_cut. refl)
        (λ free. absurd (taken (finds_one recovers of slot slots.Free free shows))))
        (resting (Alive 1) refl rests)
        (record {
          pending = refl;
          watch = (
            kept,
            λ other finds. once ∙ ap (λ (s : Slot). seen s 1) (finds_one recovers of slot other finds shows),
            λ none. absurd (no_shown g (kinds.Slot of) made slot none shows),
          );
          rest = refl;
        })

    -- it found a free one
    pub owes_freed : (watch : List (Option Looked)) → SlotTurn g h (Recover of) old new made n
        → IsAnswered made → ClaimFinds recovers of slots.Free → recovers.now.tries.shown ≡ None → IsResting recovers
        → LooksKept of recovers watch → look_at watch of ≡ None
        → Owes g h (Recover of) old new made None (Some Free) n (at_look recovers watch)
    owes_freed watch turn answered finds none rests kept forgotten =
        owes_slot (Recover of) Free (at_look recovers watch) turn tt (λ reply e. cc) finds
        (owes_at_once recovers (Some Free) tt refl answered)
        (owes_no_key recovers Free tt none)
        (recover_slot recovers of (Some Free) refl (many (Some Free))
        (λ live. absurd (live_is recovers of slots.Free finds.found (λ key beat e. cc) live)) (λ free no_cut. refl))
        (resting Free refl rests)
        (record { pending = refl; watch = (kept, forgotten); rest = refl })

    -- the slot that was claimed is free
    pub owes_recovered : (watch : List (Option Looked)) → SlotTurn g h (Recover of) old new made n
        → IsAnswered made → Contains n.memory.claims of → OnImage new.state (IsRecovered recovers of)
        → recovers.now.tries.shown ≡ None → IsResting recovers → LooksKept of recovers watch → look_at watch of ≡ None
        → Owes g h (Recover of) old new made None (Some Recovered) n (at_look recovers watch)
    owes_recovered watch turn answered claimed recovered none rests kept forgotten =
        owes_slot (Recover of) Recovered (at_look recovers watch) turn tt (λ reply e. cc) recovered
        (owes_at_once recovers (Some Recovered) tt refl answered)
        (owes_no_key recovers Recovered tt none)
        (recover_goes_on (Some Recovered) (λ slot finds. finds.claiming claimed))
        (resting Recovered refl rests)
        (record { pending = refl; watch = (kept, forgotten); rest = refl })

  -- the host was seen less than three times
  pub owes_few : (of : ℕ) → SlotTurn g h (Recover of) old new made n → made ≡ None → count_of (look_at n.watch of) < 3
      → (moment (Recover of)).now.tries.shown ≡ None → IsResting (moment (Recover of))
      → Owes g h (Recover of) old new made None (Some (Alive (count_of (look_at n.watch of)))) n (at_look (moment (Recover of)) n.watch)
  owes_few of turn uncalled few none rests =
      let m = moment (Recover of) in
      let count = count_of (look_at n.watch of) in
      owes_slot (Recover of) (Alive count) (at_look m n.watch) turn tt (λ reply e. cc) (inl (uncalled, refl, few))
      (owes_at_once m (Some (Alive count)) tt refl (subst IsAnswered (sym uncalled) tt))
      (owes_no_key m (Alive count) tt none)
      (recover_slot m of (Some (Alive count)) refl (λ less. refl)
      (λ live. absurd (no_find m of (slots.Live live.key live.beat) uncalled live.found))
      (λ free. absurd (no_find m of slots.Free uncalled free)))
      (record { rests = rests.locks; stays = rests.stays; last = λ own is. absurd cc; left = λ is. absurd cc })
      (record {
        pending = refl;
        watch = (λ k other. refl, λ slot finds. absurd (no_find m of slot uncalled finds), λ none. refl);
        rest = refl;
      })
