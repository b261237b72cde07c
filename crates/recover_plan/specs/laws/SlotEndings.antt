-- What a command on slots owes by its call, where the device did not refuse it: what one call excludes of what another would be.
use Rattle.std.proofs.Common.{◌≡◌, ◌≢◌, ◌⊎◌, ◌<◌, ℕ, true, false, List, None, Option, Some, refl, ap, sym, ◌∙◌, subst, inl, inr}
use Rattle.std.specs.Prelude.{IsSomeAnd}
use Rattle.std.proofs.lemmas.Bool.{cases_eq}
use Rattle.vol_base.specs.declared.answer.Answer.{Answer}
use Rattle.vol_base.specs.declared.answer.Answer.TheVariants as answers
use Rattle.vol_base.specs.declared.block.Key.{Key}
use Rattle.vol_base.specs.declared.command.Command.{Command}
use Rattle.vol_base.specs.declared.command.Command.TheVariants as commands
use Rattle.vol_layout.specs.declared.geometry.Geometry.{Geometry}
use Rattle.vol_layout.specs.declared.kind.Kind.{Kind}
use Rattle.vol_layout.specs.declared.kind.Kind.TheVariants as kinds
use Rattle.shared_disk.specs.Events.{Call, Done, Event, Reads, Refuses, Reply, Shows, Tests}
use Rattle.shared_disk.specs.declared.answers.DiskNo.{DiskNo}
use Rattle.shared_disk.specs.declared.answers.DiskNo.TheVariants as refusals
use Rattle.slot_lock_blocks.specs.declared.slot.Slot.{Slot}
use Rattle.slot_lock_blocks.specs.declared.slot.Slot.TheVariants as slots
use Rattle.slot_lock_blocks.specs.Slots.{IsSlot, SpellsSlot, slot_key, slot_state}
use Rattle.slot_lock_blocks.specs.laws.SlotLaws.{slot_numbers}
use Rattle.watch.specs.declared.watch.Look.{Look}
use Rattle.watch.specs.Looks.{IsLook, count_of, look_at, seen}
use Rattle.host_runs.specs.DeviceCalls.{HasDone, IsRefused, shown_at}
use Rattle.host_runs.specs.Moments.{Moment}
use Rattle.host_runs.specs.NotedCalls.{ShowsSlot}
use Rattle.host_runs.specs.Owed.{Gets, OwesAtEnd, OwesAtOnce, OwesByLog, OwesBySlot}
use Rattle.host_runs.specs.SlotCauses.{ClaimFinds, ClaimFindsLive, HasEntered, HasSeen}
use Rattle.host_runs.specs.laws.EnterLaws.{same_key}
use Rattle.host_runs.specs.lemmas.OrderlyPlaced.{some_same}
use Rattle.host_runs.specs.lemmas.TidyDisk.{none_some}
use Rattle.host_notes.specs.FileTurns.{IsAnswered, IsGiven}
use Rattle.host_notes.specs.Owes.{joined_in}
use Rattle.recover_plan.specs.SlotTurns.{IsOnSlot, ShowsBlock}

-- a block spells one slot
same_state : (block : List ℕ) (one two : Slot) → SpellsSlot block one → SpellsSlot block two → slot_state one ≡ slot_state two
same_state block one two first second = sym (slot_numbers block one first).state ∙ (slot_numbers block two second).state

pub one_slot : (block : List ℕ) (one two : Slot) → SpellsSlot block one → SpellsSlot block two → one ≡ two
one_slot block slots.Free slots.Free first second = refl
one_slot block slots.Free (slots.Live k n) first second = absurd (let e = same_state block slots.Free (slots.Live k n) first second in cc)
one_slot block slots.Free (slots.Recovering k by) first second =
    absurd (let e = same_state block slots.Free (slots.Recovering k by) first second in cc)
one_slot block (slots.Live k n) slots.Free first second = absurd (let e = same_state block (slots.Live k n) slots.Free first second in cc)
one_slot block (slots.Recovering k by) slots.Free first second =
    absurd (let e = same_state block (slots.Recovering k by) slots.Free first second in cc)
one_slot block (slots.Live k n) (slots.Recovering j by) first second =
    absurd (let e = same_state block (slots.Live k n) (slots.Recovering j by) first second in cc)
one_slot block (slots.Recovering j by) (slots.Live k n) first second =
    absurd (let e = same_state block (slots.Recovering j by) (slots.Live k n) first second in cc)
one_slot block (slots.Live k n) (slots.Live j m) first second =
    let a = slot_numbers block (slots.Live k n) first in
    let b = slot_numbers block (slots.Live j m) second in
    ap (λ (x : Key). let s : Slot = slots.Live x n in s) (same_key k j (sym a.key ∙ b.key))
    ∙ ap (λ (x : ℕ). let s : Slot = slots.Live j x in s) (sym a.second ∙ b.second)
one_slot block (slots.Recovering k x) (slots.Recovering j y) first second =
    let a = slot_numbers block (slots.Recovering k x) first in
    let b = slot_numbers block (slots.Recovering j y) second in
    ap (λ (key : Key). let s : Slot = slots.Recovering key x in s) (same_key k j (sym a.key ∙ b.key))
    ∙ ap (λ (key : Key). let s : Slot = slots.Recovering j key in s) (same_key x y (sym a.second ∙ b.second))

-- so a call shows one slot
shown_block : (made : Option Event) (p q : ℕ) (a b : List ℕ) → IsSomeAnd made (λ e. shown_at e.call e.reply ≡ Some (p, a))
    → IsSomeAnd made (λ e. shown_at e.call e.reply ≡ Some (q, b)) → a ≡ b
shown_block None p q a b one two = absurd one
shown_block (Some e) p q a b one two = ap (λ (x : ℕ × List ℕ). x.1) (some_same (p, a) (q, b) (sym one ∙ two))

pub shows_one : (g : Geometry) (kind : Kind) (made : Option Event) (one two : Slot) → ShowsSlot g kind one made → ShowsSlot g kind two made
    → one ≡ two
shows_one g kind made one two first second =
    let same = shown_block made first.1.0 second.1.0 first.0 second.0 first.1.2 second.1.2 in
    one_slot first.0 one two first.2 (subst (λ (b : List ℕ). SpellsSlot b two) (sym same) second.2)

-- two slots are one, or not; and a slot is looked at in one way
two_slots : (one two : Slot) → (one ≡ two) ⊎ (one ≢ two)
two_slots slots.Free slots.Free = inl refl
two_slots slots.Free (slots.Live k n) = inr (λ e. cc)
two_slots slots.Free (slots.Recovering k by) = inr (λ e. cc)
two_slots (slots.Live k n) slots.Free = inr (λ e. cc)
two_slots (slots.Live k n) (slots.Recovering j by) = inr (λ e. cc)
two_slots (slots.Recovering k by) slots.Free = inr (λ e. cc)
two_slots (slots.Recovering k by) (slots.Live j n) = inr (λ e. cc)
two_slots (slots.Live k n) (slots.Live j m) = elim (cases_eq k.0 j.0) [
  | inl same ↦ elim (cases_eq n m) [
    | inl one ↦ let e = same_key k j same in inl cc
    | inr other ↦ inr (λ e. other cc)
  ]
  | inr other ↦ inr (λ e. other cc)
]
two_slots (slots.Recovering k x) (slots.Recovering j y) = elim (cases_eq k.0 j.0) [
  | inl same ↦ elim (cases_eq x.0 y.0) [
    | inl one ↦ let e = same_key k j same in let f = same_key x y one in inl cc
    | inr other ↦ inr (λ e. other cc)
  ]
  | inr other ↦ inr (λ e. other cc)
]

pub one_look : (slot : Slot) (before one two : Option Look) → IsLook slot before one → IsLook slot before two → one ≡ two
one_look slots.Free before one two first second = first.free refl ∙ sym (second.free refl)
one_look slot None one two first second =
    elim (two_slots slot slots.Free) [
      | inl free ↦ first.free free ∙ sym (second.free free)
      | inr taken ↦ first.other taken (λ n e. cc) ∙ sym (second.other taken (λ n e. cc))
    ]
one_look slot (Some look) one two first second =
    elim (two_slots slot slots.Free) [
      | inl free ↦ first.free free ∙ sym (second.free free)
      | inr taken ↦ elim (two_slots look.slot slot) [
        | inl same ↦
            let is : Some look ≡ seen slot look.count = ap (λ (s : Slot). seen s look.count) same in
            first.same look.count taken is ∙ sym (second.same look.count taken is)
        | inr other ↦
            let none : (n : ℕ) → Some look ≢ seen slot n =
            λ n e. other (ap (λ (l : Look). l.slot) (some_same look (record { slot = slot; count = n }) e)) in
            first.other taken none ∙ sym (second.other taken none)
      ]
    ]

-- a call that was not refused, that made none, or that showed a block
pub not_refused : (made : Option Event) (cause : DiskNo) → IsAnswered made → IsRefused cause made → ⊥
not_refused None cause answered refused = refused
not_refused (Some e) cause answered refused = subst IsGiven refused answered

pub shown_answered : (made : Option Event) → ShowsBlock made → IsAnswered made
shown_answered None shows = tt
shown_answered (Some e) shows = subst IsGiven (sym shows.1) tt

not_done : (made : Option Event) (call : Call) → ShowsBlock made → HasDone call made → ⊥
not_done None call shows done = done
not_done (Some e) call shows done = let both : Shows shows.0 ≡ Done = sym shows.1 ∙ done.1 in cc

-- nor did a refused call
pub refused_no_swap : (made : Option Event) (cause : DiskNo) (call : Call) → IsRefused cause made → HasDone call made → ⊥
refused_no_swap None cause call refused done = done
refused_no_swap (Some e) cause call refused done = let both : Refuses cause ≡ Done = sym refused ∙ done.1 in cc

-- so nothing was entered by it
pub shown_no_entry : (m : Moment) (key : Key) → ShowsBlock m.event → HasEntered m key → ⊥
shown_no_entry m key shows entered = not_done m.event _ shows entered.entered.2

pub entered_key : (m : Moment) (key other : Key) → HasEntered m key → HasEntered m other → other ≡ key
entered_key m key other one two = same_key other key (sym (some_same key.0 other.0 (sym one.registered ∙ two.registered)))

-- a claim that found one slot found no other
pub finds_one : (m : Moment) (of : ℕ) (one two : Slot) → ClaimFinds m of two → ShowsSlot m.geometry (kinds.Slot of) one m.event → one ≡ two
finds_one m of one two finds shows = shows_one m.geometry (kinds.Slot of) m.event one two shows finds.found

pub live_is : (m : Moment) (of : ℕ) (slot : Slot) → ShowsSlot m.geometry (kinds.Slot of) slot m.event
    → ((key : Key) (beat : ℕ) → slot ≢ slots.Live key beat) → ClaimFindsLive m of → ⊥
live_is m of slot shows other live = other live.key live.beat (finds_one m of slot (slots.Live live.key live.beat) live.found shows)

-- where no call was made, none found anything
pub no_shown : (g : Geometry) (kind : Kind) (made : Option Event) (slot : Slot) → made ≡ None → ShowsSlot g kind slot made → ⊥
no_shown g kind None slot none shows = shows.1.2
no_shown g kind (Some e) slot none shows = cc

pub no_find : (m : Moment) (of : ℕ) (slot : Slot) → m.event ≡ None → ClaimFinds m of slot → ⊥
no_find m of slot none finds = no_shown m.geometry (kinds.Slot of) m.event slot none finds.found

-- what a command on slots owes at once, where its call was not refused
no_scribble : (place k seen : ℕ) → IsOnSlot (commands.Scribble place k seen) → ⊥
no_scribble place k seen on = on

pub owes_at_once : (m : Moment) (ended : Option Answer) → IsOnSlot m.command → m.joined ≡ joined_in m.command → IsAnswered m.event
    → OwesAtOnce m ended
owes_at_once m ended on joined answered = record {
  fenced = λ refused. absurd (not_refused m.event refusals.Fenced answered refused);
  failed = λ refused. absurd (not_refused m.event refusals.Failed answered refused);
  no_keys = λ refused. absurd (not_refused m.event refusals.NoKeys answered refused);
  up = λ is here. let both : false ≡ true = sym (joined ∙ ap joined_in is) ∙ here in absurd cc;
  down = λ other down. absurd (not_down m.command other (sym joined ∙ down));
  refused = λ place k seen is here hint. absurd (no_scribble place k seen (subst IsOnSlot is on));
}
  where
    not_down : (command : Command) → command ≢ commands.Join → joined_in command ≡ false → ⊥
    not_down commands.Join other down = other refl
    not_down command other down = cc

-- where it is the last of all keys that was given before
pub owes_no_keys : (m : Moment) → m.command ≡ commands.Join → m.joined ≡ false → IsRefused refusals.NoKeys m.event
    → OwesAtOnce m (Some answers.NoKeys)
owes_no_keys m join out refused = record {
  fenced = λ other. absurd (one_refusal m.event refusals.Fenced refused other (λ e. cc));
  failed = λ other. absurd (one_refusal m.event refusals.Failed refused other (λ e. cc));
  no_keys = λ is. refl;
  up = λ is here. let both : false ≡ true = sym out ∙ here in absurd cc;
  down = λ other down. absurd (other join);
  refused = λ place k seen is here hint. let both : false ≡ true = sym out ∙ here in absurd cc;
}
  where
    one_refusal : (made : Option Event) (cause : DiskNo) → IsRefused refusals.NoKeys made → IsRefused cause made
        → refusals.NoKeys ≢ cause → ⊥
    one_refusal None cause one two other = one
    one_refusal (Some e) cause one two other = let both = sym one ∙ two in other cc

-- by the tries: no key was shown, or the one that is answered
pub owes_no_key : (m : Moment) (answer : Answer) → IsOnSlot m.command → m.now.tries.shown ≡ None → OwesAtEnd m (Some answer)
owes_no_key m answer on none = record {
  busy = λ key shown. absurd (none_some shown none);
  full = λ f i n is met. absurd (subst IsOnSlot is on);
}

pub owes_the_key : (m : Moment) (key : Key) → IsOnSlot m.command → m.now.tries.shown ≡ Some key.0 → OwesAtEnd m (Some (answers.Busy key))
owes_the_key m key on is = record {
  busy = λ other shown no_cut. ap answers.Busy (same_key key other (some_same key.0 other.0 (sym is ∙ shown)));
  full = λ f i n write met. absurd (subst IsOnSlot write on);
}

pub owes_no_log : (m : Moment) (ended : Option Answer) → IsOnSlot m.command → OwesByLog m ended
owes_no_log m ended on = record {
  nothing = λ is here none. absurd (subst IsOnSlot is on);
  full = λ is full. absurd (subst IsOnSlot is on);
}

-- by a slot each command owes what is its own alone
pub join_slot : (m : Moment) (ended : Option Answer) → m.command ≡ commands.Join
    → ((key : Key) → HasEntered m key → Gets (answers.Joined key) ended) → OwesBySlot m ended
join_slot m ended join entry = record {
  joined = λ key is entered. entry key entered;
  unseen = λ of is. absurd (let both : commands.Join ≡ commands.Look of = sym join ∙ is in cc);
  seen = λ of k is. absurd (let both : commands.Join ≡ commands.Look of = sym join ∙ is in cc);
  few = λ of is. absurd (let both : commands.Join ≡ commands.Recover of = sym join ∙ is in cc);
  live = λ of is. absurd (let both : commands.Join ≡ commands.Recover of = sym join ∙ is in cc);
  free = λ of is. absurd (let both : commands.Join ≡ commands.Recover of = sym join ∙ is in cc);
}

pub look_slot : (m : Moment) (of : ℕ) (ended : Option Answer) → m.command ≡ commands.Look of
    → (ShowsSlot m.geometry (kinds.Slot of) slots.Free m.event → Gets answers.Free ended)
    → ((n : ℕ) → HasSeen m of n → Gets (answers.Seen n) ended) → OwesBySlot m ended
look_slot m of ended look unseen seen = record {
  joined = λ key is. absurd (let both : commands.Look of ≡ commands.Join = sym look ∙ is in cc);
  unseen = λ y is shows. unseen (subst (λ z. ShowsSlot m.geometry (kinds.Slot z) slots.Free m.event) (sym (one y is)) shows);
  seen = λ y k is has. seen k (subst (λ z. HasSeen m z k) (sym (one y is)) has);
  few = λ y is. absurd (let both : commands.Look of ≡ commands.Recover y = sym look ∙ is in cc);
  live = λ y is. absurd (let both : commands.Look of ≡ commands.Recover y = sym look ∙ is in cc);
  free = λ y is. absurd (let both : commands.Look of ≡ commands.Recover y = sym look ∙ is in cc);
}
  where
    one : (y : ℕ) → m.command ≡ commands.Look y → of ≡ y
    one y is = let both : commands.Look of ≡ commands.Look y = sym look ∙ is in cc

pub recover_slot : (m : Moment) (of : ℕ) (ended : Option Answer) → m.command ≡ commands.Recover of
    → (count_of (look_at m.old.watch of) < 3 → ended ≡ Some (answers.Alive (count_of (look_at m.old.watch of))))
    → (ClaimFindsLive m of → Gets (answers.Alive 1) ended) → (ClaimFinds m of slots.Free → Gets answers.Free ended) → OwesBySlot m ended
recover_slot m of ended recover few live free = record {
  joined = λ key is. absurd (let both : commands.Recover of ≡ commands.Join = sym recover ∙ is in cc);
  unseen = λ y is. absurd (let both : commands.Recover of ≡ commands.Look y = sym recover ∙ is in cc);
  seen = λ y k is. absurd (let both : commands.Recover of ≡ commands.Look y = sym recover ∙ is in cc);
  few = λ y is here less.
      let same = one y is in
      few (subst (λ z. count_of (look_at m.old.watch z) < 3) (sym same) less)
      ∙ ap (λ (z : ℕ). Some (answers.Alive (count_of (look_at m.old.watch z)))) same;
  live = λ y is has. live (subst (λ z. ClaimFindsLive m z) (sym (one y is)) has);
  free = λ y is has. free (subst (λ z. ClaimFinds m z slots.Free) (sym (one y is)) has);
}
  where
    one : (y : ℕ) → m.command ≡ commands.Recover y → of ≡ y
    one y is = let both : commands.Recover of ≡ commands.Recover y = sym recover ∙ is in cc

-- the answer of a command comes of a slot
abbrev ComesOfSlot : Command → Type 0
ComesOfSlot commands.Leave = ⊥
ComesOfSlot commands.Beat = ⊥
ComesOfSlot command = Unit {0}

-- a `leave` and a `beat` owe nothing by a slot
pub no_slot : (m : Moment) (ended : Option Answer) → (m.command ≡ commands.Leave) ⊎ (m.command ≡ commands.Beat) → OwesBySlot m ended
no_slot m ended which = record {
  joined = λ key is. absurd (other commands.Join is tt);
  unseen = λ of is. absurd (other (commands.Look of) is tt);
  seen = λ of k is. absurd (other (commands.Look of) is tt);
  few = λ of is. absurd (other (commands.Recover of) is tt);
  live = λ of is. absurd (other (commands.Recover of) is tt);
  free = λ of is. absurd (other (commands.Recover of) is tt);
}
  where
    other : (command : Command) → m.command ≡ command → ComesOfSlot command → ⊥
    other command is owes = elim which [
      | inl leave ↦ subst ComesOfSlot (sym is ∙ leave) owes
      | inr beat ↦ subst ComesOfSlot (sym is ∙ beat) owes
    ]

taken_slot : (slot : Slot) (before after : Option Look) (look : Look) → IsLook slot before after → slot ≢ slots.Free → after ≡ Some look
    → look.slot ≡ slot
taken_slot slot None after look looked taken is =
    ap (λ (l : Look). l.slot) (some_same look _ (sym is ∙ looked.other taken (λ n e. cc)))
taken_slot slot (Some old) after look looked taken is =
    elim (two_slots old.slot slot) [
      | inl same ↦
          let was : Some old ≡ seen slot old.count = ap (λ (s : Slot). seen s old.count) same in
          ap (λ (l : Look). l.slot) (some_same look _ (sym is ∙ looked.same old.count taken was))
      | inr other ↦
          ap (λ (l : Look). l.slot) (some_same look _ (sym is ∙ looked.other taken
          (λ n e. other (ap (λ (l : Look). l.slot) (some_same old (record { slot = slot; count = n }) e)))))
    ]

-- what is remembered of a slot that was seen is that slot, which is not free
pub seen_slot : (slot : Slot) (before after : Option Look) (look : Look) → IsLook slot before after → after ≡ Some look
    → (look.slot ≡ slot) × (slot ≢ slots.Free)
seen_slot slots.Free before after look looked is = absurd (none_some is (looked.free refl))
seen_slot (slots.Live key beat) before after look looked is =
    (taken_slot (slots.Live key beat) before after look looked (λ e. cc) is, λ e. cc)
seen_slot (slots.Recovering key by) before after look looked is =
    (taken_slot (slots.Recovering key by) before after look looked (λ e. cc) is, λ e. cc)

-- a slot that is not free shows a key
pub taken_key : (slot : Slot) → IsSlot slot → slot ≢ slots.Free → slot_key slot ≢ 0
taken_key slots.Free spelled taken = absurd (taken refl)
taken_key (slots.Live key beat) spelled taken = spelled.0.0
taken_key (slots.Recovering key by) spelled taken = spelled.0.0

-- a block that a call shows is its reply
pub shown_by : (call : Call) (reply : Reply) (place : ℕ) (block : List ℕ) → shown_at call reply ≡ Some (place, block) → reply ≡ Shows block
shown_by (Reads at) (Shows there) place block is = ap (λ (x : ℕ × List ℕ). Shows x.1) (some_same (at, there) (place, block) is)
shown_by (Tests at old new) (Shows there) place block is = ap (λ (x : ℕ × List ℕ). Shows x.1) (some_same (at, there) (place, block) is)
shown_by call reply place block is = absurd cc
