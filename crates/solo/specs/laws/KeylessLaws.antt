-- One call of a command of host 0, where the slots of all other hosts are free: they stay free, and no key of another host is shown.
use Rattle.std.proofs.Common.{◌≡◌, ◌≢◌, ◌<◌, ◌%◌, ◌==◌, ◌∙◌, ℕ, Bool, List, [], None, Option, Some, false, true, refl, ap, sym, subst, arith, inl, inr}
use Rattle.std.specs.Prelude.{◌&&◌, Contains, IfSome, not, slice_get, slice_set, if◌then◌else◌}
use Rattle.std.specs.List.{list_any}
use Rattle.std.specs.Option.{option_or}
use Rattle.std.proofs.lemmas.Bool.{cases_Bool, cases_eq, eq-eqb, eqb-true}
use Rattle.std.proofs.lemmas.List.{get_or-set_other}
use Rattle.std.proofs.lemmas.Option.{get_or_from_slice_get}
use Rattle.vol_base.specs.declared.command.Command.{Command}
use Rattle.vol_base.specs.declared.command.Command.TheVariants as commands
use Rattle.vol_layout.specs.declared.geometry.Geometry.{Geometry}
use Rattle.vol_layout.specs.declared.kind.Kind.{Kind}
use Rattle.vol_layout.specs.declared.kind.Kind.TheVariants as kinds
use Rattle.vol_layout.specs.declared.kind.Resource.{Resource}
use Rattle.vol_layout.specs.declared.kind.Resource.TheVariants.{File, Group, Part}
use Rattle.vol_layout.specs.Places.{kind_at, place_of}
use Rattle.vol_layout.specs.Ranges.{HasResource}
use Rattle.vol_layout.specs.laws.KindLaws.{kind_at-backs}
use Rattle.vol_layout.specs.laws.PlaceLaws.{kind_at-place}
use Rattle.shared_disk.specs.Calls.{after_write}
use Rattle.shared_disk.specs.Events.{Acts, Call, Changes, Done, Event, Fences, Gives, Reads, Refuses, Registers, Reply, Shows, Tests, Writes}
use Rattle.shared_disk.specs.State.{State, Told}
use Rattle.slot_lock_blocks.specs.declared.slot.Slot.{Slot}
use Rattle.slot_lock_blocks.specs.declared.slot.Slot.TheVariants as slots
use Rattle.slot_lock_blocks.specs.Slots.{slot_key, slot_state}
use Rattle.slot_lock_blocks.specs.laws.SlotLaws.{slot_numbers}
use Rattle.image_view.specs.HostKeys.{lock_key_at, lock_state_at, slot_key_at, slot_state_at}
use Rattle.image_view.specs.Images.{Image, block_at}
use Rattle.image_view.specs.Valid.{IsValid}
use Rattle.disk_locks.specs.Consistent.{Consistent}
use Rattle.disk_locks.specs.Sure.{BothTold}
use Rattle.host_facts.specs.Finds.{Finds}
use Rattle.host_facts.specs.Views.{WorldView}
use Rattle.host_facts.specs.laws.FindsLaws as finding
use Rattle.host_facts.specs.laws.FoundLaws.{joined_found}
use Rattle.host_facts.specs.laws.ToldLaws.{all_told, both_of, both_written, join_told, map_told}
use Rattle.host_notes.specs.Allowed.{IsAllowed}
use Rattle.host_runs.specs.CallRights.{MayMake}
use Rattle.host_runs.specs.FileUses.{ToWrite, Try, try_of}
use Rattle.host_runs.specs.Moments.{Moment}
use Rattle.host_runs.specs.Notes.{Notes}
use Rattle.host_runs.specs.Tries.{Tries, frees_locks, holder_in, not_own, reader_shows, showing, tried_by, with_changed, with_file, with_found, with_read, with_slot}
use Rattle.host_runs.specs.TurnFacts.{MayMark, MayTest, MayWrite}
use Rattle.host_runs.specs.Words.{key_in, reader_in, state_in}
use Rattle.lock_store.specs.Views.{counter_of, host_at, key_at, keys_of, told_of}
use Rattle.recover_plan.specs.Replays.{SlotsStay}
use Rattle.recover_plan.specs.laws.StepLaws.{slots_same}
use Rattle.solo.specs.Alone.{AreFree}
use Rattle.solo.specs.Commands.{IsTame}
use Rattle.solo.specs.laws.OwnCalls.{call_moment}

-- what a call shows stands there
abbrev pub StandsIn : Image → Call → Reply → Type 0
StandsIn image (Reads place) (Shows block) = slice_get image place ≡ Some block
StandsIn image (Tests place old new) (Shows block) = (slice_get image place ≡ Some block) × (block ≢ old)
StandsIn image call reply = Unit {0}

stands_in : (s t : State) (call : Call) (reply : Reply) → Changes call reply s t → IfSome s.told (λ told. StandsIn told.image call reply)
stands_in s t (Reads place) (Shows block) changes = changes.0
stands_in s t (Tests place old new) (Shows block) changes = map_told s.told _ _ changes.0 (λ told stands. (stands, changes.1))
stands_in s t call reply changes = all_told s.told _ (λ told. tt)

-- a block that is written behind the slots of other hosts
slot_apart : (g : Geometry) (image : Image) (place y : ℕ) (block : List ℕ) → place_of g (kinds.Slot y) ≢ place
    → block_at g (slice_set image place block) (kinds.Slot y) ≡ block_at g image (kinds.Slot y)
unfolding block_at
slot_apart g image place y block apart = get_or-set_other image place (place_of g (kinds.Slot y)) block [] apart

-- the slots of other hosts stay, in a command that neither joins nor recovers
module _ (u w : WorldView) (m : Moment) (host : m.host ≡ 0) (tame : IsTame m.command) (geometry : m.geometry ≡ u.locks.geometry) where
  put : (place : ℕ) (block : List ℕ)
      → ((y : ℕ) → y ≢ 0 → y < u.locks.geometry.hosts → place_of u.locks.geometry (kinds.Slot y) ≢ place)
      → w.locks.disk.state ≡ after_write place block u.locks.disk.state → SlotsStay u w 0
  put place block apart wrote =
      both_of (told_of u.locks) (told_of w.locks) (λ i j. j ≡ slice_set i place block) _
      (both_written u.locks.disk.state w.locks.disk.state place block wrote)
      (λ i j now y below other. rw now (slot_apart u.locks.geometry i place y block (apart y other below)))

  -- the kind of a slot's place
  slot_kind : (place y : ℕ) → y < u.locks.geometry.hosts → place_of u.locks.geometry (kinds.Slot y) ≡ place
      → kind_at m.geometry place ≡ Some (kinds.Slot y)
  slot_kind place y below at =
      ap (λ (g : Geometry). kind_at g place) geometry ∙ ap (kind_at u.locks.geometry) (sym at)
      ∙ kind_at-place u.locks.geometry (kinds.Slot y) below

  slots_kept : (k : ℕ) (call : Call) (reply : Reply) → MayMake m k call → MayMark m k call reply
      → Changes call reply u.locks.disk.state w.locks.disk.state → SlotsStay u w 0
  slots_kept k call (Refuses cause) made marks changes = slots_same u w 0 (ap (λ (s : State). s.told) changes)
  slots_kept k (Reads place) (Shows block) made marks changes = slots_same u w 0 (ap (λ (s : State). s.told) changes.1)
  slots_kept k (Writes place block) Done made marks changes =
      put place block
      (λ y other below at. other ((subst (λ (o : Option Kind). MayWrite m k o block) (slot_kind place y below at) marks).0 ∙ host))
      changes
  slots_kept k (Tests place old new) Done made marks changes =
      put place new
      (λ y other below at. elim (subst (λ (o : Option Kind). MayTest m k o old new) (slot_kind place y below at) marks.0) [
        | inl own ↦ other (own ∙ host)
        | inr recovers ↦ subst IsTame recovers tame
      ])
      changes.1
  slots_kept k (Tests place old new) (Shows block) made marks changes = slots_same u w 0 (ap (λ (s : State). s.told) changes.2)
  slots_kept k (Registers of) (Gives key) made marks changes = absurd (subst IsTame made.0 tame)
  slots_kept k (Fences target) Done made marks changes = slots_same u w 0 (ap (λ (s : State). s.told) changes)
  slots_kept k call reply made marks changes = absurd changes

-- a slot's state is in its bytes
pub state_kept : (g : Geometry) (i j : Image) (y : ℕ) → block_at g j (kinds.Slot y) ≡ block_at g i (kinds.Slot y)
    → slot_state_at g j y ≡ slot_state_at g i y
unfolding slot_state_at
state_kept g i j y same = ap state_in same

-- so free slots that stay are free
free_kept : (u w : WorldView) → w.locks.geometry ≡ u.locks.geometry → SlotsStay u w 0 → AreFree u u.locks.geometry.hosts
    → AreFree w w.locks.geometry.hosts
free_kept u w same stay free = go (told_of u.locks) (told_of w.locks) w.locks.geometry same stay free
  where
    go : (old new : Option Told) (g : Geometry) → g ≡ u.locks.geometry
        → BothTold old new (λ i j. (y : ℕ) → y < u.locks.geometry.hosts → y ≢ 0
        → block_at u.locks.geometry j (kinds.Slot y) ≡ block_at u.locks.geometry i (kinds.Slot y))
        → IfSome old (λ t. (y : ℕ) → y ≢ 0 → y < u.locks.geometry.hosts → y < u.locks.geometry.hosts
        → slot_state_at u.locks.geometry t.image y ≡ 0)
        → IfSome new (λ t. (y : ℕ) → y ≢ 0 → y < g.hosts → y < g.hosts → slot_state_at g t.image y ≡ 0)
    go None None g is stay free = tt
    go None (Some t) g is stay free = absurd stay
    go (Some s) None g is stay free = tt
    go (Some s) (Some t) g is stay free = λ y other below small.
        let near = subst (λ (x : Geometry). y < x.hosts) is small in
        subst (λ (x : Geometry). slot_state_at x t.image y ≡ 0) (sym is)
        (state_kept u.locks.geometry s.image t.image y (stay y near other) ∙ free y other near near)

-- a slot that is free shows no key
slot_keyless : (slot : Slot) → slot_state slot ≡ 0 → slot_key slot ≡ 0
slot_keyless slots.Free is = refl
slot_keyless (slots.Live key beat) is = absurd (omega (arith, is))
slot_keyless (slots.Recovering key by) is = absurd (omega (arith, is))

free_keyless : (g : Geometry) (counter : ℕ) (image : Image) (h : ℕ) → IsValid g counter image → h < g.hosts → slot_state_at g image h ≡ 0
    → slot_key_at g image h ≡ 0
unfolding slot_state_at slot_key_at
free_keyless g counter image h valid below free =
    let slot = valid.slots h below in
    let numbers = slot_numbers (block_at g image (kinds.Slot h)) slot.slot slot.spelled in
    numbers.key ∙ slot_keyless slot.slot (sym numbers.state ∙ free)

-- an image in which all slots are free but the own one, which shows the own key
pub record IsAloneIn (g : Geometry) (counter own : ℕ) (image : Image) : Type 0 where
  pub valid : IsValid g counter image
  pub mine : slot_key_at g image 0 ≡ own
  pub free : (y : ℕ) → y ≢ 0 → y < g.hosts → slot_state_at g image y ≡ 0

own_hidden : (own : ℕ) → not_own own (Some own) ≡ None
own_hidden own = rw (eq-eqb own own refl) refl

module _ (g : Geometry) (counter own : ℕ) (image : Image) (alone : IsAloneIn g counter own image) where
  -- a lock is held by the own key alone
  holder : (r : Resource) → HasResource g r → lock_state_at g image r ≡ 1 → lock_key_at g image r ≡ own
  holder r has held =
      let shown = alone.valid.held.locks r has held in
      let y = lock_key_at g image r % 16 in
      elim (cases_eq y 0) [
        | inl zero_ ↦ sym shown.shown ∙ ap (slot_key_at g image) zero_ ∙ alone.mine
        | inr other ↦
            absurd (shown.some (sym shown.shown ∙ free_keyless g counter image y alone.valid shown.host (alone.free y other shown.host)))
      ]

  pub lock_word : (r : Resource) (place : ℕ) (word : List ℕ) → kind_at g place ≡ Some (kinds.Lock r) → slice_get image place ≡ Some word
      → HasResource g r × (block_at g image (kinds.Lock r) ≡ word)
  unfolding block_at
  lock_word r place word kind is =
      let backs = kind_at-backs g place (kinds.Lock r) kind in (
        backs.0,
        get_or_from_slice_get image (place_of g (kinds.Lock r)) word [] (ap (slice_get image) (sym backs.1) ∙ is),
      )

  slot_block : (y place : ℕ) (word : List ℕ) → kind_at g place ≡ Some (kinds.Slot y) → slice_get image place ≡ Some word
      → (y < g.hosts) × (block_at g image (kinds.Slot y) ≡ word)
  unfolding block_at
  slot_block y place word kind is =
      let backs = kind_at-backs g place (kinds.Slot y) kind in (
        backs.0,
        get_or_from_slice_get image (place_of g (kinds.Slot y)) word [] (ap (slice_get image) (sym backs.1) ∙ is),
      )

  -- so a word that stands there shows no other holder
  pub holder_hidden : (r : Resource) (word : List ℕ) → HasResource g r → block_at g image (kinds.Lock r) ≡ word
      → not_own own (holder_in word) ≡ None
  unfolding lock_state_at lock_key_at
  holder_hidden r word has at = elim (cases_Bool (state_in word == 1)) [
    | inl held ↦
        let state : lock_state_at g image r ≡ 1 = ap state_in at ∙ eqb-true (state_in word) 1 held in
        let key : key_in word ≡ own = sym (ap key_in at) ∙ holder r has state in
        rw (held, key) (own_hidden own)
    | inr other ↦ rw other refl
  ]

  key_there : (y : ℕ) (slot : List ℕ) → block_at g image (kinds.Slot y) ≡ slot → slot_key_at g image y ≡ key_in slot
  unfolding slot_key_at
  key_there y slot at = ap key_in at

  state_there : (y : ℕ) (slot : List ℕ) → block_at g image (kinds.Slot y) ≡ slot → slot_state_at g image y ≡ state_in slot
  unfolding slot_state_at
  state_there y slot at = ap state_in at

  -- and a slot no other reader
  slot_hidden : (y : ℕ) (slot : List ℕ) (found : Option (List ℕ)) → y < g.hosts → block_at g image (kinds.Slot y) ≡ slot
      → not_own own (reader_shows y found slot) ≡ None
  slot_hidden y slot None below at = refl
  slot_hidden y slot (Some word) below at = elim (cases_eq y 0) [
    | inl zero_ ↦ own_slot (key_in slot == reader_in word y) (state_in slot == 0) (mine zero_)
    | inr other ↦ rw (free other) refl
  ]
    where
      mine : y ≡ 0 → key_in slot ≡ own
      mine zero_ = sym (key_there y slot at) ∙ ap (slot_key_at g image) zero_ ∙ alone.mine

      free : y ≢ 0 → state_in slot ≡ 0
      free other = sym (state_there y slot at) ∙ alone.free y other below

      own_slot : (b c : Bool) → key_in slot ≡ own
          → not_own own (if (not c && b) then Some (key_in slot) else None) ≡ None
      own_slot true true is = refl
      own_slot true false is = rw is (own_hidden own)
      own_slot false true is = refl
      own_slot false false is = refl

  -- a command of which the lock of a file shows no key shows none by any call
  module _ (h : ℕ) (m : Moment) (command : Command) (tame : IsTame command) (claims : List ℕ) (tries : Tries) (none : tries.shown ≡ None)
      (file_hidden : (e : ℕ) (old new word : List ℕ) (k : ℕ) → HasResource g (File e) → MayTest m k (Some (kinds.Lock (File e))) old new
      → block_at g image (kinds.Lock (File e)) ≡ word → word ≢ old → (with_file (try_of command) own word tries).shown ≡ None) where
    first_none : (o : Option ℕ) → o ≡ None → option_or tries.shown o ≡ None
    first_none o is = ap (λ x. option_or x o) none ∙ is

    shared_none : (frees : Bool) (o : Option ℕ) → not_own own o ≡ None → (if frees then tries else showing own o tries).shown ≡ None
    shared_none true o is = none
    shared_none false o is = first_none (not_own own o) is

    slot_none : (c : Command) (claimed : Bool) (word : List ℕ) → IsTame c → (if claimed then tries else with_slot c h own word tries).shown ≡ None
    slot_none c true word is = none
    slot_none commands.Join false word is = absurd is
    slot_none (commands.Recover of) false word is = absurd is
    slot_none c false word is = none

    found_none : (kind : Option Kind) (place k : ℕ) (old new word : List ℕ) → kind_at g place ≡ kind → MayTest m k kind old new
        → slice_get image place ≡ Some word → word ≢ old → (with_found kind command h own claims word tries).shown ≡ None
    found_none (Some (kinds.Lock (File e))) place k old new word kind marks is apart =
        let at = lock_word (File e) place word kind is in file_hidden e old new word k at.0 marks at.1 apart
    found_none (Some (kinds.Lock (Part p))) place k old new word kind marks is apart =
        let at = lock_word (Part p) place word kind is in
        shared_none (frees_locks command) (holder_in word) (holder_hidden (Part p) word at.0 at.1)
    found_none (Some (kinds.Lock (Group q))) place k old new word kind marks is apart =
        let at = lock_word (Group q) place word kind is in
        shared_none (frees_locks command) (holder_in word) (holder_hidden (Group q) word at.0 at.1)
    found_none (Some (kinds.Slot y)) place k old new word kind marks is apart =
        slot_none command (list_any (λ claimed. claimed == y) claims) word tame
    found_none kind place k old new word at marks is apart = none

    read_none : (kind : Option Kind) (try : Option Try) (place : ℕ) (slot : List ℕ) → kind_at g place ≡ kind → slice_get image place ≡ Some slot
        → (with_read kind try own slot tries).shown ≡ None
    read_none (Some (kinds.Slot y)) (Some ToWrite) place slot kind is =
        let at = slot_block y place slot kind is in first_none (not_own own (reader_shows y tries.found slot)) (slot_hidden y slot tries.found at.0 at.1)
    read_none kind try place slot at is = none

    changed_none : (kind : Option Kind) → (with_changed kind tries).shown ≡ None
    changed_none (Some (kinds.Lock (File e))) = none
    changed_none kind = none

    pub shows_none : (k : ℕ) (call : Call) (reply : Reply) → m.geometry ≡ g → MayMark m k call reply → StandsIn image call reply
        → (tried_by g h command claims own call reply tries).shown ≡ None
    shows_none k (Tests at old new) (Shows word) same marks is =
        found_none (kind_at g at) at k old new word refl
        (subst (λ (x : Geometry). MayTest m k (kind_at x at) old new) same marks) is.0 is.1
    shows_none k (Tests at old new) Done same marks is = changed_none (kind_at g at)
    shows_none k (Writes at block) Done same marks is = changed_none (kind_at g at)
    shows_none k (Reads at) (Shows block) same marks is = read_none (kind_at g at) (try_of command) at block refl is
    shows_none k call reply same marks is = none

-- a call that a turn of a host may make that is in
module _ (command : Command) (tame : IsTame command) (u w : WorldView) (e : Event) (n : Notes) (free : AreFree u u.locks.geometry.hosts)
    (acts : Acts e u.locks.disk w.locks.disk) where
  -- free slots stay free
  pub free_on : IsAllowed (call_moment command 0 u w e None n) e → w.locks.geometry ≡ u.locks.geometry → AreFree w w.locks.geometry.hosts
  free_on allowed same =
      free_kept u w same
      (slots_kept u w (call_moment command 0 u w e None n) refl tame refl e.key e.call e.reply allowed.made allowed.marks acts.changes) free

  -- and where the device tells its image, the host is alone in it, and what the call showed stands there
  pub told_alone : Consistent u.locks → (host_at u.locks 0).joined ≡ true → Contains (keys_of u.locks) (key_at u.locks 0)
      → IfSome (told_of u.locks)
      (λ t. IsAloneIn u.locks.geometry (counter_of u.locks) (key_at u.locks 0) t.image × StandsIn t.image e.call e.reply)
  told_alone is joined registered =
      join_told (told_of u.locks) _ _ _
      (join_told (told_of u.locks) _ _ _ (finding.found u.locks 0 is registered) free (λ t finds slots. alone_in t.image finds slots))
      (stands_in u.locks.disk.state w.locks.disk.state e.call e.reply acts.changes) (λ t a b. (a, b))
    where
      alone_in : (image : Image) → Finds u.locks 0 image
          → ((y : ℕ) → y ≢ 0 → y < u.locks.geometry.hosts → y < u.locks.geometry.hosts → slot_state_at u.locks.geometry image y ≡ 0)
          → IsAloneIn u.locks.geometry (counter_of u.locks) (key_at u.locks 0) image
      alone_in image finds slots = record {
        valid = finds.agrees.valid;
        mine = joined_found u.locks 0 image finds joined;
        free = λ y other below. slots y other below below;
      }
