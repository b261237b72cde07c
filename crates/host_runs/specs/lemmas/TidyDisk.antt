-- In a tidy run the disk agrees with what hosts have in mind: what a call, a `leave` and a registration that is refused keep.
use Rattle.std.proofs.Common.{◌≡◌, ◌≢◌, ◌<◌, ◌/◌, ◌%◌, ◌++◌, ℕ, List, [], ◌∷◌, Option, Some, None, not, refl, ap, sym, ◌∙◌, subst, inl, inr, arith}
use Rattle.std.specs.Prelude.{Contains, IsSome, nat_eq, slice_get}
use Rattle.std.proofs.lemmas.Bool.{cases_eq, ne_eqb}
use Rattle.std.proofs.lemmas.List.Elements.{Contains-append_left, Contains-append_right}
use Rattle.vol_base.specs.declared.command.Command.{Command}
use Rattle.vol_base.specs.declared.command.Command.TheVariants as commands
use Rattle.vol_layout.specs.declared.geometry.Geometry.{Geometry}
use Rattle.vol_layout.specs.declared.kind.Kind.{Kind}
use Rattle.vol_layout.specs.declared.kind.Kind.TheVariants as kinds
use Rattle.vol_layout.specs.Places.{kind_at}
use Rattle.shared_disk.specs.Calls.{after_fence, after_register, after_write, next_key}
use Rattle.shared_disk.specs.Events.{Call, Changes, Done, Event, Fences, Gives, Reads, Refuses, Registers, Reply, Shows, Tests, Writes}
use Rattle.shared_disk.specs.State.{Stands, State}
use Rattle.image_view.specs.Images.{Image}
use Rattle.image_view.specs.Valid.{IsValid}
use Rattle.host_runs.specs.CallRights.{MayFence, MayMake}
use Rattle.host_runs.specs.DeviceCalls.{OnImage}
use Rattle.host_runs.specs.Memories.{Memory, remembered, with_block, with_reply}
use Rattle.host_runs.specs.Moments.{Moment}
use Rattle.host_runs.specs.Tidy.{IsLiving}
use Rattle.host_runs.specs.lemmas.TidyStates.{AreShown, IsOnDisk, IsReader, WordSays}
use Rattle.host_runs.specs.TurnFacts.{MayMark, MaySwap, MayTest, MayWrite}
use Rattle.shared_disk.specs.laws.CalledLaws.{kept_by}
use Rattle.host_runs.specs.lemmas.OrderlyPlaced.{some_same}
use Rattle.host_runs.specs.lemmas.StepLaws.{block_key}
use Rattle.host_runs.specs.lemmas.TidyMarks.{on_both, on_weaker, on_written, some_written, swapped_lock, swapped_slot, written_says}
use Rattle.host_runs.specs.lemmas.TidyWords.{IsSameBut, KeepsPlace, block_keeps, keeps_all, keeps_same, lock_at, reader_given, says_kept, shown_written}

pub none_some : {X : Type 0} {o : Option X} {n : X} → o ≡ Some n → o ≡ None → ⊥
none_some {X = X} {o = o} {n = n} some none = let e : Some n ≡ None = sym some ∙ none in absurd cc

module _ (g : Geometry) (host : ℕ) (memories later : ℕ → Memory) (same : IsSameBut host later memories) where
  key_same : (later host).key ≡ (memories host).key → (h : ℕ) → (later h).key ≡ (memories h).key
  key_same here h =
      elim (cases_eq h host) [
        | inl at ↦ ap (λ (k : ℕ). (later k).key) at ∙ here ∙ ap (λ (k : ℕ). (memories k).key) (sym at)
        | inr other ↦ ap (λ (x : Memory). x.key) (same h other)
      ]

  -- keys and counter stay, and the host keeps its key
  disk_kept : (own : ℕ) (s t : State) → IsOnDisk g s memories → IsSome t.told → t.keys ≡ s.keys → t.counter ≡ s.counter
      → (memories host).key ≡ Some own
      → (later host).key ≡ (memories host).key → OnImage t (AreShown g later) → IsOnDisk g t later
  disk_kept own s t disk told keys counter before here shown = record {
    told = told;
    registered = λ h key is. subst (λ (ks : List ℕ). Contains ks key) (sym keys) (disk.registered h key (sym (key_same here h) ∙ is));
    own = λ h key is. disk.own h key (sym (key_same here h) ∙ is);
    given = λ h key is. let le = disk.given h key (sym (key_same here h) ∙ is) in omega (arith, le, counter);
    empty = λ h none. elim (cases_eq h host) [
      | inl at ↦ let e : Some own ≡ None = sym before ∙ sym here ∙ ap (λ (k : ℕ). (later k).key) (sym at) ∙ none in absurd cc
      | inr other ↦
          let e = same h other in
          let both = disk.empty h (sym (ap (λ (x : Memory). x.key) e) ∙ none) in
          (ap (λ (x : Memory). x.holds) e ∙ both.0, ap (λ (x : Memory). x.reads) e ∙ both.1)
    ];
    shown = shown;
  }

  all_same : later host ≡ memories host → (h : ℕ) → later h ≡ memories h
  all_same here h =
      elim (cases_eq h host) [
        | inl at ↦ ap later at ∙ here ∙ ap memories (sym at)
        | inr other ↦ same h other
      ]

  -- nothing changed
  pub disk_same : (s t : State) → IsOnDisk g s memories → t ≡ s → later host ≡ memories host → IsOnDisk g t later
  disk_same s t disk stays here =
      let equal = all_same here in
      subst (λ (u : State). IsOnDisk g u later) (sym stays)
      (record {
        told = disk.told;
        registered = λ h key is. disk.registered h key (sym (ap (λ (x : Memory). x.key) (equal h)) ∙ is);
        own = λ h key is. disk.own h key (sym (ap (λ (x : Memory). x.key) (equal h)) ∙ is);
        given = λ h key is. disk.given h key (sym (ap (λ (x : Memory). x.key) (equal h)) ∙ is);
        empty = λ h none. let both = disk.empty h (sym (ap (λ (x : Memory). x.key) (equal h)) ∙ none) in
            (ap (λ (x : Memory). x.holds) (equal h) ∙ both.0, ap (λ (x : Memory). x.reads) (equal h) ∙ both.1);
        shown = on_weaker (AreShown g memories) (AreShown g later) s.told
            (λ image shown q b is. says_kept memories later q (kind_at g q) b (λ h. keeps_same (later h) (memories h) q (equal h)) (shown q b is)) disk.shown;
      })

  -- one block was written
  disk_written : (own place : ℕ) (block : List ℕ) (s t : State) (P : Image → Type 0) → IsOnDisk g s memories → t ≡ after_write place block s
      → (memories host).key ≡ Some own
      → later host ≡ with_block (kind_at g place) host own place block (memories host) → OnImage s P
      → ((image : Image) → P image → AreShown g memories image → WordSays later place (kind_at g place) block) → IsOnDisk g t later
  disk_written own place block s t P disk wrote before here facts says =
      let key : (later host).key ≡ (memories host).key = ap (λ (x : Memory). x.key) here ∙ block_key (kind_at g place) host own place block (memories host) in
      let keeps : (q : ℕ) → q ≢ place → (h : ℕ) → KeepsPlace (later h) (memories h) q = λ q other.
      keeps_all host memories later q
      (subst (λ (x : Memory). KeepsPlace x (memories host) q) (sym here) (block_keeps (kind_at g place) host own place q block (memories host) other)) same in
      subst (λ (u : State). IsOnDisk g u later) (sym wrote)
      (disk_kept own s (after_write place block s) disk (some_written s.told place block disk.told) refl refl before key
      (on_written (λ image. P image × AreShown g memories image) (AreShown g later) s.told place block
      (λ image both. shown_written g memories later image place block both.1 keeps (says image both.0 both.1))
      (on_both P (AreShown g memories) s.told facts disk.shown)))

  -- a key was registered
  registered_says : (key counter : ℕ) (image : Image) (q : ℕ) (kind : Option Kind) (block : List ℕ) → IsValid g counter image
      → kind_at g q ≡ kind → slice_get image q ≡ Some block
      → counter < key / 16 → host < 16 → (memories host).key ≡ None → (later host).key ≡ Some key → WordSays memories q kind block
      → WordSays later q kind block
  registered_says key counter image q (Some (kinds.Lock r)) block valid kind is above small before here says = (
    λ held.
        let holder = says.0 held in
        let other : holder.0 ≢ host = λ at. none_some holder.1 (ap (λ (h : ℕ). (memories h).key) at ∙ before) in
        let e = same holder.0 other in
        (holder.0, ap (λ (x : Memory). x.key) e ∙ holder.1, subst (λ (x : Memory). Contains x.holds q) (sym e) holder.2),
    λ read h k tiny has at. elim (cases_eq h host) [
      | inl self ↦
          let mine : k ≡ key = some_same k key (sym has ∙ ap (λ (n : ℕ). (later n).key) self ∙ here) in
          let given = reader_given g counter r block h (lock_at g counter image q r block valid kind is) tiny in
          absurd (omega (arith, given, at, mine, above))
      | inr other ↦
          let e = same h other in
          subst (λ (x : Memory). IsReader x q) (sym e) (says.1 read h k tiny (sym (ap (λ (x : Memory). x.key) e) ∙ has) at)
    ],
  )
  registered_says key counter image q (Some (kinds.Slot h)) block valid kind is above small before here says =
      elim says [
        | inl free ↦ inl free
        | inr live ↦
            let other : h ≢ host = λ at. none_some live.1 (ap (λ (n : ℕ). (memories n).key) at ∙ before) in
            inr (live.0, ap (λ (x : Memory). x.key) (same h other) ∙ live.1)
      ]
  registered_says key counter image q kind block valid at is above small before here says = tt

  disk_registered : (key : ℕ) (s t : State) → IsOnDisk g s memories → OnImage s (IsValid g s.counter) → host < 16
      → (memories host).key ≡ None
      → key ≡ next_key host s → t ≡ after_register host s → later host ≡ record (memories host) { key = Some key } → IsOnDisk g t later
  disk_registered key s t disk valid small before given registered here =
      let key_here : (later host).key ≡ Some key = ap (λ (x : Memory). x.key) here in
      subst (λ (u : State). IsOnDisk g u later) (sym registered)
      (record {
        told = disk.told;
        registered = λ h k is. elim (cases_eq h host) [
          | inl self ↦
              let mine : next_key host s ≡ k = sym given ∙ some_same key k (sym key_here ∙ ap (λ (n : ℕ). (later n).key) (sym self) ∙ is) in
              subst (λ (n : ℕ). Contains (s.keys ++ next_key host s ∷ []) n) mine
              (Contains-append_right s.keys (next_key host s ∷ []) (next_key host s) (0, omega arith, refl))
          | inr other ↦ Contains-append_left s.keys (next_key host s ∷ []) k (disk.registered h k (sym (ap (λ (x : Memory). x.key) (same h other)) ∙ is))
        ];
        own = λ h k is. elim (cases_eq h host) [
          | inl self ↦
              let mine : k ≡ key = some_same k key (sym is ∙ ap (λ (n : ℕ). (later n).key) self ∙ key_here) in
              (λ zero_key. absurd (omega (arith, mine, given, zero_key)), omega (arith, mine, given, small, self))
          | inr other ↦ disk.own h k (sym (ap (λ (x : Memory). x.key) (same h other)) ∙ is)
        ];
        given = λ h k is. elim (cases_eq h host) [
          | inl self ↦
              let mine : k ≡ key = some_same k key (sym is ∙ ap (λ (n : ℕ). (later n).key) self ∙ key_here) in
              omega (arith, mine, given, small)
          | inr other ↦ let le = disk.given h k (sym (ap (λ (x : Memory). x.key) (same h other)) ∙ is) in omega (arith, le)
        ];
        empty = λ h none. elim (cases_eq h host) [
          | inl self ↦ absurd (none_some key_here (ap (λ (n : ℕ). (later n).key) (sym self) ∙ none))
          | inr other ↦
              let e = same h other in
              let both = disk.empty h (sym (ap (λ (x : Memory). x.key) e) ∙ none) in
              (ap (λ (x : Memory). x.holds) e ∙ both.0, ap (λ (x : Memory). x.reads) e ∙ both.1)
        ];
        shown = on_weaker (λ image. IsValid g s.counter image × AreShown g memories image) (AreShown g later) s.told
            (λ image both q b is. registered_says key s.counter image q (kind_at g q) b both.0 refl is (omega (arith, given, small)) small before key_here (both.1 q b is))
            (on_both (IsValid g s.counter) (AreShown g memories) s.told valid disk.shown);
      })

  -- an older key of the host was taken off
  disk_fenced : (own target : ℕ) (s t : State) → IsOnDisk g s memories → (memories host).key ≡ Some own → target % 16 ≡ host → target ≢ own
      → t ≡ after_fence target s
      → later host ≡ memories host → IsOnDisk g t later
  disk_fenced own target s t disk before of other fenced here =
      let kept = disk_same s s disk refl here in
      subst (λ (u : State). IsOnDisk g u later) (sym fenced)
      (record {
        told = kept.told;
        registered = λ h key is.
            let differs : key ≢ target = λ at.
            let mine = (kept.own h key is).1 in
            let self : h ≡ host = omega (arith, mine, of, at) in
            let own_key : key ≡ own = some_same key own (sym is ∙ ap (λ (n : ℕ). (later n).key) self ∙ ap (λ (x : Memory). x.key) here ∙ before) in
            other (sym at ∙ own_key) in
            kept_by (λ k. not (nat_eq k target)) s.keys key (kept.registered h key is) (rw (ne_eqb key target differs) refl);
        own = kept.own;
        given = kept.given;
        empty = kept.empty;
        shown = kept.shown;
      })

module _ (m : Moment) (own : ℕ) (s t : State) (memories later : ℕ → Memory) (living : IsLiving m.command) (small : m.host < 16) (disk : IsOnDisk m.geometry s memories)
    (valid : OnImage s (IsValid m.geometry s.counter)) (old : memories m.host ≡ m.old.memory) (same : IsSameBut m.host later memories) where
  own_before : m.old.memory.key ≡ Some own → (memories m.host).key ≡ Some own
  own_before key = ap (λ (x : Memory). x.key) old ∙ key

  called_write : (place : ℕ) (block : List ℕ) → m.old.memory.key ≡ Some own → MayWrite m own (kind_at m.geometry place) block
      → t ≡ after_write place block s
      → later m.host ≡ with_block (kind_at m.geometry place) m.host own place block (memories m.host) → IsOnDisk m.geometry t later
  called_write place block key may wrote here =
      let later_key : (later m.host).key ≡ Some own = ap (λ (x : Memory). x.key) here ∙ block_key (kind_at m.geometry place) m.host own place block (memories m.host) ∙ own_before key in
      disk_written m.geometry m.host memories later same own place block s t (IsValid m.geometry s.counter) disk wrote (own_before key) here valid
      (λ image is shown. written_says m own memories later later_key (kind_at m.geometry place) place block may)

  swap_says : (kind : Option Kind) (place : ℕ) (before new : List ℕ) (image : Image) → kind_at m.geometry place ≡ kind
      → (memories m.host).key ≡ Some own → MayTest m own kind before new
      → MaySwap m own kind before new → later m.host ≡ with_block kind m.host own place new (memories m.host)
      → (later m.host).key ≡ Some own
      → IsValid m.geometry s.counter image → slice_get image place ≡ Some before → WordSays memories place kind before
      → WordSays later place kind new
  swap_says (Some (kinds.Lock r)) place before new image at key test swap here later_key is stands says =
      swapped_lock m own s.counter memories later image place before new (disk.own m.host own key) r is at stands says here same later_key
      (λ h k has. (disk.own h k has).0) test swap
  swap_says (Some (kinds.Slot of)) place before new image at key test swap here later_key is stands says =
      swapped_slot m own memories later later_key of place before new living test swap says key
  swap_says kind place before new image at key test swap here later_key is stands says = tt

  called_swap : (place : ℕ) (before new : List ℕ) → m.old.memory.key ≡ Some own → MayTest m own (kind_at m.geometry place) before new
      → MaySwap m own (kind_at m.geometry place) before new
      → Stands s place before → t ≡ after_write place new s
      → later m.host ≡ with_block (kind_at m.geometry place) m.host own place new (memories m.host) → IsOnDisk m.geometry t later
  called_swap place before new key test swap stands wrote here =
      let later_key : (later m.host).key ≡ Some own = ap (λ (x : Memory). x.key) here ∙ block_key (kind_at m.geometry place) m.host own place new (memories m.host) ∙ own_before key in
      disk_written m.geometry m.host memories later same own place new s t (λ image. IsValid m.geometry s.counter image × (slice_get image place ≡ Some before)) disk wrote (own_before key) here
      (on_both (IsValid m.geometry s.counter) (λ image. slice_get image place ≡ Some before) s.told valid stands)
      (λ image both shown. swap_says (kind_at m.geometry place) place before new image refl (own_before key) test swap here later_key both.0 both.1 (shown place before both.1))

  called_fence : (command : Command) (target : ℕ) → m.command ≡ command → m.old.memory.key ≡ Some own
      → MayFence command m.host own target m.old.watch → IsLiving command
      → (command ≡ commands.Leave → ⊥) → t ≡ after_fence target s → later m.host ≡ memories m.host → IsOnDisk m.geometry t later
  called_fence commands.Leave target is key may alive no_leave fenced here = absurd (no_leave refl)
  called_fence commands.Join target is key may alive no_leave fenced here =
      disk_fenced m.geometry m.host memories later same own target s t disk (own_before key) may.0 may.1 fenced here
  called_fence (commands.Recover of) target is key may alive no_leave fenced here = absurd alive
  called_fence command target is key may alive no_leave fenced here = absurd may

  called : (call : Call) (reply : Reply) → MayMake m own call → MayMark m own call reply → Changes call reply s t
      → ((target : ℕ) → m.command ≡ commands.Leave → call ≡ Fences target → reply ≡ Done → ⊥)
      → later m.host ≡ with_reply m.geometry m.host own call reply (memories m.host) → IsOnDisk m.geometry t later
  called (Reads place) (Shows block) may marks h no_leave here = disk_same m.geometry m.host memories later same s t disk h.1 here
  called (Reads place) (Refuses cause) may marks h no_leave here = disk_same m.geometry m.host memories later same s t disk h here
  called (Writes place block) Done may marks h no_leave here = called_write place block may.0 marks h here
  called (Writes place block) (Refuses cause) may marks h no_leave here = disk_same m.geometry m.host memories later same s t disk h here
  called (Tests place before new) Done may marks h no_leave here = called_swap place before new may.0 marks.0 marks.1 h.0 h.1 here
  called (Tests place before new) (Shows block) may marks h no_leave here = disk_same m.geometry m.host memories later same s t disk h.2 here
  called (Tests place before new) (Refuses cause) may marks h no_leave here = disk_same m.geometry m.host memories later same s t disk h here
  called (Registers of) (Gives key) may marks h no_leave here =
      disk_registered m.geometry m.host memories later same key s t disk valid small (ap (λ (x : Memory). x.key) old ∙ may.2)
      (subst (λ (n : ℕ). key ≡ next_key n s) may.1 h.0) (subst (λ (n : ℕ). t ≡ after_register n s) may.1 h.1) here
  called (Registers of) (Refuses cause) may marks h no_leave here = disk_same m.geometry m.host memories later same s t disk h here
  called (Fences target) Done may marks h no_leave here =
      called_fence m.command target refl may.0 may.2 living (λ leave. no_leave target leave refl refl) h here
  called (Fences target) (Refuses cause) may marks h no_leave here = disk_same m.geometry m.host memories later same s t disk h here
  called call reply may marks h no_leave here = absurd h

-- a call of a host that does not recover another one, but the fence by which it leaves
pub disk-called : (m : Moment) (e : Event) (s t : State) (memories later : ℕ → Memory)
    → IsLiving m.command → m.host < 16
    → IsOnDisk m.geometry s memories → OnImage s (IsValid m.geometry s.counter)
    → memories m.host ≡ m.old.memory
    → MayMake m e.key e.call → MayMark m e.key e.call e.reply → Changes e.call e.reply s t
    → ((target : ℕ) → m.command ≡ commands.Leave → e.call ≡ Fences target → e.reply ≡ Done → ⊥)
    → later m.host ≡ remembered m.geometry m.host e (memories m.host) → IsSameBut m.host later memories
    → IsOnDisk m.geometry t later
disk-called m e s t memories later living small disk valid is may marks changes no_leave here same =
    called m e.key s t memories later living small disk valid is same e.call e.reply may marks changes no_leave here
