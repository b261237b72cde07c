-- In a tidy run the tries of a command show no key, whatever its calls are.
use Rattle.std.proofs.Common.{◌≡◌, ◌≢◌, ◌+◌, ◌==◌, ◌⊎◌, ℕ, false, List, Option, Some, None, refl, ap, sym, ◌∙◌, subst, inl, inr, is_some, true≢false}
use Rattle.std.specs.Prelude.{IfSome, IsSome, slice_get, option_map, if◌then◌else◌}
use Rattle.std.specs.List.{list_any}
use Rattle.std.proofs.lemmas.Bool.{cases_Bool, cases_eq}
use Rattle.vol_base.specs.declared.command.Command.{Command}
use Rattle.vol_base.specs.declared.command.Command.TheVariants as commands
use Rattle.vol_layout.specs.declared.geometry.Geometry.{Geometry}
use Rattle.vol_layout.specs.declared.kind.Kind.{Kind}
use Rattle.vol_layout.specs.declared.kind.Kind.TheVariants as kinds
use Rattle.vol_layout.specs.declared.kind.Resource.TheVariants as resources
use Rattle.vol_layout.specs.Places.{kind_at}
use Rattle.shared_disk.specs.Calls.{after_write, told_after}
use Rattle.shared_disk.specs.Events.{Call, Changes, Done, Fences, Gives, Reads, Refuses, Registers, Reply, Shows, Tests, Writes}
use Rattle.shared_disk.specs.State.{State, Told}
use Rattle.image_view.specs.Valid.{IsValid}
use Rattle.host_runs.specs.DeviceCalls.{OnImage}
use Rattle.host_runs.specs.FileUses.{Try, ToRelease, ToWrite, file_tried, file_used, try_of}
use Rattle.host_runs.specs.Memories.{AreFileLocks, HasFile, Memory}
use Rattle.host_runs.specs.Moments.{Moment}
use Rattle.host_runs.specs.Tidy.{IsLiving}
use Rattle.host_runs.specs.lemmas.TidyStates.{AreShown, IsFoundStill, IsHolder, IsOnDisk, IsReadAlone, WordSays}
use Rattle.host_runs.specs.Tries.{Tries, file_shows, frees_locks, holder_in, join_shows, reader_shows, showing, tried_by, with_changed, with_file, with_found, with_read, with_slot}
use Rattle.host_runs.specs.TurnFacts.{MayMark, MayTest, MayTestLock}
use Rattle.host_runs.specs.Words.{key_in, reader_in, state_in}
use Rattle.host_runs.specs.laws.GetLaws.{get_set-other}
use Rattle.vol_layout.specs.laws.KindLaws.{kind_at-backs}
use Rattle.host_runs.specs.lemmas.OrderlyPlaced.{some_same}
use Rattle.host_runs.specs.lemmas.TidyDisk.{none_some}
use Rattle.host_runs.specs.lemmas.TidyTries.{file_hidden, holder_hidden, reader_hidden, showing_none, slot_hidden}
use Rattle.host_runs.specs.lemmas.TidyWords.{lock_at, no_readers}

-- what the tries of a command say while it is under way
pub record FitTries (g : Geometry) (host : ℕ) (command : Command) (memories : ℕ → Memory) (state : State) (tries : Tries) : Type 0 where
  pub shown : tries.shown ≡ None
  pub counted : IsSome (try_of command) → tries.found ≡ None → tries.count ≡ 0
  pub found : (f : ℕ) (word : List ℕ) → file_tried command ≡ Some f → tries.found ≡ Some word → IsFoundStill g state f word
  pub alone : (f : ℕ) (word : List ℕ) → file_used command ≡ Some f → tries.found ≡ Some word → IsReadAlone memories host word

-- what is known of the other hosts
pub record OthersRest (g : Geometry) (host : ℕ) (command : Command) (memories : ℕ → Memory) : Type 0 where
  pub files : (k : ℕ) → k ≢ host → AreFileLocks g (memories k).holds
  pub stay : (k : ℕ) → k ≢ host → (memories k).left ≡ false
  pub holds : (k f : ℕ) → k ≢ host → file_used command ≡ Some f → HasFile g (memories k).holds f → ⊥
  pub reads : (k f : ℕ) → k ≢ host → file_used command ≡ Some f → HasFile g (memories k).reads f → ⊥

-- a command that does not give a file back uses the file that it tries
used_of : (command : Command) (try : Try) → try_of command ≡ Some try → try ≢ ToRelease → file_used command ≡ file_tried command
used_of (commands.Close f) try is other = absurd (other (sym (some_same ToRelease try is)))
used_of command try is other = refl

write_uses : (command : Command) → try_of command ≡ Some ToWrite → (f : ℕ) × (file_used command ≡ Some f)
write_uses (commands.Create f) is = (f, refl)
write_uses (commands.Size f n) is = (f, refl)
write_uses (commands.Write f i n) is = (f, refl)
write_uses (commands.Punch f i) is = (f, refl)
write_uses (commands.Remove f) is = (f, refl)
write_uses (commands.Scan f i) is = (f, refl)
write_uses command is = absurd cc

tried_of : (command : Command) (f : ℕ) → file_used command ≡ Some f → file_tried command ≡ Some f
tried_of (commands.Close of) f is = absurd cc
tried_of command f is = is

-- only one place has the lock of a file
one_place : (g : Geometry) (p q f : ℕ) → kind_at g p ≡ Some (kinds.Lock (resources.File f))
    → kind_at g q ≡ Some (kinds.Lock (resources.File f)) → p ≡ q
one_place g p q f a b = (kind_at-backs g p (kinds.Lock (resources.File f)) a).1 ∙ sym (kind_at-backs g q (kinds.Lock (resources.File f)) b).1

-- a content that did not change, or changed at a place that is no file's lock
found_told : (g : Geometry) (f : ℕ) (word : List ℕ) (s t : State) → t.told ≡ s.told → IsFoundStill g s f word → IsFoundStill g t f word
found_told g f word s t same still =
    subst (λ (o : Option Told). IfSome o (λ told. (place : ℕ) → kind_at g place ≡ Some (kinds.Lock (resources.File f)) → slice_get told.image place ≡ Some word)) (sym same) still

found_written : (g : Geometry) (f place : ℕ) (word block : List ℕ) (told : Option Told)
    → (kind_at g place ≡ Some (kinds.Lock (resources.File f)) → ⊥)
    → IfSome told (λ x. (q : ℕ) → kind_at g q ≡ Some (kinds.Lock (resources.File f)) → slice_get x.image q ≡ Some word)
    → IfSome (option_map (told_after place block) told) (λ x. (q : ℕ) → kind_at g q ≡ Some (kinds.Lock (resources.File f)) → slice_get x.image q ≡ Some word)
found_written g f place word block None other still = tt
found_written g f place word block (Some x) other still =
    λ q kind. get_set-other x.image place q block (λ same. other (subst (λ (n : ℕ). kind_at g n ≡ Some (kinds.Lock (resources.File f))) same kind)) ∙ still q kind

module _ (m : Moment) (own : ℕ) (memories : ℕ → Memory) (s t : State) (living : IsLiving m.command) (disk : IsOnDisk m.geometry s memories)
    (valid : OnImage s (IsValid m.geometry s.counter)) (others : OthersRest m.geometry m.host m.command memories)
    (fit : FitTries m.geometry m.host m.command memories s m.old.tries) where
  -- the content did not change, nor what was found
  fit_same : (later : Tries) → t.told ≡ s.told → later.shown ≡ None → later.found ≡ m.old.tries.found
      → (IsSome (try_of m.command) → later.count ≡ m.old.tries.count)
      → FitTries m.geometry m.host m.command memories t later
  fit_same later told shown found count = record {
    shown = shown;
    counted = λ some none. count some ∙ fit.counted some (sym found ∙ none);
    found = λ f word is at. found_told m.geometry f word s t told (fit.found f word is (sym found ∙ at));
    alone = λ f word is at. fit.alone f word is (sym found ∙ at);
  }

  fit_still : t.told ≡ s.told → FitTries m.geometry m.host m.command memories t m.old.tries
  fit_still told = fit_same m.old.tries told fit.shown refl (λ some. refl)

  -- one block was written
  fit_changed : (kind : Option Kind) (place : ℕ) (block : List ℕ) → kind_at m.geometry place ≡ kind → t ≡ after_write place block s
      → FitTries m.geometry m.host m.command memories t (with_changed kind m.old.tries)
  fit_changed (Some (kinds.Lock (resources.File f))) place block is wrote = record {
    shown = fit.shown;
    counted = λ some none. refl;
    found = λ f' word tries at. absurd (none_some at refl);
    alone = λ f' word tries at. absurd (none_some at refl);
  }
  fit_changed kind place block is wrote = record {
    shown = fit.shown;
    counted = fit.counted;
    found = λ f word tries at. subst (λ (u : State). IsFoundStill m.geometry u f word) (sym wrote)
        (found_written m.geometry f place word block s.told (λ lock. let e = sym is ∙ lock in cc) (fit.found f word tries at));
    alone = fit.alone;
  }

  -- a block was read
  fit_read : (kind : Option Kind) (try : Option Try) (place : ℕ) (block : List ℕ) → try_of m.command ≡ try → t.told ≡ s.told
      → (memories m.host).key ≡ Some own
      → WordSays memories place kind block → FitTries m.geometry m.host m.command memories t (with_read kind try own block m.old.tries)
  fit_read (Some (kinds.Slot of)) (Some ToWrite) place block is told key says =
      let uses = write_uses m.command is in
      fit_same (showing own (reader_shows of m.old.tries.found block) m.old.tries) told
      (showing_none own (reader_shows of m.old.tries.found block) m.old.tries fit.shown
      (reader_hidden m.geometry m.host own memories key of place m.old.tries.found block says (λ h k has. (disk.own h k has).1)
      (λ word at. fit.alone uses.0 word uses.1 at)))
      refl (λ some. refl)
  fit_read kind try place block is told key says = fit_still told

  module _ (x : Told) (told_s : s.told ≡ Some x) (told_t : t.told ≡ s.told) (key : (memories m.host).key ≡ Some own) (valid_x : IsValid m.geometry s.counter x.image)
      (place : ℕ) (before new block : List ℕ) (stands : slice_get x.image place ≡ Some block) (other : block ≢ before) where
    found_at : (f : ℕ) (word : List ℕ) → IsFoundStill m.geometry s f word → kind_at m.geometry place ≡ Some (kinds.Lock (resources.File f))
        → slice_get x.image place ≡ Some word
    found_at f word still kind =
        (subst (λ (o : Option Told). IfSome o (λ y. (q : ℕ) → kind_at m.geometry q ≡ Some (kinds.Lock (resources.File f)) → slice_get y.image q ≡ Some word)) told_s still) place kind

    -- a test-and-set that failed is the first one
    is_first : (f : ℕ) (found : Option (List ℕ)) → m.old.tries.found ≡ found
        → kind_at m.geometry place ≡ Some (kinds.Lock (resources.File f)) → file_tried m.command ≡ Some f
        → IfSome found (λ word. before ≡ word) → m.old.tries.found ≡ None
    is_first f None at kind tries again = at
    is_first f (Some word) at kind tries again =
        let there = found_at f word (fit.found f word tries at) kind in
        absurd (other (some_same block word (sym stands ∙ there) ∙ sym again))

    fit_file : (f : ℕ) (try : Option Try) → kind_at m.geometry place ≡ Some (kinds.Lock (resources.File f)) → try_of m.command ≡ try
        → WordSays memories place (Some (kinds.Lock (resources.File f))) block → MayTestLock m own (resources.File f) before new
        → FitTries m.geometry m.host m.command memories t (with_file try own block m.old.tries)
    fit_file f None kind is says test = fit_still told_t
    fit_file f (Some try) kind is says test =
        let again = test.again f refl (ap is_some is) in
        let first = is_first f m.old.tries.found refl kind again.0 again.1 in
        let hidden = file_hidden m.geometry m.host own memories key try place m.old.tries block (fit.counted (ap is_some is) first)
        (λ takes. holder_hidden m.geometry m.host own memories key place block says.0
        (λ k differs has. others.holds k f differs (used_of m.command try is takes ∙ again.0) (place, kind, has))) in
        record {
          shown = showing_none own (file_shows try own m.old.tries block) m.old.tries fit.shown hidden;
          counted = λ some none. absurd (none_some refl none);
          found = λ f' word tries at.
              let same : f ≡ f' = some_same f f' (sym again.0 ∙ tries) in
              subst (λ (o : Option Told). IfSome o (λ y. (q : ℕ) → kind_at m.geometry q ≡ Some (kinds.Lock (resources.File f')) → slice_get y.image q ≡ Some word)) (sym (told_t ∙ told_s))
              (λ q lock. ap (slice_get x.image) (sym (one_place m.geometry place q f' (kind ∙ ap (λ (n : ℕ). Some (kinds.Lock (resources.File n))) same) lock)) ∙ stands ∙ at);
          alone = λ f' word uses at h k tiny differs has reader.
              let same : f ≡ f' = some_same f f' (sym again.0 ∙ tried_of m.command f' uses) in
              let uses_f : file_used m.command ≡ Some f = uses ∙ ap (λ (n : ℕ). Some n) (sym same) in
              let its : reader_in block h ≡ k = ap (λ (b : List ℕ). reader_in b h) (some_same block word at) ∙ reader in
              elim (cases_eq (state_in block) 2) [
                | inl read ↦ elim (says.1 read h k tiny has its) [
                  | inl reads ↦ others.reads h f differs uses_f (place, kind, reads)
                  | inr left ↦ absurd (true≢false (sym left ∙ others.stay h differs))
                ]
                | inr not_read ↦
                    absurd ((disk.own h k has).0 (sym its ∙ no_readers m.geometry s.counter (resources.File f) block h
                    (lock_at m.geometry s.counter x.image place (resources.File f) block valid_x kind stands) not_read tiny))
              ];
        }

    -- a lock of a part or of a group
    fit_lock : (kind : Kind) → kind_at m.geometry place ≡ Some kind → ((f : ℕ) → kind ≢ kinds.Lock (resources.File f))
        → (state_in block ≡ 1 → IsHolder memories place (key_in block))
        → FitTries m.geometry m.host m.command memories t (if frees_locks m.command then m.old.tries else showing own (holder_in block) m.old.tries)
    fit_lock kind is differs says =
        elim (cases_Bool (frees_locks m.command)) [
          | inl frees ↦ rw frees (fit_still told_t)
          | inr takes ↦
              rw takes
              (fit_same (showing own (holder_in block) m.old.tries) told_t
              (showing_none own (holder_in block) m.old.tries fit.shown
              (holder_hidden m.geometry m.host own memories key place block says
              (λ k at has. let file = others.files k at place has in differs file.0 (some_same kind (kinds.Lock (resources.File file.0)) (sym is ∙ file.1)))))
              refl (λ some. refl))
        ]

    fit_slot : (of : ℕ) (command : Command) → m.command ≡ command → IsLiving command → (of ≡ m.host) ⊎ (m.command ≡ commands.Recover of)
        → WordSays memories place (Some (kinds.Slot of)) block
        → FitTries m.geometry m.host m.command memories t (with_slot command m.host own block m.old.tries)
    fit_slot of commands.Join is alive test says =
        let self : of ≡ m.host = elim test [ inl same ↦ same | inr recovers ↦ let e : commands.Join ≡ commands.Recover of = sym is ∙ recovers in absurd cc ] in
        fit_same (record (showing own (join_shows m.host m.old.tries block) m.old.tries) { count = m.old.tries.count + 1 }) told_t
        (showing_none own (join_shows m.host m.old.tries block) m.old.tries fit.shown
        (slot_hidden m.geometry m.host own memories key place block m.old.tries (subst (λ (h : ℕ). WordSays memories place (Some (kinds.Slot h)) block) self says)))
        refl (λ some. let none = ap (λ (c : Command). is_some (try_of c)) is in absurd (true≢false (sym some ∙ none)))
    fit_slot of (commands.Recover h) is alive test says = absurd alive
    fit_slot of command is alive test says = fit_still told_t

    -- a test-and-set found another block
    fit_found : (kind : Option Kind) → kind_at m.geometry place ≡ kind → WordSays memories place kind block → MayTest m own kind before new
        → FitTries m.geometry m.host m.command memories t (with_found kind m.command m.host own m.old.memory.claims block m.old.tries)
    fit_found (Some (kinds.Lock (resources.File f))) is says test = fit_file f (try_of m.command) is refl says test
    fit_found (Some (kinds.Lock (resources.Part p))) is says test = fit_lock (kinds.Lock (resources.Part p)) is (λ f e. cc) says.0
    fit_found (Some (kinds.Lock (resources.Group r))) is says test = fit_lock (kinds.Lock (resources.Group r)) is (λ f e. cc) says.0
    fit_found (Some (kinds.Slot of)) is says test =
        elim (cases_Bool (list_any (λ claimed. claimed == of) m.old.memory.claims)) [
          | inl claimed ↦ rw claimed (fit_still told_t)
          | inr free ↦ rw free (fit_slot of m.command refl living test says)
        ]
    fit_found kind is says test = fit_still told_t

  told_some : (o : Option Told) → IsSome o → (x : Told) × (o ≡ Some x)
  told_some None is = absurd cc
  told_some (Some x) is = (x, refl)

  -- one call of the command
  pub tries_fit : (call : Call) (reply : Reply) → (((of : ℕ) → call ≡ Registers of → ⊥) → (memories m.host).key ≡ Some own)
      → MayMark m own call reply → Changes call reply s t
      → FitTries m.geometry m.host m.command memories t (tried_by m.geometry m.host m.command m.old.memory.claims own call reply m.old.tries)
  tries_fit (Reads place) (Shows block) key marks h =
      let x = told_some s.told disk.told in
      let shown = subst (λ (o : Option Told). IfSome o (λ y. AreShown m.geometry memories y.image)) x.1 disk.shown in
      let stands = subst (λ (o : Option Told). IfSome o (λ y. slice_get y.image place ≡ Some block)) x.1 h.0 in
      fit_read (kind_at m.geometry place) (try_of m.command) place block refl (ap (λ (u : State). u.told) h.1) (key (λ of e. cc)) (shown place block stands)
  tries_fit (Writes place block) Done key marks h = fit_changed (kind_at m.geometry place) place block refl h
  tries_fit (Tests place before new) Done key marks h = fit_changed (kind_at m.geometry place) place new refl h.1
  tries_fit (Tests place before new) (Shows block) key marks h =
      let x = told_some s.told disk.told in
      let shown = subst (λ (o : Option Told). IfSome o (λ y. AreShown m.geometry memories y.image)) x.1 disk.shown in
      let stands = subst (λ (o : Option Told). IfSome o (λ y. slice_get y.image place ≡ Some block)) x.1 h.0 in
      let valid_x = subst (λ (o : Option Told). IfSome o (λ y. IsValid m.geometry s.counter y.image)) x.1 valid in
      fit_found x.0 x.1 (ap (λ (u : State). u.told) h.2) (key (λ of e. cc)) valid_x place before new block stands h.1 (kind_at m.geometry place) refl (shown place block stands) marks
  tries_fit (Reads place) (Refuses cause) key marks h = fit_still (ap (λ (u : State). u.told) h)
  tries_fit (Writes place block) (Refuses cause) key marks h = fit_still (ap (λ (u : State). u.told) h)
  tries_fit (Tests place before new) (Refuses cause) key marks h = fit_still (ap (λ (u : State). u.told) h)
  tries_fit (Registers of) (Refuses cause) key marks h = fit_still (ap (λ (u : State). u.told) h)
  tries_fit (Fences target) (Refuses cause) key marks h = fit_still (ap (λ (u : State). u.told) h)
  tries_fit (Registers of) (Gives given) key marks h = fit_still (ap (λ (u : State). u.told) h.1)
  tries_fit (Fences target) Done key marks h = fit_still (ap (λ (u : State). u.told) h)
  tries_fit call reply key marks h = absurd h
