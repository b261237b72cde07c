-- One call of a command that is to take a hold, or to give one back, as its notes have it.
use Rattle.std.proofs.Common.{◌≡◌, ◌≢◌, ◌++◌, ◌∷◌, ℕ, suc, zero, List, [], None, Option, Some, refl, ap, sym, subst, ◌∙◌}
use Rattle.std.specs.Prelude.{IfSome}
use Rattle.std.specs.Option.{option_or}
use Rattle.std.proofs.lemmas.Bool.{ne_eqb}
use Rattle.vol_base.specs.declared.command.Command.{Command}
use Rattle.vol_layout.specs.declared.geometry.Geometry.{Geometry}
use Rattle.vol_layout.specs.declared.kind.Kind.{Kind}
use Rattle.vol_layout.specs.declared.kind.Kind.TheVariants as kinds
use Rattle.vol_layout.specs.declared.kind.Table.TheVariants as tables
use Rattle.vol_layout.specs.Places.{kind_at, place_of}
use Rattle.vol_layout.specs.Ranges.{HasKind}
use Rattle.vol_layout.specs.laws.PlaceLaws.{kind_at-place}
use Rattle.shared_disk.specs.Events.{Call, Event, Reads, Reply, Shows, Tests, event}
use Rattle.shared_disk.specs.State.{State}
use Rattle.slot_lock_blocks.specs.declared.lock.LockWord.{LockWord}
use Rattle.slot_lock_blocks.specs.LockWords.{lock_bytes}
use Rattle.call_effects.specs.Places.{KeepsFiles}
use Rattle.lock_store.specs.declared.host.HostState.{HostState}
use Rattle.lock_store.specs.Events.{Did}
use Rattle.lock_store.specs.Views.{host_at, key_at, told_of}
use Rattle.disk_locks.specs.Consistent.{Consistent}
use Rattle.host_runs.specs.DeviceCalls.{shown_at}
use Rattle.host_runs.specs.FileUses.{Try}
use Rattle.host_runs.specs.Memories.{Memory}
use Rattle.host_runs.specs.Memories as memories
use Rattle.host_runs.specs.Notes.{NotedCall, Notes, with_call}
use Rattle.host_runs.specs.Tries.{Tries, file_shows, not_own, tried, with_file}
use Rattle.host_runs.specs.lemmas.OrderlyPlaced.{some_same}
use Rattle.host_notes.specs.FileTurns.{IsGiven}
use Rattle.host_notes.specs.Remembered.{IsRemembered, RemembersCall}
use Rattle.host_facts.specs.Others.{Others}
use Rattle.host_facts.specs.Views.{WorldView}
use Rattle.host_facts.specs.Wrote.{FilesStay}
use Rattle.host_facts.specs.laws.ToldLaws.{both_same}
use Rattle.plan_parts.specs.Holds.{found_of}
use Rattle.plan_parts.specs.QuietCalls.{Allows, IsFullNoted, Noted, QuietCall, placed_of, shown_of}
use Rattle.plan_parts.specs.declared.outcome.Outcome.{Outcome}
use Rattle.plan_parts.specs.declared.outcome.Outcome.TheVariants as outcomes
use Rattle.plan_parts.specs.laws.QuietCallLaws.{MeetsNone, full_more, valid_now, wanted_behind}

-- a word that was found is the one that is tried from
found_from : (k : ℕ) (from : LockWord) → IfSome (found_of k from) (λ word. lock_bytes from ≡ word)
found_from zero from = tt
found_from (suc k) from = refl

pub tried_from : (n : Notes) (t : Tries) (k : ℕ) (from : LockWord) → n.tries ≡ t → t.found ≡ found_of k from
    → IfSome n.tries.found (λ word. lock_bytes from ≡ word)
tried_from n t k from are is =
    subst (λ (o : Option (List ℕ)). IfSome o (λ word. lock_bytes from ≡ word)) (sym (ap (λ (u : Tries). u.found) are ∙ is))
    (found_from k from)

pub found_some : (k : ℕ) (from : LockWord) → k ≢ 0 → found_of k from ≡ Some (lock_bytes from)
found_some zero from some = absurd (some refl)
found_some (suc k) from some = refl

-- the key that a word shows to tries which have shown none
pub word_shows : (try : Try) (own : ℕ) (word : List ℕ) (t : Tries) → t.shown ≡ None
    → (with_file (Some try) own word t).shown ≡ not_own own (file_shows try own t word)
word_shows try own word t none = ap (λ o. option_or o (not_own own (file_shows try own t word))) none

pub not_own_key : (own key : ℕ) → key ≢ own → not_own own (Some key) ≡ Some key
not_own_key own key other = rw (ne_eqb key own other) refl

pub files_in : (v w : WorldView) → w.locks.disk.state ≡ v.locks.disk.state → FilesStay v w
files_in v w same = both_same (told_of v.locks) (told_of w.locks) KeepsFiles (ap (λ (s : State). s.told) same) (λ image f. refl)

-- a block at a place
abbrev at_place : ℕ → List ℕ → Option (ℕ × List ℕ)
at_place place block = Some (place, block)

-- nothing yet, or a key that was shown
abbrev pub IsLookOutcome : Outcome → Type 0
IsLookOutcome outcomes.Open = Unit {0}
IsLookOutcome (outcomes.Busy key) = Unit {0}
IsLookOutcome outcome = ⊥

module _ (command : Command) (v w : WorldView) (h : ℕ) (kind : Kind) (has : HasKind v.locks.geometry kind)
    (no_group : (r : ℕ) → kind ≢ kinds.Table (tables.Group r)) (call : Call) (reply : Reply)
    (there : (place : ℕ) (block : List ℕ) → shown_at call reply ≡ at_place place block → place ≡ place_of v.locks.geometry kind) where
  abbrev made : Event
  made = event (key_at v.locks h) call reply

  abbrev noted_call : NotedCall
  noted_call = record { event = made; before = v.locks.disk.state }

  abbrev behind : Notes → Notes
  behind n = with_call v.locks.geometry h command v.locks.disk.state (Some made) n

  abbrev tried_behind : Notes → Tries
  tried_behind n = tried v.locks.geometry h command n.memory.claims made n.tries

  meets_none : MeetsNone v.locks.geometry command noted_call
  meets_none f i n is group full =
      no_group group.0
      (some_same kind (kinds.Table (tables.Group group.0))
      (sym (kind_at-place v.locks.geometry kind has) ∙ ap (kind_at v.locks.geometry) (sym (there group.2.0 group.1 group.2.2)) ∙ group.2.1))

  full_behind : (after : Outcome) → IsLookOutcome after → (calls : List NotedCall)
      → IsFullNoted v.locks.geometry command outcomes.Open calls
      → IsFullNoted v.locks.geometry command after (calls ++ noted_call ∷ [])
  full_behind outcomes.Open ways calls full = full_more v.locks.geometry command outcomes.Open noted_call meets_none calls full
  full_behind (outcomes.Busy key) ways calls full =
      full_more v.locks.geometry command outcomes.Open noted_call meets_none calls full
  full_behind outcome ways calls full = absurd ways

  place_behind : (after : Outcome) → IsLookOutcome after → None ≡ placed_of after
  place_behind outcomes.Open ways = refl
  place_behind (outcomes.Busy key) ways = refl
  place_behind outcome ways = absurd ways

  -- the notes behind the call
  noted_behind : (after : Outcome) → IsLookOutcome after → w.locks.geometry ≡ v.locks.geometry
      → ((memory : Memory) → IsRemembered v.locks.geometry memory (host_at v.locks h) → RemembersCall v.locks h memory call reply w.locks)
      → (n : Notes) → Noted command h v outcomes.Open n → (tried_behind n).shown ≡ shown_of after → Noted command h w after (behind n)
  noted_behind after ways geometry remembered n was shown = record {
    remembered = subst (λ (g : Geometry). IsRemembered g (memories.remembered v.locks.geometry h made n.memory) (host_at w.locks h))
        (sym geometry) (remembered n.memory was.remembered);
    placed_is = was.placed_is ∙ place_behind after ways;
    shown_is = shown;
    full = subst (λ (g : Geometry). IsFullNoted g command after (n.calls ++ noted_call ∷ [])) (sym geometry)
        (full_behind after ways n.calls was.full);
    asks = was.asks;
    wants = wanted_behind w.locks.geometry command n.calls noted_call n.digests n.asks ∙ was.asks;
  }

  -- the call is a quiet one: of what its tries were before, it is shown what they are behind it
  pub quiet_try : (m : HostState) (after : Outcome) (Before After : Notes → Type 0) → IsLookOutcome after
      → Did v.locks h call reply m w.locks → IsGiven reply → Others h v w → Consistent w.locks → FilesStay v w
      → Allows command h v made Before
      → ((memory : Memory) → IsRemembered v.locks.geometry memory (host_at v.locks h) → RemembersCall v.locks h memory call reply w.locks)
      → ((n : Notes) → Before n → Noted command h v outcomes.Open n × ((tried_behind n).shown ≡ shown_of after))
      → ((n : Notes) → Before n → Noted command h w after (behind n) → After (behind n))
      → QuietCall command h v w made Before After
  quiet_try m after Before After ways did given others later files allowed remembered says comes = record {
    acts = did.acts;
    answered = given;
    geometry = did.geometry;
    others = others;
    valid = valid_now w later;
    files = files;
    allowed = allowed;
    noted = λ n before.
        let now = says n before in
        comes n before (noted_behind after ways did.geometry remembered n now.0 now.1);
  }

-- what a call at one place shows is of that place
pub shown_tested : (place : ℕ) (old new : List ℕ) (reply : Reply) (at : ℕ) (block : List ℕ)
    → shown_at (Tests place old new) reply ≡ at_place at block → at ≡ place
shown_tested place old new (Shows word) at block is =
    sym (ap (λ (x : ℕ × List ℕ). x.0) (some_same (place, word) (at, block) is))
shown_tested place old new reply at block is = absurd cc

pub shown_read : (place : ℕ) (reply : Reply) (at : ℕ) (block : List ℕ)
    → shown_at (Reads place) reply ≡ at_place at block → at ≡ place
shown_read place (Shows word) at block is = sym (ap (λ (x : ℕ × List ℕ). x.0) (some_same (place, word) (at, block) is))
shown_read place reply at block is = absurd cc
