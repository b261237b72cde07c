-- A key that the tries of a command showed stays.
use Rattle.std.proofs.Common.{◌≡◌, ◌==◌, ℕ, List, Option, None, Some, ap, inl, inr}
use Rattle.std.specs.Prelude.{if◌then◌else◌}
use Rattle.std.specs.List.{list_any}
use Rattle.std.specs.Option.{option_or}
use Rattle.std.proofs.lemmas.Bool.{cases_Bool}
use Rattle.vol_base.specs.declared.command.Command.{Command}
use Rattle.vol_base.specs.declared.command.Command.TheVariants.{Join, Recover}
use Rattle.vol_layout.specs.declared.geometry.Geometry.{Geometry}
use Rattle.vol_layout.specs.declared.kind.Kind.{Kind}
use Rattle.vol_layout.specs.declared.kind.Kind.TheVariants as kinds
use Rattle.vol_layout.specs.declared.kind.Resource.TheVariants.{File}
use Rattle.vol_layout.specs.Places.{kind_at}
use Rattle.shared_disk.specs.Events.{Call, Reply, Done, Reads, Shows, Tests, Writes, event}
use Rattle.host_runs.specs.FileUses.{Try, ToWrite, try_of}
use Rattle.host_runs.specs.Tries.{Tries, file_shows, frees_locks, holder_in, join_shows, not_own, reader_shows, recover_shows, showing, tried, with_changed, with_file, with_found, with_read, with_slot}

module _ (g : Geometry) (h : ℕ) (command : Command) (claims : List ℕ) (own : ℕ) (tries : Tries) where
  -- the first key counts
  shown_first : (key : ℕ) (more : Option ℕ) → tries.shown ≡ Some key → (showing own more tries).shown ≡ Some key
  shown_first key more is = ap (λ o. option_or o (not_own own more)) is

  read_shown : (kind : Option Kind) (try : Option Try) (key : ℕ) (block : List ℕ) → tries.shown ≡ Some key
      → (with_read kind try own block tries).shown ≡ Some key
  read_shown (Some (kinds.Slot of)) (Some ToWrite) key block is = shown_first key (reader_shows of tries.found block) is
  read_shown (Some (kinds.Slot of)) try key block is = is
  read_shown kind try key block is = is

  file_shown : (try : Option Try) (key : ℕ) (word : List ℕ) → tries.shown ≡ Some key → (with_file try own word tries).shown ≡ Some key
  file_shown None key word is = is
  file_shown (Some try) key word is = shown_first key (file_shows try own tries word) is

  slot_shown : (c : Command) (key : ℕ) (slot : List ℕ) → tries.shown ≡ Some key → (with_slot c h own slot tries).shown ≡ Some key
  slot_shown Join key slot is = shown_first key (join_shows h tries slot) is
  slot_shown (Recover of) key slot is = shown_first key (recover_shows slot) is
  slot_shown c key slot is = is

  shared_shown : (key : ℕ) (word : List ℕ) → tries.shown ≡ Some key
      → (if frees_locks command then tries else showing own (holder_in word) tries).shown ≡ Some key
  shared_shown key word is = elim (cases_Bool (frees_locks command)) [
    | inl frees ↦ rw frees is
    | inr keeps ↦ rw keeps (shown_first key (holder_in word) is)
  ]

  claim_shown : (of key : ℕ) (slot : List ℕ) → tries.shown ≡ Some key
      → (if list_any (λ claimed. claimed == of) claims then tries else with_slot command h own slot tries).shown ≡ Some key
  claim_shown of key slot is = elim (cases_Bool (list_any (λ claimed. claimed == of) claims)) [
    | inl claimed ↦ rw claimed is
    | inr other ↦ rw other (slot_shown command key slot is)
  ]

  found_shown : (kind : Option Kind) (key : ℕ) (block : List ℕ) → tries.shown ≡ Some key
      → (with_found kind command h own claims block tries).shown ≡ Some key
  found_shown (Some (kinds.Lock (File f))) key block is = file_shown (try_of command) key block is
  found_shown (Some (kinds.Lock r)) key block is = shared_shown key block is
  found_shown (Some (kinds.Slot of)) key block is = claim_shown of key block is
  found_shown kind key block is = is

  changed_shown : (kind : Option Kind) (key : ℕ) → tries.shown ≡ Some key → (with_changed kind tries).shown ≡ Some key
  changed_shown (Some (kinds.Lock (File f))) key is = is
  changed_shown (Some (kinds.Lock r)) key is = is
  changed_shown kind key is = is

  pub tried_shown : (call : Call) (reply : Reply) (key : ℕ) → tries.shown ≡ Some key
      → (tried g h command claims (event own call reply) tries).shown ≡ Some key
  tried_shown (Tests at old new) (Shows word) key is = found_shown (kind_at g at) key word is
  tried_shown (Tests place old new) Done key is = changed_shown (kind_at g place) key is
  tried_shown (Writes place block) Done key is = changed_shown (kind_at g place) key is
  tried_shown (Reads place) (Shows block) key is = read_shown (kind_at g place) (try_of command) key block is
  tried_shown call reply key is = is
