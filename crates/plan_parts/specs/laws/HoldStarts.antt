-- The first stage of a hold stands, its notes are those of a command that tried nothing yet, and how many calls are left there at most.
use Rattle.std.proofs.Common.{◌≡◌, ◌≢◌, ◌<◌, ◌≤◌, ◌%◌, ℕ, Bool, None, false, true, refl, ap, sym, ◌∙◌, arith, inl, inr}
use Rattle.std.specs.Prelude.{slice_index, slice_set}
use Rattle.std.proofs.lemmas.Bool.{cases_eq}
use Rattle.std.proofs.lemmas.List.{get_or-set_other, get_or-set_same}
use Rattle.vol_base.specs.declared.command.Command.{Command}
use Rattle.vol_layout.specs.declared.kind.Resource.TheVariants.{File}
use Rattle.slot_lock_blocks.specs.Keys.{IsKey}
use Rattle.slot_lock_blocks.specs.LockWords.{IsLockWord, lock_readers}
use Rattle.slot_lock_blocks.specs.ReaderKeys.{nobody}
use Rattle.slot_lock_blocks.specs.laws.ReaderLaws.{AreReaders-nobody, AreReaders-set, slice_index-nobody, somebody}
use Rattle.lock_store.specs.Memories.{reads}
use Rattle.lock_store.specs.Views.{host_at, key_at}
use Rattle.disk_locks.specs.Consistent.{Consistent}
use Rattle.disk_locks.specs.Freeing.{HaveEnded, IsOpen}
use Rattle.host_runs.specs.Notes.{Notes}
use Rattle.host_runs.specs.Tries.{no_tries}
use Rattle.host_notes.specs.lemmas.OwnKeys.{joined_key}
use Rattle.host_facts.specs.Views.{WorldView}
use Rattle.host_facts.specs.laws.ToldLaws.{sure_all}
use Rattle.plan_parts.specs.Holds.{IsOutside, IsReadTaking, IsReleasing, IsTrying, IsWriteTaking, NotedTry, NotedWrite, alone, alone_word, calls_left}
use Rattle.plan_parts.specs.QuietCalls.{Noted}
use Rattle.plan_parts.specs.declared.outcome.Outcome.TheVariants as outcomes
use Rattle.plan_parts.specs.declared.read_try.ReadTry.{ReadTry}
use Rattle.plan_parts.specs.declared.take_write.TakeWrite.{TakeWrite}
use Rattle.plan_parts.specs.declared.take_write.TakeWrite.TheVariants as writes

-- the first tries
abbrev pub first_try : WorldView → ℕ → ℕ → ReadTry
first_try v h f = record { from = alone_word v.locks h f; tries = 0; reader = None }

abbrev pub first_write : WorldView → ℕ → ℕ → TakeWrite
first_write v h f = writes.Try (alone_word v.locks h f) 0

-- the notes there
pub try_noted : (command : Command) (v : WorldView) (h f : ℕ) (n : Notes) → Noted command h v outcomes.Open n → n.tries ≡ no_tries
    → NotedTry command h v (first_try v h f) n
try_noted command v h f n noted none = record { noted = noted; tries_are = none }

pub write_noted : (command : Command) (v : WorldView) (h f : ℕ) (n : Notes) → Noted command h v outcomes.Open n → n.tries ≡ no_tries
    → NotedWrite command h v (first_write v h f) n
write_noted command v h f n noted none = (None, record { noted = noted; tries_are = none })

-- the word with the own key alone, and the free one
own_at : (h own : ℕ) → h < 16 → slice_index (slice_set nobody h own) h ≡ own
own_at h own small = let long = AreReaders-nobody.long in get_or-set_same nobody h own 0 (omega (arith, small, long))

alone_fits : (r : Bool) (h own : ℕ) → IsKey own → own % 16 ≡ h → h < 16 → IsLockWord (alone r h own)
alone_fits true h own key of small = (
  AreReaders-set nobody h own AreReaders-nobody small key.1 (λ some. of),
  somebody (slice_set nobody h own) h (λ none. key.0 (sym (own_at h own small) ∙ none)),
)
alone_fits false h own key of small = tt

alone_unheld : (r : Bool) (h own : ℕ) → IsOpen (alone r h own)
alone_unheld true h own = tt
alone_unheld false h own = tt

alone_only : (r : Bool) (h own y : ℕ) → h < 16 → slice_index (lock_readers (alone r h own)) y ≢ 0
    → slice_index (lock_readers (alone r h own)) y ≢ own → ⊥
alone_only true h own y small some apart = elim (cases_eq y h) [
  | inl here ↦ apart (ap (slice_index (slice_set nobody h own)) here ∙ own_at h own small)
  | inr other ↦ some (get_or-set_other nobody h y own 0 other ∙ slice_index-nobody y)
]
alone_only false h own y small some apart = some (slice_index-nobody y)

module _ (v : WorldView) (h f : ℕ) (c : Consistent v.locks) (outside : IsOutside v h f) where
  abbrev r : Bool
  r = reads (host_at v.locks h) (File f)

  try_starts : (last : ℕ) → IsTrying v h f last (first_try v h f)
  try_starts last =
      let own = joined_key v.locks h c outside.joined in record {
        outside = outside;
        word = alone_fits r h (key_at v.locks h) own.is own.of own.small;
        unheld = alone_unheld r h (key_at v.locks h);
        tries = omega arith;
        first = λ zero_. refl;
        met = λ some. absurd (some refl);
        other = tt;
      }

  -- the first stages
  pub read_starts : r ≡ false → IsReadTaking v h f (first_try v h f)
  read_starts unread = record { trying = try_starts 2; unread = unread }

  pub release_starts : r ≡ true → IsReleasing v h f (first_try v h f)
  release_starts reads_it = record {
    trying = try_starts 1;
    reads_it = reads_it;
    among =
        ap (λ (b : Bool). slice_index (lock_readers (alone b h (key_at v.locks h))) h) reads_it
        ∙ own_at h (key_at v.locks h) (joined_key v.locks h c outside.joined).small;
  }

  pub write_starts : IsWriteTaking v h f (first_write v h f)
  write_starts =
      let own = joined_key v.locks h c outside.joined in record {
        outside = outside;
        at = record {
          word = alone_fits r h (key_at v.locks h) own.is own.of own.small;
          unheld = alone_unheld r h (key_at v.locks h);
          few = omega arith;
          ended = sure_all v.locks h (λ image. HaveEnded v.locks h (alone_word v.locks h f))
              (λ image y some apart. absurd (alone_only r h (key_at v.locks h) y own.small some apart));
          hoped = λ other. refl;
        };
      }

  -- three tries, and at most sixteen slots are read
  pub write_calls : calls_left v.locks.geometry.hosts (first_write v h f) ≤ 19
  write_calls = let range = c.geometry.hosts.1 in omega (arith, range)
