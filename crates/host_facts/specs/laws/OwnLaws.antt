-- What a host knows over its own calls.
use Rattle.std.proofs.Common.{◌≡◌, ◌≢◌, ◌⊎◌, ℕ, List, [], true, inl, inr, sym, ap, subst}
use Rattle.std.specs.Prelude.{Contains}
use Rattle.vol_layout.specs.declared.geometry.Geometry.{Geometry}
use Rattle.vol_layout.specs.declared.kind.Kind.{Kind}
use Rattle.vol_layout.specs.declared.kind.Kind.TheVariants as kinds
use Rattle.vol_layout.specs.declared.field.Edit.{Edit}
use Rattle.vol_layout.specs.Places.{place_of}
use Rattle.vol_layout.specs.Ranges.{HasKind}
use Rattle.shared_disk.specs.Calls.{after_write}
use Rattle.shared_disk.specs.Events.Reply.{Done}
use Rattle.shared_disk.specs.Events.{Call, Reply, Tests, Writes}
use Rattle.shared_disk.specs.State.{State}
use Rattle.image_view.specs.Images.{Image, written}
use Rattle.image_view.specs.Numbers.{journal}
use Rattle.image_view.specs.Records.{IsEdited}
use Rattle.image_view.specs.laws.FrameLaws.{write_only}
use Rattle.call_effects.specs.Changes.{Changes, Data}
use Rattle.lock_store.specs.Events.{Did}
use Rattle.lock_store.specs.Memories.{key_of}
use Rattle.lock_store.specs.Views.{counter_of, host_at, key_at, keys_of, told_of}
use Rattle.disk_locks.specs.Consistent.{Consistent}
use Rattle.disk_locks.specs.MayWrite.{IsWritable}
use Rattle.disk_locks.specs.Others.{Lasts}
use Rattle.disk_locks.specs.Sure.{BothTold, Sure}
use Rattle.host_facts.specs.Facts.{Fact, Tells}
use Rattle.host_facts.specs.Hints.{IsHint, IsHintPlace, WroteHint}
use Rattle.host_facts.specs.Knows.{Knows}
use Rattle.host_facts.specs.Looks.{Looks}
use Rattle.host_facts.specs.Spares.{Spares}
use Rattle.host_facts.specs.Steps.{IsStep}
use Rattle.host_facts.specs.Views.{WorldView, record_at, standing_at}
use Rattle.host_facts.specs.Wrote.{Writing, Wrote}
use Rattle.host_facts.specs.laws.FactLaws.{guard_as, guard_moved, joined_key, record_still, tells_last}
use Rattle.host_facts.specs.laws.KindLaws.{cases_kind, hint_leaves, hint_writable, numbers_left, writable_has, writable_leaves}
use Rattle.host_facts.specs.laws.SparedLaws.{guard_spared, spares_all, tells_written}
use Rattle.host_facts.specs.laws.ToldLaws.{both_with, both_written, sure_all, sure_and, sure_of, sure_over, sure_still}

-- a call under a registered key wrote one block, and left the host's memory
record HasWritten (v w : WorldView) (h place : ℕ) (block : List ℕ) : Type 0 where
  pub memory : host_at w.locks h ≡ host_at v.locks h
  pub geometry : w.locks.geometry ≡ v.locks.geometry
  pub state : w.locks.disk.state ≡ after_write place block v.locks.disk.state
  pub registered : Contains (keys_of v.locks) (key_at v.locks h)

by_write : (v w : WorldView) (h place : ℕ) (block : List ℕ) → Did v.locks h (Writes place block) Done (host_at v.locks h) w.locks
    → HasWritten v w h place block
by_write v w h place block did =
    record { memory = did.mine; geometry = did.geometry; state = did.acts.changes; registered = did.acts.admitted }

by_test : (v w : WorldView) (h place : ℕ) (old block : List ℕ) → Did v.locks h (Tests place old block) Done (host_at v.locks h) w.locks
    → HasWritten v w h place block
by_test v w h place old block did =
    record { memory = did.mine; geometry = did.geometry; state = did.acts.changes.1; registered = did.acts.admitted }

-- the write of the block makes these edits, which then stand in the own journal where that is written
abbrev Makes : Geometry → ℕ → Kind → List ℕ → List Edit → Image → Type 0
Makes g h kind block es image =
    IsEdited g image (written g image kind block) es × (kind ≡ kinds.Journal h → journal g (written g image kind block) h ≡ es)

module _ (v w : WorldView) (h : ℕ) (kind : Kind) (block : List ℕ) (es : List Edit) (is : Consistent v.locks)
    (writable : IsWritable v.locks.geometry kind) (lasts : Lasts v.locks w.locks)
    (did : HasWritten v w h (place_of v.locks.geometry kind) block) where
  abbrev new_of : Image → Image
  new_of image = written v.locks.geometry image kind block

  told : BothTold (told_of v.locks) (told_of w.locks) (λ old new. new ≡ new_of old)
  told = both_written v.locks.disk.state w.locks.disk.state (place_of v.locks.geometry kind) block did.state

  has : HasKind v.locks.geometry kind
  has = writable_has v.locks.geometry kind writable

  -- the own journal was written, and has these edits, or it was not
  own_cases : (host_at v.locks h).joined ≡ true → (old : Image)
      → (kind ≡ kinds.Journal h → journal v.locks.geometry (new_of old) h ≡ es)
      → (journal v.locks.geometry (new_of old) h ≡ es) ⊎ (kinds.Journal h ≢ kind)
  own_cases joined old own =
      let g = v.locks.geometry in
      let some = joined_key g.hosts (counter_of v.locks) h (host_at v.locks h) (is.memories h) joined in
      elim (cases_kind g kind (kinds.Journal h) has ((is.memories h).named some).0) [
        | inl e ↦ inl (own (sym e))
        | inr ne ↦ inr ne
      ]

  tells_by : (a : Fact) → Spares h kind es a → Knows v h a → (old new : Image) → new ≡ new_of old
      → Makes v.locks.geometry h kind block es old × Tells v.locks h old a → Tells w.locks h new a
  tells_by a spares known old new same both =
      subst (λ (image : Image). Tells w.locks h image a) (sym same) (tells_last v.locks w.locks h (new_of old) a lasts
      (tells_written v.locks h kind es old (new_of old) (is.memories h) (write_only v.locks.geometry old kind block has) both.0.0
      (λ joined. own_cases joined old both.0.1) (writable_leaves v.locks.geometry kind writable) a (record_at v h) known.guard spares
      both.1))

  facts_by : (kinds.Journal h ≢ kind → standing_at w h ≡ standing_at v h) → Sure v.locks h (Makes v.locks.geometry h kind block es)
      → (a : Fact) → Spares h kind es a → Knows v h a → Knows w h a
  facts_by standing makes a spares known = record {
    guard = guard_spared w.locks.geometry (host_at w.locks h) h kind es (record_at v h) (record_at w h) a spares
        (λ ne. record_still v w h did.memory (standing ne))
        (guard_moved v.locks w.locks h (record_at v h) a did.geometry did.memory known.guard);
    sure = sure_over v.locks w.locks h (λ old new. new ≡ new_of old)
        (λ image. Makes v.locks.geometry h kind block es image × Tells v.locks h image a) (λ image. Tells w.locks h image a)
        (ap key_of did.memory) (λ now. did.registered) (λ now. told) (tells_by a spares known)
        (sure_and v.locks h (Makes v.locks.geometry h kind block es) (λ image. Tells v.locks h image a) makes known.sure);
  }

  step_writes : (put : Data) (old new : Image)
      → IsStep v.locks.geometry (counter_of v.locks) h (host_at v.locks h) kind block es put old → new ≡ new_of old
      → Writing v.locks.geometry kind block es put old new
  step_writes put old new step same = record {
    only = same;
    changes = subst (λ (image : Image). Changes v.locks.geometry es put old image) (sym same) step.changes;
  }

  wrote_by : (put : Data) → (kinds.Journal h ≢ kind → standing_at w h ≡ standing_at v h)
      → Sure v.locks h (IsStep v.locks.geometry (counter_of v.locks) h (host_at v.locks h) kind block es put)
      → Wrote h kind block es put v w
  wrote_by put standing step = record {
    memory = did.memory;
    geometry = did.geometry;
    keys = ap (λ (s : State). s.keys) did.state;
    registered = did.registered;
    facts = facts_by standing (sure_of v.locks h (IsStep v.locks.geometry (counter_of v.locks) h (host_at v.locks h) kind block es put)
        (Makes v.locks.geometry h kind block es) (λ image s. (s.changes.numbers, s.own)) step);
    images = both_with (told_of v.locks) (told_of w.locks)
        (IsStep v.locks.geometry (counter_of v.locks) h (host_at v.locks h) kind block es put) (λ old new. new ≡ new_of old)
        (Writing v.locks.geometry kind block es put) (step did.registered) told (step_writes put);
  }

-- a block was written
pub wrote_law : (v w : WorldView) (h : ℕ) (kind : Kind) (block : List ℕ) (es : List Edit) (put : Data) → Consistent v.locks
    → IsWritable v.locks.geometry kind → Did v.locks h (Writes (place_of v.locks.geometry kind) block) Done (host_at v.locks h) w.locks
    → Lasts v.locks w.locks → (kinds.Journal h ≢ kind → standing_at w h ≡ standing_at v h)
    → Sure v.locks h (IsStep v.locks.geometry (counter_of v.locks) h (host_at v.locks h) kind block es put)
    → Wrote h kind block es put v w
wrote_law v w h kind block es put is writable did lasts standing step =
    wrote_by v w h kind block es is writable lasts (by_write v w h (place_of v.locks.geometry kind) block did) put standing step

hint_makes : (g : Geometry) (h : ℕ) (kind : Kind) (block : List ℕ) → IsHint kind → HasKind g kind → (image : Image)
    → Makes g h kind block [] image
hint_makes g h kind block hint has image = (
  numbers_left g image (written g image kind block) kind (hint_leaves kind hint) (write_only g image kind block has),
  λ own. absurd ((hint_leaves kind hint).journal h (sym own)),
)

hint_by : (v w : WorldView) (h place : ℕ) (block : List ℕ) → Consistent v.locks → IsHintPlace v.locks.geometry place
    → HasWritten v w h place block → Lasts v.locks w.locks → standing_at w h ≡ standing_at v h → WroteHint h place block v w
hint_by v w h place block is hint did lasts standing = record {
  memory = did.memory;
  geometry = did.geometry;
  keys = ap (λ (s : State). s.keys) did.state;
  registered = did.registered;
  facts = λ a. facts_by v w h hint.kind block [] is (hint_writable v.locks.geometry hint.kind hint.hint hint.has) lasts
      (subst (λ p. HasWritten v w h p block) hint.at did) (λ ne. standing)
      (sure_all v.locks h (Makes v.locks.geometry h hint.kind block []) (hint_makes v.locks.geometry h hint.kind block hint.hint hint.has))
      a (spares_all h hint.kind a (hint_leaves hint.kind hint.hint));
  images = both_written v.locks.disk.state w.locks.disk.state place block did.state;
}

-- a hint block was written, by a write or by a test-and-set
pub wrote_hint_law : (v w : WorldView) (h place : ℕ) (block : List ℕ) → Consistent v.locks → IsHintPlace v.locks.geometry place
    → Did v.locks h (Writes place block) Done (host_at v.locks h) w.locks → Lasts v.locks w.locks → standing_at w h ≡ standing_at v h
    → WroteHint h place block v w
wrote_hint_law v w h place block is hint did lasts standing =
    hint_by v w h place block is hint (by_write v w h place block did) lasts standing

pub swapped_hint_law : (v w : WorldView) (h place : ℕ) (old block : List ℕ) → Consistent v.locks → IsHintPlace v.locks.geometry place
    → Did v.locks h (Tests place old block) Done (host_at v.locks h) w.locks → Lasts v.locks w.locks
    → standing_at w h ≡ standing_at v h → WroteHint h place block v w
swapped_hint_law v w h place old block is hint did lasts standing =
    hint_by v w h place block is hint (by_test v w h place old block did) lasts standing

-- nothing was written
pub looked_law : (v w : WorldView) (h : ℕ) (call : Call) (reply : Reply) → Did v.locks h call reply (host_at v.locks h) w.locks
    → w.locks.disk.state ≡ v.locks.disk.state → Contains (keys_of v.locks) (key_at v.locks h) → Lasts v.locks w.locks
    → standing_at w h ≡ standing_at v h → Looks h v w
looked_law v w h call reply did state here lasts standing = record {
  memory = did.mine;
  geometry = did.geometry;
  state = state;
  registered = here;
  facts = λ a known. record {
    guard = guard_as v.locks.geometry w.locks.geometry (host_at v.locks h) (host_at w.locks h) (record_at v h) (record_at w h) a
        did.geometry did.mine (record_still v w h did.mine standing) known.guard;
    sure = sure_still v.locks w.locks h (λ image. Tells v.locks h image a) (λ image. Tells w.locks h image a) (ap key_of did.mine) state
        (λ image. tells_last v.locks w.locks h image a lasts) known.sure;
  };
}
