-- Hint blocks: which places they have, and what a write of one leaves.
use Rattle.std.specs.Prelude.{◌≡◌, ℕ, Contains, List, slice_set}
use Rattle.vol_layout.specs.declared.geometry.Geometry.{Geometry}
use Rattle.vol_layout.specs.declared.kind.Kind.{Kind}
use Rattle.vol_layout.specs.declared.kind.Kind.TheVariants as kinds
use Rattle.vol_layout.specs.Places.{place_of}
use Rattle.vol_layout.specs.Ranges.{HasKind}
use Rattle.lock_store.specs.Views.{host_at, key_at, keys_of, told_of}
use Rattle.disk_locks.specs.Sure.{BothTold}
use Rattle.host_facts.specs.Facts.{Fact}
use Rattle.host_facts.specs.Knows.{Knows}
use Rattle.host_facts.specs.Views.{WorldView}

-- a log, a shard or a request block
abbrev pub IsHint : Kind → Type 0
IsHint kinds.Super = ⊥
IsHint (kinds.Slot h) = ⊥
IsHint (kinds.Journal h) = ⊥
IsHint (kinds.Lock r) = ⊥
IsHint (kinds.Table t) = ⊥
IsHint (kinds.Log h l) = Unit {0}
IsHint (kinds.Shard s) = Unit {0}
IsHint (kinds.Request f) = Unit {0}
IsHint (kinds.Number d) = ⊥

-- the place of a hint block
pub record IsHintPlace (g : Geometry) (place : ℕ) : Type 0 where
  pub kind : Kind
  pub hint : IsHint kind
  pub has : HasKind g kind
  pub at : place ≡ place_of g kind

-- the key was registered and is; memory is as before, every fact stays, and of the image that one block is written
pub record WroteHint (h place : ℕ) (block : List ℕ) (v w : WorldView) : Type 0 where
  pub memory : host_at w.locks h ≡ host_at v.locks h
  pub geometry : w.locks.geometry ≡ v.locks.geometry
  pub keys : keys_of w.locks ≡ keys_of v.locks
  pub registered : Contains (keys_of v.locks) (key_at v.locks h)
  pub facts : (a : Fact) → Knows v h a → Knows w h a
  pub images : BothTold (told_of v.locks) (told_of w.locks) (λ old new. new ≡ slice_set old place block)
