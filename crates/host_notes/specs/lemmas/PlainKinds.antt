-- Plain kinds of blocks: no superblock, no slot and no lock.
use Rattle.vol_layout.specs.declared.geometry.Geometry.{Geometry}
use Rattle.vol_layout.specs.declared.kind.Kind.{Kind}
use Rattle.vol_layout.specs.declared.kind.Kind.TheVariants as kinds
use Rattle.vol_layout.specs.Ranges.{HasKind}
use Rattle.disk_locks.specs.MayWrite.{IsWritable}
use Rattle.host_facts.specs.Hints.{IsHint}

-- a plain kind is one of the volume
pub writable_kind : (g : Geometry) (kind : Kind) → IsWritable g kind → HasKind g kind
writable_kind g kinds.Super writable = absurd writable
writable_kind g (kinds.Slot y) writable = absurd writable
writable_kind g (kinds.Lock r) writable = absurd writable
writable_kind g (kinds.Journal y) writable = writable
writable_kind g (kinds.Table t) writable = writable
writable_kind g (kinds.Log y l) writable = writable
writable_kind g (kinds.Shard s) writable = writable
writable_kind g (kinds.Request f) writable = writable
writable_kind g (kinds.Number d) writable = writable

-- a kind of hint blocks is a plain one
pub hint_writable : (g : Geometry) (kind : Kind) → IsHint kind → HasKind g kind → IsWritable g kind
hint_writable g kinds.Super hint has = absurd hint
hint_writable g (kinds.Slot y) hint has = absurd hint
hint_writable g (kinds.Journal y) hint has = absurd hint
hint_writable g (kinds.Lock r) hint has = absurd hint
hint_writable g (kinds.Table t) hint has = absurd hint
hint_writable g (kinds.Log y l) hint has = has
hint_writable g (kinds.Shard s) hint has = has
hint_writable g (kinds.Request f) hint has = has
hint_writable g (kinds.Number d) hint has = absurd hint
