-- The records of file commands are right by what kept tables say, and their commits are the places of their calls.
use Rattle.std.proofs.Common.{◌≡◌, ◌<◌, ◌≤◌, ◌+◌, ◌-◌, ℕ, true, List, [], ◌∷◌, None, Some, refl, ap, subst, sym, arith}
use Rattle.vol_base.specs.declared.plain.PlainCall.{PlainCall}
use Rattle.vol_base.specs.declared.plain.PlainCall.TheVariants.{Create, Punch, Read, Remove, Size, Write}
use Rattle.vol_base.specs.declared.plain.PlainReply.TheVariants.{Done}
use Rattle.vol_layout.specs.declared.field.Field.TheVariants.{Count, Head, Pointer}
use Rattle.vol_layout.specs.declared.kind.Resource.TheVariants.{File}
use Rattle.vol_layout.specs.Fields.{table_of}
use Rattle.vol_layout.specs.Ranges.{limit}
use Rattle.plain_files.specs.Calls.{file_no}
use Rattle.image_view.specs.Images.{Image}
use Rattle.image_view.specs.Pointers.{named}
use Rattle.image_view.specs.Records.{IsRecord}
use Rattle.lock_store.specs.Memories.{holds}
use Rattle.lock_store.specs.Views.{counter_of, host_at, key_at}
use Rattle.disk_locks.specs.Consistent.{Consistent}
use Rattle.disk_locks.specs.Sure.{Sure}
use Rattle.held_cache.specs.Kept.{Cache, kept_at}
use Rattle.call_effects.specs.Changes.{Changes}
use Rattle.call_effects.specs.Drops.{IsDroppable, dropped}
use Rattle.call_effects.specs.Heads.{headed}
use Rattle.call_effects.specs.laws.PointerLaws.{hole-range}
use Rattle.table_blocks.specs.Tables.{number_in}
use Rattle.plan_parts.specs.KeptTables.{IsKept}
use Rattle.image_view.specs.declared.pointer.Number.TheVariants.{At}
use Rattle.host_facts.specs.laws.KindLaws.{owner_table}
use Rattle.host_facts.specs.laws.ToldLaws.{sure_of}
use Rattle.call_effects.specs.Places.{IsPlaced}
use Rattle.call_effects.specs.laws.DropLaws.{placed-drop, record-drop}
use Rattle.call_effects.specs.laws.HeadLaws.{placed-create, placed-remove, placed-size, record-head}
use Rattle.host_facts.specs.Facts.Fact.{RecordIs}
use Rattle.host_facts.specs.Finds.{Finds}
use Rattle.host_facts.specs.Knows.{Knows}
use Rattle.host_facts.specs.Views.{WorldView}
use Rattle.vol_layout.specs.Edits.{IsEdit}
use Rattle.vol_layout.specs.declared.kind.Table.{Table}
use Rattle.vol_layout.specs.declared.kind.Table.TheVariants as tables
use Rattle.image_view.specs.Balances.{edit}
use Rattle.journal_block.specs.JournalRecord.{JournalRecord}
use Rattle.call_effects.specs.laws.EachEdit.{all-one, all-two}
use Rattle.plan_parts.specs.declared.applying.Applying.{Applying}
use Rattle.plan_parts.specs.declared.kept.Kept.{Kept}
use Rattle.file_plans.specs.Bases.{IsCached}
use Rattle.file_plans.specs.Commits.{HasCommitted, IsPut, MayCommit}
use Rattle.file_plans.specs.laws.PutLaws.{CountsBy, block_inside, count_has, count_range, has_placed, held_count, held_field, kept_of_file, pointer_found, sees, two_tables}
use Rattle.file_plans.specs.Says.{Reads}
use Rattle.file_plans.specs.Sights.{IsSight}
use Rattle.file_plans.specs.declared.call.FileCall.TheVariants.{Plain}
use Rattle.file_plans.specs.declared.sight.Sight.TheVariants.{Drops, Heads}
use Rattle.file_plans.specs.laws.KnownLaws.{reading}
use Rattle.file_plans.specs.laws.SaysLaws.{pointer_table}

module _ (v : WorldView) (c : Cache) (h : ℕ) (is : Consistent v.locks) (cached : IsCached v c h) (empty : Knows v h (RecordIs [])) where
  -- the head that a call gives its file
  short_head : (call : PlainCall) (m : ℕ) → IsSight v.locks.geometry (kept_at c h) (Plain call) (Heads m) → m ≤ limit v.locks.geometry + 1
  short_head (Create f) m sight = omega (arith, sight.1)
  short_head (Remove f) m sight = omega (arith, sight.2)
  short_head (Size f k) m sight = omega (arith, sight.2, sight.3)
  short_head (Write f i block) m sight = absurd sight
  short_head (Read f i) m sight = absurd sight
  short_head (Punch f i) m sight = absurd sight

  pub record_head : (call : PlainCall) (m : ℕ) → file_no call < v.locks.geometry.files
      → holds (host_at v.locks h) (File (file_no call)) ≡ true → IsSight v.locks.geometry (kept_at c h) (Plain call) (Heads m)
      → Sure v.locks h (λ image. IsRecord v.locks.geometry image (key_at v.locks h) (headed (file_no call) m))
  record_head call m below held sight =
      reading v c h is cached empty (λ image. IsRecord v.locks.geometry image (key_at v.locks h) (headed (file_no call) m))
      (λ image found reads.
      record-head v.locks.geometry image (key_at v.locks h) (file_no call) m found.agrees.valid.counted
      (held_field v h image found (Head (file_no call)) below below held) (short_head call m sight))

  place_head : (call : PlainCall) (m : ℕ) → file_no call < v.locks.geometry.files
      → IsSight v.locks.geometry (kept_at c h) (Plain call) (Heads m) → (old new : Image) → Finds v.locks h old
      → Reads v.locks.geometry (kept_at c h) old → Changes v.locks.geometry (headed (file_no call) m) None old new
      → IsPlaced v.locks.geometry call Done old new
  place_head (Create f) m below sight old new found reads step =
      placed-create v.locks.geometry (counter_of v.locks) old new f found.agrees.valid below (reads (Head f) 0 below sight.0)
      (subst (λ (n : ℕ). Changes v.locks.geometry (headed f n) None old new) sight.1 step)
  place_head (Remove f) m below sight old new found reads step =
      placed-remove v.locks.geometry (counter_of v.locks) old new f sight.0 found.agrees.valid below
      (reads (Head f) (sight.0 + 1) below sight.1) (subst (λ (n : ℕ). Changes v.locks.geometry (headed f n) None old new) sight.2 step)
  place_head (Size f k) m below sight old new found reads step =
      placed-size v.locks.geometry (counter_of v.locks) old new f sight.0 k found.agrees.valid below
      (reads (Head f) (sight.0 + 1) below sight.1) sight.2
      (λ i after before. let hole = sight.4 i after before in ap named (reads (Pointer f i) 0 hole.has hole.says))
      (subst (λ (n : ℕ). Changes v.locks.geometry (headed f n) None old new) sight.3 step)
  place_head (Write f i block) m below sight old new found reads step = absurd sight
  place_head (Read f i) m below sight old new found reads step = absurd sight
  place_head (Punch f i) m below sight old new found reads step = absurd sight

  -- so its head may be committed
  pub may_head : (call : PlainCall) (m : ℕ) (entry : JournalRecord) (k : Kept) (left : List Kept) → file_no call < v.locks.geometry.files
      → holds (host_at v.locks h) (File (file_no call)) ≡ true → IsSight v.locks.geometry (kept_at c h) (Plain call) (Heads m)
      → entry ≡ record { key = key_at v.locks h; edits = headed (file_no call) m } → k.which ≡ tables.File (file_no call)
      → kept_at c h (tables.File (file_no call)) ≡ Some k.table → left ≡ k ∷ [] → MayCommit v h entry left
  may_head call m entry k left below held sight entry_is which kept left_is =
      subst (λ (r : JournalRecord). MayCommit v h r left) (sym entry_is)
      (subst (MayCommit v h (record { key = key_at v.locks h; edits = headed (file_no call) m })) (sym left_is) (record {
        key = refl;
        edits = all-one (IsEdit v.locks.geometry) (edit (Head (file_no call)) m) (below, short_head call m sight);
        empty = empty;
        may = record_head call m below held sight;
        kept = (kept_of_file v c h (file_no call) (tables.File (file_no call)) k cached held below refl which kept, tt);
        order = ap (λ (t : Table). t ∷ []) which;
      }))

  -- and its commit is the place of the call
  pub head_committed : (w : WorldView) (call : PlainCall) (m : ℕ) (entry : JournalRecord) (left : List Kept) (a : Applying)
      → file_no call < v.locks.geometry.files → IsSight v.locks.geometry (kept_at c h) (Plain call) (Heads m)
      → entry ≡ record { key = key_at v.locks h; edits = headed (file_no call) m } → IsPut h v w entry left a
      → HasCommitted h v w (Plain call) (Some Done) (headed (file_no call) m) a
  head_committed w call m entry left a below sight entry_is put =
      has_placed v w h (headed (file_no call) m) entry left a (ap (λ (r : JournalRecord). r.edits) entry_is) put call Done
      (λ image. Finds v.locks h image × Reads v.locks.geometry (kept_at c h) image)
      (reading v c h is cached empty (λ image. Finds v.locks h image × Reads v.locks.geometry (kept_at c h) image)
      (λ image found reads. (found, reads))) (λ old new seen step. place_head call m below sight old new seen.0 seen.1 step)

  -- the record of a punch, by the tables of the pointer and of the count
  module _ (f i d : ℕ) (group : Kept) (below : f < v.locks.geometry.files) (held : holds (host_at v.locks h) (File f) ≡ true)
      (sight : IsSight v.locks.geometry (kept_at c h) (Plain (Punch f i)) (Drops d)) (kept : IsKept v h group)
      (which : group.which ≡ table_of (Count d)) where
    abbrev n : ℕ
    n = number_in group.table (Count d)

    abbrev Seen : Image → Type 0
    Seen image = (Finds v.locks h image × Reads v.locks.geometry (kept_at c h) image) × CountsBy v.locks.geometry group image

    drop_seen : Sure v.locks h Seen
    drop_seen = sees v c h is cached empty group kept

    droppable : (image : Image) → Seen image → IsDroppable v.locks.geometry image (key_at v.locks h) f i d n
    droppable image seen = record {
      pointer = held_field v h image seen.0.0 (Pointer f i) sight.1.pointer.has below held;
      names = pointer_found v.locks.geometry (kept_at c h) f i d sight.0 image is.geometry seen.0.1 sight.1.pointer;
      count = held_count v h d group image seen.0.0 kept which;
      is = seen.1 d which;
    }

    pub may_drop : (entry : JournalRecord) (k : Kept) (left : List Kept)
        → entry ≡ record { key = key_at v.locks h; edits = dropped f i d n } → k.which ≡ table_of (Pointer f i)
        → kept_at c h (table_of (Pointer f i)) ≡ Some k.table → left ≡ k ∷ group ∷ [] → MayCommit v h entry left
    may_drop entry k left entry_is pointers kept_is left_is =
        let has = sight.1.pointer.has in
        let file = pointer_table v.locks.geometry f i is.geometry has in
        let in_range = count_range v h d group kept which in
        subst (λ (r : JournalRecord). MayCommit v h r left) (sym entry_is)
        (subst (MayCommit v h (record { key = key_at v.locks h; edits = dropped f i d n })) (sym left_is) (record {
          key = refl;
          edits = all-two (IsEdit v.locks.geometry) (edit (Pointer f i) 0) (edit (Count d) (n - 1)) (has, hole-range v.locks.geometry)
              (count_has v.locks.geometry d group kept.table which, omega (arith, in_range));
          empty = empty;
          may = sure_of v.locks h Seen (λ image. IsRecord v.locks.geometry image (key_at v.locks h) (dropped f i d n))
              (λ image seen.
              record-drop v.locks.geometry (counter_of v.locks) image (key_at v.locks h) f i d n seen.0.0.agrees.valid
              (droppable image seen))
              drop_seen;
          kept = (
            kept_of_file v c h f (table_of (Pointer f i)) k cached held file (owner_table (Pointer f i)) pointers kept_is,
            (kept, tt),
          );
          order = two_tables f i d k group pointers which;
        }))

    pub drop_committed : (w : WorldView) (entry : JournalRecord) (left : List Kept) (a : Applying)
        → entry ≡ record { key = key_at v.locks h; edits = dropped f i d n } → IsPut h v w entry left a
        → HasCommitted h v w (Plain (Punch f i)) (Some Done) (dropped f i d n) a
    drop_committed w entry left a entry_is put =
        has_placed v w h (dropped f i d n) entry left a (ap (λ (r : JournalRecord). r.edits) entry_is) put (Punch f i) Done Seen drop_seen
        (λ old new seen step.
        placed-drop v.locks.geometry (counter_of v.locks) old new (key_at v.locks h) f i d n seen.0.0.agrees.valid (droppable old seen)
        (block_inside v.locks.geometry (kept_at c h) f i (At d sight.0) old seen.0.1 sight.1) step)
