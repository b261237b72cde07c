-- The record of a purge is right by what kept tables say, and no file changes by its commit.
use Rattle.std.proofs.Common.{◌≡◌, ◌<◌, ◌≤◌, ◌+◌, ◌-◌, ◌/◌, ◌==◌, ◌∷◌, [], ℕ, Bool, true, false, List, None, Some, refl, ap, sym, subst, ◌∙◌, arith, length}
use Rattle.std.specs.Prelude.{All, IfSome, if◌then◌else◌, slice_get, slice_index_or}
use Rattle.std.proofs.lemmas.Bool.{and_parts, eqb-true}
use Rattle.std.proofs.lemmas.List.{length-map}
use Rattle.std.proofs.lemmas.Option.{get_or_from_slice_get}
use Rattle.std.proofs.lemmas.List.Elements.{All-head, All-map, All-tail}
use Rattle.vol_layout.specs.declared.field.Edit.{Edit}
use Rattle.vol_layout.specs.declared.field.Field.TheVariants.{Count, Head, Pointer}
use Rattle.vol_layout.specs.declared.geometry.Geometry.{Geometry}
use Rattle.vol_layout.specs.declared.kind.Resource.TheVariants.{File}
use Rattle.vol_layout.specs.declared.kind.Table.{Table}
use Rattle.vol_layout.specs.declared.kind.Table.TheVariants as tables
use Rattle.vol_layout.specs.Edits.{IsEdit, touches}
use Rattle.vol_layout.specs.Fields.{HasField, table_of}
use Rattle.vol_layout.specs.Ranges.{IsGeometry, data_blocks, limit, per_table}
use Rattle.vol_base.specs.declared.plain.PlainCall.TheVariants.{Create, Punch, Read, Remove, Size, Write}
use Rattle.image_view.specs.declared.pointer.Number.TheVariants.{At}
use Rattle.image_view.specs.Balances.{edit}
use Rattle.image_view.specs.Images.{Image}
use Rattle.image_view.specs.Numbers.{logical}
use Rattle.image_view.specs.Pointers.{named}
use Rattle.image_view.specs.Records.{IsRecord}
use Rattle.journal_block.specs.JournalRecord.{JournalRecord}
use Rattle.table_blocks.specs.Tables.{number_in}
use Rattle.call_effects.specs.Purges.{IsLowered, IsPurgeable, IsRemain, counted, emptied, purged}
use Rattle.call_effects.specs.laws.EachEdit.{all-append, all-weaker, all-both}
use Rattle.call_effects.specs.laws.PointerLaws.{hole-range}
use Rattle.call_effects.specs.laws.PurgeLaws.{record-purge, stays-purge}
use Rattle.lock_store.specs.Memories.{holds}
use Rattle.lock_store.specs.Views.{counter_of, host_at, key_at}
use Rattle.disk_locks.specs.Consistent.{Consistent}
use Rattle.disk_locks.specs.Sure.{Sure}
use Rattle.held_cache.specs.Kept.{Cache, kept_at}
use Rattle.host_facts.specs.Facts.Fact.{RecordIs}
use Rattle.host_facts.specs.Finds.{Finds}
use Rattle.host_facts.specs.Knows.{Knows}
use Rattle.host_facts.specs.Views.{WorldView}
use Rattle.host_facts.specs.laws.KindLaws.{owner_table}
use Rattle.host_facts.specs.laws.ToldLaws.{sure_of}
use Rattle.plan_parts.specs.KeptTables.{IsKept}
use Rattle.plan_parts.specs.TableOrder.{same_table, tables_of}
use Rattle.plan_parts.specs.declared.applying.Applying.{Applying}
use Rattle.plan_parts.specs.declared.kept.Kept.{Kept}
use Rattle.file_plans.specs.Bases.{IsCached}
use Rattle.file_plans.specs.Calls.{file_of}
use Rattle.file_plans.specs.Commits.{HasCommitted, IsPut, MayCommit, blocks_from, counts_of, indexes_of, named_in}
use Rattle.file_plans.specs.Says as says
use Rattle.file_plans.specs.Says.{AreAscending, AreRemains, Known, Reads, Says, are_together}
use Rattle.file_plans.specs.Sights.{IsSight}
use Rattle.file_plans.specs.declared.call.FileCall.{FileCall}
use Rattle.file_plans.specs.declared.call.FileCall.TheVariants.{Close, Plain}
use Rattle.file_plans.specs.declared.remains.Remain.{Remain}
use Rattle.file_plans.specs.declared.sight.Sight.TheVariants.{Purges}
use Rattle.file_plans.specs.laws.BlocksLaws.{blocks_all, blocks_apart, blocks_few, each_named, each_there}
use Rattle.file_plans.specs.laws.PutLaws.{CountsBy, count_has, count_range, group_apart, has_stayed, held_count, held_field, kept_of_file, pointer_found, sees}
use Rattle.file_plans.specs.laws.RemainLaws.{OfTable, ascending_apart, named_is, named_uses, tables_one, tables_two}
use Rattle.file_plans.specs.laws.SaysLaws.{pointer_table}

-- the remains of a call, by the head of its file
pub record IsPurge (g : Geometry) (known : Known) (f : ℕ) (rs : List Remain) : Type 0 where
  pub from : ℕ
  pub to : ℕ
  pub head : ℕ
  pub says : Says known (Head f) head
  pub past : head ≤ from + 1
  pub remains : AreRemains g known f from to rs

pub purge_of : (g : Geometry) (known : Known) (call : FileCall) (rs : List Remain) → IsSight g known call (Purges rs)
    → IsPurge g known (file_of call) rs
purge_of g known (Plain (Size f k)) rs sight = record {
  from = sight.0;
  to = k;
  head = sight.0 + 1;
  says = sight.1;
  past = omega arith;
  remains = sight.3;
}
purge_of g known (Close f) rs sight = record {
  from = sight.0 - 1;
  to = limit g;
  head = sight.0;
  says = sight.1;
  past = omega arith;
  remains = sight.2;
}
purge_of g known (Plain (Create f)) rs sight = absurd sight
purge_of g known (Plain (Remove f)) rs sight = absurd sight
purge_of g known (Plain (Read f i)) rs sight = absurd sight
purge_of g known (Plain (Punch f i)) rs sight = absurd sight
purge_of g known (Plain (Write f i block)) rs sight = absurd sight

-- the first one, and the numbers of all
pub first_remain : (g : Geometry) (known : Known) (call : FileCall) (rs : List Remain) (r : Remain) → IsSight g known call (Purges rs)
    → slice_get rs 0 ≡ Some r → (shared : Bool) × says.PointsTo g known (file_of call) r.index (At r.number shared)
first_remain g known call rs r sight get =
    let purge = purge_of g known call rs sight in
    let all = purge.remains.each 0 r (let some = ap length purge.remains.are in omega (arith, some)) in
    let same : slice_index_or rs 0 r ≡ r = get_or_from_slice_get rs 0 r r get in
    subst (λ (s : Remain). (shared : Bool) × says.PointsTo g known (file_of call) s.index (At s.number shared)) same
    (all.shared, all.pointer)

pub remains_small : (g : Geometry) (known : Known) (call : FileCall) (rs : List Remain) → IsGeometry g → IsSight g known call (Purges rs)
    → All (λ (r : Remain). r.number < 65536) rs
unfolding data_blocks per_table
remains_small g known call rs range sight =
    let purge = purge_of g known call rs sight in
    all-weaker (says.IsRemain g known (file_of call) purge.from purge.to) (λ (r : Remain). r.number < 65536) rs
    (λ r one'. omega (arith, one'.pointer.inside, range.groups.1)) purge.remains.each

-- remains that stand together with the first are of its table block, and their data blocks of its group
same_tables : (f : ℕ) (first r : Remain) → are_together first r ≡ true
    → (table_of (Pointer f r.index) ≡ table_of (Pointer f first.index)) × (table_of (Count r.number) ≡ table_of (Count first.number))
same_tables f first r is =
    let both = and_parts (first.index / per_table == r.index / per_table) (first.number / per_table == r.number / per_table) is in (
      ap (λ (b : ℕ). if b == 0 then tables.File f else tables.More f b)
          (sym (eqb-true (first.index / per_table) (r.index / per_table) both.0)),
      ap tables.Group (sym (eqb-true (first.number / per_table) (r.number / per_table) both.1)),
    )

module _ (v : WorldView) (c : Cache) (h : ℕ) (is : Consistent v.locks) (cached : IsCached v c h) (empty : Knows v h (RecordIs []))
    (f : ℕ) (group : Kept) (first : Remain) (more : List Remain) (below : f < v.locks.geometry.files)
    (held : holds (host_at v.locks h) (File f) ≡ true) (kept : IsKept v h group) (which : group.which ≡ table_of (Count first.number))
    (purge : IsPurge v.locks.geometry (kept_at c h) f (first ∷ more))
    (together : All (λ r. are_together first r ≡ true) (first ∷ more)) where
  abbrev g : Geometry
  g = v.locks.geometry

  abbrev key : ℕ
  key = key_at v.locks h

  abbrev rs : List Remain
  rs = first ∷ more

  abbrev indexes : List ℕ
  indexes = indexes_of rs

  abbrev counts : List (ℕ × ℕ)
  counts = counts_of group.table rs

  abbrev blocks : List ℕ
  blocks = blocks_from (length rs) 0 rs

  abbrev lowered : ℕ → ℕ × ℕ
  lowered d = (d, number_in group.table (Count d) - named_in rs d)

  abbrev es : List Edit
  es = purged f indexes counts

  abbrev Seen : Image → Type 0
  Seen image = (Finds v.locks h image × Reads g (kept_at c h) image) × CountsBy g group image

  abbrev Is : Remain → Type 0
  Is r = says.IsRemain g (kept_at c h) f purge.from purge.to r

  -- each block is of the group
  of_group : All (λ r. group.which ≡ table_of (Count r.number)) rs
  of_group = all-weaker (λ r. are_together first r ≡ true) (λ r. group.which ≡ table_of (Count r.number)) rs
      (λ r same. which ∙ sym (same_tables f first r same).1) together

  blocks_group : All (λ d. group.which ≡ table_of (Count d)) blocks
  blocks_group = blocks_all (λ d. group.which ≡ table_of (Count d)) (length rs) 0 rs of_group

  has_each : All (λ i. HasField g (Pointer f i)) indexes
  has_each = All-map (λ i. HasField g (Pointer f i)) (λ (r : Remain). r.index) rs
      (all-weaker Is (λ r. HasField g (Pointer f r.index)) rs (λ r one'. one'.pointer.has) purge.remains.each)

  names_each : (image : Image) → Seen image → All (λ r. named (logical g image (Pointer f r.index)) ≡ Some r.number) rs
  names_each image seen =
      all-weaker Is (λ r. named (logical g image (Pointer f r.index)) ≡ Some r.number) rs
      (λ r one'. pointer_found g (kept_at c h) f r.index r.number one'.shared image is.geometry seen.0.1 one'.pointer) purge.remains.each

  -- a remain, whose block is counted
  remain_is : (image : Image) → Seen image → (r : Remain) → Is r → 1 ≤ named_in rs r.number → IsRemain g image key f counts r.index
  remain_is image seen r one' there = record {
    held = held_field v h image seen.0.0 (Pointer f r.index) one'.pointer.has below held;
    past = let head = seen.0.1 (Head f) purge.head below purge.says in omega (arith, head, purge.past, one'.after);
    is_counted = λ d names.
        let found = pointer_found g (kept_at c h) f r.index r.number one'.shared image is.geometry seen.0.1 one'.pointer in
        let both : Some r.number ≡ Some d = sym found ∙ names in
        let same : r.number ≡ d = cc in
        subst (λ (e : ℕ). touches (counted counts) (Count e) ≡ true) same
        (each_there (λ e. number_in group.table (Count e) - named_in rs e) r.number rs there);
  }

  lowered_is : (image : Image) → Seen image → (d : ℕ) → group.which ≡ table_of (Count d) → IsLowered g image key f indexes (lowered d)
  lowered_is image seen d at =
      let count = held_count v h d group image seen.0.0 kept at in
      let by = named_is g image f d rs (names_each image seen) in
      let most = named_uses g image f d indexes has_each (ascending_apart f rs purge.remains.ascending) in
      let uses' = seen.0.0.agrees.valid.counted.counts d count.0 in
      let number = seen.1 d at in record {
        held = count;
        lowered = omega (arith, by, most, uses', number);
      }

  purgeable : (image : Image) → Seen image → IsPurgeable g image key f indexes counts
  purgeable image seen =
      let long = length-map rs (λ (r : Remain). r.index) in
      let counts_long = length-map blocks lowered in
      let few = blocks_few (length rs) 0 rs in record {
        few = omega (arith, long, purge.remains.few);
        as_many = omega (arith, counts_long, few, purge.remains.few);
        remains = All-map (IsRemain g image key f counts) (λ (r : Remain). r.index) rs
            (all-weaker (λ r. Is r × (1 ≤ named_in rs r.number)) (λ r. IsRemain g image key f counts r.index) rs
            (λ r both. remain_is image seen r both.0 both.1)
            (all-both Is (λ r. 1 ≤ named_in rs r.number) rs purge.remains.each (each_named rs)));
        lowered = All-map (IsLowered g image key f indexes) lowered blocks
            (all-weaker (λ d. group.which ≡ table_of (Count d)) (λ d. IsLowered g image key f indexes (lowered d)) blocks
            (lowered_is image seen) blocks_group);
        indexes_apart = ascending_apart f rs purge.remains.ascending;
        counts_apart = blocks_apart (λ e. number_in group.table (Count e) - named_in rs e) (length rs) 0 rs;
      }

  -- in range are all edits, whatever the device tells
  pointer_edits : All (IsEdit g) (emptied f indexes)
  pointer_edits = All-map (IsEdit g) (λ (i : ℕ). edit (Pointer f i) 0) indexes
      (all-weaker (λ i. HasField g (Pointer f i)) (λ i. IsEdit g (edit (Pointer f i) 0)) indexes (λ i has. (has, hole-range g)) has_each)

  count_edit : (d : ℕ) → group.which ≡ table_of (Count d) → IsEdit g (edit (Count (lowered d).0) (lowered d).1)
  count_edit d at = let range = count_range v h d group kept at in (count_has g d group kept.table at, omega (arith, range))

  count_edits : All (IsEdit g) (counted counts)
  count_edits = All-map (IsEdit g) (λ (p : ℕ × ℕ). edit (Count p.0) p.1) counts
      (All-map (λ (p : ℕ × ℕ). IsEdit g (edit (Count p.0) p.1)) lowered blocks
      (all-weaker (λ d. group.which ≡ table_of (Count d)) (λ d. IsEdit g (edit (Count (lowered d).0) (lowered d).1)) blocks count_edit
      blocks_group))

  -- and the tables are in the order of the edits
  pointer_tables : All (OfTable (table_of (Pointer f first.index))) (emptied f indexes)
  pointer_tables = All-map (OfTable (table_of (Pointer f first.index))) (λ (i : ℕ). edit (Pointer f i) 0) indexes
      (All-map (λ i. table_of (Pointer f i) ≡ table_of (Pointer f first.index)) (λ (r : Remain). r.index) rs
      (all-weaker (λ r. are_together first r ≡ true) (λ r. table_of (Pointer f r.index) ≡ table_of (Pointer f first.index)) rs
      (λ r same. (same_tables f first r same).0) together))

  count_tables : All (OfTable group.which) (counted counts)
  count_tables = All-map (OfTable group.which) (λ (p : ℕ × ℕ). edit (Count p.0) p.1) counts
      (All-map (λ (p : ℕ × ℕ). table_of (Count p.0) ≡ group.which) lowered blocks
      (all-weaker (λ d. group.which ≡ table_of (Count d)) (λ d. table_of (Count d) ≡ group.which) blocks (λ d at. sym at) blocks_group))

  order : tables_of es ≡ table_of (Pointer f first.index) ∷ group.which ∷ []
  order =
      let some = each_there (λ e. number_in group.table (Count e) - named_in rs e) first.number rs
      (All-head (λ r. 1 ≤ named_in rs r.number) first more (each_named rs)) in
      let last = tables_one group.which (counted counts) (Count first.number) count_tables some in
      let apart : same_table group.which (table_of (Pointer f first.index)) ≡ false =
      ap (λ (t : Table). same_table t (table_of (Pointer f first.index))) which ∙ group_apart f first.index (first.number / per_table) in
      ap (λ (ts : List Table). table_of (Pointer f first.index) ∷ ts)
      (tables_two (table_of (Pointer f first.index)) group.which (emptied f (indexes_of more)) (counted counts)
      (All-tail (OfTable (table_of (Pointer f first.index))) (edit (Pointer f first.index) 0) (emptied f (indexes_of more)) pointer_tables)
      last apart)

  purge_seen : Sure v.locks h Seen
  purge_seen = sees v c h is cached empty group kept

  purge_may : (entry : JournalRecord) (k : Kept) (left : List Kept) → entry ≡ record { key = key; edits = es }
      → k.which ≡ table_of (Pointer f first.index) → kept_at c h (table_of (Pointer f first.index)) ≡ Some k.table
      → left ≡ k ∷ group ∷ [] → MayCommit v h entry left
  purge_may entry k left entry_is pointers kept_is left_is =
      let has = (All-head Is first more purge.remains.each).pointer.has in
      let file = pointer_table g f first.index is.geometry has in
      let table = kept_of_file v c h f (table_of (Pointer f first.index)) k cached held file
      (owner_table (Pointer f first.index)) pointers kept_is in
      subst (λ (r : JournalRecord). MayCommit v h r left) (sym entry_is)
      (subst (MayCommit v h (record { key = key; edits = es })) (sym left_is) (record {
        key = refl;
        edits = all-append (IsEdit g) (emptied f indexes) (counted counts) pointer_edits count_edits;
        empty = empty;
        may = sure_of v.locks h Seen (λ image. IsRecord g image key es)
            (λ image seen. record-purge g (counter_of v.locks) image key f indexes counts seen.0.0.agrees.valid (purgeable image seen))
            purge_seen;
        kept = (table, (kept, tt));
        order = ap (λ (t : Table). t ∷ group.which ∷ []) pointers ∙ sym order;
      }))

  purge_done : (w : WorldView) (call : FileCall) (entry : JournalRecord) (left : List Kept) (a : Applying)
      → entry ≡ record { key = key; edits = es } → IsPut h v w entry left a → HasCommitted h v w call None es a
  purge_done w call entry left a entry_is put =
      has_stayed v w h es entry left a (ap (λ (r : JournalRecord). r.edits) entry_is) put call Seen purge_seen
      (λ old new seen step.
      stays-purge g (counter_of v.locks) old new key f indexes counts seen.0.0.agrees.valid (purgeable old seen) step)

-- the same by the sight of a call
module _ (v : WorldView) (c : Cache) (h : ℕ) (is : Consistent v.locks) (cached : IsCached v c h) (empty : Knows v h (RecordIs []))
    (call : FileCall) (rs : List Remain) (group : Kept) (below : file_of call < v.locks.geometry.files)
    (held : holds (host_at v.locks h) (File (file_of call)) ≡ true) (kept : IsKept v h group)
    (which : IfSome (slice_get rs 0) (λ r. group.which ≡ table_of (Count r.number)))
    (sight : IsSight v.locks.geometry (kept_at c h) call (Purges rs)) where
  abbrev purge : IsPurge v.locks.geometry (kept_at c h) (file_of call) rs
  purge = purge_of v.locks.geometry (kept_at c h) call rs sight

  -- what was found, by its first remain
  by_first : (P : List Remain → Type 0)
      → (group.which ≡ table_of (Count purge.remains.first.number)
      → IsPurge v.locks.geometry (kept_at c h) (file_of call) (purge.remains.first ∷ purge.remains.more)
      → All (λ r. are_together purge.remains.first r ≡ true) (purge.remains.first ∷ purge.remains.more)
      → P (purge.remains.first ∷ purge.remains.more)) → P rs
  by_first P f =
      let are = purge.remains.are in
      subst P (sym are)
      (f (subst (λ (xs : List Remain). IfSome (slice_get xs 0) (λ r. group.which ≡ table_of (Count r.number))) are which)
      (subst (IsPurge v.locks.geometry (kept_at c h) (file_of call)) are purge)
      (subst (All (λ r. are_together purge.remains.first r ≡ true)) are purge.remains.together))

  -- it may be committed
  pub may_purge : (entry : JournalRecord) (r : Remain) (k : Kept) (left : List Kept)
      → entry ≡ record { key = key_at v.locks h; edits = purged (file_of call) (indexes_of rs) (counts_of group.table rs) }
      → slice_get rs 0 ≡ Some r → k.which ≡ table_of (Pointer (file_of call) r.index)
      → kept_at c h (table_of (Pointer (file_of call) r.index)) ≡ Some k.table → left ≡ k ∷ group ∷ [] → MayCommit v h entry left
  may_purge entry r k left =
      by_first (λ xs. entry ≡ record { key = key_at v.locks h; edits = purged (file_of call) (indexes_of xs) (counts_of group.table xs) }
      → slice_get xs 0 ≡ Some r → k.which ≡ table_of (Pointer (file_of call) r.index)
      → kept_at c h (table_of (Pointer (file_of call) r.index)) ≡ Some k.table → left ≡ k ∷ group ∷ [] → MayCommit v h entry left)
      (λ at all together entry_is get pointers kept_is left_is.
      let same : r ≡ purge.remains.first = cc in
      purge_may v c h is cached empty
      (file_of call) group purge.remains.first purge.remains.more below held kept at all together entry k left
      entry_is (subst (λ (s : Remain). k.which ≡ table_of (Pointer (file_of call) s.index)) same pointers)
      (subst (λ (s : Remain). kept_at c h (table_of (Pointer (file_of call) s.index)) ≡ Some k.table) same kept_is) left_is)

  -- and its commit changes no file
  pub purge_committed : (w : WorldView) (entry : JournalRecord) (left : List Kept) (a : Applying)
      → entry ≡ record { key = key_at v.locks h; edits = purged (file_of call) (indexes_of rs) (counts_of group.table rs) }
      → IsPut h v w entry left a
      → HasCommitted h v w call None (purged (file_of call) (indexes_of rs) (counts_of group.table rs)) a
  purge_committed w entry left a =
      by_first (λ xs. entry ≡ record { key = key_at v.locks h; edits = purged (file_of call) (indexes_of xs) (counts_of group.table xs) }
      → IsPut h v w entry left a → HasCommitted h v w call None (purged (file_of call) (indexes_of xs) (counts_of group.table xs)) a)
      (λ at all together.
      purge_done v c h is cached empty (file_of call) group purge.remains.first purge.remains.more below held kept at all together w call
      entry left a)
