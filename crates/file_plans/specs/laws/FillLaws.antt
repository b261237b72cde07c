-- The record of a fresh write is right by what kept tables say, and its commit is the place of the write.
use Rattle.std.proofs.Common.{◌≡◌, ◌≢◌, ◌<◌, ◌≤◌, ◌+◌, ◌-◌, ◌/◌, ◌==◌, ◌^◌, ◌∷◌, [], ℕ, Bool, true, false, List, None, Some, inl, inr, refl, ap, sym, subst, ◌∙◌, arith}
use Rattle.std.specs.Prelude.{All, if◌then◌else◌, map, nat_lt}
use Rattle.std.proofs.lemmas.Bool.{cases_Bool, eq-eqb, eqb-true, ne_eqb}
use Rattle.vol_base.specs.declared.block.Block.{Block}
use Rattle.vol_base.specs.declared.plain.PlainCall.TheVariants.{Write}
use Rattle.vol_base.specs.declared.plain.PlainReply.TheVariants.{Done}
use Rattle.vol_layout.specs.declared.field.Edit.{Edit}
use Rattle.vol_layout.specs.declared.field.Field.TheVariants.{Count, Pointer}
use Rattle.vol_layout.specs.declared.geometry.Geometry.{Geometry}
use Rattle.vol_layout.specs.declared.kind.Resource.TheVariants.{File}
use Rattle.vol_layout.specs.declared.kind.Table.TheVariants as tables
use Rattle.vol_layout.specs.Edits.{IsEdit}
use Rattle.vol_layout.specs.Fields.{greatest_count, table_of}
use Rattle.vol_layout.specs.Ranges.{HasTable, IsGeometry, per_table}
use Rattle.image_view.specs.declared.pointer.Number.TheVariants.{At}
use Rattle.image_view.specs.Balances.{edit}
use Rattle.image_view.specs.Images.{Image}
use Rattle.image_view.specs.Links.{marked}
use Rattle.image_view.specs.Numbers.{logical}
use Rattle.image_view.specs.Pointers.{IsUnmarked, named, pointer_number}
use Rattle.image_view.specs.Records.{IsRecord}
use Rattle.image_view.specs.laws.FileLaws.{used_once}
use Rattle.journal_block.specs.JournalRecord.{JournalRecord}
use Rattle.table_blocks.specs.Tables.{number_in}
use Rattle.call_effects.specs.Fresh.{IsFillable, Leaves, Left, counts_filled, filled}
use Rattle.call_effects.specs.laws.CountLaws.{moved-all}
use Rattle.call_effects.specs.laws.EachEdit.{all-one}
use Rattle.call_effects.specs.laws.FreshLaws.{placed-fill, record-fill}
use Rattle.call_effects.specs.laws.PointerLaws.{fresh-range, fresh-unmarked, marked-not_lone}
use Rattle.std.proofs.lemmas.List.Elements.{All-cons}
use Rattle.lock_store.specs.Memories.{holds}
use Rattle.lock_store.specs.Views.{counter_of, host_at, key_at}
use Rattle.disk_locks.specs.Consistent.{Consistent}
use Rattle.disk_locks.specs.Sure.{Sure}
use Rattle.held_cache.specs.Kept.{Cache, kept_at}
use Rattle.host_facts.specs.Facts.{Tells}
use Rattle.host_facts.specs.Facts.Fact.{FreshIs, RecordIs}
use Rattle.host_facts.specs.Finds.{Finds}
use Rattle.host_facts.specs.Knows.{Knows}
use Rattle.host_facts.specs.Views.{WorldView}
use Rattle.host_facts.specs.laws.KindLaws.{owner_table}
use Rattle.host_facts.specs.laws.ToldLaws.{sure_all, sure_and, sure_of}
use Rattle.plan_parts.specs.KeptTables.{AreKept, IsKept}
use Rattle.plan_parts.specs.TableOrder.{tables_of}
use Rattle.plan_parts.specs.declared.applying.Applying.{Applying}
use Rattle.plan_parts.specs.declared.kept.Kept.{Kept}
use Rattle.file_plans.specs.Bases.{IsCached}
use Rattle.file_plans.specs.Commits.{AreLong, HasCommitted, IsOld, IsPut, MayCommit, filled_tables, left_by, left_of, pointer_before}
use Rattle.file_plans.specs.Says.{HasBlock, Reads}
use Rattle.file_plans.specs.declared.call.FileCall.TheVariants.{Plain}
use Rattle.file_plans.specs.declared.old.Old.{Old}
use Rattle.file_plans.specs.declared.old.Old.TheVariants.{Hole, Other, Same}
use Rattle.file_plans.specs.laws.PutLaws.{CountsBy, block_inside, count_has, count_range, counts_known, group_apart, has_placed, held_count, held_field, kept_of_file, pointer_found, sees, two_tables}
use Rattle.file_plans.specs.laws.SaysLaws.{pointer_table}

-- the table of what is left is whole
pub old_long : (v : WorldView) (h : ℕ) (group : Kept) (old : Old) → IsOld v h group old → AreLong old
old_long v h group Hole leaves = tt
old_long v h group (Same d) leaves = tt
old_long v h group (Other d other) leaves = leaves.0.packing.entries

-- a data block's number is below all numbers of a word
pub short_block : (g : Geometry) (d : ℕ) (kept : Kept) → IsGeometry g → HasTable g kept.which → kept.which ≡ table_of (Count d)
    → d + 1 < 2 ^ 32
short_block g d kept range has which =
    let un = fresh-unmarked g d range (count_has g d kept has which) in omega (arith, un.1)

-- a block may be named at least once
one_count : (g : Geometry) → IsGeometry g → 1 ≤ greatest_count g
unfolding greatest_count per_table
one_count g range =
    elim (cases_Bool (g.tables == 1)) [
      | inl one ↦ rw one (omega arith)
      | inr more ↦ rw more (omega (arith, range.parts.0))
    ]

-- the tables of a pointer and two counts: of one group, and of two
module _ (f i p a b m n : ℕ) (k : Kept) (pointers : k.which ≡ table_of (Pointer f i)) where
  abbrev three : List Edit
  three = edit (Pointer f i) p ∷ edit (Count a) m ∷ edit (Count b) n ∷ []

  one_group : (group : Kept) → group.which ≡ table_of (Count a) → group.which ≡ table_of (Count b)
      → k.which ∷ group.which ∷ [] ≡ tables_of three
  one_group group first second =
      let same : b / per_table ≡ a / per_table =
      (let one : tables.Group (b / per_table) ≡ tables.Group (a / per_table) = sym second ∙ first in cc) in
      let together = eq-eqb (b / per_table) (a / per_table) same in
      let apart = group_apart f i (a / per_table) in
      rw (pointers, first, together, apart) refl

  two_groups : (one other : Kept) → one.which ≡ table_of (Count a) → other.which ≡ table_of (Count b) → one.which ≢ other.which
      → k.which ∷ one.which ∷ other.which ∷ [] ≡ tables_of three
  two_groups one other first second differ =
      let apart = ne_eqb (b / per_table) (a / per_table) (λ same. differ (first ∙ ap tables.Group (sym same) ∙ sym second)) in
      let a_apart = group_apart f i (a / per_table) in
      let b_apart = group_apart f i (b / per_table) in
      rw (pointers, first, second, apart, a_apart, b_apart) refl

-- what is left, by the cases of a test
by_test : (P : Left → Type 0) (d e n : ℕ) → (e ≡ d → P None) → (e ≢ d → P (Some (e, n))) → P (left_by d e n)
by_test P d e n one other =
    elim (cases_Bool (e == d)) [
      | inl same ↦ rw same (one (eqb-true e d same))
      | inr apart ↦ rw apart (other (λ same. let test = eq-eqb e d same in let bad : true ≡ false = sym test ∙ apart in absurd cc))
    ]

module _ (v : WorldView) (c : Cache) (h : ℕ) (is : Consistent v.locks) (cached : IsCached v c h) (empty : Knows v h (RecordIs []))
    (f i d : ℕ) (group : Kept) (below : f < v.locks.geometry.files) (held : holds (host_at v.locks h) (File f) ≡ true)
    (kept : IsKept v h group) (which : group.which ≡ table_of (Count d)) (free : number_in group.table (Count d) ≡ 0) where
  abbrev g : Geometry
  g = v.locks.geometry

  abbrev key : ℕ
  key = key_at v.locks h

  -- the counts of the old block's group
  abbrev OldCounts : Old → Image → Type 0
  OldCounts Hole image = Unit {0}
  OldCounts (Same e) image = Unit {0}
  OldCounts (Other e other) image = CountsBy g other image

  abbrev Seen : Old → Image → Type 0
  Seen old image = ((Finds v.locks h image × Reads g (kept_at c h) image) × CountsBy g group image) × OldCounts old image

  old_known : (old : Old) → IsOld v h group old → Sure v.locks h (OldCounts old)
  old_known Hole leaves = sure_all v.locks h (λ image. Unit {0}) (λ image. tt)
  old_known (Same e) leaves = sure_all v.locks h (λ image. Unit {0}) (λ image. tt)
  old_known (Other e other) leaves = counts_known v h other is leaves.0 empty

  fill_seen : (old : Old) → IsOld v h group old → Sure v.locks h (Seen old)
  fill_seen old leaves =
      sure_and v.locks h (λ image. (Finds v.locks h image × Reads g (kept_at c h) image) × CountsBy g group image) (OldCounts old)
      (sees v c h is cached empty group kept) (old_known old leaves)

  -- a block that the pointer leaves is not the one that was found, whose count is 0
  leaves_block : (e : ℕ) (other : Kept) (image : Image) → Finds v.locks h image → Reads g (kept_at c h) image → IsKept v h other
      → other.which ≡ table_of (Count e) → CountsBy g other image → logical g image (Count d) ≡ 0 → HasBlock g (kept_at c h) f i (At e true)
      → Leaves g image key f i (left_by d e (number_in other.table (Count e)))
  leaves_block e other image found reads is_kept at counts none block =
      let names = pointer_found g (kept_at c h) f i e true image is.geometry reads block.pointer in
      let number : logical g image (Pointer f i) ≡ marked e = reads (Pointer f i)
      (pointer_number (At e true)) block.pointer.has block.pointer.says ∙ omega arith in
      let there = held_count v h e other image found is_kept at in
      let used = used_once g image f i e block.pointer.has names in
      let count = found.agrees.valid.counted.counts e there.0 in
      by_test (Leaves g image key f i) d e (number_in other.table (Count e))
      (λ same. let zero' : logical g image (Count e) ≡ 0 = ap (λ (k : ℕ). logical g image (Count k)) same ∙ none in
      absurd (omega (arith, used, count, zero')))
      (λ apart. (names, λ lone. marked-not_lone e (subst IsUnmarked number lone), there, counts e at))

  leaves_old : (old : Old) (image : Image) → IsOld v h group old → HasBlock g (kept_at c h) f i (pointer_before old) → Seen old image
      → Leaves g image key f i (left_of d group old)
  leaves_old Hole image leaves block seen = ap named (seen.0.0.1 (Pointer f i) 0 block.pointer.has block.pointer.says)
  leaves_old (Same e) image leaves block seen =
      leaves_block e group image seen.0.0.0 seen.0.0.1 kept leaves seen.0.1 (seen.0.1 d which ∙ free) block
  leaves_old (Other e other) image leaves block seen =
      leaves_block e other image seen.0.0.0 seen.0.0.1 leaves.0 leaves.1 seen.1 (seen.0.1 d which ∙ free) block

  -- in range are the counts, whatever the device tells
  raised : IsEdit g (edit (Count d) 1)
  raised = (count_has g d group kept.table which, one_count g is.geometry)

  block_edits : (e : ℕ) (other : Kept) → IsKept v h other → other.which ≡ table_of (Count e)
      → All (IsEdit g) (counts_filled d (left_by d e (number_in other.table (Count e))))
  block_edits e other is_kept at =
      let n = number_in other.table (Count e) in
      let range = count_range v h e other is_kept at in
      by_test (λ (left : Left). All (IsEdit g) (counts_filled d left)) d e n (λ same. all-one (IsEdit g) (edit (Count d) 1) raised)
      (λ apart. moved-all (IsEdit g) e d n 0 (count_has g e other is_kept.table at, omega (arith, range)) raised)

  old_edits : (old : Old) → IsOld v h group old → All (IsEdit g) (counts_filled d (left_of d group old))
  old_edits Hole leaves = all-one (IsEdit g) (edit (Count d) 1) raised
  old_edits (Same e) leaves = block_edits e group kept leaves
  old_edits (Other e other) leaves = block_edits e other leaves.0 leaves.1

  module _ (k : Kept) (pointers : k.which ≡ table_of (Pointer f i)) where
    -- the counts of two blocks, and the tables of two groups, in either order
    abbrev moved : ℕ → ℕ → Bool → List Edit
    moved e n b = if b then edit (Count e) (n - 1) ∷ edit (Count d) 1 ∷ [] else edit (Count d) 1 ∷ edit (Count e) (n - 1) ∷ []

    abbrev ordered : Kept → Bool → List Kept
    ordered other b = if b then k ∷ other ∷ group ∷ [] else k ∷ group ∷ other ∷ []

    -- the tables are in the order of the edits
    one_table : k.which ∷ group.which ∷ [] ≡ tables_of (filled f i d None)
    one_table = two_tables f i d k group pointers which

    same_order : (e n : ℕ) → group.which ≡ table_of (Count e) → k.which ∷ group.which ∷ [] ≡ tables_of (filled f i d (Some (e, n)))
    same_order e n at =
        elim (nat_lt e d) as (λ b. k.which ∷ group.which ∷ [] ≡ tables_of (edit (Pointer f i) (d + 1) ∷ moved e n b)) [
          | true ↦ one_group f i (d + 1) e d (n - 1) 1 k pointers group at which
          | false ↦ one_group f i (d + 1) d e 1 (n - 1) k pointers group which at
        ]

    other_order : (e n : ℕ) (other : Kept) → other.which ≡ table_of (Count e) → other.which ≢ group.which
        → map (λ (t : Kept). t.which) (filled_tables k d group (Other e other)) ≡ tables_of (filled f i d (Some (e, n)))
    other_order e n other at differ =
        elim (nat_lt e d) as (λ b. map (λ (t : Kept). t.which) (ordered other b) ≡ tables_of (edit (Pointer f i) (d + 1) ∷ moved e n b)) [
          | true ↦ two_groups f i (d + 1) e d (n - 1) 1 k pointers other group at which differ
          | false ↦ two_groups f i (d + 1) d e 1 (n - 1) k pointers group other which at (λ same. differ (sym same))
        ]

    fill_order : (old : Old) → IsOld v h group old
        → map (λ (t : Kept). t.which) (filled_tables k d group old) ≡ tables_of (filled f i d (left_of d group old))
    fill_order Hole leaves = one_table
    fill_order (Same e) leaves =
        let n = number_in group.table (Count e) in
        by_test (λ (left : Left). k.which ∷ group.which ∷ [] ≡ tables_of (filled f i d left)) d e n (λ same. one_table)
        (λ apart. same_order e n leaves)
    fill_order (Other e other) leaves =
        let n = number_in other.table (Count e) in
        by_test (λ (left : Left). map (λ (t : Kept). t.which) (filled_tables k d group (Other e other)) ≡ tables_of
        (filled f i d left)) d e n
        (λ same. absurd (leaves.2 (leaves.1 ∙ ap (λ (b : ℕ). table_of (Count b)) same ∙ sym which)))
        (λ apart. other_order e n other leaves.1 leaves.2)

    fill_kept : (old : Old) → IsOld v h group old → IsKept v h k → AreKept v h (filled_tables k d group old)
    fill_kept Hole leaves first = (first, (kept, tt))
    fill_kept (Same e) leaves first = (first, (kept, tt))
    fill_kept (Other e other) leaves first =
        elim (nat_lt e d) as (λ b. AreKept v h (ordered other b)) [
          | true ↦ (first, (leaves.0, (kept, tt)))
          | false ↦ (first, (kept, (leaves.0, tt)))
        ]

  module _ (old : Old) (leaves : IsOld v h group old) (block : HasBlock g (kept_at c h) f i (pointer_before old)) where
    abbrev es : List Edit
    es = filled f i d (left_of d group old)

    fillable : (image : Image) → Seen old image → IsFillable g image key f i d (left_of d group old)
    fillable image seen = record {
      pointer = held_field v h image seen.0.0.0 (Pointer f i) block.pointer.has below held;
      block = held_count v h d group image seen.0.0.0 kept which;
      free = seen.0.1 d which ∙ free;
      leaves = leaves_old old image leaves block seen;
    }

    fill_record : Sure v.locks h (λ image. IsRecord g image key es)
    fill_record = sure_of v.locks h (Seen old) (λ image. IsRecord g image key es)
        (λ image seen. record-fill g (counter_of v.locks) image key f i d (left_of d group old) seen.0.0.0.agrees.valid
        (fillable image seen))
        (fill_seen old leaves)

    -- it may be committed
    pub may_fill : (entry : JournalRecord) (k : Kept) (left : List Kept) → entry ≡ record { key = key; edits = es }
        → k.which ≡ table_of (Pointer f i) → kept_at c h (table_of (Pointer f i)) ≡ Some k.table → left ≡ filled_tables k d group old
        → MayCommit v h entry left
    may_fill entry k left entry_is pointers kept_is left_is =
        let has = block.pointer.has in
        let file = pointer_table g f i is.geometry has in
        let first = kept_of_file v c h f (table_of (Pointer f i)) k cached held file (owner_table (Pointer f i)) pointers kept_is in
        subst (λ (r : JournalRecord). MayCommit v h r left) (sym entry_is)
        (subst (MayCommit v h (record { key = key; edits = es })) (sym left_is) (record {
          key = refl;
          edits = All-cons (IsEdit g) (edit (Pointer f i) (d + 1)) (counts_filled d (left_of d group old))
              (has, fresh-range g d is.geometry (count_has g d group kept.table which)) (old_edits old leaves);
          empty = empty;
          may = fill_record;
          kept = fill_kept k pointers old leaves first;
          order = fill_order k pointers old leaves;
        }))

    -- and its commit is the place of a write of the bytes that the free block has
    pub fill_committed : (w : WorldView) (entry : JournalRecord) (left : List Kept) (a : Applying) (bytes : Block)
        → Knows v h (FreshIs d bytes.0) → entry ≡ record { key = key; edits = es } → IsPut h v w entry left a
        → HasCommitted h v w (Plain (Write f i bytes)) (Some Done) es a
    fill_committed w entry left a bytes fresh entry_is put =
        has_placed v w h es entry left a (ap (λ (r : JournalRecord). r.edits) entry_is) put (Write f i bytes) Done
        (λ image. Seen old image × Tells v.locks h image (FreshIs d bytes.0))
        (sure_and v.locks h (Seen old) (λ image. Tells v.locks h image (FreshIs d bytes.0)) (fill_seen old leaves) fresh.sure)
        (λ before after both step.
        let seen = both.0 in
        placed-fill g (counter_of v.locks) before after key f i d (left_of d group old) bytes seen.0.0.0.agrees.valid (fillable before seen)
        (block_inside g (kept_at c h) f i (pointer_before old) before seen.0.0.1 block) both.1.0 step)
