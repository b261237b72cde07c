-- The step by which the record of a link was written: what it asks for, and what it did.
use Rattle.std.proofs.Common.{◌≡◌, ◌≤◌, ◌+◌, ◌-◌, ◌/◌, ◌++◌, ◌∷◌, ℕ, Bool, true, false, List}
use Rattle.std.proofs.Common.{[], None, Option, Some, refl, ap, sym, subst, ◌∙◌, arith, length}
use Rattle.std.specs.Prelude.{All, if◌then◌else◌, map, nat_lt, option_map}
use Rattle.std.specs.Option.{option_to_list}
use Rattle.vol_base.specs.Packing.{Packing}
use Rattle.vol_layout.specs.declared.field.Edit.{Edit}
use Rattle.vol_layout.specs.declared.field.Field.TheVariants.{Count, Pointer}
use Rattle.vol_layout.specs.declared.geometry.Geometry.{Geometry}
use Rattle.vol_layout.specs.declared.kind.Kind.TheVariants as kinds
use Rattle.vol_layout.specs.declared.kind.Table.{Table}
use Rattle.vol_layout.specs.declared.kind.Table.TheVariants as tables
use Rattle.vol_layout.specs.Edits.{IsEdit}
use Rattle.vol_layout.specs.Fields.{HasField, table_of}
use Rattle.vol_layout.specs.Ranges.{per_table}
use Rattle.image_view.specs.Balances.{edit}
use Rattle.image_view.specs.Images.{Image}
use Rattle.image_view.specs.Records.{IsRecord}
use Rattle.call_effects.specs.Changes.{Changes}
use Rattle.call_effects.specs.Links.{Unmarked, linked}
use Rattle.call_effects.specs.Places.{KeepsFiles}
use Rattle.table_blocks.specs.Tables.{number_in}
use Rattle.journal_block.specs.JournalRecord.{JournalRecord}
use Rattle.vol_layout.specs.Journal.{journal_bytes}
use Rattle.lock_store.specs.Views.{key_at, told_of}
use Rattle.disk_locks.specs.Consistent.{Consistent}
use Rattle.disk_locks.specs.Sure.{BothTold, Sure}
use Rattle.host_facts.specs.Views.{WorldView}
use Rattle.host_facts.specs.Wrote.{FilesStay, Writing}
use Rattle.host_facts.specs.laws.ToldLaws.{both_of, both_with, sure_of}
use Rattle.plan_parts.specs.Applies.{IsApplying}
use Rattle.plan_parts.specs.Commits.{Committed}
use Rattle.plan_parts.specs.KeptTables.{AreKept, IsKept}
use Rattle.plan_parts.specs.TableOrder.{same_table, tables_of}
use Rattle.plan_parts.specs.declared.applying.Applying.{Applying}
use Rattle.plan_parts.specs.declared.kept.Kept.{Kept}
use Rattle.plan_parts.specs.declared.outcome.Outcome.TheVariants as outcomes
use Rattle.plan_parts.specs.laws.TakenLaws.{taking_same}
use Rattle.share_plans.specs.Causes.{IsCause}
use Rattle.share_plans.specs.LinkRecords.{AreLinkTables, IsPointerRead, IsUnmarkedRead, MayRaise, count_table, linked_tables}
use Rattle.share_plans.specs.LinkRecords.{mark_table, moved_by, room_in, table_in, unmarked_of}
use Rattle.share_plans.specs.ReadTables.{Known, kept_in}
use Rattle.share_plans.specs.Spots.{IsPair, IsSourceShown, PointsTo}
use Rattle.share_plans.specs.Stands.{At, IsGroupOf, IsOtherGroup, known_of}
use Rattle.share_plans.specs.Went.{Went}
use Rattle.share_plans.specs.declared.closing.Closing.TheVariants.{Applies}
use Rattle.share_plans.specs.declared.sharing.Place.{Place}
use Rattle.share_plans.specs.declared.sharing.Place.TheVariants.{Arena, File}
use Rattle.share_plans.specs.declared.sharing.Shared.TheVariants as answers
use Rattle.share_plans.specs.declared.stage.Came.TheVariants.{More}
use Rattle.share_plans.specs.declared.stage.Core.{Core}
use Rattle.share_plans.specs.declared.stage.Pair.{Pair}
use Rattle.share_plans.specs.declared.stage.Stage.TheVariants as stages
use Rattle.image_view.specs.declared.pointer.Number.TheVariants as numbers
use Rattle.share_plans.specs.laws.ClosingLaws.{keeps_memory}
use Rattle.share_plans.specs.laws.EndLaws.{places_kept, same_share}
use Rattle.share_plans.specs.laws.KnownLaws.{found_kept}
use Rattle.share_plans.specs.laws.LinkLaws.{Seen, count_has, count_range, files_stay, from_group, link_made, right_record, seen_sure}
use Rattle.share_plans.specs.laws.LinkRecordLaws.{Names, link_order, link_range, named_in, one_group, two_groups}
use Rattle.plan_parts.specs.MadeCalls.{CommittedSo, writing_of}
use Rattle.share_plans.specs.laws.SpareLaws.{spares_place}

-- the record, by the volume
pub entry_by : (core : Core) (pair : Pair) (group : Kept) (other : Option Kept) (x g : Geometry) (key : ℕ) (entry : JournalRecord) → x ≡ g
    → entry ≡ record { key = key; edits = linked core.file core.index pair.source (unmarked_of core.source pair) (moved_by x pair group other) }
    → entry ≡ record { key = key; edits = linked core.file core.index pair.source (unmarked_of core.source pair) (moved_by g pair group other) }
entry_by core pair group other x g key entry same is =
    subst (λ (y : Geometry).
    entry ≡ record { key = key; edits = linked core.file core.index pair.source (unmarked_of core.source pair) (moved_by y pair group other) })
    same is

-- what is sure of its edits is so of it
pub record_as : (v : WorldView) (core : Core) (pair : Pair) (group : Kept) (other : Option Kept) (key : ℕ) (entry : JournalRecord)
    → key ≡ key_at v.locks core.host
    → entry ≡ record {
      key = key;
      edits = linked core.file core.index pair.source (unmarked_of core.source pair) (moved_by v.locks.geometry pair group other);
    }
    → Sure v.locks core.host (λ image.
    IsRecord v.locks.geometry image (key_at v.locks core.host)
    (linked core.file core.index pair.source (unmarked_of core.source pair) (moved_by v.locks.geometry pair group other)))
    → Sure v.locks core.host (λ image. IsRecord v.locks.geometry image entry.key entry.edits)
record_as v core pair group other key entry key_is entry_is sure =
    let es = linked core.file core.index pair.source (unmarked_of core.source pair) (moved_by v.locks.geometry pair group other) in
    subst (λ (r : JournalRecord). Sure v.locks core.host (λ image. IsRecord v.locks.geometry image r.key r.edits)) (sym entry_is)
    (subst (λ (k : ℕ). Sure v.locks core.host (λ image. IsRecord v.locks.geometry image k es)) (sym key_is) sure)

-- the source's pointer without the mark was read
pub unmarked_read : (g : Geometry) (known : Known) (source : Place) (pair : Pair) → IsSourceShown g known source pair.source pair.shared
    → IsUnmarkedRead g known (unmarked_of source pair)
unmarked_read g known (File f i) pair shown = pick pair.shared shown
  where
    pick : (b : Bool) → PointsTo g known f i (numbers.At pair.source b)
        → IsUnmarkedRead g known (if◌then◌else◌ {A = Unmarked} b None (Some (f, i)))
    pick true points = tt
    pick false points = record {
      has = points.has;
      read = λ none. let both : Some points.pointer.table ≡ None = sym points.pointer.kept ∙ none in cc;
    }
unmarked_read g known (Arena s) pair shown = tt

pub own_pointer_read : (g : Geometry) (known : Known) (f i : ℕ) (source : Place) (pair : Pair) → IsPair g known f i source pair
    → IsPointerRead g known f i
own_pointer_read g known f i source pair is = record {
  has = is.own.1.has;
  read = λ none. let both : Some is.own.1.pointer.table ≡ None = sym is.own.1.pointer.kept ∙ none in cc;
}

pub may_raise : (v : WorldView) (h d : ℕ) (kept : Kept) → Consistent v.locks → IsGroupOf v h d kept → MayRaise v.locks.geometry kept.table d
may_raise v h d kept is group = record { long = group.0.packing.entries; range = count_range v h d kept is group }

-- a table that was read is kept
one_kept : (a b : Kept) → Some a ≡ Some b → a ≡ b
one_kept a b same = cc

pair_kept : (k : Kept) (t : Table) (p : Packing) → k.which ≡ t → k.table ≡ p → k ≡ record { which = t; table = p }
pair_kept k t p which table =
    ap (λ (u : Table). let x : Kept = record { which = u; table = k.table } in x) which
    ∙ ap (λ (q : Packing). let x : Kept = record { which = t; table = q } in x) table

pub read_kept : (v : WorldView) (h : ℕ) (left : List Kept) (t : Table) (k : Kept)
    → AreKept v h left → table_in (kept_in left) t ≡ Some k → IsKept v h k
read_kept v h left t k are is = by (kept_in left t) refl is
  where
    by : (o : Option Packing) → kept_in left t ≡ o
        → option_map (λ (p : Packing). let k : Kept = record { which = t; table = p } in k) o ≡ Some k → IsKept v h k
    by None none here = absurd cc
    by (Some p) some here =
        let one = found_kept v h left t p are some in
        let same : one.0 ≡ record { which = t; table = p } = pair_kept one.0 t p one.2 one.3 in
        subst (IsKept v h) (same ∙ one_kept (record { which = t; table = p }) k here) one.1

mark_kept : (v : WorldView) (h : ℕ) (left : List Kept) (own : Table) (unmarked : Unmarked) → AreKept v h left
    → AreKept v h (option_to_list (mark_table (kept_in left) own unmarked))
mark_kept v h left own None are = tt
mark_kept v h left own (Some at) are = pick (same_table (table_of (Pointer at.0 at.1)) own)
  where
    by : (o : Option Kept) → table_in (kept_in left) (table_of (Pointer at.0 at.1)) ≡ o → AreKept v h (option_to_list o)
    by None none = tt
    by (Some k) some = (read_kept v h left (table_of (Pointer at.0 at.1)) k are some, tt)

    pick : (b : Bool) → AreKept v h (option_to_list (if b then None else table_in (kept_in left) (table_of (Pointer at.0 at.1))))
    pick true = tt
    pick false = by (table_in (kept_in left) (table_of (Pointer at.0 at.1))) refl

both_kept : (v : WorldView) (h : ℕ) (one more : List Kept) → AreKept v h one → AreKept v h more → AreKept v h (one ++ more)
both_kept v h [] more are rest = rest
both_kept v h (k ∷ one) more are rest = (are.0, both_kept v h one more are.1 rest)

-- a pointer that gets its mark is one of the volume
mark_has : (g : Geometry) (known : Known) (unmarked : Unmarked) → IsUnmarkedRead g known unmarked → (at : ℕ × ℕ) → unmarked ≡ Some at
    → HasField g (Pointer at.0 at.1)
mark_has g known None read at none = absurd cc
mark_has g known (Some found) read at here =
    let same : found ≡ at = cc in subst (λ (p : ℕ × ℕ). HasField g (Pointer p.0 p.1)) same read.has

few_marks : (mark : Option Kept) (more : List Kept) → length (option_to_list mark ++ more) ≤ length more + 1
few_marks None more = omega arith
few_marks (Some k) more = omega arith

module _ (v : WorldView) (core : Core) (pair : Pair) (group : Kept) (other : Option Kept) (is : Consistent v.locks)
    (at : At v core (stages.Commits pair group other)) where
  abbrev g : Geometry
  g = v.locks.geometry

  abbrev unmarked : Unmarked
  unmarked = unmarked_of core.source pair

  abbrev es : List Edit
  es = linked core.file core.index pair.source unmarked (moved_by g pair group other)

  unmarked_is_read : IsUnmarkedRead g (known_of core) unmarked
  unmarked_is_read = unmarked_read g (known_of core) core.source pair at.0.are_pair.from

  pub edits_right : All (IsEdit g) es
  edits_right =
      let from = from_group v core pair group other is at in
      link_range g core.file core.index pair.own pair.source (number_in group.table (Count pair.own))
      (number_in (count_table group other).table (Count pair.source)) unmarked is.geometry at.0.are_pair.own.1.has
      (mark_has g (known_of core) unmarked unmarked_is_read) (count_has v core.host pair.own group is at.2)
      (count_has v core.host pair.source (count_table group other) is from) (count_range v core.host pair.own group is at.2)
      (count_range v core.host pair.source (count_table group other) is from)

  pub may_record : Sure v.locks core.host (λ image. IsRecord g image (key_at v.locks core.host) es)
  may_record =
      sure_of v.locks core.host (Seen v core pair group other is at) (λ image. IsRecord g image (key_at v.locks core.host) es)
      (λ image seen. right_record v core pair group other is at image seen) (seen_sure v core pair group other is at)

  module _ (own : Kept) (own_is : table_in (known_of core) (table_of (Pointer core.file core.index)) ≡ Some own) where
    abbrev mark : Option Kept
    mark = mark_table (known_of core) own.which unmarked

    own_named : own.which ≡ table_of (Pointer core.file core.index)
    own_named = named_in (known_of core) (table_of (Pointer core.file core.index)) own own_is

    with_rest : (rest : List Kept) → AreKept v core.host rest → AreKept v core.host (own ∷ (option_to_list mark ++ rest))
    with_rest rest are = (
      read_kept v core.host core.tables (table_of (Pointer core.file core.index)) own at.0.base.kept own_is,
      both_kept v core.host (option_to_list mark) rest (mark_kept v core.host core.tables own.which unmarked at.0.base.kept) are,
    )

    in_order : (counts : List Edit) (groups : List ℕ) (rest : List Kept) → tables_of counts ≡ map tables.Group groups
        → Names rest ≡ map tables.Group groups
        → Names (own ∷ (option_to_list mark ++ rest)) ≡ tables_of (linked core.file core.index pair.source unmarked counts)
    in_order counts groups rest are rest_are =
        link_order g core.file core.index pair.source (known_of core) own own_named counts groups rest are rest_are unmarked unmarked_is_read

    abbrev n : ℕ
    n = number_in group.table (Count pair.own) - 1

    tables_right : (o : Option Kept) (m : ℕ) → IsOtherGroup v core.host pair o
        → AreKept v core.host (linked_tables own mark pair group o)
        × (Names (linked_tables own mark pair group o)
        ≡ tables_of (linked core.file core.index pair.source unmarked
        (if nat_lt pair.own pair.source then edit (Count pair.own) n ∷ edit (Count pair.source) m ∷ []
        else edit (Count pair.source) m ∷ edit (Count pair.own) n ∷ [])))
        × (length (linked_tables own mark pair group o) ≤ 4)
    tables_right None m same = (
      with_rest (group ∷ []) (at.2.0, tt),
      pick (nat_lt pair.own pair.source),
      (let few = few_marks mark (group ∷ []) in omega (arith, few)),
    )
      where
        pick : (b : Bool) → Names (own ∷ (option_to_list mark ++ group ∷ []))
            ≡ tables_of (linked core.file core.index pair.source unmarked
            (if b then edit (Count pair.own) n ∷ edit (Count pair.source) m ∷ [] else edit (Count pair.source) m ∷ edit (Count pair.own) n ∷ []))
        pick true =
            in_order (edit (Count pair.own) n ∷ edit (Count pair.source) m ∷ []) (pair.own / per_table ∷ []) (group ∷ [])
            (one_group pair.own pair.source n m same) (rw (at.2.1) refl)
        pick false =
            in_order (edit (Count pair.source) m ∷ edit (Count pair.own) n ∷ []) (pair.source / per_table ∷ []) (group ∷ [])
            (one_group pair.source pair.own m n (sym same)) (rw (at.2.1, same) refl)
    tables_right (Some kept) m other = pick (nat_lt pair.own pair.source)
      where
        pick : (b : Bool)
            → AreKept v core.host (if b then own ∷ (option_to_list mark ++ group ∷ kept ∷ []) else own ∷ (option_to_list mark ++ kept ∷ group ∷ []))
            × (Names (if b then own ∷ (option_to_list mark ++ group ∷ kept ∷ []) else own ∷ (option_to_list mark ++ kept ∷ group ∷ []))
            ≡ tables_of (linked core.file core.index pair.source unmarked
            (if b then edit (Count pair.own) n ∷ edit (Count pair.source) m ∷ [] else edit (Count pair.source) m ∷ edit (Count pair.own) n ∷ [])))
            × (length (if b then own ∷ (option_to_list mark ++ group ∷ kept ∷ []) else own ∷ (option_to_list mark ++ kept ∷ group ∷ [])) ≤ 4)
        pick true = (
          with_rest (group ∷ kept ∷ []) (at.2.0, (other.0.0, tt)),
          in_order (edit (Count pair.own) n ∷ edit (Count pair.source) m ∷ []) (pair.own / per_table ∷ pair.source / per_table ∷ [])
              (group ∷ kept ∷ []) (two_groups pair.own pair.source n m other.1) (rw (at.2.1, other.0.1) refl),
          (let few = few_marks mark (group ∷ kept ∷ []) in omega (arith, few)),
        )
        pick false = (
          with_rest (kept ∷ group ∷ []) (other.0.0, (at.2.0, tt)),
          in_order (edit (Count pair.source) m ∷ edit (Count pair.own) n ∷ []) (pair.source / per_table ∷ pair.own / per_table ∷ [])
              (kept ∷ group ∷ []) (two_groups pair.source pair.own m n (λ same. other.1 (sym same))) (rw (at.2.1, other.0.1) refl),
          (let few = few_marks mark (kept ∷ group ∷ []) in omega (arith, few)),
        )

  -- the tables that are left to write
  pub link_tables : (left : List Kept) → AreLinkTables core pair group other left
      → AreKept v core.host left × (Names left ≡ tables_of es) × (length left ≤ 4)
  link_tables left are =
      subst (λ (ks : List Kept). AreKept v core.host ks × (Names ks ≡ tables_of es) × (length ks ≤ 4)) (sym are.2)
      (tables_right are.0 are.1 other (room_in g (number_in (count_table group other).table (Count pair.source)) + 1) at.3)

  -- the record was written
  pub link_committed : (w : WorldView) (key : ℕ) (entry : JournalRecord) (left : List Kept) (a : Applying)
      → entry ≡ record { key = key; edits = es }
      → AreLinkTables core pair group other left → Committed core.host v w entry left → CommittedSo core.host v w entry
      → a.entry ≡ entry → a.left ≡ left
      → Went v w core core (stages.Commits pair group other) (More (stages.Closes (Applies a) answers.Linked))
  link_committed w key entry left a entry_is are did so a_entry a_left =
      let h = core.host in
      let edits_is : entry.edits ≡ es = ap (λ (r : JournalRecord). r.edits) entry_is in
      let keeps = keeps_memory h v w did.wrote.geometry did.wrote.memory in
      let Done = λ (old new : Image). KeepsFiles old new × IsCause g core (stages.Commits pair group other) answers.Linked old new in
      let done : BothTold (told_of v.locks) (told_of w.locks) Done =
      both_with (told_of v.locks) (told_of w.locks) (Seen v core pair group other is at)
      (Writing g (kinds.Journal h) (journal_bytes entry.key entry.edits) entry.edits None) Done
      (seen_sure v core pair group other is at did.wrote.registered) did.wrote.images
      (λ old new seen step.
      let changes = subst (λ (fs : List Edit). Changes g fs None old new) edits_is step.changes in (
        files_stay v core pair group other is at old seen new changes,
        (seen.are.have, link_made v core pair group other is at old seen new changes, changes.blocks),
      )) in
      let files : FilesStay v w = both_of (told_of v.locks) (told_of w.locks) Done KeepsFiles done (λ old new both. both.0) in
      let few = (link_tables left are).2 in
      let long : length a.left ≡ length left = ap length a_left in
      let taken = at.0.locked.few in
      record {
        same = same_share core core.taken;
        keeps = keeps;
        stands = (
          places_kept v w h core.file core.source keeps at.0.base.places,
          (
            taking_same v w h core.taken did.wrote.geometry did.wrote.memory at.0.base.taking,
            subst (λ (r : JournalRecord). IsApplying w h r.edits a.left) (sym a_entry)
                (subst (IsApplying w h entry.edits) (sym a_left) did.stands),
          ),
        );
        answers_are = (
          both_of (told_of v.locks) (told_of w.locks) Done (IsCause g core (stages.Commits pair group other) answers.Linked) done
              (λ old new both. both.1),
          tt,
        );
        less = omega (arith, few, long, taken);
        event = writing_of v h (kinds.Journal h) (journal_bytes entry.key entry.edits);
        spares = spares_place g (kinds.Journal h) at.0.base.places.is_host.host refl;
        quiet = λ command may. so files command outcomes.Open;
      }
