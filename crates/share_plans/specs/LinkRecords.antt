-- The record of a link, by what its share has read: its counts and its tables.
use Rattle.std.specs.Prelude.{◌≡◌, ◌≢◌, ◌≤◌, ◌+◌, ◌-◌, ◌++◌, ◌∷◌, ℕ, List, [], None, Option, Some, if◌then◌else◌, length, nat_le, nat_lt, option_map}
use Rattle.std.specs.Option.{option_to_list}
use Rattle.vol_base.specs.Packing.{Packing}
use Rattle.vol_layout.specs.declared.field.Edit.{Edit}
use Rattle.vol_layout.specs.declared.field.Field.TheVariants.{Count, Pointer}
use Rattle.vol_layout.specs.declared.geometry.Geometry.{Geometry}
use Rattle.vol_layout.specs.declared.kind.Table.{Table}
use Rattle.vol_layout.specs.Fields.{HasField, greatest_count, table_of}
use Rattle.vol_layout.specs.Ranges.{per_table}
use Rattle.table_blocks.specs.Tables.{number_in}
use Rattle.call_effects.specs.Counts.{counts_moved}
use Rattle.call_effects.specs.Links.{Unmarked}
use Rattle.plan_parts.specs.TableOrder.{same_table}
use Rattle.plan_parts.specs.declared.kept.Kept.{Kept}
use Rattle.share_plans.specs.ReadTables.{Known, kept_in}
use Rattle.share_plans.specs.declared.sharing.Place.{Place}
use Rattle.share_plans.specs.declared.sharing.Place.TheVariants.{Arena, File}
use Rattle.share_plans.specs.declared.stage.Core.{Core}
use Rattle.share_plans.specs.declared.stage.Pair.{Pair}

-- the source's pointer, where it has no mark yet
abbrev pub unmarked_of : Place → Pair → Unmarked
unmarked_of (File f i) pair = if pair.shared then None else Some (f, i)
unmarked_of (Arena s) pair = None

-- it is another one than the place's
abbrev pub HasUnmarkedApart : Core → Pair → Type 0
HasUnmarkedApart core pair = (f i : ℕ) → unmarked_of core.source pair ≡ Some (f, i) → Pointer core.file core.index ≢ Pointer f i

-- the table of the source's count, which is that of the place's, or another one
abbrev pub count_table : Kept → Option Kept → Kept
count_table group None = group
count_table group (Some other) = other

-- a count that leaves room for one more; the greatest one is taken as one less, over a device that tells nothing
abbrev pub room_in : Geometry → ℕ → ℕ
room_in g m = if nat_le (m + 1) (greatest_count g) then m else m - 1

-- a count in range
pub record MayRaise (g : Geometry) (table : Packing) (d : ℕ) : Type 0 where
  pub long : length table.entries ≡ per_table
  pub range : number_in table (Count d) ≤ greatest_count g

-- the counts, by the tables of the groups
abbrev pub moved_by : Geometry → Pair → Kept → Option Kept → List Edit
moved_by g pair group other =
    counts_moved pair.own pair.source (number_in group.table (Count pair.own))
    (room_in g (number_in (count_table group other).table (Count pair.source)))

-- a table that was read, with its name
abbrev pub table_in : Known → Table → Option Kept
table_in known t = option_map (λ (p : Packing). let k : Kept = record { which = t; table = p } in k) (known t)

-- the table of a pointer without the mark, where it is another one
abbrev pub mark_table : Known → Table → Unmarked → Option Kept
mark_table known own None = None
mark_table known own (Some at) =
    if same_table (table_of (Pointer at.0 at.1)) own then None else table_in known (table_of (Pointer at.0 at.1))

-- the table of a pointer was read
pub record IsPointerRead (g : Geometry) (known : Known) (f i : ℕ) : Type 0 where
  pub has : HasField g (Pointer f i)
  pub read : known (table_of (Pointer f i)) ≢ None

abbrev pub IsUnmarkedRead : Geometry → Known → Unmarked → Type 0
IsUnmarkedRead g known None = Unit {0}
IsUnmarkedRead g known (Some at) = IsPointerRead g known at.0 at.1

-- the tables of a link: those of pointers, and then the groups in the order of their counts
abbrev pub linked_tables : Kept → Option Kept → Pair → Kept → Option Kept → List Kept
linked_tables own mark pair group None = own ∷ (option_to_list mark ++ group ∷ [])
linked_tables own mark pair group (Some other) =
    if nat_lt pair.own pair.source then own ∷ (option_to_list mark ++ group ∷ other ∷ []) else own ∷ (option_to_list mark ++ other ∷ group ∷ [])

abbrev pub AreLinkTables : Core → Pair → Kept → Option Kept → List Kept → Type 0
AreLinkTables core pair group other left =
    (own : Kept) × (table_in (kept_in core.tables) (table_of (Pointer core.file core.index)) ≡ Some own)
    × (left ≡ linked_tables own (mark_table (kept_in core.tables) own.which (unmarked_of core.source pair)) pair group other)
