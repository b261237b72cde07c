-- The commit of a collection: its record is right, no file changes, and what it emptied.
use Rattle.std.proofs.Common.{◌≡◌, ◌≢◌, ◌≤◌, ◌<◌, ◌+◌, ◌*◌, ◌/◌, ◌%◌, ◌∷◌, ℕ, true, false, List}
use Rattle.std.proofs.Common.{[], None, refl, ap, sym, ◌∙◌, arith, length}
use Rattle.std.specs.Prelude.{All}
use Rattle.std.proofs.lemmas.List.{length-append, length-map}
use Rattle.std.proofs.lemmas.List.Elements.{All-cons, All-head, All-tail}
use Rattle.vol_layout.specs.declared.field.Edit.{Edit}
use Rattle.vol_layout.specs.declared.field.Field.{Field}
use Rattle.vol_layout.specs.declared.field.Field.TheVariants.{Count, Slot}
use Rattle.vol_layout.specs.declared.geometry.Geometry.{Geometry}
use Rattle.vol_layout.specs.declared.kind.Table.{Table}
use Rattle.vol_layout.specs.declared.kind.Table.TheVariants as tables
use Rattle.vol_layout.specs.Edits.{AreApart, AreEdits, IsEdit, touches}
use Rattle.vol_layout.specs.Fields.{HasField, resource_of, table_of}
use Rattle.vol_layout.specs.Ranges.{arena_slots, per_table}
use Rattle.vol_layout.specs.laws.EditLaws.{same_field-refl}
use Rattle.image_view.specs.Balances.{edit}
use Rattle.image_view.specs.Images.{Image}
use Rattle.image_view.specs.Numbers.{field, logical}
use Rattle.image_view.specs.Records.{IsRecord}
use Rattle.image_view.specs.laws.BalanceLaws.{AreCounts, emptied_slots, freed_counts, slots-no-count}
use Rattle.image_view.specs.laws.FrameLaws.{HasResource-resource_of}
use Rattle.call_effects.specs.Changes.{Changes}
use Rattle.call_effects.specs.Collections.{IsCollectable, IsSpent, collected, freed}
use Rattle.call_effects.specs.Places.{KeepsFiles}
use Rattle.call_effects.specs.laws.CollectLaws.{record-collect, stays-collect}
use Rattle.call_effects.specs.laws.CountLaws.{apart-append}
use Rattle.call_effects.specs.laws.EachEdit.{all-append, all-none, all-weaker}
use Rattle.table_blocks.specs.Tables.{number_in}
use Rattle.table_blocks.specs.laws.NumberLaws.{field-number_in}
use Rattle.lock_store.specs.Memories.{holds}
use Rattle.lock_store.specs.Views.{counter_of, host_at, key_at}
use Rattle.disk_locks.specs.Consistent.{Consistent}
use Rattle.disk_locks.specs.Keys.{owner}
use Rattle.disk_locks.specs.Sure.{Sure}
use Rattle.host_facts.specs.Facts.{Tells}
use Rattle.host_facts.specs.Facts.Fact.{RecordIs, TableIs}
use Rattle.host_facts.specs.Finds.{Finds}
use Rattle.host_facts.specs.Knows.{Knows}
use Rattle.host_facts.specs.Views.{WorldView}
use Rattle.host_facts.specs.laws.DoneLaws.{number_known}
use Rattle.host_facts.specs.laws.FindsLaws.{sure_found}
use Rattle.host_facts.specs.laws.FoundLaws.{held_found}
use Rattle.host_facts.specs.laws.ToldLaws.{sure_and, sure_each, sure_of}
use Rattle.plan_parts.specs.KeptTables.{IsKept}
use Rattle.plan_parts.specs.TableOrder.{tables_of}
use Rattle.plan_parts.specs.declared.kept.Kept.{Kept}
use Rattle.share_plans.specs.GatheringSteps.{HasNoLoneSlot, IsCollection, IsLoneSlot}
use Rattle.share_plans.specs.Gatherings.{IsFree, IsGroupTable, IsPartTable}
use Rattle.share_plans.specs.Spents.{NoneSpent, current, entry_at, frees, freed_in, gathered}
use Rattle.share_plans.specs.declared.collection.Collection.{Collection}
use Rattle.share_plans.specs.laws.GatheringTables.{collected_tables}
use Rattle.share_plans.specs.laws.PickedLaws.{freed_all, picked_apart, picked_few}
use Rattle.share_plans.specs.laws.SpentLaws.{IsSpentAt, gathered_apart, gathered_few, gathered_spent, of_touched, same_counts, spent_by}

-- the table says the number of each of its fields
abbrev pub Says : Geometry → Kept → Image → Type 0
Says g kept image =
    (x : Field) → HasField g x → table_of x ≡ kept.which
    → (logical g image x ≡ number_in kept.table x) × (field g image x ≡ number_in kept.table x)

module _ (v : WorldView) (h : ℕ) (is : Consistent v.locks) (empty : Knows v h (RecordIs [])) (kept : Kept) (has : IsKept v h kept) where
  stands_in_table : (x : Field) → table_of x ≡ kept.which → Sure v.locks h (λ image. field v.locks.geometry image x ≡ number_in kept.table x)
  stands_in_table x at =
      sure_of v.locks h (λ image. Tells v.locks h image (TableIs kept.which kept.table))
      (λ image. field v.locks.geometry image x ≡ number_in kept.table x)
      (λ image spelled. field-number_in v.locks.geometry image kept.which kept.table x (record { packing = has.packing; spelled = spelled }) at)
      has.known.sure

  pub table_says : Sure v.locks h (Says v.locks.geometry kept)
  table_says =
      sure_each v.locks h Field
      (λ x image. HasField v.locks.geometry x → table_of x ≡ kept.which
      → (logical v.locks.geometry image x ≡ number_in kept.table x) × (field v.locks.geometry image x ≡ number_in kept.table x)) (λ x.
      sure_each v.locks h (HasField v.locks.geometry x)
      (λ there image. table_of x ≡ kept.which
      → (logical v.locks.geometry image x ≡ number_in kept.table x) × (field v.locks.geometry image x ≡ number_in kept.table x)) (λ there.
      sure_each v.locks h (table_of x ≡ kept.which)
      (λ at image. (logical v.locks.geometry image x ≡ number_in kept.table x) × (field v.locks.geometry image x ≡ number_in kept.table x)) (λ at.
      sure_and v.locks h (λ image. logical v.locks.geometry image x ≡ number_in kept.table x)
      (λ image. field v.locks.geometry image x ≡ number_in kept.table x)
      (number_known v h kept.which kept.table x is has.known has.packing empty there at) (stands_in_table x at))))

-- places in tables
pub slot_place : (p e s : ℕ) → e < per_table → s ≡ per_table * p + e → (s / per_table ≡ p) × (s % per_table ≡ e)
unfolding per_table
slot_place p e s inside is = (omega (arith, inside, is), omega (arith, inside, is))

slot_below : (g : Geometry) (p s : ℕ) → p < g.parts → s / per_table ≡ p → s < arena_slots g
unfolding per_table arena_slots
slot_below g p s has is = omega (arith, has, is)

entry_inside : (s : ℕ) → s % per_table < per_table
unfolding per_table
entry_inside s = omega arith

module _ (v : WorldView) (core : Collection) (part group : Kept) (is : Consistent v.locks) (free : IsFree v core)
    (part_is : IsPartTable v core part) (group_is : IsGroupTable v core group) where
  abbrev g : Geometry
  g = v.locks.geometry

  abbrev key : ℕ
  key = key_at v.locks core.host

  abbrev p : ℕ
  p = core.part

  abbrev r : ℕ
  r = current core.groups

  abbrev slots : List (ℕ × ℕ)
  slots = gathered p part.table r group.table per_table

  abbrev numbers : List ℕ
  numbers = freed_in part.table r (emptied_slots slots)

  abbrev es : List Edit
  es = collected slots numbers

  abbrev IsOne : ℕ × ℕ → Type 0
  IsOne = IsSpentAt p part.table r group.table

  spent : All IsOne slots
  spent = gathered_spent p part.table r group.table per_table (omega arith)

  -- a slot that is spent by the tables
  module _ (slot : ℕ × ℕ) (one : IsOne slot) where
    place : (slot.0 / per_table ≡ p) × (slot.0 % per_table ≡ one.entry)
    place = slot_place p one.entry slot.0 one.inside one.at

    pub slot_number : number_in part.table (Slot slot.0) ≡ slot.1 + 1
    slot_number = ap (entry_at part.table) place.1 ∙ one.number

    slot_has : HasField g (Slot slot.0)
    slot_has = slot_below g p slot.0 free.on.part place.0

    slot_table : table_of (Slot slot.0) ≡ part.which
    slot_table = ap tables.Part place.0 ∙ sym part_is.which

    block_has : HasField g (Count slot.1)
    block_has = let range = part_is.kept.packing.range (Slot slot.0) slot_has slot_table in let number = slot_number in omega (arith, range, number)

    block_table : table_of (Count slot.1) ≡ group.which
    block_table = ap tables.Group one.in_group ∙ sym group_is.which

  numbers_are : All (λ (s : ℕ × ℕ). number_in part.table (Slot s.0) ≡ s.1 + 1) slots
  numbers_are = all-weaker IsOne (λ (s : ℕ × ℕ). number_in part.table (Slot s.0) ≡ s.1 + 1) slots slot_number spent

  groups_are : All (λ (s : ℕ × ℕ). s.1 / per_table ≡ r) slots
  groups_are = all-weaker IsOne (λ (s : ℕ × ℕ). s.1 / per_table ≡ r) slots (λ s one. one.in_group) spent

  same : (d : ℕ) → touches (freed numbers) (Count d) ≡ touches (freed_counts slots) (Count d)
  same d = same_counts part.table r slots d numbers_are groups_are

  few : length slots ≤ 4
  few = gathered_few p part.table r group.table per_table

  few_too : length numbers ≤ 4
  few_too =
      let all = picked_few part.table (emptied_slots slots) (per_table * r) per_table in
      let long = length-map slots (λ (s : ℕ × ℕ). edit (Slot s.0) 0) in
      let some = few in
      omega (arith, all, long, some)

  numbers_apart : AreApart (freed numbers)
  numbers_apart = picked_apart (frees part.table (emptied_slots slots)) (per_table * r) per_table

  counts : (ns : List ℕ) → AreCounts (freed ns)
  counts [] = tt
  counts (n ∷ ns) = (tt, counts ns)

  -- each edit is in range
  slot_edits : (ss : List (ℕ × ℕ)) → All IsOne ss → All (IsEdit g) (emptied_slots ss)
  slot_edits [] all = all-none (IsEdit g)
  slot_edits (s ∷ ss) all =
      All-cons (IsEdit g) (edit (Slot s.0) 0) (emptied_slots ss) (slot_has s (All-head IsOne s ss all), omega arith)
      (slot_edits ss (All-tail IsOne s ss all))

  blocks_are : All (λ (s : ℕ × ℕ). HasField g (Count s.1)) slots
  blocks_are = all-weaker IsOne (λ (s : ℕ × ℕ). HasField g (Count s.1)) slots block_has spent

  pub edits_right : All (IsEdit g) es
  edits_right =
      all-append (IsEdit g) (emptied_slots slots) (freed numbers) (slot_edits slots spent)
      (freed_all (IsEdit g) numbers (λ d touched.
      (of_touched (λ (n : ℕ). HasField g (Count n)) d slots blocks_are (sym (same d) ∙ touched), omega arith)))

  pub are_edits : AreEdits g es
  are_edits =
      let long = length-append (emptied_slots slots) (freed numbers) in
      let slots_long = length-map slots (λ (s : ℕ × ℕ). edit (Slot s.0) 0) in
      let numbers_long = length-map numbers (λ (d : ℕ). edit (Count d) 0) in
      let a = few in
      let b = few_too in record {
        few = omega (arith, long, slots_long, numbers_long, a, b);
        each = edits_right;
        apart = apart-append (emptied_slots slots) (freed numbers) (gathered_apart p part.table r group.table per_table) (slots-no-count slots)
            (counts numbers) numbers_apart;
      }

  -- its tables
  parts_are : All (λ (s : ℕ × ℕ). s.0 / per_table ≡ p) slots
  parts_are = all-weaker IsOne (λ (s : ℕ × ℕ). s.0 / per_table ≡ p) slots (λ s one. let at = place s one in at.0) spent

  first_freed : (ss : List (ℕ × ℕ)) → ss ≢ [] → (d : ℕ) × (touches (freed_counts ss) (Count d) ≡ true)
  first_freed [] some = absurd (some refl)
  first_freed (s ∷ ss) some = (s.1, let own = same_field-refl (Count s.1) in rw own refl)

  pub order_right : slots ≢ [] → tables_of es ≡ tables.Part p ∷ tables.Group r ∷ []
  order_right some =
      collected_tables p r slots numbers some
      (λ none.
      let one = first_freed slots some in
      let both : false ≡ true = ap (λ (ns : List ℕ). touches (freed ns) (Count one.0)) (sym none) ∙ same one.0 ∙ one.1 in cc)
      parts_are (λ d touched. of_touched (λ (n : ℕ). n / per_table ≡ r) d slots groups_are (sym (same d) ∙ touched))

  -- what the host is sure of before its commit
  pub record Seen (image : Image) : Type 0 where
    pub found : Finds v.locks core.host image
    pub part_says : Says g part image
    pub group_says : Says g group image

  pub seen_sure : Sure v.locks core.host Seen
  seen_sure =
      sure_found v.locks core.host (λ image. Says g part image × Says g group image) Seen is
      (λ image found both. record { found = found; part_says = both.0; group_says = both.1 })
      (sure_and v.locks core.host (Says g part) (Says g group) (table_says v core.host is free.empty part part_is.kept)
      (table_says v core.host is free.empty group group_is.kept))

  module _ (image : Image) (seen : Seen image) where
    part_held : (s : ℕ) → table_of (Slot s) ≡ part.which → holds (host_at v.locks core.host) (resource_of (Slot s)) ≡ true
    part_held s at = ap (λ (t : Table). holds (host_at v.locks core.host) (owner t)) at ∙ part_is.kept.held

    group_held : (d : ℕ) → table_of (Count d) ≡ group.which → holds (host_at v.locks core.host) (resource_of (Count d)) ≡ true
    group_held d at = ap (λ (t : Table). holds (host_at v.locks core.host) (owner t)) at ∙ group_is.kept.held

    once_is : (s : ℕ × ℕ) → IsOne s → logical g image (Count s.1) ≡ 1
    once_is s one = (seen.group_says (Count s.1) (block_has s one) (block_table s one)).0 ∙ one.once

    is_spent_here : (s : ℕ × ℕ) → IsOne s → IsSpent g image key s
    is_spent_here s one =
        let says = seen.part_says (Slot s.0) (slot_has s one) (slot_table s one) in record {
          held = (
            slot_has s one,
            held_found v.locks core.host image (resource_of (Slot s.0)) seen.found (HasResource-resource_of g (Slot s.0) (slot_has s one))
                (part_held s.0 (slot_table s one)),
          );
          names = says.0 ∙ slot_number s one;
          table = says.1 ∙ slot_number s one;
          count = (
            block_has s one,
            held_found v.locks core.host image (resource_of (Count s.1)) seen.found (HasResource-resource_of g (Count s.1) (block_has s one))
                (group_held s.1 (block_table s one)),
          );
          once = once_is s one;
        }

    collectable : IsCollectable g image key slots numbers
    collectable = record {
      few = few;
      as_many = few_too;
      spent = all-weaker IsOne (IsSpent g image key) slots is_spent_here spent;
      slots_apart = gathered_apart p part.table r group.table per_table;
      numbers_apart = numbers_apart;
      same = same;
    }

    right_record : IsRecord g image key es
    right_record = record-collect g (counter_of v.locks) image key slots numbers seen.found.agrees.valid collectable

    lone_is : (s : ℕ × ℕ) → IsOne s → IsLoneSlot g image p r s
    lone_is s one = record {
      has = slot_has s one;
      part = (place s one).0;
      names = (is_spent_here s one).names;
      group = one.in_group;
      once = once_is s one;
    }

    pub files_stay : (new : Image) → Changes g es None image new → KeepsFiles image new
    files_stay new step = stays-collect g (counter_of v.locks) image new key slots numbers seen.found.agrees.valid collectable step

    pub collection_made : (new : Image) → Changes g es None image new → IsCollection g core (length slots) image new
    collection_made new step = record {
      slots = slots;
      numbers = numbers;
      many = refl;
      apart = gathered_apart p part.table r group.table per_table;
      lone = all-weaker IsOne (IsLoneSlot g image p r) slots lone_is spent;
      same = same;
      edits = step.numbers;
    }

    -- where no slot is spent by the tables, none is
    pub no_lone : NoneSpent part.table r group.table → HasNoLoneSlot g image p r
    no_lone none s lone =
        let at : table_of (Slot s.0) ≡ part.which = ap tables.Part lone.part ∙ sym part_is.which in
        let names : entry_at part.table (s.0 % per_table) ≡ s.1 + 1 = sym (seen.part_says (Slot s.0) lone.has at).0 ∙ lone.names in
        let range = part_is.kept.packing.range (Slot s.0) lone.has at in
        let block : HasField g (Count s.1) = omega (arith, range, names) in
        let there : table_of (Count s.1) ≡ group.which = ap tables.Group lone.group ∙ sym group_is.which in
        let once : entry_at group.table (s.1 % per_table) ≡ 1 = sym (seen.group_says (Count s.1) block there).0 ∙ lone.once in
        let hit = spent_by (entry_at part.table (s.0 % per_table)) r s.1 group.table names lone.group once in
        let both : true ≡ false = sym hit ∙ none (s.0 % per_table) (entry_inside s.0) in cc

  pub may_record : Sure v.locks core.host (λ image. IsRecord g image key es)
  may_record = sure_of v.locks core.host Seen (λ image. IsRecord g image key es) right_record seen_sure

  pub none_lone : NoneSpent part.table r group.table → Sure v.locks core.host (λ image. HasNoLoneSlot g image p r)
  none_lone none = sure_of v.locks core.host Seen (λ image. HasNoLoneSlot g image p r) (λ image seen. no_lone image seen none) seen_sure
