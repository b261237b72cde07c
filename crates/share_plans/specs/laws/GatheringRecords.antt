-- The record of a collection: its commit, and its way into the two tables.
use Rattle.std.proofs.Common.{◌≡◌, ◌≢◌, ◌<◌, ◌≤◌, ◌+◌, ◌-◌, ◌*◌, ◌%◌, ◌^◌, ◌∷◌, ℕ, List, [], None, Option, Some, refl, ap, sym, subst, ◌∙◌, arith, inl, inr, length}
use Rattle.std.specs.Prelude.{All, if◌then◌else◌, map}
use Rattle.std.proofs.lemmas.Bool.{cases_Bool}
use Rattle.vol_base.specs.Packing.{Packing}
use Rattle.vol_base.specs.declared.command.Command.TheVariants.{Collect}
use Rattle.vol_layout.specs.declared.field.Edit.{Edit}
use Rattle.vol_layout.specs.declared.field.Field.TheVariants.{Slot}
use Rattle.vol_layout.specs.declared.geometry.Geometry.{Geometry}
use Rattle.vol_layout.specs.declared.kind.Kind.TheVariants as kinds
use Rattle.vol_layout.specs.declared.kind.Table.{Table}
use Rattle.vol_layout.specs.declared.kind.Table.TheVariants as tables
use Rattle.vol_layout.specs.Edits.{IsEdit, edited, touches}
use Rattle.vol_layout.specs.Fields.{table_of}
use Rattle.vol_layout.specs.Journal.{journal_bytes}
use Rattle.vol_layout.specs.Ranges.{HasTable, per_table}
use Rattle.image_view.specs.Images.{Image}
use Rattle.image_view.specs.Records.{IsRecord}
use Rattle.image_view.specs.laws.BalanceLaws.{emptied_slots}
use Rattle.call_effects.specs.Changes.{Changes}
use Rattle.call_effects.specs.Collections.{collected}
use Rattle.call_effects.specs.Places.{KeepsFiles}
use Rattle.table_blocks.specs.Made.{made}
use Rattle.table_blocks.specs.Tables.{IsPackingOf, number_in}
use Rattle.table_blocks.specs.laws.MadeLaws.{made-number}
use Rattle.journal_block.specs.JournalRecord.{JournalRecord}
use Rattle.lock_store.specs.declared.host.HostState.{HostState}
use Rattle.lock_store.specs.Memories.{holds, key_of}
use Rattle.lock_store.specs.Views.{host_at, key_at, told_of}
use Rattle.disk_locks.specs.Consistent.{Consistent}
use Rattle.disk_locks.specs.Keys.{owner}
use Rattle.disk_locks.specs.Sure.{BothTold, Sure}
use Rattle.host_facts.specs.Facts.Fact.{TableIs}
use Rattle.host_facts.specs.Knows.{Knows}
use Rattle.host_facts.specs.Views.{WorldView}
use Rattle.host_facts.specs.Wrote.{FilesStay, Writing}
use Rattle.host_facts.specs.laws.ToldLaws.{both_of, both_with}
use Rattle.host_runs.specs.lemmas.OrderlyPlaced.{some_same}
use Rattle.plan_parts.specs.Applies.{IsApplying, RecordEnded, TableWritten}
use Rattle.plan_parts.specs.Commits.{Committed}
use Rattle.plan_parts.specs.KeptTables.{AreKept, IsKept}
use Rattle.plan_parts.specs.MadeCalls.{AppliedSo, CommittedSo, step_of, writing_of}
use Rattle.plan_parts.specs.TableOrder.{tables_of}
use Rattle.plan_parts.specs.declared.applying.Applied.TheVariants.{Finished, Wrote}
use Rattle.plan_parts.specs.declared.applying.Applying.{Applying}
use Rattle.plan_parts.specs.declared.kept.Kept.{Kept}
use Rattle.plan_parts.specs.declared.outcome.Outcome.TheVariants as outcomes
use Rattle.plan_parts.specs.laws.ApplyingLaws.{one_table_less}
use Rattle.plan_parts.specs.laws.TakenLaws.{taking_same}
use Rattle.share_plans.specs.GatheringSteps.{IsCollection, IsOfFile, Went}
use Rattle.share_plans.specs.Gatherings.{At, AreWritten, HasRoom, IsOn, behind_group, edited_table, slot_steps}
use Rattle.share_plans.specs.Spents.{current, emptying_by, emptying_of, entry_at, freed_in, gathered, used}
use Rattle.share_plans.specs.declared.collection.Collection.{Collection}
use Rattle.share_plans.specs.declared.collection.Emptying.{Emptying}
use Rattle.share_plans.specs.declared.collection.Gathered.TheVariants.{More}
use Rattle.share_plans.specs.declared.collection.Gathering.TheVariants as stages
use Rattle.share_plans.specs.laws.ClosingLaws.{keeps_memory, wrote_nothing}
use Rattle.share_plans.specs.laws.GatheringCommits.{Seen, are_edits, collection_made, edits_right, files_stay, may_record, order_right, seen_sure, slot_place}
use Rattle.share_plans.specs.laws.GatheringNotes.{commit_empties, finish_empties, read_still, table_empties, with_all}
use Rattle.share_plans.specs.laws.GatheringStages.{key_some, some_long, went_visit}
use Rattle.share_plans.specs.laws.GatheringSteps.{tables_wrote, went_more}
use Rattle.share_plans.specs.laws.SpentLaws.{slot_edited, used_behind}

-- what the record is made of
emptying_is : (key : ℕ) (part : Packing) (r : ℕ) (slots : List (ℕ × ℕ)) (e : Emptying) → emptying_by key part r slots ≡ Some e
    → (1 ≤ length slots) × (e.entry ≡ record { key = key; edits = collected slots (freed_in part r (emptied_slots slots)) }) × (e.slots ≡ length slots)
emptying_is key part r [] e is = absurd cc
emptying_is key part r (s ∷ slots) e is =
    let same = some_same (record {
      entry = record { key = key; edits = collected (s ∷ slots) (freed_in part r (emptied_slots (s ∷ slots))) };
      slots = length (s ∷ slots);
    }) e is in
    (omega arith, ap (λ (x : Emptying). x.entry) (sym same), ap (λ (x : Emptying). x.slots) (sym same))

-- where the host's memory is as before
pub on_memory : (v w : WorldView) (core : Collection) (count : ℕ) → w.locks.geometry ≡ v.locks.geometry
    → host_at w.locks core.host ≡ host_at v.locks core.host → IsOn v core → IsOn w (with_all core core.taken core.groups count)
on_memory v w core count geometry memory is = record {
  host = subst (λ (g : Geometry). core.host < g.hosts) (sym geometry) is.host;
  part = subst (λ (g : Geometry). core.part < g.parts) (sym geometry) is.part;
  groups = subst (λ (g : Geometry). All (λ r. r < g.groups) core.groups) (sym geometry) is.groups;
  joined = ap (λ (m : HostState). m.joined) memory ∙ is.joined;
  taking = taking_same v w core.host core.taken geometry memory is.taking;
}

-- a slot's number in the table with the record made
entry_place : (p e : ℕ) → e < per_table → ((per_table * p + e) % per_table ≡ e) × (table_of (Slot (per_table * p + e)) ≡ tables.Part p)
entry_place p e inside =
    let place = slot_place p e (per_table * p + e) inside refl in (place.1, ap tables.Part place.0)

-- a part's slots are few
few_slots : (n : ℕ) → n ≤ per_table → n < 2 ^ 32
unfolding per_table
few_slots n most = omega (arith, most)

module _ (v : WorldView) (core : Collection) (e : Emptying) (part group : Kept) (c : Consistent v.locks)
    (at : At v core (stages.Commits e part group)) where
  abbrev g : Geometry
  g = v.locks.geometry

  abbrev r : ℕ
  r = current core.groups

  abbrev slots : List (ℕ × ℕ)
  slots = gathered core.part part.table r group.table per_table

  abbrev numbers : List ℕ
  numbers = freed_in part.table r (emptied_slots slots)

  abbrev es : List Edit
  es = collected slots numbers

  is : (1 ≤ length slots) × (e.entry ≡ record { key = key_at v.locks core.host; edits = es }) × (e.slots ≡ length slots)
  is = emptying_is (key_at v.locks core.host) part.table r slots e at.4

  edits_is : e.entry.edits ≡ es
  edits_is = let entry = is in ap (λ (x : JournalRecord). x.edits) entry.1

  pub key_right : e.entry.key ≡ key_at v.locks core.host
  key_right = let entry = is in ap (λ (x : JournalRecord). x.key) entry.1

  pub edits_in_range : All (IsEdit g) e.entry.edits
  edits_in_range = subst (λ (ds : List Edit). All (IsEdit g) ds) (sym edits_is) (edits_right v core part group c at.0 at.2 at.3)

  pub record_right : Sure v.locks core.host (λ image. IsRecord g image e.entry.key e.entry.edits)
  record_right =
      let entry = is in
      subst (λ (x : JournalRecord). Sure v.locks core.host (λ image. IsRecord g image x.key x.edits)) (sym entry.1)
      (may_record v core part group c at.0 at.2 at.3)

  pub two_kept : AreKept v core.host (part ∷ group ∷ [])
  two_kept = (at.2.kept, (at.3.kept, tt))

  pub two_order : (left : List Kept) → left ≡ part ∷ group ∷ [] → map (λ (k : Kept). k.which) left ≡ tables_of e.entry.edits
  two_order left left_is =
      let entry = is in
      ap (λ (ks : List Kept). map (λ (k : Kept). k.which) ks) left_is
      ∙ ap (λ (t : Table). t ∷ group.which ∷ []) at.2.which ∙ ap (λ (t : Table). tables.Part core.part ∷ t ∷ []) at.3.which
      ∙ sym (order_right v core part group c at.0 at.2 at.3 (λ none. let long : length slots ≡ 0 = ap length none in omega (arith, long, entry.0)))
      ∙ ap tables_of (sym edits_is)

  -- the table with the record made has so many numbers less
  abbrev later : Packing
  later = made part.which e.entry.edits part.table

  entry_later : (k : ℕ) → k < per_table
      → entry_at later k ≡ (if touches (emptied_slots slots) (Slot (per_table * core.part + k)) then 0 else entry_at part.table k)
  entry_later k inside =
      let s = per_table * core.part + k in
      let place = entry_place core.part k inside in
      let number =
      made-number g part.which e.entry.edits part.table (Slot s) c.geometry edits_in_range at.2.kept.packing (place.1 ∙ sym at.2.which) in
      ap (entry_at later) (sym place.0) ∙ number
      ∙ ap (λ (ds : List Edit). edited ds (Slot s) (number_in part.table (Slot s))) edits_is
      ∙ slot_edited slots numbers s (number_in part.table (Slot s))
      ∙ ap (λ (n : ℕ). if touches (emptied_slots slots) (Slot s) then 0 else entry_at part.table n) place.0

  less_used : used later per_table + length slots ≤ used part.table per_table
  less_used =
      used_behind core.part part.table r group.table later per_table
      (λ k below some. elim (cases_Bool (touches (emptied_slots slots) (Slot (per_table * core.part + k)))) [
        | inl hit ↦ absurd (some (entry_later k below ∙ rw hit refl))
        | inr miss ↦ λ none. some (entry_later k below ∙ rw miss none)
      ])
      (λ k below touched. entry_later k below ∙ rw touched refl)

  pub count_fits : core.count + e.slots < 2 ^ 32
  count_fits = let many = is in let less = less_used in few_slots (core.count + e.slots) (omega (arith, many.2, less, at.2.room))

  module _ (w : WorldView) (left : List Kept) (a : Applying) (part' group' : Kept) (count : ℕ) (left_is : left ≡ part ∷ group ∷ [])
      (did : Committed core.host v w e.entry left) (so : CommittedSo core.host v w e.entry) (a_entry : a.entry ≡ e.entry)
      (a_left : a.left ≡ left) (part_is : part' ≡ edited_table e.entry.edits part) (group_is : group' ≡ edited_table e.entry.edits group)
      (count_is : count ≡ core.count + e.slots) where
    abbrev Done : Image → Image → Type 0
    Done old new = KeepsFiles old new × IsCollection g core e.slots old new

    done : BothTold (told_of v.locks) (told_of w.locks) Done
    done =
        both_with (told_of v.locks) (told_of w.locks) (Seen v core part group c at.0 at.2 at.3)
        (Writing g (kinds.Journal core.host) (journal_bytes e.entry.key e.entry.edits) e.entry.edits None) Done
        (seen_sure v core part group c at.0 at.2 at.3 did.wrote.registered) did.wrote.images
        (λ old new seen step.
        let changes = subst (λ (ds : List Edit). Changes g ds None old new) edits_is step.changes in
        let many = is in (
          files_stay v core part group c at.0 at.2 at.3 old seen new changes,
          subst (λ (k : ℕ). IsCollection g core k old new) (sym many.2) (collection_made v core part group c at.0 at.2 at.3 old seen new changes),
        ))

    files : FilesStay v w
    files = both_of (told_of v.locks) (told_of w.locks) Done KeepsFiles done (λ old new both. both.0)

    written : AreWritten w (with_all core core.taken core.groups count) a.entry.edits a.left part' group'
    written =
        inl (
          part,
          group,
          a_left ∙ left_is,
          part_is ∙ ap (λ (x : JournalRecord). edited_table x.edits part) (sym a_entry),
          group_is ∙ ap (λ (x : JournalRecord). edited_table x.edits group) (sym a_entry),
        )

    room : HasRoom (with_all core core.taken core.groups count) part'
    room =
        let many = is in
        let less = less_used in
        let table : used part'.table per_table ≡ used later per_table = ap (λ (k : Kept). used k.table per_table) part_is in
        omega (arith, count_is, many.2, less, table, at.2.room)

    steps : slot_steps (with_all core core.taken core.groups count) + 3 * length core.groups + length a.left
        < slot_steps core + 3 * length core.groups - 1
    steps =
        let many = is in
        let less = less_used in
        let two : length a.left ≡ 2 = ap length (a_left ∙ left_is) in
        let some = some_long core.groups at.1.some in
        omega (arith, count_is, many.0, many.2, less, two, some, at.2.room)

    pub committed : Went v w core (with_all core core.taken core.groups count) (stages.Commits e part group) (More (stages.Applies a part' group'))
    committed =
        let many = is in
        went_more v w core core.taken core.groups (key_some v core c at.0.on) (keeps_memory core.host v w did.wrote.geometry did.wrote.memory)
        (tables_wrote core.host v w _ _ _ did.wrote (λ t file same. cc)) (writing_of v core.host (kinds.Journal core.host) (journal_bytes e.entry.key e.entry.edits)) (length slots) count
        (stages.Commits e part group) (stages.Applies a part' group') (
          on_memory v w core count did.wrote.geometry did.wrote.memory at.0.on,
          record { some = at.1.some; locked = at.1.locked },
          subst (λ (x : JournalRecord). IsApplying w core.host x.edits a.left) (sym a_entry)
              (subst (IsApplying w core.host e.entry.edits) (sym a_left) did.stands),
          written,
          ap (λ (k : Kept). k.which) part_is ∙ at.2.which,
          ap (λ (k : Kept). k.which) group_is ∙ at.3.which,
          room,
        )
        (both_of (told_of v.locks) (told_of w.locks) Done (IsCollection g core e.slots) done (λ old new both. both.1), count_is) refl steps
        (so files (Collect core.part) outcomes.Open)
        (commit_empties v core.host e.entry slots numbers c.geometry at.0.on.host (are_edits v core part group c at.0 at.2 at.3) edits_is)
        (count_is ∙ ap (λ (k : ℕ). core.count + k) many.2)
        (λ n read. read_still v w core (with_all core core.taken core.groups count)
        (writing_of v core.host (kinds.Journal core.host) (journal_bytes e.entry.key e.entry.edits)) n did.wrote.geometry refl read)

-- a step of the record
module _ (v w : WorldView) (core : Collection) (a : Applying) (part group : Kept) (c : Consistent v.locks)
    (at : At v core (stages.Applies a part group)) where
  abbrev ds : List Edit
  ds = a.entry.edits

  kept_by : (kept : Kept) → w.locks.geometry ≡ v.locks.geometry → host_at w.locks core.host ≡ host_at v.locks core.host
      → (Knows v core.host (TableIs kept.which kept.table) → Knows w core.host (TableIs kept.which kept.table)) → IsKept v core.host kept
      → IsKept w core.host kept
  kept_by kept geometry memory stays is = record {
    table = subst (λ (x : Geometry). HasTable x kept.which) (sym geometry) is.table;
    held = ap (λ (m : HostState). holds m (owner kept.which)) memory ∙ is.held;
    packing = subst (λ (x : Geometry). IsPackingOf x kept.which kept.table) (sym geometry) is.packing;
    known = stays is.known;
  }

  module _ (kept : Kept) (after : List Kept) (did : TableWritten core.host v w ds a.left after kept) where
    first_of : (old : Kept) (more : List Kept) → a.left ≡ old ∷ more → (edited_table ds old ≡ kept) × (more ≡ after)
    first_of old more is = (
      ap (edited_table ds) (sym (one_first (record { which = kept.which; table = did.before }) old after more (sym did.first ∙ is)))
          ∙ ap (λ (p : Packing). let k : Kept = record { which = kept.which; table = p } in k) (sym did.is_made),
      sym (one_rest (record { which = kept.which; table = did.before }) old after more (sym did.first ∙ is)),
    )
      where
        one_first : (x y : Kept) (xs ys : List Kept) → x ∷ xs ≡ y ∷ ys → x ≡ y
        one_first x y xs ys same = cc

        one_rest : (x y : Kept) (xs ys : List Kept) → x ∷ xs ≡ y ∷ ys → xs ≡ ys
        one_rest x y xs ys same = cc

    written_on : AreWritten v core ds a.left part group → AreWritten w core ds after part group
    written_on (inl (old, other, left_is, part_is, group_is)) =
        let first = first_of old (other ∷ []) left_is in
        inr (inl (other, sym first.1, subst (IsKept w core.host) (sym (part_is ∙ first.0)) did.now, group_is))
    written_on (inr (inl (other, left_is, kept_is, group_is))) =
        let first = first_of other [] left_is in
        let other_table : part.which ≢ kept.which =
        λ same. let both : tables.Part core.part ≡ tables.Group (current core.groups) =
        sym at.4 ∙ same ∙ ap (λ (k : Kept). k.which) (sym (group_is ∙ first.0)) ∙ at.5 in cc in
        inr (inr (
          sym first.1,
          kept_by part did.wrote.geometry did.wrote.memory
              (did.wrote.facts (TableIs part.which part.table) (λ same. other_table (let one : part.which ≡ kept.which = cc in one))) kept_is,
          subst (IsKept w core.host) (sym (group_is ∙ first.0)) did.now,
        ))
    written_on (inr (inr (none, part_kept, group_kept))) = let both = sym none ∙ did.first in absurd cc

    -- it is no table of a file
    kept_shared : AreWritten v core ds a.left part group → (t : Table) → IsOfFile t → t ≢ kept.which
    kept_shared (inl (old, other, left_is, part_is, group_is)) t file same =
        let first = first_of old (other ∷ []) left_is in
        subst IsOfFile (same ∙ ap (λ (k : Kept). k.which) (sym (part_is ∙ first.0)) ∙ at.4) file
    kept_shared (inr (inl (other, left_is, kept_is, group_is))) t file same =
        let first = first_of other [] left_is in
        subst IsOfFile (same ∙ ap (λ (k : Kept). k.which) (sym (group_is ∙ first.0)) ∙ at.5) file
    kept_shared (inr (inr (none, part_kept, group_kept))) t file same = let both = sym none ∙ did.first in absurd cc

    pub table_written : (b : Applying) → b.entry ≡ a.entry → b.left ≡ after → AppliedSo core.host v w (Wrote kept)
        → Went v w core core (stages.Applies a part group) (More (stages.Applies b part group))
    table_written b entry left so =
        let edits : b.entry.edits ≡ ds = ap (λ (x : JournalRecord). x.edits) entry in
        let one = one_table_less core.host v w ds a.left after kept did in
        let long = ap length left in
        went_more v w core core.taken core.groups (key_some v core c at.0) (keeps_memory core.host v w did.wrote.geometry did.wrote.memory)
        (tables_wrote core.host v w _ _ _ did.wrote (λ t file same. kept_shared at.3 t file (let one : t ≡ kept.which = cc in one)))
        (step_of v core.host (Wrote kept)) 0 core.count (stages.Applies a part group) (stages.Applies b part group) (
          on_memory v w core core.count did.wrote.geometry did.wrote.memory at.0,
          at.1,
          subst (λ (xs : List Edit). IsApplying w core.host xs b.left) (sym edits) (subst (IsApplying w core.host ds) (sym left) did.stands),
          subst (λ (xs : List Edit). AreWritten w core xs b.left part group) (sym edits)
              (subst (λ (ks : List Kept). AreWritten w core ds ks part group) (sym left) (written_on at.3)),
          at.4,
          at.5,
          at.6,
        )
        (wrote_nothing core.host v w _ _ did.wrote, omega arith) refl (omega (arith, one, long)) (so (Collect core.part) outcomes.Open)
        (table_empties v core.host kept (subst (λ (x : Geometry). HasTable x kept.which) did.wrote.geometry did.now.table)) (omega arith)
        (λ n read. read_still v w core core (step_of v core.host (Wrote kept)) n did.wrote.geometry refl read)

  both_kept : a.left ≡ [] → AreWritten v core ds a.left part group → IsKept v core.host part × IsKept v core.host group
  both_kept none (inl (old, other, left_is, part_is, group_is)) = let both = sym none ∙ left_is in absurd cc
  both_kept none (inr (inl (other, left_is, kept_is, group_is))) = let both = sym none ∙ left_is in absurd cc
  both_kept none (inr (inr (left_is, part_kept, group_kept))) = (part_kept, group_kept)

  pub record_ended : (o : Option Emptying) → RecordEnded core.host v w a.left → AppliedSo core.host v w Finished
      → emptying_of (key_at v.locks core.host) core.part part.table (current core.groups) group.table ≡ o
      → Went v w core core (stages.Applies a part group) (More (behind_group o part group))
  record_ended o did so is =
      let both = both_kept did.none at.3 in
      let stays = λ (kept : Kept). did.wrote.facts (TableIs kept.which kept.table) (λ same. cc) in
      went_visit v w core part group o (stages.Applies a part group) (step_of v core.host Finished) (key_some v core c at.0) refl
      (keeps_memory core.host v w did.wrote.geometry did.wrote.memory) (tables_wrote core.host v w _ _ _ did.wrote (λ t file same. cc))
      (record { on = on_memory v w core core.count did.wrote.geometry did.wrote.memory at.0; empty = did.empty }) at.1
      (record { kept = kept_by part did.wrote.geometry did.wrote.memory (stays part) both.0; which = at.4; room = at.6 })
      (record { kept = kept_by group did.wrote.geometry did.wrote.memory (stays group) both.1; which = at.5 })
      (ap (λ (m : HostState). emptying_of (key_of m) core.part part.table (current core.groups) group.table) did.wrote.memory ∙ is)
      (wrote_nothing core.host v w _ _ did.wrote, omega arith) refl (omega arith) (so (Collect core.part) outcomes.Open)
      (finish_empties v core.host c.geometry at.0.host) (λ n read. read)
