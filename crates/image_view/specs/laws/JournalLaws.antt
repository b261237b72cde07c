-- Standing records: whose they are, and what writing, applying and clearing one does to the logical numbers.
use Rattle.std.proofs.Common.{◌≡◌, ◌≢◌, ◌<◌, ◌≤◌, ◌+◌, ◌%◌, ℕ, zero, suc, true, false, List, [], ◌∷◌, refl, sym, ap, ◌∙◌, ◌⊎◌, inl, inr, arith}
use Rattle.std.specs.List.{flat_map, range_with_len}
use Rattle.std.proofs.lemmas.Bool.{cases_Bool, cases_eq, false_from_ne_true, or_parts}
use Rattle.vol_layout.specs.declared.geometry.Geometry.{Geometry}
use Rattle.vol_layout.specs.declared.kind.Kind.TheVariants as kinds
use Rattle.vol_layout.specs.declared.kind.Table.{Table}
use Rattle.vol_layout.specs.declared.kind.Table.TheVariants as tables
use Rattle.vol_layout.specs.declared.field.Field.{Field}
use Rattle.vol_layout.specs.declared.field.Edit.{Edit}
use Rattle.vol_layout.specs.Edits.{edited, touches}
use Rattle.vol_layout.specs.Fields.{HasField, resource_of, table_of}
use Rattle.slot_lock_blocks.specs.laws.SlotLaws.{slot_numbers}
use Rattle.image_view.specs.Images.{Image, OnlyChanges, block_at}
use Rattle.image_view.specs.Numbers.{field, journal, logical, standing}
use Rattle.image_view.specs.HostKeys.{IsHeldBy, slot_key_at}
use Rattle.image_view.specs.Valid.{IsValid}
use Rattle.image_view.specs.Records.{IsEdited}
use Rattle.vol_layout.specs.laws.EditLaws.{touches-append}
use Rattle.image_view.specs.laws.EditLaws.{edited-append, edited_touched, edited_untouched}
use Rattle.image_view.specs.laws.FrameLaws.{field_kept, journal_kept, standing_kept}

-- the key that a slot shows is one of its host
pub slot_key-host : (g : Geometry) (counter : ℕ) (image : Image) (h : ℕ) → IsValid g counter image → h < g.hosts → slot_key_at g image h ≢ 0
    → slot_key_at g image h % 16 ≡ h
unfolding slot_key_at
slot_key-host g counter image h valid below some =
    let s = valid.slots h below in
    let is = (slot_numbers (block_at g image (kinds.Slot h)) s.slot s.spelled).key in
    rw is (s.host (λ e. some (is ∙ e)))

touched_some : (es : List Edit) (x : Field) → touches es x ≡ true → es ≢ []
touched_some [] x h e = cc
touched_some (e ∷ es) x h e' = cc

-- a host's record holds what it edits by the key that its slot shows
pub record_key : (g : Geometry) (counter : ℕ) (image : Image) (h : ℕ) (x : Field) → IsValid g counter image → h < g.hosts
    → touches (journal g image h) x ≡ true
    → (slot_key_at g image h ≢ 0) × IsHeldBy g image (resource_of x) (slot_key_at g image h)
record_key g counter image h x valid below touched =
    let shown = valid.held.records h below (touched_some (journal g image h) x touched) in
    let holds = valid.held.edits h x below touched in
    (shown.0, rw (shown.1) at (holds.1))

-- where one host's slot shows the key that holds a field's resource, no other host's record edits the field
pub others_untouched : (g : Geometry) (counter : ℕ) (image : Image) (h k : ℕ) (x : Field) → IsValid g counter image → h < g.hosts
    → slot_key_at g image h ≢ 0 → IsHeldBy g image (resource_of x) (slot_key_at g image h)
    → k < g.hosts → k ≢ h → touches (journal g image k) x ≡ false
others_untouched g counter image h k x valid below some holds below' ne =
    false_from_ne_true (touches (journal g image k) x) (λ touched.
    let other = record_key g counter image k x valid below' touched in
    let keys : slot_key_at g image k ≡ slot_key_at g image h = sym other.1.by ∙ holds.by in
    let here = slot_key-host g counter image h valid below some in
    let there = slot_key-host g counter image k valid below' other.0 in
    ne (sym there ∙ ap (λ n. n % 16) keys ∙ here))

-- no two journals of a valid image edit one field
pub journals_apart : (g : Geometry) (counter : ℕ) (image : Image) (h k : ℕ) (x : Field) → IsValid g counter image → h < g.hosts
    → k < g.hosts
    → touches (journal g image h) x ≡ true → k ≢ h → touches (journal g image k) x ≡ false
journals_apart g counter image h k x valid below below' touched ne =
    let own = record_key g counter image h x valid below touched in
    others_untouched g counter image h k x valid below own.0 own.1 below' ne

-- lists of edits that leave the same number, one after the other
edited_each : (j j' : ℕ → List Edit) (x : Field) (n a c m : ℕ) → a + c ≤ m → ((k i : ℕ) → k < m → edited (j' k) x i ≡ edited (j k) x i)
    → edited (flat_map j' (range_with_len a c)) x n ≡ edited (flat_map j (range_with_len a c)) x n
edited_each j j' x n a zero m le same = refl
edited_each j j' x n a (suc c) m le same =
    let rest = edited_each j j' x n (a + 1) c m (omega arith) same in
    edited-append (j' a) (flat_map j' (range_with_len (a + 1) c)) x n
    ∙ ap (λ i. edited (j' a) x i) rest
    ∙ same a (edited (flat_map j (range_with_len (a + 1) c)) x n) (omega arith)
    ∙ sym (edited-append (j a) (flat_map j (range_with_len (a + 1) c)) x n)

-- of lists of edits of which at most one edits the field, that one counts
edited_only : (j : ℕ → List Edit) (x : Field) (n a c h m : ℕ) → a + c ≤ m → ((k : ℕ) → k < m → k ≢ h → touches (j k) x ≡ false) → a ≤ h
    → h < a + c
    → edited (flat_map j (range_with_len a c)) x n ≡ edited (j h) x n
edited_only j x n a zero h m le none low high = absurd (omega arith)
edited_only j x n a (suc c) h m le none low high =
    let step = edited-append (j a) (flat_map j (range_with_len (a + 1) c)) x n in
    elim (cases_eq a h) [
      | inl here ↦ step ∙ ap (λ i. edited (j a) x i) (rest_none j x n (a + 1) c m (omega arith) (λ k lt ge. none k lt (λ e. absurd (omega arith)))) ∙ ap (λ k. edited (j k) x n) here
      | inr other ↦ step ∙ edited_untouched (j a) x (edited (flat_map j (range_with_len (a + 1) c)) x n) (none a (omega arith) other) ∙ edited_only j x n (a + 1) c h m (omega arith) none (omega arith) (omega arith)
    ]
  where
    rest_none : (j : ℕ → List Edit) (x : Field) (n a c m : ℕ) → a + c ≤ m → ((k : ℕ) → k < m → a ≤ k → touches (j k) x ≡ false)
        → edited (flat_map j (range_with_len a c)) x n ≡ n
    rest_none j x n a zero m le none = refl
    rest_none j x n a (suc c) m le none =
        edited-append (j a) (flat_map j (range_with_len (a + 1) c)) x n
        ∙ edited_untouched (j a) x (edited (flat_map j (range_with_len (a + 1) c)) x n) (none a (omega arith) (omega arith))
        ∙ rest_none j x n (a + 1) c m (omega arith) (λ k lt ge. none k lt (omega arith))

-- a field that no other journal edits has the number that its host's record leaves
pub logical_own : (g : Geometry) (image : Image) (h : ℕ) (x : Field) → h < g.hosts
    → ((k : ℕ) → k < g.hosts → k ≢ h → touches (journal g image k) x ≡ false)
    → logical g image x ≡ edited (journal g image h) x (field g image x)
unfolding logical standing
logical_own g image h x below none = edited_only (λ h. journal g image h) x (field g image x) 0 g.hosts h g.hosts (omega arith) none (omega arith) (omega arith)

part_untouched : (j : ℕ → List Edit) (x : Field) (a c k : ℕ) → a ≤ k → k < a + c → touches (flat_map j (range_with_len a c)) x ≡ false
    → touches (j k) x ≡ false
part_untouched j x a zero k low high none = absurd (omega arith)
part_untouched j x a (suc c) k low high none =
    let both = or_parts (touches (j a) x) (touches (flat_map j (range_with_len (a + 1) c)) x) (sym (touches-append (j a) (flat_map j (range_with_len (a + 1) c)) x) ∙ none) in
    elim (cases_eq a k) [
      | inl here ↦ ap (λ k. touches (j k) x) (sym here) ∙ both.0
      | inr other ↦ part_untouched j x (a + 1) c k (omega arith) (omega arith) both.1
    ]

-- a record that comes to stand in an empty journal makes its edits, where no other journal edits its fields
pub logical-commit : (g : Geometry) (old new : Image) (h : ℕ) → OnlyChanges g old new (kinds.Journal h) → h < g.hosts → journal g old h ≡ []
    → ((x : Field) (k : ℕ) → touches (journal g new h) x ≡ true → k < g.hosts → k ≢ h → touches (journal g old k) x ≡ false)
    → IsEdited g old new (journal g new h)
unfolding logical standing
logical-commit g old new h only below empty none x has =
    let same = field_kept g old new (kinds.Journal h) x only has (λ e. cc) in
    let others = (λ (k : ℕ) (lt : k < g.hosts) (ne : k ≢ h). journal_kept g old new (kinds.Journal h) k only lt (λ e. ne cc)) in
    elim (cases_Bool (touches (journal g new h) x)) [
      | inl touched ↦
          logical_own g new h x below (λ k lt ne. ap (λ es. touches es x) (others k lt ne) ∙ none x k touched lt ne)
          ∙ edited_touched (journal g new h) x (field g new x) (logical g old x) touched
      | inr kept ↦
          ap (λ n. edited (standing g new) x n) same
          ∙ edited_each (λ h. journal g old h) (λ h. journal g new h) x (field g old x) 0 g.hosts g.hosts (omega arith)
          (λ k i lt. elim (cases_eq k h) [
            | inl here ↦ rw here (edited_untouched (journal g new h) x i kept ∙ sym (ap (λ es. edited es x i) empty))
            | inr other ↦ ap (λ es. edited es x i) (others k lt other)
          ])
          ∙ sym (edited_untouched (journal g new h) x (logical g old x) kept)
    ]

-- a journal that is cleared once its edits stand in the tables leaves the logical numbers
pub logical-finish : (g : Geometry) (old new : Image) (h : ℕ) → OnlyChanges g old new (kinds.Journal h) → h < g.hosts → journal g new h ≡ []
    → ((x : Field) → HasField g x → edited (journal g old h) x (field g old x) ≡ field g old x)
    → ((x : Field) (k : ℕ) → touches (journal g old h) x ≡ true → k < g.hosts → k ≢ h → touches (journal g old k) x ≡ false)
    → (x : Field) → HasField g x → logical g new x ≡ logical g old x
unfolding logical standing
logical-finish g old new h only below empty applied none x has =
    let same = field_kept g old new (kinds.Journal h) x only has (λ e. cc) in
    let others = (λ (k : ℕ) (lt : k < g.hosts) (ne : k ≢ h). journal_kept g old new (kinds.Journal h) k only lt (λ e. ne cc)) in
    elim (cases_Bool (touches (journal g old h) x)) [
      | inl touched ↦
          logical_own g new h x below (λ k lt ne. ap (λ es. touches es x) (others k lt ne) ∙ none x k touched lt ne)
          ∙ ap (λ es. edited es x (field g new x)) empty
          ∙ same
          ∙ sym (applied x has)
          ∙ sym (logical_own g old h x below (λ k lt ne. none x k touched lt ne))
      | inr kept ↦
          ap (λ n. edited (standing g new) x n) same
          ∙ edited_each (λ h. journal g old h) (λ h. journal g new h) x (field g old x) 0 g.hosts g.hosts (omega arith)
          (λ k i lt. elim (cases_eq k h) [
            | inl here ↦ rw here (ap (λ es. edited es x i) empty ∙ sym (edited_untouched (journal g old h) x i kept))
            | inr other ↦ ap (λ es. edited es x i) (others k lt other)
          ])
    ]

-- two tables are one or not
pub cases_Table : (t u : Table) → (t ≡ u) ⊎ (t ≢ u)
cases_Table (tables.File f) (tables.File f') = elim (cases_eq f f') [ inl e ↦ inl (ap (λ n. tables.File n) e) | inr ne ↦ inr (λ e. ne cc) ]
cases_Table (tables.Group r) (tables.Group r') = elim (cases_eq r r') [ inl e ↦ inl (ap (λ n. tables.Group n) e) | inr ne ↦ inr (λ e. ne cc) ]
cases_Table (tables.Part p) (tables.Part p') = elim (cases_eq p p') [ inl e ↦ inl (ap (λ n. tables.Part n) e) | inr ne ↦ inr (λ e. ne cc) ]
cases_Table (tables.More f b) (tables.More f' b') =
    elim (cases_eq f f') [
      | inl e ↦ elim (cases_eq b b') [ inl e' ↦ inl cc | inr ne ↦ inr (λ h. ne cc) ]
      | inr ne ↦ inr (λ h. ne cc)
    ]
cases_Table t u = inr (λ e. cc)

-- a table that gets the numbers of a standing record leaves the logical numbers
pub logical-advance : (g : Geometry) (old new : Image) (h : ℕ) (t : Table) → OnlyChanges g old new (kinds.Table t) → h < g.hosts
    → ((x : Field) → HasField g x → table_of x ≡ t → field g new x ≡ edited (journal g old h) x (field g old x))
    → (x : Field) → HasField g x → logical g new x ≡ logical g old x
unfolding logical standing
logical-advance g old new h t only below applied x has =
    let stand = standing_kept g old new (kinds.Table t) only (λ h e. cc) in
    elim (cases_Bool (touches (standing g old) x)) [
      | inl touched ↦ ap (λ es. edited es x (field g new x)) stand ∙ edited_touched (standing g old) x (field g new x) (field g old x) touched
      | inr kept ↦
          let none = part_untouched (λ h. journal g old h) x 0 g.hosts h (omega arith) (omega arith) kept in
          let same : field g new x ≡ field g old x =
          elim (cases_Table (table_of x) t) [
            | inl here ↦ applied x has here ∙ edited_untouched (journal g old h) x (field g old x) none
            | inr other ↦ field_kept g old new (kinds.Table t) x only has (λ e. other cc)
          ] in
          ap (λ es. edited es x (field g new x)) stand ∙ ap (λ n. edited (standing g old) x n) same
    ]
