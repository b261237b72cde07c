-- What the tables of a part and a group say of the slots that are emptied.
use Rattle.std.proofs.Common.{◌≡◌, ◌≢◌, ◌<◌, ◌≤◌, ◌+◌, ◌-◌, ◌*◌, ◌/◌, ◌%◌, ◌==◌, ◌&&◌, ◌||◌, ◌++◌, ◌∷◌, ℕ, zero, suc, Bool, true, false, List, [], None, Option, Some, refl, ap, sym, subst, ◌∙◌, arith, drop, get_or, inl, inr, length, nat_lt, slice_get, slice_index}
use Rattle.std.specs.Prelude.{All, IfSome, filter, if◌then◌else◌, not}
use Rattle.std.specs.List.{range_with_len}
use Rattle.std.proofs.lemmas.Bool.{and_parts, cases_Bool, cases_eq, eq-eqb, eqb-true, lt-ltb}
use Rattle.std.proofs.lemmas.List.{append_assoc, drop_all, drop_more, length-append, length-drop, length-map}
use Rattle.std.proofs.lemmas.List.Elements.{All-head, All-tail}
use Rattle.std.proofs.lemmas.List.FromFn.{get_or-range_with_len, length-range_with_len}
use Rattle.std.proofs.lemmas.List.Sums.{count_by-le-length, length-filter}
use Rattle.vol_base.specs.Packing.{Packing}
use Rattle.vol_layout.specs.declared.field.Edit.{Edit}
use Rattle.vol_layout.specs.declared.field.Field.{Field}
use Rattle.vol_layout.specs.declared.field.Field.TheVariants.{Count, Slot}
use Rattle.vol_layout.specs.Edits.{AreApart, edited, same_field, touches}
use Rattle.vol_layout.specs.Ranges.{per_table}
use Rattle.vol_layout.specs.laws.EditLaws.{AreApart-push, other_field-is, same_field-refl, touches-append}
use Rattle.image_view.specs.Balances.{edit}
use Rattle.image_view.specs.laws.BalanceLaws.{emptied_slots, freed_counts, slots-no-count}
use Rattle.call_effects.specs.Collections.{collected, freed}
use Rattle.call_effects.specs.laws.EachEdit.{all-append, all-none, all-one}
use Rattle.table_blocks.specs.Tables.{number_in}
use Rattle.journal_block.specs.JournalRecord.{JournalRecord}
use Rattle.host_runs.specs.lemmas.OrderlyPlaced.{some_same}
use Rattle.share_plans.specs.Spents.{NoneSpent, emptying_by, entry_at, frees, freed_in, gathered, is_spent, picked, slot_added, slots_record, used, with_four}
use Rattle.share_plans.specs.declared.collection.Emptying.{Emptying}
use Rattle.share_plans.specs.laws.PickedLaws.{freed_yes, long_push, picked_few, picked_found, picked_is, picked_late, picked_yes}

-- one of the entries of part p is of this slot, which names a data block of the group whose count is 1
pub record IsSpentAt (p : ℕ) (part : Packing) (r : ℕ) (group : Packing) (slot : ℕ × ℕ) : Type 0 where
  pub entry : ℕ
  pub inside : entry < per_table
  pub at : slot.0 ≡ per_table * p + entry
  pub number : entry_at part entry ≡ slot.1 + 1
  pub in_group : slot.1 / per_table ≡ r
  pub once : entry_at group (slot.1 % per_table) ≡ 1

spent_parts : (n r : ℕ) (group : Packing) → is_spent n r group ≡ true
    → (n ≢ 0) × ((n - 1) / per_table ≡ r) × (entry_at group ((n - 1) % per_table) ≡ 1)
spent_parts n r group is =
    let parts = and_parts (not (n == 0) && ((n - 1) / per_table == r)) (entry_at group ((n - 1) % per_table) == 1) is in
    let front = and_parts (not (n == 0)) ((n - 1) / per_table == r) parts.0 in (
      λ none. let zero_is = eq-eqb n 0 none in let both : false ≡ true = sym (rw zero_is refl) ∙ front.0 in cc,
      eqb-true ((n - 1) / per_table) r front.1,
      eqb-true (entry_at group ((n - 1) % per_table)) 1 parts.1,
    )

pub spent_by : (n r d : ℕ) (group : Packing) → n ≡ d + 1 → d / per_table ≡ r → entry_at group (d % per_table) ≡ 1 → is_spent n r group ≡ true
spent_by n r d group number in_group once =
    let less : n - 1 ≡ d = omega (arith, number) in
    let some : (n == 0) ≡ false = elim (cases_Bool (n == 0)) [
      | inl none ↦ absurd (let zero_is = eqb-true n 0 none in omega (arith, number, zero_is))
      | inr miss ↦ miss
    ] in
    let here = eq-eqb ((n - 1) / per_table) r (ap (λ (m : ℕ). m / per_table) less ∙ in_group) in
    let one = eq-eqb (entry_at group ((n - 1) % per_table)) 1 (ap (λ (m : ℕ). entry_at group (m % per_table)) less ∙ once) in
    rw (some, here, one) refl

spent_at : (p r k : ℕ) (part group : Packing) → k < per_table → is_spent (entry_at part k) r group ≡ true
    → IsSpentAt p part r group (per_table * p + k, entry_at part k - 1)
spent_at p r k part group inside is =
    let parts = spent_parts (entry_at part k) r group is in
    let some = parts.0 in record {
      entry = k;
      inside = inside;
      at = refl;
      number = omega (arith, some);
      in_group = parts.1;
      once = parts.2;
    }

-- one entry more
used_none : (q : Packing) (k : ℕ) → (entry_at q k == 0) ≡ true → used q (suc k) ≡ used q k
used_none q k is = rw is (omega arith)

used_some : (q : Packing) (k : ℕ) → (entry_at q k == 0) ≡ false → used q (suc k) ≡ used q k + 1
used_some q k is = rw is refl

-- one slot more, where there is room
four_yes : (slots : List (ℕ × ℕ)) (slot : ℕ × ℕ) → nat_lt (length slots) 4 ≡ true → with_four slots slot ≡ slots ++ slot ∷ []
four_yes slots slot hit = rw hit refl

four_no : (slots : List (ℕ × ℕ)) (slot : ℕ × ℕ) → nat_lt (length slots) 4 ≡ false → with_four slots slot ≡ slots
four_no slots slot miss = rw miss refl

four_by : (P : List (ℕ × ℕ) → Type 0) (slots : List (ℕ × ℕ)) (slot : ℕ × ℕ) → (length slots < 4 → P (slots ++ slot ∷ [])) → P slots
    → P (with_four slots slot)
four_by P slots slot more same =
    elim (cases_Bool (nat_lt (length slots) 4)) [
      | inl hit ↦ subst P (sym (four_yes slots slot hit)) (more (lt-of (length slots) hit))
      | inr miss ↦ subst P (sym (four_no slots slot miss)) same
    ]
  where
    lt-of : (n : ℕ) → nat_lt n 4 ≡ true → n < 4
    lt-of n is = grind (arith, is)

pub emptied_push : (slots : List (ℕ × ℕ)) (slot : ℕ × ℕ) → emptied_slots (slots ++ slot ∷ []) ≡ emptied_slots slots ++ edit (Slot slot.0) 0 ∷ []
emptied_push [] slot = refl
emptied_push (s ∷ slots) slot = ap (λ (es : List Edit). edit (Slot s.0) 0 ∷ es) (emptied_push slots slot)

touches_more : (slots : List (ℕ × ℕ)) (slot : ℕ × ℕ) (x : Field)
    → touches (emptied_slots (slots ++ slot ∷ [])) x ≡ (touches (emptied_slots slots) x || touches (edit (Slot slot.0) 0 ∷ []) x)
touches_more slots slot x =
    ap (λ (es : List Edit). touches es x) (emptied_push slots slot) ∙ touches-append (emptied_slots slots) (edit (Slot slot.0) 0 ∷ []) x

module _ (p : ℕ) (part : Packing) (r : ℕ) (group : Packing) where
  abbrev of : ℕ → List (ℕ × ℕ)
  of k = gathered p part r group k

  abbrev slot_of : ℕ → ℕ × ℕ
  slot_of k = (per_table * p + k, entry_at part k - 1)

  gathered_yes : (k : ℕ) → is_spent (entry_at part k) r group ≡ true → of (suc k) ≡ with_four (of k) (slot_of k)
  gathered_yes k hit = rw hit refl

  gathered_no : (k : ℕ) → is_spent (entry_at part k) r group ≡ false → of (suc k) ≡ of k
  gathered_no k miss = rw miss refl

  -- what holds of one entry more
  gathered_by : (P : List (ℕ × ℕ) → Type 0) (k : ℕ)
      → (is_spent (entry_at part k) r group ≡ true → length (of k) < 4 → P (of k ++ slot_of k ∷ [])) → P (of k) → P (of (suc k))
  gathered_by P k more same =
      elim (cases_Bool (is_spent (entry_at part k) r group)) [
        | inl hit ↦ subst P (sym (gathered_yes k hit)) (four_by P (of k) (slot_of k) (more hit) same)
        | inr miss ↦ subst P (sym (gathered_no k miss)) same
      ]

  pub gathered_few : (k : ℕ) → length (of k) ≤ 4
  gathered_few zero = omega arith
  gathered_few (suc k) =
      gathered_by (λ (slots : List (ℕ × ℕ)). length slots ≤ 4) k
      (λ hit room. let long = length-append (of k) (slot_of k ∷ []) in omega (arith, long, room)) (gathered_few k)

  pub gathered_spent : (k : ℕ) → k ≤ per_table → All (IsSpentAt p part r group) (of k)
  gathered_spent zero within = all-none (IsSpentAt p part r group)
  gathered_spent (suc k) within =
      let early = gathered_spent k (omega (arith, within)) in
      gathered_by (λ (slots : List (ℕ × ℕ)). All (IsSpentAt p part r group) slots) k
      (λ hit room. all-append (IsSpentAt p part r group) (of k) (slot_of k ∷ []) early
      (all-one (IsSpentAt p part r group) (slot_of k) (spent_at p r k part group (omega (arith, within)) hit))) early

  -- each is before the entries that are not looked at yet
  pub gathered_late : (k s : ℕ) → per_table * p + k ≤ s → touches (emptied_slots (of k)) (Slot s) ≡ false
  gathered_late zero s late = refl
  gathered_late (suc k) s late =
      let early = gathered_late k s (omega (arith, late)) in
      gathered_by (λ (slots : List (ℕ × ℕ)). touches (emptied_slots slots) (Slot s) ≡ false) k
      (λ hit room.
      let other = other_field-is (Slot (per_table * p + k)) (Slot s) (λ e. let same : per_table * p + k ≡ s = cc in omega (arith, same, late)) in
      touches_more (of k) (slot_of k) (Slot s) ∙ rw (early, other) refl) early

  pub gathered_apart : (k : ℕ) → AreApart (emptied_slots (of k))
  gathered_apart zero = tt
  gathered_apart (suc k) =
      gathered_by (λ (slots : List (ℕ × ℕ)). AreApart (emptied_slots slots)) k
      (λ hit room. subst AreApart (sym (emptied_push (of k) (slot_of k)))
      (AreApart-push (emptied_slots (of k)) (edit (Slot (per_table * p + k)) 0) (gathered_apart k)
      (gathered_late k (per_table * p + k) (omega arith)))) (gathered_apart k)

  -- where there is none, no entry is spent
  four_some : (slots : List (ℕ × ℕ)) (slot : ℕ × ℕ) → with_four slots slot ≢ []
  four_some [] slot none = cc
  four_some (s ∷ slots) slot none =
      elim (cases_Bool (nat_lt (length (s ∷ slots)) 4)) [
        | inl hit ↦ let both : (s ∷ slots) ++ slot ∷ [] ≡ [] = sym (four_yes (s ∷ slots) slot hit) ∙ none in cc
        | inr miss ↦ let both : s ∷ slots ≡ [] = sym (four_no (s ∷ slots) slot miss) ∙ none in cc
      ]

  pub gathered_none : (k : ℕ) → of k ≡ [] → (e : ℕ) → e < k → is_spent (entry_at part e) r group ≡ false
  gathered_none zero none e below = absurd (omega (arith, below))
  gathered_none (suc k) none e below =
      elim (cases_Bool (is_spent (entry_at part k) r group)) [
        | inl hit ↦ absurd (four_some (of k) (slot_of k) (sym (gathered_yes k hit) ∙ none))
        | inr miss ↦ elim (cases_eq e k) [
          | inl same ↦ ap (λ (n : ℕ). is_spent (entry_at part n) r group) same ∙ miss
          | inr other ↦ gathered_none k (sym (gathered_no k miss) ∙ none) e (omega (arith, below, other))
        ]
      ]

  pub none_gathered : of per_table ≡ [] → NoneSpent part r group
  none_gathered none e below = gathered_none per_table none e below

  -- slots that are gathered stay so
  gathered_more : (k : ℕ) (x : Field) → touches (emptied_slots (of k)) x ≡ true → touches (emptied_slots (of (suc k))) x ≡ true
  gathered_more k x touched =
      gathered_by (λ (slots : List (ℕ × ℕ)). touches (emptied_slots slots) x ≡ true) k
      (λ hit room. touches_more (of k) (slot_of k) x ∙ rw touched refl) touched

  -- a table whose gathered entries are 0, and which has no other number where there was none, has so many less
  pub used_behind : (later : Packing) (k : ℕ) → ((e : ℕ) → e < k → entry_at later e ≢ 0 → entry_at part e ≢ 0)
      → ((e : ℕ) → e < k → touches (emptied_slots (of k)) (Slot (per_table * p + e)) ≡ true → entry_at later e ≡ 0)
      → used later k + length (of k) ≤ used part k
  used_behind later zero less emptied = omega arith
  used_behind later (suc k) less emptied =
      let early = used_behind later k (λ e below. less e (omega (arith, below)))
      (λ e below touched. emptied e (omega (arith, below)) (gathered_more k (Slot (per_table * p + e)) touched)) in
      elim (cases_Bool (entry_at later k == 0)) [
        | inl none ↦
            let now = used_none later k none in
            elim (cases_Bool (entry_at part k == 0)) [
              | inl was ↦
                  let before = used_none part k was in
                  let same = ap length (gathered_no k (unspent was)) in
                  omega (arith, early, now, before, same)
              | inr some ↦
                  let before = used_some part k some in
                  gathered_by (λ (slots : List (ℕ × ℕ)). used later (suc k) + length slots ≤ used part (suc k)) k
                  (λ hit room. let long = length-append (of k) (slot_of k ∷ []) in omega (arith, early, now, before, long))
                  (omega (arith, early, now, before))
            ]
        | inr some ↦
            let was_some : entry_at part k ≢ 0 = less k (omega arith) (not_zero (entry_at later k) some) in
            let now = used_some later k some in
            let before = used_some part k (nonzero (entry_at part k) was_some) in
            gathered_by (λ (slots : List (ℕ × ℕ)). used later (suc k) + length slots ≤ used part (suc k)) k
            (λ hit room.
            let more : of (suc k) ≡ of k ++ slot_of k ∷ [] = gathered_yes k hit ∙ four_yes (of k) (slot_of k) (lt-ltb (length (of k)) 4 room) in
            absurd (not_zero (entry_at later k) some (emptied k (omega arith) (here more)))) (omega (arith, early, now, before))
      ]
    where
      not_zero : (n : ℕ) → (n == 0) ≡ false → n ≢ 0
      not_zero n miss none = let is = eq-eqb n 0 none in cc

      nonzero : (n : ℕ) → n ≢ 0 → (n == 0) ≡ false
      nonzero n some = elim (cases_Bool (n == 0)) [ inl is ↦ absurd (some (eqb-true n 0 is)) | inr miss ↦ miss ]

      unspent : (entry_at part k == 0) ≡ true → is_spent (entry_at part k) r group ≡ false
      unspent was = rw was refl

      last : (b : Bool) → (b || (true || false)) ≡ true
      last true = refl
      last false = refl

      here : of (suc k) ≡ of k ++ slot_of k ∷ [] → touches (emptied_slots (of (suc k))) (Slot (per_table * p + k)) ≡ true
      here now =
          let own = same_field-refl (Slot (per_table * p + k)) in
          ap (λ (slots : List (ℕ × ℕ)). touches (emptied_slots slots) (Slot (per_table * p + k))) now
          ∙ touches_more (of k) (slot_of k) (Slot (per_table * p + k)) ∙ rw own (last (touches (emptied_slots (of k)) (Slot (per_table * p + k))))

-- what a slot's edit says of the data block that it names
frees_is : (part : Packing) (slots : List (ℕ × ℕ)) (d : ℕ) → All (λ (s : ℕ × ℕ). number_in part (Slot s.0) ≡ s.1 + 1) slots
    → frees part (emptied_slots slots) d ≡ touches (freed_counts slots) (Count d)
frees_is part [] d all = refl
frees_is part (s ∷ slots) d all =
    let P = λ (s : ℕ × ℕ). number_in part (Slot s.0) ≡ s.1 + 1 in
    let number = All-head P s slots all in
    let more = frees_is part slots d (All-tail P s slots all) in
    elim (cases_eq s.1 d) [
      | inl same ↦
          let here = eq-eqb (number_in part (Slot s.0)) (d + 1) (number ∙ omega (arith, same)) in
          let there : same_field (Count s.1) (Count d) ≡ true =
          subst (λ (n : ℕ). same_field (Count n) (Count d) ≡ true) (sym same) (same_field-refl (Count d)) in
          rw (here, there) refl
      | inr other ↦
          let here : (number_in part (Slot s.0) == d + 1) ≡ false = unequal (number_in part (Slot s.0)) (d + 1) (λ e. other (omega (arith, number, e))) in
          let there = other_field-is (Count s.1) (Count d) (λ e. other cc) in
          rw (here, there) more
    ]
  where
    unequal : (a b : ℕ) → a ≢ b → (a == b) ≡ false
    unequal a b ne = elim (cases_Bool (a == b)) [ inl is ↦ absurd (ne (eqb-true a b is)) | inr miss ↦ miss ]

-- a freed count is one of the group's data blocks
in_row : (r d : ℕ) → d / per_table ≡ r → (per_table * r ≤ d) × (d < per_table * r + per_table)
unfolding per_table
in_row r d same = (omega (arith, same), omega (arith, same))

pub of_touched : (P : ℕ → Type 0) (d : ℕ) (slots : List (ℕ × ℕ)) → All (λ (s : ℕ × ℕ). P s.1) slots
    → touches (freed_counts slots) (Count d) ≡ true → P d
of_touched P d [] all touched = absurd cc
of_touched P d (s ∷ slots) all touched =
    let Q = λ (s : ℕ × ℕ). P s.1 in
    elim (cases_eq s.1 d) [
      | inl same ↦ subst P same (All-head Q s slots all)
      | inr other ↦
          let there = other_field-is (Count s.1) (Count d) (λ e. other cc) in
          of_touched P d slots (All-tail Q s slots all) (sym (rw there refl) ∙ touched)
    ]

-- the freed counts are those of the slots
pub same_counts : (part : Packing) (r : ℕ) (slots : List (ℕ × ℕ)) (d : ℕ)
    → All (λ (s : ℕ × ℕ). number_in part (Slot s.0) ≡ s.1 + 1) slots → All (λ (s : ℕ × ℕ). s.1 / per_table ≡ r) slots
    → touches (freed (freed_in part r (emptied_slots slots))) (Count d) ≡ touches (freed_counts slots) (Count d)
same_counts part r slots d numbers groups =
    let is = frees_is part slots d numbers in
    elim (cases_Bool (touches (freed_counts slots) (Count d))) [
      | inl hit ↦
          let row = in_row r d (of_touched (λ (n : ℕ). n / per_table ≡ r) d slots groups hit) in
          picked_found (frees part (emptied_slots slots)) (per_table * r) per_table d (is ∙ hit) row.0 row.1 ∙ sym hit
      | inr miss ↦
          elim (cases_Bool (touches (freed (freed_in part r (emptied_slots slots))) (Count d))) [
            | inl touched ↦
                let both : false ≡ true = sym miss ∙ sym is ∙ picked_is (frees part (emptied_slots slots)) (per_table * r) per_table d touched in
                absurd cc
            | inr none ↦ none ∙ sym miss
          ]
    ]

-- edits that give 0 alone: what a field becomes is told by whether they touch it
emptied_edited : (slots : List (ℕ × ℕ)) (more : List Edit) (x : Field) (n : ℕ)
    → edited (emptied_slots slots ++ more) x n ≡ (if touches (emptied_slots slots) x then 0 else edited more x n)
emptied_edited [] more x n = refl
emptied_edited (s ∷ slots) more x n =
    elim (cases_Bool (same_field (Slot s.0) x)) [
      | inl here ↦ rw here refl
      | inr other ↦ rw other (emptied_edited slots more x n)
    ]

freed_slot : (numbers : List ℕ) (s n : ℕ) → edited (freed numbers) (Slot s) n ≡ n
freed_slot [] s n = refl
freed_slot (d ∷ numbers) s n = rw (other_field-is (Count d) (Slot s) (λ e. cc)) (freed_slot numbers s n)

pub slot_edited : (slots : List (ℕ × ℕ)) (numbers : List ℕ) (s n : ℕ)
    → edited (collected slots numbers) (Slot s) n ≡ (if touches (emptied_slots slots) (Slot s) then 0 else n)
slot_edited slots numbers s n =
    emptied_edited slots (freed numbers) (Slot s) n
    ∙ ap (λ (m : ℕ). if touches (emptied_slots slots) (Slot s) then 0 else m) (freed_slot numbers s n)

-- the record of the slots so far, with one slot more
pub record_more : (key : ℕ) (slots : List (ℕ × ℕ)) (slot : ℕ × ℕ)
    → slot_added (slots_record key slots) key slot.0 ≡ slots_record key (with_four slots slot)
record_more key [] slot = refl
record_more key (s ∷ slots) slot =
    let long = length-map (s ∷ slots) (λ (x : ℕ × ℕ). edit (Slot x.0) 0) in
    elim (cases_Bool (nat_lt (length (s ∷ slots)) 4)) [
      | inl hit ↦
          let too : nat_lt (length (emptied_slots (s ∷ slots))) 4 ≡ true = ap (λ (n : ℕ). nat_lt n 4) long ∙ hit in
          rw (hit, too) (ap (λ (es : List Edit). let o : Option JournalRecord = Some (record { key = key; edits = es }) in o)
          (sym (emptied_push (s ∷ slots) slot)))
      | inr miss ↦
          let too : nat_lt (length (emptied_slots (s ∷ slots))) 4 ≡ false = ap (λ (n : ℕ). nat_lt n 4) long ∙ miss in
          rw (miss, too) refl
    ]

pub record_kept : (p : ℕ) (part : Packing) (r : ℕ) (group : Packing) (key k : ℕ) (o after : Option JournalRecord) (slot : ℕ)
    → o ≡ slots_record key (gathered p part r group k) → is_spent (entry_at part k) r group ≡ true → slot ≡ per_table * p + k
    → after ≡ slot_added o key slot → after ≡ slots_record key (gathered p part r group (suc k))
record_kept p part r group key k o after slot is hit slot_is after_is =
    after_is ∙ ap (λ (x : Option JournalRecord). slot_added x key slot) is
    ∙ ap (slot_added (slots_record key (gathered p part r group k)) key) slot_is
    ∙ record_more key (gathered p part r group k) (per_table * p + k, entry_at part k - 1)
    ∙ ap (slots_record key) (sym (gathered_yes p part r group k hit))

-- a slot that is not looked at yet is in no edit
pub slot_other : (p : ℕ) (part : Packing) (r : ℕ) (group : Packing) (key k slot : ℕ) (o : Option JournalRecord)
    → o ≡ slots_record key (gathered p part r group k) → slot ≡ per_table * p + k
    → IfSome o (λ entry. touches entry.edits (Slot slot) ≡ false)
slot_other p part r group key k slot o is slot_is =
    subst (λ (x : Option JournalRecord). IfSome x (λ entry. touches entry.edits (Slot slot) ≡ false)) (sym is)
    (by_slots (gathered p part r group k) (ap (λ (n : ℕ). touches (emptied_slots (gathered p part r group k)) (Slot n)) slot_is
    ∙ gathered_late p part r group k (per_table * p + k) (omega arith)))
  where
    by_slots : (slots : List (ℕ × ℕ)) → touches (emptied_slots slots) (Slot slot) ≡ false
        → IfSome (slots_record key slots) (λ entry. touches entry.edits (Slot slot) ≡ false)
    by_slots [] late = tt
    by_slots (s ∷ slots) late = late

-- the whole record, by that of its slots
pub record_whole : (key : ℕ) (part : Packing) (r : ℕ) (slots : List (ℕ × ℕ)) (entry : JournalRecord) (e : Emptying)
    → Some entry ≡ slots_record key slots
    → e.entry ≡ record entry { edits = entry.edits ++ freed (freed_in part r entry.edits) } → e.slots ≡ length entry.edits
    → Some e ≡ emptying_by key part r slots
record_whole key part r [] entry e is entry_is slots_is = absurd cc
record_whole key part r (s ∷ slots) entry e is entry_is slots_is =
    let same = some_same entry (record { key = key; edits = emptied_slots (s ∷ slots) }) is in
    let long = length-map (s ∷ slots) (λ (x : ℕ × ℕ). edit (Slot x.0) 0) in
    let entry_same : e.entry ≡ record { key = key; edits = collected (s ∷ slots) (freed_in part r (emptied_slots (s ∷ slots))) } =
    entry_is ∙ ap (λ (x : JournalRecord). let y : JournalRecord = record x { edits = x.edits ++ freed (freed_in part r x.edits) } in y) same in
    let slots_same : e.slots ≡ length (s ∷ slots) = slots_is ∙ ap (λ (x : JournalRecord). length x.edits) same ∙ long in
    ap (λ (x : JournalRecord). let o : Option Emptying = Some (record { entry = x; slots = e.slots }) in o) entry_same
    ∙ ap (λ (n : ℕ). let o : Option Emptying = Some (record {
      entry = record { key = key; edits = collected (s ∷ slots) (freed_in part r (emptied_slots (s ∷ slots))) };
      slots = n;
    }) in o) slots_same

pub record_none : (key : ℕ) (part : Packing) (r : ℕ) (slots : List (ℕ × ℕ)) → None ≡ slots_record key slots → None ≡ emptying_by key part r slots
record_none key part r [] is = refl
record_none key part r (s ∷ slots) is = absurd cc

pub record_few : (p : ℕ) (part : Packing) (r : ℕ) (group : Packing) (key k : ℕ) (entry : JournalRecord)
    → Some entry ≡ slots_record key (gathered p part r group k)
    → (length entry.edits ≤ 4) × ((d : ℕ) → touches entry.edits (Count d) ≡ false)
record_few p part r group key k entry is = by_slots (gathered p part r group k) is (gathered_few p part r group k)
  where
    by_slots : (slots : List (ℕ × ℕ)) → Some entry ≡ slots_record key slots → length slots ≤ 4
        → (length entry.edits ≤ 4) × ((d : ℕ) → touches entry.edits (Count d) ≡ false)
    by_slots [] none few = absurd cc
    by_slots (s ∷ slots) some few =
        let same : entry.edits ≡ emptied_slots (s ∷ slots) =
        ap (λ (x : JournalRecord). x.edits) (some_same entry (record { key = key; edits = emptied_slots (s ∷ slots) }) some) in
        let long = ap length same ∙ length-map (s ∷ slots) (λ (x : ℕ × ℕ). edit (Slot x.0) 0) in (
          omega (arith, long, few),
          λ d. ap (λ (es : List Edit). touches es (Count d)) same ∙ slots-no-count (s ∷ slots) d,
        )

-- the freed counts so far, with one more or without it
pub counts_more : (part : Packing) (base k block : ℕ) (es : List Edit) (key : ℕ) (entry after : JournalRecord) (e : Edit)
    → entry ≡ record { key = key; edits = es ++ freed (picked (frees part es) base k) } → frees part es block ≡ true → block ≡ base + k
    → e ≡ edit (Count block) 0 → after ≡ record entry { edits = entry.edits ++ e ∷ [] }
    → after ≡ record { key = key; edits = es ++ freed (picked (frees part es) base (suc k)) }
counts_more part base k block es key entry after e is hit block_is e_is after_is =
    let one : frees part es (base + k) ≡ true = ap (frees part es) (sym block_is) ∙ hit in
    let here : e ≡ edit (Count (base + k)) 0 = e_is ∙ ap (λ (n : ℕ). edit (Count n) 0) block_is in
    after_is
    ∙ ap (λ (x : JournalRecord). let y : JournalRecord = record x { edits = x.edits ++ e ∷ [] } in y) is
    ∙ ap (λ (ds : List Edit). let y : JournalRecord = record { key = key; edits = ds } in y)
    (append_assoc es (freed (picked (frees part es) base k)) (e ∷ [])
    ∙ ap (λ (x : Edit). es ++ (freed (picked (frees part es) base k) ++ x ∷ [])) here
    ∙ ap (λ (ds : List Edit). es ++ ds) (sym (freed_yes (frees part es) base k one)))

pub counts_room : (part : Packing) (base k block : ℕ) (es : List Edit) (key : ℕ) (entry : JournalRecord)
    → entry ≡ record { key = key; edits = es ++ freed (picked (frees part es) base k) } → frees part es block ≡ true → block ≡ base + k
    → length es ≤ 4 → ((d : ℕ) → touches es (Count d) ≡ false) → (length entry.edits < 8) × (touches entry.edits (Count block) ≡ false)
counts_room part base k block es key entry is hit block_is few other =
    let one : frees part es (base + k) ≡ true = ap (frees part es) (sym block_is) ∙ hit in
    let edits : entry.edits ≡ es ++ freed (picked (frees part es) base k) = ap (λ (x : JournalRecord). x.edits) is in
    let long = ap length edits ∙ length-append es (freed (picked (frees part es) base k)) in
    let freed_long = length-map (picked (frees part es) base k) (λ (d : ℕ). edit (Count d) 0) in
    let most = picked_few part es base (suc k) in
    let next : length (picked (frees part es) base (suc k)) ≡ length (picked (frees part es) base k) + 1 =
    ap length (picked_yes (frees part es) base k one) ∙ long_push (picked (frees part es) base k) (base + k) in
    let late = picked_late (frees part es) base k block (omega (arith, block_is)) in (
      omega (arith, long, freed_long, most, next, few),
      ap (λ (ds : List Edit). touches ds (Count block)) edits ∙ touches-append es (freed (picked (frees part es) base k)) (Count block)
          ∙ rw (other block, late) refl,
    )

-- groups that are named, from the last one downwards
pub named_begin : (f : ℕ → Bool) (n : ℕ) → [] ≡ filter f (drop n (range_with_len 0 n))
named_begin f n =
    let long = length-range_with_len 0 n in
    ap (λ (rs : List ℕ). filter f rs) (sym (drop_all n (range_with_len 0 n) (omega (arith, long))))

named_next : (n k : ℕ) → k < n → drop k (range_with_len 0 n) ≡ k ∷ drop (k + 1) (range_with_len 0 n)
named_next n k below =
    let long = length-range_with_len 0 n in
    let at : get_or (range_with_len 0 n) k 0 ≡ k = get_or-range_with_len 0 n k 0 below ∙ omega arith in
    drop_more (range_with_len 0 n) k 0 (omega (arith, long, below)) ∙ ap (λ (r : ℕ). r ∷ drop (k + 1) (range_with_len 0 n)) at

pub named_yes : (f : ℕ → Bool) (n k m : ℕ) (groups after : List ℕ) → k + 1 ≡ m → m ≤ n
    → groups ≡ filter f (drop m (range_with_len 0 n)) → f k ≡ true → after ≡ k ∷ groups → after ≡ filter f (drop k (range_with_len 0 n))
named_yes f n k m groups after one within is hit after_is =
    after_is ∙ ap (λ (rs : List ℕ). k ∷ rs) (is ∙ ap (λ (j : ℕ). filter f (drop j (range_with_len 0 n))) (sym one))
    ∙ sym (ap (λ (rs : List ℕ). filter f rs) (named_next n k (omega (arith, one, within))) ∙ rw hit refl)

pub named_no : (f : ℕ → Bool) (n k m : ℕ) (groups : List ℕ) → k + 1 ≡ m → m ≤ n
    → groups ≡ filter f (drop m (range_with_len 0 n)) → f k ≡ false → groups ≡ filter f (drop k (range_with_len 0 n))
named_no f n k m groups one within is miss =
    is ∙ ap (λ (j : ℕ). filter f (drop j (range_with_len 0 n))) (sym one)
    ∙ sym (ap (λ (rs : List ℕ). filter f rs) (named_next n k (omega (arith, one, within))) ∙ rw miss refl)

pub named_room : (f : ℕ → Bool) (n m : ℕ) (groups : List ℕ) → groups ≡ filter f (drop m (range_with_len 0 n)) → 1 ≤ m → m ≤ n → n ≤ 64
    → length groups < 64
named_room f n m groups is some within most =
    let long = length-range_with_len 0 n in
    let dropped = length-drop m (range_with_len 0 n) in
    let kept = length-filter f (drop m (range_with_len 0 n)) in
    let few = count_by-le-length f (drop m (range_with_len 0 n)) in
    let all = ap length is in
    omega (arith, long, dropped, kept, few, all, some, within, most)

-- behind the last entry of a table
pub at_end : (P : ℕ → Type 0) (n : ℕ) → 1008 ≤ n → n ≤ 1008 → P n → P per_table
unfolding per_table
at_end P n low high is = let last : n ≡ 1008 = omega (arith, low, high) in subst P last is

-- where a row of a table begins
pub row_is : (r from at : ℕ) → from ≡ r → 1008 * from + at ≡ per_table * r + at
unfolding per_table
row_is r from at is = omega (arith, is)

drop_get : (es : List Edit) (k : ℕ) (e : Edit) → slice_get es k ≡ Some e → drop k es ≡ e ∷ drop (suc k) es
drop_get [] k e is = absurd cc
drop_get (x ∷ es) zero e is = let same : x ≡ e = cc in ap (λ (y : Edit). y ∷ es) same
drop_get (x ∷ es) (suc k) e is = drop_get es k e is

-- an edit that does not name the data block
pub frees_not : (part : Packing) (es : List Edit) (k m d n : ℕ) (e : Edit) (found : Bool) → k + 1 ≡ m → slice_get es k ≡ Some e
    → n ≡ number_in part e.field → n ≢ d + 1 → found ≡ frees part (drop m es) d → found ≡ frees part (drop k es) d
frees_not part es k m d n e found one at number other is =
    let next : suc k ≡ m = omega (arith, one) in
    let none : (number_in part e.field == d + 1) ≡ false = elim (cases_Bool (number_in part e.field == d + 1)) [
      | inl hit ↦ absurd (other (number ∙ eqb-true (number_in part e.field) (d + 1) hit))
      | inr miss ↦ miss
    ] in
    is ∙ ap (λ (j : ℕ). frees part (drop j es) d) (sym next)
    ∙ sym (ap (λ (xs : List Edit). frees part xs d) (drop_get es k e at) ∙ rw none refl)

-- and one more entry of the part that is not spent
pub record_same : (p : ℕ) (part : Packing) (r : ℕ) (group : Packing) (key k m : ℕ) (o : Option JournalRecord) → k + 1 ≡ m
    → o ≡ slots_record key (gathered p part r group k) → is_spent (entry_at part k) r group ≡ false
    → o ≡ slots_record key (gathered p part r group m)
record_same p part r group key k m o one is miss =
    let next : suc k ≡ m = omega (arith, one) in
    is ∙ ap (slots_record key) (sym (gathered_no p part r group k miss))
    ∙ ap (λ (j : ℕ). slots_record key (gathered p part r group j)) next

pub record_next : (p : ℕ) (part : Packing) (r : ℕ) (group : Packing) (key k m : ℕ) (o after : Option JournalRecord) (slot : ℕ) → k + 1 ≡ m
    → o ≡ slots_record key (gathered p part r group k) → is_spent (entry_at part k) r group ≡ true → slot ≡ per_table * p + k
    → after ≡ slot_added o key slot → after ≡ slots_record key (gathered p part r group m)
record_next p part r group key k m o after slot one is hit slot_is after_is =
    let next : suc k ≡ m = omega (arith, one) in
    record_kept p part r group key k o after slot is hit slot_is after_is
    ∙ ap (λ (j : ℕ). slots_record key (gathered p part r group j)) next

-- the number at an entry, as it is read
pub index_got : (xs : List ℕ) (k n : ℕ) → slice_get xs k ≡ Some n → slice_index xs k ≡ n
index_got [] k n is = absurd cc
index_got (x ∷ xs) zero n is = some_same x n is
index_got (x ∷ xs) (suc k) n is = index_got xs k n is
