-- The record of a collection is right, and all files stay by it.
use Rattle.std.proofs.Common.{◌≡◌, ◌≢◌, ◌<◌, ◌+◌, ◌^◌, ℕ, Bool, false, true, ◌||◌, List, [], ◌∷◌, None, Some, refl, sym, ap, ◌∙◌, subst, inl, inr, arith, if◌then◌else◌}
use Rattle.std.specs.Prelude.{All}
use Rattle.std.proofs.lemmas.Bool.{cases_Bool, eq-eqb, or_parts}
use Rattle.std.proofs.lemmas.List.{length-append, length-map}
use Rattle.std.proofs.lemmas.List.Elements.{All-cons, All-head, All-tail}
use Rattle.vol_layout.specs.declared.geometry.Geometry.{Geometry}
use Rattle.vol_layout.specs.declared.field.Field.{Field}
use Rattle.vol_layout.specs.declared.field.Field.TheVariants.{Count, Slot}
use Rattle.vol_layout.specs.declared.field.Edit.{Edit}
use Rattle.vol_layout.specs.Edits.{AreApart, IsEdit, edited, same_field, touches}
use Rattle.vol_layout.specs.laws.EditLaws.{other_field, other_field-is, same_field-is, same_field-refl, touches-append}
use Rattle.image_view.specs.Balances.{Balances, edit, lost, share_of}
use Rattle.image_view.specs.Held.{HoldsField}
use Rattle.image_view.specs.Images.{Image}
use Rattle.image_view.specs.Numbers.{field, logical}
use Rattle.image_view.specs.Pointers.{named}
use Rattle.image_view.specs.Records.{IsRecord}
use Rattle.image_view.specs.Valid.{IsValid}
use Rattle.image_view.specs.laws.BalanceLaws.{AreCounts, Collects, balances-parts, collect-follows, emptied_slots, freed_counts, share_named, share_none, slots-no-count}
use Rattle.call_effects.specs.Changes.{Changes}
use Rattle.call_effects.specs.Collections.{IsCollectable, IsSpent, collected, freed}
use Rattle.call_effects.specs.Places.{KeepsFiles}
use Rattle.call_effects.specs.Shares.{CountsSlot, LeavesShown, MayName}
use Rattle.call_effects.specs.laws.CountLaws.{apart-append}
use Rattle.call_effects.specs.laws.EachEdit.{all-append, all-none}
use Rattle.call_effects.specs.laws.MarkLaws.{two-uses}
use Rattle.call_effects.specs.laws.PointerLaws.{fresh-unmarked, named-unmarked}
use Rattle.call_effects.specs.laws.RecordLaws.{record-of}
use Rattle.call_effects.specs.laws.StayLaws.{stays-edited}

-- the freed counts are edits of counts
freed_counts_are : (numbers : List ℕ) → AreCounts (freed numbers)
freed_counts_are [] = tt
freed_counts_are (d ∷ numbers) = (tt, freed_counts_are numbers)

-- edits that give 0 alone: what a field becomes is told by whether they touch it
abbrev AreZero : List Edit → Type 0
AreZero es = All (λ e. e.number ≡ 0) es

zero_edited : (es : List Edit) (x : Field) (n : ℕ) → AreZero es → edited es x n ≡ (if touches es x then 0 else n)
zero_edited [] x n zeros = refl
zero_edited (e ∷ es) x n zeros =
    elim (cases_Bool (same_field e.field x)) [
      | inl here ↦ rw here (All-head (λ (e : Edit). e.number ≡ 0) e es zeros)
      | inr other ↦ rw other (zero_edited es x n (All-tail (λ (e : Edit). e.number ≡ 0) e es zeros))
    ]

freed_zero : (numbers : List ℕ) → AreZero (freed numbers)
freed_zero [] = all-none (λ (e : Edit). e.number ≡ 0)
freed_zero (d ∷ numbers) = All-cons (λ (e : Edit). e.number ≡ 0) (edit (Count d) 0) (freed numbers) refl (freed_zero numbers)

freed_counts_zero : (slots : List (ℕ × ℕ)) → AreZero (freed_counts slots)
freed_counts_zero [] = all-none (λ (e : Edit). e.number ≡ 0)
freed_counts_zero (p ∷ slots) = All-cons (λ (e : Edit). e.number ≡ 0) (edit (Count p.1) 0) (freed_counts slots) refl (freed_counts_zero slots)

-- a slot that is spent names its data block
spent_names : (g : Geometry) (counter : ℕ) (image : Image) (key : ℕ) (p : ℕ × ℕ) → IsValid g counter image → IsSpent g image key p
    → named (logical g image (Slot p.0)) ≡ Some p.1
spent_names g counter image key p valid is =
    let un = fresh-unmarked g p.1 valid.geometry.0 is.count.0 in
    named-unmarked (logical g image (Slot p.0)) p.1 is.names (let e = is.names in subst (λ (n : ℕ). (0 < n) × (n < 2 ^ 31)) (sym e) un)

-- two slots that are spent do not name one data block
apart_numbers : (g : Geometry) (counter : ℕ) (image : Image) (key : ℕ) (p : ℕ × ℕ) (slots : List (ℕ × ℕ)) → IsValid g counter image
    → IsSpent g image key p → All (IsSpent g image key) slots → touches (emptied_slots slots) (Slot p.0) ≡ false
    → touches (freed_counts slots) (Count p.1) ≡ false
apart_numbers g counter image key p [] valid is all apart = refl
apart_numbers g counter image key p (q ∷ slots) valid is all apart =
    let parts = or_parts (same_field (Slot q.0) (Slot p.0)) (touches (emptied_slots slots) (Slot p.0)) apart in
    let that = All-head (IsSpent g image key) q slots all in
    let other : q.1 ≢ p.1 =
    λ same. absurd (
    let both = two-uses g image (Slot p.0) (Slot q.0) p.1 is.held.0 that.held.0 (other_field (Slot q.0) (Slot p.0) parts.0) in
    let here = eq-eqb p.1 p.1 refl in
    let mine : share_of (Slot p.0) (logical g image (Slot p.0)) p.1 ≡ 1 = share_named (logical g image (Slot p.0)) p.1 p.1 (spent_names g counter image key p valid is) ∙ rw here refl in
    let theirs : share_of (Slot q.0) (logical g image (Slot q.0)) p.1 ≡ 1 = share_named (logical g image (Slot q.0)) q.1 p.1 (spent_names g counter image key q valid that) ∙ (let e = eq-eqb q.1 p.1 same in rw e refl) in
    let count = valid.counted.counts p.1 is.count.0 in
    let once = is.once in
    omega (arith, both, mine, theirs, count, once)
    ) in
    rw (other_field-is (Count q.1) (Count p.1) (λ e. other cc))
    (apart_numbers g counter image key p slots valid is (All-tail (IsSpent g image key) q slots all) parts.1)

collects : (g : Geometry) (counter : ℕ) (image : Image) (key : ℕ) (slots : List (ℕ × ℕ)) → IsValid g counter image
    → All (IsSpent g image key) slots → AreApart (emptied_slots slots) → Collects (λ x. logical g image x) slots
collects g counter image key [] valid all apart = tt
collects g counter image key (p ∷ slots) valid all apart =
    let is = All-head (IsSpent g image key) p slots all in
    let rest = All-tail (IsSpent g image key) p slots all in
    (spent_names g counter image key p valid is, is.once, apart_numbers g counter image key p slots valid is rest apart.0, collects g counter image key slots valid rest apart.1)

-- what holds of each emptied slot
slots_both : (P : Edit → Type 0) (Q R : ℕ × ℕ → Type 0) (slots : List (ℕ × ℕ)) → ((p : ℕ × ℕ) → Q p → R p → P (edit (Slot p.0) 0))
    → All Q slots → All R slots → All P (emptied_slots slots)
slots_both P Q R [] give qs rs = all-none P
slots_both P Q R (p ∷ slots) give qs rs =
    All-cons P (edit (Slot p.0) 0) (emptied_slots slots) (give p (All-head Q p slots qs) (All-head R p slots rs)) (slots_both P Q R slots give (All-tail Q p slots qs) (All-tail R p slots rs))

slots_all : (P : Edit → Type 0) (Q : ℕ × ℕ → Type 0) (slots : List (ℕ × ℕ)) → ((p : ℕ × ℕ) → Q p → P (edit (Slot p.0) 0)) → All Q slots
    → All P (emptied_slots slots)
slots_all P Q slots give all = slots_both P Q Q slots (λ p q r. give p q) all all

-- either of two
or_true : {b : Bool} (a : Bool) → b ≡ true → (a || b) ≡ true
or_true true is = refl
or_true false is = is

-- what holds of each freed count
freed_all : (P : Edit → Type 0) (numbers : List ℕ) → ((d : ℕ) → touches (freed numbers) (Count d) ≡ true → P (edit (Count d) 0))
    → All P (freed numbers)
freed_all P [] give = all-none P
freed_all P (d ∷ numbers) give =
    let here = same_field-refl (Count d) in
    All-cons P (edit (Count d) 0) (freed numbers) (give d (rw here refl))
    (freed_all P numbers (λ k touched. give k (or_true (same_field (Count d) (Count k)) touched)))

-- each slot's count is freed
members : (all slots : List (ℕ × ℕ))
    → ((d : ℕ) → touches (freed_counts slots) (Count d) ≡ true → touches (freed_counts all) (Count d) ≡ true)
    → All (λ p. touches (freed_counts all) (Count p.1) ≡ true) slots
members all [] within = all-none (λ (p : ℕ × ℕ). touches (freed_counts all) (Count p.1) ≡ true)
members all (p ∷ slots) within =
    let here = same_field-refl (Count p.1) in
    All-cons (λ (p : ℕ × ℕ). touches (freed_counts all) (Count p.1) ≡ true) p slots (within p.1 (rw here refl))
    (members all slots (λ d touched. within d (or_true (same_field (Count p.1) (Count d)) touched)))

-- and a freed count is that of a slot
held_count : (g : Geometry) (image : Image) (key : ℕ) (slots : List (ℕ × ℕ)) (d : ℕ) → All (IsSpent g image key) slots
    → touches (freed_counts slots) (Count d) ≡ true → HoldsField g image key (Count d)
held_count g image key [] d all touched = absurd cc
held_count g image key (p ∷ slots) d all touched =
    elim (cases_Bool (same_field (Count p.1) (Count d))) [
      | inl here ↦ subst (HoldsField g image key) (same_field-is (Count p.1) (Count d) here) (All-head (IsSpent g image key) p slots all).count
      | inr other ↦ held_count g image key slots d (All-tail (IsSpent g image key) p slots all) (rw other at touched)
    ]

balanced : (g : Geometry) (counter : ℕ) (image : Image) (key : ℕ) (slots : List (ℕ × ℕ)) (numbers : List ℕ) → IsValid g counter image
    → IsCollectable g image key slots numbers → Balances g (λ x. logical g image x) (collected slots numbers)
balanced g counter image key slots numbers valid is =
    let values = λ (x : Field). logical g image x in
    balances-parts g values (emptied_slots slots) (freed numbers) (slots-no-count slots) (freed_counts_are numbers)
    (λ e has.
    let same : edited (freed numbers) (Count e) (values (Count e)) ≡ edited (freed_counts slots) (Count e) (values (Count e)) =
    zero_edited (freed numbers) (Count e) (values (Count e)) (freed_zero numbers)
    ∙ ap (λ (b : Bool). if b then 0 else values (Count e)) (is.same e)
    ∙ sym (zero_edited (freed_counts slots) (Count e) (values (Count e)) (freed_counts_zero slots)) in
    ap (λ (k : ℕ). k + lost values (emptied_slots slots) e) same ∙ collect-follows values slots e (collects g counter image key slots valid is.spent is.slots_apart))

-- an emptied slot counts its data block
counts_slot : (g : Geometry) (image : Image) (key : ℕ) (slots : List (ℕ × ℕ)) (numbers : List ℕ) (p : ℕ × ℕ)
    → IsCollectable g image key slots numbers → IsSpent g image key p → touches (freed_counts slots) (Count p.1) ≡ true
    → CountsSlot g image (collected slots numbers) (edit (Slot p.0) 0)
counts_slot g image key slots numbers p is spent counted s d same names =
    let here : p.0 ≡ s = cc in
    elim names [
      | inl before ↦
          let table : field g image (Slot p.0) ≡ d + 1 = ap (λ (n : ℕ). field g image (Slot n)) here ∙ before in
          let number : p.1 ≡ d = omega (arith, table, spent.table) in
          touches-append (emptied_slots slots) (freed numbers) (Count d)
          ∙ (let none = slots-no-count slots d in let some : touches (freed numbers) (Count d) ≡ true = is.same d ∙ ap (λ (n : ℕ). touches (freed_counts slots) (Count n)) (sym number) ∙ counted in rw (none, some) refl)
      | inr after ↦ absurd (omega (arith, after))
    ]

pub record-collect : (g : Geometry) (counter : ℕ) (image : Image) (key : ℕ) (slots : List (ℕ × ℕ)) (numbers : List ℕ)
    → IsValid g counter image → IsCollectable g image key slots numbers → IsRecord g image key (collected slots numbers)
record-collect g counter image key slots numbers valid is =
    let es = collected slots numbers in
    let emptied = emptied_slots slots in
    let counts = freed numbers in
    let Holds = λ (e : Edit). HoldsField g image key e.field in
    let held = λ (d : ℕ) (touched : touches (freed numbers) (Count d) ≡ true). held_count g image key slots d is.spent (sym (is.same d) ∙ touched) in
    let long = length-append emptied counts in
    let slots_long = length-map slots (λ (p : ℕ × ℕ). edit (Slot p.0) 0) in
    let counts_long = length-map numbers (λ (d : ℕ). edit (Count d) 0) in
    record-of g image key es valid.counted
    (record {
      few = omega (arith, long, slots_long, counts_long, is.few, is.as_many);
      each = all-append (IsEdit g) emptied counts
          (slots_all (IsEdit g) (IsSpent g image key) slots (λ p spent. (spent.held.0, omega arith)) is.spent)
          (freed_all (IsEdit g) numbers (λ d touched. ((held d touched).0, omega arith)));
      apart = apart-append emptied counts is.slots_apart (slots-no-count slots) (freed_counts_are numbers) is.numbers_apart;
    })
    (all-append Holds emptied counts (slots_all Holds (IsSpent g image key) slots (λ p spent. spent.held) is.spent) (freed_all Holds numbers held))
    (balanced g counter image key slots numbers valid is)
    (all-append (MayName g image es) emptied counts
    (slots_all (MayName g image es) (IsSpent g image key) slots (λ p spent k some. absurd (some (share_none 0 k refl))) is.spent)
    (freed_all (MayName g image es) numbers (λ d touched k some. absurd (some refl))))
    (all-append (CountsSlot g image es) emptied counts
    (slots_both (CountsSlot g image es) (IsSpent g image key) (λ p. touches (freed_counts slots) (Count p.1) ≡ true) slots
    (λ p spent counted. counts_slot g image key slots numbers p is spent counted) is.spent (members slots slots (λ d touched. touched)))
    (freed_all (CountsSlot g image es) numbers (λ d touched s k same names. absurd cc)))

-- no file shows a slot or a count
pub stays-collect : (g : Geometry) (counter : ℕ) (old new : Image) (key : ℕ) (slots : List (ℕ × ℕ)) (numbers : List ℕ)
    → IsValid g counter old → IsCollectable g old key slots numbers → Changes g (collected slots numbers) None old new → KeepsFiles old new
stays-collect g counter old new key slots numbers valid is step =
    let Leaves = λ (e : Edit). LeavesShown g old e.field e.number in
    stays-edited g counter (collected slots numbers) old new valid (record-collect g counter old key slots numbers valid is).edits.each
    (all-append Leaves (emptied_slots slots) (freed numbers) (slots_all Leaves (IsSpent g old key) slots (λ p spent. tt) is.spent) (freed_all Leaves numbers (λ d touched. tt))) step
