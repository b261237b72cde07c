-- The tables of a collection's record, in the order of its edits: that of the part, and that of the group.
use Rattle.std.proofs.Common.{◌≡◌, ◌≢◌, ◌/◌, ◌||◌, ◌∷◌, ◌++◌, ℕ, Bool, true, false, List, [], refl, ap, ◌∙◌}
use Rattle.std.specs.Prelude.{All}
use Rattle.std.proofs.lemmas.Bool.{eq-eqb}
use Rattle.std.proofs.lemmas.List.Elements.{All-head, All-tail}
use Rattle.vol_layout.specs.declared.field.Edit.{Edit}
use Rattle.vol_layout.specs.declared.field.Field.TheVariants.{Count}
use Rattle.vol_layout.specs.declared.kind.Table.{Table}
use Rattle.vol_layout.specs.declared.kind.Table.TheVariants.{Group, Part}
use Rattle.vol_layout.specs.Edits.{same_field, touches}
use Rattle.vol_layout.specs.Ranges.{per_table}
use Rattle.vol_layout.specs.laws.EditLaws.{same_field-refl}
use Rattle.image_view.specs.laws.BalanceLaws.{emptied_slots}
use Rattle.call_effects.specs.Collections.{collected, freed}
use Rattle.plan_parts.specs.TableOrder.{tables_else, tables_of}

own_group : (r : ℕ) → tables_else (Group r) (Group r ∷ []) ≡ []
own_group r = let own = eq-eqb r r refl in rw own refl

own_part : (p r : ℕ) → tables_else (Part p) (Part p ∷ Group r ∷ []) ≡ Group r ∷ []
own_part p r = let own = eq-eqb p p refl in rw own refl

or_last : (a b : Bool) → b ≡ true → (a || b) ≡ true
or_last true b is = refl
or_last false b is = is

-- counts of one group
freed_tables : (r d : ℕ) (ds : List ℕ) → ((e : ℕ) → touches (freed (d ∷ ds)) (Count e) ≡ true → e / per_table ≡ r)
    → tables_of (freed (d ∷ ds)) ≡ Group r ∷ []
freed_tables r d [] all =
    let own = same_field-refl (Count d) in
    ap (λ (n : ℕ). Group n ∷ []) (all d (rw own refl))
freed_tables r d (e ∷ ds) all =
    let own = same_field-refl (Count d) in
    let here : d / per_table ≡ r = all d (rw own refl) in
    let more = freed_tables r e ds (λ k touched. all k (or_last (same_field (Count d) (Count k)) (touches (freed (e ∷ ds)) (Count k)) touched)) in
    ap (λ (ts : List Table). Group (d / per_table) ∷ tables_else (Group (d / per_table)) ts) more
    ∙ ap (λ (n : ℕ). Group n ∷ tables_else (Group n) (Group r ∷ [])) here
    ∙ ap (λ (ts : List Table). Group r ∷ ts) (own_group r)

-- behind slots of one part
slot_tables : (p r : ℕ) (s : ℕ × ℕ) (ss : List (ℕ × ℕ)) (more : List Edit) → All (λ (x : ℕ × ℕ). x.0 / per_table ≡ p) (s ∷ ss)
    → tables_of more ≡ Group r ∷ [] → tables_of (emptied_slots (s ∷ ss) ++ more) ≡ Part p ∷ Group r ∷ []
slot_tables p r s [] more all is =
    let here : s.0 / per_table ≡ p = All-head (λ (x : ℕ × ℕ). x.0 / per_table ≡ p) s [] all in
    ap (λ (ts : List Table). Part (s.0 / per_table) ∷ tables_else (Part (s.0 / per_table)) ts) is
    ∙ ap (λ (n : ℕ). Part n ∷ Group r ∷ []) here
slot_tables p r s (q ∷ ss) more all is =
    let here : s.0 / per_table ≡ p = All-head (λ (x : ℕ × ℕ). x.0 / per_table ≡ p) s (q ∷ ss) all in
    let rest = slot_tables p r q ss more (All-tail (λ (x : ℕ × ℕ). x.0 / per_table ≡ p) s (q ∷ ss) all) is in
    ap (λ (ts : List Table). Part (s.0 / per_table) ∷ tables_else (Part (s.0 / per_table)) ts) rest
    ∙ ap (λ (n : ℕ). Part n ∷ tables_else (Part n) (Part p ∷ Group r ∷ [])) here
    ∙ ap (λ (ts : List Table). Part p ∷ ts) (own_part p r)

-- a record that empties slots and frees counts
pub collected_tables : (p r : ℕ) (slots : List (ℕ × ℕ)) (numbers : List ℕ) → slots ≢ [] → numbers ≢ []
    → All (λ (x : ℕ × ℕ). x.0 / per_table ≡ p) slots
    → ((d : ℕ) → touches (freed numbers) (Count d) ≡ true → d / per_table ≡ r)
    → tables_of (collected slots numbers) ≡ Part p ∷ Group r ∷ []
collected_tables p r [] numbers some more all in_group = absurd (some refl)
collected_tables p r (s ∷ ss) [] some more all in_group = absurd (more refl)
collected_tables p r (s ∷ ss) (d ∷ ds) some more all in_group =
    slot_tables p r s ss (freed (d ∷ ds)) all (freed_tables r d ds in_group)
