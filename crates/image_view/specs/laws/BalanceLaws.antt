-- The records that hosts write balance.
use Rattle.std.proofs.Common.{◌≡◌, ◌≢◌, ◌≤◌, ◌+◌, ◌-◌, ◌==◌, ℕ, false, List, [], ◌∷◌, ◌++◌, map, sum_by, Some, None, if◌then◌else◌, refl, sym, ap, ◌∙◌, inl, inr, arith}
use Rattle.std.specs.Option.{option_map_or}
use Rattle.std.proofs.Math.Bool.{and-true}
use Rattle.std.proofs.lemmas.Bool.{cases_eq, eq-eqb, ne_eqb}
use Rattle.std.proofs.lemmas.List.Sums.{sum_by-cons, sum_by-append}
use Rattle.vol_layout.specs.declared.geometry.Geometry.{Geometry}
use Rattle.vol_layout.specs.declared.field.Field.{Field}
use Rattle.vol_layout.specs.declared.field.Field.TheVariants.{Head, Pointer, Slot, Count}
use Rattle.vol_layout.specs.declared.field.Edit.{Edit}
use Rattle.vol_layout.specs.Edits.{edited, same_field, touches}
use Rattle.vol_layout.specs.Fields.{HasField}
use Rattle.image_view.specs.Pointers.{named}
use Rattle.image_view.specs.Balances.{Balances, edit, gained, lost, share, share_of}
use Rattle.vol_layout.specs.laws.EditLaws.{other_field-is}
use Rattle.image_view.specs.laws.EditLaws.{edited-append, edited_untouched}

-- all edits are of counts
abbrev pub IsCountEdit : Field → Type 0
IsCountEdit (Count d) = Unit {0}
IsCountEdit (Head f) = ⊥
IsCountEdit (Pointer f i) = ⊥
IsCountEdit (Slot s) = ⊥

abbrev pub AreCounts : List Edit → Type 0
AreCounts [] = Unit {0}
AreCounts (e ∷ es) = IsCountEdit e.field × AreCounts es

-- no edit is of a count
abbrev pub HaveNoCount : List Edit → Type 0
HaveNoCount es = (d : ℕ) → touches es (Count d) ≡ false

count_names_none : (x : Field) (n d : ℕ) → IsCountEdit x → share_of x n d ≡ 0
count_names_none (Count c) n d is = refl
count_names_none (Head f) n d is = absurd is
count_names_none (Pointer f i) n d is = absurd is
count_names_none (Slot s) n d is = absurd is

pub lost-counts : (numbers : Field → ℕ) (es : List Edit) (d : ℕ) → AreCounts es → lost numbers es d ≡ 0
lost-counts numbers [] d are = refl
lost-counts numbers (e ∷ es) d are = rw (sum_by-cons (λ e. share_of e.field (numbers e.field) d) e es, count_names_none e.field (numbers e.field) d are.0, lost-counts numbers es d are.1) refl

pub gained-counts : (es : List Edit) (d : ℕ) → AreCounts es → gained es d ≡ 0
gained-counts [] d are = refl
gained-counts (e ∷ es) d are = rw (sum_by-cons (λ e. share_of e.field e.number d) e es, count_names_none e.field e.number d are.0, gained-counts es d are.1) refl

-- pointers and slots first, and then counts that follow them, balance
pub balances-parts : (g : Geometry) (numbers : Field → ℕ) (references counts : List Edit) → HaveNoCount references → AreCounts counts
    → ((d : ℕ) → HasField g (Count d) → edited counts (Count d) (numbers (Count d)) + lost numbers references d ≡ numbers (Count d) + gained references d)
    → Balances g numbers (references ++ counts)
balances-parts g numbers references counts none are follow d has =
    let after : edited (references ++ counts) (Count d) (numbers (Count d)) ≡ edited counts (Count d) (numbers (Count d)) =
    edited-append references counts (Count d) (numbers (Count d)) ∙ edited_untouched references (Count d) (edited counts (Count d) (numbers (Count d))) (none d) in
    let l = sum_by-append (λ e. share_of e.field (numbers e.field) d) references counts in
    let s = sum_by-append (λ e. share_of e.field e.number d) references counts in
    let l0 = lost-counts numbers counts d are in
    let s0 = gained-counts counts d are in
    let is = follow d has in
    omega arith

-- 1 where two data numbers are one, and else 0
abbrev pub one : ℕ → ℕ → ℕ
one d e = if d == e then 1 else 0

pub share_named : (n d e : ℕ) → named n ≡ Some d → share n e ≡ one d e
unfolding share
share_named n d e is = ap (λ o. option_map_or (λ d. if d == e then 1 else 0) o 0) is

pub share_none : (n e : ℕ) → named n ≡ None → share n e ≡ 0
unfolding share
share_none n e is = ap (λ o. option_map_or (λ d. if d == e then 1 else 0) o 0) is

-- what edits of counts leave, the first one first
pub edited-count : (d c : ℕ) (es : List Edit) (e m : ℕ)
    → edited (edit (Count d) c ∷ es) (Count e) m ≡ (if d == e then c else edited es (Count e) m)
unfolding same_field
edited-count d c es e m = ap (λ b. if b then c else edited es (Count e) m) (and-true (d == e))

-- one count that rises by one, one that falls by one, and both in either order
raise : (numbers : Field → ℕ) (d e : ℕ)
    → edited (edit (Count d) (numbers (Count d) + 1) ∷ []) (Count e) (numbers (Count e)) ≡ numbers (Count e) + one d e
raise numbers d e =
    rw (edited-count d (numbers (Count d) + 1) [] e (numbers (Count e)))
    (elim (cases_eq d e) [
      | inl here ↦ rw (eq-eqb d e here, here) refl
      | inr other ↦ rw (ne_eqb d e other) (omega arith)
    ])

lower : (numbers : Field → ℕ) (d e : ℕ) → 1 ≤ numbers (Count d)
    → edited (edit (Count d) (numbers (Count d) - 1) ∷ []) (Count e) (numbers (Count e)) + one d e ≡ numbers (Count e)
lower numbers d e some =
    rw (edited-count d (numbers (Count d) - 1) [] e (numbers (Count e)))
    (elim (cases_eq d e) [
      | inl here ↦ rw (eq-eqb d e here, here) (let some' : 1 ≤ numbers (Count e) = rw (sym here) some in omega arith)
      | inr other ↦ rw (ne_eqb d e other) (omega arith)
    ])

-- the counts of a data number that is left for another one, in either order
abbrev pub Moves : (Field → ℕ) → ℕ → ℕ → List Edit → Type 0
Moves numbers from to counts =
    AreCounts counts
    × ((e : ℕ) → edited counts (Count e) (numbers (Count e)) + one from e ≡ numbers (Count e) + one to e)

pub lower_raise : (numbers : Field → ℕ) (from to : ℕ) → from ≢ to → 1 ≤ numbers (Count from)
    → Moves numbers from to (edit (Count from) (numbers (Count from) - 1) ∷ edit (Count to) (numbers (Count to) + 1) ∷ [])
lower_raise numbers from to ne some = (
  (tt, (tt, tt)),
  λ e.
      rw (edited-count from (numbers (Count from) - 1) (edit (Count to) (numbers (Count to) + 1) ∷ []) e (numbers (Count e)), raise numbers to e)
      (elim (cases_eq from e) [
        | inl here ↦ rw (eq-eqb from e here, ne_eqb to e (λ h. ne (here ∙ sym h))) (let some' : 1 ≤ numbers (Count e) = rw (sym here) some in rw here (omega arith))
        | inr other ↦ rw (ne_eqb from e other) (omega arith)
      ]),
)

pub raise_lower : (numbers : Field → ℕ) (from to : ℕ) → from ≢ to → 1 ≤ numbers (Count from)
    → Moves numbers from to (edit (Count to) (numbers (Count to) + 1) ∷ edit (Count from) (numbers (Count from) - 1) ∷ [])
raise_lower numbers from to ne some = (
  (tt, (tt, tt)),
  λ e.
      let less = lower numbers from e some in
      rw (edited-count to (numbers (Count to) + 1) (edit (Count from) (numbers (Count from) - 1) ∷ []) e (numbers (Count e)))
      (elim (cases_eq to e) [
        | inl here ↦ rw (eq-eqb to e here, ne_eqb from e (λ h. ne (h ∙ sym here)), here) (omega arith)
        | inr other ↦ rw (ne_eqb to e other) (omega (arith, less))
      ]),
)

-- create, remove and size: a head alone
pub balances-head : (g : Geometry) (numbers : Field → ℕ) (f n : ℕ) → Balances g numbers (edit (Head f) n ∷ [])
balances-head g numbers f n = balances-parts g numbers (edit (Head f) n ∷ []) [] (λ d. rw (other_field-is (Head f) (Count d) (λ e. cc)) refl) tt (λ d has. refl)

one_pointer : (f i n : ℕ) → HaveNoCount (edit (Pointer f i) n ∷ [])
one_pointer f i n d = rw (other_field-is (Pointer f i) (Count d) (λ e. cc)) refl

-- a write to a hole: the pointer comes to name a data number, whose count rises
pub balances-fill : (g : Geometry) (numbers : Field → ℕ) (f i n d : ℕ) → named (numbers (Pointer f i)) ≡ None → named n ≡ Some d
    → Balances g numbers (edit (Pointer f i) n ∷ edit (Count d) (numbers (Count d) + 1) ∷ [])
balances-fill g numbers f i n d hole to =
    balances-parts g numbers (edit (Pointer f i) n ∷ []) (edit (Count d) (numbers (Count d) + 1) ∷ []) (one_pointer f i n) (tt, tt)
    (λ e has. rw (share_none (numbers (Pointer f i)) e hole, share_named n d e to, raise numbers d e) (omega arith))

-- a punch: the pointer comes to name nothing, and the count of its data number falls
pub balances-drop : (g : Geometry) (numbers : Field → ℕ) (f i n d : ℕ) → named (numbers (Pointer f i)) ≡ Some d → named n ≡ None
    → 1 ≤ numbers (Count d)
    → Balances g numbers (edit (Pointer f i) n ∷ edit (Count d) (numbers (Count d) - 1) ∷ [])
balances-drop g numbers f i n d was none some =
    balances-parts g numbers (edit (Pointer f i) n ∷ []) (edit (Count d) (numbers (Count d) - 1) ∷ []) (one_pointer f i n) (tt, tt)
    (λ e has. let less = lower numbers d e some in rw (share_named (numbers (Pointer f i)) d e was, share_none n e none) (omega (arith, less)))

-- a write to a shared block, and a link to a slot: the pointer comes to name another data number
pub balances-move : (g : Geometry) (numbers : Field → ℕ) (f i n from to : ℕ) (counts : List Edit)
    → named (numbers (Pointer f i)) ≡ Some from → named n ≡ Some to → Moves numbers from to counts
    → Balances g numbers (edit (Pointer f i) n ∷ counts)
balances-move g numbers f i n from to counts was is moves =
    balances-parts g numbers (edit (Pointer f i) n ∷ []) counts (one_pointer f i n) moves.0
    (λ e has. let m = moves.1 e in rw (share_named (numbers (Pointer f i)) from e was, share_named n to e is) (omega (arith, m)))

-- a link to a file's block: the pointer comes to name the source's data number, and the source gets the mark
pub balances-link : (g : Geometry) (numbers : Field → ℕ) (f i n f' i' n' from to : ℕ) (counts : List Edit)
    → named (numbers (Pointer f i)) ≡ Some from → named n ≡ Some to → named (numbers (Pointer f' i')) ≡ Some to → named n' ≡ Some to
    → Moves numbers from to counts
    → Balances g numbers (edit (Pointer f i) n ∷ edit (Pointer f' i') n' ∷ counts)
balances-link g numbers f i n f' i' n' from to counts was is was' is' moves =
    balances-parts g numbers (edit (Pointer f i) n ∷ edit (Pointer f' i') n' ∷ []) counts
    (λ d. rw (other_field-is (Pointer f i) (Count d) (λ e. cc), other_field-is (Pointer f' i') (Count d) (λ e. cc)) refl) moves.0
    (λ e has. let m = moves.1 e in rw (share_named (numbers (Pointer f i)) from e was, share_named n to e is, share_named (numbers (Pointer f' i')) to e was', share_named n' to e is') (omega (arith, m)))

-- a promotion: an empty slot comes to name a pointer's data number, the pointer gets the mark, and the count rises
pub balances-promote : (g : Geometry) (numbers : Field → ℕ) (s n f i n' d : ℕ) → named (numbers (Slot s)) ≡ None → named n ≡ Some d
    → named (numbers (Pointer f i)) ≡ Some d → named n' ≡ Some d
    → Balances g numbers (edit (Slot s) n ∷ edit (Pointer f i) n' ∷ edit (Count d) (numbers (Count d) + 1) ∷ [])
balances-promote g numbers s n f i n' d none is was is' =
    balances-parts g numbers (edit (Slot s) n ∷ edit (Pointer f i) n' ∷ []) (edit (Count d) (numbers (Count d) + 1) ∷ [])
    (λ e. rw (other_field-is (Slot s) (Count e) (λ h. cc), other_field-is (Pointer f i) (Count e) (λ h. cc)) refl) (tt, tt)
    (λ e has. rw (share_none (numbers (Slot s)) e none, share_named n d e is, share_named (numbers (Pointer f i)) d e was, share_named n' d e is', raise numbers d e) (omega arith))

-- emptied pointers and slots give nothing, and take what they named
gained-emptied : (xs : List Field) (d : ℕ) → gained (map (λ x. edit x 0) xs) d ≡ 0
gained-emptied [] d = refl
gained-emptied (x ∷ xs) d = rw (sum_by-cons (λ e. share_of e.field e.number d) (edit x 0) (map (λ x. edit x 0) xs), gained-emptied xs d) (empty x d ∙ refl)
  where
    empty : (x : Field) (d : ℕ) → share_of x 0 d + 0 ≡ 0
    empty (Head f) d = refl
    empty (Count c) d = refl
    empty (Pointer f i) d = rw (share_none 0 d refl) refl
    empty (Slot s) d = rw (share_none 0 d refl) refl

lost-emptied : (numbers : Field → ℕ) (xs : List Field) (d : ℕ)
    → lost numbers (map (λ x. edit x 0) xs) d ≡ sum_by (λ x. share_of x (numbers x) d) xs
lost-emptied numbers [] d = refl
lost-emptied numbers (x ∷ xs) d = rw (sum_by-cons (λ e. share_of e.field (numbers e.field) d) (edit x 0) (map (λ x. edit x 0) xs), sum_by-cons (λ x. share_of x (numbers x) d) x xs, lost-emptied numbers xs d) refl

-- a purge: pointers are emptied, and each count falls by how often they named its data number
pub balances-purge : (g : Geometry) (numbers : Field → ℕ) (xs : List Field) (counts : List Edit) → HaveNoCount (map (λ x. edit x 0) xs)
    → AreCounts counts
    → ((d : ℕ) → HasField g (Count d) → edited counts (Count d) (numbers (Count d)) + sum_by (λ x. share_of x (numbers x) d) xs ≡ numbers (Count d))
    → Balances g numbers (map (λ x. edit x 0) xs ++ counts)
balances-purge g numbers xs counts none are follow =
    balances-parts g numbers (map (λ x. edit x 0) xs) counts none are
    (λ d has. let is = follow d has in rw (gained-emptied xs d, lost-emptied numbers xs d) (omega (arith, is)))

-- slots that are collected, each with its data number, which nothing else names, and whose count is 1
abbrev pub emptied_slots : List (ℕ × ℕ) → List Edit
emptied_slots ps = map (λ (p : ℕ × ℕ). edit (Slot p.0) 0) ps

abbrev pub freed_counts : List (ℕ × ℕ) → List Edit
freed_counts ps = map (λ (p : ℕ × ℕ). edit (Count p.1) 0) ps

abbrev pub Collects : (Field → ℕ) → List (ℕ × ℕ) → Type 0
Collects numbers [] = Unit {0}
Collects numbers (p ∷ ps) =
    (named (numbers (Slot p.0)) ≡ Some p.1) × (numbers (Count p.1) ≡ 1) × (touches (freed_counts ps) (Count p.1) ≡ false) × Collects numbers ps

pub slots-no-count : (ps : List (ℕ × ℕ)) → HaveNoCount (emptied_slots ps)
slots-no-count [] d = refl
slots-no-count (p ∷ ps) d = rw (other_field-is (Slot p.0) (Count d) (λ e. cc)) (slots-no-count ps d)

pub counts-freed : (ps : List (ℕ × ℕ)) → AreCounts (freed_counts ps)
counts-freed [] = tt
counts-freed (p ∷ ps) = (tt, counts-freed ps)

pub collect-follows : (numbers : Field → ℕ) (ps : List (ℕ × ℕ)) (e : ℕ) → Collects numbers ps
    → edited (freed_counts ps) (Count e) (numbers (Count e)) + lost numbers (emptied_slots ps) e ≡ numbers (Count e) + gained (emptied_slots ps) e
collect-follows numbers [] e all = refl
collect-follows numbers (p ∷ ps) e all =
    let more = collect-follows numbers ps e all.3 in
    rw (
      edited-count p.1 0 (freed_counts ps) e (numbers (Count e)),
      sum_by-cons (λ e'. share_of e'.field (numbers e'.field) e) (edit (Slot p.0) 0) (emptied_slots ps),
      sum_by-cons (λ e'. share_of e'.field e'.number e) (edit (Slot p.0) 0) (emptied_slots ps),
      share_named (numbers (Slot p.0)) p.1 e all.0,
      share_none 0 e refl,
    )
    (elim (cases_eq p.1 e) [
      | inl here ↦
          let kept = edited_untouched (freed_counts ps) (Count e) (numbers (Count e)) (rw here at all.2) in
          let was : numbers (Count e) ≡ 1 = rw here at all.1 in
          rw (eq-eqb p.1 e here) (omega (arith, more, kept, was))
      | inr other ↦ rw (ne_eqb p.1 e other) (omega (arith, more))
    ])

-- a collection: slots whose data numbers have the count 1 are emptied, and these counts fall to 0
pub balances-collect : (g : Geometry) (numbers : Field → ℕ) (ps : List (ℕ × ℕ)) → Collects numbers ps
    → Balances g numbers (emptied_slots ps ++ freed_counts ps)
balances-collect g numbers ps all = balances-parts g numbers (emptied_slots ps) (freed_counts ps) (slots-no-count ps) (counts-freed ps) (λ e has. collect-follows numbers ps e all)
