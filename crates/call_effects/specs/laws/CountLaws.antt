-- Counts that are moved, in either order.
use Rattle.std.proofs.Common.{◌≡◌, ◌≢◌, ◌≤◌, ◌+◌, ◌-◌, ℕ, Bool, false, true, List, [], ◌∷◌, ◌++◌, if◌then◌else◌, length, refl, sym, ◌∙◌, subst, arith}
use Rattle.std.specs.Prelude.{All, nat_lt}
use Rattle.std.proofs.lemmas.Bool.{eq-eqb, ne_eqb, or_parts}
use Rattle.std.proofs.lemmas.List.Elements.{All-cons}
use Rattle.vol_layout.specs.declared.field.Field.{Field}
use Rattle.vol_layout.specs.declared.field.Field.TheVariants.{Count, Head, Pointer, Slot}
use Rattle.vol_layout.specs.declared.field.Edit.{Edit}
use Rattle.vol_layout.specs.Edits.{AreApart, edited, same_field, touches}
use Rattle.vol_layout.specs.laws.EditLaws.{other_field, other_field-is, touches-append, touches-at}
use Rattle.image_view.specs.Balances.{edit, gained}
use Rattle.image_view.specs.laws.BalanceLaws.{AreCounts, HaveNoCount, IsCountEdit, Moves, gained-counts, lower_raise, one, raise_lower}
use Rattle.call_effects.specs.Counts.{counts_moved}
use Rattle.call_effects.specs.laws.EachEdit.{all-none, all-two}

-- edits of counts touch no other field
is_other : (x y : Field) → IsCountEdit x → ((d : ℕ) → Count d ≢ y) → x ≢ y
is_other (Count d) y is none = none d
is_other (Head f) y is none = absurd is
is_other (Pointer f i) y is none = absurd is
is_other (Slot s) y is none = absurd is

pub counts-untouched : (es : List Edit) (x : Field) → AreCounts es → ((d : ℕ) → Count d ≢ x) → touches es x ≡ false
counts-untouched [] x are none = refl
counts-untouched (e ∷ es) x are none = rw (other_field-is e.field x (is_other e.field x are.0 none)) (counts-untouched es x are.1 none)

-- and what holds of every edit of a count holds of them all
pub counts-each : (P : Edit → Type 0) (es : List Edit) → AreCounts es → ((e : Edit) → IsCountEdit e.field → P e) → All P es
counts-each P [] are each = all-none P
counts-each P (e ∷ es) are each = All-cons P e es (each e are.0) (counts-each P es are.1 each)

-- what holds of both orders
either : (P : List Edit → Type 0) (a b : Edit) (first : Bool) → P (a ∷ b ∷ []) → P (b ∷ a ∷ [])
    → P (if first then a ∷ b ∷ [] else b ∷ a ∷ [])
either P a b true ab ba = ab
either P a b false ab ba = ba

pub moved-all : (P : Edit → Type 0) (from to n m : ℕ) → P (edit (Count from) (n - 1)) → P (edit (Count to) (m + 1))
    → All P (counts_moved from to n m)
moved-all P from to n m lowered raised =
    let a = edit (Count from) (n - 1) in
    let b = edit (Count to) (m + 1) in
    either (All P) a b (nat_lt from to) (all-two P a b lowered raised) (all-two P b a raised lowered)

pub moved-moves : (numbers : Field → ℕ) (from to n m : ℕ) → from ≢ to → n ≡ numbers (Count from) → m ≡ numbers (Count to) → 1 ≤ n
    → Moves numbers from to (counts_moved from to n m)
moved-moves numbers from to n m other is_n is_m some =
    subst (λ (k : ℕ). Moves numbers from to (counts_moved from to k m)) (sym is_n)
    (subst (λ (k : ℕ). Moves numbers from to (counts_moved from to (numbers (Count from)) k)) (sym is_m)
    (let some' : 1 ≤ numbers (Count from) = subst (λ (k : ℕ). 1 ≤ k) is_n some in
    either (Moves numbers from to) (edit (Count from) (numbers (Count from) - 1)) (edit (Count to) (numbers (Count to) + 1)) (nat_lt from to)
    (lower_raise numbers from to other some') (raise_lower numbers from to other some')))

pub moved-apart : (from to n m : ℕ) → from ≢ to → AreApart (counts_moved from to n m)
moved-apart from to n m other =
    let a = other_field-is (Count from) (Count to) (λ e. other cc) in
    let b = other_field-is (Count to) (Count from) (λ e. other cc) in
    either AreApart (edit (Count from) (n - 1)) (edit (Count to) (m + 1)) (nat_lt from to) (rw b refl, (refl, tt)) (rw a refl, (refl, tt))

-- both counts are
pub moved-touches-from : (from to n m : ℕ) → touches (counts_moved from to n m) (Count from) ≡ true
moved-touches-from from to n m =
    let a = edit (Count from) (n - 1) in
    let b = edit (Count to) (m + 1) in
    either (λ es. touches es (Count from) ≡ true) a b (nat_lt from to) (touches-at (a ∷ b ∷ []) 0 a refl) (touches-at (b ∷ a ∷ []) 1 a refl)

pub moved-touches-to : (from to n m : ℕ) → touches (counts_moved from to n m) (Count to) ≡ true
moved-touches-to from to n m =
    let a = edit (Count from) (n - 1) in
    let b = edit (Count to) (m + 1) in
    either (λ es. touches es (Count to) ≡ true) a b (nat_lt from to) (touches-at (a ∷ b ∷ []) 1 b refl) (touches-at (b ∷ a ∷ []) 0 b refl)

pub moved-are-counts : (from to n m : ℕ) → AreCounts (counts_moved from to n m)
moved-are-counts from to n m = either AreCounts (edit (Count from) (n - 1)) (edit (Count to) (m + 1)) (nat_lt from to) (tt, (tt, tt)) (tt, (tt, tt))

pub moved-gained : (from to n m d : ℕ) → gained (counts_moved from to n m) d ≡ 0
moved-gained from to n m d = gained-counts (counts_moved from to n m) d (moved-are-counts from to n m)

pub moved-length : (from to n m : ℕ) → length (counts_moved from to n m) ≡ 2
moved-length from to n m = either (λ es. length es ≡ 2) (edit (Count from) (n - 1)) (edit (Count to) (m + 1)) (nat_lt from to) refl refl

-- what the two counts become
pub moved-from : (numbers : Field → ℕ) (from to n m : ℕ) → from ≢ to → n ≡ numbers (Count from) → m ≡ numbers (Count to) → 1 ≤ n
    → edited (counts_moved from to n m) (Count from) (numbers (Count from)) + 1 ≡ numbers (Count from)
moved-from numbers from to n m other is_n is_m some =
    let moves = (moved-moves numbers from to n m other is_n is_m some).1 from in
    let here = eq-eqb from from refl in
    let apart = ne_eqb to from (λ e. other (sym e)) in
    let a : one from from ≡ 1 = rw here refl in
    let b : one to from ≡ 0 = rw apart refl in
    omega (arith, moves, a, b)

pub moved-to : (numbers : Field → ℕ) (from to n m : ℕ) → from ≢ to → n ≡ numbers (Count from) → m ≡ numbers (Count to) → 1 ≤ n
    → edited (counts_moved from to n m) (Count to) (numbers (Count to)) ≡ numbers (Count to) + 1
moved-to numbers from to n m other is_n is_m some =
    let moves = (moved-moves numbers from to n m other is_n is_m some).1 to in
    let here = eq-eqb to to refl in
    let apart = ne_eqb from to other in
    let a : one to to ≡ 1 = rw here refl in
    let b : one from to ≡ 0 = rw apart refl in
    omega (arith, moves, a, b)

-- other counts are not touched
pub moved-others : (from to n m : ℕ) (x : Field) → x ≢ Count from → x ≢ Count to → touches (counts_moved from to n m) x ≡ false
moved-others from to n m x not_from not_to =
    let a = other_field-is (Count from) x (λ e. not_from (sym e)) in
    let b = other_field-is (Count to) x (λ e. not_to (sym e)) in
    either (λ es. touches es x ≡ false) (edit (Count from) (n - 1)) (edit (Count to) (m + 1)) (nat_lt from to) (rw (a, b) refl) (rw (b, a) refl)

-- edits of no count, and then edits of counts, are apart where both are
pub apart-append : (es counts : List Edit) → AreApart es → HaveNoCount es → AreCounts counts → AreApart counts → AreApart (es ++ counts)
apart-append [] counts apart none are rest = rest
apart-append (e ∷ es) counts apart none are rest =
    let here = λ (d : ℕ). (or_parts (same_field e.field (Count d)) (touches es (Count d)) (none d)).0 in
    let later = λ (d : ℕ). (or_parts (same_field e.field (Count d)) (touches es (Count d)) (none d)).1 in (
      touches-append es counts e.field
          ∙ (let a = apart.0 in let b = counts-untouched counts e.field are (λ d same. other_field e.field (Count d) (here d) (sym same)) in rw (a, b) refl),
      apart-append es counts apart.1 later are rest,
    )
