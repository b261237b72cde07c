-- What comparing two digests tells.
use Rattle.std.proofs.Common.{◌≡◌, ℕ, List, true, false, ap, ltb, leb, refl, sym, ◌∙◌}
use Rattle.std.specs.Ordering.{is_le, is_lt, nat_cmp, ordering_index, ordering_reverse}
use Rattle.std.specs.declared.cmp.Ordering.{Ordering}
use Rattle.std.specs.declared.cmp.Ordering.TheVariants.{Less, Equal, Greater}
use Rattle.std.specs.Cmp.Lexicographic.{slice_cmp}
use Rattle.std.specs.Str.{bytes_eq}
use Rattle.std.proofs.lemmas.Bool.{false_from_ne_true, false≢true, true≢false}
use Rattle.std.proofs.lemmas.Cmp.{nat_list_cmp_total, tied_itself}
use Rattle.std.proofs.lemmas.Map.Lookups.{exact_bytes}
use Rattle.std.proofs.lemmas.Slice.Eq.{bytes_eq-Decides}

abbrev pub compared : List ℕ → List ℕ → Ordering
compared one other = slice_cmp nat_cmp one other

pub is_lt-index : (o : Ordering) → is_lt o ≡ ltb (ordering_index o) 1
is_lt-index Less = refl
is_lt-index Equal = refl
is_lt-index Greater = refl

pub is_le-index : (o : Ordering) → is_le o ≡ leb (ordering_index o) 1
is_le-index Less = refl
is_le-index Equal = refl
is_le-index Greater = refl

pub le_from_lt : (o : Ordering) → is_lt o ≡ true → is_le o ≡ true
le_from_lt Less h = refl
le_from_lt Equal h = refl
le_from_lt Greater h = cc

pub lt_from_above : (o : Ordering) → is_le o ≡ false → is_lt o ≡ false
lt_from_above Less h = cc
lt_from_above Equal h = refl
lt_from_above Greater h = refl

turned : (o : Ordering) → is_le o ≡ true → is_lt (ordering_reverse o) ≡ false
turned Less h = refl
turned Equal h = refl
turned Greater h = cc

tied : (o : Ordering) → is_lt o ≡ false → is_le o ≡ true → o ≡ Equal
tied Less h k = cc
tied Equal h k = refl
tied Greater h k = cc

-- the other way round
pub not_below : (one other : List ℕ) → is_le (compared one other) ≡ true → is_lt (compared other one) ≡ false
not_below one other h = ap is_lt (nat_list_cmp_total.antisymm other one) ∙ turned (compared one other) h

-- equal digests compare as equal, and no others
equal : (one other : List ℕ) → bytes_eq one other ≡ true → compared one other ≡ Equal
equal one other h = ap (λ (xs : List ℕ). compared xs other) ((bytes_eq-Decides one other).0 h) ∙ tied_itself nat_list_cmp_total other

pub below_is_other : (one other : List ℕ) → is_lt (compared one other) ≡ true → bytes_eq one other ≡ false
below_is_other one other h = false_from_ne_true (bytes_eq one other) (λ e. false≢true (sym (ap is_lt (equal one other e)) ∙ h))

pub above_is_other : (one other : List ℕ) → is_le (compared one other) ≡ false → bytes_eq one other ≡ false
above_is_other one other h = false_from_ne_true (bytes_eq one other) (λ e. true≢false (sym (ap is_le (equal one other e)) ∙ h))

pub between_is_same : (one other : List ℕ) → is_lt (compared one other) ≡ false → is_le (compared one other) ≡ true
    → bytes_eq one other ≡ true
between_is_same one other h k = (bytes_eq-Decides one other).1 (exact_bytes one other (tied (compared one other) h k))
