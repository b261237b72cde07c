-- What edits do to the number of a field.
use Rattle.std.proofs.Common.{◌≡◌, ℕ, true, false, List, [], ◌∷◌, ◌++◌, if◌then◌else◌, refl, ap, inl, inr}
use Rattle.std.proofs.lemmas.Bool.{cases_Bool, or_cases, or_parts}
use Rattle.vol_layout.specs.declared.field.Field.{Field}
use Rattle.vol_layout.specs.declared.field.Edit.{Edit}
use Rattle.vol_layout.specs.Edits.{edited, same_field, touches}

-- the first list of edits goes before the second
pub edited-append : (es fs : List Edit) (x : Field) (n : ℕ) → edited (es ++ fs) x n ≡ edited es x (edited fs x n)
edited-append [] fs x n = refl
edited-append (e ∷ es) fs x n = ap (λ (m : ℕ). if same_field e.field x then e.number else m) (edited-append es fs x n)

-- edits of other fields leave a field's number
pub edited_untouched : (es : List Edit) (x : Field) (n : ℕ) → touches es x ≡ false → edited es x n ≡ n
edited_untouched [] x n h = refl
edited_untouched (e ∷ es) x n h =
    let parts = or_parts (same_field e.field x) (touches es x) h in
    rw (parts.0) (edited_untouched es x n parts.1)

-- what a field was does not count once it is edited
pub edited_touched : (es : List Edit) (x : Field) (n m : ℕ) → touches es x ≡ true → edited es x n ≡ edited es x m
edited_touched [] x n m h = cc
edited_touched (e ∷ es) x n m h =
    elim (or_cases (same_field e.field x) (touches es x) h) [
      | inl here ↦ rw here refl
      | inr later ↦ ap (λ (k : ℕ). if same_field e.field x then e.number else k) (edited_touched es x n m later)
    ]

-- edits made twice are edits made once
pub edited_twice : (es : List Edit) (x : Field) (n : ℕ) → edited es x (edited es x n) ≡ edited es x n
edited_twice es x n =
    elim (cases_Bool (touches es x)) [
      | inl some ↦ edited_touched es x (edited es x n) n some
      | inr none ↦ edited_untouched es x (edited es x n) none
    ]
