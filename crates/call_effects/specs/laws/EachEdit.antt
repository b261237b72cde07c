-- What holds of each edit of a list holds of the edit that a touched field gets.
use Rattle.std.proofs.Common.{◌≡◌, ℕ, true, List, [], ◌∷◌, ◌++◌, refl, inl, inr, arith}
use Rattle.std.specs.Prelude.{All}
use Rattle.std.proofs.lemmas.Bool.{cases_Bool}
use Rattle.std.proofs.lemmas.List.Elements.{All-cons, All-head, All-tail}
use Rattle.vol_layout.specs.declared.field.Field.{Field}
use Rattle.vol_layout.specs.declared.field.Edit.{Edit}
use Rattle.vol_layout.specs.Edits.{edited, same_field, touches}
use Rattle.vol_layout.specs.laws.EditLaws.{same_field-is}

-- the edit of a touched field: it gives the number that the field has then
pub record TheEdit (P : Edit → Type 0) (es : List Edit) (x : Field) : Type 0 where
  pub edit : Edit
  pub of : edit.field ≡ x
  pub holds : P edit
  pub gives : (n : ℕ) → edited es x n ≡ edit.number

pub the-edit : (P : Edit → Type 0) (es : List Edit) (x : Field) → All P es → touches es x ≡ true → TheEdit P es x
the-edit P [] x each touched = absurd cc
the-edit P (e ∷ es) x each touched =
    elim (cases_Bool (same_field e.field x)) [
      | inl here ↦ record {
        edit = e;
        of = same_field-is e.field x here;
        holds = All-head P e es each;
        gives = λ n. rw here refl;
      }
      | inr other ↦
          let later = the-edit P es x (All-tail P e es each) (rw other at touched) in
          record { edit = later.edit; of = later.of; holds = later.holds; gives = λ n. rw other (later.gives n) }
    ]

-- lists of one and two
pub all-none : {X : Type 0} (P : X → Type 0) → All P []
all-none P k d lt = absurd (omega arith)

pub all-one : {X : Type 0} (P : X → Type 0) (a : X) → P a → All P (a ∷ [])
all-one P a pa = All-cons P a [] pa (all-none P)

pub all-two : {X : Type 0} (P : X → Type 0) (a b : X) → P a → P b → All P (a ∷ b ∷ [])
all-two P a b pa pb = All-cons P a (b ∷ []) pa (all-one P b pb)

-- what holds of two lists holds of both in a row
pub all-append : {X : Type 0} (P : X → Type 0) (xs ys : List X) → All P xs → All P ys → All P (xs ++ ys)
all-append P [] ys pxs pys = pys
all-append P (x ∷ xs) ys pxs pys = All-cons P x (xs ++ ys) (All-head P x xs pxs) (all-append P xs ys (All-tail P x xs pxs) pys)

-- what follows of each
pub all-weaker : {X : Type 0} (P Q : X → Type 0) (xs : List X) → ((x : X) → P x → Q x) → All P xs → All Q xs
all-weaker P Q [] give pxs = all-none Q
all-weaker P Q (x ∷ xs) give pxs = All-cons Q x xs (give x (All-head P x xs pxs)) (all-weaker P Q xs give (All-tail P x xs pxs))

-- two facts of each
pub all-both : {X : Type 0} (P Q : X → Type 0) (xs : List X) → All P xs → All Q xs → All (λ x. P x × Q x) xs
all-both P Q xs ps qs k d lt = (ps k d lt, qs k d lt)
