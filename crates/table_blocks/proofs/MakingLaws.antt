-- The loop that makes edits, from the last one to the first.
use Rattle.std.proofs.Common.{◌≡◌, ◌∙◌, ◌+◌, ℕ, suc, true, false, List, ◌∷◌, Some, ap, drop, drop-cons, refl, sym, arith}
use Rattle.std.specs.Prelude.{slice_get}
use Rattle.std.proofs.lemmas.Option.{get_or_from_slice_get, slice_get_within}
use Rattle.vol_base.specs.Packing.{Packing}
use Rattle.vol_layout.specs.declared.kind.Table.{Table}
use Rattle.vol_layout.specs.declared.field.Edit.{Edit}
use Rattle.table_blocks.specs.Made.{made, stands_in}
use Rattle.table_blocks.specs.Tables.{with_number}

-- the edits from one on are that one and those behind it
from_edit : (es : List Edit) (k m : ℕ) (e : Edit) → k + 1 ≡ m → slice_get es k ≡ Some e → drop k es ≡ e ∷ drop m es
from_edit es k m e next is =
    let same : suc k ≡ m = omega (arith, next) in
    drop-cons es k e (slice_get_within es k e is)
    ∙ ap (λ (d : Edit). d ∷ drop (suc k) es) (get_or_from_slice_get es k e e is)
    ∙ ap (λ (n : ℕ). e ∷ drop n es) same

made_from : (t : Table) (es : List Edit) (k m : ℕ) (e : Edit) (p : Packing) → k + 1 ≡ m → slice_get es k ≡ Some e
    → made t (drop k es) p ≡ made t (e ∷ drop m es) p
made_from t es k m e p next is = ap (λ (fs : List Edit). made t fs p) (from_edit es k m e next is)

-- an edit of the table is made
pub made_here : (t : Table) (es : List Edit) (k m : ℕ) (e : Edit) (p q r : Packing) → k + 1 ≡ m → slice_get es k ≡ Some e
    → stands_in e.field t ≡ true → q ≡ made t (drop m es) p → r ≡ with_number q e.field e.number → r ≡ made t (drop k es) p
made_here t es k m e p q r next is here was now =
    now ∙ ap (λ (s : Packing). with_number s e.field e.number) was ∙ sym (made_from t es k m e p next is ∙ rw here refl)

-- and another one is not
pub made_elsewhere : (t : Table) (es : List Edit) (k m : ℕ) (e : Edit) (p q : Packing) → k + 1 ≡ m → slice_get es k ≡ Some e
    → stands_in e.field t ≡ false → q ≡ made t (drop m es) p → q ≡ made t (drop k es) p
made_elsewhere t es k m e p q next is other was = was ∙ sym (made_from t es k m e p next is ∙ rw other refl)
