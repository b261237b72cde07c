use Rattle.std.proofs.Common.{◌≡◌, ◌⊎◌, ◌↔◌, ℕ, Option, None, Some, IsNone, IsSome, IsTrue, ◌∷◌, [], false, true}
use Rattle.std.proofs.Common.{arith, inl, inr, length, refl, subst}
use Rattle.vol_layout.specs.declared.field.Field.TheVariants.{Count, Pointer}
use Rattle.vol_layout.specs.Edits.{same_field, touches}
use Rattle.vol_layout.specs.laws.EditLaws.{other_field-is}
use Rattle.journal_block.specs.JournalRecord.{JournalRecord}
use Rattle.image_view.specs.Balances.{edit}
use Rattle.world_callers.proofs.punching.drop_of.Goals as goal

-- a count is added behind the edit of a pointer
added : (o : Option Unit) (f i d : ℕ)
    → (IsNone o ↔ (length (edit (Pointer f i) 0 ∷ []) ≡ 8) ⊎ IsTrue (touches (edit (Pointer f i) 0 ∷ []) (Count d))) → IsSome o
added (Some done) f i d none = refl
added None f i d none =
    let apart : same_field (Pointer f i) (Count d) ≡ false = other_field-is (Pointer f i) (Count d) (λ e. cc) in
    elim (none.0 refl) [
      | inl eight ↦ absurd (omega (arith, eight))
      | inr touched ↦ let bad : false ≡ true = rw apart at touched in absurd cc
    ]

pub unwrap-requires : goal.unwrap-requires
unwrap-requires c =
    added c.add.result c.args.file c.args.index c.args.block
    (subst (λ (r : JournalRecord). IsNone c.add.result ↔ (length r.edits ≡ 8) ⊎ IsTrue (touches r.edits (Count c.args.block)))
    c.new-entry.ensures c.add.ensures.none)
