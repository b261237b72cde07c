-- The record of a punch is right, and is its place.
use Rattle.std.proofs.Common.{◌<◌, ◌≤◌, ◌+◌, ◌-◌, ℕ, [], ◌∷◌, None, refl, subst, arith}
use Rattle.vol_base.specs.declared.plain.PlainCall.TheVariants.{Punch}
use Rattle.vol_base.specs.declared.plain.PlainReply.TheVariants.{Done}
use Rattle.vol_layout.specs.declared.geometry.Geometry.{Geometry}
use Rattle.vol_layout.specs.declared.field.Field.TheVariants.{Count, Head, Pointer}
use Rattle.vol_layout.specs.declared.field.Edit.{Edit}
use Rattle.vol_layout.specs.Edits.{IsEdit}
use Rattle.vol_layout.specs.Fields.{greatest_count}
use Rattle.vol_layout.specs.laws.EditLaws.{other_field-is}
use Rattle.plain_files.specs.Block.{zero_block}
use Rattle.image_view.specs.Balances.{Balances, edit}
use Rattle.image_view.specs.Held.{HoldsField}
use Rattle.image_view.specs.Images.{Image}
use Rattle.image_view.specs.Numbers.{logical}
use Rattle.image_view.specs.Records.{IsRecord}
use Rattle.image_view.specs.Valid.{IsValid}
use Rattle.image_view.specs.laws.BalanceLaws.{balances-drop, share_none}
use Rattle.image_view.specs.laws.FileLaws.{logical_in_range, used_once}
use Rattle.call_effects.specs.Changes.{Changes}
use Rattle.call_effects.specs.Drops.{IsDroppable, dropped}
use Rattle.call_effects.specs.Places.{IsPlaced}
use Rattle.call_effects.specs.Shares.{CountsSlot, MayName}
use Rattle.call_effects.specs.laws.EachEdit.{all-two}
use Rattle.call_effects.specs.laws.PlaceLaws.{placed-punch}
use Rattle.call_effects.specs.laws.PointerLaws.{content-hole, hole-range}
use Rattle.call_effects.specs.laws.RecordLaws.{record-of}
use Rattle.call_effects.specs.laws.ReplaceLaws.{replaces-pointer}

pub record-drop : (g : Geometry) (counter : ℕ) (image : Image) (key f i d n : ℕ) → IsValid g counter image → IsDroppable g image key f i d n
    → IsRecord g image key (dropped f i d n)
record-drop g counter image key f i d n valid drops =
    let es = dropped f i d n in
    let pointer = edit (Pointer f i) 0 in
    let count = edit (Count d) (n - 1) in
    let used = used_once g image f i d drops.pointer.0 drops.names in
    let counted = valid.counted.counts d drops.count.0 in
    let range : logical g image (Count d) ≤ greatest_count g = logical_in_range g counter image (Count d) valid drops.count.0 in
    record-of g image key es valid.counted
    (record {
      few = omega arith;
      each = all-two (IsEdit g) pointer count (drops.pointer.0, hole-range g) (drops.count.0, omega (arith, range, drops.is));
      apart = (let other = other_field-is (Count d) (Pointer f i) (λ e. cc) in rw other refl, (refl, tt));
    })
    (all-two (λ (e : Edit). HoldsField g image key e.field) pointer count drops.pointer drops.count)
    (subst (λ (k : ℕ). Balances g (λ x. logical g image x) (pointer ∷ edit (Count d) (k - 1) ∷ [])) drops.is
    (balances-drop g (λ x. logical g image x) f i 0 d drops.names refl (omega (arith, used, counted))))
    (all-two (MayName g image es) pointer count (λ e some. absurd (some (share_none 0 e refl))) (λ e some. absurd (some refl)))
    (all-two (CountsSlot g image es) pointer count (λ s k of names. absurd cc) (λ s k of names. absurd cc))

pub placed-drop : (g : Geometry) (counter : ℕ) (old new : Image) (key f i d n : ℕ) → IsValid g counter old → IsDroppable g old key f i d n
    → i + 1 < logical g old (Head f) → Changes g (dropped f i d n) None old new → IsPlaced g (Punch f i) Done old new
placed-drop g counter old new key f i d n valid drops inside step =
    placed-punch g counter (dropped f i d n) None old new f i valid (record-drop g counter old key f i d n valid drops).edits.each step
    (replaces-pointer g counter old new f i 0 (edit (Count d) (n - 1) ∷ []) zero_block valid (tt, tt) drops.pointer.0 inside step (content-hole g new 0 refl))
