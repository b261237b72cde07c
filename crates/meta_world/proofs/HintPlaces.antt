-- The kind of the block at the place of a hint block.
use Rattle.std.proofs.Common.{◌≡◌, ◌∙◌, ℕ, Option, Some, ap, sym, subst}
use Rattle.vol_layout.specs.declared.geometry.Geometry.{Geometry}
use Rattle.vol_layout.specs.declared.kind.Kind.{Kind}
use Rattle.vol_layout.specs.Places.{kind_at}
use Rattle.vol_layout.specs.laws.PlaceLaws.{kind_at-place}
use Rattle.host_facts.specs.Hints.{IsHint, IsHintPlace}

pub hint_kind : (g : Geometry) (place : ℕ) (found : Option Kind) (is : IsHintPlace g place) → found ≡ kind_at g place → found ≡ Some is.kind
hint_kind g place found is at = at ∙ ap (kind_at g) is.at ∙ kind_at-place g is.kind is.has

pub hint_is : (g : Geometry) (place : ℕ) (found : Option Kind) (kind : Kind) → IsHintPlace g place → found ≡ kind_at g place → found
    ≡ Some kind
    → IsHint kind
hint_is g place found kind is at some =
    let same : Some is.kind ≡ Some kind = sym (hint_kind g place found is at) ∙ some in
    let kinds : is.kind ≡ kind = cc in
    subst IsHint kinds is.hint
