use Rattle.std.proofs.Common.{◌≡◌, sym, ap, ◌∙◌, arith}
use Rattle.std.proofs.lemmas.Bool.{eq-eqb, eqb-true}
use Rattle.vol_layout.specs.declared.geometry.Geometry.{Geometry}
use Rattle.volume_check.proofs.holds.is_shown.Goals.{then-key-eq0-via-then-key-eq0, then-key-eq0-via-else-key-eq0+then-host-geometry}
use Rattle.volume_check.proofs.holds.is_shown.Goals as goal

pub returns-then-key-eq0 : goal.returns-then-key-eq0
returns-then-key-eq0 c = (
  λ t. absurd cc,
  λ is. elim c.then-key-eq0.branch [
    | then-key-eq0-via-then-key-eq0 w ↦ absurd (is.some w.if-key-eq0.true)
    | then-key-eq0-via-else-key-eq0+then-host-geometry w ↦
        let same : w.geometry.result.hosts ≡ c.args.metadata.now.geometry.hosts = ap (λ (g : Geometry). g.hosts) w.geometry.ensures.geometry in
        let high = w.if-host-geometry.true in
        let low = is.host in
        absurd (omega arith)
  ],
)

pub slot_key-requires : goal.slot_key-requires
slot_key-requires c =
    let same : c.geometry.result.hosts ≡ c.args.metadata.now.geometry.hosts = ap (λ (g : Geometry). g.hosts) c.geometry.ensures.geometry in
    omega arith

pub returns : goal.returns
returns c =
    let same : c.geometry.result.hosts ≡ c.args.metadata.now.geometry.hosts = ap (λ (g : Geometry). g.hosts) c.geometry.ensures.geometry in (
      λ t. record { some = c.if-key-eq0.false; host = omega arith; shown = sym c.slot_key.ensures ∙ eqb-true _ _ t },
      λ is. eq-eqb _ _ (c.slot_key.ensures ∙ is.shown),
    )
