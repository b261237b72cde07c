use Rattle.std.proofs.Common.{ap, ◌∙◌, sym, refl}
use Rattle.vol_base.specs.Packing.{Packing}
use Rattle.vol_base.proofs.Entries.{entry_added, entry_count, with_entries}
use Rattle.vol_base.proofs.packed.Packed.push.Goals as goal

pub returns-then-self-clause-full : goal.returns-then-self-clause-full
returns-then-self-clause-full g c =
    let count = entry_count g.row.W _ _ _ (ap (λ (p : Packing). p.entries) c.self.view_is) in
    (λ _. sym count ∙ c.if-self.true, λ _. refl)

pub returns-clause-full : goal.returns-clause-full
returns-clause-full g c =
    let count = entry_count g.row.W _ _ _ (ap (λ (p : Packing). p.entries) c.self.view_is) in
    (λ h. absurd (cc), λ h. absurd (c.if-self.false (count ∙ h)))

pub returns-clause-pushed : goal.returns-clause-pushed
returns-clause-pushed g c =
    with_entries _ _ _ _ c.self.view_is
    (entry_added g.row.W c.self.inside.count c.place-at.result c.self.inside.entries _ _ _ (ap (λ (p : Packing). p.entries) c.self.view_is)
    c.self.told.1 c.place-at.ensures.value c.place-at.ensures.within c.copy_from_slice.ensures.after c.copy_from_slice.ensures.len)
