use Rattle.std.proofs.Common.{◌≡◌, ◌≤◌, ◌∙◌, sym, ap, subst, inr, arith}
use Rattle.std.proofs.lemmas.Option.{IfSome_then}
use Rattle.shared_disk.specs.State.{State}
use Rattle.vol_layout.specs.Regions.{total}
use Rattle.vol_layout.specs.declared.geometry.Geometry.{Geometry}
use Rattle.volume_faults.specs.ReadPlaces.{IsCheckedPlace}
use Rattle.vol_base.specs.laws.ResultLaws.{if_ok_then}
use Rattle.volume_check.proofs.ToldLaws.{empty_is_not_readable, none_told, told_passes, told_usage}
use Rattle.volume_check.proofs.surveying.survey_under.Goals as goal

pub returns-then-blocks-eq0-clause-bad : goal.returns-then-blocks-eq0-clause-bad
returns-then-blocks-eq0-clause-bad g c place is =
    empty_is_not_readable (g.D.Device.state c.args.disk.now) (sym c.blocks-2.ensures ∙ c.if-blocks-eq0.true) (g.met.D.Device.whole_image c.args.disk.now) c.requires.readable

pub returns-clause-usage : goal.returns-clause-usage
returns-clause-usage g c =
    let s = g.D.Device.state c.args.disk.now in
    let e = rw c.in-Ok.ensures.same at c.in-Ok-read-2.ensures.image in
    let read = told_usage s c.in-Ok.block.0 c.in-Ok-read.geometry c.in-Ok-read-2.metadata c.in-Ok.ensures.block c.in-Ok-read.ensures.ok c.in-Ok-read-2.ensures.geometry e in
    if_ok_then c.surveyed.result c.surveyed.ensures.usage (λ usage is. IfSome_then s.told read (λ t same. is ∙ same))

pub returns-clause-bad : goal.returns-clause-bad
returns-clause-bad g c place bad =
    let s = g.D.Device.state c.args.disk.now in
    let counter = rw c.in-Ok.ensures.same at c.in-Ok-read-2.ensures.counter in
    let image = rw c.in-Ok.ensures.same at c.in-Ok-read-2.ensures.image in
    let passes =
    told_passes s c.in-Ok.block.0 c.in-Ok-read.geometry c.in-Ok-read-2.metadata c.in-Ok.ensures.block c.in-Ok-read.ensures.ok c.in-Ok-read-2.ensures.geometry counter image c.requires.readable in
    none_told s.told (IfSome_then s.told passes (λ t all. c.surveyed.ensures.bad place bad all))

pub returns-clause-place : goal.returns-clause-place
returns-clause-place g c place bad =
    let s = g.D.Device.state c.args.disk.now in
    let blocks_is : c.blocks-3.result ≡ s.blocks = c.blocks-3.ensures ∙ ap (λ (t : State). t.blocks) c.in-Ok.ensures.same in
    let room : total c.in-Ok-read.geometry ≤ s.blocks = omega (arith, c.if-blocks-total.false, blocks_is, c.total.ensures.blocks) in
    let P : Geometry → Type 0 = λ k. IsCheckedPlace k place in
    let checked : IsCheckedPlace c.in-Ok-read.geometry place = subst P c.in-Ok-read-2.ensures.geometry (c.surveyed.ensures.place place bad) in
    inr (c.in-Ok-read.geometry, c.is_expected.ensures.0 c.if-not-is_expected.false, c.in-Ok-read.ensures.ok.0, room, checked)
