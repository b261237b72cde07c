use Rattle.std.proofs.Common.{arith, ◌*◌, refl}
use Rattle.shared_disk.specs.laws.PrefixLaws.{EachImage-ends, EachImage-joined}
use Rattle.image_view.specs.Images.{IsBlank}
use Rattle.volume_opening.proofs.FormatSteps.{both_blanked, format_images, formats, on_err, unformatted}
use Rattle.vol_layout.specs.laws.SpanLaws.{spans_fit}
use Rattle.volume_opening.proofs.format.format.Goals as goal

pub write_blanks-requires-clause-order : goal.write_blanks-requires-clause-order
write_blanks-requires-clause-order g c = rw c.place-behind_tables.ensures.place (spans_fit c.args.geometry.now).0

pub overflow_sub-end : goal.overflow_sub-end
overflow_sub-end g c = rw (c.from.ensures, c.from-2.ensures, c.total-end.ensures.blocks) (let fit = spans_fit c.args.geometry.now in omega (arith, fit.0, fit.1))

pub write_blanks-requires-2-clause-behind : goal.write_blanks-requires-2-clause-behind
write_blanks-requires-2-clause-behind g c = rw (c.from.ensures, c.from-2.ensures, c.total-end.ensures.blocks) (let fit = spans_fit c.args.geometry.now in omega (arith, fit.0, fit.1))

pub write_blanks-requires-2-clause-blank : goal.write_blanks-requires-2-clause-blank
write_blanks-requires-2-clause-blank g c = EachImage-ends IsBlank _ _ c.write_blanks.ensures.images

pub returns-in_err-write_blanks-2-clause-unformatted : goal.returns-in_err-write_blanks-2-clause-unformatted
returns-in_err-write_blanks-2-clause-unformatted g c =
    on_err c.from_residual-in_err-write_blanks-2.result (EachImage-joined IsBlank _ _ _ c.write_blanks.ensures.images c.write_blanks-2.ensures.images)

pub returns-clause-formatted : goal.returns-clause-formatted
returns-clause-formatted g c =
    let both = both_blanked c.args.geometry.now _ _ _ _ _ (c.from.result * c.from-2.result) c.requires.geometry c.requires.long (g.met.D.Device.whole_image c.write_blanks-2.new.disk)
    c.place-behind_tables.ensures.place c.total-end.ensures.blocks (rw (c.from.ensures, c.from-2.ensures) refl) c.in_ok-write_blanks.ensures.done c.in_ok-write_blanks-2.ensures.done in
    formats c.args.geometry.now _ _ _ _ _ c.write-2.result both c.write.ensures c.write-2.ensures.done

pub returns-clause-images : goal.returns-clause-images
returns-clause-images g c =
    let both = both_blanked c.args.geometry.now _ _ _ _ _ (c.from.result * c.from-2.result) c.requires.geometry c.requires.long (g.met.D.Device.whole_image c.write_blanks-2.new.disk)
    c.place-behind_tables.ensures.place c.total-end.ensures.blocks (rw (c.from.ensures, c.from-2.ensures) refl) c.in_ok-write_blanks.ensures.done c.in_ok-write_blanks-2.ensures.done in
    format_images c.args.geometry.now _ _ _ _ _ c.write-2.result both c.write-2.ensures.done (formats c.args.geometry.now _ _ _ _ _ c.write-2.result both c.write.ensures c.write-2.ensures.done)

pub returns-clause-unformatted : goal.returns-clause-unformatted
returns-clause-unformatted g c =
    let both = both_blanked c.args.geometry.now _ _ _ _ _ (c.from.result * c.from-2.result) c.requires.geometry c.requires.long (g.met.D.Device.whole_image c.write_blanks-2.new.disk)
    c.place-behind_tables.ensures.place c.total-end.ensures.blocks (rw (c.from.ensures, c.from-2.ensures) refl) c.in_ok-write_blanks.ensures.done c.in_ok-write_blanks-2.ensures.done in
    unformatted c.args.geometry.now _ _ _ _ c.write-2.result both c.write-2.ensures.same
