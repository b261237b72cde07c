use Rattle.std.proofs.Common.{◌≡◌, ◌+◌, ◌-◌, Some, true, sym, ap, ◌∙◌, arith}
use Rattle.std.specs.Prelude.{is_ok, not}
use Rattle.std.proofs.lemmas.List.FromFn.{map-range_with_len_more}
use Rattle.image_view.specs.Blocks.{image_of}
use Rattle.image_view.specs.Files.{content}
use Rattle.image_view.specs.laws.FileLaws.{shown, volume_file_none, volume_file_some}
use Rattle.image_view.proofs.slow.files.file.Goals as goal

pub returns-then-head-eq0-clause-file : goal.returns-then-head-eq0-clause-file
returns-then-head-eq0-clause-file c = sym (volume_file_none c.args.geometry.now (image_of c.args.image.now) c.args.file (sym c.logical-head.ensures ∙ c.if-head-eq0.true))

pub loop-index-preserved : goal.loop-index-preserved
loop-index-preserved c =
    let ok : is_ok c.push.result ≡ true = c.is_err.ensures.negation ∙ ap not c.if-is_err.false in
    let pushed = rw ok at c.push.ensures.items in
    let more = map-range_with_len_more (shown c.args.geometry.now (image_of c.args.image.now) c.args.file) 0 c.loop-index.index c.loop-index.index (omega arith) in
    let is : c.shown.result ≡ shown c.args.geometry.now (image_of c.args.image.now) c.args.file c.loop-index.index =
    c.shown.ensures ∙ ap (content c.args.geometry.now (image_of c.args.image.now)) c.logical-pointer.ensures in
    cc

pub returns-clause-file : goal.returns-clause-file
returns-clause-file c =
    let end : c.loop-index.index ≡ c.logical-head.result - 1 = omega arith in
    let head : c.logical-head.result ≡ c.loop-index.index + 1 = omega arith in
    ap (λ bs. Some bs) c.loop-index.invariant
    ∙ sym (volume_file_some c.args.geometry.now (image_of c.args.image.now) c.args.file c.loop-index.index (sym c.logical-head.ensures ∙ head))
