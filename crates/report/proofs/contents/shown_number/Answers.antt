use Rattle.std.proofs.Common.{◌≡◌, sym, ap, ◌∙◌}
use Rattle.std.proofs.lemmas.Bool.Decides.{not_from_Decides}
use Rattle.vol_base.specs.declared.block.Block.{Block}
use Rattle.vol_base.specs.Bytes.{u64_at}
use Rattle.vol_base.specs.NumberBlock.{number_block}
use Rattle.report.proofs.ContentLaws.{shown_number-other, shown_number-same, u64_at-number_bytes}
use Rattle.report.proofs.contents.shown_number.Goals as goal

pub returns-then-same-clause-value : goal.returns-then-same-clause-value
returns-then-same-clause-value c =
    sym (shown_number-same c.args.block.now c.u64_at-n.result c.u64_at-n.ensures.number (sym c.number_block.ensures.value ∙ c.same.ensures.0 c.if-same.true))

pub returns-else-same-clause-value : goal.returns-else-same-clause-value
returns-else-same-clause-value c =
    let other = not_from_Decides c.same.result c.same.ensures c.if-same.false in
    sym (shown_number-other c.args.block.now c.u64_at-n.result c.u64_at-n.ensures.number (λ e. other (c.number_block.ensures.value ∙ e)))

pub returns-else-same-clause-none : goal.returns-else-same-clause-none
returns-else-same-clause-none c none n small e =
    let other = not_from_Decides c.same.result c.same.ensures c.if-same.false in
    let first : c.u64_at-n.result ≡ n = c.u64_at-n.ensures.number ∙ ap (λ (b : Block). u64_at b.0 0) e ∙ u64_at-number_bytes n small in
    other (c.number_block.ensures.value ∙ ap number_block first ∙ sym e)
