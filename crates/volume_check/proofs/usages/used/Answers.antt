use Rattle.std.proofs.Common.{◌≡◌, cond, ltb, ap, ◌∙◌, arith}
use Rattle.vol_layout.specs.declared.field.Field.TheVariants.{Count}
use Rattle.vol_layout.specs.Ranges.{data_blocks}
use Rattle.image_view.specs.Numbers.{logical}
use Rattle.image_view.specs.Usages.{used_numbers}
use Rattle.image_view.specs.laws.SumLaws.{bit_le, bool_byte-is, summed_more}
use Rattle.volume_check.proofs.usages.used.Goals as goal

pub loop-number-preserved : goal.loop-number-preserved
loop-number-preserved c =
    let bit = bit_le (ltb 0 c.logical.result) in
    let is : c.from-used.result ≡ cond (ltb 0 c.logical.result) 1 0 = c.from-used.ensures ∙ bool_byte-is (ltb 0 c.logical.result) in
    record {
      used = summed_more (λ d. cond (ltb 0 (logical c.args.metadata.now.geometry c.args.metadata.now.image (Count d))) 1 0) c.loop-number.number c.loop-number.used c.from-used.result c.loop-number.invariant.used
          (is ∙ ap (λ n. cond (ltb 0 n) 1 0) c.logical.ensures.number);
      bounded = omega (arith, bit, is);
    }

pub returns : goal.returns
unfolding used_numbers
returns c =
    let same = c.data_blocks-number-end.ensures.blocks ∙ ap data_blocks c.geometry.ensures.geometry in
    let end : c.loop-number.number ≡ data_blocks c.args.metadata.now.geometry = omega arith in
    rw end at c.loop-number.invariant.used
