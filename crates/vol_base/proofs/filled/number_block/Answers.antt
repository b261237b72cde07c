use Rattle.std.proofs.Common.{ℕ, ◌*◌, ◌∙◌, ◌++◌, List, length, ap, arith, slice_index, add-one}
use Rattle.vol_base.specs.declared.block.Block.{Block}
use Rattle.vol_base.specs.Bytes.{bytes_of}
use Rattle.vol_base.specs.laws.BytesLaws.{length-bytes_of}
use Rattle.vol_base.specs.laws.NumberBlockLaws.{filled_up, length-repeated, slice_index-number_bytes}
use Rattle.vol_base.proofs.filled.number_block.Goals as goal

pub push_u64-requires : goal.push_u64-requires
push_u64-requires c =
    let long = length-repeated c.loop-copy._copy (bytes_of 8 c.args.n) in
    let wide = ap (λ (m : ℕ). c.loop-copy._copy * m) (length-bytes_of 8 c.args.n) in
    omega (arith, ap length c.loop-copy.invariant, long, wide)

pub loop-copy-preserved : goal.loop-copy-preserved
loop-copy-preserved c = rw add-one (c.push_u64.ensures.value ∙ ap (λ (xs : List ℕ). xs ++ bytes_of 8 c.args.n) c.loop-copy.invariant)

pub returns-clause-value : goal.returns-clause-value
returns-clause-value c =
    ap (λ (xs : List ℕ). let b : Block = record { 0 = xs } in b)
    (filled_up c.args.n c.loop-copy._copy c.loop-copy.draft _ c.loop-copy.invariant (omega arith) c.finish.ensures.bytes)

pub returns-clause-each_byte : goal.returns-clause-each_byte
returns-clause-each_byte c k h =
    ap (λ (xs : List ℕ). slice_index xs k)
    (filled_up c.args.n c.loop-copy._copy c.loop-copy.draft _ c.loop-copy.invariant (omega arith) c.finish.ensures.bytes)
    ∙ slice_index-number_bytes c.args.n k h
