use Rattle.std.proofs.Common.{◌≡◌, ◌+◌, ◌*◌, ◌++◌, ◌∙◌, ℕ, List, length, take, ap, arith, length-append, length-take}
use Rattle.std.specs.List.{flat_map}
use Rattle.vol_base.specs.Bytes.{bytes_of}
use Rattle.vol_base.specs.laws.RowLaws.{length-row}
use Rattle.vol_layout.proofs.superblock.push_numbers.Goals as goal

-- a draft with a row behind it is longer by four bytes a number
longer : (draft front numbers : List ℕ) (n : ℕ) → length numbers ≡ n → draft ≡ front ++ flat_map (bytes_of 4) numbers
    → length draft ≡ length front + 4 * n
longer draft front numbers n e is = ap length is ∙ length-append front (flat_map (bytes_of 4) numbers) ∙ omega (arith, length-row 4 numbers)

pub push_u32-requires : goal.push_u32-requires
push_u32-requires c =
    let front = longer _ _ (take c.loop-number.number-index c.args.numbers.now) c.loop-number.number-index (omega (arith, length-take c.loop-number.number-index c.args.numbers.now)) c.loop-number.invariant in
    omega (arith, front)

pub returns-clause-long : goal.returns-clause-long
returns-clause-long c =
    longer _ _ (take c.loop-number.number-index c.args.numbers.now) (length c.args.numbers.now)
    (omega (arith, length-take c.loop-number.number-index c.args.numbers.now)) c.loop-number.invariant
