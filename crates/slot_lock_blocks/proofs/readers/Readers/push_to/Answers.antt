use Rattle.std.proofs.Common.{◌≡◌, ◌≤◌, ◌+◌, ◌*◌, ◌++◌, ℕ, List, length, take, ap, ◌∙◌, arith, length-append, length-take-le}
use Rattle.std.specs.List.{flat_map}
use Rattle.vol_base.specs.Bytes.{bytes_of}
use Rattle.vol_base.specs.laws.RowLaws.{length-row}
use Rattle.slot_lock_blocks.proofs.readers.Readers.push_to.Goals as goal

-- a draft with the first n keys behind it
longer : (draft front keys : List ℕ) (n : ℕ) → draft ≡ front ++ flat_map (bytes_of 8) (take n keys) → n ≤ length keys
    → length draft ≡ length front + 8 * n
longer draft front keys n e h =
    ap length e ∙ length-append front (flat_map (bytes_of 8) (take n keys)) ∙ omega (arith, length-row 8 (take n keys), length-take-le n keys h)

pub push_u64-requires : goal.push_u64-requires
push_u64-requires c =
    let long = longer _ _ _ _ c.loop-key.invariant (omega (arith, c.self.told)) in
    omega (arith, c.requires)

pub returns-clause-long : goal.returns-clause-long
returns-clause-long c =
    let long = longer _ _ _ _ c.loop-key.invariant (omega (arith, c.self.told)) in
    omega arith
