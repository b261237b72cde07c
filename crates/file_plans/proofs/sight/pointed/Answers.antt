use Rattle.std.proofs.Common.{ℕ, List, ap}
use Rattle.vol_base.specs.declared.block.Block.{Block}
use Rattle.file_plans.specs.laws.SightLaws.{hole_by, written_by, zeros_by}
use Rattle.file_plans.proofs.sight.pointed.Goals as goal

pub returns-in-Hole : goal.returns-in-Hole
returns-in-Hole c g known i call block =
    zeros_by g known c.args.call.now c.in-Read.field-0 c.in-Read.field-1 i c.args.pointer c.in-Read.is c.in-Hole.is call block
    c.zeros.result (ap (λ (xs : List ℕ). let b : Block = record { 0 = xs } in b) c.zeros.ensures)

pub returns-in-Write : goal.returns-in-Write
returns-in-Write c g known i call block =
    written_by g known c.args.call.now c.in-Write.field-0 c.in-Write.field-1 i c.in-Write.field-2 c.args.pointer c.written.result
    c.in-Write.is (λ e k b has. c.written.ensures g known e k b has) call block

pub returns-in-Hole-pointer : goal.returns-in-Hole-pointer
returns-in-Hole-pointer c g known i call block =
    hole_by g known c.args.call.now c.in-Punch.field-0 c.in-Punch.field-1 i c.args.pointer c.in-Punch.is c.in-Hole-pointer.is call block
