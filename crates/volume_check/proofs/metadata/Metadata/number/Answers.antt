use Rattle.std.proofs.Common.{◌∙◌, sym, arith}
use Rattle.vol_layout.specs.Ranges.{per_table}
use Rattle.volume_check.proofs.FieldReads.{byte_of-entry, byte_of-word, field_in_table}
use Rattle.volume_check.proofs.metadata.Metadata.number.Goals as goal

pub u32_at-requires-in-Some : goal.u32_at-requires-in-Some
unfolding per_table
u32_at-requires-in-Some c = omega (arith, c.in-Some.ensures.inside)

pub returns-in-None : goal.returns-in-None
returns-in-None c =
    c.u32_at.ensures.number
    ∙ field_in_table c.args.self.now.geometry c.args.self.now.image c.args.what.now c.table_of.result c.block-table.result.now.0 12 c.block-table.ensures.bytes c.table_of.ensures.table
    (byte_of-word c.args.what.now (sym c.entry.ensures.entry ∙ c.in-None.is))

pub returns-in-Some : goal.returns-in-Some
returns-in-Some c =
    c.u32_at-in-Some.ensures.number
    ∙ field_in_table c.args.self.now.geometry c.args.self.now.image c.args.what.now c.table_of.result c.block-table.result.now.0 _ c.block-table.ensures.bytes c.table_of.ensures.table
    (byte_of-entry c.args.what.now c.in-Some.entry (sym c.entry.ensures.entry ∙ c.in-Some.is))
