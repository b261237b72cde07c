use Rattle.std.proofs.Common.{◌∙◌, sym}
use Rattle.vol_layout.specs.Ranges as ranges
use Rattle.hint_plans.specs.laws.ScribbleLaws.{scribbled_other}
use Rattle.hint_plans.proofs.scribbling.scribbled.Goals as goal

pub returns-in_default : goal.returns-in_default
unfolding ranges.per_table
returns-in_default c =
    c.one_entry-in_default.ensures ∙ sym (scribbled_other c.args.kind c.args.digest c.args.seen c.in_default.not-Log c.in_default.not-Shard)
