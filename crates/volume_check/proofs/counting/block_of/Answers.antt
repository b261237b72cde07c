use Rattle.std.proofs.Common.{refl}
use Rattle.std.proofs.lemmas.Bool.{eq-eqb, ne_eqb}
use Rattle.volume_check.proofs.counting.block_of.Goals as goal

pub returns-then-table-eq0 : goal.returns-then-table-eq0
returns-then-table-eq0 c = rw (eq-eqb c.args.table 0 c.if-table-eq0.true) refl

pub returns-else-table-eq0 : goal.returns-else-table-eq0
returns-else-table-eq0 c = rw (ne_eqb c.args.table 0 c.if-table-eq0.false) refl
