use Rattle.std.proofs.Common.{rules}
use Rattle.vol_layout.proofs.StartLaws.{starts_begin}
use Rattle.vol_layout.proofs.geometry.Geometry.starts.Goals as goal

pub returns-clause-begin : goal.returns-clause-begin
returns-clause-begin c = starts_begin _ _ (search rules)
