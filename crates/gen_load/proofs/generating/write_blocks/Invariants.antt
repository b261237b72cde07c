use Rattle.std.proofs.Common.{◌∷◌, []}
use Rattle.gen_load.specs.Generated.{Gains, each_below, write_line}
use Rattle.gen_load.proofs.generating.write_blocks.Given as goal

abbrev pub invariant-loop-k : goal.invariant-loop-k
invariant-loop-k l = Gains l.initial.text l.text (each_below l.k (λ k. write_line l.round l.host k ∷ []))
