use Rattle.gen_load.specs.Generated.{Gains, each_below, round_lines}
use Rattle.gen_load.proofs.generating.write_rounds.Given as goal

abbrev pub invariant-loop-round : goal.invariant-loop-round
invariant-loop-round l = Gains l.initial.text l.text (each_below l.round (round_lines))
