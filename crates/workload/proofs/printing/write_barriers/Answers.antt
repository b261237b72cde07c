use Rattle.std.proofs.Common.{◌≡◌, ◌-◌, ◌++◌, ℕ, List, ap, ◌∙◌, arith, string_bytes}
use Rattle.std.specs.Prelude.{codes}
use Rattle.workload.specs.Printed.{barrier_lines, ended}
use Rattle.workload.proofs.LineEnds.{barriers-begin, barriers-more}
use Rattle.workload.proofs.printing.write_barriers.Goals as goal

pub loop-phase-init : goal.loop-phase-init
loop-phase-init c = record { written = barriers-begin c.args.from (string_bytes c.args.text.now); within = omega arith }

pub loop-phase-preserved : goal.loop-phase-preserved
loop-phase-preserved c =
    record {
      written =
          c.in_ok-push_str.ensures.bytes
          ∙ ap (λ (xs : List ℕ). xs ++ codes "barrier\n") c.loop-phase.invariant.written
          ∙ barriers-more c.args.from c.loop-phase._phase (string_bytes c.args.text.now) (omega arith);
      within = omega arith;
    }

pub returns : goal.returns
returns c =
    let all : c.loop-phase._phase - c.args.from ≡ c.args.to - c.args.from = omega arith in
    c.loop-phase.invariant.written ∙ ap (λ (n : ℕ). string_bytes c.args.text.now ++ ended (barrier_lines n)) all
