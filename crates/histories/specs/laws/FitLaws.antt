-- What fits before a run has begun.
use Rattle.std.proofs.Common.{ℕ, zero, suc, List, []}
use Rattle.std.specs.Prelude.{None, replicate}
use Rattle.vol_base.specs.declared.answer.Answer.{Answer}
use Rattle.workload.specs.declared.line.Line.{Line}
use Rattle.histories.specs.Lines.{IsAnswered}
use Rattle.histories.specs.Fit.{Fits}

-- where no position is answered, none is
unanswered : (n p : ℕ) (answer : Answer) → IsAnswered (replicate n None) p answer → ⊥
unanswered zero p answer h = cc
unanswered (suc n) zero answer h = cc
unanswered (suc n) (suc p) answer h = unanswered n p answer h

-- no answer and an empty history fit every workload
pub Fits-begun : (lines : List Line) (n : ℕ) → Fits lines (replicate n None) []
Fits-begun lines n = record {
  commands = λ k entry h. absurd cc;
  once = λ j k a b below h i. absurd cc;
  order = λ j k a b l m below h i same. absurd cc;
  phases = λ j k a b l m below h i. absurd cc;
  placed = λ p reply small h. absurd (unanswered n p _ h);
  placeless = λ p answer entry h placeless among. absurd (unanswered n p answer h);
  own = λ p answer line h is. absurd (unanswered n p answer h);
}
