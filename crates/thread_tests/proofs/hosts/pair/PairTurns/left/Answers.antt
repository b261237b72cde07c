use Rattle.std.proofs.Common.{◌≡◌, ◌==◌, ℕ, Bool, true, false, not, if◌then◌else◌, refl, ap, arith}
use Rattle.std.proofs.lemmas.Bool.{eqb-true, eq-eqb, not-false}
use Rattle.thread_tests.proofs.hosts.pair.PairTurns.left.Goals as goal

-- a choice of two numbers that are 0, and 0
none_of : (p q : Bool) (a b : ℕ) → a ≡ 0 → b ≡ 0 → (if p then a else (if q then b else 0)) ≡ 0
none_of true q a b first second = first
none_of false true a b first second = second
none_of false false a b first second = refl

pub returns-clause-none : goal.returns-clause-none
returns-clause-none c =
    let a = c.args.self.now.first.1 in
    let b = c.args.self.now.second.1 in (
      (λ none h. ap not (eq-eqb (if h == 0 then a else (if h == 1 then b else 0)) 0 (none_of (h == 0) (h == 1) a b (omega arith) (omega arith)))),
      (λ idle. let first = eqb-true a 0 (not-false (a == 0) (idle 0)) in let second = eqb-true b 0 (not-false (b == 0) (idle 1)) in omega (arith, first, second)),
    )
