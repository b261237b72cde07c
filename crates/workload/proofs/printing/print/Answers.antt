use Rattle.std.proofs.Common.{◌≡◌, ◌≤◌, ◌∷◌, ◌++◌, [], ℕ, List, Ok, length, subst, ap, ◌∙◌}
use Rattle.std.proofs.lemmas.Result.{IfOk-weaker}
use Rattle.workload.specs.Grammar.{most_bytes, workload_of}
use Rattle.workload.specs.Printed.{IsPrintable, text_of}
use Rattle.workload.proofs.LineEnds.{text_of-same, workload_of-text_of}
use Rattle.workload.specs.Workloads.{IsWorkload}
use Rattle.workload.proofs.Whole.{workload_of-whole}
use Rattle.workload.proofs.printing.print.Goals as goal

pub returns-clause-reads : goal.returns-clause-reads
returns-clause-reads c =
    let w = c.args.workload.now in
    IfOk-weaker c.written.result (λ bytes. bytes.items ≡ text_of w) (λ bytes. IsPrintable w → workload_of bytes.items ≡ Ok w)
    (λ bytes text printable. ap workload_of text ∙ workload_of-text_of w printable)
    c.written.ensures

pub returns-clause-same : goal.returns-clause-same
returns-clause-same c =
    let w = c.args.workload.now in
    IfOk-weaker c.written.result (λ bytes. bytes.items ≡ text_of w) (λ bytes. (front : List ℕ) → workload_of (front ++ 10 ∷ []) ≡ Ok w → bytes.items ≡ front ++ 10 ∷ [])
    (λ bytes text front read. text ∙ text_of-same w front read)
    c.written.ensures

pub returns-clause-in_range : goal.returns-clause-in_range
returns-clause-in_range c =
    let w = c.args.workload.now in
    IfOk-weaker c.written.result (λ bytes. bytes.items ≡ text_of w) (λ bytes. IsWorkload w → length bytes.items ≤ most_bytes → workload_of bytes.items ≡ Ok w)
    (λ bytes text inside short. ap workload_of text ∙ workload_of-whole w inside (subst (λ (xs : List ℕ). length xs ≤ most_bytes) text short))
    c.written.ensures
