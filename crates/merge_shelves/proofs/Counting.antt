-- One count rose: so did the sum.
use Rattle.std.proofs.Common.{◌≡◌, ◌≢◌, ◌+◌, arith}
use Rattle.vol_base.specs.declared.answer.MergeCounts.{MergeCounts}
use Rattle.merge_decide.specs.declared.outcome.MergeCount.{MergeCount}
use Rattle.merge_decide.specs.declared.outcome.MergeCount.TheVariants as counts
use Rattle.merge_decide.specs.Counted.{count_in}
use Rattle.merge_shelves.specs.Tallies.{IsRaised, total}

more : (one : MergeCount) (old new : MergeCounts) → count_in one new ≡ count_in one old + 1
    → ((other : MergeCount) → other ≢ one → count_in other new ≡ count_in other old) → total new ≡ total old + 1
more counts.Stale old new raised others =
    let e0 = others counts.Unique (λ same. cc) in
    let e1 = others counts.Linked (λ same. cc) in
    let e2 = others counts.Already (λ same. cc) in
    let e3 = others counts.Differs (λ same. cc) in
    let e4 = others counts.Gone (λ same. cc) in
    let e5 = others counts.Posted (λ same. cc) in
    let e6 = others counts.Full (λ same. cc) in
    let e7 = others counts.Skipped (λ same. cc) in
    omega (arith, raised, e0, e1, e2, e3, e4, e5, e6, e7)
more counts.Unique old new raised others =
    let e0 = others counts.Stale (λ same. cc) in
    let e1 = others counts.Linked (λ same. cc) in
    let e2 = others counts.Already (λ same. cc) in
    let e3 = others counts.Differs (λ same. cc) in
    let e4 = others counts.Gone (λ same. cc) in
    let e5 = others counts.Posted (λ same. cc) in
    let e6 = others counts.Full (λ same. cc) in
    let e7 = others counts.Skipped (λ same. cc) in
    omega (arith, raised, e0, e1, e2, e3, e4, e5, e6, e7)
more counts.Linked old new raised others =
    let e0 = others counts.Stale (λ same. cc) in
    let e1 = others counts.Unique (λ same. cc) in
    let e2 = others counts.Already (λ same. cc) in
    let e3 = others counts.Differs (λ same. cc) in
    let e4 = others counts.Gone (λ same. cc) in
    let e5 = others counts.Posted (λ same. cc) in
    let e6 = others counts.Full (λ same. cc) in
    let e7 = others counts.Skipped (λ same. cc) in
    omega (arith, raised, e0, e1, e2, e3, e4, e5, e6, e7)
more counts.Already old new raised others =
    let e0 = others counts.Stale (λ same. cc) in
    let e1 = others counts.Unique (λ same. cc) in
    let e2 = others counts.Linked (λ same. cc) in
    let e3 = others counts.Differs (λ same. cc) in
    let e4 = others counts.Gone (λ same. cc) in
    let e5 = others counts.Posted (λ same. cc) in
    let e6 = others counts.Full (λ same. cc) in
    let e7 = others counts.Skipped (λ same. cc) in
    omega (arith, raised, e0, e1, e2, e3, e4, e5, e6, e7)
more counts.Differs old new raised others =
    let e0 = others counts.Stale (λ same. cc) in
    let e1 = others counts.Unique (λ same. cc) in
    let e2 = others counts.Linked (λ same. cc) in
    let e3 = others counts.Already (λ same. cc) in
    let e4 = others counts.Gone (λ same. cc) in
    let e5 = others counts.Posted (λ same. cc) in
    let e6 = others counts.Full (λ same. cc) in
    let e7 = others counts.Skipped (λ same. cc) in
    omega (arith, raised, e0, e1, e2, e3, e4, e5, e6, e7)
more counts.Gone old new raised others =
    let e0 = others counts.Stale (λ same. cc) in
    let e1 = others counts.Unique (λ same. cc) in
    let e2 = others counts.Linked (λ same. cc) in
    let e3 = others counts.Already (λ same. cc) in
    let e4 = others counts.Differs (λ same. cc) in
    let e5 = others counts.Posted (λ same. cc) in
    let e6 = others counts.Full (λ same. cc) in
    let e7 = others counts.Skipped (λ same. cc) in
    omega (arith, raised, e0, e1, e2, e3, e4, e5, e6, e7)
more counts.Posted old new raised others =
    let e0 = others counts.Stale (λ same. cc) in
    let e1 = others counts.Unique (λ same. cc) in
    let e2 = others counts.Linked (λ same. cc) in
    let e3 = others counts.Already (λ same. cc) in
    let e4 = others counts.Differs (λ same. cc) in
    let e5 = others counts.Gone (λ same. cc) in
    let e6 = others counts.Full (λ same. cc) in
    let e7 = others counts.Skipped (λ same. cc) in
    omega (arith, raised, e0, e1, e2, e3, e4, e5, e6, e7)
more counts.Full old new raised others =
    let e0 = others counts.Stale (λ same. cc) in
    let e1 = others counts.Unique (λ same. cc) in
    let e2 = others counts.Linked (λ same. cc) in
    let e3 = others counts.Already (λ same. cc) in
    let e4 = others counts.Differs (λ same. cc) in
    let e5 = others counts.Gone (λ same. cc) in
    let e6 = others counts.Posted (λ same. cc) in
    let e7 = others counts.Skipped (λ same. cc) in
    omega (arith, raised, e0, e1, e2, e3, e4, e5, e6, e7)
more counts.Skipped old new raised others =
    let e0 = others counts.Stale (λ same. cc) in
    let e1 = others counts.Unique (λ same. cc) in
    let e2 = others counts.Linked (λ same. cc) in
    let e3 = others counts.Already (λ same. cc) in
    let e4 = others counts.Differs (λ same. cc) in
    let e5 = others counts.Gone (λ same. cc) in
    let e6 = others counts.Posted (λ same. cc) in
    let e7 = others counts.Full (λ same. cc) in
    omega (arith, raised, e0, e1, e2, e3, e4, e5, e6, e7)

pub is_raised : (one : MergeCount) (old new : MergeCounts) → count_in one new ≡ count_in one old + 1
    → ((other : MergeCount) → other ≢ one → count_in other new ≡ count_in other old) → IsRaised one old new
is_raised one old new raised others = record { raised = raised; others = others; more = more one old new raised others }
