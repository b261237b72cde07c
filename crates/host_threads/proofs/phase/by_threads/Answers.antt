use Rattle.std.proofs.Common.{◌≡◌, ◌<◌, ◌++◌, ◌∙◌, get_or, length, take, drop, sym, ap, subst, arith}
use Rattle.std.proofs.Math.Seq.{take-append_seam}
use Rattle.vol_base.specs.Grows.{BeginsWith}
use Rattle.turn_lock.specs.Views.{SeatView}
use Rattle.host_threads.proofs.Growing.{begins_on}
use Rattle.host_threads.proofs.phase.by_threads.Goals as goal

pub returns-clause-entries : goal.returns-clause-entries
returns-clause-entries g c k seat within =
    let old = c.args.seats.items in
    let new = c.run_seats.new.seats in
    let lent = c.as_mut_slice.ensures.value in
    let ran = c.run_seats.ensures.later k seat (subst (λ l. k < length l) (sym lent) within) in
    let S : SeatView g.row.T.Denot → Type 0 = λ s. BeginsWith (g.T.Counted.listed s.seen) (g.T.Counted.listed c.close.result) in
    let long : length new ≡ length old = c.run_seats.ensures.long ∙ ap length lent in
    let count : c.args.seats.len ≡ length new = omega (arith, c.args.seats.ok, long) in
    let same : take c.args.seats.len (new ++ drop (length new) old) ≡ new =
    ap (λ n. take n (new ++ drop (length new) old)) count ∙ take-append_seam new (drop (length new) old) in
    let here : k < length new = omega (arith, long, within) in
    let last : S (get_or new k seat) =
    subst (λ l. S (get_or l k seat)) same (c.close.ensures.entries k seat (subst (λ l. k < length l) (sym same) here)) in
    begins_on _ _ _ (subst (λ l. BeginsWith (g.T.Counted.listed (get_or l k seat).seen) (g.T.Counted.listed (get_or new k seat).seen)) lent ran.entries) last
