use Rattle.std.proofs.Common.{◌∙◌, sym, ap}
use Rattle.std.specs.Prelude.{Contains}
use Rattle.std.proofs.lemmas.List.Elements.{All-contains, All-weaker}
use Rattle.vol_base.specs.Grows.{BeginsWith}
use Rattle.turn_lock.specs.Follows.{Follows}
use Rattle.turn_lock.specs.Views.{SeatView}
use Rattle.turn_lock.proofs.Keeps.{ends, ends_with}
use Rattle.turn_lock.proofs.lock.TurnLock.close.Goals as goal

pub unreachable-requires : goal.unreachable-requires
unreachable-requires g c =
    let all = c.merged-place.ensures.all in
    let parts = all.all ∙ (c.requires.all ∙ ap (λ l. l.seats) (sym c.self.view_is)) in
    let end = ends g.T.Begun.began g.T.Counted.listed _ _ _ c.merged-place.result.me.0 _ _ c.take-home.result all.waits parts c.close_with-closed.ensures.values.2 c.take-home.ensures.value in
    c.in_default.not-Some end.0 end.1

pub returns-clause-began : goal.returns-clause-began
returns-clause-began g c =
    let all = c.merged-place.ensures.all in
    let parts = all.all ∙ (c.requires.all ∙ ap (λ l. l.seats) (sym c.self.view_is)) in
    let end = ends_with g.T.Begun.began g.T.Counted.listed _ _ _ c.merged-place.result.me.0 _ _ c.take-home.result c.in-Some.value all.waits parts c.close_with-closed.ensures.values.2 c.take-home.ensures.value c.in-Some.is in
    end.0 ∙ ap (λ l. g.T.Begun.began l.first) c.self.view_is

pub returns-clause-entries : goal.returns-clause-entries
returns-clause-entries g c =
    let all = c.merged-place.ensures.all in
    let parts = all.all ∙ (c.requires.all ∙ ap (λ l. l.seats) (sym c.self.view_is)) in
    let end = ends_with g.T.Begun.began g.T.Counted.listed _ _ _ c.merged-place.result.me.0 _ _ c.take-home.result c.in-Some.value all.waits parts c.close_with-closed.ensures.values.2 c.take-home.ensures.value c.in-Some.is in
    let F : g.row.T.Denot → Type 0 = λ old. Follows g.T.Begun.began g.T.Counted.listed old c.in-Some.value in
    All-weaker (λ (seat : SeatView g.row.T.Denot). Contains c.merged-place.result.me.0.seen seat.seen)
    (λ (seat : SeatView g.row.T.Denot). BeginsWith (g.T.Counted.listed seat.seen) (g.T.Counted.listed c.in-Some.value))
    (λ seat there. (All-contains F c.merged-place.result.me.0.seen seat.seen end.1 there).entries)
    c.args.seats.items all.seen
