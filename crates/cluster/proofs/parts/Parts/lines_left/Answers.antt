use Rattle.std.proofs.Common.{◌≡◌, ◌<◌, List, Option, length, sym, subst, ap, ◌∙◌}
use Rattle.vol_base.specs.declared.answer.Answer.{Answer}
use Rattle.workload.specs.declared.line.Line.{Line}
use Rattle.cluster.specs.LinesLeft.{lines_left}
use Rattle.cluster.specs.Views.{PartsView}
use Rattle.cluster.proofs.parts.Parts.lines_left.Goals as goal

pub lines_left-requires-clause-few : goal.lines_left-requires-clause-few
lines_left-requires-clause-few g c =
    subst (λ (lines : List Line). length lines < 4294967296) (sym c.as_slice.ensures)
    (subst (λ (v : PartsView). length v.workload.lines < 4294967296) (sym c.self.view_is) c.requires.sound.few)

pub lines_left-requires-clause-long : goal.lines_left-requires-clause-long
lines_left-requires-clause-long g c =
    ap (λ (given : List (Option Answer)). length given) c.answers.ensures
    ∙ subst (λ (v : PartsView). length v.ledger.answers ≡ length v.workload.lines) (sym c.self.view_is) c.requires.sound.long
    ∙ ap (λ (lines : List Line). length lines) (sym c.as_slice.ensures)

pub returns-clause-is : goal.returns-clause-is
returns-clause-is g c =
    subst (λ (v : PartsView). c.lines_left.result ≡ lines_left v.workload.lines v.ledger.answers v.phase) c.self.view_is
    (c.lines_left.ensures.is ∙ ap (λ (lines : List Line). lines_left lines c.answers.result.now c.self.inside.phase) c.as_slice.ensures
    ∙ ap (λ (given : List (Option Answer)). lines_left c.self.inside.workload.lines given c.self.inside.phase) c.answers.ensures)
