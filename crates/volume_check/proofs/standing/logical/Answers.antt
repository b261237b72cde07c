use Rattle.std.proofs.Common.{sym, subst}
use Rattle.vol_layout.specs.Fields.{IsInRange}
use Rattle.volume_check.proofs.JournalReads.{logical_none, logical_some}
use Rattle.volume_check.proofs.PassedLaws.{logical_in_range}
use Rattle.volume_check.proofs.standing.logical.Goals as goal

pub returns-in-Some-clause-number : goal.returns-in-Some-clause-number
returns-in-Some-clause-number c = logical_some c.args.metadata.now c.args.what.now c.args.standing.now c.in-Some.number c.number_in.result c.requires.standing c.number_in.ensures c.in-Some.is

pub returns-in-Some-clause-range : goal.returns-in-Some-clause-range
returns-in-Some-clause-range c =
    let is = logical_some c.args.metadata.now c.args.what.now c.args.standing.now c.in-Some.number c.number_in.result c.requires.standing c.number_in.ensures c.in-Some.is in
    subst (IsInRange c.args.metadata.now.geometry c.args.what.now) (sym is) (logical_in_range c.args.metadata.now c.args.what.now c.requires.passed c.requires.what)

pub returns-in-None-clause-number : goal.returns-in-None-clause-number
returns-in-None-clause-number c = logical_none c.args.metadata.now c.args.what.now c.args.standing.now c.number.result c.number_in.result c.requires.standing c.number_in.ensures c.in-None.is c.number.ensures

pub returns-in-None-clause-range : goal.returns-in-None-clause-range
returns-in-None-clause-range c =
    let is = logical_none c.args.metadata.now c.args.what.now c.args.standing.now c.number.result c.number_in.result c.requires.standing c.number_in.ensures c.in-None.is c.number.ensures in
    subst (IsInRange c.args.metadata.now.geometry c.args.what.now) (sym is) (logical_in_range c.args.metadata.now c.args.what.now c.requires.passed c.requires.what)
