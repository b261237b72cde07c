use Rattle.file_plans.specs.declared.stage.Stage.TheVariants as stages
use Rattle.file_plans.specs.laws.PlanLaws.{errs_at, oks_at}
use Rattle.file_plans.proofs.stepping.steps.Goals as goal
use Rattle.file_plans.specs.laws.TurnStepLaws.{sooners_at}

pub returns-in-Begins-clause-step : goal.returns-in-Begins-clause-step
returns-in-Begins-clause-step g c =
    oks_at c.args.world.now c.begins.new.world c.begins.new.cache c.args.core.now c.begins.new.core c.args.stage stages.Begins
    c.begins.result c.in-Begins.is c.begins.ensures.went

pub returns-in-Begins-clause-cut : goal.returns-in-Begins-clause-cut
returns-in-Begins-clause-cut g c =
    errs_at c.args.world.now c.begins.new.world c.args.core.now c.args.stage stages.Begins
    c.begins.result c.in-Begins.is c.begins.ensures.cut

pub returns-in-Writes-clause-step : goal.returns-in-Writes-clause-step
returns-in-Writes-clause-step g c =
    oks_at c.args.world.now c.writes.new.world c.args.cache.now c.args.core.now c.writes.new.core c.args.stage (stages.Writes c.in-Writes.taking)
    c.writes.result c.in-Writes.is c.writes.ensures.went

pub returns-in-Writes-clause-cut : goal.returns-in-Writes-clause-cut
returns-in-Writes-clause-cut g c =
    errs_at c.args.world.now c.writes.new.world c.args.core.now c.args.stage (stages.Writes c.in-Writes.taking)
    c.writes.result c.in-Writes.is c.writes.ensures.cut

pub returns-in-Reads-clause-step : goal.returns-in-Reads-clause-step
returns-in-Reads-clause-step g c =
    oks_at c.args.world.now c.reads.new.world c.args.cache.now c.args.core.now c.reads.new.core c.args.stage (stages.Reads c.in-Reads.taking)
    c.reads.result c.in-Reads.is c.reads.ensures.went

pub returns-in-Reads-clause-cut : goal.returns-in-Reads-clause-cut
returns-in-Reads-clause-cut g c =
    errs_at c.args.world.now c.reads.new.world c.args.core.now c.args.stage (stages.Reads c.in-Reads.taking)
    c.reads.result c.in-Reads.is c.reads.ensures.cut

pub returns-in-GivesBack-clause-step : goal.returns-in-GivesBack-clause-step
returns-in-GivesBack-clause-step g c =
    oks_at c.args.world.now c.gives_back.new.world c.gives_back.new.cache c.args.core.now c.gives_back.new.core c.args.stage (stages.GivesBack
    c.in-GivesBack.taking)
    c.gives_back.result c.in-GivesBack.is c.gives_back.ensures.went

pub returns-in-GivesBack-clause-cut : goal.returns-in-GivesBack-clause-cut
returns-in-GivesBack-clause-cut g c =
    errs_at c.args.world.now c.gives_back.new.world c.args.core.now c.args.stage (stages.GivesBack c.in-GivesBack.taking)
    c.gives_back.result c.in-GivesBack.is c.gives_back.ensures.cut

pub returns-in-Sees-clause-step : goal.returns-in-Sees-clause-step
returns-in-Sees-clause-step g c =
    oks_at c.args.world.now c.sees.new.world c.sees.new.cache c.args.core.now c.sees.new.core c.args.stage stages.Sees
    c.sees.result c.in-Sees.is c.sees.ensures.went

pub returns-in-Sees-clause-cut : goal.returns-in-Sees-clause-cut
returns-in-Sees-clause-cut g c =
    errs_at c.args.world.now c.sees.new.world c.args.core.now c.args.stage stages.Sees
    c.sees.result c.in-Sees.is c.sees.ensures.cut

pub returns-in-Searches-clause-step : goal.returns-in-Searches-clause-step
returns-in-Searches-clause-step g c =
    oks_at c.args.world.now c.searches.new.world c.args.cache.now c.args.core.now c.searches.new.core c.args.stage (stages.Searches
    c.in-Searches.old c.in-Searches.shared c.in-Searches.search)
    c.searches.result c.in-Searches.is c.searches.ensures.went

pub returns-in-Searches-clause-cut : goal.returns-in-Searches-clause-cut
returns-in-Searches-clause-cut g c =
    errs_at c.args.world.now c.searches.new.world c.args.core.now c.args.stage (stages.Searches c.in-Searches.old c.in-Searches.shared
    c.in-Searches.search)
    c.searches.result c.in-Searches.is c.searches.ensures.cut

pub returns-in-LocksShared-clause-step : goal.returns-in-LocksShared-clause-step
returns-in-LocksShared-clause-step g c =
    oks_at c.args.world.now c.locks_shared.new.world c.args.cache.now c.args.core.now c.locks_shared.new.core c.args.stage (stages.LocksShared
    c.in-LocksShared.old c.in-LocksShared.number c.in-LocksShared.group)
    c.locks_shared.result c.in-LocksShared.is c.locks_shared.ensures.went

pub returns-in-LocksShared-clause-cut : goal.returns-in-LocksShared-clause-cut
returns-in-LocksShared-clause-cut g c =
    errs_at c.args.world.now c.locks_shared.new.world c.args.core.now c.args.stage (stages.LocksShared c.in-LocksShared.old
    c.in-LocksShared.number c.in-LocksShared.group)
    c.locks_shared.result c.in-LocksShared.is c.locks_shared.ensures.cut

pub returns-in-FetchesShared-clause-step : goal.returns-in-FetchesShared-clause-step
returns-in-FetchesShared-clause-step g c =
    oks_at c.args.world.now c.fetches_shared.new.world c.args.cache.now c.args.core.now c.fetches_shared.new.core c.args.stage
    (stages.FetchesShared c.in-FetchesShared.old c.in-FetchesShared.number c.in-FetchesShared.group)
    c.fetches_shared.result c.in-FetchesShared.is c.fetches_shared.ensures.went

pub returns-in-FetchesShared-clause-cut : goal.returns-in-FetchesShared-clause-cut
returns-in-FetchesShared-clause-cut g c =
    errs_at c.args.world.now c.fetches_shared.new.world c.args.core.now c.args.stage (stages.FetchesShared c.in-FetchesShared.old
    c.in-FetchesShared.number c.in-FetchesShared.group)
    c.fetches_shared.result c.in-FetchesShared.is c.fetches_shared.ensures.cut

pub returns-in-Puts-clause-step : goal.returns-in-Puts-clause-step
returns-in-Puts-clause-step g c =
    oks_at c.args.world.now c.puts.new.world c.args.cache.now c.args.core.now c.puts.new.core c.args.stage (stages.Puts c.in-Puts.fresh)
    c.puts.result c.in-Puts.is c.puts.ensures.went

pub returns-in-Puts-clause-cut : goal.returns-in-Puts-clause-cut
returns-in-Puts-clause-cut g c =
    errs_at c.args.world.now c.puts.new.world c.args.core.now c.args.stage (stages.Puts c.in-Puts.fresh)
    c.puts.result c.in-Puts.is c.puts.ensures.cut

pub returns-in-Fills-clause-step : goal.returns-in-Fills-clause-step
returns-in-Fills-clause-step g c =
    oks_at c.args.world.now c.fills.new.world c.args.cache.now c.args.core.now c.fills.new.core c.args.stage (stages.Fills c.in-Fills.fresh)
    c.fills.result c.in-Fills.is c.fills.ensures.went

pub returns-in-Fills-clause-cut : goal.returns-in-Fills-clause-cut
returns-in-Fills-clause-cut g c =
    errs_at c.args.world.now c.fills.new.world c.args.core.now c.args.stage (stages.Fills c.in-Fills.fresh)
    c.fills.result c.in-Fills.is c.fills.ensures.cut

pub returns-in-Locks-clause-step : goal.returns-in-Locks-clause-step
returns-in-Locks-clause-step g c =
    oks_at c.args.world.now c.locks.new.world c.args.cache.now c.args.core.now c.locks.new.core c.args.stage (stages.Locks c.in-Locks.change)
    c.locks.result c.in-Locks.is c.locks.ensures.went

pub returns-in-Locks-clause-cut : goal.returns-in-Locks-clause-cut
returns-in-Locks-clause-cut g c =
    errs_at c.args.world.now c.locks.new.world c.args.core.now c.args.stage (stages.Locks c.in-Locks.change)
    c.locks.result c.in-Locks.is c.locks.ensures.cut

pub returns-in-Fetches-clause-step : goal.returns-in-Fetches-clause-step
returns-in-Fetches-clause-step g c =
    oks_at c.args.world.now c.fetches.new.world c.args.cache.now c.args.core.now c.fetches.new.core c.args.stage (stages.Fetches c.in-Fetches.change)
    c.fetches.result c.in-Fetches.is c.fetches.ensures.went

pub returns-in-Fetches-clause-cut : goal.returns-in-Fetches-clause-cut
returns-in-Fetches-clause-cut g c =
    errs_at c.args.world.now c.fetches.new.world c.args.core.now c.args.stage (stages.Fetches c.in-Fetches.change)
    c.fetches.result c.in-Fetches.is c.fetches.ensures.cut

pub returns-in-Changes-clause-step : goal.returns-in-Changes-clause-step
returns-in-Changes-clause-step g c =
    oks_at c.args.world.now c.changes.new.world c.args.cache.now c.args.core.now c.changes.new.core c.args.stage (stages.Changes
    c.in-Changes.change c.in-Changes.group)
    c.changes.result c.in-Changes.is c.changes.ensures.went

pub returns-in-Changes-clause-cut : goal.returns-in-Changes-clause-cut
returns-in-Changes-clause-cut g c =
    errs_at c.args.world.now c.changes.new.world c.args.core.now c.args.stage (stages.Changes c.in-Changes.change c.in-Changes.group)
    c.changes.result c.in-Changes.is c.changes.ensures.cut

pub returns-in-Applies-clause-step : goal.returns-in-Applies-clause-step
returns-in-Applies-clause-step g c =
    oks_at c.args.world.now c.applies.new.world c.applies.new.cache c.args.core.now c.applies.new.core c.args.stage (stages.Applies
    c.in-Applies.applying)
    c.applies.result c.in-Applies.is c.applies.ensures.went

pub returns-in-Applies-clause-cut : goal.returns-in-Applies-clause-cut
returns-in-Applies-clause-cut g c =
    errs_at c.args.world.now c.applies.new.world c.args.core.now c.args.stage (stages.Applies c.in-Applies.applying)
    c.applies.result c.in-Applies.is c.applies.ensures.cut

pub returns-in-Frees-clause-step : goal.returns-in-Frees-clause-step
returns-in-Frees-clause-step g c =
    oks_at c.args.world.now c.frees.new.world c.args.cache.now c.args.core.now c.frees.new.core c.args.stage stages.Frees
    c.frees.result c.in-Frees.is c.frees.ensures.went

pub returns-in-Frees-clause-cut : goal.returns-in-Frees-clause-cut
returns-in-Frees-clause-cut g c =
    errs_at c.args.world.now c.frees.new.world c.args.core.now c.args.stage stages.Frees
    c.frees.result c.in-Frees.is c.frees.ensures.cut

pub returns-in-Begins-clause-sooner : goal.returns-in-Begins-clause-sooner
returns-in-Begins-clause-sooner g c =
    sooners_at c.args.world.now c.begins.new.world c.args.cache.now c.begins.new.cache c.args.core.now c.begins.new.core c.args.stage stages.Begins
    c.begins.result c.in-Begins.is c.begins.ensures.sooner

pub returns-in-Writes-clause-sooner : goal.returns-in-Writes-clause-sooner
returns-in-Writes-clause-sooner g c =
    sooners_at c.args.world.now c.writes.new.world c.args.cache.now c.args.cache.now c.args.core.now c.writes.new.core c.args.stage
    (stages.Writes c.in-Writes.taking)
    c.writes.result c.in-Writes.is c.writes.ensures.sooner

pub returns-in-Reads-clause-sooner : goal.returns-in-Reads-clause-sooner
returns-in-Reads-clause-sooner g c =
    sooners_at c.args.world.now c.reads.new.world c.args.cache.now c.args.cache.now c.args.core.now c.reads.new.core c.args.stage (stages.Reads
    c.in-Reads.taking)
    c.reads.result c.in-Reads.is c.reads.ensures.sooner

pub returns-in-GivesBack-clause-sooner : goal.returns-in-GivesBack-clause-sooner
returns-in-GivesBack-clause-sooner g c =
    sooners_at c.args.world.now c.gives_back.new.world c.args.cache.now c.gives_back.new.cache c.args.core.now c.gives_back.new.core c.args.stage
    (stages.GivesBack c.in-GivesBack.taking)
    c.gives_back.result c.in-GivesBack.is c.gives_back.ensures.sooner

pub returns-in-Sees-clause-sooner : goal.returns-in-Sees-clause-sooner
returns-in-Sees-clause-sooner g c =
    sooners_at c.args.world.now c.sees.new.world c.args.cache.now c.sees.new.cache c.args.core.now c.sees.new.core c.args.stage stages.Sees
    c.sees.result c.in-Sees.is c.sees.ensures.sooner

pub returns-in-Searches-clause-sooner : goal.returns-in-Searches-clause-sooner
returns-in-Searches-clause-sooner g c =
    sooners_at c.args.world.now c.searches.new.world c.args.cache.now c.args.cache.now c.args.core.now c.searches.new.core c.args.stage
    (stages.Searches c.in-Searches.old c.in-Searches.shared c.in-Searches.search)
    c.searches.result c.in-Searches.is c.searches.ensures.sooner

pub returns-in-LocksShared-clause-sooner : goal.returns-in-LocksShared-clause-sooner
returns-in-LocksShared-clause-sooner g c =
    sooners_at c.args.world.now c.locks_shared.new.world c.args.cache.now c.args.cache.now c.args.core.now c.locks_shared.new.core c.args.stage
    (stages.LocksShared c.in-LocksShared.old c.in-LocksShared.number c.in-LocksShared.group)
    c.locks_shared.result c.in-LocksShared.is c.locks_shared.ensures.sooner

pub returns-in-FetchesShared-clause-sooner : goal.returns-in-FetchesShared-clause-sooner
returns-in-FetchesShared-clause-sooner g c =
    sooners_at c.args.world.now c.fetches_shared.new.world c.args.cache.now c.args.cache.now c.args.core.now c.fetches_shared.new.core
    c.args.stage (stages.FetchesShared c.in-FetchesShared.old c.in-FetchesShared.number c.in-FetchesShared.group)
    c.fetches_shared.result c.in-FetchesShared.is c.fetches_shared.ensures.sooner

pub returns-in-Puts-clause-sooner : goal.returns-in-Puts-clause-sooner
returns-in-Puts-clause-sooner g c =
    sooners_at c.args.world.now c.puts.new.world c.args.cache.now c.args.cache.now c.args.core.now c.puts.new.core c.args.stage (stages.Puts
    c.in-Puts.fresh)
    c.puts.result c.in-Puts.is c.puts.ensures.sooner

pub returns-in-Fills-clause-sooner : goal.returns-in-Fills-clause-sooner
returns-in-Fills-clause-sooner g c =
    sooners_at c.args.world.now c.fills.new.world c.args.cache.now c.args.cache.now c.args.core.now c.fills.new.core c.args.stage (stages.Fills
    c.in-Fills.fresh)
    c.fills.result c.in-Fills.is c.fills.ensures.sooner

pub returns-in-Locks-clause-sooner : goal.returns-in-Locks-clause-sooner
returns-in-Locks-clause-sooner g c =
    sooners_at c.args.world.now c.locks.new.world c.args.cache.now c.args.cache.now c.args.core.now c.locks.new.core c.args.stage (stages.Locks
    c.in-Locks.change)
    c.locks.result c.in-Locks.is c.locks.ensures.sooner

pub returns-in-Fetches-clause-sooner : goal.returns-in-Fetches-clause-sooner
returns-in-Fetches-clause-sooner g c =
    sooners_at c.args.world.now c.fetches.new.world c.args.cache.now c.args.cache.now c.args.core.now c.fetches.new.core c.args.stage
    (stages.Fetches c.in-Fetches.change)
    c.fetches.result c.in-Fetches.is c.fetches.ensures.sooner

pub returns-in-Changes-clause-sooner : goal.returns-in-Changes-clause-sooner
returns-in-Changes-clause-sooner g c =
    sooners_at c.args.world.now c.changes.new.world c.args.cache.now c.args.cache.now c.args.core.now c.changes.new.core c.args.stage
    (stages.Changes c.in-Changes.change c.in-Changes.group)
    c.changes.result c.in-Changes.is c.changes.ensures.sooner

pub returns-in-Applies-clause-sooner : goal.returns-in-Applies-clause-sooner
returns-in-Applies-clause-sooner g c =
    sooners_at c.args.world.now c.applies.new.world c.args.cache.now c.applies.new.cache c.args.core.now c.applies.new.core c.args.stage
    (stages.Applies c.in-Applies.applying)
    c.applies.result c.in-Applies.is c.applies.ensures.sooner

pub returns-in-Frees-clause-sooner : goal.returns-in-Frees-clause-sooner
returns-in-Frees-clause-sooner g c =
    sooners_at c.args.world.now c.frees.new.world c.args.cache.now c.args.cache.now c.args.core.now c.frees.new.core c.args.stage stages.Frees
    c.frees.result c.in-Frees.is c.frees.ensures.sooner
