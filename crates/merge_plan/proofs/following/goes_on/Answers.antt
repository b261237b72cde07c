use Rattle.merge_plan.specs.laws.RangeLaws.{posts_next, read_on}
use Rattle.merge_plan.proofs.following.goes_on.Goals as goal

pub after_entries-requires-clause-blocks : goal.after_entries-requires-clause-blocks
after_entries-requires-clause-blocks g c =
    read_on c.args.world.now c.args.host c.args.shelf c.args.room.now c.passes.new.sweep c.requires.open c.in-Ends.ensures.passed

pub returns-in-Posts : goal.returns-in-Posts
returns-in-Posts g c =
    let new = c.new-in-Posts.ensures in
    posts_next c.args.world.now c.args.host c.args.shelf c.args.room.now c.passes.new.sweep c.in-Posts.slot c.get-in-Posts.result c.new-in-Posts.result
    c.in-Posts.ensures.passed c.in-Posts.ensures.due c.in-Posts.ensures.sweep c.get-in-Posts.ensures c.entries_of-found.ensures.shelf
    (record { host = new.host; entry = new.entry; action_is = new.action; begins = new.acting; few = new.few })
