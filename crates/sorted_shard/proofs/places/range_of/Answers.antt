use Rattle.sorted_shard.proofs.Sorting.{Places, inside, outside, places_in_order}
use Rattle.sorted_shard.proofs.places.range_of.Goals.{After-count_up_to}
use Rattle.sorted_shard.proofs.places.range_of.Goals as goal

places : (c : After-count_up_to) → Places c.args.entries.now c.args.digest.now.0 c.count_below.result c.count_up_to.result
places c = record {
  start_within = c.count_below.ensures.within;
  end_within = c.count_up_to.ensures.within;
  below = c.count_below.ensures.below;
  not_below = c.count_below.ensures.others;
  up_to = c.count_up_to.ensures.up_to;
  above = c.count_up_to.ensures.others;
}

pub returns-clause-order : goal.returns-clause-order
returns-clause-order c = places_in_order c.args.entries.now c.args.digest.now.0 c.count_below.result c.count_up_to.result (places c)

pub returns-clause-inside : goal.returns-clause-inside
returns-clause-inside c = inside c.args.entries.now c.args.digest.now.0 c.count_below.result c.count_up_to.result (places c)

pub returns-clause-outside : goal.returns-clause-outside
returns-clause-outside c = outside c.args.entries.now c.args.digest.now.0 c.count_below.result c.count_up_to.result (places c)
