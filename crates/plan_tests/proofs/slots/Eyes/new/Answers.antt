use Rattle.plan_tests.proofs.SlotLaws.{none_seen}
use Rattle.plan_tests.proofs.slots.Eyes.new.Goals as goal

pub invariant_of-result : goal.invariant_of-result
invariant_of-result c = record { seen = none_seen c.new.result c.new.ensures }
