use Rattle.volume_check.proofs.records.is_borne_out.Goals as goal

pub returns-then-is_held_by : goal.returns-then-is_held_by
returns-then-is_held_by c = (
  λ t.
      let held = c.is_held_by.ensures.0 c.if-is_held_by.true in
      ((c.requires, rw (c.resource_of-resource.ensures.resource, c.key.ensures) at held), c.has_counts.ensures.0 t),
  λ both. c.has_counts.ensures.1 both.1,
)

pub returns-else-is_held_by : goal.returns-else-is_held_by
returns-else-is_held_by c = (
  λ t. let no = c.if-is_held_by.false in absurd cc,
  λ both. c.is_held_by.ensures.1 (rw (c.resource_of-resource.ensures.resource, c.key.ensures) both.0.1),
)
