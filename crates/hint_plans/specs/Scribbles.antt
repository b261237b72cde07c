-- The block of one hint that a `scribble` writes, and its first step.
use Rattle.std.specs.Prelude.{◌/◌, ◌%◌, ℕ, List, [], ◌∷◌, Option, Some, codes, if◌then◌else◌}
use Rattle.vol_base.specs.declared.answer.Answer.TheVariants.{Refused}
use Rattle.vol_base.specs.declared.block.Digest.{Digest}
use Rattle.vol_base.specs.NumberBlock.{number_block}
use Rattle.vol_layout.specs.declared.geometry.Geometry.{Geometry}
use Rattle.vol_layout.specs.declared.kind.Kind.{Kind}
use Rattle.vol_layout.specs.declared.kind.Kind.TheVariants as kinds
use Rattle.vol_layout.specs.Ranges.{per_table}
use Rattle.hint_blocks.specs.Entries.{spelled}
use Rattle.hint_blocks.specs.HintLists.{hint_block}
use Rattle.host_runs.specs.FileUses.{is_hint_place}
use Rattle.hint_plans.specs.declared.plan.Come.{Come}
use Rattle.hint_plans.specs.declared.plan.Come.TheVariants.{Uncalled, Works}
use Rattle.hint_plans.specs.declared.plan.Doing.TheVariants.{Asks}
use Rattle.hint_plans.specs.declared.plan.Scribble.{Scribble}

-- the magic of a block of hints, by its kind
abbrev pub magic_of : Option Kind → List ℕ
magic_of (Some (kinds.Log h l)) = codes "DEDELOGS"
magic_of (Some (kinds.Shard s)) = codes "DEDEINDX"
magic_of kind = codes "DEDEREQS"

-- where a hint says that its block was seen: a log has a file and an index, a shard a slot, and a request an index and a slot
abbrev pub seen_numbers : Option Kind → ℕ → List ℕ
seen_numbers (Some (kinds.Log h l)) seen = seen / per_table ∷ seen % per_table ∷ 0 ∷ []
seen_numbers (Some (kinds.Shard s)) seen = 1 ∷ seen ∷ 0 ∷ []
seen_numbers kind seen = seen % per_table ∷ seen / per_table ∷ 0 ∷ []

-- the block of one hint
abbrev pub scribbled : Option Kind → Digest → ℕ → List ℕ
scribbled kind digest seen = hint_block (magic_of kind) (spelled digest (seen_numbers kind seen) ∷ [])

-- the first step: the digest is waited for where the place is one of hints
abbrev pub first_step : Geometry → Scribble → Come
first_step g s = if is_hint_place g s.place then Works (Asks s) (number_block s.number) else Uncalled Refused
