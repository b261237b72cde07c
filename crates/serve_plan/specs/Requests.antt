-- The requests of a block: how each is handled and counted, and what comes behind it.
use Rattle.std.specs.Prelude.{◌≡◌, ◌⊎◌, ◌+◌, ◌<◌, ◌≤◌, ℕ, List, [], None, Option, Some, codes, length, slice_get}
use Rattle.vol_base.specs.declared.answer.Answer.TheVariants as answers
use Rattle.vol_base.specs.declared.answer.ServeCounts.{ServeCounts}
use Rattle.vol_base.specs.declared.block.Block.{Block}
use Rattle.vol_layout.specs.declared.geometry.Geometry.{Geometry}
use Rattle.vol_layout.specs.declared.kind.Table.TheVariants as tables
use Rattle.hint_blocks.specs.declared.entry.Request.{Request}
use Rattle.hint_blocks.specs.Entries.{IsRequest}
use Rattle.hint_blocks.specs.HintLists.{hint_block}
use Rattle.host_runs.specs.HintCauses.{requested_hints}
use Rattle.share_plans.specs.Lefts.{left}
use Rattle.share_plans.specs.declared.share.SharePlan.{SharePlan}
use Rattle.share_plans.specs.declared.sharing.Place.TheVariants.{Arena}
use Rattle.share_plans.specs.declared.sharing.Shared.{Shared}
use Rattle.share_plans.specs.declared.sharing.Shared.TheVariants as shared
use Rattle.share_plans.specs.declared.stage.Core.{Core}
use Rattle.share_plans.specs.declared.stage.Stage.TheVariants as stages
use Rattle.serve_plan.specs.Files.{behind_file}
use Rattle.serve_plan.specs.declared.plan.Come.{Come}
use Rattle.serve_plan.specs.declared.plan.Come.TheVariants.{Answered, More}
use Rattle.serve_plan.specs.declared.plan.Doing.TheVariants.{Empties, Shares}
use Rattle.serve_plan.specs.declared.plan.Serving.{Serving}

-- how many requests were counted
abbrev pub total : ServeCounts → ℕ
total counts = counts.linked + counts.already + counts.differs + counts.gone

-- the answer of a share raises one count; where the place or the slot has no block the request is gone; a busy lock is counted nowhere
abbrev pub counted : Shared → ServeCounts → ServeCounts
counted shared.Linked counts = record counts { linked = counts.linked + 1 }
counted shared.Already counts = record counts { already = counts.already + 1 }
counted (shared.Differs at) counts = record counts { differs = counts.differs + 1 }
counted shared.Hole counts = record counts { gone = counts.gone + 1 }
counted shared.NoSource counts = record counts { gone = counts.gone + 1 }
counted (shared.Busy key) counts = counts

-- the block of requests that has none
abbrev pub empty_requests : List ℕ
empty_requests = hint_block (codes "DEDEREQS") []

-- the requests of a file are those of its block as it was read, which has some
pub record IsOpened (g : Geometry) (f : ℕ) (block : Block) (s : Serving) : Type 0 where
  pub file : s.file ≡ f
  pub bytes : s.block ≡ block
  pub entries : s.requests.entries ≡ requested_hints g block.0
  pub volume : s.requests.geometry ≡ g
  pub few : length s.requests.entries ≤ 126
  pub some : 0 < length s.requests.entries
  pub first : s.done ≡ 0

-- the share of a request: of the file's index that it names, from the slot that it names
abbrev pub core_of : ℕ → ℕ → Request → Core
core_of h f request = record { host = h; file = f; index = request.index; source = Arena request.slot; taken = []; tables = [] }

-- the share of the next request, at its beginning
pub record IsBegun (h : ℕ) (s : Serving) (share : SharePlan) : Type 0 where
  pub request : Request
  pub here : slice_get s.requests.entries s.done ≡ Some request
  pub range : IsRequest s.requests.geometry request
  pub less : s.done < length s.requests.entries
  pub core : share.core ≡ core_of h s.file request
  pub stage : share.stage ≡ stages.Reads (tables.File s.file)
  pub few : left share.core share.stage ≤ 18

-- what comes behind the requests that were handled: the next one, or the block is made empty
abbrev pub IsBehind : ℕ → Serving → Come → Type 0
IsBehind h s come =
    ((share : SharePlan) × IsBegun h s share × (come ≡ More (Shares s share)))
    ⊎ ((length s.requests.entries ≤ s.done) × (come ≡ More (Empties s.file s.block)))

-- behind the read of a block: its first request, or, where it has none, the next file
abbrev pub IsReadOf : Geometry → ℕ → ℕ → Block → Option ℕ → ServeCounts → Come → Type 0
IsReadOf g h f block next counts come =
    ((requested_hints g block.0 ≡ []) × (come ≡ behind_file next counts))
    ⊎ ((s : Serving) × IsOpened g f block s × IsBehind h s come)

-- behind a step of a share: it goes on; its busy lock is answered; or its answer is counted, and the next request comes
abbrev pub IsAnswered : ℕ → Serving → SharePlan → Option Shared → ServeCounts → ServeCounts → Come → Type 0
IsAnswered h s share None old new come = (new ≡ old) × (come ≡ More (Shares s share))
IsAnswered h s share (Some (shared.Busy key)) old new come = (new ≡ old) × (come ≡ Answered (answers.Busy key))
IsAnswered h s share (Some answer) old new come = (new ≡ counted answer old) × IsBehind h (record s { done = s.done + 1 }) come
