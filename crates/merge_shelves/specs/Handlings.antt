-- What a merge does with an entry of a log.
use Rattle.std.specs.Prelude.{◌≡◌, ◌*◌, ℕ, Bool, false, List, Option, Some, None}
use Rattle.vol_base.specs.declared.answer.MergeCounts.{MergeCounts}
use Rattle.vol_base.specs.declared.block.Digest.{Digest}
use Rattle.hint_blocks.specs.declared.entry.HintTo.{HintTo}
use Rattle.hint_blocks.specs.declared.entry.HintTo.TheVariants as to
use Rattle.hint_blocks.specs.declared.entry.IndexEntry.{IndexEntry}
use Rattle.hint_blocks.specs.declared.entry.LogEntry.{LogEntry}
use Rattle.hint_blocks.specs.declared.entry.Request.{Request}
use Rattle.hint_blocks.specs.HintLists.{pushed_over}
use Rattle.merge_decide.specs.declared.action.Action.{Action}
use Rattle.merge_decide.specs.declared.action.Action.TheVariants as actions
use Rattle.merge_decide.specs.declared.outcome.Outcome.{Outcome}
use Rattle.merge_decide.specs.declared.outcome.Outcome.TheVariants as outcomes
use Rattle.merge_decide.specs.declared.outcome.PromoteOutcome.TheVariants as promoted
use Rattle.merge_decide.specs.declared.outcome.ShareOutcome.TheVariants as shared
use Rattle.merge_decide.specs.Counted.{EndsWith, counted}
use Rattle.merge_decide.specs.Decision.{decision}
use Rattle.sorted_shard.specs.Shelves.{IsSortedFrom, ShelfList, with_digest, without_digest}
use Rattle.merge_shelves.specs.Tallies.{IsRaised}
use Rattle.merge_shelves.specs.declared.handling.Done.{Done}

-- what the index gains: the entry's place, or the slot to which that place was promoted
abbrev pub put_by : LogEntry → ℕ → Action → Outcome → Option HintTo
put_by e slot actions.PutUnique outcome = Some (to.Unique e.file e.index)
put_by e slot (actions.Share s) (outcomes.Shared shared.Differs) = Some (to.Unique e.file e.index)
put_by e slot (actions.Share s) (outcomes.Shared shared.NoSource) = Some (to.Unique e.file e.index)
put_by e slot (actions.Promote f i) (outcomes.Promoted promoted.Posted) = Some (to.Shared slot)
put_by e slot (actions.Promote f i) (outcomes.Promoted (promoted.Shared outcome)) = Some (to.Shared slot)
put_by e slot action outcome = None

abbrev pub put_of : LogEntry → Done → Option HintTo
put_of e done = put_by e done.slot done.action done.outcome

-- the entries of a shelf that stay: all, or those of other digests, where the digest is told anew
abbrev pub kept_for : Action → List ℕ → List IndexEntry → List IndexEntry
kept_for actions.PutUnique digest entries = entries
kept_for action digest entries = without_digest digest entries

-- the entries of a shelf, with what it gains; where there is no room the first of them goes
abbrev pub gained : ℕ → LogEntry → Action → Option HintTo → List IndexEntry → List IndexEntry
gained room e action None entries = entries
gained room e action (Some target) entries =
    pushed_over room (kept_for action e.digest.0 entries) (record { digest = e.digest; to = target })

-- the shelf gained what the action puts
pub record HasGained (e : LogEntry) (done : Done) (old new : ShelfList) : Type 0 where
  pub entries : IsSortedFrom (gained (126 * old.blocks) e done.action (put_of e done) old.entries) new.entries
  pub geometry : new.geometry ≡ old.geometry
  pub blocks : new.blocks ≡ old.blocks

-- the request that an action posts, and the file to which
abbrev pub request_by : LogEntry → ℕ → Action → Outcome → Option (ℕ × Request)
request_by e slot (actions.Post s) outcome = Some (e.file, record { digest = e.digest; index = e.index; slot = s })
request_by e slot (actions.Promote f i) (outcomes.Promoted promoted.Posted) = Some (f, record { digest = e.digest; index = i; slot = slot })
request_by e slot action outcome = None

abbrev pub request_of : LogEntry → Done → Option (ℕ × Request)
request_of e done = request_by e done.slot done.action done.outcome

-- an entry was handled: by the decision from the lock, the digest handed in and the shelf as it stood; the shelf gained what that puts,
-- and one count rose
pub record IsHandled (e : LogEntry) (held : Bool) (now : Option Digest) (done : Done) (old new : ShelfList) (before after : MergeCounts) : Type 0 where
  pub decided : done.action ≡ decision e held now (with_digest e.digest.0 old.entries)
  pub ends : EndsWith done.action done.outcome
  pub shelf : HasGained e done old new
  pub counts : IsRaised (counted done.action done.outcome) before after

-- an entry of a file that is not held is to be posted, and nothing was done, or it was handled without a call
abbrev pub IsPassed : Option ℕ → LogEntry → ShelfList → ShelfList → MergeCounts → MergeCounts → Type 0
IsPassed (Some slot) e old new before after =
    (decision e false None (with_digest e.digest.0 old.entries) ≡ actions.Post slot) × (new ≡ old) × (after ≡ before)
IsPassed None e old new before after =
    (done : Done) × IsHandled e false None done old new before after × (request_of e done ≡ None)
