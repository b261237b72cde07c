-- What the steps of a read did.
use Rattle.std.specs.Prelude.{◌≤◌, ◌<◌, ◌+◌, ℕ, IfSome, None, Option, Some}
use Rattle.vol_base.specs.declared.plain.PlainCall.TheVariants.{Read}
use Rattle.vol_base.specs.declared.plain.PlainReply.{PlainReply}
use Rattle.vol_layout.specs.declared.geometry.Geometry.{Geometry}
use Rattle.call_effects.specs.Places.{IsReplyOf}
use Rattle.lock_store.specs.Views.{told_of}
use Rattle.held_cache.specs.Kept.{Cache, kept_at}
use Rattle.host_facts.specs.Views.{WorldView}
use Rattle.file_plans.specs.Bases.{IsCached}
use Rattle.file_plans.specs.Says.{Known}
use Rattle.file_plans.specs.Turns.{turns_seeing}
use Rattle.file_plans.specs.declared.call.FileCall.TheVariants.{Plain}
use Rattle.solo.specs.Alone.{IsAlone, LeavesDevice}

-- most device calls that a read has left, by what is known of its file's tables
abbrev pub reads_left : Geometry → Known → ℕ → ℕ → ℕ
reads_left g known f i = turns_seeing g known (Plain (Read f i))

-- the reply is the plain one
abbrev pub IsReadOf : WorldView → ℕ → ℕ → PlainReply → Type 0
IsReadOf v f i reply = IfSome (told_of v.locks) (λ t. IsReplyOf v.locks.geometry (Read f i) reply t.image)

-- the host is alone still, what is kept is right, and the device's content is as before
pub record IsLooking (v w : WorldView) (d : Cache) : Type 0 where
  pub alone : IsAlone w
  pub cached : IsCached w d 0
  pub same : LeavesDevice v w

-- one look of a read: behind it fewer calls are left, or the reply is known
abbrev pub HasSeen : WorldView → WorldView → Cache → Cache → ℕ → ℕ → Option PlainReply → Type 0
HasSeen v w c d f i None =
    (w.locks.disk.calls ≤ v.locks.disk.calls + 1)
    × (reads_left v.locks.geometry (kept_at d 0) f i < reads_left v.locks.geometry (kept_at c 0) f i)
HasSeen v w c d f i (Some reply) = (w.locks.disk.calls ≤ v.locks.disk.calls + 1) × IsReadOf v f i reply
