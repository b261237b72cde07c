-- What stands between two steps of a plan, and what its notes agree with, stay over the calls of other hosts.
use Rattle.plan_parts.specs.declared.outcome.Outcome.TheVariants.{Open}
use Rattle.plan_parts.specs.laws.HoldChecks.{write_taking_still}
use Rattle.vol_layout.specs.declared.kind.Resource.TheVariants.{File}
use Rattle.hint_plans.specs.laws.ScanLaws.{scan_still}
use Rattle.hint_plans.specs.declared.scan.Scan.{Scan}
use Rattle.hint_plans.specs.Scans.{IsScan, indexes}
use Rattle.std.proofs.Common.{◌≡◌, ◌≢◌, ◌⊎◌, ◌<◌, ◌∙◌, ℕ, List, ap, inl, inr, subst, sym, true, None}
use Rattle.vol_base.specs.declared.command.Command.{Command}
use Rattle.vol_base.specs.declared.command.Command.TheVariants as commands
use Rattle.vol_layout.specs.declared.geometry.Geometry.{Geometry}
use Rattle.hint_blocks.specs.declared.entry.LogEntry.{LogEntry}
use Rattle.hint_blocks.specs.HintLists.{HintList}
use Rattle.lock_store.specs.declared.host.HostState.{HostState}
use Rattle.lock_store.specs.Memories.{dropped, holds}
use Rattle.lock_store.specs.Views.{host_at}
use Rattle.disk_locks.specs.Consistent.{Consistent}
use Rattle.host_facts.specs.Others.{Others}
use Rattle.host_facts.specs.Views.{WorldView}
use Rattle.host_notes.specs.Remembered.{IsRemembered}
use Rattle.host_runs.specs.Awaited.{wanted}
use Rattle.host_runs.specs.FileUses.{is_hint_place}
use Rattle.host_runs.specs.Notes.{Notes}
use Rattle.plan_parts.specs.QuietCalls.{IsFullNoted, Noted}
use Rattle.plan_parts.specs.Steps.{IsReady}
use Rattle.plan_parts.specs.declared.outcome.Outcome.{Outcome}
use Rattle.hint_plans.specs.Logs.{AreRead, IsSeenEmpty}
use Rattle.hint_plans.specs.Plans.{Agrees, IsHost, OpenNoted, PlanStands, RestsWith, StandsAt, command_of, left, HasSeen, ScanNoted}
use Rattle.hint_plans.specs.declared.plan.Doing.{Doing}
use Rattle.hint_plans.specs.declared.plan.Doing.TheVariants as doings
use Rattle.hint_plans.specs.laws.HostLaws.{host_on, ready_on, ready_key}

module _ (v w : WorldView) (h x : ℕ) (c : Consistent v.locks) (others : Others x v w) (apart : h ≢ x) where
  memory : host_at w.locks h ≡ host_at v.locks h
  memory = others.locks.memories h apart

  geometry : w.locks.geometry ≡ v.locks.geometry
  geometry = others.locks.lasts.geometry

  pub host_still : (pending : HintList LogEntry) → IsHost v h pending → IsHost w h pending
  host_still pending is = host_on v w h pending geometry memory (λ a. others.facts h a apart) is

  held_still : (f : ℕ) → f < v.locks.geometry.files → holds (host_at v.locks h) (File f) ≡ true
      → (f < w.locks.geometry.files) × (holds (host_at w.locks h) (File f) ≡ true)
  held_still f below held =
      (subst (λ (g : Geometry). f < g.files) (sym geometry) below, ap (λ (m : HostState). holds m (File f)) memory ∙ held)

  scan_on : (s : Scan) → IsReady v h → IsScan v h s → IsScan w h s
  scan_on s ready is = scan_still v w h x c others apart (ready_key v h c ready) s is

  at_still : (pending : List LogEntry) (doing : Doing) → IsReady v h → StandsAt v h pending doing → StandsAt w h pending doing
  at_still pending (doings.Asks s) ready at = tt
  at_still pending (doings.Puts s digest) ready at = subst (λ (g : Geometry). is_hint_place g s.place ≡ true) (sym geometry) at
  at_still pending (doings.ReadsLog l) ready at = subst (λ (g : Geometry). l < g.logs) (sym geometry) at
  at_still pending (doings.WritesLog l) ready at = (subst (λ (g : Geometry). l < g.logs) (sym geometry) at.0, at.1)
  at_still pending (doings.BeginsScan f i) ready at = subst (λ (g : Geometry). f < g.files) (sym geometry) at
  at_still pending (doings.HoldsFile f i t) ready at =
      (subst (λ (g : Geometry). f < g.files) (sym geometry) at.0, write_taking_still v w h f x t c others apart at.1)
  at_still pending (doings.ReadsHead f i) ready at = held_still f at.0 at.1
  at_still pending (doings.ReadsTable s) ready at = (scan_on s ready at.0, at.1, at.2)
  at_still pending (doings.ReadsBlock s) ready at = (scan_on s ready at.0, at.1, at.2)
  at_still pending (doings.AsksBlock s block) ready at = (scan_on s ready at.0, at.1, at.2)
  at_still pending doings.Ended ready at = absurd at

  -- a plan stands, and as many steps are left
  pub plan_still : (pending : HintList LogEntry) (doing : Doing) → PlanStands v h pending doing → PlanStands w h pending doing
  plan_still pending doing is = record { is_host = host_still pending is.is_host; at = at_still pending.entries doing is.is_host.ready is.at }

  pub left_still : (doing : Doing) → left w.locks.geometry doing ≡ left v.locks.geometry doing
  left_still doing = ap (λ (g : Geometry). left g doing) geometry

  -- and its notes agree with it
  noted_still : (command : Command) (outcome : Outcome) (n : Notes) → Noted command h v outcome n → Noted command h w outcome n
  noted_still command outcome n noted = record {
    remembered = subst (λ (m : HostState). IsRemembered w.locks.geometry n.memory m) (sym memory)
        (subst (λ (g : Geometry). IsRemembered g n.memory (host_at v.locks h)) (sym geometry) noted.remembered);
    placed_is = noted.placed_is;
    shown_is = noted.shown_is;
    full = subst (λ (g : Geometry). IsFullNoted g command outcome n.calls) (sym geometry) noted.full;
    asks = noted.asks;
    wants = ap (λ (g : Geometry). wanted g command n.calls n.digests n.asks) geometry ∙ noted.wants;
  }

  open_still : (command : Command) (pending : List LogEntry) (n : Notes) → OpenNoted command h v pending n → OpenNoted command h w pending n
  open_still command pending n noted = record { noted = noted_still command _ n noted.noted; pending_is = noted.pending_is }

  pub rests_still : (pending : List LogEntry) (n : Notes) → RestsWith h v pending n → RestsWith h w pending n
  rests_still pending n noted = record {
    rests = record {
      remembered = subst (λ (m : HostState). IsRemembered w.locks.geometry n.memory m) (sym memory)
          (subst (λ (g : Geometry). IsRemembered g n.memory (host_at v.locks h)) (sym geometry) noted.rests.remembered);
      rests = either noted.rests.rests;
      between = noted.rests.between;
    };
    pending_is = noted.pending_is;
  }
    where
      either : IsReady v h ⊎ (host_at v.locks h ≡ dropped) → IsReady w h ⊎ (host_at w.locks h ≡ dropped)
      either (inl ready) = inl (ready_on v w h geometry memory (λ a. others.facts h a apart) ready)
      either (inr gone) = inr (memory ∙ gone)

  scanned_still : (pending : List LogEntry) (s : Scan) (n : Notes) → ScanNoted h v pending s n → ScanNoted h w pending s n
  scanned_still pending s n noted = record {
    noted = noted_still (commands.Scan s.file s.index) Open n noted.noted;
    many = noted.many;
    hints = noted.hints;
    seen = subst (λ (g : Geometry). HasSeen g s.file s.index (indexes s.found) n.calls) (sym geometry) noted.seen;
  }

  pub agrees_still : (pending : List LogEntry) (doing : Doing) (n : Notes) → Agrees h v pending doing n → Agrees h w pending doing n
  agrees_still pending (doings.Asks s) n noted = rests_still pending n noted
  agrees_still pending (doings.Puts s digest) n noted =
      (open_still (command_of (doings.Puts s digest)) pending n noted.0, noted.1)
  agrees_still pending (doings.ReadsLog l) n noted = (
    open_still (command_of (doings.ReadsLog l)) pending n noted.0,
    subst (λ (g : Geometry). AreRead g h l n.calls) (sym geometry) noted.1,
  )
  agrees_still pending (doings.WritesLog l) n noted = (
    open_still (command_of (doings.WritesLog l)) pending n noted.0,
    subst (λ (g : Geometry). IsSeenEmpty g h l n.calls) (sym geometry) noted.1,
  )
  agrees_still pending (doings.BeginsScan f i) n noted = rests_still pending n noted
  agrees_still pending (doings.HoldsFile f i t) n noted = (
    (noted.0.0, record { noted = noted_still (commands.Scan f i) Open n noted.0.1.noted; tries_are = noted.0.1.tries_are }),
    noted.1,
    noted.2,
  )
  agrees_still pending (doings.ReadsHead f i) n noted = (open_still (commands.Scan f i) pending n noted.0, noted.1)
  agrees_still pending (doings.ReadsTable s) n noted = (open_still (commands.Scan s.file s.index) pending n noted.0, noted.1)
  agrees_still pending (doings.ReadsBlock s) n noted = scanned_still pending s n noted
  agrees_still pending (doings.AsksBlock s block) n noted = (scanned_still pending s (record n { asks = None }) noted.0, noted.1)
  agrees_still pending doings.Ended n noted = absurd noted
