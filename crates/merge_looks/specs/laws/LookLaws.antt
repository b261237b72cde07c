-- A look begins, stands over the calls of others, and leaves its host ready.
use Rattle.std.proofs.Common.{◌≡◌, ◌≢◌, ◌+◌, ◌<◌, ◌≤◌, ◌∙◌, ℕ, List, [], Option, true, ap, arith, inl, refl, subst, sym, length}
use Rattle.vol_layout.specs.declared.geometry.Geometry.{Geometry}
use Rattle.vol_layout.specs.declared.kind.Resource.TheVariants.{File}
use Rattle.vol_layout.specs.declared.kind.Table.TheVariants as tables
use Rattle.lock_store.specs.declared.host.HostState.{HostState}
use Rattle.lock_store.specs.Memories.{holds}
use Rattle.lock_store.specs.Views.{host_at}
use Rattle.host_facts.specs.Others.{Others}
use Rattle.host_facts.specs.Views.{WorldView}
use Rattle.plan_parts.specs.KeptTables.{AreKept}
use Rattle.plan_parts.specs.declared.kept.Kept.{Kept}
use Rattle.share_plans.specs.Lefts.{missing_at}
use Rattle.share_plans.specs.ReadTables.{kept_in}
use Rattle.share_plans.specs.Spots.{IsShown, IsUnread}
use Rattle.share_plans.specs.laws.StillLaws.{IsStill, all_kept, still_memory}
use Rattle.merge_steps.specs.Logs.{unread}
use Rattle.merge_steps.specs.Steps.{IsMerging}
use Rattle.merge_steps.specs.laws.CallLaws.{merging_on, merging_still}
use Rattle.merge_looks.specs.Looks.{At, IsLooking, Stands, Went, known_of}
use Rattle.merge_looks.specs.declared.look.Look.{Look}
use Rattle.merge_looks.specs.declared.look.Looking.{Looking}
use Rattle.merge_looks.specs.declared.look.Looking.TheVariants as looking
use Rattle.merge_looks.specs.declared.look.Seen.{Seen}

-- with no table read, and the first one of a held file to be read
pub look_begins : (v : WorldView) (h f : ℕ) (l : Look) → IsMerging v h → f < v.locks.geometry.files → holds (host_at v.locks h) (File f) ≡ true
    → l.host ≡ h → l.file ≡ f → l.tables ≡ [] → l.stage ≡ looking.Reads (tables.File f) → At v l
look_begins v h f l merging below held host file none stage = subst (Stands v l) (sym stage) (
  record {
    merging = subst (IsMerging v) (sym host) merging;
    file = subst (λ (e : ℕ). e < v.locks.geometry.files) (sym file) below;
    held = ap (λ (x : ℕ). holds (host_at v.locks x) (File l.file)) host ∙ ap (λ (e : ℕ). holds (host_at v.locks h) (File e)) file ∙ held;
    kept = subst (AreKept v l.host) (sym none) tt;
  },
  subst (λ (ks : List Kept). IsUnread v.locks.geometry (kept_in ks) l.file l.index (tables.File f)) (sym none)
      (subst (λ (e : ℕ). IsUnread v.locks.geometry (kept_in []) e l.index (tables.File f)) (sym file)
      (record { has = below; owned = refl; is = inl refl; unread = refl })),
  subst (λ (ks : List Kept). length ks + missing_at (kept_in ks) l.file l.index ≤ 2) (sym none) (omega arith),
)

looking_at : (v : WorldView) (l : Look) (stage : Looking) → Stands v l stage → IsLooking v l
looking_at v l (looking.Reads t) at = at.0
looking_at v l (looking.Shows d) at = at.0
looking_at v l looking.Over at = absurd at

pub is_looking : (v : WorldView) (l : Look) → At v l → IsLooking v l
is_looking v l at = looking_at v l l.stage at

-- the host is ready for the next call
pub look_merging : (v : WorldView) (l : Look) → At v l → IsMerging v l.host
look_merging v l at = (is_looking v l at).merging

-- and behind it, and holds the file still
pub looked_merging : (v w : WorldView) (old new : Look) (came : Option Seen) → Went v w old new came → At v old
    → IsMerging w old.host × (holds (host_at w.locks old.host) (File old.file) ≡ true)
looked_merging v w old new came step at =
    let is = is_looking v old at in
    let went = step.went unread in (
      merging_on old.host v w step.call step.reply unread unread went is.merging,
      ap (λ (m : HostState). holds m (File old.file)) went.memory ∙ is.held,
    )

-- what is known stays where the host has all that it had
pub looking_on : (v w : WorldView) (l : Look) → IsStill l.host v w → IsMerging w l.host → IsLooking v l → IsLooking w l
looking_on v w l still merging is = record {
  merging = merging;
  file = subst (λ (g : Geometry). l.file < g.files) (sym still.geometry) is.file;
  held = still.held (File l.file) is.file is.held;
  kept = all_kept l.host v w still l.tables is.kept;
}

module _ (v w : WorldView) (l : Look) (x : ℕ) (others : Others x v w) (apart : l.host ≢ x) where
  still : IsStill l.host v w
  still = still_memory l.host v w others.locks.lasts.geometry (others.locks.memories l.host apart) (λ a. others.facts l.host a apart)

  stays : IsLooking v l → IsLooking w l
  stays is = looking_on v w l still (merging_still v w l.host x others apart is.merging) is

  stands_still : (stage : Looking) → Stands v l stage → Stands w l stage
  stands_still (looking.Reads t) at = (
    stays at.0,
    subst (λ (g : Geometry). IsUnread g (known_of l) l.file l.index t) (sym others.locks.lasts.geometry) at.1,
    at.2,
  )
  stands_still (looking.Shows d) at = (
    stays at.0,
    subst (λ (g : Geometry). IsShown g (known_of l) l.file l.index d) (sym others.locks.lasts.geometry) at.1,
  )
  stands_still looking.Over at = absurd at

  -- over the calls of others
  pub look_still : At v l → At w l
  look_still at = stands_still l.stage at
