-- What each step of a share did once its answer was known.
use Rattle.std.proofs.Common.{◌<◌, ℕ, List, None, Option, Some, refl, sym, subst, ◌∙◌}
use Rattle.vol_layout.specs.declared.field.Field.TheVariants.{Slot}
use Rattle.vol_layout.specs.declared.geometry.Geometry.{Geometry}
use Rattle.vol_layout.specs.declared.kind.Resource.{Resource}
use Rattle.vol_layout.specs.Fields.{HasField}
use Rattle.host_facts.specs.Views.{WorldView}
use Rattle.plan_parts.specs.TakenLocks.{IsTaking}
use Rattle.share_plans.specs.Closings.{Closes, KeepsHolds}
use Rattle.share_plans.specs.Stands.{At, HasPlaces, HasSource, IsHost}
use Rattle.share_plans.specs.Went.{IsSame, Went, closed_by, outcome_by}
use Rattle.share_plans.specs.declared.closing.Closing.{Closing}
use Rattle.share_plans.specs.declared.sharing.Place.{Place}
use Rattle.share_plans.specs.declared.sharing.Place.TheVariants.{Arena, File}
use Rattle.share_plans.specs.declared.sharing.Shared.{Shared}
use Rattle.share_plans.specs.declared.stage.Core.{Core}
use Rattle.share_plans.specs.declared.stage.Stage.TheVariants as stages
use Rattle.share_plans.specs.laws.StillLaws.{with_taken}

-- the host has the file and the source still
pub host_kept : (v w : WorldView) (h f : ℕ) → KeepsHolds h v w → IsHost v h f → IsHost w h f
host_kept v w h f keeps is = record {
  host = subst (λ (g : Geometry). h < g.hosts) (sym keeps.geometry) is.host;
  file = subst (λ (g : Geometry). f < g.files) (sym keeps.geometry) is.file;
  joined = keeps.joined ∙ is.joined;
  held = keeps.held f is.file ∙ is.held;
}

pub places_kept : (v w : WorldView) (h f : ℕ) (source : Place) → KeepsHolds h v w → HasPlaces v h f source → HasPlaces w h f source
places_kept v w h f source keeps is = record { is_host = host_kept v w h f keeps is.is_host; from = kept source is.from }
  where
    kept : (source : Place) → HasSource v h source → HasSource w h source
    kept (File e i) has = (subst (λ (g : Geometry). e < g.files) (sym keeps.geometry) has.0, keeps.held e has.0 ∙ has.1)
    kept (Arena s) has = subst (λ (g : Geometry). HasField g (Slot s)) (sym keeps.geometry) has

-- the same host, place and source
pub same_share : (core : Core) (taken : List Resource) → IsSame core (with_taken core taken)
same_share core taken = record { host = refl; file = refl; index = refl; source = refl }

pub closes_went : (v w : WorldView) (core : Core) (after : List Resource) (closing : Closing) (answer : Shared) (next : Option Closing)
    → At v core (stages.Closes closing answer) → Closes core.host v w core.taken after closing next
    → Went v w core (with_taken core after) (stages.Closes closing answer) (closed_by next answer)
closes_went v w core after closing answer None at did = record {
  same = same_share core after;
  keeps = did.keeps;
  stands = (
    places_kept v w core.host core.file core.source did.keeps at.0,
    record { joined = did.keeps.joined ∙ at.0.is_host.joined; empty = did.stands.1; taking = subst (IsTaking w core.host) did.stands.2 did.stands.0 },
  );
  answers_are = (refl, did.changes);
  less = did.less;
  event = did.event;
  spares = did.spares;
  quiet = λ command may. did.quiet command (outcome_by (Some answer));
}
closes_went v w core after closing answer (Some next) at did = record {
  same = same_share core after;
  keeps = did.keeps;
  stands = (places_kept v w core.host core.file core.source did.keeps at.0, did.stands);
  answers_are = (refl, did.changes);
  less = did.less;
  event = did.event;
  spares = did.spares;
  quiet = λ command may. did.quiet command (outcome_by (Some answer));
}
