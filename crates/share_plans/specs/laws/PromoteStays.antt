-- A promotion stands at its beginning, towards its end, and over the calls of other hosts.
use Rattle.std.proofs.Common.{◌≡◌, ◌≢◌, ℕ, List, true, [], ◌∷◌, None, Option, Some, refl, ap, subst, sym, ◌∙◌, arith, inl}
use Rattle.vol_layout.specs.declared.geometry.Geometry.{Geometry}
use Rattle.vol_layout.specs.declared.kind.Resource.{Resource}
use Rattle.vol_layout.specs.declared.kind.Resource.TheVariants.{Part}
use Rattle.vol_layout.specs.declared.kind.Table.TheVariants as tables
use Rattle.lock_store.specs.Views.{host_at, key_at}
use Rattle.disk_locks.specs.Consistent.{Consistent}
use Rattle.host_facts.specs.Others.{Others}
use Rattle.host_facts.specs.Views.{WorldView}
use Rattle.host_facts.specs.laws.FactLaws.{joined_key}
use Rattle.plan_parts.specs.Steps.{IsReady}
use Rattle.plan_parts.specs.TakenLocks.{IsTaking}
use Rattle.plan_parts.specs.declared.kept.Kept.{Kept}
use Rattle.plan_parts.specs.laws.TakenLaws.{taking_still}
use Rattle.share_plans.specs.Closings.{Closes}
use Rattle.share_plans.specs.Promotions.{At, HasSlot, IsFilling, Went, closed_by, known_of, outcome_by, own_part}
use Rattle.share_plans.specs.Spots.{IsUnread}
use Rattle.share_plans.specs.Stands.{IsHost}
use Rattle.share_plans.specs.declared.closing.Closing.{Closing}
use Rattle.share_plans.specs.declared.promotion.Doing.{Doing}
use Rattle.share_plans.specs.declared.promotion.Doing.TheVariants as doings
use Rattle.share_plans.specs.declared.promotion.Promoted.{Promoted}
use Rattle.share_plans.specs.declared.promotion.Promotion.{Promotion}
use Rattle.share_plans.specs.laws.EndLaws.{host_kept}
use Rattle.share_plans.specs.laws.PromoteStages.{base_on, filling_on, lone_on, same_promotion, slot_on, with_taken}
use Rattle.share_plans.specs.laws.ShareStays.{closing_on}
use Rattle.share_plans.specs.laws.StillLaws.{IsStill, group_kept, host_on, still_others}

-- a promotion that begins: of a host that is ready, and has the file
pub promote_begins : (v : WorldView) (h f i : ℕ) → IsReady v h → IsHost v h f
    → At v (record { host = h; file = f; index = i; taken = []; tables = [] }) (doings.Reads (tables.File f))
promote_begins v h f i ready is = (
  record { is_host = is; empty = ready.empty; taking = ready.taking; kept = tt },
  refl,
  record { has = is.file; owned = refl; is = inl refl; unread = refl },
  omega arith,
)

-- one step more towards its end
pub promotion_closes : (v w : WorldView) (core : Promotion) (after : List Resource) (closing : Closing) (answer : Promoted)
    (next : Option Closing) → At v core (doings.Closes closing answer) → Closes core.host v w core.taken after closing next
    → Went v w core (with_taken core after) (doings.Closes closing answer) (closed_by next answer)
promotion_closes v w core after closing answer None at did = record {
  same = same_promotion core after;
  keeps = did.keeps;
  stands = (
    host_kept v w core.host core.file did.keeps at.0,
    record { joined = did.keeps.joined ∙ at.0.joined; empty = did.stands.1; taking = subst (IsTaking w core.host) did.stands.2 did.stands.0 },
    subst (λ (g : Geometry). HasSlot g answer) (sym did.keeps.geometry) at.2,
  );
  answers_are = (refl, did.changes);
  less = did.less;
  event = did.event;
  spares = did.spares;
  quiet = λ command may. did.quiet command (outcome_by (Some answer));
}
promotion_closes v w core after closing answer (Some next) at did = record {
  same = same_promotion core after;
  keeps = did.keeps;
  stands = (
    host_kept v w core.host core.file did.keeps at.0,
    did.stands,
    subst (λ (g : Geometry). HasSlot g answer) (sym did.keeps.geometry) at.2,
  );
  answers_are = (refl, did.changes);
  less = did.less;
  event = did.event;
  spares = did.spares;
  quiet = λ command may. did.quiet command (outcome_by (Some answer));
}

module _ (v w : WorldView) (core : Promotion) (x : ℕ) (is : Consistent v.locks) (others : Others x v w) (apart : core.host ≢ x) where
  key_of : (host_at v.locks core.host).joined ≡ true → key_at v.locks core.host ≢ 0
  key_of joined = joined_key v.locks.geometry.hosts _ core.host (host_at v.locks core.host) (is.memories core.host) joined

  still_of : (host_at v.locks core.host).joined ≡ true → IsStill core.host v w
  still_of joined = still_others core.host x v w others apart (key_of joined)

  taking_of : (host_at v.locks core.host).joined ≡ true → IsTaking v core.host core.taken → IsTaking w core.host core.taken
  taking_of joined = taking_still v w core.host x core.taken others apart (key_of joined)

  filling : (d t : ℕ) (part : Kept) → IsFilling v core d t part → IsFilling w core d t part
  filling d t part at =
      filling_on v w core d t part (still_of at.base.is_host.joined) (taking_of at.base.is_host.joined at.base.taking) at

  own_same : core.taken ≡ Part (own_part v.locks.geometry core.host) ∷ [] → core.taken ≡ Part (own_part w.locks.geometry core.host) ∷ []
  own_same is = is ∙ ap (λ (g : Geometry). Part (own_part g core.host) ∷ []) (sym others.locks.lasts.geometry)

  pub promote_still : (stage : Doing) → At v core stage → At w core stage
  promote_still (doings.Reads t) at =
      let still = still_of at.0.is_host.joined in (
        base_on v w core still core.taken (taking_of at.0.is_host.joined at.0.taking) at.0,
        at.1,
        subst (λ (g : Geometry). IsUnread g (known_of core) core.file core.index t) (sym still.geometry) at.2,
        at.3,
      )
  promote_still (doings.LocksPart d) at =
      let still = still_of at.0.is_host.joined in
      (base_on v w core still core.taken (taking_of at.0.is_host.joined at.0.taking) at.0, at.1, lone_on v w core still d at.2)
  promote_still (doings.ReadsPart d) at =
      let still = still_of at.0.is_host.joined in
      (base_on v w core still core.taken (taking_of at.0.is_host.joined at.0.taking) at.0, own_same at.1, lone_on v w core still d at.2)
  promote_still (doings.LocksGroup d t part) at =
      let still = still_of at.0.is_host.joined in (
        base_on v w core still core.taken (taking_of at.0.is_host.joined at.0.taking) at.0,
        own_same at.1,
        lone_on v w core still d at.2,
        slot_on v w core still t part at.3,
      )
  promote_still (doings.ReadsGroup d t part) at = filling d t part at
  promote_still (doings.Commits d t part group) at =
      (filling d t part at.0, group_kept core.host v w (still_of at.0.base.is_host.joined) d group at.1)
  promote_still (doings.Closes closing answer) at = (
    host_on core.host v w (still_of at.0.joined) core.file at.0,
    closing_on v w core.host x core.taken closing is others apart (key_of at.0.joined) at.1,
    subst (λ (g : Geometry). HasSlot g answer) (sym others.locks.lasts.geometry) at.2,
  )
  promote_still doings.Over at = at
