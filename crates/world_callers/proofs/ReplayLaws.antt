-- A dead host's table, between its reading and its writing.
use Rattle.std.proofs.Common.{◌≡◌, ℕ, Err, List, Ok, Result, sym, subst, true}
use Rattle.std.specs.Prelude.{OnOk}
use Rattle.vol_base.specs.Packing.{Packing}
use Rattle.vol_layout.specs.declared.geometry.Geometry.{Geometry}
use Rattle.vol_layout.specs.declared.kind.Table.{Table}
use Rattle.vol_layout.specs.declared.field.Edit.{Edit}
use Rattle.vol_layout.specs.declared.field.Field.{Field}
use Rattle.vol_layout.specs.Edits.{touches}
use Rattle.vol_layout.specs.Fields.{HasField, table_of}
use Rattle.table_blocks.specs.Made.{made}
use Rattle.table_blocks.specs.Tables.{IsPackingOf}
use Rattle.lock_store.specs.declared.answers.StepNo.{StepNo}
use Rattle.host_facts.specs.Facts.Fact.{DeadRecord, DeadTable}
use Rattle.host_facts.specs.Knows.{Knows}
use Rattle.host_facts.specs.Looks.{Looks}
use Rattle.host_facts.specs.Replays.{IsReplay, KnowsDead}
use Rattle.host_facts.specs.Views.{WorldView}
use Rattle.world_callers.specs.Replays.{HasReplayed}

-- the table that was read, with the edits made in it, may be written
pub replay_ready : (v w : WorldView) (h y : ℕ) (t : Table) (before kept : Packing) (es : List Edit) (x : Field) → Looks h v w
    → Knows v h (DeadRecord y es) → HasField v.locks.geometry x → touches es x ≡ true → table_of x ≡ t
    → IsPackingOf v.locks.geometry t before → KnowsDead v w h t before → kept ≡ made t es before → IsReplay w h y t kept
replay_ready v w h y t before kept es x looks known has touched at packing dead same = record {
  field = x;
  here = at;
  edits = es;
  known = looks.facts (DeadRecord y es) known;
  before = before;
  packing = subst (λ (g : Geometry). IsPackingOf g t before) (sym looks.geometry) packing;
  table = dead y es x known has touched at;
  made_is = same;
}

-- and is known then
replayed : (v w u : WorldView) (h : ℕ) (t : Table) (before kept : Packing) (es : List Edit) → Looks h v w
    → IsPackingOf v.locks.geometry t before → kept ≡ made t es before → KnowsDead w u h t kept → HasReplayed v u h t es
replayed v w u h t before kept es looks packing same dead = record {
  before = before;
  packing = packing;
  known = λ y ds x known has touched at.
      subst (λ (q : Packing). Knows u h (DeadTable y x q)) same
      (dead y ds x (looks.facts (DeadRecord y ds) known) (subst (λ (g : Geometry). HasField g x) (sym looks.geometry) has) touched at);
}

pub replay_done : (v w u : WorldView) (h : ℕ) (t : Table) (before kept : Packing) (es : List Edit) (result : Result Unit StepNo)
    → Looks h v w → IsPackingOf v.locks.geometry t before → kept ≡ made t es before → OnOk result (KnowsDead w u h t kept)
    → OnOk result (HasReplayed v u h t es)
replay_done v w u h t before kept es (Ok done) looks packing same dead = replayed v w u h t before kept es looks packing same dead
replay_done v w u h t before kept es (Err why) looks packing same dead = tt
