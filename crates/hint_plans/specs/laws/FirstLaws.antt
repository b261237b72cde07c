-- The plan of a command on hints stands at its first step, and the notes of a host at rest agree with it there; and so do both with the
-- digest that was handed in.
use Rattle.std.proofs.Common.{◌≡◌, ◌++◌, ◌∷◌, ◌<◌, ◌≤◌, ◌∙◌, ℕ, Bool, List, [], None, Some, false, true, arith, ap, refl, subst, sym}
use Rattle.std.specs.Prelude.{Contains, if◌then◌else◌}
use Rattle.vol_base.specs.declared.block.Block.{Block}
use Rattle.vol_base.specs.declared.block.Digest.{Digest}
use Rattle.vol_base.specs.declared.command.Command.{Command}
use Rattle.vol_base.specs.declared.command.Command.TheVariants as commands
use Rattle.vol_base.specs.NumberBlock.{number_block}
use Rattle.vol_layout.specs.declared.geometry.Geometry.{Geometry}
use Rattle.hint_blocks.specs.declared.entry.LogEntry.{LogEntry}
use Rattle.hint_blocks.specs.HintLists.{HintList}
use Rattle.disk_locks.specs.Consistent.{Consistent}
use Rattle.host_facts.specs.Views.{WorldView}
use Rattle.host_runs.specs.Awaited.{first_block, wanted}
use Rattle.host_runs.specs.FileUses.{is_hint_place}
use Rattle.host_runs.specs.Notes.{NotedCall, Notes, with_digest}
use Rattle.hint_plans.specs.Nexts.{HasPlace, IsOfPlan, MaySupply, first_of, pending_behind, supplied}
use Rattle.hint_plans.specs.laws.ScanLaws.{found_few, scan_done, scan_handed}
use Rattle.hint_plans.specs.Plans.{Agrees, IsAsking, IsHost, MayHint, OpenNoted, PlanStands, RestsWith, StandsAt, command_of, left}
use Rattle.hint_plans.specs.declared.plan.Doing.{Doing}
use Rattle.hint_plans.specs.declared.plan.Doing.TheVariants as doings
use Rattle.hint_plans.specs.laws.SeenLogs.{none_read}

pub first_stands : (v : WorldView) (h : ℕ) (pending : HintList LogEntry) (command : Command) → Consistent v.locks → IsOfPlan command
    → HasPlace v.locks.geometry command → IsHost v h pending → PlanStands v h pending (first_of command)
first_stands v h pending (commands.Scribble place k seen) c of has host = record { is_host = host; at = tt }
first_stands v h pending commands.Log c of has host = record { is_host = host; at = c.geometry.logs.0 }
first_stands v h pending (commands.Scan f i) c of has host = record { is_host = host; at = has }
first_stands v h pending command c of has host = absurd of

-- at most 400 steps come: 2 of a `scribble`, and 17 of a `log`
pub first_few : (v : WorldView) (command : Command) → Consistent v.locks → left v.locks.geometry (first_of command) ≤ 400
first_few v (commands.Scribble place k seen) c = omega arith
first_few v commands.Log c = let most = c.geometry.logs.1 in omega (arith, most)
first_few v (commands.Scan f i) c = let most = c.geometry.hosts.1 in omega (arith, most)
first_few v command c = omega arith

-- no call is noted yet
none_noted : (calls : List NotedCall) (c : NotedCall) → calls ≡ [] → Contains calls c → ⊥
none_noted calls c none has =
    let has' : Contains [] c = subst (λ (cs : List NotedCall). Contains cs c) none has in absurd (omega (arith, has'.1))

module _ (v : WorldView) (h : ℕ) (pending : List LogEntry) (n : Notes) (rests : RestsWith h v pending n) where
  calls_none : n.calls ≡ []
  calls_none = ap (λ (m : Notes). m.calls) rests.rests.between

  pub open_noted : (command : Command) → first_block v.locks.geometry command ≡ None → OpenNoted command h v pending n
  open_noted command none = record {
    noted = record {
      remembered = rests.rests.remembered;
      placed_is = ap (λ (m : Notes). m.placed) rests.rests.between;
      shown_is = ap (λ (m : Notes). m.tries.shown) rests.rests.between;
      full = λ f i k is met. none_noted n.calls met.0 calls_none met.1;
      asks = ap (λ (m : Notes). m.asks) rests.rests.between;
      wants = ap (λ (m : Notes). wanted v.locks.geometry command m.calls m.digests m.asks) rests.rests.between ∙ none;
    };
    pending_is = rests.pending_is;
  }

  pub first_noted : (command : Command) → IsOfPlan command → Agrees h v pending (first_of command) n
  first_noted (commands.Scribble place k seen) of = rests
  first_noted commands.Log of = (open_noted commands.Log refl, none_read v.locks.geometry h n.calls calls_none)
  first_noted (commands.Scan f i) of = rests
  first_noted command of = absurd of

-- behind a digest nothing is waited for
wanted_handed : (g : Geometry) (command : Command) (calls : List NotedCall) (digests : List Digest) (digest : Digest)
    → wanted g command calls (digests ++ digest ∷ []) None ≡ None
wanted_handed g command [] [] digest = refl
wanted_handed g command [] (d ∷ digests) digest = refl
wanted_handed g command (c ∷ calls) digests digest = refl

-- a digest that was waited for
module _ (v : WorldView) (h : ℕ) (pending : HintList LogEntry) (digest : Digest) where
  hint_wanted : (b : Bool) (block other : Block) → (if b then Some block else None) ≡ Some other → b ≡ true
  hint_wanted true block other is = refl
  hint_wanted false block other is = absurd cc

  pub supply_stands : (doing : Doing) (block : Block) (n : Notes) → IsAsking doing → Agrees h v pending.entries doing n
      → wanted v.locks.geometry (command_of doing) n.calls n.digests n.asks ≡ Some block → PlanStands v h pending doing
      → PlanStands v h (pending_behind digest doing pending) (supplied digest doing)
  supply_stands (doings.Asks s) block n asks noted waits is = record {
    is_host = is.is_host;
    at = hint_wanted (is_hint_place v.locks.geometry s.place) (number_block s.number) block
        (sym (ap (λ (m : Notes). wanted v.locks.geometry (commands.Scribble s.place s.number s.seen) m.calls m.digests m.asks) noted.rests.between)
        ∙ waits);
  }
  supply_stands (doings.AsksBlock s read) block n asks noted waits is =
      let below = is.at.2 in record {
        is_host = record { host = is.is_host.host; ready = is.is_host.ready; volume = is.is_host.volume };
        at = (scan_done v h s is.at.0, is.at.1, omega (arith, below));
      }
  supply_stands doing block n asks noted waits is = absurd asks

  -- a pending hint may come of it
  pub supply_may : (doing : Doing) → PlanStands v h pending doing → MaySupply pending.geometry doing
  supply_may (doings.AsksBlock s read) is =
      subst (λ (g : Geometry). MayHint g s) (sym is.is_host.volume) (is.at.2, is.at.0.file, λ k d lt. (is.at.0.fields k d lt).0.1)
  supply_may (doings.Asks s) is = tt
  supply_may (doings.Puts s digest) is = tt
  supply_may (doings.ReadsLog l) is = tt
  supply_may (doings.WritesLog l) is = tt
  supply_may (doings.BeginsScan f i) is = tt
  supply_may (doings.HoldsFile f i t) is = tt
  supply_may (doings.ReadsHead f i) is = tt
  supply_may (doings.ReadsTable s) is = tt
  supply_may (doings.ReadsBlock s) is = tt
  supply_may doings.Ended is = tt

  pub supply_noted : (doing : Doing) (n : Notes) → IsAsking doing → Agrees h v pending.entries doing n
      → StandsAt v h pending.entries doing → Agrees h v (pending_behind digest doing pending).entries (supplied digest doing) (with_digest digest n)
  supply_noted (doings.Asks s) n asks noted at = (
    record {
      noted = record {
        remembered = noted.rests.remembered;
        placed_is = ap (λ (m : Notes). m.placed) noted.rests.between;
        shown_is = ap (λ (m : Notes). m.tries.shown) noted.rests.between;
        full = λ f i k is. absurd cc;
        asks = refl;
        wants = wanted_handed v.locks.geometry (commands.Scribble s.place s.number s.seen) n.calls n.digests digest;
      };
      pending_is = noted.pending_is;
    },
    ap (λ (m : Notes). m.digests ++ digest ∷ []) noted.rests.between,
  )
  supply_noted (doings.AsksBlock s read) n asks noted at =
      scan_handed v h pending s digest n at.2 noted.0
      (wanted_handed v.locks.geometry (commands.Scan s.file s.index) n.calls n.digests digest)
  supply_noted doing n asks noted at = absurd asks

  -- fewer steps are left with it
  pub supply_fewer : (doing : Doing) → IsAsking doing → PlanStands v h pending doing
      → left v.locks.geometry (supplied digest doing) < left v.locks.geometry doing
  supply_fewer (doings.Asks s) asks is = omega arith
  supply_fewer (doings.AsksBlock s read) asks is =
      let below = is.at.2 in let few = found_few v h s is.at.0 in omega (arith, below, few)
  supply_fewer doing asks is = absurd asks
