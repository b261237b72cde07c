-- The plan of a command on slots stands at its first step, and the notes of a host at rest agree with it there.
use Rattle.std.proofs.Common.{◌≡◌, ◌<◌, ◌∙◌, ℕ, List, [], None, Option, refl, ap, subst, arith}
use Rattle.std.specs.Prelude.{Contains}
use Rattle.vol_base.specs.declared.command.Command.{Command}
use Rattle.vol_base.specs.declared.command.Command.TheVariants as commands
use Rattle.watch.specs.declared.watch.Look.{Look}
use Rattle.host_facts.specs.Views.{WorldView}
use Rattle.host_runs.specs.Awaited.{first_block, wanted}
use Rattle.host_runs.specs.Notes.{NotedCall, Notes}
use Rattle.vol_layout.specs.declared.geometry.Geometry.{Geometry}
use Rattle.recover_plan.specs.Nexts.{IsOfPlan, MayBegin, first_of}
use Rattle.recover_plan.specs.PlanSteps.{AreWatched, OpenNoted, RestsWith}
use Rattle.recover_plan.specs.Plans.{Agrees, PlanStands, TriesNoted}

pub first_stands : (v : WorldView) (h : ℕ) (watch : List (Option Look)) (command : Command) → h < v.locks.geometry.hosts → IsOfPlan h command
    → MayBegin v h command → AreWatched v h watch → PlanStands v h watch (first_of command)
first_stands v h watch commands.Join below of may watched = record { host = below; at = may; watched = watched }
first_stands v h watch commands.Leave below of may watched = record { host = below; at = may; watched = watched }
first_stands v h watch commands.Beat below of may watched = record { host = below; at = may; watched = watched }
first_stands v h watch (commands.Look y) below of may watched = record { host = below; at = may; watched = watched }
first_stands v h watch (commands.Recover y) below of may watched = record { host = below; at = (may.0, may.1, of); watched = watched }
first_stands v h watch command below of may watched = absurd of

-- no call is noted yet
none_noted : (calls : List NotedCall) (c : NotedCall) → calls ≡ [] → Contains calls c → ⊥
none_noted calls c none has =
    let has' : Contains [] c = subst (λ (cs : List NotedCall). Contains cs c) none has in absurd (omega (arith, has'.1))

module _ (v : WorldView) (h : ℕ) (watch : List (Option Look)) (n : Notes) (rests : RestsWith h v watch n) where
  calls_none : n.calls ≡ []
  calls_none = ap (λ (m : Notes). m.calls) rests.rests.between

  tries_noted : (of : ℕ) → TriesNoted h of v watch 0 n
  tries_noted of = record {
    under_way = record {
      remembered = rests.rests.remembered;
      placed_is = ap (λ (m : Notes). m.placed) rests.rests.between;
      asks = ap (λ (m : Notes). m.asks) rests.rests.between;
      watch_is = rests.watch_is;
      shown_is = ap (λ (m : Notes). m.tries.shown) rests.rests.between;
      from = λ old new call two. absurd (none_noted n.calls call.0 calls_none call.1);
    };
    count = ap (λ (m : Notes). m.tries.count) rests.rests.between;
  }

  open_noted : (command : Command) → ((g : Geometry) → first_block g command ≡ None) → OpenNoted command h v watch n
  open_noted command none = record {
    noted = record {
      remembered = rests.rests.remembered;
      placed_is = ap (λ (m : Notes). m.placed) rests.rests.between;
      shown_is = ap (λ (m : Notes). m.tries.shown) rests.rests.between;
      full = λ f i k is met. none_noted n.calls met.0 calls_none met.1;
      asks = ap (λ (m : Notes). m.asks) rests.rests.between;
      wants = ap (λ (m : Notes). wanted v.locks.geometry command m.calls m.digests m.asks) rests.rests.between ∙ none v.locks.geometry;
    };
    watch_is = rests.watch_is;
  }

  pub first_noted : (command : Command) → IsOfPlan h command → Agrees h v watch (first_of command) n
  first_noted commands.Join of = tries_noted h
  first_noted commands.Leave of = open_noted commands.Leave (λ g. refl)
  first_noted commands.Beat of = open_noted commands.Beat (λ g. refl)
  first_noted (commands.Look y) of = open_noted (commands.Look y) (λ g. refl)
  first_noted (commands.Recover y) of = tries_noted y
  first_noted command of = absurd of
