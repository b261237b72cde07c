-- How a plan begins: from a host that is ready, and notes of a host between two commands; and with the digest that was handed in.
use Rattle.std.proofs.Common.{arith, ◌≡◌, ◌<◌, ◌++◌, Bool, true, false, List, [], ◌∷◌, None, refl, ap, sym, subst, ◌∙◌}
use Rattle.std.specs.Prelude.{Contains, if◌then◌else◌}
use Rattle.vol_base.specs.declared.block.Digest.{Digest}
use Rattle.vol_base.specs.declared.command.Command.{Command}
use Rattle.vol_base.specs.declared.command.Command.TheVariants as commands
use Rattle.vol_base.specs.declared.plain.PlainCall.{PlainCall}
use Rattle.vol_base.specs.declared.plain.PlainCall.TheVariants as calls
use Rattle.vol_base.specs.NumberBlock.{number_block}
use Rattle.vol_layout.specs.declared.geometry.Geometry.{Geometry}
use Rattle.held_cache.specs.Kept.{Cache}
use Rattle.host_facts.specs.Views.{WorldView}
use Rattle.host_notes.specs.FileTurns.{MeetsNoFull}
use Rattle.host_runs.specs.Awaited.{first_block, wanted}
use Rattle.host_runs.specs.Notes.{NotedCall, Notes, with_digest}
use Rattle.host_runs.specs.lemmas.OrderlyPlaced.{some_same}
use Rattle.plan_parts.specs.Steps.{IsAtRest, IsReady}
use Rattle.plan_parts.specs.declared.outcome.Outcome.TheVariants as outcomes
use Rattle.file_plans.specs.Bases.{IsCached}
use Rattle.file_plans.specs.Calls.{Runs, file_of, is_write}
use Rattle.file_plans.specs.Plans.{first_of}
use Rattle.file_plans.specs.Stands.{At, IsOutside, NotedAt}
use Rattle.file_plans.specs.declared.call.FileCall.{FileCall}
use Rattle.file_plans.specs.declared.call.FileCall.TheVariants.{Close, Plain}
use Rattle.file_plans.specs.declared.stage.Stage.TheVariants as stages
use Rattle.file_plans.specs.declared.state.Core.{Core}

-- what stands at the first stage
pub begin_stands : (v : WorldView) (c : Cache) (core : Core) → core.host < v.locks.geometry.hosts → file_of core.call < v.locks.geometry.files
    → IsReady v core.host → IsCached v c core.host → core.taken ≡ [] → core.outcome ≡ outcomes.Open → At v c core (first_of core.call)
begin_stands v c core host file ready cached none comes = cases (is_write core.call) refl
  where
    outside : IsOutside v c core
    outside = record { host = host; file = file; ready = ready; none = none; cached = cached; comes = comes }

    cases : (b : Bool) → is_write core.call ≡ b → At v c core (if b then stages.Asks else stages.Begins)
    cases true is = (outside, is)
    cases false is = outside

-- and at the next one, once the digest was handed in
pub supply_stands : (v : WorldView) (c : Cache) (core : Core) → At v c core stages.Asks → At v c core stages.Begins
supply_stands v c core at = at.0

-- a call that is no write asks for no digest
no_first : (g : Geometry) (command : Command) (call : FileCall) → is_write call ≡ false → Runs command call → first_block g command ≡ None
no_first g (commands.Write f i n) (Plain call) write runs =
    let same : calls.Write f i (number_block n) ≡ call = some_same _ call runs in
    let both : true ≡ false = ap (λ (k : PlainCall). is_write (Plain k)) same ∙ write in cc
no_first g (commands.Create f) (Plain call) write runs = refl
no_first g (commands.Size f n) (Plain call) write runs = refl
no_first g (commands.Read f i) (Plain call) write runs = refl
no_first g (commands.Punch f i) (Plain call) write runs = refl
no_first g (commands.Remove f) (Plain call) write runs = refl
no_first g command (Plain call) write runs = absurd cc
no_first g command (Close f) write runs = subst (λ (k : Command). first_block g k ≡ None) (sym runs) refl

-- where no call was made, none met the volume full
none_full : (g : Geometry) (command : Command) (noted : List NotedCall) → noted ≡ [] → MeetsNoFull g command noted
none_full g command noted none f i n is (c, there, reads, met) =
    let nowhere : Contains [] c = subst (λ (l : List NotedCall). Contains l c) none there in
    let past = nowhere.1 in absurd (omega (arith, past))

-- the notes of a host at rest are those at the first stage
pub begin_noted : (command : Command) (v : WorldView) (core : Core) (n : Notes) → Runs command core.call → IsAtRest v core.host n
    → NotedAt command v core (first_of core.call) n
begin_noted command v core n runs rest = cases (is_write core.call) refl
  where
    cases : (b : Bool) → is_write core.call ≡ b → NotedAt command v core (if b then stages.Asks else stages.Begins) n
    cases true is = record { remembered = rest.remembered; between = rest.between }
    cases false is = record {
      noted = record {
        remembered = rest.remembered;
        placed_is = ap (λ (m : Notes). m.placed) rest.between;
        shown_is = ap (λ (m : Notes). m.tries.shown) rest.between;
        full = none_full v.locks.geometry command n.calls (ap (λ (m : Notes). m.calls) rest.between);
        asks = ap (λ (m : Notes). m.asks) rest.between;
        wants = ap (λ (m : Notes). wanted v.locks.geometry command m.calls m.digests m.asks) rest.between
            ∙ no_first v.locks.geometry command core.call is runs;
      };
      tries = ap (λ (m : Notes). m.tries) rest.between;
    }

-- and with the digest that was handed in, those at the next one
pub supply_noted : (command : Command) (v : WorldView) (core : Core) (digest : Digest) (n : Notes) → NotedAt command v core stages.Asks n
    → NotedAt command v core stages.Begins (with_digest digest n)
supply_noted command v core digest n asking = record {
  noted = record {
    remembered = asking.remembered;
    placed_is = ap (λ (m : Notes). m.placed) asking.between;
    shown_is = ap (λ (m : Notes). m.tries.shown) asking.between;
    full = none_full v.locks.geometry command n.calls (ap (λ (m : Notes). m.calls) asking.between);
    asks = refl;
    wants = ap (λ (m : Notes). wanted v.locks.geometry command m.calls (m.digests ++ digest ∷ []) None) asking.between;
  };
  tries = ap (λ (m : Notes). m.tries) asking.between;
}
