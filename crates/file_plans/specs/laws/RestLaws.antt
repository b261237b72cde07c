-- A step of a plan goes on, frees its locks, or answers its command.
use Rattle.vol_base.specs.declared.block.Block.{Block}
use Rattle.vol_base.specs.declared.plain.PlainCall.TheVariants.{Write}
use Rattle.plan_parts.specs.Steps.{IsAtRest, IsReady, OwesStep}
use Rattle.plan_parts.specs.TakenLocks.{IsTaking}
use Rattle.file_plans.specs.Bases.{IsCached, MayComeTo}
use Rattle.file_plans.specs.Calls.{is_write}
use Rattle.file_plans.specs.Bases.{IsCached, MayComeTo}
use Rattle.std.proofs.Common.{◌≡◌, ◌≢◌, ℕ, List, [], ◌∷◌, true, None, Option, Some, refl, sym, subst, ◌∙◌}
use Rattle.std.specs.Prelude.{IsSome}
use Rattle.vol_base.specs.declared.answer.Next.{Next}
use Rattle.vol_base.specs.declared.answer.Next.TheVariants as nexts
use Rattle.vol_base.specs.declared.command.Command.{Command}
use Rattle.vol_base.specs.declared.command.Command.TheVariants as commands
use Rattle.vol_base.specs.declared.plain.PlainReply.{PlainReply}
use Rattle.vol_base.specs.PlainCalls.{plain_call_of}
use Rattle.vol_layout.specs.declared.kind.Resource.{Resource}
use Rattle.shared_disk.specs.Events.{Event}
use Rattle.lock_store.specs.Views.{key_at}
use Rattle.disk_locks.specs.Consistent.{Consistent}
use Rattle.held_cache.specs.Kept.{Cache}
use Rattle.host_facts.specs.Facts.Fact.{RecordIs}
use Rattle.host_facts.specs.Knows.{Knows}
use Rattle.host_facts.specs.Views.{WorldView}
use Rattle.host_notes.specs.FileTurns.{IsOnFile}
use Rattle.host_runs.specs.Notes.{Notes, with_place}
use Rattle.plan_parts.specs.PlacedCalls.{PlacedCall}
use Rattle.plan_parts.specs.QuietCalls.{Noted, placed_of}
use Rattle.plan_parts.specs.Steps.{answer_of}
use Rattle.plan_parts.specs.declared.outcome.Outcome.{Outcome}
use Rattle.plan_parts.specs.declared.outcome.Outcome.TheVariants as outcomes
use Rattle.plan_parts.specs.laws.StepLaws.{IsAnswerOf, step_answers, step_goes_on}
use Rattle.file_plans.specs.Bases.{IsBase}
use Rattle.file_plans.specs.Calls.{Runs}
use Rattle.file_plans.specs.Sights.{MayPlace}
use Rattle.file_plans.specs.Stands.{At, NotedAt}
use Rattle.file_plans.specs.Went.{IsRest, Went}
use Rattle.file_plans.specs.declared.call.FileCall.{FileCall}
use Rattle.file_plans.specs.declared.call.FileCall.TheVariants.{Close, Plain}
use Rattle.file_plans.specs.declared.state.Core.{Core}
use Rattle.file_plans.specs.declared.stage.Stage.{Stage}
use Rattle.file_plans.specs.declared.stage.Stage.TheVariants as stages

-- a command that a plan runs is on a file
pub on_file : (command : Command) (call : FileCall) → Runs command call → IsOnFile command
on_file commands.Join (Plain call) runs = absurd cc
on_file commands.Leave (Plain call) runs = absurd cc
on_file (commands.Create f) (Plain call) runs = refl
on_file (commands.Size f n) (Plain call) runs = refl
on_file (commands.Write f i n) (Plain call) runs = refl
on_file (commands.Read f i) (Plain call) runs = refl
on_file (commands.Punch f i) (Plain call) runs = refl
on_file (commands.Remove f) (Plain call) runs = refl
on_file command (Plain call) runs = absurd cc
on_file command (Close f) runs = subst IsOnFile (sym runs) refl

-- a plain write is asked for by a command that writes
pub write_asked : (command : Command) (f i : ℕ) (block : Block) → plain_call_of command ≡ Some (Write f i block)
    → (f : ℕ) × (i : ℕ) × (k : ℕ) × (command ≡ commands.Write f i k)
write_asked (commands.Write f i n) g j block runs = (f, i, n, refl)
write_asked (commands.Create f) g j block runs = absurd cc
write_asked (commands.Size f n) g j block runs = absurd cc
write_asked (commands.Read f i) g j block runs = absurd cc
write_asked (commands.Punch f i) g j block runs = absurd cc
write_asked (commands.Remove f) g j block runs = absurd cc
write_asked command g j block runs = absurd cc

full_write : (command : Command) (call : FileCall) → Runs command call → is_write call ≡ true
    → (f : ℕ) × (i : ℕ) × (k : ℕ) × (command ≡ commands.Write f i k)
full_write command (Plain (Write f i block)) runs is = write_asked command f i block runs
full_write command call runs is = absurd cc

-- the answer that a call comes to is one of its command
answers_it : (command : Command) (call : FileCall) (outcome : Outcome) → Runs command call → MayComeTo call outcome
    → outcome ≢ outcomes.Open → IsAnswerOf command outcome (answer_of outcome)
answers_it command call outcomes.Open runs may some = absurd (some refl)
answers_it command (Plain call) (outcomes.Placed reply) runs may some = (refl, subst IsSome (sym runs) refl)
answers_it command (Close f) (outcomes.Placed reply) runs may some = absurd may
answers_it command call (outcomes.Busy key) runs may some = refl
answers_it command (Plain call) outcomes.Full runs may some =
    let w = full_write command (Plain call) runs may in (refl, w.0, w.1, w.2, w.3)
answers_it command (Close f) outcomes.Full runs may some = absurd cc

module _ (v w : WorldView) (d : Cache) (old new : Core) (before : Stage) (e : Event) (placed : Option PlainReply)
    (host : new.host ≡ old.host) (call : new.call ≡ old.call) (some : key_at v.locks old.host ≢ 0) (c : Consistent w.locks)
    (was : Outcome) (once : IsSome placed → placed_of was ≡ None) (range : MayPlace v.locks.geometry old.call placed)
    (noted : (command : Command) (n : Notes) → NotedAt command v old before n → Noted command old.host v was n)
    (Between : Command → Notes → Type 0)
    (calls : (command : Command) → Runs command old.call
    → PlacedCall command old.host v w e placed (NotedAt command v old before) (Between command)) where
  -- the plan goes on to a stage that stands
  pub went_on : (after : Stage) → IsCached w d old.host → At w d new after
      → ((command : Command) (n : Notes) → Between command n → n.asks ≡ None)
      → ((command : Command) (n : Notes) → Between command n → NotedAt command w new after (with_place placed n))
      → Went v w d old new before (record { placed = placed; called = true; next = nexts.More }) after
  went_on after cached stands waits behind = record {
    host = host;
    call = call;
    cached = cached;
    stands = stands;
    in_range = range;
    owes = λ command runs.
        step_goes_on command old.host v w e placed (on_file command old.call runs) some was once (NotedAt command v old before)
        (Between command) (noted command) (calls command runs) (NotedAt command w new after) (waits command) (behind command);
  }

  -- the command is answered by what it has come to
  pub went_answered : (outcome : Outcome) (after : Stage) → outcome ≢ outcomes.Open → IsCached w d old.host → IsReady w old.host
      → MayComeTo old.call outcome
      → ((command : Command) (n : Notes) → Between command n → Noted command old.host w outcome (with_place placed n))
      → Went v w d old new before (record { placed = placed; called = true; next = nexts.Answered (answer_of outcome) }) after
  went_answered outcome after come cached ready may behind = record {
    host = host;
    call = call;
    cached = cached;
    stands = tt;
    in_range = range;
    owes = λ command runs.
        subst (λ (h : ℕ). OwesStep command old.host v w
        (record { placed = placed; called = true; next = nexts.Answered (answer_of outcome) }) (NotedAt command v old before)
        (λ n. IsAtRest w h n)) (sym host)
        (step_answers command old.host v w e placed (on_file command old.call runs) some was once (NotedAt command v old before)
        (Between command) (noted command) (calls command runs) c ready outcome (behind command) (answer_of outcome)
        (answers_it command old.call outcome runs may come));
  }

  -- no record stands behind it
  pub went_rest : (next : Next) (after : Stage) → IsBase w d new → Knows w new.host (RecordIs []) → MayComeTo old.call new.outcome
      → ((command : Command) (n : Notes) → Between command n → n.asks ≡ None)
      → ((command : Command) (n : Notes) → Between command n → Noted command new.host w new.outcome (with_place placed n))
      → IsRest new.taken new.outcome next after
      → Went v w d old new before (record { placed = placed; called = true; next = next }) after
  went_rest next after base empty may waits behind rest = cases new.taken new.outcome refl refl rest
    where
      goes : (to : Stage) → At w d new to → ((command : Command) (n : Notes) → Noted command new.host w new.outcome n → NotedAt command w new to n)
          → next ≡ nexts.More → after ≡ to → Went v w d old new before (record { placed = placed; called = true; next = next }) after
      goes to stands agrees more same =
          subst (λ (s : Stage). Went v w d old new before (record { placed = placed; called = true; next = next }) s) (sym same)
          (subst (λ (n : Next). Went v w d old new before (record { placed = placed; called = true; next = n }) to) (sym more)
          (went_on to (subst (IsCached w d) host base.cached) stands waits (λ command n is. agrees command _ (behind command n is))))

      ready : new.taken ≡ [] → IsReady w old.host
      ready none = subst (IsReady w) host (record {
        joined = base.joined;
        empty = empty;
        taking = subst (IsTaking w new.host) none base.taking;
      })

      answered : (outcome : Outcome) → outcome ≢ outcomes.Open → new.taken ≡ [] → new.outcome ≡ outcome
          → next ≡ nexts.Answered (answer_of outcome) → Went v w d old new before (record { placed = placed; called = true; next = next }) after
      answered outcome come none is same =
          subst (λ (n : Next). Went v w d old new before (record { placed = placed; called = true; next = n }) after) (sym same)
          (went_answered outcome after come (subst (IsCached w d) host base.cached) (ready none) (subst (MayComeTo old.call) is may)
          (λ command n between. subst (λ (h : ℕ). Noted command h w outcome (with_place placed n)) host
          (subst (λ (o : Outcome). Noted command new.host w o (with_place placed n)) is (behind command n between))))

      cases : (taken : List Resource) (outcome : Outcome) → new.taken ≡ taken → new.outcome ≡ outcome → IsRest taken outcome next after
          → Went v w d old new before (record { placed = placed; called = true; next = next }) after
      cases (r ∷ more) outcome taken come rest =
          goes stages.Frees
          (base, empty, (λ none. let both : r ∷ more ≡ [] = sym taken ∙ none in cc), subst (λ (k : FileCall). MayComeTo k new.outcome) (sym call) may)
          (λ command n is. is) rest.0 rest.1
      cases [] outcomes.Open taken come rest =
          goes stages.Sees (record { base = base; empty = empty; comes = come }, taken) (λ command n is. is) rest.0 rest.1
      cases [] (outcomes.Placed reply) taken come rest = answered (outcomes.Placed reply) (λ is. cc) taken come rest.0
      cases [] (outcomes.Busy key) taken come rest = answered (outcomes.Busy key) (λ is. cc) taken come rest.0
      cases [] outcomes.Full taken come rest = answered outcomes.Full (λ is. cc) taken come rest.0
