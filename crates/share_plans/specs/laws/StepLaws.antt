-- What a step of a share did, by what its call left.
use Rattle.std.proofs.Common.{◌≡◌, ◌<◌, ℕ, List, [], ◌∷◌, None, Option, Some, refl, ap, sym, subst, ◌∙◌, arith, length}
use Rattle.std.specs.Prelude.{Contains, IfSome}
use Rattle.vol_base.specs.declared.command.Command.{Command}
use Rattle.vol_layout.specs.declared.geometry.Geometry.{Geometry}
use Rattle.vol_layout.specs.declared.kind.Resource.{Resource}
use Rattle.image_view.specs.Images.{Image}
use Rattle.shared_disk.specs.Events.{Event}
use Rattle.shared_disk.specs.State.{State, Told}
use Rattle.lock_store.specs.declared.host.HostState.{HostState}
use Rattle.lock_store.specs.Memories.{key_of}
use Rattle.lock_store.specs.Views.{key_at, keys_of, told_of}
use Rattle.disk_locks.specs.Sure.{BothTold, Sure}
use Rattle.call_effects.specs.Changes.{Changes}
use Rattle.host_facts.specs.Facts.Fact.{RecordIs}
use Rattle.host_facts.specs.Knows.{Knows}
use Rattle.host_facts.specs.Looks.{Looks}
use Rattle.host_facts.specs.Views.{WorldView}
use Rattle.host_facts.specs.laws.ToldLaws.{both_same, both_with}
use Rattle.plan_parts.specs.QuietCalls.{Noted, QuietCall}
use Rattle.plan_parts.specs.TakenLocks.{IsTaking}
use Rattle.plan_parts.specs.declared.outcome.Outcome.{Outcome}
use Rattle.plan_parts.specs.declared.outcome.Outcome.TheVariants as outcomes
use Rattle.share_plans.specs.Causes.{HasAnswered, IsCause, IsOtherKey}
use Rattle.share_plans.specs.Closings.{ChangesNothing, KeepsHolds}
use Rattle.share_plans.specs.HintSpares.{SparesHints}
use Rattle.share_plans.specs.Lefts.{left}
use Rattle.share_plans.specs.Stands.{At, HasPlaces}
use Rattle.share_plans.specs.Went.{IsSame, MayShare, Went, answer_at, ended_by, outcome_by}
use Rattle.share_plans.specs.declared.sharing.Shared.{Shared}
use Rattle.share_plans.specs.declared.sharing.Shared.TheVariants as answers
use Rattle.share_plans.specs.declared.stage.Came.TheVariants.{More}
use Rattle.share_plans.specs.declared.stage.Core.{Core}
use Rattle.share_plans.specs.declared.stage.Stage.{Stage}
use Rattle.share_plans.specs.laws.ClosingLaws.{keeps_memory}

-- an image that stays has changed in nothing
pub same_image : (g : Geometry) (image : Image) → Changes g [] None image image
same_image g image = record { super = refl; numbers = λ x has. refl; blocks = λ d has. refl }

-- a call that wrote nothing changes nothing
pub looked_nothing : (h : ℕ) (v w : WorldView) → Looks h v w → ChangesNothing v w
looked_nothing h v w looks =
    both_same (told_of v.locks) (told_of w.locks) (Changes v.locks.geometry [] None) (ap (λ (s : State). s.told) looks.state)
    (same_image v.locks.geometry)

pub looked_keeps : (h : ℕ) (v w : WorldView) → Looks h v w → KeepsHolds h v w
looked_keeps h v w looks = keeps_memory h v w looks.geometry looks.memory

-- what is sure behind it is so of the image before and behind it
pub looked_sure : (h : ℕ) (v w : WorldView) (P : Image → Type 0) (R : Image → Image → Type 0) → Looks h v w → Sure w.locks h P
    → ((image : Image) → P image → R image image) → BothTold (told_of v.locks) (told_of w.locks) R
looked_sure h v w P R looks sure f =
    let told = ap (λ (s : State). s.told) looks.state in
    let here : Contains (keys_of w.locks) (key_at w.locks h) =
    subst (λ (m : HostState). Contains (keys_of w.locks) (key_of m)) (sym looks.memory)
    (subst (λ (s : State). Contains s.keys (key_at v.locks h)) (sym looks.state) looks.registered) in
    both_with (told_of v.locks) (told_of w.locks) P (λ i j. j ≡ i) R
    (subst (λ (o : Option Told). IfSome o (λ t. P t.image)) told (sure here))
    (both_same (told_of v.locks) (told_of w.locks) (λ i j. j ≡ i) told (λ image. refl))
    (λ i j is same. subst (R i) (sym same) (f i is))

-- the share goes on
pub went_on : (v w : WorldView) (core new : Core) (stage after : Stage) → answer_at stage ≡ None → answer_at after ≡ None → IsSame core new
    → KeepsHolds core.host v w → At w new after → ChangesNothing v w → left new after < left core stage → (e : Event)
    → SparesHints v.locks.geometry e.call
    → ((command : Command) → MayShare command
    → QuietCall command core.host v w e (Noted command core.host v outcomes.Open) (Noted command core.host w outcomes.Open))
    → Went v w core new stage (More after)
went_on v w core new stage after fresh later same keeps stands nothing less e spares quiet = record {
  same = same;
  keeps = keeps;
  stands = stands;
  answers_are = subst (λ (o : Option Shared). HasAnswered v w core stage o (answer_at after)) (sym fresh)
      (subst (HasAnswered v w core stage None) (sym later) nothing);
  less = less;
  event = e;
  spares = spares;
  quiet = λ command may.
      subst (λ (o : Option Shared).
      QuietCall command core.host v w e (Noted command core.host v (outcome_by o)) (Noted command core.host w (outcome_by (answer_at after))))
      (sym fresh)
      (subst (λ (o : Option Shared).
      QuietCall command core.host v w e (Noted command core.host v outcomes.Open) (Noted command core.host w (outcome_by o)))
      (sym later) (quiet command may));
}

-- what has come to an answer stands: its locks are freed, or it is answered
pub record IsEnding (v w : WorldView) (core new : Core) (stage : Stage) (answer : Shared) : Type 0 where
  pub fresh : answer_at stage ≡ None
  pub same : IsSame core new
  pub keeps : KeepsHolds core.host v w
  pub places : HasPlaces w new.host new.file new.source
  pub taking : IsTaking w new.host new.taken
  pub empty : Knows w new.host (RecordIs [])
  pub cause : BothTold (told_of v.locks) (told_of w.locks) (IsCause v.locks.geometry core stage answer)
  pub other : IsOtherKey v core.host answer
  pub less : length new.taken < left core stage
  pub event : Event
  pub spares : SparesHints v.locks.geometry event.call
  pub quiet : (command : Command) → MayShare command
      → QuietCall command core.host v w event (Noted command core.host v outcomes.Open) (Noted command core.host w (outcome_by (Some answer)))

module _ (v w : WorldView) (core new : Core) (stage : Stage) (answer : Shared) (is : IsEnding v w core new stage answer) where
  came_answers : HasAnswered v w core stage (answer_at stage) (Some answer)
  came_answers = subst (λ (o : Option Shared). HasAnswered v w core stage o (Some answer)) (sym is.fresh) (is.cause, is.other)

  came_quiet : (command : Command) → MayShare command
      → QuietCall command core.host v w is.event (Noted command core.host v (outcome_by (answer_at stage)))
      (Noted command core.host w (outcome_by (Some answer)))
  came_quiet command may =
      subst (λ (o : Option Shared).
      QuietCall command core.host v w is.event (Noted command core.host v (outcome_by o)) (Noted command core.host w (outcome_by (Some answer))))
      (sym is.fresh) (is.quiet command may)

  by_taken : (taken : List Resource) → new.taken ≡ taken → Went v w core new stage (ended_by taken answer)
  by_taken [] none = record {
    same = is.same;
    keeps = is.keeps;
    stands = (is.places, record { joined = is.places.is_host.joined; empty = is.empty; taking = subst (IsTaking w new.host) none is.taking });
    answers_are = came_answers;
    less = let some = is.less in omega (arith, some);
    event = is.event;
    spares = is.spares;
    quiet = came_quiet;
  }
  by_taken (r ∷ more) some = record {
    same = is.same;
    keeps = is.keeps;
    stands = (is.places, (is.taking, is.empty, λ none. let both : r ∷ more ≡ [] = sym some ∙ none in cc));
    answers_are = came_answers;
    less = is.less;
    event = is.event;
    spares = is.spares;
    quiet = came_quiet;
  }

  pub went_ended : Went v w core new stage (ended_by new.taken answer)
  went_ended = by_taken new.taken refl

-- an answer that is no key
abbrev pub IsPlain : Shared → Type 0
IsPlain (answers.Busy key) = ⊥
IsPlain answer = Unit {0}

plain_open : (answer : Shared) → IsPlain answer → outcome_by (Some answer) ≡ outcomes.Open
plain_open answers.Linked plain = refl
plain_open answers.Already plain = refl
plain_open (answers.Differs at) plain = refl
plain_open answers.Hole plain = refl
plain_open answers.NoSource plain = refl
plain_open (answers.Busy key) plain = absurd plain

plain_other : (v : WorldView) (h : ℕ) (answer : Shared) → IsPlain answer → IsOtherKey v h answer
plain_other v h answers.Linked plain = tt
plain_other v h answers.Already plain = tt
plain_other v h (answers.Differs at) plain = tt
plain_other v h answers.Hole plain = tt
plain_other v h answers.NoSource plain = tt
plain_other v h (answers.Busy key) plain = absurd plain

-- a call that wrote nothing came to such an answer
pub looked_ended : (v w : WorldView) (core new : Core) (stage : Stage) (answer : Shared) → IsPlain answer → answer_at stage ≡ None
    → IsSame core new → Looks core.host v w → HasPlaces w new.host new.file new.source → IsTaking w new.host new.taken
    → Knows w new.host (RecordIs []) → (P : Image → Type 0) → Sure w.locks core.host P
    → ((image : Image) → P image → IsCause v.locks.geometry core stage answer image image) → length new.taken < left core stage → (e : Event)
    → SparesHints v.locks.geometry e.call
    → ((command : Command) → MayShare command
    → QuietCall command core.host v w e (Noted command core.host v outcomes.Open) (Noted command core.host w outcomes.Open))
    → Went v w core new stage (ended_by new.taken answer)
looked_ended v w core new stage answer plain fresh same looks places taking empty P sure cause less e spares quiet =
    went_ended v w core new stage answer (record {
      fresh = fresh;
      same = same;
      keeps = looked_keeps core.host v w looks;
      places = places;
      taking = taking;
      empty = empty;
      cause = looked_sure core.host v w P (IsCause v.locks.geometry core stage answer) looks sure cause;
      other = plain_other v core.host answer plain;
      less = less;
      event = e;
      spares = spares;
      quiet = λ command may.
          subst (λ (o : Outcome). QuietCall command core.host v w e (Noted command core.host v outcomes.Open) (Noted command core.host w o))
          (sym (plain_open answer plain)) (quiet command may);
    })
