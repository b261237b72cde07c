-- What a step of a promotion did, by what its call left.
use Rattle.std.proofs.Common.{◌≡◌, ◌<◌, ℕ, List, [], ◌∷◌, None, Option, Some, refl, sym, subst, ◌∙◌, arith, length}
use Rattle.vol_base.specs.declared.command.Command.{Command}
use Rattle.vol_layout.specs.declared.geometry.Geometry.{Geometry}
use Rattle.vol_layout.specs.declared.kind.Resource.{Resource}
use Rattle.image_view.specs.Images.{Image}
use Rattle.shared_disk.specs.Events.{Event}
use Rattle.lock_store.specs.Views.{told_of}
use Rattle.disk_locks.specs.Sure.{BothTold, Sure}
use Rattle.host_facts.specs.Facts.Fact.{RecordIs}
use Rattle.host_facts.specs.Knows.{Knows}
use Rattle.host_facts.specs.Looks.{Looks}
use Rattle.host_facts.specs.Views.{WorldView}
use Rattle.plan_parts.specs.QuietCalls.{Noted, QuietCall}
use Rattle.plan_parts.specs.TakenLocks.{IsTaking}
use Rattle.plan_parts.specs.declared.outcome.Outcome.{Outcome}
use Rattle.plan_parts.specs.declared.outcome.Outcome.TheVariants as outcomes
use Rattle.share_plans.specs.Closings.{ChangesNothing, KeepsHolds}
use Rattle.share_plans.specs.HintSpares.{SparesHints}
use Rattle.share_plans.specs.Promotions.{At, HasAnswered, HasSlot, IsCause, IsOtherKey, IsSame, Went, answer_at, ended_by, left, outcome_by}
use Rattle.share_plans.specs.Stands.{IsHost}
use Rattle.share_plans.specs.Went.{MayShare}
use Rattle.share_plans.specs.declared.promotion.Doing.{Doing}
use Rattle.share_plans.specs.declared.promotion.Promoted.{Promoted}
use Rattle.share_plans.specs.declared.promotion.Promoted.TheVariants as answers
use Rattle.share_plans.specs.declared.promotion.Promotion.{Promotion}
use Rattle.share_plans.specs.declared.promotion.Reached.TheVariants.{More}
use Rattle.share_plans.specs.laws.StepLaws.{looked_keeps, looked_sure}

-- the promotion goes on
pub went_on : (v w : WorldView) (core new : Promotion) (stage after : Doing) → answer_at stage ≡ None → answer_at after ≡ None → IsSame core new
    → KeepsHolds core.host v w → At w new after → ChangesNothing v w → left new after < left core stage → (e : Event)
    → SparesHints v.locks.geometry e.call
    → ((command : Command) → MayShare command
    → QuietCall command core.host v w e (Noted command core.host v outcomes.Open) (Noted command core.host w outcomes.Open))
    → Went v w core new stage (More after)
went_on v w core new stage after fresh later same keeps stands nothing less e spares quiet = record {
  same = same;
  keeps = keeps;
  stands = stands;
  answers_are = subst (λ (o : Option Promoted). HasAnswered v w core o (answer_at after)) (sym fresh)
      (subst (HasAnswered v w core None) (sym later) nothing);
  less = less;
  event = e;
  spares = spares;
  quiet = λ command may.
      subst (λ (o : Option Promoted).
      QuietCall command core.host v w e (Noted command core.host v (outcome_by o)) (Noted command core.host w (outcome_by (answer_at after))))
      (sym fresh)
      (subst (λ (o : Option Promoted).
      QuietCall command core.host v w e (Noted command core.host v outcomes.Open) (Noted command core.host w (outcome_by o)))
      (sym later) (quiet command may));
}

-- what has come to an answer stands: its locks are freed, or it is answered
pub record IsEnding (v w : WorldView) (core new : Promotion) (stage : Doing) (answer : Promoted) : Type 0 where
  pub fresh : answer_at stage ≡ None
  pub same : IsSame core new
  pub keeps : KeepsHolds core.host v w
  pub is_host : IsHost w new.host new.file
  pub slot : HasSlot w.locks.geometry answer
  pub taking : IsTaking w new.host new.taken
  pub empty : Knows w new.host (RecordIs [])
  pub cause : BothTold (told_of v.locks) (told_of w.locks) (IsCause v.locks.geometry core answer)
  pub other : IsOtherKey v core.host answer
  pub less : length new.taken < left core stage
  pub event : Event
  pub spares : SparesHints v.locks.geometry event.call
  pub quiet : (command : Command) → MayShare command
      → QuietCall command core.host v w event (Noted command core.host v outcomes.Open) (Noted command core.host w (outcome_by (Some answer)))

module _ (v w : WorldView) (core new : Promotion) (stage : Doing) (answer : Promoted) (is : IsEnding v w core new stage answer) where
  came_answers : HasAnswered v w core (answer_at stage) (Some answer)
  came_answers = subst (λ (o : Option Promoted). HasAnswered v w core o (Some answer)) (sym is.fresh) (is.cause, is.other)

  came_quiet : (command : Command) → MayShare command
      → QuietCall command core.host v w is.event (Noted command core.host v (outcome_by (answer_at stage)))
      (Noted command core.host w (outcome_by (Some answer)))
  came_quiet command may =
      subst (λ (o : Option Promoted).
      QuietCall command core.host v w is.event (Noted command core.host v (outcome_by o)) (Noted command core.host w (outcome_by (Some answer))))
      (sym is.fresh) (is.quiet command may)

  by_taken : (taken : List Resource) → new.taken ≡ taken → Went v w core new stage (ended_by taken answer)
  by_taken [] none = record {
    same = is.same;
    keeps = is.keeps;
    stands = (
      is.is_host,
      record { joined = is.is_host.joined; empty = is.empty; taking = subst (IsTaking w new.host) none is.taking },
      is.slot,
    );
    answers_are = came_answers;
    less = let some = is.less in omega (arith, some);
    event = is.event;
    spares = is.spares;
    quiet = came_quiet;
  }
  by_taken (r ∷ more) some = record {
    same = is.same;
    keeps = is.keeps;
    stands = (is.is_host, (is.taking, is.empty, λ none. let both : r ∷ more ≡ [] = sym some ∙ none in cc), is.slot);
    answers_are = came_answers;
    less = is.less;
    event = is.event;
    spares = is.spares;
    quiet = came_quiet;
  }

  pub went_ended : Went v w core new stage (ended_by new.taken answer)
  went_ended = by_taken new.taken refl

-- an answer that is no key and no slot
abbrev pub IsPlain : Promoted → Type 0
IsPlain (answers.Promoted t) = ⊥
IsPlain (answers.Busy key) = ⊥
IsPlain answer = Unit {0}

plain_open : (answer : Promoted) → IsPlain answer → outcome_by (Some answer) ≡ outcomes.Open
plain_open (answers.Promoted t) plain = absurd plain
plain_open answers.Marked plain = refl
plain_open answers.Hole plain = refl
plain_open answers.PartFull plain = refl
plain_open (answers.Busy key) plain = absurd plain

plain_other : (v : WorldView) (h : ℕ) (answer : Promoted) → IsPlain answer → IsOtherKey v h answer
plain_other v h (answers.Promoted t) plain = absurd plain
plain_other v h answers.Marked plain = tt
plain_other v h answers.Hole plain = tt
plain_other v h answers.PartFull plain = tt
plain_other v h (answers.Busy key) plain = absurd plain

plain_slot : (g : Geometry) (answer : Promoted) → IsPlain answer → HasSlot g answer
plain_slot g (answers.Promoted t) plain = absurd plain
plain_slot g answers.Marked plain = tt
plain_slot g answers.Hole plain = tt
plain_slot g answers.PartFull plain = tt
plain_slot g (answers.Busy key) plain = absurd plain

-- a call that wrote nothing came to such an answer
pub looked_ended : (v w : WorldView) (core new : Promotion) (stage : Doing) (answer : Promoted) → IsPlain answer → answer_at stage ≡ None
    → IsSame core new → Looks core.host v w → IsHost w new.host new.file → IsTaking w new.host new.taken
    → Knows w new.host (RecordIs []) → (P : Image → Type 0) → Sure w.locks core.host P
    → ((image : Image) → P image → IsCause v.locks.geometry core answer image image) → length new.taken < left core stage → (e : Event)
    → SparesHints v.locks.geometry e.call
    → ((command : Command) → MayShare command
    → QuietCall command core.host v w e (Noted command core.host v outcomes.Open) (Noted command core.host w outcomes.Open))
    → Went v w core new stage (ended_by new.taken answer)
looked_ended v w core new stage answer plain fresh same looks is_host taking empty P sure cause less e spares quiet =
    went_ended v w core new stage answer (record {
      fresh = fresh;
      same = same;
      keeps = looked_keeps core.host v w looks;
      is_host = is_host;
      slot = plain_slot w.locks.geometry answer plain;
      taking = taking;
      empty = empty;
      cause = looked_sure core.host v w P (IsCause v.locks.geometry core answer) looks sure cause;
      other = plain_other v core.host answer plain;
      less = less;
      event = e;
      spares = spares;
      quiet = λ command may.
          subst (λ (o : Outcome). QuietCall command core.host v w e (Noted command core.host v outcomes.Open) (Noted command core.host w o))
          (sym (plain_open answer plain)) (quiet command may);
    })
