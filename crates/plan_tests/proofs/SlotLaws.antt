-- Where the plan of a command on slots may begin, over a device that tells nothing.
use Rattle.std.proofs.Common.{◌≡◌, ◌≢◌, ◌<◌, ◌^◌, ◌∙◌, ℕ, List, None, Option, Some, ap, arith, refl, replicate, sym, subst}
use Rattle.std.proofs.Common.{inl, inr}
use Rattle.std.proofs.lemmas.Bool.{cases_lt}
use Rattle.std.proofs.lemmas.List.{get_or-replicate, get_or_past, length-replicate}
use Rattle.vol_base.specs.declared.answer.Answer.{Answer}
use Rattle.vol_base.specs.declared.answer.Next.TheVariants.{Answered}
use Rattle.vol_base.specs.declared.answer.Step.{Step}
use Rattle.vol_layout.specs.declared.geometry.Geometry.{Geometry}
use Rattle.slot_lock_blocks.specs.Slots.{IsSlot, slot_key, slot_second, slot_state}
use Rattle.slot_lock_blocks.specs.declared.slot.Slot.{Slot}
use Rattle.slot_lock_blocks.specs.declared.slot.Slot.TheVariants.{Free, Live, Recovering}
use Rattle.lock_store.specs.Events.{Notes}
use Rattle.lock_store.specs.Memories.{dropped}
use Rattle.lock_store.specs.Views.{LocksView, host_at, key_at, told_of}
use Rattle.disk_locks.specs.Consistent.{Consistent}
use Rattle.disk_locks.specs.Others as locks'
use Rattle.host_facts.specs.Others.{Others}
use Rattle.host_facts.specs.Views.{WorldView, with_locks}
use Rattle.host_facts.specs.laws.KeptLaws.{others_lent, others_then}
use Rattle.recover_plan.specs.PlanSteps.{AreWatched}
use Rattle.recover_plan.specs.Nexts.{HasStepped}
use Rattle.recover_plan.specs.Plans.{PlanStands, StandsBehind, later_of, step_of}
use Rattle.recover_plan.specs.declared.plan.Come.{Come}
use Rattle.recover_plan.specs.declared.plan.Come.TheVariants as comes
use Rattle.recover_plan.specs.declared.plan.Doing.{Doing}
use Rattle.recover_plan.specs.declared.plan.Doing.TheVariants as doings
use Rattle.recover_plan.specs.laws.RegisterLaws.{nothing_watched}
use Rattle.watch.specs.declared.watch.Look.{Look}
use Rattle.watch.specs.Looks.{look_at, nothing}
use Rattle.plan_tests.specs.Seen.{AreSeen}
use Rattle.plan_tests.proofs.UntoldLaws as untold

-- a call leaves the volume as large as it was
pub same_volume : (h : ℕ) (v w : WorldView) → Others h v w → w.locks.geometry ≡ v.locks.geometry
same_volume h v w others = others.locks.lasts.geometry

-- a slot that was seen is spelled
spelled : (s : Slot) → slot_key s ≢ 0 → slot_key s < 2 ^ 64 → slot_second s < 2 ^ 64 → (slot_state s ≡ 2 → slot_second s ≢ 0) → IsSlot s
spelled Free some key second other = tt
spelled (Live k beat) some key second other = ((some, key), second)
spelled (Recovering k b) some key second other = ((some, key), (other refl, second))

second_fits : (s : Slot) → IsSlot s → slot_second s < 2 ^ 64
second_fits Free is = omega arith
second_fits (Live k beat) is = is.1
second_fits (Recovering k b) is = is.1.1

key_fits : (s : Slot) → IsSlot s → slot_key s < 2 ^ 64
key_fits Free is = omega arith
key_fits (Live k beat) is = is.0.1
key_fits (Recovering k b) is = is.0.1

by_some : (s : Slot) → IsSlot s → slot_state s ≡ 2 → slot_second s ≢ 0
by_some Free is two = absurd cc
by_some (Live k beat) is two = absurd cc
by_some (Recovering k b) is two = is.1.0

-- what a host remembers as its plan needs it, it remembers without a world, and back
pub seen : (w : WorldView) (h : ℕ) (watch : List (Option Look)) → w.locks.geometry.hosts ≡ 3 → AreWatched w h watch → AreSeen watch
seen w h watch three are of look below there =
    let was = are of look (subst (λ (n : ℕ). of < n) (sym three) below) there in
    (was.some, key_fits look.slot was.spelled, was.of_host was.some, second_fits look.slot was.spelled, by_some look.slot was.spelled)

pub watched : (v : WorldView) (h : ℕ) (watch : List (Option Look)) → v.locks.geometry.hosts ≡ 3 → key_at v.locks h ≢ 0
    → told_of v.locks ≡ None → AreSeen watch → AreWatched v h watch
watched v h watch three key none are of look below there =
    let was = are of look (subst (λ (n : ℕ). of < n) three below) there in record {
      spelled = spelled look.slot was.0 was.1 was.3 was.4;
      some = was.0;
      of_host = λ some. was.2;
      shown = record { guard = key; sure = untold.sure v.locks h _ none };
      by = record { guard = key; sure = untold.sure v.locks h _ none };
    }

-- a command that was answered leaves what its host remembers as a plan needs it
pub ended : (h x : ℕ) (v w : WorldView) (watch after : List (Option Look)) (doing later : Doing) (step : Step) (answer : Answer) → x ≡ h
    → HasStepped x v w watch after doing later step → step.next ≡ Answered answer → AreWatched w h after
ended h x v w watch after doing later step answer same is next =
    subst (λ (y : ℕ). AreWatched w y after) same
    (behind is.come (sym (ap (λ (s : Step). s.next) is.step_is) ∙ next) is.stands)
  where
    behind : (come : Come) → (step_of come).next ≡ Answered answer → StandsBehind w x after doing come → AreWatched w x after
    behind (comes.More more) next stands = absurd cc
    behind (comes.Answered other) next stands = stands
    behind (comes.Uncalled other) next stands = stands

-- one that was not answered goes on
pub goes_on : (h : ℕ) (v w : WorldView) (watch after : List (Option Look)) (doing later : Doing) (step : Step)
    → HasStepped h v w watch after doing later step → ((answer : Answer) → step.next ≡ Answered answer → ⊥) → PlanStands w h after later
goes_on h v w watch after doing later step is unanswered =
    subst (λ (d : Doing). PlanStands w h after d) (sym is.later_is) (cases is.come (ap (λ (s : Step). s.next) is.step_is) is.stands)
  where
    cases : (come : Come) → step.next ≡ (step_of come).next → StandsBehind w h after doing come → PlanStands w h after (later_of come)
    cases (comes.More more) next stands = stands.0
    cases (comes.Answered answer) next stands = absurd (unanswered answer next)
    cases (comes.Uncalled answer) next stands = absurd (unanswered answer next)

-- a host that is dropped leaves the others as they are
pub drop_leaves : (v : WorldView) (h : ℕ) (k l m : LocksView) (w : WorldView) → k ≡ v.locks → Consistent k → l ≡ v.locks
    → locks'.Others h l m → Others h (with_locks v m) w → Others h v w
drop_leaves v h k l m w first consistent same dropped then =
    let is = subst Consistent first consistent in
    others_then v (with_locks v m) w h is (others_lent v h m is (subst (λ (x : LocksView). locks'.Others h x m) same dropped)) then

-- nothing was seen
none_at : (of : ℕ) → look_at nothing of ≡ None
unfolding nothing
none_at of = elim (cases_lt of 16) [
  | inl below ↦ get_or-replicate 16 of None None below
  | inr past ↦ get_or_past (replicate 16 None) of None (let long = length-replicate {A = Option Look} 16 None in omega (arith, past, long))
]

pub none_seen : (watch : List (Option Look)) → watch ≡ nothing → AreSeen watch
none_seen watch is of look below there =
    let bad : None ≡ Some look = sym (ap (λ (l : List (Option Look)). look_at l of) is ∙ none_at of) ∙ there in absurd cc

-- a host that was dropped joins
pub joins : (u v w : LocksView) (x : WorldView) (h : ℕ) → h < u.geometry.hosts → v ≡ u → Notes h dropped v w → locks'.Others h v w
    → x.locks ≡ w → PlanStands x h nothing doings.Register
joins u v w x h host same notes others is = record {
  host = subst (λ (g : Geometry). h < g.hosts)
      (sym (ap (λ (l : LocksView). l.geometry) is ∙ others.lasts.geometry ∙ ap (λ (l : LocksView). l.geometry) same)) host;
  at = ap (λ (l : LocksView). host_at l h) is ∙ notes.mine;
  watched = nothing_watched x h;
}
