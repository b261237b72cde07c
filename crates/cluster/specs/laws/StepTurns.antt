-- A step of a plan is a turn of its host.
use Rattle.std.proofs.Common.{◌≡◌, ◌≢◌, ◌+◌, ◌-◌, ◌==◌, ◌&&◌, ℕ, Bool, true, false, Option, Some, None, is_none, is_some, if◌then◌else◌, refl, ap, sym, subst, ◌∙◌, arith}
use Rattle.std.proofs.lemmas.Bool.{eq-eqb, eqb-true}
use Rattle.vol_base.specs.declared.answer.Answer.{Answer}
use Rattle.vol_base.specs.declared.answer.Answer.TheVariants as answers
use Rattle.vol_base.specs.declared.answer.CutBy.TheVariants as cuts
use Rattle.vol_base.specs.declared.answer.Next.{Next}
use Rattle.vol_base.specs.declared.answer.Next.TheVariants as nexts
use Rattle.vol_base.specs.declared.answer.Step.{Step}
use Rattle.vol_base.specs.declared.command.Command.{Command}
use Rattle.vol_base.specs.declared.command.Command.TheVariants as commands
use Rattle.vol_base.specs.declared.plain.PlainReply.{PlainReply}
use Rattle.vol_layout.specs.declared.geometry.Geometry.{Geometry}
use Rattle.shared_disk.specs.Events.{Event}
use Rattle.shared_disk.specs.Seen.{DiskSeen}
use Rattle.shared_disk.specs.State.{State}
use Rattle.host_runs.specs.lemmas.OrderlyPlaced.{some_same}
use Rattle.held_cache.specs.Kept.{Cache}
use Rattle.histories.specs.Answers.{MakesCalls}
use Rattle.histories.specs.Joined.{death_after}
use Rattle.host_facts.specs.Views.{WorldView}
use Rattle.host_notes.specs.CutTurns.{dropped_at}
use Rattle.host_notes.specs.Owes.{Owes, joined_in, plan_moment}
use Rattle.host_runs.specs.Awaited.{wanted}
use Rattle.host_runs.specs.Notes.{Notes}
use Rattle.host_runs.specs.Rests.{IsNotedAfter, dying_after}
use Rattle.host_runs.specs.Steps.{IsDeath, notes_now}
use Rattle.plan_parts.specs.Steps.{OwesStep, ended_of}
use Rattle.recover_plan.specs.laws.JoinFinds.{dropped_rests}
use Rattle.cluster.specs.declared.carried.Carried.{Carried}
use Rattle.cluster.specs.Dropping.{IsDroppedIn}
use Rattle.cluster.specs.HostTurns.{IsHostTurn}
use Rattle.file_plans.specs.laws.PlanLaws.{stands_at}
use Rattle.cluster.specs.Plans.{IsPlanned, NotedBehind, PlanAt, PlanNoted, StandsBehind}
use Rattle.cluster.specs.declared.plan.Plan.TheVariants.{Collects, Files, Hints, Merges, Serves, Slots}
use Rattle.cluster.specs.Seats.{HasMoved, IsLeft, MakesTurn, PlanNotedOf, PlanStandsOf, death_behind, is_last, joined_of, left_behind, less}
use Rattle.cluster.specs.laws.FreshLaws.{fresh_noted, fresh_rests}
use Rattle.cluster.specs.declared.plan.Plan.{Plan}
use Rattle.cluster.specs.declared.seat.Seat.{Seat}
use Rattle.cluster.specs.laws.SlotSteps.{nothing_cached}

-- one call less is left, where it was not the last one
left_call : (death : Option ℕ) (dying : ℕ) (left : Option ℕ) → IsLeft death dying left → is_last left ≡ false
    → IsLeft death (dying + 1) (less left)
left_call None dying left is last = ap less is
left_call (Some n) dying left (k, is, all, some) last =
    let other : (k == 1) ≡ false = sym (ap is_last is) ∙ last in
    let apart : k ≢ 1 = λ one. let both : true ≡ false = sym (eq-eqb k 1 one) ∙ other in absurd cc in
    (k - 1, ap less is ∙ ap (λ (b : Bool). if b then None else Some (k - 1)) other, omega (arith, all, some, apart), omega (arith, some, apart))

-- the death comes exactly with the last one
last_dies : (death : Option ℕ) (dying : ℕ) (left : Option ℕ) → IsLeft death dying left → is_last left ≡ true → death ≡ Some (dying + 1)
last_dies None dying left is last = let both : false ≡ true = sym (ap is_last is) ∙ last in absurd cc
last_dies (Some n) dying left (k, is, all, some) last =
    let one : k ≡ 1 = eqb-true k 1 (sym (ap is_last is) ∙ last) in ap (λ (m : ℕ). Some m) (omega (arith, all, one))

not_yet : (death : Option ℕ) (dying : ℕ) (left : Option ℕ) → IsLeft death dying left → is_last left ≡ false → death ≡ Some (dying + 1) → ⊥
not_yet None dying left is last dies = cc
not_yet (Some n) dying left (k, is, all, some) last dies =
    let one : k ≡ 1 = let same : n ≡ dying + 1 = some_same n (dying + 1) dies in omega (arith, all, same) in
    let both : true ≡ false = sym (eq-eqb k 1 one) ∙ sym (ap is_last is) ∙ last in absurd cc

-- a command of a plan is no `die`, and can be cut
planned_calls : (h : ℕ) (command : Command) → IsPlanned h command → MakesCalls command
planned_calls h (commands.Die calls) planned = absurd planned
planned_calls h command planned = tt

-- the calls that are left behind a turn that is no death
abbrev call_left : Option Event → Option ℕ → Option ℕ
call_left None left = left
call_left (Some e) left = less left

made_left : (made : Option Event) (g : Geometry) (h : ℕ) (command : Command) (before : State) (placed : Option PlainReply) (n : Notes)
    (death : Option ℕ) (left : Option ℕ) → IsLeft death n.dying left → (is_some made && is_last left) ≡ false
    → IsLeft death (notes_now g h command before made placed n).dying (call_left made left)
made_left None g h command before placed n death left is last = is
made_left (Some e) g h command before placed n death left is last = left_call death n.dying left is last

answer_left : (h : ℕ) (command : Command) (answer : Answer) (death : Option ℕ) (dying : ℕ) (left : Option ℕ) → IsPlanned h command
    → IsLeft death dying left
    → IsLeft (death_after command answer death) (dying_after answer command dying) (left_behind (Some answer) left)
answer_left h (commands.Die calls) answer death dying left planned is = absurd planned
answer_left h command (answers.Cut by) death dying left planned is = refl
answer_left h command answer death dying left planned is = is

-- whether the turn's call is the death, by what was left
no_death : (made : Option Event) (g : Geometry) (h : ℕ) (command : Command) (before : State) (placed : Option PlainReply) (n : Notes)
    (death : Option ℕ) (left : Option ℕ) → IsLeft death n.dying left → (is_some made && is_last left) ≡ false
    → IsDeath death made (notes_now g h command before made placed n) → ⊥
no_death None g h command before placed n death left is last dies = let none = dies.0 in cc
no_death (Some e) g h command before placed n death left is last dies = not_yet death n.dying left is last dies.1

has_death : (made : Option Event) (g : Geometry) (h : ℕ) (command : Command) (before : State) (placed : Option PlainReply) (n : Notes)
    (death : Option ℕ) (left : Option ℕ) → IsLeft death n.dying left → (is_some made && is_last left) ≡ true
    → IsDeath death made (notes_now g h command before made placed n)
has_death None g h command before placed n death left is last = absurd cc
has_death (Some e) g h command before placed n death left is last = (refl, last_dies death n.dying left is last)

-- what a plan owes, as a turn of the host that is no death
module _ (g : Geometry) (h : ℕ) (death : Option ℕ) (command : Command) (old new : DiskSeen) (made : Option Event) (placed : Option PlainReply)
    (ended : Option Answer) (n later : Notes) (owes : Owes g h command old new made placed ended n later)
    (quiet : wanted g command n.calls n.digests n.asks ≡ None) where
  living : (IsDeath death made (notes_now g h command old.state made placed n) → ⊥)
      → IsHostTurn g h (joined_in command) death command old new made placed ended n later
  living alive = record {
    quiet = λ joined. quiet;
    acts = owes.acts;
    moves = owes.moves;
    may = owes.may;
    marks = owes.marks;
    files = owes.files;
    valid = owes.valid;
    file = owes.file;
    once = owes.once;
    plain = owes.plain;
    none = owes.none;
    own = owes.own;
    died = λ dies. absurd (alive dies);
    ending = λ lives. owes.ending;
    noted = owes.noted;
  }

  -- or its death
  dying : MakesCalls command → IsDeath death made (notes_now g h command old.state made placed n)
      → IsHostTurn g h (joined_in command) death command old new made placed (Some (answers.Cut cuts.Died)) n
      (dropped_at (plan_moment g h command old new made placed n))
  dying calls dies = record {
    quiet = λ joined. quiet;
    acts = owes.acts;
    moves = λ none. absurd cc;
    may = owes.may;
    marks = owes.marks;
    files = owes.files;
    valid = owes.valid;
    file = owes.file;
    once = owes.once;
    plain = λ reply is. absurd cc;
    none = λ placeless. absurd placeless;
    own = calls;
    died = λ again. refl;
    ending = λ lives. absurd (lives dies);
    noted = record { pending = refl; watch = refl; rest = refl };
  }

-- the cache is of the volume
pub plan_volume : (v : WorldView) (c : Cache) (h : ℕ) (carried : Carried) (plan : Plan) → PlanAt v c h carried plan
    → c.volume ≡ v.locks.geometry
plan_volume v c h carried (Files plan) at = (stands_at v c plan.core plan.stage at.0).cached.volume
plan_volume v c h carried (Slots plan) at = at.1.volume
plan_volume v c h carried (Hints plan) at = at.1.cached.volume
plan_volume v c h carried (Serves plan) at = at.1.cached.volume
plan_volume v c h carried (Merges plan) at = at.1.cached.volume
plan_volume v c h carried (Collects plan) at = at.1.cached.volume

module _ (command : Command) (h : ℕ) (v w : WorldView) (d : Cache) (old mid : Seat) (step : Step) (planned : IsPlanned h command)
    (moved : HasMoved command h v w d old mid step) where
  noted_before : (n : Notes) → PlanNotedOf command v h old.carried old.plan n → PlanNoted command v h old.carried moved.before n
  noted_before n noted = subst (λ (p : Option Plan). PlanNotedOf command v h old.carried p n) moved.was noted

  joined : joined_of v h command old.plan ≡ joined_in command
  joined = ap (λ (p : Option Plan). joined_of v h command p) moved.was

  as_joined : (death : Option ℕ) (made : Option Event) (ended : Option Answer) (disk : DiskSeen) (n later : Notes)
      → IsHostTurn v.locks.geometry h (joined_in command) death command v.locks.disk disk made step.placed ended n later
      → IsHostTurn v.locks.geometry h (joined_of v h command old.plan) death command v.locks.disk disk made step.placed ended n later
  as_joined death made ended disk n later turn =
      subst (λ (b : Bool). IsHostTurn v.locks.geometry h b death command v.locks.disk disk made step.placed ended n later) (sym joined) turn

  abbrev owed : OwesStep command h v w step (PlanNoted command v h old.carried moved.before) (NotedBehind command w h mid.carried moved.after step.next)
  owed = moved.stepped.owes

  counted : (left : Option ℕ) → (step.called && is_last left) ≡ (is_some owed.made && is_last left)
  counted left = ap (λ (b : Bool). b && is_last left) owed.called

  -- the command goes on, or is answered
  stands_then : (next : Next) → StandsBehind command w d h mid.carried moved.after next
      → PlanStandsOf command w d h mid.carried (if is_none (ended_of next) then Some moved.after else None)
  stands_then nexts.More stands = stands
  stands_then (nexts.Work block) stands = absurd stands
  stands_then (nexts.Answered answer) stands = stands

  noted_then : (next : Next) (n : Notes) → NotedBehind command w h mid.carried moved.after next n
      → PlanNotedOf command w h mid.carried (if is_none (ended_of next) then Some moved.after else None) n
  noted_then nexts.More n noted = noted
  noted_then (nexts.Work block) n noted = absurd noted
  noted_then (nexts.Answered answer) n noted = noted

  plan_then : (ended : Option Answer) → is_some (if is_none ended then Some moved.after else None) ≡ is_none ended
  plan_then None = refl
  plan_then (Some answer) = refl

  left_then : (made : Option Event) (placed : Option PlainReply) (ended : Option Answer) (disk : DiskSeen) (death : Option ℕ) (n later : Notes)
      → IsLeft death n.dying old.left → (is_some made && is_last old.left) ≡ false
      → IsNotedAfter (plan_moment v.locks.geometry h command v.locks.disk disk made placed n) ended later
      → IsLeft (death_behind command ended death) later.dying (left_behind ended (call_left made old.left))
  left_then made placed None disk death n later is last noted =
      subst (λ (k : ℕ). IsLeft death k (call_left made old.left)) (sym (ap (λ (x : Notes). x.dying) noted.1))
      (made_left made v.locks.geometry h command v.locks.disk.state placed n death old.left is last)
  left_then made placed (Some answer) disk death n later is last noted =
      subst (λ (k : ℕ). IsLeft (death_after command answer death) k (left_behind (Some answer) (call_left made old.left)))
      (sym (ap (λ (x : Notes). x.dying) noted.rest))
      (answer_left h command answer death (notes_now v.locks.geometry h command v.locks.disk.state made placed n).dying (call_left made old.left) planned
      (made_left made v.locks.geometry h command v.locks.disk.state placed n death old.left is last))

  called_left : (made : Option Event) (left : Option ℕ) → (if is_some made then less left else left) ≡ call_left made left
  called_left None left = refl
  called_left (Some e) left = refl

  pub lives : (counted new : Seat) → (step.called && is_last mid.left) ≡ false
      → counted ≡ record mid { left = (if step.called then less mid.left else mid.left) }
      → new ≡ record counted { left = left_behind (ended_of step.next) counted.left }
      → MakesTurn command h v w d old new (record { placed = step.placed; ended = ended_of step.next })
  lives seat new last was now =
      let is : new ≡ record mid { left = left_behind (ended_of step.next) (if step.called then less mid.left else mid.left) } =
      now ∙ ap (λ (s : Seat). let t : Seat = record s { left = left_behind (ended_of step.next) s.left } in t) was in
      let not_last : (is_some owed.made && is_last old.left) ≡ false =
      sym (counted old.left) ∙ ap (λ (l : Option ℕ). step.called && is_last l) (sym moved.left) ∙ last in
      let left_is : new.left ≡ left_behind (ended_of step.next) (call_left owed.made old.left) =
      ap (λ (s : Seat). s.left) is ∙ ap (λ (b : Bool). left_behind (ended_of step.next) (if b then less mid.left else mid.left)) owed.called
      ∙ ap (λ (l : Option ℕ). left_behind (ended_of step.next) (if is_some owed.made then less l else l)) moved.left
      ∙ ap (left_behind (ended_of step.next)) (called_left owed.made old.left) in
      let plan_is : new.plan ≡ (if is_none (ended_of step.next) then Some moved.after else None) = ap (λ (s : Seat). s.plan) is ∙ moved.is in
      let carried_is : new.carried ≡ mid.carried = ap (λ (s : Seat). s.carried) is in
      record {
        made = owed.made;
        stands = rw (plan_is, carried_is) (stands_then step.next moved.stepped.stands);
        plan = ap is_some plan_is ∙ plan_then (ended_of step.next);
        goes = λ on. joined;
        turn = λ death n noted left.
            let (later, owes, behind) = owed.owes n (noted_before n noted) in (
              later,
              as_joined death owed.made (ended_of step.next) w.locks.disk n later
                  (living v.locks.geometry h death command v.locks.disk w.locks.disk owed.made step.placed (ended_of step.next) n later owes
                  (owed.quiet n (noted_before n noted))
                  (no_death owed.made v.locks.geometry h command v.locks.disk.state step.placed n death old.left left not_last)),
              rw (plan_is, carried_is) (noted_then step.next later behind),
              subst (λ (l : Option ℕ). IsLeft (death_behind command (ended_of step.next) death) later.dying l) (sym left_is)
                  (left_then owed.made step.placed (ended_of step.next) w.locks.disk death n later left not_last owes.noted),
            );
      }

  -- the call is the one at which the host dies
  pub dies : (x : WorldView) (e : Cache) (new : Seat) → d.volume ≡ w.locks.geometry → (step.called && is_last mid.left) ≡ true
      → IsDroppedIn h w x d e new
      → MakesTurn command h v x e old new (record { placed = step.placed; ended = Some (answers.Cut cuts.Died) })
  dies x e new volume last dropped =
      let now_last : (is_some owed.made && is_last old.left) ≡ true =
      sym (counted old.left) ∙ ap (λ (l : Option ℕ). step.called && is_last l) (sym moved.left) ∙ last in
      let plan_is = dropped.first.plan in
      record {
        made = owed.made;
        stands = rw plan_is (fresh_rests w.locks.geometry x e h new.carried dropped.first.carried (sym dropped.world.notes.geometry)
            (nothing_cached x d e h (volume ∙ sym dropped.world.notes.geometry) dropped.cache));
        plan = ap is_some plan_is;
        goes = λ on. joined;
        turn = λ death n noted left.
            let (later, owes, behind) = owed.owes n (noted_before n noted) in (
              dropped_at (plan_moment v.locks.geometry h command v.locks.disk w.locks.disk owed.made step.placed n),
              subst (λ (disk : DiskSeen). IsHostTurn v.locks.geometry h (joined_of v h command old.plan) death command v.locks.disk disk owed.made step.placed
                  (Some (answers.Cut cuts.Died)) n (dropped_at (plan_moment v.locks.geometry h command v.locks.disk w.locks.disk owed.made step.placed n)))
                  (sym dropped.world.notes.disk)
                  (as_joined death owed.made (Some (answers.Cut cuts.Died)) w.locks.disk n
                  (dropped_at (plan_moment v.locks.geometry h command v.locks.disk w.locks.disk owed.made step.placed n))
                  (dying v.locks.geometry h death command v.locks.disk w.locks.disk owed.made step.placed (ended_of step.next) n later owes
                  (owed.quiet n (noted_before n noted)) (planned_calls h command planned)
                  (has_death owed.made v.locks.geometry h command v.locks.disk.state step.placed n death old.left left now_last))),
              rw plan_is (
                  let rests = dropped_rests x h (plan_moment v.locks.geometry h command v.locks.disk w.locks.disk owed.made step.placed n)
                  dropped.world.notes.mine in fresh_noted w.locks.geometry x h new.carried dropped.first.carried
                  (dropped_at (plan_moment v.locks.geometry h command v.locks.disk w.locks.disk owed.made step.placed n)) rests.rests rests.watch_is refl
                  ),
              dropped.first.left,
            );
      }
