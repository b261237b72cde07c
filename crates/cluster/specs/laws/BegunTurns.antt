-- The first step of a command is a turn of a host between two commands.
use Rattle.std.proofs.Common.{◌≡◌, Err, IfOk, Ok, Result, ℕ, Bool, Option, Some, None, is_some, ap, sym, subst, ◌∙◌}
use Rattle.vol_base.specs.declared.command.Command.{Command}
use Rattle.vol_base.specs.declared.plain.NoMemory.{NoMemory}
use Rattle.held_cache.specs.Kept.{Cache}
use Rattle.host_facts.specs.Views.{WorldView}
use Rattle.host_notes.specs.Owes.{joined_in}
use Rattle.host_runs.specs.Awaited.{first_block}
use Rattle.host_runs.specs.Notes.{Notes}
use Rattle.lock_store.specs.Views.{host_at}
use Rattle.cluster.specs.HostTurns.{IsHostTurn}
use Rattle.cluster.specs.Plans.{IsBegun}
use Rattle.cluster.specs.Seats.{IsLeft, MakesTurn, PlanNotedOf, at_once, joined_of}
use Rattle.cluster.specs.declared.plan.Plan.{Plan}
use Rattle.cluster.specs.declared.seat.Done.{Done}
use Rattle.cluster.specs.declared.seat.Seat.{Seat}
use Rattle.cluster.specs.laws.BeginLaws.{begun_noted, joined_is}

module _ (command : Command) (h : ℕ) (v w : WorldView) (d : Cache) (old mid new : Seat) (done : Done) (plan : Plan) (empty : old.plan ≡ None)
    (none : first_block v.locks.geometry command ≡ None) (begun : IsBegun h command plan)
    (seat : mid ≡ record old { plan = Some plan }) (given : at_once command (is_some (host_at v.locks h).key) ≡ None) where
  key_is : is_some (host_at v.locks h).key ≡ joined_in command
  key_is = joined_is command (is_some (host_at v.locks h).key) given

  joined_same : joined_of v h command mid.plan ≡ joined_of v h command old.plan
  joined_same =
      ap (λ (s : Seat). joined_of v h command s.plan) seat ∙ sym key_is ∙ sym (ap (λ (p : Option Plan). joined_of v h command p) empty)

  -- the notes agree with the plan at its beginning
  pub noted_begun : (n : Notes) → PlanNotedOf command v h old.carried old.plan n → PlanNotedOf command v h mid.carried mid.plan n
  noted_begun n noted =
      rw seat (begun_noted v h old.carried command plan n none begun (subst (λ (p : Option Plan). PlanNotedOf command v h old.carried p n) empty noted))

  pub begun_turn : MakesTurn command h v w d mid new done → MakesTurn command h v w d old new done
  begun_turn made = record {
    made = made.made;
    stands = made.stands;
    plan = made.plan;
    goes = λ on. ap (λ (p : Option Plan). joined_of v h command p) empty ∙ key_is;
    turn = λ death n noted left.
        let (later, turn, behind, left') = made.turn death n (noted_begun n noted)
        (subst (λ (l : Option ℕ). IsLeft death n.dying l) (sym (ap (λ (s : Seat). s.left) seat)) left) in (
          later,
          subst (λ (b : Bool). IsHostTurn v.locks.geometry h b death command v.locks.disk w.locks.disk made.made done.placed done.ended n later)
              joined_same turn,
          behind,
          left',
        );
  }

-- what a step answers
pub ok_begun : (command : Command) (h : ℕ) (v w : WorldView) (d : Cache) (old mid new : Seat) (plan : Plan) → old.plan ≡ None
    → first_block v.locks.geometry command ≡ None → IsBegun h command plan → mid ≡ record old { plan = Some plan }
    → at_once command (is_some (host_at v.locks h).key) ≡ None
    → (result : Result Done NoMemory) → IfOk result (MakesTurn command h v w d mid new) → IfOk result (MakesTurn command h v w d old new)
ok_begun command h v w d old mid new plan empty none begun seat given (Ok done) made =
    begun_turn command h v w d old mid new done plan empty none begun seat given made
ok_begun command h v w d old mid new plan empty none begun seat given (Err refusal) made = tt
