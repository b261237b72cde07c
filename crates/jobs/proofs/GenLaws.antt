-- How the generation of a workload ends, by what it decided and how that was told.
use Rattle.std.proofs.Common.{◌≡◌, ◌⊎◌, ◌∙◌, ℕ, inl, inr, sym, subst}
use Rattle.std.specs.Io.KnownBytes.{Appends}
use Rattle.gen_load.specs.Generated.{generated}
use Rattle.jobs.specs.declared.outcome.Outcome.{Outcome}
use Rattle.jobs.specs.declared.outcome.Outcome.TheVariants as outcomes
use Rattle.jobs.specs.declared.status.Status.{Status}
use Rattle.jobs.specs.declared.status.Status.TheVariants as statuses
use Rattle.jobs.specs.Endings.{Ends, HasFailed, IsTold, SinkSeen}
use Rattle.jobs.specs.Generations.{GenDecides, GenEnds, IsGenStatus}
use Rattle.jobs.proofs.TellingLaws.{cut_of, told_quietly}

module _ (rounds : ℕ) (before after : SinkSeen) (status : Status) where
  among_of : (o : Outcome) → GenDecides rounds o → IsTold before after o status → IsGenStatus status
  among_of (outcomes.Done text) decided (inl written) = subst IsGenStatus (sym written.ends) tt
  among_of outcomes.Memory decided (inl written) = subst IsGenStatus (sym written.ends) tt
  among_of o decided (inr (inl short)) = subst IsGenStatus (sym short.ends) tt
  among_of o decided (inr (inr unwritten)) = subst IsGenStatus (sym unwritten.ends) tt
  among_of _ decided (inl written) = absurd decided

  text_of : (o : Outcome) → GenDecides rounds o → IsTold before after o status → status ≡ statuses.Ok
      → Appends before.taken after.taken (generated rounds)
  text_of (outcomes.Done text) decided (inl written) ok = subst (Appends before.taken after.taken) decided written.text
  text_of outcomes.Memory decided (inl written) ok = let e : statuses.Memory ≡ statuses.Ok = sym written.ends ∙ ok in absurd cc
  text_of o decided (inr (inl short)) ok = let e : statuses.WriteFault ≡ statuses.Ok = sym short.ends ∙ ok in absurd cc
  text_of o decided (inr (inr unwritten)) ok = let e : statuses.Memory ≡ statuses.Ok = sym unwritten.ends ∙ ok in absurd cc
  text_of _ decided (inl written) ok = absurd decided

  complete_of : (o : Outcome) → GenDecides rounds o → IsTold before after o status → (HasFailed before after → ⊥)
      → (status ≡ statuses.Ok) ⊎ (status ≡ statuses.Memory)
  complete_of (outcomes.Done text) decided told quiet = told_quietly before after (outcomes.Done text) status quiet told
  complete_of outcomes.Memory decided told quiet =
      elim (told_quietly before after outcomes.Memory status quiet told) [
        | inl is ↦ inr is
        | inr is ↦ inr is
      ]
  complete_of _ decided told quiet = absurd decided

  pub gen_ends : Ends (GenDecides rounds) before after status → GenEnds rounds before after status
  gen_ends ends = record {
    ends = ends;
    among = among_of ends.outcome ends.decided ends.told;
    ok = text_of ends.outcome ends.decided ends.told;
    write_fault = λ is. (cut_of before after ends.outcome status ends.told is).cause;
    complete = complete_of ends.outcome ends.decided ends.told;
  }
