-- The line that a host is at, as the parts find it.
use Rattle.std.proofs.Common.{◌≡◌, ◌<◌, ◌≤◌, ℕ, Bool, Option, Some, None, if◌then◌else◌, length, ap, sym, subst, ◌∙◌, inl, inr}
use Rattle.std.proofs.lemmas.Bool.{cases_eq, cases_lt, eq-eqb, ne_eqb}
use Rattle.std.proofs.lemmas.Option.{slice_get_within}
use Rattle.host_runs.specs.NextLines.{next_line}
use Rattle.host_runs.specs.laws.NextLineLaws.{next-at}
use Rattle.cluster.specs.Agreements.{IsHead, IsSound}
use Rattle.cluster.specs.Parts.{if_phase, of_phase}
use Rattle.cluster.specs.Views.{PartsView, head_at}
use Rattle.cluster.specs.laws.OpenLaws.{next_here, next_later, next_never, next_nobody}

module _ (v : PartsView) (h : ℕ) (sound : IsSound v) where
  abbrev line_now : Option ℕ
  line_now = next_line v.workload.lines v.ledger.answers v.phase h

  -- a host that is none has no line
  pub line_nobody : v.workload.geometry.hosts ≤ h → None ≡ line_now
  line_nobody past = sym (next_nobody v.workload.geometry v.workload.lines v.ledger.answers v.phase h sound.allowed past)

  head_is : h < v.workload.geometry.hosts → (at : Option ℕ) → head_at v h ≡ at → IsHead v.workload.lines v.ledger.answers h at
  head_is below at is = subst (IsHead v.workload.lines v.ledger.answers h) is (sound.head h below)

  pub line_none : h < v.workload.geometry.hosts → head_at v h ≡ None → None ≡ line_now
  line_none below none = sym (next_never v.workload.lines v.ledger.answers v.phase h sound.long (head_is below None none))

  pub head_within : h < v.workload.geometry.hosts → (p : ℕ) → head_at v h ≡ Some p → p < length v.workload.lines
  head_within below p is = let first = head_is below (Some p) is in slice_get_within v.workload.lines p first.line first.is

  pub line_some : h < v.workload.geometry.hosts → (p : ℕ) → head_at v h ≡ Some p → of_phase v.workload.lines v.phase p ≡ line_now
  line_some below p is =
      let first = head_is below (Some p) is in
      elim (cases_eq first.line.phase v.phase) [
        | inl here ↦
            ap (if_phase v.phase p) first.is ∙ ap (λ (b : Bool). if b then Some p else None) (eq-eqb first.line.phase v.phase here)
            ∙ sym (next_here v.workload.lines v.ledger.answers v.phase h sound.long p first here)
        | inr other ↦
            ap (if_phase v.phase p) first.is ∙ ap (λ (b : Bool). if b then Some p else None) (ne_eqb first.line.phase v.phase other)
            ∙ sym (next_later v.workload.lines v.ledger.answers v.phase h sound.long sound.phased sound.past p first other)
      ]

  -- a host that is at a line is one of the volume, and its position one of the workload
  pub line_within : (p : ℕ) → line_now ≡ Some p → p < length v.workload.lines
  line_within p next = let at = next-at v.workload.lines v.ledger.answers v.phase h p next in slice_get_within v.workload.lines p at.line at.is

  pub line_below : (p : ℕ) → line_now ≡ Some p → h < v.workload.geometry.hosts
  line_below p next =
      elim (cases_lt h v.workload.geometry.hosts) [
        | inl below ↦ below
        | inr past ↦ let both : Some p ≡ None = sym next ∙ sym (line_nobody past) in absurd cc
      ]
