-- One answer more, to the command that a host is at.
use Rattle.std.proofs.Common.{◌≡◌, ◌≢◌, ◌<◌, ◌⊎◌, ℕ, List, Option, Some, None, slice_set, ap, sym, ◌∙◌, subst, inl, inr, arith}
use Rattle.std.specs.Prelude.{Contains}
use Rattle.std.proofs.Common.{length-set}
use Rattle.std.proofs.lemmas.Bool.{cases_eq, cases_lt}
use Rattle.std.proofs.lemmas.Option.{slice_get_within}
use Rattle.vol_base.specs.declared.answer.Answer.{Answer}
use Rattle.vol_base.specs.declared.answer.Answer.TheVariants.{Plain}
use Rattle.vol_base.specs.declared.plain.PlainReply.{PlainReply}
use Rattle.plain_files.specs.declared.history.Placed.{Placed}
use Rattle.workload.specs.declared.line.Line.{Line}
use Rattle.histories.specs.Answers.{MayGet}
use Rattle.histories.specs.Fit.{Fits, IsPlaceless}
use Rattle.histories.specs.Lines.{IsLine}
use Rattle.histories.specs.Phases.{ArePhased}
use Rattle.host_runs.specs.NextLines.{next_line}
use Rattle.host_runs.specs.laws.Orderly.{HasAnswer, IsOrderly, entry_of}
use Rattle.host_runs.specs.laws.GetLaws.{get_set, get_set-other, get_set-same}
use Rattle.host_runs.specs.laws.NextLineLaws.{IsOpenLine, next-at, next-before, next-other}
use Rattle.host_runs.specs.lemmas.OrderlyPlaced.{no_answer, one_line, some_same}

module _ (lines : List Line) (phase : ℕ) (answers : List (Option Answer)) (history : List Placed) (placed later : ℕ → Option PlainReply) (host p : ℕ) (answer : Answer) where
  -- an answer whose place is noted, and which its command can get; behind it nothing is noted
  pub record IsAnsweredMore : Type 0 where
    pub next : next_line lines answers phase host ≡ Some p
    pub here : later host ≡ None
    pub same : (k : ℕ) → k ≢ host → later k ≡ placed k
    pub plain : (reply : PlainReply) → answer ≡ Plain reply → placed host ≡ Some reply
    pub none : IsPlaceless answer → placed host ≡ None
    pub own : (line : Line) → IsLine lines p line → MayGet line.command answer

  module _ (phased : ArePhased lines) (o : IsOrderly lines phase answers history placed) (more : IsAnsweredMore) where
    here : IsOpenLine lines answers phase host p
    here = next-at lines answers phase host p more.next

    answered_new : HasAnswer (slice_set answers p (Some answer)) p
    answered_new = (answer, get_set-same answers p (Some answer) (slice_get_within answers p None here.without))

    answered_still : (q : ℕ) → HasAnswer answers q → HasAnswer (slice_set answers p (Some answer)) q
    answered_still q has =
        elim (cases_eq q p) [
          | inl same ↦ absurd (no_answer answers p here.without (subst (HasAnswer answers) same has))
          | inr other ↦ (has.0, get_set-other answers p q (Some answer) other ∙ has.1)
        ]

    answered_cases : (q : ℕ) → HasAnswer (slice_set answers p (Some answer)) q → HasAnswer answers q ⊎ (q ≡ p)
    answered_cases q has =
        elim (get_set answers p q (Some answer) (Some has.0) has.1) [
          | inl old ↦ inl (has.0, old.1)
          | inr new ↦ inr new.0
        ]

    answered_before : (q : ℕ) (l : Line) → q < p → IsLine lines q l → l.host ≡ host → HasAnswer answers q
    answered_before q l lt is of =
        let le = phased q p l here.line lt is here.is in
        elim (cases_lt l.phase phase) [
          | inl earlier ↦ o.past q l is earlier
          | inr not_earlier ↦ next-before lines answers phase host p q l more.next lt is (omega (arith, le, not_earlier, here.phase_is)) of
        ]

    next_other : (k : ℕ) → k ≢ host → next_line lines (slice_set answers p (Some answer)) phase k ≡ next_line lines answers phase k
    next_other k other = next-other lines answers phase k p here.line (Some answer) here.is (λ same. other (sym same ∙ here.host_is))

    -- an entry of this position was noted by the host
    noted_here : (e : Placed) → Contains history e → e.line ≡ p → placed host ≡ Some e.reply
    noted_here e in_history same =
        elim (o.behind e in_history) [
          | inl has ↦ absurd (no_answer answers p here.without (subst (HasAnswer answers) same has))
          | inr now ↦
              let is : now.line ≡ here.line = one_line lines p now.line here.line (subst (λ (n : ℕ). IsLine lines n now.line) same now.is) here.is in
              ap placed (sym (ap (λ (l : Line). l.host) is ∙ here.host_is)) ∙ now.reply
        ]

    fits_answered : Fits lines (slice_set answers p (Some answer)) history
    fits_answered = record {
      commands = o.fits.commands;
      once = o.fits.once;
      order = o.fits.order;
      phases = o.fits.phases;
      placed = λ q reply small given. elim (get_set answers p q (Some answer) (Some (Plain reply)) given) [
        | inl old ↦ o.fits.placed q reply small old.1
        | inr new ↦
            let is : answer ≡ Plain reply = some_same answer (Plain reply) new.1 in
            subst (λ (n : ℕ). Contains history (entry_of n reply)) (sym new.0) (o.stands host p reply more.next (more.plain reply is))
      ];
      placeless = λ q given e is placeless in_history. elim (get_set answers p q (Some answer) (Some given) is) [
        | inl old ↦ o.fits.placeless q given e old.1 placeless in_history
        | inr new ↦ λ same.
            let none = more.none (subst IsPlaceless (sym (some_same answer given new.1)) placeless) in
            let some = noted_here e in_history (same ∙ new.0) in
            let e' : Some e.reply ≡ None = sym some ∙ none in
            absurd cc
      ];
      own = λ q given line is at. elim (get_set answers p q (Some answer) (Some given) is) [
        | inl old ↦ o.fits.own q given line old.1 at
        | inr new ↦ subst (MayGet line.command) (some_same answer given new.1) (more.own line (subst (λ (n : ℕ). IsLine lines n line) new.0 at))
      ];
    }

    pub orderly-answered : IsOrderly lines phase (slice_set answers p (Some answer)) history later
    orderly-answered = record {
      long = length-set answers p (Some answer) ∙ o.long;
      past = λ q l is earlier. answered_still q (o.past q l is earlier);
      in_turn = λ q r l m lt is_q is_r same has. elim (answered_cases r has) [
        | inl old ↦ answered_still q (o.in_turn q r l m lt is_q is_r same old)
        | inr new ↦
            let is : m ≡ here.line = one_line lines p m here.line (subst (λ (n : ℕ). IsLine lines n m) new is_r) here.is in
            answered_still q (answered_before q l (omega (arith, lt, new)) is_q (same ∙ ap (λ (x : Line). x.host) is ∙ here.host_is))
      ];
      reached = o.reached;
      behind = λ e in_history. elim (o.behind e in_history) [
        | inl has ↦ inl (answered_still e.line has)
        | inr now ↦ elim (cases_eq now.line.host host) [
          | inl same ↦
              let position : e.line ≡ p = some_same e.line p (sym now.next ∙ ap (λ (h : ℕ). next_line lines answers phase h) same ∙ more.next) in
              inl (subst (HasAnswer (slice_set answers p (Some answer))) (sym position) answered_new)
          | inr other ↦ inr (record {
            line = now.line;
            is = now.is;
            next = next_other now.line.host other ∙ now.next;
            reply = more.same now.line.host other ∙ now.reply;
          })
        ]
      ];
      stands = λ k q reply next is. elim (cases_eq k host) [
        | inl same ↦ let e : Some reply ≡ None = sym is ∙ ap later same ∙ more.here in absurd cc
        | inr other ↦ o.stands k q reply (sym (next_other k other) ∙ next) (sym (more.same k other) ∙ is)
      ];
      idle = λ k none. elim (cases_eq k host) [
        | inl same ↦ ap later same ∙ more.here
        | inr other ↦ more.same k other ∙ o.idle k (sym (next_other k other) ∙ none)
      ];
      fits = fits_answered;
    }
