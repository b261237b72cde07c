-- How the stages of a turn, and a next phase, keep answers, history and noted replies in order.
use Rattle.std.proofs.Common.{◌≡◌, ◌≢◌, ◌+◌, ◌==◌, ◌++◌, ℕ, List, Option, Some, None, refl, ap, sym, ◌∙◌, subst, inl, inr, arith, append-nil}
use Rattle.std.specs.Prelude.{if◌then◌else◌}
use Rattle.std.specs.Option.{option_or}
use Rattle.std.proofs.lemmas.Bool.{cases_eq, cases_lt, eq-eqb, ne_eqb}
use Rattle.vol_base.specs.declared.answer.Answer.{Answer}
use Rattle.vol_base.specs.declared.plain.PlainReply.{PlainReply}
use Rattle.plain_files.specs.declared.history.Placed.{Placed}
use Rattle.workload.specs.declared.line.Line.{Line}
use Rattle.histories.specs.Answers.{MayGet}
use Rattle.histories.specs.Lines.{IsFileLine, IsLine}
use Rattle.histories.specs.Phases.{ArePhased}
use Rattle.host_runs.specs.NextLines.{next_line}
use Rattle.host_runs.specs.laws.Orderly.{IsOrderly}
use Rattle.host_runs.specs.RunStates.{answered, entry_at}
use Rattle.host_runs.specs.Steps.{IsPlacing}
use Rattle.host_runs.specs.laws.NextLineLaws.{next-none}
use Rattle.host_runs.specs.lemmas.OrderlyAnswered.{orderly-answered}
use Rattle.host_runs.specs.lemmas.OrderlyPlaced.{one_line, orderly-placed}

-- only what is noted counts, host by host
pub orderly-same : (lines : List Line) (phase : ℕ) (answers : List (Option Answer)) (history : List Placed)
    → (placed later : ℕ → Option PlainReply)
    → ((k : ℕ) → later k ≡ placed k) → IsOrderly lines phase answers history placed → IsOrderly lines phase answers history later
orderly-same lines phase answers history placed later same o = record {
  long = o.long;
  past = o.past;
  in_turn = o.in_turn;
  reached = o.reached;
  behind = λ e in_history. elim (o.behind e in_history) [
    | inl has ↦ inl has
    | inr now ↦ inr (record { line = now.line; is = now.is; next = now.next; reply = same now.line.host ∙ now.reply })
  ];
  stands = λ k p reply next is. o.stands k p reply next (sym (same k) ∙ is);
  idle = λ k none. same k ∙ o.idle k none;
  fits = o.fits;
}

-- what is noted with the place of a turn
pub with_entry : ℕ → Option PlainReply → (ℕ → Option PlainReply) → ℕ → Option PlainReply
with_entry host entry placed k = if k == host then option_or (placed host) entry else placed k

pub with_entry-here : (host k : ℕ) (entry : Option PlainReply) (placed : ℕ → Option PlainReply) → k ≡ host
    → with_entry host entry placed k ≡ option_or (placed host) entry
unfolding with_entry
with_entry-here host k entry placed same = rw (eq-eqb k host same) refl

pub with_entry-other : (host k : ℕ) (entry : Option PlainReply) (placed : ℕ → Option PlainReply) → k ≢ host
    → with_entry host entry placed k ≡ placed k
unfolding with_entry
with_entry-other host k entry placed other = rw (ne_eqb k host other) refl

or_none : (o : Option PlainReply) → option_or o None ≡ o
or_none None = refl
or_none (Some reply) = refl

stage_placed : (lines : List Line) (phase : ℕ) (answers : List (Option Answer)) (history : List Placed)
    → (placed : ℕ → Option PlainReply) (host p : ℕ) (line : Line)
    (entry now : Option PlainReply) (ended : Option Answer) → ArePhased lines → IsOrderly lines phase answers history placed → next_line lines answers phase host ≡ Some p
    → IsLine lines p line → IsPlacing line (placed host) entry now ended
    → IsOrderly lines phase answers (history ++ entry_at p entry) (with_entry host entry placed)
stage_placed lines phase answers history placed host p line None now ended phased o next is placing =
    let same : (k : ℕ) → with_entry host None placed k ≡ placed k = λ k. elim (cases_eq k host) [
      | inl here ↦ with_entry-here host k None placed here ∙ or_none (placed host) ∙ ap placed (sym here)
      | inr other ↦ with_entry-other host k None placed other
    ] in
    subst (λ (h : List Placed). IsOrderly lines phase answers h (with_entry host None placed)) (sym (append-nil history))
    (orderly-same lines phase answers history placed (with_entry host None placed) same o)
stage_placed lines phase answers history placed host p line (Some reply) now ended phased o next is placing =
    let none : placed host ≡ None = placing.once refl in
    orderly-placed lines phase answers history placed (with_entry host (Some reply) placed) host p reply phased o (record {
      next = next;
      none = none;
      here = with_entry-here host host (Some reply) placed refl ∙ ap (λ (o : Option PlainReply). option_or o (Some reply)) none;
      same = λ k other. with_entry-other host k (Some reply) placed other;
      file = λ l at. subst (λ (x : Line). IsFileLine x) (one_line lines p line l is at) (placing.file refl);
    })

-- what is noted behind a turn: an answer ends the command
abbrev pub noted_behind : Option Answer → Option PlainReply → Option PlainReply
noted_behind None now = now
noted_behind (Some answer) now = None

stage_answered : (lines : List Line) (phase : ℕ) (answers : List (Option Answer)) (history : List Placed)
    → (placed later : ℕ → Option PlainReply) (host p : ℕ) (line : Line)
    (before entry now : Option PlainReply) (ended : Option Answer) → ArePhased lines → IsOrderly lines phase answers history placed → next_line lines answers phase host ≡ Some p
    → IsLine lines p line → IsPlacing line before entry now ended → placed host ≡ now → ((k : ℕ) → k ≢ host → later k ≡ placed k)
    → later host ≡ noted_behind ended now → IsOrderly lines phase (answered p ended answers) history later
stage_answered lines phase answers history placed later host p line before entry now None phased o next is placing stands same here =
    orderly-same lines phase answers history placed later
    (λ k. elim (cases_eq k host) [
      | inl at ↦ ap later at ∙ here ∙ sym stands ∙ ap placed (sym at)
      | inr other ↦ same k other
    ]) o
stage_answered lines phase answers history placed later host p line before entry now (Some answer) phased o next is placing stands same here =
    orderly-answered lines phase answers history placed later host p answer phased o (record {
      next = next;
      here = here;
      same = same;
      plain = λ reply given. stands ∙ placing.plain reply (ap (λ (a : Answer). Some a) given);
      none = λ placeless. stands ∙ placing.none placeless;
      own = λ l at. subst (λ (x : Line). MayGet x.command answer) (one_line lines p line l is at) placing.own;
    })

-- a turn, by its entry and its answer
pub orderly-step : (lines : List Line) (phase : ℕ) (answers : List (Option Answer)) (history : List Placed)
    → (placed later : ℕ → Option PlainReply) (host p : ℕ) (line : Line)
    (entry : Option PlainReply) (ended : Option Answer) → ArePhased lines → IsOrderly lines phase answers history placed → next_line lines answers phase host ≡ Some p
    → IsLine lines p line → IsPlacing line (placed host) entry (option_or (placed host) entry) ended
    → ((k : ℕ) → k ≢ host → later k ≡ placed k)
    → later host ≡ noted_behind ended (option_or (placed host) entry)
    → IsOrderly lines phase (answered p ended answers) (history ++ entry_at p entry) later
orderly-step lines phase answers history placed later host p line entry ended phased o next is placing same here =
    let now = option_or (placed host) entry in
    let first = stage_placed lines phase answers history placed host p line entry now ended phased o next is placing in
    stage_answered lines phase answers (history ++ entry_at p entry) (with_entry host entry placed) later host p line (placed host) entry now ended phased first next is placing
    (with_entry-here host host entry placed refl) (λ k other. same k other ∙ sym (with_entry-other host k entry placed other)) here

-- the next phase, where no host has a line left
pub orderly-phase : (lines : List Line) (phase : ℕ) (answers : List (Option Answer)) (history : List Placed)
    → (placed : ℕ → Option PlainReply)
    → ((host : ℕ) → next_line lines answers phase host ≡ None) → IsOrderly lines phase answers history placed
    → IsOrderly lines (phase + 1) answers history placed
orderly-phase lines phase answers history placed idle o = record {
  long = o.long;
  past = λ p line is earlier. elim (cases_lt line.phase phase) [
    | inl past ↦ o.past p line is past
    | inr present ↦ next-none lines answers phase line.host p line o.long (idle line.host) is (omega (arith, earlier, present)) refl
  ];
  in_turn = o.in_turn;
  reached = λ e line in_history is. let le = o.reached e line in_history is in omega (arith, le);
  behind = λ e in_history. elim (o.behind e in_history) [
    | inl has ↦ inl has
    | inr now ↦ let e' : Some e.line ≡ None = sym now.next ∙ idle now.line.host in absurd cc
  ];
  stands = λ k p reply next is. let e : Some reply ≡ None = sym is ∙ o.idle k (idle k) in absurd cc;
  idle = λ k none. o.idle k (idle k);
  fits = o.fits;
}
