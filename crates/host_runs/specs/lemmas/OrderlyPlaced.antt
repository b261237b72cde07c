-- One entry more in the history, of the command that a host is at.
use Rattle.std.proofs.Common.{◌≡◌, ◌≢◌, ◌<◌, ◌⊎◌, ◌++◌, ◌∷◌, ℕ, List, [], Option, Some, None, slice_get, ap, sym, ◌∙◌, subst, inl, inr, arith}
use Rattle.std.specs.Prelude.{Contains}
use Rattle.std.proofs.lemmas.Bool.{cases_eq, cases_lt}
use Rattle.std.proofs.lemmas.List.Elements.{Contains-append_left, Contains-append_right, Contains-push_cases}
use Rattle.std.proofs.lemmas.Option.{get_or_from_slice_get, slice_get_within}
use Rattle.vol_base.specs.declared.answer.Answer.{Answer}
use Rattle.vol_base.specs.declared.plain.PlainReply.{PlainReply}
use Rattle.plain_files.specs.declared.history.Placed.{Placed}
use Rattle.workload.specs.declared.line.Line.{Line}
use Rattle.histories.specs.Fit.{Fits}
use Rattle.histories.specs.Lines.{IsAnswered, IsFileLine, IsLine}
use Rattle.histories.specs.Phases.{ArePhased}
use Rattle.histories.specs.laws.PushLaws.{get_pushed, pair_pushed}
use Rattle.host_runs.specs.NextLines.{next_line}
use Rattle.host_runs.specs.laws.Orderly.{HasAnswer, IsOrderly, IsPlacedNow, entry_of}
use Rattle.host_runs.specs.laws.NextLineLaws.{IsOpenLine, next-at}

-- an element at a place of a list is among its elements
pub among : {X : Type 0} (xs : List X) (k : ℕ) (x : X) → slice_get xs k ≡ Some x → Contains xs x
among xs k x is = (k, slice_get_within xs k x is, get_or_from_slice_get xs k x x is)

-- a position without an answer has none
pub no_answer : (answers : List (Option Answer)) (p : ℕ) → slice_get answers p ≡ Some None → HasAnswer answers p → ⊥
no_answer answers p without has = let e : Some (Some has.0) ≡ Some None = sym has.1 ∙ without in absurd cc

-- a position has one line
pub some_same : {X : Type 0} (x y : X) → Some x ≡ Some y → x ≡ y
some_same x y e = cc

pub one_line : (lines : List Line) (p : ℕ) (l m : Line) → IsLine lines p l → IsLine lines p m → l ≡ m
one_line lines p l m a b = some_same l m (sym a ∙ b)

module _ (lines : List Line) (phase : ℕ) (answers : List (Option Answer)) (history : List Placed) (placed later : ℕ → Option PlainReply) (host p : ℕ) (reply : PlainReply) where
  -- a reply is noted where there was none, and its entry is added
  pub record IsPlacedMore : Type 0 where
    pub next : next_line lines answers phase host ≡ Some p
    pub none : placed host ≡ None
    pub here : later host ≡ Some reply
    pub same : (k : ℕ) → k ≢ host → later k ≡ placed k
    pub file : (line : Line) → IsLine lines p line → IsFileLine line

  module _ (phased : ArePhased lines) (o : IsOrderly lines phase answers history placed) (more : IsPlacedMore) where
    -- the line that the host is at
    here : IsOpenLine lines answers phase host p
    here = next-at lines answers phase host p more.next

    noted_none : (k : ℕ) (r : PlainReply) → k ≡ host → placed k ≡ Some r → ⊥
    noted_none k r same is = let e : Some r ≡ None = sym is ∙ ap placed same ∙ more.none in absurd cc

    -- no older entry is of this position, nor of a later one of the host
    older_not : (e : Placed) → Contains history e → e.line ≢ p
    older_not e in_history same =
        elim (o.behind e in_history) [
          | inl has ↦ no_answer answers p here.without (subst (HasAnswer answers) same has)
          | inr now ↦
              let is : now.line ≡ here.line = one_line lines p now.line here.line (subst (λ (n : ℕ). IsLine lines n now.line) same now.is) here.is in
              noted_none now.line.host e.reply (ap (λ (l : Line). l.host) is ∙ here.host_is) now.reply
        ]

    older_before : (e : Placed) (l : Line) → Contains history e → IsLine lines e.line l → l.host ≡ host → e.line < p
    older_before e l in_history is of =
        elim (cases_lt e.line p) [
          | inl lt ↦ lt
          | inr ge ↦
              let other = older_not e in_history in
              elim (o.behind e in_history) [
                | inl has ↦
                    let more_than : p < e.line = elim (cases_eq e.line p) [ inl same ↦ absurd (other same) | inr differ ↦ omega (arith, ge, differ) ] in
                    absurd (no_answer answers p here.without (o.in_turn p e.line here.line l more_than here.is is (here.host_is ∙ sym of) has))
                | inr now ↦
                    let same : now.line ≡ l = one_line lines e.line now.line l now.is is in
                    absurd (noted_none now.line.host e.reply (ap (λ (m : Line). m.host) same ∙ of) now.reply)
              ]
        ]

    line_is : (e : Placed) → entry_of p reply ≡ e → p ≡ e.line
    line_is e same = ap (λ (x : Placed). x.line) same

    host_is : (e : Placed) (l : Line) → entry_of p reply ≡ e → IsLine lines e.line l → l ≡ here.line
    host_is e l same is = one_line lines p l here.line (subst (λ (n : ℕ). IsLine lines n l) (sym (line_is e same)) is) here.is

    fits_more : Fits lines answers (history ++ entry_of p reply ∷ [])
    fits_more = record {
      commands = λ k e at. elim (get_pushed history (entry_of p reply) e k at) [
        | inl old ↦ o.fits.commands k e old
        | inr new ↦ subst (λ (x : Placed). (l : Line) × IsLine lines x.line l × IsFileLine l) new.1 (here.line, here.is, more.file here.line here.is)
      ];
      once = λ j k a b lt at_j at_k.
          let pair = pair_pushed history (entry_of p reply) a b j k lt at_j at_k in
          elim pair.1 [
            | inl old ↦ o.fits.once j k a b lt pair.0 old
            | inr new ↦ λ same. older_not a (among history j a pair.0) (same ∙ sym (line_is b new))
          ];
      order = λ j k a b l m lt at_j at_k same_host.
          let pair = pair_pushed history (entry_of p reply) a b j k lt at_j.0 at_k.0 in
          elim pair.1 [
            | inl old ↦ o.fits.order j k a b l m lt (pair.0, at_j.1) (old, at_k.1) same_host
            | inr new ↦
                let of : l.host ≡ host = same_host ∙ ap (λ (x : Line). x.host) (host_is b m new at_k.1) ∙ here.host_is in
                subst (λ (n : ℕ). a.line < n) (line_is b new) (older_before a l (among history j a pair.0) at_j.1 of)
          ];
      phases = λ j k a b l m lt at_j at_k.
          let pair = pair_pushed history (entry_of p reply) a b j k lt at_j.0 at_k.0 in
          elim pair.1 [
            | inl old ↦ o.fits.phases j k a b l m lt (pair.0, at_j.1) (old, at_k.1)
            | inr new ↦
                let reached = o.reached a l (among history j a pair.0) at_j.1 in
                let same = ap (λ (x : Line). x.phase) (host_is b m new at_k.1) ∙ here.phase_is in
                omega (arith, reached, same)
          ];
      placed = λ q r small given. Contains-append_left history (entry_of p reply ∷ []) _ (o.fits.placed q r small given);
      placeless = λ q answer e given placeless in_history.
          elim (Contains-push_cases history (entry_of p reply) e in_history) [
            | inl old ↦ o.fits.placeless q answer e given placeless old
            | inr new ↦ λ same. no_answer answers p here.without (answer, subst (λ (n : ℕ). IsAnswered answers n answer) (sym (line_is e new ∙ same)) given)
          ];
      own = o.fits.own;
    }

    pub orderly-placed : IsOrderly lines phase answers (history ++ entry_of p reply ∷ []) later
    orderly-placed = record {
      long = o.long;
      past = o.past;
      in_turn = o.in_turn;
      reached = λ e l in_history is. elim (Contains-push_cases history (entry_of p reply) e in_history) [
        | inl old ↦ o.reached e l old is
        | inr new ↦ let same = ap (λ (x : Line). x.phase) (host_is e l new is) ∙ here.phase_is in omega (arith, same)
      ];
      behind = λ e in_history. elim (Contains-push_cases history (entry_of p reply) e in_history) [
        | inl old ↦ elim (o.behind e old) [
          | inl has ↦ inl has
          | inr now ↦ inr (record {
            line = now.line;
            is = now.is;
            next = now.next;
            reply = more.same now.line.host (λ same. noted_none now.line.host e.reply same now.reply) ∙ now.reply;
          })
        ]
        | inr new ↦ subst (λ (x : Placed). HasAnswer answers x.line ⊎ IsPlacedNow lines phase answers later x) new (inr (record {
          line = here.line;
          is = here.is;
          next = ap (λ (h : ℕ). next_line lines answers phase h) here.host_is ∙ more.next;
          reply = ap later here.host_is ∙ more.here;
        }))
      ];
      stands = λ k q r next is. elim (cases_eq k host) [
        | inl same ↦
            let position : p ≡ q = some_same p q (sym more.next ∙ ap (λ (h : ℕ). next_line lines answers phase h) (sym same) ∙ next) in
            let given : reply ≡ r = some_same reply r (sym more.here ∙ ap later (sym same) ∙ is) in
            Contains-append_right history (entry_of p reply ∷ []) (entry_of q r) (0, omega arith, cc)
        | inr other ↦ Contains-append_left history (entry_of p reply ∷ []) (entry_of q r) (o.stands k q r next (sym (more.same k other) ∙ is))
      ];
      idle = λ k none. elim (cases_eq k host) [
        | inl same ↦ let e : Some p ≡ None = sym more.next ∙ ap (λ (h : ℕ). next_line lines answers phase h) (sym same) ∙ none in absurd cc
        | inr other ↦ more.same k other ∙ o.idle k none
      ];
      fits = fits_more;
    }
