-- The history of a run has at most one entry a line, so the room that was taken for it at the beginning is enough.
use Rattle.std.proofs.Common.{◌≡◌, ◌≢◌, ◌+◌, ◌<◌, ◌≤◌, ◌++◌, ℕ, suc, zero, true, false, List, [], ◌∷◌, Option, Some, None, length, map, slice_get, slice_set, refl, inl, inr, arith, length-append}
use Rattle.std.proofs.lemmas.Bool.{cases_Bool, eqb-true, ne_eqb}
use Rattle.std.proofs.lemmas.List.{length-map}
use Rattle.std.proofs.lemmas.Option.{slice_get_within}
use Rattle.std.proofs.lemmas.Map.Steps.{length-le_from_distinct_below}
use Rattle.std.proofs.Math.Dec.{eqb}
use Rattle.std.specs.List.{AllByRecursion, IsDistinct, list_any}
use Rattle.vol_base.specs.declared.answer.Answer.{Answer}
use Rattle.vol_base.specs.declared.plain.PlainReply.{PlainReply}
use Rattle.plain_files.specs.declared.history.Placed.{Placed}
use Rattle.workload.specs.declared.line.Line.{Line}
use Rattle.histories.specs.Fit.{Fits}
use Rattle.cluster.specs.Agreements.{given_in}
use Rattle.host_runs.specs.RunStates.{answered, entry_at, events_at}

-- where no line has two entries, the lines of the entries are distinct
apart_from : (n : ℕ) (xs : List Placed) → ((k : ℕ) (b : Placed) → slice_get xs k ≡ Some b → n ≢ b.line)
    → AllByRecursion (λ y. eqb n y ≡ false) (map (λ (e : Placed). e.line) xs)
apart_from n [] other = tt
apart_from n (x ∷ xs) other = (ne_eqb n x.line (other 0 x refl), apart_from n xs (λ k b is. other (suc k) b is))

distinct_lines : (xs : List Placed)
    → ((j k : ℕ) (a b : Placed) → j < k → slice_get xs j ≡ Some a → slice_get xs k ≡ Some b → a.line ≢ b.line)
    → IsDistinct eqb (map (λ (e : Placed). e.line) xs)
unfolding IsDistinct
distinct_lines [] once = tt
distinct_lines (x ∷ xs) once = (
  apart_from x.line xs (λ k b is. once 0 (suc k) x b (omega arith) refl is),
  distinct_lines xs (λ j k a b lt is there. once (suc j) (suc k) a b (omega (arith, lt)) is there),
)

one_of : (n : ℕ) (xs : List Placed) → ((k : ℕ) (a : Placed) → slice_get xs k ≡ Some a → a.line < n) → (q : ℕ)
    → list_any (eqb q) (map (λ (e : Placed). e.line) xs) ≡ true → q < n
one_of n [] below q is = absurd cc
one_of n (x ∷ xs) below q is =
    elim (cases_Bool (eqb q x.line)) [
      | inl same ↦ let at = eqb-true q x.line same in let lt = below 0 x refl in omega (arith, at, lt)
      | inr other ↦ one_of n xs (λ k a there. below (suc k) a there) q (rw other at is)
    ]

-- at most one entry a line
pub few_entries : (lines : List Line) (answers : List (Option Answer)) (history : List Placed) → Fits lines answers history
    → length history ≤ length lines
few_entries lines answers history fits =
    let long : length (map (λ (e : Placed). e.line) history) ≡ length history = length-map history (λ (e : Placed). e.line) in
    let most = length-le_from_distinct_below (map (λ (e : Placed). e.line) history) (length lines) (distinct_lines history fits.once)
    (one_of (length lines) history (λ k a is. let has = fits.commands k a is in slice_get_within lines a.line has.0 has.1)) in
    omega (arith, long, most)

-- one more answer
pub one_more : (answers : List (Option Answer)) (p : ℕ) (answer : Answer) → slice_get answers p ≡ Some None
    → given_in (slice_set answers p (Some answer)) ≡ given_in answers + 1
one_more [] p answer without = absurd cc
one_more (None ∷ answers) zero answer without = refl
one_more (Some given ∷ answers) zero answer without = absurd cc
one_more (None ∷ answers) (suc p) answer without = one_more answers p answer without
one_more (Some given ∷ answers) (suc p) answer without = let more = one_more answers p answer without in omega (arith, more)

-- the events are the entries and the answers
pub events_more : (answers : List (Option Answer)) (history : List Placed) (events more : ℕ) (p : ℕ) (placed : Option PlainReply)
    (ended : Option Answer) → slice_get answers p ≡ Some None → events ≡ length history + given_in answers
    → more ≡ length (events_at p placed ended)
    → events + more ≡ length (history ++ entry_at p placed) + given_in (answered p ended answers)
events_more answers history events more p None None without is long =
    let all = length-append history [] in omega (arith, is, long, all)
events_more answers history events more p (Some reply) None without is long =
    let all = length-append history (record { line = p; reply = reply } ∷ []) in omega (arith, is, long, all)
events_more answers history events more p None (Some answer) without is long =
    let all = length-append history [] in let more' = one_more answers p answer without in omega (arith, is, long, all, more')
events_more answers history events more p (Some reply) (Some answer) without is long =
    let all = length-append history (record { line = p; reply = reply } ∷ []) in
    let more' = one_more answers p answer without in omega (arith, is, long, all, more')

-- there are at most as many answers as lines
pub few_given : (answers : List (Option Answer)) → given_in answers ≤ length answers
few_given [] = omega arith
few_given (None ∷ answers) = let few = few_given answers in omega (arith, few)
few_given (Some answer ∷ answers) = let few = few_given answers in omega (arith, few)
