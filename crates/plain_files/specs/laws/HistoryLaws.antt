-- Histories in parts.
use Rattle.std.proofs.Common.{length, None, ◌∙◌, ◌≡◌, ◌↔◌, ◌++◌, ◌∷◌, ℕ, List, [], take, drop, Option, Some, refl, ap, sym}
use Rattle.std.specs.Option.{option_map_or}
use Rattle.std.proofs.lemmas.List.{take-append-drop}
use Rattle.std.proofs.lemmas.List.Sums.{fold-append}
use Rattle.vol_base.specs.declared.plain.PlainCall.{PlainCall}
use Rattle.plain_files.specs.declared.history.Placed.{Placed}
use Rattle.plain_files.specs.Plain.{Plain, IsWithinLimit}
use Rattle.plain_files.specs.Calls.{reply_of, after}
use Rattle.plain_files.specs.laws.CallLaws.{limit-after, length-after, IsWithinLimit-after}
use Rattle.plain_files.specs.History.{call_at, IsPlaced, after_entry, IsLegal, state_after}

-- the state after a history and then another
pub state_after-append : (calls : List (Option PlainCall)) (p : Plain) (xs ys : List Placed)
    → state_after calls p (xs ++ ys) ≡ state_after calls (state_after calls p xs) ys
state_after-append calls p xs ys = fold-append (after_entry calls) p xs ys

-- the beginning of a legal history is legal
pub IsLegal-front : (calls : List (Option PlainCall)) (p : Plain) (xs ys : List Placed) → IsLegal calls p (xs ++ ys) → IsLegal calls p xs
IsLegal-front calls p [] ys legal = tt
IsLegal-front calls p (x ∷ xs) ys legal = (legal.0, IsLegal-front calls (after_entry calls p x) xs ys legal.1)

-- the rest of a legal history is legal from the state after its beginning
pub IsLegal-rest : (calls : List (Option PlainCall)) (p : Plain) (xs ys : List Placed) → IsLegal calls p (xs ++ ys)
    → IsLegal calls (state_after calls p xs) ys
IsLegal-rest calls p [] ys legal = legal
IsLegal-rest calls p (x ∷ xs) ys legal = IsLegal-rest calls (after_entry calls p x) xs ys legal.1

-- a legal history, and one that is legal from the state after it, are one legal history
pub IsLegal-append : (calls : List (Option PlainCall)) (p : Plain) (xs ys : List Placed) → IsLegal calls p xs
    → IsLegal calls (state_after calls p xs) ys → IsLegal calls p (xs ++ ys)
IsLegal-append calls p [] ys first then' = then'
IsLegal-append calls p (x ∷ xs) ys first then' = (first.0, IsLegal-append calls (after_entry calls p x) xs ys first.1 then')

-- a call that stands on an entry's line is made there
pub after_entry-call : (calls : List (Option PlainCall)) (p : Plain) (entry : Placed) (call : PlainCall)
    → call_at calls entry.line ≡ Some call → after_entry calls p entry ≡ after p call
after_entry-call calls p entry call on_line = rw on_line refl

-- the state after an entry and then the rest
pub state_after-placed : (calls : List (Option PlainCall)) (p : Plain) (entry : Placed) (rest : List Placed) (call : PlainCall)
    → call_at calls entry.line ≡ Some call → state_after calls p (entry ∷ rest) ≡ state_after calls (after p call) rest
state_after-placed calls p entry rest call on_line = ap (λ q. state_after calls q rest) (after_entry-call calls p entry call on_line)

-- an entry that is the plain reply at its place takes a history one call on
pub IsLegal-placed : (calls : List (Option PlainCall)) (p : Plain) (entry : Placed) (rest : List Placed) (call : PlainCall)
    → call_at calls entry.line ≡ Some call → entry.reply ≡ reply_of p call
    → IsLegal calls p (entry ∷ rest) ↔ IsLegal calls (after p call) rest
IsLegal-placed calls p entry rest call on_line same = rw on_line (λ legal. legal.1, λ legal. (same, legal))

-- a legal history with one entry more
pub IsLegal-push : (calls : List (Option PlainCall)) (p : Plain) (history : List Placed) (entry : Placed) → IsLegal calls p history
    → IsPlaced calls (state_after calls p history) entry → IsLegal calls p (history ++ entry ∷ [])
IsLegal-push calls p history entry legal placed = IsLegal-append calls p history (entry ∷ []) legal (placed, tt)

-- the state after a history with one entry more
pub state_after-push : (calls : List (Option PlainCall)) (p : Plain) (history : List Placed) (entry : Placed)
    → state_after calls p (history ++ entry ∷ []) ≡ after_entry calls (state_after calls p history) entry
state_after-push calls p history entry = state_after-append calls p history (entry ∷ [])

-- a front of a legal history is legal
pub IsLegal-take : (calls : List (Option PlainCall)) (p : Plain) (n : ℕ) (history : List Placed) → IsLegal calls p history
    → IsLegal calls p (take n history)
IsLegal-take calls p n history legal = IsLegal-front calls p (take n history) (drop n history) (rw take-append-drop legal)

-- what follows a front of a legal history is legal from the state after the front
pub IsLegal-drop : (calls : List (Option PlainCall)) (p : Plain) (n : ℕ) (history : List Placed) → IsLegal calls p history
    → IsLegal calls (state_after calls p (take n history)) (drop n history)
IsLegal-drop calls p n history legal = IsLegal-rest calls p (take n history) (drop n history) (rw take-append-drop legal)

-- the state after a front and then the rest
pub state_after-take : (calls : List (Option PlainCall)) (p : Plain) (n : ℕ) (history : List Placed)
    → state_after calls (state_after calls p (take n history)) (drop n history) ≡ state_after calls p history
state_after-take calls p n history = sym (state_after-append calls p (take n history) (drop n history)) ∙ ap (state_after calls p) (take-append-drop n history)

-- what every call on a line keeps
entry_keeps : (P : Plain → Type 0) → ((p : Plain) (call : PlainCall) → P p → P (after p call)) → (p : Plain) (call : Option PlainCall)
    → P p → P (option_map_or (after p) call p)
entry_keeps P keeps p None h = h
entry_keeps P keeps p (Some call) h = keeps p call h

-- what every call keeps, every history keeps
pub state_after-keeps : (calls : List (Option PlainCall)) (P : Plain → Type 0) → ((p : Plain) (call : PlainCall) → P p → P (after p call))
    → (p : Plain) (history : List Placed) → P p → P (state_after calls p history)
state_after-keeps calls P keeps p [] h = h
state_after-keeps calls P keeps p (entry ∷ rest) h = state_after-keeps calls P keeps (after_entry calls p entry) rest (entry_keeps P keeps p (call_at calls entry.line) h)

-- a history keeps the greatest length
pub limit-state_after : (calls : List (Option PlainCall)) (p : Plain) (history : List Placed)
    → (state_after calls p history).limit ≡ p.limit
limit-state_after calls p history = state_after-keeps calls (λ q. q.limit ≡ p.limit) (λ q call same. limit-after q call ∙ same) p history refl

-- a history keeps how many file numbers there are
pub length-state_after : (calls : List (Option PlainCall)) (p : Plain) (history : List Placed)
    → length (state_after calls p history).files ≡ length p.files
length-state_after calls p history = state_after-keeps calls (λ q. length q.files ≡ length p.files) (λ q call same. length-after q call ∙ same) p history refl

-- no history takes a file past the greatest length
pub IsWithinLimit-state_after : (calls : List (Option PlainCall)) (p : Plain) (history : List Placed) → IsWithinLimit p
    → IsWithinLimit (state_after calls p history)
IsWithinLimit-state_after calls p history = state_after-keeps calls IsWithinLimit IsWithinLimit-after p history

pub ruleset kept_by_histories = (length-state_after, limit-state_after)
