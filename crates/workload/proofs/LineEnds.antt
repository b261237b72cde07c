-- Lines that are written one behind the other, and the lines of a text that ends with LF.
use Rattle.std.proofs.Common.{◌≡◌, ◌≤◌, ◌+◌, ◌-◌, ◌==◌, ℕ, suc, zero, true, false, cond, List, [], ◌∷◌, ◌++◌, Ok, refl, sym, ap, ◌∙◌, arith, append-nil, append_assoc}
use Rattle.std.specs.Prelude.{codes}
use Rattle.std.specs.List.{flat_map, join_with_byte, onto_first, slice_split}
use Rattle.std.proofs.lemmas.List.Concat.{flat_map-append}
use Rattle.std.proofs.lemmas.List.Splits.{join_with_byte-slice_split}
use Rattle.workload.specs.declared.line.Line.{Line}
use Rattle.workload.specs.declared.line.Workload.{Workload}
use Rattle.workload.specs.Grammar.{workload_of}
use Rattle.workload.specs.Printed.{IsPrintable, barrier_lines, command_text, ended, later_lines, text_of}
use Rattle.workload.specs.Texts.{ended_parts, lines_of}
use Rattle.workload.proofs.Spelling.{workload_of-text}

-- there are parts behind the first, and the last is empty
EndsBehind : List (List ℕ) → Type 0
EndsBehind [] = ⊥
EndsBehind (part ∷ []) = part ≡ []
EndsBehind (part ∷ next ∷ more) = EndsBehind (next ∷ more)

Ends : List (List ℕ) → Type 0
Ends [] = ⊥
Ends (part ∷ rest) = EndsBehind rest

Ends-push : (parts : List (List ℕ)) → Ends parts → Ends ([] ∷ parts)
unfolding Ends EndsBehind
Ends-push [] h = absurd h
Ends-push (part ∷ []) h = absurd h
Ends-push (part ∷ next ∷ more) h = h

Ends-onto : (byte : ℕ) (parts : List (List ℕ)) → Ends parts → Ends (onto_first byte parts)
unfolding Ends
Ends-onto byte [] h = absurd h
Ends-onto byte (part ∷ rest) h = h

-- a text that ends with LF has an empty last part
Ends-slice_split : (front : List ℕ) → Ends (slice_split (λ byte. byte == 10) (front ++ 10 ∷ []))
unfolding Ends EndsBehind
Ends-slice_split [] = refl
Ends-slice_split (x ∷ front) =
    let parts : List (List ℕ) = slice_split (λ byte. byte == 10) (front ++ 10 ∷ []) in
    elim (x == 10) as (λ b. Ends (cond b ([] ∷ parts) (onto_first x parts))) [
      | true ↦ Ends-push parts (Ends-slice_split front)
      | false ↦ Ends-onto x parts (Ends-slice_split front)
    ]

ended-parts : (part : List ℕ) (rest : List (List ℕ)) → EndsBehind rest → ended (ended_parts (part ∷ rest)) ≡ join_with_byte 10 (part ∷ rest)
unfolding EndsBehind ended
ended-parts part [] h = absurd h
ended-parts part (next ∷ []) h =
    ap (λ (xs : List ℕ). flat_map (λ line. line ++ 10 ∷ []) (part ∷ ended_parts (xs ∷ []))) h
    ∙ append-nil (part ++ 10 ∷ [])
    ∙ ap (λ (xs : List ℕ). part ++ (10 ∷ xs)) (sym h)
ended-parts part (next ∷ after ∷ more) h =
    append_assoc part (10 ∷ []) (ended (ended_parts (next ∷ after ∷ more)))
    ∙ ap (λ (xs : List ℕ). part ++ (10 ∷ xs)) (ended-parts next (after ∷ more) h)

ended-Ends : (parts : List (List ℕ)) → Ends parts → ended (ended_parts parts) ≡ join_with_byte 10 parts
unfolding Ends
ended-Ends [] h = absurd h
ended-Ends (part ∷ rest) h = ended-parts part rest h

-- a text that ends with LF is its lines, each ended by LF
ended-lines_of : (front : List ℕ) → ended (lines_of (front ++ 10 ∷ [])) ≡ front ++ 10 ∷ []
unfolding lines_of
ended-lines_of front = ended-Ends (slice_split (λ byte. byte == 10) (front ++ 10 ∷ [])) (Ends-slice_split front) ∙ join_with_byte-slice_split 10 (front ++ 10 ∷ [])

-- what is written of the workload of a text that ends with LF is that text
pub text_of-same : (w : Workload) (front : List ℕ) → workload_of (front ++ 10 ∷ []) ≡ Ok w → text_of w ≡ front ++ 10 ∷ []
text_of-same w front e = ap ended (sym (workload_of-text (front ++ 10 ∷ []) w e)) ∙ ended-lines_of front

-- and it reads as the workload
pub workload_of-text_of : (w : Workload) → IsPrintable w → workload_of (text_of w) ≡ Ok w
workload_of-text_of w printable = ap workload_of (text_of-same w printable.0 printable.1) ∙ printable.1

-- one barrier more
barrier_last : (n : ℕ) → ended (barrier_lines (suc n)) ≡ ended (barrier_lines n) ++ codes "barrier\n"
unfolding ended
barrier_last zero = refl
barrier_last (suc n) = ap (λ (xs : List ℕ). codes "barrier\n" ++ xs) (barrier_last n)

pub barriers-begin : (from : ℕ) (text : List ℕ) → text ≡ text ++ ended (barrier_lines (from - from))
unfolding ended
barriers-begin from text =
    let same : from - from ≡ 0 = omega arith in
    sym (append-nil text) ∙ sym (ap (λ (n : ℕ). text ++ ended (barrier_lines n)) same)

pub barriers-more : (from phase : ℕ) (text : List ℕ) → from ≤ phase
    → (text ++ ended (barrier_lines (phase - from))) ++ codes "barrier\n" ≡ text ++ ended (barrier_lines (phase + 1 - from))
barriers-more from phase text h =
    let more : phase + 1 - from ≡ suc (phase - from) = omega arith in
    append_assoc text _ _ ∙ ap (λ (xs : List ℕ). text ++ xs) (sym (ap (λ (n : ℕ). ended (barrier_lines n)) more ∙ barrier_last (phase - from)))

-- a command and the barriers before it
ended-later : (phase : ℕ) (line : Line) (lines : List Line) (phases : ℕ)
    → ended (later_lines phase (line ∷ lines) phases) ≡ ended (barrier_lines (line.phase - phase)) ++ ((command_text line ++ 10 ∷ []) ++ ended (later_lines line.phase lines phases))
unfolding ended later_lines
ended-later phase line lines phases = flat_map-append (λ text. text ++ 10 ∷ []) (barrier_lines (line.phase - phase)) (command_text line ∷ later_lines line.phase lines phases)

pub later-more : (text : List ℕ) (phase : ℕ) (line : Line) (lines : List Line) (phases : ℕ)
    → ((text ++ ended (barrier_lines (line.phase - phase))) ++ (command_text line ++ 10 ∷ [])) ++ ended (later_lines line.phase lines phases) ≡ text ++ ended (later_lines phase (line ∷ lines) phases)
later-more text phase line lines phases =
    append_assoc (text ++ ended (barrier_lines (line.phase - phase))) _ _
    ∙ append_assoc text _ _
    ∙ ap (λ (xs : List ℕ). text ++ xs) (sym (ended-later phase line lines phases))

pub later-end : (phase phases : ℕ) → ended (later_lines phase [] phases) ≡ ended (barrier_lines (phases - 1 - phase))
unfolding later_lines
later-end phase phases = refl
