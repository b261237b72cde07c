-- The lines of a workload in range have no LF, so its text has these lines.
use Rattle.std.proofs.Common.{◌≡◌, ◌<◌, ◌≤◌, ◌-◌, ◌^◌, ◌==◌, ℕ, zero, suc, Bool, true, false, List, [], ◌∷◌, ◌++◌, Ok, length, refl, ap, ◌∙◌, arith, append_assoc}
use Rattle.std.specs.Prelude.{All, codes, decimal, not}
use Rattle.std.specs.Char.{is_ascii_graphic}
use Rattle.std.specs.List.{AllByRecursion, flat_map, list_all}
use Rattle.std.proofs.lemmas.Bool.{and_parts}
use Rattle.std.proofs.lemmas.Bool.Decides.{nat_tests}
use Rattle.std.proofs.lemmas.List.Elements.{All-cons, All-nil, recursion_from_All}
use Rattle.std.proofs.lemmas.List.Folds.{list_all-append}
use Rattle.std.proofs.lemmas.List.Splits.{slice_split_at}
use Rattle.vol_layout.specs.declared.geometry.Geometry.{Geometry}
use Rattle.vol_layout.specs.Superblock.{written_numbers}
use Rattle.workload.specs.declared.line.Line.{Line}
use Rattle.workload.specs.declared.line.Workload.{Workload}
use Rattle.workload.specs.Grammar.{most_bytes, workload_of}
use Rattle.workload.specs.Printed.{barrier_lines, command_text, ended, later_lines, text_lines, text_of, with_numbers}
use Rattle.workload.specs.Texts.{lines_of}
use Rattle.workload.specs.Verbs.{arguments, name_of, verb_in}
use Rattle.workload.specs.Workloads.{IsAllowed, IsWorkload}
use Rattle.workload.proofs.Completeness.{Wide, both, decimal_graphic, numbers_are_wide, name_graphic, workload_of-complete}
use Rattle.workload.proofs.Parts.{lines_of-first, lines_of-nothing}

-- no byte is an LF
abbrev is_plain : List ℕ → Bool
is_plain line = list_all (λ b. not (b == 10)) line

graphic_is_plain : (c : ℕ) → is_ascii_graphic c ≡ true → not (c == 10) ≡ true
graphic_is_plain c e = grind (arith, nat_tests)

is_plain-word : (word : List ℕ) → list_all is_ascii_graphic word ≡ true → is_plain word ≡ true
is_plain-word [] e = refl
is_plain-word (c ∷ cs) e =
    let parts = and_parts (is_ascii_graphic c) (list_all is_ascii_graphic cs) e in
    both (not (c == 10)) (is_plain cs) (graphic_is_plain c parts.0) (is_plain-word cs parts.1)

is_plain-append : (xs ys : List ℕ) → is_plain xs ≡ true → is_plain ys ≡ true → is_plain (xs ++ ys) ≡ true
is_plain-append xs ys e f = list_all-append (λ b. not (b == 10)) xs ys ∙ both (is_plain xs) (is_plain ys) e f

is_plain-numbers : (ns : List ℕ) → Wide ns → is_plain (flat_map (λ n. 32 ∷ decimal n) ns) ≡ true
is_plain-numbers [] h = refl
is_plain-numbers (n ∷ ns) h =
    is_plain-append (32 ∷ decimal n) (flat_map (λ m. 32 ∷ decimal m) ns) (is_plain-word (decimal n) (decimal_graphic n h.0)) (is_plain-numbers ns h.1)

is_plain-with_numbers : (word : List ℕ) (ns : List ℕ) → list_all is_ascii_graphic word ≡ true → Wide ns
    → is_plain (with_numbers word ns) ≡ true
is_plain-with_numbers word ns e h = is_plain-append word (flat_map (λ n. 32 ∷ decimal n) ns) (is_plain-word word e) (is_plain-numbers ns h)

is_plain-command : (g : Geometry) (line : Line) → g.hosts ≤ 16 → IsAllowed g line → is_plain (command_text line) ≡ true
is_plain-command g line hosts h =
    let rest = with_numbers (name_of (verb_in line.command)) (arguments line.command) in
    is_plain-append (decimal line.host) (32 ∷ rest)
    (is_plain-word (decimal line.host) (decimal_graphic line.host (omega (arith, h.host))))
    (is_plain-with_numbers (name_of (verb_in line.command)) (arguments line.command) (name_graphic (verb_in line.command)) (recursion_from_All (λ m. m < 2 ^ 64) (arguments line.command) h.wide))

abbrev ArePlain : List (List ℕ) → Type 0
ArePlain lines = AllByRecursion (λ line. is_plain line ≡ true) lines

ArePlain-barriers : (n : ℕ) (lines : List (List ℕ)) → ArePlain lines → ArePlain (barrier_lines n ++ lines)
ArePlain-barriers zero lines h = h
ArePlain-barriers (suc n) lines h = (refl, ArePlain-barriers n lines h)

ArePlain-alone : (n : ℕ) → ArePlain (barrier_lines n)
ArePlain-alone zero = tt
ArePlain-alone (suc n) = (refl, ArePlain-alone n)

ArePlain-later : (g : Geometry) (phase : ℕ) (lines : List Line) (phases : ℕ) → g.hosts ≤ 16 → AllByRecursion (IsAllowed g) lines
    → ArePlain (later_lines phase lines phases)
unfolding later_lines
ArePlain-later g phase [] phases hosts h = ArePlain-alone (phases - 1 - phase)
ArePlain-later g phase (line ∷ lines) phases hosts h =
    ArePlain-barriers (line.phase - phase) (command_text line ∷ later_lines line.phase lines phases)
    (is_plain-command g line hosts h.0, ArePlain-later g line.phase lines phases hosts h.1)

-- a text of lines without LF has these lines
no_ends : (line : List ℕ) → is_plain line ≡ true → All (λ b. (b == 10) ≡ false) line
no_ends [] e = All-nil (λ b. (b == 10) ≡ false)
no_ends (c ∷ cs) e =
    let parts = and_parts (not (c == 10)) (is_plain cs) e in
    All-cons (λ b. (b == 10) ≡ false) c cs (grind (arith, nat_tests, parts.0)) (no_ends cs parts.1)

lines_of-ended : (lines : List (List ℕ)) → ArePlain lines → lines_of (ended lines) ≡ lines
unfolding ended
lines_of-ended [] h = lines_of-nothing [] refl
lines_of-ended (line ∷ lines) h =
    ap lines_of (append_assoc line (10 ∷ []) (ended lines))
    ∙ lines_of-first (line ++ 10 ∷ ended lines) line (ended lines) (slice_split_at (λ byte. byte == 10) line 10 (ended lines) (no_ends line h.0) refl)
    ∙ ap (λ (ls : List (List ℕ)). line ∷ ls) (lines_of-ended lines h.1)

lines_of-text_of : (w : Workload) → IsWorkload w → lines_of (text_of w) ≡ text_lines w
unfolding text_lines
lines_of-text_of w h =
    let g = w.geometry in
    lines_of-ended (text_lines w)
    (is_plain-with_numbers (codes "volume") (written_numbers g) refl (numbers_are_wide g h.geometry), ArePlain-later g 0 w.lines w.phases h.geometry.hosts.1 (recursion_from_All (IsAllowed g) w.lines h.lines))

-- a workload in range is that of its text, if that is not too long
pub workload_of-whole : (w : Workload) → IsWorkload w → length (text_of w) ≤ most_bytes → workload_of (text_of w) ≡ Ok w
workload_of-whole w h short = workload_of-complete (text_of w) w h (lines_of-text_of w h) short
