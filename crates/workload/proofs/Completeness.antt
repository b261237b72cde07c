-- The lines of a workload in range say that workload.
use Rattle.std.proofs.Common.{◌≡◌, ◌<◌, ◌≤◌, ◌+◌, ◌-◌, ◌^◌, ◌&&◌, ◌||◌, ◌==◌, ℕ, zero, suc, Bool, true, false, cond, List, [], ◌∷◌, ◌++◌, Some, Ok, length, map, slice_index, refl, sym, ap, subst, ◌∙◌, arith, append-nil}
use Rattle.std.specs.Prelude.{All, codes, decimal, nat_le, nat_lt, not}
use Rattle.std.specs.Char.{is_ascii_digit, is_ascii_graphic}
use Rattle.std.specs.List.{AllByRecursion, list_all, slice_split}
use Rattle.std.specs.Str.{bytes_eq}
use Rattle.std.specs.Str.Parse.{digits_value}
use Rattle.std.proofs.lemmas.Bool.{and_parts, eq-eqb, eqb-false, eqb-true, le-leb, lt-ltb}
use Rattle.std.proofs.lemmas.Bool.Decides.{nat_tests}
use Rattle.std.proofs.lemmas.Fmt.{decimal_digit, decimal_nonempty, digits_decimal, digits_value-decimal, first_decimal}
use Rattle.std.proofs.lemmas.List.Elements.{All-cons, All-nil, recursion_from_All}
use Rattle.std.proofs.lemmas.List.Splits.{slice_split_at, slice_split_none}
use Rattle.vol_base.specs.declared.command.Command.{Command}
use Rattle.vol_base.specs.declared.command.Command.TheVariants as commands
use Rattle.vol_layout.specs.declared.geometry.Geometry.{Geometry}
use Rattle.vol_layout.specs.Ranges.{IsGeometry}
use Rattle.vol_layout.specs.Superblock.{written_numbers}
use Rattle.workload.specs.declared.cause.WorkloadNo.TheVariants as causes
use Rattle.workload.specs.declared.entry.Entry.{Entry}
use Rattle.workload.specs.declared.entry.Entry.TheVariants.{Barrier, Order}
use Rattle.workload.specs.declared.line.Line.{Line}
use Rattle.workload.specs.declared.line.Workload.{Workload}
use Rattle.workload.specs.declared.verb.Verb.{Verb}
use Rattle.workload.specs.declared.verb.Verb.TheVariants.{Join, Leave, Create, Size, Write, Read, Punch, Remove, Close, Log, Scan, Merge, Serve, Collect, Beat, Look, Recover, Die, Scribble}
use Rattle.workload.specs.Checks.{checked}
use Rattle.workload.specs.Entries.{entry_of, entry_of_words, most_commands, order, order_of_arguments, order_of_words}
use Rattle.workload.specs.Grammar.{barriers, entries_of, most_bytes, numbered, workload_behind, workload_of, workload_of_lines}
use Rattle.workload.specs.Numerals.{is_numeral, number_of, numbers_of}
use Rattle.workload.specs.Printed.{barrier_lines, command_text, later_lines, text_lines, volume_text, with_numbers}
use Rattle.vol_layout.specs.laws.GeometryLaws.{is_geometry-IsGeometry}
use Rattle.workload.specs.Texts.{is_shaped, is_word, lines_of, words_of}
use Rattle.workload.specs.Verbs.{arguments, arity, command_of, name_of, verb_in, verb_of}
use Rattle.workload.specs.VolumeLine.{are_in_range, geometry_of, volume_line, volume_numbers, volume_words}
use Rattle.workload.specs.Workloads.{IsAllowed, IsNumbered, IsWorkload}
use Rattle.workload.proofs.NumberLaws.{numerals}
use Rattle.workload.proofs.Spelling.{length-map_decimal}

pub both : (a b : Bool) → a ≡ true → b ≡ true → (a && b) ≡ true
both a b e f = rw (e, f) refl

-- a digit stands in a word, and is no space
digit_is_graphic : (c : ℕ) → is_ascii_digit c ≡ true → is_ascii_graphic c ≡ true
digit_is_graphic c e = grind (arith, nat_tests)

graphic_is_no_space : (c : ℕ) → is_ascii_graphic c ≡ true → (c == 32) ≡ false
graphic_is_no_space c e = grind (arith, nat_tests)

digit_is_no_letter : (c : ℕ) → is_ascii_digit c ≡ true → (c == 98) ≡ false
digit_is_no_letter c e = grind (arith, nat_tests)

digits_are_graphic : (ds : List ℕ) → list_all is_ascii_digit ds ≡ true → list_all is_ascii_graphic ds ≡ true
digits_are_graphic [] e = refl
digits_are_graphic (c ∷ cs) e =
    let parts = and_parts (is_ascii_digit c) (list_all is_ascii_digit cs) e in
    both _ _ (digit_is_graphic c parts.0) (digits_are_graphic cs parts.1)

no_spaces : (word : List ℕ) → list_all is_ascii_graphic word ≡ true → All (λ b. (b == 32) ≡ false) word
no_spaces [] e = All-nil (λ b. (b == 32) ≡ false)
no_spaces (c ∷ cs) e =
    let parts = and_parts (is_ascii_graphic c) (list_all is_ascii_graphic cs) e in
    All-cons (λ b. (b == 32) ≡ false) c cs (graphic_is_no_space c parts.0) (no_spaces cs parts.1)

decimal_digits : (n : ℕ) → n < 2 ^ 64 → list_all is_ascii_digit (decimal n) ≡ true
decimal_digits n h = digits_decimal numerals n h

some_length : (word : List ℕ) → 0 < length word → not (length word == 0) ≡ true
some_length word h = grind (arith, nat_tests)

pub decimal_graphic : (n : ℕ) → n < 2 ^ 64 → list_all is_ascii_graphic (decimal n) ≡ true
decimal_graphic n h = digits_are_graphic (decimal n) (decimal_digits n h)

is_word-decimal : (n : ℕ) → n < 2 ^ 64 → is_word (decimal n) ≡ true
is_word-decimal n h = both _ _ (some_length (decimal n) (decimal_nonempty n h)) (decimal_graphic n h)

word_graphic : (word : List ℕ) → is_word word ≡ true → list_all is_ascii_graphic word ≡ true
word_graphic word e = (and_parts (not (length word == 0)) (list_all is_ascii_graphic word) e).1

-- numbers that are written are read
leads : (n : ℕ) → n < 2 ^ 64 → (not (slice_index (decimal n) 0 == 48) || length (decimal n) == 1) ≡ true
leads zero h = ap (λ (ds : List ℕ). not (slice_index ds 0 == 48) || length ds == 1) (decimal_digit 0 (omega arith))
leads (suc n) h =
    let high = first_decimal (suc n) (omega arith) h in
    let other : (slice_index (decimal (suc n)) 0 == 48) ≡ false = grind (arith, nat_tests) in
    rw other refl

is_numeral-decimal : (n : ℕ) → n < 2 ^ 64 → is_numeral (decimal n) ≡ true
is_numeral-decimal n h =
    both _ _ (both _ _ (some_length (decimal n) (decimal_nonempty n h)) (decimal_digits n h)) (leads n h)

number_of-written : (n : ℕ) → n < 2 ^ 64 → number_of (decimal n) ≡ Some n
unfolding number_of
number_of-written n h =
    let numeral = is_numeral-decimal n h in
    let value : digits_value 10 (decimal n) ≡ n = digits_value-decimal numerals n h in
    let fits : nat_lt n (2 ^ 64) ≡ true = lt-ltb n (2 ^ 64) h in
    rw (numeral, value, fits) refl

-- numbers of at most 64 bits
abbrev pub Wide : List ℕ → Type 0
Wide ns = AllByRecursion (λ n. n < 2 ^ 64) ns

numbers_of-written : (ns : List ℕ) → Wide ns → numbers_of (map decimal ns) ≡ Some ns
unfolding numbers_of
numbers_of-written [] h = refl
numbers_of-written (n ∷ ns) h = rw (number_of-written n h.0, numbers_of-written ns h.1) refl

are_words : (ns : List ℕ) → Wide ns → list_all is_word (map decimal ns) ≡ true
are_words [] h = refl
are_words (n ∷ ns) h = both _ _ (is_word-decimal n h.0) (are_words ns h.1)

-- the words of a word and numbers
words_of-written : (word : List ℕ) (ns : List ℕ) → is_word word ≡ true → Wide ns → words_of (with_numbers word ns) ≡ word ∷ map decimal ns
unfolding words_of
words_of-written word [] e h = ap (slice_split (λ byte. byte == 32)) (append-nil word) ∙ slice_split_none (λ byte. byte == 32) word (no_spaces word (word_graphic word e))
words_of-written word (n ∷ ns) e h =
    slice_split_at (λ byte. byte == 32) word 32 (with_numbers (decimal n) ns) (no_spaces word (word_graphic word e)) refl
    ∙ ap (λ (words : List (List ℕ)). word ∷ words) (words_of-written (decimal n) ns (is_word-decimal n h.0) h.1)

-- names are read as their commands
verb_of-name_of : (verb : Verb) → (verb_of (name_of verb) ≡ Some verb) × (is_word (name_of verb) ≡ true)
unfolding verb_of
verb_of-name_of Join = (refl, refl)
verb_of-name_of Leave = (refl, refl)
verb_of-name_of Create = (refl, refl)
verb_of-name_of Size = (refl, refl)
verb_of-name_of Write = (refl, refl)
verb_of-name_of Read = (refl, refl)
verb_of-name_of Punch = (refl, refl)
verb_of-name_of Remove = (refl, refl)
verb_of-name_of Close = (refl, refl)
verb_of-name_of Log = (refl, refl)
verb_of-name_of Scan = (refl, refl)
verb_of-name_of Merge = (refl, refl)
verb_of-name_of Serve = (refl, refl)
verb_of-name_of Collect = (refl, refl)
verb_of-name_of Beat = (refl, refl)
verb_of-name_of Look = (refl, refl)
verb_of-name_of Recover = (refl, refl)
verb_of-name_of Die = (refl, refl)
verb_of-name_of Scribble = (refl, refl)

pub name_graphic : (verb : Verb) → list_all is_ascii_graphic (name_of verb) ≡ true
name_graphic verb = word_graphic (name_of verb) (verb_of-name_of verb).1

-- a command is that of its name and its arguments, of which it has as many as it takes
abbrev again : Command → Command
again command = command_of (verb_in command) (slice_index (arguments command) 0) (slice_index (arguments command) 1) (slice_index (arguments command) 2)

command_again : (command : Command) → (again command ≡ command) × (length (arguments command) ≡ arity (verb_in command))
command_again commands.Join = (refl, refl)
command_again commands.Leave = (refl, refl)
command_again (commands.Create file) = (refl, refl)
command_again (commands.Size file blocks) = (refl, refl)
command_again (commands.Write file index n) = (refl, refl)
command_again (commands.Read file index) = (refl, refl)
command_again (commands.Punch file index) = (refl, refl)
command_again (commands.Remove file) = (refl, refl)
command_again (commands.Close file) = (refl, refl)
command_again commands.Log = (refl, refl)
command_again (commands.Scan file index) = (refl, refl)
command_again commands.Merge = (refl, refl)
command_again commands.Serve = (refl, refl)
command_again (commands.Collect part) = (refl, refl)
command_again commands.Beat = (refl, refl)
command_again (commands.Look host) = (refl, refl)
command_again (commands.Recover host) = (refl, refl)
command_again (commands.Die calls) = (refl, refl)
command_again (commands.Scribble place n seen) = (refl, refl)

-- a host's number is not `barrier`
number_is_no_barrier : (ds : List ℕ) → list_all is_ascii_digit ds ≡ true → bytes_eq ds (codes "barrier") ≡ false
number_is_no_barrier [] e = refl
number_is_no_barrier (c ∷ cs) e = rw (digit_is_no_letter c (and_parts (is_ascii_digit c) (list_all is_ascii_digit cs) e).0) refl

order-written : (g : Geometry) (before : ℕ) (line : Line) → IsAllowed g line → before < most_commands
    → order g before line.host line.command ≡ Ok (Order line.host line.command)
unfolding order
order-written g before line h few =
    let host : nat_lt line.host g.hosts ≡ true = lt-ltb _ _ h.host in
    let room : nat_lt before most_commands ≡ true = lt-ltb _ _ few in
    rw (host, h.range, h.foreign, room) refl

arguments-written : (g : Geometry) (before : ℕ) (line : Line) → IsAllowed g line → before < most_commands → Wide (arguments line.command)
    → order_of_arguments g before line.host (verb_in line.command) (map decimal (arguments line.command)) ≡ Ok (Order line.host line.command)
unfolding order_of_arguments
arguments-written g before line h few wide =
    let same = command_again line.command in
    let count : (length (map decimal (arguments line.command)) == arity (verb_in line.command)) ≡ true = eq-eqb _ _ (length-map_decimal (arguments line.command) ∙ same.1) in
    rw (count, numbers_of-written (arguments line.command) wide, same.0) (order-written g before line h few)

entry_of-written : (g : Geometry) (before : ℕ) (line : Line) → line.host < 2 ^ 64 → IsAllowed g line → before < most_commands
    → Wide (arguments line.command)
    → entry_of g before (command_text line) ≡ Ok (Order line.host line.command)
unfolding entry_of entry_of_words order_of_words is_shaped words_of
entry_of-written g before line low h few wide =
    let verb = verb_of-name_of (verb_in line.command) in
    let args = arguments line.command in
    let first = is_word-decimal line.host low in
    let words : words_of (command_text line) ≡ decimal line.host ∷ name_of (verb_in line.command) ∷ map decimal args =
    slice_split_at (λ byte. byte == 32) (decimal line.host) 32 (with_numbers (name_of (verb_in line.command)) args) (no_spaces (decimal line.host) (word_graphic (decimal line.host) first)) refl
    ∙ ap (λ (ws : List (List ℕ)). decimal line.host ∷ ws) (words_of-written (name_of (verb_in line.command)) args verb.1 wide) in
    let shaped : list_all is_word (decimal line.host ∷ name_of (verb_in line.command) ∷ map decimal args) ≡ true = both _ _ first (both _ _ verb.1 (are_words args wide)) in
    let said : entry_of_words g before (decimal line.host ∷ name_of (verb_in line.command) ∷ map decimal args) ≡ Ok (Order line.host line.command) =
    rw (number_is_no_barrier (decimal line.host) (decimal_digits line.host low), number_of-written line.host low, verb.0) (arguments-written g before line h few wide) in
    ap (λ (ws : List (List ℕ)). checked (list_all is_word ws) causes.Shape (entry_of_words g before ws)) words ∙ rw shaped said

entry_of-barrier : (g : Geometry) (before : ℕ) → entry_of g before (codes "barrier") ≡ Ok Barrier
unfolding entry_of entry_of_words is_shaped words_of
entry_of-barrier g before = refl

-- the first line
six_wide : (g : Geometry) (rest : List ℕ) → IsGeometry g → Wide rest
    → Wide (g.hosts ∷ g.files ∷ g.groups ∷ g.parts ∷ g.shards ∷ g.logs ∷ rest)
six_wide g rest h wide =
    (omega (arith, h.hosts.1), (omega (arith, h.files.1), (omega (arith, h.groups.1), (omega (arith, h.parts.1), (omega (arith, h.shards.1), (omega (arith, h.logs.1), wide))))))

-- the numbers of a geometry are read as it
record ReadsNumbers (g : Geometry) (ns : List ℕ) : Type 0 where
  count : (length ns == 6 || length ns == 7) ≡ true
  range : are_in_range ns ≡ true
  geometry : geometry_of ns ≡ g
  wide : Wide ns

numbers_are_read : (g : Geometry) → IsGeometry g → (single : Bool) → (g.tables == 1) ≡ single
    → ReadsNumbers g (g.hosts ∷ g.files ∷ g.groups ∷ g.parts ∷ g.shards ∷ g.logs ∷ cond single [] (g.tables ∷ []))
numbers_are_read g h true e =
    let ns = g.hosts ∷ g.files ∷ g.groups ∷ g.parts ∷ g.shards ∷ g.logs ∷ [] in
    let is : geometry_of ns ≡ g =
    ap (λ (t : ℕ). let made : Geometry = record { hosts = g.hosts; files = g.files; groups = g.groups; parts = g.parts; shards = g.shards; logs = g.logs; tables = t } in made)
    (sym (eqb-true g.tables 1 e)) in
    record {
      count = refl;
      range = both _ _ ((is_geometry-IsGeometry (geometry_of ns)).1 (subst IsGeometry (sym is) h)) refl;
      geometry = is;
      wide = six_wide g [] h tt;
    }
numbers_are_read g h false e =
    let low : 2 ≤ g.tables = let other = eqb-false g.tables 1 e in omega (arith, h.tables.0, other) in
    record {
      count = refl;
      range = both _ _ ((is_geometry-IsGeometry g).1 h) (le-leb 2 g.tables low);
      geometry = refl;
      wide = six_wide g (g.tables ∷ []) h (omega (arith, h.tables.1), tt);
    }

pub numbers_are_wide : (g : Geometry) → IsGeometry g → Wide (written_numbers g)
numbers_are_wide g h = (numbers_are_read g h (g.tables == 1) refl).wide

volume_numbers-written : (g : Geometry) (ns : List ℕ) → ReadsNumbers g ns → volume_numbers (map decimal ns) ≡ Ok g
unfolding volume_numbers
volume_numbers-written g ns h =
    let count : (length (map decimal ns) == 6 || length (map decimal ns) == 7) ≡ true = ap (λ (n : ℕ). n == 6 || n == 7) (length-map_decimal ns) ∙ h.count in
    rw (count, numbers_of-written ns h.wide, h.range) (ap Ok h.geometry)

pub volume_line-written : (g : Geometry) → IsGeometry g → volume_line (volume_text g) ≡ Ok g
unfolding volume_line volume_words is_shaped
volume_line-written g h =
    let numbers = numbers_are_read g h (g.tables == 1) refl in
    let ns = written_numbers g in
    let words : words_of (volume_text g) ≡ codes "volume" ∷ map decimal ns = words_of-written (codes "volume") ns refl numbers.wide in
    let shaped : list_all is_word (codes "volume" ∷ map decimal ns) ≡ true = are_words ns numbers.wide in
    ap (λ (ws : List (List ℕ)). checked (list_all is_word ws) causes.Shape (volume_words ws)) words ∙ rw shaped (volume_numbers-written g ns numbers)

-- lines that are read as the commands of a workload, and end its phases
record Reads (g : Geometry) (at phase before : ℕ) (texts : List (List ℕ)) (lines : List Line) (phases : ℕ) : Type 0 where
  entries : List Entry
  said : entries_of g at before texts ≡ Ok entries
  lines_are : numbered at phase entries ≡ lines
  ends : barriers entries + phase + 1 ≡ phases

Reads-barrier : (g : Geometry) (at phase before : ℕ) (texts : List (List ℕ)) (lines : List Line) (phases : ℕ)
    → Reads g (at + 1) (phase + 1) before texts lines phases → Reads g at phase before (codes "barrier" ∷ texts) lines phases
unfolding entries_of numbered barriers
Reads-barrier g at phase before texts lines phases h =
    let same : before + 0 ≡ before = omega arith in
    record {
      entries = Barrier ∷ h.entries;
      said = rw (entry_of-barrier g before, same, h.said) refl;
      lines_are = h.lines_are;
      ends = omega (arith, h.ends);
    }

Reads-barriers : (n : ℕ) (g : Geometry) (at phase before : ℕ) (texts : List (List ℕ)) (lines : List Line) (phases : ℕ)
    → Reads g (at + n) (phase + n) before texts lines phases → Reads g at phase before (barrier_lines n ++ texts) lines phases
Reads-barriers zero g at phase before texts lines phases h =
    let same_at : at + 0 ≡ at = omega arith in
    let same_phase : phase + 0 ≡ phase = omega arith in
    subst (λ (k : ℕ). Reads g k phase before texts lines phases) same_at (subst (λ (k : ℕ). Reads g (at + 0) k before texts lines phases) same_phase h)
Reads-barriers (suc n) g at phase before texts lines phases h =
    let next_at : at + suc n ≡ at + 1 + n = omega arith in
    let next_phase : phase + suc n ≡ phase + 1 + n = omega arith in
    Reads-barrier g at phase before (barrier_lines n ++ texts) lines phases
    (Reads-barriers n g (at + 1) (phase + 1) before texts lines phases
    (subst (λ (k : ℕ). Reads g k (phase + 1 + n) before texts lines phases) next_at (subst (λ (k : ℕ). Reads g (at + suc n) k before texts lines phases) next_phase h)))

Reads-end : (g : Geometry) (at phase before phases : ℕ) → phase + 1 ≡ phases → Reads g at phase before [] [] phases
unfolding entries_of numbered barriers
Reads-end g at phase before phases h = record { entries = []; said = refl; lines_are = refl; ends = omega arith }

Reads-order : (g : Geometry) (at phase before : ℕ) (line : Line) (texts : List (List ℕ)) (lines : List Line) (phases : ℕ)
    → line.at ≡ at → line.phase ≡ phase → entry_of g before (command_text line) ≡ Ok (Order line.host line.command)
    → Reads g (at + 1) phase (before + 1) texts lines phases → Reads g at phase before (command_text line ∷ texts) (line ∷ lines) phases
unfolding entries_of numbered barriers
Reads-order g at phase before line texts lines phases e f said h =
    record {
      entries = Order line.host line.command ∷ h.entries;
      said = rw (said, h.said) refl;
      lines_are =
          ap (λ (ls : List Line). let first : Line = record { at = at; phase = phase; host = line.host; command = line.command } in first ∷ ls) h.lines_are
          ∙ ap (λ (k : ℕ). let first : Line = record { at = k; phase = phase; host = line.host; command = line.command } in first ∷ lines) (sym e)
          ∙ ap (λ (k : ℕ). let first : Line = record { at = line.at; phase = k; host = line.host; command = line.command } in first ∷ lines) (sym f);
      ends = h.ends;
    }

Reads-later : (g : Geometry) (at phase before : ℕ) (lines : List Line) (phases : ℕ) → g.hosts ≤ 16 → AllByRecursion (IsAllowed g) lines
    → IsNumbered at phase lines phases
    → before + length lines ≤ most_commands → Reads g at phase before (later_lines phase lines phases) lines phases
unfolding later_lines
Reads-later g at phase before [] phases hosts h places few =
    let n = phases - 1 - phase in
    subst (λ (texts : List (List ℕ)). Reads g at phase before texts [] phases) (append-nil (barrier_lines n))
    (Reads-barriers n g at phase before [] [] phases (Reads-end g (at + n) (phase + n) before phases (omega arith)))
Reads-later g at phase before (line ∷ lines) phases hosts h places few =
    let n = line.phase - phase in
    let later = places.0 in
    let here : line.at ≡ at + n = places.1 in
    let there : line.phase ≡ phase + n = omega arith in
    let allowed = h.0 in
    let wide = recursion_from_All (λ m. m < 2 ^ 64) (arguments line.command) allowed.wide in
    let said = entry_of-written g before line (omega (arith, allowed.host)) allowed (omega arith) wide in
    let rest = Reads-later g (line.at + 1) line.phase (before + 1) lines phases hosts h.1 places.2 (omega arith) in
    Reads-barriers n g at phase before (command_text line ∷ later_lines line.phase lines phases) (line ∷ lines) phases
    (Reads-order g (at + n) (phase + n) before line (later_lines line.phase lines phases) lines phases here there said
    (subst (λ (k : ℕ). Reads g (k + 1) (phase + n) (before + 1) (later_lines line.phase lines phases) lines phases) here
    (subst (λ (k : ℕ). Reads g (line.at + 1) k (before + 1) (later_lines line.phase lines phases) lines phases) there rest)))

text_lines-read : (w : Workload) → IsWorkload w → workload_of_lines (text_lines w) ≡ Ok w
unfolding workload_of_lines text_lines workload_behind
text_lines-read w h =
    let g = w.geometry in
    let body = Reads-later g 2 0 0 w.lines w.phases h.geometry.hosts.1 (recursion_from_All (IsAllowed g) w.lines h.lines) h.numbered (omega (arith, h.few)) in
    let ends : barriers body.entries + 1 ≡ w.phases = omega (arith, body.ends) in
    rw (volume_line-written g h.geometry, body.said)
    (ap (λ (ls : List Line). let made : Workload = record { geometry = g; lines = ls; phases = barriers body.entries + 1 } in Ok made) body.lines_are
    ∙ ap (λ (k : ℕ). let made : Workload = record { geometry = g; lines = w.lines; phases = k } in Ok made) ends)

-- a text that has the lines of a workload in range says that workload
pub workload_of-complete : (text : List ℕ) (w : Workload) → IsWorkload w → lines_of text ≡ text_lines w → length text ≤ most_bytes
    → workload_of text ≡ Ok w
unfolding workload_of
workload_of-complete text w h e short =
    let fits : nat_le (length text) most_bytes ≡ true = le-leb _ _ short in
    rw fits (ap workload_of_lines e ∙ text_lines-read w h)
