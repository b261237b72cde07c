-- A text in the grammar has the lines that its workload is written as.
use Rattle.std.proofs.Common.{◌≡◌, ◌≤◌, ◌+◌, ◌-◌, ◌&&◌, ◌||◌, ◌⊎◌, ◌==◌, ℕ, suc, Bool, true, false, cond, List, [], ◌∷◌, ◌++◌, Some, Result, Ok, Err, length, slice_index, map, refl, sym, ap, ◌∙◌, inl, inr, arith, append-nil}
use Rattle.std.specs.Prelude.{codes, decimal, nat_le, nat_lt, not}
use Rattle.std.specs.List.{find, join_with_byte}
use Rattle.std.specs.Option.{ok_or}
use Rattle.std.specs.Str.{bytes_eq}
use Rattle.std.proofs.lemmas.List.Splits.{join_with_byte-slice_split}
use Rattle.std.proofs.lemmas.Option.{option_and_then_some, same_Some}
use Rattle.std.proofs.lemmas.Slice.Eq.{bytes_eq-Decides}
use Rattle.vol_base.specs.declared.command.Command.{Command}
use Rattle.vol_layout.specs.declared.geometry.Geometry.{Geometry}
use Rattle.vol_layout.specs.Ranges.{is_geometry}
use Rattle.vol_layout.specs.Superblock.{written_numbers}
use Rattle.workload.specs.declared.cause.WorkloadNo.{WorkloadNo}
use Rattle.workload.specs.declared.cause.WorkloadNo.TheVariants as causes
use Rattle.workload.specs.declared.entry.Entry.{Entry}
use Rattle.workload.specs.declared.entry.Entry.TheVariants.{Barrier, Order}
use Rattle.workload.specs.declared.line.Line.{Line}
use Rattle.workload.specs.declared.line.Workload.{Workload}
use Rattle.workload.specs.declared.verb.Verb.{Verb}
use Rattle.workload.specs.declared.verb.Verb.TheVariants.{Join, Leave, Create, Size, Write, Read, Punch, Remove, Close, Log, Scan, Merge, Serve, Collect, Beat, Look, Recover, Die, Scribble}
use Rattle.workload.specs.Checks.{◌>>=◌, checked}
use Rattle.workload.specs.Entries.{barrier_of, entry_of, entry_of_words, most_commands, order, order_of_arguments, order_of_words}
use Rattle.workload.specs.Grammar.{Refusal, at_line, barriers, commands_in, entries_of, most_bytes, numbered, workload_behind, workload_of, workload_of_lines, workload_with}
use Rattle.workload.specs.Numerals.{number_of, numbers_of}
use Rattle.workload.specs.Printed.{barrier_lines, command_text, later_lines, text_lines, volume_text, with_numbers}
use Rattle.workload.specs.Ranges.{is_in_range, is_own}
use Rattle.workload.specs.Texts.{is_shaped, lines_of, words_of}
use Rattle.workload.specs.Verbs.{arguments, arity, command_of, name_of, verb_in, verb_of, verbs}
use Rattle.workload.specs.VolumeLine.{are_in_range, geometry_of, volume_line, volume_numbers, volume_words}
use Rattle.std.proofs.lemmas.Bool.Decides.{nat_tests}
use Rattle.std.proofs.lemmas.Bool.{and_parts, eqb-true}
use Rattle.workload.proofs.CheckLaws.{at_line_ok, bind_ok, checked_ok, map_some, ok_or_some, same_Ok}
use Rattle.workload.proofs.NumberLaws.{number_of-decimal}

-- words of numbers
numbers_of-decimal : (words : List (List ℕ)) (ns : List ℕ) → numbers_of words ≡ Some ns → words ≡ map decimal ns
unfolding numbers_of
numbers_of-decimal [] ns e = ap (map decimal) (same_Some [] ns e)
numbers_of-decimal (word ∷ words) ns e =
    option_and_then_some _ (number_of word) ns e
    (λ n first rest.
    let more = map_some _ (numbers_of words) ns rest in
    ap (λ (w : List ℕ). w ∷ words) (number_of-decimal word n first)
    ∙ ap (λ (ws : List (List ℕ)). decimal n ∷ ws) (numbers_of-decimal words more.0 more.1)
    ∙ ap (map decimal) more.2)

pub length-map_decimal : (ns : List ℕ) → length (map decimal ns) ≡ length ns
length-map_decimal [] = refl
length-map_decimal (n ∷ ns) = ap suc (length-map_decimal ns)

pub length-numbers_of : (words : List (List ℕ)) (ns : List ℕ) → numbers_of words ≡ Some ns → length words ≡ length ns
length-numbers_of words ns e = ap length (numbers_of-decimal words ns e) ∙ length-map_decimal ns

-- the words of a line, joined, are the line
joined_words : (line : List ℕ) → join_with_byte 32 (words_of line) ≡ line
unfolding words_of
joined_words line = join_with_byte-slice_split 32 line

joined_numbers : (word : List ℕ) (ns : List ℕ) → join_with_byte 32 (word ∷ map decimal ns) ≡ with_numbers word ns
joined_numbers word [] = sym (append-nil word)
joined_numbers word (n ∷ ns) = ap (λ (rest : List ℕ). word ++ (32 ∷ rest)) (joined_numbers (decimal n) ns)

-- the word of a command is its name
find_passes : {X : Type 0} (p : X → Bool) (xs : List X) (x : X) → find p xs ≡ Some x → p x ≡ true
find_passes p [] x e = absurd (cc)
find_passes p (y ∷ ys) x e =
    (elim (p y) as (λ b. p y ≡ b → cond b (Some y) (find p ys) ≡ Some x → p x ≡ true) [
      | true ↦ λ here found. ap p (sym (same_Some y x found)) ∙ here
      | false ↦ λ here found. find_passes p ys x found
    ])
    refl
    e

verb_of-name : (word : List ℕ) (verb : Verb) → verb_of word ≡ Some verb → word ≡ name_of verb
unfolding verb_of
verb_of-name word verb e = sym ((bytes_eq-Decides (name_of verb) word).0 (find_passes (λ v. bytes_eq (name_of v) word) verbs verb e))

-- a command has the arguments that it was made of
none : (ns : List ℕ) → length ns ≡ 0 → [] ≡ ns
none [] h = refl
none (a ∷ ns) h = absurd (omega arith)

one : (ns : List ℕ) → length ns ≡ 1 → slice_index ns 0 ∷ [] ≡ ns
one [] h = absurd (omega arith)
one (a ∷ ns) h = ap (λ (rest : List ℕ). a ∷ rest) (none ns (omega arith))

two : (ns : List ℕ) → length ns ≡ 2 → slice_index ns 0 ∷ slice_index ns 1 ∷ [] ≡ ns
two [] h = absurd (omega arith)
two (a ∷ ns) h = ap (λ (rest : List ℕ). a ∷ rest) (one ns (omega arith))

three : (ns : List ℕ) → length ns ≡ 3 → slice_index ns 0 ∷ slice_index ns 1 ∷ slice_index ns 2 ∷ [] ≡ ns
three [] h = absurd (omega arith)
three (a ∷ ns) h = ap (λ (rest : List ℕ). a ∷ rest) (two ns (omega arith))

pub arguments-command_of : (verb : Verb) (ns : List ℕ) → length ns ≡ arity verb
    → arguments (command_of verb (slice_index ns 0) (slice_index ns 1) (slice_index ns 2)) ≡ ns
arguments-command_of Join ns h = none ns h
arguments-command_of Leave ns h = none ns h
arguments-command_of Create ns h = one ns h
arguments-command_of Size ns h = two ns h
arguments-command_of Write ns h = three ns h
arguments-command_of Read ns h = two ns h
arguments-command_of Punch ns h = two ns h
arguments-command_of Remove ns h = one ns h
arguments-command_of Close ns h = one ns h
arguments-command_of Log ns h = none ns h
arguments-command_of Scan ns h = two ns h
arguments-command_of Merge ns h = none ns h
arguments-command_of Serve ns h = none ns h
arguments-command_of Collect ns h = one ns h
arguments-command_of Beat ns h = none ns h
arguments-command_of Look ns h = one ns h
arguments-command_of Recover ns h = one ns h
arguments-command_of Die ns h = one ns h
arguments-command_of Scribble ns h = three ns h

verb_in-command_of : (verb : Verb) (a b c : ℕ) → verb_in (command_of verb a b c) ≡ verb
verb_in-command_of Join a b c = refl
verb_in-command_of Leave a b c = refl
verb_in-command_of Create a b c = refl
verb_in-command_of Size a b c = refl
verb_in-command_of Write a b c = refl
verb_in-command_of Read a b c = refl
verb_in-command_of Punch a b c = refl
verb_in-command_of Remove a b c = refl
verb_in-command_of Close a b c = refl
verb_in-command_of Log a b c = refl
verb_in-command_of Scan a b c = refl
verb_in-command_of Merge a b c = refl
verb_in-command_of Serve a b c = refl
verb_in-command_of Collect a b c = refl
verb_in-command_of Beat a b c = refl
verb_in-command_of Look a b c = refl
verb_in-command_of Recover a b c = refl
verb_in-command_of Die a b c = refl
verb_in-command_of Scribble a b c = refl

-- the line of an entry
abbrev pub entry_text : Entry → List ℕ
entry_text Barrier = codes "barrier"
entry_text (Order host command) = decimal host ++ 32 ∷ with_numbers (name_of (verb_in command)) (arguments command)

pub order_is : (g : Geometry) (before host : ℕ) (command : Command) (entry : Entry) → order g before host command ≡ Ok entry
    → Order host command ≡ entry
unfolding order
order_is g before host command entry e =
    let counted : Result Entry WorkloadNo = checked (nat_lt before most_commands) causes.Many (Ok (Order host command)) in
    let foreign : Result Entry WorkloadNo = checked (not (is_own host command)) causes.Own counted in
    let ranged = checked_ok (nat_lt host g.hosts && is_in_range g command) causes.Range foreign entry e in
    let owned = checked_ok (not (is_own host command)) causes.Own counted entry ranged.1 in
    same_Ok {E = WorkloadNo} (Order host command) entry (checked_ok (nat_lt before most_commands) causes.Many (Ok (Order host command)) entry owned.1).1

-- what the arguments of a command are checked for, and its order
abbrev order_of_numbers : Geometry → ℕ → ℕ → Verb → List ℕ → Result Entry WorkloadNo
order_of_numbers g before host verb ns = order g before host (command_of verb (slice_index ns 0) (slice_index ns 1) (slice_index ns 2))

arguments_text : (g : Geometry) (before host : ℕ) (verb : Verb) (args : List (List ℕ)) (entry : Entry)
    → order_of_arguments g before host verb args ≡ Ok entry
    → decimal host ++ 32 ∷ join_with_byte 32 (name_of verb ∷ args) ≡ entry_text entry
unfolding order_of_arguments
arguments_text g before host verb args entry e =
    let numbers : Result (List ℕ) WorkloadNo = ok_or (numbers_of args) causes.Number in
    let counted = checked_ok (length args == arity verb) causes.Count (numbers >>= order_of_numbers g before host verb) entry e in
    let read = bind_ok numbers (order_of_numbers g before host verb) entry counted.1 in
    let ns = read.0 in
    let some = ok_or_some (numbers_of args) causes.Number ns read.1 in
    let args_are = numbers_of-decimal args ns some in
    let long : length ns ≡ arity verb = sym (length-numbers_of args ns some) ∙ eqb-true _ _ counted.0 in
    let command = command_of verb (slice_index ns 0) (slice_index ns 1) (slice_index ns 2) in
    let ordered = order_is g before host command entry read.2 in
    ap (λ (words : List (List ℕ)). decimal host ++ 32 ∷ join_with_byte 32 (name_of verb ∷ words)) args_are
    ∙ ap (λ (line : List ℕ). decimal host ++ 32 ∷ line) (joined_numbers (name_of verb) ns)
    ∙ ap (λ (ms : List ℕ). decimal host ++ 32 ∷ with_numbers (name_of verb) ms) (sym (arguments-command_of verb ns long))
    ∙ ap (λ (v : Verb). decimal host ++ 32 ∷ with_numbers (name_of v) (arguments command)) (sym (verb_in-command_of verb (slice_index ns 0) (slice_index ns 1) (slice_index ns 2)))
    ∙ ap entry_text ordered

order_text : (g : Geometry) (before : ℕ) (first : List ℕ) (rest : List (List ℕ)) (host : ℕ) (entry : Entry) → first ≡ decimal host
    → order_of_words g before host rest ≡ Ok entry
    → join_with_byte 32 (first ∷ rest) ≡ entry_text entry
unfolding order_of_words
order_text g before first [] host entry h e = absurd (cc)
order_text g before first (name ∷ args) host entry h e =
    let read = bind_ok (ok_or (verb_of name) causes.Word) (λ verb. order_of_arguments g before host verb args) entry e in
    let name_is = verb_of-name name read.0 (ok_or_some (verb_of name) causes.Word read.0 read.1) in
    ap (λ (word : List ℕ). word ++ 32 ∷ join_with_byte 32 (name ∷ args)) h
    ∙ ap (λ (word : List ℕ). decimal host ++ 32 ∷ join_with_byte 32 (word ∷ args)) name_is
    ∙ arguments_text g before host read.0 args entry read.2

barrier_text : (rest : List (List ℕ)) (first : List ℕ) (entry : Entry) → first ≡ codes "barrier" → barrier_of rest ≡ Ok entry
    → join_with_byte 32 (first ∷ rest) ≡ entry_text entry
barrier_text [] first entry h e = h ∙ ap entry_text (same_Ok {E = WorkloadNo} Barrier entry e)
barrier_text (word ∷ words) first entry h e = absurd (cc)

words_text : (g : Geometry) (before : ℕ) (words : List (List ℕ)) (entry : Entry) → entry_of_words g before words ≡ Ok entry
    → join_with_byte 32 words ≡ entry_text entry
unfolding entry_of_words
words_text g before [] entry e = absurd (cc)
words_text g before (first ∷ rest) entry e =
    let numbered : Result Entry WorkloadNo = ok_or (number_of first) causes.Number >>= λ host. order_of_words g before host rest in
    (elim (bytes_eq first (codes "barrier")) as (λ b. bytes_eq first (codes "barrier") ≡ b → cond b (barrier_of rest) numbered ≡ Ok entry → join_with_byte 32 (first ∷ rest) ≡ entry_text entry) [
      | true ↦ λ same said. barrier_text rest first entry ((bytes_eq-Decides first (codes "barrier")).0 same) said
      | false ↦ λ other said.
          let read = bind_ok (ok_or (number_of first) causes.Number) (λ host. order_of_words g before host rest) entry said in
          order_text g before first rest read.0 entry (number_of-decimal first read.0 (ok_or_some (number_of first) causes.Number read.0 read.1)) read.2
    ])
    refl
    e

-- a line that says something is the line of its entry
pub entry_of-text : (g : Geometry) (before : ℕ) (line : List ℕ) (entry : Entry) → entry_of g before line ≡ Ok entry
    → line ≡ entry_text entry
unfolding entry_of
entry_of-text g before line entry e =
    sym (joined_words line)
    ∙ words_text g before (words_of line) entry (checked_ok (is_shaped line) causes.Shape (entry_of_words g before (words_of line)) entry e).1

-- six or seven numbers are those of their geometry
written-six : (ns : List ℕ) → length ns ≡ 6 → written_numbers (geometry_of ns) ≡ ns
written-six (a ∷ b ∷ c ∷ d ∷ e ∷ f ∷ []) h = refl
written-six (a ∷ b ∷ c ∷ d ∷ e ∷ f ∷ n ∷ ns) h = absurd (omega arith)
written-six [] h = absurd (omega arith)
written-six (a ∷ []) h = absurd (omega arith)
written-six (a ∷ b ∷ []) h = absurd (omega arith)
written-six (a ∷ b ∷ c ∷ []) h = absurd (omega arith)
written-six (a ∷ b ∷ c ∷ d ∷ []) h = absurd (omega arith)
written-six (a ∷ b ∷ c ∷ d ∷ e ∷ []) h = absurd (omega arith)

seventh : (n : ℕ) → nat_le 2 n ≡ true → (n == 1) ≡ false
seventh n e = grind (arith, nat_tests)

written-seven : (ns : List ℕ) → length ns ≡ 7 → are_in_range ns ≡ true → written_numbers (geometry_of ns) ≡ ns
written-seven (a ∷ b ∷ c ∷ d ∷ e ∷ f ∷ n ∷ []) h ranged =
    let ns = a ∷ b ∷ c ∷ d ∷ e ∷ f ∷ n ∷ [] in
    rw (seventh n (and_parts (is_geometry (geometry_of ns)) (nat_le 2 n) ranged).1) refl
written-seven (a ∷ b ∷ c ∷ d ∷ e ∷ f ∷ n ∷ m ∷ ns) h ranged = absurd (omega arith)
written-seven [] h ranged = absurd (omega arith)
written-seven (a ∷ []) h ranged = absurd (omega arith)
written-seven (a ∷ b ∷ []) h ranged = absurd (omega arith)
written-seven (a ∷ b ∷ c ∷ []) h ranged = absurd (omega arith)
written-seven (a ∷ b ∷ c ∷ d ∷ []) h ranged = absurd (omega arith)
written-seven (a ∷ b ∷ c ∷ d ∷ e ∷ []) h ranged = absurd (omega arith)
written-seven (a ∷ b ∷ c ∷ d ∷ e ∷ f ∷ []) h ranged = absurd (omega arith)

written : (ns : List ℕ) → (length ns ≡ 6) ⊎ (length ns ≡ 7) → are_in_range ns ≡ true → written_numbers (geometry_of ns) ≡ ns
written ns h ranged = elim h [ inl six ↦ written-six ns six | inr seven ↦ written-seven ns seven ranged ]

six_or_seven : (n : ℕ) → (n == 6 || n == 7) ≡ true → (n ≡ 6) ⊎ (n ≡ 7)
six_or_seven n e =
    (elim (n == 6) as (λ b. (n == 6) ≡ b → (b || n == 7) ≡ true → (n ≡ 6) ⊎ (n ≡ 7)) [
      | true ↦ λ six _. inl (eqb-true n 6 six)
      | false ↦ λ _ seven. inr (eqb-true n 7 seven)
    ])
    refl
    e

-- what the numbers behind `volume` are checked for
abbrev geometry_of_numbers : List ℕ → Result Geometry WorkloadNo
geometry_of_numbers ns = checked (are_in_range ns) causes.Range (Ok (geometry_of ns))

numbers_text : (args : List (List ℕ)) (g : Geometry) → volume_numbers args ≡ Ok g
    → join_with_byte 32 (codes "volume" ∷ args) ≡ volume_text g
unfolding volume_numbers
numbers_text args g e =
    let numbers : Result (List ℕ) WorkloadNo = ok_or (numbers_of args) causes.Number in
    let counted = checked_ok (length args == 6 || length args == 7) causes.Count (numbers >>= geometry_of_numbers) g e in
    let read = bind_ok numbers geometry_of_numbers g counted.1 in
    let ns = read.0 in
    let some = ok_or_some (numbers_of args) causes.Number ns read.1 in
    let args_are = numbers_of-decimal args ns some in
    let count = six_or_seven (length ns) (ap (λ (n : ℕ). n == 6 || n == 7) (sym (length-numbers_of args ns some)) ∙ counted.0) in
    let ranged = checked_ok (are_in_range ns) causes.Range (Ok (geometry_of ns)) g read.2 in
    ap (λ (words : List (List ℕ)). join_with_byte 32 (codes "volume" ∷ words)) args_are
    ∙ joined_numbers (codes "volume") ns
    ∙ ap (with_numbers (codes "volume")) (sym (written ns count ranged.0))
    ∙ ap volume_text (same_Ok {E = WorkloadNo} (geometry_of ns) g ranged.1)

volume_words-text : (words : List (List ℕ)) (g : Geometry) → volume_words words ≡ Ok g → join_with_byte 32 words ≡ volume_text g
unfolding volume_words
volume_words-text [] g e = absurd (cc)
volume_words-text (first ∷ args) g e =
    let named = checked_ok (bytes_eq first (codes "volume")) causes.Volume (volume_numbers args) g e in
    ap (λ (word : List ℕ). join_with_byte 32 (word ∷ args)) ((bytes_eq-Decides first (codes "volume")).0 named.0) ∙ numbers_text args g named.1

-- the first line is that of its geometry
pub volume_line-text : (line : List ℕ) (g : Geometry) → volume_line line ≡ Ok g → line ≡ volume_text g
unfolding volume_line
volume_line-text line g e =
    sym (joined_words line) ∙ volume_words-text (words_of line) g (checked_ok (is_shaped line) causes.Shape (volume_words (words_of line)) g e).1

-- the lines of entries
entries_of-text : (g : Geometry) (at before : ℕ) (lines : List (List ℕ)) (entries : List Entry)
    → entries_of g at before lines ≡ Ok entries → lines ≡ map entry_text entries
unfolding entries_of
entries_of-text g at before [] entries e = ap (map entry_text) (same_Ok {E = Refusal} [] entries e)
entries_of-text g at before (line ∷ lines) entries e =
    let rest : Entry → Result (List Entry) Refusal = λ entry. entries_of g (at + 1) (before + commands_in entry) lines in
    let first = bind_ok (at_line at (entry_of g before line)) (λ entry. rest entry >>= λ more. Ok (entry ∷ more)) entries e in
    let entry = first.0 in
    let others = bind_ok (rest entry) (λ more. Ok (entry ∷ more)) entries first.2 in
    ap (λ (text : List ℕ). text ∷ lines) (entry_of-text g before line entry (at_line_ok at (entry_of g before line) entry first.1))
    ∙ ap (λ (texts : List (List ℕ)). entry_text entry ∷ texts) (entries_of-text g (at + 1) (before + commands_in entry) lines others.0 others.1)
    ∙ ap (map entry_text) (same_Ok {E = Refusal} (entry ∷ others.0) entries others.2)

-- the first of the lines is in this phase or a later one
StartsFrom : ℕ → List Line → Type 0
StartsFrom phase [] = Unit {0}
StartsFrom phase (line ∷ lines) = phase ≤ line.phase

starts_earlier : (phase : ℕ) (lines : List Line) → StartsFrom (phase + 1) lines → StartsFrom phase lines
unfolding StartsFrom
starts_earlier phase [] h = tt
starts_earlier phase (line ∷ lines) h = omega arith

starts_numbered : (at phase : ℕ) (entries : List Entry) → StartsFrom phase (numbered at phase entries)
unfolding StartsFrom numbered
starts_numbered at phase [] = tt
starts_numbered at phase (Barrier ∷ entries) = starts_earlier phase (numbered (at + 1) (phase + 1) entries) (starts_numbered (at + 1) (phase + 1) entries)
starts_numbered at phase (Order host command ∷ entries) = omega arith

-- a phase that ends before the first of the lines is one line
later_lines-barrier : (phase : ℕ) (lines : List Line) (phases : ℕ) → StartsFrom (phase + 1) lines → phase + 2 ≤ phases
    → later_lines phase lines phases ≡ codes "barrier" ∷ later_lines (phase + 1) lines phases
unfolding StartsFrom later_lines
later_lines-barrier phase [] phases h room =
    let more : phases - 1 - phase ≡ suc (phases - 1 - (phase + 1)) = omega arith in
    ap barrier_lines more
later_lines-barrier phase (line ∷ lines) phases h room =
    let more : line.phase - phase ≡ suc (line.phase - (phase + 1)) = omega arith in
    ap (λ (n : ℕ). barrier_lines n ++ command_text line ∷ later_lines line.phase lines phases) more

later_lines-numbered : (at phase : ℕ) (entries : List Entry)
    → later_lines phase (numbered at phase entries) (barriers entries + phase + 1) ≡ map entry_text entries
unfolding later_lines numbered barriers
later_lines-numbered at phase [] =
    let all : 0 + phase + 1 - 1 - phase ≡ 0 = omega arith in
    ap barrier_lines all
later_lines-numbered at phase (Barrier ∷ entries) =
    let more : barriers entries + 1 + phase + 1 ≡ barriers entries + (phase + 1) + 1 = omega arith in
    later_lines-barrier phase (numbered (at + 1) (phase + 1) entries) (barriers entries + 1 + phase + 1) (starts_numbered (at + 1) (phase + 1) entries) (omega arith)
    ∙ ap (λ (n : ℕ). codes "barrier" ∷ later_lines (phase + 1) (numbered (at + 1) (phase + 1) entries) n) more
    ∙ ap (λ (texts : List (List ℕ)). codes "barrier" ∷ texts) (later_lines-numbered (at + 1) (phase + 1) entries)
later_lines-numbered at phase (Order host command ∷ entries) =
    let same : phase - phase ≡ 0 = omega arith in
    let text = entry_text (Order host command) in
    ap (λ (n : ℕ). barrier_lines n ++ text ∷ later_lines phase (numbered (at + 1) phase entries) (barriers entries + phase + 1)) same
    ∙ ap (λ (texts : List (List ℕ)). text ∷ texts) (later_lines-numbered (at + 1) phase entries)

workload_with-text : (g : Geometry) (first : List ℕ) (lines : List (List ℕ)) (entries : List Entry) → first ≡ volume_text g
    → lines ≡ map entry_text entries → first ∷ lines ≡ text_lines (workload_with g entries)
unfolding text_lines
workload_with-text g first lines entries e f =
    let all : barriers entries + 0 + 1 ≡ barriers entries + 1 = omega arith in
    ap (λ (text : List ℕ). text ∷ lines) e
    ∙ ap (λ (texts : List (List ℕ)). volume_text g ∷ texts) (f ∙ sym (later_lines-numbered 2 0 entries) ∙ ap (later_lines 0 (numbered 2 0 entries)) all)

-- the lines of a text in the grammar are those of its workload
pub workload_of_lines-text : (lines : List (List ℕ)) (w : Workload) → workload_of_lines lines ≡ Ok w → lines ≡ text_lines w
unfolding workload_of_lines workload_behind
workload_of_lines-text [] w e = absurd (cc)
workload_of_lines-text (first ∷ lines) w e =
    let head = bind_ok (at_line 1 (volume_line first)) (λ g. workload_behind g lines) w e in
    let g = head.0 in
    let body = bind_ok (entries_of g 2 0 lines) (λ entries. Ok (workload_with g entries)) w head.2 in
    workload_with-text g first lines body.0 (volume_line-text first g (at_line_ok 1 (volume_line first) g head.1)) (entries_of-text g 2 0 lines body.0 body.1)
    ∙ ap text_lines (same_Ok {E = Refusal} (workload_with g body.0) w body.2)

pub workload_of-text : (text : List ℕ) (w : Workload) → workload_of text ≡ Ok w → lines_of text ≡ text_lines w
unfolding workload_of
workload_of-text text w e =
    (elim (nat_le (length text) most_bytes) as (λ b. cond b (workload_of_lines (lines_of text)) (Err (0, causes.Long)) ≡ Ok w → lines_of text ≡ text_lines w) [
      | true ↦ λ read. workload_of_lines-text (lines_of text) w read
      | false ↦ λ long. absurd (cc)
    ])
    e
