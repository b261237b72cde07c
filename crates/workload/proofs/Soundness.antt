-- A text in the grammar has a workload in range.
use Rattle.std.proofs.Common.{◌≡◌, ◌<◌, ◌≤◌, ◌+◌, ◌^◌, ◌&&◌, ◌||◌, ◌==◌, ℕ, true, false, cond, List, [], ◌∷◌, Some, Result, Ok, Err, length, slice_index, sym, subst, ◌∙◌, arith}
use Rattle.std.specs.Prelude.{All, codes, nat_le, nat_lt, not}
use Rattle.std.specs.Option.{ok_or}
use Rattle.std.specs.Str.{bytes_eq}
use Rattle.std.specs.Str.Parse.{digits_value}
use Rattle.std.proofs.lemmas.Bool.{and_parts, eqb-true, ltb-true}
use Rattle.std.proofs.lemmas.List.Elements.{All-cons, All-nil}
use Rattle.std.proofs.lemmas.Option.{cond_some, option_and_then_some, same_Some}
use Rattle.vol_base.specs.declared.command.Command.{Command}
use Rattle.vol_layout.specs.declared.geometry.Geometry.{Geometry}
use Rattle.vol_layout.specs.Ranges.{IsGeometry, is_geometry}
use Rattle.vol_layout.specs.laws.GeometryLaws.{is_geometry-IsGeometry}
use Rattle.workload.specs.declared.cause.WorkloadNo.{WorkloadNo}
use Rattle.workload.specs.declared.cause.WorkloadNo.TheVariants as causes
use Rattle.workload.specs.declared.entry.Entry.{Entry}
use Rattle.workload.specs.declared.entry.Entry.TheVariants.{Barrier, Order}
use Rattle.workload.specs.declared.line.Line.{Line}
use Rattle.workload.specs.declared.line.Workload.{Workload}
use Rattle.workload.specs.declared.verb.Verb.{Verb}
use Rattle.workload.specs.Checks.{◌>>=◌, checked}
use Rattle.workload.specs.Entries.{barrier_of, entry_of, entry_of_words, most_commands, order, order_of_arguments, order_of_words}
use Rattle.workload.specs.Grammar.{Refusal, at_line, barriers, commands_in, entries_of, most_bytes, numbered, workload_behind, workload_of, workload_of_lines, workload_with}
use Rattle.workload.specs.Numerals.{number_of, numbers_of}
use Rattle.workload.specs.Ranges.{is_in_range, is_own}
use Rattle.workload.specs.Texts.{is_shaped, lines_of, words_of}
use Rattle.workload.specs.Verbs.{arguments, arity, command_of, verb_of}
use Rattle.workload.specs.VolumeLine.{are_in_range, geometry_of, volume_line, volume_numbers, volume_words}
use Rattle.workload.specs.Workloads.{IsAllowed, IsNumbered, IsWorkload}
use Rattle.workload.proofs.CheckLaws.{at_line_ok, bind_ok, checked_ok, map_some, ok_or_some, same_Ok}
use Rattle.workload.proofs.Spelling.{arguments-command_of, length-numbers_of}

-- numbers in their ranges are those of a geometry
IsGeometry-geometry_of : (ns : List ℕ) → are_in_range ns ≡ true → IsGeometry (geometry_of ns)
IsGeometry-geometry_of ns e =
    (is_geometry-IsGeometry (geometry_of ns)).0 (and_parts (is_geometry (geometry_of ns)) (cond (length ns == 7) (nat_le 2 (slice_index ns 6)) true) e).0

volume_numbers-range : (args : List (List ℕ)) (g : Geometry) → volume_numbers args ≡ Ok g → IsGeometry g
unfolding volume_numbers
volume_numbers-range args g e =
    let numbers : Result (List ℕ) WorkloadNo = ok_or (numbers_of args) causes.Number in
    let ranged : List ℕ → Result Geometry WorkloadNo = λ ns. checked (are_in_range ns) causes.Range (Ok (geometry_of ns)) in
    let counted = checked_ok (length args == 6 || length args == 7) causes.Count (numbers >>= ranged) g e in
    let read = bind_ok numbers ranged g counted.1 in
    let fits = checked_ok (are_in_range read.0) causes.Range (Ok (geometry_of read.0)) g read.2 in
    subst IsGeometry (same_Ok {E = WorkloadNo} (geometry_of read.0) g fits.1) (IsGeometry-geometry_of read.0 fits.0)

volume_words-range : (words : List (List ℕ)) (g : Geometry) → volume_words words ≡ Ok g → IsGeometry g
unfolding volume_words
volume_words-range [] g e = absurd (cc)
volume_words-range (first ∷ args) g e = volume_numbers-range args g (checked_ok (bytes_eq first (codes "volume")) causes.Volume (volume_numbers args) g e).1

volume_line-range : (line : List ℕ) (g : Geometry) → volume_line line ≡ Ok g → IsGeometry g
unfolding volume_line
volume_line-range line g e = volume_words-range (words_of line) g (checked_ok (is_shaped line) causes.Shape (volume_words (words_of line)) g e).1

-- numbers are below 2 ^ 64
number_of-lt : (word : List ℕ) (n : ℕ) → number_of word ≡ Some n → n < 2 ^ 64
unfolding number_of
number_of-lt word n e =
    let parts = cond_some _ _ _ e in
    let fits : digits_value 10 word < 2 ^ 64 = ltb-true _ _ (and_parts _ _ parts.0).1 in
    omega (arith, parts.1)

numbers_of-lt : (words : List (List ℕ)) (ns : List ℕ) → numbers_of words ≡ Some ns → All (λ n. n < 2 ^ 64) ns
unfolding numbers_of
numbers_of-lt [] ns e = subst (All (λ n. n < 2 ^ 64)) (same_Some [] ns e) (All-nil (λ n. n < 2 ^ 64))
numbers_of-lt (word ∷ words) ns e =
    option_and_then_some _ (number_of word) ns e
    (λ n first rest.
    let more = map_some _ (numbers_of words) ns rest in
    subst (All (λ m. m < 2 ^ 64)) more.2 (All-cons (λ m. m < 2 ^ 64) n more.0 (number_of-lt word n first) (numbers_of-lt words more.0 more.1)))

-- what an entry must be behind `before` commands
IsAllowedEntry : Geometry → ℕ → Entry → Type 0
IsAllowedEntry g before Barrier = Unit {0}
IsAllowedEntry g before (Order host command) = ((at phase : ℕ) → IsAllowed g (record { at = at; phase = phase; host = host; command = command })) × (before < most_commands)

allowed : (g : Geometry) (before host : ℕ) (command : Command) → host < g.hosts → is_in_range g command ≡ true
    → not (is_own host command) ≡ true
    → All (λ n. n < 2 ^ 64) (arguments command) → before < most_commands → IsAllowedEntry g before (Order host command)
unfolding IsAllowedEntry
allowed g before host command h r f wide few = (λ at phase. record { host = h; range = r; foreign = f; wide = wide }, few)

order-allowed : (g : Geometry) (before host : ℕ) (command : Command) (entry : Entry) → All (λ n. n < 2 ^ 64) (arguments command)
    → order g before host command ≡ Ok entry → IsAllowedEntry g before entry
unfolding order
order-allowed g before host command entry wide e =
    let counted : Result Entry WorkloadNo = checked (nat_lt before most_commands) causes.Many (Ok (Order host command)) in
    let foreign : Result Entry WorkloadNo = checked (not (is_own host command)) causes.Own counted in
    let ranged = checked_ok (nat_lt host g.hosts && is_in_range g command) causes.Range foreign entry e in
    let owned = checked_ok (not (is_own host command)) causes.Own counted entry ranged.1 in
    let few = checked_ok (nat_lt before most_commands) causes.Many (Ok (Order host command)) entry owned.1 in
    let inside = and_parts (nat_lt host g.hosts) (is_in_range g command) ranged.0 in
    subst (IsAllowedEntry g before) (same_Ok {E = WorkloadNo} (Order host command) entry few.1)
    (allowed g before host command (ltb-true _ _ inside.0) inside.1 owned.0 wide (ltb-true _ _ few.0))

arguments-allowed : (g : Geometry) (before host : ℕ) (verb : Verb) (args : List (List ℕ)) (entry : Entry)
    → order_of_arguments g before host verb args ≡ Ok entry → IsAllowedEntry g before entry
unfolding order_of_arguments
arguments-allowed g before host verb args entry e =
    let numbers : Result (List ℕ) WorkloadNo = ok_or (numbers_of args) causes.Number in
    let made : List ℕ → Result Entry WorkloadNo = λ ns. order g before host (command_of verb (slice_index ns 0) (slice_index ns 1) (slice_index ns 2)) in
    let counted = checked_ok (length args == arity verb) causes.Count (numbers >>= made) entry e in
    let read = bind_ok numbers made entry counted.1 in
    let ns = read.0 in
    let some = ok_or_some (numbers_of args) causes.Number ns read.1 in
    let long : length ns ≡ arity verb = sym (length-numbers_of args ns some) ∙ eqb-true _ _ counted.0 in
    order-allowed g before host (command_of verb (slice_index ns 0) (slice_index ns 1) (slice_index ns 2)) entry
    (subst (All (λ n. n < 2 ^ 64)) (sym (arguments-command_of verb ns long)) (numbers_of-lt args ns some))
    read.2

order_of_words-allowed : (g : Geometry) (before host : ℕ) (rest : List (List ℕ)) (entry : Entry)
    → order_of_words g before host rest ≡ Ok entry → IsAllowedEntry g before entry
unfolding order_of_words
order_of_words-allowed g before host [] entry e = absurd (cc)
order_of_words-allowed g before host (name ∷ args) entry e =
    let read = bind_ok (ok_or (verb_of name) causes.Word) (λ verb. order_of_arguments g before host verb args) entry e in
    arguments-allowed g before host read.0 args entry read.2

barrier-allowed : (g : Geometry) (before : ℕ) (rest : List (List ℕ)) (entry : Entry) → barrier_of rest ≡ Ok entry
    → IsAllowedEntry g before entry
unfolding IsAllowedEntry
barrier-allowed g before [] entry e = subst (IsAllowedEntry g before) (same_Ok {E = WorkloadNo} Barrier entry e) tt
barrier-allowed g before (word ∷ words) entry e = absurd (cc)

words-allowed : (g : Geometry) (before : ℕ) (words : List (List ℕ)) (entry : Entry) → entry_of_words g before words ≡ Ok entry
    → IsAllowedEntry g before entry
unfolding entry_of_words
words-allowed g before [] entry e = absurd (cc)
words-allowed g before (first ∷ rest) entry e =
    let said : Result Entry WorkloadNo = ok_or (number_of first) causes.Number >>= λ host. order_of_words g before host rest in
    (elim (bytes_eq first (codes "barrier")) as (λ b. cond b (barrier_of rest) said ≡ Ok entry → IsAllowedEntry g before entry) [
      | true ↦ λ e. barrier-allowed g before rest entry e
      | false ↦ λ e.
          let read = bind_ok (ok_or (number_of first) causes.Number) (λ host. order_of_words g before host rest) entry e in
          order_of_words-allowed g before read.0 rest entry read.2
    ])
    e

entry_of-allowed : (g : Geometry) (before : ℕ) (line : List ℕ) (entry : Entry) → entry_of g before line ≡ Ok entry
    → IsAllowedEntry g before entry
unfolding entry_of
entry_of-allowed g before line entry e = words-allowed g before (words_of line) entry (checked_ok (is_shaped line) causes.Shape (entry_of_words g before (words_of line)) entry e).1

-- each entry is allowed behind the commands before it
AreAllowed : Geometry → ℕ → List Entry → Type 0
AreAllowed g before [] = Unit {0}
AreAllowed g before (entry ∷ entries) = IsAllowedEntry g before entry × AreAllowed g (before + commands_in entry) entries

entries_of-allowed : (g : Geometry) (at before : ℕ) (lines : List (List ℕ)) (entries : List Entry)
    → entries_of g at before lines ≡ Ok entries → AreAllowed g before entries
unfolding entries_of AreAllowed
entries_of-allowed g at before [] entries e = subst (AreAllowed g before) (same_Ok {E = Refusal} [] entries e) tt
entries_of-allowed g at before (line ∷ lines) entries e =
    let rest : Entry → Result (List Entry) Refusal = λ entry. entries_of g (at + 1) (before + commands_in entry) lines in
    let first = bind_ok (at_line at (entry_of g before line)) (λ entry. rest entry >>= λ more. Ok (entry ∷ more)) entries e in
    let entry = first.0 in
    let others = bind_ok (rest entry) (λ more. Ok (entry ∷ more)) entries first.2 in
    subst (AreAllowed g before) (same_Ok {E = Refusal} (entry ∷ others.0) entries others.2)
    (entry_of-allowed g before line entry (at_line_ok at (entry_of g before line) entry first.1), entries_of-allowed g (at + 1) (before + commands_in entry) lines others.0 others.1)

numbered-allowed : (g : Geometry) (at phase before : ℕ) (entries : List Entry) → AreAllowed g before entries
    → All (IsAllowed g) (numbered at phase entries)
unfolding numbered AreAllowed IsAllowedEntry
numbered-allowed g at phase before [] h = All-nil (IsAllowed g)
numbered-allowed g at phase before (Barrier ∷ entries) h = numbered-allowed g (at + 1) (phase + 1) (before + 0) entries h.1
numbered-allowed g at phase before (Order host command ∷ entries) h =
    All-cons (IsAllowed g) _ _ (h.0.0 at phase) (numbered-allowed g (at + 1) phase (before + 1) entries h.1)

numbered-few : (g : Geometry) (at phase before : ℕ) (entries : List Entry) → before ≤ most_commands → AreAllowed g before entries
    → before + length (numbered at phase entries) ≤ most_commands
unfolding numbered AreAllowed IsAllowedEntry
numbered-few g at phase before [] low h = omega arith
numbered-few g at phase before (Barrier ∷ entries) low h =
    let more = numbered-few g (at + 1) (phase + 1) (before + 0) entries (omega arith) h.1 in
    omega arith
numbered-few g at phase before (Order host command ∷ entries) low h =
    let here = h.0.1 in
    let more = numbered-few g (at + 1) phase (before + 1) entries (omega arith) h.1 in
    omega arith

-- a line that ends a phase
numbered_barrier : (at phase : ℕ) (lines : List Line) (phases : ℕ) → IsNumbered (at + 1) (phase + 1) lines phases
    → IsNumbered at phase lines phases
numbered_barrier at phase [] phases h = omega arith
numbered_barrier at phase (line ∷ lines) phases h =
    let ends = h.0 in
    let here = h.1 in
    (omega arith, omega arith, h.2)

IsNumbered-numbered : (at phase : ℕ) (entries : List Entry) → IsNumbered at phase (numbered at phase entries) (barriers entries + phase + 1)
unfolding numbered barriers
IsNumbered-numbered at phase [] = omega arith
IsNumbered-numbered at phase (Barrier ∷ entries) =
    let more : barriers entries + (phase + 1) + 1 ≡ barriers entries + 1 + phase + 1 = omega arith in
    numbered_barrier at phase (numbered (at + 1) (phase + 1) entries) (barriers entries + 1 + phase + 1)
    (subst (IsNumbered (at + 1) (phase + 1) (numbered (at + 1) (phase + 1) entries)) more (IsNumbered-numbered (at + 1) (phase + 1) entries))
IsNumbered-numbered at phase (Order host command ∷ entries) = (omega arith, omega arith, IsNumbered-numbered (at + 1) phase entries)

IsWorkload-with : (g : Geometry) (entries : List Entry) → IsGeometry g → AreAllowed g 0 entries → IsWorkload (workload_with g entries)
IsWorkload-with g entries inside h =
    let all : barriers entries + 0 + 1 ≡ barriers entries + 1 = omega arith in
    record {
      geometry = inside;
      lines = numbered-allowed g 2 0 0 entries h;
      numbered = subst (IsNumbered 2 0 (numbered 2 0 entries)) all (IsNumbered-numbered 2 0 entries);
      few = omega (arith, numbered-few g 2 0 0 entries (omega arith) h);
    }

lines-sound : (lines : List (List ℕ)) (w : Workload) → workload_of_lines lines ≡ Ok w → IsWorkload w
unfolding workload_of_lines workload_behind
lines-sound [] w e = absurd (cc)
lines-sound (first ∷ lines) w e =
    let head = bind_ok (at_line 1 (volume_line first)) (λ g. workload_behind g lines) w e in
    let g = head.0 in
    let body = bind_ok (entries_of g 2 0 lines) (λ entries. Ok (workload_with g entries)) w head.2 in
    subst IsWorkload (same_Ok {E = Refusal} (workload_with g body.0) w body.2)
    (IsWorkload-with g body.0 (volume_line-range first g (at_line_ok 1 (volume_line first) g head.1)) (entries_of-allowed g 2 0 lines body.0 body.1))

-- what a text says is a workload in range
pub workload_of-sound : (text : List ℕ) (w : Workload) → workload_of text ≡ Ok w → IsWorkload w
unfolding workload_of
workload_of-sound text w e =
    (elim (nat_le (length text) most_bytes) as (λ b. cond b (workload_of_lines (lines_of text)) (Err (0, causes.Long)) ≡ Ok w → IsWorkload w) [
      | true ↦ λ read. lines-sound (lines_of text) w read
      | false ↦ λ long. absurd (cc)
    ])
    e
