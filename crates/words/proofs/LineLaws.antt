-- What the parser of command lines makes of a line.
use Rattle.std.proofs.Common.{◌≡◌, ◌∙◌, ◌≤◌, ◌==◌, ◌&&◌, ◌||◌, ℕ, Bool, cond, true, false, not, List, [], ◌∷◌, ◌++◌, Option, Some, None, refl, sym, ap, ap₂, codes, length, true≢false, arith, append-nil, append_assoc}
use Rattle.std.specs.List.{fold, list_all}
use Rattle.std.specs.Prelude.{IsSomeAnd, filter_map, is_some, nat_le, option_map, unwrap_or}
use Rattle.std.specs.Borrow.{Bor}
use Rattle.std.specs.Option.{option_map_or}
use Rattle.std.specs.Str.{bytes_eq}
use Rattle.std.proofs.lemmas.Bool.{le-leb, leb-true}
use Rattle.clap.specs.Lexer.{long_of, short_of, usize_max}
use Rattle.clap.specs.Simple.{App, HasMatchesOf, Shape, built, filled, is_simple, matches_of, with_index}
use Rattle.clap.specs.Takes.{bundle_passes, default_passes, flag_word_passes, is_valid, other_passes, settle_passes, step_passes, takes, turn_passes, value_passes, walk_passes, word_passes}
use Rattle.clap.specs.Walk.{Held, Rule, all_of, rows_of, Step, Text, Waiting, Walk, after_step, finished, idle, long_or_other, nothing_held, plain_word, positional, short_or_plain, subcommand_met, subcommand_or_other, trailing, value, walk, walk_from, walked, word_met}
use Rattle.clap.proofs.TakesLemmas.{leaf_takes}
use Rattle.clap.specs.Matches.{found_of, matched_of, raw_values}
use Rattle.clap.specs.declared.parser.matches.ArgMatches.{ArgMatches}
use Rattle.clap.specs.declared.parser.matches.Found.{Found}
use Rattle.clap.proofs.WalkLemmas.{both, raw_values-rows}
use Rattle.words.specs.Lines.{form, is_line, more_words, row, rows_of_words}
use Rattle.words.specs.Words.{host_of, is_plain}

pub some_is : {X : Type 0} (o : Option X) (x : X) → IsSomeAnd o (λ y. y ≡ x) → o ≡ Some x
some_is None x e = absurd e
some_is (Some y) x e = ap Some e

-- ---- a word that is no flag

plain_byte : (byte : ℕ) → not (byte == 45) ≡ true → (byte == 45) ≡ false
plain_byte byte = go (byte == 45)
  where
    go : (b : Bool) → not b ≡ true → b ≡ false
    go true e = sym e
    go false e = refl

not_dashes : (word : Text) → is_plain word ≡ true → bytes_eq word (45 ∷ 45 ∷ []) ≡ false
not_dashes [] e = refl
not_dashes (byte ∷ bytes) e = rw (plain_byte byte e) refl

not_long : (word : Text) → is_plain word ≡ true → long_of word ≡ None
not_long [] e = refl
not_long (byte ∷ bytes) e = rw (plain_byte byte e) refl

not_short : (word : Text) → is_plain word ≡ true → short_of word ≡ None
not_short [] e = refl
not_short (byte ∷ bytes) e = rw (plain_byte byte e) refl

-- where no option waits for a value and the command has no subcommands, it is left to a positional
module _ (s : Shape) (waiting : Waiting) (position : ℕ) (word : Text) (h : Held) (plain : is_plain word ≡ true)
    (alone : subcommand_met [] waiting word ≡ None) (left : plain_word s.rules waiting word h ≡ (h, value)) where
  met_plain : word_met s.rules [] false waiting position word h ≡ (h, value)
  met_plain =
      ap (λ (o : Option Text). subcommand_or_other s.rules o waiting position word h) alone
      ∙ (λ i. cond (not_dashes word plain i) (h, trailing position) (long_or_other s.rules waiting word (not_long word plain i) h))
      ∙ ap (λ (o : Option Text). short_or_plain s.rules waiting word o h) (not_short word plain) ∙ left

  word_passes_plain : word_passes s [] false waiting word h ≡ true
  word_passes_plain =
      ap (λ (o : Option Text). other_passes s o word h) alone
      ∙ (λ i. not_dashes word plain i || flag_word_passes s.rules s.args_override_self (not_long word plain i) word h)
      ∙ ap (λ (o : Option Text). option_map_or (λ flags. bundle_passes s.rules s.args_override_self flags h) o true) (not_short word plain)

  abbrev here : Walk
  here = record { held = h; waiting = waiting; position = position; is_trailing = false; stopped = None }

  pub walked_plain : walked s.rules [] here word ≡ after_step s.rules word here h value
  unfolding walked
  walked_plain = ap (λ (p : Held × Step). after_step s.rules word here p.0 p.1) met_plain

  pub turn_plain : turn_passes s [] here word ≡ step_passes s position h value
  turn_plain = ap₂ (λ (b : Bool) (p : Held × Step). b && step_passes s position p.0 p.1) word_passes_plain met_plain

-- ---- the walk over a line

abbrev top : Shape
top = (built form).top

abbrev held_volume : Text → Held
held_volume volume = record { rows = []; pending = Some (codes "volume", volume ∷ []); skip = 0 }

abbrev held_job : Text → Text → Held
held_job volume job = record { rows = row (codes "volume") (volume ∷ []) ∷ []; pending = Some (codes "job", job ∷ []); skip = 0 }

abbrev held_args : Text → Text → List Text → Held
held_args volume job args = record {
  rows = row (codes "volume") (volume ∷ []) ∷ row (codes "job") (job ∷ []) ∷ [];
  pending = Some (codes "args", args);
  skip = 0;
}

abbrev at : Held → Waiting → ℕ → Walk
at h waiting position = record { held = h; waiting = waiting; position = position; is_trailing = false; stopped = None }

abbrev behind_args : Text → Text → List Text → Walk
behind_args volume job args = at (held_args volume job args) positional 3

-- where the walk stands behind a line
abbrev behind : Text → Text → List Text → Walk
behind volume job [] = at (held_job volume job) idle 3
behind volume job (first ∷ args) = behind_args volume job (first ∷ args)

walked_volume : (volume : Text) → is_plain volume ≡ true → walked top.rules [] (walk_from nothing_held) volume ≡ at (held_volume volume) idle 2
walked_volume volume plain = walked_plain top idle 1 volume nothing_held plain refl refl

walked_job : (volume job : Text) → is_plain job ≡ true → walked top.rules [] (at (held_volume volume) idle 2) job ≡ at (held_job volume job) idle 3
walked_job volume job plain = walked_plain top idle 2 job (held_volume volume) plain refl refl

walked_first : (volume job arg : Text) → is_plain arg ≡ true → walked top.rules [] (at (held_job volume job) idle 3) arg ≡ behind_args volume job (arg ∷ [])
walked_first volume job arg plain = walked_plain top idle 3 arg (held_job volume job) plain refl refl

walked_next : (volume job : Text) (args : List Text) (arg : Text) → is_plain arg ≡ true
    → walked top.rules [] (behind_args volume job args) arg ≡ behind_args volume job (args ++ arg ∷ [])
walked_next volume job args arg plain = walked_plain top positional 3 arg (held_args volume job args) plain refl refl

walk_args : (volume job first : Text) (seen args : List Text) → list_all is_plain args ≡ true
    → fold (walked top.rules []) (behind_args volume job (first ∷ seen)) args ≡ behind_args volume job (first ∷ (seen ++ args))
walk_args volume job first seen [] plain = ap (λ (xs : List Text). behind_args volume job (first ∷ xs)) (sym (append-nil seen))
walk_args volume job first seen (arg ∷ args) plain =
    let parts = both (is_plain arg) _ plain in
    ap (λ (w : Walk). fold (walked top.rules []) w args) (walked_next volume job (first ∷ seen) arg parts.0)
    ∙ walk_args volume job first (seen ++ arg ∷ []) args parts.1
    ∙ ap (λ (xs : List Text). behind_args volume job (first ∷ xs)) (append_assoc seen (arg ∷ []) args)

walk_line : (volume job : Text) (args : List Text) → is_plain volume ≡ true → is_plain job ≡ true → list_all is_plain args ≡ true
    → walk top.rules [] nothing_held (volume ∷ job ∷ args) ≡ behind volume job args
walk_line volume job [] v j plain = ap (λ (w : Walk). walked top.rules [] w job) (walked_volume volume v) ∙ walked_job volume job j
walk_line volume job (first ∷ args) v j plain =
    let parts = both (is_plain first) _ plain in
    ap (λ (w : Walk). fold (walked top.rules []) w (job ∷ first ∷ args)) (walked_volume volume v)
    ∙ ap (λ (w : Walk). fold (walked top.rules []) w (first ∷ args)) (walked_job volume job j)
    ∙ ap (λ (w : Walk). fold (walked top.rules []) w args) (walked_first volume job first parts.0)
    ∙ walk_args volume job first [] args parts.1

finished_line : (volume job : Text) (args : List Text) → finished top.rules (behind volume job args).held ≡ rows_of_words (volume ∷ job ∷ args)
finished_line volume job [] = refl
finished_line volume job (first ∷ args) = refl

pub matches_of_line : (volume job : Text) (args : List Text) → is_plain volume ≡ true → is_plain job ≡ true → list_all is_plain args ≡ true
    → matches_of form (volume ∷ job ∷ args) ≡ rows_of_words (volume ∷ job ∷ args)
matches_of_line volume job args v j plain =
    ap (λ (w : Walk). finished top.rules w.held) (walk_line volume job args v j plain) ∙ finished_line volume job args

-- ---- the parse takes a line

passes_args : (volume job first : Text) (seen args : List Text) → list_all is_plain args ≡ true
    → walk_passes top [] (behind_args volume job (first ∷ seen)) args ≡ true
unfolding walk_passes
passes_args volume job first seen [] plain = refl
passes_args volume job first seen (arg ∷ args) plain =
    let parts = both (is_plain arg) _ plain in
    ap₂ (λ (b : Bool) (w : Walk). b && walk_passes top [] w args)
    (turn_plain top positional 3 arg (held_args volume job (first ∷ seen)) parts.0 refl refl) (walked_next volume job (first ∷ seen) arg parts.0)
    ∙ passes_args volume job first (seen ++ arg ∷ []) args parts.1

passes_behind : (volume job : Text) (args : List Text) → list_all is_plain args ≡ true → walk_passes top [] (at (held_job volume job) idle 3) args ≡ true
unfolding walk_passes
passes_behind volume job [] plain = refl
passes_behind volume job (first ∷ args) plain =
    let parts = both (is_plain first) _ plain in
    ap₂ (λ (b : Bool) (w : Walk). b && walk_passes top [] w args)
    (turn_plain top idle 3 first (held_job volume job) parts.0 refl refl) (walked_first volume job first parts.0)
    ∙ passes_args volume job first [] args parts.1

passes_line : (volume job : Text) (args : List Text) → is_plain volume ≡ true → is_plain job ≡ true → list_all is_plain args ≡ true
    → walk_passes top [] (walk_from nothing_held) (volume ∷ job ∷ args) ≡ true
unfolding walk_passes
passes_line volume job args v j plain =
    ap₂ (λ (b : Bool) (w : Walk). b && walk_passes top [] w (job ∷ args)) (turn_plain top idle 1 volume nothing_held v refl refl) (walked_volume volume v)
    ∙ ap₂ (λ (b : Bool) (w : Walk). b && walk_passes top [] w args) (turn_plain top idle 2 job (held_volume volume) j refl refl) (walked_job volume job j)
    ∙ passes_behind volume job args plain

abbrev last : Rule
last = with_index 3 (filled (more_words (codes "args")))

texts_pass : (xs : List Text) → list_all (value_passes last) xs ≡ true
texts_pass [] = refl
texts_pass (x ∷ xs) = texts_pass xs

abbrev end_passes : Walk → Bool
end_passes w = settle_passes top.rules false w.held && (list_all default_passes top.rules && is_valid top (finished top.rules w.held) false)

end_is_passed : (volume job : Text) (args : List Text) → length args ≤ usize_max → end_passes (behind volume job args) ≡ true
end_is_passed volume job [] few = refl
end_is_passed volume job (first ∷ args) few =
    let rest : Bool = list_all default_passes top.rules && is_valid top (finished top.rules (held_args volume job (first ∷ args))) false in
    let some : nat_le 0 (length (first ∷ args)) ≡ true = le-leb 0 (length (first ∷ args)) (omega arith) in
    let many : nat_le (length (first ∷ args)) usize_max ≡ true = le-leb (length (first ∷ args)) usize_max few in
    λ i. (some i && (many i && texts_pass (first ∷ args) i)) && rest

pub takes_line : (volume job : Text) (args : List Text) → is_plain volume ≡ true → is_plain job ≡ true → list_all is_plain args ≡ true
    → length args ≤ usize_max → takes form (volume ∷ job ∷ args) ≡ true
takes_line volume job args v j plain few =
    leaf_takes (built form) nothing_held (volume ∷ job ∷ args) refl
    (ap₂ (λ (b : Bool) (w : Walk). b && end_passes w) (passes_line volume job args v j plain) (walk_line volume job args v j plain)
    ∙ end_is_passed volume job args few)

-- ---- words that are a line

line_takes : (words : List Text) → is_line words ≡ true → takes form words ≡ true
line_takes [] e = absurd (true≢false (sym e))
line_takes (volume ∷ []) e = absurd (true≢false (sym e))
line_takes (volume ∷ job ∷ args) e =
    let a = both (is_plain volume) _ e in
    let b = both (is_plain job) _ a.1 in
    let c = both (list_all is_plain args) _ b.1 in
    takes_line volume job args a.0 b.0 c.0 (omega (arith, leb-true (length args) 65536 c.1))

line_matches : (words : List Text) → is_line words ≡ true → matches_of form words ≡ rows_of_words words
line_matches [] e = absurd (true≢false (sym e))
line_matches (volume ∷ []) e = absurd (true≢false (sym e))
line_matches (volume ∷ job ∷ args) e =
    let a = both (is_plain volume) _ e in
    let b = both (is_plain job) _ a.1 in
    matches_of_line volume job args a.0 b.0 (both (list_all is_plain args) _ b.1).0

-- what the parse of a command that is built so comes to
module _ (a : App) (words : List Text) (is : a ≡ form) (line : is_line words ≡ true) where
  pub matches_are : (m : ArgMatches) → HasMatchesOf a words m → rows_of (found_of m) ≡ rows_of_words words
  matches_are m has = (has (ap is_simple is)).0 ∙ ap (λ (b : App). matches_of b words) is ∙ line_matches words line

  pub is_taken : takes a words ≡ true
  is_taken = ap (λ (b : App). takes b words) is ∙ line_takes words line

-- ---- what is read of the matches

pub text_is : (o : Option (Bor Text)) (other : Bor Text) (text : Text) → option_map (λ s. s.now) o ≡ Some text → (unwrap_or o other).now ≡ text
text_is None other text e = absurd (true≢false (sym (ap (λ (p : Option Text). is_some p) e)))
text_is (Some s) other text e = ap (λ (p : Option Text). unwrap_or p text) e

pub hosts_are : (found : Found) (o : Option (List Text)) (hosts : List ℕ) → o ≡ option_map raw_values (matched_of found (codes "args"))
    → hosts ≡ filter_map host_of (unwrap_or o []) → hosts ≡ filter_map host_of (unwrap_or (all_of (codes "args") (rows_of found)) [])
hosts_are found o hosts given is = is ∙ ap (λ (p : Option (List Text)). filter_map host_of (unwrap_or p [])) (given ∙ raw_values-rows found (codes "args"))
