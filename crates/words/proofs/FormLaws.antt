-- Words of a form are a line of the parser.
use Rattle.std.proofs.Common.{◌≡◌, ◌∙◌, ◌≤◌, ◌==◌, ◌&&◌, ℕ, Bool, cond, true, false, not, List, [], ◌∷◌, Option, Some, None, refl, sym, subst, ap, arith, codes, length, true≢false}
use Rattle.std.specs.Prelude.{Err, IsErrAnd, Ok, Result, drop, filter_map, is_some, nat_le, option_map, unwrap_or}
use Rattle.std.specs.List.{list_all}
use Rattle.std.specs.Str.{bytes_eq}
use Rattle.std.proofs.lemmas.Bool.{eqb-true, leb-true, ne_eqb}
use Rattle.std.proofs.lemmas.Slice.Eq.{bytes_eq-Decides}
use Rattle.clap.proofs.WalkLemmas.{both}
use Rattle.clap.specs.Walk.{Row, all_of, first_of}
use Rattle.words.specs.Lines.{Asks, IsLineOf, is_line, rows_of_words, volume_of}
use Rattle.words.specs.Words.{HasRounds, generation_of, host_of, is_plain, is_schedule, job_named, job_of, rounds_of}
use Rattle.words.specs.declared.line.Line.{Line}
use Rattle.words.specs.declared.line.LineNo.{LineNo}
use Rattle.words.specs.declared.line.LineNo.TheVariants.{NoMemory}
use Rattle.words.specs.declared.forms.Job.{Job}
use Rattle.words.specs.declared.forms.Job.TheVariants.{Sim, Run, Check, Settle}

-- what stands under a test
under : {X : Type 0} (b : Bool) (x : Option X) → is_some (cond b x None) ≡ true → (b ≡ true) × (is_some x ≡ true)
under true x e = (refl, e)
under false x e = absurd (true≢false (sym e))

mapped : {X Y : Type 0} (f : X → Y) (o : Option X) → is_some (option_map f o) ≡ true → is_some o ≡ true
mapped f None e = e
mapped f (Some x) e = refl

-- the first of two jobs, or the other
one_of_two : {P : Type 0} (b : Bool) (job : Job) (other : Option Job) → (b ≡ true → P) → (is_some other ≡ true → P) → is_some (cond b (Some job) other) ≡ true → P
one_of_two true job other first second e = first refl
one_of_two false job other first second e = second e

-- a digit is no hyphen
digit : (byte least : ℕ) → 48 ≤ least → nat_le least byte ≡ true → not (byte == 45) ≡ true
digit byte least high e =
    let low = leb-true least byte e in
    ap not (ne_eqb byte 45 (λ is. omega (arith, high, low, is)))

host_plain : (word : List ℕ) → is_some (host_of word) ≡ true → is_plain word ≡ true
host_plain [] e = absurd (true≢false (sym e))
host_plain (one ∷ []) e = digit one 48 (omega arith) (both (nat_le 48 one) _ (under _ _ e).0).0
host_plain (one ∷ two ∷ []) e = ap (λ (byte : ℕ). not (byte == 45)) (eqb-true one 49 (under (one == 49) _ e).0)
host_plain (a ∷ b ∷ c ∷ rest) e = absurd (true≢false (sym e))

hosts_plain : (words : List (List ℕ)) → list_all (λ word. is_some (host_of word)) words ≡ true → list_all is_plain words ≡ true
hosts_plain [] e = refl
hosts_plain (word ∷ words) e =
    let parts = both (is_some (host_of word)) _ e in
    λ i. host_plain word parts.0 i && hosts_plain words parts.1 i

rounds_plain : (word : List ℕ) → is_some (rounds_of word) ≡ true → is_plain word ≡ true
rounds_plain [] e = absurd (true≢false (sym e))
rounds_plain (ones ∷ []) e = digit ones 49 (omega arith) (both (nat_le 49 ones) _ (under _ _ e).0).0
rounds_plain (tens ∷ ones ∷ []) e = digit tens 49 (omega arith) (both (nat_le 49 tens) _ (both _ _ (both _ _ (under _ _ e).0).0).0).0
rounds_plain (a ∷ b ∷ c ∷ []) e = ap (λ (byte : ℕ). not (byte == 45)) (eqb-true a 49 (under (a == 49) _ e).0)
rounds_plain (a ∷ b ∷ c ∷ d ∷ rest) e = absurd (true≢false (sym e))

-- the words behind the name of a job
abbrev AreArgs : List (List ℕ) → Type 0
AreArgs words = (list_all is_plain words && nat_le (length words) 65536) ≡ true

none_are : (words : List (List ℕ)) → (length words == 0) ≡ true → AreArgs words
none_are [] e = refl
none_are (word ∷ words) e = absurd (omega (arith, eqb-true (length (word ∷ words)) 0 e))

schedule_is : (words : List (List ℕ)) → is_schedule words ≡ true → AreArgs words
schedule_is words e =
    let parts = both (nat_le (length words) 65536) _ e in
    λ i. hosts_plain words parts.1 i && parts.0 i

generation_is : (words : List (List ℕ)) → is_some (generation_of words) ≡ true → AreArgs words
generation_is [] e = absurd (true≢false (sym e))
generation_is (word ∷ []) e = λ i. (rounds_plain word (mapped _ (rounds_of word) e) i && true) && true
generation_is (a ∷ b ∷ rest) e = absurd (true≢false (sym e))

-- the name of a job, and what stands behind it
abbrev IsNamed : List ℕ → List (List ℕ) → Type 0
IsNamed name rest = (is_plain name ≡ true) × AreArgs rest

named : (word : List ℕ) (rest : List (List ℕ)) → is_some (job_named word rest) ≡ true → IsNamed word rest
named word rest =
    one_of_two (bytes_eq word (codes "sim") && is_schedule rest) Sim _
    (λ e. by_name (codes "sim") refl (both (bytes_eq word (codes "sim")) _ e).0 (schedule_is rest (both (bytes_eq word (codes "sim")) _ e).1))
    (one_of_two _ Run _ (alone (codes "run") refl) (one_of_two _ Check _ (alone (codes "check") refl) (one_of_two _ Settle _ (alone (codes "settle") refl)
    (λ e. by_name (codes "gen") refl (under (bytes_eq word (codes "gen")) _ e).0 (generation_is rest (under (bytes_eq word (codes "gen")) _ e).1)))))
  where
    by_name : (name : List ℕ) → is_plain name ≡ true → bytes_eq word name ≡ true → AreArgs rest → IsNamed word rest
    by_name name plain same are = (ap is_plain ((bytes_eq-Decides word name).0 same) ∙ plain, are)

    alone : (name : List ℕ) → is_plain name ≡ true → (bytes_eq word name && length rest == 0) ≡ true → IsNamed word rest
    alone name plain e = by_name name plain (both (bytes_eq word name) _ e).0 (none_are rest (both (bytes_eq word name) _ e).1)

pub form_is_line : (words : List (List ℕ)) → is_some (job_of words) ≡ true → is_line words ≡ true
form_is_line [] e = absurd (true≢false (sym e))
form_is_line (volume ∷ []) e = absurd (true≢false (sym e))
form_is_line (volume ∷ name ∷ rest) e =
    let parts = under (is_plain volume) _ e in
    let is = named name rest parts.1 in
    λ i. parts.0 i && (is.0 i && is.1 i)

-- a refusal of the parse is want of memory, whatever carries it
pub refused_is : (words : List (List ℕ)) (answer : Result Line LineNo) (refusal : LineNo) → is_some (job_of words) ≡ true
    → (is_line words ≡ true → refusal ≡ NoMemory) → IsErrAnd answer (λ why. why ≡ refusal) → Asks words answer
refused_is words (Ok line) refusal some memory is = absurd is
refused_is words (Err why) refusal some memory is = subst (λ (n : LineNo). Asks words (Err n)) (sym (is ∙ memory (form_is_line words some))) some

-- the hosts are those of the words
args_are : (words : List (List ℕ)) → unwrap_or (all_of (codes "args") (rows_of_words words)) [] ≡ drop 2 words
args_are [] = refl
args_are (volume ∷ []) = refl
args_are (volume ∷ job ∷ []) = refl
args_are (volume ∷ job ∷ arg ∷ args) = refl

volume_is : (words : List (List ℕ)) → is_line words ≡ true → first_of (codes "volume") (rows_of_words words) ≡ Some (volume_of words)
volume_is [] e = absurd (true≢false (sym e))
volume_is (volume ∷ []) e = absurd (true≢false (sym e))
volume_is (volume ∷ job ∷ args) e = refl

-- what is read of the matches is what the words ask for
pub line_is : (words : List (List ℕ)) (line : Line) (rows : List Row) → Some line.job ≡ job_of words → HasRounds line.job → (is_line words ≡ true → rows ≡ rows_of_words words)
    → ((volume : List ℕ) → first_of (codes "volume") rows ≡ Some volume → line.volume.now ≡ volume)
    → line.hosts.items ≡ filter_map host_of (unwrap_or (all_of (codes "args") rows) []) → IsLineOf words line
line_is words line rows job rounds given volume hosts =
    let is = form_is_line words (ap (λ (o : Option Job). is_some o) (sym job)) in
    let same = given is in
    record {
      job = sym job;
      rounds = rounds;
      volume = volume (volume_of words) (ap (first_of (codes "volume")) same ∙ volume_is words is);
      hosts = hosts ∙ ap (λ (r : List Row). filter_map host_of (unwrap_or (all_of (codes "args") r) [])) same ∙ ap (filter_map host_of) (args_are words);
    }
