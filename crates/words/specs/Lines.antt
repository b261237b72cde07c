-- The command line, as the parser of command lines reads it.
use Rattle.std.specs.Prelude.{◌≡◌, ◌&&◌, ◌∷◌, [], ℕ, Bool, Err, List, None, Ok, Result, Some, codes, false, is_some, length, nat_le, true}
use Rattle.std.specs.List.{list_all}
use Rattle.clap.specs.Lexer.{usize_max}
use Rattle.clap.specs.Simple.{App, new_app, new_rule, on_top, with_rule}
use Rattle.clap.specs.Walk.{Row, Rule}
use Rattle.clap.specs.declared.builder.value_parser.Reading.TheVariants.{AsWritten}
use Rattle.clap.specs.declared.parser.matches.ValueSource.TheVariants.{CommandLine}
use Rattle.words.specs.Words.{HasRounds, hosts_of, is_plain, job_of}
use Rattle.words.specs.declared.line.Line.{Line}
use Rattle.words.specs.declared.line.LineNo.{LineNo}
use Rattle.words.specs.declared.line.LineNo.TheVariants as refusals

-- ---- the parser's command

-- one word that has to be there
abbrev pub one_word : List ℕ → Rule
one_word name = record (new_rule name) { required = true }

-- any number of words
abbrev pub more_words : List ℕ → Rule
more_words name = record (new_rule name) { range = Some (record { start_inclusive = 0; end_inclusive = usize_max }) }

-- the program's name does not stand before the words, and no flag asks for help
abbrev pub bare : App → App
bare = on_top (λ s. record s { no_binary_name = true; disable_help_flag = true })

-- a volume, the name of a job, and any number of words
abbrev pub form : App
form =
    let named = with_rule (bare (new_app (codes "dede"))) (one_word (codes "volume")) in
    with_rule (with_rule named (one_word (codes "job"))) (more_words (codes "args"))

-- ---- what it gives

-- words given to this name
abbrev pub row : List ℕ → List (List ℕ) → Row
row name words = record { id = name; values = words; count = None; source = Some CommandLine; reading = AsWritten }

-- no words give no row
abbrev pub row_of_args : List (List ℕ) → List Row
row_of_args [] = []
row_of_args (word ∷ words) = row (codes "args") (word ∷ words) ∷ []

-- a volume, the name of a job, and at most 65,536 words behind it, none of which is empty or begins with `-`
abbrev pub is_line : List (List ℕ) → Bool
is_line [] = false
is_line (volume ∷ []) = false
is_line (volume ∷ job ∷ args) = is_plain volume && (is_plain job && (list_all is_plain args && nat_le (length args) 65536))

-- each word in its place
abbrev pub rows_of_words : List (List ℕ) → List Row
rows_of_words [] = []
rows_of_words (volume ∷ []) = []
rows_of_words (volume ∷ job ∷ args) = row (codes "volume") (volume ∷ []) ∷ row (codes "job") (job ∷ []) ∷ row_of_args args

-- ---- a line

abbrev pub volume_of : List (List ℕ) → List ℕ
volume_of [] = []
volume_of (volume ∷ rest) = volume

-- the line has the job, the volume and the hosts of the words; the rounds of a generation are in range
pub record IsLineOf (words : List (List ℕ)) (line : Line) : Type 0 where
  pub job : job_of words ≡ Some line.job
  pub rounds : HasRounds line.job
  pub volume : line.volume.now ≡ volume_of words
  pub hosts : line.hosts.items ≡ hosts_of words

-- words that are of no form are refused as such, and any others for want of memory alone
abbrev pub Asks : List (List ℕ) → Result Line LineNo → Type 0
Asks words (Ok line) = IsLineOf words line
Asks words (Err refusals.Usage) = job_of words ≡ None
Asks words (Err refusals.NoMemory) = is_some (job_of words) ≡ true
