-- The text of each answer.
use Rattle.std.specs.Prelude.{ℕ, List, [], ◌∷◌, codes}
use Rattle.vol_base.specs.declared.answer.Answer.{Answer}
use Rattle.vol_base.specs.declared.answer.Answer.TheVariants.{Plain, Fine, Joined, Up, Down, Busy, Full, Cut, Logged, Scanned, Merged, Served, Collected, Free, Seen, Alive, Recovered, Refused, NoKeys}
use Rattle.vol_base.specs.declared.answer.CutBy.{CutBy}
use Rattle.vol_base.specs.declared.answer.CutBy.TheVariants.{Fenced, Fault, Died, Bad}
use Rattle.vol_base.specs.declared.answer.MergeCounts.{MergeCounts}
use Rattle.vol_base.specs.declared.answer.ServeCounts.{ServeCounts}
use Rattle.vol_base.specs.declared.plain.PlainReply.{PlainReply}
use Rattle.vol_base.specs.declared.plain.PlainReply.TheVariants.{Done, Holds, NoFile, Exists, Beyond, TooLong}
use Rattle.workload.specs.Printed.{with_numbers}
use Rattle.report.specs.Contents.{content_text}

-- the text of a plain reply
abbrev pub reply_text : PlainReply → List ℕ
reply_text Done = codes "ok"
reply_text (Holds block) = content_text block
reply_text NoFile = codes "nofile"
reply_text Exists = codes "exists"
reply_text (Beyond blocks) = with_numbers (codes "beyond") (blocks ∷ [])
reply_text TooLong = codes "toolong"

-- the text of what ended a command
abbrev pub cut_text : CutBy → List ℕ
cut_text Fenced = codes "cut fenced"
cut_text Fault = codes "cut fault"
cut_text Died = codes "cut died"
cut_text (Bad place) = with_numbers (codes "cut bad") (place ∷ [])

-- the counts of a merge, in the order of the text
abbrev pub merge_numbers : MergeCounts → List ℕ
merge_numbers c = c.stale ∷ c.unique ∷ c.linked ∷ c.already ∷ c.differs ∷ c.gone ∷ c.posted ∷ c.full ∷ c.skipped ∷ []

-- the counts of a serve, in the order of the text
abbrev pub serve_numbers : ServeCounts → List ℕ
serve_numbers c = c.linked ∷ c.already ∷ c.differs ∷ c.gone ∷ []

-- the text of an answer
abbrev pub answer_text : Answer → List ℕ
answer_text (Plain reply) = reply_text reply
answer_text Fine = codes "ok"
answer_text (Joined key) = with_numbers (codes "joined") (key.0 ∷ [])
answer_text Up = codes "up"
answer_text Down = codes "down"
answer_text (Busy key) = with_numbers (codes "busy") (key.0 ∷ [])
answer_text Full = codes "full"
answer_text (Cut by) = cut_text by
answer_text (Logged n) = with_numbers (codes "logged") (n ∷ [])
answer_text (Scanned n) = with_numbers (codes "scanned") (n ∷ [])
answer_text (Merged counts) = with_numbers (codes "merged") (merge_numbers counts)
answer_text (Served counts) = with_numbers (codes "served") (serve_numbers counts)
answer_text (Collected n) = with_numbers (codes "collected") (n ∷ [])
answer_text Free = codes "free"
answer_text (Seen n) = with_numbers (codes "seen") (n ∷ [])
answer_text (Alive n) = with_numbers (codes "alive") (n ∷ [])
answer_text Recovered = codes "recovered"
answer_text Refused = codes "refused"
answer_text NoKeys = codes "nokeys"
