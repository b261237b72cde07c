-- Histories of plain calls: which are legal, and what they leave.
use Rattle.std.specs.Prelude.{◌≡◌, ℕ, List, [], ◌∷◌, slice_index_or, Option, None, IsSomeAnd}
use Rattle.std.specs.Option.{option_map_or}
use Rattle.std.specs.List.{fold}
use Rattle.vol_base.specs.declared.plain.PlainCall.{PlainCall}
use Rattle.plain_files.specs.declared.history.Placed.{Placed}
use Rattle.plain_files.specs.Plain.{Plain}
use Rattle.plain_files.specs.Calls.{reply_of, after}

-- the plain call on a line of the workload, or nothing where the line is no file command
abbrev pub call_at : List (Option PlainCall) → ℕ → Option PlainCall
call_at calls line = slice_index_or calls line None

-- the entry's line is a file command, and its reply is the plain reply
abbrev pub IsPlaced : List (Option PlainCall) → Plain → Placed → Type 0
IsPlaced calls p entry = IsSomeAnd (call_at calls entry.line) (λ call. entry.reply ≡ reply_of p call)

-- the plain files after an entry
abbrev pub after_entry : List (Option PlainCall) → Plain → Placed → Plain
after_entry calls p entry = option_map_or (after p) (call_at calls entry.line) p

-- each entry is the plain reply at its place, the calls being made in the order of the history
abbrev pub IsLegal : List (Option PlainCall) → Plain → List Placed → Type 0
IsLegal calls p [] = Unit {0}
IsLegal calls p (entry ∷ rest) = IsPlaced calls p entry × IsLegal calls (after_entry calls p entry) rest

-- the plain files after a history
abbrev pub state_after : List (Option PlainCall) → Plain → List Placed → Plain
state_after calls p history = fold (after_entry calls) p history
