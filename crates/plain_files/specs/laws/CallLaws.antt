-- What every plain call keeps.
use Rattle.std.proofs.Common.{inl, inr, IfSome, ◌≤◌, length-append, arith, ◌≡◌, ◌≢◌, ◌<◌, ℕ, Bool, true, false, nat_lt, cond, List, length, Option, Some, None, refl}
use Rattle.std.proofs.lemmas.List.Elements.{All-set}
use Rattle.std.proofs.lemmas.Bool.Decides.{nat_tests}
use Rattle.std.proofs.lemmas.Bool.{cases_lt}
use Rattle.std.proofs.lemmas.List.{get_or_past, length-take, length-replicate, length-set, set-get_or, get_or-set_other, get_or-set_same}
use Rattle.vol_base.specs.declared.block.Block.{Block}
use Rattle.vol_base.specs.declared.plain.PlainCall.{PlainCall}
use Rattle.vol_base.specs.declared.plain.PlainCall.TheVariants.{Create, Size, Write, Read, Punch, Remove}
use Rattle.vol_base.specs.declared.plain.PlainReply.TheVariants.{Done}
use Rattle.plain_files.specs.Plain.{IsWithinLimit, Plain, file_of}
use Rattle.plain_files.specs.Calls.{sized, file_no, Outcome, outcome, reply_of, after}

-- a call keeps how many file numbers there are
pub length-after : (p : Plain) (call : PlainCall) → length (after p call).files ≡ length p.files
unfolding after
length-after p call = length-set p.files (file_no call) _

-- a call keeps the greatest length
pub limit-after : (p : Plain) (call : PlainCall) → (after p call).limit ≡ p.limit
unfolding after
limit-after p call = refl

pub ruleset kept_by_calls = (length-after, limit-after)

-- a call leaves every other file
pub file_of-after_other : (p : Plain) (call : PlainCall) (file : ℕ) → file ≢ file_no call → file_of (after p call) file ≡ file_of p file
unfolding after
file_of-after_other p call file other = get_or-set_other p.files (file_no call) file _ None other

-- what a call makes of its file
pub file_of-after_same : (p : Plain) (call : PlainCall) → file_no call < length p.files
    → file_of (after p call) (file_no call) ≡ (outcome p.limit call (file_of p (file_no call))).1
unfolding after
file_of-after_same p call there = get_or-set_same p.files (file_no call) _ None there

-- what holds of two outcomes holds of the one that a test picks
picked : (t : Bool) (a b : Outcome) (P : Outcome → Type 0) → P a → P b → P (cond t a b)
picked true a b P of_a of_b = of_a
picked false a b P of_a of_b = of_b

-- an outcome that is not `Done` leaves the file
abbrev Keeps : Option (List Block) → Outcome → Type 0
Keeps file o = (o.0 ≡ Done → ⊥) → o.1 ≡ file

kept : (limit : ℕ) (call : PlainCall) (file : Option (List Block)) → Keeps file (outcome limit call file)
kept limit (Create file) None = λ refused. absurd (refused refl)
kept limit _ None = λ refused. refl
kept limit (Create file) (Some blocks) = λ refused. refl
kept limit (Size file n) (Some blocks) = picked (nat_lt limit n) _ _ (Keeps (Some blocks)) (λ refused. refl) (λ refused. absurd (refused refl))
kept limit (Write file i block) (Some blocks) = picked (nat_lt i (length blocks)) _ _ (Keeps (Some blocks)) (λ refused. absurd (refused refl)) (λ refused. refl)
kept limit (Read file i) (Some blocks) = picked (nat_lt i (length blocks)) _ _ (Keeps (Some blocks)) (λ refused. refl) (λ refused. refl)
kept limit (Punch file i) (Some blocks) = picked (nat_lt i (length blocks)) _ _ (Keeps (Some blocks)) (λ refused. absurd (refused refl)) (λ refused. refl)
kept limit (Remove file) (Some blocks) = λ refused. absurd (refused refl)

-- a call whose reply is not `Done` leaves the plain files
pub after-refused : (p : Plain) (call : PlainCall) → (reply_of p call ≡ Done → ⊥) → after p call ≡ p
unfolding after reply_of
after-refused p call h = rw (kept p.limit call (file_of p (file_no call)) h, set-get_or) refl

-- a file that is cut or grown has the new length
pub length-sized : (n : ℕ) (blocks : List Block) → length (sized n blocks) ≡ n
length-sized n blocks = simp (length-append, length-take, length-replicate) (omega arith)

-- an outcome leaves the file within the greatest length
abbrev Short : ℕ → Option (List Block) → Type 0
Short limit file = IfSome file (λ blocks. length blocks ≤ limit)

short : (limit : ℕ) (call : PlainCall) (file : Option (List Block)) → Short limit file → Short limit (outcome limit call file).1
short limit (Create file) None h = omega arith
short limit _ None h = tt
short limit (Create file) (Some blocks) h = h
short limit (Size file n) (Some blocks) h = grind (arith, nat_tests, length-sized)
short limit (Write file i block) (Some blocks) h = picked (nat_lt i (length blocks)) _ _ (λ o. Short limit o.1) (rw length-set h) h
short limit (Read file i) (Some blocks) h = picked (nat_lt i (length blocks)) _ _ (λ o. Short limit o.1) h h
short limit (Punch file i) (Some blocks) h = picked (nat_lt i (length blocks)) _ _ (λ o. Short limit o.1) (rw length-set h) h
short limit (Remove file) (Some blocks) h = tt

-- a file is within the greatest length where all are
pub short_file : (p : Plain) (file : ℕ) → IsWithinLimit p → IfSome (file_of p file) (λ blocks. length blocks ≤ p.limit)
short_file p file within =
    elim (cases_lt file (length p.files)) [
      | inl there ↦ within file None there
      | inr past ↦ rw (get_or_past p.files file None past) tt
    ]

-- no call takes a file past the greatest length
pub IsWithinLimit-after : (p : Plain) (call : PlainCall) → IsWithinLimit p → IsWithinLimit (after p call)
unfolding after
IsWithinLimit-after p call within =
    All-set (Short p.limit) p.files (file_no call) _ (short p.limit call (file_of p (file_no call)) (short_file p (file_no call) within)) within
