-- What a decision asks for, where the host does not hold the entry's file.
use Rattle.std.proofs.Common.{◌≡◌, ◌≢◌, ℕ, Bool, true, false, List, Option, Some, None, ap, refl, subst, sym, ◌∙◌}
use Rattle.std.specs.Prelude.{All}
use Rattle.std.specs.Str.{bytes_eq}
use Rattle.std.proofs.Common.{get_or}
use Rattle.std.proofs.lemmas.List.Elements.{filter_passes}
use Rattle.std.proofs.lemmas.Slice.Eq.{bytes_eq-Decides}
use Rattle.vol_base.specs.declared.block.Digest.{Digest}
use Rattle.hint_blocks.specs.declared.entry.IndexEntry.{IndexEntry}
use Rattle.hint_blocks.specs.declared.entry.LogEntry.{LogEntry}
use Rattle.merge_decide.specs.declared.action.Action.{Action}
use Rattle.merge_decide.specs.declared.action.Action.TheVariants.{Post}
use Rattle.merge_decide.specs.declared.outcome.Outcome.TheVariants.{Done}
use Rattle.merge_decide.specs.Counted.{EndsWith}
use Rattle.merge_decide.specs.Decision.{decision, first_line, first_other, first_shared, has_own}
use Rattle.merge_shelves.specs.Handlings.{request_by}
use Rattle.sorted_shard.specs.Shelves.{digest_of, with_digest}

same_digest : (one other : Digest) → one.0 ≡ other.0 → one ≡ other
same_digest one other same = ap (λ (xs : List ℕ). let d : Digest = record { 0 = xs } in d) same

-- entries of a digest have that digest
pub all_of : (digest : Digest) (entries found : List IndexEntry) → found ≡ with_digest digest.0 entries
    → All (λ hint. hint.digest ≡ digest) found
all_of digest entries found are =
    let passes : All (λ (hint : IndexEntry). bytes_eq (digest_of hint) digest.0 ≡ true) found =
    subst (λ (es : List IndexEntry). All (λ (hint : IndexEntry). bytes_eq (digest_of hint) digest.0 ≡ true) es) (sym are)
    (filter_passes (λ (hint : IndexEntry). bytes_eq (digest_of hint) digest.0) entries) in
    λ k d lt. same_digest (get_or found k d).digest digest ((bytes_eq-Decides (get_or found k d).digest.0 digest.0).0 (passes k d lt))

-- an action that is no post needs no call
line_quiet : (e : LogEntry) (shared : Option ℕ) (other : Option (ℕ × ℕ)) (own : Bool)
    → ((s : ℕ) → first_line false false shared other own ≢ Post s)
    → EndsWith (first_line false false shared other own) Done × (request_by e 0 (first_line false false shared other own) Done ≡ None)
line_quiet e (Some slot) other own no_post = absurd (no_post slot refl)
line_quiet e None other true no_post = (tt, refl)
line_quiet e None other false no_post = (tt, refl)

pub quiet : (e : LogEntry) (found : List IndexEntry) → ((s : ℕ) → decision e false None found ≢ Post s)
    → EndsWith (decision e false None found) Done × (request_by e 0 (decision e false None found) Done ≡ None)
quiet e found no_post = line_quiet e (first_shared found) (first_other e found) (has_own e found) no_post

-- the action as it was decided
pub decided_quiet : (e : LogEntry) (found : List IndexEntry) (action : Action) → action ≡ decision e false None found
    → ((s : ℕ) → action ≢ Post s) → EndsWith action Done × (request_by e 0 action Done ≡ None)
decided_quiet e found action are no_post =
    subst (λ (a : Action). EndsWith a Done × (request_by e 0 a Done ≡ None)) (sym are)
    (quiet e found (λ s is. no_post s (are ∙ is)))
