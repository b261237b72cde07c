-- Lines that a text gains one after the other.
use Rattle.std.proofs.Common.{◌≡◌, ◌+◌, ◌%◌, arith, Bool, cond, eq-eqb, ne_eqb, ℕ, List, [], ◌∷◌, ◌++◌, sym, ap, ◌∙◌, append-nil, append_assoc}
use Rattle.std.specs.Prelude.{codes, String, string_bytes}
use Rattle.std.specs.declared.alloc.Global.{Global}
use Rattle.std.specs.List.{flat_map, range_with_len}
use Rattle.std.proofs.lemmas.List.{map-id}
use Rattle.std.proofs.lemmas.List.Concat.{flat_map-append}
use Rattle.std.proofs.lemmas.List.FromFn.{map-range_with_len_more}
use Rattle.workload.specs.Printed.{ended}
use Rattle.gen_load.specs.Generated.{Gains, command_line, each_below, log_lines}

ended-append : (xs ys : List (List ℕ)) → ended (xs ++ ys) ≡ ended xs ++ ended ys
unfolding ended
ended-append xs ys = flat_map-append (λ line. line ++ 10 ∷ []) xs ys

-- lines, and further lines behind them
pub both : {before middle after : String Global} {xs ys : List (List ℕ)} → Gains before middle xs → Gains middle after ys
    → Gains before after (xs ++ ys)
both {before = before} {xs = xs} {ys = ys} first second =
    record {
      text =
          second.text
          ∙ ap (λ (t : List ℕ). t ++ ended ys) first.text
          ∙ append_assoc (string_bytes before) (ended xs) (ended ys)
          ∙ ap (λ (t : List ℕ). string_bytes before ++ t) (sym (ended-append xs ys));
    }

-- one line more
pub line : {before after : String Global} {text : List ℕ} → string_bytes after ≡ string_bytes before ++ (text ++ 10 ∷ [])
    → Gains before after (text ∷ [])
unfolding ended
line {before = before} {text = text} e = record { text = e ∙ ap (λ (t : List ℕ). string_bytes before ++ t) (sym (append-nil (text ++ 10 ∷ []))) }

-- no line
pub none : (before : String Global) → Gains before before []
unfolding ended
none before = record { text = sym (append-nil (string_bytes before)) }

pub none_below : (before : String Global) (lines : ℕ → List (List ℕ)) → Gains before before (each_below 0 lines)
unfolding each_below
none_below before lines = none before

range_more : (n : ℕ) → range_with_len 0 (n + 1) ≡ range_with_len 0 n ++ n ∷ []
range_more n =
    sym (map-id (range_with_len 0 (n + 1)))
    ∙ map-range_with_len_more (λ (k : ℕ). k) 0 n n (omega arith)
    ∙ ap (λ (xs : List ℕ). xs ++ n ∷ []) (map-id (range_with_len 0 n))

each_below-more : (n : ℕ) (lines : ℕ → List (List ℕ)) → each_below (n + 1) lines ≡ each_below n lines ++ lines n
unfolding each_below
each_below-more n lines =
    ap (flat_map lines) (range_more n)
    ∙ flat_map-append lines (range_with_len 0 n) (n ∷ [])
    ∙ ap (λ (xs : List (List ℕ)). each_below n lines ++ xs) (append-nil (lines n))

-- the same lines, told in another way
pub same_lines : {before after : String Global} {xs ys : List (List ℕ)} → xs ≡ ys → Gains before after xs → Gains before after ys
same_lines {before = before} e gains = record { text = gains.text ∙ ap (λ (lines : List (List ℕ)). string_bytes before ++ ended lines) e }

-- the lines of one number more
pub more_below : (n : ℕ) (lines : ℕ → List (List ℕ)) {before middle after : String Global}
    → Gains before middle (each_below n lines) → Gains middle after (lines n) → Gains before after (each_below (n + 1) lines)
more_below n lines first second = same_lines (sym (each_below-more n lines)) (both first second)

-- the lines up to a number that is the bound
pub all_below : (n bound : ℕ) (lines : ℕ → List (List ℕ)) {before after : String Global} → n ≡ bound
    → Gains before after (each_below n lines) → Gains before after (each_below bound lines)
all_below n bound lines e gains = same_lines (ap (λ (k : ℕ). each_below k lines) e) gains

-- a round with a log, and one without
pub log : (round host : ℕ) → round % 10 ≡ 9 → command_line host (codes "log") [] ∷ [] ≡ log_lines round host
log round host e = sym (ap (λ (b : Bool). cond b (command_line host (codes "log") [] ∷ []) []) (eq-eqb (round % 10) 9 e))

pub no_log : (round host : ℕ) → (round % 10 ≡ 9 → ⊥) → [] ≡ log_lines round host
no_log round host other = sym (ap (λ (b : Bool). cond b (command_line host (codes "log") [] ∷ []) []) (ne_eqb (round % 10) 9 other))
