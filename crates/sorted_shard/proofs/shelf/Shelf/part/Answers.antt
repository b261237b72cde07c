use Rattle.std.proofs.Common.{◌≡◌, ◌*◌, ◌-◌, ℕ, List, ap, arith, drop, length, min, take, ◌∙◌}
use Rattle.std.proofs.lemmas.List.{take_min, take_rest}
use Rattle.hint_blocks.specs.declared.entry.IndexEntry.{IndexEntry}
use Rattle.sorted_shard.proofs.shelf.Shelf.part.Goals as goal

pub overflow_mul-start : goal.overflow_mul-start
overflow_mul-start c = omega (arith, c.entries-entries.ensures.shelf.few)

pub returns-clause-entries : goal.returns-clause-entries
returns-clause-entries c =
    let place = 126 * c.args.k in
    let entries = c.entries-entries.result.now in
    let rest : take (length entries - place) (drop place entries) ≡ drop place entries = take_rest entries place in
    ap (take c.min.result) rest
    ∙ ap (λ (n : ℕ). take n (drop place entries)) (c.min.ensures ∙ ap (λ (xs : List IndexEntry). min 126 (length xs)) rest)
    ∙ take_min 126 (drop place entries)
    ∙ ap (λ (xs : List IndexEntry). take 126 (drop place xs)) c.entries-entries.ensures.entries
