use Rattle.std.proofs.Common.{ℕ, List, [], ◌∷◌, ◌++◌, ap, refl, replicate, ◌∙◌}
use Rattle.std.specs.List.{flat_map}
use Rattle.vol_base.specs.Bytes.{bytes_of}
use Rattle.vol_base.specs.laws.BytesLaws.{length-bytes_of}
use Rattle.hint_blocks.specs.Entries.{spelled}
use Rattle.hint_blocks.proofs.Written.{three_numbers}
use Rattle.hint_blocks.proofs.spelling.written.Goals as goal

pub returns : goal.returns
unfolding spelled
returns c =
    let front : List ℕ = c.copy_from_slice.new.self in
    (three_numbers front (bytes_of 4 c.args.first) (bytes_of 4 c.args.second) (bytes_of 4 c.args.third) (replicate 12 0) c.put_number.new.entry c.put_number-2.new.entry
    c.put_number-3.new.entry c.copy_from_slice.ensures.len (length-bytes_of 4 c.args.first) (length-bytes_of 4 c.args.second) refl c.put_number.ensures c.put_number-2.ensures
    c.put_number-3.ensures)
    ∙ ap (λ (xs : List ℕ). xs ++ flat_map (bytes_of 4) (c.args.first ∷ c.args.second ∷ c.args.third ∷ [])) c.copy_from_slice.ensures.after
