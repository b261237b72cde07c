use Rattle.std.proofs.Common.{ap, ◌∙◌, sym, ℕ, List, Some}
use Rattle.std.specs.Prelude.{option_map}
use Rattle.std.proofs.lemmas.Option.{slice_get-map}
use Rattle.vol_base.specs.Bytes.{number_at, u32_at}
use Rattle.vol_base.proofs.packed.Packed+4.number.Goals as goal

pub returns : goal.returns
unfolding number_at
returns c =
    slice_get-map (λ (entry : List ℕ). u32_at entry 0) c.args.self.now.entries c.args.k
    ∙ ap (option_map (λ (entry : List ℕ). u32_at entry 0)) c.get.ensures
    ∙ ap (λ (n : ℕ). Some n) (sym c.read_u32.ensures)
