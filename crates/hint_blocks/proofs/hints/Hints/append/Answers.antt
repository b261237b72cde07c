use Rattle.std.proofs.Common.{◌≡◌, ◌∙◌, ◌∷◌, ◌++◌, [], ℕ, List, Some, ap, arith, length, refl, subst, sym}
use Rattle.std.specs.Prelude.{All, option_map}
use Rattle.std.specs.List.{filter_map}
use Rattle.std.proofs.lemmas.List.Elements.{All-push, filter_map-append}
use Rattle.vol_base.specs.Packing.{Packing}
use Rattle.hint_blocks.specs.HintLists.{HintList}
use Rattle.hint_blocks.specs.laws.HintListLaws.{IsSpelling, length-filter_map}
use Rattle.hint_blocks.proofs.hints.Hints.append.Given.{Over}
use Rattle.hint_blocks.proofs.hints.Hints.append.Goals as goal
use Rattle.hint_blocks.proofs.hints.Hints.append.Goals.{After-append_bytes}

pub append_bytes-requires : goal.append_bytes-requires
append_bytes-requires g c =
    let fields = c.self.inside in
    let same = length-filter_map (g.T.Hint.read fields.geometry) g.T.Hint.entry_bytes fields.packed.entries c.self.invariant.3 in
    let seen = ap (λ (hints : HintList g.row.T.Denot). length hints.entries) c.self.view_is in
    omega arith

-- the hint reads back from the bytes that are written for it
reads : (g : Over) (c : After-append_bytes g) → g.T.Hint.read c.self.inside.geometry c.to_entry.result ≡ Some c.args.hint
reads g c =
    let range = subst (λ (hints : HintList g.row.T.Denot). g.T.Hint.IsInRange hints.geometry c.args.hint) (sym c.self.view_is) c.requires.range in
    let long = sym (ap (λ (xs : List ℕ). length xs) c.to_entry.ensures) ∙ c.append_bytes.ensures.long in
    ap (g.T.Hint.read c.self.inside.geometry) c.to_entry.ensures ∙ g.met.T.Hint.reads_back c.self.inside.geometry c.args.hint c.self.invariant.0 range long

pub invariant_of-self : goal.invariant_of-self
invariant_of-self g c =
    let fields = c.self.inside in
    let read = g.T.Hint.read fields.geometry in
    let here : option_map g.T.Hint.entry_bytes (read c.to_entry.result) ≡ Some c.to_entry.result =
    ap (option_map g.T.Hint.entry_bytes) (reads g c) ∙ ap (λ (xs : List ℕ). Some xs) (sym c.to_entry.ensures) in (
      c.self.invariant.0,
      ap (λ (p : Packing). p.magic) c.append_bytes.ensures.appended ∙ c.self.invariant.1,
      ap (λ (p : Packing). p.word) c.append_bytes.ensures.appended ∙ c.self.invariant.2,
      subst (λ (p : Packing). All (IsSpelling read g.T.Hint.entry_bytes) p.entries) (sym c.append_bytes.ensures.appended)
          (All-push (IsSpelling read g.T.Hint.entry_bytes) fields.packed.entries c.to_entry.result c.self.invariant.3 here),
    )

pub returns : goal.returns
returns g c =
    let read = g.T.Hint.read c.self.inside.geometry in
    let more : filter_map read c.append_bytes.new.packed.entries ≡ filter_map read c.self.inside.packed.entries ++ c.args.hint ∷ [] =
    ap (λ (p : Packing). filter_map read p.entries) c.append_bytes.ensures.appended ∙ filter_map-append read c.self.inside.packed.entries (c.to_entry.result ∷ [])
    ∙ rw (reads g c) refl in
    ap (λ (xs : List g.row.T.Denot). let hints : HintList g.row.T.Denot = record { geometry = c.self.inside.geometry; entries = xs } in hints) more
    ∙ ap (λ (hints : HintList g.row.T.Denot). let longer : HintList g.row.T.Denot = record { geometry = hints.geometry; entries = hints.entries ++ c.args.hint ∷ [] } in longer) c.self.view_is
