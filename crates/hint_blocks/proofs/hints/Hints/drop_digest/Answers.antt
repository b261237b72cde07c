use Rattle.std.proofs.Common.{◌≡◌, ◌∙◌, ℕ, List, true, false, ap, arith, length, refl, sym, take}
use Rattle.std.specs.Str.{bytes_eq}
use Rattle.std.proofs.lemmas.List.{length-take}
use Rattle.hint_blocks.specs.HintLists.{HintList}
use Rattle.hint_blocks.specs.laws.HintListLaws.{length-without, without-other, without-same}
use Rattle.hint_blocks.proofs.hints.Hints.drop_digest.Goals.{else-not-are_same, then-not-are_same}
use Rattle.hint_blocks.proofs.hints.Hints.drop_digest.Goals as goal

pub append-requires-clause-room : goal.append-requires-clause-room
append-requires-clause-room g c =
    let entries = c.args.self.now.entries in
    let kept = ap (λ (hints : HintList g.row.T.Denot). length hints.entries) c.loop-k.invariant in
    let few = length-without g.T.Hint.digest_bytes c.args.digest.now.0 (take c.loop-k.k entries) in
    omega (arith, length-take c.loop-k.k entries)

pub loop-k-preserved : goal.loop-k-preserved
loop-k-preserved g c =
    let entries = c.args.self.now.entries in
    let digest = c.args.digest.now.0 in
    let hint = c.get-hint.result in
    elim c.if-not-are_same.branch [
      | then-not-are_same w ↦
          let other : bytes_eq (g.T.Hint.digest_bytes hint) digest ≡ false = ap (λ (xs : List ℕ). bytes_eq xs digest) (sym c.digest.ensures) ∙ sym w.if-not-are_same.ensures in
          let more = without-other g.T.Hint.digest_bytes digest entries c.loop-k.k hint c.get-hint.ensures.value other in
          w.kept-is ∙ w.append.ensures ∙ rw (c.loop-k.invariant, more) refl
      | else-not-are_same w ↦
          let same : bytes_eq (g.T.Hint.digest_bytes hint) digest ≡ true = ap (λ (xs : List ℕ). bytes_eq xs digest) (sym c.digest.ensures) ∙ sym w.if-not-are_same.ensures in
          let more = without-same g.T.Hint.digest_bytes digest entries c.loop-k.k hint c.get-hint.ensures.value same in
          w.kept-is ∙ rw (c.loop-k.invariant, more) refl
    ]
