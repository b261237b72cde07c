use Rattle.std.proofs.Common.{◌≡◌, ◌+◌, ◌<◌, ◌≤◌, ◌++◌, [], ℕ, List, length, take, drop, min, length-drop, length-append, take-append-drop, arith, sym}
use Rattle.std.proofs.lemmas.List.{take_at, length-take-le, drop-drop, take_rest, nil_from_length}
use Rattle.vol_io.proofs.sure.SureSourceSource.read_some.Goals as goal

-- the bytes that were copied to the front are those that the start passed, and all of them where nothing was copied though there was room
passed : (bytes into copied : List ℕ) (start n : ℕ) → copied ≡ take n (drop start bytes) → n ≡ min (length into) (length (drop start bytes))
    → (drop start bytes ≡ take n (copied ++ drop n into) ++ drop (start + n) bytes) × (n ≡ 0 → 0 < length (copied ++ drop n into) → drop (start + n) bytes ≡ [])
passed bytes into copied start n same count =
    let within : n ≤ length (drop start bytes) = omega arith in
    let len : length copied ≡ n = rw same (length-take-le n (drop start bytes) within) in (
      rw (take_at copied (drop n into) n len, same, ← drop-drop n start bytes) (sym (take-append-drop n (drop start bytes))),
      λ none some. nil_from_length _ (omega (arith, len, length-append copied (drop n into), length-drop {A = ℕ})),
    )

pub returns-clause-bytes : goal.returns-clause-bytes
returns-clause-bytes c =
    let inside = c.self.inside in
    rw (← c.self.view_is) (passed inside.bytes.items c.args.into.now _ inside.start c.min-count.result
    (rw (take_rest, c.deref.ensures.value) at c.copy_from_slice.ensures.after)
    (rw (take_rest, c.deref.ensures.value) at c.min-count.ensures))
