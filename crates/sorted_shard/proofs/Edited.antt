-- The front of an array after an element was put into it, or some were taken from it.
use Rattle.std.proofs.Common.{◌≡◌, ◌<◌, ◌≤◌, ◌+◌, ◌-◌, ℕ, List, [], ◌∷◌, ◌++◌, ap, append_assoc, arith, drop, length, length-append, length-drop, refl, set, sym, take, ◌∙◌}
use Rattle.std.specs.Prelude.{insert}
use Rattle.std.proofs.lemmas.List.{drop-append-le, drop-drop, drop_at, length-set, length-take-le, take-set-le, take-take, take_at, take_more_set}
use Rattle.std.proofs.lemmas.Slice.{between_is, take-put_mid}
use borrow.Rule.Slice.PartMut.{post_of, put_mid}

module _ {X : Type 0} (old : List X) (count place : ℕ) (x : X) (fits : place ≤ count) (room : count < length old) where
  -- what is rotated: the entries from the place on, and the one that was written behind them
  moved : take (count + 1 - place) (drop place (set old count x)) ≡ drop place (take count old) ++ x ∷ []
  moved =
      between_is (set old count x) place (count + 1)
      ∙ ap (drop place) (take_more_set old count x room)
      ∙ drop-append-le place (take count old) (x ∷ []) (omega (arith, length-take-le count old (omega arith)))

  rest_long : length (drop place (take count old)) ≡ count - place
  rest_long = length-drop place (take count old) ∙ omega (arith, length-take-le count old (omega arith))

  pub put_at_front : (part new : List X) → part ≡ drop (length (take (count + 1 - place) (drop place (set old count x))) - 1) (take (count + 1 - place) (drop place (set old count x)))
      ++ take (length (take (count + 1 - place) (drop place (set old count x))) - 1) (take (count + 1 - place) (drop place (set old count x)))
      → new ≡ put_mid place (count + 1 - place) (set old count x) part → take (count + 1) new ≡ insert (take count old) place x
  put_at_front part new turned e =
      let zs = drop place (take count old) in
      let long : length (zs ++ x ∷ []) - 1 ≡ length zs = omega (arith, length-append zs (x ∷ [])) in
      let same : part ≡ x ∷ zs =
      turned ∙ ap (λ (ys : List X). drop (length ys - 1) ys ++ take (length ys - 1) ys) moved
      ∙ ap (λ (n : ℕ). drop n (zs ++ x ∷ []) ++ take n (zs ++ x ∷ [])) long
      ∙ rw (drop_at zs (x ∷ []) (length zs) refl, take_at zs (x ∷ []) (length zs) refl) refl in
      let full : count + 1 ≡ place + length part = omega (arith, ap length same, rest_long) in
      ap (take (count + 1)) e
      ∙ take-put_mid place (count + 1 - place) (set old count x) part (count + 1) full (omega (arith, length-set old count x))
      ∙ ap (λ (ys : List X). take place (set old count x) ++ ys) same
      ∙ ap (λ (ys : List X). ys ++ x ∷ zs) (take-set-le place old count x fits ∙ sym (take-take place count old fits))

module _ {X : Type 0} (old : List X) (count start end : ℕ) (order : start ≤ end) (within : end ≤ count) (counted : count ≤ length old) where
  kept : drop (end - start) (take (count - start) (drop start old)) ≡ drop end (take count old)
  kept = ap (drop (end - start)) (between_is old start count) ∙ drop-drop (end - start) start (take count old) ∙ ap (λ (n : ℕ). drop n (take count old)) (omega arith)

  pub take_out_front : (part new : List X)
      → part ≡ drop (end - start) (take (count - start) (drop start old)) ++ take (end - start) (take (count - start) (drop start old))
      → new ≡ put_mid start (count - start) old part → take (count - (end - start)) new ≡ take start (take count old) ++ drop end (take count old)
  take_out_front part new turned e =
      let back = take (end - start) (take (count - start) (drop start old)) in
      let front = take start old in
      let zs = drop end (take count old) in
      let post = post_of start (count - start) old in
      let same : part ≡ zs ++ back = turned ∙ ap (λ (ys : List X). ys ++ back) kept in
      let grouped : put_mid start (count - start) old (zs ++ back) ≡ (front ++ zs) ++ (back ++ post) =
      ap (λ (ys : List X). front ++ ys) (append_assoc zs back post) ∙ sym (append_assoc front zs (back ++ post)) in
      let long : length (front ++ zs) ≡ count - (end - start) =
      length-append front zs ∙ omega (arith, length-take-le start old (omega arith), length-drop end (take count old), length-take-le count old counted) in
      ap (take (count - (end - start))) (e ∙ ap (put_mid start (count - start) old) same ∙ grouped)
      ∙ take_at (front ++ zs) (back ++ post) (count - (end - start)) long
      ∙ ap (λ (ys : List X). ys ++ zs) (sym (take-take start count old (omega arith)))
