-- Each step keeps the rule of the table.
use Rattle.std.proofs.Common.{◌≡◌, ◌≢◌, ℕ, zero, suc, ◌<◌, eqb, List, [], ◌∷◌, ◌++◌, length, get_or, set, refl, sym, ap, ◌∙◌, subst, ⊎_elim, inl, inr, arith, Option, Some, append_assoc}
use Rattle.std.specs.Prelude.{All}
use Rattle.std.specs.List.{sum_by}
use Rattle.std.proofs.lemmas.List.{append-nil}
use Rattle.std.proofs.lemmas.List.Elements.{All-append, All-cons, All-nil, All-weaker}
use Rattle.std.proofs.lemmas.List.Sums.{sum_by_push}
use mathlib.Core.Option.{none, some, some-injective, some-ne-none}
use mathlib.Core.Option as maybe
use mathlib.Core.Logic.{dite}
use native.Mathlib.Decide.{ℕ_discrete}
use lib.ListN.{get_elem?}
use prog.Atomic.{either}
use Rattle.atomic_table.specs.Table.{State, Me, Act, Valid, carried_after, step, keeps, takes, gives, stepped, Allows, Splits, Joins, Final, Seen, opening}
use Rattle.atomic_table.proofs.Lists.{at_set, set_here, set_else, set_again, at_longer, at_snoc}
use Rattle.turn_lock.specs.Follows.{Follows}
use Rattle.turn_lock.specs.Rule.{knows, parts, starting, Rests, Out, Kept}
use Rattle.turn_lock.specs.Steps.{Took, Loaded, Raised, Freed, dealer, dealt, together, spent}
use Rattle.turn_lock.specs.declared.knowledge.Knows.{Knows}
use Rattle.turn_lock.specs.declared.knowledge.Turn.TheVariants.{Waits, Has}
use Rattle.turn_lock.proofs.Parts.{parts_set, two_parts}

-- an index with an element is in the list
inside : {A : Type 0} (l : List A) (i : ℕ) (a : A) → get_elem? l i ≡ some a → i < length l
inside [] i a at = absurd (some-ne-none a (sym at))
inside (x ∷ xs) zero a at = omega arith
inside (x ∷ xs) (suc i) a at = let rest = inside xs i a at in omega arith

-- a slot that is at home has some value
abbrev Home : Type 0 → Type 0
Home T = maybe.Option (Option T)

-- the step that takes word 0 where it is 0
abbrev Tried : {T : Type 0} → (State (Option T) (Knows T) → Type 0) → ℕ → ℕ → Knows T → List (ℕ × Option T) → State (Option T) (Knows T)
    → (ℕ → Me (Option T) (Knows T) → Type 0) → Type 0
Tried {T} holds slots id v c s then = (w : Knows T) × (a : Act (Option T)) × Valid s.homes c a × holds (stepped s 0 (either (eqb (get_or s.words 0 0) 0) 1 (get_or s.words 0 0)) id c w a) × then (get_or s.words 0 0) (w, carried_after c a)

module _ {T : Type 0} where
  waits-has : (v : Knows T) (y : T) (n : ℕ) → v.turn ≡ Waits → v.turn ≡ Has y n → ⊥
  waits-has v y n a b = let clash : Waits ≡ Has y n = sym a ∙ b in cc

  value_is : (v : Knows T) (y x : T) (n m : ℕ) → v.turn ≡ Has y n → v.turn ≡ Has x m → y ≡ x
  value_is v y x n m a b = let same : Has y n ≡ Has x m = sym a ∙ b in cc

  count_is : (v : Knows T) (y x : T) (n m : ℕ) → v.turn ≡ Has y n → v.turn ≡ Has x m → n ≡ m
  count_is v y x n m a b = let same : Has y n ≡ Has x m = sym a ∙ b in cc

  found_is : (x z : T) → Some x ≡ Some z → x ≡ z
  found_is x z e = cc

  -- all seats wait, where one of them gets another view that waits
  calm_set : (l : List (Knows T)) (id : ℕ) (w : Knows T) → ((j : ℕ) (u : Knows T) → get_elem? l j ≡ some u → u.turn ≡ Waits) → w.turn ≡ Waits
      → (j : ℕ) (u : Knows T) → get_elem? (set l id w) j ≡ some u → u.turn ≡ Waits
  calm_set l id w waits calm j u there = ⊎_elim
      (λ (t : (j ≡ id) × (w ≡ u)). ap (λ (k : Knows T). k.turn) (sym t.1) ∙ calm)
      (λ (t : (j ≢ id) × (get_elem? l j ≡ some u)). waits j u t.1)
      (at_set l id j w u there)

  -- the same of all but one
  calm_set_but : (l : List (Knows T)) (id holder : ℕ) (w : Knows T) → ((j : ℕ) (u : Knows T) → j ≢ holder → get_elem? l j ≡ some u → u.turn ≡ Waits) → w.turn ≡ Waits
      → (j : ℕ) (u : Knows T) → j ≢ holder → get_elem? (set l id w) j ≡ some u → u.turn ≡ Waits
  calm_set_but l id holder w waits calm j u ne there = ⊎_elim
      (λ (t : (j ≡ id) × (w ≡ u)). ap (λ (k : Knows T). k.turn) (sym t.1) ∙ calm)
      (λ (t : (j ≢ id) × (get_elem? l j ≡ some u)). waits j u ne t.1)
      (at_set l id j w u there)

  -- a seat that waits is not the one that has the turn
  out_apart : (s : State (Option T) (Knows T)) (x : T) (id : ℕ) (v : Knows T) (q : Out x s) → get_elem? s.views id ≡ some v → v.turn ≡ Waits → q.holder ≢ id
  out_apart s x id v q at calm e =
      let same : v ≡ q.view = some-injective v q.view (sym at ∙ (ap (get_elem? s.views) (sym e) ∙ q.here)) in
      waits-has v x q.count calm (ap (λ (u : Knows T). u.turn) same ∙ q.has)

  only : (v : Knows T) (j : ℕ) (u : Knows T) → get_elem? (v ∷ []) j ≡ some u → v ≡ u
  only v zero u at = some-injective v u at
  only v (suc j) u at = absurd (some-ne-none u (sym at))

  left_is : (x z : T) → ◌≡◌ {A = List (ℕ × Option T)} ((0, Some x) ∷ []) ((0, Some z) ∷ []) → x ≡ z
  left_is x z e =
      let pair : ◌≡◌ {A = ℕ × Option T} (0, Some x) (0, Some z) = cc in
      let value : Some x ≡ Some z = ap (λ (p : ℕ × Option T). p.1) pair in
      cc

module _ {T O E : Type 0} (began : T → O) (listed : T → List E) where
  abbrev F : T → T → Type 0
  F = Follows began listed

  pub follows_itself : (x : T) → F x x
  follows_itself x = record { start = refl; entries = ([], sym (append-nil (listed x))) }

  pub follows_on : (x y z : T) → F x y → F y z → F x z
  follows_on x y z a b = record {
    start = b.start ∙ a.start;
    entries = (a.entries.0 ++ b.entries.0, b.entries.1 ∙ (ap (λ (l : List E). l ++ b.entries.0) a.entries.1 ∙ append_assoc (listed x) a.entries.0 b.entries.0));
  }

  -- what all seats have seen is followed by a value that follows the old one, where one seat's view changes
  behind_set : (l : List (Knows T)) (id : ℕ) (w : Knows T) (x z : T) → F x z → All (λ y. F y z) w.seen
      → ((j : ℕ) (v : Knows T) → get_elem? l j ≡ some v → All (λ y. F y x) v.seen)
      → (j : ℕ) (v : Knows T) → get_elem? (set l id w) j ≡ some v → All (λ y. F y z) v.seen
  behind_set l id w x z later own old j v at = ⊎_elim
      (λ (t : (j ≡ id) × (w ≡ v)). subst (λ (u : Knows T). All (λ y. F y z) u.seen) t.1 own)
      (λ (t : (j ≢ id) × (get_elem? l j ≡ some v)). All-weaker (λ y. F y x) (λ y. F y z) (λ y a. follows_on y x z a later) v.seen (old j v t.1))
      (at_set l id j w v at)

  module _ (first : T) (seats : ℕ) where
    abbrev Rule : State (Option T) (Knows T) → Type 0
    Rule = Kept began listed first seats

    -- what the seat that has the turn knows of the whole table
    record Held (y : T) (n id : ℕ) (v : Knows T) (s : State (Option T) (Knows T)) : Type 0 where
      opened : began y ≡ began first
      behind : (j : ℕ) (u : Knows T) → get_elem? s.views j ≡ some u → All (λ z. F z y) u.seen
      all : sum_by parts s.views ≡ seats
      part : 0 < v.parts
      words : s.words ≡ 1 ∷ n ∷ []
      home : s.homes ≡ none ∷ []
      waits : (j : ℕ) (u : Knows T) → j ≢ id → get_elem? s.views j ≡ some u → u.turn ≡ Waits

    -- the seat that the rule says has the turn
    held_by : (s : State (Option T) (Knows T)) (y : T) (n id : ℕ) (v : Knows T) (r : Rule s) (q : Out r.value s) → id ≡ q.holder → v ≡ q.view → Has y n ≡ Has r.value q.count → Held y n id v s
    held_by s y n id v r q e same has =
        let value : r.value ≡ y = cc in
        let count : q.count ≡ n = cc in record {
          opened = ap began (sym value) ∙ r.start;
          behind = λ j u there. subst (λ (k : T). All (λ z. F z k) u.seen) value (r.behind j u there);
          all = r.all;
          part = subst (λ (u : Knows T). 0 < u.parts) (sym same) q.part;
          words = q.words ∙ ap (λ (k : ℕ). 1 ∷ k ∷ []) count;
          home = q.home;
          waits = λ j u ne there. q.waits j u (λ j_is. ne (j_is ∙ sym e)) there;
        }

    held : (s : State (Option T) (Knows T)) (y : T) (n id : ℕ) (v : Knows T) → Rule s → get_elem? s.views id ≡ some v → v.turn ≡ Has y n → Held y n id v s
    held s y n id v r at has = ⊎_elim
        (λ (q : Rests listed r.value s). absurd (waits-has v y n (q.waits id v at) has))
        (λ (q : Out r.value s). dite (ℕ_discrete id q.holder)
        (λ (e : id ≡ q.holder). let same : v ≡ q.view = some-injective v q.view (sym at ∙ (ap (get_elem? s.views) e ∙ q.here)) in held_by s y n id v r q e same (sym has ∙ (ap (λ (u : Knows T). u.turn) same ∙ q.has)))
        (λ (ne : id ≢ q.holder). absurd (waits-has v y n (q.waits id v ne at) has)))
        r.lies

    -- the seat that has the turn steps to another view, with the turn and a part
    holds_on : (y : T) (n m id : ℕ) (v w : Knows T) (s : State (Option T) (Knows T)) (words : List ℕ) → get_elem? s.views id ≡ some v → Held y n id v s
        → w.parts ≡ v.parts → All (λ z. F z y) w.seen → w.turn ≡ Has y m → words ≡ 1 ∷ m ∷ [] → Rule record { words = words; homes = s.homes; views = set s.views id w }
    holds_on y n m id v w s words at h same own has is = record {
      value = y;
      start = h.opened;
      behind = behind_set s.views id w y y (follows_itself y) own h.behind;
      all = (let q = parts_set s.views id v w at in let a = h.all in omega arith);
      lies = inr record {
        holder = id;
        view = w;
        count = m;
        here = set_here s.views id w (inside s.views id v at);
        has = has;
        part = subst (λ (k : ℕ). 0 < k) (sym same) h.part;
        words = is;
        home = h.home;
        waits = λ j u ne there. h.waits j u ne (sym (set_else s.views id j w ne) ∙ there);
      };
    }

    -- what a seat without the turn owes where it tries to take the word
    abbrev Goes : ℕ → ℕ → Knows T → List (ℕ × Option T) → State (Option T) (Knows T) → Type 0
    Goes slots id v c s = Tried Rule slots id v c s (Took began listed (step slots 0 0 1 none) (v, c))

    takes_it : (slots id : ℕ) (v : Knows T) (c : List (ℕ × Option T)) → v.turn ≡ Waits → 0 < v.parts → (s : State (Option T) (Knows T)) (r : Rule s) → get_elem? s.views id ≡ some v → Rests listed r.value s
        → Goes slots id v c s
    takes_it slots id v c calm part s r at q =
        let x = r.value in
        let n = length (listed x) in
        let w = knows v.parts v.seen (Has x n) in
        let zero_found : get_or s.words 0 0 ≡ 0 = ap (λ (ws : List ℕ). get_or ws 0 0) q.words in (
          w,
          takes 0 (Some x),
          ap (λ (hs : List (Home T)). get_elem? hs 0) q.home,
          record {
            value = x;
            start = r.start;
            behind = behind_set s.views id w x x (follows_itself x) (r.behind id v at) r.behind;
            all = (let p = parts_set s.views id v w at in let a = r.all in omega arith);
            lies = inr record {
              holder = id;
              view = w;
              count = n;
              here = set_here s.views id w (inside s.views id v at);
              has = refl;
              part = part;
              words = ap (λ (ws : List ℕ). set ws 0 (either (eqb (get_or ws 0 0) 0) 1 (get_or ws 0 0))) q.words;
              home = ap (λ (hs : List (Home T)). set hs 0 none) q.home;
              waits = λ j u ne there. q.waits j u (sym (set_else s.views id j w ne) ∙ there);
            };
          },
          ((λ _. (x, refl, r.behind id v at)), λ ne. absurd (ne zero_found)),
        )

    leaves_it : (slots id : ℕ) (v : Knows T) (c : List (ℕ × Option T)) (s : State (Option T) (Knows T)) (r : Rule s) → get_elem? s.views id ≡ some v → Out r.value s → Goes slots id v c s
    leaves_it slots id v c s r at q =
        let one_found : get_or s.words 0 0 ≡ 1 = ap (λ (ws : List ℕ). get_or ws 0 0) q.words in
        let words_stay : set s.words 0 (either (eqb (get_or s.words 0 0) 0) 1 (get_or s.words 0 0)) ≡ s.words =
        ap (λ (ws : List ℕ). set ws 0 (either (eqb (get_or ws 0 0) 0) 1 (get_or ws 0 0))) q.words ∙ sym q.words in
        let views_stay = set_again s.views id v at in (
          v,
          keeps,
          tt,
          subst (λ (p : List ℕ × List (Knows T)). Rule record { words = p.0; homes = s.homes; views = p.1 }) (λ i. (sym words_stay i, sym views_stay i)) r,
          ((λ z. let clash : 1 ≡ 0 = sym one_found ∙ z in absurd (omega arith)), λ _. refl),
        )

    -- the word is taken where it is 0
    pub may_take : (slots id : ℕ) (v : Knows T) (c : List (ℕ × Option T)) → v.turn ≡ Waits → 0 < v.parts
        → Allows Rule slots id (v, c) 0 (λ n. either (eqb n 0) 1 n) (Took began listed (step slots 0 0 1 none) (v, c))
    may_take slots id v c calm part s r long at small = ⊎_elim (takes_it slots id v c calm part s r at) (leaves_it slots id v c s r at) r.lies

    -- the counted word is loaded
    pub may_load : (slots id : ℕ) (v : Knows T) (c : List (ℕ × Option T)) (y : T) (n : ℕ) → v.turn ≡ Has y n
        → Allows Rule slots id (v, c) 1 (λ n. n) (Loaded (step slots 1 0 0 none) (v, c))
    may_load slots id v c y n has s r long at small =
        let h = held s y n id v r at has in
        let found : get_or s.words 1 0 ≡ n = ap (λ (ws : List ℕ). get_or ws 1 0) h.words in (
          knows v.parts (y ∷ []) (Has y n),
          keeps,
          tt,
          holds_on y n n id v (knows v.parts (y ∷ []) (Has y n)) s (set s.words 1 (get_or s.words 1 0)) at h refl (All-cons (λ z. F z y) y [] (follows_itself y) (All-nil (λ z. F z y))) refl
              (ap (λ (ws : List ℕ). set ws 1 (get_or ws 1 0)) h.words),
          (λ x m is. (found ∙ count_is v y x n m has is, ap (λ (p : T × ℕ). (knows v.parts (p.0 ∷ []) (Has p.0 p.1), c)) (λ i. (value_is v y x n m has is i, count_is v y x n m has is i)))),
        )

    -- the counted word is raised
    pub may_raise : (slots id : ℕ) (v : Knows T) (c : List (ℕ × Option T)) (y : T) (n m : ℕ) → v.turn ≡ Has y n
        → Allows Rule slots id (v, c) 1 (λ _. m) (λ _. Raised (step slots 1 m 0 none) (v, c) m)
    may_raise slots id v c y n m has s r long at small =
        let h = held s y n id v r at has in (
          knows v.parts v.seen (Has y m),
          keeps,
          tt,
          holds_on y n m id v (knows v.parts v.seen (Has y m)) s (set s.words 1 m) at h refl (h.behind id v at) refl (ap (λ (ws : List ℕ). set ws 1 m) h.words),
          (λ x k is. ap (λ (z : T). (knows v.parts v.seen (Has z m), c)) (value_is v y x n k has is)),
        )

    -- the word is freed, with a value in the slot that follows the one taken and has as many entries as are counted
    pub may_free : (slots id : ℕ) (v : Knows T) (y x : T) (n : ℕ) → v.turn ≡ Has y n → n ≡ length (listed x) → F y x
        → Allows Rule slots id (v, (0, Some x) ∷ []) 0 (λ _. 0) (Freed (step slots 0 0 0 none) (v, (0, Some x) ∷ []))
    may_free slots id v y x n has counted later s r long at small =
        let h = held s y n id v r at has in
        let w = knows v.parts (x ∷ []) Waits in (
          w,
          gives,
          tt,
          record {
            value = x;
            start = later.start ∙ h.opened;
            behind = behind_set s.views id w y x later (All-cons (λ z. F z x) x [] (follows_itself x) (All-nil (λ z. F z x))) h.behind;
            all = (let q = parts_set s.views id v w at in let a = h.all in omega arith);
            lies = inl record {
              words = ap (λ (ws : List ℕ). set ws 0 0) h.words ∙ ap (λ (k : ℕ). 0 ∷ k ∷ []) counted;
              home = ap (λ (hs : List (Home T)). set hs 0 (some (Some x))) h.home;
              waits = λ j u there. ⊎_elim
                  (λ (t : (j ≡ id) × (w ≡ u)). ap (λ (k : Knows T). k.turn) (sym t.1))
                  (λ (t : (j ≢ id) × (get_elem? s.views j ≡ some u)). h.waits j u t.0 t.1)
                  (at_set s.views id j w u there);
            };
          },
          (λ z is. let same : x ≡ z = left_is x z is in ap (λ (k : T). (knows v.parts (k ∷ []) Waits, [])) same),
        )

    -- a seat without the turn deals out a part
    pub may_deal : (id : ℕ) (v : Knows T) → v.turn ≡ Waits → 0 < v.parts → Splits Rule id v (dealer v) (dealt v)
    may_deal id v calm part s r at =
        let w = dealer v in
        let views = set s.views id w ++ dealt v ∷ [] in record {
          value = r.value;
          start = r.start;
          behind = λ j u there. ⊎_elim
              (behind_set s.views id w r.value r.value (follows_itself r.value) (r.behind id v at) r.behind j u)
              (λ (t : dealt v ≡ u). subst (λ (k : Knows T). All (λ z. F z r.value) k.seen) t (r.behind id v at))
              (at_snoc (set s.views id w) (dealt v) u j there);
          all = (let q = parts_set s.views id v w at in let a = r.all in let more = sum_by_push parts (set s.views id w) (dealt v) in omega arith);
          lies = ⊎_elim
              (λ (q : Rests listed r.value s). inl record {
                words = q.words;
                home = q.home;
                waits = λ j u there. ⊎_elim (calm_set s.views id w q.waits refl j u) (λ (t : dealt v ≡ u). ap (λ (k : Knows T). k.turn) (sym t)) (at_snoc (set s.views id w) (dealt v) u j there);
              })
              (λ (q : Out r.value s). let apart = out_apart s r.value id v q at calm in inr record {
                holder = q.holder;
                view = q.view;
                count = q.count;
                here = at_longer (set s.views id w) (dealt v ∷ []) q.holder q.view (set_else s.views id q.holder w apart ∙ q.here);
                has = q.has;
                part = q.part;
                words = q.words;
                home = q.home;
                waits = λ j u ne there. ⊎_elim (calm_set_but s.views id q.holder w q.waits refl j u ne) (λ (t : dealt v ≡ u). ap (λ (k : Knows T). k.turn) (sym t)) (at_snoc (set s.views id w) (dealt v) u j there);
              })
              r.lies;
        }

    -- two seats without the turn become one
    pub may_merge : (id : ℕ) (v : Knows T) (other : ℕ) (u : Knows T) → v.turn ≡ Waits → u.turn ≡ Waits → Joins Rule id v other u (together v u) spent
    may_merge id v other u calm still s r at apart there =
        let w = together v u in
        let middle = set s.views id w in
        let here : get_elem? s.views other ≡ some u = sym (set_else s.views id other w apart) ∙ there in
        let both = All-append (λ z. F z r.value) v.seen u.seen (r.behind id v at) (r.behind other u here) in
        let stays = follows_itself r.value in record {
          value = r.value;
          start = r.start;
          behind = behind_set middle other spent r.value r.value stays (All-nil (λ z. F z r.value)) (behind_set s.views id w r.value r.value stays both r.behind);
          all = (let q = parts_set s.views id v w at in let p = parts_set middle other u spent there in let a = r.all in omega arith);
          lies = ⊎_elim
              (λ (q : Rests listed r.value s). inl record { words = q.words; home = q.home; waits = calm_set middle other spent (calm_set s.views id w q.waits refl) refl })
              (λ (q : Out r.value s). let one = out_apart s r.value id v q at calm in let two = out_apart s r.value other u q here still in inr record {
                holder = q.holder;
                view = q.view;
                count = q.count;
                here = set_else middle other q.holder spent two ∙ (set_else s.views id q.holder w one ∙ q.here);
                has = q.has;
                part = q.part;
                words = q.words;
                home = q.home;
                waits = λ j k ne. calm_set_but middle other q.holder spent (λ i x other_than. calm_set_but s.views id q.holder w q.waits refl i x other_than) refl j k ne;
              })
              r.lies;
        }

    -- once a seat without the turn has all parts, what stood in the slot is a value, and it follows all that the seat has seen
    pub ends : (id : ℕ) (v : Knows T) (words : List ℕ) (slots : List (Option T)) (home : Option T) → v.turn ≡ Waits → v.parts ≡ seats → Final (Seen Rule id v) words slots
        → get_elem? slots 0 ≡ some home → (x : T) × (home ≡ Some x) × (began x ≡ began first) × All (λ z. F z x) v.seen
    ends id v words slots home calm all_parts (s, (r, at), same, long, homes) there = ⊎_elim
        (λ (q : Rests listed r.value s).
        let value = homes 0 (Some r.value) (ap (λ (hs : List (Home T)). get_elem? hs 0) q.home) in
        (r.value, some-injective home (Some r.value) (sym there ∙ value), r.start, r.behind id v at))
        (λ (q : Out r.value s).
        let two = two_parts s.views id q.holder v q.view (out_apart s r.value id v q at calm) at q.here in
        let one = q.part in
        let a = r.all in
        absurd (omega arith))
        r.lies

    -- the same of the value that was found
    pub ends_with : (id : ℕ) (v : Knows T) (words : List ℕ) (slots : List (Option T)) (home : Option T) (x : T) → v.turn ≡ Waits → v.parts ≡ seats → Final (Seen Rule id v) words slots
        → get_elem? slots 0 ≡ some home → home ≡ Some x → (began x ≡ began first) × All (λ z. F z x) v.seen
    ends_with id v words slots home x calm all_parts final there is =
        let end = ends id v words slots home calm all_parts final there in
        let same : end.0 ≡ x = found_is end.0 x (sym end.1 ∙ is) in
        (ap began (sym same) ∙ end.2, subst (λ (y : T). All (λ z. F z y) v.seen) same end.3)

    -- a table with the first value at home, and one seat with all parts
    pub opens : Rule (opening (0 ∷ length (listed first) ∷ []) (Some first ∷ []) (starting seats first))
    opens =
        let one : (j : ℕ) (v : Knows T) → get_elem? (starting seats first ∷ []) j ≡ some v → starting seats first ≡ v = only (starting seats first) in record {
          value = first;
          start = refl;
          behind = λ j v at. subst (λ (k : Knows T). All (λ z. F z first) k.seen) (one j v at) (All-cons (λ z. F z first) first [] (follows_itself first) (All-nil (λ z. F z first)));
          all = omega arith;
          lies = inl record { words = refl; home = refl; waits = λ j v at. ap (λ (k : Knows T). k.turn) (sym (one j v at)) };
        }
