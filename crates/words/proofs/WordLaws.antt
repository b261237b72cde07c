-- Hosts that words name, whatever the words are made of.
use Rattle.std.proofs.Common.{◌≡◌, ◌≤◌, ℕ, List, [], ◌∷◌, Option, refl, ap, ◌∙◌, map}
use Rattle.std.specs.Prelude.{Bool, filter_map, is_some, length}
use Rattle.std.specs.List.{cons_option, list_all}
use Rattle.std.proofs.lemmas.Bool.{le-leb}
use Rattle.std.proofs.lemmas.List.{length-map}
use Rattle.std.proofs.lemmas.List.Folds.{list_all-map}
use Rattle.words.specs.Words.{host_of, is_schedule}

pub filter_map_map : {X Y Z : Type 0} (h : X → Option Z) (f : Y → X) (ys : List Y) → filter_map h (map f ys) ≡ filter_map (λ y. h (f y)) ys
filter_map_map h f [] = refl
filter_map_map h f (y ∷ ys) = ap (cons_option (h (f y))) (filter_map_map h f ys)

pub is_schedule_short : {Y : Type 0} (f : Y → List ℕ) (words : List Y) (are : Bool) → length words ≤ 65536
    → are ≡ list_all (λ word. is_some (host_of (f word))) words → are ≡ is_schedule (map f words)
is_schedule_short f words are few is =
    is ∙ rw (length-map words f, le-leb (length words) 65536 few, list_all-map (λ word. is_some (host_of word)) f words) refl
