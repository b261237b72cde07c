-- How lists of faults grow, and what they say of a stage.
use Rattle.std.proofs.Common.{◌≡◌, ◌⊎◌, ℕ, List, [], ◌∷◌, ◌++◌, refl, sym, ap, ◌∙◌, inl, inr, append-nil, append_assoc, arith}
use Rattle.std.specs.Prelude.{All, Contains}
use Rattle.std.proofs.lemmas.List.Elements.{All-append, All-cons, All-head, All-nil, All-tail, All-weaker, Contains-append_left, Contains-append_right, Contains-push}
use Rattle.vol_layout.specs.declared.geometry.Geometry.{Geometry}
use Rattle.image_view.specs.Images.{Image}
use Rattle.volume_faults.specs.declared.fault.Fault.{Fault}
use Rattle.volume_faults.specs.Order.{AreInOrder, ComesBefore}
use Rattle.volume_faults.specs.Sites.{IsRight, Site, fault_at}
use Rattle.volume_faults.specs.Lists.{Adds, IsFaultOf, Lists}
use Rattle.volume_faults.specs.Faults.{AreOfFirst, IsOfStage, IsPassed}

-- two lists in order, each of the first before each of the second
AreInOrder-append : (xs ys : List Fault) → AreInOrder xs → AreInOrder ys → All (λ x. All (λ y. ComesBefore x y) ys) xs
    → AreInOrder (xs ++ ys)
AreInOrder-append [] ys first second apart = second
AreInOrder-append (x ∷ xs) ys first second apart = (
  All-append (λ y. ComesBefore x y) xs ys first.0 (All-head (λ z. All (λ y. ComesBefore z y) ys) x xs apart),
  AreInOrder-append xs ys first.1 second (All-tail (λ z. All (λ y. ComesBefore z y) ys) x xs apart),
)

-- the fault of a site that is among more sites
IsFaultOf-more : (A B : Site → Type 0) (g : Geometry) (counter : ℕ) (image : Image) → ((site : Site) → A site → B site)
    → (fault : Fault) → IsFaultOf A g counter image fault → IsFaultOf B g counter image fault
IsFaultOf-more A B g counter image in_more fault of = record { site = of.site; among = in_more of.site of.among; wrong = of.wrong; is = of.is }

-- where all is right there is no fault
pub Lists-right : (Among : Site → Type 0) (g : Geometry) (counter : ℕ) (image : Image)
    → ((site : Site) → Among site → IsRight g counter image site)
    → Lists Among g counter image []
Lists-right Among g counter image right = record {
  each = All-nil (IsFaultOf Among g counter image);
  whole = λ site among. inl (right site among);
  order = tt;
}

-- of one site that is wrong there is its fault
pub Lists-wrong : (Among : Site → Type 0) (g : Geometry) (counter : ℕ) (image : Image) (site : Site) → Among site
    → ((other : Site) → Among other → other ≡ site)
    → (IsRight g counter image site → ⊥) → Lists Among g counter image (fault_at g image site ∷ [])
Lists-wrong Among g counter image site among only wrong =
    let fault = fault_at g image site in
    record {
      each = All-cons (IsFaultOf Among g counter image) fault [] (record { site = site; among = among; wrong = wrong; is = refl }) (All-nil (IsFaultOf Among g counter image));
      whole = λ other is. let same : fault_at g image other ≡ fault = ap (fault_at g image) (only other is) in inr (rw same (Contains-push [] fault));
      order = (All-nil (λ y. ComesBefore fault y), tt);
    }

-- the faults of two sets of sites, one behind the other
pub Lists-joined : (A B C : Site → Type 0) (g : Geometry) (counter : ℕ) (image : Image) (xs ys : List Fault)
    → Lists A g counter image xs → Lists B g counter image ys
    → ((site : Site) → C site → A site ⊎ B site) → ((site : Site) → A site → C site) → ((site : Site) → B site → C site)
    → ((s t : Site) → A s → B t → ComesBefore (fault_at g image s) (fault_at g image t))
    → Lists C g counter image (xs ++ ys)
Lists-joined A B C g counter image xs ys first second cases from_first from_second before = record {
  each =
      All-append (IsFaultOf C g counter image) xs ys
      (All-weaker (IsFaultOf A g counter image) (IsFaultOf C g counter image) (IsFaultOf-more A C g counter image from_first) xs first.each)
      (All-weaker (IsFaultOf B g counter image) (IsFaultOf C g counter image) (IsFaultOf-more B C g counter image from_second) ys second.each);
  whole = λ site among.
      let P = IsRight g counter image site ⊎ Contains (xs ++ ys) (fault_at g image site) in
      elim (cases site among) as (λ _. P) [
        | inl in_first ↦ elim (first.whole site in_first) as (λ _. P) [
          | inl right ↦ inl right
          | inr listed ↦ inr (Contains-append_left xs ys (fault_at g image site) listed)
        ]
        | inr in_second ↦ elim (second.whole site in_second) as (λ _. P) [
          | inl right ↦ inl right
          | inr listed ↦ inr (Contains-append_right xs ys (fault_at g image site) listed)
        ]
      ];
  order =
      AreInOrder-append xs ys first.order second.order
      (All-weaker (IsFaultOf A g counter image) (λ x. All (λ y. ComesBefore x y) ys)
      (λ x of. All-weaker (IsFaultOf B g counter image) (λ y. ComesBefore x y) (λ y of'. rw (of.is, of'.is) (before of.site of'.site of.among of'.among)) ys second.each)
      xs first.each);
}

-- the same sites have the same list
pub Lists-same : (A B : Site → Type 0) (g : Geometry) (counter : ℕ) (image : Image) (faults : List Fault)
    → ((site : Site) → A site → B site) → ((site : Site) → B site → A site)
    → Lists A g counter image faults → Lists B g counter image faults
Lists-same A B g counter image faults to from lists = record {
  each = All-weaker (IsFaultOf A g counter image) (IsFaultOf B g counter image) (IsFaultOf-more A B g counter image to) faults lists.each;
  whole = λ site among. lists.whole site (from site among);
  order = lists.order;
}

-- where all is right the list stays, as it does where there is no site
pub Adds-right : (Among : Site → Type 0) (g : Geometry) (counter : ℕ) (image : Image) (faults : List Fault)
    → ((site : Site) → Among site → IsRight g counter image site)
    → Adds Among g counter image faults faults
Adds-right Among g counter image faults right = record { more = []; added = sym (append-nil faults); lists = Lists-right Among g counter image right }

-- of one site that is wrong the list grows by its fault
pub Adds-wrong : (Among : Site → Type 0) (g : Geometry) (counter : ℕ) (image : Image) (faults : List Fault) (site : Site)
    → Among site → ((other : Site) → Among other → other ≡ site) → (IsRight g counter image site → ⊥)
    → Adds Among g counter image faults (faults ++ fault_at g image site ∷ [])
Adds-wrong Among g counter image faults site among only wrong =
    record { more = fault_at g image site ∷ []; added = refl; lists = Lists-wrong Among g counter image site among only wrong }

-- the list grew by the faults of some sites, and then by those of others, which come behind them
pub Adds-joined : (A B C : Site → Type 0) (g : Geometry) (counter : ℕ) (image : Image) (a b c : List Fault)
    → Adds A g counter image a b → Adds B g counter image b c
    → ((site : Site) → C site → A site ⊎ B site) → ((site : Site) → A site → C site) → ((site : Site) → B site → C site)
    → ((s t : Site) → A s → B t → ComesBefore (fault_at g image s) (fault_at g image t))
    → Adds C g counter image a c
Adds-joined A B C g counter image a b c first second cases from_first from_second before = record {
  more = first.more ++ second.more;
  added = second.added ∙ ap (λ (xs : List Fault). xs ++ second.more) first.added ∙ append_assoc a first.more second.more;
  lists = Lists-joined A B C g counter image first.more second.more first.lists second.lists cases from_first from_second before;
}

-- the same sites add the same faults
pub Adds-same : (A B : Site → Type 0) (g : Geometry) (counter : ℕ) (image : Image) (a b : List Fault) → ((site : Site) → A site → B site)
    → ((site : Site) → B site → A site)
    → Adds A g counter image a b → Adds B g counter image a b
Adds-same A B g counter image a b to from adds = record { more = adds.more; added = adds.added; lists = Lists-same A B g counter image adds.more to from adds.lists }

-- what a list that was empty grew by is the list
pub Adds-lists : (Among : Site → Type 0) (g : Geometry) (counter : ℕ) (image : Image) (faults : List Fault)
    → Adds Among g counter image [] faults → Lists Among g counter image faults
Adds-lists Among g counter image faults adds = rw (adds.added) adds.lists

-- a stage without a fault is passed
pub passed_without_fault : (g : Geometry) (counter : ℕ) (image : Image) (stage : ℕ) → Lists (IsOfStage g image stage) g counter image []
    → IsPassed g counter image stage
passed_without_fault g counter image stage lists site is =
    elim (lists.whole site is) [
      | inl right ↦ right
      | inr listed ↦ let none = listed.1 in absurd (omega (arith, none))
    ]

-- each stage is passed
pub all_passed : (g : Geometry) (counter : ℕ) (image : Image) → AreOfFirst [] g counter image []
all_passed g counter image = refl
