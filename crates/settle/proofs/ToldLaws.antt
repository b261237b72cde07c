-- Facts on what a device tells, where it tells it.
use Rattle.std.proofs.Common.{Option, Some, None}
use Rattle.std.specs.Prelude.{IfSome}
use Rattle.shared_disk.specs.State.{OnImages, Told}
use Rattle.image_view.specs.Images.{Image}

-- what holds of an image that is told
abbrev pub OnImage : Option Told → (Image → Type 0) → Type 0
OnImage told P = IfSome told (λ t. P t.image)

pub told-map : (told : Option Told) (P Q : Image → Type 0) → OnImage told P → ((image : Image) → P image → Q image) → OnImage told Q
told-map None P Q p f = tt
told-map (Some t) P Q p f = f t.image p

pub told-both : (told : Option Told) (P Q R : Image → Type 0) → OnImage told P → OnImage told Q
    → ((image : Image) → P image → Q image → R image) → OnImage told R
told-both None P Q R p q f = tt
told-both (Some t) P Q R p q f = f t.image p q

-- a fact on the image before, over a step
pub told-over : (old new : Option Told) (P Q : Image → Type 0) (R : Image → Image → Type 0) → OnImages R old new → OnImage old P
    → ((i j : Image) → P i → R i j → Q j) → OnImage new Q
told-over None None P Q R r p f = tt
told-over None (Some u) P Q R r p f = absurd r
told-over (Some t) None P Q R r p f = absurd r
told-over (Some t) (Some u) P Q R r p f = f t.image u.image p r

-- and one on the image behind it
pub told-back : (old new : Option Told) (P Q : Image → Type 0) (R : Image → Image → Type 0) → OnImages R old new → OnImage new P
    → ((i j : Image) → P j → R i j → Q i) → OnImage old Q
told-back None None P Q R r p f = tt
told-back None (Some u) P Q R r p f = absurd r
told-back (Some t) None P Q R r p f = absurd r
told-back (Some t) (Some u) P Q R r p f = f t.image u.image p r

-- what a step did, with a fact on the image before it
pub told-step : (old new : Option Told) (P : Image → Type 0) (R S : Image → Image → Type 0) → OnImages R old new → OnImage old P
    → ((i j : Image) → P i → R i j → S i j) → OnImages S old new
told-step None None P R S r p f = tt
told-step None (Some u) P R S r p f = absurd r
told-step (Some t) None P R S r p f = absurd r
told-step (Some t) (Some u) P R S r p f = f t.image u.image p r

-- with facts on both images
pub told-ends : (old new : Option Told) (P Q : Image → Type 0) (R S : Image → Image → Type 0) → OnImages R old new → OnImage old P → OnImage new Q
    → ((i j : Image) → P i → Q j → R i j → S i j) → OnImages S old new
told-ends None None P Q R S r p q f = tt
told-ends None (Some u) P Q R S r p q f = absurd r
told-ends (Some t) None P Q R S r p q f = absurd r
told-ends (Some t) (Some u) P Q R S r p q f = f t.image u.image p q r

-- two steps, one behind the other
pub told-join : (old mid new : Option Told) (R S T : Image → Image → Type 0) → OnImages R old mid → OnImages S mid new
    → ((i j k : Image) → R i j → S j k → T i k) → OnImages T old new
told-join None None None R S T r s f = tt
told-join None None (Some v) R S T r s f = absurd s
told-join None (Some u) new R S T r s f = absurd r
told-join (Some t) None new R S T r s f = absurd r
told-join (Some t) (Some u) None R S T r s f = absurd s
told-join (Some t) (Some u) (Some v) R S T r s f = f t.image u.image v.image r s

-- a step that leaves what is told
pub told-same : (told : Option Told) (P : Image → Type 0) (R : Image → Image → Type 0) → OnImage told P → ((image : Image) → P image → R image image)
    → OnImages R told told
told-same None P R p f = tt
told-same (Some t) P R p f = f t.image p

-- two steps, with a fact on the image between them
pub told-through : (old mid new : Option Told) (P : Image → Type 0) (R S T : Image → Image → Type 0) → OnImages R old mid → OnImage mid P
    → OnImages S mid new → ((i j k : Image) → R i j → P j → S j k → T i k) → OnImages T old new
told-through None None None P R S T r p s f = tt
told-through None None (Some v) P R S T r p s f = absurd s
told-through None (Some u) new P R S T r p s f = absurd r
told-through (Some t) None new P R S T r p s f = absurd r
told-through (Some t) (Some u) None P R S T r p s f = absurd s
told-through (Some t) (Some u) (Some v) P R S T r p s f = f t.image u.image v.image r p s

-- what follows of what a step did
pub told-weaker : (old new : Option Told) (R S : Image → Image → Type 0) → OnImages R old new → ((i j : Image) → R i j → S i j) → OnImages S old new
told-weaker None None R S r f = tt
told-weaker None (Some u) R S r f = absurd r
told-weaker (Some t) None R S r f = absurd r
told-weaker (Some t) (Some u) R S r f = f t.image u.image r

-- what it says of the image before it, and of the one behind it
pub told-first : (old new : Option Told) (P : Image → Type 0) (R : Image → Image → Type 0) → OnImages R old new → ((i j : Image) → R i j → P i) → OnImage old P
told-first None None P R r f = tt
told-first None (Some u) P R r f = absurd r
told-first (Some t) None P R r f = absurd r
told-first (Some t) (Some u) P R r f = f t.image u.image r

pub told-last : (old new : Option Told) (P : Image → Type 0) (R : Image → Image → Type 0) → OnImages R old new → ((i j : Image) → R i j → P j) → OnImage new P
told-last None None P R r f = tt
told-last None (Some u) P R r f = absurd r
told-last (Some t) None P R r f = absurd r
told-last (Some t) (Some u) P R r f = f t.image u.image r
