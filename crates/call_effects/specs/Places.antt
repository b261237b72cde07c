-- When a step of a command is the place of a plain call in the history.
use Rattle.std.specs.Prelude.{◌≡◌, ◌≢◌, ℕ, None, Option, Some}
use Rattle.vol_base.specs.declared.plain.PlainCall.{PlainCall}
use Rattle.vol_base.specs.declared.plain.PlainReply.{PlainReply}
use Rattle.vol_layout.specs.declared.geometry.Geometry.{Geometry}
use Rattle.vol_layout.specs.Ranges.{limit}
use Rattle.plain_files.specs.Calls.{file_no, outcome}
use Rattle.image_view.specs.Files.{image_file}
use Rattle.image_view.specs.Images.{Image}

-- the reply is that of plain files
abbrev pub IsReplyOf : Geometry → PlainCall → PlainReply → Image → Type 0
IsReplyOf g call reply image = reply ≡ (outcome (limit g) call (image_file image (file_no call))).0

-- the files are those that the plain call leaves
pub record IsAfterCall (g : Geometry) (call : PlainCall) (old new : Image) : Type 0 where
  pub named : image_file new (file_no call) ≡ (outcome (limit g) call (image_file old (file_no call))).1
  pub others : (f : ℕ) → f ≢ file_no call → image_file new f ≡ image_file old f

-- no file changed
abbrev pub KeepsFiles : Image → Image → Type 0
KeepsFiles old new = (f : ℕ) → image_file new f ≡ image_file old f

-- the step did the plain call, which got this reply
abbrev pub IsPlaced : Geometry → PlainCall → PlainReply → Image → Image → Type 0
IsPlaced g call reply old new = IsReplyOf g call reply old × IsAfterCall g call old new

-- a step that is a call's place did the call on the files, and every other step left them; only a plain call has a place
abbrev pub Places : Geometry → Option PlainCall → Option PlainReply → Image → Image → Type 0
Places g call None old new = KeepsFiles old new
Places g (Some call) (Some reply) old new = IsPlaced g call reply old new
Places g None (Some reply) old new = ⊥
