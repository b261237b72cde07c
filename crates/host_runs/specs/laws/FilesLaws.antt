-- The history of a run is legal, and each image on the way is valid and has the files of a front of it.
use Rattle.std.proofs.Common.{◌≡◌, ◌<◌, ◌≤◌, ◌++◌, ◌∷◌, ◌&&◌, ℕ, zero, suc, Bool, true, false, List, [], Option, Some, None, All, length, refl, ap, sym, ◌∙◌, subst, inl, inr, arith, append-nil, get_or-set_other, get_or-set_same}
use Rattle.std.specs.Prelude.{IfSome, IsTrue, nat_lt, slice_index_or, slice_set}
use Rattle.std.proofs.lemmas.Bool.{cases_eq, ltb-true}
use Rattle.vol_base.specs.PlainCalls.{plain_call_of}
use Rattle.vol_base.specs.declared.answer.Answer.{Answer}
use Rattle.vol_base.specs.declared.answer.Turn.TheVariants.{Answered, Idle, Moved, Work}
use Rattle.vol_base.specs.declared.block.Block.{Block}
use Rattle.vol_base.specs.declared.block.Digest.{Digest}
use Rattle.vol_base.specs.declared.command.Command.{Command}
use Rattle.vol_base.specs.declared.command.Command.TheVariants as commands
use Rattle.vol_base.specs.declared.plain.PlainCall.{PlainCall}
use Rattle.vol_base.specs.declared.plain.PlainReply.{PlainReply}
use Rattle.vol_layout.specs.declared.geometry.Geometry.{Geometry}
use Rattle.vol_layout.specs.Ranges.{limit}
use Rattle.plain_files.specs.Calls.{after, file_no, outcome, reply_of}
use Rattle.plain_files.specs.History.{IsLegal, call_at, state_after}
use Rattle.plain_files.specs.Plain.{Plain, file_of}
use Rattle.plain_files.specs.declared.history.Placed.{Placed}
use Rattle.plain_files.specs.laws.HistoryLaws.{IsLegal-push, after_entry-call, length-state_after, limit-state_after, state_after-push}
use Rattle.workload.specs.Ranges.{is_in_range}
use Rattle.workload.specs.Workloads.{IsAllowed}
use Rattle.workload.specs.declared.line.Line.{Line}
use Rattle.workload.specs.declared.line.Workload.{Workload}
use Rattle.shared_disk.specs.Prefixes.{Prefixes}
use Rattle.shared_disk.specs.Seen.{DiskSeen}
use Rattle.shared_disk.specs.State.{OnImages, Told}
use Rattle.shared_disk.specs.laws.PrefixLaws.{IfSome-told_after, Prefixes-noted, Prefixes-weaker, Prefixes-wrote}
use Rattle.image_view.specs.Files.{HasFiles, image_file}
use Rattle.image_view.specs.Images.{Image, geometry_of}
use Rattle.image_view.specs.Valid.{IsBlankOrValid, IsValid}
use Rattle.image_view.specs.laws.GeometryLaws.{IsVolume-valid}
use Rattle.image_view.specs.laws.ValidLaws.{IsValid-later}
use Rattle.histories.specs.Fronts.{AreFrontsUpTo, IsImageUpTo}
use Rattle.histories.specs.laws.FrontLaws.{AreFrontsUpTo-begun}
use Rattle.histories.specs.laws.PushLaws.{all_at}
use Rattle.histories.specs.LineCalls.{calls_of}
use Rattle.histories.specs.Lines.{IsLine}
use Rattle.host_runs.specs.Awaited.{awaited}
use Rattle.host_runs.specs.DeviceCalls.{OnImage}
use Rattle.call_effects.specs.Places.{IsAfterCall, IsReplyOf, KeepsFiles, Places}
use Rattle.host_runs.specs.RunStates.{RunState, entry_at, opening}
use Rattle.host_runs.specs.Runs.{IsCall, NextPhase, Run, RunCall, Supplies, Turns, supplied}
use Rattle.host_runs.specs.Steps.{IsStep}
use Rattle.host_runs.specs.laws.RunLaws.{run-keeps}
use Rattle.shared_disk.specs.laws.CalledLaws.{TellsOnce}
use Rattle.host_runs.specs.lemmas.CalledLaws.{counter_once, told_once}

-- plain files of the volume's greatest length and number of files
pub record IsPlainOf (g : Geometry) (p : Plain) : Type 0 where
  pub limit : p.limit ≡ limit g
  pub files : length p.files ≡ g.files

-- the image is valid, its files are those that the history leaves, and the history is legal
pub record IsLedTo (w : Workload) (p : Plain) (counter : ℕ) (history : List Placed) (image : Image) : Type 0 where
  pub valid : IsValid w.geometry counter image
  pub files : HasFiles image (state_after (calls_of w.lines) p history)
  pub legal : IsLegal (calls_of w.lines) p history

-- what a run owes to the files that its first image has: where the device tells its content, the history is legal from them, the
-- last image is valid and has the files that the history leaves, and each image on the way has those of a front
pub record IsLed (w : Workload) (p : Plain) (first : Option Told) (s : RunState) : Type 0 where
  pub last : OnImage s.device.state (IsLedTo w p s.device.state.counter s.history)
  pub fronts : AreFrontsUpTo s.device.state.counter (calls_of w.lines) p first s.device.state.told s.history

-- the plain call of a line
call_at-line : (lines : List Line) (position : ℕ) (line : Line) → IsLine lines position line
    → call_at (calls_of lines) position ≡ plain_call_of line.command
call_at-line [] position line is = absurd cc
call_at-line (first ∷ lines) zero line is = let same : first ≡ line = cc in ap (λ (l : Line). plain_call_of l.command) same
call_at-line (first ∷ lines) (suc position) line is = call_at-line lines position line is

-- an image whose files are plain files, before a plain call and after it
after_files : (g : Geometry) (p : Plain) (call : PlainCall) (old new : Image) → IsPlainOf g p → file_no call < g.files → HasFiles old p
    → IsAfterCall g call old new
    → HasFiles new (after p call)
unfolding after
after_files g p call old new plain below files made f =
    let x = (outcome p.limit call (file_of p (file_no call))).1 in
    elim (cases_eq f (file_no call)) [
      | inl same ↦
          let named : image_file new f ≡ x = ap (image_file new) same ∙ made.named ∙ rw (files (file_no call), plain.limit) refl in
          named ∙ sym (ap (λ (n : ℕ). slice_index_or (slice_set p.files (file_no call) x) n None) same ∙ get_or-set_same p.files (file_no call) x None (omega (arith, below, plain.files)))
      | inr other ↦ made.others f other ∙ files f ∙ sym (get_or-set_other p.files (file_no call) f x None other)
    ]

plain_reply : (g : Geometry) (p : Plain) (call : PlainCall) (reply : PlainReply) (old : Image) → IsPlainOf g p → HasFiles old p
    → IsReplyOf g call reply old
    → reply ≡ reply_of p call
unfolding reply_of
plain_reply g p call reply old plain files is = is ∙ rw (files (file_no call), plain.limit) refl

plain_after : (w : Workload) (p : Plain) (history : List Placed) → IsPlainOf w.geometry p
    → IsPlainOf w.geometry (state_after (calls_of w.lines) p history)
plain_after w p history plain = record {
  limit = limit-state_after (calls_of w.lines) p history ∙ plain.limit;
  files = length-state_after (calls_of w.lines) p history ∙ plain.files;
}

-- a turn in which nothing has its place
led_kept : (w : Workload) (p : Plain) (before counter : ℕ) (history : List Placed) (old new : Image)
    → IsLedTo w p before history old → IsValid w.geometry counter new → KeepsFiles old new → IsLedTo w p counter (history ++ []) new
led_kept w p before counter history old new led valid keeps =
    subst (λ (h : List Placed). IsLedTo w p counter h new) (sym (append-nil history))
    (record { valid = valid; files = λ f. keeps f ∙ led.files f; legal = led.legal })

-- a turn in which a plain call has its place, or none
led_placed : (w : Workload) (p : Plain) (before counter : ℕ) (history : List Placed) (position : ℕ) (call : Option PlainCall)
    → (placed : Option PlainReply) (old new : Image)
    → IsPlainOf w.geometry p → call_at (calls_of w.lines) position ≡ call → IfSome call (λ c. file_no c < w.geometry.files)
    → IsLedTo w p before history old → IsValid w.geometry counter new → Places w.geometry call placed old new
    → IsLedTo w p counter (history ++ entry_at position placed) new
led_placed w p before counter history position None None old new plain at below led valid keeps = led_kept w p before counter history old new led valid keeps
led_placed w p before counter history position None (Some reply) old new plain at below led valid keeps = absurd keeps
led_placed w p before counter history position (Some call) None old new plain at below led valid keeps = led_kept w p before counter history old new led valid keeps
led_placed w p before counter history position (Some call) (Some reply) old new plain at below led valid made =
    let calls = calls_of w.lines in
    let entry : Placed = record { line = position; reply = reply } in
    let q = state_after calls p history in
    let so_far = plain_after w p history plain in
    let files = after_files w.geometry q call old new so_far below led.files made.1 in
    let replied = plain_reply w.geometry q call reply old so_far led.files made.0 in
    record {
      valid = valid;
      files = subst (λ (r : Plain). HasFiles new r) (sym (state_after-push calls p history entry ∙ after_entry-call calls q entry call at)) files;
      legal = IsLegal-push calls p history entry led.legal (rw at replied);
    }

-- the file of an allowed line's plain call is one of the volume's
both_true : (a b : Bool) → IsTrue (a && b) → IsTrue a
both_true true b h = refl
both_true false b h = absurd cc

line_below : (g : Geometry) (command : Command) → IsTrue (is_in_range g command) → IfSome (plain_call_of command) (λ c. file_no c < g.files)
line_below g (commands.Create f) h = ltb-true f g.files h
line_below g (commands.Size f n) h = ltb-true f g.files (both_true (nat_lt f g.files) _ h)
line_below g (commands.Write f i n) h = ltb-true f g.files (both_true (nat_lt f g.files) _ h)
line_below g (commands.Read f i) h = ltb-true f g.files (both_true (nat_lt f g.files) _ h)
line_below g (commands.Punch f i) h = ltb-true f g.files (both_true (nat_lt f g.files) _ h)
line_below g (commands.Remove f) h = ltb-true f g.files h
line_below g command h = tt

volume_later : (counter later : ℕ) (image : Image) → counter ≤ later → IsBlankOrValid counter image → IsBlankOrValid later image
volume_later counter later image le (inl blank) = inl blank
volume_later counter later image le (inr valid) = inr (IsValid-later (geometry_of image) counter later image le valid)

-- each image that stands for a front stands for it under a later counter
fronts-later : (w : Workload) (p : Plain) (counter later : ℕ) (first last : Option Told) (history : List Placed) → counter ≤ later
    → AreFrontsUpTo counter (calls_of w.lines) p first last history → AreFrontsUpTo later (calls_of w.lines) p first last history
unfolding AreFrontsUpTo
fronts-later w p counter later first last history le fronts =
    Prefixes-weaker (IsImageUpTo counter (calls_of w.lines) p) (IsImageUpTo later (calls_of w.lines) p) first last history
    (λ image h is. record { volume = volume_later counter later image le is.volume; files = is.files }) fronts

-- one stage more, at whose end the image stands for the whole
fronts-more : (w : Workload) (p : Plain) (counter : ℕ) (first old new : Option Told) (before more : List Placed)
    → AreFrontsUpTo counter (calls_of w.lines) p first old before → TellsOnce old new
    → IfSome new (λ told. IsImageUpTo counter (calls_of w.lines) p told.image (before ++ more))
    → AreFrontsUpTo counter (calls_of w.lines) p first new (before ++ more)
unfolding AreFrontsUpTo
fronts-more w p counter first old new before more fronts (inl same) ends =
    let here = subst (λ (t : Option Told). IfSome t (λ told. IsImageUpTo counter (calls_of w.lines) p told.image (before ++ more))) same ends in
    subst (λ (t : Option Told). Prefixes (IsImageUpTo counter (calls_of w.lines) p) first t (before ++ more)) (sym same)
    (Prefixes-noted (IsImageUpTo counter (calls_of w.lines) p) first old before more fronts here)
fronts-more w p counter first old new before more fronts (inr wrote) ends =
    let here = subst (λ (t : Option Told). IfSome t (λ told. IsImageUpTo counter (calls_of w.lines) p told.image (before ++ more))) wrote.2 ends in
    subst (λ (t : Option Told). Prefixes (IsImageUpTo counter (calls_of w.lines) p) first t (before ++ more)) (sym wrote.2)
    (Prefixes-wrote (IsImageUpTo counter (calls_of w.lines) p) first old wrote.0 wrote.1 before more fronts
    (IfSome-told_after (λ image. IsImageUpTo counter (calls_of w.lines) p image (before ++ more)) old wrote.0 wrote.1 here))

image_of : (w : Workload) (p : Plain) (counter : ℕ) (history : List Placed) (told : Option Told)
    → IfSome told (λ t. IsLedTo w p counter history t.image) → IfSome told (λ t. IsImageUpTo counter (calls_of w.lines) p t.image history)
image_of w p counter history None led = tt
image_of w p counter history (Some told) led = record { volume = inr (IsVolume-valid w.geometry counter told.image led.valid); files = led.files }

-- what is led to at the end of a turn
led_told : (w : Workload) (p : Plain) (before counter : ℕ) (history : List Placed) (position : ℕ) (call : Option PlainCall)
    → (placed : Option PlainReply) (old new : Option Told)
    → IsPlainOf w.geometry p → call_at (calls_of w.lines) position ≡ call → IfSome call (λ c. file_no c < w.geometry.files)
    → IfSome old (λ t. IsLedTo w p before history t.image) → IfSome new (λ t. IsValid w.geometry counter t.image)
    → OnImages (Places w.geometry call placed) old new → IfSome new (λ t. IsLedTo w p counter (history ++ entry_at position placed) t.image)
led_told w p before counter history position call placed None None plain at below led valid places = tt
led_told w p before counter history position call placed None (Some t) plain at below led valid places = absurd places
led_told w p before counter history position call placed (Some s) None plain at below led valid places = absurd places
led_told w p before counter history position call placed (Some s) (Some t) plain at below led valid places =
    led_placed w p before counter history position call placed s.image t.image plain at below led valid places

led_step : (w : Workload) (p : Plain) (first : Option Told) (host : ℕ) (ended : Option Answer) (s t : RunState)
    → All (IsAllowed w.geometry) w.lines → IsPlainOf w.geometry p
    → IsLed w p first s → IsStep w host ended s t → IsLed w p first t
led_step w p first host ended s t allowed plain led step =
    let line_allowed = all_at (IsAllowed w.geometry) w.lines step.position step.line allowed step.at.is in
    let last = led_told w p s.device.state.counter t.device.state.counter s.history step.position (plain_call_of step.line.command) step.placed
    s.device.state.told t.device.state.told plain (call_at-line w.lines step.position step.line step.at.is)
    (line_below w.geometry step.line.command line_allowed.range) led.last step.valid step.files in
    let le = counter_once step.made s.device t.device step.acts in
    let fronts = fronts-more w p t.device.state.counter first s.device.state.told t.device.state.told s.history (entry_at step.position step.placed)
    (fronts-later w p s.device.state.counter t.device.state.counter first s.device.state.told s.history le led.fronts)
    (told_once step.made s.device t.device step.acts)
    (image_of w p t.device.state.counter (s.history ++ entry_at step.position step.placed) t.device.state.told last) in
    record { last = rw step.history_is last; fronts = rw step.history_is fronts }

led_supplied : (w : Workload) (p : Plain) (first : Option Told) (host : ℕ) (digest : Digest) (block : Option Block) (s : RunState)
    → IsLed w p first s → IsLed w p first (supplied host digest block s)
led_supplied w p first host digest None s led = led
led_supplied w p first host digest (Some block) s led = record { last = led.last; fronts = led.fronts }

led_call : (w : Workload) (p : Plain) (first : Option Told) → All (IsAllowed w.geometry) w.lines → IsPlainOf w.geometry p
    → (call : RunCall) (s t : RunState) → IsLed w p first s → IsCall w call s t → IsLed w p first t
led_call w p first allowed plain (Turns host Idle) s t led is = subst (IsLed w p first) (sym is.1) led
led_call w p first allowed plain (Turns host (Work block)) s t led is = subst (IsLed w p first) (sym is.1) led
led_call w p first allowed plain (Turns host Moved) s t led is = led_step w p first host None s t allowed plain led is
led_call w p first allowed plain (Turns host (Answered answer)) s t led is = led_step w p first host (Some answer) s t allowed plain led is
led_call w p first allowed plain (Supplies host digest) s t led is = subst (IsLed w p first) (sym is) (led_supplied w p first host digest (awaited w s host) s led)
led_call w p first allowed plain NextPhase s t led is = subst (IsLed w p first) (sym is.phase) (record { last = led.last; fronts = led.fronts })

first_led : (w : Workload) (p : Plain) (counter : ℕ) (told : Option Told) → IfSome told (λ t. IsValid w.geometry counter t.image)
    → IfSome told (λ t. HasFiles t.image p)
    → IfSome told (λ t. IsLedTo w p counter [] t.image)
first_led w p counter None valid files = tt
first_led w p counter (Some told) valid files = record { valid = valid; files = files; legal = tt }

-- a run from a valid image with these files
pub led-run : (w : Workload) (device : DiskSeen) (calls : List RunCall) (t : RunState) (p : Plain) → All (IsAllowed w.geometry) w.lines
    → IsPlainOf w.geometry p
    → OnImage device.state (IsValid w.geometry device.state.counter) → OnImage device.state (λ image. HasFiles image p)
    → Run w (opening w device) calls t → IsLed w p device.state.told t
led-run w device calls t p allowed plain valid files run =
    let last = first_led w p device.state.counter device.state.told valid files in
    run-keeps w (IsLed w p device.state.told) (led_call w p device.state.told allowed plain) (opening w device) calls t
    (record {
      last = last;
      fronts = AreFrontsUpTo-begun device.state.counter (calls_of w.lines) p device.state.told [] (image_of w p device.state.counter [] device.state.told last);
    })
    run
