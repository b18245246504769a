-- The windows that are told of, and those that are left.
use Rattle.std.proofs.Common.{◌≡◌, ℕ, suc, false, List, [], ◌∷◌, ◌++◌, length, ap, refl, sym, subst, ◌∙◌}
use Rattle.std.proofs.lemmas.Bool.{false≢true}
use Rattle.std.proofs.lemmas.List.{append_cancel_right}
use Rattle.law_common.proofs.Booleans.{or_both}
use Rattle.usb_base.specs.declared.reports.Report.{Report}
use Rattle.usb_base.specs.declared.reports.What.{What}
use Rattle.usb_base.specs.declared.reports.What.TheVariants as lines
use Rattle.claims_report.specs.Requests.{Request, Window, IsTold, left_by, AreTold}
use Rattle.report_text.specs.ReportText.{bytes_of}
use Rattle.law_queues.specs.told_endpoints.Telling.{lines_in}
use Rattle.law_reports.specs.requests.told_requests.Told.{left_after, has_cancel}
use Rattle.claims_world.specs.Pending.{is_cancel}
use Rattle.law_reports.specs.requests.told_requests.Steps.{WindowsHaveFront, WindowsGrow}

-- a line that is no cancel takes the first window
record TakesFirst (whole : Request → List ℕ) (what : What) (bytes : List ℕ) (ws : List Window) : Type 0 where
  first : Window
  rest : List Window
  are : ws ≡ first ∷ rest
  left : (more : List Window) → left_by what (first ∷ more) ≡ more
  told : (more : List Window) → IsTold whole what bytes (first ∷ more)

takes_first : (whole : Request → List ℕ) (what : What) (bytes : List ℕ) (ws : List Window) → is_cancel what ≡ false → IsTold whole what bytes ws → TakesFirst whole what bytes ws
takes_first whole lines.Done bytes [] none is = absurd is
takes_first whole (lines.Halt cause) bytes [] none is = absurd is
takes_first whole lines.Cancel bytes ws none is = absurd (false≢true (sym none))
takes_first whole lines.Miss bytes [] none is = absurd is
takes_first whole lines.Miss bytes (w ∷ ws) none is = absurd is
takes_first whole (lines.Iso errors) bytes [] none is = absurd is
takes_first whole (lines.Iso errors) bytes (w ∷ ws) none is = absurd is
takes_first whole (lines.Refused n why) bytes [] none is = absurd is
takes_first whole (lines.Refused n why) bytes (w ∷ ws) none is = absurd is
takes_first whole lines.Clear bytes [] none is = absurd is
takes_first whole lines.Clear bytes (w ∷ ws) none is = absurd is
takes_first whole (lines.ClearFailed cause) bytes [] none is = absurd is
takes_first whole (lines.ClearFailed cause) bytes (w ∷ ws) none is = absurd is
takes_first whole (lines.Port port value) bytes [] none is = absurd is
takes_first whole (lines.Port port value) bytes (w ∷ ws) none is = absurd is
takes_first whole (lines.Disk tag passed) bytes [] none is = absurd is
takes_first whole (lines.Disk tag passed) bytes (w ∷ ws) none is = absurd is
takes_first whole lines.DiskReset bytes [] none is = absurd is
takes_first whole lines.DiskReset bytes (w ∷ ws) none is = absurd is
takes_first whole _ bytes (w ∷ ws) none is = record { first = w; rest = ws; are = refl; left = λ more. refl; told = λ more. is }

-- these windows begin the list, one for each line, and whatever follows them, the lines tell of them alone
record HaveFront (whole : Request → List ℕ) (store : List ℕ) (ls : List Report) (ws left : List Window) : Type 0 where
  front : List Window
  are : ws ≡ front ++ left
  long : length front ≡ length ls
  told : (later : List Window) → AreTold whole store (front ++ later) ls
  rest : (later : List Window) → left_after ls (front ++ later) ≡ later

no_lines : (whole : Request → List ℕ) (store : List ℕ) (ws left : List Window) → ws ≡ left → HaveFront whole store [] ws left
no_lines whole store ws left is = record { front = []; are = is; long = refl; told = λ later. tt; rest = λ later. refl }

one_line : (whole : Request → List ℕ) (store : List ℕ) (line : Report) (ls : List Report) (ws left : List Window) (t : TakesFirst whole line.what (bytes_of line store) ws)
    → HaveFront whole store ls (left_by line.what ws) left → HaveFront whole store (line ∷ ls) ws left
one_line whole store line ls ws left t k = record {
  front = t.first ∷ k.front;
  are = t.are ∙ ap (λ (vs : List Window). t.first ∷ vs) (sym (ap (left_by line.what) t.are ∙ t.left t.rest) ∙ k.are);
  long = ap suc k.long;
  told = λ later. (t.told (k.front ++ later), subst (λ (vs : List Window). AreTold whole store vs ls) (sym (t.left (k.front ++ later))) (k.told later));
  rest = λ later. ap (left_after ls) (t.left (k.front ++ later)) ∙ k.rest later;
}

have_front : (whole : Request → List ℕ) (store : List ℕ) (ls : List Report) (ws left : List Window) → has_cancel ls ≡ false → AreTold whole store ws ls → left_after ls ws ≡ left → HaveFront whole store ls ws left
have_front whole store [] ws left none told is = no_lines whole store ws left is
have_front whole store (line ∷ ls) ws left none told is =
    let both = or_both (is_cancel line.what) (has_cancel ls) none in
    one_line whole store line ls ws left (takes_first whole line.what (bytes_of line store) ws both.0 told.0) (have_front whole store ls (left_by line.what ws) left both.1 told.1 is)

pub windows_have_front : WindowsHaveFront
windows_have_front reports store name whole ws left none k =
    let h = have_front whole store (lines_in name reports) ws left none k.told k.rest in (h.front, h.are, h.long)

pub windows_grow : WindowsGrow
windows_grow reports store name whole front left later none k =
    let h = have_front whole store (lines_in name reports) (front ++ left) left none k.told k.rest in
    let same : h.front ≡ front = append_cancel_right h.front front left (sym h.are) in
    record {
      told = subst (λ (vs : List Window). AreTold whole store (vs ++ later) (lines_in name reports)) same (h.told later);
      rest = subst (λ (vs : List Window). left_after (lines_in name reports) (vs ++ later) ≡ later) same (h.rest later);
      stored = k.stored;
    }
