-- Where in the ring a microframe leaves its walk (EHCI 1.0, 4.8).
--     RingStands w     the cursor is at the queue head whose copy is in hand
--     IsPlaced c       it is so, and while the ring is walked nothing of the frame is in hand
--     PlaceIsKept      the place that is kept is the walk's own, where the ring's walk ended the microframe
use Rattle.std.specs.Prelude.{◌≡◌, ℕ, true, List, None, IfSome}
use Rattle.link_words.specs.declared.kinds.Link.TheVariants as links
use Rattle.async_walk.specs.declared.state.Cursor.TheVariants as cursors
use Rattle.async_walk.specs.Walk.{Walk, cursor_address}
use Rattle.hc_core.specs.declared.controller.ControllerRow.TheVariants as rows
use Rattle.hc_core.specs.declared.controller.MicroframePart.TheVariants.{Asynchronous}
use Rattle.hc_core.specs.Controller.{Content, microframe_row}
use Rattle.hc_microframe.specs.declared.state.State.{State}
use Rattle.hc_microframe.specs.Answers.{Told}
use Rattle.hc_microframe.specs.Microframe.{IsMade}

abbrev pub RingStands : Walk → Type 0
RingStands w = IfSome w.held (λ h. w.cursor ≡ cursors.At (links.Qh h.at))

pub record IsPlaced (c : Content) : Type 0 where
  pub ring : RingStands c.control.walk
  pub frame : c.control.part ≡ Asynchronous → c.control.frame.hand ≡ None

-- Its last event is one of the ring's walk, and Run is 1 after it: the walk ended for the time or at the head of the ring. Then the next
-- microframe begins where that walk would go on; 0 is the start of the ring.
abbrev pub PlaceIsKept : Type 0
PlaceIsKept = (s : State) (words : List ℕ) (desk : Told) (n : ℕ) (new : State) (left : List ℕ) (after : Told)
    → (m : IsMade s words desk n new left after) → microframe_row m.over.old.registers m.over.old.control ≡ rows.Go
    → m.end.registers.run ≡ true → new.cursor ≡ cursor_address m.end.control.walk.cursor
