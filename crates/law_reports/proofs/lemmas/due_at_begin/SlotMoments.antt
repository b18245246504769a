-- The walk of the frames comes to each slot that was due as the microframe began, while no cancel of its endpoint is accepted; so it is
-- done once the walk is over.
use Rattle.std.proofs.Common.{◌≡◌, ◌≢◌, ℕ, ◌∷◌, Bool, true, false, if◌then◌else◌, List, Option, Some, None, ap, refl, sym, subst, ◌∙◌, inl, inr}
use Rattle.law_frames.proofs.Common.{early_below}
use Rattle.word_mem.specs.Memory.{Mem}
use Rattle.itd_sitd.specs.Itd.{slot_of}
use Rattle.hc_interrupt.specs.Turns.{microframe_of}
use Rattle.periodic_walk.specs.declared.chain.ChainRow.{ChainRow}
use Rattle.periodic_walk.specs.declared.chain.ChainRow.TheVariants as chains
use Rattle.periodic_walk.specs.declared.state.Hand.{Hand}
use Rattle.periodic_walk.specs.Chain.{chain_row}
use Rattle.hc_core.specs.declared.controller.ControllerRow.{ControllerRow}
use Rattle.hc_core.specs.declared.controller.ControllerRow.TheVariants as rows
use Rattle.bus_wire.specs.Bus.{Fixed}
use Rattle.bus_world.specs.World.{World, controller_row, driver_next, commanded}
use Rattle.claims_world.specs.Reach.{ItdAt}
use Rattle.claims_world.specs.Slots.{Slots, no_slots, active_by, active_at, slots_after}
use Rattle.claims_world.specs.SlotsAtBegin.{IsLinkedAs, IsSlotDueAtBegin}
use Rattle.claims_world.specs.Visits.{HasVisited, fetched_by}
use Rattle.law_world.specs.memory.Mixed.{IsMixedWorld}
use Rattle.law_microframes.proofs.lemmas.due.lemmas.slots.Moments.{texts_serve_slots}
use Rattle.law_reports.specs.due_at_begin.Laws.{TextsDoSlotsAtBegin}
use Rattle.law_reports.proofs.lemmas.due_at_begin.DescriptorMoments.{AreFollowed, what_is_due_is_found}
use Rattle.law_reports.proofs.lemmas.due_at_begin.SlotAhead.{IsActiveThere, its_part, active_read, active_there, active_some, aside_active}
use Rattle.law_reports.proofs.lemmas.due_at_begin.SlotAhead.{fetched_there, walked_active}

abbrev Stands : (b : World) (n : ℕ) → IsSlotDueAtBegin b n → Mem → Type 0
Stands b n d m = IsActiveThere m n (microframe_of b.control.frame.index)

abbrev Found : (b : World) (n : ℕ) → IsSlotDueAtBegin b n → Slots → Type 0
Found b n d t = HasVisited n t.active

-- ---- what is fetched is found

more_if : (b : Bool) (n a : ℕ) (bs : List ℕ) → HasVisited n bs → HasVisited n (if b then a ∷ bs else bs)
more_if true n a bs was = inr was
more_if false n a bs was = was

more_by : (n u : ℕ) (row : ChainRow) (bs : List ℕ) → HasVisited n bs → HasVisited n (active_by u row bs)
more_by n u chains.Fault bs was = was
more_by n u chains.Ends bs was = was
more_by n u (chains.Queue a q) bs was = was
more_by n u (chains.Itd a v) bs was = more_if (slot_of u v).active n a bs was
more_by n u (chains.Sitd a v) bs was = was

more_at : (n u : ℕ) (hand : Option Hand) (row : ChainRow) (bs : List ℕ) → HasVisited n bs → HasVisited n (active_at hand u row bs)
more_at n u None row bs was = more_by n u row bs was
more_at n u (Some hand) row bs was = was

more : (row : ControllerRow) → row ≢ rows.Begin → (w b : World) (n : ℕ) (d : IsSlotDueAtBegin b n) (t : Slots) → Found b n d t
    → Found b n d (slots_after row w t)
more rows.Begin other w b n d t found = absurd (other refl)
more rows.Frame other w b n d t found =
    more_at n (microframe_of w.control.frame.index) w.control.frame.hand (chain_row w.memory w.control.frame.cursor) t.active found
more rows.Idle other w b n d t found = found
more rows.Enter other w b n d t found = found
more rows.Go other w b n d t found = found
more rows.End other w b n d t found = found

comes : (fixed : Fixed) (w : World) (k : IsMixedWorld w) → controller_row w ≡ rows.Frame → (b : World) (n : ℕ) (d : IsSlotDueAtBegin b n)
    (t : Slots) → IsLinkedAs ItdAt w n → Stands b n d w.memory → w.control.frame.index ≡ b.control.frame.index → w.control.frame.hand ≡ None
    → fetched_by (chain_row w.memory w.control.frame.cursor) ≡ Some n → Found b n d (slots_after rows.Frame w t)
comes fixed w k row b n d t l on index none is =
    let v = (its_part w k n l.reached).itd in
    let active : (slot_of (microframe_of w.control.frame.index) v).active ≡ true =
    ap (λ (i : ℕ). (slot_of (microframe_of i) v).active) index
    ∙ active_there w k n l.reached (microframe_of b.control.frame.index) (early_below b.control.frame.index) on in
    subst (λ (h : Option Hand). HasVisited n
    (active_at h (microframe_of w.control.frame.index) (chain_row w.memory w.control.frame.cursor) t.active)) (sym none)
    (subst (λ (r : ChainRow). HasVisited n (active_by (microframe_of w.control.frame.index) r t.active))
    (sym (fetched_there fixed w k row n l.reached is))
    (subst (λ (x : Bool). HasVisited n (if x then n ∷ t.active else t.active)) (sym active) (inl refl)))

-- ---- slots

slots_are_followed : AreFollowed false Slots no_slots slots_after IsSlotDueAtBegin Stands Found
slots_are_followed = record {
  linked = λ b n d. d.linked;
  begins = λ b k n d.
      active_read b k n d.linked.reached (microframe_of b.control.frame.index) d.itd (early_below b.control.frame.index) d.read d.active;
  active = λ w k b n d l on.
      active_some w k n l.reached (microframe_of b.control.frame.index) (early_below b.control.frame.index) on;
  walked = λ fixed w k row b n d l apart on.
      walked_active fixed w k row n l.reached apart (microframe_of b.control.frame.index) (early_below b.control.frame.index) on;
  comes = comes;
  more = more;
  driven = λ w k later leaves b n d l still on.
      aside_active w k n l.reached (driver_next w).memory leaves (microframe_of b.control.frame.index)
      (early_below b.control.frame.index) on;
  offered = λ w k line cmd leaves b n d l on.
      aside_active w k n l.reached (commanded w line cmd).memory leaves (microframe_of b.control.frame.index)
      (early_below b.control.frame.index) on;
}

pub texts_do_slots_at_begin : TextsDoSlotsAtBegin
texts_do_slots_at_begin = λ text s spelled k n past free few d stays.
    subst (HasVisited n) (sym (texts_serve_slots text s spelled k past free few))
    (what_is_due_is_found false Slots no_slots slots_after IsSlotDueAtBegin Stands Found slots_are_followed text s spelled k n d past
    stays).found
