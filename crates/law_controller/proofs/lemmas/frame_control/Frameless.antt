-- The controller over a ring alone is the controller over both where no frame has a structure.
use Rattle.std.proofs.Common.{◌≡◌, ℕ, Bool, true, List, slice_index, Option, Some, None, ap, refl, sym, subst, ◌∙◌}
use Rattle.std.proofs.lemmas.Bool.{true≢false}
use Rattle.law_frames.proofs.Common.{none_some}
use Rattle.link_words.specs.declared.kinds.Link.{Link}
use Rattle.link_words.specs.declared.kinds.Link.TheVariants as links
use Rattle.link_words.specs.Links.{link_read, is_end}
use Rattle.periodic_walk.specs.declared.state.Hand.{Hand as Held}
use Rattle.periodic_walk.specs.Walk.{over_at, is_over}
use Rattle.periodic_walk.specs.Place.{FramePlace}
use Rattle.hc_core.specs.declared.controller.MicroframePart.TheVariants.{Periodic}
use Rattle.hc_core.specs.Controller.{Content, frame_place}
use Rattle.law_structures.specs.lent_structures.Structures.{StructureSets}
use Rattle.law_ring.specs.Hand.{Hand}
use Rattle.claims_base.specs.Controller.{Base}
use Rattle.law_controller.specs.controlled_streams.Control.{AreEmpty, IsFrameless, off, empty, IsControlled}
use Rattle.law_frames.specs.Met.{AQueue, AnItd, ASitd, LeadsTo}
use Rattle.law_frames.specs.FrameHand.{Nothing}
use Rattle.law_frames.specs.Frame.{IsFrameWalk}
use Rattle.law_controller.specs.frame_control.Both.{RunsBoth}

-- a link that leads to none ends its chain
ends : (l : Link) → LeadsTo (λ n. None) l → l ≡ links.End
ends links.End to = refl
ends (links.Itd a) to = absurd (none_some AnItd to)
ends (links.Qh a) to = absurd (none_some AQueue to)
ends (links.Sitd a) to = absurd (none_some ASitd to)
ends (links.Fstn a) to = absurd to

leads : (l : Link) → l ≡ links.End → LeadsTo (λ n. None) l
leads l is = subst (LeadsTo (λ n. None)) (sym is) tt

-- ---- the walk of the frames is over

is_the_end : (l : Link) → is_end l ≡ true → l ≡ links.End
is_the_end links.End is = refl
is_the_end _ is = absurd (true≢false (sym is))

over_hand : (hand : Option Held) (l : Link) → over_at hand l ≡ true → hand ≡ None
over_hand None l is = refl
over_hand (Some h) l is = absurd (true≢false (sym is))

over_cursor : (hand : Option Held) (l : Link) → over_at hand l ≡ true → l ≡ links.End
over_cursor None l is = is_the_end l is
over_cursor (Some h) l is = absurd (true≢false (sym is))

over_walk : (parts : StructureSets) (p : FramePlace) → is_over p.walk ≡ true → IsFrameWalk (λ n. None) parts Nothing p
over_walk parts p is = record { cursor = leads p.walk.cursor (over_cursor p.walk.hand p.walk.cursor is); held = over_hand p.walk.hand p.walk.cursor is; in_hand = tt }

walk_over : (parts : StructureSets) (p : FramePlace) → IsFrameWalk (λ n. None) parts Nothing p → is_over p.walk ≡ true
walk_over parts p w = ap (λ (hand : Option Held). over_at hand p.walk.cursor) w.held ∙ ap is_end (ends p.walk.cursor w.cursor)

-- ---- both ways

empty_words : (base : Base) (words : List ℕ) (c : Content) → base.periodic_enable ≡ true → IsFrameless base words c → AreEmpty words
empty_words base words c on (off is) = absurd (true≢false (sym on ∙ is))
empty_words base words c on (empty none over) = none

over_before : (base : Base) (words : List ℕ) (c : Content) → base.periodic_enable ≡ true → IsFrameless base words c → c.control.part ≡ Periodic → is_over c.control.frame ≡ true
over_before base words c on (off is) part = absurd (true≢false (sym on ∙ is))
over_before base words c on (empty none over) part = over part

pub a_frameless_list_has_nothing_met : (base : Base) (member : ℕ → Bool) (parts : StructureSets) (hand : Hand) (c : Content) → base.periodic_enable ≡ true → IsControlled base member parts hand c → RunsBoth base member (λ n. None) parts hand Nothing c
a_frameless_list_has_nothing_met base member parts hand c on k = record {
  ring = k.ring;
  between = k.between;
  list = k.list;
  elements = λ i below. leads (link_read (slice_index k.list.words i)) (empty_words base k.list.words c on k.frameless i below);
  members = λ n kind is. absurd (none_some kind is);
  apart = λ n kind is. absurd (none_some kind is);
  walk = λ part. over_walk parts (frame_place c) (over_before base k.list.words c on k.frameless part);
  outside = λ part. refl;
}

pub frames_without_structures_are_frameless : (base : Base) (member : ℕ → Bool) (parts : StructureSets) (hand : Hand) (c : Content) → RunsBoth base member (λ n. None) parts hand Nothing c → IsControlled base member parts hand c
frames_without_structures_are_frameless base member parts hand c k = record {
  ring = k.ring;
  between = k.between;
  list = k.list;
  frameless = empty (λ i below. ends (link_read (slice_index k.list.words i)) (k.elements i below)) (λ part. walk_over parts (frame_place c) (k.walk part));
}
