-- The time that is left in a microframe for a visit (EHCI 1.0, 4.4 and 4.10.3): whether a transaction of it is skipped since its price
-- passes that time.
--     late_in p rs      one of the visit does, over these replies
--     ending p rs       the place at the end of the visit, or where these replies lead
use Rattle.std.specs.Prelude.{Bool, false, ◌&&◌, ◌||◌, is_none, is_some, List, [], ◌∷◌, if◌then◌else◌}
use Rattle.usb_base.specs.declared.packets.Reply.{Reply}
use Rattle.periodic_walk.specs.Place.{FramePlace}
use Rattle.law_budgets.specs.visit_prices.Prices.{after}
use Rattle.claims_world.specs.InTime.{is_late}

unfoldable pub late_in : FramePlace → List Reply → Bool
late_in p [] = false
late_in p (r ∷ rs) = is_some p.walk.hand && (is_late p || late_in (after p r) rs)

unfoldable pub ending : FramePlace → List Reply → FramePlace
ending p [] = p
ending p (r ∷ rs) = if is_none p.walk.hand then p else ending (after p r) rs
