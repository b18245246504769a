-- What has left the chains and may still be in the controller's hand (EHCI 1.0, 2.3.4 and 4.6), in the order of the last unlinking stores.
--     Left                    what has left, each with what was read of the frame index since, and for how many there is room
--     left_more l id          one more has left, and nothing was read since
--     after_frame n l         one more reading of FRINDEX
--     first_gone l            the first whose boundary is seen
--     without_gone l          .. is one of them no more
use Rattle.std.specs.Prelude.{ℕ, Bool, List, [], ◌∷◌, ◌++◌, map, Option, option_map}
use Rattle.std.specs.List.{find, before_first, after_first}
use Rattle.drv_chains.specs.Boundary.{after_reading, is_seen}
use Rattle.drv_chains.specs.declared.boundary.Boundary.TheVariants.{Unread}
use Rattle.drv_periodic.specs.declared.departures.Departure.{Departure}

pub record Left : Type 0 where
  pub departures : List Departure
  pub room : ℕ

abbrev pub departed : ℕ → Departure
departed id = record { id = id; boundary = Unread }

abbrev pub left_more : Left → ℕ → Left
left_more l id = record l { departures = l.departures ++ departed id ∷ [] }

abbrev pub read_by : ℕ → Departure → Departure
read_by n d = record d { boundary = after_reading n d.boundary }

abbrev pub after_frame : ℕ → Left → Left
after_frame n l = record l { departures = map (read_by n) l.departures }

abbrev pub is_gone : Departure → Bool
is_gone d = is_seen d.boundary

abbrev pub first_gone : Left → Option ℕ
first_gone l = option_map (λ d. d.id) (find is_gone l.departures)

abbrev pub without_gone : Left → Left
without_gone l = record l { departures = before_first is_gone l.departures ++ after_first is_gone l.departures }
