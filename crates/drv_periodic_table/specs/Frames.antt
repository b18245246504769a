-- The frames of the descriptors of a command (EHCI 1.0, 2.3.4, 3.1 and 4.6). The list has 1,024 elements, and each comes again after 1,024
-- frames.
--     list_frame n             the element at which the list stands, by a reading of FRINDEX
--     next_frame p f           the first frame of the placement at or after frame f
--     frames_from p f k        frame k of those that begin with f, one period after the other
--     first_frame p n last     the first frame of a command: one period after the last descriptor that is outstanding, or where none is the
--                              first of the placement at least two frames after the present one
use Rattle.std.specs.Prelude.{ℕ, ◌+◌, ◌-◌, ◌*◌, ◌/◌, ◌%◌, Option, Some, None}
use Rattle.usb_base.specs.Limits.{frame_list_length}
use Rattle.bandwidth.specs.declared.placements.Placement.{Placement}
use Rattle.bandwidth.specs.Placements.{frame_period}

abbrev pub list_frame : ℕ → ℕ
list_frame n = n / 8 % frame_list_length

abbrev pub next_frame : Placement → ℕ → ℕ
next_frame p f = (f + (p.phase + frame_period p.period - f % frame_period p.period) % frame_period p.period) % frame_list_length

abbrev pub frames_from : Placement → ℕ → ℕ → ℕ
frames_from p f k = (f + k * frame_period p.period) % frame_list_length

abbrev pub first_frame : Placement → ℕ → Option ℕ → ℕ
first_frame p n None = next_frame p (list_frame n + 2)
first_frame p n (Some last) = frames_from p last 1
