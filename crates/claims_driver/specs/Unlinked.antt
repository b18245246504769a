-- Members of the frame list to which a word may lead, and those that were unlinked (EHCI 1.0, 2.3.4, 4.6 and 4.7): they may be met until
-- FRINDEX was read with another frame number.
--     led_by s work                    the members of the schedule without one whose linking has made no store
--     led d                            the driver's members to which a word may lead
--     IsOpenAt index b                 at this FRINDEX no reading came that had another frame number
use Rattle.std.specs.Prelude.{◌≡◌, ℕ, ◌*◌, Bool, true, false, ◌||◌, nat_lt, List, slice_get, Option, Some, if◌then◌else◌, None}
use Rattle.drv_chains.specs.declared.boundary.Boundary.{Boundary}
use Rattle.drv_chains.specs.declared.boundary.Boundary.TheVariants.{Unread, Since, Seen}
use Rattle.drv_chains.specs.Boundary.{frame_number}
use Rattle.drv_chains.specs.Chains.{Schedule}
use Rattle.drv_members.specs.Members.{without_member}
use Rattle.drv_periodic.specs.declared.work.Work.{Work}
use Rattle.drv_periodic.specs.Periodic.{Periodic}
use Rattle.drv_table.specs.DriverContent.{DriverContent}

-- ---- members to which a word may lead

-- it is unlinked, or one of the stores that link it was made
abbrev pub is_led : Work → Bool
is_led w = w.removes || nat_lt 0 w.made

abbrev pub led_by : Schedule → Option Work → Schedule
led_by s None = s
led_by s (Some w) = if is_led w then s else without_member s w.member

abbrev pub led_in : Periodic → Schedule
led_in p = led_by p.members.schedule p.work

abbrev pub led : DriverContent → Schedule
led d = led_in d.periodic.list

abbrev pub IsOpenAt : ℕ → Boundary → Type 0
IsOpenAt index Unread = Unit {0}
IsOpenAt index (Since first) = first ≡ frame_number index
IsOpenAt index Seen = ⊥
