-- The boundary of an unlinked member (EHCI 1.0, 2.3.4 and 4.6): the controller may still hold it until a frame later than that of its last
-- unlinking store has begun. So two readings of FRINDEX since that store, with different frame numbers, show that it is let go.
--     frame_number n           the frame number in a reading, FRINDEX[13:3]
--     after_reading n b        what was seen after one reading more
--     after_readings ns b      .. after these readings, the first one first
--     is_seen b                two readings with different frame numbers came
--     differ ns                two of these readings have different frame numbers
use Rattle.std.specs.Prelude.{ℕ, ◌/◌, ◌%◌, Bool, true, false, not, nat_eq, if◌then◌else◌, List, [], ◌∷◌}
use Rattle.std.specs.List.{list_any}
use Rattle.drv_chains.specs.declared.boundary.Boundary.{Boundary}
use Rattle.drv_chains.specs.declared.boundary.Boundary.TheVariants.{Unread, Since, Seen}

abbrev pub frame_number : ℕ → ℕ
frame_number n = n / 8 % 2048

abbrev pub after_reading : ℕ → Boundary → Boundary
after_reading n Unread = Since (frame_number n)
after_reading n (Since first) = if nat_eq (frame_number n) first then Since first else Seen
after_reading n Seen = Seen

unfoldable pub after_readings : List ℕ → Boundary → Boundary
after_readings [] b = b
after_readings (n ∷ ns) b = after_readings ns (after_reading n b)

abbrev pub is_seen : Boundary → Bool
is_seen Unread = false
is_seen (Since first) = false
is_seen Seen = true

abbrev pub differ : List ℕ → Bool
differ [] = false
differ (n ∷ ns) = list_any (λ m. not (nat_eq (frame_number m) (frame_number n))) ns
