-- Where a walk of the ring may go (EHCI 1.0, 4.8 and 4.8.2): to the head, to the queue heads in the ring, and to those that have left since
-- the last answered doorbell was rung.
--     AreNoHeads d               no endpoint's queue head has the bit H of the head of the reclamation list
--     KeepsWalk d p new          the walk is among them in its place `new`, if it was in its place p, whose words stand for the ring
--     OpensNumbered cmd          and so do those of an endpoint that is to be opened
use Rattle.std.specs.Prelude.{◌≡◌, ℕ, false, slice_get, Some}
use Rattle.usb_base.specs.declared.commands.Cmd.{Cmd}
use Rattle.usb_base.specs.declared.commands.Cmd.TheVariants as commands
use Rattle.link_words.specs.Layout.{is_set}
use Rattle.async_walk.specs.Rows.{WalkPlace}
use Rattle.drv_table.specs.declared.content.Endpoint.{Endpoint}
use Rattle.drv_table.specs.DriverContent.{DriverContent}
use Rattle.claims_driver.specs.Ring.{link_in}
use Rattle.law_driver.specs.ring_members.Words.{IsRing}
use Rattle.claims_driver.specs.InPlace.{characteristics, AreFixed}
use Rattle.claims_driver.specs.Walk.{IsWalkIn, IsNumbered}

abbrev pub AreNoHeads : DriverContent → Type 0
AreNoHeads d = (e : ℕ) (x : Endpoint) → slice_get d.endpoints e ≡ Some x → is_set 15 (characteristics x.desc) ≡ false

abbrev pub KeepsWalk : DriverContent → WalkPlace → WalkPlace → Type 0
KeepsWalk d p new =
    IsRing (link_in p.memory) d → AreFixed p.memory d → AreNoHeads d → IsWalkIn d p.registers p.walk → IsWalkIn d new.registers new.walk

abbrev pub OpensNumbered : Cmd → Type 0
OpensNumbered (commands.OpenEp x) = IsNumbered x
OpensNumbered (commands.Get name len by) = Unit {0}
OpensNumbered (commands.Put name bytes by) = Unit {0}
OpensNumbered (commands.Control name setup bytes) = Unit {0}
OpensNumbered (commands.Iso name count len seed) = Unit {0}
OpensNumbered (commands.Cancel name) = Unit {0}
OpensNumbered _ = Unit {0}
