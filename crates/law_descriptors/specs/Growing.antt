-- Whom the walk meets once the next store of the frame list was made (EHCI 1.0, 4.6).
--     IsLeftOut p w m          the store that was made is the last that unlinks m
--     StoresKeepMembers        each of these stays one, but the one whose last unlinking store was made
--     AreApartFrom d recent    no recent one stands
--     KeepsMembers d new later each member that stands stands then, or is recent then
--     MembersStayMet           so all that were met are met as what they were
use Rattle.std.specs.Prelude.{◌≡◌, ◌⊎◌, ℕ, ◌*◌, ◌/◌, true, false, Option, Some, None}
use Rattle.drv_chains.specs.declared.members.Member.{Member}
use Rattle.drv_chains.specs.Chains.{id_of, is_the}
use Rattle.drv_members.specs.Members.{is_linked}
use Rattle.law_frame_words.specs.frame_words.InWords.{IsSpread}
use Rattle.drv_periodic.specs.declared.work.Work.{Work}
use Rattle.drv_periodic.specs.Periodic.{Periodic, is_more, after_store}
use Rattle.drv_table.specs.DriverContent.{DriverContent}
use Rattle.law_frames.specs.Met.{Kind}
use Rattle.law_controller.specs.frame_stores.Stores.{IsMetFurther}
use Rattle.law_descriptors.specs.Meeting.{kind_of, standing, met}
use Rattle.claims_driver.specs.Unlinked.{led_in, led}

pub record IsLeftOut (p : Periodic) (w : Work) (m : Member) : Type 0 where
  pub removes : w.removes ≡ true
  pub last : is_more p.members.schedule w ≡ false
  pub is : is_the w.member m ≡ true

abbrev pub StoresKeepMembers : Type 0
StoresKeepMembers = (p : Periodic) (w : Work) (m : Member) → p.work ≡ Some w → is_linked (led_in p) m ≡ true → (is_linked (led_in (after_store p)) m ≡ true) ⊎ IsLeftOut p w m

abbrev pub AreApartFrom : DriverContent → (ℕ → Option Kind) → Type 0
AreApartFrom d recent = (n : ℕ) (kind : Kind) → recent n ≡ Some kind → standing d n ≡ None

abbrev pub KeepsMembers : DriverContent → DriverContent → (ℕ → Option Kind) → Type 0
KeepsMembers d new later = (m : Member) → is_linked (led d) m ≡ true → (is_linked (led new) m ≡ true) ⊎ (later (32 * (id_of m / 32)) ≡ Some (kind_of d.periodic m))

abbrev pub MembersStayMet : Type 0
MembersStayMet = (d new : DriverContent) (recent later : ℕ → Option Kind) → IsSpread d.periodic.list.list d.periodic.list.members.schedule
    → IsSpread new.periodic.list.list new.periodic.list.members.schedule → new.periodic.notes ≡ d.periodic.notes → KeepsMembers d new later → IsMetFurther recent later → AreApartFrom new later
    → IsMetFurther (met d recent) (met new later)
