-- Where the walk of the frames goes on to a descriptor of which something is active, it is for the frame of the microframe.
use Rattle.std.proofs.Common.{◌≡◌, ℕ, ◌⊎◌, true, Some, ap, sym, ◌∙◌, ⊎_elim, inl, inr}
use Rattle.word_mem.specs.Memory.{Mem}
use Rattle.drv_chains.specs.declared.members.Member.{Member}
use Rattle.drv_chains.specs.Chains.{stands_in}
use Rattle.drv_members.specs.Members.{is_linked}
use Rattle.drv_table.specs.DriverContent.{DriverContent}
use Rattle.law_frames.specs.Met.{Kind}
use Rattle.law_descriptors.specs.Meeting.{standing}
use Rattle.claims_driver.specs.Unlinked.{led}
use Rattle.bus_world.specs.World.{World}
use Rattle.bus_world.specs.Budgets.{moment}
use Rattle.law_world.specs.memory.Mixed.{Standing, IsMixedAt}
use Rattle.claims_world.specs.Visits.{begins, frame_in, visited}
use Rattle.law_microframes.specs.visits.OneDescriptor.{IsActiveDescriptor, IsAloneAs}
use Rattle.law_microframes.specs.visits.Began.{began, StandsAlone, WaitsLeft}
use Rattle.law_microframes.specs.visits.ActiveFrames.{NextIsInFrame, AloneIsInFrame, VisitsGoOnInFrame, ScriptsGoOnInFrame}
use Rattle.law_microframes.proofs.lemmas.visits.VisitsKept.{scripts_visit}
use Rattle.law_microframes.proofs.lemmas.visits.ActiveStands.{active_stands, active_is_met}

-- who stands alone stands in no other frame
pub alone_in : (d : DriverContent) (who : ℕ → Member) (n f g : ℕ) → ((x : Member) → is_linked (led d) x ≡ true → who (begins x) ≡ x) → StandsAlone d n f → stands_in g (who n) ≡ true → g ≡ f
alone_in d who n f g stand x is =
    let same : who n ≡ x.member = ap who (sym x.at) ∙ stand x.member x.linked in
    x.alone g (sym (ap (stands_in g) same) ∙ is)

pub alone_is_in_frame : AloneIsInFrame
alone_is_in_frame w kept height who vs e f n next alone a = sym (alone e f (frame_in w.control.frame.index) a next.stands)

pub next_is_in_frame : NextIsInFrame
next_is_in_frame s w left kept height who vs e f n kind k one are stand next is a =
    ⊎_elim {C = (f ≡ frame_in w.control.frame.index) ⊎ WaitsLeft w.driver left n e}
    (λ (x : StandsAlone w.driver n f). inl (sym (alone_in w.driver who n f (frame_in w.control.frame.index) stand x next.stands))) (λ (x : WaitsLeft w.driver left n e). inr x)
    (active_is_met s w left e f n kind k one are is a)

-- ---- it goes on

-- where what is active was so before
pub alone_stays : (d new : DriverContent) (m later : Mem) (n : ℕ) (x : Member) → ((e f : ℕ) → IsActiveDescriptor new later e f n → IsActiveDescriptor d m e f n) → IsAloneAs d m n x → IsAloneAs new later n x
alone_stays d new m later n x back alone e f g a stands = alone e f g (back e f a) stands

pub standing_is_alone : (s : Standing) (w : World) (who : ℕ → Member) (n : ℕ) (kind : Kind) → IsMixedAt s w → standing w.driver n ≡ Some kind
    → ((x : Member) → is_linked (led w.driver) x ≡ true → who (begins x) ≡ x) → IsAloneAs w.driver w.memory n (who n)
standing_is_alone s w who n kind k is stand e f g a stands = alone_in w.driver who n f g stand (active_stands s w e f n kind k is a) stands

-- ---- along a run

pub visits_go_on_in_frame : VisitsGoOnInFrame
visits_go_on_in_frame start w vs e f n v ahead a =
    let next = v.behind.next n ahead.periodic ahead.next in sym (v.alone n next.is_kept e f (frame_in w.control.frame.index) a next.stands)

pub scripts_go_on_in_frame : ScriptsGoOnInFrame
scripts_go_on_in_frame s fit bytes fits k e f n ahead a =
    visits_go_on_in_frame (began s k) (moment s k).world (visited s k) e f n (scripts_visit s fit bytes fits k).visits ahead a
