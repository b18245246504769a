-- The structures that tell memory lead as its words do; so at the begin of a microframe those that stand are met alone.
use Rattle.std.proofs.Common.{◌≡◌, ℕ, ◌+◌, ◌*◌, Bool, List, Option, Some, None, ap, refl, sym, subst, ◌∙◌, arith}
use Rattle.std.specs.Prelude.{slice_index}
use Rattle.law_descriptors.proofs.Common.{first_of_words, further}
use Rattle.law_controller.proofs.Common.{word_there}
use Rattle.word_mem.specs.Memory.{Mem, word_at}
use Rattle.link_words.specs.Links.{link_of, link_read}
use Rattle.qh_qtd.specs.QueueHead.{qh_words}
use Rattle.qh_qtd.proofs.QhLaws.{qh_read-words, qh_read-link}
use Rattle.itd_sitd.specs.Itd.{itd_words}
use Rattle.itd_sitd.specs.Sitd.{sitd_words}
use Rattle.itd_sitd.proofs.ItdLaws.{itd_read-words, itd_read-link}
use Rattle.itd_sitd.proofs.SitdLaws.{sitd_read-words, sitd_read-link}
use Rattle.drv_chains.specs.declared.members.Predecessor.TheVariants.{Element}
use Rattle.drv_periodic.specs.Periodic.{address_of}
use Rattle.drv_table.specs.DriverContent.{DriverContent}
use Rattle.hc_core.specs.declared.controller.MicroframePart.TheVariants.{Over}
use Rattle.hc_core.specs.Controller.{Content, began}
use Rattle.law_structures.specs.lent_structures.Structures.{Structure, QueueHead, Isochronous, SplitIsochronous, StructureSets, Holds, Tells}
use Rattle.law_ring.specs.Hand.{Hand}
use Rattle.claims_base.specs.Controller.{Base}
use Rattle.law_controller.specs.controlled_streams.Control.{FrameList}
use Rattle.law_frames.specs.Met.{Kind, LeadsTo}
use Rattle.law_frames.specs.FrameHand.{FrameHand, Nothing}
use Rattle.law_controller.specs.frame_control.Both.{LeadToMet, RunsBoth}
use Rattle.law_controller.specs.frame_stores.Stores.{link_in, IsMetFurther, AreMetAmong}
use Rattle.law_controller.proofs.lemmas.frame_stores.Framing.{leads_further}
use Rattle.law_controller.proofs.lemmas.frame_stores.Beside.{begin_meets_fewer}
use Rattle.law_descriptors.specs.Meeting.{standing, no_recent, or_recent, met}
use Rattle.law_descriptors.specs.RowLaws.{HasFrames}
use Rattle.law_descriptors.proofs.Leading.{elements_lead_to_standing, members_lead_to_standing}

-- ---- the first word of a structure is its link

pub leads_as : (met : ℕ → Option Kind) (m : Mem) (a : ℕ) (s : Structure) → Holds m a s → LeadsTo met (link_read (word_at m a)) → LeadsTo met (link_in s)
leads_as met m a (QueueHead q) h leads =
    let is : link_of q.link ≡ link_read (word_at m a)
    = qh_read-link (qh_words q) q (qh_read-words q h.range) ∙ ap (λ ws. link_read (slice_index ws 0)) (sym h.words) ∙ ap link_read (first_of_words m a 12 (omega arith)) in
    subst (LeadsTo met) (sym is) leads
leads_as met m a (Isochronous v) h leads =
    let is : link_of v.link ≡ link_read (word_at m a)
    = itd_read-link (itd_words v) v (itd_read-words v h.range) ∙ ap (λ ws. link_read (slice_index ws 0)) (sym h.words) ∙ ap link_read (first_of_words m a 16 (omega arith)) in
    subst (LeadsTo met) (sym is) leads
leads_as met m a (SplitIsochronous v) h leads =
    let is : link_of v.link ≡ link_read (word_at m a)
    = sitd_read-link (sitd_words v) v (sitd_read-words v h.range) ∙ ap (λ ws. link_read (slice_index ws 0)) (sym h.words) ∙ ap link_read (first_of_words m a 7 (omega arith)) in
    subst (LeadsTo met) (sym is) leads
leads_as met m a _ h leads = tt

pub standing_are_closed : (m : Mem) (d : DriverContent) (parts : StructureSets) → HasFrames m d → Tells m parts
    → AreMetAmong (standing d) parts
standing_are_closed m d parts frames told n kind s on here = leads_as (standing d) m n s (told.each n n s here) (members_lead_to_standing m d n kind frames on)

pub list_leads_to_standing : (m : Mem) (d : DriverContent) (parts : StructureSets) (base : Base) → HasFrames m d → Tells m parts → base.periodic_list_base ≡ 32 * d.periodic.list.list → (list : FrameList parts base) → LeadToMet (standing d) list.words
list_leads_to_standing m d parts base frames told is list i below =
    let at : word_at m (address_of d.periodic.list.list (Element i)) ≡ slice_index list.words i
    = ap (λ (a : ℕ). word_at m (a + 4 * i)) (sym is) ∙ word_there m base parts i told list below in
    subst (λ (w : ℕ). LeadsTo (standing d) (link_read w)) at (elements_lead_to_standing m d i frames below)

-- ---- at the begin of a microframe

alone : (o : Option Kind) → or_recent o None ≡ o
alone None = refl
alone (Some kind) = refl

pub standing_met : (d : DriverContent) (recent : ℕ → Option Kind) → IsMetFurther (standing d) (met d recent)
standing_met d recent n kind is = further (standing d n) (recent n) kind is

pub met_standing : (d : DriverContent) → IsMetFurther (met d no_recent) (standing d)
met_standing d n kind is = sym (alone (standing d n)) ∙ is

pub none_closed : (d : DriverContent) (parts : StructureSets) → AreMetAmong (standing d) parts → AreMetAmong (met d no_recent) parts
none_closed d parts closed n kind s on here = leads_further (standing d) (met d no_recent) (link_in s) (standing_met d no_recent) (closed n kind s (met_standing d n kind on) here)

pub none_listed : (d : DriverContent) (words : List ℕ) → LeadToMet (standing d) words → LeadToMet (met d no_recent) words
none_listed d words leads i below = leads_further (standing d) (met d no_recent) (link_read (slice_index words i)) (standing_met d no_recent) (leads i below)

pub begin_meets_members : (base : Base) (member : ℕ → Bool) (recent : ℕ → Option Kind) (parts : StructureSets) (hand : Hand) (frame : FrameHand) (c : Content) (d : DriverContent) (allowed : Bool) → RunsBoth base member (met d recent) parts hand frame c → c.control.part ≡ Over → HasFrames c.memory d → base.periodic_list_base ≡ 32 * d.periodic.list.list → RunsBoth base member (met d no_recent) parts hand Nothing (began allowed c)
begin_meets_members base member recent parts hand frame c d allowed runs over frames is =
    begin_meets_fewer base member (met d recent) (met d no_recent) parts hand frame c allowed runs over
    (λ n kind on. standing_met d recent n kind (met_standing d n kind on))
    (none_closed d parts (standing_are_closed c.memory d parts frames runs.ring.tells)) runs.list
    (none_listed d runs.list.words (list_leads_to_standing c.memory d parts base frames runs.ring.tells is runs.list))
