-- The controller can come to the queue head of an interrupt endpoint in its frames, by the links of each of them, and to an isochronous
-- descriptor by those of its frame (EHCI 1.0, 3.1, 4.4 and 4.6).
use Rattle.std.proofs.Common.{◌≡◌, ℕ, ◌+◌, ◌*◌, ◌<◌, Bool, true, false, Option, Some, ap, refl, sym, subst, ◌∙◌, inr}
use Rattle.std.proofs.lemmas.Option.{same_Some}
use Rattle.law_common.proofs.Options.{none_some}
use Rattle.word_mem.specs.Memory.{word_at}
use Rattle.link_words.specs.declared.kinds.Link.{Link}
use Rattle.link_words.specs.Links.{link_of, link_read}
use Rattle.qh_qtd.specs.declared.queue_head.Qh.{Qh}
use Rattle.mem_queues.specs.Structures.{queue_head_at_address}
use Rattle.mem_descriptors.specs.Descriptors.{itd_at_address, sitd_at_address}
use Rattle.bandwidth.specs.declared.placements.Placement.{Placement}
use Rattle.bandwidth.specs.Sums.{is_active}
use Rattle.drv_periodic_table.specs.Periodic.{queue_name}
use Rattle.periodic_walk.specs.Chain.{queue_fetch, itd_fetch, sitd_fetch}
use Rattle.hc_core.specs.Controller.{Content}
use Rattle.claims_base.specs.Controller.{opening_base}
use Rattle.claims_world.specs.Coming.{IsInItsFrames}
use Rattle.claims_world.specs.Reach.{Reached, QueueAt, ItdAt, SitdAt, FstnAt, leads_to, element_at, Reaches}
use Rattle.claims_world.specs.Visits.{name_of, next_of, IsLedTo, is_there, leads_on, IsInChain}
use Rattle.law_structures.specs.lent_structures.Structures.{StructureSets, Structure, QueueHead, Isochronous, SplitIsochronous}
use Rattle.law_structures.proofs.lemmas.lent_structures.Reading.{itd_read_there, sitd_read_there}
use Rattle.law_frames.specs.Met.{Kind, AQueue, AnItd, ASitd, IsMetItd, IsMetSitd}
use Rattle.law_controller.specs.frame_control.Both.{RunsBoth}
use Rattle.law_descriptors.specs.Both.{both}
use Rattle.law_descriptors.specs.Meeting.{kind_of_descriptor, met}
use Rattle.bus_world.specs.World.{World, controller_parts}
use Rattle.law_world.specs.memory.Mixed.{Standing, IsMixedAt, IsMixedWorld}
use Rattle.law_world.proofs.lemmas.memory.WaysThere.{IsToldQueue, queue_told, told, told_read}
use Rattle.law_microframes.proofs.lemmas.visits.VisitLinks.{queue_is_read, itd_is_read, sitd_is_read}
use Rattle.law_microframes.proofs.lemmas.due.Coming.{its_frames_lead}
use Rattle.law_microframes.proofs.lemmas.due.FetchedKinds.{begins_there, its_member}
use Rattle.law_microframes.proofs.lemmas.due.Linked.{queue_met}
use Rattle.itd_sitd.specs.declared.itd.Itd.{Itd}
use Rattle.itd_sitd.specs.declared.sitd.Sitd.{Sitd}
use Rattle.link_words.specs.declared.kinds.Link.TheVariants as links
use Rattle.claims_world.specs.Reach as reach

not_itd : ◌≡◌ {A = Option Kind} (Some AQueue) (Some AnItd) → ⊥
not_itd is = cc

not_sitd : ◌≡◌ {A = Option Kind} (Some AQueue) (Some ASitd) → ⊥
not_sitd is = cc

itd_or_sitd : ◌≡◌ {A = Option Kind} (Some AnItd) (Some ASitd) → ⊥
itd_or_sitd is = cc

no_split : (q : Qh) (v : Sitd) → ◌≡◌ {A = Option Structure} (Some (QueueHead q)) (Some (SplitIsochronous v)) → ⊥
no_split q v is = cc

-- what a descriptor is that is a siTD, or none
abbrev pub structure_at : Bool → ℕ → Reached
structure_at true n = SitdAt n
structure_at false n = ItdAt n

no_queue : (q : Qh) (v : Itd) → ◌≡◌ {A = Option Structure} (Some (QueueHead q)) (Some (Isochronous v)) → ⊥
no_queue q v is = cc

module _ (s : Standing) (w : World) (k : IsMixedAt s w) (n : ℕ) where
  abbrev c : Content
  c = controller_parts w

  abbrev all : StructureSets
  all = both s.descs s.parts

  runs : RunsBoth opening_base s.member (met w.driver s.recent) (both s.descs s.parts) s.hand s.frame (controller_parts w)
  runs = k.now.framed.runs

  abbrev Leads : Link → Type 0
  Leads l = (t : Reached) → leads_to l ≡ Some t → Reaches (controller_parts w) t

  queue_at : (a : ℕ) → Reaches (controller_parts w) (QueueAt a)
      → IsToldQueue opening_base s.member (met w.driver s.recent) (both s.descs s.parts) s.hand s.frame (controller_parts w) runs a
  queue_at a way =
      queue_told opening_base s.member (met w.driver s.recent) all s.hand s.frame c runs a
      (told opening_base s.member (met w.driver s.recent) all s.hand s.frame c runs (QueueAt a) way)

  itd_at : (a : ℕ) → Reaches (controller_parts w) (ItdAt a) → met w.driver s.recent a ≡ Some AnItd
  itd_at a way = told opening_base s.member (met w.driver s.recent) all s.hand s.frame c runs (ItdAt a) way

  sitd_at : (a : ℕ) → Reaches (controller_parts w) (SitdAt a) → met w.driver s.recent a ≡ Some ASitd
  sitd_at a way = told opening_base s.member (met w.driver s.recent) all s.hand s.frame c runs (SitdAt a) way

  -- the structure is there already, or its link leads on
  module _ (target : Reached) (there : (l : Link) → name_of l ≡ Some n → ((t : Reached) → leads_to l ≡ Some t
      → Reaches (controller_parts w) t) → Reaches (controller_parts w) target) where
    reach_on : (o : Option ℕ) → IsLedTo w.memory n o → (l : Link) → name_of l ≡ o → Leads l → Reaches (controller_parts w) target
    reach_on _ is_there l is way = there l is way
    reach_on _ (leads_on a more) links.End is way = absurd (none_some a is)
    reach_on _ (leads_on a more) (links.Itd b) is way =
        let m : IsMetItd (met w.driver s.recent) b (both s.descs s.parts b) = runs.members b AnItd (itd_at b (way (ItdAt b) refl)) in
        let read : itd_at_address w.memory b ≡ Some m.itd = itd_read_there w.memory all b b m.itd runs.ring.tells m.here in
        let link : link_of m.itd.link ≡ link_read (word_at w.memory b) =
        (itd_is_read w.memory (links.Itd b) b m.itd (ap (itd_fetch b) read)).next in
        reach_on (next_of w.memory a) more (link_of m.itd.link)
        (ap name_of link ∙ ap (next_of w.memory) (same_Some b a is))
        (λ t leads. reach.behind_itd b m.itd t (way (ItdAt b) refl) read leads)
    reach_on _ (leads_on a more) (links.Qh b) is way =
        let x = queue_at b (way (QueueAt b) refl) in
        let read : queue_head_at_address w.memory b ≡ Some x.part_is.queue =
        told_read opening_base s.member (met w.driver s.recent) all s.hand s.frame c runs b x in
        let link : link_of x.part_is.queue.link ≡ link_read (word_at w.memory b) =
        (queue_is_read w.memory (links.Qh b) b x.part_is.queue (ap (queue_fetch b) read)).next in
        reach_on (next_of w.memory a) more (link_of x.part_is.queue.link)
        (ap name_of link ∙ ap (next_of w.memory) (same_Some b a is))
        (λ t leads. reach.behind_queue b x.part_is.queue t (way (QueueAt b) refl) read leads)
    reach_on _ (leads_on a more) (links.Sitd b) is way =
        let m : IsMetSitd (met w.driver s.recent) b (both s.descs s.parts b) = runs.members b ASitd (sitd_at b (way (SitdAt b) refl)) in
        let read : sitd_at_address w.memory b ≡ Some m.sitd = sitd_read_there w.memory all b b m.sitd runs.ring.tells m.here in
        let link : link_of m.sitd.link ≡ link_read (word_at w.memory b) =
        (sitd_is_read w.memory (links.Sitd b) b m.sitd (ap (sitd_fetch b) read)).next in
        reach_on (next_of w.memory a) more (link_of m.sitd.link)
        (ap name_of link ∙ ap (next_of w.memory) (same_Some b a is))
        (λ t leads. reach.behind_sitd b m.sitd t (way (SitdAt b) refl) read leads)
    reach_on _ (leads_on a more) (links.Fstn b) is way =
        absurd (told opening_base s.member (met w.driver s.recent) all s.hand s.frame c runs (FstnAt b) (way (FstnAt b) refl))

    chain_leads : (f : ℕ) → f < 1024 → IsInChain w f n → Reaches (controller_parts w) target
    chain_leads f low led =
        reach_on (next_of w.memory (w.registers.periodic_list_base + 4 * f)) led (element_at c f) refl
        (λ t leads. reach.element f t low leads)

  module _ (on : met w.driver s.recent n ≡ Some AQueue) where
    queue_there : (l : Link) → name_of l ≡ Some n → Leads l → Reaches (controller_parts w) (QueueAt n)
    queue_there links.End is way = absurd (none_some n is)
    queue_there (links.Itd a) is way =
        absurd (not_itd (sym on ∙ ap (met w.driver s.recent) (sym (same_Some a n is)) ∙ itd_at a (way (ItdAt a) refl)))
    queue_there (links.Qh a) is way =
        subst (λ (i : ℕ). Reaches (controller_parts w) (QueueAt i)) (same_Some a n is) (way (QueueAt a) refl)
    queue_there (links.Sitd a) is way =
        absurd (not_sitd (sym on ∙ ap (met w.driver s.recent) (sym (same_Some a n is)) ∙ sitd_at a (way (SitdAt a) refl)))
    queue_there (links.Fstn a) is way =
        absurd (told opening_base s.member (met w.driver s.recent) all s.hand s.frame c runs (FstnAt a) (way (FstnAt a) refl))

    pub chain_reached : (f : ℕ) → f < 1024 → IsInChain w f n → Reaches (controller_parts w) (QueueAt n)
    chain_reached = chain_leads (QueueAt n) queue_there

  module _ (on : met w.driver s.recent n ≡ Some AnItd) where
    its : IsMetItd (met w.driver s.recent) n (both s.descs s.parts n)
    its = runs.members n AnItd on

    itd_there : (l : Link) → name_of l ≡ Some n → Leads l → Reaches (controller_parts w) (ItdAt n)
    itd_there links.End is way = absurd (none_some n is)
    itd_there (links.Itd a) is way =
        subst (λ (i : ℕ). Reaches (controller_parts w) (ItdAt i)) (same_Some a n is) (way (ItdAt a) refl)
    itd_there (links.Qh a) is way =
        let x = queue_at a (way (QueueAt a) refl) in
        absurd (no_queue x.part_is.queue its.itd
        (sym x.part_is.here ∙ ap (λ (i : ℕ). both s.descs s.parts i i) (same_Some a n is) ∙ its.here))
    itd_there (links.Sitd a) is way =
        absurd (itd_or_sitd (sym on ∙ ap (met w.driver s.recent) (sym (same_Some a n is)) ∙ sitd_at a (way (SitdAt a) refl)))
    itd_there (links.Fstn a) is way =
        absurd (told opening_base s.member (met w.driver s.recent) all s.hand s.frame c runs (FstnAt a) (way (FstnAt a) refl))

    itd_reached : (f : ℕ) → f < 1024 → IsInChain w f n → Reaches (controller_parts w) (ItdAt n)
    itd_reached = chain_leads (ItdAt n) itd_there

  module _ (on : met w.driver s.recent n ≡ Some ASitd) where
    its_sitd : IsMetSitd (met w.driver s.recent) n (both s.descs s.parts n)
    its_sitd = runs.members n ASitd on

    sitd_there : (l : Link) → name_of l ≡ Some n → Leads l → Reaches (controller_parts w) (SitdAt n)
    sitd_there links.End is way = absurd (none_some n is)
    sitd_there (links.Itd a) is way =
        absurd (itd_or_sitd (sym (itd_at a (way (ItdAt a) refl)) ∙ ap (met w.driver s.recent) (same_Some a n is) ∙ on))
    sitd_there (links.Qh a) is way =
        let x = queue_at a (way (QueueAt a) refl) in
        absurd (no_split x.part_is.queue its_sitd.sitd
        (sym x.part_is.here ∙ ap (λ (i : ℕ). both s.descs s.parts i i) (same_Some a n is) ∙ its_sitd.here))
    sitd_there (links.Sitd a) is way =
        subst (λ (i : ℕ). Reaches (controller_parts w) (SitdAt i)) (same_Some a n is) (way (SitdAt a) refl)
    sitd_there (links.Fstn a) is way =
        absurd (told opening_base s.member (met w.driver s.recent) all s.hand s.frame c runs (FstnAt a) (way (FstnAt a) refl))

    sitd_reached : (f : ℕ) → f < 1024 → IsInChain w f n → Reaches (controller_parts w) (SitdAt n)
    sitd_reached = chain_leads (SitdAt n) sitd_there

  pub descriptor_reached : (split : Bool) → met w.driver s.recent n ≡ Some (kind_of_descriptor split) → (f : ℕ) → f < 1024
      → IsInChain w f n → Reaches (controller_parts w) (structure_at split n)
  descriptor_reached true on = sitd_reached on
  descriptor_reached false on = itd_reached on

-- ---- an isochronous descriptor to which the controller can come

pub descriptor_met : (w : World) (k : IsMixedWorld w) (n : ℕ) (split : Bool) → Reaches (controller_parts w) (structure_at split n)
    → met w.driver k.standing.recent n ≡ Some (kind_of_descriptor split)
descriptor_met w k n true way =
    told opening_base k.standing.member (met w.driver k.standing.recent) (both k.standing.descs k.standing.parts) k.standing.hand
    k.standing.frame (controller_parts w) k.mixed.now.framed.runs (SitdAt n) way
descriptor_met w k n false way =
    told opening_base k.standing.member (met w.driver k.standing.recent) (both k.standing.descs k.standing.parts) k.standing.hand
    k.standing.frame (controller_parts w) k.mixed.now.framed.runs (ItdAt n) way

-- ---- the queue head of an endpoint in its frames

module _ (w : World) (k : IsMixedWorld w) (e q : ℕ) (p : Placement) (i : IsInItsFrames w.driver e q p) where
  pub its_kind : met w.driver k.standing.recent (32 * q) ≡ Some AQueue
  its_kind =
      ap (met w.driver k.standing.recent) (sym (begins_there q))
      ∙ queue_met k.standing w (record { id = queue_name q; period = p.period; phase = p.phase }) k.mixed (its_member w e q p k i) i.idle

  pub its_way : (f : ℕ) → f < 1024 → is_active p f ≡ true → Reaches (controller_parts w) (QueueAt (32 * q))
  its_way f low active =
      chain_reached k.standing w k.mixed (32 * q) its_kind f low (its_frames_lead w e q p f k i low active)

  -- it is read there
  pub record IsReadThere : Type 0 where
    pub queue : Qh
    pub read : queue_head_at_address w.memory (32 * q) ≡ Some queue

  pub its_head : IsReadThere
  its_head =
      let x = queue_told opening_base k.standing.member (met w.driver k.standing.recent) (both k.standing.descs k.standing.parts)
      k.standing.hand k.standing.frame (controller_parts w) k.mixed.now.framed.runs (32 * q) (inr its_kind) in
      record {
        queue = x.part_is.queue;
        read = told_read opening_base k.standing.member (met w.driver k.standing.recent) (both k.standing.descs k.standing.parts)
            k.standing.hand k.standing.frame (controller_parts w) k.mixed.now.framed.runs (32 * q) x;
      }
