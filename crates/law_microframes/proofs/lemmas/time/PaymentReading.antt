-- The walk of the frames reads queue heads of placed interrupt endpoints; and a descriptor with something active in this microframe is one
-- that was active as the microframe began, of a placed isochronous endpoint in a frame of its placement (EHCI 1.0, 3.1, 3.3, 3.4, 3.6, 4.6,
-- 4.7, 4.10 and 4.12.3).
use Rattle.std.proofs.Common.{◌≡◌, ℕ, ◌+◌, ◌*◌, ◌%◌, ◌<◌, ◌≤◌, Bool, true, false, List, length, slice_get, Option, Some, None, option_map, ap, refl, sym, subst, ◌∙◌, ⊎_elim, arith}
use Rattle.std.specs.Prelude.{max, ◌==◌}
use Rattle.std.proofs.lemmas.Bool.{true≢false}
use Rattle.std.proofs.lemmas.Option.{same_Some}
use Rattle.law_driver.proofs.Common.{waits_is}
use Rattle.law_common.proofs.Numbers.{same_blocks}
use Rattle.law_common.proofs.Lists.{nth_all}
use Rattle.usb_base.specs.declared.packets.Speed.{Speed}
use Rattle.usb_base.specs.declared.packets.Speed.TheVariants.{Full, Low, High}
use Rattle.word_mem.specs.Memory.{Mem, word_at}
use Rattle.link_words.specs.Layout.{bits}
use Rattle.link_words.specs.declared.kinds.Link.{Link}
use Rattle.link_words.specs.declared.kinds.Link.TheVariants as links
use Rattle.qh_qtd.specs.declared.queue_head.Qh.{Qh}
use Rattle.itd_sitd.specs.declared.itd.Itd.{Itd}
use Rattle.itd_sitd.specs.declared.sitd.Sitd.{Sitd}
use Rattle.itd_sitd.specs.Itd.{slot_of}
use Rattle.mem_queues.specs.Structures.{queue_head_at_address}
use Rattle.mem_descriptors.specs.Descriptors.{itd_at_address, sitd_at_address}
use Rattle.bandwidth.specs.declared.placements.Placed.{Placed}
use Rattle.bandwidth.specs.Placements.{is_classic}
use Rattle.bandwidth.specs.Sums.{is_active}
use Rattle.drv_periodic_table.specs.Periodic.{is_periodic, note_at}
use Rattle.drv_periodic_table.specs.Descriptors.{is_served, sitd_in}
use Rattle.periodic_walk.specs.declared.state.Hand.{Hand}
use Rattle.periodic_walk.specs.declared.state.Hand.TheVariants as hands
use Rattle.periodic_walk.specs.declared.chain.ChainRow.TheVariants as chains
use Rattle.periodic_walk.specs.Chain.{chain_row, queue_fetch, itd_fetch, sitd_fetch}
use Rattle.hc_core.specs.declared.controller.MicroframePart.TheVariants.{Periodic}
use Rattle.drv_table.specs.declared.content.Transfer.{Transfer}
use Rattle.drv_table.specs.DriverContent.{DriverContent}
use Rattle.drv_table.specs.Kinds.{is_iso}
use Rattle.drv_table.specs.Words.{speed_field}
use Rattle.claims_driver.specs.Owners.{views_of}
use Rattle.claims_driver.specs.Leaving.{HasOwners}
use Rattle.law_driver_ring.specs.Inventory.{OfSplitIsochronous, sort_of, sorts_of, IsDriven}
use Rattle.law_structures.specs.lent_structures.Structures.{Isochronous, SplitIsochronous, Structures, StructureSets, HoldsIsochronous, HoldsSplitIsochronous}
use Rattle.claims_driver.specs.DueMembers.{framed_to}
use Rattle.law_frames.specs.Met.{AQueue, AnItd, ASitd, LeadsTo}
use Rattle.law_descriptors.specs.Described.{HasDescriptor, AreDescribed}
use Rattle.law_descriptors.specs.Both.{owns, both}
use Rattle.law_descriptors.specs.Meeting.{met}
use Rattle.law_descriptors.proofs.Standing.{both_on, both_off, IsAtOwner, on_owner}
use Rattle.law_budgets.specs.visit_prices.Spent.{IsHeadOf}
use Rattle.law_budgets.specs.visit_prices.Fetched.{queue_copy}
use Rattle.bus_world.specs.World.{World, controller_parts}
use Rattle.law_world.specs.memory.Mixed.{Standing, IsMixedAt}
use Rattle.law_microframes.specs.visits.Ranks.{name_of}
use Rattle.claims_world.specs.Visits.{frame_in}
use Rattle.law_microframes.specs.visits.Visited.{link_ahead, IsVisiting}
use Rattle.law_microframes.specs.visits.Belonging.{placed_of, IsQueueAt, IsDescriptorAt, IsHarvestedAt, HaveFields, HeadsHaveFields}
use Rattle.law_microframes.specs.visits.DescriptorFields.{IsReadItd, ItdsStand}
use Rattle.law_microframes.specs.visits.OneDescriptor.{IsActiveDescriptor, IsActiveSome, AreServed}
use Rattle.law_microframes.specs.visits.Began.{IsAhead}
use Rattle.law_microframes.proofs.lemmas.visits.ActiveStands.{active_is_framed}
use Rattle.law_microframes.proofs.lemmas.visits.BelongReads.{HasReadFields, read_fields, head_is_read}
use Rattle.law_microframes.proofs.lemmas.visits.BelongQueues.{queue_belongs}
use Rattle.law_microframes.proofs.lemmas.visits.BelongDescriptors.{descriptor_belongs, not_driven}
use Rattle.law_microframes.proofs.lemmas.visits.BelongItds.{read_is, itd_is_read, harvested_is_read, told_is}
use Rattle.law_microframes.proofs.lemmas.visits.OneDescriptorMet.{met_is_active, met_split_is_active}
use Rattle.claims_world.specs.FrameHeads.{IsAllowed, AreAllowed}
use Rattle.law_microframes.specs.time.DataQueues.{pid_of, ReadsData}
use Rattle.law_microframes.specs.time.SitdFields.{sitd_name, IsSitdAs, HaveSitdFields, SplitTransfer, SitdsStand}
use Rattle.law_microframes.specs.time.SplitCharges.{IsPaidFor, at_high, at_split}
use Rattle.law_microframes.proofs.lemmas.time.DataTold.{pid_low}
use Rattle.law_microframes.proofs.lemmas.time.SplitMasked.{allowed_are_split}
use Rattle.law_microframes.specs.time.PaymentLaws.{by_descriptor, HasPeriodics, IsWithin}
use Rattle.law_microframes.proofs.lemmas.time.PaymentFrames.{chained_active}
use Rattle.law_microframes.proofs.lemmas.time.PaymentIsochronous.{one_transfer, iso_now}
use Rattle.law_microframes.proofs.lemmas.time.PaymentWalking.{IsHeadThere, IsItdThere, IsSitdThere, ReadsStructures}
use Rattle.law_microframes.proofs.lemmas.time.SitdWords.{read_as, read_one}

-- ---- what a fetch reads

queue_fetched : (b a : ℕ) (q : Qh) (o : Option Qh) → queue_fetch b o ≡ chains.Queue a q → (b ≡ a) × (o ≡ Some q)
queue_fetched b a q None is = absurd (cc)
queue_fetched b a q (Some p) is = (cc, ap Some (cc))

itd_no_queue : (b a : ℕ) (q : Qh) (o : Option Itd) → itd_fetch b o ≡ chains.Queue a q → ⊥
itd_no_queue b a q None is = cc
itd_no_queue b a q (Some v) is = cc

sitd_no_queue : (b a : ℕ) (q : Qh) (o : Option Sitd) → sitd_fetch b o ≡ chains.Queue a q → ⊥
sitd_no_queue b a q None is = cc
sitd_no_queue b a q (Some v) is = cc

queue_cursor : (m : Mem) (cursor : Link) (a : ℕ) (q : Qh) → chain_row m cursor ≡ chains.Queue a q → (cursor ≡ links.Qh a) × (queue_head_at_address m a ≡ Some q)
queue_cursor m (links.Itd b) a q is = absurd (itd_no_queue b a q (itd_at_address m b) is)
queue_cursor m (links.Qh b) a q is =
    let f = queue_fetched b a q (queue_head_at_address m b) is in
    (ap links.Qh f.0, subst (λ (i : ℕ). queue_head_at_address m i ≡ Some q) f.0 f.1)
queue_cursor m (links.Sitd b) a q is = absurd (sitd_no_queue b a q (sitd_at_address m b) is)
queue_cursor m _ a q is = absurd (cc)

itd_fetched : (b a : ℕ) (v : Itd) (o : Option Itd) → itd_fetch b o ≡ chains.Itd a v → (b ≡ a) × (o ≡ Some v)
itd_fetched b a v None is = absurd (cc)
itd_fetched b a v (Some p) is = (cc, ap Some (cc))

queue_no_itd : (b a : ℕ) (v : Itd) (o : Option Qh) → queue_fetch b o ≡ chains.Itd a v → ⊥
queue_no_itd b a v None is = cc
queue_no_itd b a v (Some q) is = cc

sitd_no_itd : (b a : ℕ) (v : Itd) (o : Option Sitd) → sitd_fetch b o ≡ chains.Itd a v → ⊥
sitd_no_itd b a v None is = cc
sitd_no_itd b a v (Some q) is = cc

itd_cursor : (m : Mem) (cursor : Link) (a : ℕ) (v : Itd) → chain_row m cursor ≡ chains.Itd a v → (cursor ≡ links.Itd a) × (itd_at_address m a ≡ Some v)
itd_cursor m (links.Itd b) a v is =
    let f = itd_fetched b a v (itd_at_address m b) is in
    (ap links.Itd f.0, subst (λ (i : ℕ). itd_at_address m i ≡ Some v) f.0 f.1)
itd_cursor m (links.Qh b) a v is = absurd (queue_no_itd b a v (queue_head_at_address m b) is)
itd_cursor m (links.Sitd b) a v is = absurd (sitd_no_itd b a v (sitd_at_address m b) is)
itd_cursor m _ a v is = absurd (cc)

sitd_fetched : (b a : ℕ) (v : Sitd) (o : Option Sitd) → sitd_fetch b o ≡ chains.Sitd a v → (b ≡ a) × (o ≡ Some v)
sitd_fetched b a v None is = absurd (cc)
sitd_fetched b a v (Some p) is = (cc, ap Some (cc))

queue_no_sitd : (b a : ℕ) (v : Sitd) (o : Option Qh) → queue_fetch b o ≡ chains.Sitd a v → ⊥
queue_no_sitd b a v None is = cc
queue_no_sitd b a v (Some q) is = cc

itd_no_sitd : (b a : ℕ) (v : Sitd) (o : Option Itd) → itd_fetch b o ≡ chains.Sitd a v → ⊥
itd_no_sitd b a v None is = cc
itd_no_sitd b a v (Some q) is = cc

pub sitd_cursor : (m : Mem) (cursor : Link) (a : ℕ) (v : Sitd) → chain_row m cursor ≡ chains.Sitd a v
    → (cursor ≡ links.Sitd a) × (sitd_at_address m a ≡ Some v)
sitd_cursor m (links.Itd b) a v is = absurd (itd_no_sitd b a v (itd_at_address m b) is)
sitd_cursor m (links.Qh b) a v is = absurd (queue_no_sitd b a v (queue_head_at_address m b) is)
sitd_cursor m (links.Sitd b) a v is =
    let f = sitd_fetched b a v (sitd_at_address m b) is in
    (ap links.Sitd f.0, subst (λ (i : ℕ). sitd_at_address m i ≡ Some v) f.0 f.1)
sitd_cursor m _ a v is = absurd (cc)

-- ---- in a world

not_high : (s : Speed) → is_classic s ≡ true → (speed_field s == 2) ≡ false
not_high High classic = absurd (cc)
not_high Full classic = refl
not_high Low classic = refl

few_transactions : (mult multi w : ℕ) → mult ≡ bits 31 30 w → max 1 mult ≡ multi → multi ≤ 3
few_transactions mult multi w is most = omega (arith, is, most)

-- ---- where a siTD stands its note tells one

no_sitd_there : (split : Bool) (part : Structures) (n : ℕ) (v : Sitd) → split ≡ false → part n ≡ Some (SplitIsochronous v) → HasDescriptor split part n → ⊥
no_sitd_there false part n v whole here h = let e : SplitIsochronous v ≡ Isochronous h.itd = same_Some (SplitIsochronous v) (Isochronous h.itd) (sym here ∙ h.here) in cc
no_sitd_there true part n v whole here h = true≢false whole

module _ (d : DriverContent) (has : HasOwners d) (descs parts : StructureSets) (driven : IsDriven (views_of d) (sorts_of parts)) (described : AreDescribed (views_of d) descs) where
  pub not_whole : (n first : ℕ) (v : Sitd) → both descs parts n n ≡ Some (SplitIsochronous v) → n ≡ 32 * first → (note_at d.periodic.notes first).split ≡ false → ⊥
  not_whole n first v here at whole = by (owns descs n) refl
    where
      by : (c : Bool) → owns descs n ≡ c → ⊥
      by true on =
          let a : IsAtOwner (views_of d) n = on_owner (views_of d) descs n described on in
          let same : first ≡ a.transfer.first = same_blocks first a.transfer.first (sym at ∙ a.name) in
          let h = described.descriptors a.number a.transfer a.lent in
          no_sitd_there ((views_of d).descriptor a.transfer.first).split (descs n) n v (ap (λ (i : ℕ). (note_at d.periodic.notes i).split) (sym same) ∙ whole)
          (ap (λ (part : Structures). part n) (sym (both_on descs parts n on)) ∙ here)
          (subst (λ (i : ℕ). HasDescriptor ((views_of d).descriptor a.transfer.first).split (descs i) i) (sym a.name) h)
      by false off =
          not_driven d has descs parts driven described n n OfSplitIsochronous
          (driven.only n n OfSplitIsochronous (ap (λ (part : Structures). option_map sort_of (part n)) (sym (both_off descs parts n off)) ∙ ap (option_map sort_of) here)) refl

-- ---- a world

module _ (b : World) (s : Standing) (w : World) (k : IsMixedAt s w) (heads : HeadsHaveFields w.driver w.memory) (itds : ItdsStand w.driver w.memory)
    (sitds : SitdsStand w.driver w.memory w.control) (served : AreServed w.driver w.memory) (periodics : HasPeriodics w.driver)
    (allowed : AreAllowed w.driver) (data_alone : ReadsData w)
    (within : IsWithin b w) where
  its : {a : ℕ} (q : IsQueueAt w.driver a) → 1 ≤ q.belongs.endpoint.desc.multi
  its q = periodics.some q.belongs.number q.belongs.endpoint q.belongs.here (ap is_periodic q.kind)

  leads : w.control.part ≡ Periodic → LeadsTo (met w.driver s.recent) w.control.frame.cursor
  leads periodic = (k.now.framed.runs.walk periodic).cursor

  module _ (a : ℕ) (q : Qh) (h : IsQueueAt w.driver a) (reads : queue_head_at_address w.memory a ≡ Some q) where
    abbrev x : Placed
    x = placed_of h.belongs

    sends : q.token.active ≡ true → q.token.pid ≡ pid_of x.want.dir
    sends =
        data_alone.heads h.belongs.number h.belongs.endpoint q h.belongs.here h.kind h.belongs.kept
        (ap (queue_head_at_address w.memory) (sym h.name) ∙ reads)

    read : HasReadFields (word_at w.memory (a + 4)) (word_at w.memory (a + 8)) q
    read = read_fields w.memory a q reads

    have : HaveFields (word_at w.memory (a + 4)) (word_at w.memory (a + 8)) h.belongs.endpoint.desc h.belongs.placement
    have =
        subst (λ (n : ℕ). HaveFields (word_at w.memory (n + 4)) (word_at w.memory (n + 8)) h.belongs.endpoint.desc h.belongs.placement)
        (sym h.name)
        (heads h.belongs.number h.belongs.endpoint h.belongs.placement h.belongs.here (ap is_iso h.kind) h.belongs.kept h.belongs.placed)

    begins_high : (u : ℕ) → h.belongs.endpoint.desc.speed ≡ High → IsPaidFor x u (hands.Queue (queue_copy a q)) 0
    begins_high u speed =
        let of : IsHeadOf x q = head_is_read w a q h heads speed reads in
        let some = its h in
        let pid : q.token.active ≡ true → q.token.pid ≤ 1 = λ on. let is = sends on in let low = pid_low x.want.dir in
        omega (arith, is, low) in
        at_high (record {
          of = record {
            head = of;
            few = few_transactions q.mult h.belongs.endpoint.desc.multi (word_at w.memory (a + 8)) read.mult of.multi;
            pid = pid;
            room = omega (arith, some);
            own = λ made. absurd (omega (arith, made));
          };
          charged = omega arith;
        })

    begins_split : (u : ℕ) → is_classic h.belongs.endpoint.desc.speed ≡ true → IsPaidFor x u (hands.Queue (queue_copy a q)) 0
    begins_split u classic =
        let all : IsAllowed x = nth_all IsAllowed w.driver.periodic.plan.placed h.belongs.planned.place x allowed
        h.belongs.planned.there in
        at_split (queue_copy a q) refl (record {
          head = record {
            classic = classic;
            kind = h.kind;
            some = its h;
            masks = allowed_are_split x all classic;
            below = ap (λ (n : ℕ). n == 2) (read.eps ∙ have.speed) ∙ not_high h.belongs.endpoint.desc.speed classic;
            max = read.longest ∙ have.longest;
            smask = read.smask ∙ have.smask;
            cmask = read.cmask ∙ have.cmask;
          };
          pid = sends;
          none = λ made. refl;
          one = omega arith;
        })

    begins : (u : ℕ) → IsPaidFor x u (hands.Queue (queue_copy a q)) 0
    begins u = by h.belongs.endpoint.desc.speed refl
      where
        by : (s : Speed) → h.belongs.endpoint.desc.speed ≡ s → IsPaidFor x u (hands.Queue (queue_copy a q)) 0
        by High is = begins_high u is
        by Full is = begins_split u (ap is_classic is)
        by Low is = begins_split u (ap is_classic is)

  head : (a : ℕ) (q : Qh) → w.control.part ≡ Periodic → chain_row w.memory w.control.frame.cursor ≡ chains.Queue a q → IsHeadThere w.driver a q
  head a q periodic is =
      let c = queue_cursor w.memory w.control.frame.cursor a q is in
      let on : met w.driver s.recent a ≡ Some AQueue = subst (LeadsTo (met w.driver s.recent)) c.0 (leads periodic) in
      let h : IsQueueAt w.driver a = queue_belongs s w a k on in
      record { queue = h; begins = begins a q h c.1 }

  -- the frame of what is active is one of its placement
  active_in : (a e : ℕ) (q : IsDescriptorAt w.driver a) → (i : IsActiveDescriptor w.driver w.memory e (frame_in w.control.frame.index) a)
      → i.transfer ≡ q.transfer
      → (c : Bool) → q.belongs.endpoint.chained ≡ c → is_active q.belongs.placement (frame_in w.control.frame.index) ≡ true
  active_in a e q i same c is_c =
      let told = waits_is q.belongs.number q.transfer q.waits in
      let here : slice_get w.driver.endpoints i.transfer.endpoint ≡ Some q.belongs.endpoint
      = ap (slice_get w.driver.endpoints) (ap (λ (z : Transfer). z.endpoint) same ∙ told.0) ∙ q.belongs.here in
      let low = active_is_framed s w e (frame_in w.control.frame.index) a k i in
      ap (is_active q.belongs.placement) (sym i.frame) ∙ by c is_c here (ap (λ (z : Transfer). z.reported) same ∙ told.1) low
    where
      by : (c : Bool) → q.belongs.endpoint.chained ≡ c → slice_get w.driver.endpoints i.transfer.endpoint ≡ Some q.belongs.endpoint
          → i.transfer.reported ≡ false
          → i.number < framed_to w.driver.command w.driver.made (length w.driver.transfers)
          → is_active q.belongs.placement (note_at w.driver.periodic.notes i.transfer.first).frame ≡ true
      by true chained here off low =
          chained_active w.driver i.number i.transfer q.belongs.endpoint q.belongs.placement k.now.in_frames i.here i.descriptor off here
          (ap is_iso q.kind) q.belongs.placed chained low
      by false out here off low = periodics.outside i.number i.transfer q.belongs.endpoint q.belongs.placement i.here i.descriptor i.held
          off here q.belongs.placed out

  -- what goes on to a descriptor that waits, where something of it is active
  pub record IsActiveNow (a : ℕ) (q : IsDescriptorAt w.driver a) : Type 0 where
    pub was : IsActiveDescriptor b.driver b.memory q.belongs.number (frame_in w.control.frame.index) a
    pub active : is_active q.belongs.placement (frame_in w.control.frame.index) ≡ true

  active_now : (a : ℕ) (q : IsDescriptorAt w.driver a) → IsAhead w a → IsActiveSome w.driver w.memory a → IsActiveNow a q
  active_now a q ahead one =
      let i = one.is in
      let told = waits_is q.belongs.number q.transfer q.waits in
      let same : i.transfer ≡ q.transfer = one_transfer s w a k q i.number i.transfer i.here i.descriptor i.held i.at in
      let at_e : one.endpoint ≡ q.belongs.number = sym i.endpoint ∙ ap (λ (z : Transfer). z.endpoint) same ∙ told.0 in
      let at_f : one.frame ≡ frame_in w.control.frame.index = within.in_frame one.endpoint one.frame a ahead i in
      record {
        was = subst (λ (f : ℕ). IsActiveDescriptor b.driver b.memory q.belongs.number f a) at_f
            (subst (λ (e : ℕ). IsActiveDescriptor b.driver b.memory e one.frame a) at_e (within.old one.endpoint one.frame a ahead i));
        active = in_frame one.endpoint one.frame at_f i same;
      }
    where
      in_frame : (e f : ℕ) → f ≡ frame_in w.control.frame.index → (i : IsActiveDescriptor w.driver w.memory e f a) → i.transfer ≡ q.transfer
          → is_active q.belongs.placement (frame_in w.control.frame.index) ≡ true
      in_frame e f at i same =
          active_in a e q (record {
            number = i.number;
            transfer = i.transfer;
            here = i.here;
            descriptor = i.descriptor;
            held = i.held;
            lent = i.lent;
            endpoint = i.endpoint;
            frame = i.frame ∙ at;
            at = i.at;
            active = i.active;
          }) same q.belongs.endpoint.chained refl

  -- ---- an iTD with something active in this microframe

  module _ (a : ℕ) (v : Itd) (periodic : w.control.part ≡ Periodic) (free : w.control.frame.hand ≡ None) (is : chain_row w.memory w.control.frame.cursor ≡ chains.Itd a v)
      (on : (slot_of (w.control.frame.index % 8) v).active ≡ true) where
    abbrev u : ℕ
    u = w.control.frame.index % 8

    small : w.control.frame.index % 8 < 8
    small = omega arith

    at : w.control.frame.cursor ≡ links.Itd a
    at = (itd_cursor w.memory w.control.frame.cursor a v is).0

    reads : itd_at_address w.memory a ≡ Some v
    reads = (itd_cursor w.memory w.control.frame.cursor a v is).1

    is_met : met w.driver s.recent a ≡ Some AnItd
    is_met = subst (LeadsTo (met w.driver s.recent)) at (leads periodic)

    ahead : IsAhead w a
    ahead = record { periodic = periodic; next = ap (λ (o : Option Hand). name_of (link_ahead o w.control.frame.cursor)) free ∙ ap name_of at }

    is_active_one : IsActiveSome w.driver w.memory a
    is_active_one =
        let m = k.now.framed.runs.members a AnItd is_met in
        let holds : HoldsIsochronous w.memory a m.itd = k.now.framed.runs.ring.tells.each a a (Isochronous m.itd) m.here in
        let same : v ≡ m.itd = read_is w.memory a v reads ∙ told_is w.memory a m.itd holds in
        met_is_active s w a u m.itd k m.here small (ap (λ (z : Itd). (slot_of (w.control.frame.index % 8) z).active) (sym same) ∙ on)

    there_by : (q : IsDescriptorAt w.driver a) → IsItdThere b w.driver (controller_parts w) a v
    there_by q =
        let now = active_now a q ahead is_active_one in
        let n = iso_now s w a k q AnItd is_met in
        let read : IsReadItd (placed_of q.belongs) v = itd_is_read s w a v q k is_met itds.fields reads in
        let some : 1 ≤ q.belongs.endpoint.desc.multi =
        periodics.some q.belongs.number q.belongs.endpoint q.belongs.here (ap is_periodic q.kind) in
        record {
          of = placed_of q.belongs;
          owned = by_descriptor q.belongs.number n.its n.same now.was;
          descriptor = read.of;
          some = (let m = read.multi in omega (arith, some, m));
          multi = (let m = read.multi in omega (arith, m));
          own = read.own (w.control.frame.index % 8) small on;
          active = now.active;
        }

    itd_there : IsItdThere b w.driver (controller_parts w) a v
    itd_there =
        ⊎_elim {C = IsItdThere b w.driver (controller_parts w) a v} there_by
        (λ (h : IsHarvestedAt w.driver a). absurd (true≢false (sym on ∙ harvested_is_read s w a v h k is_met itds.served reads (w.control.frame.index % 8) small)))
        (descriptor_belongs s w a AnItd k is_met (λ same. cc))

  -- ---- a siTD that is active

  module _ (a : ℕ) (v : Sitd) (periodic : w.control.part ≡ Periodic) (free : w.control.frame.hand ≡ None)
      (is : chain_row w.memory w.control.frame.cursor ≡ chains.Sitd a v)
      (on : v.active ≡ true) where
    sitd_at_it : w.control.frame.cursor ≡ links.Sitd a
    sitd_at_it = (sitd_cursor w.memory w.control.frame.cursor a v is).0

    sitd_reads : sitd_at_address w.memory a ≡ Some v
    sitd_reads = (sitd_cursor w.memory w.control.frame.cursor a v is).1

    sitd_met : met w.driver s.recent a ≡ Some ASitd
    sitd_met = subst (LeadsTo (met w.driver s.recent)) sitd_at_it (leads periodic)

    sitd_ahead : IsAhead w a
    sitd_ahead = record {
      periodic = periodic;
      next = ap (λ (o : Option Hand). name_of (link_ahead o w.control.frame.cursor)) free
          ∙ ap name_of sitd_at_it;
    }

    sitd_active : IsActiveSome w.driver w.memory a
    sitd_active =
        let m = k.now.framed.runs.members a ASitd sitd_met in
        let holds : HoldsSplitIsochronous w.memory a m.sitd = k.now.framed.runs.ring.tells.each a a (SplitIsochronous m.sitd) m.here in
        let same : v ≡ m.sitd = read_one w.memory a v m.sitd sitd_reads holds in
        met_split_is_active s w a m.sitd k m.here (ap (λ (z : Sitd). z.active) (sym same) ∙ on)

    split_noted : (q : IsDescriptorAt w.driver a) (c : Bool) → (note_at w.driver.periodic.notes q.transfer.first).split ≡ c
        → (note_at w.driver.periodic.notes q.transfer.first).split ≡ true
    split_noted q true is = is
    split_noted q false whole =
        let f = k.now.framed in
        let m = f.runs.members a ASitd sitd_met in
        absurd (not_whole w.driver f.place.sound.owners s.descs s.parts f.driven f.described a q.transfer.first m.sitd m.here q.name whole)

    of_split : IsDescriptorAt w.driver a → SplitTransfer w.driver
    of_split q = record {
      number = q.number;
      transfer = q.transfer;
      endpoint = q.belongs.endpoint;
      placement = q.belongs.placement;
      there = q.there;
      sort = q.sort;
      held = q.held;
      split = split_noted q (note_at w.driver.periodic.notes q.transfer.first).split refl;
      here = ap (slice_get w.driver.endpoints) (waits_is q.belongs.number q.transfer q.waits).0 ∙ q.belongs.here;
      placed = q.belongs.placed;
    }

    -- what is told of it
    pub record IsSplitThere : Type 0 where
      pub at : IsDescriptorAt w.driver a
      pub split : (note_at w.driver.periodic.notes at.transfer.first).split ≡ true
      pub frame : (note_at w.driver.periodic.notes at.transfer.first).frame ≡ frame_in w.control.frame.index
      pub holds : HoldsSplitIsochronous w.memory a v
      pub fields : HaveSitdFields v at.belongs.endpoint.desc at.belongs.placement
      pub was : IsActiveDescriptor b.driver b.memory at.belongs.number (frame_in w.control.frame.index) a

    told_there : IsDescriptorAt w.driver a → IsSplitThere
    unfolding of_split
    told_there q =
        let i = sitd_active.is in
        let same : i.transfer ≡ q.transfer = one_transfer s w a k q i.number i.transfer i.here i.descriptor i.held i.at in
        let m = k.now.framed.runs.members a ASitd sitd_met in
        let holds : HoldsSplitIsochronous w.memory a m.sitd = k.now.framed.runs.ring.tells.each a a (SplitIsochronous m.sitd) m.here in
        let have : HaveSitdFields (sitd_in w.memory q.transfer.first) q.belongs.endpoint.desc q.belongs.placement =
        sitds.fields (of_split q) in
        record {
          at = q;
          split = (of_split q).split;
          frame =
              ap (λ (y : Transfer). (note_at w.driver.periodic.notes y.first).frame) (sym same) ∙ i.frame
              ∙ within.in_frame sitd_active.endpoint sitd_active.frame a sitd_ahead i;
          holds = subst (HoldsSplitIsochronous w.memory a) (sym (read_one w.memory a v m.sitd sitd_reads holds)) holds;
          fields = record {
            classic = have.classic;
            has = read_as _ _ _ _ w.memory q.transfer.first a v q.name sitd_reads have.has;
          };
          was = (active_now a q sitd_ahead sitd_active).was;
        }

    split_there : (q : IsDescriptorAt w.driver a) → IsSitdThere b w.driver (controller_parts w) a v
    unfolding of_split
    split_there q =
        let now = active_now a q sitd_ahead sitd_active in
        let n = iso_now s w a k q ASitd sitd_met in
        let x : Placed = placed_of q.belongs in
        let have : HaveSitdFields (sitd_in w.memory q.transfer.first) q.belongs.endpoint.desc q.belongs.placement =
        sitds.fields (of_split q) in
        let read : IsSitdAs (sitd_name q.belongs.endpoint.desc) x.placement.smask x.placement.cmask x.want.max v =
        read_as _ _ _ _ w.memory q.transfer.first a v q.name sitd_reads have.has in
        let all : IsAllowed x = nth_all IsAllowed w.driver.periodic.plan.placed q.belongs.planned.place x allowed
        q.belongs.planned.there in
        record {
          of = x;
          owned = by_descriptor q.belongs.number n.its n.same now.was;
          descriptor = record {
            classic = have.classic;
            kind = q.kind;
            some = periodics.some q.belongs.number q.belongs.endpoint q.belongs.here (ap is_periodic q.kind);
            masks = allowed_are_split x all have.classic;
            way = read.way;
            smask = read.smask;
            cmask = read.cmask;
            prog = read.prog;
          };
          parts = read.parts;
          active = now.active;
        }

    its_descriptor : IsDescriptorAt w.driver a
    its_descriptor =
        ⊎_elim {C = IsDescriptorAt w.driver a} (λ (q : IsDescriptorAt w.driver a). q)
        (λ (h : IsHarvestedAt w.driver a).
        let i = sitd_active.is in
        let same : i.transfer.first ≡ h.transfer.first = same_blocks i.transfer.first h.transfer.first (sym i.at ∙ h.name) in
        absurd (true≢false (sym (served h.number h.transfer h.there h.sort h.reported h.held)
        ∙ ap (λ (n : ℕ). is_served (note_at w.driver.periodic.notes n) w.memory n) (sym same) ∙ i.active)))
        (descriptor_belongs s w a ASitd k sitd_met (λ same. cc))

    sitd_there : IsSitdThere b w.driver (controller_parts w) a v
    sitd_there = split_there its_descriptor

    pub sitd_told : IsSplitThere
    sitd_told = told_there its_descriptor

  structures : ReadsStructures b w.driver (controller_parts w)
  structures = record {
    heads = λ a q periodic free is. head a q periodic is;
    itds = λ a v periodic free is on. itd_there a v periodic free is on;
    sitds = λ a v periodic free is on. sitd_there a v periodic free is on;
    takes = λ h dir by periodic held a t is. data_alone.takes h a t dir by periodic held is;
  }

pub reads_structures : (b w : World) (vs : List ℕ) → IsVisiting b w vs → HeadsHaveFields w.driver w.memory → ItdsStand w.driver w.memory
    → SitdsStand w.driver w.memory w.control → AreServed w.driver w.memory → HasPeriodics w.driver → AreAllowed w.driver → ReadsData w
    → IsWithin b w
    → ReadsStructures b w.driver (controller_parts w)
reads_structures b w vs g heads itds sitds served periodics allowed data_alone within =
    structures b g.mixed.standing w g.mixed.mixed heads itds sitds served periodics allowed data_alone within
