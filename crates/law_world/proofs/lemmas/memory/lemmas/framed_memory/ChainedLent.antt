-- The structures of an interrupt endpoint from the acceptance of its open on: they are to be lent, are lent, and its queue head is linked.
use Rattle.std.proofs.Common.{◌≡◌, ◌≢◌, ℕ, suc, ◌+◌, ◌*◌, ◌/◌, Bool, true, false, ◌&&◌, cond, List, length, get_or, Option, Some, None, option_map, nat_le, nat_lt, ap, refl, sym, subst, ◌∙◌, ⊎_elim, arith}
use Rattle.std.specs.Prelude.{not}
use Rattle.word_mem.specs.Memory.{Mem}
use Rattle.law_driver.specs.in_place.InPlace.{IsInPlace}
use Rattle.qh_qtd.specs.QueueHead.{IsQhInRange}
use Rattle.law_driver.specs.run_owners.Accepts.{Chains}
use Rattle.std.proofs.lemmas.Bool.{true≢false}
use Rattle.std.proofs.lemmas.Option.{same_Some}
use Rattle.law_common.proofs.Lists.{pushed_last}
use Rattle.law_driver_ring.proofs.Common.{found_one, one_element}
use Rattle.law_common.proofs.Booleans.{either_if}
use Rattle.law_descriptors.proofs.Common.{no_work}
use Rattle.usb_base.specs.declared.packets.Ask.{Ask}
use Rattle.usb_base.specs.declared.packets.Reply.{Reply}
use Rattle.qh_qtd.specs.declared.queue_head.Qh.{Qh}
use Rattle.mem_runs.specs.Book.{Book, holding, lend_taken}
use Rattle.bandwidth.specs.declared.placements.Placement.{Placement}
use Rattle.drv_chains.specs.declared.members.Member.{Member}
use Rattle.drv_chains.specs.Chains.{id_of}
use Rattle.drv_periodic.specs.declared.work.Work.{Work}
use Rattle.drv_periodic.specs.Periodic.{Periodic, begun, inserting, is_more, members_after, next_store, after_work, after_store}
use Rattle.drv_periodic_table.specs.Periodic.{queue_member}
use Rattle.drv_periodic_table.specs.Linking.{may_link, linking, new_link, begun_next}
use Rattle.drv_table.specs.declared.content.Endpoint.{Endpoint}
use Rattle.drv_table.specs.declared.content.Command.TheVariants as unfinished
use Rattle.drv_table.specs.declared.rows.DriverRow.{DriverRow}
use Rattle.drv_table.specs.declared.rows.DriverRow.TheVariants as rows
use Rattle.drv_table.specs.DriverContent.{DriverContent}
use Rattle.drv_table.specs.Words.{dummy_qtd}
use Rattle.drv_table.specs.Accepting.{Offered, new_runs}
use Rattle.drv_table.specs.Offers.{placed_endpoint, accepted_chain}
use Rattle.drv_table.specs.Commands.{link_row, command_row, or_finished, linked_on, advanced_by, advance}
use Rattle.drv_table.specs.Rows.{row_for, driver_row, after_driver_row}
use Rattle.claims_driver.specs.Owners.{EndpointRuns, runs_of_endpoint, views_of}
use Rattle.law_driver.specs.run_owners.Due.{IsLinkOf}
use Rattle.hc_core.specs.declared.controller.ControllerRow.{ControllerRow}
use Rattle.hc_core.specs.declared.controller.ControllerRow.TheVariants as events
use Rattle.hc_core.specs.Controller.{Content, walk_place}
use Rattle.law_structures.specs.lent_structures.Structures.{Structure, QueueHead, Element, Buffer, Structures, StructureSets, with_structure}
use Rattle.law_structures.specs.lent_structures.Sound.{IsSoundElement}
use Rattle.law_structures.proofs.lemmas.lent_structures.Names.{with_here, with_there}
use Rattle.law_ring.specs.Hand.{Hand}
use Rattle.claims_base.specs.Controller.{Base}
use Rattle.law_controller.specs.controlled_streams.Control.{ControlEffect, a_microframe, a_step}
use Rattle.law_driver_ring.specs.Driven.{DrivesRing}
use Rattle.law_driver_ring.specs.LendOpened.{IsOpened}
use Rattle.law_driver_ring.specs.Linked.{no_part, opened_part}
use Rattle.law_driver_ring.proofs.Beside.{opened_stays, stranger_stays}
use Rattle.law_driver_ring.proofs.LendOpening.{lent_content, two_lent}
use Rattle.law_driver_ring.proofs.LendOwning.{none_there, queue_no_dummy}
use Rattle.law_driver_ring.proofs.Unmet.{open_is_unmet}
use Rattle.law_queues.specs.shared_memory.Shared.{parts_of, next_parts}
use Rattle.law_frames.specs.Met.{Kind, AQueue, AnItd, ASitd, IsMetAs}
use Rattle.law_frames.specs.FrameHand.{FrameHand}
use Rattle.law_frames.proofs.Leaving.{frame_leaves}
use Rattle.law_controller.specs.frame_control.Both.{RunsBoth, BothEffect, of_ring, of_frame}
use Rattle.law_descriptors.specs.Both.{owns, both, parts_now}
use Rattle.law_descriptors.specs.PartLaws.{IsDescribing}
use Rattle.law_descriptors.specs.Meeting.{kind_of, standing, or_recent, met}
use Rattle.law_descriptors.specs.ListRows.{leaves_by, leaves_now, recent_with, HasQueue, Comes, ComesFirst}
use Rattle.law_descriptors.proofs.Standing.{both_off}
use Rattle.law_descriptors.proofs.Telling.{queue_off}
use Rattle.law_descriptors.proofs.Rings.{ring_is_of_queues}
use Rattle.law_world.specs.memory.framed_memory.Now.{IsFramedNow, FramedNext, recent_then}
use Rattle.law_world.specs.memory.framed_memory.QueueRows.{chained_runs, chained_head}
use Rattle.law_world.specs.memory.framed_memory.Chained.{chained_queue, IsChainReady, ChainBecomesReady, ChainReadyStays, chained_parts, IsChainLent, ChainLends, ChainComesFirst, ChainStaysLent, ChainLinksOn}
use Rattle.law_world.proofs.lemmas.memory.lemmas.framed_memory.Chains.{chain_is_ready}
use Rattle.law_world.proofs.lemmas.memory.lemmas.framed_memory.OpenLends.{lend_open_keeps_now}

-- ---- it is to be lent

-- what is under way then is the new member, if it may be linked
new_work : (p : Periodic) (m : Member) → p.work ≡ None → (w : Work) → (linking p m).work ≡ Some w → w ≡ begun m false
new_work p m none =
    either_if (λ (r : Periodic). (w : Work) → r.work ≡ Some w → w ≡ begun m false) (may_link p m) (inserting p m) p
    (λ on w is. sym (same_Some (begun m false) w is))
    (λ off w is. absurd (none_some w (sym none ∙ is)))
  where
    none_some : (w : Work) → ◌≡◌ {A = Option Work} None (Some w) → ⊥
    none_some w is = cc

-- .. of the endpoint with this number
pub record IsReadyAt (d : DriverContent) (m : Mem) (n : ℕ) : Type 0 where
  pub ready : IsChainReady d m
  pub at : ready.number ≡ n

pub chain_ready_at : (m : Mem) (d : DriverContent) (o : Offered) → (why : Chains d m o) → IsInPlace m d → IsQhInRange (chained_head d why.desc why.placement why.holding_after)
    → IsReadyAt o.driver o.memory (length d.endpoints)
chain_ready_at m d o why place range =
    let queue : ℕ = get_or (new_runs d why.holding_after) 0 0 in
    let dummy : ℕ = get_or (new_runs d why.holding_after) 1 0 in
    let x : Endpoint = placed_endpoint why.desc why.placement queue dummy in
    let now : Offered = accepted_chain d why.desc why.placement why.holding_after queue dummy in
    let opened : IsOpened now.driver now.memory (length d.endpoints) (chained_runs d why.desc why.placement why.holding_after) (chained_head d why.desc why.placement why.holding_after) =
    subst (λ (f : Offered). IsOpened f.driver f.memory (length d.endpoints) (chained_runs d why.desc why.placement why.holding_after) (chained_head d why.desc why.placement why.holding_after)) why.is
    (chain_is_ready m d o why place.sound.owners place.lent place.sound.stands place.sound.shape range) in
    let ready : IsChainReady now.driver now.memory = record {
      number = length d.endpoints;
      endpoint = x;
      here = pushed_last d.endpoints x;
      command = refl;
      made = refl;
      place = why.placement;
      placed = refl;
      link = new_link d.periodic.list (queue_member queue why.placement);
      opened = opened;
      links = new_work d.periodic.list (queue_member queue why.placement) (no_work d why.idle place.sound.listed);
    } in
    subst (λ (f : Offered). IsReadyAt f.driver f.memory (length d.endpoints)) (sym why.is) (record { ready = ready; at = refl })

pub chain_becomes_ready : ChainBecomesReady
chain_becomes_ready m d o why place range = (chain_ready_at m d o why place range).ready

pub chain_ready_stays : ChainReadyStays
chain_ready_stays d m new owners stands same k = record {
  number = k.number;
  endpoint = k.endpoint;
  here = k.here;
  command = k.command;
  made = k.made;
  place = k.place;
  placed = k.placed;
  link = k.link;
  opened = opened_stays d m new k.number (runs_of_endpoint k.endpoint) (chained_queue k.endpoint k.place k.link) k.opened owners stands same;
  links = k.links;
}

-- ---- the lend

record AreNone (d : DriverContent) (recent : ℕ → Option Kind) (n : ℕ) : Type 0 where
  off : standing d n ≡ None
  fresh : recent n ≡ None

neither : (one other : Option Kind) → ((kind : Kind) → or_recent one other ≡ Some kind → ⊥) → (one ≡ None) × (other ≡ None)
neither (Some kind) other never = absurd (never kind refl)
neither None (Some kind) never = absurd (never kind refl)
neither None None never = (refl, refl)

-- whoever is met has a structure at its own address
nothing_met : (met : ℕ → Option Kind) (n : ℕ) (part : Structures) (kind : Kind) → part n ≡ None → IsMetAs met n part kind → ⊥
nothing_met met n part AQueue none k = absent (part n) (QueueHead k.part_is.queue) none k.part_is.here
  where
    absent : (o : Option Structure) (s : Structure) → o ≡ None → o ≡ Some s → ⊥
    absent o s none here = cc
nothing_met met n part AnItd none k = absent (part n) _ none k.here
  where
    absent : (o : Option Structure) (s : Structure) → o ≡ None → o ≡ Some s → ⊥
    absent o s none here = cc
nothing_met met n part ASitd none k = absent (part n) _ none k.here
  where
    absent : (o : Option Structure) (s : Structure) → o ≡ None → o ≡ Some s → ⊥
    absent o s none here = cc

module _ (base : Base) (member : ℕ → Bool) (recent : ℕ → Option Kind) (descs parts : StructureSets) (hand : Hand) (frame : FrameHand) (c : Content) (d : DriverContent) (k : IsFramedNow base member recent descs parts hand frame c d) (r : IsChainReady d c.memory) where
  abbrev x : EndpointRuns
  x = runs_of_endpoint r.endpoint

  abbrev q : Qh
  q = chained_queue r.endpoint r.place r.link

  abbrev n : ℕ
  n = 32 * r.endpoint.queue

  abbrev then : StructureSets
  then = chained_parts parts r

  abbrev book : Book
  book = (lend_taken (holding d.book c.memory)).book

  abbrev lent : DriverContent
  lent = record d { book = book }

  pub row_is : driver_row (parts_of c d) ≡ rows.Lend
  row_is =
      ap (row_for (parts_of c d)) r.command
      ∙ ap (λ (i : ℕ). cond (true && nat_le 1 i) (link_row (next_store d.periodic.list)) (command_row unfinished.Chain i)) r.made

  pub framed : FramedNext base member recent descs then hand frame c d
  framed = lend_open_keeps_now base member recent descs parts hand frame c d r.number x q k row_is r.opened

  -- ---- the driver then

  abbrev with_work : Option Work → DriverContent
  with_work o = record lent { made = 1; periodic = record d.periodic { list = record d.periodic.list { work = o } } }

  abbrev begun_then : Option Work → DriverContent
  begun_then o = or_finished (record lent { made = 1; periodic = begun_next false (record d.periodic { list = record d.periodic.list { work = o } }) }) unfinished.Chain

  pub driver_begun : (next_parts c d).driver ≡ or_finished (record lent { made = 1; periodic = begun_next false d.periodic }) unfinished.Chain
  driver_begun =
      ap (λ (row : DriverRow). (after_driver_row row (parts_of c d)).driver) row_is
      ∙ ap (advanced_by lent) r.command
      ∙ ap (λ (i : ℕ). cond (nat_lt (suc i) 1) (record lent { made = suc d.made }) (linked_on lent unfinished.Chain)) r.made
      ∙ ap (λ (i : ℕ). or_finished (record lent { made = 1; periodic = begun_next false (record d.periodic { list = cond (nat_lt i 1) d.periodic.list (after_store d.periodic.list) }) }) unfinished.Chain) r.made

  driver_is : (w : Work) → d.periodic.list.work ≡ Some w → (next_parts c d).driver ≡ record lent { made = 1 }
  driver_is w under_way = driver_begun ∙ ap begun_then under_way ∙ ap with_work (sym under_way)

  -- ---- its structures

  none : (b : ℕ) → parts n b ≡ None
  none b = none_there (views_of d) (views_of (lent_content d c.memory)) k.framed.place.sound.owners.owner r.number x parts b (two_lent d c.memory r.number x q r.opened k.framed.place.sound.owners) k.framed.driven

  old : IsDescribing d descs parts
  old = record { owners = k.framed.place.sound.owners; driven = k.framed.driven; described = k.framed.described }

  drives : DrivesRing base member parts hand (walk_place c) d
  drives = record {
    ring = ring_is_of_queues d descs parts base member hand (walk_place c) old k.framed.runs.ring;
    driven =
        k.framed.driven;
  }

  unmet : (member n ≡ false) × ((b : ℕ) → then n b ≡ opened_part x q b)
  unmet = open_is_unmet base member parts hand (walk_place c) d c.memory r.number x q r.opened k.framed.place.sound.owners drives

  apart : x.queue ≢ x.dummy
  apart = queue_no_dummy (views_of d) k.framed.place.sound.owners.owner r.number r.number x x k.framed.place.sound.owners.owned.each r.opened.here r.opened.here

  at_own : then n n ≡ Some (QueueHead q)
  at_own =
      unmet.1 n
      ∙ with_there (with_structure no_part n (QueueHead q)) (32 * x.dummy) (Element dummy_qtd) n (λ s. apart (omega (arith, s)))
      ∙ with_here no_part n (QueueHead q)

  -- no descriptor is of a queue
  owned : owns descs n ≡ false
  owned =
      queue_off (next_parts c d).driver descs then (record { owners = framed.framed.place.sound.owners; driven = framed.framed.driven; described = framed.framed.described })
      n n (QueueHead q) at_own

  nothing : both descs parts n n ≡ None
  nothing = ap (λ (part : Structures). part n) (both_off descs parts n owned) ∙ none n

  before : AreNone d recent n
  before =
      let two = neither (standing d n) (recent n) (λ kind on. nothing_met (met d recent) n (both descs parts n) kind nothing (k.framed.runs.members n kind on)) in
      record { off = two.0; fresh = two.1 }

  pub lent_then : (w : Work) → d.periodic.list.work ≡ Some w → IsChainLent (next_parts c d).driver member recent then
  lent_then w under_way =
      let is : w ≡ begun (queue_member r.endpoint.queue r.place) false = r.links w under_way in
      let now : IsChainLent (record lent { made = 1 }) member recent then = record {
        number = r.number;
        endpoint = r.endpoint;
        here = r.here;
        queued = r.opened.here.queued;
        command = r.command;
        made = refl;
        place = r.place;
        placed = r.placed;
        work = w;
        under_way = under_way;
        adds = ap (λ (v : Work). v.removes) is;
        links = ap (λ (v : Work). v.member) is;
        unmet = unmet.0;
        fresh = before.fresh;
        link = r.link;
        off = λ zero. before.off;
        part = λ zero b. unmet.1 b;
      } in
      subst (λ (f : DriverContent). IsChainLent f member recent then) (sym (driver_is w under_way)) now

pub chain_lends : ChainLends
chain_lends base member recent descs parts hand frame c d k r = record {
  row = row_is base member recent descs parts hand frame c d k r;
  framed = framed base member recent descs parts hand frame c d k r;
  lent = lent_then base member recent descs parts hand frame c d k r;
}

-- ---- what its first store asks for

no_buffer : (x : EndpointRuns) (q : Qh) (a : ℕ) (pages : List ℕ) (k : ℕ) (bs : List ℕ) → opened_part x q a ≡ Some (Buffer pages k bs) → ⊥
no_buffer x q a pages k bs found =
    ⊎_elim (λ (same : Element dummy_qtd ≡ Buffer pages k bs). first pages k bs same) (λ (head : QueueHead q ≡ Buffer pages k bs). second pages k bs head) (found_one x q a (Buffer pages k bs) found)
  where
    first : (pages : List ℕ) (k : ℕ) (bs : List ℕ) → Element dummy_qtd ≡ Buffer pages k bs → ⊥
    first pages k bs same = cc

    second : (pages : List ℕ) (k : ℕ) (bs : List ℕ) → QueueHead q ≡ Buffer pages k bs → ⊥
    second pages k bs same = cc

chained_part : (x : Endpoint) (p : Placement) (link : ℕ) (part : Structures) → x.queue ≢ x.dummy → ((b : ℕ) → part b ≡ opened_part (runs_of_endpoint x) (chained_queue x p link) b) → HasQueue (32 * x.queue) part
chained_part x p link part differs same =
    let r : EndpointRuns = runs_of_endpoint x in
    let q : Qh = chained_queue x p link in
    let one : Structures = with_structure no_part (32 * x.queue) (QueueHead q) in
    record {
      part_is = record {
        queue = q;
        here = same (32 * x.queue) ∙ with_there one (32 * x.dummy) (Element dummy_qtd) (32 * x.queue) (λ s. differs (omega (arith, s))) ∙ with_here no_part (32 * x.queue) (QueueHead q);
        sound = record {
          rest = λ off idle. record { qtd = dummy_qtd; here = same (32 * x.dummy) ∙ with_here one (32 * x.dummy) (Element dummy_qtd) };
          work = λ on. absurd (true≢false (sym on));
        };
        elements = λ a t found. subst (IsSoundElement part) (one_element r q a t (sym (same a) ∙ found)) (record { next = tt; alternate = tt; work = λ on. absurd (true≢false (sym on)) });
        own = λ a b t u pages k bs first second name there. absurd (no_buffer r q _ pages k bs (sym (same _) ∙ there));
      };
    }

module _ (base : Base) (member : ℕ → Bool) (recent : ℕ → Option Kind) (descs parts : StructureSets) (hand : Hand) (frame : FrameHand) (c : Content) (d : DriverContent) (k : IsFramedNow base member recent descs parts hand frame c d) (r : IsChainLent d member recent parts) where
  abbrev at : ℕ
  at = 32 * r.endpoint.queue

  differs : r.endpoint.queue ≢ r.endpoint.dummy
  differs =
      queue_no_dummy (views_of d) k.framed.place.sound.owners.owner r.number r.number (runs_of_endpoint r.endpoint) (runs_of_endpoint r.endpoint) k.framed.place.sound.owners.owned.each
      (record { here = ap (option_map runs_of_endpoint) r.here; queued = r.queued }) (record { here = ap (option_map runs_of_endpoint) r.here; queued = r.queued })

  its_part : r.work.made ≡ 0 → HasQueue at (both descs parts at)
  its_part zero =
      let part : HasQueue at (parts at) = chained_part r.endpoint r.place r.link (parts at) differs (r.part zero) in
      let off : owns descs at ≡ false =
      queue_off d descs parts (record { owners = k.framed.place.sound.owners; driven = k.framed.driven; described = k.framed.described }) at at (QueueHead part.part_is.queue) part.part_is.here in
      subst (HasQueue at) (sym (both_off descs parts at off)) part

  its_name : 32 * (id_of (queue_member r.endpoint.queue r.place) / 32) ≡ at
  its_name = omega arith

  comes : ComesFirst member recent (both descs parts) d d.periodic.list
  comes w is adds zero =
      let same : r.work ≡ w = same_Some r.work w (sym r.under_way ∙ is) in
      let member_is : queue_member r.endpoint.queue r.place ≡ w.member = sym r.links ∙ ap (λ (v : Work). v.member) same in
      let here : Comes member recent (both descs parts) at AQueue = record { off = r.unmet; fresh = r.fresh; part = its_part (ap (λ (v : Work). v.made) same ∙ zero) } in
      subst (λ (m : Member). Comes member recent (both descs parts) (32 * (id_of m / 32)) (kind_of d.periodic m)) member_is
      (subst (λ (i : ℕ). Comes member recent (both descs parts) i AQueue) (sym its_name) here)

pub chain_comes_first : ChainComesFirst
chain_comes_first base member recent descs parts hand frame c d k r = comes base member recent descs parts hand frame c d k r

-- ---- an event of the controller

-- it changes nothing of whom neither walk meets
neither_meets : {W : Type 0} (begins : W → ℕ → Bool → W → Type 0) (transacts : W → Ask → List ℕ → Reply → W → Type 0) (base : Base) (member : ℕ → Bool) (met : ℕ → Option Kind) (parts : StructureSets) (hand : Hand) (frame : FrameHand) (c : Content) (wire after : W) (now : StructureSets) (later : Hand) (frame_later : FrameHand) (n : ℕ)
    → RunsBoth base member met parts hand frame c → BothEffect begins transacts parts c.control hand frame wire after now later frame_later → member n ≡ false → met n ≡ None → now n ≡ parts n
neither_meets begins transacts base member met parts hand frame c wire after now later frame_later n k (of_ring e nothing) off none = by_ring e
  where
    by_ring : ControlEffect begins transacts parts hand wire after now later → now n ≡ parts n
    by_ring (a_microframe b) = ap (λ (ps : StructureSets). ps n) b.parts_stay
    by_ring (a_step w) = stranger_stays transacts base member parts hand (walk_place c) wire after now later w.kind n k.ring w.effect off
neither_meets begins transacts base member met parts hand frame c wire after now later frame_later n k (of_frame w) off none =
    frame_leaves transacts met parts c.control.frame frame wire after now frame_later w.kind n (k.walk w.part).in_hand w.effect
    (λ a kind on same. none_some kind (sym none ∙ ap met same ∙ on))
  where
    none_some : (kind : Kind) → ◌≡◌ {A = Option Kind} None (Some kind) → ⊥
    none_some kind is = cc

still_fresh : (row : ControllerRow) (recent : ℕ → Option Kind) (n : ℕ) → recent n ≡ None → recent_then row recent n ≡ None
still_fresh events.Begin recent n is = refl
still_fresh _ recent n is = is

part_stays : (descs parts now : StructureSets) (n : ℕ) → now n ≡ both descs parts n → parts_now descs parts now n ≡ parts n
part_stays descs parts now n same = by (owns descs n) refl
  where
    by : (b : Bool) → owns descs n ≡ b → cond b (parts n) (now n) ≡ parts n
    by true is = refl
    by false is = same ∙ both_off descs parts n is

pub chain_stays_lent : {W : Type 0} (begins : W → ℕ → Bool → W → Type 0) (transacts : W → Ask → List ℕ → Reply → W → Type 0) → ChainStaysLent begins transacts
chain_stays_lent begins transacts base member recent descs parts hand frame c d wire new after row k e r =
    let n : ℕ = 32 * r.endpoint.queue in
    record {
      number = r.number;
      endpoint = r.endpoint;
      here = r.here;
      queued = r.queued;
      command = r.command;
      made = r.made;
      place = r.place;
      placed = r.placed;
      work = r.work;
      under_way = r.under_way;
      adds = r.adds;
      links = r.links;
      unmet = r.unmet;
      fresh = still_fresh row recent n r.fresh;
      link = r.link;
      off = r.off;
      part = λ zero b.
          let none : met d recent n ≡ None = ap (λ (o : Option Kind). or_recent o (recent n)) (r.off zero) ∙ r.fresh in
          ap (λ (part : Structures). part b)
          (part_stays descs parts e.now n
          (neither_meets begins transacts base member (met d recent) (both descs parts) hand frame c wire after e.now e.later e.frame_later n k.framed.runs e.effect r.unmet none))
          ∙ r.part zero b;
    }

-- ---- one of its stores

module _ (c : Content) (d : DriverContent) (w : Work) (command : d.command ≡ Some unfinished.Chain) (made : d.made ≡ 1) (under_way : d.periodic.list.work ≡ Some w) (more : is_more d.periodic.list.members.schedule w ≡ true) where
  abbrev further : Periodic
  further = record d.periodic.list { work = Some (record w { made = w.made + 1 }) }

  stored : after_store d.periodic.list ≡ further
  stored =
      ap (after_work d.periodic.list) under_way
      ∙ ap (λ (b : Bool). cond b further (record { list = d.periodic.list.list; members = members_after d.periodic.list.members w; work = None })) more

  abbrev stored_then : DriverContent
  stored_then = record d { made = 1; periodic = record d.periodic { list = further } }

  goes_on : advance d ≡ stored_then
  goes_on =
      ap (advanced_by d) command
      ∙ ap (λ (i : ℕ). cond (nat_lt (suc i) 1) (record d { made = suc d.made }) (linked_on d unfinished.Chain)) made
      ∙ ap (λ (i : ℕ). or_finished (record d { made = 1; periodic = begun_next false (record d.periodic { list = cond (nat_lt i 1) d.periodic.list (after_store d.periodic.list) }) }) unfinished.Chain) made
      ∙ ap (λ (p : Periodic). or_finished (record d { made = 1; periodic = begun_next false (record d.periodic { list = p }) }) unfinished.Chain) stored

  next_is : IsLinkOf (parts_of c d) (driver_row (parts_of c d)) → (next_parts c d).driver ≡ stored_then
  next_is why = ap (λ (row : DriverRow). (after_driver_row row (parts_of c d)).driver) why.is ∙ goes_on

pub chain_links_on : ChainLinksOn
chain_links_on base member recent descs parts hand frame c d why e r more =
    let n : ℕ = 32 * r.endpoint.queue in
    let same : recent_with d.periodic (leaves_now d.periodic.list) recent ≡ recent =
    ap (λ (o : Option Work). recent_with d.periodic (leaves_by d.periodic.list.members.schedule o) recent) r.under_way
    ∙ ap (λ (b : Bool). recent_with d.periodic (cond (b && not (is_more d.periodic.list.members.schedule r.work)) (Some r.work.member) None) recent) r.adds in
    let now : IsChainLent (stored_then c d r.work r.command r.made r.under_way more) member (recent_with d.periodic (leaves_now d.periodic.list) recent) (parts_now descs parts e.event.now) = record {
      number = r.number;
      endpoint = r.endpoint;
      here = r.here;
      queued = r.queued;
      command = r.command;
      made = refl;
      place = r.place;
      placed = r.placed;
      work = record r.work { made = r.work.made + 1 };
      under_way = refl;
      adds = r.adds;
      links = r.links;
      unmet = r.unmet;
      fresh = ap (λ (late : ℕ → Option Kind). late n) same ∙ r.fresh;
      link = r.link;
      off = λ zero. absurd (omega (arith, zero));
      part = λ zero b. absurd (omega (arith, zero));
    } in
    subst (λ (f : DriverContent). IsChainLent f member (recent_with d.periodic (leaves_now d.periodic.list) recent) (parts_now descs parts e.event.now)) (sym (next_is c d r.work r.command r.made r.under_way more why)) now
