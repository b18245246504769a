-- The head of the ring leads to a new endpoint's queue head, beside both walks.
use Rattle.std.proofs.Common.{◌≡◌, ◌≢◌, ℕ, ◌*◌, Bool, true, false, ◌||◌, Option, Some, option_map, ap, sym, subst, ◌∙◌, ⊎_elim, arith}
use Rattle.std.proofs.lemmas.Bool.{cases_eq, true≢false}
use Rattle.law_driver_ring.proofs.Common.{led_on}
use Rattle.law_world.proofs.Common.{head_no_sitd, head_no_itd}
use Rattle.law_common.proofs.Numbers.{other_number}
use Rattle.word_mem.specs.Memory.{Mem, word_at}
use Rattle.link_words.specs.Fields.{link_at}
use Rattle.link_words.specs.Links.{link_of}
use Rattle.qh_qtd.specs.declared.queue_head.Qh.{Qh}
use Rattle.async_walk.specs.Rows.{place}
use Rattle.mem_runs.specs.Book.{holding, slot_of, can_store}
use Rattle.drv_table.specs.declared.content.Endpoint.{Endpoint}
use Rattle.drv_table.specs.declared.content.Command.TheVariants as unfinished
use Rattle.drv_table.specs.DriverContent.{DriverContent}
use Rattle.drv_table.specs.Parts.{Parts}
use Rattle.drv_table.specs.Kinds.{is_iso}
use Rattle.drv_table.specs.Rows.{row_for, driver_row, after_driver_row}
use Rattle.drv_table.specs.Commands.{command_row}
use Rattle.drv_table.specs.Words.{head_block, to_queue_head, queue_head_link, queue_head, dummy_qtd}
use Rattle.claims_driver.specs.Owners.{QueueHead as QueueOf, Dummy, runs_of_endpoint}
use Rattle.claims_driver.specs.Ring.{link_in}
use Rattle.law_driver.specs.ring_members.Words.{IsOpening, StandsFor}
use Rattle.law_driver.specs.in_place.InPlace.{IsSound}
use Rattle.law_driver.proofs.lemmas.ring_members.Placed.{can_begin, head_run_there, in_ring_alive, queue_placed}
use Rattle.hc_core.specs.Controller.{Content, walk_place}
use Rattle.law_structures.specs.lent_structures.Structures.{QueueHead, Element, Structures, StructureSets, with_structure}
use Rattle.law_structures.specs.lent_structures.Sound.{LeadsAmong, IsMember}
use Rattle.law_structures.proofs.lemmas.lent_structures.Names.{put_beside, with_here, with_there}
use Rattle.law_structures.proofs.lemmas.lent_structures.Altering.{found_queue}
use Rattle.law_structures.proofs.lemmas.lent_structures.Reading.{head_read}
use Rattle.law_ring.specs.Hand.{Hand}
use Rattle.claims_base.specs.Controller.{Base}
use Rattle.law_ring.specs.Stores.{IsWider}
use Rattle.law_driver_ring.specs.Driven.{DrivesRing}
use Rattle.law_driver_ring.specs.Linked.{no_part, with_member, head_at, link_row}
use Rattle.law_driver_ring.proofs.Linking.{link_opens_drives}
use Rattle.law_driver_ring.proofs.lemmas.walk_members.Decoding.{read_link}
use Rattle.law_queues.specs.open_laws.Opens.{IsOpenLent, head_then, hand_then}
use Rattle.law_queues.proofs.lemmas.open_laws.Linking.{words_same}
use Rattle.law_queues.proofs.lemmas.open_laws.Standing.{member_here, member_old, member_beside}
use Rattle.law_queues.specs.shared_memory.Shared.{parts_of}
use Rattle.law_frames.specs.Met.{Kind, AQueue, AnItd, ASitd, LeadsTo, IsMetQueue, IsMetItd, IsMetSitd}
use Rattle.law_frames.specs.FrameHand.{FrameHand}
use Rattle.law_controller.specs.frame_control.Both.{AreApart}
use Rattle.law_descriptors.specs.Both.{both}
use Rattle.law_descriptors.specs.PartLaws.{IsDescribing}
use Rattle.law_descriptors.specs.Meeting.{met}
use Rattle.law_descriptors.proofs.Standing.{both_off}
use Rattle.law_descriptors.proofs.Telling.{queue_off, queue_found}
use Rattle.law_world.specs.memory.framed_memory.Now.{IsFramedNow, FramedNext}
use Rattle.law_world.specs.memory.framed_memory.Ring.{IsHeadMet, OpenLinkNow}
use Rattle.law_world.proofs.lemmas.memory.lemmas.framed_memory.RingLinks.{MayCome, framed_wider, ring_now, link_stored}
use Rattle.law_world.proofs.lemmas.memory.lemmas.framed_memory.Steps.{StaysMet, open_step}

module _ (base : Base) (member : ℕ → Bool) (recent : ℕ → Option Kind) (descs parts : StructureSets) (hand : Hand) (frame : FrameHand) (c : Content) (d : DriverContent) (i : IsFramedNow base member recent descs parts hand frame c d) (k : IsOpenLent d member parts) (h : IsHeadMet member parts) where
  abbrev p : Parts
  p = parts_of c d

  abbrev x : Endpoint
  x = k.endpoint

  abbrev n : ℕ
  n = 32 * x.queue

  abbrev wider : ℕ → Bool
  wider = with_member member n

  abbrev q : Qh
  q = queue_head x.desc k.link x.dummy

  abbrev now : StructureSets
  now = head_then parts h.queue x

  abbrev f : DriverContent
  f = (after_driver_row (link_row x.queue) p).driver

  abbrev after : Mem
  after = (after_driver_row (link_row x.queue) p).memory

  sound : IsSound c.memory d
  sound = i.framed.place.sound

  old : IsDescribing d descs parts
  old = record { owners = sound.owners; driven = i.framed.driven; described = i.framed.described }

  drives : DrivesRing base member parts hand (walk_place c) d
  drives = ring_now base member recent descs parts hand frame c d i

  row_is : driver_row p ≡ link_row x.queue
  row_is = ap (row_for p) k.command ∙ ap (command_row (unfinished.Open x.queue)) k.made

  -- ---- its part

  differs : x.queue ≢ x.dummy
  differs same =
      let alive : is_iso x.desc.kind || x.gone ≡ false = in_ring_alive d k.number x sound.owners.orderly k.here k.fresh in
      let one = (queue_placed d k.number x sound.owners k.here alive).owned in
      let other = (sound.owners.owned.each.dummy k.number (runs_of_endpoint x) (ap (option_map runs_of_endpoint) k.here) alive).owned in
      never (sym one ∙ ap sound.owners.owner same ∙ other)
    where
      never : QueueOf k.number ≡ Dummy k.number → ⊥
      never e = cc

  pub queue_here : parts n n ≡ Some (QueueHead q)
  queue_here =
      let one : Structures = with_structure no_part n (QueueHead q) in
      k.part n ∙ with_there one (32 * x.dummy) (Element dummy_qtd) n (λ s. differs (omega (arith, s))) ∙ with_here no_part n (QueueHead q)

  -- it leads where the head leads
  leads : h.queue.link ≡ to_queue_head k.link
  leads =
      let opening : IsOpening (link_in c.memory) d.endpoints x.queue = subst (StandsFor (link_in c.memory) d.endpoints d.transfers) k.command sound.ring.ring in
      let one : h.queue.link ≡ link_at (word_at c.memory (32 * head_block)) = read_link c.memory head_block h.queue (head_read c.memory parts head_at head_at h.queue drives.ring.tells h.here) in
      let other : q.link ≡ link_at (word_at c.memory (32 * x.queue)) = read_link c.memory x.queue q (head_read c.memory parts n n q drives.ring.tells queue_here) in
      one ∙ ap link_at (words_same (link_in c.memory) d.endpoints x.queue opening) ∙ sym other

  can : can_store (slot_of d.book.slots head_block) head_at ≡ true
  can = can_begin (holding d.book c.memory) head_block sound.stands (head_run_there d sound.owners)

  -- ---- the ring

  drives_then : DrivesRing base wider now (hand_then hand x) (place c.control.walk c.registers after) f
  drives_then = link_opens_drives base member parts hand c.control.walk p (runs_of_endpoint x) x.desc k.link h.queue drives can h.on h.here leads differs k.part

  -- ---- the frames don't meet it

  onward : member (32 * k.link) ≡ true
  onward =
      let head : IsMember member head_at (parts head_at) = drives.ring.members head_at h.on in
      let same : head.queue ≡ h.queue = found_queue (parts head_at head_at) head.queue h.queue head.here h.here in
      led_on member k.link (subst (LeadsAmong member) (ap (λ (z : Qh). z.link) same ∙ leads) head.link)

  found : both descs parts n n ≡ Some (QueueHead q)
  found = queue_found d descs parts old n n (QueueHead q) queue_here

  pub never_met : (kind : Kind) → met d recent n ≡ Some kind → ⊥
  never_met AQueue at =
      let m : IsMetQueue (met d recent) n (both descs parts n) = i.framed.runs.members n AQueue at in
      let same : m.part_is.queue ≡ q = found_queue (both descs parts n n) m.part_is.queue q m.part_is.here found in
      let next : LeadsTo (met d recent) (link_of q.link) = subst (λ (z : Qh). LeadsTo (met d recent) (link_of z.link)) same m.link in
      true≢false (sym onward ∙ i.framed.runs.apart (32 * k.link) AQueue next)
  never_met AnItd at = let m : IsMetItd (met d recent) n (both descs parts n) = i.framed.runs.members n AnItd at in head_no_itd (both descs parts n n) q m.itd found m.here
  never_met ASitd at = let m : IsMetSitd (met d recent) n (both descs parts n) = i.framed.runs.members n ASitd at in head_no_sitd (both descs parts n n) q m.sitd found m.here

  apart : AreApart wider (met d recent)
  apart m kind at =
      ⊎_elim (λ (same : m ≡ n). absurd (never_met kind (ap (met d recent) (sym same) ∙ at)))
      (λ (other : m ≢ n). ap (λ (b : Bool). b || member m) (other_number m n other) ∙ i.framed.runs.apart m kind at) (cases_eq m n)

  -- ---- it may be met

  more : IsWider member wider
  more m on = member_old member n m on

  off_head : n ≢ head_at
  off_head same = true≢false (sym h.on ∙ ap member (sym same) ∙ k.unmet)

  new_one : IsMember wider n (both descs parts n)
  new_one =
      let same : now n ≡ parts n = put_beside parts head_at head_at (QueueHead (record h.queue { link = to_queue_head x.queue })) n off_head in
      subst (IsMember wider n) (same ∙ sym (both_off descs parts n (queue_off d descs parts old n n (QueueHead q) queue_here))) (drives_then.ring.members n (member_here member n))

  comes : MayCome member wider (both descs parts)
  comes m on off =
      ⊎_elim (λ (same : m ≡ n). subst (λ (j : ℕ). IsMember wider j (both descs parts j)) (sym same) new_one)
      (λ (other : m ≢ n). absurd (true≢false (sym (member_beside member n m other on) ∙ off))) (cases_eq m n)

  framed : IsFramedNow base wider recent descs parts hand frame c d
  framed = framed_wider base member wider recent descs parts hand frame c d more comes apart i

  stays : StaysMet recent c.registers.frame_index d f
  stays = open_step recent c.registers.frame_index d d.book i.recent_are x.queue k.command

  pub linked_now : FramedNext base wider recent descs now (hand_then hand x) frame c d
  linked_now =
      link_stored base wider recent descs parts hand frame c d head_block (queue_head_link x.queue) (to_queue_head x.queue) h.queue framed (more head_at h.on) h.here can row_is drives_then stays

pub open_link_now : OpenLinkNow
open_link_now base member recent descs parts hand frame c d i k h = linked_now base member recent descs parts hand frame c d i k h
