-- No event of the driver and no command changes what a queue head in its frames goes on to (EHCI 1.0, 3.5, 3.6 and 4.10.2): its overlay is
-- the controller's, and so is the token of the qTD that it goes on to.
use Rattle.std.proofs.Common.{◌≡◌, ◌≢◌, ℕ, ◌+◌, ◌*◌, ◌%◌, ◌<◌, Bool, true, false, Some, ap, refl, sym, subst, ◌∙◌, ⊎_elim, arith}
use Rattle.std.proofs.lemmas.Bool.{cases_eq}
use Rattle.usb_base.specs.declared.endpoints.EpDesc.{EpDesc}
use Rattle.usb_base.specs.declared.endpoints.EpName.{EpName}
use Rattle.word_mem.specs.Memory.{Mem, word_at}
use Rattle.link_words.specs.declared.kinds.QtdLink.TheVariants as qtd_links
use Rattle.link_words.specs.Links.{qtd_link_of}
use Rattle.qh_qtd.specs.declared.qtd.Qtd.{Qtd}
use Rattle.qh_qtd.specs.declared.queue_head.Qh.{Qh}
use Rattle.qh_qtd.specs.declared.token.Token.{Token}
use Rattle.qh_qtd.specs.Token.{token_at}
use Rattle.mem_queues.specs.Structures.{qtd_at_address, queue_head_at_address}
use Rattle.bandwidth.specs.declared.placements.Placement.{Placement}
use Rattle.bandwidth.specs.Sums.{is_active}
use Rattle.drv_table.specs.Kinds.{is_iso}
use Rattle.hc_copy.specs.Visits.{next_pointer}
use Rattle.bus_wire.specs.Bus.{Fixed}
use Rattle.bus_world.specs.World.{World, controller_parts}
use Rattle.claims_base.specs.Controller.{opening_base}
use Rattle.claims_world.specs.Coming.{IsInItsFrames}
use Rattle.claims_world.specs.Due.{IsActiveToken, ComesTo, goes_on, takes}
use Rattle.claims_world.specs.FrameHeads.{characteristics_in, capabilities_in}
use Rattle.claims_world.specs.Owners.{IsControllers, of_overlay, of_token}
use Rattle.claims_world.specs.Reach.{Reaches, QueueAt, QtdAt, leads_to_qtd}
use Rattle.claims_world.specs.Reach.Reaches.{of_queue}
use Rattle.claims_world.specs.Reach.IsPartOfQueue.{taken}
use Rattle.claims_world.specs.Reach.IsQueueHeadAt.{in_memory}
use Rattle.law_structures.proofs.lemmas.lent_structures.Reading.{element_read}
use Rattle.law_descriptors.specs.Both.{both}
use Rattle.law_descriptors.specs.Meeting.{met}
use Rattle.law_world.specs.memory.Mixed.{IsMixedWorld}
use Rattle.law_world.proofs.lemmas.memory.WaysThere.{IsToldQtd, told}
use Rattle.law_microframes.specs.visits.Belonging.{HaveFields, HeadsHaveFields}
use Rattle.law_microframes.proofs.lemmas.due.Aside.{IsAside}
use Rattle.law_microframes.proofs.lemmas.due.Fields.{its_token, element_aligned}
use Rattle.law_microframes.proofs.lemmas.visits.BelongQueues.{alive}
use Rattle.law_reports.proofs.lemmas.due_at_begin.Ahead.{HasYet, HasToken, HasWork, IsAlike, read_alike, goes_alike, yet_alike, work_alike}
use Rattle.law_reports.proofs.lemmas.due_at_begin.Reached.{its_way, IsReadThere, its_head}

-- what goes on isn't halted
pub unhalted_of : (m : Mem) (q v : Qh) → ComesTo m q v → q.token.halted ≡ false
unhalted_of m q _ (goes_on work) = work.unhalted
unhalted_of m q _ (takes a t idle unhalted leads here work) = unhalted

-- ---- the words of its endpoint's characteristics and capabilities

pub its_words : (w : World) (k : IsMixedWorld w) (heads : HeadsHaveFields w.driver w.memory) (e q : ℕ) (p : Placement)
    (i : IsInItsFrames w.driver e q p) → HaveFields (word_at w.memory (32 * q + 4)) (word_at w.memory (32 * q + 8)) i.endpoint.desc p
its_words w k heads e q p i =
    let kept : i.endpoint.gone ≡ false =
    alive w.driver k.mixed.now.framed.place.sound.owners e i.endpoint i.here i.chained in
    subst (λ (b : ℕ). HaveFields (word_at w.memory (32 * b + 4)) (word_at w.memory (32 * b + 8)) i.endpoint.desc p) i.queue
    (heads e i.endpoint p i.here (ap is_iso i.kind) kept i.placed)

first_word : (w : World) (k : IsMixedWorld w) (heads : HeadsHaveFields w.driver w.memory) (e q : ℕ) (p : Placement)
    (i : IsInItsFrames w.driver e q p) → word_at w.memory (32 * q + 4 * 1) ≡ characteristics_in i.endpoint.desc
first_word w k heads e q p i =
    let at : 32 * q + 4 * 1 ≡ 32 * q + 4 = omega arith in
    ap (word_at w.memory) at ∙ (its_words w k heads e q p i).characteristics

second_word : (w : World) (k : IsMixedWorld w) (heads : HeadsHaveFields w.driver w.memory) (e q : ℕ) (p : Placement)
    (i : IsInItsFrames w.driver e q p) → word_at w.memory (32 * q + 4 * 2) ≡ capabilities_in i.endpoint.desc p
second_word w k heads e q p i =
    let at : 32 * q + 4 * 2 ≡ 32 * q + 8 = omega arith in
    ap (word_at w.memory) at ∙ (its_words w k heads e q p i).capabilities

module _ (fixed : Fixed) (w later : World) (k : IsMixedWorld w) (l : IsMixedWorld later) (aside : IsAside w later)
    (heads : HeadsHaveFields w.driver w.memory) (heads_then : HeadsHaveFields later.driver later.memory) (e q : ℕ) (p : Placement)
    (i : IsInItsFrames w.driver e q p) (j : IsInItsFrames later.driver e q p) (desc : j.endpoint.desc ≡ i.endpoint.desc)
    (f : ℕ) (low : f < 1024) (active : is_active p f ≡ true) where
  way : Reaches (controller_parts w) (QueueAt (32 * q))
  way = its_way w k e q p i f low active

  way_then : Reaches (controller_parts later) (QueueAt (32 * q))
  way_then = its_way later l e q p j f low active

  word_same : (at : ℕ) → at % 4 ≡ 0 → IsControllers (controller_parts w) at → word_at later.memory at ≡ word_at w.memory at
  word_same at aligned its =
      ⊎_elim (λ (same : word_at later.memory at ≡ word_at w.memory at). same)
      (λ (differs : word_at later.memory at ≢ word_at w.memory at). absurd (aside.leaves at aligned differs its))
      (cases_eq (word_at later.memory at) (word_at w.memory at))

  one_word : word_at later.memory (32 * q + 4 * 1) ≡ word_at w.memory (32 * q + 4 * 1)
  one_word =
      first_word later l heads_then e q p j ∙ ap characteristics_in desc ∙ sym (first_word w k heads e q p i)

  two_word : word_at later.memory (32 * q + 4 * 2) ≡ word_at w.memory (32 * q + 4 * 2)
  two_word =
      second_word later l heads_then e q p j ∙ ap (λ (d : EpDesc). capabilities_in d p) desc ∙ sym (second_word w k heads e q p i)

  pub its_later_head : IsReadThere later l e q p j
  its_later_head = its_head later l e q p j

  module _ (queue : Qh) (read : queue_head_at_address w.memory (32 * q) ≡ Some queue) (unhalted : queue.token.halted ≡ false) where
    overlay : (a : ℕ) → 3 < a → a < 10 → word_at later.memory (32 * q + 4 * a) ≡ word_at w.memory (32 * q + 4 * a)
    overlay a first last =
        word_same (32 * q + 4 * a) (omega arith)
        (of_overlay (32 * q) queue a way read unhalted (omega (arith, first)) (omega (arith, last)) refl)

    pub aside_alike : IsAlike queue its_later_head.queue
    aside_alike = read_alike w.memory later.memory (32 * q) queue its_later_head.queue read its_later_head.read one_word two_word overlay

    abbrev alike : IsAlike queue its_later_head.queue
    alike = aside_alike

    pub aside_token : (a : ℕ) (t : Qtd) → queue.token.active ≡ false → queue.token.halted ≡ false
        → qtd_link_of (next_pointer queue) ≡ qtd_links.To a → qtd_at_address w.memory a ≡ Some t → IsActiveToken t.token
        → HasToken later.memory a t.token
    aside_token a t idle goes leads here work =
        let to : Reaches (controller_parts w) (QtdAt a) =
        of_queue (32 * q) queue (QtdAt a) way (in_memory read) (taken goes idle (ap leads_to_qtd leads)) in
        let aligned : a % 4 ≡ 0 = element_aligned w.memory (32 * q) queue a read leads in
        let word : word_at later.memory (a + 8) ≡ word_at w.memory (a + 8) =
        word_same (a + 8) (omega (arith, aligned)) (of_token a t to here work.active refl) in
        let leads_then : qtd_link_of (next_pointer its_later_head.queue) ≡ qtd_links.To a =
        rw (alike.token, alike.next, alike.alternate) leads in
        let to_then : Reaches (controller_parts later) (QtdAt a) =
        of_queue (32 * q) its_later_head.queue (QtdAt a) way_then (in_memory its_later_head.read)
        (taken (ap (λ (x : Token). x.halted) alike.token ∙ goes) (ap (λ (x : Token). x.active) alike.token ∙ idle)
        (ap leads_to_qtd leads_then)) in
        let x : IsToldQtd (both l.standing.descs l.standing.parts) a =
        told opening_base l.standing.member (met later.driver l.standing.recent) (both l.standing.descs l.standing.parts) l.standing.hand
        l.standing.frame (controller_parts later) l.mixed.now.framed.runs (QtdAt a) to_then in
        let read : qtd_at_address later.memory a ≡ Some x.qtd =
        element_read later.memory (both l.standing.descs l.standing.parts) x.owner a x.qtd l.mixed.now.framed.runs.ring.tells x.here in
        record {
          qtd = x.qtd;
          here = read;
          token = sym (its_token later.memory a x.qtd read) ∙ ap token_at word ∙ its_token w.memory a t here;
        }

  module _ (name : EpName) (bytes : ℕ) (y : HasYet fixed w name (32 * q) bytes) where
    unhalted : y.queue.token.halted ≡ false
    unhalted = unhalted_of w.memory y.queue y.works y.next

    pub aside_yet : HasYet fixed later name (32 * q) bytes
    aside_yet =
        yet_alike fixed w later name (32 * q) bytes y its_later_head.queue its_later_head.read
        (goes_alike w.memory later.memory y.queue its_later_head.queue y.works (aside_alike y.queue y.read unhalted) y.next
        (aside_token y.queue y.read unhalted)) aside.bus

  -- .. whatever its device is
  pub aside_work : (v : Qh) (b : Bool) → HasWork w.memory (32 * q) v b → HasWork later.memory (32 * q) v b
  aside_work v b y =
      let unhalted : y.queue.token.halted ≡ false = unhalted_of w.memory y.queue y.works y.next in
      work_alike w.memory later.memory (32 * q) v b y its_later_head.queue its_later_head.read (aside_alike y.queue y.read unhalted)
      (aside_token y.queue y.read unhalted)
