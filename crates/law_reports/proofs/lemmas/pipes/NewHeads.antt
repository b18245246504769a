-- The queue head of an endpoint that is being opened, once its structures were lent: it is the one that the driver wrote for it.
use Rattle.std.proofs.Common.{◌≡◌, ◌≢◌, ℕ, ◌*◌, Bool, true, false, if◌then◌else◌, List, slice_get, Option, Some, None, Result, Ok, ap, refl}
use Rattle.std.proofs.Common.{sym, subst, ◌∙◌, ⊎_elim, inl, inr, arith}
use Rattle.std.specs.Prelude.{◌⊎◌}
use Rattle.std.proofs.lemmas.Bool.{cases_eq}
use Rattle.std.proofs.lemmas.Option.{same_Some}
use Rattle.law_world.proofs.Common.{none_some, same_queue}
use Rattle.law_common.proofs.Numbers.{zero_one, other_number}
use Rattle.link_words.specs.declared.refusal.Bad.{Bad}
use Rattle.word_mem.specs.Memory.{Mem}
use Rattle.word_mem.specs.Views.{words_at}
use Rattle.qh_qtd.specs.declared.qtd.Qtd.{Qtd}
use Rattle.qh_qtd.specs.declared.queue_head.Qh.{Qh}
use Rattle.qh_qtd.specs.QueueHead.{qh_words, qh_read, IsQhInRange}
use Rattle.qh_qtd.proofs.QhLaws.{qh_read-words}
use Rattle.hc_copy.specs.Planning.{host_in}
use Rattle.claims_base.specs.Controller.{opening_base}
use Rattle.claims_driver.specs.Leaving.{HasOwners}
use Rattle.claims_driver.specs.Owners.{runs_of_endpoint, views_of}
use Rattle.drv_table.specs.declared.content.Command.{Command}
use Rattle.drv_table.specs.declared.content.Command.TheVariants as unfinished
use Rattle.drv_table.specs.declared.content.Endpoint.{Endpoint}
use Rattle.drv_table.specs.DriverContent.{DriverContent}
use Rattle.drv_table.specs.Words.{dummy_qtd, queue_head}
use Rattle.law_driver.specs.queued_drivers.Queued.{queue_of, queued_command, queued_made, queued}
use Rattle.law_driver.proofs.lemmas.ring_members.Placed.{has_queue}
use Rattle.law_structures.specs.lent_structures.Structures.{Structure, QueueHead, Element, StructureSets, put}
use Rattle.law_structures.proofs.lemmas.lent_structures.Names.{put_same, put_else}
use Rattle.law_ring.specs.Hand.{Hand, Empty, Copied, Settled, Stale}
use Rattle.law_ring.specs.Told.{Endpoint as Told, endpoint_of, hand_toggle}
use Rattle.law_frames.specs.Met.{Kind}
use Rattle.law_driver_ring.proofs.LendOpening.{two_lent}
use Rattle.law_driver_ring.proofs.LendOwning.{queue_no_dummy, none_there}
use Rattle.law_queues.specs.cancelled_bytes.Cancelled.{SettlesElsewhere}
use Rattle.law_queues.specs.open_laws.Lends.{IsOpenReady}
use Rattle.law_queues.specs.open_laws.Opens.{IsOpenLent}
use Rattle.law_driver_ring.specs.LendOpened.{IsOpened}
use Rattle.law_queues.specs.open_laws.Queues.{IsOpenToLend, IsOpenThere, parts_opened}
use Rattle.law_descriptors.specs.Both.{both}
use Rattle.law_descriptors.specs.Meeting.{met}
use Rattle.law_structures.proofs.lemmas.lent_structures.Altering.{found_queue}
use Rattle.law_below_hubs.specs.HostEvents.{hand_host}
use Rattle.law_descriptors.proofs.Rings.{other_off}
use Rattle.law_descriptors.proofs.Standing.{both_off}
use Rattle.law_world.specs.memory.Mixed.{IsChainToLend, IsChainThere, IsUnderWay, Standing, IsMixedAt}
use Rattle.law_world.specs.memory.framed_memory.Chained.{chained_queue}
use Rattle.law_world.proofs.lemmas.memory.ChainReady.{its_own, last}
use Rattle.law_world.proofs.lemmas.memory.HarvestKept.{owners_of, describes}
use Rattle.law_reports.specs.lines.Lined.{in_hand}
use Rattle.law_reports.proofs.lemmas.lines.Settled.{settles_elsewhere}
use Rattle.bus_world.specs.World.{World, controller_parts}
use Rattle.law_reports.specs.pipes.Piped.{asked_as, IsOpening, IsNewHead}

-- ---- what the driver wrote

-- its endpoint's structures are all that is to be lent
pub record IsReadyHead (d : DriverContent) (m : Mem) : Type 0 where
  pub number : ℕ
  pub endpoint : Endpoint
  pub here : slice_get d.endpoints number ≡ Some endpoint
  pub command : (queued d).command ≡ Some (unfinished.Open endpoint.queue)
  pub queue : Qh
  pub opened : IsOpened d m number (runs_of_endpoint endpoint) queue
  pub asks : endpoint_of queue ≡ asked_as endpoint.desc
  pub first : queue.token.toggle ≡ false
  pub fresh : (queue.token.missed ≡ false) × (queue.token.halted ≡ false)
  pub starts : queue.token.split_state ≡ false

-- they are to be lent still, or are
module _ (d : DriverContent) (m : Mem) (owners : HasOwners d) (member : ℕ → Bool) (recent : ℕ → Option Kind) (parts : StructureSets)
    (q : ℕ) (opens : (queued d).command ≡ Some (unfinished.Open q)) where
  abbrev Stage : Type 0
  Stage = IsReadyHead d m ⊎ ((queued d).made ≡ 1)

  made_as : (c : Command) → d.command ≡ Some c → (queued d).made ≡ queued_made (Some c) d.made
  made_as c is = ap (λ (o : Option Command). queued_made o d.made) is

  pub of_ring : IsOpenReady d m → IsReadyHead d m
  of_ring r = record {
    number = r.number;
    endpoint = r.endpoint;
    here = r.here;
    command = ap (queued_command d.endpoints) r.command;
    queue = queue_head r.endpoint.desc r.link r.endpoint.dummy;
    opened = r.opened;
    asks = refl;
    first = refl;
    fresh = (refl, refl);
    starts = refl;
  }

  of_frames : IsChainToLend d m → IsReadyHead d m
  of_frames k = record {
    number = k.ready.number;
    endpoint = k.ready.endpoint;
    here = k.ready.here;
    command = ap (queued_command d.endpoints) k.ready.command
        ∙ ap (λ (o : Option Endpoint). Some (unfinished.Open (queue_of o))) (last d m owners k.ready k.newest);
    queue = chained_queue k.ready.endpoint k.ready.place k.ready.link;
    opened = k.ready.opened;
    asks = refl;
    first = refl;
    fresh = (refl, refl);
    starts = refl;
  }

  lent_once : IsOpenLent d member parts → Stage
  lent_once l = inr (made_as (unfinished.Open l.endpoint.queue) l.command ∙ l.made)

  chained_once : IsChainThere d member recent parts → Stage
  chained_once l = inr (made_as unfinished.Chain l.lent.command ∙ ap (queued_made (Some unfinished.Chain)) l.lent.made)

  other : (c : Option Command) → d.command ≡ c → queued_command d.endpoints c ≡ Some (unfinished.Open q)
  other c is = sym (ap (queued_command d.endpoints) is) ∙ opens

  not_publish : (b : ℕ) (words : List ℕ) → ◌≡◌ {A = Option Command} (Some (unfinished.Publish b words)) (Some (unfinished.Open q)) → ⊥
  not_publish b words e = cc

  not_unlink : (e b link : ℕ) → ◌≡◌ {A = Option Command} (Some (unfinished.Unlink e b link)) (Some (unfinished.Open q)) → ⊥
  not_unlink e b link s = cc

  pub stage : (c : Option Command) → d.command ≡ c → IsUnderWay d m member recent parts c → Stage
  stage None is u = absurd (none_some (unfinished.Open q) (other None is))
  stage (Some (unfinished.Open queue)) is u = ⊎_elim (λ (r : IsOpenReady d m). inl (of_ring r)) lent_once u
  stage (Some (unfinished.Publish b words)) is u = absurd (not_publish b words (other (Some (unfinished.Publish b words)) is))
  stage (Some (unfinished.Unlink e b link)) is u = absurd (not_unlink e b link (other (Some (unfinished.Unlink e b link)) is))
  stage (Some unfinished.Chain) is u = ⊎_elim (λ (r : IsChainToLend d m). inl (of_frames r)) chained_once u
  stage (Some (unfinished.Iso e t count)) is u = absurd (none_some (unfinished.Open q) (other (Some (unfinished.Iso e t count)) is))
  stage (Some (unfinished.Unchain e)) is u = absurd (none_some (unfinished.Open q) (other (Some (unfinished.Unchain e)) is))

-- ---- its words tell it

same_ok : (p q : Qh) → ◌≡◌ {A = Result Qh Bad} (Ok p) (Ok q) → p ≡ q
same_ok p q e = cc

same_head : (p q : Qh) → IsQhInRange p → IsQhInRange q → qh_words p ≡ qh_words q → p ≡ q
same_head p q one two same = same_ok p q (sym (qh_read-words p one) ∙ ap qh_read same ∙ qh_read-words q two)

-- ---- before they are lent nothing stands there

module _ (s : Standing) (w : World) (mixed : IsMixedAt s w) where
  pub none_told : (r : IsReadyHead w.driver w.memory) (a : ℕ) → s.parts (32 * r.endpoint.queue) a ≡ None
  none_told r a =
      none_there (views_of w.driver) _ mixed.now.framed.place.sound.owners.owner r.number (runs_of_endpoint r.endpoint) s.parts a
      (two_lent w.driver w.memory r.number (runs_of_endpoint r.endpoint) r.queue r.opened mixed.now.framed.place.sound.owners)
      mixed.now.framed.driven

  -- an open whose structures stand is lent
  pub made_once : (k : IsOpenThere (queued w.driver) s.parts) → (queued w.driver).made ≡ 1
  made_once k =
      ⊎_elim
      (λ (r : IsReadyHead w.driver w.memory).
      absurd (none_is_head k.part.queue
      (sym (none_told r (32 * r.endpoint.queue)) ∙ ap (λ (q : ℕ). s.parts (32 * q) (32 * q))
      (same_queue r.endpoint.queue k.endpoint.queue (sym r.command ∙ k.command)) ∙ k.part.here)))
      (λ (one : (queued w.driver).made ≡ 1). one)
      (stage w.driver w.memory mixed.now.framed.place.sound.owners s.member s.recent s.parts k.endpoint.queue k.command
      w.driver.command refl mixed.under_way)
    where
      none_is_head : (q : Qh) → ◌≡◌ {A = Option Structure} None (Some (QueueHead q)) → ⊥
      none_is_head q e = cc

-- ---- the lend

module _ (s : Standing) (w : World) (mixed : IsMixedAt s w) (k : IsOpenToLend (queued w.driver) w.memory) where
  abbrev n : ℕ
  n = 32 * k.endpoint.queue

  owners : HasOwners w.driver
  owners = mixed.now.framed.place.sound.owners

  pub r : IsReadyHead w.driver w.memory
  r =
      ⊎_elim (λ (r : IsReadyHead w.driver w.memory). r)
      (λ (one : (queued w.driver).made ≡ 1). absurd (zero_one (sym k.made ∙ one)))
      (stage w.driver w.memory owners s.member s.recent s.parts k.endpoint.queue k.command w.driver.command refl mixed.under_way)

  pub one_queue : k.endpoint.queue ≡ r.endpoint.queue
  one_queue = same_queue k.endpoint.queue r.endpoint.queue (sym k.command ∙ r.command)

  pub head_is : k.queue ≡ r.queue
  head_is = same_head k.queue r.queue k.opened.range r.opened.range
      (sym k.opened.queue_words ∙ ap (λ (b : ℕ). words_at w.memory (32 * b) 12) one_queue ∙ r.opened.queue_words)

  -- nothing stood there before
  none_stood : s.parts (32 * k.endpoint.queue) (32 * k.endpoint.queue) ≡ None
  none_stood = ap (λ (q : ℕ). s.parts (32 * q) (32 * q)) one_queue ∙ none_told s w mixed r (32 * r.endpoint.queue)

  head_here : parts_opened k s.parts (32 * k.endpoint.queue) (32 * k.endpoint.queue) ≡ Some (QueueHead k.queue)
  head_here =
      let differs : k.endpoint.queue ≢ k.endpoint.dummy =
      queue_no_dummy (views_of (queued w.driver)) (owners_of s w mixed).owner k.number k.number (runs_of_endpoint k.endpoint)
      (runs_of_endpoint k.endpoint) (owners_of s w mixed).owned.each k.opened.here k.opened.here in
      put_else (put s.parts n n (QueueHead k.queue)) n (32 * k.endpoint.dummy) (Element dummy_qtd) n (λ same. differs (omega (arith, same)))
      ∙ put_same s.parts n n (QueueHead k.queue)

  none_is_head : (q : Qh) → ◌≡◌ {A = Option Structure} None (Some (QueueHead q)) → ⊥
  none_is_head q e = cc

  no_head : (q : Qh) → both s.descs s.parts (32 * k.endpoint.queue) (32 * k.endpoint.queue) ≡ Some (QueueHead q) → ⊥
  no_head q here =
      let off = other_off (views_of w.driver) s.descs s.parts n (QueueHead q) (describes s w mixed).described refl here in
      none_is_head q (sym none_stood ∙ sym (ap (λ (part : ℕ → Option Structure). part n) (both_off s.descs s.parts n off)) ∙ here)

  settled : SettlesElsewhere (in_hand s) (32 * k.endpoint.queue)
  settled = settles_elsewhere opening_base s.member (met w.driver s.recent) (both s.descs s.parts) s.hand s.frame (controller_parts w)
      mixed.now.framed.runs n no_head

  first_by : (h : Hand) → SettlesElsewhere h (32 * k.endpoint.queue) → false ≡ hand_toggle h (32 * k.endpoint.queue) k.queue
  first_by Empty other = sym (ap (λ (q : Qh). q.token.toggle) head_is ∙ r.first)
  first_by (Copied c) other = sym (ap (λ (q : Qh). q.token.toggle) head_is ∙ r.first)
  first_by (Settled c z) other =
      sym (ap (λ (b : Bool). if b then z.host.toggle else k.queue.token.toggle) (other_number c.at n other)
      ∙ ap (λ (q : Qh). q.token.toggle) head_is ∙ r.first)
  first_by (Stale at old) other = sym (ap (λ (q : Qh). q.token.toggle) head_is ∙ r.first)

  starts_by : (h : Hand) → SettlesElsewhere h (32 * k.endpoint.queue) → (q : Qh)
      → parts_opened k s.parts (32 * k.endpoint.queue) (32 * k.endpoint.queue) ≡ Some (QueueHead q)
      → (hand_host h (32 * k.endpoint.queue) q).waiting ≡ false
  starts_by h other q there = by h other
    where
      is : q ≡ k.queue
      is = found_queue (parts_opened k s.parts n n) q k.queue there head_here

      own : q.token.split_state ≡ false
      own = ap (λ (v : Qh). v.token.split_state) (is ∙ head_is) ∙ r.starts

      by : (l : Hand) → SettlesElsewhere l (32 * k.endpoint.queue) → (hand_host l (32 * k.endpoint.queue) q).waiting ≡ false
      by Empty other = own
      by (Copied c) other = own
      by (Settled c z) other = ap (λ (b : Bool). (if b then z.host else host_in q).waiting) (other_number c.at n other) ∙ own
      by (Stale at old) other = own

  head_element : (q : Qh) (u : Qtd) → ◌≡◌ {A = Option Structure} (Some (QueueHead q)) (Some (Element u)) → ⊥
  head_element q u e = cc

  none_element : (u : Qtd) → ◌≡◌ {A = Option Structure} None (Some (Element u)) → ⊥
  none_element u e = cc

  same_element : (t u : Qtd) → ◌≡◌ {A = Option Structure} (Some (Element t)) (Some (Element u)) → t ≡ u
  same_element t u e = cc

  -- the qTD at its end isn't active
  none_active : (a : ℕ) (u : Qtd) → parts_opened k s.parts (32 * k.endpoint.queue) a ≡ Some (Element u) → u.token.active ≡ true → ⊥
  none_active a u there on =
      ⊎_elim
      (λ (at : a ≡ 32 * k.endpoint.dummy).
      let is : dummy_qtd ≡ u = same_element dummy_qtd u
      (sym (put_same (put s.parts n n (QueueHead k.queue)) n (32 * k.endpoint.dummy) (Element dummy_qtd))
      ∙ ap (parts_opened k s.parts n) (sym at) ∙ there) in
      absurd (let e : false ≡ true = ap (λ (t : Qtd). t.token.active) is ∙ on in cc))
      (λ (differs : a ≢ 32 * k.endpoint.dummy).
      ⊎_elim
      (λ (at : a ≡ n). head_element k.queue u (sym head_here ∙ ap (parts_opened k s.parts n) (sym at) ∙ there))
      (λ (other : a ≢ n).
      none_element u
      (sym (ap (λ (q : ℕ). s.parts (32 * q) a) one_queue ∙ none_told s w mixed r a)
      ∙ sym (put_else s.parts n n (QueueHead k.queue) a other)
      ∙ sym (put_else (put s.parts n n (QueueHead k.queue)) n (32 * k.endpoint.dummy) (Element dummy_qtd) a differs) ∙ there))
      (cases_eq a n)) (cases_eq a (32 * k.endpoint.dummy))

  pub lent_head : (e : ℕ) (y : Endpoint) → slice_get w.driver.endpoints e ≡ Some y → IsOpening w.driver y
      → IsNewHead (record s { parts = parts_opened k s.parts }) (32 * y.queue) (asked_as y.desc)
  lent_head e y here opening =
      let queue_is : y.queue ≡ r.endpoint.queue = same_queue y.queue r.endpoint.queue (sym opening.command ∙ r.command) in
      let one : e ≡ r.number = its_own w.driver owners r.number e r.endpoint y r.here r.opened.here.queued here
      (has_queue y opening.queue opening.kept) queue_is in
      let is : y ≡ r.endpoint = same_Some y r.endpoint (sym here ∙ ap (slice_get w.driver.endpoints) one ∙ r.here) in
      let asks : endpoint_of k.queue ≡ asked_as y.desc = ap endpoint_of head_is ∙ r.asks ∙ ap (λ (v : Endpoint). asked_as v.desc)
      (sym is) in
      let same : k.endpoint.queue ≡ y.queue = one_queue ∙ sym queue_is in
      subst (λ (b : ℕ). IsNewHead (record s { parts = parts_opened k s.parts }) (32 * b) (asked_as y.desc)) same
      (record {
        named = record { queue = k.queue; head = head_here; is = sym asks };
        first = λ own. record {
          queue = k.queue;
          head = head_here;
          own = ap (λ (t : Told). t.dtc) asks ∙ own;
          is = first_by (in_hand s) settled;
        };
        starts = λ q there. starts_by (in_hand s) settled q there;
        idle = λ a u there on. none_active a u there on;
      })
