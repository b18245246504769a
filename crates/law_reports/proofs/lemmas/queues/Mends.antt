-- The store that a stalled control endpoint is owed leaves each other queue, and takes its own out of its halt where it leads onward.
use Rattle.std.proofs.Common.{◌≡◌, ◌≢◌, ℕ, zero, suc, ◌*◌, ◌||◌, Bool, true, false, slice_get, Some, ap, refl, sym, subst, ◌∙◌, ⊎_elim, arith}
use Rattle.std.proofs.lemmas.Bool.{cases_eq, false≢true, true≢false}
use Rattle.std.proofs.lemmas.Option.{same_Some}
use Rattle.law_world.proofs.Common.{its_way, queue_kind}
use Rattle.law_world.proofs.Common2.{control_kind}
use Rattle.law_driver.proofs.Common.{control_kind as not_iso}
use Rattle.law_common.proofs.Numbers.{same_blocks}
use Rattle.usb_base.specs.declared.packets.Way.TheVariants as ways
use Rattle.link_words.specs.declared.fields.ShortLink.{ShortLink}
use Rattle.qh_qtd.specs.declared.qtd.Qtd.{Qtd}
use Rattle.qh_qtd.specs.declared.queue_head.Qh.{Qh}
use Rattle.hc_copy.specs.Visits.{next_pointer}
use Rattle.drv_table.specs.declared.content.Endpoint.{Endpoint}
use Rattle.drv_table.specs.DriverContent.{DriverContent}
use Rattle.drv_table.specs.Kinds.{is_iso}
use Rattle.drv_table.specs.Words.{head_block, queue_head, is_control}
use Rattle.claims_driver.specs.Leaving.{HasOwners}
use Rattle.law_driver.specs.queued_drivers.Queued.{with_queue, queued}
use Rattle.law_driver.proofs.lemmas.queued_drivers.RowLists.{queue_at}
use Rattle.law_driver.proofs.lemmas.queued_drivers.RowOwners.{queued_has_owners}
use Rattle.law_driver.proofs.lemmas.ring_members.Placed.{has_queue, queues_apart}
use Rattle.law_structures.specs.lent_structures.Structures.{QueueHead, Element, StructureSets}
use Rattle.law_structures.proofs.lemmas.lent_structures.Names.{put_beside, put_found}
use Rattle.law_structures.proofs.lemmas.lent_structures.Altering.{same_queue}
use Rattle.law_ring.specs.Told.{Endpoint as Told, endpoint_of}
use Rattle.law_driver_ring.specs.fed_queues.Places.{HasHead}
use Rattle.law_queues.specs.mended_heads.Mended.{IsAtMend, parts_then, head_at, mended, mended_by}
use Rattle.law_queues.specs.mended_heads.Owed.{IsOwed}
use Rattle.bus_world.specs.World.{World, driver_parts}
use Rattle.law_world.specs.memory.Mixed.{Standing, IsMixedAt}
use Rattle.law_world.proofs.lemmas.memory.QueueViews.{told_queue}
use Rattle.law_reports.specs.queues.Onward.{LeadsOnward}
use Rattle.law_reports.specs.queues.OnwardLaws.{GoOnward}
use Rattle.law_reports.proofs.lemmas.queues.Places.{head_of}
use Rattle.law_reports.proofs.lemmas.queues.Quiet.{spared_onward, idle_stored}
use Rattle.law_reports.proofs.lemmas.queues.Spared.{spared_same}

module _ (s : Standing) (w : World) (mixed : IsMixedAt s w) (k : IsAtMend (driver_parts w) s.parts s.out) where
  abbrev d : DriverContent
  d = queued w.driver

  abbrev n : ℕ
  n = 32 * k.stalled.queue

  abbrev now : StructureSets
  now = parts_then k

  owners : HasOwners (queued w.driver)
  owners = queued_has_owners w.driver mixed.now.framed.place.sound.owners mixed.turns

  owed : IsOwed w.driver k.stalled
  owed = k.are.owed.0

  its_kind : is_iso owed.endpoint.desc.kind ≡ false
  its_kind = not_iso owed.endpoint.desc.kind owed.control

  there : slice_get (queued w.driver).endpoints owed.number ≡ Some (with_queue owed.endpoint)
  there = queue_at w.driver.endpoints owed.number owed.endpoint owed.here its_kind

  kept : is_iso (with_queue owed.endpoint).desc.kind || (with_queue owed.endpoint).gone ≡ false
  kept = has_queue (with_queue owed.endpoint) (told_queue owed.endpoint) owed.kept

  way : (with_queue owed.endpoint).desc.name.way ≡ ways.Ctl
  way = its_way owed.endpoint.desc.name.way owed.endpoint.desc.kind (mixed.turns.kinds_fit owed.number owed.endpoint owed.here) owed.control

  -- it is the endpoint that is met there, if any is
  met_one : (h : HasHead (queued w.driver) (32 * k.stalled.queue)) → h.endpoint.desc.name.way ≡ ways.Ctl
  met_one h =
      let its = queue_kind h.endpoint.desc.name.way h.endpoint.desc.kind
      (mixed.turns.turns.asynchronous.endpoints h.number h.endpoint h.here).asynchronous.kind in
      let same_queue : h.endpoint.queue ≡ (with_queue owed.endpoint).queue
      = sym (same_blocks k.stalled.queue h.endpoint.queue h.at) ∙ sym owed.queue in
      ⊎_elim
      (λ (same : h.number ≡ owed.number).
      let one : h.endpoint ≡ with_queue owed.endpoint = same_Some h.endpoint (with_queue owed.endpoint)
      (sym h.here ∙ ap (slice_get (queued w.driver).endpoints) same ∙ there) in
      ap (λ (x : Endpoint). x.desc.name.way) one ∙ way)
      (λ (differs : h.number ≢ owed.number).
      absurd (queues_apart (queued w.driver) h.number owed.number h.endpoint (with_queue owed.endpoint) owners h.here
      (has_queue h.endpoint its h.met.there.kept) there kept differs same_queue)) (cases_eq h.number owed.number)

  -- a queue head of another kind is another
  apart : (m : ℕ) → s.near m ≡ true → m ≢ 32 * head_block → (s.ends m).dtc ≡ false → m ≢ 32 * k.stalled.queue
  apart m on other pipe same =
      let h : HasHead (queued w.driver) (32 * k.stalled.queue)
      = subst (HasHead (queued w.driver)) same (head_of s w mixed m on other) in
      let ends : s.ends (32 * h.endpoint.queue) ≡ endpoint_of (queue_head h.endpoint.desc 0 h.endpoint.dummy)
      = (mixed.queues.queues.streams_are.each h.number h.endpoint h.here h.met).1 in
      let control : is_control h.endpoint.desc.kind ≡ true = control_kind h.endpoint.desc.name.way h.endpoint.desc.kind (met_one h)
      (mixed.turns.turns.asynchronous.endpoints h.number h.endpoint h.here).asynchronous.kind in
      false≢true (sym pipe ∙ ap (λ (i : ℕ). (s.ends i).dtc) (same ∙ h.at) ∙ ap (λ (e : Told). e.dtc) ends ∙ control)

  -- ---- its own links

  no_head : (u : Qtd) → Element u ≡ QueueHead (mended k.stalled (head_at k)) → ⊥
  no_head u e = cc

  -- until the last of its stores it is halted
  leads_then : (made : ℕ) → k.stalled.made ≡ made → (q : Qh) → q ≡ mended_by k.stalled.onward made (head_at k) → q.token.halted ≡ false
      → (next_pointer q).t ≡ false
  leads_then zero at q is off =
      absurd (true≢false (sym k.are.wait.0.stands.halted ∙ sym (ap (λ (r : Qh). r.token.halted) is) ∙ off))
  leads_then (suc zero) at q is off =
      absurd (true≢false (sym k.are.wait.0.stands.halted ∙ sym (ap (λ (r : Qh). r.token.halted) is) ∙ off))
  leads_then (suc (suc made)) at q is off =
      ap (λ (r : Qh). (next_pointer r).t) is
      ∙ ap (λ (l : ShortLink). l.t) (k.are.wait.0.stands.next (omega (arith, at)))

  mended_links : (m : ℕ) → LeadsOnward m (s.parts m) → LeadsOnward m (now m)
  mended_links m old = record {
    next = λ a u here on.
        ⊎_elim (λ (is : (m ≡ n) × (a ≡ n) × (Element u ≡ QueueHead (mended k.stalled (head_at k)))). absurd (no_head u is.2))
        (λ (was : s.parts m a ≡ Some (Element u)). old.next a u was on)
        (put_found s.parts n n (QueueHead (mended k.stalled (head_at k))) m a (Element u) here);
    rest = λ q here off idle.
        ⊎_elim
        (λ (is : (m ≡ n) × (m ≡ n) × (QueueHead q ≡ QueueHead (mended k.stalled (head_at k)))).
        leads_then k.stalled.made refl q (same_queue q (mended k.stalled (head_at k)) is.2) off)
        (λ (was : s.parts m m ≡ Some (QueueHead q)). old.rest q was off idle)
        (put_found s.parts n n (QueueHead (mended k.stalled (head_at k))) m m (QueueHead q) here);
  }

  pub mends_onward : (new : World) (t : Standing) → GoOnward s (queued w.driver) → t.near ≡ s.near → t.ends ≡ s.ends → t.order ≡ s.order
      → t.parts ≡ parts_then k → GoOnward t (queued new.driver)
  mends_onward new t g near ends order parts =
      spared_onward s w new mixed g t (λ m on. sym (ap (λ (h : ℕ → Bool). h m) near) ∙ on) ends order
      (λ m other. subst (λ (ps : StructureSets). LeadsOnward m (ps m)) (sym parts) (mended_links m (g.links m other)))
      (λ m on other pipe.
      let differs : m ≢ n = apart m (sym (ap (λ (h : ℕ → Bool). h m) near) ∙ on) other pipe in
      spared_same m (s.parts m) (t.parts m) (ap (λ (ps : StructureSets). ps m) parts
      ∙ put_beside s.parts n n (QueueHead (mended k.stalled (head_at k))) m differs))
      (λ m a un. idle_stored w.driver (queued new.driver) k.idle m a un)
