-- Nothing is in hand: the queue head at the cursor is read, or the head of the ring ends the part.
use Rattle.std.proofs.Common.{◌≡◌, ℕ, Bool, true, false, not, ◌&&◌, if◌then◌else◌, List, Some, None, ap, refl, sym, subst, ◌∙◌}
use Rattle.usb_base.specs.declared.packets.Ask.{Ask}
use Rattle.usb_base.specs.declared.packets.Reply.{Reply}
use Rattle.link_words.specs.declared.kinds.Link.TheVariants as links
use Rattle.qh_qtd.specs.declared.queue_head.Qh.{Qh}
use Rattle.qh_qtd.specs.QueueHead.{IsQhInRange}
use Rattle.mem_queues.specs.Structures.{queue_head_at_address}
use Rattle.async_walk.specs.declared.rows.WalkRow.TheVariants as rows
use Rattle.async_walk.specs.declared.state.ReloadMode.{ReloadMode}
use Rattle.async_walk.specs.declared.state.ReloadMode.TheVariants.{WaitHead}
use Rattle.async_walk.specs.Naks.{mode_after, reloaded}
use Rattle.async_walk.specs.Rows.{WalkPlace, row_at, walk_row, ring_row, fetch_row, read_at, ring_read, was_read, step_of, Leads, head_ended, fetched}
use Rattle.async_walk.proofs.Ranges.{reloaded_in_range}
use Rattle.law_structures.specs.lent_structures.Structures.{QueueHead, StructureSets, HoldsQueueHead}
use Rattle.law_structures.proofs.lemmas.lent_structures.Reading.{head_read, head_not_refused}
use Rattle.law_structures.specs.lent_structures.Sound.{IsMember}
use Rattle.law_ring.specs.Hand.{Copy, copied_queue, Empty, Copied}
use Rattle.claims_base.specs.Controller.{Base}
use Rattle.law_ring.specs.Ring.{IsRing}
use Rattle.law_ring.specs.Effects.{Happens}
use Rattle.law_ring.specs.Effects.Effect.{reads, ends}
use Rattle.law_ring.proofs.Ringing.{head_base, fetched_base, ring_at, same_memory, happens_at}

-- the copy of a queue head that is read in a mode
abbrev read_copy : ReloadMode → ℕ → Qh → Copy
read_copy mode a q = record { at = a; queue = q; link = q.link; naks = (reloaded mode q).nak_cnt }

naks_only : (mode : ReloadMode) (a : ℕ) (q : Qh) → reloaded mode q ≡ copied_queue (read_copy mode a q)
unfolding reloaded
naks_only WaitHead a q = refl
naks_only _ a q = refl

module _ {W : Type 0} (transacts : W → Ask → List ℕ → Reply → W → Type 0) (base : Base) (member : ℕ → Bool) (parts : StructureSets) (wire after : W) where
  ended_ring : (s : WalkPlace) → IsRing base member parts Empty s → IsRing base member parts Empty (head_ended s)
  ended_ring s k =
      let registers = head_base s.registers s.registers.doorbell in
      ring_at base member parts Empty Empty s (head_ended s) k refl registers
      (record { to = base.async_list_address; leads = ap links.Qh (ap (λ (b : Base). b.async_list_address) (registers ∙ k.registers)); on = k.start }) k.held tt

  fetched_ring : (s : WalkPlace) (a : ℕ) → member a ≡ true → (m : IsMember member a (parts a)) → IsRing base member parts Empty s → IsRing base member parts (Copied (read_copy (mode_after m.queue s.walk.mode) a m.queue)) (fetched a m.queue s)
  fetched_ring s a on m k =
      let mode : ReloadMode = mode_after m.queue s.walk.mode in
      let h : HoldsQueueHead s.memory a m.queue = k.tells.each a a (QueueHead m.queue) m.here in
      ring_at base member parts Empty (Copied (read_copy mode a m.queue)) s (fetched a m.queue s) k refl (fetched_base m.queue.head s.registers)
      (record { to = a; leads = refl; on = on })
      (ap (λ (x : Qh). Some (record { at = a; queue_head = x; settled = None })) (naks_only mode a m.queue))
      (record { on = on; here = m.here; link = m.link; range = subst IsQhInRange (naks_only mode a m.queue) (reloaded_in_range mode m.queue h.range) })

  fetch_by : (s new : WalkPlace) (a : ℕ) → member a ≡ true → (m : IsMember member a (parts a)) → IsRing base member parts Empty s → (b : Bool) → Leads transacts (if b then rows.HeadEnds else rows.Fetch a m.queue) s wire new after → Happens transacts base member parts Empty wire after new (step_of (if b then rows.HeadEnds else rows.Fetch a m.queue) s)
  fetch_by s new a on m k true lead = record {
    now = parts;
    later = Empty;
    ring = subst (IsRing base member parts Empty) (sym lead.0) (ended_ring s k);
    effect = ends (record { unsettled = λ c z e. cc; nothing = refl }) refl lead.1;
  }
  fetch_by s new a on m k false lead = record {
    now = parts;
    later = Copied (read_copy (mode_after m.queue s.walk.mode) a m.queue);
    ring = subst (IsRing base member parts (Copied (read_copy (mode_after m.queue s.walk.mode) a m.queue))) (sym lead.0) (fetched_ring s a on m k);
    effect = reads (record { nothing = refl; copy = read_copy (mode_after m.queue s.walk.mode) a m.queue; here = m.here; link = refl; in_hand = refl }) refl lead.1;
  }

  pub empty_event : (s new : WalkPlace) → IsRing base member parts Empty s → Leads transacts (walk_row s) (was_read s) wire new after → Happens transacts base member parts Empty wire after new (step_of (walk_row s) (was_read s))
  empty_event s new k lead =
      let a : ℕ = k.cursor.to in
      let m : IsMember member a (parts a) = k.members a k.cursor.on in
      let there : queue_head_at_address s.memory a ≡ Some m.queue = head_read s.memory parts a a m.queue k.tells m.here in
      happens_at transacts base member parts Empty wire after s new (fetch_row s.registers.reclamation a (Some m.queue))
      (ap (row_at s) k.held ∙ ap (ring_row s.memory s.registers.reclamation) k.cursor.leads ∙ ap (fetch_row s.registers.reclamation a) there)
      (same_memory s (read_at s s.walk.held) (ap (read_at s) k.held ∙ ap (ring_read s.memory) k.cursor.leads ∙ head_not_refused s.memory parts a a m.queue k.tells m.here))
      (fetch_by s new a k.cursor.on m k (m.queue.head && not s.registers.reclamation)) lead
