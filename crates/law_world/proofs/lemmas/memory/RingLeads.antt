-- Where the queue heads of the ring lead, and those that have left it.
use Rattle.std.proofs.Common.{◌≡◌, ◌≢◌, ℕ, ◌+◌, ◌*◌, ◌/◌, ◌≤◌, true, List, [], ◌∷◌, ◌++◌, length, take, slice_get, get_or}
use Rattle.std.proofs.Common.{Option, Some, ap, sym, subst, ◌∙◌, ⊎_elim, inl, refl, arith}
use Rattle.std.specs.Prelude.{◌-◌, slice_index}
use Rattle.std.proofs.lemmas.Bool.{false≢true, cases_eq}
use Rattle.std.proofs.lemmas.Option.{same_Some}
use Rattle.law_world.proofs.Common2.{queue_told}
use Rattle.law_driver_ring.proofs.Common.{head_link}
use Rattle.law_ring.proofs.Common.{one_link}
use Rattle.law_world.proofs.Common2.{among_either}
use Rattle.law_common.proofs.Lists.{push_which}
use Rattle.law_driver.proofs.Common.{newest_get}
use Rattle.law_world.proofs.Common.{without_last}
use Rattle.word_mem.specs.declared.blocks.BlockState.TheVariants.{Lent}
use Rattle.word_mem.specs.Memory.{Mem, word_at, state_at}
use Rattle.word_mem.specs.Views.{words_at}
use Rattle.word_mem.proofs.Words.{get_or-words_in}
use Rattle.link_words.specs.declared.kinds.Link.TheVariants as links
use Rattle.link_words.specs.Links.{link_read}
use Rattle.drv_table.specs.declared.content.Command.{Command}
use Rattle.drv_table.specs.declared.content.Command.TheVariants as unfinished
use Rattle.drv_table.specs.declared.content.Endpoint.{Endpoint}
use Rattle.drv_table.specs.DriverContent.{DriverContent}
use Rattle.drv_table.specs.Words.{head_block, queue_head_link}
use Rattle.bus_world.specs.World.{World, controller_parts}
use Rattle.claims_base.specs.Controller.{opening_base}
use Rattle.claims_driver.specs.Leaving.{HasOwners, times}
use Rattle.claims_driver.specs.Ring.{link_in, IsAmong, first, later, IsQueueOf}
use Rattle.law_driver.specs.ring_members.Words.{AreLinked, IsTarget, to_head, to_member, to_later, AreLeaving, IsOpening, StandsFor}
use Rattle.claims_world.specs.Memory.{linked_to}
use Rattle.claims_world.specs.Links.{IsLive, the_head, a_queue, LeadsTo, IsLiveOrLater, live, left_later, AreLeft}
use Rattle.law_driver.specs.ring_members.Links.{newest_from}
use Rattle.law_driver.specs.endpoint_lives.Lives.{may_meet}
use Rattle.law_driver.proofs.lemmas.endpoint_lives.Lives.{waiting_met, rung_met}
use Rattle.law_driver.proofs.lemmas.run_owners.Orders.{times_both}
use Rattle.law_driver.proofs.lemmas.ring_members.Links.{LeadsTo as LeadsIn, newest_is}
use Rattle.law_driver.proofs.lemmas.ring_members.Leaving.{link_at, get_take}
use Rattle.law_driver.proofs.lemmas.ring_members.Placed.{left_alive, left_ring, in_ring_alive, queues_apart}
use Rattle.law_driver_ring.proofs.lemmas.walk_members.Decoding.{link_decoded}
use Rattle.law_driver_ring.specs.fed_queues.Places.{IsMet, HasHead}
use Rattle.law_queues.proofs.lemmas.reached_rings.Computing.{among_one}
use Rattle.law_structures.specs.lent_structures.Structures.{QueueHead, HoldsQueueHead}
use Rattle.law_structures.proofs.lemmas.lent_structures.Telling.{told_lent}
use Rattle.law_structures.specs.lent_structures.Sound.{IsMember}
use Rattle.law_descriptors.specs.Both.{both}
use Rattle.law_descriptors.specs.Meeting.{met}
use Rattle.law_controller.specs.frame_control.Both.{RunsBoth}
use Rattle.law_world.specs.memory.Mixed.{Standing, IsMixedAt}
use Rattle.law_world.proofs.lemmas.memory.Rings.{linked_now}

-- ---- those in the ring

to_newest : (d : DriverContent) (zs : List Endpoint)
    → ((i : ℕ) (y : Endpoint) → slice_get zs i ≡ Some y → slice_get (linked_to d.command d.endpoints) i ≡ Some y)
    → (v : ℕ) → v ≡ queue_head_link (newest_from head_block zs) → LeadsTo (IsLive d) v
to_newest d zs within v link = record {
  block = newest_from head_block zs;
  link = link;
  is = ⊎_elim (λ (h : newest_from head_block zs ≡ head_block). the_head h)
      (λ (l : LeadsIn zs (newest_from head_block zs)).
      a_queue l.number l.endpoint (within l.number l.endpoint l.here) l.linked (sym l.queue))
      (newest_is head_block zs);
}

pub live_leads : (m : Mem) (d : DriverContent) → StandsFor (link_in m) d.endpoints d.transfers d.command → (b : ℕ) → IsLive d b
    → LeadsTo (IsLive d) (link_in m b)
live_leads m d stands b (the_head at) =
    let xs : List Endpoint = linked_to d.command d.endpoints in
    let linked : AreLinked (link_in m) head_block xs = linked_now (link_in m) d.endpoints d.transfers d.command stands in
    subst (λ (c : ℕ). LeadsTo (IsLive d) (link_in m c)) (sym at)
    (to_newest d xs (λ i y there. there) (link_in m head_block) (head_link (link_in m) head_block xs linked))
live_leads m d stands b (a_queue e x here on at) =
    let xs : List Endpoint = linked_to d.command d.endpoints in
    let linked : AreLinked (link_in m) head_block xs = linked_now (link_in m) d.endpoints d.transfers d.command stands in
    subst (λ (c : ℕ). LeadsTo (IsLive d) (link_in m c)) (sym at)
    (to_newest d (take e xs) (λ i y there. (get_take xs e i y there).1) (link_in m x.queue)
    (link_at (link_in m) head_block xs e x here on linked))

-- ---- those that left may still be met

module _ (d : DriverContent) (has : HasOwners d) where
  few : (e : ℕ) → times e (d.rung ++ d.waiting) ≤ times e d.rung + times e d.waiting
  few e = omega (arith, times_both e d.rung d.waiting)

  left_met : (e : ℕ) (x : Endpoint) → IsAmong e (d.rung ++ d.waiting) → may_meet d e x ≡ true
  left_met e x among =
      ⊎_elim (λ (w : IsAmong e d.rung). rung_met d e x (among_one e d.rung w))
      (λ (w : IsAmong e d.waiting). waiting_met d e x (among_one e d.waiting w)) (among_either e d.rung d.waiting among)

  -- it isn't the one that an unfinished open links
  not_opening : (m : Mem) (e : ℕ) (x : Endpoint) → StandsFor (link_in m) d.endpoints d.transfers d.command → IsAmong e (d.rung ++ d.waiting)
      → slice_get d.endpoints e ≡ Some x → d.command ≢ Some (unfinished.Open x.queue)
  not_opening m e x stands among here is =
      let s : IsOpening (link_in m) d.endpoints x.queue = subst (StandsFor (link_in m) d.endpoints d.transfers) is stands in
      let alive = left_alive d e x (d.rung ++ d.waiting) has.orderly (few e) among here in
      let there : slice_get d.endpoints (length s.older) ≡ Some s.new
      = ap (λ (ys : List Endpoint). slice_get ys (length s.older)) s.all ∙ newest_get s.older s.new in
      ⊎_elim
      (λ (same : e ≡ length s.older).
      let one : x ≡ s.new = same_Some x s.new (sym here ∙ ap (slice_get d.endpoints) same ∙ there) in
      false≢true (sym alive.1 ∙ ap (λ (y : Endpoint). y.linked) one ∙ s.linked))
      (λ (differ : e ≢ length s.older).
      queues_apart d e (length s.older) x s.new has here alive.0 there (in_ring_alive d (length s.older) s.new has.orderly there s.linked)
      differ (sym s.here))
      (cases_eq e (length s.older))

  met_there : (m : Mem) (e : ℕ) (x : Endpoint) → StandsFor (link_in m) d.endpoints d.transfers d.command → IsAmong e (d.rung ++ d.waiting)
      → slice_get d.endpoints e ≡ Some x → IsMet d e x
  met_there m e x stands among here = record {
    there = record {
      linked = not_opening m e x stands among here;
      kept = (left_ring d e x (d.rung ++ d.waiting) has.orderly (few e) among here).1;
    };
    near = left_met e x among;
  }

-- ---- where a member leads

first_of_words : (m : Mem) (a n : ℕ) → 1 ≤ n → slice_index (words_at m a n) 0 ≡ word_at m a
first_of_words m a n many =
    let same : (a + 4 * 0) / 4 ≡ a / 4 = omega arith in
    get_or-words_in m.words a n 0 many ∙ ap (λ (k : ℕ). get_or m.words k 0) same

read_as : (b : ℕ) → link_read (queue_head_link b) ≡ links.Qh (32 * b)
unfolding link_read
read_as b = link_decoded b

module _ (s : Standing) (w : World) (k : IsMixedAt s w) where
  abbrev d : DriverContent
  d = w.driver

  abbrev m : Mem
  m = w.memory

  abbrev runs : RunsBoth opening_base s.member (met d s.recent) (both s.descs s.parts) s.hand s.frame (controller_parts w)
  runs = k.now.framed.runs

  abbrev has : HasOwners d
  has = k.now.framed.place.sound.owners

  abbrev stands : StandsFor (link_in m) d.endpoints d.transfers d.command
  stands = k.now.framed.place.sound.ring.ring

  -- so what it leads to may be met
  member_leads : (b to : ℕ) → s.member (32 * b) ≡ true → link_in m b ≡ queue_head_link to → s.member (32 * to) ≡ true
  member_leads b to on link =
      let member : IsMember s.member (32 * b) (both s.descs s.parts (32 * b)) = runs.ring.members (32 * b) on in
      let holds : HoldsQueueHead m (32 * b) member.queue = runs.ring.tells.each (32 * b) (32 * b) (QueueHead member.queue) member.here in
      let same : links.Qh member.link.to ≡ links.Qh (32 * to)
      = sym member.link.leads ∙ queue_told m (32 * b) member.queue holds ∙ ap link_read link ∙ read_as to in
      subst (λ (n : ℕ). s.member n ≡ true) (one_link member.link.to (32 * to) same) member.link.on

  -- and it is Lent
  pub left_lent : (e : ℕ) (x : Endpoint) → IsAmong e (w.driver.rung ++ w.driver.waiting) → slice_get w.driver.endpoints e ≡ Some x
      → state_at w.memory x.queue ≡ Some Lent
  left_lent e x among here =
      let on : s.member (32 * x.queue) ≡ true = k.ring.each e x here (met_there d has m e x stands among here) in
      let member : IsMember s.member (32 * x.queue) (both s.descs s.parts (32 * x.queue)) = runs.ring.members (32 * x.queue) on in
      let at : 32 * x.queue / 32 ≡ x.queue = omega arith in
      subst (λ (b : ℕ). state_at m b ≡ Some Lent) at
      (told_lent m (both s.descs s.parts) (32 * x.queue) (32 * x.queue) (QueueHead member.queue) (32 * x.queue / 32) runs.ring.tells
      member.here (inl refl))

  same_block : (a b : ℕ) → 32 * a ≡ 32 * b → a ≡ b
  same_block a b same = omega (arith, same)

  -- an endpoint in the ring whose queue head may be met is live
  opened_live : (e b q : ℕ) → d.command ≡ Some (unfinished.Open q) → IsOpening (link_in m) d.endpoints q → s.member (32 * b) ≡ true
      → (at : IsQueueOf d.endpoints e b) → at.endpoint.linked ≡ true → IsLive d b
  opened_live e b q is o on at linked =
      ⊎_elim
      (λ (old : slice_get o.older e ≡ Some at.endpoint).
      let within : slice_get (linked_to (Some (unfinished.Open q)) d.endpoints) e ≡ Some at.endpoint
      = ap (λ (xs : List Endpoint). slice_get (take (length xs - 1) xs) e) o.all
      ∙ ap (λ (xs : List Endpoint). slice_get xs e) (without_last o.older o.new) ∙ old in
      a_queue e at.endpoint
      (subst (λ (c : Option Command). slice_get (linked_to c d.endpoints) e ≡ Some at.endpoint) (sym is) within) linked (sym at.queue))
      (λ (newest : (e ≡ length o.older) × (at.endpoint ≡ o.new)).
      let itself : b ≡ q = sym at.queue ∙ ap (λ (x : Endpoint). x.queue) newest.1 ∙ o.here in
      ⊎_elim (λ (head : 32 * b ≡ 32 * head_block). the_head (same_block b head_block head))
      (λ (h : HasHead d (32 * b)).
      absurd (h.met.there.linked (is ∙ ap (λ (n : ℕ). Some (unfinished.Open n)) (sym itself ∙ same_block b h.endpoint.queue h.at))))
      (k.ring.only (32 * b) on))
      (push_which o.older o.new e at.endpoint (sym (ap (λ (xs : List Endpoint). slice_get xs e) o.all) ∙ at.here))

  live_by : (e b : ℕ) (o : Option Command) → d.command ≡ o → s.member (32 * b) ≡ true → (at : IsQueueOf d.endpoints e b)
      → at.endpoint.linked ≡ true → IsLive d b
  live_by e b (Some (unfinished.Open q)) is on at linked =
      opened_live e b q is (subst (StandsFor (link_in m) d.endpoints d.transfers) is stands) on at linked
  live_by e b o is on at linked =
      a_queue e at.endpoint
      (subst (λ (c : Option Command). slice_get (linked_to c d.endpoints) e ≡ Some at.endpoint) (sym is) at.here) linked (sym at.queue)

  target_by : (es : List ℕ) (b : ℕ) → s.member (32 * b) ≡ true → IsTarget d.endpoints es b → IsLiveOrLater d es b
  target_by es b on (to_head at) = live (the_head at)
  target_by es b on (to_member e at linked) = live (live_by e b d.command refl on at linked)
  target_by es b on (to_later e at among) = left_later e among at

  left_by : (es : List ℕ) → ((e : ℕ) → IsAmong e es → IsAmong e (d.rung ++ d.waiting)) → AreLeaving (link_in m) d.endpoints es
      → AreLeft m d es
  left_by [] within all = tt
  left_by (e ∷ es) within all =
      let x : Endpoint = all.0.endpoint in
      let among : IsAmong e (d.rung ++ d.waiting) = within e (first es) in
      let on : s.member (32 * x.queue) ≡ true = k.ring.each e x all.0.here (met_there d has m e x stands among all.0.here) in (
        record {
          endpoint = x;
          here = all.0.here;
          out = (left_alive d e x (d.rung ++ d.waiting) has.orderly (few d has e) among all.0.here).1;
          leads = record {
            block = all.0.to;
            link = all.0.link;
            is = target_by es all.0.to (member_leads x.queue all.0.to on all.0.link) all.0.target;
          };
        },
        left_by es (λ f a. within f (later e es a)) all.1,
      )

  pub left_leads : AreLeft w.memory w.driver (w.driver.rung ++ w.driver.waiting)
  left_leads = left_by (d.rung ++ d.waiting) (λ e among. among) k.now.framed.place.sound.ring.leaving
