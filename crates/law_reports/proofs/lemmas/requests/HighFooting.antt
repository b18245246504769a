-- Worlds with endpoints of every kind have what requests stand on, by what their queues tell of their drivers.
use Rattle.std.proofs.Common.{◌≡◌, ℕ, suc, ◌-◌, ◌*◌, ◌||◌, Bool, true, false, length, slice_get, Option, Some, None, if◌then◌else◌, ap}
use Rattle.std.proofs.Common.{refl, sym, subst, ◌∙◌, ⊎_elim, inl, inr, arith}
use Rattle.std.specs.Prelude.{◌⊎◌}
use Rattle.std.proofs.lemmas.Bool.{false≢true}
use Rattle.law_descriptors.proofs.Returning.{none_some}
use Rattle.law_devices.proofs.Common.{zero_by}
use Rattle.law_driver.proofs.Common.{ring_queue, of_queue, get_queued, same_control}
use Rattle.law_world.proofs.Common.{same_queue}
use Rattle.usb_base.specs.declared.endpoints.EpName.{EpName}
use Rattle.usb_base.specs.declared.packets.EpKind.{EpKind}
use Rattle.usb_base.specs.declared.packets.EpKind.TheVariants as kinds
use Rattle.usb_base.specs.declared.packets.Way.TheVariants as ways
use Rattle.usb_base.specs.declared.packets.Reply.{Reply}
use Rattle.bus_wire.specs.Bus.{Fixed}
use Rattle.claims_base.specs.Controller.{opening_base}
use Rattle.claims_driver.specs.Leaving.{HasOwners}
use Rattle.claims_driver.specs.Owners.{EndpointRuns, runs_of_endpoint, views_of}
use Rattle.drv_periodic_table.specs.Periodic.{is_periodic}
use Rattle.drv_table.specs.declared.content.Command.{Command}
use Rattle.drv_table.specs.declared.content.Command.TheVariants as unfinished
use Rattle.drv_table.specs.declared.content.Endpoint.{Endpoint}
use Rattle.drv_table.specs.DriverContent.{DriverContent}
use Rattle.drv_table.specs.Kinds.{is_iso}
use Rattle.drv_table.specs.Words.{is_control, head_block, opening_head}
use Rattle.law_driver.specs.endpoint_lives.Lives.{is_one_of}
use Rattle.law_driver.specs.queued_drivers.Queued.{with_queue, without_queue, queued_endpoint, queued_command, queue_of, queued}
use Rattle.law_driver.proofs.lemmas.queued_drivers.CommandFields.{name_same}
use Rattle.law_structures.specs.lent_structures.Structures.{QueueHead}
use Rattle.law_structures.specs.lent_structures.Sound.{IsMember}
use Rattle.law_ring.specs.Hand.{Hand, Empty, Copied, Settled, Stale, Copy}
use Rattle.law_ring.specs.Ring.{IsCopied, IsInHand, IsRing}
use Rattle.law_ring.specs.Stores.{IsWider}
use Rattle.law_ring.specs.Told.{HasEndpoint, Endpoint as Characteristics, endpoint_of}
use Rattle.law_ring.proofs.Common.{wider_link}
use Rattle.law_ring.proofs.Driving.{wider_member}
use Rattle.law_driver_ring.specs.fed_queues.Places.{IsMet, HasHead}
use Rattle.law_driver_ring.proofs.LendOwning.{none_there}
use Rattle.law_driver_ring.proofs.LendOpening.{lent_content, two_lent}
use Rattle.hc_core.specs.Controller.{walk_place}
use Rattle.law_descriptors.proofs.Rings.{ring_is_of_queues}
use Rattle.law_world.specs.memory.framed_memory.Chained.{chained_queue}
use Rattle.law_world.specs.memory.Mixed.{IsChainToLend, IsChainThere, IsUnderWay, Standing, IsMixedAt}
use Rattle.law_world.proofs.lemmas.memory.RingBasis.{linked_still, near_ring}
use Rattle.law_world.proofs.lemmas.memory.HarvestKept.{owners_of, describes, tells_of, driven_of, runs_of, fronts_of}
use Rattle.law_reports.specs.lines.Lined.{in_hand, Lines}
use Rattle.law_reports.proofs.lemmas.lines.IsoGoing.{told_apart}
use Rattle.law_reports.specs.pipes.Declared.{Sides as Pipes}
use Rattle.law_reports.specs.pipes.Piped.{Heads, asked_as, IsPiped}
use Rattle.law_reports.proofs.lemmas.pipes.Names.{queue_same, name_is, WasQueued, was_queued, IsMetHead, met_head}
use Rattle.law_reports.specs.requests.Asking.{Sides}
use Rattle.law_reports.specs.requests.Footing.{IsHeadNamed, IsFooting}
use Rattle.law_reports.specs.requests.HighAsking.{told_world, told_standing, told_streams, AreSuited}
use Rattle.law_reports.proofs.lemmas.requests.Footing.{control_zero}
use Rattle.law_reports.proofs.lemmas.requests.Names.{one_endpoint}
use Rattle.bus_world.specs.World.{World, controller_parts}

-- ---- the ring's queue heads are told

-- the number of the newest
newest_is : (n e : ℕ) → suc e ≡ n → n - 1 ≡ e
newest_is n e is = omega (arith, is)

module _ (s : Standing) (w : World) (k : IsMixedAt s w) where
  abbrev d : DriverContent
  d = w.driver

  owners : HasOwners w.driver
  owners = k.now.framed.place.sound.owners

  -- the walk of the ring, over the structures of queues alone
  pub ring_of : IsRing opening_base s.member s.parts s.hand (walk_place (controller_parts w))
  ring_of = ring_is_of_queues w.driver s.descs s.parts opening_base s.member s.hand (walk_place (controller_parts w)) (describes s w k)
      k.now.framed.runs.ring

  module _ (n : ℕ) (on : s.member n ≡ true) where
    there : IsMember s.member n (s.parts n)
    there = ring_of.members n on

    -- what is being linked in frames isn't met
    in_frames : (q : ℕ) → queued_command w.driver.endpoints (Some unfinished.Chain) ≡ Some (unfinished.Open q) → n ≡ 32 * q
        → IsChainToLend w.driver w.memory ⊎ IsChainThere w.driver s.member s.recent s.parts → w.driver.command ≡ Some unfinished.Chain → ⊥
    in_frames q same at stand is =
        ⊎_elim
        (λ (r : IsChainToLend w.driver w.memory).
        let last : slice_get w.driver.endpoints (length w.driver.endpoints - 1) ≡ Some r.ready.endpoint =
        ap (slice_get w.driver.endpoints) (newest_is (length w.driver.endpoints) r.ready.number r.newest) ∙ r.ready.here in
        let one : r.ready.endpoint.queue ≡ q = ap queue_of (sym last)
        ∙ same_queue (queue_of (slice_get w.driver.endpoints (length w.driver.endpoints - 1))) q same in
        let runs : EndpointRuns = runs_of_endpoint r.ready.endpoint in
        let none : s.parts (32 * r.ready.endpoint.queue) (32 * r.ready.endpoint.queue) ≡ None =
        none_there (views_of w.driver) (views_of (lent_content w.driver w.memory)) owners.owner r.ready.number runs s.parts
        (32 * r.ready.endpoint.queue)
        (two_lent w.driver w.memory r.ready.number runs (chained_queue r.ready.endpoint r.ready.place r.ready.link) r.ready.opened owners)
        k.now.framed.driven in
        none_some (QueueHead there.queue) (sym none ∙ ap (λ (i : ℕ). s.parts i i) (ap (λ (b : ℕ). 32 * b) one ∙ sym at) ∙ there.here))
        (λ (t : IsChainThere w.driver s.member s.recent s.parts).
        let one : t.there.endpoint.queue ≡ q = same_queue t.there.endpoint.queue q
        (sym t.there.command ∙ ap (queued_command w.driver.endpoints) is ∙ same) in
        false≢true (sym t.unmet ∙ ap (λ (b : ℕ). s.member (32 * b)) one ∙ ap s.member (sym at) ∙ on))
        stand

    not_opened : (c : Option Command) → w.driver.command ≡ c → (q : ℕ) → (w.driver.command ≡ Some (unfinished.Open q) → ⊥)
        → queued_command w.driver.endpoints c ≡ Some (unfinished.Open q) → n ≡ 32 * q → ⊥
    not_opened (Some (unfinished.Open b)) is q none same at = none (is ∙ same)
    not_opened (Some unfinished.Chain) is q none same at =
        in_frames q same at (subst (IsUnderWay w.driver w.memory s.member s.recent s.parts) is k.under_way) is
    not_opened None is q none same at = cc
    not_opened (Some (unfinished.Publish b words)) is q none same at = cc
    not_opened (Some (unfinished.Unlink e b link)) is q none same at = cc
    not_opened (Some (unfinished.Iso e t count)) is q none same at = cc
    not_opened (Some (unfinished.Unchain e)) is q none same at = cc

    pub ring_near : s.near n ≡ true
    ring_near =
        ⊎_elim {C = s.near n ≡ true} (λ (head : n ≡ 32 * head_block). ap s.near head ∙ k.queues.queues.met.head)
        (λ (h : HasHead w.driver n).
        let own : is_periodic h.endpoint.desc.kind ≡ false = (near_ring w.driver h.number h.endpoint owners h.here h.met.near).0 in
        let as_told : queued_endpoint h.endpoint ≡ with_queue h.endpoint = of_queue h.endpoint (ring_queue h.endpoint.desc.kind own) in
        let is_met : IsMet (queued w.driver) h.number (with_queue h.endpoint) = record {
          there = record {
            linked = λ opens. not_opened w.driver.command refl h.endpoint.queue h.met.there.linked opens h.at;
            kept = h.met.there.kept;
          };
          near = ap (λ (b : Bool). b || (is_one_of h.number w.driver.waiting || is_one_of h.number w.driver.rung))
              (linked_still h.endpoint own) ∙ h.met.near;
        } in
        ap s.near h.at
        ∙ k.queues.queues.met.each h.number (with_queue h.endpoint)
        (get_queued w.driver.endpoints h.number h.endpoint h.here ∙ ap Some as_told) is_met) (k.ring.only n on)

  pub wider : IsWider s.member s.near
  wider n on = ring_near n on

  -- ---- what the walk of the ring has in hand

  copied_wider : (c : Copy) → IsCopied s.member s.parts c → IsCopied s.near s.parts c
  copied_wider c k = record { on = wider c.at k.on; here = k.here; link = wider_link s.member s.near c.link wider k.link; range = k.range }

  hand_wider : (reply : Reply) (hand : Hand) → IsInHand s.member s.parts reply hand → IsInHand s.near s.parts reply hand
  hand_wider reply Empty i = tt
  hand_wider reply (Copied c) i = copied_wider c i
  hand_wider reply (Settled c z) i = (copied_wider c i.0, i.1)
  hand_wider reply (Stale n q) i = record { on = wider n i.on; link = wider_link s.member s.near q.link wider i.link; halted = i.halted }

  -- ---- control endpoints are in the ring

  pub control_member : (e : ℕ) (y : Endpoint) → slice_get w.driver.endpoints e ≡ Some y → is_control y.desc.kind ≡ true
      → IsMet (queued w.driver) e (queued_endpoint y) → s.member (32 * y.queue) ≡ true
  control_member e y here on met =
      let ring : is_periodic y.desc.kind ≡ false = off y.desc.kind on in
      let told : queued_endpoint y ≡ with_queue y = of_queue y (ring_queue y.desc.kind ring) in
      let is : IsMet (queued w.driver) e (with_queue y) = subst (IsMet (queued w.driver) e) told met in
      k.ring.each e y here
      (record {
        there = record { linked = λ opens. is.there.linked (ap (queued_command w.driver.endpoints) opens); kept = is.there.kept };
        near = ap (λ (b : Bool). b || (is_one_of e w.driver.waiting || is_one_of e w.driver.rung)) (sym (linked_still y ring)) ∙ is.near;
      })
    where
      off : (kind : EpKind) → is_control kind ≡ true → is_periodic kind ≡ false
      off kinds.Control on = refl
      off _ on = absurd (false≢true on)

-- ---- the whole

module _ (g : Sides) (fixed : Fixed) (x : Pipes) (s : Standing) (m : Lines) (h : Heads) (w : World) (k : IsPiped fixed x s m h w)
    (head : h.ends (32 * head_block) ≡ endpoint_of opening_head) (suited : AreSuited g w.driver) where
  pub real_control : (e : ℕ) (y : Endpoint) → slice_get w.driver.endpoints e ≡ Some y → is_control (queued_endpoint y).desc.kind ≡ true
      → is_control y.desc.kind ≡ true
  real_control e y here on =
      sym (same_control y.desc.name.way y.desc.kind (k.mixed.turns.kinds_fit e y here)) ∙ sym (by (is_iso y.desc.kind) refl) ∙ on
    where
      by : (b : Bool) → is_iso y.desc.kind ≡ b → is_control (queued_endpoint y).desc.kind ≡ is_control (with_queue y).desc.kind
      by false is = ap (λ (z : Endpoint). is_control z.desc.kind) (of_queue y is)
      by true is = ap (λ (b : Bool). is_control (if b then without_queue y else with_queue y).desc.kind) is

  members : (e : ℕ) (y : Endpoint) → slice_get (queued w.driver).endpoints e ≡ Some y → is_control y.desc.kind ≡ true
      → IsMet (queued w.driver) e y
      → IsMember s.near (32 * y.queue) (s.parts (32 * y.queue))
  members e y here on met =
      let v : WasQueued w.driver.endpoints e y = was_queued w.driver.endpoints e y here in
      let z : Endpoint = v.endpoint in
      let control : is_control z.desc.kind ≡ true =
      real_control e z v.here (ap (λ (t : Endpoint). is_control t.desc.kind) (sym v.is) ∙ on) in
      let member : s.member (32 * z.queue) ≡ true =
      control_member s w k.mixed e z v.here control (subst (IsMet (queued w.driver) e) v.is met) in
      subst (λ (q : ℕ). IsMember s.near (32 * q) (s.parts (32 * q))) (sym (queue_same z) ∙ ap (λ (t : Endpoint). t.queue) (sym v.is))
      (wider_member s.member s.near (32 * z.queue) (s.parts (32 * z.queue)) (wider s w k.mixed)
      ((ring_of s w k.mixed).members (32 * z.queue) member))

  -- ---- names

  apart : (e f : ℕ) (z y : Endpoint) → slice_get (queued w.driver).endpoints e ≡ Some z → is_control z.desc.kind ≡ true
      → slice_get (queued w.driver).endpoints f ≡ Some y → y.desc.name.addr ≡ z.desc.name.addr → y.desc.name.num ≡ z.desc.name.num → e ≡ f
  apart e f z y here on there address number =
      let u : WasQueued w.driver.endpoints e z = was_queued w.driver.endpoints e z here in
      let v : WasQueued w.driver.endpoints f y = was_queued w.driver.endpoints f y there in
      let one : z.desc.name ≡ u.endpoint.desc.name = ap (λ (t : Endpoint). t.desc.name) u.is ∙ name_same u.endpoint in
      let two : y.desc.name ≡ v.endpoint.desc.name = ap (λ (t : Endpoint). t.desc.name) v.is ∙ name_same v.endpoint in
      let its = control_zero u.endpoint.desc.kind u.endpoint.desc.name
      (real_control e u.endpoint u.here (ap (λ (t : Endpoint). is_control t.desc.kind) (sym u.is) ∙ on))
      (suited e u.endpoint u.here).name in
      let same_number : v.endpoint.desc.name.num ≡ u.endpoint.desc.name.num =
      ap (λ (n : EpName). n.num) (sym two) ∙ number ∙ ap (λ (n : EpName). n.num) one in
      let same_address : v.endpoint.desc.name.addr ≡ u.endpoint.desc.name.addr =
      ap (λ (n : EpName). n.addr) (sym two) ∙ address ∙ ap (λ (n : EpName). n.addr) one in
      let way : v.endpoint.desc.name.way ≡ ways.Ctl =
      zero_by v.endpoint.desc.kind v.endpoint.desc.name (suited f v.endpoint v.here).name (same_number ∙ its.0) in
      told_apart w.driver (in_hand s) s.parts m.reported k.telling.told e f u.endpoint v.endpoint u.here v.here
      (name_is u.endpoint.desc.name v.endpoint.desc.name (sym same_address) (sym same_number) (its.1 ∙ sym way))

  pub named_by : (n : ℕ) → s.near n ≡ true → HasEndpoint s.parts n (h.ends n)
  named_by n met = by (h.ins n) refl
    where
      by : (b : Bool) → h.ins n ≡ b → HasEndpoint s.parts n (h.ends n)
      by true on = (k.pipes.in_pipes.pipes n on).named
      by false off = (k.pipes.in_pipes.others n met off).0

  named : (n : ℕ) (own : Characteristics) → s.near n ≡ true → HasEndpoint s.parts n own → (own.addr ≡ 0) ⊎ IsHeadNamed (queued w.driver) own
  named n own met has =
      let own_is : own ≡ h.ends n = one_endpoint s.parts n own (h.ends n) has (named_by n met) in
      ⊎_elim {C = (own.addr ≡ 0) ⊎ IsHeadNamed (queued w.driver) own}
      (λ (at : n ≡ 32 * head_block). inl (ap (λ (c : Characteristics). c.addr) (own_is ∙ ap h.ends at ∙ head)))
      (λ (v : IsMetHead w.driver n).
      let is : own ≡ asked_as v.endpoint.desc = own_is ∙ ap h.ends v.at ∙ k.named v.number v.endpoint v.here v.met in
      let name : (queued_endpoint v.endpoint).desc.name ≡ v.endpoint.desc.name = name_same v.endpoint in
      inr (record {
        number = v.number;
        endpoint = queued_endpoint v.endpoint;
        here = get_queued w.driver.endpoints v.number v.endpoint v.here;
        met = v.met;
        address = ap (λ (c : Characteristics). c.addr) is ∙ ap (λ (n : EpName). n.addr) (sym name);
        ep = ap (λ (c : Characteristics). c.ep) is ∙ ap (λ (n : EpName). n.num) (sym name);
      })) (met_head w.driver s.near k.mixed.queues.queues.met n met)

  pub high_footing : IsFooting s.near (told_streams s) (told_standing s m) (told_world w)
  high_footing = record {
    owners = owners_of s w k.mixed;
    stands = k.mixed.now.framed.place.sound.stands;
    turns = k.mixed.turns.turns;
    queues = k.mixed.queues.queues;
    controls = k.mixed.queues.controls;
    driven = driven_of s w k.mixed;
    in_runs = runs_of s w k.mixed;
    fronts = fronts_of s w k.mixed;
    sound = k.mixed.queues.sound;
    tells = tells_of s w k.mixed;
    members = members;
    in_hand = hand_wider s w k.mixed w.control.walk.reply s.hand (ring_of s w k.mixed).in_hand;
    within = k.telling.told.holds.within;
    to_come = k.telling.told.holds.to_come;
    apart = apart;
    named = named;
  }
