-- Where the walk of the frames comes to the last complete-split of a frame, of an interrupt IN endpoint below a hub, the result of what the
-- hub's translator has of it is there (EHCI 1.0, 4.12.2.1; USB 2.0, 11.18.4).
use Rattle.std.proofs.Common.{◌≡◌, ◌≢◌, ℕ, suc, ◌*◌, ◌+◌, ◌/◌, ◌%◌, ◌^◌, ◌≤◌, ◌<◌, ◌==◌, true, false, List, slice_get, Some, None}
use Rattle.std.proofs.Common.{ap, refl, sym, subst, ◌∙◌, arith}
use Rattle.std.specs.Prelude.{◌&&◌}
use Rattle.std.specs.List.{find}
use Rattle.std.proofs.lemmas.Bool.{and_parts, eqb-true, false≢true}
use Rattle.std.proofs.lemmas.Option.{same_Some}
use Rattle.std.proofs.Math.Nat.{div-eq_of_lt, lt-mul-div-succ, one-le-pow, pow-le-pow_right, zero-lt-suc}
use Rattle.usb_base.specs.declared.endpoints.EpDesc.{EpDesc}
use Rattle.usb_base.specs.declared.endpoints.EpName.{EpName}
use Rattle.usb_base.specs.declared.packets.Dir.{Dir}
use Rattle.usb_base.specs.declared.packets.Dir.TheVariants as Directions
use Rattle.usb_base.specs.declared.packets.EpKind.{EpKind}
use Rattle.usb_base.specs.declared.packets.EpKind.TheVariants as kinds
use Rattle.usb_base.specs.declared.packets.Way.{Way}
use Rattle.usb_base.specs.declared.packets.Way.TheVariants as ways
use Rattle.script_types.specs.declared.scripts.Script.{Script}
use Rattle.script_text.specs.Faults.{Spells}
use Rattle.script_fits.proofs.Texts.{spelled_fits}
use Rattle.word_mem.specs.Memory.{word_at}
use Rattle.hub_keys.specs.Keys.{direction_of, is_same_key, is_same_direction, is_same_kind}
use Rattle.hub_keys.specs.declared.key.Key.{Key}
use Rattle.multi_tt.specs.Translators.{Translator}
use Rattle.hub_class.specs.HubContent.{HubContent}
use Rattle.qh_qtd.specs.declared.queue_head.Qh.{Qh}
use Rattle.mem_queues.specs.Structures.{queue_head_at_address}
use Rattle.bandwidth.specs.declared.placements.Placement.{Placement}
use Rattle.bandwidth.specs.Placements.{has}
use Rattle.hc_masks.specs.Masks.{is_last}
use Rattle.hc_interrupt.specs.Turns.{is_last_of}
use Rattle.hc_copy.specs.Planning.{pid_at}
use Rattle.hc_core.specs.Controller.{frame_place}
use Rattle.periodic_walk.specs.declared.state.Hand.TheVariants as hands
use Rattle.periodic_walk.specs.declared.state.HeldQueue.{HeldQueue}
use Rattle.drv_periodic_table.specs.Periodic.{dir_of}
use Rattle.drv_table.specs.declared.content.Endpoint.{Endpoint}
use Rattle.drv_table.specs.Kinds.{is_iso}
use Rattle.drv_table.specs.Words.{is_high}
use Rattle.bus_wire.specs.Bus.{fixed_of}
use Rattle.bus_world.specs.Budgets.{moment}
use Rattle.bus_world.specs.World.{World, controller_parts}
use Rattle.claims_world.specs.Pipelines.{port_at}
use Rattle.claims_world.specs.Results.{IsLastIn}
use Rattle.law_devices.proofs.Lists.{Holds, all_find, found_passes}
use Rattle.law_driver.specs.queued_drivers.Queued.{IsOfWay}
use Rattle.law_driver.proofs.lemmas.planned_endpoints.Laws.{what_counts_is_an_endpoint}
use Rattle.law_frames.specs.Frame.{IsCopiedQueue, IsInFrame, IsFrameWalk}
use Rattle.law_frames.specs.FrameHand.{FrameHand, OfQueue, OfSettled, frame_held}
use Rattle.law_ring.specs.Hand.{Copy, copied_queue}
use Rattle.law_structures.proofs.lemmas.lent_structures.Reading.{head_read}
use Rattle.law_descriptors.specs.Both.{both}
use Rattle.law_descriptors.specs.Meeting.{met}
use Rattle.law_scripts.proofs.lemmas.script_bytes.Texts.{a_text_spells_bytes}
use Rattle.law_below_hubs.specs.HostEvents.{told_key}
use Rattle.law_below_hubs.specs.HostIns.{IsResult}
use Rattle.law_world.specs.memory.Mixed.{Standing, IsMixedAt}
use Rattle.law_world.proofs.lemmas.memory.FittingTexts.{texts_open_fitting}
use Rattle.law_world.proofs.lemmas.memory.Texts.{texts_fit}
use Rattle.law_microframes.specs.time.DataQueues.{pid_of, way_of}
use Rattle.law_microframes.specs.translators.Fresh.{key_started}
use Rattle.law_microframes.specs.translators.Keeping.{key_for}
use Rattle.law_microframes.specs.translators.Results.{Entry, has_key}
use Rattle.law_microframes.specs.translators.Told.{IsToldByLast}
use Rattle.law_microframes.specs.visits.Belonging.{HaveFields, IsQueueAt}
use Rattle.law_microframes.proofs.lemmas.due.lemmas.repeats.AskedHeads.{HasPlace, places_read, low_field}
use Rattle.law_microframes.proofs.lemmas.due.lemmas.repeats.Endpoints.{texts_stand}
use Rattle.law_microframes.proofs.lemmas.time.DataHeads.{scripts_read_data}
use Rattle.law_microframes.proofs.lemmas.translators.FrameIndex.{scripts_have_index}
use Rattle.law_microframes.proofs.lemmas.translators.ToldByLast.{texts_tell_by_last}
use Rattle.law_microframes.proofs.lemmas.visits.BelongMoments.{scripts_keep_fields}
use Rattle.law_microframes.proofs.lemmas.visits.BelongQueues.{queue_belongs}
use Rattle.law_microframes.proofs.lemmas.visits.BelongReads.{HasReadFields, read_fields}
use Rattle.law_microframes.proofs.lemmas.visits.VisitTexts.{lines_fit}
use Rattle.law_reports.specs.lines.Lined.{in_hand}
use Rattle.law_reports.specs.pipes.Declared.{sides_of}
use Rattle.law_reports.specs.pipes.Piped.{asked_as, HasFollowed}
use Rattle.law_reports.specs.pipes.below_hubs.InwardLaws.{IsCompletingLast, TextsHaveResults}
use Rattle.law_reports.proofs.lemmas.due_at_begin.SplitHeads.{IsHeadOf, its_fields}
use Rattle.law_reports.proofs.lemmas.lines.IsoGoing.{told_apart}
use Rattle.law_reports.proofs.lemmas.pipes.FollowedMoments.{texts_are_followed}
use Rattle.law_reports.proofs.lemmas.pipes.Names.{name_is}

-- ---- the last microframe of a mask

double : (u : ℕ) → 2 ^ suc u ≡ 2 ^ u * 2
double u = omega arith

after_last : (mask u v : ℕ) → mask / 2 ^ u ≡ 1 → u < v → has mask v ≡ false
after_last mask u v one above =
    let some : 0 < 2 ^ u = one-le-pow u 2 (zero-lt-suc 1) in
    let under : mask < 2 ^ u * (mask / 2 ^ u + 1) = lt-mul-div-succ mask some in
    let twice : mask < 2 ^ u * 2 = subst (λ (n : ℕ). mask < 2 ^ u * (n + 1)) one under in
    let more : 2 ^ suc u ≤ 2 ^ v = pow-le-pow_right (zero-lt-suc 1) above in
    let is : 2 ^ suc u ≡ 2 ^ u * 2 = double u in
    ap (λ (n : ℕ). n % 2 == 1) (div-eq_of_lt {n = mask} {m = 2 ^ v} (omega (arith, twice, more, is)))

last_in : (mask u : ℕ) → u < 8 → is_last mask u ≡ true → IsLastIn mask u
last_in mask u low last =
    let one : mask / 2 ^ u ≡ 1 = eqb-true (mask / 2 ^ u) 1 last in
    record { low = low; here = ap (λ (n : ℕ). n % 2 == 1) one; none = λ v above under. after_last mask u v one above }

-- ---- keys

interrupt_kind : (a : EpKind) → is_same_kind a kinds.Interrupt ≡ true → a ≡ kinds.Interrupt
interrupt_kind kinds.Interrupt same = refl
interrupt_kind kinds.Control same = absurd (false≢true same)
interrupt_kind kinds.Iso same = absurd (false≢true same)
interrupt_kind kinds.Bulk same = absurd (false≢true same)

in_way : (a : Way) → a ≢ ways.Ctl → is_same_direction (dir_of a) Directions.In ≡ true → a ≡ ways.In
in_way ways.In one same = refl
in_way ways.Out one same = absurd (false≢true same)
in_way ways.Ctl one same = absurd (one refl)

way_back : (d : Dir) → direction_of (pid_at (pid_of d)) ≡ d
way_back Directions.In = refl
way_back Directions.Out = refl

dir_in : (a : Way) → a ≢ ways.Ctl → dir_of a ≡ Directions.In → a ≡ ways.In
dir_in ways.In one is = refl
dir_in ways.Out one is = absurd (let e : dir_of ways.Out ≡ Directions.In = is in cc)
dir_in ways.Ctl one is = absurd (one refl)

-- ---- at a moment

module _ (text : List ℕ) (s : Script) (spelled : Spells text s) (k : ℕ) (h : HeldQueue)
    (l : IsCompletingLast (moment s k).world h) (x : EpDesc)
    (key : key_started h.copy.queue_head ≡ told_key kinds.Interrupt Directions.In (asked_as x)) where
  abbrev w : World
  w = (moment s k).world

  f : HasFollowed (fixed_of s) (sides_of s) (moment s k).world
  f = texts_are_followed text s spelled k

  abbrev st : Standing
  st = f.standing

  mixed : IsMixedAt f.standing (moment s k).world
  mixed = f.followed.piped.mixed

  walk : IsFrameWalk (met (moment s k).world.driver f.standing.recent) (both f.standing.descs f.standing.parts) f.standing.frame
      (frame_place (controller_parts (moment s k).world))
  walk = mixed.now.framed.runs.walk l.part

  -- what is in hand
  record IsHeld : Type 0 where
    copy : Copy
    made : ℕ
    frame : f.standing.frame ≡ OfQueue copy made
    held : h ≡ record { copy = record { at = copy.at; queue_head = copied_queue copy; settled = None }; made = made }

  same_hand : (one other : HeldQueue) → Some (hands.Queue one) ≡ Some (hands.Queue other) → one ≡ other
  same_hand one other e = cc

  is_held : IsHeld
  is_held = by f.standing.frame refl
    where
      by : (g : FrameHand) → f.standing.frame ≡ g → IsHeld
      by (OfQueue c made) is = record {
        copy = c;
        made = made;
        frame = is;
        held = same_hand h _ (sym l.held ∙ walk.held ∙ ap frame_held is);
      }
      by (OfSettled c z made) is =
          let one = same_hand h _ (sym l.held ∙ walk.held ∙ ap frame_held is) in
          absurd (let e = sym l.unsettled ∙ ap (λ (y : HeldQueue). y.copy.settled) one in cc)
      by g is = absurd (let e = sym l.held ∙ walk.held ∙ ap frame_held is in cc)

  abbrev c : Copy
  c = is_held.copy

  copied : IsCopiedQueue (met (moment s k).world.driver f.standing.recent) (both f.standing.descs f.standing.parts) is_held.copy
  copied =
      subst (IsInFrame (met w.driver st.recent) (both st.descs st.parts) w.control.frame.got w.control.frame.reply) is_held.frame
      walk.in_hand

  its : IsQueueAt (moment s k).world.driver is_held.copy.at
  its = queue_belongs st w c.at mixed copied.on

  abbrev y : Endpoint
  y = its.belongs.endpoint

  abbrev p : Placement
  p = its.belongs.placement

  fields : HaveFields (word_at (moment s k).world.memory (32 * its.belongs.endpoint.queue + 4))
      (word_at (moment s k).world.memory (32 * its.belongs.endpoint.queue + 8)) its.belongs.endpoint.desc its.belongs.placement
  fields =
      scripts_keep_fields s (spelled_fits text s spelled) (a_text_spells_bytes text s spelled)
      (lines_fit s.lines (texts_fit text s spelled) (texts_open_fitting text s spelled)) k its.belongs.number y p its.belongs.here
      (ap is_iso its.kind) its.belongs.kept its.belongs.placed

  read : queue_head_at_address (moment s k).world.memory (32 * its.belongs.endpoint.queue) ≡ Some is_held.copy.queue
  read =
      ap (queue_head_at_address w.memory) (sym its.name)
      ∙ head_read w.memory (both st.descs st.parts) c.at c.at c.queue mixed.now.framed.runs.ring.tells copied.here

  places : HasPlace (word_at (moment s k).world.memory (32 * its.belongs.endpoint.queue + 4))
      (word_at (moment s k).world.memory (32 * its.belongs.endpoint.queue + 8)) is_held.copy.queue
  places = places_read w.memory (32 * y.queue) c.queue read

  words : HasReadFields (word_at (moment s k).world.memory (32 * its.belongs.endpoint.queue + 4))
      (word_at (moment s k).world.memory (32 * its.belongs.endpoint.queue + 8)) is_held.copy.queue
  words = read_fields w.memory (32 * y.queue) c.queue read

  head_is : h.copy.queue_head ≡ copied_queue is_held.copy
  head_is = ap (λ (u : HeldQueue). u.copy.queue_head) is_held.held

  low : (is_held.copy.queue.eps == 2) ≡ false
  low = sym (ap (λ (q : Qh). q.eps == 2) head_is) ∙ l.below

  slow : is_high its.belongs.endpoint.desc.speed ≡ false
  slow = low_field y.desc.speed (ap (λ (n : ℕ). n == 2) (sym (places.eps ∙ fields.speed)) ∙ low)

  head : IsHeadOf its.belongs.endpoint.desc is_held.copy.queue
  head =
      let stands = texts_stand text s spelled k its.belongs.number y its.belongs.here in
      its_fields y.desc p (word_at w.memory (32 * y.queue + 4)) (word_at w.memory (32 * y.queue + 8)) c.queue
      (record { max = stands.max; port = stands.port }) (mixed.numbers its.belongs.number y its.belongs.here) slow fields places words

  -- ---- the entry of its key

  one_way : (n : ℕ) (v : Endpoint) → slice_get (moment s k).world.driver.endpoints n ≡ Some v → v.desc.kind ≡ kinds.Interrupt
      → v.desc.name.way ≢ ways.Ctl
  one_way n v here kind is =
      off (subst (λ (way : Way). IsOfWay way v.desc.kind) is (mixed.turns.kinds_fit n v here))
    where
      off : v.desc.kind ≡ kinds.Control → ⊥
      off other = let never : kinds.Interrupt ≡ kinds.Control = sym kind ∙ other in cc

  active : is_held.copy.queue.token.active ≡ true
  active = sym (ap (λ (q : Qh). q.token.active) head_is) ∙ l.works

  way_is : its.belongs.endpoint.desc.name.way ≡ ways.In
  way_is =
      let pid = (scripts_read_data s (spelled_fits text s spelled) (a_text_spells_bytes text s spelled)
      (lines_fit s.lines (texts_fit text s spelled) (texts_open_fitting text s spelled)) k).heads its.belongs.number y c.queue
      its.belongs.here its.kind its.belongs.kept read active in
      dir_in y.desc.name.way (one_way its.belongs.number y its.belongs.here its.kind)
      (sym (way_back (way_of y)) ∙ sym (ap (λ (n : ℕ). direction_of (pid_at n)) pid)
      ∙ sym (ap (λ (q : Qh). direction_of (pid_at q.token.pid)) head_is) ∙ ap (λ (z : Key). z.dir) key)

  abbrev asked : Key
  asked = key_started h.copy.queue_head

  module _ (i j : ℕ) (hub : HubContent) (t : Translator) (e : Entry) (here : slice_get (moment s k).world.bus.hubs i ≡ Some hub)
      (there : slice_get hub.translators.all j ≡ Some t) (found : find (has_key (key_started h.copy.queue_head)) t.pipeline ≡ Some e) where
    abbrev Tells : Entry → Type 0
    Tells u = IsToldByLast (moment s k).world.driver (moment s k).world.registers.frame_index hub.address
        (port_at hub.translators.multi j) u

    tells : Tells e
    tells =
        subst (Holds Tells) found
        (all_find Tells (has_key asked) t.pipeline (texts_tell_by_last text s spelled k i j hub t here there))

    -- the entry is this endpoint's
    record IsOwn : Type 0 where
      kind : tells.owner.desc.kind ≡ kinds.Interrupt
      number : tells.owner.number ≡ its.belongs.number

    is_own : IsOwn
    is_own =
        let o = tells.owner in
        let same : is_same_key (key_for o.desc) asked ≡ true =
        ap (λ (a : Key). is_same_key a asked) o.is ∙ found_passes (has_key asked) t.pipeline e found in
        let one = and_parts (o.desc.name.addr == asked.addr && o.desc.name.num == asked.ep
        && is_same_direction (dir_of o.desc.name.way) asked.dir) (is_same_kind o.desc.kind asked.kind) same in
        let two = and_parts (o.desc.name.addr == asked.addr && o.desc.name.num == asked.ep)
        (is_same_direction (dir_of o.desc.name.way) asked.dir) one.0 in
        let three = and_parts (o.desc.name.addr == asked.addr) (o.desc.name.num == asked.ep) two.0 in
        let kind : o.desc.kind ≡ kinds.Interrupt = interrupt_kind o.desc.kind one.1 in
        let name : o.endpoint.desc.name ≡ o.desc.name = ap (λ (d : EpDesc). d.name) o.described in
        let way : o.endpoint.desc.name.way ≡ ways.In =
        in_way o.endpoint.desc.name.way (one_way o.number o.endpoint o.here (ap (λ (d : EpDesc). d.kind) o.described ∙ kind))
        (ap (λ (n : EpName). is_same_direction (dir_of n.way) Directions.In) name
        ∙ sym (ap (is_same_direction (dir_of o.desc.name.way)) (ap (λ (z : Key). z.dir) key)) ∙ two.1) in
        record {
          kind = kind;
          number = told_apart w.driver (in_hand st) st.parts f.lines.reported f.followed.piped.telling.told o.number its.belongs.number
              o.endpoint y o.here its.belongs.here
              (name_is o.endpoint.desc.name y.desc.name
              (ap (λ (n : EpName). n.addr) name ∙ eqb-true o.desc.name.addr asked.addr three.0 ∙ ap (λ (q : Qh). q.addr) head_is
              ∙ head.addr)
              (ap (λ (n : EpName). n.num) name ∙ eqb-true o.desc.name.num asked.ep three.1 ∙ ap (λ (q : Qh). q.ep) head_is ∙ head.ep)
              (way ∙ sym way_is));
        }

    placed_same : tells.owner.placement ≡ its.belongs.placement
    placed_same =
        let o = tells.owner in
        let z = what_counts_is_an_endpoint w.driver o.planned.place _ mixed.now.planned o.planned.there in
        let one : z.endpoint ≡ y =
        same_Some z.endpoint y (sym z.here ∙ ap (slice_get w.driver.endpoints) is_own.number ∙ its.belongs.here) in
        same_Some o.placement p (sym z.placement ∙ ap (λ (u : Endpoint). u.placement) one ∙ its.belongs.placed)

    abbrev u : ℕ
    u = (moment s k).world.registers.frame_index % 8

    last : IsLastIn tells.owner.placement.cmask ((moment s k).world.registers.frame_index % 8)
    last =
        let index = scripts_have_index s (spelled_fits text s spelled) k l.part in
        last_in tells.owner.placement.cmask u (omega arith)
        (ap (λ (q : Placement). is_last q.cmask u) placed_same ∙ ap (λ (mask : ℕ). is_last mask u) (sym (words.cmask ∙ fields.cmask))
        ∙ ap (λ (n : ℕ). is_last c.queue.cmask (n % 8)) (sym index)
        ∙ sym (ap (is_last_of w.control.frame.index) head_is) ∙ l.last)

    pub result : IsResult e
    result = record {
      worked = λ nothing. tells.worked u is_own.kind last (omega arith) nothing;
      there = λ asks whole. tells.result u is_own.kind asks whole last (omega arith);
    }

pub texts_have_results : TextsHaveResults
texts_have_results text s x spelled k h l key i place hub t e here there found =
    result text s spelled k h l x key i place hub t e here there found
