-- The start-split of the queue head in hand of an interrupt endpoint below a hub is one that the plan of its translator calls for, and its
-- endpoint isn't given back in the frame (EHCI 1.0, 3.6.2, 4.6 and 4.12.2; USB 2.0, 11.14 and 11.18).
use Rattle.std.proofs.Common.{◌≡◌, ℕ, ◌+◌, ◌-◌, ◌*◌, ◌%◌, ◌<◌, ◌≤◌, Bool, true, false, List, length, slice_get, slice_index, Option, Some, None, refl, sym, ap, subst, ◌∙◌, arith, if◌then◌else◌}
use Rattle.std.specs.Prelude.{◌==◌, ◌&&◌, ◌||◌, not, unwrap_or, nat_lt, nat_le, nat_eq, position}
use Rattle.std.proofs.lemmas.Bool.{true≢false, lt-ltb, eq-eqb, and_from}
use Rattle.std.proofs.lemmas.Option.{same_Some}
use Rattle.law_common.proofs.Lists.{nth_all}
use Rattle.usb_base.specs.declared.endpoints.EpDesc.{EpDesc}
use Rattle.usb_base.specs.declared.packets.Ask.{Ask}
use Rattle.usb_base.specs.declared.packets.DataPart.{DataPart}
use Rattle.usb_base.specs.declared.packets.Dir.{Dir}
use Rattle.usb_base.specs.declared.packets.EpKind.{EpKind}
use Rattle.usb_base.specs.declared.packets.Speed.{Speed}
use Rattle.script_types.specs.declared.scripts.Script.{Script}
use Rattle.word_mem.specs.Memory.{word_at}
use Rattle.link_words.specs.Layout.{bits}
use Rattle.link_words.specs.declared.kinds.QtdLink.{QtdLink}
use Rattle.qh_qtd.specs.declared.queue_head.Qh.{Qh}
use Rattle.qh_qtd.specs.QueueHead.{qh_words}
use Rattle.mem_queues.specs.Structures.{queue_head_at_address}
use Rattle.hub_keys.specs.Keys.{key_of, direction_of}
use Rattle.hub_keys.specs.declared.key.Key.{Key}
use Rattle.tt_pipeline.specs.declared.entry.Entry.{Entry}
use Rattle.tt_pipeline.specs.declared.rows.StartRow.TheVariants.{Enters, Forgotten}
use Rattle.tt_pipeline.specs.Starting.{is_there, first_row}
use Rattle.multi_tt.specs.Translators.{place_of}
use Rattle.hub_class.specs.HubContent.{HubContent}
use Rattle.transactions.specs.declared.pipe.Pipe.{Pipe}
use Rattle.hc_copy.specs.Visits.{visit_at, visit_of}
use Rattle.hc_copy.specs.Planning.{pid_at, speed_at, queue_pipe, split_at}
use Rattle.hc_copy.specs.Transacting.{call_in}
use Rattle.hc_masks.specs.Masks.{has as has_bit}
use Rattle.hc_interrupt.specs.Turns.{microframe_of, is_missed, complete_turn, start_turn, turn_of, waits, planned}
use Rattle.bandwidth.specs.declared.placements.Placed.{Placed}
use Rattle.bandwidth.specs.declared.placements.Placement.{Placement}
use Rattle.bandwidth.specs.Placements.{has, first_in, is_classic}
use Rattle.bandwidth.specs.Sums.{is_hub, is_active}
use Rattle.periodic_walk.specs.declared.state.HeldQueue.{HeldQueue}
use Rattle.hc_core.specs.declared.controller.MicroframePart.TheVariants.{Periodic}
use Rattle.drv_table.specs.declared.content.Endpoint.{Endpoint}
use Rattle.drv_table.specs.Kinds.{is_iso}
use Rattle.drv_table.specs.Words.{is_high, speed_field, interrupt_head}
use Rattle.bus_wire.specs.Bus.{fixed_of, opening_bus}
use Rattle.bus_world.specs.World.{World}
use Rattle.claims_world.specs.Visits.{frame_in}
use Rattle.law_structures.proofs.lemmas.lent_structures.Reading.{head_read}
use Rattle.law_ring.specs.Hand.{Copy, copied_queue}
use Rattle.law_frames.specs.Frame.{IsCopiedQueue}
use Rattle.law_descriptors.specs.Both.{both}
use Rattle.law_descriptors.specs.Meeting.{met}
use Rattle.law_world.specs.memory.Mixed.{Standing, IsMixedAt}
use Rattle.law_world.specs.memory.framed_memory.Masks.{HasMasks}
use Rattle.law_world.proofs.lemmas.memory.lemmas.framed_memory.ChainedRuns.{chained_head_is_in_range}
use Rattle.law_translator.specs.Premises.{IsFirst, FollowsRow}
use Rattle.law_translator.specs.hub_plans.HubPlans.{AreKeysApart}
use Rattle.law_translator.specs.hub_plans.Laws.{IsPlacedRight}
use Rattle.law_microframes.specs.plans.Laws.{PlacesAreRight}
use Rattle.law_microframes.specs.visits.Belonging.{placed_of, IsQueueAt, HaveFields, HeadsHaveFields}
use Rattle.law_microframes.specs.time.DataQueues.{pid_of, way_of, ReadsData}
use Rattle.law_microframes.specs.due.repeats.Hearing.{number_of, IsHeardOn}
use Rattle.law_microframes.specs.translators.Watching.{StartFollows}
use Rattle.law_microframes.specs.translators.Keeping.{key_for, IsOwned}
use Rattle.law_microframes.proofs.lemmas.visits.BelongQueues.{queue_belongs}
use Rattle.law_microframes.proofs.lemmas.visits.BelongReads.{HasReadFields, read_fields}
use Rattle.law_microframes.proofs.lemmas.due.lemmas.repeats.AskedHeads.{HasPlace, places_read, written, few_more, low_field, no_control, no_masks}
use Rattle.law_microframes.proofs.lemmas.due.lemmas.repeats.Endpoints.{Stands, AllStand}
use Rattle.law_microframes.proofs.lemmas.translators.Interrupts.{StartsNow, its_key, is_first}
use Rattle.law_microframes.proofs.lemmas.translators.Owned.{owned_planned}
use Rattle.law_microframes.proofs.lemmas.translators.Placing.{one_of, IsOneBit, only_first}
use Rattle.law_microframes.proofs.lemmas.translators.QueueOpen.{queue_open}
use Rattle.claims_world.specs.Plans.{Plan}
use Rattle.claims_world.specs.HubPlans.{is_below, placed_below, key_at, is_number, plans_now}
use Rattle.claims_world.specs.Pipelines.{port_at}
use Rattle.usb_base.specs.declared.packets.Dir.TheVariants as dirs
use Rattle.usb_base.specs.declared.packets.EpKind.TheVariants as kinds
use Rattle.usb_base.specs.declared.packets.Speed.TheVariants as speeds
use Rattle.usb_base.specs.declared.packets.Split.TheVariants as splits
use Rattle.hc_interrupt.specs.declared.turns.Turn.TheVariants as turns
use Rattle.periodic_walk.specs.declared.state.Hand.TheVariants as hands

-- ---- small facts

classic_by : (s : Speed) → is_high s ≡ false → is_classic s ≡ true
classic_by speeds.High is = absurd (true≢false is)
classic_by speeds.Full is = refl
classic_by speeds.Low is = refl

speed_back : (s : Speed) → speed_at (speed_field s) ≡ s
speed_back speeds.High = refl
speed_back speeds.Full = refl
speed_back speeds.Low = refl

way_back : (d : Dir) → direction_of (pid_at (pid_of d)) ≡ d
way_back dirs.In = refl
way_back dirs.Out = refl

-- a transaction that starts is split, and not in Do-Complete
pub starts_split : (high state : Bool) (pipe : Pipe) (hub port : ℕ) (part : DataPart)
    → split_at high state pipe ≡ splits.Start hub port part
    → ((high ≡ false) × (state ≡ false)) × ((pipe.hub ≡ hub) × (pipe.port ≡ port))
starts_split true state pipe hub port part is = absurd cc
starts_split false true pipe hub port part is = absurd cc
starts_split false false pipe hub port part is = ((refl, refl), (cc, cc))

visit_may : (may halted active : Bool) (link : QtdLink) → start_turn (visit_at may halted active link) ≡ turns.Work
    → (may ≡ true) × (active ≡ true)
visit_may false halted active link is = absurd cc
visit_may true true active link is = absurd cc
visit_may true false true link is = (refl, refl)
visit_may true false false link is = absurd cc

no_wait : (low state more : Bool) → state ≡ false → (not low && (state && more)) ≡ false
no_wait true state more none = refl
no_wait false true more none = absurd (true≢false none)
no_wait false false more none = refl

pub works_in : (f : ℕ) (q : Qh) → q.token.split_state ≡ false → turn_of f q ≡ turns.Work
    → (has_bit q.smask (microframe_of f) ≡ true) × (q.token.active ≡ true)
works_in f q first is =
    let none : waits q ≡ false = no_wait (q.eps == 2) q.token.split_state (q.token.active && not q.token.halted) first in
    visit_may (has_bit q.smask (microframe_of f)) q.token.halted q.token.active _
    (sym (ap (λ (b : Bool). if b then complete_turn (is_missed f q) (has_bit q.cmask (microframe_of f))
    else start_turn (visit_of (has_bit q.smask (microframe_of f)) q)) none) ∙ is)

-- the translator at a place has the number of its port
pub numbered : (multi : Bool) (port j : ℕ) → place_of multi port ≡ Some j → port_at multi j ≡ number_of multi port
numbered false port j is = refl
numbered true port j is = by (nat_le 1 port) refl is
  where
    by : (b : Bool) → nat_le 1 port ≡ b → (if b then Some (port - 1) else None) ≡ Some j → j + 1 ≡ port
    by true low at = let e : port - 1 ≡ j = same_Some (port - 1) j at in one_more port j e (leb port low)
      where
        leb : (n : ℕ) → nat_le 1 n ≡ true → 1 ≤ n
        leb n h = grind arith

        one_more : (n m : ℕ) → n - 1 ≡ m → 1 ≤ n → m + 1 ≡ n
        one_more n m e h = omega (arith, e, h)
    by false low at = absurd cc

pub first_follows : (k : Key) (es : List Entry) (p : Plan) (now : ℕ) (ask : Ask) (n : ℕ) → IsFirst p now ask n
    → FollowsRow (first_row k es) p now ask n es
first_follows k es p now ask n first = by (is_there k es || nat_lt (length es) 256)
  where
    by : (b : Bool) → FollowsRow (if b then Enters else Forgotten) p now ask n es
    by true = first
    by false = tt

low_bits : (w : ℕ) → bits 22 16 w < 128
low_bits w = omega arith

abbrev Written : Qh → Type 0
Written q = HasPlace (slice_index (qh_words q) 1) (slice_index (qh_words q) 2) q

-- ---- what is in hand

module _ (s : Script) (st : Standing) (w : World) (k : IsMixedAt st w) (fields : HeadsHaveFields w.driver w.memory) (reads : ReadsData w)
    (stand : AllStand s w.driver)
    (hears : (x : EpDesc) → IsHeardOn (fixed_of s) (opening_bus s) x → IsHeardOn (fixed_of s) w.bus x)
    (right : PlacesAreRight w.driver)
    (apart : (hub port f : ℕ) → AreKeysApart (key_at w.driver) (placed_below hub port f w.driver.periodic.plan.placed))
    (periodic : w.control.part ≡ Periodic) (index : w.control.frame.index ≡ w.registers.frame_index) where
  abbrev i : ℕ
  i = w.registers.frame_index

  abbrev pub held_as : Copy → ℕ → HeldQueue
  held_as c made = record { copy = record { at = c.at; queue_head = copied_queue c; settled = None }; made = made }

  -- a copy that starts its split transaction in this microframe
  pub record IsStarting (c : Copy) : Type 0 where
    pub held : ℕ
    pub hand : w.control.frame.hand ≡ Some (hands.Queue (held_as c held))
    pub copied : IsCopiedQueue (met w.driver st.recent) (both st.descs st.parts) c
    pub low : (c.queue.eps == 2) ≡ false
    pub first : c.queue.token.split_state ≡ false
    pub on : c.queue.token.active ≡ true
    pub bit : has_bit c.queue.smask (microframe_of w.control.frame.index) ≡ true

  module _ (c : Copy) (h : IsStarting c) (active : (b : IsQueueAt w.driver c.at)
      → is_active b.belongs.placement (frame_in w.control.frame.index) ≡ true) where
    at : IsQueueAt w.driver c.at
    at = queue_belongs st w c.at k (h.copied).on

    abbrev x : Endpoint
    x = at.belongs.endpoint

    abbrev p : Placement
    p = at.belongs.placement

    abbrev e : ℕ
    e = at.belongs.number

    abbrev y : Placed
    y = placed_of at.belongs

    abbrev first : ℕ
    first = word_at w.memory (32 * at.belongs.endpoint.queue + 4)

    abbrev second : ℕ
    second = word_at w.memory (32 * at.belongs.endpoint.queue + 8)

    f : HaveFields (word_at w.memory (32 * at.belongs.endpoint.queue + 4)) (word_at w.memory (32 * at.belongs.endpoint.queue + 8))
        at.belongs.endpoint.desc at.belongs.placement
    f = fields e x p at.belongs.here (ap is_iso at.kind) at.belongs.kept at.belongs.placed

    read : queue_head_at_address w.memory (32 * at.belongs.endpoint.queue) ≡ Some c.queue
    read =
        ap (queue_head_at_address w.memory) (sym at.name)
        ∙ head_read w.memory (both st.descs st.parts) c.at c.at c.queue k.now.framed.runs.ring.tells (h.copied).here

    pl : HasPlace (word_at w.memory (32 * at.belongs.endpoint.queue + 4)) (word_at w.memory (32 * at.belongs.endpoint.queue + 8)) c.queue
    pl = places_read w.memory (32 * x.queue) c.queue read

    rd : HasReadFields (word_at w.memory (32 * at.belongs.endpoint.queue + 4))
        (word_at w.memory (32 * at.belongs.endpoint.queue + 8)) c.queue
    rd = read_fields w.memory (32 * x.queue) c.queue read

    stands : Stands s at.belongs.endpoint.desc
    stands = stand e x at.belongs.here

    slow : is_high at.belongs.endpoint.desc.speed ≡ false
    slow = low_field x.desc.speed (ap (λ (n : ℕ). n == 2) (sym (pl.eps ∙ f.speed)) ∙ h.low)

    heard : IsHeardOn (fixed_of s) w.bus at.belongs.endpoint.desc
    heard = hears x.desc (stands.heard slow (no_control x.desc (k.turns.kinds_fit e x at.belongs.here) at.kind))

    few : at.belongs.endpoint.desc.multi ≤ 3
    few = few_more x.desc.multi second f.multi

    one : Written (interrupt_head at.belongs.endpoint.desc 0 0 0 0)
    one =
        written (interrupt_head x.desc 0 0 0 0) (chained_head_is_in_range x.desc (no_masks p) 0 0 (k.numbers e x at.belongs.here) stands.max
        stands.port few (record { smask = omega arith; cmask = omega arith }))

    masks : HasMasks at.belongs.placement
    masks = nth_all (λ v. HasMasks v.placement) w.driver.periodic.plan.placed at.belongs.planned.place _ k.masks at.belongs.planned.there

    two : Written (interrupt_head at.belongs.endpoint.desc at.belongs.placement.smask at.belongs.placement.cmask 0 0)
    two =
        written (interrupt_head x.desc p.smask p.cmask 0 0) (chained_head_is_in_range x.desc p 0 0 (k.numbers e x at.belongs.here)
        stands.max
        stands.port few masks)

    its_hub : c.queue.hub ≡ heard.hub
    its_hub =
        pl.hub ∙ ap (bits 22 16) f.capabilities ∙ sym two.hub ∙ ap (λ (b : Bool). if b then 0 else unwrap_or x.desc.hub 0) slow
        ∙ ap (λ (o : Option ℕ). unwrap_or o 0) heard.behind

    its_port : c.queue.port ≡ at.belongs.endpoint.desc.port
    its_port = pl.port ∙ ap (bits 29 23) f.capabilities ∙ sym two.port ∙ ap (λ (b : Bool). if b then 0 else x.desc.port) slow

    starts : StartsNow (placed_of at.belongs) (key_for at.belongs.endpoint.desc) (copied_queue c)
    starts = record {
      classic = classic_by x.desc.speed slow;
      kind = at.kind;
      speed = ap speed_at (pl.eps ∙ f.speed) ∙ speed_back x.desc.speed;
      low = h.low;
      max = rd.longest ∙ f.longest;
      first = h.first;
      addr = pl.addr ∙ ap (bits 6 0) f.characteristics ∙ sym one.addr;
      ep = pl.ep ∙ ap (bits 11 8) f.characteristics ∙ sym one.ep;
      dir =
          ap (λ (n : ℕ). direction_of (pid_at n)) (reads.copies (held_as c h.held) (way_of x)
          (record { at = at; way = refl }) periodic h.hand h.on)
          ∙ way_back (way_of x);
      of_kind = at.kind;
    }

    placed_right : IsPlacedRight (placed_of at.belongs)
    placed_right = one_of IsPlacedRight w.driver.periodic.plan.placed at.belongs.planned.place y right at.belongs.planned.there

    its_bit : has at.belongs.placement.smask (w.registers.frame_index % 8) ≡ true
    its_bit =
        ap (λ (n : ℕ). has n (i % 8)) (sym (rd.smask ∙ f.smask)) ∙ ap (λ (n : ℕ). has c.queue.smask (n % 8)) (sym index) ∙ h.bit

    on_time : w.registers.frame_index % 8 ≡ first_in at.belongs.placement.smask
    on_time =
        only_first y.want starts.classic (subst (λ (z : EpKind). IsOneBit z y.want.dir) (sym at.kind) tt) placed_right.place p
        placed_right.at (i % 8) (omega arith) its_bit

    -- the translator that its start names
    module _ (hub port j a : ℕ) (content : HubContent) (found : position (λ v. v.address == hub) w.bus.hubs ≡ Some a)
        (here : slice_get w.bus.hubs a ≡ Some content) (address : content.address ≡ hub)
        (place : place_of content.translators.multi port ≡ Some j)
        (names_hub : c.queue.hub ≡ hub) (names_port : c.queue.port ≡ port) where
      same_hub : heard.hub ≡ hub
      same_hub = sym its_hub ∙ names_hub

      same_place : heard.translator.place ≡ a
      same_place =
          same_Some heard.translator.place a
          (sym heard.translator.found ∙ ap (λ (n : ℕ). position (λ (v : HubContent). v.address == n) w.bus.hubs) same_hub ∙ found)

      same_content : heard.translator.content ≡ content
      same_content =
          same_Some heard.translator.content content (sym heard.translator.here ∙ ap (slice_get w.bus.hubs) same_place ∙ here)

      its_number : at.belongs.endpoint.desc.tt ≡ port_at content.translators.multi j
      its_number =
          heard.served ∙ ap (λ (v : HubContent). number_of v.translators.multi x.desc.port) same_content
          ∙ ap (number_of content.translators.multi) (sym its_port ∙ names_port) ∙ sym (numbered content.translators.multi port j place)

      in_range : is_number content.address (port_at content.translators.multi j) ≡ true
      in_range =
          let low = low_bits second in
          let small = placed_right.want.tt in
          and_from (nat_lt content.address 128) (nat_lt (port_at content.translators.multi j) 16)
          (lt-ltb content.address 128 (omega (arith, address, names_hub, pl.hub, low)))
          (lt-ltb (port_at content.translators.multi j) 16 (omega (arith, its_number, small)))

      is_its_hub : is_hub at.belongs.endpoint.desc.hub content.address ≡ true
      is_its_hub =
          ap (λ (o : Option ℕ). is_hub o content.address) heard.behind ∙ eq-eqb heard.hub content.address (same_hub ∙ sym address)

      is_its_own : is_below content.address (port_at content.translators.multi j) (frame_in w.registers.frame_index)
          (placed_of at.belongs) ≡ true
      is_its_own =
          and_from _ (is_active p (frame_in i))
          (and_from (is_hub x.desc.hub content.address) (nat_eq x.desc.tt (port_at content.translators.multi j)) is_its_hub
          (eq-eqb x.desc.tt (port_at content.translators.multi j) its_number))
          (ap (λ (n : ℕ). is_active p (frame_in n)) (sym index) ∙ active at)

      owned : IsOwned w.driver w.registers.frame_index content.address (port_at content.translators.multi j)
          (key_for at.belongs.endpoint.desc)
      owned = record {
        number = e;
        endpoint = x;
        desc = x.desc;
        placement = p;
        here = at.belongs.here;
        described = refl;
        planned = at.belongs.planned;
        below = is_its_own;
        numbers = in_range;
        is = refl;
        still_open = queue_open st w c.at k at _ (h.copied).on;
      }

    pub copy_follows : (out : List ℕ) (last : Bool) → length out ≤ c.queue.max
        → StartFollows (IsOwned w.driver w.registers.frame_index) (plans_now w.driver w.registers.frame_index)
        (w.registers.frame_index % 8) w.bus.hubs (call_in (planned (copied_queue c)) out last).ask
        (length (call_in (planned (copied_queue c)) out last).out)
    unfolding at owned
    copy_follows out last short hub port part a j content t split piped found here address place there =
        let names = (starts_split (c.queue.eps == 2) c.queue.token.split_state (queue_pipe kinds.Interrupt (copied_queue c)) hub port part
        split).1 in
        let o = owned hub port j a content found here address place names.0 names.1 in
        let key = its_key y (key_for x.desc) (copied_queue c) starts out last in
        let plan = owned_planned w.driver apart i content.address (port_at content.translators.multi j) (key_for x.desc) o in
        let ask : Ask = (call_in (planned (copied_queue c)) out last).ask in (
          first_follows (key_of ask) t.pipeline (plans_now w.driver i content.address (port_at content.translators.multi j)) (i % 8) ask _
              (is_first y (key_for x.desc) (copied_queue c) starts _ (i % 8) out last plan (omega arith) on_time short),
          subst (IsOwned w.driver i content.address (port_at content.translators.multi j)) (sym key) o,
        )
