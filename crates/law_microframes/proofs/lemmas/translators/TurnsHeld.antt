-- An event of the walk of the frames goes on with what is told of the isochronous OUTs below hubs: the siTD that it reads, and the one whose
-- transaction it makes (EHCI 1.0, 3.4.4, 4.6 and 4.12.3; USB 2.0, 11.18.4).
use Rattle.std.proofs.Common.{◌≡◌, ℕ, ◌*◌, ◌<◌, Bool, true, false, List, [], ◌∷◌, Option, Some, None, refl, sym, ap, subst, ◌∙◌, inl, inr, ◌⊎◌, ⊎_elim, arith}
use Rattle.std.specs.Prelude.{◌==◌}
use Rattle.std.specs.List.{AllByRecursion}
use Rattle.std.proofs.lemmas.Bool.{cases_Bool}
use Rattle.usb_base.specs.declared.packets.Dir.TheVariants as dirs
use Rattle.usb_base.specs.declared.packets.EpKind.TheVariants as kinds
use Rattle.usb_base.specs.declared.packets.Reply.{Reply}
use Rattle.hub_keys.specs.Keys.{key_of, is_same_key}
use Rattle.hub_keys.specs.declared.key.Key.{Key}
use Rattle.word_mem.specs.Memory.{Mem}
use Rattle.link_words.specs.declared.kinds.Link.{Link}
use Rattle.itd_sitd.specs.declared.sitd.Sitd.{Sitd}
use Rattle.hc_interrupt.specs.Turns.{microframe_of}
use Rattle.hc_iso.specs.declared.held.HeldSitd.{HeldSitd}
use Rattle.hc_iso.specs.declared.held.SitdTurn.TheVariants.{Work}
use Rattle.hc_iso.specs.Sitd.{sitd_turn, sitd_transaction, sitd_after, sitd_copy}
use Rattle.drv_periodic_table.specs.Descriptors.{sitd_in}
use Rattle.periodic_walk.specs.declared.chain.ChainRow.{ChainRow}
use Rattle.periodic_walk.specs.declared.chain.ChainRow.TheVariants as chains
use Rattle.periodic_walk.specs.declared.state.Hand.{Hand}
use Rattle.periodic_walk.specs.declared.state.Hand.TheVariants as hands
use Rattle.periodic_walk.specs.Chain.{chain_row}
use Rattle.hc_core.specs.declared.controller.ControllerRow.{ControllerRow}
use Rattle.hc_core.specs.declared.controller.ControllerRow.TheVariants as rows
use Rattle.hc_core.specs.declared.controller.MicroframePart.TheVariants.{Periodic}
use Rattle.hc_core.specs.Controller.{frame_place}
use Rattle.bus_wire.specs.Bus.{Bus, Fixed, transact_after}
use Rattle.bus_world.specs.World.{World, controller_parts, controller_row, controller_next}
use Rattle.claims_world.specs.Visits.{frame_in, HasVisited, fetched_by, visited_too, visits_at, visits_after}
use Rattle.law_structures.specs.lent_structures.Structures.{HoldsSplitIsochronous}
use Rattle.law_translator.proofs.Keys.{same_key}
use Rattle.law_world.specs.memory.Mixed.{Standing, IsMixedAt}
use Rattle.law_microframes.specs.translators.Parts.{EachOf, Lacks, IsEven, key_asked}
use Rattle.law_microframes.specs.translators.Turns.{pipeline_for, EntriesAre, IsUnasked, IsOfKey, BroughtPart, IsReadFor, OutsGoOn, OtherAsksLeave}
use Rattle.law_microframes.specs.visits.Ranks.{name_of}
use Rattle.law_microframes.specs.visits.Visited.{link_ahead}
use Rattle.law_microframes.specs.visits.OneDescriptor.{IsActiveDescriptor}
use Rattle.law_microframes.proofs.lemmas.time.PaymentReading.{sitd_cursor, IsSplitThere, sitd_told}
use Rattle.law_microframes.proofs.lemmas.translators.Parts.{completes_even, other_starts}
use Rattle.law_microframes.proofs.lemmas.translators.SitdCopies.{split_at, out_named}
use Rattle.law_microframes.proofs.lemmas.translators.Turns.{asked_even}
use Rattle.law_microframes.proofs.lemmas.translators.TurnsAsks.{other_asks_leave, later_parts_leave}
use Rattle.law_microframes.proofs.lemmas.translators.TurnsFrame.{FirstsLack, IsSet, IsAsked, periodic, index_same, turn_now, is_on, own_copy, there_after}
use Rattle.law_microframes.proofs.lemmas.translators.TurnsKeys.{other_key, way_by_key, way_after, out_after, first_position, first_part_leaves}
use Rattle.law_microframes.proofs.lemmas.translators.TurnsMemory.{holds_kin, kin_entries}
use Rattle.law_microframes.proofs.lemmas.translators.TurnsWalk.{NoSitd, copy_read, FrameTurn, turn_rests, turn_fetches, turn_another, turn_transacts, world_turn}

-- ---- small facts

same_hand : (h k : HeldSitd) (o : Option Hand) → o ≡ Some (hands.Sitd h) → o ≡ Some (hands.Sitd k) → h ≡ k
same_hand h k o one other = let e : Some (hands.Sitd h) ≡ Some (hands.Sitd k) = sym one ∙ other in cc

no_hand : (h : HeldSitd) (o : Option Hand) → NoSitd o → o ≡ Some (hands.Sitd h) → ⊥
no_hand h o none is = subst NoSitd is none

seen_too : (o : Option ℕ) (n : ℕ) (vs : List ℕ) → HasVisited n vs → HasVisited n (visited_too o vs)
seen_too None n vs seen = seen
seen_too (Some a) n vs seen = inr seen

seen_more : (o : Option Hand) (row : ChainRow) (n : ℕ) (vs : List ℕ) → HasVisited n vs → HasVisited n (visits_at o row vs)
seen_more None row n vs seen = seen_too (fetched_by row) n vs seen
seen_more (Some h) row n vs seen = seen

below_visit : (height : ℕ → ℕ) (n : ℕ) (vs : List ℕ) → AllByRecursion (λ v. height n < height v) vs → HasVisited n vs → ⊥
below_visit height n [] below seen = seen
below_visit height n (v ∷ vs) below (inl same) =
    let e : height n ≡ height v = ap height same in let less = below.0 in omega (arith, e, less)
below_visit height n (v ∷ vs) below (inr later) = below_visit height n vs below.1 later

-- the link of a chain that leads to a siTD
names_sitd : (m : Mem) (link : Link) (a : ℕ) (v : Sitd) → chain_row m link ≡ chains.Sitd a v → name_of link ≡ Some a
names_sitd m link a v is = ap name_of (sitd_cursor m link a v is).0

module _ (fixed : Fixed) (start w : World) (vs : List ℕ) (set : IsSet start w vs) (outs : OutsGoOn start w vs) (firsts : FirstsLack w)
    (row : controller_row w ≡ rows.Frame) where
  abbrev st : Standing
  st = set.once.mixed.standing

  abbrev mixed : IsMixedAt st w
  mixed = set.once.mixed.mixed

  abbrev new : World
  new = controller_next fixed w

  abbrev then_seen : List ℕ
  then_seen = visits_at w.control.frame.hand (chain_row w.memory w.control.frame.cursor) vs

  on_frames : w.control.part ≡ Periodic
  on_frames = periodic fixed start w vs set outs row

  -- ---- a siTD that is read

  module _ (a : ℕ) (v : Sitd) (free : w.control.frame.hand ≡ None) (read : chain_row w.memory w.control.frame.cursor ≡ chains.Sitd a v) where
    not_seen : HasVisited a vs → ⊥
    not_seen seen =
        let visits = set.holds.visiting.visits in
        let next = visits.behind.next a on_frames
        (ap (λ (o : Option Hand). name_of (link_ahead o w.control.frame.cursor)) free
        ∙ names_sitd w.memory w.control.frame.cursor a v read) in
        below_visit visits.height a vs next.below seen

    now_seen : HasVisited a (visits_at w.control.frame.hand (chain_row w.memory w.control.frame.cursor) vs)
    now_seen =
        subst (λ (o : Option Hand). HasVisited a (visits_at o (chain_row w.memory w.control.frame.cursor) vs)) (sym free)
        (subst (λ (r : ChainRow). HasVisited a (visited_too (fetched_by r) vs)) (sym read) (inl refl))

    module _ (on : v.active ≡ true) where
      abbrev There : Type 0
      There = IsSplitThere start set.once.mixed.standing w set.once.mixed.mixed set.holds.heads set.holds.itds set.holds.sitds set.holds.served
          set.holds.periodics set.holds.allowed set.holds.reads set.holds.within a v on_frames free read on

      told : There
      told = sitd_told start st w mixed set.holds.heads set.holds.itds set.holds.sitds set.holds.served set.holds.periodics set.holds.allowed
          set.holds.reads set.holds.within a v on_frames free read on

      read_lacks : v.dir_in ≡ false → EntriesAre Lacks w.bus.hubs v
      read_lacks way =
          let t = told in
          let b = t.at.transfer.first in
          let holds : HoldsSplitIsochronous w.memory (32 * b) v = subst (λ (n : ℕ). HoldsSplitIsochronous w.memory n v) t.at.name t.holds in
          kin_entries Lacks w.bus.hubs (sitd_in w.memory b) v (λ _. sym (holds_kin w.memory b v holds))
          (outs.there (split_at w.driver a t.at t.split) (t.frame ∙ ap frame_in (set.index on_frames))
          (λ hand. absurd (let e = sym free ∙ hand.held in cc)))

      of_key : v.dir_in ≡ false → (f : ℕ) → frame_in w.control.frame.index ≡ f → IsOfKey start w.driver f a (key_asked v)
      of_key way f frame =
          let t = told in
          let x = t.at.belongs in
          let named = out_named x.endpoint.desc x.placement v t.fields (mixed.turns.kinds_fit x.number x.endpoint x.here) t.at.kind way in
          record {
            number = x.number;
            endpoint = x.endpoint;
            here = x.here;
            way = named.0;
            key = named.1;
            was = subst (λ (g : ℕ). IsActiveDescriptor start.driver start.memory x.number g a) frame t.was;
          }

  -- ---- the one whose transaction is made

  module _ (h : HeldSitd) (out : List ℕ) (reply : Reply) (held : w.control.frame.hand ≡ Some (hands.Sitd h)) (unset : h.settled ≡ None)
      (work : sitd_turn (microframe_of w.control.frame.index) h.sitd ≡ Work) where
    abbrev u : ℕ
    u = microframe_of w.control.frame.index

    abbrev after : Sitd
    after = sitd_after (microframe_of w.control.frame.index) reply h.sitd

    active : h.sitd.active ≡ true
    active = is_on fixed start w vs set outs row h work

    module _ (on : (sitd_after (microframe_of w.control.frame.index) reply h.sitd).active ≡ true) (way : h.sitd.dir_in ≡ false) where
      own_lacks : (none : Bool) → (h.sitd.c_prog == 0) ≡ none
          → EachOf Lacks (key_asked h.sitd)
          (pipeline_for (transact_after fixed w.bus (sitd_transaction h.sitd).ask out).hubs h.sitd.hub h.sitd.port)
      own_lacks true none =
          let parts = (own_copy fixed start w vs set outs row h held unset active way).fields.has.parts in
          let first = first_position h.sitd _ u reply parts active way none on in
          first_part_leaves h.sitd fixed w.bus out way first h.sitd.hub h.sitd.port
          (firsts h on_frames held unset (turn_now fixed start w vs set outs row h work) way first
          (asked_even start w vs set.holds.within.began set.names outs h on_frames held unset active way))
      own_lacks false some =
          let parts = (own_copy fixed start w vs set outs row h held unset active way).fields.has.parts in
          later_parts_leave h.sitd _ u reply fixed w.bus out parts active way some on h.sitd.hub h.sitd.port
          (outs.held h on_frames held active way some)

    asked_lacks : (b : Bus) → b ≡ transact_after fixed w.bus (sitd_transaction h.sitd).ask out
        → EntriesAre Lacks b.hubs (sitd_after (microframe_of w.control.frame.index) reply h.sitd)
    asked_lacks b is on out_then some =
        let way : h.sitd.dir_in ≡ false = sym (way_after u reply h.sitd) ∙ out_then in
        let same = out_after u reply h.sitd way in
        subst (λ (x : Bus). EachOf Lacks (key_asked after) (pipeline_for x.hubs after.hub after.port)) (sym is)
        (subst (λ (k : Key). EachOf Lacks k (pipeline_for (transact_after fixed w.bus (sitd_transaction h.sitd).ask out).hubs after.hub
        after.port)) (sym same.0)
        (subst (λ (n : ℕ). EachOf Lacks (key_asked h.sitd) (pipeline_for (transact_after fixed w.bus (sitd_transaction h.sitd).ask out).hubs
        n after.port)) (sym same.1.0)
        (subst (λ (n : ℕ). EachOf Lacks (key_asked h.sitd) (pipeline_for (transact_after fixed w.bus (sitd_transaction h.sitd).ask out).hubs
        h.sitd.hub n)) (sym same.1.1) (own_lacks on way (h.sitd.c_prog == 0) refl))))

  -- ---- what is in hand then

  abbrev Turn : Type 0
  Turn = FrameTurn fixed (frame_place (controller_parts w)) w.bus (controller_next fixed w).control.frame.hand
      (controller_next fixed w).control.part (controller_next fixed w).bus

  held_by : FrameTurn fixed (frame_place (controller_parts w)) w.bus (controller_next fixed w).control.frame.hand
      (controller_next fixed w).control.part (controller_next fixed w).bus
      → (h : HeldSitd) → (controller_next fixed w).control.frame.hand ≡ Some (hands.Sitd h)
      → EntriesAre Lacks (controller_next fixed w).bus.hubs h.sitd
  held_by (turn_rests none same) h is = absurd (no_hand h new.control.frame.hand none is)
  held_by (turn_another ask out another none after) h is = absurd (no_hand h new.control.frame.hand none is)
  held_by (turn_fetches a v free read hand same) h is =
      let at : h ≡ copy_read a v = same_hand h (copy_read a v) new.control.frame.hand is hand in
      subst (λ (b : Bus). EntriesAre Lacks b.hubs h.sitd) (sym same)
      (subst (λ (z : HeldSitd). EntriesAre Lacks w.bus.hubs z.sitd) (sym at) (λ on way some. read_lacks a v free read on way on way some))
  held_by (turn_transacts k out reply held unset work part hand bus_after) h is =
      subst (λ (z : HeldSitd). EntriesAre Lacks new.bus.hubs z.sitd)
      (sym (same_hand h (sitd_copy (microframe_of w.control.frame.index) reply k) new.control.frame.hand is hand))
      (asked_lacks k out reply held unset work new.bus bus_after)

  read_by : FrameTurn fixed (frame_place (controller_parts w)) w.bus (controller_next fixed w).control.frame.hand
      (controller_next fixed w).control.part (controller_next fixed w).bus
      → IsReadFor start (controller_next fixed w) (visits_at w.control.frame.hand (chain_row w.memory w.control.frame.cursor) vs)
      (controller_next fixed w).control
  read_by (turn_rests none same) n q on way = absurd (no_hand q.hand.copy new.control.frame.hand none q.hand.held)
  read_by (turn_another ask out another none after) n q on way =
      absurd (no_hand q.hand.copy new.control.frame.hand none q.hand.held)
  read_by (turn_fetches a v free read hand same) n q on way =
      let at : q.hand.copy ≡ copy_read a v = same_hand q.hand.copy (copy_read a v) new.control.frame.hand q.hand.held hand in
      let v_on : v.active ≡ true = ap (λ (z : HeldSitd). z.sitd.active) (sym at) ∙ on in
      let v_way : v.dir_in ≡ false = ap (λ (z : HeldSitd). z.sitd.dir_in) (sym at) ∙ way in
      let name : a ≡ n = ap (λ (z : HeldSitd). z.at) (sym at) ∙ q.hand.at in
      let f : ℕ = frame_in new.registers.frame_index in
      let frame : frame_in w.control.frame.index ≡ f =
      ap frame_in (set.index on_frames ∙ sym (index_same fixed start w vs set outs row)) in (
        subst (λ (z : HeldSitd). IsOfKey start w.driver f n (key_asked z.sitd)) (sym at)
            (subst (λ (m : ℕ). IsOfKey start w.driver f m (key_asked v)) name (of_key a v free read v_on v_way f frame)),
        subst (λ (m : ℕ). HasVisited m then_seen) name (now_seen a v free read),
      )
  read_by (turn_transacts k out reply held unset work part hand bus_after) n q on way =
      absurd (let e = same_hand q.hand.copy (sitd_copy (microframe_of w.control.frame.index) reply k) new.control.frame.hand q.hand.held hand in
      let s = sym (ap (λ (z : HeldSitd). z.settled) e) ∙ q.unset in cc)

  -- ---- what came

  module _ (k : Key) (hub port : ℕ) (iso : k.kind ≡ kinds.Iso) (dir : k.dir ≡ dirs.Out) where
    abbrev Goal : Type 0
    Goal = EachOf IsEven k (pipeline_for (controller_next fixed w).bus.hubs hub port)
        ⊎ BroughtPart start (controller_next fixed w) (visits_at w.control.frame.hand (chain_row w.memory w.control.frame.cursor) vs) k

    even_leave : OtherAsksLeave IsEven
    even_leave = other_asks_leave IsEven (other_starts IsEven) completes_even

    -- one that was brought before
    brought : (m : BroughtPart start w vs k) → (IsUnasked (controller_next fixed w).control m.at → ⊥) → Goal
    brought m asked =
        inr (record {
          at = m.at;
          of =
              subst (λ (f : ℕ). IsOfKey start w.driver f m.at k) (ap frame_in (sym (index_same fixed start w vs set outs row))) m.of;
          seen = seen_more w.control.frame.hand (chain_row w.memory w.control.frame.cursor) m.at vs m.seen;
          asked = asked;
        })

    -- a copy that was asked for isn't one that waits
    none_waits : (n : ℕ) (h : HeldSitd) (reply : Reply)
        → (controller_next fixed w).control.frame.hand ≡ Some (hands.Sitd (sitd_copy (microframe_of w.control.frame.index) reply h))
        → IsUnasked (controller_next fixed w).control n → ⊥
    none_waits n h reply hand z =
        let e = same_hand z.hand.copy (sitd_copy (microframe_of w.control.frame.index) reply h) new.control.frame.hand z.hand.held hand in
        let settled = sym (ap (λ (x : HeldSitd). x.settled) e) ∙ z.unset in
        cc

    -- it is this one's
    own_key : (h : HeldSitd) → IsAsked fixed start w vs set outs row h → is_same_key (key_of (sitd_transaction h.sitd).ask) k ≡ true → Goal
    own_key h asked on =
        let same : key_asked h.sitd ≡ k = same_key (key_asked h.sitd) k on in
        let way = way_by_key h.sitd k same dir in
        let active = is_on fixed start w vs set outs row h asked.work in
        let was = outs.read h.at (record {
          hand = record { copy = h; part = on_frames; held = asked.held; at = refl };
          unset = asked.unset;
        }) active way in
        inr (record {
          at = h.at;
          of =
              subst (λ (f : ℕ). IsOfKey start w.driver f h.at k) (ap frame_in (sym (index_same fixed start w vs set outs row)))
              (subst (IsOfKey start w.driver (frame_in w.registers.frame_index) h.at) same was.0);
          seen = seen_more w.control.frame.hand (chain_row w.memory w.control.frame.cursor) h.at vs was.1;
          asked = none_waits h.at h asked.reply asked.then;
        })

    was_came : (EachOf IsEven k (pipeline_for w.bus.hubs hub port)
        → EachOf IsEven k (pipeline_for (controller_next fixed w).bus.hubs hub port))
        → ((m : BroughtPart start w vs k) → IsUnasked (controller_next fixed w).control m.at → ⊥) → Goal
    was_came even asked =
        ⊎_elim {C = Goal} (λ (e : EachOf IsEven k (pipeline_for w.bus.hubs hub port)). inl (even e))
        (λ (m : BroughtPart start w vs k). brought m (asked m)) (outs.came k hub port iso dir)

    abbrev Even : Bus → Type 0
    Even b = EachOf IsEven k (pipeline_for b.hubs hub port)

    came_by : FrameTurn fixed (frame_place (controller_parts w)) w.bus (controller_next fixed w).control.frame.hand
        (controller_next fixed w).control.part (controller_next fixed w).bus → Goal
    came_by (turn_rests none same) =
        was_came (λ e. subst Even (sym same) e) (λ m z. no_hand z.hand.copy new.control.frame.hand none z.hand.held)
    came_by (turn_another ask out another none after) =
        was_came (λ e. subst Even (sym after) (even_leave k fixed w.bus ask out
        (λ at place part split piped. other_key ask k at place part another iso split) hub port e))
        (λ m z. no_hand z.hand.copy new.control.frame.hand none z.hand.held)
    came_by (turn_fetches a v free read hand same) =
        was_came (λ e. subst Even (sym same) e)
        (λ m z.
        let at : z.hand.copy ≡ copy_read a v = same_hand z.hand.copy (copy_read a v) new.control.frame.hand z.hand.held hand in
        let name : m.at ≡ a = sym z.hand.at ∙ ap (λ (x : HeldSitd). x.at) at in
        not_seen a v free read (subst (λ (n : ℕ). HasVisited n vs) name m.seen))
    came_by (turn_transacts h out reply held unset work part hand bus_after) =
        elim (cases_Bool (is_same_key (key_of (sitd_transaction h.sitd).ask) k)) [
          | inl on ↦
              own_key h (record { held = held; unset = unset; work = work; part = part; reply = reply; then = hand }) on
          | inr off ↦
              was_came (λ e. subst Even (sym bus_after) (even_leave k fixed w.bus (sitd_transaction h.sitd).ask out
              (λ at place part split piped. off) hub port e)) (λ m z. none_waits m.at h reply hand z)
        ]

  pub frame_goes_on : OutsGoOn start (controller_next fixed w) (visits_after (controller_row w) (controller_parts w) vs)
  frame_goes_on =
      subst (λ (r : ControllerRow). OutsGoOn start new (visits_after r (controller_parts w) vs)) (sym row)
      (record {
        there = λ i now gone.
            there_after fixed start w vs set outs row i (now ∙ ap frame_in (index_same fixed start w vs set outs row)) gone;
        held = λ h part is. held_by (world_turn fixed w row) h is;
        came = λ k hub port iso dir. came_by k hub port iso dir (world_turn fixed w row);
        read = read_by (world_turn fixed w row);
      })
