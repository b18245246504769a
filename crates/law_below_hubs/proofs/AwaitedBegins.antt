-- Where a microframe begins, the work of the hubs leaves what a host awaits of its key.
use Rattle.std.proofs.Common.{◌≡◌, ◌≢◌, ℕ, zero, suc, true, List, [], ◌∷◌}
use Rattle.std.proofs.Common.{Option, Some, None, ap, refl, sym, subst, ◌∙◌, Bool}
use Rattle.std.proofs.lemmas.Bool.{false≢true}
use Rattle.usb_base.specs.declared.packets.Dir.{Dir}
use Rattle.usb_base.specs.declared.packets.Pid.{Pid}
use Rattle.usb_base.specs.declared.packets.Pid.TheVariants as Pids
use Rattle.usb_base.specs.declared.packets.Reply.{Reply}
use Rattle.usb_base.specs.declared.packets.Reply.TheVariants as Replies
use Rattle.drv_table.specs.Words.{is_control}
use Rattle.hub_keys.specs.Asks.{classic_of}
use Rattle.hub_keys.specs.Keys.{key_of}
use Rattle.hub_keys.specs.declared.key.Key.{Key}
use Rattle.hub_class.specs.HubContent.{HubContent}
use Rattle.hub_class.proofs.Microframe.{work_keeps}
use Rattle.hub_class.specs.Microframe.{wire_left, translators_worked}
use Rattle.tt_bulk.specs.Contents.{Taken}
use Rattle.bus_wire.specs.Fixed.{Fixed}
use Rattle.bus_wire.specs.Below.{Floor, Below, below_at, below_reply, below_after, floor_left, hubs_worked, floor_worked}
use Rattle.bus_wire.specs.Bus.{floor_of}
use Rattle.law_translated.specs.Lift.{Buffered, IsQuiet, result, Asked}
use Rattle.law_translated.specs.KeyLaws.{IsAskedFor}
use Rattle.law_translated.specs.KeySlots.{KeySlot}
use Rattle.law_translated.specs.KeySteps.{is_answer, dead_reply, KeyTurn, OfOthers}
use Rattle.law_translated.specs.KeySteps.{Showing, WorkOfKey}
use Rattle.law_translated.specs.KeySteps.OfOthers.{none as no_others, more as more_others}
use Rattle.law_translated.specs.KeySteps.KeyTurn.{rests as turn_rests, works as turn_works, is_quiet as turn_quiet, gives_dead as turn_dead}
use Rattle.law_translated.specs.KeySteps.Showing.{stays as shown_stays, shows as shown_shows}
use Rattle.law_translated.proofs.HubCalls.{none_work, hub_work, asked_at}
use Rattle.law_below_hubs.specs.Raised.{transacts_below}
use Rattle.law_below_hubs.specs.Awaited.{suits, IsAwaited, StandsAs, IsTokenOf, of_in, of_out, of_setup, IsOfWay, HasEnd}
use Rattle.law_below_hubs.specs.Awaited.{BeginLeavesKey}
use Rattle.law_below_hubs.specs.HubsKeys.{HubsHaveNone, HubsHave}
use Rattle.law_below_hubs.proofs.AwaitedEnds.{below_keeps_end, begun_keeps_end, answers_suit}
use Rattle.law_below_hubs.proofs.HubsWork.{hub_made}
use Rattle.law_below_hubs.proofs.Moves.{stays_below}

not_silent : (r : Reply) → is_answer Buffered r ≡ true → r ≢ Replies.Silent
not_silent r on is = false≢true (sym (ap (is_answer Buffered) is) ∙ on)

not_nyet : (r : Reply) → is_answer Buffered r ≡ true → r ≢ Replies.Hand Pids.Nyet
not_nyet r on is = false≢true (sym (ap (is_answer Buffered) is) ∙ on)

stall_suits : (control : Bool) (token : Pid) (dir : Dir) → IsTokenOf control token dir → suits token (Replies.Hand Pids.Stall) ≡ true
stall_suits control token dir (of_in is way) = ap (λ (p : Pid). suits p (Replies.Hand Pids.Stall)) is
stall_suits control token dir (of_out is way) = ap (λ (p : Pid). suits p (Replies.Hand Pids.Stall)) is
stall_suits control token dir (of_setup on is way) = ap (λ (p : Pid). suits p (Replies.Hand Pids.Stall)) is

module _ (k : Key) (o : Option Pid) (of : IsOfWay (is_control k.kind) o k.dir) where
  abbrev control : Bool
  control = is_control k.kind

  abbrev Ends : Below → Type 0
  Ends w = HasEnd (is_control k.kind) k.dir w.fixed w.floor.devices k.addr k.ep

  others_keep : (w v : Below) → OfOthers transacts_below k w v → Ends w → Ends v
  others_keep w _ (no_others _) ends = ends
  others_keep w v (more_others _ u _ ask out reply apart made rest) ends =
      others_keep u v rest (below_keeps_end (is_control k.kind) k.dir w (classic_of ask) out reply u k.addr k.ep made ends)

  abbrev asked : Taken → KeySlot
  asked a = Asked a

  answer_suits : (w : Below) (a : Taken) (r : Reply) (v : Below) → key_of a.ask ≡ k → transacts_below w (classic_of a.ask) a.packet r v
      → is_answer Buffered r ≡ true → Ends w → (pid : Pid) → IsTokenOf (is_control k.kind) pid k.dir → a.ask.pid ≡ pid → suits pid r ≡ true
  answer_suits w a r v own made on ends pid way token =
      let here : HasEnd (is_control k.kind) k.dir w.fixed w.floor.devices a.ask.addr a.ask.ep =
      subst (λ (n : ℕ). HasEnd (is_control k.kind) k.dir w.fixed w.floor.devices n a.ask.ep) (sym (ap (λ (c : Key). c.addr) own))
      (subst (λ (n : ℕ). HasEnd (is_control k.kind) k.dir w.fixed w.floor.devices k.addr n) (sym (ap (λ (c : Key). c.ep) own)) ends) in
      let known : below_reply w (classic_of a.ask) a.packet ≡ r = sym made.heard in
      ap (suits pid) (sym known)
      ∙ answers_suit (is_control k.kind) k.dir pid w (classic_of a.ask) a.packet token way (λ on. refl) here
      (λ silent. not_silent r on (sym known ∙ silent)) (λ nyet. not_nyet r on (sym known ∙ nyet))

  -- what its turn leaves of the slot
  turned : (s : KeySlot) (w : Below) (new : KeySlot) (v : Below) → IsAskedFor k s → KeyTurn transacts_below Buffered s w new v → Ends w
      → StandsAs o s → StandsAs o new × Ends v
  turned s w _ _ own turn_rests ends stands = (stands, ends)
  turned s w _ v own (turn_works a r after is made on) ends stands =
      (by o of stands, below_keeps_end (is_control k.kind) k.dir w (classic_of a.ask) a.packet r v k.addr k.ep made ends)
    where
      by : (u : Option Pid) → IsOfWay (is_control k.kind) u k.dir → StandsAs u s → StandsAs u (result Buffered a r)
      by None way quiet = absurd (subst IsQuiet is quiet)
      by (Some pid) way awaited =
          answer_suits w a r v (subst (IsAskedFor k) is own) made on ends pid way (subst (IsAwaited pid) is awaited)
  turned s w _ v own (turn_quiet a r after way is made off) ends stands =
      (stands, below_keeps_end (is_control k.kind) k.dir w (classic_of a.ask) a.packet r v k.addr k.ep made ends)
  turned s w _ v own (turn_dead a r after is made off) ends stands =
      (by o of stands, below_keeps_end (is_control k.kind) k.dir w (classic_of a.ask) a.packet r v k.addr k.ep made ends)
    where
      by : (u : Option Pid) → IsOfWay (is_control k.kind) u k.dir → StandsAs u s → StandsAs u (result Buffered a (dead_reply Buffered))
      by None way quiet = absurd (subst IsQuiet is quiet)
      by (Some pid) way awaited = stall_suits (is_control k.kind) pid k.dir way

  seen_as : (s new : KeySlot) → Showing Buffered s new → StandsAs o s → StandsAs o new
  seen_as s _ shown_stays stands = stands
  seen_as s _ (shown_shows a r piped is) stands = absurd cc

  worked : (frindex : ℕ) (s : KeySlot) (w : Below) (new : KeySlot) (v : Below) → IsAskedFor k s
      → WorkOfKey transacts_below Buffered k frindex s w new v → Ends w → StandsAs o s → StandsAs o new × Ends v
  worked frindex s w new v own z ends stands =
      let t = z.turns in
      let first = others_keep w t.first t.earlier ends in
      let own_turn = turned s t.first z.made t.second own t.turn first stands in (
        subst (StandsAs o) (sym z.leaves) (seen_as z.made z.seen z.shows own_turn.0),
        others_keep t.second v t.later own_turn.1,
      )

  -- ---- all hubs

  module _ (fixed : Fixed) (frindex : ℕ) where
    abbrev On : Floor → Type 0
    On floor = HasEnd (is_control k.kind) k.dir fixed floor.devices k.addr k.ep

    -- the bus below keeps what is fixed
    record NoneWorked (hs : List HubContent) (floor : Floor) : Type 0 where
      on : On (floor_worked fixed hs floor)
      none : HubsHaveNone Buffered k (hubs_worked fixed frindex hs floor)

    abbrev after_hub : HubContent → Floor → Below
    after_hub h floor = wire_left below_reply below_after h (below_at fixed h floor)

    module _ (same : (h : HubContent) (floor : Floor) → (after_hub h floor).fixed ≡ fixed) where
      left_on : (h : HubContent) (floor : Floor) → Ends (after_hub h floor) → On (floor_left fixed h floor)
      left_on h floor ends =
          subst (λ (f : Fixed). HasEnd (is_control k.kind) k.dir f (floor_left fixed h floor).devices k.addr k.ep) (same h floor) ends

      none_hubs : (hs : List HubContent) (floor : Floor) → On floor → HubsHaveNone Buffered k hs → NoneWorked hs floor
      none_hubs [] floor on none = record { on = on; none = tt }
      none_hubs (h ∷ hs) floor on none =
          let w : Below = below_at fixed h floor in
          let n = none_work transacts_below Buffered k frindex h.translators.all w (after_hub h floor)
          (translators_worked below_reply below_after frindex h.translators.all w) none.0 (hub_made frindex h w) in
          let r = none_hubs hs (floor_left fixed h floor) (left_on h floor (others_keep w (after_hub h floor) n.others on)) none.1 in
          record { on = r.on; none = (n.none, r.none) }

      record HubsWorked (hub place : ℕ) (hs : List HubContent) (floor : Floor) : Type 0 where
        slot : KeySlot
        has : HubsHave Buffered k hub place (hubs_worked fixed frindex hs floor) slot
        stands : StandsAs o slot
        on : On (floor_worked fixed hs floor)

      work_hubs : (hub place : ℕ) (hs : List HubContent) (floor : Floor) (s : KeySlot) → On floor → HubsHave Buffered k hub place hs s
          → StandsAs o s → HubsWorked hub place hs floor
      work_hubs hub place [] floor s on has stands = absurd has
      work_hubs zero place (h ∷ hs) floor s on has stands =
          let w : Below = below_at fixed h floor in
          let z = hub_work transacts_below Buffered k frindex place h.translators.all w (after_hub h floor)
          (translators_worked below_reply below_after frindex h.translators.all w) s has.0 (hub_made frindex h w) in
          let e = worked frindex s w z.slot (after_hub h floor) (asked_at Buffered k place h.translators.all s has.0) z.work on stands in
          let n = none_hubs hs (floor_left fixed h floor) (left_on h floor e.1) has.1 in
          record { slot = z.slot; has = (z.has, n.none); stands = e.0; on = n.on }
      work_hubs (suc hub) place (h ∷ hs) floor s on has stands =
          let w : Below = below_at fixed h floor in
          let n = none_work transacts_below Buffered k frindex h.translators.all w (after_hub h floor)
          (translators_worked below_reply below_after frindex h.translators.all w) has.0 (hub_made frindex h w) in
          let r = work_hubs hub place hs (floor_left fixed h floor) s
          (left_on h floor (others_keep w (after_hub h floor) n.others on)) has.1
          stands in
          record { slot = r.slot; has = (n.none, r.has); stands = r.stands; on = r.on }

-- what is fixed of the bus below stays
fixed_left : (fixed : Fixed) (h : HubContent) (floor : Floor) → (wire_left below_reply below_after h (below_at fixed h floor)).fixed ≡ fixed
fixed_left fixed h floor =
    work_keeps below_reply below_after (λ (w : Below). w.fixed ≡ fixed) (λ w ask out same. (stays_below w ask out).fixed ∙ same) h
    (below_at fixed h floor) refl

pub begin_leaves_key : BeginLeavesKey
begin_leaves_key k i place frindex w o of z =
    let r = work_hubs k o of w.fixed frindex (fixed_left w.fixed) i place w.bus.hubs (floor_of w.bus) z.slot z.ends z.has z.stands in
    record {
      slot = r.slot;
      has = r.has;
      stands = r.stands;
      ends =
          begun_keeps_end (is_control k.kind) k.dir w.fixed frindex
          (floor_worked w.fixed w.bus.hubs (floor_of w.bus)).devices k.addr k.ep r.on;
    }
