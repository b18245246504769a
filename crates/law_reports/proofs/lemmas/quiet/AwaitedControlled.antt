-- Each event of the controller leaves host and hub of each bulk and control endpoint below a hub as they must stand, where the hub is heard and spared.
use Rattle.std.proofs.Common.{◌≡◌, ◌≢◌, ℕ, ◌*◌, ◌==◌, Bool, true, false, not, ◌||◌, List, slice_get, Some, None, ap, refl, sym, subst, ◌∙◌, inl, inr}
use Rattle.std.specs.Prelude.{◌⊎◌, []}
use Rattle.std.specs.List.{AllByRecursion}
use Rattle.std.proofs.lemmas.Bool.{and_parts, false≢true, true≢false, eq-eqb}
use Rattle.std.proofs.lemmas.Option.{same_Some}
use Rattle.law_common.proofs.Lists.{nth_all}
use Rattle.usb_base.specs.declared.commands.Cmd.TheVariants as commands
use Rattle.usb_base.specs.declared.endpoints.EpDesc.{EpDesc}
use Rattle.usb_base.specs.declared.packets.Ask.{Ask}
use Rattle.usb_base.specs.declared.packets.Dir.{Dir}
use Rattle.usb_base.specs.declared.packets.Dir.TheVariants as Directions
use Rattle.usb_base.specs.declared.packets.EpKind.{EpKind}
use Rattle.usb_base.specs.declared.packets.EpKind.TheVariants as kinds
use Rattle.usb_base.specs.declared.packets.Way.{Way}
use Rattle.usb_base.specs.declared.packets.Way.TheVariants as ways
use Rattle.script_types.specs.declared.scripts.Line.TheVariants as lines
use Rattle.script_types.specs.declared.scripts.Script.{Script}
use Rattle.script_text.specs.Faults.{Spells}
use Rattle.hub_keys.specs.Keys.{direction_of}
use Rattle.hub_keys.specs.declared.key.Key.{Key as HubKey}
use Rattle.bus_wire.specs.Bus.{Wired, Fixed, fixed_of}
use Rattle.hc_copy.specs.Planning.{pid_at}
use Rattle.claims_base.specs.Controller.{opening_base}
use Rattle.claims_world.specs.Quiet.{GetsThroughAbove}
use Rattle.drv_table.specs.declared.content.Endpoint.{Endpoint}
use Rattle.drv_table.specs.Kinds.{is_iso}
use Rattle.drv_table.specs.Words.{is_control, is_high}
use Rattle.law_driver.specs.queued_drivers.Queued.{IsOfWay as KindIsOfWay, queued_endpoint, queued}
use Rattle.law_driver_ring.specs.fed_queues.Places.{IsMet}
use Rattle.law_frames.specs.FrameStreams.{IsIsoAsk}
use Rattle.law_frames.specs.Met.{AQueue}
use Rattle.law_controller.specs.frame_control.Joined.{joined}
use Rattle.law_descriptors.specs.Both.{both, parts_now}
use Rattle.law_descriptors.specs.Meeting.{met}
use Rattle.law_descriptors.specs.PartLaws.{IsDescribing}
use Rattle.law_devices.specs.declared_controls.Names.{HasItsName, NamesLine}
use Rattle.law_devices.proofs.lemmas.declared_controls.Controls.{texts_name_endpoints}
use Rattle.law_devices.proofs.lemmas.declared_controls.Names.{control_zero}
use Rattle.law_below_hubs.specs.Awaited.{KeyStands, HasEnd, Asking, its_kind, IsMoving, IsCodeOf, faces, HearsSplits}
use Rattle.law_below_hubs.specs.HostEvents.{told_key, SparesKeyNow, AsksAlone}
use Rattle.law_below_hubs.specs.HostOuts.{IsOfOther}
use Rattle.law_below_hubs.specs.Splits.{IsAtHub}
use Rattle.law_below_hubs.proofs.AwaitedEvents.{its_way, faces_own, event_keeps_awaiting, unasked_leaves_key}
use Rattle.law_microframes.proofs.lemmas.visits.AskedHeads.{asked_is_near}
use Rattle.law_microframes.proofs.lemmas.visits.BelongQueues.{queue_belongs}
use Rattle.law_microframes.specs.visits.Belonging.{IsQueueAt}
use Rattle.law_microframes.specs.visits.WorldPipes.{EventOf}
use Rattle.law_opened.specs.Opened.{IsOpened}
use Rattle.law_opened.proofs.Opened.{texts_open_fit}
use Rattle.law_world.specs.steps.Streaming.{wired}
use Rattle.law_world.specs.memory.Mixed.{Standing}
use Rattle.law_world.specs.memory.Steps.{standing_then, IsMixedControlled}
use Rattle.bus_world.specs.World.{World, controller_parts, controller_next}
use Rattle.law_reports.specs.lines.Lined.{in_hand, Lines}
use Rattle.law_reports.specs.pipes.Declared.{sides_of}
use Rattle.law_reports.specs.pipes.Piped.{Heads, asked_as, IsOpening, IsUnused, AreFresh, IsPiped}
use Rattle.law_reports.specs.pipes.puts.Paid.{Pays}
use Rattle.law_reports.specs.pipes.below_hubs.Behind.{IsBehind}
use Rattle.law_reports.specs.pipes.below_hubs.BehindLaws.{hub_of, place_of, spots_of}
use Rattle.law_reports.specs.pipes.below_hubs.Controlled.{AskTheirWays, IsUnasked}
use Rattle.law_reports.specs.pipes.below_hubs.Inward.{Inlet}
use Rattle.law_reports.proofs.lemmas.pipes.Controlled.{c, z, unopened_met}
use Rattle.law_reports.proofs.lemmas.lines.IsoGoing.{told_apart}
use Rattle.law_reports.proofs.lemmas.pipes.Names.{kept_as, same_number, name_is}
use Rattle.law_reports.proofs.lemmas.pipes.lemmas.below_hubs.Asked.{way_of_dir, asks_else, iso_asks_other, asks_none, iso_beside}
use Rattle.law_reports.proofs.lemmas.pipes.lemmas.below_hubs.BehindControlled.{ask_ways}
use Rattle.law_reports.proofs.lemmas.pipes.lemmas.below_hubs.Controlled.{sound_at}
use Rattle.law_reports.proofs.lemmas.pipes.lemmas.below_hubs.HubStays.{event_keeps_hub}
use Rattle.law_reports.proofs.lemmas.pipes.lemmas.below_hubs.SparedHubs.{spared_hubs_keep_keys}
use Rattle.law_reports.specs.quiet.Awaiting.{is_buffered, is_buffered_below, asking_of, FreshKeys, IsAwaitingAt, AreNumbered, every_name}
use Rattle.law_reports.specs.quiet.Awaiting.{AreAwaited, HubsStand, SparesBuffers}
use Rattle.law_reports.specs.quiet.Heard.{IsServed}
use Rattle.law_reports.proofs.lemmas.quiet.AwaitedHearing.{its_seat, hub_is_heard}
use Rattle.law_reports.proofs.lemmas.quiet.Served.{is_served}

-- ---- its kind and its way

kind_by : (way : Way) (kind : EpKind) → is_buffered kind ≡ true → KindIsOfWay way kind → kind ≡ its_kind (asking_of way)
kind_by ways.In kinds.Bulk is of = refl
kind_by ways.Out kinds.Bulk is of = refl
kind_by ways.Ctl kinds.Bulk is of = absurd (let e : kinds.Bulk ≡ kinds.Control = of in cc)
kind_by ways.In kinds.Control is of = absurd of
kind_by ways.Out kinds.Control is of = absurd of
kind_by ways.Ctl kinds.Control is of = refl
kind_by way kinds.Interrupt is of = absurd (false≢true is)
kind_by way kinds.Iso is of = absurd (false≢true is)

pub kind_is : (x : EpDesc) → is_buffered_below x ≡ true → KindIsOfWay x.name.way x.kind → x.kind ≡ its_kind (asking_of x.name.way)
kind_is x is of = kind_by x.name.way x.kind (and_parts (is_buffered x.kind) (not (is_high x.speed)) is).0 of

pub moving : (way : Way) → IsMoving (asking_of way)
moving ways.In = inl refl
moving ways.Out = inr refl
moving ways.Ctl = tt

is_data : (way : Way) → (way ≡ ways.Ctl → ⊥) → is_control (its_kind (asking_of way)) ≡ false
is_data ways.In data_is = refl
is_data ways.Out data_is = refl
is_data ways.Ctl data_is = absurd (data_is refl)

-- the direction of a data endpoint's key
its_dir : (way : Way) (dir : Dir) → faces (asking_of way) dir → (way ≡ ways.Ctl) ⊎ (way ≡ way_of_dir dir)
its_dir ways.In dir of = inr (ap way_of_dir (sym of))
its_dir ways.Out dir of = inr (ap way_of_dir (sym of))
its_dir ways.Ctl dir of = inl refl

dir_data : (dir : Dir) → way_of_dir dir ≡ ways.Ctl → ⊥
dir_data Directions.In e = cc
dir_data Directions.Out e = cc

buffered_kinds : (kind : EpKind) → is_buffered kind ≡ true → (is_iso kind ≡ true → ⊥) × (kind ≡ kinds.Interrupt → ⊥)
buffered_kinds kinds.Bulk is = ((λ iso. false≢true iso), (λ e. cc))
buffered_kinds kinds.Control is = ((λ iso. false≢true iso), (λ e. cc))
buffered_kinds kinds.Interrupt is = absurd (false≢true is)
buffered_kinds kinds.Iso is = absurd (false≢true is)

-- ---- numbers

module _ (text : List ℕ) (s : Script) (spelled : Spells text s) (x : EpDesc) (o : IsOpened s x) where
  named : HasItsName x
  named = nth_all (λ l. NamesLine l.1) s.lines o.place (o.number, lines.Command (commands.OpenEp x))
      (texts_name_endpoints text s spelled).opened o.here

  pub zero_number : x.kind ≡ kinds.Control → x.name.num ≡ 0
  zero_number control = (control_zero x named control).number

module _ (text : List ℕ) (s : Script) (spelled : Spells text s) (packets : AllByRecursion GetsThroughAbove s.fates) (st : Standing) (m : Lines)
    (h : Heads) (puts : ℕ → List ℕ) (w : World) (k : IsPiped (fixed_of s) (sides_of s) st m h w)
    (pays : Pays (fixed_of s) (sides_of s) st m puts w) (b : IsBehind (fixed_of s) (spots_of s) st m puts w) (a : AreAwaited s st w)
    (hubs : HubsStand s w.bus) (numbers : AreNumbered s w.bus) (spares : SparesBuffers s w) where
  abbrev fixed : Fixed
  fixed = fixed_of s

  abbrev new : World
  new = controller_next (fixed_of s) w

  abbrev wire : Wired
  wire = wired (fixed_of s) w

  abbrev after : Wired
  after = wired (fixed_of s) (controller_next (fixed_of s) w)

  abbrev event : IsMixedControlled (fixed_of s) st w
  event = c (fixed_of s) (sides_of s) st m h w k

  abbrev z_now : EventOf (fixed_of s) st w (c (fixed_of s) (sides_of s) st m h w k).event
  z_now = z (fixed_of s) (sides_of s) st m h w k

  abbrev then_standing : Standing
  then_standing = standing_then st w (c (fixed_of s) (sides_of s) st m h w k).event

  ways_are : AskTheirWays st w.driver
  ways_are = ask_ways (fixed_of s) (sides_of s) (spots_of s) st m h puts w k pays b

  hub_stays : (hub port i place : ℕ) → IsAtHub w.bus.hubs hub port i place
      → IsAtHub (wired (fixed_of s) (controller_next (fixed_of s) w)).bus.hubs hub port i place
  hub_stays hub port i place at =
      event_keeps_hub st.parts (joined st.hand st.frame) wire after (parts_now st.descs st.parts event.event.now)
      (joined event.event.later event.event.frame_later) hub port i place z_now at

  pub hubs_then : HubsStand s (controller_next (fixed_of s) w).bus
  hubs_then x o is = hub_stays (asked_as x).hub (asked_as x).port (hub_of s x.hub) (place_of s x.hub x.port) (hubs x o is)

  -- a control endpoint has the number 0, and no other one has
  control_kind : (v : EpDesc) → KindIsOfWay v.name.way v.kind → v.name.way ≡ ways.Ctl → v.kind ≡ kinds.Control
  control_kind v of ctl = subst (λ (way : Way). KindIsOfWay way v.kind) ctl of

  data_kind : (way : Way) (kind : EpKind) → KindIsOfWay way kind → (way ≡ ways.Ctl → ⊥) → is_control kind ≡ false
  data_kind ways.In kinds.Control of data_is = absurd of
  data_kind ways.Out kinds.Control of data_is = absurd of
  data_kind ways.Ctl kind of data_is = absurd (data_is refl)
  data_kind way kinds.Bulk of data_is = refl
  data_kind way kinds.Interrupt of data_is = refl
  data_kind way kinds.Iso of data_is = refl

  some_number : (v : EpDesc) → (is_control v.kind || not (v.name.num == 0)) ≡ true → KindIsOfWay v.name.way v.kind → (v.name.way ≡ ways.Ctl → ⊥)
      → v.name.num ≢ 0
  some_number v numbered of data_is none =
      false≢true (sym (ap (λ (b : Bool). b || not (v.name.num == 0)) (data_kind v.name.way v.kind of data_is) ∙ ap not (eq-eqb v.name.num 0 none))
      ∙ numbered)

  -- so one has no number of a control endpoint, or is one
  numbers_apart : (x v : EpDesc) → (is_control x.kind || not (x.name.num == 0)) ≡ true → KindIsOfWay x.name.way x.kind
      → (is_control v.kind || not (v.name.num == 0)) ≡ true → KindIsOfWay v.name.way v.kind → IsOpened s x → IsOpened s v
      → (x.name.way ≡ ways.Ctl) → (v.name.way ≡ ways.Ctl → ⊥) → v.name.num ≡ x.name.num → ⊥
  numbers_apart x v x_numbered x_of v_numbered v_of x_opened v_opened ctl data_is num =
      some_number v v_numbered v_of data_is (num ∙ zero_number text s spelled x x_opened (control_kind x x_of ctl))

  -- ---- its hub is spared, and heard

  module _ (x : EpDesc) (o : IsOpened s x) (is : is_buffered_below x ≡ true) where
    inlet : Inlet
    inlet = record { desc = x; hub = hub_of s x.hub; place = place_of s x.hub x.port; packets = [] }

    key_spared : (key : HubKey) → SparesKeyNow key (hub_of s x.hub) (place_of s x.hub x.port) wire after
    unfolding inlet
    key_spared key = spared_hubs_keep_keys inlet key wire after (λ hub here. spares x o is hub here)

    pub hub_heard : (a : Asking) (code : ℕ) → IsMoving a → IsCodeOf a code → (key : HubKey)
        → HasEnd (is_control (its_kind a)) (direction_of (pid_at code)) (fixed_of s) w.bus.devices key.addr key.ep
        → HearsSplits code key (asked_as x).hub (asked_as x).port (hub_of s x.hub) wire after
    hub_heard a code moving_it of key ends ask out reply split same token made =
        made.0
        ∙ hub_is_heard s packets w.bus numbers ask out (asked_as x).hub (asked_as x).port (hub_of s x.hub) (place_of s x.hub x.port) split
        (hubs x o is)
        (its_seat s w.bus.devices a code ask.addr ask.ep ask.pid moving_it of token
        (subst (λ (n : ℕ). HasEnd (is_control (its_kind a)) (direction_of (pid_at code)) (fixed_of s) w.bus.devices n ask.ep)
        (sym (ap (λ (u : HubKey). u.addr) same))
        (subst (λ (n : ℕ). HasEnd (is_control (its_kind a)) (direction_of (pid_at code)) (fixed_of s) w.bus.devices key.addr n)
        (sym (ap (λ (u : HubKey). u.ep) same)) ends)))

  -- ---- one that is met

  module _ (e : ℕ) (y : Endpoint) (here : slice_get w.driver.endpoints e ≡ Some y) (is : is_buffered_below y.desc ≡ true)
      (is_met : IsMet (queued w.driver) e (queued_endpoint y)) where
    opened : IsOpened s y.desc
    opened = (a.served e y here).opened

    fits : KindIsOfWay y.desc.name.way y.desc.kind
    fits = k.mixed.turns.kinds_fit e y here

    kind_told : y.desc.kind ≡ its_kind (asking_of y.desc.name.way)
    kind_told = kind_is y.desc is fits

    buffered : is_buffered y.desc.kind ≡ true
    buffered = (and_parts (is_buffered y.desc.kind) (not (is_high y.desc.speed)) is).0

    same_name : (f : ℕ) (v : Endpoint) → slice_get w.driver.endpoints f ≡ Some v → v.desc.name.way ≡ y.desc.name.way
        → v.desc.name.addr ≡ y.desc.name.addr → v.desc.name.num ≡ y.desc.name.num → f ≡ e
    same_name f v there way addr num =
        told_apart w.driver (in_hand st) st.parts m.reported k.telling.told f e v y there here (name_is v.desc.name y.desc.name addr num way)

    -- whoever has its address and number, and may ask in the direction of a key of it, is this one
    its_number : (dir : Dir) → faces (asking_of y.desc.name.way) dir → (f : ℕ) (v : Endpoint) → slice_get w.driver.endpoints f ≡ Some v
        → (v.desc.name.way ≡ way_of_dir dir) ⊎ (v.desc.name.way ≡ ways.Ctl) → v.desc.name.addr ≡ y.desc.name.addr
        → v.desc.name.num ≡ y.desc.name.num → f ≡ e
    its_number dir of f v there asks addr num = by (its_dir y.desc.name.way dir of) asks
      where
        v_served : IsServed s v.desc
        v_served = a.served f v there

        v_fits : KindIsOfWay v.desc.name.way v.desc.kind
        v_fits = k.mixed.turns.kinds_fit f v there

        by : (y.desc.name.way ≡ ways.Ctl) ⊎ (y.desc.name.way ≡ way_of_dir dir)
            → (v.desc.name.way ≡ way_of_dir dir) ⊎ (v.desc.name.way ≡ ways.Ctl) → f ≡ e
        by (inl ctl) (inr too) = same_name f v there (too ∙ sym ctl) addr num
        by (inl ctl) (inl other) =
            absurd (numbers_apart y.desc v.desc (a.served e y here).named fits v_served.named v_fits opened v_served.opened ctl
            (λ too. dir_data dir (sym other ∙ too)) num)
        by (inr way) (inl too) = same_name f v there (too ∙ sym way) addr num
        by (inr way) (inr ctl) =
            absurd (numbers_apart v.desc y.desc v_served.named v_fits (a.served e y here).named fits v_served.opened opened ctl
            (λ too. dir_data dir (sym way ∙ too)) (sym num))

    same_endpoint : (f : ℕ) (v : Endpoint) → slice_get w.driver.endpoints f ≡ Some v → f ≡ e → v ≡ y
    same_endpoint f v there same = same_Some v y (sym there ∙ ap (slice_get w.driver.endpoints) same ∙ here)

    alone : (dir : Dir) → faces (asking_of y.desc.name.way) dir → AsksAlone dir st.near st.parts (32 * y.queue) (asked_as y.desc)
    alone dir of n on differs =
        asks_else fixed (sides_of s) st m h w k ways_are dir (asked_as y.desc) n on (λ v. (
          λ way addr num. differs (v.at ∙ ap (λ (z : Endpoint). 32 * z.queue) (same_endpoint v.number v.endpoint v.here
              (its_number dir of v.number v.endpoint v.here (inl way) addr num))),
          λ way addr num. differs (v.at ∙ ap (λ (z : Endpoint). 32 * z.queue) (same_endpoint v.number v.endpoint v.here
              (its_number dir of v.number v.endpoint v.here (inr way) addr num))),
        ))

    iso_apart : (dir : Dir) → faces (asking_of y.desc.name.way) dir → (ask : Ask) → IsIsoAsk (both st.descs st.parts) ask
        → IsOfOther (told_key (its_kind (asking_of y.desc.name.way)) dir (asked_as y.desc)) ask
    iso_apart dir of =
        iso_asks_other fixed (sides_of s) st m h w k ways_are dir (asked_as y.desc) (λ f v there iso way addr num.
        (buffered_kinds y.desc.kind buffered).0
        (ap (λ (z : Endpoint). is_iso z.desc.kind) (sym (same_endpoint f v there (its_number dir of f v there (inl way) addr num))) ∙ iso))

    -- the frames don't meet it
    unmet : met w.driver st.recent (32 * y.queue) ≡ Some AQueue → ⊥
    unmet on =
        let q : IsQueueAt w.driver (32 * y.queue) = queue_belongs st w (32 * y.queue) k.mixed on in
        let v : Endpoint = q.belongs.endpoint in
        let same : q.belongs.number ≡ e =
        same_number w.driver k.mixed.now.framed.place.sound.owners q.belongs.number e v y q.belongs.here here
        (q.belongs.kept, ap is_iso q.kind) (kept_as y is_met.there.kept) (sym q.name) in
        (buffered_kinds y.desc.kind buffered).1
        (ap (λ (z : Endpoint). z.desc.kind) (sym (same_endpoint q.belongs.number v q.belongs.here same)) ∙ q.kind)

    met_then : IsAwaitingAt s after then_standing y
    met_then =
        let f = k.mixed.now.framed in
        let describing : IsDescribing w.driver st.descs st.parts =
        record { owners = f.place.sound.owners; driven = f.driven; described = f.described } in
        let awaiting : IsAwaitingAt s wire st y = a.met e y here is is_met in
        event_keeps_awaiting (asking_of y.desc.name.way) st.near (32 * y.queue) (asked_as y.desc) (hub_of s y.desc.hub)
        (place_of s y.desc.hub y.desc.port) opening_base st.member (met w.driver st.recent) w.driver st.descs st.parts st.hand st.frame
        (controller_parts w) wire after event.event.now event.event.later event.event.frame_later describing f.runs event.event.effect
        (asked_is_near st w k.mixed) alone iso_apart unmet (sound_at st w k.mixed e y here is_met)
        (sound_at then_standing new event.mixed e y here is_met)
        (hub_stays (asked_as y.desc).hub (asked_as y.desc).port (hub_of s y.desc.hub) (place_of s y.desc.hub y.desc.port)
        (hubs y.desc opened is))
        (λ dir of. key_spared y.desc opened is (told_key (its_kind (asking_of y.desc.name.way)) dir (asked_as y.desc)))
        (λ code of. hub_heard y.desc opened is (asking_of y.desc.name.way) code (moving y.desc.name.way) of
        (told_key (its_kind (asking_of y.desc.name.way)) (direction_of (pid_at code)) (asked_as y.desc))
        (awaiting.keys (direction_of (pid_at code)) (faces_own (asking_of y.desc.name.way) code of)).ends)
        (moving y.desc.name.way) z_now awaiting

  -- ---- before its open none asks it

  module _ (x : EpDesc) (o : IsOpened s x) (is : is_buffered_below x ≡ true)
      (unused : IsUnused w.driver x.name.way x.name.addr x.name.num) (dir : Dir) (of : faces (asking_of x.name.way) dir) where
    x_served : IsServed s x
    x_served = is_served text s spelled x o

    x_fits : KindIsOfWay x.name.way x.kind
    x_fits = texts_open_fit text s spelled x o

    -- one that may ask so has another name, or is being opened
    opening_it : (f : ℕ) (v : Endpoint) → slice_get w.driver.endpoints f ≡ Some v
        → (v.desc.name.way ≡ way_of_dir dir) ⊎ (v.desc.name.way ≡ ways.Ctl) → v.desc.name.addr ≡ x.name.addr → v.desc.name.num ≡ x.name.num
        → IsOpening w.driver v
    opening_it f v there asks addr num = by (its_dir x.name.way dir of) asks
      where
        v_served : IsServed s v.desc
        v_served = a.served f v there

        v_fits : KindIsOfWay v.desc.name.way v.desc.kind
        v_fits = k.mixed.turns.kinds_fit f v there

        by : (x.name.way ≡ ways.Ctl) ⊎ (x.name.way ≡ way_of_dir dir) → (v.desc.name.way ≡ way_of_dir dir) ⊎ (v.desc.name.way ≡ ways.Ctl)
            → IsOpening w.driver v
        by (inl ctl) (inr too) = unused f v there (too ∙ sym ctl) addr num
        by (inl ctl) (inl other) =
            absurd (numbers_apart x v.desc x_served.named x_fits v_served.named v_fits o v_served.opened ctl
            (λ too. dir_data dir (sym other ∙ too)) num)
        by (inr way) (inl too) = unused f v there (too ∙ sym way) addr num
        by (inr way) (inr ctl) =
            absurd (numbers_apart v.desc x v_served.named v_fits x_served.named x_fits v_served.opened o ctl
            (λ too. dir_data dir (sym way ∙ too)) (sym num))

    unasked : IsUnasked w.driver (way_of_dir dir) (asked_as x)
    unasked = record {
      data_apart = λ f v there its_met its at num.
          unopened_met fixed (sides_of s) st m h w k f v (opening_it f v there (inl its) at num) its_met;
      control_apart = λ f v there its_met its at num.
          unopened_met fixed (sides_of s) st m h w k f v (opening_it f v there (inr its) at num) its_met;
      iso_apart = λ f v there iso its at num. true≢false (sym iso ∙ (opening_it f v there (inl its) at num).queue);
    }

    key_then : KeyStands (told_key (its_kind (asking_of x.name.way)) dir (asked_as x)) (hub_of s x.hub) (place_of s x.hub x.port) wire None
        → KeyStands (told_key (its_kind (asking_of x.name.way)) dir (asked_as x)) (hub_of s x.hub) (place_of s x.hub x.port) after None
    key_then key =
        unasked_leaves_key (its_kind (asking_of x.name.way)) dir st.near (asked_as x) (hub_of s x.hub) (place_of s x.hub x.port) st.descs
        st.parts (in_hand st) wire after (parts_now st.descs st.parts event.event.now) (joined event.event.later event.event.frame_later) None
        (its_way (asking_of x.name.way)) (asked_is_near st w k.mixed)
        (asks_none fixed (sides_of s) st m h w k ways_are dir (asked_as x) unasked)
        (iso_beside fixed (sides_of s) st m h w k ways_are dir (asked_as x) unasked)
        (key_spared x o is (told_key (its_kind (asking_of x.name.way)) dir (asked_as x))) tt z_now key

  fresh_then : (way : Way) → AreFresh w.driver way every_name (FreshKeys s wire way) → AreFresh w.driver way every_name (FreshKeys s after way)
  fresh_then way old addr ep on unused x o is same same_addr same_ep dir of =
      key_then x o is
      (subst (λ (v : Way). IsUnused w.driver v x.name.addr x.name.num) (sym same)
      (subst (λ (n : ℕ). IsUnused w.driver way n x.name.num) (sym same_addr) (subst (IsUnused w.driver way addr) (sym same_ep) unused))) dir of
      (old addr ep on unused x o is same same_addr same_ep dir of)

  pub controlled_awaited : AreAwaited s (standing_then st w (c (fixed_of s) (sides_of s) st m h w k).event) (controller_next (fixed_of s) w)
  controlled_awaited = record {
    served = a.served;
    met = λ e y here is is_met. met_then e y here is is_met;
    fresh = λ way. fresh_then way (a.fresh way);
  }
