-- No other queue head that is met, and no isochronous descriptor, asks an endpoint below a hub in its direction; and none at all an
-- endpoint that isn't met.
use Rattle.std.proofs.Common.{◌≡◌, ◌≢◌, ℕ, ◌+◌, ◌*◌, ◌≤◌, ◌==◌, ◌||◌, Bool, true, false, if◌then◌else◌, List, [], ◌∷◌, slice_get, Some}
use Rattle.std.proofs.Common.{option_map}
use Rattle.std.proofs.Common.{ap, refl, sym, subst, ◌∙◌, ⊎_elim, inl, inr, arith}
use Rattle.std.proofs.lemmas.Bool.{cases_Bool, eqb-true, eq-eqb, false≢true}
use Rattle.std.proofs.lemmas.Option.{same_Some}
use Rattle.usb_base.specs.declared.packets.Ask.{Ask}
use Rattle.usb_base.specs.declared.packets.Dir.{Dir}
use Rattle.usb_base.specs.declared.packets.Dir.TheVariants as Directions
use Rattle.usb_base.specs.declared.packets.EpKind.{EpKind}
use Rattle.usb_base.specs.declared.packets.EpKind.TheVariants as kinds
use Rattle.usb_base.specs.declared.packets.Pid.TheVariants as pids
use Rattle.usb_base.specs.declared.packets.Way.{Way}
use Rattle.usb_base.specs.declared.packets.Way.TheVariants as ways
use Rattle.hub_keys.specs.Keys.{direction_of}
use Rattle.bus_wire.specs.Bus.{Fixed}
use Rattle.claims_report.specs.Streams.{has_stream}
use Rattle.qh_qtd.specs.declared.qtd.Qtd.{Qtd}
use Rattle.claims_driver.specs.Leaving.{HasOwners, leaves_ring, times}
use Rattle.claims_driver.specs.Owners.{EndpointRuns, Views, views_of, IsQueueIn, AreOwned, Owner, Head, QueueHead as QueueOf}
use Rattle.drv_periodic_table.specs.Descriptors.{is_in}
use Rattle.drv_table.specs.declared.content.Endpoint.{Endpoint}
use Rattle.drv_table.specs.DriverContent.{DriverContent}
use Rattle.drv_table.specs.Kinds.{is_iso}
use Rattle.drv_table.specs.Words.{head_block}
use Rattle.drv_periodic_table.specs.Periodic.{is_periodic}
use Rattle.law_driver.specs.endpoint_lives.Lives.{is_one_of, may_meet}
use Rattle.law_driver.specs.queued_drivers.Queued.{IsOfWay, queued}
use Rattle.law_driver.proofs.Common.{not_in_ring, ring_queue}
use Rattle.law_driver.proofs.lemmas.ring_members.Placed.{has_queue, queue_off_head}
use Rattle.law_structures.specs.lent_structures.Structures.{Element}
use Rattle.law_ring.specs.Told.{Endpoint as Told, HasEndpoint}
use Rattle.law_frames.specs.FrameStreams.{AsksIso, IsIsoAsk, of_itd, of_sitd}
use Rattle.law_frames.specs.Met.{AQueue}
use Rattle.law_driver_ring.specs.Inventory.{sort_of, Sort, OfElement, IsDriverOwned, the_list, the_head, a_queue, a_dummy, a_piece}
use Rattle.law_driver_ring.specs.Inventory.{a_buffer}
use Rattle.law_driver_ring.specs.fed_queues.Places.{AreMet, HasHead}
use Rattle.law_descriptors.specs.Both.{both}
use Rattle.law_descriptors.specs.Meeting.{met}
use Rattle.law_below_hubs.specs.HostEvents.{told_key, AsksBack, AsksElse, AsksAlone, IsWalkedAs}
use Rattle.law_below_hubs.specs.HostOpens.{AsksNone}
use Rattle.law_below_hubs.specs.HostOuts.{IsOfOther}
use Rattle.law_world.specs.memory.Mixed.{Standing}
use Rattle.law_microframes.specs.visits.Belonging.{IsQueueAt}
use Rattle.law_microframes.proofs.lemmas.visits.BelongQueues.{queue_belongs}
use Rattle.bus_world.specs.World.{World}
use Rattle.law_reports.specs.lines.Lined.{in_hand, Lines}
use Rattle.law_reports.specs.pipes.Declared.{Sides}
use Rattle.law_reports.specs.pipes.Piped.{Heads, asked_as, IsPiped}
use Rattle.law_reports.specs.pipes.below_hubs.Controlled.{AsksItsWay, AskTheirWays, IsWatched, IsUnasked}
use Rattle.law_reports.proofs.lemmas.lines.IsoGoing.{told_apart}
use Rattle.law_reports.proofs.lemmas.pipes.IsoBeside.{IsNamedIso, itd_named, sitd_named}
use Rattle.law_reports.proofs.lemmas.pipes.Names.{IsMetHead, met_head, kept_as, same_number, name_is}

-- ---- the head of the ring has no qTD

queue_off : (v : Views) (owner : ℕ → Owner) (e : ℕ) (z : EndpointRuns) → AreOwned v owner → IsQueueIn v e z
    → 32 * z.queue ≢ 32 * head_block
queue_off v owner e z owned is alike =
    let at : z.queue ≡ head_block = omega (arith, alike) in
    never (sym (owned.queue e z is.here is.queued).owned ∙ ap owner at ∙ owned.head.owned)
  where
    never : QueueOf e ≡ Head → ⊥
    never one = cc

none_owned : (v : Views) (owner : ℕ → Owner) (n a : ℕ) (k : Sort) → AreOwned v owner → n ≡ 32 * head_block → k ≡ OfElement
    → IsDriverOwned v n a k → ⊥
none_owned v owner _ _ _ owned at kind the_list = absurd cc
none_owned v owner _ _ _ owned at kind the_head = absurd cc
none_owned v owner _ _ _ owned at kind (a_queue f z is lent) = absurd cc
none_owned v owner _ _ _ owned at kind (a_dummy f z is lent) = queue_off v owner f z owned is at
none_owned v owner _ _ _ owned at kind (a_piece t b y z is piece lent) = queue_off v owner y.endpoint z owned is.queue at
none_owned v owner _ _ _ owned at kind (a_buffer t b c cs y z is piece first lent) = absurd cc

-- ---- directions

abbrev pub way_of_dir : Dir → Way
way_of_dir Directions.In = ways.In
way_of_dir Directions.Out = ways.Out

iso_token : (b : Bool) → direction_of (if b then pids.In else pids.Out) ≡ (if b then Directions.In else Directions.Out)
iso_token true = refl
iso_token false = refl

in_out : Directions.In ≡ Directions.Out → ⊥
in_out e = cc

iso_way : (dir : Dir) (way : Way) → (way ≡ ways.Ctl → ⊥) → (if is_in way then Directions.In else Directions.Out) ≡ dir
    → way ≡ way_of_dir dir
iso_way Directions.In ways.In unless is = refl
iso_way Directions.In ways.Out unless is = absurd (in_out (sym is))
iso_way Directions.Out ways.In unless is = absurd (in_out is)
iso_way Directions.Out ways.Out unless is = refl
iso_way dir ways.Ctl unless is = absurd (unless refl)

stream_iso : (kind : EpKind) → has_stream kind ≡ true → is_iso kind ≡ true → ⊥
stream_iso kinds.Iso streams iso = false≢true streams
stream_iso kinds.Bulk streams iso = false≢true iso
stream_iso kinds.Interrupt streams iso = false≢true iso
stream_iso kinds.Control streams iso = false≢true iso

bulk_interrupt : kinds.Bulk ≡ kinds.Interrupt → ⊥
bulk_interrupt e = cc

-- the ring meets no periodic endpoint (4.8)
one_counts : (e : ℕ) (es : List ℕ) → is_one_of e es ≡ true → 1 ≤ times e es
one_counts e [] is = absurd (false≢true is)
one_counts e (x ∷ xs) is = by (one_counts e xs) (e == x) refl
  where
    by : (is_one_of e xs ≡ true → 1 ≤ times e xs) → (b : Bool) → (e == x) ≡ b → 1 ≤ times e (x ∷ xs)
    by more true same =
        let one : (x == e) ≡ true = eq-eqb x e (sym (eqb-true e x same)) in
        rw one (omega arith)
    by more false differs =
        let later = more (sym (ap (λ (b : Bool). b || is_one_of e xs) differs) ∙ is) in
        omega (arith, later)

pub none_ringed : (d : DriverContent) (e : ℕ) (x : Endpoint) → HasOwners d → slice_get d.endpoints e ≡ Some x
    → is_periodic x.desc.kind ≡ true → may_meet d e x ≡ true → ⊥
none_ringed d e x has here periodic near = by x.linked refl
  where
    none : times e d.waiting + times e d.rung + times e d.cleared ≤ 0
    none = subst (λ (n : ℕ). times e d.waiting + times e d.rung + times e d.cleared ≤ n) (ap leaves_ring here ∙ not_in_ring x periodic)
        (has.orderly.leaving e)

    counted : (a b : Bool) → (a ≡ true → 1 ≤ times e d.waiting) → (b ≡ true → 1 ≤ times e d.rung) → (a || b) ≡ true → ⊥
    counted true b one other is = let n = one refl in omega (arith, none, n)
    counted false true one other is = let n = other refl in omega (arith, none, n)
    counted false false one other is = false≢true is

    by : (b : Bool) → x.linked ≡ b → ⊥
    by true on = false≢true (sym ((has.orderly.steady e x here).ring on) ∙ periodic)
    by false off =
        counted (is_one_of e d.waiting) (is_one_of e d.rung) (one_counts e d.waiting) (one_counts e d.rung)
        (sym (ap (λ (b : Bool). b || (is_one_of e d.waiting || is_one_of e d.rung)) off) ∙ near)

-- endpoint x, by its device's address and its number
module _ (fixed : Fixed) (sides : Sides) (s : Standing) (m : Lines) (h : Heads) (w : World) (k : IsPiped fixed sides s m h w)
    (ways_are : AskTheirWays s w.driver) (dir : Dir) (x : Told) where
  owners : HasOwners w.driver
  owners = k.mixed.now.framed.place.sound.owners

  near_are : AreMet (queued w.driver) s.near
  near_are = k.mixed.queues.queues.met

  -- ---- queue heads

  named_at : (n : ℕ) → s.near n ≡ true → HasEndpoint s.parts n (h.ends n)
  named_at n on = by (h.ins n) refl
    where
      by : (b : Bool) → h.ins n ≡ b → HasEndpoint s.parts n (h.ends n)
      by true is = (k.pipes.in_pipes.pipes n is).named
      by false is = (k.pipes.in_pipes.others n on is).0

  head_none : (n a : ℕ) (t : Qtd) → n ≡ 32 * head_block → s.parts n a ≡ Some (Element t) → ⊥
  head_none n a t at here =
      none_owned (views_of w.driver) owners.owner n a OfElement owners.owned.each at refl
      (k.mixed.now.framed.driven.only n a OfElement (ap (option_map sort_of) here))

  no_elements : (its : Dir) (n : ℕ) → n ≡ 32 * head_block → AsksBack its (s.parts n)
  no_elements Directions.In n at = λ a t here on. absurd (head_none n a t at here)
  no_elements Directions.Out n at = λ a t here on. absurd (head_none n a t at here)

  abbrev Never : Way → Endpoint → Type 0
  Never way v = v.desc.name.way ≡ way → v.desc.name.addr ≡ x.addr → v.desc.name.num ≡ x.ep → ⊥

  else_by : (its : Dir) → its ≡ dir → (n : ℕ) (v : Endpoint) → Never (way_of_dir dir) v → Never ways.Ctl v → (way : Way)
      → v.desc.name.way ≡ way → AsksItsWay (s.parts n) way → AsksElse its (s.parts n) x (asked_as v.desc)
  else_by Directions.In is n v never control ways.Out at asks = inr asks
  else_by Directions.Out is n v never control ways.In at asks = inr asks
  else_by Directions.In is n v never control ways.In at asks = inl (λ addr num. never (at ∙ ap way_of_dir is) (sym addr) (sym num))
  else_by Directions.Out is n v never control ways.Out at asks = inl (λ addr num. never (at ∙ ap way_of_dir is) (sym addr) (sym num))
  else_by its is n v never control ways.Ctl at asks = inl (λ addr num. control at (sym addr) (sym num))

  pub asks_else : (n : ℕ) → s.near n ≡ true
      → ((v : IsMetHead w.driver n) → Never (way_of_dir dir) v.endpoint × Never ways.Ctl v.endpoint)
      → (y : Told) × HasEndpoint s.parts n y × AsksElse dir (s.parts n) x y
  asks_else n on never =
      ⊎_elim (λ (at : n ≡ 32 * head_block). (h.ends n, named_at n on, inr (no_elements dir n at)))
      (λ (v : IsMetHead w.driver n). (
        asked_as v.endpoint.desc,
        subst (HasEndpoint s.parts n) (ap h.ends v.at ∙ k.named v.number v.endpoint v.here v.met) (named_at n on),
        else_by dir refl n v.endpoint (never v).0 (never v).1 v.endpoint.desc.name.way refl
            (subst (λ (i : ℕ). AsksItsWay (s.parts i) v.endpoint.desc.name.way) (sym v.at) (ways_are v.number v.endpoint v.here v.met)),
      ))
      (met_head w.driver s.near near_are n on)

  -- ---- isochronous descriptors

  iso_data : (f : ℕ) (v : Endpoint) → slice_get w.driver.endpoints f ≡ Some v → is_iso v.desc.kind ≡ true → v.desc.name.way ≡ ways.Ctl → ⊥
  iso_data f v there iso ctl = by v.desc.name.way ctl (k.mixed.turns.kinds_fit f v there)
    where
      by : (way : Way) → way ≡ ways.Ctl → IsOfWay way v.desc.kind → ⊥
      by ways.Ctl is control = false≢true (ap is_iso (sym control) ∙ iso)
      by ways.In is control = cc
      by ways.Out is control = cc

  module _ (none : (f : ℕ) (v : Endpoint) → slice_get w.driver.endpoints f ≡ Some v → is_iso v.desc.kind ≡ true
      → Never (way_of_dir dir) v) where
    iso_other : (addr ep : ℕ) (inward : Bool) (ask : Ask) → IsNamedIso w.driver addr ep inward → AsksIso addr ep inward ask
        → IsOfOther (told_key kinds.Bulk dir x) ask
    iso_other addr ep inward ask i a way at num =
        let v : Endpoint = i.endpoint in
        let by_way : (if is_in v.desc.name.way then Directions.In else Directions.Out) ≡ dir =
        ap (λ (b : Bool). if b then Directions.In else Directions.Out) (sym i.named.way) ∙ sym (iso_token inward)
        ∙ ap direction_of (sym a.token) ∙ way in
        none i.number v i.here i.iso (iso_way dir v.desc.name.way (iso_data i.number v i.here i.iso) by_way)
        (sym i.named.address ∙ sym a.address ∙ at) (sym i.named.number ∙ sym a.number ∙ num)

    pub iso_asks_other : (ask : Ask) → IsIsoAsk (both s.descs s.parts) ask → IsOfOther (told_key kinds.Bulk dir x) ask
    iso_asks_other ask (of_itd n v here a) =
        iso_other v.addr v.ep v.dir_in ask (itd_named sides s w k.mixed k.declared k.descriptors n v here) a
    iso_asks_other ask (of_sitd n v here a) =
        iso_other v.addr v.ep v.dir_in ask (sitd_named sides s w k.mixed k.declared k.descriptors n v here) a

-- ---- an endpoint that is met

module _ (fixed : Fixed) (sides : Sides) (s : Standing) (m : Lines) (h : Heads) (w : World) (k : IsPiped fixed sides s m h w)
    (ways_are : AskTheirWays s w.driver) (dir : Dir) (e : ℕ) (y : Endpoint) (kind : EpKind) (streams : has_stream kind ≡ true)
    (one : IsWatched w.driver kind (way_of_dir dir) e y) where
  -- another endpoint has another name
  named_apart : (f : ℕ) (v : Endpoint) → slice_get w.driver.endpoints f ≡ Some v → v.desc.name.way ≡ way_of_dir dir
      → v.desc.name.addr ≡ y.desc.name.addr → v.desc.name.num ≡ y.desc.name.num → f ≡ e
  named_apart f v there way addr num =
      told_apart w.driver (in_hand s) s.parts m.reported k.telling.told f e v y there one.here
      (name_is v.desc.name y.desc.name addr num (way ∙ sym one.way_is))

  same_endpoint : (f : ℕ) (v : Endpoint) → slice_get w.driver.endpoints f ≡ Some v → f ≡ e → v ≡ y
  same_endpoint f v there is = same_Some v y (sym there ∙ ap (slice_get w.driver.endpoints) is ∙ one.here)

  pub asks_alone : AsksAlone dir s.near s.parts (32 * y.queue) (asked_as y.desc)
  asks_alone n on differs =
      asks_else fixed sides s m h w k ways_are dir (asked_as y.desc) n on (λ v. (
        λ way addr num. differs (v.at ∙ ap (λ (z : Endpoint). 32 * z.queue) (same_endpoint v.number v.endpoint v.here
            (named_apart v.number v.endpoint v.here way addr num))),
        one.alone v.number v.endpoint v.here,
      ))

  pub iso_aside : (ask : Ask) → IsIsoAsk (both s.descs s.parts) ask → IsOfOther (told_key kinds.Bulk dir (asked_as y.desc)) ask
  iso_aside =
      iso_asks_other fixed sides s m h w k ways_are dir (asked_as y.desc) (λ f v there iso way addr num.
      stream_iso y.desc.kind (ap has_stream one.kind_is ∙ streams)
      (ap (λ (z : Endpoint). is_iso z.desc.kind) (sym (same_endpoint f v there (named_apart f v there way addr num))) ∙ iso))

  unmet_by_frames : kind ≡ kinds.Bulk → met w.driver s.recent (32 * y.queue) ≡ Some AQueue → ⊥
  unmet_by_frames bulk on =
      let q : IsQueueAt w.driver (32 * y.queue) = queue_belongs s w (32 * y.queue) k.mixed on in
      let v : Endpoint = q.belongs.endpoint in
      let same : q.belongs.number ≡ e =
      same_number w.driver k.mixed.now.framed.place.sound.owners q.belongs.number e v y q.belongs.here one.here
      (q.belongs.kept, ap is_iso q.kind) (kept_as y one.met.there.kept) (sym q.name) in
      bulk_interrupt
      (sym (one.kind_is ∙ bulk) ∙ ap (λ (z : Endpoint). z.desc.kind) (sym (same_endpoint q.belongs.number v q.belongs.here same)) ∙ q.kind)

  unmet_by_ring : kind ≡ kinds.Interrupt → s.member (32 * y.queue) ≡ true → ⊥
  unmet_by_ring periodic on =
      ⊎_elim
      (λ (at : 32 * y.queue ≡ 32 * head_block).
      let kept = kept_as y one.met.there.kept in
      let off = queue_off_head w.driver e y k.mixed.now.framed.place.sound.owners one.here (has_queue y kept.1 kept.0) in
      off (omega (arith, at)))
      (λ (h : HasHead w.driver (32 * y.queue)).
      ⊎_elim
      (λ (frames : is_periodic h.endpoint.desc.kind ≡ true).
      none_ringed w.driver h.number h.endpoint k.mixed.now.framed.place.sound.owners h.here frames h.met.near)
      (λ (ring : is_periodic h.endpoint.desc.kind ≡ false).
      let same : h.number ≡ e =
      same_number w.driver k.mixed.now.framed.place.sound.owners h.number e h.endpoint y h.here one.here
      (h.met.there.kept, ring_queue h.endpoint.desc.kind ring) (kept_as y one.met.there.kept) (sym h.at) in
      let is : h.endpoint ≡ y = same_endpoint h.number h.endpoint h.here same in
      false≢true (sym ring ∙ ap (λ (z : Endpoint). is_periodic z.desc.kind) is ∙ ap is_periodic (one.kind_is ∙ periodic)))
      (cases_Bool (is_periodic h.endpoint.desc.kind)))
      (k.mixed.ring.only (32 * y.queue) on)

  -- its kind's walk alone meets it
  pub walked_as : IsWalkedAs kind s.member (met w.driver s.recent) (32 * y.queue)
  walked_as = by kind refl
    where
      by : (z : EpKind) → kind ≡ z → IsWalkedAs z s.member (met w.driver s.recent) (32 * y.queue)
      by kinds.Bulk is = unmet_by_frames is
      by kinds.Interrupt is = unmet_by_ring is
      by kinds.Control is = absurd (false≢true (ap has_stream (sym is) ∙ streams))
      by kinds.Iso is = absurd (false≢true (ap has_stream (sym is) ∙ streams))

-- ---- an endpoint that isn't met

module _ (fixed : Fixed) (sides : Sides) (s : Standing) (m : Lines) (h : Heads) (w : World) (k : IsPiped fixed sides s m h w)
    (ways_are : AskTheirWays s w.driver) (dir : Dir) (x : Told) (u : IsUnasked w.driver (way_of_dir dir) x) where
  pub asks_none : AsksNone dir s.near s.parts x
  asks_none n on =
      asks_else fixed sides s m h w k ways_are dir x n on (λ v.
      (u.data_apart v.number v.endpoint v.here v.met, u.control_apart v.number v.endpoint v.here v.met))

  pub iso_beside : (ask : Ask) → IsIsoAsk (both s.descs s.parts) ask → IsOfOther (told_key kinds.Bulk dir x) ask
  iso_beside = iso_asks_other fixed sides s m h w k ways_are dir x u.iso_apart
