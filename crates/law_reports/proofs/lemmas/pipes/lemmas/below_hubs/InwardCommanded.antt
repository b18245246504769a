-- Each command, accepted or refused, leaves a bulk or interrupt IN endpoint below a hub as it must stand.
use Rattle.std.proofs.Common.{◌≡◌, ℕ, ◌*◌, Bool, true, List, length, slice_get, Some, None, Result, Ok, Err, ap, refl, sym, subst}
use Rattle.std.proofs.Common.{◌∙◌, ⊎_elim, inl}
use Rattle.std.specs.Prelude.{◌⊎◌}
use Rattle.std.specs.List.{concat}
use Rattle.law_common.proofs.Lists.{push_which}
use Rattle.law_microframes.proofs.Common.{idle_by}
use Rattle.usb_base.specs.declared.commands.Cmd.{Cmd}
use Rattle.usb_base.specs.declared.endpoints.EpDesc.{EpDesc}
use Rattle.usb_base.specs.declared.packets.Way.TheVariants as ways
use Rattle.usb_base.specs.declared.reports.OfferError.{OfferError}
use Rattle.word_mem.specs.Memory.{Mem}
use Rattle.bus_wire.specs.Bus.{Fixed}
use Rattle.drv_table.specs.declared.content.Endpoint.{Endpoint}
use Rattle.drv_table.specs.Accepting.{Offered}
use Rattle.drv_table.specs.DriverContent.{DriverContent}
use Rattle.drv_table.specs.Offers.{offered, IsOffered}
use Rattle.law_driver.specs.queued_drivers.Queued.{queued_endpoint, queued}
use Rattle.law_driver.proofs.lemmas.queued_drivers.CommandReasons.{reason_of}
use Rattle.law_driver.proofs.lemmas.queued_drivers.RowEvents.{idle_told}
use Rattle.law_driver.proofs.lemmas.run_owners.Commands.{each_command_has_its_reason}
use Rattle.law_driver_ring.specs.fed_queues.Places.{IsThere, IsMet, AreMet}
use Rattle.law_below_hubs.specs.HostEvents.{IsInBehind}
use Rattle.law_world.specs.steps.Streaming.{wired}
use Rattle.law_world.specs.memory.Mixed.{Standing}
use Rattle.law_world.specs.memory.Opens.{OpensMixed}
use Rattle.bus_world.specs.World.{World, name_in, commanded_by, commanded, refused_line}
use Rattle.law_reports.specs.lines.Lined.{in_hand, Lines}
use Rattle.law_reports.specs.pipes.Declared.{Sides}
use Rattle.law_reports.specs.pipes.Piped.{Heads, asked_as, AreFresh, AreLeft, IsPiped}
use Rattle.law_reports.specs.pipes.PipedLaws.{OpensDeclared}
use Rattle.law_reports.specs.pipes.puts.Paid.{Pays}
use Rattle.law_reports.specs.pipes.below_hubs.Behind.{Spots, IsBehind}
use Rattle.law_reports.specs.pipes.below_hubs.Inward.{Inlet, is_inlet, IsInletBy, AreInlets, Unmoved, Begins, IsInward}
use Rattle.law_reports.specs.pipes.below_hubs.InwardLaws.{OpensInlet}
use Rattle.law_reports.proofs.lemmas.pipes.Accepted.{EndsThen, one_more, one_anew, ends_then, was_anew, now_anew}
use Rattle.law_reports.proofs.lemmas.pipes.Across.{ComesOf, WasIn, IsNowIn}
use Rattle.law_reports.proofs.lemmas.pipes.Carried.{was_met, fresh_carried}
use Rattle.law_reports.proofs.lemmas.pipes.Commanded.{commanded_piped, fresh_more}
use Rattle.law_reports.proofs.lemmas.pipes.FollowedCommands.{was_by, refused_left, accepted_left}
use Rattle.law_reports.proofs.lemmas.pipes.Names.{met_near}
use Rattle.law_reports.proofs.lemmas.pipes.lemmas.below_hubs.InwardDriven.{in_begun}

module _ (fixed : Fixed) (x : Sides) (o : Spots) (v : Inlet) (timely : ℕ → Bool) (s : Standing) (m : Lines) (h : Heads)
    (puts : ℕ → List ℕ) (w : World) (k : IsPiped fixed x s m h w) (pays : Pays fixed x s m puts w) (b : IsBehind fixed o s m puts w)
    (i : IsInward fixed v timely s m w) where
  abbrev Left : ℕ → ℕ → List ℕ → Type 0
  Left addr ep = Begins v

  abbrev Stands : ℕ → EpDesc → Type 0
  Stands q c = IsInBehind v.desc.kind v.packets (wired fixed w) v.hub v.place (timely (32 * q)) (concat (m.acc (32 * q))) s.parts
      (in_hand s) (32 * q) (asked_as c)

  -- the driver's content and memory change, and the same queue heads are met
  module _ (f : DriverContent) (mem : Mem) (new : IsPiped fixed x s m h (record w { driver = f; memory = mem }))
      (was : (e : ℕ) (z : Endpoint) → slice_get f.endpoints e ≡ Some z
      → (IsThere (queued f) (queued_endpoint z)) ⊎ (z.gone ≡ true) → WasIn w.driver.endpoints e z) where
    met_then : (e : ℕ) (z : Endpoint) → slice_get f.endpoints e ≡ Some z → z.desc.name.way ≡ ways.In
        → is_inlet v z.desc.name.addr z.desc.name.num ≡ true → IsMet (queued f) e (queued_endpoint z) → Stands z.queue z.desc
    met_then e z here way on is_met =
        let near_now : AreMet (queued f) s.near = new.mixed.queues.queues.met in
        let u = was_met w.driver f s.near s.near k.mixed.now.framed.place.sound.owners k.mixed.queues.queues.met near_now
        (λ j u there its_met. was j u there (inl its_met.there)) e z here is_met (met_near f s.near near_now e z here is_met) in
        let y : Endpoint = u.before.endpoint in
        subst (λ (c : EpDesc). Stands z.queue c) (sym u.before.comes.desc)
        (subst (λ (q : ℕ). Stands q y.desc) (sym u.before.comes.queue)
        (i.met e y u.before.here (ap (λ (c : EpDesc). c.name.way) (sym u.before.comes.desc) ∙ way)
        (ap (λ (c : EpDesc). is_inlet v c.name.addr c.name.num) (sym u.before.comes.desc) ∙ on) u.met))

    pub with_driver : AreInlets v f → AreFresh f ways.In (is_inlet v) (λ addr ep. Unmoved v (wired fixed w))
        → AreLeft f m.acc ways.In (is_inlet v) (λ addr ep. Begins v)
        → IsInward fixed v timely s m (record w { driver = f; memory = mem })
    with_driver inlets fresh left = record {
      claims = i.claims;
      inlets = inlets;
      hub = i.hub;
      met = met_then;
      fresh = fresh;
      left = left;
    }

  -- ---- refused

  itself : (y : Endpoint) → ComesOf y y
  itself y = record { desc = refl; queue = refl; alive = λ kept. kept }

  refused_inward : (line : ℕ) (cmd : Cmd) (why : OfferError) → offered w.driver w.memory cmd ≡ Err why
      → IsPiped fixed x s m h (commanded_by w line (name_in cmd) (Err why))
      → IsInward fixed v timely s m (commanded_by w line (name_in cmd) (Err why))
  refused_inward line cmd why is new =
      let f : DriverContent = refused_line w.driver line (name_in cmd) why in
      with_driver f w.memory new (λ e z here which. record { endpoint = z; here = here; comes = itself z }) i.inlets
      (fresh_carried w.driver f (λ e y here. record { endpoint = y; here = here; comes = itself y }) (λ q opening. opening) ways.In
      (is_inlet v) (λ addr ep. Unmoved v (wired fixed w)) i.fresh)
      (refused_left fixed x s m h w k line cmd why ways.In (is_inlet v) Left (in_begun fixed x o v timely s m h puts w k pays b i) i.left)

  -- ---- accepted

  module _ (line : ℕ) (cmd : Cmd) (f : Offered) (is : offered w.driver w.memory cmd ≡ Ok f) (declares : OpensDeclared x cmd)
      (one : OpensInlet v cmd) (new : IsPiped fixed x s m h (commanded_by w line (name_in cmd) (Ok f))) where
    told_idle : (queued w.driver).command ≡ None
    told_idle = idle_told w.driver (idle_by w.driver w.memory f (each_command_has_its_reason w.driver w.memory cmd f is))

    ends : EndsThen w.driver f.driver cmd
    ends = ends_then w.driver w.memory f cmd (reason_of w.driver w.memory cmd f is)

    inlets_by : (c : Cmd) → OpensInlet v c → EndsThen w.driver f.driver c → AreInlets v f.driver
    inlets_by c opens_it (one_more y asked added kept newest tells) e z here =
        ⊎_elim (λ (at : slice_get w.driver.endpoints e ≡ Some z). i.inlets e z at)
        (λ (own : (e ≡ length w.driver.endpoints) × (z ≡ y)).
        subst (λ (u : Endpoint). IsInletBy v u.desc u.desc.name.way) (sym own.1) (subst (OpensInlet v) asked opens_it))
        (push_which w.driver.endpoints y e z (ap (λ (xs : List Endpoint). slice_get xs e) (sym added) ∙ here))
    inlets_by c opens_it (one_anew j y u at added comes kept never tells) e z here =
        let old : WasIn w.driver.endpoints e z =
        was_anew w.driver.endpoints j y u at comes e z (ap (λ (xs : List Endpoint). slice_get xs e) (sym added) ∙ here) in
        subst (λ (c : EpDesc). IsInletBy v c c.name.way) (sym old.comes.desc) (i.inlets e old.endpoint old.here)

    fresh_by : EndsThen w.driver f.driver cmd → AreFresh f.driver ways.In (is_inlet v) (λ addr ep. Unmoved v (wired fixed w))
    fresh_by (one_more y asked added kept newest tells) =
        fresh_more fixed x s m h w k line cmd f declares new.mixed new.telling new.going new.descriptors y added kept newest
        (subst (OpensDeclared x) asked declares) ways.In (is_inlet v) (λ addr ep. Unmoved v (wired fixed w)) i.fresh
    fresh_by (one_anew j y u at added comes kept never tells) =
        fresh_carried w.driver f.driver
        (λ e t here. subst (λ (xs : List Endpoint). IsNowIn xs e t) (sym added) (now_anew w.driver.endpoints j y u at comes e t here))
        (λ q opening. absurd (never q opening)) ways.In (is_inlet v) (λ addr ep. Unmoved v (wired fixed w)) i.fresh

    accepted_inward : IsInward fixed v timely s m (commanded_by w line (name_in cmd) (Ok f))
    accepted_inward =
        with_driver f.driver f.memory new (was_by fixed x s m h w k f.driver cmd ends) (inlets_by cmd one ends) (fresh_by ends)
        (accepted_left fixed x s m h w k f.driver cmd told_idle ends ways.In (is_inlet v) Left
        (in_begun fixed x o v timely s m h puts w k pays b i) i.left)

  -- ---- any command

  module _ (line : ℕ) (cmd : Cmd) (fits : OpensMixed cmd) (declares : OpensDeclared x cmd) (one : OpensInlet v cmd)
      (room : IsOffered w.driver.room cmd) where
    by_offer : (r : Result Offered OfferError) → offered w.driver w.memory cmd ≡ r
        → IsPiped fixed x s m h (commanded_by w line (name_in cmd) r) → IsInward fixed v timely s m (commanded_by w line (name_in cmd) r)
    by_offer (Err why) is new = refused_inward line cmd why is new
    by_offer (Ok f) is new = accepted_inward line cmd f is declares one new

    pub commanded_inward : IsInward fixed v timely s m (commanded w line cmd)
    commanded_inward = by_offer (offered w.driver w.memory cmd) refl (commanded_piped fixed x s m h w k line cmd fits declares room)
