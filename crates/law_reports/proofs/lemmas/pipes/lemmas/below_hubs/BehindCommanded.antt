-- Each command, accepted or refused, leaves the bulk OUT endpoints below hubs as they must stand, with what was put to them.
use Rattle.std.proofs.Common.{◌≡◌, ℕ, ◌+◌, ◌*◌, ◌<◌, true, List, [], ◌∷◌, ◌++◌, length, slice_get}
use Rattle.std.proofs.Common.{Some, None, Result, Ok, Err, ap, refl, sym, subst, ◌∙◌, ⊎_elim, inl, arith}
use Rattle.std.specs.Prelude.{◌⊎◌}
use Rattle.std.specs.List.{concat}
use Rattle.std.proofs.lemmas.List.{append-nil, length-map}
use Rattle.std.proofs.Output.{concat-append}
use Rattle.law_world.proofs.Common.{begins_both, none_some}
use Rattle.law_common.proofs.Lists.{push_which}
use Rattle.law_microframes.proofs.Common.{idle_by}
use Rattle.usb_base.specs.declared.commands.Cmd.{Cmd}
use Rattle.usb_base.specs.declared.endpoints.EpDesc.{EpDesc}
use Rattle.usb_base.specs.declared.packets.Way.TheVariants as ways
use Rattle.usb_base.specs.declared.reports.OfferError.{OfferError}
use Rattle.word_mem.specs.Memory.{Mem}
use Rattle.bus_wire.specs.Bus.{Fixed}
use Rattle.claims_base.specs.Prefix.{IsPrefix}
use Rattle.drv_table.specs.declared.content.Command.TheVariants as unfinished
use Rattle.drv_table.specs.declared.content.Endpoint.{Endpoint}
use Rattle.drv_table.specs.Accepting.{Offered}
use Rattle.drv_table.specs.DriverContent.{DriverContent}
use Rattle.drv_table.specs.Offers.{offered, IsOffered}
use Rattle.law_driver.specs.queued_drivers.Queued.{queued_endpoint, queued}
use Rattle.law_driver.proofs.lemmas.queued_drivers.CommandReasons.{reason_of}
use Rattle.law_driver.proofs.lemmas.queued_drivers.RowEvents.{idle_told}
use Rattle.law_driver.proofs.lemmas.run_owners.Commands.{each_command_has_its_reason}
use Rattle.law_driver_ring.specs.fed_queues.Places.{IsThere, IsMet, AreMet}
use Rattle.law_world.specs.steps.Streaming.{wired}
use Rattle.law_world.specs.memory.Mixed.{Standing}
use Rattle.law_world.specs.memory.Opens.{OpensMixed}
use Rattle.law_world.specs.streams.put_laws.HeldPuts.{puts_then}
use Rattle.law_world.specs.streams.put_laws.TakenPuts.{puts_of}
use Rattle.law_world.proofs.lemmas.streams.lemmas.put_laws.Stays.{owner_at, owners_in}
use Rattle.law_world.proofs.lemmas.streams.lemmas.put_laws.Steps.{then_before}
use Rattle.law_world.proofs.lemmas.streams.lemmas.put_laws.Sums.{puts_in, by_owners, puts_join, puts_alike}
use Rattle.law_world.proofs.lemmas.streams.lemmas.put_laws.TakenAccepted.{Adds, opens, puts as puts_one, others, IfAccepted, command_adds}
use Rattle.bus_world.specs.World.{World, name_in, commanded_by, commanded, refused_line}
use Rattle.law_reports.specs.lines.Lined.{in_hand, Lines}
use Rattle.law_reports.proofs.lemmas.lines.IsoGoing.{told_apart}
use Rattle.law_reports.specs.pipes.Declared.{Sides}
use Rattle.law_reports.specs.pipes.Piped.{Heads, AreFresh, AreLeft, IsPiped}
use Rattle.law_reports.specs.pipes.PipedLaws.{OpensDeclared}
use Rattle.law_reports.specs.pipes.puts.Paid.{Pays}
use Rattle.law_reports.specs.pipes.below_hubs.Behind.{Spots, IsSpot, AreSpots, sent_in, IsUnsent, Within, HasLeft, IsMetOut, AreInsRight}
use Rattle.law_reports.specs.pipes.below_hubs.Behind.{IsBehind}
use Rattle.law_reports.specs.pipes.below_hubs.BehindLaws.{OpensSpot}
use Rattle.law_reports.specs.quiet.Errors.{PublishesLeft}
use Rattle.law_reports.proofs.lemmas.quiet.Steps.{command_by}
use Rattle.law_reports.proofs.lemmas.pipes.Accepted.{EndsThen, one_more, one_anew, ends_then, was_anew}
use Rattle.law_reports.proofs.lemmas.pipes.Accepted.{now_anew}
use Rattle.law_reports.proofs.lemmas.pipes.Across.{ComesOf, WasIn, IsNowIn}
use Rattle.law_reports.proofs.lemmas.pipes.Carried.{was_met, fresh_carried}
use Rattle.law_reports.proofs.lemmas.pipes.Commanded.{commanded_piped, fresh_more}
use Rattle.law_reports.proofs.lemmas.pipes.Followed.{there_by}
use Rattle.law_reports.proofs.lemmas.pipes.FollowedCommands.{was_by, refused_left, accepted_left}
use Rattle.law_reports.proofs.lemmas.pipes.Names.{queue_same, met_near, name_is}
use Rattle.law_reports.proofs.lemmas.pipes.lemmas.below_hubs.BehindDriven.{begun, left_as}
use Rattle.law_reports.proofs.lemmas.pipes.lemmas.puts.Driving.{puts_real}

-- ---- what was put is more

pub record IsGrown (d f : DriverContent) : Type 0 where
  more : List ℕ
  owners : owners_in f ≡ owners_in d ++ more

grown_by : (d f : DriverContent) (cmd : Cmd) → Adds d cmd f → IsGrown d f
grown_by d f cmd (opens k) = record { more = []; owners = k.owners ∙ sym (append-nil (owners_in d)) }
grown_by d f cmd (puts_one k) = record { more = k.number ∷ []; owners = k.owners }
grown_by d f cmd (others k) = record { more = k.more; owners = k.owners }

module _ (d f : DriverContent) (g : IsGrown d f) (puts now : ℕ → List ℕ)
    (before : (t : ℕ) → t < length d.transfers → now t ≡ puts t) where
  same_before : (e : ℕ) → puts_in now e 0 (owners_in d) ≡ puts_in puts e 0 (owners_in d)
  same_before e =
      puts_alike puts now e 0 (owners_in d)
      (λ t low high. let long = length-map d.transfers owner_at in before t (omega (arith, high, long)))

  pub puts_more : (e : ℕ) (xs : List ℕ) → IsPrefix xs (concat (puts_of (queued d) puts e))
      → IsPrefix xs (concat (puts_of (queued f) now e))
  puts_more e xs begins =
      let old : puts_of (queued d) puts e ≡ puts_in puts e 0 (owners_in d) = puts_real d puts e ∙ by_owners puts e 0 d.transfers in
      let one : puts_of (queued f) now e ≡ puts_in puts e 0 (owners_in d) ++ puts_in now e (0 + length (owners_in d)) g.more =
      puts_real f now e ∙ by_owners now e 0 f.transfers ∙ ap (puts_in now e 0) g.owners ∙ puts_join now e 0 (owners_in d) g.more
      ∙ ap (λ (os : List (List ℕ)). os ++ puts_in now e (0 + length (owners_in d)) g.more) (same_before e) in
      let all : concat (puts_of (queued f) now e)
      ≡ concat (puts_of (queued d) puts e) ++ concat (puts_in now e (0 + length (owners_in d)) g.more) =
      ap concat one ∙ concat-append (puts_in puts e 0 (owners_in d)) (puts_in now e (0 + length (owners_in d)) g.more)
      ∙ ap (λ (os : List (List ℕ)). concat os ++ concat (puts_in now e (0 + length (owners_in d)) g.more)) (sym old) in
      begins_both xs (concat (puts_of (queued d) puts e)) (concat (puts_of (queued f) now e)) begins
      (concat (puts_in now e (0 + length (owners_in d)) g.more), sym all)

module _ (fixed : Fixed) (x : Sides) (o : Spots) (s : Standing) (m : Lines) (h : Heads) (puts : ℕ → List ℕ) (w : World)
    (k : IsPiped fixed x s m h w) (pays : Pays fixed x s m puts w) (b : IsBehind fixed o s m puts w) where
  abbrev Left : ℕ → ℕ → List ℕ → Type 0
  Left = HasLeft o (wired fixed w) (Within puts w.driver)

  -- the driver's content and memory change, and the same queue heads are met
  module _ (f : DriverContent) (mem : Mem) (now : ℕ → List ℕ) (new : IsPiped fixed x s m h (record w { driver = f; memory = mem }))
      (still : (q : ℕ) → (queued w.driver).command ≡ Some (unfinished.Open q) → (queued f).command ≡ Some (unfinished.Open q))
      (was : (e : ℕ) (z : Endpoint) → slice_get f.endpoints e ≡ Some z
      → (IsThere (queued f) (queued_endpoint z)) ⊎ (z.gone ≡ true) → WasIn w.driver.endpoints e z)
      (more : (e : ℕ) (xs : List ℕ) → IsPrefix xs (concat (puts_of (queued w.driver) puts e))
      → IsPrefix xs (concat (puts_of (queued f) now e))) where
    was_there : (e : ℕ) (z : Endpoint) (v : WasIn w.driver.endpoints e z) → IsThere (queued f) (queued_endpoint z)
        → IsThere (queued w.driver) (queued_endpoint v.endpoint)
    was_there e z v there =
        there_by fixed x s m h w k e z v there.kept (λ opening.
        there.linked (still v.endpoint.queue opening
        ∙ ap (λ (q : ℕ). Some (unfinished.Open q)) (sym v.comes.queue ∙ sym (queue_same z))))

    ins_then : AreInsRight s f
    ins_then e z here there way =
        let v : WasIn w.driver.endpoints e z = was e z here (inl there) in
        λ a u there_it on.
        b.ins e v.endpoint v.here (was_there e z v there) (ap (λ (c : EpDesc). c.name.way) (sym v.comes.desc) ∙ way) a u
        (ap (λ (q : ℕ). s.parts (32 * q) a) (sym v.comes.queue) ∙ there_it) on

    met_then : (e : ℕ) (z : Endpoint) → slice_get f.endpoints e ≡ Some z → z.desc.name.way ≡ ways.Out
        → o.has z.desc.name.addr z.desc.name.num ≡ true → IsMet (queued f) e (queued_endpoint z)
        → IsMetOut o (wired fixed w) (concat (m.acc (32 * z.queue))) (concat (puts_of (queued f) now e)) s z
    met_then e z here way on is_met =
        let near_now : AreMet (queued f) s.near = new.mixed.queues.queues.met in
        let v = was_met w.driver f s.near s.near k.mixed.now.framed.place.sound.owners k.mixed.queues.queues.met near_now
        (λ i u there its_met. was i u there (inl its_met.there)) e z here is_met (met_near f s.near near_now e z here is_met) in
        let y : Endpoint = v.before.endpoint in
        let old = b.met e y v.before.here (ap (λ (c : EpDesc). c.name.way) (sym v.before.comes.desc) ∙ way)
        (ap (λ (c : EpDesc). o.has c.name.addr c.name.num) (sym v.before.comes.desc) ∙ on) v.met in
        subst (λ (c : EpDesc). IsMetOut o (wired fixed w) (concat (m.acc (32 * z.queue))) (concat (puts_of (queued f) now e)) s
        (record z { desc = c }))
        (sym v.before.comes.desc)
        (subst (λ (q : ℕ). IsMetOut o (wired fixed w) (concat (m.acc (32 * q))) (concat (puts_of (queued f) now e)) s
        (record z { desc = y.desc; queue = q })) (sym v.before.comes.queue)
        (record { behind = old.behind; within = more e (sent_in (concat (m.acc (32 * y.queue))) old.behind.host.next) old.within }))

    within_then : (e : ℕ) (z : Endpoint) → slice_get f.endpoints e ≡ Some z → z.desc.name.way ≡ ways.Out
        → (IsThere (queued f) (queued_endpoint z)) ⊎ (z.gone ≡ true) → (bs : List ℕ)
        → Within puts w.driver z.desc.name.addr z.desc.name.num bs → Within now f z.desc.name.addr z.desc.name.num bs
    within_then e z here way life bs old i u there its same also =
        let v : WasIn w.driver.endpoints e z = was e z here life in
        let one : i ≡ e = told_apart f (in_hand s) s.parts m.reported new.telling.told i e u z there here
        (name_is u.desc.name z.desc.name same also (its ∙ sym way)) in
        subst (λ (j : ℕ). IsPrefix bs (concat (puts_of (queued f) now j))) (sym one)
        (more e bs (old e v.endpoint v.here (ap (λ (c : EpDesc). c.name.way) (sym v.comes.desc) ∙ way)
        (ap (λ (c : EpDesc). c.name.addr) (sym v.comes.desc)) (ap (λ (c : EpDesc). c.name.num) (sym v.comes.desc))))

    pub with_driver : PublishesLeft f.made f.command → AreSpots o f
        → AreFresh f ways.Out o.has (IsUnsent o (wired fixed w))
        → AreLeft f m.acc ways.Out o.has (HasLeft o (wired fixed w) (Within puts w.driver))
        → IsBehind fixed o s m now (record w { driver = f; memory = mem })
    with_driver first spots fresh left = record {
      ins = ins_then;
      first = first;
      spots = spots;
      hubs = b.hubs;
      met = met_then;
      fresh = fresh;
      left = left_as o (wired fixed w) (Within puts w.driver) (Within now f) f m.acc within_then left;
    }

  -- ---- refused

  itself : (y : Endpoint) → ComesOf y y
  itself y = record { desc = refl; queue = refl; alive = λ kept. kept }

  refused_behind : (line : ℕ) (cmd : Cmd) (why : OfferError) → offered w.driver w.memory cmd ≡ Err why
      → IsPiped fixed x s m h (commanded_by w line (name_in cmd) (Err why))
      → IsBehind fixed o s m (puts_then w.driver cmd puts) (commanded_by w line (name_in cmd) (Err why))
  refused_behind line cmd why is new =
      let f : DriverContent = refused_line w.driver line (name_in cmd) why in
      with_driver f w.memory (puts_then w.driver cmd puts) new (λ q opening. opening)
      (λ e z here which. record { endpoint = z; here = here; comes = itself z })
      (puts_more w.driver f (record { more = []; owners = sym (append-nil (owners_in w.driver)) }) puts (puts_then w.driver cmd puts)
      (then_before w.driver cmd puts))
      (command_by w line cmd (name_in cmd) (Err why) is b.first)
      b.spots
      (fresh_carried w.driver f (λ e y here. record { endpoint = y; here = here; comes = itself y }) (λ q opening. opening) ways.Out o.has
      (IsUnsent o (wired fixed w)) b.fresh)
      (refused_left fixed x s m h w k line cmd why ways.Out o.has Left (begun fixed x o s m h puts w k pays b) b.left)

  -- ---- accepted

  module _ (line : ℕ) (cmd : Cmd) (f : Offered) (is : offered w.driver w.memory cmd ≡ Ok f) (declares : OpensDeclared x cmd)
      (spotted : OpensSpot o cmd) (new : IsPiped fixed x s m h (commanded_by w line (name_in cmd) (Ok f))) where
    idle : w.driver.command ≡ None
    idle = idle_by w.driver w.memory f (each_command_has_its_reason w.driver w.memory cmd f is)

    told_idle : (queued w.driver).command ≡ None
    told_idle = idle_told w.driver idle

    ends : EndsThen w.driver f.driver cmd
    ends = ends_then w.driver w.memory f cmd (reason_of w.driver w.memory cmd f is)

    adds : Adds w.driver cmd f.driver
    adds = subst (IfAccepted (Adds w.driver cmd)) is (command_adds w.driver w.memory cmd)

    spots_by : (c : Cmd) → OpensSpot o c → EndsThen w.driver f.driver c → AreSpots o f.driver
    spots_by c opens_spot (one_more y asked added kept newest tells) e z here =
        ⊎_elim (λ (at : slice_get w.driver.endpoints e ≡ Some z). b.spots e z at)
        (λ (own : (e ≡ length w.driver.endpoints) × (z ≡ y)).
        subst (λ (v : Endpoint). IsSpot o v.desc) (sym own.1) (subst (OpensSpot o) asked opens_spot))
        (push_which w.driver.endpoints y e z (ap (λ (xs : List Endpoint). slice_get xs e) (sym added) ∙ here))
    spots_by c opens_spot (one_anew i y v at added comes kept never tells) e z here =
        let old : WasIn w.driver.endpoints e z =
        was_anew w.driver.endpoints i y v at comes e z (ap (λ (xs : List Endpoint). slice_get xs e) (sym added) ∙ here) in
        subst (IsSpot o) (sym old.comes.desc) (b.spots e old.endpoint old.here)

    fresh_by : EndsThen w.driver f.driver cmd → AreFresh f.driver ways.Out o.has (IsUnsent o (wired fixed w))
    fresh_by (one_more y asked added kept newest tells) =
        fresh_more fixed x s m h w k line cmd f declares new.mixed new.telling new.going new.descriptors y added kept newest
        (subst (OpensDeclared x) asked declares) ways.Out o.has (IsUnsent o (wired fixed w)) b.fresh
    fresh_by (one_anew i y v at added comes kept never tells) =
        fresh_carried w.driver f.driver
        (λ e u here. subst (λ (xs : List Endpoint). IsNowIn xs e u) (sym added) (now_anew w.driver.endpoints i y v at comes e u here))
        (λ q opening. absurd (never q opening)) ways.Out o.has (IsUnsent o (wired fixed w)) b.fresh

    accepted_behind : IsBehind fixed o s m (puts_then w.driver cmd puts) (commanded_by w line (name_in cmd) (Ok f))
    accepted_behind =
        with_driver f.driver f.memory (puts_then w.driver cmd puts) new
        (λ q opening. absurd (none_some (unfinished.Open q) (sym told_idle ∙ opening))) (was_by fixed x s m h w k f.driver cmd ends)
        (puts_more w.driver f.driver (grown_by w.driver f.driver cmd adds) puts
        (puts_then w.driver cmd puts) (then_before w.driver cmd puts))
        (command_by w line cmd (name_in cmd) (Ok f) is b.first)
        (spots_by cmd spotted ends) (fresh_by ends)
        (accepted_left fixed x s m h w k f.driver cmd told_idle ends ways.Out o.has Left (begun fixed x o s m h puts w k pays b) b.left)

  -- ---- any command

  module _ (line : ℕ) (cmd : Cmd) (fits : OpensMixed cmd) (declares : OpensDeclared x cmd) (spotted : OpensSpot o cmd)
      (room : IsOffered w.driver.room cmd) where
    by_offer : (r : Result Offered OfferError) → offered w.driver w.memory cmd ≡ r
        → IsPiped fixed x s m h (commanded_by w line (name_in cmd) r)
        → IsBehind fixed o s m (puts_then w.driver cmd puts) (commanded_by w line (name_in cmd) r)
    by_offer (Err why) is new = refused_behind line cmd why is new
    by_offer (Ok f) is new = accepted_behind line cmd f is declares spotted new

    pub commanded_behind : IsBehind fixed o s m (puts_then w.driver cmd puts) (commanded w line cmd)
    commanded_behind = by_offer (offered w.driver w.memory cmd) refl (commanded_piped fixed x s m h w k line cmd fits declares room)
