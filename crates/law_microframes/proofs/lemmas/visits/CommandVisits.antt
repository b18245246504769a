-- The visits go on with each command, accepted or refused: it stores nothing that may be met, and whatever it begins to link or unlink has no store yet.
use Rattle.std.proofs.Common.{◌≡◌, ℕ, ◌-◌, true, List, take, ◌∷◌, [], length, slice_get, Some, ap, refl, sym, subst, ◌∙◌}
use Rattle.std.specs.Prelude.{is_some, slice_index, Result, Ok, Err}
use Rattle.law_world.proofs.Common2.{linking_led, next_led}
use Rattle.law_common.proofs.Lists.{still_there}
use Rattle.usb_base.specs.declared.commands.Cmd.{Cmd}
use Rattle.usb_base.specs.declared.reports.OfferError.{OfferError}
use Rattle.drv_chains.specs.declared.members.Member.{Member}
use Rattle.drv_periodic_table.specs.Periodic.{is_periodic, queue_member}
use Rattle.drv_table.specs.declared.content.Command.TheVariants as unfinished
use Rattle.drv_table.specs.declared.content.Endpoint.{Endpoint}
use Rattle.drv_table.specs.DriverContent.{DriverContent}
use Rattle.drv_table.specs.Accepting.{Offered, new_runs}
use Rattle.drv_table.specs.Offers.{IsOffered, offered, new_endpoint, placed_endpoint, with_queued, new_transfer, accepted_iso}
use Rattle.drv_table.specs.CancelOffers.{first_end, endpoint_members, with_cancel}
use Rattle.law_driver.specs.run_owners.Accepts.{Accepts, opens, chains, places, transfers, describes, cancels, unchains}
use Rattle.claims_base.specs.Controller.{opening_base}
use Rattle.law_driver.proofs.lemmas.run_owners.Commands.{each_command_has_its_reason}
use Rattle.law_descriptors.specs.Both.{both}
use Rattle.drv_periodic.specs.Periodic.{Periodic}
use Rattle.claims_driver.specs.Unlinked.{led_in}
use Rattle.law_descriptors.specs.Meeting.{met}
use Rattle.law_descriptors.specs.Recent.{AreRecent}
use Rattle.law_descriptors.specs.Told.{with_memory}
use Rattle.bus_world.specs.World.{World, controller_parts, name_in, commanded_by, commanded}
use Rattle.law_world.specs.memory.framed_memory.Now.{IsFramedNow}
use Rattle.law_world.specs.memory.Mixed.{Standing, IsMixedAt}
use Rattle.law_world.proofs.lemmas.memory.CommandMemory.{placed_now, described_now}
use Rattle.law_world.proofs.lemmas.memory.lemmas.framed_memory.Chained.{chain_keeps_now}
use Rattle.law_world.proofs.lemmas.memory.lemmas.framed_memory.Now.{now_has_frames}
use Rattle.law_world.proofs.lemmas.memory.lemmas.framed_memory.QueueAccepting.{open_keeps_now, transfer_keeps_now, cancel_keeps_now, unchain_keeps_now}
use Rattle.law_world.proofs.lemmas.memory.lemmas.framed_memory.StillStanding.{IsThereStill, pushed_still, set_still, recent_still, unchain_recent_still, described_recent}
use Rattle.law_frames.specs.Met.{Kind}
use Rattle.law_microframes.specs.visits.Belonging.{IsQueueAt, IsStillAt}
use Rattle.law_microframes.specs.visits.Ranks.{next_of}
use Rattle.law_microframes.specs.visits.DriverVisitLaws.{CommandLeavesVisits}
use Rattle.law_microframes.specs.visits.Visited.{NewIsFirst, IsGoneOn, VisitsGoOnAt}
use Rattle.law_microframes.proofs.lemmas.visits.ActiveBefore.{command_before}
use Rattle.law_microframes.proofs.lemmas.visits.NewFirst.{linking_first, next_first}
use Rattle.law_microframes.proofs.lemmas.visits.DriverGoesOn.{IsListSpread, LeavesMembers, gone_on}
use Rattle.law_microframes.proofs.lemmas.visits.DriverVisits.{half_led}
use Rattle.law_microframes.proofs.lemmas.visits.FramedThere.{command_framed}
use Rattle.law_microframes.proofs.lemmas.visits.InFrames.{same_back}
use Rattle.law_microframes.proofs.lemmas.visits.InFramesCommands.{command_back}
use Rattle.law_microframes.proofs.lemmas.visits.OwnSteps.{same_list, linking_half, linking_kept, next_half, next_kept, ended_list}
use Rattle.law_microframes.proofs.lemmas.visits.ToldLinks.{HasOwn, own_met, told_same}

module _ (s : Standing) (w : World) (k : IsMixedAt s w) (start : World) (vs : List ℕ) (v : VisitsGoOnAt s start w vs) (line : ℕ) (cmd : Cmd) where
  module _ (o : Offered) (room : IsOffered w.driver.room cmd) (is : offered w.driver w.memory cmd ≡ Ok o) where
    abbrev d : DriverContent
    d = w.driver

    reason : Accepts w.driver w.memory o
    reason = each_command_has_its_reason w.driver w.memory cmd o is

    abbrev Now : Type 0
    Now = IsFramedNow opening_base s.member s.recent s.descs s.parts s.hand s.frame (with_memory (controller_parts w) o.memory) o.driver

    now_by : Accepts w.driver w.memory o → Now
    now_by (opens why) = open_keeps_now opening_base s.member s.recent s.descs s.parts s.hand s.frame (controller_parts w) w.driver cmd o k.now why room is
    now_by (chains why) = chain_keeps_now opening_base s.member s.recent s.descs s.parts s.hand s.frame (controller_parts w) w.driver cmd o k.now why room is
    now_by (places why) = placed_now opening_base s.member s.recent s.descs s.parts s.hand s.frame (controller_parts w) w.driver cmd o k.now why room is
    now_by (transfers why) = transfer_keeps_now opening_base s.member s.recent s.descs s.parts s.hand s.frame (controller_parts w) w.driver cmd o k.now why room is
    now_by (describes why) = described_now opening_base s.member s.recent s.descs s.parts s.hand s.frame (controller_parts w) w.driver cmd o k.now why room is
    now_by (cancels why) = cancel_keeps_now opening_base s.member s.recent s.descs s.parts s.hand s.frame (controller_parts w) w.driver cmd o k.now why room is
    now_by (unchains why) = unchain_keeps_now opening_base s.member s.recent s.descs s.parts s.hand s.frame (controller_parts w) w.driver cmd o k.now why room is

    now : Now
    now = now_by reason

    spread : IsListSpread w.driver
    spread = (now_has_frames opening_base s.member s.recent s.descs s.parts s.hand s.frame (controller_parts w) w.driver k.now).spread

    spread_now : IsListSpread o.driver
    spread_now = (now_has_frames opening_base s.member s.recent s.descs s.parts s.hand s.frame (with_memory (controller_parts w) o.memory) o.driver now).spread

    links : (n : ℕ) → v.visits.kept n ≡ true → next_of o.memory n ≡ next_of w.memory n
    links n on =
        let there = v.within n on in
        let own : HasOwn (both s.descs s.parts) n = own_met (met w.driver s.recent) (both s.descs s.parts) n there.0 (k.now.framed.runs.members n there.0 there.1) in
        told_same w.memory o.memory (both s.descs s.parts) (both s.descs s.parts) n k.now.framed.runs.ring.tells now.framed.runs.ring.tells own refl

    -- ---- the members

    leaves_by : Accepts w.driver w.memory o → LeavesMembers w.driver o.driver
    leaves_by (opens why) = same_list w.driver o.driver (ap (λ (f : Offered). f.driver.periodic.list) why.is)
    leaves_by (chains why) =
        subst (λ (f : Offered). LeavesMembers w.driver f.driver) (sym why.is)
        (record {
          led_same = linking_led w.driver.periodic.list (queue_member (slice_index (new_runs w.driver why.holding_after) 0) why.placement) k.now.framed.list.list.order.kept;
          half = λ x under adds made. linking_half w.driver.periodic.list (queue_member (slice_index (new_runs w.driver why.holding_after) 0) why.placement) x under adds made;
          under = λ x under. linking_kept w.driver.periodic.list
              (queue_member (slice_index (new_runs w.driver why.holding_after) 0) why.placement) x under;
          first = λ old. linking_first w.driver.periodic.list (queue_member (slice_index (new_runs w.driver why.holding_after) 0) why.placement) old;
        })
    leaves_by (places why) = same_list w.driver o.driver (ap (λ (f : Offered). f.driver.periodic.list) why.is)
    leaves_by (transfers why) = same_list w.driver o.driver (ap (λ (f : Offered). f.driver.periodic.list) why.is)
    leaves_by (describes why) = same_list w.driver o.driver (ap (λ (f : Offered). f.driver.periodic.list) why.is)
    leaves_by (cancels why) = same_list w.driver o.driver (ap (λ (f : Offered). f.driver.periodic.list) why.is)
    leaves_by (unchains why) =
        let ms : List Member = endpoint_members w.driver why.number why.endpoint why.placement in
        let f : DriverContent = with_cancel w.driver why.number why.endpoint ms in
        subst (λ (g : Offered). LeavesMembers w.driver g.driver) (sym why.is)
        (record {
          led_same = ap led_in (ended_list f (unfinished.Unchain why.number)) ∙ next_led true (record w.driver.periodic { queued = ms }) k.now.framed.list.list.order.kept;
          half = λ x under adds made.
              next_half true (record w.driver.periodic { queued = ms }) x (sym (ap (λ (p : Periodic). p.work) (ended_list f (unfinished.Unchain why.number))) ∙ under) adds made;
          under = λ x under.
              ap (λ (p : Periodic). p.work)
              (ended_list f (unfinished.Unchain why.number) ∙ next_kept true (record w.driver.periodic { queued = ms }) x under)
              ∙ under;
          first = λ old. subst NewIsFirst (sym (ended_list f (unfinished.Unchain why.number))) (next_first true (record w.driver.periodic { queued = ms }) old);
        })

    -- ---- what was unlinked in this microframe

    recent_by : Accepts w.driver w.memory o → AreRecent o.driver w.registers.frame_index v.visits.left
    recent_by (opens why) =
        let new : Endpoint = new_endpoint why.desc (slice_index (new_runs w.driver why.holding_after) 0) (slice_index (new_runs w.driver why.holding_after) 1) in
        recent_still w.driver o.driver v.visits.left w.registers.frame_index why.idle
        (λ e x at. subst (λ (f : Offered). IsThereStill f.driver.endpoints e x) (sym why.is) (pushed_still w.driver.endpoints (new ∷ []) e x at))
        (λ t y at. ap (λ (f : Offered). slice_get f.driver.transfers t) why.is ∙ at) (ap (λ (f : Offered). f.driver.periodic.removals) why.is) v.visits.left_are
    recent_by (chains why) =
        let new : Endpoint
        = placed_endpoint why.desc why.placement (slice_index (new_runs w.driver why.holding_after) 0) (slice_index (new_runs w.driver why.holding_after) 1) in
        recent_still w.driver o.driver v.visits.left w.registers.frame_index why.idle
        (λ e x at. subst (λ (f : Offered). IsThereStill f.driver.endpoints e x) (sym why.is) (pushed_still w.driver.endpoints (new ∷ []) e x at))
        (λ t y at. ap (λ (f : Offered). slice_get f.driver.transfers t) why.is ∙ at) (ap (λ (f : Offered). f.driver.periodic.removals) why.is) v.visits.left_are
    recent_by (places why) =
        subst (λ (f : Offered). AreRecent f.driver w.registers.frame_index v.visits.left) (sym why.is)
        (recent_still w.driver (accepted_iso w.driver why.desc why.placement) v.visits.left w.registers.frame_index why.idle
        (pushed_still w.driver.endpoints (placed_endpoint why.desc why.placement 0 0 ∷ [])) (λ t y there. there) refl v.visits.left_are)
    recent_by (transfers why) =
        let dummy : ℕ = slice_index (take (length why.asked.stages) (new_runs w.driver why.holding_after)) (length why.asked.stages - 1) in
        recent_still w.driver o.driver v.visits.left w.registers.frame_index why.idle
        (λ e x at.
        subst (λ (f : Offered). IsThereStill f.driver.endpoints e x) (sym why.is)
        (set_still w.driver.endpoints why.number why.endpoint (with_queued why.endpoint dummy (length w.driver.transfers)) why.here refl refl e x at))
        (λ t y at.
        subst (λ (f : Offered). slice_get f.driver.transfers t ≡ Some y) (sym why.is) (still_there w.driver.transfers (new_transfer why.number why.asked why.endpoint.dummy ∷ []) t y at))
        (ap (λ (f : Offered). f.driver.periodic.removals) why.is) v.visits.left_are
    recent_by (describes why) = described_recent w.driver w.memory o why v.visits.left w.registers.frame_index v.visits.left_are
    recent_by (cancels why) =
        let x : Endpoint = why.endpoint in
        recent_still w.driver o.driver v.visits.left w.registers.frame_index why.idle
        (λ e z at.
        subst (λ (f : Offered). IsThereStill f.driver.endpoints e z) (sym why.is)
        (set_still w.driver.endpoints why.number x (record x { cancelled = true; ended = first_end x.ended }) why.here refl refl e z at))
        (λ t y at. ap (λ (f : Offered). slice_get f.driver.transfers t) why.is ∙ at) (ap (λ (f : Offered). f.driver.periodic.removals) why.is) v.visits.left_are
    recent_by (unchains why) =
        let sound = k.now.framed.place.sound in
        let x : Endpoint = why.endpoint in
        let periodic : is_periodic x.desc.kind ≡ true = sym (sound.owners.orderly.steady why.number x why.here).placed ∙ ap is_some why.placed in
        subst (λ (g : Offered). AreRecent g.driver w.registers.frame_index v.visits.left) (sym why.is)
        (unchain_recent_still w.driver why.number x (endpoint_members w.driver why.number x why.placement) v.visits.left w.registers.frame_index why.idle why.here
        (sound.listed.list.kept why.number x why.here periodic why.fresh) v.visits.left_are)

    back : (n : ℕ) (kind : Kind) → met w.driver v.visits.left n ≡ Some kind → (b : IsQueueAt o.driver n) → IsStillAt b w.driver
    back n kind on b = command_back s w k v.visits.left v.visits.left_are cmd o is now.framed.place.sound.owners n kind on b

    accepted_visits : IsGoneOn start w (record w { driver = o.driver; memory = o.memory }) vs
    accepted_visits =
        gone_on start w (record w { driver = o.driver; memory = o.memory }) vs v.visits spread spread_now (half_led s w k start vs v)
        (record {
          leaves = leaves_by reason;
          links = links;
          left_are = recent_by reason;
          control = refl;
          kept_stay = λ n on. let there = v.left_within n on in back n there.0 there.1;
          met_stay = back;
          kept_framed = λ n x on framed.
              (let there = v.left_within n on in command_framed s w k o v.visits.left n there.0 x v.visits.left_are there.1 framed reason);
          met_framed = λ n kind x on framed. command_framed s w k o v.visits.left n kind x v.visits.left_are on framed reason;
          starts_none = λ e f n on. let there = v.within n on in command_before s w k cmd o is reason e f n there.0 there.1;
        })

  refused_visits : (why : OfferError) → IsGoneOn start w (commanded_by w line (name_in cmd) (Err why)) vs
  refused_visits why =
      let new : World = commanded_by w line (name_in cmd) (Err why) in
      let listed : IsListSpread w.driver = (now_has_frames opening_base s.member s.recent s.descs s.parts s.hand s.frame (controller_parts w) w.driver k.now).spread in
      gone_on start w new vs v.visits listed listed (half_led s w k start vs v)
      (record {
        leaves = same_list w.driver new.driver refl;
        links = λ n on. refl;
        left_are = v.visits.left_are;
        control = refl;
        kept_stay = λ n on. same_back w.driver new.driver k.now.planned refl refl n;
        met_stay = λ n kind on. same_back w.driver new.driver k.now.planned refl refl n;
        kept_framed = λ n x on framed. framed;
        met_framed = λ n kind x on framed. framed;
        starts_none = λ e f n on a. record {
          number = a.number;
          transfer = a.transfer;
          here = a.here;
          descriptor = a.descriptor;
          held = a.held;
          lent = a.lent;
          endpoint = a.endpoint;
          frame = a.frame;
          at = a.at;
          active = a.active;
        };
      })

  by_offer : (r : Result Offered OfferError) → IsOffered w.driver.room cmd → offered w.driver w.memory cmd ≡ r → IsGoneOn start w (commanded_by w line (name_in cmd) r) vs
  by_offer (Ok o) room is = accepted_visits o room is
  by_offer (Err why) room is = refused_visits why

  pub command_visits : IsOffered w.driver.room cmd → IsGoneOn start w (commanded w line cmd) vs
  command_visits room = by_offer (offered w.driver w.memory cmd) room refl

pub command_leaves_visits : CommandLeavesVisits
command_leaves_visits s start w line cmd vs room k v = command_visits s w k start vs v line cmd room
