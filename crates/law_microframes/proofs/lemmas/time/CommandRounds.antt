-- A round of the ring goes on with each command, accepted or refused.
use Rattle.std.proofs.Common.{◌≡◌, ◌≢◌, ℕ, ◌-◌, ◌*◌, Bool, true, false, ◌||◌, List, [], ◌∷◌, ◌++◌, length, take, set, slice_get, Some, None, ap, refl, sym, subst, ◌∙◌, ⊎_elim, arith, inl, inr}
use Rattle.std.specs.Prelude.{◌⊎◌, slice_index, Result, Ok, Err}
use Rattle.std.proofs.lemmas.Bool.{cases_eq, or_left, or_right}
use Rattle.std.proofs.lemmas.Option.{same_Some}
use Rattle.law_world.proofs.Common.{none_opens}
use Rattle.law_common.proofs.Lists.{set_here, set_there}
use Rattle.law_driver.proofs.Common.{among_later}
use Rattle.law_driver_ring.proofs.Common.{head_link}
use Rattle.usb_base.specs.declared.commands.Cmd.{Cmd}
use Rattle.usb_base.specs.declared.reports.OfferError.{OfferError}
use Rattle.drv_table.specs.declared.content.Command.TheVariants as unfinished
use Rattle.drv_table.specs.declared.content.Endpoint.{Endpoint}
use Rattle.drv_table.specs.DriverContent.{DriverContent}
use Rattle.drv_table.specs.Words.{head_block}
use Rattle.drv_table.specs.Accepting.{Offered, new_runs, first_waiting}
use Rattle.drv_table.specs.Offers.{IsOffered, offered, new_endpoint, placed_endpoint, with_queued}
use Rattle.drv_table.specs.CancelOffers.{endpoint_members, with_cancel, first_end}
use Rattle.law_driver.specs.run_owners.Accepts.{Accepts, Opens, opens, chains, places, transfers, describes, cancels, unchains}
use Rattle.claims_driver.specs.Leaving.{HasOwners}
use Rattle.claims_base.specs.Controller.{opening_base}
use Rattle.law_driver.proofs.lemmas.run_owners.Commands.{each_command_has_its_reason}
use Rattle.law_driver.proofs.lemmas.run_owners.Orders.{times_both}
use Rattle.claims_driver.specs.Ring.{link_in, IsQueueOf, IsAmong}
use Rattle.law_driver.specs.ring_members.Words.{IsOpening}
use Rattle.law_driver.proofs.lemmas.ring_members.Events.{stands_as}
use Rattle.law_driver.proofs.lemmas.ring_members.Accepted.{one_more_on}
use Rattle.law_driver.proofs.lemmas.ring_members.Leaving.{GoOn}
use Rattle.law_driver.proofs.lemmas.ring_members.Placed.{left_ring, linked_alive}
use Rattle.law_driver.specs.endpoint_lives.Lives.{is_one_of}
use Rattle.law_driver_ring.specs.fed_queues.Places.{IsThere}
use Rattle.claims_driver.specs.Walk.{IsReached, at_head, at_member, at_waiting, at_rung}
use Rattle.law_driver_ring.proofs.lemmas.walk_members.Driving.{Reaches, goes_reach, or_done_reach}
use Rattle.law_driver_ring.proofs.lemmas.walk_members.Leading.{among_front}
use Rattle.law_queues.specs.reached_rings.Reaching.{is_reached, ReachedAt}
use Rattle.law_queues.proofs.lemmas.reached_rings.Computing.{among_one, reached_is_reached}
use Rattle.law_structures.specs.lent_structures.Structures.{QueueHead}
use Rattle.law_structures.specs.lent_structures.Sound.{IsMember}
use Rattle.law_descriptors.specs.Both.{both}
use Rattle.law_descriptors.specs.Told.{with_memory}
use Rattle.bus_world.specs.World.{World, controller_parts, name_in, commanded_by}
use Rattle.law_world.specs.memory.framed_memory.Now.{IsFramedNow}
use Rattle.law_world.specs.memory.Mixed.{Standing, IsMixedAt}
use Rattle.law_world.proofs.lemmas.memory.CommandMemory.{placed_now, described_now}
use Rattle.law_world.proofs.lemmas.memory.lemmas.framed_memory.Chained.{chain_keeps_now}
use Rattle.law_world.proofs.lemmas.memory.lemmas.framed_memory.QueueAccepting.{open_keeps_now, transfer_keeps_now, cancel_keeps_now, unchain_keeps_now}
use Rattle.law_microframes.specs.visits.Ranks.{next_of}
use Rattle.law_microframes.proofs.lemmas.visits.ToldLinks.{HasOwn, told_same}
use Rattle.law_microframes.specs.time.Heights.{head_at}
use Rattle.law_microframes.specs.time.Rounds.{RoundsGoOn}
use Rattle.law_microframes.specs.time.RingSplices.{RingAfter, CommandsLeaveRing}
use Rattle.law_microframes.proofs.lemmas.time.RingSteps.{same_word}
use Rattle.law_microframes.specs.time.RoundLaws.{CommandLeavesRounds}
use Rattle.law_microframes.proofs.lemmas.time.ReachedBefore.{same_back, or_done_back}
use Rattle.law_microframes.proofs.lemmas.time.LinksFalling.{reached_at, reached_on, falls_on, behind_on}
use Rattle.law_microframes.proofs.lemmas.time.NewHeights.{pushed_back, raised, links_then, behind_then}

-- ---- whom the walk may reach once a command was accepted

still_on : (xs : List Endpoint) (e : ℕ) (x y : Endpoint) → slice_get xs e ≡ Some x → y.queue ≡ x.queue → y.linked ≡ x.linked → GoOn xs (set xs e y)
still_on xs e x y here queue on = λ f z at.
    ⊎_elim
    (λ (same : f ≡ e).
    let is = same_Some z x (sym at ∙ ap (slice_get xs) same ∙ here) in
    record {
      endpoint = y;
      here = ap (slice_get (set xs e y)) same ∙ set_here xs e x y here;
      queue = queue ∙ ap (λ (v : Endpoint). v.queue) (sym is);
      linked = λ l. on ∙ ap (λ (v : Endpoint). v.linked) (sym is) ∙ l;
    })
    (λ (differs : f ≢ e). record { endpoint = z; here = set_there xs e f y differs ∙ at; queue = refl; linked = λ l. l }) (cases_eq f e)

was_still : (xs : List Endpoint) (e : ℕ) (x y : Endpoint) → slice_get xs e ≡ Some x → y.queue ≡ x.queue → y.linked ≡ x.linked → GoOn (set xs e y) xs
was_still xs e x y here queue on = λ f z at.
    ⊎_elim
    (λ (same : f ≡ e).
    let is = same_Some z y (sym at ∙ ap (slice_get (set xs e y)) same ∙ set_here xs e x y here) in
    record {
      endpoint = x;
      here = ap (slice_get xs) same ∙ here;
      queue = sym queue ∙ ap (λ (v : Endpoint). v.queue) (sym is);
      linked = λ l. sym on ∙ ap (λ (v : Endpoint). v.linked) (sym is) ∙ l;
    })
    (λ (differs : f ≢ e). record { endpoint = z; here = sym (set_there xs e f y differs) ∙ at; queue = refl; linked = λ l. l }) (cases_eq f e)

-- the same
record SameReach (d f : DriverContent) (rings : Bool) : Type 0 where
  forth : Reaches d rings f rings
  back : Reaches f rings d rings

-- an endpoint is written that stays where it is
set_reach : (d f : DriverContent) (rings : Bool) (e : ℕ) (x y : Endpoint) → slice_get d.endpoints e ≡ Some x → y.queue ≡ x.queue → y.linked ≡ x.linked → f.endpoints ≡ set d.endpoints e y
    → f.waiting ≡ d.waiting → f.rung ≡ d.rung → SameReach d f rings
set_reach d f rings e x y here queue on ends ws rs = record {
  forth = goes_reach d f rings (subst (λ (zs : List Endpoint). GoOn d.endpoints zs) (sym ends) (still_on d.endpoints e x y here queue on)) ws rs;
  back = goes_reach f d rings (subst (λ (zs : List Endpoint). GoOn zs d.endpoints) (sym ends) (was_still d.endpoints e x y here queue on)) (sym ws) (sym rs);
}

more_on : (d f : DriverContent) (rings : Bool) (y : Endpoint) → f.endpoints ≡ d.endpoints ++ y ∷ [] → f.waiting ≡ d.waiting → f.rung ≡ d.rung → Reaches d rings f rings
more_on d f rings y ends ws rs = goes_reach d f rings (subst (λ (zs : List Endpoint). GoOn d.endpoints zs) (sym ends) (one_more_on d.endpoints y)) ws rs

-- ---- of a command

not_both : (b : Bool) → b ≡ false → b ≡ true → ⊥
not_both b off on = cc

module _ (s : Standing) (w : World) (k : IsMixedAt s w) (line : ℕ) (cmd : Cmd) where
  abbrev d : DriverContent
  d = w.driver

  abbrev rings : Bool
  rings = w.registers.doorbell

  owned : HasOwners w.driver
  owned = k.now.framed.place.sound.owners

  module _ (o : Offered) (room : IsOffered w.driver.room cmd) (is : offered w.driver w.memory cmd ≡ Ok o) where
    reason : Accepts w.driver w.memory o
    reason = each_command_has_its_reason w.driver w.memory cmd o is

    abbrev Now : Type 0
    Now = IsFramedNow opening_base s.member s.recent s.descs s.parts s.hand s.frame (with_memory (controller_parts w) o.memory) o.driver

    now_by : Accepts w.driver w.memory o → Now
    now_by (opens why) = open_keeps_now opening_base s.member s.recent s.descs s.parts s.hand s.frame (controller_parts w) w.driver cmd o k.now why room is
    now_by (chains why) = chain_keeps_now opening_base s.member s.recent s.descs s.parts s.hand s.frame (controller_parts w) w.driver cmd o k.now why room is
    now_by (places why) = placed_now opening_base s.member s.recent s.descs s.parts s.hand s.frame (controller_parts w) w.driver cmd o k.now why room is
    now_by (transfers why) = transfer_keeps_now opening_base s.member s.recent s.descs s.parts s.hand s.frame (controller_parts w) w.driver cmd o k.now why room is
    now_by (describes why) = described_now opening_base s.member s.recent s.descs s.parts s.hand s.frame (controller_parts w) w.driver cmd o k.now why room is
    now_by (cancels why) = cancel_keeps_now opening_base s.member s.recent s.descs s.parts s.hand s.frame (controller_parts w) w.driver cmd o k.now why room is
    now_by (unchains why) = unchain_keeps_now opening_base s.member s.recent s.descs s.parts s.hand s.frame (controller_parts w) w.driver cmd o k.now why room is

    now : Now
    now = now_by reason

    idle_by : Accepts w.driver w.memory o → w.driver.command ≡ None
    idle_by (opens why) = why.idle
    idle_by (chains why) = why.idle
    idle_by (places why) = why.idle
    idle_by (transfers why) = why.idle
    idle_by (describes why) = why.idle
    idle_by (cancels why) = why.idle
    idle_by (unchains why) = why.idle

    -- ---- the links stay

    there : (x : Endpoint) → x.gone ≡ false → IsThere w.driver x
    there x kept = record { linked = λ some. none_opens w.driver.command x.queue (idle_by reason) some; kept = kept }

    member_left : (e b : ℕ) (at : IsQueueOf w.driver.endpoints e b) → IsAmong e (w.driver.rung ++ w.driver.waiting) → (is_one_of e w.driver.waiting || is_one_of e w.driver.rung) ≡ true
        → s.member (32 * b) ≡ true
    member_left e b at among near =
        ap (λ (i : ℕ). s.member (32 * i)) (sym at.queue)
        ∙ k.ring.each e at.endpoint at.here
        (record {
          there = there at.endpoint (left_ring d e at.endpoint (d.rung ++ d.waiting) owned.orderly (omega (arith, times_both e d.rung d.waiting)) among at.here).1;
          near = or_right at.endpoint.linked (is_one_of e d.waiting || is_one_of e d.rung) near;
        })

    reached_member : (b : ℕ) → IsReached w.driver w.registers.doorbell b → s.member (32 * b) ≡ true
    reached_member b (at_head h) = ap (λ (i : ℕ). s.member (32 * i)) h ∙ k.ring.head
    reached_member b (at_member e at on) =
        ap (λ (i : ℕ). s.member (32 * i)) (sym at.queue)
        ∙ k.ring.each e at.endpoint at.here
        (record { there = there at.endpoint (linked_alive d e at.endpoint owned.orderly at.here on).1; near = or_left at.endpoint.linked (is_one_of e d.waiting || is_one_of e d.rung) on })
    reached_member b (at_waiting e at among) =
        member_left e b at (among_later e d.rung d.waiting among) (or_left (is_one_of e d.waiting) (is_one_of e d.rung) (among_one e d.waiting among))
    reached_member b (at_rung e at among on) =
        member_left e b at (among_front e d.rung d.waiting among) (or_right (is_one_of e d.waiting) (is_one_of e d.rung) (among_one e d.rung among))

    own : (n : ℕ) → s.member n ≡ true → HasOwn (both s.descs s.parts) n
    own n on =
        let i : IsMember s.member n (both s.descs s.parts n) = k.now.framed.runs.ring.members n on in
        record { structure = QueueHead i.queue; here = i.here; link = tt }

    links : (n : ℕ) → is_reached w.driver w.registers.doorbell n ≡ true → next_of o.memory n ≡ next_of w.memory n
    links n on =
        let at : ReachedAt d rings n = reached_is_reached d rings n on in
        told_same w.memory o.memory (both s.descs s.parts) (both s.descs s.parts) n k.now.framed.runs.ring.tells now.framed.runs.ring.tells
        (own n (ap s.member at.at ∙ reached_member at.block at.reached)) refl

    -- ---- whom the walk may reach then

    -- one more endpoint that isn't in the ring
    pushed_reach : (y : Endpoint) → y.linked ≡ false → o.driver.endpoints ≡ w.driver.endpoints ++ y ∷ [] → o.driver.waiting ≡ w.driver.waiting → o.driver.rung ≡ w.driver.rung
        → SameReach w.driver o.driver w.registers.doorbell
    pushed_reach y off ends ws rs = record {
      forth = more_on d o.driver rings y ends ws rs;
      back = λ b reached.
          ⊎_elim (λ (was : IsReached d rings b). was) (λ (new : (b ≡ y.queue) × (y.linked ≡ true)). absurd (not_both y.linked off new.1))
          (pushed_back (link_in w.memory) d o.driver rings y k.now.framed.place.sound.ring.leaving ends ws rs b reached);
    }

    reach_by : Accepts w.driver w.memory o → SameReach w.driver o.driver w.registers.doorbell ⊎ Opens w.driver w.memory o
    reach_by (opens why) = inr why
    reach_by (chains why) =
        inl
        (pushed_reach (placed_endpoint why.desc why.placement (slice_index (new_runs w.driver why.holding_after) 0) (slice_index (new_runs w.driver why.holding_after) 1)) refl
        (ap (λ (f : Offered). f.driver.endpoints) why.is) (ap (λ (f : Offered). f.driver.waiting) why.is) (ap (λ (f : Offered). f.driver.rung) why.is))
    reach_by (places why) =
        inl
        (pushed_reach (placed_endpoint why.desc why.placement 0 0) refl (ap (λ (f : Offered). f.driver.endpoints) why.is) (ap (λ (f : Offered). f.driver.waiting) why.is)
        (ap (λ (f : Offered). f.driver.rung) why.is))
    reach_by (transfers why) =
        let dummy : ℕ = slice_index (take (length why.asked.stages) (new_runs w.driver why.holding_after)) (length why.asked.stages - 1) in
        inl
        (set_reach d o.driver rings why.number why.endpoint (with_queued why.endpoint dummy (length d.transfers)) why.here refl refl (ap (λ (f : Offered). f.driver.endpoints) why.is)
        (ap (λ (f : Offered). f.driver.waiting) why.is) (ap (λ (f : Offered). f.driver.rung) why.is))
    reach_by (describes why) =
        inl
        (set_reach d o.driver rings why.number why.endpoint (record why.endpoint { next = first_waiting why.endpoint.next (length d.transfers) }) why.here refl refl
        (ap (λ (f : Offered). f.driver.endpoints) why.is) (ap (λ (f : Offered). f.driver.waiting) why.is) (ap (λ (f : Offered). f.driver.rung) why.is))
    reach_by (cancels why) =
        inl
        (set_reach d o.driver rings why.number why.endpoint (record why.endpoint { cancelled = true; ended = first_end why.endpoint.ended }) why.here refl refl
        (ap (λ (f : Offered). f.driver.endpoints) why.is) (ap (λ (f : Offered). f.driver.waiting) why.is) (ap (λ (f : Offered). f.driver.rung) why.is))
    reach_by (unchains why) =
        let e : DriverContent = with_cancel d why.number why.endpoint (endpoint_members d why.number why.endpoint why.placement) in
        let first : SameReach d e rings
        = set_reach d e rings why.number why.endpoint (record why.endpoint { cancelled = true; ended = first_end why.endpoint.ended }) why.here refl refl refl refl refl in
        inl
        (subst (λ (f : Offered). SameReach d f.driver rings) (sym why.is)
        (record {
          forth = λ b reached. or_done_reach e rings (unfinished.Unchain why.number) b (first.forth b reached);
          back = λ b reached. first.back b (or_done_back e rings (unfinished.Unchain why.number) b reached);
        }))

    -- the endpoint of an accepted open
    abbrev opened_by : Opens w.driver w.memory o → Endpoint
    opened_by why = new_endpoint why.desc (slice_index (new_runs w.driver why.holding_after) 0) (slice_index (new_runs w.driver why.holding_after) 1)

    ends_by : (why : Opens w.driver w.memory o) → o.driver.endpoints ≡ w.driver.endpoints ++ opened_by why ∷ []
    ends_by why = ap (λ (f : Offered). f.driver.endpoints) why.is

    waiting_by : (why : Opens w.driver w.memory o) → o.driver.waiting ≡ w.driver.waiting
    waiting_by why = ap (λ (f : Offered). f.driver.waiting) why.is

    rung_by : (why : Opens w.driver w.memory o) → o.driver.rung ≡ w.driver.rung
    rung_by why = ap (λ (f : Offered). f.driver.rung) why.is

    command_by : (why : Opens w.driver w.memory o) → o.driver.command ≡ Some (unfinished.Open (opened_by why).queue)
    command_by why = ap (λ (f : Offered). f.driver.command) why.is

    -- it leads to where the head of the ring does
    new_leads : (why : Opens w.driver w.memory o) (n : ℕ) → n ≡ 32 * (opened_by why).queue → next_of o.memory n ≡ next_of o.memory head_at
    new_leads why n at =
        let u : IsOpening (link_in o.memory) o.driver.endpoints (opened_by why).queue
        = stands_as (link_in o.memory) o.driver (unfinished.Open (opened_by why).queue) (command_by why) now.framed.place.sound.ring in
        ap (next_of o.memory) at ∙ same_word o.memory (opened_by why).queue head_block (u.link ∙ sym (head_link (link_in o.memory) head_block u.older u.ring))

    accepted_ring : RingAfter w (record w { driver = o.driver; memory = o.memory })
    accepted_ring = record {
      reached =
          ⊎_elim (λ (same : SameReach d o.driver rings). λ n on. reached_on d o.driver rings rings same.forth n on)
          (λ (why : Opens d w.memory o). λ n on. reached_on d o.driver rings rings (more_on d o.driver rings (opened_by why) (ends_by why) (waiting_by why) (rung_by why)) n on)
          (reach_by reason);
      links = links;
      more =
          ⊎_elim (λ (same : SameReach d o.driver rings). λ n on. inl (reached_on o.driver d rings rings same.back n on))
          (λ (why : Opens d w.memory o). λ n on.
          let at : ReachedAt o.driver rings n = reached_is_reached o.driver rings n on in
          ⊎_elim {C = (is_reached d rings n ≡ true) ⊎ (next_of o.memory n ≡ next_of o.memory head_at)}
          (λ (was : IsReached d rings at.block). inl (reached_at d rings n at.block at.at was))
          (λ (new : (at.block ≡ (opened_by why).queue) × ((opened_by why).linked ≡ true)). inr (new_leads why n (at.at ∙ ap (λ (b : ℕ). 32 * b) new.0)))
          (pushed_back (link_in w.memory) d o.driver rings (opened_by why) k.now.framed.place.sound.ring.leaving (ends_by why) (waiting_by why) (rung_by why) at.block at.reached))
          (reach_by reason);
    }

    -- ---- a round

    module _ (vs : List ℕ) (v : RoundsGoOn w vs) where
      goes_on : SameReach w.driver o.driver w.registers.doorbell → RoundsGoOn (record w { driver = o.driver; memory = o.memory }) vs
      goes_on same = record {
        height = v.height;
        links_fall = falls_on w.memory o.memory d o.driver rings rings v.height v.links_fall same.back (λ n on. links n (reached_on o.driver d rings rings same.back n on));
        behind = behind_on d o.driver v.height w.registers w.registers w.control.walk vs v.behind refl same.forth;
      }

      opened : Opens w.driver w.memory o → RoundsGoOn (record w { driver = o.driver; memory = o.memory }) vs
      opened why =
          let y : Endpoint = opened_by why in
          let ends = ends_by why in
          let ws = waiting_by why in
          let rs = rung_by why in
          let command = command_by why in
          let sound = k.now.framed.place.sound in
          let then = now.framed.place.sound in
          record {
            height = raised w.memory o.memory d o.driver rings y owned then.owners sound.ring then.ring ends ws rs command refl links v.height v.links_fall;
            links_fall = links_then w.memory o.memory d o.driver rings y owned then.owners sound.ring then.ring ends ws rs command refl links v.height v.links_fall;
            behind = behind_then w.memory o.memory d o.driver rings y owned then.owners sound.ring then.ring ends ws rs command refl links v.height v.links_fall w.registers w.control.walk vs refl
                k.walking.walk (more_on d o.driver rings y ends ws rs) v.behind;
          }

      accepted_rounds : RoundsGoOn (record w { driver = o.driver; memory = o.memory }) vs
      accepted_rounds =
          ⊎_elim (λ (same : SameReach d o.driver rings). goes_on same) (λ (why : Opens d w.memory o). opened why) (reach_by reason)

  -- ---- accepted or refused

  refused_rounds : (vs : List ℕ) (v : RoundsGoOn w vs) (why : OfferError) → RoundsGoOn (commanded_by w line (name_in cmd) (Err why)) vs
  refused_rounds vs v why =
      let new : World = commanded_by w line (name_in cmd) (Err why) in
      record {
        height = v.height;
        links_fall = falls_on w.memory w.memory d new.driver rings rings v.height v.links_fall (same_back d new.driver rings refl refl refl) (λ n on. refl);
        behind = behind_on d new.driver v.height w.registers w.registers w.control.walk vs v.behind refl (same_back new.driver d rings refl refl refl);
      }

  by_offer : (vs : List ℕ) (v : RoundsGoOn w vs) (r : Result Offered OfferError) → IsOffered w.driver.room cmd → offered w.driver w.memory cmd ≡ r
      → RoundsGoOn (commanded_by w line (name_in cmd) r) vs
  by_offer vs v (Ok o) room is = accepted_rounds o room is vs v
  by_offer vs v (Err why) room is = refused_rounds vs v why

  refused_ring : (why : OfferError) → RingAfter w (commanded_by w line (name_in cmd) (Err why))
  refused_ring why =
      let new : World = commanded_by w line (name_in cmd) (Err why) in
      record {
        reached = λ n on. reached_on d new.driver rings rings (same_back new.driver d rings refl refl refl) n on;
        links = λ n on. refl;
        more = λ n on. inl (reached_on new.driver d rings rings (same_back d new.driver rings refl refl refl) n on);
      }

  ring_by : (r : Result Offered OfferError) → IsOffered w.driver.room cmd → offered w.driver w.memory cmd ≡ r → RingAfter w (commanded_by w line (name_in cmd) r)
  ring_by (Ok o) room is = accepted_ring o room is
  ring_by (Err why) room is = refused_ring why

pub command_leaves_rounds : CommandLeavesRounds
command_leaves_rounds s w line cmd vs room k v = by_offer s w k line cmd vs v (offered w.driver w.memory cmd) room refl

pub commands_leave_ring : CommandsLeaveRing
commands_leave_ring s w line cmd room k = ring_by s w k line cmd (offered w.driver w.memory cmd) room refl
