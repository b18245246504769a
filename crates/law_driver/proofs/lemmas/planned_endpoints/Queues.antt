-- The queue heads of the frame list: each is that of a placed endpoint, and an endpoint has one.
use Rattle.std.proofs.Common.{◌≡◌, ℕ, ◌%◌, Bool, true, false, List, [], ◌∷◌, slice_get, Option, Some, None, refl, ap, sym, ◌∙◌}
use Rattle.std.specs.Prelude.{option_map}
use Rattle.std.specs.List.{AllByRecursion}
use Rattle.law_driver.proofs.Common.{each_is}
use Rattle.law_common.proofs.Numbers.{same_test}
use Rattle.bandwidth.specs.declared.placements.Placement.{Placement}
use Rattle.bandwidth.specs.Placements.{frame_period}
use Rattle.bandwidth.specs.Sums.{is_active}
use Rattle.drv_chains.specs.declared.members.QueueHead.{QueueHead}
use Rattle.drv_chains.specs.declared.members.Member.TheVariants.{Each}
use Rattle.drv_chains.specs.Chains.{is_active as stands_in}
use Rattle.drv_periodic_table.specs.Periodic.{queue_name, queue_member}
use Rattle.drv_table.specs.declared.content.Endpoint.{Endpoint}
use Rattle.drv_table.specs.DriverContent.{DriverContent}
use Rattle.claims_driver.specs.Leaving.{HasOwners}
use Rattle.claims_driver.specs.FrameListMembers.{Framed, framed_of}
use Rattle.law_driver.specs.listed_members.Members.{IsQueueOf, IsListed}
use Rattle.law_driver.specs.planned_endpoints.Planned.{IsPlanned}
use Rattle.claims_driver.specs.DueMembers.{IsPlacedQueue}
use Rattle.law_driver.proofs.lemmas.planned_endpoints.Laws.{some_is, endpoints_count_until_given_back}

-- it stands in the frames of its placement
in_frames : (q : QueueHead) (b : ℕ) (p : Placement) (f : ℕ) → Each q ≡ queue_member b p → stands_in f q ≡ is_active p f
in_frames q b p f e =
    let is = each_is q (record { id = queue_name b; period = p.period; phase = p.phase }) e in
    ap (stands_in f) is ∙ same_test p.phase (f % frame_period p.period)

-- the endpoint that is so framed
record IsFramed (xs : List Endpoint) (e : ℕ) (f : Framed) : Type 0 where
  endpoint : Endpoint
  here : slice_get xs e ≡ Some endpoint
  is : framed_of endpoint ≡ f

framed_is : (x y : Framed) → ◌≡◌ {A = Option Framed} (Some x) (Some y) → x ≡ y
framed_is x y e = cc

framed_by : (xs : List Endpoint) (e : ℕ) (o : Option Endpoint) (f : Framed) → slice_get xs e ≡ o → option_map framed_of o ≡ Some f → IsFramed xs e f
framed_by xs e None f here is = absurd (cc)
framed_by xs e (Some x) f here is = record { endpoint = x; here = here; is = framed_is (framed_of x) f is }

kept_by : (gone chained : Bool) → (gone ≡ true → chained ≡ false) → chained ≡ true → gone ≡ false
kept_by false chained h e = refl
kept_by true chained h e = absurd (let off = h refl in cc)

queue_placed : (d : DriverContent) (q : QueueHead) → HasOwners d → IsPlanned d → IsQueueOf d q → IsPlacedQueue d q
queue_placed d q has planned of =
    let at : IsFramed d.endpoints of.number of.framed = framed_by d.endpoints of.number (slice_get d.endpoints of.number) of.framed refl of.here in
    let x : Endpoint = at.endpoint in
    let placed : x.placement ≡ Some of.place = ap (λ (f : Framed). f.placement) at.is ∙ of.placed in
    let chained : x.chained ≡ true = ap (λ (f : Framed). f.chained) at.is ∙ of.chained in
    let steady = has.orderly.steady of.number x at.here in
    let kept : x.gone ≡ false = kept_by x.gone x.chained (λ e. (steady.gone e).1) chained in
    let member : Each q ≡ queue_member x.queue of.place = of.is ∙ ap (λ (f : Framed). queue_member f.queue of.place) (sym at.is) in
    record {
      number = of.number;
      endpoint = x;
      placement = of.place;
      here = at.here;
      placed = placed;
      counts = endpoints_count_until_given_back d of.number x of.place planned at.here kept placed;
      member = member;
      frames = λ f. in_frames q x.queue of.place f member;
    }

all_placed : (d : DriverContent) (qs : List QueueHead) → HasOwners d → IsPlanned d → AllByRecursion (IsQueueOf d) qs → AllByRecursion (IsPlacedQueue d) qs
all_placed d [] has planned h = tt
all_placed d (q ∷ qs) has planned h = (queue_placed d q has planned h.0, all_placed d qs has planned h.1)

pub queue_heads_are_of_placed_endpoints : (d : DriverContent) → HasOwners d → IsListed d → IsPlanned d → AllByRecursion (IsPlacedQueue d) d.periodic.list.members.schedule.queues
queue_heads_are_of_placed_endpoints d has listed planned =
    all_placed d d.periodic.list.members.schedule.queues has planned listed.list.members.queues

-- ---- an endpoint has one

place_is : (p q : Placement) → ◌≡◌ {A = Option Placement} (Some p) (Some q) → p ≡ q
place_is p q e = cc

pub an_endpoint_has_one_queue_head : (d : DriverContent) (q r : QueueHead) (h : IsPlacedQueue d q) (k : IsPlacedQueue d r)
    → h.number ≡ k.number → q ≡ r
an_endpoint_has_one_queue_head d q r h k e =
    let same : h.endpoint ≡ k.endpoint = some_is h.endpoint k.endpoint (sym h.here ∙ ap (slice_get d.endpoints) e ∙ k.here) in
    let place : h.placement ≡ k.placement = place_is h.placement k.placement (sym h.placed ∙ ap (λ (x : Endpoint). x.placement) same ∙ k.placed) in
    each_is q r
    (h.member ∙ ap (λ (x : Endpoint). queue_member x.queue h.placement) same ∙ ap (λ (p : Placement). queue_member k.endpoint.queue p) place ∙ sym k.member)
