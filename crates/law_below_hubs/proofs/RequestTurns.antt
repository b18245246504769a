-- The first request of a queue below a hub opens its window, and where the last is done the queue is at rest.
use Rattle.std.proofs.Common.{◌≡◌, ◌⊎◌, ℕ, suc, Bool, List, [], ◌∷◌, Option, Some, ap, sym, subst, ◌∙◌, inl, inr}
use Rattle.usb_base.specs.declared.endpoints.EndCause.TheVariants as Causes
use Rattle.usb_base.specs.declared.packets.Reply.{Reply}
use Rattle.bus_wire.specs.Bus.{Wired}
use Rattle.qh_qtd.specs.declared.queue_head.Qh.{Qh}
use Rattle.claims_report.specs.ControlSides.{Device}
use Rattle.law_structures.specs.lent_structures.Structures.{QueueHead, Element, StructureSets, put}
use Rattle.law_structures.proofs.lemmas.lent_structures.Altering.{found_queue}
use Rattle.law_structures.specs.lent_structures.Sound.{IsMember}
use Rattle.law_ring.specs.Hand.{Hand}
use Rattle.law_ring.specs.Ring.{IsInHand}
use Rattle.law_request.specs.Host.{Done, Halted, is_over}
use Rattle.law_request.specs.Line.{Line as Window}
use Rattle.law_devices.specs.ring_requests.Resting.{HasRest, HasBegun}
use Rattle.law_devices.specs.ring_requests.Windows.{Queue, sent_at, Lines, lines_at, stage_of, HasEnded, IsQueue}
use Rattle.law_devices.proofs.lemmas.ring_requests.RestingEnded.{queue_done}
use Rattle.law_devices.proofs.lemmas.ring_requests.RestingGrows.{queue_grows}
use Rattle.law_devices.proofs.lemmas.ring_requests.Telling.{stage_done}
use Rattle.law_below_hubs.specs.HostRequests.{RestsAgain}
use Rattle.law_below_hubs.specs.RequestQueues.{IsQueueBelow}
use Rattle.law_below_hubs.specs.RequestTurns.{RestOpensBelow, IsDoneBelow, DoneRestsBelow}
use Rattle.law_below_hubs.specs.RequestViews.{IsHeadBelow, heard}
use Rattle.law_below_hubs.proofs.RequestRests.{request_opens, request_rests}
use Rattle.law_below_hubs.proofs.RequestViews.{below_is_asked, asked_is_below, rest_is_at_rest, at_rest_is_below}

pub rest_opens_below : RestOpensBelow
rest_opens_below v i place b n wire c hand parts new o going store =
    let k = rest_is_at_rest v.endpoint i place b n wire c hand parts o in
    let now : StructureSets = put parts n b (Element new) in
    let same : k.0.queue ≡ o.head.queue = found_queue (parts n n) k.0.queue o.head.queue k.0.head o.head.head in
    let begun : HasBegun v c hand now n (heard v.endpoint c) k.0.queue =
    queue_grows v c b n hand parts (heard v.endpoint c) new k.0 (ap (λ (q : Qh). q.token.halted) same ∙ going) store in
    let asks : IsQueue v (lines_at v o.head.queue.token.ping c) hand now n (heard v.endpoint c) =
    subst (λ (q : Qh). IsQueue v (lines_at v q.token.ping c) hand now n (heard v.endpoint c)) same begun.asks in
    asked_is_below v i place n wire (lines_at v o.head.queue.token.ping c) [] hand now (heard v.endpoint c)
    (record {
      queue = o.head.queue;
      head = begun.laid.first.head ∙ ap (λ (q : Qh). Some (QueueHead q)) same;
      below = o.head.control.below;
      hub = o.head.hub;
    }) (request_opens v.endpoint (v.requests 0) i place wire o.head.queue.token.ping c o.rests) asks

done_no_error : (l : Window) → l.host.stage ≡ Done → (l.host.stage ≡ Halted Causes.Error → ⊥)
done_no_error l done error = let both : Done ≡ Halted Causes.Error = sym done ∙ error in cc

none_acted : {setup : List ℕ} (a : List (List ℕ)) → a ≡ [] → a ≡ setup ∷ [] → ⊥
none_acted a none one = cc

module _ (member : ℕ → Bool) (v : Queue) (j i place b n : ℕ) (wire : Wired) (l : Lines) (acts : List (List ℕ)) (hand : Hand)
    (reply : Reply) (parts : StructureSets) (m : IsMember member n (parts n)) (in_hand : IsInHand member parts reply hand)
    (last : suc j ≡ v.count) (behind : (v.places j).behind ≡ Some b) (ended : HasEnded (sent_at v j) parts n)
    (w : IsQueueBelow v i place wire l acts hand parts n) where
  abbrev o : Option Device
  o = heard v.endpoint (l.line l.under).device

  asked : IsQueue v l hand parts n (heard v.endpoint (l.line l.under).device) × IsHeadBelow i place wire parts n
  asked = below_is_asked v i place n wire l acts hand parts w

  rests : HasRest v l b j hand parts n (heard v.endpoint (l.line l.under).device)
  rests = queue_done member parts hand reply n j b v l o m in_hand asked.0 last behind ended

  done : stage_of l ≡ Done
  done =
      stage_done member parts hand reply n m in_hand w.window.queue w.window.head (sent_at v l.under)
      (subst (λ (x : ℕ). HasEnded (sent_at v x) parts n) (sym rests.last) ended) (l.line l.under).host w.window.shown

  again : RestsAgain v.endpoint i place wire
  again =
      request_rests v.endpoint (v.requests l.under) i place wire (l.line l.under) acts (ap is_over done)
      (done_no_error (l.line l.under) done) w.window.request

  acted_by : ((l.line l.under).acts ≡ []) ⊎ (acts ≡ (v.requests l.under).setup ∷ []) → acts ≡ (v.requests j).setup ∷ []
  acted_by (inl none) =
      absurd (none_acted (l.line j).acts (ap (λ (x : ℕ). (l.line x).acts) (sym rests.last) ∙ none) rests.once.acts)
  acted_by (inr one) = one ∙ ap (λ (x : ℕ). (v.requests x).setup ∷ []) rests.last

  pub done_below : IsDoneBelow v j i place b wire l acts hand parts n
  done_below = record {
    last = rests.last;
    once = rests.once;
    acted = acted_by w.window.request.within;
    stages = again.stages;
    rest = at_rest_is_below v.endpoint i place b n wire (l.line j).device again.stages hand parts o asked.1 again.rests rests.rest;
  }

pub done_rests_below : DoneRestsBelow
done_rests_below member v j i place b n wire l acts hand reply parts m in_hand last behind ended w =
    done_below member v j i place b n wire l acts hand reply parts m in_hand last behind ended w
