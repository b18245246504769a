-- The worked read in the microframe after the lost ACK, and its endpoint before it.
use Rattle.std.proofs.Common.{◌≡◌, ℕ, true, [], ◌∷◌, ap, refl, sym, subst, inl, inr, ◌∙◌, arith}
use Rattle.std.proofs.lemmas.Bool.{false≢true}
use Rattle.std.proofs.lemmas.Option.{same_Some}
use Rattle.qh_qtd.specs.declared.queue_head.Qh.{Qh}
use Rattle.hub_class.specs.HubContent.{HubContent}
use Rattle.multi_tt.specs.Translators.{place_of}
use Rattle.law_structures.specs.lent_structures.Sound.{HasBuffer}
use Rattle.law_structures.proofs.lemmas.lent_structures.Altering.{found_queue, found_element}
use Rattle.law_request.specs.Host.{Stage, Setup, Data, Status}
use Rattle.law_devices.specs.ring_requests.Laid.{comes, IsFresh}
use Rattle.law_devices.specs.ring_requests.Resting.{IsFirstStore}
use Rattle.law_devices.specs.ring_requests.Samples.{setup as setup_qtd, status as status_qtd}
use Rattle.qh_qtd.specs.declared.qtd.Qtd.{Qtd}
use Rattle.law_ring.specs.Hand.{Empty}
use Rattle.law_below_hubs.specs.RequestMoves.{HubsStay, IsIdleHead, IsRestBelow}
use Rattle.law_below_hubs.specs.WorkedControl.{own, reading, unset}
use Rattle.law_below_hubs.specs.WorkedMoves.{MovesOn, idle_queue, rest_with, first_begun, IsAtRest, WorkingBreaks, AskedAlike, NotHigh}
use Rattle.law_below_hubs.specs.WorkedMoves.{laid, stored, Opens}
use Rattle.law_below_hubs.specs.WorkedRequests.{first, answer_lost, begun}
use Rattle.law_below_hubs.specs.WorkedWindows.{sent, erred_queue, three_bytes, parts_with, one_request, at_line}
use Rattle.law_below_hubs.proofs.RequestMoves.{beside_keeps_queue, beside_keeps_rest}
use Rattle.law_below_hubs.proofs.RequestRests.{begin_leaves_rest}
use Rattle.law_below_hubs.proofs.RequestTurns.{rest_opens_below}
use Rattle.law_below_hubs.proofs.RequestViews.{below_is_asked}
use Rattle.law_below_hubs.proofs.WorkedRequests.{hub_rests_first, is_after_microframe}
use Rattle.law_below_hubs.proofs.WorkedWindows.{none_leads, requests_stand}

-- its one hub is where it was
hubs_stay : HubsStay 0 0 answer_lost begun
hubs_stay hub port at = record {
  found = at.found;
  content = _;
  there = refl;
  place_is = ap (λ (h : HubContent). place_of h.translators.multi port) (same_Some _ at.content at.there) ∙ at.place_is;
}

first_hubs_stay : HubsStay 0 0 first first_begun
first_hubs_stay hub port at = record {
  found = at.found;
  content = _;
  there = refl;
  place_is = ap (λ (h : HubContent). place_of h.translators.multi port) (same_Some _ at.content at.there) ∙ at.place_is;
}

pub moves_on : MovesOn
moves_on =
    beside_keeps_queue one_request 0 0 32 (parts_with erred_queue) Empty answer_lost begun (parts_with erred_queue) Empty (at_line 0) []
    refl refl hubs_stay is_after_microframe requests_stand.stand

idle_head : IsIdleHead own 0 0 first 64 Empty (rest_with idle_queue) 32
idle_head = record {
  queue = idle_queue;
  head = refl;
  control = record { toggles = refl; below = refl; address = refl; number = refl; packets = refl };
  hub = record { found = refl; content = _; there = refl; place_is = refl };
  idle = refl;
  unsettled = refl;
  leads = λ on. refl;
  tail = record { qtd = _; here = refl; idle = refl };
}

rests_before : IsRestBelow own 0 0 first unset 64 Empty (rest_with idle_queue) 32
rests_before = record { head = idle_head; rests = hub_rests_first }

pub is_at_rest : IsAtRest
is_at_rest = record {
  before = rests_before;
  after = beside_keeps_rest own 0 0 64 32 (rest_with idle_queue) Empty first first_begun (rest_with idle_queue) Empty unset refl refl
      first_hubs_stay (begin_leaves_rest own 0 0 1 first unset hub_rests_first) rests_before;
}

pub working_breaks : WorkingBreaks
working_breaks o =
    let q : Qh = record idle_queue { token = record idle_queue.token { active = true } } in
    let is : o.head.queue ≡ q = found_queue (rest_with q 32 32) o.head.queue q o.head.head refl in
    false≢true (sym o.head.idle ∙ ap (λ (z : Qh). z.token.active) is)

-- ---- its window opens

laid_rests : IsRestBelow own 0 0 first unset 64 Empty laid 32
laid_rests = record {
  head = record {
    queue = idle_queue;
    head = refl;
    control = record { toggles = refl; below = refl; address = refl; number = refl; packets = refl };
    hub = record { found = refl; content = _; there = refl; place_is = refl };
    idle = refl;
    unsettled = refl;
    leads = λ on. refl;
    tail = record { qtd = _; here = refl; idle = refl };
  };
  rests = hub_rests_first;
}

stored_fresh : (s : Stage) → comes reading Setup s ≡ true → IsFresh own reading sent.places (stored 32) s
stored_fresh Setup on = record {
  stage = record { qtd = setup_qtd; here = refl; pid = refl; leads = record { next = refl; alternate = inl refl }; bytes = refl };
  begins = λ ping. refl;
}
stored_fresh Data on = record {
  stage = record {
    qtd = three_bytes;
    here = refl;
    pid = refl;
    leads = record { next = refl; alternate = inr refl };
    bytes = λ off. absurd (false≢true (sym off));
  };
  begins = λ ping. refl;
}
stored_fresh Status on = record {
  stage = record {
    qtd = status_qtd;
    here = refl;
    pid = refl;
    leads = record { next = none_leads (stored 32); alternate = inl refl };
    bytes = tt;
  };
  begins = λ ping. refl;
}
stored_fresh _ on = absurd (false≢true on)

stored_first : IsFirstStore one_request 64 (stored 32)
stored_first = record {
  one = refl;
  setup = refl;
  fresh = stored_fresh;
  buffer = λ some t here.
      let same : three_bytes ≡ t = found_element (stored 32 96) three_bytes t refl here in
      subst (λ (u : Qtd). HasBuffer (stored 32) u u.token.total) same (record { bytes = 0 ∷ 0 ∷ 0 ∷ []; here = refl; size = refl });
  tail = λ a is. cc;
}

pub opens : Opens
unfolding laid_rests
opens = record {
  rests = laid_rests;
  store = stored_first;
  begun = rest_opens_below one_request 0 0 64 32 first unset Empty laid setup_qtd laid_rests refl stored_first;
}

pub asked_alike : AskedAlike
asked_alike = (below_is_asked one_request 0 0 32 answer_lost (at_line 0) [] Empty (parts_with erred_queue) requests_stand.stand).0

pub not_high : NotHigh
not_high k = let is : ◌≡◌ {A = ℕ} 0 2 = k 32 erred_queue refl refl in omega (arith, is)
