-- A worked window below a hub.
use Rattle.std.proofs.Common.{◌≡◌, ◌==◌, true, false, refl, sym, ap, ◌∙◌, inl, inr, arith}
use Rattle.std.proofs.lemmas.Bool.{false≢true}
use Rattle.link_words.specs.Links.{no_qtd}
use Rattle.qh_qtd.specs.declared.queue_head.Qh.{Qh}
use Rattle.law_structures.specs.lent_structures.Structures.{Structures}
use Rattle.law_structures.proofs.lemmas.lent_structures.Altering.{found_queue}
use Rattle.law_request.specs.Host.{Stage, Setup, Data, Status}
use Rattle.law_devices.specs.ring_requests.Laid.{comes, IsUnpublished, IsFresh}
use Rattle.law_devices.specs.ring_requests.Samples.{setup as setup_qtd, status as status_qtd}
use Rattle.law_devices.specs.ring_requests.Shown.Shows.{works}
use Rattle.law_below_hubs.specs.WorkedControl.{own, reading}
use Rattle.law_below_hubs.specs.WorkedWindows.{sent, erred_queue, three_bytes, parts_with, WindowStands, HighBreaks, RequestsStand, NoneLeftBreaks}
use Rattle.law_below_hubs.proofs.WorkedRequests.{answer_is_lost}

pub none_leads : (part : Structures) → IsUnpublished part no_qtd
none_leads part a t leads here = absurd cc

later_fresh : (s : Stage) → comes reading Data s ≡ true → IsFresh own reading sent.places (parts_with erred_queue 32) s
later_fresh Data on = record {
  stage = record {
    qtd = three_bytes;
    here = refl;
    pid = refl;
    leads = record { next = refl; alternate = inr refl };
    bytes = λ off. absurd (false≢true (sym off));
  };
  begins = λ ping. refl;
}
later_fresh Status on = record {
  stage = record {
    qtd = status_qtd;
    here = refl;
    pid = refl;
    leads = record { next = none_leads (parts_with erred_queue 32); alternate = inl refl };
    bytes = tt;
  };
  begins = λ ping. refl;
}
later_fresh _ on = absurd (false≢true on)

pub window_stands : WindowStands
window_stands = record {
  queue = erred_queue;
  head = refl;
  control = record { toggles = refl; below = refl; address = refl; number = refl; packets = refl };
  hub = record { found = refl; content = _; there = refl; place_is = refl };
  shown = works (record {
    goes_on = refl;
    active = refl;
    side_is = refl;
    current = refl;
    stage = record {
      qtd = setup_qtd;
      here = refl;
      pid = refl;
      leads = record { next = refl; alternate = inl refl };
      bytes = refl;
    };
    pid = refl;
    next = refl;
    alternate = refl;
    later = later_fresh;
  });
  among = λ on. record { stage = Setup; is = refl };
  moved = λ some. record { queue = erred_queue; head = refl; qtd = three_bytes; here = refl; are = refl };
  request = answer_is_lost;
}

pub high_breaks : HighBreaks
high_breaks o =
    let is : o.queue ≡ record erred_queue { eps = 2 } =
    found_queue (parts_with (record erred_queue { eps = 2 }) 32 32) o.queue (record erred_queue { eps = 2 }) o.head refl in
    let z : true ≡ false = ap (λ (q : Qh). q.eps == 2) (sym is) ∙ o.control.below in
    cc

pub requests_stand : RequestsStand
requests_stand = record {
  fixed = record {
    requests = λ j few. record { setup = refl; bytes = λ write. absurd cc };
    whole = omega (arith);
    places = λ j few. record {
      setup_data = λ is. omega (arith, is);
      setup_status = λ is. omega (arith, is);
      data_status = λ is. omega (arith, is);
    };
    others = λ j k few fewer differs. absurd (differs (let z : j ≡ k = omega (arith, few, fewer) in z));
    chained = λ j few. absurd (omega (arith, few));
  };
  stand = record {
    within = omega (arith);
    window = window_stands;
    finished = λ j less. absurd (omega (arith, less));
    behind = λ j more few. absurd (omega (arith, more, few));
    tail = λ j a last behind. absurd cc;
  };
}

pub none_left_breaks : NoneLeftBreaks
none_left_breaks o = let within = o.within in omega (arith, within)
