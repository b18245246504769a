-- The driver of the worked rows with two requests: each of its runs has one owner, and its requests are chained and in turn.
use Rattle.std.proofs.Common.{◌≡◌, ℕ, zero, suc, ◌<◌, ◌≤◌, ◌==◌, true, false, [], ◌∷◌, slice_get, Some, option_map, if◌then◌else◌, sym, subst, refl, arith}
use Rattle.std.proofs.lemmas.Bool.{false≢true}
use Rattle.std.proofs.lemmas.Option.{same_Some}
use Rattle.drv_table.specs.Kinds.{is_iso}
use Rattle.claims_driver.specs.Owners.{Owner, is_descriptor, FrameList, Head, QueueHead, Dummy, Element, Buffer, ArePieces, Views, runs_of_endpoint, runs_of_transfer, views_of, IsPlaced, AreOwned}
use Rattle.claims_driver.specs.Leaving.{IsSteady, IsOrderly, HasOwners}
use Rattle.law_driver.specs.chained_transfers.Bulk.{MovesAs}
use Rattle.law_driver.specs.chained_transfers.Asynchronous.{StandsAsynchronous}
use Rattle.law_driver.specs.chained_transfers.AsynchronousTurns.{AsynchronousTakesTurns}
use Rattle.law_driver.specs.chained_transfers.Chains.{end_of, NoneFrom, AreChained}
use Rattle.law_driver.specs.chained_transfers.Turns.{IsAtPlace, Turn, turn_of, turn_in, AreReportedTo, AreInTurn}
use Rattle.law_driver.specs.chained_transfers.WorkedRequests.{control_endpoint, stalled_request, waiting_request, request_driver}

-- ---- lists of one and of two

one_there : {X : Type 0} (P : ℕ → X → Type 0) (x : X) → P 0 x → (e : ℕ) (z : X) → slice_get (x ∷ []) e ≡ Some z → P e z
one_there P x p zero z here = subst (P 0) (same_Some x z here) p
one_there P x p (suc e) z here = absurd (cc)

two_there : {X : Type 0} (P : ℕ → X → Type 0) (x y : X) → P 0 x → P 1 y → (t : ℕ) (z : X) → slice_get (x ∷ y ∷ []) t ≡ Some z → P t z
two_there P x y p q zero z there = subst (P 0) (same_Some x z there) p
two_there P x y p q (suc zero) z there = subst (P 1) (same_Some y z there) q
two_there P x y p q (suc (suc t)) z there = absurd (cc)

one_seen : {X Y : Type 0} (f : X → Y) (P : ℕ → Y → Type 0) (x : X) → P 0 (f x) → (e : ℕ) (z : Y) → option_map f (slice_get (x ∷ []) e) ≡ Some z → P e z
one_seen f P x p zero z here = subst (P 0) (same_Some (f x) z here) p
one_seen f P x p (suc e) z here = absurd (cc)

two_seen : {X Y : Type 0} (f : X → Y) (P : ℕ → Y → Type 0) (x y : X) → P 0 (f x) → P 1 (f y) → (t : ℕ) (z : Y) → option_map f (slice_get (x ∷ y ∷ []) t) ≡ Some z → P t z
two_seen f P x y p q zero z there = subst (P 0) (same_Some (f x) z there) p
two_seen f P x y p q (suc zero) z there = subst (P 1) (same_Some (f y) z there) q
two_seen f P x y p q (suc (suc t)) z there = absurd (cc)

-- ---- owners

owner : ℕ → Owner
owner b =
    if b == 0 then FrameList
    else if b == 128 then Head
    else if b == 130 then QueueHead 0
    else if b == 132 then Element 0
    else if b == 133 then Buffer 0
    else if b == 134 then Element 0
    else if b == 135 then Element 1
    else if b == 136 then Buffer 1
    else if b == 137 then Element 1
    else Dummy 0

are_owned : AreOwned (views_of request_driver) owner
unfolding owner
are_owned = record {
  list = record { owned = refl; run = refl };
  head = record { owned = refl; run = refl };
  queue = λ e x here bare. one_seen runs_of_endpoint (λ k r. IsPlaced (views_of request_driver).slot owner r.queue (QueueHead k)) control_endpoint (record { owned = refl; run = refl }) e x here;
  dummy = λ e x here bare. one_seen runs_of_endpoint (λ k r. IsPlaced (views_of request_driver).slot owner r.dummy (Dummy k)) control_endpoint (record { owned = refl; run = refl }) e x here;
  pieces = λ t y there held. two_seen runs_of_transfer (λ k r. ArePieces (views_of request_driver).slot owner (views_of request_driver).note k r.first r.qtds) stalled_request waiting_request
      (record { element = record { owned = refl; run = refl }; buffers = (record { owned = refl; run = tt }, tt) }, (record { element = record { owned = refl; run = refl }; buffers = tt }, tt))
      (record { element = record { owned = refl; run = refl }; buffers = (record { owned = refl; run = tt }, tt) }, (record { element = record { owned = refl; run = refl }; buffers = tt }, tt))
      t y there;
  described = λ t y there iso held. absurd (two_seen runs_of_transfer (λ k r. r.isochronous ≡ true → ⊥) stalled_request waiting_request false≢true false≢true t y there iso);
}

are_orderly : IsOrderly request_driver
are_orderly = record {
  harvests = λ t. omega arith;
  leaving = λ e. omega arith;
  removed = λ e. omega arith;
  steady = one_there (λ e x. IsSteady x) control_endpoint
      (record { ended = λ off out. absurd (false≢true (sym off)); gone = λ on. absurd (false≢true on); ring = λ on. refl; frames = λ on. absurd (false≢true on); placed = refl });
  within = two_there (λ t y. y.endpoint < 1) stalled_request waiting_request (omega arith) (omega arith);
  sorts = λ t y x there here. one_there (λ e z. is_descriptor y.sort ≡ is_iso z.desc.kind) control_endpoint (two_there (λ k z. is_descriptor z.sort ≡ false) stalled_request waiting_request refl refl t y there) y.endpoint x here;
  unlinked = λ t y some there. absurd (omega (arith, some));
  untold = λ t y there back told x here. absurd (two_there (λ k z. z.released ≡ true → ⊥) stalled_request waiting_request false≢true false≢true t y there back);
  leaver = λ e x is here. absurd (cc);
}

pub request_owners : HasOwners request_driver
request_owners = record { owner = owner; owned = record { each = are_owned; sizes = refl; as_many = refl }; orderly = are_orderly }

-- ---- turns

are_chained : AreChained (views_of request_driver)
are_chained = record {
  some = λ t y there held. two_seen runs_of_transfer (λ k r. 1 ≤ r.qtds) stalled_request waiting_request (omega arith) (omega arith) t y there;
  next = λ t u y z there held there_u less is none.
      two_seen runs_of_transfer (λ k r. k < u → end_of v r ≡ z.first) stalled_request waiting_request
      (two_seen runs_of_transfer (λ k r. 0 < k → end_of v (runs_of_transfer stalled_request) ≡ r.first) stalled_request waiting_request (λ low. absurd (omega (arith, low))) (λ low. refl) u z there_u)
      (two_seen runs_of_transfer (λ k r. 1 < k → end_of v (runs_of_transfer waiting_request) ≡ r.first) stalled_request waiting_request (λ low. absurd (omega (arith, low))) (λ low. absurd (omega (arith, low))) u z there_u)
      t y there less;
  last = λ t y x there held here none.
      one_seen runs_of_endpoint (λ e r. end_of v y ≡ r.dummy) control_endpoint
      (two_seen runs_of_transfer (λ k r. ((u : ℕ) → NoneFrom v r.endpoint (suc k) u) → end_of v r ≡ 138) stalled_request waiting_request
      (λ alone. absurd (alone 2 1 (runs_of_transfer waiting_request) (omega arith) (omega arith) refl refl)) (λ alone. refl) t y there none)
      y.endpoint x here;
}
  where
    v : Views
    v = views_of request_driver

are_in_turn : AreInTurn request_driver
are_in_turn = record {
  places = λ t y there held. two_there (λ k z. IsAtPlace (views_of request_driver).note z) stalled_request waiting_request
      (record { some = omega arith; most = omega arith; place = refl }) (record { some = omega arith; most = omega arith; place = refl }) t y there;
  turns = record {
    reported = λ t u y z less there there_u is told. absurd (unreported u z there_u told);
    released = λ t u y z less there there_u is back. absurd (unreleased u z there_u back);
    told = λ t y there stays back. absurd (unreleased t y there back);
    next = λ e x here goes. one_there (λ k z. AreReportedTo (turn_in request_driver.transfers) k z.next) control_endpoint
        (record { transfer = turn_of stalled_request; here = refl; endpoint = refl; waits = refl; before = λ u z less. absurd (omega (arith, less)) }) e x here;
    owed = λ t y x there here goes told. absurd (unreported t y there told);
    order = λ i t u y z at. absurd (cc);
  };
  returned = λ t y x there here gone. absurd (one_there (λ e z. z.gone ≡ true → ⊥) control_endpoint false≢true y.endpoint x here gone);
}
  where
    unreported : (t : ℕ) (y : Turn) → turn_in request_driver.transfers t ≡ Some y → y.reported ≡ true → ⊥
    unreported t y there = two_seen turn_of (λ k r. r.reported ≡ true → ⊥) stalled_request waiting_request false≢true false≢true t y there

    unreleased : (t : ℕ) (y : Turn) → turn_in request_driver.transfers t ≡ Some y → y.released ≡ true → ⊥
    unreleased t y there = two_seen turn_of (λ k r. r.released ≡ true → ⊥) stalled_request waiting_request false≢true false≢true t y there

pub request_turns : AsynchronousTakesTurns request_driver
request_turns = record {
  asynchronous = record {
    endpoints = one_there (λ e x. StandsAsynchronous x) control_endpoint
        (record {
          asynchronous = record { kind = refl; speed = refl };
          placement = refl;
          chained = refl;
          unlinked = λ off. absurd (false≢true (sym off));
          ended = λ on. absurd (false≢true on);
          cancel = λ on. absurd (false≢true on);
          gone = λ on. absurd (false≢true on);
        });
    moves = two_there (λ t y. MovesAs request_driver y) stalled_request waiting_request
        (record { endpoint = control_endpoint; here = refl; sort = refl }) (record { endpoint = control_endpoint; here = refl; sort = refl });
    command = tt;
    leaver = λ e x is here. absurd (cc);
    unlinks = refl;
    removals = refl;
  };
  chained = are_chained;
  turns = are_in_turn;
}
