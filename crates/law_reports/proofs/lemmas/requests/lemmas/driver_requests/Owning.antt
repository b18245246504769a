-- Whose the qTDs of requests are, and where these stand.
use Rattle.std.proofs.Common.{◌≡◌, ◌≢◌, ℕ, zero, suc, ◌+◌, ◌*◌, ◌≤◌, ◌⊎◌, Bool, true, false, not, nat_eq, if◌then◌else◌, List, [], ◌∷◌, length, slice_get, Some, None, option_map, ap, sym, subst, ◌∙◌, refl, ⊎_elim, inl, inr, arith}
use Rattle.std.proofs.lemmas.Option.{same_Some}
use Rattle.mem_runs.specs.declared.slots.Slot.{Slot}
use Rattle.drv_table.specs.declared.content.Stage.{Stage}
use Rattle.drv_table.specs.declared.content.Transfer.{Transfer}
use Rattle.drv_table.specs.DriverContent.{DriverContent}
use Rattle.drv_table.specs.Words.{asks_in, request_length, setup_stage, data_stage, status_stage, request_stages}
use Rattle.claims_driver.specs.Owners.{Owner, Dummy, Element, IsPlaced, EndpointRuns, TransferRuns, NoteRuns, runs_of_endpoint, runs_of_transfer, note_in, ArePieces, views_of, IsPieceOf}
use Rattle.claims_driver.specs.Leaving.{HasOwners}
use Rattle.claims_report.specs.Requests.{Request}
use Rattle.law_request.specs.Host.{Endpoint, has_data}
use Rattle.law_driver_ring.specs.Inventory.{Sort, OfElement, IsDriverOwned}
use Rattle.law_driver_ring.specs.Inventory.IsDriverOwned.{the_list, the_head, a_queue, a_dummy, a_piece, a_buffer}
use Rattle.law_devices.specs.ring_requests.Laid.{Places}
use Rattle.law_reports.specs.requests.request_bytes.Fresh.{data_places, other_places, next_of}
use Rattle.claims_world.specs.Requests.{setup_at}
use Rattle.law_reports.specs.requests.driver_requests.Requests.{IsOfEndpoint, IsOfTransfer, IsLaidOut, HaveQtds}
use Rattle.law_reports.proofs.lemmas.requests.lemmas.driver_requests.Finding.{IsSetup, found_setup, no_setup}

-- ---- how many qTDs a request has

pub qtds_case : (r : Request) → ((has_data r ≡ false) × (length (request_stages r.setup) ≡ 2)) ⊎ ((has_data r ≡ true) × (length (request_stages r.setup) ≡ 3))
qtds_case r = by (nat_eq (request_length r.setup) 0) refl
  where
    some : List Stage
    some = setup_stage ∷ data_stage (asks_in r.setup) (request_length r.setup) ∷ status_stage (not (asks_in r.setup)) ∷ []

    none : List Stage
    none = setup_stage ∷ status_stage true ∷ []

    by : (b : Bool) → nat_eq (request_length r.setup) 0 ≡ b → ((has_data r ≡ false) × (length (request_stages r.setup) ≡ 2)) ⊎ ((has_data r ≡ true) × (length (request_stages r.setup) ≡ 3))
    by true is = inl (ap not is, ap (λ (t : Bool). length (if t then none else some)) is)
    by false is = inr (ap not is, ap (λ (t : Bool). length (if t then none else some)) is)

pub first_piece : (note : ℕ → NoteRuns) (b n : ℕ) → 1 ≤ n → IsPieceOf note b n b
first_piece note b zero some = absurd (omega (arith, some))
first_piece note b (suc n) some = inl refl

pub second_piece : (note : ℕ → NoteRuns) (b n : ℕ) → 2 ≤ n → IsPieceOf note b n (note b).next
second_piece note b zero some = absurd (omega (arith, some))
second_piece note b (suc n) some = inr (first_piece note (note b).next n (omega (arith, some)))

pub third_piece : (note : ℕ → NoteRuns) (b n : ℕ) → 3 ≤ n → IsPieceOf note b n (note (note b).next).next
third_piece note b zero some = absurd (omega (arith, some))
third_piece note b (suc n) some = inr (second_piece note (note b).next n (omega (arith, some)))

-- ---- where they stand

pub places_with_data : (d : DriverContent) (t : ℕ) (r : Request) (x : Places) → (k : IsLaidOut d t r x) → has_data r ≡ true
    → x ≡ data_places k.own.first (next_of d.notes k.own.first) (next_of d.notes (next_of d.notes k.own.first)) (next_of d.notes (next_of d.notes (next_of d.notes k.own.first)))
places_with_data d t r x k some =
    let b = k.own.first in
    k.places
    ∙ ap (λ (g : Bool). if g then data_places b (next_of d.notes b) (next_of d.notes (next_of d.notes b)) (next_of d.notes (next_of d.notes (next_of d.notes b))) else other_places b (next_of d.notes b) (next_of d.notes (next_of d.notes b)))
    some

pub places_without : (d : DriverContent) (t : ℕ) (r : Request) (x : Places) → (k : IsLaidOut d t r x) → has_data r ≡ false
    → x ≡ other_places k.own.first (next_of d.notes k.own.first) (next_of d.notes (next_of d.notes k.own.first))
places_without d t r x k none =
    let b = k.own.first in
    k.places
    ∙ ap (λ (g : Bool). if g then data_places b (next_of d.notes b) (next_of d.notes (next_of d.notes b)) (next_of d.notes (next_of d.notes (next_of d.notes b))) else other_places b (next_of d.notes b) (next_of d.notes (next_of d.notes b)))
    none

pub setup_place : (d : DriverContent) (t : ℕ) (r : Request) (x : Places) → (k : IsLaidOut d t r x) → 32 * k.own.first ≡ x.setup
setup_place d t r x k =
    ⊎_elim {C = 32 * k.own.first ≡ x.setup} (λ none. sym (ap (λ (p : Places). p.setup) (places_without d t r x k none.0)))
    (λ some. sym (ap (λ (p : Places). p.setup) (places_with_data d t r x k some.0))) (qtds_case r)

-- one of the transfer's qTDs stands there
pub record IsQtdAt (d : DriverContent) (y : Transfer) (a : ℕ) : Type 0 where
  pub block : ℕ
  pub at : a ≡ 32 * block
  pub piece : IsPieceOf (note_in d.notes) y.first y.qtds block

pub status_place : (d : DriverContent) (t : ℕ) (r : Request) (x : Places) → (k : IsLaidOut d t r x) → IsQtdAt d k.own x.status
status_place d t r x k =
    ⊎_elim {C = IsQtdAt d k.own x.status}
    (λ none. record {
      block = next_of d.notes k.own.first;
      at = ap (λ (p : Places). p.status) (places_without d t r x k none.0);
      piece = second_piece (note_in d.notes) k.own.first k.own.qtds (let q = k.qtds in let m = none.1 in omega (arith, q, m));
    })
    (λ some. record {
      block = next_of d.notes (next_of d.notes k.own.first);
      at = ap (λ (p : Places). p.status) (places_with_data d t r x k some.0);
      piece = third_piece (note_in d.notes) k.own.first k.own.qtds (let q = k.qtds in let m = some.1 in omega (arith, q, m));
    })
    (qtds_case r)

pub data_place : (d : DriverContent) (t : ℕ) (r : Request) (x : Places) → (k : IsLaidOut d t r x) → (x.data_at ≡ 32 * k.own.first + 1) ⊎ IsQtdAt d k.own x.data_at
data_place d t r x k =
    ⊎_elim {C = (x.data_at ≡ 32 * k.own.first + 1) ⊎ IsQtdAt d k.own x.data_at}
    (λ none. inl (ap (λ (p : Places). p.data_at) (places_without d t r x k none.0)))
    (λ some. inr (record {
      block = next_of d.notes k.own.first;
      at = ap (λ (p : Places). p.data_at) (places_with_data d t r x k some.0);
      piece = second_piece (note_in d.notes) k.own.first k.own.qtds (let q = k.qtds in let m = some.1 in omega (arith, q, m));
    }))
    (qtds_case r)

-- ---- whose they are

abbrev pub element_of : Owner → ℕ
element_of (Element t) = t
element_of _ = 0

pub piece_placed : (slot : ℕ → Slot) (owner : ℕ → Owner) (note : ℕ → NoteRuns) (t b n c : ℕ) → ArePieces slot owner note t b n → IsPieceOf note b n c → IsPlaced slot owner c (Element t)
piece_placed slot owner note t b zero c all is = absurd is
piece_placed slot owner note t b (suc n) c all (inl same) = subst (λ (i : ℕ). IsPlaced slot owner i (Element t)) (sym same) all.0.element
piece_placed slot owner note t b (suc n) c all (inr is) = piece_placed slot owner note t (note b).next n c all.1 is

piece_owner : (slot : ℕ → Slot) (owner : ℕ → Owner) (note : ℕ → NoteRuns) (t b n c : ℕ) → ArePieces slot owner note t b n → IsPieceOf note b n c → owner c ≡ Element t
piece_owner slot owner note t b n c all is = (piece_placed slot owner note t b n c all is).owned

module _ (d : DriverContent) (has : HasOwners d) where
  pub owned_piece : (t c : ℕ) (y : Transfer) → slice_get d.transfers t ≡ Some y → y.released ≡ false → IsPieceOf (note_in d.notes) y.first y.qtds c → has.owner c ≡ Element t
  owned_piece t c y here held piece =
      let v = views_of d in
      piece_owner v.slot has.owner v.note t y.first y.qtds c (has.owned.each.pieces t (runs_of_transfer y) (ap (option_map runs_of_transfer) here) held) piece

  module _ (some : HaveQtds d) where
    owned_setup : (a t : ℕ) → (s : IsSetup d a t) → has.owner s.own.first ≡ Element t
    owned_setup a t s =
        owned_piece t s.own.first s.own s.here s.held (first_piece (note_in d.notes) s.own.first s.own.qtds (some t s.own s.here s.sort s.held))

    -- where a qTD of transfer t stands no other request begins
    only_setup : (a t c k : ℕ) → a ≡ 32 * c → has.owner c ≡ Element t → IsSetup d a k → k ≡ t
    only_setup a t c k at owned s =
        let place = s.place in
        let same : s.own.first ≡ c = omega (arith, place, at) in
        ap element_of (sym (owned_setup a k s) ∙ ap has.owner same ∙ owned)

    pub laid_setup : (e t : ℕ) (r : Request) (x : Places) → IsOfTransfer d e t → IsLaidOut d t r x → setup_at d x.setup ≡ Some t
    laid_setup e t r x of k =
        let same : of.own ≡ k.own = same_Some of.own k.own (sym of.here ∙ k.here) in
        let place = setup_place d t r x k in
        let s : IsSetup d x.setup t = record { own = k.own; here = k.here; sort = sym (ap (λ (y : Transfer). y.sort) same) ∙ of.sort; held = k.held; place = place } in
        found_setup d x.setup t s (λ i other. only_setup x.setup t k.own.first i (sym place) (owned_setup x.setup t s) other)

    pub laid_beside : (t : ℕ) (r : Request) (x : Places) (a : ℕ) → (k : IsLaidOut d t r x) → IsQtdAt d k.own a → x.setup ≢ a → setup_at d a ≡ None
    laid_beside t r x a k q apart = no_setup d a (λ i s. apart (begins i s))
      where
        begins : (i : ℕ) → IsSetup d a i → x.setup ≡ a
        begins i s =
            let one : i ≡ t = only_setup a t q.block i q.at (owned_piece t q.block k.own k.here k.held q.piece) s in
            let same : s.own ≡ k.own = same_Some s.own k.own (sym s.here ∙ ap (slice_get d.transfers) one ∙ k.here) in
            sym (setup_place d t r x k) ∙ ap (λ (y : Transfer). 32 * y.first) (sym same) ∙ s.place

    pub nobody_there : (b a : ℕ) → a ≡ 32 * b + 1 → setup_at d a ≡ None
    nobody_there b a at = no_setup d a (λ i s. let place = s.place in omega (arith, place, at))

    -- the queue head of a structure in which a request of endpoint e begins
    pub same_queue : (e n u : ℕ) (x : Endpoint) → IsOfEndpoint d x n e → (k a : ℕ) (kind : Sort) → kind ≡ OfElement → IsDriverOwned (views_of d) k a kind → (s : IsSetup d a u) → s.own.endpoint ≡ e → k ≡ n
    same_queue e n u x own _ _ _ kind the_list s of = absurd (cc)
    same_queue e n u x own _ _ _ kind the_head s of = absurd (cc)
    same_queue e n u x own _ _ _ kind (a_queue i z is lent) s of = absurd (cc)
    same_queue e n u x own _ _ _ kind (a_buffer t b c cs y z is piece first lent) s of = absurd (cc)
    same_queue e n u x own _ _ _ kind (a_dummy i z is lent) s of =
        let place = s.place in
        let same : s.own.first ≡ z.dummy = omega (arith, place) in
        let clash : Element u ≡ Dummy i = sym (owned_setup _ u s) ∙ ap has.owner same ∙ (has.owned.each.dummy i z is.here is.queued).owned in
        absurd (cc)
    same_queue e n u x own _ _ _ kind (a_piece t b y z is piece lent) s of =
        let v = views_of d in
        let owned : has.owner b ≡ Element t = piece_owner v.slot has.owner v.note t y.first y.qtds b (has.owned.each.pieces t y is.here is.held) piece in
        let one : u ≡ t = only_setup _ t b u refl owned s in
        let runs : runs_of_transfer s.own ≡ y = same_Some (runs_of_transfer s.own) y (sym (ap (option_map runs_of_transfer) s.here) ∙ ap v.transfer one ∙ is.here) in
        let at : y.endpoint ≡ e = sym (ap (λ (w : TransferRuns). w.endpoint) runs) ∙ of in
        let queue : runs_of_endpoint own.own ≡ z = same_Some (runs_of_endpoint own.own) z (sym (ap (option_map runs_of_endpoint) own.here) ∙ ap v.endpoint (sym at) ∙ is.queue.here) in
        sym (ap (λ (w : EndpointRuns). 32 * w.queue) queue) ∙ sym own.queue
