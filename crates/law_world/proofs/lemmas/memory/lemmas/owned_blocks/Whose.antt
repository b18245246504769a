-- Whose a run is, told by the lists of blocks of endpoints and transfers.
use Rattle.std.proofs.Common.{◌≡◌, ℕ, zero, suc, ◌<◌, List, [], ◌∷◌, ◌++◌, length, get_or, Option, Some, None, option_map, slice_get, ap, refl, sym, subst, ◌∙◌, ⊎_elim, inl, inr, arith}
use Rattle.std.specs.Prelude.{◌⊎◌}
use Rattle.law_common.proofs.Options.{same_Some}
use Rattle.law_driver_ring.proofs.Common.{one_left, one_right, piece_among}
use Rattle.mem_runs.specs.declared.slots.Slot.{Slot}
use Rattle.drv_table.specs.Words.{head_block}
use Rattle.drv_table.specs.declared.content.Endpoint.{Endpoint}
use Rattle.drv_table.specs.declared.content.Transfer.{Transfer}
use Rattle.claims_driver.specs.Owners.{Owner, Element, IsPlaced, ArePieces, EndpointRuns, TransferRuns, NoteRuns, DescriptorRuns, Views, runs_of_endpoint, runs_of_transfer, endpoint_in, transfer_in, IsPieceOf, IsQueueIn, IsOneOf}
use Rattle.law_driver_ring.specs.Released.{blocks_of}
use Rattle.claims_world.specs.Owned.{IsQueued, IsIsochronous, IsOwnedIn, the_list, the_head, a_queue, a_dummy, a_piece, a_buffer, a_descriptor, a_descriptor_buffer}

abbrev pub queue_blocks : EndpointRuns → List ℕ
queue_blocks x = x.queue ∷ x.dummy ∷ []

abbrev pub qtd_blocks : Views → TransferRuns → List ℕ
qtd_blocks v y = blocks_of v.note y.first y.qtds

abbrev pub descriptor_blocks : Views → TransferRuns → List ℕ
descriptor_blocks v y = y.first ∷ (v.descriptor y.first).buffer

pub data Whose (v : Views) (b : ℕ) : Type 0 where
  of_driver : (b ≡ 0) ⊎ (b ≡ head_block) → Whose v b
  of_endpoint : (e : ℕ) (x : EndpointRuns) → IsQueueIn v e x → IsOneOf b (queue_blocks x) → Whose v b
  of_transfer : (t : ℕ) (y : TransferRuns) → IsQueued v t y → IsOneOf b (qtd_blocks v y) → Whose v b
  of_descriptor : (t : ℕ) (y : TransferRuns) → IsIsochronous v t y → IsOneOf b (descriptor_blocks v y) → Whose v b

-- ---- members of lists

pub one_split : (c : ℕ) (bs cs : List ℕ) → IsOneOf c (bs ++ cs) → IsOneOf c bs ⊎ IsOneOf c cs
one_split c [] cs among = inr among
one_split c (b ∷ bs) cs (inl same) = inl (inl same)
one_split c (b ∷ bs) cs (inr among) = ⊎_elim (λ (l : IsOneOf c bs). inl (inr l)) (λ (r : IsOneOf c cs). inr r) (one_split c bs cs among)

-- the place of one
pub record IsAt (c : ℕ) (bs : List ℕ) : Type 0 where
  pub place : ℕ
  pub below : place < length bs
  pub is : get_or bs place 0 ≡ c

pub place_of : (c : ℕ) (bs : List ℕ) → IsOneOf c bs → IsAt c bs
place_of c [] among = absurd among
place_of c (b ∷ bs) (inl same) = record { place = 0; below = omega arith; is = sym same }
place_of c (b ∷ bs) (inr among) = let r = place_of c bs among in record { place = suc r.place; below = let n = r.below in omega (arith, n); is = r.is }

-- ---- qTDs and their buffers

buffer_one : (note : ℕ → NoteRuns) (b n d c : ℕ) → IsPieceOf note b n d → IsOneOf c (note d).buffer → IsOneOf c (blocks_of note b n)
buffer_one note b zero d c is among = absurd is
buffer_one note b (suc n) d c (inl same) among =
    inr (one_left c (note b).buffer (blocks_of note (note b).next n) (subst (λ (i : ℕ). IsOneOf c (note i).buffer) same among))
buffer_one note b (suc n) d c (inr is) among = inr (one_right c (note b).buffer (blocks_of note (note b).next n) (buffer_one note (note b).next n d c is among))

-- a qTD of these, and one of the runs of its buffer
pub record IsBufferOf (note : ℕ → NoteRuns) (b n c : ℕ) : Type 0 where
  pub piece : ℕ
  pub is : IsPieceOf note b n piece
  pub among : IsOneOf c (note piece).buffer

blocks_are : (note : ℕ → NoteRuns) (b n c : ℕ) → IsOneOf c (blocks_of note b n) → IsPieceOf note b n c ⊎ IsBufferOf note b n c
blocks_are note b zero c among = absurd among
blocks_are note b (suc n) c (inl same) = inl (inl same)
blocks_are note b (suc n) c (inr among) =
    ⊎_elim (λ (here : IsOneOf c (note b).buffer). inr (record { piece = b; is = inl refl; among = here }))
    (λ (there : IsOneOf c (blocks_of note (note b).next n)).
    ⊎_elim (λ (p : IsPieceOf note (note b).next n c). inl (inr p))
    (λ (q : IsBufferOf note (note b).next n c). inr (record { piece = q.piece; is = inr q.is; among = q.among }))
    (blocks_are note (note b).next n c there))
    (one_split c (note b).buffer (blocks_of note (note b).next n) among)

-- ---- one and the same

pub whose : (v : Views) (b : ℕ) → IsOwnedIn v b → Whose v b
whose v b (the_list is) = of_driver (inl is)
whose v b (the_head is) = of_driver (inr is)
whose v b (a_queue e x here is) = of_endpoint e x here (inl is)
whose v b (a_dummy e x here is) = of_endpoint e x here (inr (inl is))
whose v b (a_piece t y here is) = of_transfer t y here (piece_among v.note y.first y.qtds b is)
whose v b (a_buffer t c y here is among) = of_transfer t y here (buffer_one v.note y.first y.qtds c b is among)
whose v b (a_descriptor t y here is) = of_descriptor t y here (inl is)
whose v b (a_descriptor_buffer t y here among) = of_descriptor t y here (inr among)

pub owned : (v : Views) (b : ℕ) → Whose v b → IsOwnedIn v b
owned v b (of_driver (inl is)) = the_list is
owned v b (of_driver (inr is)) = the_head is
owned v b (of_endpoint e x here (inl is)) = a_queue e x here is
owned v b (of_endpoint e x here (inr (inl is))) = a_dummy e x here is
owned v b (of_endpoint e x here (inr (inr none))) = absurd none
owned v b (of_transfer t y here among) =
    ⊎_elim (λ (p : IsPieceOf v.note y.first y.qtds b). a_piece t y here p)
    (λ (q : IsBufferOf v.note y.first y.qtds b). a_buffer t q.piece y here q.is q.among)
    (blocks_are v.note y.first y.qtds b among)
owned v b (of_descriptor t y here (inl is)) = a_descriptor t y here is
owned v b (of_descriptor t y here (inr among)) = a_descriptor_buffer t y here among

-- ---- what is told alike

pub blocks_alike : (note other : ℕ → NoteRuns) (b n : ℕ) → ((c : ℕ) → other c ≡ note c) → blocks_of other b n ≡ blocks_of note b n
blocks_alike note other b zero same = refl
blocks_alike note other b (suc n) same =
    ap (λ (r : NoteRuns). b ∷ (r.buffer ++ blocks_of other r.next n)) (same b)
    ∙ ap (λ (cs : List ℕ). b ∷ ((note b).buffer ++ cs)) (blocks_alike note other (note b).next n same)

-- .. where only the notes of a transfer's own qTDs are
pub blocks_still : (slot : ℕ → Slot) (owner : ℕ → Owner) (note other : ℕ → NoteRuns) (t b n : ℕ) → ((c : ℕ) → IsPlaced slot owner c (Element t) → other c ≡ note c) → ArePieces slot owner note t b n → blocks_of other b n ≡ blocks_of note b n
blocks_still slot owner note other t b zero same all = refl
blocks_still slot owner note other t b (suc n) same all =
    ap (λ (r : NoteRuns). b ∷ (r.buffer ++ blocks_of other r.next n)) (same b all.0.element)
    ∙ ap (λ (cs : List ℕ). b ∷ ((note b).buffer ++ cs)) (blocks_still slot owner note other t (note b).next n same all.1)

pub record TellsAlike (v w : Views) : Type 0 where
  pub endpoints : (e : ℕ) → w.endpoint e ≡ v.endpoint e
  pub transfers : (t : ℕ) → w.transfer t ≡ v.transfer t
  pub notes : (c : ℕ) → w.note c ≡ v.note c
  pub descriptors : (c : ℕ) → w.descriptor c ≡ v.descriptor c

pub queued_alike : (v w : Views) (t b : ℕ) (y : TransferRuns) → w.transfer t ≡ v.transfer t → qtd_blocks w y ≡ qtd_blocks v y → IsQueued v t y → IsOneOf b (qtd_blocks v y) → Whose w b
queued_alike v w t b y transfer blocks is among =
    of_transfer t y (record { here = transfer ∙ is.here; held = is.held; qtds = is.qtds }) (subst (IsOneOf b) (sym blocks) among)

pub described_alike : (v w : Views) (t b : ℕ) (y : TransferRuns) → w.transfer t ≡ v.transfer t → w.descriptor y.first ≡ v.descriptor y.first → IsIsochronous v t y → IsOneOf b (descriptor_blocks v y) → Whose w b
described_alike v w t b y transfer descriptor is among =
    of_descriptor t y (record { here = transfer ∙ is.here; held = is.held; descriptor = is.descriptor })
    (subst (λ (r : DescriptorRuns). IsOneOf b (y.first ∷ r.buffer)) (sym descriptor) among)

pub endpoint_alike : (v w : Views) (e b : ℕ) (x : EndpointRuns) → w.endpoint e ≡ v.endpoint e → IsQueueIn v e x → IsOneOf b (queue_blocks x) → Whose w b
endpoint_alike v w e b x endpoint is among = of_endpoint e x (record { here = endpoint ∙ is.here; queued = is.queued }) among

pub whose_alike : (v w : Views) (b : ℕ) → TellsAlike v w → Whose v b → Whose w b
whose_alike v w b same (of_driver is) = of_driver is
whose_alike v w b same (of_endpoint e x is among) = endpoint_alike v w e b x (same.endpoints e) is among
whose_alike v w b same (of_transfer t y is among) = queued_alike v w t b y (same.transfers t) (blocks_alike v.note w.note y.first y.qtds same.notes) is among
whose_alike v w b same (of_descriptor t y is among) = described_alike v w t b y (same.transfers t) (same.descriptors y.first) is among

pub owned_alike : (v w : Views) (b : ℕ) → TellsAlike v w → IsOwnedIn v b → IsOwnedIn w b
owned_alike v w b same is = owned w b (whose_alike v w b same (whose v b is))

-- ---- what a view shows

pub record IsEndpointAt (xs : List Endpoint) (e : ℕ) (r : EndpointRuns) : Type 0 where
  pub endpoint : Endpoint
  pub here : slice_get xs e ≡ Some endpoint
  pub runs : runs_of_endpoint endpoint ≡ r

pub record IsTransferAt (ts : List Transfer) (t : ℕ) (r : TransferRuns) : Type 0 where
  pub transfer : Transfer
  pub here : slice_get ts t ≡ Some transfer
  pub runs : runs_of_transfer transfer ≡ r

transfer_by : (ts : List Transfer) (t : ℕ) (r : TransferRuns) (o : Option Transfer) → slice_get ts t ≡ o → option_map runs_of_transfer o ≡ Some r → IsTransferAt ts t r
transfer_by ts t r None here is = absurd (cc)
transfer_by ts t r (Some y) here is = record { transfer = y; here = here; runs = same_Some (runs_of_transfer y) r is }

pub transfer_at : (ts : List Transfer) (t : ℕ) (r : TransferRuns) → transfer_in ts t ≡ Some r → IsTransferAt ts t r
transfer_at ts t r is = transfer_by ts t r (slice_get ts t) refl is

endpoint_by : (xs : List Endpoint) (e : ℕ) (r : EndpointRuns) (o : Option Endpoint) → slice_get xs e ≡ o → option_map runs_of_endpoint o ≡ Some r → IsEndpointAt xs e r
endpoint_by xs e r None here is = absurd (cc)
endpoint_by xs e r (Some x) here is = record { endpoint = x; here = here; runs = same_Some (runs_of_endpoint x) r is }

pub endpoint_at : (xs : List Endpoint) (e : ℕ) (r : EndpointRuns) → endpoint_in xs e ≡ Some r → IsEndpointAt xs e r
endpoint_at xs e r is = endpoint_by xs e r (slice_get xs e) refl is
