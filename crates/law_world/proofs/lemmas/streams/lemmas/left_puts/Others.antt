-- What the driver has of the other endpoints where one is given back.
use Rattle.std.proofs.Common.{◌≡◌, ◌≢◌, ℕ, suc, ◌==◌, ◌*◌, ◌||◌, Bool, true, false, if◌then◌else◌, List, [], ◌∷◌, ◌++◌, map, set, slice_get, Option, Some, None, option_map, ap, refl, sym, ◌∙◌, ⊎_elim}
use Rattle.std.specs.Prelude.{◌⊎◌}
use Rattle.std.proofs.lemmas.Bool.{true≢false, false≢true, eq-eqb, eqb-true}
use Rattle.std.proofs.lemmas.Option.{same_Some, slice_get-map}
use Rattle.law_driver.proofs.Common.{others_wait}
use Rattle.law_world.proofs.Common.{kept_by}
use Rattle.law_driver.proofs.Common.{let_go_same}
use Rattle.word_mem.specs.Memory.{Mem}
use Rattle.drv_table.specs.declared.content.Endpoint.{Endpoint}
use Rattle.drv_table.specs.declared.content.QtdNote.{QtdNote}
use Rattle.drv_table.specs.declared.content.Transfer.{Transfer}
use Rattle.drv_table.specs.DriverContent.{DriverContent}
use Rattle.drv_table.specs.Parts.{Parts as DriverParts}
use Rattle.drv_table.specs.Kinds.{is_iso}
use Rattle.drv_table.specs.Releases.{is_told, let_go, cancel_told, after_endpoint}
use Rattle.drv_table.specs.Rows.{after_driver_row}
use Rattle.law_driver.proofs.lemmas.endpoint_lives.Lives.{met_alike}
use Rattle.claims_driver.specs.Owners.{runs_of_endpoint, views_of, IsQueueIn}
use Rattle.claims_driver.specs.Leaving.{HasOwners}
use Rattle.law_driver.proofs.lemmas.run_owners.Released.{cancel_same}
use Rattle.law_driver.specs.chained_transfers.AsynchronousTurns.{AsynchronousTakesTurns}
use Rattle.law_driver.proofs.lemmas.chained_transfers.BulkAndControl.{not_iso}
use Rattle.law_driver_ring.specs.fed_queues.Places.{IsThere, IsMet}
use Rattle.law_queues.proofs.lemmas.fed_lends.Asked.{set_which}
use Rattle.law_world.specs.steps.endpoint_releases.Released.{IsToLeave, endpoint_row}
use Rattle.law_world.proofs.lemmas.steps.lemmas.endpoint_releases.Releasing.{queues_differ}
use Rattle.law_world.specs.streams.put_laws.TakenPuts.{puts_from}
use Rattle.law_world.specs.streams.put_laws.Owed.{rest_from}
use Rattle.law_world.proofs.lemmas.streams.lemmas.put_laws.Rests.{one_rest, one_none}

-- ---- one transfer

go_if : Bool → Bool → Transfer → Transfer
go_if b told y = if b then record y { reported = y.reported || told; released = true } else y

goes_owner : (b told : Bool) (y : Transfer) → (go_if b told y).endpoint ≡ y.endpoint
unfolding go_if
goes_owner true told y = refl
goes_owner false told y = refl

-- one that is still held was so, and is another endpoint's
held_by : (e : ℕ) (told b : Bool) (y z : Transfer) → (y.endpoint == e) ≡ b → go_if b told y ≡ z → z.released ≡ false → (z.endpoint ≢ e) × (y ≡ z)
unfolding go_if
held_by e told true y z test is off = absurd (true≢false (ap (λ (r : Transfer). r.released) is ∙ off))
held_by e told false y z test is off = (λ same. false≢true (sym test ∙ eq-eqb y.endpoint e (ap (λ (r : Transfer). r.endpoint) is ∙ same)), is)

held_in : (e : ℕ) (told : Bool) (o : Option Transfer) (z : Transfer) → option_map (let_go e told) o ≡ Some z → z.released ≡ false → (z.endpoint ≢ e) × (o ≡ Some z)
unfolding go_if
held_in e told None z there off = absurd cc
held_in e told (Some y) z there off =
    let b = held_by e told (y.endpoint == e) y z refl (same_Some (let_go e told y) z there) off in
    (b.0, ap Some b.1)

pub record HadOwner (xs : List Transfer) (t : ℕ) (z : Transfer) : Type 0 where
  pub transfer : Transfer
  pub there : slice_get xs t ≡ Some transfer
  pub owner : z.endpoint ≡ transfer.endpoint

owner_in : (xs : List Transfer) (e t : ℕ) (told : Bool) (o : Option Transfer) (z : Transfer) → slice_get xs t ≡ o → option_map (let_go e told) o ≡ Some z → HadOwner xs t z
owner_in xs e t told None z here there = absurd cc
owner_in xs e t told (Some y) z here there = record { transfer = y; there = here; owner = ap (λ (r : Transfer). r.endpoint) (sym (same_Some (let_go e told y) z there)) ∙ let_go_same e told y }

-- ---- all of them

pub puts_let_go : (puts : ℕ → List ℕ) (i e n : ℕ) (told : Bool) (ts : List Transfer) → puts_from puts i n (map (let_go e told) ts) ≡ puts_from puts i n ts
puts_let_go puts i e n told [] = refl
puts_let_go puts i e n told (y ∷ ys) =
    let rest = puts_from puts i (suc n) (map (let_go e told) ys) in
    ap (λ (o : ℕ). if o == i then puts n ∷ rest else rest) (let_go_same e told y)
    ∙ ap (λ (r : List (List ℕ)). if y.endpoint == i then puts n ∷ r else r) (puts_let_go puts i e (suc n) told ys)

one_let_go : (m : Mem) (notes : List QtdNote) (i e : ℕ) (told : Bool) (y : Transfer) → i ≢ e → one_rest m notes i (let_go e told y) ≡ one_rest m notes i y
one_let_go m notes i e told y apart = by (y.endpoint == e) refl
  where
    by : (b : Bool) → (y.endpoint == e) ≡ b → one_rest m notes i (let_go e told y) ≡ one_rest m notes i y
    by true is =
        let differs : y.endpoint ≢ i = λ same. apart (sym same ∙ eqb-true y.endpoint e is) in
        one_none m notes i (let_go e told y) (others_wait i (let_go e told y) (λ same. differs (sym (let_go_same e told y) ∙ same))) ∙ sym (one_none m notes i y (others_wait i y differs))
    by false is = ap (one_rest m notes i) (kept_by e told y (λ same. false≢true (sym is ∙ eq-eqb y.endpoint e same)))

pub rest_let_go : (m : Mem) (notes : List QtdNote) (i e : ℕ) (told : Bool) (ts : List Transfer) → i ≢ e → rest_from m notes i (map (let_go e told) ts) ≡ rest_from m notes i ts
rest_let_go m notes i e told [] apart = refl
rest_let_go m notes i e told (y ∷ ys) apart =
    ap (λ (xs : List ℕ). xs ++ rest_from m notes i (map (let_go e told) ys)) (one_let_go m notes i e told y apart)
    ∙ ap (λ (xs : List ℕ). one_rest m notes i y ++ xs) (rest_let_go m notes i e told ys apart)

-- ---- the ring

told_ring : (b : Bool) (r d : DriverContent) → r.command ≡ d.command → r.waiting ≡ d.waiting → r.rung ≡ d.rung
    → ((if b then r else d).command ≡ d.command) × (((if b then r else d).waiting ≡ d.waiting) × ((if b then r else d).rung ≡ d.rung))
told_ring true r d command waiting rung = (command, (waiting, rung))
told_ring false r d command waiting rung = (refl, (refl, refl))

-- ---- the content

module _ (p : DriverParts) (e : ℕ) (x : Endpoint) (leave : IsToLeave p.driver e x) where
  abbrev d : DriverContent
  d = p.driver

  abbrev f : DriverContent
  f = (after_driver_row (endpoint_row e) p).driver

  abbrev gone : Endpoint
  gone = record x { gone = true }

  row_is : after_driver_row (endpoint_row e) p ≡ after_endpoint p e (Some x)
  row_is = ap (after_endpoint p e) leave.here

  ring_is : ((cancel_told p.driver p.memory e x).command ≡ p.driver.command) × (((cancel_told p.driver p.memory e x).waiting ≡ p.driver.waiting) × ((cancel_told p.driver p.memory e x).rung ≡ p.driver.rung))
  ring_is = told_ring (is_told x) _ p.driver refl refl refl

  pub command_same : (after_driver_row (endpoint_row e) p).driver.command ≡ p.driver.command
  command_same = ap (λ (q : DriverParts). q.driver.command) row_is ∙ ring_is.0

  pub waiting_same : (after_driver_row (endpoint_row e) p).driver.waiting ≡ p.driver.waiting
  waiting_same = ap (λ (q : DriverParts). q.driver.waiting) row_is ∙ ring_is.1.0

  pub rung_same : (after_driver_row (endpoint_row e) p).driver.rung ≡ p.driver.rung
  rung_same = ap (λ (q : DriverParts). q.driver.rung) row_is ∙ ring_is.1.1

  pub notes_same : (after_driver_row (endpoint_row e) p).driver.notes ≡ p.driver.notes
  notes_same = ap (λ (q : DriverParts). q.driver.notes) row_is ∙ (cancel_same p.driver p.memory e x).notes

  pub transfers_are : (after_driver_row (endpoint_row e) p).driver.transfers ≡ map (let_go e (is_told x)) p.driver.transfers
  transfers_are = ap (λ (q : DriverParts). q.driver.transfers) row_is ∙ ap (map (let_go e (is_told x))) (cancel_same p.driver p.memory e x).transfers

  endpoints_are : (after_driver_row (endpoint_row e) p).driver.endpoints ≡ set p.driver.endpoints e (record x { gone = true })
  endpoints_are = ap (λ (q : DriverParts). q.driver.endpoints) row_is ∙ ap (λ (xs : List Endpoint). set xs e (record x { gone = true })) (cancel_same p.driver p.memory e x).endpoints

  pub which_end : (i : ℕ) (z : Endpoint) → slice_get (after_driver_row (endpoint_row e) p).driver.endpoints i ≡ Some z
      → ((i ≡ e) × (z ≡ record x { gone = true })) ⊎ ((i ≢ e) × (slice_get p.driver.endpoints i ≡ Some z))
  which_end i z here = set_which p.driver.endpoints e i x (record x { gone = true }) z leave.here (ap (λ (xs : List Endpoint). slice_get xs i) (sym endpoints_are) ∙ here)

  -- one that isn't given back
  pub other_end : (i : ℕ) (z : Endpoint) → slice_get (after_driver_row (endpoint_row e) p).driver.endpoints i ≡ Some z → z.gone ≡ false → (i ≢ e) × (slice_get p.driver.endpoints i ≡ Some z)
  other_end i z here kept =
      ⊎_elim (λ (own : (i ≡ e) × (z ≡ record x { gone = true })). absurd (true≢false (ap (λ (r : Endpoint). r.gone) (sym own.1) ∙ kept)))
      (λ (other : (i ≢ e) × (slice_get p.driver.endpoints i ≡ Some z)). other) (which_end i z here)

  transfer_at : (t : ℕ) → slice_get (after_driver_row (endpoint_row e) p).driver.transfers t ≡ option_map (let_go e (is_told x)) (slice_get p.driver.transfers t)
  transfer_at t = ap (λ (ts : List Transfer). slice_get ts t) transfers_are ∙ slice_get-map (let_go e (is_told x)) p.driver.transfers t

  pub held_back : (t : ℕ) (z : Transfer) → slice_get (after_driver_row (endpoint_row e) p).driver.transfers t ≡ Some z → z.released ≡ false → (z.endpoint ≢ e) × (slice_get p.driver.transfers t ≡ Some z)
  held_back t z there off = held_in e (is_told x) (slice_get p.driver.transfers t) z (sym (transfer_at t) ∙ there) off

  pub owner_back : (t : ℕ) (z : Transfer) → slice_get (after_driver_row (endpoint_row e) p).driver.transfers t ≡ Some z → HadOwner p.driver.transfers t z
  owner_back t z there = owner_in p.driver.transfers e t (is_told x) (slice_get p.driver.transfers t) z refl (sym (transfer_at t) ∙ there)

  pub other_on : (t : ℕ) (z : Transfer) → slice_get p.driver.transfers t ≡ Some z → z.endpoint ≢ e → slice_get (after_driver_row (endpoint_row e) p).driver.transfers t ≡ Some z
  other_on t z there differs = transfer_at t ∙ (ap (option_map (let_go e (is_told x))) there ∙ ap Some (kept_by e (is_told x) z differs))

  -- ---- what is there, and what is met

  pub there_before : (z : Endpoint) → IsThere (after_driver_row (endpoint_row e) p).driver z → IsThere p.driver z
  there_before z is = record { linked = λ opens. is.linked (command_same ∙ opens); kept = is.kept }

  pub met_before : (i : ℕ) (z : Endpoint) → IsMet (after_driver_row (endpoint_row e) p).driver i z → IsMet p.driver i z
  met_before i z is = record { there = there_before z is.there; near = sym (met_alike p.driver (after_driver_row (endpoint_row e) p).driver i z z refl waiting_same rung_same) ∙ is.near }

  -- ---- queue heads

  module _ (owners : HasOwners p.driver) (turns : AsynchronousTakesTurns p.driver) where
    queue_in : (i : ℕ) (z : Endpoint) → slice_get p.driver.endpoints i ≡ Some z → is_iso z.desc.kind ≡ false → z.gone ≡ false → IsQueueIn (views_of p.driver) i (runs_of_endpoint z)
    queue_in i z here queued kept = record { here = ap (option_map runs_of_endpoint) here; queued = ap (λ (b : Bool). b || z.gone) queued ∙ kept }

    pub queues_apart : (i : ℕ) (z : Endpoint) → i ≢ e → slice_get p.driver.endpoints i ≡ Some z → z.gone ≡ false → 32 * z.queue ≢ 32 * x.queue
    queues_apart i z differs here kept =
        queues_differ p.driver e i (runs_of_endpoint x) (runs_of_endpoint z) owners (queue_in e x leave.here leave.queued leave.held)
        (queue_in i z here (not_iso z.desc (turns.asynchronous.endpoints i z here).asynchronous) kept) differs
