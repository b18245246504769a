-- The worked rows.
use Rattle.std.proofs.Common.{◌≡◌, ℕ, zero, suc, ◌==◌, ◌||◌, Bool, true, false, List, [], ◌∷◌, Some, ap, refl, sym, ◌∙◌, inl, inr, arith}
use Rattle.std.proofs.lemmas.Bool.{false≢true, eq-eqb}
use Rattle.law_common.proofs.Options.{same_Some}
use Rattle.law_common.proofs.Booleans.{second_true}
use Rattle.claims_driver.specs.Owners.{EndpointRuns, TransferRuns, endpoint_in, transfer_in, views_of, IsOneOf}
use Rattle.law_driver.specs.run_owners.Worked.{busy_driver, busy_endpoints, busy_transfers}
use Rattle.claims_driver.specs.LentRuns.{begins_in}
use Rattle.claims_world.specs.Owned.{IsOwnedRun, the_list, the_head, a_queue, a_dummy, a_piece, a_buffer, a_descriptor, a_descriptor_buffer}
use Rattle.law_world.proofs.lemmas.memory.lemmas.owned_blocks.Whose.{Whose, of_driver, of_endpoint, of_transfer, of_descriptor, queue_blocks, qtd_blocks, descriptor_blocks, whose}

abbrev bulk_runs : EndpointRuns
bulk_runs = record { queue = 130; dummy = 133; bare = false }

abbrev interrupt_runs : EndpointRuns
interrupt_runs = record { queue = 136; dummy = 135; bare = false }

abbrev get_runs : TransferRuns
get_runs = record { endpoint = 0; first = 132; qtds = 1; isochronous = false; released = false }

abbrev descriptor_runs : ℕ → TransferRuns
descriptor_runs b = record { endpoint = 2; first = b; qtds = 0; isochronous = true; released = false }

pub list_owned : IsOwnedRun busy_driver 0
list_owned = the_list refl

pub head_owned : IsOwnedRun busy_driver 128
head_owned = the_head refl

pub queue_owned : IsOwnedRun busy_driver 130
queue_owned = a_queue 0 bulk_runs (record { here = refl; queued = refl }) refl

pub inactive_owned : IsOwnedRun busy_driver 133
inactive_owned = a_dummy 0 bulk_runs (record { here = refl; queued = refl }) refl

pub qtd_owned : IsOwnedRun busy_driver 132
qtd_owned = a_piece 0 get_runs (record { here = refl; held = refl; qtds = refl }) (inl refl)

pub buffer_owned : IsOwnedRun busy_driver 134
buffer_owned = a_buffer 0 132 get_runs (record { here = refl; held = refl; qtds = refl }) (inl refl) (inl refl)

pub interrupt_owned : IsOwnedRun busy_driver 136
interrupt_owned = a_queue 1 interrupt_runs (record { here = refl; queued = refl }) refl

pub reported_owned : IsOwnedRun busy_driver 138
reported_owned = a_descriptor 1 (descriptor_runs 138) (record { here = refl; held = refl; descriptor = refl }) refl

pub waiting_owned : IsOwnedRun busy_driver 140
waiting_owned = a_descriptor 2 (descriptor_runs 140) (record { here = refl; held = refl; descriptor = refl }) refl

pub slots_owned : IsOwnedRun busy_driver 152
slots_owned = a_descriptor_buffer 2 (descriptor_runs 140) (record { here = refl; held = refl; descriptor = refl }) (inl refl)

-- ---- nobody's

one_begins : (c : ℕ) (bs : List ℕ) → IsOneOf c bs → begins_in c bs ≡ true
one_begins c [] among = absurd among
one_begins c (b ∷ bs) (inl same) = ap (λ (t : Bool). t || begins_in c bs) (eq-eqb b c (sym same))
one_begins c (b ∷ bs) (inr among) = second_true (b == c) (begins_in c bs) (one_begins c bs among)

none_begins : (c : ℕ) (bs : List ℕ) → begins_in c bs ≡ false → IsOneOf c bs → ⊥
none_begins c bs off among = false≢true (sym off ∙ one_begins c bs among)

endpoint_apart : (e : ℕ) (x : EndpointRuns) → endpoint_in busy_endpoints e ≡ Some x → x.bare ≡ false → begins_in 131 (queue_blocks x) ≡ false
endpoint_apart zero x is on = ap (λ (r : EndpointRuns). begins_in 131 (queue_blocks r)) (sym (same_Some bulk_runs x is))
endpoint_apart (suc zero) x is on = ap (λ (r : EndpointRuns). begins_in 131 (queue_blocks r)) (sym (same_Some interrupt_runs x is))
endpoint_apart (suc (suc zero)) x is on =
    let bare : EndpointRuns = record { queue = 0; dummy = 0; bare = true } in
    absurd (false≢true (sym on ∙ sym (ap (λ (r : EndpointRuns). r.bare) (same_Some bare x is))))
endpoint_apart (suc (suc (suc e))) x is on = absurd (cc)

transfer_apart : (t : ℕ) (y : TransferRuns) → transfer_in busy_transfers t ≡ Some y → y.isochronous ≡ false → begins_in 131 (qtd_blocks (views_of busy_driver) y) ≡ false
transfer_apart zero y is queued = ap (λ (r : TransferRuns). begins_in 131 (qtd_blocks (views_of busy_driver) r)) (sym (same_Some get_runs y is))
transfer_apart (suc zero) y is queued = absurd (false≢true (sym queued ∙ sym (ap (λ (r : TransferRuns). r.isochronous) (same_Some (descriptor_runs 138) y is))))
transfer_apart (suc (suc zero)) y is queued = absurd (false≢true (sym queued ∙ sym (ap (λ (r : TransferRuns). r.isochronous) (same_Some (descriptor_runs 140) y is))))
transfer_apart (suc (suc (suc t))) y is queued = absurd (cc)

descriptor_apart : (t : ℕ) (y : TransferRuns) → transfer_in busy_transfers t ≡ Some y → y.isochronous ≡ true → begins_in 131 (descriptor_blocks (views_of busy_driver) y) ≡ false
descriptor_apart zero y is iso = absurd (false≢true (ap (λ (r : TransferRuns). r.isochronous) (same_Some get_runs y is) ∙ iso))
descriptor_apart (suc zero) y is iso = ap (λ (r : TransferRuns). begins_in 131 (descriptor_blocks (views_of busy_driver) r)) (sym (same_Some (descriptor_runs 138) y is))
descriptor_apart (suc (suc zero)) y is iso = ap (λ (r : TransferRuns). begins_in 131 (descriptor_blocks (views_of busy_driver) r)) (sym (same_Some (descriptor_runs 140) y is))
descriptor_apart (suc (suc (suc t))) y is iso = absurd (cc)

nobody_by : Whose (views_of busy_driver) 131 → ⊥
nobody_by (of_driver (inl is)) = absurd (omega (arith, is))
nobody_by (of_driver (inr is)) = absurd (omega (arith, is))
nobody_by (of_endpoint e x is among) = none_begins 131 (queue_blocks x) (endpoint_apart e x is.here is.queued) among
nobody_by (of_transfer t y is among) = none_begins 131 (qtd_blocks (views_of busy_driver) y) (transfer_apart t y is.here is.qtds) among
nobody_by (of_descriptor t y is among) = none_begins 131 (descriptor_blocks (views_of busy_driver) y) (descriptor_apart t y is.here is.descriptor) among

pub nobody : IsOwnedRun busy_driver 131 → ⊥
nobody is = nobody_by (whose (views_of busy_driver) 131 is)
