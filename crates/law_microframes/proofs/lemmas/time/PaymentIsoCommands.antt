-- A command with isochronous descriptors takes them on at an endpoint that is in its frames, and leaves the notes of those that there were
-- (EHCI 1.0, 3.3, 3.4, 4.6 and 4.7).
use Rattle.std.proofs.Common.{◌≡◌, ℕ, ◌⊎◌, Bool, true, false, List, length, set, slice_get, Some, ap, refl, ◌∙◌, ⊎_elim, inl, inr}
use Rattle.law_common.proofs.Lists.{set_here}
use Rattle.word_mem.specs.Memory.{Mem}
use Rattle.drv_periodic_table.specs.Periodic.{note_at}
use Rattle.drv_table.specs.declared.content.Endpoint.{Endpoint}
use Rattle.drv_table.specs.declared.content.Slots.{Slots}
use Rattle.drv_table.specs.declared.content.Transfer.{Transfer}
use Rattle.drv_table.specs.DriverContent.{DriverContent}
use Rattle.drv_table.specs.Accepting.{Offered, first_waiting}
use Rattle.drv_table.specs.IsoOffers.{slots_of}
use Rattle.claims_driver.specs.Owners.{is_descriptor}
use Rattle.law_driver.specs.in_place.InPlace.{IsInPlace}
use Rattle.law_driver.proofs.lemmas.listed_members.Events.{in_frames}
use Rattle.law_descriptors.proofs.Accepted.{made}
use Rattle.law_microframes.proofs.lemmas.visits.BelongIso.{IsIsoAccepted, IsLater, made_is, IsByRuns, transfer_there, note_was, by_runs}
use Rattle.law_microframes.proofs.lemmas.visits.BelongSeen.{seen_in, seen_set}

-- ---- what it takes on

pub record IsTaken (o : Offered) (z : Transfer) : Type 0 where
  pub endpoint : Endpoint
  pub here : slice_get o.driver.endpoints z.endpoint ≡ Some endpoint
  pub chained : endpoint.chained ≡ true

abbrev pub IsOld : DriverContent → Offered → ℕ → Transfer → Type 0
IsOld d o t z = (slice_get d.transfers t ≡ Some z) × (note_at o.driver.periodic.notes z.first ≡ note_at d.periodic.notes z.first)

module _ (d : DriverContent) (m : Mem) (o : Offered) (place : IsInPlace m d) (k : IsIsoAccepted d m o) where
  abbrev s : Slots
  s = slots_of k.endpoint k.len

  abbrev its_new : Endpoint
  its_new = record k.endpoint { next = first_waiting k.endpoint.next (length d.transfers) }

  module _ (bs : List ℕ) (by : IsByRuns d m o k bs) where
    one : (t : ℕ) (z : Transfer) → slice_get o.driver.transfers t ≡ Some z → is_descriptor z.sort ≡ true → z.released ≡ false
        → IsOld d o t z ⊎ IsTaken o z
    one t z there sort held =
        ⊎_elim {C = IsOld d o t z ⊎ IsTaken o z}
        (λ (was : slice_get d.transfers t ≡ Some z). inl (was, note_was d m o place k bs by t z was sort held))
        (λ (new : IsLater (made k.number (slots_of k.endpoint k.len) k.count bs) z).
        inr (record {
          endpoint = its_new;
          here =
              ap (λ (g : Offered). slice_get g.driver.endpoints z.endpoint) by.is
              ∙ ap (λ (e : ℕ). slice_get (set d.endpoints k.number its_new) e) (made_is k.number s k.count bs new.index z new.there).0
              ∙ set_here d.endpoints k.number k.endpoint its_new k.here;
          chained = in_frames d k.number k.endpoint place.sound.owners.orderly k.here k.goes_on k.iso;
        })) (transfer_there d m o place k bs by t z there)

  pub seen_same : (i : ℕ) → seen_in o.driver.endpoints i ≡ seen_in d.endpoints i
  seen_same i = ap (λ (g : Offered). seen_in g.driver.endpoints i) k.is ∙ seen_set d.endpoints k.number i k.endpoint _ k.here refl

  pub each_taken : (t : ℕ) (z : Transfer) → slice_get o.driver.transfers t ≡ Some z → is_descriptor z.sort ≡ true → z.released ≡ false
      → IsOld d o t z ⊎ IsTaken o z
  each_taken = one _ (by_runs d m o place k)
