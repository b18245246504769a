-- An endpoint that leaves its frames has ended, in any driver: what is owed to be given back tells it.
use Rattle.std.proofs.Common.{◌≡◌, ◌≢◌, ℕ, Bool, true, false, Option, Some, None, ap, refl, sym, ◌∙◌, arith}
use Rattle.std.specs.Prelude.{slice_get, is_some}
use Rattle.std.proofs.lemmas.Bool.{true≢false, false≢true}
use Rattle.std.proofs.lemmas.Option.{same_Some}
use Rattle.usb_base.specs.declared.endpoints.EndCause.{EndCause}
use Rattle.drv_periodic_table.specs.Periodic.{is_periodic}
use Rattle.drv_periodic_table.specs.declared.content.Removal.{Removal}
use Rattle.drv_periodic_table.specs.declared.content.Removed.TheVariants as removed
use Rattle.drv_table.specs.declared.content.Endpoint.{Endpoint}
use Rattle.drv_table.specs.DriverContent.{DriverContent}
use Rattle.claims_driver.specs.Leaving.{leaver, IsSteady, IsOrderly}
use Rattle.law_driver.proofs.lemmas.run_owners.Orders.{IsRemoved, has_removed}
use Rattle.law_descriptors.proofs.Returning.{endpoint_counts}
use Rattle.law_world.specs.memory.framed_memory.Isochronous.{LeavingHaveEnded}
use Rattle.law_world.specs.memory.framed_memory.IsochronousLaws.{OwnersTellLeaving}

not_none : (o : Option EndCause) → is_some o ≡ true → o ≢ None
not_none None some none = false≢true some
not_none (Some cause) some none = cc

-- what has a place in the frames is never in the ring
out_of_ring : (x : Endpoint) → IsSteady x → is_periodic x.desc.kind ≡ true → x.linked ≡ false
out_of_ring x s periodic = by x.linked refl
  where
    by : (b : Bool) → x.linked ≡ b → b ≡ false
    by true on = absurd (true≢false (sym periodic ∙ s.ring on))
    by false off = refl

-- what was unlinked is an endpoint out of its frames
is_removed : (d : DriverContent) (i e : ℕ) (r : Removal) → IsOrderly d → slice_get d.periodic.removals i ≡ Some r → r.what ≡ removed.Endpoint e → IsRemoved d.endpoints e
is_removed d i e r orderly here what =
    let some = endpoint_counts e d.periodic.removals i r here what in
    let most = orderly.removed e in
    has_removed d.endpoints e (slice_get d.endpoints e) refl (omega (arith, some, most))

removed_is_ended : (d : DriverContent) (e : ℕ) (x : Endpoint) → IsOrderly d → IsRemoved d.endpoints e → slice_get d.endpoints e ≡ Some x → is_some x.ended ≡ true
removed_is_ended d e x orderly out there =
    let same : out.endpoint ≡ x = same_Some out.endpoint x (sym out.here ∙ there) in
    let s : IsSteady x = orderly.steady e x there in
    s.ended (out_of_ring x s (ap (λ (z : Endpoint). is_periodic z.desc.kind) (sym same) ∙ out.frames)) (ap (λ (z : Endpoint). z.chained) (sym same) ∙ out.chained)

orderly_ended : (d : DriverContent) → IsOrderly d → LeavingHaveEnded d
orderly_ended d orderly = record {
  unchained = λ e x command here. not_none x.ended (orderly.leaver e x (ap leaver command) here);
  removed_ended = λ i e r x here what there. not_none x.ended (removed_is_ended d e x orderly (is_removed d i e r orderly here what) there);
}

pub owners_tell_leaving : OwnersTellLeaving
owners_tell_leaving d has = orderly_ended d has.orderly
