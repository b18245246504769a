-- What becomes of descriptors of an isochronous endpoint that is open.
use Rattle.std.proofs.Common.{◌≡◌, ℕ, ◌+◌, Bool, true, false, not, ◌||◌, cond, count_by, Some, None, Result, Err, unwrap_or, ap, sym, ◌∙◌}
use Rattle.usb_base.specs.declared.endpoints.EpName.{EpName}
use Rattle.usb_base.specs.declared.reports.OfferError.{OfferError}
use Rattle.usb_base.specs.declared.reports.OfferError.TheVariants as errors
use Rattle.word_mem.specs.Memory.{Mem}
use Rattle.mem_runs.specs.Book.{holding}
use Rattle.drv_table.specs.declared.content.Endpoint.{Endpoint}
use Rattle.drv_table.specs.declared.content.Slots.{Slots}
use Rattle.drv_table.specs.DriverContent.{DriverContent, endpoint_of, endpoint_named, waits_for}
use Rattle.drv_table.specs.Kinds.{is_iso}
use Rattle.drv_table.specs.Accepting.{Offered, take_runs}
use Rattle.drv_table.specs.IsoOffers.{offered_iso, open_iso, taken_iso, iso_needs, slots_of, has_slots, spans_too_long}

-- by whether they span too much, and whether their slots fit
abbrev pub if_fitting : DriverContent → Mem → ℕ → Endpoint → Slots → ℕ → ℕ → Bool → Bool → Result Offered OfferError
if_fitting d m e x s n seed long fits = cond (long || not fits) (Err errors.TooLong) (taken_iso d e x s n seed (take_runs (holding d.book m) (iso_needs s n)))

iso_at : (d : DriverContent) (m : Mem) (name : EpName) (e : ℕ) (x : Endpoint) (n len seed : ℕ) → endpoint_of d name ≡ Some e → endpoint_named d name ≡ Some x → is_iso x.desc.kind ≡ true → x.ended ≡ None → offered_iso d m (unwrap_or (endpoint_of d name) 0) n len seed (endpoint_named d name) ≡ if_fitting d m e x (slots_of x len) n seed (spans_too_long x (n + count_by (waits_for e) d.transfers)) (has_slots x (slots_of x len))
iso_at d m name e x n len seed number there kind going =
    ap (λ o. offered_iso d m (unwrap_or (endpoint_of d name) 0) n len seed o) there
    ∙ ap (λ o. offered_iso d m (unwrap_or o 0) n len seed (Some x)) number
    ∙ ap (λ b. cond b (open_iso d m e x (slots_of x len) n seed x.ended) (Err errors.NoEndpoint)) kind
    ∙ ap (λ o. open_iso d m e x (slots_of x len) n seed o) going

pub iso_too_long : (d : DriverContent) (m : Mem) (name : EpName) (e : ℕ) (x : Endpoint) (n len seed : ℕ) → endpoint_of d name ≡ Some e → endpoint_named d name ≡ Some x → is_iso x.desc.kind ≡ true → x.ended ≡ None → spans_too_long x (n + count_by (waits_for e) d.transfers) ≡ true → offered_iso d m (unwrap_or (endpoint_of d name) 0) n len seed (endpoint_named d name) ≡ Err errors.TooLong
iso_too_long d m name e x n len seed number there kind going long =
    iso_at d m name e x n len seed number there kind going ∙ ap (λ b. if_fitting d m e x (slots_of x len) n seed b (has_slots x (slots_of x len))) long

pub iso_taken : (d : DriverContent) (m : Mem) (name : EpName) (e : ℕ) (x : Endpoint) (s : Slots) (n len seed : ℕ) (r : Result Offered OfferError) → endpoint_of d name ≡ Some e → endpoint_named d name ≡ Some x → is_iso x.desc.kind ≡ true → x.ended ≡ None → spans_too_long x (n + count_by (waits_for e) d.transfers) ≡ false → has_slots x (slots_of x len) ≡ true → s ≡ slots_of x len → taken_iso d e x s n seed (take_runs (holding d.book m) (iso_needs s n)) ≡ r → offered_iso d m (unwrap_or (endpoint_of d name) 0) n len seed (endpoint_named d name) ≡ r
iso_taken d m name e x s n len seed r number there kind going short fits same this =
    iso_at d m name e x n len seed number there kind going
    ∙ ap (λ b. if_fitting d m e x (slots_of x len) n seed b (has_slots x (slots_of x len))) short
    ∙ ap (λ b. if_fitting d m e x (slots_of x len) n seed false b) fits
    ∙ ap (λ (t : Slots). taken_iso d e x t n seed (take_runs (holding d.book m) (iso_needs t n))) (sym same)
    ∙ this
