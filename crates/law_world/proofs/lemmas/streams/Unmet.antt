-- What stays closed where each endpoint that the walk can't meet any more couldn't be met before, and what was told of those that were given back stands
-- (EHCI 1.0, 4.8.2; USB 2.0, 8.6).
use Rattle.std.proofs.Common.{◌≡◌, ℕ, ◌*◌, Bool, true, false, List, slice_get, Option, Some, ap, sym, subst, ◌∙◌, refl}
use Rattle.std.proofs.lemmas.Bool.{true≢false}
use Rattle.std.specs.List.{concat}
use Rattle.usb_base.specs.declared.endpoints.EpDesc.{EpDesc}
use Rattle.claims_base.specs.Prefix.{IsPrefix}
use Rattle.drv_table.specs.declared.content.Endpoint.{Endpoint}
use Rattle.drv_table.specs.declared.content.Command.TheVariants as unfinished
use Rattle.drv_table.specs.DriverContent.{DriverContent}
use Rattle.law_driver.specs.endpoint_lives.Lives.{may_meet}
use Rattle.law_ring.specs.OutBus.{Taker}
use Rattle.claims_driver.specs.Scripts.{receives, comes_in}
use Rattle.law_driver_ring.specs.fed_queues.Places.{IsThere}
use Rattle.law_queues.specs.leaving_drivers.Told.{told_to, IsGoneIn}
use Rattle.law_queues.specs.leaving_drivers.Before.{IsAsBefore, NearSame}
use Rattle.law_world.specs.streams.right_worlds.Right.{ClosedIns}
use Rattle.claims_world.specs.Streams.{IsToldTaken}
use Rattle.law_world.specs.streams.taken_reports.Laws.{bytes_taken}
use Rattle.law_world.specs.streams.taken_reports.Worlds.{ClosedOuts}
use Rattle.law_world.specs.streams.Left.{AreShut}

-- endpoint e, which is z, was opened as z was, has its queue head where z has it, and couldn't be met
pub record WasUnmet (d : DriverContent) (e : ℕ) (z : Endpoint) : Type 0 where
  pub endpoint : Endpoint
  pub here : slice_get d.endpoints e ≡ Some endpoint
  pub desc : z.desc ≡ endpoint.desc
  pub queue : z.queue ≡ endpoint.queue
  pub gone : z.gone ≡ endpoint.gone
  pub unmet : may_meet d e endpoint ≡ false

abbrev pub UnmetStay : DriverContent → DriverContent → Type 0
UnmetStay d f = (e : ℕ) (z : Endpoint) → slice_get f.endpoints e ≡ Some z → may_meet f e z ≡ false → WasUnmet d e z

abbrev pub GoneStay : DriverContent → DriverContent → Type 0
GoneStay d f = (e : ℕ) (z : Endpoint) → slice_get f.endpoints e ≡ Some z → z.gone ≡ true → IsGoneIn d e z (told_to f z.desc.name)

-- an endpoint whose open isn't finished may be met
abbrev pub OpenedIsMet : DriverContent → Type 0
OpenedIsMet d = (e : ℕ) (x : Endpoint) → slice_get d.endpoints e ≡ Some x → x.gone ≡ false → d.command ≡ Some (unfinished.Open x.queue) → may_meet d e x ≡ true

-- ---- which stay

pub unmet_itself : (d : DriverContent) → UnmetStay d d
unmet_itself d e z here off = record { endpoint = z; here = here; desc = refl; queue = refl; gone = refl; unmet = off }

pub unmet_before : (d f : DriverContent) → IsAsBefore d f → NearSame d f → UnmetStay d f
unmet_before d f b near e z here off =
    let w = b.ends e z here in
    record { endpoint = w.endpoint; here = w.here; desc = w.desc; queue = w.queue; gone = w.gone; unmet = sym (near e w.endpoint z w.here here) ∙ off }

-- ---- what stays closed

module _ (d f : DriverContent) (unmet : UnmetStay d f) (opened : OpenedIsMet d) (gone : GoneStay d f) where
  there_was : (e : ℕ) (z : Endpoint) (w : WasUnmet d e z) → IsThere f z → IsThere d w.endpoint
  there_was e z w t =
      let kept : w.endpoint.gone ≡ false = sym w.gone ∙ t.kept in
      record { linked = λ is. true≢false (sym (opened e w.endpoint w.here kept is) ∙ w.unmet); kept = kept }

  pub closed_ins : (packets : ℕ → ℕ → List (List ℕ)) (acc : ℕ → List (List ℕ)) → ClosedIns d packets acc → ClosedIns f packets acc
  closed_ins packets acc old = record {
    left = λ e z here comes there off.
        let w = unmet e z here off in
        subst (λ (q : ℕ). IsPrefix (concat (acc (32 * q))) (concat (packets z.desc.name.addr z.desc.name.num))) (sym w.queue)
        (subst (λ (c : EpDesc). IsPrefix (concat (acc (32 * w.endpoint.queue))) (concat (packets c.name.addr c.name.num))) (sym w.desc)
        (old.left e w.endpoint w.here (ap (λ (c : EpDesc). comes_in c.name.way) (sym w.desc) ∙ comes) (there_was e z w there) w.unmet));
    gone = λ e z here comes is.
        let g = gone e z here is in
        subst (λ (bytes : List ℕ). IsPrefix bytes (concat (packets z.desc.name.addr z.desc.name.num))) g.told
        (subst (λ (c : EpDesc). IsPrefix (told_to d g.endpoint.desc.name) (concat (packets c.name.addr c.name.num))) g.desc
        (old.gone e g.endpoint g.here (ap (λ (c : EpDesc). comes_in c.name.way) g.desc ∙ comes) g.gone));
  }

  pub closed_outs : {W : Type 0} (taker : W → ℕ → ℕ → Option Taker) (acc : ℕ → List (List ℕ)) (wire : W) → ClosedOuts d taker acc wire → ClosedOuts f taker acc wire
  closed_outs taker acc wire old = record {
    left = λ e z here goes there off.
        let w = unmet e z here off in
        subst (λ (q : ℕ). IsToldTaken (concat (acc (32 * q))) (bytes_taken (taker wire z.desc.name.addr z.desc.name.num))) (sym w.queue)
        (subst (λ (c : EpDesc). IsToldTaken (concat (acc (32 * w.endpoint.queue))) (bytes_taken (taker wire c.name.addr c.name.num))) (sym w.desc)
        (old.left e w.endpoint w.here (ap (λ (c : EpDesc). receives c.name.way) (sym w.desc) ∙ goes) (there_was e z w there) w.unmet));
    gone = λ e z here goes is.
        let g = gone e z here is in
        subst (λ (bytes : List ℕ). IsToldTaken bytes (bytes_taken (taker wire z.desc.name.addr z.desc.name.num))) g.told
        (subst (λ (c : EpDesc). IsToldTaken (told_to d g.endpoint.desc.name) (bytes_taken (taker wire c.name.addr c.name.num))) g.desc
        (old.gone e g.endpoint g.here (ap (λ (c : EpDesc). receives c.name.way) g.desc ∙ goes) g.gone));
  }

pub still_shut : (d f : DriverContent) (takes : ℕ → ℕ → Bool) → UnmetStay d f → AreShut d takes → AreShut f takes
still_shut d f takes unmet old e z here goes off =
    let w = unmet e z here off in
    ap (λ (c : EpDesc). takes c.name.addr c.name.num) w.desc
    ∙ old e w.endpoint w.here (ap (λ (c : EpDesc). receives c.name.way) (sym w.desc) ∙ goes) w.unmet
