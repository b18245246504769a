-- What an accepted command leaves of the endpoints of a driver, by their own descriptions: one more, which is being opened or has no queue,
-- or as many, of which none is being opened.
use Rattle.std.proofs.Common.{◌≡◌, ◌≢◌, ℕ, suc, ◌<◌, Bool, true, false, List, [], ◌∷◌, ◌++◌, length, set, slice_get, Option, Some, None}
use Rattle.std.proofs.Common.{Result, Ok, ap, refl, sym, subst, ◌∙◌, ⊎_elim, arith, zero, suc}
use Rattle.std.proofs.lemmas.Bool.{cases_eq}
use Rattle.std.proofs.lemmas.Option.{same_Some}
use Rattle.law_queues.proofs.Common.{none_open, set_which}
use Rattle.law_world.proofs.Common.{unlink_open}
use Rattle.law_reports.proofs.Common.{publish_open}
use Rattle.law_driver.proofs.Common.{ring_queue}
use Rattle.law_common.proofs.Lists.{set_here, set_there}
use Rattle.usb_base.specs.declared.commands.Cmd.{Cmd}
use Rattle.usb_base.specs.declared.commands.Cmd.TheVariants as commands
use Rattle.usb_base.specs.declared.endpoints.EpDesc.{EpDesc}
use Rattle.usb_base.specs.declared.endpoints.EpName.{EpName}
use Rattle.usb_base.specs.declared.reports.OfferError.{OfferError}
use Rattle.word_mem.specs.Memory.{Mem}
use Rattle.drv_table.specs.declared.content.Command.{Command}
use Rattle.drv_table.specs.declared.content.Command.TheVariants as unfinished
use Rattle.drv_table.specs.declared.content.Endpoint.{Endpoint}
use Rattle.drv_table.specs.Accepting.{Offered}
use Rattle.drv_table.specs.DriverContent.{DriverContent}
use Rattle.drv_table.specs.Kinds.{is_iso}
use Rattle.drv_table.specs.Offers.{Asked, accepted_iso}
use Rattle.law_driver.specs.run_owners.Accepts.{Opens, Chains, Places, Cancels, Unchains}
use Rattle.law_driver.specs.queued_drivers.Queued.{queue_of, queued_command, queued}
use Rattle.law_driver.specs.queued_drivers.Rows.{TellsAlike}
use Rattle.law_driver.proofs.lemmas.queued_drivers.CommandFields.{last_get}
use Rattle.law_driver.proofs.lemmas.queued_drivers.CommandLeaves.{IsUnchained, unchained}
use Rattle.law_driver.proofs.lemmas.queued_drivers.CommandReasons.{in_ring, in_frames, bare, IsTakenOn, IsDescribedAs, from_ring}
use Rattle.law_driver.proofs.lemmas.queued_drivers.CommandReasons.{from_frames, IsReasonOf}
use Rattle.law_reports.proofs.lemmas.pipes.Across.{ComesOf, WasIn, IsNowIn}

-- a new endpoint, of the command's description
pub data IsNewest (f : DriverContent) (x : Endpoint) : Type 0 where
  is_opening : is_iso x.desc.kind ≡ false → (queued f).command ≡ Some (unfinished.Open x.queue) → (queued f).made ≡ 0 → IsNewest f x
  is_bare : is_iso x.desc.kind ≡ true → (queued f).command ≡ None → IsNewest f x

pub data EndsThen (d f : DriverContent) (cmd : Cmd) : Type 0 where
  one_more : (x : Endpoint) → cmd ≡ commands.OpenEp x.desc → f.endpoints ≡ d.endpoints ++ x ∷ [] → x.gone ≡ false → IsNewest f x
      → TellsAlike d f → EndsThen d f cmd
  one_anew : (e : ℕ) (y z : Endpoint) → slice_get d.endpoints e ≡ Some y → f.endpoints ≡ set d.endpoints e z → ComesOf y z
      → z.gone ≡ y.gone → ((q : ℕ) → (queued f).command ≡ Some (unfinished.Open q) → ⊥) → TellsAlike d f → EndsThen d f cmd

ok_is : {p q : Offered} → ◌≡◌ {A = Result Offered OfferError} (Ok p) (Ok q) → q ≡ p
ok_is e = cc

module _ (d : DriverContent) (m : Mem) (o : Offered) where
  of_desc : (c e : EpDesc) → c ≡ e → EndsThen d o.driver (commands.OpenEp c) → EndsThen d o.driver (commands.OpenEp e)
  of_desc c e same = subst (λ (u : EpDesc). EndsThen d o.driver (commands.OpenEp u)) same

  ring_new : (w : Opens d m o) → EndsThen d o.driver (commands.OpenEp w.desc)
  ring_new w = one_more _ refl (ap (λ (g : Offered). g.driver.endpoints) w.is) refl
      (is_opening (ring_queue w.desc.kind w.ring) (ap (λ (g : Offered). (queued g.driver).command) w.is)
      (ap (λ (g : Offered). (queued g.driver).made) w.is))
      (record { reports = ap (λ (g : Offered). g.driver.reports) w.is; store = ap (λ (g : Offered). g.driver.store) w.is })

  frames_new : (w : Chains d m o) → EndsThen d o.driver (commands.OpenEp w.desc)
  frames_new w = one_more _ refl (ap (λ (g : Offered). g.driver.endpoints) w.is) refl
      (is_opening w.queued
      (ap (λ (g : Offered). (queued g.driver).command) w.is
      ∙ ap (λ (e : Option Endpoint). Some (unfinished.Open (queue_of e))) (last_get d.endpoints _))
      (ap (λ (g : Offered). (queued g.driver).made) w.is))
      (record { reports = ap (λ (g : Offered). g.driver.reports) w.is; store = ap (λ (g : Offered). g.driver.store) w.is })

  bare_new : (w : Places d m o) → EndsThen d o.driver (commands.OpenEp w.desc)
  bare_new w = one_more _ refl (ap (λ (g : Offered). g.driver.endpoints) w.is) refl
      (is_bare w.isochronous
      (ap (λ (g : Offered). (queued g.driver).command) w.is ∙ ap
      (λ (c : Option Command). queued_command (accepted_iso d w.desc w.placement).endpoints c) w.idle))
      (record { reports = ap (λ (g : Offered). g.driver.reports) w.is; store = ap (λ (g : Offered). g.driver.store) w.is })

  taken_on : (cmd : Cmd) (name : EpName) (takes : Endpoint → Bool) (a : Asked) → IsTakenOn d m o name takes a → EndsThen d o.driver cmd
  taken_on cmd name takes a w =
      let is = ok_is w.is in
      one_anew w.number w.endpoint _ w.here (ap (λ (g : Offered). g.driver.endpoints) is)
      (record { desc = refl; queue = refl; alive = λ kept. kept }) refl
      (λ q opens. publish_open _ _ q (sym (ap (λ (g : Offered). (queued g.driver).command) is) ∙ opens))
      (record { reports = ap (λ (g : Offered). g.driver.reports) is; store = ap (λ (g : Offered). g.driver.store) is })

  described : (cmd : Cmd) → IsDescribedAs d m o → EndsThen d o.driver cmd
  described cmd w =
      one_anew w.number w.endpoint _ w.here (ap (λ (g : Offered). g.driver.endpoints) w.is)
      (record { desc = refl; queue = refl; alive = λ kept. kept }) refl
      (λ q opens. none_open q (sym (ap (λ (g : Offered). (queued g.driver).command) w.is) ∙ opens))
      (record { reports = ap (λ (g : Offered). g.driver.reports) w.is; store = ap (λ (g : Offered). g.driver.store) w.is })

  ring_left : (cmd : Cmd) → Cancels d m o → EndsThen d o.driver cmd
  ring_left cmd w =
      one_anew w.number w.endpoint _ w.here (ap (λ (g : Offered). g.driver.endpoints) w.is)
      (record { desc = refl; queue = refl; alive = λ kept. kept }) refl
      (λ q opens. unlink_open _ _ _ q (sym (ap (λ (g : Offered). (queued g.driver).command) w.is) ∙ opens))
      (record { reports = ap (λ (g : Offered). g.driver.reports) w.is; store = ap (λ (g : Offered). g.driver.store) w.is })

  frames_left : (cmd : Cmd) → Unchains d m o → EndsThen d o.driver cmd
  frames_left cmd w =
      let u : IsUnchained d w.number w.endpoint o.driver = unchained d m o w in
      one_anew w.number w.endpoint _ w.here (ap (λ (f : DriverContent). f.endpoints) u.is)
      (record { desc = refl; queue = refl; alive = λ kept. kept }) refl
      (λ q opens.
      let told : (queued o.driver).command ≡ queued_command o.driver.endpoints u.command =
      ap (λ (f : DriverContent). queued_command o.driver.endpoints f.command) u.is in
      ⊎_elim
      (λ (is : u.command ≡ Some (unfinished.Unchain w.number)).
      none_open q (sym (told ∙ ap (queued_command o.driver.endpoints) is) ∙ opens))
      (λ (is : u.command ≡ None). none_open q (sym (told ∙ ap (queued_command o.driver.endpoints) is) ∙ opens)) u.which)
      (record { reports = ap (λ (f : DriverContent). f.reports) u.is; store = ap (λ (f : DriverContent). f.store) u.is })

  pub ends_then : (cmd : Cmd) → IsReasonOf d m o cmd → EndsThen d o.driver cmd
  ends_then (commands.OpenEp x) (in_ring w same) = of_desc w.desc x same (ring_new w)
  ends_then (commands.OpenEp x) (in_frames w same) = of_desc w.desc x same (frames_new w)
  ends_then (commands.OpenEp x) (bare w same) = of_desc w.desc x same (bare_new w)
  ends_then (commands.Get name len by) w = taken_on _ name _ _ w
  ends_then (commands.Put name bytes by) w = taken_on _ name _ _ w
  ends_then (commands.Control name setup bytes) w = taken_on _ name _ _ w
  ends_then (commands.Iso name count len seed) w = described _ w
  ends_then (commands.Cancel name) (from_ring w same) = ring_left _ w
  ends_then (commands.Cancel name) (from_frames w same) = frames_left _ w
  ends_then _ w = absurd w

-- ---- endpoints

pub below : (xs : List Endpoint) (e : ℕ) (y : Endpoint) → slice_get xs e ≡ Some y → e < length xs
below [] e y here = absurd cc
below (v ∷ vs) zero y here = omega arith
below (v ∷ vs) (suc e) y here = let b = below vs e y here in omega (arith, b)

itself : (y : Endpoint) → ComesOf y y
itself y = record { desc = refl; queue = refl; alive = λ kept. kept }

pub was_anew : (xs : List Endpoint) (e : ℕ) (y z : Endpoint) → slice_get xs e ≡ Some y → ComesOf y z → (i : ℕ) (v : Endpoint)
    → slice_get (set xs e z) i ≡ Some v → WasIn xs i v
was_anew xs e y z at comes i v here =
    ⊎_elim
    (λ (own : (i ≡ e) × (v ≡ z)).
    record { endpoint = y; here = ap (slice_get xs) own.0 ∙ at; comes = subst (ComesOf y) (sym own.1) comes })
    (λ (other : (i ≢ e) × (slice_get xs i ≡ Some v)). record { endpoint = v; here = other.1; comes = itself v })
    (set_which xs e i y z v at here)

pub now_anew : (xs : List Endpoint) (e : ℕ) (y z : Endpoint) → slice_get xs e ≡ Some y → ComesOf y z → (i : ℕ) (v : Endpoint)
    → slice_get xs i ≡ Some v → IsNowIn (set xs e z) i v
now_anew xs e y z at comes i v here =
    ⊎_elim
    (λ (own : i ≡ e).
    let is : y ≡ v = same_Some y v (sym at ∙ ap (slice_get xs) (sym own) ∙ here) in
    record {
      endpoint = z;
      here = ap (slice_get (set xs e z)) own ∙ set_here xs e y z at;
      comes = subst (λ (u : Endpoint). ComesOf u z) is comes;
    })
    (λ (differs : i ≢ e). record { endpoint = v; here = set_there xs e i z differs ∙ here; comes = itself v }) (cases_eq i e)
