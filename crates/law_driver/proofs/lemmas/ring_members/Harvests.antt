-- What a harvest leaves of the ring: all of it.
use Rattle.std.proofs.Common.{◌≡◌, ℕ, zero, suc, ◌-◌, Bool, true, false, cond, List, [], ◌∷◌, ◌++◌, length, set, drop, slice_get, Option, Some, None, ◌∙◌, inl, inr, refl}
use Rattle.std.specs.List.{AllByRecursion}
use Rattle.usb_base.specs.declared.endpoints.EpName.{EpName}
use Rattle.usb_base.specs.declared.endpoints.EndCause.{EndCause}
use Rattle.word_mem.specs.Memory.{Mem}
use Rattle.drv_table.specs.declared.content.Endpoint.{Endpoint}
use Rattle.drv_table.specs.declared.content.Transfer.{Transfer}
use Rattle.drv_table.specs.declared.content.Mend.{Mend}
use Rattle.drv_table.specs.declared.rows.Found.{Found}
use Rattle.drv_table.specs.declared.rows.Found.TheVariants as founds
use Rattle.drv_table.specs.DriverContent.{DriverContent, waits_for, next_after}
use Rattle.drv_table.specs.Harvests.{noted, is_stall, end_of}
use Rattle.drv_table.specs.Harvesting.{served, told_with, goes_on, behind_one, behind, stalled, mends_of, after_end, harvested_as, after_harvest}
use Rattle.drv_table.specs.Releases.{cancel_told, is_told}
use Rattle.law_driver.proofs.lemmas.run_owners.Stays.{same_view}
use Rattle.law_driver.specs.ring_members.Words.{IsMending}
use Rattle.law_driver.proofs.lemmas.ring_members.Links.{ring_of, SameRing}

pub record StaysRing (d e : DriverContent) : Type 0 where
  pub endpoints : SameRing d.endpoints e.endpoints
  pub command : e.command ≡ d.command
  pub waiting : e.waiting ≡ d.waiting
  pub rung : e.rung ≡ d.rung
  pub mends : AllByRecursion IsMending d.mends → AllByRecursion IsMending e.mends

nothing : (d : DriverContent) → StaysRing d d
nothing d = record { endpoints = λ i. refl; command = refl; waiting = refl; rung = refl; mends = λ all. all }

both : (d e f : DriverContent) → StaysRing d e → StaysRing e f → StaysRing d f
both d e f one two = record {
  endpoints = λ i. two.endpoints i ∙ one.endpoints i;
  command = two.command ∙ one.command;
  waiting = two.waiting ∙ one.waiting;
  rung = two.rung ∙ one.rung;
  mends = λ all. two.mends (one.mends all);
}

either : (d e f : DriverContent) (b : Bool) → StaysRing d e → StaysRing d f → StaysRing d (cond b e f)
either d e f true one two = one
either d e f false one two = two

-- an endpoint of which other things are written
pub endpoint_set : (xs : List Endpoint) (e : ℕ) (x y : Endpoint) → slice_get xs e ≡ Some x → ring_of y ≡ ring_of x → SameRing xs (set xs e y)
endpoint_set xs e x y here same = same_view ring_of xs e x y here same

all_both : (xs ys : List Mend) → AllByRecursion IsMending xs → AllByRecursion IsMending ys → AllByRecursion IsMending (xs ++ ys)
all_both [] ys one two = two
all_both (x ∷ xs) ys one two = (one.0, all_both xs ys one.1 two)

pub all_rest : (xs : List Mend) → AllByRecursion IsMending xs → AllByRecursion IsMending (drop 1 xs)
all_rest [] all = tt
all_rest (x ∷ xs) all = all.1

one_stays : (d : DriverContent) (e : ℕ) (name : EpName) (k : ℕ) (o : Option Transfer) → StaysRing d (behind_one d e name k o)
one_stays d e name k None = nothing d
one_stays d e name k (Some y) =
    either d _ d (waits_for e y) (record { endpoints = λ i. refl; command = refl; waiting = refl; rung = refl; mends = λ all. all }) (nothing d)

behind_stays : (d : DriverContent) (e : ℕ) (name : EpName) (k n : ℕ) → StaysRing d (behind d e name k n)
unfolding behind
behind_stays d e name k zero = nothing d
behind_stays d e name k (suc n) =
    both d (behind_one d e name k (slice_get d.transfers k)) (behind (behind_one d e name k (slice_get d.transfers k)) e name (suc k) n)
    (one_stays d e name k (slice_get d.transfers k)) (behind_stays (behind_one d e name k (slice_get d.transfers k)) e name (suc k) n)

are_mends : (x : Endpoint) → AllByRecursion IsMending (mends_of x)
are_mends x = (inl refl, (inr (inl refl), (inr (inr refl), tt)))

stalled_stays : (d : DriverContent) (e t : ℕ) (x : Endpoint) → slice_get d.endpoints e ≡ Some x → StaysRing d (stalled d e t x)
stalled_stays d e t x here =
    let now = record d { harvested = d.harvested ++ t ∷ []; endpoints = set d.endpoints e (record x { next = None }); mends = d.mends ++ mends_of x } in
    both d now (stalled d e t x)
    (record {
      endpoints = endpoint_set d.endpoints e x (record x { next = None }) here refl;
      command = refl;
      waiting = refl;
      rung = refl;
      mends = λ all. all_both d.mends (mends_of x) all (are_mends x);
    })
    (behind_stays now e x.desc.name (suc t) (length d.transfers - suc t))

end_stays : (d : DriverContent) (e t : ℕ) (x : Endpoint) (stall : Bool) (o : Option EndCause) → slice_get d.endpoints e ≡ Some x → StaysRing d (after_end d e t x stall o)
end_stays d e t x stall (Some cause) here =
    record { endpoints = endpoint_set d.endpoints e x (record x { ended = Some cause }) here refl; command = refl; waiting = refl; rung = refl; mends = λ all. all }
end_stays d e t x stall None here =
    either d (stalled d e t x) (goes_on d e t x) stall (stalled_stays d e t x here)
    (record { endpoints = endpoint_set d.endpoints e x (record x { next = next_after d.transfers e t }) here refl; command = refl; waiting = refl; rung = refl; mends = λ all. all })

read_stays : (d : DriverContent) (m : Mem) (e t : ℕ) (x : Endpoint) (y : Transfer) (found : Found) → slice_get d.endpoints e ≡ Some x → StaysRing d (harvested_as d m e t x y found)
read_stays d m e t x y founds.Active here = nothing d
read_stays d m e t x y (founds.Moved n) here = record { endpoints = λ i. refl; command = refl; waiting = refl; rung = refl; mends = λ all. all }
read_stays d m e t x y (founds.Served errors) here =
    record { endpoints = endpoint_set d.endpoints e x (record x { next = next_after d.transfers e t }) here refl; command = refl; waiting = refl; rung = refl; mends = λ all. all }
read_stays d m e t x y (founds.Ended n what) here =
    let told = told_with d m t y what x.desc.name (noted d.notes y.place n) in
    both d told (after_end told e t x (is_stall what) (end_of x.desc.kind what))
    (record { endpoints = λ i. refl; command = refl; waiting = refl; rung = refl; mends = λ all. all }) (end_stays told e t x (is_stall what) (end_of x.desc.kind what) here)

pub harvest_stays : (d : DriverContent) (m : Mem) (e t : ℕ) (found : Found) (o : Option Endpoint) (q : Option Transfer) → slice_get d.endpoints e ≡ o → StaysRing d (after_harvest d m e t found o q)
harvest_stays d m e t found None q here = nothing d
harvest_stays d m e t found (Some x) None here = nothing d
harvest_stays d m e t found (Some x) (Some y) here =
    let read = harvested_as d m e t x y found in
    either d (served read e) d (waits_for e y)
    (both d read (served read e) (read_stays d m e t x y found here) (record { endpoints = λ i. refl; command = refl; waiting = refl; rung = refl; mends = λ all. all })) (nothing d)

-- a cancel that is told
pub told_stays : (d : DriverContent) (m : Mem) (e : ℕ) (x : Endpoint) → StaysRing d (cancel_told d m e x)
told_stays d m e x = either d _ d (is_told x) (record { endpoints = λ i. refl; command = refl; waiting = refl; rung = refl; mends = λ all. all }) (nothing d)
