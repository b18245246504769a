-- What an event is at an iTD or a siTD in hand of the walk of the frames, with no transaction to be written back (EHCI 1.0, 4.7 and 4.12.3).
use Rattle.std.proofs.Common.{◌≡◌, ◌≢◌, ℕ, Bool, true, false, if◌then◌else◌, Some, None, ap, refl, sym, subst, ◌∙◌}
use Rattle.std.specs.Prelude.{nat_lt}
use Rattle.std.proofs.lemmas.Bool.{ltb-true}
use Rattle.hc_interrupt.specs.Turns.{microframe_of}
use Rattle.hc_iso.specs.declared.held.HeldItd.{HeldItd}
use Rattle.hc_iso.specs.declared.held.HeldSitd.{HeldSitd}
use Rattle.hc_iso.specs.declared.held.SitdTurn.TheVariants as turns
use Rattle.hc_iso.specs.declared.held.SplitOutcome.TheVariants.{Failed}
use Rattle.hc_iso.specs.Itd.{itd_transaction}
use Rattle.hc_iso.specs.Sitd.{sitd_missed, comes, turn_at, sitd_transaction, missed_copy}
use Rattle.hc_iso.specs.WriteBack.{itd_sending, sitd_sending}
use Rattle.async_walk.specs.declared.state.WalkStep.{WalkStep}
use Rattle.async_walk.specs.declared.state.WalkStep.TheVariants as walks
use Rattle.periodic_walk.specs.declared.itd.ItdRow.TheVariants as itd_rows
use Rattle.periodic_walk.specs.declared.sitd.SitdRow.TheVariants as sitd_rows
use Rattle.periodic_walk.specs.declared.state.Hand.TheVariants as hands
use Rattle.periodic_walk.specs.Place.{FramePlace}
use Rattle.periodic_walk.specs.Itd.{itd_step}
use Rattle.periodic_walk.specs.Sitd.{sitd_step, writing as sitd_writing}
use Rattle.periodic_walk.specs.Rows.{step_of}
use Rattle.periodic_walk.proofs.Causing.{sitd_turned}
use Rattle.periodic_walk.proofs.Caused.{going_here, sitd_here}
use Rattle.hc_core.specs.Controller.{hc_step}
use Rattle.claims_world.specs.Visits.{ItdHasNothing, ItdVisited, SitdHasNothing, SitdVisited}
use Rattle.claims_world.specs.Visits.ItdHasNothing.{is_inactive as itd_inactive, has_no_time as itd_has_no_time}
use Rattle.claims_world.specs.Visits.ItdVisited.{transacts as itd_transacts, passes as itd_passes}
use Rattle.claims_world.specs.Visits.SitdHasNothing.{is_inactive as sitd_inactive, not_in_its_mask, has_no_time as sitd_has_no_time}
use Rattle.claims_world.specs.Visits.SitdVisited.{transacts as sitd_transacts, passes as sitd_passes, misses as sitd_misses}

-- ---- an iTD

module _ (p : FramePlace) (h : HeldItd) where
  abbrev Itd : WalkStep → Type 0
  Itd k = k ≢ walks.Fault → ItdVisited p h (hc_step k)

  itd_sent : h.slot.active ≡ true → (all : Bool) → Itd (if all then walks.Transact else walks.Fault)
  itd_sent active true sound = itd_transacts active
  itd_sent active false sound = absurd (sound refl)

  itd_timed : h.slot.active ≡ true → (late : Bool) → nat_lt p.walk.left (itd_transaction h).price.0 ≡ late
      → Itd (itd_step (if late then itd_rows.Skip else itd_rows.Transact (itd_transaction h)) h p)
  itd_timed active true late sound = itd_passes (itd_has_no_time active (ltb-true _ _ late))
  itd_timed active false late sound = itd_sent active (itd_sending (itd_transaction h) h p.memory).all sound

  itd_by : (active : Bool) → h.slot.active ≡ active
      → Itd (itd_step (if active then (if nat_lt p.walk.left (itd_transaction h).price.0 then itd_rows.Skip else itd_rows.Transact
      (itd_transaction h)) else itd_rows.Skip) h p)
  itd_by true active = itd_timed active (nat_lt p.walk.left (itd_transaction h).price.0) refl
  itd_by false active = λ sound. itd_passes (itd_inactive active)

  pub itd_visited : p.walk.hand ≡ Some (hands.Itd h) → h.ended ≡ None → Itd (step_of p)
  itd_visited in_hand going = subst Itd (sym (going_here p h (record { in_hand = in_hand; not_ended = going }))) (itd_by h.slot.active refl)

-- ---- a siTD

module _ (p : FramePlace) (h : HeldSitd) where
  abbrev Sitd : WalkStep → Type 0
  Sitd k = k ≢ walks.Fault → SitdVisited p h (hc_step k)

  abbrev lost_is : Bool
  lost_is = sitd_missed (microframe_of p.walk.index) h.sitd

  abbrev now_is : Bool
  now_is = comes (microframe_of p.walk.index) h.sitd

  sitd_sent : h.sitd.active ≡ true → now_is ≡ true → (all : Bool) → Sitd (if all then walks.Transact else walks.Fault)
  sitd_sent active now true sound = sitd_transacts active now
  sitd_sent active now false sound = absurd (sound refl)

  sitd_timed : h.sitd.active ≡ true → now_is ≡ true → (late : Bool) → nat_lt p.walk.left (sitd_transaction h.sitd).price.0 ≡ late
      → Sitd (sitd_step (if late then sitd_rows.Skip else sitd_rows.Transact (sitd_transaction h.sitd)) h p)
  sitd_timed active now true late sound = sitd_passes (sitd_has_no_time active (ltb-true _ _ late))
  sitd_timed active now false late sound = sitd_sent active now (sitd_sending (sitd_transaction h.sitd) h.sitd p.memory).all sound

  sitd_written : h.sitd.active ≡ true → lost_is ≡ true → (all : Bool) → Sitd (if all then walks.WriteBack else walks.Fault)
  sitd_written active lost true sound = sitd_misses active lost
  sitd_written active lost false sound = absurd (sound refl)

  sitd_by : (active lost now : Bool) → h.sitd.active ≡ active → lost_is ≡ lost → now_is ≡ now
      → Sitd (sitd_turned p h (turn_at active lost now))
  sitd_by false lost now active is comes_is = λ sound. sitd_passes (sitd_inactive active)
  sitd_by true true now active is comes_is = sitd_written active is (sitd_writing (missed_copy h) Failed p.walk.reply p.memory).all
  sitd_by true false true active is comes_is = sitd_timed active comes_is (nat_lt p.walk.left (sitd_transaction h.sitd).price.0) refl
  sitd_by true false false active is comes_is = λ sound. sitd_passes (not_in_its_mask comes_is)

  pub sitd_visited : p.walk.hand ≡ Some (hands.Sitd h) → h.settled ≡ None → Sitd (step_of p)
  sitd_visited in_hand fresh = subst Sitd (sym (sitd_here p h None in_hand fresh)) (sitd_by h.sitd.active lost_is now_is refl refl refl)

  -- ---- one that rests or has no time

  pub sitd_resting : (active lost now : Bool) → h.sitd.active ≡ active → now_is ≡ now → turn_at active lost now ≡ turns.Rest
      → SitdHasNothing p h
  sitd_resting false lost now active comes_is is = sitd_inactive active
  sitd_resting true true now active comes_is is = absurd cc
  sitd_resting true false true active comes_is is = absurd cc
  sitd_resting true false false active comes_is is = not_in_its_mask comes_is

  pub sitd_active : (active lost now : Bool) → turn_at active lost now ≡ turns.Work → active ≡ true
  sitd_active true lost now is = refl
  sitd_active false lost now is = absurd cc
