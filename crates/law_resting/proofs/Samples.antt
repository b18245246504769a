-- The worked rows of resting.
use Rattle.std.proofs.Common.{◌≡◌, ℕ, zero, suc, true, false, [], ◌∷◌, slice_get, Option, Some, None, refl, subst}
use Rattle.std.proofs.lemmas.Bool.{false≢true}
use Rattle.std.proofs.lemmas.Option.{same_Some}
use Rattle.drv_table.specs.declared.content.Command.{Command}
use Rattle.drv_table.specs.declared.content.Command.TheVariants as unfinished
use Rattle.drv_table.specs.declared.content.Endpoint.{Endpoint}
use Rattle.drv_table.specs.declared.content.Transfer.{Transfer}
use Rattle.law_footprints.specs.Worked.{bulk_in, a_get, working}
use Rattle.law_resting.specs.Worked.{NewDriverMayRest, KeepingIsNoRest, LeavingUnreadIsNoRest, HoldingOnIsNoRest, WaitsMayRest, LinkingIsNoRest}

pub new_driver_may_rest : NewDriverMayRest
new_driver_may_rest n room = record {
  commands = refl;
  done = record {
    cancelled = λ e x here over. absurd (cc);
    told = λ t y of. absurd (none_some y of.there);
    returned = λ t y of. absurd (none_some y of.there);
  };
}
  where
    none_some : (y : Transfer) → ◌≡◌ {A = Option Transfer} None (Some y) → ⊥
    none_some y is = cc

pub keeping_is_no_rest : KeepingIsNoRest
keeping_is_no_rest room rests = false≢true (rests.done.cancelled 0 (record bulk_in { linked = false }) refl refl)

pub leaving_unread_is_no_rest : LeavingUnreadIsNoRest
leaving_unread_is_no_rest room rests =
    false≢true (rests.done.told 0 a_get (record { there = refl; endpoint = working; here = refl; going = refl }))

pub holding_on_is_no_rest : HoldingOnIsNoRest
holding_on_is_no_rest room rests =
    false≢true (rests.done.returned 0 (record a_get { reported = true })
    (record { there = refl; endpoint = working; here = refl; going = refl }))

-- the only element of a list of one
only : {X : Type 0} (P : X → Type 0) (x : X) (i : ℕ) (y : X) → slice_get (x ∷ []) i ≡ Some y → P x → P y
only P x zero y there p = subst P (same_Some x y there) p
only P x (suc i) y there p = absurd (cc)

pub waits_may_rest : WaitsMayRest
waits_may_rest room = record {
  commands = refl;
  done = record {
    cancelled = λ e x here over. only (λ (z : Endpoint). z.cancelled ≡ true → z.gone ≡ true) (record working { next = None }) e x here
        (λ w. absurd (false≢true w)) over;
    told = λ t y of. only (λ (z : Transfer). z.reported ≡ true) (record a_get { reported = true; released = true }) t y of.there refl;
    returned = λ t y of. only (λ (z : Transfer). z.released ≡ true) (record a_get { reported = true; released = true }) t y of.there refl;
  };
}

pub linking_is_no_rest : LinkingIsNoRest
linking_is_no_rest n room rests = some_none rests.commands
  where
    some_none : ◌≡◌ {A = Option Command} (Some unfinished.Chain) None → ⊥
    some_none w = cc
