-- The worked rows of refusals.
use Rattle.std.proofs.Common.{◌≡◌, ℕ, ◌<◌, [], ◌∷◌, Option, Some, None, refl, sym, ◌∙◌, arith}
use Rattle.std.proofs.lemmas.Bool.{false≢true}
use Rattle.usb_base.specs.declared.commands.Cmd.TheVariants as commands
use Rattle.usb_base.specs.declared.reports.OfferError.{OfferError}
use Rattle.usb_base.specs.declared.reports.OfferError.TheVariants as errors
use Rattle.word_mem.specs.Free.{lowest_run, longest_run}
use Rattle.word_mem.specs.Memory.{filled}
use Rattle.claims_answers.specs.Refusals.{HasCause, rank, lacking_run}
use Rattle.law_answers.specs.Worked.{stick, new, roomy, cut_up, a_get, OpensWithRoom, NoBlocksIsWrong, LacksARun, GetIsNoEndpoint, BusyComesFirst}

all_there : lacking_run roomy (2 ∷ 1 ∷ []) ≡ None
unfolding lowest_run longest_run filled
all_there = refl

first_lacks : lacking_run cut_up (2 ∷ 1 ∷ []) ≡ Some (2, 1)
unfolding lowest_run longest_run
first_lacks = refl

none_some : (p : ℕ × ℕ) → ◌≡◌ {A = Option (ℕ × ℕ)} None (Some p) → ⊥
none_some p is = cc

pub opens_with_room : OpensWithRoom
opens_with_room room errors.Busy h = false≢true h
opens_with_room room errors.NoEndpoint h = false≢true h
opens_with_room room (errors.Closed cause) h = cc
opens_with_room room errors.AlreadyOpen h = false≢true h
opens_with_room room errors.TooLong h = false≢true h
opens_with_room room errors.NoPlacement h = false≢true h.0
opens_with_room room (errors.NoBlocks need largest) h = none_some (need, largest) (sym all_there ∙ h)
opens_with_room room errors.NotEnded h = h
opens_with_room room errors.HubClosed h = h

pub no_blocks_is_wrong : NoBlocksIsWrong
no_blocks_is_wrong room need largest first = opens_with_room room (errors.NoBlocks need largest) first.stands

pub lacks_a_run : LacksARun
lacks_a_run room = record { stands = first_lacks; first = none_before }
  where
    none_before : (other : OfferError) → rank other < 6 → HasCause (new room) cut_up (commands.OpenEp stick) other → ⊥
    none_before errors.Busy less h = false≢true h
    none_before errors.NoEndpoint less h = false≢true h
    none_before (errors.Closed cause) less h = cc
    none_before errors.AlreadyOpen less h = false≢true h
    none_before errors.TooLong less h = false≢true h
    none_before errors.NoPlacement less h = false≢true h.0
    none_before (errors.NoBlocks need largest) less h = omega (arith, less)
    none_before errors.NotEnded less h = h
    none_before errors.HubClosed less h = h

pub get_is_no_endpoint : GetIsNoEndpoint
get_is_no_endpoint room = record { stands = refl; first = none_before }
  where
    none_before : (other : OfferError) → rank other < 1 → HasCause (new room) roomy a_get other → ⊥
    none_before errors.Busy less h = false≢true h
    none_before errors.NoEndpoint less h = omega (arith, less)
    none_before (errors.Closed cause) less h = omega (arith, less)
    none_before errors.AlreadyOpen less h = omega (arith, less)
    none_before errors.TooLong less h = omega (arith, less)
    none_before errors.NoPlacement less h = omega (arith, less)
    none_before (errors.NoBlocks need largest) less h = omega (arith, less)
    none_before errors.NotEnded less h = omega (arith, less)
    none_before errors.HubClosed less h = omega (arith, less)

pub busy_comes_first : BusyComesFirst
busy_comes_first room errors.Busy first = refl
busy_comes_first room errors.NoEndpoint first = absurd (first.first errors.Busy (omega arith) refl)
busy_comes_first room (errors.Closed cause) first = absurd (first.first errors.Busy (omega arith) refl)
busy_comes_first room errors.AlreadyOpen first = absurd (first.first errors.Busy (omega arith) refl)
busy_comes_first room errors.TooLong first = absurd (first.first errors.Busy (omega arith) refl)
busy_comes_first room errors.NoPlacement first = absurd (first.first errors.Busy (omega arith) refl)
busy_comes_first room (errors.NoBlocks need largest) first = absurd (first.first errors.Busy (omega arith) refl)
busy_comes_first room errors.NotEnded first = absurd first.stands
busy_comes_first room errors.HubClosed first = absurd first.stands
