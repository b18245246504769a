-- Lines of requests below a hub, with what the hub has of both directions.
use Rattle.std.proofs.Common.{◌≡◌, ◌⊎◌, ℕ, false, List, [], ◌∷◌, ap, refl, sym, ◌∙◌, inl}
use Rattle.std.proofs.Common.{inr}
use Rattle.std.proofs.lemmas.Bool.{false≢true}
use Rattle.usb_base.specs.declared.packets.Dir.{Dir}
use Rattle.usb_base.specs.declared.packets.Dir.TheVariants as Directions
use Rattle.usb_base.specs.declared.packets.Reply.{Reply}
use Rattle.transactions.specs.Calls.{Call}
use Rattle.claims_report.specs.Acts.{IsOnce}
use Rattle.claims_report.specs.Requests.{Request}
use Rattle.law_request.specs.Host.{Endpoint, Host, is_over}
use Rattle.law_request.specs.Windows.{IsRequest}
use Rattle.law_translated.specs.Lift.{Buffered, Wait, Idle, Empty, IsQuiet, Split as TwoSlots}
use Rattle.law_translated.specs.Lift.{Step, Run}
use Rattle.law_translated.specs.Lift.Step.{forgets_aside, turns}
use Rattle.law_translated.specs.KeySlots.{KeySlot}
use Rattle.law_translated.specs.KeySteps.{OtherStart}
use Rattle.law_translated.specs.KeySteps.OtherStart.{stays as other_stays, forgets as other_forgets}
use Rattle.law_translated.specs.KeyEvents.{EventsOf, mapped, with_slot}
use Rattle.law_translated.specs.Windows.{Line, window_halves, window_claims}
use Rattle.law_translated.proofs.KeyEvents.{events_of}
use Rattle.law_translated.proofs.Lifting.{run_keeps, step_keeps}
use Rattle.law_translated.proofs.Settling.{window_keeps}
use Rattle.law_below_hubs.specs.ControlWork.{control_call, control_answer}
use Rattle.law_below_hubs.specs.ControlTurns.{turned}
use Rattle.law_below_hubs.specs.ControlStands.{RequestHolds}
use Rattle.law_below_hubs.specs.HostRequests.{unpinged, IsLineOf, goes_on, ended}

pub not_turned : (d : Dir) → d ≡ turned d → ⊥
not_turned Directions.In e = cc
not_turned Directions.Out e = cc

pub turned_back : (d : Dir) → turned (turned d) ≡ d
turned_back Directions.In = refl
turned_back Directions.Out = refl

pub one_turn : (d f : Dir) → (d ≡ f → ⊥) → f ≡ turned d
one_turn Directions.In Directions.In other = absurd (other refl)
one_turn Directions.In Directions.Out other = refl
one_turn Directions.Out Directions.In other = refl
one_turn Directions.Out Directions.Out other = absurd (other refl)

pub same_or_not : (d f : Dir) → (d ≡ f) ⊎ (d ≡ f → ⊥)
same_or_not Directions.In Directions.In = inl refl
same_or_not Directions.In Directions.Out = inr (λ e. cc)
same_or_not Directions.Out Directions.In = inr (λ e. cc)
same_or_not Directions.Out Directions.Out = inl refl

-- what it acted on, at most once, is all that it could have acted on
pub once_within : {setup : List ℕ} {acts : List (List ℕ)} (own : List (List ℕ)) → own ≡ acts → IsOnce setup own
    → (own ≡ []) ⊎ (acts ≡ setup ∷ [])
once_within own same (inl none) = inl none
once_within own same (inr one) = inr (sym same ∙ one)

-- the line of a host that goes on
pub line_goes : (h : Host) (m : Line) → is_over h.stage ≡ false → IsLineOf h m → m.window.host ≡ unpinged h
line_goes h m on (goes_on is) = is
line_goes h m on (ended is) = absurd (false≢true (sym on ∙ ap is_over is))

module _ (e : Endpoint) (r : Request) (request : IsRequest r) where
  pub events : EventsOf (window_halves e r) control_call control_answer
  events = events_of (window_halves e r) control_call control_answer

  abbrev At : Line → Wait → KeySlot → KeySlot → TwoSlots Line Call Reply
  At l u s aside = with_slot (window_halves e r) control_call control_answer l u s (mapped control_call control_answer aside)

  pub runs : (l m : Line) (u v : Wait) (s t aside : KeySlot) → Run (window_halves e r) Buffered (At l u s aside) (At m v t aside)
      → RequestHolds e r l u s aside → RequestHolds e r m v t aside
  runs l m u v s t aside run h =
      run_keeps (window_halves e r) (window_claims e r) (window_keeps e r request) Buffered (At l u s aside) (At m v t aside) run h

  pub steps : (l m : Line) (u v : Wait) (s t aside : KeySlot) → Step (window_halves e r) Buffered (At l u s aside) (At m v t aside)
      → RequestHolds e r l u s aside → RequestHolds e r m v t aside
  steps l m u v s t aside step h =
      step_keeps (window_halves e r) (window_claims e r) (window_keeps e r request) Buffered (At l u s aside) (At m v t aside) step h

  -- another key takes the buffer of the direction that isn't asked
  pub aside_leaves : (l : Line) (u : Wait) (s aside new : KeySlot) → OtherStart Buffered aside new → RequestHolds e r l u s aside
      → RequestHolds e r l u s new
  aside_leaves l u s aside _ other_stays h = h
  aside_leaves l u s aside _ (other_forgets a t buffered is) h =
      step_keeps (window_halves e r) (window_claims e r) (window_keeps e r request) Buffered (At l u s aside) (At l u s Empty)
      forgets_aside h

  -- the host turns to the other direction
  pub turns_to : (l : Line) (s aside : KeySlot) → IsQuiet (mapped control_call control_answer s) → RequestHolds e r l Idle s aside
      → RequestHolds e r l Idle aside s
  turns_to l s aside quiet h =
      step_keeps (window_halves e r) (window_claims e r) (window_keeps e r request) Buffered (At l Idle s aside) (At l Idle aside s)
      (turns refl quiet) h
