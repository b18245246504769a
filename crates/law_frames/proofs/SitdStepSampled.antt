-- The worked walk has its siTD in hand, before its transaction and after it.
use Rattle.std.proofs.Common.{◌≡◌, ℕ, Bool, true, false, ◌==◌, if◌then◌else◌, Some, None, ap, refl, sym, subst}
use Rattle.std.proofs.lemmas.Bool.{eqb-true}
use Rattle.std.proofs.lemmas.Option.{same_Some}
use Rattle.usb_base.specs.declared.packets.Reply.TheVariants.{Silent}
use Rattle.hc_masks.specs.Masks.{lacks}
use Rattle.hc_copy.specs.Buffer.{Reading}
use Rattle.hc_iso.specs.declared.held.SplitOutcome.TheVariants.{Moved, Failed}
use Rattle.hc_iso.specs.Sitd.{missed_sitd}
use Rattle.async_walk.specs.declared.state.WalkStep.TheVariants as steps
use Rattle.periodic_walk.specs.Rows.{step_of}
use Rattle.law_structures.specs.lent_structures.WriteBack.{Nothing}
use Rattle.law_frames.specs.Met.{Kind, ASitd, IsMetSitd, IsMetAs}
use Rattle.law_frames.specs.FrameHand.{OfSitd}
use Rattle.law_frames.specs.Frame.{IsFrame}
use Rattle.law_frames.specs.SitdBacks.{missed, AreReceivedBy}
use Rattle.law_frames.specs.SitdBackSamples.{met, memory, parts, fetched, heard, moved, into}
use Rattle.law_frames.proofs.Backs.{sitd_is_sent, all_written}
use Rattle.law_frames.proofs.SitdBackSampled.{before, after, miss, received}
use Rattle.law_frames.specs.SitdStepSamples.{at, settled}

members_at : (b : Bool) (n : ℕ) (k : Kind) → (n == 64) ≡ b → (if b then Some ASitd else None) ≡ Some k → IsMetAs met n (parts n) k
members_at true n k is on =
    subst (λ (kind : Kind). IsMetAs met n (parts n) kind) (same_Some ASitd k on) (subst (λ (i : ℕ). IsMetSitd met i (parts i)) (sym (eqb-true n 64 is)) before.is_met)
members_at false n k is on = cc

members : (n : ℕ) (k : Kind) → met n ≡ Some k → IsMetAs met n (parts n) k
members n k on = members_at (n == 64) n k refl on

pub before_it : IsFrame met parts (OfSitd fetched) (at 2)
before_it = record { tells = before.tells; members = members; walk = record { cursor = refl; held = refl; in_hand = before.copied } }

pub after_it : IsFrame met parts (OfSitd moved) settled
after_it = record { tells = after.tells; members = members; walk = record { cursor = refl; held = refl; in_hand = after.copied } }

-- ---- its events

pub transacts_it : step_of (at 2) ≡ steps.Transact
unfolding lacks
transacts_it = ap (λ (r : Reading). if r.all then steps.Transact else steps.Fault) (sitd_is_sent met parts memory Silent fetched 2 before refl refl).read

none_received : AreReceivedBy parts (missed fetched) Failed Silent Nothing
unfolding missed_sitd
none_received = refl

pub misses_it : step_of (at 3) ≡ steps.WriteBack
unfolding lacks
misses_it = ap (λ (b : Bool). if b then steps.WriteBack else steps.Fault) (all_written met parts memory Silent (missed fetched) Failed Nothing miss none_received)

pub passes_it : step_of (at 0) ≡ steps.Skip
unfolding lacks
passes_it = refl

pub writes_it : step_of settled ≡ steps.WriteBack
writes_it = ap (λ (b : Bool). if b then steps.WriteBack else steps.Fault) (all_written met parts memory heard moved (Moved 2) into after received)
