-- The worked transaction.
use Rattle.std.proofs.Common.{◌≡◌, true, zero, suc, [], ◌∷◌, Some, ap, refl, sym, subst, arith}
use Rattle.mem_bytes.specs.Bytes.{places, all_reached, bytes_at}
use Rattle.itd_sitd.specs.Itd.{itd_words, slot_of}
use Rattle.qh_qtd.specs.QueueHead.{qh_words}
use Rattle.hc_iso.specs.declared.held.IsoEnd.TheVariants.{Failed}
use Rattle.hc_iso.specs.Itd.{fetched_itd, after_in}
use Rattle.hc_iso.specs.WriteBack.{bytes_of, done_slot}
use Rattle.async_walk.specs.declared.state.WalkStep.TheVariants as steps
use Rattle.periodic_walk.specs.Itd.{got_after}
use Rattle.periodic_walk.specs.Rows.{step_of, Leads}
use Rattle.law_ring.specs.Effects.{AreBytesHeard}
use Rattle.law_frames.specs.FrameHand.{OfItd}
use Rattle.law_frames.specs.Frame.{IsCopiedItd, IsFrame}
use Rattle.law_frames.specs.FrameEffects.{itd_back}
use Rattle.law_frames.specs.PartSamples.{met, parts, in_hand, heard}
use Rattle.law_frames.proofs.PartSampled.{after_it}
use Rattle.law_frames.proofs.Heard.{heard_keeps_copy}
use Rattle.law_frames.specs.ItdSteps.{AreBytes}
use Rattle.law_frames.specs.ItdStepSamples.{at, hears, left, too_long, babbled}

pub frame_at : IsFrame met parts (OfItd in_hand) at
frame_at = record {
  tells = after_it.tells;
  members = after_it.members;
  walk = record { cursor = after_it.walk.cursor; held = after_it.walk.held; in_hand = after_it.walk.in_hand };
}

two_small : AreBytes (5 ∷ 6 ∷ [])
two_small (suc zero) = omega arith
two_small _ = omega arith

pub bytes_heard : AreBytesHeard hears 0 1
bytes_heard ask out pid bs made = subst AreBytes (sym (ap bytes_of made.0)) two_small

pub leads_on : Leads hears at 0 left 1
unfolding fetched_itd places all_reached bytes_at itd_words qh_words
leads_on = record { reply = heard; made = (refl, refl); place = refl }

pub transacts : step_of at ≡ steps.Transact
unfolding fetched_itd places all_reached itd_words qh_words
transacts = refl

pub two_kept : left.walk.got ≡ 5 ∷ 6 ∷ []
unfolding fetched_itd
two_kept = refl

-- ---- a packet that is too long

three_small : AreBytes (5 ∷ 6 ∷ 7 ∷ [])
three_small (suc (suc zero)) = omega arith
three_small _ = omega arith

pub babble : babbled.held.slot.babble ≡ true
unfolding fetched_itd after_in
babble = refl

pub failed : babbled.held.ended ≡ Some Failed
unfolding fetched_itd after_in
failed = refl

pub none_kept : got_after in_hand.held too_long [] ≡ []
unfolding fetched_itd
none_kept = refl

pub none_counted : babbled.held.moved ≡ 0
unfolding fetched_itd after_in
none_counted = refl

pub none_noted : (slot_of 2 (itd_back babbled)).length ≡ 0
unfolding fetched_itd after_in done_slot
none_noted = refl

pub still_copied : IsCopiedItd met parts [] babbled
unfolding fetched_itd
still_copied = heard_keeps_copy met parts [] too_long in_hand after_it.walk.in_hand refl refl three_small
