-- The worked frame stays one where its chain is ended, and both worked walks go on where a frame is emptied.
use Rattle.std.proofs.Common.{◌≡◌, ℕ, Bool, true, false, ◌==◌, if◌then◌else◌, Some, None, ap, refl, sym, subst, ◌∙◌, arith}
use Rattle.std.proofs.lemmas.Bool.{eqb-true}
use Rattle.std.proofs.lemmas.Option.{same_Some}
use Rattle.link_words.specs.Links.{link_read, no_link}
use Rattle.hc_core.specs.Controller.{began}
use Rattle.law_ring.specs.Hand.{Empty}
use Rattle.law_structures.specs.lent_structures.Structures.{Structure, QueueHead, Isochronous}
use Rattle.law_frames.specs.Met.{Kind, AQueue, AnItd, LeadsTo}
use Rattle.law_frames.specs.FrameHand.{Nothing, OfItd}
use Rattle.law_frames.specs.Frame.{IsFrame}
use Rattle.law_frames.specs.PartSamples.{itd, met, parts, at, in_hand, fetched}
use Rattle.law_frames.proofs.PartSampled.{before_it, after_it}
use Rattle.law_controller.specs.frame_control.Both.{RunsBoth}
use Rattle.law_controller.specs.frame_control.Samples as both
use Rattle.law_controller.proofs.lemmas.frame_control.Sampled.{both_run}
use Rattle.law_controller.specs.frame_stores.Stores.{link_in, frame_linked, IsMetFurther, AreMetAmong}
use Rattle.law_controller.specs.frame_stores.Samples.{ended, now, memory, narrow, listed, stored}
use Rattle.law_controller.proofs.lemmas.frame_stores.Linking.{link_store_leaves_frame}
use Rattle.law_controller.proofs.lemmas.frame_stores.Beside.{list_store_leaves_both, begin_meets_fewer}
use Rattle.law_controller.proofs.lemmas.frame_stores.Framing.{fewer_are_met}

pub ended_in_hand : IsFrame met now (frame_linked 64 no_link (OfItd in_hand)) (record fetched { memory = memory })
ended_in_hand = link_store_leaves_frame met parts (OfItd in_hand) fetched 64 (Isochronous itd) no_link after_it refl tt (refl, (omega arith, tt)) (λ kind on. tt)

-- the iTD alone is met from then on
one_further : (b c : Bool) (kind : Kind) → (if b then Some AnItd else None) ≡ Some kind → (if b then Some AnItd else if c then Some AQueue else None) ≡ Some kind
one_further true c kind on = on
one_further false c kind on = cc

fewer : IsMetFurther narrow met
fewer n kind on = one_further (n == 64) (n == 128) kind on

the_itd : (b : Bool) (n : ℕ) (kind : Kind) → (n == 64) ≡ b → (if b then Some AnItd else None) ≡ Some kind → n ≡ 64
the_itd true n kind is on = eqb-true n 64 is
the_itd false n kind is on = cc

ends_there : (s : Structure) → now 64 64 ≡ Some s → LeadsTo narrow (link_in s)
ends_there s here = subst (λ (x : Structure). LeadsTo narrow (link_in x)) (same_Some ended s here) tt

closed : AreMetAmong narrow now
closed n kind s on here = ends_there s (ap (λ (i : ℕ). now i i) (sym (the_itd (n == 64) n kind refl on)) ∙ here)

stored_before : IsFrame met now Nothing (record at { memory = memory })
stored_before = link_store_leaves_frame met parts Nothing at 64 (Isochronous itd) no_link before_it refl tt (refl, (omega arith, tt)) (λ kind on. tt)

pub ended_before : IsFrame narrow now Nothing (record at { memory = memory })
ended_before = fewer_are_met met narrow now Nothing (record at { memory = memory }) stored_before fewer closed (record { cursor = refl; in_hand = tt })

-- ---- both walks

end_read : LeadsTo both.met (link_read 1)
unfolding link_read
end_read = tt

pub both_stored : RunsBoth both.base both.member both.met listed Empty Nothing stored
both_stored = list_store_leaves_both both.base both.member both.met both.parts Empty Nothing both.opening 3 1 both_run (record { words = both.elements; here = refl; size = refl }) (omega arith) end_read

the_queue : (b : Bool) (n : ℕ) (kind : Kind) → (n == 64) ≡ b → (if b then Some AQueue else None) ≡ Some kind → n ≡ 64
the_queue true n kind is on = eqb-true n 64 is
the_queue false n kind is on = cc

queue_ends : (s : Structure) → listed 64 64 ≡ Some s → LeadsTo both.met (link_in s)
queue_ends s here = subst (λ (x : Structure). LeadsTo both.met (link_in x)) (same_Some (QueueHead both.queue) s here) tt

closed_both : AreMetAmong both.met listed
closed_both n kind s on here = queue_ends s (ap (λ (i : ℕ). listed i i) (sym (the_queue (n == 64) n kind refl on)) ∙ here)

pub both_begun : RunsBoth both.base both.member both.met listed Empty Nothing (began true stored)
both_begun = begin_meets_fewer both.base both.member both.met both.met listed Empty Nothing stored true both_stored refl (λ n kind on. on) closed_both both_stored.list both_stored.elements
