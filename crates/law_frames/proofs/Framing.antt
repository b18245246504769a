-- A frame with a queue head in hand is a visit to it, and stays a frame where its part alone is changed.
use Rattle.std.proofs.Common.{◌≡◌, ◌≢◌, ℕ, Option, Some, ap, sym, subst, ◌∙◌, ⊎_elim}
use Rattle.std.proofs.lemmas.Bool.{cases_eq}
use Rattle.std.proofs.lemmas.Option.{same_Some}
use Rattle.law_structures.specs.lent_structures.Structures.{Structures, StructureSets}
use Rattle.law_ring.specs.Hand.{Copy}
use Rattle.periodic_walk.specs.Place.{FramePlace}
use Rattle.law_frames.specs.Met.{Kind, AQueue, IsMetQueue, IsMetAs}
use Rattle.law_frames.specs.FrameHand.{FrameHand}
use Rattle.law_frames.specs.Frame.{IsCopiedQueue, IsFrameWalk, IsFrame}
use Rattle.law_frames.specs.Visits.{IsQueueVisit, IsOnlyAt}

pub visit_there : (met : ℕ → Option Kind) (parts : StructureSets) (hand : FrameHand) (p : FramePlace) (c : Copy) → IsFrame met parts hand p → IsCopiedQueue met parts c → IsQueueVisit met p.memory parts c
visit_there met parts hand p c k copied = record { tells = k.tells; met_is = k.members c.at AQueue copied.on; copied = copied }

members_after : (met : ℕ → Option Kind) (parts now : StructureSets) (a : ℕ) → IsOnlyAt a parts now → met a ≡ Some AQueue → IsMetQueue met a (now a) → ((n : ℕ) (kind : Kind) → met n ≡ Some kind → IsMetAs met n (parts n) kind) → (n : ℕ) (kind : Kind) → met n ≡ Some kind → IsMetAs met n (now n) kind
members_after met parts now a only on at members n kind is =
    ⊎_elim (λ (same : n ≡ a).
    subst (λ (i : ℕ). IsMetAs met i (now i) kind) (sym same)
    (subst (λ (x : Kind). IsMetAs met a (now a) x) (same_Some AQueue kind (sym on ∙ ap met (sym same) ∙ is)) at))
    (λ (differs : n ≢ a). subst (λ (part : Structures). IsMetAs met n part kind) (sym (only n differs)) (members n kind is)) (cases_eq n a)

pub frame_after : (met : ℕ → Option Kind) (parts now : StructureSets) (hand later : FrameHand) (p q : FramePlace) (c : Copy) → IsFrame met parts hand p → IsOnlyAt c.at parts now → IsQueueVisit met q.memory now c → IsFrameWalk met now later q → IsFrame met now later q
frame_after met parts now hand later p q c k only v walk = record {
  tells = v.tells;
  members = members_after met parts now c.at only v.copied.on v.met_is k.members;
  walk = walk;
}
