-- The bytes that came, or were taken, begin the stream.
use Rattle.std.proofs.Common.{◌≡◌, ◌⊎◌, inl, inr, ℕ, List, [], ◌∷◌, ◌++◌, sym, subst, ap, ◌∙◌}
use Rattle.std.specs.List.{concat}
use Rattle.std.proofs.lemmas.List.{append-nil}
use Rattle.std.proofs.lemmas.List.Folds.{concat-append}
use Rattle.claims_base.specs.Prefix.{IsPrefix}
use Rattle.law_translated.specs.InPipes.{in_halves, in_claims}
use Rattle.law_translated.specs.OutPipes.{Line, IsAhead, Agrees}
use Rattle.law_translated.proofs.Lifting.{holds_gone}
use Rattle.law_translated.proofs.Receiving.{in_keeps}
use Rattle.law_translated.proofs.Sending.{taken_begins}
use Rattle.law_translated.proofs.Streams.{begins}
use Rattle.law_below_hubs.specs.HostIns.{in_split, InBegins}
use Rattle.law_below_hubs.specs.HostOuts.{its_way, out_slot, OutIsTaken}
use Rattle.law_below_hubs.proofs.HostKept.{agrees}

known_first : (l : Line) → Agrees l → IsPrefix (concat l.known) (concat l.taken)
known_first l a = by a.near
  where
    by : (l.taken ≡ l.known) ⊎ IsAhead l → IsPrefix (concat l.known) (concat l.taken)
    by (inl e) = subst (λ (xs : List (List ℕ)). IsPrefix (concat l.known) (concat xs)) (sym e) ([], append-nil (concat l.known))
    by (inr f) = subst (λ (xs : List (List ℕ)). IsPrefix (concat l.known) (concat xs)) (sym f.taken)
        (concat (f.next ∷ []), sym (concat-append l.known (f.next ∷ [])))

pub out_is_taken : OutIsTaken
out_is_taken k i place w h waiting known next o =
    let a : Agrees o.line = agrees (out_slot o.slot) waiting o.line o.holds in
    record {
      taker = _;
      is = o.taker;
      all_known = subst (λ (ys : List ℕ). IsPrefix ys (concat o.line.taken)) o.knows (known_first o.line a);
      all_sent = subst (IsPrefix (concat o.line.taken))
          (concat-append o.line.known o.line.rest ∙ ap (λ (ys : List ℕ). ys ++ concat o.line.rest) o.knows
          ∙ ap (λ (xs : List (List ℕ)). known ++ concat xs) o.rest) (taken_begins o.line a);
    }

pub in_begins : InBegins
in_begins packets k i place w h waiting going timely known o =
    subst (λ (ys : List ℕ). IsPrefix ys (concat packets)) o.knows
    (begins packets o.line.accepted
    (holds_gone in_halves (in_claims packets) (in_keeps packets) (its_way k.kind) (in_split o.line o.wait o.slot) o.holds).in_order)
