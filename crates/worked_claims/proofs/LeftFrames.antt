-- Where a queue head or a descriptor that left the frame list may lead.
use Rattle.std.proofs.Common.{◌≡◌, ◌≢◌, ℕ, true, false, nat_eq, ◌&&◌, ap, refl, sym, ◌∙◌, ⊎_elim, inl, inr, arith}
use Rattle.std.proofs.lemmas.Bool.{and_parts, eqb-true, or_cases}
use Rattle.std.specs.Prelude.{◌||◌}
use Rattle.drv_chains.specs.declared.members.Descriptor.{Descriptor}
use Rattle.drv_chains.specs.declared.members.Member.{Member}
use Rattle.drv_chains.specs.declared.members.Member.TheVariants.{Once, Each}
use Rattle.drv_chains.specs.declared.members.QueueHead.{QueueHead}
use Rattle.drv_chains.specs.Chains.{id_of}
use Rattle.drv_table.specs.DriverContent.{DriverContent}
use Rattle.claims_world.specs.Links.{EndsOrLeadsLater, now, unlinked_later, ends, leads}
use Rattle.worked_claims.specs.LeftFrames.{queue_at, descriptor_at, two_live, LeftLater, LiveLeads, EndLeads, LaterLeads, EarlierBreaks}

pub live_leads : LiveLeads
live_leads d = (now (leads (Each (queue_at 1)) refl refl), now (leads (Once (descriptor_at 4)) refl refl))

pub end_leads : EndLeads
end_leads d = now (ends refl)

pub later_leads : LaterLeads
later_leads d = (unlinked_later (Each (queue_at 3)) (inl refl) refl, unlinked_later (Once (descriptor_at 5)) (inr refl) refl)

live_id : (r : QueueHead) → (nat_eq 34 r.id && (nat_eq 8 r.period && nat_eq 0 r.phase)) || false ≡ true → r.id ≡ 34
live_id r on =
    ⊎_elim
    (λ (this : nat_eq 34 r.id && (nat_eq 8 r.period && nat_eq 0 r.phase) ≡ true).
    sym (eqb-true 34 r.id (and_parts (nat_eq 34 r.id) (nat_eq 8 r.period && nat_eq 0 r.phase) this).0))
    (λ (none : false ≡ true). absurd (cc))
    (or_cases (nat_eq 34 r.id && (nat_eq 8 r.period && nat_eq 0 r.phase)) false on)

live_name : (k : Descriptor) → (nat_eq 128 k.id && nat_eq 0 k.frame) || false ≡ true → k.id ≡ 128
live_name k on =
    ⊎_elim
    (λ (this : nat_eq 128 k.id && nat_eq 0 k.frame ≡ true). sym (eqb-true 128 k.id (and_parts (nat_eq 128 k.id) (nat_eq 0 k.frame) this).0))
    (λ (none : false ≡ true). absurd (cc))
    (or_cases (nat_eq 128 k.id && nat_eq 0 k.frame) false on)

later_id : (x : Member) → LeftLater x → (id_of x ≢ 98) → (id_of x ≢ 160) → ⊥
later_id x left one two =
    ⊎_elim (λ (is : x ≡ Each (queue_at 3)). one (ap id_of is)) (λ (is : x ≡ Once (descriptor_at 5)). two (ap id_of is)) left

none_leads : (d : DriverContent) (v : ℕ) → v ≢ 1 → v ≢ 34 → v ≢ 128 → v ≢ 98 → v ≢ 160 → EndsOrLeadsLater (two_live d) LeftLater v → ⊥
none_leads d v end queue descriptor three five (now (ends is)) = end is
none_leads d v end queue descriptor three five (now (leads (Once k) on is)) = descriptor (is ∙ live_name k on)
none_leads d v end queue descriptor three five (now (leads (Each r) on is)) = queue (is ∙ live_id r on)
none_leads d v end queue descriptor three five (unlinked_later x left is) =
    later_id x left (λ same. three (is ∙ same)) (λ same. five (is ∙ same))

pub earlier_breaks : EarlierBreaks
earlier_breaks d = (
  none_leads d 66 (λ is. omega (arith, is)) (λ is. omega (arith, is)) (λ is. omega (arith, is)) (λ is. omega (arith, is))
      (λ is. omega (arith, is)),
  none_leads d 192 (λ is. omega (arith, is)) (λ is. omega (arith, is)) (λ is. omega (arith, is)) (λ is. omega (arith, is))
      (λ is. omega (arith, is)),
)
