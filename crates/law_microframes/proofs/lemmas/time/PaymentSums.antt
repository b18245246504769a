-- All that was paid in a microframe is no more than its load: the visits in which something was paid are to different placed endpoints (USB 2.0, 5.9 and 5.11.3).
use Rattle.std.proofs.Common.{◌≡◌, ◌≢◌, ℕ, ◌+◌, ◌<◌, List, [], ◌∷◌, slice_get, ap, refl, sym, subst, ◌∙◌, inl, inr, arith}
use Rattle.std.specs.List.{AllByRecursion}
use Rattle.std.proofs.lemmas.List.Sums.{sum_by-cons}
use Rattle.std.proofs.lemmas.Option.{same_Some}
use Rattle.usb_base.specs.declared.packets.EpKind.{EpKind}
use Rattle.usb_base.specs.declared.packets.EpKind.TheVariants as kinds
use Rattle.bandwidth.specs.declared.placements.Placed.{Placed}
use Rattle.bandwidth.specs.Sums.{Fits}
use Rattle.drv_table.specs.declared.content.Endpoint.{Endpoint}
use Rattle.drv_table.specs.DriverContent.{DriverContent}
use Rattle.law_budgets.specs.visit_prices.Spent.{IsAmong}
use Rattle.bus_world.specs.World.{World}
use Rattle.claims_world.specs.Memory.{IsNone, AreOnce}
use Rattle.law_microframes.specs.visits.Belonging.{IsQueueAt}
use Rattle.law_microframes.specs.visits.OneDescriptor.{IsActiveDescriptor, IsMixedOnce}
use Rattle.claims_world.specs.Visits.{frame_in}
use Rattle.law_microframes.specs.time.ChargeLoads.{PaidVisit, IsPaidIn, ArePaidApart, ArePaidOf, paid_in}
use Rattle.law_microframes.specs.time.Payments.{names_in}
use Rattle.claims_world.specs.WithinLoad.{paid_by_all, microframe_in, IsWithinLoad}
use Rattle.law_microframes.specs.time.PaymentLaws.{IsOfIsochronous, IsOwnedBy, by_queue, by_descriptor, IsPayment, ArePaid}
use Rattle.law_microframes.proofs.lemmas.visits.BelongReads.{names_are_apart}
use Rattle.law_microframes.proofs.lemmas.visits.OneDescriptor.{one_descriptor_each}
use Rattle.law_microframes.proofs.lemmas.time.ChargeLoads.{paid_is_within_load, paid_leaves_a_fifth}

small : (index : ℕ) → microframe_in index < 8192
small index = omega arith

other_kind : (k : EpKind) → k ≡ kinds.Interrupt → k ≡ kinds.Iso → ⊥
other_kind k one two = let e : kinds.Interrupt ≡ kinds.Iso = sym one ∙ two in cc

module _ (b : World) (once : IsMixedOnce b) (d : DriverContent) (now index : ℕ) where
  -- ---- who owns them

  planned_of : (a : ℕ) (x : Placed) → IsOwnedBy b d now (frame_in index) a x → IsAmong d.periodic.plan.placed x
  planned_of a x (by_queue q is) = subst (IsAmong d.periodic.plan.placed) is q.belongs.planned
  planned_of a x (by_descriptor e i is active) = subst (IsAmong d.periodic.plan.placed) is i.planned

  not_both : (a e : ℕ) (q : IsQueueAt d a) (i : IsOfIsochronous d now e) → q.belongs.number ≡ e → ⊥
  not_both a e q i same =
      let one : q.belongs.endpoint ≡ i.endpoint = same_Some q.belongs.endpoint i.endpoint (sym q.belongs.here ∙ ap (slice_get d.endpoints) same ∙ i.here) in
      other_kind i.endpoint.desc.kind (ap (λ (z : Endpoint). z.desc.kind) (sym one) ∙ q.kind) i.kind

  same_owner : (a c : ℕ) (x y : Placed) → IsOwnedBy b d now (frame_in index) a x → IsOwnedBy b d now (frame_in index) c y → x.want.id ≡ y.want.id → a ≡ c
  same_owner a c x y (by_queue q is) (by_queue r js) same = names_are_apart d a c q r (ap (λ (z : Placed). z.want.id) is ∙ same ∙ sym (ap (λ (z : Placed). z.want.id) js))
  same_owner a c x y (by_queue q is) (by_descriptor e i js active) same = absurd (not_both a e q i (ap (λ (z : Placed). z.want.id) is ∙ same ∙ sym (ap (λ (z : Placed). z.want.id) js)))
  same_owner a c x y (by_descriptor e i is active) (by_queue q js) same = absurd (not_both c e q i (ap (λ (z : Placed). z.want.id) js ∙ sym same ∙ sym (ap (λ (z : Placed). z.want.id) is)))
  same_owner a c x y (by_descriptor e i is active) (by_descriptor f j js other) same =
      let at : e ≡ f = ap (λ (z : Placed). z.want.id) is ∙ same ∙ sym (ap (λ (z : Placed). z.want.id) js) in
      one_descriptor_each once.mixed.standing b f (frame_in index) a c once.mixed.mixed once.one (subst (λ (g : ℕ). IsActiveDescriptor b.driver b.memory g (frame_in index) a) at active) other

  abbrev IsOne : ℕ × ℕ → Type 0
  IsOne entry = IsPayment b d now index entry

  with_visit : (x : ℕ × ℕ) → IsPayment b d now index x → List PaidVisit → List PaidVisit
  with_visit x (inl none) vs = vs
  with_visit x (inr p) vs = record { of = p.of; paid = x.1 } ∷ vs

  visits_of : (ps : List (ℕ × ℕ)) → AllByRecursion (IsPayment b d now index) ps → List PaidVisit
  visits_of [] all = []
  visits_of (x ∷ ps) all = with_visit x all.0 (visits_of ps all.1)

  one_paid : (x : ℕ × ℕ) (one : IsPayment b d now index x) (vs : List PaidVisit) (n : ℕ) → n ≡ paid_in vs → x.1 + n ≡ paid_in (with_visit x one vs)
  unfolding with_visit
  one_paid x (inl none) vs n is = omega (arith, none, is)
  one_paid x (inr p) vs n is =
      let v : PaidVisit = record { of = p.of; paid = x.1 } in
      omega (arith, is, sum_by-cons (λ (z : PaidVisit). z.paid) v vs)

  all_paid : (ps : List (ℕ × ℕ)) (all : AllByRecursion (IsPayment b d now index) ps) → paid_by_all ps ≡ paid_in (visits_of ps all)
  unfolding visits_of
  all_paid [] all = refl
  all_paid (x ∷ ps) all = sum_by-cons (λ (z : ℕ × ℕ). z.1) x ps ∙ one_paid x all.0 (visits_of ps all.1) (paid_by_all ps) (all_paid ps all.1)

  -- ---- each is a visit to a placed endpoint

  one_among : (x : ℕ × ℕ) (one : IsPayment b d now index x) (vs : List PaidVisit) → AllByRecursion (λ (v : PaidVisit). IsAmong d.periodic.plan.placed v.of) vs
      → AllByRecursion (λ (v : PaidVisit). IsAmong d.periodic.plan.placed v.of) (with_visit x one vs)
  unfolding with_visit
  one_among x (inl none) vs all = all
  one_among x (inr p) vs all = (planned_of x.0 p.of p.owned, all)

  all_among : (ps : List (ℕ × ℕ)) (all : AllByRecursion (IsPayment b d now index) ps) → AllByRecursion (λ (v : PaidVisit). IsAmong d.periodic.plan.placed v.of) (visits_of ps all)
  unfolding visits_of
  all_among [] all = tt
  all_among (x ∷ ps) all = one_among x all.0 (visits_of ps all.1) (all_among ps all.1)

  one_within : (x : ℕ × ℕ) (one : IsPayment b d now index x) (vs : List PaidVisit) → AllByRecursion (IsPaidIn (microframe_in index)) vs → AllByRecursion (IsPaidIn (microframe_in index)) (with_visit x one vs)
  unfolding with_visit
  one_within x (inl none) vs all = all
  one_within x (inr p) vs all = (p.within, all)

  all_within : (ps : List (ℕ × ℕ)) (all : AllByRecursion (IsPayment b d now index) ps) → AllByRecursion (IsPaidIn (microframe_in index)) (visits_of ps all)
  unfolding visits_of
  all_within [] all = tt
  all_within (x ∷ ps) all = one_within x all.0 (visits_of ps all.1) (all_within ps all.1)

  -- ---- no two are to one endpoint

  one_other : (a : ℕ) (of : Placed) (o : IsOwnedBy b d now (frame_in index) a of) (x : ℕ × ℕ) (one : IsPayment b d now index x) (vs : List PaidVisit) → a ≢ x.0
      → AllByRecursion (λ (v : PaidVisit). v.of.want.id ≢ of.want.id) vs → AllByRecursion (λ (v : PaidVisit). v.of.want.id ≢ of.want.id) (with_visit x one vs)
  unfolding with_visit
  one_other a of o x (inl none) vs differs all = all
  one_other a of o x (inr p) vs differs all =
      ((λ same. differs (same_owner a x.0 of p.of o p.owned (sym same))), all)

  all_others : (a : ℕ) (of : Placed) (o : IsOwnedBy b d now (frame_in index) a of) (ps : List (ℕ × ℕ)) (all : AllByRecursion (IsPayment b d now index) ps) → IsNone a (names_in ps)
      → AllByRecursion (λ (v : PaidVisit). v.of.want.id ≢ of.want.id) (visits_of ps all)
  unfolding visits_of
  all_others a of o [] all none = tt
  all_others a of o (x ∷ ps) all none = one_other a of o x all.0 (visits_of ps all.1) none.0 (all_others a of o ps all.1 none.1)

  one_apart : (x : ℕ × ℕ) (one : IsPayment b d now index x) (ps : List (ℕ × ℕ)) (all : AllByRecursion (IsPayment b d now index) ps) → IsNone x.0 (names_in ps) → ArePaidApart (visits_of ps all)
      → ArePaidApart (with_visit x one (visits_of ps all))
  unfolding with_visit
  one_apart x (inl none) ps all once rest = rest
  one_apart x (inr p) ps all once rest = (all_others x.0 p.of p.owned ps all once, rest)

  all_apart : (ps : List (ℕ × ℕ)) (all : AllByRecursion (IsPayment b d now index) ps) → AreOnce (names_in ps) → ArePaidApart (visits_of ps all)
  unfolding visits_of
  all_apart [] all once = tt
  all_apart (x ∷ ps) all once = one_apart x all.0 ps all.1 once.0 (all_apart ps all.1 once.1)

pub within_load : (b w : World) (ps : List (ℕ × ℕ)) → IsMixedOnce b → Fits w.driver.periodic.plan.placed → AreOnce (names_in ps) → ArePaid b w.driver w.registers.frame_index w.control ps → IsWithinLoad w ps
within_load b w ps began fits once k =
    let now = w.registers.frame_index in
    let index = w.control.frame.index in
    let vs = visits_of b began w.driver now index ps k.entries in
    let of : ArePaidOf w.driver.periodic.plan.placed vs
    = record { among = all_among b began w.driver now index ps k.entries; apart = all_apart b began w.driver now index ps k.entries once } in
    let within = all_within b began w.driver now index ps k.entries in
    let same = all_paid b began w.driver now index ps k.entries in
    record {
      within = omega (arith, same, paid_is_within_load w.driver.periodic.plan.placed (microframe_in index) vs of within);
      fifth = omega (arith, same, paid_leaves_a_fifth w.driver.periodic.plan.placed (microframe_in index) vs fits (small index) of within);
    }
