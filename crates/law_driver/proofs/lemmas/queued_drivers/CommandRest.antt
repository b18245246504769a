-- What an accepted command leaves of all else that queues rest on: the kinds of the endpoints, the transfers that are to be given back, and who leaves its frames.
use Rattle.std.proofs.Common.{◌≡◌, ℕ, true, false, List, [], ◌∷◌, ◌++◌, length, set, slice_get, Some, None, is_some, Result, Ok, ap, sym, subst, ◌∙◌, ⊎_elim, refl}
use Rattle.std.proofs.lemmas.Bool.{false≢true}
use Rattle.std.proofs.lemmas.List.{append-nil}
use Rattle.std.proofs.lemmas.Option.{same_Some}
use Rattle.law_common.proofs.Lists.{set_here, push_which}
use Rattle.usb_base.specs.declared.commands.Cmd.{Cmd}
use Rattle.usb_base.specs.declared.commands.Cmd.TheVariants as commands
use Rattle.usb_base.specs.declared.endpoints.EpDesc.{EpDesc}
use Rattle.usb_base.specs.declared.endpoints.EpName.{EpName}
use Rattle.usb_base.specs.declared.reports.OfferError.{OfferError}
use Rattle.word_mem.specs.Memory.{Mem}
use Rattle.drv_periodic_table.specs.Periodic.{is_periodic}
use Rattle.drv_table.specs.declared.content.Endpoint.{Endpoint}
use Rattle.drv_table.specs.declared.content.Transfer.{Transfer}
use Rattle.drv_table.specs.declared.content.Command.TheVariants as unfinished
use Rattle.drv_table.specs.DriverContent.{DriverContent}
use Rattle.drv_table.specs.Accepting.{Offered, first_waiting, new_runs}
use Rattle.drv_table.specs.Offers.{Asked, new_endpoint, placed_endpoint, with_queued, new_transfer, accepted_transfer}
use Rattle.drv_table.specs.IsoOffers.{Descriptors}
use Rattle.claims_driver.specs.Leaving.{IsOrderly}
use Rattle.law_driver.proofs.lemmas.chained_transfers.Rows.{ends_set}
use Rattle.law_driver.specs.queued_drivers.Queued.{FitsKind}
use Rattle.law_driver.specs.queued_drivers.Commands.{OpensFitting}
use Rattle.law_driver.proofs.lemmas.queued_drivers.CommandReasons.{IsNew, in_ring, in_frames, bare, IsTakenOn, IsDescribedAs, IsLeft, from_ring, from_frames, IsReasonOf}
use Rattle.law_driver.proofs.lemmas.queued_drivers.CommandEnds.{described_more}
use Rattle.law_driver.proofs.lemmas.queued_drivers.CommandLeaves.{cancelled, Left, unchained}

-- ---- endpoints

pub record IsFit (x : Endpoint) : Type 0 where
  pub kind : FitsKind x.desc
  pub leaves : is_periodic x.desc.kind ≡ true → x.chained ≡ false → x.cancelled ≡ true

abbrev pub AllFit : List Endpoint → Type 0
AllFit xs = (e : ℕ) (x : Endpoint) → slice_get xs e ≡ Some x → IsFit x

fit_push : (xs : List Endpoint) (x : Endpoint) → IsFit x → AllFit xs → AllFit (xs ++ x ∷ [])
fit_push xs x one all e z here = ⊎_elim (λ (was : slice_get xs e ≡ Some z). all e z was) (λ (new : (e ≡ length xs) × (z ≡ x)). subst IsFit (sym new.1) one) (push_which xs x e z here)

-- ---- all else

pub record IsRestOf (d c : DriverContent) : Type 0 where
  pub fits : AllFit c.endpoints
  pub leaver : (e : ℕ) (x : Endpoint) → c.command ≡ Some (unfinished.Unchain e) → slice_get c.endpoints e ≡ Some x → x.cancelled ≡ true
  pub ring : (e b link : ℕ) (x : Endpoint) → c.command ≡ Some (unfinished.Unlink e b link) → slice_get c.endpoints e ≡ Some x → is_periodic x.desc.kind ≡ false
  pub more : List Transfer
  pub moves : c.transfers ≡ d.transfers ++ more
  pub harvested : c.harvested ≡ d.harvested

module _ (d : DriverContent) (m : Mem) (o : Offered) (order : IsOrderly d) (all : AllFit d.endpoints) where
  new_rest : (x : EpDesc) → FitsKind x → IsNew d m o x → IsRestOf d o.driver
  new_rest x fits (in_ring w same) =
      subst (λ (g : Offered). IsRestOf d g.driver) (sym w.is)
      (record {
        fits = fit_push d.endpoints (new_endpoint w.desc _ _) (record { kind = subst FitsKind (sym same) fits; leaves = λ on off. absurd (false≢true (sym w.ring ∙ on)) }) all;
        leaver = λ e y is here. absurd (cc);
        ring = λ e b link y is here. absurd (cc);
        more = [];
        moves = sym (append-nil d.transfers);
        harvested = refl;
      })
  new_rest x fits (in_frames w same) =
      subst (λ (g : Offered). IsRestOf d g.driver) (sym w.is)
      (record {
        fits = fit_push d.endpoints (placed_endpoint w.desc w.placement _ _) (record { kind = subst FitsKind (sym same) fits; leaves = λ on off. absurd (false≢true (sym off)) }) all;
        leaver = λ e y is here. absurd (cc);
        ring = λ e b link y is here. absurd (cc);
        more = [];
        moves = sym (append-nil d.transfers);
        harvested = refl;
      })
  new_rest x fits (bare w same) =
      subst (λ (g : Offered). IsRestOf d g.driver) (sym w.is)
      (record {
        fits = fit_push d.endpoints (placed_endpoint w.desc w.placement 0 0) (record { kind = subst FitsKind (sym same) fits; leaves = λ on off. absurd (false≢true (sym off)) }) all;
        leaver = λ e y is here. let no : None ≡ Some (unfinished.Unchain e) = sym w.idle ∙ is in absurd (cc);
        ring = λ e b link y is here. let no : None ≡ Some (unfinished.Unlink e b link) = sym w.idle ∙ is in absurd (cc);
        more = [];
        moves = sym (append-nil d.transfers);
        harvested = refl;
      })

  taken_rest : (name : EpName) (takes : Endpoint → _) (a : Asked) → IsTakenOn d m o name takes a → IsRestOf d o.driver
  taken_rest name takes a w =
      let e = w.number in
      let x = w.endpoint in
      let g : Offered = accepted_transfer d e x a w.holding_after _ _ in
      let same : g ≡ o = is_same g w.is in
      subst (λ (f : Offered). IsRestOf d f.driver) same
      (record {
        fits = ends_set IsFit d.endpoints e x (with_queued x _ (length d.transfers)) w.here (λ s. record { kind = s.kind; leaves = s.leaves }) all;
        leaver = λ k y is here. absurd (cc);
        ring = λ k b link y is here. absurd (cc);
        more = new_transfer e a x.dummy ∷ [];
        moves = refl;
        harvested = refl;
      })
    where
      is_same : (g : Offered) → ◌≡◌ {A = Result Offered OfferError} (Ok g) (Ok o) → g ≡ o
      is_same g is = cc

  described_rest : IsDescribedAs d m o → IsRestOf d o.driver
  described_rest w =
      let e = w.number in
      let x = w.endpoint in
      let start : Descriptors = record { notes = d.periodic.notes; transfers = d.transfers; memory = w.holding_after.memory } in
      let h = described_more w.holding_after.book e x.desc w.slots w.count w.seed (new_runs d w.holding_after) start in
      subst (λ (g : Offered). IsRestOf d g.driver) (sym w.is)
      (record {
        fits = ends_set IsFit d.endpoints e x (record x { next = first_waiting x.next (length d.transfers) }) w.here (λ s. record { kind = s.kind; leaves = s.leaves }) all;
        leaver = λ k y is here. absurd (cc);
        ring = λ k b link y is here. absurd (cc);
        more = h.more;
        moves = h.is;
        harvested = refl;
      })

  left_rest : (name : EpName) → IsLeft d m o name → IsRestOf d o.driver
  left_rest name (from_ring w named) =
      subst (λ (g : Offered). IsRestOf d g.driver) (sym w.is)
      (record {
        fits = ends_set IsFit d.endpoints w.number w.endpoint (cancelled w.endpoint) w.here (λ s. record { kind = s.kind; leaves = λ on off. refl }) all;
        leaver = λ k y is here. absurd (cc);
        ring = λ k b link y is here.
            let same : w.number ≡ k = cc in
            let z = cancelled w.endpoint in
            let own : y ≡ z = same_Some y z (sym here ∙ (ap (slice_get (set d.endpoints w.number z)) (sym same) ∙ set_here d.endpoints w.number w.endpoint z w.here)) in
            ap (λ (v : Endpoint). is_periodic v.desc.kind) own ∙ (sym (order.steady w.number w.endpoint w.here).placed ∙ ap is_some w.ring);
        more = [];
        moves = sym (append-nil d.transfers);
        harvested = refl;
      })
  left_rest name (from_frames w named) =
      let e = w.number in
      let x = w.endpoint in
      let u = unchained d m o w in
      subst (IsRestOf d) (sym u.is)
      (record {
        fits = ends_set IsFit d.endpoints e x (Left x u.chained) w.here (λ s. record { kind = s.kind; leaves = λ on off. refl }) all;
        leaver = λ k y is here. ⊎_elim
            (λ (on : u.command ≡ Some (unfinished.Unchain e)).
            let both : Some (unfinished.Unchain e) ≡ Some (unfinished.Unchain k) = sym on ∙ is in
            let same : e ≡ k = cc in
            let own : y ≡ Left x u.chained = same_Some y (Left x u.chained) (sym here ∙ (ap (slice_get (set d.endpoints e (Left x u.chained))) (sym same) ∙ set_here d.endpoints e x (Left x u.chained) w.here)) in
            ap (λ (z : Endpoint). z.cancelled) own)
            (λ (off : u.command ≡ None). let no : None ≡ Some (unfinished.Unchain k) = sym off ∙ is in absurd (cc)) u.which;
        ring = λ k b link y is here. ⊎_elim
            (λ (on : u.command ≡ Some (unfinished.Unchain e)). let no : Some (unfinished.Unchain e) ≡ Some (unfinished.Unlink k b link) = sym on ∙ is in absurd (cc))
            (λ (off : u.command ≡ None). let no : None ≡ Some (unfinished.Unlink k b link) = sym off ∙ is in absurd (cc)) u.which;
        more = [];
        moves = sym (append-nil d.transfers);
        harvested = refl;
      })

  pub rest_of : (cmd : Cmd) → OpensFitting cmd → IsReasonOf d m o cmd → IsRestOf d o.driver
  rest_of (commands.OpenEp x) fits why = new_rest x fits why
  rest_of (commands.Get name len by) fits why = taken_rest name _ _ why
  rest_of (commands.Put name bytes by) fits why = taken_rest name _ _ why
  rest_of (commands.Control name setup bytes) fits why = taken_rest name _ _ why
  rest_of (commands.Iso name count len seed) fits why = described_rest why
  rest_of (commands.Cancel name) fits why = left_rest name why
  rest_of _ fits why = absurd why
