-- Which links of two queue heads that left are so.
use Rattle.std.proofs.Common.{◌≡◌, ℕ, zero, suc, ◌+◌, ◌*◌, false, List, [], ◌∷◌, slice_get, Some, ap, refl, sym, ◌∙◌, arith}
use Rattle.std.proofs.lemmas.Bool.{true≢false}
use Rattle.std.proofs.lemmas.Option.{same_Some}
use Rattle.word_mem.specs.Memory.{Mem, word_at}
use Rattle.drv_table.specs.declared.content.Endpoint.{Endpoint}
use Rattle.drv_table.specs.DriverContent.{DriverContent}
use Rattle.drv_table.specs.Words.{head_block}
use Rattle.claims_driver.specs.Ring.{first}
use Rattle.claims_world.specs.Links.{IsLive, the_head, a_queue, IsLiveOrLater, live, left_later, HasLeftBefore}
use Rattle.worked_claims.specs.LeftQueues.{two, out_at, two_words, LaterLeads, EarlierBreaks, ItselfBreaks}

pub later_leads : LaterLeads
later_leads m d x = (
  record {
    endpoint = out_at x 0;
    here = refl;
    out = refl;
    leads = record { block = 1; link = refl; is = left_later 1 (first []) (record { endpoint = out_at x 1; here = refl; queue = refl }) };
  },
  (
    record {
      endpoint = out_at x 1;
      here = refl;
      out = refl;
      leads = record { block = head_block; link = refl; is = live (the_head refl) };
    },
    tt,
  ),
)

-- none of them is in the ring
module _ (d : DriverContent) (x : Endpoint) (es fs : List ℕ) where
  out_of_ring : (e : ℕ) (y : Endpoint) → slice_get (two d x es fs).endpoints e ≡ Some y → y.linked ≡ false
  out_of_ring zero y here = ap (λ (z : Endpoint). z.linked) (sym (same_Some (out_at x 0) y here))
  out_of_ring (suc zero) y here = ap (λ (z : Endpoint). z.linked) (sym (same_Some (out_at x 1) y here))
  out_of_ring (suc (suc e)) y here = absurd (cc)

  head_alone : (b : ℕ) → IsLive (two d x es fs) b → b ≡ head_block
  head_alone b (the_head is) = is
  head_alone b (a_queue e y here on is) = absurd (true≢false (sym on ∙ out_of_ring e y here))

  none_later : (b : ℕ) → IsLiveOrLater (two d x es fs) [] b → b ≡ head_block
  none_later b (live l) = head_alone b l
  none_later b (left_later e among place) = elim among [ ]

  first_place : (m : Mem) (h : HasLeftBefore m (two d x es fs) [] 0) → h.endpoint.queue ≡ 0
  first_place m h = ap (λ (z : Endpoint). z.queue) (sym (same_Some (out_at x 0) h.endpoint h.here))

pub earlier_breaks : EarlierBreaks
earlier_breaks m d x all =
    let es : List ℕ = 1 ∷ [] in
    let fs : List ℕ = 0 ∷ [] in
    let now : Mem = record m { words = two_words } in
    let h = all.1.0 in
    let back : h.leads.block ≡ 128 = none_later d x es fs h.leads.block h.leads.is in
    let link : 34 ≡ 32 * h.leads.block + 2 = sym (ap (λ (q : ℕ). word_at now (32 * q)) (first_place d x es fs now h)) ∙ h.leads.link in
    omega (arith, link, back)

pub itself_breaks : ItselfBreaks
itself_breaks m d x all =
    let es : List ℕ = 0 ∷ [] in
    let fs : List ℕ = [] in
    let now : Mem = record m { words = 2 ∷ [] } in
    let h = all.0 in
    let back : h.leads.block ≡ 128 = none_later d x es fs h.leads.block h.leads.is in
    let link : 2 ≡ 32 * h.leads.block + 2 = sym (ap (λ (q : ℕ). word_at now (32 * q)) (first_place d x es fs now h)) ∙ h.leads.link in
    omega (arith, link, back)
