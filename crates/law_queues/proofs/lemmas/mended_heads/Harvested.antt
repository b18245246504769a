-- A harvest: other endpoints are owed what they were, and the endpoint of a stall its three stores.
use Rattle.std.proofs.Common.{◌≡◌, ◌≢◌, ℕ, zero, suc, ◌-◌, Bool, true, false, cond, List, [], ◌∷◌, ◌++◌, length, set, slice_get, Option, Some, None, ap, sym, subst, ◌∙◌, refl}
use Rattle.std.proofs.lemmas.Bool.{false≢true}
use Rattle.law_common.proofs.Lists.{set_here}
use Rattle.usb_base.specs.declared.endpoints.EpName.{EpName}
use Rattle.usb_base.specs.declared.endpoints.EndCause.{EndCause}
use Rattle.usb_base.specs.declared.reports.What.{What}
use Rattle.word_mem.specs.Memory.{Mem}
use Rattle.drv_table.specs.declared.content.Endpoint.{Endpoint}
use Rattle.drv_table.specs.declared.content.Transfer.{Transfer}
use Rattle.drv_table.specs.declared.rows.Found.{Found}
use Rattle.drv_table.specs.declared.rows.Found.TheVariants as founds
use Rattle.drv_table.specs.DriverContent.{DriverContent, waits_for}
use Rattle.drv_table.specs.Harvests.{is_stall, end_of, noted}
use Rattle.drv_table.specs.Harvesting.{served, moved_on, told_with, goes_on, behind_one, behind, mends_of, stalled, descriptor_told, after_end, harvested_as, after_harvest}
use Rattle.law_queues.proofs.lemmas.mended_heads.Content.{KeepFirsts, firsts_same, firsts_both, firsts_set, KeepOwed, owed_same, owed_set}

abbrev IsOther : ℕ → ℕ → Endpoint → Type 0
IsOther e i x = i ≢ e

-- endpoint e alone is written, and transfers begin where they did
others_set : (d f : DriverContent) (e : ℕ) (y : Endpoint) → f.endpoints ≡ set d.endpoints e y → KeepFirsts d.transfers f.transfers → KeepOwed (λ i x. i ≢ e) d.endpoints d.transfers f.endpoints f.transfers
others_set d f e y ends firsts =
    subst (λ (ys : List Endpoint). KeepOwed (λ i x. i ≢ e) d.endpoints d.transfers ys f.transfers) (sym ends)
    (owed_set (λ i x. i ≢ e) d.endpoints d.transfers f.transfers e y firsts (λ x p here. absurd (p refl)))

others_same : (d f : DriverContent) (e : ℕ) → f.endpoints ≡ d.endpoints → KeepFirsts d.transfers f.transfers → KeepOwed (λ i x. i ≢ e) d.endpoints d.transfers f.endpoints f.transfers
others_same d f e ends firsts =
    subst (λ (ys : List Endpoint). KeepOwed (λ i x. i ≢ e) d.endpoints d.transfers ys f.transfers) (sym ends) (owed_same (λ i x. i ≢ e) d.endpoints d.transfers f.transfers firsts)

-- ---- those that wait behind a stall

pub record IsBehind (d f : DriverContent) : Type 0 where
  pub mends : f.mends ≡ d.mends
  pub endpoints : f.endpoints ≡ d.endpoints
  pub firsts : KeepFirsts d.transfers f.transfers

behind_same : (d : DriverContent) → IsBehind d d
behind_same d = record { mends = refl; endpoints = refl; firsts = firsts_same d.transfers }

behind_both : (d e f : DriverContent) → IsBehind d e → IsBehind e f → IsBehind d f
behind_both d e f one two = record { mends = two.mends ∙ one.mends; endpoints = two.endpoints ∙ one.endpoints; firsts = firsts_both d.transfers e.transfers f.transfers one.firsts two.firsts }

behind_either : (d e f : DriverContent) (b : Bool) → IsBehind d e → IsBehind d f → IsBehind d (cond b e f)
behind_either d e f true one two = one
behind_either d e f false one two = two

one_behind : (d : DriverContent) (e : ℕ) (name : EpName) (k : ℕ) (o : Option Transfer) → slice_get d.transfers k ≡ o → IsBehind d (behind_one d e name k o)
one_behind d e name k None here = behind_same d
one_behind d e name k (Some x) here =
    behind_either d _ d (waits_for e x) (record { mends = refl; endpoints = refl; firsts = firsts_set d.transfers k x (record x { reported = true }) here refl }) (behind_same d)

all_behind : (d : DriverContent) (e : ℕ) (name : EpName) (k n : ℕ) → IsBehind d (behind d e name k n)
unfolding behind
all_behind d e name k zero = behind_same d
all_behind d e name k (suc n) =
    behind_both d (behind_one d e name k (slice_get d.transfers k)) (behind (behind_one d e name k (slice_get d.transfers k)) e name (suc k) n)
    (one_behind d e name k (slice_get d.transfers k) refl) (all_behind (behind_one d e name k (slice_get d.transfers k)) e name (suc k) n)

-- ---- what a harvest finds

-- endpoint e, which is x, has its transfer t read
module _ (d : DriverContent) (m : Mem) (e t : ℕ) (x : Endpoint) (y : Transfer) (here : slice_get d.endpoints e ≡ Some x) (there : slice_get d.transfers t ≡ Some y) where
  abbrev IsElse : ℕ → Endpoint → Type 0
  IsElse i z = i ≢ e

  -- no store more is owed
  pub record NothingMore (f : DriverContent) : Type 0 where
    pub mends : f.mends ≡ d.mends
    pub others : KeepOwed (λ i z. i ≢ e) d.endpoints d.transfers f.endpoints f.transfers

  -- the endpoint is owed its three
  pub record OwesMore (f : DriverContent) : Type 0 where
    pub mends : f.mends ≡ d.mends ++ mends_of x
    pub others : KeepOwed (λ i z. i ≢ e) d.endpoints d.transfers f.endpoints f.transfers
    pub own : slice_get f.endpoints e ≡ Some (record x { next = None })

  -- what is served after it
  nothing_served : (f : DriverContent) → NothingMore f → NothingMore (served f e)
  nothing_served f k = record { mends = k.mends; others = k.others }

  more_served : (f : DriverContent) → OwesMore f → OwesMore (served f e)
  more_served f k = record { mends = k.mends; others = k.others; own = k.own }

  abbrev told : What → ℕ → DriverContent
  told what n = told_with d m t y what x.desc.name (noted d.notes y.place n)

  told_firsts : (what : What) (n : ℕ) → KeepFirsts d.transfers (told what n).transfers
  told_firsts what n = firsts_set d.transfers t y (record y { reported = true }) there refl

  stall_owes : (what : What) (n : ℕ) → OwesMore (stalled (told what n) e t x)
  stall_owes what n =
      let f = told what n in
      let g = record f { harvested = f.harvested ++ t ∷ []; endpoints = set f.endpoints e (record x { next = None }); mends = f.mends ++ mends_of x } in
      let b = all_behind g e x.desc.name (suc t) (length f.transfers - suc t) in
      record {
        mends = b.mends;
        others = others_set d (stalled f e t x) e (record x { next = None }) b.endpoints (firsts_both d.transfers f.transfers (stalled f e t x).transfers (told_firsts what n) b.firsts);
        own = ap (λ (ys : List Endpoint). slice_get ys e) b.endpoints ∙ set_here d.endpoints e x (record x { next = None }) here;
      }

  end_owes_none : (what : What) (n : ℕ) (cause : EndCause) (stall : Bool) → NothingMore (after_end (told what n) e t x stall (Some cause))
  end_owes_none what n cause stall = record { mends = refl; others = others_set d (after_end (told what n) e t x stall (Some cause)) e (record x { ended = Some cause }) refl (told_firsts what n) }

  onward_owes_none : (what : What) (n : ℕ) → NothingMore (goes_on (told what n) e t x)
  onward_owes_none what n = record { mends = refl; others = others_set d (goes_on (told what n) e t x) e _ refl (told_firsts what n) }

  -- no stall, or it ends the endpoint
  ended_owes_none : (what : What) (n : ℕ) (stall : Bool) (o : Option EndCause) → ((stall ≡ true) → (o ≡ None) → ⊥) → NothingMore (after_end (told what n) e t x stall o)
  ended_owes_none what n stall (Some cause) none = end_owes_none what n cause stall
  ended_owes_none what n false None none = onward_owes_none what n
  ended_owes_none what n true None none = absurd (none refl refl)

  ended_owes : (what : What) (n : ℕ) (stall : Bool) (o : Option EndCause) → stall ≡ true → o ≡ None → OwesMore (after_end (told what n) e t x stall o)
  ended_owes what n true None on none = stall_owes what n
  ended_owes what n false None on none = absurd (false≢true on)
  ended_owes what n stall (Some cause) on none = absurd (cc)

  waits_none : (b : Bool) (f : DriverContent) → NothingMore f → NothingMore d → NothingMore (cond b f d)
  waits_none true f one two = one
  waits_none false f one two = two

  unchanged : NothingMore d
  unchanged = record { mends = refl; others = others_same d d e refl (firsts_same d.transfers) }

  pub harvest_owes_none : (found : Found) → ((n : ℕ) (what : What) → found ≡ founds.Ended n what → is_stall what ≡ true → end_of x.desc.kind what ≡ None → ⊥)
      → NothingMore (after_harvest d m e t found (Some x) (Some y))
  harvest_owes_none found none = waits_none (waits_for e y) (served (harvested_as d m e t x y found) e) (nothing_served (harvested_as d m e t x y found) (by found none)) unchanged
    where
      by : (found : Found) → ((n : ℕ) (what : What) → found ≡ founds.Ended n what → is_stall what ≡ true → end_of x.desc.kind what ≡ None → ⊥) → NothingMore (harvested_as d m e t x y found)
      by founds.Active none = unchanged
      by (founds.Moved n) none = record { mends = refl; others = others_same d (moved_on d t y n) e refl (firsts_set d.transfers t y _ there refl) }
      by (founds.Served errors) none = record { mends = refl; others = others_set d (descriptor_told d m e t x y errors) e _ refl (firsts_set d.transfers t y (record y { reported = true }) there refl) }
      by (founds.Ended n what) none = ended_owes_none what n (is_stall what) (end_of x.desc.kind what) (λ on end. none n what refl on end)

  pub harvest_owes : (n : ℕ) (what : What) → waits_for e y ≡ true → is_stall what ≡ true → end_of x.desc.kind what ≡ None → OwesMore (after_harvest d m e t (founds.Ended n what) (Some x) (Some y))
  harvest_owes n what waits on end =
      subst (λ (b : Bool). OwesMore (cond b (served (harvested_as d m e t x y (founds.Ended n what)) e) d)) (sym waits)
      (more_served (harvested_as d m e t x y (founds.Ended n what)) (ended_owes what n (is_stall what) (end_of x.desc.kind what) on end))
