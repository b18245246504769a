-- Harvests and returns, and how many transfers of an endpoint aren't reported.
use Rattle.std.proofs.Common.{◌≡◌, ◌≢◌, ℕ, zero, suc, ◌+◌, ◌-◌, ◌==◌, ◌&&◌, ◌||◌, not, Bool, true, false, if◌then◌else◌, List, [], ◌∷◌, ◌++◌, length, take, drop, set, slice_get, Option, Some, None, ap, refl, sym, subst, ◌∙◌, arith}
use Rattle.std.specs.Prelude.{count_by}
use Rattle.std.proofs.lemmas.Bool.{cond_both}
use Rattle.law_common.proofs.Booleans.{and_false, first_of_both}
use Rattle.law_resting.proofs.Common.{drop_set}
use Rattle.usb_base.specs.declared.endpoints.EpName.{EpName}
use Rattle.usb_base.specs.declared.endpoints.EndCause.{EndCause}
use Rattle.usb_base.specs.declared.endpoints.EndCause.TheVariants.{Stall}
use Rattle.usb_base.specs.declared.reports.What.TheVariants.{Halt, Cancel}
use Rattle.word_mem.specs.Memory.{Mem}
use Rattle.mem_runs.specs.Book.{holding}
use Rattle.drv_table.specs.declared.content.Endpoint.{Endpoint}
use Rattle.drv_table.specs.declared.content.Transfer.{Transfer}
use Rattle.drv_table.specs.declared.rows.Found.{Found}
use Rattle.drv_table.specs.declared.rows.Found.TheVariants as founds
use Rattle.drv_table.specs.DriverContent.{DriverContent, waits_for}
use Rattle.drv_table.specs.Harvests.{reported, noted, is_stall, end_of}
use Rattle.drv_table.specs.Parts.{Parts}
use Rattle.drv_table.specs.Kinds.{is_iso}
use Rattle.drv_table.specs.Harvesting.{told_with, stalled, mends_of, behind, behind_one, after_end, harvested_as, after_harvest, served}
use Rattle.drv_table.specs.Releases.{cancelled_bytes, is_told, let_go, gone_with, after_endpoint, free_endpoint}
use Rattle.drv_table.specs.Removals.{let_go_waiting, let_go_placed, removed_with, after_placed, free_placed}
use Rattle.law_reports.specs.requests.told_requests.Rows.{IsHarvested}
use Rattle.law_reports.specs.requests.told_requests.Waiting.{waiting, OtherHarvestKeepsWaiting, OtherReturnsKeepWaiting, HarvestKeepsWaiting, HarvestEndsOne, HarvestStallsAll, StallHasWindows}
use Rattle.law_reports.proofs.lemmas.requests.lemmas.told_requests.Driver.{dropped_all}
use Rattle.law_reports.proofs.lemmas.requests.lemmas.told_requests.Waiting.{either, set_same, set_less, map_same, count_dropped, other_waits, behind_waits}

-- ---- of another endpoint

module _ (e k : ℕ) (differs : e ≢ k) where
  abbrev Same : DriverContent → DriverContent → Type 0
  Same d c = waiting c k ≡ waiting d k

  -- a transfer of that endpoint is changed to another of it
  other_set : (ys : List Transfer) (t : ℕ) (y z : Transfer) → slice_get ys t ≡ Some y → waits_for e y ≡ true → z.endpoint ≡ y.endpoint → count_by (waits_for k) (set ys t z) ≡ count_by (waits_for k) ys
  other_set ys t y z here on same =
      let own : (y.endpoint == e) ≡ true = first_of_both (y.endpoint == e) (not y.reported) on in
      set_same k ys t y z here
      (ap (λ (i : ℕ). (i == k) && not z.reported) same ∙ other_waits e k y.endpoint z.reported own differs ∙ sym (other_waits e k y.endpoint y.reported own differs))

  other_one : (d : DriverContent) (name : EpName) (i : ℕ) (o : Option Transfer) → slice_get d.transfers i ≡ o → Same d (behind_one d e name i o)
  other_one d name i None here = refl
  other_one d name i (Some y) here = either (Same d) (waits_for e y) _ d (λ on. other_set d.transfers i y (record y { reported = true }) here on refl) refl

  other_behind : (d : DriverContent) (name : EpName) (i n : ℕ) → Same d (behind d e name i n)
  unfolding behind
  other_behind d name i zero = refl
  other_behind d name i (suc n) = other_behind (behind_one d e name i (slice_get d.transfers i)) name (suc i) n ∙ other_one d name i (slice_get d.transfers i) refl

  other_end : (d : DriverContent) (t : ℕ) (x : Endpoint) (stall : Bool) (cause : Option EndCause) → Same d (after_end d e t x stall cause)
  other_end d t x stall (Some cause) = refl
  other_end d t x true None = other_behind _ x.desc.name (suc t) (length d.transfers - suc t)
  other_end d t x false None = refl

  other_found : (d : DriverContent) (m : Mem) (t : ℕ) (x : Endpoint) (y : Transfer) (found : Found) → slice_get d.transfers t ≡ Some y → waits_for e y ≡ true → Same d (harvested_as d m e t x y found)
  other_found d m t x y founds.Active here on = refl
  other_found d m t x y (founds.Moved n) here on = other_set d.transfers t y _ here on refl
  other_found d m t x y (founds.Served errors) here on = other_set d.transfers t y (record y { reported = true }) here on refl
  other_found d m t x y (founds.Ended n what) here on =
      other_end (told_with d m t y what x.desc.name (noted d.notes y.place n)) t x (is_stall what) (end_of x.desc.kind what)
      ∙ other_set d.transfers t y (record y { reported = true }) here on refl

  other_harvest : (d : DriverContent) (m : Mem) (t : ℕ) (found : Found) (x : Option Endpoint) (y : Option Transfer) → slice_get d.transfers t ≡ y → Same d (after_harvest d m e t found x y)
  other_harvest d m t found None None here = refl
  other_harvest d m t found None (Some y) here = refl
  other_harvest d m t found (Some x) None here = refl
  other_harvest d m t found (Some x) (Some y) here = either (Same d) (waits_for e y) (served (harvested_as d m e t x y found) e) d (λ on. other_found d m t x y found here on) refl

  -- ---- returns

  let_go_other : (told : Bool) (y : Transfer) → waits_for k (let_go e told y) ≡ waits_for k y
  let_go_other told y =
      cond_both (y.endpoint == e) _ y (λ (z : Transfer). waits_for k z ≡ waits_for k y)
      (λ own. other_waits e k y.endpoint (y.reported || told) own differs ∙ sym (other_waits e k y.endpoint y.reported own differs)) (λ off. refl)

  let_go_waiting_other : (told : Bool) (y : Transfer) → waits_for k (let_go_waiting e told y) ≡ waits_for k y
  let_go_waiting_other told y =
      cond_both (waits_for e y) _ y (λ (z : Transfer). waits_for k z ≡ waits_for k y)
      (λ on.
      let own : (y.endpoint == e) ≡ true = first_of_both (y.endpoint == e) (not y.reported) on in
      other_waits e k y.endpoint (y.reported || told) own differs ∙ sym (other_waits e k y.endpoint y.reported own differs)) (λ off. refl)

  placed_other : (iso told : Bool) (y : Transfer) → waits_for k (let_go_placed iso e told y) ≡ waits_for k y
  placed_other true told y = let_go_waiting_other told y
  placed_other false told y = let_go_other told y

  lines_or : (P : DriverContent → Type 0) (d : DriverContent) (b : Bool) (of : EpName) (bytes : List ℕ) → P (reported d Cancel of bytes) → P d → P (if b then reported d Cancel of bytes else d)
  lines_or P d true of bytes h i = h
  lines_or P d false of bytes h i = i

  gone_other : (p : Parts) (o : Option Endpoint) → Same p.driver (after_endpoint p e o).driver
  gone_other p None = refl
  gone_other p (Some x) =
      let same = map_same k (let_go e (is_told x)) p.driver.transfers (let_go_other (is_told x)) in
      lines_or (λ (d : DriverContent). Same p.driver (gone_with d e x (is_told x) (free_endpoint p.driver e x (holding p.driver.book p.memory)).book)) p.driver (is_told x) x.desc.name
      (cancelled_bytes p.driver.notes p.memory e x.queue p.driver.transfers) same same

  removed_other : (p : Parts) (o : Option Endpoint) → Same p.driver (after_placed p e o).driver
  removed_other p None = refl
  removed_other p (Some x) =
      let same = map_same k (let_go_placed (is_iso x.desc.kind) e (is_told x)) p.driver.transfers (placed_other (is_iso x.desc.kind) (is_told x)) in
      lines_or (λ (d : DriverContent). Same p.driver (removed_with d e x (is_told x) (free_placed p.driver e x (holding p.driver.book p.memory)).book)) p.driver (is_told x) x.desc.name
      (cancelled_bytes p.driver.notes p.memory e x.queue p.driver.transfers) same same

pub other_harvest_keeps_waiting : OtherHarvestKeepsWaiting
other_harvest_keeps_waiting p e t found k differs = other_harvest e k differs p.driver p.memory t found (slice_get p.driver.endpoints e) (slice_get p.driver.transfers t) refl

pub other_returns_keep_waiting : OtherReturnsKeepWaiting
other_returns_keep_waiting p e k differs = (gone_other e k differs p (slice_get p.driver.endpoints e), removed_other e k differs p (slice_get p.driver.endpoints e))

-- ---- of the endpoint itself

module _ (p : Parts) (e t : ℕ) (x : Endpoint) (y : Transfer) (h : IsHarvested p e t x y) (P : ℕ → Type 0) where
  found_waits : (found : Found) → P (waiting (harvested_as p.driver p.memory e t x y found) e)
      → P (waiting (after_harvest p.driver p.memory e t found (slice_get p.driver.endpoints e) (slice_get p.driver.transfers t)) e)
  found_waits found k =
      subst (λ (o : Option Endpoint). P (waiting (after_harvest p.driver p.memory e t found o (slice_get p.driver.transfers t)) e)) (sym h.here)
      (subst (λ (o : Option Transfer). P (waiting (after_harvest p.driver p.memory e t found (Some x) o) e)) (sym h.there)
      (subst (λ (b : Bool). P (waiting (if b then served (harvested_as p.driver p.memory e t x y found) e else p.driver) e)) (sym h.waits) k))

one_less : (p : Parts) (e t : ℕ) (x : Endpoint) (y : Transfer) → IsHarvested p e t x y → suc (count_by (waits_for e) (set p.driver.transfers t (record y { reported = true }))) ≡ waiting p.driver e
one_less p e t x y h = set_less e p.driver.transfers t y (record y { reported = true }) h.there h.waits (and_false (y.endpoint == e))

pub harvest_keeps_waiting : HarvestKeepsWaiting
harvest_keeps_waiting p e t n x y h = (
  found_waits p e t x y h (λ (i : ℕ). i ≡ waiting p.driver e) founds.Active refl,
  found_waits p e t x y h (λ (i : ℕ). i ≡ waiting p.driver e) (founds.Moved n) (set_same e p.driver.transfers t y _ h.there refl),
)

end_waits : (d : DriverContent) (e t : ℕ) (x : Endpoint) (cause : Option EndCause) → waiting (after_end d e t x false cause) e ≡ waiting d e
end_waits d e t x (Some cause) = refl
end_waits d e t x None = refl

pub harvest_ends_one : HarvestEndsOne
harvest_ends_one p e t n what x y h no_stall =
    let d = told_with p.driver p.memory t y what x.desc.name (noted p.driver.notes y.place n) in
    found_waits p e t x y h (λ (i : ℕ). suc i ≡ waiting p.driver e) (founds.Ended n what)
    (ap (λ (b : Bool). suc (waiting (after_end d e t x b (end_of x.desc.kind what)) e)) no_stall
    ∙ ap suc (end_waits d e t x (end_of x.desc.kind what)) ∙ one_less p e t x y h)

pub harvest_stalls_all : HarvestStallsAll
harvest_stalls_all p e t n x y h control =
    let d = told_with p.driver p.memory t y (Halt Stall) x.desc.name (noted p.driver.notes y.place n) in
    let many = count_by (waits_for e) (drop (suc t) p.driver.transfers) in
    let first : DriverContent = record d {
      harvested = d.harvested ++ t ∷ [];
      endpoints = set d.endpoints e (record x { next = None });
      mends = d.mends ++ mends_of x;
    } in
    let all = behind_waits first e x.desc.name (suc t) (length d.transfers - suc t) in
    let same : count_by (waits_for e) (take (length d.transfers - suc t) (drop (suc t) d.transfers)) ≡ many
    = ap (count_by (waits_for e)) (dropped_all (suc t) d.transfers ∙ drop_set p.driver.transfers t (record y { reported = true })) in
    let less = one_less p e t x y h in
    found_waits p e t x y h (λ (i : ℕ). suc (i + many) ≡ waiting p.driver e) (founds.Ended n (Halt Stall))
    (ap (λ (b : Bool). suc (waiting (after_end d e t x true (if b then None else Some Stall)) e + many)) control
    ∙ ap (λ (i : ℕ). suc (waiting (stalled d e t x) e + i)) (sym same) ∙ ap suc all ∙ less)

pub stall_has_windows : StallHasWindows
stall_has_windows p e t x y w rest h long =
    let few = count_dropped e t p.driver.transfers y h.there h.waits in
    let size : length (w ∷ rest) ≡ suc (length rest) = refl in
    omega (arith, few, long, size)
