-- What a harvest leaves of the endpoints, of what is to be given back, and of the report: of a stalled request, too (USB 2.0, 8.5.3.4), with which all that wait
-- behind it are reported.
use Rattle.std.proofs.Common.{◌≡◌, ◌≢◌, ℕ, zero, suc, ◌-◌, Bool, true, false, cond, nat_le, List, [], ◌∷◌, ◌++◌, length, set, slice_get, Option, Some, None, ap, sym, subst, ◌∙◌, ⊎_elim, inl, inr, refl}
use Rattle.std.specs.Prelude.{◌⊎◌}
use Rattle.std.specs.List.{AllByRecursion}
use Rattle.std.proofs.lemmas.List.{append_assoc, append-nil}
use Rattle.std.proofs.lemmas.Option.{same_Some}
use Rattle.law_driver.proofs.Common.{waits_is}
use Rattle.usb_base.specs.declared.endpoints.EpName.{EpName}
use Rattle.usb_base.specs.declared.endpoints.EndCause.{EndCause}
use Rattle.usb_base.specs.declared.endpoints.EndCause.TheVariants as causes
use Rattle.usb_base.specs.declared.reports.Report.{Report}
use Rattle.usb_base.specs.declared.reports.What.{What}
use Rattle.usb_base.specs.declared.reports.What.TheVariants as lines
use Rattle.word_mem.specs.Memory.{Mem}
use Rattle.drv_table.specs.declared.content.Endpoint.{Endpoint}
use Rattle.drv_table.specs.declared.content.Transfer.{Transfer}
use Rattle.drv_table.specs.declared.rows.DriverRow.TheVariants as rows
use Rattle.drv_table.specs.declared.rows.Found.{Found}
use Rattle.drv_table.specs.declared.rows.Found.TheVariants as founds
use Rattle.drv_table.specs.DriverContent.{DriverContent, waits_for, next_after}
use Rattle.drv_table.specs.Harvests.{reported, end_of, is_stall, noted, note_at, token_in, found_in}
use Rattle.drv_table.specs.Parts.{Parts}
use Rattle.drv_table.specs.Harvesting.{after_harvest, harvested_as, served, after_end, told_with, goes_on, behind_one, behind, mends_of, stalled}
use Rattle.drv_table.specs.Rows.{after_driver_row}
use Rattle.law_driver.specs.run_owners.Due.{IsHarvestDue}
use Rattle.law_driver.specs.chained_transfers.Asynchronous.{OnlyAsynchronous}
use Rattle.law_driver.specs.chained_transfers.Turns.{IsInList}
use Rattle.law_driver.proofs.lemmas.chained_transfers.Harvested.{not_served, ends_otherwise}
use Rattle.law_driver.proofs.lemmas.chained_transfers.Rows.{KeepsEndpoints, harvest_keeps}
use Rattle.law_driver.proofs.lemmas.chained_transfers.Stalled.{IsToldOf, told_set, told_both, behind_tells}
use Rattle.law_driver.proofs.lemmas.chained_transfers.Staying.{stands_alive}
use Rattle.law_driver.proofs.lemmas.chained_transfers.Ways.{found_by, moves_queued}

-- ---- one endpoint changes

-- endpoint e has become another, which was opened as it was, and is as much given back
pub record ChangesOne (d f : DriverContent) (e : ℕ) (x : Endpoint) : Type 0 where
  pub now : Endpoint
  pub ends : f.endpoints ≡ set d.endpoints e now
  pub desc : now.desc ≡ x.desc
  pub gone : now.gone ≡ x.gone

abbrev pub ChangesAtMost : DriverContent → DriverContent → ℕ → Endpoint → Type 0
ChangesAtMost d f e x = (f.endpoints ≡ d.endpoints) ⊎ ChangesOne d f e x

-- ---- lines more, all of the endpoint of this name

pub record AddsLines (d f : DriverContent) (name : EpName) : Type 0 where
  pub lines : List Report
  pub bytes : List ℕ
  pub reports : f.reports ≡ d.reports ++ lines
  pub store : f.store ≡ d.store ++ bytes
  pub named : AllByRecursion (λ (line : Report). line.name ≡ name) lines

pub none_added : (d f : DriverContent) (name : EpName) → f.reports ≡ d.reports → f.store ≡ d.store → AddsLines d f name
none_added d f name reports store = record { lines = []; bytes = []; reports = reports ∙ sym (append-nil d.reports); store = store ∙ sym (append-nil d.store); named = tt }

all_then : (lines : List Report) (name : EpName) (line : Report) → AllByRecursion (λ (l : Report). l.name ≡ name) lines → line.name ≡ name → AllByRecursion (λ (l : Report). l.name ≡ name) (lines ++ line ∷ [])
all_then [] name line each is = (is, tt)
all_then (l ∷ ls) name line each is = (each.0, all_then ls name line each.1 is)

pub line_added : (d f g : DriverContent) (name : EpName) (line : Report) (bytes : List ℕ) → g.reports ≡ f.reports ++ line ∷ [] → g.store ≡ f.store ++ bytes → line.name ≡ name → AddsLines d f name → AddsLines d g name
line_added d f g name line bytes reports store named adds = record {
  lines = adds.lines ++ line ∷ [];
  bytes = adds.bytes ++ bytes;
  reports = reports ∙ ap (λ (rs : List Report). rs ++ line ∷ []) adds.reports ∙ append_assoc d.reports adds.lines (line ∷ []);
  store = store ∙ ap (λ (xs : List ℕ). xs ++ bytes) adds.store ∙ append_assoc d.store adds.bytes bytes;
  named = all_then adds.lines name line adds.named named;
}

-- ---- what is to be given back

-- transfer u is one of endpoint e
pub record IsTransferOf (d : DriverContent) (e u : ℕ) : Type 0 where
  pub one : Transfer
  pub here : slice_get d.transfers u ≡ Some one
  pub endpoint : one.endpoint ≡ e

abbrev pub ListsAtMost : DriverContent → DriverContent → ℕ → Type 0
ListsAtMost d f e = (i u : ℕ) → slice_get f.harvested i ≡ Some u → IsInList d.harvested u ⊎ IsTransferOf d e u

lists_same : (d f : DriverContent) (e : ℕ) → f.harvested ≡ d.harvested → ListsAtMost d f e
lists_same d f e same i u at = inl (record { at = i; here = ap (λ (hs : List ℕ). slice_get hs i) (sym same) ∙ at })

push_listed : (hs : List ℕ) (t i u : ℕ) → slice_get (hs ++ t ∷ []) i ≡ Some u → IsInList hs u ⊎ (u ≡ t)
push_listed [] t zero u here = inr (sym (same_Some t u here))
push_listed [] t (suc i) u here = absurd (cc)
push_listed (h ∷ hs) t zero u here = inl (record { at = 0; here = here })
push_listed (h ∷ hs) t (suc i) u here =
    ⊎_elim (λ (l : IsInList hs u). inl (record { at = suc l.at; here = l.here })) (λ (new : u ≡ t). inr new) (push_listed hs t i u here)

lists_more : (d f g : DriverContent) (e t : ℕ) → g.harvested ≡ f.harvested ++ t ∷ [] → IsTransferOf d e t → ListsAtMost d f e → ListsAtMost d g e
lists_more d f g e t more one old i u at =
    ⊎_elim (λ (l : IsInList f.harvested u). old l.at u l.here) (λ (new : u ≡ t). inr (subst (λ (k : ℕ). IsTransferOf d e k) (sym new) one))
    (push_listed f.harvested t i u (ap (λ (hs : List ℕ). slice_get hs i) (sym more) ∙ at))

-- ---- those that wait behind a stalled one

-- the transfer is reported, and is to be given back
abbrev behind_told : DriverContent → EpName → ℕ → Transfer → DriverContent
behind_told d name k y =
    record (reported d (lines.Halt causes.Stall) name []) {
      transfers = set d.transfers k (record y { reported = true });
      harvested = d.harvested ++ k ∷ [];
    }

-- some of them are reported
record TellsSome (d f : DriverContent) (e : ℕ) (name : EpName) : Type 0 where
  transfers : (k : ℕ) (z : Transfer) → slice_get f.transfers k ≡ Some z → IsToldOf d.transfers k z
  listed : ListsAtMost d f e
  lines : AddsLines d f name

one_more : (d f : DriverContent) (e : ℕ) (name : EpName) (k : ℕ) (o : Option Transfer) → slice_get f.transfers k ≡ o → TellsSome d f e name → TellsSome d (behind_one f e name k o) e name
one_more d f e name k None there old = old
one_more d f e name k (Some y) there old = by (waits_for e y) refl
  where
    by : (b : Bool) → waits_for e y ≡ b → TellsSome d (cond b (behind_told f name k y) f) e name
    by true waits =
        let g = behind_told f name k y in
        let w = old.transfers k y there in
        record {
          transfers = λ i z at. let v = told_set f.transfers k y there i z at in told_both d.transfers f.transfers i z v (old.transfers i v.one v.here);
          listed = lists_more d f g e k refl (record { one = w.one; here = w.here; endpoint = ap (λ (r : Transfer). r.endpoint) (sym w.is) ∙ (waits_is e y waits).0 }) old.listed;
          lines = line_added d f g name _ [] refl refl refl old.lines;
        }
    by false waits = old

all_more : (d : DriverContent) (e : ℕ) (name : EpName) (n k : ℕ) (f : DriverContent) → TellsSome d f e name → TellsSome d (behind f e name k n) e name
unfolding behind
all_more d e name zero k f old = old
all_more d e name (suc n) k f old = all_more d e name n (suc k) (behind_one f e name k (slice_get f.transfers k)) (one_more d f e name k (slice_get f.transfers k) refl old)

-- ---- a harvest

pub record HarvestLeaves (d f : DriverContent) (e : ℕ) (x : Endpoint) : Type 0 where
  pub ends : ChangesAtMost d f e x
  pub listed : ListsAtMost d f e
  pub lines : AddsLines d f x.desc.name

module _ (d : DriverContent) (m : Mem) (e t : ℕ) (x : Endpoint) (y : Transfer) (there : slice_get d.transfers t ≡ Some y) (of_e : y.endpoint ≡ e) where
  own : IsTransferOf d e t
  own = record { one = y; here = there; endpoint = of_e }

  same_leaves : HarvestLeaves d d e x
  same_leaves = record { ends = inl refl; listed = lists_same d d e refl; lines = none_added d d x.desc.name refl refl }

  told : What → ℕ → DriverContent
  told what n = told_with d m t y what x.desc.name (noted d.notes y.place n)

  stall_leaves : (n : ℕ) (what : What) → HarvestLeaves d (stalled (told what n) e t x) e x
  unfolding told
  stall_leaves n what =
      let begun = told what n in
      let now = record begun { harvested = d.harvested ++ t ∷ []; endpoints = set d.endpoints e (record x { next = None }); mends = d.mends ++ mends_of x } in
      let first : TellsSome d now e x.desc.name = record {
        transfers = told_set d.transfers t y there;
        listed = lists_more d d now e t refl own (lists_same d d e refl);
        lines = line_added d d now x.desc.name _ _ refl refl refl (none_added d d x.desc.name refl refl);
      } in
      let all = all_more d e x.desc.name (length begun.transfers - suc t) (suc t) now first in
      record {
        ends = inr (record { now = record x { next = None }; ends = (behind_tells now e x.desc.name (suc t) (length begun.transfers - suc t)).endpoints; desc = refl; gone = refl });
        listed = all.listed;
        lines = all.lines;
      }

  more_leaves : (n : ℕ) (what : What) → HarvestLeaves d (goes_on (told what n) e t x) e x
  unfolding told
  more_leaves n what =
      let now = goes_on (told what n) e t x in
      record {
        ends = inr (record { now = record x { next = next_after (told what n).transfers e t }; ends = refl; desc = refl; gone = refl });
        listed = lists_more d d now e t refl own (lists_same d d e refl);
        lines = line_added d d now x.desc.name _ _ refl refl refl (none_added d d x.desc.name refl refl);
      }

  ends_leaves : (n : ℕ) (what : What) (o : Option EndCause) → HarvestLeaves d (after_end (told what n) e t x (is_stall what) o) e x
  unfolding told
  ends_leaves n what (Some cause) =
      let now = after_end (told what n) e t x (is_stall what) (Some cause) in
      record {
        ends = inr (record { now = record x { ended = Some cause }; ends = refl; desc = refl; gone = refl });
        listed = lists_same d now e refl;
        lines = line_added d d now x.desc.name _ _ refl refl refl (none_added d d x.desc.name refl refl);
      }
  ends_leaves n what None = by (is_stall what)
    where
      by : (b : Bool) → HarvestLeaves d (cond b (stalled (told what n) e t x) (goes_on (told what n) e t x)) e x
      by true = stall_leaves n what
      by false = more_leaves n what

  served_leaves : (f : DriverContent) → HarvestLeaves d f e x → HarvestLeaves d (served f e) e x
  served_leaves f h = record { ends = changes h.ends; listed = h.listed; lines = record { lines = h.lines.lines; bytes = h.lines.bytes; reports = h.lines.reports; store = h.lines.store; named = h.lines.named } }
    where
      changes : ChangesAtMost d f e x → ChangesAtMost d (served f e) e x
      changes (inl same) = inl same
      changes (inr one) = inr (record { now = one.now; ends = one.ends; desc = one.desc; gone = one.gone })

  read_leaves : (found : Found) → ((n : ℕ) → found ≢ founds.Served n) → HarvestLeaves d (served (harvested_as d m e t x y found) e) e x
  unfolding told
  read_leaves founds.Active not = served_leaves d same_leaves
  read_leaves (founds.Moved n) not =
      let now = served (harvested_as d m e t x y (founds.Moved n)) e in
      record { ends = inl refl; listed = lists_same d now e refl; lines = none_added d now x.desc.name refl refl }
  read_leaves (founds.Served n) not = absurd (not n refl)
  read_leaves (founds.Ended n what) not = served_leaves (after_end (told what n) e t x (is_stall what) (end_of x.desc.kind what)) (ends_leaves n what (end_of x.desc.kind what))

  harvest_leaves : (found : Found) → ((n : ℕ) → found ≢ founds.Served n) → HarvestLeaves d (after_harvest d m e t found (Some x) (Some y)) e x
  harvest_leaves found not = by (waits_for e y)
    where
      by : (b : Bool) → HarvestLeaves d (cond b (served (harvested_as d m e t x y found) e) d) e x
      by true = read_leaves found not
      by false = same_leaves

-- both of what the harvest leaves
pub record ReadLeaves (p : Parts) (e : ℕ) (x : Endpoint) (f : DriverContent) : Type 0 where
  pub leaves : HarvestLeaves p.driver f e x
  pub keeps : KeepsEndpoints p.driver f

pub read_row : (p : Parts) (e t : ℕ) (found : Found) (due : IsHarvestDue p e t found) → OnlyAsynchronous p.driver → ReadLeaves p e due.endpoint (after_driver_row (rows.Harvest e t found) p).driver
read_row p e t found due only =
    let d = p.driver in
    let x = due.endpoint in
    let y = due.transfer in
    let last = nat_le y.left 1 in
    let note = note_at d.notes y.place in
    let token = token_in p.memory y.place in
    let is : found ≡ found_in y.sort last note token = due.tells ∙ found_by d p.memory y y.sort (moves_queued d y (only.moves t y due.there)) in
    let not = not_served y.sort last note token found is in
    let now : ReadLeaves p e x (after_harvest d p.memory e t found (Some x) (Some y)) = record {
      leaves = harvest_leaves d p.memory e t x y due.there (waits_is e y due.waits).0 found not;
      keeps = harvest_keeps d p.memory e t x y due.here due.there due.goes_on (stands_alive x (only.endpoints e x due.here) due.goes_on) found not (λ n what cause. ends_otherwise y.sort last note token found is n what x.desc.kind cause);
    } in
    subst (λ (o : Option Endpoint). ReadLeaves p e x (after_harvest d p.memory e t found o (slice_get d.transfers t))) (sym due.here)
    (subst (λ (o : Option Transfer). ReadLeaves p e x (after_harvest d p.memory e t found (Some x) o)) (sym due.there) now)
