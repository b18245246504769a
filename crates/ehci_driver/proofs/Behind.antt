-- A request that is queued behind a stalled one, and ends with it.
use Rattle.std.proofs.Common.{◌≡◌, ℕ, suc, ◌+◌, ◌-◌, ◌<◌, ◌≤◌, Bool, true, cond, List, [], ◌∷◌, ◌++◌, length, set, get_or, slice_get, Option, Some, ap, sym, subst, ◌∙◌, append-nil, arith}
use Rattle.std.proofs.lemmas.Option.{slice_get-get_or}
use Rattle.usb_base.specs.declared.endpoints.EpName.{EpName}
use Rattle.usb_base.specs.declared.endpoints.EndCause.TheVariants as causes
use Rattle.usb_base.specs.declared.reports.Report.{Report}
use Rattle.usb_base.specs.declared.reports.What.TheVariants as lines
use Rattle.drv_table.specs.declared.content.Transfer.{Transfer}
use Rattle.drv_table.specs.DriverContent.{DriverContent, waits_for}
use Rattle.drv_table.specs.Harvests.{reported}
use Rattle.drv_table.specs.Harvesting.{behind_one, behind}

pub behind_made : (d : DriverContent) (e : ℕ) (name : EpName) (k : ℕ) (x : Transfer) (told : List Report) (ts : List Transfer) (gives : List ℕ) → slice_get d.transfers k ≡ Some x → waits_for e x ≡ true → told ≡ d.reports ++ (record { name = name; what = lines.Halt causes.Stall; from = length d.store; len = 0 }) ∷ [] → ts ≡ set d.transfers k (record x { reported = true }) → gives ≡ d.harvested ++ k ∷ [] → record d { reports = told; transfers = ts; harvested = gives } ≡ behind_one d e name k (slice_get d.transfers k)
behind_made d e name k x told ts gives there waits l t g =
    let line : Report = record { name = name; what = lines.Halt causes.Stall; from = length d.store; len = 0 } in
    let after : DriverContent =
    record (reported d (lines.Halt causes.Stall) name []) {
      transfers = set d.transfers k (record x { reported = true });
      harvested = d.harvested ++ k ∷ [];
    } in
    let made : record d { reports = told; transfers = ts; harvested = gives } ≡ after =
    ap (λ r. record d { reports = r; transfers = ts; harvested = gives }) l
    ∙ ap (λ r. record d { reports = d.reports ++ line ∷ []; transfers = r; harvested = gives }) t
    ∙ ap (λ r. record d { reports = d.reports ++ line ∷ []; transfers = set d.transfers k (record x { reported = true }); harvested = r }) g
    ∙ ap (λ r. record d { reports = d.reports ++ line ∷ []; transfers = set d.transfers k (record x { reported = true }); harvested = d.harvested ++ k ∷ []; store = r }) (sym (append-nil d.store)) in
    subst (λ (o : Option Transfer). record d { reports = told; transfers = ts; harvested = gives } ≡ behind_one d e name k o) (sym there)
    (subst (λ (b : Bool). record d { reports = told; transfers = ts; harvested = gives } ≡ cond b after d) (sym waits) made)

pub behind_more : (d : DriverContent) (e : ℕ) (name : EpName) (k n : ℕ) → k < n → behind (behind_one d e name k (slice_get d.transfers k)) e name (k + 1) (n - (k + 1)) ≡ behind d e name k (n - k)
unfolding behind
behind_more d e name k n below =
    let one : k + 1 ≡ suc k = omega arith in
    let long : n - k ≡ suc (n - (k + 1)) = omega arith in
    ap (λ j. behind (behind_one d e name k (slice_get d.transfers k)) e name j (n - (k + 1))) one ∙ ap (λ m. behind d e name k m) (sym long)

pub behind_all : (d : DriverContent) (e : ℕ) (name : EpName) (k n : ℕ) → n ≤ k → behind d e name k (n - k) ≡ d
unfolding behind
behind_all d e name k n past = let none : n - k ≡ 0 = omega arith in ap (λ m. behind d e name k m) none

-- a transfer that is read is there
pub there_read : (ts : List Transfer) (k : ℕ) (x : Transfer) → k < length ts → x ≡ get_or ts k x → slice_get ts k ≡ Some x
there_read ts k x within read = slice_get-get_or ts k x within ∙ ap Some (sym read)
