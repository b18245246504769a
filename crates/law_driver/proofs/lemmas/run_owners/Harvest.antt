-- A token is read: what its transfer comes to is told once, and the transfer is to be given back once.
use Rattle.std.proofs.Common.{◌≡◌, ℕ, zero, suc, ◌-◌, ◌≤◌, ◌==◌, Bool, true, false, not, ◌&&◌, cond, List, [], ◌∷◌, ◌++◌, length, set, slice_get, Option, Some, None, ap, sym, ◌∙◌, ⊎_elim, refl, arith}
use Rattle.std.specs.Prelude.{is_some}
use Rattle.std.proofs.lemmas.Bool.{cases_Bool, false≢true}
use Rattle.law_driver.proofs.Common.{one_behind as one_same}
use Rattle.law_common.proofs.Lists.{set_here}
use Rattle.usb_base.specs.declared.endpoints.EpName.{EpName}
use Rattle.usb_base.specs.declared.endpoints.EndCause.{EndCause}
use Rattle.word_mem.specs.Memory.{Mem}
use Rattle.drv_table.specs.declared.content.Endpoint.{Endpoint}
use Rattle.drv_table.specs.declared.content.Transfer.{Transfer}
use Rattle.claims_driver.specs.Owners.{is_descriptor}
use Rattle.drv_table.specs.declared.rows.Found.{Found}
use Rattle.drv_table.specs.declared.rows.Found.TheVariants as founds
use Rattle.drv_table.specs.DriverContent.{DriverContent, waits_for, next_after}
use Rattle.drv_table.specs.Harvests.{note_at, noted, is_stall, end_of}
use Rattle.drv_table.specs.Harvesting.{served, told_with, behind_one, behind, mends_of, after_end, harvested_as, after_harvest}
use Rattle.claims_driver.specs.Leaving.{owes, Returns, returns_of, AreOrderly, IsOrderly}
use Rattle.law_driver.proofs.lemmas.run_owners.Released.{same_by_test}
use Rattle.law_driver.proofs.lemmas.run_owners.Orders.{counts, owes_nothing, owes_one, IsLike, transfer_changed, one_harvested, one_unlinked, endpoint_changed}

pub record Waits (e : ℕ) (y : Transfer) : Type 0 where
  pub endpoint : y.endpoint ≡ e
  pub reported : y.reported ≡ false

waits_by : (a b : Bool) → a && not b ≡ true → (a ≡ true) × (b ≡ false)
waits_by true false w = (refl, refl)
waits_by true true w = absurd (false≢true w)
waits_by false b w = absurd (false≢true w)

pub waits_is : (e : ℕ) (y : Transfer) → waits_for e y ≡ true → Waits e y
waits_is e y w =
    let p = waits_by (y.endpoint == e) y.reported w in
    record { endpoint = same_by_test y.endpoint e p.0; reported = p.1 }

-- a transfer that waits for harvest wasn't given back
pub unreleased : {r : Returns} {ts : List Transfer} {xs : List Endpoint} {l : Option ℕ} (e t : ℕ) (x : Endpoint) (y : Transfer) → slice_get xs e ≡ Some x → x.gone ≡ false → slice_get ts t ≡ Some y → Waits e y → AreOrderly r ts xs l → y.released ≡ false
unreleased {xs = xs} e t x y here alive there waits old =
    ⊎_elim (λ (on : y.released ≡ true). absurd (false≢true (sym alive ∙ old.untold t y there on waits.reported x (ap (slice_get xs) waits.endpoint ∙ here))))
    (λ (off : y.released ≡ false). off) (cases_Bool y.released)

-- its line is made
pub reported_now : {r : Returns} {ts : List Transfer} {xs : List Endpoint} {l : Option ℕ} (t : ℕ) (y : Transfer) → slice_get ts t ≡ Some y → y.reported ≡ false → AreOrderly r ts xs l → AreOrderly r (set ts t (record y { reported = true })) xs l
reported_now {r = r} {ts = ts} t y there off old =
    transfer_changed t y (record y { reported = true }) there refl refl
    (let none = ap owes there ∙ owes_nothing y off in omega (arith, none, old.harvests t))
    (λ released reported. absurd (false≢true (sym reported))) old

-- and it is to be given back
pub harvested_now : {r : Returns} {ts : List Transfer} {xs : List Endpoint} {l : Option ℕ} (t : ℕ) (y : Transfer) → slice_get ts t ≡ Some y → y.reported ≡ false → y.released ≡ false → AreOrderly r ts xs l → AreOrderly (record r { harvested = r.harvested ++ t ∷ [] }) (set ts t (record y { reported = true })) xs l
harvested_now {r = r} {ts = ts} t y there off back old =
    let z : Transfer = record y { reported = true } in
    let none = ap owes there ∙ owes_nothing y off in
    let one = ap owes (set_here ts t y z there) ∙ owes_one z refl back in
    one_harvested t (omega (arith, none, one, old.harvests t)) (reported_now t y there off old)

-- ---- the requests behind a stalled one

when : (P : DriverContent → Type 0) (b : Bool) (x y : DriverContent) → (b ≡ true → P x) → P y → P (cond b x y)
when P true x y one two = one refl
when P false x y one two = two

one_behind : (d : DriverContent) (e : ℕ) (name : EpName) (k : ℕ) (x : Endpoint) (o : Option Transfer) → slice_get d.endpoints e ≡ Some x → x.gone ≡ false → slice_get d.transfers k ≡ o → IsOrderly d → IsOrderly (behind_one d e name k o)
one_behind d e name k x None here alive there old = old
one_behind d e name k x (Some y) here alive there old =
    when IsOrderly (waits_for e y) _ d
    (λ on. let w = waits_is e y on in harvested_now k y there w.reported (unreleased e k x y here alive there w old) old) old

behind_orderly : (d : DriverContent) (e : ℕ) (name : EpName) (k n : ℕ) (x : Endpoint) → slice_get d.endpoints e ≡ Some x → x.gone ≡ false → IsOrderly d → IsOrderly (behind d e name k n)
unfolding behind
behind_orderly d e name k zero x here alive old = old
behind_orderly d e name k (suc n) x here alive old =
    let o = slice_get d.transfers k in
    behind_orderly (behind_one d e name k o) e name (suc k) n x (ap (λ (xs : List Endpoint). slice_get xs e) (one_same d e name k o) ∙ here) alive
    (one_behind d e name k x o here alive refl old)

-- ---- what was read

-- other things of an endpoint are written
like_next : (x : Endpoint) (n : Option ℕ) → IsLike x (record x { next = n })
like_next x n = record { desc = refl; placement = refl; linked = refl; chained = refl; gone = refl; ended = λ s. s }

like_ended : (x : Endpoint) (cause : EndCause) → IsLike x (record x { ended = Some cause })
like_ended x cause = record { desc = refl; placement = refl; linked = refl; chained = refl; gone = refl; ended = λ s. refl }

some_stays : (x : Endpoint) → x.ended ≡ None → is_some x.ended ≡ true → ⊥
some_stays x none some = false≢true (sym (ap is_some none) ∙ some)

ended_orderly : (d : DriverContent) (e t : ℕ) (x : Endpoint) (stall : Bool) (o : Option EndCause) → slice_get d.endpoints e ≡ Some x → x.gone ≡ false → suc (counts (returns_of d) t) ≤ owes (slice_get d.transfers t) → IsOrderly d → IsOrderly (after_end d e t x stall o)
ended_orderly d e t x stall (Some cause) here alive owed old = endpoint_changed e x (record x { ended = Some cause }) here (like_ended x cause) old
ended_orderly d e t x false None here alive owed old =
    endpoint_changed e x (record x { next = next_after d.transfers e t }) here (like_next x (next_after d.transfers e t)) (one_harvested t owed old)
ended_orderly d e t x true None here alive owed old =
    let now = record d { harvested = d.harvested ++ t ∷ []; endpoints = set d.endpoints e (record x { next = None }); mends = d.mends ++ mends_of x } in
    behind_orderly now e x.desc.name (suc t) (length d.transfers - suc t) (record x { next = None }) (set_here d.endpoints e x (record x { next = None }) here) alive
    (endpoint_changed e x (record x { next = None }) here (like_next x None) (one_harvested t owed old))

abbrev pub is_served_found : Found → Bool
is_served_found (founds.Served errors) = true
is_served_found _ = false

read_orderly : (d : DriverContent) (m : Mem) (e t : ℕ) (x : Endpoint) (y : Transfer) (found : Found) → slice_get d.endpoints e ≡ Some x → x.gone ≡ false → slice_get d.transfers t ≡ Some y → Waits e y → (is_served_found found ≡ true → is_descriptor y.sort ≡ true) → IsOrderly d → IsOrderly (harvested_as d m e t x y found)
read_orderly d m e t x y founds.Active here alive there waits sort old = old
read_orderly d m e t x y (founds.Moved n) here alive there waits sort old =
    let z : Transfer = record y { place = (note_at d.notes y.place).next; left = y.left - 1 } in
    transfer_changed t y z there refl refl
    (let same = ap owes there in omega (arith, same, old.harvests t))
    (λ released reported. (released, reported)) old
read_orderly d m e t x y (founds.Served errors) here alive there waits sort old =
    let z : Transfer = record y { reported = true } in
    let back = unreleased e t x y here alive there waits old in
    let none = ap owes there ∙ owes_nothing y waits.reported in
    let one = ap owes (set_here d.transfers t y z there) ∙ owes_one z refl back in
    one_unlinked t z (set_here d.transfers t y z there) (sort refl) (omega (arith, none, one, old.harvests t))
    (endpoint_changed e x (record x { next = next_after d.transfers e t }) here (like_next x (next_after d.transfers e t)) (reported_now t y there waits.reported old))
read_orderly d m e t x y (founds.Ended n what) here alive there waits sort old =
    let told = told_with d m t y what x.desc.name (noted d.notes y.place n) in
    let z : Transfer = record y { reported = true } in
    let back = unreleased e t x y here alive there waits old in
    let none = ap owes there ∙ owes_nothing y waits.reported in
    let one = ap owes (set_here d.transfers t y z there) ∙ owes_one z refl back in
    ended_orderly told e t x (is_stall what) (end_of x.desc.kind what) here alive (omega (arith, none, one, old.harvests t)) (reported_now t y there waits.reported old)

pub harvest_orderly : (d : DriverContent) (m : Mem) (e t : ℕ) (found : Found) (o : Option Endpoint) (q : Option Transfer) → slice_get d.endpoints e ≡ o → slice_get d.transfers t ≡ q → ((x : Endpoint) → o ≡ Some x → x.ended ≡ None) → ((y : Transfer) → q ≡ Some y → is_served_found found ≡ true → is_descriptor y.sort ≡ true) → IsOrderly d → IsOrderly (after_harvest d m e t found o q)
harvest_orderly d m e t found None q here there goes sort old = old
harvest_orderly d m e t found (Some x) None here there goes sort old = old
harvest_orderly d m e t found (Some x) (Some y) here there goes sort old = at (waits_for e y) refl
  where
    at : (b : Bool) → waits_for e y ≡ b → IsOrderly (cond b (served (harvested_as d m e t x y found) e) d)
    at true on =
        let s = old.steady e x here in
        let alive : x.gone ≡ false =
        ⊎_elim (λ (g : x.gone ≡ true). absurd (some_stays x (goes x refl) (s.ended (s.gone g).0 (s.gone g).1))) (λ (g : x.gone ≡ false). g) (cases_Bool x.gone) in
        read_orderly d m e t x y found here alive there (waits_is e y on) (sort y refl) old
    at false off = old
