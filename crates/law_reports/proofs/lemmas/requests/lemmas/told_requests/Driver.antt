-- The lines that a driver adds.
use Rattle.std.proofs.Common.{◌≡◌, ℕ, zero, suc, ◌+◌, ◌-◌, ◌≤◌, ◌&&◌, not, cond, Bool, true, false, if◌then◌else◌, List, [], ◌∷◌, ◌++◌, length, take, drop, set, slice_get, Option, Some, None, ap, refl, sym, subst, ◌∙◌, inl, inr, arith}
use Rattle.std.specs.Prelude.{count_by}
use Rattle.std.proofs.lemmas.Bool.{false≢true}
use Rattle.std.proofs.lemmas.List.{append-nil, take_all}
use Rattle.std.proofs.lemmas.List.Sums.{sum_by-cons}
use Rattle.std.proofs.Math.Seq.{drop-nil}
use Rattle.law_common.proofs.Booleans.{refused_by, is_left}
use Rattle.law_resting.proofs.Common.{drop_set}
use Rattle.usb_base.specs.declared.endpoints.EpName.{EpName}
use Rattle.usb_base.specs.declared.endpoints.EndCause.TheVariants.{Stall}
use Rattle.usb_base.specs.declared.reports.What.{What}
use Rattle.usb_base.specs.declared.reports.What.TheVariants.{Done, Halt, Refused}
use Rattle.bus_wire.specs.Fates.{is_same_name}
use Rattle.claims_report.specs.Reports.{is_refusal}
use Rattle.claims_report.specs.Requests.{Request, Window, IsTold, left_by}
use Rattle.drv_table.specs.declared.content.Transfer.{Transfer}
use Rattle.drv_table.specs.DriverContent.{DriverContent, waits_for}
use Rattle.drv_table.specs.Harvests.{moved_bytes, reported}
use Rattle.drv_table.specs.Harvesting.{behind_one, behind, stalled, mends_of}
use Rattle.bus_world.specs.World.{refused_line}
use Rattle.law_queues.proofs.lemmas.told_endpoints.Names.{name_is_same}
use Rattle.law_reports.specs.requests.told_requests.Told.{AreToldTo, RequestsAreToldTo}
use Rattle.law_reports.specs.requests.told_requests.Steps.{DoneIsTold, HaltIsTold, BehindAreTold, StalledAreTold, OthersStay, OthersBehindStay, RefusalStays}
use Rattle.law_reports.proofs.lemmas.requests.lemmas.told_requests.Lines.{line_is_told, other_line_is_told}

-- ---- whose line it is

other_name : (a b : Bool) → a ≡ false → (a && not b) ≡ false
other_name false b is = refl
other_name true b is = absurd (false≢true (sym is))

-- ---- one line

module _ (d : DriverContent) (what : What) (name : EpName) (bytes : List ℕ) (whole : Request → List ℕ) (ws left : List Window) where
  pub own_told : is_refusal what ≡ false → IsTold whole what bytes left → RequestsAreToldTo d name whole ws left → RequestsAreToldTo (reported d what name bytes) name whole ws (left_by what left)
  own_told plain is k =
      line_is_told d.reports d.store bytes name whole ws left
      (record { name = name; what = what; from = length d.store; len = length bytes })
      (record { own = is_left (is_same_name name name) (is_refusal what) (name_is_same name) plain; from = refl; long = refl; is = is }) k

pub others_stay : OthersStay
others_stay d what other name bytes whole ws left (inl unlike) k =
    other_line_is_told d.reports d.store bytes name whole ws left (record { name = other; what = what; from = length d.store; len = length bytes }) (other_name (is_same_name other name) (is_refusal what) unlike) k
others_stay d what other name bytes whole ws left (inr refusal) k =
    other_line_is_told d.reports d.store bytes name whole ws left (record { name = other; what = what; from = length d.store; len = length bytes }) (refused_by (is_same_name other name) (is_refusal what) refusal) k

pub done_is_told : DoneIsTold
done_is_told d m t y notes name whole ws rest w acts bytes k = own_told d Done name (take y.most (moved_bytes notes m y.first y.qtds)) whole ws (w ∷ rest) refl (acts, bytes) k

pub halt_is_told : HaltIsTold
halt_is_told d m t y cause notes name whole ws rest w begins k = own_told d (Halt cause) name (take y.most (moved_bytes notes m y.first y.qtds)) whole ws (w ∷ rest) refl begins k

pub refusal_stays : RefusalStays
refusal_stays d n other name why whole ws left k =
    subst (λ (store : List ℕ). AreToldTo (refused_line d n other why).reports store name whole ws left) (append-nil d.store)
    (other_line_is_told d.reports d.store [] name whole ws left (record { name = other; what = Refused n why; from = length d.store; len = 0 }) (refused_by (is_same_name other name) true refl) k)

-- ---- requests behind a stalled one

abbrev pub one_if : Bool → ℕ
one_if b = cond b 1 0

-- how many windows it takes
abbrev pub count_in : ℕ → Option Transfer → ℕ
count_in e None = 0
count_in e (Some y) = one_if (waits_for e y)

pub count_first : (e : ℕ) (ys : List Transfer) (k n : ℕ) → count_by (waits_for e) (take (suc n) (drop k ys)) ≡ count_in e (slice_get ys k) + count_by (waits_for e) (take n (drop (suc k) ys))
count_first e [] zero zero = refl
count_first e [] zero (suc n) = refl
count_first e [] (suc k) zero = refl
count_first e [] (suc k) (suc n) = refl
count_first e (y ∷ ys) zero n = sum_by-cons (λ z. cond (waits_for e z) 1 0) y (take n ys)
count_first e (y ∷ ys) (suc k) n = count_first e ys k n

drop_more : (i k : ℕ) (ws : List Window) → drop k (drop i ws) ≡ drop (i + k) ws
drop_more zero k ws = let e : k ≡ 0 + k = omega arith in ap (λ (n : ℕ). drop n ws) e
drop_more (suc i) k [] = drop-nil k ∙ sym (drop-nil (suc i + k))
drop_more (suc i) k (w ∷ ws) = let e : suc (i + k) ≡ suc i + k = omega arith in drop_more i k ws ∙ ap (λ (n : ℕ). drop n (w ∷ ws)) e

fewer : (i k : ℕ) (ws : List Window) → i + k ≤ length ws → k ≤ length (drop i ws)
fewer zero k ws low = omega (arith, low)
fewer (suc i) k [] low = absurd (omega (arith, low))
fewer (suc i) k (w ∷ ws) low = fewer i k ws (omega (arith, low))

waiting_drop : (name : EpName) (d : DriverContent) (k : ℕ) (y : Transfer) (b : Bool)
    → drop (suc k)
    (if b then
    record (reported d (Halt Stall) name []) {
      transfers = set d.transfers k (record y { reported = true });
      harvested = d.harvested ++ k ∷ [];
    }
    else d).transfers ≡ drop (suc k) d.transfers
waiting_drop name d k y true = drop_set d.transfers k (record y { reported = true })
waiting_drop name d k y false = refl

pub one_drop : (e : ℕ) (name : EpName) (d : DriverContent) (k : ℕ) (o : Option Transfer) → drop (suc k) (behind_one d e name k o).transfers ≡ drop (suc k) d.transfers
one_drop e name d k None = refl
one_drop e name d k (Some y) = waiting_drop name d k y (waits_for e y)

module _ (e : ℕ) (name : EpName) (whole : Request → List ℕ) (ws : List Window) where
  stall_told : (d : DriverContent) (left : List Window) → 1 ≤ length left → RequestsAreToldTo d name whole ws left → RequestsAreToldTo (reported d (Halt Stall) name []) name whole ws (drop 1 left)
  stall_told d [] low k = absurd (omega (arith, low))
  stall_told d (w ∷ rest) low k = own_told d (Halt Stall) name [] whole ws (w ∷ rest) refl (whole w.request, refl) k

  waiting_told : (d : DriverContent) (k : ℕ) (y : Transfer) (b : Bool) (left : List Window) → one_if b ≤ length left → RequestsAreToldTo d name whole ws left
      → RequestsAreToldTo
      (if b then
      record (reported d (Halt Stall) name []) {
        transfers = set d.transfers k (record y { reported = true });
        harvested = d.harvested ++ k ∷ [];
      }
      else d) name whole ws (drop (one_if b) left)
  waiting_told d k y true left low told = stall_told d left low told
  waiting_told d k y false left low told = told

  one_told : (d : DriverContent) (k : ℕ) (o : Option Transfer) (left : List Window) → count_in e o ≤ length left → RequestsAreToldTo d name whole ws left → RequestsAreToldTo (behind_one d e name k o) name whole ws (drop (count_in e o) left)
  one_told d k None left low told = told
  one_told d k (Some y) left low told = waiting_told d k y (waits_for e y) left low told

  pub behind_told : (d : DriverContent) (k n : ℕ) (left : List Window) → count_by (waits_for e) (take n (drop k d.transfers)) ≤ length left → RequestsAreToldTo d name whole ws left
      → RequestsAreToldTo (behind d e name k n) name whole ws (drop (count_by (waits_for e) (take n (drop k d.transfers))) left)
  unfolding behind
  behind_told d k zero left low told = told
  behind_told d k (suc n) left low told =
      subst (λ (i : ℕ). RequestsAreToldTo (behind next e name (suc k) n) name whole ws (drop i left)) (sym sum)
      (subst (RequestsAreToldTo (behind next e name (suc k) n) name whole ws) (drop_more first rest left)
      (subst (λ (i : ℕ). RequestsAreToldTo (behind next e name (suc k) n) name whole ws (drop i (drop first left))) rest_same
      (behind_told next (suc k) n (drop first left) (fewer first now left (omega (arith, low, sum, rest_same)))
      (one_told d k (slice_get d.transfers k) left (omega (arith, low, sum)) told))))
    where
      next : DriverContent
      next = behind_one d e name k (slice_get d.transfers k)

      first : ℕ
      first = count_in e (slice_get d.transfers k)

      rest : ℕ
      rest = count_by (waits_for e) (take n (drop (suc k) d.transfers))

      now : ℕ
      now = count_by (waits_for e) (take n (drop (suc k) next.transfers))

      sum : count_by (waits_for e) (take (suc n) (drop k d.transfers)) ≡ first + rest
      sum = count_first e d.transfers k n

      rest_same : now ≡ rest
      rest_same = ap (λ (ys : List Transfer). count_by (waits_for e) (take n ys)) (one_drop e name d k (slice_get d.transfers k))

pub behind_are_told : BehindAreTold
behind_are_told d e k n name whole ws left low told = behind_told e name whole ws d k n left low told

none_taken : (n : ℕ) → take {A = Transfer} n [] ≡ []
none_taken zero = refl
none_taken (suc n) = refl

pub dropped_all : (i : ℕ) (ys : List Transfer) → take (length ys - i) (drop i ys) ≡ drop i ys
dropped_all zero ys = take_all (length ys - 0) ys (omega arith)
dropped_all (suc i) [] = none_taken (0 - suc i)
dropped_all (suc i) (y ∷ ys) = let e : length (y ∷ ys) - suc i ≡ length ys - i = omega arith in ap (λ (n : ℕ). take n (drop i ys)) e ∙ dropped_all i ys

pub stalled_are_told : StalledAreTold
stalled_are_told d e t x whole ws left low told =
    subst (λ (ys : List Transfer). RequestsAreToldTo (stalled d e t x) x.desc.name whole ws (drop (count_by (waits_for e) ys) left)) same
    (behind_told e x.desc.name whole ws
    (record d {
      harvested = d.harvested ++ t ∷ [];
      endpoints = set d.endpoints e (record x { next = None });
      mends = d.mends ++ mends_of x;
    })
    (suc t) (length d.transfers - suc t) left (subst (λ (ys : List Transfer). count_by (waits_for e) ys ≤ length left) (sym same) low) told)
  where
    same : take (length d.transfers - suc t) (drop (suc t) d.transfers) ≡ drop (suc t) d.transfers
    same = dropped_all (suc t) d.transfers

-- ---- of another endpoint

module _ (e : ℕ) (other name : EpName) (whole : Request → List ℕ) (ws left : List Window) (unlike : is_same_name other name ≡ false) where
  other_waiting : (d : DriverContent) (k : ℕ) (y : Transfer) (b : Bool) → RequestsAreToldTo d name whole ws left
      → RequestsAreToldTo
      (if b then
      record (reported d (Halt Stall) other []) {
        transfers = set d.transfers k (record y { reported = true });
        harvested = d.harvested ++ k ∷ [];
      }
      else d) name whole ws left
  other_waiting d k y true told = others_stay d (Halt Stall) other name [] whole ws left (inl unlike) told
  other_waiting d k y false told = told

  other_one : (d : DriverContent) (k : ℕ) (o : Option Transfer) → RequestsAreToldTo d name whole ws left → RequestsAreToldTo (behind_one d e other k o) name whole ws left
  other_one d k None told = told
  other_one d k (Some y) told = other_waiting d k y (waits_for e y) told

  pub other_behind : (d : DriverContent) (k n : ℕ) → RequestsAreToldTo d name whole ws left → RequestsAreToldTo (behind d e other k n) name whole ws left
  unfolding behind
  other_behind d k zero told = told
  other_behind d k (suc n) told = other_behind (behind_one d e other k (slice_get d.transfers k)) (suc k) n (other_one d k (slice_get d.transfers k) told)

pub others_behind_stay : OthersBehindStay
others_behind_stay d e k n other name whole ws left unlike told = other_behind e other name whole ws left unlike d k n told
